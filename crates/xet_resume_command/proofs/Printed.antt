-- What is printed of a store and of the text that lists it.
use Rattle.std.proofs.Common.{◌≡◌, ◌⊎◌, ℕ, ◌+◌, ◌-◌, ◌∷◌, ◌++◌, Bool, true, false, List, Option, None, Some, refl, sym, ap, subst, ◌∙◌, inl, inr, ⊎_elim, arith}
use Rattle.std.specs.Prelude.{IsSome, IsTrue}
use Rattle.xet_base.specs.Store.{Store, file_of}
use Rattle.xet_document.specs.Document.{HasStore, NoStore}
use Rattle.xet_outside.specs.Told.{SinkTold}
use Rattle.xet_gaps.specs.Gaps.{Gaps, missing_bytes}
use Rattle.xet_room.specs.declared.status.Status.{Status}
use Rattle.xet_room.specs.declared.status.Status.TheVariants.{BadStore, Done, NotFound, Short}
use Rattle.xet_room.specs.Inputs.{SomePrinted, TextPrinted}
use Rattle.xet_room.specs.Outcome.{Finished}
use Rattle.xet_room.specs.Texts.{line, ok_line, short_line}
use Rattle.xet_resume_command.specs.declared.wanted.ResumeWanted.{ResumeWanted}
use Rattle.xet_resume_command.specs.Resume.{Filled, ResumePrints, StorePrints, asks_some, resume_text, resumed}
use Rattle.xet_resume_command.specs.Words.{ranges_of}
use Rattle.xet_resume_command.specs.steps.Filling.{AsksNone, ContentIs, SomeDone}
use Rattle.xet_resume_command.specs.steps.Printing.{OnePrinted, filled_text}

module _ (w : ResumeWanted) (s : Store) (b n : SinkTold) (status : Status) where
  -- the file was filled
  pub filled_printed : (gaps : Gaps) (file : SinkTold) (content : List ℕ) (count : ℕ)
      → SomeDone s w (ranges_of w) gaps file count → ContentIs file content
      → OnePrinted (filled_text content gaps count) Done b n status → SomePrinted (StorePrints w s) b n status
  filled_printed gaps file content count d c (inr h) = inr h
  filled_printed gaps file content count d c (inl h) =
      inl (
        Done,
        filled_text content gaps count,
        record {
          found = λ some. ⊎_elim (λ (z : IsSome (file_of s w.file)). z) (none some) d.stored;
          filled = d.filled;
          filled_is = d.filled_is;
          whole_is = text;
        },
        h,
      )
    where
      none : IsTrue (asks_some w) → (d.filled ≡ Rattle.xet_resume_command.specs.Resume.nothing_of w) × AsksNone w (ranges_of w)
          → IsSome (file_of s w.file)
      none some z = absurd (let x : true ≡ false = sym some ∙ z.1 in cc)

      same : content ≡ d.filled.content
      same = let z : ◌≡◌ {A = Option (List ℕ)} (Some content) (Some d.filled.content) = sym c ∙ d.content in cc

      number : count ≡ w.length - missing_bytes d.filled.gaps
      number = let z = d.counted in omega (arith, z)

      text : filled_text content gaps count ≡ resume_text w d.filled
      text =
          ap (λ (l : List ℕ). filled_text l gaps count) same
          ∙ ap (λ (g : Gaps). filled_text d.filled.content g count) d.gaps_are
          ∙ ap (λ (k : ℕ). filled_text d.filled.content (record { file = w.file; length_is = w.length; gaps = d.filled.gaps }) k) number

  -- a part is short
  pub short_printed : (actual : ℕ) → (resumed s w ≡ Rattle.std.proofs.Common.Err actual) × IsSome (file_of s w.file)
      → OnePrinted (short_line actual) (Short actual) b n status → SomePrinted (StorePrints w s) b n status
  short_printed actual x (inr h) = inr h
  short_printed actual x (inl h) =
      inl (Short actual, short_line actual, record { found = x.1; short = x.0; whole_is = refl }, h)

  -- the file is missing
  pub missing_printed : IsTrue (asks_some w) × Rattle.std.specs.Prelude.IsNone (file_of s w.file)
      → Finished (line NotFound) NotFound b n status → SomePrinted (StorePrints w s) b n status
  missing_printed x h = inl (NotFound, line NotFound, record { some = x.0; missing = x.1; whole_is = refl }, h)

module _ (w : ResumeWanted) (text : List ℕ) (b n : SinkTold) (status : Status) where
  -- the text lists this store
  pub listed_printed : (s : Store) → HasStore text s → SomePrinted (StorePrints w s) b n status
      → TextPrinted (ResumePrints w) text b n status
  listed_printed s has (inr h) = inr h
  listed_printed s has (inl h) = inl (h.0, h.1, by_status h.0 h.2, h.3)
    where
      by_status : (own : Status) → StorePrints w s own h.1 → ResumePrints w text own h.1
      by_status Done p = (s, has, p)
      by_status NotFound p = (s, has, p)
      by_status (Short k) p = (s, has, p)
      by_status _ p = absurd p

  -- it lists none
  pub unlisted_printed : NoStore text → Finished (line BadStore) BadStore b n status
      → TextPrinted (ResumePrints w) text b n status
  unlisted_printed none h = inl (BadStore, line BadStore, (none, refl), h)
