-- Looking for due terms and for awaited blocks among the terms of a leader.
use Rattle.std.proofs.Common.{◌≡◌, ⊎_elim, ℕ, ◌+◌, ◌-◌, ◌≤◌, ◌<◌, Bool, true, false, List, sym, subst, ◌∙◌, ap, arith, Option, Some, None, Ok, Err}
use Rattle.std.specs.Prelude.{Result, slice_get}
use Rattle.std.proofs.lemmas.Bool.{cases_lt, ltb-true, lt-ltb}
use Rattle.xet_error.specs.declared.error.FileReconstructionError.{FileReconstructionError}
use Rattle.xet_blocks.specs.Extracts.{term_size}
use Rattle.xet_events.specs.declared.event.Event.{Event}
use Rattle.xet_events.specs.Events.{is_kept}
use Rattle.xet_leader.specs.declared.missing_blocks.BlockAt.{BlockAt}
use Rattle.xet_leader.specs.Led.{Led}
use Rattle.xet_leader.specs.LedTerms.{IsPieceIn, PlanTerm, TermRefused, ahead, kept_in, of_plan, some_in}
use Rattle.xet_unordered_streams.specs.declared.ahead_terms.AheadTerm.{AheadTerm}
use Rattle.xet_unordered_streams.specs.declared.due_terms.Due.{Due}
use Rattle.xet_unordered_streams.specs.steps.Dues.{DueCall, FirstDue, HintedDue, IsAwaited, IsDueAt, IsRefusedAt, IsTermAhead, IsWanted, NoneDue}
use Rattle.xet_unordered_streams.proofs.AheadTerms.{term_found}

-- ---- one term

-- none stands there
pub none_there : (l : Led) (early : ℕ → Bool) (from skip : ℕ) → slice_get (ahead l) skip ≡ None
    → DueCall l early from skip (Ok None)
none_there l early from skip none t w =
    absurd (let z : ◌≡◌ {A = Option PlanTerm} (Some t) None = sym w.there ∙ none in cc)

module _ (l : Led) (early : ℕ → Bool) (from skip : ℕ) (n : AheadTerm) (x : IsTermAhead l skip n) where
  -- it has no bytes
  pub empty_there : n.term.byte_range.end ≤ n.term.byte_range.start → DueCall l early from skip (Ok None)
  empty_there h t w =
      let s : some_in (of_plan x.plan n.term) ≡ true = ap some_in (sym (term_found l skip n x t w.there)) ∙ w.some in
      let z = ltb-true 0 (term_size n.term) s in
      absurd (omega (arith, z, h))

  module _ (number : ℕ) (is : number ≡ l.finished + skip) where
    -- it was given
    pub early_there : early number ≡ true → DueCall l early from skip (Ok None)
    early_there there t w = absurd (let z : false ≡ true = sym w.new ∙ ap early (sym is) ∙ there in cc)

    module _ (some : n.term.byte_range.start < n.term.byte_range.end) (new : early number ≡ false) where
      wanted_there : IsWanted l early skip (of_plan x.plan n.term)
      wanted_there = record {
        there = x.there;
        some = lt-ltb 0 (term_size n.term) (omega (arith, some));
        new = ap early (sym is) ∙ new;
      }

      pub due_there : (bytes : List ℕ) → IsPieceIn (of_plan x.plan n.term) bytes → (d : Due) → d.number ≡ number
          → d.place ≡ n.term.byte_range.start - from → d.bytes ≡ bytes → IsDueAt l early from skip d
      due_there bytes piece d number_is place_is bytes_is = record {
        term = of_plan x.plan n.term;
        wanted = wanted_there;
        bytes = subst (λ (b : List ℕ). IsPieceIn (of_plan x.plan n.term) b) (sym bytes_is) piece;
        numbered = number_is ∙ is;
        at = place_is;
      }

      pub unkept_now : kept_in (of_plan x.plan n.term) ≡ None → DueCall l early from skip (Ok None)
      unkept_now unkept t w = ap kept_in (term_found l skip n x t w.there) ∙ unkept

      pub refused_there : (e : FileReconstructionError) → TermRefused (of_plan x.plan n.term) e
          → IsRefusedAt l early skip e
      refused_there e refused = record { term = of_plan x.plan n.term; wanted = wanted_there; refused = refused }

-- ---- the admitted ones

pub none_so_far : (l : Led) (early : ℕ → Bool) (from skip : ℕ)
    → ((i : ℕ) → i < skip → (t : PlanTerm) → IsWanted l early i t → kept_in t ≡ None)
    → DueCall l early from skip (Ok None) → (i : ℕ) → i < skip + 1 → (t : PlanTerm) → IsWanted l early i t
    → kept_in t ≡ None
none_so_far l early from skip so now i h =
    ⊎_elim (λ (b : i < skip). so i b)
    (λ (b : skip ≤ i).
    let e : skip ≡ i = omega (arith, h, b) in
    subst (λ (j : ℕ). (t : PlanTerm) → IsWanted l early j t → kept_in t ≡ None) e now) (cases_lt i skip)

pub none_of_all : (l : Led) (early : ℕ → Bool) (count : ℕ) → count ≡ l.admitted - l.finished
    → ((i : ℕ) → i < count → (t : PlanTerm) → IsWanted l early i t → kept_in t ≡ None) → NoneDue l early
none_of_all l early count is so skip opens = so skip (omega (arith, is, opens))

pub due_first : (l : Led) (early : ℕ → Bool) (from skip : ℕ) (d : Due) → l.finished + skip < l.admitted
    → DueCall l early from skip (Ok (Some d)) → FirstDue l early from (Ok (Some d))
due_first l early from skip d opens c = record { skip = skip; opens = opens; due = c }

pub refused_first : (l : Led) (early : ℕ → Bool) (from skip : ℕ) (e : FileReconstructionError)
    → l.finished + skip < l.admitted → DueCall l early from skip (Err e) → FirstDue l early from (Err e)
refused_first l early from skip e opens c = record { skip = skip; opens = opens; refused = c }

pub due_hinted : (l : Led) (early : ℕ → Bool) (from skip : ℕ) (answer : Result (Option Due) FileReconstructionError)
    → l.finished + skip < l.admitted → DueCall l early from skip answer → HintedDue l early from answer
due_hinted l early from skip (Ok (Some d)) opens c = record { skip = skip; opens = opens; due = c }
due_hinted l early from skip (Ok None) opens c = tt
due_hinted l early from skip (Err e) opens c = record { skip = skip; opens = opens; refused = c }

-- ---- a block

pub awaited_there : (l : Led) (es : List Event) (skip : ℕ) (n : AheadTerm) (x : IsTermAhead l skip n) (b : BlockAt)
    → l.finished + skip < l.admitted → n.term.byte_range.start < n.term.byte_range.end → b.plan ≡ x.plan.number
    → b.block ≡ n.term.xorb_block → is_kept es b.plan b.block ≡ false → IsAwaited l es b
awaited_there l es skip n x b opens some plan_is block_is absent = record {
  skip = skip;
  term = of_plan x.plan n.term;
  opens = opens;
  there = x.there;
  some = lt-ltb 0 (term_size n.term) (omega (arith, some));
  plan_is = plan_is;
  block_is = block_is;
  absent = absent;
}
