-- What a call says, by its parts.
use Rattle.std.proofs.Common.{◌≡◌, ◌⊎◌, ℕ, ◌+◌, ◌-◌, ◌<◌, ◌≤◌, ◌&&◌, max, min, Bool, cond, List, [], ◌∷◌, length, Option, None, Some, Ok, Err, Result}
use Rattle.std.proofs.Common.{IfErr, IfOk, IfSome, OnOk, refl, sym, ap, subst, ◌∙◌, inl, inr, ⊎_elim, arith}
use Rattle.std.proofs.lemmas.Bool.{and_parts, le-ltb}
use Rattle.xet_base.specs.declared.cas_types.FileRange.{FileRange}
use Rattle.xet_base.specs.declared.merklehash.MerkleHash.{MerkleHash}
use Rattle.xet_base.specs.Store.{Store, bytes_of}
use Rattle.xet_outside.specs.Places.{Placed, placed_of}
use Rattle.xet_outside.proofs.CallerLemmas.{added_none}
use Rattle.xet_error.specs.declared.error.FileReconstructionError.{FileReconstructionError}
use Rattle.xet_error.specs.declared.error.FileReconstructionError.TheVariants as error
use Rattle.xet_error.specs.declared.error.Setting.{Setting}
use Rattle.xet_terms.specs.declared.reconstruction_config.ReconstructionConfig.{ReconstructionConfig}
use Rattle.xet_ties.specs.Causes.{refused_setting}
use Rattle.xet_ties.specs.Setup.{CacheTells, IsOver, RunTold, setup_of}
use Rattle.std.specs.List.{flat_map}
use Rattle.xet_gaps.specs.Gaps.{AreGaps, Gaps, around, is_in, is_missing, less, missing_bytes, parts_of}
use Rattle.xet_gaps.proofs.CallerLemmas.{parts_are, parts_counted, parts_exact}
use Rattle.xet_resume.specs.declared.resume_error.ResumeError.{ResumeError}
use Rattle.xet_resume.specs.declared.resume_error.ResumeError.TheVariants as resume_error
use Rattle.xet_resume.specs.Fetches.{AskedNothing, CountsAll, FetchCall, FirstStarts, GoesOn, Marks, ShortTells, TookCount, stop_of}
use Rattle.xet_resume.specs.Fills.{EndsBy, Fills, PartEnds}
use Rattle.xet_resume.specs.Holding.{GapsHold, HoldTold}
use Rattle.xet_resume.proofs.AskedStarts.{filled_asked, none_asked}
use Rattle.xet_resume.proofs.Counts.{below_all, cut_parts, fill_short, fill_took, later_end, reach_end, reach_high}
use Rattle.xet_resume.proofs.GoingOn.{goes_both, goes_run, goes_start, goes_unplaced}
use Rattle.xet_resume.proofs.Held.{fill_placed, fill_steps, held_now, still_none}

abbrev range : ℕ → ℕ → FileRange
range a b = record { start = a; end = b }

-- ---- nothing was asked

-- a range without bytes takes nothing
none_less : (gs : List FileRange) (a : ℕ) → less gs (range a a) ≡ gs
none_less gs a = ap (λ (v : Bool). cond v (flat_map (around (range a a)) gs) gs) (le-ltb a a (omega arith))

module _ (config : ReconstructionConfig) (r : FileRange) (g : Gaps) (b : RunTold) where
  same_gaps : g ≡ record g { gaps = less g.gaps (range r.start r.start) }
  same_gaps = ap (λ (l : List FileRange). let h : Gaps = record g { gaps = l } in h) (sym (none_less g.gaps r.start))

  nothing_marked : (e : ResumeError) → (CountsAll (Some e) → TookCount b.sink b.sink (missing_bytes g.gaps - missing_bytes g.gaps))
      → Marks r r.start g g b.sink b.sink (Err e)
  nothing_marked e t = record { marked = same_gaps; whole = tt; counted = tt; all_taken = t }

  took_nothing : TookCount b.sink b.sink (missing_bytes g.gaps - missing_bytes g.gaps)
  took_nothing = (
    [],
    added_none b.sink.took b.sink.took refl,
    (let z : 0 ≡ missing_bytes g.gaps - missing_bytes g.gaps = omega arith in z),
  )

  -- memory for the record was refused
  pub no_room : refused_setting (setup_of g.file r config) b.clients ≡ None
      → FetchCall config r g g b b (Err resume_error.OutOfMemory)
  no_room met = record {
    settings = λ e h. absurd (let z : None ≡ Some e = sym met ∙ h in cc);
    reached = r.start;
    marks = nothing_marked resume_error.OutOfMemory (λ c. absurd c);
    fills = inr (inl (record { answered = refl; same = refl; none = refl }));
    holds = λ s over cache h. h;
    asked = none_asked g b.clients;
    short = tt;
    later = goes_start b;
  }

  -- a setting failed
  pub refused : (e : Setting) → refused_setting (setup_of g.file r config) b.clients ≡ Some e
      → FetchCall config r g g b b (Err (resume_error.Run (error.ConfigurationError e)))
  refused e h = record {
    settings = λ x k. (
      ap (λ (y : Setting). let z : Result ℕ ResumeError = Err (resume_error.Run (error.ConfigurationError y)) in z)
          (let z : Some e ≡ Some x = sym h ∙ k in let w : e ≡ x = cc in w),
      refl,
      refl,
    );
    reached = r.start;
    marks = nothing_marked (resume_error.Run (error.ConfigurationError e)) (λ _. took_nothing);
    fills = inr (inr (e, h, record { answered = refl; same = refl; none = refl }));
    holds = λ s over cache h. h;
    asked = none_asked g b.clients;
    short = tt;
    later = goes_start b;
  }

-- ---- parts were read

fill_goes : (config : ReconstructionConfig) (file : MerkleHash) (end : ℕ) (ps : List FileRange) (b n : RunTold)
    (reached : ℕ) (stop : Option ResumeError) → Fills config file ps end b n reached stop → GoesOn b n
fill_goes config file end [] b n reached None f = subst (λ (t : RunTold). GoesOn b t) (sym f.0) (goes_start b)
fill_goes config file end [] b n reached (Some e) f = absurd f
fill_goes config file end (p ∷ ps) b n reached stop (inl d) =
    goes_both b d.0 n (goes_run config file p b d.0 (p.end - p.start) (Ok (p.end - p.start)) d.1)
    (fill_goes config file end ps d.0 n reached stop d.2)
fill_goes config file end (p ∷ ps) b n reached stop (inr x) = by x.0 x.4
  where
    by_end : (e : FileReconstructionError) → EndsBy config file p b n x.2 e → GoesOn b n
    by_end e (inl r) = goes_run config file p b n x.2 (Err e) r
    by_end e (inr u) = goes_unplaced p b n e u.0

    by : (e : ResumeError) → PartEnds config file p b n x.2 e → GoesOn b n
    by resume_error.OutOfMemory y = by_end error.OutOfMemory y
    by (resume_error.Run e) y = by_end e y.1
    by (resume_error.Short expected actual) y = goes_run config file p b n x.2 (Ok actual) y.3

module _ (config : ReconstructionConfig) (r : FileRange) (g : Gaps) (b n : RunTold) (reached : ℕ)
    (answer : Result ℕ ResumeError) (are : AreGaps 0 g.length_is g.gaps)
    (f : Fills config g.file (parts_of g.gaps r) r.end b n reached (stop_of answer)) where
  abbrev after : Gaps
  after = record g { gaps = less g.gaps (range r.start reached) }

  abbrev parts : List FileRange
  parts = parts_of g.gaps r

  parts_gaps : AreGaps (max 0 r.start) (min g.length_is r.end) (parts_of g.gaps r)
  parts_gaps = parts_are r 0 g.length_is g.gaps are

  parts_end : AreGaps (max 0 r.start) r.end (parts_of g.gaps r)
  parts_end = later_end (max 0 r.start) (min g.length_is r.end) r.end (parts_of g.gaps r) (omega arith) parts_gaps

  high : reached ≤ r.end
  high = reach_high config g.file (max 0 r.start) r.end (parts_of g.gaps r) b n reached (stop_of answer) parts_end f

  -- ---- the record

  left : missing_bytes (less g.gaps (range r.start reached)) + below_all reached (parts_of g.gaps r)
      ≡ missing_bytes g.gaps
  left =
      ap (λ (k : ℕ). missing_bytes (less g.gaps (range r.start reached)) + k) (sym (cut_parts g.gaps r reached high))
      ∙ parts_counted g.gaps (range r.start reached)

  whole_of : (a : Result ℕ ResumeError) → answer ≡ a → OnOk a (less g.gaps (range r.start reached) ≡ less g.gaps r)
  whole_of (Ok k) e =
      let end =
      reach_end config g.file r.end (parts_of g.gaps r) b n reached
      (subst (λ (x : Result ℕ ResumeError). Fills config g.file (parts_of g.gaps r) r.end b n reached (stop_of x)) e f) in
      ap (λ (m : ℕ). less g.gaps (range r.start m)) end
  whole_of (Err x) e = tt

  counted_of : (a : Result ℕ ResumeError) → answer ≡ a → IfOk a (λ k. k ≡ missing_bytes (parts_of g.gaps r))
      → IfOk a (λ k. k + missing_bytes (less g.gaps (range r.start reached)) ≡ missing_bytes g.gaps)
  counted_of (Ok k) e h =
      let same : missing_bytes (less g.gaps (range r.start reached)) ≡ missing_bytes (less g.gaps r) =
      ap missing_bytes (whole_of (Ok k) e) in
      let all = parts_counted g.gaps r in
      omega (arith, h, same, all)
  counted_of (Err x) e h = tt

  marks_of : IfOk answer (λ k. k ≡ missing_bytes (parts_of g.gaps r)) → Marks r reached g after b.sink n.sink answer
  marks_of h = record {
    marked = refl;
    whole = whole_of answer refl;
    counted = counted_of answer refl h;
    all_taken = λ c.
        let l = left in
        let same : below_all reached (parts_of g.gaps r)
        ≡ missing_bytes g.gaps - missing_bytes (less g.gaps (range r.start reached)) = omega (arith, l) in
        subst (λ (k : ℕ). TookCount b.sink n.sink k) same
        (fill_took config g.file (max 0 r.start) r.end (parts_of g.gaps r) b n reached (stop_of answer) parts_end c f);
  }

  -- ---- the file

  holds_of : (s : Store) → IsOver s b.clients → CacheTells s b.cache → HoldTold g s b → HoldTold after s n
  holds_of s over cache h = by (placed_of b.sink) refl h
    where
      by : (o : Option Placed) → placed_of b.sink ≡ o → IfSome o (λ p. GapsHold g s p.content)
          → IfSome (placed_of n.sink) (λ p. GapsHold after s p.content)
      by None e k =
          subst (λ (o : Option Placed). IfSome o (λ p. GapsHold after s p.content))
          (sym (still_none (placed_of b.sink) (placed_of n.sink)
          (fill_placed config g.file r.end (parts_of g.gaps r) b n reached (stop_of answer) f) e)) tt
      by (Some q) e k =
          let steps =
          fill_steps s g.file config (max 0 r.start) (min g.length_is r.end) r.end (parts_of g.gaps r) b n reached
          (stop_of answer) q parts_gaps over cache e f in
          subst (λ (o : Option Placed). IfSome o (λ p. GapsHold after s p.content)) (sym steps.told)
          (held_now s g.file g r reached q steps.now high k refl steps.stay steps.come)

  -- ---- a short part

  short_of : (a : Result ℕ ResumeError) → answer ≡ a → IfErr a (ShortTells g b)
  short_of (Ok k) e = tt
  short_of (Err resume_error.OutOfMemory) e = tt
  short_of (Err (resume_error.Run x)) e = tt
  short_of (Err (resume_error.Short expected actual)) e = λ s over cache same.
      fill_short config g.file s (max 0 r.start) (min g.length_is r.end) r.end (parts_of g.gaps r) b n reached expected
      actual over cache parts_gaps (omega (arith, same))
      (subst (λ (x : Result ℕ ResumeError). Fills config g.file (parts_of g.gaps r) r.end b n reached (stop_of x)) e f)

  pub filled : refused_setting (setup_of g.file r config) b.clients ≡ None
      → IfOk answer (λ k. k ≡ missing_bytes (parts_of g.gaps r)) → FetchCall config r g after b n answer
  filled met h = record {
    settings = λ e k. absurd (let z : None ≡ Some e = sym met ∙ k in cc);
    reached = reached;
    marks = marks_of h;
    fills = inl f;
    holds = holds_of;
    asked = filled_asked g config r.end (parts_of g.gaps r) b n reached (stop_of answer)
        (λ i e. (and_parts (is_missing i g.gaps) (is_in i r) (sym (parts_exact g.gaps r i) ∙ e)).0) f;
    short = short_of answer refl;
    later = fill_goes config g.file r.end (parts_of g.gaps r) b n reached (stop_of answer) f;
  }

-- the same of the record that was taken out, and of the gaps that the range touches
pub called : (config : ReconstructionConfig) (r : FileRange) (g roomy new : Gaps) (b n : RunTold) (touched : List FileRange)
    (file : MerkleHash) (reached : ℕ) (answer : Result ℕ ResumeError) → roomy ≡ g → AreGaps 0 roomy.length_is roomy.gaps
    → file ≡ roomy.file → parts_of touched r ≡ parts_of roomy.gaps r
    → Fills config file (parts_of touched r) r.end b n reached (stop_of answer)
    → IfOk answer (λ k. k ≡ missing_bytes (parts_of touched r))
    → new ≡ record roomy { gaps = less roomy.gaps (range r.start reached) }
    → refused_setting (setup_of g.file r config) b.clients ≡ None → FetchCall config r g new b n answer
called config r g roomy new b n touched file reached answer e are same parts f h is met =
    subst (λ (z : Gaps). FetchCall config r z new b n answer) e
    (subst (λ (z : Gaps). FetchCall config r roomy z b n answer) (sym is)
    (filled config r roomy b n reached answer are
    (subst (λ (l : List FileRange). Fills config roomy.file l r.end b n reached (stop_of answer)) parts
    (subst (λ (x : MerkleHash). Fills config x (parts_of touched r) r.end b n reached (stop_of answer)) same f))
    met (subst (λ (l : List FileRange). IfOk answer (λ k. k ≡ missing_bytes l)) parts h)))
