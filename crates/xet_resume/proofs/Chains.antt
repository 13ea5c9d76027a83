-- Parts that were read one after another.
use Rattle.std.proofs.Common.{◌≡◌, ◌⊎◌, ℕ, zero, suc, ◌+◌, ◌-◌, ◌<◌, ◌≤◌, max, min, Bool, cond, Ok, List, [], ◌∷◌, ◌++◌, length, take, get_or, Option, None, Some}
use Rattle.std.proofs.Common.{refl, sym, ap, subst, ◌∙◌, inl, inr, ⊎_elim, arith, append-nil}
use Rattle.std.specs.List.{AllByRecursion, flat_map}
use Rattle.std.proofs.lemmas.Bool.{lt-ltb}
use Rattle.xet_base.specs.declared.cas_types.FileRange.{FileRange}
use Rattle.xet_base.specs.declared.merklehash.MerkleHash.{MerkleHash}
use Rattle.xet_error.specs.declared.error.FileReconstructionError.{FileReconstructionError}
use Rattle.xet_error.specs.declared.error.FileReconstructionError.TheVariants as error
use Rattle.xet_terms.specs.declared.reconstruction_config.ReconstructionConfig.{ReconstructionConfig}
use Rattle.xet_ties.specs.Setup.{RunTold}
use Rattle.xet_gaps.specs.Gaps.{AreGaps, Touches, parts_of, some_range}
use Rattle.xet_resume.specs.declared.resume_error.ResumeError.{ResumeError}
use Rattle.xet_resume.specs.declared.resume_error.ResumeError.TheVariants as resume_error
use Rattle.xet_resume.specs.Fetches.{GoesOn}
use Rattle.xet_resume.specs.Fills.{EndsBy, Fills, PartDone, PartEnds}
use Rattle.xet_resume.specs.steps.Filling.{AllDone, common}
use Rattle.xet_resume.proofs.GoingOn.{goes_both, goes_run, goes_start}

-- no part is read past its end
by_inside : (config : ReconstructionConfig) (file : MerkleHash) (p : FileRange) (b n : RunTold) (count : ℕ)
    (e : FileReconstructionError) → p.start ≤ p.end → EndsBy config file p b n count e → p.start + count ≤ p.end
by_inside config file p b n count e h (inl r) = r.took.within
by_inside config file p b n count e h (inr u) = let z = u.1 in omega (arith, h, z)

pub ends_inside : (config : ReconstructionConfig) (file : MerkleHash) (p : FileRange) (b n : RunTold) (count : ℕ)
    (e : ResumeError) → p.start ≤ p.end → PartEnds config file p b n count e → p.start + count ≤ p.end
ends_inside config file p b n count resume_error.OutOfMemory h x =
    by_inside config file p b n count error.OutOfMemory h x
ends_inside config file p b n count (resume_error.Run e) h x = by_inside config file p b n count e h x.1
ends_inside config file p b n count (resume_error.Short expected actual) h x = x.3.took.within

module _ (config : ReconstructionConfig) (file : MerkleHash) where
  -- one part more
  pub done_more : (ps : List FileRange) (p : FileRange) (b m n : RunTold) → AllDone config file ps b m
      → PartDone config file p m n → AllDone config file (ps ++ p ∷ []) b n
  done_more [] p b m n d e = (n, subst (λ (t : RunTold). PartDone config file p t n) d e, refl)
  done_more (q ∷ ps) p b m n d e = (d.0, d.1, done_more ps p d.0 m n d.2 e)

  -- what goes on through all of them
  pub done_goes : (ps : List FileRange) (b n : RunTold) → AllDone config file ps b n → GoesOn b n
  done_goes [] b n d = subst (λ (t : RunTold). GoesOn b t) (sym d) (goes_start b)
  done_goes (p ∷ ps) b n d =
      goes_both b d.0 n
      (goes_run config file p b d.0 (p.end - p.start) (Ok (p.end - p.start)) d.1)
      (done_goes ps d.0 n d.2)

  -- and others behind them
  pub done_then : (ps qs : List FileRange) (end reached : ℕ) (b m n : RunTold) (stop : Option ResumeError)
      → AllDone config file ps b m → Fills config file qs end m n reached stop
      → Fills config file (ps ++ qs) end b n reached stop
  done_then [] qs end reached b m n stop d f =
      subst (λ (t : RunTold). Fills config file qs end t n reached stop) d f
  done_then (p ∷ ps) qs end reached b m n stop d f =
      inl (d.0, d.1, done_then ps qs end reached d.0 m n stop d.2 f)

  -- all were read
  pub all_filled : (ps : List FileRange) (end : ℕ) (b n : RunTold) → AllDone config file ps b n
      → Fills config file ps end b n end None
  all_filled [] end b n d = (d, refl)
  all_filled (p ∷ ps) end b n d = inl (d.0, d.1, all_filled ps end d.0 n d.2)

  -- up to one that ended the call
  pub ended_at : (ps qs : List FileRange) (p : FileRange) (end count : ℕ) (b m n : RunTold) (e : ResumeError)
      → AllDone config file ps b m → PartEnds config file p m n count e
      → Fills config file (ps ++ p ∷ qs) end b n (p.start + count) (Some e)
  ended_at ps qs p end count b m n e d x =
      done_then ps (p ∷ qs) end (p.start + count) b m n (Some e) d (inr (e, refl, count, refl, x))

-- ---- the parts of gaps

-- a touched gap has one part
pub one_part : (g r : FileRange) → Touches r g → some_range (max g.start r.start) (min g.end r.end) ≡ common g r ∷ []
one_part g r h =
    ap (λ (v : Bool). cond v (common g r ∷ []) []) (lt-ltb (max g.start r.start) (min g.end r.end) h)

-- the gap of a number touches, if all do
pub touch_at : (r : FileRange) (gs : List FileRange) (i : ℕ) (d : FileRange) → AllByRecursion (Touches r) gs
    → i < length gs → Touches r (get_or gs i d)
touch_at r [] i d h l = absurd (omega (arith, l))
touch_at r (g ∷ gs) zero d h l = h.0
touch_at r (g ∷ gs) (suc i) d h l = touch_at r gs i d h.1 (omega (arith, l))
