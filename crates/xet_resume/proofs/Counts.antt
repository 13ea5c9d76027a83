-- How many bytes a call marks, and how many the file took.
use Rattle.std.proofs.Common.{◌≡◌, ◌⊎◌, ℕ, ◌+◌, ◌-◌, ◌<◌, ◌≤◌, max, min, Bool, true, false, cond, List, [], ◌∷◌, ◌++◌, length, Option, None}
use Rattle.std.proofs.Common.{Some, Ok, Err, Result, refl, sym, ap, subst, ◌∙◌, inl, inr, ⊎_elim, arith, nat_lt, sum_by, take, length-append}
use Rattle.std.proofs.lemmas.Bool.{ltb-false, ltb-true}
use Rattle.std.proofs.lemmas.List.Sums.{sum_by-append, sum_by-cons}
use Rattle.xet_base.specs.declared.cas_types.FileRange.{FileRange}
use Rattle.xet_base.specs.declared.merklehash.MerkleHash.{MerkleHash}
use Rattle.xet_base.specs.Store.{Store, bytes_of, window}
use Rattle.xet_base.proofs.CallerLemmas.{window_length}
use Rattle.xet_outside.specs.Told.{Rose, SinkTold, Took}
use Rattle.xet_outside.proofs.CallerLemmas.{added_none, took_both}
use Rattle.xet_error.specs.declared.error.FileReconstructionError.{FileReconstructionError}
use Rattle.xet_error.specs.declared.error.FileReconstructionError.TheVariants as error
use Rattle.xet_terms.specs.declared.reconstruction_config.ReconstructionConfig.{ReconstructionConfig}
use Rattle.xet_ties.specs.Setup.{CacheTells, IsOver, RunTold}
use Rattle.xet_gaps.specs.Gaps.{AreGaps, missing_bytes, parts_of, some_range}
use Rattle.xet_resume.specs.declared.resume_error.ResumeError.{ResumeError}
use Rattle.xet_resume.specs.declared.resume_error.ResumeError.TheVariants as resume_error
use Rattle.xet_resume.specs.Fetches.{CountsAll, TookCount}
use Rattle.xet_resume.specs.Fills.{EndsBy, Fills, IsUnplaced, MayTakeMore, PartEnds, PartRun, PartTook}
use Rattle.xet_resume.proofs.Chains.{ends_inside}
use Rattle.xet_resume.proofs.GoingOn.{goes_run, still_over}

abbrev range : ℕ → ℕ → FileRange
range a b = record { start = a; end = b }

-- ---- bytes of gaps

-- there are no more than lie between the first place and the end
pub bytes_within : (low end : ℕ) (gs : List FileRange) → AreGaps low end gs → missing_bytes gs ≤ end - low
bytes_within low end [] a = (let z : missing_bytes [] ≡ 0 = refl in omega (arith, z))
bytes_within low end (g ∷ gs) a =
    let first : low ≤ g.start = a.0 in
    let some : g.start < g.end = a.1 in
    let last : g.end ≤ end = a.2 in
    let rest = bytes_within (g.end + 1) end gs a.3 in
    let sum = sum_by-cons (λ (g : FileRange). g.end - g.start) g gs in
    omega (arith, first, some, last, rest, sum)

-- gaps up to an end are gaps up to a later one
pub later_end : (low most end : ℕ) (gs : List FileRange) → most ≤ end → AreGaps low most gs → AreGaps low end gs
later_end low most end [] h a = tt
later_end low most end (g ∷ gs) h a =
    let last : g.end ≤ most = a.2 in
    (a.0, a.1, omega (arith, last, h), later_end (g.end + 1) most end gs h a.3)

-- the bytes of a part below a place, and of parts
abbrev pub below : ℕ → FileRange → ℕ
below m p = min p.end m - p.start

abbrev pub below_all : ℕ → List FileRange → ℕ
below_all m ps = sum_by (below m) ps

-- parts up to a place are parts cut there
one_cut : (a b m : ℕ) → below_all m (some_range a b) ≡ min b m - a
one_cut a b m = by (nat_lt a b) refl
  where
    by : (v : Bool) → nat_lt a b ≡ v → below_all m (cond v (range a b ∷ []) []) ≡ min b m - a
    by true e =
        let s = sum_by-cons (below m) (range a b) [] in
        let z : sum_by (below m) [] ≡ 0 = refl in
        omega (arith, s, z)
    by false e = let h = ltb-false a b e in let z : sum_by (below m) [] ≡ 0 = refl in omega (arith, h, z)

one_range : (a b : ℕ) → missing_bytes (some_range a b) ≡ b - a
one_range a b = by (nat_lt a b) refl
  where
    by : (v : Bool) → nat_lt a b ≡ v → missing_bytes (cond v (range a b ∷ []) []) ≡ b - a
    by true e =
        let s = sum_by-cons (λ (g : FileRange). g.end - g.start) (range a b) [] in
        let z : missing_bytes [] ≡ 0 = refl in
        omega (arith, s, z)
    by false e = let h = ltb-false a b e in let z : missing_bytes [] ≡ 0 = refl in omega (arith, h, z)

pub cut_parts : (gs : List FileRange) (r : FileRange) (m : ℕ) → m ≤ r.end
    → missing_bytes (parts_of gs (range r.start m)) ≡ below_all m (parts_of gs r)
cut_parts [] r m h = refl
cut_parts (g ∷ gs) r m h =
    let a = sum_by-append (λ (g : FileRange). g.end - g.start) (some_range (max g.start r.start) (min g.end m))
    (parts_of gs (range r.start m)) in
    let b = sum_by-append (below m) (some_range (max g.start r.start) (min g.end r.end)) (parts_of gs r) in
    let c = one_range (max g.start r.start) (min g.end m) in
    let d = one_cut (max g.start r.start) (min g.end r.end) m in
    let e = cut_parts gs r m h in
    let f : min g.end m ≡ min (min g.end r.end) m = omega (arith, h) in
    omega (arith, a, b, c, d, e, f)

-- parts behind a place have none below it
none_under : (low end m : ℕ) (ps : List FileRange) → AreGaps low end ps → m ≤ low → below_all m ps ≡ 0
none_under low end m [] a h = refl
none_under low end m (p ∷ ps) a h =
    let first : low ≤ p.start = a.0 in
    let some : p.start < p.end = a.1 in
    let rest = none_under (p.end + 1) end m ps a.3 (omega (arith, h, first, some)) in
    let sum = sum_by-cons (below m) p ps in
    omega (arith, first, h, rest, sum)

-- ---- how far a call reads

module _ (config : ReconstructionConfig) (file : MerkleHash) where
  pub reach_high : (low end : ℕ) (ps : List FileRange) (b n : RunTold) (reached : ℕ) (stop : Option ResumeError)
      → AreGaps low end ps → Fills config file ps end b n reached stop → reached ≤ end
  reach_high low end [] b n reached None a f = let z = f.1 in omega (arith, z)
  reach_high low end [] b n reached (Some e) a f = absurd f
  reach_high low end (p ∷ ps) b n reached stop a (inl d) = reach_high (p.end + 1) end ps d.0 n reached stop a.3 d.2
  reach_high low end (p ∷ ps) b n reached stop a (inr x) =
      let some : p.start < p.end = a.1 in
      let last : p.end ≤ end = a.2 in
      let inside = ends_inside config file p b n x.2 x.0 (omega (arith, some)) x.4 in
      let at = x.3 in
      omega (arith, last, inside, at)

  pub reach_low : (low end m : ℕ) (ps : List FileRange) (b n : RunTold) (reached : ℕ) (stop : Option ResumeError)
      → AreGaps low end ps → m ≤ low → m ≤ end → Fills config file ps end b n reached stop → m ≤ reached
  reach_low low end m [] b n reached None a h k f = let z = f.1 in omega (arith, k, z)
  reach_low low end m [] b n reached (Some e) a h k f = absurd f
  reach_low low end m (p ∷ ps) b n reached stop a h k (inl d) =
      let first : low ≤ p.start = a.0 in
      let some : p.start < p.end = a.1 in
      let more = reach_low (p.end + 1) end p.end ps d.0 n reached stop a.3 (omega arith) a.2 d.2 in
      omega (arith, h, first, some, more)
  reach_low low end m (p ∷ ps) b n reached stop a h k (inr x) =
      let first : low ≤ p.start = a.0 in
      let at = x.3 in
      omega (arith, h, first, at)

  -- on Ok to the end
  pub reach_end : (end : ℕ) (ps : List FileRange) (b n : RunTold) (reached : ℕ)
      → Fills config file ps end b n reached None → reached ≡ end
  reach_end end [] b n reached f = f.1
  reach_end end (p ∷ ps) b n reached (inl d) = reach_end end ps d.0 n reached d.2
  reach_end end (p ∷ ps) b n reached (inr x) = absurd (let z : None ≡ Some x.0 = x.1 in cc)

  -- ---- what the file took

  took_of : (p : FileRange) (b n : SinkTold) (count : ℕ) (answer : Result ℕ FileReconstructionError)
      → PartTook p b n count answer → (MayTakeMore answer → ⊥) → TookCount b n count
  took_of p b n count answer t surely =
      (t.taken, t.took, ⊎_elim (λ (e : count ≡ length t.taken). sym e) (λ (m : MayTakeMore answer). absurd (surely m)) t.all)

  -- an error that counts all
  all_but : (e : FileReconstructionError) → (e ≡ error.OutOfMemory → ⊥) → (e ≡ error.IoError → ⊥)
      → MayTakeMore (Err e) → ⊥
  all_but error.OutOfMemory f g m = f refl
  all_but error.IoError f g m = g refl
  all_but error.ClientError f g m = m
  all_but error.FileNotFound f g m = m
  all_but error.UrlExpired f g m = m
  all_but (error.CorruptedReconstruction k) f g m = m
  all_but (error.ConfigurationError s) f g m = m
  all_but error.Cancelled f g m = m
  all_but (error.InternalWriterError w) f g m = m

  end_took : (p : FileRange) (b n : RunTold) (count : ℕ) (e : ResumeError) → CountsAll (Some e)
      → PartEnds config file p b n count e → TookCount b.sink n.sink count
  end_took p b n count resume_error.OutOfMemory c x = absurd c
  end_took p b n count (resume_error.Run e) c x = by x.1
    where
      by : EndsBy config file p b n count e → TookCount b.sink n.sink count
      by (inl r) = took_of p b.sink n.sink count (Err e) r.took (all_but e x.0 c)
      by (inr u) = absurd (⊎_elim
          (λ (h : (e ≡ error.OutOfMemory) × (u.0.sink.faults ≡ b.sink.faults)). x.0 h.0)
          (λ (h : (e ≡ error.IoError) × Rose b.sink.faults u.0.sink.faults). c h.0) u.0.is)
  end_took p b n count (resume_error.Short expected actual) c x =
      took_of p b.sink n.sink count (Ok actual) x.3.took (λ m. m)

  both_took : (b m n : SinkTold) (i j k : ℕ) → i + j ≡ k → TookCount b m i → TookCount m n j → TookCount b n k
  both_took b m n i j k e f g =
      let l = length-append f.0 g.0 in
      let x = f.2 in
      let y = g.2 in
      (f.0 ++ g.0, took_both b.took m.took n.took f.0 g.0 f.1 g.1, omega (arith, l, x, y, e))

  none_took : (b n : SinkTold) → n.took ≡ b.took → TookCount b n 0
  none_took b n e = ([], added_none b.took n.took e, refl)

  pub fill_took : (low end : ℕ) (ps : List FileRange) (b n : RunTold) (reached : ℕ) (stop : Option ResumeError)
      → AreGaps low end ps → CountsAll stop → Fills config file ps end b n reached stop
      → TookCount b.sink n.sink (below_all reached ps)
  fill_took low end [] b n reached None a c f = none_took b.sink n.sink (ap (λ (t : RunTold). t.sink.took) f.0)
  fill_took low end [] b n reached (Some e) a c f = absurd f
  fill_took low end (p ∷ ps) b n reached stop a c (inl d) =
      let some : p.start < p.end = a.1 in
      let last : p.end ≤ end = a.2 in
      let reach = reach_low (p.end + 1) end p.end ps d.0 n reached stop a.3 (omega arith) last d.2 in
      let sum = sum_by-cons (below reached) p ps in
      both_took b.sink d.0.sink n.sink (p.end - p.start) (below_all reached ps) (below_all reached (p ∷ ps))
      (omega (arith, sum, reach, some))
      (took_of p b.sink d.0.sink (p.end - p.start) (Ok (p.end - p.start)) d.1.took (λ m. m))
      (fill_took (p.end + 1) end ps d.0 n reached stop a.3 c d.2)
  fill_took low end (p ∷ ps) b n reached stop a c (inr x) =
      let some : p.start < p.end = a.1 in
      let inside = ends_inside config file p b n x.2 x.0 (omega (arith, some)) x.4 in
      let at = x.3 in
      let rest = none_under (p.end + 1) end reached ps a.3 (omega (arith, inside, at)) in
      let sum = sum_by-cons (below reached) p ps in
      let count : x.2 ≡ below_all reached (p ∷ ps) = omega (arith, inside, at, rest, sum) in
      subst (λ (k : ℕ). TookCount b.sink n.sink k) count
      (end_took p b n x.2 x.0 (subst CountsAll x.1 c) x.4)

  -- ---- a short part

  -- it is cut at the end of a file that is shorter than its parts
  short_run : (s : Store) (p : FileRange) (b n : RunTold) (count actual : ℕ) → IsOver s b.clients
      → CacheTells s b.cache → p.start < p.end → p.end ≤ length (bytes_of s file)
      → PartRun config file p b n count (Ok actual) → actual ≡ p.end - p.start
  short_run s p b n count actual over cache some inside r =
      let e = (r.legal.exact.exact s over cache).total in
      let w = window_length s file p in
      omega (arith, e, w, some, inside)

  pub fill_short : (s : Store) (low most end : ℕ) (ps : List FileRange) (b n : RunTold) (reached expected actual : ℕ)
      → IsOver s b.clients → CacheTells s b.cache → AreGaps low most ps → most ≤ length (bytes_of s file)
      → Fills config file ps end b n reached (Some (resume_error.Short expected actual)) → ⊥
  fill_short s low most end [] b n reached expected actual over cache a long f = absurd f
  fill_short s low most end (p ∷ ps) b n reached expected actual over cache a long (inl d) =
      let goes = goes_run config file p b d.0 (p.end - p.start) (Ok (p.end - p.start)) d.1 in
      fill_short s (p.end + 1) most end ps d.0 n reached expected actual
      (still_over s b.clients d.0.clients goes.goes_on over) (goes.cache_later s over cache) a.3 long d.2
  fill_short s low most end (p ∷ ps) b n reached expected actual over cache a long (inr x) =
      let last : p.end ≤ most = a.2 in
      let is : x.0 ≡ resume_error.Short expected actual =
      (let z : Some (resume_error.Short expected actual) ≡ Some x.0 = x.1 in let w : resume_error.Short expected actual ≡ x.0 = cc in sym w) in
      let y = subst (λ (e : ResumeError). PartEnds config file p b n x.2 e) is x.4 in
      y.1 (short_run s p b n x.2 actual over cache a.1 (omega (arith, last, long)) y.3 ∙ sym y.0)
