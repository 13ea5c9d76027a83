-- The file holds what isn't missing.
use Rattle.std.proofs.Common.{◌≡◌, ◌⊎◌, ℕ, ◌+◌, ◌-◌, ◌<◌, ◌≤◌, ◌&&◌, ◌||◌, not, max, min, Bool, true, false, List, [], ◌∷◌, ◌++◌}
use Rattle.std.proofs.Common.{length, take, Option, None, Some, Ok, Err, Result, IfSome, IsSome, refl, sym, ap, subst, ◌∙◌, inl, inr}
use Rattle.std.proofs.Common.{⊎_elim, arith, option_and_then, option_map, slice_get, slice_range}
use Rattle.std.proofs.lemmas.Bool.{and_cases, and_from, cases_Bool, cases_lt, not-false, or_cases, both_ways}
use Rattle.std.proofs.lemmas.List.{append_cancel_left}
use Rattle.xet_base.specs.declared.cas_types.FileRange.{FileRange}
use Rattle.xet_base.specs.declared.merklehash.MerkleHash.{MerkleHash}
use Rattle.xet_base.specs.Store.{Store, bytes_of, window}
use Rattle.xet_outside.specs.Places.{Placed, at_place, placed_by, placed_of, place_set, put_at, written as put}
use Rattle.xet_outside.specs.Told.{PlaceSet, SinkTold, Took}
use Rattle.xet_error.specs.declared.error.FileReconstructionError.{FileReconstructionError}
use Rattle.xet_error.specs.declared.error.FileReconstructionError.TheVariants as error
use Rattle.xet_terms.specs.declared.reconstruction_config.ReconstructionConfig.{ReconstructionConfig}
use Rattle.xet_ties.specs.Setup.{CacheTells, IsOver, RunTold}
use Rattle.xet_reconstruct.specs.ToFile.{ready_at}
use Rattle.xet_gaps.specs.Gaps.{AreGaps, Gaps, IsGapRecord, is_in, is_missing, less, parts_of}
use Rattle.xet_gaps.proofs.CallerLemmas.{in_parts, is_inside, less_exact, less_gaps, none_below, parts_are, parts_exact}
use Rattle.xet_resume.specs.declared.resume_error.ResumeError.{ResumeError}
use Rattle.xet_resume.specs.declared.resume_error.ResumeError.TheVariants as resume_error
use Rattle.xet_resume.specs.Fills.{EndsBy, Fills, IsUnplaced, PartEnds, PartRun}
use Rattle.xet_resume.specs.Holding.{GapsHold, HoldTold}
use Rattle.xet_resume.proofs.Chains.{ends_inside}
use Rattle.xet_resume.proofs.Contents.{got_within, part_get, put_inside, put_outside}
use Rattle.xet_resume.proofs.GoingOn.{goes_run, still_over}

abbrev range : ℕ → ℕ → FileRange
range a b = record { start = a; end = b }

-- ---- what a sink tells

-- two lists that were both taken are one
took_same : (o p : Option (List ℕ)) (xs ys : List ℕ) → IsSome o → Took o p xs → Took o p ys → xs ≡ ys
took_same None p xs ys i a b = let z : false ≡ true = i in absurd (cc)
took_same (Some zs) p xs ys i a b =
    let e : ◌≡◌ {A = Option (List ℕ)} (Some (zs ++ xs)) (Some (zs ++ ys)) = sym a ∙ b in
    append_cancel_left zs xs ys (cc)

-- where a content is told, so are the taken bytes
placed_took : (t : SinkTold) (q : Placed) → placed_of t ≡ Some q → IsSome t.took
placed_took t q e = by (place_set t.link) t.took e
  where
    by : (o : Option PlaceSet) (p : Option (List ℕ)) → option_and_then (λ s. option_map (placed_by s) p) o ≡ Some q
        → IsSome p
    by None p e = absurd (cc)
    by (Some s) None e = absurd (cc)
    by (Some s) (Some xs) e = refl

-- the content and place are told by the taken bytes and the link
same_placed : (b n : SinkTold) → n.took ≡ b.took → n.link ≡ b.link → placed_of n ≡ placed_of b
same_placed b n t l =
    ap (λ (o : Option (List ℕ)). option_and_then (λ s. option_map (placed_by s) o) (place_set n.link)) t
    ∙ ap (λ k. option_and_then (λ s. option_map (placed_by s) b.took) (place_set k)) l

-- ---- a content is told afterwards exactly where it was told

abbrev pub Moved : Option Placed → Option Placed → Type 0
Moved o p = (f : Placed → Placed) × (p ≡ option_map f o)

moved_start : (o : Option Placed) → Moved o o
moved_start None = ((λ p. p), refl)
moved_start (Some q) = ((λ p. p), refl)

moved_both : (o p q : Option Placed) → Moved o p → Moved p q → Moved o q
moved_both o p q f g = ((λ x. g.0 (f.0 x)), g.1 ∙ ap (λ (r : Option Placed). option_map g.0 r) f.1 ∙ twice o)
  where
    twice : (r : Option Placed) → option_map g.0 (option_map f.0 r) ≡ option_map (λ x. g.0 (f.0 x)) r
    twice None = refl
    twice (Some x) = refl

moved_run : (config : ReconstructionConfig) (file : MerkleHash) (p : FileRange) (b n : RunTold) (count : ℕ)
    (answer : Result ℕ FileReconstructionError) → PartRun config file p b n count answer
    → Moved (placed_of b.sink) (placed_of n.sink)
moved_run config file p b n count answer r =
    ((λ q. put r.took.taken (ready_at false p.start q)), r.took.stands r.took.taken r.took.took)

moved_unplaced : (p : FileRange) (b n : RunTold) (x : FileReconstructionError) → IsUnplaced p b n x
    → Moved (placed_of b.sink) (placed_of n.sink)
moved_unplaced p b n x u =
    let e : placed_of n.sink ≡ placed_of b.sink =
    ap (λ (t : RunTold). placed_of t.sink) u.rest ∙ same_placed b.sink u.sink u.call.took u.call.kept in
    subst (λ (o : Option Placed). Moved (placed_of b.sink) o) (sym e) (moved_start (placed_of b.sink))

pub fill_placed : (config : ReconstructionConfig) (file : MerkleHash) (end : ℕ) (ps : List FileRange) (b n : RunTold)
    (reached : ℕ) (stop : Option ResumeError) → Fills config file ps end b n reached stop
    → Moved (placed_of b.sink) (placed_of n.sink)
fill_placed config file end [] b n reached None f =
    subst (λ (t : RunTold). Moved (placed_of b.sink) (placed_of t.sink)) (sym f.0) (moved_start (placed_of b.sink))
fill_placed config file end [] b n reached (Some x) f = absurd f
fill_placed config file end (p ∷ ps) b n reached stop (inl d) =
    moved_both (placed_of b.sink) (placed_of d.0.sink) (placed_of n.sink)
    (moved_run config file p b d.0 (p.end - p.start) (Ok (p.end - p.start)) d.1)
    (fill_placed config file end ps d.0 n reached stop d.2)
fill_placed config file end (p ∷ ps) b n reached stop (inr x) = by x.0 x.4
  where
    by_end : (y : FileReconstructionError) → EndsBy config file p b n x.2 y → Moved (placed_of b.sink) (placed_of n.sink)
    by_end y (inl r) = moved_run config file p b n x.2 (Err y) r
    by_end y (inr u) = moved_unplaced p b n y u.0

    by : (y : ResumeError) → PartEnds config file p b n x.2 y → Moved (placed_of b.sink) (placed_of n.sink)
    by resume_error.OutOfMemory z = by_end error.OutOfMemory z
    by (resume_error.Run y) z = by_end y z.1
    by (resume_error.Short expected actual) z = moved_run config file p b n x.2 (Ok actual) z.3

pub still_none : (o p : Option Placed) → Moved o p → o ≡ None → p ≡ None
still_none o p m e = m.1 ∙ ap (λ (r : Option Placed). option_map m.0 r) e

pub still_some : (o p : Option Placed) → Moved o p → IsSome o → IsSome p
still_some o p m i = subst (λ (r : Option Placed). IsSome r) (sym m.1) (by o i)
  where
    by : (r : Option Placed) → IsSome r → IsSome (option_map m.0 r)
    by None j = j
    by (Some q) j = refl

module _ (s : Store) (file : MerkleHash) where
  -- the content has the file's byte at a place
  abbrev pub Right : List ℕ → ℕ → Type 0
  Right content i = slice_get content i ≡ slice_get (bytes_of s file) i

  abbrev pub InFile : ℕ → Type 0
  InFile i = i < length (bytes_of s file)

  -- ---- one part

  -- what a step leaves: bytes that were right stay so, and those of a range come to be
  pub record Step (q : Placed) (n : RunTold) (from to : ℕ) : Type 0 where
    pub now : Placed
    pub told : placed_of n.sink ≡ Some now
    pub stay : (i : ℕ) → InFile i → Right q.content i → Right now.content i
    pub come : (i : ℕ) → InFile i → from ≤ i → i < to → Right now.content i

  -- taken bytes of the part's window are the file's, at their places
  part_right : (part : FileRange) (content taken : List ℕ) (k : ℕ) → taken ≡ take k (window s file part)
      → (i : ℕ) → part.start ≤ i → i < part.start + length taken → Right (put_at content part.start taken) i
  part_right part content taken k e i low high =
      let size = ap length e in
      let at : part.start + (i - part.start) ≡ i = omega (arith, low) in
      put_inside content part.start taken i low high
      ∙ ap (λ (l : List ℕ). slice_get l (i - part.start)) e
      ∙ part_get (bytes_of s file) part.start part.end k (i - part.start) (omega (arith, size, low, high))
      ∙ ap (λ (j : ℕ). slice_get (bytes_of s file) j) at

  part_stays : (part : FileRange) (content taken : List ℕ) (k : ℕ) → taken ≡ take k (window s file part)
      → (i : ℕ) → InFile i → Right content i → Right (put_at content part.start taken) i
  part_stays part content taken k e i inside r =
      let within = got_within content (bytes_of s file) i i inside r in
      ⊎_elim
      (λ (h : i < part.start). put_outside content part.start taken i within (inl h) ∙ r)
      (λ (low : part.start ≤ i). ⊎_elim
      (λ (high : i < part.start + length taken). part_right part content taken k e i low high)
      (λ (high : part.start + length taken ≤ i). put_outside content part.start taken i within (inr high) ∙ r)
      (cases_lt i (part.start + length taken)))
      (cases_lt i part.start)

  run_step : (config : ReconstructionConfig) (part : FileRange) (b n : RunTold) (count : ℕ)
      (answer : Result ℕ FileReconstructionError) (q : Placed) → IsOver s b.clients → CacheTells s b.cache
      → placed_of b.sink ≡ Some q → PartRun config file part b n count answer
      → Step q n part.start (part.start + count)
  run_step config part b n count answer q over cache told r =
      let t = r.took in
      let counted = t.counted in
      let prefix = r.legal.exact.prefix s over cache in
      let k = prefix.count in
      let is : t.taken ≡ take prefix.count (window s file part) =
      took_same b.sink.took n.sink.took t.taken (take prefix.count (window s file part)) (placed_took b.sink q told)
      t.took
      (subst (λ (o : Option (List ℕ)). Took o n.sink.took (take prefix.count (window s file part))) r.placed.took
      prefix.took) in
      record {
        now = put t.taken (ready_at false part.start q);
        told = t.stands t.taken t.took
            ∙ ap (λ (o : Option Placed). option_map (λ (p : Placed). put t.taken (ready_at false part.start p)) o) told;
        stay = λ i inside h. part_stays part q.content t.taken prefix.count is i inside h;
        come = λ i inside low high. part_right part q.content t.taken prefix.count is i low (omega (arith, high, counted));
      }

  -- the place couldn't be set
  unplaced_step : (part : FileRange) (b n : RunTold) (e : FileReconstructionError) (q : Placed) (from : ℕ)
      → placed_of b.sink ≡ Some q → IsUnplaced part b n e → Step q n from from
  unplaced_step part b n e q from told u =
      let sink : placed_of n.sink ≡ placed_of u.sink = ap (λ (t : RunTold). placed_of t.sink) u.rest in
      record {
        now = q;
        told = sink ∙ same_placed b.sink u.sink u.call.took u.call.kept ∙ told;
        stay = λ i inside h. h;
        come = λ i inside low high. absurd (omega (arith, low, high));
      }

  -- a part that ended the call
  by_step : (config : ReconstructionConfig) (part : FileRange) (b n : RunTold) (count : ℕ) (e : FileReconstructionError)
      (q : Placed) → IsOver s b.clients → CacheTells s b.cache → placed_of b.sink ≡ Some q
      → EndsBy config file part b n count e → Step q n part.start (part.start + count)
  by_step config part b n count e q over cache told (inl r) =
      run_step config part b n count (Err e) q over cache told r
  by_step config part b n count e q over cache told (inr u) =
      let at : part.start + count ≡ part.start = (let z = u.1 in omega (arith, z)) in
      subst (λ (m : ℕ). Step q n part.start m) (sym at) (unplaced_step part b n e q part.start told u.0)

  end_step : (config : ReconstructionConfig) (part : FileRange) (b n : RunTold) (count : ℕ) (e : ResumeError)
      (q : Placed) → IsOver s b.clients → CacheTells s b.cache → placed_of b.sink ≡ Some q
      → PartEnds config file part b n count e → Step q n part.start (part.start + count)
  end_step config part b n count resume_error.OutOfMemory q over cache told x =
      by_step config part b n count error.OutOfMemory q over cache told x
  end_step config part b n count (resume_error.Run e) q over cache told x =
      by_step config part b n count e q over cache told x.1
  end_step config part b n count (resume_error.Short expected actual) q over cache told x =
      run_step config part b n count (Ok actual) q over cache told x.3

  -- ---- all parts

  pub record Steps (q : Placed) (n : RunTold) (ps : List FileRange) (reached : ℕ) : Type 0 where
    pub now : Placed
    pub told : placed_of n.sink ≡ Some now
    pub stay : (i : ℕ) → InFile i → Right q.content i → Right now.content i
    pub come : (i : ℕ) → InFile i → is_missing i ps ≡ true → i < reached → Right now.content i

  -- a byte of a first part or of the others
  one_more : (p : FileRange) (ps : List FileRange) (i : ℕ) (G : Type 0) → is_missing i (p ∷ ps) ≡ true
      → (p.start ≤ i → i < p.end → G) → (is_missing i ps ≡ true → G) → G
  one_more p ps i G h f k =
      ⊎_elim (λ (e : is_in i p ≡ true). let b = in_parts i p e in f b.0 b.1) (λ (e : is_missing i ps ≡ true). k e)
      (or_cases (is_in i p) (is_missing i ps) h)

  pub fill_steps : (config : ReconstructionConfig) (low most end : ℕ) (ps : List FileRange) (b n : RunTold) (reached : ℕ)
      (stop : Option ResumeError) (q : Placed) → AreGaps low most ps → IsOver s b.clients → CacheTells s b.cache
      → placed_of b.sink ≡ Some q → Fills config file ps end b n reached stop → Steps q n ps reached
  fill_steps config low most end [] b n reached None q a over cache told f = record {
    now = q;
    told = ap (λ (t : RunTold). placed_of t.sink) f.0 ∙ told;
    stay = λ i inside h. h;
    come = λ i inside h k. absurd (let z : false ≡ true = h in cc);
  }
  fill_steps config low most end [] b n reached (Some e) q a over cache told f = absurd f
  fill_steps config low most end (p ∷ ps) b n reached stop q a over cache told (inl d) =
      let m = d.0 in
      let some : p.start < p.end = a.1 in
      let one = run_step config p b d.0 (p.end - p.start) (Ok (p.end - p.start)) q over cache told d.1 in
      let goes = goes_run config file p b d.0 (p.end - p.start) (Ok (p.end - p.start)) d.1 in
      let rest =
      fill_steps config (p.end + 1) most end ps d.0 n reached stop one.now a.3
      (still_over s b.clients d.0.clients goes.goes_on over) (goes.cache_later s over cache) one.told d.2 in
      record {
        now = rest.now;
        told = rest.told;
        stay = λ i inside h. rest.stay i inside (one.stay i inside h);
        come = λ i inside h k. one_more p ps i (Right rest.now.content i) h
            (λ l u. rest.stay i inside (one.come i inside l (omega (arith, some, u))))
            (λ e. rest.come i inside e k);
      }
  fill_steps config low most end (p ∷ ps) b n reached stop q a over cache told (inr x) =
      let at = x.3 in
      let some : p.start < p.end = a.1 in
      let within = ends_inside config file p b n x.2 x.0 (omega (arith, some)) x.4 in
      let one = end_step config p b n x.2 x.0 q over cache told x.4 in
      record {
        now = one.now;
        told = one.told;
        stay = one.stay;
        come = λ i inside h k. one_more p ps i (Right one.now.content i) h
            (λ l u. one.come i inside l (omega (arith, at, k)))
            (λ e. ⊎_elim
            (λ (u : i < p.end + 1). absurd (both_ways (is_missing i ps) (none_below (p.end + 1) most ps i a.3 u) e))
            (λ (u : p.end + 1 ≤ i). absurd (omega (arith, u, k, within, at))) (cases_lt i (p.end + 1)));
      }

  -- ---- the record

  pub held_now : (g : Gaps) (r : FileRange) (reached : ℕ) (q now : Placed) → reached ≤ r.end → GapsHold g s q.content
      → g.file ≡ file
      → ((i : ℕ) → InFile i → Right q.content i → Right now.content i)
      → ((i : ℕ) → InFile i → is_missing i (parts_of g.gaps r) ≡ true → i < reached → Right now.content i)
      → GapsHold (record g { gaps = less g.gaps (range r.start reached) }) s now.content
  held_now g r reached q now within h same stay come = record {
    is = record {
      hash = h.is.hash;
      hash_bytes = h.is.hash_bytes;
      short = h.is.short;
      gaps_are = less_gaps g.gaps (range r.start reached) g.length_is h.is.gaps_are;
    };
    length_of = h.length_of;
    filled = λ p inside e.
        let in_file : p < length (bytes_of s g.file) = (let z = h.length_of in omega (arith, z, inside)) in
        subst (λ (f : MerkleHash). slice_get now.content p ≡ slice_get (bytes_of s f) p) (sym same)
        (by p inside (subst (λ (f : MerkleHash). p < length (bytes_of s f)) same in_file)
        (sym (less_exact g.gaps (range r.start reached) p) ∙ e));
  }
    where
      old : (p : ℕ) → p < g.length_is → InFile p → is_missing p g.gaps ≡ false → Right now.content p
      old p inside in_file e =
          stay p in_file
          (subst (λ (f : MerkleHash). slice_get q.content p ≡ slice_get (bytes_of s f) p) same (h.filled p inside e))

      new : (p : ℕ) → InFile p → is_missing p g.gaps ≡ true → is_in p (range r.start reached) ≡ true
          → Right now.content p
      new p in_file e i =
          let b = in_parts p (range r.start reached) i in
          let high = b.1 in
          let part : is_missing p (parts_of g.gaps r) ≡ true =
          parts_exact g.gaps r p
          ∙ and_from (is_missing p g.gaps) (is_in p r) e (is_inside p r b.0 (omega (arith, high, within))) in
          come p in_file part b.1

      by : (p : ℕ) → p < g.length_is → InFile p
          → (is_missing p g.gaps && not (is_in p (range r.start reached))) ≡ false → Right now.content p
      by p inside in_file e =
          ⊎_elim (λ (k : is_missing p g.gaps ≡ false). old p inside in_file k)
          (λ (k : not (is_in p (range r.start reached)) ≡ false). ⊎_elim
          (λ (m : is_missing p g.gaps ≡ true). new p in_file m (not-false (is_in p (range r.start reached)) k))
          (λ (m : is_missing p g.gaps ≡ false). old p inside in_file m) (cases_Bool (is_missing p g.gaps)))
          (and_cases (is_missing p g.gaps) (not (is_in p (range r.start reached))) e)
