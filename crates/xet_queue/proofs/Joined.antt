-- Joined pieces, and what loops over them took.
use Rattle.std.proofs.Common.{◌≡◌, ℕ, zero, suc, ◌+◌, ◌-◌, ◌<◌, ◌≤◌, Bool, true, false, List, [], ◌∷◌, ◌++◌, take, drop, length, min, get_or, set, Option, Ok, Err, ap, sym, ◌∙◌, refl, arith, length-append, length-drop}
use Rattle.std.specs.Prelude.{nat_lt}
use Rattle.std.specs.List.{concat}
use Rattle.std.proofs.Math.Seq.{drop-append-add, take-append-add}
use Rattle.std.proofs.lemmas.Bool.{lt-ltb, ltb-false}
use Rattle.std.proofs.lemmas.List.{append-nil, drop-append-le, drop_more, get_or_default, set-get_or, set-set, take-append-drop, take-append-le, take_all, take_min}
use Rattle.std.proofs.lemmas.List.Folds.{concat-append}
use Rattle.xet_outside.specs.declared.sink.SinkError.{SinkError}
use Rattle.xet_outside.specs.declared.sink.SinkError.TheVariants as sink_error
use Rattle.xet_outside.specs.Told.{SinkTold, Took, WriteCall}
use Rattle.xet_base.proofs.CallerLemmas.{concat_more}
use Rattle.xet_outside.proofs.CallerLemmas.{rest_is, took_both, took_more}
use Rattle.xet_queue.specs.Pieces.{WrotePieces, bytes_before, nonempty}
use Rattle.xet_queue.specs.steps.PieceSteps.{WrotePiece}

-- ---- lists

pub split : (ps : List (List ℕ)) (i : ℕ) → concat ps ≡ concat (take i ps) ++ concat (drop i ps)
split ps i = ap concat (sym (take-append-drop i ps)) ∙ concat-append (take i ps) (drop i ps)

-- one piece and those after it
pub next_piece : (ps : List (List ℕ)) (i : ℕ) (p : List ℕ) → i < length ps → p ≡ get_or ps i p → concat (drop i ps) ≡ p ++ concat (drop (i + 1) ps)
next_piece ps i p h e = ap concat (drop_more ps i p h) ∙ ap (λ (l : List ℕ). l ++ concat (drop (i + 1) ps)) (sym e)

-- the pieces before one, and it
pub one_more : (ps : List (List ℕ)) (i : ℕ) (p : List ℕ) → i < length ps → p ≡ get_or ps i p → concat (take (i + 1) ps) ≡ concat (take i ps) ++ p
one_more ps i p h e = concat_more ps i p h ∙ ap (λ (l : List ℕ). concat (take i ps) ++ l) (sym e)

pub before_next : (ps : List (List ℕ)) (i : ℕ) (p : List ℕ) → i < length ps → p ≡ get_or ps i p → bytes_before (i + 1) ps ≡ bytes_before i ps + length p
before_next ps i p h e = ap length (one_more ps i p h e) ∙ length-append (concat (take i ps)) p

pub one_below : (ps : List (List ℕ)) (i : ℕ) (p : List ℕ) → i < length ps → p ≡ get_or ps i p → bytes_before i ps + length p ≤ length (concat ps)
one_below ps i p h e =
    let a = ap length (split ps i) in
    let b = length-append (concat (take i ps)) (concat (drop i ps)) in
    let c = ap length (next_piece ps i p h e) in
    let d = length-append p (concat (drop (i + 1) ps)) in
    omega arith

front_take : (ps : List (List ℕ)) (i : ℕ) (p : List ℕ) (k : ℕ) → i < length ps → p ≡ get_or ps i p → k ≤ length p → take (bytes_before i ps + k) (concat ps) ≡ concat (take i ps) ++ take k p
front_take ps i p k h e l =
    let a = split ps i in
    let b = next_piece ps i p h e in
    let c : concat ps ≡ concat (take i ps) ++ (p ++ concat (drop (i + 1) ps)) = a ∙ ap (λ (l : List ℕ). concat (take i ps) ++ l) b in
    ap (λ (l : List ℕ). take (bytes_before i ps + k) l) c ∙ take-append-add (concat (take i ps)) (p ++ concat (drop (i + 1) ps)) k ∙ ap (λ (l : List ℕ). concat (take i ps) ++ l) (take-append-le k p (concat (drop (i + 1) ps)) l)

-- ---- pieces with bytes

one_longer : (n : ℕ) (ps : List (List ℕ)) → length (concat (take n ps)) ≤ length (concat (take (suc n) ps))
one_longer zero ps = omega arith
one_longer (suc n) [] = omega arith
one_longer (suc n) (p ∷ ps) =
    let r = one_longer n ps in
    let a = length-append p (concat (take n ps)) in
    let b = length-append p (concat (take (suc n) ps)) in
    omega arith

longer_at : (n : ℕ) (p : List ℕ) (ps : List (List ℕ)) (b : Bool) → nat_lt 0 (length p) ≡ b → length (concat (take n ps)) ≤ length (concat (take n (nonempty ps))) → length (concat (take (suc n) (p ∷ ps))) ≤ length (concat (take (suc n) (nonempty (p ∷ ps))))
longer_at n p ps true e h =
    let a = length-append p (concat (take n ps)) in
    let b = length-append p (concat (take n (nonempty ps))) in
    rw e (omega arith)
longer_at n p ps false e h =
    let z = ltb-false 0 (length p) e in
    let a = length-append p (concat (take n ps)) in
    let b = one_longer n (nonempty ps) in
    rw e (omega arith)

-- as many pieces are no longer than as many that have bytes
pub longer : (n : ℕ) (ps : List (List ℕ)) → length (concat (take n ps)) ≤ length (concat (take n (nonempty ps)))
longer zero ps = omega arith
longer (suc n) [] = omega arith
longer (suc n) (p ∷ ps) = longer_at n p ps (nat_lt 0 (length p)) refl (longer n ps)

-- the first piece that has bytes
pub one_handed : (p : List ℕ) (ps : List (List ℕ)) → 0 < length p → length (concat (take 1 (nonempty (p ∷ ps)))) ≡ length p
one_handed p ps h = let e = lt-ltb 0 (length p) h in rw e (ap length (append-nil p))

-- ---- one piece after another

-- all pieces were taken
pub each_all : (most : ℕ) (a b : SinkTold) (ps : List (List ℕ)) (i count : ℕ) → length ps ≤ i → count ≡ bytes_before i ps → Took a.took b.took (concat (take i ps)) → b.flushed ≡ a.flushed → b.link ≡ a.link → b.faults ≡ a.faults → WrotePieces most a b ps count (Ok tt)
each_all most a b ps i count h n t f g l =
    let e = take_all i ps h in
    let k = n ∙ ap (λ qs. length (concat qs)) e in
    record {
      within = omega arith;
      whole = (k, rw e at t);
      part = tt;
      flushed = f;
      link = g;
      faults = omega arith;
      failed = λ x. cc;
      unfailed = l;
      short = λ x. cc;
    }

-- a piece that failed
pub each_err : (a b c : SinkTold) (ps : List (List ℕ)) (i count : ℕ) (p : List ℕ) (e : SinkError) → i < length ps → p ≡ get_or ps i [] → count ≡ bytes_before i ps → Took a.took b.took (concat (take i ps)) → b.flushed ≡ a.flushed → b.link ≡ a.link → b.faults ≡ a.faults → WrotePiece b c p (Err e) → WrotePieces 1 a c ps count (Err e)
each_err a b c ps i count p e h is n t f g l w =
    let q = w.part in
    let r = q.within in
    let there : p ≡ get_or ps i p = is ∙ get_or_default ps i [] p h in
    let s = one_below ps i p h there in
    let m = w.faults in
    let some = q.some in
    let same = ap length is in
    let k : take (count + q.count) (concat ps) ≡ concat (take i ps) ++ take q.count p = ap (λ (j : ℕ). take (j + q.count) (concat ps)) n ∙ front_take ps i p q.count h there r in
    let d : drop i ps ≡ p ∷ drop (i + 1) ps = drop_more ps i [] h ∙ ap (λ (x : List ℕ). x ∷ drop (i + 1) ps) (sym is) in
    let x = ap (λ qs. length (concat (take 1 (nonempty qs)))) d ∙ one_handed p (drop (i + 1) ps) some in
    record {
      within = omega arith;
      whole = tt;
      part = record {
        whole = i;
        place = omega arith;
        inside = omega arith;
        took = record { count = count + q.count; above = omega arith; within = omega arith; took = rw k (took_both a.took b.took c.took (concat (take i ps)) (take q.count p) t q.took) };
        stopped = record { next = omega arith; memory = λ o. let z = q.memory o in omega arith; handed = omega arith };
      };
      flushed = w.flushed ∙ f;
      link = w.link ∙ g;
      faults = omega arith;
      failed = λ o. let z = w.failed o in omega arith;
      unfailed = tt;
      short = λ o. w.short o ∙ l;
    }

-- a write of the rest of a piece that failed
pub piece_err : (a b c : SinkTold) (piece : List ℕ) (at : ℕ) (e : SinkError) → at < length piece → Took a.took b.took (take at piece) → b.flushed ≡ a.flushed → b.link ≡ a.link → b.faults ≡ a.faults → WriteCall b c (take (length piece - at) (drop at piece)) (Err e) → WrotePiece a c piece (Err e)
piece_err a b c piece at sink_error.OutOfMemory i t f g l h = record {
  took = tt;
  part = record { count = at; some = omega arith; within = omega arith; memory = λ _. i; took = h.memory refl ∙ t };
  flushed = h.flushed ∙ f;
  link = h.link ∙ g;
  faults = let m = h.faults in omega arith;
  failed = λ x. cc;
  unfailed = tt;
  short = λ _. h.short refl ∙ l;
}
piece_err a b c piece at sink_error.Failed i t f g l h =
    let p = rw rest_is at (h.prefix refl) in
    let n = length-drop at piece in
    let w = p.within in
    record {
      took = tt;
      part = record { count = at + p.count; some = omega arith; within = omega arith; memory = λ x. cc; took = took_more a.took b.took c.took piece at p.count t p.took };
      flushed = h.flushed ∙ f;
      link = h.link ∙ g;
      faults = let m = h.faults in omega arith;
      failed = λ _. let r = h.failed refl in omega arith;
      unfailed = tt;
      short = λ x. cc;
    }

-- ---- several pieces at a time

pub some_is : (ps : List (List ℕ)) (at n : ℕ) → n ≡ min (length ps - at) 24 → take (at + n - at) (drop at ps) ≡ take 24 (drop at ps)
some_is ps at n e =
    let l = length-drop at ps in
    let k : at + n - at ≡ min 24 (length (drop at ps)) = omega arith in
    ap (λ (j : ℕ). take j (drop at ps)) k ∙ take_min 24 (drop at ps)

batch_le : (n : ℕ) (ps : List (List ℕ)) → length (concat (take n ps)) ≤ length (concat ps)
batch_le n ps = let a = ap length (split ps n) in let b = length-append (concat (take n ps)) (concat (drop n ps)) in omega arith

-- the first piece is among those that are handed
batch_front : (ps : List (List ℕ)) (at : ℕ) → at < length ps → length (get_or ps at []) ≤ length (concat (take 24 (drop at ps)))
batch_front ps at h =
    let e = ap (λ (qs : List (List ℕ)). length (concat (take 24 qs))) (drop_more ps at [] h) in
    let a = length-append (get_or ps at []) (concat (take 23 (drop (at + 1) ps))) in
    omega arith

-- what one write is handed, where the first piece is cut
abbrev pub handed : List (List ℕ) → ℕ → ℕ → List ℕ
handed ps at off = drop off (concat (take 24 (drop at ps)))

pub handed_some : (ps : List (List ℕ)) (at off : ℕ) → at < length ps → off < length (get_or ps at []) → 0 < length (handed ps at off)
handed_some ps at off h i =
    let a = batch_front ps at h in
    let b = length-drop off (concat (take 24 (drop at ps))) in
    omega arith

pub handed_within : (ps : List (List ℕ)) (at off : ℕ) → at < length ps → off < length (get_or ps at []) → bytes_before at ps + off + length (handed ps at off) ≤ length (concat ps)
handed_within ps at off h i =
    let a = batch_front ps at h in
    let b = length-drop off (concat (take 24 (drop at ps))) in
    let c = batch_le 24 (drop at ps) in
    let d = ap length (split ps at) in
    let e = length-append (concat (take at ps)) (concat (drop at ps)) in
    omega arith

pub handed_rest : (ps : List (List ℕ)) (at off k : ℕ) → at < length ps → off < length (get_or ps at []) → k ≤ length (handed ps at off) → off + k ≤ length (concat (drop at ps))
handed_rest ps at off k h i l =
    let a = batch_front ps at h in
    let b = length-drop off (concat (take 24 (drop at ps))) in
    let c = batch_le 24 (drop at ps) in
    omega arith

-- the first bytes of it are the next of all
handed_take : (ps : List (List ℕ)) (at off count k : ℕ) → count ≡ bytes_before at ps + off → at < length ps → off < length (get_or ps at []) → k ≤ length (handed ps at off) → take k (handed ps at off) ≡ take k (drop count (concat ps))
handed_take ps at off count k e h i l =
    let qs = drop at ps in
    let a = batch_front ps at h in
    let u : drop count (concat ps) ≡ drop off (concat qs) = ap (λ (j : ℕ). drop j (concat ps)) e ∙ ap (λ (l : List ℕ). drop (bytes_before at ps + off) l) (split ps at) ∙ drop-append-add (concat (take at ps)) (concat qs) off in
    let v : drop off (concat qs) ≡ handed ps at off ++ concat (drop 24 qs) = ap (λ (l : List ℕ). drop off l) (split qs 24) ∙ drop-append-le off (concat (take 24 qs)) (concat (drop 24 qs)) (omega arith) in
    sym (ap (λ (l : List ℕ). take k l) (u ∙ v) ∙ take-append-le k (handed ps at off) (concat (drop 24 qs)) l)

-- so many more bytes were taken
pub handed_took : (a b c : Option (List ℕ)) (ps : List (List ℕ)) (at off count k : ℕ) → count ≡ bytes_before at ps + off → at < length ps → off < length (get_or ps at []) → k ≤ length (handed ps at off) → Took a b (take count (concat ps)) → Took b c (take k (handed ps at off)) → Took a c (take (count + k) (concat ps))
handed_took a b c ps at off count k e h i l t u = took_more a b c (concat ps) count k t (rw (handed_take ps at off count k e h i l) at u)

-- a write that failed
pub handed_err : (a b c : SinkTold) (ps : List (List ℕ)) (at off count : ℕ) (e : SinkError) → count ≡ bytes_before at ps + off → at < length ps → off < length (get_or ps at []) → Took a.took b.took (take count (concat ps)) → b.flushed ≡ a.flushed → b.link ≡ a.link → b.faults ≡ a.faults → WriteCall b c (handed ps at off) (Err e) → WrotePieces 24 a c ps count (Err e)
handed_err a b c ps at off count sink_error.OutOfMemory n h i t f g l w =
    let x = handed_within ps at off h i in
    let y = longer 24 (drop at ps) in
    let z = batch_front ps at h in
    record {
      within = omega arith;
      whole = tt;
      part = record {
        whole = at;
        place = omega arith;
        inside = omega arith;
        took = record { count = count; above = omega arith; within = omega arith; took = w.memory refl ∙ t };
        stopped = record { next = omega arith; memory = λ _. omega arith; handed = omega arith };
      };
      flushed = w.flushed ∙ f;
      link = w.link ∙ g;
      faults = let m = w.faults in omega arith;
      failed = λ x. cc;
      unfailed = tt;
      short = λ _. w.short refl ∙ l;
    }
handed_err a b c ps at off count sink_error.Failed n h i t f g l w =
    let q = w.prefix refl in
    let j = q.within in
    let x = handed_within ps at off h i in
    let y = longer 24 (drop at ps) in
    let z = batch_front ps at h in
    let d = length-drop off (concat (take 24 (drop at ps))) in
    record {
      within = omega arith;
      whole = tt;
      part = record {
        whole = at;
        place = omega arith;
        inside = omega arith;
        took = record { count = count + q.count; above = omega arith; within = omega arith; took = handed_took a.took b.took c.took ps at off count q.count n h i j t q.took };
        stopped = record { next = omega arith; memory = λ x. cc; handed = omega arith };
      };
      flushed = w.flushed ∙ f;
      link = w.link ∙ g;
      faults = let m = w.faults in omega arith;
      failed = λ _. let r = w.failed refl in let m = w.faults in omega arith;
      unfailed = tt;
      short = λ x. cc;
    }

-- a piece that was cut is put back whole
pub whole_again : (ps : List (List ℕ)) (at : ℕ) (p q : List ℕ) → at < length ps → p ≡ get_or ps at p → set (set ps at q) at p ≡ ps
whole_again ps at p q h e = set-set ps at q p ∙ ap (λ (x : List ℕ). set ps at x) e ∙ set-get_or ps at p

-- ---- passing over pieces

pub pass_within : (ps : List (List ℕ)) (at left : ℕ) (p : List ℕ) → at < length ps → p ≡ get_or ps at p → length p ≤ left → left ≤ length (concat (drop at ps)) → left - length p ≤ length (concat (drop (at + 1) ps))
pass_within ps at left p h e l i =
    let a = ap length (next_piece ps at p h e) in
    let b = length-append p (concat (drop (at + 1) ps)) in
    omega arith
