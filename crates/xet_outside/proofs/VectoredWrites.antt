-- One piece of several.
use Rattle.std.proofs.Common.{◌≡◌, ℕ, ◌+◌, ◌<◌, ◌≤◌, List, ◌++◌, take, drop, length, Option, Ok, Err, refl, sym, ap, ◌∙◌, arith, length-drop, length-append}
use Rattle.std.specs.List.{concat}
use Rattle.std.proofs.Math.Seq.{take-append_seam, drop-append_seam}
use Rattle.std.proofs.Math.ListN.{get_or}
use Rattle.std.proofs.lemmas.List.{take-take, length-take, drop-drop, drop_more}
use Rattle.xet_outside.specs.declared.sink.SinkError.TheVariants as sink_error
use Rattle.xet_outside.specs.Told.{SinkTold, Took, WriteCall}
use Rattle.xet_outside.proofs.TakenBytes.{prefix_front, prefix_more, took_more}

-- one piece more
pub put_more : (a b c : Option (List ℕ)) (piece : List ℕ) (at n k : ℕ) → k ≤ length (take n (drop at piece)) → Took a b (take at piece) → Took b c (take k (take n (drop at piece))) → Took a c (take (at + k) piece)
put_more a b c piece at n k l t u =
    let m = length-take n (drop at piece) in
    let e : take k (take n (drop at piece)) ≡ take k (drop at piece) = take-take k n (drop at piece) (omega arith) in
    took_more a b c piece at k t (rw e at u)

pub put_within : (piece : List ℕ) (at n k : ℕ) → at ≤ length piece → k ≤ length (take n (drop at piece)) → at + k ≤ length piece
put_within piece at n k i l =
    let m = length-take n (drop at piece) in
    let d = length-drop at piece in
    omega arith

pub put_some : (piece : List ℕ) (at n : ℕ) → at < length piece → 0 < n → 0 < length (take n (drop at piece))
put_some piece at n i l =
    let m = length-take n (drop at piece) in
    let d = length-drop at piece in
    omega arith

-- the last piece, of which only a part was taken
pub put_part : (a b c : SinkTold) (piece : List ℕ) (at n k : ℕ) → at < length piece → 0 < n → Took a.took b.took (take at piece) → b.flushed ≡ a.flushed → b.link ≡ a.link → b.faults ≡ a.faults → WriteCall b c (take n (drop at piece)) (Ok k) → WriteCall a c piece (Ok (at + k))
put_part a b c piece at n k i z t f g l h = record {
  count = put_within piece at n k (omega arith) h.count;
  some = λ _. let s = h.some (put_some piece at n i z) in omega arith;
  took = put_more a.took b.took c.took piece at n k h.count t h.took;
  prefix = λ x. cc;
  memory = λ x. cc;
  flushed = h.flushed ∙ f;
  link = h.link ∙ g;
  faults = let m = h.faults in omega arith;
  failed = λ x. cc;
  unfailed = h.unfailed ∙ l;
  short = λ x. cc;
}

-- what is left begins with the next piece
pub left_is : (ps : List (List ℕ)) (at taken : ℕ) (d : List ℕ) → at < length ps → drop taken (concat ps) ≡ concat (drop at ps) → drop taken (concat ps) ≡ get_or ps at d ++ concat (drop (at + 1) ps)
left_is ps at taken d l e = e ∙ ap concat (drop_more ps at d l)

pub piece_is : (all p rest : List ℕ) (taken : ℕ) → drop taken all ≡ p ++ rest → take (length p) (drop taken all) ≡ p
piece_is all p rest taken e = rw e (take-append_seam p rest)

pub rest_after : (all p rest : List ℕ) (taken : ℕ) → drop taken all ≡ p ++ rest → drop (taken + length p) all ≡ rest
rest_after all p rest taken e = sym (drop-drop (length p) taken all) ∙ ap (λ (us : List ℕ). drop (length p) us) e ∙ drop-append_seam p rest

pub step_within : (all p rest : List ℕ) (taken k : ℕ) → taken ≤ length all → drop taken all ≡ p ++ rest → k ≤ length p → taken + k ≤ length all
step_within all p rest taken k i e l =
    let q = piece_is all p rest taken e in
    put_within all taken (length p) k i (rw q l)

pub step_took : (a b c : Option (List ℕ)) (all p rest : List ℕ) (taken k : ℕ) → drop taken all ≡ p ++ rest → k ≤ length p → Took a b (take taken all) → Took b c (take k p) → Took a c (take (taken + k) all)
step_took a b c all p rest taken k e l t u =
    let q = piece_is all p rest taken e in
    put_more a b c all taken (length p) k (rw q l) t (rw q u)

below : (all p rest : List ℕ) (taken : ℕ) → drop taken all ≡ p ++ rest → 0 < length p → taken < length all
below all p rest taken e l =
    let m = length-drop taken all in
    let n = ap length e in
    let o = length-append p rest in
    omega arith

-- the last piece, of which only a part was taken
pub step_part : (a b c : SinkTold) (all p rest : List ℕ) (taken k : ℕ) → drop taken all ≡ p ++ rest → k < length p → Took a.took b.took (take taken all) → b.flushed ≡ a.flushed → b.link ≡ a.link → b.faults ≡ a.faults → WriteCall b c p (Ok k) → WriteCall a c all (Ok (taken + k))
step_part a b c all p rest taken k e l t f g h w =
    let q = piece_is all p rest taken e in
    put_part a b c all taken (length p) k (below all p rest taken e (omega arith)) (omega arith) t f g h (rw q w)

-- the piece that failed
pub step_failed : (a b c : SinkTold) (all p rest : List ℕ) (taken : ℕ) → taken ≤ length all → drop taken all ≡ p ++ rest → Took a.took b.took (take taken all) → b.flushed ≡ a.flushed → b.link ≡ a.link → b.faults ≡ a.faults → WriteCall b c p (Err sink_error.Failed) → WriteCall a c all (Err sink_error.Failed)
step_failed a b c all p rest taken i e t f g h w = record {
  count = tt;
  some = λ _. tt;
  took = tt;
  prefix = λ _. prefix_more a.took b.took c.took all taken i t (rw e (prefix_front b.took c.took p rest (w.prefix refl)));
  memory = λ x. cc;
  flushed = w.flushed ∙ f;
  link = w.link ∙ g;
  faults = let m = w.faults in omega arith;
  failed = λ _. let r = w.failed refl in omega arith;
  unfailed = tt;
  short = λ x. cc;
}
