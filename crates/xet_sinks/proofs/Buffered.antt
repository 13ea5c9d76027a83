-- What a buffer holds, and what the sink below it took of it.
use Rattle.std.proofs.Common.{◌≡◌, ℕ, ◌+◌, ◌<◌, ◌≤◌, Bool, true, false, List, [], ◌++◌, take, drop, length, Option}
use Rattle.std.proofs.Common.{Some, None, Ok, refl, sym, ap, ◌∙◌, arith, append_assoc, append-nil}
use Rattle.std.proofs.Common.{length-append, length-drop}
use Rattle.std.specs.Prelude.{option_map}
use Rattle.std.proofs.Math.Seq.{take-length}
use Rattle.std.proofs.lemmas.List.{length-take-le, take-append-drop, take-append-le}
use Rattle.xet_outside.specs.Told.{SinkTold, Took, TookPrefix, WriteCall}
use Rattle.xet_outside.proofs.CallerLemmas.{took_more, prefix_more}
use Rattle.xet_sinks.specs.Buffers.{Lacks, buffered_told}
use Rattle.xet_sinks.specs.HexText.{steps}
use Rattle.xet_sinks.specs.steps.Held.{Held}

-- the list, where it is told, with nothing more
pub with_nothing : (o : Option (List ℕ)) → option_map (λ (xs : List ℕ). xs ++ []) o ≡ o
with_nothing None = refl
with_nothing (Some xs) = ap Some (append-nil xs)

-- a longer buffer
pub with_more : (o : Option (List ℕ)) (bs ps : List ℕ) → option_map (λ (xs : List ℕ). xs ++ (bs ++ ps)) o ≡ option_map
    (λ (xs : List ℕ). xs ++ ps) (option_map (λ (xs : List ℕ). xs ++ bs) o)
with_more None bs ps = refl
with_more (Some xs) bs ps = ap Some (sym (append_assoc xs bs ps))

-- so many bytes of a list were taken: their number is seen
front_of : (k n : Option (List ℕ)) (bs : List ℕ) (c : ℕ) → c ≤ length bs → Took k n (take c bs)
    → (steps k n ≤ length bs) × Took k n (take (steps k n) bs)
front_of None n bs c i e = rw e (omega arith, refl)
front_of (Some xs) n bs c i e =
    let a = length-append xs (take c bs) in
    let b = length-take-le c bs i in
    let s : steps (Some xs) (Some (xs ++ take c bs)) ≡ c = omega arith in
    rw e (rw s i, rw s refl)

-- the sink below took so many bytes of the buffer
held_at : (k n : Option (List ℕ)) (bs : List ℕ) (out : ℕ) (stopped : Bool) → out ≤ length bs → Took k n (take out bs)
    → Held k n bs out stopped
held_at k n bs out stopped i e =
    let f = front_of k n bs out i e in
    record { within = i; wrote = λ _. e; short = f.0; front = f.1 }

-- memory ran out after so many bytes more
pub held_part : (k n m : Option (List ℕ)) (bs : List ℕ) (out count : ℕ) → Held k n bs out false
    → count < length (drop out bs) → Took n m (take count (drop out bs)) → Held k m bs (out + count) false
held_part k n m bs out count h l e =
    let w = h.within in
    let d = length-drop out bs in
    held_at k m bs (out + count) false (omega arith) (took_more k n m bs out count (h.wrote refl) e)

-- the sink below failed after some bytes more
pub held_failed : (k n m : Option (List ℕ)) (bs : List ℕ) (out : ℕ) → Held k n bs out false
    → TookPrefix n m (drop out bs) → Held k m bs out true
held_failed k n m bs out h p =
    let q = prefix_more k n m bs out h.within (h.wrote refl) p in
    let f = front_of k m bs q.count q.within q.took in
    record { within = h.within; wrote = λ z. absurd (let e : true ≡ false = z in cc); short = f.0; front = f.1 }

-- a piece is put behind the buffer
pub held_more : (k n : Option (List ℕ)) (bs ps : List ℕ) (out : ℕ) (stopped : Bool) → Held k n bs out stopped
    → Held k n (bs ++ ps) out stopped
held_more k n bs ps out stopped h =
    let a = take-append-le out bs ps h.within in
    let b = take-append-le (steps k n) bs ps h.short in
    let l = length-append bs ps in
    let w = h.within in
    let s = h.short in
    record { within = omega arith; wrote = λ z. rw a (h.wrote z); short = omega arith; front = rw b h.front }

-- what the sink below lacks
pub held_lacks : (k n : Option (List ℕ)) (bs : List ℕ) (out : ℕ) (stopped : Bool) → Held k n bs out stopped
    → Lacks n (option_map (λ (xs : List ℕ). xs ++ bs) k)
held_lacks k n bs out stopped h = record {
  missing = drop (steps k n) bs;
  took =
      let f : n ≡ option_map (λ (xs : List ℕ). xs ++ take (steps k n) bs) k = h.front in
      let c = with_more k (take (steps k n) bs) (drop (steps k n) bs) in
      let d = take-append-drop (steps k n) bs in
      ap (λ (l : List ℕ). option_map (λ (xs : List ℕ). xs ++ l) k) (sym d) ∙ c ∙ ap
      (λ (o : Option (List ℕ)). option_map (λ (xs : List ℕ). xs ++ drop (steps k n) bs) o) (sym f);
}

-- a piece that is held
pub held_write : (s k n : SinkTold) (bs ps : List ℕ)
    → WriteCall (buffered_told s k n bs) (buffered_told s k n (bs ++ ps)) ps (Ok (length ps))
held_write s k n bs ps = record {
  count = omega arith;
  some = λ h. h;
  took = rw (take-length ps) (with_more k.took bs ps);
  prefix = λ x. cc;
  memory = λ x. cc;
  flushed = refl;
  link = refl;
  faults = omega arith;
  failed = λ x. cc;
  unfailed = refl;
  short = λ x. cc;
}
