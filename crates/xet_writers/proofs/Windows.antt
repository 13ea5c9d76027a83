-- What a write of the ready terms leaves in the sink.
use Rattle.std.proofs.Common.{◌≡◌, ◌⊎◌, inl, inr, ℕ, List, [], ◌++◌, length, Option, Some, None, Ok, Err, Result, ap, sym, ◌∙◌, refl, arith}
use Rattle.std.proofs.lemmas.List.{append-nil}
use Rattle.std.specs.Prelude.{OnOk, option_map}
use Rattle.xet_outside.specs.Told.{SinkTold, Took, TookPrefix}
use Rattle.xet_error.specs.declared.error.FileReconstructionError.{FileReconstructionError}
use Rattle.xet_error.specs.declared.error.FileReconstructionError.TheVariants as error
use Rattle.xet_queue.specs.Calls.{SinkCause, closed_by}
use Rattle.xet_queue.specs.Queues.{ready_bytes}
use Rattle.xet_writers.specs.Sequential.{ReadyCall, Sequential, WindowCall, Wrote, WroteAll, WrotePart, told_of}

none : (a : Option (List ℕ)) → Took a a []
none None = refl
none (Some xs) = ap Some (sym (append-nil xs))

nothing : (a : Option (List ℕ)) (xs : List ℕ) → TookPrefix a a xs
nothing a xs = record { count = 0; within = omega arith; took = none a }

part_prefix : {S : Type 0} (told : S → SinkTold) (b n : Sequential S) (e : FileReconstructionError) → ((e ≡ error.OutOfMemory) × (n ≡ b)) ⊎ WrotePart told b n e → TookPrefix (told b.sink).took (told n.sink).took (ready_bytes b.queue)
part_prefix told b n e (inl (x, y)) = let z = ap (λ w. (told w.sink).took) y in rw z (nothing (told b.sink).took (ready_bytes b.queue))
part_prefix told b n e (inr p) = let t = p.took in record { count = t.count; within = t.within; took = t.took }

part_cause : {S : Type 0} (told : S → SinkTold) (b n : Sequential S) (e : FileReconstructionError) → ((e ≡ error.OutOfMemory) × (n ≡ b)) ⊎ WrotePart told b n e → SinkCause (told b.sink).faults (told n.sink).faults e
part_cause told b n e (inl (x, y)) = inl (x, ap (λ w. (told w.sink).faults) y)
part_cause told b n e (inr p) = p.cause

pub window_of : {S : Type 0} (told : S → SinkTold) (b n : Sequential S) (answer : Result ℕ FileReconstructionError) → Wrote told b n answer → WindowCall (told b.sink) (told n.sink) (ready_bytes b.queue) answer
window_of told b n (Ok k) w = record { took = (w.whole.took, w.whole.count_is); prefix = tt; cause = tt; flushed = w.flushed; link = w.link; faults = w.faults; unfailed = w.whole.unfailed }
window_of told b n (Err e) w = record { took = tt; prefix = part_prefix told b n e w.part; cause = part_cause told b n e w.part; flushed = w.flushed; link = w.link; faults = w.faults; unfailed = tt }

-- an Ok comes of an open writer
ready_at : {S : Type 0} (told : S → SinkTold) (b n : Sequential S) (k : ℕ) (o : Option FileReconstructionError) → closed_by (told_of b) ≡ o → ReadyCall told b n (Ok k) → WroteAll told b n k
ready_at told b n k (Some e) x r = let h = (r.closed e x).0 in absurd (cc)
ready_at told b n k None x r = (r.open_ x).whole

pub ready_ok : {S : Type 0} (told : S → SinkTold) (b n : Sequential S) (k : ℕ) → ReadyCall told b n (Ok k) → WroteAll told b n k
ready_ok told b n k r = ready_at told b n k (closed_by (told_of b)) refl r

both_ok : {P Q : Type 0} (s : P → SinkTold) (t : Q → SinkTold) (a b : Sequential P) (c d : Sequential Q) (j k : ℕ) → a.queue ≡ c.queue → (s a.sink).took ≡ (t c.sink).took → WroteAll s a b j → WroteAll t c d k → ((s b.sink).took ≡ (t d.sink).took) × (j ≡ k)
both_ok s t a b c d j k q e v w =
    let f : (s b.sink).took ≡ option_map (λ xs. xs ++ ready_bytes a.queue) (s a.sink).took = v.took in
    let g : (t d.sink).took ≡ option_map (λ xs. xs ++ ready_bytes c.queue) (t c.sink).took = w.took in
    let h : option_map (λ xs. xs ++ ready_bytes a.queue) (s a.sink).took ≡ option_map (λ xs. xs ++ ready_bytes c.queue) (t c.sink).took = rw (q, e) refl in
    (f ∙ h ∙ sym g, v.count_is ∙ ap (λ l. length (ready_bytes l)) q ∙ sym w.count_is)

pub both_took : {P Q : Type 0} (s : P → SinkTold) (t : Q → SinkTold) (a b : Sequential P) (c d : Sequential Q) (x y : Result ℕ FileReconstructionError) → a.queue ≡ c.queue → (s a.sink).took ≡ (t c.sink).took → ReadyCall s a b x → ReadyCall t c d y → OnOk x (OnOk y ((s b.sink).took ≡ (t d.sink).took)) × OnOk x (OnOk y (x ≡ y))
both_took s t a b c d (Ok j) (Ok k) q e v w = let r = both_ok s t a b c d j k q e (ready_ok s a b j v) (ready_ok t c d k w) in (r.0, ap Ok r.1)
both_took s t a b c d (Ok j) (Err f) q e v w = (tt, tt)
both_took s t a b c d (Err f) y q e v w = (tt, tt)
