-- The end of the writer in order.
use Rattle.std.proofs.Common.{◌≡◌, ℕ, zero, suc, ◌+◌, ◌≤◌, drop, List, [], ◌∷◌, ◌++◌, length, Bool, true, Option, Some, None, Ok, Err, Result, ap, sym, ◌∙◌, refl, arith, inl, inr}
use Rattle.std.specs.Prelude.{IfErr, IfOk, OnOk}
use Rattle.std.specs.List.{concat}
use Rattle.std.proofs.lemmas.List.{take_all, drop_all}
use Rattle.std.proofs.Math.Seq.{take-length}
use Rattle.xet_run.specs.Budgets.{Admission}
use Rattle.xet_outside.specs.Told.{SinkTold}
use Rattle.xet_error.specs.declared.error.FileReconstructionError.{FileReconstructionError}
use Rattle.xet_queue.specs.declared.queued_term.QueuedTerm.{QueuedTerm}
use Rattle.xet_queue.specs.Queues.{admissions, bytes_then, ready, ready_bytes, wanted}
use Rattle.xet_queue.specs.Calls.{DoneEnd, FailedEnd, SinkCause}
use Rattle.xet_writers.specs.Sequential.{NotEnded, Sequential, Wrote, sums_of, told_of}
use Rattle.xet_writers.specs.steps.SequentialSteps.{Flushed, Last}

ready_one : (t : QueuedTerm) (ts : List QueuedTerm) (o : Option (List ℕ)) → t.bytes ≡ o → wanted (t ∷ ts) ≡ [] → (wanted ts ≡ [] → length (ready ts) ≡ length ts) → length (bytes_then o (ready ts)) ≡ suc (length ts)
ready_one t ts None e w r = let z : wanted (t ∷ ts) ≡ t.byte_range ∷ wanted ts = rw e refl in absurd (cc)
ready_one t ts (Some bytes) e w r = let z : wanted (t ∷ ts) ≡ wanted ts = rw e refl in ap suc (r (sym z ∙ w))

-- a queue without wanted terms is ready whole
ready_all : (ts : List QueuedTerm) → wanted ts ≡ [] → length (ready ts) ≡ length ts
ready_all [] w = refl
ready_all (t ∷ ts) w = ready_one t ts t.bytes refl w (λ v. ready_all ts v)

same_parts : {S : Type 0} (s : S) (v v2 : Bool) (q q2 : List QueuedTerm) (r r2 : List Admission) (e e2 d d2 : ℕ) (k k2 : Option FileReconstructionError) → v ≡ v2 → q ≡ q2 → r ≡ r2 → e ≡ e2 → d ≡ d2 → k ≡ k2 → ◌≡◌ {A = Sequential S} (record { sink = s; vectored = v; queue = q; released = r; expected = e; delivered = d; kept = k; finished = true }) (record { sink = s; vectored = v2; queue = q2; released = r2; expected = e2; delivered = d2; kept = k2; finished = true })
same_parts s v v2 q q2 r r2 e e2 d d2 k k2 hv hq hr he hd hk = rw (hv, hq, hr, he, hd, hk) refl

unflushed_parts : {S : Type 0} (s : S) (v v2 : Bool) (q q2 : List QueuedTerm) (r r2 : List Admission) (e e2 d d2 : ℕ) (k : Option FileReconstructionError) (f f2 : Bool) → v ≡ v2 → q ≡ q2 → r ≡ r2 → e ≡ e2 → d ≡ d2 → f ≡ f2 → ◌≡◌ {A = Sequential S} (record { sink = s; vectored = v; queue = q; released = r; expected = e; delivered = d; kept = k; finished = f }) (record { sink = s; vectored = v2; queue = q2; released = r2; expected = e2; delivered = d2; kept = k; finished = f2 })
unflushed_parts s v v2 q q2 r r2 e e2 d d2 k f f2 hv hq hr he hd hf = rw (hv, hq, hr, he, hd, hf) refl

later : (a b n : SinkTold) (e : FileReconstructionError) → b.faults ≡ a.faults → SinkCause b.faults n.faults e
    → SinkCause a.faults n.faults e
later a b n e h (inl (x, s)) = inl (x, s ∙ h)
later a b n e h (inr (x, r)) = inr (x, omega arith)

module _ {S : Type 0} (told : S → SinkTold) (b m n : Sequential S) (k : ℕ) (w : wanted b.queue ≡ []) (room : b.delivered + length (ready_bytes b.queue) ≡ b.expected) (wrote : Wrote told b m (Ok k)) where
  left_empty : m.queue ≡ []
  left_empty = let p = wrote.whole.passed in let r = ready_all b.queue w in p.queue ∙ drop_all (length (ready b.queue)) b.queue (omega arith)

  left_released : m.released ≡ b.released ++ admissions b.queue
  left_released =
      let p = wrote.whole.passed in
      let r = ready_all b.queue w in
      p.released ∙ ap (λ l. b.released ++ admissions l) (take_all (length (ready b.queue)) b.queue (omega arith))

  delivered_is : m.delivered ≡ b.delivered + length (ready_bytes b.queue)
  delivered_is = let p = wrote.whole.passed in p.delivered ∙ ap (λ l. b.delivered + length (concat l)) (take-length (ready b.queue))

  pub last_ok : (j : ℕ) → Flushed told m n (Ok j) → Last told b n (Ok j)
  last_ok j f =
      let p = wrote.whole.passed in
      let d = f.done in
      let c : j ≡ b.delivered + length (ready_bytes b.queue) = d.1 ∙ delivered_is in
      let g = f.faults in
      let h = wrote.faults in
      record {
        done = record {
          left = d.0 ∙ same_parts n.sink m.vectored b.vectored m.queue [] m.released (b.released ++ admissions b.queue) m.expected b.expected m.delivered j m.kept b.kept p.vectored left_empty left_released p.expected (sym d.1) wrote.whole.kept;
          count_is = c;
          all = c ∙ room;
          took = f.took ∙ wrote.whole.took;
          flushed = d.2;
          unfailed = f.unfailed ∙ wrote.whole.unfailed;
        };
        part = tt;
        unflushed = tt;
        link = f.link ∙ wrote.link;
        faults = omega arith;
      }

  pub last_err : (e : FileReconstructionError) → Flushed told m n (Err e) → Last told b n (Err e)
  last_err e f =
      let p = wrote.whole.passed in
      let d = f.failed in
      let g = f.faults in
      let h = wrote.faults in
      record {
        done = tt;
        part = inr (inr (record {
          left = d.0 ∙ unflushed_parts n.sink m.vectored b.vectored m.queue [] m.released (b.released ++ admissions b.queue) m.expected b.expected m.delivered b.expected (Some e) m.finished b.finished p.vectored left_empty left_released p.expected (delivered_is ∙ room) p.finished;
          took = f.took ∙ wrote.whole.took;
          cause = later (told b.sink) (told m.sink) (told n.sink) e wrote.whole.unfailed d.1;
        }));
        unflushed = f.unflushed ∙ wrote.flushed;
        link = f.link ∙ wrote.link;
        faults = omega arith;
      }

pub last_any : {S : Type 0} (told : S → SinkTold) (b m n : Sequential S) (k : ℕ) → wanted b.queue ≡ [] → b.delivered + length (ready_bytes b.queue) ≡ b.expected → Wrote told b m (Ok k) → (answer : Result ℕ FileReconstructionError) → Flushed told m n answer → Last told b n answer
last_any told b m n k w r wrote (Ok j) f = last_ok told b m n k w r wrote j f
last_any told b m n k w r wrote (Err e) f = last_err told b m n k w r wrote e f

-- what every writer tells of an end that failed
wanted_tail : (t : QueuedTerm) (ts : List QueuedTerm) (o : Option (List ℕ)) → t.bytes ≡ o → wanted (t ∷ ts) ≡ [] → wanted ts ≡ []
wanted_tail t ts None e w = let z : wanted (t ∷ ts) ≡ t.byte_range ∷ wanted ts = rw e refl in absurd (cc)
wanted_tail t ts (Some bytes) e w = let z : wanted (t ∷ ts) ≡ wanted ts = rw e refl in sym z ∙ w

wanted_drop : (k : ℕ) (ts : List QueuedTerm) → wanted ts ≡ [] → wanted (drop k ts) ≡ []
wanted_drop zero ts w = w
wanted_drop (suc k) [] w = refl
wanted_drop (suc k) (t ∷ ts) w = wanted_drop k ts (wanted_tail t ts t.bytes refl w)

failed_end : {S : Type 0} (told : S → SinkTold) (b n : Sequential S) (e : FileReconstructionError) → wanted b.queue ≡ [] → NotEnded told b n e → FailedEnd (told_of b) (told_of n) (told b.sink).faults (told n.sink).faults e
failed_end told b n e w (inl x) = inl (x.0, ap told_of x.1)
failed_end told b n e w (inr (inl p)) =
    let q = p.passed in
    let r : wanted n.queue ≡ wanted b.queue = ap wanted q.queue ∙ wanted_drop p.terms b.queue w ∙ sym w in
    inr (rw (q.expected, r, p.kept, q.finished) refl, p.cause)
failed_end told b n e w (inr (inr u)) = inr (ap told_of u.left ∙ rw w refl, u.cause)

pub failed_any : {S : Type 0} (told : S → SinkTold) (b n : Sequential S) (answer : Result ℕ FileReconstructionError) → wanted b.queue ≡ [] → Last told b n answer → IfErr answer (FailedEnd (told_of b) (told_of n) (told b.sink).faults (told n.sink).faults)
failed_any told b n (Ok k) w l = tt
failed_any told b n (Err e) w l = failed_end told b n e w l.part

-- and of one that did not: the answer is the bytes of all terms
pub done_any : {S : Type 0} (told : S → SinkTold) (b n : Sequential S) (answer : Result ℕ FileReconstructionError) → wanted b.queue ≡ [] → Last told b n answer → IfOk answer (DoneEnd (told_of b) (told_of n) (sums_of told b))
done_any told b n (Ok k) w l = (ap told_of l.done.left ∙ rw w refl, l.done.all)
done_any told b n (Err e) w l = tt

-- after one that did not, the sink has the faults that it had
pub unfailed_any : {S : Type 0} (told : S → SinkTold) (b n : Sequential S) (answer : Result ℕ FileReconstructionError)
    → Last told b n answer → OnOk answer ((told n.sink).faults ≡ (told b.sink).faults)
unfailed_any told b n (Ok k) l = l.done.unfailed
unfailed_any told b n (Err e) l = tt

same_place : {S : Type 0} (told : S → SinkTold) (b n : Sequential S) (e : FileReconstructionError) → NotEnded told b n e → n.expected ≡ b.expected
same_place told b n e (inl x) = ap (λ v. v.expected) x.1
same_place told b n e (inr (inl p)) = p.passed.expected
same_place told b n e (inr (inr u)) = ap (λ v. v.expected) u.left

-- no end takes a term
pub same_bytes : {S : Type 0} (told : S → SinkTold) (b n : Sequential S) (answer : Result ℕ FileReconstructionError) → Last told b n answer → n.expected ≡ b.expected
same_bytes told b n (Ok k) l = ap (λ v. v.expected) l.done.left
same_bytes told b n (Err e) l = same_place told b n e l.part
