-- Batches of ready terms, one after another.
use Rattle.std.proofs.Common.{◌≡◌, Bool, true, false, ℕ, ◌+◌, ◌-◌, ◌<◌, ◌≤◌, List, [], ◌++◌, length, take, drop, get_or, Option, Some, None, Ok, Err, Result, ap, sym, ◌∙◌, refl, subst, arith, append_assoc, length-drop, length-append, drop-drop}
use Rattle.std.specs.List.{concat}
use Rattle.std.specs.Prelude.{nat_lt}
use Rattle.std.specs.Result.{is_err}
use Rattle.std.proofs.lemmas.Bool.{ltb-false, ltb-true}
use Rattle.std.proofs.lemmas.List.{append-nil, get_or-drop}
use Rattle.xet_outside.specs.declared.sink.SinkError.{SinkError}
use Rattle.xet_outside.specs.Told.{SinkTold, Took}
use Rattle.xet_queue.specs.declared.queued_term.QueuedTerm.{QueuedTerm}
use Rattle.xet_queue.specs.Pieces.{WrotePieces, bytes_before}
use Rattle.xet_queue.specs.Queues.{admissions, ready, ready_bytes}
use Rattle.xet_queue.specs.Sequential.{Sequential, Passed}
use Rattle.xet_queue.specs.steps.Batches.{BatchCall, SentReady}
use Rattle.xet_queue.specs.Sequential.{PassedAll}
use Rattle.xet_queue.proofs.Batches.{WroteTerms, batch_done, batch_err, batch_room, before_both}
use Rattle.xet_queue.proofs.Joined.{each_all, split}
use Rattle.xet_queue.proofs.Gone.{admissions_both}

-- some ready terms were written and left the queue
pub record SentSo {S : Type 0} (told : S → SinkTold) (b m : Sequential S) (count : ℕ) : Type 0 where
  pub terms : ℕ
  pub passed : Passed b m terms
  pub rest : ready m.queue ≡ drop terms (ready b.queue)
  pub count_is : count ≡ bytes_before terms (ready b.queue)
  pub took : Took (told b.sink).took (told m.sink).took (concat (take terms (ready b.queue)))
  pub flushed : (told m.sink).flushed ≡ (told b.sink).flushed
  pub link : (told m.sink).link ≡ (told b.sink).link
  pub unfailed : (told m.sink).faults ≡ (told b.sink).faults
  pub kept : m.kept ≡ b.kept

took_none : (a : Option (List ℕ)) → Took a a []
took_none None = refl
took_none (Some xs) = ap Some (sym (append-nil xs))

pub sent_none : {S : Type 0} (told : S → SinkTold) (b : Sequential S) → SentSo told b b 0
sent_none told b = record {
  terms = 0;
  passed = record { within = omega arith; queue = refl; released = sym (append-nil b.released); delivered = omega arith; expected = refl; finished = refl; vectored = refl };
  rest = refl;
  count_is = refl;
  took = took_none (told b.sink).took;
  flushed = refl;
  link = refl;
  unfailed = refl;
  kept = refl;
}

-- a batch by its place among all terms
among : (b c : SinkTold) (ps qs : List (List ℕ)) (at n count : ℕ) (answer : Result (Unit {0}) SinkError) → at ≤ length ps → qs ≡ drop at ps → n ≤ length qs → WrotePieces 24 b c (take n qs) count answer → WroteTerms b c ps at (at + n) count answer
among b c ps qs at n count answer h e k w =
    let l = ap length e in
    let m = length-drop at ps in
    let x : n ≡ at + n - at = omega arith in
    let u = subst (λ (xs : List (List ℕ)). WrotePieces 24 b c (take n xs) count answer) e w in
    record { ahead = omega arith; within = omega arith; wrote = subst (λ (j : ℕ). WrotePieces 24 b c (take j (drop at ps)) count answer) x u }

-- terms that left after others
passed_both : {S : Type 0} (b m n : Sequential S) (at k : ℕ) → Passed b m at → ready m.queue ≡ drop at (ready b.queue) → Passed m n k → Passed b n (at + k)
passed_both b m n at k p r q =
    let l = ap length r in
    let ld = length-drop at (ready b.queue) in
    let w = p.within in
    let v = q.within in
    let a = before_both at k (ready b.queue) in
    let c = ap (λ (ps : List (List ℕ)). bytes_before k ps) r in
    let d = p.delivered in
    let e = q.delivered in
    record {
      within = omega arith;
      queue = q.queue ∙ ap (λ (l : List QueuedTerm). drop k l) p.queue ∙ drop-drop k at b.queue;
      released = q.released ∙ ap (λ l. l ++ admissions (take k m.queue)) p.released ∙ append_assoc b.released (admissions (take at b.queue)) (admissions (take k m.queue)) ∙ ap (λ (l : List QueuedTerm). b.released ++ (admissions (take at b.queue) ++ admissions (take k l))) p.queue ∙ ap (λ l. b.released ++ l) (sym (admissions_both at k b.queue));
      delivered = omega arith;
      expected = q.expected ∙ p.expected;
      finished = q.finished ∙ p.finished;
      vectored = q.vectored ∙ p.vectored;
    }

-- the sink is none of what leaving says
passed_of : {S : Type 0} (b n : Sequential S) (s : S) (k : ℕ) → Passed (record b { sink = s }) n k → Passed b n k
passed_of b n s k q = record { within = q.within; queue = q.queue; released = q.released; delivered = q.delivered; expected = q.expected; finished = q.finished; vectored = q.vectored }

passed_over : {S : Type 0} (b n : Sequential S) (s : S) (k : ℕ) → Passed b n k → Passed (record b { sink = s }) n k
passed_over b n s k q = record { within = q.within; queue = q.queue; released = q.released; delivered = q.delivered; expected = q.expected; finished = q.finished; vectored = q.vectored }

pub sent_more : {S : Type 0} (told : S → SinkTold) (b m n : Sequential S) (count terms sent : ℕ) → SentSo told b m count → BatchCall told m n terms sent (Ok tt) → SentSo told b n (count + sent)
sent_more told b m n count terms sent s c =
    let w = among (told m.sink) (told n.sink) (ready b.queue) (ready m.queue) s.terms terms sent (Ok tt) s.passed.within s.rest c.within c.wrote in
    let q = batch_done (told b.sink) (told m.sink) (told n.sink) (ready b.queue) s.terms (s.terms + terms) count sent s.count_is s.took w in
    record {
      terms = s.terms + terms;
      passed = passed_both b m n s.terms terms s.passed s.rest c.done;
      rest = c.left ∙ ap (λ (ps : List (List ℕ)). drop terms ps) s.rest ∙ drop-drop terms s.terms (ready b.queue);
      count_is = q.count_is;
      took = q.took;
      flushed = c.wrote.flushed ∙ s.flushed;
      link = c.wrote.link ∙ s.link;
      unfailed = c.wrote.unfailed ∙ s.unfailed;
      kept = c.kept ∙ s.kept;
    }

pub sent_err : {S : Type 0} (told : S → SinkTold) (b m n : Sequential S) (count terms sent : ℕ) (e : SinkError) → SentSo told b m count → BatchCall told m n terms sent (Err e) → SentReady told 24 b n (count + sent) (Err e)
sent_err told b m n count terms sent e s c =
    let ps = ready b.queue in
    let w = among (told m.sink) (told n.sink) ps (ready m.queue) s.terms terms sent (Err e) s.passed.within s.rest c.within c.wrote in
    let p = c.part in
    let k = p.terms in
    let used = p.used in
    let n0 = s.count_is in
    let a = before_both s.terms k ps in
    let r = ap (λ (xs : List (List ℕ)). bytes_before k xs) s.rest in
    let l = ap length s.rest in
    let ld = length-drop s.terms ps in
    let pw = s.passed.within in
    let g = ap (λ (xs : List (List ℕ)). length (get_or xs k [])) s.rest ∙ ap length (get_or-drop s.terms ps k []) in
    let sp = ap length (split ps s.terms) in
    let sa = length-append (concat (take s.terms ps)) (concat (drop s.terms ps)) in
    let rb = ap (λ (xs : List (List ℕ)). length (concat xs)) s.rest in
    record {
      wrote = batch_err (told b.sink) (told m.sink) (told n.sink) ps s.terms (s.terms + terms) count sent e s.count_is s.took s.flushed s.link s.unfailed w;
      passed = record {
        terms = s.terms + k;
        passed = passed_over b n n.sink (s.terms + k) (passed_both b m n s.terms k s.passed s.rest (passed_of m n n.sink k p.passed));
        used = omega arith;
        stuck = λ h. let z = p.stuck (omega arith) in omega arith;
        whole = λ h. let z = p.whole (omega arith) in omega arith;
        sink = refl;
        kept = c.kept ∙ s.kept;
      };
    }

-- nothing more is ready
pub sent_end : {S : Type 0} (told : S → SinkTold) (b m : Sequential S) (count : ℕ) → SentSo told b m count → length (ready m.queue) ≤ 0 → SentReady told 24 b m count (Ok tt)
sent_end told b m count s h =
    let ps = ready b.queue in
    let l = ap length s.rest in
    let ld = length-drop s.terms ps in
    let pw = s.passed.within in
    let n = s.count_is in
    record {
      wrote = each_all 24 (told b.sink) (told m.sink) ps s.terms count (omega arith) s.count_is s.took s.flushed s.link s.unfailed;
      passed = record {
        terms = s.terms;
        passed = passed_over b m m.sink s.terms s.passed;
        used = omega arith;
        stuck = λ k. absurd (omega arith);
        whole = λ k. omega arith;
        sink = refl;
        kept = s.kept;
      };
    }

stop_by : (terms n : ℕ) (b : Bool) → nat_lt 0 n ≡ b → terms ≡ 0 → (0 < n → 0 < terms) → n ≤ 0
stop_by terms n true e h f = let z = f (ltb-true 0 n e) in absurd (omega arith)
stop_by terms n false e h f = ltb-false 0 n e

-- a batch of no terms ends the ready ones
pub sent_stop : {S : Type 0} (told : S → SinkTold) (b m n : Sequential S) (count terms sent : ℕ) → SentSo told b m count → BatchCall told m n terms sent (Ok tt) → terms ≡ 0 → SentReady told 24 b n (count + sent) (Ok tt)
sent_stop told b m n count terms sent s c e =
    let l = ap length c.left in
    let d = length-drop terms (ready m.queue) in
    let z = stop_by terms (length (ready m.queue)) (nat_lt 0 (length (ready m.queue))) refl e c.some in
    sent_end told b n (count + sent) (sent_more told b m n count terms sent s c) (omega arith)

-- so many bytes fit
pub sent_room : {S : Type 0} (told : S → SinkTold) (b m n : Sequential S) (count terms sent limit : ℕ) (answer : Result (Unit {0}) SinkError) → SentSo told b m count → BatchCall told m n terms sent answer → length (ready_bytes b.queue) < limit → count + sent < limit
sent_room told b m n count terms sent limit answer s c h =
    let w = among (told m.sink) (told n.sink) (ready b.queue) (ready m.queue) s.terms terms sent answer s.passed.within s.rest c.within c.wrote in
    batch_room (told m.sink) (told n.sink) (ready b.queue) s.terms (s.terms + terms) count sent limit answer s.count_is w h

-- the bytes that are left are not more
pub sent_short : {S : Type 0} (told : S → SinkTold) (b m : Sequential S) (count limit : ℕ) → SentSo told b m count → length (ready_bytes b.queue) < limit → length (ready_bytes m.queue) < limit
sent_short told b m count limit s h =
    let ps = ready b.queue in
    let sp = ap length (split ps s.terms) in
    let sa = length-append (concat (take s.terms ps)) (concat (drop s.terms ps)) in
    let rb = ap (λ (xs : List (List ℕ)). length (concat xs)) s.rest in
    omega arith

-- ---- one batch

-- its bytes are those of its terms, where all were written
count_all : (a b : SinkTold) (ps : List (List ℕ)) (count : ℕ) (answer : Result (Unit {0}) SinkError) → is_err answer ≡ false → WrotePieces 24 a b ps count answer → count ≡ length (concat ps)
count_all a b ps count (Ok x) e w = w.whole.0
count_all a b ps count (Err x) e w = absurd (cc)

pub batch_count : (a b : SinkTold) (ps : List (List ℕ)) (n count : ℕ) (answer : Result (Unit {0}) SinkError) → is_err answer ≡ false → WrotePieces 24 a b (take n ps) count answer → count ≡ bytes_before n ps
batch_count a b ps n count answer e w = count_all a b (take n ps) count answer e w

-- a write failed, and the queue has its bytes again
pub batch_failed : {S : Type 0} (told : S → SinkTold) (b n : Sequential S) (s : S) (qs : List QueuedTerm) (terms count : ℕ) (answer : Result (Unit {0}) SinkError) → is_err answer ≡ true → qs ≡ b.queue → terms ≤ length (ready b.queue) → (0 < length (ready b.queue) → 0 < terms) → WrotePieces 24 (told b.sink) (told s) (take terms (ready b.queue)) count answer → PassedAll (record b { sink = s; queue = qs }) n count → BatchCall told b n terms count answer
batch_failed told b n s qs terms count (Ok x) e q h f w a = absurd (cc)
batch_failed {S = S} told b n s qs terms count (Err x) e q h f w a =
    let p : PassedAll (record b { sink = s }) n count = subst (λ (l : List QueuedTerm). PassedAll (record b { sink = s; queue = l }) n count) q a in
    record {
      within = h;
      some = f;
      wrote = rw p.sink w;
      done = tt;
      left = tt;
      part = record { terms = p.terms; passed = passed_over b n n.sink p.terms (passed_of b n s p.terms p.passed); used = p.used; stuck = p.stuck; whole = p.whole; sink = refl; kept = p.kept };
      kept = p.kept;
    }

-- the terms were written and left
pub batch_whole : {S : Type 0} (told : S → SinkTold) (b n : Sequential S) (s : S) (terms count : ℕ) (answer : Result (Unit {0}) SinkError) → is_err answer ≡ false → terms ≤ length (ready b.queue) → (0 < length (ready b.queue) → 0 < terms) → WrotePieces 24 (told b.sink) (told s) (take terms (ready b.queue)) count answer → ready (drop terms b.queue) ≡ drop terms (ready b.queue) → n ≡ record b { sink = s; queue = drop terms b.queue; released = b.released ++ admissions (take terms b.queue); delivered = b.delivered + count } → BatchCall told b n terms count answer
batch_whole told b n s terms count (Err x) e h f w r q = absurd (cc)
batch_whole told b n s terms count (Ok tt) e h f w r q =
    let k : n.sink ≡ s = ap (λ v. v.sink) q in
    let d : n.delivered ≡ b.delivered + count = ap (λ v. v.delivered) q in
    let c = w.whole.0 in
    record {
      within = h;
      some = f;
      wrote = rw k w;
      done = record {
        within = h;
        queue = ap (λ v. v.queue) q;
        released = ap (λ v. v.released) q;
        delivered = omega arith;
        expected = ap (λ v. v.expected) q;
        finished = ap (λ v. v.finished) q;
        vectored = ap (λ v. v.vectored) q;
      };
      left = ap (λ v. ready v.queue) q ∙ r;
      part = tt;
      kept = ap (λ v. v.kept) q;
    }
