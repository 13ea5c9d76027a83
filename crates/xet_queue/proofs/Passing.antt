-- Terms that were written, one by one.
use Rattle.std.proofs.Common.{◌≡◌, ℕ, ◌+◌, get_or, List, [], ◌∷◌, ◌++◌, length, take, drop, ap, sym, ◌∙◌, refl, arith, length-append, append_assoc}
use Rattle.std.specs.Prelude.{option_to_list}
use Rattle.std.specs.List.{concat}
use Rattle.std.proofs.lemmas.List.{append-nil, drop_more}
use Rattle.std.proofs.lemmas.List.Folds.{concat-append}
use Rattle.xet_queue.specs.declared.queued_term.QueuedTerm.{QueuedTerm}
use Rattle.xet_queue.specs.Queues.{admissions, ready}
use Rattle.xet_queue.specs.Sequential.{Sequential, Passed}
use Rattle.xet_queue.specs.steps.QueueSteps.{IsStuck, PassedTerm}
use Rattle.xet_queue.specs.Sequential.{PassedAll}
use Rattle.xet_queue.proofs.Joined.{split}
use Rattle.xet_queue.proofs.Terms.{drop_next, drop_none, drop_some, ready_front, take_next}

-- so far
pub record PassedSo {S : Type 0} (b m : Sequential S) (left count : ℕ) : Type 0 where
  pub terms : ℕ
  pub passed : Passed b m terms
  pub used : length (concat (take terms (ready b.queue))) + left ≡ count
  pub rest : ready m.queue ≡ drop terms (ready b.queue)
  pub sink : m.sink ≡ b.sink
  pub kept : m.kept ≡ b.kept

admissions_more : (ts us : List QueuedTerm) → admissions (ts ++ us) ≡ admissions ts ++ admissions us
admissions_more [] us = refl
admissions_more (t ∷ ts) us = ap (λ l. option_to_list t.admission ++ l) (admissions_more ts us) ∙ sym (append_assoc (option_to_list t.admission) (admissions ts) (admissions us))

concat_one : (ps : List (List ℕ)) (bytes : List ℕ) → concat (ps ++ bytes ∷ []) ≡ concat ps ++ bytes
concat_one ps bytes = concat-append ps (bytes ∷ []) ∙ ap (λ (l : List ℕ). concat ps ++ l) (append-nil bytes)

pub passed_more : {S : Type 0} (b m n : Sequential S) (left rest count : ℕ) → PassedSo b m left count → PassedTerm m n left rest → PassedSo b n rest count
passed_more b m n left rest count s t =
    let k = s.terms in
    let p = s.passed in
    let r = ready_front m.queue n.queue t.term t.bytes t.front t.has in
    let e : drop k (ready b.queue) ≡ t.bytes ∷ ready n.queue = sym s.rest ∙ r in
    let f : drop k b.queue ≡ t.term ∷ n.queue = sym p.queue ∙ t.front in
    let tr = take_next (ready b.queue) k t.bytes (ready n.queue) e in
    let tq = take_next b.queue k t.term n.queue f in
    let lr : length (concat (take (k + 1) (ready b.queue))) ≡ length (concat (take k (ready b.queue))) + length t.bytes = ap (λ l. length (concat l)) tr ∙ ap length (concat_one (take k (ready b.queue)) t.bytes) ∙ length-append (concat (take k (ready b.queue))) t.bytes in
    let am : admissions (take (k + 1) b.queue) ≡ admissions (take k b.queue) ++ option_to_list t.term.admission = ap admissions tq ∙ admissions_more (take k b.queue) (t.term ∷ []) ∙ ap (λ l. admissions (take k b.queue) ++ l) (append-nil (option_to_list t.term.admission)) in
    let q = t.left_is in
    let nr : n.released ≡ m.released ++ option_to_list t.term.admission = ap (λ w. w.released) q in
    let nd : n.delivered ≡ m.delivered + length t.bytes = ap (λ w. w.delivered) q in
    let u = s.used in
    let v = t.rest_is in
    let pd = p.delivered in
    let ds = drop_some (ready b.queue) k t.bytes (ready n.queue) e in
    record {
      terms = k + 1;
      passed = record {
        within = omega arith;
        queue = sym (drop_next b.queue k t.term n.queue f);
        released = nr ∙ ap (λ l. l ++ option_to_list t.term.admission) p.released ∙ append_assoc b.released (admissions (take k b.queue)) (option_to_list t.term.admission) ∙ ap (λ l. b.released ++ l) (sym am);
        delivered = omega arith;
        expected = ap (λ w. w.expected) q ∙ p.expected;
        finished = ap (λ w. w.finished) q ∙ p.finished;
        vectored = ap (λ w. w.vectored) q ∙ p.vectored;
      };
      used = omega arith;
      rest = sym (drop_next (ready b.queue) k t.bytes (ready n.queue) e);
      sink = ap (λ w. w.sink) q ∙ s.sink;
      kept = ap (λ w. w.kept) q ∙ s.kept;
    }

-- a queue whose front does not fit is at its end, where all bytes were counted
stuck_end : (ts : List QueuedTerm) (left : ℕ) (ps : List (List ℕ)) → ready ts ≡ ps → IsStuck ts left → left ≡ length (concat ps) → ps ≡ []
stuck_end ts left [] e s h = refl
stuck_end ts left (p ∷ ps) e s h = let l = s p ps e in let a = length-append p (concat ps) in absurd (omega arith)

pub passed_all : {S : Type 0} (b m : Sequential S) (left count : ℕ) → PassedSo b m left count → IsStuck m.queue left → PassedAll b m count
passed_all b m left count s k =
    let u = s.used in
    record {
      terms = s.terms;
      passed = s.passed;
      used = omega arith;
      stuck = λ l.
          let d = drop_more (ready b.queue) s.terms [] l in
          let q = k (get_or (ready b.queue) s.terms []) (drop (s.terms + 1) (ready b.queue)) (s.rest ∙ d) in
          omega arith;
      whole = λ h.
          let a = ap length (split (ready b.queue) s.terms) in
          let d = length-append (concat (take s.terms (ready b.queue))) (concat (drop s.terms (ready b.queue))) in
          let z = stuck_end m.queue left (drop s.terms (ready b.queue)) s.rest k (omega arith) in
          let l = drop_none (ready b.queue) s.terms z in
          let w = s.passed.within in
          omega arith;
      sink = s.sink;
      kept = s.kept;
    }
