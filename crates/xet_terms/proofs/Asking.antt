-- A manager's due queries, asked in order.
use Rattle.std.proofs.Common.{◌≡◌, ℕ, suc, ◌+◌, ◌<◌, ◌≤◌, Bool, true, false, cond, List, [], ◌∷◌, ◌++◌, append_assoc, length, take, drop, Some, None, Ok, Err, Option, Result, refl, sym, ◌∙◌, ap, subst, inl, inr, min, arith, length-append}
use Rattle.std.specs.Prelude.{nat_lt, nat_le, slice_get, filter, IfErr, MatchOption, OnErr, OnOk}
use Rattle.std.proofs.lemmas.Bool.{leb-true, leb-false}
use Rattle.std.proofs.lemmas.List.{append-nil, length-take, length-drop}
use Rattle.xet_base.specs.declared.cas_types.FileRange.{FileRange}
use Rattle.xet_base.specs.declared.unique_id.UniqueId.{UniqueId}
use Rattle.xet_outside.specs.Told.{ClientTold}
use Rattle.xet_error.specs.declared.error.Corruption.TheVariants.{PastKnownEnd}
use Rattle.xet_error.specs.declared.error.FileReconstructionError.{FileReconstructionError}
use Rattle.xet_error.specs.declared.error.FileReconstructionError.TheVariants as error
use Rattle.xet_blocks.specs.declared.reconstruction_terms.file_term.TermBlock.{TermBlock}
use Rattle.xet_terms.specs.Managers.{IsManager, Manager, PassesKnownEnd, accepted, looked_ahead, scheduled_end, waiting_after, without_past}
use Rattle.xet_terms.specs.NextTerms.{AskCall, AskFails, AskOk, AskedAll, DueCall, DueOk, HandedOut, NextCall, QueriesKeep, StillWait, due_id, query_of, reopened, with_asked}
use Rattle.xet_blocks.specs.PlanQuery.{PlanQuery}
use Rattle.xet_blocks.specs.TermBlockCalls.{TermBlockCall}
use Rattle.xet_terms.proofs.Managing.{GoesOn, accepted_goes_on, covered, looked_goes_on, looked_same, reaches_end}

-- ---- one query

keeps_by : (b n : ClientTold) (query : PlanQuery) (a : Result (Option TermBlock) FileReconstructionError) → TermBlockCall b n query a → QueriesKeep b n
keeps_by b n query a c = record { store = c.store; served = c.served; faults = c.faults; expiries = c.expiries; link = c.link }

pub ask_err : (m : Manager) (b n : ClientTold) (q : FileRange) (id : UniqueId) (e : FileReconstructionError) → TermBlockCall b n (query_of m q id) (Err e) → AskCall m m b n q id (Err e)
ask_err m b n q id e c = record { keeps = keeps_by b n (query_of m q id) (Err e) c; ok = tt; err = (refl, inr (inl c)) }

pub ask_taken : (m now : Manager) (b n : ClientTold) (q : FileRange) (id : UniqueId) (o : Option TermBlock) (answer : Result (Unit {0}) FileReconstructionError)
    → TermBlockCall b n (query_of m q id) (Ok o)
    → (PassesKnownEnd m q o → answer ≡ Err (error.CorruptedReconstruction (PastKnownEnd m.known_end q.start)))
    → IfErr answer (λ e. (PassesKnownEnd m q o → ⊥) → e ≡ error.OutOfMemory)
    → OnErr answer (now ≡ m) → OnOk answer (now ≡ accepted m q o) → AskCall m now b n q id answer
ask_taken m now b n q id o (Ok x) c past other kept ok =
    record { keeps = keeps_by b n (query_of m q id) (Ok o) c; ok = record { answer = o; call = c; within = λ h. absurd (let same = past h in cc); taken = ok }; err = tt }
ask_taken m now b n q id o (Err e) c past other kept ok =
    record { keeps = keeps_by b n (query_of m q id) (Ok o) c; ok = tt; err = (kept, go o c past other) }
  where
    go : (o : Option TermBlock) → TermBlockCall b n (query_of m q id) (Ok o)
        → (PassesKnownEnd m q o → ◌≡◌ {A = Result (Unit {0}) FileReconstructionError} (Err e) (Err (error.CorruptedReconstruction (PastKnownEnd m.known_end q.start))))
        → ((PassesKnownEnd m q o → ⊥) → e ≡ error.OutOfMemory) → AskFails m b n q id e
    go None c past other = inl (None, c, other (λ h. h))
    go (Some t) c past other = by_test (nat_le m.known_end q.start) refl
      where
        by_test : (x : Bool) → nat_le m.known_end q.start ≡ x → AskFails m b n q id e
        by_test true h =
            let le = leb-true m.known_end q.start h in
            let same = past le in
            let is : e ≡ error.CorruptedReconstruction (PastKnownEnd m.known_end q.start) = cc in
            inr (inr (Some t, c, le, is))
        by_test false h = inl (Some t, c, other (λ le. absurd (let gt = leb-false m.known_end q.start h in omega arith)))

-- ---- all of them

pub record IsAsking (m now : Manager) (b n : ClientTold) : Type 0 where
  pub policy : ℕ
  pub count : ℕ
  pub asked : AskedAll count (looked_ahead (reopened m) policy) now b n
  pub goes : GoesOn now
  pub keeps : QueriesKeep b n
  pub failed : now.failed ≡ m.failed
  pub multirange : now.multirange ≡ m.multirange
  pub waits : StillWait m now

-- a plan that is taken waits behind those that waited
waits_more : (ws vs more : List TermBlock) → vs ≡ ws ++ more → (o : Option TermBlock) → (more : List TermBlock) × (waiting_after vs o ≡ ws ++ more)
waits_more ws vs more e None = (more, e)
waits_more ws vs more e (Some b) = (more ++ b ∷ [], ap (λ (l : List TermBlock). l ++ b ∷ []) e ∙ append_assoc ws more (b ∷ []))

waits_same : (m now : Manager) → now.waiting ≡ m.waiting → StillWait m now
waits_same m now e = ([], e ∙ sym (append-nil m.waiting))

keeps_self : (b : ClientTold) → QueriesKeep b b
keeps_self b = record { store = refl; served = refl; faults = omega arith; expiries = omega arith; link = refl }

keeps_both : (a b c : ClientTold) → QueriesKeep a b → QueriesKeep b c → QueriesKeep a c
keeps_both a b c x y =
    let xf = x.faults in let yf = y.faults in let xe = x.expiries in let ye = y.expiries in
    record { store = y.store ∙ x.store; served = y.served ∙ x.served; faults = omega arith; expiries = omega arith; link = y.link ∙ x.link }

pub asking_start : (m r now : Manager) (b : ClientTold) (answer : ℕ) → r ≡ reopened m → IsManager r → now ≡ looked_ahead r answer
    → (r.waiting ≡ [] → scheduled_end r < min r.known_end r.range.end → length now.queries ≡ length r.queries + 1) → IsAsking m now b b
asking_start m r now b answer e x looked ahead =
    let same = looked_same r now answer looked in
    record {
      policy = answer;
      count = 0;
      asked = (looked ∙ ap (λ r. looked_ahead r answer) e, refl);
      goes = looked_goes_on r now answer looked x (ap (λ (m : Manager). m.answered) e ∙ sym (ap (λ (m : Manager). m.asked) e)) ahead;
      keeps = keeps_self b;
      failed = ap (λ (m : Manager). m.failed) same ∙ ap (λ (m : Manager). m.failed) e;
      multirange = ap (λ (m : Manager). m.multirange) same ∙ ap (λ (m : Manager). m.multirange) e;
      waits = waits_same m now (ap (λ (m : Manager). m.waiting) same ∙ ap (λ (m : Manager). m.waiting) e);
    }

pub asking_more : (m last d now : Manager) (b a n : ClientTold) (q : FileRange) (id : UniqueId) → IsAsking m last b a → slice_get last.queries last.asked ≡ Some q
    → id ≡ due_id last → d ≡ with_asked last → IsManager d → AskCall d now a n q id (Ok tt) → IsAsking m now b n
asking_more m last d now b a n q id i due e step x call =
    let ok = call.ok in
    let answered = i.goes.answered in
    let taken : now ≡ accepted d q ok.answer = ok.taken in
    let asked : d.asked ≡ last.asked + 1 = ap (λ (m : Manager). m.asked) step in
    let had : d.answered ≡ last.answered = ap (λ (m : Manager). m.answered) step in
    let at : slice_get d.queries d.answered ≡ Some q = ap (λ (m : Manager). slice_get m.queries m.answered) step ∙ ap (slice_get last.queries) answered ∙ due in
    let more = waits_more m.waiting d.waiting i.waits.0 (ap (λ (m : Manager). m.waiting) step ∙ i.waits.1) ok.answer in
    record {
      policy = i.policy;
      count = suc i.count;
      asked = (last, a, i.asked, record { query = q; due = due; asked = subst (λ (d : Manager). AskOk d now a n q (due_id last)) step (subst (λ (id : UniqueId). AskOk d now a n q id) e ok) });
      goes = accepted_goes_on d now q ok.answer taken x (omega arith) at;
      keeps = keeps_both b a n i.keeps call.keeps;
      failed = ap (λ (m : Manager). m.failed) taken ∙ ap (λ (m : Manager). m.failed) step ∙ i.failed;
      multirange = ap (λ (m : Manager). m.multirange) taken ∙ ap (λ (m : Manager). m.multirange) step ∙ i.multirange;
      waits = (more.0, ap (λ (m : Manager). m.waiting) taken ∙ more.1);
    }

pub asking_done : (m now d : Manager) (b n : ClientTold) → IsAsking m now b n → slice_get now.queries now.asked ≡ None → d ≡ now → IsManager d → DueCall m d b n (Ok tt)
asking_done m now d b n i none same x =
    let goes = subst GoesOn (sym same) i.goes in
    let none_of : slice_get d.queries d.asked ≡ None = ap (λ (m : Manager). slice_get m.queries m.asked) same ∙ none in
    record {
      keeps = i.keeps;
      ok = record {
        policy = i.policy;
        count = i.count;
        asked = subst (λ (d : Manager). AskedAll i.count (looked_ahead (reopened m) i.policy) d b n) (sym same) i.asked;
        none = none_of;
        covered = λ empty. covered d x goes none_of empty;
        kept = x;
      };
      err = tt;
      waits = (i.waits.0, ap (λ (m : Manager). m.waiting) same ∙ i.waits.1);
      failed = ap (λ (m : Manager). m.failed) same ∙ i.failed;
    }

pub asking_fails : (m last d now : Manager) (b a n : ClientTold) (q : FileRange) (id : UniqueId) (e : FileReconstructionError) → IsAsking m last b a → slice_get last.queries last.asked ≡ Some q
    → id ≡ due_id last → d ≡ with_asked last → AskCall d now a n q id (Err e) → DueCall m now b n (Err e)
asking_fails m last d now b a n q id e i due same step call =
    let fails = call.err.1 in
    let left : now ≡ with_asked last = call.err.0 ∙ step in
    record {
      keeps = keeps_both b a n i.keeps call.keeps;
      ok = tt;
      err = inr (record {
        policy = i.policy;
        count = i.count;
        last = last;
        told = a;
        asked = i.asked;
        query = q;
        due = due;
        fails = subst (λ (d : Manager). AskFails d a n q (due_id last) e) step (subst (λ (id : UniqueId). AskFails d a n q id e) same fails);
        left = left;
      });
      waits = (i.waits.0, ap (λ (m : Manager). m.waiting) left ∙ i.waits.1);
      failed = ap (λ (m : Manager). m.failed) call.err.0 ∙ ap (λ (m : Manager). m.failed) step ∙ i.failed;
    }

pub due_memory : (m r now : Manager) (b : ClientTold) (e : FileReconstructionError) → r ≡ reopened m → now ≡ r → e ≡ error.OutOfMemory → DueCall m now b b (Err e)
due_memory m r now b e same kept memory = record {
  keeps = keeps_self b;
  ok = tt;
  err = inl (memory, kept ∙ same, refl);
  waits = waits_same m now (ap (λ (m : Manager). m.waiting) kept ∙ ap (λ (m : Manager). m.waiting) same);
  failed = ap (λ (m : Manager). m.failed) kept ∙ ap (λ (m : Manager). m.failed) same;
}

-- an answer leaves no more queries than there were
pub accepted_shorter : (m now : Manager) (b n : ClientTold) (q : FileRange) (id : UniqueId) → AskCall m now b n q id (Ok tt) → (length now.queries ≤ length m.queries) × (now.asked ≡ m.asked)
accepted_shorter m now b n q id c =
    let ok = c.ok in
    let e : now ≡ accepted m q ok.answer = ok.taken in
    (subst (λ (x : Manager). length x.queries ≤ length m.queries) (sym e) (go ok.answer), ap (λ (m : Manager). m.asked) e)
  where
    shorter : (p : FileRange → Bool) (xs : List FileRange) → length (filter p xs) ≤ length xs
    shorter p [] = omega arith
    shorter p (x ∷ xs) = kept (p x) (shorter p xs)
      where
        kept : (b : Bool) → length (filter p xs) ≤ length xs → length (cond b (x ∷ filter p xs) (filter p xs)) ≤ suc (length xs)
        kept true h = omega arith
        kept false h = omega arith

    past : (known : ℕ) → length (without_past m.asked known m.queries) ≤ length m.queries
    past known =
        let l = length-append (take m.asked m.queries) (filter (λ q. nat_lt q.start known) (drop m.asked m.queries)) in
        let s = shorter (λ q. nat_lt q.start known) (drop m.asked m.queries) in
        let t = length-take m.asked m.queries in
        let d = length-drop m.asked m.queries in
        omega arith

    go : (o : Option TermBlock) → length (accepted m q o).queries ≤ length m.queries
    go None = past (min m.known_end q.start)
    go (Some t) = past _

-- ---- the next terms

pub next_ok : (m middle now : Manager) (b n : ClientTold) (o : Option TermBlock) → m.failed ≡ None → DueCall m middle b n (Ok tt) → HandedOut middle now o → NextCall m now b n (Ok o)
next_ok m middle now b n o none due handed = record {
  keeps = due.keeps;
  again = λ e k. absurd (cc);
  ok = (none, record { middle = middle; asked = due.ok; handed = handed });
  err = λ h. tt;
}

pub handed_none : (m middle now : Manager) (b n : ClientTold) → DueOk m middle b n → middle.waiting ≡ [] → now ≡ middle → HandedOut middle now None
handed_none m middle now b n ok empty same =
    let is = ok.covered empty in
    (same, empty, is, reaches_end middle ok.kept is)

pub next_handed : (m middle now : Manager) (b n : ClientTold) (o : Option TermBlock) → m.failed ≡ None → DueCall m middle b n (Ok tt)
    → MatchOption o ((middle.waiting ≡ []) × (now ≡ middle)) (λ t. (middle.waiting ≡ t ∷ now.waiting) × (now ≡ record middle { waiting = now.waiting; handed_end = t.byte_range.end }))
    → NextCall m now b n (Ok o)
next_handed m middle now b n None none due h = next_ok m middle now b n None none due (handed_none m middle now b n due.ok h.0 h.1)
next_handed m middle now b n (Some t) none due h = next_ok m middle now b n (Some t) none due h

pub next_err : (m middle now : Manager) (b n : ClientTold) (e : FileReconstructionError) → m.failed ≡ None → DueCall m middle b n (Err e) → now ≡ record middle { failed = Some e } → NextCall m now b n (Err e)
next_err m middle now b n e none due same = record {
  keeps = due.keeps;
  again = λ d k. absurd (cc);
  ok = tt;
  err = λ h. record { middle = middle; fails = due.err; waits = due.waits; kept = same };
}
