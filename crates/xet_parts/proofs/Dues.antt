-- The query that is due.
use Rattle.std.proofs.Common.{◌≡◌, ℕ, ◌+◌, ◌<◌, min, [], List, length, Some, None, Ok, Err, refl, sym, subst, ◌∙◌, ap, inl, inr}
use Rattle.std.specs.Prelude.{slice_get}
use Rattle.xet_outside.specs.Told.{Rose, SignalTold}
use Rattle.xet_error.specs.declared.error.FileReconstructionError.{FileReconstructionError}
use Rattle.xet_error.specs.declared.error.FileReconstructionError.TheVariants as error
use Rattle.xet_events.specs.declared.event.Event.{Event}
use Rattle.xet_terms.specs.declared.manager.PlanDue.{PlanDue}
use Rattle.xet_terms.specs.Managers.{IsManager, Manager, looked_ahead, scheduled_end}
use Rattle.xet_terms.proofs.CallerLemmas.{covered, looked_goes_on, looked_same}
use Rattle.xet_ties.specs.Setup.{RunTold, Setup}
use Rattle.xet_ties.specs.PartCalls.{PollCall}
use Rattle.xet_ties.specs.Ties.{Slack, Ties}
use Rattle.xet_ties.proofs.CallerLemmas.{poll_ties, stop_ties}
use Rattle.xet_parts.specs.DueQueries.{CancelledDue, NextDueCall, NoneDue, OneDue}

-- ---- the function

-- a look ahead that found no memory
pub due_short : (m now : Manager) (s : SignalTold) (e : FileReconstructionError) → now ≡ m → e ≡ error.OutOfMemory → NextDueCall m now s s (Err e)
due_short m now s e same memory = record { ok = tt; err = inl (memory, same, refl) }

-- none is scheduled after it
pub due_none : (m looked now : Manager) (s : SignalTold) (policy : ℕ) → looked ≡ looked_ahead m policy
    → (m.waiting ≡ [] → scheduled_end m < min m.known_end m.range.end → length looked.queries ≡ length m.queries + 1)
    → slice_get looked.queries looked.asked ≡ None → now ≡ looked → IsManager now → NextDueCall m now s s (Ok None)
due_none m looked now s policy is ahead none same kept =
    let at : now ≡ looked_ahead m policy = same ∙ is in
    let more : m.waiting ≡ [] → scheduled_end m < min m.known_end m.range.end → length now.queries ≡ length m.queries + 1 = (λ w h. ap (λ (x : Manager). length x.queries) same ∙ ahead w h) in
    let none_now : slice_get now.queries now.asked ≡ None = ap (λ (x : Manager). slice_get x.queries x.asked) same ∙ none in
    let stay = looked_same m now policy at in
    let asked : now.asked ≡ m.asked = ap (λ (x : Manager). x.asked) stay in
    let answered : now.answered ≡ m.answered = ap (λ (x : Manager). x.answered) stay in
    record {
      ok = record {
        policy = policy;
        is = at;
        none = none_now;
        signal = refl;
        kept = kept;
        covered = λ known all empty. covered now kept (looked_goes_on m now policy at known (sym answered ∙ all ∙ asked) more) none_now empty;
      };
      err = tt;
    }

-- one is, and the signal was asked
pub due_one : (m looked now : Manager) (a b : SignalTold) (d : PlanDue) (policy : ℕ) → looked ≡ looked_ahead m policy → slice_get looked.queries looked.asked ≡ Some d.query
    → d.id ≡ record { plan = looked.asked + 1; refresh = 0 } → now ≡ record looked { asked = looked.asked + 1 } → IsManager now → PollCall a b (Ok tt) → NextDueCall m now a b (Ok (Some d))
due_one m looked now a b d policy is due id asked kept poll =
    record { ok = record { takes = record { policy = policy; looked = looked; is = is; due = due; id = id; asked = asked; kept = kept }; signal = poll.calm }; err = tt }

pub due_stopped : (m looked now : Manager) (a b : SignalTold) (d : PlanDue) (policy : ℕ) (e : FileReconstructionError) → looked ≡ looked_ahead m policy → slice_get looked.queries looked.asked ≡ Some d.query
    → d.id ≡ record { plan = looked.asked + 1; refresh = 0 } → now ≡ record looked { asked = looked.asked + 1 } → IsManager now → PollCall a b (Err e) → NextDueCall m now a b (Err e)
due_stopped m looked now a b d policy e is due id asked kept poll =
    record { ok = tt; err = inr (poll.stop.0, record { due = d; takes = record { policy = policy; looked = looked; is = is; due = due; id = id; asked = asked; kept = kept }; signal = poll.stop.1 }) }

-- ---- the ties

-- where none is due the signal is as before
pub none_due_ties : (g : Setup) (b at : RunTold) (es : List Event) (sl : Slack) (m now : Manager) (x y : SignalTold) → at.signal ≡ x → NoneDue m now x y → Ties g b at es None sl → Ties g b (record at { signal = y }) es None sl
none_due_ties g b at es sl m now x y is d t = subst (λ (s : SignalTold). Ties g b (record at { signal = s }) es None sl) (is ∙ sym d.signal) t

-- where one is, it was asked once more than there are plans
pub one_due_ties : (g : Setup) (b at : RunTold) (es : List Event) (sl : Slack) (m now : Manager) (x y : SignalTold) (d : PlanDue) → at.signal ≡ x → OneDue m now x y d → Ties g b at es None sl
    → Ties g b (record at { signal = y }) es None (record sl { spare = sl.spare + 1 })
one_due_ties g b at es sl m now x y d is o t = poll_ties g b at es sl x y is (record { calm = o.signal; stop = tt }) t

-- where it said yes, its count rose
pub cancelled_due_ties : (g : Setup) (b at : RunTold) (es : List Event) (sl : Slack) (m now : Manager) (x y : SignalTold) → at.signal ≡ x → CancelledDue m now x y → Ties g b at es None sl
    → Ties g b (record at { signal = y }) es None sl × Rose b.signal.yes y.yes
cancelled_due_ties g b at es sl m now x y is c t = stop_ties g b at es sl x y is c.signal t
