-- The answer to a query that is taken and recorded.
use Rattle.std.proofs.Common.{◌≡◌, Bool, true, false, List, [], Option, Some, None, Ok, Err, refl, arith, inl, inr}
use Rattle.std.specs.Prelude.{Result, nat_le}
use Rattle.std.proofs.lemmas.Bool.{leb-true, leb-false}
use Rattle.xet_base.specs.declared.cas_types.FileRange.{FileRange}
use Rattle.xet_outside.specs.Told.{ClientTold}
use Rattle.xet_error.specs.declared.error.Corruption.TheVariants.{PastKnownEnd}
use Rattle.xet_error.specs.declared.error.FileReconstructionError.{FileReconstructionError}
use Rattle.xet_error.specs.declared.error.FileReconstructionError.TheVariants as error
use Rattle.xet_blocks.specs.declared.reconstruction_terms.file_term.TermBlock.{TermBlock}
use Rattle.xet_blocks.specs.PlanQuery.{PlanQuery}
use Rattle.xet_blocks.specs.TermBlockCalls.{TermBlockCall}
use Rattle.xet_events.specs.declared.event.Event.{Event}
use Rattle.xet_terms.specs.Managers.{Manager, PassesKnownEnd}
use Rattle.xet_parts.specs.PlanAsks.{AnswerFails, AskPlanCall, TakenCall}

-- why a manager didn't take an answer
answer_fails : (m : Manager) (q : FileRange) (t : Option TermBlock) (e : FileReconstructionError)
    → (PassesKnownEnd m q t → ◌≡◌ {A = Result (Unit {0}) FileReconstructionError} (Err e) (Err (error.CorruptedReconstruction (PastKnownEnd m.known_end q.start))))
    → ((PassesKnownEnd m q t → ⊥) → e ≡ error.OutOfMemory) → AnswerFails m q t e
answer_fails m q None e past other = inl (other (λ h. h))
answer_fails m q (Some b) e past other = by (nat_le m.known_end q.start) refl
  where
    by : (v : Bool) → nat_le m.known_end q.start ≡ v → AnswerFails m q (Some b) e
    by true h =
        let le = leb-true m.known_end q.start h in
        let same = past le in
        let is : e ≡ error.CorruptedReconstruction (PastKnownEnd m.known_end q.start) = cc in
        inr (le, is)
    by false h = inl (other (λ le. absurd (let gt = leb-false m.known_end q.start h in omega arith)))

-- the manager didn't take it
pub taken_refused : (m now : Manager) (es : List Event) (q : FileRange) (t : Option TermBlock) (e : FileReconstructionError)
    → (PassesKnownEnd m q t → ◌≡◌ {A = Result (Unit {0}) FileReconstructionError} (Err e) (Err (error.CorruptedReconstruction (PastKnownEnd m.known_end q.start))))
    → ((PassesKnownEnd m q t → ⊥) → e ≡ error.OutOfMemory) → now ≡ m → TakenCall m now es es q t (Err e)
taken_refused m now es q t e past other same = record { ok = tt; err = record { fails = answer_fails m q t e past other; unrecorded = refl; left = inl same } }

-- the query failed
pub asked_none : (m : Manager) (b n : ClientTold) (es : List Event) (query : PlanQuery) (e : FileReconstructionError) → TermBlockCall b n query (Err e) → AskPlanCall m m b n es es query (Err e)
asked_none m b n es query e c = record { ok = tt; err = inl (record { call = c; untaken = refl; unrecorded = refl }) }

-- it was answered
pub asked_one : (m now : Manager) (b n : ClientTold) (es fs : List Event) (query : PlanQuery) (t : Option TermBlock) (answer : Result (Unit {0}) FileReconstructionError) → TermBlockCall b n query (Ok t)
    → TakenCall m now es fs query.range t answer → AskPlanCall m now b n es fs query answer
asked_one m now b n es fs query t (Ok a) c took = record { ok = record { answer = t; call = c; took = took.ok }; err = tt }
asked_one m now b n es fs query t (Err e) c took = record { ok = tt; err = inr (record { answer = t; call = c; left = took.err }) }
