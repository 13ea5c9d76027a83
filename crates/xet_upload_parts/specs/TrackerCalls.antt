-- Calls of a tracker in which a refusal changes nothing.
use Rattle.std.specs.Prelude.{◌≡◌, ◌⊎◌, cond, List, [], ◌∷◌, ◌++◌, is_some}
use Rattle.xet_progress_state.specs.Accepted.{refusal_of}
use Rattle.xet_progress_state.specs.declared.step.TrackerStep.{TrackerStep}

-- the tracker after one call more: a call that it refuses changes nothing
abbrev pub with_call : List TrackerStep → TrackerStep → List TrackerStep
with_call before c = cond (is_some (refusal_of before c)) before (before ++ c ∷ [])

-- the tracker after these calls, one after another
abbrev pub with_calls : List TrackerStep → List TrackerStep → List TrackerStep
with_calls before [] = before
with_calls before (c ∷ cs) = with_calls (with_call before c) cs

-- the tracker accepted some of these calls, in order, each at most once
abbrev pub CalledSome : List TrackerStep → List TrackerStep → List TrackerStep → Type 0
CalledSome before after [] = after ≡ before
CalledSome before after (c ∷ cs) = CalledSome before after cs ⊎ CalledSome (before ++ c ∷ []) after cs
