-- Calls of a tracker of which some are accepted.
use Rattle.std.proofs.Common.{inl, inr, List, [], ◌∷◌, ◌++◌, refl}
use Rattle.std.specs.Prelude.{Option, Some, None, cond, is_some}
use Rattle.xet_base.specs.declared.invalid.Invalid.{Invalid}
use Rattle.xet_progress_state.specs.Accepted.{refusal_of}
use Rattle.xet_progress_state.specs.declared.step.TrackerStep.{TrackerStep}
use Rattle.xet_upload_parts.specs.TrackerCalls.{CalledSome, with_call, with_calls}

pub called-none : (before cs : List TrackerStep) → CalledSome before before cs
called-none before [] = refl
called-none before (c ∷ cs) = inl (called-none before cs)

-- a call that may be refused, and then others
some-of : (before : List TrackerStep) (c : TrackerStep) (cs : List TrackerStep) (o : Option Invalid) → CalledSome (before ++ c ∷ []) (with_calls (before ++ c ∷ []) cs) cs → CalledSome before (with_calls before cs) cs → CalledSome before (with_calls (cond (is_some o) before (before ++ c ∷ [])) cs) (c ∷ cs)
some-of before c cs None p q = inr p
some-of before c cs (Some w) p q = inl q

pub called-all : (before cs : List TrackerStep) → CalledSome before (with_calls before cs) cs
called-all before [] = refl
called-all before (c ∷ cs) = some-of before c cs (refusal_of before c) (called-all (before ++ c ∷ []) cs) (called-all before cs)

pub called-first : (before : List TrackerStep) (c : TrackerStep) (cs : List TrackerStep) → CalledSome before (with_call before c) (c ∷ cs)
called-first before c cs = go (refusal_of before c)
  where
    go : (o : Option Invalid) → CalledSome before (cond (is_some o) before (before ++ c ∷ [])) (c ∷ cs)
    go None = inr (called-none (before ++ c ∷ []) cs)
    go (Some w) = inl (called-none before cs)
