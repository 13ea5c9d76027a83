-- Pulls until one isn't pending.
use Rattle.std.proofs.Common.{ℕ, zero, suc, ◌<◌, List, refl, sym, subst, ⊎_elim, Option, Ok}
use Rattle.std.specs.Prelude.{Result}
use Rattle.xet_outside.specs.Told.{CacheTold, ClientTold}
use Rattle.xet_error.specs.declared.error.FileReconstructionError.{FileReconstructionError}
use Rattle.xet_stream_rules.specs.declared.step.Step.TheVariants.{Pending}
use Rattle.xet_streams.specs.Parts.{Waited, WaitsSoFar}
use Rattle.xet_stream_rules.specs.Pulls.{Closed, Ended, PullCall, Refused, Stepped, WaitCall, Waits, with_ready}
use Rattle.xet_stream_rules.specs.Streams.{StreamView, waits_left}

pub none_yet : (b : StreamView) (cs : List ClientTold) (k : CacheTold) → WaitsSoFar b b cs cs k k
none_yet b cs k = record { steps = 0; waited = (refl, refl, refl) }

waits_more : (steps : ℕ) (b n p : StreamView) (cs ds xs : List ClientTold) (k l y : CacheTold)
    → Waited steps b n cs ds k l → PullCall n p ds xs l y (Ok Pending) → Waited (suc steps) b p cs xs k y
waits_more zero b n p cs ds xs k l y w c = (
  p,
  xs,
  y,
  subst (λ (j : CacheTold). PullCall b p cs xs j y (Ok Pending)) w.2
      (subst (λ (es : List ClientTold). PullCall b p es xs l y (Ok Pending)) w.1
      (subst (λ (v : StreamView). PullCall v p ds xs l y (Ok Pending)) w.0 c)),
  (refl, refl, refl),
)
waits_more (suc steps) b n p cs ds xs k l y w c =
    (w.0, w.1, w.2, w.3, waits_more steps w.0 n p w.1 ds xs w.2 l y w.4 c)

pub wait_more : (b n p : StreamView) (cs ds xs : List ClientTold) (k l y : CacheTold) → WaitsSoFar b n cs ds k l
    → PullCall n p ds xs l y (Ok Pending) → WaitsSoFar b p cs xs k y
wait_more b n p cs ds xs k l y w c =
    record { steps = suc w.steps; waited = waits_more w.steps b n p cs ds xs k l y w.waited c }

waits_done : (steps : ℕ) (b n p : StreamView) (cs ds xs : List ClientTold) (k l y : CacheTold)
    (answer : Result (Option (List ℕ)) FileReconstructionError) → Waited steps b n cs ds k l
    → PullCall n p ds xs l y (with_ready answer) → Waits steps b p cs xs k y answer
waits_done zero b n p cs ds xs k l y answer w c =
    subst (λ (j : CacheTold). PullCall b p cs xs j y (with_ready answer)) w.2
    (subst (λ (es : List ClientTold). PullCall b p es xs l y (with_ready answer)) w.1
    (subst (λ (v : StreamView). PullCall v p ds xs l y (with_ready answer)) w.0 c))
waits_done (suc steps) b n p cs ds xs k l y answer w c =
    (w.0, w.1, w.2, w.3, waits_done steps w.0 n p w.1 ds xs w.2 l y answer w.4 c)

pub wait_done : (b n p : StreamView) (cs ds xs : List ClientTold) (k l y : CacheTold)
    (answer : Result (Option (List ℕ)) FileReconstructionError) → WaitsSoFar b n cs ds k l
    → PullCall n p ds xs l y (with_ready answer) → WaitCall b p cs xs k y answer
wait_done b n p cs ds xs k l y answer w c =
    record { steps = w.steps; waits = waits_done w.steps b n p cs ds xs k l y answer w.waited c }

-- a pull that isn't there yet leaves fewer such pulls
pub wait_falls : (b n : StreamView) (cs ds : List ClientTold) (k l : CacheTold) → PullCall b n cs ds k l (Ok Pending)
    → waits_left n < waits_left b
wait_falls b n cs ds k l c =
    ⊎_elim
    (λ (w : Closed (record b { seen = c.seen }) n cs ds k l (Ok Pending)). absurd (let e = w.none in cc))
    (⊎_elim
    (λ (w : Refused (record b { seen = c.seen }) n cs ds k l (Ok Pending)). absurd (let e = w.is_error in cc))
    (⊎_elim
    (λ (w : Ended (record b { seen = c.seen }) n cs ds k l (Ok Pending)). absurd (let e = w.none in cc))
    (λ (w : Stepped (record b { seen = c.seen }) n cs ds k l (Ok Pending)).
    subst (λ (v : StreamView). waits_left v < waits_left b) (sym w.step.hands.2) (w.step.falls refl))))
    c.way
