-- What one look for a block does to a stream.
use Rattle.std.specs.Prelude.{◌≡◌, ◌++◌, Bool, true, List, [], ◌∷◌, cond}
use Rattle.xet_events.specs.declared.event.Event.{Event}
use Rattle.xet_events.specs.declared.event.Event.TheVariants.{Cached}
use Rattle.xet_ties.specs.InCall.{Look}
use Rattle.xet_ties.specs.Setup.{Setup}
use Rattle.xet_leader.specs.declared.missing_blocks.BlockAt.{BlockAt}
use Rattle.xet_stream_rules.specs.StepTold.{LooksOnce}
use Rattle.xet_stream_rules.specs.Moments.{At, Goes}

-- the event of a block that was found
abbrev pub found_event : BlockAt → Bool → List Event
found_event c found = cond found (Cached c.plan c.block ∷ []) []

-- one look, after which the block is kept or missing
pub record Looks (g : Setup) (x y : At) (c : BlockAt) (found : Bool) : Type 0 where
  pub goes : Goes g x y
  pub added : y.events ≡ x.events ++ found_event c found
  pub looks : List Look
  pub looked : LooksOnce looks x.cache y.cache
  -- what was found was looked for
  pub given : found ≡ true → (l : Look) × (looks ≡ l ∷ [])
  pub led : y.led ≡ record x.led { plans = y.led.plans }
