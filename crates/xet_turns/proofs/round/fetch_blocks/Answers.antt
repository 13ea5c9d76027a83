use Rattle.std.proofs.Common.{◌∙◌, List, refl, subst, sym}
use Rattle.std.specs.Prelude.{All, map}
use Rattle.xet_ties.specs.Lanes.{IsFor}
use Rattle.xet_lane.specs.declared.lane.Fetch.{Fetch}
use Rattle.xet_lane.specs.Fetches.{ask_of}
use Rattle.xet_turns.proofs.RoundFetches.{fetched_beside}
use Rattle.xet_turns.proofs.round.fetch_blocks.Goals as goal

pub fetches-requires : goal.fetches-requires
fetches-requires g c = c.requires.requests

pub fetch_and_write-requires-clause-parts : goal.fetch_and_write-requires-clause-parts
fetch_and_write-requires-clause-parts g c κs within = rw c.in-Ok.ensures.parts c.requires.parts

pub fetch_and_write-requires-clause-clients : goal.fetch_and_write-requires-clause-clients
fetch_and_write-requires-clause-clients g c κs within = c.requires.some

pub fetch_and_write-requires-clause-asks : goal.fetch_and_write-requires-clause-asks
fetch_and_write-requires-clause-asks g c κs within =
    subst (λ (fs : List Fetch). All IsFor (map ask_of fs)) (sym c.as_slice.ensures) c.in-Ok-fetches.ensures.own

pub returns-in-Err-clause-turn : goal.returns-in-Err-clause-turn
returns-in-Err-clause-turn g c =
    record { ok = tt; err = record { same = refl; memory = c.in-Err.ensures.memory } }

pub returns-in-Err-clause-parts : goal.returns-in-Err-clause-parts
returns-in-Err-clause-parts g c = c.in-Err.ensures.parts

pub returns-in-Err-fetches-clause-turn : goal.returns-in-Err-fetches-clause-turn
returns-in-Err-fetches-clause-turn g c =
    record { ok = tt; err = record { same = refl; memory = c.in-Err-fetches.ensures.memory } }

pub returns-in-Err-fetches-clause-parts : goal.returns-in-Err-fetches-clause-parts
returns-in-Err-fetches-clause-parts g c = c.in-Ok.ensures.parts

pub returns-in-Ok-fetch_and_write-clause-turn : goal.returns-in-Ok-fetch_and_write-clause-turn
returns-in-Ok-fetch_and_write-clause-turn g c =
    fetched_beside _ _ _ c.in-Ok-fetches.made c.as_slice.result.now _ _ c.in-Ok-fetch_and_write.joined _
    c.as_slice.ensures c.in-Ok-fetches.ensures.made c.in-Ok-fetch_and_write.ensures.call
    c.in-Ok-fetch_and_write.ensures.window c.in-Ok-fetch_and_write.ensures.lanes

pub returns-in-Ok-fetch_and_write-clause-parts : goal.returns-in-Ok-fetch_and_write-clause-parts
returns-in-Ok-fetch_and_write-clause-parts g c = c.in-Ok-fetch_and_write.ensures.parts ∙ c.in-Ok.ensures.parts
