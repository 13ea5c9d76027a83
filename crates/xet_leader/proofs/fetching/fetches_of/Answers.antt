use Rattle.std.proofs.Common.{◌≡◌, ◌+◌, ◌-◌, ◌^◌, ◌<◌, [], List, length, min, rules, subst, sym}
use Rattle.xet_lane.specs.declared.lane.Fetch.{Fetch}
use Rattle.xet_leader.specs.Fetching.{AreFetches}
use Rattle.xet_leader.specs.Looks.{CanRequest}
use Rattle.xet_leader.proofs.AskedBlocks.{each_at, fetches_step}
use Rattle.xet_leader.proofs.fetching.fetches_of.Goals as goal

pub loop-place-init : goal.loop-place-init
loop-place-init c = subst (λ (fs : List Fetch). AreFetches c.args.plans.now.items c.args.first [] fs)
    (sym c.with_hint-made.ensures) tt

pub add_fetch-requires : goal.add_fetch-requires
add_fetch-requires c =
    let below : c.loop-place.place < length c.args.places.now = search rules in
    each_at (CanRequest c.args.plans.now.items) c.args.places.now c.loop-place.place
    (record { plan = 0; block = 0 }) below c.requires

pub loop-place-preserved : goal.loop-place-preserved
loop-place-preserved c =
    let below : c.loop-place.place < length c.args.places.now = search rules in
    let number : c.saturating_add-number.result ≡ min (c.args.first + c.loop-place.place) (2 ^ 64 - 1) =
    search rules in
    fetches_step c.args.plans.now.items c.args.first c.loop-place.place c.saturating_add-number.result
    c.args.places.now (record { plan = 0; block = 0 }) c.loop-place.made c.add_fetch.new.made below
    c.loop-place.invariant c.in-Ok.ensures.added number

pub returns-in-Err-clause-made : goal.returns-in-Err-clause-made
returns-in-Err-clause-made c = tt

pub returns-in-Err-clause-memory : goal.returns-in-Err-clause-memory
returns-in-Err-clause-memory c = c.in-Err.ensures.memory

pub returns-clause-memory : goal.returns-clause-memory
returns-clause-memory c = tt
