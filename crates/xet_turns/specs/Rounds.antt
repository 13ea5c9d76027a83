-- The fetches of a round, and what the round leaves.
use Rattle.std.specs.Prelude.{ℕ, ◌≡◌, ◌++◌, ◌≤◌, false, true, List, [], All, None, Some, count_by, map, slice_get, take}
use Rattle.std.specs.List.{flat_map}
use Rattle.xet_base.specs.declared.cas_types.ChunkRange.{ChunkRange}
use Rattle.xet_base.specs.declared.merklehash.MerkleHash.{MerkleHash}
use Rattle.xet_outside.specs.Told.{ClientTold}
use Rattle.xet_offers.specs.declared.reconstruction_terms.xorb_block.XorbBlock.{XorbBlock}
use Rattle.xet_events.specs.declared.event.Event.{Event}
use Rattle.xet_events.specs.declared.event.PlannedBlock.{PlannedBlock}
use Rattle.xet_events.specs.Events.{expires}
use Rattle.xet_ties.specs.declared.lane_step.LaneStep.{LaneStep}
use Rattle.xet_ties.specs.Lanes.{Ask, IsFor}
use Rattle.xet_ties.specs.Setup.{RunTold, Setup}
use Rattle.xet_ties.specs.Recordings.{asks_for, blocks_all, key_of, places_of}
use Rattle.xet_ties.specs.Rounds.{AfterRound, IsMissingAsk}
use Rattle.xet_ties.specs.Ties.{Slack, Ties, is_one, is_pair}
use Rattle.xet_leader.specs.declared.leader.LedPlan.{LedPlan}
use Rattle.xet_leader.specs.Expiries.{spends, stale_after}
use Rattle.xet_leader.specs.Led.{IsLed, Led}
use Rattle.xet_stages.specs.Outcomes.{plans_after, plans_kept}
use Rattle.xet_stages.specs.RoundRecords.{lanes_events}

-- ---- before

-- a block of these plans, by its plan's number and its own
pub record IsLedAt (ls : List LedPlan) (p k : ℕ) (x : XorbBlock) : Type 0 where
  pub index : ℕ
  pub plan : LedPlan
  pub at : slice_get ls index ≡ Some plan
  pub number : plan.number ≡ p
  pub in_plan : slice_get plan.block.blocks k ≡ Some x

-- the fetch is of a block of these plans
abbrev pub IsLedAsk : List LedPlan → Ask → Type 0
IsLedAsk ls a = IsLedAt ls a.request.acquisition.plan a.request.index a.block

-- the fetches of a round: each is of a block of these plans that is missing, by the block's own request, no two are
-- of
-- one block, and each of one range waits
pub record AreLedAsks (es : List Event) (pending : List PlannedBlock) (ls : List LedPlan)
    (fs : List Ask) : Type 0 where
  pub own : All IsFor fs
  pub led : All (IsLedAsk ls) fs
  pub missing : All (IsMissingAsk es) fs
  pub once : (p k : ℕ) → count_by (is_pair p k) (map asks_for fs) ≤ 1
  pub waits : (x : MerkleHash) (r : ChunkRange)
      → count_by (is_one x r) (blocks_all (map key_of fs)) ≤ count_by (is_one x r) pending

-- ---- after

-- a block has expired as often as there are tries
pub record IsSpent (tries : ℕ) (es : List Event) : Type 0 where
  pub plan : ℕ
  pub block : ℕ
  pub many : tries ≤ count_by (expires plan block) es

-- what is told then is tied to the history with all that the lanes did; and where each expired block has tries left,
-- the leader is led whose plans keep and count it
pub record RoundLeft (g : Setup) (b at : RunTold) (es : List Event) (sl : Slack) (ns : List ClientTold)
    (fs : List Ask) (steps : List (List LaneStep)) (l : Led) : Type 0 where
  pub slack : Slack
  pub ties : Ties g b (record at { clients = ns }) (es ++ lanes_events steps) None slack
  pub after : AfterRound b.clients at.clients es fs steps sl slack
  pub led : spends g.tries (flat_map places_of steps) (plans_kept steps l.plans) ≡ false
      → IsLed g b (es ++ lanes_events steps) slack (stale_after (flat_map places_of steps) [])
      (record l { plans = plans_after steps l.plans })
  -- wherever the recording of the lanes' events ends, what was recorded is tied
  pub short : (k : ℕ) → (to : Slack)
      × Ties g b (record at { clients = ns }) (es ++ take k (lanes_events steps)) None to
  pub spent : spends g.tries (flat_map places_of steps) (plans_kept steps l.plans) ≡ true
      → IsSpent g.tries (es ++ lanes_events steps)
