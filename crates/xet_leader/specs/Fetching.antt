-- The fetches of a leader's missing blocks.
use Rattle.std.specs.Prelude.{ℕ, ◌≡◌, ◌+◌, ◌-◌, ◌^◌, ◌≤◌, min, List, [], ◌∷◌, ◌++◌, map, count_by, All, Some, Result}
use Rattle.std.specs.Prelude.{IfOk, IfErr, slice_get}
use Rattle.xet_base.specs.declared.cas_types.ChunkRange.{ChunkRange}
use Rattle.xet_base.specs.declared.merklehash.MerkleHash.{MerkleHash}
use Rattle.xet_error.specs.declared.error.FileReconstructionError.{FileReconstructionError}
use Rattle.xet_offers.specs.BlockCalls.{IsRequestOf}
use Rattle.xet_events.specs.declared.event.Event.{Event}
use Rattle.xet_events.specs.declared.event.PlannedBlock.{PlannedBlock}
use Rattle.xet_ties.specs.Lanes.{Ask, IsFor}
use Rattle.xet_ties.specs.Setup.{RunTold, Setup}
use Rattle.xet_ties.specs.Ties.{is_one, is_pair}
use Rattle.xet_ties.specs.Recordings.{AreUnkept, HasTry, IsFreshAsk, asks_for, blocks_all, key_of}
use Rattle.xet_ties.specs.Rounds.{IsMissingAsk}
use Rattle.xet_lane.specs.declared.lane.Fetch.{Fetch}
use Rattle.xet_lane.specs.Fetches.{ask_of}
use Rattle.xet_leader.specs.ByNumber.{plan_index}
use Rattle.xet_leader.specs.declared.leader.LedPlan.{LedPlan}
use Rattle.xet_leader.specs.declared.missing_blocks.BlockAt.{BlockAt}
use Rattle.xet_leader.specs.FetchLists.{IsFetchList}
use Rattle.xet_leader.specs.Led.{Led}
use Rattle.xet_leader.specs.Looks.{blocks_of, to_round}
use Rattle.xet_leader.specs.Steady.{IsFailing, IsGoing, Moment}

-- a fetch of the block of this place, by its own request
pub record IsFetch (ls : List LedPlan) (c : BlockAt) (number : ℕ) (f : Fetch) : Type 0 where
  pub plan : LedPlan
  pub at : slice_get ls (plan_index ls c.plan) ≡ Some plan
  pub of_plan : slice_get plan.block.blocks c.block ≡ Some f.block.now
  pub request_is : IsRequestOf f.block.now plan.block.urls (ask_of f).request
  pub numbered : f.number ≡ number

pub record AddsFetch (ls : List LedPlan) (c : BlockAt) (number : ℕ) (before after : List Fetch) : Type 0 where
  pub fetch : Fetch
  pub is_for : IsFetch ls c number fetch
  pub added : after ≡ before ++ fetch ∷ []

-- so each of these, numbered from a number on
abbrev pub AreFetches : List LedPlan → ℕ → List BlockAt → List Fetch → Type 0
AreFetches ls n [] [] = Unit {0}
AreFetches ls n [] (f ∷ fs) = ⊥
AreFetches ls n (c ∷ cs) [] = ⊥
AreFetches ls n (c ∷ cs) (f ∷ fs) = IsFetch ls c (min n (2 ^ 64 - 1)) f × AreFetches ls (n + 1) cs fs

-- what a round wants of its fetches: each is for its own block, which is missing, isn't expired and has tries left;
-- no
-- two are of one block; and these blocks wait to be fetched
pub record AreAsked (tries : ℕ) (es : List Event) (waiting : List PlannedBlock) (fs : List Ask) : Type 0 where
  pub own : All IsFor fs
  pub fresh : All (IsFreshAsk es) fs
  pub tried : All (HasTry tries es) fs
  pub missing : All (IsMissingAsk es) fs
  pub unkept : AreUnkept es fs
  pub once : (p k : ℕ) → count_by (is_pair p k) (map asks_for fs) ≤ 1
  pub pending : (x : MerkleHash) (r : ChunkRange)
      → count_by (is_one x r) (blocks_all (map key_of fs)) ≤ count_by (is_one x r) waiting

-- over any start, a run that goes on and is to fetch these blocks asks for them so; or it is to stop
pub record FetchesLead (g : Setup) (m : Moment) (l : Led) (cs : List BlockAt)
    (answer : Result (List Fetch) FileReconstructionError) : Type 0 where
  pub ok : (b : RunTold) → IsGoing g b m (to_round m.events cs) l → IsFetchList m.events l.finished cs
      → IfOk answer (λ fs. AreAsked g.tries m.events (blocks_of m.events cs) (map ask_of fs))
  pub err : (b : RunTold) → IsGoing g b m (to_round m.events cs) l → IfErr answer (IsFailing g b m)

abbrev pub FetchLeads : Led → List BlockAt → Result (List Fetch) FileReconstructionError → Type 0
FetchLeads l cs answer = (g : Setup) (m : Moment) → FetchesLead g m l cs answer
