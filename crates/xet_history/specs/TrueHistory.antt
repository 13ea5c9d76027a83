-- Histories that are true of a store's file, and the bytes that they plan.
use Rattle.std.specs.Prelude.{ℕ, ◌≡◌, ◌+◌, ◌-◌, ◌<◌, ◌⊎◌, Bool, List, [], ◌∷◌, map, take, drop, All, slice_get}
use Rattle.std.specs.Prelude.{slice_index_or, option_map, unwrap_or}
use Rattle.std.specs.List.{flat_map}
use Rattle.xet_base.specs.declared.merklehash.MerkleHash.{MerkleHash}
use Rattle.xet_base.specs.declared.cas_types.FileRange.{FileRange}
use Rattle.xet_history.specs.Queries.{CutFrom}
use Rattle.xet_base.specs.Store.{Store}
use Rattle.xet_outside.specs.declared.block.BlockBytes.{BlockBytes}
use Rattle.xet_outside.specs.Plan.{plan_of, block_of}
use Rattle.xet_blocks.specs.declared.reconstruction_terms.file_term.FileTerm.{FileTerm}
use Rattle.xet_offers.specs.Blocks.{PlanBlock, blocks_of, block_ranges}
use Rattle.xet_blocks.specs.Terms.{terms_of}
use Rattle.xet_events.specs.declared.event.PlannedTerm.{PlannedTerm}
use Rattle.xet_events.specs.declared.event.PlannedBlock.{PlannedBlock}
use Rattle.xet_events.specs.declared.event.Event.{Event}
use Rattle.xet_events.specs.declared.event.Event.TheVariants.{Planned}
use Rattle.xet_events.specs.Events.{Task, last_of, planned}

-- what a run downloads: a range of a file, in queries of a least and a greatest size, over blocks of one or several
-- ranges
pub record Download : Type 0 where
  pub file : MerkleHash
  pub range : FileRange
  pub least : ℕ
  pub greatest : ℕ
  pub multirange : Bool

-- a plan's term, as the core has it
abbrev pub planned_term : FileTerm → PlannedTerm
planned_term t = record {
  byte_range = t.byte_range;
  block = t.xorb_block;
  start_index = t.xorb_block_start_index;
  offset = t.offset_into_first_range;
}

-- a plan's block, as the core has it
abbrev pub planned_block : PlanBlock → PlannedBlock
planned_block b = record { xorb = b.xorb; ranges = block_ranges b }

-- the query of a Planned event
abbrev pub queries_in : Event → List FileRange
queries_in (Planned plan query terms blocks) = query ∷ []
queries_in _ = []

-- the queries of the plans, in their order
abbrev pub queries : List Event → List FileRange
queries es = flat_map queries_in es

-- where the queries end, or the given place where there are none
abbrev pub queries_end : List Event → ℕ → ℕ
queries_end es place = last_of place (map (λ q. q.end) (queries es))

-- a plan has the terms and blocks of the store's plan of its query, which are none past the file's end
abbrev pub IsTrueEvent : Store → MerkleHash → Bool → Event → Type 0
IsTrueEvent s f multi (Planned plan query terms blocks) =
    (terms ≡ map planned_term (terms_of (plan_of s f query) query multi))
    × (blocks ≡ map planned_block (blocks_of (plan_of s f query) multi))
IsTrueEvent s f multi _ = Unit {0}

-- the queries cut the range from its start on, and each plan is that of the store
pub record IsTrueHistory (s : Store) (d : Download) (es : List Event) : Type 0 where
  pub cuts : CutFrom d.range.start d.range.end (d.greatest + d.least) (queries es)
  pub plans : All (IsTrueEvent s d.file d.multirange) es

-- ---- the end of a range

-- a plan was answered past the end, or with terms that end before its query does
abbrev pub EndsEarly : Event → Type 0
EndsEarly (Planned plan query terms blocks) =
    last_of query.start (map (λ t. t.byte_range.end) terms) < query.end
EndsEarly _ = ⊥

-- some plan was
abbrev pub SomeEndsEarly : List Event → Type 0
SomeEndsEarly [] = ⊥
SomeEndsEarly (e ∷ es) = EndsEarly e ⊎ SomeEndsEarly es

-- the queries reach the range's end, or a plan ends early
abbrev pub ReachesEnd : FileRange → List Event → Type 0
ReachesEnd r es = (queries_end es r.start ≡ r.end) ⊎ SomeEndsEarly es

-- ---- pieces

-- the bytes of a term in its block: its length of bytes, from the place of its first chunk plus its offset
abbrev pub piece_in : BlockBytes → PlannedTerm → List ℕ
piece_in b t =
    take (t.byte_range.end - t.byte_range.start) (drop (slice_index_or b.offsets t.start_index 0 + t.offset) b.bytes)

-- the piece of a planned term: its bytes in its block of the store
abbrev pub task_piece : Store → Task → List ℕ
task_piece s t =
    unwrap_or (option_map (λ b. piece_in (block_of s b.xorb b.ranges) t.term) (slice_get t.blocks t.term.block)) []

-- the pieces of the planned terms, joined
abbrev pub pieces : Store → List Event → List ℕ
pieces s es = flat_map (task_piece s) (planned es)
