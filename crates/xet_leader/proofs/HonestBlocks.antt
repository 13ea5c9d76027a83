-- What a valid store has of the blocks of its own plans.
use Rattle.std.proofs.Common.{◌≡◌, ℕ, ◌<◌, List, length, sym, subst, ◌∙◌, ap}
use Rattle.std.specs.Prelude.{All, None, Option, Some, option_map, slice_get}
use Rattle.std.proofs.lemmas.List.Elements.{All-get_or}
use Rattle.std.proofs.lemmas.Option.{get_or_from_slice_get, slice_get-map, slice_get_within}
use Rattle.xet_base.specs.declared.cas_types.FileRange.{FileRange}
use Rattle.xet_base.specs.Store.{IsValid, Store}
use Rattle.xet_outside.specs.declared.plan.Plan.{Plan}
use Rattle.xet_outside.specs.Plan.{block_of, plan_of, shape}
use Rattle.xet_outside.specs.Told.{Holds}
use Rattle.xet_offers.specs.declared.reconstruction_terms.xorb_block.XorbBlock.{XorbBlock}
use Rattle.xet_offers.specs.BlockCalls.{failed_check}
use Rattle.xet_blocks.specs.TermBlocks.{xorb_blocks}
use Rattle.xet_fetch.proofs.CallerLemmas.{honest_tables}
use Rattle.xet_events.specs.declared.event.Event.{Event}
use Rattle.xet_ties.specs.Setup.{IsOver, RunTold, Setup}
use Rattle.xet_ties.specs.Ties.{Slack}
use Rattle.xet_leader.specs.declared.leader.LedPlan.{LedPlan}
use Rattle.xet_leader.specs.Led.{IsLedPlan, bare}
use Rattle.xet_leader.proofs.RefreshTables.{honest_query, is_made, made_block, made_query}

-- the store holds the block's chunks, and its bytes pass the block's tests
pub record IsHonestOf (s : Store) (x : XorbBlock) : Type 0 where
  pub holds : Holds s x.xorb_hash x.chunk_ranges
  pub passes : failed_check x (block_of s x.xorb_hash x.chunk_ranges) ≡ None

plan_honest : (g : Setup) (s : Store) → IsValid s → (p : Plan) (q : FileRange) → shape p ≡ plan_of s g.file q
    → 0 < length p.terms → All (IsHonestOf s) (xorb_blocks (shape p) g.multirange)
plan_honest g s v p q is some =
    let all = honest_tables s v p (made_query g q) (made_block g p q) (is_made g p q)
    (honest_query s v g.file q p is some) some in
    λ k d w. record { holds = (all k d w).holds; passes = (all k d w).passes }

pub led_honest : (g : Setup) (b : RunTold) (es : List Event) (sl : Slack) (stale : List ℕ) (l : LedPlan) (k : ℕ)
    (x : XorbBlock) → IsLedPlan g b es sl stale l → slice_get l.block.blocks k ≡ Some x → (s : Store)
    → IsOver s b.clients → IsHonestOf s x
led_honest g b es sl stale l k x h at s over =
    let bs = xorb_blocks (shape h.plan) g.multirange in
    let there : slice_get bs k ≡ Some (bare x) = ap (λ (l : List XorbBlock). slice_get l k) (sym h.blocks)
    ∙ slice_get-map bare l.block.blocks k ∙ ap (λ (o : Option XorbBlock). option_map bare o) at in
    let all = plan_honest g s over.valid h.plan h.query (h.true_plan s over) h.accepted.said.some in
    let one = subst (IsHonestOf s) (get_or_from_slice_get bs k (bare x) (bare x) there)
    (All-get_or (IsHonestOf s) bs k (bare x) (slice_get_within bs k (bare x) there) all) in
    record { holds = one.holds; passes = one.passes }
