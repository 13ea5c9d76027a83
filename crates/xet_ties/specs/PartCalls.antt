-- What the parts of a turn that touch one object do, over any moment of a run.
use Rattle.std.specs.Prelude.{ℕ, ◌≡◌, ◌+◌, false, true, cond, List, [], ◌∷◌, ◌++◌, map, Option, Some, None, Result}
use Rattle.std.specs.Prelude.{OnOk, OnErr, IfErr}
use Rattle.xet_base.specs.declared.cas_types.ChunkRange.{ChunkRange}
use Rattle.xet_base.specs.declared.cas_types.FileRange.{FileRange}
use Rattle.xet_base.specs.declared.unique_id.UniqueId.{UniqueId}
use Rattle.xet_outside.specs.declared.block.BlockBytes.{BlockBytes}
use Rattle.xet_outside.specs.declared.plan.Plan.{Plan}
use Rattle.xet_outside.specs.declared.plan.PlanAnswer.{PlanAnswer}
use Rattle.xet_outside.specs.Plan.{shape}
use Rattle.xet_outside.specs.declared.said.Said.{Said}
use Rattle.xet_outside.specs.declared.said.Said.TheVariants as said
use Rattle.xet_outside.specs.Told.{AskCall, CacheTold, ClientTold, Query, SignalTold}
use Rattle.xet_error.specs.declared.error.FileReconstructionError.{FileReconstructionError}
use Rattle.xet_error.specs.declared.error.FileReconstructionError.TheVariants as error
use Rattle.xet_blocks.specs.declared.reconstruction_terms.file_term.TermBlock.{TermBlock}
use Rattle.xet_offers.specs.declared.reconstruction_terms.xorb_block.XorbBlock.{XorbBlock}
use Rattle.xet_offers.specs.declared.reconstruction_terms.xorb_block.XorbBlockData.{XorbBlockData}
use Rattle.xet_blocks.specs.PlanQuery.{PlanQuery}
use Rattle.xet_offers.specs.PlanChecks.{covered}
use Rattle.xet_fetch.specs.CachedBlocks.{LookKeeps, LookOk, MaybeLooked}
use Rattle.xet_fetch.specs.Refreshes.{Refresh, plan_extents}
use Rattle.xet_events.specs.declared.event.Event.{Event}
use Rattle.xet_events.specs.declared.event.Event.TheVariants.{Cached, Cancel, Fail, Planned}
use Rattle.xet_events.specs.declared.event.PlannedBlock.{PlannedBlock}
use Rattle.xet_events.specs.declared.event.PlannedTerm.{PlannedTerm}
use Rattle.xet_events.specs.Limits.{LimitTold}
use Rattle.xet_events.specs.Events.{plan_count}
use Rattle.xet_history.specs.TrueHistory.{planned_term}
use Rattle.xet_ties.specs.Gains.{MayOffer}
use Rattle.xet_ties.specs.InCall.{Look}
use Rattle.xet_ties.specs.Saids.{IsQueryAnswer, planned_of}
use Rattle.xet_ties.specs.Setup.{RunTold, Setup}
use Rattle.xet_ties.specs.Moves.{heard_first}
use Rattle.xet_ties.specs.Ties.{Slack, Ties, has_one}

-- ---- limits

-- limits were asked for and terms admitted
pub record AdmitsCall (before after : LimitTold) (es fs : List Event) : Type 0 where
  pub ties : (g : Setup) (b at : RunTold) (sl : Slack) → at.limits ≡ before → Ties g b at es None sl
      → Ties g b (record at { limits = after }) fs None sl

-- ---- the signal

-- the signal was asked once: it said no, or the run is cancelled
pub record PollCall (before after : SignalTold) (answer : Result (Unit {0}) FileReconstructionError) : Type 0 where
  pub calm : OnOk answer (AskCall before after false)
  pub stop : IfErr answer (λ e. (e ≡ error.Cancelled) × AskCall before after true)

-- ---- plans

-- the terms and the blocks of an answer to a query; none past the end
abbrev pub terms_in : Option TermBlock → List PlannedTerm
terms_in None = []
terms_in (Some t) = map planned_term t.terms

abbrev pub blocks_of_answer : Option TermBlock → List PlannedBlock
blocks_of_answer None = []
blocks_of_answer (Some t) = map planned_of t.blocks

-- what is asked for a query
abbrev pub plan_query : Setup → FileRange → UniqueId → PlanQuery
plan_query g q id = record { file = g.file; range = q; multirange = g.multirange; id = id }

-- what is asked again for a plan of a query
abbrev pub plan_refresh : Setup → Plan → FileRange → Refresh
plan_refresh g p q = record {
  file = g.file;
  range = covered (shape p) q;
  multirange = g.multirange;
  blocks = plan_extents (shape p) g.multirange;
}

-- the event of an answer to a query
abbrev pub plan_event : List Event → FileRange → Option TermBlock → Event
plan_event es q t = Planned (plan_count es + 1) q (terms_in t) (blocks_of_answer t)

-- the first connection was asked for a plan, or for a plan's URLs again, and no event says so
pub record AskedShort (g : Setup) (before at : RunTold) (es : List Event) (slack : Slack)
    (after : List ClientTold) : Type 0 where
  pub queries : List Query
  pub answers : List Said
  pub ties : Ties g before (record at { clients = after }) es None
      (record slack { heard = heard_first queries answers slack.heard; lost = queries; calm = 0 })

-- it was asked this and said this answer to it
pub record AskedSaid (g : Setup) (before at : RunTold) (es : List Event) (slack : Slack)
    (after : List ClientTold) (q : FileRange) (answer : PlanAnswer) : Type 0 where
  pub ties : Ties g before (record at { clients = after }) es None
      (record slack {
        heard = heard_first ((g.file, q) ∷ []) (said.Plan answer ∷ []) slack.heard;
        lost = (g.file, q) ∷ [];
      })
  pub own : IsQueryAnswer g.file (heard_first ((g.file, q) ∷ []) (said.Plan answer ∷ []) slack.heard) q answer

-- ---- looks

-- a block was looked for: it is kept, and recorded as cached, where it was found
abbrev pub FoundBlock : XorbBlock → XorbBlock → ℕ → List Event → List Event → Option XorbBlockData → Type 0
FoundBlock x y p es fs None = (y ≡ x) × (fs ≡ es)
FoundBlock x y p es fs (Some d) = (y ≡ record x { kept = Some d }) × (fs ≡ es ++ Cached p x.xorb_block_index ∷ [])

-- a look for a block of a plan after which there is an answer: whether it is still missing
pub record LookedUp (x y : XorbBlock) (p : ℕ) (before after : CacheTold) (es fs : List Event) : Type 0 where
  pub found : Option XorbBlockData
  pub look : LookOk x before after found
  pub is : FoundBlock x y p es fs found

-- a look that ended for want of memory, before or after the cache was asked
pub record LookedShort (x : XorbBlock) (before after : CacheTold) (es fs : List Event) : Type 0 where
  pub same : fs ≡ es
  pub looked : MaybeLooked x x.chunk_ranges before after
  pub keeps : LookKeeps before after

-- the looks after one for this block, where it has one range
abbrev pub looks_after : XorbBlock → List ChunkRange → Option BlockBytes → List Look → List Look
looks_after x (r ∷ []) given ls = ls ++ (x.xorb_hash, r, given) ∷ []
looks_after x [] given ls = ls
looks_after x (r ∷ s ∷ rs) given ls = ls

-- the blocks that wait to be fetched after it
abbrev pub pending_after : Option XorbBlockData → PlannedBlock → List PlannedBlock → List PlannedBlock
pending_after None x ps = x ∷ ps
pending_after (Some d) x ps = ps

-- one look for a block
pub record LookUpCall (x y : XorbBlock) (p : ℕ) (before after : CacheTold) (es fs : List Event)
    (answer : Result (Unit {0}) FileReconstructionError) : Type 0 where
  pub looked : OnOk answer (LookedUp x y p before after es fs)
  pub short : OnErr answer (LookedShort x before after es fs)
  pub memory : IfErr answer (λ e. e ≡ error.OutOfMemory)
  pub entries : after.entries ≡ before.entries

-- ---- the end

-- the event by which an error is recorded
abbrev pub stop_event : FileReconstructionError → Event
stop_event error.Cancelled = Cancel
stop_event e = Fail e

-- ---- offers

abbrev pub total : List ℕ → ℕ
total [] = 0
total (n ∷ ns) = n + total ns

-- an entry is offered for a block of one range, where its data is there
abbrev pub offers_in : XorbBlock → Option XorbBlockData → ℕ
offers_in x None = 0
offers_in x (Some d) = cond (has_one (planned_of x)) 1 0

-- what a block with its data offers
abbrev pub offers_of : XorbBlock → ℕ
offers_of x = offers_in x x.kept

-- what a block keeps was offered, so many entries: that is tied where its data was served
abbrev pub OffersCall : CacheTold → CacheTold → XorbBlock → ℕ → Type 0
OffersCall before after x count = (g : Setup) (b at : RunTold) (es : List Event) (sl : Slack) (due : ℕ)
    → at.cache ≡ before → sl.due ≡ due + count → MayOffer g sl.heard x → Ties g b at es None sl
    → Ties g b (record at { cache = after }) es None (record sl { due = due })

-- one block was offered; for want of memory the cache is as before
pub record OfferOneCall (before after : CacheTold) (x : XorbBlock)
    (answer : Result (Unit {0}) FileReconstructionError) : Type 0 where
  pub done : OnOk answer (OffersCall before after x (offers_of x))
  pub kept : OnErr answer (after ≡ before)
  pub memory : IfErr answer (λ e. e ≡ error.OutOfMemory)
