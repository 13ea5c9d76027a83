use Rattle.std.proofs.Common.{[], ◌∷◌, take, arith, append_assoc}
use Rattle.xet_events.specs.declared.index.WaitingTerm.{WaitingTerm}
use Rattle.xet_events.specs.BlockTables.{block_id}
use Rattle.xet_events.specs.Indexes.{waiting_in}
use Rattle.xet_events.proofs.Plans.{waits_more}
use Rattle.xet_events.proofs.index.queue_terms.Goals as goal

pub loop-at-preserved : goal.loop-at-preserved
loop-at-preserved g c =
    let ts = g.S.PlanSource.terms c.args.source.now in
    let t = c.term-term.result in
    let x : WaitingTerm = record { id = block_id c.args.plan t.block; length = c.saturating_sub-length.result } in
    let more = waits_more c.args.plan ts c.loop-at.at t c.term-term.ensures in
    let joined = append_assoc c.args.waiting.now.items (waiting_in c.args.plan (take c.loop-at.at ts)) (x ∷ []) in
    record {
      queued = cc (more, joined, c.saturating_sub-length.ensures, c.push_back_reserved.ensures.items, c.loop-at.invariant.queued);
      room = omega arith;
    }
