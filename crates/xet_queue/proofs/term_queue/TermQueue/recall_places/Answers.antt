use Rattle.std.proofs.Common.{◌≡◌, ◌+◌, [], length, subst}
use Rattle.xet_queue.specs.Queues.{ready_bytes, wanted}
use Rattle.xet_queue.specs.Sequential.{Sequential}
use Rattle.xet_queue.proofs.Terms.{chain_all}
use Rattle.xet_queue.proofs.term_queue.TermQueue.recall_places.Goals as goal

pub returns : goal.returns
returns g c =
    let i = c.self.inside in
    subst (λ (w : Sequential g.row.S.Denot). wanted w.queue ≡ [] → w.delivered + length (ready_bytes w.queue) ≡ w.expected) c.self.view_is (λ e. chain_all i.delivered i.queue.items i.expected c.self.invariant.0 e)
