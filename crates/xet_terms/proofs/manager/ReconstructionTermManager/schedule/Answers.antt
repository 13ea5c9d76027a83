use Rattle.std.proofs.Common.{◌≡◌, rules}
use Rattle.xet_terms.specs.Managers.{Manager, scheduled_end, cut_end}
use Rattle.xet_terms.proofs.Managing.{schedule_when}
use Rattle.xet_terms.proofs.manager.ReconstructionTermManager.schedule.Goals as goal

pub invariant_of-self : goal.invariant_of-self
invariant_of-self g c =
    let i = c.self.inside in
    let m : Manager = record {
      file = i.file_hash;
      range = i.range;
      least = i.least;
      greatest = i.greatest;
      buffer = i.buffer;
      multirange = i.multirange;
      queries = i.queries.items;
      asked = i.asked;
      answered = i.answered;
      known_end = i.known_end;
      ended = i.ended;
      waiting = i.waiting.items;
      handed_end = i.handed_end;
      failed = i.failed;
      planned = i.planned;
      progress = i.progress;
    } in
    let start : c.scheduled_end-start.result ≡ scheduled_end m = search rules in
    let end : c.cut_end-end.result ≡ cut_end m c.args.size = search rules in
    rw c.push.ensures.items (schedule_when _ m c.args.size _ _ start end c.if-end-start.false c.self.invariant)
