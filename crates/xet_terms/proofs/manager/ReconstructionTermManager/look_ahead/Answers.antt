use Rattle.std.proofs.Common.{◌≡◌, ◌+◌, ◌-◌, ◌<◌, ◌∙◌, ℕ, ◌&&◌, [], ap, false, length, max, min, rules}
use Rattle.std.specs.Prelude.{nat_lt, nat_le}
use Rattle.xet_terms.specs.Managers.{Manager, looked_ahead, scheduled, scheduled_end}
use Rattle.xet_terms.proofs.Looking.{schedules_one}
use Rattle.xet_terms.proofs.Managing.{look_scheduled, on_ok}
use Rattle.xet_terms.proofs.manager.ReconstructionTermManager.look_ahead.Goals as goal

pub returns-clause-ok : goal.returns-clause-ok
returns-clause-ok g c =
    let i = c.self.inside in
    let m : Manager = record {
      file = i.file_hash;
      range = i.range;
      least = i.least;
      greatest = i.greatest;
      buffer = i.buffer;
      multirange = i.multirange;
      queries = i.queries.items;
      asked = i.asked;
      answered = i.answered;
      known_end = i.known_end;
      ended = i.ended;
      waiting = i.waiting.items;
      handed_end = i.handed_end;
      failed = i.failed;
      planned = i.planned;
      progress = i.progress;
    } in
    let n : Manager = c.schedule.new.self in
    let a : ℕ = c.prefetch_buffer_size.result in
    let k : ℕ = c.saturating_sub.result in
    let end : c.scheduled_end-end.result ≡ scheduled_end m = search rules in
    let below : scheduled_end m < m.known_end = search rules in
    let enough : (nat_lt 0 (length m.waiting) && nat_le (max a m.buffer) (scheduled_end m - m.handed_end)) ≡ false = search rules in
    let size : k ≡ max a m.buffer - (scheduled_end m - m.handed_end) = search rules in
    rw (← c.self.view_is)
    (on_ok c.schedule.result (n ≡ record m { queries = scheduled m k }) ((x : ℕ) × (n ≡ looked_ahead m x)) (λ e. (a, look_scheduled m n a k below enough size e)) c.schedule.ensures.ok)

pub returns-clause-ahead : goal.returns-clause-ahead
returns-clause-ahead g c =
    let i = c.self.inside in
    let m : Manager = record {
      file = i.file_hash;
      range = i.range;
      least = i.least;
      greatest = i.greatest;
      buffer = i.buffer;
      multirange = i.multirange;
      queries = i.queries.items;
      asked = i.asked;
      answered = i.answered;
      known_end = i.known_end;
      ended = i.ended;
      waiting = i.waiting.items;
      handed_end = i.handed_end;
      failed = i.failed;
      planned = i.planned;
      progress = i.progress;
    } in
    let n : Manager = c.schedule.new.self in
    let k : ℕ = c.saturating_sub.result in
    rw (← c.self.view_is)
    (on_ok c.schedule.result (n ≡ record m { queries = scheduled m k }) (m.waiting ≡ [] → scheduled_end m < min m.known_end m.range.end → length n.queries ≡ length m.queries + 1)
    (λ e _ below. ap (λ (x : Manager). length x.queries) e ∙ schedules_one m k c.self.invariant below) c.schedule.ensures.ok)
