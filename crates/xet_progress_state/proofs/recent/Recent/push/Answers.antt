use Rattle.std.proofs.Common.{rules, ◌≡◌, refl, Some}
use Rattle.std.specs.BTreeMap.{Updates}
use Rattle.xet_progress_state.proofs.Remembering.{indexes_first, indexes_push}
use Rattle.xet_progress_state.proofs.recent.Recent.push.Goals as goal

pub returns-clause-ok : goal.returns-clause-ok
returns-clause-ok g c =
    let updates : Updates g.K.Ord.cmp c.args.self.now.numbers c.insert.new.self c.args.key (Some c.args.number) = search rules in
    λ keys ix len none. indexes_push g.met.K.Ord.total keys c.args.self.now (record { first = c.args.self.now.first; numbers = c.insert.new.self; last = Some c.args.key; number = Some c.args.number }) c.args.key c.args.number ix len none refl updates.0 refl refl

pub returns-then-number-eq0-clause-ok : goal.returns-then-number-eq0-clause-ok
returns-then-number-eq0-clause-ok g c =
    let none_before : c.args.number ≡ 0 = search rules in
    λ keys ix len none. indexes_first g.met.K.Ord.total keys c.args.self.now (record { first = Some c.args.key; numbers = c.args.self.now.numbers; last = Some c.args.key; number = Some 0 }) c.args.key c.args.number none_before ix len refl refl refl refl
