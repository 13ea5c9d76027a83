use Rattle.std.proofs.Common.{map, rules, ◌≡◌}
use Rattle.std.specs.Prelude.{Some, string_bytes}
use Rattle.xet_commands.specs.declared.commands.Command.TheVariants.{Audit, Bench, Compact, Mirror, Resume, Roundtrip, Serve, Track}
use Rattle.xet_commands.specs.Commands.{command_of}
use Rattle.xet_commands.proofs.commands.run_words.Goals as goal

pub returns-in-Some-Track-clause-outcome : goal.returns-in-Some-Track-clause-outcome
returns-in-Some-Track-clause-outcome g c =
    let is : command_of (map string_bytes c.args.words.now) ≡ Some Track = search rules in
    rw is (c.track.ensures.outcome (map g.T.Tap.told c.args.taps.now.items))

pub returns-in-Some-Audit-clause-outcome : goal.returns-in-Some-Audit-clause-outcome
returns-in-Some-Audit-clause-outcome g c =
    let is : command_of (map string_bytes c.args.words.now) ≡ Some (Audit c.in-Some-Audit.hashes) = search rules in
    rw is (c.audit.ensures.outcome (map g.T.Tap.told c.args.taps.now.items))

pub returns-in-Some-Compact-clause-outcome : goal.returns-in-Some-Compact-clause-outcome
returns-in-Some-Compact-clause-outcome g c =
    let is : command_of (map string_bytes c.args.words.now) ≡ Some Compact = search rules in
    rw is (c.compact.ensures.outcome (map g.T.Tap.told c.args.taps.now.items))

pub returns-in-Some-Mirror-clause-outcome : goal.returns-in-Some-Mirror-clause-outcome
returns-in-Some-Mirror-clause-outcome g c =
    let is : command_of (map string_bytes c.args.words.now) ≡ Some (Mirror c.in-Some-Mirror.verify) = search rules in
    rw is (c.mirror.ensures.outcome (map g.T.Tap.told c.args.taps.now.items))

pub returns-in-Some-Resume-clause-outcome : goal.returns-in-Some-Resume-clause-outcome
returns-in-Some-Resume-clause-outcome g c =
    let is : command_of (map string_bytes c.args.words.now) ≡ Some (Resume c.in-Some-Resume.wanted) = search rules in
    rw is (c.resume.ensures.outcome (map g.T.Tap.told c.args.taps.now.items))

pub returns-in-Some-Serve-clause-outcome : goal.returns-in-Some-Serve-clause-outcome
returns-in-Some-Serve-clause-outcome g c =
    let is : command_of (map string_bytes c.args.words.now) ≡ Some (Serve c.in-Some-Serve.options) = search rules in
    rw is (c.serve.ensures.outcome (map g.T.Tap.told c.args.taps.now.items))

pub returns-in-Some-Bench-clause-outcome : goal.returns-in-Some-Bench-clause-outcome
returns-in-Some-Bench-clause-outcome g c =
    let is : command_of (map string_bytes c.args.words.now) ≡ Some (Bench c.in-Some-Bench.wanted) = search rules in
    rw is (c.bench.ensures.outcome (g.I.Source.told c.args.input.now) (map g.T.Tap.told c.args.taps.now.items))

pub returns-in-Some-Roundtrip-clause-outcome : goal.returns-in-Some-Roundtrip-clause-outcome
returns-in-Some-Roundtrip-clause-outcome g c =
    let is : command_of (map string_bytes c.args.words.now) ≡ Some (Roundtrip c.in-Some-Roundtrip.size) = search rules in
    rw is (c.roundtrip.ensures.outcome (g.I.Source.told c.args.input.now) (map g.T.Tap.told c.args.taps.now.items))
