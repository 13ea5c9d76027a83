use Rattle.std.proofs.Common.{◌≡◌, refl, rules}
use Rattle.xet_bench.specs.Bench.{bench_text}
use Rattle.xet_bench_command.proofs.Printed.{lines_printed, memory_printed, setting_printed}
use Rattle.xet_bench_command.proofs.command.bench.Goals as goal

pub returns-in-Ok-clause-outcome : goal.returns-in-Ok-clause-outcome
returns-in-Ok-clause-outcome g c source taps =
    let told = g.O.Sink.told in
    let text : c.as_bytes.result.now ≡ bench_text c.args.wanted.terms = search rules in
    record {
      unread = refl;
      unasked = refl;
      printed = lines_printed c.args.wanted (told c.args.out.now) (told c.print_text.new.out) c.print_text.result
          c.in-Ok.ensures.met (rw text at c.print_text.ensures.text);
    }

pub returns-in-Err-OutOfMemory-clause-outcome : goal.returns-in-Err-OutOfMemory-clause-outcome
returns-in-Err-OutOfMemory-clause-outcome g c source taps =
    let told = g.O.Sink.told in
    record {
      unread = refl;
      unasked = refl;
      printed = memory_printed c.args.wanted (told c.args.out.now) (told c.say.new.out) c.say.result c.say.ensures.text;
    }

pub returns-in-Err-Settings-clause-outcome : goal.returns-in-Err-Settings-clause-outcome
returns-in-Err-Settings-clause-outcome g c source taps =
    let told = g.O.Sink.told in
    record {
      unread = refl;
      unasked = refl;
      printed = setting_printed c.args.wanted (told c.args.out.now) (told c.say-in-Err-Settings.new.out)
          c.say-in-Err-Settings.result c.in-Err-Settings.setting
          (rw c.in-Err-Settings.field-0-is at c.in-Err-Settings.ensures.cause) c.say-in-Err-Settings.ensures.text;
    }
