-- What the command `bench` prints.
use Rattle.std.proofs.Common.{◌≡◌, Option, None, Some, sym, subst, inl, inr}
use Rattle.xet_outside.specs.Told.{SinkTold}
use Rattle.xet_error.specs.declared.error.Setting.{Setting}
use Rattle.xet_room.specs.declared.status.Status.{Status}
use Rattle.xet_room.specs.declared.status.Status.TheVariants.{Done, NoMemory, BadSettings}
use Rattle.xet_room.specs.Outcome.{Finished}
use Rattle.xet_room.specs.Texts.{line}
use Rattle.xet_bench.specs.Bench.{bench_text}
use Rattle.xet_bench_command.specs.declared.wanted.BenchWanted.{BenchWanted}
use Rattle.xet_bench_command.specs.Bench.{BenchPrinted, end_by, text_by, unmet_bench}

module _ (wanted : BenchWanted) (b n : SinkTold) (status : Status) where
  by_setting : (o : Option Setting) → unmet_bench wanted ≡ o
      → Finished (text_by wanted.terms o) (end_by o) b n status → BenchPrinted wanted b n status
  by_setting o u h =
      inl (subst (λ (p : Option Setting). Finished (text_by wanted.terms p) (end_by p) b n status) (sym u) h)

  pub lines_printed : unmet_bench wanted ≡ None → Finished (bench_text wanted.terms) Done b n status
      → BenchPrinted wanted b n status
  lines_printed u h = by_setting None u h

  pub setting_printed : (e : Setting) → unmet_bench wanted ≡ Some e
      → Finished (line (BadSettings e)) (BadSettings e) b n status → BenchPrinted wanted b n status
  setting_printed e u h = by_setting (Some e) u h

  pub memory_printed : Finished (line NoMemory) NoMemory b n status → BenchPrinted wanted b n status
  memory_printed h = inr h
