-- What a run over the made store is for, and why it fails.
use Rattle.std.specs.Prelude.{◌≡◌, Option, Some}
use Rattle.xet_error.specs.declared.error.Setting.{Setting}
use Rattle.xet_terms.specs.Settings.{failing_setting_of}
use Rattle.xet_bench.specs.declared.running.Bench.{Bench}
use Rattle.xet_bench.specs.declared.running.BenchError.{BenchError}
use Rattle.xet_bench.specs.declared.running.BenchError.TheVariants as bench_error

-- the setting that fails first
abbrev pub unmet_by : Bench → Option Setting
unmet_by bench = failing_setting_of bench.lanes bench.config

-- want of memory is free, and a setting is the one that fails first
abbrev pub BenchCause : Bench → BenchError → Type 0
BenchCause bench bench_error.OutOfMemory = Unit {0}
BenchCause bench (bench_error.Settings e) = unmet_by bench ≡ Some e
