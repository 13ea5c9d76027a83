-- The words of the command `bench`, and what each status of it says.
use Rattle.std.specs.Prelude.{ℕ, ◌≡◌, ◌⊎◌, ◌&&◌, cond, nat_le, List, [], ◌∷◌, Option, Some, None, option_and_then}
use Rattle.std.specs.Prelude.{option_map}
use Rattle.xet_outside.specs.Told.{SinkTold}
use Rattle.xet_error.specs.declared.error.Setting.{Setting}
use Rattle.xet_room.specs.declared.status.Status.{Status}
use Rattle.xet_room.specs.declared.status.Status.TheVariants.{Done, NoMemory, BadSettings}
use Rattle.xet_room.specs.Ends.{Told}
use Rattle.xet_room.specs.Numbers.{number_of_text}
use Rattle.xet_room.specs.Outcome.{Finished}
use Rattle.xet_room.specs.Texts.{line}
use Rattle.xet_get_command.specs.GetOptions.{config_of, lanes_of, options_of}
use Rattle.xet_bench.specs.declared.running.Bench.{Bench}
use Rattle.xet_bench.specs.Bench.{bench_text}
use Rattle.xet_bench.specs.Running.{unmet_by}
use Rattle.xet_bench_command.specs.declared.wanted.BenchWanted.{BenchWanted}

-- ---- words

-- a number of 1 to 100,000
abbrev pub terms_of_text : List ℕ → Option ℕ
terms_of_text text = option_and_then (λ n. cond (nat_le 1 n && nat_le n 100000) (Some n) None) (number_of_text text)

-- the words after `bench`: the number of terms, and options of `get`
abbrev pub bench_of : List (List ℕ) → Option BenchWanted
bench_of [] = None
bench_of (terms ∷ options) = option_and_then (λ n. option_map (λ o. record { terms = n; options = o })
    (options_of options)) (terms_of_text terms)

-- ---- the run

-- the run that is wanted
abbrev pub run_of : BenchWanted → Bench
run_of wanted = record {
  terms = wanted.terms;
  lanes = lanes_of wanted.options;
  config = config_of wanted.options;
  cache = wanted.options.cache;
}

-- the setting that fails first
abbrev pub unmet_bench : BenchWanted → Option Setting
unmet_bench wanted = unmet_by (run_of wanted)

-- 0 where no setting fails, else 7 with the first that does
abbrev pub end_by : Option Setting → Status
end_by None = Done
end_by (Some e) = BadSettings e

-- what is printed then: the four lines, or that of the setting
abbrev pub text_by : ℕ → Option Setting → List ℕ
text_by terms None = bench_text terms
text_by terms (Some e) = line (BadSettings e)

-- what was printed: this text with its status or, where a write failed or memory ended, a prefix of it, or of
-- `error memory`
abbrev pub BenchPrinted : BenchWanted → SinkTold → SinkTold → Status → Type 0
BenchPrinted wanted before after status =
    Finished (text_by wanted.terms (unmet_bench wanted)) (end_by (unmet_bench wanted)) before after status
    ⊎ Finished (line NoMemory) NoMemory before after status

-- `bench`: nothing is read, and no tap is asked
pub record BenchOutcome (wanted : BenchWanted) (before after : Told) (status : Status) : Type 0 where
  pub unread : after.source ≡ before.source
  pub unasked : after.taps ≡ before.taps
  pub printed : BenchPrinted wanted before.sink after.sink status
