-- What a run over connections to the made store says.
use Rattle.std.specs.Prelude.{ℕ, ◌≡◌, ◌-◌, ◌^◌, List, [], None, Some, IfErr, OnOk, Result}
use Rattle.xet_base.specs.Store.{Store}
use Rattle.xet_outside.specs.Told.{CacheTold, ClientTold, SinkTold}
use Rattle.xet_error.specs.declared.error.FileReconstructionError.{FileReconstructionError}
use Rattle.xet_error.specs.declared.error.FileReconstructionError.TheVariants as error
use Rattle.xet_reconstruct.specs.Lent.{no_limits}
use Rattle.xet_terms.specs.declared.reconstruction_config.ReconstructionConfig.{ReconstructionConfig}
use Rattle.xet_ties.specs.Setup.{RunTold, Setup, setup_of}
use Rattle.xet_bench.specs.declared.running.Bench.{Bench}
use Rattle.xet_bench.specs.Bench.{bench_bytes, bench_file}
use Rattle.xet_bench.specs.Running.{unmet_by}

-- what a connection to this store tells that was asked nothing yet
abbrev pub new_client : Store → ClientTold
new_client s = record {
  store = Some s;
  asked = Some [];
  said = Some [];
  served = Some [];
  faults = 0;
  expiries = 0;
  link = [];
}

-- what a writer tells that took nothing yet
abbrev pub new_sink : SinkTold
new_sink = record { took = Some []; flushed = Some 0; faults = 0; link = [] }

-- a run of the whole file
abbrev pub whole_setup : ReconstructionConfig → Setup
whole_setup config = setup_of bench_file (record { start = 0; end = 2 ^ 64 - 1 }) config

-- what the arguments of such a run tell that no signal stops
abbrev pub told_of : List ClientTold → CacheTold → SinkTold → RunTold
told_of cs k s =
    record { clients = cs; cache = k; signal = record { asks = None; yes = 0 }; sink = s; limits = no_limits }

-- the errors of a run where nothing fails but a setting
abbrev pub IsRefusal : Bench → FileReconstructionError → Type 0
IsRefusal bench error.OutOfMemory = Unit {0}
IsRefusal bench (error.ConfigurationError e) = unmet_by bench ≡ Some e
IsRefusal bench _ = ⊥

-- on Ok no setting fails and the writer took the file's bytes
pub record Fetched (bench : Bench) (after : SinkTold) (answer : Result ℕ FileReconstructionError) : Type 0 where
  pub met : OnOk answer (unmet_by bench ≡ None)
  pub took : OnOk answer (after.took ≡ Some (bench_bytes bench.terms))
  pub cause : IfErr answer (IsRefusal bench)
