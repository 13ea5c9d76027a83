-- The settings of a run, and the first that can't be met.
use Rattle.std.specs.Prelude.{ℕ, cond, false, nat_eq, nat_lt, Option, Some, None}
use Rattle.xet_error.specs.declared.error.Setting.{Setting}
use Rattle.xet_error.specs.declared.error.Setting.TheVariants.{NoConnection, NoTries, LeastZero, GreatestBelowLeast}
use Rattle.xet_terms.specs.declared.reconstruction_config.ReconstructionConfig.{ReconstructionConfig}

-- the settings of a run that is given none; sizes are in bytes
abbrev pub first_config : ReconstructionConfig
first_config = record {
  min_reconstruction_fetch_size = 1048576;
  max_reconstruction_fetch_size = 67108864;
  min_prefetch_buffer = 2097152;
  download_buffer_size = 67108864;
  use_vectored_write = false;
  enable_multirange_fetching = false;
  tries = 3;
}

-- of the least and the greatest fetch size, the one that fails first
abbrev pub failing_size : (least greatest : ℕ) → Option Setting
failing_size least greatest =
    cond (nat_eq least 0) (Some LeastZero) (cond (nat_lt greatest least) (Some GreatestBelowLeast) None)

-- the setting that fails first, of a run that is lent so many connections
abbrev pub failing_setting : (connections tries least greatest : ℕ) → Option Setting
failing_setting connections tries least greatest =
    cond (nat_eq connections 0) (Some NoConnection)
    (cond (nat_eq tries 0) (Some NoTries) (failing_size least greatest))

-- the same by a configuration
abbrev pub failing_size_of : ReconstructionConfig → Option Setting
failing_size_of c = failing_size c.min_reconstruction_fetch_size c.max_reconstruction_fetch_size

abbrev pub failing_setting_of : ℕ → ReconstructionConfig → Option Setting
failing_setting_of connections c =
    failing_setting connections c.tries c.min_reconstruction_fetch_size c.max_reconstruction_fetch_size
