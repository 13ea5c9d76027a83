-- What a download session tells, what a download is for, and why one is refused.
use Rattle.std.specs.Prelude.{ℕ, ◌-◌, ◌^◌, ◌==◌, Bool, true, false, cond, is_none, List, [], Option, Some, None}
use Rattle.std.specs.Prelude.{unwrap_or, Result, Ok, Err}
use Rattle.std.specs.Option.{option_or}
use Rattle.std.specs.Result.{result_err}
use Rattle.xet_base.specs.declared.cas_types.FileRange.{FileRange}
use Rattle.xet_base.specs.declared.invalid.Invalid.TheVariants as invalid
use Rattle.xet_base.specs.declared.item_id.UniqueID.{UniqueID}
use Rattle.xet_base.specs.declared.merklehash.MerkleHash.{MerkleHash}
use Rattle.xet_base.specs.HashText.{hash_of_text}
use Rattle.xet_outside.specs.Told.{CacheTold, ClientTold, SinkTold}
use Rattle.xet_pointer.specs.declared.xet_file_info.XetFileInfo.{XetFileInfo}
use Rattle.xet_events.specs.Limits.{LimitTold}
use Rattle.xet_terms.specs.declared.reconstruction_config.ReconstructionConfig.{ReconstructionConfig}
use Rattle.xet_ties.specs.Setup.{RunTold, Setup, setup_of}
use Rattle.xet_reconstruct.specs.Lent.{no_limits}
use Rattle.xet_upload.specs.declared.data_error.DataError.{DataError}
use Rattle.xet_upload.specs.declared.data_error.DataError.TheVariants as data_error
pub use Rattle.xet_download_rules.specs.Answers.{counted}

-- ---- a session

-- what the source of a run's limits tells: that of the settings, or a book that never passes this limit
abbrev pub limits_under : Option ℕ → ReconstructionConfig → LimitTold
limits_under None config =
    record { fixed = Some config.download_buffer_size; most = Some config.download_buffer_size; limits = None }
limits_under (Some most) config = record { fixed = None; most = Some most; limits = None }

-- what a session's connections and its cache tell, and its own data
pub record DownloadsTold : Type 0 where
  pub clients : List ClientTold
  pub cache : CacheTold
  pub config : ReconstructionConfig
  -- what the source of a download's limits tells at its start
  pub limits : LimitTold
  -- the number of the next id
  pub ids : ℕ
  -- the ids of the streams whose flags are registered, in order
  pub streams : List UniqueID
  pub finalized : Bool

-- a session that is new
abbrev pub new_session : List ClientTold → CacheTold → ReconstructionConfig → ℕ → DownloadsTold
new_session clients cache config ids = record {
  clients = clients;
  cache = cache;
  config = config;
  limits = limits_under None config;
  ids = ids;
  streams = [];
  finalized = false;
}

-- the session, which is finalized
abbrev pub ended : DownloadsTold → DownloadsTold
ended t = record t { finalized = true }

-- ---- what a download is for

-- what a run is lent: connections, a cache and a writer; no signal stops it
abbrev pub lent_by : List ClientTold → CacheTold → SinkTold → RunTold
lent_by clients cache sink = record {
  clients = clients;
  cache = cache;
  signal = record { asks = None; yes = 0 };
  sink = sink;
  limits = no_limits;
}

-- what a run over those of the session is lent
abbrev pub lent : DownloadsTold → SinkTold → RunTold
lent t sink = lent_by t.clients t.cache sink

-- the range of a file whose bytes are wanted; without one it is the whole file
abbrev pub whole : FileRange
whole = record { start = 0; end = 2 ^ 64 - 1 }

abbrev pub range_or_whole : Option FileRange → FileRange
range_or_whole range = unwrap_or range whole

-- what a run of the session is for
abbrev pub run_for : DownloadsTold → MerkleHash → Option FileRange → Setup
run_for t file range = setup_of file (range_or_whole range) t.config

-- how many bytes are expected: those of a range with an end, or without a range the declared size, where there is one
abbrev pub expected_of : Option FileRange → Option ℕ → Option ℕ
expected_of None size = size
expected_of (Some r) size = cond (r.end == 2 ^ 64 - 1) None (Some (r.end - r.start))

-- ---- refusals before anything is asked

abbrev pub finalized_error : DataError
finalized_error = data_error.InvalidOperation invalid.Finalized

abbrev pub ids_used_up : DataError
ids_used_up = data_error.InvalidOperation invalid.IdsUsedUp

abbrev pub refused_where : Bool → DataError → Option DataError
refused_where b e = cond b (Some e) None

-- the end of a session: refused where it ended before
abbrev pub finalizing : Bool → Result (Unit {0}) DataError
finalizing finalized = cond finalized (Err finalized_error) (Ok tt)

-- why a download isn't begun: the text of the hash is none, else no id is left
abbrev pub begin_refusal : DownloadsTold → XetFileInfo → Option DataError
begin_refusal t info =
    option_or (refused_where (is_none (hash_of_text info.hash)) data_error.HashStringParsingFailure)
    (refused_where (t.ids == 2 ^ 64 - 1) ids_used_up)

-- why it is refused, the first that holds: the session is finalized; the bounds are reversed; it isn't begun
abbrev pub refusal_of : DownloadsTold → Result (Option FileRange) DataError → XetFileInfo → Option DataError
refusal_of t range info =
    option_or (refused_where t.finalized finalized_error) (option_or (result_err range) (begin_refusal t info))
