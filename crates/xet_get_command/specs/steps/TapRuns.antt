-- What runs over connections to a store say, whose blocks go through taps.
use Rattle.std.specs.Prelude.{false, true, None, ℕ, ◌≡◌, ◌≤◌, List, [], Some, IfSome, IfOk, IfErr, OnOk, Result}
use Rattle.std.specs.Result.{result_ok}
use Rattle.xet_base.specs.Store.{Store}
use Rattle.xet_outside.specs.Told.{CacheTold, ClientTold, SinkTold, TookPrefix}
use Rattle.xet_store.specs.Taps.{TapTold}
use Rattle.xet_error.specs.declared.error.FileReconstructionError.{FileReconstructionError}
use Rattle.xet_error.specs.declared.error.Setting.{Setting}
use Rattle.xet_blocks.specs.ServedChunks.{AllServed}
use Rattle.xet_events.specs.declared.budget_book.BookView.{BookView}
use Rattle.std.specs.Arc.{arc_value}
use Rattle.xet_events.specs.Limits.{LimitTold}
use Rattle.xet_ties.specs.LegalWords.{IsExact}
use Rattle.xet_ties.specs.RunCalls.{Unfailed}
use Rattle.xet_ties.specs.Setup.{CacheTells}
use Rattle.xet_get_command.specs.declared.wanted.Wanted.{Wanted}
use Rattle.xet_get_command.specs.GetOptions.{budget_of}
use Rattle.xet_get_command.specs.Taps.{FromTaps, LanesHonest, TapsGoOn, all_passed, lane_taps}
use Rattle.xet_get_command.specs.Wanted.{unmet_setting, wanted_bytes, wanted_setup}
use Rattle.xet_get_command.specs.steps.OwnTaps.{behind_own}
use Rattle.xet_get_command.specs.steps.PrintedDigits.{CountsOk, IsRefusal, TapCause, Wrote, status_of_answer}

-- a connection that was asked nothing yet, to this store behind this tap
abbrev pub IsNew : Store → TapTold → ClientTold → Type 0
IsNew s t c = c ≡ behind_own s (record { asked = []; said = []; served = [] }) t t

-- the view is of a book with the settings of these words
abbrev pub IsBookOf : Wanted → BookView → Type 0
IsBookOf q view = (arc_value view.book).settings ≡ budget_of q.options

-- what such a view tells
abbrev pub limits_told : Wanted → LimitTold
limits_told q = record { fixed = None; most = Some (budget_of q.options).limit; limits = None }

-- what a cache in memory tells that has no entries, and was asked for none and offered none
abbrev pub new_cache : CacheTold
new_cache = record { entries = Some []; looked = Some []; offers = Some 0; faults = 0 }

-- with `cache` the cache is a new one that tells its looks
abbrev pub IsCacheOf : Wanted → CacheTold → Type 0
IsCacheOf q k = q.options.cache ≡ true → k ≡ new_cache

-- a run over connections to a valid store behind taps, where `H` says that these are honest
pub record BehindAll (s : Store) (q : Wanted) (H : Type 0) (k : CacheTold) (b n : SinkTold)
    (answer : Result ℕ FileReconstructionError) : Type 0 where
  pub exact : H → CacheTells s k → IfOk answer (IsExact s (wanted_setup q) b n)
  pub prefix : H → CacheTells s k → TookPrefix b.took n.took (wanted_bytes s q)
  pub cause : IfErr answer (TapCause s q H b n)
  pub settings : (e : Setting) → unmet_setting q ≡ Some e → IsRefusal e answer × (n.took ≡ b.took)
  pub counts : CountsOk b n answer
  pub faults : b.faults ≤ n.faults
  pub unfailed : Unfailed b.faults n.faults answer
  pub link : n.link ≡ b.link

-- a run over as many connections as are wanted, with a cache; of one that had no entries before it says what passed the
-- taps
pub record BehindTaps (s : Store) (q : Wanted) (ts us : List TapTold) (k l : CacheTold) (b n : SinkTold)
    (answer : Result ℕ FileReconstructionError) : Type 0 where
  pub all : BehindAll s q (LanesHonest q ts) k b n answer
  pub chunks : LanesHonest q ts → k.entries ≡ Some []
      → OnOk answer (IfSome (all_passed (lane_taps q ts) (lane_taps q us)) (AllServed s q.file q.range))
  pub any : k.entries ≡ Some [] → (q.options.cache ≡ false → l.entries ≡ Some [])
      → Wrote (FromTaps s q ts us) b n (status_of_answer answer) (result_ok answer)
  pub go_on : TapsGoOn q ts us
