-- What each status of the command `get` says.
use Rattle.std.specs.Prelude.{ℕ, ◌≡◌, ◌⊎◌, List, [], length, take, None, Some, IfSome}
use Rattle.xet_base.specs.Store.{Store}
use Rattle.xet_outside.specs.Told.{Rose, SinkTold, Took, TookPrefix}
use Rattle.xet_error.specs.declared.error.Setting.{Setting}
use Rattle.xet_blocks.specs.ServedChunks.{AllServed}
use Rattle.xet_room.specs.declared.status.Status.{Status}
use Rattle.xet_room.specs.declared.status.Status.TheVariants.{Done, BadStore, NotFound, ReadFault, WriteFault, NoMemory}
use Rattle.xet_room.specs.declared.status.Status.TheVariants.{TooLong, BadBlock, BadSettings}
use Rattle.xet_get_command.specs.declared.wanted.Wanted.{Wanted}
use Rattle.xet_get_command.specs.AnyBytes.{AnyCut, AnyGet}
use Rattle.xet_get_command.specs.Document.{IsOfStore, OfNoDocument}
use Rattle.xet_room.specs.Ends.{IsTooLong, Told, WasReadToEnd}
use Rattle.xet_get_command.specs.Taps.{FromTaps, LanesHonest, TapsGoOn, all_passed, lane_taps}
use Rattle.xet_room.specs.Texts.{get_text, line, ok_line}
use Rattle.xet_get_command.specs.Wanted.{IsFound, IsMissing, unmet_setting, wanted_bytes}

-- the text of status 0
abbrev pub done_text : Store → Wanted → List ℕ
done_text store wanted = get_text (wanted_bytes store wanted) (ok_line (length (wanted_bytes store wanted)))

-- the text of status 3
abbrev pub missing_text : List ℕ
missing_text = get_text [] (line NotFound)

-- the text where memory ended after the digits of so many bytes
abbrev pub memory_text : Store → Wanted → ℕ → List ℕ
memory_text store wanted count = get_text (take count (wanted_bytes store wanted)) (line NoMemory)

-- the text of status 7
abbrev pub settings_text : Setting → List ℕ
settings_text e = get_text [] (line (BadSettings e))

-- a store, of which the whole text was printed
pub record IsPrinted (store : Store) (wanted : Wanted) (before after : SinkTold) : Type 0 where
  pub found : IsFound store wanted
  pub took : Took before.took after.took (done_text store wanted)

-- and each chunk of the file that has a byte in the range passed one of the taps in this call, where each tells what
-- passed
pub record IsGot (store : Store) (wanted : Wanted) (before after : Told) : Type 0 where
  pub printed : IsPrinted store wanted before.sink after.sink
  pub passed : IfSome (all_passed (lane_taps wanted before.taps) (lane_taps wanted after.taps))
      (AllServed store wanted.file wanted.range)

-- a store without the file
pub record IsRefused (store : Store) (wanted : Wanted) (before after : SinkTold) : Type 0 where
  pub missing : IsMissing store wanted
  pub took : Took before.took after.took missing_text

-- what was printed of a store where a write failed or memory ended: a prefix of one of the four texts
abbrev pub IsCutGet : Store → Wanted → SinkTold → SinkTold → Type 0
IsCutGet store wanted before after =
    ((unmet_setting wanted ≡ None) × IsFound store wanted
    × TookPrefix before.took after.took (done_text store wanted))
    ⊎ ((count : ℕ) × TookPrefix before.took after.took (memory_text store wanted count))
    ⊎ ((unmet_setting wanted ≡ None) × IsMissing store wanted × TookPrefix before.took after.took missing_text)
    ⊎ ((e : Setting) × (unmet_setting wanted ≡ Some e) × TookPrefix before.took after.took (settings_text e))

-- ---- what holds of each run

-- the input was read to its end and is a document of this store; each tap is as honest as it was, and none past the
-- lanes was asked, nor any where a setting fails
pub record OverStore (limit : ℕ) (store : Store) (wanted : Wanted) (before after : Told) : Type 0 where
  pub read : WasReadToEnd limit before.source after.source
  pub document : IsOfStore before.source store
  pub go_on : TapsGoOn wanted before.taps after.taps

-- over any taps: what was printed are the digits of bytes that the run made of the blocks that the taps handed on
abbrev pub GetAny : Store → Wanted → Told → Told → Status → Type 0
GetAny store wanted before after status =
    AnyGet (FromTaps store wanted before.taps after.taps) before.sink after.sink status

-- ---- the statuses. What is said of the file's bytes is said over taps that are honest

-- 0: all was printed
pub record GetDone (limit : ℕ) (wanted : Wanted) (before after : Told) : Type 0 where
  pub store : Store
  pub over : OverStore limit store wanted before after
  pub settings : unmet_setting wanted ≡ None
  pub honest : LanesHonest wanted before.taps → IsGot store wanted before after
  pub any : GetAny store wanted before after Done

-- 2: the input is a document of no store
pub record GetBadStore (limit : ℕ) (before after : Told) : Type 0 where
  pub read : WasReadToEnd limit before.source after.source
  pub no_document : OfNoDocument before.source
  pub unasked : after.taps ≡ before.taps
  pub took : Took before.sink.took after.sink.took (line BadStore)

-- 3: the store has no such file
pub record GetNotFound (limit : ℕ) (wanted : Wanted) (before after : Told) : Type 0 where
  pub store : Store
  pub over : OverStore limit store wanted before after
  pub settings : unmet_setting wanted ≡ None
  pub honest : LanesHonest wanted before.taps → IsRefused store wanted before.sink after.sink
  pub any : GetAny store wanted before after NotFound

-- 4: the input failed
pub record GetReadFault (before after : Told) : Type 0 where
  pub rose : Rose before.source.faults after.source.faults
  pub unasked : after.taps ≡ before.taps
  pub took : Took before.sink.took after.sink.took (line ReadFault)

-- 7: this setting fails first, and no tap was asked
pub record GetBadSettings (limit : ℕ) (wanted : Wanted) (before after : Told) (e : Setting) : Type 0 where
  pub store : Store
  pub over : OverStore limit store wanted before after
  pub failing : unmet_setting wanted ≡ Some e
  pub unasked : after.taps ≡ before.taps
  pub took : Took before.sink.took after.sink.took (settings_text e)
  pub any : GetAny store wanted before after (BadSettings e)

-- 8: the input is longer than the limit
pub record GetTooLong (limit : ℕ) (before after : Told) : Type 0 where
  pub too_long : IsTooLong limit before.source
  pub unasked : after.taps ≡ before.taps
  pub took : Took before.sink.took after.sink.took (line TooLong)

-- 12: a block that a tap handed on fails the test of this number, where the taps tell what they handed on
pub record GetBadBlock (limit : ℕ) (wanted : Wanted) (before after : Told) (number : ℕ) : Type 0 where
  pub store : Store
  pub over : OverStore limit store wanted before after
  pub settings : unmet_setting wanted ≡ None
  pub dishonest : LanesHonest wanted before.taps → ⊥
  pub any : GetAny store wanted before after (BadBlock number)

-- a document of a store, of which a prefix of a text was printed
pub record GetCut (limit : ℕ) (wanted : Wanted) (before after : Told) : Type 0 where
  pub store : Store
  pub over : OverStore limit store wanted before after
  pub honest : LanesHonest wanted before.taps → IsCutGet store wanted before.sink after.sink
  pub any : AnyCut (FromTaps store wanted before.taps after.taps) before.sink after.sink

-- and of an input that was not a document, or not yet: a prefix of `error memory`, or of the text of another status
-- where the input is as that status says. No tap was asked
pub record IsCutUnasked (limit : ℕ) (before after : Told) : Type 0 where
  pub unasked : after.taps ≡ before.taps
  pub text : TookPrefix before.sink.took after.sink.took (line NoMemory)
      ⊎ (Rose before.source.faults after.source.faults × TookPrefix before.sink.took after.sink.took (line ReadFault))
      ⊎ (IsTooLong limit before.source × TookPrefix before.sink.took after.sink.took (line TooLong))
      ⊎ (WasReadToEnd limit before.source after.source × OfNoDocument before.source
      × TookPrefix before.sink.took after.sink.took (line BadStore))

-- what was printed where a write failed or memory ended
abbrev pub IsCut : ℕ → Wanted → Told → Told → Type 0
IsCut limit wanted before after = IsCutUnasked limit before after ⊎ GetCut limit wanted before after

-- `get` over an input, by its status
abbrev pub GetOutcome : ℕ → Wanted → Told → Told → Status → Type 0
GetOutcome limit wanted before after Done = GetDone limit wanted before after
GetOutcome limit wanted before after BadStore = GetBadStore limit before after
GetOutcome limit wanted before after NotFound = GetNotFound limit wanted before after
GetOutcome limit wanted before after ReadFault = GetReadFault before after
GetOutcome limit wanted before after WriteFault =
    Rose before.sink.faults after.sink.faults × IsCut limit wanted before after
GetOutcome limit wanted before after NoMemory = IsCut limit wanted before after
GetOutcome limit wanted before after (BadSettings e) = GetBadSettings limit wanted before after e
GetOutcome limit wanted before after TooLong = GetTooLong limit before after
GetOutcome limit wanted before after (BadBlock number) = GetBadBlock limit wanted before after number
GetOutcome limit wanted before after _ = ⊥
