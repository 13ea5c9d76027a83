-- What a reconstruction into a file does to it.
use Rattle.std.specs.Prelude.{ℕ, ◌≡◌, ◌≤◌, ◌⊎◌, Bool, true, cond, List, Option, option_map, unwrap_or, Some, OnOk}
use Rattle.std.specs.Prelude.{Result}
use Rattle.std.specs.Prelude.{Err, IfErr}
use Rattle.xet_base.specs.declared.cas_types.FileRange.{FileRange}
use Rattle.xet_base.specs.Store.{Store, window}
use Rattle.xet_outside.specs.Places.{Placed, at_place, before_place, emptied, placed_of, written}
use Rattle.xet_outside.specs.Told.{Link, Rose, SinkTold, Took}
use Rattle.xet_error.specs.declared.error.FileReconstructionError.{FileReconstructionError}
use Rattle.xet_error.specs.declared.error.FileReconstructionError.TheVariants as error
use Rattle.xet_error.specs.declared.error.Setting.{Setting}
use Rattle.xet_events.specs.Limits.{LimitTold}
use Rattle.xet_ties.specs.Causes.{refused_setting}
use Rattle.xet_ties.specs.Legal.{Legal}
use Rattle.xet_ties.specs.RunCalls.{DidNothing}
use Rattle.xet_ties.specs.Setup.{CacheTells, IsOver, RunTold, Setup}
use Rattle.xet_reconstruct.specs.Ran.{RanUnder}

-- where the bytes go: to the wanted offset, else to where the range starts
abbrev pub place_for : Option ℕ → FileRange → ℕ
place_for offset range = unwrap_or offset range.start

-- the file made ready: emptied where it is to be truncated, and at its place
abbrev pub ready_at : Bool → ℕ → Placed → Placed
ready_at truncate place p = at_place place (cond truncate (emptied p) p)

-- these bytes stand at the place in the file that was made ready, where it tells its content and its place
abbrev pub StandAt : Bool → ℕ → SinkTold → SinkTold → List ℕ → Type 0
StandAt truncate place before after bytes =
    placed_of after ≡ option_map (λ p. written bytes (ready_at truncate place p)) (placed_of before)

-- whatever the file took stands there
abbrev pub StandsAt : Bool → ℕ → SinkTold → SinkTold → Type 0
StandsAt truncate place before after =
    (bytes : List ℕ) → Took before.took after.took bytes → StandAt truncate place before after bytes

-- the file as it was made ready: it took nothing, no call of it failed, and it stands emptied where it was to be
-- truncated, and at its place, where it tells these
pub record IsReady (truncate : Bool) (place : ℕ) (before ready : SinkTold) : Type 0 where
  pub took : ready.took ≡ before.took
  pub unfailed : ready.faults ≡ before.faults
  pub placed : placed_of ready ≡ option_map (ready_at truncate place) (placed_of before)
  pub link : before_place ready.link ≡ before_place before.link

-- a file that could not be made ready has the content and the place that it had, or it was to be truncated and is empty
abbrev pub IsLeft : Bool → SinkTold → SinkTold → Type 0
IsLeft truncate before after = (after.link ≡ before.link)
    ⊎ ((truncate ≡ true) × (placed_of after ≡ option_map emptied (placed_of before)))

-- the error of a file that could not be made ready: the file failed, which its faults tell, or they are as before
abbrev pub UnreadyCause : ℕ → ℕ → FileReconstructionError → Type 0
UnreadyCause before after error.IoError = Rose before after
UnreadyCause before after e = after ≡ before

-- the file could not be made ready: nothing was asked and taken, and the answer is an error that needs no connection,
-- by its cause
pub record IsUnready (truncate : Bool) (before after : RunTold)
    (answer : Result ℕ FileReconstructionError) : Type 0 where
  pub nothing : DidNothing before after answer
  pub fails : OnOk answer ⊥
  pub cause : IfErr answer (UnreadyCause before.sink.faults after.sink.faults)
  pub left : IsLeft truncate before.sink after.sink

-- a run gave this answer, over the file as it was made ready, as `RanUnder` says, and whatever the file took stands at
-- its place
pub record RanInto (limits : LimitTold) (g : Setup) (truncate : Bool) (place : ℕ) (before after : RunTold)
    (answer : Result ℕ FileReconstructionError) : Type 0 where
  pub ready : SinkTold
  pub made : IsReady truncate place before.sink ready
  pub ran : RanUnder limits g (record before { sink = ready }) after answer
  pub stands : StandsAt truncate place before.sink after.sink

-- the same, told of a file whose place was set in this way
abbrev pub placed_as : Link → RunTold → RunTold
placed_as link told = record told { sink = record told.sink { link = link } }

-- one call of `reconstruct_to_file`, under a source of limits that always answers this one, where one is given
pub record ToFileCall (limits : LimitTold) (g : Setup) (truncate : Bool) (place : ℕ) (before after : RunTold)
    (answer : Result ℕ FileReconstructionError) : Type 0 where
  -- a failing setting is told before all else, the file included
  pub settings : (e : Setting) → refused_setting g before.clients ≡ Some e
      → (answer ≡ Err (error.ConfigurationError e)) × (after ≡ before)
  -- but for how the file's place was set, the answer is legal
  pub legal : Legal g (placed_as after.sink.link before) after answer
  -- a run stands behind it, from the moment at which the file was made ready, or it could not be made ready
  pub ran : RanInto limits g truncate place before after answer ⊎ IsUnready truncate before after answer
  -- so on Ok, over connections and a cache that tell one valid store, does the window
  pub exact : (s : Store) → IsOver s before.clients → CacheTells s before.cache
      → OnOk answer (StandAt truncate place before.sink after.sink (window s g.file g.range))
  -- the file writes through what it did
  pub link : before_place after.sink.link ≡ before_place before.sink.link
