-- What passed the taps of `get`, and which bytes a run makes of the blocks that they handed on.
use Rattle.std.specs.Prelude.{ℕ, ◌≡◌, ◌⊎◌, false, List, [], ◌∷◌, count_by, drop, take, length, map, true, Bool, All}
use Rattle.std.specs.Prelude.{Option, Some, None, IfSome}
use Rattle.std.specs.List.{AllZip, concat}
use Rattle.xet_base.specs.Store.{Store}
use Rattle.xet_outside.specs.Answers.{bytes_in, plans_in}
use Rattle.xet_outside.specs.declared.block.BlockBytes.{BlockBytes}
use Rattle.xet_outside.specs.declared.served.Served.{Served}
use Rattle.xet_connections.specs.HonestPlans.{PlansAreHonest}
use Rattle.xet_store.specs.Taps.{TapTold}
use Rattle.xet_error.specs.declared.error.Corruption.{Corruption}
use Rattle.xet_error.specs.declared.error.Setting.{Setting}
use Rattle.xet_error.specs.Errors.{corruption_number}
use Rattle.xet_ties.specs.Causes.{BlockFails, TermFails}
use Rattle.xet_ties.specs.Cuts.{IsSaidPiece, Planning, PlansAll, some_said}
use Rattle.xet_ties.specs.Gains.{GaveServed}
use Rattle.xet_ties.specs.InCall.{Exchange, Look, joined, new_in, served_of_all}
use Rattle.xet_ties.specs.LegalWords.{AllPlanned, FirstAsksFew, ServedOnce}
use Rattle.xet_ties.specs.Setup.{Setup}
use Rattle.xet_get_command.specs.declared.wanted.Wanted.{Wanted}
use Rattle.xet_room.specs.declared.status.Status.{Status}
use Rattle.xet_room.specs.declared.status.Status.TheVariants.{Done, NotFound, NoMemory, BadBlock, BadSettings}
use Rattle.xet_get_command.specs.GetOptions.{lanes_of}
use Rattle.xet_get_command.specs.Wanted.{IsMissing, unmet_setting, wanted_setup}

-- ---- the taps of the lanes

-- the taps that the lanes of a run stand behind: the first ones
abbrev pub lane_taps : Wanted → List TapTold → List TapTold
lane_taps wanted taps = take (lanes_of wanted.options) taps

-- each of these hands each block on as it came
abbrev pub LanesHonest : Wanted → List TapTold → Type 0
LanesHonest wanted taps = All (λ t. t.honest ≡ true) (lane_taps wanted taps)

-- each tap is honest exactly where it was, and those past the lanes are as they were. Where a setting fails all are
pub record TapsGoOn (wanted : Wanted) (before after : List TapTold) : Type 0 where
  pub honest : map (λ t. t.honest) after ≡ map (λ t. t.honest) before
  pub past : drop (lanes_of wanted.options) after ≡ drop (lanes_of wanted.options) before
  pub unasked : (e : Setting) → unmet_setting wanted ≡ Some e → after ≡ before

-- ---- what passed

-- the requests of what all of some taps passed in a call, where each tells it
abbrev pub all_passed : List TapTold → List TapTold → Option (List Served)
all_passed (t ∷ ts) (u ∷ us) = joined (new_in t.passed u.passed) (all_passed ts us)
all_passed [] [] = Some []
all_passed [] (u ∷ us) = None
all_passed (t ∷ ts) [] = None

-- what passed one tap: the requests of the blocks, and the blocks as it handed them on
pub record Passage : Type 0 where
  pub served : List Served
  pub blocks : List BlockBytes

abbrev pub passage : Option (List Served) → Option (List BlockBytes) → Option Passage
passage (Some es) (Some bs) = Some (record { served = es; blocks = bs })
passage (Some es) None = None
passage None bs = None

-- one more, where all are told
abbrev pub with_passage : Option Passage → Option (List Passage) → Option (List Passage)
with_passage (Some p) (Some ps) = Some (p ∷ ps)
with_passage (Some p) None = None
with_passage None ps = None

-- what passed each of some taps in a call, where each tells it
abbrev pub all_passages : List TapTold → List TapTold → Option (List Passage)
all_passages (t ∷ ts) (u ∷ us) =
    with_passage (passage (new_in t.passed u.passed) (new_in t.gave u.gave)) (all_passages ts us)
all_passages [] [] = Some []
all_passages [] (u ∷ us) = None
all_passages (t ∷ ts) [] = None

-- ---- what a run makes of the blocks that a tap handed on

-- a connection's side of a call behind a tap: it was asked for these blocks and handed these on, each in answer to its
-- own request, and its queries were answered by the store
pub record IsPassed (store : Store) (p : Passage) (x : Exchange) : Type 0 where
  pub served_is : x.served ≡ p.served
  pub blocks_are : bytes_in x.said ≡ p.blocks
  pub plans : PlansAreHonest store x.asked (plans_in x.said)

-- a look into a cache gave an entry
abbrev pub gave_some : Option BlockBytes → Bool
gave_some None = false
gave_some (Some block) = true

abbrev pub gave : Look → Bool
gave look = gave_some look.2

-- without `cache` no look gave one
abbrev pub GaveNothing : Wanted → List Look → Type 0
GaveNothing wanted looks = wanted.options.cache ≡ false → count_by gave looks ≡ 0

-- the bytes of all terms of the plans that cut the range, in these blocks, each of which passes its tests
pub record AllBytes (setup : Setup) (xs : List Exchange) (looks : List Look) (bytes : List ℕ) : Type 0 where
  pub all : PlansAll setup xs
  pub pieces : List (List ℕ)
  pub each : AllZip (IsSaidPiece setup xs looks) (some_said setup all.planning.parts) pieces
  pub is : bytes ≡ concat pieces

-- some first bytes of the first terms
pub record SomeFirst (setup : Setup) (xs : List Exchange) (looks : List Look) (bytes : List ℕ) : Type 0 where
  pub planning : Planning setup xs
  pub pieces : List (List ℕ)
  pub each : AllZip (IsSaidPiece setup xs looks) (take (length pieces) (some_said setup planning.parts)) pieces
  pub count : ℕ
  pub is : bytes ≡ take count (concat pieces)

-- these, or none
abbrev pub FirstBytes : Setup → List Exchange → List Look → List ℕ → Type 0
FirstBytes setup xs looks bytes = (bytes ≡ []) ⊎ SomeFirst setup xs looks bytes

-- a block of a plan fails the test of this number, or passes and a term fails it in the block
pub record BlockFailed (setup : Setup) (xs : List Exchange) (number : ℕ) : Type 0 where
  pub test : Corruption
  pub number_is : number ≡ corruption_number test
  pub fails : BlockFails setup xs test ⊎ TermFails setup xs test

-- the bytes of a run with this status, over this store and these blocks
abbrev pub IsMade : Store → Wanted → List Exchange → List Look → Status → List ℕ → Type 0
IsMade store wanted xs looks Done bytes = AllBytes (wanted_setup wanted) xs looks bytes
IsMade store wanted xs looks NotFound bytes = IsMissing store wanted × (bytes ≡ [])
IsMade store wanted xs looks NoMemory bytes = FirstBytes (wanted_setup wanted) xs looks bytes
IsMade store wanted xs looks (BadBlock number) bytes =
    FirstBytes (wanted_setup wanted) xs looks bytes × BlockFailed (wanted_setup wanted) xs number
IsMade store wanted xs looks (BadSettings e) bytes = (unmet_setting wanted ≡ Some e) × (bytes ≡ [])
IsMade store wanted xs looks _ bytes = ⊥

-- a run over connections, each behind one of the taps, made these bytes of the blocks that were handed on
pub record MadeOf (store : Store) (wanted : Wanted) (passages : List Passage) (status : Status)
    (bytes : List ℕ) : Type 0 where
  pub xs : List Exchange
  pub passed : AllZip (IsPassed store) passages xs
  -- the first connection's queries cut the range, and no more others were asked than expired answers came
  pub asked : FirstAsksFew (wanted_setup wanted) xs
  -- no block of a plan passed twice, and each that passed is a block of a plan that was said
  pub once : ServedOnce (served_of_all xs)
  pub planned : AllPlanned (wanted_setup wanted) xs
  pub looks : List Look
  pub looked : GaveNothing wanted looks
  -- the data of each entry that a look gave was handed on in this run, in answer to the request of a block of the plans
  pub given : GaveServed (wanted_setup wanted) xs looks
  pub made : IsMade store wanted xs looks status bytes

-- the same, of the blocks that passed the taps of the lanes in a call, where each of these tells it
abbrev pub FromTaps : Store → Wanted → List TapTold → List TapTold → Status → List ℕ → Type 0
FromTaps store wanted before after status bytes =
    IfSome (all_passages (lane_taps wanted before) (lane_taps wanted after)) (λ passages.
    MadeOf store wanted passages status bytes)
