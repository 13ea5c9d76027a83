-- The answer of a call on a group that a lock keeps.
use Rattle.std.specs.Prelude.{◌≡◌, None, IsSome, Result, Ok, Err, option_map, unwrap_or}
use Rattle.xet_base.specs.declared.item_id.UniqueID.{UniqueID}
use Rattle.xet_base.specs.declared.invalid.Invalid.TheVariants.{UnknownItem}
use Rattle.xet_progress_state.specs.declared.error.ProgressError.{ProgressError}
use Rattle.xet_progress_state.specs.declared.error.ProgressError.TheVariants.{InvalidOperation}
use Rattle.xet_progress_state.specs.declared.item.ItemProgress.{ItemProgress}
use Rattle.xet_progress_state.specs.Group.{Change, Group, IsSound, ItemCall, item_of}

-- on some group, of which what is true of every group is true, the call has this answer; which group it is isn't said
pub record Held (P : Group → Group → Type 0) : Type 0 where
  pub before : Group
  pub now : Group
  pub sound : IsSound before
  pub call : P before now

-- a call on an item, which changes nothing and answers Ok where the item isn't there
pub record UpdaterCall (before now : Group) (id : UniqueID) (f : ItemProgress → Change)
    (answer : Result (Unit {0}) ProgressError) : Type 0 where
  pub known : IsSome (item_of before id) → ItemCall before now id f answer
  pub unknown : item_of before id ≡ None → (answer ≡ Ok tt) × (now ≡ before)

-- the answer where want of an item is no refusal
abbrev pub known_answer : Result (Unit {0}) ProgressError → Result (Unit {0}) ProgressError
known_answer (Err (InvalidOperation (UnknownItem id))) = Ok tt
known_answer answer = answer

-- what an item says of itself, or another answer where it isn't there
abbrev pub said_or : {A : Type 0} → Group → UniqueID → (ItemProgress → A) → A → A
said_or g id f other = unwrap_or (option_map f (item_of g id)) other
