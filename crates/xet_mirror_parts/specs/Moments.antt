-- A moment of a call that mirrors, and what a part of the call does to shelf and target.
use Rattle.std.specs.Prelude.{◌≡◌, ◌⊎◌, ◌≤◌, All, Bool, true, List, ◌++◌, Some, Result, IfErr, OnOk, IsErrOf}
use Rattle.xet_base.specs.Store.{Store}
use Rattle.xet_outside.specs.Told.{Added, Rose}
use Rattle.xet_uploader.specs.Uploads.{UploaderTold, xorbs_in}
use Rattle.xet_uploader.specs.declared.uploader.Put.{Put}
use Rattle.xet_shelves.specs.After.{after}
use Rattle.xet_shelves.specs.Shelves.{ShelfTold}
use Rattle.xet_mirror_parts.specs.declared.report.MirrorError.{MirrorError}
use Rattle.xet_mirror_parts.specs.declared.report.MirrorError.TheVariants as mirror_error
use Rattle.xet_mirror_parts.specs.Looked.{IsWholeXorb}

-- the shelf tells the store `s`; the target tells a first store and a log that ends with these puts, and `t` is what
-- the first store and the log before them make
pub record Moment (s t : Store) (ps : List Put) (shelf : ShelfTold) (target : UploaderTold) : Type 0 where
  pub shelf_is : shelf.store ≡ Some s
  pub first : Store
  pub first_is : target.first ≡ Some first
  pub log : List Put
  pub log_is : target.puts ≡ Some (log ++ ps)
  pub now : t ≡ after first log

-- `HashDiffers` comes only where hashes are compared
abbrev pub OnlyTests : Bool → MirrorError → Type 0
OnlyTests verify (mirror_error.HashDiffers h) = verify ≡ true
OnlyTests verify _ = Unit {0}

-- a part of a call put these, each xorb of which is whole; store and first store stay, and no count falls. On Ok none
-- rose, and `ClientError` comes only where one did, `HashDiffers` only where hashes are compared
pub record Step {A : Type 0} (verify : Bool) (sb sa : ShelfTold) (tb ta : UploaderTold) (puts : List Put)
    (answer : Result A MirrorError) : Type 0 where
  pub added : Added tb.puts ta.puts puts
  pub store : sa.store ≡ sb.store
  pub first : ta.first ≡ tb.first
  pub faults : (sb.faults ≤ sa.faults) × (tb.faults ≤ ta.faults)
  pub unfailed : OnOk answer ((sa.faults ≡ sb.faults) × (ta.faults ≡ tb.faults))
  pub client : IsErrOf answer mirror_error.ClientError → Rose sb.faults sa.faults ⊎ Rose tb.faults ta.faults
  pub whole : All (IsWholeXorb verify) (xorbs_in puts)
  pub tests : IfErr answer (OnlyTests verify)
