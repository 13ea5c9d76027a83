-- What an item of a group says.
use Rattle.std.specs.Prelude.{ℕ, false, cond, nat_eq, List, Result, Ok, Err}
use Rattle.xet_base.specs.declared.item_id.UniqueID.{UniqueID}
use Rattle.xet_progress_state.specs.declared.error.Incomplete.{Incomplete}
use Rattle.xet_progress_state.specs.declared.error.Incomplete.TheVariants.{Bytes, Transfer}
use Rattle.xet_progress_state.specs.declared.item.ItemProgress.{ItemProgress}
use Rattle.xet_progress_state.specs.declared.item.ItemProgressReport.{ItemProgressReport}

-- a new item: no bytes, and a size that is not final
abbrev pub blank_item : UniqueID → List ℕ → ItemProgress
blank_item id name =
    record {
      id = id;
      name = name;
      total_bytes = 0;
      bytes_completed = 0;
      transfer_bytes = 0;
      transfer_bytes_completed = 0;
      size_finalized = false;
    }

-- the report of an item
abbrev pub report_of : ItemProgress → ItemProgressReport
report_of i = record { item_name = i.name; total_bytes = i.total_bytes; bytes_completed = i.bytes_completed }

-- bytes, then transfer
abbrev pub item_completeness : ItemProgress → Result (Unit {0}) Incomplete
item_completeness i =
    cond (nat_eq i.bytes_completed i.total_bytes)
    (cond (nat_eq i.transfer_bytes_completed i.transfer_bytes) (Ok tt)
    (Err (Transfer i.transfer_bytes_completed i.transfer_bytes)))
    (Err (Bytes i.bytes_completed i.total_bytes))
