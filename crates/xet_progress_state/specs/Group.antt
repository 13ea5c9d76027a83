-- What a group counts.
use Rattle.std.specs.Prelude.{ℕ, ◌≡◌, ◌+◌, ◌-◌, ◌≤◌, ◌<◌, ◌^◌, max, cond, nat_eq, Bool, List, map, Option, Some, None}
use Rattle.std.specs.Prelude.{IsSome, option_map, Result, IfOk, IfErr, All}
use Rattle.std.specs.List.{sum_by}
use Rattle.std.specs.List.Sorted.{IsStrictlySortedBy}
use Rattle.std.specs.Map.{keys_of, lookup, set_value, values_of}
use Rattle.std.specs.BTreeMap.{insert_entry}
use Rattle.std.specs.Ordering.{nat_cmp, is_eq}
use Rattle.std.specs.declared.cmp.Ordering.{Ordering}
use Rattle.xet_base.specs.Lists.{first_some}
use Rattle.xet_base.specs.declared.item_id.UniqueID.{UniqueID}
use Rattle.xet_base.specs.declared.invalid.Invalid.{Invalid}
use Rattle.xet_base.specs.declared.invalid.Invalid.TheVariants.{DuplicateId, UnknownItem}
use Rattle.xet_progress_state.specs.declared.error.ProgressError.{ProgressError}
use Rattle.xet_progress_state.specs.declared.error.ProgressError.TheVariants.{OutOfMemory, InvalidOperation}
use Rattle.xet_progress_state.specs.declared.error.Incomplete.{Incomplete}
use Rattle.xet_progress_state.specs.declared.error.Incomplete.TheVariants.{Bytes, Transfer, Item}
use Rattle.xet_progress_state.specs.declared.item.ItemProgress.{ItemProgress}
use Rattle.xet_progress_state.specs.declared.item.ItemProgressReport.{ItemProgressReport}
use Rattle.xet_progress_state.specs.declared.item.GroupProgressReport.{GroupProgressReport}
use Rattle.xet_progress_state.specs.Accepted.{too_great, past_total, or_else}
use Rattle.xet_progress_state.specs.Items.{blank_item, report_of}
use Rattle.xet_progress_state.specs.Replies.{complete_or}

-- the items of a group by id, and what trackers and `add_transfer` added
pub record Group : Type 0 where
  pub items : List (UniqueID × ItemProgress)
  pub added : ℕ
  pub finished : ℕ

-- the order of the items
abbrev pub id_cmp : UniqueID → UniqueID → Ordering
id_cmp a b = nat_cmp a.0 b.0

-- the two ids are the same
abbrev pub is_id : UniqueID → UniqueID → Bool
is_id a b = is_eq (nat_cmp a.0 b.0)

-- the item of an id
abbrev pub item_of : Group → UniqueID → Option ItemProgress
item_of g id = lookup (is_id id) g.items

-- the group with another value of an item
abbrev pub with_item : Group → UniqueID → ItemProgress → Group
with_item g id x = record g { items = set_value (is_id id) g.items x }

-- the sum of a number over the items
abbrev pub over_items : (ItemProgress → ℕ) → Group → ℕ
over_items f g = sum_by f (values_of g.items)

-- the sums of the group
abbrev pub group_sums : Group → GroupProgressReport
group_sums g = record {
  total_bytes = over_items (λ i. i.total_bytes) g;
  total_bytes_completed = over_items (λ i. i.bytes_completed) g;
  total_transfer_bytes = over_items (λ i. i.transfer_bytes) g + g.added;
  total_transfer_bytes_completed = over_items (λ i. i.transfer_bytes_completed) g + g.finished;
}

-- completed is at most total
pub record IsWithinItem (i : ItemProgress) : Type 0 where
  pub bytes : i.bytes_completed ≤ i.total_bytes
  pub transfer : i.transfer_bytes_completed ≤ i.transfer_bytes

-- so it is for each item, and for what was added
pub record IsWithin (g : Group) : Type 0 where
  pub each : All IsWithinItem (values_of g.items)
  pub added_is : g.finished ≤ g.added

-- what is true of every group: completed is at most total, the totals fit 64 bits, and each id stands once, in order
pub record IsSound (g : Group) : Type 0 where
  pub within : IsWithin g
  pub bytes : (group_sums g).total_bytes < 2 ^ 64
  pub transfer : (group_sums g).total_transfer_bytes < 2 ^ 64
  pub ordered : IsStrictlySortedBy id_cmp (keys_of g.items)

-- what a call that names an item does: its test, and the item after it
pub record Change : Type 0 where
  pub test : Option Invalid
  pub item : ItemProgress

-- the refusal of a call on an item: the change's test, or that no item has this id
abbrev pub refusal_at : UniqueID → (ItemProgress → Change) → Option ItemProgress → Option Invalid
refusal_at id f None = Some (UnknownItem id)
refusal_at id f (Some i) = (f i).test

-- the group after it, where the test passes
abbrev pub group_at : Group → UniqueID → (ItemProgress → Change) → Option ItemProgress → Group
group_at g id f None = g
group_at g id f (Some i) = with_item g id (f i).item

-- one call on an item over the group before and after it
pub record ItemCall (before now : Group) (id : UniqueID) (f : ItemProgress → Change)
    (answer : Result (Unit {0}) ProgressError) : Type 0 where
  pub accepted : IfOk answer (λ _. (refusal_at id f (item_of before id) ≡ None)
      × (now ≡ group_at before id f (item_of before id)))
  pub refused : IfErr answer (λ e. (now ≡ before)
      × ((why : Invalid) → e ≡ InvalidOperation why → refusal_at id f (item_of before id) ≡ Some why)
      × (e ≡ OutOfMemory → ⊥))

-- more bytes completed
abbrev pub more_completed : ℕ → ItemProgress → Change
more_completed n i = record {
  test = past_total i.total_bytes i.bytes_completed n;
  item = record i { bytes_completed = i.bytes_completed + n };
}

-- more bytes transferred
abbrev pub more_transferred : ℕ → ItemProgress → Change
more_transferred n i = record {
  test = past_total i.transfer_bytes i.transfer_bytes_completed n;
  item = record i { transfer_bytes_completed = i.transfer_bytes_completed + n };
}

-- a total that becomes the greater of two, where the group's sum is the given one
abbrev pub transfer_sized : ℕ → ℕ → ItemProgress → Change
transfer_sized have total i = record {
  test = too_great have (total - i.transfer_bytes);
  item = record i { transfer_bytes = max i.transfer_bytes total };
}

-- a total that becomes the greater of two until it is final
abbrev pub sized : ℕ → ℕ → Bool → ItemProgress → Change
sized have total fin i =
    record {
      test = cond i.size_finalized None (too_great have (total - i.total_bytes));
      item = cond i.size_finalized i (record i { total_bytes = max i.total_bytes total; size_finalized = fin });
    }

-- the tests of `add_transfer`
abbrev pub transfer_test : Group → ℕ → ℕ → Option Invalid
transfer_test g total completed =
    or_else (too_great (over_items (λ i. i.transfer_bytes) g + g.added) total)
    (past_total (g.added + total) g.finished completed)

-- more to transfer and more transferred, refused by the first of the two tests that fails
pub record TransferCall (before now : Group) (total completed : ℕ)
    (answer : Result (Unit {0}) ProgressError) : Type 0 where
  pub accepted : IfOk answer (λ _. (transfer_test before total completed ≡ None)
      × (now ≡ record before { added = before.added + total; finished = before.finished + completed }))
  pub refused : IfErr answer (λ e. (now ≡ before)
      × ((why : Invalid) → e ≡ InvalidOperation why → transfer_test before total completed ≡ Some why)
      × (e ≡ OutOfMemory → ⊥))

-- what the group keeps beside it
pub record IsGroup (items : List (UniqueID × ItemProgress)) (added finished : ℕ)
    (sums : GroupProgressReport) : Type 0 where
  pub sums_are : sums ≡ group_sums (record { items = items; added = added; finished = finished })
  pub within : IsWithin (record { items = items; added = added; finished = finished })

-- a new item, where its id isn't there
pub record NewItemCall (before now : Group) (id : UniqueID) (name : List ℕ)
    (answer : Result (Unit {0}) ProgressError) : Type 0 where
  pub accepted : IfOk answer (λ _. (item_of before id ≡ None)
      × (now ≡ record before { items = insert_entry id_cmp before.items id (blank_item id name) }))
  pub refused : IfErr answer (λ e. (now ≡ before)
      × ((why : Invalid) → e ≡ InvalidOperation why → (why ≡ DuplicateId id) × IsSome (item_of before id)))

-- what an item says of itself, where its id is there; want of memory aside
pub record ItemAnswer {A : Type 0} (before now : Group) (id : UniqueID) (f : ItemProgress → A)
    (answer : Result A ProgressError) : Type 0 where
  pub same : now ≡ before
  pub accepted : IfOk answer (λ a. option_map f (item_of before id) ≡ Some a)
  pub refused : IfErr answer (λ e. (why : Invalid) → e ≡ InvalidOperation why
      → (why ≡ UnknownItem id) × (item_of before id ≡ None))

-- the reports of the items, by id
abbrev pub reports_of : Group → List (UniqueID × ItemProgressReport)
reports_of g = map (λ e. (e.0, report_of e.1)) g.items

-- the first pair that differs: bytes, transfer, then the bytes and the transfer of each item
abbrev pub sum_open : (ℕ → ℕ → Incomplete) → ℕ → ℕ → Option Incomplete
sum_open what completed total = cond (nat_eq completed total) None (Some (what completed total))

-- what is open of an item: its bytes, then its transfer
abbrev pub item_open : UniqueID × ItemProgress → Option Incomplete
item_open e =
    or_else (sum_open (Item e.0) e.1.bytes_completed e.1.total_bytes)
    (sum_open (Item e.0) e.1.transfer_bytes_completed e.1.transfer_bytes)

-- what is open of a group with these sums
abbrev pub open_of : Group → GroupProgressReport → Option Incomplete
open_of g r =
    or_else (sum_open Bytes r.total_bytes_completed r.total_bytes)
    (or_else (sum_open Transfer r.total_transfer_bytes_completed r.total_transfer_bytes)
    (first_some (map item_open g.items)))

-- the answer of the group
abbrev pub group_completeness : Group → Result (Unit {0}) Incomplete
group_completeness g = complete_or (open_of g (group_sums g))

-- the answer of the sums alone: bytes, then transfer
abbrev pub sums_completeness : GroupProgressReport → Result (Unit {0}) Incomplete
sums_completeness r =
    complete_or (or_else (sum_open Bytes r.total_bytes_completed r.total_bytes)
    (sum_open Transfer r.total_transfer_bytes_completed r.total_transfer_bytes))
