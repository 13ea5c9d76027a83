-- The ids of flags, by the entries of their map.
use Rattle.std.proofs.Common.{◌≡◌, Bool, true, false, cond, List, [], ◌∷◌, ap, refl}
use Rattle.std.specs.BTreeMap.{insert_entry}
use Rattle.std.specs.Map.{keys_of, remove_entry}
use Rattle.std.specs.Ordering.{match_ordering}
use Rattle.std.specs.declared.cmp.Ordering.{Ordering}
use Rattle.std.specs.declared.cmp.Ordering.TheVariants.{Less, Equal, Greater}
use Rattle.xet_base.specs.declared.item_id.UniqueID.{UniqueID}
use Rattle.xet_progress_state.specs.Group.{id_cmp, is_id}
use Rattle.xet_download.specs.Streams.{with_id, without_id}

-- with one more
pub keys_inserted : {X : Type 0} (es : List (UniqueID × X)) (k : UniqueID) (v : X)
    → keys_of (insert_entry id_cmp es k v) ≡ with_id (keys_of es) k
keys_inserted [] k v = refl
keys_inserted (e ∷ es) k v = by (id_cmp k e.0) (keys_inserted es k v)
  where
    by : (o : Ordering) → keys_of (insert_entry id_cmp es k v) ≡ with_id (keys_of es) k
        → keys_of (match_ordering o ((k, v) ∷ e ∷ es) ((e.0, v) ∷ es) (e ∷ insert_entry id_cmp es k v))
        ≡ match_ordering o (k ∷ e.0 ∷ keys_of es) (e.0 ∷ keys_of es) (e.0 ∷ with_id (keys_of es) k)
    by Less rest = refl
    by Equal rest = refl
    by Greater rest = ap (λ (ids : List UniqueID). e.0 ∷ ids) rest

-- without one
pub keys_removed : {X : Type 0} (es : List (UniqueID × X)) (k : UniqueID)
    → keys_of (remove_entry (is_id k) es) ≡ without_id (keys_of es) k
keys_removed [] k = refl
keys_removed (e ∷ es) k = by (is_id k e.0) (keys_removed es k)
  where
    by : (t : Bool) → keys_of (remove_entry (is_id k) es) ≡ without_id (keys_of es) k
        → keys_of (cond t es (e ∷ remove_entry (is_id k) es))
        ≡ cond t (keys_of es) (e.0 ∷ without_id (keys_of es) k)
    by true rest = refl
    by false rest = ap (λ (ids : List UniqueID). e.0 ∷ ids) rest
