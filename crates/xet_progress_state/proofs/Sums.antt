-- The sums of a group after a change of one item.
use Rattle.std.proofs.Common.{◌≡◌, ℕ, Bool, true, false, cond, List, [], ◌∷◌, refl, sym, subst, ◌∙◌, ap, ◌+◌, ◌-◌, ◌<◌, ◌≤◌, ◌^◌, zero, suc, arith}
use Rattle.std.specs.Prelude.{Some, All}
use Rattle.std.specs.List.{sum_by}
use Rattle.std.specs.Map.{lookup, set_value, values_of}
use Rattle.std.proofs.lemmas.Map.Entries.{sum_by-set_value}
use Rattle.xet_base.specs.declared.item_id.UniqueID.{UniqueID}
use Rattle.xet_progress_state.specs.declared.item.ItemProgress.{ItemProgress}
use Rattle.xet_progress_state.specs.declared.item.GroupProgressReport.{GroupProgressReport}
use Rattle.xet_progress_state.specs.Group.{IsGroup, IsWithinItem, is_id}
use Rattle.xet_progress_state.proofs.Crediting.{sum_le_at}

-- all values stay as they should where one is set
all_set : {K X : Type 0} (P : X → Type 0) (test : K → Bool) (es : List (K × X)) (w : X) → All P (values_of es) → P w → All P (values_of (set_value test es w))
all_set P test [] w a h = a
all_set P test (e ∷ es) w a h = go (test e.0) (all_set P test es w (λ k d l. a (suc k) d (omega (arith, l))) h)
  where
    go : (b : Bool) → All P (values_of (set_value test es w)) → All P (values_of (cond b ((e.0, w) ∷ es) (e ∷ set_value test es w)))
    go true next zero d l = h
    go true next (suc k) d l = a (suc k) d l
    go false next zero d l = a zero d (omega arith)
    go false next (suc k) d l = next k d (omega (arith, l))

-- a value that was found is as all are
pub found_is : {K X : Type 0} (P : X → Type 0) (test : K → Bool) (es : List (K × X)) (v : X) → All P (values_of es) → lookup test es ≡ Some v → P v
found_is P test [] v a e = absurd (cc)
found_is {K} {X} P test (e ∷ es) v a h = go (test e.0) h (λ k. found_is P test es v (λ k d l. a (suc k) d (omega (arith, l))) k)
  where
    go : (b : Bool) → cond b (Some e.1) (lookup test es) ≡ Some v → (lookup test es ≡ Some v → P v) → P v
    go true k next = let same : e.1 ≡ v = cc in subst (λ (x : X). P x) same (a 0 e.1 (omega arith))
    go false k next = next k

module _ (es : List (UniqueID × ItemProgress)) (added finished : ℕ) (sums : GroupProgressReport) (g : IsGroup es added finished sums) (id : UniqueID) (v : ItemProgress) (at : lookup (is_id id) es ≡ Some v) (n : ℕ) (fit : v.bytes_completed + n ≤ v.total_bytes) where
  abbrev w : ItemProgress
  w = record v { bytes_completed = v.bytes_completed + n }

  each : All IsWithinItem (values_of (set_value (is_id id) es (record v { bytes_completed = v.bytes_completed + n })))
  each = all_set IsWithinItem (is_id id) es (record v { bytes_completed = v.bytes_completed + n }) g.within.each
      (record { bytes = fit; transfer = (found_is IsWithinItem (is_id id) es v g.within.each at).transfer })

  more : sum_by (λ (i : ItemProgress). i.bytes_completed) (values_of (set_value (is_id id) es (record v { bytes_completed = v.bytes_completed + n }))) ≡ sum_by (λ (i : ItemProgress). i.bytes_completed) (values_of es) + n
  more = let s = sum_by-set_value (λ (i : ItemProgress). i.bytes_completed) (is_id id) es v (record v { bytes_completed = v.bytes_completed + n }) at in omega (arith, s)

  same : (f : ItemProgress → ℕ) → f (record v { bytes_completed = v.bytes_completed + n }) ≡ f v → sum_by f (values_of (set_value (is_id id) es (record v { bytes_completed = v.bytes_completed + n }))) ≡ sum_by f (values_of es)
  same f e = let s = sum_by-set_value f (is_id id) es v (record v { bytes_completed = v.bytes_completed + n }) at in omega (arith, s, e)

  pub sum_fits : sums.total_bytes < 2 ^ 64 → sums.total_bytes_completed + n < 2 ^ 64
  sum_fits small =
      let t = ap (λ (r : GroupProgressReport). r.total_bytes) g.sums_are in
      let c = ap (λ (r : GroupProgressReport). r.total_bytes_completed) g.sums_are in
      let m = more in
      let s = same (λ (i : ItemProgress). i.total_bytes) refl in
      let vs = values_of (set_value (is_id id) es (record v { bytes_completed = v.bytes_completed + n })) in
      let le = sum_le_at (λ (i : ItemProgress). i.bytes_completed) (λ (i : ItemProgress). i.total_bytes) (values_of (set_value (is_id id) es (record v { bytes_completed = v.bytes_completed + n }))) (values_of (set_value (is_id id) es (record v { bytes_completed = v.bytes_completed + n }))) refl (λ k d l. (each k d l).bytes) in
      omega (arith, t, c, m, s, le, small)

  pub group_more : IsGroup (set_value (is_id id) es (record v { bytes_completed = v.bytes_completed + n })) added finished (record sums { total_bytes_completed = sums.total_bytes_completed + n })
  group_more =
      let t = ap (λ (r : GroupProgressReport). r.total_bytes) g.sums_are ∙ sym (same (λ (i : ItemProgress). i.total_bytes) refl) in
      let c : sums.total_bytes_completed + n ≡ sum_by (λ (i : ItemProgress). i.bytes_completed) (values_of (set_value (is_id id) es (record v { bytes_completed = v.bytes_completed + n }))) =
      (let m = more in let c = ap (λ (r : GroupProgressReport). r.total_bytes_completed) g.sums_are in omega (arith, m, c)) in
      let x = ap (λ (r : GroupProgressReport). r.total_transfer_bytes) g.sums_are ∙ ap (λ (m : ℕ). m + added) (sym (same (λ (i : ItemProgress). i.transfer_bytes) refl)) in
      let y = ap (λ (r : GroupProgressReport). r.total_transfer_bytes_completed) g.sums_are ∙ ap (λ (m : ℕ). m + finished) (sym (same (λ (i : ItemProgress). i.transfer_bytes_completed) refl)) in
      record {
        sums_are = λ i. record { total_bytes = t i; total_bytes_completed = c i; total_transfer_bytes = x i; total_transfer_bytes_completed = y i };
        within = record { each = each; added_is = g.within.added_is };
      }

-- what the items and trackers transferred fits what they have to
pub transfer_fits : (es : List (UniqueID × ItemProgress)) (added finished : ℕ) (sums : GroupProgressReport) → IsGroup es added finished sums → (total completed : ℕ) → sums.total_transfer_bytes + total < 2 ^ 64 → completed ≤ (added + total) - finished
    → sums.total_transfer_bytes_completed + completed < 2 ^ 64
transfer_fits es added finished sums g total completed small fit =
    let t = ap (λ (r : GroupProgressReport). r.total_transfer_bytes) g.sums_are in
    let c = ap (λ (r : GroupProgressReport). r.total_transfer_bytes_completed) g.sums_are in
    let le = sum_le_at (λ (i : ItemProgress). i.transfer_bytes_completed) (λ (i : ItemProgress). i.transfer_bytes) (values_of es) (values_of es) refl (λ k d l. (g.within.each k d l).transfer) in
    let w = g.within.added_is in
    omega (arith, t, c, le, w, small, fit)

-- the sums after any change of one item
pub group_set : (es : List (UniqueID × ItemProgress)) (added finished : ℕ) (sums r : GroupProgressReport) → IsGroup es added finished sums → (id : UniqueID) (v w : ItemProgress) → lookup (is_id id) es ≡ Some v → IsWithinItem w
    → r.total_bytes + v.total_bytes ≡ sums.total_bytes + w.total_bytes → r.total_bytes_completed + v.bytes_completed ≡ sums.total_bytes_completed + w.bytes_completed
    → r.total_transfer_bytes + v.transfer_bytes ≡ sums.total_transfer_bytes + w.transfer_bytes → r.total_transfer_bytes_completed + v.transfer_bytes_completed ≡ sums.total_transfer_bytes_completed + w.transfer_bytes_completed
    → IsGroup (set_value (is_id id) es w) added finished r
group_set es added finished sums r g id v w at is a b c d =
    let t : r.total_bytes ≡ sum_by (λ (i : ItemProgress). i.total_bytes) (values_of (set_value (is_id id) es w)) =
    (let s = sum_by-set_value (λ (i : ItemProgress). i.total_bytes) (is_id id) es v w at in let k = ap (λ (r : GroupProgressReport). r.total_bytes) g.sums_are in omega (arith, s, k, a)) in
    let u : r.total_bytes_completed ≡ sum_by (λ (i : ItemProgress). i.bytes_completed) (values_of (set_value (is_id id) es w)) =
    (let s = sum_by-set_value (λ (i : ItemProgress). i.bytes_completed) (is_id id) es v w at in let k = ap (λ (r : GroupProgressReport). r.total_bytes_completed) g.sums_are in omega (arith, s, k, b)) in
    let x : r.total_transfer_bytes ≡ sum_by (λ (i : ItemProgress). i.transfer_bytes) (values_of (set_value (is_id id) es w)) + added =
    (let s = sum_by-set_value (λ (i : ItemProgress). i.transfer_bytes) (is_id id) es v w at in let k = ap (λ (r : GroupProgressReport). r.total_transfer_bytes) g.sums_are in omega (arith, s, k, c)) in
    let y : r.total_transfer_bytes_completed ≡ sum_by (λ (i : ItemProgress). i.transfer_bytes_completed) (values_of (set_value (is_id id) es w)) + finished =
    (let s = sum_by-set_value (λ (i : ItemProgress). i.transfer_bytes_completed) (is_id id) es v w at in let k = ap (λ (r : GroupProgressReport). r.total_transfer_bytes_completed) g.sums_are in omega (arith, s, k, d)) in
    record {
      sums_are = λ i. record { total_bytes = t i; total_bytes_completed = u i; total_transfer_bytes = x i; total_transfer_bytes_completed = y i };
      within = record { each = all_set IsWithinItem (is_id id) es w g.within.each is; added_is = g.within.added_is };
    }

-- what is completed fits where the totals do
pub transfer_within : (es : List (UniqueID × ItemProgress)) (added finished : ℕ) (r : GroupProgressReport) → IsGroup es added finished r → r.total_transfer_bytes_completed ≤ r.total_transfer_bytes
transfer_within es added finished r g =
    let t = ap (λ (r : GroupProgressReport). r.total_transfer_bytes) g.sums_are in
    let c = ap (λ (r : GroupProgressReport). r.total_transfer_bytes_completed) g.sums_are in
    let le = sum_le_at (λ (i : ItemProgress). i.transfer_bytes_completed) (λ (i : ItemProgress). i.transfer_bytes) (values_of es) (values_of es) refl (λ k d l. (g.within.each k d l).transfer) in
    let w = g.within.added_is in
    omega (arith, t, c, le, w)

-- a value that is set as it was
pub set_same : {K X : Type 0} (test : K → Bool) (es : List (K × X)) (v : X) → lookup test es ≡ Some v → set_value test es v ≡ es
set_same test [] v h = refl
set_same {K} {X} test (e ∷ es) v h = go (test e.0) h (λ k. set_same test es v k)
  where
    go : (b : Bool) → cond b (Some e.1) (lookup test es) ≡ Some v → (lookup test es ≡ Some v → set_value test es v ≡ es) → cond b ((e.0, v) ∷ es) (e ∷ set_value test es v) ≡ e ∷ es
    go true k next = let same : v ≡ e.1 = cc in ap (λ (x : X). (e.0, x) ∷ es) same
    go false k next = ap (λ l. e ∷ l) (next k)
