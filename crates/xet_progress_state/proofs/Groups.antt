-- A new item of a group, and what a group with all sums equal has open.
use Rattle.std.proofs.Common.{◌≡◌, ℕ, Bool, true, false, cond, List, [], ◌∷◌, ◌++◌, refl, sym, ◌∙◌, ap, ◌+◌, ◌<◌, ◌≤◌, zero, suc, length, get_or, arith}
use Rattle.std.specs.Prelude.{Option, Some, None, is_some, All, map, nat_eq, Result, Ok, Err, OnOk, IfErr}
use Rattle.std.specs.List.{sum_by}
use Rattle.std.specs.Borrow.{Bor}
use Rattle.std.specs.Map.{keys_of, lookup, values_of}
use Rattle.std.specs.Map.Iter.{deref_pair}
use Rattle.std.specs.BTreeMap.{insert_entry}
use Rattle.std.specs.Ordering.{is_eq, match_ordering, ordering_reverse}
use Rattle.std.specs.declared.cmp.Ordering.{Ordering}
use Rattle.std.specs.declared.cmp.Ordering.TheVariants.{Less, Equal, Greater}
use Rattle.std.proofs.lemmas.Bool.{eqb-true, eq-eqb}
use Rattle.std.proofs.lemmas.List.{get_or-map, get_or_append_left, length-map, map-append}
use Rattle.std.proofs.lemmas.List.Sums.{sum_by-cons}
use Rattle.std.proofs.lemmas.Simd.{map-map}
use Rattle.std.proofs.lemmas.Map.Views.{All-values-insert_entry}
use Rattle.xet_base.specs.declared.item_id.UniqueID.{UniqueID}
use Rattle.xet_base.specs.contracts.item_id.UniqueIDOrd.TheImpl.Laws.{total-law}
use Rattle.xet_base.specs.Lists.{first_some}
use Rattle.xet_progress_state.specs.declared.error.ProgressError.{ProgressError}
use Rattle.xet_progress_state.specs.declared.error.ProgressError.TheVariants.{OutOfMemory}
use Rattle.xet_progress_state.specs.declared.error.Incomplete.{Incomplete}
use Rattle.xet_progress_state.specs.declared.item.ItemProgress.{ItemProgress}
use Rattle.xet_progress_state.specs.declared.item.ItemProgressReport.{ItemProgressReport}
use Rattle.xet_progress_state.specs.declared.item.GroupProgressReport.{GroupProgressReport}
use Rattle.xet_progress_state.specs.Accepted.{or_else}
use Rattle.xet_progress_state.specs.Group.{Group, IsGroup, IsWithin, IsWithinItem, NewItemCall, group_completeness, group_sums, id_cmp, is_id, item_open, sums_completeness}
use Rattle.xet_progress_state.specs.Items.{blank_item, report_of}
use Rattle.xet_progress_state.specs.Replies.{complete_or}
use Rattle.xet_progress_state.proofs.Crediting.{sum_le_at}

-- a sum over the values with one more
sum_inserted : {X : Type 0} (f : X → ℕ) (es : List (UniqueID × X)) (k : UniqueID) (v : X) → lookup (is_id k) es ≡ None → sum_by f (values_of (insert_entry id_cmp es k v)) ≡ sum_by f (values_of es) + f v
sum_inserted f [] k v h = refl
sum_inserted {X} f (e ∷ es) k v h = go (id_cmp k e.0) h (λ n. sum_inserted f es k v n)
  where
    go : (o : Ordering) → cond (is_eq o) (Some e.1) (lookup (is_id k) es) ≡ None → (lookup (is_id k) es ≡ None → sum_by f (values_of (insert_entry id_cmp es k v)) ≡ sum_by f (values_of es) + f v)
        → sum_by f (values_of (match_ordering o ((k, v) ∷ e ∷ es) ((e.0, v) ∷ es) (e ∷ insert_entry id_cmp es k v))) ≡ sum_by f (e.1 ∷ values_of es) + f v
    go Less n next = let a = sum_by-cons f v (e.1 ∷ values_of es) in omega (arith, a)
    go Equal n next = absurd (cc)
    go Greater n next =
        let a = sum_by-cons f e.1 (values_of (insert_entry id_cmp es k v)) in
        let b = sum_by-cons f e.1 (values_of es) in
        let r = next n in
        omega (arith, a, b, r)

-- the group with a new item
pub group_new : (es : List (UniqueID × ItemProgress)) (added finished : ℕ) (sums : GroupProgressReport) (id : UniqueID) (name : List ℕ) → IsGroup es added finished sums → lookup (is_id id) es ≡ None
    → IsGroup (insert_entry id_cmp es id (blank_item id name)) added finished sums
group_new es added finished sums id name g absent =
    let t : sums.total_bytes ≡ sum_by (λ (i : ItemProgress). i.total_bytes) (values_of (insert_entry id_cmp es id (blank_item id name))) =
    (let s = sum_inserted (λ (i : ItemProgress). i.total_bytes) es id (blank_item id name) absent in let k = ap (λ (r : GroupProgressReport). r.total_bytes) g.sums_are in omega (arith, s, k)) in
    let u : sums.total_bytes_completed ≡ sum_by (λ (i : ItemProgress). i.bytes_completed) (values_of (insert_entry id_cmp es id (blank_item id name))) =
    (let s = sum_inserted (λ (i : ItemProgress). i.bytes_completed) es id (blank_item id name) absent in let k = ap (λ (r : GroupProgressReport). r.total_bytes_completed) g.sums_are in omega (arith, s, k)) in
    let x : sums.total_transfer_bytes ≡ sum_by (λ (i : ItemProgress). i.transfer_bytes) (values_of (insert_entry id_cmp es id (blank_item id name))) + added =
    (let s = sum_inserted (λ (i : ItemProgress). i.transfer_bytes) es id (blank_item id name) absent in let k = ap (λ (r : GroupProgressReport). r.total_transfer_bytes) g.sums_are in omega (arith, s, k)) in
    let y : sums.total_transfer_bytes_completed ≡ sum_by (λ (i : ItemProgress). i.transfer_bytes_completed) (values_of (insert_entry id_cmp es id (blank_item id name))) + finished =
    (let s = sum_inserted (λ (i : ItemProgress). i.transfer_bytes_completed) es id (blank_item id name) absent in let k = ap (λ (r : GroupProgressReport). r.total_transfer_bytes_completed) g.sums_are in omega (arith, s, k)) in
    record {
      sums_are = λ i. record { total_bytes = t i; total_bytes_completed = u i; total_transfer_bytes = x i; total_transfer_bytes_completed = y i };
      within = record {
        each = All-values-insert_entry id_cmp id (blank_item id name) IsWithinItem es g.within.each (record { bytes = omega arith; transfer = omega arith });
        added_is = g.within.added_is;
      };
    }

-- the group after a try to add an item
pub group_after : (es fs : List (UniqueID × ItemProgress)) (added finished : ℕ) (sums : GroupProgressReport) (id : UniqueID) (name : List ℕ) (answer : Result (Unit {0}) ProgressError) → IsGroup es added finished sums → lookup (is_id id) es ≡ None
    → OnOk answer (fs ≡ insert_entry id_cmp es id (blank_item id name)) → IfErr answer (λ e. (e ≡ OutOfMemory) × (fs ≡ es)) → IsGroup fs added finished sums
group_after es fs added finished sums id name (Ok u) g absent ok err = rw ok (group_new es added finished sums id name g absent)
group_after es fs added finished sums id name (Err e) g absent ok err = rw err.1 g

-- and what that try is
pub new_item_call : (before : Group) (fs : List (UniqueID × ItemProgress)) (id : UniqueID) (name : List ℕ) (answer : Result (Unit {0}) ProgressError) → lookup (is_id id) before.items ≡ None
    → OnOk answer (fs ≡ insert_entry id_cmp before.items id (blank_item id name)) → IfErr answer (λ e. (e ≡ OutOfMemory) × (fs ≡ before.items)) → NewItemCall before (record before { items = fs }) id name answer
new_item_call before fs id name (Ok u) absent ok err = record { accepted = (absent, ap (λ (l : List (UniqueID × ItemProgress)). let g : Group = record before { items = l } in g) ok); refused = tt }
new_item_call before fs id name (Err e) absent ok err = record {
  accepted = tt;
  refused = (ap (λ (l : List (UniqueID × ItemProgress)). let g : Group = record before { items = l } in g) err.1, λ why q. let m = err.0 in absurd (cc));
}

-- numbers that are each at most others are equal where their sums are
equal_each : {X : Type 0} (f g : X → ℕ) (xs : List X) → All (λ x. f x ≤ g x) xs → sum_by f xs ≡ sum_by g xs → All (λ x. f x ≡ g x) xs
equal_each f g [] a e = λ k d l. absurd (omega arith)
equal_each {X} f g (x ∷ xs) a e = at (equal_each f g xs rest same)
  where
    rest : All (λ x. f x ≤ g x) xs
    rest k d l = a (suc k) d (omega (arith, l))

    head : f x ≤ g x
    head = a 0 x (omega arith)

    le : sum_by f xs ≤ sum_by g xs
    le = sum_le_at f g xs xs refl rest

    same : sum_by f xs ≡ sum_by g xs
    same = let h = head in let s = le in let p = sum_by-cons f x xs in let q = sum_by-cons g x xs in omega (arith, h, s, e, p, q)

    at : All (λ x. f x ≡ g x) xs → All (λ x. f x ≡ g x) (x ∷ xs)
    at next zero d l = let h = head in let s = le in let p = sum_by-cons f x xs in let q = sum_by-cons g x xs in omega (arith, h, s, e, p, q)
    at next (suc k) d l = next k d (omega (arith, l))

-- where each item's completed bytes are its total, none is open
none_open : (es : List (UniqueID × ItemProgress)) → All (λ i. i.bytes_completed ≡ i.total_bytes) (values_of es) → All (λ i. i.transfer_bytes_completed ≡ i.transfer_bytes) (values_of es) → first_some (map item_open es) ≡ None
none_open [] a b = refl
none_open (e ∷ es) a b =
    let rest = none_open es (λ k d l. a (suc k) d (omega (arith, l))) (λ k d l. b (suc k) d (omega (arith, l))) in
    let x = eq-eqb e.1.bytes_completed e.1.total_bytes (a 0 e.1 (omega arith)) in
    let y = eq-eqb e.1.transfer_bytes_completed e.1.transfer_bytes (b 0 e.1 (omega arith)) in
    rw (x, y) rest

-- where both pairs are equal nothing else counts
complete_of : (b t : Bool) (x y : Incomplete) (o : Option Incomplete) → (b ≡ true → t ≡ true → o ≡ None)
    → complete_or (or_else (cond b None (Some x)) (cond t None (Some y))) ≡ complete_or (or_else (cond b None (Some x)) (or_else (cond t None (Some y)) o))
complete_of true true x y o h = sym (ap complete_or (h refl refl))
complete_of true false x y o h = refl
complete_of false t x y o h = refl

pub complete_group : (es : List (UniqueID × ItemProgress)) (added finished : ℕ) (sums : GroupProgressReport) → IsGroup es added finished sums → sums_completeness sums ≡ group_completeness (record { items = es; added = added; finished = finished })
complete_group es added finished sums g =
    ap sums_completeness g.sums_are ∙ complete_of _ _ _ _ (first_some (map item_open es)) closed
  where
    vs : List ItemProgress
    vs = values_of es

    closed : nat_eq (sum_by (λ (i : ItemProgress). i.bytes_completed) (values_of es)) (sum_by (λ (i : ItemProgress). i.total_bytes) (values_of es)) ≡ true
        → nat_eq (sum_by (λ (i : ItemProgress). i.transfer_bytes_completed) (values_of es) + finished) (sum_by (λ (i : ItemProgress). i.transfer_bytes) (values_of es) + added) ≡ true → first_some (map item_open es) ≡ None
    closed b t =
        let bytes = eqb-true (sum_by (λ (i : ItemProgress). i.bytes_completed) (values_of es)) (sum_by (λ (i : ItemProgress). i.total_bytes) (values_of es)) b in
        let both = eqb-true (sum_by (λ (i : ItemProgress). i.transfer_bytes_completed) (values_of es) + finished) (sum_by (λ (i : ItemProgress). i.transfer_bytes) (values_of es) + added) t in
        let le = sum_le_at (λ (i : ItemProgress). i.transfer_bytes_completed) (λ (i : ItemProgress). i.transfer_bytes) (values_of es) (values_of es) refl (λ k d l. (g.within.each k d l).transfer) in
        let w = g.within.added_is in
        none_open es (equal_each (λ (i : ItemProgress). i.bytes_completed) (λ (i : ItemProgress). i.total_bytes) (values_of es) (λ k d l. (g.within.each k d l).bytes) bytes)
        (equal_each (λ (i : ItemProgress). i.transfer_bytes_completed) (λ (i : ItemProgress). i.transfer_bytes) (values_of es) (λ k d l. (g.within.each k d l).transfer) (omega (arith, both, le, w)))

-- an entry that comes after all others is the last
pub inserted_last : {X : Type 0} (es : List (UniqueID × X)) (k : UniqueID) (v : X) → ((i : ℕ) (d : UniqueID × X) → i < length es → id_cmp k (get_or es i d).0 ≡ Greater) → insert_entry id_cmp es k v ≡ es ++ (k, v) ∷ []
inserted_last [] k v h = refl
inserted_last (e ∷ es) k v h = rw (h 0 e (omega arith)) (ap (λ (l : List _). e ∷ l) (inserted_last es k v (λ i d l. h (suc i) d (omega (arith, l)))))

-- the reports so far, and that of the next item
pub reports_last : (es rest : List (UniqueID × ItemProgress)) (xs : List (Bor UniqueID × Bor ItemProgress)) (rs : List (UniqueID × ItemProgressReport)) (k : UniqueID) (v : ItemProgressReport)
    → es ≡ map deref_pair xs ++ rest → rs ≡ map (λ p. (p.0.now, report_of p.1.now)) xs → ((i : ℕ) (d : UniqueID) → i < length xs → id_cmp (get_or (keys_of es) i d) k ≡ Less)
    → insert_entry id_cmp rs k v ≡ rs ++ (k, v) ∷ []
reports_last es rest xs rs k v e r less = inserted_last rs k v (λ i d l. after i d l)
  where
    keys : keys_of es ≡ map (λ p. p.0.now) xs ++ keys_of rest
    keys = ap (λ (l : List (UniqueID × ItemProgress)). keys_of l) e ∙ map-append (λ (p : UniqueID × ItemProgress). p.0) (map deref_pair xs) rest ∙ ap (λ (l : List UniqueID). l ++ keys_of rest) (map-map (λ (p : UniqueID × ItemProgress). p.0) (deref_pair {K = UniqueID} {X = ItemProgress}) xs)

    mine : keys_of rs ≡ map (λ p. p.0.now) xs
    mine = ap (λ (l : List (UniqueID × ItemProgressReport)). keys_of l) r ∙ map-map (λ (p : UniqueID × ItemProgressReport). p.0) (λ (p : Bor UniqueID × Bor ItemProgress). (p.0.now, report_of p.1.now)) xs

    after : (i : ℕ) (d : UniqueID × ItemProgressReport) → i < length rs → id_cmp k (get_or rs i d).0 ≡ Greater
    after i d l =
        let n = ap (λ (l : List (UniqueID × ItemProgressReport)). length l) r ∙ length-map xs (λ (p : Bor UniqueID × Bor ItemProgress). (p.0.now, report_of p.1.now)) in
        let m = length-map xs (λ (p : Bor UniqueID × Bor ItemProgress). p.0.now) in
        let inside : i < length xs = omega (arith, l, n) in
        let a : get_or (keys_of rs) i d.0 ≡ (get_or rs i d).0 = get_or-map (λ (p : UniqueID × ItemProgressReport). p.0) rs i d d.0 l in
        let b : get_or (keys_of es) i d.0 ≡ get_or (map (λ (p : Bor UniqueID × Bor ItemProgress). p.0.now) xs) i d.0 =
        ap (λ (l : List UniqueID). get_or l i d.0) keys ∙ get_or_append_left (map (λ (p : Bor UniqueID × Bor ItemProgress). p.0.now) xs) (keys_of rest) d.0 i (omega (arith, inside, m)) in
        let same : (get_or rs i d).0 ≡ get_or (keys_of es) i d.0 = sym a ∙ ap (λ (l : List UniqueID). get_or l i d.0) mine ∙ sym b in
        ap (λ (x : UniqueID). id_cmp k x) same ∙ total-law.antisymm k (get_or (keys_of es) i d.0) ∙ ap ordering_reverse (less i d.0 inside)

pub none_some : {A : Type 0} (o : Option A) → is_some o ≡ false → o ≡ None
none_some None h = refl
none_some (Some x) h = absurd (cc)

-- one report more
pub reports_more : (es rest : List (UniqueID × ItemProgress)) (xs : List (Bor UniqueID × Bor ItemProgress)) (x : Bor UniqueID × Bor ItemProgress) (rs ss : List (UniqueID × ItemProgressReport)) (v : ItemProgressReport)
    → es ≡ map deref_pair xs ++ rest → rs ≡ map (λ p. (p.0.now, report_of p.1.now)) xs → ((i : ℕ) (d : UniqueID) → i < length xs → id_cmp (get_or (keys_of es) i d) x.0.now ≡ Less)
    → v ≡ report_of x.1.now → ss ≡ insert_entry id_cmp rs x.0.now v → ss ≡ map (λ p. (p.0.now, report_of p.1.now)) (xs ++ x ∷ [])
reports_more es rest xs x rs ss v e r less is put =
    put ∙ reports_last es rest xs rs x.0.now v e r less
    ∙ (λ i. r i ++ (x.0.now, is i) ∷ [])
    ∙ sym (map-append (λ (p : Bor UniqueID × Bor ItemProgress). (p.0.now, report_of p.1.now)) xs (x ∷ []))

-- what is completed is at most the total, for the sums too
pub bytes_within : (g : Group) → IsWithin g → (group_sums g).total_bytes_completed ≤ (group_sums g).total_bytes
bytes_within g w = sum_le_at (λ (i : ItemProgress). i.bytes_completed) (λ (i : ItemProgress). i.total_bytes) (values_of g.items) (values_of g.items) refl (λ k d l. (w.each k d l).bytes)

pub transfer_within : (g : Group) → IsWithin g → (group_sums g).total_transfer_bytes_completed ≤ (group_sums g).total_transfer_bytes
transfer_within g w =
    let a = sum_le_at (λ (i : ItemProgress). i.transfer_bytes_completed) (λ (i : ItemProgress). i.transfer_bytes) (values_of g.items) (values_of g.items) refl (λ k d l. (w.each k d l).transfer) in
    let b = w.added_is in
    omega (arith, a, b)
