-- What is not complete, over what the tracker keeps.
use Rattle.std.proofs.Common.{◌≡◌, ℕ, ◌<◌, Bool, true, false, cond, not, ◌||◌, ◌&&◌, List, [], ◌∷◌, refl, sym, subst, ◌∙◌, ap, ◌+◌, map, length, get_or, arith}
use Rattle.std.specs.Prelude.{Option, Some, None, filter, find, option_map, unwrap_or, nat_eq, IfSome, IfNone, Result, Ok, Err, OnOk, is_err, IsPermutation}
use Rattle.std.specs.List.{enumerate_from, flat_map, list_any, AllByRecursion}
use Rattle.std.specs.declared.cmp.Ordering.{Ordering}
use Rattle.std.specs.declared.cmp.Ordering.TheVariants.{Less, Equal, Greater}
use Rattle.std.specs.Ordering.{nat_cmp, is_lt, is_eq, ordering_reverse, ordering_then}
use Rattle.std.specs.Cmp.{IsTotalOrder, unsigned_tied}
use Rattle.std.specs.Cmp.Lexicographic.{slice_cmp}
use Rattle.std.proofs.lemmas.Bool.{false≢true, true≢false, not-true, not_from_false, or_left, or_right}
use Rattle.std.proofs.lemmas.Cmp.{nat_list_cmp_total}
use Rattle.std.proofs.lemmas.List.{get_or_default}
use Rattle.std.proofs.lemmas.List.Sorted.{list_any-IsPermutation}
use lib.Pointwise.{pointwise}
use Rattle.xet_base.specs.declared.merklehash.MerkleHash.{MerkleHash}
use Rattle.xet_base.specs.Hashes.{hash_eq}
use Rattle.xet_base.specs.Lists.{first_some}
use Rattle.xet_base.proofs.CallerLemmas.{hash_eq-true, hash_eq-own}
use Rattle.xet_progress_state.specs.declared.error.Incomplete.{Incomplete}
use Rattle.xet_progress_state.specs.declared.error.Incomplete.TheVariants.{Xorb}
use Rattle.xet_progress_state.specs.declared.step.TrackerStep.{TrackerStep}
use Rattle.xet_progress_state.specs.declared.file.TrackedFile.{TrackedFile}
use Rattle.xet_progress_state.specs.declared.xorb.TrackedXorb.{TrackedXorb}
use Rattle.xet_progress_state.specs.declared.marks.Marks.{Marks}
use Rattle.xet_progress_state.specs.Counts.{named, sizes, files, is_completed, size_of}
use Rattle.xet_progress_state.specs.steps.Kept.{IsState, XorbIs, tracked}
use Rattle.xet_progress_state.specs.steps.Open.{open_in, done_in, has}
use Rattle.xet_progress_state.specs.Accepted.{or_else}
use Rattle.xet_progress_state.specs.Replies.{open_file, open_xorb, hash_lt, lesser, least, incomplete_of}

opens : (cs : List TrackerStep) (k : ℕ) (zs : List (Option ℕ)) → map open_in (enumerate_from k (map (tracked cs) (enumerate_from k zs))) ≡ map (open_file cs) (enumerate_from k zs)
opens cs k [] = refl
opens cs k (z ∷ zs) = ap (λ l. open_file cs (k, z) ∷ l) (opens cs (k + 1) zs)

-- the first open file
pub open_files : (cs : List TrackerStep) (fs : List TrackedFile) → fs ≡ map (tracked cs) (files cs) → first_some (map open_in (enumerate_from 0 fs)) ≡ first_some (map (open_file cs) (files cs))
open_files cs fs e = ap (λ (l : List TrackedFile). first_some (map open_in (enumerate_from 0 l))) e ∙ ap (λ l. first_some l) (opens cs 0 (sizes cs))

done_is : (cs : List TrackerStep) (h : MerkleHash) (o : Option TrackedXorb) → XorbIs cs h o → (size_of cs h ≡ None → is_completed cs h ≡ false) → unwrap_or (option_map (λ x. x.completed) o) false ≡ is_completed cs h
done_is cs h None a n = sym (n a.no_size)
done_is cs h (Some x) a n = a.completed_is

any-map : {A B : Type 0} (p : B → Bool) (f : A → B) (xs : List A) → list_any p (map f xs) ≡ list_any (λ x. p (f x)) xs
any-map p f [] = refl
any-map p f (x ∷ xs) = ap (λ b. p (f x) || b) (any-map p f xs)

-- the hashes of a heap after a push, and before a pop
pub has_moved : {A : Type 0} (f : A → MerkleHash) (x : A) (xs ys : List A) → IsPermutation (x ∷ xs) ys → (h : MerkleHash) → has (map f ys) h ≡ (hash_eq (f x) h || has (map f xs) h)
has_moved f x xs ys e h =
    any-map (λ y. hash_eq y h) f ys ∙ sym (list_any-IsPermutation (λ y. hash_eq (f y) h) (x ∷ xs) ys e)
    ∙ ap (λ b. hash_eq (f x) h || b) (sym (any-map (λ y. hash_eq y h) f xs))

pub has_added : {A R E : Type 0} (f : A → MerkleHash) (x : A) (xs ys : List A) (o : Result R E) → is_err o ≡ false → OnOk o (IsPermutation (x ∷ xs) ys) → (h : MerkleHash) → has (map f ys) h ≡ (hash_eq (f x) h || has (map f xs) h)
has_added f x xs ys (Ok r) e p h = has_moved f x xs ys p h
has_added f x xs ys (Err r) e p h = absurd (true≢false e)

pub order_added : {A R E : Type 0} (P : List A → Type 0) (xs ys : List A) (o : Result R E) → is_err o ≡ false → OnOk o (P xs → P ys) → P xs → P ys
order_added P xs ys (Ok r) e k = k
order_added P xs ys (Err r) e k = absurd (true≢false e)

pub has_popped : {A : Type 0} (f : A → MerkleHash) (x : A) (xs ys : List A) → IsPermutation xs (x ∷ ys) → (h : MerkleHash) → hash_eq (f x) h ≡ false → has (map f ys) h ≡ has (map f xs) h
has_popped f x xs ys e h apart =
    sym (any-map (λ y. hash_eq y h) f xs ∙ list_any-IsPermutation (λ y. hash_eq (f y) h) xs (x ∷ ys) e
    ∙ ap (λ b. b || list_any (λ y. hash_eq (f y) h) ys) apart ∙ sym (any-map (λ y. hash_eq y h) f ys))

-- the top of a heap is among its hashes
pub has_top : {A : Type 0} (f : A → MerkleHash) (x : A) (xs : List A) → x ≡ get_or xs 0 x → 0 < length xs → has (map f xs) (f x) ≡ true
has_top f x [] e l = absurd (omega (arith, l))
has_top f x (y ∷ ys) e l = or_left (hash_eq (f y) (f x)) (has (map f ys) (f x)) (ap (λ z. hash_eq (f y) (f z)) e ∙ hash_eq-own (f y))

-- a completed one may go
pub has_dropped : {A : Type 0} (L : Type 0) (f : A → MerkleHash) (done : MerkleHash → Bool) (top : A) (o : Option A) (xs ys : List A) → done (f top) ≡ true → top ≡ get_or xs 0 top → IfSome o (λ x. x ≡ get_or xs 0 x) → IfSome o (λ x. IsPermutation xs (x ∷ ys))
    → IfNone o ((ys ≡ xs) × L) → 0 < length xs → (h : MerkleHash) → done h ≡ false → has (map f ys) h ≡ has (map f xs) h
has_dropped L f done top None xs ys d t s p n l h w = ap (λ (zs : List _). has (map f zs) h) n.0
has_dropped L f done top (Some x) xs ys d t s p n l h w =
    let same : x ≡ top = s ∙ get_or_default xs 0 x top l ∙ sym t in
    has_popped f x xs ys p h (go (hash_eq (f x) h) refl (ap (λ z. done (f z)) same ∙ d))
  where
    go : (b : Bool) → hash_eq (f x) h ≡ b → done (f x) ≡ true → b ≡ false
    go true e k = absurd (false≢true (sym w ∙ ap done (sym (hash_eq-true (f x) h e)) ∙ k))
    go false e k = refl

pub order_dropped : {A : Type 0} (L : Type 0) (P : List A → Type 0) (Q : A → Type 0) (o : Option A) (xs ys : List A) → IfSome o (λ x. P xs → P ys × Q x) → IfNone o ((ys ≡ xs) × L) → P xs → P ys
order_dropped L P Q None xs ys s n k = subst P (sym n.0) k
order_dropped L P Q (Some x) xs ys s n k = (s k).0

-- none of the hashes comes before one that no element is before
pub not_before : {A : Type 0} (f : A → MerkleHash) (m : MerkleHash) (xs : List A) → AllByRecursion (λ y. hash_lt (f y) m ≡ false) xs → (h : MerkleHash) → has (map f xs) h ≡ true → hash_lt h m ≡ false
not_before f m [] k h e = absurd (false≢true e)
not_before f m (x ∷ xs) k h e = go (hash_eq (f x) h) refl e (λ l. not_before f m xs k.1 h l)
  where
    go : (b : Bool) → hash_eq (f x) h ≡ b → (b || has (map f xs) h) ≡ true → (has (map f xs) h ≡ true → hash_lt h m ≡ false) → hash_lt h m ≡ false
    go true q l next = ap (λ g. hash_lt g m) (sym (hash_eq-true (f x) h q)) ∙ k.0
    go false q l next = next l

slices_tied : (xs ys : List ℕ) → is_eq (slice_cmp nat_cmp xs ys) ≡ pointwise nat_eq xs ys
slices_tied [] [] = refl
slices_tied [] (y ∷ ys) = refl
slices_tied (x ∷ xs) [] = refl
slices_tied (x ∷ xs) (y ∷ ys) = one (nat_cmp x y) ∙ (λ i. unsigned_tied x y i && slices_tied xs ys i)
  where
    one : (o : Ordering) → is_eq (ordering_then o (slice_cmp nat_cmp xs ys)) ≡ (is_eq o && is_eq (slice_cmp nat_cmp xs ys))
    one Less = refl
    one Equal = refl
    one Greater = refl

-- two hashes are in one place of the order exactly where their bytes are equal
pub hashes_tied : (a b : MerkleHash) → is_eq (slice_cmp nat_cmp a.0 b.0) ≡ hash_eq a b
hashes_tied a b = slices_tied a.0 b.0

-- two hashes of which neither comes first are one
neither : (a b : MerkleHash) → hash_lt a b ≡ false → hash_lt b a ≡ false → a ≡ b
neither a b p q = hash_eq-true a b (go (slice_cmp nat_cmp a.0 b.0) refl p)
  where
    flips : (xs ys : List ℕ) → slice_cmp nat_cmp xs ys ≡ ordering_reverse (slice_cmp nat_cmp ys xs)
    flips = let o : IsTotalOrder (slice_cmp nat_cmp) = nat_list_cmp_total in o.antisymm

    go : (r : Ordering) → slice_cmp nat_cmp a.0 b.0 ≡ r → is_lt r ≡ false → hash_eq a b ≡ true
    go Less e l = absurd (true≢false l)
    go Equal e l = sym (hashes_tied a b) ∙ ap is_eq e
    go Greater e l = absurd (true≢false (sym (ap is_lt (flips b.0 a.0 ∙ ap ordering_reverse e)) ∙ q))

-- the least of some hashes is one of them
least_among : (P : MerkleHash → Type 0) (ns : List MerkleHash) (g : MerkleHash) → ((h : MerkleHash) → has ns h ≡ true → P h) → least ns ≡ Some g → P g
least_among P [] g all e = absurd (cc)
least_among P (h ∷ ns) g all e = go (least ns) refl e (λ later q. least_among P ns g later q)
  where
    Next : Type 0
    Next = ((k : MerkleHash) → has ns k ≡ true → P k) → least ns ≡ Some g → P g

    later : (k : MerkleHash) → has ns k ≡ true → P k
    later k m = all k (or_right (hash_eq h k) (has ns k) m)

    first : P h
    first = all h (or_left (hash_eq h h) (has ns h) (hash_eq-own h))

    go : (o : Option MerkleHash) → least ns ≡ o → lesser h o ≡ Some g → Next → P g
    go None q r next = subst P (ap (λ (o : Option MerkleHash). unwrap_or o h) r) first
    go (Some k) q r next = pick (hash_lt k h) r
      where
        pick : (b : Bool) → Some (cond b k h) ≡ Some g → P g
        pick true r = next later (q ∙ r)
        pick false r = subst P (ap (λ (o : Option MerkleHash). unwrap_or o h) r) first

-- one of some hashes before which none comes is their least
least_is : (ns : List MerkleHash) (m : MerkleHash) → has ns m ≡ true → ((h : MerkleHash) → has ns h ≡ true → hash_lt h m ≡ false) → least ns ≡ Some m
least_is [] m in' first = absurd (false≢true in')
least_is (h ∷ ns) m in' first = go (has ns m) refl (λ e later. least_is ns m e later)
  where
    later : (k : MerkleHash) → has ns k ≡ true → hash_lt k m ≡ false
    later k e = first k (or_right (hash_eq h k) (has ns k) e)

    own : hash_lt h m ≡ false
    own = first h (or_left (hash_eq h h) (has ns h) (hash_eq-own h))

    go : (b : Bool) → has ns m ≡ b → (has ns m ≡ true → ((k : MerkleHash) → has ns k ≡ true → hash_lt k m ≡ false) → least ns ≡ Some m) → lesser h (least ns) ≡ Some m
    go true e next = ap (λ (o : Option MerkleHash). lesser h o) (next e later) ∙ pick (hash_lt m h) refl
      where
        pick : (b : Bool) → hash_lt m h ≡ b → Some (cond b m h) ≡ Some m
        pick true q = refl
        pick false q = ap Some (neither h m own q)
    go false e next = rest (least ns) refl
      where
        same : h ≡ m
        same = hash_eq-true h m (only (hash_eq h m) in')
          where
            only : (b : Bool) → (b || has ns m) ≡ true → b ≡ true
            only true k = refl
            only false k = absurd (false≢true (sym e ∙ k))

        rest : (o : Option MerkleHash) → least ns ≡ o → lesser h o ≡ Some m
        rest None q = ap Some same
        rest (Some k) q = ap (λ b. Some (cond b k h)) (ap (λ g. hash_lt k g) same ∙ least_among (λ g. hash_lt g m ≡ false) ns k later q) ∙ ap Some same

-- what a filter keeps it found, and what passes it keeps
kept_found : (p : MerkleHash → Bool) (ns : List MerkleHash) (h : MerkleHash) → has (filter p ns) h ≡ true → (has ns h ≡ true) × (p h ≡ true)
kept_found p [] h e = absurd (false≢true e)
kept_found p (n ∷ ns) h e = go (p n) refl e (λ l. kept_found p ns h l)
  where
    go : (b : Bool) → p n ≡ b → has (cond b (n ∷ filter p ns) (filter p ns)) h ≡ true → (has (filter p ns) h ≡ true → (has ns h ≡ true) × (p h ≡ true)) → ((hash_eq n h || has ns h) ≡ true) × (p h ≡ true)
    go true q k next = here (hash_eq n h) refl k
      where
        here : (b : Bool) → hash_eq n h ≡ b → (b || has (filter p ns) h) ≡ true → ((b || has ns h) ≡ true) × (p h ≡ true)
        here true r l = (refl, ap p (sym (hash_eq-true n h r)) ∙ q)
        here false r l = next l
    go false q k next = let r = next k in (or_right (hash_eq n h) (has ns h) r.0, r.1)

found_kept : (p : MerkleHash → Bool) (ns : List MerkleHash) (h : MerkleHash) → has ns h ≡ true → p h ≡ true → has (filter p ns) h ≡ true
found_kept p [] h e k = e
found_kept p (n ∷ ns) h e k = go (p n) refl (hash_eq n h) refl e (λ l. found_kept p ns h l k)
  where
    go : (b : Bool) → p n ≡ b → (c : Bool) → hash_eq n h ≡ c → (c || has ns h) ≡ true → (has ns h ≡ true → has (filter p ns) h ≡ true) → has (cond b (n ∷ filter p ns) (filter p ns)) h ≡ true
    go true q true r l next = or_left (hash_eq n h) (has (filter p ns) h) r
    go true q false r l next = or_right (hash_eq n h) (has (filter p ns) h) (next l)
    go false q true r l next = absurd (false≢true (sym q ∙ ap p (hash_eq-true n h r) ∙ k))
    go false q false r l next = next l

none_kept : (p : MerkleHash → Bool) (ns : List MerkleHash) → ((h : MerkleHash) → p h ≡ true → has ns h ≡ false) → least (filter p ns) ≡ None
none_kept p ns none = go (filter p ns) (λ h e. let r = kept_found p ns h e in true≢false (sym r.0 ∙ none h r.1))
  where
    go : (ms : List MerkleHash) → ((h : MerkleHash) → has ms h ≡ true → ⊥) → least ms ≡ None
    go [] e = refl
    go (m ∷ ms) e = absurd (e m (or_left (hash_eq m m) (has ms m) (hash_eq-own m)))

module _ (cs : List TrackerStep) (fs : List TrackedFile) (xs : List TrackedXorb) (ns ms : List MerkleHash) (m : Marks) (t c s : ℕ) (k : IsState cs fs xs ns m t c s) (same : (h : MerkleHash) → done_in xs h ≡ false → has ms h ≡ has ns h) where
  done_at : (h : MerkleHash) → done_in xs h ≡ is_completed cs h
  done_at h = done_is cs h (find (λ x. hash_eq x.hash h) xs) (k.kept.xorbs_are h) (k.kept.plain.no_completion h)

  stand : (h : MerkleHash) → is_completed cs h ≡ false → has ms h ≡ has (flat_map named cs) h
  stand h w = same h (done_at h ∙ w) ∙ k.names h w

  -- the first open name
  first_named : (h : MerkleHash) → done_in xs h ≡ false → has ms h ≡ true → ((g : MerkleHash) → has ms g ≡ true → hash_lt g h ≡ false) → least (filter (λ h. not (is_completed cs h)) (flat_map named cs)) ≡ Some h
  first_named h w in' first =
      let waits : is_completed cs h ≡ false = sym (done_at h) ∙ w in
      least_is (filter (λ h. not (is_completed cs h)) (flat_map named cs)) h
      (found_kept (λ h. not (is_completed cs h)) (flat_map named cs) h (sym (stand h waits) ∙ in') (not_from_false (is_completed cs h) waits))
      (λ g e. let r = kept_found (λ h. not (is_completed cs h)) (flat_map named cs) g e in first g (stand g (not-true (is_completed cs g) r.1) ∙ r.0))

  none_named : ms ≡ [] → least (filter (λ h. not (is_completed cs h)) (flat_map named cs)) ≡ None
  none_named e = none_kept (λ h. not (is_completed cs h)) (flat_map named cs) (λ h w. sym (stand h (not-true (is_completed cs h) w)) ∙ ap (λ (l : List MerkleHash). has l h) e)

  -- what is missing, given the first open file and the first open name
  pub open_xorb_is : (h : MerkleHash) → first_some (map open_in (enumerate_from 0 fs)) ≡ None → done_in xs h ≡ false → has ms h ≡ true → ((g : MerkleHash) → has ms g ≡ true → hash_lt g h ≡ false) → incomplete_of cs ≡ Some (Xorb h)
  open_xorb_is h none w in' first = let a = sym (open_files cs fs k.kept.files_are) ∙ none in let b = first_named h w in' first in λ i. or_else (a i) (open_xorb (b i))

  pub all_done : first_some (map open_in (enumerate_from 0 fs)) ≡ None → ms ≡ [] → incomplete_of cs ≡ None
  all_done none e = let a = sym (open_files cs fs k.kept.files_are) ∙ none in let b = none_named e in λ i. or_else (a i) (open_xorb (b i))

pub open_file_is : (cs : List TrackerStep) (fs : List TrackedFile) (o : Incomplete) → fs ≡ map (tracked cs) (files cs) → first_some (map open_in (enumerate_from 0 fs)) ≡ Some o → incomplete_of cs ≡ Some o
open_file_is cs fs o e f = ap (λ (p : Option Incomplete). or_else p (open_xorb (least (filter (λ h. not (is_completed cs h)) (flat_map named cs))))) (sym (open_files cs fs e) ∙ f)
