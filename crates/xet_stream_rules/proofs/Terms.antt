-- Planned terms that have bytes.
use Rattle.std.proofs.Common.{◌≡◌, ℕ, zero, suc, ◌+◌, ◌≤◌, Bool, true, false, List, [], ◌∷◌, ◌++◌, length, take, drop, Option, Some, None, refl, sym, ◌∙◌, ap, arith, append_assoc}
use Rattle.std.specs.Prelude.{cond, filter, slice_get, count_by, option_map, unwrap_or}
use Rattle.std.specs.List.{flat_map}
use Rattle.std.proofs.lemmas.Bool.{ltb-false}
use Rattle.std.proofs.lemmas.Grind.{flat_map-append}
use Rattle.std.proofs.lemmas.List.Elements.{filter-append}
use Rattle.xet_base.specs.Store.{Store}
use Rattle.xet_outside.specs.Plan.{block_of}
use Rattle.xet_events.specs.declared.event.Event.{Event}
use Rattle.xet_events.specs.declared.event.PlannedBlock.{PlannedBlock}
use Rattle.xet_events.specs.declared.event.Event.TheVariants.{Planned, Admit, Fetched, Cached, Expired, Refreshed, Wrote, Fail, Cancel}
use Rattle.xet_events.specs.Events.{Task, size, planned, taken_in, tasks_in, written}
use Rattle.xet_outside.proofs.CallerLemmas.{count_by-cons}
use Rattle.std.proofs.lemmas.List.Sums.{sum_by-append}
use Rattle.xet_history.specs.TrueHistory.{piece_in, task_piece}
use Rattle.xet_ties.specs.Saids.{has_bytes, some_of}
use Rattle.xet_stream_rules.specs.Streams.{is_wrote}

-- ---- lists

pub take_one : {A : Type 0} (xs : List A) (n : ℕ) (x : A) → slice_get xs n ≡ Some x → take (n + 1) xs ≡ take n xs ++ x ∷ []
take_one [] n x h = absurd (cc)
take_one (y ∷ ys) zero x h = let e : y ≡ x = cc in ap (λ z. z ∷ []) e
take_one (y ∷ ys) (suc n) x h = ap (λ (m : ℕ). take m (y ∷ ys)) plus ∙ ap (λ l. y ∷ l) (take_one ys n x h)
  where
    plus : suc n + 1 ≡ suc (n + 1)
    plus = omega arith

pub get_none : {A : Type 0} (xs : List A) (n : ℕ) → slice_get xs n ≡ None → length xs ≤ n
get_none [] n h = omega arith
get_none (x ∷ xs) zero h = absurd (cc)
get_none (x ∷ xs) (suc n) h = let r = get_none xs n h in omega arith

pub flat_one : {A B : Type 0} (f : A → List B) (xs : List A) (x : A) → flat_map f (xs ++ x ∷ []) ≡ flat_map f xs ++ f x
flat_one f [] x = append_end (f x)
  where
    append_end : {B : Type 0} (l : List B) → l ++ [] ≡ l
    append_end [] = refl
    append_end (y ∷ ys) = ap (λ l. y ∷ l) (append_end ys)
flat_one f (y ∷ ys) x = ap (λ l. f y ++ l) (flat_one f ys x) ∙ sym (append_assoc (f y) (flat_map f ys) (f x))

-- ---- terms

pub some-append : (es new : List Event) → some_of (es ++ new) ≡ some_of es ++ some_of new
some-append es new = ap (λ l. filter has_bytes l) (flat_map-append tasks_in es new) ∙ filter-append has_bytes (planned es) (planned new)

-- a term without bytes has no piece
empty_piece : (s : Store) (t : Task) → has_bytes t ≡ false → task_piece s t ≡ []
empty_piece s t h = go (slice_get t.blocks t.term.block)
  where
    none : size t ≡ 0
    none = let z = ltb-false 0 (size t) h in omega arith

    go : (o : Option PlannedBlock) → unwrap_or (option_map (λ b. piece_in (block_of s b.xorb b.ranges) t.term) o) [] ≡ []
    go None = refl
    go (Some b) = ap (λ (n : ℕ). take n (drop (Rattle.std.specs.Prelude.slice_index_or (block_of s b.xorb b.ranges).offsets t.term.start_index 0 + t.term.offset) (block_of s b.xorb b.ranges).bytes)) none

one_more : (s : Store) (t : Task) (ts : List Task) (b : Bool) → has_bytes t ≡ b → flat_map (task_piece s) (filter has_bytes ts) ≡ flat_map (task_piece s) ts
    → flat_map (task_piece s) (cond b (t ∷ filter has_bytes ts) (filter has_bytes ts)) ≡ flat_map (task_piece s) (t ∷ ts)
one_more s t ts true h rest = ap (λ l. task_piece s t ++ l) rest
one_more s t ts false h rest = rest ∙ ap (λ l. l ++ flat_map (task_piece s) ts) (sym (empty_piece s t h))

-- so all pieces are those of the terms that have bytes
pub pieces_some : (s : Store) (ts : List Task) → flat_map (task_piece s) (filter has_bytes ts) ≡ flat_map (task_piece s) ts
pieces_some s [] = refl
pieces_some s (t ∷ ts) = one_more s t ts (has_bytes t) refl (pieces_some s ts)

-- ---- counts

pub count_by-append : {X : Type 0} (p : X → Bool) (xs ys : List X) → count_by p (xs ++ ys) ≡ count_by p xs + count_by p ys
count_by-append p [] ys = omega arith
count_by-append p (x ∷ xs) ys =
    let a = count_by-cons p x (xs ++ ys) in
    let b = count_by-cons p x xs in
    let c = count_by-append p xs ys in
    omega arith

-- events without a piece write nothing
pub no_writes : (es : List Event) → count_by is_wrote es ≡ 0 → written es ≡ 0
no_writes [] h = refl
no_writes (Planned plan query terms blocks ∷ es) h = no_writes es h
no_writes (Admit limit ∷ es) h = no_writes es h
no_writes (Fetched lane plan block ∷ es) h = no_writes es h
no_writes (Cached plan block ∷ es) h = no_writes es h
no_writes (Expired lane plan block ∷ es) h = no_writes es h
no_writes (Refreshed plan ∷ es) h = no_writes es h
no_writes (Wrote taken ∷ es) h = let k = count_by-cons is_wrote (Wrote taken) es in absurd (omega arith)
no_writes (Fail error ∷ es) h = no_writes es h
no_writes (Cancel ∷ es) h = no_writes es h

pub written-append : (es new : List Event) → written (es ++ new) ≡ written es + written new
written-append es new = sum_by-append taken_in es new
