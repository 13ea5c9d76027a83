-- What a loop that takes the terms or the blocks of a plan by their numbers has done at one of them.
use Rattle.std.proofs.Common.{◌≡◌, ℕ, suc, ◌+◌, ◌-◌, ◌≤◌, ◌<◌, List, [], ◌∷◌, ◌++◌, take, drop, Some, sym, ◌∙◌, ap, subst, add-one}
use Rattle.std.specs.Prelude.{map, slice_get}
use Rattle.std.proofs.lemmas.List.{map-append, take_more}
use Rattle.std.proofs.lemmas.Option.{slice_get_within, get_or_from_slice_get}
use Rattle.std.proofs.Math.Seq.{drop-cons}
use Rattle.xet_events.specs.declared.event.PlannedTerm.{PlannedTerm}
use Rattle.xet_events.specs.declared.index.WaitingTerm.{WaitingTerm}
use Rattle.xet_events.specs.Allowed.{Adjoin}
use Rattle.xet_events.specs.BlockTables.{block_id}
use Rattle.xet_events.specs.Indexes.{waiting_in}

-- one more is taken
pub one_more : {A : Type 0} (xs : List A) (i : ℕ) (x : A) → slice_get xs i ≡ Some x → take (i + 1) xs ≡ take i xs ++ x ∷ []
one_more xs i x e =
    take_more xs i x (slice_get_within xs i x e) ∙ ap (λ y. take i xs ++ y ∷ []) (get_or_from_slice_get xs i x x e)

-- it is the first one that is left
pub one_left : {A : Type 0} (xs : List A) (i : ℕ) (x : A) → slice_get xs i ≡ Some x → drop i xs ≡ x ∷ drop (i + 1) xs
one_left xs i x e =
    drop-cons xs i x (slice_get_within xs i x e) ∙ ap (λ y. y ∷ drop (suc i) xs) (get_or_from_slice_get xs i x x e) ∙ ap (λ n. x ∷ drop n xs) (sym (add-one i))

-- one term more waits
pub waits_more : (plan : ℕ) (ts : List PlannedTerm) (i : ℕ) (t : PlannedTerm) → slice_get ts i ≡ Some t
    → waiting_in plan (take (i + 1) ts) ≡ waiting_in plan (take i ts) ++ record { id = block_id plan t.block; length = t.byte_range.end - t.byte_range.start } ∷ []
waits_more plan ts i t e =
    let w : PlannedTerm → WaitingTerm = λ t. record { id = block_id plan t.block; length = t.byte_range.end - t.byte_range.start } in
    ap (λ (l : List PlannedTerm). map w l) (one_more ts i t e) ∙ map-append w (take i ts) (t ∷ [])

-- the terms that are left adjoin from a place on exactly where the first of them does and the others adjoin from its end on
pub goes_on : (end blocks : ℕ) (ts : List PlannedTerm) (i : ℕ) (t : PlannedTerm) → slice_get ts i ≡ Some t → Adjoin end blocks (drop i ts)
    → (t.byte_range.start ≡ end) × (end ≤ t.byte_range.end) × (t.block < blocks) × Adjoin t.byte_range.end blocks (drop (i + 1) ts)
goes_on end blocks ts i t e h = subst (λ (l : List PlannedTerm). Adjoin end blocks l) (one_left ts i t e) h

pub joins_on : (end blocks : ℕ) (ts : List PlannedTerm) (i : ℕ) (t : PlannedTerm) → slice_get ts i ≡ Some t
    → t.byte_range.start ≡ end → end ≤ t.byte_range.end → t.block < blocks → Adjoin t.byte_range.end blocks (drop (i + 1) ts)
    → Adjoin end blocks (drop i ts)
joins_on end blocks ts i t e starts ends has rest =
    subst (λ (l : List PlannedTerm). Adjoin end blocks l) (sym (one_left ts i t e)) (starts, ends, has, rest)
