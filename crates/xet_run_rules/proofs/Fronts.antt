-- The unfinished term that may be written next.
use Rattle.std.proofs.Common.{◌≡◌, ℕ, ◌+◌, ◌≤◌, true, List, [], ◌∷◌, Option, Some, None, refl, sym, ◌∙◌, ap, arith}
use Rattle.std.specs.Prelude.{map, slice_get, MatchOption, option_map}
use Rattle.xet_events.specs.declared.event.Event.{Event}
use Rattle.xet_events.specs.declared.index.UnfinishedTerm.{UnfinishedTerm}
use Rattle.xet_events.specs.declared.index.Index.{Index}
use Rattle.xet_events.specs.Events.{Task, written, unfinished, is_kept}
use Rattle.xet_events.specs.Allowed.{MayWrite}
use Rattle.xet_events.specs.BlockTables.{kept_in}
use Rattle.xet_events.specs.Indexes.{IsIndexed, unfinished_of}

front_of : {A B : Type 0} (f : A → B) (xs : List A) → slice_get (map f xs) 0 ≡ option_map f (slice_get xs 0)
front_of f [] = refl
front_of f (x ∷ xs) = refl

-- the first unfinished term is the oldest one
pub unfinished_front : (es : List Event) (i : Index) → IsIndexed es i → slice_get i.unfinished.items 0 ≡ option_map unfinished_of (slice_get (unfinished es) 0)
unfinished_front es i x = ap (λ (l : List UnfinishedTerm). slice_get l 0) x.unfinished_are ∙ front_of unfinished_of (unfinished es)

pub may_write_is : (es : List Event) (i : Index) (taken : ℕ) (u : UnfinishedTerm) → IsIndexed es i → option_map unfinished_of (slice_get (unfinished es) 0) ≡ Some u
    → kept_in i.blocks u.id.plan u.id.block ≡ true → written es + taken ≤ u.end → MayWrite es taken
may_write_is es i taken u x h k n = go (slice_get (unfinished es) 0) h
  where
    go : (o : Option (ℕ × Task)) → option_map unfinished_of o ≡ Some u → MatchOption o ⊥ (λ c. (is_kept es c.1.plan c.1.term.block ≡ true) × (written es + taken ≤ c.0))
    go None h = absurd (cc)
    go (Some c) h =
        let e : u ≡ unfinished_of c = cc in
        let to : u.end ≡ c.0 = ap (λ (v : UnfinishedTerm). v.end) e in
        (sym (x.kept_are c.1.plan c.1.term.block) ∙ ap (λ (v : UnfinishedTerm). kept_in i.blocks v.id.plan v.id.block) (sym e) ∙ k, omega arith)

pub may_write_back : (es : List Event) (i : Index) (taken : ℕ) (u : UnfinishedTerm) → IsIndexed es i → option_map unfinished_of (slice_get (unfinished es) 0) ≡ Some u
    → MayWrite es taken → (kept_in i.blocks u.id.plan u.id.block ≡ true) × (written es + taken ≤ u.end)
may_write_back es i taken u x h m = go (slice_get (unfinished es) 0) h m
  where
    go : (o : Option (ℕ × Task)) → option_map unfinished_of o ≡ Some u → MatchOption o ⊥ (λ c. (is_kept es c.1.plan c.1.term.block ≡ true) × (written es + taken ≤ c.0))
        → (kept_in i.blocks u.id.plan u.id.block ≡ true) × (written es + taken ≤ u.end)
    go None h m = absurd (cc)
    go (Some c) h m =
        let e : u ≡ unfinished_of c = cc in
        let to : u.end ≡ c.0 = ap (λ (v : UnfinishedTerm). v.end) e in
        let n : written es + taken ≤ c.0 = m.1 in
        (ap (λ (v : UnfinishedTerm). kept_in i.blocks v.id.plan v.id.block) e ∙ x.kept_are c.1.plan c.1.term.block ∙ m.0, omega arith)
