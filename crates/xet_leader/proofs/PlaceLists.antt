-- A table of listed blocks, after one more was listed.
use Rattle.std.proofs.Common.{⊎_elim, ◌≡◌, ℕ, ◌+◌, ◌<◌, Bool, true, false, cond, eqb, ◌||◌, List, [], ◌∷◌, ◌++◌, refl, sym, ◌∙◌, ap, arith, subst, Ok, Err}
use Rattle.std.specs.Prelude.{OnErr, OnOk, Result}
use Rattle.std.proofs.lemmas.Bool.{eq-eqb, ne_eqb}
use Rattle.std.proofs.lemmas.Bool.Decides.{eqb_tells}
use Rattle.std.proofs.lemmas.List.Folds.{list_any-append}
use Rattle.std.proofs.Math.Bool.{or-false}
use Rattle.xet_base.specs.declared.error.OutOfMemory.{OutOfMemory}
use Rattle.xet_events.specs.declared.block_table.BlockId.{BlockId}
use Rattle.xet_events.specs.declared.block_table.BlockTable.{BlockTable}
use Rattle.xet_events.specs.BlockTables.{Keeps, is_block, kept_in}
use Rattle.xet_leader.specs.declared.missing_blocks.BlockAt.{BlockAt}
use Rattle.xet_leader.specs.Lacking.{AreListed, base_of, lists, same_place, with_place}

-- a place of a plan that is counted from this number on, by its block from its base on
abbrev place_of : ℕ → ℕ → ℕ → ℕ → BlockAt
place_of first low p b = record { plan = p + first; block = b + base_of low p }

-- with one more block, that one is listed too
listed_more : (cs : List BlockAt) (c x : BlockAt) → lists (cs ++ c ∷ []) x ≡ (lists cs x || same_place c x)
listed_more cs c x = list_any-append (λ d. same_place d x) cs (c ∷ []) ∙ ap (λ b. lists cs x || b) (or-false (same_place c x))

-- a block below its plan's base is none of those that the table has
apart_below : (first low p b q : ℕ) (c : BlockAt) → c.plan ≡ q + first → c.block < base_of low q
    → same_place c (place_of first low p b) ≡ false
apart_below first low p b q c plan below =
    ⊎_elim
    (λ same.
    let e : p ≡ q = omega (arith, same.1, plan) in
    let base : base_of low p ≡ base_of low q = ap (λ n. base_of low n) e in
    let other = ne_eqb c.block (b + base_of low p) (λ h. absurd (omega (arith, h, below, base))) in
    rw (same.0, other) refl)
    (λ other. rw (other.0) refl)
    (eqb_tells c.plan (p + first))

-- nor is a block of a plan below the first one
apart_before : (first low p b : ℕ) (c : BlockAt) → c.plan < first → same_place c (place_of first low p b) ≡ false
apart_before first low p b c before =
    let other = ne_eqb c.plan (p + first) (λ h. absurd (omega (arith, h, before))) in rw other refl

-- so the table is as it was, where such a block joins the list
abbrev IsApart : ℕ → ℕ → BlockAt → Type 0
IsApart first low c = (p b : ℕ) → same_place c (place_of first low p b) ≡ false

kept_apart : (first low : ℕ) (t : BlockTable) (cs ds : List BlockAt) (c : BlockAt) → AreListed first low t cs
    → IsApart first low c → ds ≡ with_place cs c → AreListed first low t ds
kept_apart first low t cs ds c h apart more p b =
    h p b ∙ sym (ap (λ (l : List BlockAt). lists l (place_of first low p b)) more ∙ go (lists cs c))
  where
    go : (known : Bool) → lists (cond known cs (cs ++ c ∷ [])) (place_of first low p b) ≡ lists cs (place_of first low p b)
    go true = refl
    go false = listed_more cs c (place_of first low p b)
        ∙ ap (λ x. lists cs (place_of first low p b) || x) (apart p b)
        ∙ or-false (lists cs (place_of first low p b))

listed_apart : (first low : ℕ) (t : BlockTable) (cs ds : List BlockAt) (c : BlockAt)
    (answer : Result (Unit {0}) OutOfMemory) → AreListed first low t cs → IsApart first low c
    → OnOk answer (ds ≡ with_place cs c) → OnErr answer (ds ≡ cs) → AreListed first low t ds
listed_apart first low t cs ds c (Ok u) h apart more same = kept_apart first low t cs ds c h apart more
listed_apart first low t cs ds c (Err e) h apart more same =
    subst (λ (l : List BlockAt). AreListed first low t l) (sym same) h

pub listed_before : (first low : ℕ) (t : BlockTable) (cs ds : List BlockAt) (c : BlockAt)
    (answer : Result (Unit {0}) OutOfMemory) → AreListed first low t cs → c.plan < first
    → OnOk answer (ds ≡ with_place cs c) → OnErr answer (ds ≡ cs) → AreListed first low t ds
listed_before first low t cs ds c answer h before more same =
    listed_apart first low t cs ds c answer h (λ p b. apart_before first low p b c before) more same

pub listed_below : (first low q : ℕ) (t : BlockTable) (cs ds : List BlockAt) (c : BlockAt)
    (answer : Result (Unit {0}) OutOfMemory) → AreListed first low t cs → c.plan ≡ q + first
    → c.block < base_of low q → OnOk answer (ds ≡ with_place cs c) → OnErr answer (ds ≡ cs) → AreListed first low t ds
listed_below first low q t cs ds c answer h plan below more same =
    listed_apart first low t cs ds c answer h (λ p b. apart_below first low p b q c plan below) more same

-- the numbers in the table tell blocks apart as their own do
alike : (first low p b : ℕ) (id : BlockId) (c : BlockAt) → c.plan ≡ id.plan + first
    → c.block ≡ id.block + base_of low id.plan → is_block id p b ≡ same_place c (place_of first low p b)
alike first low p b id c plan block =
    ⊎_elim
    (λ same.
    let base : base_of low id.plan ≡ base_of low p = ap (λ n. base_of low n) same.1 in
    let here : eqb c.plan (p + first) ≡ true = eq-eqb c.plan (p + first) (omega (arith, plan, same.1)) in
    ⊎_elim
    (λ this.
    let there : eqb c.block (b + base_of low p) ≡ true =
    eq-eqb c.block (b + base_of low p) (omega (arith, block, base, this.1)) in
    rw (same.0, here, this.0, there) refl)
    (λ other.
    let there : eqb c.block (b + base_of low p) ≡ false =
    ne_eqb c.block (b + base_of low p) (λ h. other.1 (omega (arith, h, block, base))) in
    rw (same.0, here, other.0, there) refl)
    (eqb_tells id.block b))
    (λ other.
    let there : eqb c.plan (p + first) ≡ false =
    ne_eqb c.plan (p + first) (λ h. other.1 (omega (arith, h, plan))) in
    rw (other.0, there) refl)
    (eqb_tells id.plan p)

either : (kept is : Bool) → cond is true kept ≡ (kept || is)
either true true = refl
either true false = refl
either false true = refl
either false false = refl

-- a block that the table keeps besides joins the list
pub listed_one : (first low : ℕ) (t u : BlockTable) (id : BlockId) (cs ds : List BlockAt) (c : BlockAt)
    → AreListed first low t cs → Keeps t u id → c.plan ≡ id.plan + first → c.block ≡ id.block + base_of low id.plan
    → ds ≡ cs ++ c ∷ [] → AreListed first low u ds
listed_one first low t u id cs ds c h keeps plan block more p b =
    let x = place_of first low p b in
    keeps.kept p b ∙ either (kept_in t p b) (is_block id p b)
    ∙ (λ i. h p b i || alike first low p b id c plan block i)
    ∙ sym (ap (λ (l : List BlockAt). lists l x) more ∙ listed_more cs c x)
