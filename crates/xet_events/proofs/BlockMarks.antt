-- The table of what is known of blocks.
use Rattle.std.proofs.Common.{◌≡◌, ℕ, ◌<◌, Bool, true, false, cond, ◌&&◌, List, [], length, map, get_or, set, eqb, refl, sym, ◌∙◌, ap, arith}
use Rattle.std.specs.Prelude.{Err, Ok, OnErr, OnOk, Result, Vec}
use Rattle.std.specs.declared.alloc.Global.{Global}
use Rattle.std.proofs.lemmas.Bool.{eqb-true, eq-eqb, false≢true}
use Rattle.std.proofs.lemmas.List.{get_or-map, get_or-set_other, get_or-set_same, length-map, map-set}
use Rattle.xet_events.specs.declared.block_table.BlockId.{BlockId}
use Rattle.xet_events.specs.declared.block_table.BlockMark.{BlockMark}
use Rattle.xet_events.specs.BlockTables.{blank, is_block, mark_at, row_at, rows_of}

-- a place that was written, and the others
pub written : {A : Type 0} (d : A) (xs : List A) (at k : ℕ) (x : A) → at < length xs → get_or (set xs at x) k d ≡ cond (eqb at k) x (get_or xs k d)
written {A} d xs at k x l = go (eqb at k) refl
  where
    apart : (b : Bool) → eqb at k ≡ b → b ≡ false → at ≡ k → ⊥
    apart b e f same = false≢true (sym f ∙ sym e ∙ eq-eqb at k same)

    go : (b : Bool) → eqb at k ≡ b → get_or (set xs at x) k d ≡ cond b x (get_or xs k d)
    go true e =
        let same : at ≡ k = eqb-true at k e in
        ap (λ (j : ℕ). get_or (set xs at x) j d) (sym same) ∙ get_or-set_same xs at x d l
    go false e = get_or-set_other xs at k x d (λ same. apart false e refl (sym same))

module _ (old : List (List BlockMark)) (v : Vec (Vec BlockMark Global) Global) (id : BlockId) (r w : Vec BlockMark Global)
    (same : (p : ℕ) → row_at (rows_of v) p ≡ row_at old p) (l : id.plan < length v.items) (own : r ≡ get_or v.items id.plan r) where
  -- the row that is lent is that of the plan
  lent : r.items ≡ row_at old id.plan
  lent = sym (get_or-map (λ (x : Vec BlockMark Global). x.items) v.items id.plan r [] l ∙ ap (λ (x : Vec BlockMark Global). x.items) (sym own)) ∙ same id.plan

  rows_after : (p : ℕ) → row_at (map (λ (x : Vec BlockMark Global). x.items) (set v.items id.plan w)) p ≡ cond (eqb id.plan p) w.items (row_at old p)
  rows_after p =
      let long : id.plan < length (rows_of v) = omega (arith, l, length-map v.items (λ (x : Vec BlockMark Global). x.items)) in
      ap (λ (rs : List (List BlockMark)). row_at rs p) (map-set (λ (x : Vec BlockMark Global). x.items) v.items id.plan w)
      ∙ written [] (rows_of v) id.plan p w.items long
      ∙ ap (λ (row : List BlockMark). cond (eqb id.plan p) w.items row) (same p)

  -- a row of the table with one more mark
  pub row_written : (mark : BlockMark) → ((n : ℕ) → get_or w.items n blank ≡ cond (eqb id.block n) mark (get_or r.items n blank))
      → (p b : ℕ) → mark_at (map (λ (x : Vec BlockMark Global). x.items) (set v.items id.plan w)) p b ≡ cond (is_block id p b) mark (mark_at old p b)
  row_written mark entries p b = ap (λ (row : List BlockMark). get_or row b blank) (rows_after p) ∙ go (eqb id.plan p) refl
    where
      go : (t : Bool) → eqb id.plan p ≡ t → get_or (cond t w.items (row_at old p)) b blank ≡ cond (t && eqb id.block b) mark (mark_at old p b)
      go true e = entries b ∙ ap (λ (row : List BlockMark). cond (eqb id.block b) mark (get_or row b blank)) (lent ∙ ap (row_at old) (eqb-true id.plan p e))
      go false e = refl

  -- a row of the table that says what it said
  pub row_kept : ((n : ℕ) → get_or w.items n blank ≡ get_or r.items n blank) → (p b : ℕ) → mark_at (map (λ (x : Vec BlockMark Global). x.items) (set v.items id.plan w)) p b ≡ mark_at old p b
  row_kept entries p b = ap (λ (row : List BlockMark). get_or row b blank) (rows_after p) ∙ go (eqb id.plan p) refl
    where
      go : (t : Bool) → eqb id.plan p ≡ t → get_or (cond t w.items (row_at old p)) b blank ≡ mark_at old p b
      go true e = entries b ∙ ap (λ (row : List BlockMark). get_or row b blank) (lent ∙ ap (row_at old) (eqb-true id.plan p e))
      go false e = refl

-- what a call with this answer leaves
pub on_err : {A E P : Type 0} (r : Result A E) → P → OnErr r P
on_err (Ok x) p = tt
on_err (Err e) p = p

pub after_ok : {A E P Q : Type 0} (r : Result A E) → (P → Q) → OnOk r P → OnOk r Q
after_ok (Ok x) f p = f p
after_ok (Err e) f p = tt

pub after_err : {A E P Q : Type 0} (r : Result A E) → (P → Q) → OnErr r P → OnErr r Q
after_err (Ok x) f p = tt
after_err (Err e) f p = f p
