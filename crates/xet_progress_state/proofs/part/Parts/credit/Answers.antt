use Rattle.std.proofs.Common.{◌≡◌, ℕ, List, [], ◌∷◌, ◌++◌, map, length, take, drop, refl, sym, ◌∙◌, ap, arith}
use Rattle.xet_progress_state.specs.declared.part.Part.{Part}
use Rattle.xet_progress_state.specs.steps.Credits.{with_share}
use Rattle.xet_progress_state.proofs.Remembering.{indexes_to}
use Rattle.xet_progress_state.proofs.part.Parts.credit.Goals as goal

-- a credited part is the same file's
same_files : (sent size : ℕ) (ps : List Part) → map (λ (p : Part). p.file) (map (with_share sent size) ps) ≡ map (λ (p : Part). p.file) ps
same_files sent size [] = refl
same_files sent size (p ∷ ps) = ap (λ (l : List ℕ). p.file ∷ l) (same_files sent size ps)

-- what a list of the same length leaves of the one that it is written over
over : (ps qs : List Part) → length ps ≡ length qs → take (length ps) (ps ++ drop (length ps) qs) ≡ ps
over [] [] e = refl
over [] (q ∷ qs) e = refl
over (p ∷ ps) [] e = absurd (omega (arith, e))
over (p ∷ ps) (q ∷ qs) e = ap (λ (l : List Part). p ∷ l) (over ps qs (omega (arith, e)))

over_all : (n : ℕ) (ps qs : List Part) → n ≡ length qs → length ps ≡ length qs → take n (ps ++ drop (length ps) qs) ≡ ps
over_all n ps qs e f = ap (λ (m : ℕ). take m (ps ++ drop (length ps) qs)) (e ∙ sym f) ∙ over ps qs f

pub credit-requires : goal.credit-requires
credit-requires c = record { can = rw (c.as_mut_slice.ensures.value, c.self.view_is) c.requires.can; sum = c.requires.sum }

pub invariant_of-self : goal.invariant_of-self
invariant_of-self c =
    let list = c.self.inside.list in
    let ok = list.ok.0 in
    let same = ap (λ (l : List Part). length l) c.as_mut_slice.ensures.value in
    let kept = c.credit.auto.parts in
    let written = over_all list.len c.credit.new.parts list.items (omega (arith, ok)) (omega (arith, same, kept)) in
    indexes_to c.self.invariant (ap (λ (l : List Part). map (λ (p : Part). p.file) l) (written ∙ c.credit.ensures.parts ∙ ap (λ (l : List Part). map (with_share c.args.sent c.args.size) l) c.as_mut_slice.ensures.value)
    ∙ same_files c.args.sent c.args.size list.items)

pub returns : goal.returns
returns c =
    let list = c.self.inside.list in
    let ok = list.ok.0 in
    let same = ap (λ (l : List Part). length l) c.as_mut_slice.ensures.value in
    let kept = c.credit.auto.parts in
    let written = over_all list.len c.credit.new.parts list.items (omega (arith, ok)) (omega (arith, same, kept)) in
    record {
      parts = written ∙ c.credit.ensures.parts ∙ ap (λ (l : List Part). map (with_share c.args.sent c.args.size) l) (c.as_mut_slice.ensures.value ∙ c.self.view_is);
      files = rw (c.as_mut_slice.ensures.value, c.self.view_is) at c.credit.ensures.files;
      count = c.credit.ensures.count;
      sum = c.credit.ensures.sum;
    }
