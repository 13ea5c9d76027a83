use Rattle.std.proofs.Common.{ℕ, List, sym, ◌∙◌, ap, arith}
use Rattle.std.specs.List.{list_any}
use Rattle.std.specs.Ordering.{nat_cmp, is_eq}
use Rattle.std.proofs.lemmas.Bool.{false≢true}
use Rattle.xet_progress_state.proofs.marks.Marks.new.Goals as goal

pub returns : goal.returns
returns c = record {
  complete = λ f d l off. absurd (omega (arith, l));
  below = λ f on. absurd (false≢true (sym (ap (λ (l : List ℕ). list_any (λ q. is_eq (nat_cmp f q)) l) c.new.ensures.empty) ∙ on));
  within = omega arith;
}
