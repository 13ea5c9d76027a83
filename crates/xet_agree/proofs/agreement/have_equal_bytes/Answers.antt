use Rattle.std.proofs.Common.{List, ◌∙◌, ap, refl}
use Rattle.std.proofs.lemmas.List.Elements.{All-same}
use Rattle.xet_base.specs.declared.stored.StoredTerm.{StoredTerm}
use Rattle.xet_base.specs.Store.{IsTermIn}
use Rattle.xet_agree.specs.steps.Alike.{bytes_in}
use Rattle.xet_agree.proofs.Chunks.{same_terms}
use Rattle.xet_agree.proofs.agreement.have_equal_bytes.Goals as goal

pub returns-then-are_same : goal.returns-then-are_same
returns-then-are_same c =
    let s = c.args.s.now in
    let t = c.args.t.now in
    let a = c.args.a.now in
    let e = c.if-are_same.ensures in (
      λ _. same_terms s t c.requires.xorbs a c.requires.first (All-same (IsTermIn t) a c.args.b.now e c.requires.second)
          ∙ ap (λ (l : List StoredTerm). bytes_in t l) e,
      λ _. refl,
    )
