use Rattle.std.proofs.Common.{◌∙◌, [], length, sym}
use Rattle.std.proofs.lemmas.Bool.Decides.{Decides-eqb}
use Rattle.xet_base.specs.declared.stored.StoredTerm.{StoredTerm}
use Rattle.xet_agree.proofs.Passing.{begin_left}
use Rattle.xet_agree.proofs.walks.Walk.begin.Goals as goal

pub returns-clause-left : goal.returns-clause-left
returns-clause-left c =
    let w = c.args.self.now in
    let d : StoredTerm = record { xorb = record { 0 = [] }; from = 0; to = 0 } in
    begin_left c.args.store.now c.args.terms.now w d c.in_ok-self.field-0 c.if-self-terms.false
    ((Decides-eqb (length w.rest) 0).0 (sym c.is_empty.ensures ∙ c.if-not-is_empty.false)) c.in_ok-self.ensures
