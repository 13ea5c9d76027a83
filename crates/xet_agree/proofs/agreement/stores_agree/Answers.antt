use Rattle.std.proofs.Common.{◌∙◌, sym}
use Rattle.std.specs.Prelude.{◌↔◌, IsTrue}
use Rattle.std.proofs.lemmas.Bool.{false≢true}
use Rattle.std.proofs.lemmas.Result.{IfOk-weaker}
use Rattle.xet_shelves.specs.After.{Agree}
use Rattle.xet_agree.specs.steps.Alike.{FilesAgree}
use Rattle.xet_agree.proofs.Agreeing.{agree_from, files_of_agree, xorbs_of_agree}
use Rattle.xet_agree.proofs.agreement.stores_agree.Goals as goal

pub returns-then-branch : goal.returns-then-branch
returns-then-branch c =
    let s = c.args.s.now in
    let t = c.args.t.now in
    let xorbs = c.in_ok-xorbs_agree.ensures in
    IfOk-weaker c.files_agree.result (λ agree. IsTrue agree ↔ FilesAgree s t) (λ agree. IsTrue agree ↔ Agree s t)
    (λ agree h. (
      λ yes. agree_from s t (xorbs.0 c.if-branch.true) (h.0 yes),
      λ both. h.1 (files_of_agree s t c.recall_valid.ensures both),
    ))
    c.files_agree.ensures

pub returns-else-branch : goal.returns-else-branch
returns-else-branch c =
    let s = c.args.s.now in
    let t = c.args.t.now in
    let xorbs = c.in_ok-xorbs_agree.ensures in (
      λ h. absurd (false≢true h),
      λ both. absurd (false≢true (sym c.if-branch.false ∙ xorbs.1 (xorbs_of_agree s t c.recall_valid.ensures both))),
    )
