use Rattle.std.proofs.Common.{sym}
use Rattle.std.proofs.lemmas.Result.{on_ok_weaker}
use Rattle.xet_document.proofs.Kept.{found_other}
use Rattle.xet_document.proofs.plain_store.read_member.Goals as goal

pub returns-in-xorbs-clause-value : goal.returns-in-xorbs-clause-value
returns-in-xorbs-clause-value c = rw c.in-xorbs.is c.find_xorbs.ensures.value

pub returns-in-files-clause-value : goal.returns-in-files-clause-value
returns-in-files-clause-value c = rw c.in-files.is c.find_files.ensures.value

pub returns-in_default-clause-value : goal.returns-in_default-clause-value
returns-in_default-clause-value c =
    on_ok_weaker c.pass_value.result
    (λ v. (v.0, v.1, λ ms h. found_other c.args.key.now v.0 ms c.args.found.now (λ e. c.in_default.not-xorbs (sym e)) (λ e. c.in_default.not-files (sym e)) v.2 h))
    c.pass_value.ensures.value
