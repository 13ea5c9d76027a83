use Rattle.std.proofs.Common.{rules, ◌≡◌, ◌∙◌, Some, None, false}
use Rattle.std.specs.Prelude.{codes}
use Rattle.std.specs.Str.{bytes_eq}
use Rattle.xet_track.specs.Numbers.{number_of_text, name_of_text}
use Rattle.xet_track.proofs.XorbWords.{both, no_name, no_number}
use Rattle.xet_track.proofs.read.read_three.Goals as goal

pub returns-in_err-name : goal.returns-in_err-name
returns-in_err-name c =
    let other : bytes_eq c.args.word.now (codes "grow") ≡ false = search rules in
    let none : name_of_text c.args.a.now ≡ None = search rules in
    let is : c.from_residual.result ≡ None = search rules in
    is ∙ no_name c.args.word.now c.args.a.now c.args.b.now other none

pub returns-in_err-number : goal.returns-in_err-number
returns-in_err-number c =
    let other : bytes_eq c.args.word.now (codes "grow") ≡ false = search rules in
    let named : name_of_text c.args.a.now ≡ Some c.in_ok-name.field-0 = search rules in
    let none : number_of_text c.args.b.now ≡ None = search rules in
    let is : c.from_residual-in_err-number.result ≡ None = search rules in
    is ∙ no_number c.args.word.now c.args.a.now c.args.b.now other c.in_ok-name.field-0 named none

pub returns : goal.returns
returns c =
    let other : bytes_eq c.args.word.now (codes "grow") ≡ false = search rules in
    let named : name_of_text c.args.a.now ≡ Some c.in_ok-name.field-0 = search rules in
    let counted : number_of_text c.args.b.now ≡ Some c.in_ok-number.field-0 = search rules in
    c.xorb_step.ensures ∙ both c.args.word.now c.args.a.now c.args.b.now other c.in_ok-name.field-0 c.in_ok-number.field-0 named counted
