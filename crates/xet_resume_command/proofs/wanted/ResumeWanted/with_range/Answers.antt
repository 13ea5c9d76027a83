use Rattle.std.proofs.Common.{◌≡◌, ◌+◌, ◌<◌, ◌++◌, ◌∷◌, ◌∙◌, Bool, cond, List, Option, None, Some, ap, arith, drop, length, rules, sym, take}
use Rattle.std.proofs.lemmas.Bool.{lt-ltb}
use Rattle.std.proofs.lemmas.List.{drop-set, take-append-drop, take-set}
use Rattle.std.specs.Prelude.{set}
use Rattle.xet_base.specs.declared.cas_types.FileRange.{FileRange}
use Rattle.xet_resume_command.specs.declared.wanted.ResumeWanted.{ResumeWanted}
use Rattle.xet_resume_command.proofs.wanted.ResumeWanted.with_range.Goals as goal

pub returns : goal.returns
returns c =
    let w = c.args.self in
    let r = c.args.range in
    let past = c.if-self-ge16.false in
    let few : w.count < 16 = omega (arith, past) in
    let size : length w.ranges ≡ 16 = search rules in
    let placed = set w.ranges w.count r in
    let next : List FileRange → Option ResumeWanted = λ l.
    Some (record { file = w.file; length = w.length; ranges = l; count = w.count + 1 }) in
    ap next (sym (take-append-drop w.count placed)
    ∙ ap (λ (l : List FileRange). l ++ drop w.count placed) (take-set w.ranges w.count r)
    ∙ ap (λ (l : List FileRange). take w.count w.ranges ++ l)
    (drop-set w.ranges w.count r (omega (arith, few, size))))
    ∙ sym (ap (λ (v : Bool). cond v (next (take w.count w.ranges ++ r ∷ drop (w.count + 1) w.ranges)) None)
    (lt-ltb w.count 16 few))
