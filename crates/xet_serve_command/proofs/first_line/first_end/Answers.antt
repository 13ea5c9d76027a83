use Rattle.std.proofs.Common.{◌≡◌, ◌==◌, ℕ, arith, get_or, rules, sym}
use Rattle.std.proofs.lemmas.Bool.{eq-eqb}
use Rattle.std.proofs.lemmas.List.Sums.{position_or_len_is}
use Rattle.xet_serve_command.proofs.first_line.first_end.Goals as goal

pub returns-else-text-place-ne10-clause-place : goal.returns-else-text-place-ne10-clause-place
returns-else-text-place-ne10-clause-place c =
    let i = c.loop-place.invariant in
    let at : get_or c.args.text.now c.loop-place.place 0 ≡ 10 = search rules in
    sym (position_or_len_is (λ (b : ℕ). b == 10) c.args.text.now c.loop-place.place 0 i.within i.others
    (λ h. eq-eqb (get_or c.args.text.now c.loop-place.place 0) 10 at))

pub returns-after-loop-place-clause-place : goal.returns-after-loop-place-clause-place
returns-after-loop-place-clause-place c =
    let i = c.loop-place.invariant in
    let past = c.loop-place-test.false in
    sym (position_or_len_is (λ (b : ℕ). b == 10) c.args.text.now c.loop-place.place 0 i.within i.others
    (λ h. absurd (omega (arith, h, past))))
