use Rattle.std.proofs.Common.{◌≡◌, ◌==◌, ℕ, arith, get_or, rules, sym}
use Rattle.std.proofs.lemmas.Bool.{eq-eqb}
use Rattle.std.proofs.lemmas.List.Sums.{position_or_len_is}
use Rattle.xet_serve_lines.proofs.cutting.first_place.Goals as goal

pub returns-else-text-place : goal.returns-else-text-place
returns-else-text-place c =
    let i = c.loop-place.invariant in
    let at : get_or c.args.text.now c.loop-place.place 0 ≡ c.args.sep = search rules in
    sym (position_or_len_is (λ (b : ℕ). b == c.args.sep) c.args.text.now c.loop-place.place 0 i.within i.others
    (λ h. eq-eqb (get_or c.args.text.now c.loop-place.place 0) c.args.sep at))

pub returns-after-loop-place : goal.returns-after-loop-place
returns-after-loop-place c =
    let i = c.loop-place.invariant in
    let past = c.loop-place-test.false in
    sym (position_or_len_is (λ (b : ℕ). b == c.args.sep) c.args.text.now c.loop-place.place 0 i.within i.others
    (λ h. absurd (omega (arith, h, past))))
