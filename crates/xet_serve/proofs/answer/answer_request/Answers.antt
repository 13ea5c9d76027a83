use Rattle.std.proofs.Common.{◌≡◌, ℕ, ap, refl}
use Rattle.std.specs.Prelude.{Option, Some, codes, position}
use Rattle.xet_serve_lines.specs.Replies.{number_line, word_line}
use Rattle.xet_serve_lines.specs.Requests.{asked}
use Rattle.xet_serve.specs.Replies.{is_long, range_reply}
use Rattle.xet_serve.proofs.Requests.{refused_by}
use Rattle.xet_serve.proofs.answer.answer_request.Goals as goal

pub returns-in_default : goal.returns-in_default
returns-in_default g c =
    rw c.in_default.is (refused_by _ _ _ _ (word_line (codes "BAD")) _ (rw c.requires.empty at c.add_line.ensures) (λ s. refl))

pub returns-in-Some-first_long : goal.returns-in-Some-first_long
returns-in-Some-first_long g c =
    let q = asked c.in-Some.request in
    let long : Some c.in-Some-first_long.index ≡ position is_long q.ranges =
    rw c.as_slice.ensures.value at c.in-Some-first_long.ensures in
    rw c.in-Some.is (refused_by _ _ _ _ (number_line (codes "LONG") c.in-Some-first_long.index) _
    (rw c.requires.empty at c.add_number_line.ensures) (λ s. ap (λ (o : Option ℕ). range_reply s q o) long))
