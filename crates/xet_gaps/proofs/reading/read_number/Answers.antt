use Rattle.std.proofs.Common.{◌≡◌, ◌∙◌, ◌<◌, ◌^◌, ℕ, List, ap, sym}
use Rattle.std.specs.Fmt.{decimal}
use Rattle.std.proofs.lemmas.Fmt.{parse-decimal}
use Rattle.xet_gaps.proofs.TextPieces.{Cut, no_number, none_cut, same_cut}
use Rattle.xet_gaps.proofs.reading.read_number.Goals as goal

pub returns-in_err-word : goal.returns-in_err-word
returns-in_err-word c =
    rw c.from_residual.ensures (no_number c.args.end c.args.text.now c.split_once.result c.split_once.ensures.cases c.requires
    (λ x e n h w. none_cut c.split_once.result c.in_err-word.was x e))

pub returns-in_err-number : goal.returns-in_err-number
returns-in_err-number c =
    rw c.from_residual-in_err-number.ensures (no_number c.args.end c.args.text.now c.split_once.result c.split_once.ensures.cases
    c.requires
    (λ x e n h w.
    let same = same_cut c.split_once.result x (c.in_ok-word.word, c.in_ok-word.rest) e c.in_ok-word.was in
    let word : c.in_ok-word.word.now ≡ decimal n = ap (λ (y : Cut). y.0.now) (sym same) ∙ w in
    let read = parse-decimal 64 n c.in_ok-word.word.now c.parse.result h h word c.parse.ensures.value.0 in
    none_cut c.ok.result c.in_err-number.was n (rw read at c.ok.ensures.value)))

pub returns-then-not-is_printed : goal.returns-then-not-is_printed
returns-then-not-is_printed c =
    no_number c.args.end c.args.text.now c.split_once.result c.split_once.ensures.cases c.requires
    (λ x e n h w.
    let same = same_cut c.split_once.result x (c.in_ok-word.word, c.in_ok-word.rest) e c.in_ok-word.was in
    let word : c.in_ok-word.word.now ≡ decimal n = ap (λ (y : Cut). y.0.now) (sym same) ∙ w in
    let read = parse-decimal 64 n c.in_ok-word.word.now c.parse.result h h word c.parse.ensures.value.0 in
    let number = same_cut c.ok.result n c.in_ok-number.number (rw read at c.ok.ensures.value) c.in_ok-number.was in
    let same_word = c.if-not-is_printed.ensures.1 (word ∙ ap decimal number) in absurd (cc))
