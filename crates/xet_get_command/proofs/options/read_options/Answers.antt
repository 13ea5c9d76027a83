use Rattle.std.proofs.Common.{◌≡◌, ◌<◌, ◌∙◌, arith, get_or, length, map, rules, sym}
use Rattle.std.specs.Prelude.{string_bytes}
use Rattle.std.proofs.lemmas.List.{length-map}
use Rattle.xet_get_command.proofs.OptionWords.{item_at, word_more, word_stops}
use Rattle.xet_get_command.proofs.options.read_options.Goals as goal

pub returns-in-None : goal.returns-in-None
returns-in-None c =
    let ws = c.args.words.now in
    let i = c.loop-word.word-index in
    let within : i < length ws = c.loop-word-test.true in
    let n = length-map ws string_bytes in
    let at : get_or ws i c.word-item.result ≡ c.word-item.result = search rules in
    let is : string_bytes c.word-item.result ≡ c.as_str.result.now = search rules in
    word_stops (map string_bytes ws) c.loop-word.options i c.as_str.result.now (omega (arith, n, within)) (item_at string_bytes ws i c.word-item.result _ within at is)
    c.loop-word.invariant (sym c.with_word.ensures ∙ c.in-None.is)

pub loop-word-preserved : goal.loop-word-preserved
loop-word-preserved c =
    let ws = c.args.words.now in
    let i = c.loop-word.word-index in
    let within : i < length ws = c.loop-word-test.true in
    let n = length-map ws string_bytes in
    let at : get_or ws i c.word-item.result ≡ c.word-item.result = search rules in
    let is : string_bytes c.word-item.result ≡ c.as_str.result.now = search rules in
    word_more (map string_bytes ws) c.loop-word.options c.in-Some.next i c.as_str.result.now (omega (arith, n, within)) (item_at string_bytes ws i c.word-item.result _ within at is)
    c.loop-word.invariant (sym c.with_word.ensures ∙ c.in-Some.is)
