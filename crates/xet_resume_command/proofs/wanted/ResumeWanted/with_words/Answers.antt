use Rattle.std.proofs.Common.{◌≡◌, ◌∙◌, rules}
use Rattle.std.specs.Prelude.{Some, string_bytes}
use Rattle.xet_resume_command.specs.Words.{range_of_words, with_range}
use Rattle.xet_resume_command.proofs.WordPairs.{words_more}
use Rattle.xet_resume_command.proofs.wanted.ResumeWanted.with_words.Goals as goal

pub pairs-preserved : goal.pairs-preserved
pairs-preserved c =
    let start = c.start-item.result in
    let last = c.last-item.result in
    let read : range_of_words (string_bytes start) (string_bytes last) ≡ Some c.in_ok-range.range = search rules in
    let more : with_range c.pairs.wanted c.in_ok-range.range ≡ Some c.in_ok-wanted.wanted = search rules in
    c.pairs.invariant
    ∙ words_more string_bytes c.pairs.wanted c.in_ok-wanted.wanted c.in_ok-range.range c.pairs.rest.now start last
    c.in-len2-up.len_at_least c.start-item.is c.last-item.is read more
