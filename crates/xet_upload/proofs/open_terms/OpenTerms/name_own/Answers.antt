use Rattle.std.proofs.Common.{◌≡◌, ◌++◌, ap, arith, drop, length, rules, take, ◌∙◌, List}
use Rattle.xet_waiting.specs.declared.waiting.WaitingTerm.{WaitingTerm}
use Rattle.xet_upload.specs.FileDatas.{renamed}
use Rattle.xet_waiting.proofs.CallerLemmas.{written}
use Rattle.xet_upload.proofs.Named.{named-kept}
use Rattle.xet_upload.proofs.open_terms.OpenTerms.name_own.Goals as goal

pub invariant_of-self : goal.invariant_of-self
invariant_of-self c =
    let mine = c.self.inside.closed in
    let old = c.as_mut_slice.result.now in
    let same : old ≡ mine.items = search rules in
    let count : mine.len ≡ length mine.items = omega (arith, mine.ok.0) in
    let put = ap (λ (us : List WaitingTerm). take mine.len (us ++ drop (length us) mine.items)) c.name_rest.ensures in
    let whole = put ∙ written (renamed c.args.hash) old mine.items mine.len same count in
    named-kept c.args.hash c.len-self-inside.result mine.len mine.items _ c.renamed.result whole c.len-self-inside.ensures count
