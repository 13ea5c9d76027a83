use Rattle.std.proofs.Common.{◌≡◌, ◌∙◌, ap}
use Rattle.xet_audit.specs.Findings.{is_too_long}
use Rattle.xet_audit.specs.Raws.{file_of_raw, store_of_raw}
use Rattle.xet_audit.specs.steps.Terms.{is_long}
use Rattle.xet_audit.proofs.TermStates.{long_is}
use Rattle.xet_audit.proofs.term_walk.TermWalk.add_file.Goals as goal

pub returns : goal.returns
returns c =
    let s = store_of_raw c.args.table.now.raw.now in
    let f = file_of_raw c.args.file.now in
    let done = rw c.as_slice.ensures at c.in_ok-length.ensures in
    let long : c.is_long.result ≡ is_too_long s f = c.is_long.ensures ∙ ap is_long done.length ∙ long_is s f.terms in
    record {
      unnamed = done.unnamed;
      outside = done.outside;
      long = rw (done.long, long) at c.in_ok-add_if.ensures;
      named = done.named;
    }
