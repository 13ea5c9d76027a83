use Rattle.xet_document.proofs.Cutting.{made_all, made_more}
use Rattle.xet_document.proofs.listing.files_of.Goals as goal

pub loop-file-preserved : goal.loop-file-preserved
loop-file-preserved c =
    let l = c.loop-file in record {
      can = tt;
      ends = tt;
      left = made_more (λ e. e.1) _ l.made c.push.new.self _ c.next.new.self (c.in-Some.field-0-0, c.in-Some.file) l.invariant.left c.in-Some.ensures.steps c.in_ok-push.ensures.ok;
    }

pub returns : goal.returns
returns c =
    let l = c.loop-file in
    made_all (λ e. e.1) _ l.made _ l.invariant.left c.in-None.ensures.steps.0
