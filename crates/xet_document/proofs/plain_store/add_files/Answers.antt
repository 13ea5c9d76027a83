use Rattle.std.proofs.Common.{◌≡◌, map, Ok, sym, ap, ◌∙◌, subst}
use Rattle.xet_base.specs.Store.{IsValid}
use Rattle.xet_document.specs.steps.AddedMembers.{with_files}
use Rattle.xet_document.specs.steps.Reads.{stored_file}
use Rattle.xet_document.proofs.Adding.{file_stops, file_then, no_files}
use Rattle.xet_document.proofs.DocumentMembers.{why_refused}
use Rattle.xet_document.proofs.StoreRefusals.{valid_after_file}
use Rattle.xet_document.proofs.plain_store.add_files.Goals as goal

pub returns-then-not-branch : goal.returns-then-not-branch
returns-then-not-branch c =
    let l = c.loop-file in
    let file = c.in-Some.file in
    let not_added = rw c.if-not-branch.true at c.in_ok-was_added.ensures.added in
    let why = why_refused _ _ c.add_file.ensures.refused not_added in
    let more = ap (map (λ e. stored_file e.1)) c.in-Some.ensures.steps in
    file_stops c.args.store.now l.store _ file.hash file.terms (map (λ e. stored_file e.1) c.next.new.self) why.0 (l.invariant.left ∙ ap (with_files l.store) more) why.1

pub loop-file-preserved : goal.loop-file-preserved
loop-file-preserved c =
    let l = c.loop-file in
    let file = c.in-Some.file in
    let added : c.add_file.result ≡ Ok tt = rw c.if-not-branch.false at c.in_ok-was_added.ensures.added in
    let now = rw added at c.add_file.ensures.added in
    let accepted = rw added at c.add_file.ensures.accepted in
    let more = ap (map (λ e. stored_file e.1)) c.in-Some.ensures.steps in
    let then = file_then l.store (stored_file file) (map (λ e. stored_file e.1) c.next.new.self) in record {
      can = tt;
      ends = tt;
      left = l.invariant.left ∙ ap (with_files l.store) more ∙ then ∙ ap (λ s. with_files s (map (λ e. stored_file e.1) c.next.new.self)) (sym now);
      valid = subst IsValid (sym now) (valid_after_file l.store file.hash file.terms l.invariant.valid accepted);
    }

pub returns : goal.returns
returns c =
    let l = c.loop-file in
    (sym (l.invariant.left ∙ ap (λ fs. with_files l.store (map (λ e. stored_file e.1) fs)) c.in-None.ensures.steps.0 ∙ no_files l.store), l.invariant.valid)
