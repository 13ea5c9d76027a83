use Rattle.std.proofs.Common.{◌≡◌, ◌∙◌, ◌∷◌, ◌++◌, [], length, map, refl, sym, ap, arith}
use Rattle.std.specs.Prelude.{All}
use Rattle.std.specs.Vec.Iter.{into_iter_items}
use Rattle.std.proofs.lemmas.List.Elements.{All-head, All-nil, All-push, All-same, All-tail}
use Rattle.xet_document.specs.Listings.{stored_file}
use Rattle.xet_document.specs.declared.plain_files.ListedFile.{ListedFile}
use Rattle.xet_audit.specs.declared.raw_store.RawFile.{RawFile}
use Rattle.xet_audit.specs.Raws.{file_of_raw}
use Rattle.xet_audit.specs.steps.Listed.{HasNoBytes}
use Rattle.xet_audit.proofs.Lists.{all_taken, mapped_push, taken_more}
use Rattle.xet_audit.proofs.raw_text.raw_files.Goals as goal

abbrev IsFree : ListedFile → Type 0
IsFree f = All (λ t. t.bytes ≡ 0) f.terms

pub loop-file-init : goal.loop-file-init
loop-file-init c =
    let b = c.into_iter-file-iterator.ensures.into_iter_gives in
    record {
      left = rw c.in_ok-made.ensures refl;
      uncounted = rw c.in_ok-made.ensures (All-nil HasNoBytes);
      taken = refl;
      rest = rw b.0 c.requires;
      len = b.1 ∙ (c.args.files.ok.0 ∙ sym (ap length b.0));
    }

pub loop-file-preserved : goal.loop-file-preserved
loop-file-preserved c =
    let l = c.loop-file in
    let i = l.invariant in
    let s = c.in-Some.ensures.steps in
    let file = c.in-Some.file in
    let own : RawFile = record { hash = file.hash; terms = file.terms } in
    let next = into_iter_items c.next.new.self in
    let rest = All-same IsFree (file ∷ next) (into_iter_items l.file-iterator) (sym s.0) i.rest in
    let n = ap length s.0 in
    let t = s.1 in
    let k = i.len in
    record {
      left = mapped_push stored_file file_of_raw l.yielded l.made c.push.new.self file own i.left refl c.in_ok-push.ensures.ok;
      uncounted = All-same HasNoBytes c.push.new.self (l.made ++ own ∷ []) c.in_ok-push.ensures.ok (All-push HasNoBytes l.made own i.uncounted (All-head IsFree file next rest));
      taken = taken_more l.yielded _ _ next file i.taken s.0;
      rest = All-tail IsFree file next rest;
      len = omega arith;
    }

pub returns : goal.returns
returns c =
    let l = c.loop-file in
    let b = c.into_iter-file-iterator.ensures.into_iter_gives in
    let e = all_taken l.yielded _ _ l.invariant.taken (sym l.invariant.len ∙ c.in-None.ensures.steps.0) ∙ b.0 in
    record {
      listed = sym (sym (ap (map stored_file) e) ∙ l.invariant.left);
      uncounted = l.invariant.uncounted;
    }
