use Rattle.std.proofs.Common.{◌≡◌, ◌<◌, append-nil, get_or, length, sym}
use Rattle.xet_audit.specs.Findings.{is_misnamed}
use Rattle.xet_audit.specs.Raws.{file_of_raw, store_of_raw}
use Rattle.xet_audit.proofs.Lists.{at_all, at_more, found_all, mapped_at, mapped_past, mapped_within, one_more}
use Rattle.xet_audit.proofs.hash_faults.find_misnamed_files.Goals as goal

pub loop-a-init : goal.loop-a-init
loop-a-init c = sym (append-nil c.args.found.now.items)

pub loop-a-preserved : goal.loop-a-preserved
loop-a-preserved c =
    let l = c.loop-a in
    let s = store_of_raw c.args.table.now.raw.now in
    let raw = c.args.table.now.raw.now.files in
    let i = l.a in
    let below : i < length raw = rw c.as_slice-file-items.ensures at c.loop-a-test.true in
    let file = c.file-item.result in
    let own : file ≡ get_or raw i file = rw c.as_slice-file-items.ensures at c.file-item.is in
    one_more _ _ _ _ _ _ l.invariant (rw c.is_misnamed.ensures at c.in_ok-add_if.ensures)
    (at_more 9 (λ n f. is_misnamed s f) s.files i (file_of_raw file) (mapped_within file_of_raw raw i below) (mapped_at file_of_raw raw i file below own))

pub returns : goal.returns
returns c =
    let s = store_of_raw c.args.table.now.raw.now in
    let raw = c.args.table.now.raw.now.files in
    found_all _ _ _ _ c.loop-a.invariant (at_all 9 (λ n f. is_misnamed s f) s.files c.loop-a.a (mapped_past file_of_raw raw c.loop-a.a (rw c.as_slice-file-items.ensures at c.loop-a-test.false)))
