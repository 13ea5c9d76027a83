use Rattle.std.proofs.Common.{◌≡◌, ◌<◌, ◌≤◌, append-nil, arith, get_or, length, map, sym, take, ◌∙◌}
use Rattle.xet_base.specs.declared.stored.StoredFile.{StoredFile}
use Rattle.xet_audit.specs.Findings.{is_later_file}
use Rattle.xet_audit.specs.Raws.{file_of_raw, store_of_raw}
use Rattle.xet_audit.proofs.Lists.{at_all, at_more, found_all, mapped_at, mapped_past, mapped_within, one_more}
use Rattle.xet_audit.proofs.Tables.{any_earlier, hashed_count, hashed_more, no_table}
use Rattle.xet_audit.proofs.first_places.FirstPlaces.add_files.Goals as goal

pub loop-a-init : goal.loop-a-init
loop-a-init c = record {
  table = no_table c.args.self.now.hashes c.args.self.now.places.items c.requires.hashes c.requires.places;
  found = sym (append-nil c.args.found.now.items);
}

pub loop-a-preserved : goal.loop-a-preserved
loop-a-preserved c =
    let l = c.loop-a in
    let s = store_of_raw c.args.raw.now in
    let raw = c.args.raw.now.files in
    let i = l.a in
    let below : i < length raw = rw c.as_slice-file-items.ensures at c.loop-a-test.true in
    let file = c.file-item.result in
    let own : file ≡ get_or raw i file = rw c.as_slice-file-items.ensures at c.file-item.is in
    let within = mapped_within file_of_raw raw i below in
    let is = mapped_at file_of_raw raw i file below own in
    let step = c.in_ok-later.ensures (map (λ f. f.hash) (take i s.files)) l.invariant.table (hashed_count (λ (f : StoredFile). f.hash) s.files i (omega (arith, within))) in
    let later : c.in_ok-later.later ≡ is_later_file s i (file_of_raw file) = step.0 ∙ any_earlier (λ (f : StoredFile). f.hash) (take i s.files) file.hash in
    record {
      table = hashed_more (λ (f : StoredFile). f.hash) s.files i (file_of_raw file) _ _ within is step.1;
      found = one_more _ _ _ _ _ _ l.invariant.found (rw later at c.in_ok-add_if.ensures) (at_more 4 (is_later_file s) s.files i (file_of_raw file) within is);
    }

pub returns : goal.returns
returns c =
    let l = c.loop-a in
    let s = store_of_raw c.args.raw.now in
    let past : length c.args.raw.now.files ≤ l.a = rw c.as_slice-file-items.ensures at c.loop-a-test.false in
    found_all _ _ _ _ l.invariant.found (at_all 4 (is_later_file s) s.files l.a (mapped_past file_of_raw c.args.raw.now.files l.a past))
