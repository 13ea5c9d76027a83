use Rattle.std.proofs.Common.{◌≡◌, ◌<◌, ◌∙◌, List, get_or, length, map, subst, sym, take_all}
use Rattle.std.specs.Prelude.{is_none}
use Rattle.std.specs.List.{flat_map}
use Rattle.xet_base.specs.declared.merklehash.MerkleHash.{MerkleHash}
use Rattle.xet_base.specs.declared.stored.StoredFile.{StoredFile}
use Rattle.xet_base.specs.declared.stored.StoredTerm.{StoredTerm}
use Rattle.xet_base.specs.Store.{xorb_of}
use Rattle.xet_audit.specs.Findings.{is_outside, is_too_long}
use Rattle.xet_audit.specs.Raws.{file_of_raw, store_of_raw}
use Rattle.xet_audit.specs.steps.Tables.{IsMarked}
use Rattle.xet_audit.proofs.Lists.{at_all, at_more, grown, mapped_at, mapped_past, mapped_within, within_all, within_more}
use Rattle.xet_audit.proofs.Marking.{named_more}
use Rattle.xet_audit.proofs.term_walk.TermWalk.add_files.Goals as goal

pub add_file-requires-clause-count : goal.add_file-requires-clause-count
add_file-requires-clause-count c = c.loop-a.invariant.named.count

pub loop-a-preserved : goal.loop-a-preserved
loop-a-preserved c =
    let l = c.loop-a in
    let s = store_of_raw c.args.table.now.raw.now in
    let keys = c.args.table.now.firsts.hashes in
    let raw = c.args.table.now.raw.now.files in
    let i = l.a in
    let below : i < length raw = rw c.as_slice-file-items.ensures at c.loop-a-test.true in
    let file = c.file-item.result in
    let own : file ≡ get_or raw i file = rw c.as_slice-file-items.ensures at c.file-item.is in
    let f = file_of_raw file in
    let within = mapped_within file_of_raw raw i below in
    let is = mapped_at file_of_raw raw i file below own in
    let done = c.in_ok-add_file.ensures in
    record {
      unnamed = grown _ _ _ _ _ l.invariant.unnamed done.unnamed (within_more 5 (λ (g : StoredFile). g.terms) (λ (t : StoredTerm). is_none (xorb_of s t.xorb)) s.files i f within is);
      outside = grown _ _ _ _ _ l.invariant.outside done.outside (within_more 6 (λ (g : StoredFile). g.terms) (is_outside s) s.files i f within is);
      long = grown _ _ _ _ _ l.invariant.long done.long (at_more 7 (λ n g. is_too_long s g) s.files i f within is);
      named = subst (λ (hs : List MerkleHash). IsMarked keys hs c.add_file.new.self.named.items) (sym (named_more s.files i f within is)) (done.named _ l.invariant.named);
    }

pub returns : goal.returns
returns c =
    let l = c.loop-a in
    let s = store_of_raw c.args.table.now.raw.now in
    let past = mapped_past file_of_raw c.args.table.now.raw.now.files l.a (rw c.as_slice-file-items.ensures at c.loop-a-test.false) in
    record {
      unnamed = l.invariant.unnamed ∙ within_all 5 (λ (g : StoredFile). g.terms) (λ (t : StoredTerm). is_none (xorb_of s t.xorb)) s.files l.a past;
      outside = l.invariant.outside ∙ within_all 6 (λ (g : StoredFile). g.terms) (is_outside s) s.files l.a past;
      long = l.invariant.long ∙ at_all 7 (λ n g. is_too_long s g) s.files l.a past;
      named = subst (λ (fs : List StoredFile). IsMarked c.args.table.now.firsts.hashes (flat_map (λ g. map (λ t. t.xorb) g.terms) fs) l.self.named.items) (take_all l.a s.files past) l.invariant.named;
    }
