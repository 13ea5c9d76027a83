use Rattle.std.proofs.Common.{◌≡◌, ◌<◌, ◌++◌, [], ◌∙◌, List, ap, append-nil, get_or, length, map, refl, subst, sym, take, take_all}
use Rattle.std.specs.Prelude.{is_none}
use Rattle.xet_base.specs.declared.mdb_shard.FileDataSequenceEntry.{FileDataSequenceEntry}
use Rattle.xet_base.specs.declared.merklehash.MerkleHash.{MerkleHash}
use Rattle.xet_base.specs.declared.stored.StoredTerm.{StoredTerm}
use Rattle.xet_base.specs.Store.{xorb_of}
use Rattle.xet_store.specs.Refusals.{stored_term}
use Rattle.xet_audit.specs.Findings.{is_outside}
use Rattle.xet_audit.specs.Raws.{store_of_raw}
use Rattle.xet_audit.specs.steps.Tables.{IsMarked}
use Rattle.xet_audit.specs.steps.Terms.{length_of, longer, state_of}
use Rattle.xet_audit.proofs.Lists.{found_all, mapped_at, mapped_past, mapped_within, one_more, part_all, part_more, self_at}
use Rattle.xet_audit.proofs.Marking.{marked_count, marks_more, seen_more}
use Rattle.xet_audit.proofs.TermStates.{length_more}
use Rattle.xet_audit.proofs.term_walk.TermWalk.add_terms.Goals as goal

-- the default of a read
abbrev no_term : FileDataSequenceEntry
no_term = record { xorb = record { 0 = [] }; from = 0; to = 0; bytes = 0 }

pub loop-b-init : goal.loop-b-init
loop-b-init c = record {
  size = refl;
  unnamed = sym (append-nil c.args.self.now.unnamed.items);
  outside = sym (append-nil c.args.self.now.outside.items);
  long = refl;
  count = c.requires.count;
  named = λ seen m. subst (λ (hs : List MerkleHash). IsMarked c.args.table.now.firsts.hashes hs c.args.self.now.named.items) (sym (append-nil seen)) m;
}

pub loop-b-preserved : goal.loop-b-preserved
loop-b-preserved c =
    let l = c.loop-b in
    let s = store_of_raw c.args.table.now.raw.now in
    let keys = c.args.table.now.firsts.hashes in
    let raw = c.args.terms.now in
    let ts = map stored_term raw in
    let j = l.b in
    let below : j < length raw = c.loop-b-test.true in
    let term = get_or raw j no_term in
    let t = stored_term term in
    let within = mapped_within stored_term raw j below in
    let is = mapped_at stored_term raw j term below (self_at raw j no_term below) in
    let done = c.in_ok-state.ensures in
    record {
      size = c.added_to-length.ensures ∙ ap (longer l.length) done.state ∙ ap (λ n. longer n (state_of s t)) l.invariant.size ∙ sym (length_more s ts j t within is);
      unnamed = one_more _ _ _ _ _ _ l.invariant.unnamed done.unnamed (part_more 5 (λ (u : StoredTerm). is_none (xorb_of s u.xorb)) c.args.a ts j t within is);
      outside = one_more _ _ _ _ _ _ l.invariant.outside done.outside (part_more 6 (is_outside s) c.args.a ts j t within is);
      long = done.long ∙ l.invariant.long;
      count = ap length done.named ∙ marked_count c.number_near-number.result l.self.named.items ∙ l.invariant.count;
      named = λ seen m. rw (done.named, seen_more seen ts j t within is)
          (marks_more keys _ term.xorb l.self.named.items c.number_near-number.result c.requires.indexed.table.apart c.number_near-number.ensures (l.invariant.named seen m));
    }

pub returns : goal.returns
returns c =
    let l = c.loop-b in
    let s = store_of_raw c.args.table.now.raw.now in
    let keys = c.args.table.now.firsts.hashes in
    let ts = map stored_term c.args.terms.now in
    let past = mapped_past stored_term c.args.terms.now l.b c.loop-b-test.false in
    let all : take l.b ts ≡ ts = take_all l.b ts past in
    record {
      length = l.invariant.size ∙ ap (length_of s) all;
      unnamed = found_all _ _ _ _ l.invariant.unnamed (part_all 5 (λ (u : StoredTerm). is_none (xorb_of s u.xorb)) c.args.a ts l.b past);
      outside = found_all _ _ _ _ l.invariant.outside (part_all 6 (is_outside s) c.args.a ts l.b past);
      long = l.invariant.long;
      named = λ seen m. subst (λ (us : List StoredTerm). IsMarked keys (seen ++ map (λ u. u.xorb) us) l.self.named.items) all (l.invariant.named seen m);
    }
