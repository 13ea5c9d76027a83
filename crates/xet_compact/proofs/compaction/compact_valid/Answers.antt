use Rattle.std.proofs.Common.{◌≡◌, ◌∙◌, ap, sym, subst, IfErr, Result}
use Rattle.xet_audit.specs.declared.raw_store.RawStore.{RawStore}
use Rattle.xet_audit.specs.Raws.{store_of_raw}
use Rattle.xet_base.specs.Store.{IsValid, Store}
use Rattle.xet_compact.specs.Compacts.{IsCompacted, dropped_count, kept_xorbs}
use Rattle.xet_compact.specs.steps.Ascending.{AreXorbs, ClashCause}
use Rattle.xet_compact.specs.Refusals.{CompactCause}
use Rattle.xet_compact.specs.declared.compaction.Compacted.{Compacted}
use Rattle.xet_compact.specs.declared.compaction.CompactError.{CompactError}
use Rattle.xet_base.proofs.CallerLemmas.{err-of}
use Rattle.xet_compact.specs.steps.Kept.{AreAllFiles}
use Rattle.xet_compact.proofs.Compacting.{clash_cause, compacted_of}
use Rattle.xet_compact.proofs.Serving.{compacted_serves, none_clash}
use Rattle.xet_compact.proofs.compaction.compact_valid.Goals as goal

pub of-requires : goal.of-requires
of-requires c = c.audits_tell_validity.ensures.valid (store_of_raw c.args.raw.now) c.requires

pub returns : goal.returns
returns c =
    let s = store_of_raw c.args.raw.now in
    let same = ap store_of_raw c.in_ok-kept.ensures.same in
    let valid = c.audits_tell_validity.ensures.valid s c.requires in
    let files = subst (λ (r : Store). AreAllFiles r c.in_ok-files.files) same c.in_ok-files.ensures in
    let xorbs = subst (λ (r : Store). AreXorbs (kept_xorbs r) c.in_ok-xorbs.xorbs) same c.in_ok-xorbs.ensures.merged in
    let compacted = compacted_of s c.in_ok-files.files c.in_ok-xorbs.xorbs files xorbs in
    let t = store_of_raw (record { xorbs = c.in_ok-xorbs.xorbs; files = c.in_ok-files.files }) in
    record {
      compacted = compacted;
      dropped = c.in_ok-dropped_chunks.ensures ∙ ap dropped_count same;
      uncounted = files.uncounted;
      serves = compacted_serves s t valid compacted;
      clear = none_clash s t compacted;
      cause = tt;
    }

pub returns-in_err-xorbs-clause-cause : goal.returns-in_err-xorbs-clause-cause
returns-in_err-xorbs-clause-cause c =
    let s = store_of_raw c.args.raw.now in
    let e = c.in_err-xorbs.field-0.0 in
    let clash = subst (λ (r : Store). ClashCause (kept_xorbs r) e) (ap store_of_raw c.in_ok-kept.ensures.same)
    c.in_err-xorbs.ensures.cause in
    subst (λ (r : Result Compacted CompactError). IfErr r (CompactCause s)) (sym (err-of c.from_residual-in_err-xorbs.result e
    c.from_residual-in_err-xorbs.ensures)) (clash_cause s e c.requires clash)
