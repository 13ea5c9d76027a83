use Rattle.std.proofs.Common.{refl, rules, ap, true, false, ◌≡◌, ◌∙◌}
use Rattle.std.specs.Prelude.{Ok}
use Rattle.xet_upload_session.specs.Telling.{told_by}
use Rattle.xet_clean.specs.Cleaners.{Cleaner}
use Rattle.xet_clean_parts.proofs.CallerLemmas.{chunk-later, leaves-both, leaves-refl}
use Rattle.xet_clean_parts.proofs.CallerLemmas.{calls-both, calls-none, group-both}
use Rattle.xet_clean_parts.proofs.CallerLemmas.{tells-both, tells-err, tells-late, tells-none, tells-ok}
use Rattle.xet_clean.proofs.Feeding.{chunks-done, chunks-stopped, cuts-both, cuts-none, up-before}
use Rattle.xet_clean.proofs.cleaner.SingleFileCleaner.cut_chunks.Goals as goal

pub chunks-init : goal.chunks-init
chunks-init g c = record {
  leaves = leaves-refl _ _ refl;
  cuts = cuts-none _ _ _ _ _ refl refl;
  left = c.requires;
  failed = refl;
  tells = tells-none _ _ _ _ _ refl tt;
  calls = calls-none _ _ _ refl;
  group = (refl, refl);
}

pub chunks-preserved : goal.chunks-preserved
chunks-preserved g c =
    let is : c.cut_chunk.result ≡ Ok true = search rules in
    let old = c.chunks.invariant in
    record {
      leaves = leaves-both _ _ _ old.leaves c.cut_chunk.ensures.leaves;
      cuts = cuts-both _ _ _ _ _ _ _ old.leaves c.cut_chunk.ensures.leaves old.cuts (rw is at c.cut_chunk.ensures.cuts);
      left =
          let tell = ap (λ (z : Cleaner). z.tell) old.cuts.same in
          rw (is, tell) at c.cut_chunk.ensures.left;
      failed = c.cut_chunk.ensures.failed ∙ old.failed;
      tells =
          let file = ap (λ (z : Cleaner). z.file_id) old.cuts.same in
          tells-both _ _ _ _ _ tt old.tells _ (tells-late _ _ _ _ _ _ old.leaves.keeps.finalized
          (tells-ok _ _ _ _ _ tt (rw (is, file) at c.cut_chunk.ensures.tells)));
      calls = calls-both _ _ _ _ old.calls c.cut_chunk.ensures.calls;
      group = group-both old.group c.cut_chunk.ensures.group;
    }

pub returns-in-Ok-false : goal.returns-in-Ok-false
returns-in-Ok-false g c =
    let is : c.cut_chunk.result ≡ Ok false = search rules in
    let old = c.chunks.invariant in
    let file = ap (λ (z : Cleaner). z.file_id) old.cuts.same in
    let cuts = cuts-both _ _ _ _ _ _ _ old.leaves c.cut_chunk.ensures.leaves old.cuts
    (rw is at c.cut_chunk.ensures.cuts) in
    record {
      leaves = leaves-both _ _ _ old.leaves c.cut_chunk.ensures.leaves;
      cuts = cuts;
      puts = chunks-done _ _ _ _ _ _ cuts;
      up = up-before _ _ _ _ _ old.cuts _ (rw is at c.cut_chunk.ensures.up refl);
      none = rw is at c.cut_chunk.ensures.none refl;
      failed = c.cut_chunk.ensures.failed ∙ old.failed;
      why = tt;
      tells = tells-both _ _ _ _ _ tt old.tells _ (tells-late _ _ _ _ _ _ old.leaves.keeps.finalized
          (tells-ok _ _ _ _ _ tt (rw (is, file) at c.cut_chunk.ensures.tells)));
      calls = calls-both _ _ _ _ old.calls c.cut_chunk.ensures.calls;
      group = group-both old.group c.cut_chunk.ensures.group;
    }

pub returns-in-Err : goal.returns-in-Err
returns-in-Err g c =
    let old = c.chunks.invariant in
    let file = ap (λ (z : Cleaner). z.file_id) old.cuts.same in
    record {
      leaves = leaves-both _ _ _ old.leaves c.cut_chunk.ensures.leaves;
      cuts = tt;
      puts = chunks-stopped _ _ _ _ _ _ _ _ old.leaves old.cuts (rw c.in-Err.is at c.cut_chunk.ensures.puts);
      up = tt;
      none = tt;
      failed = c.cut_chunk.ensures.failed ∙ old.failed;
      why = chunk-later _ _ (told_by c.cut_chunk.new.session) _ old.leaves
          (rw c.in-Err.is at c.cut_chunk.ensures.why);
      tells = tells-both _ _ _ _ _ tt old.tells _ (tells-late _ _ _ _ _ _ old.leaves.keeps.finalized
          (tells-err _ _ _ _ _ (rw (c.in-Err.is, file) at c.cut_chunk.ensures.tells)));
      calls = calls-both _ _ _ _ old.calls c.cut_chunk.ensures.calls;
      group = group-both old.group c.cut_chunk.ensures.group;
    }

pub cut_chunk-requires : goal.cut_chunk-requires
cut_chunk-requires g c =
    let tell = ap (λ (z : Cleaner). z.tell) c.chunks.invariant.cuts.same in
    rw tell c.chunks.invariant.left
