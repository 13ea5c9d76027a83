use Rattle.std.proofs.Common.{refl, ap, ◌≡◌, ◌∙◌}
use Rattle.std.specs.Prelude.{Err}
use Rattle.xet_upload.specs.Metrics.{both}
use Rattle.xet_base.proofs.CallerLemmas.{err-of}
use Rattle.xet_clean_parts.proofs.CallerLemmas.{so-any, so-err, tells-err, tells-ok}
use Rattle.xet_clean.proofs.cleaner.SingleFileCleaner.clean.Goals as goal

pub returns-in_err-found : goal.returns-in_err-found
returns-in_err-found g c =
    let e : c.from_residual.result ≡ Err c.in_err-found.field-0.0 = err-of _ _ c.from_residual.ensures in
    rw e (record {
      leaves = c.add_chunk.ensures.leaves;
      cleans = tt;
      same = tt;
      counts = tt;
      puts = so-err _ _ _ _ _ _ _ (rw c.in_err-found.was at c.add_chunk.ensures.puts);
      failed = refl;
      why = rw c.in_err-found.was at c.add_chunk.ensures.why;
      tells = tells-err _ _ _ _ _ (rw c.in_err-found.was at c.add_chunk.ensures.tells);
      calls = c.add_chunk.ensures.calls;
      group = c.add_chunk.ensures.group;
    })

pub returns : goal.returns
returns g c = record {
  leaves = c.add_chunk.ensures.leaves;
  cleans = c.in_ok-found.ensures.cleans;
  same = refl;
  counts = (
    c.in_ok-found.found,
    c.merge_in.ensures ∙ ap (both c.args.self.now.counts) (rw c.len-length.ensures.value at c.chunk_counts.ensures),
  );
  puts = so-any _ _ _ _ _ _ _ _ c.in_ok-found.ensures.cleans.failed refl
      (rw c.in_ok-found.was at c.add_chunk.ensures.puts);
  failed = refl;
  why = tt;
  tells = tells-ok _ _ _ _ _ _ (rw c.in_ok-found.was at c.add_chunk.ensures.tells);
  calls = c.add_chunk.ensures.calls;
  group = c.add_chunk.ensures.group;
}
