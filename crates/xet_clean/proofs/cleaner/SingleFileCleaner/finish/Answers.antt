use Rattle.std.proofs.Common.{refl, inl, ◌≡◌}
use Rattle.std.specs.Prelude.{Err}
use Rattle.xet_upload_session.specs.Telling.{told_by}
use Rattle.xet_clean.specs.Showing.{cleaner_of}
use Rattle.xet_base.proofs.CallerLemmas.{err-of}
use Rattle.xet_clean.proofs.Completing.{finishes-complete, finishes-refused, finishes-uncut}
use Rattle.xet_clean.proofs.FileEnds.{end-early, end-taken, end-uncut, ends-early, ends-so, ends-uncut}
use Rattle.xet_clean_parts.proofs.CallerLemmas.{group-both}
use Rattle.xet_clean.proofs.cleaner.SingleFileCleaner.finish.Goals as goal

pub returns-in-Some : goal.returns-in-Some
returns-in-Some g c = record {
  ends = finishes-refused _ _ _ c.refused.ensures.listed _ refl c.in-Some.ensures.some;
  refused = λ why q. inl (end-early (told_by c.args.session.now)
      (cleaner_of g.T.Cutter.told c.args.self) _ c.in-Some.ensures.some);
  so = ends-early _ (cleaner_of g.T.Cutter.told c.args.self) _ _ _ _ _ refl refl;
  group = (refl, refl);
}

pub returns-in_err-cut_rest : goal.returns-in_err-cut_rest
returns-in_err-cut_rest g c =
    let e : c.from_residual.result ≡ Err c.in_err-cut_rest.field-0.0 = err-of _ _ c.from_residual.ensures in
    let passes = c.refused.ensures.none c.in_default.is in
    rw e (record {
      ends = finishes-uncut _ _ _ c.refused.ensures.listed _ c.cut_rest.ensures.leaves _
          (rw c.in_err-cut_rest.was at c.cut_rest.ensures.puts) passes.unfinalized passes.unfailed passes.named
          (rw c.in_err-cut_rest.was at c.cut_rest.ensures.why);
      refused = end-uncut _ (told_by c.args.session.now)
          (cleaner_of g.T.Cutter.told c.args.self) _ _ _ (rw c.in_err-cut_rest.was at c.cut_rest.ensures.tells);
      so = ends-uncut _ (cleaner_of g.T.Cutter.told c.args.self) _ _ _ _ _ _ c.cut_rest.ensures.calls
          (rw c.in_err-cut_rest.was at c.cut_rest.ensures.tells);
      group = c.cut_rest.ensures.group;
    })

pub returns : goal.returns
returns g c =
    let passes = c.refused.ensures.none c.in_default.is in
    record {
      ends = finishes-complete _ _ _ c.refused.ensures.listed _ _ c.cut_rest.ensures.leaves
          c.in_ok-cut_rest.ensures.cuts c.complete.result c.complete.ensures.call
          passes.unfinalized passes.unfailed passes.named c.in_ok-cut_rest.ensures.none;
      refused = end-taken _ (told_by c.args.session.now)
          (cleaner_of g.T.Cutter.told c.args.self) _ _ (told_by c.cut_rest.new.session)
          (told_by c.complete.new.session) c.complete.result
          c.cut_rest.ensures.leaves.keeps.finalized c.complete.ensures.call.why;
      so =
          ends-so _ (cleaner_of g.T.Cutter.told c.args.self) _ _ _ _ (cleaner_of g.T.Cutter.told c.cut_rest.new.self) _ _ _ _ c.complete.result
          c.in_ok-cut_rest.ensures.cuts c.cut_rest.ensures.calls
          (rw c.in_ok-cut_rest.was at c.cut_rest.ensures.tells) c.complete.ensures.ok c.complete.ensures.err;
      group = group-both c.cut_rest.ensures.group c.complete.ensures.group;
    }

pub complete-requires-clause-named : goal.complete-requires-clause-named
complete-requires-clause-named g c =
    λ f z. c.in_ok-cut_rest.ensures.cuts.cleans.named c.refused.ensures.listed (record {
      unfailed =
          f;
      unfinished = z;
    }) (c.refused.ensures.none c.in_default.is).named

pub complete-requires-clause-ended : goal.complete-requires-clause-ended
complete-requires-clause-ended g c = c.in_ok-cut_rest.ensures.none
