use Rattle.std.proofs.Common.{refl, ap, inl, sym, ◌≡◌, ◌∙◌}
use Rattle.std.specs.Prelude.{Err}
use Rattle.xet_upload_session.specs.Sessions.{SessionTold}
use Rattle.xet_upload_session.specs.Telling.{told_by}
use Rattle.xet_base.proofs.CallerLemmas.{err-of}
use Rattle.xet_clean_parts.proofs.CallerLemmas.{chunk-tracks, leaves-refl, some-still}
use Rattle.xet_clean_parts.proofs.CallerLemmas.{calls-moved, calls-none, group-both}
use Rattle.xet_clean_parts.proofs.CallerLemmas.{grows-first, part-for, tells-both, tells-err, tells-late, tells-none, tells-own, tells-wider}
use Rattle.xet_clean.proofs.Feeding.{feeds-failed, feeds-finalized, feeds-grown}
use Rattle.xet_clean.proofs.Taken.{feeds-untaken, tells-untaken, took-failed, took-fits, took-grows, took-open, took-tells}
use Rattle.xet_clean.proofs.cleaner.SingleFileCleaner.feed_taken.Goals as goal

pub returns-then-is_finalized : goal.returns-then-is_finalized
returns-then-is_finalized g c = record {
  feeds = λ x bytes t. feeds-finalized _ _ _ _ _ refl (took-failed _ _ _ _ t)
      (sym c.is_finalized.ensures.is ∙ c.if-is_finalized.true);
  tells = λ x bytes t. tells-none _ _ _ _ _ refl (λ why q. inl (inl (
    refl,
    sym c.is_finalized.ensures.is ∙ c.if-is_finalized.true,
  )));
  grows = λ x bytes t. tt;
  calls = calls-none _ _ _ refl;
  group = (refl, refl);
}

pub returns-in_err-found : goal.returns-in_err-found
returns-in_err-found g c =
    let e : c.from_residual.result ≡ Err c.in_err-found.field-0.0 = err-of _ _ c.from_residual.ensures in
    rw e (record {
      feeds = λ x bytes t. feeds-untaken _ _ _ _ _ _ (rw c.in_err-found.was at t) refl
          (sym c.is_finalized.ensures.is ∙ c.if-is_finalized.false);
      tells = λ x bytes t. tells-untaken _ _ _ _ _ _ _ (rw c.in_err-found.was at t) refl;
      grows = λ x bytes t. tt;
      calls = calls-none _ _ _ refl;
      group = (refl, refl);
    })

pub returns-in_err-grow : goal.returns-in_err-grow
returns-in_err-grow g c =
    let e : c.from_residual-in_err-grow.result ≡ Err c.in_err-grow.field-0.0 =
    err-of _ _ c.from_residual-in_err-grow.ensures in
    rw e (record {
      feeds = λ x bytes t.
          let u = rw c.in_ok-found.was at t in
          feeds-failed _ _ _ _ _ _ (leaves-refl _ _ c.grow.ensures.same)
          (some-still _ _ _ _ _ _ c.grow.ensures.same tt) (took-failed _ _ _ _ u)
          (sym c.is_finalized.ensures.is ∙ c.if-is_finalized.false) (took-open _ _ _ _ u) (took-fits _ _ _ _ u)
          (chunk-tracks (told_by c.args.session.now) (told_by c.grow.new.session) _
          (rw c.in_err-grow.was at c.grow.ensures.why));
      tells = λ x bytes t.
          let u = rw c.in_ok-found.was at t in
          took-tells _ _ _ _ u _ _ _ _ (tells-own _ _ _ _ _ _ (λ e l. inl l) (tells-err _ _ _ _ _
          (rw c.in_err-grow.was at c.grow.ensures.tells)));
      grows = λ x bytes t. tt;
      calls = calls-none _ _ _ c.grow.ensures.same;
      group = c.grow.ensures.group;
    })

pub returns : goal.returns
returns g c = record {
  feeds = λ x bytes t.
      let u = rw c.in_ok-found.was at t in
      feeds-grown _ _ _ _ _ _ _ c.cut_chunks.result c.grow.ensures.same c.cut_chunks.ensures.leaves
      u.ok.1 c.cut_chunks.ensures.cuts c.cut_chunks.ensures.up c.cut_chunks.ensures.puts
      (c.cut_chunks.ensures.failed ∙ took-failed _ _ _ _ u)
      (sym c.is_finalized.ensures.is ∙ c.if-is_finalized.false) (took-open _ _ _ _ u) (took-fits _ _ _ _ u)
      c.cut_chunks.ensures.why;
  tells = λ x bytes t.
      let u = rw c.in_ok-found.was at t in
      took-tells _ _ _ _ u _ _ _ _ (tells-own _ _ _ _ _ _ (λ e l. inl l)
      (tells-both _ _ _ _ _ _ (rw c.in_ok-grow.was at c.grow.ensures.tells) _
      (tells-late _ _ _ _ _ _ (ap (λ (z : SessionTold). z.finalized) c.grow.ensures.same)
      (tells-wider _ _ (part-for _ _ _) _ _ _ _ c.cut_chunks.ensures.tells))));
  grows = λ x bytes t.
      let u = rw c.in_ok-found.was at t in
      took-grows _ _ _ _ u _ _ _ (grows-first _ _ _ _ _ _ _ c.cut_chunks.result c.in_ok-grow.ensures.grows
      c.cut_chunks.ensures.tells);
  calls = calls-moved _ _ _ _ c.grow.ensures.same c.cut_chunks.ensures.calls;
  group = group-both c.grow.ensures.group c.cut_chunks.ensures.group;
}
