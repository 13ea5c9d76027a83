use Rattle.std.proofs.Common.{refl, ap, ◌≡◌}
use Rattle.std.specs.Prelude.{Err}
use Rattle.xet_upload.specs.FileDatas.{Parts}
use Rattle.xet_upload.specs.Waitings.{Waiting}
use Rattle.xet_upload.specs.declared.data_error.DataError.TheVariants as data_error
use Rattle.xet_upload_session.specs.Telling.{told_by}
use Rattle.xet_base.proofs.CallerLemmas.{err-of}
use Rattle.xet_clean_parts.proofs.Cleaning.{chunk-memory, cut-cleans, leaves-refl, no-own, registers-fails, registers-leaves, some-own, still-cleans}
use Rattle.xet_clean_parts.proofs.Puts.{so-any, so-empty, so-err, so-quiet, so-registered}
use Rattle.xet_clean_parts.proofs.SessionCalls.{calls-none, calls-xorb}
use Rattle.xet_clean_parts.proofs.FileCalls.{tells-err, tells-memory, tells-none, tells-ok, xorb-tells, xorb-tells-err}
use Rattle.xet_clean_parts.proofs.deduper.cut_own.Goals as goal

pub returns-then-count-eq0 : goal.returns-then-count-eq0
returns-then-count-eq0 g c = record {
  leaves = leaves-refl _ _ refl;
  cleans = still-cleans _ _ _ _ refl refl;
  emptied = no-own _ _ c.num_chunks-count.ensures.chunks c.if-count-eq0.true c.num_chunks-count.ensures.no_files;
  puts = λ next unfit. so-empty _ _ _ _ _ (ap (λ (w : Waiting). w.chunks)
      (no-own _ _ c.num_chunks-count.ensures.chunks c.if-count-eq0.true c.num_chunks-count.ensures.no_files)) refl;
  why = tt;
  tells = tells-none _ _ _ _ _ refl tt;
  calls = calls-none _ _ _ refl;
  group = (refl, refl);
}

pub returns-in_err-raw : goal.returns-in_err-raw
returns-in_err-raw g c =
    let e : c.from_residual.result ≡ Err data_error.OutOfMemory = err-of _ _ c.from_residual.ensures in
    rw e (record {
      leaves = leaves-refl _ _ refl;
      cleans = tt;
      emptied = tt;
      puts = λ next unfit. so-quiet _ _ _ _ _ _ refl refl refl tt;
      why = chunk-memory
          (told_by c.args.session.now) (told_by c.args.session.now) _ refl;
      tells = tells-memory _ _ _ _ refl;
      calls = calls-none _ _ _ refl;
      group = (refl, refl);
    })

pub returns-in_err-register_new_xorb : goal.returns-in_err-register_new_xorb
returns-in_err-register_new_xorb g c =
    let e : c.from_residual-in_err-register_new_xorb.result ≡ Err c.in_err-register_new_xorb.field-0.0 =
    err-of _ _ c.from_residual-in_err-register_new_xorb.ensures in
    let call = rw c.in_err-register_new_xorb.was at c.register_new_xorb.ensures.call in
    let count = c.num_chunks-count.ensures in
    rw e (record {
      leaves = registers-leaves _ _ _ _ _ call c.register_new_xorb.ensures.backs;
      cleans = tt;
      emptied = tt;
      puts = λ next unfit. so-err _ _ _ _ _ _ _ (so-registered _ _ _ next _
          (some-own _ _ count.chunks c.if-count-eq0.false) (record { some = count.some; within = count.within }) unfit _
          _ c.in_ok-raw.ensures.xorb call);
      why = registers-fails _ _ _ _ _ call;
      tells = tells-err _ _ _ _ _ (xorb-tells-err _ _ _ _ _ _ _ _ refl _
          (rw (c.in_err-register_new_xorb.was, c.as_slice.ensures) at c.register_new_xorb.ensures.tracks) call.err
          call.why);
      calls = calls-xorb _ _ _ _ _ call;
      group = c.register_new_xorb.ensures.group;
    })

pub returns : goal.returns
returns g c =
    let call = rw c.in_ok-register_new_xorb.was at c.register_new_xorb.ensures.call in
    let count = c.num_chunks-count.ensures in
    let some = some-own _ _ count.chunks c.if-count-eq0.false in
    let cleans = cut-cleans _ _ _ _ _ _ _ some c.in_ok-raw.ensures.xorb c.in_ok-raw.ensures.named call in
    record {
      leaves = registers-leaves _ _ _ _ _ call c.register_new_xorb.ensures.backs;
      cleans = cleans;
      emptied = ap (λ (p : Parts). p.own) c.in_ok-raw.ensures.named;
      puts = λ next unfit. so-any _ _ _ _ _ _ _ _ cleans.failed refl (so-registered _ _ _ next _ some
          (record { some = count.some; within = count.within }) unfit _ _ c.in_ok-raw.ensures.xorb call);
      why = tt;
      tells = tells-ok _ _ _ _ _ tt (xorb-tells _ _ _ _ _ _ _ c.args.now refl _
          (rw (c.in_ok-register_new_xorb.was, c.as_slice.ensures) at c.register_new_xorb.ensures.tracks));
      calls = calls-xorb _ _ _ _ _ call;
      group = c.register_new_xorb.ensures.group;
    }
