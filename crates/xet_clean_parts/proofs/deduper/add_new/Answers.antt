use Rattle.std.proofs.Common.{refl, ap, sym, ◌≡◌}
use Rattle.std.specs.Prelude.{Err}
use Rattle.xet_upload.specs.Waitings.{Waiting}
use Rattle.xet_upload.specs.declared.data_error.DataError.TheVariants as data_error
use Rattle.xet_upload_session.specs.Telling.{told_by}
use Rattle.xet_base.proofs.CallerLemmas.{err-of}
use Rattle.xet_clean_parts.proofs.Cleaning.{chunk-memory, more-cleans}
use Rattle.xet_clean_parts.proofs.Puts.{so-any, so-err, so-lost}
use Rattle.xet_clean_parts.proofs.FileCalls.{tells-both, tells-err, tells-memory, tells-ok}
use Rattle.xet_clean_parts.proofs.deduper.add_new.Goals as goal

pub returns-in_err-make_room : goal.returns-in_err-make_room
returns-in_err-make_room g c =
    let e : c.from_residual.result ≡ Err c.in_err-make_room.field-0.0 = err-of _ _ c.from_residual.ensures in
    rw e (record {
      leaves = c.make_room.ensures.leaves;
      cleans = tt;
      puts = so-err _ _ _ _ _ _ _ (rw (c.in_err-make_room.was, c.as_slice.ensures) at c.make_room.ensures.puts);
      why = rw c.in_err-make_room.was at c.make_room.ensures.why;
      tells = tells-err _ _ _ _ _ (rw c.in_err-make_room.was at c.make_room.ensures.tells);
      calls = c.make_room.ensures.calls;
      group = c.make_room.ensures.group;
    })

pub returns-in_err-add_own : goal.returns-in_err-add_own
returns-in_err-add_own g c =
    let e : c.from_residual-in_err-add_own.result ≡ Err data_error.OutOfMemory =
    err-of _ _ c.from_residual-in_err-add_own.ensures in
    rw e (record {
      leaves = c.make_room.ensures.leaves;
      cleans = tt;
      puts = so-lost _ _ _ _ _ _ _ _ c.in_ok-make_room.ensures.cleans.failed
          (rw (c.in_ok-make_room.was, c.as_slice.ensures) at c.make_room.ensures.puts);
      why = chunk-memory
          (told_by c.args.session.now) (told_by c.make_room.new.session) _ refl;
      tells = tells-both _ _ _ _ _ _ (rw c.in_ok-make_room.was at c.make_room.ensures.tells) _
          (tells-memory _ _ _ _ refl);
      calls = c.make_room.ensures.calls;
      group = c.make_room.ensures.group;
    })

pub returns : goal.returns
returns g c = record {
  leaves = c.make_room.ensures.leaves;
  cleans =
      more-cleans _ _ _ _ _ _ c.in_ok-make_room.ensures.cleans c.in_ok-add_own.ensures;
  puts = so-any _ _ _ _ _ _ _ _ c.in_ok-make_room.ensures.cleans.failed
      (sym (ap (λ (w : Waiting). w.chunks) c.in_ok-add_own.ensures.own))
      (rw (c.in_ok-make_room.was, c.as_slice.ensures) at c.make_room.ensures.puts);
  why = tt;
  tells = tells-ok _ _ _ _ _ tt (rw c.in_ok-make_room.was at c.make_room.ensures.tells);
  calls = c.make_room.ensures.calls;
  group = c.make_room.ensures.group;
}

pub add_own-requires-clause-within : goal.add_own-requires-clause-within
add_own-requires-clause-within g c = rw c.as_slice.ensures at c.in_ok-make_room.ensures.room
