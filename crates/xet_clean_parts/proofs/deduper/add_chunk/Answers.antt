use Rattle.std.proofs.Common.{false, refl, ap, sym, ◌≡◌}
use Rattle.std.specs.Prelude.{Err, Ok}
use Rattle.xet_upload.specs.Waitings.{Waiting}
use Rattle.xet_upload.specs.declared.data_error.DataError.TheVariants as data_error
use Rattle.xet_upload_session.specs.Telling.{told_by}
use Rattle.xet_base.proofs.CallerLemmas.{err-of}
use Rattle.xet_clean_parts.proofs.Cleaning.{chunk-later, found-adds, leaves-both, new-adds}
use Rattle.xet_clean_parts.proofs.SessionCalls.{calls-both, group-both}
use Rattle.xet_clean_parts.proofs.Puts.{so-any, so-behind, so-err, so-quiet}
use Rattle.xet_clean_parts.proofs.FileCalls.{tells-both, tells-err, tells-late, tells-ok}
use Rattle.xet_clean_parts.proofs.deduper.add_chunk.Goals as goal

pub returns-in_err-add_new-in-None : goal.returns-in_err-add_new-in-None
returns-in_err-add_new-in-None g c =
    let e : c.from_residual-in_err-add_new-in-None.result ≡ Err c.in_err-add_new-in-None.field-0.0 =
    err-of _ _ c.from_residual-in_err-add_new-in-None.ensures in
    let was : c.find_chunk.result ≡ Ok c.in_ok-entry.field-0 = c.in_ok-entry.was in
    rw e (record {
      leaves = leaves-both _ _ _ c.find_chunk.ensures.leaves c.add_new.ensures.leaves;
      cleans = tt;
      puts = so-err _ _ _ _ _ _ _ (so-behind _ _ _ _ _ _ _ c.find_chunk.ensures.leaves.keeps c.find_chunk.ensures.found.log
          c.find_chunk.ensures.found.repeated c.find_chunk.ensures.found.failed
          (rw c.in_err-add_new-in-None.was at c.add_new.ensures.puts));
      why = chunk-later _ _ (told_by c.add_new.new.session) _
          c.find_chunk.ensures.leaves (rw c.in_err-add_new-in-None.was at c.add_new.ensures.why);
      tells = tells-both _ _ _ _ _ _ (rw was at c.find_chunk.ensures.tells) _
          (tells-late _ _ _ _ _ _ c.find_chunk.ensures.leaves.keeps.finalized
          (tells-err _ _ _ _ _ (rw c.in_err-add_new-in-None.was at c.add_new.ensures.tells)));
      calls = calls-both _ _ _ _ (c.find_chunk.ensures.calls _) c.add_new.ensures.calls;
      group = group-both c.find_chunk.ensures.group c.add_new.ensures.group;
    })

pub returns-in_ok-add_found-in-Some-clause-cleans : goal.returns-in_ok-add_found-in-Some-clause-cleans
returns-in_ok-add_found-in-Some-clause-cleans g c =
    let was : c.find_chunk.result ≡ Ok c.in_ok-entry.field-0 = c.in_ok-entry.was in
    found-adds _ _ _ _ _ c.in-Some.entry _ c.requires.hashed
    (rw (was, c.in-Some.is) at c.find_chunk.ensures.found) c.in_ok-add_found-in-Some.ensures

pub returns-in_ok-add_new-in-None : goal.returns-in_ok-add_new-in-None
returns-in_ok-add_new-in-None g c =
    let was : c.find_chunk.result ≡ Ok c.in_ok-entry.field-0 = c.in_ok-entry.was in
    record {
      leaves = leaves-both _ _ _ c.find_chunk.ensures.leaves c.add_new.ensures.leaves;
      cleans = new-adds _ _ _ _ _ _ _ c.requires.hashed
          c.find_chunk.ensures.leaves c.add_new.ensures.leaves (rw (was, c.in-None.is) at c.find_chunk.ensures.found)
          c.in_ok-add_new-in-None.ensures.cleans;
      puts = so-behind _ _ _ _ _ _ _ c.find_chunk.ensures.leaves.keeps c.find_chunk.ensures.found.log
          c.find_chunk.ensures.found.repeated c.find_chunk.ensures.found.failed
          (so-any _ _ _ _ _ _ _ _ c.in_ok-add_new-in-None.ensures.cleans.failed refl
          (rw c.in_ok-add_new-in-None.was at c.add_new.ensures.puts));
      why = tt;
      tells = tells-both _ _ _ _ _ _ (rw was at c.find_chunk.ensures.tells) _
          (tells-late _ _ _ _ _ _ c.find_chunk.ensures.leaves.keeps.finalized
          (tells-ok _ _ _ _ _ false (rw c.in_ok-add_new-in-None.was at c.add_new.ensures.tells)));
      calls = calls-both _ _ _ _ (c.find_chunk.ensures.calls _) c.add_new.ensures.calls;
      group = group-both c.find_chunk.ensures.group c.add_new.ensures.group;
    }

pub returns-in_err-entry-clause-puts : goal.returns-in_err-entry-clause-puts
returns-in_err-entry-clause-puts g c =
    let e : c.from_residual.result ≡ Err c.in_err-entry.field-0.0 = err-of _ _ c.from_residual.ensures in
    rw e (so-quiet _ _ _ _ _ _ c.find_chunk.ensures.found.log
    c.find_chunk.ensures.found.repeated c.find_chunk.ensures.found.failed tt)

pub returns-in_err-add_found-in-Some-clause-puts : goal.returns-in_err-add_found-in-Some-clause-puts
returns-in_err-add_found-in-Some-clause-puts g c =
    let e : c.from_residual-in_err-add_found-in-Some.result ≡ Err data_error.OutOfMemory =
    err-of _ _ c.from_residual-in_err-add_found-in-Some.ensures in
    rw e (so-quiet _ _ _ _ _ _ c.find_chunk.ensures.found.log
    c.find_chunk.ensures.found.repeated c.find_chunk.ensures.found.failed tt)

pub returns-in_ok-add_found-in-Some-clause-puts : goal.returns-in_ok-add_found-in-Some-clause-puts
returns-in_ok-add_found-in-Some-clause-puts g c = so-quiet _ _ _ _ _ _ c.find_chunk.ensures.found.log
    c.find_chunk.ensures.found.repeated c.find_chunk.ensures.found.failed
    (sym (ap (λ (w : Waiting). w.chunks) c.in_ok-add_found-in-Some.ensures.own))

pub returns-in_err-entry-clause-calls : goal.returns-in_err-entry-clause-calls
returns-in_err-entry-clause-calls g c = c.find_chunk.ensures.calls c.args.now

pub returns-in_err-add_found-in-Some-clause-calls : goal.returns-in_err-add_found-in-Some-clause-calls
returns-in_err-add_found-in-Some-clause-calls g c = c.find_chunk.ensures.calls c.args.now

pub returns-in_ok-add_found-in-Some-clause-calls : goal.returns-in_ok-add_found-in-Some-clause-calls
returns-in_ok-add_found-in-Some-clause-calls g c = c.find_chunk.ensures.calls c.args.now
