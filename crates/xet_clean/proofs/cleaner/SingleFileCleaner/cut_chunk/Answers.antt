use Rattle.std.proofs.Common.{refl, ap, sym, inl, inr, ◌≡◌, ◌∙◌}
use Rattle.std.specs.Prelude.{Err, Ok}
use Rattle.xet_upload.specs.declared.data_error.DataError.TheVariants as data_error
use Rattle.xet_clean.specs.Cleaners.{Cleaner}
use Rattle.xet_base.proofs.CallerLemmas.{err-of}
use Rattle.xet_clean_parts.proofs.CallerLemmas.{leaves-refl}
use Rattle.xet_clean_parts.proofs.CallerLemmas.{calls-none}
use Rattle.xet_clean.proofs.Feeding.{cleaned-puts, cuts-ended, cuts-one, ended-pending, ended-up}
use Rattle.xet_clean_parts.proofs.CallerLemmas.{some-any, some-err, some-still, tells-err, tells-memory, tells-none, tells-ok}
use Rattle.xet_clean.proofs.cleaner.SingleFileCleaner.cut_chunk.Goals as goal

pub returns-in_err-next_chunk : goal.returns-in_err-next_chunk
returns-in_err-next_chunk g c =
    let e : c.from_residual.result ≡ Err data_error.OutOfMemory = err-of _ _ c.from_residual.ensures in
    rw e (record {
      leaves = leaves-refl _ _ refl;
      cuts = tt;
      puts = some-still _ _ _ _ _ _ refl tt;
      shorter = tt;
      left = tt;
      up = tt;
      none = tt;
      failed = c.next_chunk.ensures.failed;
      why = inr (inl refl);
      tells = tells-memory _ _ _ _ refl;
      calls = calls-none _ _ _ refl;
      group = (refl, refl);
    })

pub returns-in-None-clause-leaves : goal.returns-in-None-clause-leaves
returns-in-None-clause-leaves g c = leaves-refl _ _ refl

pub returns-in-None-clause-cuts : goal.returns-in-None-clause-cuts
returns-in-None-clause-cuts g c =
    let was : c.next_chunk.result ≡ Ok c.in_ok-next_chunk.field-0 = c.in_ok-next_chunk.was in
    cuts-ended _ _ _ _ _ refl (rw (was, c.in-None.is) at c.next_chunk.ensures.next)

pub returns-in-None-clause-puts : goal.returns-in-None-clause-puts
returns-in-None-clause-puts g c =
    let was : c.next_chunk.result ≡ Ok c.in_ok-next_chunk.field-0 = c.in_ok-next_chunk.was in
    let next = rw (was, c.in-None.is) at c.next_chunk.ensures.next in
    some-still _ _ _ _ _ _ refl (sym (ap (λ (z : Cleaner). z.parts.own.chunks) next.same))

pub returns-in-None-clause-up : goal.returns-in-None-clause-up
returns-in-None-clause-up g c =
    let was : c.next_chunk.result ≡ Ok c.in_ok-next_chunk.field-0 = c.in_ok-next_chunk.was in
    λ _. ended-up _ _ _ (rw (was, c.in-None.is) at c.next_chunk.ensures.next)

pub returns-in-None-clause-none : goal.returns-in-None-clause-none
returns-in-None-clause-none g c =
    let was : c.next_chunk.result ≡ Ok c.in_ok-next_chunk.field-0 = c.in_ok-next_chunk.was in
    λ _ last. ended-pending _ _ _ (rw (was, c.in-None.is) at c.next_chunk.ensures.next) last

pub returns-in-None-clause-tells : goal.returns-in-None-clause-tells
returns-in-None-clause-tells g c = tells-none _ _ _ _ _ refl tt

pub returns-in-None-clause-failed : goal.returns-in-None-clause-failed
returns-in-None-clause-failed g c = c.next_chunk.ensures.failed

pub returns-in-None-clause-calls : goal.returns-in-None-clause-calls
returns-in-None-clause-calls g c = calls-none _ _ _ refl

pub returns-in-None-clause-group : goal.returns-in-None-clause-group
returns-in-None-clause-group g c = (refl, refl)

pub returns-in_err-clean-in-Some : goal.returns-in_err-clean-in-Some
returns-in_err-clean-in-Some g c =
    let was : c.next_chunk.result ≡ Ok c.in_ok-next_chunk.field-0 = c.in_ok-next_chunk.was in
    let next = rw (was, c.in-Some.is) at c.next_chunk.ensures.next in
    let file = ap (λ (z : Cleaner). z.file_id) next.same in
    let e : c.from_residual-in_err-clean-in-Some.result ≡ Err c.in_err-clean-in-Some.field-0.0 =
    err-of _ _ c.from_residual-in_err-clean-in-Some.ensures in
    rw e (record {
      leaves = c.clean.ensures.leaves;
      cuts = tt;
      puts = some-err _ _ _ _ _ _ _ (cleaned-puts _ _ _ _ _ _ _ _ next
          (rw c.in_err-clean-in-Some.was at c.clean.ensures.puts));
      shorter = tt;
      left = tt;
      up = tt;
      none = tt;
      failed = c.clean.ensures.failed ∙ c.next_chunk.ensures.failed;
      why = rw c.in_err-clean-in-Some.was at c.clean.ensures.why;
      tells = tells-err _ _ _ _ _ (rw (c.in_err-clean-in-Some.was, file) at c.clean.ensures.tells);
      calls = c.clean.ensures.calls;
      group = c.clean.ensures.group;
    })

pub returns-in_ok-clean-in-Some-clause-leaves : goal.returns-in_ok-clean-in-Some-clause-leaves
returns-in_ok-clean-in-Some-clause-leaves g c = c.clean.ensures.leaves

pub returns-in_ok-clean-in-Some-clause-cuts : goal.returns-in_ok-clean-in-Some-clause-cuts
returns-in_ok-clean-in-Some-clause-cuts g c =
    let was : c.next_chunk.result ≡ Ok c.in_ok-next_chunk.field-0 = c.in_ok-next_chunk.was in
    cuts-one _ _ _ _ _ _ _ (rw (was, c.in-Some.is) at c.next_chunk.ensures.some)
    (rw (was, c.in-Some.is) at c.next_chunk.ensures.next) c.in_ok-clean-in-Some.ensures.cleans
    (rw c.in_ok-clean-in-Some.was at c.clean.ensures.puts) c.in_ok-clean-in-Some.ensures.same c.in_ok-clean-in-Some.ensures.counts

pub returns-in_ok-clean-in-Some-clause-puts : goal.returns-in_ok-clean-in-Some-clause-puts
returns-in_ok-clean-in-Some-clause-puts g c =
    let was : c.next_chunk.result ≡ Ok c.in_ok-next_chunk.field-0 = c.in_ok-next_chunk.was in
    let next = rw (was, c.in-Some.is) at c.next_chunk.ensures.next in
    some-any _ _ _ _ _ _ _ c.in_ok-clean-in-Some.ensures.cleans.failed
    (cleaned-puts _ _ _ _ _ _ _ _ next (rw c.in_ok-clean-in-Some.was at c.clean.ensures.puts))

pub returns-in_ok-clean-in-Some-clause-tells : goal.returns-in_ok-clean-in-Some-clause-tells
returns-in_ok-clean-in-Some-clause-tells g c =
    let was : c.next_chunk.result ≡ Ok c.in_ok-next_chunk.field-0 = c.in_ok-next_chunk.was in
    let next = rw (was, c.in-Some.is) at c.next_chunk.ensures.next in
    let file = ap (λ (z : Cleaner). z.file_id) next.same in
    tells-ok _ _ _ _ _ _ (rw (c.in_ok-clean-in-Some.was, file) at c.clean.ensures.tells)

pub returns-in_ok-clean-in-Some-clause-failed : goal.returns-in_ok-clean-in-Some-clause-failed
returns-in_ok-clean-in-Some-clause-failed g c = c.clean.ensures.failed ∙ c.next_chunk.ensures.failed

pub returns-in_ok-clean-in-Some-clause-calls : goal.returns-in_ok-clean-in-Some-clause-calls
returns-in_ok-clean-in-Some-clause-calls g c = c.clean.ensures.calls

pub returns-in_ok-clean-in-Some-clause-group : goal.returns-in_ok-clean-in-Some-clause-group
returns-in_ok-clean-in-Some-clause-group g c = c.clean.ensures.group
