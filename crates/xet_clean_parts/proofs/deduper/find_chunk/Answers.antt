use Rattle.std.proofs.Common.{◌≡◌}
use Rattle.std.specs.Prelude.{Err, Ok}
use Rattle.xet_upload_session.specs.Telling.{told_by}
use Rattle.xet_base.proofs.CallerLemmas.{err-of}
use Rattle.xet_clean_parts.proofs.Cleaning.{chunk-tracks, leaves-both, leaves-refl}
use Rattle.xet_clean_parts.proofs.SessionCalls.{calls-search, calls-told, group-both}
use Rattle.xet_clean_parts.proofs.FileCalls.{tells-err, tells-late, tells-moved, tells-none, tells-ok}
use Rattle.xet_clean_parts.proofs.Finding.{fails-search, found-err, found-failed, found-none, found-some, found-told, queries-leaves, search-valid}
use Rattle.xet_clean_parts.proofs.deduper.find_chunk.Goals as goal

pub returns-in_err-chunk_hash_dedup_query : goal.returns-in_err-chunk_hash_dedup_query
returns-in_err-chunk_hash_dedup_query g c =
    let e : c.from_residual.result ≡ Err c.in_err-chunk_hash_dedup_query.field-0.0 =
    err-of _ _ c.from_residual.ensures in
    let call = rw (c.in_err-chunk_hash_dedup_query.was, c.as_slice.ensures) at c.chunk_hash_dedup_query.ensures.call in
    rw e (record {
      leaves = queries-leaves _ _ _ _ call c.chunk_hash_dedup_query.ensures.backs;
      found =
          found-err _ _ _ _ _ call;
      why = fails-search (told_by c.args.session.now) (told_by c.chunk_hash_dedup_query.new.self) _ call.why;
      tells = tells-none _ _ _ _ _ c.chunk_hash_dedup_query.ensures.untold
          (λ why q. search-valid
          (told_by c.args.session.now).shards (told_by c.chunk_hash_dedup_query.new.self).shards _ call.why why q);
      calls = λ now. calls-search now _ _ _ _ call;
      group = c.chunk_hash_dedup_query.ensures.group;
    })

pub returns-in-None : goal.returns-in-None
returns-in-None g c =
    let was : c.chunk_hash_dedup_query.result ≡ Ok c.in_ok-chunk_hash_dedup_query.field-0 =
    c.in_ok-chunk_hash_dedup_query.was in
    let call = rw (was, c.in-None.is, c.as_slice.ensures) at c.chunk_hash_dedup_query.ensures.call in
    record {
      leaves = queries-leaves _ _ _ _ call c.chunk_hash_dedup_query.ensures.backs;
      found =
          found-none _ _ _ call;
      why = tt;
      tells = tells-none _ _ _ _ _ c.chunk_hash_dedup_query.ensures.untold tt;
      calls = λ now. calls-search now _ _ _ _ call;
      group = c.chunk_hash_dedup_query.ensures.group;
    }

pub returns-in_err-tell_found-in-Some-clause-found : goal.returns-in_err-tell_found-in-Some-clause-found
returns-in_err-tell_found-in-Some-clause-found g c =
    let was : c.chunk_hash_dedup_query.result ≡ Ok c.in_ok-chunk_hash_dedup_query.field-0 =
    c.in_ok-chunk_hash_dedup_query.was in
    let call = rw (was, c.in-Some.is, c.as_slice.ensures) at c.chunk_hash_dedup_query.ensures.call in
    let e : c.from_residual-in_err-tell_found-in-Some.result ≡ Err c.in_err-tell_found-in-Some.field-0.0 =
    err-of _ _ c.from_residual-in_err-tell_found-in-Some.ensures in
    rw e (found-told _ _ _ _ _ c.tell_found.ensures.same (found-failed _ _ _ _ _
    (found-some _ _ _ c.in-Some.found call)))

pub returns-in_ok-tell_found-in-Some-clause-found : goal.returns-in_ok-tell_found-in-Some-clause-found
returns-in_ok-tell_found-in-Some-clause-found g c =
    let was : c.chunk_hash_dedup_query.result ≡ Ok c.in_ok-chunk_hash_dedup_query.field-0 =
    c.in_ok-chunk_hash_dedup_query.was in
    let call = rw (was, c.in-Some.is, c.as_slice.ensures) at c.chunk_hash_dedup_query.ensures.call in
    found-told _ _ _ _ _ c.tell_found.ensures.same (found-some _ _ _ c.in-Some.found call)

pub returns-in_err-tell_found-in-Some-clause-tells : goal.returns-in_err-tell_found-in-Some-clause-tells
returns-in_err-tell_found-in-Some-clause-tells g c =
    let e : c.from_residual-in_err-tell_found-in-Some.result ≡ Err c.in_err-tell_found-in-Some.field-0.0 =
    err-of _ _ c.from_residual-in_err-tell_found-in-Some.ensures in
    rw e (tells-moved _ _ _ _ _ _ c.chunk_hash_dedup_query.ensures.untold (tells-late _ _ _ _ _ _
    c.chunk_hash_dedup_query.ensures.call.keeps.finalized
    (tells-err _ _ _ _ _ (rw c.in_err-tell_found-in-Some.was at c.tell_found.ensures.tells))))

pub returns-in_ok-tell_found-in-Some-clause-tells : goal.returns-in_ok-tell_found-in-Some-clause-tells
returns-in_ok-tell_found-in-Some-clause-tells g c =
    tells-moved _ _ _ _ _ _ c.chunk_hash_dedup_query.ensures.untold (tells-late _ _ _ _ _ _
    c.chunk_hash_dedup_query.ensures.call.keeps.finalized
    (tells-ok _ _ _ _ _ _ (rw c.in_ok-tell_found-in-Some.was at c.tell_found.ensures.tells)))

pub returns-in_err-tell_found-in-Some-clause-why : goal.returns-in_err-tell_found-in-Some-clause-why
returns-in_err-tell_found-in-Some-clause-why g c =
    let e : c.from_residual-in_err-tell_found-in-Some.result ≡ Err c.in_err-tell_found-in-Some.field-0.0 =
    err-of _ _ c.from_residual-in_err-tell_found-in-Some.ensures in
    rw e (chunk-tracks (told_by c.args.session.now) (told_by c.tell_found.new.session) _
    (rw c.in_err-tell_found-in-Some.was at c.tell_found.ensures.why))

pub returns-in_err-tell_found-in-Some-clause-calls : goal.returns-in_err-tell_found-in-Some-clause-calls
returns-in_err-tell_found-in-Some-clause-calls g c = λ now. calls-told now _ _ _ c.tell_found.ensures.same
    (calls-search now _ _ _ _ c.chunk_hash_dedup_query.ensures.call)

pub returns-in_ok-tell_found-in-Some-clause-calls : goal.returns-in_ok-tell_found-in-Some-clause-calls
returns-in_ok-tell_found-in-Some-clause-calls g c = λ now. calls-told now _ _ _ c.tell_found.ensures.same
    (calls-search now _ _ _ _ c.chunk_hash_dedup_query.ensures.call)

pub returns-in_err-tell_found-in-Some-clause-group : goal.returns-in_err-tell_found-in-Some-clause-group
returns-in_err-tell_found-in-Some-clause-group g c =
    group-both c.chunk_hash_dedup_query.ensures.group c.tell_found.ensures.group

pub returns-in_ok-tell_found-in-Some-clause-group : goal.returns-in_ok-tell_found-in-Some-clause-group
returns-in_ok-tell_found-in-Some-clause-group g c =
    group-both c.chunk_hash_dedup_query.ensures.group c.tell_found.ensures.group

pub returns-in_err-tell_found-in-Some-clause-leaves : goal.returns-in_err-tell_found-in-Some-clause-leaves
returns-in_err-tell_found-in-Some-clause-leaves g c =
    leaves-both _ _ _ (queries-leaves _ _ _ _ c.chunk_hash_dedup_query.ensures.call
    c.chunk_hash_dedup_query.ensures.backs) (leaves-refl _ _ c.tell_found.ensures.same)

pub returns-in_ok-tell_found-in-Some-clause-leaves : goal.returns-in_ok-tell_found-in-Some-clause-leaves
returns-in_ok-tell_found-in-Some-clause-leaves g c =
    leaves-both _ _ _ (queries-leaves _ _ _ _ c.chunk_hash_dedup_query.ensures.call
    c.chunk_hash_dedup_query.ensures.backs) (leaves-refl _ _ c.tell_found.ensures.same)
