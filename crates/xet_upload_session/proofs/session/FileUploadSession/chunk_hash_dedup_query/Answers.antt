use Rattle.std.proofs.Common.{List, ap, refl, ◌≡◌}
use Rattle.std.specs.Prelude.{Err, Ok}
use Rattle.xet_base.specs.declared.merklehash.MerkleHash.{MerkleHash}
use Rattle.xet_upload.specs.declared.data_error.DataError.TheVariants as data_error
use Rattle.xet_shard_interface.specs.Interfaces.{shards_told}
use Rattle.xet_upload_session.specs.Telling.{told_by}
use Rattle.xet_base.proofs.CallerLemmas.{err-of}
use Rattle.xet_upload_session.proofs.Ends.{backs-kept, backs-same}
use Rattle.xet_upload_session.proofs.Queries.{order-unasked, queries-err, queries-none, queries-some, queries-unasked}
use Rattle.xet_upload_session.proofs.Tests.{has-listed, tested-storable}
use Rattle.xet_upload_session.proofs.session.FileUploadSession.chunk_hash_dedup_query.Goals as goal

pub returns-in_err-reserve : goal.returns-in_err-reserve
returns-in_err-reserve g c =
    let e : c.from_residual.result ≡ Err data_error.OutOfMemory = err-of _ _ c.from_residual.ensures in
    let same = ap (λ (hs : List MerkleHash). record (told_by c.args.self.now) { listed = hs }) c.in_err-reserve.ensures.same in
    rw e (record { call = queries-unasked _ _ _ same; order = order-unasked _ _ _ same; backs = backs-same _ _ same (has-listed _ c.args.self.now.lists c.args.self.now.waits); untold = refl; group = (refl, refl) })

pub returns-in_err-chunk_hash_dedup_query : goal.returns-in_err-chunk_hash_dedup_query
returns-in_err-chunk_hash_dedup_query g c =
    let e : c.from_residual-in_err-chunk_hash_dedup_query.result ≡ Err c.in_err-chunk_hash_dedup_query.field-0.0 =
    err-of _ _ c.from_residual-in_err-chunk_hash_dedup_query.ensures in
    let same = ap (λ (hs : List MerkleHash). record (told_by c.args.self.now) { shards = shards_told g.R.ShardStore.told c.chunk_hash_dedup_query.new.self; listed = hs }) c.in_ok-reserve.ensures.same in
    let searches = rw c.in_err-chunk_hash_dedup_query.was at c.chunk_hash_dedup_query.ensures in
    let call = queries-err (told_by c.args.self.now) _ _ same _ searches in
    rw e (record { call = call; order = searches.order; backs = backs-kept _ _ (has-listed _ c.args.self.now.lists c.args.self.now.waits) call.keeps call.listed (tested-storable _ c.args.self.now.waits); untold = refl; group = (refl, refl) })

pub returns-in-None : goal.returns-in-None
returns-in-None g c =
    let was : c.chunk_hash_dedup_query.result ≡ Ok c.in_ok-chunk_hash_dedup_query.field-0 = c.in_ok-chunk_hash_dedup_query.was in
    let same = ap (λ (hs : List MerkleHash). record (told_by c.args.self.now) { shards = shards_told g.R.ShardStore.told c.chunk_hash_dedup_query.new.self; listed = hs }) c.in_ok-reserve.ensures.same in
    let call = queries-none (told_by c.args.self.now) _ _ same (rw (was, c.in-None.is) at c.chunk_hash_dedup_query.ensures) in
    record { call = call; order = λ t. tt; backs = backs-kept _ _ (has-listed _ c.args.self.now.lists c.args.self.now.waits) call.keeps call.listed (tested-storable _ c.args.self.now.waits); untold = refl; group = (refl, refl) }

pub returns-in-Some : goal.returns-in-Some
returns-in-Some g c =
    let was : c.chunk_hash_dedup_query.result ≡ Ok c.in_ok-chunk_hash_dedup_query.field-0 = c.in_ok-chunk_hash_dedup_query.was in
    let same = ap (λ (hs : List MerkleHash). record (told_by c.args.self.now) { shards = shards_told g.R.ShardStore.told c.chunk_hash_dedup_query.new.self; listed = hs }) c.in_ok-reserve.ensures.same in
    let call = queries-some (told_by c.args.self.now) _ _ same _ _ (rw (was, c.in-Some.is) at c.chunk_hash_dedup_query.ensures) c.put_on_list.ensures.call in
    record { call = call; order = λ t. tt; backs = backs-kept _ _ (has-listed _ c.args.self.now.lists c.args.self.now.waits) call.keeps call.listed (tested-storable _ c.put_on_list.new.self.waits); untold = c.put_on_list.ensures.untold; group = c.put_on_list.ensures.group }
