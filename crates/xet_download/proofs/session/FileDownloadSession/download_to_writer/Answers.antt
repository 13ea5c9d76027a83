use Rattle.std.proofs.Common.{rules, ◌≡◌, Err, refl, ap, arith, length, map, sym}
use Rattle.std.specs.Vec.{with_items}
use Rattle.std.proofs.lemmas.List.{with_items_is}
use Rattle.xet_download.specs.Bounds.{range_of}
use Rattle.xet_download.specs.Calls.{WriterRun}
use Rattle.xet_download.specs.Downloads.{lent_by}
use Rattle.xet_download.specs.Streams.{range_in}
use Rattle.xet_download.specs.Telling.{job_of, told_by}
use Rattle.xet_download.proofs.Calling.{unbegun, went, wrote}
use Rattle.xet_download.proofs.session.FileDownloadSession.download_to_writer.Goals as goal

pub returns-in_err-id : goal.returns-in_err-id
returns-in_err-id g c =
    let b = told_by g.C.Client.told g.K.ChunkCache.told c.args.self.now in
    let was : c.from_residual.result ≡ Err c.in_err-id.field-0.0 = search rules in
    unbegun b _ _ c.args.file_info.now (range_of c.args.source_range) _ c.in_err-id.field-0.0
    (rw (c.range_bounds_to_file_range-range.ensures, c.in_err-id.was) at c.open.ensures) was

pub returns : goal.returns
returns g c =
    let clients = g.C.Client.told in
    let cache = g.K.ChunkCache.told in
    let sink = g.S.Sink.told in
    let b = told_by clients cache c.args.self.now in
    let range = range_of c.args.source_range in
    let held = c.open.new.self in
    let xs = c.as_mut_slice-clients.result.now in
    let ys = c.run_to_writer.new.clients in
    let same : xs ≡ held.connections.clients.items = search rules in
    let few : length ys ≡ length xs = search rules in
    let size : length ys ≡ held.connections.clients.len = omega (arith, few, ap length same, held.connections.clients.ok.0) in
    let kept : (with_items held.connections.clients ys).items ≡ ys = with_items_is held.connections.clients ys size in
    let call = rw (c.range_bounds_to_file_range-range.ensures, c.in_ok-id.was) at c.open.ensures in
    wrote b (told_by clients cache held) _ (sink c.args.writer.now) (sink c.run_to_writer.new.writer)
    c.args.file_info.now range (c.in_ok-id.id, job_of c.in_ok-id.job) _ call
    (went WriterRun _ b (told_by clients cache held) _ (sink c.args.writer.now) (sink c.run_to_writer.new.writer)
    c.args.file_info.now (range_in range) (c.in_ok-id.id, job_of c.in_ok-id.job) call c.run_to_writer.result _
    (lent_by (map clients xs) (cache held.connections.chunk_cache) (sink c.args.writer.now))
    (lent_by (map clients ys) (cache c.run_to_writer.new.cache) (sink c.run_to_writer.new.writer))
    (ap (λ zs. lent_by (map clients zs) (cache held.connections.chunk_cache) (sink c.args.writer.now)) same)
    (ap (λ zs. lent_by (map clients zs) (cache c.run_to_writer.new.cache) (sink c.run_to_writer.new.writer)) (sym kept))
    c.run_to_writer.ensures refl c.with_item.ensures.count c.with_item.ensures.id)
