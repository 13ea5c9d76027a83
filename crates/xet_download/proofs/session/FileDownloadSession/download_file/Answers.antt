use Rattle.std.proofs.Common.{rules, ◌≡◌, None, refl, ap, arith, length, map, sym}
use Rattle.std.specs.Vec.{with_items}
use Rattle.std.proofs.lemmas.List.{with_items_is}
use Rattle.xet_download.specs.Calls.{FileRun}
use Rattle.xet_download.specs.Downloads.{lent_by}
use Rattle.xet_download.specs.Telling.{job_of, told_by}
use Rattle.xet_download.proofs.Calling.{filed, went}
use Rattle.xet_download.proofs.session.FileDownloadSession.download_file.Goals as goal

pub returns : goal.returns
returns g c =
    let clients = g.C.Client.told in
    let cache = g.K.ChunkCache.told in
    let file = g.F.Sink.told in
    let b = told_by clients cache c.args.self.now in
    let held = c.download_file_background.new.self in
    let xs = c.as_mut_slice-clients.result.now in
    let ys = c.run.new.clients in
    let same : xs ≡ held.connections.clients.items = search rules in
    let few : length ys ≡ length xs = search rules in
    let size : length ys ≡ held.connections.clients.len = omega (arith, few, ap length same, held.connections.clients.ok.0) in
    let kept : (with_items held.connections.clients ys).items ≡ ys = with_items_is held.connections.clients ys size in
    let call = rw c.in_ok-id.was at c.download_file_background.ensures in
    filed b (told_by clients cache held) _ (file c.args.file.now) (file c.run.new.file) c.args.file_info.now
    (c.in_ok-id.id, job_of c.in_ok-id.job) _ call
    (went FileRun _ b (told_by clients cache held) _ (file c.args.file.now) (file c.run.new.file) c.args.file_info.now
    None (c.in_ok-id.id, job_of c.in_ok-id.job) call c.run.result _
    (lent_by (map clients xs) (cache held.connections.chunk_cache) (file c.args.file.now))
    (lent_by (map clients ys) (cache c.run.new.cache) (file c.run.new.file))
    (ap (λ zs. lent_by (map clients zs) (cache held.connections.chunk_cache) (file c.args.file.now)) same)
    (ap (λ zs. lent_by (map clients zs) (cache c.run.new.cache) (file c.run.new.file)) (sym kept))
    c.run.ensures refl c.with_item.ensures.count c.with_item.ensures.id)
