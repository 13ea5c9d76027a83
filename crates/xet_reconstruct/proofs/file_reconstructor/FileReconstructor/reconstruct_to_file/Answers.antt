use Rattle.std.proofs.Common.{None, Some}
use Rattle.xet_ties.specs.Setup.{setup_of}
use Rattle.xet_ties.proofs.CallerLemmas.{refused_is}
use Rattle.xet_reconstruct.specs.Ran.{limit_of}
use Rattle.xet_reconstruct.specs.Lent.{lent_of}
use Rattle.xet_reconstruct.specs.ToFile.{place_for}
use Rattle.xet_reconstruct.proofs.ToFiles.{ready_file, refused_file, unready_file}
use Rattle.xet_reconstruct.proofs.file_reconstructor.FileReconstructor.reconstruct_to_file.Goals as goal

pub returns-in-Some : goal.returns-in-Some
returns-in-Some g c =
    let a = c.args in
    let s = a.self in
    let b = lent_of g.C.Client.told g.K.ChunkCache.told g.X.CancelSignal.told g.F.Sink.told a.clients.now a.cache.now
    a.cancel.now a.file.now in
    let e = c.in-Some.setting in
    let fails = refused_is g.C.Client.told (setup_of s.file_hash s.byte_range s.config) a.clients.now (Some e)
    c.in-Some.ensures in
    refused_file (limit_of s.book s.config) (setup_of s.file_hash s.byte_range s.config) a.truncate_file
    (place_for a.write_offset s.byte_range) b e fails

pub returns-in-Ok : goal.returns-in-Ok
returns-in-Ok g c =
    let a = c.args in
    let s = a.self in
    let n = c.reconstruct_to_writer.new in
    let b = lent_of g.C.Client.told g.K.ChunkCache.told g.X.CancelSignal.told g.F.Sink.told a.clients.now a.cache.now
    a.cancel.now a.file.now in
    let after = lent_of g.C.Client.told g.K.ChunkCache.told g.X.CancelSignal.told g.F.Sink.told n.clients n.cache
    n.cancel n.writer in
    let met = refused_is g.C.Client.told (setup_of s.file_hash s.byte_range s.config) a.clients.now None
    c.in-None.ensures in
    ready_file (limit_of s.book s.config) (setup_of s.file_hash s.byte_range s.config) a.truncate_file
    (place_for a.write_offset s.byte_range) c.unwrap_or-place.result b after (g.F.Sink.told c.make_ready.new.file)
    c.reconstruct_to_writer.result c.unwrap_or-place.ensures met c.in-Ok.ensures c.reconstruct_to_writer.ensures.legal
    c.reconstruct_to_writer.ensures.ran

pub returns-in-Err : goal.returns-in-Err
returns-in-Err g c =
    let a = c.args in
    let s = a.self in
    let b = lent_of g.C.Client.told g.K.ChunkCache.told g.X.CancelSignal.told g.F.Sink.told a.clients.now a.cache.now
    a.cancel.now a.file.now in
    let met = refused_is g.C.Client.told (setup_of s.file_hash s.byte_range s.config) a.clients.now None
    c.in-None.ensures in
    unready_file (limit_of s.book s.config) (setup_of s.file_hash s.byte_range s.config) a.truncate_file
    (place_for a.write_offset s.byte_range) c.unwrap_or-place.result b (g.F.Sink.told c.make_ready.new.file)
    c.in-Err.error met c.in-Err.ensures
