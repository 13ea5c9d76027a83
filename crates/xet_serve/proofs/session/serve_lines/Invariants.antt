use Rattle.std.proofs.Common.{◌+◌, ◌-◌, ◌*◌, length, map}
use Rattle.xet_serve_lines.specs.Lines.{session_limit}
use Rattle.xet_serve.specs.steps.Turning.{Standing}
use Rattle.xet_serve.proofs.session.serve_lines.Given as goal

abbrev pub invariant-turns : goal.invariant-turns
invariant-turns g l =
    Standing l.config.tries
    (record {
      source = g.I.Source.told l.fn.input;
      sink = g.O.Sink.told l.fn.out;
      clients = map g.C.Client.told l.fn.clients;
      cache = g.K.ChunkCache.told l.fn.cache;
    })
    (record {
      source = g.I.Source.told l.input;
      sink = g.O.Sink.told l.out;
      clients = map g.C.Client.told l.clients;
      cache = g.K.ChunkCache.told l.cache;
    }) l.lines l.count

abbrev pub decreases-turns : goal.decreases-turns
decreases-turns g l = 2 * (session_limit + 1 - l.lines.read) + length l.lines.pending
