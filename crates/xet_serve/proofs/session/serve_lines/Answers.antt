use Rattle.std.proofs.Common.{◌≡◌, arith, map, subst, sym}
use Rattle.std.specs.Prelude.{Err}
use Rattle.xet_base.proofs.CallerLemmas.{err-of}
use Rattle.xet_serve_lines.specs.Reading.{Held}
use Rattle.xet_serve.specs.Sessions.{SessionTold, any_setup}
use Rattle.xet_serve.specs.steps.Turning.{Standing}
use Rattle.xet_serve.proofs.Ranges.{settings_stay}
use Rattle.xet_serve.proofs.Sessions.{last_few, session_ended, session_failed, session_quit}
use Rattle.xet_serve.proofs.Standings.{count_fits, standing_answered, standing_start}
use Rattle.xet_serve.proofs.session.serve_lines.Goals as goal

pub turns-init : goal.turns-init
turns-init g c =
    let b : SessionTold = record {
      source = g.I.Source.told c.args.input.now;
      sink = g.O.Sink.told c.args.out.now;
      clients = map g.C.Client.told c.args.clients.now;
      cache = g.K.ChunkCache.told c.args.cache.now;
    } in
    subst (λ (h : Held). Standing c.args.config.now.tries b b h 0) (sym c.requires.new)
    (standing_start c.args.config.now.tries b)

pub take_turn-requires-clause-settings : goal.take_turn-requires-clause-settings
take_turn-requires-clause-settings g c κs within =
    settings_stay (any_setup c.args.config.now) _ _ c.turns.invariant.goes_on.clients c.requires.settings

pub take_turn-requires-clause-within : goal.take_turn-requires-clause-within
take_turn-requires-clause-within g c κs within = c.turns.invariant.within

pub returns-in_err-take_turn : goal.returns-in_err-take_turn
returns-in_err-take_turn g c =
    let e : c.from_residual.result ≡ Err c.in_err-take_turn.field-0.0 = err-of _ _ c.from_residual.ensures in
    let t = rw c.in_err-take_turn.was at c.take_turn.ensures in
    rw e (session_failed c.args.config.now _ _ _ c.turns.lines c.take_turn.new.lines c.turns.count c.turns.invariant t.goes_on
    c.requires.settings _ t.did)

pub overflow_add-count : goal.overflow_add-count
overflow_add-count g c =
    let few = count_fits _ _ _ _ _ c.turns.invariant in
    let most = c.turns.invariant.within in
    omega (arith, few, most)

pub turns-preserved : goal.turns-preserved
turns-preserved g c =
    let t = rw (c.in_ok-take_turn.was, c.in-Answered.is) at c.take_turn.ensures in
    standing_answered c.args.config.now.tries _ _ _ c.turns.lines c.take_turn.new.lines c.turns.count c.turns.invariant t.goes_on
    t.did.0 t.did.1

pub overflow_add-result : goal.overflow_add-result
overflow_add-result g c =
    let few = count_fits _ _ _ _ _ c.turns.invariant in
    let most = c.turns.invariant.within in
    omega (arith, few, most)

pub returns-in-Quit : goal.returns-in-Quit
returns-in-Quit g c =
    let t = rw (c.in_ok-take_turn.was, c.in-Quit.is) at c.take_turn.ensures in
    session_quit c.args.config.now _ _ _ c.turns.lines c.take_turn.new.lines c.turns.count c.turns.invariant t.goes_on
    c.requires.settings t.did.0 t.did.1 t.did.2

pub overflow_add-result-in-Last : goal.overflow_add-result-in-Last
overflow_add-result-in-Last g c =
    let few = count_fits _ _ _ _ _ c.turns.invariant in
    let most = c.turns.invariant.within in
    let t = rw (c.in_ok-take_turn.was, c.in-Last.is) at c.take_turn.ensures in
    let one = last_few _ _ _ _ _ t.did in
    omega (arith, few, most, one)

pub returns-in-Last : goal.returns-in-Last
returns-in-Last g c =
    let t = rw (c.in_ok-take_turn.was, c.in-Last.is) at c.take_turn.ensures in
    session_ended c.args.config.now _ _ _ c.turns.lines c.take_turn.new.lines c.turns.count c.turns.invariant t.goes_on
    c.requires.settings c.in-Last.last t.did
