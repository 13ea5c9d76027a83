use Rattle.std.proofs.Common.{◌≡◌, ◌++◌, ◌∙◌, ap, arith, length, map, min, rules}
use Rattle.std.specs.Prelude.{All, reverse}
use denote.Param.{param}
use denote.Ref.{NamedLft}
use denote.Exit.{no, unseen}
use denote.Param.Send.{IsSend, Quiet-if, sendable, struct_send}
use denote.Struct.Struct.{Shape, Struct}
use denote.Struct.Declared.{shape}
use mir.Syntax.{named, of_param}
use Rattle.std.proofs.Crossing.{crosses}
use Rattle.xet_store.proofs.CallerLemmas.{client_log_send}
use Rattle.xet_connections.proofs.CallerLemmas.{mem_client_send}
use Rattle.xet_get_command.specs.contracts.tapped_client.TappedClient as tapped_client
use Rattle.xet_outside.specs.Told.{ClientTold}
use Rattle.xet_get_command.specs.declared.tapped_client.TappedClient.{TappedClient}
use Rattle.xet_get_command.specs.GetOptions.{lanes_of}
use Rattle.xet_get_command.specs.steps.OwnTaps.{behind_own}
use Rattle.xet_get_command.specs.steps.TapRuns.{IsNew}
use Rattle.xet_get_command.proofs.TapLanes.{behind_taps, unbehind}
use Rattle.xet_get_command.proofs.TapMoves.{take_front}
use Rattle.xet_get_command.proofs.connections.run_behind.Goals as goal

pub run_over-answer-requires-send-C : goal.run_over-answer-requires-send-C
run_over-answer-requires-send-C g c = λ κs h.
    let at : NamedLft = record { mir = named 5; lft = κs.1.1.1.1.1.1.1.1.0 } in
    let fields : Shape = shape (tapped_client.the_type at (param 1 g.row.T) g.T.Tap) in
    let s : IsSend (Struct fields) = struct_send fields
    (search (sendable, mem_client_send) depth 9, (c.type_bounds.send-T, (search (sendable, crosses) depth 9, (search (sendable, client_log_send) depth 9, tt)))) in
    record {
      owned = λ x vs. s.owned ((tapped_client.the_type at (param 1 g.row.T) g.T.Tap).to x) vs;
      leaving = λ k. Quiet-if (k (of_param 1)) _ unseen (λ x w. s.leaving no ((tapped_client.the_type at (param 1 g.row.T) g.T.Tap).to x) w) (λ x w. tt);
    }

pub returns-in-Err : goal.returns-in-Err
returns-in-Err g c =
    let kept : c.connect.new.taps.items ≡ c.args.taps.now.items = rw c.in-Err.is at c.connect.ensures.kept in
    rw kept (unbehind c.args.store.now c.args.wanted (map g.T.Tap.told c.args.taps.now.items) _ _)

pub returns : goal.returns
returns g c =
    let told = g.T.Tap.told in
    let tap : TappedClient g.row.T.Denot g.T.Tap → g.row.T.Denot = λ x. x.tap in
    let client : TappedClient g.row.T.Denot g.T.Tap → ClientTold = λ x. behind_own x.inner.store.now x.log (told x.start.value) (told x.tap) in
    let xs = c.as_mut_slice.result.now in
    let ys = c.run_over-answer.new.clients in
    let others = reverse c.connect.new.taps.items in
    let same : xs ≡ c.in-Ok.clients.items = search rules in
    let taps : map tap c.in-Ok.clients.items ++ others ≡ c.args.taps.now.items = rw c.in-Ok.is at c.connect.ensures.taps in
    let fresh : All (λ x. IsNew c.args.store.now (told (tap x)) (client x)) c.in-Ok.clients.items = rw c.in-Ok.is at c.connect.ensures.new in
    let lanes : length c.in-Ok.clients.items ≡ min (lanes_of c.args.wanted.options) 64 = (rw c.in-Ok.is at c.connect.ensures.count) ∙ search rules in
    let few : length ys ≡ length xs = search rules in
    let all : length xs ≡ length c.in-Ok.clients.items = ap length same in
    let size : length ys ≡ c.in-Ok.clients.len = omega (arith, few, all, c.in-Ok.clients.ok.0) in
    let back : c.hand_back.new.taps.items ≡ map tap ys ++ others = c.hand_back.ensures ∙ ap (λ zs. map tap zs ++ others) (take_front ys _ c.in-Ok.clients.len size) in
    rw back (behind_taps told tap (λ x. x.inner.store.now) (λ x. x.log) (λ x. told x.start.value) (λ x. x.given) (λ x. x.plans) (λ x. x.unexpired)
    c.honest_answers.ensures.pass c.args.store.now c.check_store.ensures c.args.wanted c.args.taps.now.items others xs ys _ _ _ _ c.run_over-answer.result
    (rw same taps) c.requires.count (rw same lanes) few (rw same fresh) c.run_over-answer.ensures.legal)
