use Rattle.std.proofs.Common.{◌≡◌, ap, rules, sym}
use Rattle.xet_outside.specs.Told.{ClientTold}
use Rattle.xet_get_command.specs.declared.tapped_client.TappedClient.{TappedClient}
use Rattle.xet_get_command.specs.steps.OwnTaps.{behind_own}
use Rattle.xet_get_command.specs.steps.TapRuns.{IsNew}
use Rattle.xet_get_command.proofs.TapMoves.{each_left, is_new, one_left}
use Rattle.xet_get_command.proofs.connections.connect.Goals as goal

pub taken-preserved : goal.taken-preserved
taken-preserved g c =
    let told = g.T.Tap.told in
    let client : TappedClient g.row.T.Denot g.T.Tap → ClientTold = λ x. behind_own x.inner.store.now x.log (told x.start.value) (told x.tap) in
    let x = c.new-in-taken.result in
    let i = c.taken.invariant in
    let mine : c.new.result.store.now ≡ c.args.store.now = search rules in
    record {
      room = search rules;
      few = search rules;
      all = search rules;
      capacity = search rules;
      joined = one_left (λ (y : TappedClient g.row.T.Denot g.T.Tap). y.tap) _ _ _ _ x c.in-Some.tap _ c.in-Some.ensures.items c.push_reserved.ensures.items c.new-in-taken.ensures.tap i.joined;
      new = each_left (λ (y : TappedClient g.row.T.Denot g.T.Tap). IsNew c.args.store.now (told y.tap) (client y)) _ _ x c.push_reserved.ensures.items
          (is_new c.args.store.now c.new.result.store.now (told x.tap) (told c.in-Some.tap) (client x) c.new-in-taken.ensures.told mine (ap told (sym c.new-in-taken.ensures.tap))) i.new;
    }
