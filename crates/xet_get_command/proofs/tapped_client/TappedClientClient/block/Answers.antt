use Rattle.std.proofs.Common.{refl}
use Rattle.xet_base.proofs.CallerLemmas.{err-of}
use Rattle.xet_connections.proofs.CallerLemmas.{given_block, honest_block}
use Rattle.xet_get_command.proofs.TapCalls.{block_handed, block_kept, block_refused}
use Rattle.xet_get_command.proofs.TapRuns.{unexpired_block}
use Rattle.xet_get_command.proofs.tapped_client.TappedClientClient.block.Goals as goal

pub invariant_of-self-2 : goal.invariant_of-self-2
invariant_of-self-2 g c =
    let s = c.args.self.now in
    let call = c.in_ok-block.ensures.call in
    record {
      given = given_block (g.T.Tap.told s.start.value) (g.T.Tap.told s.tap)
          (g.T.Tap.told c.pass.new.self) s.log c.and_block-self.result c.args.request.now c.in-Bytes.block
          c.in_ok-pass.field-0 c.and_block-self.ensures c.in_ok-pass.ensures s.given;
      plans = honest_block s.inner.store.now c.block.new.self.store.now s.log c.and_block-self.result c.args.request.now
          c.in_ok-pass.field-0 call.store c.and_block-self.ensures s.plans;
      unexpired = unexpired_block s.log c.and_block-self.result c.args.request.now c.in_ok-pass.field-0 c.and_block-self.ensures s.unexpired;
    }

pub returns-in_err-block : goal.returns-in_err-block
returns-in_err-block g c =
    let s = c.args.self.now in
    rw (err-of _ _ c.from_residual.ensures)
    (block_refused s.inner.store.now c.block.new.self.store.now c.block.ensures.store s.log (g.T.Tap.told s.start.value) (g.T.Tap.told s.tap) c.args.request.now _ c.in_err-block.ensures.error)

pub returns-in_default : goal.returns-in_default
returns-in_default g c = absurd (let a = c.in_ok-block.ensures.exact in let b = c.in_default.is in cc)

pub returns-in_err-pass : goal.returns-in_err-pass
returns-in_err-pass g c =
    let s = c.args.self.now in
    rw (err-of _ _ c.from_residual-in_err-pass.ensures)
    (block_kept s.inner.store.now c.block.new.self.store.now c.block.ensures.store s.log (g.T.Tap.told s.start.value) (g.T.Tap.told s.tap) c.args.request.now (g.T.Tap.told c.pass.new.self) c.in-Bytes.block _ (rw c.in_err-pass.was at c.pass.ensures))

pub returns : goal.returns
returns g c =
    let s = c.args.self.now in
    block_handed s.inner.store.now c.block.new.self.store.now c.block.ensures.store s.log (g.T.Tap.told s.start.value) (g.T.Tap.told s.tap) c.args.request.now (g.T.Tap.told c.pass.new.self) c.in-Bytes.block
    c.and_block-self.result c.in_ok-pass.field-0 c.and_block-self.ensures c.in_ok-pass.ensures (rw c.in-Bytes.is at (c.in_ok-block.ensures.call.honest s.inner.store.now refl))
