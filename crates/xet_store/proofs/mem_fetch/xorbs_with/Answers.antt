use Rattle.std.proofs.Common.{◌≡◌, []}
use Rattle.std.specs.Prelude.{All}
use Rattle.std.proofs.lemmas.List.Elements.{All-push}
use Rattle.xet_base.specs.declared.merklehash.MerkleHash.{MerkleHash}
use Rattle.xet_outside.specs.declared.plan.PlanXorb.{PlanXorb}
use Rattle.xet_store.proofs.UsedXorbs.{xorbs_more}
use Rattle.xet_store.proofs.mem_fetch.xorbs_with.Goals as goal

-- the default of a read
abbrev no_hash : MerkleHash
no_hash = record { 0 = [] }

pub loop-i-preserved : goal.loop-i-preserved
loop-i-preserved c =
    rw c.in_ok-push.ensures.ok record {
      shape = xorbs_more c.args.store.now c.args.terms.now c.args.used.now.hashes c.args.used.now.touched.items
          c.loop-i.xorbs c.keys-hash-items.result.now c.loop-i.i no_hash c.index.result.now c.in_ok-plan_xorb.field-0
          c.requires c.keys-hash-items.ensures c.loop-i-test.true c.index.ensures c.loop-i.invariant.shape
          c.in_ok-plan_xorb.ensures.shape;
      url = All-push (λ (x : PlanXorb). All (λ e. e.url ≡ c.args.url.now) x.fetch) c.loop-i.xorbs
          c.in_ok-plan_xorb.field-0 c.loop-i.invariant.url c.in_ok-plan_xorb.ensures.url;
    }
