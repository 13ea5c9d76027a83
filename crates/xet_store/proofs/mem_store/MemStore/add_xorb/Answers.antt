use Rattle.std.proofs.Common.{◌≡◌, ◌∙◌, ◌++◌, ◌∷◌, [], Err, ap, inl, inr, refl, sym}
use Rattle.xet_base.proofs.CallerLemmas.{err-of}
use Rattle.xet_store.specs.declared.mem_store.StoreRefused.TheVariants as store_refused
use Rattle.xet_base.specs.declared.mdb_shard.Xorb.{Xorb}
use Rattle.xet_base.specs.Store.{Store, xorb_of}
use Rattle.xet_store.proofs.XorbRefusals.{not_refused, valid_xorb}
use Rattle.xet_store.proofs.mem_store.MemStore.add_xorb.Goals as goal

pub returns-in-Some : goal.returns-in-Some
returns-in-Some c = record { added = tt; accepted = tt; refused = inr (sym c.in-Some.ensures); kept = refl }

pub new-requires : goal.new-requires
new-requires c = valid_xorb c.args.xorb (not_refused c.args.self.now c.args.xorb c.in_default.ensures).1

pub returns-in_err-stored : goal.returns-in_err-stored
returns-in_err-stored c =
    let e : c.from_residual.result ≡ Err store_refused.OutOfMemory = err-of _ _ c.from_residual.ensures in
    rw e (record { added = tt; accepted = tt; refused = inl refl; kept = refl })

pub keep_xorb-requires-clause-new : goal.keep_xorb-requires-clause-new
keep_xorb-requires-clause-new c =
    let s = c.args.self.now in
    ap (λ (x : Xorb). xorb_of s x.hash) c.in_ok-stored.ensures
    ∙ (not_refused s c.args.xorb c.in_default.ensures).0

pub keep_xorb-requires-clause-valid : goal.keep_xorb-requires-clause-valid
keep_xorb-requires-clause-valid c =
    rw c.in_ok-stored.ensures (valid_xorb c.args.xorb (not_refused c.args.self.now c.args.xorb c.in_default.ensures).1)

pub returns-in_err-keep_xorb : goal.returns-in_err-keep_xorb
returns-in_err-keep_xorb c =
    let e : c.from_residual-in_err-keep_xorb.result ≡ Err store_refused.OutOfMemory =
    err-of _ _ c.from_residual-in_err-keep_xorb.ensures in
    rw e (record { added = tt; accepted = tt; refused = inl refl; kept = c.in_err-keep_xorb.ensures.err })

pub returns : goal.returns
returns c =
    let s = c.args.self.now in
    record {
      added = c.in_ok-keep_xorb.ensures.ok
          ∙ ap (λ (x : Xorb). let t : Store = record s { xorbs = s.xorbs ++ x ∷ [] } in t) c.in_ok-stored.ensures;
      accepted = sym c.in_default.ensures;
      refused = tt;
      kept = tt;
    }
