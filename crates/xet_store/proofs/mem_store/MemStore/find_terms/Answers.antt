use Rattle.std.proofs.Common.{◌≡◌, Err, inl, refl}
use Rattle.xet_base.proofs.CallerLemmas.{err-of}
use Rattle.xet_store.specs.declared.mem_store.StoreRefused.TheVariants as store_refused
use Rattle.xet_store.proofs.mem_store.MemStore.find_terms.Goals as goal

pub returns-in_err-found : goal.returns-in_err-found
returns-in_err-found c =
    let e : c.from_residual.result ≡ Err store_refused.OutOfMemory = err-of _ _ c.from_residual.ensures in
    rw e (record { accepted = tt; terms = tt; refused = inl refl })

pub returns-in_err-find_all : goal.returns-in_err-find_all
returns-in_err-find_all c =
    let e : c.from_residual-in_err-find_all.result ≡ Err c.in_err-find_all.field-0.0 =
    err-of _ _ c.from_residual-in_err-find_all.ensures in
    rw e (record { accepted = tt; terms = tt; refused = c.in_err-find_all.ensures.refused })

pub returns : goal.returns
returns c = record {
  accepted = c.in_ok-find_all.ensures.accepted;
  terms = c.in_ok-find_all.ensures.terms;
  refused = tt;
}
