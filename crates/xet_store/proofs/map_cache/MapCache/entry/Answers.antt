use Rattle.std.proofs.Common.{◌≡◌, Err, sym}
use Rattle.xet_base.proofs.CallerLemmas.{err-of}
use Rattle.xet_store.proofs.MapCaches.{copied_entry}
use Rattle.xet_store.proofs.map_cache.MapCache.entry.Goals as goal

pub returns-in_err-copy-in-Some : goal.returns-in_err-copy-in-Some
returns-in_err-copy-in-Some c =
    let e : c.from_residual.result ≡ Err c.in_err-copy-in-Some.field-0.0 = err-of _ _ c.from_residual.ensures in
    rw e tt

pub returns-in_ok-copy-in-Some : goal.returns-in_ok-copy-in-Some
returns-in_ok-copy-in-Some c =
    copied_entry c.args.self.now.entries c.as_slice.result.now c.in-Some.number c.index-as_slice-number.result
    c.in_ok-copy-in-Some.copy _ c.as_slice.ensures c.in-Some.ensures c.in_ok-copy-in-Some.ensures

pub returns-in-None : goal.returns-in-None
returns-in-None c = sym c.in-None.ensures
