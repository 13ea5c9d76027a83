use Rattle.std.proofs.Common.{◌≡◌, Err, inl, inr, refl, sym}
use Rattle.xet_base.proofs.CallerLemmas.{err-of}
use Rattle.xet_store.specs.declared.mem_store.StoreRefused.TheVariants as store_refused
use Rattle.xet_store.proofs.XorbRefusals.{added_accepted, left_refused, misfit_refused, store_added, store_left, valid_xorb}
use Rattle.xet_store.proofs.mem_store.MemStore.add_joined.Goals as goal

pub returns-in-Some : goal.returns-in-Some
returns-in-Some c = record {
  added = tt;
  accepted = tt;
  refused = inr (misfit_refused c.args.self.now c.args.xorb c.hash.result c.in-Some.refused c.taken_or.result
      c.hash.ensures c.in-Some.ensures c.taken_or.ensures);
  kept = refl;
}

pub of_joined-requires : goal.of_joined-requires
of_joined-requires c = valid_xorb c.args.xorb (sym c.in_default.ensures)

pub returns-in_err-stored : goal.returns-in_err-stored
returns-in_err-stored c =
    let e : c.from_residual.result ≡ Err store_refused.OutOfMemory = err-of _ _ c.from_residual.ensures in
    rw e (record { added = tt; accepted = tt; refused = inl refl; kept = refl })

pub keep_new-requires : goal.keep_new-requires
keep_new-requires c = rw c.in_ok-stored.ensures (valid_xorb c.args.xorb (sym c.in_default.ensures))

pub returns-in_err-keep_new : goal.returns-in_err-keep_new
returns-in_err-keep_new c =
    let e : c.from_residual-in_err-keep_new.result ≡ Err store_refused.OutOfMemory =
    err-of _ _ c.from_residual-in_err-keep_new.ensures in
    rw e (record { added = tt; accepted = tt; refused = inl refl; kept = c.in_err-keep_new.ensures.err })

pub returns-then-branch : goal.returns-then-branch
returns-then-branch c =
    let s = c.args.self.now in
    let x = c.args.xorb in
    let y = c.in_ok-stored.stored in
    let same = c.in_ok-stored.ensures in
    let added = c.in_ok-keep_new.ensures in
    let fits = c.in_default.ensures in
    record {
      added = store_added s x y c.in_ok-keep_new.field-0 same added.new fits c.keep_new.new.self c.if-branch.true
          added.store;
      accepted = added_accepted s x y c.in_ok-keep_new.field-0 same added.new fits c.if-branch.true;
      refused = tt;
      kept = tt;
    }

pub returns-else-branch : goal.returns-else-branch
returns-else-branch c =
    let s = c.args.self.now in
    let x = c.args.xorb in
    let y = c.in_ok-stored.stored in
    let same = c.in_ok-stored.ensures in
    let added = c.in_ok-keep_new.ensures in
    let fits = c.in_default.ensures in
    record {
      added = tt;
      accepted = tt;
      refused = inr (left_refused s x y c.in_ok-keep_new.field-0 same added.new fits c.if-branch.false);
      kept = store_left s x y c.in_ok-keep_new.field-0 same added.new fits c.keep_new.new.self c.if-branch.false
          added.store;
    }
