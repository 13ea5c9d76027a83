use Rattle.std.proofs.Common.{◌≡◌, Err, inl, inr, refl, ◌∙◌, arith}
use Rattle.xet_base.proofs.CallerLemmas.{err-of}
use Rattle.xet_store.specs.declared.mem_store.StoreRefused.TheVariants as store_refused
use Rattle.xet_store.proofs.TermRefusals.{all_stored, bad_term, good_more, not_refused, stored_more, summed_more, too_long}
use Rattle.xet_store.proofs.mem_store.MemStore.find_all.Goals as goal

pub loop-term-init : goal.loop-term-init
loop-term-init c = record { terms = c.requires; good = refl; summed = refl }

pub returns-in_default : goal.returns-in_default
returns-in_default c = record {
  accepted = tt;
  terms = tt;
  refused = inr (bad_term c.args.self.now c.args.terms.now c.loop-term.term-index _ c.loop-term-test.true
      c.in_default.ensures);
}

pub returns-in_err-add : goal.returns-in_err-add
returns-in_err-add c =
    let e : c.from_residual.result ≡ Err store_refused.OutOfMemory = err-of _ _ c.from_residual.ensures in
    rw e (record { accepted = tt; terms = tt; refused = inl refl })

pub loop-term-preserved : goal.loop-term-preserved
loop-term-preserved c =
    let s = c.args.self.now in
    let ts = c.args.terms.now in
    let i = c.loop-term.term-index in
    let was = c.loop-term.invariant in
    let h = c.loop-term-test.true in
    record {
      terms = stored_more ts i _ _ _ h was.terms c.in_ok-add.ensures;
      good = good_more s ts i _ h was.good c.in-Some.ensures.0;
      summed = summed_more s ts i _ _ _ _ _ h was.summed (c.from.ensures ∙ c.in-Some.ensures.1)
          c.saturating_add-length.ensures;
    }

pub returns-then-length-from : goal.returns-then-length-from
returns-then-length-from c =
    let was = c.loop-term.invariant in
    let long = c.if-length-from.true in
    let top = c.from-2.ensures in
    record {
      accepted = tt;
      terms = tt;
      refused = inr (too_long c.args.self.now c.args.terms.now c.loop-term.term-index c.loop-term.length
          c.loop-term-test.false was.good was.summed (omega (arith, top, long)));
    }

pub returns : goal.returns
returns c =
    let was = c.loop-term.invariant in
    let past = c.loop-term-test.false in
    let short = c.if-length-from.false in
    let top = c.from-2.ensures in
    record {
      accepted = not_refused c.args.self.now c.args.terms.now c.loop-term.term-index c.loop-term.length past was.good
          was.summed (omega (arith, top, short));
      terms = all_stored c.args.self.now c.args.terms.now c.loop-term.term-index c.loop-term.length past was.good
          was.summed _ was.terms;
      refused = tt;
    }
