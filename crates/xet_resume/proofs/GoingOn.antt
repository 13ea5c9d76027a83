-- What goes on through parts: what is told, and counts that don't fall.
use Rattle.std.proofs.Common.{◌≡◌, ℕ, suc, ◌+◌, ◌-◌, ◌^◌, ◌≤◌, min, List, [], ◌∷◌, length, Option, None, Some, Ok, Err, Result, refl, sym}
use Rattle.std.proofs.Common.{ap, subst, ◌∙◌, ⊎_elim, arith}
use Rattle.xet_base.specs.declared.cas_types.FileRange.{FileRange}
use Rattle.xet_base.specs.declared.merklehash.MerkleHash.{MerkleHash}
use Rattle.xet_base.specs.Store.{Store}
use Rattle.xet_outside.specs.Places.{before_place}
use Rattle.xet_outside.specs.Told.{CacheTold, ClientTold, SignalTold}
use Rattle.xet_error.specs.declared.error.FileReconstructionError.{FileReconstructionError}
use Rattle.xet_terms.specs.declared.reconstruction_config.ReconstructionConfig.{ReconstructionConfig}
use Rattle.xet_ties.specs.LegalWords.{CacheGoesOn, SignalGoesOn}
use Rattle.xet_ties.specs.Setup.{AllTell, EachGoesOn, IsOver, RunTold}
use Rattle.xet_ties.specs.Ties.{Reaches}
use Rattle.xet_resume.specs.Fetches.{GoesOn}
use Rattle.xet_resume.specs.Fills.{IsUnplaced, PartRun}

-- ---- connections

each_start : (cs : List ClientTold) → EachGoesOn cs cs
each_start [] = tt
each_start (c ∷ cs) = (
  record { store = refl; link = refl; faults = omega arith; expiries = omega arith },
  each_start cs,
)

each_both : (bs ms ns : List ClientTold) → EachGoesOn bs ms → EachGoesOn ms ns → EachGoesOn bs ns
each_both [] [] [] a b = tt
each_both [] [] (n ∷ ns) a b = absurd b
each_both [] (m ∷ ms) ns a b = absurd a
each_both (c ∷ bs) [] ns a b = absurd a
each_both (c ∷ bs) (m ∷ ms) [] a b = absurd b
each_both (c ∷ bs) (m ∷ ms) (n ∷ ns) a b =
    let f = a.0.faults in
    let g = b.0.faults in
    let x = a.0.expiries in
    let y = b.0.expiries in (
      record {
        store = b.0.store ∙ a.0.store;
        link = b.0.link ∙ a.0.link;
        faults = omega (arith, f, g);
        expiries = omega (arith, x, y);
      },
      each_both bs ms ns a.1 b.1,
    )

pub same_count : (bs ns : List ClientTold) → EachGoesOn bs ns → length ns ≡ length bs
same_count [] [] a = refl
same_count [] (n ∷ ns) a = absurd a
same_count (c ∷ bs) [] a = absurd a
same_count (c ∷ bs) (n ∷ ns) a = ap suc (same_count bs ns a.1)

still_tell : (s : Store) (bs ns : List ClientTold) → EachGoesOn bs ns → AllTell s bs → AllTell s ns
still_tell s [] [] a t = tt
still_tell s [] (n ∷ ns) a t = absurd a
still_tell s (c ∷ bs) [] a t = absurd a
still_tell s (c ∷ bs) (n ∷ ns) a t = (a.0.store ∙ t.0, still_tell s bs ns a.1 t.1)

pub still_over : (s : Store) (bs ns : List ClientTold) → EachGoesOn bs ns → IsOver s bs → IsOver s ns
still_over s bs ns a o = record { tell = still_tell s bs ns a o.tell; valid = o.valid }

-- ---- counts

reaches_start : (o : Option ℕ) → Reaches o o 0
reaches_start None = tt
reaches_start (Some k) = omega arith

reaches_both : (b m n : Option ℕ) → Reaches b m 0 → Reaches m n 0 → Reaches b n 0
reaches_both None m n f g = tt
reaches_both (Some k) None n f g = absurd f
reaches_both (Some k) (Some j) None f g = absurd g
reaches_both (Some k) (Some j) (Some i) f g = omega (arith, f, g)

signal_both : (b m n : SignalTold) → SignalGoesOn b m → SignalGoesOn m n → SignalGoesOn b n
signal_both b m n f g =
    let x = f.yes in
    let y = g.yes in
    record { asks = reaches_both b.asks m.asks n.asks f.asks g.asks; yes = omega (arith, x, y) }

cache_both : (b m n : CacheTold) → CacheGoesOn b m → CacheGoesOn m n → CacheGoesOn b n
cache_both b m n f g =
    let x = f.faults in
    let y = g.faults in
    record { offers = reaches_both b.offers m.offers n.offers f.offers g.offers; faults = omega (arith, x, y) }

-- ---- all

pub goes_start : (b : RunTold) → GoesOn b b
goes_start b = record {
  goes_on = each_start b.clients;
  cache_later = λ s o c. c;
  signal_later = record { asks = reaches_start b.signal.asks; yes = omega arith };
  counts_later = record { offers = reaches_start b.cache.offers; faults = omega arith };
  sink_later = omega arith;
  link = refl;
}

pub goes_both : (b m n : RunTold) → GoesOn b m → GoesOn m n → GoesOn b n
goes_both b m n f g =
    let x = f.sink_later in
    let y = g.sink_later in
    record {
      goes_on = each_both b.clients m.clients n.clients f.goes_on g.goes_on;
      cache_later = λ s o c.
          g.cache_later s (still_over s b.clients m.clients f.goes_on o) (f.cache_later s o c);
      signal_later = signal_both b.signal m.signal n.signal f.signal_later g.signal_later;
      counts_later = cache_both b.cache m.cache n.cache f.counts_later g.counts_later;
      sink_later = omega (arith, x, y);
      link = g.link ∙ f.link;
    }

pub goes_run : (config : ReconstructionConfig) (file : MerkleHash) (part : FileRange) (b n : RunTold) (count : ℕ)
    (answer : Result ℕ FileReconstructionError) → PartRun config file part b n count answer → GoesOn b n
goes_run config file part b n count answer r =
    let l = r.legal.later in
    let x = r.placed.faults in
    let y = l.sink_later in
    record {
      goes_on = l.goes_on;
      cache_later = l.cache_later;
      signal_later = l.signal_later;
      counts_later = l.counts_later;
      sink_later = omega (arith, x, y);
      link = ap before_place l.link ∙ r.placed.same;
    }

pub goes_unplaced : (part : FileRange) (b n : RunTold) (e : FileReconstructionError) → IsUnplaced part b n e → GoesOn b n
goes_unplaced part b n e u = subst (λ (t : RunTold). GoesOn b t) (sym u.rest) (record {
  goes_on = each_start b.clients;
  cache_later = λ s o c. c;
  signal_later = record { asks = reaches_start b.signal.asks; yes = omega arith };
  counts_later = record { offers = reaches_start b.cache.offers; faults = omega arith };
  sink_later = u.call.faults;
  link = u.call.same;
})
