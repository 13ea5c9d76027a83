-- What lasts from one moment of a step to a later one.
use Rattle.std.proofs.Common.{◌≡◌, ℕ, ◌+◌, List, [], ◌∷◌, ◌++◌, refl, sym, subst, ◌∙◌, arith, zero, suc, Some}
use Rattle.std.specs.Prelude.{slice_get, slice_set}
use Rattle.std.proofs.lemmas.List.Elements.{All-append, All-cons, All-nil}
use Rattle.xet_base.specs.declared.cas_types.FileRange.{FileRange}
use Rattle.xet_base.specs.Store.{Store}
use Rattle.xet_outside.specs.Told.{CacheTold, ClientTold}
use Rattle.xet_events.specs.declared.event.Event.{Event}
use Rattle.xet_events.specs.Events.{Task, planned}
use Rattle.xet_events.proofs.CallerLemmas.{flat-push}
use Rattle.xet_history.specs.Queries.{CutFrom}
use Rattle.xet_history.specs.TrueHistory.{Download, IsTrueEvent, IsTrueHistory, queries, queries_in}
use Rattle.xet_ties.specs.Setup.{AllTell, CacheTells, ClientGoesOn, EachGoesOn, IsOver, RunTold, Setup, download_of}
use Rattle.xet_ties.specs.Ties.{FirstStarts}
use Rattle.xet_stream_rules.specs.Streams.{TellsAs}
use Rattle.xet_stream_rules.specs.Moments.{At, Goes, Lasts, at}
use Rattle.xet_stream_rules.proofs.Staying.{IsStill, still_planned, still_queries}

-- ---- connections

pub goes_same : (c : ClientTold) → ClientGoesOn c c
goes_same c = record { store = refl; link = refl; faults = omega arith; expiries = omega arith }

pub goes_then : (b m n : ClientTold) → ClientGoesOn b m → ClientGoesOn m n → ClientGoesOn b n
goes_then b m n p q = record {
  store = q.store ∙ p.store;
  link = q.link ∙ p.link;
  faults = (let x = p.faults in let y = q.faults in omega (arith, x, y));
  expiries = (let x = p.expiries in let y = q.expiries in omega (arith, x, y));
}

pub each_same : (cs : List ClientTold) → EachGoesOn cs cs
each_same [] = tt
each_same (c ∷ cs) = (goes_same c, each_same cs)

pub each_then : (cs ds es : List ClientTold) → EachGoesOn cs ds → EachGoesOn ds es → EachGoesOn cs es
each_then [] [] [] p q = tt
each_then [] [] (e ∷ es) p q = q
each_then [] (d ∷ ds) es p q = absurd p
each_then (c ∷ cs) [] es p q = absurd p
each_then (c ∷ cs) (d ∷ ds) [] p q = absurd q
each_then (c ∷ cs) (d ∷ ds) (e ∷ es) p q = (goes_then c d e p.0 q.0, each_then cs ds es p.1 q.1)

-- one of them went on
pub set_goes : (cs : List ClientTold) (lane : ℕ) (c d : ClientTold) → slice_get cs lane ≡ Some c → ClientGoesOn c d
    → EachGoesOn cs (slice_set cs lane d)
set_goes [] lane c d at g = absurd (cc)
set_goes (x ∷ xs) zero c d at g = let e : x ≡ c = cc in (subst (λ (z : ClientTold). ClientGoesOn z d) (sym e) g, each_same xs)
set_goes (x ∷ xs) (suc n) c d at g = (goes_same x, set_goes xs n c d at g)

pub all_tell : (s : Store) (cs ds : List ClientTold) → EachGoesOn cs ds → AllTell s cs → AllTell s ds
all_tell s [] [] g t = tt
all_tell s [] (d ∷ ds) g t = absurd g
all_tell s (c ∷ cs) [] g t = absurd g
all_tell s (c ∷ cs) (d ∷ ds) g t = (g.0.store ∙ t.0, all_tell s cs ds g.1 t.1)

pub over_on : (s : Store) (cs ds : List ClientTold) → EachGoesOn cs ds → IsOver s cs → IsOver s ds
over_on s cs ds g o = record { tell = all_tell s cs ds g o.tell; valid = o.valid }

-- connections that go on, and a cache that goes on telling, tell what was told
pub tells_on : (b : RunTold) (cs ds : List ClientTold) (k l : CacheTold) → EachGoesOn cs ds
    → ((s : Store) → IsOver s b.clients → IsOver s cs → CacheTells s k → CacheTells s l)
    → TellsAs b cs k → TellsAs b ds l
tells_on b cs ds k l g c t = record {
  clients = λ s o. over_on s cs ds g (t.clients s o);
  cache = λ s o h. c s o (t.clients s o) (t.cache s o h);
}

-- ---- events

-- an event without a query leaves a true history true
pub true_still : (s : Store) (d : Download) (es : List Event) (e : Event) → IsStill e
    → IsTrueEvent s d.file d.multirange e → IsTrueHistory s d es → IsTrueHistory s d (es ++ e ∷ [])
true_still s d es e still h t = record {
  cuts = subst (λ (qs : List FileRange). CutFrom d.range.start d.range.end (d.greatest + d.least) qs)
      (sym (still_queries es e still)) t.cuts;
  plans = All-append (IsTrueEvent s d.file d.multirange) es (e ∷ []) t.plans
      (All-cons (IsTrueEvent s d.file d.multirange) e [] h (All-nil (IsTrueEvent s d.file d.multirange)));
}

-- one with a query, where the queries go on cutting the range
pub true_more : (s : Store) (d : Download) (es : List Event) (e : Event)
    → CutFrom d.range.start d.range.end (d.greatest + d.least) (queries es ++ queries_in e)
    → IsTrueEvent s d.file d.multirange e → IsTrueHistory s d es → IsTrueHistory s d (es ++ e ∷ [])
true_more s d es e cuts h t = record {
  cuts = subst (λ (qs : List FileRange). CutFrom d.range.start d.range.end (d.greatest + d.least) qs)
      (sym (flat-push queries_in es e)) cuts;
  plans = All-append (IsTrueEvent s d.file d.multirange) es (e ∷ []) t.plans
      (All-cons (IsTrueEvent s d.file d.multirange) e [] h (All-nil (IsTrueEvent s d.file d.multirange)));
}

pub starts_still : (place : ℕ) (es : List Event) (e : Event) → IsStill e → FirstStarts place (planned es)
    → FirstStarts place (planned (es ++ e ∷ []))
starts_still place es e still h = subst (λ (ts : List Task). FirstStarts place ts) (sym (still_planned es e still)) h

-- ---- moments

pub lasts_then : (g : Setup) (x y z : At) → Lasts g x y → Lasts g y z → Lasts g x z
lasts_then g x y z p q = record {
  goes_on = each_then x.clients y.clients z.clients p.goes_on q.goes_on;
  tells = λ b t. q.tells b (p.tells b t);
  true_of = λ s o h. q.true_of s (over_on s x.clients y.clients p.goes_on o) (p.true_of s o h);
  starts = λ h. q.starts (p.starts h);
}

pub goes_both : (g : Setup) (x y z : At) → Goes g x y → Goes g y z → Goes g x z
goes_both g x y z p q = record {
  lasts = lasts_then g x y z p.lasts q.lasts;
  carries = λ b t c. q.carries b (p.lasts.tells b t) (p.carries b t c);
}

pub lasts_same : (g : Setup) (x : At) → Lasts g x x
lasts_same g x = record {
  goes_on = each_same x.clients;
  tells = λ b t. t;
  true_of = λ s o h. h;
  starts = λ h. h;
}

pub goes_nowhere : (g : Setup) (x : At) → Goes g x x
goes_nowhere g x = record { lasts = lasts_same g x; carries = λ b t c. c }

-- one more event without a query, where connections and cache go on
pub lasts_still : (g : Setup) (x y : At) (e : Event) → y.events ≡ x.events ++ e ∷ [] → IsStill e
    → ((s : Store) → IsTrueEvent s g.file g.multirange e) → EachGoesOn x.clients y.clients
    → ((s : Store) → IsOver s x.clients → CacheTells s x.cache → CacheTells s y.cache) → Lasts g x y
lasts_still g x y e added still true_event on cache = record {
  goes_on = on;
  tells = λ b t. tells_on b x.clients y.clients x.cache y.cache on (λ s o over h. cache s over h) t;
  true_of = λ s o h. subst (IsTrueHistory s (download_of g)) (sym added)
      (true_still s (download_of g) x.events e still (true_event s) h);
  starts = λ h. subst (λ (es : List Event). FirstStarts g.range.start (planned es)) (sym added)
      (starts_still g.range.start x.events e still h);
}

-- no event
pub lasts_quiet : (g : Setup) (x y : At) → y.events ≡ x.events → EachGoesOn x.clients y.clients
    → ((s : Store) → IsOver s x.clients → CacheTells s x.cache → CacheTells s y.cache) → Lasts g x y
lasts_quiet g x y same on cache = record {
  goes_on = on;
  tells = λ b t. tells_on b x.clients y.clients x.cache y.cache on (λ s o over h. cache s over h) t;
  true_of = λ s o h. subst (IsTrueHistory s (download_of g)) (sym same) h;
  starts = λ h. subst (λ (es : List Event). FirstStarts g.range.start (planned es)) (sym same) h;
}
