-- A run after its leader looked for what is missing.
use Rattle.std.proofs.Common.{◌≡◌, ℕ, List, [], ◌++◌, take, drop, refl, sym, subst, ◌∙◌, ap, ⊎_elim, Ok, Err}
use Rattle.std.specs.Prelude.{Result, Some, count_by}
use Rattle.std.proofs.lemmas.List.{append-nil, take-append-drop}
use Rattle.xet_outside.specs.Told.{CacheTold}
use Rattle.xet_error.specs.declared.error.FileReconstructionError.{FileReconstructionError}
use Rattle.xet_error.specs.declared.error.FileReconstructionError.TheVariants as error
use Rattle.xet_events.specs.declared.event.Event.{Event}
use Rattle.xet_events.specs.Events.{expires}
use Rattle.xet_ties.specs.Causes.{Cause}
use Rattle.xet_ties.specs.Setup.{RunTold, Setup}
use Rattle.xet_ties.specs.Ties.{MayLeave, Slack}
use Rattle.xet_ties.proofs.CallerLemmas.{look_short_ties, short_leaves}
use Rattle.xet_parts.proofs.CallerLemmas.{look_tells}
use Rattle.xet_leader.specs.declared.missing_blocks.BlockAt.{BlockAt}
use Rattle.xet_leader.specs.FetchLists.{IsFetchList}
use Rattle.xet_leader.specs.Lacking.{missing_of}
use Rattle.xet_leader.specs.Led.{Led}
use Rattle.xet_leader.specs.Looks.{EndsShort, LookLeads, LookTurn, LooksShort, ShortLook, to_fetch}
use Rattle.xet_leader.specs.Steady.{IsFailing, IsGoing, Loose, Moment, no_loose}
use Rattle.xet_leader.proofs.FetchFacts.{missing_lists}
use Rattle.xet_leader.proofs.LookTies.{Looking, look_each}
use Rattle.xet_leader.proofs.WriterFaults.{any_unfailed}
use Rattle.xet_leader.proofs.Halts.{memory_halted, memory_spent}

-- before the looks
start : (g : Setup) (b : RunTold) (m : Moment) (l : Led) (t : CacheTold) (es : List Event) → m.told.cache ≡ t
    → m.events ≡ es → IsGoing g b m no_loose l → Looking g b m l t es l.plans [] (missing_of l)
start g b m l t es at is s =
    subst (λ (e : List Event). Looking g b m l t e l.plans [] (missing_of l)) is
    (subst (λ (c : CacheTold). Looking g b m l c m.events l.plans [] (missing_of l)) at
    (s, missing_lists g b m.events s.slack [] l s.led))

-- a run that goes on, at the end of some looks
failing : (g : Setup) (b : RunTold) (m : Moment) (o : Loose) (l : Led) (t u : CacheTold) (es fs : List Event)
    (e : FileReconstructionError) → e ≡ error.OutOfMemory → EndsShort t u es fs
    → IsGoing g b (record { told = record m.told { cache = t }; events = es }) o l
    → IsFailing g b (record { told = record m.told { cache = u }; events = fs }) e
failing g b m o l t u es fs e memory short s =
    ⊎_elim
    (λ (h : (u ≡ t) × (fs ≡ es)).
    let z : IsFailing g b (record { told = record m.told { cache = t }; events = es }) e = record {
      slack = s.slack;
      ties = s.ties;
      left = left s.slack;
      cause = cause t;
      unfailed = any_unfailed b.sink.faults m.told.sink.faults e s.unfailed;
      spent = spent es;
      halted = λ yes. memory_halted e memory;
      under = λ u. memory_spent e memory u;
      cache_tells = s.cache_tells;
    } in
    subst (λ (c : CacheTold). IsFailing g b (record { told = record m.told { cache = c }; events = fs }) e) (sym h.0)
    (subst (λ (x : List Event). IsFailing g b (record { told = record m.told { cache = t }; events = x }) e)
    (sym h.1) z))
    (λ (h : ShortLook t u es fs).
    let r = look_short_ties g b (record m.told { cache = t }) es fs s.slack t u h.block refl h.short s.ties in
    let to : Slack = record s.slack { looks = s.slack.looks ++ r.0 } in
    let z : IsFailing g b (record { told = record m.told { cache = u }; events = fs }) e = record {
      slack = to;
      ties = r.1;
      left = left to;
      cause = cause u;
      unfailed = any_unfailed b.sink.faults m.told.sink.faults e s.unfailed;
      spent = spent fs;
      halted = λ yes. memory_halted e memory;
      under = λ u. memory_spent e memory u;
      cache_tells = λ v o k. look_tells v t u h.entries (s.cache_tells v o k);
    } in z)
    short
  where
    left : (sl : Slack) → MayLeave (Some e) b.clients sl
    left sl = subst (λ (x : FileReconstructionError). MayLeave (Some x) b.clients sl) (sym memory)
        (short_leaves b.clients sl)

    cause : (c : CacheTold) → Cause g s.slack.heard b (record m.told { cache = c }) e
    cause c = subst (Cause g s.slack.heard b (record m.told { cache = c })) (sym memory) tt

    spent : (x : List Event) → e ≡ error.UrlExpired → (p : ℕ) × (k : ℕ) × (count_by (expires p k) x ≡ g.tries)
    spent x h = absurd (let z : error.OutOfMemory ≡ error.UrlExpired = sym memory ∙ h in cc)

pub look_leads : (before after : CacheTold) (es fs : List Event) (l k : Led)
    (answer : Result (List BlockAt) FileReconstructionError) → LookTurn before after es fs l k answer
    → LookLeads before after es fs l k answer
look_leads before after es fs l k (Ok left) t g m at is = record {
  ok = λ b s.
      let w = start g b m l before es at is s in
      let first : Looking g b m l before es l.plans [] (missing_of l ++ []) =
      subst (λ (cs : List BlockAt). Looking g b m l before es l.plans [] cs)
      (sym (append-nil (missing_of l))) w in
      let r = look_each g b m l before after es fs l.plans k.plans [] (missing_of l) [] left t.looks.ok first in (
        subst (λ (y : Led). IsGoing g b (record { told = record m.told { cache = after }; events = fs })
            (to_fetch fs left) y) (sym t.led) r.0,
        subst (λ (n : ℕ). IsFetchList fs n left) (ap (λ (y : Led). y.finished) (sym t.led))
            (subst (IsFetchList fs l.finished) (append-nil left) r.1),
      );
  err = λ b s. tt;
}
look_leads before after es fs l k (Err e) t g m at is = record {
  ok = λ b s. tt;
  err = λ b s.
      let w = start g b m l before es at is s in
      let f : LooksShort before after es fs l.plans (missing_of l) = t.looks.err in
      let first : Looking g b m l before es l.plans [] (take f.count (missing_of l) ++ drop f.count (missing_of l)) =
      subst (λ (cs : List BlockAt). Looking g b m l before es l.plans [] cs)
      (sym (take-append-drop f.count (missing_of l))) w in
      let r = look_each g b m l before f.middle es f.events l.plans f.plans [] (take f.count (missing_of l))
      (drop f.count (missing_of l)) f.left f.from first in
      failing g b m (to_fetch f.events f.left) (record l { plans = f.plans }) f.middle after f.events fs e
      t.looks.memory f.short r.0;
}
