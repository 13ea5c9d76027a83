-- The leader with which a step starts.
use Rattle.std.proofs.Common.{◌≡◌, ◌⊎◌, ⊎_elim, ◌<◌, Bool, true, false, cond, List, [], ◌∷◌, length, refl, sym, subst, ◌∙◌, ap, arith, Option, Some, None, Ok}
use Rattle.std.specs.Prelude.{IfSome, nat_eq}
use Rattle.xet_base.specs.declared.cas_types.FileRange.{FileRange}
use Rattle.xet_base.specs.Store.{Store}
use Rattle.xet_outside.specs.Told.{CacheEntry, ClientTold}
use Rattle.xet_error.specs.declared.error.Setting.{Setting}
use Rattle.xet_error.specs.declared.error.Setting.TheVariants.{NoConnection, NoTries}
use Rattle.xet_events.specs.declared.event.Event.{Event}
use Rattle.xet_history.specs.TrueHistory.{ReachesEnd, SomeEndsEarly}
use Rattle.xet_terms.specs.Managers.{IsManager}
use Rattle.xet_terms.specs.Settings.{failing_size}
use Rattle.xet_ties.specs.Causes.{refused_setting}
use Rattle.xet_ties.specs.Moves.{no_slack}
use Rattle.xet_ties.specs.Setup.{Setup}
use Rattle.xet_leader.specs.declared.leader.Job.{Job}
use Rattle.xet_leader.specs.Led.{Led, setup_of_job}
use Rattle.xet_leader.proofs.CallerLemmas.{led_start}
use Rattle.xet_stream_rules.specs.Streams.{Carries, fetches_in, nobody, telling_so}
use Rattle.xet_stream_terms.specs.Planning.{IsMarked}
use Rattle.xet_streams.specs.Parts.{HoldsAt}
use Rattle.xet_streams.specs.steps.Pulling.{BeginsCall, CanBegin, IsFirst, IsStart}

-- ---- settings that can be met

-- by the tests one after another
met_by : (c t : Bool) (o : Option Setting) → cond c (Some NoConnection) (cond t (Some NoTries) o) ≡ None
    → (c ≡ false) × (t ≡ false) × (o ≡ None)
met_by true t o h = absurd (cc)
met_by false true o h = absurd (cc)
met_by false false o h = (refl, refl, h)

-- where no setting is refused, no fetch size fails, and one connection is enough
pub size_met : (g : Setup) (cs : List ClientTold) → refused_setting g cs ≡ None → failing_size g.least g.greatest ≡ None
size_met g cs h = (met_by (nat_eq (length cs) 0) (nat_eq g.tries 0) (failing_size g.least g.greatest) h).2

one_enough : (g : Setup) (cs : List ClientTold) (c : ClientTold) → refused_setting g cs ≡ None
    → refused_setting g (c ∷ []) ≡ None
one_enough g cs c h =
    let m = met_by (nat_eq (length cs) 0) (nat_eq g.tries 0) (failing_size g.least g.greatest) h in
    let t : cond (nat_eq g.tries 0) (Some NoTries) (failing_size g.least g.greatest) ≡ None =
    ap (λ (v : Bool). cond v (Some NoTries) (failing_size g.least g.greatest)) m.1 ∙ m.2 in
    t

-- ---- the first leader

-- whatever one connection and a cache tell, a new leader stands to no events as one of a run does
first_carries : (j : Job) (cs : List ClientTold) (led : Led) → IsFirst j led → CanBegin (setup_of_job j) cs
    → (store : Option Store) (entries : Option (List CacheEntry))
    → Carries (telling_so store entries) (setup_of_job j) [] led
first_carries j cs led f can store entries =
    let b = telling_so store entries in
    let g = setup_of_job j in
    let c : ClientTold = record {
      store = store;
      asked = None;
      said = None;
      served = None;
      faults = 0;
      expiries = 0;
      link = [];
    } in
    let start = led_start j f.progress b (subst (λ (l : Led). IsManager l.manager) f.is f.manager)
    (one_enough g cs c can.unrefused) can.some in
    subst (λ (l : Led). Carries b g [] l) (sym f.is) (record {
      slack = no_slack b.clients;
      log = record { asked = []; served = []; said = [] };
      heard = refl;
      asked = refl;
      answered = refl;
      paired = refl;
      led = start;
      whole = refl;
    })

-- ---- a leader with which a step starts

pub old_start : (g : Setup) (es : List Event) (o : Option Led) (led : Led) → o ≡ Some led → IsStart g es o led
old_start g es o led is = record {
  fetches = ap (λ (v : Option Led). fetches_in v) (sym is);
  carries = λ store entries h.
      subst (λ (v : Option Led). IfSome v (Carries (telling_so store entries) g es)) is h;
}

pub new_start : (j : Job) (es : List Event) (cs : List ClientTold) (o : Option Led) (led : Led) → es ≡ []
    → CanBegin (setup_of_job j) cs → o ≡ None → IsFirst j led → IsStart (setup_of_job j) es o led
new_start j es cs o led none can is f = record {
  fetches = ap (λ (l : Led). l.fetches) f.is ∙ ap (λ (v : Option Led). fetches_in v) (sym is);
  carries = λ store entries h.
      subst (λ (v : List Event). Carries (telling_so store entries) (setup_of_job j) v led) (sym none)
      (first_carries j cs led f can store entries);
}

-- ---- what it holds

-- no event reaches the end of a range that has bytes
pub none_reaches : (r : FileRange) → r.start < r.end → ReachesEnd r [] → ⊥
none_reaches r some h =
    ⊎_elim (λ (e : r.start ≡ r.end). omega (arith, some, e)) (λ (s : SomeEndsEarly []). s) h

first_marked : (r : FileRange) → r.start < r.end → IsMarked r [] false
first_marked r some = record { yes = λ e. absurd (cc); no = λ e h. none_reaches r some h }

-- what a step starts from
pub record Starts (g : Setup) (es : List Event) (o : Option Led) (led : Led) (reached : Bool) : Type 0 where
  pub start : IsStart g es o led
  pub carries : Carries nobody g es led
  pub marked : IsMarked g.range es reached

pub started : (j : Job) (es : List Event) (cs : List ClientTold) (o q : Option Led) (led : Led) (reached : Bool)
    → HoldsAt (setup_of_job j) es o reached → (o ≡ None → CanBegin (setup_of_job j) cs)
    → (o ≡ Some led) ⊎ ((o ≡ None) × IsFirst j led) → Starts (setup_of_job j) es o led reached
started j es cs o q led reached holds can is = ⊎_elim old new is
  where
    old : o ≡ Some led → Starts (setup_of_job j) es o led reached
    old e =
        let h = subst (λ (v : Option Led). HoldsAt (setup_of_job j) es v reached) e holds in
        record { start = old_start (setup_of_job j) es o led e; carries = h.0; marked = h.1 }

    new : (o ≡ None) × IsFirst j led → Starts (setup_of_job j) es o led reached
    new z =
        let h = subst (λ (v : Option Led). HoldsAt (setup_of_job j) es v reached) z.0 holds in
        let c = can z.0 in
        record {
          start = new_start j es cs o led h.0 c z.0 z.1;
          carries = subst (λ (v : List Event). Carries nobody (setup_of_job j) v led) (sym h.0)
              (first_carries j cs led z.1 c None None);
          marked = subst (λ (v : List Event). IsMarked (setup_of_job j).range v reached) (sym h.0)
              (subst (λ (v : Bool). IsMarked (setup_of_job j).range [] v) (sym h.1) (first_marked (setup_of_job j).range c.some));
        }

-- by what making it answered
pub begun_starts : (j : Job) (es : List Event) (cs : List ClientTold) (o q : Option Led) (led : Led) (reached : Bool)
    → HoldsAt (setup_of_job j) es o reached → (o ≡ None → CanBegin (setup_of_job j) cs) → BeginsCall j o q (Ok tt)
    → q ≡ Some led → Starts (setup_of_job j) es o led reached
begun_starts j es cs o q led reached holds can b is =
    let same : b.0 ≡ led = (let z : ◌≡◌ {A = Option Led} (Some b.0) (Some led) = sym b.1 ∙ is in cc) in
    subst (λ (l : Led). Starts (setup_of_job j) es o l reached) same
    (started j es cs o q b.0 reached holds can b.2)
