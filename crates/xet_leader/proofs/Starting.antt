-- A leader at the start of its run is as its run wants it.
use Rattle.std.proofs.Common.{◌≡◌, ℕ, zero, suc, ◌<◌, Bool, true, false, cond, List, [], ◌∷◌, take, refl, sym, subst, ap, arith, None, Some}
use Rattle.std.specs.Prelude.{length, nat_eq, Option}
use Rattle.std.proofs.lemmas.List.Elements.{All-nil}
use Rattle.xet_base.specs.declared.cas_types.FileRange.{FileRange}
use Rattle.xet_base.specs.declared.item_id.UniqueID.{UniqueID}
use Rattle.xet_error.specs.declared.error.Setting.TheVariants.{NoConnection, NoTries}
use Rattle.xet_outside.specs.Told.{ClientTold}
use Rattle.xet_terms.specs.Managers.{IsManager, Manager, begun}
use Rattle.xet_terms.specs.Queries.{end_from}
use Rattle.xet_terms.specs.Settings.{failing_size}
use Rattle.xet_ties.specs.Causes.{refused_setting}
use Rattle.xet_ties.specs.Saids.{InStep}
use Rattle.xet_ties.specs.Setup.{RunTold, Setup}
use Rattle.xet_ties.specs.Moves.{no_exchange, no_slack}
use Rattle.xet_ties.proofs.CallerLemmas.{step_start, tie_start}
use Rattle.xet_leader.specs.declared.leader.Job.{Job}
use Rattle.xet_leader.specs.declared.leader.LedPlan.{LedPlan}
use Rattle.xet_leader.specs.Led.{IsLed, IsLedManager, IsLedPlan, setup_of_job}
use Rattle.xet_leader.specs.Starts.{LeadStarts, first_led}
use Rattle.xet_leader.proofs.LongQueries.{begun_long}

take_none : (qs : List FileRange) → take 0 qs ≡ []
take_none [] = refl
take_none (q ∷ qs) = refl

not_none : (n : ℕ) → nat_eq n 0 ≡ false → 0 < n
not_none zero e = absurd (cc)
not_none (suc n) e = omega arith

-- where the settings can be met, a block may be asked for once at least
pub tries_some : (g : Setup) (cs : List ClientTold) → refused_setting g cs ≡ None → 0 < g.tries
tries_some g cs h = lent (nat_eq (length cs) 0) h
  where
    tried : (b : Bool) → nat_eq g.tries 0 ≡ b → cond b (Some NoTries) (failing_size g.least g.greatest) ≡ None
        → 0 < g.tries
    tried true e k = absurd (cc)
    tried false e k = not_none g.tries e

    lent : (b : Bool) → cond b (Some NoConnection)
        (cond (nat_eq g.tries 0) (Some NoTries) (failing_size g.least g.greatest)) ≡ None → 0 < g.tries
    lent true k = absurd (cc)
    lent false k = tried (nat_eq g.tries 0) refl k

in_step : (g : Setup) (cs : List ClientTold) → refused_setting g cs ≡ None → InStep (no_exchange cs)
in_step g [] h = absurd (cc)
in_step g (c ∷ cs) h = step_start c cs

-- nothing is planned, so nothing is asked
manager_start : (j : Job) (p : Option UniqueID) → IsManager (begun j.file_hash j.byte_range j.config p)
    → IsLedManager (setup_of_job j) [] (begun j.file_hash j.byte_range j.config p)
manager_start j p k =
    let none = take_none (begun j.file_hash j.byte_range j.config p).queries in
    record {
      is_for = record { file = refl; range = refl; least = refl; greatest = refl; multirange = refl };
      kept = k;
      queries_are = sym none;
      idle = refl;
      none_waits = refl;
      going = λ h. ap (end_from j.byte_range.start) (sym none);
      early = λ h. absurd (cc);
      over = λ h. absurd (cc);
      covered = λ h. absurd (cc);
      goes_on = λ h e. e;
      long = begun_long j p k.range_fits;
    }

-- it is led
pub led_start : (j : Job) (p : Option UniqueID) (b : RunTold) → IsManager (begun j.file_hash j.byte_range j.config p)
    → refused_setting (setup_of_job j) b.clients ≡ None → j.byte_range.start < j.byte_range.end
    → IsLed (setup_of_job j) b [] (no_slack b.clients) [] (first_led j p)
led_start j p b k h some = record {
  running = refl;
  some = some;
  tries = tries_some (setup_of_job j) b.clients h;
  stale_are = tt;
  under = λ x k2. tries_some (setup_of_job j) b.clients h;
  manager = manager_start j p k;
  plans = record {
    each = All-nil (IsLedPlan (setup_of_job j) b [] (no_slack b.clients) []);
    follow = tt;
    numbered = λ e. tt;
    last = tt;
    first = refl;
  };
  counted = record {
    planned_are = refl;
    planned_fits = omega arith;
    admitted_are = refl;
    finished_within = omega arith;
    admitted_within = omega arith;
    written_are = refl;
  };
}

-- and its run goes on
first_starts : (j : Job) (p : Option UniqueID) → IsManager (begun j.file_hash j.byte_range j.config p)
    → LeadStarts j (first_led j p)
first_starts j p k b h some = record {
  slack = no_slack b.clients;
  ties = tie_start (setup_of_job j) b h;
  settled = record {
    hidden = refl;
    late = refl;
    lost = refl;
    ahead = refl;
    spare = refl;
    pending = refl;
    due = refl;
    step = in_step (setup_of_job j) b.clients h;
    calm = refl;
  };
  led = led_start j p b k h some;
  calm = refl;
  unfailed = refl;
  cache_tells = λ s over tells. tells;
}

pub lead_starts : (j : Job) (p : Option UniqueID) (m : Manager) (ls : List LedPlan)
    → m ≡ begun j.file_hash j.byte_range j.config p → ls ≡ []
    → IsManager m → LeadStarts j (record {
      manager = m;
      plans = ls;
      planned = 0;
      admitted = 0;
      finished = 0;
      fetches = 0;
    })
lead_starts j p m ls is none k =
    let first : LeadStarts j (first_led j p) = first_starts j p (subst IsManager is k) in
    subst (λ (x : Manager). LeadStarts j (record {
      manager = x;
      plans = ls;
      planned = 0;
      admitted = 0;
      finished = 0;
      fetches = 0;
    })) (sym is)
    (subst (λ (x : List LedPlan). LeadStarts j (record {
      manager = begun j.file_hash j.byte_range j.config p;
      plans = x;
      planned = 0;
      admitted = 0;
      finished =
          0;
      fetches = 0;
    })) (sym none) first)
