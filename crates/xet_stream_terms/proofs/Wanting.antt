-- The block of the next term is missing, where it isn't kept.
use Rattle.std.proofs.Common.{◌≡◌, ℕ, zero, suc, ◌+◌, ◌-◌, ◌<◌, ◌==◌, ◌||◌, Bool, true, false, List, [], ◌∷◌, take, drop, refl, ◌∙◌, ap, arith, Some}
use Rattle.std.specs.Prelude.{count_by, map, slice_get}
use Rattle.std.specs.List.{list_any}
use Rattle.std.proofs.lemmas.Bool.{and_from, eq-eqb}
use Rattle.xet_events.specs.declared.event.Event.{Event}
use Rattle.xet_events.specs.Allowed.{IsMissing}
use Rattle.xet_events.specs.Events.{Task, is_admit, is_kept, planned}
use Rattle.xet_ties.specs.Setup.{Setup}
use Rattle.xet_ties.specs.Windows.{is_wanted, open_terms}
use Rattle.xet_ties.proofs.CallerLemmas.{wanted_is}
use Rattle.xet_leader.specs.declared.ahead.NextTerm.{NextTerm}
use Rattle.xet_leader.specs.Led.{Led}
use Rattle.xet_leader.specs.LedTerms.{IsNextTerm, PlanTerm, ahead, of_plan, some_in, task_of}
use Rattle.xet_leader.proofs.CallerLemmas.{is_at, next_tasks}
use Rattle.xet_stream_rules.specs.Streams.{Carries, nobody}
use Rattle.xet_stream_terms.proofs.AdmittedTerms.{empties_are}

any_at : (p : Task → Bool) (ts : List PlanTerm) (n m : ℕ) (t : PlanTerm) → slice_get ts n ≡ Some t → n < m
    → p (task_of t) ≡ true → list_any p (take m (map task_of ts)) ≡ true
any_at p [] n m t at h w = absurd (cc)
any_at p (u ∷ ts) n zero t at h w = absurd (omega (arith, h))
any_at p (u ∷ ts) zero (suc m) t at h w =
    let e : u ≡ t = cc in
    ap (λ (v : Bool). v || list_any p (take m (map task_of ts))) (ap (λ (z : PlanTerm). p (task_of z)) e ∙ w)
any_at p (u ∷ ts) (suc n) (suc m) t at h w =
    ap (λ (v : Bool). p (task_of u) || v) (any_at p ts n m t at (omega (arith, h)) w) ∙ or_true (p (task_of u))
  where
    or_true : (v : Bool) → (v || true) ≡ true
    or_true true = refl
    or_true false = refl

-- so of each admitted term with bytes
pub term_missing : (g : Setup) (es : List Event) (l : Led) → Carries nobody g es l → (skip : ℕ) (t : PlanTerm)
    → slice_get (ahead l) skip ≡ Some t → some_in t ≡ true → l.finished + skip < l.admitted
    → is_kept es t.plan.number t.term.xorb_block ≡ false → IsMissing es t.plan.number t.term.xorb_block
term_missing g es l c skip t there some opens absent =
    let p = t.plan.number in
    let b = t.term.xorb_block in
    let a = c.led.counted.admitted_are in
    let m : count_by is_admit es - l.finished ≡ l.admitted - l.finished = omega (arith, a) in
    let mine : is_wanted p b (task_of t) ≡ true =
    and_from _ _ some (and_from (p == p) (b == b) (eq-eqb p p refl) (eq-eqb b b refl)) in
    let here : list_any (is_wanted p b) (open_terms es l.finished) ≡ true =
    ap (λ (k : ℕ). list_any (is_wanted p b) (take k (drop l.finished (planned es)))) m
    ∙ ap (λ (ts : List Task). list_any (is_wanted p b) (take (l.admitted - l.finished) ts))
    (next_tasks g nobody es c.slack [] l c.led.counted.planned_are c.led.plans)
    ∙ any_at (is_wanted p b) (ahead l) skip (l.admitted - l.finished) t there (omega (arith, opens)) mine in
    record {
      wanted = wanted_is es l.finished p b (is_at g nobody es c.slack [] l c.led) ∙ here;
      absent = absent;
    }

pub next_missing : (g : Setup) (es : List Event) (l : Led) → Carries nobody g es l → (n : NextTerm)
    → (next : IsNextTerm l n) → l.finished + n.empties < l.admitted
    → is_kept es next.plan.number n.term.xorb_block ≡ false
    → IsMissing es next.plan.number n.term.xorb_block
next_missing g es l c n next opens absent =
    let e = empties_are g es l c n next in
    term_missing g es l c next.count (of_plan next.plan n.term) next.first.there next.first.some (omega (arith, opens, e))
    absent
