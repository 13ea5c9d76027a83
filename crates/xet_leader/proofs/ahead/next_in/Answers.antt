use Rattle.std.proofs.Common.{rules, ◌≡◌, ◌<◌, ◌≤◌, ◌∷◌, ◌∙◌, ◌+◌, [], true, false, refl, sym, subst, arith, drop, get_or, length}
use Rattle.std.proofs.lemmas.Bool.{le-ltb, lt-ltb}
use Rattle.xet_leader.specs.LedTerms.{led_terms, of_plan, size_in, some_in}
use Rattle.xet_leader.proofs.ChangedPlans.{read_some}
use Rattle.xet_leader.proofs.NextTerms.{PassedSo, first_here, passed_all, passed_more}
use Rattle.xet_leader.proofs.TermPlaces.{next_there, no_file_term, past_all}
use Rattle.xet_leader.proofs.ahead.next_in.Goals as goal

pub returns-then-at-len : goal.returns-then-at-len
returns-then-at-len c =
    let ls = c.args.plans.now.items in
    let all = drop c.args.skip (led_terms ls) in
    let h : length ls ≤ c.seek-at.result.plan = search rules in
    let e : drop c.terms.at.term (led_terms (drop c.terms.at.plan ls)) ≡ [] =
    sym c.seek-at.ensures.rest ∙ past_all ls c.seek-at.result.plan c.seek-at.result.term h in
    passed_all all c.terms.empties (subst (PassedSo all c.terms.empties) e c.terms.invariant)

pub returns-then-term : goal.returns-then-term
returns-then-term c =
    let ls = c.args.plans.now.items in
    let all = drop c.args.skip (led_terms ls) in
    let i = c.seek-at.result.plan in
    let j = c.seek-at.result.term in
    let p = c.index.result.now in
    let h : i < length ls = search rules in
    let e : p ≡ get_or ls i p = c.index.ensures in
    let t = of_plan p (get_or c.as_slice.result.now j no_file_term) in
    let rest = drop (j + 1) (led_terms (drop i ls)) in
    let is : drop c.terms.at.term (led_terms (drop c.terms.at.plan ls)) ≡ t ∷ rest =
    sym c.seek-at.ensures.rest
    ∙ next_there ls i j p c.as_slice.result.now h e c.as_slice.ensures c.seek-at.ensures.inside in
    let s : PassedSo all c.terms.empties (t ∷ rest) = subst (PassedSo all c.terms.empties) is c.terms.invariant in
    let less = c.if-term.true in
    let some : some_in t ≡ true = lt-ltb 0 (size_in t) (omega (arith, less)) in
    record {
      plan = p;
      at = read_some ls (length ls) i p refl h e;
      count = s.count;
      empties = s.is;
      first = first_here all c.terms.empties t rest s some;
    }

pub terms-preserved : goal.terms-preserved
terms-preserved c =
    let ls = c.args.plans.now.items in
    let all = drop c.args.skip (led_terms ls) in
    let i = c.seek-at.result.plan in
    let j = c.seek-at.result.term in
    let p = c.index.result.now in
    let h : i < length ls = search rules in
    let e : p ≡ get_or ls i p = c.index.ensures in
    let t = of_plan p (get_or c.as_slice.result.now j no_file_term) in
    let rest = drop (j + 1) (led_terms (drop i ls)) in
    let is : drop c.terms.at.term (led_terms (drop c.terms.at.plan ls)) ≡ t ∷ rest =
    sym c.seek-at.ensures.rest
    ∙ next_there ls i j p c.as_slice.result.now h e c.as_slice.ensures c.seek-at.ensures.inside in
    let s : PassedSo all c.terms.empties (t ∷ rest) = subst (PassedSo all c.terms.empties) is c.terms.invariant in
    let less = c.if-term.false in
    let none : some_in t ≡ false = le-ltb 0 (size_in t) (omega (arith, less)) in
    passed_more all c.terms.empties c.saturating_add-empties.result t rest s none (search rules)
