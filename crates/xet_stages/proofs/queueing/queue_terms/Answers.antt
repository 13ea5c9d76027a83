use Rattle.std.proofs.Common.{rules, ◌≡◌, ◌<◌, ◌≤◌, ◌++◌, ◌+◌, ◌∷◌, [], ◌∙◌, ap, sym, subst, drop, get_or, length, Err, None, Some, Ok, inl, refl}
use Rattle.xet_leader.specs.LedTerms.{led_terms, of_plan}
use Rattle.xet_stages.specs.Windows.{TermTurn}
use Rattle.xet_leader.proofs.CallerLemmas.{next_there, no_file_term, past_all}
use Rattle.xet_stages.proofs.WindowSteps.{WindowSo, so_end, so_err, so_full, so_more, so_short, so_stop}
use Rattle.xet_stages.proofs.queueing.queue_terms.Goals as goal

pub returns : goal.returns
returns g c =
    let all = drop c.args.skip (led_terms c.args.plans.now.items) in
    let h : c.args.most ≤ length c.terms.lengths = search rules in
    record {
      ok = so_full all c.args.most c.args.writer.now c.terms.writer c.terms.lengths _ c.terms.invariant h;
      err = tt;
    }

pub returns-then-at-len : goal.returns-then-at-len
returns-then-at-len g c =
    let ls = c.args.plans.now.items in
    let all = drop c.args.skip (led_terms ls) in
    let h : length ls ≤ c.seek-at.result.plan = search rules in
    let e : drop c.terms.at.term (led_terms (drop c.terms.at.plan ls)) ≡ [] =
    sym c.seek-at.ensures.rest ∙ past_all ls c.seek-at.result.plan c.seek-at.result.term h in
    record {
      ok = so_end all c.args.most c.args.writer.now c.terms.writer c.terms.lengths
          (subst (λ r. WindowSo all c.args.most c.args.writer.now c.terms.writer c.terms.lengths r) e
          c.terms.invariant);
      err = tt;
    }

pub returns-in-Ok-None : goal.returns-in-Ok-None
returns-in-Ok-None g c =
    let ls = c.args.plans.now.items in
    let all = drop c.args.skip (led_terms ls) in
    let i = c.seek-at.result.plan in
    let j = c.seek-at.result.term in
    let p = c.index-plan.result.now in
    let h : i < length ls = search rules in
    let e : p ≡ get_or ls i p = c.index-plan.ensures in
    let next = next_there ls i j p c.as_slice.result.now h e c.as_slice.ensures c.seek-at.ensures.inside in
    let t = of_plan p (get_or c.as_slice.result.now j no_file_term) in
    let rest = drop (j + 1) (led_terms (drop i ls)) in
    let is : drop c.terms.at.term (led_terms (drop c.terms.at.plan ls)) ≡ t ∷ rest =
    sym c.seek-at.ensures.rest ∙ next in
    let s : WindowSo all c.args.most c.args.writer.now c.terms.writer c.terms.lengths (t ∷ rest) =
    subst (λ r. WindowSo all c.args.most c.args.writer.now c.terms.writer c.terms.lengths r) is c.terms.invariant
    in
    let q : TermTurn t c.terms.writer c.queue_term.new.writer (Ok None) =
    rw (c.in-Ok-None.is, c.in-Ok-None.field-0-is) at c.queue_term.ensures in
    record {
      ok = so_stop all c.args.most c.args.writer.now c.terms.writer c.queue_term.new.writer c.terms.lengths t
          rest s q;
      err = tt;
    }

pub returns-in-Err : goal.returns-in-Err
returns-in-Err g c =
    let ls = c.args.plans.now.items in
    let all = drop c.args.skip (led_terms ls) in
    let i = c.seek-at.result.plan in
    let j = c.seek-at.result.term in
    let p = c.index-plan.result.now in
    let h : i < length ls = search rules in
    let e : p ≡ get_or ls i p = c.index-plan.ensures in
    let next = next_there ls i j p c.as_slice.result.now h e c.as_slice.ensures c.seek-at.ensures.inside in
    let t = of_plan p (get_or c.as_slice.result.now j no_file_term) in
    let rest = drop (j + 1) (led_terms (drop i ls)) in
    let is : drop c.terms.at.term (led_terms (drop c.terms.at.plan ls)) ≡ t ∷ rest =
    sym c.seek-at.ensures.rest ∙ next in
    let s : WindowSo all c.args.most c.args.writer.now c.terms.writer c.terms.lengths (t ∷ rest) =
    subst (λ r. WindowSo all c.args.most c.args.writer.now c.terms.writer c.terms.lengths r) is c.terms.invariant
    in
    let l : length c.terms.lengths < c.args.most = search rules in
    let q : TermTurn t c.terms.writer c.queue_term.new.writer (Err c.in-Err.error) =
    rw c.in-Err.is at c.queue_term.ensures in
    record {
      ok = tt;
      err = so_err all c.args.most c.args.writer.now c.terms.writer c.queue_term.new.writer
          c.terms.lengths t rest c.in-Err.error s l q;
    }

pub returns-in-Err-push : goal.returns-in-Err-push
returns-in-Err-push g c =
    let ls = c.args.plans.now.items in
    let all = drop c.args.skip (led_terms ls) in
    let i = c.seek-at.result.plan in
    let j = c.seek-at.result.term in
    let p = c.index-plan.result.now in
    let h : i < length ls = search rules in
    let e : p ≡ get_or ls i p = c.index-plan.ensures in
    let next = next_there ls i j p c.as_slice.result.now h e c.as_slice.ensures c.seek-at.ensures.inside in
    let t = of_plan p (get_or c.as_slice.result.now j no_file_term) in
    let rest = drop (j + 1) (led_terms (drop i ls)) in
    let is : drop c.terms.at.term (led_terms (drop c.terms.at.plan ls)) ≡ t ∷ rest =
    sym c.seek-at.ensures.rest ∙ next in
    let s : WindowSo all c.args.most c.args.writer.now c.terms.writer c.terms.lengths (t ∷ rest) =
    subst (λ r. WindowSo all c.args.most c.args.writer.now c.terms.writer c.terms.lengths r) is c.terms.invariant
    in
    let q : TermTurn t c.terms.writer c.queue_term.new.writer (Ok (Some c.in-Ok-Some.length)) =
    rw (c.in-Ok-Some.is, c.in-Ok-Some.field-0-is) at c.queue_term.ensures in
    record {
      ok = tt;
      err = λ o. (
        inl refl,
        so_short all c.args.most c.args.writer.now c.terms.writer
            c.queue_term.new.writer c.terms.lengths t (t ∷ rest) s q.1 o,
      );
    }

pub terms-preserved : goal.terms-preserved
terms-preserved g c =
    let ls = c.args.plans.now.items in
    let all = drop c.args.skip (led_terms ls) in
    let i = c.seek-at.result.plan in
    let j = c.seek-at.result.term in
    let p = c.index-plan.result.now in
    let h : i < length ls = search rules in
    let e : p ≡ get_or ls i p = c.index-plan.ensures in
    let next = next_there ls i j p c.as_slice.result.now h e c.as_slice.ensures c.seek-at.ensures.inside in
    let t = of_plan p (get_or c.as_slice.result.now j no_file_term) in
    let rest = drop (j + 1) (led_terms (drop i ls)) in
    let is : drop c.terms.at.term (led_terms (drop c.terms.at.plan ls)) ≡ t ∷ rest =
    sym c.seek-at.ensures.rest ∙ next in
    let s : WindowSo all c.args.most c.args.writer.now c.terms.writer c.terms.lengths (t ∷ rest) =
    subst (λ r. WindowSo all c.args.most c.args.writer.now c.terms.writer c.terms.lengths r) is c.terms.invariant
    in
    let l : length c.terms.lengths < c.args.most = search rules in
    let q : TermTurn t c.terms.writer c.queue_term.new.writer (Ok (Some c.in-Ok-Some.length)) =
    rw (c.in-Ok-Some.is, c.in-Ok-Some.field-0-is) at c.queue_term.ensures in
    let m : c.push.new.self ≡ c.terms.lengths ++ c.in-Ok-Some.length ∷ [] = rw c.in-Ok.is at c.push.ensures.ok in
    so_more all c.args.most c.args.writer.now c.terms.writer c.queue_term.new.writer c.terms.lengths c.push.new.self t
    rest s l q.1 (m ∙ ap (λ n. c.terms.lengths ++ n ∷ []) q.0)
