use Rattle.std.proofs.Common.{◌≡◌, ◌<◌, ◌∙◌, true, false, length, sym, ap, subst, refl, ℕ, List}
use Rattle.std.specs.Result.{is_err}
use Rattle.xet_claims.specs.declared.claim_rule.View.{View}
use Rattle.xet_claims.specs.ClaimPasses.{pass_view}
use Rattle.xet_lanes.proofs.Draws.{drawing_ends, drawing_goes_on, drawing_last, drawing_refused, drawing_starts, drawing_step, drawing_told, drew_and_halted, drew_one, failed_ended, get_at, halted_stops, over_drawn, over_ended, over_stops, over_weight, refused_last, refused_told, short_ended, step_told, still_fresh}
use Rattle.xet_lanes.proofs.drawing.draw_all.Goals as goal

abbrev drawn_by : View → List ℕ
drawn_by v = v.drawn

abbrev weight_by : View → ℕ
weight_by v = v.weight

pub loop-init : goal.loop-init
loop-init g c = record {
  same = refl;
  of = c.requires.of;
  fresh = c.requires.fresh;
  weight = refl;
  calm = c.requires.nothing.2;
  parts = refl;
  drawing = drawing_starts _ _ _ _ c.requires.nothing.0 c.requires.nothing.1;
}

pub returns-in-Over : goal.returns-in-Over
returns-in-Over g c =
    let i = c.loop.invariant in
    let v = pass_view c.loop.claim in
    let w = pass_view c.next_number.new.claim in
    record {
      same_reference = i.same;
      of = c.next_number.ensures.of;
      weight = over_weight v w c.in-Over.ensures.next ∙ i.weight;
      parts = c.next_number.ensures.parts ∙ i.parts;
      drew = drawing_ends _ _ _ _ _ _ i.drawing (over_drawn v w c.in-Over.ensures.next);
      last = drawing_last _ _ _ _ _ i.drawing;
      ended = over_ended _ _ _ v w _ i.drawing i.calm c.in-Over.ensures.next;
      stops = over_stops _ _ _ v w _ i.drawing;
      told = drawing_told _ _ _ _ _ _ _ i.drawing;
    }

pub returns-in-Stopped : goal.returns-in-Stopped
returns-in-Stopped g c =
    let i = c.loop.invariant in
    let s = c.stop_short.ensures in
    let n = c.in-Stopped.ensures.next in
    record {
      same_reference = i.same;
      of = s.of;
      weight = ap weight_by s.stopped ∙ (ap weight_by n ∙ i.weight);
      parts = s.parts ∙ (c.next_number.ensures.parts ∙ i.parts);
      drew = drawing_ends _ _ _ _ _ _ i.drawing (ap drawn_by s.stopped ∙ ap drawn_by n);
      last = drawing_last _ _ _ _ _ i.drawing;
      ended = short_ended _ (pass_view c.stop_short.new.claim) _ s.short;
      stops = halted_stops _ (pass_view c.next_number.new.claim) _ c.loop.lane.steps.items s.stopped;
      told = drawing_told _ _ _ _ _ _ _ i.drawing;
    }

pub returns-in-Short : goal.returns-in-Short
returns-in-Short g c =
    let i = c.loop.invariant in
    let s = c.stop_short-in-Short.ensures in
    let n = c.in-Short.ensures.next in
    record {
      same_reference = i.same;
      of = s.of;
      weight = ap weight_by s.stopped ∙ (ap weight_by n ∙ i.weight);
      parts = s.parts ∙ (c.next_number.ensures.parts ∙ i.parts);
      drew = drawing_ends _ _ _ _ _ _ i.drawing (ap drawn_by s.stopped ∙ ap drawn_by n);
      last = drawing_last _ _ _ _ _ i.drawing;
      ended = short_ended _ (pass_view c.stop_short-in-Short.new.claim) _ s.short;
      stops = halted_stops _ (pass_view c.next_number.new.claim) _ c.loop.lane.steps.items s.stopped;
      told = drawing_told _ _ _ _ _ _ _ i.drawing;
    }

pub returns-then-is_err : goal.returns-then-is_err
returns-then-is_err g c =
    let i = c.loop.invariant in
    let s = c.stop_short-then-is_err.ensures in
    let n = c.in-Number.ensures.next in
    let m = c.make-made.ensures in
    let below : c.in-Number.number < length c.args.shared.now.fetches.now =
    subst (λ (k : ℕ). c.in-Number.number < k) c.requires.count n.0 in
    let failed : is_err c.make-made.result ≡ true = sym c.is_err.ensures.value ∙ c.if-is_err.true in
    record {
      same_reference = m.same_reference ∙ i.same;
      of = s.of;
      weight = ap weight_by s.stopped ∙ (ap weight_by n.1 ∙ i.weight);
      parts = s.parts ∙ (c.next_number.ensures.parts ∙ i.parts);
      drew =
          drawing_refused _ _ _ _ _ _ c.in-Number.number _ _ _ _ i.drawing
          (drew_and_halted (pass_view c.loop.claim) (pass_view c.next_number.new.claim) _ _ n.1 s.stopped)
          (get_at _ _ c.index-shared-number.result below) m.call failed;
      last = refused_last _ _ _ _ _ _ _ _ _ i.drawing m.call failed;
      ended = short_ended _ (pass_view c.stop_short-then-is_err.new.claim) _ s.short;
      stops = halted_stops _ (pass_view c.next_number.new.claim) _ c.make-made.new.self.steps.items s.stopped;
      told = refused_told _ _ _ _ _ _ _ _ _ _ _ i.drawing m.call failed;
    }

pub returns-in-Some : goal.returns-in-Some
returns-in-Some g c =
    let i = c.loop.invariant in
    let s = c.stop_others.ensures in
    let n = c.in-Number.ensures.next in
    let m = c.make-made.ensures in
    let below : c.in-Number.number < length c.args.shared.now.fetches.now =
    subst (λ (k : ℕ). c.in-Number.number < k) c.requires.count n.0 in
    let made : is_err c.make-made.result ≡ false = sym c.is_err.ensures.value ∙ c.if-is_err.false in
    let last = sym c.last_error.ensures ∙ c.in-Some.is in
    let d = drawing_step _ _ _ _ _ _ c.in-Number.number _ _ _ _ i.drawing
    (drew_and_halted (pass_view c.loop.claim) (pass_view c.next_number.new.claim) _ _ n.1 s.stopped)
    (get_at _ _ c.index-shared-number.result below) m.call made in
    record {
      same_reference = m.same_reference ∙ i.same;
      of = s.of;
      weight = ap weight_by s.stopped ∙ (ap weight_by n.1 ∙ i.weight);
      parts = s.parts ∙ (c.next_number.ensures.parts ∙ i.parts);
      drew = record { made = d.made; at = d.at; did = d.did };
      last = d.last;
      ended = failed_ended _ (pass_view c.stop_others.new.claim) _ _ last;
      stops = halted_stops _ (pass_view c.next_number.new.claim) _ c.make-made.new.self.steps.items s.stopped;
      told =
          step_told _ c.next_number.new.run.last _ c.in-Some.error _ last c.in-Number.ensures.seen
          (λ short. (s.short short).1) s.told;
    }

pub returns : goal.returns
returns g c =
    let i = c.loop.invariant in
    let s = c.stop_short-2.ensures in
    record {
      same_reference = i.same;
      of = s.of;
      weight = ap weight_by s.stopped ∙ i.weight;
      parts = s.parts ∙ i.parts;
      drew = drawing_ends _ _ _ _ _ _ i.drawing (ap drawn_by s.stopped);
      last = drawing_last _ _ _ _ _ i.drawing;
      ended = short_ended _ (pass_view c.stop_short-2.new.claim) _ s.short;
      stops = halted_stops _ (pass_view c.loop.claim) _ c.loop.lane.steps.items s.stopped;
      told = drawing_told _ _ _ _ _ _ _ i.drawing;
    }

pub loop-preserved : goal.loop-preserved
loop-preserved g c =
    let i = c.loop.invariant in
    let n = c.in-Number.ensures.next in
    let m = c.make-made.ensures in
    let below : c.in-Number.number < length c.args.shared.now.fetches.now =
    subst (λ (k : ℕ). c.in-Number.number < k) c.requires.count n.0 in
    let made : is_err c.make-made.result ≡ false = sym c.is_err.ensures.value ∙ c.if-is_err.false in
    let d = drawing_step _ _ _ _ _ _ c.in-Number.number _ _ _ _ i.drawing
    (drew_one (pass_view c.loop.claim) (pass_view c.next_number.new.claim) _ n.1)
    (get_at _ _ c.index-shared-number.result below) m.call made in
    record {
      same = m.same_reference ∙ i.same;
      of = c.next_number.ensures.of;
      fresh = still_fresh (pass_view c.loop.claim) (pass_view c.next_number.new.claim) _ n.1 i.fresh;
      weight = ap weight_by n.1 ∙ i.weight;
      calm = ap (λ (v : View). v.raised) n.1 ∙ i.calm;
      parts = c.next_number.ensures.parts ∙ i.parts;
      drawing = drawing_goes_on _ _ _ _ _ d (sym c.last_error.ensures ∙ c.in_default.is);
    }
