-- A stream's leader after events that plan and deliver nothing: a block that is kept, and one that expired whose plan was
-- asked for again.
use Rattle.std.proofs.Common.{◌≡◌, ℕ, ◌+◌, Bool, false, cond, List, [], ◌∷◌, ◌++◌, length, take, refl, sym, ◌∙◌, ap, arith, Some}
use Rattle.std.specs.Prelude.{count_by, filter, map, slice_get}
use Rattle.std.specs.List.{slice_set}
use Rattle.std.proofs.lemmas.List.{append-nil}
use Rattle.xet_base.specs.declared.cas_types.FileRange.{FileRange}
use Rattle.xet_outside.specs.Told.{ClientTold}
use Rattle.xet_blocks.specs.declared.reconstruction_terms.file_term.TermBlock.{TermBlock}
use Rattle.xet_events.specs.declared.event.Event.{Event}
use Rattle.xet_events.specs.declared.event.Event.TheVariants.{Expired, Refreshed}
use Rattle.xet_events.specs.Allowed.{IsMissing}
use Rattle.xet_events.specs.Events.{Task, planned, tasks_in}
use Rattle.xet_events.proofs.CallerLemmas.{flat-push, planned-push}
use Rattle.xet_history.specs.TrueHistory.{queries, queries_in}
use Rattle.xet_parts.specs.PlanRefreshes.{TookUrls}
use Rattle.xet_ties.specs.Saids.{has_bytes}
use Rattle.xet_ties.specs.Setup.{RunTold, Setup}
use Rattle.xet_ties.specs.Ties.{Slack}
use Rattle.xet_leader.specs.declared.leader.LedPlan.{LedPlan}
use Rattle.xet_leader.specs.Expiries.{counted_one, spends_one}
use Rattle.xet_leader.specs.Led.{IsLed, Led}
use Rattle.xet_leader.proofs.CallerLemmas.{led_expired, led_refreshed, tells_more_looks}
use Rattle.xet_stream_rules.specs.Streams.{Carries, delivered, is_wrote}
use Rattle.xet_stream_rules.proofs.Terms.{count_by-append}

-- the event plans, asks and delivers nothing
pub record IsStill (e : Event) : Type 0 where
  pub tasks : tasks_in e ≡ []
  pub query : queries_in e ≡ []
  pub wrote : is_wrote e ≡ false

pub still_planned : (es : List Event) (e : Event) → IsStill e → planned (es ++ e ∷ []) ≡ planned es
still_planned es e s = planned-push es e ∙ ap (λ (l : List Task). planned es ++ l) s.tasks ∙ append-nil (planned es)

pub still_queries : (es : List Event) (e : Event) → IsStill e → queries (es ++ e ∷ []) ≡ queries es
still_queries es e s = flat-push queries_in es e ∙ ap (λ (l : List FileRange). queries es ++ l) s.query
    ∙ append-nil (queries es)

pub still_delivered : (es : List Event) (e : Event) → IsStill e → delivered (es ++ e ∷ []) ≡ delivered es
still_delivered es e s =
    let d = count_by-append is_wrote es (e ∷ []) in
    let none : count_by is_wrote (e ∷ []) ≡ 0 = ap (λ (v : Bool). 0 + cond v 1 0) s.wrote in
    omega (arith, d, none)

-- what of a stream's leader isn't its own is as before, where terms, queries and pieces are
pub same_rest : (b : RunTold) (g : Setup) (es fs : List Event) (l k : Led) (sl : Slack) → (c : Carries b g es l)
    → sl.heard ≡ c.slack.heard → planned fs ≡ planned es → queries fs ≡ queries es → delivered fs ≡ delivered es
    → k.finished ≡ l.finished → IsLed g b fs sl [] k → Carries b g fs k
same_rest b g es fs l k sl c heard ps qs ds f led = record {
  slack = sl;
  log = c.log;
  heard = heard ∙ c.heard;
  asked = c.asked ∙ sym (ap (λ (xs : List FileRange). map (λ q. (g.file, q)) xs) qs);
  answered = c.answered;
  paired = c.paired;
  led = led;
  whole = ap (λ (n : ℕ). length (filter has_bytes (take n (planned fs)))) f
      ∙ ap (λ (ts : List Task). length (filter has_bytes (take l.finished ts))) ps ∙ c.whole ∙ sym ds;
}

-- a block expired, has tries left, and its plan has new URLs
pub carries_late : (b : RunTold) (g : Setup) (es : List Event) (l : Led) → (c : Carries b g es l) → (lane p k : ℕ)
    → spends_one g.tries (p, k) l.plans ≡ false → IsMissing es p k → (place : ℕ) (x : LedPlan) (u : TermBlock)
    (before after : ClientTold) (multi : Bool) → slice_get (counted_one (p, k) l.plans) place ≡ Some x
    → TookUrls x.block u before after multi
    → Carries b g ((es ++ Expired lane p k ∷ []) ++ Refreshed p ∷ [])
    (record l { plans = slice_set (counted_one (p, k) l.plans) place (record x { block = u }) })
carries_late b g es l c lane p k left missing place x u before after multi at took =
    let e : Event = Expired lane p k in
    let r : Event = Refreshed p in
    let se : IsStill (Expired lane p k) = record { tasks = refl; query = refl; wrote = refl } in
    let sr : IsStill (Refreshed p) = record { tasks = refl; query = refl; wrote = refl } in
    let m : Led = record l { plans = counted_one (p, k) l.plans } in
    let one : IsLed g b (es ++ Expired lane p k ∷ []) c.slack (p ∷ []) m =
    led_expired g b es c.slack [] lane p k l left missing c.led in
    let two = led_refreshed g b (es ++ Expired lane p k ∷ []) c.slack c.slack p [] m place x u before after multi
    (tells_more_looks c.slack c.slack [] refl (sym (append-nil c.slack.looks))) at took one in
    same_rest b g es ((es ++ Expired lane p k ∷ []) ++ Refreshed p ∷ []) l
    (record l { plans = slice_set (counted_one (p, k) l.plans) place (record x { block = u }) }) c.slack c refl
    (still_planned (es ++ Expired lane p k ∷ []) (Refreshed p) sr ∙ still_planned es (Expired lane p k) se)
    (still_queries (es ++ Expired lane p k ∷ []) (Refreshed p) sr ∙ still_queries es (Expired lane p k) se)
    (still_delivered (es ++ Expired lane p k ∷ []) (Refreshed p) sr ∙ still_delivered es (Expired lane p k) se)
    refl two
