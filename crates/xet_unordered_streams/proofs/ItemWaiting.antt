-- Pulls of an unordered stream until one isn't pending.
use Rattle.std.proofs.Common.{ℕ, zero, suc, ◌<◌, List, refl, sym, subst, ⊎_elim, Some, None, Ok, Err}
use Rattle.xet_outside.specs.Told.{CacheTold, ClientTold}
use Rattle.xet_events.specs.Allowed.{IsAllowedHistory}
use Rattle.xet_stream_rules.specs.declared.step.Step.TheVariants.{Pending, Ready}
use Rattle.xet_stream_rules.specs.Pulls.{Answer, Closed, Ended, PullCall, Refused, Stepped}
use Rattle.xet_stream_rules.specs.Streams.{StreamView, waits_left}
use Rattle.xet_stream_rules.specs.Unordered.{ItemAnswer, UnorderedView}
use Rattle.xet_unordered_streams.specs.Items.{AfterPull, ArePassed, ItemCall, ItemOrNone, ItemWaitCall, ItemWaits, PullsItem, with_item}
use Rattle.xet_unordered_streams.specs.steps.Pulling.{InOrderCall}
use Rattle.xet_unordered_streams.specs.steps.Waiting.{ItemWaited, ItemsSoFar, NextInOrder}
use Rattle.xet_unordered_streams.proofs.Steps.{order_item}

pub none_yet : (b : UnorderedView) (cs : List ClientTold) (k : CacheTold) → ItemsSoFar b b cs cs k k
none_yet b cs k = record { steps = 0; waited = (refl, refl, refl) }

waits_more : (steps : ℕ) (b n p : UnorderedView) (cs ds xs : List ClientTold) (k l y : CacheTold)
    → ItemWaited steps b n cs ds k l → ItemCall n p ds xs l y (Ok Pending) → ItemWaited (suc steps) b p cs xs k y
waits_more zero b n p cs ds xs k l y w c = (
  p,
  xs,
  y,
  subst (λ (j : CacheTold). ItemCall b p cs xs j y (Ok Pending)) w.2
      (subst (λ (es : List ClientTold). ItemCall b p es xs l y (Ok Pending)) w.1
      (subst (λ (v : UnorderedView). ItemCall v p ds xs l y (Ok Pending)) w.0 c)),
  (refl, refl, refl),
)
waits_more (suc steps) b n p cs ds xs k l y w c =
    (w.0, w.1, w.2, w.3, waits_more steps w.0 n p w.1 ds xs w.2 l y w.4 c)

pub item_more : (b n p : UnorderedView) (cs ds xs : List ClientTold) (k l y : CacheTold) → ItemsSoFar b n cs ds k l
    → ItemCall n p ds xs l y (Ok Pending) → ItemsSoFar b p cs xs k y
item_more b n p cs ds xs k l y w c =
    record { steps = suc w.steps; waited = waits_more w.steps b n p cs ds xs k l y w.waited c }

waits_done : (steps : ℕ) (b n p : UnorderedView) (cs ds xs : List ClientTold) (k l y : CacheTold) (answer : ItemOrNone)
    → ItemWaited steps b n cs ds k l → ItemCall n p ds xs l y (with_item answer)
    → ItemWaits steps b p cs xs k y answer
waits_done zero b n p cs ds xs k l y answer w c =
    subst (λ (j : CacheTold). ItemCall b p cs xs j y (with_item answer)) w.2
    (subst (λ (es : List ClientTold). ItemCall b p es xs l y (with_item answer)) w.1
    (subst (λ (v : UnorderedView). ItemCall v p ds xs l y (with_item answer)) w.0 c))
waits_done (suc steps) b n p cs ds xs k l y answer w c =
    (w.0, w.1, w.2, w.3, waits_done steps w.0 n p w.1 ds xs w.2 l y answer w.4 c)

pub item_done : (b n p : UnorderedView) (cs ds xs : List ClientTold) (k l y : CacheTold) (answer : ItemOrNone)
    → ItemsSoFar b n cs ds k l → ItemCall n p ds xs l y (with_item answer) → ItemWaitCall b p cs xs k y answer
item_done b n p cs ds xs k l y answer w c =
    record { steps = w.steps; waits = waits_done w.steps b n p cs ds xs k l y answer w.waited c }

-- pulls that weren't there yet, and then pulls until one was
waits_join : (steps : ℕ) (b n p : UnorderedView) (cs ds xs : List ClientTold) (k l y : CacheTold) (answer : ItemOrNone)
    → ItemWaited steps b n cs ds k l → ItemWaitCall n p ds xs l y answer → ItemWaitCall b p cs xs k y answer
waits_join zero b n p cs ds xs k l y answer w c =
    subst (λ (j : CacheTold). ItemWaitCall b p cs xs j y answer) w.2
    (subst (λ (es : List ClientTold). ItemWaitCall b p es xs l y answer) w.1
    (subst (λ (v : UnorderedView). ItemWaitCall v p ds xs l y answer) w.0 c))
waits_join (suc steps) b n p cs ds xs k l y answer w c =
    let r = waits_join steps w.0 n p w.1 ds xs w.2 l y answer w.4 c in
    record { steps = suc r.steps; waits = (w.0, w.1, w.2, w.3, r.waits) }

pub item_join : (b n p : UnorderedView) (cs ds xs : List ClientTold) (k l y : CacheTold) (answer : ItemOrNone)
    → ItemsSoFar b n cs ds k l → ItemWaitCall n p ds xs l y answer → ItemWaitCall b p cs xs k y answer
item_join b n p cs ds xs k l y answer w c = waits_join w.steps b n p cs ds xs k l y answer w.waited c

-- ---- in order

-- a pull that isn't there yet leaves fewer such pulls
pull_falls : (b n : StreamView) (cs ds : List ClientTold) (k l : CacheTold) → PullCall b n cs ds k l (Ok Pending)
    → waits_left n < waits_left b
pull_falls b n cs ds k l c =
    ⊎_elim
    (λ (w : Closed (record b { seen = c.seen }) n cs ds k l (Ok Pending)). absurd (let e = w.none in cc))
    (⊎_elim
    (λ (w : Refused (record b { seen = c.seen }) n cs ds k l (Ok Pending)). absurd (let e = w.is_error in cc))
    (⊎_elim
    (λ (w : Ended (record b { seen = c.seen }) n cs ds k l (Ok Pending)). absurd (let e = w.none in cc))
    (λ (w : Stepped (record b { seen = c.seen }) n cs ds k l (Ok Pending)).
    subst (λ (v : StreamView). waits_left v < waits_left b) (sym w.step.hands.2) (w.step.falls refl))))
    c.way

order_falls : (b n : UnorderedView) (cs ds : List ClientTold) (k l : CacheTold) → PullsItem b n cs ds k l (Ok Pending)
    → waits_left n.stream < waits_left b.stream
order_falls b n cs ds k l p = by p.asked p.pull p.after
  where
    by : (a : Answer) → PullCall b.stream p.middle cs ds k l a → AfterPull b n p.middle a (Ok Pending)
        → waits_left n.stream < waits_left b.stream
    by (Ok Pending) call after =
        subst (λ (z : UnorderedView). waits_left z.stream < waits_left b.stream) (sym after.2)
        (pull_falls b.stream p.middle cs ds k l call)
    by (Ok (Ready None)) call after = absurd (let e = after.0 in cc)
    by (Ok (Ready (Some piece))) call after = absurd (let e = after.1 in cc)
    by (Err cause) call after = absurd (let e = after.0 in cc)

pub in_order_next : (b n : UnorderedView) (cs ds : List ClientTold) (k l : CacheTold) (answer : ItemAnswer)
    → InOrderCall b n cs ds k l answer → IsAllowedHistory n.stream.events → ArePassed n
    → NextInOrder b n cs ds k l answer
in_order_next b n cs ds k l answer c allowed passed = record {
  call = order_item b n cs ds k l answer c allowed passed;
  falls = λ e. order_falls b n cs ds k l (subst (λ (a : ItemAnswer). PullsItem b n cs ds k l a) e c.pulls);
}
