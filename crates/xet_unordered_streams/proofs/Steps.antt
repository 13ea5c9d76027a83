-- One pull, from its parts.
use Rattle.std.proofs.Common.{◌≡◌, ◌⊎◌, ⊎_elim, inl, inr, ℕ, zero, suc, ◌≤◌, ◌<◌, Bool, true, false, List, [], length, refl, sym, subst, ◌∙◌, ap, arith, Option, Some, None, Ok, Err}
use Rattle.std.specs.Prelude.{Result}
use Rattle.xet_outside.specs.Told.{CacheTold, ClientTold}
use Rattle.xet_error.specs.declared.error.FileReconstructionError.{FileReconstructionError}
use Rattle.xet_error.specs.declared.error.Setting.{Setting}
use Rattle.xet_error.specs.declared.error.Setting.TheVariants.{NoConnection}
use Rattle.xet_events.specs.Allowed.{IsAllowedHistory}
use Rattle.xet_stream_rules.specs.declared.step.Step.TheVariants.{Pending, Ready}
use Rattle.xet_stream_rules.specs.Pulls.{Answer, IsRefused, PullCall, pulled_once}
use Rattle.xet_stream_rules.specs.Streams.{IsAtEnd, IsOpen, MayGoOn, StandsStill, StreamView, telling_so}
use Rattle.xet_stream_rules.specs.Unordered.{Item, ItemAnswer, UnorderedView}
use Rattle.xet_streams.specs.AnyOrder.{CanStep, StandsOn}
use Rattle.xet_unordered_streams.specs.Items.{AfterStep, ArePassed, GivesNow, IsCaught, ItemCall, PullsItem, ServesItem, ServesVain, StepsItem, seen_so}
use Rattle.xet_unordered_streams.specs.steps.Giving.{KeepsOn}
use Rattle.xet_unordered_streams.specs.steps.Pulling.{AdmitCall, AheadCall, AheadShort, BlockCall, FreeStep, GoesOnCall, GoneAhead, InOrderCall, IsFreeCaught, IsFreeStep, MayStepCall, OrderedAfter, OrderedCall, RecordedShort, RecordedSo, ServeCall}
use Rattle.xet_unordered_streams.proofs.Going.{ahead_none, both_ahead, recorded_ahead}
use Rattle.xet_unordered_streams.proofs.Grown.{pulled_stands, seen_open, seen_stands}

-- ---- how a stream stands

-- what is kept on after a pull that stood still
still_on : (cs : List ClientTold) (k : CacheTold) (b m n : StreamView) → StandsStill cs k b m → StandsOn m n
    → StandsStill cs k b n
still_on cs k b m n s o store entries tells h = o store entries (s store entries tells h)

on_still : (cs : List ClientTold) (k : CacheTold) (b m n : StreamView) → StandsOn b m → StandsStill cs k m n
    → StandsStill cs k b n
on_still cs k b m n o s store entries tells h = s store entries tells (o store entries h)

seen_on : (v : StreamView) (seen : ℕ) → v.seen ≤ seen → StandsOn v (record v { seen = seen })
seen_on v seen le store entries h = seen_stands (telling_so store entries) v seen le h

pulled_on : (v : StreamView) → StandsOn v (pulled_once v)
pulled_on v store entries h = pulled_stands (telling_so store entries) v h

-- ---- a step's end

-- a pending answer leaves it as it was
after_caught : (m n : UnorderedView) (answer : ItemAnswer) → AfterStep m n answer → IsCaught m → answer ≡ Ok Pending
    → IsCaught n
after_caught m n (Ok Pending) a c e = subst IsCaught (sym a.2) c
after_caught m n (Ok (Ready None)) a c e = absurd a
after_caught m n (Ok (Ready (Some item))) a c e = absurd (cc)
after_caught m n (Err x) a c e = absurd (cc)

now_pending : (m n : UnorderedView) (answer : ItemAnswer) → GivesNow m n answer → answer ≡ Ok Pending → ⊥
now_pending m n (Ok Pending) a e = a
now_pending m n (Ok (Ready None)) a e = a
now_pending m n (Ok (Ready (Some item))) a e = cc
now_pending m n (Err x) a e = cc

-- ---- a pull in order

module _ (b n : UnorderedView) (cs ds : List ClientTold) (k l : CacheTold) where
  -- without a further step
  pub in_order_ready : (o : Option Item) → OrderedCall b n cs ds k l (Ok (Ready o))
      → InOrderCall b n cs ds k l (Ok (Ready o))
  in_order_ready o c = by c.asked c.call c.after
    where
      by : (a : Answer) → PullCall b.stream n.stream cs ds k l a → OrderedAfter b n a (Ok (Ready o))
          → InOrderCall b n cs ds k l (Ok (Ready o))
      by (Ok Pending) call x = absurd (let z = x.0 in cc)
      by (Ok (Ready p)) call x = record {
        pulls = record { asked = Ok (Ready p); middle = n.stream; pull = call; after = x };
        stands = call.stands;
        caught = λ e. absurd (cc);
      }
      by (Err e) call x = absurd (let z = x.0 in cc)

  pub in_order_error : (e : FileReconstructionError) → OrderedCall b n cs ds k l (Err e)
      → InOrderCall b n cs ds k l (Err e)
  in_order_error e c = by c.asked c.call c.after
    where
      by : (a : Answer) → PullCall b.stream n.stream cs ds k l a → OrderedAfter b n a (Err e)
          → InOrderCall b n cs ds k l (Err e)
      by (Ok Pending) call x = absurd (let z = x.0 in cc)
      by (Ok (Ready p)) call x = record {
        pulls = record { asked = Ok (Ready p); middle = n.stream; pull = call; after = x };
        stands = call.stands;
        caught = λ z. absurd (cc);
      }
      by (Err o) call x = record {
        pulls = record { asked = Err o; middle = n.stream; pull = call; after = x };
        stands = call.stands;
        caught = λ z. absurd (cc);
      }

-- a pending one
pub record PendingPull (b m : UnorderedView) (cs ds : List ClientTold) (k l : CacheTold) : Type 0 where
  pub call : PullCall b.stream m.stream cs ds k l (Ok Pending)
  pub rest : m ≡ record b { stream = m.stream }
  pub goes_on : MayGoOn m.stream
  pub caught : IsCaught m

pub pending_pull : (b m : UnorderedView) (cs ds : List ClientTold) (k l : CacheTold)
    → OrderedCall b m cs ds k l (Ok Pending) → PendingPull b m cs ds k l
pending_pull b m cs ds k l c = by c.asked c.call c.after
  where
    by : (a : Answer) → PullCall b.stream m.stream cs ds k l a → OrderedAfter b m a (Ok Pending)
        → PendingPull b m cs ds k l
    by (Ok Pending) call x = record { call = call; rest = x.1; goes_on = x.2; caught = x.3 }
    by (Ok (Ready (Some piece))) call x = absurd (let z = x.1 in cc)
    by (Ok (Ready None)) call x = absurd (let z = x.0 in cc)
    by (Err e) call x = absurd (let z = x.0 in cc)

pub in_order_step : (b m n : UnorderedView) (cs ds : List ClientTold) (k l : CacheTold) (answer : ItemAnswer)
    → PendingPull b m cs ds k l → AfterStep m n answer → KeepsOn m n → InOrderCall b n cs ds k l answer
in_order_step b m n cs ds k l answer p a keeps = record {
  pulls = record {
    asked = Ok Pending;
    middle = m.stream;
    pull = p.call;
    after = subst (λ (z : UnorderedView). AfterStep z n answer) p.rest a;
  };
  stands = still_on cs k b.stream m.stream n.stream p.call.stands keeps;
  caught = after_caught m n answer a p.caught;
}

-- ---- a block

pub served : (b m n : UnorderedView) (cs ds : List ClientTold) (k l : CacheTold) (answer : ItemAnswer)
    → BlockCall b m cs ds k l (Ok tt) → AfterStep m n answer → KeepsOn m n → ServeCall b n cs ds k l answer
served b m n cs ds k l answer p a keeps = record {
  serves = inl (record {
    middle = m.stream;
    provided = p.0;
    after = subst (λ (z : UnorderedView). AfterStep z n answer) p.1 a;
  });
  stands = still_on cs k b.stream m.stream n.stream p.0.stands keeps;
  caught = after_caught m n answer a p.3;
}

pub served_vain : (b n : UnorderedView) (cs ds : List ClientTold) (k l : CacheTold) (e : FileReconstructionError)
    → BlockCall b n cs ds k l (Err e) → ServeCall b n cs ds k l (Err e)
served_vain b n cs ds k l e p = record {
  serves = inr (record { told_error = e; is_error = refl; fails = p.0; rest = p.2 });
  stands = p.1;
  caught = λ z. absurd (cc);
}

-- ---- a step in any order, after the flag was asked

module _ (b m n : UnorderedView) (cs ds : List ClientTold) (k l : CacheTold) (answer : ItemAnswer) where
  -- no step may be taken
  pub goes_in_order : MayStepCall b m (length cs) false → InOrderCall m n cs ds k l answer
      → GoesOnCall b n cs ds k l answer
  goes_in_order a c =
      let seen = a.0.0 in
      let same : m ≡ seen_so seen b = a.1 ∙ ap (λ (z : StreamView). record b { stream = z }) a.0.2 in
      record {
        seen = seen;
        later = a.0.1;
        way = inl (subst (λ (z : UnorderedView). PullsItem z n cs ds k l answer) same c.pulls);
        stands = on_still cs k b.stream m.stream n.stream
            (subst (StandsOn b.stream) (sym a.0.2) (seen_on b.stream seen a.0.1)) c.stands;
        caught = c.caught;
      }

  module _ (connections : ℕ) (long : length cs ≡ connections) (a : MayStepCall b m connections true) where
    can : CanStep (record b.stream { seen = a.0.0 }) m.stream connections
    can = a.0.2

    same : m ≡ record (seen_so a.0.0 b) { stream = pulled_once (record b.stream { seen = a.0.0 }) }
    same = a.1 ∙ ap (λ (z : StreamView). record b { stream = z }) can.is

    on : StandsOn b.stream m.stream
    on = subst (StandsOn b.stream) (sym can.is)
        (λ store entries h. pulled_on (record b.stream { seen = a.0.0 }) store entries
        (seen_on b.stream a.0.0 a.0.1 store entries h))

    unrefused : (e : Setting) → IsRefused (record b.stream { seen = a.0.0 }) cs e → ⊥
    unrefused e r = can.unrefused cs long e r

    -- a due term is known
    pub goes_now : cs ≡ ds → k ≡ l → GivesNow m n answer → KeepsOn m n → GoesOnCall b n cs ds k l answer
    goes_now e f g keeps = record {
      seen = a.0.0;
      later = a.0.1;
      way = inr (record {
        still = can.still;
        unrefused = unrefused;
        before = can.before;
        way = inl (
          record { clients = sym e; cache = sym f },
          subst (λ (z : UnorderedView). GivesNow z n answer) same g,
        );
      });
      stands = λ store entries tells h. keeps store entries (on store entries h);
      caught = λ z. absurd (now_pending m n answer g z);
    }

    -- else a block is provided, or it is pulled in order
    pub goes_free : FreeStep m n cs ds k l answer → GoesOnCall b n cs ds k l answer
    goes_free f = ⊎_elim serve order f
      where
        serve : ServeCall m n cs ds k l answer → GoesOnCall b n cs ds k l answer
        serve c = record {
          seen = a.0.0;
          later = a.0.1;
          way = inr (record {
            still = can.still;
            unrefused = unrefused;
            before = can.before;
            way = ⊎_elim
                (λ (x : ServesItem m n cs ds k l answer).
                inr (inl (subst (λ (z : UnorderedView). ServesItem z n cs ds k l answer) same x)))
                (λ (x : ServesVain m n cs ds k l answer).
                inr (inr (inl (subst (λ (z : UnorderedView). ServesVain z n cs ds k l answer) same x)))) c.serves;
          });
          stands = on_still cs k b.stream m.stream n.stream on c.stands;
          caught = c.caught;
        }

        order : InOrderCall m n cs ds k l answer → GoesOnCall b n cs ds k l answer
        order c = record {
          seen = a.0.0;
          later = a.0.1;
          way = inr (record {
            still = can.still;
            unrefused = unrefused;
            before = can.before;
            way = inr (inr (inr (subst (λ (z : UnorderedView). PullsItem z n cs ds k l answer) same c.pulls)));
          });
          stands = on_still cs k b.stream m.stream n.stream on c.stands;
          caught = c.caught;
        }

-- ---- one pull

pub pulled_item : (b m n : UnorderedView) (cs ds : List ClientTold) (k l : CacheTold) (answer : ItemAnswer)
    → GoneAhead b m → GoesOnCall m n cs ds k l answer → IsAllowedHistory n.stream.events → ArePassed n
    → ItemCall b n cs ds k l answer
pulled_item b m n cs ds k l answer g c allowed passed = record {
  ready = m.stream;
  first = g.first;
  seen = c.seen;
  later = c.later;
  way = inr (
    g.stands,
    subst (λ (z : UnorderedView). PullsItem (seen_so c.seen z) n cs ds k l answer
        ⊎ StepsItem (seen_so c.seen z) n cs ds k l answer) g.rest c.way,
  );
  allowed = allowed;
  stands = on_still cs k b.stream m.stream n.stream g.stands c.stands;
  passed = passed;
  caught = c.caught;
}

pub short_item : (b n : UnorderedView) (cs : List ClientTold) (k : CacheTold) (e : FileReconstructionError)
    → AheadShort b n e → IsAllowedHistory n.stream.events → ArePassed n → ItemCall b n cs cs k k (Err e)
short_item b n cs k e g allowed passed = record {
  ready = g.ready;
  first = g.first;
  seen = g.ready.seen;
  later = omega arith;
  way = inl (record {
    still = g.still;
    told_error = e;
    is_error = refl;
    told = g.told;
    rest = g.rest;
    unasked = record { clients = refl; cache = refl };
  });
  allowed = allowed;
  stands = λ store entries tells h. g.stands store entries h;
  passed = passed;
  caught = λ z. absurd (cc);
}

-- a pull in order alone
pub order_item : (b n : UnorderedView) (cs ds : List ClientTold) (k l : CacheTold) (answer : ItemAnswer)
    → InOrderCall b n cs ds k l answer → IsAllowedHistory n.stream.events → ArePassed n
    → ItemCall b n cs ds k l answer
order_item b n cs ds k l answer c allowed passed = record {
  ready = b.stream;
  first = ahead_none b.stream;
  seen = b.stream.seen;
  later = omega arith;
  way = inr ((λ store entries h. h), inl c.pulls);
  allowed = allowed;
  stands = c.stands;
  passed = passed;
  caught = c.caught;
}

-- ---- what is done first

pub ahead_unopened : (b : UnorderedView) → (IsOpen b.stream → ⊥) → GoneAhead b b
ahead_unopened b none = record {
  first = ahead_none b.stream;
  rest = refl;
  stands = λ store entries h. h;
  caught = λ o. absurd (none o);
}

pub ahead_both : (b m n : UnorderedView) → RecordedSo b m → IsCaught m → AdmitCall m n (Ok tt) → GoneAhead b n
ahead_both b m n r c a = record {
  first = both_ahead b m n.stream r a.call;
  rest = a.rest ∙ ap (λ (z : UnorderedView). record z { stream = n.stream }) r.rest;
  stands = λ store entries h. a.stands store entries (r.stands store entries h);
  caught = λ o. a.caught tt c;
}

pub ahead_short : (b n : UnorderedView) (e : FileReconstructionError) → RecordedShort b n e → AheadShort b n e
ahead_short b n e r = record {
  ready = r.middle.stream;
  first = recorded_ahead b r.middle r.recorded;
  still = r.still;
  told = r.short.fails.told;
  rest = r.short.fails.rest ∙ ap (λ (z : UnorderedView). record z { stream = n.stream }) r.recorded.rest;
  stands = λ store entries h. r.short.stands store entries (r.recorded.stands store entries h);
}

pub ahead_unadmitted : (b m n : UnorderedView) (e : FileReconstructionError) → RecordedSo b m → IsOpen m.stream
    → AdmitCall m n (Err e) → AheadShort b n e
ahead_unadmitted b m n e r o a = record {
  ready = a.call.0;
  first = both_ahead b m a.call.0 r a.call.1;
  still = subst IsOpen (sym a.call.1.rest) (record { untold = o.untold; uncancelled = o.uncancelled });
  told = a.call.2;
  rest = a.rest ∙ ap (λ (z : UnorderedView). record z { stream = n.stream }) r.rest;
  stands = λ store entries h. a.stands store entries (r.stands store entries h);
}

pub ahead_admit : (b m n : UnorderedView) (answer : Result (Unit {0}) FileReconstructionError) → RecordedSo b m
    → IsOpen m.stream → IsCaught m → AdmitCall m n answer → AheadCall b n answer
ahead_admit b m n (Ok tt) r o c a = ahead_both b m n r c a
ahead_admit b m n (Err e) r o c a = ahead_unadmitted b m n e r o a

-- the flag was asked, and the next term wasn't given
pub free_asked : (b m : UnorderedView) (connections : ℕ) (answer : Bool) → MayStepCall b m connections answer
    → IsFreeCaught b → IsFreeCaught m
free_asked b m connections true a f o =
    let is : m ≡ record b { stream = pulled_once (record b.stream { seen = a.0.0 }) } =
    a.1 ∙ ap (λ (z : StreamView). record b { stream = z }) a.0.2.is in
    subst IsCaught (sym is) (f (seen_open b.stream a.0.0 a.0.1 a.0.2.still))
free_asked b m connections false a f o =
    let is : m ≡ record b { stream = record b.stream { seen = a.0.0 } } =
    a.1 ∙ ap (λ (z : StreamView). record b { stream = z }) a.0.2 in
    subst IsCaught (sym is)
    (f (seen_open b.stream a.0.0 a.0.1 (subst IsOpen (ap (λ (z : UnorderedView). z.stream) is) o)))

pub some_clients : (v : StreamView) (n : ℕ) → ((cs : List ClientTold) → length cs ≡ n → (e : Setting)
    → IsRefused v cs e → ⊥) → (IsAtEnd v.setup.range v.events → ⊥) → 0 < n
some_clients v zero h before = absurd (by v.pulled refl)
  where
    by : (b : Bool) → v.pulled ≡ b → ⊥
    by false e = h [] refl NoConnection (inl (e, refl))
    by true e = h [] refl NoConnection (inr (e, before, refl, refl))
some_clients v (suc n) h before = omega arith

-- a step may be taken
pub free_step : (b m : UnorderedView) (connections : ℕ) → MayStepCall b m connections true → IsFreeCaught b
    → IsFreeStep m connections
free_step b m connections a f =
    let can = a.0.2 in
    let v : StreamView = record b.stream { seen = a.0.0 } in
    let is : m.stream ≡ pulled_once v = can.is in
    let still : IsOpen m.stream = subst IsOpen (sym is)
    (record { untold = can.still.untold; uncancelled = can.still.uncancelled }) in
    record {
      still = still;
      before = subst (λ (z : StreamView). IsAtEnd z.setup.range z.events → ⊥) (sym is) can.before;
      begun = subst (λ (z : StreamView). z.led ≡ None → ⊥) (sym is) can.begun;
      some = some_clients v connections can.unrefused can.before;
      caught = free_asked b m connections true a f still;
    }
