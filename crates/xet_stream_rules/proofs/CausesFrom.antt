-- A cause from some moment on is one from an earlier moment on.
use Rattle.std.proofs.Common.{◌≡◌, ◌⊎◌, inl, inr, ℕ, zero, suc, ◌+◌, List, [], ◌∷◌, ◌++◌, length, refl, sym, ◌∙◌, subst, arith, ⊎_elim, Option, Some, None}
use Rattle.std.specs.Prelude.{Contains, count_by, slice_get}
use Rattle.std.proofs.lemmas.List.Elements.{Contains-append_cases}
use Rattle.std.proofs.lemmas.Option.{slice_get_read}
use Rattle.xet_base.specs.declared.cas_types.FileRange.{FileRange}
use Rattle.xet_base.specs.declared.merklehash.MerkleHash.{MerkleHash}
use Rattle.xet_base.specs.Store.{Store}
use Rattle.xet_outside.specs.Told.{CacheTold, ClientTold, Rose}
use Rattle.xet_outside.proofs.CallerLemmas.{count_by-cons}
use Rattle.xet_outside.specs.declared.plan.PlanAnswer.{PlanAnswer}
use Rattle.xet_error.specs.declared.error.Corruption.{Corruption}
use Rattle.xet_error.specs.declared.error.FileReconstructionError.{FileReconstructionError}
use Rattle.xet_error.specs.declared.error.FileReconstructionError.TheVariants as error
use Rattle.xet_events.specs.declared.event.Event.{Event}
use Rattle.xet_events.specs.declared.event.Event.TheVariants.{Expired}
use Rattle.xet_ties.specs.History.{is_expiry}
use Rattle.xet_ties.specs.Causes.{SomeRose}
use Rattle.xet_ties.specs.Setup.{CacheTells, EachGoesOn, IsOver, Setup}
use Rattle.xet_leader.specs.declared.leader.LedPlan.{LedPlan}
use Rattle.xet_leader.specs.LedTerms.{OneFails, ahead}
use Rattle.xet_stream_rules.specs.MomentCauses.{CauseAt, CorruptedAt, SpentIn}
use Rattle.xet_stream_rules.specs.Moments.{At, Goes}
use Rattle.xet_stream_rules.specs.Pulls.{BlockFailed, FirstGoesOn, FirstSaid, IsMissing, PlanFailed, RefreshFailed}
use Rattle.xet_stream_rules.specs.StepTold.{Asks}
use Rattle.xet_stream_rules.specs.Streams.{TellsAs, connections, everybody, nobody}
use Rattle.xet_stream_rules.proofs.Lasting.{all_tell, goes_then, over_on}

-- connections that tell a store, with any cache
pub tells_connections : (s : Store) (cs : List ClientTold) (k : CacheTold) → IsOver s cs → TellsAs (connections s) cs k
tells_connections s cs k over = record {
  clients = λ z o.
      let e : Some s ≡ Some z = o.tell.0 in
      let same : s ≡ z = cc in
      subst (λ (v : Store). IsOver v cs) same over;
  cache = λ z o h. absurd h;
}

-- nobody tells anything
pub tells_nobody : (cs : List ClientTold) (k : CacheTold) → TellsAs nobody cs k
tells_nobody cs k = record {
  clients = λ s o.
      let e : ◌≡◌ {A = Option Store} None (Some s) = o.tell.0 in
      absurd (cc);
  cache = λ s o h. absurd h;
}

-- connections and a cache that tell a store
pub tells_everybody : (s : Store) (cs : List ClientTold) (k : CacheTold) → IsOver s cs → CacheTells s k
    → TellsAs (everybody s) cs k
tells_everybody s cs k over tells = record {
  clients = λ z o.
      let e : Some s ≡ Some z = o.tell.0 in
      let same : s ≡ z = cc in
      subst (λ (v : Store). IsOver v cs) same over;
  cache = λ z o h.
      let e : Some s ≡ Some z = o.tell.0 in
      let same : s ≡ z = cc in
      subst (λ (v : Store). CacheTells v k) same tells;
}

rose_from : (cs ms ds : List ClientTold) → EachGoesOn cs ms → SomeRose ms ds → SomeRose cs ds
rose_from [] [] ds g h = h
rose_from [] (m ∷ ms) ds g h = absurd g
rose_from (c ∷ cs) [] ds g h = absurd g
rose_from (c ∷ cs) (m ∷ ms) [] g h = absurd h
rose_from (c ∷ cs) (m ∷ ms) (d ∷ ds) g h =
    let on = g.0.faults in
    ⊎_elim (λ (r : Rose m.faults d.faults). inl (omega (arith, on, r)))
    (λ (r : SomeRose ms ds). inr (rose_from cs ms ds g.1 r)) h

first_from : (cs ms : List ClientTold) (c : ClientTold) → EachGoesOn cs ms → FirstGoesOn ms c → FirstGoesOn cs c
first_from [] [] c g h = h
first_from [] (m ∷ ms) c g h = absurd g
first_from (b ∷ cs) [] c g h = absurd g
first_from (b ∷ cs) (m ∷ ms) c g h = goes_then b m c g.0 h

said_from : (f : MerkleHash) (q : FileRange) (a : PlanAnswer) (cs ms ds : List ClientTold) → EachGoesOn cs ms
    → FirstSaid f q a ms ds → FirstSaid f q a cs ds
said_from f q a cs ms ds g s = record {
  first = s.first;
  last = s.last;
  others = s.others;
  before = first_from cs ms s.first g s.before;
  after = s.after;
  answered = s.answered;
}

module _ (g : Setup) (x m y : At) (on : Goes g x m) (new : List Event) (a : Asks) where
  each_on : EachGoesOn x.clients m.clients
  each_on = on.lasts.goes_on

  missing_from : IsMissing g m.clients y.clients → IsMissing g x.clients y.clients
  missing_from h = record {
    some = h.some;
    query = h.query;
    said = said_from g.file h.query _ x.clients m.clients y.clients each_on h.said;
    unstored = λ s tell. h.unstored s (all_tell s x.clients m.clients each_on tell);
  }

  plan_from : (k : Corruption) → PlanFailed g m.clients y.clients k → PlanFailed g x.clients y.clients k
  plan_from k h = record {
    plan = h.plan;
    query = h.query;
    said = said_from g.file h.query _ x.clients m.clients y.clients each_on h.said;
    from = h.from;
    to = h.to;
    some = h.some;
    fails = h.fails;
  }

  refresh_from : (ls : List LedPlan) (k : Corruption) → RefreshFailed g ls m.clients y.clients k
      → RefreshFailed g ls x.clients y.clients k
  refresh_from ls k h = record {
    plan = h.plan;
    among = h.among;
    answer = h.answer;
    said = said_from g.file h.plan.block.urls.byte_range h.answer x.clients m.clients y.clients each_on h.said;
    fails = h.fails;
  }

  corrupted_from : (k : Corruption) → CorruptedAt g m y a k → CorruptedAt g x y a k
  corrupted_from k h = record {
    untrue = λ s over led. h.untrue s (over_on s x.clients m.clients each_on over)
        (on.carries (connections s) (tells_connections s x.clients x.cache over) led);
    failed = ⊎_elim (λ (p : PlanFailed g m.clients y.clients k). inl (plan_from k p))
        (⊎_elim (λ (r : RefreshFailed g y.led.plans m.clients y.clients k). inr (inl (refresh_from y.led.plans k r)))
        (λ (b : BlockFailed y.led.plans a k ⊎ OneFails (ahead y.led) k). inr (inr b)))
        h.failed;
  }

  pub cause_from : (e : FileReconstructionError) → CauseAt g m y new a e → CauseAt g x y new a e
  cause_from error.OutOfMemory h = tt
  cause_from error.ClientError h = rose_from x.clients m.clients y.clients each_on h
  cause_from error.FileNotFound h = missing_from h
  cause_from error.UrlExpired h = h
  cause_from error.IoError h = absurd h
  cause_from (error.CorruptedReconstruction k) h = corrupted_from k h
  cause_from (error.ConfigurationError s) h = absurd h
  cause_from error.Cancelled h = absurd h
  cause_from (error.InternalWriterError w) h = absurd h

-- among more events, and of more that was asked
pub cause_among : (g : Setup) (x y : At) (new all : List Event) (a b : Asks) → b.block ≡ a.block
    → ((v : Event) → Contains new v → Contains all v) → (e : FileReconstructionError) → CauseAt g x y new a e
    → CauseAt g x y all b e
cause_among g x y new all a b same into error.OutOfMemory h = tt
cause_among g x y new all a b same into error.ClientError h = h
cause_among g x y new all a b same into error.FileNotFound h = h
cause_among g x y new all a b same into error.UrlExpired h = record {
  lane = h.lane;
  plan = h.plan;
  block = h.block;
  last = into (Expired h.lane h.plan h.block) h.last;
  reached = h.reached;
}
cause_among g x y new all a b same into error.IoError h = absurd h
cause_among g x y new all a b same into (error.CorruptedReconstruction k) h = record {
  untrue = h.untrue;
  failed = ⊎_elim (λ (p : PlanFailed g x.clients y.clients k). inl p)
      (⊎_elim (λ (r : RefreshFailed g y.led.plans x.clients y.clients k). inr (inl r))
      (⊎_elim
      (λ (f : BlockFailed y.led.plans a k). inr (inr (inl (record {
        ask = f.ask;
        asked = same ∙ f.asked;
        there = f.there;
      }))))
      (λ (o : OneFails (ahead y.led) k). inr (inr (inr o)))))
      h.failed;
}
cause_among g x y new all a b same into (error.ConfigurationError s) h = absurd h
cause_among g x y new all a b same into error.Cancelled h = absurd h
cause_among g x y new all a b same into (error.InternalWriterError w) h = absurd h

-- ---- expired answers

-- where no event is one, none is among them
expiry_at : (es : List Event) (i lane p b : ℕ) → slice_get es i ≡ Some (Expired lane p b) → count_by is_expiry es ≡ 0 → ⊥
expiry_at [] i lane p b at none = absurd (cc)
expiry_at (e ∷ es) zero lane p b at none =
    let same : e ≡ Expired lane p b = cc in
    let now : count_by is_expiry (Expired lane p b ∷ es) ≡ 0 =
    subst (λ (v : Event). count_by is_expiry (v ∷ es) ≡ 0) same none in
    let c = count_by-cons is_expiry (Expired lane p b) es in
    omega (arith, now, c)
expiry_at (e ∷ es) (suc i) lane p b at none =
    let c = count_by-cons is_expiry e es in
    expiry_at es i lane p b at (omega (arith, c, none))

pub no_expiry : (es : List Event) (lane p b : ℕ) → count_by is_expiry es ≡ 0 → Contains es (Expired lane p b) → ⊥
no_expiry es lane p b none c =
    expiry_at es c.0 lane p b (slice_get_read es (length es) c.0 (Expired lane p b) refl c.1 (sym c.2)) none

-- a block that spent its tries among events spent them among those behind which there is no expired answer
pub spent_among : (g : Setup) (xs ys es : List Event) → count_by is_expiry xs ≡ 0 → SpentIn g (xs ++ ys) es
    → SpentIn g ys es
spent_among g xs ys es none s = record {
  lane = s.lane;
  plan = s.plan;
  block = s.block;
  last = ⊎_elim
      (λ (c : Contains xs (Expired s.lane s.plan s.block)). absurd (no_expiry xs s.lane s.plan s.block none c))
      (λ (c : Contains ys (Expired s.lane s.plan s.block)). c)
      (Contains-append_cases xs ys (Expired s.lane s.plan s.block) s.last);
  reached = s.reached;
}
