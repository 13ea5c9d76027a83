-- What a pull adds to a stream's history.
use Rattle.std.proofs.Common.{◌≡◌, ⊎_elim, ℕ, ◌≤◌, ◌<◌, ◌||◌, Bool, true, false, List, [], ◌∷◌, ◌++◌, length, refl, sym, subst, ◌∙◌, ap, arith, append_assoc, Option, Some, None, Ok, Err}
use Rattle.std.specs.Prelude.{count_by, nat_lt}
use Rattle.std.proofs.lemmas.Bool.{ltb-false, ltb-true}
use Rattle.std.proofs.lemmas.List.{append-nil}
use Rattle.xet_outside.specs.Told.{CacheTold, ClientTold}
use Rattle.xet_error.specs.declared.error.FileReconstructionError.{FileReconstructionError}
use Rattle.xet_error.specs.declared.error.FileReconstructionError.TheVariants as error
use Rattle.xet_events.specs.declared.event.Event.{Event}
use Rattle.xet_events.specs.declared.event.Event.TheVariants.{Fail, Wrote}
use Rattle.xet_ties.specs.Setup.{RunTold}
use Rattle.xet_stream_rules.specs.declared.step.Step.{Step}
use Rattle.xet_stream_rules.specs.declared.step.Step.TheVariants.{Pending, Ready}
use Rattle.xet_stream_rules.specs.Pulls.{Answer, Closed, Ended, Hands, IsTold, PullCall, Refused, StepCall, StepDone, StepFails, Stepped, pulled_once}
use Rattle.xet_stream_rules.specs.Streams.{IsOpen, Stands, StreamView, delivered, is_closed, is_wrote}
use Rattle.xet_stream_rules.proofs.CallerLemmas.{count_by-append}

pub front_same : {A : Type 0} (xs ys : List A) (x y : A) → xs ++ x ∷ [] ≡ ys ++ y ∷ [] → xs ≡ ys
front_same [] [] x y e = refl
front_same [] (z ∷ []) x y e = absurd (cc)
front_same [] (z ∷ w ∷ ys) x y e = absurd (cc)
front_same (z ∷ []) [] x y e = absurd (cc)
front_same (z ∷ w ∷ xs) [] x y e = absurd (cc)
front_same (z ∷ xs) (w ∷ ys) x y e =
    let head : z ≡ w = cc in
    let tail : xs ++ x ∷ [] ≡ ys ++ y ∷ [] = cc in
    ap (λ (v : _). v ∷ xs) head ∙ ap (λ (l : List _). w ∷ l) (front_same xs ys x y tail)

-- its events behind those of before: none has a piece but the last one, where it handed one over
abbrev pub EndsWith : List Event → List Event → List Event → Answer → Type 0
EndsWith es fs new (Ok (Ready (Some piece))) = fs ≡ (es ++ new) ++ Wrote (length piece) ∷ []
EndsWith es fs new (Ok (Ready None)) = fs ≡ es ++ new
EndsWith es fs new (Ok Pending) = fs ≡ es ++ new
EndsWith es fs new (Err e) = fs ≡ es ++ new

pub record Grew (v n : StreamView) (answer : Answer) : Type 0 where
  pub new : List Event
  pub setup : n.setup ≡ v.setup
  pub none : delivered new ≡ 0
  pub events : EndsWith v.events n.events new answer

grew_nothing : (v n : StreamView) → n.setup ≡ v.setup → n.events ≡ v.events → Grew v n (Ok (Ready None))
grew_nothing v n setup events = record {
  new = [];
  setup = setup;
  none = refl;
  events = events ∙ sym (append-nil v.events);
}

pub grew_told : (v m n : StreamView) (new : List Event) (e told : FileReconstructionError) → m.setup ≡ v.setup
    → delivered new ≡ 0 → m.events ≡ v.events ++ new → IsTold m n e told → Grew v n (Err told)
grew_told v m n new e told setup none events t =
    ⊎_elim
    (λ (z : (told ≡ e) × (n ≡ record m { events = m.events ++ Fail told ∷ []; told_error = Some told })).
    let d = count_by-append is_wrote new (Fail told ∷ []) in
    let f : count_by is_wrote (Fail told ∷ []) ≡ 0 = refl in
    record {
      new = new ++ Fail told ∷ [];
      setup = ap (λ (x : StreamView). x.setup) z.1 ∙ setup;
      none = omega (arith, d, f, none);
      events = ap (λ (x : StreamView). x.events) z.1 ∙ ap (λ (l : List Event). l ++ Fail told ∷ []) events
          ∙ append_assoc v.events new (Fail told ∷ []);
    })
    (λ (z : (told ≡ error.OutOfMemory) × (n ≡ record m { told_error = Some told })). record {
      new = new;
      setup = ap (λ (x : StreamView). x.setup) z.1 ∙ setup;
      none = none;
      events = ap (λ (x : StreamView). x.events) z.1 ∙ events;
    }) t

grew_done : (v b n : StreamView) (cs ds : List ClientTold) (k l : CacheTold) (a : Step (Option (List ℕ)))
    → b.setup ≡ v.setup → b.events ≡ v.events → StepDone b n cs ds k l a → Grew v n (Ok a)
grew_done v b n cs ds k l a setup events d = by a d.hands
  where
    setup_end : d.end.setup ≡ v.setup
    setup_end = ap (λ (x : StreamView). x.setup) d.work.rest ∙ setup

    added : d.end.events ≡ v.events ++ d.work.new
    added = d.work.added ∙ ap (λ (l : List Event). l ++ d.work.new) events

    by : (o : Step (Option (List ℕ))) → Hands d.end n o → Grew v n (Ok o)
    by Pending h = record {
      new = d.work.new;
      setup = ap (λ (x : StreamView). x.setup) h.2 ∙ setup_end;
      none = d.work.few.pieces;
      events = ap (λ (x : StreamView). x.events) h.2 ∙ added;
    }
    by (Ready None) h = record {
      new = d.work.new;
      setup = ap (λ (x : StreamView). x.setup) h.1 ∙ setup_end;
      none = d.work.few.pieces;
      events = ap (λ (x : StreamView). x.events) h.1 ∙ added;
    }
    by (Ready (Some piece)) h = record {
      new = d.work.new;
      setup = ap (λ (x : StreamView). x.setup) h.1.is ∙ setup_end;
      none = d.work.few.pieces;
      events = ap (λ (x : StreamView). x.events) h.1.is
          ∙ ap (λ (l : List Event). l ++ Wrote (length piece) ∷ []) added;
    }

pub grew_failed : (v b n : StreamView) (cs ds : List ClientTold) (k l : CacheTold) (e : FileReconstructionError)
    → b.setup ≡ v.setup → b.events ≡ v.events → StepFails b n cs ds k l e → Grew v n (Err e)
grew_failed v b n cs ds k l e setup events f = grew_told v f.end n f.work.new f.failed e
    (ap (λ (x : StreamView). x.setup) f.work.rest ∙ setup) f.work.few.pieces
    (f.work.added ∙ ap (λ (l : List Event). l ++ f.work.new) events) f.told

grew_step : (v b n : StreamView) (cs ds : List ClientTold) (k l : CacheTold) (answer : Answer) → b.setup ≡ v.setup
    → b.events ≡ v.events → StepCall b n cs ds k l answer → Grew v n answer
grew_step v b n cs ds k l (Ok a) setup events s = grew_done v b n cs ds k l a setup events s
grew_step v b n cs ds k l (Err e) setup events s = grew_failed v b n cs ds k l e setup events s

pub grew : (v n : StreamView) (cs ds : List ClientTold) (k l : CacheTold) (answer : Answer)
    → PullCall v n cs ds k l answer → Grew v n answer
grew v n cs ds k l answer c =
    ⊎_elim
    (λ (w : Closed (record v { seen = c.seen }) n cs ds k l answer).
    subst (Grew v n) (sym w.none) (grew_nothing v n (ap (λ (z : StreamView). z.setup) w.stream)
    (ap (λ (z : StreamView). z.events) w.stream)))
    (⊎_elim
    (λ (w : Refused (record v { seen = c.seen }) n cs ds k l answer).
    subst (Grew v n) (sym w.is_error)
    (grew_told v (pulled_once (record v { seen = c.seen })) n [] (error.ConfigurationError w.setting) w.told_error refl
    refl (sym (append-nil v.events)) w.told))
    (⊎_elim
    (λ (w : Ended (record v { seen = c.seen }) n cs ds k l answer).
    subst (Grew v n) (sym w.none) (grew_nothing v n (ap (λ (z : StreamView). z.setup) w.stream)
    (ap (λ (z : StreamView). z.events) w.stream)))
    (λ (w : Stepped (record v { seen = c.seen }) n cs ds k l answer).
    grew_step v (pulled_once (record v { seen = c.seen })) n cs ds k l answer refl refl w.step)))
    c.way

-- a pull that isn't over was a step of an open stream
pub record SteppedOk (v n : StreamView) (cs ds : List ClientTold) (k l : CacheTold) (a : Step (Option (List ℕ)))
    : Type 0 where
  pub seen : ℕ
  pub later : v.seen ≤ seen
  pub still : IsOpen (record v { seen = seen })
  pub done : StepDone (pulled_once (record v { seen = seen })) n cs ds k l a

pub stepped_piece : (v n : StreamView) (cs ds : List ClientTold) (k l : CacheTold) (piece : List ℕ)
    → PullCall v n cs ds k l (Ok (Ready (Some piece))) → SteppedOk v n cs ds k l (Ready (Some piece))
stepped_piece v n cs ds k l piece c =
    ⊎_elim
    (λ (w : Closed (record v { seen = c.seen }) n cs ds k l (Ok (Ready (Some piece)))). absurd (let e = w.none in cc))
    (⊎_elim
    (λ (w : Refused (record v { seen = c.seen }) n cs ds k l (Ok (Ready (Some piece)))).
    absurd (let e = w.is_error in cc))
    (⊎_elim
    (λ (w : Ended (record v { seen = c.seen }) n cs ds k l (Ok (Ready (Some piece)))).
    absurd (let e = w.none in cc))
    (λ (w : Stepped (record v { seen = c.seen }) n cs ds k l (Ok (Ready (Some piece)))).
    record { seen = c.seen; later = c.later; still = w.still; done = w.step })))
    c.way

pub stepped_pending : (v n : StreamView) (cs ds : List ClientTold) (k l : CacheTold)
    → PullCall v n cs ds k l (Ok Pending) → SteppedOk v n cs ds k l Pending
stepped_pending v n cs ds k l c =
    ⊎_elim
    (λ (w : Closed (record v { seen = c.seen }) n cs ds k l (Ok Pending)). absurd (let e = w.none in cc))
    (⊎_elim
    (λ (w : Refused (record v { seen = c.seen }) n cs ds k l (Ok Pending)). absurd (let e = w.is_error in cc))
    (⊎_elim
    (λ (w : Ended (record v { seen = c.seen }) n cs ds k l (Ok Pending)). absurd (let e = w.none in cc))
    (λ (w : Stepped (record v { seen = c.seen }) n cs ds k l (Ok Pending)).
    record { seen = c.seen; later = c.later; still = w.still; done = w.step })))
    c.way

-- ---- what stands before the flag was asked, and before a pull was counted, stands after it

pub seen_open : (v : StreamView) (seen : ℕ) → v.seen ≤ seen → IsOpen (record v { seen = seen }) → IsOpen v
seen_open v seen le o = record { untold = o.untold; uncancelled = go v.cancelled refl (nat_lt 0 v.seen) refl }
  where
    rest : is_closed v.cancelled seen ≡ false
    rest = o.uncancelled

    go : (c : Bool) → v.cancelled ≡ c → (l : Bool) → nat_lt 0 v.seen ≡ l → is_closed v.cancelled v.seen ≡ false
    go true e l f = absurd (let z : true ≡ false =
        sym (ap (λ (x : Bool). x || nat_lt 0 seen) e) ∙ rest in cc)
    go false e false f = ap (λ (x : Bool). x || nat_lt 0 v.seen) e ∙ f
    go false e true f =
        let z : nat_lt 0 seen ≡ false = sym (ap (λ (x : Bool). x || nat_lt 0 seen) e) ∙ rest in
        absurd (let a : 0 < v.seen = ltb-true 0 v.seen f in
        let b : seen ≤ 0 = ltb-false 0 seen z in omega (arith, a, b, le))

pub seen_stands : (b : RunTold) (v : StreamView) (seen : ℕ) → v.seen ≤ seen → Stands b v
    → Stands b (record v { seen = seen })
seen_stands b v seen le h = record {
  true_of = h.true_of;
  starts = h.starts;
  led = λ o. h.led (seen_open v seen le o);
}

pub pulled_stands : (b : RunTold) (v : StreamView) → Stands b v → Stands b (pulled_once v)
pulled_stands b v h = record {
  true_of = h.true_of;
  starts = h.starts;
  led = λ o. h.led (record { untold = o.untold; uncancelled = o.uncancelled });
}
