-- What was heard of the connections, after one more step of them: the lists stay in step, and what was said stays said.
use Rattle.std.proofs.Common.{◌≡◌, ℕ, List, [], ◌∷◌, ◌++◌, length, refl, sym, subst, ◌∙◌, ap, arith, length-append, inl, inr, ⊎_elim}
use Rattle.std.specs.Prelude.{All, take}
use Rattle.std.specs.List.{AllZip}
use Rattle.std.proofs.lemmas.List.{append-nil}
use Rattle.std.proofs.lemmas.List.Elements.{All-cons, All-head, All-nil, All-push, All-tail, All-weaker, Contains-append_left}
use Rattle.xet_base.specs.declared.cas_types.FileRange.{FileRange}
use Rattle.xet_outside.specs.Answers.{AnswerTo, bytes_in, plans_in}
use Rattle.xet_outside.specs.Told.{ClientTold, Query}
use Rattle.xet_outside.specs.declared.block.BlockBytes.{BlockBytes}
use Rattle.xet_outside.specs.declared.plan.Plan.{Plan}
use Rattle.xet_outside.specs.declared.plan.PlanAnswer.{PlanAnswer}
use Rattle.xet_outside.specs.declared.said.Said.{Said}
use Rattle.xet_outside.specs.declared.served.Served.{Served}
use Rattle.xet_outside.proofs.CallerLemmas.{added_both, added_none, answer_before, bytes_both, plans_both}
use Rattle.xet_offers.specs.declared.reconstruction_terms.xorb_block.XorbBlock.{XorbBlock}
use Rattle.xet_offers.specs.declared.reconstruction_terms.xorb_block.XorbBlockData.{XorbBlockData}
use Rattle.xet_events.specs.declared.event.Event.{Event}
use Rattle.xet_events.specs.declared.event.Event.TheVariants.{Planned, Admit, Fetched, Cached, Expired, Refreshed, Wrote, Fail, Cancel}
use Rattle.xet_events.specs.Events.{Task}
use Rattle.xet_ties.specs.History.{entry_of}
use Rattle.xet_ties.specs.InCall.{EachExchange, EachGrew, Exchange, ExchangeGrew, IsExchange, Look, SomeOne, Place}
use Rattle.xet_ties.specs.Saids.{BlockOfPlan, EventPassed, FirstSaid, HasPassed, InStep, IsEventSaid, IsLookedData, IsPlanAccepted, IsServedData, IsTaskPiece, IsTested, IsTestedData, IsUnasked, PassedIn, TermOfPlan, planned_of, some_of}
use Rattle.xet_ties.specs.Setup.{Setup}
use Rattle.xet_ties.proofs.CutPlaces.{answer_of_more, cut_answer_more}
use Rattle.xet_ties.specs.Moves.{EachJoined, FirstQuery, JoinStep, QueryStep, heard_first, heard_join, no_exchange}

-- ---- lists of connections

pub exchange_start : (bs : List ClientTold) → EachExchange bs bs (no_exchange bs)
exchange_start [] = tt
exchange_start (b ∷ bs) = (
  record { asks = added_none b.asked b.asked refl; serves = added_none b.served b.served refl; says = added_none b.said b.said refl; paired = refl },
  exchange_start bs,
)

one_query : (b m n : ClientTold) (x : Exchange) (qs : List Query) (all : List Said) → QueryStep m n qs all → IsExchange b m x → IsExchange b n (record { asked = x.asked ++ qs; served = x.served; said = x.said ++ all })
one_query b m n x qs all s t = record {
  asks = added_both b.asked m.asked n.asked x.asked qs t.asks s.asked;
  serves = s.served ∙ t.serves;
  says = added_both b.said m.said n.said x.said all t.says s.said;
  paired = t.paired ∙ sym (ap (λ (l : List BlockBytes). length l) (bytes_both x.said all ∙ ap (λ (l : List BlockBytes). bytes_in x.said ++ l) s.quiet ∙ append-nil (bytes_in x.said)));
}

-- the first connection was asked and said this
pub exchange_query : (bs ms ns : List ClientTold) (xs : List Exchange) (qs : List Query) (all : List Said) → FirstQuery ms ns qs all → EachExchange bs ms xs → EachExchange bs ns (heard_first qs all xs)
exchange_query [] [] ns xs qs all f h = absurd f
exchange_query (b ∷ bs) [] ns xs qs all f h = absurd f
exchange_query bs (m ∷ ms) [] xs qs all f h = absurd f
exchange_query [] (m ∷ ms) (n ∷ ns) xs qs all f h = absurd h
exchange_query (b ∷ bs) (m ∷ ms) (n ∷ ns) [] qs all f h = absurd h
exchange_query (b ∷ bs) (m ∷ ms) (n ∷ ns) (x ∷ xs) qs all f h = (one_query b m n x qs all f.0 h.0, subst (λ (l : List ClientTold). EachExchange bs l xs) (sym f.1) h.1)

one_join : (b m n : ClientTold) (x : Exchange) (h : List Served) (a : List Said) (k : List Place) → JoinStep m n h a k → IsExchange b m x → IsExchange b n (record { asked = x.asked; served = x.served ++ h; said = x.said ++ a })
one_join b m n x h a k s t = record {
  asks = s.asked ∙ t.asks;
  serves = added_both b.served m.served n.served x.served h t.serves s.pairs.serves;
  says = added_both b.said m.said n.said x.said a t.says s.pairs.says;
  paired =
      let u = ap (λ (l : List BlockBytes). length l) (bytes_both x.said a) in
      let v = length-append (bytes_in x.said) (bytes_in a) in
      let w = length-append x.served h in
      let y = t.paired in
      let z = s.pairs.paired in
      omega (arith, u, v, w, y, z);
}

-- the lanes came back from a join
pub exchange_join : (bs ms ns : List ClientTold) (hs : List (List Served)) (alls : List (List Said)) (ks : List (List Place)) (xs : List Exchange) → EachJoined ms ns hs alls ks → EachExchange bs ms xs → EachExchange bs ns (heard_join hs alls xs)
exchange_join [] (m ∷ ms) ns hs alls ks xs j h = absurd h
exchange_join [] [] ns hs alls ks (x ∷ xs) j h = absurd h
exchange_join [] [] (n ∷ ns) hs alls ks [] j h = absurd j
exchange_join [] [] [] (g ∷ hs) alls ks [] j h = absurd j
exchange_join [] [] [] [] (a ∷ alls) ks [] j h = absurd j
exchange_join [] [] [] [] [] (k ∷ ks) [] j h = absurd j
exchange_join [] [] [] [] [] [] [] j h = tt
exchange_join (b ∷ bs) [] ns hs alls ks xs j h = absurd h
exchange_join (b ∷ bs) (m ∷ ms) ns hs alls ks [] j h = absurd (none ns h)
  where
    none : (l : List ClientTold) → EachExchange (b ∷ bs) (m ∷ ms) [] → ⊥
    none l e = e
exchange_join (b ∷ bs) (m ∷ ms) [] hs alls ks (x ∷ xs) j h = absurd j
exchange_join (b ∷ bs) (m ∷ ms) (n ∷ ns) [] alls ks (x ∷ xs) j h = absurd j
exchange_join (b ∷ bs) (m ∷ ms) (n ∷ ns) (g ∷ hs) [] ks (x ∷ xs) j h = absurd j
exchange_join (b ∷ bs) (m ∷ ms) (n ∷ ns) (g ∷ hs) (a ∷ alls) [] (x ∷ xs) j h = absurd j
exchange_join (b ∷ bs) (m ∷ ms) (n ∷ ns) (g ∷ hs) (a ∷ alls) (k ∷ ks) (x ∷ xs) j h = (one_join b m n x g a k j.0 h.0, exchange_join bs ms ns hs alls ks xs j.1 h.1)

-- ---- lists that match, one for each connection, without answers to queries

abbrev pub Match : List (List Served) → List (List Said) → List Exchange → Type 0
Match [] [] [] = Unit {0}
Match (h ∷ hs) (a ∷ alls) (x ∷ xs) = (plans_in a ≡ []) × Match hs alls xs
Match hs alls xs = ⊥

pub join_match : (bs ms ns : List ClientTold) (hs : List (List Served)) (alls : List (List Said)) (ks : List (List Place)) (xs : List Exchange) → EachJoined ms ns hs alls ks → EachExchange bs ms xs → Match hs alls xs
join_match [] (m ∷ ms) ns hs alls ks xs j h = absurd h
join_match [] [] ns hs alls ks (x ∷ xs) j h = absurd h
join_match [] [] (n ∷ ns) hs alls ks [] j h = absurd j
join_match [] [] [] (g ∷ hs) alls ks [] j h = absurd j
join_match [] [] [] [] (a ∷ alls) ks [] j h = absurd j
join_match [] [] [] [] [] (k ∷ ks) [] j h = absurd j
join_match [] [] [] [] [] [] [] j h = tt
join_match (b ∷ bs) [] ns hs alls ks xs j h = absurd h
join_match (b ∷ bs) (m ∷ ms) ns hs alls ks [] j h = absurd (none ns h)
  where
    none : (l : List ClientTold) → EachExchange (b ∷ bs) (m ∷ ms) [] → ⊥
    none l e = e
join_match (b ∷ bs) (m ∷ ms) [] hs alls ks (x ∷ xs) j h = absurd j
join_match (b ∷ bs) (m ∷ ms) (n ∷ ns) [] alls ks (x ∷ xs) j h = absurd j
join_match (b ∷ bs) (m ∷ ms) (n ∷ ns) (g ∷ hs) [] ks (x ∷ xs) j h = absurd j
join_match (b ∷ bs) (m ∷ ms) (n ∷ ns) (g ∷ hs) (a ∷ alls) [] (x ∷ xs) j h = absurd j
join_match (b ∷ bs) (m ∷ ms) (n ∷ ns) (g ∷ hs) (a ∷ alls) (k ∷ ks) (x ∷ xs) j h = (j.0.quiet, join_match bs ms ns hs alls ks xs j.1 h.1)

-- ---- lists that have grown

grew_self : (x : Exchange) → ExchangeGrew x x
grew_self x = record { asked = []; served = []; said = []; is_asked = sym (append-nil x.asked); is_served = sym (append-nil x.served); is_said = sym (append-nil x.said) }

pub grew_none : (xs : List Exchange) → EachGrew xs xs
grew_none [] = tt
grew_none (x ∷ xs) = (grew_self x, grew_none xs)

pub grew_first : (qs : List Query) (all : List Said) (xs : List Exchange) → EachGrew xs (heard_first qs all xs)
grew_first qs all [] = tt
grew_first qs all (x ∷ xs) = (record { asked = qs; served = []; said = all; is_asked = refl; is_served = sym (append-nil x.served); is_said = refl }, grew_none xs)

pub grew_join : (hs : List (List Served)) (alls : List (List Said)) (xs : List Exchange) → Match hs alls xs → EachGrew xs (heard_join hs alls xs)
grew_join [] [] [] m = tt
grew_join [] [] (x ∷ xs) m = absurd m
grew_join [] (a ∷ alls) xs m = absurd m
grew_join (h ∷ hs) [] xs m = absurd m
grew_join (h ∷ hs) (a ∷ alls) [] m = absurd m
grew_join (h ∷ hs) (a ∷ alls) (x ∷ xs) m = (record { asked = []; served = h; said = a; is_asked = sym (append-nil x.asked); is_served = refl; is_said = refl }, grew_join hs alls xs m.1)

-- ---- what was said stays said

block_answer_more : (x y : Exchange) (e : Served) (b : BlockBytes) → ExchangeGrew x y → AnswerTo x.served x.said e b → AnswerTo y.served y.said e b
block_answer_more x y e b w t =
    subst (λ (l : List Said). AnswerTo y.served l e b) (sym w.is_said)
    (subst (λ (l : List Served). AnswerTo l (x.said ++ w.said) e b) (sym w.is_served) (answer_before x.served w.served x.said w.said e b t))

event_more : (g : Setup) (x y : Exchange) (e : Event) → ExchangeGrew x y → IsEventSaid g x e → IsEventSaid g y e
event_more g x y (Planned plan query terms blocks) w h = record { answer = h.answer; said = answer_of_more x y plan (g.file, query) h.answer w h.said; made = h.made }
event_more g x y (Admit limit) w h = tt
event_more g x y (Fetched lane plan block) w h = tt
event_more g x y (Cached plan block) w h = tt
event_more g x y (Expired lane plan block) w h = tt
event_more g x y (Refreshed plan) w h = tt
event_more g x y (Wrote taken) w h = tt
event_more g x y (Fail error) w h = tt
event_more g x y Cancel w h = tt

-- the events that the first connection's answers make, after one more
pub said_push : (g : Setup) (es : List Event) (e : Event) (xs : List Exchange) → ((x : Exchange) → IsEventSaid g x e) → FirstSaid g es xs → FirstSaid g (es ++ e ∷ []) xs
said_push g es e [] h t = absurd t
said_push g es e (x ∷ xs) h t = (All-push (IsEventSaid g x) es e t.0 (h x), t.1)

-- and after a plan that the first connection said
abbrev pub FirstEvent : Setup → List Exchange → Event → Type 0
FirstEvent g [] e = ⊥
FirstEvent g (x ∷ xs) e = IsEventSaid g x e

pub said_planned : (g : Setup) (es : List Event) (e : Event) (xs : List Exchange) → FirstEvent g xs e → FirstSaid g es xs → FirstSaid g (es ++ e ∷ []) xs
said_planned g es e [] h t = absurd t
said_planned g es e (x ∷ xs) h t = (All-push (IsEventSaid g x) es e t.0 h, t.1)

pub said_query : (g : Setup) (es : List Event) (qs : List Query) (all : List Said) (xs : List Exchange) → FirstSaid g es xs → FirstSaid g es (heard_first qs all xs)
said_query g es qs all [] t = absurd t
said_query g es qs all (x ∷ xs) t =
    let y : Exchange = record { asked = x.asked ++ qs; served = x.served; said = x.said ++ all } in
    let w : ExchangeGrew x y = record { asked = qs; served = []; said = all; is_asked = refl; is_served = sym (append-nil x.served); is_said = refl } in
    (All-weaker (IsEventSaid g x) (IsEventSaid g y) (λ e h. event_more g x y e w h) es t.0, t.1)

unasked_join : (hs : List (List Served)) (alls : List (List Said)) (xs : List Exchange) → Match hs alls xs → All IsUnasked xs → All IsUnasked (heard_join hs alls xs)
unasked_join [] [] [] m t = All-nil IsUnasked
unasked_join [] [] (x ∷ xs) m t = absurd m
unasked_join [] (a ∷ alls) xs m t = absurd m
unasked_join (h ∷ hs) [] xs m t = absurd m
unasked_join (h ∷ hs) (a ∷ alls) [] m t = absurd m
unasked_join (h ∷ hs) (a ∷ alls) (x ∷ xs) m t =
    let one = All-head IsUnasked x xs t in
    let now : IsUnasked (record { asked = x.asked; served = x.served ++ h; said = x.said ++ a }) = record { asked = one.asked; plans = plans_both x.said a ∙ ap (λ (l : List PlanAnswer). l ++ plans_in a) one.plans ∙ m.0 } in
    All-cons IsUnasked _ (heard_join hs alls xs) now (unasked_join hs alls xs m.1 (All-tail IsUnasked x xs t))

pub said_join : (g : Setup) (es : List Event) (hs : List (List Served)) (alls : List (List Said)) (xs : List Exchange) → Match hs alls xs → FirstSaid g es xs → FirstSaid g es (heard_join hs alls xs)
said_join g es hs alls [] m t = absurd t
said_join g es [] [] (x ∷ xs) m t = absurd m
said_join g es [] (a ∷ alls) (x ∷ xs) m t = absurd m
said_join g es (h ∷ hs) [] (x ∷ xs) m t = absurd m
said_join g es (h ∷ hs) (a ∷ alls) (x ∷ xs) m t =
    let y : Exchange = record { asked = x.asked; served = x.served ++ h; said = x.said ++ a } in
    let w : ExchangeGrew x y = record { asked = []; served = h; said = a; is_asked = sym (append-nil x.asked); is_served = refl; is_said = refl } in
    (All-weaker (IsEventSaid g x) (IsEventSaid g y) (λ e k. event_more g x y e w k) es t.0, unasked_join hs alls xs m.1 t.1)

-- ---- answers in step with queries

pub step_start : (b : ClientTold) (bs : List ClientTold) → InStep (no_exchange (b ∷ bs))
step_start b bs = refl

pub step_query : (qs : List Query) (all : List Said) (xs : List Exchange) → length qs ≡ length (plans_in all) → InStep xs → InStep (heard_first qs all xs)
step_query qs all [] h t = absurd t
step_query qs all (x ∷ xs) h t =
    let u = ap (λ (l : List PlanAnswer). length l) (plans_both x.said all) in
    let v = length-append (plans_in x.said) (plans_in all) in
    let w = length-append x.asked qs in
    omega (arith, h, t, u, v, w)

pub step_join : (hs : List (List Served)) (alls : List (List Said)) (xs : List Exchange) → Match hs alls xs → InStep xs → InStep (heard_join hs alls xs)
step_join hs alls [] m t = absurd t
step_join [] [] (x ∷ xs) m t = absurd m
step_join [] (a ∷ alls) (x ∷ xs) m t = absurd m
step_join (h ∷ hs) [] (x ∷ xs) m t = absurd m
step_join (h ∷ hs) (a ∷ alls) (x ∷ xs) m t = t ∙ sym (ap (λ (l : List PlanAnswer). length l) (plans_both x.said a ∙ ap (λ (l : List PlanAnswer). plans_in x.said ++ l) m.0 ∙ append-nil (plans_in x.said)))

-- ---- tested bytes stay so

abbrev pub accepted_more : (g : Setup) (xs ys : List Exchange) (p : Plan) (q : FileRange) → EachGrew xs ys → IsPlanAccepted g xs p q → IsPlanAccepted g ys p q
accepted_more g xs ys p q w t = record {
  said = record { number = t.said.number; answer = cut_answer_more g.file xs ys t.said.number q _ w t.said.answer; some = t.said.some; from = t.said.from; to = t.said.to };
  passes = t.passes;
}

abbrev pub block_more : (g : Setup) (xs ys : List Exchange) → EachGrew xs ys → BlockOfPlan g xs → BlockOfPlan g ys
block_more g xs ys w b = record { plan = b.plan; query = b.query; accepted = accepted_more g xs ys b.plan b.query w b.accepted; number = b.number; block = b.block; numbered = b.numbered }

abbrev pub term_more : (g : Setup) (xs ys : List Exchange) → EachGrew xs ys → TermOfPlan g xs → TermOfPlan g ys
term_more g xs ys w t = record { place = block_more g xs ys w t.place; term = t.term; listed = t.listed; of_term = t.of_term }

pub served_more : (xs ys : List Exchange) (p k : ℕ) (b : XorbBlock) (d : XorbBlockData) → EachGrew xs ys → SomeOne (λ x. IsServedData x p k b d) xs → SomeOne (λ x. IsServedData x p k b d) ys
served_more [] ys p k b d w t = absurd t
served_more (x ∷ xs) [] p k b d w t = absurd w
served_more (x ∷ xs) (y ∷ ys) p k b d w t =
    ⊎_elim
    (λ (h : IsServedData x p k b d). inl (record { given = h.given; answer = block_answer_more x y (entry_of p k (planned_of b)) h.given w.0 h.answer; passes = h.passes; made = h.made }))
    (λ (h : SomeOne (λ x. IsServedData x p k b d) xs). inr (served_more xs ys p k b d w.1 h))
    t

-- bytes that passed stay so
bytes_passed_more : (xs ys : List Exchange) (p k : ℕ) (b : XorbBlock) → EachGrew xs ys → SomeOne (PassedIn b p k) xs → SomeOne (PassedIn b p k) ys
bytes_passed_more [] ys p k b w t = absurd t
bytes_passed_more (x ∷ xs) [] p k b w t = absurd w
bytes_passed_more (x ∷ xs) (y ∷ ys) p k b w t =
    ⊎_elim
    (λ (h : PassedIn b p k x). inl (record { given = h.given; answer = block_answer_more x y (entry_of p k (planned_of b)) h.given w.0 h.answer; passes = h.passes }))
    (λ (h : SomeOne (PassedIn b p k) xs). inr (bytes_passed_more xs ys p k b w.1 h))
    t

pub has_passed_more : (g : Setup) (xs ys : List Exchange) (p k : ℕ) → EachGrew xs ys → HasPassed g xs p k → HasPassed g ys p k
has_passed_more g xs ys p k w h = record { place = block_more g xs ys w h.place; own = h.own; index = h.index; bytes = bytes_passed_more xs ys p k h.place.block w h.bytes }

event_passed_more : (g : Setup) (xs ys : List Exchange) (e : Event) → EachGrew xs ys → EventPassed g xs e → EventPassed g ys e
event_passed_more g xs ys (Fetched lane plan block) w h = has_passed_more g xs ys plan block w h
event_passed_more g xs ys (Planned plan query terms blocks) w h = tt
event_passed_more g xs ys (Admit limit) w h = tt
event_passed_more g xs ys (Cached plan block) w h = tt
event_passed_more g xs ys (Expired lane plan block) w h = tt
event_passed_more g xs ys (Refreshed plan) w h = tt
event_passed_more g xs ys (Wrote taken) w h = tt
event_passed_more g xs ys (Fail error) w h = tt
event_passed_more g xs ys Cancel w h = tt

pub passed_more : (g : Setup) (xs ys : List Exchange) (es : List Event) → EachGrew xs ys → All (EventPassed g xs) es → All (EventPassed g ys) es
passed_more g xs ys es w a = All-weaker (EventPassed g xs) (EventPassed g ys) (λ e h. event_passed_more g xs ys e w h) es a

-- tested data stays tested
pub tested_data_more : (xs ys : List Exchange) (looks more : List Look) (p k : ℕ) (b : XorbBlock) (d : XorbBlockData) → EachGrew xs ys → IsTestedData xs looks p k b d → IsTestedData ys (looks ++ more) p k b d
tested_data_more xs ys looks more p k b d w t =
    ⊎_elim
    (λ (h : SomeOne (λ x. IsServedData x p k b d) xs). inl (served_more xs ys p k b d w h))
    (λ (h : IsLookedData looks b d). inr (record { range = h.range; given = h.given; one = h.one; looked = Contains-append_left looks more _ h.looked; passes = h.passes; made = h.made }))
    t

piece_more : (g : Setup) (xs ys : List Exchange) (looks more : List Look) → EachGrew xs ys → (t : Task) (piece : List ℕ) → IsTaskPiece g xs looks t piece → IsTaskPiece g ys (looks ++ more) t piece
piece_more g xs ys looks more w t piece h = record {
  of_plan = term_more g xs ys w h.of_plan;
  own = h.own;
  is = h.is;
  piece_of = record {
    data_of = h.piece_of.data_of;
    tested = tested_data_more xs ys looks more t.plan h.of_plan.place.number h.of_plan.place.block h.piece_of.data_of w h.piece_of.tested;
    passes = h.piece_of.passes;
    bytes = h.piece_of.bytes;
  };
}

pub zip_weaker : {A B : Type 0} (R Q : A → B → Type 0) → ((x : A) (y : B) → R x y → Q x y) → (xs : List A) (ys : List B) → AllZip R xs ys → AllZip Q xs ys
zip_weaker R Q f [] [] z = tt
zip_weaker R Q f [] (y ∷ ys) z = absurd z
zip_weaker R Q f (x ∷ xs) [] z = absurd z
zip_weaker R Q f (x ∷ xs) (y ∷ ys) z = (f x y z.0, zip_weaker R Q f xs ys z.1)

pub tested_grew : (g : Setup) (xs ys : List Exchange) (looks more : List Look) (es : List Event) (taken : List ℕ) → EachGrew xs ys → IsTested g xs looks es taken → IsTested g ys (looks ++ more) es taken
tested_grew g xs ys looks more es taken w t = record {
  pieces = t.pieces;
  each = zip_weaker (IsTaskPiece g xs looks) (IsTaskPiece g ys (looks ++ more)) (piece_more g xs ys looks more w) (take (length t.pieces) (some_of es)) t.pieces t.each;
  from = t.from;
}
