-- The items of an unordered stream: where they stand, and what they join to.
use Rattle.std.proofs.Common.{◌≡◌, ◌⊎◌, ⊎_elim, inl, inr, ℕ, zero, suc, ◌+◌, ◌≤◌, ◌<◌, true, false, List, [], ◌∷◌, ◌++◌, length, take, drop, refl, sym, subst, ◌∙◌, ap, arith, append_assoc, Option, Some, None, Ok, Err}
use Rattle.std.specs.Prelude.{All, IfSome, map, slice_get}
use Rattle.std.specs.List.{flat_map}
use Rattle.std.proofs.lemmas.Bool.{ltb-true}
use Rattle.std.proofs.lemmas.List.{append-nil, map-append, take_all}
use Rattle.std.proofs.lemmas.List.Elements.{All-cons, All-head, All-nil, All-tail}
use Rattle.xet_base.specs.declared.cas_types.FileRange.{FileRange}
use Rattle.xet_base.specs.Store.{Store, IsValid, window}
use Rattle.xet_outside.specs.Told.{CacheTold, ClientTold}
use Rattle.xet_error.specs.declared.error.FileReconstructionError.{FileReconstructionError}
use Rattle.xet_error.specs.declared.error.FileReconstructionError.TheVariants as error
use Rattle.xet_events.specs.declared.event.Event.{Event}
use Rattle.xet_events.specs.declared.event.Event.TheVariants.{Wrote}
use Rattle.xet_events.specs.Allowed.{IsAllowedHistory}
use Rattle.xet_events.specs.Limits.{LimitTold}
use Rattle.xet_events.specs.Events.{Task, planned, size}
use Rattle.xet_history.specs.TrueHistory.{IsTrueEvent, IsTrueHistory, task_piece}
use Rattle.xet_ties.specs.Saids.{some_of}
use Rattle.xet_ties.specs.Setup.{CacheTells, IsOver, Setup, download_of}
use Rattle.xet_ties.specs.Ties.{FirstStarts}
use Rattle.xet_leader.specs.Led.{Led}
use Rattle.xet_leader.specs.LedTerms.{IsPieceIn, PlanTerm, ahead, task_of}
use Rattle.xet_leader.proofs.CallerLemmas.{honest_bytes}
use Rattle.xet_stream_rules.specs.declared.step.Step.TheVariants.{Pending, Ready}
use Rattle.xet_stream_rules.specs.Pulls.{Answer, Closed, Ended, IsTold, IsUnasked, PullCall, Refused, Stepped, pulled_once}
use Rattle.xet_stream_rules.specs.StreamLaws.{MayCancel}
use Rattle.xet_stream_rules.specs.Streams.{Carries, IsAtEnd, IsOpen, Stands, StreamView, TellsAs, delivered, everybody, next_term}
use Rattle.xet_stream_rules.specs.Unordered.{Ascend, Differ, IsIn, IsPlaced, Item, ItemAnswer, UnorderedView, items_in, items_of, new_unordered, offset_of}
use Rattle.xet_stream_rules.proofs.CallerLemmas.{get_none}
use Rattle.xet_streams.specs.AnyOrder.{StandsOn}
use Rattle.xet_unordered_streams.specs.ItemLaws.{ItemOver, ItemPulls, ItemsArePlaced, ItemsJoin}
use Rattle.xet_unordered_streams.specs.Items.{AfterPull, AfterStep, FailsDue, GivesDue, GivesNext, GivesNow, GoesShort, ItemCall, PullsItem, ServesItem, ServesVain, StepsItem, seen_so}
use Rattle.xet_unordered_streams.proofs.Dues.{due_place, led_term}
use Rattle.xet_unordered_streams.proofs.Given.{earlier, in_append, same_place, some_more}
use Rattle.xet_unordered_streams.proofs.Grown.{front_same, grew, grew_failed, grew_told, pulled_stands, seen_stands, stepped_piece}
use Rattle.xet_unordered_streams.proofs.TrueItems.{all_pieces, placed_at}

-- ---- ascending items

-- each item's offset is at or past a number, and past the one before it
abbrev From : ℕ → List Item → Type 0
From lo [] = Unit {0}
From lo (x ∷ xs) = (lo ≤ x.0) × From (x.0 + 1) xs

from_ascend : (lo : ℕ) (xs : List Item) (x : Item) → lo ≤ x.0 → Ascend (map (λ (x : Item). x.0) (x ∷ xs))
    → From lo (x ∷ xs)
from_ascend lo [] x h a = (h, tt)
from_ascend lo (y ∷ ys) x h a = let k : x.0 < y.0 = a.0 in (h, from_ascend (x.0 + 1) ys y (omega (arith, k)) a.1)

from_all : (xs : List Item) → Ascend (map (λ (x : Item). x.0) xs) → From 0 xs
from_all [] a = tt
from_all (x ∷ xs) a = from_ascend 0 xs x (omega arith) a

in_from : (lo : ℕ) (xs : List Item) (x : Item) → From lo xs → IsIn x xs → lo ≤ x.0
in_from lo [] x f i = absurd i
in_from lo (y ∷ ys) x f i =
    ⊎_elim (λ (e : x ≡ y). let k : x.0 ≡ y.0 = ap (λ (z : Item). z.0) e in let h = f.0 in omega (arith, k, h))
    (λ (h : IsIn x ys). let k = in_from (y.0 + 1) ys x f.1 h in let l = f.0 in omega (arith, k, l)) i

-- what a map gives comes from something
pub comes : {A B : Type 0} (f : A → B) (y : B) (xs : List A) → IsIn y (map f xs) → (x : A) × IsIn x xs × (y ≡ f x)
comes f y [] h = absurd h
comes f y (x ∷ xs) h =
    ⊎_elim (λ (e : y ≡ f x). (x, inl refl, e))
    (λ (k : IsIn y (map f xs)). let r = comes f y xs k in (r.0, inr r.1, r.2)) h

-- ascending lists of the same items are one
same_list : (lo hi : ℕ) (xs ys : List Item) → From lo xs → From hi ys → ((x : Item) → IsIn x xs → IsIn x ys)
    → ((x : Item) → IsIn x ys → IsIn x xs) → xs ≡ ys
same_list lo hi [] [] f g a b = refl
same_list lo hi [] (y ∷ ys) f g a b = absurd (b y (inl refl))
same_list lo hi (x ∷ xs) [] f g a b = absurd (a x (inl refl))
same_list lo hi (x ∷ xs) (y ∷ ys) f g a b =
    let e : x ≡ y =
    ⊎_elim (λ (e : x ≡ y). e)
    (λ (h : IsIn x ys). ⊎_elim (λ (e : y ≡ x). sym e)
    (λ (k : IsIn y xs). let m = in_from (y.0 + 1) ys x g.1 h in let n = in_from (x.0 + 1) xs y f.1 k in
    absurd (omega (arith, m, n))) (b y (inl refl)))
    (a x (inl refl)) in
    let at : x.0 ≡ y.0 = ap (λ (z : Item). z.0) e in
    ap (λ (z : Item). z ∷ xs) e
    ∙ ap (λ (l : List Item). y ∷ l) (same_list (x.0 + 1) (y.0 + 1) xs ys f.1 g.1
    (λ z i. ⊎_elim (λ (k : z ≡ y). let m = in_from (x.0 + 1) xs z f.1 i in
    let n : z.0 ≡ y.0 = ap (λ (w : Item). w.0) k in absurd (omega (arith, m, n, at)))
    (λ (k : IsIn z ys). k) (a z (inr i)))
    (λ z i. ⊎_elim (λ (k : z ≡ x). let m = in_from (y.0 + 1) ys z g.1 i in
    let n : z.0 ≡ x.0 = ap (λ (w : Item). w.0) k in absurd (omega (arith, m, n, at)))
    (λ (k : IsIn z xs). k) (b z (inr i))))

differ_push : (xs : List ℕ) (x : ℕ) → Differ xs → (IsIn x xs → ⊥) → Differ (xs ++ x ∷ [])
differ_push [] x d h = ((λ i. i), tt)
differ_push (y ∷ ys) x d h = (
  (λ i. ⊎_elim (λ (k : IsIn y ys). d.0 k)
      (λ (k : IsIn y (x ∷ [])). ⊎_elim (λ (e : y ≡ x). h (inl (sym e))) (λ (z : ⊥). z) k)
      (in_append y ys (x ∷ []) i)),
  differ_push ys x d.1 (λ i. h (inr i)),
)

-- each number below each later one
ascending : {A : Type 0} (f : A → ℕ) (xs : List A) → ((i j : ℕ) (x y : A) → slice_get xs i ≡ Some x
    → slice_get xs j ≡ Some y → i < j → f x < f y) → Ascend (map f xs)
ascending f [] h = tt
ascending f (x ∷ []) h = tt
ascending f (x ∷ y ∷ ys) h = (
  h 0 1 x y refl refl (omega arith),
  ascending f (y ∷ ys) (λ i j u w a b k. h (suc i) (suc j) u w a b (omega (arith, k))),
)

map_map : {A B C : Type 0} (f : A → B) (k : B → C) (xs : List A) → map k (map f xs) ≡ map (λ x. k (f x)) xs
map_map f k [] = refl
map_map f k (x ∷ xs) = ap (λ l. k (f x) ∷ l) (map_map f k xs)

in_map : {A B : Type 0} (f : A → B) (x : A) (xs : List A) → IsIn x xs → IsIn (f x) (map f xs)
in_map f x [] i = absurd i
in_map f x (y ∷ ys) (inl e) = inl (ap f e)
in_map f x (y ∷ ys) (inr k) = inr (in_map f x ys k)

in_at : {A : Type 0} (xs : List A) (i : ℕ) (x : A) → slice_get xs i ≡ Some x → IsIn x xs
in_at [] i x h = absurd (cc)
in_at (y ∷ ys) zero x h = let e : y ≡ x = cc in inl (sym e)
in_at (y ∷ ys) (suc i) x h = inr (in_at ys i x h)

at_in : {A : Type 0} (xs : List A) (x : A) → IsIn x xs → (i : ℕ) × (slice_get xs i ≡ Some x)
at_in [] x i = absurd i
at_in (y ∷ ys) x (inl e) = (0, ap (λ z. Some z) (sym e))
at_in (y ∷ ys) x (inr k) = let r = at_in ys x k in (suc r.0, r.1)

each_in : {A : Type 0} (P : A → Type 0) (xs : List A) (x : A) → All P xs → IsIn x xs → P x
each_in P [] x a i = absurd i
each_in P (y ∷ ys) x a (inl e) = subst P (sym e) (All-head P y ys a)
each_in P (y ∷ ys) x a (inr k) = each_in P ys x (All-tail P y ys a) k

all_in : {A : Type 0} (P : A → Type 0) (xs : List A) → ((x : A) → IsIn x xs → P x) → All P xs
all_in P [] f = All-nil P
all_in P (x ∷ xs) f = All-cons P x xs (f x (inl refl)) (all_in P xs (λ y i. f y (inr i)))

-- ---- items of planned terms

abbrev item_of : Store → FileRange → Task → Item
item_of s r t = (offset_of r t, task_piece s t)

-- it is the item of a planned term with bytes
record IsItem (s : Store) (r : FileRange) (es : List Event) (item : Item) : Type 0 where
  pub place : ℕ
  pub term : Task
  pub at : slice_get (some_of es) place ≡ Some term
  pub is : item ≡ item_of s r term
  pub some : 0 < length item.1

item_more : (s : Store) (r : FileRange) (es new : List Event) (item : Item) → IsItem s r es item
    → IsItem s r (es ++ new) item
item_more s r es new item i = record {
  place = i.place;
  term = i.term;
  at = some_more es new i.place i.term i.at;
  is = i.is;
  some = i.some;
}

everybody_is : (s : Store) (t : Store) → IsOver t (everybody s).clients → s ≡ t
everybody_is s t o = let e : Some s ≡ Some t = o.tell.0 in cc

tells : (s : Store) (cs : List ClientTold) (k : CacheTold) → IsOver s cs → CacheTells s k → TellsAs (everybody s) cs k
tells s cs k over cache = record {
  clients = λ t o. subst (λ (z : Store). IsOver z cs) (everybody_is s t o) over;
  cache = λ t o c. subst (λ (z : Store). CacheTells z k) (everybody_is s t o) cache;
}

-- what a leader keeps over a store has the term's own piece
led_piece : (s : Store) → IsValid s → (v : StreamView) (l : Led) (skip : ℕ) (t : PlanTerm) (piece : List ℕ)
    → IsOpen v → Stands (everybody s) v → v.led ≡ Some l → slice_get (ahead l) skip ≡ Some t → IsPieceIn t piece
    → piece ≡ task_piece s (task_of t)
led_piece s valid v l skip t piece still stands is there p =
    let c : Carries (everybody s) v.setup v.events l =
    subst (λ (o : Option Led). IfSome o (Carries (everybody s) v.setup v.events)) is (stands.led still) in
    p.bytes ∙ honest_bytes v.setup (everybody s) v.events c.slack [] t
    (led_term (everybody s) v.setup v.events l c skip t there) p.data_of p.kept s
    (record { tell = (refl, tt); valid = valid }) (All-nil _)

-- ---- one pull

-- what a pull adds to a stream and to its places
record Adds (s : Store) (b n : UnorderedView) (answer : ItemAnswer) : Type 0 where
  pub more : List Event
  pub setup : n.stream.setup ≡ b.stream.setup
  pub events : n.stream.events ≡ b.stream.events ++ more
  pub places : n.delivered ≡ b.delivered ++ map (λ (x : Item). x.0) (items_in answer)
  pub each : (item : Item) → IsIn item (items_in answer) → IsItem s b.stream.setup.range n.stream.events item
  pub once : (item : Item) → IsIn item (items_in answer) → IsIn item.0 b.delivered → ⊥

module _ (s : Store) (valid : IsValid s) where
  -- nothing is given
  adds_none : (b n : UnorderedView) (answer : ItemAnswer) → items_in answer ≡ [] → (more : List Event)
      → n.stream.setup ≡ b.stream.setup → n.stream.events ≡ b.stream.events ++ more → n.delivered ≡ b.delivered
      → Adds s b n answer
  adds_none b n answer none more setup events places = record {
    more = more;
    setup = setup;
    events = events;
    places = places ∙ sym (append-nil b.delivered)
        ∙ sym (ap (λ (l : List Item). b.delivered ++ map (λ (x : Item). x.0) l) none);
    each = λ item i. absurd (subst (λ (l : List Item). IsIn item l) none i);
    once = λ item i. absurd (subst (λ (l : List Item). IsIn item l) none i);
  }

  -- a due term is given
  adds_due : (b v n : UnorderedView) (item : Item) → (more : List Event) → v.stream.setup ≡ b.stream.setup
      → v.stream.events ≡ b.stream.events ++ more → v.delivered ≡ b.delivered → Stands (everybody s) v.stream
      → GivesDue v n item → Adds s b n (Ok (Ready (Some item)))
  adds_due b v n item more setup events places stands d =
      let same : n.stream ≡ v.stream = ap (λ (z : UnorderedView). z.stream) d.is in
      let r : v.stream.setup.range ≡ b.stream.setup.range = ap (λ (z : Setup). z.range) setup in
      let piece = led_piece s valid v.stream d.led d.skip d.term item.1 d.still stands d.is_led d.there d.bytes in
      let place : item.0 ≡ offset_of b.stream.setup.range (task_of d.term) =
      d.at ∙ ap (λ (z : FileRange). offset_of z (task_of d.term)) r in
      let found = due_place v (task_of d.term) d.due in
      let one : IsItem s b.stream.setup.range n.stream.events item = record {
        place = found.0;
        term = task_of d.term;
        at = ap (λ (z : StreamView). slice_get (some_of z.events) found.0) same ∙ found.1;
        is = ap (λ (o : ℕ). (o, item.1)) place
            ∙ ap (λ (xs : List ℕ). (offset_of b.stream.setup.range (task_of d.term), xs)) piece;
        some = let z = d.sized in let w = ltb-true 0 (size (task_of d.term)) d.due.some in omega (arith, z, w);
      } in
      record {
        more = more;
        setup = ap (λ (z : StreamView). z.setup) same ∙ setup;
        events = ap (λ (z : StreamView). z.events) same ∙ events;
        places = ap (λ (z : UnorderedView). z.delivered) d.is ∙ ap (λ (l : List ℕ). l ++ item.0 ∷ []) places;
        each = λ x i. ⊎_elim (λ (e : x ≡ item).
            subst (λ (z : Item). IsItem s b.stream.setup.range n.stream.events z) (sym e) one)
            (λ (z : ⊥). absurd z) i;
        once = λ x i k. ⊎_elim (λ (e : x ≡ item). d.due.new (subst (λ (l : List ℕ). IsIn (offset_of v.stream.setup.range
            (task_of d.term)) l) (sym places) (subst (λ (o : ℕ). IsIn o b.delivered)
            (ap (λ (z : Item). z.0) e ∙ d.at) k))) (λ (z : ⊥). z) i;
      }

  -- the next term's piece is given
  adds_next : (b v n : UnorderedView) (middle : StreamView) (piece : List ℕ) (item : Item) (cs ds : List ClientTold)
      (k l : CacheTold) → (more : List Event) → v.stream.setup ≡ b.stream.setup
      → v.stream.events ≡ b.stream.events ++ more → v.delivered ≡ b.delivered → Stands (everybody s) v.stream
      → IsOver s cs → CacheTells s k → PullCall v.stream middle cs ds k l (Ok (Ready (Some piece)))
      → GivesNext v n middle piece item → Adds s b n (Ok (Ready (Some item)))
  adds_next b v n middle piece item cs ds k l more setup events places stands over cache call x =
      let o = stepped_piece v.stream middle cs ds k l piece call in
      let g = grew v.stream middle cs ds k l (Ok (Ready (Some piece))) call in
      let d = o.done in
      let h = d.hands.1 in
      let seen = seen_stands (everybody s) v.stream o.seen o.later stands in
      let once = pulled_stands (everybody s) (record v.stream { seen = o.seen }) seen in
      let at_end = d.stands (Some s) (Some []) (tells s cs k over cache) once in
      let own = led_piece s valid d.end h.led h.count h.term piece d.hands.0.still at_end h.is_led h.at h.bytes in
      let last : middle.events ≡ d.end.events ++ Wrote (length piece) ∷ [] = ap (λ (z : StreamView). z.events) h.is in
      let before : x.before ≡ d.end.events =
      front_same x.before d.end.events (Wrote (length piece)) (Wrote (length piece)) (sym x.last ∙ last) in
      let term : x.term ≡ task_of h.term =
      (let z : Some x.term ≡ Some (task_of h.term) = sym x.next ∙ ap next_term before ∙ h.next in cc) in
      let same : n.stream ≡ middle = ap (λ (z : UnorderedView). z.stream) x.is in
      let r : v.stream.setup.range ≡ b.stream.setup.range = ap (λ (z : Setup). z.range) setup in
      let place : item.0 ≡ offset_of b.stream.setup.range (task_of h.term) =
      x.at ∙ ap (λ (t : Task). offset_of v.stream.setup.range t) term
      ∙ ap (λ (z : FileRange). offset_of z (task_of h.term)) r in
      let there : slice_get (some_of middle.events) (delivered d.end.events) ≡ Some (task_of h.term) =
      subst (λ (es : List Event). slice_get (some_of es) (delivered d.end.events) ≡ Some (task_of h.term)) (sym last)
      (some_more d.end.events (Wrote (length piece) ∷ []) (delivered d.end.events) (task_of h.term) h.next) in
      let one : IsItem s b.stream.setup.range n.stream.events item = record {
        place = delivered d.end.events;
        term = task_of h.term;
        at = ap (λ (z : StreamView). slice_get (some_of z.events) (delivered d.end.events)) same ∙ there;
        is = ap (λ (o : ℕ). (o, item.1)) place
            ∙ ap (λ (xs : List ℕ). (offset_of b.stream.setup.range (task_of h.term), xs)) (x.bytes ∙ own);
        some = let z = ap length x.bytes in let w = h.some in omega (arith, z, w);
      } in
      record {
        more = more ++ (g.new ++ Wrote (length piece) ∷ []);
        setup = ap (λ (z : StreamView). z.setup) same ∙ g.setup ∙ setup;
        events = ap (λ (z : StreamView). z.events) same ∙ g.events
            ∙ append_assoc v.stream.events g.new (Wrote (length piece) ∷ [])
            ∙ ap (λ (es : List Event). es ++ (g.new ++ Wrote (length piece) ∷ [])) events
            ∙ append_assoc b.stream.events more (g.new ++ Wrote (length piece) ∷ []);
        places = ap (λ (z : UnorderedView). z.delivered) x.is ∙ ap (λ (xs : List ℕ). xs ++ item.0 ∷ []) places;
        each = λ y i. ⊎_elim (λ (e : y ≡ item).
            subst (λ (z : Item). IsItem s b.stream.setup.range n.stream.events z) (sym e) one)
            (λ (z : ⊥). absurd z) i;
        once = λ y i j. ⊎_elim (λ (e : y ≡ item). x.new (subst (λ (xs : List ℕ). IsIn item.0 xs) (sym places)
            (subst (λ (o : ℕ). IsIn o b.delivered) (ap (λ (z : Item). z.0) e) j))) (λ (z : ⊥). z) i;
      }

  -- ---- by its ways

  module _ (b v n : UnorderedView) (more : List Event) (setup : v.stream.setup ≡ b.stream.setup)
      (events : v.stream.events ≡ b.stream.events ++ more) (places : v.delivered ≡ b.delivered) where
    -- an error
    told_adds : (m : StreamView) (new : List Event) (cause e : FileReconstructionError) (answer : ItemAnswer)
        → answer ≡ Err e → n ≡ record v { stream = n.stream } → m.setup ≡ v.stream.setup → delivered new ≡ 0
        → m.events ≡ v.stream.events ++ new → IsTold m n.stream cause e → Adds s b n answer
    told_adds m new cause e answer is rest same none grown told =
        let g = grew_told v.stream m n.stream new cause e same none grown told in
        subst (Adds s b n) (sym is)
        (adds_none b n (Err e) refl (more ++ g.new) (g.setup ∙ setup)
        (g.events ∙ ap (λ (es : List Event). es ++ g.new) events ∙ append_assoc b.stream.events more g.new)
        (ap (λ (z : UnorderedView). z.delivered) rest ∙ places))

    fails_due : (e : FileReconstructionError) → FailsDue v n e → Adds s b n (Err e)
    fails_due e f = told_adds v.stream [] f.cause e (Err e) refl f.rest refl refl (sym (append-nil v.stream.events))
        f.told

    gives_now : (answer : ItemAnswer) → Stands (everybody s) v.stream → GivesNow v n answer → Adds s b n answer
    gives_now (Ok Pending) stands h = absurd h
    gives_now (Ok (Ready None)) stands h = absurd h
    gives_now (Ok (Ready (Some item))) stands h = adds_due b v n item more setup events places stands h
    gives_now (Err e) stands h = fails_due e h

    after_step : (answer : ItemAnswer) → Stands (everybody s) v.stream → AfterStep v n answer → Adds s b n answer
    after_step (Ok Pending) stands h =
        adds_none b n (Ok Pending) refl more (ap (λ (z : UnorderedView). z.stream.setup) h.2 ∙ setup)
        (ap (λ (z : UnorderedView). z.stream.events) h.2 ∙ events)
        (ap (λ (z : UnorderedView). z.delivered) h.2 ∙ places)
    after_step (Ok (Ready None)) stands h = absurd h
    after_step (Ok (Ready (Some item))) stands h = adds_due b v n item more setup events places stands h
    after_step (Err e) stands h = fails_due e h

    -- a pull in order
    pulls_item : (cs ds : List ClientTold) (k l : CacheTold) (answer : ItemAnswer) → Stands (everybody s) v.stream
        → IsOver s cs → CacheTells s k → PullsItem v n cs ds k l answer → Adds s b n answer
    pulls_item cs ds k l answer stands over cache p = by p.asked p.pull p.after
      where
        middle_step : (m : UnorderedView) (new : List Event) → m.stream.setup ≡ b.stream.setup
            → m.stream.events ≡ b.stream.events ++ new → m.delivered ≡ b.delivered → Stands (everybody s) m.stream
            → (a : ItemAnswer) → AfterStep m n a → Adds s b n a
        middle_step m new same grown listed stood (Ok Pending) x =
            adds_none b n (Ok Pending) refl new (ap (λ (z : UnorderedView). z.stream.setup) x.2 ∙ same)
            (ap (λ (z : UnorderedView). z.stream.events) x.2 ∙ grown)
            (ap (λ (z : UnorderedView). z.delivered) x.2 ∙ listed)
        middle_step m new same grown listed stood (Ok (Ready None)) x = absurd x
        middle_step m new same grown listed stood (Ok (Ready (Some item))) x =
            adds_due b m n item new same grown listed stood x
        middle_step m new same grown listed stood (Err e) x =
            let g = grew_told m.stream m.stream n.stream [] x.cause e refl refl (sym (append-nil m.stream.events)) x.told in
            adds_none b n (Err e) refl (new ++ g.new) (g.setup ∙ same)
            (g.events ∙ ap (λ (es : List Event). es ++ g.new) grown ∙ append_assoc b.stream.events new g.new)
            (ap (λ (z : UnorderedView). z.delivered) x.rest ∙ listed)

        by : (a : Answer) → PullCall v.stream p.middle cs ds k l a → AfterPull v n p.middle a answer
            → Adds s b n answer
        by (Ok (Ready (Some piece))) call x =
            subst (Adds s b n) (sym x.1)
            (adds_next b v n p.middle piece x.0 cs ds k l more setup events places stands over cache call x.2)
        by (Ok (Ready None)) call x =
            let g = grew v.stream p.middle cs ds k l (Ok (Ready None)) call in
            subst (Adds s b n) (sym x.0)
            (adds_none b n (Ok (Ready None)) refl (more ++ g.new)
            (ap (λ (z : UnorderedView). z.stream.setup) x.1 ∙ g.setup ∙ setup)
            (ap (λ (z : UnorderedView). z.stream.events) x.1 ∙ g.events
            ∙ ap (λ (es : List Event). es ++ g.new) events ∙ append_assoc b.stream.events more g.new)
            (ap (λ (z : UnorderedView). z.delivered) x.1 ∙ places))
        by (Err e) call x =
            let g = grew v.stream p.middle cs ds k l (Err e) call in
            subst (Adds s b n) (sym x.0)
            (adds_none b n (Err e) refl (more ++ g.new)
            (ap (λ (z : UnorderedView). z.stream.setup) x.1 ∙ g.setup ∙ setup)
            (ap (λ (z : UnorderedView). z.stream.events) x.1 ∙ g.events
            ∙ ap (λ (es : List Event). es ++ g.new) events ∙ append_assoc b.stream.events more g.new)
            (ap (λ (z : UnorderedView). z.delivered) x.1 ∙ places))
        by (Ok Pending) call x =
            let g = grew v.stream p.middle cs ds k l (Ok Pending) call in
            let m : UnorderedView = record v { stream = p.middle } in
            middle_step m (more ++ g.new) (g.setup ∙ setup)
            (g.events ∙ ap (λ (es : List Event). es ++ g.new) events ∙ append_assoc b.stream.events more g.new) places
            (call.stands (Some s) (Some []) (tells s cs k over cache) stands) answer x

    -- a block was asked for
    serves_item : (cs ds : List ClientTold) (k l : CacheTold) (answer : ItemAnswer) → Stands (everybody s) v.stream
        → IsOver s cs → CacheTells s k → ServesItem v n cs ds k l answer → Adds s b n answer
    serves_item cs ds k l answer stands over cache p =
        let w = p.provided.work in
        let m : UnorderedView = record v { stream = p.middle } in
        after_so m (more ++ w.new) (ap (λ (z : StreamView). z.setup) w.rest ∙ setup)
        (w.added ∙ ap (λ (es : List Event). es ++ w.new) events ∙ append_assoc b.stream.events more w.new) places
        (p.provided.stands (Some s) (Some []) (tells s cs k over cache) stands) answer p.after
      where
        after_so : (m : UnorderedView) (new : List Event) → m.stream.setup ≡ b.stream.setup
            → m.stream.events ≡ b.stream.events ++ new → m.delivered ≡ b.delivered → Stands (everybody s) m.stream
            → (a : ItemAnswer) → AfterStep m n a → Adds s b n a
        after_so m new same grown listed stood (Ok Pending) x =
            adds_none b n (Ok Pending) refl new (ap (λ (z : UnorderedView). z.stream.setup) x.2 ∙ same)
            (ap (λ (z : UnorderedView). z.stream.events) x.2 ∙ grown)
            (ap (λ (z : UnorderedView). z.delivered) x.2 ∙ listed)
        after_so m new same grown listed stood (Ok (Ready None)) x = absurd x
        after_so m new same grown listed stood (Ok (Ready (Some item))) x =
            adds_due b m n item new same grown listed stood x
        after_so m new same grown listed stood (Err e) x =
            let g = grew_told m.stream m.stream n.stream [] x.cause e refl refl (sym (append-nil m.stream.events)) x.told in
            adds_none b n (Err e) refl (new ++ g.new) (g.setup ∙ same)
            (g.events ∙ ap (λ (es : List Event). es ++ g.new) grown ∙ append_assoc b.stream.events new g.new)
            (ap (λ (z : UnorderedView). z.delivered) x.rest ∙ listed)

    serves_vain : (cs ds : List ClientTold) (k l : CacheTold) (answer : ItemAnswer)
        → ServesVain v n cs ds k l answer → Adds s b n answer
    serves_vain cs ds k l answer p =
        let g = grew_failed v.stream v.stream n.stream cs ds k l p.told_error refl refl p.fails in
        subst (Adds s b n) (sym p.is_error)
        (adds_none b n (Err p.told_error) refl (more ++ g.new) (g.setup ∙ setup)
        (g.events ∙ ap (λ (es : List Event). es ++ g.new) events ∙ append_assoc b.stream.events more g.new)
        (ap (λ (z : UnorderedView). z.delivered) p.rest ∙ places))

  item_adds : (b n : UnorderedView) (cs ds : List ClientTold) (k l : CacheTold) (answer : ItemAnswer)
      → Stands (everybody s) b.stream → IsOver s cs → CacheTells s k → ItemCall b n cs ds k l answer
      → Adds s b n answer
  item_adds b n cs ds k l answer stands over cache c =
      ⊎_elim short
      (λ (x : StandsOn b.stream c.ready × (PullsItem u n cs ds k l answer ⊎ StepsItem u n cs ds k l answer)).
      ⊎_elim (pulls x.0) (steps x.0) x.1) c.way
    where
      v : UnorderedView
      v = record b { stream = c.ready }

      setup : c.ready.setup ≡ b.stream.setup
      setup = ap (λ (z : StreamView). z.setup) c.first.rest

      u : UnorderedView
      u = seen_so c.seen v

      seen : StandsOn b.stream c.ready → Stands (everybody s) u.stream
      seen on = seen_stands (everybody s) c.ready c.seen c.later (on (Some s) (Some []) stands)

      w : UnorderedView
      w = record u { stream = pulled_once u.stream }

      once : StandsOn b.stream c.ready → Stands (everybody s) w.stream
      once on = pulled_stands (everybody s) u.stream (seen on)

      short : GoesShort v n cs ds k l answer → Adds s b n answer
      short g = told_adds b v n c.first.new setup c.first.added refl c.ready [] error.OutOfMemory g.told_error answer
          g.is_error g.rest refl refl (sym (append-nil c.ready.events)) g.told

      pulls : StandsOn b.stream c.ready → PullsItem u n cs ds k l answer → Adds s b n answer
      pulls on p = pulls_item b u n c.first.new setup c.first.added refl cs ds k l answer (seen on) over cache p

      steps : StandsOn b.stream c.ready → StepsItem u n cs ds k l answer → Adds s b n answer
      steps on p =
          ⊎_elim (λ (x : IsUnasked cs ds k l × GivesNow w n answer).
          gives_now b w n c.first.new setup c.first.added refl answer (once on) x.1)
          (⊎_elim (λ (x : ServesItem w n cs ds k l answer).
          serves_item b w n c.first.new setup c.first.added refl cs ds k l answer (once on) over cache x)
          (⊎_elim (λ (x : ServesVain w n cs ds k l answer).
          serves_vain b w n c.first.new setup c.first.added refl cs ds k l answer x)
          (λ (x : PullsItem w n cs ds k l answer).
          pulls_item b w n c.first.new setup c.first.added refl cs ds k l answer (once on) over cache x)))
          p.way

-- ---- pulls, one after another

record HasItems (s : Store) (g : Setup) (v : UnorderedView) (items : List Item) : Type 0 where
  pub setup : v.stream.setup ≡ g
  pub stands : Stands (everybody s) v.stream
  pub allowed : IsAllowedHistory v.stream.events
  pub listed : v.delivered ≡ map (λ (x : Item). x.0) items
  pub each : (item : Item) → IsIn item items → IsItem s g.range v.stream.events item
  pub once : Differ (map (λ (x : Item). x.0) items)

few_items : (answer : ItemAnswer) → length (items_in answer) ≤ 1
few_items (Ok Pending) = omega arith
few_items (Ok (Ready None)) = omega arith
few_items (Ok (Ready (Some item))) = omega arith
few_items (Err e) = omega arith

module _ (s : Store) (valid : IsValid s) (g : Setup) where
  one_pull : (b n : UnorderedView) (items : List Item) (answer : ItemAnswer) → HasItems s g b items
      → ItemOver s b n answer → HasItems s g n (items ++ items_in answer)
  one_pull b n items answer h o =
      let a = item_adds s valid b n o.clients_before o.clients_after o.cache_before o.cache_after answer h.stands o.over
      o.cache o.call in
      let r : b.stream.setup.range ≡ g.range = ap (λ (z : Setup). z.range) h.setup in
      let all : map (λ (x : Item). x.0) (items ++ items_in answer)
      ≡ map (λ (x : Item). x.0) items ++ map (λ (x : Item). x.0) (items_in answer) =
      map-append (λ (x : Item). x.0) items (items_in answer) in
      record {
        setup = a.setup ∙ h.setup;
        stands = o.call.stands (Some s) (Some []) (tells s o.clients_before o.cache_before o.over o.cache) h.stands;
        allowed = o.call.allowed;
        listed = a.places ∙ ap (λ (xs : List ℕ). xs ++ map (λ (x : Item). x.0) (items_in answer)) h.listed ∙ sym all;
        each = λ x i. ⊎_elim
            (λ (j : IsIn x items). subst (λ (es : List Event). IsItem s g.range es x) (sym a.events)
            (item_more s g.range b.stream.events a.more x (h.each x j)))
            (λ (j : IsIn x (items_in answer)). subst (λ (z : FileRange). IsItem s z n.stream.events x) r (a.each x j))
            (in_append x items (items_in answer) i);
        once = subst Differ (sym all) (differ_one (map (λ (x : Item). x.0) items) (items_in answer) h.once
            (λ x i j. a.once x i (subst (λ (xs : List ℕ). IsIn x.0 xs) (sym h.listed) j)) (few_items answer));
      }
    where
      differ_one : (xs : List ℕ) (is : List Item) → Differ xs → ((x : Item) → IsIn x is → IsIn x.0 xs → ⊥)
          → length is ≤ 1 → Differ (xs ++ map (λ (x : Item). x.0) is)
      differ_one xs [] d f few = subst Differ (sym (append-nil xs)) d
      differ_one xs (x ∷ []) d f few = differ_push xs x.0 d (f x (inl refl))
      differ_one xs (x ∷ y ∷ ys) d f few = absurd (omega (arith, few))

  cancelled : (b : UnorderedView) (c : StreamView) (items : List Item) → MayCancel b.stream c → HasItems s g b items
      → HasItems s g (record b { stream = c }) items
  cancelled b c items m h =
      ⊎_elim
      (λ (e : c ≡ b.stream). subst (λ (v : StreamView). HasItems s g (record b { stream = v }) items) (sym e) h)
      (λ (e : c ≡ record b.stream { cancelled = true }).
      subst (λ (v : StreamView). HasItems s g (record b { stream = v }) items) (sym e) (record {
        setup = h.setup;
        stands = record {
          true_of = h.stands.true_of;
          starts = h.stands.starts;
          led = λ o. absurd (let z : true ≡ false = o.uncancelled in cc);
        };
        allowed = h.allowed;
        listed = h.listed;
        each = h.each;
        once = h.once;
      })) m

  all_pulls : (answers : List ItemAnswer) (b n : UnorderedView) (items : List Item) → HasItems s g b items
      → ItemPulls s b answers n → HasItems s g n (items ++ items_of answers)
  all_pulls [] b n items h p =
      subst (λ (l : List Item). HasItems s g n l) (sym (append-nil items))
      (subst (λ (v : UnorderedView). HasItems s g v items) (sym p) h)
  all_pulls (a ∷ more) b n items h p =
      let c = p.0 in
      let m = p.1 in
      subst (λ (l : List Item). HasItems s g n l) (append_assoc items (items_in a) (items_of more))
      (all_pulls more m n (items ++ items_in a)
      (one_pull (record b { stream = c }) m items a (cancelled b c items p.2 h) p.3) p.4)

  true_of : (v : UnorderedView) (items : List Item) → HasItems s g v items
      → IsTrueHistory s (download_of g) v.stream.events
  true_of v items h = subst (λ (z : Setup). IsTrueHistory s (download_of z) v.stream.events) h.setup
      (h.stands.true_of s (record { tell = (refl, tt); valid = valid }))

  starts_of : (v : UnorderedView) (items : List Item) → HasItems s g v items
      → FirstStarts g.range.start (planned v.stream.events)
  starts_of v items h = subst (λ (z : Setup). FirstStarts z.range.start (planned v.stream.events)) h.setup h.stands.starts

  placed : (v : UnorderedView) (items : List Item) → HasItems s g v items → (x : Item) → IsIn x items
      → IsPlaced s g x
  placed v items h x i =
      let it = h.each x i in
      let here = placed_at s valid g v.stream.events (true_of v items h) h.allowed (starts_of v items h) it.place it.term
      it.at in
      let at : x.0 ≡ offset_of g.range it.term = ap (λ (z : Item). z.0) it.is in
      let bytes : x.1 ≡ task_piece s it.term = ap (λ (z : Item). z.1) it.is in
      record {
        some = it.some;
        bytes = bytes ∙ here
            ∙ ap (λ (n : ℕ). take n (drop (offset_of g.range it.term) (window s g.file g.range))) (sym (ap length bytes))
            ∙ ap (λ (n : ℕ). take (length x.1) (drop n (window s g.file g.range))) (sym at);
      }

start : (s : Store) (g : Setup) (limits : LimitTold) → HasItems s g (new_unordered g limits) []
start s g limits = record {
  setup = refl;
  stands = record {
    true_of = λ t o. record { cuts = tt; plans = All-nil (IsTrueEvent t g.file g.multirange) };
    starts = tt;
    led = λ o. tt;
  };
  allowed = tt;
  listed = refl;
  each = λ x i. absurd i;
  once = tt;
}

pub items_are_placed : ItemsArePlaced
items_are_placed s valid g limits answers n ps =
    let h = all_pulls s valid g answers (new_unordered g limits) n [] (start s g limits) ps in
    record { each = all_in (IsPlaced s g) (items_of answers) (placed s valid g n (items_of answers) h); once = h.once }

-- ---- the end

none_pull : (v n : StreamView) (cs ds : List ClientTold) (k l : CacheTold) → PullCall v n cs ds k l (Ok (Ready None))
    → IsOpen n → IsAtEnd n.setup.range n.events
none_pull v n cs ds k l c o = ⊎_elim closed (⊎_elim refused (⊎_elim ended stepped)) c.way
  where
    b : StreamView
    b = record v { seen = c.seen }

    End : Type 0
    End = IsAtEnd n.setup.range n.events

    closed : Closed b n cs ds k l (Ok (Ready None)) → End
    closed w =
        let free : IsOpen (pulled_once b) = subst IsOpen w.stream o in
        absurd (w.closed (record { untold = free.untold; uncancelled = free.uncancelled }))

    refused : Refused b n cs ds k l (Ok (Ready None)) → End
    refused w = let e = w.is_error in absurd (cc)

    ended : Ended b n cs ds k l (Ok (Ready None)) → End
    ended w = subst (λ (z : StreamView). IsAtEnd z.setup.range z.events) (sym w.stream) w.at_end

    stepped : Stepped b n cs ds k l (Ok (Ready None)) → End
    stepped w = let h = w.step.hands in subst (λ (z : StreamView). IsAtEnd z.setup.range z.events) (sym h.1) h.0

none_item : (v n : UnorderedView) (cs ds : List ClientTold) (k l : CacheTold)
    → PullsItem v n cs ds k l (Ok (Ready None)) → IsOpen n.stream → IsAtEnd n.stream.setup.range n.stream.events
none_item v n cs ds k l p o = by p.asked p.pull p.after
  where
    by : (a : Answer) → PullCall v.stream p.middle cs ds k l a → AfterPull v n p.middle a (Ok (Ready None))
        → IsAtEnd n.stream.setup.range n.stream.events
    by (Ok (Ready (Some piece))) call x = absurd (let e = x.1 in cc)
    by (Ok (Ready None)) call x =
        let same : n.stream ≡ p.middle = ap (λ (z : UnorderedView). z.stream) x.1 in
        subst (λ (z : StreamView). IsAtEnd z.setup.range z.events) (sym same)
        (none_pull v.stream p.middle cs ds k l call (subst IsOpen same o))
    by (Ok Pending) call x = absurd x
    by (Err e) call x = absurd (let z = x.0 in cc)

none_is_end : (s : Store) (b n : UnorderedView) → ItemOver s b n (Ok (Ready None)) → IsOpen n.stream
    → IsAtEnd n.stream.setup.range n.stream.events
none_is_end s b n q o =
    let c = q.call in
    let v : UnorderedView = seen_so c.seen (record b { stream = c.ready }) in
    let w : UnorderedView = record v { stream = pulled_once v.stream } in
    ⊎_elim (λ (x : GoesShort (record b { stream = c.ready }) n q.clients_before q.clients_after q.cache_before
    q.cache_after (Ok (Ready None))). absurd (let e = x.is_error in cc))
    (λ (z : StandsOn b.stream c.ready
    × (PullsItem v n q.clients_before q.clients_after q.cache_before q.cache_after (Ok (Ready None))
    ⊎ StepsItem v n q.clients_before q.clients_after q.cache_before q.cache_after (Ok (Ready None)))).
    ⊎_elim (λ (x : PullsItem v n q.clients_before q.clients_after q.cache_before q.cache_after (Ok (Ready None))).
    none_item v n q.clients_before q.clients_after q.cache_before q.cache_after x o)
    (λ (x : StepsItem v n q.clients_before q.clients_after q.cache_before q.cache_after (Ok (Ready None))).
    ⊎_elim (λ (y : IsUnasked q.clients_before q.clients_after q.cache_before q.cache_after
    × GivesNow w n (Ok (Ready None))). absurd y.1)
    (⊎_elim (λ (y : ServesItem w n q.clients_before q.clients_after q.cache_before q.cache_after (Ok (Ready None))).
    absurd y.after)
    (⊎_elim (λ (y : ServesVain w n q.clients_before q.clients_after q.cache_before q.cache_after (Ok (Ready None))).
    absurd (let e = y.is_error in cc))
    (λ (y : PullsItem w n q.clients_before q.clients_after q.cache_before q.cache_after (Ok (Ready None))).
    none_item w n q.clients_before q.clients_after q.cache_before q.cache_after y o)))
    x.way) z.1) c.way

flat_items : (s : Store) (r : FileRange) (ts : List Task)
    → flat_map (λ (x : Item). x.1) (map (item_of s r) ts) ≡ flat_map (task_piece s) ts
flat_items s r [] = refl
flat_items s r (t ∷ ts) = ap (λ (l : List ℕ). task_piece s t ++ l) (flat_items s r ts)

pub items_join : ItemsJoin
items_join s valid g limits answers end n ps last free sorted so =
    let h = all_pulls s valid g answers (new_unordered g limits) end [] (start s g limits) ps in
    let k : HasItems s g n (items_of answers) = subst (λ (l : List Item). HasItems s g n l)
    (append-nil (items_of answers)) (one_pull s valid g end n (items_of answers) (Ok (Ready None)) h last) in
    let r : n.stream.setup.range ≡ g.range = ap (λ (z : Setup). z.range) k.setup in
    let at_end = subst (λ (z : FileRange). IsAtEnd z n.stream.events) r (none_is_end s end n last free) in
    let ts = some_of n.stream.events in
    let front : take (delivered n.stream.events) ts ≡ ts =
    take_all (delivered n.stream.events) ts (get_none ts (delivered n.stream.events) at_end.all) in
    let given : All (λ (t : Task). IsIn (offset_of g.range t) n.delivered) ts =
    subst (λ (l : List Task). All (λ (t : Task). IsIn (offset_of g.range t) n.delivered) l) front
    (subst (λ (z : FileRange). All (λ (t : Task). IsIn (offset_of z t) n.delivered)
    (take (delivered n.stream.events) ts)) r last.call.passed) in
    let all = map (item_of s g.range) ts in
    let is : sorted ≡ all = same_list 0 0 sorted all (from_all sorted so.ascends)
    (from_all all (subst Ascend (sym (map_map (item_of s g.range) (λ (x : Item). x.0) ts))
    (ascending (offset_of g.range) ts (earlier g.range n.stream.events k.allowed (starts_of s valid g n (items_of answers) k)))))
    (λ x i. listed k x (so.from x i))
    (λ x i. so.to x (back k given x i)) in
    ap (λ (l : List Item). flat_map (λ (x : Item). x.1) l) is ∙ flat_items s g.range ts
    ∙ all_pieces s valid g n.stream.events (true_of s valid g n (items_of answers) k) k.allowed at_end.reached
  where
    listed : HasItems s g n (items_of answers) → (x : Item) → IsIn x (items_of answers)
        → IsIn x (map (item_of s g.range) (some_of n.stream.events))
    listed k x i =
        let it = k.each x i in
        subst (λ (z : Item). IsIn z (map (item_of s g.range) (some_of n.stream.events))) (sym it.is)
        (in_map (item_of s g.range) it.term (some_of n.stream.events)
        (in_at (some_of n.stream.events) it.place it.term it.at))

    back : HasItems s g n (items_of answers)
        → All (λ (t : Task). IsIn (offset_of g.range t) n.delivered) (some_of n.stream.events) → (x : Item)
        → IsIn x (map (item_of s g.range) (some_of n.stream.events)) → IsIn x (items_of answers)
    back k given x i =
        let c = comes (item_of s g.range) x (some_of n.stream.events) i in
        let t = c.0 in
        let place = at_in (some_of n.stream.events) t c.1 in
        let o = each_in (λ (t : Task). IsIn (offset_of g.range t) n.delivered) (some_of n.stream.events) t given c.1 in
        let y = comes (λ (z : Item). z.0) (offset_of g.range t) (items_of answers)
        (subst (λ (xs : List ℕ). IsIn (offset_of g.range t) xs) k.listed o) in
        let it = k.each y.0 y.1 in
        let same : offset_of g.range t ≡ offset_of g.range it.term = y.2 ∙ ap (λ (z : Item). z.0) it.is in
        let j = same_place g.range n.stream.events k.allowed (starts_of s valid g n (items_of answers) k) place.0
        it.place t it.term place.1 it.at same in
        let term : t ≡ it.term =
        (let z : ◌≡◌ {A = Option Task} (Some t) (Some it.term) =
        sym place.1 ∙ ap (λ (m : ℕ). slice_get (some_of n.stream.events) m) j ∙ it.at in cc) in
        let eq : x ≡ y.0 = c.2 ∙ ap (item_of s g.range) term ∙ sym it.is in
        subst (λ (z : Item). IsIn z (items_of answers)) (sym eq) y.1
