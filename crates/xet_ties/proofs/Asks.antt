-- The queries that a run asks are short, and but for refreshes they cut the range.
use Rattle.std.proofs.Common.{◌≡◌, ℕ, ◌+◌, ◌-◌, ◌<◌, ◌≤◌, ◌==◌, Bool, true, false, cond, List, [], ◌∷◌, ◌++◌, length, refl, sym, subst, ◌∙◌, ap, arith, append_assoc, inl, inr, ⊎_elim, Some, None, Option}
use Rattle.std.specs.Prelude.{All, map, option_to_list}
use Rattle.std.specs.Option.{option_or}
use Rattle.std.proofs.lemmas.List.{append-nil}
use Rattle.std.proofs.lemmas.List.Elements.{All-append, All-cons, All-contains, All-head, All-nil, All-tail, Contains-append_right}
use Rattle.xet_base.specs.declared.cas_types.FileRange.{FileRange}
use Rattle.xet_base.specs.declared.merklehash.MerkleHash.{MerkleHash}
use Rattle.xet_base.specs.Lists.{first_some}
use Rattle.xet_outside.specs.Told.{ClientTold, Query}
use Rattle.xet_events.specs.declared.event.Event.{Event}
use Rattle.xet_events.specs.declared.event.Event.TheVariants.{Planned, Admit, Fetched, Cached, Expired, Refreshed, Wrote, Fail, Cancel}
use Rattle.xet_events.specs.declared.event.PlannedBlock.{PlannedBlock}
use Rattle.xet_events.specs.declared.event.PlannedTerm.{PlannedTerm}
use Rattle.xet_events.specs.Events.{is_stale}
use Rattle.xet_events.proofs.CallerLemmas.{first_some-push}
use Rattle.xet_history.specs.Queries.{CutFrom}
use Rattle.xet_history.specs.TrueHistory.{queries}
use Rattle.xet_ties.specs.History.{IsWithin, actual_range, asked_by, asked_in, range_at, range_in, telling}
use Rattle.xet_ties.specs.InCall.{new_in}
use Rattle.xet_ties.specs.Cuts.{AskedCut, LiesInSome}
use Rattle.xet_ties.specs.LegalWords.{AsksCut, FirstAsks, IsShort}
use Rattle.xet_ties.specs.Setup.{Setup}
use Rattle.xet_ties.specs.Ties.{CutsRange, FirstAsked, IsLost, IsNextQuery}
use Rattle.xet_ties.proofs.Told.{if_some, told_new}

-- ---- the actual range of a plan lies in its query

-- so does each range of a plan of these events
abbrev pub AreIn : MerkleHash → List Event → List FileRange → Type 0
AreIn f es seen = (p : ℕ) (r : FileRange) → range_at es p ≡ r ∷ [] → LiesInSome seen (f, r)

pub or_none : (o : Option FileRange) → option_or o None ≡ o
or_none None = refl
or_none (Some r) = refl

-- an event that plans nothing
in_same : (f : MerkleHash) (es : List Event) (e : Event) (seen : List FileRange) → ((p : ℕ) → range_in p e ≡ None) → AreIn f es seen → AreIn f (es ++ e ∷ []) seen
in_same f es e seen none h p r at =
    let same : range_at (es ++ e ∷ []) p ≡ range_at es p = ap (λ (o : Option FileRange). option_to_list o) (range_push p ∙ ap (λ (o : Option FileRange). option_or (first_some (map (range_in p) es)) o) (none p) ∙ or_none (first_some (map (range_in p) es))) in
    h p r (sym same ∙ at)
  where
    map_push : (q : ℕ) (l : List Event) → map (range_in q) (l ++ e ∷ []) ≡ map (range_in q) l ++ range_in q e ∷ []
    map_push q [] = refl
    map_push q (x ∷ l) = ap (λ (m : List (Option FileRange)). range_in q x ∷ m) (map_push q l)

    range_push : (q : ℕ) → first_some (map (range_in q) (es ++ e ∷ [])) ≡ option_or (first_some (map (range_in q) es)) (range_in q e)
    range_push q = ap (λ (m : List (Option FileRange)). first_some m) (map_push q es) ∙ first_some-push (map (range_in q) es) (range_in q e)

lies_more : (q : FileRange) (seen : List FileRange) (x : Query) → LiesInSome seen x → LiesInSome (q ∷ seen) x
lies_more q seen x l = (l.0, Contains-append_right (q ∷ []) seen l.0 l.1, l.2, l.3)

-- a plan whose terms end within its query
in_planned : (f : MerkleHash) (es : List Event) (plan : ℕ) (q : FileRange) (ts : List PlannedTerm) (bs : List PlannedBlock) (seen : List FileRange) → (actual_range q ts).end ≤ q.end → AreIn f es seen → AreIn f (es ++ Planned plan q ts bs ∷ []) (q ∷ seen)
in_planned f es plan q ts bs seen within h p r at = by (first_some (map (range_in p) es)) refl (plan == p) refl
  where
    e : Event
    e = Planned plan q ts bs

    map_push : (l : List Event) → map (range_in p) (l ++ Planned plan q ts bs ∷ []) ≡ map (range_in p) l ++ cond (plan == p) (Some (actual_range q ts)) None ∷ []
    map_push [] = refl
    map_push (x ∷ l) = ap (λ (m : List (Option FileRange)). range_in p x ∷ m) (map_push l)

    is : range_at (es ++ Planned plan q ts bs ∷ []) p ≡ option_to_list (option_or (first_some (map (range_in p) es)) (cond (plan == p) (Some (actual_range q ts)) None))
    is = ap (λ (o : Option FileRange). option_to_list o) (ap (λ (m : List (Option FileRange)). first_some m) (map_push es) ∙ first_some-push (map (range_in p) es) (cond (plan == p) (Some (actual_range q ts)) None))

    by : (o : Option FileRange) → first_some (map (range_in p) es) ≡ o → (v : Bool) → (plan == p) ≡ v → LiesInSome (q ∷ seen) (f, r)
    by (Some x) g v w =
        let was : range_at es p ≡ x ∷ [] = ap (λ (o : Option FileRange). option_to_list o) g in
        let now : x ∷ [] ≡ r ∷ [] = sym (ap (λ (o : Option FileRange). option_to_list (option_or o (cond (plan == p) (Some (actual_range q ts)) None))) g) ∙ sym is ∙ at in
        let same : x ≡ r = cc in
        lies_more q seen (f, r) (h p r (was ∙ ap (λ (z : FileRange). z ∷ []) same))
    by None g true w =
        let now : actual_range q ts ∷ [] ≡ r ∷ [] = sym (ap (λ (u : Bool). option_to_list (cond u (Some (actual_range q ts)) None)) w) ∙ sym (ap (λ (o : Option FileRange). option_to_list (option_or o (cond (plan == p) (Some (actual_range q ts)) None))) g) ∙ sym is ∙ at in
        let same : actual_range q ts ≡ r = cc in
        subst (λ (z : FileRange). LiesInSome (q ∷ seen) (f, z)) same (q, (0, omega arith, refl), refl, within)
    by None g false w = absurd (let now : [] ≡ r ∷ [] = sym (ap (λ (u : Bool). option_to_list (cond u (Some (actual_range q ts)) None)) w) ∙ sym (ap (λ (o : Option FileRange). option_to_list (option_or o (cond (plan == p) (Some (actual_range q ts)) None))) g) ∙ sym is ∙ at in cc)

-- ---- the queries in their order

refreshed_cut : (seen : List FileRange) (q : Query) (qs : List Query) (cut : List FileRange) → LiesInSome seen q → AskedCut seen qs cut → AskedCut seen (q ∷ qs) cut
refreshed_cut seen q qs [] l a = (l, a)
refreshed_cut seen q qs (c ∷ cs) l a = inr (l, a)

-- the events' queries, then others
pub asked_cut : (f : MerkleHash) (before es : List Event) (seen : List FileRange) (tail : List Query) (cut : List FileRange) → AreIn f before seen → All IsWithin es
    → ((now : List FileRange) → AreIn f (before ++ es) now → AskedCut now tail cut) → AskedCut seen (telling (asked_in f) before es ++ tail) (queries es ++ cut)
asked_cut f before [] seen tail cut h w rest = rest seen (subst (λ (l : List Event). AreIn f l seen) (sym (append-nil before)) h)
asked_cut f before (e ∷ es) seen tail cut h w rest = by (λ b now k r. asked_cut f b es now tail cut k (All-tail IsWithin e es w) r) e refl
  where
    -- after the event
    next : ((b : List Event) (now : List FileRange) → AreIn f b now → ((last : List FileRange) → AreIn f (b ++ es) last → AskedCut last tail cut) → AskedCut now (telling (asked_in f) b es ++ tail) (queries es ++ cut)) → (x : Event) → e ≡ x → (now : List FileRange) → AreIn f (before ++ x ∷ []) now → AskedCut now (telling (asked_in f) (before ++ x ∷ []) es ++ tail) (queries es ++ cut)
    next more x same now k =
        more (before ++ x ∷ []) now k
        (λ last j. rest last (subst (λ (l : List Event). AreIn f l last) (append_assoc before (x ∷ []) es ∙ ap (λ (y : Event). before ++ y ∷ es) (sym same)) j))

    quiet : ((b : List Event) (now : List FileRange) → AreIn f b now → ((last : List FileRange) → AreIn f (b ++ es) last → AskedCut last tail cut) → AskedCut now (telling (asked_in f) b es ++ tail) (queries es ++ cut)) → (x : Event) → e ≡ x → ((p : ℕ) → range_in p x ≡ None) → AskedCut seen (telling (asked_in f) (before ++ x ∷ []) es ++ tail) (queries es ++ cut)
    quiet more x same none = next more x same seen (in_same f before x seen none h)

    by : ((b : List Event) (now : List FileRange) → AreIn f b now → ((last : List FileRange) → AreIn f (b ++ es) last → AskedCut last tail cut) → AskedCut now (telling (asked_in f) b es ++ tail) (queries es ++ cut)) → (x : Event) → e ≡ x → AskedCut seen (telling (asked_in f) before (x ∷ es) ++ tail) (queries (x ∷ es) ++ cut)
    by more (Planned plan q ts bs) same = inl (refl, next more (Planned plan q ts bs) same (q ∷ seen) (in_planned f before plan q ts bs seen (subst IsWithin same (All-head IsWithin e es w)) h))
    by more (Refreshed plan) same = refreshed (range_at before plan) refl
      where
        rest_of : AskedCut seen (telling (asked_in f) (before ++ Refreshed plan ∷ []) es ++ tail) (queries es ++ cut)
        rest_of = quiet more (Refreshed plan) same (λ p. refl)

        refreshed : (l : List FileRange) → range_at before plan ≡ l → AskedCut seen ((map (λ r. (f, r)) l ++ telling (asked_in f) (before ++ Refreshed plan ∷ []) es) ++ tail) (queries es ++ cut)
        refreshed [] at = rest_of
        refreshed (r ∷ []) at = refreshed_cut seen (f, r) (telling (asked_in f) (before ++ Refreshed plan ∷ []) es ++ tail) (queries es ++ cut) (h plan r at) rest_of
        refreshed (r ∷ s ∷ l) at = absurd (two (first_some (map (range_in plan) before)) at)
          where
            two : (o : Option FileRange) → option_to_list o ≡ r ∷ s ∷ l → ⊥
            two None z = cc
            two (Some y) z = let n = ap (λ (k : List FileRange). length k) z in omega (arith, n)
    by more (Admit limit) same = quiet more (Admit limit) same (λ p. refl)
    by more (Fetched lane plan block) same = quiet more (Fetched lane plan block) same (λ p. refl)
    by more (Cached plan block) same = quiet more (Cached plan block) same (λ p. refl)
    by more (Expired lane plan block) same = quiet more (Expired lane plan block) same (λ p. refl)
    by more (Wrote taken) same = quiet more (Wrote taken) same (λ p. refl)
    by more (Fail error) same = quiet more (Fail error) same (λ p. refl)
    by more Cancel same = quiet more Cancel same (λ p. refl)

-- ---- each is short

abbrev Short : ℕ → FileRange → Type 0
Short bound q = q.end - q.start < bound

cut_short : (place end bound : ℕ) (cut : List FileRange) → CutFrom place end bound cut → All (Short bound) cut
cut_short place end bound [] c = All-nil (Short bound)
cut_short place end bound (q ∷ qs) c = All-cons (Short bound) q qs c.3 (cut_short q.end end bound qs c.4)

lies_short : (bound : ℕ) (seen : List FileRange) (q : Query) → All (Short bound) seen → LiesInSome seen q → Short bound q.1
lies_short bound seen q a l = let s = All-contains (Short bound) seen l.0 a l.1 in let x = l.2 in let y = l.3 in omega (arith, s, x, y)

all_short : (bound : ℕ) (seen : List FileRange) (qs : List Query) (cut : List FileRange) → All (Short bound) seen → All (Short bound) cut → AskedCut seen qs cut → All (λ (q : Query). Short bound q.1) qs
all_short bound seen [] cut a c t = All-nil (λ (q : Query). Short bound q.1)
all_short bound seen (q ∷ qs) [] a c t = All-cons (λ (x : Query). Short bound x.1) q qs (lies_short bound seen q a t.0) (all_short bound seen qs [] a c t.1)
all_short bound seen (q ∷ qs) (k ∷ cut) a c t =
    ⊎_elim
    (λ (h : (q.1 ≡ k) × AskedCut (k ∷ seen) qs cut).
    let one = All-head (Short bound) k cut c in
    All-cons (λ (x : Query). Short bound x.1) q qs (subst (λ (r : FileRange). Short bound r) (sym h.0) one) (all_short bound (k ∷ seen) qs cut (All-cons (Short bound) k seen one a) (All-tail (Short bound) k cut c) h.1))
    (λ (h : LiesInSome seen q × AskedCut seen qs (k ∷ cut)). All-cons (λ (x : Query). Short bound x.1) q qs (lies_short bound seen q a h.0) (all_short bound seen qs (k ∷ cut) a c h.1))
    t

-- ---- each is for the file

for_ranges : (f : MerkleHash) (l : List FileRange) → All (λ (q : Query). q.0 ≡ f) (map (λ r. (f, r)) l)
for_ranges f [] = All-nil (λ (q : Query). q.0 ≡ f)
for_ranges f (r ∷ l) = All-cons (λ (q : Query). q.0 ≡ f) (f, r) (map (λ r. (f, r)) l) refl (for_ranges f l)

for_event : (f : MerkleHash) (before : List Event) (e : Event) → All (λ (q : Query). q.0 ≡ f) (asked_in f before e)
for_event f before (Planned plan q ts bs) = for_ranges f (q ∷ [])
for_event f before (Refreshed plan) = for_ranges f (range_at before plan)
for_event f before (Admit limit) = for_ranges f []
for_event f before (Fetched lane plan block) = for_ranges f []
for_event f before (Cached plan block) = for_ranges f []
for_event f before (Expired lane plan block) = for_ranges f []
for_event f before (Wrote taken) = for_ranges f []
for_event f before (Fail error) = for_ranges f []
for_event f before Cancel = for_ranges f []

for_file : (f : MerkleHash) (before es : List Event) → All (λ (q : Query). q.0 ≡ f) (telling (asked_in f) before es)
for_file f before [] = All-nil (λ (q : Query). q.0 ≡ f)
for_file f before (e ∷ es) = All-append (λ (q : Query). q.0 ≡ f) (asked_in f before e) (telling (asked_in f) (before ++ e ∷ []) es) (for_event f before e) (for_file f (before ++ e ∷ []) es)

both : (g : Setup) (qs : List Query) → All (λ (q : Query). q.0 ≡ g.file) qs → All (λ (q : Query). Short (g.greatest + g.least) q.1) qs → All (IsShort g) qs
both g [] a b = All-nil (IsShort g)
both g (q ∷ qs) a b = All-cons (IsShort g) q qs (All-head (λ (x : Query). x.0 ≡ g.file) q qs a, All-head (λ (x : Query). Short (g.greatest + g.least) x.1) q qs b) (both g qs (All-tail (λ (x : Query). x.0 ≡ g.file) q qs a) (All-tail (λ (x : Query). Short (g.greatest + g.least) x.1) q qs b))

-- ---- together

pub none_in : (f : MerkleHash) → AreIn f [] []
none_in f p r at = absurd (cc)

-- with a tail that is a query of the cut, or lies in one, or is none
asks_of : (g : Setup) (es : List Event) (tail : List Query) (cut : List FileRange) → All IsWithin es → CutsRange g (queries es ++ cut) → All (λ (q : Query). q.0 ≡ g.file) tail → ((now : List FileRange) → AreIn g.file es now → AskedCut now tail cut)
    → AsksCut g (asked_by g.file es ++ tail)
asks_of g es tail cut within cuts for_tail rest =
    let asked = asked_cut g.file [] es [] tail cut (none_in g.file) within rest in
    record {
      short = both g (asked_by g.file es ++ tail) (All-append (λ (q : Query). q.0 ≡ g.file) (asked_by g.file es) tail (for_file g.file [] es) for_tail) (all_short (g.greatest + g.least) [] (asked_by g.file es ++ tail) (queries es ++ cut) (All-nil (Short (g.greatest + g.least))) (cut_short g.range.start g.range.end (g.greatest + g.least) (queries es ++ cut) cuts.from) asked);
      cut = queries es ++ cut;
      cuts = cuts;
      asked = asked;
    }

pub asks_cut : (g : Setup) (es : List Event) (lost : List Query) → All IsWithin es → CutsRange g (queries es) → IsLost g es lost → AsksCut g (asked_by g.file es ++ lost)
asks_cut g es [] within cuts l = asks_of g es [] [] within (subst (λ (qs : List FileRange). CutsRange g qs) (sym (append-nil (queries es))) cuts) (All-nil (λ (q : Query). q.0 ≡ g.file)) (λ now h. refl)
asks_cut g es (q ∷ []) within cuts l =
    let for_q : All (λ (x : Query). x.0 ≡ g.file) (q ∷ []) = All-cons (λ (x : Query). x.0 ≡ g.file) q [] l.0 (All-nil (λ (x : Query). x.0 ≡ g.file)) in
    ⊎_elim
    (λ (c : IsNextQuery g es q.1). asks_of g es (q ∷ []) (q.1 ∷ []) within c.cuts for_q (λ now h. inl (refl, refl)))
    (λ (r : (p : ℕ) × (range_at es p ≡ q.1 ∷ []) × (is_stale es p ≡ true)). asks_of g es (q ∷ []) [] within (subst (λ (qs : List FileRange). CutsRange g qs) (sym (append-nil (queries es))) cuts) for_q (λ now h. (h r.0 q.1 r.1, refl)))
    l.1
asks_cut g es (q ∷ r ∷ qs) within cuts l = absurd l

pub first_asks : (g : Setup) (es : List Event) (lost : List Query) (bs ns : List ClientTold) → All IsWithin es → CutsRange g (queries es) → IsLost g es lost → FirstAsked g.file es lost bs ns → FirstAsks g bs ns
first_asks g es lost [] ns within cuts l t = absurd t
first_asks g es lost (b ∷ bs) [] within cuts l t = absurd t
first_asks g es lost (b ∷ bs) (n ∷ ns) within cuts l t = (
  if_some (new_in b.asked n.asked) (λ qs. qs ≡ asked_by g.file es ++ lost) (AsksCut g) (λ qs e. subst (λ (x : List Query). AsksCut g x) (sym e) (asks_cut g es lost within cuts l)) (told_new b.asked n.asked (asked_by g.file es ++ lost) t.0.asked),
  t.1,
)
