-- The lanes' ties after one more event.
use Rattle.std.proofs.Common.{◌≡◌, ℕ, ◌+◌, ◌≤◌, Bool, false, cond, List, [], ◌∷◌, ◌++◌, length, refl, sym, subst, ◌∙◌, ap, arith, append_assoc, length-append}
use Rattle.std.specs.Prelude.{All, count_by, map, option_map}
use Rattle.std.proofs.lemmas.List.Elements.{All-append, All-push, All-tail, All-weaker}
use Rattle.std.proofs.lemmas.Bool.{eq-eqb, ne_eqb}
use Rattle.xet_outside.proofs.CallerLemmas.{count_by-cons}
use Rattle.xet_outside.specs.Told.{ClientTold}
use Rattle.xet_outside.specs.declared.served.Served.{Served}
use Rattle.xet_events.specs.declared.event.Event.{Event}
use Rattle.xet_events.specs.declared.event.Event.TheVariants.{Fetched, Expired}
use Rattle.xet_events.specs.declared.event.PlannedBlock.{PlannedBlock}
use Rattle.xet_ties.specs.History.{IsOnLane, block_at, entry_of, expired_by, expires_on, served_by, served_in, fetches}
use Rattle.xet_ties.specs.InCall.{Place}
use Rattle.xet_ties.specs.Ties.{EachLane, IsLane, IsPlannedEntry, IsServed, all_late, all_of, at_place, is_pair}
use Rattle.xet_events.proofs.CallerLemmas.{count_by-push}
use Rattle.xet_ties.proofs.Telling.{all_left, all_right, block_at-push, count-append, count-same, count-more, telling-push, telling-same}

-- each lane from a number on stays tied
each_lane : (es fs : List Event) (lane : ℕ) → ((l : ℕ) (b n : ClientTold) (h : List Served) (k : List Place) → lane ≤ l → IsLane es l b n h k → IsLane fs l b n h k)
    → (bs ns : List ClientTold) (hs : List (List Served)) (ks : List (List Place)) → EachLane es lane bs ns hs ks → EachLane fs lane bs ns hs ks
each_lane es fs lane f [] [] [] [] t = tt
each_lane es fs lane f (b ∷ bs) (n ∷ ns) (h ∷ hs) (k ∷ ks) t =
    (f lane b n h k (omega arith) t.0, each_lane es fs (lane + 1) (λ l c m g j p. f l c m g j (omega arith)) bs ns hs ks t.1)
each_lane es fs lane f [] [] [] (k ∷ ks) t = absurd t
each_lane es fs lane f [] [] (h ∷ hs) ks t = absurd t
each_lane es fs lane f [] (n ∷ ns) hs ks t = absurd t
each_lane es fs lane f (b ∷ bs) [] hs ks t = absurd t
each_lane es fs lane f (b ∷ bs) (n ∷ ns) [] ks t = absurd t
each_lane es fs lane f (b ∷ bs) (n ∷ ns) (h ∷ hs) [] t = absurd t

-- a lane of which the event says nothing
lane_same : (es : List Event) (e : Event) (l : ℕ) (b n : ClientTold) (h : List Served) (k : List Place) → served_in l es e ≡ [] → expires_on l e ≡ false → IsLane es l b n h k → IsLane (es ++ e ∷ []) l b n h k
lane_same es e l b n h k none off t =
    let more : expired_by l (es ++ e ∷ []) ≡ expired_by l es = count-same (expires_on l) es e off in
    record {
      goes_on = t.goes_on;
      served = t.served ∙ ap (λ (s : List Served). option_map (λ xs. xs ++ (s ++ h)) b.served) (sym (telling-same (served_in l) es e none));
      expired = let x = t.expired in omega (arith, more, x);
    }

-- the entries of planned blocks stay so
pub entries_push : (es : List Event) (e : Event) (xs : List Served) → All (IsPlannedEntry es) xs → All (IsPlannedEntry (es ++ e ∷ [])) xs
entries_push es e xs a = All-weaker (IsPlannedEntry es) (IsPlannedEntry (es ++ e ∷ [])) (λ x h. (h.0, block_at-push es e x.plan x.index h.0 h.1, h.2)) xs a

-- as many hidden lists and late counts as connections
hidden_length : (es : List Event) (l : ℕ) (bs ns : List ClientTold) (hs : List (List Served)) (ks : List (List Place)) → EachLane es l bs ns hs ks → length hs ≡ length bs
hidden_length es l [] [] [] [] t = refl
hidden_length es l (b ∷ bs) (n ∷ ns) (h ∷ hs) (k ∷ ks) t = let r = hidden_length es (l + 1) bs ns hs ks t.1 in omega (arith, r)
hidden_length es l [] [] [] (k ∷ ks) t = absurd t
hidden_length es l [] [] (h ∷ hs) ks t = absurd t
hidden_length es l [] (n ∷ ns) hs ks t = absurd t
hidden_length es l (b ∷ bs) [] hs ks t = absurd t
hidden_length es l (b ∷ bs) (n ∷ ns) [] ks t = absurd t
hidden_length es l (b ∷ bs) (n ∷ ns) (h ∷ hs) [] t = absurd t

late_length : (es : List Event) (l : ℕ) (bs ns : List ClientTold) (hs : List (List Served)) (ks : List (List Place)) → EachLane es l bs ns hs ks → length ks ≡ length bs
late_length es l [] [] [] [] t = refl
late_length es l (b ∷ bs) (n ∷ ns) (h ∷ hs) (k ∷ ks) t = let r = late_length es (l + 1) bs ns hs ks t.1 in omega (arith, r)
late_length es l [] [] [] (k ∷ ks) t = absurd t
late_length es l [] [] (h ∷ hs) ks t = absurd t
late_length es l [] (n ∷ ns) hs ks t = absurd t
late_length es l (b ∷ bs) [] hs ks t = absurd t
late_length es l (b ∷ bs) (n ∷ ns) [] ks t = absurd t
late_length es l (b ∷ bs) (n ∷ ns) (h ∷ hs) [] t = absurd t

-- an event that neither fetches nor expires
pub served_same : (es : List Event) (e : Event) (hs : List (List Served)) (ks : List (List Place)) (bs ns : List ClientTold) → ((l : ℕ) → served_in l es e ≡ []) → ((l : ℕ) → expires_on l e ≡ false) → ((p k : ℕ) → fetches p k e ≡ false) → ((n : ℕ) → IsOnLane n e)
    → IsServed es hs ks bs ns → IsServed (es ++ e ∷ []) hs ks bs ns
served_same es e hs ks bs ns none off apart on t = record {
  lanes = each_lane es (es ++ e ∷ []) 0 (λ l b n h k p. lane_same es e l b n h k (none l) (off l)) bs ns hs ks t.lanes;
  once = λ p k.
      let a = t.once p k in
      let c = count-same (fetches p k) es e (apart p k) in
      omega (arith, a, c);
  planned = entries_push es e (all_of hs) t.planned;
  on_lanes = All-push (IsOnLane (length bs)) es e t.on_lanes (on (length bs));
  past = t.past;
}

-- the first hidden entry of a lane is that of its Fetched event
lane_fetched : (es : List Event) (l p k : ℕ) (b n : ClientTold) (x : PlannedBlock) (h : List Served) (j : List Place) → block_at es p k ≡ x ∷ [] → IsLane es l b n (entry_of p k x ∷ h) j → IsLane (es ++ Fetched l p k ∷ []) l b n h j
lane_fetched es l p k b n x h j at t =
    let e : Event = Fetched l p k in
    let here : served_in l es e ≡ entry_of p k x ∷ [] = ap (λ c. cond c (map (entry_of p k) (block_at es p k)) []) (eq-eqb l l refl) ∙ ap (λ (xs : List PlannedBlock). map (entry_of p k) xs) at in
    let more : served_by l (es ++ e ∷ []) ≡ served_by l es ++ entry_of p k x ∷ [] = telling-push (served_in l) es e ∙ ap (λ (s : List Served). served_by l es ++ s) here in
    let same : served_by l (es ++ e ∷ []) ++ h ≡ served_by l es ++ entry_of p k x ∷ h = ap (λ (s : List Served). s ++ h) more ∙ append_assoc (served_by l es) (entry_of p k x ∷ []) h in
    let late : expired_by l (es ++ e ∷ []) ≡ expired_by l es = count-same (expires_on l) es e refl in
    record {
      goes_on = t.goes_on;
      served = t.served ∙ ap (λ (s : List Served). option_map (λ xs. xs ++ s) b.served) (sym same);
      expired = let y = t.expired in omega (arith, late, y);
    }

-- another lane
lane_other : (es : List Event) (l m p k : ℕ) (b n : ClientTold) (h : List Served) (j : List Place) → (m ≡ l → ⊥) → IsLane es l b n h j → IsLane (es ++ Fetched m p k ∷ []) l b n h j
lane_other es l m p k b n h j apart t =
    let e : Event = Fetched m p k in
    lane_same es e l b n h j (ap (λ c. cond c (map (entry_of p k) (block_at es p k)) []) (ne_eqb m l apart)) refl t

each_fetched : (es : List Event) (first m p k : ℕ) (x : PlannedBlock) (h : List Served) (gs : List (List Served)) → block_at es p k ≡ x ∷ []
    → (bs ns : List ClientTold) (fs : List (List Served)) (ks : List (List Place)) → m ≡ first + length fs
    → EachLane es first bs ns (fs ++ (entry_of p k x ∷ h) ∷ gs) ks → EachLane (es ++ Fetched m p k ∷ []) first bs ns (fs ++ h ∷ gs) ks
each_fetched es first m p k x h gs at [] [] fs [] is t = absurd (never fs t)
  where
    never : (fs : List (List Served)) → EachLane es first [] [] (fs ++ (entry_of p k x ∷ h) ∷ gs) [] → ⊥
    never [] t = t
    never (f ∷ fs) t = t
each_fetched es first m p k x h gs at [] [] fs (j ∷ ks) is t = absurd (never fs t)
  where
    never : (fs : List (List Served)) → EachLane es first [] [] (fs ++ (entry_of p k x ∷ h) ∷ gs) (j ∷ ks) → ⊥
    never [] t = t
    never (f ∷ fs) t = t
each_fetched es first m p k x h gs at [] (n ∷ ns) fs ks is t = absurd t
each_fetched es first m p k x h gs at (b ∷ bs) [] fs ks is t = absurd t
each_fetched es first m p k x h gs at (b ∷ bs) (n ∷ ns) [] [] is t = absurd t
each_fetched es first m p k x h gs at (b ∷ bs) (n ∷ ns) (f ∷ fs) [] is t = absurd t
each_fetched es first m p k x h gs at (b ∷ bs) (n ∷ ns) [] (j ∷ ks) is t =
    let here : m ≡ first = omega (arith, is) in (
      subst (λ (l : ℕ). IsLane (es ++ Fetched l p k ∷ []) first b n h j) (sym here) (lane_fetched es first p k b n x h j at t.0),
      each_lane es (es ++ Fetched m p k ∷ []) (first + 1) (λ l c d g i q. lane_other es l m p k c d g i (λ e. absurd (omega arith))) bs ns gs ks t.1,
    )
each_fetched es first m p k x h gs at (b ∷ bs) (n ∷ ns) (f ∷ fs) (j ∷ ks) is t = (
  lane_other es first m p k b n f j (λ e. absurd (omega (arith, is, e))) t.0,
  each_fetched es (first + 1) m p k x h gs at bs ns fs ks (omega (arith, is)) t.1,
)

-- as many entries of a kind with this one as without it, and it
pub count_hidden : (T : Served → Bool) (x : Served) (h : List Served) (gs fs : List (List Served)) → count_by T (all_of (fs ++ (x ∷ h) ∷ gs)) ≡ cond (T x) 1 0 + count_by T (all_of (fs ++ h ∷ gs))
count_hidden T x h gs [] = count_by-cons T x (h ++ all_of gs)
count_hidden T x h gs (f ∷ fs) =
    let r = count_hidden T x h gs fs in
    let a = count-append T f (all_of (fs ++ (x ∷ h) ∷ gs)) in
    let b = count-append T f (all_of (fs ++ h ∷ gs)) in
    omega (arith, r, a, b)

-- without one of the hidden entries
planned_less : (P : Served → Type 0) (x : Served) (h : List Served) (gs fs : List (List Served)) → All P (all_of (fs ++ (x ∷ h) ∷ gs)) → All P (all_of (fs ++ h ∷ gs))
planned_less P x h gs [] a = All-tail P x (h ++ all_of gs) a
planned_less P x h gs (f ∷ fs) a = All-append P f (all_of (fs ++ h ∷ gs)) (all_left P f (all_of (fs ++ (x ∷ h) ∷ gs)) a) (planned_less P x h gs fs (all_right P f (all_of (fs ++ (x ∷ h) ∷ gs)) a))

-- a lane's next hidden entry is recorded
pub served_fetched : (es : List Event) (m p k : ℕ) (x : PlannedBlock) (h : List Served) (fs gs : List (List Served)) (ks : List (List Place)) (bs ns : List ClientTold) → block_at es p k ≡ x ∷ [] → m ≡ length fs
    → IsServed es (fs ++ (entry_of p k x ∷ h) ∷ gs) ks bs ns → IsServed (es ++ Fetched m p k ∷ []) (fs ++ h ∷ gs) ks bs ns
served_fetched es m p k x h fs gs ks bs ns at is t = record {
  lanes = each_fetched es 0 m p k x h gs at bs ns fs ks (omega (arith, is)) t.lanes;
  once = λ q j.
      let a = t.once q j in
      let c = count_hidden (is_pair q j) (entry_of p k x) h gs fs in
      let d = count_by-push (fetches q j) es (Fetched m p k) in
      omega (arith, a, c, d);
  planned = entries_push es (Fetched m p k) (all_of (fs ++ h ∷ gs)) (planned_less (IsPlannedEntry es) (entry_of p k x) h gs fs t.planned);
  on_lanes =
      let n = hidden_length es 0 bs ns (fs ++ (entry_of p k x ∷ h) ∷ gs) ks t.lanes in
      let c = length-append fs ((entry_of p k x ∷ h) ∷ gs) in
      All-push (IsOnLane (length bs)) es (Fetched m p k) t.on_lanes (omega (arith, n, c, is));
  past = t.past;
}

-- a lane's next late answer is recorded
lane_expired : (es : List Event) (l p k : ℕ) (b n : ClientTold) (h : List Served) (q : Place) (j : List Place) → IsLane es l b n h (q ∷ j) → IsLane (es ++ Expired l p k ∷ []) l b n h j
lane_expired es l p k b n h q j t =
    let e : Event = Expired l p k in
    let more : expired_by l (es ++ e ∷ []) ≡ expired_by l es + 1 = count-more (expires_on l) es e (eq-eqb l l refl) in
    record {
      goes_on = t.goes_on;
      served = t.served ∙ ap (λ (s : List Served). option_map (λ xs. xs ++ (s ++ h)) b.served) (sym (telling-same (served_in l) es e refl));
      expired = let y = t.expired in omega (arith, more, y);
    }

lane_still : (es : List Event) (l m p k : ℕ) (b n : ClientTold) (h : List Served) (j : List Place) → (m ≡ l → ⊥) → IsLane es l b n h j → IsLane (es ++ Expired m p k ∷ []) l b n h j
lane_still es l m p k b n h j apart t = lane_same es (Expired m p k) l b n h j refl (ne_eqb m l apart) t

each_expired : (es : List Event) (first m p k : ℕ) (q : Place) (j : List Place) (gs : List (List Place))
    → (bs ns : List ClientTold) (hs : List (List Served)) (fs : List (List Place)) → m ≡ first + length fs
    → EachLane es first bs ns hs (fs ++ (q ∷ j) ∷ gs) → EachLane (es ++ Expired m p k ∷ []) first bs ns hs (fs ++ j ∷ gs)
each_expired es first m p k q j gs [] [] [] [] is t = absurd t
each_expired es first m p k q j gs [] [] [] (f ∷ fs) is t = absurd t
each_expired es first m p k q j gs [] [] (h ∷ hs) fs is t = absurd t
each_expired es first m p k q j gs [] (n ∷ ns) hs fs is t = absurd t
each_expired es first m p k q j gs (b ∷ bs) [] hs fs is t = absurd t
each_expired es first m p k q j gs (b ∷ bs) (n ∷ ns) [] fs is t = absurd t
each_expired es first m p k q j gs (b ∷ bs) (n ∷ ns) (h ∷ hs) [] is t =
    let here : m ≡ first = omega (arith, is) in (
      subst (λ (l : ℕ). IsLane (es ++ Expired l p k ∷ []) first b n h j) (sym here) (lane_expired es first p k b n h q j t.0),
      each_lane es (es ++ Expired m p k ∷ []) (first + 1) (λ l c d g i q. lane_still es l m p k c d g i (λ e. absurd (omega arith))) bs ns hs gs t.1,
    )
each_expired es first m p k q j gs (b ∷ bs) (n ∷ ns) (h ∷ hs) (f ∷ fs) is t = (
  lane_still es first m p k b n h f (λ e. absurd (omega (arith, is, e))) t.0,
  each_expired es (first + 1) m p k q j gs bs ns hs fs (omega (arith, is)) t.1,
)

-- as many places with this one as without it, and it
pub count_late : (p k : ℕ) (x : Place) (j : List Place) (gs fs : List (List Place)) → count_by (at_place p k) (all_late (fs ++ (x ∷ j) ∷ gs)) ≡ cond (at_place p k x) 1 0 + count_by (at_place p k) (all_late (fs ++ j ∷ gs))
count_late p k x j gs [] = count_by-cons (at_place p k) x (j ++ all_late gs)
count_late p k x j gs (f ∷ fs) =
    let r = count_late p k x j gs fs in
    let a = count-append (at_place p k) f (all_late (fs ++ (x ∷ j) ∷ gs)) in
    let b = count-append (at_place p k) f (all_late (fs ++ j ∷ gs)) in
    omega (arith, r, a, b)

pub served_expired : (es : List Event) (m p k : ℕ) (j : List Place) (hs : List (List Served)) (fs gs : List (List Place)) (bs ns : List ClientTold) → m ≡ length fs
    → IsServed es hs (fs ++ ((p, k) ∷ j) ∷ gs) bs ns → IsServed (es ++ Expired m p k ∷ []) hs (fs ++ j ∷ gs) bs ns
served_expired es m p k j hs fs gs bs ns is t = record {
  lanes = each_expired es 0 m p k (p, k) j gs bs ns hs fs (omega (arith, is)) t.lanes;
  once = λ q i.
      let a = t.once q i in
      let c = count-same (fetches q i) es (Expired m p k) refl in
      omega (arith, a, c);
  planned = entries_push es (Expired m p k) (all_of hs) t.planned;
  on_lanes =
      let n = late_length es 0 bs ns hs (fs ++ ((p, k) ∷ j) ∷ gs) t.lanes in
      let c = length-append fs (((p, k) ∷ j) ∷ gs) in
      All-push (IsOnLane (length bs)) es (Expired m p k) t.on_lanes (omega (arith, n, c, is));
  past = t.past;
}
