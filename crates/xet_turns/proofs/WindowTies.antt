-- What a run is tied to after the bytes of a window were taken, before they are recorded.
use Rattle.std.proofs.Common.{◌≡◌, ℕ, ◌+◌, ◌≤◌, Bool, true, false, cond, List, [], ◌∷◌, ◌++◌, length, take, drop, refl, sym, subst, ◌∙◌, ap, arith, append_assoc, length-append, length-take, Option, Some, None}
use Rattle.std.specs.Prelude.{filter, map, option_map, slice_get, slice_index_or, unwrap_or}
use Rattle.std.specs.List.{concat, flat_map, sum_by}
use Rattle.std.proofs.lemmas.Bool.{ltb-false}
use Rattle.std.proofs.lemmas.List.{take-append-drop}
use Rattle.std.proofs.lemmas.List.Concat.{flat_map-append}
use Rattle.std.proofs.lemmas.List.Sums.{sum_by-append, sum_by-cons}
use Rattle.xet_base.specs.Store.{Store}
use Rattle.xet_outside.specs.Plan.{block_of}
use Rattle.xet_outside.specs.Told.{SinkTold, Took}
use Rattle.xet_events.specs.declared.event.Event.{Event}
use Rattle.xet_events.specs.declared.event.PlannedBlock.{PlannedBlock}
use Rattle.xet_events.specs.Events.{Task, planned, size}
use Rattle.xet_history.specs.Laws.{IsPrefix}
use Rattle.xet_history.specs.TrueHistory.{piece_in, pieces, task_piece}
use Rattle.xet_history.proofs.CallerLemmas.{all_sized}
use Rattle.xet_ties.specs.Saids.{has_bytes}
use Rattle.xet_ties.specs.Setup.{RunTold, Setup}
use Rattle.xet_ties.specs.Ties.{Ties}
use Rattle.xet_ties.proofs.CallerLemmas.{tie_window, window_tested}
use Rattle.xet_leader.specs.Led.{Led}
use Rattle.xet_stages.specs.RunWindows.{IsWindow}
use Rattle.xet_leader.specs.Steady.{IsGoing, Loose, Moment}

-- ---- pieces of a store

piece_by : (s : Store) (t : Task) (o : Option PlannedBlock)
    → length (unwrap_or (option_map (λ b. piece_in (block_of s b.xorb b.ranges) t.term) o) []) ≤ size t
piece_by s t None = omega arith
piece_by s t (Some b) =
    let e = block_of s b.xorb b.ranges in
    let n = length-take (size t) (drop (slice_index_or e.offsets t.term.start_index 0 + t.term.offset) e.bytes) in
    omega (arith, n)

-- a piece is no longer than its term
piece_fits : (s : Store) (t : Task) → length (task_piece s t) ≤ size t
piece_fits s t = piece_by s t (slice_get t.blocks t.term.block)

pieces_fit : (s : Store) (ts : List Task) → length (flat_map (task_piece s) ts) ≤ sum_by size ts
pieces_fit s [] = omega arith
pieces_fit s (t ∷ ts) =
    let a = piece_fits s t in
    let r = pieces_fit s ts in
    let c = sum_by-cons size t ts in
    let l = length-append (task_piece s t) (flat_map (task_piece s) ts) in
    omega (arith, a, r, c, l)

-- where all are as long, so are the first ones
front_sized : (s : Store) (ts us : List Task) → sum_by size (ts ++ us) ≡ length (flat_map (task_piece s) (ts ++ us))
    → sum_by size ts ≡ length (flat_map (task_piece s) ts)
front_sized s ts us h =
    let a = pieces_fit s ts in
    let b = pieces_fit s us in
    let c = sum_by-append size ts us in
    let d = ap length (flat_map-append (task_piece s) ts us) in
    let e = length-append (flat_map (task_piece s) ts) (flat_map (task_piece s) us) in
    omega (arith, a, b, c, d, e, h)

none_of : (xs : List ℕ) → length xs ≤ 0 → xs ≡ []
none_of [] h = refl
none_of (x ∷ xs) h = absurd (omega (arith, h))

-- terms without bytes have none
joined_some : (s : Store) (ts : List Task) → concat (map (task_piece s) (filter has_bytes ts)) ≡ flat_map
    (task_piece s) ts
joined_some s [] = refl
joined_some s (t ∷ ts) = by (joined_some s ts) (has_bytes t) refl
  where
    by : concat (map (task_piece s) (filter has_bytes ts)) ≡ flat_map (task_piece s) ts → (v : Bool) → has_bytes t ≡ v
        → concat (map (task_piece s) (cond v (t ∷ filter has_bytes ts) (filter has_bytes ts))) ≡ flat_map
        (task_piece s) (t ∷ ts)
    by r true e = ap (λ (l : List ℕ). task_piece s t ++ l) r
    by r false e =
        let z : size t ≤ 0 = ltb-false 0 (size t) e in
        let f = piece_fits s t in
        let none : task_piece s t ≡ [] = none_of (task_piece s t) (omega (arith, z, f)) in
        r ∙ sym (ap (λ (l : List ℕ). l ++ flat_map (task_piece s) ts) none)

same_front : {A : Type 0} (xs us ys vs : List A) → xs ++ us ≡ ys ++ vs → length xs ≡ length ys → xs ≡ ys
same_front [] us [] vs e n = refl
same_front [] us (y ∷ ys) vs e n = absurd (omega (arith, n))
same_front (x ∷ xs) us [] vs e n = absurd (omega (arith, n))
same_front (x ∷ xs) us (y ∷ ys) vs e n =
    let h : x ≡ y = cc in
    let t : xs ++ us ≡ ys ++ vs = cc in
    ap (λ z. z ∷ xs) h ∙ ap (λ l. y ∷ l) (same_front xs us ys vs t (omega (arith, n)))

-- the pieces of the first terms, and the beginning of those after them, begin all pieces
more_of : (s : Store) (es : List Event) (k : ℕ) (ts rest : List Task) (taken bytes : List ℕ)
    → sum_by size (planned es) ≡ length (pieces s es) → length taken ≡ sum_by size (take k (planned es))
    → IsPrefix taken (pieces s es) → drop k (planned es) ≡ ts ++ rest → IsPrefix bytes (flat_map (task_piece s) ts)
    → IsPrefix (taken ++ bytes) (pieces s es)
more_of s es k ts rest taken bytes all sized first next front =
    let f : Task → List ℕ = task_piece s in
    let parts : planned es ≡ take k (planned es) ++ drop k (planned es) = sym (take-append-drop k (planned es)) in
    let own : sum_by size (take k (planned es)) ≡ length (flat_map (task_piece s) (take k (planned es))) =
    front_sized s (take k (planned es)) (drop k (planned es))
    (subst (λ (l : List Task). sum_by size l ≡ length (flat_map (task_piece s) l)) parts all) in
    let split : pieces s es ≡ flat_map (task_piece s) (take k (planned es)) ++
    (flat_map (task_piece s) ts ++ flat_map (task_piece s) rest) =
    ap (λ (l : List Task). flat_map (task_piece s) l) parts
    ∙ flat_map-append (task_piece s) (take k (planned es)) (drop k (planned es))
    ∙ ap (λ (l : List Task). flat_map (task_piece s) (take k (planned es)) ++ flat_map (task_piece s) l) next
    ∙ ap (λ (l : List ℕ). flat_map (task_piece s) (take k (planned es)) ++ l)
    (flat_map-append (task_piece s) ts rest) in
    let same : taken ≡ flat_map (task_piece s) (take k (planned es)) =
    same_front taken first.rest (flat_map (task_piece s) (take k (planned es)))
    (flat_map (task_piece s) ts ++ flat_map (task_piece s) rest) (first.joined ∙ split) (sized ∙ own) in
    record {
      rest = front.rest ++ flat_map (task_piece s) rest;
      joined =
          append_assoc taken bytes (front.rest ++ flat_map (task_piece s) rest)
          ∙ ap (λ (l : List ℕ). taken ++ l) (sym (append_assoc bytes front.rest (flat_map (task_piece s) rest))
          ∙ ap (λ (l : List ℕ). l ++ flat_map (task_piece s) rest) front.joined)
          ∙ ap (λ (l : List ℕ). l ++ (flat_map (task_piece s) ts ++ flat_map (task_piece s) rest)) same
          ∙ sym split;
    }

-- ---- a run that goes on

-- the sink took the beginning of a window's bytes, which aren't recorded yet
pub window_tied : (g : Setup) (b : RunTold) (m : Moment) (o : Loose) (l : Led) (s : IsGoing g b m o l)
    (lengths : List ℕ) (new : List (List ℕ)) (to : SinkTold) (bytes : List ℕ)
    → IsWindow g b m.events s.slack l lengths new → IsPrefix bytes (concat new)
    → Took m.told.sink.took to.took bytes → m.told.sink.faults ≤ to.faults → to.link ≡ m.told.sink.link
    → Ties g b (record m.told { sink = to }) m.events None (record s.slack { ahead = length bytes })
window_tied g b m o l s lengths new to bytes w front took faults link =
    let t = s.ties in
    let u = t.taken in
    let ahead = s.settled.ahead in
    let counted = u.counted in
    let written_are = s.led.counted.written_are in
    let sized : length u.taken ≡ sum_by size (take l.finished (planned m.events)) =
    omega (arith, ahead, counted, written_are) in
    let tested = window_tested g s.slack.heard s.slack.looks m.events l.finished w.tasks w.rest u.taken new bytes
    sized w.next w.tested front u.tested in
    let n : s.slack.ahead + length bytes ≡ length bytes = omega (arith, ahead) in
    subst (λ (k : ℕ). Ties g b (record m.told { sink = to }) m.events None (record s.slack { ahead = k })) n
    (tie_window g b m.told m.events s.slack to bytes took faults link t
    (λ st over tells.
    let all = all_sized st over.valid g.file g.multirange m.events (t.true_of st over).plans in
    let joined : concat new ≡ flat_map (task_piece st) w.tasks =
    ap concat (w.honest st over tells) ∙ joined_some st w.tasks in
    more_of st m.events l.finished w.tasks w.rest u.taken bytes all sized (u.pieces st over tells) w.next
    (record { rest = front.rest; joined = front.joined ∙ joined }))
    tested)
