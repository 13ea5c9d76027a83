-- The pieces of planned terms over a store, and where they stand.
use Rattle.std.proofs.Common.{◌≡◌, ⊎_elim, ℕ, zero, suc, ◌+◌, ◌-◌, ◌≤◌, ◌<◌, Bool, true, false, List, [], ◌∷◌, ◌++◌, length, take, drop, refl, sym, ◌∙◌, ap, arith, append_assoc, length-append, Option, Some, None}
use Rattle.std.specs.Prelude.{cond, filter, map, option_map, slice_get, unwrap_or}
use Rattle.std.specs.List.{flat_map, slice_range, sum_by}
use Rattle.std.proofs.lemmas.Bool.{cases_lt, ltb-false}
use Rattle.std.proofs.lemmas.Grind.{flat_map-append}
use Rattle.std.proofs.lemmas.List.{take-append-drop, take-append-le}
use Rattle.std.proofs.lemmas.List.Sums.{sum_by-append, sum_by-cons}
use Rattle.xet_base.specs.declared.cas_types.FileRange.{FileRange}
use Rattle.xet_base.specs.Store.{Store, IsValid, bytes_of, window}
use Rattle.xet_outside.specs.Plan.{block_of}
use Rattle.xet_events.specs.declared.event.Event.{Event}
use Rattle.xet_events.specs.declared.event.PlannedBlock.{PlannedBlock}
use Rattle.xet_events.specs.Allowed.{IsAllowedHistory}
use Rattle.xet_events.specs.Events.{Task, last_of, planned, size}
use Rattle.xet_history.specs.Laws.{IsPrefix}
use Rattle.xet_history.specs.Queries.{CutFrom}
use Rattle.xet_history.specs.TrueHistory.{IsTrueHistory, ReachesEnd, piece_in, queries, task_piece}
use Rattle.xet_history.proofs.CallerLemmas.{all_sized, pieces_are_prefix, pieces_cover, pieces_reach}
use Rattle.xet_ties.specs.Saids.{has_bytes, some_of}
use Rattle.xet_ties.specs.Setup.{Setup, download_of}
use Rattle.xet_ties.specs.Ties.{FirstStarts}
use Rattle.xet_stream_rules.specs.Unordered.{offset_of}
use Rattle.xet_stream_rules.proofs.CallerLemmas.{pieces_some, starts_at}

-- ---- lists

length_take : {A : Type 0} (n : ℕ) (xs : List A) → length (take n xs) ≤ n
length_take zero xs = omega arith
length_take (suc n) [] = omega arith
length_take (suc n) (x ∷ xs) = let h = length_take n xs in omega (arith, h)

drop_at : {A : Type 0} (xs : List A) (i : ℕ) (x : A) → slice_get xs i ≡ Some x → drop i xs ≡ x ∷ drop (suc i) xs
drop_at [] i x h = absurd (cc)
drop_at (y ∷ ys) zero x h = let e : y ≡ x = cc in ap (λ z. z ∷ ys) e
drop_at (y ∷ ys) (suc i) x h = drop_at ys i x h

-- the bytes after some others are a prefix's at their place
after : (xs ys zs : List ℕ) → IsPrefix (xs ++ ys) zs → ys ≡ take (length ys) (drop (length xs) zs)
after [] ys zs p = sym (ap (λ (l : List ℕ). take (length ys) l) (sym p.joined)
    ∙ take-append-le (length ys) ys p.rest (omega arith) ∙ own ys)
  where
    own : (l : List ℕ) → take (length l) l ≡ l
    own [] = refl
    own (x ∷ xs) = ap (λ (r : List ℕ). x ∷ r) (own xs)
after (x ∷ xs) ys [] p = absurd (let e : x ∷ ((xs ++ ys) ++ p.rest) ≡ [] = p.joined in cc)
after (x ∷ xs) ys (z ∷ zs) p =
    let e : x ∷ ((xs ++ ys) ++ p.rest) ≡ z ∷ zs = p.joined in
    after xs ys zs (record { rest = p.rest; joined = (cc) })

-- ---- sizes

piece_short : (s : Store) (t : Task) → length (task_piece s t) ≤ size t
piece_short s t = by (slice_get t.blocks t.term.block)
  where
    by : (o : Option PlannedBlock)
        → length (unwrap_or (option_map (λ b. piece_in (block_of s b.xorb b.ranges) t.term) o) []) ≤ size t
    by None = omega arith
    by (Some b) = length_take (size t) _

pieces_short : (s : Store) (ts : List Task) → length (flat_map (task_piece s) ts) ≤ sum_by size ts
pieces_short s [] = omega arith
pieces_short s (t ∷ ts) =
    let one = piece_short s t in
    let rest = pieces_short s ts in
    let sum = sum_by-cons size t ts in
    let both = length-append (task_piece s t) (flat_map (task_piece s) ts) in
    omega (arith, one, rest, sum, both)

some_sum : (ts : List Task) → sum_by size (filter has_bytes ts) ≡ sum_by size ts
some_sum [] = refl
some_sum (t ∷ ts) = by (some_sum ts) (has_bytes t) refl
  where
    by : sum_by size (filter has_bytes ts) ≡ sum_by size ts → (v : Bool) → has_bytes t ≡ v
        → sum_by size (filter has_bytes (t ∷ ts)) ≡ sum_by size (t ∷ ts)
    by rest true e =
        let one = sum_by-cons size t (filter has_bytes ts) in
        let two = sum_by-cons size t ts in
        ap (λ (b : Bool). sum_by size (cond b (t ∷ filter has_bytes ts) (filter has_bytes ts))) e
        ∙ omega (arith, rest, one, two)
    by rest false e =
        let none = ltb-false 0 (size t) e in
        let two = sum_by-cons size t ts in
        ap (λ (b : Bool). sum_by size (cond b (t ∷ filter has_bytes ts) (filter has_bytes ts))) e
        ∙ omega (arith, rest, none, two)

-- where all together have their sizes each beginning has
front_sized : (s : Store) (ts : List Task) (i : ℕ) → length (flat_map (task_piece s) ts) ≡ sum_by size ts
    → length (flat_map (task_piece s) (take i ts)) ≡ sum_by size (take i ts)
front_sized s ts i h =
    let one = pieces_short s (take i ts) in
    let two = pieces_short s (drop i ts) in
    let parts : take i ts ++ drop i ts ≡ ts = take-append-drop i ts in
    let bytes = ap length (flat_map-append (task_piece s) (take i ts) (drop i ts))
    ∙ length-append (flat_map (task_piece s) (take i ts)) (flat_map (task_piece s) (drop i ts)) in
    let sum = sum_by-append size (take i ts) (drop i ts) in
    let all = ap (λ (l : List Task). length (flat_map (task_piece s) l)) parts in
    let whole = ap (λ (l : List Task). sum_by size l) parts in
    omega (arith, h, one, two, bytes, sum, all, whole)

-- ---- over a true history

module _ (s : Store) (valid : IsValid s) (g : Setup) (es : List Event)
    (true_es : IsTrueHistory s (download_of g) es) where
  all_pieces_sized : length (flat_map (task_piece s) (some_of es)) ≡ sum_by size (some_of es)
  all_pieces_sized =
      let whole = all_sized s valid g.file g.multirange es true_es.plans in
      ap length (pieces_some s (planned es)) ∙ sym whole ∙ sym (some_sum (planned es))

  -- a planned term's piece is the window's bytes at its place
  pub placed_at : IsAllowedHistory es → FirstStarts g.range.start (planned es) → (i : ℕ) (t : Task)
      → slice_get (some_of es) i ≡ Some t
      → task_piece s t ≡ take (length (task_piece s t)) (drop (offset_of g.range t) (window s g.file g.range))
  placed_at allowed starts i t at =
      let ts = some_of es in
      let xs = flat_map (task_piece s) (take i ts) in
      let whole = pieces_are_prefix s valid (download_of g) es true_es in
      let parts : flat_map (task_piece s) ts ≡ xs ++ (task_piece s t ++ flat_map (task_piece s) (drop (suc i) ts)) =
      ap (λ (l : List Task). flat_map (task_piece s) l) (sym (take-append-drop i ts))
      ∙ flat_map-append (task_piece s) (take i ts) (drop i ts)
      ∙ ap (λ (l : List Task). xs ++ flat_map (task_piece s) l) (drop_at ts i t at) in
      let rest = flat_map (task_piece s) (drop (suc i) ts) in
      let prefix : IsPrefix (xs ++ task_piece s t) (window s g.file g.range) = record {
        rest = rest ++ whole.rest;
        joined = sym (append_assoc (xs ++ task_piece s t) rest whole.rest)
            ∙ ap (λ (l : List ℕ). l ++ whole.rest)
            (append_assoc xs (task_piece s t) rest ∙ sym parts ∙ pieces_some s (planned es))
            ∙ whole.joined;
      } in
      let start = starts_at g.range.start es i t allowed starts at in
      let sized = front_sized s ts i all_pieces_sized in
      let place : length xs ≡ offset_of g.range t = omega (arith, start, sized) in
      after xs (task_piece s t) (window s g.file g.range) prefix
      ∙ ap (λ (n : ℕ). take (length (task_piece s t)) (drop n (window s g.file g.range))) place

  -- all together are the window, where its end is reached
  pub all_pieces : IsAllowedHistory es → (g.range.start < g.range.end → ReachesEnd g.range es)
      → flat_map (task_piece s) (some_of es) ≡ window s g.file g.range
  all_pieces a e = pieces_some s (planned es) ∙
      ⊎_elim
      (λ (h : g.range.start < g.range.end). pieces_reach s valid (download_of g) es a true_es (e h))
      (λ (h : g.range.end ≤ g.range.start).
      let cover = pieces_cover s valid (download_of g) es true_es in
      let none = no_queries g.range (g.greatest + g.least) (queries es) h true_es.cuts in
      cover ∙ ap (λ (l : List FileRange). window s g.file (record {
        start = g.range.start;
        end = last_of g.range.start (map (λ q. q.end) l);
      })) none
      ∙ empty_cut g.range.start g.range.start (bytes_of s g.file) (omega arith)
      ∙ sym (empty_cut g.range.start g.range.end (bytes_of s g.file) h))
      (cases_lt g.range.start g.range.end)
    where
      no_queries : (r : FileRange) (bound : ℕ) (qs : List FileRange) → r.end ≤ r.start → CutFrom r.start r.end bound qs
          → qs ≡ []
      no_queries r bound [] h c = refl
      no_queries r bound (q ∷ qs) h c =
          let x : q.start ≡ r.start = c.0 in
          let y : q.start < q.end = c.1 in
          let z : q.end ≤ r.end = c.2 in
          absurd (omega (arith, x, y, z, h))

      empty_cut : (a b : ℕ) (xs : List ℕ) → b ≤ a → slice_range xs a b ≡ []
      empty_cut a b xs h = let e : b - a ≡ 0 = omega (arith, h) in ap (λ (n : ℕ). take n (drop a xs)) e
