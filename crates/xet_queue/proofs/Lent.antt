-- Terms that lend their bytes for a write, and get them back.
use Rattle.std.proofs.Common.{◌≡◌, ℕ, zero, suc, ◌+◌, ◌-◌, ◌<◌, ◌≤◌, ◌==◌, Bool, true, false, List, [], ◌∷◌, ◌++◌, take, drop, length, get_or, set, Option, Some, None, ap, sym, ◌∙◌, refl, arith, add-one, length-append, length-drop}
use Rattle.std.specs.Prelude.{is_some, nat_lt}
use Rattle.std.proofs.lemmas.Bool.{eqb-true, lt-ltb, ltb-false, ltb-true}
use Rattle.std.proofs.lemmas.List.{append-nil, get_or-drop, take_more}
use Rattle.std.proofs.lemmas.List.Elements.{filter-append}
use Rattle.xet_queue.specs.declared.queued_term.QueuedTerm.{QueuedTerm}
use Rattle.xet_queue.specs.Pieces.{nonempty}
use Rattle.xet_queue.specs.Queues.{bytes_then, ready}
use Rattle.xet_queue.specs.steps.Lending.{Lends, kept_bytes, lent, lent_at, lent_pieces}
use Rattle.xet_queue.specs.steps.QueueSteps.{with_bytes}
use Rattle.xet_queue.proofs.Terms.{ready_past}

-- any term
abbrev pub no_term : QueuedTerm
no_term = record { byte_range = record { start = 0; end = 0 }; admission = None; bytes = None }

-- ---- one term

pub same_length : (ts : List QueuedTerm) (k : ℕ) → length (lent_at ts k) ≡ length ts
same_length [] k = refl
same_length (t ∷ ts) zero = refl
same_length (t ∷ ts) (suc k) = ap suc (same_length ts k)

-- the others stay
other_stays : (ts : List QueuedTerm) (j k : ℕ) (d : QueuedTerm) → j < k → get_or (lent_at ts j) k d ≡ get_or ts k d
other_stays [] j k d h = refl
other_stays (t ∷ ts) zero zero d h = absurd (omega arith)
other_stays (t ∷ ts) zero (suc k) d h = refl
other_stays (t ∷ ts) (suc j) zero d h = absurd (omega arith)
other_stays (t ∷ ts) (suc j) (suc k) d h = other_stays ts j k d (omega arith)

keeps : (ts : List QueuedTerm) (k : ℕ) (d : QueuedTerm) → k < length ts → (get_or (lent_at ts k) k d).bytes ≡ kept_bytes (get_or ts k d).bytes
keeps [] k d h = absurd (omega arith)
keeps (t ∷ ts) zero d h = refl
keeps (t ∷ ts) (suc k) d h = keeps ts k d (omega arith)

-- a term without bytes to lend stays as it is
none_lent : (ts : List QueuedTerm) (k : ℕ) (d : QueuedTerm) → kept_bytes (get_or ts k d).bytes ≡ (get_or ts k d).bytes → lent_at ts k ≡ ts
none_lent [] k d e = refl
none_lent (t ∷ ts) zero d e = ap (λ o. record t { bytes = o } ∷ ts) e
none_lent (t ∷ ts) (suc k) d e = ap (λ l. t ∷ l) (none_lent ts k d e)

pub wanted_lent : (ts : List QueuedTerm) (k : ℕ) (d : QueuedTerm) → (get_or ts k d).bytes ≡ None → lent_at ts k ≡ ts
wanted_lent ts k d e = none_lent ts k d (ap kept_bytes e ∙ sym e)

pub empty_lent : (ts : List QueuedTerm) (k : ℕ) (d : QueuedTerm) → (get_or ts k d).bytes ≡ Some [] → lent_at ts k ≡ ts
empty_lent ts k d e = none_lent ts k d (ap kept_bytes e ∙ sym e)

pub no_bytes : (p : List ℕ) → (length p == 0) ≡ true → p ≡ []
no_bytes [] e = refl
no_bytes (b ∷ bs) e = let z = eqb-true (length (b ∷ bs)) 0 e in absurd (omega arith)

-- a term whose bytes were taken has lent them
pub taken_is : (ts : List QueuedTerm) (k : ℕ) (t : QueuedTerm) (p : List ℕ) → k < length ts → t ≡ get_or ts k t → t.bytes ≡ Some p → 0 < length p → set ts k (record t { bytes = None }) ≡ lent_at ts k
taken_is [] k t p h e f l = absurd (omega arith)
taken_is (u ∷ ts) zero t [] h e f l = absurd (omega arith)
taken_is (u ∷ ts) zero t (b ∷ bs) h e f l =
    let g : t ≡ u = e in
    let k : kept_bytes t.bytes ≡ None = ap kept_bytes f in
    ap (λ o. record t { bytes = o } ∷ ts) (sym k) ∙ ap (λ (q : QueuedTerm). record q { bytes = kept_bytes q.bytes } ∷ ts) g
taken_is (u ∷ ts) (suc k) t p h e f l = ap (λ m. u ∷ m) (taken_is ts k t p (omega arith) e f l)

-- a term gets back what it lent
given_back : (ts : List QueuedTerm) (k : ℕ) (p : List ℕ) (d : QueuedTerm) → k < length ts → (get_or ts k d).bytes ≡ Some p → with_bytes (lent_at ts k) k p ≡ ts
given_back [] k p d h e = absurd (omega arith)
given_back (t ∷ ts) zero p d h e = ap (λ o. record t { bytes = o } ∷ ts) (sym e)
given_back (t ∷ ts) (suc k) p d h e = ap (λ l. t ∷ l) (given_back ts k p d (omega arith) e)

-- ---- putting back

last_same : {A : Type 0} (xs ys : List A) (x y : A) → xs ++ x ∷ [] ≡ ys ++ y ∷ [] → (xs ≡ ys) × (x ≡ y)
last_same [] [] x y e = let f : x ≡ y = cc in (refl, f)
last_same [] (z ∷ []) x y e = absurd (cc)
last_same [] (z ∷ w ∷ ys) x y e = absurd (cc)
last_same (z ∷ []) [] x y e = absurd (cc)
last_same (z ∷ w ∷ xs) [] x y e = absurd (cc)
last_same (z ∷ xs) (w ∷ ys) x y e =
    let f : z ≡ w = cc in
    let g : xs ++ x ∷ [] ≡ ys ++ y ∷ [] = cc in
    let r = last_same xs ys x y g in
    (ap (λ a. a ∷ xs) f ∙ ap (λ l. w ∷ l) r.0, r.1)

-- a term that has bytes where some may be lent has lent none, and there is nothing of it among the pieces
pub kept_one : (ts qs : List QueuedTerm) (k : ℕ) (p : List ℕ) (ps all : List (List ℕ)) (d : QueuedTerm) → k < length ts → qs ≡ lent_at ts k → (get_or ts k d).bytes ≡ Some p → all ≡ ps ++ nonempty (p ∷ []) → is_some (get_or qs k d).bytes ≡ true → (qs ≡ ts) × (all ≡ ps)
kept_one ts qs k [] ps all d h e f g s = (e ∙ empty_lent ts k d f, g ∙ append-nil ps)
kept_one ts qs k (b ∷ bs) ps all d h e f g s =
    let z : (get_or qs k d).bytes ≡ None = ap (λ l. (get_or l k d).bytes) e ∙ keeps ts k d h ∙ ap kept_bytes f in
    let w : is_some {T = List ℕ} None ≡ true = rw z at s in
    absurd (cc)

one_piece : (b : ℕ) (bs : List ℕ) → nonempty ((b ∷ bs) ∷ []) ≡ (b ∷ bs) ∷ []
one_piece b bs = let e = lt-ltb 0 (length (b ∷ bs)) (omega arith) in rw e refl

-- one that has none gets back the last piece
pub back_one : (ts qs : List QueuedTerm) (k : ℕ) (p q : List ℕ) (ps all rest : List (List ℕ)) (d : QueuedTerm) → k < length ts → qs ≡ lent_at ts k → (get_or ts k d).bytes ≡ Some p → all ≡ ps ++ nonempty (p ∷ []) → is_some (get_or qs k d).bytes ≡ false → all ≡ rest ++ q ∷ [] → (with_bytes qs k q ≡ ts) × (rest ≡ ps)
back_one ts qs k [] q ps all rest d h e f g s r =
    let z : (get_or qs k d).bytes ≡ Some [] = ap (λ l. (get_or l k d).bytes) e ∙ keeps ts k d h ∙ ap kept_bytes f in
    let w : is_some {T = List ℕ} (Some []) ≡ false = rw z at s in
    absurd (cc)
back_one ts qs k (b ∷ bs) q ps all rest d h e f g s r =
    let l = last_same rest ps q (b ∷ bs) (sym r ∙ g ∙ ap (λ m. ps ++ m) (one_piece b bs)) in
    (ap (λ x. with_bytes qs k x) l.1 ∙ ap (λ x. with_bytes x k (b ∷ bs)) e ∙ given_back ts k (b ∷ bs) d h f, l.0)

-- there is a piece then
pub some_piece : (ts qs : List QueuedTerm) (k : ℕ) (p : List ℕ) (ps all : List (List ℕ)) (d : QueuedTerm) → k < length ts → qs ≡ lent_at ts k → (get_or ts k d).bytes ≡ Some p → all ≡ ps ++ nonempty (p ∷ []) → is_some (get_or qs k d).bytes ≡ false → 0 < length all
some_piece ts qs k [] ps all d h e f g s =
    let z : (get_or qs k d).bytes ≡ Some [] = ap (λ l. (get_or l k d).bytes) e ∙ keeps ts k d h ∙ ap kept_bytes f in
    let w : is_some {T = List ℕ} (Some []) ≡ false = rw z at s in
    absurd (cc)
some_piece ts qs k (b ∷ bs) ps all d h e f g s = let a = ap length (g ∙ ap (λ m. ps ++ m) (one_piece b bs)) in let n = length-append ps ((b ∷ bs) ∷ []) in omega arith

-- ---- several terms

lent_length : (at : ℕ) (ts : List QueuedTerm) (n : ℕ) → length (lent at ts n) ≡ length ts
lent_length at ts zero = refl
lent_length at ts (suc n) = same_length (lent at ts n) (at + n) ∙ lent_length at ts n

past_stays : (at : ℕ) (ts : List QueuedTerm) (n k : ℕ) (d : QueuedTerm) → at + n ≤ k → get_or (lent at ts n) k d ≡ get_or ts k d
past_stays at ts zero k d h = refl
past_stays at ts (suc n) k d h = other_stays (lent at ts n) (at + n) k d (omega arith) ∙ past_stays at ts n k d (omega arith)

ready_at : (t : QueuedTerm) (ts : List QueuedTerm) (k : ℕ) (d : QueuedTerm) (o : Option (List ℕ)) → t.bytes ≡ o → k < length (bytes_then o (ready ts)) → ((j : ℕ) → j < length (ready ts) → (get_or ts j d).bytes ≡ Some (get_or (ready ts) j [])) → (get_or (t ∷ ts) k d).bytes ≡ Some (get_or (bytes_then o (ready ts)) k [])
ready_at t ts k d None e h r = absurd (omega arith)
ready_at t ts zero d (Some p) e h r = e
ready_at t ts (suc k) d (Some p) e h r = r k (omega arith)

-- the bytes of a ready term
ready_get : (ts : List QueuedTerm) (k : ℕ) (d : QueuedTerm) → k < length (ready ts) → (get_or ts k d).bytes ≡ Some (get_or (ready ts) k [])
ready_get [] k d h = absurd (omega arith)
ready_get (t ∷ ts) k d h = ready_at t ts k d t.bytes refl h (λ j i. ready_get ts j d i)

next_at : (t : QueuedTerm) (ts : List QueuedTerm) (k : ℕ) (d : QueuedTerm) (o : Option (List ℕ)) → t.bytes ≡ o → k < length (t ∷ ts) → k ≤ length (bytes_then o (ready ts)) → is_some (get_or (t ∷ ts) k d).bytes ≡ true → ((j : ℕ) → j < length ts → j ≤ length (ready ts) → is_some (get_or ts j d).bytes ≡ true → j < length (ready ts)) → k < length (bytes_then o (ready ts))
next_at t ts zero d None e h i b r = let z : is_some {T = List ℕ} None ≡ true = rw e at b in absurd (cc)
next_at t ts (suc k) d None e h i b r = absurd (omega arith)
next_at t ts zero d (Some p) e h i b r = omega arith
next_at t ts (suc k) d (Some p) e h i b r = let z = r k (omega arith) (omega arith) b in omega arith

-- a term with bytes after ready ones is ready
next_ready : (ts : List QueuedTerm) (k : ℕ) (d : QueuedTerm) → k < length ts → k ≤ length (ready ts) → is_some (get_or ts k d).bytes ≡ true → k < length (ready ts)
next_ready [] k d h i b = absurd (omega arith)
next_ready (t ∷ ts) k d h i b = next_at t ts k d t.bytes refl h i b (λ j a c e. next_ready ts j d a c e)

pieces_more : (at : ℕ) (ts : List QueuedTerm) (n : ℕ) → at + n < length (ready ts) → lent_pieces at ts (suc n) ≡ lent_pieces at ts n ++ nonempty (get_or (ready ts) (at + n) [] ∷ [])
pieces_more at ts n h =
    let l = length-drop at (ready ts) in
    let a : take (suc n) (drop at (ready ts)) ≡ take n (drop at (ready ts)) ++ get_or (drop at (ready ts)) n [] ∷ [] = rw add-one at (take_more (drop at (ready ts)) n [] (omega arith)) in
    let b : take (suc n) (drop at (ready ts)) ≡ take n (drop at (ready ts)) ++ get_or (ready ts) (at + n) [] ∷ [] = a ∙ ap (λ x. take n (drop at (ready ts)) ++ x ∷ []) (get_or-drop at (ready ts) n []) in
    ap nonempty b ∙ filter-append _ (take n (drop at (ready ts))) (get_or (ready ts) (at + n) [] ∷ [])

-- ---- lending

-- one more
pub lends_more : (at end : ℕ) (ts qs us : List QueuedTerm) (ps rs : List (List ℕ)) (d : QueuedTerm) → Lends at end ts qs ps → end < length qs → is_some (get_or qs end d).bytes ≡ true → us ≡ lent_at qs end → rs ≡ ps ++ nonempty (bytes_then (get_or qs end d).bytes []) → Lends at (end + 1) ts us rs
lends_more at end ts qs us ps rs d l h s e f =
    let n = l.count in
    let x = l.end_is in
    let w = l.within in
    let q = l.queue in
    let a = ap length q ∙ lent_length at ts n in
    let g : get_or qs end d ≡ get_or ts end d = ap (λ m. get_or m end d) q ∙ past_stays at ts n end d (omega arith) in
    let r = next_ready ts end d (omega arith) w (rw g at s) in
    let b : (get_or qs end d).bytes ≡ Some (get_or (ready ts) (at + n) []) = ap (λ t. t.bytes) g ∙ ready_get ts end d r ∙ ap (λ j. Some (get_or (ready ts) j [])) x in
    record {
      count = suc n;
      end_is = omega arith;
      within = omega arith;
      queue = e ∙ ap (λ m. lent_at m end) q ∙ ap (λ j. lent_at (lent at ts n) j) x;
      pieces_are = f ∙ ap (λ o. ps ++ nonempty (bytes_then o [])) b ∙ ap (λ m. m ++ nonempty (get_or (ready ts) (at + n) [] ∷ [])) l.pieces_are ∙ sym (pieces_more at ts n (omega arith));
    }

stay_by : (at end : ℕ) (ts qs us : List QueuedTerm) (ps rs : List (List ℕ)) (d : QueuedTerm) (o : Option (List ℕ)) → (get_or qs end d).bytes ≡ o → Lends at end ts qs ps → is_some o ≡ false → us ≡ lent_at qs end → rs ≡ ps ++ nonempty (bytes_then o []) → Lends at end ts us rs
stay_by at end ts qs us ps rs d None b l s e f = record {
  count = l.count;
  end_is = l.end_is;
  within = l.within;
  queue = e ∙ wanted_lent qs end d b ∙ l.queue;
  pieces_are = f ∙ append-nil ps ∙ l.pieces_are;
}
stay_by at end ts qs us ps rs d (Some p) b l s e f = absurd (cc)

-- a wanted term lends nothing
pub lends_stay : (at end : ℕ) (ts qs us : List QueuedTerm) (ps rs : List (List ℕ)) (d : QueuedTerm) → Lends at end ts qs ps → is_some (get_or qs end d).bytes ≡ false → us ≡ lent_at qs end → rs ≡ ps ++ nonempty (bytes_then (get_or qs end d).bytes []) → Lends at end ts us rs
lends_stay at end ts qs us ps rs d l s e f = stay_by at end ts qs us ps rs d (get_or qs end d).bytes refl l s e f

pub lends_within : (at end : ℕ) (ts qs : List QueuedTerm) (ps : List (List ℕ)) → Lends at end ts qs ps → end ≤ length qs
lends_within at end ts qs ps l =
    let a = ap length l.queue ∙ lent_length at ts l.count in
    let b = ready_past ts (length ts) (omega arith) in
    let w = l.within in
    omega arith

-- the last term ends the ready ones, too
pub lends_end : (at end : ℕ) (ts qs : List QueuedTerm) (ps : List (List ℕ)) → Lends at end ts qs ps → length qs ≤ end → length (ready ts) ≤ end
lends_end at end ts qs ps l h =
    let a = ap length l.queue ∙ lent_length at ts l.count in
    ready_past ts end (omega arith)

ends_at : (at end : ℕ) (ts qs : List QueuedTerm) (ps : List (List ℕ)) (d : QueuedTerm) (b : Bool) → nat_lt end (length (ready ts)) ≡ b → Lends at end ts qs ps → is_some (get_or qs end d).bytes ≡ false → length (ready ts) ≤ end
ends_at at end ts qs ps d true e l s =
    let h = ltb-true end (length (ready ts)) e in
    let x = l.end_is in
    let g : get_or qs end d ≡ get_or ts end d = ap (λ m. get_or m end d) l.queue ∙ past_stays at ts l.count end d (omega arith) in
    let b : (get_or qs end d).bytes ≡ Some (get_or (ready ts) end []) = ap (λ t. t.bytes) g ∙ ready_get ts end d h in
    let w : is_some {T = List ℕ} (Some (get_or (ready ts) end [])) ≡ false = rw b at s in
    absurd (cc)
ends_at at end ts qs ps d false e l s = ltb-false end (length (ready ts)) e

-- a wanted term ends the ready ones
pub lends_all : (at end : ℕ) (ts qs : List QueuedTerm) (ps : List (List ℕ)) (d : QueuedTerm) → Lends at end ts qs ps → is_some (get_or qs end d).bytes ≡ false → length (ready ts) ≤ end
lends_all at end ts qs ps d l s = ends_at at end ts qs ps d (nat_lt end (length (ready ts))) refl l s

-- ---- getting back

-- what one term's bytes are put back into
abbrev pub PutsBack : ℕ → List QueuedTerm → List QueuedTerm → List (List ℕ) → List (List ℕ) → Type 0
PutsBack k qs us all rest = (ts : List QueuedTerm) (ps : List (List ℕ)) (p : List ℕ) (d : QueuedTerm) → qs ≡ lent_at ts k → (get_or ts k d).bytes ≡ Some p → all ≡ ps ++ nonempty (p ∷ []) → (us ≡ ts) × (rest ≡ ps)

less_by : (at k n m : ℕ) (ts qs us : List QueuedTerm) (all rest : List (List ℕ)) → n ≡ suc m → k ≡ at + m → k + 1 ≤ length (ready ts) → qs ≡ lent at ts n → all ≡ lent_pieces at ts n → PutsBack k qs us all rest → Lends at k ts us rest
less_by at k n m ts qs us all rest e f h q a b =
    let d : QueuedTerm = no_term in
    let x : qs ≡ lent_at (lent at ts m) k = q ∙ ap (λ j. lent at ts j) e ∙ ap (λ j. lent_at (lent at ts m) j) (sym f) in
    let g : get_or (lent at ts m) k d ≡ get_or ts k d = past_stays at ts m k d (omega arith) in
    let y : (get_or (lent at ts m) k d).bytes ≡ Some (get_or (ready ts) (at + m) []) = ap (λ t. t.bytes) g ∙ ready_get ts k d (omega arith) ∙ ap (λ j. Some (get_or (ready ts) j [])) f in
    let z : all ≡ lent_pieces at ts m ++ nonempty (get_or (ready ts) (at + m) [] ∷ []) = a ∙ ap (λ j. lent_pieces at ts j) e ∙ pieces_more at ts m (omega arith) in
    let r = b (lent at ts m) (lent_pieces at ts m) (get_or (ready ts) (at + m) []) d x y z in
    record { count = m; end_is = f; within = omega arith; queue = r.0; pieces_are = r.1 }

-- one less
pub lends_less : (at k : ℕ) (ts qs us : List QueuedTerm) (all rest : List (List ℕ)) → at ≤ k → Lends at (k + 1) ts qs all → PutsBack k qs us all rest → Lends at k ts us rest
lends_less at k ts qs us all rest h l b =
    let x = l.end_is in
    let e : l.count ≡ suc (k - at) = omega arith in
    let f : k ≡ at + (k - at) = omega arith in
    less_by at k l.count (k - at) ts qs us all rest e f l.within l.queue l.pieces_are b

back_by : (at n : ℕ) (ts qs : List QueuedTerm) (ps : List (List ℕ)) → n ≡ 0 → qs ≡ lent at ts n → ps ≡ lent_pieces at ts n → (qs ≡ ts) × (ps ≡ [])
back_by at n ts qs ps e q a = (q ∙ ap (λ j. lent at ts j) e, a ∙ ap (λ j. lent_pieces at ts j) e)

-- all is back
pub lends_back : (at end : ℕ) (ts qs : List QueuedTerm) (ps : List (List ℕ)) → end ≤ at → Lends at end ts qs ps → (qs ≡ ts) × (ps ≡ [])
lends_back at end ts qs ps h l = let x = l.end_is in back_by at l.count ts qs ps (omega arith) l.queue l.pieces_are
