-- Queues of terms, step by step.
use Rattle.std.proofs.Common.{◌≡◌, ℕ, zero, suc, ◌+◌, ◌-◌, ◌<◌, ◌≤◌, Bool, true, false, cond, ◌&&◌, ◌==◌, List, [], ◌∷◌, ◌++◌, length, take, drop, get_or, set, Option, Some, None, ap, sym, ◌∙◌, refl, subst, arith, add-one, length-append, length-drop}
use Rattle.std.specs.Prelude.{is_none, nat_le}
use Rattle.std.specs.List.{concat, position_from}
use Rattle.std.proofs.lemmas.Bool.{eqb-true, eq-eqb, leb-true}
use Rattle.xet_queue.specs.declared.queued_term.QueuedTerm.{QueuedTerm}
use Rattle.xet_queue.specs.Queues.{bytes_then, chain_end, fits, is_wanted_at, ready, ready_bytes, supplied, wanted}
use Rattle.xet_base.specs.declared.cas_types.FileRange.{FileRange}
use Rattle.xet_error.specs.declared.error.WriterFault.TheVariants as fault
use Rattle.xet_queue.specs.Calls.{finish_fault, length_fault, supply_fault, wanted_without}
use Rattle.xet_queue.specs.Sequential.{Sequential}
use Rattle.xet_queue.specs.steps.QueueSteps.{GiveCall, with_bytes}
use Rattle.xet_error.specs.declared.error.WriterFault.{WriterFault}

-- ---- lists

-- the first elements, where the rest is known
take_suc : {A : Type 0} (xs : List A) (k : ℕ) (y : A) (ys : List A) → drop k xs ≡ y ∷ ys → take (suc k) xs ≡ take k xs ++ y ∷ []
take_suc [] zero y ys e = absurd (cc)
take_suc [] (suc k) y ys e = absurd (cc)
take_suc (x ∷ xs) zero y ys e = let f : x ≡ y = cc in ap (λ z. z ∷ []) f
take_suc (x ∷ xs) (suc k) y ys e = ap (λ l. x ∷ l) (take_suc xs k y ys e)

pub take_next : {A : Type 0} (xs : List A) (k : ℕ) (y : A) (ys : List A) → drop k xs ≡ y ∷ ys → take (k + 1) xs ≡ take k xs ++ y ∷ []
take_next xs k y ys e = rw add-one (take_suc xs k y ys e)

drop_suc : {A : Type 0} (xs : List A) (k : ℕ) (y : A) (ys : List A) → drop k xs ≡ y ∷ ys → drop (suc k) xs ≡ ys
drop_suc [] zero y ys e = absurd (cc)
drop_suc [] (suc k) y ys e = absurd (cc)
drop_suc (x ∷ xs) zero y ys e = let f : xs ≡ ys = cc in f
drop_suc (x ∷ xs) (suc k) y ys e = drop_suc xs k y ys e

pub drop_next : {A : Type 0} (xs : List A) (k : ℕ) (y : A) (ys : List A) → drop k xs ≡ y ∷ ys → drop (k + 1) xs ≡ ys
drop_next xs k y ys e = rw add-one (drop_suc xs k y ys e)

pub drop_some : {A : Type 0} (xs : List A) (k : ℕ) (y : A) (ys : List A) → drop k xs ≡ y ∷ ys → k < length xs
drop_some xs k y ys e = let a = ap length e in let b = length-drop k xs in omega arith

pub drop_none : {A : Type 0} (xs : List A) (k : ℕ) → drop k xs ≡ [] → length xs ≤ k
drop_none xs k e = let a = ap length e in let b = length-drop k xs in omega arith

-- ---- ready terms

pub ready_front : (ts us : List QueuedTerm) (t : QueuedTerm) (bytes : List ℕ) → ts ≡ t ∷ us → t.bytes ≡ Some bytes → ready ts ≡ bytes ∷ ready us
ready_front ts us t bytes e f = ap ready e ∙ ap (λ o. bytes_then o (ready us)) f

ready_short : (t : QueuedTerm) (ts : List QueuedTerm) (o : Option (List ℕ)) → length (ready ts) ≤ length ts → length (bytes_then o (ready ts)) ≤ length (t ∷ ts)
ready_short t ts None h = omega arith
ready_short t ts (Some bytes) h = omega arith

-- not more terms are ready than there are
pub ready_within : (ts : List QueuedTerm) → length (ready ts) ≤ length ts
ready_within [] = omega arith
ready_within (t ∷ ts) = ready_short t ts t.bytes (ready_within ts)

pub ready_past : (ts : List QueuedTerm) (i : ℕ) → length ts ≤ i → length (ready ts) ≤ i
ready_past ts i h = let w = ready_within ts in omega arith

-- ---- tests

and_both : (a b : Bool) → (a && b) ≡ true → (a ≡ true) × (b ≡ true)
and_both true true e = (refl, refl)
and_both true false e = absurd (cc)
and_both false b e = absurd (cc)

eq_of : (m n : ℕ) → (m == n) ≡ true → m ≡ n
eq_of m n e = eqb-true m n e

same_true : {m n : ℕ} → m ≡ n → (m == n) ≡ true
same_true {m} {n} e = eq-eqb m n e

le_of : (m n : ℕ) → nat_le m n ≡ true → m ≤ n
le_of m n e = leb-true m n e

some_same : {m n : ℕ} → ◌≡◌ {A = Option ℕ} (Some m) (Some n) → m ≡ n
some_same e = cc

fits_le : (o : Option (List ℕ)) (r : FileRange) → fits o r ≡ true → nat_le r.start r.end ≡ true
fits_le None r e = e
fits_le (Some bytes) r e = (and_both (nat_le r.start r.end) (length bytes == r.end - r.start) e).0

no_fault_at : (r : FileRange) (bytes : List ℕ) (b : Bool) → cond b None (Some (fault.Length (r.end - r.start) (length bytes))) ≡ None → b ≡ true
no_fault_at r bytes true e = refl
no_fault_at r bytes false e = absurd (cc)

pub no_fault : (r : FileRange) (bytes : List ℕ) → length_fault r bytes ≡ None → (length bytes == r.end - r.start) ≡ true
no_fault r bytes e = no_fault_at r bytes (length bytes == r.end - r.start) e

room_at : (place : ℕ) (o : Option (List ℕ)) (r : FileRange) (rest : List (List ℕ)) (end : ℕ) → r.start ≡ place → fits o r ≡ true → r.end + length (concat rest) ≤ end → place + length (concat (bytes_then o rest)) ≤ end
room_at place None r rest end s f h = let l = le_of r.start r.end f in omega arith
room_at place (Some bytes) r rest end s f h =
    let c = and_both (nat_le r.start r.end) (length bytes == r.end - r.start) f in
    let l = le_of r.start r.end c.0 in
    let m = eq_of (length bytes) (r.end - r.start) c.1 in
    let n = length-append bytes (concat rest) in
    omega arith

all_at : (place : ℕ) (o : Option (List ℕ)) (r : FileRange) (t : QueuedTerm) (ts : List QueuedTerm) (end : ℕ) → t.bytes ≡ o → r.start ≡ place → fits o r ≡ true → wanted (t ∷ ts) ≡ [] → (wanted ts ≡ [] → r.end + length (ready_bytes ts) ≡ end) → place + length (concat (bytes_then o (ready ts))) ≡ end
all_at place None r t ts end e s f w k = let z : wanted (t ∷ ts) ≡ t.byte_range ∷ wanted ts = rw e refl in absurd (cc)
all_at place (Some bytes) r t ts end e s f w k =
    let z : wanted (t ∷ ts) ≡ wanted ts = rw e refl in
    let q = k (sym z ∙ w) in
    let c = and_both (nat_le r.start r.end) (length bytes == r.end - r.start) f in
    let l = le_of r.start r.end c.0 in
    let m = eq_of (length bytes) (r.end - r.start) c.1 in
    let n = length-append bytes (ready_bytes ts) in
    omega arith

-- ---- one term

pub record Found (start i : ℕ) (bytes : List ℕ) (ts : List QueuedTerm) (k : ℕ) (d : QueuedTerm) : Type 0 where
  pub above : i ≤ k
  pub within : k - i < length ts
  pub filled : with_bytes ts (k - i) bytes ≡ supplied start bytes ts
  pub fault_is : supply_fault (wanted ts) start bytes ≡ length_fault (get_or ts (k - i) d).byte_range bytes

found_first : (start i : ℕ) (bytes : List ℕ) (t : QueuedTerm) (ts : List QueuedTerm) (d : QueuedTerm) → is_none t.bytes ≡ true → (t.byte_range.start == start) ≡ true → Found start i bytes (t ∷ ts) i d
found_first start i bytes t ts d eb ec =
    let z : i - i ≡ 0 = omega arith in
    record {
      above = omega arith;
      within = omega arith;
      filled = rw (z, eb, ec) refl;
      fault_is = rw (z, eb, ec) refl;
    }

found_later : (start i : ℕ) (bytes : List ℕ) (t : QueuedTerm) (ts : List QueuedTerm) (k : ℕ) (d : QueuedTerm) (b c : Bool) → (b && c) ≡ false → is_none t.bytes ≡ b → (t.byte_range.start == start) ≡ c → Found start (i + 1) bytes ts k d → Found start i bytes (t ∷ ts) k d
found_later start i bytes t ts k d true true x eb ec r = absurd (cc)
found_later start i bytes t ts k d true false x eb ec r =
    let a = r.above in
    let w = r.within in
    let z : k - i ≡ suc (k - (i + 1)) = omega arith in
    record { above = omega arith; within = omega arith; filled = rw (z, eb, ec) (ap (λ l. t ∷ l) r.filled); fault_is = rw (z, eb, ec) r.fault_is }
found_later start i bytes t ts k d false c x eb ec r =
    let a = r.above in
    let w = r.within in
    let z : k - i ≡ suc (k - (i + 1)) = omega arith in
    record { above = omega arith; within = omega arith; filled = rw (z, eb) (ap (λ l. t ∷ l) r.filled); fault_is = rw (z, eb) r.fault_is }

found_at : (start i : ℕ) (bytes : List ℕ) (t : QueuedTerm) (ts : List QueuedTerm) (k : ℕ) (d : QueuedTerm) (b c : Bool) → is_none t.bytes ≡ b → (t.byte_range.start == start) ≡ c → position_from (is_wanted_at start) i (t ∷ ts) ≡ Some k → (position_from (is_wanted_at start) (i + 1) ts ≡ Some k → Found start (i + 1) bytes ts k d) → Found start i bytes (t ∷ ts) k d
found_at start i bytes t ts k d true true eb ec e r =
    let f : ◌≡◌ {A = Option ℕ} (Some i) (Some k) = rw (eb, ec) at e in
    let g = some_same f in
    subst (λ j. Found start i bytes (t ∷ ts) j d) g (found_first start i bytes t ts d eb ec)
found_at start i bytes t ts k d true false eb ec e r = found_later start i bytes t ts k d true false refl eb ec (r (rw (eb, ec) at e))
found_at start i bytes t ts k d false c eb ec e r = found_later start i bytes t ts k d false c refl eb ec (r (rw eb at e))

not_at : (start i : ℕ) (bytes : List ℕ) (t : QueuedTerm) (ts : List QueuedTerm) (b c : Bool) → is_none t.bytes ≡ b → (t.byte_range.start == start) ≡ c → position_from (is_wanted_at start) i (t ∷ ts) ≡ None → (position_from (is_wanted_at start) (i + 1) ts ≡ None → supply_fault (wanted ts) start bytes ≡ Some (fault.NotWanted start)) → supply_fault (wanted (t ∷ ts)) start bytes ≡ Some (fault.NotWanted start)
not_at start i bytes t ts true true eb ec e r = let f : ◌≡◌ {A = Option ℕ} (Some i) None = rw (eb, ec) at e in absurd (cc)
not_at start i bytes t ts true false eb ec e r = rw (eb, ec) (r (rw (eb, ec) at e))
not_at start i bytes t ts false c eb ec e r = rw eb (r (rw eb at e))

supplied_at : (start : ℕ) (bytes : List ℕ) (t : QueuedTerm) (ts : List QueuedTerm) (b c : Bool) → is_none t.bytes ≡ b → (t.byte_range.start == start) ≡ c → wanted (supplied start bytes ts) ≡ wanted_without start (wanted ts) → wanted (supplied start bytes (t ∷ ts)) ≡ wanted_without start (wanted (t ∷ ts))
supplied_at start bytes t ts true true eb ec r = rw (eb, ec) refl
supplied_at start bytes t ts true false eb ec r = rw (eb, ec, eb) (ap (λ l. t.byte_range ∷ l) r)
supplied_at start bytes t ts false c eb ec r = rw (eb, eb) r

-- ---- places

-- the front term of a chain
chain_test : (place : ℕ) (t : QueuedTerm) (ts : List QueuedTerm) (end : ℕ) (b : Bool) → (t.byte_range.start == place && fits t.bytes t.byte_range) ≡ b → cond b (chain_end t.byte_range.end ts) None ≡ Some end → (b ≡ true) × (chain_end t.byte_range.end ts ≡ Some end)
chain_test place t ts end true h e = (refl, e)
chain_test place t ts end false h e = absurd (cc)

pub chain_front : (place : ℕ) (t : QueuedTerm) (ts : List QueuedTerm) (end : ℕ) → chain_end place (t ∷ ts) ≡ Some end → ((t.byte_range.start == place && fits t.bytes t.byte_range) ≡ true) × (chain_end t.byte_range.end ts ≡ Some end)
chain_front place t ts end e = chain_test place t ts end (t.byte_range.start == place && fits t.bytes t.byte_range) refl e

-- a chain with one term more
pub chain_more : (place : ℕ) (ts : List QueuedTerm) (t : QueuedTerm) (end : ℕ) → chain_end place ts ≡ Some end → t.byte_range.start ≡ end → fits t.bytes t.byte_range ≡ true → chain_end place (ts ++ t ∷ []) ≡ Some t.byte_range.end
chain_more place [] t end e s f =
    let g : (t.byte_range.start == place) ≡ true = same_true (s ∙ sym (some_same e)) in
    rw (g, f) refl
chain_more place (u ∷ ts) t end e s f =
    let q = chain_front place u ts end e in
    rw q.0 (chain_more u.byte_range.end ts t end q.1 s f)

-- the ready bytes fit before the end
pub chain_room : (place : ℕ) (ts : List QueuedTerm) (end : ℕ) → chain_end place ts ≡ Some end → place + length (ready_bytes ts) ≤ end
chain_room place [] end e = let f = some_same e in omega arith
chain_room place (t ∷ ts) end e =
    let q = chain_front place t ts end e in
    let r = chain_room t.byte_range.end ts end q.1 in
    let b = and_both (t.byte_range.start == place) (fits t.bytes t.byte_range) q.0 in
    let s = eq_of (t.byte_range.start) place b.0 in
    room_at place t.bytes t.byte_range (ready ts) end s b.1 r

-- all bytes reach the end
pub chain_all : (place : ℕ) (ts : List QueuedTerm) (end : ℕ) → chain_end place ts ≡ Some end → wanted ts ≡ [] → place + length (ready_bytes ts) ≡ end
chain_all place [] end e w = let f = some_same e in omega arith
chain_all place (t ∷ ts) end e w =
    let q = chain_front place t ts end e in
    let b = and_both (t.byte_range.start == place) (fits t.bytes t.byte_range) q.0 in
    let s = eq_of (t.byte_range.start) place b.0 in
    all_at place t.bytes t.byte_range t ts end refl s b.1 w (λ v. chain_all t.byte_range.end ts end q.1 v)

-- the front term was written
pub chain_next : (place : ℕ) (ts us : List QueuedTerm) (t : QueuedTerm) (bytes : List ℕ) (end : ℕ) → chain_end place ts ≡ Some end → ts ≡ t ∷ us → t.bytes ≡ Some bytes → chain_end (place + length bytes) us ≡ Some end
chain_next place ts us t bytes end e f g =
    let q = chain_front place t us end (sym (ap (λ l. chain_end place l) f) ∙ e) in
    let b = and_both (t.byte_range.start == place) (fits t.bytes t.byte_range) q.0 in
    let s = eq_of (t.byte_range.start) place b.0 in
    let h : fits (Some bytes) t.byte_range ≡ true = rw g at b.1 in
    let c = and_both (nat_le t.byte_range.start t.byte_range.end) (length bytes == t.byte_range.end - t.byte_range.start) h in
    let l = le_of t.byte_range.start t.byte_range.end c.0 in
    let m = eq_of (length bytes) (t.byte_range.end - t.byte_range.start) c.1 in
    let n : place + length bytes ≡ t.byte_range.end = omega arith in
    rw n q.1

-- a term got its bytes
pub chain_filled : (place : ℕ) (ts : List QueuedTerm) (k : ℕ) (bytes : List ℕ) (end : ℕ) (d : QueuedTerm) → k < length ts → length_fault (get_or ts k d).byte_range bytes ≡ None → chain_end place ts ≡ Some end → chain_end place (with_bytes ts k bytes) ≡ Some end
chain_filled place [] k bytes end d h l e = absurd (omega arith)
chain_filled place (t ∷ ts) zero bytes end d h l e =
    let q = chain_front place t ts end e in
    let b = and_both (t.byte_range.start == place) (fits t.bytes t.byte_range) q.0 in
    let f = fits_le t.bytes t.byte_range b.1 in
    let m = no_fault t.byte_range bytes l in
    rw (b.0, f, m) q.1
chain_filled place (t ∷ ts) (suc k) bytes end d h l e =
    let q = chain_front place t ts end e in
    rw q.0 (chain_filled t.byte_range.end ts k bytes end d (omega arith) l q.1)

-- ---- supplied terms

pub found_term : (start i : ℕ) (bytes : List ℕ) (ts : List QueuedTerm) (k : ℕ) (d : QueuedTerm) → position_from (is_wanted_at start) i ts ≡ Some k → Found start i bytes ts k d
found_term start i bytes [] k d e = absurd (cc)
found_term start i bytes (t ∷ ts) k d e = found_at start i bytes t ts k d (is_none t.bytes) (t.byte_range.start == start) refl refl e (λ f. found_term start (i + 1) bytes ts k d f)

pub not_found : (start i : ℕ) (bytes : List ℕ) (ts : List QueuedTerm) → position_from (is_wanted_at start) i ts ≡ None → supply_fault (wanted ts) start bytes ≡ Some (fault.NotWanted start)
not_found start i bytes [] e = refl
not_found start i bytes (t ∷ ts) e = not_at start i bytes t ts (is_none t.bytes) (t.byte_range.start == start) refl refl e (λ f. not_found start (i + 1) bytes ts f)

-- what a supplied term leaves to wait
pub wanted_supplied : (start : ℕ) (bytes : List ℕ) (ts : List QueuedTerm) → wanted (supplied start bytes ts) ≡ wanted_without start (wanted ts)
wanted_supplied start bytes [] = refl
wanted_supplied start bytes (t ∷ ts) = supplied_at start bytes t ts (is_none t.bytes) (t.byte_range.start == start) refl refl (wanted_supplied start bytes ts)

-- the term of this number, which was read, with its bytes
pub put_is : (ts : List QueuedTerm) (k : ℕ) (bytes : List ℕ) (t : QueuedTerm) → k < length ts → t ≡ get_or ts k t → set ts k (record t { bytes = Some bytes }) ≡ with_bytes ts k bytes
put_is [] k bytes t h e = absurd (omega arith)
put_is (u ∷ ts) zero bytes t h e = ap (λ (q : QueuedTerm). record q { bytes = Some bytes } ∷ ts) e
put_is (u ∷ ts) (suc k) bytes t h e = ap (λ l. u ∷ l) (put_is ts k bytes t (omega arith) e)

pub give_none : {S : Type 0} (b : Sequential S) (start : ℕ) (bytes : List ℕ) → position_from (is_wanted_at start) 0 b.queue ≡ None → GiveCall b b start bytes (Some (fault.NotWanted start))
give_none b start bytes e = (not_found start 0 bytes b.queue e, refl)

-- the term of this number has its bytes, and no test failed
pub give_done : {S : Type 0} (b n : Sequential S) (start k : ℕ) (bytes : List ℕ) (d : QueuedTerm) → position_from (is_wanted_at start) 0 b.queue ≡ Some k → length_fault (get_or b.queue k d).byte_range bytes ≡ None → n ≡ record b { queue = with_bytes b.queue k bytes } → GiveCall b n start bytes None
give_done b n start k bytes d e l h =
    let r = found_term start 0 bytes b.queue k d e in
    let z : k - 0 ≡ k = omega arith in
    let f : with_bytes b.queue k bytes ≡ supplied start bytes b.queue = rw z at r.filled in
    let g : supply_fault (wanted b.queue) start bytes ≡ length_fault (get_or b.queue k d).byte_range bytes = rw z at r.fault_is in
    let q : n ≡ record b { queue = supplied start bytes b.queue } = h ∙ ap (λ (l : List QueuedTerm). record b { queue = l }) f in
    (g ∙ l, q, ap (λ w. wanted w.queue) q ∙ wanted_supplied start bytes b.queue)

-- or its length test did
pub give_refused : {S : Type 0} (b : Sequential S) (start k : ℕ) (bytes : List ℕ) (d : QueuedTerm) (f : WriterFault) → position_from (is_wanted_at start) 0 b.queue ≡ Some k → length_fault (get_or b.queue k d).byte_range bytes ≡ Some f → GiveCall b b start bytes (Some f)
give_refused b start k bytes d f e l =
    let r = found_term start 0 bytes b.queue k d e in
    let z : k - 0 ≡ k = omega arith in
    let g : supply_fault (wanted b.queue) start bytes ≡ length_fault (get_or b.queue k d).byte_range bytes = rw z at r.fault_is in
    (g ∙ l, refl)

-- what the queue is, where that term has its bytes
pub filled_is : (start k : ℕ) (bytes : List ℕ) (ts : List QueuedTerm) (d : QueuedTerm) → position_from (is_wanted_at start) 0 ts ≡ Some k → with_bytes ts k bytes ≡ supplied start bytes ts
filled_is start k bytes ts d e =
    let r = found_term start 0 bytes ts k d e in
    let z : k - 0 ≡ k = omega arith in
    rw z at r.filled

within_at : (start i : ℕ) (t : QueuedTerm) (ts : List QueuedTerm) (k : ℕ) (b : Bool) → is_wanted_at start t ≡ b → cond b (Some i) (position_from (is_wanted_at start) (i + 1) ts) ≡ Some k → (position_from (is_wanted_at start) (i + 1) ts ≡ Some k → (i + 1 ≤ k) × (k < i + 1 + length ts)) → (i ≤ k) × (k < i + length (t ∷ ts))
within_at start i t ts k true eb e r = let g = some_same e in (omega arith, omega arith)
within_at start i t ts k false eb e r = let w = r e in let a = w.0 in let c = w.1 in (omega arith, omega arith)

within_from : (start i : ℕ) (ts : List QueuedTerm) (k : ℕ) → position_from (is_wanted_at start) i ts ≡ Some k → (i ≤ k) × (k < i + length ts)
within_from start i [] k e = absurd (cc)
within_from start i (t ∷ ts) k e = within_at start i t ts k (is_wanted_at start t) refl e (λ f. within_from start (i + 1) ts k f)

pub found_within : (start k : ℕ) (ts : List QueuedTerm) → position_from (is_wanted_at start) 0 ts ≡ Some k → k < length ts
found_within start k ts e = let w = within_from start 0 ts k e in omega arith

pub none_wanted : (rs : List FileRange) → finish_fault rs ≡ None → rs ≡ []
none_wanted [] e = refl
none_wanted (r ∷ rs) e = absurd (cc)
