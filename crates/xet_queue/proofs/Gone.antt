-- Terms that leave the front of a queue.
use Rattle.std.proofs.Common.{◌≡◌, ℕ, zero, suc, ◌+◌, ◌<◌, ◌≤◌, List, [], ◌∷◌, ◌++◌, length, take, drop, Option, Some, None, ap, sym, ◌∙◌, refl, arith, append_assoc, length-append}
use Rattle.std.specs.Prelude.{option_to_list}
use Rattle.std.specs.List.{concat}
use Rattle.xet_queue.specs.declared.queued_term.QueuedTerm.{QueuedTerm}
use Rattle.xet_queue.specs.Pieces.{bytes_before}
use Rattle.xet_queue.specs.Queues.{admissions, bytes_then, chain_end, ready}
use Rattle.xet_queue.specs.steps.Lending.{lent, lent_at}
use Rattle.xet_queue.specs.steps.WantedPlaces.{places_of}
use Rattle.xet_queue.proofs.Places.{places_next}
use Rattle.xet_queue.proofs.Terms.{chain_next}

-- ---- their admissions

none_of : (n : ℕ) → admissions (take n []) ≡ []
none_of zero = refl
none_of (suc n) = refl

pub admissions_both : (at n : ℕ) (ts : List QueuedTerm) → admissions (take (at + n) ts) ≡ admissions (take at ts) ++ admissions (take n (drop at ts))
admissions_both zero n ts = let e : 0 + n ≡ n = omega arith in ap (λ j. admissions (take j ts)) e
admissions_both (suc at) n [] = none_of (suc at + n) ∙ sym (none_of n)
admissions_both (suc at) n (t ∷ ts) =
    let e : suc at + n ≡ suc (at + n) = omega arith in
    ap (λ j. admissions (take j (t ∷ ts))) e ∙ ap (λ l. option_to_list t.admission ++ l) (admissions_both at n ts) ∙ sym (append_assoc (option_to_list t.admission) (admissions (take at ts)) (admissions (take n (drop at ts))))

-- ---- after their bytes were lent

past_one : (ts : List QueuedTerm) (n k : ℕ) → k < n → drop n (lent_at ts k) ≡ drop n ts
past_one ts zero k h = absurd (omega arith)
past_one [] (suc n) k h = refl
past_one (t ∷ ts) (suc n) zero h = refl
past_one (t ∷ ts) (suc n) (suc k) h = past_one ts n k (omega arith)

-- the terms behind those that lent bytes
pub past_lent : (ts : List QueuedTerm) (m n : ℕ) → m ≤ n → drop n (lent 0 ts m) ≡ drop n ts
past_lent ts zero n h = refl
past_lent ts (suc m) n h = past_one (lent 0 ts m) n (0 + m) (omega arith) ∙ past_lent ts m n (omega arith)

one_lent : (ts : List QueuedTerm) (n k : ℕ) → admissions (take n (lent_at ts k)) ≡ admissions (take n ts)
one_lent ts zero k = refl
one_lent [] (suc n) k = refl
one_lent (t ∷ ts) (suc n) zero = refl
one_lent (t ∷ ts) (suc n) (suc k) = ap (λ l. option_to_list t.admission ++ l) (one_lent ts n k)

-- no admission is lent
pub admissions_lent : (ts : List QueuedTerm) (m n : ℕ) → admissions (take n (lent 0 ts m)) ≡ admissions (take n ts)
admissions_lent ts zero n = refl
admissions_lent ts (suc m) n = one_lent (lent 0 ts m) n (0 + m) ∙ admissions_lent ts m n

-- ---- the queue behind ready terms

-- it goes on where their bytes end, the same terms are wanted, and the same ones behind are ready
pub record Behind (place end number n : ℕ) (ts : List QueuedTerm) : Type 0 where
  pub chain : chain_end (place + bytes_before n (ready ts)) (drop n ts) ≡ Some end
  pub places : places_of (number + n) (drop n ts) ≡ places_of number ts
  pub ready_is : ready (drop n ts) ≡ drop n (ready ts)

behind_at : (place end number n : ℕ) (t : QueuedTerm) (ts : List QueuedTerm) (o : Option (List ℕ)) → t.bytes ≡ o → suc n ≤ length (bytes_then o (ready ts)) → chain_end place (t ∷ ts) ≡ Some end → ((at : ℕ) → n ≤ length (ready ts) → chain_end at ts ≡ Some end → Behind at end (number + 1) n ts) → Behind place end number (suc n) (t ∷ ts)
behind_at place end number n t ts None f h e r = absurd (omega arith)
behind_at place end number n t ts (Some bytes) f h e r =
    let q = r (place + length bytes) (omega arith) (chain_next place (t ∷ ts) ts t bytes end e refl f) in
    let g : ready (t ∷ ts) ≡ bytes ∷ ready ts = ap (λ o. bytes_then o (ready ts)) f in
    let a = length-append bytes (concat (take n (ready ts))) in
    let b : place + bytes_before (suc n) (bytes ∷ ready ts) ≡ place + length bytes + bytes_before n (ready ts) = omega arith in
    let x : place + bytes_before (suc n) (ready (t ∷ ts)) ≡ place + length bytes + bytes_before n (ready ts) = ap (λ (ps : List (List ℕ)). place + bytes_before (suc n) ps) g ∙ b in
    let y : number + suc n ≡ number + 1 + n = omega arith in
    record {
      chain = ap (λ k. chain_end k (drop n ts)) x ∙ q.chain;
      places = ap (λ k. places_of k (drop n ts)) y ∙ q.places ∙ places_next number (t ∷ ts) ts t bytes refl f;
      ready_is = q.ready_is ∙ ap (λ (ps : List (List ℕ)). drop (suc n) ps) (sym g);
    }

pub behind : (place end number n : ℕ) (ts : List QueuedTerm) → n ≤ length (ready ts) → chain_end place ts ≡ Some end → Behind place end number n ts
behind place end number zero ts h e =
    let a : place + bytes_before 0 (ready ts) ≡ place = omega arith in
    let b : number + 0 ≡ number = omega arith in
    record { chain = ap (λ k. chain_end k ts) a ∙ e; places = ap (λ k. places_of k ts) b; ready_is = refl }
behind place end number (suc n) [] h e = absurd (omega arith)
behind place end number (suc n) (t ∷ ts) h e = behind_at place end number n t ts t.bytes refl h e (λ at k f. behind at end (number + 1) n ts k f)
