-- Chunks that end where a cutter says so, and what one of one size cuts.
use Rattle.std.proofs.Common.{◌≡◌, ℕ, ◌<◌, ◌≤◌, ◌⊎◌, inl, inr, Bool, true, false, Some, None, List, [], ◌∷◌, ◌++◌, length, refl, sym, ◌∙◌, ap, subst, arith}
use Rattle.std.specs.Prelude.{All}
use Rattle.std.specs.List.{concat}
use Rattle.std.proofs.lemmas.List.{append-nil, append_assoc, length-append, nil_from_length}
use Rattle.std.proofs.lemmas.List.Elements.{All-append, All-cons, All-nil}
use Rattle.std.proofs.lemmas.List.Folds.{concat-append}
use Rattle.xet_upload.specs.Cuts.{clamped, fixed_cut}
use Rattle.xet_waiting.specs.Limits.{most_chunk_bytes}
use Rattle.xet_clean_parts.specs.Places.{AreWhole, CutAt, CutBy, CutPieces, FixedCutsFile, IsCutUp, IsNextCut, Telling, fixed_telling}

-- ---- one call

pub at-one : (tell : Telling) (last : Bool) (pending c rest : List ℕ) → 0 < length c
    → IsNextCut tell last pending (Some (length c)) → pending ≡ c ++ rest → CutAt tell last pending (c ∷ []) rest
at-one tell last pending c rest some next e = (some, next, (rest, e, refl))

pub at-both : (tell : Telling) (last : Bool) (pending mid rest : List ℕ) (cut cuts : List (List ℕ))
    → CutAt tell last pending cut mid → CutAt tell last mid cuts rest → CutAt tell last pending (cut ++ cuts) rest
at-both tell last pending mid rest [] cuts one two = subst (λ (xs : List ℕ). CutAt tell last xs cuts rest) one two
at-both tell last pending mid rest (c ∷ cs) cuts one two =
    (one.0, one.1, (one.2.0, one.2.1, at-both tell last one.2.0 mid rest cs cuts one.2.2 two))

-- the chunks and the rest are what was pending
pub at-joined : (tell : Telling) (last : Bool) (pending rest : List ℕ) (cut : List (List ℕ))
    → CutAt tell last pending cut rest → pending ≡ concat cut ++ rest
at-joined tell last pending rest [] a = sym a
at-joined tell last pending rest (c ∷ cs) a =
    a.2.1 ∙ ap (λ (xs : List ℕ). c ++ xs) (at-joined tell last a.2.0 rest cs a.2.2)
    ∙ sym (append_assoc c (concat cs) rest)

-- ---- several pieces

pub pieces-none : (tell : Telling) (pending : List ℕ) → CutPieces tell [] pending [] pending
pieces-none tell pending = (refl, refl)

pub pieces-more : (tell : Telling) (pieces : List (List ℕ)) (p pending mid rest : List ℕ) (cut more : List (List ℕ))
    → CutPieces tell pieces pending cut mid → CutBy tell false (mid ++ p) more rest
    → CutPieces tell (pieces ++ p ∷ []) pending (cut ++ more) rest
pieces-more tell [] p pending mid rest cut more one two =
    let P : List ℕ → Type 0 = λ xs. CutBy tell false (xs ++ p) more rest in (
      more,
      [],
      rest,
      ap (λ (cs : List (List ℕ)). cs ++ more) one.0 ∙ sym (append-nil more),
      subst P one.1 two,
      (refl, refl),
    )
pieces-more tell (q ∷ qs) p pending mid rest cut more (first, later, left, e, by, fed) two = (
  first,
  later ++ more,
  left,
  ap (λ (cs : List (List ℕ)). cs ++ more) e ∙ append_assoc first later more,
  by,
  pieces-more tell qs p left mid rest later more fed two,
)

pieces-joined : (tell : Telling) (pieces : List (List ℕ)) (pending rest : List ℕ) (cut : List (List ℕ))
    → CutPieces tell pieces pending cut rest → pending ++ concat pieces ≡ concat cut ++ rest
pieces-joined tell [] pending rest cut a =
    append-nil pending ∙ sym a.1 ∙ ap (λ (cs : List (List ℕ)). concat cs ++ rest) (sym a.0)
pieces-joined tell (p ∷ ps) pending rest cut (first, later, left, e, by, fed) =
    sym (append_assoc pending p (concat ps))
    ∙ ap (λ (xs : List ℕ). xs ++ concat ps) (at-joined tell false (pending ++ p) left first by.0)
    ∙ append_assoc (concat first) left (concat ps)
    ∙ ap (λ (xs : List ℕ). concat first ++ xs) (pieces-joined tell ps left rest later fed)
    ∙ sym (append_assoc (concat first) (concat later) rest)
    ∙ ap (λ (xs : List ℕ). xs ++ rest) (sym (concat-append first later))
    ∙ ap (λ (cs : List (List ℕ)). concat cs ++ rest) (sym e)

-- ---- a cutter of one size

-- it waits only for less than its size
waits_short : (size n : ℕ) → 0 < size → clamped (fixed_cut size n) n false ≡ None → n < size
waits_short size n some waits = grind (arith, waits, some)

-- what it cuts has its size
cuts_size : (size n k : ℕ) → 0 < size → size ≤ most_chunk_bytes → clamped (fixed_cut size n) n false ≡ Some k
    → k ≡ size
cuts_size size n k some most cuts = grind (arith, cuts, some, most)

-- at the end of a file it cuts all that waits
ends_with : (size n k : ℕ) → 0 < size → size ≤ most_chunk_bytes → 0 < n → n < size
    → clamped (fixed_cut size n) n true ≡ Some k → k ≡ n
ends_with size n k some most more short cuts = grind (arith, cuts, some, most, more, short)

module _ (size : ℕ) (some : 0 < size) (most : size ≤ most_chunk_bytes) where
  abbrev Whole : List ℕ → Type 0
  Whole c = length c ≡ size

  at-whole : (pending rest : List ℕ) (cut : List (List ℕ)) → CutAt (fixed_telling size) false pending cut rest
      → All Whole cut
  at-whole pending rest [] a = All-nil Whole
  at-whole pending rest (c ∷ cs) a = All-cons Whole c cs (cuts_size size (length pending) (length c) some most a.1)
      (at-whole a.2.0 rest cs a.2.2)

  up-short : (rest : List ℕ) → IsCutUp (fixed_telling size) false rest → length rest < size
  up-short rest (inl none) = let zero = ap (λ (xs : List ℕ). length xs) none in omega (arith, zero, some)
  up-short rest (inr waits) = waits_short size (length rest) some waits

  pieces-whole : (pieces : List (List ℕ)) (pending rest : List ℕ) (cut : List (List ℕ)) → length pending < size
      → CutPieces (fixed_telling size) pieces pending cut rest → AreWhole size cut rest
  pieces-whole [] pending rest cut short a = record {
    whole = subst (λ (cs : List (List ℕ)). All Whole cs) (sym a.0) (All-nil Whole);
    short = subst (λ (xs : List ℕ). length xs < size) (sym a.1) short;
  }
  pieces-whole (p ∷ ps) pending rest cut short (first, later, left, e, by, fed) =
      let more = pieces-whole ps left rest later (up-short left by.1) fed in
      record {
        whole = subst (λ (cs : List (List ℕ)). All Whole cs) (sym e)
            (All-append Whole first later (at-whole (pending ++ p) left first by.0) more.whole);
        short = more.short;
      }

  -- nothing is cut of nothing
  none-of-none : (cut : List (List ℕ)) → CutAt (fixed_telling size) true [] cut [] → cut ≡ []
  none-of-none [] a = refl
  none-of-none (c ∷ cs) a =
      let whole = ap (λ (xs : List ℕ). length xs) a.2.1 in
      let sum = length-append c a.2.0 in
      let low = a.0 in
      absurd (omega (arith, whole, sum, low))

  -- and of a rest one chunk
  end-of : (rest : List ℕ) (cut : List (List ℕ)) → length rest < size
      → CutAt (fixed_telling size) true rest cut []
      → ((rest ≡ []) × (cut ≡ [])) ⊎ ((0 < length rest) × (cut ≡ rest ∷ []))
  end-of [] cut short a = inl (refl, none-of-none cut a)
  end-of (b ∷ bs) [] short a = absurd (let none = ap (λ (xs : List ℕ). length xs) a in omega (arith, none))
  end-of (b ∷ bs) (c ∷ cs) short a =
      let all : length c ≡ length (b ∷ bs) = ends_with size (length (b ∷ bs)) (length c) some most (omega arith) short
      a.1 in
      let sum = length-append c a.2.0 in
      let whole = ap (λ (xs : List ℕ). length xs) a.2.1 in
      let left : a.2.0 ≡ [] = nil_from_length a.2.0 (omega (arith, all, whole, sum)) in
      let P : List ℕ → Type 0 = λ xs. CutAt (fixed_telling size) true xs cs [] in
      let none = none-of-none cs (subst P left a.2.2) in
      let one : b ∷ bs ≡ c = a.2.1 ∙ ap (λ (xs : List ℕ). c ++ xs) left ∙ append-nil c in
      inr (
        omega arith,
        ap (λ (ds : List (List ℕ)). c ∷ ds) none ∙ ap (λ (xs : List ℕ). xs ∷ []) (sym one),
      )

pub fixed-cuts-file : FixedCutsFile
fixed-cuts-file size bytes cut some most f =
    let are = pieces-whole size some most f.pieces [] f.rest f.front some f.fed in
    record {
      front = f.front;
      rest = f.rest;
      are = are;
      bytes_are = f.bytes_are ∙ pieces-joined (fixed_telling size) f.pieces [] f.rest f.front f.fed;
      cut_are = go (end-of size some most f.rest f.last are.short f.ended);
    }
  where
    go : ((f.rest ≡ []) × (f.last ≡ [])) ⊎ ((0 < length f.rest) × (f.last ≡ f.rest ∷ []))
        → ((f.rest ≡ []) × (cut ≡ f.front)) ⊎ ((0 < length f.rest) × (cut ≡ f.front ++ f.rest ∷ []))
    go (inl e) = inl (e.0, f.cut_are ∙ ap (λ (cs : List (List ℕ)). f.front ++ cs) e.1 ∙ append-nil f.front)
    go (inr e) = inr (e.0, f.cut_are ∙ ap (λ (cs : List (List ℕ)). f.front ++ cs) e.1)
