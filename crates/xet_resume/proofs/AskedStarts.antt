-- Each query of a call starts at a byte that was missing.
use Rattle.std.proofs.Common.{◌≡◌, ◌⊎◌, ℕ, ◌+◌, ◌-◌, ◌<◌, ◌≤◌, ◌||◌, Bool, true, false, List, [], ◌∷◌, ◌++◌, length, drop, Option, None, Some}
use Rattle.std.proofs.Common.{Ok, Err, Result, IfSome, All, Contains, refl, sym, ap, subst, ◌∙◌, inl, inr, ⊎_elim, arith}
use Rattle.std.proofs.lemmas.Bool.{or_left, or_right}
use Rattle.std.proofs.lemmas.List.{drop_at}
use Rattle.std.proofs.lemmas.List.Elements.{All-append, All-cons, All-contains, All-head, All-nil, All-tail, All-weaker}
use Rattle.xet_base.specs.declared.cas_types.FileRange.{FileRange}
use Rattle.xet_base.specs.declared.merklehash.MerkleHash.{MerkleHash}
use Rattle.xet_outside.specs.Told.{Added, ClientTold, Query}
use Rattle.xet_outside.proofs.CallerLemmas.{added_both, added_none}
use Rattle.xet_error.specs.declared.error.FileReconstructionError.{FileReconstructionError}
use Rattle.xet_history.specs.Queries.{CutFrom}
use Rattle.xet_terms.specs.declared.reconstruction_config.ReconstructionConfig.{ReconstructionConfig}
use Rattle.xet_ties.specs.Cuts.{AskedCut}
use Rattle.xet_ties.specs.InCall.{EachExchange, Exchange, new_in}
use Rattle.xet_ties.specs.LegalWords.{AsksCut, FirstAsks, IsShort}
use Rattle.xet_ties.specs.Setup.{RunTold, Setup, setup_of}
use Rattle.xet_ties.proofs.CallerLemmas.{if_some, told_new}
use Rattle.xet_gaps.specs.Gaps.{Gaps, is_in, is_missing}
use Rattle.xet_gaps.proofs.CallerLemmas.{is_inside}
use Rattle.xet_resume.specs.declared.resume_error.ResumeError.{ResumeError}
use Rattle.xet_resume.specs.declared.resume_error.ResumeError.TheVariants as resume_error
use Rattle.xet_error.specs.declared.error.FileReconstructionError.TheVariants as error
use Rattle.xet_resume.specs.Fetches.{FirstStarts, StartsMissing}
use Rattle.xet_resume.specs.Fills.{EndsBy, Fills, IsUnplaced, PartEnds, PartRun}

-- ---- the queries of a run start in its range

abbrev Inside : FileRange → FileRange → Type 0
Inside r p = (r.start ≤ p.start) × (p.start < r.end)

abbrev StartsIn : FileRange → Query → Type 0
StartsIn r q = Inside r q.1

cut_inside : (r : FileRange) (place bound : ℕ) (before : List FileRange) (qs : List Query) (cut : List FileRange)
    → r.start ≤ place → All (Inside r) before → CutFrom place r.end bound cut → AskedCut before qs cut
    → All (StartsIn r) qs
cut_inside r place bound before [] cut low all c a = All-nil (StartsIn r)
cut_inside r place bound before (q ∷ qs) [] low all c a =
    All-cons (StartsIn r) q qs (lies a.0) (cut_inside r place bound before qs [] low all c a.1)
  where
    lies : (p : FileRange) × Contains before p × (p.start ≡ q.1.start) × (q.1.end ≤ p.end) → Inside r q.1
    lies l =
        let i = All-contains (Inside r) before l.0 all l.1 in
        let x = i.0 in
        let y = i.1 in
        let e = l.2 in
        (omega (arith, x, e), omega (arith, y, e))
cut_inside r place bound before (q ∷ qs) (c ∷ cs) low all cut a =
    ⊎_elim
    (λ (h : (q.1 ≡ c) × AskedCut (c ∷ before) qs cs).
    All-cons (StartsIn r) q qs (subst (λ (x : FileRange). Inside r x) (sym h.0) here)
    (cut_inside r c.end bound (c ∷ before) qs cs (omega (arith, low, start, some)) (All-cons (Inside r) c before here all)
    cut.4 h.1))
    (λ (h : ((p : FileRange) × Contains before p × (p.start ≡ q.1.start) × (q.1.end ≤ p.end))
    × AskedCut before qs (c ∷ cs)).
    All-cons (StartsIn r) q qs (lies h.0) (cut_inside r place bound before qs (c ∷ cs) low all cut h.1))
    a
  where
    start : c.start ≡ place
    start = cut.0

    some : c.start < c.end
    some = cut.1

    last : c.end ≤ r.end
    last = cut.2

    here : Inside r c
    here = (omega (arith, start, low), omega (arith, some, last))

    lies : (p : FileRange) × Contains before p × (p.start ≡ q.1.start) × (q.1.end ≤ p.end) → Inside r q.1
    lies l =
        let i = All-contains (Inside r) before l.0 all l.1 in
        let x = i.0 in
        let y = i.1 in
        let e = l.2 in
        (omega (arith, x, e), omega (arith, y, e))

-- ---- what the first connection was asked

module _ (P : Query → Type 0) where
  abbrev Adds : ClientTold → ClientTold → Type 0
  Adds b n = (qs : List Query) × Added b.asked n.asked qs × All P qs

  abbrev FirstAdds : List ClientTold → List ClientTold → Type 0
  FirstAdds [] [] = Unit {0}
  FirstAdds [] (n ∷ ns) = ⊥
  FirstAdds (b ∷ bs) [] = ⊥
  FirstAdds (b ∷ bs) (n ∷ ns) = Adds b n

  adds_none : (b n : ClientTold) → n.asked ≡ b.asked → Adds b n
  adds_none b n e = ([], added_none b.asked n.asked e, All-nil P)

  first_none : (bs : List ClientTold) → FirstAdds bs bs
  first_none [] = tt
  first_none (b ∷ bs) = adds_none b b refl

  first_both : (bs ms ns : List ClientTold) → FirstAdds bs ms → FirstAdds ms ns → FirstAdds bs ns
  first_both [] [] [] f g = tt
  first_both [] [] (n ∷ ns) f g = absurd g
  first_both [] (m ∷ ms) ns f g = absurd f
  first_both (b ∷ bs) [] ns f g = absurd f
  first_both (b ∷ bs) (m ∷ ms) [] f g = absurd g
  first_both (b ∷ bs) (m ∷ ms) (n ∷ ns) f g =
      (f.0 ++ g.0, added_both b.asked m.asked n.asked f.0 g.0 f.1 g.1, All-append P f.0 g.0 f.2 g.2)

  -- what a run was asked
  asked_new : (o p : Option (List Query)) (x : List Query) (Q : List Query → Type 0) → Added o p x
      → IfSome (new_in o p) Q → (Q x → All P x) → (qs : List Query) × Added o p qs × All P qs
  asked_new None p x Q h i f = ([], h, All-nil P)
  asked_new (Some xs) p x Q h i f =
      let new : IfSome (new_in (Some xs) (Some (xs ++ x))) Q =
      subst (λ (o : Option (List Query)). IfSome (new_in (Some xs) o) Q) h i in
      (x, h, f (subst Q (drop_at xs x (length xs) refl) new))

  first_asked : (g : Setup) (bs ns : List ClientTold) (heard : List Exchange) → EachExchange bs ns heard
      → FirstAsks g bs ns → ((qs : List Query) → AsksCut g qs → All P qs) → FirstAdds bs ns
  first_asked g [] [] heard e a f = tt
  first_asked g [] (n ∷ ns) heard e a f = absurd a
  first_asked g (b ∷ bs) [] heard e a f = absurd a
  first_asked g (b ∷ bs) (n ∷ ns) [] e a f = absurd e
  first_asked g (b ∷ bs) (n ∷ ns) (x ∷ xs) e a f =
      asked_new b.asked n.asked x.asked (AsksCut g) e.0.asks a.0 (f x.asked)

-- ---- one part and all parts

module _ (g : Gaps) where
  -- a part whose bytes are missing
  abbrev AllMissing : FileRange → Type 0
  AllMissing p = (i : ℕ) → is_in i p ≡ true → is_missing i g.gaps ≡ true

  run_asked : (config : ReconstructionConfig) (p : FileRange) (b n : RunTold) (count : ℕ)
      (answer : Result ℕ FileReconstructionError) → AllMissing p → PartRun config g.file p b n count answer
      → FirstAdds (StartsMissing g) b.clients n.clients
  run_asked config p b n count answer m r =
      first_asked (StartsMissing g) (setup_of g.file p config) b.clients n.clients r.legal.told.heard
      r.legal.told.exchanges r.legal.queries.asked
      (λ qs a. starts qs (All-weaker (IsShort (setup_of g.file p config)) (λ (q : Query). q.0 ≡ g.file) (λ q h. h.0) qs a.short)
      (cut_inside p p.start ((setup_of g.file p config).greatest + (setup_of g.file p config).least) [] qs a.cut
      (omega arith) (All-nil (Inside p)) a.cuts.from a.asked))
    where
      starts : (qs : List Query) → All (λ (q : Query). q.0 ≡ g.file) qs → All (StartsIn p) qs → All (StartsMissing g) qs
      starts [] f i = All-nil (StartsMissing g)
      starts (q ∷ qs) f i =
          let h = All-head (StartsIn p) q qs i in
          All-cons (StartsMissing g) q qs
          (All-head (λ (q : Query). q.0 ≡ g.file) q qs f, m q.1.start (is_inside q.1.start p h.0 h.1))
          (starts qs (All-tail (λ (q : Query). q.0 ≡ g.file) q qs f) (All-tail (StartsIn p) q qs i))

  unplaced_asked : (p : FileRange) (b n : RunTold) (e : FileReconstructionError) → IsUnplaced p b n e
      → FirstAdds (StartsMissing g) b.clients n.clients
  unplaced_asked p b n e u =
      subst (λ (t : RunTold). FirstAdds (StartsMissing g) b.clients t.clients) (sym u.rest)
      (first_none (StartsMissing g) b.clients)

  by_asked : (config : ReconstructionConfig) (p : FileRange) (b n : RunTold) (count : ℕ) (e : FileReconstructionError)
      → AllMissing p → EndsBy config g.file p b n count e → FirstAdds (StartsMissing g) b.clients n.clients
  by_asked config p b n count e m (inl r) = run_asked config p b n count (Err e) m r
  by_asked config p b n count e m (inr u) = unplaced_asked p b n e u.0

  end_asked : (config : ReconstructionConfig) (p : FileRange) (b n : RunTold) (count : ℕ) (e : ResumeError)
      → AllMissing p → PartEnds config g.file p b n count e → FirstAdds (StartsMissing g) b.clients n.clients
  end_asked config p b n count resume_error.OutOfMemory m x = by_asked config p b n count error.OutOfMemory m x
  end_asked config p b n count (resume_error.Run e) m x = by_asked config p b n count e m x.1
  end_asked config p b n count (resume_error.Short expected actual) m x =
      run_asked config p b n count (Ok actual) m x.3

  fill_asked : (config : ReconstructionConfig) (end : ℕ) (ps : List FileRange) (b n : RunTold) (reached : ℕ)
      (stop : Option ResumeError) → ((i : ℕ) → is_missing i ps ≡ true → is_missing i g.gaps ≡ true)
      → Fills config g.file ps end b n reached stop → FirstAdds (StartsMissing g) b.clients n.clients
  fill_asked config end [] b n reached None m f =
      subst (λ (t : RunTold). FirstAdds (StartsMissing g) b.clients t.clients) (sym f.0)
      (first_none (StartsMissing g) b.clients)
  fill_asked config end [] b n reached (Some e) m f = absurd f
  fill_asked config end (p ∷ ps) b n reached stop m (inl d) =
      first_both (StartsMissing g) b.clients d.0.clients n.clients
      (run_asked config p b d.0 (p.end - p.start) (Ok (p.end - p.start))
      (λ i h. m i (or_left (is_in i p) (is_missing i ps) h)) d.1)
      (fill_asked config end ps d.0 n reached stop (λ i h. m i (or_right (is_in i p) (is_missing i ps) h)) d.2)
  fill_asked config end (p ∷ ps) b n reached stop m (inr x) =
      end_asked config p b n x.2 x.0 (λ i h. m i (or_left (is_in i p) (is_missing i ps) h)) x.4

  -- said of the told lists
  pub first_told : (bs ns : List ClientTold) → FirstAdds (StartsMissing g) bs ns → FirstStarts g bs ns
  first_told [] ns f = tt
  first_told (b ∷ bs) [] f = absurd f
  first_told (b ∷ bs) (n ∷ ns) f =
      if_some (new_in b.asked n.asked) (λ ys. ys ≡ f.0) (All (StartsMissing g))
      (λ ys is. subst (All (StartsMissing g)) (sym is) f.2) (told_new b.asked n.asked f.0 f.1)

  pub none_asked : (bs : List ClientTold) → FirstStarts g bs bs
  none_asked bs = first_told bs bs (first_none (StartsMissing g) bs)

  pub filled_asked : (config : ReconstructionConfig) (end : ℕ) (ps : List FileRange) (b n : RunTold) (reached : ℕ)
      (stop : Option ResumeError) → ((i : ℕ) → is_missing i ps ≡ true → is_missing i g.gaps ≡ true)
      → Fills config g.file ps end b n reached stop → FirstStarts g b.clients n.clients
  filled_asked config end ps b n reached stop m f =
      first_told b.clients n.clients (fill_asked config end ps b n reached stop m f)
