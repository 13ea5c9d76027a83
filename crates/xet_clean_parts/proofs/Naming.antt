-- The first xorb that terms name and that is not on a list.
use Rattle.std.proofs.Common.{◌≡◌, ℕ, ◌+◌, ◌<◌, ◌≤◌, List, [], ◌∷◌, ◌++◌, length, take, drop, sym, ◌∙◌, ap, subst}
use Rattle.std.specs.Prelude.{All, Contains, IfSome, Option, Some, None, slice_index_or}
use Rattle.std.specs.Option.{option_to_list}
use Rattle.std.proofs.lemmas.List.{append-nil, append_assoc, drop_more, get_or_default, take-append-drop, take_all, take_more}
use Rattle.std.proofs.lemmas.List.Concat.{flat_map-append}
use Rattle.std.proofs.lemmas.List.Elements.{All-nil, All-append, All-cons, All-same}
use Rattle.xet_base.specs.declared.merklehash.MerkleHash.{MerkleHash}
use Rattle.xet_waiting.specs.declared.waiting.TermXorb.{TermXorb}
use Rattle.xet_waiting.specs.declared.waiting.TermXorb.TheVariants.{Own, Stored}
use Rattle.xet_waiting.specs.declared.waiting.WaitingTerm.{WaitingTerm}
use Rattle.xet_upload_session.specs.Sessions.{named_by}
use Rattle.xet_clean_parts.specs.Cleanings.{IsFirstUnlisted}
use Rattle.xet_clean_parts.specs.Cleanings.{AreNamed, term_names}

names-append : (ts us : List WaitingTerm) → term_names (ts ++ us) ≡ term_names ts ++ term_names us
names-append ts us = flat_map-append (λ (t : WaitingTerm). named_by t.xorb) ts us

module _ (l : List MerkleHash) (ts : List WaitingTerm) (i : ℕ) (t : WaitingTerm) (within : i < length ts)
    (at : t ≡ slice_index_or ts i t) (before : AreNamed l (take i ts)) where
  -- one term more
  taken : take (i + 1) ts ≡ take i ts ++ t ∷ []
  taken = take_more ts i t within ∙ ap (λ (z : WaitingTerm). take i ts ++ z ∷ []) (sym at)

  pub names-more : All (Contains l) (named_by t.xorb) → AreNamed l (take (i + 1) ts)
  names-more k =
      let P : List WaitingTerm → Type 0 = λ z. AreNamed l z in
      let one = All-append (Contains l) (named_by t.xorb) [] k (All-nil (Contains l)) in
      subst P (sym taken) (All-same (Contains l) (term_names (take i ts ++ t ∷ [])) (term_names
      (take i ts) ++ term_names (t ∷ [])) (names-append (take i ts) (t ∷ [])) (All-append (Contains l) (term_names
      (take i ts)) (term_names (t ∷ [])) before one))

  -- the term names one that isn't on the list
  pub first-here : (h : MerkleHash) → named_by t.xorb ≡ h ∷ [] → (Contains l h → ⊥) → IsFirstUnlisted l ts h
  first-here h e missing =
      let whole : ts ≡ take i ts ++ (t ∷ drop (i + 1) ts) = sym (take-append-drop i ts)
      ∙ ap (λ (zs : List WaitingTerm). take i ts ++ zs) (drop_more ts i t within
      ∙ ap (λ (z : WaitingTerm). z ∷ drop (i + 1) ts) (sym at)) in
      record {
        front = term_names (take i ts);
        rest = term_names (drop (i + 1) ts);
        split = ap term_names whole ∙ names-append (take i ts) (t ∷ drop (i + 1) ts)
            ∙ ap (λ (hs : List MerkleHash). term_names (take i ts) ++ (hs ++ term_names (drop (i + 1) ts))) e;
        before = before;
        missing = missing;
      }

-- a term names one xorb, which is on the list
pub named-one : (l : List MerkleHash) (x : TermXorb) (h : MerkleHash) → x ≡ Stored h → Contains l h
    → All (Contains l) (named_by x)
named-one l x h e c =
    let P : TermXorb → Type 0 = λ z. All (Contains l) (named_by z) in
    subst P (sym e) (All-cons (Contains l) h [] c (All-nil (Contains l)))

-- the term at a place of a list, as a loop reads it
abbrev pub term_at : List WaitingTerm → ℕ → WaitingTerm
term_at ts i = slice_index_or ts i (record { xorb = Own; from = 0; to = 0; bytes = 0 })

at-read : (ts : List WaitingTerm) (i : ℕ) → i < length ts → term_at ts i ≡ slice_index_or ts i (term_at ts i)
at-read ts i within = get_or_default ts i (record { xorb = Own; from = 0; to = 0; bytes = 0 }) (term_at ts i) within

pub names-next : (l : List MerkleHash) (ts : List WaitingTerm) (i : ℕ) → i < length ts → AreNamed l (take i ts)
    → All (Contains l) (named_by (term_at ts i).xorb) → AreNamed l (take (i + 1) ts)
names-next l ts i within before k = names-more l ts i (term_at ts i) within (at-read ts i within) before k

pub first-next : (l : List MerkleHash) (ts : List WaitingTerm) (i : ℕ) (h : MerkleHash) → i < length ts
    → AreNamed l (take i ts) → named_by (term_at ts i).xorb ≡ h ∷ [] → (Contains l h → ⊥) → IsFirstUnlisted l ts h
first-next l ts i h within before e missing = first-here l ts i (term_at ts i) within (at-read ts i within) before h e
    missing

pub all-taken : (l : List MerkleHash) (ts : List WaitingTerm) (i : ℕ) → length ts ≤ i → AreNamed l (take i ts)
    → AreNamed l ts
all-taken l ts i h a = subst (λ (z : List WaitingTerm). AreNamed l z) (take_all i ts h) a

-- ---- terms of which the last stands apart

-- among the others
pub first-front : (l : List MerkleHash) (whole ts us : List WaitingTerm) (h : MerkleHash) → whole ≡ ts ++ us
    → IsFirstUnlisted l ts h → IsFirstUnlisted l whole h
first-front l whole ts us h e f = record {
  front = f.front;
  rest = f.rest ++ term_names us;
  split = ap term_names e ∙ names-append ts us ∙ ap (λ (hs : List MerkleHash). hs ++ term_names us) f.split
      ∙ append_assoc f.front (h ∷ f.rest) (term_names us);
  before = f.before;
  missing = f.missing;
}

-- or the last
pub first-last : (l : List MerkleHash) (whole ts : List WaitingTerm) (o : Option WaitingTerm) (t : WaitingTerm)
    (h : MerkleHash) → whole ≡ ts ++ option_to_list o → o ≡ Some t → AreNamed l ts → named_by t.xorb ≡ h ∷ []
    → (Contains l h → ⊥) → IsFirstUnlisted l whole h
first-last l whole ts o t h e is a named missing =
    let P : Option WaitingTerm → Type 0 = λ z. whole ≡ ts ++ option_to_list z in
    let all : whole ≡ ts ++ t ∷ [] = subst P is e in
    record {
      front = term_names ts;
      rest = [];
      split = ap term_names all ∙ names-append ts (t ∷ []) ∙ ap (λ (hs : List MerkleHash). term_names ts ++
          (hs ++ [])) named;
      before = a;
      missing = missing;
    }

pub names-last : (l : List MerkleHash) (whole ts : List WaitingTerm) (o : Option WaitingTerm) (t : WaitingTerm)
    → whole ≡ ts ++ option_to_list o → o ≡ Some t → AreNamed l ts → All (Contains l) (named_by t.xorb)
    → AreNamed l whole
names-last l whole ts o t e is a k =
    let P : Option WaitingTerm → Type 0 = λ z. whole ≡ ts ++ option_to_list z in
    let all : whole ≡ ts ++ t ∷ [] = subst P is e in
    let Q : List WaitingTerm → Type 0 = λ z. AreNamed l z in
    let one = All-append (Contains l) (named_by t.xorb) [] k (All-nil (Contains l)) in
    subst Q (sym all) (All-same (Contains l) (term_names (ts ++ t ∷ [])) (term_names ts ++ term_names (t ∷ []))
    (names-append ts (t ∷ [])) (All-append (Contains l) (term_names ts) (term_names (t ∷ [])) a one))

pub names-none : (l : List MerkleHash) (whole ts : List WaitingTerm) (o : Option WaitingTerm)
    → whole ≡ ts ++ option_to_list o → o ≡ None → AreNamed l ts → AreNamed l whole
names-none l whole ts o e is a =
    let P : Option WaitingTerm → Type 0 = λ z. whole ≡ ts ++ option_to_list z in
    let all : whole ≡ ts ++ [] = subst P is e in
    subst (λ (z : List WaitingTerm). AreNamed l z) (sym (all ∙ append-nil ts)) a

pub last-some : (l : List MerkleHash) (whole ts : List WaitingTerm) (o : Option WaitingTerm) (t : WaitingTerm)
    (r : Option MerkleHash) → whole ≡ ts ++ option_to_list o → o ≡ Some t → AreNamed l ts
    → IfSome r (λ h. named_by t.xorb ≡ h ∷ []) → IfSome r (λ h. Contains l h → ⊥) → IfSome r (IsFirstUnlisted l whole)
last-some l whole ts o t None e is a n m = tt
last-some l whole ts o t (Some h) e is a n m = first-last l whole ts o t h e is a n m
