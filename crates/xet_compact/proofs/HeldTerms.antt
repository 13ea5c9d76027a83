-- What terms of a valid store hold, and what is kept of it.
use Rattle.std.proofs.Common.{◌≡◌, ℕ, zero, suc, ◌+◌, ◌-◌, ◌<◌, ◌≤◌, Bool, true, false, cond, ◌&&◌, List, [], ◌∷◌, ◌++◌, length, map, refl, sym, ◌∙◌, ap, subst, arith, Option, Some, None, Contains, All, option_map, unwrap_or}
use Rattle.std.specs.Prelude.{filter, nat_le, nat_lt, slice_range}
use Rattle.std.specs.List.{list_any, range_with_len}
use Rattle.std.proofs.lemmas.Bool.{and_from, and_parts, le-leb, leb-true, lt-ltb, ltb-true}
use Rattle.std.proofs.lemmas.List.Elements.{All-contains}
use Rattle.xet_base.specs.declared.merklehash.MerkleHash.{MerkleHash}
use Rattle.xet_base.specs.declared.mdb_shard.Xorb.{Xorb}
use Rattle.xet_base.specs.declared.stored.StoredFile.{StoredFile}
use Rattle.xet_base.specs.declared.stored.StoredTerm.{StoredTerm}
use Rattle.xet_base.specs.Hashes.{hash_eq}
use Rattle.xet_base.specs.Store.{IsTermIn, IsValid, Store, chunks_of, chunks_of_term, xorb_of}
use Rattle.xet_base.proofs.CallerLemmas.{hash_eq-true, eq-hash_eq}
use Rattle.xet_audit.specs.Findings.{is_named}
use Rattle.xet_held.specs.Held.{covers}
use Rattle.xet_compact.specs.Compacts.{held_before, held_chunks, is_held, kept_hash, kept_term}
use Rattle.xet_compact.proofs.Members.{Filled, Passes, any_of, filled, find_of, passes_of}
use Rattle.xet_held.proofs.CallerLemmas.{kept_between, length-kept, passed, passed-split, passed_all, passed_more}

-- ---- which term holds a chunk

-- a term of a file holds the chunk of this number
pub record Holds (s : Store) (h : MerkleHash) (k : ℕ) : Type 0 where
  pub file : StoredFile
  pub file_in : Contains s.files file
  pub term : StoredTerm
  pub term_in : Contains file.terms term
  pub names : term.xorb ≡ h
  pub from : term.from ≤ k
  pub to : k < term.to

pub covers_of : (h : MerkleHash) (k : ℕ) (t : StoredTerm) → covers h k t ≡ true → (t.xorb ≡ h) × (t.from ≤ k) × (k < t.to)
covers_of h k t e =
    let parts = and_parts (hash_eq t.xorb h) (nat_le t.from k && nat_lt k t.to) e in
    let range = and_parts (nat_le t.from k) (nat_lt k t.to) parts.1 in
    (hash_eq-true t.xorb h parts.0, leb-true t.from k range.0, ltb-true k t.to range.1)

pub covers_from : (h : MerkleHash) (k : ℕ) (t : StoredTerm) → t.xorb ≡ h → t.from ≤ k → k < t.to → covers h k t ≡ true
covers_from h k t e low high =
    and_from (hash_eq t.xorb h) (nat_le t.from k && nat_lt k t.to) (eq-hash_eq t.xorb h e)
    (and_from (nat_le t.from k) (nat_lt k t.to) (le-leb t.from k low) (lt-ltb k t.to high))

pub holds_of : (s : Store) (h : MerkleHash) (k : ℕ) → is_held s h k ≡ true → Holds s h k
holds_of s h k e =
    let f = passes_of (λ (f : StoredFile). list_any (covers h k) f.terms) s.files e in
    let t = passes_of (covers h k) f.one.terms f.passes in
    let parts = covers_of h k t.one t.passes in
    record {
      file = f.one;
      file_in = f.within;
      term = t.one;
      term_in = t.within;
      names = parts.0;
      from = parts.1;
      to = parts.2;
    }

pub held_by : (s : Store) (f : StoredFile) (t : StoredTerm) (h : MerkleHash) (k : ℕ) → Contains s.files f
    → Contains f.terms t → t.xorb ≡ h → t.from ≤ k → k < t.to → is_held s h k ≡ true
held_by s f t h k fin tin e low high =
    any_of (λ (f : StoredFile). list_any (covers h k) f.terms) s.files f fin
    (any_of (covers h k) f.terms t tin (covers_from h k t e low high))

-- which term names a xorb
pub record Names (s : Store) (h : MerkleHash) : Type 0 where
  pub file : StoredFile
  pub file_in : Contains s.files file
  pub term : StoredTerm
  pub term_in : Contains file.terms term
  pub names : term.xorb ≡ h

pub names_of : (s : Store) (h : MerkleHash) → is_named s h ≡ true → Names s h
names_of s h e =
    let f = passes_of (λ (f : StoredFile). list_any (λ t. hash_eq t.xorb h) f.terms) s.files e in
    let t = passes_of (λ (t : StoredTerm). hash_eq t.xorb h) f.one.terms f.passes in
    record {
      file = f.one;
      file_in = f.within;
      term = t.one;
      term_in = t.within;
      names = hash_eq-true t.one.xorb h t.passes;
    }

pub named_by : (s : Store) (f : StoredFile) (t : StoredTerm) (h : MerkleHash) → Contains s.files f → Contains f.terms t
    → t.xorb ≡ h → is_named s h ≡ true
named_by s f t h fin tin e =
    any_of (λ (f : StoredFile). list_any (λ t. hash_eq t.xorb h) f.terms) s.files f fin
    (any_of (λ (t : StoredTerm). hash_eq t.xorb h) f.terms t tin (eq-hash_eq t.xorb h e))

-- ---- a term and its xorb

pub record TermOf (s : Store) (t : StoredTerm) : Type 0 where
  pub xorb : Xorb
  pub xorb_in : Contains s.xorbs xorb
  pub hash_is : xorb.hash ≡ t.xorb
  pub found : xorb_of s t.xorb ≡ Some xorb
  pub some : t.from < t.to
  pub inside : t.to ≤ length xorb.chunks

pub term_at : (s : Store) (t : StoredTerm) → IsTermIn s t → TermOf s t
term_at s t is_in =
    let x = filled (xorb_of s t.xorb) is_in.stored in
    let at = find_of (λ (y : Xorb). hash_eq y.hash t.xorb) s.xorbs x.value x.is in
    let chunks : chunks_of s t.xorb ≡ x.value.chunks = ap (λ (o : Option Xorb). unwrap_or (option_map
    (λ (y : Xorb). y.chunks) o) []) x.is in
    let long = ap length chunks in
    record {
      xorb = x.value;
      xorb_in = at.0;
      hash_is = hash_eq-true x.value.hash t.xorb at.1;
      found = x.is;
      some = is_in.some;
      inside = omega (arith, is_in.inside, long);
    }

-- as it is kept
module _ (s : Store) (t : StoredTerm) (x : TermOf s t) where
  pub kept_hash_at : (kept_term s t).xorb ≡ kept_hash s x.xorb
  kept_hash_at = ap (λ (o : Option Xorb). unwrap_or (option_map (kept_hash s) o) t.xorb) x.found

  pub kept_from_at : (kept_term s t).from ≡ held_before s x.xorb.hash t.from
  kept_from_at = ap (λ (h : MerkleHash). held_before s h t.from) (sym x.hash_is)

  pub kept_to_at : (kept_term s t).to ≡ held_before s x.xorb.hash t.to
  kept_to_at = ap (λ (h : MerkleHash). held_before s h t.to) (sym x.hash_is)

-- ---- a term of a valid store

module _ (s : Store) (v : IsValid s) (f : StoredFile) (t : StoredTerm) (fin : Contains s.files f) (tin : Contains f.terms t) where
  is_in : IsTermIn s t
  is_in = All-contains (IsTermIn s) f.terms t
      (All-contains (λ (g : StoredFile). All (IsTermIn s) g.terms) s.files f v.terms fin) tin

  pub term_of : TermOf s t
  term_of = term_at s t is_in

  pub named_of : is_named s term_of.xorb.hash ≡ true
  named_of = named_by s f t term_of.xorb.hash fin tin (sym term_of.hash_is)

  pub held_of : (k : ℕ) → t.from ≤ k → k < t.to → is_held s term_of.xorb.hash k ≡ true
  held_of k low high = held_by s f t term_of.xorb.hash k fin tin (sym term_of.hash_is) low high

  pub kept_hash_of : (kept_term s t).xorb ≡ kept_hash s term_of.xorb
  kept_hash_of = kept_hash_at s t term_of

  pub kept_from_of : (kept_term s t).from ≡ held_before s term_of.xorb.hash t.from
  kept_from_of = kept_from_at s t term_of

  pub kept_to_of : (kept_term s t).to ≡ held_before s term_of.xorb.hash t.to
  kept_to_of = kept_to_at s t term_of

  pub kept_width : held_before s term_of.xorb.hash t.to ≡ held_before s term_of.xorb.hash t.from + (t.to - t.from)
  kept_width =
      let p = is_held s term_of.xorb.hash in
      let order = term_of.some in
      let sum : t.from + (t.to - t.from) ≡ t.to = omega (arith, order) in
      let split = passed-split p 0 t.from (t.to - t.from) in
      let all : passed p (0 + t.from) (t.to - t.from) ≡ t.to - t.from = passed_all p (0 + t.from) (t.to - t.from)
      (λ k low high. held_of k (omega (arith, low)) (omega (arith, high, order))) in
      let at : passed p 0 t.to ≡ passed p 0 (t.from + (t.to - t.from)) = ap (λ (m : ℕ). passed p 0 m) (sym sum) in
      omega (arith, split, all, at)

  pub chunks_kept : slice_range (held_chunks s term_of.xorb) (kept_term s t).from (kept_term s t).to ≡ chunks_of_term s t
  chunks_kept =
      let cs = held_chunks s term_of.xorb in
      let order = term_of.some in
      let chunks : chunks_of s t.xorb ≡ term_of.xorb.chunks = ap (λ (o : Option Xorb). unwrap_or (option_map
      (λ (y : Xorb). y.chunks) o) []) term_of.found in
      ap (λ (h : MerkleHash). slice_range cs (held_before s h t.from) (held_before s h t.to)) (sym term_of.hash_is)
      ∙ kept_between (is_held s term_of.xorb.hash) term_of.xorb.chunks t.from t.to (omega (arith, order)) term_of.inside
      held_of
      ∙ ap (λ (l : List (List ℕ)). slice_range l t.from t.to) (sym chunks)

-- ---- how many are held

pub held_before-le : (s : Store) (h : MerkleHash) (a b : ℕ) → a ≤ b → held_before s h a ≤ held_before s h b
held_before-le s h a b order =
    let p = is_held s h in
    let sum : a + (b - a) ≡ b = omega (arith, order) in
    let at : passed p 0 b ≡ passed p 0 (a + (b - a)) = ap (λ (m : ℕ). passed p 0 m) (sym sum) in
    let split = passed-split p 0 a (b - a) in
    omega (arith, at, split)
