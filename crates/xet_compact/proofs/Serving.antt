-- What a valid store is compacted to serves the same files.
use Rattle.std.proofs.Common.{◌≡◌, ℕ, zero, suc, ◌+◌, ◌-◌, ◌<◌, ◌≤◌, ◌^◌, ◌==◌, ◌↔◌, Bool, true, false, cond, not, List, [], ◌∷◌, length, map, get_or, refl, sym, ◌∙◌, ap, subst, arith, Option, Some, None, Less, Equal, Contains, All, AllPairs, eq-eqb, option_map, unwrap_or, flat_map, is_some, IsTrue, IsSome}
use Rattle.std.specs.Prelude.{filter, slice_range, count_by}
use Rattle.std.specs.List.{concat, enumerate_from, list_any}
use Rattle.std.specs.List.Sorted.{IsStrictlySortedBy}
use Rattle.std.proofs.lemmas.Bool.{cond-true, false_from_ne_true, not_from_true}
use Rattle.std.proofs.lemmas.Cmp.{nat_list_cmp_total, on_total, tied_itself}
use Rattle.std.proofs.lemmas.List.{get_or-map, length-map}
use Rattle.std.proofs.lemmas.List.Elements.{All-contains}
use Rattle.std.proofs.lemmas.List.Folds.{flat_map-map, map_fixed}
use Rattle.std.proofs.lemmas.Map.Keys.{Less-from_sorted}
use Rattle.std.specs.Cmp.{IsTotalOrder}
use Rattle.xet_base.specs.declared.merklehash.MerkleHash.{MerkleHash}
use Rattle.xet_base.specs.declared.mdb_shard.Xorb.{Xorb}
use Rattle.xet_base.specs.declared.stored.StoredFile.{StoredFile}
use Rattle.xet_base.specs.declared.stored.StoredTerm.{StoredTerm}
use Rattle.xet_base.specs.Digests.{infos_of, xorb_hash_of}
use Rattle.xet_base.specs.Hashes.{hash_eq}
use Rattle.xet_base.specs.Store.{IsTermIn, IsValid, IsValidXorb, Store, bytes_of, chunks_of, chunks_of_term, file_of}
use Rattle.xet_base.specs.Store.{xorb_of}
use Rattle.xet_base.proofs.CallerLemmas.{find_some, hash_eq-true, eq-hash_eq}
use Rattle.xet_audit.specs.Findings.{hash_cmp, is_named}
use Rattle.xet_compact.specs.Compacts.{AllHeld, Clashes, IsCompacted, NoneSpare, Serves, dropped_count, held_before}
use Rattle.xet_compact.specs.Compacts.{held_chunks, is_held, kept_file, kept_hash, kept_term, kept_xorb, kept_xorbs}
use Rattle.xet_compact.proofs.HeldTerms.{Holds, Names, TermOf, chunks_kept, held_before-le, held_by, held_of, holds_of}
use Rattle.xet_compact.proofs.HeldTerms.{kept_from_of, kept_hash_of, kept_to_of, kept_width, named_by, named_of, names_of}
use Rattle.xet_compact.proofs.HeldTerms.{term_of}
use Rattle.xet_compact.proofs.Members.{MapOf, all_from_members, any_of, apart_found, apart_same, contains_filter}
use Rattle.xet_compact.proofs.Members.{contains_map, filter_all, filter_of, find_of, flat_map_same, map_of, sum_none}
use Rattle.xet_held.proofs.CallerLemmas.{All-kept, PassedAt, concat_kept-le, count_numbered, kept_all, length-kept}
use Rattle.xet_held.proofs.CallerLemmas.{one_if, passed, passed-le, passed-split, passed_all, passed_at, passed_more, passed_none}

-- ---- the order of hashes

pub hash_total : IsTotalOrder hash_cmp
hash_total = on_total (λ (h : MerkleHash). h.0) nat_list_cmp_total

-- hashes in order differ
pub less_apart : (a b : MerkleHash) → hash_cmp a b ≡ Less → hash_eq a b ≡ false
less_apart a b h =
    false_from_ne_true (hash_eq a b) (λ e.
    let same : hash_cmp a b ≡ Equal = ap (λ (x : MerkleHash). hash_cmp a x) (sym (hash_eq-true a b e)) ∙ tied_itself
    hash_total a in
    let clash : Less ≡ Equal = sym h ∙ same in
    cc)

pub sorted_apart : {A : Type 0} (key : A → MerkleHash) (xs : List A) → IsStrictlySortedBy hash_cmp (map key xs)
    → AllPairs (λ a b. hash_eq (key a) (key b) ≡ false) xs
sorted_apart {A} key xs h = λ i j d less within.
    let long = length-map xs key in
    let keys = Less-from_sorted hash_cmp (map key xs) i j (key d) h less (omega (arith, within, long)) in
    let at_i : get_or (map key xs) i (key d) ≡ key (get_or xs i d) = get_or-map key xs i d (key d) (omega arith) in
    let at_j : get_or (map key xs) j (key d) ≡ key (get_or xs j d) = get_or-map key xs j d (key d) within in
    less_apart (key (get_or xs i d)) (key (get_or xs j d))
    (sym (ap (λ (x : MerkleHash). hash_cmp x (get_or (map key xs) j (key d))) at_i
    ∙ ap (λ (x : MerkleHash). hash_cmp (key (get_or xs i d)) x) at_j) ∙ keys)

-- a xorb that keeps all its chunks is as it was
pub kept_xorb_same : (s : Store) (x : Xorb) → ((k : ℕ) → k < length x.chunks → is_held s x.hash k ≡ true)
    → (kept_hash s x ≡ x.hash) × (kept_xorb s x ≡ x)
kept_xorb_same s x held =
    let chunks : held_chunks s x ≡ x.chunks = kept_all (is_held s x.hash) 0 x.chunks (λ k low high.
    held k (omega (arith, high))) in
    let all : (length (held_chunks s x) == length x.chunks) ≡ true = eq-eqb (length (held_chunks s x)) (length x.chunks)
    (ap length chunks) in
    let hash : kept_hash s x ≡ x.hash = cond-true (length (held_chunks s x) == length x.chunks) x.hash (xorb_hash_of
    (infos_of (held_chunks s x))) all in (
      hash,
      ap (λ (h : MerkleHash). let y : Xorb = record { hash = h; chunks = held_chunks s x } in y) hash
          ∙ ap (λ (cs : List (List ℕ)). let y : Xorb = record { hash = x.hash; chunks = cs } in y) chunks,
    )

-- the xorb of a valid store that is kept as this one
pub record XorbOf (s : Store) (x : Xorb) : Type 0 where
  pub of : Xorb
  pub within : Contains s.xorbs of
  pub named : is_named s of.hash ≡ true
  pub is : kept_xorb s of ≡ x

module _ (s t : Store) (c : IsCompacted s t) where
  pub xorbs_apart : AllPairs (λ (a b : Xorb). hash_eq a.hash b.hash ≡ false) t.xorbs
  xorbs_apart = sorted_apart (λ (x : Xorb). x.hash) t.xorbs c.xorbs_ascend

  pub files_apart : AllPairs (λ (a b : StoredFile). hash_eq a.hash b.hash ≡ false) t.files
  files_apart = sorted_apart (λ (f : StoredFile). f.hash) t.files c.files_ascend

  pub xorb_of_kept : (x : Xorb) → Contains t.xorbs x → XorbOf s x
  xorb_of_kept x xin =
      let m = map_of (kept_xorb s) (filter (λ (y : Xorb). is_named s y.hash) s.xorbs) x ((c.xorbs x).0 xin) in
      let f = filter_of (λ (y : Xorb). is_named s y.hash) s.xorbs m.of m.within in
      record { of = m.of; within = f.0; named = f.1; is = m.is }

  pub xorb_in : (x : Xorb) → Contains s.xorbs x → is_named s x.hash ≡ true → Contains t.xorbs (kept_xorb s x)
  xorb_in x xin n =
      (c.xorbs (kept_xorb s x)).1 (contains_map (kept_xorb s) (filter (λ (y : Xorb). is_named s y.hash) s.xorbs) x
      (contains_filter (λ (y : Xorb). is_named s y.hash) s.xorbs x xin n))

  pub xorb_found : (x : Xorb) → Contains s.xorbs x → is_named s x.hash ≡ true
      → xorb_of t (kept_hash s x) ≡ Some (kept_xorb s x)
  xorb_found x xin n = apart_found (λ (y : Xorb). y.hash) t.xorbs xorbs_apart (kept_xorb s x) (xorb_in x xin n)

  pub file_of_kept : (g : StoredFile) → Contains t.files g → MapOf (kept_file s) s.files g
  file_of_kept g gin = map_of (kept_file s) s.files g ((c.files g).0 gin)

  pub file_in : (f : StoredFile) → Contains s.files f → Contains t.files (kept_file s f)
  file_in f fin = (c.files (kept_file s f)).1 (contains_map (kept_file s) s.files f fin)

  -- so no two kept lists clash
  pub none_clash : (h : MerkleHash) → Clashes s h → ⊥
  none_clash h k =
      k.differ (ap (λ (x : Xorb). x.chunks) (apart_same (λ (y : Xorb). y.hash) t.xorbs xorbs_apart k.one k.other
      ((c.xorbs k.one).1 k.one_kept) ((c.xorbs k.other).1 k.other_kept) (k.same_hash.0 ∙ sym k.same_hash.1)))

  pub same_files : (h : MerkleHash) → Contains (map (λ (x : StoredFile). x.hash) t.files) h
      ↔ Contains (map (λ (x : StoredFile). x.hash) s.files) h
  same_files h = (
    λ within.
        let g = map_of (λ (x : StoredFile). x.hash) t.files h within in
        let f = file_of_kept g.of g.within in
        let same : f.of.hash ≡ h = ap (λ (x : StoredFile). x.hash) f.is ∙ g.is in
        subst (λ (k : MerkleHash). Contains (map (λ (x : StoredFile). x.hash) s.files) k) same (contains_map
        (λ (x : StoredFile). x.hash) s.files f.of f.within),
    λ within.
        let f = map_of (λ (x : StoredFile). x.hash) s.files h within in
        subst (λ (k : MerkleHash). Contains (map (λ (x : StoredFile). x.hash) t.files) k) f.is (contains_map
        (λ (x : StoredFile). x.hash) t.files (kept_file s f.of) (file_in f.of f.within)),
  )

  module _ (v : IsValid s) where
    -- ---- the same bytes

    -- a term finds its xorb as it is kept
    pub found_kept : (f : StoredFile) (u : StoredTerm) (fin : Contains s.files f) (uin : Contains f.terms u)
        → xorb_of t (kept_term s u).xorb ≡ Some (kept_xorb s (term_of s v f u fin uin).xorb)
    found_kept f u fin uin =
        let x = term_of s v f u fin uin in
        ap (λ (h : MerkleHash). xorb_of t h) (kept_hash_of s v f u fin uin)
        ∙ xorb_found x.xorb x.xorb_in (named_of s v f u fin uin)

    pub kept_chunks_of : (f : StoredFile) (u : StoredTerm) (fin : Contains s.files f) (uin : Contains f.terms u)
        → chunks_of t (kept_term s u).xorb ≡ held_chunks s (term_of s v f u fin uin).xorb
    kept_chunks_of f u fin uin = ap (λ (o : Option Xorb). unwrap_or (option_map (λ (y : Xorb). y.chunks) o) [])
        (found_kept f u fin uin)

    pub term_same : (f : StoredFile) (u : StoredTerm) → Contains s.files f → Contains f.terms u
        → chunks_of_term t (kept_term s u) ≡ chunks_of_term s u
    term_same f u fin uin =
        ap (λ (cs : List (List ℕ)). slice_range cs (kept_term s u).from (kept_term s u).to) (kept_chunks_of f u fin uin)
        ∙ chunks_kept s v f u fin uin

    pub file_same : (f : StoredFile) → Contains s.files f
        → flat_map (chunks_of_term t) (map (kept_term s) f.terms) ≡ flat_map (chunks_of_term s) f.terms
    file_same f fin =
        flat_map-map (chunks_of_term t) (kept_term s) f.terms
        ∙ flat_map_same (λ (u : StoredTerm). chunks_of_term t (kept_term s u)) (chunks_of_term s) f.terms
        (λ u uin. term_same f u fin uin)

    abbrev bytes_in : Store → Option StoredFile → List ℕ
    bytes_in r o = concat (flat_map (chunks_of_term r) (unwrap_or (option_map (λ (g : StoredFile). g.terms) o) []))

    no_file : (h : MerkleHash) → file_of s h ≡ None → (o : Option StoredFile) → file_of t h ≡ o → file_of t h ≡ None
    no_file h none None e = e
    no_file h none (Some g) e =
        let at = find_of (λ (x : StoredFile). hash_eq x.hash h) t.files g e in
        let f = file_of_kept g at.0 in
        let same : f.of.hash ≡ h = ap (λ (x : StoredFile). x.hash) f.is ∙ hash_eq-true g.hash h at.1 in
        let there = find_some (λ (x : StoredFile). hash_eq x.hash h) s.files (any_of
        (λ (x : StoredFile). hash_eq x.hash h) s.files f.of f.within (eq-hash_eq f.of.hash h same)) in
        let clash : None ≡ Some there.0 = sym none ∙ there.1 in
        cc

    pub same_bytes : (h : MerkleHash) → bytes_of t h ≡ bytes_of s h
    same_bytes h = go (file_of s h) refl
      where
        go : (o : Option StoredFile) → file_of s h ≡ o → bytes_of t h ≡ bytes_of s h
        go None e = ap (bytes_in t) (no_file h e (file_of t h) refl) ∙ sym (ap (bytes_in s) e)
        go (Some f) e =
            let at = find_of (λ (x : StoredFile). hash_eq x.hash h) s.files f e in
            let same = hash_eq-true f.hash h at.1 in
            let found : file_of t h ≡ Some (kept_file s f) = ap (λ (k : MerkleHash). file_of t k) (sym same)
            ∙ apart_found (λ (x : StoredFile). x.hash) t.files files_apart (kept_file s f) (file_in f at.0) in
            ap (bytes_in t) found ∙ ap concat (file_same f at.0) ∙ sym (ap (bytes_in s) e)

    -- ---- validity

    pub valid_xorb : (x : Xorb) → Contains t.xorbs x → IsValidXorb x
    valid_xorb x xin =
        let o = xorb_of_kept x xin in
        let w = All-contains IsValidXorb s.xorbs o.of v.xorbs o.within in
        let p = is_held s o.of.hash in
        let long = length-kept p 0 o.of.chunks in
        let fewer = passed-le p 0 (length o.of.chunks) in
        let less = concat_kept-le p 0 o.of.chunks in
        let few = w.chunk_count in
        let short = w.byte_count in
        subst IsValidXorb o.is (record {
          nonempty = All-kept p (λ (c : List ℕ). 0 < length c) 0 o.of.chunks w.nonempty;
          chunk_count = omega (arith, long, fewer, few);
          byte_count = omega (arith, less, short);
        })

    pub term_in_kept : (f : StoredFile) (u : StoredTerm) → Contains s.files f → Contains f.terms u
        → IsTermIn t (kept_term s u)
    term_in_kept f u fin uin =
        let x = term_of s v f u fin uin in
        let p = is_held s x.xorb.hash in
        let from = kept_from_of s v f u fin uin in
        let to = kept_to_of s v f u fin uin in
        let width = kept_width s v f u fin uin in
        let some = x.some in
        let long = length-kept p 0 x.xorb.chunks in
        let chunks = ap length (kept_chunks_of f u fin uin) in
        let within = held_before-le s x.xorb.hash u.to (length x.xorb.chunks) x.inside in
        record {
          some = omega (arith, from, to, width, some);
          stored = ap (λ (o : Option Xorb). is_some o) (found_kept f u fin uin);
          inside = omega (arith, to, long, chunks, within);
        }

    pub valid_file : (g : StoredFile) → Contains t.files g → All (IsTermIn t) g.terms
    valid_file g gin =
        let f = file_of_kept g gin in
        subst (λ (x : StoredFile). All (IsTermIn t) x.terms) f.is (all_from_members (IsTermIn t) (map (kept_term s)
        f.of.terms) (λ r rin.
        let u = map_of (kept_term s) f.of.terms r rin in
        subst (IsTermIn t) u.is (term_in_kept f.of u.of f.within u.within)))

    pub short_file : (g : StoredFile) → Contains t.files g → length (bytes_of t g.hash) < 2 ^ 64
    short_file g gin =
        let f = file_of_kept g gin in
        let same = ap length (same_bytes f.of.hash) in
        let short = All-contains (λ (x : StoredFile). length (bytes_of s x.hash) < 2 ^ 64) s.files f.of v.lengths f.within in
        subst (λ (x : StoredFile). length (bytes_of t x.hash) < 2 ^ 64) f.is (omega (arith, same, short))

    pub valid_kept : IsValid t
    valid_kept = record {
      xorbs_differ = xorbs_apart;
      files_differ = files_apart;
      xorbs = all_from_members IsValidXorb t.xorbs valid_xorb;
      terms = all_from_members (λ (g : StoredFile). All (IsTermIn t) g.terms) t.files valid_file;
      lengths = all_from_members (λ (g : StoredFile). length (bytes_of t g.hash) < 2 ^ 64) t.files short_file;
    }

    -- ---- each chunk is held, each xorb named

    -- a term of a xorb names it as it is kept
    same_hash : (o : Xorb) → Contains s.xorbs o → (f : StoredFile) (u : StoredTerm) → Contains s.files f
        → Contains f.terms u → u.xorb ≡ o.hash → (kept_term s u).xorb ≡ kept_hash s o
    same_hash o oin f u fin uin e =
        let x = term_of s v f u fin uin in
        let same = apart_same (λ (y : Xorb). y.hash) s.xorbs v.xorbs_differ x.xorb o x.xorb_in oin (x.hash_is ∙ e) in
        kept_hash_of s v f u fin uin ∙ ap (kept_hash s) same

    held_kept : (o : Xorb) → Contains s.xorbs o → (k : ℕ) → k < length (held_chunks s o)
        → is_held t (kept_hash s o) k ≡ true
    held_kept o oin k l =
        let p = is_held s o.hash in
        let long = length-kept p 0 o.chunks in
        let at = passed_at p 0 (length o.chunks) k (omega (arith, l, long)) in
        let j = at.number in
        let back : j - 0 ≡ j = omega arith in
        let before : passed p 0 j ≡ k = ap (λ (m : ℕ). passed p 0 m) (sym back) ∙ at.before in
        let here = holds_of s o.hash j at.passes in
        let names = here.names in
        let low : held_before s here.term.xorb here.term.from ≡ held_before s o.hash here.term.from = ap
        (λ (h : MerkleHash). held_before s h here.term.from) names in
        let high : held_before s here.term.xorb here.term.to ≡ held_before s o.hash here.term.to = ap
        (λ (h : MerkleHash). held_before s h here.term.to) names in
        let from = here.from in
        let to = here.to in
        let below = held_before-le s o.hash here.term.from j from in
        let above = held_before-le s o.hash (j + 1) here.term.to (omega (arith, to)) in
        let one : one_if (p j) ≡ 1 = ap one_if at.passes in
        let more = passed_more p 0 j j (omega arith) in
        held_by t (kept_file s here.file) (kept_term s here.term) (kept_hash s o) k (file_in here.file here.file_in)
        (contains_map (kept_term s) here.file.terms here.term here.term_in)
        (same_hash o oin here.file here.term here.file_in here.term_in names)
        (omega (arith, low, below, before)) (omega (arith, high, above, before, one, more))

    pub held_xorb : (x : Xorb) → Contains t.xorbs x → (k : ℕ) → k < length x.chunks → is_held t x.hash k ≡ true
    held_xorb x xin =
        let o = xorb_of_kept x xin in
        subst (λ (y : Xorb). (k : ℕ) → k < length y.chunks → is_held t y.hash k ≡ true) o.is (held_kept o.of o.within)

    pub named_xorb : (x : Xorb) → Contains t.xorbs x → is_named t x.hash ≡ true
    named_xorb x xin =
        let o = xorb_of_kept x xin in
        let n = names_of s o.of.hash o.named in
        subst (λ (y : Xorb). is_named t y.hash ≡ true) o.is (named_by t (kept_file s n.file) (kept_term s n.term)
        (kept_hash s o.of) (file_in n.file n.file_in) (contains_map (kept_term s) n.file.terms n.term n.term_in)
        (same_hash o.of o.within n.file n.term n.file_in n.term_in n.names))

-- ---- compacting again

module _ (t : Store) (v : IsValid t) (held : (x : Xorb) → Contains t.xorbs x → (k : ℕ) → k < length x.chunks → is_held t x.hash k ≡ true) (named : (x : Xorb) → Contains t.xorbs x → is_named t x.hash ≡ true) where
  same_xorbs : kept_xorbs t ≡ t.xorbs
  same_xorbs =
      ap (map (kept_xorb t)) (filter_all (λ (x : Xorb). is_named t x.hash) t.xorbs named)
      ∙ map_fixed (kept_xorb t) t.xorbs (all_from_members (λ (x : Xorb). kept_xorb t x ≡ x) t.xorbs (λ x xin.
      (kept_xorb_same t x (held x xin)).1))

  place_same : (f : StoredFile) (u : StoredTerm) (fin : Contains t.files f) (uin : Contains f.terms u) (k : ℕ)
      → k ≤ length (term_of t v f u fin uin).xorb.chunks
      → held_before t (term_of t v f u fin uin).xorb.hash k ≡ k
  place_same f u fin uin k within =
      let x = term_of t v f u fin uin in
      passed_all (is_held t x.xorb.hash) 0 k (λ j low high. held x.xorb x.xorb_in j (omega (arith, high, within)))

  term_same_again : (f : StoredFile) (u : StoredTerm) → Contains t.files f → Contains f.terms u → kept_term t u ≡ u
  term_same_again f u fin uin =
      let x = term_of t v f u fin uin in
      let some = x.some in
      let inside = x.inside in
      let hash : (kept_term t u).xorb ≡ u.xorb = kept_hash_of t v f u fin uin ∙ (kept_xorb_same t x.xorb
      (held x.xorb x.xorb_in)).0 ∙ x.hash_is in
      let from : (kept_term t u).from ≡ u.from = kept_from_of t v f u fin uin ∙ place_same f u fin uin u.from
      (omega (arith, some, inside)) in
      let to : (kept_term t u).to ≡ u.to = kept_to_of t v f u fin uin ∙ place_same f u fin uin u.to inside in
      λ i. let r : StoredTerm = record { xorb = hash i; from = from i; to = to i } in r

  file_same_again : (f : StoredFile) → Contains t.files f → kept_file t f ≡ f
  file_same_again f fin =
      ap (λ (ts : List StoredTerm). let g : StoredFile = record { hash = f.hash; terms = ts } in g)
      (map_fixed (kept_term t) f.terms (all_from_members (λ (u : StoredTerm). kept_term t u ≡ u) f.terms (λ u uin.
      term_same_again f u fin uin)))

  same_files_again : map (kept_file t) t.files ≡ t.files
  same_files_again = map_fixed (kept_file t) t.files (all_from_members (λ (f : StoredFile). kept_file t f ≡ f) t.files
      file_same_again)

  pub compacted_again : IsStrictlySortedBy hash_cmp (map (λ (x : Xorb). x.hash) t.xorbs)
      → IsStrictlySortedBy hash_cmp (map (λ (f : StoredFile). f.hash) t.files) → IsCompacted t t
  compacted_again xs fs = record {
    xorbs_ascend = xs;
    files_ascend = fs;
    xorbs = λ x. (
      subst (λ (l : List Xorb). Contains l x) (sym same_xorbs),
      subst (λ (l : List Xorb).
          Contains l x) same_xorbs,
    );
    files = λ f. (
      subst (λ (l : List StoredFile). Contains l f) (sym same_files_again),
      subst
          (λ (l : List StoredFile). Contains l f) same_files_again,
    );
  }

  pub none_dropped_again : dropped_count t ≡ 0
  none_dropped_again = sum_none (λ (x : Xorb). count_by (λ (q : ℕ × List ℕ). not (is_held t x.hash q.0)) (enumerate_from 0
      x.chunks)) t.xorbs (λ x xin. count_numbered (λ k. not (is_held t x.hash k)) 0 x.chunks
      ∙ passed_none (λ k. not (is_held t x.hash k)) 0 (length x.chunks) (λ k low high.
      not_from_true (is_held t x.hash k) (held x xin k (omega (arith, high)))))

pub compacted_serves : (s t : Store) → IsValid s → IsCompacted s t → Serves s t
compacted_serves s t v c =
    let valid = valid_kept s t c v in
    let held = held_xorb s t c v in
    let named = named_xorb s t c v in
    record {
      valid = valid;
      same_files = same_files s t c;
      same_bytes = same_bytes s t c v;
      held = all_from_members (λ (x : Xorb). (k : ℕ) → k < length x.chunks → IsTrue (is_held t x.hash k)) t.xorbs held;
      named = all_from_members (λ (x : Xorb). IsTrue (is_named t x.hash)) t.xorbs named;
      again = compacted_again t valid held named c.xorbs_ascend c.files_ascend;
      none_dropped = none_dropped_again t valid held named;
    }
