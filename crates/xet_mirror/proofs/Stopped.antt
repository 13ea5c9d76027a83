-- Wherever a call stopped: what is there is valid, and agrees with the shelf's store.
use Rattle.std.proofs.Common.{◌≡◌, ℕ, ◌<◌, ◌≤◌, ◌^◌, Bool, true, false, cond, zero, suc, ◌⊎◌, inl, inr, List, [], ◌∷◌, ◌++◌, length, map, take, get_or, refl, sym, ◌∙◌, ap, subst, arith, append_assoc}
use Rattle.std.specs.Prelude.{Option, Some, None, IsSome, find, is_some, option_map, unwrap_or, All, Contains}
use Rattle.std.specs.List.{concat, flat_map, fold, sum_by}
use Rattle.std.specs.Option.{option_or}
use Rattle.std.proofs.lemmas.Bool.{false≢true}
use Rattle.std.proofs.Math.Seq.{get_or-append_seam, take-append_seam}
use Rattle.std.proofs.lemmas.List.{append-nil, length-append}
use Rattle.std.proofs.lemmas.List.Concat.{length-flat_map}
use Rattle.std.proofs.lemmas.List.Elements.{All-head, All-nil, All-push, All-tail}
use Rattle.std.proofs.lemmas.List.Folds.{concat-append, list_any_at}
use Rattle.xet_base.specs.declared.merklehash.MerkleHash.{MerkleHash}
use Rattle.xet_base.specs.declared.mdb_shard.MDBFileInfo.{MDBFileInfo}
use Rattle.xet_base.specs.declared.mdb_shard.ShardRecord.{ShardRecord}
use Rattle.xet_base.specs.declared.mdb_shard.Xorb.{Xorb}
use Rattle.xet_base.specs.declared.stored.StoredFile.{StoredFile}
use Rattle.xet_base.specs.declared.stored.StoredTerm.{StoredTerm}
use Rattle.xet_base.specs.Hashes.{hash_eq}
use Rattle.xet_base.specs.Store.{IsTermIn, IsValid, Store, bytes_of, chunks_of, chunks_of_term, file_of, terms_of_file, xorb_of}
use Rattle.xet_base.proofs.CallerLemmas.{hash_eq-own}
use Rattle.xet_store.specs.Refusals.{term_length}
use Rattle.xet_store.proofs.CallerLemmas.{found_short, valid_with_file, valid_with_xorb}
use Rattle.xet_uploader.specs.declared.uploader.Put.{Put}
use Rattle.xet_uploader.specs.declared.uploader.Put.TheVariants as put
use Rattle.xet_uploader.specs.StoresAfter.{file_of_record, files_in}
use Rattle.xet_uploader.specs.Uploads.{xorbs_in}
use Rattle.xet_uploader.proofs.CallerLemmas.{xorbs_in-append}
use Rattle.xet_upload.specs.Orders.{IsOrdered, IsThere, names_of}
use Rattle.xet_shelves.specs.After.{Agree, add_file, after}
use Rattle.xet_shelves.proofs.CallerLemmas.{after-append, after_finds_files, after_finds_xorbs, files_in-append}
use Rattle.xet_mirror_parts.specs.Copying.{IsSentFrom, IsShardOf, shards_in}
use Rattle.xet_mirror_parts.proofs.CallerLemmas.{HaveSame, any-map, contained_any, is_some-found, none-is, same-terms, some-is, xorb_in}
use Rattle.xet_mirror.specs.Laws.{IsPartMirrored, StoppedAgrees}
use Rattle.xet_mirror.specs.Mirrored.{names_of_file}
use Rattle.xet_mirror.proofs.FileParts.{names-are}
use Rattle.xet_mirror.proofs.Finals.{bytes-kept, file-found, or-right, same-bytes, unmapped}
use Rattle.xet_mirror.proofs.MirrorLaws.{map-some, terms-all, xorbs-agree}

-- ---- xorbs

either : {A : Type 0} (a b : Option A) → IsSome a ⊎ IsSome b → IsSome (option_or a b)
either (Some x) b h = refl
either None b (inl h) = absurd (false≢true h)
either None b (inr h) = h

-- the xorbs that t has
abbrev known : Store → List MerkleHash
known t = map (λ x. x.hash) t.xorbs

-- a xorb that was put, or that t has, is there
there-some : (t : Store) (ps : List Put) (h : MerkleHash) → IsThere ps (known t) h → IsSome (xorb_of (after t ps) h)
there-some t ps h there =
    ap is_some (after_finds_xorbs t ps h) ∙ either (xorb_of t h) (find (λ x. hash_eq x.hash h) (xorbs_in ps)) (go there)
  where
    some : (xs : List Xorb) → Contains (map (λ x. x.hash) xs) h → IsSome (find (λ (x : Xorb). hash_eq x.hash h) xs)
    some xs c =
        is_some-found (λ x. hash_eq x.hash h) xs ∙ sym (any-map (λ g. hash_eq g h) (λ (x : Xorb). x.hash) xs)
        ∙ contained_any (map (λ x. x.hash) xs) h c

    go : IsThere ps (known t) h → IsSome (xorb_of t h) ⊎ IsSome (find (λ (x : Xorb). hash_eq x.hash h) (xorbs_in ps))
    go (inl c) = inr (some (xorbs_in ps) c)
    go (inr c) = inl (some t.xorbs c)

-- the lengths of terms add up to that of their bytes
joined-terms : (s : Store) (ts : List StoredTerm)
    → concat (flat_map (chunks_of_term s) ts) ≡ flat_map (λ t. concat (chunks_of_term s t)) ts
joined-terms s [] = refl
joined-terms s (t ∷ ts) =
    concat-append (chunks_of_term s t) (flat_map (chunks_of_term s) ts)
    ∙ ap (λ bs. concat (chunks_of_term s t) ++ bs) (joined-terms s ts)

length-terms : (s : Store) (ts : List StoredTerm)
    → length (concat (flat_map (chunks_of_term s) ts)) ≡ sum_by (term_length s) ts
length-terms s ts = ap length (joined-terms s ts) ∙ length-flat_map (λ t. concat (chunks_of_term s t)) ts

-- a term in a store that has the same xorb
term-same : (s u : Store) (t : StoredTerm) → HaveSame s u t.xorb → IsTermIn s t → IsTermIn u t
term-same s u t k i =
    let of : Option Xorb → List (List ℕ) = λ o. unwrap_or (option_map (λ x. x.chunks) o) [] in
    let chunks : chunks_of s t.xorb ≡ chunks_of u t.xorb = ap of k.there_is ∙ sym k.chunks ∙ sym (ap of k.here_is) in
    record {
      some = i.some;
      stored = ap is_some k.here_is;
      inside = subst (λ (cs : List (List ℕ)). t.to ≤ length cs) chunks i.inside;
    }

-- ---- files

-- a store with the record of a file of s, each of whose xorbs it has with the same chunks
valid-more : (s u : Store) (f : StoredFile) → IsValid s → IsValid u → file_of s f.hash ≡ Some f
    → All (λ t. HaveSame s u t.xorb) f.terms → All (IsTermIn s) f.terms → file_of u f.hash ≡ None
    → IsValid (record u { files = u.files ++ f ∷ [] })
valid-more s u f from v stored same terms new =
    let short = found_short s from f.hash f f.terms (sym stored) refl in
    let bytes = ap (λ cs. length (concat cs)) (same-terms s u f.terms same) in
    let sums = length-terms u f.terms in
    let fits : sum_by (term_length u) f.terms < 2 ^ 64 = omega (arith, short, bytes, sums) in
    valid_with_file u f v new (λ n d l. term-same s u (get_or f.terms n d) (same n d l) (terms n d l)) fits

-- the record is that of a file of s
abbrev IsRecord : Store → MDBFileInfo → Type 0
IsRecord s f = file_of s f.hash ≡ Some (file_of_record f)

-- after some puts the store is valid, each put xorb is s's and none of t's, and each put record of a file is s's
record IsPart (s t : Store) (ps : List Put) : Type 0 where
  valid : IsValid (after t ps)
  sent : All (IsSentFrom s t) (xorbs_in ps)
  files : All (IsRecord s) (files_in ps)

module _ (s t : Store) (from : IsValid s) (to : IsValid t) (agree : Agree s t) where
  have-same : (ps : List Put) (h : MerkleHash) → All (IsSentFrom s t) (xorbs_in ps) → IsSome (xorb_of s h)
      → IsSome (xorb_of (after t ps) h) → HaveSame s (after t ps) h
  have-same ps h sent a b =
      let x = some-is (xorb_of s h) a in
      let y = some-is (xorb_of (after t ps) h) b in
      record {
        there = x.0;
        there_is = x.1;
        here = y.0;
        here_is = y.1;
        chunks = sym (xorbs-agree s t ps agree sent h x.0 y.0 x.1 y.1);
      }

  -- ---- one put more

  part-sent : (ps : List Put) (x : Xorb) → IsPart s t ps → IsSentFrom s t x → IsPart s t (ps ++ put.Xorb x ∷ [])
  part-sent ps x k is =
      let P : List Xorb → Type 0 = All (IsSentFrom s t) in
      let Q : List MDBFileInfo → Type 0 = All (IsRecord s) in
      record {
        valid = go (is_some (xorb_of u x.hash)) refl;
        sent = subst P (sym (xorbs_in-append ps (put.Xorb x ∷ [])))
            (All-push (IsSentFrom s t) (xorbs_in ps) x k.sent is);
        files = subst Q (sym (files_in-append ps (put.Xorb x ∷ []) ∙ append-nil (files_in ps))) k.files;
      }
    where
      u : Store
      u = after t ps

      now : (b : Bool) → is_some (xorb_of u x.hash) ≡ b
          → after t (ps ++ put.Xorb x ∷ []) ≡ cond b u (record u { xorbs = u.xorbs ++ x ∷ [] })
      now b e = after-append t ps (put.Xorb x ∷ []) ∙ ap (λ b. cond b u (record u { xorbs = u.xorbs ++ x ∷ [] })) e

      go : (b : Bool) → is_some (xorb_of u x.hash) ≡ b → IsValid (after t (ps ++ put.Xorb x ∷ []))
      go true e = subst IsValid (sym (now true e)) k.valid
      go false e =
          subst IsValid (sym (now false e))
          (valid_with_xorb u x k.valid (none-is (xorb_of u x.hash) e) (xorb_in s from x.hash x is.stored))

  part-recorded : (ps : List Put) (r : ShardRecord) → IsPart s t ps → IsShardOf s r
      → All (IsThere ps (known t)) (names_of r.files) → IsPart s t (ps ++ put.Shard r ∷ [])
  part-recorded ps r k is there =
      let P : List Xorb → Type 0 = All (IsSentFrom s t) in
      let Q : List MDBFileInfo → Type 0 = All (IsRecord s) in
      let more : files_in (ps ++ put.Shard r ∷ []) ≡ files_in ps ++ is.file ∷ [] =
      files_in-append ps (put.Shard r ∷ []) ∙ ap (λ fs. files_in ps ++ fs) (append-nil r.files ∙ is.files) in
      record {
        valid = go (is_some (file_of u f.hash)) refl;
        sent = subst P (sym (xorbs_in-append ps (put.Shard r ∷ []) ∙ append-nil (xorbs_in ps))) k.sent;
        files = subst Q (sym more) (All-push (IsRecord s) (files_in ps) is.file k.files is.stored);
      }
    where
      u : Store
      u = after t ps

      f : StoredFile
      f = file_of_record is.file

      own : terms_of_file s f.hash ≡ f.terms
      own = ap (λ o. unwrap_or (option_map (λ (x : StoredFile). x.terms) o) []) is.stored

      terms : All (IsTermIn s) f.terms
      terms = let P : List StoredTerm → Type 0 = All (IsTermIn s) in subst P own (terms-all s from f.hash)

      named : All (λ (v : StoredTerm). IsThere ps (known t) v.xorb) f.terms
      named =
          let P : List MerkleHash → Type 0 = All (IsThere ps (known t)) in
          let Q : List StoredTerm → Type 0 = All (λ (v : StoredTerm). IsThere ps (known t) v.xorb) in
          let names : names_of r.files ≡ names_of_file s f.hash =
          ap names_of is.files ∙ append-nil (map (λ e. e.xorb) is.file.entries)
          ∙ sym (names-are s f.hash is.file is.stored) in
          subst Q own (unmapped (IsThere ps (known t)) (terms_of_file s f.hash) (subst P names there))

      same : All (λ (v : StoredTerm). HaveSame s u v.xorb) f.terms
      same n d l =
          let h = (get_or f.terms n d).xorb in
          have-same ps h k.sent (terms n d l).stored (there-some t ps h (named n d l))

      now : (b : Bool) → is_some (file_of u f.hash) ≡ b
          → after t (ps ++ put.Shard r ∷ []) ≡ cond b u (record u { files = u.files ++ f ∷ [] })
      now b e =
          after-append t ps (put.Shard r ∷ []) ∙ ap (fold add_file u) is.files
          ∙ ap (λ b. cond b u (record u { files = u.files ++ f ∷ [] })) e

      go : (b : Bool) → is_some (file_of u f.hash) ≡ b → IsValid (after t (ps ++ put.Shard r ∷ []))
      go true e = subst IsValid (sym (now true e)) k.valid
      go false e =
          subst IsValid (sym (now false e))
          (valid-more s u f from k.valid is.stored same terms (none-is (file_of u f.hash) e))

  -- ---- some puts more

  -- the names of a shard's files, at its place
  there-at : (ps qs : List Put) (r : ShardRecord) → IsOrdered (ps ++ put.Shard r ∷ qs) 0 (known t)
      → All (IsThere ps (known t)) (names_of r.files)
  there-at ps qs r order =
      let P : List Put → Type 0 = λ log. All (IsThere log (known t)) (names_of r.files) in
      let long = length-append ps (put.Shard r ∷ qs) in
      subst P (take-append_seam ps (put.Shard r ∷ qs))
      (order (length ps) r (omega arith) (omega (arith, long)) (get_or-append_seam ps (put.Shard r) qs (put.Shard r)))

  part-more : (n : ℕ) (qs ps : List Put) → IsPart s t ps → IsOrdered (ps ++ qs) 0 (known t)
      → All (IsSentFrom s t) (xorbs_in qs) → All (IsShardOf s) (shards_in qs) → IsPart s t (ps ++ take n qs)
  part-more zero qs ps k order sent shards = subst (IsPart s t) (sym (append-nil ps)) k
  part-more (suc n) [] ps k order sent shards = subst (IsPart s t) (sym (append-nil ps)) k
  part-more (suc n) (put.Xorb x ∷ qs) ps k order sent shards =
      let P : List Put → Type 0 = λ log. IsOrdered log 0 (known t) in
      let next = part-sent ps x k (All-head (IsSentFrom s t) x (xorbs_in qs) sent) in
      subst (IsPart s t) (append_assoc ps (put.Xorb x ∷ []) (take n qs))
      (part-more n qs (ps ++ put.Xorb x ∷ []) next (subst P (sym (append_assoc ps (put.Xorb x ∷ []) qs)) order)
      (All-tail (IsSentFrom s t) x (xorbs_in qs) sent) shards)
  part-more (suc n) (put.Shard r ∷ qs) ps k order sent shards =
      let P : List Put → Type 0 = λ log. IsOrdered log 0 (known t) in
      let next = part-recorded ps r k (All-head (IsShardOf s) r (shards_in qs) shards) (there-at ps qs r order) in
      subst (IsPart s t) (append_assoc ps (put.Shard r ∷ []) (take n qs))
      (part-more n qs (ps ++ put.Shard r ∷ []) next (subst P (sym (append_assoc ps (put.Shard r ∷ []) qs)) order)
      sent (All-tail (IsShardOf s) r (shards_in qs) shards))

  -- ---- what is there

  module _ (ps : List Put) (k : IsPart s t ps) where
    -- a record that t lacks is s's, and so are its bytes
    bytes-found : (f : MerkleHash) → IsSome (file_of (after t ps) f) → is_some (file_of t f) ≡ false
        → bytes_of (after t ps) f ≡ bytes_of s f
    bytes-found f there lacking =
        let recorded : Option MDBFileInfo = find (λ r. hash_eq r.hash f) (files_in ps) in
        let some : is_some (option_map file_of_record recorded) ≡ true =
        ap is_some (sym (or-right (file_of t f) (option_map file_of_record recorded) lacking)
        ∙ sym (after_finds_files t ps f)) ∙ there in
        let r = some-is recorded (sym (map-some file_of_record recorded) ∙ some) in
        let same : file_of (after t ps) f ≡ file_of s f = file-found s t ps k.files f r.0 r.1 lacking in
        let terms : terms_of_file (after t ps) f ≡ terms_of_file s f =
        ap (λ o. unwrap_or (option_map (λ (x : StoredFile). x.terms) o) []) same in
        let P : List StoredTerm → Type 0 = All (IsTermIn (after t ps)) in
        let here = subst P terms (terms-all (after t ps) k.valid f) in
        same-bytes s (after t ps) f same
        (λ n d l. have-same ps (get_or (terms_of_file s f) n d).xorb k.sent
        (terms-all s from f n d l).stored (here n d l).stored)

    part-agrees : Agree s (after t ps)
    part-agrees = record { xorbs = xorbs-agree s t ps agree k.sent; files = same }
      where
        same : (f : MerkleHash) → IsSome (file_of s f) → IsSome (file_of (after t ps) f)
            → bytes_of s f ≡ bytes_of (after t ps) f
        same f a b = go (is_some (file_of t f)) refl
          where
            go : (c : Bool) → is_some (file_of t f) ≡ c → bytes_of s f ≡ bytes_of (after t ps) f
            go true e = agree.files f a e ∙ sym (bytes-kept t ps to f e)
            go false e = sym (bytes-found f b e)

    part-has : All (λ f. IsSome (file_of (after t ps) f.hash)) (files_in ps)
    part-has n d l =
        let r = get_or (files_in ps) n d in
        let recorded : Option MDBFileInfo = find (λ f. hash_eq f.hash r.hash) (files_in ps) in
        let some = map-some file_of_record recorded ∙ is_some-found (λ f. hash_eq f.hash r.hash) (files_in ps)
        ∙ list_any_at (λ f. hash_eq f.hash r.hash) (files_in ps) n d l (hash_eq-own r.hash) in
        ap is_some (after_finds_files t ps r.hash)
        ∙ either (file_of t r.hash) (option_map file_of_record recorded) (inr some)

    part-is : IsPartMirrored s t ps
    part-is = record {
      valid = k.valid;
      agrees = part-agrees;
      kept = bytes-kept t ps to;
      has = part-has;
      bytes = λ n d l.
          sym (part-agrees.files (get_or (files_in ps) n d).hash (ap is_some (k.files n d l)) (part-has n d l));
    }

  part-none : IsPart s t []
  part-none = record { valid = to; sent = All-nil (IsSentFrom s t); files = All-nil (IsRecord s) }

pub stopped-agrees : StoppedAgrees
stopped-agrees s t puts n from to agree order sent shards =
    part-is s t from to agree (take n puts)
    (part-more s t from to agree n puts [] (part-none s t from to agree) order sent shards)
