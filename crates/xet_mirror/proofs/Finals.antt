-- What a call that copied a whole list has mirrored.
use Rattle.std.proofs.Common.{◌≡◌, ℕ, ◌<◌, ◌-◌, ◌^◌, min, Bool, true, false, ◌⊎◌, inl, inr, List, [], ◌∷◌, length, map, get_or, refl, sym, ◌∙◌, ap, subst, arith}
use Rattle.std.specs.Prelude.{Option, Some, None, IsNone, IsSome, filter, find, is_none, is_some, option_map, unwrap_or, All, Contains}
use Rattle.std.specs.List.{concat, flat_map, list_any}
use Rattle.std.specs.Option.{option_or}
use Rattle.std.proofs.lemmas.Bool.{false≢true, true≢false}
use Rattle.std.proofs.lemmas.List.{get_or-map, length-append, length-map}
use Rattle.std.proofs.lemmas.List.Elements.{All-map, All-weaker, Contains-get_or}
use Rattle.xet_base.specs.declared.merklehash.MerkleHash.{MerkleHash}
use Rattle.xet_base.specs.declared.mdb_shard.MDBFileInfo.{MDBFileInfo}
use Rattle.xet_base.specs.declared.mdb_shard.Xorb.{Xorb}
use Rattle.xet_base.specs.declared.stored.StoredFile.{StoredFile}
use Rattle.xet_base.specs.declared.stored.StoredTerm.{StoredTerm}
use Rattle.xet_base.specs.Digests.{chunk_hash_of, infos_of, xorb_hash_of}
use Rattle.xet_base.specs.Hashes.{hash_eq}
use Rattle.xet_base.specs.Store.{IsTermIn, IsValid, Store, bytes_of, chunks_of, chunks_of_term, file_of, terms_of_file, xorb_of}
use Rattle.xet_base.proofs.CallerLemmas.{hash_eq-true}
use Rattle.xet_store.proofs.CallerLemmas.{found_terms}
use Rattle.xet_uploader.specs.declared.uploader.Put.{Put}
use Rattle.xet_uploader.specs.StoresAfter.{file_of_record, files_in}
use Rattle.xet_uploader.specs.Uploads.{capped_info, xorbs_in}
use Rattle.xet_shelves.specs.After.{Agree, after}
use Rattle.xet_mirror_parts.specs.declared.copied.Copied.{Copied}
use Rattle.xet_mirror_parts.specs.Copying.{IsSentFrom}
use Rattle.xet_mirror_parts.specs.Looked.{IsNamed, IsWholeXorb, counted}
use Rattle.xet_shelves.proofs.CallerLemmas.{after_finds_files, after_finds_xorbs}
use Rattle.xet_mirror_parts.proofs.CallerLemmas.{HaveSame, any-map, contained_any, found_all, found_passes, is_some-found, looked-same, same-terms, some-is, xorb_in}
use Rattle.xet_mirror.specs.Mirrored.{IsMirrored, copied_files, names_of_file, sent_hashes}
use Rattle.xet_mirror.specs.steps.FileCalls.{IsCopied}
use Rattle.xet_mirror.proofs.Listed.{copied-listed, named-listed}

-- ---- hashes

-- where the bytes are fewer than 2^32, no length is cut
capped-same : (cs : List (List ℕ)) → length (concat cs) < 2 ^ 32 → map capped_info cs ≡ infos_of cs
capped-same [] h = refl
capped-same (c ∷ cs) h =
    let sum = length-append c (concat cs) in
    let here : min (length c) (2 ^ 32 - 1) ≡ length c = omega (arith, sum, h) in
    let rest = capped-same cs (omega (arith, sum, h)) in
    λ i. (record { hash = chunk_hash_of c; length = here i }) ∷ rest i

-- over a valid store a xorb with the hash of its chunks has it without cuts
pub named-exactly : (s : Store) (x : Xorb) → IsValid s → xorb_of s x.hash ≡ Some x → IsNamed x
    → xorb_hash_of (infos_of (chunks_of s x.hash)) ≡ x.hash
named-exactly s x v stored named =
    let ok = xorb_in s v x.hash x stored in
    ap (λ o. xorb_hash_of (infos_of (unwrap_or (option_map (λ (x : Xorb). x.chunks) o) []))) stored
    ∙ ap xorb_hash_of (sym (capped-same x.chunks ok.byte_count)) ∙ named

-- with tests each put xorb has the hash of its chunks
pub verified : (verify : Bool) (s t : Store) (ps : List Put) → IsValid s → All (IsSentFrom s t) (xorbs_in ps) → All (IsWholeXorb verify) (xorbs_in ps)
    → verify ≡ true → All (λ h. xorb_hash_of (infos_of (chunks_of s h)) ≡ h) (map (λ x. x.hash) (xorbs_in ps))
verified verify s t ps from sent whole v =
    All-map (λ h. xorb_hash_of (infos_of (chunks_of s h)) ≡ h) (λ (x : Xorb). x.hash) (xorbs_in ps)
    (λ n d l. named-exactly s (get_or (xorbs_in ps) n d) from (sent n d l).stored ((whole n d l).named v))

-- ---- bytes

-- a store that has another's file, and the same xorbs for its terms, has its bytes
pub same-bytes : (s u : Store) (f : MerkleHash) → file_of u f ≡ file_of s f → All (λ t. HaveSame s u t.xorb) (terms_of_file s f) → bytes_of u f ≡ bytes_of s f
same-bytes s u f same all =
    ap (λ o. concat (flat_map (chunks_of_term u) (unwrap_or (option_map (λ (x : StoredFile). x.terms) o) []))) same
    ∙ ap concat (same-terms s u (terms_of_file s f) all)

-- what is so of the xorbs that terms name
pub unmapped : (P : MerkleHash → Type 0) (ts : List StoredTerm) → All P (map (λ (u : StoredTerm). u.xorb) ts) → All (λ (u : StoredTerm). P u.xorb) ts
unmapped P ts a n d l =
    let e = get_or-map (λ (u : StoredTerm). u.xorb) ts n d d.xorb l in
    subst P e (a n d.xorb (omega (arith, l, length-map ts (λ (u : StoredTerm). u.xorb))))

-- a store after a log has the xorbs that it had
kept : (t : Store) (ps : List Put) (h : MerkleHash) → IsSome (xorb_of t h) → HaveSame t (after t ps) h
kept t ps h some =
    let had = some-is (xorb_of t h) some in
    record {
      there = had.0;
      there_is = had.1;
      here = had.0;
      here_is = after_finds_xorbs t ps h ∙ ap (λ o. option_or o (find (λ x. hash_eq x.hash h) (xorbs_in ps))) had.1;
      chunks = refl;
    }

pub or-left : {A : Type 0} (a b : Option A) → is_some a ≡ true → option_or a b ≡ a
or-left None b h = absurd (false≢true h)
or-left (Some x) b h = refl

pub or-right : {A : Type 0} (a b : Option A) → is_some a ≡ false → option_or a b ≡ b
or-right None b h = refl
or-right (Some x) b h = absurd (true≢false h)

-- a file that t has stays, with its bytes
pub file-kept : (t : Store) (ps : List Put) (f : MerkleHash) → is_some (file_of t f) ≡ true → file_of (after t ps) f ≡ file_of t f
file-kept t ps f e = after_finds_files t ps f ∙ or-left (file_of t f) (option_map file_of_record (find (λ r. hash_eq r.hash f) (files_in ps))) e

pub bytes-kept : (t : Store) (ps : List Put) → IsValid t → (f : MerkleHash) → is_some (file_of t f) ≡ true → bytes_of (after t ps) f ≡ bytes_of t f
bytes-kept t ps to f e =
    let had = some-is (file_of t f) e in
    let terms : terms_of_file t f ≡ had.0.terms = ap (λ o. unwrap_or (option_map (λ (x : StoredFile). x.terms) o) []) had.1 in
    let all : All (IsTermIn t) (terms_of_file t f) = found_terms t to f had.0 (terms_of_file t f) (sym had.1) terms in
    same-bytes t (after t ps) f (file-kept t ps f e)
    (All-weaker (IsTermIn t) (λ u. HaveSame t (after t ps) u.xorb) (λ u i. kept t ps u.xorb i.stored) (terms_of_file t f) all)

-- a file that t lacks is s's, where each record that was put is
pub file-found : (s t : Store) (ps : List Put) → All (λ r. file_of s r.hash ≡ Some (file_of_record r)) (files_in ps)
    → (f : MerkleHash) (r : MDBFileInfo) → find (λ r. hash_eq r.hash f) (files_in ps) ≡ Some r → is_some (file_of t f) ≡ false
    → file_of (after t ps) f ≡ file_of s f
file-found s t ps files f r is lacking =
    let P : MDBFileInfo → Type 0 = λ r. file_of s r.hash ≡ Some (file_of_record r) in
    let own = found_all P (λ r. hash_eq r.hash f) (files_in ps) r files is in
    let hash = hash_eq-true r.hash f (found_passes (λ r. hash_eq r.hash f) (files_in ps) r is) in
    after_finds_files t ps f
    ∙ or-right (file_of t f) (option_map file_of_record (find (λ r. hash_eq r.hash f) (files_in ps))) lacking
    ∙ ap (option_map file_of_record) is ∙ sym own ∙ ap (file_of s) hash

module _ (s t : Store) (ps : List Put) (c : Copied) (files : List MerkleHash) (k : IsCopied s t ps c files)
    (from : IsValid s) (to : IsValid t) (agree : Agree s t) where
  -- another that is listed was copied
  module _ (f : MerkleHash) (listed : Contains files f) (lacking : is_some (file_of t f) ≡ false) where
    copied-is : Contains (copied_files t files) f
    copied-is = copied-listed t files f listed lacking

    recorded-is : (r : MDBFileInfo) × (find (λ r. hash_eq r.hash f) (files_in ps) ≡ Some r)
    recorded-is =
        some-is (find (λ r. hash_eq r.hash f) (files_in ps))
        (is_some-found (λ r. hash_eq r.hash f) (files_in ps) ∙ sym (any-map (λ g. hash_eq g f) (λ (r : MDBFileInfo). r.hash) (files_in ps))
        ∙ ap (list_any (λ g. hash_eq g f)) k.recorded ∙ contained_any (copied_files t files) f copied-is)

    file-put : file_of (after t ps) f ≡ file_of s f
    file-put = let r = recorded-is in file-found s t ps k.files f r.0 r.1 lacking

    bytes-put : bytes_of (after t ps) f ≡ bytes_of s f
    bytes-put = same-bytes s (after t ps) f file-put (unmapped (HaveSame s (after t ps)) (terms_of_file s f) all)
      where
        all : All (HaveSame s (after t ps)) (names_of_file s f)
        all n d l =
            let h = get_or (names_of_file s f) n d in
            let named = named-listed s (copied_files t files) f h copied-is (Contains-get_or (names_of_file s f) n d l) in
            let P : List MerkleHash → Type 0 = λ hs. Contains hs h in
            looked-same s t ps c k.copying agree h (subst P (sym k.named) named)

  -- each listed file is one or the other
  has-file : (f : MerkleHash) → Contains files f → IsSome (file_of s f) ⊎ IsSome (file_of t f) → IsSome (file_of (after t ps) f)
  has-file f listed some = go (is_some (file_of t f)) refl
    where
      go : (b : Bool) → is_some (file_of t f) ≡ b → IsSome (file_of (after t ps) f)
      go true e = ap is_some (file-kept t ps f e) ∙ e
      go false e = ap is_some (file-put f listed e) ∙ other some
        where
          other : IsSome (file_of s f) ⊎ IsSome (file_of t f) → is_some (file_of s f) ≡ true
          other (inl h) = h
          other (inr h) = absurd (true≢false (sym h ∙ e))

  has-bytes : (f : MerkleHash) → Contains files f → IsSome (file_of s f) → bytes_of (after t ps) f ≡ bytes_of s f
  has-bytes f listed some = go (is_some (file_of t f)) refl
    where
      go : (b : Bool) → is_some (file_of t f) ≡ b → bytes_of (after t ps) f ≡ bytes_of s f
      go true e = bytes-kept t ps to f e ∙ sym (agree.files f some e)
      go false e = bytes-put f listed e

  left-alone : (f : MerkleHash) → Contains files f → IsSome (file_of s f) ⊎ IsSome (file_of t f) → IsNone (file_of s f) → file_of (after t ps) f ≡ file_of t f
  left-alone f listed (inl h) none = absurd (true≢false (sym h ∙ none))
  left-alone f listed (inr h) none = file-kept t ps f h

  each : (P : MerkleHash → Type 0) → ((f : MerkleHash) → Contains files f → IsSome (file_of s f) ⊎ IsSome (file_of t f) → P f) → All P files
  each P go n d l = go (get_or files n d) (Contains-get_or files n d l) (k.listed n d l)

  sent-is : map (λ x. x.hash) (xorbs_in ps) ≡ sent_hashes s t files
  sent-is = k.copying.sent ∙ ap (filter (λ h. is_none (xorb_of t h))) k.named

  pub mirrored : IsMirrored s t files ps c.report
  mirrored = record {
    valid = k.copying.valid from to agree;
    has = each (λ f. IsSome (file_of (after t ps) f)) has-file;
    bytes = each (λ f. IsSome (file_of s f) → bytes_of (after t ps) f ≡ bytes_of s f) (λ f listed one some. has-bytes f listed some);
    left = each (λ f. IsNone (file_of s f) → file_of (after t ps) f ≡ file_of t f) left-alone;
    recorded = k.recorded;
    sent = sent-is;
    files_copied = k.files_copied;
    files_present = k.files_present;
    xorbs_sent = k.copying.xorbs_sent
        ∙ ap counted (sym (length-map (xorbs_in ps) (λ (x : Xorb). x.hash)) ∙ ap length sent-is);
    xorbs_present = k.copying.xorbs_present ∙ ap (λ hs. counted (length (filter (λ h. is_some (xorb_of t h)) hs))) k.named;
    bytes_sent = k.copying.bytes_sent;
  }
