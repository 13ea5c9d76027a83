-- Stores agree where their xorbs and their files do.
use Rattle.std.proofs.Common.{◌≡◌, ℕ, ◌<◌, ◌^◌, [], length, get_or, sym, ◌∙◌, ap, arith, refl, Option, Some, None}
use Rattle.std.specs.Prelude.{IsSome, is_some, option_map, unwrap_or}
use Rattle.std.proofs.lemmas.Bool.{false≢true}
use Rattle.xet_base.specs.declared.merklehash.MerkleHash.{MerkleHash}
use Rattle.xet_base.specs.declared.mdb_shard.Xorb.{Xorb}
use Rattle.xet_base.specs.declared.stored.StoredFile.{StoredFile}
use Rattle.xet_base.specs.Hashes.{hash_eq}
use Rattle.xet_base.specs.Store.{IsValid, Store, bytes_of, file_of, xorb_of}
use Rattle.xet_base.proofs.CallerLemmas.{hash_eq-true}
use Rattle.xet_shelves.specs.After.{Agree}
use Rattle.xet_agree.specs.steps.Alike.{FilesAgree, HasBytes, HasChunks, XorbsAgree, bytes_in}
use Rattle.xet_agree.proofs.Found.{found_all, found_own, found_passes}

-- the bytes of a file that is found
pub bytes_found : (s : Store) (h : MerkleHash) (f : StoredFile) → file_of s h ≡ Some f → bytes_of s h ≡ bytes_in s f.terms
bytes_found s h f e =
    ap (λ (o : Option StoredFile). bytes_in s (unwrap_or (option_map (λ (x : StoredFile). x.terms) o) [])) e

module _ (s t : Store) where
  xorbs_from : XorbsAgree s t → (h : MerkleHash) (x y : Xorb) → xorb_of s h ≡ Some x → xorb_of t h ≡ Some y
      → x.chunks ≡ y.chunks
  xorbs_from all h x y e f =
      let p = λ (z : Xorb). hash_eq z.hash h in
      let same : x.hash ≡ h = hash_eq-true x.hash h (found_passes p s.xorbs x e) in
      found_all p (HasChunks t) s.xorbs x e all y (ap (λ (k : MerkleHash). xorb_of t k) same ∙ f)

  files_from : FilesAgree s t → (h : MerkleHash) → IsSome (file_of s h) → IsSome (file_of t h) → bytes_of s h ≡ bytes_of t h
  files_from all h = go (file_of s h) (file_of t h) refl refl
    where
      go : (o r : Option StoredFile) → file_of s h ≡ o → file_of t h ≡ r → IsSome o → IsSome r → bytes_of s h ≡ bytes_of t h
      go (Some f) (Some g) e k a b =
          let p = λ (z : StoredFile). hash_eq z.hash h in
          let same : f.hash ≡ h = hash_eq-true f.hash h (found_passes p s.files f e) in
          bytes_found s h f e
          ∙ found_all p (HasBytes s t) s.files f e all g (ap (λ (j : MerkleHash). file_of t j) same ∙ k)
          ∙ sym (bytes_found t h g k)
      go None r e k a b = absurd (false≢true a)
      go (Some f) None e k a b = absurd (false≢true b)

  pub agree_from : XorbsAgree s t → FilesAgree s t → Agree s t
  agree_from xorbs files = record { xorbs = xorbs_from xorbs; files = files_from files }

  pub xorbs_of_agree : IsValid s → Agree s t → XorbsAgree s t
  xorbs_of_agree valid agree =
      λ k d l y e. agree.xorbs (get_or s.xorbs k d).hash (get_or s.xorbs k d) y
      (found_own (λ (x : Xorb). x.hash) s.xorbs valid.xorbs_differ k d l) e

  pub files_of_agree : IsValid s → Agree s t → FilesAgree s t
  files_of_agree valid agree =
      λ k d l g e.
      let f = get_or s.files k d in
      let own : file_of s f.hash ≡ Some f = found_own (λ (x : StoredFile). x.hash) s.files valid.files_differ k d l in
      sym (bytes_found s f.hash f own) ∙ agree.files f.hash (some own) (some e) ∙ bytes_found t f.hash g e
    where
      some : {o : Option StoredFile} {f : StoredFile} → o ≡ Some f → IsSome o
      some e = ap is_some e

-- a file of a valid store has fewer than 2^64 bytes
pub short_at : (s : Store) → IsValid s → (k : ℕ) (d : StoredFile) → k < length s.files
    → length (bytes_in s (get_or s.files k d).terms) < 2 ^ 64
short_at s valid k d within =
    let f = get_or s.files k d in
    let own : file_of s f.hash ≡ Some f = found_own (λ (x : StoredFile). x.hash) s.files valid.files_differ k d within in
    let short : length (bytes_of s f.hash) < 2 ^ 64 = valid.lengths k d within in
    let same = ap length (bytes_found s f.hash f own) in
    omega (arith, short, same)
