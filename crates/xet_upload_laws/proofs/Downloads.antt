-- The store after a log gives the bytes of each accepted file.
use Rattle.std.proofs.Common.{◌≡◌, ℕ, zero, suc, ◌<◌, Bool, true, false, cond, List, [], ◌∷◌, ◌++◌, length, map, refl, sym, ◌∙◌, ap, subst, arith}
use Rattle.std.specs.Prelude.{All, Contains, IsSome, None, Option, Some, Ok, find, option_map, slice_index_or, slice_range, unwrap_or}
use Rattle.std.specs.List.{concat, flat_map}
use Rattle.std.specs.Option.{option_or}
use Rattle.std.proofs.lemmas.Bool.{false≢true, true≢false}
use Rattle.std.proofs.lemmas.List.Elements.{All-contains, All-head, All-tail, Contains-append_left, Contains-append_right}
use Rattle.std.proofs.lemmas.Option.{none-some, same_Some}
use Rattle.xet_base.specs.declared.mdb_shard.MDBFileInfo.{MDBFileInfo}
use Rattle.xet_base.specs.declared.mdb_shard.ShardRecord.{ShardRecord}
use Rattle.xet_base.specs.declared.mdb_shard.Xorb.{Xorb}
use Rattle.xet_base.specs.declared.merklehash.MerkleHash.{MerkleHash}
use Rattle.xet_base.specs.declared.stored.StoredFile.{StoredFile}
use Rattle.xet_base.specs.declared.stored.StoredTerm.{StoredTerm}
use Rattle.xet_base.specs.Hashes.{hash_eq}
use Rattle.xet_base.specs.Store.{IsTermIn, IsValid, Store, bytes_of, chunks_of_file, chunks_of_term, file_of, xorb_of}
use Rattle.xet_base.proofs.CallerLemmas.{eq-hash_eq, hash_eq-true}
use Rattle.xet_uploader.specs.declared.uploader.Put.{Put}
use Rattle.xet_uploader.specs.declared.uploader.Put.TheVariants as put
use Rattle.xet_uploader.specs.StoresAfter.{file_of_record, files_in, store_after}
use Rattle.xet_uploader.specs.Uploads.{xorbs_in}
use Rattle.xet_uploader.proofs.CallerLemmas.{after_finds_files, after_finds_xorbs}
use Rattle.xet_upload.specs.Standing.{StandsFor, world}
use Rattle.xet_upload.proofs.CallerLemmas.{resolved}
use Rattle.xet_upload_session.specs.Sessions.{log_of}
use Rattle.xet_clean_parts.proofs.CallerLemmas.{Contains-cons, Contains-head, Contains-map}
use Rattle.xet_clean.specs.Records.{CleanedFile, IsAccepted}
use Rattle.xet_clean.proofs.CallerLemmas.{end-accepts}
use Rattle.xet_upload_laws.specs.Clashes.{FileHashesAgree, chunks_of_record, known_files}
use Rattle.xet_upload_laws.specs.Downloads.{AcceptedDownload}
use Rattle.xet_upload_laws.specs.RecordsStand.{AreRecords, IsRecord}
use Rattle.xet_upload_laws.proofs.Ends.{end-stood}
use Rattle.xet_upload_laws.proofs.Stores.{finds-world}

-- ---- records in a log

-- a file record of a shard of the log is among those of the log
in-log : (log : List Put) (s : ShardRecord) (a : MDBFileInfo) → Contains log (put.Shard s) → Contains s.files a
    → Contains (files_in log) a
in-log [] s a c d = absurd (let lt = c.1 in omega arith)
in-log (p ∷ ps) s a c d = go c.0 c.1 c.2 (λ e. in-log ps s a e d)
  where
    more : (q : Put) → Contains (files_in ps) a → Contains (files_in (q ∷ ps)) a
    more (put.Xorb x) e = e
    more (put.Shard r) e = Contains-append_right r.files (files_in ps) a e

    here : (q : Put) → q ≡ put.Shard s → Contains (files_in (q ∷ ps)) a
    here q e = subst (λ (z : Put). Contains (files_in (z ∷ ps)) a) (sym e)
        (Contains-append_left s.files (files_in ps) a d)

    go : (i : ℕ) → i < suc (length ps) → slice_index_or (p ∷ ps) i (put.Shard s) ≡ put.Shard s
        → (Contains ps (put.Shard s) → Contains (files_in ps) a) → Contains (files_in (p ∷ ps)) a
    go zero lt is next = here p is
    go (suc i) lt is next = more p (next (i, omega arith, is))

-- the first record of this hash
record FirstOf (fs : List MDBFileInfo) (h : MerkleHash) : Type 0 where
  info : MDBFileInfo
  found : find (λ (r : MDBFileInfo). hash_eq r.hash h) fs ≡ Some info
  is_there : Contains fs info
  hash : info.hash ≡ h

-- there is one, where a record has the hash
first-of : (fs : List MDBFileInfo) (h : MerkleHash) (r : MDBFileInfo) → Contains fs r → r.hash ≡ h → FirstOf fs h
first-of [] h r c e = absurd (let lt = c.1 in omega arith)
first-of (f ∷ fs) h r c e = go (hash_eq f.hash h) refl (λ d. first-of fs h r d e)
  where
    rest : Option MDBFileInfo
    rest = find (λ (z : MDBFileInfo). hash_eq z.hash h) fs

    later : (i : ℕ) → hash_eq f.hash h ≡ false → i < suc (length fs) → slice_index_or (f ∷ fs) i r ≡ r → Contains fs r
    later zero q lt is = absurd (true≢false (sym (eq-hash_eq f.hash h (ap (λ (z : MDBFileInfo). z.hash) is ∙ e)) ∙ q))
    later (suc i) q lt is = (i, omega arith, is)

    go : (b : Bool) → hash_eq f.hash h ≡ b → (Contains fs r → FirstOf fs h) → FirstOf (f ∷ fs) h
    go true q next = record {
      info = f;
      found = ap (λ (b : Bool). cond b (Some f) rest) q;
      is_there = Contains-head f fs;
      hash = hash_eq-true f.hash h q;
    }
    go false q next =
        let one = next (later c.0 q c.1 c.2) in
        record {
          info = one.info;
          found = ap (λ (b : Bool). cond b (Some f) rest) q ∙ one.found;
          is_there = Contains-cons f fs one.info one.is_there;
          hash = one.hash;
        }

-- a file that is found has the hash, and is there
found-file : (fs : List StoredFile) (h : MerkleHash) (g : StoredFile)
    → find (λ (z : StoredFile). hash_eq z.hash h) fs ≡ Some g → Contains fs g × (g.hash ≡ h)
found-file [] h g e = absurd (none-some g e)
found-file (f ∷ fs) h g e = go (hash_eq f.hash h) refl e (λ q. found-file fs h g q)
  where
    rest : Option StoredFile
    rest = find (λ (z : StoredFile). hash_eq z.hash h) fs

    go : (b : Bool) → hash_eq f.hash h ≡ b → cond b (Some f) rest ≡ Some g
        → (rest ≡ Some g → Contains fs g × (g.hash ≡ h)) → Contains (f ∷ fs) g × (g.hash ≡ h)
    go true q r next = subst (λ (z : StoredFile). Contains (f ∷ fs) z × (z.hash ≡ h)) (same_Some f g r)
        (Contains-head f fs, hash_eq-true f.hash h q)
    go false q r next = let one = next r in (Contains-cons f fs g one.0, one.1)

-- ---- files that the store had before

module _ (k s : Store) (log : List Put) (after : store_after k log ≡ Some s) where
  or-some : {A : Type 0} (o p : Option A) → IsSome o → option_or o p ≡ o
  or-some None p t = absurd (false≢true t)
  or-some (Some x) p t = refl

  -- a term names the same chunks as before
  term-still : (t : StoredTerm) → IsTermIn k t → chunks_of_term s t ≡ chunks_of_term k t
  term-still t inside =
      let found = find (λ (x : Xorb). hash_eq x.hash t.xorb) (xorbs_in log) in
      let same = after_finds_xorbs k s log t.xorb after ∙ or-some (xorb_of k t.xorb) found inside.stored in
      ap (λ (o : Option Xorb). slice_range (unwrap_or (option_map (λ (x : Xorb). x.chunks) o) []) t.from t.to) same

  terms-still : (ts : List StoredTerm) → All (IsTermIn k) ts
      → flat_map (chunks_of_term s) ts ≡ flat_map (chunks_of_term k) ts
  terms-still [] a = refl
  terms-still (t ∷ ts) a =
      let one = term-still t (All-head (IsTermIn k) t ts a) in
      let more = terms-still ts (All-tail (IsTermIn k) t ts a) in
      ap (λ (cs : List (List ℕ)). cs ++ flat_map (chunks_of_term s) ts) one
      ∙ ap (λ (cs : List (List ℕ)). chunks_of_term k t ++ cs) more

  -- what a found file's terms name
  file-chunks : (t : Store) (h : MerkleHash) (g : StoredFile) → file_of t h ≡ Some g
      → chunks_of_file t h ≡ flat_map (chunks_of_term t) g.terms
  file-chunks t h g e =
      ap (λ (o : Option StoredFile). flat_map (chunks_of_term t) (unwrap_or (option_map (λ (x : StoredFile). x.terms) o)
      [])) e

  file-still : IsValid k → (h : MerkleHash) (g : StoredFile) → file_of k h ≡ Some g
      → chunks_of_file s h ≡ chunks_of_file k h
  file-still valid h g e =
      let there = (found-file k.files h g e).0 in
      let rest = option_map file_of_record (find (λ (r : MDBFileInfo). hash_eq r.hash h) (files_in log)) in
      let now : file_of s h ≡ Some g = after_finds_files k s log h after
      ∙ ap (λ (o : Option StoredFile). option_or o rest) e in
      let terms = All-contains (λ (f : StoredFile). All (IsTermIn k) f.terms) k.files g valid.terms there in
      file-chunks s h g now ∙ terms-still g.terms terms ∙ sym (file-chunks k h g e)

-- ---- an accepted file

module _ (k s : Store) (log : List Put) (f : CleanedFile) (after : store_after k log ≡ Some s) (valid : IsValid k)
    (logged : AreRecords (world k log) (files_in log)) (agree : FileHashesAgree (known_files k log)) (a : IsAccepted k log f) where
  abbrev info : MDBFileInfo
  info = a.recorded.info

  there : Contains (files_in log) info
  there = in-log log a.shard info a.is_there a.recorded.is_there

  -- a record of the log with its chunks
  abbrev by-record : MDBFileInfo → MerkleHash × List (List ℕ)
  by-record r = (r.hash, chunks_of_record (world k log) r)

  abbrev by-file : StoredFile → MerkleHash × List (List ℕ)
  by-file g = (g.hash, chunks_of_file k g.hash)

  record-known : (r : MDBFileInfo) → Contains (files_in log) r → Contains (known_files k log) (by-record r)
  record-known r c = Contains-append_right (map by-file k.files) (map by-record (files_in log)) (by-record r)
      (Contains-map by-record (files_in log) r c)

  file-known : (g : StoredFile) → Contains k.files g → Contains (known_files k log) (by-file g)
  file-known g c = Contains-append_left (map by-file k.files) (map by-record (files_in log)) (by-file g)
      (Contains-map by-file k.files g c)

  own : concat (chunks_of_record (world k log) info) ≡ f.bytes
  own = ap concat a.recorded.stand.joined ∙ sym a.recorded.has.bytes

  first : FirstOf (files_in log) f.hash
  first = first-of (files_in log) f.hash info there a.recorded.hash

  -- the first record of the hash is the log's
  new-found : file_of k f.hash ≡ None → file_of s f.hash ≡ Some (file_of_record first.info)
  new-found none =
      let rest = option_map file_of_record (find (λ (z : MDBFileInfo). hash_eq z.hash f.hash) (files_in log)) in
      after_finds_files k s log f.hash after ∙ ap (λ (o : Option StoredFile). option_or o rest) none
      ∙ ap (option_map file_of_record) first.found

  new-bytes : file_of k f.hash ≡ None → bytes_of s f.hash ≡ f.bytes
  new-bytes none =
      let r = first.info in
      let q = All-contains (IsRecord (world k log)) (files_in log) r logged first.is_there in
      let found = new-found none in
      let stands : StandsFor (world k log) r.entries (concat q.chunks) = record {
        chunks = q.chunks;
        stand = q.stand;
        bytes_are = refl;
      } in
      let bytes = resolved (world k log) s r (concat q.chunks) stands (λ h e. finds-world k s log after h)
      (subst (λ (h : MerkleHash). file_of s h ≡ Some (file_of_record r)) (sym first.hash) found) in
      let same = agree (by-record r) (by-record info) (record-known r first.is_there) (record-known info there)
      (first.hash ∙ sym a.recorded.hash) in
      subst (λ (h : MerkleHash). bytes_of s h ≡ concat q.chunks) first.hash bytes
      ∙ ap concat (sym q.stand.joined ∙ same) ∙ own

  -- the store had a file of the hash
  old-bytes : (g : StoredFile) → file_of k f.hash ≡ Some g → bytes_of s f.hash ≡ f.bytes
  old-bytes g e =
      let found = found-file k.files f.hash g e in
      let same = agree (by-file g) (by-record info) (file-known g found.0) (record-known info there)
      (found.1 ∙ sym a.recorded.hash) in
      ap concat (file-still k s log after valid f.hash g e
      ∙ subst (λ (h : MerkleHash). chunks_of_file k h ≡ chunks_of_record (world k log) info) found.1 same) ∙ own

  pub accepted-bytes : bytes_of s f.hash ≡ f.bytes
  accepted-bytes = go (file_of k f.hash) refl
    where
      go : (o : Option StoredFile) → file_of k f.hash ≡ o → bytes_of s f.hash ≡ f.bytes
      go None e = new-bytes e
      go (Some g) e = old-bytes g e

  old-found : (g : StoredFile) → file_of k f.hash ≡ Some g → file_of s f.hash ≡ Some g
  old-found g e =
      let rest = option_map file_of_record (find (λ (z : MDBFileInfo). hash_eq z.hash f.hash) (files_in log)) in
      after_finds_files k s log f.hash after ∙ ap (λ (o : Option StoredFile). option_or o rest) e

  pub accepted-stored : IsSome (file_of s f.hash)
  accepted-stored = go (file_of k f.hash) refl
    where
      go : (o : Option StoredFile) → file_of k f.hash ≡ o → IsSome (file_of s f.hash)
      go None e = subst (λ (p : Option StoredFile). IsSome p) (sym (new-found e)) refl
      go (Some g) e = subst (λ (p : Option StoredFile). IsSome p) (sym (old-found g e)) refl

pub accepted-download : {A : Type 0} → AcceptedDownload A
accepted-download k b n now ended f range z dry s a valid clash r =
    let after = end-stood k b n now (Ok ended) z s clash.xorbs a in
    let accepted = end-accepts k b n now ended f z s dry clash.xorbs r in
    let bytes = accepted-bytes k after.stored.store (log_of n) f after.stored.after valid after.logged clash.files
    accepted in
    record {
      has = after.stored;
      stored = accepted-stored k after.stored.store (log_of n) f after.stored.after valid after.logged clash.files
          accepted;
      window = ap (λ (bs : List ℕ). slice_range bs range.start range.end) bytes;
    }
