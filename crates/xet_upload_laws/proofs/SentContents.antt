-- What a content that was sent leaves.
use Rattle.std.proofs.Common.{◌≡◌, ℕ, zero, suc, ◌<◌, ◌≤◌, ◌^◌, ◌⊎◌, inl, inr, Bool, true, false, List, [], ◌∷◌, ◌++◌, length, map, refl, sym, ◌∙◌, ap, subst, arith}
use Rattle.std.specs.Prelude.{All, Contains, IfOk, IfSome, IsSome, None, Option, Some, Ok, Result, Err, cond, find, option_map, slice_index_or, slice_range}
use Rattle.std.specs.List.{concat}
use Rattle.std.proofs.lemmas.List.{append-nil, append_assoc, length-append, length-map}
use Rattle.std.proofs.lemmas.List.Elements.{All-cons, All-contains, All-contains_itself, All-head, All-nil, All-tail, Contains-append_cases, Contains-append_left, Contains-append_right, Contains-push_cases}
use Rattle.std.proofs.lemmas.Option.{none-some, same_Some}
use Rattle.xet_base.specs.declared.cas_types.FileRange.{FileRange}
use Rattle.xet_base.specs.declared.mdb_shard.MDBFileInfo.{MDBFileInfo}
use Rattle.xet_base.specs.declared.mdb_shard.ShardRecord.{ShardRecord}
use Rattle.xet_base.specs.declared.mdb_shard.Xorb.{Xorb}
use Rattle.xet_base.specs.declared.merklehash.MerkleHash.{MerkleHash}
use Rattle.xet_base.specs.Digests.{file_hash_of, infos_of}
use Rattle.xet_base.specs.Hashes.{hash_eq}
use Rattle.xet_base.specs.Store.{IsValid, Store, file_of, window, xorb_of}
use Rattle.xet_outside.specs.Told.{SourceTold}
use Rattle.xet_outside.specs.declared.client.ClientError.{ClientError}
use Rattle.xet_pointer.specs.declared.xet_file_info.XetFileInfo.{XetFileInfo}
use Rattle.xet_uploader.specs.declared.uploader.Put.{Put}
use Rattle.xet_uploader.specs.declared.uploader.Put.TheVariants as put
use Rattle.xet_uploader.specs.StoresAfter.{files_in, store_after}
use Rattle.xet_uploader.specs.Uploads.{UploaderTold, xorbs_in}
use Rattle.xet_shards.specs.Shards.{ShardsTold}
use Rattle.xet_uploader.proofs.CallerLemmas.{after_finds_xorbs, xorbs_in-append}
use Rattle.xet_shard_interface.specs.declared.shard_interface.ShardRules.{ShardRules}
use Rattle.xet_shard_interface.specs.Interfaces.{InterfaceTold, records_of}
use Rattle.xet_shard_interface.specs.Puts.{shards_of}
use Rattle.xet_shard_interface.proofs.CallerLemmas.{files-in, files_of}
use Rattle.xet_upload.specs.DataErrors.{of_client_error}
use Rattle.xet_upload.specs.declared.data_error.DataError.{DataError}
use Rattle.xet_upload.specs.Standing.{IsRecordIn, world}
use Rattle.xet_upload.specs.Waitings.{IsWithin, record_of_file}
use Rattle.xet_upload.specs.declared.metrics.DeduplicationMetrics.{DeduplicationMetrics}
use Rattle.xet_waiting.specs.Limits.{most_chunk_bytes}
use Rattle.xet_upload_session.specs.Calls.{Cut, CutPut, CutRepeated, CutStill, EndsSo, EndsUncut, Finalizes, as_finalized, finalized_error, waiting_hash, waiting_records}
use Rattle.xet_upload_session.specs.Puts.{made_of}
use Rattle.xet_upload_session.specs.Sessions.{HasListed, SessionTold, Tells, log_of}
use Rattle.xet_upload_session.proofs.CallerLemmas.{new-backed}
use Rattle.xet_clean_parts.specs.Made.{GrewInTurn, IsLast, PutsMade, PutsToEnd}
use Rattle.xet_clean_parts.specs.Places.{CutFile, Telling}
use Rattle.xet_clean_parts.specs.Pointers.{pointer_to, recorded_sha256}
use Rattle.xet_clean_parts.specs.Premises.{HashesAgree, IsOpen, IsSteady, NoClash, waiting_xorb}
use Rattle.xet_clean_parts.proofs.CallerLemmas.{fixed-cuts-file, grew-both, grew-cut, grew-moved, ok-err, turns-all}
use Rattle.xet_clean.specs.Records.{HasRecord}
use Rattle.xet_upload_files.specs.Uploads.{EndsUploads, FileTold, IsUpload, Upload, UploadsFiles, all_chunks, recorded_file, upload_pointer}
use Rattle.xet_upload_laws.specs.AllStand.{AllStand}
use Rattle.xet_upload_laws.specs.Clashes.{FileHashesAgree, HashedFile, PartsAgree, chunks_of_record, known_files}
use Rattle.xet_upload_laws.specs.Downloads.{Downloads}
use Rattle.xet_upload_laws.specs.RecordsStand.{IsRecord}
use Rattle.xet_upload_laws.specs.Sending.{AreMade, Clashes, HasAfter, IsContent, IsSafe, Sends, UploadsAll, UploadsOne, content_file, content_pointer, empty_shards, empty_stores, empty_uploader, memory_session, no_store, store_of}
use Rattle.xet_upload_laws.proofs.Cuts.{GrewByOne, cut-log, hashes-before}
use Rattle.xet_upload_laws.proofs.Downloads.{accepted-download}
use Rattle.xet_upload_laws.proofs.FileCounts.{file_count, upload-count}
use Rattle.xet_upload_laws.proofs.Records.{files_in-append, files_in-shards, files_in-xorbs}
use Rattle.xet_upload_laws.proofs.Standing.{upload-stands}
use Rattle.xet_upload_laws.proofs.Steps.{new-stands}
use Rattle.xet_upload_laws.proofs.Uploads.{part-of-cut, steady-kept}

-- ---- a new session over nothing

new-tells : Tells memory_session
new-tells = record { puts = refl; shards = record { resumed = tt; session = refl; cache = refl; staging = refl } }

new-listed : HasListed memory_session
new-listed = record {
  all = λ f u. record {
    finished = All-nil (Contains []);
    waiting = All-nil (Contains []);
    put = All-nil (Contains []);
  };
  waits = record { some = All-nil (λ (c : List ℕ). 0 < length c); within = (omega arith, omega arith) };
}

new-steady : IsSteady no_store memory_session
new-steady = record {
  tells = new-tells;
  backed = new-backed memory_session refl refl;
  listed = new-listed;
  sound = All-nil (IsRecordIn no_store);
}

none-valid : IsValid no_store
none-valid = record {
  xorbs_differ = λ i j d p q. absurd (omega (arith, q));
  files_differ = λ i j d p q. absurd (omega (arith, q));
  xorbs = All-nil _;
  terms = All-nil _;
  lengths = All-nil _;
}

new-all-stand : AllStand no_store memory_session
new-all-stand = new-stands no_store _ _ false _ (record { store = no_store; after = refl; valid = none-valid })
    (All-nil (IsRecord no_store)) (All-nil (IsRecord no_store))

-- ---- lists

-- no files have hashes that clash
no-files : FileHashesAgree []
no-files x y c d e = absurd (let lt = c.1 in omega (arith, lt))

xorbs_in-map : (xs : List Xorb) → xorbs_in (map put.Xorb xs) ≡ xs
xorbs_in-map [] = refl
xorbs_in-map (x ∷ xs) = ap (λ (ys : List Xorb). x ∷ ys) (xorbs_in-map xs)

xorbs_in-shards : (ss : List ShardRecord) → xorbs_in (map put.Shard ss) ≡ []
xorbs_in-shards [] = refl
xorbs_in-shards (s ∷ ss) = xorbs_in-shards ss

-- what is found among some has what all of them have
find-all : {A : Type 0} (P : A → Type 0) (p : A → Bool) (xs : List A) → All P xs → IfSome (find p xs) P
find-all P p [] a = tt
find-all P p (x ∷ xs) a = go (p x) (find-all P p xs (All-tail P x xs a))
  where
    go : (b : Bool) → IfSome (find p xs) P → IfSome (cond b (Some x) (find p xs)) P
    go true r = All-head P x xs a
    go false r = r

-- a list of one at most has one member at most
few-same : {A : Type 0} (xs : List A) (x y : A) → length xs ≤ 1 → Contains xs x → Contains xs y → x ≡ y
few-same [] x y few c d = absurd (let lt = c.1 in omega arith)
few-same (z ∷ []) x y few c d = sym (only x c.0 c.1 c.2) ∙ only y d.0 d.1 d.2
  where
    only : (w : _) (i : ℕ) → i < 1 → slice_index_or (z ∷ []) i w ≡ w → z ≡ w
    only w zero lt e = e
    only w (suc i) lt e = absurd (omega (arith, lt))
few-same (z ∷ v ∷ xs) x y few c d = absurd (omega (arith, few))

-- the only upload
record OneUpload (f : FileTold) (done : List Upload) : Type 0 where
  it : Upload
  are : done ≡ it ∷ []
  file : it.file ≡ f

one-upload : (f : FileTold) (done : List Upload) → f ∷ [] ≡ map (λ (u : Upload). u.file) done → OneUpload f done
one-upload f [] e = absurd (let size = ap length e in omega arith)
one-upload f (u ∷ []) e = record { it = u; are = refl; file = sym (let both : f ∷ [] ≡ u.file ∷ [] = e in cc) }
one-upload f (u ∷ v ∷ us) e = absurd (
    let size = ap length e in
    let more = length-map us (λ (w : Upload). w.file) in
    omega arith)

came-of : (l m : Option (List ℕ)) (bytes : List ℕ) → l ≡ option_map (λ (rest : List ℕ). bytes ++ rest) m
    → IfSome l (λ (left : List ℕ). (rest : List ℕ) × (left ≡ bytes ++ rest))
came-of l None bytes e =
    subst (λ (o : Option (List ℕ)). IfSome o (λ (left : List ℕ). (rest : List ℕ) × (left ≡ bytes ++ rest))) (sym e) tt
came-of l (Some r) bytes e =
    subst (λ (o : Option (List ℕ)). IfSome o (λ (left : List ℕ). (rest : List ℕ) × (left ≡ bytes ++ rest))) (sym e)
    (r, refl)

-- ---- what the session's end adds

-- one more xorb was told as repeated, or none
abbrev RepeatedOne : SessionTold → SessionTold → Type 0
RepeatedOne b m = (m.repeated ≡ b.repeated) ⊎ (m.repeated ≡ b.repeated ++ waiting_xorb b ∷ [])

cut-repeated : (b m : SessionTold) (now : ℕ) → Cut b m now (Ok tt) → RepeatedOne b m
cut-repeated b m now c = go c.ok
  where
    still : CutStill b m → RepeatedOne b m
    still s = reasons s.reason
      where
        reasons : ((b.waiting.chunks ≡ []) × (m.repeated ≡ b.repeated)) ⊎ CutRepeated b m → RepeatedOne b m
        reasons (inl e) = inl e.1
        reasons (inr e) = inr e.told

    go : CutStill b m ⊎ CutPut b m now (Ok tt) → RepeatedOne b m
    go (inl s) = still s
    go (inr p) = inl (ap (λ (t : SessionTold). t.repeated) p.put.same)

-- the xorbs that are told of a session, put or not put again
abbrev told_xorbs : SessionTold → List Xorb
told_xorbs t = xorbs_in (log_of t) ++ t.repeated

module _ (b n : SessionTold) (counts : DeduplicationMetrics) (z : Finalizes b n 0 (Ok counts)) (tells : Tells b)
    (live : b.shards.rules.dry_run ≡ false) where
  -- it was open
  first : b.finalized ≡ false
  first = go b.finalized refl
    where
      go : (x : Bool) → b.finalized ≡ x → b.finalized ≡ false
      go false e = e
      go true e = let q = z.again e in ok-err counts finalized_error q.0

  unfailed_before : b.failed ≡ None
  unfailed_before = go b.failed refl
    where
      go : (x : Option ClientError) → b.failed ≡ x → b.failed ≡ None
      go None e = e
      go (Some x) e = ok-err counts (of_client_error x) (z.refused first x e)

  was_open : IsOpen b
  was_open = record { unfailed = unfailed_before; unfinished = first }

  -- what waits was cut, and then the records were put
  by-cut : EndsSo b n 0 (Ok counts)
  by-cut = go (z.ends first)
    where
      go : EndsUncut b n 0 (Ok counts) ⊎ EndsSo b n 0 (Ok counts) → EndsSo b n 0 (Ok counts)
      go (inl e) = ok-err counts e.0 e.1
      go (inr e) = e

  abbrev middle : SessionTold
  middle = by-cut.0

  begun : Tells (as_finalized b)
  begun = record { puts = tells.puts; shards = tells.shards }

  abbrev shards : List ShardRecord
  shards = shards_of n.shards

  grown : log_of n ≡ log_of middle ++ map put.Shard shards
  grown = (by-cut.2.all (by-cut.1.keeps.tells begun) (ap (λ (x : ShardRules). x.dry_run) by-cut.1.keeps.rules
      ∙ live)).0

  xorbs-same : xorbs_in (log_of n) ≡ xorbs_in (log_of middle)
  xorbs-same = ap xorbs_in grown ∙ xorbs_in-append (log_of middle) (map put.Shard shards)
      ∙ ap (λ (xs : List Xorb). xorbs_in (log_of middle) ++ xs) (xorbs_in-shards shards)
      ∙ append-nil (xorbs_in (log_of middle))

  -- each told xorb was told before, or is that of what waited
  told-before : (x : Xorb) → Contains (told_xorbs n) x → Contains (told_xorbs b) x ⊎ (x ≡ waiting_xorb b)
  told-before x c = go (Contains-append_cases (xorbs_in (log_of n)) n.repeated x c)
    where
      w : Xorb
      w = waiting_xorb b

      put-before : GrewByOne b middle w → Contains (xorbs_in (log_of middle)) x
          → Contains (told_xorbs b) x ⊎ (x ≡ w)
      put-before (inl e) d = inl (Contains-append_left (xorbs_in (log_of b)) b.repeated x
          (subst (λ (ps : List Put). Contains (xorbs_in ps) x) e d))
      put-before (inr e) d = last (Contains-push_cases (xorbs_in (log_of b)) w x
          (subst (λ (xs : List Xorb). Contains xs x) (ap xorbs_in e ∙ xorbs_in-append (log_of b) (put.Xorb w ∷ [])) d))
        where
          last : Contains (xorbs_in (log_of b)) x ⊎ (w ≡ x) → Contains (told_xorbs b) x ⊎ (x ≡ w)
          last (inl q) = inl (Contains-append_left (xorbs_in (log_of b)) b.repeated x q)
          last (inr q) = inr (sym q)

      repeated-before : RepeatedOne b middle → Contains middle.repeated x → Contains (told_xorbs b) x ⊎ (x ≡ w)
      repeated-before (inl e) d = inl (Contains-append_right (xorbs_in (log_of b)) b.repeated x
          (subst (λ (xs : List Xorb). Contains xs x) e d))
      repeated-before (inr e) d = last (Contains-push_cases b.repeated w x (subst (λ (xs : List Xorb). Contains xs x) e d))
        where
          last : Contains b.repeated x ⊎ (w ≡ x) → Contains (told_xorbs b) x ⊎ (x ≡ w)
          last (inl q) = inl (Contains-append_right (xorbs_in (log_of b)) b.repeated x q)
          last (inr q) = inr (sym q)

      go : Contains (xorbs_in (log_of n)) x ⊎ Contains n.repeated x → Contains (told_xorbs b) x ⊎ (x ≡ w)
      go (inl d) = put-before (cut-log (as_finalized b) middle 0 (Ok tt) begun by-cut.1)
          (subst (λ (xs : List Xorb). Contains xs x) xorbs-same d)
      go (inr d) = repeated-before (cut-repeated (as_finalized b) middle 0 by-cut.1)
          (subst (λ (xs : List Xorb). Contains xs x) (ap (λ (t : SessionTold). t.repeated) by-cut.2.same) d)

  -- what was made before, and in the cut
  made-cut : (made : List Xorb) → GrewInTurn memory_session b made
      → GrewInTurn memory_session middle (made ++ made_of b.waiting.chunks)
  made-cut made g = grew-both memory_session b middle made (made_of b.waiting.chunks) g
      (grew-moved b (as_finalized b) middle middle (made_of b.waiting.chunks) refl refl refl refl
      (grew-cut (as_finalized b) middle 0 tt by-cut.1 begun))

  -- each xorb that is put is one of the made ones
  put-made : (made : List Xorb) → GrewInTurn memory_session middle made → All (Contains made) (xorbs_in (log_of n))
  put-made made g = subst (λ (xs : List Xorb). All (Contains made) xs) (sym put) both.0
    where
      both : All (Contains made) g.xorbs × All (Contains made) g.again
      both = turns-all (Contains made) g.xorbs g.again made g.turns (All-contains_itself made)

      put : xorbs_in (log_of n) ≡ g.xorbs
      put = xorbs-same ∙ ap xorbs_in g.grown ∙ xorbs_in-map g.xorbs

  -- each told xorb is one of the made ones
  told-made : (made : List Xorb) → GrewInTurn memory_session middle made → (x : Xorb) → Contains (told_xorbs n) x
      → Contains made x
  told-made made g x c = go (Contains-append_cases (xorbs_in (log_of n)) n.repeated x c)
    where
      both : All (Contains made) g.xorbs × All (Contains made) g.again
      both = turns-all (Contains made) g.xorbs g.again made g.turns (All-contains_itself made)

      put : xorbs_in (log_of n) ≡ g.xorbs
      put = xorbs-same ∙ ap xorbs_in g.grown ∙ xorbs_in-map g.xorbs

      again : n.repeated ≡ g.again
      again = ap (λ (t : SessionTold). t.repeated) by-cut.2.same ∙ g.repeated

      go : Contains (xorbs_in (log_of n)) x ⊎ Contains n.repeated x → Contains made x
      go (inl d) = All-contains (Contains made) g.xorbs x both.0 (subst (λ (xs : List Xorb). Contains xs x) put d)
      go (inr d) = All-contains (Contains made) g.again x both.1 (subst (λ (xs : List Xorb). Contains xs x) again d)

  hashes-begun : (k : Store) → HashesAgree k n → HashesAgree k b
  hashes-begun k a =
      let g = z.grew tells in
      hashes-before k b n (map put.Xorb g.xorbs ++ map put.Shard g.shards) z.repeated.0 g.grown z.repeated.1 a

  -- how many file records the log has
  files-many : files_in (log_of b) ≡ [] → (records_of b.shards.session).files ≡ []
      → length (files_in (log_of n)) ≡ file_count b
  files-many none empty =
      let g = by-cut.1.keeps.grew begun in
      let before : files_in (log_of middle) ≡ [] = ap files_in g.grown ∙ files_in-append (log_of b) (map put.Xorb g.xorbs)
      ∙ ap (λ (fs : List MDBFileInfo). fs ++ files_in (map put.Xorb g.xorbs)) none ∙ files_in-xorbs g.xorbs in
      let all : files_in (log_of n) ≡ files_of shards = ap files_in grown
      ∙ files_in-append (log_of middle) (map put.Shard shards)
      ∙ ap (λ (fs : List MDBFileInfo). fs ++ files_in (map put.Shard shards)) before ∙ files_in-shards shards in
      let records = ap length (all ∙ files-in n.shards.rules.shard_max_target_size (records_of n.shards.session)
      ∙ z.recorded tells) in
      let both = length-append (records_of b.shards.session).files n.finished in
      let empty_size = ap length empty in
      let finished = ap length z.finished in
      let parts = length-append b.finished (waiting_records b) in
      let waiting = length-map b.waiting.files (record_of_file (waiting_hash b)) in
      omega arith

-- ---- the content

module _ (source : SourceTold) (size chunk : ℕ) (some : 0 < chunk) (most : chunk ≤ most_chunk_bytes)
    (info : XetFileInfo) (b : SessionTold)
    (u : UploadsOne memory_session b (content_file source size chunk) info) where
  abbrev f : FileTold
  f = content_file source size chunk

  abbrev c : UploadsFiles 0 memory_session b (f ∷ []) u.after (Ok (info ∷ []))
  c = u.uploads

  one : OneUpload f c.done
  one = one-upload f c.done c.all

  abbrev it : Upload
  it = one.it

  is : IsUpload it
  is = All-head IsUpload it [] (subst (λ (us : List Upload). All IsUpload us) one.are c.has.are)

  size_is : it.file.size ≡ size
  size_is = ap (λ (g : FileTold). g.size) one.file

  content : IsContent source size chunk it.bytes it.chunks
  content = record {
    came = came-of source.left it.source.left it.bytes
        (sym (ap (λ (g : FileTold). g.source.left) one.file) ∙ is.taken.left);
    count = is.size ∙ size_is;
    cut = fixed-cuts-file chunk it.bytes it.chunks some most
        (subst (λ (tell : Telling). CutFile tell it.bytes it.chunks) (ap (λ (g : FileTold). g.tell) one.file) is.places);
  }

  pointer : info ≡ content_pointer size it.chunks
  pointer =
      let both : info ∷ [] ≡ map upload_pointer (it ∷ []) = subst (λ (us : List Upload). info ∷ [] ≡ map upload_pointer us)
      one.are c.answers in
      let own : info ≡ upload_pointer it = cc in
      own ∙ ap (λ (g : FileTold). pointer_to it.hash g.size (recorded_sha256 g.policy it.bytes)) one.file
      ∙ ap (λ (h : MerkleHash). pointer_to h size None) is.hash

  -- the chunks that were cut
  cut_are : all_chunks c.done ++ c.last ≡ it.chunks
  cut_are = ap (λ (us : List Upload). all_chunks us ++ c.last) one.are
      ∙ ap (λ (cs : List (List ℕ)). (it.chunks ++ []) ++ cs) c.none ∙ append-nil (it.chunks ++ []) ∙ append-nil it.chunks

  puts : PutsMade memory_session b it.chunks b.waiting.chunks
  puts = subst (λ (cs : List (List ℕ)). PutsMade memory_session b cs b.waiting.chunks) cut_are (c.has.puts new-tells)

  -- xorbs were made in turn, and then what was left of the chunks waits, or became a xorb
  turn : PutsToEnd memory_session b [] it.chunks
  turn = go c.done one.are c.ended
    where
      go : (us : List Upload) → us ≡ it ∷ [] → EndsUploads 0 us memory_session c.reached
          → PutsToEnd memory_session b [] it.chunks
      go us e ends =
          let n = subst (λ (vs : List Upload). EndsUploads 0 vs memory_session c.reached) e ends in
          subst (λ (t : SessionTold). PutsToEnd memory_session t [] it.chunks) (sym (c.no_more ∙ n.3))
          (n.2 new-tells)

  tells : Tells b
  tells = c.has.keeps.tells new-tells

  live : b.shards.rules.dry_run ≡ false
  live = ap (λ (r : ShardRules). r.dry_run) c.has.keeps.rules

  log_is : log_of b ≡ map put.Xorb puts.xorbs
  log_is = puts.grown

  -- nothing was told where all fits one xorb
  none-told : IsWithin it.chunks → (log_of b ≡ []) × (b.repeated ≡ [])
  none-told within = c.has.full (record { bytes = fits.1; count = fits.0; within = fits }) new-tells
    where
      fits : IsWithin (all_chunks c.done ++ c.last)
      fits = subst (λ (cs : List (List ℕ)). IsWithin cs) (sym cut_are) within

  one-file : file_count b ≡ 1
  one-file = go c.done one.are c.ended
    where
      go : (us : List Upload) → us ≡ it ∷ [] → EndsUploads 0 us memory_session c.reached → file_count b ≡ 1
      go us e ends =
          let n = subst (λ (vs : List Upload). EndsUploads 0 vs memory_session c.reached) e ends in
          let many = upload-count 0 memory_session n.0 it.file it.bytes n.1 in
          let last = ap file_count (c.no_more ∙ n.3) in
          omega arith

  -- ---- after the end

  module _ (n : SessionTold) (counts : DeduplicationMetrics) (z : Finalizes b n 0 (Ok counts)) where
    abbrev made : List Xorb
    made = (turn.made ++ turn.last) ++ made_of b.waiting.chunks

    kept : (x : Xorb) → Contains (told_xorbs n) x → Contains made x
    kept x d = told-made b n counts z tells live made (made-cut b n counts z tells live (turn.made ++ turn.last) turn.grew) x
        d

    put-are : All (Contains made) (xorbs_in (log_of n))
    put-are = put-made b n counts z tells live made (made-cut b n counts z tells live (turn.made ++ turn.last) turn.grew)

    are-made : AreMade it.chunks made
    are-made = record { front = turn.made; left = turn.left; so = turn.so; are = ends turn.is_last }
      where
        last-is : turn.last ++ made_of b.waiting.chunks ≡ made_of turn.left → made ≡ turn.made ++ made_of turn.left
        last-is e = append_assoc turn.made turn.last (made_of b.waiting.chunks)
            ∙ ap (λ (xs : List Xorb). turn.made ++ xs) e

        ends : IsLast [] turn.left turn.last b.waiting.chunks → made ≡ turn.made ++ made_of turn.left
        ends (inl e) = last-is (ap (λ (xs : List Xorb). xs ++ made_of b.waiting.chunks) e.0 ∙ ap made_of e.1)
        ends (inr (inl e)) = last-is (ap (λ (xs : List Xorb). xs ++ made_of b.waiting.chunks) e.0
            ∙ ap (λ (cs : List (List ℕ)). made_of turn.left ++ made_of cs) e.1 ∙ append-nil (made_of turn.left))
        ends (inr (inr e)) = last-is (ap (λ (xs : List Xorb). xs ++ made_of b.waiting.chunks) e.0 ∙ ap made_of e.1)

    -- where all fits one xorb, there is no other
    only-waiting : IsWithin it.chunks → (x : Xorb) → Contains (told_xorbs n) x → x ≡ waiting_xorb b
    only-waiting within x q = go (told-before b n counts z tells live x q)
      where
        none : told_xorbs b ≡ []
        none = ap (λ (ps : List Put). xorbs_in ps ++ b.repeated) (none-told within).0 ∙ (none-told within).1

        go : Contains (told_xorbs b) x ⊎ (x ≡ waiting_xorb b) → x ≡ waiting_xorb b
        go (inl r) = absurd (let lt = (subst (λ (xs : List Xorb). Contains xs x) none r).1 in omega (arith, lt))
        go (inr e) = e

    hashes-safe : IsSafe it.chunks made it.bytes → HashesAgree no_store n
    hashes-safe (inl within) = λ x y p q e. ap (λ (v : Xorb). v.chunks) (only-waiting within x p
        ∙ sym (only-waiting within y q))
    hashes-safe (inr a) = λ x y p q e. a.xorbs x y (more x p) (more y q) e
      where
        more : (v : Xorb) → Contains (told_xorbs n) v → Contains ((made ++ []) ++ []) v
        more v d = Contains-append_left (made ++ []) [] v (Contains-append_left made [] v (kept v d))

    parts-safe : IsSafe it.chunks made it.bytes → PartsAgree (world no_store (log_of b)) it.bytes
    parts-safe (inl within) = λ x d front rest there e.
        absurd (let lt = (subst (λ (ps : List Put). Contains (xorbs_in ps) x) (none-told within).0 there).1 in
        omega (arith, lt))
    parts-safe (inr a) = λ x d front rest there e.
        All-head (PartsAgree (world (store_of made) [])) it.bytes [] a.parts x d front rest
        (Contains-append_left made [] x (kept x (grown_told x there))) e
      where
        grown_told : (y : Xorb) → Contains (xorbs_in (log_of b)) y → Contains (told_xorbs n) y
        grown_told y q =
            let g = z.grew tells in
            let more = map put.Xorb g.xorbs ++ map put.Shard g.shards in
            Contains-append_left (xorbs_in (log_of n)) n.repeated y (subst (λ (xs : List Xorb). Contains xs y)
            (sym (ap xorbs_in g.grown ∙ xorbs_in-append (log_of b) more))
            (Contains-append_left (xorbs_in (log_of b)) (xorbs_in more) y q))

    -- one file record has no other of its hash
    files-safe : FileHashesAgree (known_files no_store (log_of n))
    files-safe x y p q e = ap (λ (r : HashedFile). r.1)
        (few-same (known_files no_store (log_of n)) x y few p q)
      where
        few : length (known_files no_store (log_of n)) ≤ 1
        few =
            let size : length (known_files no_store (log_of n)) ≡ length (files_in (log_of n)) = length-map
            (files_in (log_of n)) (λ (r : MDBFileInfo). (r.hash, chunks_of_record (world no_store (log_of n)) r)) in
            let many = files-many b n counts z tells live (ap files_in log_is ∙ files_in-xorbs puts.xorbs)
            c.has.keeps.files in
            let count = one-file in
            omega arith

    -- a size is that of a file, and is told in 64 bits
    module _ (short : size < 2 ^ 64) (safe : IsSafe it.chunks made it.bytes) where
      begun_hashes : HashesAgree no_store b
      begun_hashes = hashes-begun b n counts z tells live no_store (hashes-safe safe)

      few-bytes : length it.bytes < 2 ^ 64
      few-bytes = let e = content.count in omega arith

      stood : AllStand no_store b
      stood = upload-stands no_store memory_session b 0 (f ∷ []) u.after (Ok (info ∷ [])) c new-steady (record {
        xorbs = begun_hashes;
        files = no-files;
        parts = subst (λ (us : List Upload). All (PartsAgree (world no_store (log_of b)))
            (map (λ (v : Upload). v.bytes) us)) (sym one.are) (All-cons (PartsAgree (world no_store (log_of b))) it.bytes
            [] (parts-safe safe) (All-nil (PartsAgree (world no_store (log_of b)))));
      })
          (subst (λ (us : List Upload). All (λ (bs : List ℕ). length bs < 2 ^ 64) (map (λ (v : Upload). v.bytes) us))
          (sym one.are) (All-cons (λ (bs : List ℕ). length bs < 2 ^ 64) it.bytes [] few-bytes
          (All-nil (λ (bs : List ℕ). length bs < 2 ^ 64))))
          new-all-stand

      clash : NoClash no_store b (all_chunks c.done ++ c.last)
      clash = record {
        xorbs = begun_hashes;
        chunks = λ x d there cut.
            let own = subst (λ (cs : List (List ℕ)). Contains cs d) cut_are cut in
            let p = part-of-cut it.chunks d [] own in
            parts-safe safe x d p.front p.rest there (is.bytes ∙ sym (append-nil (concat it.chunks)) ∙ p.is);
      }

      recorded : HasRecord no_store b (recorded_file it)
      recorded = All-head (λ (v : Upload). HasRecord no_store b (recorded_file v)) it []
          (subst (λ (us : List Upload). All (λ (v : Upload). HasRecord no_store b (recorded_file v)) us) one.are
          (c.has.stand no_store new-steady (was_open b n counts z tells live) clash))

      downloads : (range : FileRange) → Downloads no_store (log_of n) (recorded_file it) range
      downloads range = accepted-download no_store b n 0 counts (recorded_file it) range z live
          (steady-kept no_store memory_session b c.has.keeps c.has.backs begun_hashes new-steady) stood none-valid
          (record {
            xorbs = hashes-safe safe;
            files = files-safe;
            parts = All-nil (PartsAgree (world no_store (log_of n)));
          }) recorded

-- ---- the answers

module _ (source : SourceTold) (size chunk : ℕ) (some : 0 < chunk) (most : chunk ≤ most_chunk_bytes)
    (short : size < 2 ^ 64) (info : XetFileInfo) (n : SessionTold)
    (all : UploadsAll memory_session n (content_file source size chunk) info) where
  abbrev b : SessionTold
  b = all.middle

  abbrev u : UploadsOne memory_session b (content_file source size chunk) info
  u = all.one

  abbrev v : Upload
  v = it source size chunk some most info b u

  -- the store that the session's uploader is one to is the empty one
  first-none : (answer : Option Store) (h : HasAfter n answer) → answer ≡ store_after no_store (log_of n)
  first-none answer h =
      let first : Some h.first ≡ Some no_store = sym h.first_is ∙ all.ends.queries.first
      ∙ u.uploads.has.keeps.queries.first in
      h.after ∙ ap (λ (s : Store). store_after s (log_of n)) (same_Some h.first no_store first)

  pub sent : (store : Store) → HasAfter n (Some store) → Sends source size chunk info store
  sent store h = record {
    bytes = v.bytes;
    chunks = v.chunks;
    content = content source size chunk some most info b u;
    pointer = pointer source size chunk some most info b u;
    made = made source size chunk some most info b u n all.counts all.ends;
    are = are-made source size chunk some most info b u n all.counts all.ends;
    stored = λ hash. found-made hash;
    gives = λ safe. record {
      stored = has (downloads source size chunk some most info b u n all.counts all.ends short safe
          (record { start = 0; end = 0 }));
      ranges = λ range. given range (downloads source size chunk some most info b u n all.counts all.ends short safe
          range);
    };
  }
    where
      found : (hash : MerkleHash) → xorb_of store hash ≡ find (λ (x : Xorb). hash_eq x.hash hash) (xorbs_in (log_of n))
      found hash = after_finds_xorbs no_store store (log_of n) hash (sym (first-none (Some store) h))

      found-made : (hash : MerkleHash) → IfSome (xorb_of store hash)
          (Contains (made source size chunk some most info b u n all.counts all.ends))
      found-made hash =
          let P : Xorb → Type 0 = Contains (made source size chunk some most info b u n all.counts all.ends) in
          subst (λ (o : Option Xorb). IfSome o P) (sym (found hash)) (find-all P (λ (x : Xorb). hash_eq x.hash hash)
          (xorbs_in (log_of n)) (put-are source size chunk some most info b u n all.counts all.ends))

      has : {range : FileRange} → Downloads no_store (log_of n) (recorded_file v) range
          → IsSome (file_of store (file_hash_of (infos_of v.chunks)))
      has d =
          let same : store ≡ d.has.store = same_Some store d.has.store (first-none (Some store) h ∙ d.has.after) in
          subst (λ (s : Store). IsSome (file_of s (file_hash_of (infos_of v.chunks)))) (sym same)
          (subst (λ (hash : MerkleHash). IsSome (file_of d.has.store hash))
          (is source size chunk some most info b u).hash d.stored)

      given : (range : FileRange) → Downloads no_store (log_of n) (recorded_file v) range
          → window store (file_hash_of (infos_of v.chunks)) range ≡ slice_range v.bytes range.start range.end
      given range d =
          let same : store ≡ d.has.store = same_Some store d.has.store (first-none (Some store) h ∙ d.has.after) in
          let hash = (is source size chunk some most info b u).hash in
          ap (λ (s : Store). window s (file_hash_of (infos_of v.chunks)) range) same
          ∙ ap (λ (h : MerkleHash). window d.has.store h range) (sym hash) ∙ d.window

  pub clashed : HasAfter n None → Clashes source size chunk
  clashed h = record {
    bytes = v.bytes;
    chunks = v.chunks;
    content = content source size chunk some most info b u;
    made = made source size chunk some most info b u n all.counts all.ends;
    are = are-made source size chunk some most info b u n all.counts all.ends;
    clash = λ safe.
        let d = downloads source size chunk some most info b u n all.counts all.ends short safe
        (record { start = 0; end = 0 }) in
        none-some d.has.store (first-none None h ∙ d.has.after);
  }

-- what a content that was sent leaves, by what the parts of the call answer
module _ {E : Type 0} (source : SourceTold) (size chunk : ℕ) (some : 0 < chunk) (most : chunk ≤ most_chunk_bytes)
    (short : size < 2 ^ 64) (b n : SessionTold) (begun_is : b ≡ memory_session) (i : Result XetFileInfo DataError)
    (ups : IfOk i (UploadsAll b n (content_file source size chunk))) (st : Result (Option Store) E)
    (after : IfOk st (HasAfter n)) where
  uploads-all : (info : XetFileInfo) → i ≡ Ok info → UploadsAll memory_session n (content_file source size chunk) info
  uploads-all info e = subst (λ (t : SessionTold). UploadsAll t n (content_file source size chunk) info) begun_is
      (subst (λ (r : Result XetFileInfo DataError). IfOk r (UploadsAll b n (content_file source size chunk))) e ups)

  has-after : (answer : Option Store) → st ≡ Ok answer → HasAfter n answer
  has-after answer e = subst (λ (r : Result (Option Store) E). IfOk r (HasAfter n)) e after

  pub sent-answers : {X F : Type 0} (info_of : X → XetFileInfo) (store_in : X → Store) (r : Result X F)
      → IfOk r (λ s. (i ≡ Ok (info_of s)) × (st ≡ Ok (Some (store_in s))))
      → IfOk r (λ s. Sends source size chunk (info_of s) (store_in s))
  sent-answers info_of store_in (Err e) h = tt
  sent-answers info_of store_in (Ok s) h = sent source size chunk some most short (info_of s) n
      (uploads-all (info_of s) h.0) (store_in s) (has-after (Some (store_in s)) h.1)

  pub clash-answers : (info : XetFileInfo) → i ≡ Ok info → st ≡ Ok None → Clashes source size chunk
  clash-answers info e f = clashed source size chunk some most short info n (uploads-all info e) (has-after None f)

-- ---- the session as it is made

stores-told : (a b c : ShardsTold) → a ≡ empty_shards → b ≡ empty_shards → c ≡ empty_shards
    → record empty_stores { session = a; cache = b; staging = c } ≡ empty_stores
stores-told a b c e f g = λ i. record empty_stores { session = e i; cache = f i; staging = g i }

pub first-told : (s : Store) → s ≡ no_store → record empty_uploader { first = Some s } ≡ empty_uploader
first-told s e = ap (λ (t : Store). record empty_uploader { first = Some t }) e

pub made-memory : {A E : Type 0} (told : A → SessionTold) (r : Result A E) (u : UploaderTold) (a b c : ShardsTold)
    → IfOk r (λ s. told s ≡ record memory_session {
      uploader = u;
      shards = record empty_stores { session = a; cache = b; staging = c };
    })
    → u ≡ empty_uploader → a ≡ empty_shards → b ≡ empty_shards → c ≡ empty_shards
    → IfOk r (λ s. told s ≡ memory_session)
made-memory told (Err x) u a b c is e f g h = tt
made-memory told (Ok s) u a b c is e f g h =
    is ∙ ap (λ (v : UploaderTold). record memory_session {
      uploader = v;
      shards = record empty_stores { session = a; cache = b; staging = c };
    }) e ∙ ap (λ (i : InterfaceTold). record memory_session { shards = i }) (stores-told a b c f g h)
