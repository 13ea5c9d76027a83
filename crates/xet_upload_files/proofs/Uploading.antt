-- Files that are uploaded from their sources.
use Rattle.std.proofs.Common.{◌≡◌, ℕ, ◌+◌, ◌<◌, ◌≤◌, ◌^◌, ◌-◌, ◌⊎◌, inl, inr, Bool, true, false, eqb, List, [], ◌∷◌, ◌++◌, length, take, refl, sym, ◌∙◌, ap, subst, arith}
use Rattle.std.specs.Prelude.{Contains, Option, Some, None, Result, Ok, Err, IfErr, IfOk, IfSome, OnErr, OnOk, option_map, unwrap_or}
use Rattle.std.specs.List.{concat}
use Rattle.std.specs.Option.{option_or}
use Rattle.std.proofs.lemmas.Bool.Decides.{eqb_tells}
use Rattle.std.proofs.lemmas.List.{append-nil, append_assoc, length-append, length-take-le, map-append, take-append-le}
use Rattle.std.proofs.lemmas.List.Elements.{All-nil}
use Rattle.std.proofs.lemmas.List.Folds.{concat-append}
use Rattle.xet_base.specs.declared.invalid.Invalid.TheVariants as invalid
use Rattle.xet_base.specs.declared.item_id.UniqueID.{UniqueID}
use Rattle.xet_base.specs.declared.merklehash.MerkleHash.{MerkleHash}
use Rattle.xet_base.specs.declared.mdb_shard.ChunkInfo.{ChunkInfo}
use Rattle.xet_base.specs.Digests.{file_hash_of, info_of, infos_of}
use Rattle.xet_base.specs.Store.{Store}
use Rattle.xet_outside.specs.Told.{ReadCall, SourceTold}
use Rattle.xet_pointer.specs.declared.xet_file_info.XetFileInfo.{XetFileInfo}
use Rattle.xet_progress_state.specs.declared.step.TrackerStep.{TrackerStep}
use Rattle.xet_progress_state.specs.declared.step.TrackerStep.TheVariants.{RegisterNewFile}
use Rattle.xet_upload.specs.FileDatas.{Parts}
use Rattle.xet_upload.specs.Metrics.{no_counts}
use Rattle.xet_upload.specs.Standing.{world}
use Rattle.xet_upload.specs.DataErrors.{of_client_error}
use Rattle.xet_upload.specs.Waitings.{IsWithin, Waiting, no_waiting}
use Rattle.xet_upload.specs.declared.data_error.DataError.{DataError}
use Rattle.xet_upload.specs.declared.data_error.DataError.TheVariants as data_error
use Rattle.xet_upload.specs.declared.metrics.DeduplicationMetrics.{DeduplicationMetrics}
use Rattle.xet_upload.specs.declared.sha256_policy.Sha256Policy.{Sha256Policy}
use Rattle.xet_upload_session.specs.Calls.{CountsSent, Keeps, Says, finalized_error}
use Rattle.xet_upload_session.specs.Completions.{with_file_counts}
use Rattle.xet_upload_session.specs.Sessions.{HasListed, SessionTold, Tells, log_of}
use Rattle.xet_upload_session.specs.Trackings.{IsRefusal, StartsFile, first_refusal, ids_used_up}
use Rattle.xet_upload_session.proofs.CallerLemmas.{keeps-both, keeps-refl, stores-later}
use Rattle.xet_clean.specs.Cleaners.{Counts, CountsChunks, AddFails, AddsData, Cleaner, CleanerStands, Finishes, IsFed, IsNewCleaner, PassesTotal, total_of, unknown_xorb}
use Rattle.xet_clean_parts.specs.Cleanings.{IsFirstUnlisted}
use Rattle.xet_clean_parts.specs.Pointers.{pointer_to, recorded_sha256}
use Rattle.xet_clean_parts.specs.Cleanings.{AreNamed, ChunkFails, NoFault, TrackFails}
use Rattle.xet_clean_parts.specs.Made.{IsPickedFrom, PutsInTurn, PutsMade, PutsNone, PutsSome, PutsToEnd, StayOne}
use Rattle.xet_clean_parts.specs.Places.{CutAt, CutBy, CutFile, CutPieces, Telling}
use Rattle.xet_clean_parts.specs.Premises.{HashesAgree, IsOpen, IsSteady, NoClash}
use Rattle.xet_clean.specs.Records.{CleanedFile, HasRecord}
use Rattle.xet_upload_files.specs.Uploads.{FileTold, SessionFails, SourceFails, TakesOff}
use Rattle.xet_upload_files.specs.steps.Uploading.{Poured, Pours, UploadsFile}
use Rattle.xet_clean_parts.proofs.CallerLemmas.{clash-after, clash-before, hashes-before, leaves-both, leaves-refl, sent-both, steady-left}
use Rattle.xet_clean.proofs.CallerLemmas.{backs-both, none-missing, waits-still}
use Rattle.xet_clean.proofs.CallerLemmas.{counts-both, feeds-both, feeds-none, feeds-so, never-failed, stay-picked}
use Rattle.xet_clean.proofs.CallerLemmas.{left-holds}
use Rattle.xet_clean_parts.proofs.CallerLemmas.{opened}
use Rattle.xet_clean_parts.proofs.CallerLemmas.{bytes-later, picked-all, picked-behind, picked-both, picked-first, picked-front, picked-trans, picked-within}
use Rattle.xet_clean_parts.proofs.CallerLemmas.{agree-alone, ok-err}
use Rattle.xet_clean_parts.proofs.CallerLemmas.{end-behind, made-before, made-behind, made-less, made-still, made-then, none-both, none-same, pieces-more, says-err, says-none, some-behind, turn-made}

-- ---- errors, and answers

-- a failure of a later call
pub chunk-later : (b m n : SessionTold) (e : DataError) → Keeps b m → ChunkFails m n e → ChunkFails b n e
chunk-later b m n e k (inl (inl q)) = inl (inl (q.0, sym k.finalized ∙ q.1))
chunk-later b m n e k (inl (inr (inl s))) = inl (inr (inl (stores-later b.shards m.shards n.shards e k.stores s)))
chunk-later b m n e k (inl (inr (inr q))) = inl (inr (inr q))
chunk-later b m n e k (inr t) = inr t

-- an answer that is known
same-error : (e f : DataError) (a c : Result (UniqueID × ℕ) DataError) → a ≡ Err e → c ≡ Err f → a ≡ c → e ≡ f
same-error e f a c g h q = cc

abbrev start_error : DataError → Result (UniqueID × ℕ) DataError
start_error e = Err e

err-is : (e f : DataError) → start_error e ≡ start_error f → e ≡ f
err-is e f q = same-error e f (Err e) (Err f) refl refl q

-- a file that wasn't begun
pub start-fails : (b n : SessionTold) (before after : List TrackerStep) (i j : ℕ) (size : Option ℕ) (e : DataError)
    → StartsFile before after i j b.finalized size (Err e) → ChunkFails b n e
start-fails b n before after i j size e s = go b.finalized refl
  where
    refused : IsRefusal (first_refusal before (RegisterNewFile size ∷ [])) e → TrackFails e
    refused (inl w) = inl w
    refused (inr q) = inr (q.0, q.2)

    open_session : b.finalized ≡ false → ChunkFails b n e
    open_session fin = more (eqb_tells i (2 ^ 64 - 1))
      where
        more : ((eqb i (2 ^ 64 - 1) ≡ true) × (i ≡ 2 ^ 64 - 1))
            ⊎ ((eqb i (2 ^ 64 - 1) ≡ false) × (i ≡ 2 ^ 64 - 1 → ⊥)) → ChunkFails b n e
        more (inl q) = let is = s.used_up fin q.1 in inr (inr (invalid.IdsUsedUp, err-is e ids_used_up is.0))
        more (inr q) = let t = s.tracks fin q.1 in inr (refused t.err)

    go : (v : Bool) → b.finalized ≡ v → ChunkFails b n e
    go true fin = let is = s.finalized fin in inl (inl (err-is e finalized_error is.0, fin))
    go false fin = open_session fin

-- the pointer record alone
abbrev pub info_of_answer : Result (XetFileInfo × DeduplicationMetrics) DataError → Result XetFileInfo DataError
info_of_answer (Ok r) = Ok r.0
info_of_answer (Err e) = Err e

on-info : (P : Type 0) (a : Result (XetFileInfo × DeduplicationMetrics) DataError) → OnOk a P → OnOk
    (info_of_answer a) P
on-info P (Ok r) p = p
on-info P (Err e) p = tt

on-ok : {A : Type 0} (P : Type 0) (a : Result A DataError) → P → OnOk a P
on-ok P (Ok r) p = p
on-ok P (Err e) p = tt

-- ---- bytes come off a source

front-none : (o : Option (List ℕ)) → o ≡ option_map (λ rest. [] ++ rest) o
front-none None = refl
front-none (Some xs) = refl

front-both : (xs ys : List ℕ) (o p q : Option (List ℕ)) → o ≡ option_map (λ rest. xs ++ rest) p
    → p ≡ option_map (λ rest. ys ++ rest) q → o ≡ option_map (λ rest. (xs ++ ys) ++ rest) q
front-both xs ys o p q e f = e ∙ ap (λ (z : Option (List ℕ)). option_map (λ rest. xs ++ rest) z) f ∙ go q
  where
    go : (z : Option (List ℕ)) → option_map (λ rest. xs ++ rest) (option_map (λ rest. ys ++ rest) z) ≡ option_map
        (λ rest. (xs ++ ys) ++ rest) z
    go None = refl
    go (Some zs) = ap (λ (w : List ℕ). Some w) (sym (append_assoc xs ys zs))

pub takes-none : (s t : SourceTold) → t ≡ s → TakesOff s t []
takes-none s t e =
    let P : SourceTold → Type 0 = λ z. TakesOff s z [] in
    subst P (sym e) (record { left = front-none s.left; faults = omega arith })

takes-both : (s t u : SourceTold) (xs ys : List ℕ) → TakesOff s t xs → TakesOff t u ys → TakesOff s u (xs ++ ys)
takes-both s t u xs ys one two = record {
  left = front-both xs ys s.left t.left u.left one.left two.left;
  faults =
      let a = one.faults in
      let b = two.faults in
      omega (arith, a, b);
}

-- a read that gave bytes
pub takes-read : {E : Type 0} (t u : SourceTold) (into : List ℕ) (k : ℕ) → ReadCall {E = E} t u into (Ok k)
    → TakesOff t u (take k into)
takes-read t u into k r = record { left = r.took; faults = r.faults }

-- the end of the source
left-none : (o p : Option (List ℕ)) → o ≡ option_map (λ rest. [] ++ rest) p → IfSome o (λ xs. xs ≡ [])
    → IfSome p (λ xs. xs ≡ [])
left-none o None e a = tt
left-none o (Some xs) e a = let P : Option (List ℕ) → Type 0 = λ z. IfSome z (λ ys. ys ≡ []) in subst P e a

-- ---- bytes of a source are fed

pub poured-none : (b n : SessionTold) (s t : SourceTold) (c d : Cleaner) → n ≡ b → t ≡ s → d ≡ c → c.failed ≡ None
    → Poured b n s t c d []
poured-none b n s t c d e f g none =
    let x = feeds-none b n c d e g in
    record {
      leaves = leaves-refl b n e;
      taken = takes-none s t f;
      fed = record {
        feeds = x.0;
        pieces = [];
        bytes_are = refl;
        places = (x.1, ap (λ (z : Cleaner). z.pending) g);
      };
      unfailed = ap (λ (z : Cleaner). z.failed) g ∙ none;
    }

pub poured-more : (b m n : SessionTold) (s t u : SourceTold) (c x d : Cleaner) (xs ys : List ℕ) (w : Unit {0})
    → Poured b m s t c x xs → TakesOff t u ys → AddsData m n x ys d (Ok w) → Poured b n s u c d (xs ++ ys)
poured-more b m n s t u c x d xs ys w p taken a =
    let f = feeds-both b m n c x d xs ys p.leaves a.leaves p.fed.feeds a.ok.feeds in
    let tell : x.tell ≡ c.tell = ap (λ (z : Cleaner). z.tell) p.fed.feeds.same in
    let P : List (List ℕ) → Type 0 = λ cs. CutPieces c.tell (p.fed.pieces ++ ys ∷ []) c.pending cs d.pending in
    let Q : Telling → Type 0 = λ t. CutBy t false (x.pending ++ ys) a.ok.feeds.cut d.pending in
    record {
      leaves = leaves-both b m n p.leaves a.leaves;
      taken = takes-both s t u xs ys p.taken taken;
      fed = record {
        feeds = f.0;
        pieces = p.fed.pieces ++ ys ∷ [];
        bytes_are = ap (λ (zs : List ℕ). zs ++ ys) p.fed.bytes_are
            ∙ ap (λ (zs : List ℕ). concat p.fed.pieces ++ zs) (sym (append-nil ys))
            ∙ sym (concat-append p.fed.pieces (ys ∷ []));
        places = subst P (sym f.1) (pieces-more c.tell p.fed.pieces ys c.pending x.pending d.pending p.fed.feeds.cut
            a.ok.feeds.cut p.fed.places (subst Q tell a.ok.places));
      };
      unfailed = a.failed ∙ ap (λ (o : Option DataError). option_or o None) p.unfailed;
    }

-- what was put of these bytes
poured-puts : {A : Type 0} (b n : SessionTold) (s t : SourceTold) (c d : Cleaner) (bytes : List ℕ)
    (answer : Result A DataError) → Poured b n s t c d bytes
    → PutsSome b n c.parts.own.chunks (c.pending ++ bytes) d.parts.own.chunks answer
poured-puts b n s t c d bytes answer p = record {
  cut = p.fed.feeds.cut;
  rest = d.pending;
  bytes_are = p.fed.feeds.pending;
  so = feeds-so b n c d bytes answer p.fed.feeds;
}

-- the bytes that a read gave, of a buffer that has more behind
piece-front : (into rest : List ℕ) (k : ℕ) → k ≤ length into → take k (into ++ rest) ≡ take k into
piece-front into rest k within = take-append-le k into rest within

pub poured-piece : {E : Type 0} (b m n : SessionTold) (s t u : SourceTold) (c x d : Cleaner) (xs into rest : List ℕ)
    (k : ℕ) (w : Unit {0}) → Poured b m s t c x xs → ReadCall {E = E} t u into (Ok k)
    → AddsData m n x (take k (into ++ rest)) d (Ok w) → Poured b n s u c d (xs ++ take k into)
poured-piece b m n s t u c x d xs into rest k w p r a =
    let P : List ℕ → Type 0 = λ ys. AddsData m n x ys d (Ok w) in
    poured-more b m n s t u c x d xs (take k into) w p (takes-read t u into k r)
    (subst P (piece-front into rest k r.count) a)

-- how many bytes are left to read
pub left-more : (left size k : ℕ) (xs into : List ℕ) → left + length xs ≡ size → k ≤ length into → length into ≤ left
    → (left - k) + length (xs ++ take k into) ≡ size
left-more left size k xs into sum within most =
    let both = length-append xs (take k into) in
    let front = length-take-le k into within in
    omega (arith, sum, within, most, both, front)

-- the size of a cleaner stays
pub size-kept : (b n : SessionTold) (s t : SourceTold) (c d : Cleaner) (xs : List ℕ) (total : Option ℕ)
    → Poured b n s t c d xs → c.size ≡ total → d.size ≡ total
size-kept b n s t c d xs total p is = ap (λ (z : Cleaner). z.size) p.fed.feeds.same ∙ is

pub pours-ok : (b n : SessionTold) (s t : SourceTold) (c d : Cleaner) (size : ℕ) (w : Unit {0}) (xs : List ℕ)
    → Poured b n s t c d xs → length xs ≡ size → Pours b n s t c d size (Ok w)
pours-ok b n s t c d size w xs p whole = record {
  leaves = p.leaves;
  bytes = xs;
  taken = p.taken;
  most = omega (arith, whole);
  whole = whole;
  fed = p.fed;
  puts = poured-puts b n s t c d xs (Ok w) p;
  unfailed = p.unfailed;
  why = tt;
}

-- an answer that tells of no failure
abbrev went : Result (Unit {0}) DataError
went = Ok tt

module _ (b m : SessionTold) (s t : SourceTold) (c x : Cleaner) (size : ℕ) (xs : List ℕ)
    (p : Poured b m s t c x xs) where
  -- a read failed
  pub pours-fault : {E : Type 0} (u : SourceTold) (into : List ℕ) (e : E) (error : DataError) → length xs ≤ size
      → ReadCall t u into (Err e) → error ≡ data_error.IOError → Pours b m s u c x size (Err error)
  pours-fault u into e error most r is = record {
    leaves = p.leaves;
    bytes = xs;
    taken = record {
      left = p.taken.left ∙ ap (λ (z : Option (List ℕ)). option_map (λ rest. xs ++ rest) z) (sym r.kept);
      faults = later;
    };
    most = most;
    whole = tt;
    fed = tt;
    puts = poured-puts b m s t c x xs (Err error) p;
    unfailed = tt;
    why = inl (inl (is, let f = p.taken.faults in let rose = r.failed in omega (arith, f, rose)));
  }
    where
      later : s.faults ≤ u.faults
      later = let f = p.taken.faults in let g = r.faults in omega (arith, f, g)

  -- the source ended
  pub pours-ended : {E : Type 0} (u : SourceTold) (into : List ℕ) → length xs < size → 0 < length into
      → ReadCall {E = E} t u into (Ok 0) → Pours b m s u c x size (Err (data_error.SourceEnded size (length xs)))
  pours-ended u into few room r = record {
    leaves = p.leaves;
    bytes = xs;
    taken = record {
      left = p.taken.left ∙ ap (λ (z : Option (List ℕ)). option_map (λ rest. xs ++ rest) z) (gone ∙ sym
          (front-none u.left));
      faults = let f = p.taken.faults in let g = r.faults in omega (arith, f, g);
    };
    most = omega (arith, few);
    whole = tt;
    fed = tt;
    puts = poured-puts b m s t c x xs (Err (data_error.SourceEnded size (length xs))) p;
    unfailed = tt;
    why = inl (inr (refl, few, left-none t.left u.left r.took (r.end room refl)));
  }
    where
      gone : t.left ≡ option_map (λ rest. [] ++ rest) u.left
      gone = r.took

  module _ (is_size : c.size ≡ Some size) (is_fed : c.fed ≡ 0) where
    total : total_of x ≡ size
    total = ap (λ (o : Option ℕ). unwrap_or o (2 ^ 64 - 1)) (ap (λ (z : Cleaner). z.size) p.fed.feeds.same ∙ is_size)

    fits : (ys : List ℕ) → length xs + length ys ≤ size → PassesTotal x ys → ⊥
    fits ys most passes =
        let sum = ap (λ (z : Cleaner). z.fed) p.fed.feeds.same in
        let all = total in
        omega (arith, sum, all, is_fed, most, passes)

    -- nor does a piece that a read gave pass it
    pub piece-fits : {E : Type 0} (u : SourceTold) (into rest : List ℕ) (k left : ℕ) → left + length xs ≡ size
        → length into ≤ left → ReadCall {E = E} t u into (Ok k) → PassesTotal x (take k (into ++ rest)) → ⊥
    piece-fits u into rest k left sum most r passes =
        let within : k ≤ length into = r.count in
        let front = length-take-le k into within in
        let P : List ℕ → Type 0 = λ ys. PassesTotal x ys in
        fits (take k into) (omega (arith, sum, most, within, front)) (subst P (piece-front into rest k within) passes)

    -- the cleaner failed
    pub pours-stopped : (n : SessionTold) (u : SourceTold) (d : Cleaner) (ys : List ℕ) (e : DataError) → length xs +
        length ys ≤ size → TakesOff t u ys → AddsData m n x ys d (Err e) → Pours b n s u c d size (Err e)
    pours-stopped n u d ys e most taken a = record {
      leaves = leaves-both b m n p.leaves a.leaves;
      bytes = xs ++ ys;
      taken = takes-both s t u xs ys p.taken taken;
      most = let sum = length-append xs ys in omega (arith, sum, most);
      whole = tt;
      fed = tt;
      puts = some-behind b m n c.parts.own.chunks x.parts.own.chunks d.parts.own.chunks (c.pending ++ (xs ++ ys))
          (x.pending ++ ys) p.fed.feeds.cut tt (Err e) p.leaves.keeps p.fed.feeds.failed p.fed.feeds.into.own bytes_are
          (feeds-so b m c x xs went p.fed.feeds) a.puts;
      unfailed = tt;
      why = inr (go a.why);
    }
      where
        bytes_are : c.pending ++ (xs ++ ys) ≡ concat p.fed.feeds.cut ++ (x.pending ++ ys)
        bytes_are = sym (append_assoc c.pending xs ys) ∙ ap (λ (zs : List ℕ). zs ++ ys) p.fed.feeds.pending
            ∙ append_assoc (concat p.fed.feeds.cut) x.pending ys

        go : AddFails m n x ys e → ChunkFails b n e
        go (inl k) = never-failed x.failed e p.unfailed k
        go (inr (inl q)) = absurd (fits ys most q.1)
        go (inr (inr f)) = chunk-later b m n e p.leaves.keeps f

    -- in a piece that a read gave
    pub pours-piece : {E : Type 0} (n : SessionTold) (u : SourceTold) (d : Cleaner) (into rest : List ℕ) (k left : ℕ)
        (e : DataError) → left + length xs ≡ size → length into ≤ left → ReadCall {E = E} t u into (Ok k)
        → AddsData m n x (take k (into ++ rest)) d (Err e) → Pours b n s u c d size (Err e)
    pours-piece n u d into rest k left e sum most r a =
        let P : List ℕ → Type 0 = λ ys. AddsData m n x ys d (Err e) in
        let within : k ≤ length into = r.count in
        let front = length-take-le k into within in
        pours-stopped n u d (take k into) e (omega (arith, sum, most, within, front)) (takes-read t u into k r)
        (subst P (piece-front into rest k within) a)

-- ---- one file

-- any hash
no_hash : MerkleHash
no_hash = file_hash_of []

-- the file wasn't begun
pub file-unbegun : (b n : SessionTold) (f : FileTold) (s : SourceTold) (e : DataError) → n ≡ b → s ≡ f.source
    → ChunkFails b n e → UploadsFile b n f s (Err e)
file-unbegun b n f s e same is why = record {
  keeps = keeps-refl b n same;
  backs = (leaves-refl b n same).backs;
  cut = [];
  puts = λ t. made-still b n (b.waiting.chunks ++ []) n.waiting.chunks
      (waits-still b n [] (ap (λ (z : SessionTold). z.waiting) same)) (ap log_of same)
      (ap (λ (z : SessionTold). z.repeated) same);
  turn = λ t. tt;
  full = λ w. none-same b n same;
  thresholds = ap (λ (z : SessionTold). z.thresholds) same;
  waits = waits-still b n [] (ap (λ (z : SessionTold). z.waiting) same);
  bytes = [];
  rest = [];
  bytes_are = refl;
  all = tt;
  places = tt;
  hash = no_hash;
  hash_is = tt;
  unfailed = tt;
  said = says-none b n (Err e) (ap (λ (z : SessionTold). z.failed) same);
  uncounted = (leaves-refl b n same).counts;
  counts = tt;
  taken = takes-none f.source s is;
  most = omega arith;
  whole = tt;
  holds = λ k g y o a r. subst (λ (z : SessionTold). HasRecord k z g) (sym same) r;
  stands = λ k y o a. tt;
  pointer = tt;
  why = λ h. inr (inl why);
}

pub file-unstarted : (b n : SessionTold) (f : FileTold) (s : SourceTold) (e : DataError)
    (before after : List TrackerStep) (i j : ℕ) (size : Option ℕ) → n ≡ b → s ≡ f.source
    → StartsFile before after i j b.finalized size (Err e) → UploadsFile b n f s (Err e)
file-unstarted b n f s e before after i j size same is start = file-unbegun b n f s e same is
    (start-fails b n before after i j size e start)

-- its bytes were not fed
pub file-unfed : (b n : SessionTold) (f : FileTold) (s : SourceTold) (c d : Cleaner) (e : DataError)
    → IsNewCleaner c (Some f.size) f.policy f.tell → Pours b n f.source s c d f.size (Err e)
    → UploadsFile b n f s (Err e)
file-unfed b n f s c d e new p = record {
  keeps = p.leaves.keeps;
  backs = p.leaves.backs;
  cut = p.puts.cut;
  puts = λ t. unfed-puts p.puts.so.left (p.puts.so.puts t);
  turn = λ t. tt;
  full = λ w. p.puts.so.full (subst (λ (cs : List (List ℕ)). IsWithin (cs ++ p.puts.cut)) (sym no_own)
      (picked-within p.puts.cut (b.waiting.chunks ++ p.puts.cut) behind w.within));
  thresholds = p.leaves.thresholds;
  waits = waits-still b n p.puts.cut p.leaves.waiting;
  bytes = p.bytes;
  rest = p.puts.rest;
  bytes_are = subst (λ (xs : List ℕ). xs ++ p.bytes ≡ concat p.puts.cut ++ p.puts.rest) new.pending p.puts.bytes_are;
  all = tt;
  places = tt;
  hash = no_hash;
  hash_is = tt;
  unfailed = tt;
  said = λ t. says-err n e (p.puts.so.said t);
  uncounted = p.leaves.counts;
  counts = tt;
  taken = p.taken;
  most = p.most;
  whole = tt;
  holds = λ k g y o a r. left-holds k b n no_waiting 0 y o g p.leaves.keeps p.leaves.waiting p.leaves.finished r;
  stands = λ k y o a. tt;
  pointer = tt;
  why = λ h. go p.why;
}
  where
    no_own : c.parts.own.chunks ≡ []
    no_own = ap (λ (w : Parts). w.own.chunks) new.parts

    behind : IsPickedFrom p.puts.cut (b.waiting.chunks ++ p.puts.cut)
    behind = picked-behind b.waiting.chunks p.puts.cut p.puts.cut (picked-all p.puts.cut)

    unfed-puts : (left : List (List ℕ)) → PutsInTurn b n c.parts.own.chunks p.puts.cut left
        → PutsMade b n (b.waiting.chunks ++ p.puts.cut) n.waiting.chunks
    unfed-puts left turn =
        let all = b.waiting.chunks ++ p.puts.cut in
        let P : Waiting → Type 0 = λ w. PutsMade b n all w.chunks in
        let Q : List (List ℕ) → Type 0 = λ cs. PutsMade b n (cs ++ p.puts.cut) left in
        subst P (sym p.leaves.waiting) (made-less b n all (b.waiting.chunks ++ left) b.waiting.chunks
        (picked-front b.waiting.chunks b.waiting.chunks left (picked-all b.waiting.chunks))
        (made-before b n b.waiting.chunks p.puts.cut left
        (subst Q no_own (turn-made b n c.parts.own.chunks p.puts.cut left turn))))

    go : SourceFails f.source s f.size p.bytes e ⊎ ChunkFails b n e → SourceFails f.source s f.size p.bytes e
        ⊎ SessionFails b n e
    go (inl w) = inl w
    go (inr w) = inr (inl w)

module _ (b m n : SessionTold) (f : FileTold) (s : SourceTold) (c d : Cleaner) (u : Unit {0})
    (new : IsNewCleaner c (Some f.size) f.policy f.tell) (p : Pours b m f.source s c d f.size (Ok u))
    (answer : Result (XetFileInfo × DeduplicationMetrics) DataError) (z : Finishes m n d answer) where
  abbrev cut : List (List ℕ)
  cut = p.fed.feeds.cut ++ z.cut

  -- a new file has no chunks and no bytes
  no_own : c.parts.own.chunks ≡ []
  no_own = ap (λ (w : Parts). w.own.chunks) new.parts

  -- its own chunks and the later ones, of those that were cut
  file-own : IsPickedFrom (d.parts.own.chunks ++ z.cut) cut
  file-own =
      let P : List (List ℕ) → Type 0 = λ cs. IsPickedFrom d.parts.own.chunks (cs ++ p.fed.feeds.cut) in
      picked-first d.parts.own.chunks p.fed.feeds.cut z.cut (subst P no_own p.fed.feeds.into.own)

  abbrev all : List (List ℕ)
  all = b.waiting.chunks ++ cut

  -- what was cut of the bytes that were fed, and all that may be cut at the end
  fed-own : IsPickedFrom (c.parts.own.chunks ++ p.fed.feeds.cut) all
  fed-own =
      let P : List (List ℕ) → Type 0 = λ cs. IsPickedFrom (cs ++ p.fed.feeds.cut) all in
      subst P (sym no_own) (picked-behind b.waiting.chunks p.fed.feeds.cut cut (picked-front p.fed.feeds.cut
      p.fed.feeds.cut z.cut (picked-all p.fed.feeds.cut)))

  end-own : IsPickedFrom (m.waiting.chunks ++ (d.parts.own.chunks ++ z.cut)) all
  end-own =
      let P : Waiting → Type 0 = λ w. IsPickedFrom (w.chunks ++ (d.parts.own.chunks ++ z.cut)) all in
      subst P (sym p.leaves.waiting) (picked-both b.waiting.chunks (d.parts.own.chunks ++ z.cut) b.waiting.chunks cut
      (picked-all b.waiting.chunks) file-own)

  fed-puts : Tells b → PutsMade b m all (m.waiting.chunks ++ (d.parts.own.chunks ++ z.cut))
  fed-puts t =
      let own = d.parts.own.chunks in
      let P : Waiting → Type 0 = λ w. PutsMade b m all (w.chunks ++ (own ++ z.cut)) in
      let Q : List (List ℕ) → Type 0 = λ cs. PutsMade b m (cs ++ p.fed.feeds.cut) own in
      let turn = turn-made b m c.parts.own.chunks p.fed.feeds.cut own (p.fed.feeds.puts t) in
      subst P (sym p.leaves.waiting) (made-before b m b.waiting.chunks cut (own ++ z.cut)
      (made-behind b m p.fed.feeds.cut own z.cut (subst Q no_own turn)))

  file-puts : Tells b → PutsMade b n all n.waiting.chunks
  file-puts t = made-then b m n all (m.waiting.chunks ++ (d.parts.own.chunks ++ z.cut)) n.waiting.chunks end-own
      (fed-puts t) (z.puts (p.leaves.keeps.tells t))

  file-turn : (a : Result (XetFileInfo × DeduplicationMetrics) DataError)
      → (Tells m → OnOk a (PutsToEnd m n d.parts.own.chunks z.cut)) → Tells b
      → OnOk (info_of_answer a) (PutsToEnd b n [] cut)
  file-turn (Ok r) f t =
      let own = d.parts.own.chunks in
      let P : List (List ℕ) → Type 0 = λ cs. PutsInTurn b m cs p.fed.feeds.cut own in
      end-behind b m n [] own p.fed.feeds.cut z.cut p.leaves.waiting (subst P no_own (p.fed.feeds.puts t))
      (f (p.leaves.keeps.tells t))
  file-turn (Err e) f t = tt

  file-full : StayOne b cut → PutsNone b n
  file-full w = none-both b m n p.leaves.keeps
      (p.fed.feeds.full (picked-within (c.parts.own.chunks ++ p.fed.feeds.cut) all fed-own w.within))
      (z.full (stay-picked b m (d.parts.own.chunks ++ z.cut) cut end-own p.leaves.thresholds w))

  file-waits : IsPickedFrom n.waiting.chunks all
  file-waits = picked-trans n.waiting.chunks (m.waiting.chunks ++ (d.parts.own.chunks ++ z.cut)) all z.waits end-own

  -- where its chunks end
  tell : d.tell ≡ f.tell
  tell = ap (λ (y : Cleaner). y.tell) p.fed.feeds.same ∙ new.tell_is

  file-places : (a : Result (XetFileInfo × DeduplicationMetrics) DataError)
      → OnOk a (CutAt d.tell true d.pending z.cut z.rest) → OnOk a (z.rest ≡ [])
      → OnOk (info_of_answer a) (CutFile f.tell p.bytes cut)
  file-places (Err e) at none = tt
  file-places (Ok r) at none =
      let P : Telling → Type 0 = λ t. CutPieces t p.fed.pieces c.pending p.fed.feeds.cut d.pending in
      let Q : List ℕ → Type 0 = λ xs. CutPieces f.tell p.fed.pieces xs p.fed.feeds.cut d.pending in
      let R : Telling → Type 0 = λ t. CutAt t true d.pending z.cut z.rest in
      let S : List ℕ → Type 0 = λ xs. CutAt f.tell true d.pending z.cut xs in
      record {
        pieces = p.fed.pieces;
        bytes_are = p.fed.bytes_are;
        front = p.fed.feeds.cut;
        rest = d.pending;
        fed = subst Q new.pending (subst P new.tell_is p.fed.places);
        last = z.cut;
        ended = subst S none (subst R tell at);
        cut_are = refl;
      }

  -- a put that failed
  file-said : (a : Result (XetFileInfo × DeduplicationMetrics) DataError) → Says n a → Says n (info_of_answer a)
  file-said (Ok r) w = λ e q. ok-err r (of_client_error e) (w e q)
  file-said (Err e) w = says-err n e w

  file-uncounted : (a : Result (XetFileInfo × DeduplicationMetrics) DataError) → OnErr a (CountsSent m n)
      → OnErr (info_of_answer a) (CountsSent b n)
  file-uncounted (Ok r) w = tt
  file-uncounted (Err e) w = sent-both b m n p.leaves.counts w

  file-bytes : p.bytes ≡ concat cut ++ z.rest
  file-bytes =
      let P : List ℕ → Type 0 = λ xs. xs ++ p.bytes ≡ concat p.fed.feeds.cut ++ d.pending in
      bytes-later p.bytes d.pending z.rest p.fed.feeds.cut z.cut (subst P new.pending p.fed.feeds.pending) z.pending

  file-infos : d.parts.infos ++ infos_of z.cut ≡ infos_of cut
  file-infos =
      let P : List ChunkInfo → Type 0 = λ is. d.parts.infos ≡ is ++ infos_of p.fed.feeds.cut in
      let first = subst P (ap (λ (w : Parts). w.infos) new.parts) p.fed.feeds.into.infos in
      ap (λ (is : List ChunkInfo). is ++ infos_of z.cut) first ∙ sym (map-append info_of p.fed.feeds.cut z.cut)

  file-hash : (a : Result (XetFileInfo × DeduplicationMetrics) DataError) → OnOk a (z.hash ≡ file_hash_of
      (d.parts.infos ++ infos_of z.cut)) → OnOk (info_of_answer a) (z.hash ≡ file_hash_of (infos_of cut))
  file-hash (Ok r) e = e ∙ ap file_hash_of file-infos
  file-hash (Err e) a = tt

  whole : length p.bytes ≡ f.size
  whole = p.whole

  policy : d.policy ≡ f.policy
  policy = ap (λ (y : Cleaner). y.policy) p.fed.feeds.same ∙ new.policy_is

  was_fed : IsFed d p.bytes
  was_fed = p.fed.feeds.fed [] (new.stands (record { xorbs = []; files = [] })).fed

  module _ (k : Store) (y : IsSteady k b) (o : IsOpen n) (agree : HashesAgree k n) where
    middle : IsSteady k m
    middle = steady-left k b m p.leaves (agree-alone (world k (log_of m)) m.repeated
        (hashes-before k m n z.keeps (p.leaves.keeps.tells y.tells) agree)) y

    was_open : IsOpen m
    was_open = opened m n z.keeps o

    file-holds : (g : CleanedFile) → HasRecord k b g → HasRecord k n g
    file-holds g r = z.holds k g middle o agree (left-holds k b m no_waiting 0 y was_open g p.leaves.keeps
        p.leaves.waiting p.leaves.finished r)

  module _ (k : Store) (y : IsSteady k b) (o : IsOpen n) (clash : NoClash k n cut) where
    before : NoClash k m p.fed.feeds.cut
    before = clash-before k m n p.fed.feeds.cut z.cut z.keeps (p.leaves.keeps.tells y.tells) clash

    after : NoClash k n z.cut
    after = clash-after k n p.fed.feeds.cut z.cut clash

    stood : CleanerStands (world k (log_of m)) d p.bytes
    stood = p.fed.feeds.stands k [] y (opened m n z.keeps o) before (new.stands (world k (log_of b)))

    file-stands : OnOk (info_of_answer answer) (HasRecord k n (record {
      hash = z.hash;
      sha256 = recorded_sha256 f.policy p.bytes;
      bytes = p.bytes;
    }))
    file-stands =
        let P : Sha256Policy → Type 0 = λ w. OnOk answer (HasRecord k n (record {
          hash = z.hash;
          sha256 = recorded_sha256 w p.bytes;
          bytes = p.bytes;
        })) in
        on-info _ answer (subst P policy (z.stands k p.bytes (middle k y o clash.xorbs) o after stood))

  file-pointer : (a : Result (XetFileInfo × DeduplicationMetrics) DataError) → IfOk a (λ r. r.0 ≡ pointer_to z.hash
      (length p.bytes) (recorded_sha256 d.policy p.bytes)) → IfOk (info_of_answer a) (λ info. info ≡ pointer_to z.hash
      f.size (recorded_sha256 f.policy p.bytes))
  file-pointer (Ok r) e = e ∙ ap (λ (w : ℕ). pointer_to z.hash w (recorded_sha256 d.policy p.bytes)) whole
      ∙ ap (λ (w : Sha256Policy). pointer_to z.hash f.size (recorded_sha256 w p.bytes)) policy
  file-pointer (Err e) a = tt

  named : HasListed b → IsOpen n → AreNamed m.listed d.parts.terms
  named i o =
      let P : Parts → Type 0 = λ w. AreNamed b.listed w.terms in
      p.fed.feeds.named i (opened m n z.keeps o) (subst P (sym new.parts) (All-nil (Contains b.listed)))

  -- the names of its terms are on the list of an open session
  pub file-unlisted : HasListed b → (h : MerkleHash) → IsFirstUnlisted m.listed d.parts.terms h → IsOpen n → ⊥
  file-unlisted i h first o = none-missing m n d (p.leaves.backs i).listed (named i o) h first

  file-fails : HasListed b → (a : Result (XetFileInfo × DeduplicationMetrics) DataError) → IfErr a (λ e.
      (d.failed ≡ Some e) ⊎ ((h : MerkleHash) × IsFirstUnlisted m.listed d.parts.terms h × (e ≡ unknown_xorb h))
      ⊎ ChunkFails m n e) → IfErr (info_of_answer a) (λ e. SourceFails f.source s f.size p.bytes e
      ⊎ SessionFails b n e)
  file-fails i (Ok r) w = tt
  file-fails i (Err e) (inl k) = never-failed d.failed e p.unfailed k
  file-fails i (Err e) (inr (inl q)) = inr (inr (q.0, q.2, file-unlisted i q.0 q.1))
  file-fails i (Err e) (inr (inr w)) = inr (inl (chunk-later b m n e p.leaves.keeps w))

  file-unfailed : (a : Result (XetFileInfo × DeduplicationMetrics) DataError) → OnOk a (NoFault m n)
      → OnOk (info_of_answer a) (n.failed ≡ b.failed)
  file-unfailed (Ok r) e = e.0 ∙ p.fed.feeds.failed
  file-unfailed (Err e) a = tt

  -- the counts of its chunks, and those of the session
  file-counts : (a : Result (XetFileInfo × DeduplicationMetrics) DataError)
      → IfOk a (λ r. CountsChunks d.counts z.cut r.1) → IfOk a (λ r. Counts m n r.1)
      → OnOk (info_of_answer a) ((counts : DeduplicationMetrics) × CountsChunks no_counts cut counts
      × Counts b n counts)
  file-counts (Err e) k w = tt
  file-counts (Ok r) k w =
      let P : DeduplicationMetrics → Type 0 = λ c. CountsChunks c p.fed.feeds.cut d.counts in (
        r.1,
        counts-both no_counts d.counts r.1 p.fed.feeds.cut z.cut (subst P new.counts p.fed.feeds.counts) k,
        w ∙ ap (λ (y : DeduplicationMetrics). record
            (with_file_counts y r.1) { xorb_bytes_uploaded = n.metrics.xorb_bytes_uploaded }) p.leaves.counts,
      )

  -- the file was ended, or this failed; the bytes are those that were read
  pub file-ended : (x : UploadsFile b n f s (info_of_answer answer)) × (x.bytes ≡ p.bytes)
  file-ended = (
    record {
      keeps = keeps-both b m n p.leaves.keeps z.keeps;
      backs = λ h. backs-both b m n p.leaves.keeps (keeps-both b m n p.leaves.keeps z.keeps) (p.leaves.backs h) z.backs;
      cut = cut;
      puts = file-puts;
      turn = file-turn answer z.turn;
      full = file-full;
      thresholds = z.thresholds ∙ p.leaves.thresholds;
      waits = file-waits;
      bytes = p.bytes;
      rest = z.rest;
      bytes_are = file-bytes;
      all = on-info (z.rest ≡ []) answer z.all;
      places = file-places answer z.places z.all;
      hash = z.hash;
      hash_is = file-hash answer z.hash_is;
      unfailed = file-unfailed answer z.unfailed;
      said = λ t. file-said answer (z.said (p.fed.feeds.failed ∙ t));
      uncounted = file-uncounted answer z.uncounted;
      counts = file-counts answer z.counts z.counted;
      taken = p.taken;
      most = p.most;
      whole = on-ok _ (info_of_answer answer) whole;
      holds = λ k g y o a r. file-holds k y o a g r;
      stands = λ k y o a. file-stands k y o a;
      pointer = file-pointer answer (z.pointer p.bytes was_fed);
      why = λ i. file-fails i answer z.why;
    },
    refl,
  )
