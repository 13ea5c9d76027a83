-- The end of a cleaner: the session has a record of its file.
use Rattle.std.proofs.Common.{◌≡◌, ℕ, ◌⊎◌, inl, inr, true, false, List, [], ◌∷◌, ◌++◌, length, refl, sym, ◌∙◌, ap, subst}
use Rattle.std.specs.Prelude.{All, Contains, Option, Some, None, Result, Ok, Err, IfErr, IfOk, OnErr, OnOk}
use Rattle.std.proofs.lemmas.List.{append-nil}
use Rattle.std.proofs.lemmas.List.Elements.{All-contains, All-same, All-tail, Contains-append_right, Contains-push}
use Rattle.sha2.specs.Hashers.{Holds256}
use Rattle.xet_base.specs.declared.merklehash.MerkleHash.{MerkleHash}
use Rattle.xet_base.specs.Digests.{file_hash_of}
use Rattle.xet_base.specs.Store.{Store}
use Rattle.xet_pointer.specs.declared.xet_file_info.XetFileInfo.{XetFileInfo}
use Rattle.xet_upload.specs.FileDatas.{Parts, with_file}
use Rattle.xet_upload.specs.Standing.{world}
use Rattle.xet_upload.specs.Waitings.{Waiting, no_waiting}
use Rattle.xet_upload.specs.declared.data_error.DataError.{DataError}
use Rattle.xet_upload.specs.declared.data_error.DataError.TheVariants as data_error
use Rattle.xet_upload.specs.declared.metrics.DeduplicationMetrics.{DeduplicationMetrics}
use Rattle.xet_upload.specs.declared.sha256_policy.Sha256Policy.{Sha256Policy}
use Rattle.xet_upload.specs.declared.sha256_policy.Sha256Policy.TheVariants.{Compute}
use Rattle.xet_waiting.specs.declared.waiting.WaitingFile.{WaitingFile}
use Rattle.xet_upload_session.specs.Calls.{Backs, CountsSent, Keeps, finalized_error}
use Rattle.xet_upload_session.specs.Completions.{TakesFile, with_file_counts}
use Rattle.xet_upload_session.specs.Sessions.{HasListed, SessionTold, Tells, known_of, log_of, waiting_names}
use Rattle.xet_upload_session.proofs.CallerLemmas.{keeps-both, keeps-refl, ordered-grown}
use Rattle.xet_clean.specs.Cleaners.{Cleaner, CleanerStands, Completes, Counts, CountsChunks, CutsChunks, EndRefused, Finishes, IsFed, cleaned_file, unknown_xorb}
use Rattle.xet_clean_parts.specs.Cleanings.{IsFirstUnlisted}
use Rattle.xet_clean_parts.specs.Pointers.{pointer_to, recorded_sha256}
use Rattle.xet_clean_parts.specs.Cleanings.{AreNamed, ChunkFails, CleanFails, Leaves, NoFault, term_names}
use Rattle.xet_clean_parts.specs.Made.{IsPickedFrom, PutsInTurn, PutsLast, PutsMade, PutsNone, PutsSome, PutsToEnd, StayOne}
use Rattle.xet_clean_parts.specs.Premises.{HashesAgree, IsOpen, IsSteady, NoClash}
use Rattle.xet_clean.specs.Records.{CleanedFile, HasRecord, WaitsFor}
use Rattle.xet_clean_parts.proofs.CallerLemmas.{fails-later, fails-memory, leaves-refl, sent-both, steady-left}
use Rattle.xet_clean.proofs.Feeding.{cut-fed, cut-stands, never, never-failed}
use Rattle.xet_clean.proofs.Holding.{left-holds, takes-holds, takes-taken}
use Rattle.xet_clean_parts.proofs.CallerLemmas.{opened}
use Rattle.xet_clean_parts.proofs.CallerLemmas.{end-after, last-moved, made-before, made-less, made-moved, made-still, made-then, none-both, none-same, on-any, says-err, says-none, so-turn, turn-made}
use Rattle.xet_clean_parts.proofs.CallerLemmas.{picked-all, picked-behind, picked-both, picked-front, picked-trans, picked-within}
use Rattle.xet_clean_parts.proofs.CallerLemmas.{Contains-head, agree-alone, hashes-before, world-has}
use Rattle.xet_clean.proofs.Taking.{stay-picked, takes-full, takes-last, takes-puts, takes-thresholds, takes-waits, waits-still}

-- ---- the data of a file

-- the names of the data of one file
names-alone : (p : Parts) (id : ℕ) (h : MerkleHash) (sha : Option MerkleHash) → p.own.files ≡ [] → waiting_names
    (with_file p id h sha).files ≡ term_names p.terms
names-alone p id h sha e =
    let f : WaitingFile = record { file_id = id; hash = h; terms = p.terms; sha256 = sha } in
    ap (λ (fs : List WaitingFile). waiting_names (fs ++ f ∷ [])) e ∙ append-nil (term_names p.terms)

pub data-named : (l : List MerkleHash) (p : Parts) (w : Waiting) (id : ℕ) (h : MerkleHash) (sha : Option MerkleHash)
    → w ≡ with_file p id h sha → p.own.files ≡ [] → AreNamed l p.terms → All (Contains l) (waiting_names w.files)
data-named l p w id h sha is alone a =
    let P : Waiting → Type 0 = λ z. All (Contains l) (waiting_names z.files) in
    subst P (sym is) (All-same (Contains l) (waiting_names (with_file p id h sha).files) (term_names p.terms)
    (names-alone p id h sha alone) a)

pub file-waits : (s : Store) (c : Cleaner) (bytes : List ℕ) (id : ℕ) (h : MerkleHash) (sha : Option MerkleHash)
    → c.pending ≡ [] → h ≡ file_hash_of c.parts.infos → sha ≡ recorded_sha256 c.policy bytes → CleanerStands s c bytes
    → WaitsFor s (with_file c.parts id h sha) (cleaned_file c h bytes)
file-waits s c bytes id h sha ended is recorded a =
    let f : WaitingFile = record { file_id = id; hash = h; terms = c.parts.terms; sha256 = sha } in
    record {
      file = f;
      is_there = Contains-push c.parts.own.files f;
      hash = refl;
      sha256 = recorded;
      chunks = a.parts.chunks;
      has = record {
        hash = is ∙ ap file_hash_of a.parts.infos_are;
        bytes = a.bytes_are ∙ ap (λ (xs : List ℕ). a.front ++ xs) ended ∙ append-nil a.front ∙ a.parts.bytes_are;
      };
      stand = a.parts.stand;
    }

pub backs-both : (b m n : SessionTold) → Keeps b m → Keeps b n → Backs b m → Backs m n → Backs b n
backs-both b m n k keeps one two = record {
  listed = two.listed;
  backed = λ t s. two.backed (k.tells t) (one.backed t s);
  ordered = λ t s. ordered-grown b n (known_of b) (keeps.grew t);
}

module _ (b : SessionTold) (c : Cleaner) (ended : c.pending ≡ []) (hash : MerkleHash)
    (is : hash ≡ file_hash_of c.parts.infos) (sha : Option MerkleHash)
    (recorded : (bytes : List ℕ) → (c.policy ≡ Compute → Holds256 c.hasher bytes)
    → sha ≡ recorded_sha256 c.policy bytes) where
  -- memory was refused before the session had the data
  pub completes-none : (n : SessionTold) (e : DataError) → n ≡ b → e ≡ data_error.OutOfMemory → Completes b n c (Err e)
  completes-none n e same why = record {
    keeps = keeps-refl b n same;
    backs = (leaves-refl b n same).backs;
    puts = λ t. made-still b n (b.waiting.chunks ++ c.parts.own.chunks) n.waiting.chunks
        (waits-still b n c.parts.own.chunks (ap (λ (z : SessionTold). z.waiting) same)) (ap log_of same)
        (ap (λ (z : SessionTold). z.repeated) same);
    last = λ t. tt;
    full = λ w. none-same b n same;
    thresholds = ap (λ (z : SessionTold). z.thresholds) same;
    waits = waits-still b n c.parts.own.chunks (ap (λ (z : SessionTold). z.waiting) same);
    hash = hash;
    hash_is = is;
    holds = λ k f s o a r. subst (λ (z : SessionTold). HasRecord k z f) (sym same) r;
    stands = λ k bytes s o a r. tt;
    pointer = λ bytes a. tt;
    unfailed = tt;
    counts = tt;
    counted = tt;
    uncounted = (leaves-refl b n same).counts;
    said = says-none b n (Err e) (ap (λ (z : SessionTold). z.failed) same);
    why = fails-memory b n e why;
  }

  module _ (w : Waiting) (id : ℕ) (data_is : w ≡ with_file c.parts id hash sha) (now : ℕ) where
    waits : (s : Store) (bytes : List ℕ) → CleanerStands s c bytes → WaitsFor s w (cleaned_file c hash bytes)
    waits s bytes a =
        let P : Waiting → Type 0 = λ z. WaitsFor s z (cleaned_file c hash bytes) in
        subst P (sym data_is) (file-waits s c bytes id hash sha ended is (recorded bytes a.fed.hashed) a)

    -- its chunks are the file's own
    chunks_are : w.chunks ≡ c.parts.own.chunks
    chunks_are = ap (λ (z : Waiting). z.chunks) data_is

    puts-own : (n : SessionTold) (answer : Result (Unit {0}) DataError) → TakesFile b n w now answer → Tells b
        → PutsMade b n (b.waiting.chunks ++ c.parts.own.chunks) n.waiting.chunks
    puts-own n answer t tells =
        let P : List (List ℕ) → Type 0 = λ cs. PutsMade b n (b.waiting.chunks ++ cs) n.waiting.chunks in
        subst P chunks_are (takes-puts b n w now answer t tells)

    last-own : (n : SessionTold) (u : Unit {0}) → TakesFile b n w now (Ok u) → Tells b
        → PutsLast b n c.parts.own.chunks
    last-own n u t tells = subst (PutsLast b n) chunks_are (takes-last b n w now u t tells)

    full-own : (n : SessionTold) (answer : Result (Unit {0}) DataError) → TakesFile b n w now answer
        → StayOne b c.parts.own.chunks → PutsNone b n
    full-own n answer t s = takes-full b n w now answer t
        (subst (λ (cs : List (List ℕ)). StayOne b cs) (sym chunks_are) s)

    waits-own : (n : SessionTold) (answer : Result (Unit {0}) DataError) → TakesFile b n w now answer
        → IsPickedFrom n.waiting.chunks (b.waiting.chunks ++ c.parts.own.chunks)
    waits-own n answer t =
        let P : List (List ℕ) → Type 0 = λ cs. IsPickedFrom n.waiting.chunks (b.waiting.chunks ++ cs) in
        subst P chunks_are (takes-waits b n w now answer t)

    -- the session refused the data
    pub completes-err : (n : SessionTold) (e : DataError) → TakesFile b n w now (Err e) → Backs b n → Completes b n c
        (Err e)
    completes-err n e t k = record {
      keeps = t.keeps;
      backs = λ h. k;
      puts = puts-own n (Err e) t;
      last = λ x. tt;
      full = full-own n (Err e) t;
      thresholds = takes-thresholds b n w now (Err e) t;
      waits = waits-own n (Err e) t;
      hash = hash;
      hash_is = is;
      holds = λ m f s o a r. takes-holds m b n w now s o f a (Err e) t r;
      stands = λ m bytes s o a r. tt;
      pointer = λ bytes a. tt;
      unfailed = tt;
      counts = tt;
      counted = tt;
      uncounted = t.counts;
      said = λ none. says-err n e (t.said none);
      why = inr t.why;
    }

    module _ (m : SessionTold) (counts : DeduplicationMetrics) (u : Unit {0}) (t : TakesFile b m w now (Ok u))
        (one : Backs b m) (info : XetFileInfo) (pointer : info ≡ pointer_to hash c.fed sha)
        (merged : counts ≡ with_file_counts m.metrics c.counts) where
      abbrev n' : SessionTold
      n' = record m { metrics = counts }

      open-before : IsOpen n' → IsOpen m
      open-before o = record { unfailed = o.unfailed; unfinished = o.unfinished }

      counted-all : Counts b n' c.counts
      counted-all =
          let from_b : counts ≡ record (with_file_counts b.metrics c.counts) {
            xorb_bytes_uploaded =
                m.metrics.xorb_bytes_uploaded;
          } = merged
          ∙ ap (λ (z : DeduplicationMetrics). with_file_counts z c.counts) t.counts in
          let sent : m.metrics.xorb_bytes_uploaded ≡ counts.xorb_bytes_uploaded = sym (ap (λ
          (z : DeduplicationMetrics). z.xorb_bytes_uploaded) merged) in
          from_b ∙ ap (λ (z : ℕ). record (with_file_counts b.metrics c.counts) { xorb_bytes_uploaded = z }) sent

      counted : Keeps m n' → Backs m n' → Completes b n' c (Ok (info, c.counts))
      counted keeps two =
          let whole = keeps-both b m n' t.keeps keeps in
          record {
            keeps = whole;
            backs = λ h. backs-both b m n' t.keeps whole one two;
            puts = λ x. made-moved b b m n' (b.waiting.chunks ++ c.parts.own.chunks) m.waiting.chunks refl refl refl
                refl (puts-own m (Ok u) t x);
            last = λ x. last-moved b m n' c.parts.own.chunks refl refl refl (last-own m u t x);
            full = λ s x. full-own m (Ok u) t s x;
            thresholds = takes-thresholds b m w now (Ok u) t;
            waits = waits-own m (Ok u) t;
            hash = hash;
            hash_is = is;
            holds = λ k f s o a r. takes-holds k b m w now s (open-before o) f a (Ok u) t r;
            stands = λ k bytes s o a r. takes-taken k b m w now s (open-before o) (cleaned_file c hash bytes) a u t
                (waits (world k (log_of b)) bytes r);
            pointer = λ bytes a. pointer ∙ ap (λ (z : ℕ). pointer_to hash z sha) a.count
                ∙ ap (λ (o : Option MerkleHash). pointer_to hash (length bytes) o) (recorded bytes a.hashed);
            unfailed = t.unfailed;
            counts = refl;
            counted = counted-all;
            uncounted = tt;
            said = says-none b n' (Ok (info, c.counts)) t.unfailed;
            why = tt;
          }

      -- the session has the record, and its counts are added
      pub completes-ok : (n : SessionTold) → n ≡ record m { metrics = counts } → Keeps m n → Backs m n
          → Completes b n c (Ok (info, c.counts))
      completes-ok n same keeps two =
          let P : SessionTold → Type 0 = λ z. Keeps m z → Backs m z → Completes b z c (Ok (info, c.counts)) in
          subst P (sym same) counted keeps two

-- ---- the exits of `finish`

kept-holds : (b n : SessionTold) → n ≡ b → (k : Store) (f : CleanedFile) → HasRecord k b f → HasRecord k n f
kept-holds b n e k f r = subst (λ (z : SessionTold). HasRecord k z f) (sym e) r

module _ (b n : SessionTold) (c : Cleaner) (listed : HasListed b) where
  -- the session is finalized
  pub finishes-finalized : n ≡ b → b.finalized ≡ true → Finishes b n c (Err finalized_error)
  finishes-finalized e fin = record {
    keeps = keeps-refl b n e;
    backs = (leaves-refl b n e).backs listed;
    cut = [];
    rest = c.pending;
    pending = refl;
    places = tt;
    all = tt;
    puts = λ t. made-still b n (b.waiting.chunks ++ (c.parts.own.chunks ++ [])) n.waiting.chunks
        (waits-still b n (c.parts.own.chunks ++ []) (ap (λ (z : SessionTold). z.waiting) e)) (ap log_of e)
        (ap (λ (z : SessionTold). z.repeated) e);
    turn = λ t. tt;
    full = λ w. none-same b n e;
    thresholds = ap (λ (z : SessionTold). z.thresholds) e;
    waits = waits-still b n (c.parts.own.chunks ++ []) (ap (λ (z : SessionTold). z.waiting) e);
    hash = file_hash_of c.parts.infos;
    hash_is = tt;
    holds = λ k f s o a r. kept-holds b n e k f r;
    stands = λ k bytes s o a r. tt;
    pointer = λ bytes a. tt;
    counts = tt;
    counted = tt;
    uncounted = (leaves-refl b n e).counts;
    unfailed = tt;
    said = says-none b n (Err finalized_error) (ap (λ (z : SessionTold). z.failed) e);
    finalized = λ g. (refl, e);
    kept = λ g. never b.finalized g fin;
    unknown = λ g. never b.finalized g fin;
    why = inr (inr (inl (inl (refl, fin))));
  }

  -- the cleaner failed before
  pub finishes-kept : (e : DataError) → n ≡ b → b.finalized ≡ false → c.failed ≡ Some e → Finishes b n c (Err e)
  finishes-kept e same fin failed = record {
    keeps = keeps-refl b n same;
    backs = (leaves-refl b n same).backs listed;
    cut = [];
    rest = c.pending;
    pending = refl;
    places = tt;
    all = tt;
    puts = λ t. made-still b n (b.waiting.chunks ++ (c.parts.own.chunks ++ [])) n.waiting.chunks
        (waits-still b n (c.parts.own.chunks ++ []) (ap (λ (z : SessionTold). z.waiting) same)) (ap log_of same)
        (ap (λ (z : SessionTold). z.repeated) same);
    turn = λ t. tt;
    full = λ w. none-same b n same;
    thresholds = ap (λ (z : SessionTold). z.thresholds) same;
    waits = waits-still b n (c.parts.own.chunks ++ []) (ap (λ (z : SessionTold). z.waiting) same);
    hash = file_hash_of c.parts.infos;
    hash_is = tt;
    holds = λ k f s o a r. kept-holds b n same k f r;
    stands = λ k bytes s o a r. tt;
    pointer = λ bytes a. tt;
    counts = tt;
    counted = tt;
    uncounted = (leaves-refl b n same).counts;
    unfailed = tt;
    said = says-none b n (Err e) (ap (λ (z : SessionTold). z.failed) same);
    finalized = λ g. never b.finalized fin g;
    kept = λ g x k. (
      let both : Some e ≡ Some x = sym failed ∙ k in let one : e ≡ x = cc in ap (λ
          (z : DataError). Err z) one,
      same,
    );
    unknown = λ g k. never-failed c.failed e k failed;
    why = inl failed;
  }

  -- two xorbs that are the first which isn't on the list are one
  first-one : (front more rest tail : List MerkleHash) (h g : MerkleHash) → front ++ h ∷ rest ≡ more ++ g ∷ tail
      → All (Contains b.listed) front → All (Contains b.listed) more → (Contains b.listed h → ⊥)
      → (Contains b.listed g → ⊥) → h ≡ g
  first-one [] [] rest tail h g e a k x y = cc
  first-one [] (m ∷ more) rest tail h g e a k x y = let same : h ≡ m = cc in absurd (x (subst (Contains b.listed)
      (sym same) (All-contains (Contains b.listed) (m ∷ more) m k (Contains-head m more))))
  first-one (f ∷ front) [] rest tail h g e a k x y = let same : f ≡ g = cc in absurd (y (subst
      (Contains b.listed) same (All-contains (Contains b.listed) (f ∷ front) f a (Contains-head f front))))
  first-one (f ∷ front) (m ∷ more) rest tail h g e a k x y =
      let later : front ++ h ∷ rest ≡ more ++ g ∷ tail = cc in
      first-one front more rest tail h g later (tail-of f front a) (tail-of m more k) x y
    where
      tail-of : (z : MerkleHash) (zs : List MerkleHash) → All (Contains b.listed) (z ∷ zs) → All (Contains b.listed) zs
      tail-of z zs q = All-tail (Contains b.listed) z zs q

  -- a xorb of the cleaner's terms isn't on the list
  pub finishes-unknown : (h : MerkleHash) → n ≡ b → b.finalized ≡ false → c.failed ≡ None
      → IsFirstUnlisted b.listed c.parts.terms h → Finishes b n c (Err (unknown_xorb h))
  finishes-unknown h same fin none first = record {
    keeps = keeps-refl b n same;
    backs = (leaves-refl b n same).backs listed;
    cut = [];
    rest = c.pending;
    pending = refl;
    places = tt;
    all = tt;
    puts = λ t. made-still b n (b.waiting.chunks ++ (c.parts.own.chunks ++ [])) n.waiting.chunks
        (waits-still b n (c.parts.own.chunks ++ []) (ap (λ (z : SessionTold). z.waiting) same)) (ap log_of same)
        (ap (λ (z : SessionTold). z.repeated) same);
    turn = λ t. tt;
    full = λ w. none-same b n same;
    thresholds = ap (λ (z : SessionTold). z.thresholds) same;
    waits = waits-still b n (c.parts.own.chunks ++ []) (ap (λ (z : SessionTold). z.waiting) same);
    hash = file_hash_of c.parts.infos;
    hash_is = tt;
    holds = λ k f s o a r. kept-holds b n same k f r;
    stands = λ k bytes s o a r. tt;
    pointer = λ bytes a. tt;
    counts = tt;
    counted = tt;
    uncounted = (leaves-refl b n same).counts;
    unfailed = tt;
    said = says-none b n (Err (unknown_xorb h)) (ap (λ (z : SessionTold). z.failed) same);
    finalized = λ g. never b.finalized fin g;
    kept = λ g x k. never-failed c.failed x none k;
    unknown = λ g k x other. (
      ap (λ (z : MerkleHash). Err (unknown_xorb z))
          (first-one first.front other.front first.rest other.rest h x (sym first.split
          ∙ other.split) first.before other.before first.missing other.missing),
      same,
    );
    why = inr (inl (h, first, refl));
  }

  -- it is refused, and nothing was cut
  pub finishes-refused : (e : DataError) → n ≡ b → EndRefused b c e → Finishes b n c (Err e)
  finishes-refused e same (inl r) = rw r.1 (finishes-finalized same r.0)
  finishes-refused e same (inr (inl r)) = finishes-kept e same r.0 r.1
  finishes-refused e same (inr (inr (fin, none, h, first, is))) = rw is (finishes-unknown h same fin none first)

  -- no xorb of them is missing
  pub none-missing : AreNamed b.listed c.parts.terms → (h : MerkleHash) → IsFirstUnlisted b.listed c.parts.terms h → ⊥
  none-missing a h first =
      let all = All-same (Contains b.listed) (first.front ++ h ∷ first.rest) (term_names c.parts.terms)
      (sym first.split) a in
      first.missing (All-contains (Contains b.listed) (first.front ++ h ∷ first.rest) h all
      (Contains-append_right first.front (h ∷ first.rest) h (Contains-head h first.rest)))

  -- the file's own chunks and those that were cut stand behind what waits
  behind : (cut : List (List ℕ)) → IsPickedFrom (c.parts.own.chunks ++ cut)
      (b.waiting.chunks ++ (c.parts.own.chunks ++ cut))
  behind cut = picked-behind b.waiting.chunks (c.parts.own.chunks ++ cut) (c.parts.own.chunks ++ cut)
      (picked-all (c.parts.own.chunks ++ cut))

  -- what was put of them, where what waited waits on
  uncut-puts : (cut left : List (List ℕ)) → n.waiting ≡ b.waiting → PutsInTurn b n c.parts.own.chunks cut left
      → PutsMade b n (b.waiting.chunks ++ (c.parts.own.chunks ++ cut)) n.waiting.chunks
  uncut-puts cut left same p =
      let all = b.waiting.chunks ++ (c.parts.own.chunks ++ cut) in
      let P : Waiting → Type 0 = λ w. PutsMade b n all w.chunks in
      subst P (sym same) (made-less b n all (b.waiting.chunks ++ left) b.waiting.chunks
      (picked-front b.waiting.chunks b.waiting.chunks left (picked-all b.waiting.chunks))
      (made-before b n b.waiting.chunks (c.parts.own.chunks ++ cut) left
      (turn-made b n c.parts.own.chunks cut left p)))

  -- a chunk of the bytes that waited failed
  pub finishes-uncut : (e : DataError) → Leaves b n
      → (after : List (List ℕ)) → PutsSome {A = Unit {0}} b n c.parts.own.chunks c.pending after (Err e)
      → b.finalized ≡ false → c.failed ≡ None → AreNamed b.listed c.parts.terms → ChunkFails b n e
      → Finishes b n c (Err e)
  finishes-uncut e l after p fin none named why = record {
    keeps = l.keeps;
    backs = l.backs listed;
    cut = p.cut;
    rest = p.rest;
    pending = p.bytes_are;
    places = tt;
    all = tt;
    puts = λ t. uncut-puts p.cut p.so.left l.waiting (p.so.puts t);
    turn = λ t. tt;
    full = λ w. p.so.full (picked-within (c.parts.own.chunks ++ p.cut)
        (b.waiting.chunks ++ (c.parts.own.chunks ++ p.cut)) (behind p.cut) w.within);
    thresholds = l.thresholds;
    waits = waits-still b n (c.parts.own.chunks ++ p.cut) l.waiting;
    hash = file_hash_of c.parts.infos;
    hash_is = tt;
    holds = λ k f s o a r. left-holds k b n no_waiting 0 s o f l.keeps l.waiting l.finished r;
    stands = λ k bytes s o a r. tt;
    pointer = λ bytes a. tt;
    counts = tt;
    counted = tt;
    uncounted = l.counts;
    unfailed = tt;
    said = λ t. says-err n e (p.so.said t);
    finalized = λ g. never b.finalized fin g;
    kept = λ g x k. never-failed c.failed x none k;
    unknown = λ g k x first. absurd (none-missing named x first);
    why = inr (inr why);
  }

  module _ (m : SessionTold) (d : Cleaner) (l : Leaves b m) (cuts : CutsChunks true b m c d) (answer : Result (XetFileInfo
      × DeduplicationMetrics) DataError) (z : Completes m n d answer) where
    abbrev own : List (List ℕ)
    own = c.parts.own.chunks ++ cuts.cut

    policy : d.policy ≡ c.policy
    policy = ap (λ (y : Cleaner). y.policy) cuts.same

    module _ (k : Store) (s : IsSteady k b) (o : IsOpen n) (agree : HashesAgree k n) where
      was_open : IsOpen m
      was_open = opened m n z.keeps o

      agreed : HashesAgree k m
      agreed = hashes-before k m n z.keeps (l.keeps.tells s.tells) agree

      middle : IsSteady k m
      middle = steady-left k b m l (agree-alone (world k (log_of m)) m.repeated agreed) s

      finish-holds : (f : CleanedFile) → HasRecord k b f → HasRecord k n f
      finish-holds f r = z.holds k f middle o agree
          (left-holds k b m no_waiting 0 s was_open f l.keeps l.waiting l.finished r)

    module _ (k : Store) (s : IsSteady k b) (o : IsOpen n) (clash : NoClash k n cuts.cut) where
      before : NoClash k m cuts.cut
      before = record {
        xorbs = hashes-before k m n z.keeps (l.keeps.tells s.tells) clash.xorbs;
        chunks = λ x y e f.
            let g = z.keeps.grew (l.keeps.tells s.tells) in
            clash.chunks x y (world-has k (log_of m) (log_of n) _ g.grown x e) f;
      }

      finish-stands : (bytes : List ℕ) → CleanerStands (world k (log_of b)) c bytes → OnOk answer (HasRecord k n
          (cleaned_file c z.hash bytes))
      finish-stands bytes a =
          let P : Sha256Policy → Type 0 = λ p. OnOk answer (HasRecord k n (record {
            hash = z.hash;
            sha256 =
                recorded_sha256 p bytes;
            bytes = bytes;
          })) in
          subst P policy (z.stands k bytes (middle k s o clash.xorbs) o clash.xorbs
          (cut-stands true b m c d cuts k bytes s (opened m n z.keeps o) before a))

    finish-pointer : (bytes : List ℕ) → IsFed c bytes → IfOk answer (λ r. r.0 ≡ pointer_to z.hash (length bytes)
        (recorded_sha256 c.policy bytes))
    finish-pointer bytes a =
        let P : Sha256Policy → Type 0 = λ p. IfOk answer (λ r. r.0 ≡ pointer_to z.hash (length bytes)
        (recorded_sha256 p bytes)) in
        subst P policy (z.pointer bytes (cut-fed true b m c d cuts bytes a))

    finish-counted : (x : Result (XetFileInfo × DeduplicationMetrics) DataError) → IfOk x (λ r. Counts m n r.1)
        → IfOk x (λ r. Counts b n r.1)
    finish-counted (Ok r) e = e ∙ ap (λ (y : DeduplicationMetrics). record
        (with_file_counts y r.1) { xorb_bytes_uploaded = n.metrics.xorb_bytes_uploaded }) l.counts
    finish-counted (Err x) e = tt

    fails : (x : Result (XetFileInfo × DeduplicationMetrics) DataError) → IfErr x (CleanFails m n) → IfErr x (λ e.
        (c.failed ≡ Some e) ⊎ ((h : MerkleHash) × IsFirstUnlisted b.listed c.parts.terms h × (e ≡ unknown_xorb h))
        ⊎ ChunkFails b n e)
    fails (Ok r) f = tt
    fails (Err e) f = inr (inr (inl (fails-later b m n e l f)))

    finish-counts : (x : Result (XetFileInfo × DeduplicationMetrics) DataError) → IfOk x (λ r. r.1 ≡ d.counts)
        → IfOk x (λ r. CountsChunks c.counts cuts.cut r.1)
    finish-counts (Ok r) e =
        subst (λ (m : DeduplicationMetrics). CountsChunks c.counts cuts.cut m) (sym e) cuts.counts
    finish-counts (Err x) e = tt

    finish-unfailed : (x : Result (XetFileInfo × DeduplicationMetrics) DataError) → OnOk x (n.failed ≡ m.failed)
        → OnOk x (NoFault b n)
    finish-unfailed (Ok r) e =
        let same = e ∙ cuts.cleans.failed in
        (same, (keeps-both b m n l.keeps z.keeps).steady (inl same))
    finish-unfailed (Err x) e = tt

    -- what is put, and what waits
    with-own : IsPickedFrom (m.waiting.chunks ++ d.parts.own.chunks) (b.waiting.chunks ++ own)
    with-own =
        let P : Waiting → Type 0 = λ w. IsPickedFrom (w.chunks ++ d.parts.own.chunks) (b.waiting.chunks ++ own) in
        subst P (sym l.waiting) (picked-both b.waiting.chunks d.parts.own.chunks b.waiting.chunks own
        (picked-all b.waiting.chunks) cuts.cleans.into.own)

    cut-puts : Tells b → PutsMade b m (b.waiting.chunks ++ own) (m.waiting.chunks ++ d.parts.own.chunks)
    cut-puts t =
        let P : Waiting → Type 0 = λ w. PutsMade b m (b.waiting.chunks ++ own) (w.chunks ++ d.parts.own.chunks) in
        let turn = so-turn b m c.parts.own.chunks cuts.cut d.parts.own.chunks tt cuts.so t in
        subst P (sym l.waiting) (made-before b m b.waiting.chunks own d.parts.own.chunks
        (turn-made b m c.parts.own.chunks cuts.cut d.parts.own.chunks turn))

    finish-puts : Tells b → PutsMade b n (b.waiting.chunks ++ own) n.waiting.chunks
    finish-puts t = made-then b m n (b.waiting.chunks ++ own) (m.waiting.chunks ++ d.parts.own.chunks)
        n.waiting.chunks with-own (cut-puts t) (z.puts (l.keeps.tells t))

    finish-turn : (x : Result (XetFileInfo × DeduplicationMetrics) DataError)
        → (Tells m → OnOk x (PutsLast m n d.parts.own.chunks)) → Tells b
        → OnOk x (PutsToEnd b n c.parts.own.chunks cuts.cut)
    finish-turn (Ok r) f t = end-after b m n c.parts.own.chunks cuts.cut d.parts.own.chunks l.waiting
        (so-turn b m c.parts.own.chunks cuts.cut d.parts.own.chunks tt cuts.so t) (f (l.keeps.tells t))
    finish-turn (Err e) f t = tt

    finish-full : StayOne b own → PutsNone b n
    finish-full w = none-both b m n l.keeps
        (cuts.so.full (picked-within own (b.waiting.chunks ++ own) (behind cuts.cut) w.within))
        (z.full (stay-picked b m d.parts.own.chunks own with-own l.thresholds w))

    finish-waits : IsPickedFrom n.waiting.chunks (b.waiting.chunks ++ own)
    finish-waits = picked-trans n.waiting.chunks (m.waiting.chunks ++ d.parts.own.chunks) (b.waiting.chunks ++ own)
        z.waits with-own

    finish-uncounted : (x : Result (XetFileInfo × DeduplicationMetrics) DataError) → OnErr x (CountsSent m n)
        → OnErr x (CountsSent b n)
    finish-uncounted (Ok r) e = tt
    finish-uncounted (Err x) e = sent-both b m n l.counts e

    -- all bytes were cut, and the session took the data or refused it
    pub finishes-complete : b.finalized ≡ false → c.failed ≡ None → AreNamed b.listed c.parts.terms
        → d.pending ≡ [] → Finishes b n c answer
    finishes-complete fin none named ended =
        let one = l.backs listed in
        let whole = keeps-both b m n l.keeps z.keeps in
        record {
          keeps = whole;
          backs = backs-both b m n l.keeps whole one (z.backs one.listed);
          cut = cuts.cut;
          rest = d.pending;
          pending = cuts.pending;
          places = on-any answer cuts.places;
          all = on-any answer ended;
          puts = finish-puts;
          turn = finish-turn answer z.last;
          full = finish-full;
          thresholds = z.thresholds ∙ l.thresholds;
          waits = finish-waits;
          hash = z.hash;
          hash_is = on-any answer (z.hash_is ∙ ap file_hash_of cuts.cleans.into.infos);
          holds = λ k f s o a r. finish-holds k s o a f r;
          stands = λ k bytes s o a r. finish-stands k s o a bytes r;
          pointer = finish-pointer;
          counts = finish-counts answer z.counts;
          counted = finish-counted answer z.counted;
          uncounted = finish-uncounted answer z.uncounted;
          said = λ t. z.said (cuts.cleans.failed ∙ t);
          unfailed = finish-unfailed answer z.unfailed;
          finalized = λ g. never b.finalized fin g;
          kept = λ g x k. never-failed c.failed x none k;
          unknown = λ g k x first. absurd (none-missing named x first);
          why = fails answer z.why;
        }
