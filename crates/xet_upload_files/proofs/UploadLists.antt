-- Several uploads in a row: what the session has of them, and what becomes of the list of files.
use Rattle.std.proofs.Common.{◌≡◌, ℕ, ◌+◌, ◌<◌, ◌≤◌, ◌⊎◌, inl, inr, true, false, List, [], ◌∷◌, ◌++◌, length, map, take, drop, set, get_or, refl, sym, ◌∙◌, ap, subst, arith}
use Rattle.std.specs.Prelude.{Option, Some, None, All, Result, Ok, Err}
use Rattle.std.proofs.lemmas.List.{append_assoc, append-nil, drop-set, drop-set-lt, drop_more, get_or_default, length-drop, length-map, map-append, map-set, take-append-drop, take-set, take_all, take_more, take_more_set}
use Rattle.std.specs.List.{concat}
use Rattle.std.proofs.lemmas.List.Concat.{flat_map-append}
use Rattle.std.proofs.lemmas.List.Elements.{All-nil, All-append, All-cons, All-weaker}
use Rattle.std.proofs.Math.ListN.{get_or-map}
use Rattle.std.proofs.lemmas.Grind.{drop_more_same}
use Rattle.xet_base.specs.declared.merklehash.MerkleHash.{MerkleHash}
use Rattle.xet_base.specs.Digests.{file_hash_of, infos_of}
use Rattle.xet_base.specs.Store.{Store}
use Rattle.xet_outside.specs.Told.{SourceTold}
use Rattle.xet_pointer.specs.declared.xet_file_info.XetFileInfo.{XetFileInfo}
use Rattle.xet_upload.specs.Metrics.{no_counts}
use Rattle.xet_upload.specs.Standing.{world}
use Rattle.xet_upload.specs.declared.metrics.DeduplicationMetrics.{DeduplicationMetrics}
use Rattle.xet_upload.specs.declared.data_error.DataError.{DataError}
use Rattle.xet_upload_session.specs.Calls.{Backs, Keeps, Says, finalized_error}
use Rattle.xet_upload_session.specs.Completions.{with_file_counts}
use Rattle.xet_upload_session.specs.Sessions.{HasListed, SessionTold, Tells, log_of}
use Rattle.xet_upload_session.proofs.CallerLemmas.{keeps-both, keeps-refl}
use Rattle.xet_clean_parts.specs.Made.{IsPickedFrom, PutsMade, PutsNone, PutsToEnd, StayOne}
use Rattle.xet_clean_parts.specs.Places.{CutFile, Telling}
use Rattle.xet_clean_parts.specs.Premises.{HashesAgree, IsOpen, IsSteady, NoClash}
use Rattle.xet_clean.specs.Records.{CleanedFile, HasRecord}
use Rattle.xet_clean.specs.Cleaners.{CountsChunks}
use Rattle.xet_upload_files.specs.Uploads.{CountsFiles, EndsUpload, EndsUploads, fixed_sizes, FailsFirst, FileTold, HasUploads, IsUpload, SessionFails, SourceFails, StopsBehind, StopsUpload, TakesOff, Upload, UploadsFiles, all_chunks, file_after, recorded_file, upload_pointer}
use Rattle.xet_upload_files.specs.steps.Uploading.{Progress, UploadsAlone, UploadsFile}
use Rattle.xet_clean_parts.proofs.CallerLemmas.{clash-after, clash-before, hashes-before, leaves-refl}
use Rattle.xet_clean.proofs.CallerLemmas.{backs-both, stay-picked, waits-still}
use Rattle.xet_clean.proofs.CallerLemmas.{never}
use Rattle.xet_clean_parts.proofs.CallerLemmas.{opened}
use Rattle.xet_clean_parts.proofs.CallerLemmas.{made-both, made-still, none-both, none-same, picked-all, picked-both, picked-front, picked-later, says-err, says-none}
use Rattle.xet_upload_files.proofs.Uploading.{chunk-later}
use Rattle.xet_clean_parts.proofs.CallerLemmas.{agree-alone}

-- ---- what the session has

pub uploads-none : (b n : SessionTold) → n ≡ b → HasListed b → HasUploads b n [] []
uploads-none b n e listed = record {
  keeps = keeps-refl b n e;
  backs = (leaves-refl b n e).backs listed;
  puts = λ t. made-still b n (b.waiting.chunks ++ []) n.waiting.chunks
      (waits-still b n [] (ap (λ (z : SessionTold). z.waiting) e)) (ap log_of e)
      (ap (λ (z : SessionTold). z.repeated) e);
  full = λ w. none-same b n e;
  thresholds = ap (λ (z : SessionTold). z.thresholds) e;
  waits = waits-still b n [] (ap (λ (z : SessionTold). z.waiting) e);
  are = All-nil IsUpload;
  holds = λ k f s o a r. subst (λ (z : SessionTold). HasRecord k z f) (sym e) r;
  stand = λ k s o a. All-nil (λ (u : Upload). HasRecord k n (recorded_file u));
}

module _ (b m n : SessionTold) (done : List Upload) (f : FileTold) (s : SourceTold) (l : Telling)
    (answer : Result XetFileInfo DataError) (h : HasUploads b m (all_chunks done) done)
    (x : UploadsFile m n f s answer) where
  keeps : Keeps b n
  keeps = keeps-both b m n h.keeps x.keeps

  backs : Backs b n
  backs = backs-both b m n h.keeps keeps h.backs (x.backs h.backs.listed)

  abbrev cut : List (List ℕ)
  cut = all_chunks done ++ x.cut

  -- what was cut before, and what may be cut now
  before-own : IsPickedFrom (b.waiting.chunks ++ all_chunks done) (b.waiting.chunks ++ cut)
  before-own = picked-both b.waiting.chunks (all_chunks done) b.waiting.chunks cut (picked-all b.waiting.chunks)
      (picked-front (all_chunks done) (all_chunks done) x.cut (picked-all (all_chunks done)))

  now-own : IsPickedFrom (m.waiting.chunks ++ x.cut) (b.waiting.chunks ++ cut)
  now-own = picked-later (m.waiting.chunks ++ x.cut) m.waiting.chunks b.waiting.chunks (all_chunks done) x.cut
      (picked-all (m.waiting.chunks ++ x.cut)) h.waits

  puts : Tells b → PutsMade b n (b.waiting.chunks ++ cut) n.waiting.chunks
  puts t = made-both b m n b.waiting.chunks m.waiting.chunks (all_chunks done) x.cut n.waiting.chunks h.waits (h.puts t)
      (x.puts (h.keeps.tells t))

  full : StayOne b cut → PutsNone b n
  full w = none-both b m n h.keeps (h.full (stay-picked b b (all_chunks done) cut before-own refl w))
      (x.full (stay-picked b m x.cut cut now-own h.thresholds w))

  waits : IsPickedFrom n.waiting.chunks (b.waiting.chunks ++ cut)
  waits = picked-later n.waiting.chunks m.waiting.chunks b.waiting.chunks (all_chunks done) x.cut x.waits h.waits

  abbrev one : Upload
  one = record { file = f; source = s; later = l; bytes = x.bytes; chunks = x.cut; hash = x.hash }

  module _ (k : Store) (y : IsSteady k b) (o : IsOpen n) (agree : HashesAgree k n) where
    agreed : HashesAgree k m
    agreed = hashes-before k m n x.keeps (h.keeps.tells y.tells) agree

    middle : IsSteady k m
    middle = record {
      tells = h.keeps.tells y.tells;
      backed = h.backs.backed y.tells y.backed;
      listed = h.backs.listed;
      sound = h.keeps.sound k y.tells (agree-alone (world k (log_of m)) m.repeated agreed) y.sound;
    }

    was_open : IsOpen m
    was_open = opened m n x.keeps o

    uploads-hold : (g : CleanedFile) → HasRecord k b g → HasRecord k n g
    uploads-hold g r = x.holds k g middle o agree (h.holds k g y was_open agreed r)

  uploads-stand : (k : Store) → IsSteady k b → IsOpen n → NoClash k n cut
      → All (λ u. HasRecord k n (recorded_file u)) done
  uploads-stand k y o clash =
      let P : Upload → Type 0 = λ u. HasRecord k m (recorded_file u) in
      let Q : Upload → Type 0 = λ u. HasRecord k n (recorded_file u) in
      All-weaker P Q (λ u r. x.holds k (recorded_file u) (middle k y o clash.xorbs) o clash.xorbs r) done
      (h.stand k y (opened m n x.keeps o)
      (clash-before k m n (all_chunks done) x.cut x.keeps (h.keeps.tells y.tells) clash))

  -- the next file was not uploaded
  pub uploads-same : HasUploads b n cut done
  uploads-same = record {
    keeps = keeps;
    backs = backs;
    puts = puts;
    full = full;
    thresholds = x.thresholds ∙ h.thresholds;
    waits = waits;
    are = h.are;
    holds = λ k g y o a r. uploads-hold k y o a g r;
    stand = uploads-stand;
  }

  -- it was
  uploads-added : length x.bytes ≡ f.size → x.rest ≡ [] → CutFile f.tell x.bytes x.cut
      → x.hash ≡ file_hash_of (infos_of x.cut)
      → ((k : Store) → IsSteady k m → IsOpen n → NoClash k n x.cut → HasRecord k n (recorded_file one))
      → HasUploads b n cut (done ++ one ∷ [])
  uploads-added size rest places hash stands = record {
    keeps = keeps;
    backs = backs;
    puts = puts;
    full = full;
    thresholds = x.thresholds ∙ h.thresholds;
    waits = waits;
    are = All-append IsUpload done (one ∷ []) h.are (All-cons IsUpload one [] (record {
      taken = x.taken;
      size = size;
      bytes = x.bytes_are ∙ ap (λ (xs : List ℕ). concat x.cut ++ xs) rest ∙ append-nil (concat x.cut);
      places = places;
      hash = hash;
    }) (All-nil IsUpload));
    holds = λ k g y o a r. uploads-hold k y o a g r;
    stand = λ k y o a.
        let Q : Upload → Type 0 = λ u. HasRecord k n (recorded_file u) in
        All-append Q done (one ∷ []) (uploads-stand k y o a) (All-cons Q one [] (stands k (middle k y o a.xorbs) o
        (clash-after k n (all_chunks done) x.cut a)) (All-nil Q));
  }

  -- why the next file failed
  pub session-later : (e : DataError) → SessionFails m n e → SessionFails b n e
  session-later e (inl w) = inl (chunk-later b m n e h.keeps w)
  session-later e (inr q) = inr q

-- the upload that a call made
abbrev pub upload_of : {m n : SessionTold} {answer : Result XetFileInfo DataError} (f : FileTold) (s : SourceTold)
    → Telling → UploadsFile m n f s answer → Upload
upload_of f s l x = record { file = f; source = s; later = l; bytes = x.bytes; chunks = x.cut; hash = x.hash }

-- the chunks of one upload more
chunks-more : (done : List Upload) (u : Upload) → all_chunks done ++ u.chunks ≡ all_chunks (done ++ u ∷ [])
chunks-more done u = ap (λ (cs : List (List ℕ)). all_chunks done ++ cs) (sym (append-nil u.chunks))
    ∙ sym (flat_map-append (λ (z : Upload). z.chunks) done (u ∷ []))

pub uploads-more : (b m n : SessionTold) (done : List Upload) (f : FileTold) (s : SourceTold) (l : Telling)
    (info : XetFileInfo) → HasUploads b m (all_chunks done) done → (x : UploadsFile m n f s (Ok info)) → HasUploads b n
    (all_chunks (done ++ upload_of f s l x ∷ [])) (done ++ upload_of f s l x ∷ [])
uploads-more b m n done f s l info h x =
    let u = upload_of f s l x in
    let P : List (List ℕ) → Type 0 = λ cs. HasUploads b n cs (done ++ u ∷ []) in
    subst P (chunks-more done u) (uploads-added b m n done f s l (Ok info) h x x.whole x.all x.places x.hash_is
    (λ k y o a. x.stands k y o a))

-- the calls, with those of one file more
pub ends-more : (now : ℕ) (b m n : SessionTold) (done : List Upload) (u : Upload) → EndsUploads now done b m
    → EndsUpload now m n u.file u.bytes (Ok tt) → (Tells m → PutsToEnd m n [] u.chunks)
    → EndsUploads now (done ++ u ∷ []) b n
ends-more now b m n [] u e x turn = (
  n,
  subst (λ (t : SessionTold). EndsUpload now t n u.file u.bytes (Ok tt)) e x,
  subst (λ (t : SessionTold). Tells t → PutsToEnd t n [] u.chunks) e turn,
  refl,
)
ends-more now b m n (v ∷ done) u e x turn = (e.0, e.1, e.2, ends-more now e.0 m n done u e.3 x turn)

-- the counts, with those of one file more
pub counts-more : (m x n : DeduplicationMetrics) (done : List Upload) (u : Upload) (counts : DeduplicationMetrics)
    → CountsFiles m done x → CountsChunks no_counts u.chunks counts
    → n ≡ record (with_file_counts x counts) { xorb_bytes_uploaded = n.xorb_bytes_uploaded }
    → CountsFiles m (done ++ u ∷ []) n
counts-more m x n [] u counts e k w = (
  counts,
  k,
  w ∙ ap (λ (y : DeduplicationMetrics). record
      (with_file_counts y counts) { xorb_bytes_uploaded = n.xorb_bytes_uploaded }) e,
)
counts-more m x n (v ∷ done) u counts e k w =
    (e.0, e.1, counts-more (with_file_counts m e.0) x n done u counts e.2 k w)

-- the bytes of xorbs alone grew behind them
counts-sent : (m x n : DeduplicationMetrics) (done : List Upload) → CountsFiles m done x
    → n ≡ record x { xorb_bytes_uploaded = n.xorb_bytes_uploaded } → CountsFiles m done n
counts-sent m x n [] e w =
    w ∙ ap (λ (y : DeduplicationMetrics). record y { xorb_bytes_uploaded = n.xorb_bytes_uploaded }) e
counts-sent m x n (v ∷ done) e w = (e.0, e.1, counts-sent (with_file_counts m e.0) x n done e.2 w)

-- the sizes of the files that the tracker knows, with one file more
pub sizes-begin : (before : List (Option ℕ)) → before ≡ before ++ fixed_sizes (map (λ (u : Upload). u.file) [])
sizes-begin before = sym (append-nil before)

pub sizes-more : (before m n : List (Option ℕ)) (done : List Upload) (u : Upload)
    → m ≡ before ++ fixed_sizes (map (λ z. z.file) done) → n ≡ m ++ Some u.file.size ∷ []
    → n ≡ before ++ fixed_sizes (map (λ z. z.file) (done ++ u ∷ []))
sizes-more before m n done u e g =
    let all = fixed_sizes (map (λ (z : Upload). z.file) done) in
    g ∙ ap (λ (l : List (Option ℕ)). l ++ Some u.file.size ∷ []) e ∙ append_assoc before all (Some u.file.size ∷ [])
    ∙ ap (λ (l : List (Option ℕ)). before ++ l) (sym (ap fixed_sizes (map-append (λ (z : Upload). z.file) done (u ∷ []))
    ∙ map-append (λ (f : FileTold). Some f.size) (map (λ (z : Upload). z.file) done) (u.file ∷ [])))

-- ---- the list of files

-- the first i files were uploaded, and those behind them are as they were
module _ (before after : List FileTold) (done : List Upload) (i : ℕ) (p : Progress before after done i) where
  within : i < length after → i < length before
  within lt =
      let whole = ap (λ (xs : List FileTold). length xs) p.rest in
      let one = length-drop i after in
      let two = length-drop i before in
      omega (arith, lt, whole, one, two)

  -- the next file is the one that was given
  next-same : (f : FileTold) → i < length after → get_or after i f ≡ f → get_or before i f ≡ f
  next-same f lt is =
      let low = within lt in
      let one = drop_more after i f lt in
      let two = drop_more before i f low in
      let whole : get_or after i f ∷ drop (i + 1) after ≡ get_or before i f ∷ drop (i + 1) before = sym one ∙ p.rest
      ∙ two in
      let heads : get_or after i f ≡ get_or before i f = cc in
      sym heads ∙ is

  pub progress-more : (u : Upload) → i < length after → get_or after i u.file ≡ u.file → Progress before (set after i
      (file_after u)) (done ++ u ∷ []) (i + 1)
  progress-more u lt is = record {
    taken = take_more before i u.file (within lt) ∙ ap (λ (x : FileTold). take i before ++ x ∷ [])
        (next-same u.file lt is) ∙ ap (λ (xs : List FileTold). xs ++ u.file ∷ []) p.taken
        ∙ sym (map-append (λ (z : Upload). z.file) done (u ∷ []));
    left = take_more_set after i (file_after u) lt ∙ ap (λ (xs : List FileTold). xs ++ file_after u ∷ []) p.left
        ∙ sym (map-append file_after done (u ∷ []));
    rest = drop-set-more (file_after u) ∙ drop_more_same after before i p.rest;
  }
    where
      drop-set-more : (x : FileTold) → drop (i + 1) (set after i x) ≡ drop (i + 1) after
      drop-set-more x = let low : i < i + 1 = omega arith in drop-set-lt (i + 1) after i x low

  -- the next file failed
  pub progress-stopped : (now : ℕ) (b m n : SessionTold) (f : FileTold) (s : SourceTold) (l : Telling)
      (bytes rest : List ℕ) (part : List (List ℕ)) (e : DataError) → i < length after → get_or after i f ≡ f → TakesOff f.source s bytes
      → length bytes ≤ f.size → bytes ≡ concat part ++ rest → StopsUpload now m n f bytes e
      → SourceFails f.source s f.size bytes e ⊎ SessionFails b n e → StopsBehind now b m n done part before (set after i (record f { source = s; tell = l })) e
  progress-stopped now b m n f s l bytes rest part e lt is taken most bytes_are calls why =
      let g : FileTold = record f { source = s; tell = l } in
      record {
        rest = f ∷ drop (i + 1) before;
        left = g ∷ drop (i + 1) before;
        before_are = sym (take-append-drop i before) ∙ ap (λ (xs : List FileTold). xs ++ drop i before) p.taken
            ∙ ap (λ (xs : List FileTold). map (λ (u : Upload). u.file) done ++ xs) (drop_more before i f (within lt)
            ∙ ap (λ (x : FileTold). x ∷ drop (i + 1) before) (next-same f lt is));
        after_are = sym (take-append-drop i (set after i g)) ∙ ap (λ (xs : List FileTold). xs ++ drop i (set after i g))
            (take-set after i g ∙ p.left) ∙ ap (λ (xs : List FileTold). map file_after done ++ xs)
            (drop-set after i g lt
            ∙ ap (λ (xs : List FileTold). g ∷ xs) (drop_more_same after before i p.rest));
        why = inl (record {
          file = f;
          source = s;
          tell = l;
          later = drop (i + 1) before;
          rest_are = refl;
          left_are = refl;
          bytes = bytes;
          taken = taken;
          most = most;
          uncut = rest;
          bytes_are = bytes_are;
          calls = calls;
          why = why;
        });
      }

  -- all files were
  pub progress-all : length after ≤ i → before ≡ map (λ (u : Upload). u.file) done
  progress-all h =
      let whole = ap (λ (xs : List FileTold). length xs) p.rest in
      let one = length-drop i after in
      let two = length-drop i before in
      let none : length before ≤ i = omega (arith, h, whole, one, two) in
      sym (take_all i before none) ∙ p.taken

  pub progress-left : length after ≤ i → after ≡ map file_after done
  progress-left h = sym (take_all i after h) ∙ p.left

pub progress-none : (files : List FileTold) → Progress files files [] 0
progress-none files = record { taken = refl; left = refl; rest = refl }

-- ---- the call

-- nothing was done
pub all-unbegun : (now : ℕ) (b n : SessionTold) (before after : List FileTold) (e : DataError) → n ≡ b → after ≡ before
    → HasListed b → (b.finalized ≡ true → e ≡ finalized_error) → FailsFirst b e
    → UploadsFiles now b n before after (Err e)
all-unbegun now b n before after e same are listed fin why = record {
  done = [];
  last = [];
  has = uploads-none b n same listed;
  reached = b;
  ended = refl;
  no_more = tt;
  none = tt;
  unfailed = tt;
  said = says-none b n (Err e) (ap (λ (z : SessionTold). z.failed) same);
  counts = (leaves-refl b n same).counts;
  answers = tt;
  all = tt;
  after_are = tt;
  finalized = λ t. (ap (λ (z : DataError). Err z) (fin t), same, are);
  why = record {
    rest = before;
    left = after;
    before_are = refl;
    after_are = refl;
    why = inr (why, same, are);
  };
}

-- a file failed
pub all-stopped : (now : ℕ) (b m n : SessionTold) (fs gs : List FileTold) (done : List Upload) (cut : List (List ℕ))
    (e : DataError) → b.finalized ≡ false → HasUploads b n (all_chunks done ++ cut) done
    → CountsFiles b.metrics done n.metrics → (b.failed ≡ None → Says {A = List XetFileInfo} n (Err e))
    → EndsUploads now done b m → StopsBehind now b m n done cut fs gs e → UploadsFiles now b n fs gs (Err e)
all-stopped now b m n fs gs done cut e fin has counts said ended stops = record {
  done = done;
  last = cut;
  has = has;
  reached = m;
  ended = ended;
  no_more = tt;
  none = tt;
  unfailed = tt;
  said = said;
  counts = counts;
  answers = tt;
  all = tt;
  after_are = tt;
  finalized = λ t. never b.finalized fin t;
  why = stops;
}

-- all were uploaded
pub all-done : (now : ℕ) (b n : SessionTold) (before after : List FileTold) (done : List Upload)
    (infos : List XetFileInfo) (i : ℕ)
    → b.finalized ≡ false → n.failed ≡ b.failed → CountsFiles b.metrics done n.metrics
    → HasUploads b n (all_chunks done) done → EndsUploads now done b n → Progress before after done i
    → length after ≤ i → infos ≡ map upload_pointer done → UploadsFiles now b n before after (Ok infos)
all-done now b n before after done infos i fin failed counts has ended p h is = record {
  done = done;
  last = [];
  has = subst (λ (cs : List (List ℕ)). HasUploads b n cs done) (sym (append-nil (all_chunks done))) has;
  reached = n;
  ended = ended;
  no_more = refl;
  none = refl;
  unfailed = (failed, has.keeps.steady (inl failed));
  said = says-none b n (Ok infos) failed;
  counts = counts;
  answers = is;
  all = progress-all before after done i p h;
  after_are = progress-left before after done i p h;
  finalized = λ t. never b.finalized fin t;
  why = tt;
}

-- ---- a step of the call, over the files as they are

pub step-within : {F : Type 0} (told : F → FileTold) (before files : List F) (done : List Upload) (i : ℕ)
    → Progress (map told before) (map told files) done i → i < length files → i < length before
step-within told before files done i p lt =
    let size = length-map files told in
    let low = within (map told before) (map told files) done i p (omega (arith, lt, size)) in
    let whole = length-map before told in
    omega (arith, low, whole)

module _ {F : Type 0} (told : F → FileTold) (before files : List F) (done : List Upload) (i : ℕ)
    (p : Progress (map told before) (map told files) done i) (old new : F) (s : SourceTold) (l : Telling)
    (lt : i < length files) (at : get_or files i old ≡ old)
    (is : told new ≡ record (told old) { source = s; tell = l }) where
  at-told : get_or (map told files) i (told old) ≡ told old
  at-told = get_or-map told files i old ∙ ap told at

  below : i < length (map told files)
  below = let size = length-map files told in omega (arith, lt, size)

  set-told : map told (set files i new) ≡ set (map told files) i (record (told old) { source = s; tell = l })
  set-told = map-set told files i new ∙ ap (λ (x : FileTold). set (map told files) i x) is

  pub step-more : (bytes : List ℕ) (chunks : List (List ℕ)) (hash : MerkleHash) → Progress (map told before)
      (map told (set files i new)) (done ++ record {
        file = told old;
        source = s;
        later = l;
        bytes = bytes;
        chunks = chunks;
        hash = hash;
      } ∷ []) (i + 1)
  step-more bytes chunks hash =
      let u : Upload = record {
        file = told old;
        source = s;
        later = l;
        bytes = bytes;
        chunks = chunks;
        hash = hash;
      } in
      let P : List FileTold → Type 0 = λ xs. Progress (map told before) xs (done ++ u ∷ []) (i + 1) in
      subst P (sym set-told) (progress-more (map told before) (map told files) done i p u below at-told)

  pub step-stopped : (now : ℕ) (b m n : SessionTold) (e : DataError) → b.finalized ≡ false
      → HasUploads b m (all_chunks done) done → CountsFiles b.metrics done m.metrics → m.failed ≡ b.failed
      → EndsUploads now done b m → UploadsAlone now m n (told old) s (Err e)
      → UploadsFiles now b n (map told before) (map told (set files i new)) (Err e)
  step-stopped now b m n e fin h counts failed ended a =
      let x = a.file in
      let P : List FileTold → Type 0 = λ xs. UploadsFiles now b n (map told before) xs (Err e) in
      subst P (sym set-told) (all-stopped now b m n (map told before) (set (map told files) i
      (record (told old) { source = s; tell = l })) done x.cut e fin
      (uploads-same b m n done (told old) s l (Err e) h x)
      (counts-sent b.metrics m.metrics n.metrics done counts x.uncounted)
      (λ none. says-err {B = List XetFileInfo} n e (x.said (failed ∙ none))) ended
      (progress-stopped (map told before) (map told files) done i p now b m n (told old) s l x.bytes x.rest x.cut e
      below at-told x.taken x.most x.bytes_are a.stopped (why-later (x.why h.backs.listed))))
    where
      why-later : SourceFails (told old).source s (told old).size a.file.bytes e ⊎ SessionFails m n e → SourceFails
          (told old).source s (told old).size a.file.bytes e ⊎ SessionFails b n e
      why-later (inl w) = inl w
      why-later (inr w) = inr (session-later b m n done (told old) s l (Err e) h a.file e w)

-- the answers, one more
pub answers-more : (m n : SessionTold) (f : FileTold) (s : SourceTold) (l : Telling) (info : XetFileInfo)
    (x : UploadsFile m n f s (Ok info)) (infos later : List XetFileInfo) (done : List Upload)
    → infos ≡ map upload_pointer done → later ≡ infos ++ info ∷ [] → later ≡ map upload_pointer
    (done ++ upload_of f s l x ∷ [])
answers-more m n f s l info x infos later done e g =
    let u : Upload = upload_of f s l x in
    let is : info ≡ upload_pointer u = x.pointer in
    g ∙ ap (λ (xs : List XetFileInfo). xs ++ info ∷ []) e ∙ ap (λ (z : XetFileInfo). map upload_pointer done ++ z ∷ [])
    is ∙ sym (map-append upload_pointer done (u ∷ []))

-- the element at a place, read with itself as the default
pub read-again : {F : Type 0} (files : List F) (i : ℕ) (d : F) → i < length files → get_or files i (get_or files i d)
    ≡ get_or files i d
read-again files i d lt = get_or_default files i (get_or files i d) d lt
