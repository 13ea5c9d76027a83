-- A cleaner that is fed stands for the fed bytes too.
use Rattle.std.proofs.Common.{◌≡◌, ℕ, ◌+◌, ◌<◌, ◌≤◌, inl, inr, Bool, true, false, List, [], ◌∷◌, ◌++◌, length, refl, sym, ◌∙◌, ap, subst, arith}
use Rattle.std.specs.Prelude.{Option, Some, None, Result, Ok, Err, IfErr, OnOk, drop, is_some, take, unwrap_or}
use Rattle.std.specs.List.{concat}
use Rattle.std.specs.Option.{option_or}
use Rattle.std.proofs.lemmas.Bool.{false≢true}
use Rattle.std.proofs.lemmas.List.{append-nil, append_assoc, length-append, length-take-le, take-append-drop}
use Rattle.std.proofs.lemmas.List.Folds.{concat-append}
use Rattle.sha2.specs.Hashers.{Holds256}
use Rattle.sha2.specs.declared.Sha256.{Sha256}
use Rattle.xet_base.specs.Store.{Store}
use Rattle.xet_upload.specs.FileDatas.{Parts, PartsStand, no_parts}
use Rattle.xet_upload.specs.Metrics.{both}
use Rattle.xet_upload.specs.Standing.{world}
use Rattle.xet_upload.specs.Waitings.{IsWithin}
use Rattle.xet_upload.specs.declared.metrics.DeduplicationMetrics.{DeduplicationMetrics}
use Rattle.xet_upload.specs.declared.data_error.DataError.{DataError}
use Rattle.xet_upload.specs.declared.sha256_policy.Sha256Policy.TheVariants.{Compute}
use Rattle.xet_upload.proofs.CallerLemmas.{parts-nil}
use Rattle.xet_upload_session.specs.Calls.{finalized_error}
use Rattle.xet_upload_session.specs.Sessions.{SessionTold, log_of}
use Rattle.xet_clean.specs.Cleaners.{AddsData, Cleaner, CleanerStands, CountsChunks, CutsChunks, Feeds, FeedsOnce, FeedsSo, IsFed, NextChunk, PassesTotal, TakesIn, chunk_counts, past_total}
use Rattle.xet_clean_parts.specs.Cleanings.{AreNamed, ChunkFails, Cleans, Leaves}
use Rattle.xet_clean_parts.specs.Made.{PutsInTurn, PutsSo, PutsSome}
use Rattle.xet_clean_parts.specs.Places.{CutAt, IsCutUp, IsNextCut, Telling}
use Rattle.xet_clean_parts.specs.Premises.{IsOpen, IsSteady, NoClash}
use Rattle.xet_clean_parts.proofs.CallerLemmas.{clash-after, clash-before, cleans-both, leaves-refl, steady-left, still-cleans}
use Rattle.xet_clean_parts.proofs.CallerLemmas.{opened}
use Rattle.xet_clean_parts.proofs.CallerLemmas.{into-both, into-same}
use Rattle.xet_clean_parts.proofs.CallerLemmas.{agree-alone, ok-err}
use Rattle.xet_clean_parts.proofs.CallerLemmas.{at-both, at-one, on-any, says-none, so-any, so-both, so-still, so-turn, some-any, some-behind, some-err, some-one, some-still}

-- nothing was fed
pub new-stands : (s : Store) (c : Cleaner) → c.parts ≡ no_parts → c.pending ≡ [] → c.fed ≡ 0 → Holds256 c.hasher []
    → CleanerStands s c []
new-stands s c parts pending fed holds = record {
  front = [];
  parts = subst (λ (p : Parts). PartsStand s p []) (sym parts) (parts-nil s);
  bytes_are = sym pending;
  fed = record { count = fed; hashed = λ e. holds };
}

-- ---- chunks are cut

-- counts of the chunks of two calls
pub counts-both : (m x n : DeduplicationMetrics) (cut cuts : List (List ℕ)) → CountsChunks m cut x
    → CountsChunks x cuts n → CountsChunks m (cut ++ cuts) n
counts-both m x n [] cuts one two = subst (λ (z : DeduplicationMetrics). CountsChunks z cuts n) one two
counts-both m x n (c ∷ cut) cuts one two =
    (one.0, counts-both (both m (chunk_counts (length c) one.0)) x n cut cuts one.1 two)

pub cuts-none : (last : Bool) (b n : SessionTold) (c d : Cleaner) → n ≡ b → d ≡ c → CutsChunks last b n c d
cuts-none last b n c d e f =
    let P : Cleaner → Type 0 = λ z. CutsChunks last b n c z in
    subst P (sym f) (record {
      cut = [];
      cleans = still-cleans b n c.parts c.parts e refl;
      pending = refl;
      places = refl;
      so = so-still b n c.parts.own.chunks (Ok tt) e;
      counts = refl;
      same = refl;
    })

pub cuts-one : (b n : SessionTold) (c m d : Cleaner) (last : Bool) (chunk : List ℕ) → 0 < length chunk
    → NextChunk c m last (Some chunk) → Cleans b n m.parts d.parts (chunk ∷ [])
    → PutsSo {A = Unit {0}} b n m.parts.own.chunks (chunk ∷ []) d.parts.own.chunks (Ok tt)
    → d ≡ record m { parts = d.parts; counts = d.counts } → CountsChunks m.counts (chunk ∷ []) d.counts
    → CutsChunks last b n c d
cuts-one b n c m d last chunk some next cleans so same counts =
    let parts : m.parts ≡ c.parts = ap (λ (z : Cleaner). z.parts) next.same in
    let pending : d.pending ≡ m.pending = ap (λ (z : Cleaner). z.pending) same in
    let P : Parts → Type 0 = λ p. Cleans b n p d.parts (chunk ∷ []) in
    let Q : Parts → Type 0 = λ p. PutsSo {A = Unit {0}} b n p.own.chunks (chunk ∷ []) d.parts.own.chunks (Ok tt) in
    record {
      cut = chunk ∷ [];
      cleans = subst P parts cleans;
      so = subst Q parts so;
      counts = subst (λ (z : DeduplicationMetrics). CountsChunks z (chunk ∷ []) d.counts)
          (ap (λ (z : Cleaner). z.counts) next.same) counts;
      places = at-one c.tell last c.pending chunk d.pending some next.place
          (next.pending ∙ ap (λ (xs : List ℕ). chunk ++ xs) (sym pending));
      pending = next.pending ∙ ap (λ (xs : List ℕ). xs ++ m.pending) (sym (append-nil chunk)) ∙ ap (λ (xs : List ℕ).
          (chunk ++ []) ++ xs) (sym pending);
      same = same ∙ ap (λ (z : Cleaner). record z { parts = d.parts; counts = d.counts }) next.same
          ∙ ap (λ (xs : List ℕ). record c { parts = d.parts; pending = xs; counts = d.counts }) (sym pending);
    }

-- a chunk was cut and cleaned, or this failed
pub cleaned-puts : {A : Type 0} (b n : SessionTold) (c m : Cleaner) (after : List (List ℕ)) (last : Bool)
    (chunk : List ℕ) (answer : Result A DataError) → NextChunk c m last (Some chunk)
    → PutsSo b n m.parts.own.chunks (chunk ∷ []) after answer → PutsSome b n c.parts.own.chunks c.pending after answer
cleaned-puts b n c m after last chunk answer next so =
    let Q : Parts → Type 0 = λ p. PutsSo b n p.own.chunks (chunk ∷ []) after answer in
    some-one b n c.parts.own.chunks c.pending chunk m.pending after answer next.pending
    (subst Q (ap (λ (z : Cleaner). z.parts) next.same) so)

-- what the cutter tells stays
pub cuts-tell : (last : Bool) (b n : SessionTold) (c d : Cleaner) → CutsChunks last b n c d → d.tell ≡ c.tell
cuts-tell last b n c d cuts = ap (λ (z : Cleaner). z.tell) cuts.same

pub up-before : (last : Bool) (b n : SessionTold) (c d : Cleaner) → CutsChunks last b n c d → (rest : List ℕ)
    → IsCutUp d.tell last rest → IsCutUp c.tell last rest
up-before last b n c d cuts rest up =
    subst (λ (t : Telling). IsCutUp t last rest) (cuts-tell last b n c d cuts) up

pub cuts-both : (last : Bool) (b m n : SessionTold) (c x d : Cleaner) → Leaves b m → Leaves m n
    → CutsChunks last b m c x → CutsChunks last m n x d → CutsChunks last b n c d
cuts-both last b m n c x d l h one two = record {
  cut = one.cut ++ two.cut;
  cleans = cleans-both b m n c.parts x.parts d.parts one.cut two.cut l h one.cleans two.cleans;
  so = so-both b m n c.parts.own.chunks x.parts.own.chunks d.parts.own.chunks one.cut two.cut tt (Ok tt) l.keeps
      one.cleans.failed one.cleans.into.own one.so two.so;
  counts = counts-both c.counts x.counts d.counts one.cut two.cut one.counts two.counts;
  places =
      let P : Telling → Type 0 = λ t. CutAt t last x.pending two.cut d.pending in
      at-both c.tell last c.pending x.pending d.pending one.cut two.cut one.places
      (subst P (cuts-tell last b m c x one) two.places);
  pending =
      one.pending ∙ ap (λ (xs : List ℕ). concat one.cut ++ xs) two.pending ∙ sym (append_assoc (concat one.cut)
      (concat two.cut) d.pending)
      ∙ ap (λ (xs : List ℕ). xs ++ d.pending) (sym (concat-append one.cut two.cut));
  same = two.same ∙ ap (λ (z : Cleaner). record z {
    parts = d.parts;
    pending = d.pending;
    counts =
        d.counts;
  }) one.same;
}

-- what all chunks put
pub chunks-done : {A : Type 0} (last : Bool) (b n : SessionTold) (c d : Cleaner) (answer : Result A DataError)
    → CutsChunks last b n c d → PutsSome b n c.parts.own.chunks c.pending d.parts.own.chunks answer
chunks-done last b n c d answer cuts = record {
  cut = cuts.cut;
  rest = d.pending;
  bytes_are = cuts.pending;
  so = so-any b n c.parts.own.chunks cuts.cut d.parts.own.chunks d.parts.own.chunks tt answer cuts.cleans.failed refl
      cuts.so;
}

-- and where one failed behind them
pub chunks-stopped : {A B : Type 0} (last : Bool) (b m n : SessionTold) (c x : Cleaner) (after : List (List ℕ))
    (e : DataError) → Leaves b m → CutsChunks last b m c x
    → PutsSome {A = A} m n x.parts.own.chunks x.pending after (Err e)
    → PutsSome {A = B} b n c.parts.own.chunks c.pending after (Err e)
chunks-stopped {A = A} {B = B} last b m n c x after e l cuts p =
    some-err {A = A} {B = B} b n c.parts.own.chunks c.pending after after e
    (some-behind b m n c.parts.own.chunks x.parts.own.chunks after c.pending x.pending cuts.cut tt (Err e) l.keeps
    cuts.cleans.failed cuts.cleans.into.own cuts.pending cuts.so p)

-- ---- bytes are fed

-- bytes came in
take-fed : (c x : Cleaner) (bytes before : List ℕ) → TakesIn c bytes x → IsFed c before → IsFed x (before ++ bytes)
take-fed c x bytes before tk a = record {
  count =
      let sum = ap (λ (z : Cleaner). z.fed) tk.same in
      let size = length-append before bytes in
      let count = a.count in
      omega (arith, sum, size, count);
  hashed = λ e.
      let policy : c.policy ≡ Compute = sym (ap (λ (z : Cleaner). z.policy) tk.same) ∙ e in
      tk.hashed policy before (a.hashed policy);
}

take-stands : (s : Store) (c x : Cleaner) (bytes before : List ℕ) → TakesIn c bytes x → CleanerStands s c before
    → CleanerStands s x (before ++ bytes)
take-stands s c x bytes before tk a =
    let parts : x.parts ≡ c.parts = ap (λ (z : Cleaner). z.parts) tk.same in
    let pending : x.pending ≡ c.pending ++ bytes = ap (λ (z : Cleaner). z.pending) tk.same in
    let P : Parts → Type 0 = λ p. PartsStand s p a.front in
    record {
      front = a.front;
      parts = subst P (sym parts) a.parts;
      bytes_are = ap (λ (xs : List ℕ). xs ++ bytes) a.bytes_are ∙ append_assoc a.front c.pending bytes
          ∙ ap (λ (xs : List ℕ). a.front ++ xs) (sym pending);
      fed = take-fed c x bytes before tk a.fed;
    }

-- chunks were cut
module _ (last : Bool) (b n : SessionTold) (c d : Cleaner) (cuts : CutsChunks last b n c d) where
  pub cut-fed : (bytes : List ℕ) → IsFed c bytes → IsFed d bytes
  cut-fed bytes a = record {
    count = ap (λ (z : Cleaner). z.fed) cuts.same ∙ a.count;
    hashed = λ e.
        let policy : c.policy ≡ Compute = sym (ap (λ (z : Cleaner). z.policy) cuts.same) ∙ e in
        let P : Sha256 → Type 0 = λ h. Holds256 h bytes in
        subst P (sym (ap (λ (z : Cleaner). z.hasher) cuts.same)) (a.hashed policy);
  }

  pub cut-stands : (k : Store) (bytes : List ℕ) → IsSteady k b → IsOpen n → NoClash k n cuts.cut → CleanerStands (world k (log_of b)) c bytes → CleanerStands (world k
      (log_of n)) d bytes
  cut-stands k bytes s o clash a = record {
    front = a.front ++ concat cuts.cut;
    parts = cuts.cleans.stands k a.front s o clash a.parts;
    bytes_are = a.bytes_are ∙ ap (λ (xs : List ℕ). a.front ++ xs) cuts.pending ∙ sym (append_assoc a.front
        (concat cuts.cut) d.pending);
    fed = cut-fed bytes a.fed;
  }

feeds : (b n : SessionTold) (c x d : Cleaner) (bytes : List ℕ) → TakesIn c bytes x → (cuts : CutsChunks false b n x d)
    → (f : Feeds b n c bytes d) × (f.cut ≡ cuts.cut)
feeds b n c x d bytes tk cuts =
    let whole : d ≡ record c {
      parts = d.parts;
      pending = d.pending;
      hasher = x.hasher;
      fed =
          c.fed + length bytes;
      counts = d.counts;
    } = cuts.same ∙ ap (λ (z : Cleaner). record z {
      parts =
          d.parts;
      pending = d.pending;
      counts = d.counts;
    }) tk.same in
    let hasher : d.hasher ≡ x.hasher = ap (λ (z : Cleaner). z.hasher) cuts.same in
    let parts : x.parts ≡ c.parts = ap (λ (z : Cleaner). z.parts) tk.same in
    let M : Parts → Type 0 = λ p. PutsInTurn b n p.own.chunks cuts.cut d.parts.own.chunks in
    let N : Parts → Type 0 = λ p. IsWithin (p.own.chunks ++ cuts.cut) in (
      record {
        cut = cuts.cut;
        into = into-same x.parts c.parts d.parts cuts.cut parts cuts.cleans.into;
        puts = λ t. subst M parts (so-turn b n x.parts.own.chunks cuts.cut d.parts.own.chunks tt cuts.so t);
        full = λ w. cuts.so.full (subst N (sym parts) w);
        pending = sym (ap (λ (z : Cleaner). z.pending) tk.same) ∙ cuts.pending;
        failed = cuts.cleans.failed;
        counts = subst (λ (z : DeduplicationMetrics). CountsChunks z cuts.cut d.counts)
            (ap (λ (z : Cleaner). z.counts) tk.same) cuts.counts;
        stands = λ k before s o clash a. cut-stands false b n x d cuts k (before ++ bytes) s o clash (take-stands (world k
            (log_of b)) c x bytes before tk a);
        fed = λ before a. cut-fed false b n x d cuts (before ++ bytes) (take-fed c x bytes before tk a);
        named = λ i o a.
            let P : Parts → Type 0 = λ p. AreNamed b.listed p.terms in
            cuts.cleans.named i o (subst P (sym (ap (λ (z : Cleaner). z.parts) tk.same)) a);
        same = whole ∙ ap (λ (h : Sha256). record c {
          parts = d.parts;
          pending = d.pending;
          hasher = h;
          fed =
              c.fed + length bytes;
          counts = d.counts;
        }) (sym hasher);
      },
      refl,
    )

-- in one call
pub feeds-once : (b n : SessionTold) (c x d : Cleaner) (bytes : List ℕ) → TakesIn c bytes x → CutsChunks false b n x d
    → IsCutUp x.tell false d.pending → FeedsOnce b n c bytes d
feeds-once b n c x d bytes tk cuts up =
    let tell : x.tell ≡ c.tell = ap (λ (z : Cleaner). z.tell) tk.same in
    let pending : x.pending ≡ c.pending ++ bytes = ap (λ (z : Cleaner). z.pending) tk.same in
    let f = feeds b n c x d bytes tk cuts in
    let O : List (List ℕ) → Type 0 = λ cs. CutAt c.tell false (c.pending ++ bytes) cs d.pending in
    let P : List ℕ → Type 0 = λ xs. CutAt c.tell false xs cuts.cut d.pending in
    let Q : Telling → Type 0 = λ t. CutAt t false x.pending cuts.cut d.pending in
    let R : Telling → Type 0 = λ t. IsCutUp t false d.pending in
    record {
      feeds = f.0;
      places = (subst O (sym f.1) (subst P pending (subst Q tell cuts.places)), subst R tell up);
    }

-- what was cut after bytes came in
take-puts : {A : Type 0} (b n : SessionTold) (c x : Cleaner) (bytes : List ℕ) (after : List (List ℕ))
    (answer : Result A DataError) → TakesIn c bytes x → PutsSome b n x.parts.own.chunks x.pending after answer
    → PutsSome b n c.parts.own.chunks (c.pending ++ bytes) after answer
take-puts b n c x bytes after answer tk p =
    let parts : x.parts ≡ c.parts = ap (λ (z : Cleaner). z.parts) tk.same in
    let pending : x.pending ≡ c.pending ++ bytes = ap (λ (z : Cleaner). z.pending) tk.same in
    let P : Parts → Type 0 = λ z. PutsSome b n z.own.chunks (c.pending ++ bytes) after answer in
    let Q : List ℕ → Type 0 = λ xs. PutsSome b n x.parts.own.chunks xs after answer in
    subst P parts (subst Q pending p)

-- ---- the exits of a call that feeds

pub never : {P : Type 0} (b : Bool) → b ≡ false → b ≡ true → P
never b f t = absurd (false≢true (sym f ∙ t))

pub never-failed : {P : Type 0} (o : Option DataError) (e : DataError) → o ≡ None → o ≡ Some e → P
never-failed o e f t = absurd (false≢true (ap (λ (z : Option DataError). is_some z) (sym f ∙ t)))

-- the session is finalized
pub feeds-finalized : (b n : SessionTold) (c d : Cleaner) (bytes : List ℕ) → n ≡ b → d.failed ≡ c.failed → b.finalized ≡ true
    → FeedsSo b n c bytes d (Err finalized_error)
feeds-finalized b n c d bytes e f fin = record {
  leaves = leaves-refl b n e;
  ok = tt;
  puts = some-still b n c.parts.own.chunks (c.pending ++ bytes) d.parts.own.chunks (Err finalized_error) e tt;
  failed = f;
  finalized = λ g. (refl, e);
  kept = λ g. never b.finalized g fin;
  past = λ g. never b.finalized g fin;
  why = inr (inr (inl (inl (refl, fin))));
}

-- the cleaner failed before
pub feeds-kept : (b n : SessionTold) (c d : Cleaner) (bytes : List ℕ) (e : DataError) → n ≡ b → d.failed ≡ c.failed
    → b.finalized ≡ false → c.failed ≡ Some e → FeedsSo b n c bytes d (Err e)
feeds-kept b n c d bytes e same f fin failed = record {
  leaves = leaves-refl b n same;
  ok = tt;
  puts = some-still b n c.parts.own.chunks (c.pending ++ bytes) d.parts.own.chunks (Err e) same tt;
  failed = f;
  finalized = λ g. never b.finalized fin g;
  kept = λ g x k. (
    let both : Some e ≡ Some x = sym failed ∙ k in let one : e ≡ x = cc in ap (λ
        (z : DataError). Err z) one,
    same,
  );
  past = λ g k p. never-failed c.failed e k failed;
  why = inl failed;
}

-- more bytes than are left
pub feeds-past : (b n : SessionTold) (c d : Cleaner) (bytes : List ℕ) (e : DataError) → n ≡ b → d.failed ≡ c.failed
    → b.finalized ≡ false → c.failed ≡ None → PassesTotal c bytes → e ≡ past_total c bytes → FeedsSo b n c bytes d
    (Err e)
feeds-past b n c d bytes e same f fin none passes is = record {
  leaves = leaves-refl b n same;
  ok = tt;
  puts = some-still b n c.parts.own.chunks (c.pending ++ bytes) d.parts.own.chunks (Err e) same tt;
  failed = f;
  finalized = λ g. never b.finalized fin g;
  kept = λ g x k. never-failed c.failed x none k;
  past = λ g k p. (ap (λ (z : DataError). Err z) is, same);
  why = inr (inl (is, passes));
}

-- a step failed
pub feeds-failed : (b n : SessionTold) (c d : Cleaner) (bytes : List ℕ) (e : DataError) → Leaves b n
    → PutsSome {A = Unit {0}} b n c.parts.own.chunks (c.pending ++ bytes) d.parts.own.chunks (Err e)
    → d.failed ≡ c.failed → b.finalized ≡ false → c.failed ≡ None → (PassesTotal c bytes → ⊥) → ChunkFails b n e
    → FeedsSo b n c bytes d (Err e)
feeds-failed b n c d bytes e l p f fin none fits why = record {
  leaves = l;
  ok = tt;
  puts = p;
  failed = f;
  finalized = λ g. never b.finalized fin g;
  kept = λ g x k. never-failed c.failed x none k;
  past = λ g k p. absurd (fits p);
  why = inr (inr why);
}

-- all was done
pub feeds-ok : (b n : SessionTold) (c x d : Cleaner) (bytes : List ℕ) (u : Unit {0}) → Leaves b n → TakesIn c bytes x
    → CutsChunks false b n x d → IsCutUp x.tell false d.pending
    → PutsSome {A = Unit {0}} b n x.parts.own.chunks x.pending d.parts.own.chunks (Ok u) → d.failed ≡ c.failed
    → b.finalized ≡ false → c.failed ≡ None → (PassesTotal c bytes → ⊥) → FeedsSo b n c bytes d (Ok u)
feeds-ok b n c x d bytes u l tk cuts up p f fin none fits = record {
  leaves = l;
  ok = feeds-once b n c x d bytes tk cuts up;
  puts = take-puts b n c x bytes d.parts.own.chunks (Ok u) tk p;
  failed = f;
  finalized = λ g. never b.finalized fin g;
  kept = λ g e k. never-failed c.failed e none k;
  past = λ g k p. absurd (fits p);
  why = tt;
}

-- the last call of a cleaner that takes in bytes, with either answer
pub feeds-cut : (b n : SessionTold) (c x d : Cleaner) (bytes : List ℕ) (answer : Result (Unit {0}) DataError)
    → Leaves b n → TakesIn c bytes x → OnOk answer (CutsChunks false b n x d)
    → OnOk answer (IsCutUp x.tell false d.pending)
    → PutsSome b n x.parts.own.chunks x.pending d.parts.own.chunks answer → d.failed ≡ c.failed → b.finalized ≡ false → c.failed ≡ None → (PassesTotal c bytes → ⊥)
    → IfErr answer (ChunkFails b n) → FeedsSo b n c bytes d answer
feeds-cut b n c x d bytes (Ok u) l tk cuts up p f fin none fits why =
    feeds-ok b n c x d bytes u l tk cuts up p f fin none fits
feeds-cut b n c x d bytes (Err e) l tk cuts up p f fin none fits why =
    feeds-failed b n c d bytes e l (take-puts b n c x bytes d.parts.own.chunks (Err e) tk p) f fin none fits why

-- the same, where the tracker was told before and the session's words are as they were
pub feeds-grown : (b m n : SessionTold) (c x d : Cleaner) (bytes : List ℕ) (answer : Result (Unit {0}) DataError)
    → m ≡ b → Leaves m n → TakesIn c bytes x → OnOk answer (CutsChunks false m n x d)
    → OnOk answer (IsCutUp x.tell false d.pending)
    → PutsSome m n x.parts.own.chunks x.pending d.parts.own.chunks answer → d.failed ≡ c.failed → b.finalized ≡ false → c.failed ≡ None → (PassesTotal c bytes → ⊥)
    → IfErr answer (ChunkFails m n) → FeedsSo b n c bytes d answer
feeds-grown b m n c x d bytes answer e l tk cuts up p f fin none fits why =
    feeds-cut b n c x d bytes answer (subst (λ (t : SessionTold). Leaves t n) e l) tk
    (subst (λ (t : SessionTold). OnOk answer (CutsChunks false t n x d)) e cuts) up
    (subst (λ (t : SessionTold). PutsSome t n x.parts.own.chunks x.pending d.parts.own.chunks answer) e p) f fin none
    fits
    (subst (λ (t : SessionTold). IfErr answer (ChunkFails t n)) e why)

-- the first error is kept
or-same : (o p : Option DataError) → p ≡ o → p ≡ option_or o None
or-same None p e = e
or-same (Some x) p e = e

pub adds-ok : (b n : SessionTold) (c d : Cleaner) (bytes : List ℕ) (u v : Unit {0}) → FeedsSo b n c bytes d (Ok u)
    → AddsData b n c bytes d (Ok v)
adds-ok b n c d bytes u v f = record {
  leaves = f.leaves;
  ok = f.ok;
  puts = some-any b n c.parts.own.chunks (c.pending ++ bytes) d.parts.own.chunks u (Ok v) f.ok.feeds.failed f.puts;
  failed = or-same c.failed d.failed f.failed;
  unfailed = (f.ok.feeds.failed, f.leaves.keeps.steady (inl f.ok.feeds.failed));
  finalized = λ g. let q = f.finalized g in ok-err u finalized_error q.0;
  kept = λ g e k. let q = f.kept g e k in ok-err u e q.0;
  past = λ g k p. let q = f.past g k p in ok-err u (past_total c bytes) q.0;
  why = tt;
}

pub adds-err : (b n : SessionTold) (c m d : Cleaner) (bytes : List ℕ) (e : DataError) → FeedsSo b n c bytes m (Err e)
    → d.failed ≡ Some (unwrap_or m.failed e) → AddsData b n c bytes d (Err e)
adds-err b n c m d bytes e f is = record {
  leaves = f.leaves;
  ok = tt;
  puts = some-err b n c.parts.own.chunks (c.pending ++ bytes) m.parts.own.chunks d.parts.own.chunks e f.puts;
  failed = is ∙ ap (λ (o : Option DataError). Some (unwrap_or o e)) f.failed ∙ go c.failed;
  unfailed = tt;
  finalized = f.finalized;
  kept = f.kept;
  past = f.past;
  why = f.why;
}
  where
    go : (o : Option DataError) → Some (unwrap_or o e) ≡ option_or o (Some e)
    go None = refl
    go (Some x) = refl

-- ---- the next chunk

pub next-none : (c d : Cleaner) (last : Bool) → d ≡ c → (last ≡ true → c.pending ≡ [])
    → IsCutUp c.tell last c.pending → NextChunk c d last None
next-none c d last e none up =
    let P : Cleaner → Type 0 = λ z. NextChunk c z last None in
    subst P (sym e) (record { same = refl; pending = refl; none = λ f. none; place = tt; waits = λ f. up })

pub next-some : (c d : Cleaner) (last : Bool) (chunk : List ℕ) (n : ℕ) → d ≡ record c { pending = drop n c.pending }
    → chunk ≡ take n c.pending → n ≤ length c.pending → IsNextCut c.tell last c.pending (Some n)
    → NextChunk c d last (Some chunk)
next-some c d last chunk n e is within next =
    let P : Cleaner → Type 0 = λ z. NextChunk c z last (Some chunk) in
    let size : n ≡ length chunk = sym (length-take-le n c.pending within) ∙ ap (λ (xs : List ℕ). length xs) (sym is) in
    subst P (sym e) (record {
      same = refl;
      pending = sym (take-append-drop n c.pending) ∙ ap (λ (xs : List ℕ). xs ++ drop n c.pending) (sym is);
      none = λ f. absurd (false≢true (ap (λ (o : Option (List ℕ)). is_some o) (sym f)));
      place = subst (λ (k : ℕ). IsNextCut c.tell last c.pending (Some k)) size next;
      waits = λ f. absurd (false≢true (ap (λ (o : Option (List ℕ)). is_some o) (sym f)));
    })

-- none was cut
pub cuts-ended : (b n : SessionTold) (c d : Cleaner) (last : Bool) → n ≡ b → NextChunk c d last None
    → CutsChunks last b n c d
cuts-ended b n c d last e next =
    let pending : c.pending ≡ d.pending = next.pending in
    cuts-none last b n c d e (next.same ∙ ap (λ (xs : List ℕ). record c { pending = xs }) (sym pending))

pub ended-up : (c d : Cleaner) (last : Bool) → NextChunk c d last None → IsCutUp c.tell last d.pending
ended-up c d last next =
    let pending : c.pending ≡ d.pending = next.pending in
    subst (λ (xs : List ℕ). IsCutUp c.tell last xs) pending (next.waits refl)

pub ended-pending : (c d : Cleaner) (last : Bool) → NextChunk c d last None → last ≡ true → d.pending ≡ []
ended-pending c d last next e = let pending : c.pending ≡ d.pending = next.pending in sym pending ∙ next.none refl e

pub next-shorter : (c m : Cleaner) (last : Bool) (chunk : List ℕ) → NextChunk c m last (Some chunk) → 0 < length chunk
    → length m.pending < length c.pending
next-shorter c m last chunk next some =
    let whole = ap (λ (xs : List ℕ). length xs) next.pending in
    let size = length-append chunk m.pending in
    omega (arith, whole, size, some)

-- ---- two calls that feed

pub feeds-none : (b n : SessionTold) (c d : Cleaner) → n ≡ b → d ≡ c → (f : Feeds b n c [] d) × (f.cut ≡ [])
feeds-none b n c d e f =
    let P : Cleaner → Type 0 = λ z. (f : Feeds b n c [] z) × (f.cut ≡ []) in
    subst P (sym f) (still, refl)
  where
    so : PutsSo {A = Unit {0}} b n c.parts.own.chunks [] c.parts.own.chunks (Ok tt)
    so = so-still b n c.parts.own.chunks (Ok tt) e

    cleans : Cleans b n c.parts c.parts []
    cleans = still-cleans b n c.parts c.parts e refl

    still : Feeds b n c [] c
    still = record {
      cut = [];
      into = cleans.into;
      puts = λ t. so-turn b n c.parts.own.chunks [] c.parts.own.chunks tt so t;
      full = so.full;
      pending = append-nil c.pending;
      failed = ap (λ (t : SessionTold). t.failed) e;
      counts = refl;
      stands = λ k before s o clash a.
          let P : SessionTold → Type 0 = λ t. CleanerStands (world k (log_of t)) c before in
          subst (λ (xs : List ℕ). CleanerStands (world k (log_of n)) c xs) (sym (append-nil before)) (subst P (sym e) a);
      fed = λ before a. subst (λ (xs : List ℕ). IsFed c xs) (sym (append-nil before)) a;
      named = λ i o a. cleans.named i o a;
      same = ap (λ (z : ℕ). record c { fed = z }) (let sum : c.fed ≡ c.fed + 0 = omega arith in sum);
    }

-- what a call that feeds puts, as an answer
pub feeds-so : {A : Type 0} (b n : SessionTold) (c d : Cleaner) (bytes : List ℕ) (answer : Result A DataError)
    → (f : Feeds b n c bytes d) → PutsSo b n c.parts.own.chunks f.cut d.parts.own.chunks answer
feeds-so b n c d bytes answer f = record {
  left = d.parts.own.chunks;
  left_are = on-any answer refl;
  puts = f.puts;
  full = f.full;
  said = λ none. says-none b n answer f.failed none;
}

-- an answer that tells of no failure
abbrev went : Result (Unit {0}) DataError
went = Ok tt

pub feeds-both : (b m n : SessionTold) (c x d : Cleaner) (xs ys : List ℕ) → Leaves b m → Leaves m n → (one : Feeds b m c xs x)
    → (two : Feeds m n x ys d) → (f : Feeds b n c (xs ++ ys) d) × (f.cut ≡ one.cut ++ two.cut)
feeds-both b m n c x d xs ys l h one two = (
  record {
    cut = one.cut ++ two.cut;
    into = into-both c.parts x.parts d.parts one.cut two.cut one.into two.into;
    puts = λ t. so-turn b n c.parts.own.chunks (one.cut ++ two.cut) d.parts.own.chunks tt so t;
    full = so.full;
    failed = two.failed ∙ one.failed;
    counts = counts-both c.counts x.counts d.counts one.cut two.cut one.counts two.counts;
    pending = sym (append_assoc c.pending xs ys) ∙ ap (λ (zs : List ℕ). zs ++ ys) one.pending
        ∙ append_assoc (concat one.cut) x.pending ys ∙ ap (λ (zs : List ℕ). concat one.cut ++ zs) two.pending
        ∙ sym (append_assoc (concat one.cut) (concat two.cut) d.pending)
        ∙ ap (λ (zs : List ℕ). zs ++ d.pending) (sym (concat-append one.cut two.cut));
    stands = λ k before s o clash a.
        let first = clash-before k m n one.cut two.cut h.keeps (l.keeps.tells s.tells) clash in
        let second = clash-after k n one.cut two.cut clash in
        let middle = steady-left k b m l (agree-alone (world k (log_of m)) m.repeated first.xorbs) s in
        let P : List ℕ → Type 0 = λ zs. CleanerStands (world k (log_of n)) d zs in
        subst P (append_assoc before xs ys) (two.stands k (before ++ xs) middle o second (one.stands k before s
        (opened m n h.keeps o) first a));
    fed = λ before a.
        let P : List ℕ → Type 0 = λ zs. IsFed d zs in
        subst P (append_assoc before xs ys) (two.fed (before ++ xs) (one.fed before a));
    named = λ i o a. two.named (l.backs i).listed o (one.named i (opened m n h.keeps o) a);
    same =
        let sum : (c.fed + length xs) + length ys ≡ c.fed + length (xs ++ ys) = omega (arith, length-append xs ys) in
        two.same ∙ ap (λ (z : Cleaner). record z {
          parts = d.parts;
          pending = d.pending;
          hasher = d.hasher;
          fed =
              z.fed + length ys;
          counts = d.counts;
        }) one.same
        ∙ ap (λ (k : ℕ). record c {
          parts = d.parts;
          pending = d.pending;
          hasher = d.hasher;
          fed = k;
          counts =
              d.counts;
        }) sum;
  },
  refl,
)
  where
    so : PutsSo b n c.parts.own.chunks (one.cut ++ two.cut) d.parts.own.chunks went
    so = so-both b m n c.parts.own.chunks x.parts.own.chunks d.parts.own.chunks one.cut two.cut tt went l.keeps one.failed
        one.into.own (feeds-so b m c x xs went one) (feeds-so m n x d ys went two)
