-- Chunks that a session cleans: the parts of a file stand for them too.
use Rattle.std.proofs.Common.{◌≡◌, ℕ, zero, suc, ◌<◌, ◌≤◌, ◌⊎◌, inl, inr, Bool, true, false, List, [], ◌∷◌, ◌++◌, length, map, refl, sym, ◌∙◌, ap, subst, arith}
use Rattle.std.specs.Prelude.{All, Contains, None, Some, Result, Ok, Err, OnOk}
use Rattle.std.specs.List.{concat}
use Rattle.std.proofs.lemmas.List.{append-nil, append_assoc, nil_from_length}
use Rattle.std.proofs.lemmas.List.Concat.{flat_map-append}
use Rattle.std.proofs.lemmas.List.Elements.{All-nil, All-cons, All-append, All-contains, All-head, All-same, All-weaker, Contains-append_left, Contains-push}
use Rattle.std.proofs.lemmas.List.Folds.{concat-append}
use Rattle.xet_base.specs.declared.merklehash.MerkleHash.{MerkleHash}
use Rattle.xet_base.specs.declared.mdb_shard.ChunkInfo.{ChunkInfo}
use Rattle.xet_base.specs.declared.mdb_shard.FileDataSequenceEntry.{FileDataSequenceEntry}
use Rattle.xet_base.specs.declared.mdb_shard.Xorb.{Xorb}
use Rattle.xet_base.specs.Digests.{chunk_hash_of, info_of, infos_of, xorb_hash_of}
use Rattle.xet_base.specs.Store.{Store, chunks_of}
use Rattle.xet_uploader.specs.declared.uploader.Put.{Put}
use Rattle.xet_uploader.specs.declared.uploader.Put.TheVariants as put
use Rattle.xet_shard_interface.proofs.CallerLemmas.{All-append_left, All-append_right}
use Rattle.xet_upload.specs.FileDatas.{FoundAdded, OwnAdded, Parts, PartsStand, cut_parts, renamed}
use Rattle.xet_upload.specs.Standing.{Added, AgreeOn, AgreesWith, IsRecordIn, Stand, continue, named, named_xorb, term_of, world}
use Rattle.xet_upload.specs.Waitings.{IsWithin, Waiting, no_waiting, xorb_of_chunks}
use Rattle.xet_upload.specs.declared.data_error.DataError.{DataError}
use Rattle.xet_upload.specs.declared.data_error.DataError.TheVariants as data_error
use Rattle.xet_upload.specs.declared.metrics.DeduplicationMetrics.{DeduplicationMetrics}
use Rattle.xet_waiting.specs.declared.waiting.TermXorb.{TermXorb}
use Rattle.xet_waiting.specs.declared.waiting.TermXorb.TheVariants.{Own, Stored}
use Rattle.xet_waiting.specs.declared.waiting.WaitingFile.{WaitingFile}
use Rattle.xet_waiting.specs.declared.waiting.WaitingTerm.{WaitingTerm}
use Rattle.xet_upload.proofs.CallerLemmas.{parts-found, parts-own, parts_cut, stand-named}
use Rattle.xet_upload_session.specs.Calls.{Backs, CountsSent, Keeps, PutsFail, Refuses, Registers, WasPut, finalized_error, with_repeated}
use Rattle.xet_upload_session.specs.Sessions.{SessionTold, known_of, log_of, named_by}
use Rattle.xet_upload_session.specs.Sounds.{XorbsAgree, searched}
use Rattle.xet_upload_session.proofs.CallerLemmas.{backs-same, keeps-both, keeps-refl, ordered-grown, stores-later}
use Rattle.xet_clean_parts.specs.Cleanings.{AreNamed, ChunkFails, CleanFails, Cleans, FoundChunk, Leaves, TrackFails, term_names}
use Rattle.xet_clean_parts.specs.Premises.{IsSteady}
use Rattle.xet_clean_parts.proofs.Worlds.{opened}
use Rattle.xet_clean_parts.proofs.Picked.{into-both, into-cut, into-found, into-none, into-own}
use Rattle.xet_clean_parts.proofs.Worlds.{agree-again, agree-alone, agree-put, clash-after, clash-before, clash-none, found-agrees, found-chunks, listed-stored}
use Rattle.xet_waiting.specs.Limits.{most_chunk_bytes}

-- ---- calls that leave what waits

pub counts-none : (b n : SessionTold) → n.metrics ≡ b.metrics → CountsSent b n
counts-none b n e = e ∙ sym (ap (λ (m : DeduplicationMetrics). record b.metrics {
  xorb_bytes_uploaded =
      m.xorb_bytes_uploaded;
}) e)

pub sent-both : (b m n : SessionTold) → CountsSent b m → CountsSent m n → CountsSent b n
sent-both b m n one two = two ∙ ap (λ (z : DeduplicationMetrics). record z {
  xorb_bytes_uploaded =
      n.metrics.xorb_bytes_uploaded;
}) one

pub leaves-refl : (b n : SessionTold) → n ≡ b → Leaves b n
leaves-refl b n e = record {
  keeps = keeps-refl b n e;
  backs = λ h. backs-same b n e h;
  waiting = ap (λ (t : SessionTold). t.waiting) e;
  finished = ap (λ (t : SessionTold). t.finished) e;
  thresholds = ap (λ (t : SessionTold). t.thresholds) e;
  counts = counts-none b n (ap (λ (t : SessionTold). t.metrics) e);
}

pub leaves-both : (b m n : SessionTold) → Leaves b m → Leaves m n → Leaves b n
leaves-both b m n l k =
    let keeps = keeps-both b m n l.keeps k.keeps in
    record {
      keeps = keeps;
      backs = λ h.
          let one = l.backs h in
          let two = k.backs one.listed in
          record {
            listed = two.listed;
            backed = λ t s. two.backed (l.keeps.tells t) (one.backed t s);
            ordered = λ t s. ordered-grown b n (known_of b) (keeps.grew t);
          };
      waiting = k.waiting ∙ l.waiting;
      finished = k.finished ∙ l.finished;
      thresholds = k.thresholds ∙ l.thresholds;
      counts = sent-both b m n l.counts k.counts;
    }

pub fails-later : (b m n : SessionTold) (e : DataError) → Leaves b m → CleanFails m n e → CleanFails b n e
fails-later b m n e l (inl q) = inl (q.0, sym l.keeps.finalized ∙ q.1)
fails-later b m n e l (inr (inl s)) = inr (inl (stores-later b.shards m.shards n.shards e l.keeps.stores s))
fails-later b m n e l (inr (inr q)) = inr (inr q)

pub fails-memory : (b n : SessionTold) (e : DataError) → e ≡ data_error.OutOfMemory → CleanFails b n e
fails-memory b n e w = inr (inl (inl (inl w)))

-- the same of a call that tells the tracker
pub chunk-later : (b m n : SessionTold) (e : DataError) → Leaves b m → ChunkFails m n e → ChunkFails b n e
chunk-later b m n e l (inl f) = inl (fails-later b m n e l f)
chunk-later b m n e l (inr t) = inr t

pub chunk-memory : (b n : SessionTold) (e : DataError) → e ≡ data_error.OutOfMemory → ChunkFails b n e
chunk-memory b n e w = inr (inl w)

pub chunk-tracks : (b n : SessionTold) (e : DataError) → TrackFails e → ChunkFails b n e
chunk-tracks b n e t = inr t

pub registers-fails : (b n : SessionTold) (x : Xorb) (now : ℕ) (e : DataError) → Registers b n x now (Err e)
    → ChunkFails b n e
registers-fails b n x now e r = go r.why
  where
    go : ((e ≡ finalized_error) × (b.finalized ≡ true)) ⊎ PutsFail b n e ⊎ Refuses b n e → ChunkFails b n e
    go (inl f) = inl (inl f)
    go (inr (inl p)) = inl (inr p)
    go (inr (inr f)) = inr (inr f.0)

pub steady-left : (k : Store) (b n : SessionTold) → Leaves b n → XorbsAgree (world k (log_of n)) → IsSteady k b
    → IsSteady k n
steady-left k b n l agree s =
    let backs = l.backs s.listed in
    record {
      tells = l.keeps.tells s.tells;
      backed = backs.backed s.tells s.backed;
      listed = backs.listed;
      sound = l.keeps.sound k s.tells agree s.sound;
    }

-- ---- two calls

bytes-all : (bytes : List ℕ) (cut cuts : List (List ℕ)) → (bytes ++ concat cut) ++ concat cuts ≡ bytes ++ concat
    (cut ++ cuts)
bytes-all bytes cut cuts = append_assoc bytes (concat cut) (concat cuts) ∙ ap (λ (xs : List ℕ). bytes ++ xs) (sym
    (concat-append cut cuts))

pub cleans-both : (b m n : SessionTold) (p q r : Parts) (cut cuts : List (List ℕ)) → Leaves b m → Leaves m n
    → Cleans b m p q cut → Cleans m n q r cuts → Cleans b n p r (cut ++ cuts)
cleans-both b m n p q r cut cuts l h one two = record {
  into = into-both p q r cut cuts one.into two.into;
  failed = two.failed ∙ one.failed;
  stands = λ k bytes s o c a.
      let before = clash-before k m n cut cuts h.keeps (l.keeps.tells s.tells) c in
      let after = clash-after k n cut cuts c in
      let middle = steady-left k b m l (agree-alone (world k (log_of m)) m.repeated before.xorbs) s in
      let P : List ℕ → Type 0 = λ xs. PartsStand (world k (log_of n)) r xs in
      subst P (bytes-all bytes cut cuts) (two.stands k (bytes ++ concat cut) middle o after (one.stands k bytes s
      (opened m n h.keeps o) before a));
  named = λ i o a. two.named (l.backs i).listed o (one.named i (opened m n h.keeps o) a);
}

-- ---- the names of terms

terms-more : (l m : List MerkleHash) (ts : List WaitingTerm) → ((h : MerkleHash) → Contains l h → Contains m h)
    → AreNamed l ts → AreNamed m ts
terms-more l m ts f a = All-weaker (Contains l) (Contains m) f (term_names ts) a

names-push : (front : List WaitingTerm) (t : WaitingTerm) → term_names (front ++ t ∷ []) ≡ term_names front ++
    (named_by t.xorb ++ [])
names-push front t = flat_map-append (λ (u : WaitingTerm). named_by u.xorb) front (t ∷ [])

pub added-named : (l : List MerkleHash) (ts us : List WaitingTerm) (t : WaitingTerm) → Added ts t us
    → All (Contains l) (named_by t.xorb) → AreNamed l ts → AreNamed l us
added-named l ts us t (inl e) k a =
    let P : List WaitingTerm → Type 0 = λ xs. AreNamed l xs in
    let one = All-append (Contains l) (named_by t.xorb) [] k (All-nil (Contains l)) in
    subst P (sym e) (All-same (Contains l) (term_names (ts ++ t ∷ [])) (term_names ts ++ (named_by t.xorb ++ []))
    (names-push ts t) (All-append (Contains l) (term_names ts) (named_by t.xorb ++ []) a one))
added-named l ts us t (inr c) k a =
    let P : List WaitingTerm → Type 0 = λ xs. AreNamed l xs in
    let same : term_names (c.front ++ continue c.last t ∷ []) ≡ term_names (c.front ++ c.last ∷ []) =
    names-push c.front (continue c.last t) ∙ sym (names-push c.front c.last) in
    subst P (sym c.after) (All-same (Contains l) (term_names (c.front ++ continue c.last t ∷ [])) (term_names
    (c.front ++ c.last ∷ [])) same (subst P c.before a))

renamed-named : (l : List MerkleHash) (h : MerkleHash) (ts : List WaitingTerm) → Contains l h → AreNamed l ts
    → AreNamed l (map (renamed h) ts)
renamed-named l h [] c a = All-nil (Contains l)
renamed-named l h (t ∷ ts) c a =
    All-cons (Contains l) (named_xorb h t.xorb) (term_names (map (renamed h) ts))
    (one t.xorb (All-append_left (Contains l) (named_by t.xorb) (term_names ts) a))
    (renamed-named l h ts c (All-append_right (Contains l) (named_by t.xorb) (term_names ts) a))
  where
    one : (x : TermXorb) → All (Contains l) (named_by x) → Contains l (named_xorb h x)
    one Own k = c
    one (Stored y) k = All-head (Contains l) y [] k

-- ---- the chunks that wait become a xorb

pub registers-leaves : (b n : SessionTold) (x : Xorb) (now : ℕ) (answer : Result Bool DataError)
    → Registers b n x now answer → Backs b n → Leaves b n
registers-leaves b n x now answer r k = record {
  keeps = r.keeps;
  backs = λ h. k;
  waiting = ap (λ (t : SessionTold). t.waiting) r.same;
  finished = ap (λ (t : SessionTold). t.finished) r.same;
  thresholds = ap (λ (t : SessionTold). t.thresholds) r.same;
  counts = r.counts;
}

map-both : {A B C : Type 0} (f : A → B) (g : B → C) (xs : List A) → map g (map f xs) ≡ map (λ x. g (f x)) xs
map-both f g [] = refl
map-both f g (x ∷ xs) = let e = map-both f g xs in cc

-- a xorb of the hash is there, and has these chunks
parts-old : (s : Store) (p : Parts) (bytes : List ℕ) → chunks_of s (xorb_hash_of
    (infos_of p.own.chunks)) ≡ p.own.chunks → PartsStand s p bytes → PartsStand s (cut_parts p) bytes
parts-old s p bytes is h =
    let hash = xorb_hash_of (infos_of p.own.chunks) in
    let stand = stand-named s p.own.chunks hash is p.terms h.chunks h.stand in
    let P : List WaitingTerm → Type 0 = λ ts. Stand s [] ts h.chunks in
    record {
      chunks = h.chunks;
      stand = subst P (map-both (named hash) term_of p.terms) stand;
      infos_are =
          h.infos_are;
      bytes_are = h.bytes_are;
    }

with-none : (s : Store) (p : Parts) (bytes : List ℕ) → PartsStand s p bytes → PartsStand s p (bytes ++ concat [])
with-none s p bytes h = subst (λ (xs : List ℕ). PartsStand s p xs) (sym (append-nil bytes)) h

module _ (b n : SessionTold) (p : Parts) (now : ℕ) (some : 0 < length p.own.chunks) where
  abbrev own : Xorb
  own = xorb_of_chunks p.own.chunks

  never-empty : {P : Type 0} → p.own.chunks ≡ [] → P
  never-empty e = let none = ap (λ (cs : List (List ℕ)). length cs) e in absurd (omega (arith, some, none))

  -- a xorb of the hash was put before
  again-cleans : Keeps b n → Contains b.registered own.hash → n ≡ with_repeated b own → Cleans b n p (cut_parts p) []
  again-cleans keeps c e = record {
    into = into-cut p;
    failed = ap (λ (t : SessionTold). t.failed) e;
    stands = λ k bytes s o clash a.
        let before = opened b n keeps o in
        let there = All-contains (Contains b.listed) b.registered own.hash
        (s.listed.all before.unfailed before.unfinished).put c in
        let stored = listed-stored k b own.hash s.sound (s.backed before.unfailed before.unfinished) there in
        let P : List Put → Type 0 = λ ps. AgreeOn (world k ps).xorbs own.hash p.own.chunks in
        let agree = subst P (ap log_of e)
        (agree-again k n b.repeated own (ap (λ (t : SessionTold). t.repeated) e) clash.xorbs) in
        let is = found-agrees (world k (log_of b)).xorbs own.hash p.own.chunks stored agree in
        let Q : List Put → Type 0 = λ ps. PartsStand (world k ps) (cut_parts p) (bytes ++ concat []) in
        subst Q (sym (ap log_of e)) (with-none (world k (log_of b)) (cut_parts p) bytes (parts-old (world k
        (log_of b)) p bytes is a));
    named = λ h o a.
        let before = opened b n keeps o in
        let there = All-contains (Contains b.listed) b.registered own.hash
        (h.all before.unfailed before.unfinished).put c in
        let P : SessionTold → Type 0 = λ t. AreNamed t.listed (cut_parts p).terms in
        subst P (sym e) (renamed-named b.listed own.hash p.terms there a);
  }

  -- it was put
  put-cleans : WasPut b n own [] now (Ok tt) → Cleans b n p (cut_parts p) []
  put-cleans w = record {
    into = into-cut p;
    failed = ap (λ (t : SessionTold). t.failed) w.same;
    stands = λ k bytes s o clash a.
        let grown = w.log s.tells in
        let P : List Put → Type 0 = λ ps. AgreeOn (world k ps).xorbs own.hash p.own.chunks in
        let agree = subst P grown (agree-put k n (log_of b) own grown clash.xorbs) in
        let Q : List Put → Type 0 = λ ps. PartsStand (world k ps) (cut_parts p) (bytes ++ concat []) in
        subst Q (sym grown) (with-none (world k (log_of b ++ put.Xorb own ∷ [])) (cut_parts p) bytes (parts_cut k
        (log_of b) p bytes agree a));
    named = λ h o a.
        let listed : n.listed ≡ b.listed ++ own.hash ∷ [] = ap (λ (t : SessionTold). t.listed) w.same in
        let P : List MerkleHash → Type 0 = λ l. AreNamed l (cut_parts p).terms in
        let grow : AreNamed (b.listed ++ own.hash ∷ []) p.terms = terms-more b.listed
        (b.listed ++ own.hash ∷ []) p.terms (λ z c. Contains-append_left b.listed (own.hash ∷ []) z c) a in
        subst P (sym listed) (renamed-named (b.listed ++ own.hash ∷ []) own.hash p.terms
        (Contains-push b.listed own.hash) grow);
  }

  own-cleans : (y : Bool) → Registers b n own now (Ok y) → Cleans b n p (cut_parts p) []
  own-cleans false r = let a = r.again refl in again-cleans r.keeps a.0 a.1
  own-cleans true r = go (r.new refl).put
    where
      go : ((own.chunks ≡ []) × (n ≡ b)) ⊎ ((0 < length own.chunks) × WasPut b n own [] now (Ok tt)) → Cleans b n p
          (cut_parts p) []
      go (inl e) = never-empty e.0
      go (inr w) = put-cleans w.1

-- where the xorb that was registered is known by equations alone
pub cut-cleans : (b n : SessionTold) (p q : Parts) (x : Xorb) (now : ℕ) (y : Bool) → 0 < length p.own.chunks
    → x ≡ xorb_of_chunks p.own.chunks → q ≡ cut_parts p → Registers b n x now (Ok y) → Cleans b n p q []
cut-cleans b n p q x now y some is e r =
    let P : Xorb → Type 0 = λ z. Registers b n z now (Ok y) in
    let Q : Parts → Type 0 = λ z. Cleans b n p z [] in
    subst Q (sym e) (own-cleans b n p now some y (subst P is r))

-- ---- room

pub within-one : (c : List ℕ) → length c ≤ most_chunk_bytes → IsWithin (c ∷ [])
within-one c short = let one = ap length (append-nil c) in (omega arith, omega (arith, one, short))

-- whether some wait
pub some-own : (n : ℕ) (cs : List (List ℕ)) → n ≡ length cs → (n ≡ 0 → ⊥) → 0 < length cs
some-own n cs e some = some_of (length cs) (λ z. some (e ∙ z))
  where
    some_of : (k : ℕ) → (k ≡ 0 → ⊥) → 0 < k
    some_of zero f = absurd (f refl)
    some_of (suc k) f = omega arith

pub no-own : (n : ℕ) (w : Waiting) → n ≡ length w.chunks → n ≡ 0 → w.files ≡ [] → w ≡ no_waiting
no-own n w e none_of files =
    let none : w.chunks ≡ [] = nil_from_length w.chunks (sym e ∙ none_of) in
    ap (λ (cs : List (List ℕ)). record w { chunks = cs }) none
    ∙ ap (λ (fs : List WaitingFile). record no_waiting { files = fs }) files

-- nothing was cut
pub same-cleans : (b n : SessionTold) (p : Parts) → Leaves b n → n.failed ≡ b.failed
    → ((k : Store) → IsSteady k b → XorbsAgree (world k
    (log_of n)) → (bytes : List ℕ) → PartsStand (world k (log_of b)) p bytes → PartsStand (world k (log_of n)) p bytes)
    → ((h : MerkleHash) → Contains b.listed h → Contains n.listed h) → Cleans b n p p []
same-cleans b n p l failed grown lists = record {
  into = into-none p p refl refl;
  failed = failed;
  stands = λ k bytes s o c a. with-none (world k (log_of n)) p bytes (grown k s (agree-alone (world k
      (log_of n)) n.repeated c.xorbs) bytes a);
  named = λ h o a. terms-more b.listed n.listed p.terms lists a;
}

pub still-cleans : (b n : SessionTold) (p q : Parts) → n ≡ b → q ≡ p → Cleans b n p q []
still-cleans b n p q e f =
    let P : SessionTold → Type 0 = λ t. Cleans b t p p [] in
    let Q : Parts → Type 0 = λ z. Cleans b n p z [] in
    subst Q (sym f) (subst P (sym e) (same-cleans b b p (leaves-refl b b refl) refl (λ k s a bytes h. h) (λ h c. c)))

-- ---- one chunk more

one-more : (bytes c : List ℕ) → bytes ++ c ≡ bytes ++ concat (c ∷ [])
one-more bytes c = ap (λ (xs : List ℕ). bytes ++ xs) (sym (append-nil c))

-- the chunk waits
pub more-cleans : (b n : SessionTold) (p q r : Parts) (c : List ℕ) → Cleans b n p q [] → OwnAdded q c r
    → Cleans b n p r (c ∷ [])
more-cleans b n p q r c h added = record {
  into = into-own p q r c h.into added;
  failed = h.failed;
  stands = λ k bytes s o clash a.
      let before = h.stands k bytes s o (clash-none k n clash.xorbs) a in
      let P : List ℕ → Type 0 = λ xs. PartsStand (world k (log_of n)) r xs in
      subst P (ap (λ (xs : List ℕ). xs ++ c) (append-nil bytes) ∙ one-more bytes c) (parts-own (world k
      (log_of n)) q r c (bytes ++ concat []) added before);
  named = λ i o a.
      let P : TermXorb → Type 0 = λ x. All (Contains n.listed) (named_by x) in
      added-named n.listed q.terms r.terms added.term added.added (subst P (sym added.xorb) (All-nil
      (Contains n.listed))) (h.named i o a);
}

-- the chunk was found
pub found-cleans : (b n : SessionTold) (p q : Parts) (c : List ℕ) (e : FileDataSequenceEntry) → FoundChunk b n
    (chunk_hash_of c) (Ok (Some e)) → FoundAdded p e.xorb e.from (info_of c) q → Cleans b n p q (c ∷ [])
found-cleans b n p q c e found added = record {
  into = into-found p q e.xorb e.from c added;
  failed = found.failed;
  stands = λ k bytes s o clash a.
      let at = found.found s.tells in
      let record_in = All-contains (IsRecordIn (world k (log_of b))) (searched b) at.holder s.sound at.is_there in
      let P : MerkleHash → Type 0 = λ z. FoundAdded p z e.from (info_of c) q in
      let A : List Put → Type 0 = λ ps. (x : Xorb) → Contains (world k ps).xorbs x → AgreesWith x.chunks c in
      let agrees = subst A found.log (λ x d. clash.chunks x c d (0, omega arith, refl)) in
      let stands = parts-found (world k (log_of b)) p q c bytes at.holder e.from (info_of c) record_in at.within
      (at.hash_is (info_of c)) (found-chunks (world k (log_of b)).xorbs at.holder.hash c agrees)
      (subst P at.named added) a in
      let Q : List Put → Type 0 = λ ps. PartsStand (world k ps) q (bytes ++ concat (c ∷ [])) in
      let R : List ℕ → Type 0 = λ xs. PartsStand (world k (log_of b)) q xs in
      subst Q (sym found.log) (subst R (one-more bytes c) stands);
  named = λ i o a.
      let P : TermXorb → Type 0 = λ x. All (Contains n.listed) (named_by x) in
      let one = All-cons (Contains n.listed) e.xorb [] found.on_list (All-nil (Contains n.listed)) in
      added-named n.listed p.terms q.terms added.term added.added (subst P (sym added.xorb) one)
      (terms-more b.listed n.listed p.terms found.lists a);
}

-- it was not found, and waits
pub new-cleans : (b m n : SessionTold) (p q : Parts) (c : List ℕ) → Leaves b m → Leaves m n → FoundChunk b m
    (chunk_hash_of c) (Ok None) → Cleans m n p q (c ∷ []) → Cleans b n p q (c ∷ [])
new-cleans b m n p q c l h found cleans =
    cleans-both b m n p p q [] (c ∷ []) l h
    (same-cleans b m p l found.failed (λ k s a bytes x. subst (λ (ps : List Put). PartsStand (world k ps) p bytes)
    (sym found.log) x) found.lists) cleans

-- the same of a chunk whose hash and length are known by an equation
pub found-adds : (b n : SessionTold) (p q : Parts) (c : List ℕ) (e : FileDataSequenceEntry) (info : ChunkInfo)
    → info ≡ info_of c → FoundChunk b n info.hash (Ok (Some e)) → FoundAdded p e.xorb e.from info q
    → Cleans b n p q (c ∷ [])
found-adds b n p q c e info is found added =
    let P : ChunkInfo → Type 0 = λ z. FoundChunk b n z.hash (Ok (Some e)) in
    let Q : ChunkInfo → Type 0 = λ z. FoundAdded p e.xorb e.from z q in
    found-cleans b n p q c e (subst P is found) (subst Q is added)

pub new-adds : (b m n : SessionTold) (p q : Parts) (c : List ℕ) (info : ChunkInfo) → info ≡ info_of c → Leaves b m
    → Leaves m n → FoundChunk b m info.hash (Ok None) → Cleans m n p q (c ∷ []) → Cleans b n p q (c ∷ [])
new-adds b m n p q c info is l h found cleans =
    let P : ChunkInfo → Type 0 = λ z. FoundChunk b m z.hash (Ok None) in
    new-cleans b m n p q c l h (subst P is found) cleans

-- after a cut there is room for a chunk
pub room-after : (w : Waiting) (c : List ℕ) (answer : Result (Unit {0}) DataError) → OnOk answer (w ≡ no_waiting)
    → length c ≤ most_chunk_bytes → OnOk answer (IsWithin (w.chunks ++ c ∷ []))
room-after w c (Err e) is short = tt
room-after w c (Ok u) is short = subst (λ (v : Waiting). IsWithin (v.chunks ++ c ∷ [])) (sym is) (within-one c short)
