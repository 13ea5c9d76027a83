-- What terms stand for stays what it was while xorbs are put and data is added, joined and named.
use Rattle.std.proofs.Common.{◌≡◌, ℕ, ◌+◌, ◌-◌, ◌<◌, ◌≤◌, List, [], ◌∷◌, ◌++◌, length, map, refl, sym, ◌∙◌, ap, subst, arith, ◌^◌, min, inl, inr, get_or}
use Rattle.std.specs.Prelude.{Option, Some, None, IsSome, find, All, option_map, unwrap_or}
use Rattle.std.specs.List.{concat, slice_range, flat_map}
use Rattle.std.proofs.lemmas.List.{length-append, append-nil, append_assoc, length_push, length-map, get_or-map}
use Rattle.std.proofs.lemmas.List.Elements.{All-nil, All-head, All-cons, All-append, All-weaker, All-map, Contains-get_or}
use Rattle.std.proofs.lemmas.List.Concat.{flat_map-append}
use Rattle.std.proofs.lemmas.List.Folds.{concat-append, flat_map-map}
use Rattle.xet_base.specs.declared.merklehash.MerkleHash.{MerkleHash}
use Rattle.xet_base.specs.declared.mdb_shard.Xorb.{Xorb}
use Rattle.xet_base.specs.declared.mdb_shard.ChunkInfo.{ChunkInfo}
use Rattle.xet_base.specs.declared.mdb_shard.MDBXorbInfo.{MDBXorbInfo}
use Rattle.xet_base.specs.Digests.{chunk_hash_of, info_of}
use Rattle.xet_base.specs.Hashes.{hash_eq}
use Rattle.xet_base.specs.Store.{Store, xorb_of, chunks_of}
use Rattle.xet_waiting.specs.declared.waiting.TermXorb.{TermXorb}
use Rattle.xet_waiting.specs.declared.waiting.TermXorb.TheVariants.{Own, Stored}
use Rattle.xet_waiting.specs.declared.waiting.WaitingTerm.{WaitingTerm}
use Rattle.xet_upload.specs.Standing.{Stand, IsTerm, IsPlace, place_of, chunks_at, term_of, named, named_xorb, shifted, shift_by, Added, Continued, continue, AgreesWith, IsRecordIn}
use Rattle.xet_upload.proofs.Parts.{slice_range-join, slice_range-last, slice_range-one, All-append_left, All-append_right, slice_range-more, slice_range-shift, find-kept, flat_map-agree}

-- equal chunks have as many bytes
bytes-by : {cs ds : List (List ℕ)} → cs ≡ ds → length (concat cs) ≡ length (concat ds)
bytes-by e = ap (λ (xs : List (List ℕ)). length (concat xs)) e

-- chunks after chunks have the bytes of both
bytes-both : (cs ds es : List (List ℕ)) (n m : ℕ) → cs ++ ds ≡ es → n ≡ length (concat cs) → m ≡ length (concat ds) → n + m ≡ length (concat es)
bytes-both cs ds es n m e a b =
    let both = ap length (concat-append cs ds) in
    let sum = length-append (concat cs) (concat ds) in
    let whole = bytes-by e in
    omega (arith, a, b, both, sum, whole)

-- one chunk alone has its own
bytes-one : (c : List ℕ) (cs : List (List ℕ)) (n : ℕ) → cs ≡ c ∷ [] → n ≡ length c → n ≡ length (concat cs)
bytes-one c cs n e h = h ∙ ap length (sym (append-nil c)) ∙ sym (bytes-by e)

-- nothing stands for nothing
pub stand-nil : (s : Store) (own : List (List ℕ)) → Stand s own [] []
stand-nil s own = record { each = All-nil (IsTerm s own); joined = refl }

-- terms after terms
pub stand-append : (s : Store) (own : List (List ℕ)) (ts us : List WaitingTerm) (cs ds : List (List ℕ)) → Stand s own ts cs → Stand s own us ds → Stand s own (ts ++ us) (cs ++ ds)
stand-append s own ts us cs ds h k = record {
  each = All-append (IsTerm s own) ts us h.each k.each;
  joined = let split = flat_map-append (chunks_at s own) ts us in let a = h.joined in let b = k.joined in cc;
}

-- a change of store and waiting chunks that leaves each term's chunks leaves what terms stand for
pub stand-same : (s t : Store) (own more : List (List ℕ)) (ts : List WaitingTerm) (cs : List (List ℕ))
    → ((x : WaitingTerm) → IsTerm s own x → IsTerm t more x × (chunks_at t more x ≡ chunks_at s own x))
    → Stand s own ts cs → Stand t more ts cs
stand-same s t own more ts cs keeps h = record {
  each = All-weaker (IsTerm s own) (IsTerm t more) (λ x k. (keeps x k).0) ts h.each;
  joined = flat_map-agree (IsTerm s own) (chunks_at t more) (chunks_at s own) ts h.each (λ x k. (keeps x k).1) ∙ h.joined;
}

-- ---- more xorbs

module _ (s t : Store) (more : List Xorb) (grew : t.xorbs ≡ s.xorbs ++ more) where
  pub xorb_of-kept : (h : MerkleHash) → IsSome (xorb_of s h) → xorb_of t h ≡ xorb_of s h
  xorb_of-kept h k = ap (find (λ x. hash_eq x.hash h)) grew ∙ find-kept (λ x. hash_eq x.hash h) s.xorbs more k

  pub chunks_of-kept : (h : MerkleHash) → IsSome (xorb_of s h) → chunks_of t h ≡ chunks_of s h
  chunks_of-kept h k = ap (λ (o : Option Xorb). unwrap_or (option_map (λ x. x.chunks) o) []) (xorb_of-kept h k)

  place-kept : (own : List (List ℕ)) (x : TermXorb) → IsPlace s x → IsPlace t x × (place_of t own x ≡ place_of s own x)
  place-kept own Own h = (tt, refl)
  place-kept own (Stored x) h = (subst IsSome (sym (xorb_of-kept x h)) h, chunks_of-kept x h)

  term-kept : (own : List (List ℕ)) (x : WaitingTerm) → IsTerm s own x → IsTerm t own x × (chunks_at t own x ≡ chunks_at s own x)
  term-kept own x h =
      let place = place-kept own x.xorb h.stored in
      let inside : x.to ≤ length (place_of t own x.xorb) = omega (arith, h.inside, ap length place.1) in (
        record { some = h.some; stored = place.0; inside = inside; bytes = h.bytes ∙ sym (ap (λ (cs : List (List ℕ)). length (concat (slice_range cs x.from x.to))) place.1) },
        ap (λ (cs : List (List ℕ)). slice_range cs x.from x.to) place.1,
      )

  pub stand-grown : (own : List (List ℕ)) (ts : List WaitingTerm) (cs : List (List ℕ)) → Stand s own ts cs → Stand t own ts cs
  stand-grown own ts cs h = stand-same s t own own ts cs (term-kept own) h

-- ---- more waiting chunks behind

module _ (s : Store) (own more : List (List ℕ)) where
  place-behind : (x : TermXorb) (a b : ℕ) → a ≤ b → b ≤ length (place_of s own x) → (b ≤ length (place_of s (own ++ more) x)) × (slice_range (place_of s (own ++ more) x) a b ≡ slice_range (place_of s own x) a b)
  place-behind Own a b p h = (omega (arith, length-append own more), slice_range-more own more a b p h)
  place-behind (Stored x) a b p h = (h, refl)

  pub stand-behind : (ts : List WaitingTerm) (cs : List (List ℕ)) → Stand s own ts cs → Stand s (own ++ more) ts cs
  stand-behind ts cs h = stand-same s s own (own ++ more) ts cs keeps h
    where
      keeps : (x : WaitingTerm) → IsTerm s own x → IsTerm s (own ++ more) x × (chunks_at s (own ++ more) x ≡ chunks_at s own x)
      keeps x k =
          let some = k.some in
          let place = place-behind x.xorb x.from x.to (omega arith) k.inside in
          (record { some = k.some; stored = k.stored; inside = place.0; bytes = k.bytes ∙ sym (bytes-by place.1) }, place.1)

-- ---- more waiting chunks before

module _ (s : Store) (front own : List (List ℕ)) (few : length (front ++ own) < 2 ^ 32) where
  shift-is : (k : ℕ) → k ≤ length own → min (k + length front) (2 ^ 32 - 1) ≡ length front + k
  shift-is k h = let size = length-append front own in omega arith

  place-before : (x : TermXorb) (a b : ℕ) → a < b → b ≤ length (place_of s own x)
      → (shift_by (length front) x b ≤ length (place_of s (front ++ own) x))
      × (slice_range (place_of s (front ++ own) x) (shift_by (length front) x a) (shift_by (length front) x b) ≡ slice_range (place_of s own x) a b)
      × (shift_by (length front) x a < shift_by (length front) x b)
  place-before Own a b p h =
      let low = shift-is a (omega arith) in
      let high = shift-is b h in
      let size = length-append front own in (
        omega arith,
        ap (λ (n : ℕ). slice_range (front ++ own) n (min (b + length front) (2 ^ 32 - 1))) low ∙ ap (λ (n : ℕ). slice_range (front ++ own) (length front + a) n) high ∙ slice_range-shift front own a b,
        omega arith,
      )
  place-before (Stored x) a b p h = (h, refl, p)

  term-before : (x : WaitingTerm) → IsTerm s own x → IsTerm s (front ++ own) (shifted (length front) x)
  term-before x h =
      let place = place-before x.xorb x.from x.to h.some h.inside in
      record { some = place.2; stored = h.stored; inside = place.0; bytes = h.bytes ∙ sym (bytes-by place.1) }

  pub stand-before : (ts : List WaitingTerm) (cs : List (List ℕ)) → Stand s own ts cs → Stand s (front ++ own) (map (shifted (length front)) ts) cs
  stand-before ts cs h = record {
    each = All-map (IsTerm s (front ++ own)) (shifted (length front)) ts (All-weaker (IsTerm s own) (λ x. IsTerm s (front ++ own) (shifted (length front) x)) term-before ts h.each);
    joined =
        flat_map-map (chunks_at s (front ++ own)) (shifted (length front)) ts
        ∙ flat_map-agree (IsTerm s own) (λ x. chunks_at s (front ++ own) (shifted (length front) x)) (chunks_at s own) ts h.each (λ x k. (place-before x.xorb x.from x.to k.some k.inside).1)
        ∙ h.joined;
  }

-- ---- the waiting chunks become a xorb

module _ (s : Store) (own : List (List ℕ)) (h : MerkleHash) (is : chunks_of s h ≡ own) where
  place-named : (x : TermXorb) → place_of s [] (Stored (named_xorb h x)) ≡ place_of s own x
  place-named Own = is
  place-named (Stored x) = refl

  -- a xorb without chunks is none, and no term needs it
  stored-named : (x : TermXorb) (a b : ℕ) → a < b → b ≤ length (place_of s own x) → IsPlace s x → IsSome (xorb_of s (named_xorb h x))
  stored-named Own a b p q k = go (xorb_of s h) (omega (arith, ap length is))
    where
      go : (o : Option Xorb) → a < length (unwrap_or (option_map (λ x. x.chunks) o) []) → IsSome o
      go None r = absurd (omega (arith, r))
      go (Some x) r = refl
  stored-named (Stored x) a b p q k = k

  term-named : (x : WaitingTerm) → IsTerm s own x → IsTerm s [] (term_of (named h x))
  term-named x k =
      let place = place-named x.xorb in
      let inside : x.to ≤ length (place_of s [] (Stored (named_xorb h x.xorb))) = omega (arith, k.inside, ap length place) in
      record {
        some = k.some;
        stored = stored-named x.xorb x.from x.to k.some k.inside k.stored;
        inside = inside;
        bytes = k.bytes ∙ sym (ap (λ (cs : List (List ℕ)). length (concat (slice_range cs x.from x.to))) place);
      }

  pub stand-named : (ts : List WaitingTerm) (cs : List (List ℕ)) → Stand s own ts cs → Stand s [] (map term_of (map (named h) ts)) cs
  stand-named ts cs k = record {
    each = All-map (IsTerm s []) term_of (map (named h) ts) (All-map (λ e. IsTerm s [] (term_of e)) (named h) ts (All-weaker (IsTerm s own) (λ x. IsTerm s [] (term_of (named h x))) term-named ts k.each));
    joined =
        flat_map-map (chunks_at s []) term_of (map (named h) ts)
        ∙ flat_map-map (λ e. chunks_at s [] (term_of e)) (named h) ts
        ∙ flat_map-agree (IsTerm s own) (λ x. chunks_at s [] (term_of (named h x))) (chunks_at s own) ts k.each (λ x q. ap (λ (cs : List (List ℕ)). slice_range cs x.from x.to) (place-named x.xorb))
        ∙ k.joined;
  }

-- ---- a chunk more

-- one term alone
pub stand-one : (s : Store) (own : List (List ℕ)) (t : WaitingTerm) → IsTerm s own t → Stand s own (t ∷ []) (chunks_at s own t)
stand-one s own t h = record {
  each = All-cons (IsTerm s own) t [] h (All-nil (IsTerm s own));
  joined = append-nil (chunks_at s own t);
}

-- a term more, which may continue the last one
module _ (s : Store) (own : List (List ℕ)) (ts us : List WaitingTerm) (t : WaitingTerm) (cs ds : List (List ℕ)) where
  pub stand-added : Added ts t us → Stand s own ts cs → Stand s own (t ∷ []) ds → Stand s own us (cs ++ ds)
  stand-added (inl e) h k = let P : List WaitingTerm → Type 0 = λ xs. Stand s own xs (cs ++ ds) in subst P (sym e) (stand-append s own ts (t ∷ []) cs ds h k)
  stand-added (inr c) h k = continued c h k
    where
      continued : Continued ts t us → Stand s own ts cs → Stand s own (t ∷ []) ds → Stand s own us (cs ++ ds)
      continued c h k =
          let P : List WaitingTerm → Type 0 = λ xs. All (IsTerm s own) xs in
          let each = subst P c.before h.each in
          let last = All-head (IsTerm s own) c.last [] (All-append_right (IsTerm s own) c.front (c.last ∷ []) each) in
          let one = All-head (IsTerm s own) t [] k.each in
          let starts = one.some in
          let ends = last.some in
          let from_is = c.starts in
          let same : place_of s own c.last.xorb ≡ place_of s own t.xorb = ap (place_of s own) c.xorb in
          let inside : t.to ≤ length (place_of s own c.last.xorb) = omega (arith, one.inside, ap length same) in
          let some : c.last.from < t.to = omega arith in
          let first = flat_map-append (chunks_at s own) c.front (c.last ∷ []) in
          let whole = slice_range-join (place_of s own c.last.xorb) c.last.from c.last.to t.to (omega arith) (omega arith) in
          let rest : slice_range (place_of s own c.last.xorb) c.last.to t.to ≡ chunks_at s own t = ap (λ (xs : List (List ℕ)). slice_range xs c.last.to t.to) same ∙ ap (λ (n : ℕ). slice_range (place_of s own t.xorb) n t.to) c.starts in
          let more : chunks_at s own c.last ++ chunks_at s own t ≡ chunks_at s own (continue c.last t) = ap (λ (xs : List (List ℕ)). chunks_at s own c.last ++ xs) (sym rest) ∙ whole in
          let bytes = bytes-both (chunks_at s own c.last) (chunks_at s own t) (chunks_at s own (continue c.last t)) c.last.bytes t.bytes more last.bytes one.bytes in
          let joined : IsTerm s own (continue c.last t) = record { some = some; stored = last.stored; inside = inside; bytes = bytes } in
          record {
            each = let Q : List WaitingTerm → Type 0 = λ xs. All (IsTerm s own) xs in
                subst Q (sym c.after) (All-append (IsTerm s own) c.front (continue c.last t ∷ []) (All-append_left (IsTerm s own) c.front (c.last ∷ []) each) (All-cons (IsTerm s own) (continue c.last t) [] joined (All-nil (IsTerm s own))));
            joined =
                ap (flat_map (chunks_at s own)) c.after
                ∙ flat_map-append (chunks_at s own) c.front (continue c.last t ∷ [])
                ∙ ap (λ (xs : List (List ℕ)). flat_map (chunks_at s own) c.front ++ xs) (append-nil (chunks_at s own (continue c.last t)) ∙ sym more)
                ∙ sym (append_assoc (flat_map (chunks_at s own) c.front) (chunks_at s own c.last) (chunks_at s own t))
                ∙ ap (λ (xs : List (List ℕ)). xs ++ chunks_at s own t)
                (ap (λ (xs : List (List ℕ)). flat_map (chunks_at s own) c.front ++ xs) (sym (append-nil (chunks_at s own c.last))) ∙ sym first ∙ ap (flat_map (chunks_at s own)) (sym c.before) ∙ h.joined)
                ∙ ap (λ (xs : List (List ℕ)). cs ++ xs) (sym (append-nil (chunks_at s own t)) ∙ k.joined);
          }

-- a chunk that is added to the waiting ones
pub stand-own : (s : Store) (own : List (List ℕ)) (c : List ℕ) (ts us : List WaitingTerm) (t : WaitingTerm) (cs : List (List ℕ))
    → t.xorb ≡ Own → t.from ≡ length own → t.to ≡ length own + 1 → t.bytes ≡ length c → Added ts t us → Stand s own ts cs → Stand s (own ++ c ∷ []) us (cs ++ c ∷ [])
stand-own s own c ts us t cs x a b n added h =
    let more = own ++ c ∷ [] in
    let size = length_push own c in
    let place : place_of s more t.xorb ≡ more = ap (place_of s more) x in
    let is : chunks_at s more t ≡ c ∷ [] =
    ap (λ (xs : List (List ℕ)). slice_range xs t.from t.to) place ∙ ap (λ (n : ℕ). slice_range more n t.to) a ∙ ap (λ (n : ℕ). slice_range more (length own) n) b ∙ slice_range-last own c in
    let one : IsTerm s more t = record { some = omega arith; stored = subst (IsPlace s) (sym x) tt; inside = omega (arith, ap length place); bytes = bytes-one c (chunks_at s more t) t.bytes is n } in
    let P : List (List ℕ) → Type 0 = λ ds. Stand s more (t ∷ []) ds in
    stand-added s more ts us t cs (c ∷ []) added (stand-behind s own (c ∷ []) ts cs h) (subst P is (stand-one s more t one))

-- a chunk that a record of a stored xorb has, where equal hashes of chunks mean equal bytes
pub stand-found : (s : Store) (own : List (List ℕ)) (r : MDBXorbInfo) (c : List ℕ) (i : ℕ) (d : ChunkInfo) (ts us : List WaitingTerm) (t : WaitingTerm) (cs : List (List ℕ))
    → IsRecordIn s r → i < length r.chunks → (get_or r.chunks i d).hash ≡ chunk_hash_of c → AgreesWith (chunks_of s r.hash) c
    → t.xorb ≡ Stored r.hash → t.from ≡ i → t.to ≡ i + 1 → t.bytes ≡ length c → Added ts t us → Stand s own ts cs → Stand s own us (cs ++ c ∷ [])
stand-found s own r c i d ts us t cs known within hash agree x a b n added h =
    let stored = chunks_of s r.hash in
    let count : length r.chunks ≡ length stored = ap length known.chunks ∙ length-map stored info_of in
    let place : place_of s own t.xorb ≡ stored = ap (place_of s own) x in
    let size : i < length stored = omega arith in
    let info : get_or r.chunks i d ≡ info_of (get_or stored i c) = ap (λ (xs : List ChunkInfo). get_or xs i d) known.chunks ∙ get_or-map info_of stored i c d size in
    let same : get_or stored i c ≡ c = agree (get_or stored i c) (Contains-get_or stored i c size) (sym (ap (λ (n : ChunkInfo). n.hash) info) ∙ hash) in
    let is : chunks_at s own t ≡ c ∷ [] =
    ap (λ (xs : List (List ℕ)). slice_range xs t.from t.to) place ∙ ap (λ (n : ℕ). slice_range stored n t.to) a ∙ ap (λ (n : ℕ). slice_range stored i n) b
    ∙ slice_range-one stored i c size ∙ ap (λ (z : List ℕ). z ∷ []) same in
    let one : IsTerm s own t = record { some = omega arith; stored = subst (IsPlace s) (sym x) known.stored; inside = omega (arith, ap length place); bytes = bytes-one c (chunks_at s own t) t.bytes is n } in
    let P : List (List ℕ) → Type 0 = λ ds. Stand s own (t ∷ []) ds in
    stand-added s own ts us t cs (c ∷ []) added h (subst P is (stand-one s own t one))
