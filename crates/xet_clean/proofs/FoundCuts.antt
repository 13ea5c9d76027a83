-- Chunks that were found at the front of pending bytes.
use Rattle.std.proofs.Common.{◌≡◌, ℕ, ◌+◌, ◌<◌, ◌≤◌, Bool, true, inr, List, [], ◌∷◌, ◌++◌, length, take, drop, refl, sym, ◌∙◌, ap, subst, arith}
use Rattle.std.specs.Prelude.{All, IfSome, Option, Some, None}
use Rattle.std.proofs.lemmas.List.{length-append, length-take-le, map-append, take-append-drop}
use Rattle.std.proofs.lemmas.List.Elements.{All-head, All-nil, All-push, All-tail}
use Rattle.xet_base.specs.declared.mdb_shard.ChunkInfo.{ChunkInfo}
use Rattle.xet_base.specs.Digests.{info_of, infos_of}
use Rattle.xet_upload.specs.Cuts.{clamped}
use Rattle.xet_waiting.specs.Limits.{most_chunk_bytes}
use Rattle.xet_clean_parts.specs.Places.{CutAt, IsCutUp, IsNextCut, Telling}
use Rattle.xet_clean_parts.proofs.CallerLemmas.{at-both, at-one}
use Rattle.xet_clean.specs.steps.Cuts.{AreCuts, IsCut, IsNextChunk, IsUncut}

flip : (o : Option (Option ℕ)) (f : Option ℕ → Option ℕ) (x y : Option ℕ) → x ≡ y → IfSome o (λ a. x ≡ f a)
    → IfSome o (λ a. f a ≡ y)
flip None f x y e h = tt
flip (Some a) f x y e h = sym h ∙ e

take-front : (xs ys : List ℕ) → take (length xs) (xs ++ ys) ≡ xs
take-front [] ys = refl
take-front (x ∷ xs) ys = ap (λ (zs : List ℕ). x ∷ zs) (take-front xs ys)

drop-front : (xs ys : List ℕ) → drop (length xs) (xs ++ ys) ≡ ys
drop-front [] ys = refl
drop-front (x ∷ xs) ys = drop-front xs ys

module _ (tell : Telling) (last : Bool) where
  -- the cutter cuts so many bytes off
  pub cut-found : (pending : List ℕ) (n : ℕ) (before after : List ChunkInfo) (info : ChunkInfo) → 0 < n
      → n ≤ length pending → n ≤ most_chunk_bytes
      → IfSome (tell pending last) (λ a. Some n ≡ clamped a (length pending) last)
      → info ≡ info_of (take n pending) → after ≡ before ++ info ∷ []
      → IsCut tell last pending before (drop n pending) after
  cut-found pending n before after info some within short exact is after_is =
      let size : length (take n pending) ≡ n = length-take-le n pending within in
      record {
        chunk = take n pending;
        next = record {
          some = omega (arith, size, some);
          short = omega (arith, size, short);
          place = flip (tell pending last) (λ a. clamped a (length pending) last) (Some n)
              (Some (length (take n pending))) (ap (λ (k : ℕ). Some k) (sym size)) exact;
          pending_is = sym (take-append-drop n pending);
        };
        after_is = after_is ∙ ap (λ (i : ChunkInfo). before ++ i ∷ []) is;
      }

  -- it waits for more
  pub cut-waits : (pending : List ℕ) (before after : List ChunkInfo) → after ≡ before
      → IfSome (tell pending last) (λ a. None ≡ clamped a (length pending) last) → (last ≡ true → pending ≡ [])
      → IsUncut tell last pending before after
  cut-waits pending before after same exact none = record {
    same = same;
    up = inr (flip (tell pending last) (λ a. clamped a (length pending) last) None None refl exact);
    none = none;
  }

  -- chunks that were found, one after another
  pub record Walk (pending rest : List ℕ) (infos : List ChunkInfo) : Type 0 where
    pub chunks : List (List ℕ)
    pub infos_are : infos ≡ infos_of chunks
    pub at : CutAt tell last pending chunks rest
    pub short : All (λ c. length c ≤ most_chunk_bytes) chunks

  pub walk-none : (pending : List ℕ) (infos : List ChunkInfo) → infos ≡ [] → Walk pending pending infos
  walk-none pending infos e = record {
    chunks = [];
    infos_are = e;
    at = refl;
    short = All-nil (λ (c : List ℕ). length c ≤ most_chunk_bytes);
  }

  pub walk-more : (pending rest more : List ℕ) (infos after : List ChunkInfo) → Walk pending rest infos
      → IsCut tell last rest infos more after → Walk pending more after
  walk-more pending rest more infos after w cut = record {
    chunks = w.chunks ++ cut.chunk ∷ [];
    infos_are = cut.after_is ∙ ap (λ (is : List ChunkInfo). is ++ info_of cut.chunk ∷ []) w.infos_are
        ∙ sym (map-append info_of w.chunks (cut.chunk ∷ []));
    at = at-both tell last pending rest more w.chunks (cut.chunk ∷ []) w.at
        (at-one tell last rest cut.chunk more cut.next.some cut.next.place cut.next.pending_is);
    short = All-push (λ (c : List ℕ). length c ≤ most_chunk_bytes) w.chunks cut.chunk w.short cut.next.short;
  }

  pub walk-done : (pending rest : List ℕ) (infos after : List ChunkInfo) → Walk pending rest infos
      → IsUncut tell last rest infos after → AreCuts tell last pending after
  walk-done pending rest infos after w u = record {
    chunks = w.chunks;
    infos_are = u.same ∙ w.infos_are;
    rest = rest;
    at = w.at;
    short = w.short;
    up = u.up;
    none = u.none;
  }

  -- ---- the next one

  pub record Next (pending : List ℕ) (info : ChunkInfo) (infos : List ChunkInfo) : Type 0 where
    pub chunk : List ℕ
    pub rest : List ℕ
    pub next : IsNextChunk tell last pending chunk rest
    pub info_is : info ≡ info_of chunk
    pub left : AreCuts tell last rest infos

  pub next-of : (pending : List ℕ) (info : ChunkInfo) (infos : List ChunkInfo)
      → AreCuts tell last pending (info ∷ infos) → Next pending info infos
  next-of pending info infos a = go a.chunks a.infos_are a.at a.short
    where
      go : (cs : List (List ℕ)) → info ∷ infos ≡ infos_of cs → CutAt tell last pending cs a.rest
          → All (λ c. length c ≤ most_chunk_bytes) cs → Next pending info infos
      go [] e at short = cc
      go (c ∷ cs) e at short =
          let i : info ≡ info_of c = cc in
          let is : infos ≡ infos_of cs = cc in
          record {
            chunk = c;
            rest = at.2.0;
            next = record { some = at.0; short = All-head (λ (x : List ℕ). length x ≤ most_chunk_bytes) c cs short; place = at.1; pending_is = at.2.1 };
            info_is = i;
            left = record {
              chunks = cs;
              infos_are = is;
              rest = a.rest;
              at = at.2.2;
              short = All-tail (λ (x : List ℕ). length x ≤ most_chunk_bytes) c cs short;
              up = a.up;
              none = a.none;
            };
          }

  -- so many bytes off the front are the next one
  pub record Front (pending : List ℕ) (info : ChunkInfo) (infos : List ChunkInfo) : Type 0 where
    pub within : info.length ≤ length pending
    pub some : 0 < length (take info.length pending)
    pub short : length (take info.length pending) ≤ most_chunk_bytes
    pub place : IsNextCut tell last pending (Some info.length)
    pub hashed : info ≡ info_of (take info.length pending)
    pub left : AreCuts tell last (drop info.length pending) infos

  pub front-of : (pending : List ℕ) (info : ChunkInfo) (infos : List ChunkInfo)
      → AreCuts tell last pending (info ∷ infos) → Front pending info infos
  front-of pending info infos a =
      let n = next-of pending info infos a in
      let size : info.length ≡ length n.chunk = ap (λ (i : ChunkInfo). i.length) n.info_is in
      let whole : length pending ≡ length n.chunk + length n.rest =
      ap (λ (xs : List ℕ). length xs) n.next.pending_is ∙ length-append n.chunk n.rest in
      let front : take info.length pending ≡ n.chunk =
      ap (λ (k : ℕ). take k pending) size ∙ ap (λ (xs : List ℕ). take (length n.chunk) xs) n.next.pending_is
      ∙ take-front n.chunk n.rest in
      let back : drop info.length pending ≡ n.rest =
      ap (λ (k : ℕ). drop k pending) size ∙ ap (λ (xs : List ℕ). drop (length n.chunk) xs) n.next.pending_is
      ∙ drop-front n.chunk n.rest in
      record {
        within = omega (arith, size, whole);
        some = subst (λ (xs : List ℕ). 0 < length xs) (sym front) n.next.some;
        short = subst (λ (xs : List ℕ). length xs ≤ most_chunk_bytes) (sym front) n.next.short;
        place = subst (λ (k : ℕ). IsNextCut tell last pending (Some k)) (sym size) n.next.place;
        hashed = n.info_is ∙ ap (λ (xs : List ℕ). info_of xs) (sym front);
        left = subst (λ (xs : List ℕ). AreCuts tell last xs infos) (sym back) n.left;
      }

  -- none is left
  pub none-of : (pending : List ℕ) (infos : List ChunkInfo) → infos ≡ [] → AreCuts tell last pending infos
      → IsCutUp tell last pending × (last ≡ true → pending ≡ [])
  none-of pending infos e a = go a.chunks (sym e ∙ a.infos_are) a.at
    where
      go : (cs : List (List ℕ)) → [] ≡ infos_of cs → CutAt tell last pending cs a.rest
          → IsCutUp tell last pending × (last ≡ true → pending ≡ [])
      go [] q at = (subst (λ (xs : List ℕ). IsCutUp tell last xs) at a.up, λ f. sym at ∙ a.none f)
      go (c ∷ cs) q at = cc
