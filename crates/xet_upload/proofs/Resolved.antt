-- What terms stand for once their own chunks are a xorb, and what a download of their record gives.
use Rattle.std.proofs.Common.{◌≡◌, ℕ, zero, suc, ◌<◌, Bool, true, false, cond, List, [], ◌∷◌, ◌++◌, length, map, refl, sym, ◌∙◌, ap, subst, arith}
use Rattle.std.specs.Prelude.{Option, Some, IsSome, find, All, Contains, option_map, unwrap_or}
use Rattle.std.specs.List.{concat, flat_map, slice_range, slice_index_or}
use Rattle.std.proofs.lemmas.Bool.{true≢false}
use Rattle.std.proofs.lemmas.List.{append_assoc}
use Rattle.std.proofs.lemmas.List.Elements.{All-nil, All-cons, All-head, All-tail, Contains-push}
use Rattle.std.specs.Option.{option_or}
use Rattle.std.proofs.lemmas.List.Folds.{find-append, flat_map-map}
use Rattle.xet_base.specs.declared.merklehash.MerkleHash.{MerkleHash}
use Rattle.xet_base.specs.declared.mdb_shard.Xorb.{Xorb}
use Rattle.xet_base.specs.declared.mdb_shard.FileDataSequenceEntry.{FileDataSequenceEntry}
use Rattle.xet_base.specs.declared.mdb_shard.MDBFileInfo.{MDBFileInfo}
use Rattle.xet_base.specs.declared.stored.StoredFile.{StoredFile}
use Rattle.xet_base.specs.Hashes.{hash_eq}
use Rattle.xet_base.specs.Store.{Store, xorb_of, chunks_of, file_of, chunks_of_term, bytes_of}
use Rattle.xet_store.specs.Refusals.{stored_term}
use Rattle.xet_uploader.specs.declared.uploader.Put.{Put}
use Rattle.xet_uploader.specs.declared.uploader.Put.TheVariants as put
use Rattle.xet_uploader.specs.Uploads.{xorbs_in}
use Rattle.xet_uploader.specs.StoresAfter.{file_of_record, files_in, store_after}
use Rattle.xet_uploader.proofs.CallerLemmas.{after_finds_files, after_finds_xorbs, xorbs_in-append}
use Rattle.xet_base.proofs.CallerLemmas.{hash_eq-true, eq-hash_eq}
use Rattle.xet_waiting.specs.declared.waiting.WaitingTerm.{WaitingTerm}
use Rattle.xet_base.specs.Digests.{infos_of, xorb_hash_of}
use Rattle.xet_upload.specs.Laws.{PartsAsXorb, RecordResolves}
use Rattle.xet_waiting.specs.Waitings.{xorb_of_chunks}
use Rattle.xet_upload.specs.Standing.{Stand, StandsFor, IsTerm, chunks_at, term_of, named, AgreeOn, world}
use Rattle.xet_upload.proofs.Parts.{flat_map-agree}
use Rattle.xet_upload.proofs.Standing.{stand-grown, stand-named}

-- where equal hashes mean equal contents, the xorb that a search finds has the content
pub agreed : (xs : List Xorb) (h : MerkleHash) (cs : List (List ℕ)) (x : Xorb) → Contains xs x → x.hash ≡ h → AgreeOn xs h cs → unwrap_or (option_map (λ y. y.chunks) (find (λ y. hash_eq y.hash h) xs)) [] ≡ cs
agreed [] h cs x c e a = absurd (let lt = c.1 in omega arith)
agreed (y ∷ ys) h cs x c e a = go (hash_eq y.hash h) refl (λ k. agreed ys h cs x k e (λ z q f. a z (suc q.0, (let lt = q.1 in omega arith), q.2) f))
  where
    later : (k : ℕ) → hash_eq y.hash h ≡ false → k < suc (length ys) → slice_index_or (y ∷ ys) k x ≡ x → Contains ys x
    later zero f lt is = absurd (true≢false (sym (eq-hash_eq y.hash h (ap (λ (z : Xorb). z.hash) is ∙ e)) ∙ f))
    later (suc k) f lt is = (k, omega arith, is)

    go : (b : Bool) → hash_eq y.hash h ≡ b → (Contains ys x → unwrap_or (option_map (λ z. z.chunks) (find (λ z. hash_eq z.hash h) ys)) [] ≡ cs)
        → unwrap_or (option_map (λ z. z.chunks) (cond b (Some y) (find (λ z. hash_eq z.hash h) ys))) [] ≡ cs
    go true f next = a y (0, omega arith, refl) (hash_eq-true y.hash h f)
    go false f next = next (later c.0 f c.1 c.2)

-- the waiting chunks were put as a xorb: the terms of the record stand for what the waiting ones stood for
pub cut_stands : (k : Store) (log now : List Put) (x : Xorb) (ts : List WaitingTerm) (cs : List (List ℕ)) → now ≡ log ++ put.Xorb x ∷ [] → AgreeOn (world k now).xorbs x.hash x.chunks
    → Stand (world k log) x.chunks ts cs → Stand (world k now) [] (map term_of (map (named x.hash) ts)) cs
cut_stands k log now x ts cs grown agree h =
    let more : xorbs_in now ≡ xorbs_in log ++ x ∷ [] = ap xorbs_in grown ∙ xorbs_in-append log (put.Xorb x ∷ []) in
    let world_grew : (world k now).xorbs ≡ (world k log).xorbs ++ x ∷ [] = ap (λ (xs : List Xorb). k.xorbs ++ xs) more ∙ sym (append_assoc k.xorbs (xorbs_in log) (x ∷ [])) in
    let P : List Xorb → Type 0 = λ xs. Contains xs x in
    let there = subst P (sym world_grew) (Contains-push (world k log).xorbs x) in
    let is : chunks_of (world k now) x.hash ≡ x.chunks = agreed (world k now).xorbs x.hash x.chunks x there refl agree in
    stand-named (world k now) x.chunks x.hash is ts cs (stand-grown (world k log) (world k now) (x ∷ []) world_grew x.chunks ts cs h)

All-unmap : {A B : Type 0} (P : B → Type 0) (f : A → B) (xs : List A) → All P (map f xs) → All (λ x. P (f x)) xs
All-unmap P f [] h = All-nil (λ x. P (f x))
All-unmap P f (x ∷ xs) h = All-cons (λ y. P (f y)) x xs (All-head P (f x) (map f xs) h) (All-unmap P f xs (All-tail P (f x) (map f xs) h))

-- a file whose record stands for bytes has these bytes in each store that has its xorbs and the record
pub resolved : (s t : Store) (f : MDBFileInfo) (bytes : List ℕ) → StandsFor s f.entries bytes
    → ((h : MerkleHash) → IsSome (xorb_of s h) → xorb_of t h ≡ xorb_of s h)
    → file_of t f.hash ≡ Some (record { hash = f.hash; terms = map stored_term f.entries }) → bytes_of t f.hash ≡ bytes
resolved s t f bytes h same file =
    let each = All-unmap (IsTerm s []) term_of f.entries h.stand.each in
    let agree : flat_map (λ e. chunks_of_term t (stored_term e)) f.entries ≡ flat_map (λ e. chunks_at s [] (term_of e)) f.entries =
    flat_map-agree (λ (e : FileDataSequenceEntry). IsTerm s [] (term_of e)) (λ e. chunks_of_term t (stored_term e)) (λ e. chunks_at s [] (term_of e)) f.entries each
    (λ e k. ap (λ (o : Option Xorb). slice_range (unwrap_or (option_map (λ x. x.chunks) o) []) e.from e.to) (same e.xorb k.stored)) in
    ap (λ (o : Option StoredFile). concat (flat_map (chunks_of_term t) (unwrap_or (option_map (λ x. x.terms) o) []))) file
    ∙ ap concat (flat_map-map (chunks_of_term t) stored_term f.entries ∙ agree ∙ sym (flat_map-map (chunks_at s []) term_of f.entries) ∙ h.stand.joined)
    ∙ sym h.bytes_are

-- each xorb of the world is found alike in the store after the log
after-world : (s t : Store) (log : List Put) (h : MerkleHash) → store_after s log ≡ Some t → xorb_of t h ≡ xorb_of (world s log) h
after-world s t log h k = after_finds_xorbs s t log h k ∙ sym (find-append (λ x. hash_eq x.hash h) s.xorbs (xorbs_in log))

-- so the store after a log has the bytes that the first record of a file in the log stands for
pub after_resolved : RecordResolves
after_resolved s t log f bytes k h none first =
    let found = option_map file_of_record (find (λ g. hash_eq g.hash f.hash) (files_in log)) in
    resolved (world s log) t f bytes h (λ h e. after-world s t log h k)
    (after_finds_files s t log f.hash k ∙ ap (λ (o : Option StoredFile). option_or o found) none ∙ ap (option_map file_of_record) first)

map-both : {A B C : Type 0} (f : A → B) (g : B → C) (xs : List A) → map g (map f xs) ≡ map (λ x. g (f x)) xs
map-both f g [] = refl
map-both f g (x ∷ xs) = let e = map-both f g xs in cc

-- the parts of a file after the chunks of its own were put as a xorb
pub parts_cut : PartsAsXorb
parts_cut k log p bytes agree h =
    let hash = xorb_hash_of (infos_of p.own.chunks) in
    let now = log ++ put.Xorb (xorb_of_chunks p.own.chunks) ∷ [] in
    let stand = cut_stands k log now (xorb_of_chunks p.own.chunks) p.terms h.chunks refl agree h.stand in
    let P : List WaitingTerm → Type 0 = λ ts. Stand (world k now) [] ts h.chunks in
    record { chunks = h.chunks; stand = subst P (map-both (named hash) term_of p.terms) stand; infos_are = h.infos_are; bytes_are = h.bytes_are }
