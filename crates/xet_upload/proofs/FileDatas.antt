-- The parts of a file stand for one chunk more.
use Rattle.std.proofs.Common.{◌≡◌, ℕ, ◌<◌, List, [], ◌∷◌, ◌++◌, length, refl, sym, ◌∙◌, ap, subst, get_or}
use Rattle.std.specs.List.{concat}
use Rattle.std.proofs.lemmas.List.{map-append, append-nil}
use Rattle.std.proofs.lemmas.List.Folds.{concat-append}
use Rattle.xet_base.specs.declared.mdb_shard.ChunkInfo.{ChunkInfo}
use Rattle.xet_base.specs.declared.mdb_shard.MDBXorbInfo.{MDBXorbInfo}
use Rattle.xet_base.specs.Digests.{chunk_hash_of, info_of, infos_of}
use Rattle.xet_base.specs.Store.{Store, chunks_of}
use Rattle.xet_upload.specs.Standing.{Stand, IsRecordIn, AgreesWith}
use Rattle.xet_waiting.specs.Waitings.{Waiting}
use Rattle.xet_upload.specs.FileDatas.{Parts, PartsStand, OwnAdded, FoundAdded, no_parts}
use Rattle.xet_upload.proofs.Standing.{stand-nil, stand-own, stand-found}

pub parts-nil : (s : Store) → PartsStand s no_parts []
parts-nil s = record { chunks = []; stand = stand-nil s []; infos_are = refl; bytes_are = refl }

more_infos : (cs : List (List ℕ)) (c : List ℕ) (infos more : List ChunkInfo) → infos ≡ infos_of cs → more ≡ infos ++ info_of c ∷ [] → more ≡ infos_of (cs ++ c ∷ [])
more_infos cs c infos more h k = k ∙ ap (λ (xs : List ChunkInfo). xs ++ info_of c ∷ []) h ∙ sym (map-append info_of cs (c ∷ []))

more_bytes : (cs : List (List ℕ)) (c bytes : List ℕ) → bytes ≡ concat cs → bytes ++ c ≡ concat (cs ++ c ∷ [])
more_bytes cs c bytes h = ap (λ (xs : List ℕ). xs ++ c) h ∙ ap (λ (xs : List ℕ). concat cs ++ xs) (sym (append-nil c)) ∙ sym (concat-append cs (c ∷ []))

module _ (s : Store) (p q : Parts) (c bytes : List ℕ) where
  pub parts-own : OwnAdded p c q → PartsStand s p bytes → PartsStand s q (bytes ++ c)
  parts-own a h =
      let stand = stand-own s p.own.chunks c p.terms q.terms a.term h.chunks a.xorb a.from a.to a.bytes a.added h.stand in
      record {
        chunks = h.chunks ++ c ∷ [];
        stand = let P : Waiting → Type 0 = λ o. Stand s o.chunks q.terms (h.chunks ++ c ∷ []) in subst P (sym a.own) stand;
        infos_are = more_infos h.chunks c p.infos q.infos h.infos_are a.infos;
        bytes_are = more_bytes h.chunks c bytes h.bytes_are;
      }

  pub parts-found : (r : MDBXorbInfo) (i : ℕ) (d : ChunkInfo) → IsRecordIn s r → i < length r.chunks → (get_or r.chunks i d).hash ≡ chunk_hash_of c → AgreesWith (chunks_of s r.hash) c
      → FoundAdded p r.hash i (info_of c) q → PartsStand s p bytes → PartsStand s q (bytes ++ c)
  parts-found r i d known within hash agree a h =
      let stand = stand-found s p.own.chunks r c i d p.terms q.terms a.term h.chunks known within hash agree a.xorb a.from a.to a.bytes a.added h.stand in
      record {
        chunks = h.chunks ++ c ∷ [];
        stand = let P : Waiting → Type 0 = λ o. Stand s o.chunks q.terms (h.chunks ++ c ∷ []) in subst P (sym a.own) stand;
        infos_are = more_infos h.chunks c p.infos q.infos h.infos_are a.infos;
        bytes_are = more_bytes h.chunks c bytes h.bytes_are;
      }
