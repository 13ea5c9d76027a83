-- Records of xorbs, made and gathered.
use Rattle.std.proofs.Common.{◌≡◌, ℕ, ◌+◌, ◌<◌, Bool, true, false, cond, List, [], ◌∷◌, ◌++◌, length, map, take, get_or, refl, sym, ◌∙◌, ap}
use Rattle.std.specs.Prelude.{Option, Some, None, option_map, position}
use Rattle.std.specs.List.{cons_option, filter_map, list_any}
use Rattle.std.proofs.lemmas.List.{take_more, map_push, append-nil}
use Rattle.std.proofs.lemmas.List.Elements.{filter_map-append}
use Rattle.xet_base.specs.declared.merklehash.MerkleHash.{MerkleHash}
use Rattle.xet_base.specs.declared.mdb_shard.ChunkInfo.{ChunkInfo}
use Rattle.xet_base.specs.declared.mdb_shard.MDBXorbInfo.{MDBXorbInfo}
use Rattle.xet_base.specs.Hashes.{hash_eq}
use Rattle.xet_base.specs.Lists.{firsts}
use Rattle.xet_base.proofs.CallerLemmas.{firsts-push, hash_eq-chain, position_some, position_no}
use Rattle.xet_uploader.specs.Uploads.{capped_info}
use Rattle.xet_mirror_parts.specs.declared.copied.LookedXorb.{LookedXorb}
use Rattle.xet_mirror_parts.specs.Looked.{looked_at}
use Rattle.xet_mirror_parts.specs.steps.Gathered.{IsGathered}

-- the records of the first chunks, and of one more
pub infos_more : (cs : List (List ℕ)) (i : ℕ) (c : List ℕ) (infos more : List ChunkInfo) (info : ChunkInfo)
    → i < length cs → c ≡ get_or cs i c → infos ≡ map capped_info (take i cs) → info ≡ capped_info c
    → more ≡ infos ++ info ∷ [] → more ≡ map capped_info (take (i + 1) cs)
infos_more cs i c infos more info within item done is added =
    added
    ∙ ap (λ (xs : List ChunkInfo). xs ++ info ∷ []) done
    ∙ ap (λ (x : ChunkInfo). map capped_info (take i cs) ++ x ∷ []) (is ∙ ap capped_info item)
    ∙ sym (ap (λ (xs : List (List ℕ)). map capped_info xs) (take_more cs i c within)
    ∙ map_push capped_info (take i cs) (get_or cs i c))

-- ---- one hash more

firsts-more : (hs : List MerkleHash) (h : MerkleHash) (b : Bool) → list_any (λ y. hash_eq y h) (firsts hash_eq hs) ≡ b
    → firsts hash_eq (hs ++ h ∷ []) ≡ cond b (firsts hash_eq hs) (firsts hash_eq hs ++ h ∷ [])
firsts-more hs h b e =
    firsts-push hash_eq hash_eq-chain hs h ∙ ap (λ b. cond b (firsts hash_eq hs) (firsts hash_eq hs ++ h ∷ [])) e

-- it was named before
pub gathered-again : (xs : List LookedXorb) (hs named more : List MerkleHash) (records : List MDBXorbInfo) (h : MerkleHash) (n : ℕ)
    → IsGathered xs hs named records → position (λ y. hash_eq y h) named ≡ Some n → more ≡ named → IsGathered xs (hs ++ h ∷ []) more records
gathered-again xs hs named more records h n g at same =
    let any = (position_some (λ y. hash_eq y h) named n at).0 in
    let e = firsts-more hs h true (ap (list_any (λ y. hash_eq y h)) (sym g.named) ∙ any) in
    record {
      named = same ∙ g.named ∙ sym e;
      records = g.records ∙ ap (filter_map (λ h. option_map (λ x. x.info) (looked_at xs h))) (sym e);
    }

-- or it is new
pub gathered-new : (xs : List LookedXorb) (hs named more : List MerkleHash) (records longer : List MDBXorbInfo) (h : MerkleHash)
    → IsGathered xs hs named records → position (λ y. hash_eq y h) named ≡ None → more ≡ named ++ h ∷ []
    → longer ≡ records ++ filter_map (λ h. option_map (λ x. x.info) (looked_at xs h)) (h ∷ []) → IsGathered xs (hs ++ h ∷ []) more longer
gathered-new xs hs named more records longer h g at last grown =
    let none = position_no (λ y. hash_eq y h) named at in
    let e = firsts-more hs h false (ap (list_any (λ y. hash_eq y h)) (sym g.named) ∙ none) in
    let record_at : MerkleHash → Option MDBXorbInfo = λ h. option_map (λ x. x.info) (looked_at xs h) in
    record {
      named = last ∙ ap (λ gs. gs ++ h ∷ []) g.named ∙ sym e;
      records = grown ∙ ap (λ rs. rs ++ filter_map record_at (h ∷ [])) g.records
          ∙ sym (ap (filter_map record_at) e ∙ filter_map-append record_at (firsts hash_eq hs) (h ∷ []));
    }

-- whose record is there, or isn't
pub gathered-found : (xs : List LookedXorb) (hs named more : List MerkleHash) (records longer : List MDBXorbInfo) (h : MerkleHash) (l : LookedXorb)
    → IsGathered xs hs named records → position (λ y. hash_eq y h) named ≡ None → more ≡ named ++ h ∷ []
    → looked_at xs h ≡ Some l → longer ≡ records ++ l.info ∷ [] → IsGathered xs (hs ++ h ∷ []) more longer
gathered-found xs hs named more records longer h l g at last there grown =
    gathered-new xs hs named more records longer h g at last (grown ∙ ap (λ (o : Option LookedXorb). records ++ cons_option (option_map (λ x. x.info) o) []) (sym there))

pub gathered-absent : (xs : List LookedXorb) (hs named more : List MerkleHash) (records : List MDBXorbInfo) (h : MerkleHash)
    → IsGathered xs hs named records → position (λ y. hash_eq y h) named ≡ None → more ≡ named ++ h ∷ []
    → looked_at xs h ≡ None → IsGathered xs (hs ++ h ∷ []) more records
gathered-absent xs hs named more records h g at last there =
    gathered-new xs hs named more records records h g at last
    (sym (append-nil records) ∙ ap (λ (o : Option LookedXorb). records ++ cons_option (option_map (λ x. x.info) o) []) (sym there))

pub gathered-none : (xs : List LookedXorb) → IsGathered xs [] [] []
gathered-none xs = record { named = refl; records = refl }
