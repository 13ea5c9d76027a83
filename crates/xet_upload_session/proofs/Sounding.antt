-- Searched records go on describing xorbs that are there.
use Rattle.std.proofs.Common.{◌≡◌, ℕ, suc, zero, ◌<◌, ◌⊎◌, inl, inr, Bool, true, false, cond, List, [], ◌∷◌, ◌++◌, length, refl, sym, ◌∙◌, ap, subst, arith}
use Rattle.std.specs.Prelude.{All, Contains, Option, Some, None, IsSome, find, is_some, option_map, slice_index_or, unwrap_or}
use Rattle.std.proofs.lemmas.Bool.{false≢true, true≢false}
use Rattle.std.proofs.lemmas.List.{append-nil, append_assoc}
use Rattle.std.proofs.lemmas.List.Elements.{All-nil, All-cons, All-append, All-weaker, Contains-append_left, Contains-append_right, Contains-push}
use Rattle.xet_base.specs.declared.mdb_shard.Xorb.{Xorb}
use Rattle.xet_base.specs.declared.mdb_shard.MDBXorbInfo.{MDBXorbInfo}
use Rattle.xet_base.specs.declared.mdb_shard.ShardRecord.{ShardRecord}
use Rattle.xet_base.specs.declared.merklehash.MerkleHash.{MerkleHash}
use Rattle.xet_base.specs.Digests.{infos_of}
use Rattle.xet_base.specs.Hashes.{hash_eq}
use Rattle.xet_base.specs.Records.{Describes}
use Rattle.xet_base.specs.Store.{Store, xorb_of, chunks_of}
use Rattle.xet_base.proofs.CallerLemmas.{eq-hash_eq}
use Rattle.xet_outside.specs.Told.{Grew}
use Rattle.xet_uploader.specs.declared.uploader.Put.{Put}
use Rattle.xet_uploader.specs.declared.uploader.Put.TheVariants as put
use Rattle.xet_uploader.specs.Uploads.{xorbs_in}
use Rattle.xet_uploader.proofs.CallerLemmas.{xorbs_in-append}
use Rattle.xet_shards.specs.Shards.{no_records, with_records}
use Rattle.xet_shard_interface.specs.Interfaces.{InterfaceTold, known_told, known_xorbs, records_of}
use Rattle.xet_shard_interface.proofs.CallerLemmas.{All-append_left, All-append_right}
use Rattle.xet_upload.specs.Standing.{AgreeOn, IsRecordIn, world}
use Rattle.xet_upload.proofs.CallerLemmas.{agreed}
use Rattle.xet_upload_session.specs.Calls.{one_xorb}
use Rattle.xet_upload_session.specs.Sessions.{SessionTold, log_of}
use Rattle.xet_upload_session.specs.Sounds.{IsSound, XorbsAgree, searched}

-- ---- xorbs of a world

find-kept : (p : Xorb → Bool) (xs ys : List Xorb) → IsSome (find p xs) → find p (xs ++ ys) ≡ find p xs
find-kept p [] ys s = absurd (false≢true s)
find-kept p (x ∷ xs) ys s = go (p x) s (λ k. find-kept p xs ys k)
  where
    go : (b : Bool) → IsSome (cond b (Some x) (find p xs)) → (IsSome (find p xs) → find p (xs ++ ys) ≡ find p xs) → cond b (Some x) (find p (xs ++ ys)) ≡ cond b (Some x) (find p xs)
    go true k f = refl
    go false k f = f k

-- a xorb that is there is found
pub stored-of : (xs : List Xorb) (x : Xorb) → Contains xs x → IsSome (find (λ y. hash_eq y.hash x.hash) xs)
stored-of [] x c = absurd (let lt = c.1 in omega arith)
stored-of (y ∷ ys) x c = go (hash_eq y.hash x.hash) refl (λ k. stored-of ys x k)
  where
    later : (k : ℕ) → hash_eq y.hash x.hash ≡ false → k < suc (length ys) → slice_index_or (y ∷ ys) k x ≡ x → Contains ys x
    later zero f lt is = absurd (true≢false (sym (eq-hash_eq y.hash x.hash (ap (λ (z : Xorb). z.hash) is)) ∙ f))
    later (suc k) f lt is = (k, omega arith, is)

    go : (b : Bool) → hash_eq y.hash x.hash ≡ b → (Contains ys x → IsSome (find (λ z. hash_eq z.hash x.hash) ys)) → IsSome (cond b (Some y) (find (λ z. hash_eq z.hash x.hash) ys))
    go true f next = refl
    go false f next = next (later c.0 f c.1 c.2)

module _ (k : Store) (log after more : List Put) (grown : after ≡ log ++ more) where
  world-grew : (world k after).xorbs ≡ (world k log).xorbs ++ xorbs_in more
  world-grew = ap (λ (xs : List Xorb). k.xorbs ++ xs) (ap xorbs_in grown ∙ xorbs_in-append log more) ∙ sym (append_assoc k.xorbs (xorbs_in log) (xorbs_in more))

  xorb_of-kept : (h : MerkleHash) → IsSome (xorb_of (world k log) h) → xorb_of (world k after) h ≡ xorb_of (world k log) h
  xorb_of-kept h s = ap (find (λ x. hash_eq x.hash h)) world-grew ∙ find-kept (λ x. hash_eq x.hash h) (world k log).xorbs (xorbs_in more) s

  -- what a record describes stays
  record-grown : (r : MDBXorbInfo) → IsRecordIn (world k log) r → IsRecordIn (world k after) r
  record-grown r h =
      let same = xorb_of-kept r.hash h.stored in
      record {
        stored = subst (λ (o : Option Xorb). IsSome o) (sym same) h.stored;
        chunks = h.chunks ∙ ap (λ (o : Option Xorb). infos_of (unwrap_or (option_map (λ x. x.chunks) o) [])) (sym same);
      }

  -- xorbs that agree at the end agreed before
  pub agree-before : XorbsAgree (world k after) → XorbsAgree (world k log)
  agree-before a x y c d =
      let C : Xorb → List Xorb → Type 0 = λ z xs. Contains xs z in
      a x y (subst (λ (xs : List Xorb). Contains xs x) (sym world-grew) (Contains-append_left (world k log).xorbs (xorbs_in more) x c))
      (subst (λ (xs : List Xorb). Contains xs y) (sym world-grew) (Contains-append_left (world k log).xorbs (xorbs_in more) y d))

-- a xorb that was put is described by its record
record-put : (k : Store) (log : List Put) (x : Xorb) (r : MDBXorbInfo) → Contains (xorbs_in log) x → Describes r x → XorbsAgree (world k log) → IsRecordIn (world k log) r
record-put k log x r c d agree =
    let there : Contains (world k log).xorbs x = Contains-append_right k.xorbs (xorbs_in log) x c in
    let on : AgreeOn (world k log).xorbs x.hash x.chunks = λ y h e. agree y x h there e in
    let is : chunks_of (world k log) x.hash ≡ x.chunks = agreed (world k log).xorbs x.hash x.chunks x there refl on in
    record {
      stored = subst (λ (h : MerkleHash). IsSome (xorb_of (world k log) h)) (sym d.hash) (stored-of (world k log).xorbs x there);
      chunks = d.chunks ∙ ap infos_of (sym is ∙ ap (chunks_of (world k log)) (sym d.hash));
    }

-- ---- the records that are searched

-- the log grew, and the same records are searched
pub sound-grown : (k : Store) (b n : SessionTold) (more : List Put) → log_of n ≡ log_of b ++ more → searched n ≡ searched b → IsSound k b → IsSound k n
sound-grown k b n more grown same s =
    let P : List MDBXorbInfo → Type 0 = λ rs. All (IsRecordIn (world k (log_of n))) rs in
    subst P (sym same) (All-weaker (IsRecordIn (world k (log_of b))) (IsRecordIn (world k (log_of n))) (record-grown k (log_of b) (log_of n) more grown) (searched b) s)

pub sound-same : (k : Store) (b n : SessionTold) → log_of n ≡ log_of b → searched n ≡ searched b → IsSound k b → IsSound k n
sound-same k b n log same s = sound-grown k b n [] (log ∙ sym (append-nil (log_of b))) same s

-- the same stores are searched
pub searched-same : (b n : SessionTold) → n.shards ≡ b.shards → searched n ≡ searched b
searched-same b n e = ap (λ (i : InterfaceTold). (records_of i.session).xorbs ++ known_xorbs (known_told i)) e

-- the session's records, where one may have come
records-grown : (P : MDBXorbInfo → Type 0) (o p : Option ShardRecord) (r : MDBXorbInfo) → (p ≡ o) ⊎ (p ≡ option_map (λ z. with_records z (one_xorb r)) o) → P r → All P (unwrap_or o no_records).xorbs → All P (unwrap_or p no_records).xorbs
records-grown P o p r (inl e) x a = subst (λ (z : Option ShardRecord). All P (unwrap_or z no_records).xorbs) (sym e) a
records-grown P None p r (inr e) x a = subst (λ (z : Option ShardRecord). All P (unwrap_or z no_records).xorbs) (sym e) a
records-grown P (Some s) p r (inr e) x a = subst (λ (z : Option ShardRecord). All P (unwrap_or z no_records).xorbs) (sym e) (All-append P s.xorbs (r ∷ []) a (All-cons P r [] x (All-nil P)))

-- the record of a xorb that was put came behind the session's, or not
pub sound-added : (k : Store) (b n : SessionTold) (x : Xorb) (r : MDBXorbInfo) → log_of n ≡ log_of b → Contains (xorbs_in (log_of b)) x → Describes r x → XorbsAgree (world k (log_of n)) → known_told n.shards ≡ known_told b.shards
    → (n.shards.session.records ≡ b.shards.session.records) ⊎ (n.shards.session.records ≡ option_map (λ z. with_records z (one_xorb r)) b.shards.session.records) → IsSound k b → IsSound k n
sound-added k b n x r log c d agree known added s =
    let P : MDBXorbInfo → Type 0 = IsRecordIn (world k (log_of n)) in
    let S = (records_of b.shards.session).xorbs in
    let K = known_xorbs (known_told b.shards) in
    let old = All-weaker (IsRecordIn (world k (log_of b))) P (record-grown k (log_of b) (log_of n) [] (log ∙ sym (append-nil (log_of b)))) (searched b) s in
    let kept = subst (λ (z : Option (Option ShardRecord) × Option ShardRecord). All P (known_xorbs z)) (sym known) (All-append_right P S K old) in
    let new : P r = record-put k (log_of n) x r (subst (λ (ps : List Put). Contains (xorbs_in ps) x) (sym log) c) d agree in
    All-append P (records_of n.shards.session).xorbs (known_xorbs (known_told n.shards)) (records-grown P b.shards.session.records n.shards.session.records r added new (All-append_left P S K old)) kept

-- a xorb that came into a told log is there
pub put-contained : (o p : Option (List Put)) (x : Xorb) → Grew o p (put.Xorb x) → IsSome p → Contains (xorbs_in (unwrap_or p [])) x
put-contained None p x g t = absurd (false≢true (sym (ap (λ (z : Option (List Put)). is_some z) g) ∙ t))
put-contained (Some ps) p x g t =
    let C : List Xorb → Type 0 = λ xs. Contains xs x in
    subst C (sym (ap (λ (z : Option (List Put)). xorbs_in (unwrap_or z [])) g ∙ xorbs_in-append ps (put.Xorb x ∷ []))) (Contains-push (xorbs_in ps) x)
