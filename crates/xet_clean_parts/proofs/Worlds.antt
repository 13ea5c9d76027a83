-- Xorbs of a world that grows: what is found there, and what its chunks are.
use Rattle.std.proofs.Common.{◌≡◌, ℕ, zero, suc, ◌<◌, ◌⊎◌, inl, inr, Bool, true, false, cond, List, [], ◌∷◌, ◌++◌, length, map, refl, sym, ◌∙◌, ap, subst, arith}
use Rattle.std.specs.Prelude.{Contains, Some, IsSome, Result, Ok, Err, find, is_ok, option_map, slice_index_or, unwrap_or}
use Rattle.std.proofs.lemmas.Bool.{false≢true, true≢false}
use Rattle.std.proofs.lemmas.List.{append_assoc, get_or-map, length-map}
use Rattle.std.proofs.lemmas.List.Elements.{All-contains, Contains-append_cases, Contains-append_left, Contains-append_right, Contains-push}
use Rattle.xet_base.specs.declared.merklehash.MerkleHash.{MerkleHash}
use Rattle.xet_base.specs.declared.mdb_shard.Xorb.{Xorb}
use Rattle.xet_base.specs.declared.mdb_shard.MDBXorbInfo.{MDBXorbInfo}
use Rattle.xet_base.specs.Hashes.{hash_eq}
use Rattle.xet_base.specs.Store.{Store, xorb_of}
use Rattle.xet_base.proofs.CallerLemmas.{hash_eq-true}
use Rattle.xet_uploader.specs.declared.uploader.Put.{Put}
use Rattle.xet_uploader.specs.declared.uploader.Put.TheVariants as put
use Rattle.xet_uploader.specs.Uploads.{xorbs_in}
use Rattle.xet_uploader.proofs.CallerLemmas.{xorbs_in-append}
use Rattle.xet_shard_interface.specs.Interfaces.{known_told, known_xorbs, records_of}
use Rattle.xet_upload.specs.Orders.{IsThere}
use Rattle.xet_upload.specs.Standing.{AgreeOn, AgreesWith, IsRecordIn, world}
use Rattle.xet_upload_session.specs.Calls.{Keeps}
use Rattle.xet_upload_session.specs.Sessions.{SessionTold, Stands, Tells, known_of, log_of}
use Rattle.xet_upload_session.specs.Sounds.{IsSound, XorbsAgree, searched}
use Rattle.xet_upload_session.proofs.CallerLemmas.{stored-of, unfailed}
use Rattle.xet_clean_parts.specs.Premises.{HashesAgree, IsOpen, NoClash, with_xorbs}

-- an answer is not both
pub ok-err : {A E P : Type 0} (a : A) (e : E) → Ok a ≡ Err e → P
ok-err {A} {E} a e q = absurd (true≢false (ap (λ (r : Result A E). is_ok r) q))

-- ---- members of lists

pub Contains-cons : {A : Type 0} (x : A) (xs : List A) (y : A) → Contains xs y → Contains (x ∷ xs) y
Contains-cons x xs y c = (suc c.0, (let lt = c.1 in omega arith), c.2)

pub Contains-head : {A : Type 0} (x : A) (xs : List A) → Contains (x ∷ xs) x
Contains-head x xs = (0, omega arith, refl)

pub Contains-map : {A B : Type 0} (f : A → B) (xs : List A) (x : A) → Contains xs x → Contains (map f xs) (f x)
Contains-map f xs x c =
    let lt = c.1 in
    let size = length-map xs f in
    let low : c.0 < length (map f xs) = omega arith in
    (c.0, low, get_or-map f xs c.0 x (f x) lt ∙ ap f c.2)

-- a member of a mapped list comes from one
pub Contains-unmap : {A B : Type 0} (f : A → B) (xs : List A) (y : B) → Contains (map f xs) y
    → (x : A) × Contains xs x × (f x ≡ y)
Contains-unmap f [] y c = absurd (let lt = c.1 in omega arith)
Contains-unmap {A} {B} f (x ∷ xs) y c = go c.0 c.1 c.2 (λ d. Contains-unmap f xs y d)
  where
    go : (k : ℕ) → k < suc (length (map f xs)) → slice_index_or (f x ∷ map f xs) k y ≡ y → (Contains (map f xs) y
        → (z : A) × Contains xs z × (f z ≡ y)) → (z : A) × Contains (x ∷ xs) z × (f z ≡ y)
    go zero lt is next = (x, Contains-head x xs, is)
    go (suc k) lt is next = let r = next (k, omega arith, is) in (r.0, Contains-cons x xs r.0 r.1, r.2)

-- ---- what is found

-- the xorb that a search finds has the content, where each of its hash has it
pub found-agrees : (xs : List Xorb) (h : MerkleHash) (cs : List (List ℕ)) → IsSome (find (λ y. hash_eq y.hash h) xs)
    → AgreeOn xs h cs → unwrap_or (option_map (λ y. y.chunks) (find (λ y. hash_eq y.hash h) xs)) [] ≡ cs
found-agrees [] h cs s a = absurd (false≢true s)
found-agrees (y ∷ ys) h cs s a = go (hash_eq y.hash h) refl s (λ k. found-agrees ys h cs k (λ z c e. a z
    (Contains-cons y ys z c) e))
  where
    go : (b : Bool) → hash_eq y.hash h ≡ b → IsSome (cond b (Some y) (find (λ z. hash_eq z.hash h) ys)) → (IsSome
        (find (λ z. hash_eq z.hash h) ys) → unwrap_or (option_map (λ z. z.chunks) (find
        (λ z. hash_eq z.hash h) ys)) [] ≡ cs)
        → unwrap_or (option_map (λ z. z.chunks) (cond b (Some y) (find (λ z. hash_eq z.hash h) ys))) [] ≡ cs
    go true f k next = a y (Contains-head y ys) (hash_eq-true y.hash h f)
    go false f k next = next k

-- the chunks that are found agree with a chunk, where those of each xorb do
pub found-chunks : (xs : List Xorb) (h : MerkleHash) (c : List ℕ) → ((x : Xorb) → Contains xs x
    → AgreesWith x.chunks c) → AgreesWith (unwrap_or (option_map (λ y. y.chunks) (find
    (λ y. hash_eq y.hash h) xs)) []) c
found-chunks [] h c a = λ z d e. absurd (let lt = d.1 in omega arith)
found-chunks (y ∷ ys) h c a = go (hash_eq y.hash h) (found-chunks ys h c (λ x d. a x (Contains-cons y ys x d)))
  where
    go : (b : Bool) → AgreesWith (unwrap_or (option_map (λ z. z.chunks) (find (λ z. hash_eq z.hash h) ys)) []) c
        → AgreesWith (unwrap_or (option_map (λ z. z.chunks) (cond b (Some y) (find (λ z. hash_eq z.hash h) ys))) []) c
    go true k = a y (Contains-head y ys)
    go false k = k

-- ---- a world that grows

module _ (k : Store) (log after more : List Put) (grown : after ≡ log ++ more) where
  pub world-grew : (world k after).xorbs ≡ (world k log).xorbs ++ xorbs_in more
  world-grew = ap (λ (xs : List Xorb). k.xorbs ++ xs) (ap xorbs_in grown ∙ xorbs_in-append log more)
      ∙ sym (append_assoc k.xorbs (xorbs_in log) (xorbs_in more))

  pub world-has : (x : Xorb) → Contains (world k log).xorbs x → Contains (world k after).xorbs x
  world-has x c = subst (λ (xs : List Xorb). Contains xs x) (sym world-grew) (Contains-append_left (world k log).xorbs
      (xorbs_in more) x c)

-- what is on the list of a backed session is there
pub listed-stored : (k : Store) (b : SessionTold) (h : MerkleHash) → IsSound k b → Stands b → Contains b.listed h
    → IsSome (xorb_of (world k (log_of b)) h)
listed-stored k b h sound stands c = go (All-contains (IsThere (log_of b) (known_of b)) b.listed h stands.on_list c)
  where
    P : MerkleHash → Type 0
    P z = IsSome (xorb_of (world k (log_of b)) z)

    go : IsThere (log_of b) (known_of b) h → IsSome (xorb_of (world k (log_of b)) h)
    go (inl d) =
        let r = Contains-unmap (λ (x : Xorb). x.hash) (xorbs_in (log_of b)) h d in
        subst P r.2 (stored-of (world k (log_of b)).xorbs r.0 (Contains-append_right k.xorbs (xorbs_in
        (log_of b)) r.0 r.1))
    go (inr d) =
        let r = Contains-unmap (λ (x : MDBXorbInfo). x.hash) (known_xorbs (known_told b.shards)) h d in
        let there = Contains-append_right (records_of b.shards.session).xorbs (known_xorbs
        (known_told b.shards)) r.0 r.1 in
        let known = All-contains (IsRecordIn (world k (log_of b))) (searched b) r.0 sound there in
        subst P r.2 known.stored

-- one of the xorbs that were made agrees with each of its hash
pub agree-made : (s : Store) (made : List Xorb) (x : Xorb) → XorbsAgree (with_xorbs s made) → Contains made x
    → AgreeOn s.xorbs x.hash x.chunks
agree-made s made x a d y c e = a y x (Contains-append_left s.xorbs made y c)
    (Contains-append_right s.xorbs made x d) e

pub agree-alone : (s : Store) (made : List Xorb) → XorbsAgree (with_xorbs s made) → XorbsAgree s
agree-alone s made a x y c d e = a x y (Contains-append_left s.xorbs made x c)
    (Contains-append_left s.xorbs made y d) e

-- a xorb that a session put agrees with each of its hash, where hashes agree
pub agree-put : (k : Store) (n : SessionTold) (log : List Put) (x : Xorb) → log_of n ≡ log ++ put.Xorb x ∷ []
    → HashesAgree k n → AgreeOn (world k (log_of n)).xorbs x.hash x.chunks
agree-put k n log x grown a y c e = a y x (Contains-append_left (world k (log_of n)).xorbs n.repeated y c)
    (Contains-append_left (world k (log_of n)).xorbs n.repeated x there) e
  where
    there : Contains (world k (log_of n)).xorbs x
    there = subst (λ (xs : List Xorb). Contains xs x) (sym (world-grew k log (log_of n) (put.Xorb x ∷ []) grown))
        (Contains-append_right (world k log).xorbs (x ∷ []) x (Contains-head x []))

-- and so does one that it did not put again
pub agree-again : (k : Store) (n : SessionTold) (before : List Xorb) (x : Xorb) → n.repeated ≡ before ++ x ∷ []
    → HashesAgree k n → AgreeOn (world k (log_of n)).xorbs x.hash x.chunks
agree-again k n before x grown a = agree-made (world k (log_of n)) n.repeated x a
    (subst (λ (xs : List Xorb). Contains xs x) (sym grown) (Contains-push before x))

-- hashes that agree after a call agreed before it
pub hashes-before : (k : Store) (m n : SessionTold) → Keeps m n → Tells m → HashesAgree k n → HashesAgree k m
hashes-before k m n keeps t a x y c d = a x y (more x c) (more y d)
  where
    more : (z : Xorb) → Contains ((world k (log_of m)).xorbs ++ m.repeated) z
        → Contains ((world k (log_of n)).xorbs ++ n.repeated) z
    more z e = go (Contains-append_cases (world k (log_of m)).xorbs m.repeated z e)
      where
        go : Contains (world k (log_of m)).xorbs z ⊎ Contains m.repeated z
            → Contains ((world k (log_of n)).xorbs ++ n.repeated) z
        go (inl f) =
            let g = keeps.grew t in
            Contains-append_left (world k (log_of n)).xorbs n.repeated z
            (world-has k (log_of m) (log_of n) (map put.Xorb g.xorbs) g.grown z f)
        go (inr f) = Contains-append_right (world k (log_of n)).xorbs n.repeated z
            (subst (λ (xs : List Xorb). Contains xs z) (sym keeps.repeated.1)
            (Contains-append_left m.repeated keeps.repeated.0 z f))

-- what clashes nowhere after a call clashed nowhere before it
pub clash-before : (k : Store) (m n : SessionTold) (cut cuts : List (List ℕ)) → Keeps m n → Tells m
    → NoClash k n (cut ++ cuts) → NoClash k m cut
clash-before k m n cut cuts keeps t c = record {
  xorbs = hashes-before k m n keeps t c.xorbs;
  chunks = λ x z d e.
      let g = keeps.grew t in
      c.chunks x z (world-has k (log_of m) (log_of n) (map put.Xorb g.xorbs) g.grown x d)
      (Contains-append_left cut cuts z e);
}

pub clash-after : (k : Store) (n : SessionTold) (cut cuts : List (List ℕ)) → NoClash k n (cut ++ cuts)
    → NoClash k n cuts
clash-after k n cut cuts c = record {
  xorbs = c.xorbs;
  chunks = λ x z d e. c.chunks x z d (Contains-append_right cut cuts z e);
}

-- of no chunk
pub clash-none : (k : Store) (n : SessionTold) → HashesAgree k n → NoClash k n []
clash-none k n a = record { xorbs = a; chunks = λ x z d e. absurd (let lt = e.1 in omega arith) }

-- a session that is open now, and steady before, was open and stood
pub opened : (b n : SessionTold) → Keeps b n → IsOpen n → IsOpen b
opened b n keeps o = record {
  unfailed = unfailed b n keeps.failed o.unfailed;
  unfinished = sym keeps.finalized
      ∙ o.unfinished;
}
