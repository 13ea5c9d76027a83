-- Tests of what a session's lists have.
use Rattle.std.proofs.Common.{◌≡◌, ℕ, ◌<◌, true, false, List, [], ◌∷◌, ◌++◌, length, map, refl, sym, ◌∙◌, ap, subst, arith}
use Rattle.std.specs.Prelude.{All, Contains, None, Result, Ok, Err, OnOk, OnErr, ltb}
use Rattle.std.proofs.lemmas.Bool.{lt-ltb, ltb-true}
use Rattle.std.proofs.lemmas.List.{map-append}
use Rattle.std.proofs.lemmas.List.Concat.{flat_map-append}
use Rattle.std.proofs.lemmas.List.Elements.{All-nil, All-cons, All-append, All-same, All-weaker, Contains-append_left, Contains-push}
use Rattle.std.proofs.lemmas.List.Sums.{AllPass-from_list_all, list_all-from_AllPass}
use Rattle.xet_base.specs.declared.merklehash.MerkleHash.{MerkleHash}
use Rattle.xet_base.specs.declared.mdb_shard.MDBFileInfo.{MDBFileInfo}
use Rattle.xet_upload.specs.Orders.{names_of}
use Rattle.xet_upload.specs.Waitings.{IsWithin, Waiting, merged, no_waiting}
use Rattle.xet_waiting.specs.declared.raw_xorb.PendingFile.{PendingFile}
use Rattle.xet_upload_session.specs.Sessions.{HasListed, IsListed, SessionTold, waiting_names}
use Rattle.xet_upload_parts.specs.HashLists.{has}
use Rattle.xet_upload_parts.specs.Storable.{IsStorable}
use Rattle.xet_upload_session.specs.steps.Listings.{AreListed, AreStorable, has_all}
use Rattle.xet_upload_parts.proofs.CallerLemmas.{contains-has, has-contains}
use Rattle.xet_upload_session.proofs.Listing.{names-merged}

pub all-listed : (listed hs : List MerkleHash) → has_all listed hs ≡ true → All (Contains listed) hs
all-listed listed hs e =
    let P : MerkleHash → Type 0 = λ h. has h listed ≡ true in
    All-weaker P (Contains listed) (λ h k. has-contains h listed k) hs (AllPass-from_list_all (λ h. has h listed) hs e)

pub listed-all : (listed hs : List MerkleHash) → All (Contains listed) hs → has_all listed hs ≡ true
listed-all listed hs a =
    let P : MerkleHash → Type 0 = λ h. has h listed ≡ true in
    list_all-from_AllPass (λ h. has h listed) hs (All-weaker (Contains listed) P (λ h k. contains-has h listed k) hs a)

-- the tests pass exactly where all is listed
pub listed-tested : (t : SessionTold) → AreListed t.listed t.registered t.finished t.waiting → IsListed t
listed-tested t a = record {
  finished = all-listed t.listed (names_of t.finished) a.finished;
  waiting = all-listed t.listed _ a.waiting;
  put = all-listed t.listed t.registered a.put;
}

pub tested-listed : (t : SessionTold) → IsListed t → AreListed t.listed t.registered t.finished t.waiting
tested-listed t l = record {
  finished = listed-all t.listed (names_of t.finished) l.finished;
  waiting = listed-all t.listed _ l.waiting;
  put = listed-all t.listed t.registered l.put;
}

-- the test passes exactly where a xorb of the chunks can be stored
module _ (cs : List (List ℕ)) where
  abbrev Passes : List ℕ → Type 0
  Passes c = ltb 0 (length c) ≡ true

  abbrev HasByte : List ℕ → Type 0
  HasByte c = 0 < length c

  pub tested-storable : AreStorable cs → IsStorable cs
  tested-storable a = record {
    some = All-weaker Passes HasByte (λ c k. ltb-true 0 (length c) k) cs (AllPass-from_list_all (λ c. ltb 0 (length c)) cs a.some);
    within = a.within;
  }

  pub storable-tested : IsStorable cs → AreStorable cs
  storable-tested s = record {
    some = list_all-from_AllPass (λ c. ltb 0 (length c)) cs (All-weaker HasByte Passes (λ c k. lt-ltb 0 (length c) k) cs s.some);
    within = s.within;
  }

-- the type's facts
pub has-listed : (t : SessionTold) → (t.failed ≡ None → t.finalized ≡ false → AreListed t.listed t.registered t.finished t.waiting) → AreStorable t.waiting.chunks → HasListed t
has-listed t h w = record { all = λ f g. listed-tested t (h f g); waits = tested-storable t.waiting.chunks w }

-- ---- what waits goes on being storable

pub waits-empty : AreStorable []
waits-empty = record { some = refl; within = (omega arith, omega arith) }

pub waits-none : (w : Waiting) → w ≡ no_waiting → AreStorable w.chunks
waits-none w e = subst (λ (v : Waiting). AreStorable v.chunks) (sym e) waits-empty

-- other data waits
pub waits-replaced : (v u : Waiting) → u ≡ v → IsStorable v.chunks → AreStorable u.chunks
waits-replaced v u e s = subst (λ (w : Waiting). AreStorable w.chunks) (sym e) (storable-tested v.chunks s)

-- data joined what waits, or it was refused
pub waits-joined : {E : Type 0} (w v u : Waiting) (answer : Result (Unit {0}) E) → OnOk answer (u ≡ merged w v) → OnErr answer (u ≡ w) → AreStorable w.chunks → IsStorable v.chunks → IsWithin (w.chunks ++ v.chunks) → AreStorable u.chunks
waits-joined w v u (Ok t) ok err a s within =
    waits-replaced (merged w v) u ok (record { some = All-append (λ (c : List ℕ). 0 < length c) w.chunks v.chunks (tested-storable w.chunks a).some s.some; within = within })
waits-joined w v u (Err e) ok err a s within = subst (λ (z : Waiting). AreStorable z.chunks) (sym err) a

-- what waited was taken, or it waits on
pub waits-taken : {A E : Type 0} (w v : Waiting) (answer : Result A E) → OnOk answer (v ≡ no_waiting) → OnErr answer (v ≡ w) → AreStorable w.chunks → AreStorable v.chunks
waits-taken w v (Ok x) ok err a = waits-none v ok
waits-taken w v (Err e) ok err a = subst (λ (z : Waiting). AreStorable z.chunks) (sym err) a

-- ---- what keeps the tests

-- the list has more at its end
tests-more : (l m extra hs : List MerkleHash) → m ≡ l ++ extra → has_all l hs ≡ true → has_all m hs ≡ true
tests-more l m extra hs e k =
    listed-all m hs (All-weaker (Contains l) (Contains m) (λ h c. subst (λ (z : List MerkleHash). Contains z h) (sym e) (Contains-append_left l extra h c)) hs (all-listed l hs k))

module _ (l r : List MerkleHash) (fs : List MDBFileInfo) (w : Waiting) (a : AreListed l r fs w) where
  -- the lists are as before
  pub are-same : (m s : List MerkleHash) → m ≡ l → s ≡ r → AreListed m s fs w
  are-same m s e f =
      subst (λ (z : List MerkleHash). AreListed z s fs w) (sym e) (subst (λ (z : List MerkleHash). AreListed l z fs w) (sym f) a)

  -- a hash more on both
  pub are-put : (m s : List MerkleHash) (h : MerkleHash) → m ≡ l ++ h ∷ [] → s ≡ r ++ h ∷ [] → AreListed m s fs w
  are-put m s h e f =
      let there : Contains m h = subst (λ (z : List MerkleHash). Contains z h) (sym e) (Contains-push l h) in
      let old : All (Contains m) r = all-listed m r (tests-more l m (h ∷ []) r e a.put) in
      record {
        finished = tests-more l m (h ∷ []) (names_of fs) e a.finished;
        waiting = tests-more l m (h ∷ []) _ e a.waiting;
        put = listed-all m s (All-same (Contains m) s (r ++ h ∷ []) f (All-append (Contains m) r (h ∷ []) old (All-cons (Contains m) h [] there (All-nil (Contains m)))));
      }

  -- a hash more on the list
  pub are-found : (m : List MerkleHash) (h : MerkleHash) → m ≡ l ++ h ∷ [] → AreListed m r fs w
  are-found m h e = record {
    finished = tests-more l m (h ∷ []) (names_of fs) e a.finished;
    waiting = tests-more l m (h ∷ []) _ e a.waiting;
    put = tests-more l m (h ∷ []) r e a.put;
  }

  -- nothing waits
  pub are-emptied : AreListed l r fs no_waiting
  are-emptied = record { finished = a.finished; waiting = refl; put = a.put }

  -- other data waits, whose xorbs are on the list
  are-waiting : (v : Waiting) → All (Contains l) (waiting_names v.files) → AreListed l r fs v
  are-waiting v k = record { finished = a.finished; waiting = listed-all l (waiting_names v.files) k; put = a.put }

  pub are-replaced : (v u : Waiting) → u ≡ v → All (Contains l) (waiting_names v.files) → AreListed l r fs u
  are-replaced v u e k = subst (λ (z : Waiting). AreListed l r fs z) (sym e) (are-waiting v k)

  -- data joined what waits
  are-merged : (v u : Waiting) → u ≡ merged w v → All (Contains l) (waiting_names v.files) → AreListed l r fs u
  are-merged v u e k = subst (λ (z : Waiting). AreListed l r fs z) (sym e) (are-waiting (merged w v) (names-merged l w v (all-listed l (waiting_names w.files) a.waiting) k))

  -- the same, or it was refused
  pub are-joined : {E : Type 0} (v u : Waiting) (answer : Result (Unit {0}) E) → OnOk answer (u ≡ merged w v) → OnErr answer (u ≡ w) → All (Contains l) (waiting_names v.files) → AreListed l r fs u
  are-joined v u (Ok t) ok err k = are-merged v u ok k
  are-joined v u (Err e) ok err k = subst (λ (z : Waiting). AreListed l r fs z) (sym err) a

  -- files more, whose xorbs are on the list
  are-finished : (gs : List MDBFileInfo) → All (Contains l) (names_of gs) → AreListed l r (fs ++ gs) w
  are-finished gs k =
      let split = flat_map-append (λ (f : MDBFileInfo). map (λ e. e.xorb) f.entries) fs gs in
      record {
        finished = listed-all l (names_of (fs ++ gs)) (All-same (Contains l) (names_of (fs ++ gs)) (names_of fs ++ names_of gs) split (All-append (Contains l) (names_of fs) (names_of gs) (all-listed l (names_of fs) a.finished) k));
        waiting = a.waiting;
        put = a.put;
      }

-- the files that were finished came behind the others
pub are-appended : (l r : List MerkleHash) (w : Waiting) (fs gs hs ts : List PendingFile) → ts ≡ fs ++ gs → gs ≡ hs → AreListed l r (map (λ p. p.info) fs) w → All (Contains l) (names_of (map (λ p. p.info) hs)) → AreListed l r (map (λ p. p.info) ts) w
are-appended l r w fs gs hs ts e f a named =
    let P : List MDBFileInfo → Type 0 = λ z. AreListed l r z w in
    let whole : map (λ p. p.info) ts ≡ map (λ p. p.info) fs ++ map (λ p. p.info) hs = ap (map (λ p. p.info)) (e ∙ ap (λ (z : List PendingFile). fs ++ z) f) ∙ map-append (λ (p : PendingFile). p.info) fs hs in
    subst P (sym whole) (are-finished l r (map (λ p. p.info) fs) w a (map (λ p. p.info) hs) named)

-- what waited was taken, or it waits on
pub are-taken : {A E : Type 0} (l r : List MerkleHash) (w : Waiting) (fs gs : List PendingFile) → AreListed l r (map (λ p. p.info) fs) w → gs ≡ fs → (v : Waiting) (answer : Result A E) → OnOk answer (v ≡ no_waiting) → OnErr answer (v ≡ w) → AreListed l r (map (λ p. p.info) gs) v
are-taken {A = A} {E = E} l r w fs gs a e v answer ok err = subst (λ (z : List PendingFile). AreListed l r (map (λ p. p.info) z) v) (sym e) (go answer ok err)
  where
    go : (z : Result A E) → OnOk z (v ≡ no_waiting) → OnErr z (v ≡ w) → AreListed l r (map (λ p. p.info) fs) v
    go (Ok x) q k = subst (λ (u : Waiting). AreListed l r (map (λ p. p.info) fs) u) (sym q) (are-emptied l r (map (λ p. p.info) fs) w a)
    go (Err x) q k = subst (λ (u : Waiting). AreListed l r (map (λ p. p.info) fs) u) (sym k) a
