-- What a search through a session finds is there.
use Rattle.std.proofs.Common.{◌≡◌, ℕ, ◌⊎◌, inl, inr, Bool, true, false, if◌then◌else◌, List, [], ◌∷◌, ◌++◌, map, refl, sym, ◌∙◌, ap, subst, arith}
use Rattle.std.specs.Prelude.{All, Contains, Option, Some, None, IsSome, IfSome, unwrap_or, Ok, Err}
use Rattle.std.specs.Option.{option_or}
use Rattle.std.proofs.lemmas.Option.{none-some, same_Some}
use Rattle.std.proofs.lemmas.List.{append-nil, length-map, get_or-map}
use Rattle.std.proofs.lemmas.List.Elements.{All-nil, All-cons, All-append, All-contains, Contains-append_left, Contains-append_right, Contains-push}
use Rattle.xet_base.specs.declared.merklehash.MerkleHash.{MerkleHash}
use Rattle.xet_base.specs.declared.mdb_shard.FileDataSequenceEntry.{FileDataSequenceEntry}
use Rattle.xet_base.specs.declared.mdb_shard.MDBXorbInfo.{MDBXorbInfo}
use Rattle.xet_base.specs.declared.mdb_shard.ShardRecord.{ShardRecord}
use Rattle.xet_shards.specs.Runs.{find_in}
use Rattle.xet_shards.specs.Shards.{no_records}
use Rattle.xet_shards.proofs.CallerLemmas.{find_in-at}
use Rattle.xet_shard_interface.specs.Interfaces.{InterfaceTold, LaterFaults, Looks, SearchTells, Searches, StoresTell, found_in, known_told, known_xorbs, noted, records_of, resumed_records, resumed_xorbs, searched_resumed}
use Rattle.xet_shard_interface.specs.Puts.{puts_of}
use Rattle.xet_upload.specs.Orders.{IsThere}
use Rattle.xet_upload.specs.declared.data_error.DataError.{DataError}
use Rattle.xet_upload.specs.declared.data_error.DataError.TheVariants as data_error
use Rattle.xet_upload_session.specs.Calls.{Keeps, Queries, SearchesInOrder}
use Rattle.xet_upload_session.specs.Sessions.{IsListed, SessionTold, Stands, Tells, known_of, log_of}
use Rattle.xet_upload_session.specs.steps.SessionSteps.{OnList}
use Rattle.xet_upload_session.proofs.Keeping.{failed-same, keeps-refl, later-same, none-put, queries-same, repeats-same, stands-at, steady-same}
use Rattle.xet_upload_session.specs.Sounds.{searched}
use Rattle.xet_upload_session.proofs.Sounding.{sound-same}
use Rattle.xet_upload_session.proofs.Listing.{listed-more}

-- ---- what is found is there

Contains-hash : (rs : List MDBXorbInfo) (r : MDBXorbInfo) → Contains rs r → Contains (map (λ (x : MDBXorbInfo). x.hash) rs) r.hash
Contains-hash rs r c =
    let low = c.1 in
    let size = length-map rs (λ (x : MDBXorbInfo). x.hash) in
    (c.0, omega (arith, low, size), get_or-map (λ (x : MDBXorbInfo). x.hash) rs c.0 r r.hash low ∙ ap (λ (x : MDBXorbInfo). x.hash) c.2)

cases-or : {A : Type 0} (o p : Option A) (x : A) → option_or o p ≡ Some x → (o ≡ Some x) ⊎ (p ≡ Some x)
cases-or (Some y) p x e = inl e
cases-or None p x e = inr e

noted-is : (k : Bool) (o : Option (ℕ × FileDataSequenceEntry)) (f : ℕ × FileDataSequenceEntry × Bool) → noted k o ≡ Some f → (g : ℕ × FileDataSequenceEntry) × (o ≡ Some g) × (f.1.xorb ≡ g.1.xorb)
noted-is k None f e = absurd (none-some f e)
noted-is k (Some g) f e = (g, refl, sym (ap (λ (z : ℕ × FileDataSequenceEntry × Bool). z.1.xorb) (same_Some (g.0, g.1, k) f e)))

holder : (rs : List MDBXorbInfo) (hs : List MerkleHash) (k : Bool) (f : ℕ × FileDataSequenceEntry × Bool) → noted k (find_in rs hs) ≡ Some f → (r : MDBXorbInfo) × Contains rs r × (f.1.xorb ≡ r.hash)
holder rs [] k f e = absurd (none-some f e)
holder rs (h ∷ hs) k f e =
    let one = noted-is k (find_in rs (h ∷ hs)) f e in
    let at = find_in-at rs h hs one.0 one.1 in
    (at.holder, at.is_there, one.2 ∙ at.named)

none-there : {A : Type 0} (x : A) → Contains [] x → ⊥
none-there x c = let low = c.1 in omega (arith, low)

module _ (b : SessionTold) (s : Stands b) where
  known-there : (r : MDBXorbInfo) → Contains (known_xorbs (known_told b.shards)) r → IsThere (log_of b) (known_of b) r.hash
  known-there r c = inr (Contains-hash (known_xorbs (known_told b.shards)) r c)

  resumed-there : (dry : Bool) (r : MDBXorbInfo) → Contains (if dry then [] else resumed_xorbs (resumed_records b.shards.resumed)) r → IsThere (log_of b) (known_of b) r.hash
  resumed-there true r c = absurd (none-there r c)
  resumed-there false r c = known-there r (Contains-append_left (resumed_xorbs (resumed_records b.shards.resumed)) (records_of b.shards.cache).xorbs r c)

  named-there : (r : MDBXorbInfo) (x : MerkleHash) → x ≡ r.hash → IsThere (log_of b) (known_of b) r.hash → IsThere (log_of b) (known_of b) x
  named-there r x e t = subst (λ (h : MerkleHash). IsThere (log_of b) (known_of b) h) (sym e) t

  found-there : (hs : List MerkleHash) (f : ℕ × FileDataSequenceEntry × Bool) → found_in b.shards hs ≡ Some f → IsThere (log_of b) (known_of b) f.1.xorb
  found-there hs f e = go (cases-or (noted true (find_in (searched_resumed b.shards) hs)) (option_or (noted false (find_in (records_of b.shards.session).xorbs hs)) (noted true (find_in (records_of b.shards.cache).xorbs hs))) f e)
    where
      rest : (noted false (find_in (records_of b.shards.session).xorbs hs) ≡ Some f) ⊎ (noted true (find_in (records_of b.shards.cache).xorbs hs) ≡ Some f) → IsThere (log_of b) (known_of b) f.1.xorb
      rest (inl q) =
          let h = holder (records_of b.shards.session).xorbs hs false f q in
          named-there h.0 f.1.xorb h.2 (All-contains (λ (x : MDBXorbInfo). IsThere (log_of b) (known_of b) x.hash) (records_of b.shards.session).xorbs h.0 s.described h.1)
      rest (inr q) =
          let h = holder (records_of b.shards.cache).xorbs hs true f q in
          named-there h.0 f.1.xorb h.2 (known-there h.0 (Contains-append_right (resumed_xorbs (resumed_records b.shards.resumed)) (records_of b.shards.cache).xorbs h.0 h.1))

      go : (noted true (find_in (searched_resumed b.shards) hs) ≡ Some f) ⊎ (option_or (noted false (find_in (records_of b.shards.session).xorbs hs)) (noted true (find_in (records_of b.shards.cache).xorbs hs)) ≡ Some f) → IsThere (log_of b) (known_of b) f.1.xorb
      go (inl q) =
          let h = holder (searched_resumed b.shards) hs true f q in
          named-there h.0 f.1.xorb h.2 (resumed-there b.shards.rules.dry_run h.0 h.1)
      go (inr q) = rest (cases-or (noted false (find_in (records_of b.shards.session).xorbs hs)) (noted true (find_in (records_of b.shards.cache).xorbs hs)) f q)

-- ---- a search, after which the list has more or not

looks-tell : (b n : InterfaceTold) → Looks b n → StoresTell b → StoresTell n
looks-tell b n l t = record {
  resumed = subst (λ (o : Option (Option ShardRecord)). IfSome o (λ r. IsSome r)) (sym (ap (λ (k : Option (Option ShardRecord) × Option ShardRecord). k.0) l.known)) t.resumed;
  session = subst (λ (o : Option ShardRecord). IsSome o) (sym l.session) t.session;
  cache = subst (λ (o : Option ShardRecord). IsSome o) (sym (ap (λ (k : Option (Option ShardRecord) × Option ShardRecord). k.1) l.known)) t.cache;
  staging = subst (λ (i : InterfaceTold). IsSome i.staging.records) (sym l.same) t.staging;
}

module _ (b n : SessionTold) (extra : List MerkleHash) (looks : Looks b.shards n.shards) (later : LaterFaults b.shards n.shards) (is : n ≡ record b { shards = n.shards; listed = b.listed ++ extra }) (there : Tells b → Stands b → All (IsThere (log_of b) (known_of b)) extra) where
  listed : n.listed ≡ b.listed ++ extra
  listed = ap (λ (z : SessionTold). z.listed) is

  uploader : n.uploader ≡ b.uploader
  uploader = ap (λ (z : SessionTold). z.uploader) is

  known : known_of n ≡ known_of b
  known = ap (λ (k : Option (Option ShardRecord) × Option ShardRecord). map (λ (r : MDBXorbInfo). r.hash) (known_xorbs k)) looks.known

  records : records_of n.shards.session ≡ records_of b.shards.session
  records = ap (λ (o : Option ShardRecord). unwrap_or o no_records) looks.session

  found : searched n ≡ searched b
  found = ap (λ (r : ShardRecord). r.xorbs ++ known_xorbs (known_told n.shards)) records ∙ ap (λ (k : Option (Option ShardRecord) × Option ShardRecord). (records_of b.shards.session).xorbs ++ known_xorbs k) looks.known

  pub keeps-looked : Keeps b n
  keeps-looked = record {
    tells = λ t. record { puts = subst (λ v. IsSome v.puts) (sym uploader) t.puts; shards = looks-tell b.shards n.shards looks t.shards };
    grew = λ t. none-put b n uploader (ap (λ (z : SessionTold). z.metrics.xorb_bytes_uploaded) is);
    repeated = repeats-same b n (ap (λ (z : SessionTold). z.repeated) is);
    stands = λ t s. stands-at n (log_of b) (known_of b) (b.listed ++ extra) (records_of b.shards.session) (ap puts_of uploader) known listed records
        (record { on_list = All-append (IsThere (log_of b) (known_of b)) b.listed extra s.on_list (there t s); described = s.described; named = s.named });
    sound = λ k t a s. sound-same k b n (ap puts_of uploader) found s;
    known = looks.known;
    rules = ap (λ (i : InterfaceTold). i.rules) looks.same;
    files = ap (λ (r : ShardRecord). r.files) records;
    quiet = λ f. ap puts_of uploader;
    queries = queries-same b n uploader;
    failed = failed-same b n (ap (λ (z : SessionTold). z.failed) is) uploader;
    steady = steady-same b n uploader;
    stores = later;
    finalized = ap (λ (z : SessionTold). z.finalized) is;
  }

  listed-looked : IsListed b → n.failed ≡ None → IsListed n
  listed-looked l none =
      listed-more b n extra listed [] (ap (λ (z : SessionTold). z.waiting) is) (ap (λ (z : SessionTold). z.finished) is) (ap (λ (z : SessionTold). z.registered) is ∙ sym (append-nil b.registered)) (All-nil (Contains n.listed)) l

  same-looked : n ≡ record b { shards = n.shards; listed = n.listed }
  same-looked = is ∙ ap (λ (hs : List MerkleHash). record b { shards = n.shards; listed = hs }) (sym listed)

-- the xorb came onto the list
pub on-list-pushed : (b n : SessionTold) (x : MerkleHash) → (Contains b.listed x → ⊥) → n ≡ record b { listed = b.listed ++ x ∷ [] } → OnList b n x
on-list-pushed b n x new e =
    let P : List MerkleHash → Type 0 = λ l. Contains l x in
    record { is_there = subst P (sym (ap (λ (z : SessionTold). z.listed) e)) (Contains-push b.listed x); same = inr e; once = λ c. absurd (new c) }

-- stores that tell tell what is searched
search-tells : (i : InterfaceTold) → StoresTell i → SearchTells i
search-tells i t = record { resumed = λ d. t.resumed; session = t.session; cache = t.cache }

-- ---- the exits

module _ (b : SessionTold) (hs : List MerkleHash) where
  -- no store was asked
  searches-refused : Searches b.shards b.shards hs (Err data_error.OutOfMemory)
  searches-refused = record {
    looks = record { same = refl; known = refl; session = refl };
    dry = λ d. refl;
    found = λ t. tt;
    run = tt;
    faults = later-same b.shards b.shards refl;
    why = inr (inl (inl refl));
    order = λ t. inl refl;
    asks = λ t. record { session = λ h. refl; cache = λ h. refl };
  }

  -- room for the list was refused
  queries-refused : Queries b b hs (Err data_error.OutOfMemory)
  queries-refused = record { keeps = keeps-refl b b refl; same = refl; found = λ t. tt; run = tt; on_list = tt; none = tt; err = refl; searches = searches-refused; listed = λ l q. l; why = inr (inl (inl refl)) }

  pub queries-unasked : (n : SessionTold) → n ≡ b → Queries b n hs (Err data_error.OutOfMemory)
  queries-unasked n e = subst (λ (z : SessionTold). Queries b z hs (Err data_error.OutOfMemory)) (sym e) queries-refused

  pub order-unasked : (n : SessionTold) → n ≡ b → SearchesInOrder b n hs (Err data_error.OutOfMemory)
  order-unasked n e = subst (λ (z : SessionTold). SearchesInOrder b z hs (Err data_error.OutOfMemory)) (sym e) (λ t. inl refl)

  module _ (m : SessionTold) (same : m ≡ record b { shards = m.shards }) where
    whole : m ≡ record b { shards = m.shards; listed = b.listed ++ [] }
    whole = same ∙ ap (λ (ls : List MerkleHash). record b { shards = m.shards; listed = ls }) (sym (append-nil b.listed))

    nothing : Tells b → Stands b → All (IsThere (log_of b) (known_of b)) []
    nothing t s = All-nil (IsThere (log_of b) (known_of b))

    -- a store failed
    pub queries-err : (e : DataError) → Searches b.shards m.shards hs (Err e) → Queries b m hs (Err e)
    queries-err e q = record {
      keeps = keeps-looked b m [] q.looks q.faults whole nothing;
      same = same-looked b m [] q.looks q.faults whole nothing;
      searches = q;
      found = λ t. tt;
      run = tt;
      on_list = tt;
      none = tt;
      err = ap (λ (z : SessionTold). z.listed) same;
      listed = listed-looked b m [] q.looks q.faults whole nothing;
      why = q.why;
    }

    -- nothing was found
    pub queries-none : Searches b.shards m.shards hs (Ok None) → Queries b m hs (Ok None)
    queries-none q = record {
      keeps = keeps-looked b m [] q.looks q.faults whole nothing;
      same = same-looked b m [] q.looks q.faults whole nothing;
      searches = q;
      found = q.found;
      run = tt;
      on_list = tt;
      none = λ e. ap (λ (z : SessionTold). z.listed) same;
      err = tt;
      listed = listed-looked b m [] q.looks q.faults whole nothing;
      why = tt;
    }

    -- a run was found, and its xorb is on the list
    module _ (n : SessionTold) (f : ℕ × FileDataSequenceEntry × Bool) (q : Searches b.shards m.shards hs (Ok (Some f))) (o : OnList m n f.1.xorb) where
      one : Tells b → Stands b → All (IsThere (log_of b) (known_of b)) (f.1.xorb ∷ [])
      one t s = All-cons (IsThere (log_of b) (known_of b)) f.1.xorb [] (found-there b s hs f (sym (q.found (search-tells b.shards t.shards)))) (All-nil (IsThere (log_of b) (known_of b)))

      listed-same : m.listed ≡ b.listed
      listed-same = ap (λ (z : SessionTold). z.listed) same

      again : Contains b.listed f.1.xorb → n.listed ≡ b.listed
      again c = let P : List MerkleHash → Type 0 = λ l. Contains l f.1.xorb in ap (λ (z : SessionTold). z.listed) (o.once (subst P (sym listed-same) c)) ∙ listed-same

      go : (extra : List MerkleHash) → (n.listed ≡ b.listed) ⊎ (n.listed ≡ b.listed ++ f.1.xorb ∷ []) → n.shards ≡ m.shards → n ≡ record b { shards = n.shards; listed = b.listed ++ extra } → (Tells b → Stands b → All (IsThere (log_of b) (known_of b)) extra) → Queries b n hs (Ok (Some f))
      go extra list e is there =
          let looks = subst (λ (i : InterfaceTold). Looks b.shards i) (sym e) q.looks in
          let later = subst (λ (i : InterfaceTold). LaterFaults b.shards i) (sym e) q.faults in
          record {
            keeps = keeps-looked b n extra looks later is there;
            same = same-looked b n extra looks later is there;
            searches = subst (λ (i : InterfaceTold). Searches b.shards i hs (Ok (Some f))) (sym e) q;
            found = q.found;
            run = q.run;
            on_list = record { is_there = o.is_there; listed = list; once = again };
            none = λ e. absurd (none-some f (sym e));
            err = tt;
            listed = listed-looked b n extra looks later is there;
            why = tt;
          }

      pub queries-some : Queries b n hs (Ok (Some f))
      queries-some = pick o.same
        where
          pick : (n ≡ m) ⊎ (n ≡ record m { listed = m.listed ++ f.1.xorb ∷ [] }) → Queries b n hs (Ok (Some f))
          pick (inl e) =
              let shards = ap (λ (z : SessionTold). z.shards) e in
              go [] (inl (ap (λ (z : SessionTold). z.listed) e ∙ ap (λ (z : SessionTold). z.listed) same)) shards (e ∙ whole ∙ ap (λ (i : InterfaceTold). record b { shards = i; listed = b.listed ++ [] }) (sym shards)) nothing
          pick (inr e) =
              let shards : n.shards ≡ m.shards = ap (λ (z : SessionTold). z.shards) e in
              go (f.1.xorb ∷ []) (inr (ap (λ (z : SessionTold). z.listed) e ∙ ap (λ (z : SessionTold). z.listed ++ f.1.xorb ∷ []) same)) shards (e ∙ ap (λ (z : SessionTold). record z { listed = z.listed ++ f.1.xorb ∷ [] }) same ∙ ap (λ (i : InterfaceTold). record b { shards = i; listed = b.listed ++ f.1.xorb ∷ [] }) (sym shards)) one
