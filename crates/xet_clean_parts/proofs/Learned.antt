-- What queries of the uploader leave of a session.
use Rattle.std.proofs.Common.{◌≡◌, ℕ, ◌+◌, ◌<◌, ◌≤◌, ◌⊎◌, inl, inr, Bool, true, false, ◌||◌, List, [], ◌∷◌, ◌++◌, length, map, take, drop, refl, sym, ◌∙◌, ap, subst, arith, get_or}
use Rattle.std.specs.Prelude.{All, Contains, Option, Some, None, IsSome, is_some, option_map, unwrap_or, Result, Ok, Err}
use Rattle.std.specs.List.{flat_map, list_any}
use Rattle.std.specs.Option.{option_to_list}
use Rattle.std.proofs.lemmas.Bool.{false≢true}
use Rattle.std.proofs.lemmas.List.{append-nil, append_assoc, map-append, take_more, take-append-drop}
use Rattle.std.proofs.lemmas.List.Concat.{flat_map-append}
use Rattle.std.proofs.lemmas.List.Elements.{All-nil, All-append}
use Rattle.std.proofs.lemmas.List.Folds.{list_any-append}
use Rattle.std.proofs.Math.Seq.{take-length, take-append_seam}
use Rattle.xet_base.specs.declared.merklehash.MerkleHash.{MerkleHash}
use Rattle.xet_base.specs.declared.mdb_shard.MDBXorbInfo.{MDBXorbInfo}
use Rattle.xet_base.specs.declared.mdb_shard.ShardRecord.{ShardRecord}
use Rattle.xet_outside.specs.Told.{Added, Grew}
use Rattle.xet_uploader.specs.declared.uploader.Put.{Put}
use Rattle.xet_uploader.specs.Uploads.{UploaderTold}
use Rattle.xet_shards.specs.Shards.{no_records, with_records}
use Rattle.xet_shard_interface.specs.Interfaces.{InterfaceTold, StoreFails, StoresTell, known_told, known_xorbs, records_of, resumed_records, resumed_xorbs}
use Rattle.xet_shard_interface.specs.Puts.{Answered, Learned, LearnedNothing, Unanswered, all_with_shards, with_shards}
use Rattle.xet_shard_interface.proofs.CallerLemmas.{All-append_left, All-append_right}
use Rattle.xet_base.specs.Store.{Store}
use Rattle.xet_upload_parts.specs.Storable.{IsStorable}
use Rattle.xet_upload.specs.Orders.{IsOrdered}
use Rattle.xet_upload.specs.Waitings.{Waiting}
use Rattle.xet_upload.specs.Standing.{IsRecordIn, world}
use Rattle.xet_upload.specs.declared.data_error.DataError.{DataError}
use Rattle.xet_upload.proofs.CallerLemmas.{backed-known, ordered-none}
use Rattle.xet_upload_session.specs.Calls.{Backs}
use Rattle.xet_clean_parts.specs.Learnings.{AskedSome, Completes, Learns, Queried, QueriedAll, found_among}
use Rattle.xet_upload_session.specs.Sessions.{HasListed, SessionTold, Stands, Tells, known_of, log_of}
use Rattle.xet_upload_session.specs.Sounds.{IsSound, searched}
use Rattle.xet_upload_session.specs.Calls.{AsksFor}
use Rattle.xet_upload_session.proofs.CallerLemmas.{stands-at}
use Rattle.xet_upload_session.proofs.CallerLemmas.{backs-same}
use Rattle.xet_upload_session.proofs.CallerLemmas.{listed-more}

-- ---- one more

asked-push : (u v w : Option (List MerkleHash)) (hs : List MerkleHash) (h : MerkleHash) → AskedSome u v hs → (w ≡ v) ⊎ Grew v w h → AskedSome u w (hs ++ h ∷ [])
asked-push u v w [] h a o = (w, go a o, refl)
  where
    go : v ≡ u → (w ≡ v) ⊎ Grew v w h → (w ≡ u) ⊎ Grew u w h
    go e (inl q) = inl (q ∙ e)
    go e (inr q) = inr (q ∙ ap (λ (o : Option (List MerkleHash)). option_map (λ xs. xs ++ h ∷ []) o) e)
asked-push u v w (x ∷ hs) h a o = (a.0, a.1, asked-push a.0 v w hs h a.2 o)

asked-rest : (u v : Option (List MerkleHash)) (hs more : List MerkleHash) → AskedSome u v hs → AskedSome u v (hs ++ more)
asked-rest u v [] [] a = a
asked-rest u v [] (h ∷ more) a = (u, inl refl, asked-rest u v [] more a)
asked-rest u v (x ∷ hs) more a = (a.0, a.1, asked-rest a.0 v hs more a.2)

queried-push : (u v w : UploaderTold) (hs : List MerkleHash) (h : MerkleHash) → QueriedAll u v hs → Queried v w h → QueriedAll u w (hs ++ h ∷ [])
queried-push u v w [] h a o = (w, subst (λ (z : UploaderTold). Queried z w h) a o, refl)
queried-push u v w (x ∷ hs) h a o = (a.0, a.1, queried-push a.0 v w hs h a.2 o)

added-none : (o : Option (List (Option ShardRecord))) → Added o o []
added-none None = refl
added-none (Some xs) = ap (λ (ys : List (Option ShardRecord)). Some ys) (sym (append-nil xs))

added-push : (o p q : Option (List (Option ShardRecord))) (xs : List (Option ShardRecord)) (x : Option ShardRecord) → Added o p xs → Grew p q x → Added o q (xs ++ x ∷ [])
added-push None p q xs x a g = g ∙ ap (λ (z : Option (List (Option ShardRecord))). option_map (λ ys. ys ++ x ∷ []) z) a
added-push (Some os) p q xs x a g =
    g ∙ ap (λ (z : Option (List (Option ShardRecord))). option_map (λ ys. ys ++ x ∷ []) z) a ∙ ap (λ (ys : List (Option ShardRecord)). Some ys) (append_assoc os xs (x ∷ []))

with_shards-push : (r : ShardRecord) (ss : List ShardRecord) (s : ShardRecord) → with_shards r (ss ++ s ∷ []) ≡ with_records (with_shards r ss) s
with_shards-push r [] s = refl
with_shards-push r (t ∷ ss) s = with_shards-push (with_records r t) ss s

cache-push : (o : Option ShardRecord) (ss : List ShardRecord) (s : ShardRecord) → option_map (λ (r : ShardRecord). with_records r s) (all_with_shards o ss) ≡ all_with_shards o (ss ++ s ∷ [])
cache-push None ss s = refl
cache-push (Some r) ss s = ap (λ (q : ShardRecord). Some q) (sym (with_shards-push r ss s))

cache-none : (o : Option ShardRecord) → o ≡ all_with_shards o []
cache-none None = refl
cache-none (Some r) = refl

found-push : (rs : List (Option ShardRecord)) (a : Option ShardRecord) → found_among (rs ++ a ∷ []) ≡ found_among rs ++ option_to_list a
found-push rs a = flat_map-append option_to_list rs (a ∷ []) ∙ ap (λ (ss : List ShardRecord). found_among rs ++ ss) (append-nil (option_to_list a))

-- the records that the cache gained are all that were answered
whole-cache : (o p : Option ShardRecord) (rs : List (Option ShardRecord)) → p ≡ all_with_shards o (found_among rs) → p ≡ all_with_shards o (take (length (found_among rs)) (found_among rs))
whole-cache o p rs e = e ∙ ap (all_with_shards o) (sym (take-length (found_among rs)))

-- ---- the queries, one after another

pub learn-none : (b : SessionTold) → Learns b b [] (Ok false)
learn-none b = record {
  same = refl;
  stores = refl;
  puts = refl;
  asked = refl;
  queried = refl;
  answers = [];
  answered = added-none b.uploader.answered;
  kept = 0;
  cached = cache-none b.shards.cache.records;
  learned = cache-none b.shards.cache.records;
  yes = refl;
  faults = omega arith;
  cache = omega arith;
  why = tt;
}

store-later : (a b c : ℕ) (e : DataError) → a ≤ b → StoreFails b c e → StoreFails a c e
store-later a b c e low (inl q) = inl q
store-later a b c e low (inr q) = inr (q.0, omega (arith, low, q.1))

module _ (b m n : SessionTold) (hs : List MerkleHash) (h : MerkleHash) (found : Bool) (l : Learns b m hs (Ok found)) where
  whole : n ≡ record m { uploader = n.uploader; shards = n.shards } → n ≡ record b { uploader = n.uploader; shards = n.shards }
  whole e = e ∙ ap (λ (z : SessionTold). record z { uploader = n.uploader; shards = n.shards }) l.same

  joined : n.shards ≡ record m.shards { cache = n.shards.cache } → n.shards ≡ record b.shards { cache = n.shards.cache }
  joined e = e ∙ ap (λ (i : InterfaceTold). record i { cache = n.shards.cache }) l.stores

  all : m.shards.cache.records ≡ all_with_shards b.shards.cache.records (found_among l.answers)
  all = l.learned

  grown : (s : ShardRecord) → n.shards.cache.records ≡ option_map (λ r. with_records r s) m.shards.cache.records → n.shards.cache.records ≡ all_with_shards b.shards.cache.records (found_among (l.answers ++ Some s ∷ []))
  grown s e =
      e ∙ ap (λ (o : Option ShardRecord). option_map (λ (r : ShardRecord). with_records r s) o) all ∙ cache-push b.shards.cache.records (found_among l.answers) s
      ∙ ap (all_with_shards b.shards.cache.records) (sym (found-push l.answers (Some s)))

  still : n.shards.cache.records ≡ m.shards.cache.records → n.shards.cache.records ≡ all_with_shards b.shards.cache.records (found_among (l.answers ++ None ∷ []))
  still e = e ∙ all ∙ ap (all_with_shards b.shards.cache.records) (sym (found-push l.answers None ∙ append-nil (found_among l.answers)))

  asked-one : Unanswered m.uploader n.uploader h ⊎ ((a : Option ShardRecord) × Answered m.uploader n.uploader h a) → AskedSome b.uploader.asked n.uploader.asked (hs ++ h ∷ [])
  asked-one (inl q) = asked-push b.uploader.asked m.uploader.asked n.uploader.asked hs h l.asked q.1
  asked-one (inr q) = asked-push b.uploader.asked m.uploader.asked n.uploader.asked hs h l.asked (inr q.1.asked)

  any-push : (a : Option ShardRecord) → list_any is_some (l.answers ++ a ∷ []) ≡ (found || (is_some a || false))
  any-push a = list_any-append is_some l.answers (a ∷ []) ∙ ap (λ (t : Bool). t || (is_some a || false)) (sym l.yes)

  or-true : (t : Bool) → (t || true) ≡ true
  or-true true = refl
  or-true false = refl

  or-false : (t : Bool) → (t || false) ≡ t
  or-false true = refl
  or-false false = refl

  -- one query more was made
  module _ (y : Bool) (q : AsksFor m n h (Ok y)) where
    later : (z : Bool) (rs : List (Option ShardRecord)) → Queried m.uploader n.uploader h → Added b.uploader.answered n.uploader.answered rs → n.shards.cache.records ≡ all_with_shards b.shards.cache.records (found_among rs)
        → z ≡ list_any is_some rs → Learns b n (hs ++ h ∷ []) (Ok z)
    later z rs once told cached same-yes = record {
      same = whole q.same;
      stores = joined q.asks.same;
      puts = q.asks.puts ∙ l.puts;
      asked = asked-one q.asks.asked;
      queried = queried-push b.uploader m.uploader n.uploader hs h l.queried once;
      answers = rs;
      answered = told;
      kept = length (found_among rs);
      cached = whole-cache b.shards.cache.records n.shards.cache.records rs cached;
      learned = cached;
      yes = same-yes;
      faults = omega (arith, l.faults, q.asks.faults);
      cache = omega (arith, l.cache, cache-later);
      why = tt;
    }
      where
        cache-later : m.shards.cache.faults ≤ n.shards.cache.faults
        cache-later = q.asks.cache

    pub learn-yes : y ≡ true → Learns b n (hs ++ h ∷ []) (Ok true)
    learn-yes e =
        let k : Learned m.uploader n.uploader m.shards n.shards h = q.asks.yes e in
        later true (l.answers ++ Some k.0 ∷ []) (q.asks.faults, inl (Some k.0, k.1)) (added-push b.uploader.answered m.uploader.answered n.uploader.answered l.answers (Some k.0) l.answered k.1.answered) (grown k.0 k.2) (sym (any-push (Some k.0) ∙ or-true found))

    pub learn-no : y ≡ false → Learns b n (hs ++ h ∷ []) (Ok found)
    learn-no e = go k.1
      where
        k : (n.shards ≡ m.shards) × LearnedNothing m.uploader n.uploader h
        k = q.asks.no e

        go : LearnedNothing m.uploader n.uploader h → Learns b n (hs ++ h ∷ []) (Ok found)
        go (inl a) =
            later found (l.answers ++ None ∷ []) (q.asks.faults, inl (None, a)) (added-push b.uploader.answered m.uploader.answered n.uploader.answered l.answers None l.answered a.answered) (still (ap (λ (i : InterfaceTold). i.cache.records) k.0)) (sym (any-push None ∙ or-false found))
        go (inr a) =
            later found l.answers (q.asks.faults, inr a) (subst (λ (o : Option (List (Option ShardRecord))). Added b.uploader.answered o l.answers) (sym a.0.0) l.answered) (ap (λ (i : InterfaceTold). i.cache.records) k.0 ∙ all) l.yes

  -- a query failed, and the rest was not made
  pub learn-stopped : (e : DataError) (rest : List MerkleHash) → AsksFor m n h (Err e) → Learns b n ((hs ++ h ∷ []) ++ rest) (Err e)
  learn-stopped e rest q = go q.asks.learned
    where
      stopped : (rs : List (Option ShardRecord)) (k : ℕ) → Added b.uploader.answered n.uploader.answered rs → n.shards.cache.records ≡ all_with_shards b.shards.cache.records (take k (found_among rs)) → Learns b n ((hs ++ h ∷ []) ++ rest) (Err e)
      stopped rs k told cached = record {
        same = whole q.same;
        stores = joined q.asks.same;
        puts = q.asks.puts ∙ l.puts;
        asked = asked-rest b.uploader.asked n.uploader.asked (hs ++ h ∷ []) rest (asked-one q.asks.asked);
        queried = tt;
        answers = rs;
        answered = told;
        kept = k;
        cached = cached;
        learned = tt;
        yes = tt;
        faults = omega (arith, l.faults, q.asks.faults);
        cache = omega (arith, l.cache, q.asks.cache);
        why = store-later b.shards.cache.faults m.shards.cache.faults n.shards.cache.faults e l.cache q.asks.why;
      }

      few : (more : List ShardRecord) → all_with_shards b.shards.cache.records (found_among l.answers) ≡ all_with_shards b.shards.cache.records (take (length (found_among l.answers)) (found_among l.answers ++ more))
      few more = ap (all_with_shards b.shards.cache.records) (sym (take-append_seam (found_among l.answers) more))

      same : n.shards.cache.records ≡ m.shards.cache.records → Unanswered m.uploader n.uploader h ⊎ ((a : Option ShardRecord) × Answered m.uploader n.uploader h a) → Learns b n ((hs ++ h ∷ []) ++ rest) (Err e)
      same c (inl a) =
          stopped l.answers (length (found_among l.answers)) (subst (λ (o : Option (List (Option ShardRecord))). Added b.uploader.answered o l.answers) (sym a.0) l.answered) (whole-cache b.shards.cache.records n.shards.cache.records l.answers (c ∙ all))
      same c (inr a) =
          stopped (l.answers ++ a.0 ∷ []) (length (found_among l.answers)) (added-push b.uploader.answered m.uploader.answered n.uploader.answered l.answers a.0 l.answered a.1.answered)
          (c ∙ all ∙ few (option_to_list a.0) ∙ ap (λ (ss : List ShardRecord). all_with_shards b.shards.cache.records (take (length (found_among l.answers)) ss)) (sym (found-push l.answers a.0)))

      go : (n.shards.cache.records ≡ m.shards.cache.records) ⊎ Learned m.uploader n.uploader m.shards n.shards h → Learns b n ((hs ++ h ∷ []) ++ rest) (Err e)
      go (inl c) = same c q.asks.asked
      go (inr k) =
          let rs = l.answers ++ Some k.0 ∷ [] in
          stopped rs (length (found_among rs)) (added-push b.uploader.answered m.uploader.answered n.uploader.answered l.answers (Some k.0) l.answered k.1.answered) (whole-cache b.shards.cache.records n.shards.cache.records rs (grown k.0 k.2))

-- ---- the loop

module _ (b m n : SessionTold) (hs : List MerkleHash) (i : ℕ) (d h : MerkleHash) (low : i < length hs) (is : h ≡ get_or hs i d) (found : Bool) (l : Learns b m (take i hs) (Ok found)) where
  more : take i hs ++ h ∷ [] ≡ take (i + 1) hs
  more = ap (λ (x : MerkleHash). take i hs ++ x ∷ []) is ∙ sym (take_more hs i d low)

  pub loop-yes : (y : Bool) → AsksFor m n h (Ok y) → y ≡ true → Learns b n (take (i + 1) hs) (Ok true)
  loop-yes y q e = let P : List MerkleHash → Type 0 = λ xs. Learns b n xs (Ok true) in subst P more (learn-yes b m n (take i hs) h found l y q e)

  pub loop-no : (y : Bool) → AsksFor m n h (Ok y) → y ≡ false → Learns b n (take (i + 1) hs) (Ok found)
  loop-no y q e = let P : List MerkleHash → Type 0 = λ xs. Learns b n xs (Ok found) in subst P more (learn-no b m n (take i hs) h found l y q e)

  pub loop-stopped : (e : DataError) → AsksFor m n h (Err e) → Learns b n hs (Err e)
  loop-stopped e q =
      let P : List MerkleHash → Type 0 = λ xs. Learns b n xs (Err e) in
      let all : (take i hs ++ h ∷ []) ++ drop (i + 1) hs ≡ hs = ap (λ (xs : List MerkleHash). xs ++ drop (i + 1) hs) more ∙ take-append-drop (i + 1) hs in
      subst P all (learn-stopped b m n (take i hs) h found l e (drop (i + 1) hs) q)

-- ---- backed sessions

with_shards-xorbs : (r : ShardRecord) (ss : List ShardRecord) → (with_shards r ss).xorbs ≡ r.xorbs ++ flat_map (λ (s : ShardRecord). s.xorbs) ss
with_shards-xorbs r [] = sym (append-nil r.xorbs)
with_shards-xorbs r (s ∷ ss) = with_shards-xorbs (with_records r s) ss ∙ append_assoc r.xorbs s.xorbs (flat_map (λ (s : ShardRecord). s.xorbs) ss)

cache-xorbs : (o p : Option ShardRecord) (ss : List ShardRecord) → IsSome o → p ≡ all_with_shards o ss → (unwrap_or p no_records).xorbs ≡ (unwrap_or o no_records).xorbs ++ flat_map (λ (s : ShardRecord). s.xorbs) ss
cache-xorbs None p ss t e = absurd (false≢true t)
cache-xorbs (Some r) p ss t e = ap (λ (z : Option ShardRecord). (unwrap_or z no_records).xorbs) e ∙ with_shards-xorbs r ss

some-cache : (o p : Option ShardRecord) (ss : List ShardRecord) → IsSome o → p ≡ all_with_shards o ss → IsSome p
some-cache None p ss t e = absurd (false≢true t)
some-cache (Some r) p ss t e = ap (λ (z : Option ShardRecord). is_some z) e

module _ (b n : SessionTold) (hs : List MerkleHash) (answer : Result Bool DataError) (l : Learns b n hs answer) where
  news : List MDBXorbInfo
  news = flat_map (λ (s : ShardRecord). s.xorbs) (take l.kept (found_among l.answers))

  log : log_of n ≡ log_of b
  log = ap (λ (o : Option (List Put)). unwrap_or o []) l.puts

  pub learns-tells : Tells b → Tells n
  learns-tells t =
      let S : InterfaceTold → Type 0 = λ i. StoresTell i in
      record {
        puts = subst (λ (o : Option (List Put)). IsSome o) (sym l.puts) t.puts;
        shards = subst S (sym l.stores) (record { resumed = t.shards.resumed; session = t.shards.session; cache = some-cache b.shards.cache.records n.shards.cache.records (take l.kept (found_among l.answers)) t.shards.cache l.cached; staging = t.shards.staging });
      }

  known-xorbs : Tells b → known_xorbs (known_told n.shards) ≡ known_xorbs (known_told b.shards) ++ flat_map (λ (s : ShardRecord). s.xorbs) (take l.kept (found_among l.answers))
  known-xorbs t =
      let ss = take l.kept (found_among l.answers) in
      let old = resumed_xorbs (resumed_records b.shards.resumed) in
      let cached = cache-xorbs b.shards.cache.records n.shards.cache.records ss t.shards.cache l.cached in
      let resumed : resumed_records n.shards.resumed ≡ resumed_records b.shards.resumed = ap (λ (i : InterfaceTold). resumed_records i.resumed) l.stores in
      ap (λ (o : Option (Option ShardRecord)). resumed_xorbs o ++ (records_of n.shards.cache).xorbs) resumed
      ∙ ap (λ (xs : List MDBXorbInfo). old ++ xs) cached
      ∙ sym (append_assoc old (records_of b.shards.cache).xorbs (flat_map (λ (s : ShardRecord). s.xorbs) ss))

  known : Tells b → known_of n ≡ known_of b ++ map (λ (r : MDBXorbInfo). r.hash) (flat_map (λ (s : ShardRecord). s.xorbs) (take l.kept (found_among l.answers)))
  known t =
      ap (map (λ (r : MDBXorbInfo). r.hash)) (known-xorbs t)
      ∙ map-append (λ (r : MDBXorbInfo). r.hash) (known_xorbs (known_told b.shards)) (flat_map (λ (s : ShardRecord). s.xorbs) (take l.kept (found_among l.answers)))

  -- the searched records go on describing xorbs that are there, where those that came do
  pub learns-sound : (k : Store) → Tells b → All (IsRecordIn (world k (log_of b))) (flat_map (λ (s : ShardRecord). s.xorbs) (take l.kept (found_among l.answers))) → IsSound k b → IsSound k n
  learns-sound k t more s =
      let P : MDBXorbInfo → Type 0 = IsRecordIn (world k (log_of b)) in
      let S = (records_of b.shards.session).xorbs in
      let K = known_xorbs (known_told b.shards) in
      let all = All-append P S (K ++ flat_map (λ (s : ShardRecord). s.xorbs) (take l.kept (found_among l.answers))) (All-append_left P S K s) (All-append P K (flat_map (λ (s : ShardRecord). s.xorbs) (take l.kept (found_among l.answers))) (All-append_right P S K s) more) in
      let Q : List MDBXorbInfo → Type 0 = λ ks. All P (S ++ ks) in
      let R : List MDBXorbInfo → Type 0 = λ rs. All P (rs ++ known_xorbs (known_told n.shards)) in
      let T : List Put → Type 0 = λ ps. All (IsRecordIn (world k ps)) (searched n) in
      subst T (sym log) (subst R (sym (ap (λ (i : InterfaceTold). (records_of i.session).xorbs) l.stores)) (subst Q (sym (known-xorbs t)) all))

  pub learns-stands : Tells b → Stands b → Stands n
  learns-stands t s =
      let more = map (λ (r : MDBXorbInfo). r.hash) (flat_map (λ (s : ShardRecord). s.xorbs) (take l.kept (found_among l.answers))) in
      stands-at n (log_of b) (known_of b ++ more) b.listed (records_of b.shards.session) log (known t) (ap (λ (z : SessionTold). z.listed) l.same) (ap (λ (i : InterfaceTold). records_of i.session) l.stores)
      (backed-known (log_of b) (known_of b) more b.listed (records_of b.shards.session) s)

  failed : n.failed ≡ b.failed
  failed = ap (λ (z : SessionTold). z.failed) l.same

  finalized : n.finalized ≡ b.finalized
  finalized = ap (λ (z : SessionTold). z.finalized) l.same

  -- a backed session stays backed, since more is known and nothing else changed
  pub backs-learned : HasListed b → Backs b n
  backs-learned h = record {
    listed = record {
      all = λ f g.
          let none = ap (λ (z : SessionTold). z.listed) l.same ∙ sym (append-nil b.listed) in
          listed-more b n [] none [] (ap (λ (z : SessionTold). z.waiting) l.same) (ap (λ (z : SessionTold). z.finished) l.same) (ap (λ (z : SessionTold). z.registered) l.same ∙ sym (append-nil b.registered)) (All-nil (Contains n.listed)) (h.all (sym failed ∙ f) (sym finalized ∙ g));
      waits = subst (λ (w : Waiting). IsStorable w.chunks) (sym (ap (λ (z : SessionTold). z.waiting) l.same)) h.waits;
    };
    backed = λ t s f g. learns-stands t (s (sym failed ∙ f) (sym finalized ∙ g));
    ordered = λ t s. let P : List Put → Type 0 = λ ps. IsOrdered ps (length (log_of b)) (known_of b) in subst P (sym log) (ordered-none (log_of b) (known_of b));
  }

-- ---- the pending queries

-- queries are not enabled
pub completes-off : (b n : SessionTold) (pending rest : List MerkleHash) → n ≡ b → rest ≡ pending → b.queries ≡ false → HasListed b → Completes b n pending rest (Ok false)
completes-off b n pending rest e r off h = record {
  disabled = λ q. (refl, e, r);
  learns = λ q. absurd (false≢true (sym off ∙ q));
  backs = backs-same b n e h;
}

-- they were made
pub completes-on : (b n : SessionTold) (pending rest : List MerkleHash) (answer : Result Bool DataError) → b.queries ≡ true → rest ≡ [] → Learns b n pending answer → Backs b n → Completes b n pending rest answer
completes-on b n pending rest answer on r l k = record {
  disabled = λ q. absurd (false≢true (sym q ∙ on));
  learns = λ q. (l, r);
  backs = k;
}

-- the loop came to the end of the chunks
pub learned-all : (b n : SessionTold) (hs : List MerkleHash) (i : ℕ) (found : Bool) → length hs ≤ i → i ≤ length hs → Learns b n (take i hs) (Ok found) → Learns b n hs (Ok found)
learned-all b n hs i found low high l =
    let all : i ≡ length hs = omega (arith, low, high) in
    let P : List MerkleHash → Type 0 = λ xs. Learns b n xs (Ok found) in
    subst P (ap (λ (k : ℕ). take k hs) all ∙ take-length hs) l
