-- A call that copies, after one xorb more or one record more.
use Rattle.std.proofs.Common.{◌≡◌, ℕ, ◌+◌, ◌<◌, ◌-◌, ◌^◌, min, Bool, true, false, cond, not, ◌||◌, inl, inr, List, [], ◌∷◌, ◌++◌, length, map, get_or, refl, sym, ◌∙◌, ap, subst, arith}
use Rattle.std.specs.Prelude.{Option, Some, None, IsFalse, find, filter, is_none, is_some, option_map, All, AllPairs, Contains}
use Rattle.std.specs.List.{concat, cons_option, filter_map, fold, list_any, sum_by}
use Rattle.std.specs.Option.{option_or}
use Rattle.std.proofs.lemmas.Bool.{false≢true}
use Rattle.std.proofs.lemmas.Option.{same_Some}
use Rattle.std.proofs.lemmas.List.{append-nil, length-append, map-append}
use Rattle.std.proofs.lemmas.List.Elements.{All-cons, All-head, All-nil, All-push, All-map, All-tail, All-weaker, All-contains, filter-append}
use Rattle.std.proofs.lemmas.List.Quantifiers.{all_pairs_push}
use Rattle.std.proofs.lemmas.List.Sums.{sum_by-append, sum_by-cons}
use Rattle.xet_base.specs.declared.merklehash.MerkleHash.{MerkleHash}
use Rattle.xet_base.specs.declared.mdb_shard.FileDataSequenceEntry.{FileDataSequenceEntry}
use Rattle.xet_base.specs.declared.mdb_shard.MDBFileInfo.{MDBFileInfo}
use Rattle.xet_base.specs.declared.mdb_shard.MDBXorbInfo.{MDBXorbInfo}
use Rattle.xet_base.specs.declared.mdb_shard.ShardRecord.{ShardRecord}
use Rattle.xet_base.specs.declared.mdb_shard.Xorb.{Xorb}
use Rattle.xet_base.specs.declared.stored.StoredTerm.{StoredTerm}
use Rattle.xet_base.specs.Hashes.{hash_eq}
use Rattle.xet_base.specs.Lists.{firsts}
use Rattle.xet_base.specs.Store.{IsTermIn, IsValid, Store, file_of, xorb_of}
use Rattle.xet_base.proofs.CallerLemmas.{firsts-push, hash_eq-true, hash_eq-chain}
use Rattle.xet_store.specs.Refusals.{is_term_in, stored_term, term_length}
use Rattle.xet_store.proofs.CallerLemmas.{found_short, valid_with_file, valid_with_xorb}
use Rattle.xet_uploader.specs.declared.uploader.Put.{Put}
use Rattle.xet_uploader.specs.declared.uploader.Put.TheVariants as put
use Rattle.xet_uploader.specs.StoresAfter.{file_of_record}
use Rattle.xet_uploader.specs.Uploads.{record_of, xorbs_in}
use Rattle.xet_uploader.proofs.CallerLemmas.{xorbs_in-append}
use Rattle.xet_upload.specs.Orders.{IsThere, names_of}
use Rattle.xet_upload.proofs.CallerLemmas.{ordered-shard, ordered-xorb}
use Rattle.xet_shelves.specs.After.{Agree, add_file, after}
use Rattle.xet_mirror_parts.specs.declared.copied.Copied.{Copied}
use Rattle.xet_mirror_parts.specs.declared.copied.LookedXorb.{LookedXorb}
use Rattle.xet_mirror_parts.specs.Looked.{Notes, counted, is_looked, looked_at, looked_hashes, report_with, with_copied}
use Rattle.xet_mirror_parts.specs.Copying.{IsCopying, IsInfoFrom, IsLogOf, IsLookedFrom, IsNewFile, IsSentFrom, IsShardOf, shards_in}
use Rattle.xet_mirror_parts.specs.steps.Kept.{shard_with}
use Rattle.xet_shelves.proofs.CallerLemmas.{after-append, after_finds_xorbs}
use Rattle.xet_mirror_parts.proofs.Finds.{all_firsts, any-map, any_contained, any_filter_no, contained_any, found-none, found_all, found_passes, is_some-found, none-is, none-some_not, none_pass, or-none, some-is}
use Rattle.xet_mirror_parts.proofs.Stored.{HaveSame, length-terms, same-in, same-terms, term-in, xorb_in}

-- ---- lists and counts

filter-kept : {A : Type 0} (p : A → Bool) (xs : List A) (x : A) → p x ≡ true → filter p (xs ++ x ∷ []) ≡ filter p xs ++ x ∷ []
filter-kept p xs x h = filter-append p xs (x ∷ []) ∙ ap (λ b. filter p xs ++ cond b (x ∷ []) []) h

filter-left : {A : Type 0} (p : A → Bool) (xs : List A) (x : A) → p x ≡ false → filter p (xs ++ x ∷ []) ≡ filter p xs
filter-left p xs x h = filter-append p xs (x ∷ []) ∙ ap (λ b. filter p xs ++ cond b (x ∷ []) []) h ∙ append-nil (filter p xs)

any_filter : {A : Type 0} (p t : A → Bool) (xs : List A) → ((x : A) → p x ≡ true → t x ≡ true) → list_any p xs ≡ true → list_any p (filter t xs) ≡ true
any_filter p t [] f h = h
any_filter p t (x ∷ xs) f h = go (p x) refl (t x) refl h (λ k. any_filter p t xs f k)
  where
    go : (b : Bool) → p x ≡ b → (c : Bool) → t x ≡ c → (b || list_any p xs) ≡ true → (list_any p xs ≡ true → list_any p (filter t xs) ≡ true) → list_any p (cond c (x ∷ filter t xs) (filter t xs)) ≡ true
    go true e true g k next = ap (λ b. b || list_any p (filter t xs)) e
    go true e false g k next = absurd (false≢true (sym g ∙ f x e))
    go false e true g k next = ap (λ b. b || list_any p (filter t xs)) e ∙ next k
    go false e false g k next = next k

-- a count that stops at its last value, and more
capped : (a n m last : ℕ) → a ≡ min n last → min (a + m) last ≡ min (n + m) last
capped a n m last h = omega arith

-- ---- what is known of a xorb

module _ (s t : Store) (ps : List Put) (c : Copied) (k : IsCopying s t ps c) where
  lacks : MerkleHash → Bool
  lacks h = is_none (xorb_of t h)

  -- one that was not looked at is none of the put ones
  pub unput : (h : MerkleHash) → is_looked c.xorbs h ≡ false → list_any (λ x. hash_eq x.hash h) (xorbs_in ps) ≡ false
  unput h n =
      let a : list_any (λ g. hash_eq g h) (looked_hashes c.xorbs) ≡ false =
      any-map (λ g. hash_eq g h) (λ (x : LookedXorb). x.info.hash) c.xorbs ∙ sym (is_some-found (λ x. hash_eq x.info.hash h) c.xorbs) ∙ n in
      let b = any_filter_no (λ g. hash_eq g h) (λ g. is_none (xorb_of t g)) (looked_hashes c.xorbs) a in
      sym (any-map (λ g. hash_eq g h) (λ (x : Xorb). x.hash) (xorbs_in ps)) ∙ ap (list_any (λ g. hash_eq g h)) k.sent ∙ b

  -- and there now exactly as it was at first
  pub unput-is : (h : MerkleHash) → is_looked c.xorbs h ≡ false → xorb_of (after t ps) h ≡ xorb_of t h
  unput-is h n =
      after_finds_xorbs t ps h ∙ ap (option_or (xorb_of t h)) (found-none (λ x. hash_eq x.hash h) (xorbs_in ps) (unput h n)) ∙ or-none (xorb_of t h)

  -- one that was looked at is s's
  pub looked-stored : (h : MerkleHash) → Contains (looked_hashes c.xorbs) h → (x : Xorb) × (xorb_of s h ≡ Some x)
  looked-stored h there =
      All-contains (λ g. (x : Xorb) × (xorb_of s g ≡ Some x)) (looked_hashes c.xorbs) h
      (All-map (λ g. (x : Xorb) × (xorb_of s g ≡ Some x)) (λ (l : LookedXorb). l.info.hash) c.xorbs
      (All-weaker (IsLookedFrom s) (λ l. (x : Xorb) × (xorb_of s l.info.hash ≡ Some x)) (λ l r. (r.xorb, r.stored)) c.xorbs k.records))
      there

  -- and where t lacks it, it was put
  looked-put : (h : MerkleHash) → Contains (looked_hashes c.xorbs) h → is_some (xorb_of t h) ≡ false
      → list_any (λ g. hash_eq g h) (map (λ x. x.hash) (xorbs_in ps)) ≡ true
  looked-put h there absent =
      ap (list_any (λ g. hash_eq g h)) k.sent
      ∙ any_filter (λ g. hash_eq g h) (λ g. is_none (xorb_of t g)) (looked_hashes c.xorbs)
      (λ g e. let same = hash_eq-true g h e in ap (λ z. is_none (xorb_of t z)) same ∙ none-some_not (xorb_of t h) ∙ ap not absent)
      (contained_any (looked_hashes c.xorbs) h there)

  -- so it is there
  pub looked-there : (h : MerkleHash) → Contains (looked_hashes c.xorbs) h → IsThere ps (map (λ x. x.hash) t.xorbs) h
  looked-there h there = go (is_some (xorb_of t h)) refl
    where
      go : (b : Bool) → is_some (xorb_of t h) ≡ b → IsThere ps (map (λ x. x.hash) t.xorbs) h
      go true e =
          let any = any-map (λ g. hash_eq g h) (λ (x : Xorb). x.hash) t.xorbs ∙ sym (is_some-found (λ x. hash_eq x.hash h) t.xorbs) ∙ e in
          inr (any_contained (map (λ x. x.hash) t.xorbs) h any)
      go false e = inl (any_contained (map (λ x. x.hash) (xorbs_in ps)) h (looked-put h there e))

  -- with the chunks that s's has
  pub looked-same : Agree s t → (h : MerkleHash) → Contains (looked_hashes c.xorbs) h → HaveSame s (after t ps) h
  looked-same agree h there = go (is_some (xorb_of t h)) refl
    where
      go : (b : Bool) → is_some (xorb_of t h) ≡ b → HaveSame s (after t ps) h
      go true e =
          let own = looked-stored h there in
          let had = some-is (xorb_of t h) e in
          record {
            there = own.0;
            there_is = own.1;
            here = had.0;
            here_is = after_finds_xorbs t ps h ∙ ap (λ o. option_or o (find (λ x. hash_eq x.hash h) (xorbs_in ps))) had.1;
            chunks = sym (agree.xorbs h own.0 had.0 own.1 had.1);
          }
      go false e =
          let own = looked-stored h there in
          let any = sym (any-map (λ g. hash_eq g h) (λ (x : Xorb). x.hash) (xorbs_in ps)) ∙ looked-put h there e in
          let found = some-is (find (λ (x : Xorb). hash_eq x.hash h) (xorbs_in ps)) (is_some-found (λ x. hash_eq x.hash h) (xorbs_in ps) ∙ any) in
          let hash = hash_eq-true found.0.hash h (found_passes (λ (x : Xorb). hash_eq x.hash h) (xorbs_in ps) found.0 found.1) in
          let sent : IsSentFrom s t found.0 = found_sent found.0 found.1 in
          let same : found.0 ≡ own.0 = same_Some found.0 own.0 (sym sent.stored ∙ ap (xorb_of s) hash ∙ own.1) in
          record {
            there = own.0;
            there_is = own.1;
            here = found.0;
            here_is = after_finds_xorbs t ps h ∙ ap (λ o. option_or o (find (λ x. hash_eq x.hash h) (xorbs_in ps))) (none-is (xorb_of t h) e) ∙ found.1;
            chunks = ap (λ (x : Xorb). x.chunks) same;
          }
        where
          found_sent : (x : Xorb) → find (λ (x : Xorb). hash_eq x.hash h) (xorbs_in ps) ≡ Some x → IsSentFrom s t x
          found_sent x e = found_all (IsSentFrom s t) (λ (x : Xorb). hash_eq x.hash h) (xorbs_in ps) x k.log.sent e

  -- ---- one xorb more

  -- the hashes that were looked at differ, also with one that wasn't
  more-apart : (h : MerkleHash) → is_looked c.xorbs h ≡ false
      → looked_hashes c.xorbs ++ h ∷ [] ≡ firsts hash_eq (looked_hashes c.xorbs ++ h ∷ [])
  more-apart h n =
      let hs = looked_hashes c.xorbs in
      let no : list_any (λ g. hash_eq g h) hs ≡ false =
      any-map (λ g. hash_eq g h) (λ (x : LookedXorb). x.info.hash) c.xorbs ∙ sym (is_some-found (λ x. hash_eq x.info.hash h) c.xorbs) ∙ n in
      let last = firsts-push hash_eq hash_eq-chain hs h in
      sym (last ∙ ap (λ (fs : List MerkleHash). cond (list_any (λ y. hash_eq y h) fs) fs (fs ++ h ∷ [])) (sym k.apart)
      ∙ ap (λ b. cond b hs (hs ++ h ∷ [])) no)

-- the puts with one xorb more
xorbs-sent : (ps : List Put) (x : Xorb) → xorbs_in (ps ++ put.Xorb x ∷ []) ≡ xorbs_in ps ++ x ∷ []
xorbs-sent ps x = xorbs_in-append ps (put.Xorb x ∷ [])

xorbs-recorded : (ps : List Put) (r : ShardRecord) → xorbs_in (ps ++ put.Shard r ∷ []) ≡ xorbs_in ps
xorbs-recorded ps r = xorbs_in-append ps (put.Shard r ∷ []) ∙ append-nil (xorbs_in ps)

shards_in-append : (ps qs : List Put) → shards_in (ps ++ qs) ≡ shards_in ps ++ shards_in qs
shards_in-append [] qs = refl
shards_in-append (put.Xorb x ∷ ps) qs = shards_in-append ps qs
shards_in-append (put.Shard r ∷ ps) qs = ap (λ rs. r ∷ rs) (shards_in-append ps qs)

shards-sent : (ps : List Put) (x : Xorb) → shards_in (ps ++ put.Xorb x ∷ []) ≡ shards_in ps
shards-sent ps x = shards_in-append ps (put.Xorb x ∷ []) ∙ append-nil (shards_in ps)

-- ---- shards

-- the records of the xorbs with some hashes that were looked at
infos-are : (s : Store) (xs : List LookedXorb) → All (IsLookedFrom s) xs → (hs : List MerkleHash) → All (Contains (looked_hashes xs)) hs
    → (map (λ i. i.hash) (filter_map (λ h. option_map (λ x. x.info) (looked_at xs h)) hs) ≡ hs)
    × All (IsInfoFrom s) (filter_map (λ h. option_map (λ x. x.info) (looked_at xs h)) hs)
infos-are s xs all [] there = (refl, All-nil (IsInfoFrom s))
infos-are s xs all (h ∷ hs) there =
    let rest = infos-are s xs all hs (All-tail (Contains (looked_hashes xs)) h hs there) in
    let any : is_looked xs h ≡ true =
    is_some-found (λ x. hash_eq x.info.hash h) xs ∙ sym (any-map (λ g. hash_eq g h) (λ (x : LookedXorb). x.info.hash) xs)
    ∙ contained_any (looked_hashes xs) h (All-head (Contains (looked_hashes xs)) h hs there) in
    let found = some-is (looked_at xs h) any in
    with_first found.0 found.1 (filter_map (λ h. option_map (λ x. x.info) (looked_at xs h)) hs) rest.0 rest.1
  where
    with_first : (l : LookedXorb) → looked_at xs h ≡ Some l → (rest : List MDBXorbInfo) → map (λ i. i.hash) rest ≡ hs → All (IsInfoFrom s) rest
        → (map (λ i. i.hash) (cons_option (option_map (λ x. x.info) (looked_at xs h)) rest) ≡ h ∷ hs)
        × All (IsInfoFrom s) (cons_option (option_map (λ x. x.info) (looked_at xs h)) rest)
    with_first l is rest hashes from =
        let own : IsLookedFrom s l = found_all (IsLookedFrom s) (λ x. hash_eq x.info.hash h) xs l all is in
        let hash : l.info.hash ≡ h = hash_eq-true l.info.hash h (found_passes (λ x. hash_eq x.info.hash h) xs l is) in
        let P : Option LookedXorb → Type 0 = λ o. (map (λ i. i.hash) (cons_option (option_map (λ x. x.info) o) rest) ≡ h ∷ hs) × All (IsInfoFrom s) (cons_option (option_map (λ x. x.info) o) rest) in
        let both : P (Some l) = ((λ i. hash i ∷ hashes i), All-cons (IsInfoFrom s) l.info rest own from) in
        subst P (sym is) both

pub shard-of : (s : Store) (xs : List LookedXorb) (file : MDBFileInfo) → All (IsLookedFrom s) xs
    → All (Contains (looked_hashes xs)) (map (λ e. e.xorb) file.entries) → file_of s file.hash ≡ Some (file_of_record file) → IsShardOf s (shard_with xs file)
shard-of s xs file all named stored =
    let names = map (λ e. e.xorb) file.entries in
    let infos = infos-are s xs all (firsts hash_eq names) (all_firsts (Contains (looked_hashes xs)) names named) in
    record { file = file; files = refl; stored = stored; named = infos.0; xorbs = infos.1 }

-- a xorb that was noted, with its record
abbrev pub noted : Xorb → LookedXorb
noted x = record { info = record_of x }

abbrev pub with_noted : Copied → Xorb → Bool → Copied
with_noted c x held = record { xorbs = c.xorbs ++ noted x ∷ []; report = report_with c.report x held }

pub notes-is : (verify : Bool) (cb ca : Copied) (x : Xorb) (held : Bool) → Notes verify cb ca x held → ca ≡ with_noted cb x held
notes-is verify cb ca x held n = λ i. record { xorbs = n.xorbs i; report = n.report i }

pub hashes-noted : (xs : List LookedXorb) (x : Xorb) → looked_hashes (xs ++ noted x ∷ []) ≡ looked_hashes xs ++ x.hash ∷ []
hashes-noted xs x = map-append (λ (l : LookedXorb). l.info.hash) xs (noted x ∷ [])

record-from : (s : Store) (x : Xorb) → xorb_of s x.hash ≡ Some x → IsLookedFrom s (noted x)
record-from s x e = record { xorb = x; stored = e; is = refl }

module _ (s t : Store) (ps : List Put) (c : Copied) (k : IsCopying s t ps c) (x : Xorb)
    (stored : xorb_of s x.hash ≡ Some x) (new : is_looked c.xorbs x.hash ≡ false) where
  apart-noted : looked_hashes (c.xorbs ++ noted x ∷ []) ≡ firsts hash_eq (looked_hashes (c.xorbs ++ noted x ∷ []))
  apart-noted = hashes-noted c.xorbs x ∙ more-apart s t ps c k x.hash new ∙ ap (firsts hash_eq) (sym (hashes-noted c.xorbs x))

  -- the target held it
  pub copying-held : is_some (xorb_of t x.hash) ≡ true → IsCopying s t ps (with_noted c x true)
  copying-held held =
      let kept : filter (λ h. is_some (xorb_of t h)) (looked_hashes (c.xorbs ++ noted x ∷ []))
      ≡ filter (λ h. is_some (xorb_of t h)) (looked_hashes c.xorbs) ++ x.hash ∷ [] =
      ap (filter (λ h. is_some (xorb_of t h))) (hashes-noted c.xorbs x) ∙ filter-kept (λ h. is_some (xorb_of t h)) (looked_hashes c.xorbs) x.hash held in
      let left : filter (λ h. is_none (xorb_of t h)) (looked_hashes (c.xorbs ++ noted x ∷ []))
      ≡ filter (λ h. is_none (xorb_of t h)) (looked_hashes c.xorbs) =
      ap (filter (λ h. is_none (xorb_of t h))) (hashes-noted c.xorbs x)
      ∙ filter-left (λ h. is_none (xorb_of t h)) (looked_hashes c.xorbs) x.hash (none-some_not (xorb_of t x.hash) ∙ ap not held) in
      let had = filter (λ h. is_some (xorb_of t h)) (looked_hashes c.xorbs) in
      record {
        log = k.log;
        valid = k.valid;
        records = All-push (IsLookedFrom s) c.xorbs (noted x) k.records (record-from s x stored);
        apart = apart-noted;
        sent = k.sent ∙ sym left;
        xorbs_sent = k.xorbs_sent;
        xorbs_present = capped c.report.xorbs_present (length had) 1 (2 ^ 64 - 1) k.xorbs_present
            ∙ ap counted (sym (ap length kept ∙ length-append had (x.hash ∷ [])));
        bytes_sent = k.bytes_sent;
      }

  -- or it was sent
  module _ (lacking : is_some (xorb_of t x.hash) ≡ false) where
    log-sent : IsLogOf s t (ps ++ put.Xorb x ∷ [])
    log-sent =
        let P : List Xorb → Type 0 = All (IsSentFrom s t) in
        let Q : List Xorb → Type 0 = AllPairs (λ a b. IsFalse (hash_eq a.hash b.hash)) in
        let S : List ShardRecord → Type 0 = All (IsShardOf s) in
        record {
          ordered = ordered-xorb ps 0 (map (λ x. x.hash) t.xorbs) x k.log.ordered;
          sent = subst P (sym (xorbs-sent ps x)) (All-push (IsSentFrom s t) (xorbs_in ps) x k.log.sent
              (record { stored = stored; new = lacking }));
          once = subst Q (sym (xorbs-sent ps x)) (all_pairs_push (λ a b. IsFalse (hash_eq a.hash b.hash)) (xorbs_in ps) x k.log.once
              (none_pass (λ y. hash_eq y.hash x.hash) (xorbs_in ps) (unput s t ps c k x.hash new)));
          shards = subst S (sym (shards-sent ps x)) k.log.shards;
        }

    valid-sent : IsValid s → IsValid t → Agree s t → IsValid (after t (ps ++ put.Xorb x ∷ []))
    valid-sent from to agree =
        let before = after t ps in
        let fresh : xorb_of before x.hash ≡ None = unput-is s t ps c k x.hash new ∙ none-is (xorb_of t x.hash) lacking in
        let is : after t (ps ++ put.Xorb x ∷ []) ≡ record before { xorbs = before.xorbs ++ x ∷ [] } =
        after-append t ps (put.Xorb x ∷ []) ∙ ap (λ o. cond (is_some o) before (record before { xorbs = before.xorbs ++ x ∷ [] })) fresh in
        subst IsValid (sym is) (valid_with_xorb before x (k.valid from to agree) fresh (xorb_in s from x.hash x stored))

    pub copying-sent : IsCopying s t (ps ++ put.Xorb x ∷ []) (with_noted c x false)
    copying-sent =
        let kept : filter (λ h. is_none (xorb_of t h)) (looked_hashes (c.xorbs ++ noted x ∷ []))
        ≡ filter (λ h. is_none (xorb_of t h)) (looked_hashes c.xorbs) ++ x.hash ∷ [] =
        ap (filter (λ h. is_none (xorb_of t h))) (hashes-noted c.xorbs x)
        ∙ filter-kept (λ h. is_none (xorb_of t h)) (looked_hashes c.xorbs) x.hash (none-some_not (xorb_of t x.hash) ∙ ap not lacking) in
        let left : filter (λ h. is_some (xorb_of t h)) (looked_hashes (c.xorbs ++ noted x ∷ []))
        ≡ filter (λ h. is_some (xorb_of t h)) (looked_hashes c.xorbs) =
        ap (filter (λ h. is_some (xorb_of t h))) (hashes-noted c.xorbs x) ∙ filter-left (λ h. is_some (xorb_of t h)) (looked_hashes c.xorbs) x.hash lacking in
        let size : Xorb → ℕ = λ x. length (concat x.chunks) in
        record {
          log = log-sent;
          valid = valid-sent;
          records = All-push (IsLookedFrom s) c.xorbs (noted x) k.records (record-from s x stored);
          apart = apart-noted;
          sent = ap (map (λ x. x.hash)) (xorbs-sent ps x) ∙ map-append (λ (x : Xorb). x.hash) (xorbs_in ps) (x ∷ [])
              ∙ ap (λ hs. hs ++ x.hash ∷ []) k.sent ∙ sym kept;
          xorbs_sent = capped c.report.xorbs_sent (length (xorbs_in ps)) 1 (2 ^ 64 - 1) k.xorbs_sent
              ∙ ap counted (sym (ap length (xorbs-sent ps x) ∙ length-append (xorbs_in ps) (x ∷ [])));
          xorbs_present = k.xorbs_present ∙ ap counted (sym (ap length left));
          bytes_sent = capped c.report.bytes_sent (sum_by size (xorbs_in ps)) (size x) (2 ^ 64 - 1) k.bytes_sent
              ∙ ap counted (sym (ap (sum_by size) (xorbs-sent ps x) ∙ sum_by-append size (xorbs_in ps) (x ∷ []) ∙ one size (sum_by size (xorbs_in ps)) x));
        }
      where
        one : (f : Xorb → ℕ) (n : ℕ) (x : Xorb) → n + sum_by f (x ∷ []) ≡ n + f x
        one f n x = omega (arith, sum_by-cons f x [])

-- ---- one record more

module _ (s t : Store) (ps : List Put) (c : Copied) (k : IsCopying s t ps c) (file : MDBFileInfo)
    (is : IsNewFile s t ps file) (inside : All (λ e. is_term_in s (stored_term e) ≡ true) file.entries)
    (named : All (λ e. Contains (looked_hashes c.xorbs) e.xorb) file.entries) (r : ShardRecord) (files : r.files ≡ file ∷ [])
    (shard : IsShardOf s r) where
  log-recorded : IsLogOf s t (ps ++ put.Shard r ∷ [])
  log-recorded =
      let known : List MerkleHash = map (λ x. x.hash) t.xorbs in
      let names : names_of r.files ≡ map (λ e. e.xorb) file.entries = ap names_of files ∙ append-nil (map (λ e. e.xorb) file.entries) in
      let there : All (IsThere ps known) (map (λ e. e.xorb) file.entries) =
      All-map (IsThere ps known) (λ (e : FileDataSequenceEntry). e.xorb) file.entries
      (All-weaker (λ e. Contains (looked_hashes c.xorbs) e.xorb) (λ e. IsThere ps known e.xorb)
      (λ e h. looked-there s t ps c k e.xorb h) file.entries named) in
      let P : List Xorb → Type 0 = All (IsSentFrom s t) in
      let Q : List Xorb → Type 0 = AllPairs (λ a b. IsFalse (hash_eq a.hash b.hash)) in
      let R : List MerkleHash → Type 0 = All (IsThere ps known) in
      let S : List ShardRecord → Type 0 = All (IsShardOf s) in
      record {
        ordered = ordered-shard ps 0 known r k.log.ordered (subst R (sym names) there);
        sent = subst P (sym (xorbs-recorded ps r)) k.log.sent;
        once = subst Q (sym (xorbs-recorded ps r)) k.log.once;
        shards = subst S (sym (shards_in-append ps (put.Shard r ∷ []))) (All-push (IsShardOf s) (shards_in ps) r k.log.shards shard);
      }

  valid-recorded : IsValid s → IsValid t → Agree s t → IsValid (after t (ps ++ put.Shard r ∷ []))
  valid-recorded from to agree =
      let u = after t ps in
      let f = file_of_record file in
      let same : All (λ e. HaveSame s u e.xorb) file.entries =
      All-weaker (λ e. Contains (looked_hashes c.xorbs) e.xorb) (λ e. HaveSame s u e.xorb)
      (λ e h. looked-same s t ps c k agree e.xorb h) file.entries named in
      let sames : All (λ (t : StoredTerm). HaveSame s u t.xorb) f.terms =
      All-map (λ (t : StoredTerm). HaveSame s u t.xorb) stored_term file.entries same in
      let terms : All (IsTermIn u) f.terms = All-map (IsTermIn u) stored_term file.entries
      (λ n d l. same-in s u (stored_term (get_or file.entries n d)) (same n d l) (term-in s (stored_term (get_or file.entries n d)) (inside n d l))) in
      let short = found_short s from file.hash f f.terms (sym is.stored) refl in
      let bytes = ap (λ cs. length (concat cs)) (same-terms s u f.terms sames) in
      let sums = length-terms u f.terms in
      let fits : sum_by (term_length u) f.terms < 2 ^ 64 = omega (arith, short, bytes, sums) in
      let now : after t (ps ++ put.Shard r ∷ []) ≡ record u { files = u.files ++ f ∷ [] } =
      after-append t ps (put.Shard r ∷ []) ∙ ap (fold add_file u) files ∙ ap (λ o. cond (is_some o) u (record u { files = u.files ++ f ∷ [] })) is.new in
      subst IsValid (sym now) (valid_with_file u f (k.valid from to agree) is.new terms fits)

  pub copying-recorded : IsCopying s t (ps ++ put.Shard r ∷ []) (record c { report = with_copied c.report })
  copying-recorded =
      let e = xorbs-recorded ps r in
      record {
        log = log-recorded;
        valid = valid-recorded;
        records = k.records;
        apart = k.apart;
        sent = ap (map (λ x. x.hash)) e ∙ k.sent;
        xorbs_sent = k.xorbs_sent ∙ ap (λ xs. counted (length xs)) (sym e);
        xorbs_present = k.xorbs_present;
        bytes_sent = k.bytes_sent ∙ ap (λ xs. counted (sum_by (λ x. length (concat x.chunks)) xs)) (sym e);
      }
