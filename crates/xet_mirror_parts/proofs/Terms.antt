-- The terms of a file, one after another, and then its record.
use Rattle.std.proofs.Common.{◌≡◌, ℕ, ◌+◌, ◌≤◌, ◌<◌, Bool, true, false, inl, List, [], ◌∷◌, ◌++◌, length, map, take, get_or, refl, sym, ◌∙◌, ap, subst, arith, append_assoc}
use Rattle.std.specs.Prelude.{Some, None, Result, Ok, Err, is_some, All, Contains, ◌&&◌, nat_lt, nat_le, option_map, unwrap_or}
use Rattle.std.specs.Option.{option_map_or}
use Rattle.std.proofs.lemmas.Bool.{false≢true, leb-true, ltb-true, true≢false}
use Rattle.std.proofs.lemmas.Option.{slice_get_read}
use Rattle.std.proofs.lemmas.List.{append-nil, get_or_default, take_all, get_or-map, map-append, length-map, take_more}
use Rattle.std.proofs.lemmas.List.Elements.{All-nil, All-push}
use Rattle.xet_base.specs.declared.merklehash.MerkleHash.{MerkleHash}
use Rattle.xet_base.specs.declared.mdb_shard.FileDataSequenceEntry.{FileDataSequenceEntry}
use Rattle.xet_base.specs.declared.mdb_shard.Xorb.{Xorb}
use Rattle.xet_base.specs.Hashes.{hash_eq}
use Rattle.xet_base.specs.Lists.{firsts}
use Rattle.xet_base.specs.Store.{Store, chunks_of, xorb_of}
use Rattle.xet_base.proofs.CallerLemmas.{hash_eq-true}
use Rattle.xet_store.specs.Refusals.{is_term_in, stored_term}
use Rattle.xet_uploader.specs.declared.uploader.Put.{Put}
use Rattle.xet_uploader.specs.StoresAfter.{files_in}
use Rattle.xet_uploader.specs.Uploads.{UploaderTold, capped_info}
use Rattle.xet_shelves.specs.Shelves.{HasCall, IsXorbOf, ShelfCall, ShelfTold}
use Rattle.xet_mirror_parts.specs.declared.copied.Copied.{Copied}
use Rattle.xet_mirror_parts.specs.declared.copied.LookedXorb.{LookedXorb}
use Rattle.xet_mirror_parts.specs.declared.report.MirrorError.{MirrorError}
use Rattle.xet_mirror_parts.specs.declared.report.MirrorError.TheVariants as mirror_error
use Rattle.xet_mirror_parts.specs.Looked.{is_inside, is_looked, is_within, looked_at, looked_hashes}
use Rattle.xet_mirror_parts.specs.Moments.{Moment, Step}
use Rattle.xet_mirror_parts.specs.Copying.{AllTermsIn, IsCopying, IsLogOf, IsLookedFrom, LookAlone, LookCall, LookCause, TermsCall}
use Rattle.xet_shelves.proofs.CallerLemmas.{files_in-append}
use Rattle.xet_mirror_parts.proofs.Finds.{found_all, found_passes, is_some-found, contained_any, any-map, some-is}
use Rattle.xet_mirror_parts.specs.steps.Kept.{lost}
use Rattle.xet_mirror_parts.proofs.LookCalls.{copying-same, log-same, on_shelf, step-asked, step-has}
use Rattle.xet_mirror_parts.proofs.Moments.{moment-more, step-answer, step-err, step-none, step-then}
use Rattle.xet_mirror_parts.proofs.Stored.{and_parts}

-- ---- one term

-- whether a term is from below to inside a xorb of the store
abbrev pub is_good : FileDataSequenceEntry → Store → Bool
is_good e s = is_term_in s (stored_term e)

-- without the xorb it isn't
and-no : (a b c : Bool) → b ≡ false → ((a && b) && c) ≡ false
and-no true true c h = absurd (true≢false h)
and-no true false c h = refl
and-no false b c h = refl

and-mid : (a b : Bool) → (a && b) ≡ ((a && true) && b)
and-mid true b = refl
and-mid false b = refl

-- in a store that has this xorb it is where it is from below to inside the xorb
term-at : (s : Store) (e : FileDataSequenceEntry) (x : Xorb) → xorb_of s e.xorb ≡ Some x → is_term_in s (stored_term e) ≡ is_inside e x
term-at s e x stored =
    ap (λ o. (nat_lt e.from e.to && is_some o) && nat_le e.to (length (unwrap_or (option_map (λ (x : Xorb). x.chunks) o) []))) stored
    ∙ sym (and-mid (nat_lt e.from e.to) (nat_le e.to (length x.chunks)))

-- which has chunks then
pub inside-some : (e : FileDataSequenceEntry) (x : Xorb) → is_inside e x ≡ true → 0 < length x.chunks
inside-some e x h =
    let both = and_parts (nat_lt e.from e.to) (nat_le e.to (length x.chunks)) h in
    let below = ltb-true e.from e.to both.0 in
    let within = leb-true e.to (length x.chunks) both.1 in
    omega (arith, below, within)

-- a store in which the term is has its xorb
pub good-there : (e : FileDataSequenceEntry) (s : Store) → is_good e s ≡ true → on_shelf e.xorb s ≡ true
good-there e s h =
    let both = and_parts (nat_lt e.from e.to && is_some (xorb_of s e.xorb)) (nat_le e.to (length (chunks_of s e.xorb))) h in
    (and_parts (nat_lt e.from e.to) (is_some (xorb_of s e.xorb)) both.0).1

pub look-other : (verify : Bool) (xorb : MerkleHash) (good other : Store → Bool) (sb sa : ShelfTold) (tb ta : UploaderTold) (cb ca : Copied) (e : MirrorError)
    → ((s : Store) → other s ≡ true → good s ≡ true) → LookCall verify xorb good sb sa tb ta cb ca (Err e) → LookCall verify xorb other sb sa tb ta cb ca (Err e)
look-other verify xorb good other sb sa tb ta cb ca e less h = record {
  puts = h.puts;
  step = h.step;
  xorbs_only = h.xorbs_only;
  files = tt;
  looked = tt;
  told = λ s t ps m k. let u = h.told s t ps m k in record { log = u.log; copying = tt; is = tt; known = tt; cause = u.cause };
  alone = λ s m k. record { records = tt; is = λ g. tt; cause = λ g. (h.alone s m k).cause (less s g) };
}

pub look-absent : (verify : Bool) (e : FileDataSequenceEntry) (sb sa : ShelfTold) (tb ta : UploaderTold) (cb ca : Copied)
    → LookCall verify e.xorb (on_shelf e.xorb) sb sa tb ta cb ca (Ok false) → LookCall verify e.xorb (is_good e) sb sa tb ta cb ca (Ok false)
look-absent verify e sb sa tb ta cb ca h = record {
  puts = h.puts;
  step = h.step;
  xorbs_only = h.xorbs_only;
  files = h.files;
  looked = h.looked;
  told = λ s t ps m k. let u = h.told s t ps m k in record {
    log = u.log;
    copying = u.copying;
    is = sym (and-no (nat_lt e.from e.to) (is_some (xorb_of s e.xorb)) (nat_le e.to (length (chunks_of s e.xorb))) (sym u.is));
    known = u.known;
    cause = tt;
  };
  alone = λ s m k. let u = h.alone s m k in record {
    records = u.records;
    is = λ g. u.is (good-there e s g);
    cause = λ g. tt;
  };
}

-- a xorb that was looked at has as many chunks in its record as in the store
within-is : (s : Store) (e : FileDataSequenceEntry) (xs : List LookedXorb) → All (IsLookedFrom s) xs → Contains (looked_hashes xs) e.xorb
    → is_within xs e ≡ is_term_in s (stored_term e)
within-is s e xs all there =
    let any : is_looked xs e.xorb ≡ true =
    is_some-found (λ x. hash_eq x.info.hash e.xorb) xs ∙ sym (any-map (λ g. hash_eq g e.xorb) (λ (x : LookedXorb). x.info.hash) xs)
    ∙ contained_any (looked_hashes xs) e.xorb there in
    let found = some-is (looked_at xs e.xorb) any in
    at found.0 found.1
  where
    at : (l : LookedXorb) → looked_at xs e.xorb ≡ Some l → is_within xs e ≡ is_term_in s (stored_term e)
    at l is =
        let from : IsLookedFrom s l = found_all (IsLookedFrom s) (λ x. hash_eq x.info.hash e.xorb) xs l all is in
        let hash = hash_eq-true l.info.hash e.xorb (found_passes (λ x. hash_eq x.info.hash e.xorb) xs l is) in
        let stored : xorb_of s e.xorb ≡ Some from.xorb = ap (xorb_of s) (sym hash) ∙ from.stored in
        let size : length l.info.chunks ≡ length from.xorb.chunks = ap (λ r. length r.chunks) from.is ∙ length-map from.xorb.chunks capped_info in
        let left : is_within xs e ≡ (nat_lt e.from e.to && nat_le e.to (length from.xorb.chunks)) =
        ap (λ o. option_map_or (λ (x : LookedXorb). nat_lt e.from e.to && nat_le e.to (length x.info.chunks)) o false) is
        ∙ ap (λ n. nat_lt e.from e.to && nat_le e.to n) size in
        left ∙ sym (term-at s e from.xorb stored)

pub look-within : (verify : Bool) (e : FileDataSequenceEntry) (sb sa : ShelfTold) (tb ta : UploaderTold) (cb ca : Copied)
    → Contains (looked_hashes ca.xorbs) e.xorb
    → LookCall verify e.xorb (on_shelf e.xorb) sb sa tb ta cb ca (Ok true) → LookCall verify e.xorb (is_good e) sb sa tb ta cb ca (Ok (is_within ca.xorbs e))
look-within verify e sb sa tb ta cb ca there h = record {
  puts = h.puts;
  step = step-answer verify sb sa tb ta h.puts true (Ok (is_within ca.xorbs e)) h.step (λ x. cc) tt;
  xorbs_only = h.xorbs_only;
  files = h.files;
  looked = λ x. h.looked refl;
  told = λ s t ps m k. let u = h.told s t ps m k in record {
    log = u.log;
    copying = u.copying;
    is = within-is s e ca.xorbs u.copying.records there;
    known = λ x. inl (sym u.is);
    cause = tt;
  };
  alone = λ s m k. let u = h.alone s m k in record {
    records = u.records;
    is = λ g. within-is s e ca.xorbs u.records there ∙ g;
    cause = λ g. tt;
  };
}

-- ---- a term whose xorb wasn't looked at before

module _ (verify : Bool) (e : FileDataSequenceEntry) (sb sa : ShelfTold) (tb ta : UploaderTold) (cb ca : Copied) where
  -- the shelf hasn't the xorb
  pub look-unfound : (held : Bool) → LookCall verify e.xorb (on_shelf e.xorb) sb sa tb ta cb ca (lost e.xorb held)
      → LookCall verify e.xorb (is_good e) sb sa tb ta cb ca (lost e.xorb held)
  look-unfound true h = look-absent verify e sb sa tb ta cb ca h
  look-unfound false h = look-other verify e.xorb (on_shelf e.xorb) (is_good e) sb sa tb ta cb ca (mirror_error.XorbMissing e.xorb) (good-there e) h

  module _ (found : Xorb) (asked : ShelfCall sb sa (IsXorbOf e.xorb) (Ok (Some found))) where
    found-is : (s t : Store) (ps : List Put) → Moment s t ps sb tb → xorb_of s e.xorb ≡ Some found
    found-is s t ps m = sym (asked.is s m.shelf_is)

    -- the term isn't inside it, and nothing is put
    pub look-refused : (held : Bool) (has : Store → List Put → Bool) → HasCall tb ta has (Ok held) → is_inside e found ≡ false
        → LookCall verify e.xorb (is_good e) sb sa tb ta cb cb (Ok false)
    look-refused held has h outside =
        let asks : Step {A = Bool} verify sb sa ta ta [] (Ok false) =
        step-answer verify sb sa ta ta [] (Some found) (Ok false) (step-asked verify sb sa ta (IsXorbOf e.xorb) (Ok (Some found)) asked) (λ x. cc) tt in
        record {
          puts = [];
          step = step-then verify sb sb sa tb ta ta [] [] held (Ok false) (step-has verify sb tb ta has (Ok held) h) asks;
          xorbs_only = refl;
          files = (refl, refl);
          looked = λ x. absurd (false≢true x);
          told = λ s t ps m k. record {
            log = log-same s t ps k.log;
            copying = copying-same s t ps cb k;
            is = sym (term-at s e found (found-is s t ps m) ∙ outside);
            known = λ x. inl (ap is_some (found-is s t ps m));
            cause = tt;
          };
          alone = λ s m k. record {
            records = k;
            is = λ g. sym outside ∙ sym (term-at s e found (sym (asked.is s m))) ∙ g;
            cause = λ g. tt;
          };
        }

    -- it is inside, and the xorb was kept
    pub look-inside : is_inside e found ≡ true → LookCall verify e.xorb (on_shelf e.xorb) sb sa tb ta cb ca (Ok true)
        → LookCall verify e.xorb (is_good e) sb sa tb ta cb ca (Ok true)
    look-inside inside h = record {
      puts = h.puts;
      step = h.step;
      xorbs_only = h.xorbs_only;
      files = h.files;
      looked = h.looked;
      told = λ s t ps m k. let u = h.told s t ps m k in record {
        log = u.log;
        copying = u.copying;
        is = sym (term-at s e found (found-is s t ps m) ∙ inside);
        known = u.known;
        cause = tt;
      };
      alone = λ s m k. record { records = (h.alone s m k).records; is = λ g. refl; cause = λ g. tt };
    }

-- ---- terms so far

-- no terms yet
pub terms-none : (verify : Bool) (terms : List FileDataSequenceEntry) (sb : ShelfTold) (tb : UploaderTold) (c : Copied)
    → TermsCall verify (take 0 terms) sb sb tb tb c c (Ok None)
terms-none verify terms sb tb c = record {
  puts = [];
  step = step-none verify sb tb (Ok None) (λ e. cc) tt;
  xorbs_only = refl;
  files = (refl, refl);
  looked = λ e hs same. same ∙ ap (firsts hash_eq) (sym (append-nil hs));
  told = λ s t ps m k. record {
    log = log-same s t ps k.log;
    copying = copying-same s t ps c k;
    is = All-nil (λ e. is_term_in s (stored_term e) ≡ true);
    cause = tt;
  };
  alone = λ s m k. record { records = k; is = λ a. refl; cause = λ a. tt };
}

files-both : (ps qs : List Put) → files_in ps ≡ [] → files_in qs ≡ [] → files_in (ps ++ qs) ≡ []
files-both ps qs h k = files_in-append ps qs ∙ ap (λ fs. fs ++ files_in qs) h ∙ k

module _ (verify : Bool) (terms : List FileDataSequenceEntry) (i : ℕ) (e : FileDataSequenceEntry) (within : i < length terms) (item : e ≡ get_or terms i e)
    (sb sm sa : ShelfTold) (tb tm ta : UploaderTold) (cb cm ca : Copied) (done : TermsCall verify (take i terms) sb sm tb tm cb cm (Ok None)) where
  more-is : take (i + 1) terms ≡ take i terms ++ e ∷ []
  more-is = take_more terms i e within ∙ ap (λ x. take i terms ++ x ∷ []) (sym item)

  next-moment : (s t : Store) (ps : List Put) → Moment s t ps sb tb → Moment s t (ps ++ done.puts) sm tm
  next-moment s t ps m = moment-more s t ps done.puts sb sm tb tm m done.step.added done.step.store done.step.first

  log-both : (s t : Store) (ps qs : List Put) → IsLogOf s t ((ps ++ done.puts) ++ qs) → IsLogOf s t (ps ++ (done.puts ++ qs))
  log-both s t ps qs h = let P : List Put → Type 0 = IsLogOf s t in subst P (append_assoc ps done.puts qs) h

  copying-both : (s t : Store) (ps qs : List Put) → IsCopying s t ((ps ++ done.puts) ++ qs) ca → IsCopying s t (ps ++ (done.puts ++ qs)) ca
  copying-both s t ps qs h = let P : List Put → Type 0 = λ rs. IsCopying s t rs ca in subst P (append_assoc ps done.puts qs) h

  named-item : Contains (map (λ e. e.xorb) terms) e.xorb
  named-item = (
    i,
    omega (arith, within, length-map terms (λ (e : FileDataSequenceEntry). e.xorb)),
    get_or-map (λ (e : FileDataSequenceEntry). e.xorb) terms i e e.xorb within ∙ ap (λ (e : FileDataSequenceEntry). e.xorb) (sym item),
  )

  -- the shelf's store alone, after this term, which is in it where all are
  next-alone : {r : Result Bool MirrorError} → LookCall verify e.xorb (is_good e) sm sa tm ta cm ca r → (s : Store) → sb.store ≡ Some s
      → All (IsLookedFrom s) cb.xorbs → LookAlone s (is_good e s) ca r
  next-alone h s m k = h.alone s (done.step.store ∙ m) (done.alone s m k).records

  good-item : (s : Store) → AllTermsIn s terms → is_good e s ≡ true
  good-item s a =
      let P : FileDataSequenceEntry → Type 0 = λ e. is_term_in s (stored_term e) ≡ true in
      subst P (sym item) (a i e within)

  -- an error at a term is one of all
  pub terms-failed : (x : MirrorError) → LookCall verify e.xorb (is_good e) sm sa tm ta cm ca (Err x) → TermsCall verify terms sb sa tb ta cb ca (Err x)
  terms-failed x h = record {
    puts = done.puts ++ h.puts;
    step = step-then verify sb sm sa tb tm ta done.puts h.puts None (Err x) done.step (step-err verify sm sa tm ta h.puts x h.step);
    xorbs_only = files-both done.puts h.puts done.xorbs_only h.xorbs_only;
    files = tt;
    looked = tt;
    told = λ s t ps m k.
        let u = h.told s t (ps ++ done.puts) (next-moment s t ps m) (done.told s t ps m k).copying in
        record { log = log-both s t ps h.puts u.log; copying = tt; is = tt; cause = weaker s t x u.cause };
    alone = λ s m k. record { records = tt; is = λ a. tt; cause = λ a. (next-alone h s m k).cause (good-item s a) };
  }
    where
      weaker : (s t : Store) (x : MirrorError) → LookCause s t (λ g. g ≡ e.xorb) x → LookCause s t (Contains (map (λ e. e.xorb) terms)) x
      weaker s t mirror_error.OutOfMemory c = tt
      weaker s t mirror_error.ClientError c = tt
      weaker s t (mirror_error.XorbMissing g) c = (named-as g c.0, c.1)
        where
          named-as : (g : MerkleHash) → g ≡ e.xorb → Contains (map (λ e. e.xorb) terms) g
          named-as g same = let P : MerkleHash → Type 0 = Contains (map (λ e. e.xorb) terms) in subst P (sym same) named-item
      weaker s t (mirror_error.HashDiffers g) c = (named-as g c.0, c.1)
        where
          named-as : (g : MerkleHash) → g ≡ e.xorb → Contains (map (λ e. e.xorb) terms) g
          named-as g same = let P : MerkleHash → Type 0 = Contains (map (λ e. e.xorb) terms) in subst P (sym same) named-item
      weaker s t (mirror_error.FileMissing p) c = absurd c
      weaker s t (mirror_error.BadTerm p n) c = absurd c

  -- a term that isn't good is the first such
  pub terms-bad : LookCall verify e.xorb (is_good e) sm sa tm ta cm ca (Ok false) → TermsCall verify terms sb sa tb ta cb ca (Ok (Some i))
  terms-bad h = record {
    puts = done.puts ++ h.puts;
    step = step-then verify sb sm sa tb tm ta done.puts h.puts None (Ok (Some i)) done.step (step-answer verify sm sa tm ta h.puts false (Ok (Some i)) h.step (λ x. cc) tt);
    xorbs_only = files-both done.puts h.puts done.xorbs_only h.xorbs_only;
    files = (h.files.0 ∙ done.files.0, h.files.1 ∙ done.files.1);
    looked = λ x. absurd (let f : Some i ≡ None = x in cc);
    told = λ s t ps m k.
        let u = h.told s t (ps ++ done.puts) (next-moment s t ps m) (done.told s t ps m k).copying in
        record {
          log = log-both s t ps h.puts u.log;
          copying = copying-both s t ps h.puts u.copying;
          is = record { term = e; at = slice_get_read terms (length terms) i e refl within item; outside = sym u.is; known = u.known refl };
          cause = tt;
        };
    alone = λ s m k. let u = next-alone h s m k in record {
      records = u.records;
      is = λ a. absurd (false≢true (u.is (good-item s a)));
      cause = λ a. tt;
    };
  }

  -- with one that is good, they are so far
  pub terms-more : LookCall verify e.xorb (is_good e) sm sa tm ta cm ca (Ok true) → TermsCall verify (take (i + 1) terms) sb sa tb ta cb ca (Ok None)
  terms-more h = record {
    puts = done.puts ++ h.puts;
    step = step-then verify sb sm sa tb tm ta done.puts h.puts None (Ok None) done.step (step-answer verify sm sa tm ta h.puts true (Ok None) h.step (λ x. cc) tt);
    xorbs_only = files-both done.puts h.puts done.xorbs_only h.xorbs_only;
    files = (h.files.0 ∙ done.files.0, h.files.1 ∙ done.files.1);
    looked = λ x hs same.
        let before = done.looked refl hs same in
        h.looked refl (hs ++ map (λ e. e.xorb) (take i terms)) before
        ∙ ap (firsts hash_eq) (append_assoc hs (map (λ e. e.xorb) (take i terms)) (e.xorb ∷ [])
        ∙ ap (λ gs. hs ++ gs) (sym (ap (map (λ e. e.xorb)) more-is ∙ map-append (λ (e : FileDataSequenceEntry). e.xorb) (take i terms) (e ∷ []))));
    told = λ s t ps m k.
        let d = done.told s t ps m k in
        let u = h.told s t (ps ++ done.puts) (next-moment s t ps m) d.copying in
        let P : FileDataSequenceEntry → Type 0 = λ e. is_term_in s (stored_term e) ≡ true in
        let Q : List FileDataSequenceEntry → Type 0 = All P in
        record {
          log = log-both s t ps h.puts u.log;
          copying = copying-both s t ps h.puts u.copying;
          is = subst Q (sym more-is) (All-push P (take i terms) e d.is (sym u.is));
          cause = tt;
        };
    alone = λ s m k. record { records = (next-alone h s m k).records; is = λ a. refl; cause = λ a. tt };
  }

-- a term that is read in a loop
abbrev pub no_term : FileDataSequenceEntry
no_term = record { xorb = record { 0 = [] }; from = 0; to = 0; bytes = 0 }

pub self-at : {A : Type 0} (xs : List A) (i : ℕ) (d : A) → i < length xs → get_or xs i d ≡ get_or xs i (get_or xs i d)
self-at xs i d l = get_or_default xs i d (get_or xs i d) l

-- all terms
pub terms-all : (verify : Bool) (terms : List FileDataSequenceEntry) (i : ℕ) (sb sa : ShelfTold) (tb ta : UploaderTold) (cb ca : Copied) → length terms ≤ i
    → TermsCall verify (take i terms) sb sa tb ta cb ca (Ok None) → TermsCall verify terms sb sa tb ta cb ca (Ok None)
terms-all verify terms i sb sa tb ta cb ca past h =
    let P : List FileDataSequenceEntry → Type 0 = λ ts. TermsCall verify ts sb sa tb ta cb ca (Ok None) in
    subst P (take_all i terms past) h
