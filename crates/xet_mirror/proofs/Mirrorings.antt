-- The files of a list, one after another.
use Rattle.std.proofs.Common.{◌≡◌, ℕ, ◌+◌, ◌<◌, Bool, ◌⊎◌, List, [], ◌∷◌, ◌++◌, length, map, take, get_or, refl, sym, ◌∙◌, ap, subst, arith}
use Rattle.std.specs.Prelude.{Some, IsNone, IsSome, Ok, Err, option_map, slice_get, unwrap_or, All, Contains}
use Rattle.std.proofs.lemmas.Option.{slice_get-map, slice_get_read}
use Rattle.std.proofs.lemmas.List.{get_or_default, take_more}
use Rattle.std.proofs.lemmas.List.Elements.{All-nil}
use Rattle.xet_base.specs.declared.merklehash.MerkleHash.{MerkleHash}
use Rattle.xet_base.specs.declared.stored.StoredFile.{StoredFile}
use Rattle.xet_base.specs.Store.{Store, file_of}
use Rattle.xet_store.specs.Refusals.{stored_term}
use Rattle.xet_uploader.specs.StoresAfter.{file_of_record}
use Rattle.xet_uploader.specs.Uploads.{UploaderTold}
use Rattle.xet_upload.proofs.CallerLemmas.{ordered-none}
use Rattle.xet_shelves.specs.After.{Between, Shown}
use Rattle.xet_shelves.specs.Shelves.{ShelfTold}
use Rattle.xet_mirror_parts.specs.declared.copied.Copied.{Copied}
use Rattle.xet_mirror_parts.specs.declared.report.MirrorError.{MirrorError}
use Rattle.xet_mirror_parts.specs.declared.report.MirrorError.TheVariants as mirror_error
use Rattle.xet_mirror_parts.specs.declared.report.MirrorReport.{MirrorReport}
use Rattle.xet_mirror_parts.specs.Copying.{IsLookedFrom, IsSentFrom, IsShardOf}
use Rattle.xet_mirror_parts.specs.Looked.{no_report}
use Rattle.xet_mirror_parts.specs.Moments.{Moment, Step}
use Rattle.xet_mirror_parts.proofs.CallerLemmas.{moment-more, moment-shown, step-answer, step-err, step-none, step-then}
use Rattle.xet_mirror.specs.Calls.{IsBadTerm, IsMissingFile, MirrorCall, MirrorCause}
use Rattle.xet_mirror.specs.Mirrored.{copied_files, named_xorbs, names_of_file}
use Rattle.xet_mirror.specs.steps.FileCalls.{FileCall, FileCause, FileTold, IsCopied, Mirroring}
use Rattle.xet_mirror.proofs.FileParts.{ok-other}
use Rattle.xet_mirror.proofs.Finals.{mirrored, verified}
use Rattle.xet_mirror.proofs.Listed.{copied-listed, named-listed}

-- nothing was copied
abbrev pub none_copied : Copied
none_copied = record { xorbs = []; report = no_report }

-- ---- at first

copied-none : (s t : Store) → IsCopied s t [] none_copied []
copied-none s t = record {
  copying = record {
    log = record {
      ordered = ordered-none [] (map (λ x. x.hash) t.xorbs);
      sent = All-nil (IsSentFrom s t);
      once = λ i j d less within. absurd (omega (arith, within));
      shards = All-nil (IsShardOf s);
    };
    valid = λ from to agree. to;
    records = All-nil (IsLookedFrom s);
    apart = refl;
    sent = refl;
    xorbs_sent = refl;
    xorbs_present = refl;
    bytes_sent = refl;
  };
  recorded = refl;
  files = All-nil (λ f. file_of s f.hash ≡ Some (file_of_record f));
  named = refl;
  listed = All-nil (λ f. IsSome (file_of s f) ⊎ IsSome (file_of t f));
  files_copied = refl;
  files_present = refl;
}

pub mirroring-none : (verify : Bool) (files : List MerkleHash) (sb : ShelfTold) (tb : UploaderTold) (c : Copied) → c ≡ none_copied
    → Mirroring verify (take 0 files) sb sb tb tb c
mirroring-none verify files sb tb c e = record {
  puts = [];
  step = step-none verify sb tb (Ok tt) (ok-other tt mirror_error.ClientError) tt;
  told = λ s t m. let P : Copied → Type 0 = λ c. IsCopied s t [] c [] in subst P (sym e) (copied-none s t);
  alone = λ s m v.
      let P : Copied → Type 0 = λ c. All (IsLookedFrom s) c.xorbs in
      subst P (sym e) (All-nil (IsLookedFrom s));
}

-- ---- one file more

module _ (verify : Bool) (files : List MerkleHash) (i : ℕ) (file : MerkleHash) (within : i < length files) (item : file ≡ get_or files i file)
    (sb sm sa : ShelfTold) (tb tm ta : UploaderTold) (cm ca : Copied) (done : Mirroring verify (take i files) sb sm tb tm cm) where
  more-is : take (i + 1) files ≡ take i files ++ file ∷ []
  more-is = take_more files i file within ∙ ap (λ f. take i files ++ f ∷ []) (sym item)

  at-is : slice_get files i ≡ Some file
  at-is = slice_get_read files (length files) i file refl within item

  listed-is : Contains files file
  listed-is = (i, within, sym item)

  here : (s t : Store) → Moment s t [] sb tb → Moment s t done.puts sm tm
  here s t m = moment-more s t [] done.puts sb sm tb tm m done.step.added done.step.store done.step.first

  pub mirroring-more : FileCall verify i file sm sa tm ta cm ca (Ok tt) → Mirroring verify (take (i + 1) files) sb sa tb ta ca
  mirroring-more h = record {
    puts = done.puts ++ h.puts;
    step = step-then verify sb sm sa tb tm ta done.puts h.puts tt (Ok tt) done.step h.step;
    told = λ s t m.
        let P : List MerkleHash → Type 0 = IsCopied s t (done.puts ++ h.puts) ca in
        subst P (sym more-is) (h.told s t done.puts (take i files) (here s t m) (done.told s t m)).copied;
    alone = λ s m v. (h.alone s (done.step.store ∙ m) v (done.alone s m v)).records;
  }

  module _ (e : MirrorError) (h : FileCall verify i file sm sa tm ta cm ca (Err e)) where
    told-at : (s t : Store) → Shown s t sb tb → FileTold s t done.puts h.puts i file (take i files) ca (Err e)
    told-at s t shown =
        let m = moment-shown s t sb tb shown in
        h.told s t done.puts (take i files) (here s t m) (done.told s t m)

    listed-before : (s t : Store) → Shown s t sb tb → All (λ f. IsSome (file_of s f) ⊎ IsSome (file_of t f)) (take i files)
    listed-before s t shown = (done.told s t (moment-shown s t sb tb shown)).listed

    named-at : (s t : Store) (g : MerkleHash) → IsNone (file_of t file) → Contains (names_of_file s file) g → Contains (named_xorbs s (copied_files t files)) g
    named-at s t g none named = named-listed s (copied_files t files) file g (copied-listed t files file listed-is none) named

    cause : (e : MirrorError) → ((s t : Store) → Shown s t sb tb → FileCause s t i file e) → Step {A = MirrorReport} verify sb sa tb ta (done.puts ++ h.puts) (Err e)
        → MirrorCause verify files sb sa tb ta e
    cause mirror_error.OutOfMemory c step = tt
    cause mirror_error.ClientError c step = step.client refl
    cause (mirror_error.FileMissing p) c step = λ s t shown.
        let k = c s t shown in
        let P : ℕ → Type 0 = IsMissingFile s t files in
        subst P (sym k.0) (record { file = file; at = at-is; missing = (k.1, k.2); before = listed-before s t shown })
    cause (mirror_error.XorbMissing g) c step = λ s t shown.
        let k = c s t shown in
        record { named = named-at s t g k.0 k.1; missing = k.2 }
    cause (mirror_error.BadTerm p n) c step = λ s t shown.
        let k = c s t shown in
        let P : ℕ → Type 0 = λ p. IsBadTerm s t files p n in
        let bad = k.2.bad in
        subst P (sym k.1) (record {
          file = file;
          at = at-is;
          copied = k.0;
          term = stored_term bad.term;
          term_at = ap (λ o. slice_get (unwrap_or (option_map (λ (f : StoredFile). f.terms) o) []) n) k.2.stored
              ∙ slice_get-map stored_term k.2.info.entries n ∙ ap (option_map stored_term) bad.at;
          outside = bad.outside;
          known = bad.known;
        })
    cause (mirror_error.HashDiffers g) c step = (
      step.tests,
      λ s t shown.
          let k = c s t shown in
          record { named = named-at s t g k.0 k.1; stored = k.2.stored; lacking = k.2.lacking; differs = k.2.differs },
    )

    pub mirror-failed : MirrorCall verify files sb sa tb ta (Err e)
    mirror-failed =
        let step : Step {A = MirrorReport} verify sb sa tb ta (done.puts ++ h.puts) (Err e) =
        step-then verify sb sm sa tb tm ta done.puts h.puts tt (Err e) done.step (step-err verify sm sa tm ta h.puts e h.step) in
        record {
          puts = done.puts ++ h.puts;
          step = step;
          ordered = λ s t b. (told-at s t b.shown).log.ordered;
          sent = λ s t b. (told-at s t b.shown).log.sent;
          once = λ s t b. (told-at s t b.shown).log.once;
          verified = λ v s t b. verified verify s t (done.puts ++ h.puts) b.from (told-at s t b.shown).log.sent step.whole v;
          shards = λ s t b. (told-at s t b.shown).log.shards;
          mirrored = λ s t b. tt;
          cause = cause e (λ s t shown. (told-at s t shown).cause) step;
          whole = λ s m v. (h.alone s (done.step.store ∙ m) v (done.alone s m v)).cause;
        }

-- ---- the whole list

pub mirror-done : (verify : Bool) (files done : List MerkleHash) (sb sa : ShelfTold) (tb ta : UploaderTold) (c : Copied) → done ≡ files
    → Mirroring verify done sb sa tb ta c → MirrorCall verify files sb sa tb ta (Ok c.report)
mirror-done verify files done sb sa tb ta c all h = record {
  puts = h.puts;
  step = step-answer verify sb sa tb ta h.puts tt (Ok c.report) h.step (λ x. cc) tt;
  ordered = λ s t b. (at s t b).copying.log.ordered;
  sent = λ s t b. (at s t b).copying.log.sent;
  once = λ s t b. (at s t b).copying.log.once;
  verified = λ v s t b. verified verify s t h.puts b.from (at s t b).copying.log.sent h.step.whole v;
  shards = λ s t b. (at s t b).copying.log.shards;
  mirrored = λ s t b. mirrored s t h.puts c files (at s t b) b.from b.to b.agree;
  cause = tt;
  whole = λ s m v. tt;
}
  where
    at : (s t : Store) → Between s t sb tb → IsCopied s t h.puts c files
    at s t b =
        let P : List MerkleHash → Type 0 = IsCopied s t h.puts c in
        subst P all (h.told s t (moment-shown s t sb tb b.shown))

-- a hash that is read in a loop
abbrev pub no_hash : MerkleHash
no_hash = record { 0 = [] }

pub self-at : {A : Type 0} (xs : List A) (i : ℕ) (d : A) → i < length xs → get_or xs i d ≡ get_or xs i (get_or xs i d)
self-at xs i d l = get_or_default xs i d (get_or xs i d) l
