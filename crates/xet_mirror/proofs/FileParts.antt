-- One file of the list: the target has it, neither has it, or it is copied.
use Rattle.std.proofs.Common.{◌≡◌, ℕ, ◌+◌, ◌-◌, ◌^◌, Bool, true, false, not, ◌⊎◌, inl, inr, List, [], ◌∷◌, ◌++◌, length, map, get_or, refl, sym, ◌∙◌, ap, subst, arith}
use Rattle.std.specs.Prelude.{Option, Some, None, IsSome, Result, Ok, Err, find, is_err, is_some, option_map, unwrap_or, All, Contains}
use Rattle.std.specs.List.{flat_map, list_any}
use Rattle.std.specs.Option.{option_or}
use Rattle.std.proofs.lemmas.Bool.{false≢true, true≢false}
use Rattle.std.proofs.lemmas.List.{append-nil, get_or-map, length-append, length-map, map-append}
use Rattle.std.proofs.lemmas.List.Elements.{All-push}
use Rattle.xet_base.specs.declared.merklehash.MerkleHash.{MerkleHash}
use Rattle.xet_base.specs.declared.mdb_shard.FileDataSequenceEntry.{FileDataSequenceEntry}
use Rattle.xet_base.specs.declared.mdb_shard.MDBFileInfo.{MDBFileInfo}
use Rattle.xet_base.specs.declared.stored.StoredFile.{StoredFile}
use Rattle.xet_base.specs.Hashes.{hash_eq}
use Rattle.xet_base.specs.Lists.{firsts}
use Rattle.xet_base.specs.Store.{IsTermIn, IsValid, Store, file_of}
use Rattle.xet_base.proofs.CallerLemmas.{hash_eq-true}
use Rattle.xet_outside.specs.declared.client.ClientError.{ClientError}
use Rattle.xet_outside.specs.declared.client.ClientError.TheVariants as client_error
use Rattle.xet_store.specs.Refusals.{stored_term}
use Rattle.xet_store.proofs.CallerLemmas.{found_terms}
use Rattle.xet_uploader.specs.declared.uploader.Put.{Put}
use Rattle.xet_uploader.specs.StoresAfter.{file_of_record, files_in}
use Rattle.xet_uploader.specs.Uploads.{UploaderTold}
use Rattle.xet_shelves.specs.After.{after}
use Rattle.xet_shelves.specs.Shelves.{HasCall, IsRecordOf, ShelfCall, ShelfTold, has_file}
use Rattle.xet_mirror_parts.specs.declared.copied.Copied.{Copied}
use Rattle.xet_mirror_parts.specs.declared.report.MirrorError.{MirrorError}
use Rattle.xet_mirror_parts.specs.declared.report.MirrorError.TheVariants as mirror_error
use Rattle.xet_mirror_parts.specs.Errors.{of_client}
use Rattle.xet_mirror_parts.specs.Looked.{counted, with_present}
use Rattle.xet_mirror_parts.specs.Moments.{Moment, Step}
use Rattle.xet_mirror_parts.specs.Copying.{AllTermsIn, CopyCall, CopyCause, IsNewFile, NeverLost}
use Rattle.xet_shelves.proofs.CallerLemmas.{after-append, after_finds_files, files_in-append, has_file-after}
use Rattle.xet_mirror_parts.proofs.CallerLemmas.{any-map, client-lost, found_all, found_passes, is_some-found, log-same, moment-more, none-is, none-some_not, some-is, step-answer, step-asked, step-err, step-has, step-then}
use Rattle.xet_mirror.specs.Mirrored.{copied_files, named_xorbs, names_of_file}
use Rattle.xet_mirror.specs.steps.FileCalls.{FileCall, FileCause, IsCopied}
use Rattle.xet_mirror.proofs.Listed.{copied-again, copied-held, copied-new, counted-one, length-copied, named-more}
use Rattle.xet_mirror.proofs.MirrorLaws.{map-some, term-test}

-- an answer is no error
pub ok-other : {A : Type 0} (x : A) (y : MirrorError) → ◌≡◌ {A = Result A MirrorError} (Ok x) (Err y) → ⊥
ok-other x y e = false≢true (ap is_err e)

-- ---- what the target says

present-is : (s t : Store) (ps : List Put) (sb : ShelfTold) (tb ta : UploaderTold) (file : MerkleHash) (b : Bool) → Moment s t ps sb tb
    → HasCall tb ta (λ s log. has_file s log file) (Ok b) → b ≡ is_some (file_of (after t ps) file)
present-is s t ps sb tb ta file b m h =
    h.is m.first (m.log ++ ps) m.first_is m.log_is
    ∙ has_file-after m.first (m.log ++ ps) file
    ∙ ap (λ (u : Store). is_some (file_of u file)) (after-append m.first m.log ps ∙ ap (λ (u : Store). after u ps) (sym m.now))

or-some : {A : Type 0} (a b : Option A) → is_some (option_or a b) ≡ true → is_some a ≡ false → is_some b ≡ true
or-some None b h e = h
or-some (Some x) b h e = absurd (true≢false e)

or-no : {A : Type 0} (a b : Option A) → is_some (option_or a b) ≡ false → (is_some a ≡ false) × (is_some b ≡ false)
or-no None b h = (refl, h)
or-no (Some x) b h = absurd (true≢false h)

-- the record of a file among the puts
recorded-any : (s t : Store) (ps : List Put) (c : Copied) (done : List MerkleHash) (file : MerkleHash) (b : Bool)
    → IsCopied s t ps c done → is_some (option_map file_of_record (find (λ f. hash_eq f.hash file) (files_in ps))) ≡ b
    → list_any (λ g. hash_eq g file) (copied_files t done) ≡ b
recorded-any s t ps c done file b k e =
    ap (list_any (λ g. hash_eq g file)) (sym k.recorded)
    ∙ any-map (λ g. hash_eq g file) (λ (f : MDBFileInfo). f.hash) (files_in ps)
    ∙ sym (is_some-found (λ f. hash_eq f.hash file) (files_in ps))
    ∙ sym (map-some file_of_record (find (λ f. hash_eq f.hash file) (files_in ps))) ∙ e

-- a file that is there is copied no more, and one of both stores has it
present-step : (s t : Store) (ps : List Put) (c : Copied) (done : List MerkleHash) (file : MerkleHash)
    → IsCopied s t ps c done → is_some (file_of (after t ps) file) ≡ true
    → (copied_files t (done ++ file ∷ []) ≡ copied_files t done) × (IsSome (file_of s file) ⊎ IsSome (file_of t file))
present-step s t ps c done file k there = go (is_some (file_of t file)) refl
  where
    recorded : Option MDBFileInfo
    recorded = find (λ f. hash_eq f.hash file) (files_in ps)

    go : (b : Bool) → is_some (file_of t file) ≡ b
        → (copied_files t (done ++ file ∷ []) ≡ copied_files t done) × (IsSome (file_of s file) ⊎ IsSome (file_of t file))
    go true e = (copied-held t done file (none-some_not (file_of t file) ∙ ap not e), inr e)
    go false e =
        let some = or-some (file_of t file) (option_map file_of_record recorded) (sym (ap is_some (after_finds_files t ps file)) ∙ there) e in
        let found = some-is recorded (sym (map-some file_of_record recorded) ∙ some) in (
          copied-again t done file (none-some_not (file_of t file) ∙ ap not e) (recorded-any s t ps c done file true k some),
          inl (stored found.0 found.1),
        )
      where
        stored : (f : MDBFileInfo) → recorded ≡ Some f → IsSome (file_of s file)
        stored f is =
            let P : MDBFileInfo → Type 0 = λ f. file_of s f.hash ≡ Some (file_of_record f) in
            let own = found_all P (λ f. hash_eq f.hash file) (files_in ps) f k.files is in
            let hash = hash_eq-true f.hash file (found_passes (λ f. hash_eq f.hash file) (files_in ps) f is) in
            ap (λ h. is_some (file_of s h)) (sym hash) ∙ ap is_some own

-- ---- nothing was put

moment-same : {A : Type 0} (verify : Bool) (s t : Store) (ps : List Put) (sb sa : ShelfTold) (tb ta : UploaderTold) (r : Result A MirrorError)
    → Moment s t ps sb tb → Step verify sb sa tb ta [] r → Moment s t ps sa ta
moment-same verify s t ps sb sa tb ta r m k =
    let P : List Put → Type 0 = λ qs. Moment s t qs sa ta in
    subst P (append-nil ps) (moment-more s t ps [] sb sa tb ta m k.added k.store k.first)

copied-same : (s t : Store) (ps : List Put) (c : Copied) (done : List MerkleHash) → IsCopied s t ps c done → IsCopied s t (ps ++ []) c done
copied-same s t ps c done k = let P : List Put → Type 0 = λ qs. IsCopied s t qs c done in subst P (sym (append-nil ps)) k

file-error : (verify : Bool) (place : ℕ) (file : MerkleHash) (sb sa : ShelfTold) (tb ta : UploaderTold) (cb ca : Copied) (e : MirrorError)
    → Step {A = Unit {0}} verify sb sa tb ta [] (Err e)
    → ((s t : Store) (ps : List Put) (done : List MerkleHash) → Moment s t ps sb tb → IsCopied s t ps cb done → FileCause s t place file e)
    → NeverLost e → FileCall verify place file sb sa tb ta cb ca (Err e)
file-error verify place file sb sa tb ta cb ca e step cause lost = record {
  puts = [];
  step = step;
  told = λ s t ps done m k. record { log = log-same s t ps k.copying.log; copied = tt; cause = cause s t ps done m k };
  alone = λ s m v k. record { records = tt; cause = lost };
}

client-cause : (s t : Store) (place : ℕ) (file : MerkleHash) (e : ClientError) → FileCause s t place file (of_client e)
client-cause s t place file client_error.OutOfMemory = tt
client-cause s t place file client_error.Failed = tt

-- the report counts a file that the target had
abbrev pub counted_present : Copied → Copied
counted_present c = record c { report = with_present c.report }

module _ (verify : Bool) (place : ℕ) (file : MerkleHash) (sb sa : ShelfTold) (tb ta : UploaderTold) (cb : Copied) where
  pub file-unheld : (e : ClientError) → HasCall tb ta (λ s log. has_file s log file) (Err e) → FileCall verify place file sb sb tb ta cb cb (Err (of_client e))
  file-unheld e h =
      file-error verify place file sb sb tb ta cb cb (of_client e)
      (step-err verify sb sb tb ta [] (of_client e) (step-has verify sb tb ta (λ s log. has_file s log file) (Err e) h))
      (λ s t ps done m k. client-cause s t place file e) (client-lost e)

  pub file-present : HasCall tb ta (λ s log. has_file s log file) (Ok true) → FileCall verify place file sb sb tb ta cb (counted_present cb) (Ok tt)
  file-present h = record {
    puts = [];
    step = step-answer verify sb sb tb ta [] true (Ok tt) (step-has verify sb tb ta (λ s log. has_file s log file) (Ok true) h) (ok-other tt mirror_error.ClientError) tt;
    told = λ s t ps done m k.
        let next = present-step s t ps cb done file k (sym (present-is s t ps sb tb ta file true m h)) in
        record {
          log = log-same s t ps k.copying.log;
          copied = copied-same s t ps (counted_present cb) (done ++ file ∷ []) (more s t ps done k next);
          cause = tt;
        };
    alone = λ s m v k. record { records = k; cause = tt };
  }
    where
      more : (s t : Store) (ps : List Put) (done : List MerkleHash) → IsCopied s t ps cb done
          → (copied_files t (done ++ file ∷ []) ≡ copied_files t done) × (IsSome (file_of s file) ⊎ IsSome (file_of t file))
          → IsCopied s t ps (counted_present cb) (done ++ file ∷ [])
      more s t ps done k next =
          let c = k.copying in
          let short = length-copied t done in
          let longer = length-append done (file ∷ []) in
          let same = ap length next.0 in
          let sum : (length done - length (copied_files t done)) + 1 ≡ length (done ++ file ∷ []) - length (copied_files t (done ++ file ∷ [])) = omega (arith, short, longer, same) in
          record {
            copying = record {
              log = c.log;
              valid = c.valid;
              records = c.records;
              sent = c.sent;
              apart = c.apart;
              xorbs_sent = c.xorbs_sent;
              xorbs_present = c.xorbs_present;
              bytes_sent = c.bytes_sent;
            };
            recorded = k.recorded ∙ sym next.0;
            files = k.files;
            named = k.named ∙ ap (named_xorbs s) (sym next.0);
            listed = All-push (λ f. IsSome (file_of s f) ⊎ IsSome (file_of t f)) done file k.listed next.1;
            files_copied = k.files_copied ∙ ap (λ fs. counted (length fs)) (sym next.0);
            files_present = counted-one cb.report.files_present (length done - length (copied_files t done)) (2 ^ 64 - 1) k.files_present ∙ ap counted sum;
          }

  pub file-unasked : (held : Bool) (e : ClientError) → HasCall tb ta (λ s log. has_file s log file) (Ok held) → ShelfCall sb sa (IsRecordOf file) (Err e)
      → FileCall verify place file sb sa tb ta cb cb (Err (of_client e))
  file-unasked held e h k =
      file-error verify place file sb sa tb ta cb cb (of_client e)
      (step-then verify sb sb sa tb ta ta [] [] held (Err (of_client e)) (step-has verify sb tb ta (λ s log. has_file s log file) (Ok held) h)
      (step-err verify sb sa ta ta [] (of_client e) (step-asked verify sb sa ta (IsRecordOf file) (Err e) k)))
      (λ s t ps done m k. client-cause s t place file e) (client-lost e)

  -- t has it not, and neither has a put
  lacking : (s t : Store) (ps : List Put) → Moment s t ps sb tb → HasCall tb ta (λ s log. has_file s log file) (Ok false)
      → (is_some (file_of t file) ≡ false) × (is_some (option_map file_of_record (find (λ f. hash_eq f.hash file) (files_in ps))) ≡ false)
  lacking s t ps m h =
      or-no (file_of t file) (option_map file_of_record (find (λ f. hash_eq f.hash file) (files_in ps)))
      (sym (ap is_some (after_finds_files t ps file)) ∙ sym (present-is s t ps sb tb ta file false m h))

  pub file-missing : HasCall tb ta (λ s log. has_file s log file) (Ok false) → ShelfCall sb sa (IsRecordOf file) (Ok None)
      → FileCall verify place file sb sa tb ta cb cb (Err (mirror_error.FileMissing place))
  file-missing h k =
      file-error verify place file sb sa tb ta cb cb (mirror_error.FileMissing place)
      (step-then verify sb sb sa tb ta ta [] [] false (Err (mirror_error.FileMissing place)) (step-has verify sb tb ta (λ s log. has_file s log file) (Ok false) h)
      (step-answer verify sb sa ta ta [] None (Err (mirror_error.FileMissing place)) (step-asked verify sb sa ta (IsRecordOf file) (Ok None) k)
      (λ e. cc) tt))
      (λ s t ps done m c. (
        refl,
        sym (ap is_some (k.is s m.shelf_is)),
        (lacking s t ps m h).0,
      )) tt

-- ---- a file is copied

-- its names are those of its record
names-map : (es : List FileDataSequenceEntry) → map (λ t. t.xorb) (map stored_term es) ≡ map (λ e. e.xorb) es
names-map [] = refl
names-map (e ∷ es) = ap (λ hs. e.xorb ∷ hs) (names-map es)

pub names-are : (s : Store) (file : MerkleHash) (info : MDBFileInfo) → file_of s file ≡ Some (file_of_record info)
    → names_of_file s file ≡ map (λ e. e.xorb) info.entries
names-are s file info is =
    ap (λ o. map (λ t. t.xorb) (unwrap_or (option_map (λ (f : StoredFile). f.terms) o) [])) is ∙ names-map info.entries

module _ (verify : Bool) (place : ℕ) (file : MerkleHash) (sb sm sa : ShelfTold) (tb tm ta : UploaderTold) (cb ca : Copied) (info : MDBFileInfo)
    (h : HasCall tb tm (λ s log. has_file s log file) (Ok false)) (asked : ShelfCall sb sm (IsRecordOf file) (Ok (Some info))) (own : info.hash ≡ file) where
  step-found : Step {A = Option MDBFileInfo} verify sb sm tb tm [] (Ok (Some info))
  step-found =
      step-then verify sb sb sm tb tm tm [] [] false (Ok (Some info)) (step-has verify sb tb tm (λ s log. has_file s log file) (Ok false) h)
      (step-asked verify sb sm tm (IsRecordOf file) (Ok (Some info)) asked)

  module _ (s t : Store) (ps : List Put) (done : List MerkleHash) (m : Moment s t ps sb tb) (k : IsCopied s t ps cb done) where
    stored-is : file_of s file ≡ Some (file_of_record info)
    stored-is = sym (asked.is s m.shelf_is)

    none-there : is_some (file_of t file) ≡ false
    none-there = (lacking verify place file sb sm tb tm cb s t ps m h).0

    new-file : IsNewFile s t ps info
    new-file = record {
      stored = ap (file_of s) own ∙ stored-is;
      new = ap (file_of (after t ps)) own ∙ none-is (file_of (after t ps) file) (sym (present-is s t ps sb tb tm file false m h));
    }

    here : Moment s t ps sm tm
    here = moment-same verify s t ps sb sm tb tm (Ok (Some info)) m step-found

    longer : copied_files t (done ++ file ∷ []) ≡ copied_files t done ++ file ∷ []
    longer =
        copied-new t done file (none-some_not (file_of t file) ∙ ap not none-there)
        (recorded-any s t ps cb done file false k (lacking verify place file sb sm tb tm cb s t ps m h).1)

    named-as : (g : MerkleHash) → Contains (map (λ e. e.xorb) info.entries) g → Contains (names_of_file s file) g
    named-as g c = let P : List MerkleHash → Type 0 = λ hs. Contains hs g in subst P (sym (names-are s file info stored-is)) c

    cause : (e : MirrorError) → CopyCause s t place info e → FileCause s t place file e
    cause mirror_error.OutOfMemory c = tt
    cause mirror_error.ClientError c = tt
    cause (mirror_error.FileMissing p) c = absurd c
    cause (mirror_error.XorbMissing g) c = (none-there, named-as g c.0, c.1)
    cause (mirror_error.HashDiffers g) c = (none-there, named-as g c.0, c.1)
    cause (mirror_error.BadTerm p e) c = (none-there, c.0, record { info = info; stored = stored-is; bad = c.1 })

    copied-more : (c : CopyCall verify place info sm sa tm ta cb ca (Ok tt)) → IsCopied s t (ps ++ c.puts) ca (done ++ file ∷ [])
    copied-more c =
        let u = c.told s t ps here k.copying new-file in
        let files : files_in (ps ++ c.puts) ≡ files_in ps ++ info ∷ [] = files_in-append ps c.puts ∙ ap (λ fs. files_in ps ++ fs) c.recorded in
        let P : MDBFileInfo → Type 0 = λ f. file_of s f.hash ≡ Some (file_of_record f) in
        let Q : List MDBFileInfo → Type 0 = All P in
        let hs = flat_map (names_of_file s) (copied_files t done) in
        let short = length-copied t done in
        let all = length-append done (file ∷ []) in
        let count = ap length longer ∙ length-append (copied_files t done) (file ∷ []) in
        let rest : length done - length (copied_files t done) ≡ length (done ++ file ∷ []) - length (copied_files t (done ++ file ∷ [])) = omega (arith, short, all, count) in
        record {
          copying = u.copying;
          recorded = ap (map (λ f. f.hash)) files ∙ map-append (λ (f : MDBFileInfo). f.hash) (files_in ps) (info ∷ [])
              ∙ ap (λ fs. fs ++ info.hash ∷ []) k.recorded ∙ ap (λ f. copied_files t done ++ f ∷ []) own ∙ sym longer;
          files = subst Q (sym files) (All-push P (files_in ps) info k.files new-file.stored);
          named = c.looked hs k.named ∙ sym (ap (named_xorbs s) longer ∙ named-more s (copied_files t done) file
              ∙ ap (λ gs. firsts hash_eq (hs ++ gs)) (names-are s file info stored-is));
          listed = All-push (λ f. IsSome (file_of s f) ⊎ IsSome (file_of t f)) done file k.listed (inl (ap is_some stored-is));
          files_copied = c.files.0 ∙ counted-one cb.report.files_copied (length (copied_files t done)) (2 ^ 64 - 1) k.files_copied ∙ ap counted (sym count);
          files_present = c.files.1 ∙ k.files_present ∙ ap counted rest;
        }

  -- each term of a valid store's file is in it
  valid-terms : (s : Store) → sb.store ≡ Some s → IsValid s → AllTermsIn s info.entries
  valid-terms s m v n d l =
      let f = file_of_record info in
      let at = get_or-map stored_term info.entries n d (stored_term d) l in
      let all = found_terms s v file f f.terms (asked.is s m) refl in
      let within = all n (stored_term d) (omega (arith, l, length-map info.entries stored_term)) in
      term-test s (stored_term (get_or info.entries n d)) (subst (IsTermIn s) at within)

  pub file-copied : (r : Result (Unit {0}) MirrorError) → CopyCall verify place info sm sa tm ta cb ca r → FileCall verify place file sb sa tb ta cb ca r
  file-copied (Ok tt) c = record {
    puts = c.puts;
    step = step-then verify sb sm sa tb tm ta [] c.puts (Some info) (Ok tt) step-found c.step;
    told = λ s t ps done m k. record {
      log = (c.told s t ps (here s t ps done m k) k.copying (new-file s t ps done m k)).log;
      copied = copied-more s t ps done m k c;
      cause = tt;
    };
    alone = λ s m v k. record { records = (c.alone s (asked.store ∙ m) k).records; cause = tt };
  }
  file-copied (Err e) c = record {
    puts = c.puts;
    step = step-then verify sb sm sa tb tm ta [] c.puts (Some info) (Err e) step-found c.step;
    told = λ s t ps done m k.
        let u = c.told s t ps (here s t ps done m k) k.copying (new-file s t ps done m k) in
        record { log = u.log; copied = tt; cause = cause s t ps done m k e u.cause };
    alone = λ s m v k. record { records = tt; cause = (c.alone s (asked.store ∙ m) k).cause (valid-terms s m v) };
  }
