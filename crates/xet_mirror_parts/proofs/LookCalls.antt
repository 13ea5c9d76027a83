-- One xorb that is looked at.
use Rattle.std.proofs.Common.{◌≡◌, ◌<◌, Bool, true, false, cond, inl, inr, List, [], ◌∷◌, ◌++◌, length, map, refl, sym, ◌∙◌, ap, subst, arith}
use Rattle.std.specs.Prelude.{Option, Some, None, Result, Ok, Err, IfErr, IsErrOf, OnOk, is_some, All, Contains, option_map, unwrap_or}
use Rattle.std.specs.List.{list_any}
use Rattle.std.proofs.lemmas.Bool.{false≢true, true≢false}
use Rattle.std.proofs.lemmas.List.{append-nil}
use Rattle.std.proofs.lemmas.List.Elements.{All-cons, All-nil, All-push}
use Rattle.xet_base.specs.declared.merklehash.MerkleHash.{MerkleHash}
use Rattle.xet_base.specs.declared.mdb_shard.MDBFileInfo.{MDBFileInfo}
use Rattle.xet_base.specs.declared.mdb_shard.Xorb.{Xorb}
use Rattle.xet_base.specs.Digests.{xorb_hash_of}
use Rattle.xet_base.specs.Hashes.{hash_eq}
use Rattle.xet_base.specs.Store.{Store, xorb_of}
use Rattle.xet_base.proofs.CallerLemmas.{firsts-push, hash_eq-chain}
use Rattle.xet_outside.specs.declared.client.ClientError.{ClientError}
use Rattle.xet_outside.specs.declared.client.ClientError.TheVariants as client_error
use Rattle.xet_uploader.specs.declared.uploader.Put.{Put}
use Rattle.xet_uploader.specs.declared.uploader.Put.TheVariants as put
use Rattle.xet_uploader.specs.StoresAfter.{file_of_record, files_in}
use Rattle.xet_uploader.specs.Uploads.{UploaderTold, capped_info, record_of, xorbs_in}
use Rattle.xet_shelves.specs.After.{after}
use Rattle.xet_shelves.specs.Shelves.{HasCall, IsRecordOf, IsXorbOf, ShelfCall, ShelfTold, has_xorb}
use Rattle.xet_mirror_parts.specs.declared.copied.Copied.{Copied}
use Rattle.xet_mirror_parts.specs.declared.copied.LookedXorb.{LookedXorb}
use Rattle.xet_mirror_parts.specs.declared.report.MirrorError.{MirrorError}
use Rattle.xet_mirror_parts.specs.declared.report.MirrorReport.{MirrorReport}
use Rattle.xet_mirror_parts.specs.declared.report.MirrorError.TheVariants as mirror_error
use Rattle.xet_mirror_parts.specs.Errors.{of_client}
use Rattle.xet_mirror_parts.specs.Looked.{IsWholeXorb, Notes, is_looked, looked_hashes, report_with}
use Rattle.xet_mirror_parts.specs.Moments.{Moment, OnlyTests, Step}
use Rattle.xet_mirror_parts.specs.Copying.{IsCopying, IsLogOf, IsLookedFrom, LookCall, LookCause, LookTold, LooksAt, NeverLost, SameFiles, chunks_hash}
use Rattle.xet_mirror_parts.specs.steps.Kept.{KeepCall, KeepCause, kept_puts, lost}
use Rattle.xet_shelves.proofs.CallerLemmas.{after-append, has_xorb-after}
use Rattle.xet_mirror_parts.proofs.Copyings.{copying-held, copying-sent, hashes-noted, looked-stored, notes-is, unput-is, with_noted}
use Rattle.xet_mirror_parts.proofs.Finds.{any-map, any_contained, found_passes, is_some-found}
use Rattle.xet_mirror_parts.proofs.Moments.{added-none, step-answer, step-err, step-none, step-then}

-- ---- errors

-- an answer of a connection, to one who mirrors
abbrev pub mapped : {A : Type 0} → Result A ClientError → Result A MirrorError
mapped (Ok a) = Ok a
mapped (Err e) = Err (of_client e)

pub client-plain : (s t : Store) (N : MerkleHash → Type 0) (e : ClientError) → LookCause s t N (of_client e)
client-plain s t N client_error.OutOfMemory = tt
client-plain s t N client_error.Failed = tt

pub client-lost : (e : ClientError) → NeverLost (of_client e)
client-lost client_error.OutOfMemory = tt
client-lost client_error.Failed = tt

keep-lost : (verify : Bool) (x : Xorb) (held : Bool) (e : MirrorError) → KeepCause verify x held e → NeverLost e
keep-lost verify x held mirror_error.OutOfMemory c = tt
keep-lost verify x held mirror_error.ClientError c = tt
keep-lost verify x held (mirror_error.HashDiffers g) c = tt
keep-lost verify x held (mirror_error.FileMissing p) c = tt
keep-lost verify x held (mirror_error.XorbMissing g) c = c
keep-lost verify x held (mirror_error.BadTerm p e) c = c

pub client-failed : {A : Type 0} (r : Result A ClientError) → IsErrOf (mapped r) mirror_error.ClientError → IsErrOf r client_error.Failed
client-failed (Ok a) e = cc
client-failed (Err client_error.OutOfMemory) e = cc
client-failed (Err client_error.Failed) e = refl

pub client-tests : {A : Type 0} (verify : Bool) (r : Result A ClientError) → IfErr (mapped r) (OnlyTests verify)
client-tests verify (Ok a) = tt
client-tests verify (Err client_error.OutOfMemory) = tt
client-tests verify (Err client_error.Failed) = tt

-- ---- calls of the outside are steps

pub step-has : (verify : Bool) (sb : ShelfTold) (tb ta : UploaderTold) (has : Store → List Put → Bool) (r : Result Bool ClientError)
    → HasCall tb ta has r → Step verify sb sb tb ta [] (mapped r)
step-has verify sb tb ta has r h = record {
  added = added-none tb.puts ta.puts (ap (λ (u : UploaderTold). u.puts) h.same);
  store = refl;
  first = ap (λ (u : UploaderTold). u.first) h.same;
  faults = (omega arith, h.faults);
  unfailed = unfailed r h.unfailed;
  client = λ e. inr (h.failed (client-failed r e));
  whole = All-nil (IsWholeXorb verify);
  tests = client-tests verify r;
}
  where
    unfailed : (r : Result Bool ClientError) → OnOk r (ta.faults ≡ tb.faults) → OnOk (mapped r) ((sb.faults ≡ sb.faults) × (ta.faults ≡ tb.faults))
    unfailed (Ok y) u = (refl, u)
    unfailed (Err e) u = tt

pub step-asked : {A : Type 0} (verify : Bool) (sb sa : ShelfTold) (tb : UploaderTold) (Is : Store → A → Type 0) (r : Result A ClientError)
    → ShelfCall sb sa Is r → Step verify sb sa tb tb [] (mapped r)
step-asked {A} verify sb sa tb Is r h = record {
  added = added-none tb.puts tb.puts refl;
  store = h.store;
  first = refl;
  faults = (h.faults, omega arith);
  unfailed = unfailed r h.unfailed;
  client = λ e. inl (h.failed (client-failed r e));
  whole = All-nil (IsWholeXorb verify);
  tests = client-tests verify r;
}
  where
    unfailed : (r : Result A ClientError) → OnOk r (sa.faults ≡ sb.faults) → OnOk (mapped r) ((sa.faults ≡ sb.faults) × (tb.faults ≡ tb.faults))
    unfailed (Ok y) u = (u, refl)
    unfailed (Err e) u = tt

step-kept : (verify : Bool) (x : Xorb) (held : Bool) (sb : ShelfTold) (tb ta : UploaderTold) (cb ca : Copied)
    (r : Result (Unit {0}) MirrorError) → 0 < length x.chunks → KeepCall verify x held tb ta cb ca r
    → Step verify sb sb tb ta (kept_puts r x held) r
step-kept verify x held sb tb ta cb ca r some h = record {
  added = h.added;
  store = refl;
  first = h.first;
  faults = (omega arith, h.faults);
  unfailed = unfailed r h.unfailed;
  client = λ e. inr (h.client e);
  whole = whole r held h.notes;
  tests = tests r h.cause;
}
  where
    whole : (r : Result (Unit {0}) MirrorError) (held : Bool) → OnOk r (Notes verify cb ca x held) → All (IsWholeXorb verify) (xorbs_in (kept_puts r x held))
    whole (Ok y) true n = All-nil (IsWholeXorb verify)
    whole (Ok y) false n =
        All-cons (IsWholeXorb verify) x [] (record { some = some; named = λ v. n.named v refl }) (All-nil (IsWholeXorb verify))
    whole (Err e) held n = All-nil (IsWholeXorb verify)

    tests : (r : Result (Unit {0}) MirrorError) → IfErr r (KeepCause verify x held) → IfErr r (OnlyTests verify)
    tests (Ok y) c = tt
    tests (Err mirror_error.OutOfMemory) c = tt
    tests (Err mirror_error.ClientError) c = tt
    tests (Err (mirror_error.HashDiffers h)) c = c.0
    tests (Err (mirror_error.FileMissing p)) c = tt
    tests (Err (mirror_error.XorbMissing h)) c = tt
    tests (Err (mirror_error.BadTerm p e)) c = tt

    unfailed : (r : Result (Unit {0}) MirrorError) → OnOk r (ta.faults ≡ tb.faults) → OnOk r ((sb.faults ≡ sb.faults) × (ta.faults ≡ tb.faults))
    unfailed (Ok y) u = (refl, u)
    unfailed (Err e) u = tt

-- ---- a shelf that answers something else

-- another xorb than the asked one is none
pub asked-other : (sb sa : ShelfTold) (xorb : MerkleHash) (found : Xorb) → ShelfCall sb sa (IsXorbOf xorb) (Ok (Some found)) → hash_eq found.hash xorb ≡ false
    → ShelfCall sb sa (IsXorbOf xorb) (Ok None)
asked-other sb sa xorb found k other = record {
  store = k.store;
  is = λ s e. absurd (true≢false (sym (found_passes (λ x. hash_eq x.hash xorb) s.xorbs found (sym (k.is s e))) ∙ other));
  faults = k.faults;
  failed = λ e. cc;
  unfailed = k.unfailed;
}

pub file-other : (sb sa : ShelfTold) (file : MerkleHash) (found : MDBFileInfo) → ShelfCall sb sa (IsRecordOf file) (Ok (Some found)) → hash_eq found.hash file ≡ false
    → ShelfCall sb sa (IsRecordOf file) (Ok None)
file-other sb sa file found k other = record {
  store = k.store;
  is = λ s e. absurd (true≢false (sym (found_passes (λ x. hash_eq x.hash file) s.files (file_of_record found) (sym (k.is s e))) ∙ other));
  faults = k.faults;
  failed = λ e. cc;
  unfailed = k.unfailed;
}

-- ---- what was not put

pub log-same : (s t : Store) (ps : List Put) → IsLogOf s t ps → IsLogOf s t (ps ++ [])
log-same s t ps h = let P : List Put → Type 0 = IsLogOf s t in subst P (sym (append-nil ps)) h

pub copying-same : (s t : Store) (ps : List Put) (c : Copied) → IsCopying s t ps c → IsCopying s t (ps ++ []) c
copying-same s t ps c h = let P : List Put → Type 0 = λ qs. IsCopying s t qs c in subst P (sym (append-nil ps)) h

-- an error before anything was put
look-error : (verify : Bool) (xorb : MerkleHash) (good : Store → Bool) (sb sa : ShelfTold) (tb ta : UploaderTold) (cb ca : Copied) (e : MirrorError)
    → Step {A = Bool} verify sb sa tb ta [] (Err e)
    → ((s t : Store) (ps : List Put) → Moment s t ps sb tb → IsCopying s t ps cb → LookCause s t (λ h. h ≡ xorb) e)
    → ((s : Store) → sb.store ≡ Some s → good s ≡ true → NeverLost e)
    → LookCall verify xorb good sb sa tb ta cb ca (Err e)
look-error verify xorb good sb sa tb ta cb ca e step cause lost = record {
  puts = [];
  step = step;
  xorbs_only = refl;
  files = tt;
  looked = tt;
  told = λ s t ps m k. record {
    log = log-same s t ps k.log;
    copying = tt;
    is = tt;
    known = tt;
    cause = cause s t ps m k;
  };
  alone = λ s m k. record { records = tt; is = λ g. tt; cause = lost s m };
}

-- ---- a xorb that wasn't looked at

-- the target said whether it was there at first
held-is : (s t : Store) (ps : List Put) (sb : ShelfTold) (tb ta : UploaderTold) (c : Copied) (xorb : MerkleHash) (held : Bool)
    → Moment s t ps sb tb → IsCopying s t ps c → is_looked c.xorbs xorb ≡ false
    → HasCall tb ta (λ s log. has_xorb s log xorb) (Ok held) → held ≡ is_some (xorb_of t xorb)
held-is s t ps sb tb ta c xorb held m k n h =
    h.is m.first (m.log ++ ps) m.first_is m.log_is
    ∙ has_xorb-after m.first (m.log ++ ps) xorb
    ∙ ap (λ (u : Store). is_some (xorb_of u xorb)) (after-append m.first m.log ps ∙ ap (λ (u : Store). after u ps) (sym m.now))
    ∙ ap is_some (unput-is s t ps c k xorb n)

-- a list of different hashes with one that is new
looks-new : (cb ca : Copied) (xorb : MerkleHash) → is_looked cb.xorbs xorb ≡ false → looked_hashes ca.xorbs ≡ looked_hashes cb.xorbs ++ xorb ∷ []
    → LooksAt cb ca (xorb ∷ [])
looks-new cb ca xorb n more hs e =
    let none : list_any (λ g. hash_eq g xorb) (looked_hashes cb.xorbs) ≡ false =
    any-map (λ g. hash_eq g xorb) (λ (x : LookedXorb). x.info.hash) cb.xorbs ∙ sym (is_some-found (λ x. hash_eq x.info.hash xorb) cb.xorbs) ∙ n in
    more ∙ sym (firsts-push hash_eq hash_eq-chain hs xorb ∙ ap (λ (fs : List MerkleHash). cond (list_any (λ y. hash_eq y xorb) fs) fs (fs ++ xorb ∷ [])) (sym e)
    ∙ ap (λ b. cond b (looked_hashes cb.xorbs) (looked_hashes cb.xorbs ++ xorb ∷ [])) none)

-- and with one that is there
looks-again : (c : Copied) (xorb : MerkleHash) → is_looked c.xorbs xorb ≡ true → LooksAt c c (xorb ∷ [])
looks-again c xorb y hs e =
    let yes : list_any (λ g. hash_eq g xorb) (looked_hashes c.xorbs) ≡ true =
    any-map (λ g. hash_eq g xorb) (λ (x : LookedXorb). x.info.hash) c.xorbs ∙ sym (is_some-found (λ x. hash_eq x.info.hash xorb) c.xorbs) ∙ y in
    sym (firsts-push hash_eq hash_eq-chain hs xorb ∙ ap (λ (fs : List MerkleHash). cond (list_any (λ y. hash_eq y xorb) fs) fs (fs ++ xorb ∷ [])) (sym e)
    ∙ ap (λ b. cond b (looked_hashes c.xorbs) (looked_hashes c.xorbs ++ xorb ∷ [])) yes)

pub looked-contained : (c : Copied) (xorb : MerkleHash) → is_looked c.xorbs xorb ≡ true → Contains (looked_hashes c.xorbs) xorb
looked-contained c xorb y =
    any_contained (looked_hashes c.xorbs) xorb
    (any-map (λ g. hash_eq g xorb) (λ (x : LookedXorb). x.info.hash) c.xorbs ∙ sym (is_some-found (λ x. hash_eq x.info.hash xorb) c.xorbs) ∙ y)

-- what is kept is no file, and no file is counted
kept-files : (x : Xorb) (held : Bool) → files_in (kept_puts {A = Unit {0}} (Ok tt) x held) ≡ []
kept-files x true = refl
kept-files x false = refl

kept-report : (r : MirrorReport) (x : Xorb) (held : Bool) → SameFiles r (report_with r x held)
kept-report r x true = (refl, refl)
kept-report r x false = (refl, refl)

-- whether the shelf has a xorb
abbrev pub on_shelf : MerkleHash → Store → Bool
on_shelf xorb s = is_some (xorb_of s xorb)

module _ (verify : Bool) (xorb : MerkleHash) (sb sa : ShelfTold) (tb tm ta : UploaderTold) (cb ca : Copied) where
  -- the target failed
  pub look-unheld : (good : Store → Bool) (has : Store → List Put → Bool) (e : ClientError) → HasCall tb ta has (Err e)
      → LookCall verify xorb good sb sb tb ta cb cb (Err (of_client e))
  look-unheld good has e h =
      look-error verify xorb good sb sb tb ta cb cb (of_client e) (step-has verify sb tb ta has (Err e) h)
      (λ s t ps m k. client-plain s t (λ h. h ≡ xorb) e) (λ s m g. client-lost e)

  -- the shelf failed
  pub look-unasked : (good : Store → Bool) (has : Store → List Put → Bool) (held : Bool) (e : ClientError) → HasCall tb ta has (Ok held)
      → ShelfCall sb sa (IsXorbOf xorb) (Err e) → LookCall verify xorb good sb sa tb ta cb cb (Err (of_client e))
  look-unasked good has held e h k =
      let step : Step {A = Bool} verify sb sa tb ta [] (Err (of_client e)) =
      step-then verify sb sb sa tb ta ta [] [] held (Err (of_client e)) (step-has verify sb tb ta has (Ok held) h)
      (step-err verify sb sa ta ta [] (of_client e) (step-asked verify sb sa ta (IsXorbOf xorb) (Err e) k)) in
      look-error verify xorb good sb sa tb ta cb cb (of_client e) step (λ s t ps m k. client-plain s t (λ h. h ≡ xorb) e)
      (λ s m g. client-lost e)

  -- the shelf hasn't it
  module _ (new : is_looked cb.xorbs xorb ≡ false) where
    pub look-lost : (held : Bool) → HasCall tb ta (λ s log. has_xorb s log xorb) (Ok held) → ShelfCall sb sa (IsXorbOf xorb) (Ok None)
        → LookCall verify xorb (on_shelf xorb) sb sa tb ta cb cb (lost xorb held)
    look-lost true h k =
        let first = step-has verify sb tb ta (λ s log. has_xorb s log xorb) (Ok true) h in
        let both : Step {A = Bool} verify sb sa tb ta [] (Ok false) =
        step-then verify sb sb sa tb ta ta [] [] true (Ok false) first
        (step-answer verify sb sa ta ta [] None (Ok false) (step-asked verify sb sa ta (IsXorbOf xorb) (Ok None) k) (λ e. cc) tt) in
        record {
          puts = [];
          step = both;
          xorbs_only = refl;
          files = (refl, refl);
          looked = λ e. absurd (false≢true e);
          told = λ s t ps m c. record {
            log = log-same s t ps c.log;
            copying = copying-same s t ps cb c;
            is = ap is_some (k.is s m.shelf_is);
            known = λ e. inr (sym (held-is s t ps sb tb ta cb xorb true m c new h));
            cause = tt;
          };
          alone = λ s m c. record { records = c; is = λ g. ap is_some (k.is s m) ∙ g; cause = λ g. tt };
        }
    look-lost false h k =
        let first = step-has verify sb tb ta (λ s log. has_xorb s log xorb) (Ok false) h in
        let missing : MirrorError = mirror_error.XorbMissing xorb in
        let both : Step {A = Bool} verify sb sa tb ta [] (Err missing) =
        step-then verify sb sb sa tb ta ta [] [] false (Err missing) first
        (step-answer verify sb sa ta ta [] None (Err missing) (step-asked verify sb sa ta (IsXorbOf xorb) (Ok None) k) (λ e. cc) tt) in
        look-error verify xorb (on_shelf xorb) sb sa tb ta cb cb missing both
        (λ s t ps m c. (
          refl,
          (
            sym (ap is_some (k.is s m.shelf_is)),
            sym (held-is s t ps sb tb ta cb xorb false m c new h),
          ),
        )) (λ s m g. false≢true (ap is_some (k.is s m) ∙ g))

    -- the shelf has it, and it was kept
    module _ (held : Bool) (found : Xorb) (h : HasCall tb tm (λ s log. has_xorb s log xorb) (Ok held)) (asked : ShelfCall sb sa (IsXorbOf xorb) (Ok (Some found)))
        (own : found.hash ≡ xorb) where
      step-found : Step {A = Option Xorb} verify sb sa tb tm [] (Ok (Some found))
      step-found =
          step-then verify sb sb sa tb tm tm [] [] held (Ok (Some found)) (step-has verify sb tb tm (λ s log. has_xorb s log xorb) (Ok held) h)
          (step-asked verify sb sa tm (IsXorbOf xorb) (Ok (Some found)) asked)

      stored-is : (s t : Store) (ps : List Put) → Moment s t ps sb tb → xorb_of s found.hash ≡ Some found
      stored-is s t ps m = ap (xorb_of s) own ∙ sym (asked.is s m.shelf_is)

      new-is : is_looked cb.xorbs found.hash ≡ false
      new-is = ap (is_looked cb.xorbs) own ∙ new

      held-own : (s t : Store) (ps : List Put) → Moment s t ps sb tb → IsCopying s t ps cb → is_some (xorb_of t found.hash) ≡ held
      held-own s t ps m c = ap (λ h. is_some (xorb_of t h)) own ∙ sym (held-is s t ps sb tb tm cb xorb held m c new h)

      keep-cause : (s t : Store) (ps : List Put) → Moment s t ps sb tb → IsCopying s t ps cb → (e : MirrorError) → KeepCause verify found held e
          → LookCause s t (λ h. h ≡ xorb) e
      keep-cause s t ps m c mirror_error.ClientError k = tt
      keep-cause s t ps m c mirror_error.OutOfMemory k = tt
      keep-cause s t ps m c (mirror_error.HashDiffers g) k =
          let is : xorb_of s found.hash ≡ Some found = stored-is s t ps m in
          let at : g ≡ found.hash = k.2 in
          let chunks : chunks_hash s found.hash ≡ xorb_hash_of (record_of found).chunks = ap (λ o. xorb_hash_of (map capped_info (unwrap_or (option_map (λ x. x.chunks) o) []))) is in (
            at ∙ own,
            record {
              stored = ap (λ h. is_some (xorb_of s h)) at ∙ ap is_some is;
              lacking = ap (λ h. is_some (xorb_of t h)) at ∙ held-own s t ps m c ∙ k.1;
              differs = λ same. k.3 (sym chunks ∙ ap (chunks_hash s) (sym at) ∙ same ∙ at);
            },
          )
      keep-cause s t ps m c (mirror_error.FileMissing p) k = absurd k
      keep-cause s t ps m c (mirror_error.XorbMissing g) k = absurd k
      keep-cause s t ps m c (mirror_error.BadTerm p e) k = absurd k

      pub look-unkept : 0 < length found.chunks → (e : MirrorError) → KeepCall verify found held tm ta cb ca (Err e)
          → LookCall verify xorb (on_shelf xorb) sb sa tb ta cb ca (Err e)
      look-unkept some e k =
          let step : Step {A = Bool} verify sb sa tb ta [] (Err e) =
          step-then verify sb sa sa tb tm ta [] [] (Some found) (Err e) step-found (step-err verify sa sa tm ta [] e (step-kept verify found held sa tm ta cb ca (Err e) some k)) in
          look-error verify xorb (on_shelf xorb) sb sa tb ta cb ca e step (λ s t ps m c. keep-cause s t ps m c e k.cause)
          (λ s m g. keep-lost verify found held e k.cause)

      pub look-kept : 0 < length found.chunks → KeepCall verify found held tm ta cb ca (Ok tt) → LookCall verify xorb (on_shelf xorb) sb sa tb ta cb ca (Ok true)
      look-kept some k = record {
        puts = puts;
        step = step-then verify sb sa sa tb tm ta [] puts (Some found) (Ok true) step-found
            (step-answer verify sa sa tm ta puts tt (Ok true) (step-kept verify found held sa tm ta cb ca (Ok tt) some k) (λ e. cc) tt);
        xorbs_only = kept-files found held;
        files = (
          ap (λ (r : MirrorReport). r.files_copied) notes.report ∙ (kept-report cb.report found held).0,
          ap (λ (r : MirrorReport). r.files_present) notes.report ∙ (kept-report cb.report found held).1,
        );
        looked = λ e. looks-new cb ca xorb new hashes;
        told = told;
        alone = λ s m c. record { records = noted s m c; is = λ g. refl; cause = λ g. tt };
      }
        where
          notes : Notes verify cb ca found held
          notes = k.notes

          puts : List Put
          puts = kept_puts {A = Unit {0}} (Ok tt) found held

          hashes : looked_hashes ca.xorbs ≡ looked_hashes cb.xorbs ++ xorb ∷ []
          hashes = ap looked_hashes notes.xorbs ∙ hashes-noted cb.xorbs found ∙ ap (λ h. looked_hashes cb.xorbs ++ h ∷ []) own

          noted : (s : Store) → sb.store ≡ Some s → All (IsLookedFrom s) cb.xorbs → All (IsLookedFrom s) ca.xorbs
          noted s m c =
              let l : LookedXorb = record { info = record_of found } in
              let P : List LookedXorb → Type 0 = All (IsLookedFrom s) in
              let is : xorb_of s found.hash ≡ Some found = ap (xorb_of s) own ∙ sym (asked.is s m) in
              subst P (sym notes.xorbs)
              (All-push (IsLookedFrom s) cb.xorbs l c (record { xorb = found; stored = is; is = refl }))

          told : (s t : Store) (ps : List Put) → Moment s t ps sb tb → IsCopying s t ps cb
              → LookTold s t ps puts xorb (on_shelf xorb s) ca (Ok true)
          told s t ps m c = let made = copy held refl in record {
            log = made.log;
            copying = made;
            is = sym (ap is_some (sym (asked.is s m.shelf_is)));
            known = λ e. absurd (true≢false e);
            cause = tt;
          }
            where
              into : (b : Bool) (qs : List Put) → held ≡ b → ps ++ kept_puts {A = Unit {0}} (Ok tt) found b ≡ qs → IsCopying s t qs (with_noted cb found b)
                  → IsCopying s t (ps ++ puts) ca
              into b qs e more made =
                  let P : List Put → Type 0 = λ qs. IsCopying s t qs (with_noted cb found b) in
                  let Q : Copied → Type 0 = λ c. IsCopying s t (ps ++ puts) c in
                  let ca_is : ca ≡ with_noted cb found b = notes-is verify cb ca found held notes ∙ ap (with_noted cb found) e in
                  subst Q (sym ca_is) (subst P (sym (ap (λ b. ps ++ kept_puts {A = Unit {0}} (Ok tt) found b) e ∙ more)) made)

              copy : (b : Bool) → held ≡ b → IsCopying s t (ps ++ puts) ca
              copy true e =
                  into true ps e (append-nil ps)
                  (copying-held s t ps cb c found (stored-is s t ps m) new-is (held-own s t ps m c ∙ e))
              copy false e =
                  into false (ps ++ put.Xorb found ∷ []) e refl
                  (copying-sent s t ps cb c found (stored-is s t ps m) new-is (held-own s t ps m c ∙ e))

-- ---- a xorb that was looked at before

pub look-again : (verify : Bool) (xorb : MerkleHash) (sb : ShelfTold) (tb : UploaderTold) (c : Copied) → is_looked c.xorbs xorb ≡ true
    → LookCall verify xorb (on_shelf xorb) sb sb tb tb c c (Ok true)
look-again verify xorb sb tb c y = record {
  puts = [];
  step = step-none verify sb tb (Ok true) (λ e. cc) tt;
  xorbs_only = refl;
  files = (refl, refl);
  looked = λ e. looks-again c xorb y;
  told = λ s t ps m k. record {
    log = log-same s t ps k.log;
    copying = copying-same s t ps c k;
    is = let stored = looked-stored s t ps c k xorb (looked-contained c xorb y) in sym (ap is_some stored.1);
    known = λ e. absurd (true≢false e);
    cause = tt;
  };
  alone = λ s m k. record { records = k; is = λ g. refl; cause = λ g. tt };
}
