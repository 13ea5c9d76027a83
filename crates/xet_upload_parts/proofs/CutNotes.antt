-- What a tracker is told of a xorb that is cut.
use Rattle.std.proofs.Common.{◌≡◌, ℕ, ◌+◌, ◌<◌, Bool, List, [], ◌∷◌, ◌++◌, length, map, take, get_or, sym, ◌∙◌, ap, subst, arith}
use Rattle.std.specs.Prelude.{ltb, Result, Ok, Err, OnOk, OnErr}
use Rattle.std.specs.List.{filter}
use Rattle.std.proofs.lemmas.List.{map-append, take_more}
use Rattle.std.proofs.lemmas.List.Elements.{filter-append}
use Rattle.xet_base.specs.declared.merklehash.MerkleHash.{MerkleHash}
use Rattle.xet_progress_state.specs.declared.step.FileXorbDependency.{FileXorbDependency}
use Rattle.xet_progress_state.specs.declared.step.TrackerStep.{TrackerStep}
use Rattle.xet_progress_state.specs.declared.step.TrackerStep.TheVariants.{RegisterDependencies, RegisterNewXorb}
use Rattle.xet_waiting.specs.declared.raw_xorb.PendingFile.{PendingFile}
use Rattle.xet_waiting.specs.declared.raw_xorb.RawXorbData.{RawXorbData}
use Rattle.xet_upload_parts.specs.TrackerCalls.{CalledSome, with_call, with_calls}
use Rattle.xet_upload_parts.specs.CutNotes.{NotesCut, note_calls, part_of, parts_of}
use Rattle.xet_upload_parts.proofs.TrackerCalls.{called-all, called-first, called-none}

low-none : {P : Type 0} (k : ℕ) → 0 < k → k ≡ 0 → P
low-none k low none = absurd (omega (arith, none, low))

module _ {E : Type 0} (before after : List TrackerStep) (raw : RawXorbData) (ps : List PendingFile) where
  -- it has no chunks
  pub notes-empty : (u : Unit {0}) → length raw.xorb.chunks ≡ 0 → after ≡ before → NotesCut {E = E} before after raw ps (Ok u)
  notes-empty u none same = record {
    empty = λ q. same;
    some = subst (λ (l : List TrackerStep). CalledSome before l (note_calls raw ps)) (sym same) (called-none before (note_calls raw ps));
    ok = λ low. absurd (omega (arith, none, low));
  }

  -- there was no memory
  pub notes-none : (e : E) → after ≡ before → NotesCut before after raw ps (Err e)
  notes-none e same = record {
    empty = λ q. same;
    some = subst (λ (l : List TrackerStep). CalledSome before l (note_calls raw ps)) (sym same) (called-none before (note_calls raw ps));
    ok = tt;
  }

  module _ (low : 0 < length raw.xorb.chunks) where
    -- nor for what its files have in it
    pub notes-first : (e : E) → after ≡ with_call before (RegisterNewXorb raw.xorb.hash raw.xorb_info.num_bytes) → NotesCut before after raw ps (Err e)
    notes-first e same = record {
      empty = λ q. low-none (length raw.xorb.chunks) low q;
      some = subst (λ (l : List TrackerStep). CalledSome before l (note_calls raw ps)) (sym same) (called-first before (RegisterNewXorb raw.xorb.hash raw.xorb_info.num_bytes) (RegisterDependencies (parts_of raw.xorb.hash ps) ∷ []));
      ok = tt;
    }

    pub notes-all : (u : Unit {0}) → after ≡ with_calls before (note_calls raw ps) → NotesCut {E = E} before after raw ps (Ok u)
    notes-all u same = record {
      empty = λ q. low-none (length raw.xorb.chunks) low q;
      some = subst (λ (l : List TrackerStep). CalledSome before l (note_calls raw ps)) (sym same) (called-all before (note_calls raw ps));
      ok = λ q. same;
    }

module _ {E : Type 0} (before mid after : List TrackerStep) (raw : RawXorbData) (ps : List PendingFile) (ds : List FileXorbDependency) (k : ℕ) (low : 0 < length raw.xorb.chunks) (parts : ds ≡ parts_of raw.xorb.hash ps) (bytes : k ≡ raw.xorb_info.num_bytes) (first : mid ≡ with_call before (RegisterNewXorb raw.xorb.hash k)) where
  -- it was told of the xorb, and then of the files
  pub notes-parts : (answer : Result (Unit {0}) E) → OnOk answer (after ≡ with_call mid (RegisterDependencies ds)) → OnErr answer (after ≡ mid) → NotesCut before after raw ps answer
  notes-parts (Ok u) ok err =
      notes-all before after raw ps low u (ok ∙ ap (λ (l : List FileXorbDependency). with_call mid (RegisterDependencies l)) parts ∙ ap (λ (l : List TrackerStep). with_call l (RegisterDependencies (parts_of raw.xorb.hash ps))) (first ∙ ap (λ (n : ℕ). with_call before (RegisterNewXorb raw.xorb.hash n)) bytes))
  notes-parts (Err e) ok err = notes-first before after raw ps low e (err ∙ first ∙ ap (λ (n : ℕ). with_call before (RegisterNewXorb raw.xorb.hash n)) bytes)

-- what one file more has in the xorb
pub parts_more : (h : MerkleHash) (fs : List PendingFile) (i : ℕ) (d : PendingFile) → i < length fs → parts_of h (take (i + 1) fs) ≡ parts_of h (take i fs) ++ parts_of h (get_or fs i d ∷ [])
parts_more h fs i d low =
    let p : FileXorbDependency → Bool = λ x. ltb 0 x.n_bytes in
    ap (parts_of h) (take_more fs i d low) ∙ ap (filter p) (map-append (part_of h) (take i fs) (get_or fs i d ∷ []))
    ∙ filter-append p (map (part_of h) (take i fs)) (map (part_of h) (get_or fs i d ∷ []))
