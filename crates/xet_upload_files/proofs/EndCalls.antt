-- What the end of a file tells the tracker of: parts of the file, and a xorb that is cut, with its files' parts.
use Rattle.std.proofs.Common.{◌≡◌, ℕ, ◌⊎◌, inl, inr, Bool, true, false, List, [], ◌∷◌, ◌++◌, refl, sym, ◌∙◌, ap}
use Rattle.std.specs.Prelude.{All, cond, is_some, Result, Ok, Err, OnErr, OnOk}
use Rattle.std.proofs.lemmas.List.{append-nil, append_assoc}
use Rattle.std.proofs.lemmas.List.Elements.{All-append, All-cons, All-head, All-nil, All-tail, All-weaker}
use Rattle.xet_base.specs.declared.merklehash.MerkleHash.{MerkleHash}
use Rattle.xet_progress_state.specs.Accepted.{refusal_of}
use Rattle.xet_progress_state.specs.declared.step.TrackerStep.{TrackerStep}
use Rattle.xet_progress_state.specs.declared.step.TrackerStep.TheVariants.{AssertComplete, IncrementFileSize, IsComplete, RegisterDependencies, RegisterNewFile, RegisterNewXorb, RegisterXorbUploadCompletion, RegisterXorbUploadProgress, RegisterXorbUploadProgressBackground, Status}
use Rattle.xet_upload.specs.declared.data_error.DataError.{DataError}
use Rattle.xet_upload_session.specs.Calls.{Cut, CutPut, CutStill, CutStopped, waiting_hash}
use Rattle.xet_upload_session.specs.Completions.{CutsFile, CutsWaiting, Joins, with_waiting}
use Rattle.xet_upload_session.specs.Sessions.{SessionTold}
use Rattle.xet_upload_parts.specs.TrackerCalls.{CalledSome}
use Rattle.xet_upload_session.specs.Trackings.{CountsPut, TracksCut, cut_calls, own_parts}
use Rattle.xet_clean.specs.Cleaners.{Cleaner}
use Rattle.xet_clean_parts.specs.FileCalls.{IsPartOf, IsXorbCall, RefusedOf, TellsOf}
use Rattle.xet_clean.specs.FileEnds.{CutsAndTakes, EndsFile, IsSame, TookFile, unit_of}

-- some calls of the kind were accepted
abbrev pub MoreCalls : List TrackerStep → List TrackerStep → Type 0
MoreCalls before after = (calls : List TrackerStep) × (after ≡ before ++ calls) × All IsXorbCall calls

no-calls : (before after : List TrackerStep) → after ≡ before → MoreCalls before after
no-calls before after e = ([], e ∙ sym (append-nil before), All-nil IsXorbCall)

both-calls : (before told after : List TrackerStep) → MoreCalls before told → MoreCalls told after
    → MoreCalls before after
both-calls before told after one two = (
  one.0 ++ two.0,
  two.1 ∙ ap (λ (l : List TrackerStep). l ++ two.0) one.1 ∙ append_assoc before one.0 two.0,
  All-append IsXorbCall one.0 two.0 one.2 two.2,
)

one-call : (before after : List TrackerStep) (c : TrackerStep) → IsXorbCall c → after ≡ before ++ c ∷ []
    → MoreCalls before after
one-call before after c is e = (c ∷ [], e, All-cons IsXorbCall c [] is (All-nil IsXorbCall))

-- a part is such a call
pub part-xorb : (file : ℕ) (c : TrackerStep) → IsPartOf file c → IsXorbCall c
part-xorb file (RegisterNewFile size) p = absurd p
part-xorb file (IncrementFileSize f n) p = absurd p
part-xorb file (RegisterDependencies ds) p = tt
part-xorb file (RegisterNewXorb h n) p = tt
part-xorb file (RegisterXorbUploadCompletion h) p = tt
part-xorb file (RegisterXorbUploadProgress h n) p = absurd p
part-xorb file (RegisterXorbUploadProgressBackground h n) p = absurd p
part-xorb file Status p = absurd p
part-xorb file IsComplete p = absurd p
part-xorb file AssertComplete p = absurd p

-- ---- a cut

some-calls : (before after calls : List TrackerStep) → All IsXorbCall calls → CalledSome before after calls
    → MoreCalls before after
some-calls before after [] a e = no-calls before after e
some-calls before after (c ∷ cs) a (inl s) = some-calls before after cs (All-tail IsXorbCall c cs a) s
some-calls before after (c ∷ cs) a (inr s) = both-calls before (before ++ c ∷ []) after
    (one-call before (before ++ c ∷ []) c (All-head IsXorbCall c cs a) refl)
    (some-calls (before ++ c ∷ []) after cs (All-tail IsXorbCall c cs a) s)

put-calls : {A : Type 0} (told after : List TrackerStep) (h : MerkleHash) (answer : Result A DataError)
    → CountsPut told after h answer → MoreCalls told after
put-calls told after h answer (inr e) = no-calls told after e.1
put-calls told after h answer (inl e) = go (is_some (refusal_of told (RegisterXorbUploadCompletion h))) e
  where
    go : (y : Bool) → after ≡ cond y told (told ++ RegisterXorbUploadCompletion h ∷ []) → MoreCalls told after
    go true q = no-calls told after q
    go false q = one-call told after (RegisterXorbUploadCompletion h) tt q

-- whether the xorb that was cut came onto the list
abbrev Registered : SessionTold → SessionTold → Type 0
Registered b n = (n.registered ≡ b.registered) ⊎ (n.registered ≡ b.registered ++ waiting_hash b ∷ [])

cut-registered : (b n : SessionTold) (now : ℕ) (answer : Result (Unit {0}) DataError) → Cut b n now answer
    → Registered b n
cut-registered b n now (Ok u) c = go c.ok
  where
    go : CutStill b n ⊎ CutPut b n now (Ok u) → Registered b n
    go (inl s) = inl (ap (λ (t : SessionTold). t.registered) s.same)
    go (inr p) = inr (ap (λ (t : SessionTold). t.registered) p.put.same)
cut-registered b n now (Err e) c = go c.err
  where
    go : CutStopped b n now (Err e) → Registered b n
    go (inl s) = inl (ap (λ (t : SessionTold). t.registered) s)
    go (inr (inl s)) = inl (ap (λ (t : SessionTold). t.registered) s.same)
    go (inr (inr p)) = inr (ap (λ (t : SessionTold). t.registered) p.put.same)

module _ {A : Type 0} (b n : SessionTold) (before after : List TrackerStep) (answer : Result A DataError)
    (t : TracksCut b n before after answer) where
  told-calls : MoreCalls before t.told
  told-calls =
      let h = waiting_hash b in
      let parts = RegisterDependencies (own_parts h b.waiting.files) in
      some-calls before t.told (cut_calls b) (All-cons IsXorbCall _ (parts ∷ []) tt
      (All-cons IsXorbCall parts [] tt (All-nil IsXorbCall))) t.some

  cut-calls : Registered b n → MoreCalls before after
  cut-calls (inl same) = both-calls before t.told after told-calls (no-calls t.told after (t.unput same))
  cut-calls (inr more) = both-calls before t.told after told-calls
      (put-calls t.told after (waiting_hash b) answer (t.put more))

-- ---- the end of a file

module _ {A : Type 0} (b n : SessionTold) (d : Cleaner) (now : ℕ) (before after : List TrackerStep)
    (answer : Result A DataError) (k : TookFile b n d now before after answer) where
  file-cut : CutsFile b k.later k.taken now (unit_of answer) → MoreCalls before after
  file-cut c = cut-calls (with_waiting b k.taken) k.later before after (unit_of answer)
      (k.tracks.cuts_file c.passes c.larger) (go (cut-registered (with_waiting b k.taken) c.middle now
      (unit_of answer) c.cut))
    where
      same : k.later.registered ≡ c.middle.registered
      same = ap (λ (t : SessionTold). t.registered) c.same

      go : Registered (with_waiting b k.taken) c.middle → Registered (with_waiting b k.taken) k.later
      go (inl e) = inl (same ∙ e)
      go (inr e) = inr (same ∙ e)

  waiting-cut : CutsWaiting b k.later k.taken now (unit_of answer) → MoreCalls before after
  waiting-cut c = cut-calls b k.later before after (unit_of answer) (k.tracks.cuts_waiting c.passes c.larger)
      (go (cut-registered b c.middle now (unit_of answer) c.cut))
    where
      still : (a : Result (Unit {0}) DataError) (d : CutsWaiting b k.later k.taken now a)
          → k.later.registered ≡ d.middle.registered
      still (Ok u) d = ap (λ (t : SessionTold). t.registered) d.ok
      still (Err e) d = ap (λ (t : SessionTold). t.registered) d.err

      go : Registered b c.middle → Registered b k.later
      go (inl r) = inl (still (unit_of answer) c ∙ r)
      go (inr r) = inr (still (unit_of answer) c ∙ r)

  took-calls : MoreCalls before after
  took-calls = go k.takes.exits
    where
      go : Joins b k.later k.taken (unit_of answer) ⊎ CutsFile b k.later k.taken now (unit_of answer)
          ⊎ CutsWaiting b k.later k.taken now (unit_of answer) → MoreCalls before after
      go (inl j) = no-calls before after (k.tracks.joins j.fits)
      go (inr (inl c)) = file-cut c
      go (inr (inr c)) = waiting-cut c

module _ {A : Type 0} (b n : SessionTold) (d : Cleaner) (now : ℕ) (before after : List TrackerStep) where
  pub ends-calls : (answer : Result A DataError) → EndsFile b n d now before after answer → MoreCalls before after
  ends-calls answer e = both-calls before e.told after (
    e.parts,
    e.accepted,
    All-weaker (IsPartOf d.file_id) IsXorbCall
        (part-xorb d.file_id) e.parts e.are_parts,
  ) (rest answer e.ok e.err)
    where
      rest : (a : Result A DataError) → OnOk a (CutsAndTakes b e.middle n d e.ended now e.told after a)
          → OnErr a (IsSame e.middle n e.told after ⊎ CutsAndTakes b e.middle n d e.ended now e.told after a)
          → MoreCalls e.told after
      rest (Ok x) t u = took-calls e.middle n e.ended now e.told after (Ok x) t.took
      rest (Err x) t (inl u) = no-calls e.told after u.1
      rest (Err x) t (inr u) = took-calls e.middle n e.ended now e.told after (Err x) u.took

  -- what the tracker is told by the end of a file
  pub ends-tells : (own : DataError → Type 0) (answer : Result A DataError)
      → EndsFile b n d now before after answer → RefusedOf IsXorbCall own before after answer
      → TellsOf IsXorbCall own before after answer
  ends-tells own answer e r =
      let c = ends-calls answer e in
      record { calls = c.0; accepted = c.1; are = c.2; refused = r }
