-- Bytes that a cleaner took in ahead of its session.
use Rattle.std.proofs.Common.{◌≡◌, ℕ, inl, inr, ◌⊎◌, Bool, false, List, ◌++◌, length, refl, sym, ◌∙◌, ap, subst}
use Rattle.std.specs.Prelude.{Option, Some, None, Result, Ok, Err, OnOk}
use Rattle.xet_progress_state.specs.declared.step.TrackerStep.{TrackerStep}
use Rattle.xet_upload.specs.declared.data_error.DataError.{DataError}
use Rattle.xet_upload.specs.declared.data_error.DataError.TheVariants as data_error
use Rattle.xet_upload_session.specs.Sessions.{SessionTold}
use Rattle.xet_clean.specs.Cleaners.{Cleaner, FeedsSo, IsOwnError, PassesTotal, past_total}
use Rattle.xet_clean.specs.declared.cleaner.TakenIn.{TakenIn}
use Rattle.xet_clean.specs.steps.TakenIn.{TakeCall}
use Rattle.xet_clean_parts.specs.FileCalls.{GrowsFirst, IsFor, TellsOf}
use Rattle.xet_clean_parts.proofs.CallerLemmas.{chunk-memory, leaves-refl, some-still, tells-memory, tells-none}
use Rattle.xet_clean.proofs.Feeding.{feeds-failed, feeds-kept, feeds-past, never-failed}

abbrev refuses : DataError → Result TakenIn DataError
refuses e = Err e

same-error : (e f : DataError) → refuses e ≡ refuses f → e ≡ f
same-error e f q = cc

same-some : (e f : DataError) (o : Option DataError) → o ≡ Some e → o ≡ Some f → e ≡ f
same-some e f o p q = let both : Some e ≡ Some f = sym p ∙ q in cc

no-error : (k : TakenIn) (e : DataError) → Ok k ≡ refuses e → ⊥
no-error k e q = cc

-- ---- bytes are taken in

module _ (c d : Cleaner) (bytes : List ℕ) where
  -- the cleaner failed before
  pub taken-kept : (e : DataError) → d.failed ≡ c.failed → c.failed ≡ Some e → TakeCall c bytes d (Err e)
  taken-kept e same failed = record {
    ok = tt;
    err = same;
    kept = λ f k. ap (λ (z : DataError). refuses z) (same-some e f c.failed failed k);
    past = λ none p. never-failed c.failed e none failed;
    why = inl failed;
  }

  -- more bytes than are left
  pub taken-past : (e : DataError) → d.failed ≡ c.failed → c.failed ≡ None → PassesTotal c bytes → e ≡ past_total c bytes
      → TakeCall c bytes d (Err e)
  taken-past e same none passes is = record {
    ok = tt;
    err = same;
    kept = λ f k. never-failed c.failed f none k;
    past = λ n p. ap (λ (z : DataError). refuses z) is;
    why = inr (inl (is, passes));
  }

  -- there was no memory
  pub taken-short : d.failed ≡ c.failed → c.failed ≡ None → (PassesTotal c bytes → ⊥)
      → TakeCall c bytes d (Err data_error.OutOfMemory)
  taken-short same none fits = record {
    ok = tt;
    err = same;
    kept = λ f k. never-failed c.failed f none k;
    past = λ n p. absurd (fits p);
    why = inr (inr refl);
  }

  -- ---- what is known of bytes that were taken in

  pub took-failed : (answer : Result TakenIn DataError) → TakeCall c bytes d answer → d.failed ≡ c.failed
  took-failed (Ok k) t = ap (λ (z : Cleaner). z.failed) t.ok.1.same
  took-failed (Err e) t = t.err

  module _ (k : TakenIn) (t : TakeCall c bytes d (Ok k)) where
    pub took-open : c.failed ≡ None
    took-open = go c.failed refl
      where
        go : (o : Option DataError) → c.failed ≡ o → o ≡ None
        go None e = refl
        go (Some x) e = absurd (no-error k x (t.kept x e))

    pub took-fits : PassesTotal c bytes → ⊥
    took-fits p = no-error k (past_total c bytes) (t.past took-open p)

    -- what the tracker is told of them
    pub took-tells : {A : Type 0} (own : DataError → Type 0) (b n : List TrackerStep) (answer : Result A DataError)
        → TellsOf (IsFor d.file_id d.size k.count) own b n answer
        → TellsOf (IsFor c.file_id c.size (length bytes)) own b n answer
    took-tells own b n answer h =
        let file : d.file_id ≡ c.file_id = ap (λ (z : Cleaner). z.file_id) t.ok.1.same in
        let size : d.size ≡ c.size = ap (λ (z : Cleaner). z.size) t.ok.1.same in
        subst (λ (x : ℕ). TellsOf (IsFor c.file_id c.size x) own b n answer) t.ok.0
        (subst (λ (o : Option ℕ). TellsOf (IsFor c.file_id o k.count) own b n answer) size
        (subst (λ (x : ℕ). TellsOf (IsFor x d.size k.count) own b n answer) file h))

    pub took-grows : {A : Type 0} (b n : List TrackerStep) (answer : Result A DataError)
        → OnOk answer (GrowsFirst d.file_id d.size k.count b n)
        → OnOk answer (GrowsFirst c.file_id c.size (length bytes) b n)
    took-grows b n answer h =
        let file : d.file_id ≡ c.file_id = ap (λ (z : Cleaner). z.file_id) t.ok.1.same in
        let size : d.size ≡ c.size = ap (λ (z : Cleaner). z.size) t.ok.1.same in
        subst (λ (x : ℕ). OnOk answer (GrowsFirst c.file_id c.size x b n)) t.ok.0
        (subst (λ (o : Option ℕ). OnOk answer (GrowsFirst c.file_id o k.count b n)) size
        (subst (λ (x : ℕ). OnOk answer (GrowsFirst x d.size k.count b n)) file h))

  -- ---- bytes that were refused are answered by a session that isn't finalized

  module _ (b n : SessionTold) (e : DataError) (t : TakeCall c bytes d (Err e)) where
    untaken-feeds : (o : Option DataError) → c.failed ≡ o → n ≡ b → b.finalized ≡ false
        → FeedsSo b n c bytes d (Err e)
    untaken-feeds (Some x) failed same fin =
        let is : e ≡ x = same-error e x (t.kept x failed) in
        feeds-kept b n c d bytes e same (took-failed (Err e) t) fin
        (failed ∙ ap (λ (z : DataError). Some z) (sym is))
    untaken-feeds None none same fin = go t.why
      where
        still : d.failed ≡ c.failed
        still = took-failed (Err e) t

        memory : e ≡ data_error.OutOfMemory → PassesTotal c bytes → ⊥
        memory is p = let q : e ≡ past_total c bytes = same-error e (past_total c bytes) (t.past none p) in
            let r = sym is ∙ q in cc

        go : (c.failed ≡ Some e) ⊎ ((e ≡ past_total c bytes) × PassesTotal c bytes) ⊎ (e ≡ data_error.OutOfMemory)
            → FeedsSo b n c bytes d (Err e)
        go (inl failed) = never-failed c.failed e none failed
        go (inr (inl p)) = feeds-past b n c d bytes e same still fin none p.1 p.0
        go (inr (inr is)) = feeds-failed b n c d bytes e (leaves-refl b n same)
            (some-still b n c.parts.own.chunks (c.pending ++ bytes) d.parts.own.chunks (Err e) same tt) still fin none
            (memory is) (chunk-memory b n e is)

    pub feeds-untaken : n ≡ b → b.finalized ≡ false → FeedsSo b n c bytes d (Err e)
    feeds-untaken = untaken-feeds c.failed refl

  pub tells-untaken : {A : Type 0} (finalized : Bool) (b n : List TrackerStep) (e : DataError)
      → TakeCall c bytes d (Err e) → n ≡ b
      → TellsOf {A = A} (IsFor c.file_id c.size (length bytes)) (IsOwnError finalized c bytes) b n (Err e)
  tells-untaken {A = A} finalized b n e t same = go t.why
    where
      Told : Type 0
      Told = TellsOf {A = A} (IsFor c.file_id c.size (length bytes)) (IsOwnError finalized c bytes) b n (Err e)

      go : (c.failed ≡ Some e) ⊎ ((e ≡ past_total c bytes) × PassesTotal c bytes) ⊎ (e ≡ data_error.OutOfMemory)
          → Told
      go (inl failed) = tells-none _ _ _ _ _ same (λ why q. inl (inr (inl failed)))
      go (inr (inl p)) = tells-none _ _ _ _ _ same (λ why q. inl (inr (inr p)))
      go (inr (inr is)) =
          let P : DataError → Type 0 = λ z. TellsOf {A = A} (IsFor c.file_id c.size (length bytes))
          (IsOwnError finalized c bytes) b n (Err z) in
          subst P (sym is) (tells-memory _ _ _ _ same)
