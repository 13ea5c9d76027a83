-- What a session leaves of its log, and of the records that it holds, where the data of a file is taken.
use Rattle.std.proofs.Common.{◌≡◌, ℕ, ◌<◌, ◌⊎◌, inl, inr, List, [], ◌∷◌, ◌++◌, length, map, refl, sym, ◌∙◌, ap, subst, arith}
use Rattle.std.specs.Prelude.{All, Contains, None, Result, Ok, Err}
use Rattle.std.proofs.lemmas.List.Elements.{All-nil}
use Rattle.xet_base.specs.Store.{Store}
use Rattle.xet_uploader.specs.declared.uploader.Put.{Put}
use Rattle.xet_uploader.specs.declared.uploader.Put.TheVariants as put
use Rattle.xet_upload.specs.Standing.{world}
use Rattle.xet_upload.specs.Waitings.{Waiting, merged, xorb_of_chunks}
use Rattle.xet_upload.specs.declared.data_error.DataError.{DataError}
use Rattle.xet_upload_parts.specs.Storable.{IsStorable}
use Rattle.xet_upload_session.specs.Completions.{CutsFile, CutsWaiting, Joins, TakesFile, with_waiting}
use Rattle.xet_upload_session.specs.Sessions.{SessionTold, Stands, Tells, log_of}
use Rattle.xet_upload_session.specs.Sounds.{IsSound}
use Rattle.xet_clean_parts.specs.Premises.{HashesAgree}
use Rattle.xet_upload_laws.specs.AllStand.{HoldsRecords}
use Rattle.xet_upload_laws.specs.RecordsStand.{AreWaiting}
use Rattle.xet_upload_laws.proofs.Cuts.{GrewByOne, cut-any-held, cut-log}
use Rattle.xet_upload_laws.proofs.Records.{waiting-grown, waiting-merged}

-- the log is as it was, or has one more xorb, of chunks that can be stored
pub record GrewStorable (b n : SessionTold) : Type 0 where
  pub chunks : List (List ℕ)
  pub storable : IsStorable chunks
  pub grew : GrewByOne b n (xorb_of_chunks chunks)

pub still-storable : (b n : SessionTold) → log_of n ≡ log_of b → GrewStorable b n
still-storable b n e = record {
  chunks = [];
  storable = record { some = All-nil (λ (c : List ℕ). 0 < length c); within = (omega arith, omega arith) };
  grew = inl e;
}

module _ (b n : SessionTold) (w : Waiting) (now : ℕ) (tells : Tells b) where
  aside_tells : Tells (with_waiting b w)
  aside_tells = record { puts = tells.puts; shards = tells.shards }

  -- what grew a middle session grew the one that has its log
  grew-same : (a m : SessionTold) (cs : List (List ℕ)) → log_of a ≡ log_of b → log_of n ≡ log_of m
      → GrewByOne a m (xorb_of_chunks cs) → GrewByOne b n (xorb_of_chunks cs)
  grew-same a m cs first last (inl e) = inl (last ∙ e ∙ first)
  grew-same a m cs first last (inr e) = inr (last ∙ e ∙ ap (λ (log : List Put). log ++ put.Xorb (xorb_of_chunks cs) ∷ [])
      first)

  file-grew : (answer : Result (Unit {0}) DataError) → CutsFile b n w now answer → GrewStorable b n
  file-grew answer c = record {
    chunks = w.chunks;
    storable = c.cut.storable;
    grew = grew-same (with_waiting b w) c.middle w.chunks refl (ap log_of c.same)
        (cut-log (with_waiting b w) c.middle now answer aside_tells c.cut);
  }

  waiting-grew : (answer : Result (Unit {0}) DataError) → CutsWaiting b n w now answer → GrewStorable b n
  waiting-grew answer c = record {
    chunks = b.waiting.chunks;
    storable = c.cut.storable;
    grew = grew-same b c.middle b.waiting.chunks refl (last answer c) (cut-log b c.middle now answer tells c.cut);
  }
    where
      last : (a : Result (Unit {0}) DataError) (d : CutsWaiting b n w now a) → log_of n ≡ log_of d.middle
      last (Ok u) d = ap log_of d.ok
      last (Err e) d = ap log_of d.err

  pub take-grew : (answer : Result (Unit {0}) DataError) → TakesFile b n w now answer → GrewStorable b n
  take-grew answer t = go t.exits
    where
      joined : (a : Result (Unit {0}) DataError) → Joins b n w a → log_of n ≡ log_of b
      joined (Ok u) j = ap log_of j.ok
      joined (Err e) j = ap log_of j.err

      go : Joins b n w answer ⊎ CutsFile b n w now answer ⊎ CutsWaiting b n w now answer → GrewStorable b n
      go (inl j) = still-storable b n (joined answer j)
      go (inr (inl c)) = file-grew answer c
      go (inr (inr c)) = waiting-grew answer c

-- ---- what is held

module _ (k : Store) (b n : SessionTold) (w : Waiting) (now : ℕ) (tells : Tells b) (agree : HashesAgree k n)
    (sound : IsSound k b) (stands : Stands b) (listed : All (Contains b.listed) b.registered) (open_now : n.failed ≡ None)
    (h : HoldsRecords k b) (a : AreWaiting (world k (log_of b)) w) where
  joins-held : (answer : Result (Unit {0}) DataError) → Joins b n w answer → HoldsRecords k n
  joins-held (Err e) j = subst (λ (t : SessionTold). HoldsRecords k t) (sym j.err) h
  joins-held (Ok u) j = subst (λ (t : SessionTold). HoldsRecords k t) (sym j.ok) joined
    where
      joined : HoldsRecords k (with_waiting b (merged b.waiting w))
      joined = record {
        waiting = waiting-merged (world k (log_of b)) b.waiting w j.fits.within h.waiting a;
        finished = h.finished;
        recorded = h.recorded;
      }

  file-held : (answer : Result (Unit {0}) DataError) → CutsFile b n w now answer → HoldsRecords k n
  file-held answer c = subst (λ (t : SessionTold). HoldsRecords k t) (sym c.same) kept
    where
      begun : HoldsRecords k (with_waiting b w)
      begun = record { waiting = a; finished = h.finished; recorded = h.recorded }

      agree_middle : HashesAgree k c.middle
      agree_middle = subst (λ (t : SessionTold). HashesAgree k t) c.same agree

      none : c.middle.failed ≡ None
      none = sym (ap (λ (t : SessionTold). t.failed) c.same) ∙ open_now

      cut : HoldsRecords k c.middle
      cut = cut-any-held k (with_waiting b w) c.middle now (aside_tells b n w now tells) c.cut.keeps agree_middle begun
          sound stands listed answer none c.cut

      kept : HoldsRecords k (with_waiting c.middle b.waiting)
      kept =
          let g = c.cut.keeps.grew (aside_tells b n w now tells) in
          record {
            waiting = waiting-grown k (log_of b) (log_of c.middle) (map put.Xorb g.xorbs) g.grown b.waiting h.waiting;
            finished = cut.finished;
            recorded = cut.recorded;
          }

  waiting-held : (answer : Result (Unit {0}) DataError) → CutsWaiting b n w now answer → HoldsRecords k n
  waiting-held (Ok u) c = subst (λ (t : SessionTold). HoldsRecords k t) (sym c.ok) kept
    where
      cut : HoldsRecords k c.middle
      cut = cut-any-held k b c.middle now tells c.cut.keeps (subst (λ (t : SessionTold). HashesAgree k t) c.ok agree) h
          sound stands listed (Ok u) (sym (ap (λ (t : SessionTold). t.failed) c.ok) ∙ open_now) c.cut

      kept : HoldsRecords k (with_waiting c.middle w)
      kept =
          let g = c.cut.keeps.grew tells in
          record {
            waiting = waiting-grown k (log_of b) (log_of c.middle) (map put.Xorb g.xorbs) g.grown w a;
            finished = cut.finished;
            recorded = cut.recorded;
          }
  waiting-held (Err e) c = subst (λ (t : SessionTold). HoldsRecords k t) (sym c.err) (cut-any-held k b c.middle now
      tells c.cut.keeps (subst (λ (t : SessionTold). HashesAgree k t) c.err agree) h sound stands listed (Err e)
      (sym (ap (λ (t : SessionTold). t.failed) c.err) ∙ open_now) c.cut)

  pub take-held : (answer : Result (Unit {0}) DataError) → TakesFile b n w now answer → HoldsRecords k n
  take-held answer t = go t.exits
    where
      go : Joins b n w answer ⊎ CutsFile b n w now answer ⊎ CutsWaiting b n w now answer → HoldsRecords k n
      go (inl j) = joins-held answer j
      go (inr (inl c)) = file-held answer c
      go (inr (inr c)) = waiting-held answer c
