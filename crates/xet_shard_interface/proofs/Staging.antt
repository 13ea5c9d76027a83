-- A record that waits for staging, or goes there with all that wait.
use Rattle.std.proofs.Common.{◌≡◌, ℕ, inl, inr, true, false, refl, sym, ◌∙◌, ap, subst, arith}
use Rattle.std.specs.Prelude.{Option, Some, None, IsSome, Result, Ok, Err, option_map}
use Rattle.std.proofs.lemmas.Bool.{false≢true}
use Rattle.xet_base.specs.declared.mdb_shard.MDBXorbInfo.{MDBXorbInfo}
use Rattle.xet_upload.specs.declared.data_error.DataError.{DataError}
use Rattle.xet_upload.specs.declared.data_error.DataError.TheVariants as data_error
use Rattle.xet_shard_interface.specs.Interfaces.{Flushes, InterfaceTold, StagesXorb, is_due, with_staged}

still-some : {A B : Type 0} (f : A → B) (o : Option A) (p : Option B) → p ≡ option_map f o → IsSome o → IsSome p
still-some f None p e s = absurd (false≢true s)
still-some f (Some x) p e s = rw e refl

-- a dry run keeps none
pub stages-dry : (b : InterfaceTold) (x : MDBXorbInfo) (now : ℕ) → b.rules.dry_run ≡ true → StagesXorb b b x now (Ok tt)
stages-dry b x now d = record {
  dry = λ q. (refl, refl);
  same = refl;
  tells = λ q. q;
  waits = λ q r. absurd (false≢true (sym q ∙ d));
  flushed = λ q r. absurd (false≢true (sym q ∙ d));
  kept = tt;
  faults = omega arith;
  why = tt;
}

module _ (b n : InterfaceTold) (x : MDBXorbInfo) (now : ℕ) (live : b.rules.dry_run ≡ false) where
  -- there was no memory to keep it
  pub stages-memory : n ≡ b → StagesXorb b n x now (Err data_error.OutOfMemory)
  stages-memory e =
      let P : InterfaceTold → Type 0 = λ m. StagesXorb b m x now (Err data_error.OutOfMemory) in
      subst P (sym e) (record {
        dry = λ q. absurd (false≢true (sym live ∙ q));
        same = refl;
        tells = λ q. q;
        waits = λ q r. tt;
        flushed = λ q r. tt;
        kept = record { same = inl refl; records = refl };
        faults = omega arith;
        why = inl refl;
      })

  -- it waits
  pub stages-waits : n ≡ with_staged b x → is_due n now ≡ false → StagesXorb b n x now (Ok tt)
  stages-waits e due =
      let P : InterfaceTold → Type 0 = λ m. is_due m now ≡ false → StagesXorb b m x now (Ok tt) in
      subst P (sym e) (λ later. record {
        dry = λ q. absurd (false≢true (sym live ∙ q));
        same = refl;
        tells = λ q. q;
        waits = λ q r. refl;
        flushed = λ q r. absurd (false≢true (sym later ∙ r));
        kept = tt;
        faults = omega arith;
        why = tt;
      }) due

  -- all that wait are sent
  pub stages-flushed : (m : InterfaceTold) → m ≡ with_staged b x → is_due m now ≡ true → (a : Result (Unit {0}) DataError) → Flushes m n now a → StagesXorb b n x now a
  stages-flushed m e due a f =
      let P : InterfaceTold → Type 0 = λ k. is_due k now ≡ true → Flushes k n now a → StagesXorb b n x now a in
      subst P (sym e) (λ is h. by is a h) due f
    where
      by : is_due (with_staged b x) now ≡ true → (a : Result (Unit {0}) DataError) → Flushes (with_staged b x) n now a → StagesXorb b n x now a
      by is (Ok w) h = record {
        dry = λ q. absurd (false≢true (sym live ∙ q));
        same = h.ok ∙ ap (λ (j : InterfaceTold). record b { staging = j.staging; staged = j.staged; flushed = j.flushed }) (sym h.ok);
        tells = still-some _ b.staging.records n.staging.records h.staged;
        waits = λ q r. absurd (false≢true (sym r ∙ is));
        flushed = λ q r. h;
        kept = tt;
        faults = h.faults;
        why = tt;
      }
      by is (Err g) h = record {
        dry = λ q. absurd (false≢true (sym live ∙ q));
        same = h.err ∙ ap (λ (j : InterfaceTold). record b { staging = j.staging; staged = j.staged; flushed = j.flushed }) (sym h.err);
        tells = λ q. rw h.kept q;
        waits = λ q r. tt;
        flushed = λ q r. tt;
        kept = record { same = inr h.err; records = h.kept };
        faults = h.faults;
        why = h.why;
      }
