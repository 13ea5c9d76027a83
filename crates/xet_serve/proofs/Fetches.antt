-- The run of one range, over one valid store.
use Rattle.std.proofs.Common.{◌≡◌, ℕ, ◌++◌, List, None, Some, Ok, Err, refl, sym, subst, ◌∙◌, ap, arith, inl, inr}
use Rattle.std.specs.Prelude.{IfOk, Result}
use Rattle.std.proofs.lemmas.Bool.{lt-ltb}
use Rattle.std.proofs.lemmas.Option.{none-some, same_Some}
use Rattle.xet_base.specs.declared.cas_types.FileRange.{FileRange}
use Rattle.xet_base.specs.declared.error.OutOfMemory.{OutOfMemory}
use Rattle.xet_base.specs.declared.merklehash.MerkleHash.{MerkleHash}
use Rattle.xet_base.specs.Store.{Store, window}
use Rattle.xet_outside.specs.Told.{SinkTold}
use Rattle.xet_error.specs.declared.error.FileReconstructionError.{FileReconstructionError}
use Rattle.xet_error.specs.declared.error.FileReconstructionError.TheVariants as error
use Rattle.xet_terms.specs.declared.reconstruction_config.ReconstructionConfig.{ReconstructionConfig}
use Rattle.xet_ties.specs.Causes.{refused_setting}
use Rattle.xet_ties.specs.Legal.{Legal}
use Rattle.xet_ties.specs.Saids.{ServedPassed}
use Rattle.xet_ties.specs.Setup.{CacheTells, IsOver, Setup, setup_of}
use Rattle.xet_serve_lines.specs.Replies.{bytes_text}
use Rattle.xet_serve.specs.declared.fetch.Fetched.{Fetched}
use Rattle.xet_serve.specs.declared.fetch.Fetched.TheVariants as fetched
use Rattle.xet_serve.specs.Sessions.{any_setup}
use Rattle.xet_serve.specs.steps.Fetching.{FailedAs, GoesOn, Lent, RangeCall, RangeDone, new_sink, run_told}
use Rattle.xet_serve.proofs.Fails.{fault_fails, late_fails}

module _ (config : ReconstructionConfig) (file : MerkleHash) (r : FileRange) (b n : Lent) (o p : SinkTold)
    (new : o ≡ new_sink) (unfailed : p.faults ≡ 0) where
  abbrev g : Setup
  g = setup_of file r config

  -- a legal answer of a run into an empty writer
  abbrev Ran : Result ℕ FileReconstructionError → Type 0
  Ran answer = Legal g (run_told b o) (run_told n p) answer

  pub run_goes : (answer : Result ℕ FileReconstructionError) → Ran answer → GoesOn b n
  run_goes answer h = record { clients = h.later.goes_on; cache = h.later.cache_later }

  -- its bytes are the window
  pub run_whole : (m : ℕ) (bytes text : List ℕ) → Ran (Ok m) → p.took ≡ Some bytes → (s : Store)
      → IsOver s b.clients → CacheTells s b.cache
      → RangeDone s config.tries file r b n text (text ++ bytes_text r.start bytes) fetched.Whole
  run_whole m bytes text h took s over tells =
      let x = h.exact.exact s over tells in
      let all : p.took ≡ Some (window s file r) = rw new at x.took in
      let same : bytes ≡ window s file r = same_Some bytes (window s file r) (sym took ∙ all) in
      (x.stored, ap (λ (w : List ℕ). text ++ bytes_text r.start w) same)

  -- an error comes by its cause
  pub run_failed : (e : FileReconstructionError) (f : Fetched) (text now : List ℕ) → Ran (Err e) → FailedAs e f
      → refused_setting (any_setup config) b.clients ≡ None → (s : Store) → IsOver s b.clients → CacheTells s b.cache
      → RangeDone s config.tries file r b n text now f
  run_failed error.OutOfMemory f text now h a met s over tells = absurd a
  run_failed error.ClientError f text now h a met s over tells =
      subst (RangeDone s config.tries file r b n text now) (sym a) (
        inl refl,
        fault_fails config.tries (ServedPassed g h.told.heard) b.clients n.clients h.told.heard
            h.later.goes_on h.cause,
      )
  run_failed error.FileNotFound f text now h a met s over tells =
      subst (RangeDone s config.tries file r b n text now) (sym a)
      (lt-ltb r.start r.end h.cause.some, h.cause.unstored s over.tell)
  run_failed error.UrlExpired f text now h a met s over tells =
      subst (RangeDone s config.tries file r b n text now) (sym a)
      (inr refl, late_fails config.tries b.clients n.clients h.told.heard h.later.goes_on h.cause)
  run_failed error.IoError f text now h a met s over tells =
      let c = h.cause in let z = ap (λ (t : SinkTold). t.faults) new in absurd (omega (arith, c, z, unfailed))
  run_failed (error.CorruptedReconstruction k) f text now h a met s over tells = absurd (h.cause.untrue s over)
  run_failed (error.ConfigurationError e) f text now h a met s over tells =
      absurd (none-some e (sym met ∙ h.cause))
  run_failed error.Cancelled f text now h a met s over tells = let c = h.cause in absurd (omega (arith, c))
  run_failed (error.InternalWriterError w) f text now h a met s over tells = absurd h.cause

  -- ---- a fetch, by what the run answered

  pub range_whole : (m : ℕ) (bytes text now : List ℕ) → Ran (Ok m) → p.took ≡ Some bytes
      → now ≡ text ++ bytes_text r.start bytes → RangeCall config.tries file r b n text now (Ok fetched.Whole)
  range_whole m bytes text now h took is = record {
    goes_on = run_goes (Ok m) h;
    done = λ s over tells.
        subst (λ (l : List ℕ). RangeDone s config.tries file r b n text l fetched.Whole) (sym is)
        (run_whole m bytes text h took s over tells);
  }

  pub range_short : (answer : Result ℕ FileReconstructionError) (text now : List ℕ) (e : OutOfMemory) → Ran answer
      → RangeCall config.tries file r b n text now (Err e)
  range_short answer text now e h = record { goes_on = run_goes answer h; done = λ s over tells. tt }

  pub range_failed : (e : FileReconstructionError) (text now : List ℕ) (answer : Result Fetched OutOfMemory)
      → Ran (Err e) → IfOk answer (FailedAs e) → refused_setting (any_setup config) b.clients ≡ None
      → RangeCall config.tries file r b n text now answer
  range_failed e text now (Ok f) h a met = record {
    goes_on = run_goes (Err e) h;
    done = λ s over tells. run_failed e f text now h a met s over tells;
  }
  range_failed e text now (Err v) h a met = range_short (Err e) text now v h
