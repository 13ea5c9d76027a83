-- Where nothing that a run is lent fails, it answers Ok, or want of memory.
use Rattle.std.proofs.Common.{◌≡◌, true, false, Some, None, Ok, Err, List, Option, refl, sym, ◌∙◌, arith, ⊎_elim}
use Rattle.std.specs.Prelude.{IsNone, IsSome}
use Rattle.xet_base.specs.Store.{file_of}
use Rattle.xet_error.specs.declared.error.FileReconstructionError.{FileReconstructionError}
use Rattle.xet_error.specs.declared.error.FileReconstructionError.TheVariants as error
use Rattle.xet_ties.specs.Causes.{Cause}
use Rattle.xet_ties.specs.InCall.{Exchange}
use Rattle.xet_ties.specs.Saids.{ServedPassed}
use Rattle.xet_ties.proofs.CallerLemmas.{some_rose}
use Rattle.xet_ties.specs.RunCalls.{IsLocal}
use Rattle.xet_ties.specs.Setup.{IsEmptyRange, RunTold, Setup}
use Rattle.xet_reconstruct.specs.Completeness.{HaveFile, LegalIsComplete, NothingFails}

not_both : {A : Type 0} (o : Option A) → IsSome o → IsNone o → ⊥
not_both None s n = let z : false ≡ true = s in cc
not_both (Some x) s n = let z : true ≡ false = n in cc

-- over a store that has the file no other error has a cause
no_cause : (g : Setup) (xs : List Exchange) (b n : RunTold) (e : FileReconstructionError) → HaveFile g b.clients
    → NothingFails g b n → Cause g xs b n e → e ≡ error.OutOfMemory
no_cause g xs b n error.OutOfMemory h f c = refl
no_cause g xs b n error.ClientError h f c = absurd (f.clients (some_rose (ServedPassed g xs) b.clients n.clients xs c))
no_cause g xs b n error.FileNotFound h f c = absurd (not_both (file_of h.store g.file) h.stored (c.unstored h.store h.over.tell))
no_cause g xs b n error.UrlExpired h f c = let t = c.counted f.counts in let e = f.expiries in absurd (omega (arith, t, e))
no_cause g xs b n error.IoError h f c = absurd (f.sink c)
no_cause g xs b n (error.CorruptedReconstruction k) h f c = absurd (c.untrue h.store h.over)
no_cause g xs b n (error.ConfigurationError k) h f c = absurd (let z : None ≡ Some k = sym f.settings ∙ c in cc)
no_cause g xs b n error.Cancelled h f c = absurd (f.signal c)
no_cause g xs b n (error.InternalWriterError k) h f c = absurd c

-- over an empty range none comes that needs a connection
no_local : (g : Setup) (xs : List Exchange) (b n : RunTold) (e : FileReconstructionError) → IsLocal e
    → NothingFails g b n → Cause g xs b n e → e ≡ error.OutOfMemory
no_local g xs b n error.OutOfMemory i f c = refl
no_local g xs b n error.ClientError i f c = absurd i
no_local g xs b n error.FileNotFound i f c = absurd i
no_local g xs b n error.UrlExpired i f c = absurd i
no_local g xs b n error.IoError i f c = absurd (f.sink c)
no_local g xs b n (error.CorruptedReconstruction k) i f c = absurd i
no_local g xs b n (error.ConfigurationError k) i f c = absurd (let z : None ≡ Some k = sym f.settings ∙ c in cc)
no_local g xs b n error.Cancelled i f c = absurd i
no_local g xs b n (error.InternalWriterError k) i f c = absurd i

pub legal_complete : LegalIsComplete
legal_complete g b n (Ok k) l f = tt
legal_complete g b n (Err e) l f =
    ⊎_elim
    (λ (h : HaveFile g b.clients). no_cause g l.told.heard b n e h f l.cause)
    (λ (r : IsEmptyRange g.range). no_local g l.told.heard b n e (l.first.empty r).error f l.cause)
    f.stored
