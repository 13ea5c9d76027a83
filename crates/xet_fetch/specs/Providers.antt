-- What the calls of a provider of URLs say.
use Rattle.std.specs.Prelude.{ℕ, ◌≡◌, Bool, List, Some, Result, IfOk, IfErr, slice_get}
use Rattle.xet_base.specs.declared.unique_id.UniqueId.{UniqueId}
use Rattle.xet_outside.specs.Told.{ClientTold}
use Rattle.xet_error.specs.declared.error.FileReconstructionError.{FileReconstructionError}
use Rattle.xet_error.specs.declared.error.FileReconstructionError.TheVariants as error
use Rattle.xet_offers.specs.declared.reconstruction_terms.retrieval_urls.RetrievalUrl.{RetrievalUrl}
use Rattle.xet_offers.specs.declared.reconstruction_terms.retrieval_urls.TermBlockRetrievalURLs.{TermBlockRetrievalURLs}
use Rattle.xet_offers.specs.declared.reconstruction_terms.xorb_block.XorbBlock.{XorbBlock}
use Rattle.xet_requests.specs.Refreshes.{RefreshCall}

-- a URL of the table was handed out, and its id is the last one then
pub record HandedCall (t : TermBlockRetrievalURLs) (index : ℕ) (before now : UniqueId)
    (answer : Result RetrievalUrl FileReconstructionError) : Type 0 where
  pub url : IfOk answer (λ u. (slice_get t.retrieval_urls index ≡ Some u) × (now ≡ t.acquisition_id))
  pub error : IfErr answer (λ e. (e ≡ error.OutOfMemory) × (now ≡ before))

-- a refresh by the last id
abbrev pub RefreshedCall : TermBlockRetrievalURLs → TermBlockRetrievalURLs → ClientTold → ClientTold → UniqueId
    → List XorbBlock → Bool → Result (Unit {0}) FileReconstructionError → Type 0
RefreshedCall t u before after last xs multi answer = RefreshCall t u before after last xs multi answer

-- a refresh fails for want of memory, by a fault, or by an answer: there is no such file, or a test fails
abbrev pub IsRefreshError : FileReconstructionError → Type 0
IsRefreshError error.OutOfMemory = Unit {0}
IsRefreshError error.ClientError = Unit {0}
IsRefreshError error.FileNotFound = Unit {0}
IsRefreshError error.UrlExpired = ⊥
IsRefreshError error.IoError = ⊥
IsRefreshError (error.CorruptedReconstruction k) = Unit {0}
IsRefreshError (error.ConfigurationError s) = ⊥
IsRefreshError error.Cancelled = ⊥
IsRefreshError (error.InternalWriterError w) = ⊥
