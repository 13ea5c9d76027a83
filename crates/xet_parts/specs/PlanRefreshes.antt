-- What asking for the URLs of a plan again does to its table, a connection and a history.
use Rattle.std.specs.Prelude.{ℕ, ◌≡◌, ◌⊎◌, Bool, true, List, [], ◌∷◌, ◌++◌, Result, OnOk, OnErr, IfErr, IsErrOf}
use Rattle.xet_outside.specs.Told.{ClientTold}
use Rattle.xet_error.specs.declared.error.FileReconstructionError.{FileReconstructionError}
use Rattle.xet_error.specs.declared.error.FileReconstructionError.TheVariants as error
use Rattle.xet_blocks.specs.declared.reconstruction_terms.file_term.TermBlock.{TermBlock}
use Rattle.xet_fetch.specs.Refreshes.{IsRefreshed, MayAsk, Refresh, RefreshCause, next_id, refresh_of}
use Rattle.xet_events.specs.declared.event.Event.{Event}
use Rattle.xet_events.specs.declared.event.Event.TheVariants.{Refreshed}
use Rattle.xet_events.specs.Events.{is_stale}

-- what is asked again for a plan
abbrev pub again : TermBlock → Bool → Refresh
again t multi = refresh_of t.urls multi t.blocks

-- the plan has the URLs of an answer to its own refresh, with the id that follows, and is else as it was
pub record TookUrls (t u : TermBlock) (before after : ClientTold) (multi : Bool) : Type 0 where
  pub answered : IsRefreshed (again t multi) before after u.urls.retrieval_urls
  pub is : u ≡ record t {
    urls = record t.urls {
      acquisition_id = next_id t.urls.acquisition_id;
      retrieval_urls = u.urls.retrieval_urls;
    };
  }

-- one call of `refresh_table` for the plan of this number
pub record RefreshPlanCall (t u : TermBlock) (before after : ClientTold) (es fs : List Event) (number : ℕ)
    (multi : Bool) (answer : Result (Unit {0}) FileReconstructionError) : Type 0 where
  -- the plan is stale, so its URLs may be asked for again
  pub stale : is_stale es number ≡ true
  pub may : MayAsk (again t multi) before after
  pub unsaid : IsErrOf answer error.ClientError → after.said ≡ before.said
  pub took : OnOk answer (TookUrls t u before after multi)
  pub recorded : OnOk answer (fs ≡ es ++ Refreshed number ∷ [])
  pub unrecorded : OnErr answer (fs ≡ es)
  -- an error leaves the plan, but where memory was wanting to record what it took
  pub kept : IfErr answer (λ e. (u ≡ t) ⊎ ((e ≡ error.OutOfMemory) × TookUrls t u before after multi))
  pub cause : IfErr answer (RefreshCause (again t multi) before after)
