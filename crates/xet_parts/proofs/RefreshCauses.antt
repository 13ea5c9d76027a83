-- The causes of the errors of asking for a plan's URLs again.
use Rattle.std.proofs.Common.{◌≡◌, ℕ, ◌<◌, Bool, true, false, cond, List, [], ◌∷◌, length, Option, Some, None, Err, refl, subst, sym}
use Rattle.std.specs.Prelude.{nat_eq, option_map}
use Rattle.xet_base.specs.declared.cas_types.FileRange.{FileRange}
use Rattle.xet_base.specs.Store.{Store}
use Rattle.xet_outside.specs.declared.plan.Plan.{Plan}
use Rattle.xet_outside.specs.declared.plan.PlanAnswer.{PlanAnswer}
use Rattle.xet_outside.specs.declared.plan.PlanAnswer.TheVariants.{Found, NoFile, PastEnd}
use Rattle.xet_outside.specs.declared.said.Said.TheVariants as said
use Rattle.xet_outside.specs.Plan.{shape}
use Rattle.xet_outside.specs.Told.{ClientTold, IsHonest}
use Rattle.xet_error.specs.declared.error.Corruption.{Corruption}
use Rattle.xet_error.specs.declared.error.Corruption.TheVariants.{RefreshPastEnd}
use Rattle.xet_error.specs.declared.error.FileReconstructionError.{FileReconstructionError}
use Rattle.xet_error.specs.declared.error.FileReconstructionError.TheVariants as error
use Rattle.xet_blocks.specs.declared.reconstruction_terms.file_term.TermBlock.{TermBlock}
use Rattle.xet_offers.specs.PlanChecks.{covered}
use Rattle.xet_blocks.specs.TermBlockCalls.{QueryAnswered}
use Rattle.xet_fetch.specs.Refreshes.{Extent, MayAsk, Refresh, RefreshCause, failed_refresh, plan_extents, refusal_of}
use Rattle.xet_events.specs.declared.event.Event.{Event}
use Rattle.xet_events.specs.Events.{is_stale}
use Rattle.xet_ties.specs.History.{range_at}
use Rattle.xet_ties.specs.Saids.{InStep, IsPlanAccepted}
use Rattle.xet_ties.specs.Setup.{IsOver, RunTold, Setup}
use Rattle.xet_ties.specs.Moves.{heard_first}
use Rattle.xet_ties.specs.PartCalls.{AskedSaid, AskedShort, plan_refresh}
use Rattle.xet_ties.specs.Ties.{IsQuiet, Slack, Ties}
use Rattle.xet_ties.proofs.CallerLemmas.{accepted_more, grew_first, refresh_fails, refresh_said, refresh_short}
use Rattle.xet_parts.specs.PlanRefreshes.{RefreshPlanCall, again}
use Rattle.xet_parts.proofs.AskCauses.{AskedCause, failed_cause, missing_cause, rose_cause, said_cause, short_cause}

-- the only answer by which a file is missing
refused_missing : (q : FileRange) (multi : Bool) (bs : List Extent) (a : PlanAnswer) → refusal_of q multi bs a ≡ Some error.FileNotFound → a ≡ NoFile
refused_missing q multi bs NoFile h = refl
refused_missing q multi bs PastEnd h = absurd (cc)
refused_missing q multi bs (Found p) h = absurd (by (nat_eq (length p.terms) 0) (failed_refresh q multi bs (shape p)) h)
  where
    by : (v : Bool) (o : Option Corruption)
        → cond {A = Option FileReconstructionError} v (Some (error.CorruptedReconstruction RefreshPastEnd)) (option_map (λ k. error.CorruptedReconstruction k) o) ≡ Some error.FileNotFound → ⊥
    by true o e = cc
    by false None e = cc
    by false (Some k) e = cc

-- what is asked again is what the plan's own refresh asks
plan_cause : (g : Setup) (b at : RunTold) (es : List Event) (sl : Slack) (number : ℕ) (p : Plan) (q : FileRange) (c n : ClientTold) (cs : List ClientTold) (e : FileReconstructionError)
    → at.clients ≡ c ∷ cs → MayAsk (plan_refresh g p q) c n → RefreshCause (plan_refresh g p q) c n e → sl.lost ≡ [] → InStep sl.heard → IsQuiet b.clients sl → range_at es number ≡ covered (shape p) q ∷ [] → is_stale es number ≡ true → g.range.start < g.range.end
    → IsPlanAccepted g sl.heard p q
    → ((s : Store) → IsOver s b.clients → (a : PlanAnswer) → IsHonest s g.file (covered (shape p) q) a → refusal_of (covered (shape p) q) g.multirange (plan_extents (shape p) g.multirange) a ≡ None)
    → Ties g b at es None sl → AskedShort g b at es sl (n ∷ cs) → AskedCause g b at es sl (n ∷ cs) e
plan_cause g b at es sl number p q c n cs error.OutOfMemory is may h none step quiet at_range stale some accepted honest t short = short_cause g b at es sl (n ∷ cs) error.OutOfMemory quiet short (λ v. v) (λ xs told passed. tt)
plan_cause g b at es sl number p q c n cs error.ClientError is may h none step quiet at_range stale some accepted honest t short = short_cause g b at es sl (n ∷ cs) error.ClientError quiet short (λ v. v) (rose_cause g b at es sl c n cs is t h)
plan_cause g b at es sl number p q c n cs error.FileNotFound is may h none step quiet at_range stale some accepted honest t short =
    let r = plan_refresh g p q in
    let no_file : h.answer ≡ NoFile = refused_missing r.range r.multirange r.blocks h.answer h.refused in
    let own = subst (AskedSaid g b at es sl (n ∷ cs) r.range) no_file (refresh_said g b at es sl number r c n cs h.answer is none step may h.answered at_range stale refl t) in
    said_cause g b at es sl (n ∷ cs) r.range NoFile error.FileNotFound own quiet
    (missing_cause g b at es sl c n cs r.range is t some (subst (QueryAnswered c n (g.file, r.range)) no_file h.answered) own)
plan_cause g b at es sl number p q c n cs error.UrlExpired is may h none step quiet at_range stale some accepted honest t short = absurd h
plan_cause g b at es sl number p q c n cs error.IoError is may h none step quiet at_range stale some accepted honest t short = absurd h
plan_cause g b at es sl number p q c n cs (error.CorruptedReconstruction k) is may h none step quiet at_range stale some accepted honest t short =
    let r = plan_refresh g p q in
    let heard = heard_first ((g.file, r.range) ∷ []) (said.Plan h.answer ∷ []) sl.heard in
    let said_now = refresh_said g b at es sl number r c n cs h.answer is none step may h.answered at_range stale refl t in
    said_cause g b at es sl (n ∷ cs) r.range h.answer (error.CorruptedReconstruction k) said_now quiet
    (failed_cause g b at es sl c n cs r.range h.answer k is t quiet h.answered said_now
    (λ s over true_of. let unrefused = honest s over h.answer true_of in let refused = h.refused in cc)
    (refresh_fails g heard p q h.answer k (accepted_more g sl.heard heard p q (grew_first ((g.file, r.range) ∷ []) (said.Plan h.answer ∷ []) sl.heard) accepted) said_now.own h.refused))
plan_cause g b at es sl number p q c n cs (error.ConfigurationError k) is may h none step quiet at_range stale some accepted honest t short = absurd h
plan_cause g b at es sl number p q c n cs error.Cancelled is may h none step quiet at_range stale some accepted honest t short = absurd h
plan_cause g b at es sl number p q c n cs (error.InternalWriterError k) is may h none step quiet at_range stale some accepted honest t short = absurd h

-- each error of a refresh of an accepted plan has its cause, where a valid store's answers to it are not refused
pub refresh_cause : (g : Setup) (b at : RunTold) (es fs : List Event) (sl : Slack) (number : ℕ) (t u : TermBlock) (multi : Bool) (p : Plan) (q : FileRange) (c n : ClientTold) (cs : List ClientTold) (e : FileReconstructionError)
    → at.clients ≡ c ∷ cs → RefreshPlanCall t u c n es fs number multi (Err e) → again t multi ≡ plan_refresh g p q → sl.lost ≡ [] → InStep sl.heard → IsQuiet b.clients sl → range_at es number ≡ covered (shape p) q ∷ [] → g.range.start < g.range.end
    → IsPlanAccepted g sl.heard p q
    → ((s : Store) → IsOver s b.clients → (a : PlanAnswer) → IsHonest s g.file (covered (shape p) q) a → refusal_of (covered (shape p) q) g.multirange (plan_extents (shape p) g.multirange) a ≡ None)
    → Ties g b at es None sl → AskedCause g b at fs sl (n ∷ cs) e
refresh_cause g b at es fs sl number t u multi p q c n cs e is call same none step quiet at_range some accepted honest ties =
    let may = subst (λ (r : Refresh). MayAsk r c n) same call.may in
    subst (λ (l : List Event). AskedCause g b at l sl (n ∷ cs) e) (sym call.unrecorded)
    (plan_cause g b at es sl number p q c n cs e is may (subst (λ (r : Refresh). RefreshCause r c n e) same call.cause) none step quiet at_range call.stale some accepted honest ties
    (refresh_short g b at es sl number (plan_refresh g p q) c n cs is none may at_range call.stale refl ties))
