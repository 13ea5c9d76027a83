-- The causes of the errors of asking for a plan.
use Rattle.std.proofs.Common.{◌≡◌, ℕ, ◌+◌, ◌<◌, ◌≤◌, false, List, [], ◌∷◌, ◌++◌, length, Option, Some, None, Err, sym, subst, ◌∙◌, ap, arith, inl, ⊎_elim}
use Rattle.std.specs.Prelude.{All}
use Rattle.std.proofs.lemmas.List.Elements.{All-head}
use Rattle.xet_base.specs.declared.cas_types.FileRange.{FileRange}
use Rattle.xet_base.specs.declared.unique_id.UniqueId.{UniqueId}
use Rattle.xet_base.specs.Store.{IsValid, Store}
use Rattle.xet_outside.specs.declared.plan.PlanAnswer.{PlanAnswer}
use Rattle.xet_outside.specs.declared.plan.PlanAnswer.TheVariants.{Found, NoFile, PastEnd}
use Rattle.xet_outside.specs.declared.plan.PlanTerm.{PlanTerm}
use Rattle.xet_outside.specs.declared.said.Said.{Said}
use Rattle.xet_outside.specs.declared.said.Said.TheVariants as said
use Rattle.xet_outside.specs.declared.served.Served.{Served}
use Rattle.xet_outside.specs.Plan.{Shape, shape}
use Rattle.xet_outside.specs.Told.{ClientTold, IsHonest, Query, Rose}
use Rattle.xet_error.specs.declared.error.Corruption.{Corruption}
use Rattle.xet_error.specs.declared.error.FileReconstructionError.{FileReconstructionError}
use Rattle.xet_error.specs.declared.error.FileReconstructionError.TheVariants as error
use Rattle.xet_blocks.specs.declared.reconstruction_terms.file_term.TermBlock.{TermBlock}
use Rattle.xet_offers.specs.PlanChecks.{failed_test}
use Rattle.xet_blocks.specs.TermBlockCalls.{Answer, FromAnswer, FromSaid, FromTerms, FromTested, QueryAnswered, TermBlockCause, TermBlockCall}
use Rattle.xet_blocks.proofs.CallerLemmas.{honest_accepted}
use Rattle.xet_events.specs.declared.event.Event.{Event}
use Rattle.xet_events.specs.Events.{plan_count}
use Rattle.xet_history.specs.Queries.{CutFrom}
use Rattle.xet_history.specs.TrueHistory.{queries}
use Rattle.xet_terms.specs.Managers.{IsManager, Manager, PassesKnownEnd}
use Rattle.xet_ties.specs.Causes.{Cause, LowestRose, SomeFailed}
use Rattle.xet_ties.specs.InCall.{EachExchange, Exchange, Place}
use Rattle.xet_ties.specs.Saids.{AllPassed, InStep, ServedPassed}
use Rattle.xet_ties.specs.Setup.{AllTell, IsOver, RunTold, Setup}
use Rattle.xet_ties.specs.Moves.{heard_first}
use Rattle.xet_ties.specs.PartCalls.{AskedSaid, plan_query, AskedShort}
use Rattle.xet_ties.specs.Ties.{IsQuiet, IsFaultless, CutsRange, EachLane, Slack, Ties, IsNextQuery}
use Rattle.xet_ties.proofs.CallerLemmas.{all_passed, ask_said, asked_own, corrupted, file_missing, first_tells, plan_fails, missing_file, ask_short}
use Rattle.xet_parts.proofs.AskTies.{ask_fails_ties}
use Rattle.xet_parts.specs.PlanAsks.{AskPlanCall, PlanFails, QueryFails}

-- ---- counts

-- the faults of the first connection rose since the start, where they rose in a call
pub first_rose : (Q : Exchange → Type 0) (es : List Event) (bs : List ClientTold) (c n : ClientTold)
    (cs : List ClientTold) (hs : List (List Served)) (ks : List (List Place)) (xs : List Exchange)
    → EachLane es 0 bs (c ∷ cs) hs ks → Rose c.faults n.faults → EachExchange bs (n ∷ cs) xs → All Q xs
    → LowestRose Q bs (n ∷ cs) xs
first_rose Q es [] c n cs hs ks xs t r told all = absurd t
first_rose Q es (b ∷ bs) c n cs [] ks xs t r told all = absurd t
first_rose Q es (b ∷ bs) c n cs (h ∷ hs) [] xs t r told all = absurd t
first_rose Q es (b ∷ bs) c n cs (h ∷ hs) (k ∷ ks) [] t r told all = absurd told
first_rose Q es (b ∷ bs) c n cs (h ∷ hs) (k ∷ ks) (x ∷ xs) t r told all =
    (All-head Q x xs all, inl (rose b.faults c.faults n.faults t.0.goes_on.faults r))
  where
    rose : (x y z : ℕ) → x ≤ y → Rose y z → Rose x z
    rose x y z a h = omega arith

-- ---- a query of the cut

cut_within : (qs : List FileRange) (place end bound : ℕ) (q : FileRange) → CutFrom place end bound (qs ++ q ∷ []) → (place ≤ q.start) × (q.start < q.end) × (q.end ≤ end)
cut_within [] place end bound q c = let at = c.0 in (omega (arith, at), c.1, c.2)
cut_within (r ∷ qs) place end bound q c = let at = c.0 in let some = c.1 in let h = cut_within qs r.end end bound q c.4 in let low = h.0 in (omega (arith, at, some, low), h.1, h.2)

-- it lies in the range, and isn't empty
pub query_within : (g : Setup) (qs : List FileRange) (q : FileRange) → CutsRange g (qs ++ q ∷ []) → (g.range.start ≤ q.start) × (q.start < q.end) × (q.end ≤ g.range.end)
query_within g qs q c = cut_within qs g.range.start g.range.end (g.greatest + g.least) q c.from

-- no answer to it passes the known end, while no plan ended early
pub none_passes : (m : Manager) (q : FileRange) (t : Option TermBlock) → IsManager m → m.ended ≡ false → q.start < q.end → q.end ≤ m.range.end → PassesKnownEnd m q t → ⊥
none_passes m q None x unended some within p = p
none_passes m q (Some b) x unended some within p = let known = x.still_open unended in let fits = x.range_fits in absurd (omega (arith, known, fits, some, within, p))

-- ---- over a valid store

-- an honest plan fails no test
pub honest_passes : (s : Store) → IsValid s → (g : Setup) (q : FileRange) (id : UniqueId) (k : Corruption) (a : PlanAnswer) → IsHonest s g.file q a → FromAnswer (plan_query g q id) a (Err (error.CorruptedReconstruction k)) → ⊥
honest_passes s v g q id k NoFile h f = cc
honest_passes s v g q id k PastEnd h f = cc
honest_passes s v g q id k (Found p) h f = terms p.terms f
  where
    passes : failed_test (shape p) q g.multirange ≡ None
    passes = ap (λ (x : Shape). failed_test x q g.multirange) h.2 ∙ honest_accepted s v g.file q g.multirange

    terms : (ts : List PlanTerm) → FromTerms p (plan_query g q id) ts (Err (error.CorruptedReconstruction k)) → ⊥
    terms [] e = cc
    terms (t ∷ ts) e =
        let made : FromTested p (plan_query g q id) None (Err (error.CorruptedReconstruction k)) = subst (λ (o : Option Corruption). FromTested p (plan_query g q id) o (Err (error.CorruptedReconstruction k))) passes e in
        let same = made.1 in
        cc

-- ---- the first connection's answer

-- it told the store that it told at the start
tells_now : (s : Store) (g : Setup) (b at : RunTold) (es : List Event) (sl : Slack) (c : ClientTold) (cs : List ClientTold) → at.clients ≡ c ∷ cs → Ties g b at es None sl → AllTell s b.clients → c.store ≡ Some s
tells_now s g b at es sl c cs is t tell = first_tells s es b.clients c cs sl.hidden sl.late (subst (λ (l : List ClientTold). EachLane es 0 b.clients l sl.hidden sl.late) is t.served.lanes) tell

-- it said that the file isn't stored
pub missing_cause : (g : Setup) (b at : RunTold) (es : List Event) (sl : Slack) (c n : ClientTold) (cs : List ClientTold) (q : FileRange) → at.clients ≡ c ∷ cs → Ties g b at es None sl → g.range.start < g.range.end
    → QueryAnswered c n (g.file, q) NoFile → AskedSaid g b at es sl (n ∷ cs) q NoFile → Cause g (heard_first ((g.file, q) ∷ []) (said.Plan NoFile ∷ []) sl.heard) b (record at { clients = n ∷ cs }) error.FileNotFound
missing_cause g b at es sl c n cs q is t some answered heard =
    missing_file g b (record at { clients = n ∷ cs }) es None _ q heard.ties some heard.own (λ s tell. answered.honest s (tells_now s g b at es sl c cs is t tell))

-- its faults rose, and each served block passed its tests
pub rose_cause : (g : Setup) (b at : RunTold) (es : List Event) (sl : Slack) (c n : ClientTold) (cs : List ClientTold)
    → at.clients ≡ c ∷ cs → Ties g b at es None sl → Rose c.faults n.faults → (xs : List Exchange)
    → EachExchange b.clients (n ∷ cs) xs → AllPassed g xs
    → Cause g xs b (record at { clients = n ∷ cs }) error.ClientError
rose_cause g b at es sl c n cs is t r xs told passed =
    first_rose (ServedPassed g xs) es b.clients c n cs sl.hidden sl.late xs
    (subst (λ (l : List ClientTold). EachLane es 0 b.clients l sl.hidden sl.late) is t.served.lanes) r told passed

-- its answer fails this test, and over a valid store none does
pub failed_cause : (g : Setup) (b at : RunTold) (es : List Event) (sl : Slack) (c n : ClientTold) (cs : List ClientTold) (q : FileRange) (a : PlanAnswer) (k : Corruption) → at.clients ≡ c ∷ cs → Ties g b at es None sl → IsQuiet b.clients sl
    → QueryAnswered c n (g.file, q) a → AskedSaid g b at es sl (n ∷ cs) q a → ((s : Store) → IsOver s b.clients → IsHonest s g.file q a → ⊥) → SomeFailed g (heard_first ((g.file, q) ∷ []) (said.Plan a ∷ []) sl.heard) k
    → Cause g (heard_first ((g.file, q) ∷ []) (said.Plan a ∷ []) sl.heard) b (record at { clients = n ∷ cs }) (error.CorruptedReconstruction k)
failed_cause g b at es sl c n cs q a k is t quiet answered heard untrue failed = corrupted g b (record at { clients = n ∷ cs }) es None _ k heard.ties (record { calm = quiet.calm; hidden = quiet.hidden }) (λ s over. untrue s over (answered.honest s (tells_now s g b at es sl c cs is t over.tell))) failed

-- ---- asking

answered_of : (g : Setup) (q : FileRange) (id : UniqueId) (c n : ClientTold) (answer : Answer) → (from : FromSaid c n (plan_query g q id) answer) → QueryAnswered c n (g.file, q) from.plan
answered_of g q id c n answer from = record { asked = from.asked; said = from.said; unfailed = from.unfailed; honest = from.honest }

-- the first connection was asked, no event says so, and the error has its cause by what was heard then
pub record AskedCause (g : Setup) (b at : RunTold) (es : List Event) (sl : Slack) (after : List ClientTold) (e : FileReconstructionError) : Type 0 where
  pub queries : List Query
  pub answers : List Said
  pub calm : ℕ
  pub kept : IsFaultless (Some e) → calm ≡ length b.clients
  pub ties : Ties g b (record at { clients = after }) es None (record sl { heard = heard_first queries answers sl.heard; lost = queries; calm = calm })
  pub cause : Cause g (heard_first queries answers sl.heard) b (record at { clients = after }) e

-- whatever was answered
pub short_cause : (g : Setup) (b at : RunTold) (es : List Event) (sl : Slack) (after : List ClientTold)
    (e : FileReconstructionError) → IsQuiet b.clients sl → AskedShort g b at es sl after → (IsFaultless (Some e) → ⊥)
    → ((xs : List Exchange) → EachExchange b.clients after xs → AllPassed g xs
    → Cause g xs b (record at { clients = after }) e)
    → AskedCause g b at es sl after e
short_cause g b at es sl after e quiet s loud c =
    let heard = heard_first s.queries s.answers sl.heard in
    record {
      queries = s.queries;
      answers = s.answers;
      calm = 0;
      kept = λ v. absurd (loud v);
      ties = s.ties;
      cause = c heard s.ties.heard (all_passed g es heard sl.hidden quiet.hidden s.ties.heard_served s.ties.passed);
    }

-- by an answer that is the query's own
pub said_cause : (g : Setup) (b at : RunTold) (es : List Event) (sl : Slack) (after : List ClientTold) (q : FileRange) (a : PlanAnswer) (e : FileReconstructionError) → AskedSaid g b at es sl after q a → IsQuiet b.clients sl
    → Cause g (heard_first ((g.file, q) ∷ []) (said.Plan a ∷ []) sl.heard) b (record at { clients = after }) e → AskedCause g b at es sl after e
said_cause g b at es sl after q a e s quiet c = record { queries = (g.file, q) ∷ []; answers = said.Plan a ∷ []; calm = sl.calm; kept = λ v. quiet.calm; ties = s.ties; cause = c }

query_cause : (g : Setup) (b at : RunTold) (es : List Event) (sl : Slack) (c n : ClientTold) (cs : List ClientTold) (q : FileRange) (id : UniqueId) (answer : Answer) (e : FileReconstructionError)
    → at.clients ≡ c ∷ cs → sl.lost ≡ [] → InStep sl.heard → IsQuiet b.clients sl → IsNextQuery g es q → Ties g b at es None sl → TermBlockCall c n (plan_query g q id) answer → TermBlockCause c n (plan_query g q id) e
    → AskedShort g b at es sl (n ∷ cs) → AskedCause g b at es sl (n ∷ cs) e
query_cause g b at es sl c n cs q id answer error.OutOfMemory is none step quiet next t call h short = short_cause g b at es sl (n ∷ cs) error.OutOfMemory quiet short (λ v. v) (λ xs told passed. tt)
query_cause g b at es sl c n cs q id answer error.ClientError is none step quiet next t call h short = short_cause g b at es sl (n ∷ cs) error.ClientError quiet short (λ v. v) (rose_cause g b at es sl c n cs is t h)
query_cause g b at es sl c n cs q id answer error.FileNotFound is none step quiet next t call h short =
    let within = query_within g (queries es) q next.cuts in
    let a = within.0 in
    let d = within.1 in
    let f = within.2 in
    let no_file : h.plan ≡ NoFile = file_missing g q id c n h in
    let own = subst (AskedSaid g b at es sl (n ∷ cs) q) no_file (ask_said g b at es sl c n cs q id answer (Err error.FileNotFound) is none step call h next t) in
    said_cause g b at es sl (n ∷ cs) q NoFile error.FileNotFound own quiet
    (missing_cause g b at es sl c n cs q is t (omega (arith, a, d, f)) (subst (QueryAnswered c n (g.file, q)) no_file (answered_of g q id c n (Err error.FileNotFound) h)) own)
query_cause g b at es sl c n cs q id answer error.UrlExpired is none step quiet next t call h short = absurd h
query_cause g b at es sl c n cs q id answer error.IoError is none step quiet next t call h short = absurd h
query_cause g b at es sl c n cs q id answer (error.CorruptedReconstruction k) is none step quiet next t call h short =
    let within = query_within g (queries es) q next.cuts in
    let made : Answer = Err (error.CorruptedReconstruction k) in
    let heard = ask_said g b at es sl c n cs q id answer made is none step call h next t in
    said_cause g b at es sl (n ∷ cs) q h.plan (error.CorruptedReconstruction k) heard quiet
    (failed_cause g b at es sl c n cs q h.plan k is t quiet (answered_of g q id c n made h) heard
    (λ s over honest. honest_passes s over.valid g q id k h.plan honest h.from)
    (plan_fails g (heard_first ((g.file, q) ∷ []) (said.Plan h.plan ∷ []) sl.heard) (plan_count es + 1) q id k c n within.0 within.2 h (asked_own g b at es None sl q h.plan t none step next)))
query_cause g b at es sl c n cs q id answer (error.ConfigurationError k) is none step quiet next t call h short = absurd h
query_cause g b at es sl c n cs q id answer error.Cancelled is none step quiet next t call h short = absurd h
query_cause g b at es sl c n cs q id answer (error.InternalWriterError k) is none step quiet next t call h short = absurd h

-- each error of asking for a plan has its cause, where no answer passes the known end
pub ask_cause : (g : Setup) (b at : RunTold) (es fs : List Event) (sl : Slack) (c n : ClientTold) (cs : List ClientTold) (m now : Manager) (q : FileRange) (id : UniqueId) (e : FileReconstructionError)
    → at.clients ≡ c ∷ cs → AskPlanCall m now c n es fs (plan_query g q id) (Err e) → sl.lost ≡ [] → InStep sl.heard → IsQuiet b.clients sl → IsNextQuery g es q → ((t : Option TermBlock) → PassesKnownEnd m q t → ⊥)
    → Ties g b at es None sl → AskedCause g b at fs sl (n ∷ cs) e
ask_cause g b at es fs sl c n cs m now q id e is call none step quiet next unpassed t = ⊎_elim asked answered call.err
  where
    asked : QueryFails m now c n es fs (plan_query g q id) e → AskedCause g b at fs sl (n ∷ cs) e
    asked h =
        subst (λ (l : List Event). AskedCause g b at l sl (n ∷ cs) e) (sym h.unrecorded)
        (query_cause g b at es sl c n cs q id (Err e) e is none step quiet next t h.call h.call.cause (ask_short g b at es sl c n cs q id (Err e) is none h.call next t))

    answered : PlanFails m now c n es fs (plan_query g q id) e → AskedCause g b at fs sl (n ∷ cs) e
    answered h =
        ⊎_elim
        (λ (short : e ≡ error.OutOfMemory).
        short_cause g b at fs sl (n ∷ cs) e quiet
        (ask_fails_ties g b at es fs sl c n cs m now q id e is call none next t)
        (λ v. subst (λ (x : FileReconstructionError). IsFaultless (Some x)) short v)
        (λ xs told passed. subst (Cause g xs b (record at { clients = n ∷ cs })) (sym short) tt))
        (λ p. absurd (unpassed h.answer p.0))
        h.left.fails
