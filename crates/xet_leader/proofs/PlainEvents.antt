-- A leader after an event that plans, keeps and expires nothing: an admission, or bytes that were written.
use Rattle.std.proofs.Common.{◌≡◌, ℕ, ◌+◌, false, List, [], ◌∷◌, ◌++◌, sym, ◌∙◌, None}
use Rattle.std.specs.Prelude.{All}
use Rattle.std.proofs.lemmas.List.Elements.{All-cons, All-head, All-nil, All-tail}
use Rattle.xet_offers.specs.declared.reconstruction_terms.xorb_block.XorbBlock.{XorbBlock}
use Rattle.xet_events.specs.declared.event.Event.{Event}
use Rattle.xet_events.specs.Allowed.{IsRunning}
use Rattle.xet_events.specs.Events.{error_in, expires, expiry_in, is_plan, keeps, tasks_in}
use Rattle.xet_history.specs.TrueHistory.{queries_in}
use Rattle.xet_terms.specs.Managers.{Manager}
use Rattle.xet_ties.specs.History.{expiry_of}
use Rattle.xet_ties.specs.Setup.{RunTold, Setup}
use Rattle.xet_ties.specs.Ties.{Slack}
use Rattle.xet_ties.proofs.CallerLemmas.{count-same, fetched_before}
use Rattle.xet_leader.specs.declared.leader.LedPlan.{LedPlan}
use Rattle.xet_leader.specs.Led.{AreLedPlans, AreStale, EachLedBlock, IsLedManager, IsLedPlan, Led}
use Rattle.xet_leader.proofs.QuietEvents.{IsQuiet, quiet_kept, quiet_manager, quiet_numbered, quiet_ready, quiet_recorded, quiet_running, quiet_stale}

-- an event that is only counted
pub record IsPlain (e : Event) : Type 0 where
  pub tasks : tasks_in e ≡ []
  pub plan : is_plan e ≡ false
  pub query : queries_in e ≡ []
  pub keeps_none : (p k : ℕ) → keeps p k e ≡ false
  pub expires_none : (p k : ℕ) → expires p k e ≡ false
  pub expiry : (p k : ℕ) → expiry_of p k e ≡ []
  pub renews_none : (p : ℕ) → expiry_in p e ≡ []
  pub error : error_in e ≡ None

quiet_of : (e : Event) → IsPlain e → IsQuiet e
quiet_of e p = record { tasks = p.tasks; plan = p.plan; query = p.query; error = p.error }

blocks_same : (b : RunTold) (es : List Event) (e : Event) (sl : Slack) (p k : ℕ) (ts : List ℕ) (xs : List XorbBlock)
    → IsPlain e → EachLedBlock b es sl p k ts xs → EachLedBlock b (es ++ e ∷ []) sl p k ts xs
blocks_same b es e sl p k [] [] n a = tt
blocks_same b es e sl p k [] (x ∷ xs) n a = absurd a
blocks_same b es e sl p k (t ∷ ts) [] n a = absurd a
blocks_same b es e sl p k (t ∷ ts) (x ∷ xs) n a = (
  record {
    tries_are = a.0.tries_are ∙ sym (count-same (expires p k) es e (n.expires_none p k));
    kept = a.0.kept ∙ sym (quiet_kept es e p k (n.keeps_none p k));
    data_is = a.0.data_is;
    fetched = λ h. a.0.fetched (fetched_before es e p k (n.keeps_none p k) h);
  },
  blocks_same b es e sl p (k + 1) ts xs n a.1,
)

plan_same : (g : Setup) (b : RunTold) (es : List Event) (e : Event) (sl : Slack) (stale : List ℕ) (l : LedPlan)
    → IsPlain e → IsLedPlan g b es sl stale l → IsLedPlan g b (es ++ e ∷ []) sl stale l
plan_same g b es e sl stale l n p = record {
  plan = p.plan;
  query = p.query;
  accepted = p.accepted;
  said_as = p.said_as;
  terms = p.terms;
  blocks = p.blocks;
  true_plan = p.true_plan;
  table = p.table;
  recorded = quiet_recorded es e l (quiet_of e n) p.recorded;
  each = blocks_same b es e sl l.number 0 l.tries.items l.block.blocks n p.each;
  ready = λ k h. quiet_ready g es e stale l.number k (n.expires_none l.number k) (n.expiry l.number k) (p.ready k h);
}

all_same : (g : Setup) (b : RunTold) (es : List Event) (e : Event) (sl : Slack) (stale : List ℕ) (ls : List LedPlan)
    → IsPlain e → All (IsLedPlan g b es sl stale) ls → All (IsLedPlan g b (es ++ e ∷ []) sl stale) ls
all_same g b es e sl stale [] n a = All-nil (IsLedPlan g b (es ++ e ∷ []) sl stale)
all_same g b es e sl stale (l ∷ ls) n a =
    All-cons (IsLedPlan g b (es ++ e ∷ []) sl stale) l ls
    (plan_same g b es e sl stale l n (All-head (IsLedPlan g b es sl stale) l ls a))
    (all_same g b es e sl stale ls n (All-tail (IsLedPlan g b es sl stale) l ls a))

-- the plans of a leader
pub plain_plans : (g : Setup) (b : RunTold) (es : List Event) (e : Event) (sl : Slack) (stale : List ℕ) (l : Led)
    → IsPlain e → AreLedPlans g b es sl stale l → AreLedPlans g b (es ++ e ∷ []) sl stale l
plain_plans g b es e sl stale l n a = record {
  each = all_same g b es e sl stale l.plans n a.each;
  follow = a.follow;
  numbered = λ h. quiet_numbered es e l.plans (quiet_of e n) (a.numbered h);
  last = a.last;
  first = a.first;
}

-- and its manager
pub plain_manager : (g : Setup) (es : List Event) (e : Event) (m : Manager) → IsPlain e → IsLedManager g es m
    → IsLedManager g (es ++ e ∷ []) m
plain_manager g es e m n a = quiet_manager g es e m (quiet_of e n) a

pub plain_running : (es : List Event) (e : Event) → IsPlain e → IsRunning es → IsRunning (es ++ e ∷ [])
plain_running es e n r = quiet_running es e (quiet_of e n) r

-- the plans whose URLs are to be asked for again
pub plain_stale : (es : List Event) (e : Event) (stale : List ℕ) → IsPlain e → AreStale es stale
    → AreStale (es ++ e ∷ []) stale
plain_stale es e stale n a = quiet_stale es e stale n.renews_none a
