-- A leader after the plan of a query was recorded.
use Rattle.std.proofs.Common.{◌≡◌, ℕ, zero, suc, ◌+◌, ◌<◌, ◌≤◌, ◌==◌, Bool, true, false, cond, List, [], ◌∷◌, ◌++◌, length, take, drop, refl, sym, subst, ◌∙◌, ap, arith, inr, Option, Some, None, Ok}
use Rattle.std.specs.Prelude.{All, count_by, map, option_to_list, Result}
use Rattle.std.specs.Option.{option_or}
use Rattle.std.specs.List.{enumerate_from}
use Rattle.std.proofs.Math.Seq.{drop-append_seam}
use Rattle.std.proofs.lemmas.Bool.{eq-eqb}
use Rattle.std.proofs.lemmas.List.{drop-append-le, length-drop, length-map, length-take, map-append, take-append-le, take_all}
use Rattle.std.proofs.lemmas.List.Elements.{All-cons, All-head, All-nil, All-tail}
use Rattle.std.proofs.lemmas.List.FromFn.{length-enumerate_from}
use Rattle.xet_base.specs.declared.cas_types.FileRange.{FileRange}
use Rattle.xet_base.specs.declared.unique_id.UniqueId.{UniqueId}
use Rattle.xet_base.specs.Lists.{first_some}
use Rattle.xet_base.specs.Store.{Store}
use Rattle.xet_outside.specs.declared.plan.Plan.{Plan}
use Rattle.xet_outside.specs.declared.plan.PlanAnswer.{PlanAnswer}
use Rattle.xet_outside.specs.declared.plan.PlanAnswer.TheVariants.{Found, NoFile, PastEnd}
use Rattle.xet_outside.specs.declared.plan.PlanTerm.{PlanTerm}
use Rattle.xet_outside.specs.declared.said.Said.{Said}
use Rattle.xet_outside.specs.declared.said.Said.TheVariants as said
use Rattle.xet_outside.specs.Plan.{Shape, shape}
use Rattle.xet_outside.specs.Told.{IsHonest, Query}
use Rattle.xet_error.specs.declared.error.Corruption.{Corruption}
use Rattle.xet_error.specs.declared.error.FileReconstructionError.{FileReconstructionError}
use Rattle.xet_blocks.specs.declared.reconstruction_terms.file_term.FileTerm.{FileTerm}
use Rattle.xet_blocks.specs.declared.reconstruction_terms.file_term.TermBlock.{TermBlock}
use Rattle.xet_offers.specs.declared.reconstruction_terms.xorb_block.XorbBlock.{XorbBlock}
use Rattle.xet_offers.specs.Blocks.{PlanBlock, blocks_of}
use Rattle.xet_offers.specs.PlanChecks.{covered, failed_test}
use Rattle.xet_blocks.specs.TermBlockCalls.{FromAnswer, FromTerms, FromTested}
use Rattle.xet_blocks.specs.TermBlocks.{IsTermBlock, xorb_block}
use Rattle.xet_events.specs.declared.event.Event.{Event}
use Rattle.xet_events.specs.declared.event.Event.TheVariants.{Planned}
use Rattle.xet_events.specs.declared.event.PlannedBlock.{PlannedBlock}
use Rattle.xet_events.specs.declared.event.PlannedTerm.{PlannedTerm}
use Rattle.xet_events.specs.Events.{Task, expires, is_kept, plan_count, planned, tasks_of}
use Rattle.xet_events.proofs.CallerLemmas.{first_some-push, planned-push}
use Rattle.xet_history.specs.TrueHistory.{planned_term}
use Rattle.xet_ties.specs.History.{actual_range, blocks_in, range_in}
use Rattle.xet_ties.specs.InCall.{EachGrew, Exchange}
use Rattle.xet_ties.specs.Saids.{IsCutAnswer, planned_of}
use Rattle.xet_ties.specs.Setup.{IsOver, RunTold, Setup}
use Rattle.xet_ties.specs.Moves.{heard_first}
use Rattle.xet_ties.specs.PartCalls.{plan_event, plan_query}
use Rattle.xet_ties.specs.Ties.{Slack}
use Rattle.xet_ties.proofs.CallerLemmas.{count-same, fetched_before, expired-push, first_stays, grew_first, range_at-push}
use Rattle.xet_leader.specs.declared.leader.LedPlan.{LedPlan}
use Rattle.xet_leader.specs.Asking.{IsAdded}
use Rattle.xet_leader.specs.Led.{EachLedBlock, IsLedPlan, bare}
use Rattle.xet_leader.proofs.Accepting.{Answers}
use Rattle.xet_leader.proofs.NewPlans.{NoneOf}
use Rattle.xet_leader.proofs.MoreTold.{TellsMore, tells_more_heard}
use Rattle.xet_leader.proofs.QuietEvents.{quiet_kept, quiet_ready}
use Rattle.xet_leader.proofs.PlanTerms.{covers}

-- ---- an answer

-- the plan with terms of which an answer's terms and blocks are made
pub record MadePlan (g : Setup) (q : FileRange) (id : UniqueId) (b : TermBlock) (a : PlanAnswer) : Type 0 where
  pub plan : Plan
  pub is : a ≡ Found plan
  pub some : 0 < length plan.terms
  pub passes : failed_test (shape plan) q g.multirange ≡ None
  pub block : IsTermBlock plan (plan_query g q id) b

made_of_tested : (g : Setup) (q : FileRange) (id : UniqueId) (b : TermBlock) (p : Plan) (o : Option Corruption)
    → failed_test (shape p) q g.multirange ≡ o → 0 < length p.terms → FromTested p (plan_query g q id) o (Ok (Some b))
    → MadePlan g q id b (Found p)
made_of_tested g q id b p (Some k) e some from = absurd (cc)
made_of_tested g q id b p None e some from =
    let same : ◌≡◌ {A = Result (Option TermBlock) FileReconstructionError} (Ok (Some b)) (Ok (Some from.0)) =
    from.1 in
    let is : b ≡ from.0 = cc in
    record {
      plan = p;
      is = refl;
      some = some;
      passes = e;
      block = subst (λ (x : TermBlock). IsTermBlock p (plan_query g q id) x) (sym is) from.2;
    }

made_of_terms : (g : Setup) (q : FileRange) (id : UniqueId) (b : TermBlock) (p : Plan) (ts : List PlanTerm)
    → p.terms ≡ ts → FromTerms p (plan_query g q id) ts (Ok (Some b)) → MadePlan g q id b (Found p)
made_of_terms g q id b p [] e from = absurd (cc)
made_of_terms g q id b p (t ∷ ts) e from = let n = ap (λ (l : List PlanTerm). length l) e in
    made_of_tested g q id b p (failed_test (shape p) q g.multirange) refl (omega (arith, n)) from

pub made_plan : (g : Setup) (q : FileRange) (id : UniqueId) (b : TermBlock) (a : PlanAnswer)
    → FromAnswer (plan_query g q id) a (Ok (Some b)) → MadePlan g q id b a
made_plan g q id b NoFile from = absurd (cc)
made_plan g q id b PastEnd from = absurd (cc)
made_plan g q id b (Found p) from = made_of_terms g q id b p p.terms refl from

made_covers : (g : Setup) (q : FileRange) (id : UniqueId) (b : TermBlock) (a : PlanAnswer) → (m : MadePlan g q id b a)
    → actual_range q (map planned_term b.terms) ≡ covered (shape m.plan) q
made_covers g q id b a m = ap (λ (l : List FileTerm). actual_range q (map planned_term l)) m.block.terms
    ∙ covers (shape m.plan) q g.multirange m.some

-- an answer's terms end as it says
pub made_answers : (g : Setup) (q : FileRange) (id : UniqueId) (t : Option TermBlock) (a : PlanAnswer)
    → q.start ≤ q.end → FromAnswer (plan_query g q id) a (Ok t) → Answers q t
made_answers g q id None a order from = record { ends = refl; within = order }
made_answers g q id (Some b) a order from =
    let m = made_plan g q id b a from in
    let is : (actual_range q (map planned_term b.terms)).end ≡ b.byte_range.end =
    ap (λ (r : FileRange). r.end) (made_covers g q id b a m ∙ sym m.block.range) in
    let at : b.byte_range.end ≡ (covered (shape m.plan) q).end = ap (λ (r : FileRange). r.end) m.block.range in
    record { ends = is; within = omega (arith, at) }

-- ---- the slack after it

-- more was heard, and no more was looked for
pub record HeardMore (sl to : Slack) (qs : List Query) (all : List Said) : Type 0 where
  pub heard : to.heard ≡ heard_first qs all sl.heard
  pub looks : to.looks ≡ sl.looks

pub heard_tells : (sl to : Slack) (qs : List Query) (all : List Said) → HeardMore sl to qs all → TellsMore sl to
heard_tells sl to qs all m = tells_more_heard sl to
    (subst (λ (v : List Exchange). EachGrew sl.heard v) (sym m.heard) (grew_first qs all sl.heard)) m.looks

-- ---- the plans before it

take_in : {A : Type 0} (n f : ℕ) (xs ys zs : List A) → take n (drop f xs) ≡ ys → length ys ≡ n
    → take n (drop f (xs ++ zs)) ≡ ys
take_in zero f xs ys zs e len = e
take_in {A} (suc n) f xs ys zs e len =
    let l : length (take (suc n) (drop f xs)) ≡ length ys = ap (λ (s : List A). length s) e in
    let t = length-take (suc n) (drop f xs) in
    let d = length-drop f xs in
    ap (λ (s : List A). take (suc n) s) (drop-append-le f xs zs (omega (arith, l, t, d, len)))
    ∙ take-append-le (suc n) (drop f xs) zs (omega (arith, l, t, len)) ∙ e

blocks_after : (b : RunTold) (es : List Event) (sl : Slack) (n : ℕ) (q : FileRange) (terms : List PlannedTerm)
    (bs : List PlannedBlock) (p k : ℕ) (ts : List ℕ) (xs : List XorbBlock) → EachLedBlock b es sl p k ts xs
    → EachLedBlock b (es ++ Planned n q terms bs ∷ []) sl p k ts xs
blocks_after b es sl n q terms bs p k [] [] a = tt
blocks_after b es sl n q terms bs p k [] (x ∷ xs) a = absurd a
blocks_after b es sl n q terms bs p k (t ∷ ts) [] a = absurd a
blocks_after b es sl n q terms bs p k (t ∷ ts) (x ∷ xs) a = (
  record {
    tries_are = a.0.tries_are ∙ sym (count-same (expires p k) es (Planned n q terms bs) refl);
    kept = a.0.kept ∙ sym (quiet_kept es (Planned n q terms bs) p k refl);
    data_is = a.0.data_is;
    fetched = λ h. a.0.fetched (fetched_before es (Planned n q terms bs) p k refl h);
  },
  blocks_after b es sl n q terms bs p (k + 1) ts xs a.1,
)

plan_after : (g : Setup) (b : RunTold) (es : List Event) (sl : Slack) (n : ℕ) (q : FileRange)
    (terms : List PlannedTerm) (bs : List PlannedBlock) (stale : List ℕ) (l : LedPlan) → IsLedPlan g b es sl stale l
    → IsLedPlan g b (es ++ Planned n q terms bs ∷ []) sl stale l
plan_after g b es sl n q terms bs stale l p =
    let e : Event = Planned n q terms bs in
    let size : length (tasks_of l.number (map planned_term l.block.terms) (map planned_of l.block.blocks)) ≡ length
    l.block.terms = length-map (map planned_term l.block.terms) _ ∙ length-map l.block.terms planned_term in
    record {
      plan = p.plan;
      query = p.query;
      accepted = p.accepted;
      said_as = p.said_as;
      terms = p.terms;
      blocks = p.blocks;
      true_plan = p.true_plan;
      table = p.table;
      recorded = record {
        blocks = first_stays (blocks_in l.number) es e (map planned_of l.block.blocks) p.recorded.blocks;
        at_range = range_at-push es e l.number l.block.urls.byte_range p.recorded.at_range;
        tasks = ap (λ (ts : List Task). take (length l.block.terms) (drop l.first ts)) (planned-push es e)
            ∙ take_in (length l.block.terms) l.first (planned es) _ (tasks_of n terms bs) p.recorded.tasks size;
      };
      each = blocks_after b es sl n q terms bs l.number 0 l.tries.items l.block.blocks p.each;
      ready = λ k h. quiet_ready g es e stale l.number k refl refl (p.ready k h);
    }

pub plans_after : (g : Setup) (b : RunTold) (es : List Event) (sl : Slack) (n : ℕ) (q : FileRange)
    (terms : List PlannedTerm) (bs : List PlannedBlock) (stale : List ℕ) (ls : List LedPlan)
    → All (IsLedPlan g b es sl stale) ls
    → All (IsLedPlan g b (es ++ Planned n q terms bs ∷ []) sl stale) ls
plans_after g b es sl n q terms bs stale [] a = All-nil (IsLedPlan g b (es ++ Planned n q terms bs ∷ []) sl stale)
plans_after g b es sl n q terms bs stale (l ∷ ls) a =
    All-cons (IsLedPlan g b (es ++ Planned n q terms bs ∷ []) sl stale) l ls
    (plan_after g b es sl n q terms bs stale l (All-head (IsLedPlan g b es sl stale) l ls a))
    (plans_after g b es sl n q terms bs stale ls (All-tail (IsLedPlan g b es sl stale) l ls a))

-- ---- the plan itself

bare_blocks : (p : Shape) (multi : Bool) (xs : List (ℕ × PlanBlock))
    → map bare (map (xorb_block p multi) xs) ≡ map (xorb_block p multi) xs
bare_blocks p multi [] = refl
bare_blocks p multi (x ∷ xs) = ap (λ (l : List XorbBlock). xorb_block p multi x ∷ l) (bare_blocks p multi xs)

-- blocks that keep nothing and never expired
new_blocks : (b : RunTold) (es : List Event) (sl : Slack) (p k : ℕ) (s : Shape) (multi : Bool)
    (xs : List (ℕ × PlanBlock)) → ((i : ℕ) → count_by (expires p i) es ≡ 0) → ((i : ℕ) → is_kept es p i ≡ false)
    → EachLedBlock b es sl p k (map (λ _. 0) (map (xorb_block s multi) xs)) (map (xorb_block s multi) xs)
new_blocks b es sl p k s multi [] none unkept = tt
new_blocks b es sl p k s multi (x ∷ xs) none unkept = (
  record {
    tries_are = sym (none k);
    kept = sym (unkept k);
    data_is = record { tested = tt; sound = λ s over. tt; honest = λ s over tells. tt };
    fetched = λ h. tt;
  },
  new_blocks b es sl p (k + 1) s multi xs none unkept,
)

first_at : {B : Type 0} (f : Event → Option B) (es : List Event) (e : Event) (y : B) → first_some (map f es) ≡ None
    → f e ≡ Some y → first_some (map f (es ++ e ∷ [])) ≡ Some y
first_at {B} f es e y none at =
    ap (λ (l : List (Option B)). first_some l) (map-append f es (e ∷ [])) ∙ first_some-push (map f es) (f e)
    ∙ ap (λ (o : Option B). option_or o (f e)) none ∙ at

-- it is led, where its answer is made of the plan that was said last
pub new_plan : (g : Setup) (b : RunTold) (es : List Event) (sl to : Slack) (q : FileRange) (id : UniqueId)
    (l : LedPlan) (a : PlanAnswer)
    → MadePlan g q id l.block a → HeardMore sl to ((g.file, q) ∷ []) (said.Plan a ∷ [])
    → IsCutAnswer g.file (heard_first ((g.file, q) ∷ []) (said.Plan a ∷ []) sl.heard) (plan_count es + 1) q a
    → NoneOf es (plan_count es + 1) → id.plan ≡ plan_count es + 1
    → IsAdded l (plan_count es + 1) (length (planned es)) l.block
    → g.range.start ≤ q.start → q.end ≤ g.range.end → ((s : Store) → IsOver s b.clients → IsHonest s g.file q a)
    → 0 < g.tries
    → IsLedPlan g b (es ++ plan_event es q (Some l.block) ∷ []) to [] l
new_plan g b es sl to q id l a m heard answered none own added low high honest tries =
    let n = plan_count es + 1 in
    let terms = map planned_term l.block.terms in
    let bs = map planned_of l.block.blocks in
    let e : Event = Planned n q terms bs in
    let here : (n == l.number) ≡ true = eq-eqb n l.number (sym added.number_is) in
    let none_here : NoneOf es l.number = subst (λ (k : ℕ). NoneOf es k) (sym added.number_is) none in
    let size : length (tasks_of n terms bs) ≡ length l.block.terms =
    length-map terms _ ∙ length-map l.block.terms planned_term in
    record {
      plan = m.plan;
      query = q;
      accepted = record {
        said = record {
          number = n;
          answer = subst (λ (v : List Exchange). IsCutAnswer g.file v n q (Found m.plan)) (sym heard.heard)
              (subst (λ (x : PlanAnswer). IsCutAnswer g.file
              (heard_first ((g.file, q) ∷ []) (said.Plan a ∷ []) sl.heard) n q x) m.is answered);
          some = m.some;
          from = low;
          to = high;
        };
        passes = m.passes;
      };
      said_as = added.number_is;
      terms = m.block.terms;
      blocks = ap (map bare) m.block.blocks ∙ bare_blocks (shape m.plan) g.multirange
          (enumerate_from 0 (blocks_of (shape m.plan) g.multirange));
      true_plan = λ s over. (subst (λ (x : PlanAnswer). IsHonest s g.file q x) m.is (honest s over)).2;
      table = record {
        file = m.block.of_file;
        range_is = m.block.of_query ∙ m.block.range;
        number = ap (λ (x : UniqueId). x.plan) m.block.with_id ∙ own ∙ sym added.number_is;
        each = urls_each m.plan m.block;
      };
      recorded = record {
        blocks = first_at (blocks_in l.number) es e bs none_here.blocks
            (ap (λ (v : Bool). cond {A = Option (List PlannedBlock)} v (Some bs) None) here);
        at_range = ap (λ (o : Option FileRange). option_to_list o)
            (first_at (range_in l.number) es e (actual_range q terms) none_here.ranges
            (ap (λ (v : Bool). cond {A = Option FileRange} v (Some (actual_range q terms)) None) here))
            ∙ ap (λ (r : FileRange). r ∷ []) (made_covers g q id l.block a m
            ∙ sym (m.block.of_query ∙ m.block.range));
        tasks = ap (λ (ts : List Task). take (length l.block.terms) (drop l.first ts)) (planned-push es e)
            ∙ ap (λ (k : ℕ). take (length l.block.terms) (drop k (planned es ++ tasks_of n terms bs))) added.first_is
            ∙ ap (λ (ts : List Task). take (length l.block.terms) ts)
            (drop-append_seam (planned es) (tasks_of n terms bs))
            ∙ take_all (length l.block.terms) (tasks_of n terms bs) (omega (arith, size))
            ∙ ap (λ (k : ℕ). tasks_of k terms bs) (sym added.number_is);
      };
      each = subst (λ (ts : List ℕ). EachLedBlock b (es ++ e ∷ []) to l.number 0 ts l.block.blocks)
          (sym added.tries_are)
          (subst (λ (xs : List XorbBlock). EachLedBlock b (es ++ e ∷ []) to l.number 0 (map (λ _. 0) xs) xs)
          (sym m.block.blocks)
          (new_blocks b (es ++ e ∷ []) to l.number 0 (shape m.plan) g.multirange
          (enumerate_from 0 (blocks_of (shape m.plan) g.multirange))
          (λ i. count-same (expires l.number i) es e refl ∙ none_here.expiries i)
          (λ i. quiet_kept es e l.number i refl ∙ none_here.kept i)));
      ready = λ k h. record {
        left = (let c = count-same (expires l.number k) es e refl ∙ none_here.expiries k in omega (arith, c, tries));
        fresh = inr (expired-push es e l.number k refl ∙ none_here.expired k);
      };
    }
  where
    urls_each : (p : Plan) → IsTermBlock p (plan_query g q id) l.block
        → length l.block.urls.retrieval_urls ≡ length l.block.blocks
    urls_each p t =
        ap (λ us. length us) t.urls ∙ length-map (blocks_of (shape p) g.multirange) _
        ∙ sym (ap (λ (xs : List XorbBlock). length xs) t.blocks
        ∙ length-map (enumerate_from 0 (blocks_of (shape p) g.multirange)) (xorb_block (shape p) g.multirange)
        ∙ length-enumerate_from 0 (blocks_of (shape p) g.multirange))
