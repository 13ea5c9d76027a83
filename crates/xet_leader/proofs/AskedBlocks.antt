-- The fetches of missing blocks, as a round wants them.
use Rattle.std.proofs.Common.{◌≡◌, ℕ, ◌+◌, ◌-◌, ◌^◌, ◌<◌, ◌≤◌, ◌==◌, ◌&&◌, suc, zero, Bool, true, false, cond, List, [], ◌∷◌, ◌++◌, length, take, get_or, refl, sym, subst, ◌∙◌, ap, arith, ⊎_elim, Ok, Err}
use Rattle.std.specs.Prelude.{All, Contains, IfErr, IfOk, MatchOption, Option, Result, Some, None, count_by, map, min, slice_get}
use Rattle.std.proofs.lemmas.Bool.{or_parts}
use Rattle.std.proofs.lemmas.List.{length-take-le, take_more}
use Rattle.std.proofs.lemmas.List.Elements.{All-cons, All-nil}
use Rattle.std.proofs.lemmas.Option.{slice_get_read, slice_get_within}
use Rattle.xet_base.specs.declared.unique_id.UniqueId.{UniqueId}
use Rattle.xet_outside.specs.declared.block.BlockRequest.{BlockRequest}
use Rattle.xet_outside.proofs.CallerLemmas.{count_by-cons}
use Rattle.xet_error.specs.declared.error.FileReconstructionError.{FileReconstructionError}
use Rattle.xet_error.specs.declared.error.FileReconstructionError.TheVariants as error
use Rattle.xet_offers.specs.declared.reconstruction_terms.retrieval_urls.RetrievalUrl.{RetrievalUrl}
use Rattle.xet_offers.specs.declared.reconstruction_terms.retrieval_urls.TermBlockRetrievalURLs.{TermBlockRetrievalURLs}
use Rattle.xet_offers.specs.declared.reconstruction_terms.xorb_block.XorbBlock.{XorbBlock}
use Rattle.xet_offers.specs.BlockCalls.{IsRequestOf}
use Rattle.xet_events.specs.declared.event.Event.{Event}
use Rattle.xet_events.specs.declared.event.PlannedBlock.{PlannedBlock}
use Rattle.xet_events.specs.Allowed.{IsMissing}
use Rattle.xet_events.specs.Events.{expires, is_kept}
use Rattle.xet_ties.specs.Causes.{Cause}
use Rattle.xet_ties.specs.History.{block_at, is_expired}
use Rattle.xet_ties.specs.Lanes.{Ask, IsFor}
use Rattle.xet_ties.specs.Saids.{planned_of}
use Rattle.xet_ties.specs.Setup.{RunTold, Setup}
use Rattle.xet_ties.specs.Ties.{MayLeave, Slack, is_one, is_pair}
use Rattle.xet_ties.specs.Recordings.{AreUnkept, HasTry, IsFreshAsk, asks_for, blocks_all, key_of}
use Rattle.xet_ties.specs.Rounds.{IsMissingAsk}
use Rattle.xet_ties.proofs.CallerLemmas.{short_leaves}
use Rattle.xet_lane.specs.declared.lane.Fetch.{Fetch}
use Rattle.xet_lane.specs.Fetches.{ask_of}
use Rattle.xet_leader.specs.ByNumber.{plan_index}
use Rattle.xet_leader.specs.declared.leader.LedPlan.{LedPlan}
use Rattle.xet_leader.specs.declared.missing_blocks.BlockAt.{BlockAt}
use Rattle.xet_leader.specs.FetchLists.{AreApart, Each}
use Rattle.xet_leader.specs.Fetching.{AddsFetch, AreAsked, AreFetches, FetchLeads, IsFetch}
use Rattle.xet_leader.specs.Lacking.{lists, same_place}
use Rattle.xet_leader.specs.Led.{IsLed, IsReady, Led}
use Rattle.xet_leader.specs.Looks.{CanRequest, blocks_of}
use Rattle.xet_leader.specs.Steady.{IsFailing, IsGoing, Loose, Moment}
use Rattle.xet_leader.proofs.AwaitedBlocks.{awaited, awaited_request}
use Rattle.xet_leader.proofs.FetchFacts.{same_is}
use Rattle.xet_leader.proofs.LookSteps.{same_found}
use Rattle.xet_leader.proofs.PlanFacts.{each_weaker}
use Rattle.xet_leader.proofs.WriterFaults.{any_unfailed}
use Rattle.xet_leader.proofs.Halts.{memory_halted, memory_spent}

-- ---- one fetch

-- missing blocks can be requested
pub can_request : (g : Setup) (b : RunTold) (es : List Event) (sl : Slack) (stale : List ℕ) (l : Led)
    → IsLed g b es sl stale l → (cs : List BlockAt) → Each (λ c. IsMissing es c.plan c.block) cs
    → Each (CanRequest l.plans) cs
can_request g b es sl stale l a cs h = each_weaker (λ c. IsMissing es c.plan c.block) (CanRequest l.plans) cs
    (λ c m. awaited_request g b es sl stale l c (awaited g b es sl stale l a c m)) h

-- the plan and the block that were read are those of the place
pub read_block : (ls : List LedPlan) (c : BlockAt) (i : ℕ) (p : LedPlan) (x : XorbBlock) → CanRequest ls c
    → i ≡ plan_index ls c.plan → p ≡ get_or ls i p → x ≡ get_or p.block.blocks c.block x
    → (slice_get ls (plan_index ls c.plan) ≡ Some p) × (slice_get p.block.blocks c.block ≡ Some x)
    × (x.xorb_block_index < length p.block.urls.retrieval_urls)
read_block ls c i p x can e is at =
    let w : plan_index ls c.plan < length ls = slice_get_within ls (plan_index ls c.plan) can.plan can.at in
    let here : slice_get ls (plan_index ls c.plan) ≡ Some p =
    ap (slice_get ls) (sym e) ∙ slice_get_read ls (length ls) i p refl (omega (arith, e, w)) is in
    let plan : can.plan ≡ p = same_found can.plan p ls (plan_index ls c.plan)
    (plan_index ls c.plan) can.at here refl in
    let of_plan : slice_get p.block.blocks c.block ≡ Some can.block =
    ap (λ (q : LedPlan). slice_get q.block.blocks c.block) (sym plan) ∙ can.of_plan in
    let within : c.block < length p.block.blocks = slice_get_within p.block.blocks c.block can.block of_plan in
    let there : slice_get p.block.blocks c.block ≡ Some x =
    slice_get_read p.block.blocks (length p.block.blocks) c.block x refl within at in
    let block : can.block ≡ x = same_found can.block x p.block.blocks c.block c.block of_plan there refl in
    let index : x.xorb_block_index ≡ c.block = ap (λ (y : XorbBlock). y.xorb_block_index) (sym block) ∙ can.index in
    let url : c.block < length p.block.urls.retrieval_urls =
    subst (λ (q : LedPlan). c.block < length q.block.urls.retrieval_urls) plan can.url in
    (here, there, omega (arith, index, url))

-- what a request says
pub request_parts : (x : XorbBlock) (t : TermBlockRetrievalURLs) (r : BlockRequest) → IsRequestOf x t r
    → (r.acquisition ≡ t.acquisition_id) × (r.index ≡ x.xorb_block_index) × (r.xorb ≡ x.xorb_hash)
    × (r.chunks ≡ x.chunk_ranges)
request_parts x t r h = go (slice_get t.retrieval_urls x.xorb_block_index) h
  where
    go : (o : Option RetrievalUrl) → MatchOption o ⊥
        (λ u. r ≡ record {
          acquisition = t.acquisition_id;
          index = x.xorb_block_index;
          url = u.url;
          xorb = x.xorb_hash;
          chunks = x.chunk_ranges;
          bytes = u.ranges;
        })
        → (r.acquisition ≡ t.acquisition_id) × (r.index ≡ x.xorb_block_index) × (r.xorb ≡ x.xorb_hash)
        × (r.chunks ≡ x.chunk_ranges)
    go None h = absurd h
    go (Some u) h = (
      ap (λ (q : BlockRequest). q.acquisition) h,
      ap (λ (q : BlockRequest). q.index) h,
      ap (λ (q : BlockRequest). q.xorb) h,
      ap (λ (q : BlockRequest). q.chunks) h,
    )

pub own_request : (ls : List LedPlan) (c : BlockAt) (n : ℕ) (f : Fetch) → IsFetch ls c n f → IsFor (ask_of f)
own_request ls c n f is = let r = request_parts f.block.now is.plan.block.urls (ask_of f).request is.request_is in
    record { xorb = r.2; chunks = r.3; index = r.1 }

-- each fetch asks for its own block
pub own_requests : (ls : List LedPlan) (n : ℕ) (cs : List BlockAt) (fs : List Fetch) → AreFetches ls n cs fs
    → All IsFor (map ask_of fs)
own_requests ls n [] [] h = All-nil IsFor
own_requests ls n [] (f ∷ fs) h = absurd h
own_requests ls n (c ∷ cs) [] h = absurd h
own_requests ls n (c ∷ cs) (f ∷ fs) h = All-cons IsFor (ask_of f) (map ask_of fs)
    (own_request ls c (min n (2 ^ 64 - 1)) f h.0) (own_requests ls (n + 1) cs fs h.1)

pub fetches_own : (ls : List LedPlan) (n : ℕ) (cs : List BlockAt)
    (answer : Result (List Fetch) FileReconstructionError) → IfOk answer (AreFetches ls n cs)
    → IfOk answer (λ fs. All IsFor (map ask_of fs))
fetches_own ls n cs (Ok fs) h = own_requests ls n cs fs h
fetches_own ls n cs (Err e) h = tt

-- a fetch of a missing block
pub record IsAsked (tries : ℕ) (es : List Event) (c : BlockAt) (a : Ask) : Type 0 where
  pub own : IsFor a
  pub plan : a.request.acquisition.plan ≡ c.plan
  pub index : a.request.index ≡ c.block
  pub planned : block_at es c.plan c.block ≡ (key_of a).2 ∷ []
  pub fresh : is_expired es c.plan c.block ≡ false
  pub left : count_by (expires c.plan c.block) es < tries
  pub missing : IsMissing es c.plan c.block

is_ready : (g : Setup) (es : List Event) (p k : ℕ) → IsReady g es [] p k → is_expired es p k ≡ false
is_ready g es p k r = ⊎_elim (λ (c : Contains [] p). absurd (let h = c.1 in omega (arith, h)))
    (λ (f : is_expired es p k ≡ false). f) r.fresh

pub asked : (g : Setup) (b : RunTold) (es : List Event) (sl : Slack) (l : Led) (c : BlockAt) (n : ℕ) (f : Fetch)
    → IsLed g b es sl [] l → IsMissing es c.plan c.block → IsFetch l.plans c n f → IsAsked g.tries es c (ask_of f)
asked g b es sl l c n f a m is =
    let w = awaited g b es sl [] l a c m in
    let i = plan_index l.plans c.plan in
    let plan : is.plan ≡ w.plan = same_found is.plan w.plan l.plans i i is.at w.at refl in
    let block : f.block.now ≡ w.block = same_found f.block.now w.block w.plan.block.blocks c.block c.block
    (ap (λ (q : LedPlan). slice_get q.block.blocks c.block) (sym plan) ∙ is.of_plan) w.of_plan refl in
    let r = request_parts f.block.now is.plan.block.urls (ask_of f).request is.request_is in
    let table : w.plan.block.urls.acquisition_id.plan ≡ w.plan.number = w.led.table.number in
    let named : (ask_of f).request.acquisition.plan ≡ c.plan =
    ap (λ (u : UniqueId). u.plan) r.0 ∙ ap (λ (q : LedPlan). q.block.urls.acquisition_id.plan) plan ∙ table
    ∙ w.number in
    let numbered : (ask_of f).request.index ≡ c.block =
    r.1 ∙ ap (λ (x : XorbBlock). x.xorb_block_index) block ∙ w.index in
    let there : c.block < length w.plan.block.blocks =
    slice_get_within w.plan.block.blocks c.block w.block w.of_plan in
    let ready : IsReady g es [] c.plan c.block = subst (λ (p : ℕ). IsReady g es [] p c.block) w.number
    (w.led.ready c.block there) in
    let same : planned_of w.block ≡ (key_of (ask_of f)).2 =
    ap planned_of (sym block) ∙ (let x = r.2 in let y = r.3 in
    λ i. record { xorb = sym x i; ranges = sym y i }) in
    record {
      own = own_request l.plans c n f is;
      plan = named;
      index = numbered;
      planned = w.planned ∙ ap (λ (x : PlannedBlock). x ∷ []) same;
      fresh = is_ready g es c.plan c.block ready;
      left = ready.left;
      missing = m;
    }

-- ---- all of them

abbrev pub EachAsked : ℕ → List Event → List BlockAt → List Ask → Type 0
EachAsked tries es [] [] = Unit {0}
EachAsked tries es [] (a ∷ qs) = ⊥
EachAsked tries es (c ∷ cs) [] = ⊥
EachAsked tries es (c ∷ cs) (a ∷ qs) = IsAsked tries es c a × EachAsked tries es cs qs

each_asked : (g : Setup) (b : RunTold) (es : List Event) (sl : Slack) (l : Led) (cs : List BlockAt) (n : ℕ)
    (fs : List Fetch) → IsLed g b es sl [] l → Each (λ c. IsMissing es c.plan c.block) cs → AreFetches l.plans n cs fs
    → EachAsked g.tries es cs (map ask_of fs)
each_asked g b es sl l [] n [] a m h = tt
each_asked g b es sl l [] n (f ∷ fs) a m h = absurd h
each_asked g b es sl l (c ∷ cs) n [] a m h = absurd h
each_asked g b es sl l (c ∷ cs) n (f ∷ fs) a m h =
    (asked g b es sl l c (min n (2 ^ 64 - 1)) f a m.0 h.0, each_asked g b es sl l cs (n + 1) fs a m.1 h.1)

all_asked : (tries : ℕ) (es : List Event) (P : Ask → Type 0) → ((c : BlockAt) (a : Ask) → IsAsked tries es c a → P a)
    → (cs : List BlockAt) (qs : List Ask) → EachAsked tries es cs qs → All P qs
all_asked tries es P f [] [] h = All-nil P
all_asked tries es P f [] (a ∷ qs) h = absurd h
all_asked tries es P f (c ∷ cs) [] h = absurd h
all_asked tries es P f (c ∷ cs) (a ∷ qs) h = All-cons P a qs (f c a h.0) (all_asked tries es P f cs qs h.1)

-- what holds of the block's plan and number holds of the request's
at_ask : (P : ℕ → ℕ → Type 0) (tries : ℕ) (es : List Event) (c : BlockAt) (a : Ask) → IsAsked tries es c a
    → P c.plan c.block → P a.request.acquisition.plan a.request.index
at_ask P tries es c a h p = subst (λ (q : ℕ). P q a.request.index) (sym h.plan) (subst (P c.plan) (sym h.index) p)

unkept : (tries : ℕ) (es : List Event) (cs : List BlockAt) (qs : List Ask) → EachAsked tries es cs qs
    → AreUnkept es qs
unkept tries es [] [] h = tt
unkept tries es [] (a ∷ qs) h = absurd h
unkept tries es (c ∷ cs) [] h = absurd h
unkept tries es (c ∷ cs) (a ∷ qs) h = (
  at_ask (λ p k. is_kept es p k ≡ false) tries es c a h.0 h.0.missing.absent,
  unkept tries es cs qs h.1,
)

waiting : (tries : ℕ) (es : List Event) (cs : List BlockAt) (qs : List Ask) → EachAsked tries es cs qs
    → blocks_all (map key_of qs) ≡ blocks_of es cs
waiting tries es [] [] h = refl
waiting tries es [] (a ∷ qs) h = absurd h
waiting tries es (c ∷ cs) [] h = absurd h
waiting tries es (c ∷ cs) (a ∷ qs) h =
    ap (λ (l : List PlannedBlock). (key_of a).2 ∷ l) (waiting tries es cs qs h.1)
    ∙ ap (λ (l : List PlannedBlock). l ++ blocks_of es cs) (sym h.0.planned)

pairs : (tries : ℕ) (es : List Event) (p k : ℕ) (cs : List BlockAt) (qs : List Ask) → EachAsked tries es cs qs
    → count_by (is_pair p k) (map asks_for qs) ≡ count_by (λ c. same_place c (record { plan = p; block = k })) cs
pairs tries es p k [] [] h = refl
pairs tries es p k [] (a ∷ qs) h = absurd h
pairs tries es p k (c ∷ cs) [] h = absurd h
pairs tries es p k (c ∷ cs) (a ∷ qs) h =
    let x : BlockAt = record { plan = p; block = k } in
    let test : is_pair p k (asks_for a) ≡ same_place c x =
    ap (λ (q : ℕ). q == p && a.request.index == k) h.0.plan ∙ ap (λ (j : ℕ). c.plan == p && j == k) h.0.index in
    let both : cond (is_pair p k (asks_for a)) 1 0 ≡ cond (same_place c x) 1 0 =
    ap {B = ℕ} (λ (v : Bool). cond v 1 0) test in
    let u = count_by-cons (is_pair p k) (asks_for a) (map asks_for qs) in
    let v = count_by-cons (λ d. same_place d x) c cs in
    let r = pairs tries es p k cs qs h.1 in
    omega (arith, both, u, v, r)

none_listed : (cs : List BlockAt) (x : BlockAt) → lists cs x ≡ false → count_by (λ c. same_place c x) cs ≡ 0
none_listed [] x h = refl
none_listed (c ∷ cs) x h =
    let p = or_parts (same_place c x) (lists cs x) h in
    let v = count_by-cons (λ d. same_place d x) c cs in
    let e : cond (same_place c x) 1 0 ≡ 0 = ap {B = ℕ} (λ (v : Bool). cond v 1 0) p.0 in
    let r = none_listed cs x p.1 in
    omega (arith, v, e, r)

apart_once : (cs : List BlockAt) (x : BlockAt) → AreApart cs → count_by (λ c. same_place c x) cs ≤ 1
apart_once [] x a = omega arith
apart_once (c ∷ cs) x a = go (same_place c x) refl (apart_once cs x a.1)
  where
    v : count_by (λ d. same_place d x) (c ∷ cs) ≡ cond (same_place c x) 1 0 + count_by (λ d. same_place d x) cs
    v = count_by-cons (λ d. same_place d x) c cs

    go : (t : Bool) → same_place c x ≡ t → count_by (λ d. same_place d x) cs ≤ 1
        → count_by (λ d. same_place d x) (c ∷ cs) ≤ 1
    go false e r = let z : cond (same_place c x) 1 0 ≡ 0 = ap {B = ℕ} (λ (t : Bool). cond t 1 0) e in
        omega (arith, v, r, z)
    go true e r =
        let same : c ≡ x = same_is c x e in
        let none = none_listed cs x (ap (lists cs) (sym same) ∙ a.0) in
        let z : cond (same_place c x) 1 0 ≡ 1 = ap {B = ℕ} (λ (t : Bool). cond t 1 0) e in
        omega (arith, v, none, z)

pub all_are_asked : (tries : ℕ) (es : List Event) (cs : List BlockAt) (qs : List Ask) → AreApart cs
    → EachAsked tries es cs qs → AreAsked tries es (blocks_of es cs) qs
all_are_asked tries es cs qs apart h = record {
  own = all_asked tries es IsFor (λ c a i. i.own) cs qs h;
  fresh = all_asked tries es (IsFreshAsk es) (λ c a i. record {
    planned = at_ask (λ p k. block_at es p k ≡ (key_of a).2 ∷ []) tries es c a i i.planned;
    fresh =
        at_ask (λ p k. is_expired es p k ≡ false) tries es c a i i.fresh;
  }) cs qs h;
  tried = all_asked tries es (HasTry tries es) (λ c a i. record {
    fresh = at_ask (λ p k. is_expired es p k ≡ false) tries es c a i i.fresh;
    left =
        at_ask (λ p k. count_by (expires p k) es < tries) tries es c a i i.left;
  }) cs qs h;
  missing = all_asked tries es (IsMissingAsk es) (λ c a i. at_ask (IsMissing es) tries es c a i i.missing) cs qs h;
  unkept = unkept tries es cs qs h;
  once = λ p k. let e = pairs tries es p k cs qs h in let o = apart_once cs (record { plan = p; block = k }) apart in
      omega (arith, e, o);
  pending = λ x r. let e = ap (λ (l : List PlannedBlock). count_by (is_one x r) l) (waiting tries es cs qs h) in
      omega (arith, e);
}

-- ---- the walk over the places

pub each_at : {A : Type 0} (P : A → Type 0) (xs : List A) (i : ℕ) (d : A) → i < length xs → Each P xs
    → P (get_or xs i d)
each_at P [] i d h a = absurd (omega arith)
each_at P (x ∷ xs) zero d h a = a.0
each_at P (x ∷ xs) (suc i) d h a = each_at P xs i d (omega arith) a.1

fetches_more : (ls : List LedPlan) (n : ℕ) (cs : List BlockAt) (fs : List Fetch) (c : BlockAt) (f : Fetch)
    → AreFetches ls n cs fs → IsFetch ls c (min (n + length cs) (2 ^ 64 - 1)) f
    → AreFetches ls n (cs ++ c ∷ []) (fs ++ f ∷ [])
fetches_more ls n [] [] c f h i = (
  subst (λ (k : ℕ). IsFetch ls c (min k (2 ^ 64 - 1)) f)
      (let z : n + 0 ≡ n = omega arith in z) i,
  tt,
)
fetches_more ls n [] (g ∷ fs) c f h i = absurd h
fetches_more ls n (d ∷ cs) [] c f h i = absurd h
fetches_more ls n (d ∷ cs) (g ∷ fs) c f h i = (
  h.0,
  fetches_more ls (n + 1) cs fs c f h.1 (subst (λ (k : ℕ). IsFetch ls c (min k (2 ^ 64 - 1)) f)
      (let z : n + suc (length cs) ≡ n + 1 + length cs = omega arith in z) i),
)

pub fetches_step : (ls : List LedPlan) (n i number : ℕ) (cs : List BlockAt) (d : BlockAt) (fs gs : List Fetch)
    → i < length cs → AreFetches ls n (take i cs) fs → AddsFetch ls (get_or cs i d) number fs gs
    → number ≡ min (n + i) (2 ^ 64 - 1) → AreFetches ls n (take (i + 1) cs) gs
fetches_step ls n i number cs d fs gs h all adds e =
    let long : length (take i cs) ≡ i = length-take-le i cs (omega arith) in
    let mine : IsFetch ls (get_or cs i d) (min (n + length (take i cs)) (2 ^ 64 - 1)) adds.fetch =
    subst (λ (k : ℕ). IsFetch ls (get_or cs i d) k adds.fetch)
    (e ∙ ap (λ (k : ℕ). min (n + k) (2 ^ 64 - 1)) (sym long)) adds.is_for in
    subst (AreFetches ls n (take (i + 1) cs)) (sym adds.added)
    (subst (λ (ds : List BlockAt). AreFetches ls n ds (fs ++ adds.fetch ∷ [])) (sym (take_more cs i d h))
    (fetches_more ls n (take i cs) fs (get_or cs i d) adds.fetch all mine))

-- ---- over any start

-- a run that goes on is to stop for want of memory
pub memory_fails : (g : Setup) (b : RunTold) (m : Moment) (o : Loose) (l : Led) (e : FileReconstructionError)
    → e ≡ error.OutOfMemory → IsGoing g b m o l → IsFailing g b m e
memory_fails g b m o l e memory s = record {
  slack = s.slack;
  ties = s.ties;
  left = subst (λ (x : FileReconstructionError). MayLeave (Some x) b.clients s.slack) (sym memory)
      (short_leaves b.clients s.slack);
  cause = subst (Cause g s.slack.heard b m.told) (sym memory) tt;
  unfailed = any_unfailed b.sink.faults m.told.sink.faults e s.unfailed;
  spent = λ h. absurd (let z : error.OutOfMemory ≡ error.UrlExpired = sym memory ∙ h in cc);
  halted = λ yes. memory_halted e memory;
  under = λ u. memory_spent e memory u;
  cache_tells = s.cache_tells;
}

pub fetch_leads : (l : Led) (n : ℕ) (cs : List BlockAt) (answer : Result (List Fetch) FileReconstructionError)
    → IfOk answer (AreFetches l.plans n cs) → IfErr answer (λ e. e ≡ error.OutOfMemory) → FetchLeads l cs answer
fetch_leads l n cs (Ok fs) h memory g m = record {
  ok = λ b s list. all_are_asked g.tries m.events cs (map ask_of fs) list.apart
      (each_asked g b m.events s.slack l cs n fs s.led list.missing h);
  err = λ b s. tt;
}
fetch_leads l n cs (Err e) h memory g m = record {
  ok = λ b s list. tt;
  err = λ b s. memory_fails g b m _ l e memory s;
}
