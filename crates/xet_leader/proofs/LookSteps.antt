-- Looks one after another, and when the next one may be made.
use Rattle.std.proofs.Common.{◌≡◌, ℕ, ◌+◌, ◌-◌, ◌<◌, ◌≤◌, ◌==◌, ◌&&◌, suc, zero, Bool, true, false, cond, List, [], ◌∷◌, ◌++◌, length, take, drop, get_or, refl, sym, subst, ◌∙◌, ap, arith, inl, inr, ⊎_elim, Result, Ok, Err}
use Rattle.std.specs.Prelude.{◌⊎◌, Option, Some, None, IfOk, OnErr, slice_get, slice_set}
use Rattle.std.proofs.lemmas.Bool.{or_parts}
use Rattle.std.proofs.lemmas.List.{drop_more, take-append-drop, take_all, take_more}
use Rattle.std.proofs.lemmas.Option.{slice_get_read, slice_get_within}
use Rattle.xet_outside.specs.Told.{CacheTold}
use Rattle.xet_error.specs.declared.error.FileReconstructionError.{FileReconstructionError}
use Rattle.xet_error.specs.declared.error.FileReconstructionError.TheVariants as error
use Rattle.xet_offers.specs.declared.reconstruction_terms.xorb_block.XorbBlock.{XorbBlock}
use Rattle.xet_offers.specs.declared.reconstruction_terms.xorb_block.XorbBlockData.{XorbBlockData}
use Rattle.xet_events.specs.declared.event.Event.{Event}
use Rattle.xet_events.specs.declared.event.Event.TheVariants.{Cached}
use Rattle.xet_events.specs.Allowed.{IsAllowed, IsMissing, IsRunning}
use Rattle.xet_events.specs.Events.{keeps}
use Rattle.xet_ties.specs.PartCalls.{FoundBlock}
use Rattle.xet_ties.proofs.CallerLemmas.{IsStill, missing-push, running-push}
use Rattle.xet_leader.specs.ByNumber.{plan_index}
use Rattle.xet_leader.specs.declared.leader.LedPlan.{LedPlan}
use Rattle.xet_leader.specs.declared.missing_blocks.BlockAt.{BlockAt}
use Rattle.xet_leader.specs.FetchLists.{Each}
use Rattle.xet_leader.specs.KeptBlocks.{with_block}
use Rattle.xet_leader.specs.Lacking.{lists, missing_of, same_place}
use Rattle.xet_leader.specs.Led.{Led}
use Rattle.xet_leader.specs.Looks.{CanLook, CanLookAll, CanRequest, EndsShort, IsLedBy, LookedBlock, LookedIn, LookedPlace, LooksCall, LooksFrom, LookTurn}
use Rattle.xet_leader.proofs.AwaitedBlocks.{awaited, awaited_request}
use Rattle.xet_leader.proofs.FetchFacts.{missing_lists, same_back}
use Rattle.xet_leader.proofs.PlanFacts.{each_weaker}

-- ---- lists with one element that is another one

pub get_set : {A : Type 0} (xs : List A) (k j : ℕ) (y z : A) → slice_get xs j ≡ Some z
    → ((j ≡ k) × (slice_get (slice_set xs k y) j ≡ Some y)) ⊎ (slice_get (slice_set xs k y) j ≡ Some z)
get_set [] k j y z h = absurd (cc)
get_set (x ∷ xs) zero zero y z h = inl (refl, refl)
get_set (x ∷ xs) zero (suc j) y z h = inr h
get_set (x ∷ xs) (suc k) zero y z h = inr h
get_set {A} (x ∷ xs) (suc k) (suc j) y z h =
    ⊎_elim
    (λ (e : (j ≡ k) × (slice_get (slice_set xs k y) j ≡ Some y)). inl (ap suc e.0, e.1))
    (λ (e : slice_get (slice_set xs k y) j ≡ Some z). inr e)
    (get_set xs k j y z h)

pub set_own : {A : Type 0} (xs : List A) (k : ℕ) (x : A) → slice_get xs k ≡ Some x → slice_set xs k x ≡ xs
set_own [] k x h = refl
set_own {A} (y ∷ xs) zero x h = let same : y ≡ x = cc in ap (λ (z : A). z ∷ xs) (sym same)
set_own {A} (y ∷ xs) (suc k) x h = ap (λ (zs : List A). y ∷ zs) (set_own xs k x h)

pub same_found : {A : Type 0} (x y : A) (xs : List A) (k j : ℕ) → slice_get xs k ≡ Some x → slice_get xs j ≡ Some y
    → j ≡ k → x ≡ y
same_found {A} x y xs k j h m e = let z : slice_get xs k ≡ Some y = ap (slice_get xs) (sym e) ∙ m in cc

-- a plan at a place that is another one of the same number
pub index_set : (ls : List LedPlan) (i : ℕ) (l k : LedPlan) (p : ℕ) → slice_get ls i ≡ Some l → k.number ≡ l.number
    → plan_index (slice_set ls i k) p ≡ plan_index ls p
index_set [] i l k p h n = refl
index_set (m ∷ ls) zero l k p h n = let same : m ≡ l = cc in
    ap (λ (q : ℕ). p - q) (n ∙ ap (λ (x : LedPlan). x.number) (sym same))
index_set (m ∷ ls) (suc i) l k p h n = refl

-- ---- one look

pub now_index : (x y : XorbBlock) (p : ℕ) (es fs : List Event) (o : Option XorbBlockData) → FoundBlock x y p es fs o
    → y.xorb_block_index ≡ x.xorb_block_index
now_index x y p es fs None f = ap (λ (z : XorbBlock). z.xorb_block_index) f.0
now_index x y p es fs (Some d) f = ap (λ (z : XorbBlock). z.xorb_block_index) f.0

pub still : (p k : ℕ) → IsStill (Cached p k)
still p k = record { terms = refl; admits = refl; takes = refl; error = refl }

-- a run goes on after it
look_running : (x y : XorbBlock) (p : ℕ) (es fs : List Event) (o : Option XorbBlockData) → FoundBlock x y p es fs o
    → IsRunning es → IsRunning fs
look_running x y p es fs None f r = subst IsRunning (sym f.1) r
look_running x y p es fs (Some d) f r = subst IsRunning (sym f.1)
    (running-push es (Cached p x.xorb_block_index) (still p x.xorb_block_index) r)

-- and another block stays missing
pub look_missing : (x y : XorbBlock) (c d : BlockAt) (es fs : List Event) (o : Option XorbBlockData)
    → x.xorb_block_index ≡ c.block → same_place d c ≡ false → FoundBlock x y c.plan es fs o
    → IsMissing es d.plan d.block → IsMissing fs d.plan d.block
look_missing x y c d es fs None n off f m = subst (λ (l : List Event). IsMissing l d.plan d.block) (sym f.1) m
look_missing x y c d es fs (Some z) n off f m =
    let other : keeps d.plan d.block (Cached c.plan x.xorb_block_index) ≡ false =
    ap (λ (k : ℕ). c.plan == d.plan && k == d.block) n ∙ same_back d c off in
    subst (λ (l : List Event). IsMissing l d.plan d.block) (sym f.1)
    (missing-push es (Cached c.plan x.xorb_block_index) d.plan d.block (still c.plan x.xorb_block_index) other m)

-- each block can be requested after it
request_next : (before after : CacheTold) (es fs : List Event) (ls ms : List LedPlan) (c d : BlockAt) (found : Bool)
    → LookedPlace before after es fs ls ms c found → CanRequest ls d → CanRequest ms d
request_next before after es fs ls ms c d found l a =
    let i = plan_index ls c.plan in
    let now = now_index l.block l.now c.plan es fs l.looked.found l.looked.is in
    let place : plan_index ms d.plan ≡ plan_index ls d.plan =
    ap (λ (ks : List LedPlan). plan_index ks d.plan) l.is
    ∙ index_set ls i l.plan (with_block l.plan c.block l.now) d.plan l.at refl in
    let at : (p : LedPlan) → slice_get (slice_set ls i (with_block l.plan c.block l.now))
    (plan_index ls d.plan) ≡ Some p → slice_get ms (plan_index ms d.plan) ≡ Some p =
    (λ p h. ap (λ (ks : List LedPlan). slice_get ks (plan_index ms d.plan)) l.is
    ∙ ap (slice_get (slice_set ls i (with_block l.plan c.block l.now))) place ∙ h) in
    ⊎_elim
    (λ (e : (plan_index ls d.plan ≡ i) × (slice_get (slice_set ls i (with_block l.plan c.block l.now))
    (plan_index ls d.plan) ≡ Some (with_block l.plan c.block l.now))).
    let mine : l.plan ≡ a.plan = same_found l.plan a.plan ls i (plan_index ls d.plan) l.at a.at e.0 in
    let of_plan : slice_get l.plan.block.blocks d.block ≡ Some a.block =
    ap (λ (p : LedPlan). slice_get p.block.blocks d.block) mine ∙ a.of_plan in
    let url : d.block < length l.plan.block.urls.retrieval_urls =
    subst (λ (p : LedPlan). d.block < length p.block.urls.retrieval_urls) (sym mine) a.url in
    ⊎_elim
    (λ (k : (d.block ≡ c.block) × (slice_get (slice_set l.plan.block.blocks c.block l.now) d.block ≡ Some l.now)).
    let same : l.block ≡ a.block = same_found l.block a.block l.plan.block.blocks c.block d.block l.of_plan of_plan
    k.0 in
    let z : CanRequest ms d = record {
      plan = with_block l.plan c.block l.now;
      at = at (with_block l.plan c.block l.now) e.1;
      block = l.now;
      of_plan = k.1;
      index =
          now ∙ ap (λ (x : XorbBlock). x.xorb_block_index) same ∙ a.index;
      url = url;
    } in z)
    (λ (k : slice_get (slice_set l.plan.block.blocks c.block l.now) d.block ≡ Some a.block).
    let z : CanRequest ms d = record {
      plan = with_block l.plan c.block l.now;
      at = at (with_block l.plan c.block l.now) e.1;
      block = a.block;
      of_plan = k;
      index = a.index;
      url = url;
    } in
    z)
    (get_set l.plan.block.blocks c.block d.block l.now a.block of_plan))
    (λ (e : slice_get (slice_set ls i (with_block l.plan c.block l.now)) (plan_index ls d.plan) ≡ Some a.plan).
    let z : CanRequest ms d = record {
      plan = a.plan;
      at = at a.plan e;
      block = a.block;
      of_plan = a.of_plan;
      index = a.index;
      url = a.url;
    } in z)
    (get_set ls i (plan_index ls d.plan) (with_block l.plan c.block l.now) a.plan a.at)

-- and another one may be looked for
look_next : (before after : CacheTold) (es fs : List Event) (ls ms : List LedPlan) (c d : BlockAt) (found : Bool)
    → CanLook es ls c → LookedPlace before after es fs ls ms c found → same_place d c ≡ false → CanLook es ls d
    → CanLook fs ms d
look_next before after es fs ls ms c d found can l off a =
    let r = can.request in
    let i = plan_index ls c.plan in
    let plan : l.plan ≡ r.plan = same_found l.plan r.plan ls i i l.at r.at refl in
    let block : l.block ≡ r.block = same_found l.block r.block l.plan.block.blocks c.block c.block l.of_plan
    (ap (λ (p : LedPlan). slice_get p.block.blocks c.block) plan ∙ r.of_plan) refl in
    let own : l.block.xorb_block_index ≡ c.block = ap (λ (x : XorbBlock). x.xorb_block_index) block ∙ r.index in
    record {
      request = request_next before after es fs ls ms c d found l a.request;
      missing = look_missing l.block l.now c d es fs l.looked.found own off l.looked.is a.missing;
    }

others : (before after : CacheTold) (es fs : List Event) (ls ms : List LedPlan) (c : BlockAt) (found : Bool)
    (ds : List BlockAt) → CanLook es ls c → LookedPlace before after es fs ls ms c found → lists ds c ≡ false
    → Each (CanLook es ls) ds → Each (CanLook fs ms) ds
others before after es fs ls ms c found [] can l off a = tt
others before after es fs ls ms c found (d ∷ ds) can l off a =
    let p = or_parts (same_place d c) (lists ds c) off in (
      look_next before after es fs ls ms c d found can l p.0 a.0,
      others before after es fs ls ms c found ds can l p.1 a.1,
    )

pub can_next : (before after : CacheTold) (es fs : List Event) (ls ms : List LedPlan) (c : BlockAt)
    (cs : List BlockAt) (found : Bool) → CanLookAll es ls (c ∷ cs) → LookedPlace before after es fs ls ms c found
    → CanLookAll fs ms cs
can_next before after es fs ls ms c cs found can l = record {
  running = look_running l.block l.now c.plan es fs l.looked.found l.looked.is can.running;
  each = others before after es fs ls ms c found cs can.each.0 l can.apart.0 can.each.1;
  apart = can.apart.1;
}

-- ---- looks one after another

-- the others may be looked for after looks for the first ones
pub looks_ready : (before after : CacheTold) (es fs : List Event) (ls ms : List LedPlan) (cs ds left : List BlockAt)
    → CanLookAll es ls (cs ++ ds) → LooksFrom before after es fs ls ms cs left → CanLookAll fs ms ds
looks_ready before after es fs ls ms [] ds left can l =
    subst (λ (x : List Event). CanLookAll x ms ds) (sym l.1)
    (subst (λ (x : List LedPlan). CanLookAll es x ds) (sym l.2) can)
looks_ready before after es fs ls ms (c ∷ cs) ds left can (middle, gs, ks, found, rest, one, is, more) =
    looks_ready middle after gs fs ks ms cs ds rest
    (can_next before middle es gs ls ks c (cs ++ ds) found can one) more

cond_more : (f h : Bool) (c d : BlockAt) (rest left : List BlockAt) → left ≡ cond f rest (d ∷ rest)
    → cond h left (left ++ c ∷ []) ≡ cond f (cond h rest (rest ++ c ∷ [])) (d ∷ cond h rest (rest ++ c ∷ []))
cond_more true true c d rest left e = e
cond_more true false c d rest left e = ap (λ (l : List BlockAt). l ++ c ∷ []) e
cond_more false true c d rest left e = e
cond_more false false c d rest left e = ap (λ (l : List BlockAt). l ++ c ∷ []) e

pub looks_more : (before middle after : CacheTold) (es gs fs : List Event) (ls ks ms : List LedPlan)
    (cs left : List BlockAt) (c : BlockAt) (found : Bool) → LooksFrom before middle es gs ls ks cs left
    → LookedPlace middle after gs fs ks ms c found
    → LooksFrom before after es fs ls ms (cs ++ c ∷ []) (cond found left (left ++ c ∷ []))
looks_more before middle after es gs fs ls ks ms [] left c found l one =
    let first : LookedPlace before after es fs ls ms c found =
    subst (λ (x : List LedPlan). LookedPlace before after es fs x ms c found) l.2
    (subst (λ (x : List Event). LookedPlace before after x fs ks ms c found) l.1
    (subst (λ (x : CacheTold). LookedPlace x after gs fs ks ms c found) l.0 one)) in (
      after,
      fs,
      ms,
      found,
      [],
      first,
      ap (λ (x : List BlockAt). cond found x (x ++ c ∷ [])) l.3,
      (refl, refl, refl, refl),
    )
looks_more before middle after es gs fs ls ks ms (d ∷ cs) left c found (mid, hs, js, f, rest, first, is, more) one = (
  mid,
  hs,
  js,
  f,
  cond found rest (rest ++ c ∷ []),
  first,
  cond_more f found c d rest left is,
  looks_more mid middle after hs gs fs js ks ms cs rest c found more one,
)

-- each block can be requested after looks, and those that are left are some of these
requests_after : (before after : CacheTold) (es fs : List Event) (ls ms : List LedPlan) (cs left : List BlockAt)
    (d : BlockAt) → LooksFrom before after es fs ls ms cs left → CanRequest ls d → CanRequest ms d
requests_after before after es fs ls ms [] left d l a = subst (λ (ks : List LedPlan). CanRequest ks d) (sym l.2) a
requests_after before after es fs ls ms (c ∷ cs) left d (middle, gs, ks, found, rest, one, is, more) a =
    requests_after middle after gs fs ks ms cs rest d more (request_next before middle es gs ls ks c d found one a)

each_left : (P : BlockAt → Type 0) (before after : CacheTold) (es fs : List Event) (ls ms : List LedPlan)
    (cs left : List BlockAt) → LooksFrom before after es fs ls ms cs left → Each P cs → Each P left
each_left P before after es fs ls ms [] left l a = subst (Each P) (sym l.3) tt
each_left P before after es fs ls ms (c ∷ cs) left (middle, gs, ks, found, rest, one, is, more) a =
    subst (Each P) (sym is) (by found (each_left P middle after gs fs ks ms cs rest more a.1))
  where
    by : (v : Bool) → Each P rest → Each P (cond v rest (c ∷ rest))
    by true h = h
    by false h = (a.0, h)

-- ---- what the leader's missing blocks allow

pub can_all : (es : List Event) (l : Led) → IsLedBy es l → CanLookAll es l.plans (missing_of l)
can_all es l a =
    let list = missing_lists a.setup a.start es a.slack a.stale l a.led in
    record {
      running = a.led.running;
      each = each_weaker (λ c. IsMissing es c.plan c.block) (CanLook es l.plans) (missing_of l)
          (λ c m. record {
            request = awaited_request a.setup a.start es a.slack a.stale l c
                (awaited a.setup a.start es a.slack a.stale l a.led c m);
            missing = m;
          })
          list.missing;
      apart = list.apart;
    }

-- those that are left can be requested
pub left_able : (before after : CacheTold) (es fs : List Event) (l k : Led)
    (answer : Result (List BlockAt) FileReconstructionError) → IsLedBy es l → LookTurn before after es fs l k answer
    → IfOk answer (λ left. Each (CanRequest k.plans) left)
left_able before after es fs l k (Err e) a t = tt
left_able before after es fs l k (Ok left) a t =
    let from : LooksFrom before after es fs l.plans k.plans (missing_of l) left = t.looks.ok in
    each_left (CanRequest k.plans) before after es fs l.plans k.plans (missing_of l) left from
    (each_weaker (CanLook es l.plans) (CanRequest k.plans) (missing_of l)
    (λ c h. requests_after before after es fs l.plans k.plans (missing_of l) left c from h.request)
    (can_all es l a).each)

-- ---- a look in a block, in its plan, and in the plans

-- the block that was read
pub block_read : (l : LedPlan) (xs : List XorbBlock) (n k : ℕ) (x : XorbBlock) → xs ≡ l.block.blocks → n ≡ length xs
    → k < length l.block.blocks → x ≡ get_or xs k x → slice_get l.block.blocks k ≡ Some x
block_read l xs n k x same many h is =
    let long : length xs ≡ length l.block.blocks = ap length same in
    ap (λ (ys : List XorbBlock). slice_get ys k) (sym same)
    ∙ slice_get_read xs n k x many (omega (arith, h, many, long)) is

pub looked_in : (before after : CacheTold) (es fs : List Event) (l m : LedPlan) (c : BlockAt) (x y : XorbBlock)
    (answer : Result Bool FileReconstructionError) → slice_get l.block.blocks c.block ≡ Some x
    → m ≡ with_block l c.block y → LookedBlock before after es fs x y c.plan answer
    → LookedIn before after es fs l m c answer
looked_in before after es fs l m c x y answer h is a = record { block = x; of_plan = h; now = y; looked = a; is = is }

-- the plan has it again
pub block_again : (l : LedPlan) (xs zs : List XorbBlock) (k : ℕ) (y : XorbBlock) → xs ≡ l.block.blocks
    → zs ≡ slice_set xs k y → record l { block = record l.block { blocks = zs } } ≡ with_block l k y
block_again l xs zs k y same is =
    ap (λ (bs : List XorbBlock). record l { block = record l.block { blocks = bs } })
    (is ∙ ap (λ (ys : List XorbBlock). slice_set ys k y) same)

pub place_ok : (before after : CacheTold) (es fs : List Event) (ls ms : List LedPlan) (p q : LedPlan) (c : BlockAt)
    (answer : Result Bool FileReconstructionError) → slice_get ls (plan_index ls c.plan) ≡ Some p
    → ms ≡ slice_set ls (plan_index ls c.plan) q → LookedIn before after es fs p q c answer
    → IfOk answer (LookedPlace before after es fs ls ms c)
place_ok before after es fs ls ms p q c (Err e) at is l = tt
place_ok before after es fs ls ms p q c (Ok found) at is l = record {
  plan = p;
  at = at;
  block = l.block;
  of_plan = l.of_plan;
  now = l.now;
  looked = l.looked.looked.0;
  entries = l.looked.entries;
  is = is ∙ ap (slice_set ls (plan_index ls c.plan)) l.is;
  answer = l.looked.looked.1;
}

pub place_err : (before after : CacheTold) (es fs : List Event) (p q : LedPlan) (c : BlockAt)
    (answer : Result Bool FileReconstructionError) → LookedIn before after es fs p q c answer
    → OnErr answer (EndsShort before after es fs)
place_err before after es fs p q c (Ok found) l = tt
place_err before after es fs p q c (Err e) l = inr
    (record { block = l.block; short = l.looked.short; entries = l.looked.entries })

-- the plan that stands at the place
plan_at : (es : List Event) (ls : List LedPlan) (i : ℕ) (p : LedPlan) (c : BlockAt) → i ≡ plan_index ls c.plan
    → p ≡ get_or ls i p → CanLook es ls c → slice_get ls (plan_index ls c.plan) ≡ Some p
plan_at es ls i p c e is can =
    let w : plan_index ls c.plan < length ls = slice_get_within ls
    (plan_index ls c.plan) can.request.plan can.request.at in
    let here : i < length ls = omega (arith, e, w) in
    ap (slice_get ls) (sym e) ∙ slice_get_read ls (length ls) i p refl here is

-- has the block
block_at_place : (es : List Event) (ls : List LedPlan) (i : ℕ) (p : LedPlan) (c : BlockAt) → i ≡ plan_index ls c.plan
    → p ≡ get_or ls i p → (can : CanLook es ls c) → slice_get p.block.blocks c.block ≡ Some can.request.block
block_at_place es ls i p c e is can =
    let r = can.request in
    let k = plan_index ls c.plan in
    let same : r.plan ≡ p = same_found r.plan p ls k k r.at (plan_at es ls i p c e is can) refl in
    ap (λ (q : LedPlan). slice_get q.block.blocks c.block) (sym same) ∙ r.of_plan

pub place_within : (es : List Event) (ls : List LedPlan) (n i : ℕ) (c : BlockAt) → n ≡ length ls
    → i ≡ plan_index ls c.plan → CanLook es ls c → i < n
place_within es ls n i c many e can =
    let w : plan_index ls c.plan < length ls = slice_get_within ls
    (plan_index ls c.plan) can.request.plan can.request.at in
    omega (arith, e, w, many)

pub block_within : (es : List Event) (ls : List LedPlan) (i : ℕ) (p : LedPlan) (c : BlockAt)
    → i ≡ plan_index ls c.plan → p ≡ get_or ls i p → CanLook es ls c → c.block < length p.block.blocks
block_within es ls i p c e is can = slice_get_within p.block.blocks c.block can.request.block
    (block_at_place es ls i p c e is can)

-- and it may be recorded as found
pub block_allowed : (es : List Event) (ls : List LedPlan) (i : ℕ) (p : LedPlan) (c : BlockAt)
    → i ≡ plan_index ls c.plan → p ≡ get_or ls i p → IsRunning es → CanLook es ls c → (x : XorbBlock)
    → slice_get p.block.blocks c.block ≡ Some x → IsAllowed es (Cached c.plan x.xorb_block_index)
block_allowed es ls i p c e is running can x at =
    let r = can.request in
    let same : r.block ≡ x = same_found r.block x p.block.blocks c.block c.block
    (block_at_place es ls i p c e is can) at refl in
    let own : x.xorb_block_index ≡ c.block = ap (λ (y : XorbBlock). y.xorb_block_index) (sym same) ∙ r.index in
    (running, subst (λ (k : ℕ). IsMissing es c.plan k) (sym own) can.missing)

-- the place that was looked into, by the plan that stood there
pub place_done : (before after : CacheTold) (es fs : List Event) (ls : List LedPlan) (i : ℕ) (p q : LedPlan)
    (c : BlockAt) (answer : Result Bool FileReconstructionError) → i ≡ plan_index ls c.plan → p ≡ get_or ls i p
    → CanLook es ls c → LookedIn before after es fs p q c answer
    → IfOk answer (LookedPlace before after es fs ls (slice_set ls i q) c)
place_done before after es fs ls i p q c answer e is can l =
    place_ok before after es fs ls (slice_set ls i q) p q c answer (plan_at es ls i p c e is can)
    (ap (λ (j : ℕ). slice_set ls j q) e) l

-- ---- the walk

-- the next one may be looked for
pub ready_at : (before after : CacheTold) (es fs : List Event) (ls ms : List LedPlan) (cs left : List BlockAt) (i : ℕ)
    (d : BlockAt) → i < length cs → CanLookAll es ls cs → LooksFrom before after es fs ls ms (take i cs) left
    → IsRunning fs × CanLook fs ms (get_or cs i d)
ready_at before after es fs ls ms cs left i d h can l =
    let r = looks_ready before after es fs ls ms (take i cs) (drop i cs) left
    (subst (CanLookAll es ls) (sym (take-append-drop i cs)) can) l in
    let all : Each (CanLook fs ms) (get_or cs i d ∷ drop (i + 1) cs) =
    subst (Each (CanLook fs ms)) (drop_more cs i d h) r.each in
    (r.running, all.0)

-- and was
pub looks_step : (before middle after : CacheTold) (es gs fs : List Event) (ls ks ms : List LedPlan)
    (cs left now : List BlockAt) (i : ℕ) (d : BlockAt) (found : Bool) → i < length cs
    → LooksFrom before middle es gs ls ks (take i cs) left
    → LookedPlace middle after gs fs ks ms (get_or cs i d) found
    → now ≡ cond found left (left ++ get_or cs i d ∷ []) → LooksFrom before after es fs ls ms (take (i + 1) cs) now
looks_step before middle after es gs fs ls ks ms cs left now i d found h l one is =
    subst (LooksFrom before after es fs ls ms (take (i + 1) cs)) (sym is)
    (subst (λ (ds : List BlockAt). LooksFrom before after es fs ls ms ds
    (cond found left (left ++ get_or cs i d ∷ []))) (sym (take_more cs i d h))
    (looks_more before middle after es gs fs ls ks ms (take i cs) left (get_or cs i d) found l one))

-- the look found no memory
pub short_at : (before middle after : CacheTold) (es gs fs : List Event) (ls ks ms : List LedPlan)
    (cs left : List BlockAt) (i : ℕ) (e : FileReconstructionError)
    → LooksFrom before middle es gs ls ks (take i cs) left → EndsShort middle after gs fs
    → e ≡ error.OutOfMemory → LooksCall before after es fs ls ms cs (Err e)
short_at before middle after es gs fs ls ks ms cs left i e l short memory = record {
  ok = tt;
  err = record {
    count = i;
    middle = middle;
    events = gs;
    plans = ks;
    left = left;
    from = l;
    short = short;
  };
  memory = memory;
}

-- all were made
pub looks_all : (before after : CacheTold) (es fs : List Event) (ls ms : List LedPlan) (cs left : List BlockAt) (i : ℕ)
    → length cs ≤ i → LooksFrom before after es fs ls ms (take i cs) left
    → LooksCall before after es fs ls ms cs (Ok left)
looks_all before after es fs ls ms cs left i h l = record {
  ok = subst (λ (ds : List BlockAt). LooksFrom before after es fs ls ms ds left) (take_all i cs h) l;
  err = tt;
  memory = tt;
}

-- the list found no memory for it
pub short_here : (before middle after : CacheTold) (es gs fs : List Event) (ls ks ms : List LedPlan)
    (cs left : List BlockAt) (i : ℕ) (d : BlockAt) (found : Bool) (e : FileReconstructionError) → i < length cs
    → LooksFrom before middle es gs ls ks (take i cs) left
    → LookedPlace middle after gs fs ks ms (get_or cs i d) found
    → e ≡ error.OutOfMemory → LooksCall before after es fs ls ms cs (Err e)
short_here before middle after es gs fs ls ks ms cs left i d found e h l one memory = record {
  ok = tt;
  err = record {
    count = i + 1;
    middle = after;
    events = fs;
    plans = ms;
    left = cond found left (left ++ get_or cs i d ∷ []);
    from =
        looks_step before middle after es gs fs ls ks ms cs left
        (cond found left (left ++ get_or cs i d ∷ [])) i d found h l one refl;
    short = inl (refl, refl);
  };
  memory = memory;
}
