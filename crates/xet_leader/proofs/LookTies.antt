-- A run after looks for its missing blocks.
use Rattle.std.proofs.Common.{◌≡◌, ℕ, ◌<◌, ◌≤◌, Bool, true, false, cond, List, [], ◌∷◌, ◌++◌, refl, sym, subst, ◌∙◌, ap, arith, inl, inr, append_assoc}
use Rattle.std.specs.Prelude.{All, Contains, IfSome, MatchOption, Option, Some, None, count_by, slice_get, slice_set}
use Rattle.std.specs.Option.{is_some}
use Rattle.std.proofs.lemmas.List.{append-nil}
use Rattle.std.proofs.lemmas.List.Elements.{All-contains, Contains-append_right}
use Rattle.xet_base.specs.declared.cas_types.ChunkRange.{ChunkRange}
use Rattle.xet_base.specs.declared.merklehash.MerkleHash.{MerkleHash}
use Rattle.xet_base.specs.Store.{Store}
use Rattle.xet_outside.specs.declared.block.BlockBytes.{BlockBytes}
use Rattle.xet_outside.specs.Plan.{block_of}
use Rattle.xet_outside.specs.Told.{CacheEntry, CacheTold, Holds}
use Rattle.xet_outside.proofs.CallerLemmas.{count_by-cons}
use Rattle.xet_offers.specs.declared.reconstruction_terms.xorb_block.XorbBlock.{XorbBlock}
use Rattle.xet_offers.specs.declared.reconstruction_terms.xorb_block.XorbBlockData.{XorbBlockData}
use Rattle.xet_offers.specs.BlockChecks.{block_data}
use Rattle.xet_fetch.specs.CachedBlocks.{FoundIn, LookOk, LookedFor, passes_cached}
use Rattle.xet_events.specs.declared.event.Event.{Event}
use Rattle.xet_events.specs.declared.event.Event.TheVariants.{Cached}
use Rattle.xet_events.specs.declared.event.PlannedBlock.{PlannedBlock}
use Rattle.xet_events.specs.Events.{is_kept}
use Rattle.xet_events.specs.Allowed.{IsMissing}
use Rattle.xet_ties.specs.History.{block_at, fetches}
use Rattle.xet_ties.specs.InCall.{Look}
use Rattle.xet_ties.specs.Saids.{IsLookedData, planned_of}
use Rattle.xet_ties.specs.Setup.{CacheTells, IsHonestEntry, IsOver, RunTold, Setup}
use Rattle.xet_ties.specs.Ties.{Slack, is_one}
use Rattle.xet_ties.specs.PartCalls.{FoundBlock, LookedUp, looks_after}
use Rattle.xet_ties.proofs.CallerLemmas.{count-append, count-same, look_up_ties, none_fetched, tie_rest}
use Rattle.xet_parts.proofs.CallerLemmas.{look_tells}
use Rattle.xet_leader.specs.ByNumber.{plan_index}
use Rattle.xet_leader.specs.declared.leader.LedPlan.{LedPlan}
use Rattle.xet_leader.specs.declared.missing_blocks.BlockAt.{BlockAt}
use Rattle.xet_leader.specs.FetchLists.{Each, IsFetchList}
use Rattle.xet_leader.specs.KeptBlocks.{with_block, with_data}
use Rattle.xet_leader.specs.Led.{IsLed, IsLedData, Led, bare}
use Rattle.xet_leader.specs.Looks.{LookedPlace, LooksFrom, blocks_of, to_fetch}
use Rattle.xet_leader.specs.Steady.{IsGoing, Moment}
use Rattle.xet_leader.proofs.AwaitedBlocks.{awaited}
use Rattle.xet_leader.proofs.FoundBlocks.{blocks_push, blocks_stay, list_at, list_found, list_front}
use Rattle.xet_leader.proofs.KeptEvents.{cached_keeps, led_kept}
use Rattle.xet_leader.proofs.LookSteps.{same_found, set_own}
use Rattle.xet_leader.proofs.MoreTold.{led_more, tells_more_looks}
use Rattle.xet_leader.proofs.PlanFacts.{each_weaker}

-- ---- the data that a look gave

-- what was told of the looks grew
pub looks_more_told : (x : XorbBlock) (rs : List ChunkRange) (given : Option BlockBytes) (ls : List Look)
    → (new : List Look) × (looks_after x rs given ls ≡ ls ++ new)
looks_more_told x [] given ls = ([], sym (append-nil ls))
looks_more_told x (r ∷ []) given ls = ((x.xorb_hash, r, given) ∷ [], refl)
looks_more_told x (r ∷ s ∷ rs) given ls = ([], sym (append-nil ls))

last_one : (ls : List Look) (l : Look) → Contains (ls ++ l ∷ []) l
last_one ls l = Contains-append_right ls (l ∷ []) l (0, omega arith, refl)

-- found data is of an entry that a look for the block's one range gave
pub found_data : (x : XorbBlock) (rs : List ChunkRange) (before after : CacheTold) (given : Option BlockBytes)
    (d : XorbBlockData) (ls : List Look) → x.chunk_ranges ≡ rs → LookedFor x rs before after given
    → FoundIn x given (Some d)
    → IsLookedData (looks_after x rs given ls) (bare x) d
found_data x [] before after given d ls is l f =
    absurd (let z = subst (λ (o : Option BlockBytes). FoundIn x o (Some d)) l.1 f in cc)
found_data x (r ∷ s ∷ rs) before after given d ls is l f =
    absurd (let z = subst (λ (o : Option BlockBytes). FoundIn x o (Some d)) l.1 f in cc)
found_data x (r ∷ []) before after None d ls is l f = absurd (cc)
found_data x (r ∷ []) before after (Some e) d ls is l f =
    record { range = r; given = e; one = is; looked = last_one ls (x.xorb_hash, r, Some e); passes = f.0; made = f.1 }

entry_honest : (s : Store) (x : XorbBlock) (r : ChunkRange) (e : BlockBytes) (o : Option (List CacheEntry))
    → MatchOption o ⊥ (λ es. All (IsHonestEntry s) es) → IfSome o (λ es. Contains es (x.xorb_hash, r, e))
    → Holds s x.xorb_hash (r ∷ []) → e ≡ block_of s x.xorb_hash (r ∷ [])
entry_honest s x r e None t c h = absurd t
entry_honest s x r e (Some es) t c h = All-contains (IsHonestEntry s) es (x.xorb_hash, r, e) t c h

-- over a cache that tells a store, the store's own
pub found_honest : (s : Store) (x : XorbBlock) (rs : List ChunkRange) (before after : CacheTold)
    (given : Option BlockBytes) (d : XorbBlockData) → x.chunk_ranges ≡ rs → LookedFor x rs before after given
    → FoundIn x given (Some d) → CacheTells s before
    → Holds s x.xorb_hash rs → d ≡ block_data rs (block_of s x.xorb_hash rs)
found_honest s x [] before after given d is l f t h =
    absurd (let z = subst (λ (o : Option BlockBytes). FoundIn x o (Some d)) l.1 f in cc)
found_honest s x (r ∷ q ∷ rs) before after given d is l f t h =
    absurd (let z = subst (λ (o : Option BlockBytes). FoundIn x o (Some d)) l.1 f in cc)
found_honest s x (r ∷ []) before after None d is l f t h = absurd (cc)
found_honest s x (r ∷ []) before after (Some e) d is l f t h =
    f.1 ∙ ap (λ (rs : List ChunkRange). block_data rs e) is
    ∙ ap (block_data (r ∷ [])) (entry_honest s x r e before.entries t l.4 h)

-- ---- one look

-- where a run stands between its looks: by its cache, history and plans, the blocks that are left and those that wait
abbrev pub Looking : Setup → RunTold → Moment → Led → CacheTold → List Event → List LedPlan → List BlockAt
    → List BlockAt → Type 0
Looking g b m l t es ls acc rest = IsGoing g b (record { told = record m.told { cache = t }; events = es })
    (to_fetch es acc) (record l { plans = ls }) × IsFetchList es l.finished (acc ++ rest)

-- with one more pending block at the other end
last_pending : (x : PlannedBlock) (ps : List PlannedBlock) (h : MerkleHash) (r : ChunkRange)
    → count_by (is_one h r) (ps ++ x ∷ []) ≤ count_by (is_one h r) (x ∷ ps)
last_pending x ps h r =
    let a = count-append (is_one h r) ps (x ∷ []) in
    let b = count_by-cons (is_one h r) x ps in
    let c = count_by-cons (is_one h r) x [] in
    omega (arith, a, b, c)

module _ (g : Setup) (b : RunTold) (m : Moment) (l : Led) where
  -- a block that is missing still
  look_missed : (t u : CacheTold) (es fs : List Event) (ls ms : List LedPlan) (acc cs : List BlockAt) (c : BlockAt)
      (x y : XorbBlock) (look : LookOk x t u None) → u.entries ≡ t.entries → y ≡ x → fs ≡ es → ms ≡ ls
      → block_at es c.plan x.xorb_block_index ≡ planned_of x ∷ [] → block_at es c.plan c.block ≡ planned_of x ∷ []
      → ((s : Store) → IsOver s b.clients → passes_cached x (block_of s x.xorb_hash x.chunk_ranges) ≡ true)
      → Looking g b m l t es ls acc (c ∷ cs) → Looking g b m l u fs ms (acc ++ c ∷ []) cs
  look_missed t u es fs ls ms acc cs c x y look entries same_y same_es same_ls planned at passes w =
      let s = w.0 in
      let n : RunTold = record m.told { cache = t } in
      let sl = s.slack in
      let up : LookedUp x x c.plan t u es es = record { found = None; look = look; is = (refl, refl) } in
      let ties = look_up_ties g b n es es sl t u x x c.plan refl up planned passes s.ties in
      let seen : Slack = record sl {
        looks = looks_after x x.chunk_ranges look.given sl.looks;
        pending = planned_of x ∷ sl.pending;
      } in
      let ps : List PlannedBlock = blocks_of es (acc ++ c ∷ []) in
      let order : ps ≡ sl.pending ++ planned_of x ∷ [] =
      blocks_push es acc c (planned_of x) at ∙ ap (λ (l : List PlannedBlock). l ++ planned_of x ∷ [])
      (sym s.settled.pending) in
      let rest = tie_rest g b (record n { cache = u }) es seen ps sl.spare
      (λ h r. subst (λ (l : List PlannedBlock). count_by (is_one h r) l ≤ count_by (is_one h r)
      (planned_of x ∷ sl.pending)) (sym order) (last_pending (planned_of x) sl.pending h r)) (omega arith) ties in
      let to : Slack = record seen { pending = ps } in
      let grew = looks_more_told x x.chunk_ranges look.given sl.looks in
      let going : IsGoing g b (record { told = record m.told { cache = u }; events = es })
      (to_fetch es (acc ++ c ∷ [])) (record l { plans = ls }) = record {
        slack = to;
        ties = rest;
        settled = record {
          hidden = s.settled.hidden;
          late = s.settled.late;
          lost = s.settled.lost;
          ahead = s.settled.ahead;
          spare = s.settled.spare;
          pending = refl;
          due = s.settled.due;
          step = s.settled.step;
          calm = s.settled.calm;
        };
        led = led_more g b es sl to [] (record l { plans = ls }) (tells_more_looks sl to grew.0 refl grew.1) s.led;
        calm = s.calm;
        unfailed = s.unfailed;
        cache_tells = λ v o k. look_tells v t u entries (s.cache_tells v o k);
      } in
      let list : IsFetchList es l.finished ((acc ++ c ∷ []) ++ cs) =
      subst (IsFetchList es l.finished) (sym (append_assoc acc (c ∷ []) cs)) w.1 in
      subst (λ (e : List Event). Looking g b m l u e ms (acc ++ c ∷ []) cs) (sym same_es)
      (subst (λ (k : List LedPlan). Looking g b m l u es k (acc ++ c ∷ []) cs) (sym same_ls) (going, list))

  -- a block that is found
  look_found : (t u : CacheTold) (es : List Event) (ls : List LedPlan) (acc cs : List BlockAt) (c : BlockAt)
      (p : LedPlan) (x : XorbBlock) (d : XorbBlockData) (look : LookOk x t u (Some d)) → u.entries ≡ t.entries
      → slice_get ls (plan_index ls c.plan) ≡ Some p → p.number ≡ c.plan → slice_get p.block.blocks c.block ≡ Some x
      → x.xorb_block_index ≡ c.block → block_at es c.plan c.block ≡ planned_of x ∷ []
      → ((s : Store) → IsOver s b.clients → passes_cached x (block_of s x.xorb_hash x.chunk_ranges) ≡ true)
      → ((s : Store) → IsOver s b.clients → Holds s x.xorb_hash x.chunk_ranges)
      → Looking g b m l t es ls acc (c ∷ cs) → Looking g b m l u (es ++ Cached c.plan c.block ∷ [])
      (slice_set ls (plan_index ls c.plan) (with_block p c.block (with_data x d))) acc cs
  look_found t u es ls acc cs c p x d look entries at number of_plan index planned passes holds w =
      let s = w.0 in
      let n : RunTold = record m.told { cache = t } in
      let sl = s.slack in
      let e : Event = Cached c.plan c.block in
      let k : Led = record l { plans = ls } in
      let one : Cached c.plan x.xorb_block_index ≡ e = ap (Cached c.plan) index in
      let up : LookedUp x (with_data x d) c.plan t u es (es ++ e ∷ []) =
      record { found = Some d; look = look; is = (refl, ap (λ (v : Event). es ++ v ∷ []) (sym one)) } in
      let there : block_at es c.plan x.xorb_block_index ≡ planned_of x ∷ [] =
      ap (block_at es c.plan) index ∙ planned in
      let ties = look_up_ties g b n es (es ++ e ∷ []) sl t u x (with_data x d) c.plan refl up there passes s.ties in
      let to : Slack = record sl { looks = looks_after x x.chunk_ranges look.given sl.looks } in
      let grew = looks_more_told x x.chunk_ranges look.given sl.looks in
      let given = found_data x x.chunk_ranges t u look.given d sl.looks refl look.looked look.found_in in
      let data_is : IsLedData b to p.number c.block (with_data x d) = record {
        tested = inr given;
        sound = λ v o. inl given;
        honest = λ v o y. found_honest v x x.chunk_ranges t u look.given d refl look.looked look.found_in
            (s.cache_tells v o y) (holds v o);
      } in
      let event : Cached p.number c.block ≡ e = ap (λ (q : ℕ). Cached q c.block) number in
      let missing = list_at es l.finished acc cs c w.1 in
      let unfetched : 0 < count_by (fetches p.number c.block) (es ++ Cached p.number c.block ∷ []) → ⊥ =
      (λ f.
      let same = count-same (fetches p.number c.block) es (Cached p.number c.block) refl in
      let none = none_fetched p.number c.block es
      (ap (λ (q : ℕ). is_kept es q c.block) number ∙ missing.absent) in
      omega (arith, f, same, none)) in
      let led = led_kept g b es (Cached p.number c.block) sl to [] k (plan_index ls c.plan) c.block p x d
      (cached_keeps p.number c.block) (tells_more_looks sl to grew.0 refl grew.1) at of_plan
      (record { data_is = data_is; fetched = λ f. absurd (unfetched f) }) s.led in
      let ms : List LedPlan = slice_set ls (plan_index ls c.plan) (with_block p c.block (with_data x d)) in
      let named : Each (λ a. (v : PlannedBlock) × (block_at es a.plan a.block ≡ v ∷ [])) acc =
      each_weaker (λ a. IsMissing es a.plan a.block)
      (λ a. (v : PlannedBlock) × (block_at es a.plan a.block ≡ v ∷ [])) acc
      (λ a h. let z = awaited g b es sl [] k s.led a h in (planned_of z.block, z.planned))
      (list_front es l.finished acc (c ∷ cs) w.1) in
      let going : IsGoing g b (record { told = record m.told { cache = u }; events = es ++ e ∷ [] })
      (to_fetch (es ++ e ∷ []) acc) (record l { plans = ms }) = record {
        slack = to;
        ties = ties;
        settled = record {
          hidden = s.settled.hidden;
          late = s.settled.late;
          lost = s.settled.lost;
          ahead = s.settled.ahead;
          spare = s.settled.spare;
          pending =
              s.settled.pending ∙ sym (blocks_stay es e acc named);
          due = s.settled.due;
          step = s.settled.step;
          calm = s.settled.calm;
        };
        led = subst (λ (v : Event). IsLed g b (es ++ v ∷ []) to [] (record l { plans = ms })) event led;
        calm = s.calm;
        unfailed = s.unfailed;
        cache_tells = λ v o y. look_tells v t u entries (s.cache_tells v o y);
      } in
      (going, list_found es l.finished acc cs c w.1)

  -- either of them
  pub look_one : (t u : CacheTold) (es fs : List Event) (ls ms : List LedPlan) (acc cs : List BlockAt) (c : BlockAt)
      (found : Bool) → LookedPlace t u es fs ls ms c found → Looking g b m l t es ls acc (c ∷ cs)
      → Looking g b m l u fs ms (cond found acc (acc ++ c ∷ [])) cs
  look_one t u es fs ls ms acc cs c found one w =
      let k : Led = record l { plans = ls } in
      let a = awaited g b es w.0.slack [] k w.0.led c (list_at es l.finished acc cs c w.1) in
      let i = plan_index ls c.plan in
      let plan : a.plan ≡ one.plan = same_found a.plan one.plan ls i i a.at one.at refl in
      let block : a.block ≡ one.block = same_found a.block one.block one.plan.block.blocks c.block c.block
      (ap (λ (p : LedPlan). slice_get p.block.blocks c.block) (sym plan) ∙ a.of_plan) one.of_plan refl in
      let number : one.plan.number ≡ c.plan = ap (λ (p : LedPlan). p.number) (sym plan) ∙ a.number in
      let index : one.block.xorb_block_index ≡ c.block =
      ap (λ (x : XorbBlock). x.xorb_block_index) (sym block) ∙ a.index in
      let none : one.block.kept ≡ None = ap (λ (x : XorbBlock). x.kept) (sym block) ∙ a.none in
      let planned : block_at es c.plan c.block ≡ planned_of one.block ∷ [] =
      a.planned ∙ ap (λ (x : XorbBlock). planned_of x ∷ []) block in
      let P : XorbBlock → Type 0 = λ x. (s : Store) → IsOver s b.clients
      → passes_cached x (block_of s x.xorb_hash x.chunk_ranges) ≡ true in
      let H : XorbBlock → Type 0 = λ x. (s : Store) → IsOver s b.clients → Holds s x.xorb_hash x.chunk_ranges in
      by one.looked.found one.looked.look one.looked.is none number index planned (subst P block a.passes)
      (subst H block a.holds)
    where
      x : XorbBlock
      x = one.block

      by : (o : Option XorbBlockData) → LookOk x t u o → FoundBlock x one.now c.plan es fs o → x.kept ≡ None
          → one.plan.number ≡ c.plan → x.xorb_block_index ≡ c.block → block_at es c.plan c.block ≡ planned_of x ∷ []
          → ((s : Store) → IsOver s b.clients → passes_cached x (block_of s x.xorb_hash x.chunk_ranges) ≡ true)
          → ((s : Store) → IsOver s b.clients → Holds s x.xorb_hash x.chunk_ranges)
          → Looking g b m l u fs ms (cond found acc (acc ++ c ∷ [])) cs
      by None look is none number index planned passes holds =
          let not : found ≡ false = one.answer ∙ ap (λ (y : XorbBlock). is_some y.kept) is.0 ∙ ap is_some none in
          let own : with_block one.plan c.block one.now ≡ one.plan =
          ap (with_block one.plan c.block) is.0 ∙ ap
          (λ (bs : List XorbBlock). record one.plan { block = record one.plan.block { blocks = bs } })
          (set_own one.plan.block.blocks c.block x one.of_plan) in
          let same : ms ≡ ls = one.is ∙ ap (slice_set ls (plan_index ls c.plan)) own
          ∙ set_own ls (plan_index ls c.plan) one.plan one.at in
          subst (λ (v : Bool). Looking g b m l u fs ms (cond v acc (acc ++ c ∷ [])) cs) (sym not)
          (look_missed t u es fs ls ms acc cs c x one.now look one.entries is.0 is.1 same
          (ap (block_at es c.plan) index ∙ planned) planned passes w)
      by (Some d) look is none number index planned passes holds =
          let yes : found ≡ true = one.answer ∙ ap (λ (y : XorbBlock). is_some y.kept) is.0 in
          let events : fs ≡ es ++ Cached c.plan c.block ∷ [] =
          is.1 ∙ ap (λ (k : ℕ). es ++ Cached c.plan k ∷ []) index in
          let plans : ms ≡ slice_set ls (plan_index ls c.plan) (with_block one.plan c.block (with_data x d)) =
          one.is ∙ ap (λ (y : XorbBlock). slice_set ls (plan_index ls c.plan) (with_block one.plan c.block y))
          is.0 in
          subst (λ (v : Bool). Looking g b m l u fs ms (cond v acc (acc ++ c ∷ [])) cs) (sym yes)
          (subst (λ (z : List Event). Looking g b m l u z ms acc cs) (sym events)
          (subst (λ (z : List LedPlan). Looking g b m l u (es ++ Cached c.plan c.block ∷ []) z acc cs) (sym plans)
          (look_found t u es ls acc cs c one.plan x d look one.entries one.at number one.of_plan index planned passes
          holds w)))

  -- looks for the first of the blocks that wait
  pub look_each : (t u : CacheTold) (es fs : List Event) (ls ms : List LedPlan) (acc cs ds left : List BlockAt)
      → LooksFrom t u es fs ls ms cs left → Looking g b m l t es ls acc (cs ++ ds)
      → Looking g b m l u fs ms (acc ++ left) ds
  look_each t u es fs ls ms acc [] ds left k w =
      subst (λ (z : List BlockAt). Looking g b m l u fs ms z ds)
      (sym (ap (λ (z : List BlockAt). acc ++ z) k.3 ∙ append-nil acc))
      (subst (λ (z : CacheTold). Looking g b m l z fs ms acc ds) (sym k.0)
      (subst (λ (z : List Event). Looking g b m l t z ms acc ds) (sym k.1)
      (subst (λ (z : List LedPlan). Looking g b m l t es z acc ds) (sym k.2) w)))
  look_each t u es fs ls ms acc (c ∷ cs) ds left (mid, gs, ks, found, rest, one, is, more) w =
      let next = look_each mid u gs fs ks ms (cond found acc (acc ++ c ∷ [])) cs ds rest more
      (look_one t mid es gs ls ks acc (cs ++ ds) c found one w) in
      subst (λ (z : List BlockAt). Looking g b m l u fs ms z ds) (order found is) next
    where
      order : (v : Bool) → left ≡ cond v rest (c ∷ rest) → cond v acc (acc ++ c ∷ []) ++ rest ≡ acc ++ left
      order true e = ap (λ (z : List BlockAt). acc ++ z) (sym e)
      order false e = append_assoc acc (c ∷ []) rest ∙ ap (λ (z : List BlockAt). acc ++ z) (sym e)
