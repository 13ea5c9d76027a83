-- A stream after one look for a block.
use Rattle.std.proofs.Common.{◌≡◌, ℕ, ◌+◌, Bool, true, false, List, [], ◌∷◌, ◌++◌, refl, sym, subst, ◌∙◌, ap, arith, Option, Some, None}
use Rattle.std.specs.Prelude.{slice_get, slice_set}
use Rattle.std.specs.Option.{is_some}
use Rattle.std.proofs.lemmas.List.{append-nil}
use Rattle.xet_base.specs.declared.cas_types.ChunkRange.{ChunkRange}
use Rattle.xet_base.specs.Store.{Store}
use Rattle.xet_outside.specs.Told.{CacheTold, ClientTold, Holds}
use Rattle.xet_outside.specs.declared.block.BlockBytes.{BlockBytes}
use Rattle.xet_offers.specs.declared.reconstruction_terms.xorb_block.XorbBlock.{XorbBlock}
use Rattle.xet_offers.specs.declared.reconstruction_terms.xorb_block.XorbBlockData.{XorbBlockData}
use Rattle.xet_fetch.specs.CachedBlocks.{FoundIn, LookedFor}
use Rattle.xet_events.specs.declared.event.Event.{Event}
use Rattle.xet_events.specs.declared.event.Event.TheVariants.{Cached}
use Rattle.xet_events.specs.Allowed.{IsMissing}
use Rattle.xet_events.specs.Events.{is_kept}
use Rattle.xet_ties.specs.InCall.{Look}
use Rattle.xet_ties.specs.PartCalls.{FoundBlock}
use Rattle.xet_ties.specs.Saids.{IsLookedData}
use Rattle.xet_ties.specs.Setup.{CacheTells, IsOver, RunTold, Setup}
use Rattle.xet_parts.proofs.CallerLemmas.{look_tells}
use Rattle.xet_leader.specs.declared.leader.LedPlan.{LedPlan}
use Rattle.xet_leader.specs.declared.missing_blocks.BlockAt.{BlockAt}
use Rattle.xet_leader.specs.ByNumber.{plan_index}
use Rattle.xet_leader.specs.KeptBlocks.{with_block, with_data}
use Rattle.xet_leader.specs.Led.{Led, bare}
use Rattle.xet_leader.specs.Looks.{LookedPlace}
use Rattle.xet_leader.proofs.CallerLemmas.{IsAwaited, awaited, found_data, found_honest, looks_more_told, same_found, set_own}
use Rattle.xet_stream_rules.specs.StepTold.{LooksOnce}
use Rattle.xet_stream_rules.specs.Streams.{Carries, nobody}
use Rattle.xet_stream_rules.specs.Moments.{at}
use Rattle.xet_stream_blocks.specs.steps.Looking.{Looks}
use Rattle.xet_stream_blocks.proofs.Keeps.{carries_cached}
use Rattle.xet_stream_blocks.proofs.LaneAsks.{same_list}
use Rattle.xet_stream_rules.proofs.CallerLemmas.{each_same, lasts_quiet, lasts_still}

-- ---- what the cache tells of it

-- the looks that were added
abbrev looks_of : XorbBlock → List ChunkRange → Option BlockBytes → List Look
looks_of x (r ∷ []) given = (x.xorb_hash, r, given) ∷ []
looks_of x [] given = []
looks_of x (r ∷ s ∷ rs) given = []

once_of : (x : XorbBlock) (rs : List ChunkRange) (t u : CacheTold) (given : Option BlockBytes)
    → LookedFor x rs t u given → LooksOnce (looks_of x rs given) t u
once_of x (r ∷ []) t u given h = record {
  looked = h.0;
  few = omega arith;
  offers = h.1;
  entries = h.2;
  faults = h.3;
}
once_of x [] t u given h = subst (λ (c : CacheTold). LooksOnce [] t c) (sym h.0) (record {
  looked = same_list t.looked;
  few = omega arith;
  offers = refl;
  entries = refl;
  faults = omega arith;
})
once_of x (r ∷ s ∷ rs) t u given h = subst (λ (c : CacheTold). LooksOnce [] t c) (sym h.0) (record {
  looked = same_list t.looked;
  few = omega arith;
  offers = refl;
  entries = refl;
  faults = omega arith;
})

-- what was found came of a look
one_look : (x : XorbBlock) (rs : List ChunkRange) (t u : CacheTold) (given : Option BlockBytes) (d : XorbBlockData)
    → LookedFor x rs t u given → FoundIn x given (Some d) → (l : Look) × (looks_of x rs given ≡ l ∷ [])
one_look x (r ∷ []) t u given d h f = ((x.xorb_hash, r, given), refl)
one_look x [] t u given d h f = absurd (let z = subst (λ (o : Option BlockBytes). FoundIn x o (Some d)) h.1 f in cc)
one_look x (r ∷ s ∷ rs) t u given d h f =
    absurd (let z = subst (λ (o : Option BlockBytes). FoundIn x o (Some d)) h.1 f in cc)

module _ (g : Setup) (es : List Event) (l : Led) (c : Carries nobody g es l) (cs : List ClientTold) (t u : CacheTold)
    (fs : List Event) (k : Led) (a : BlockAt) (missing : IsMissing es a.plan a.block) (found : Bool)
    (led : k ≡ record l { plans = k.plans }) (one : LookedPlace t u es fs l.plans k.plans a found) where
  abbrev x : XorbBlock
  x = one.block

  abbrev i : ℕ
  i = plan_index l.plans a.plan

  w : IsAwaited g nobody es c.slack [] l a
  w = awaited g nobody es c.slack [] l c.led a missing

  plan : w.plan ≡ one.plan
  plan = same_found w.plan one.plan l.plans i i w.at one.at refl

  block : w.block ≡ one.block
  block = same_found w.block one.block one.plan.block.blocks a.block a.block
      (ap (λ (p : LedPlan). slice_get p.block.blocks a.block) (sym plan) ∙ w.of_plan) one.of_plan refl

  number : one.plan.number ≡ a.plan
  number = ap (λ (p : LedPlan). p.number) (sym plan) ∙ w.number

  index : x.xorb_block_index ≡ a.block
  index = ap (λ (y : XorbBlock). y.xorb_block_index) (sym block) ∙ w.index

  none : x.kept ≡ None
  none = ap (λ (y : XorbBlock). y.kept) (sym block) ∙ w.none

  -- over what is told, the store holds the block
  holds : (b : RunTold) → Carries b g es l → (s : Store) → IsOver s b.clients → Holds s x.xorb_hash x.chunk_ranges
  holds b h s over =
      let v = awaited g b es h.slack [] l h.led a missing in
      let p : v.plan ≡ one.plan = same_found v.plan one.plan l.plans i i v.at one.at refl in
      let y : v.block ≡ one.block = same_found v.block one.block one.plan.block.blocks a.block a.block
      (ap (λ (p : LedPlan). slice_get p.block.blocks a.block) (sym p) ∙ v.of_plan) one.of_plan refl in
      subst (λ (z : XorbBlock). Holds s z.xorb_hash z.chunk_ranges) y (v.holds s over)

  cache_on : (s : Store) → IsOver s cs → CacheTells s t → CacheTells s u
  cache_on s over h = look_tells s t u one.entries h

  missed : FoundBlock x one.now a.plan es fs None → Looks g (at es l cs t) (at fs k cs u) a false
  missed is =
      let own : with_block one.plan a.block one.now ≡ one.plan =
      ap (with_block one.plan a.block) is.0
      ∙ ap (λ (bs : List XorbBlock). record one.plan { block = record one.plan.block { blocks = bs } })
      (set_own one.plan.block.blocks a.block x one.of_plan) in
      let same : k.plans ≡ l.plans = one.is ∙ ap (slice_set l.plans i) own ∙ set_own l.plans i one.plan one.at in
      let still : k ≡ l = led ∙ ap (λ (ls : List LedPlan). record l { plans = ls }) same in
      record {
        goes = record {
          lasts = lasts_quiet g (at es l cs t) (at fs k cs u) is.1 (each_same cs) cache_on;
          carries = λ b h z. subst (λ (e : List Event). Carries b g e k) (sym is.1)
              (subst (λ (m : Led). Carries b g es m) (sym still) z);
        };
        added = is.1 ∙ sym (append-nil es);
        looks = looks_of x x.chunk_ranges one.looked.look.given;
        looked = once_of x x.chunk_ranges t u one.looked.look.given one.looked.look.looked;
        given = λ e. absurd (cc);
        led = led;
      }

  hit : (d : XorbBlockData) → FoundIn x one.looked.look.given (Some d) → FoundBlock x one.now a.plan es fs (Some d)
      → Looks g (at es l cs t) (at fs k cs u) a true
  hit d in_it is =
      let e : Event = Cached a.plan a.block in
      let events : fs ≡ es ++ e ∷ [] = is.1 ∙ ap (λ (n : ℕ). es ++ Cached a.plan n ∷ []) index in
      let plans : k.plans ≡ slice_set l.plans i (with_block one.plan a.block (with_data x d)) =
      one.is ∙ ap (λ (y : XorbBlock). slice_set l.plans i (with_block one.plan a.block y)) is.0 in
      let now : k ≡ record l { plans = slice_set l.plans i (with_block one.plan a.block (with_data x d)) } =
      led ∙ ap (λ (ls : List LedPlan). record l { plans = ls }) plans in
      let same : Cached one.plan.number a.block ≡ e = ap (λ (q : ℕ). Cached q a.block) number in
      let absent : is_kept es one.plan.number a.block ≡ false =
      ap (λ (q : ℕ). is_kept es q a.block) number ∙ missing.absent in
      let look = one.looked.look in
      record {
        goes = record {
          lasts = lasts_still g (at es l cs t) (at fs k cs u) e events
              (record { tasks = refl; query = refl; wrote = refl }) (λ s. tt) (each_same cs) cache_on;
          carries = λ b h z.
              let grew = looks_more_told x x.chunk_ranges look.given z.slack.looks in
              let given = found_data x x.chunk_ranges t u look.given d z.slack.looks refl look.looked in_it in
              let kept : Carries b g (es ++ Cached one.plan.number a.block ∷ [])
              (record l { plans = slice_set l.plans i (with_block one.plan a.block (with_data x d)) }) =
              carries_cached b g es l z i a.block one.plan x d one.at one.of_plan grew.0
              (subst (λ (ls : List Look). IsLookedData ls (bare x) d) grew.1 given)
              (λ s over tells. found_honest s x x.chunk_ranges t u look.given d refl look.looked in_it
              (h.cache s over tells) (holds b z s over)) absent in
              subst (λ (v : List Event). Carries b g v k) (sym events)
              (subst (λ (m : Led). Carries b g (es ++ e ∷ []) m) (sym now)
              (subst (λ (v : Event). Carries b g (es ++ v ∷ [])
              (record l { plans = slice_set l.plans i (with_block one.plan a.block (with_data x d)) })) same kept));
        };
        added = events;
        looks = looks_of x x.chunk_ranges look.given;
        looked = once_of x x.chunk_ranges t u look.given look.looked;
        given = λ _. one_look x x.chunk_ranges t u look.given d look.looked in_it;
        led = led;
      }

  pub looks_goes : Looks g (at es l cs t) (at fs k cs u) a found
  looks_goes = by one.looked.found one.looked.look.found_in one.looked.is
    where
      by : (o : Option XorbBlockData) → FoundIn x one.looked.look.given o → FoundBlock x one.now a.plan es fs o
          → Looks g (at es l cs t) (at fs k cs u) a found
      by None in_it is =
          let no : found ≡ false = one.answer ∙ ap (λ (y : XorbBlock). is_some y.kept) is.0 ∙ ap is_some none in
          subst (λ (v : Bool). Looks g (at es l cs t) (at fs k cs u) a v) (sym no) (missed is)
      by (Some d) in_it is =
          let yes : found ≡ true = one.answer ∙ ap (λ (y : XorbBlock). is_some y.kept) is.0 in
          subst (λ (v : Bool). Looks g (at es l cs t) (at fs k cs u) a v) (sym yes) (hit d in_it is)
