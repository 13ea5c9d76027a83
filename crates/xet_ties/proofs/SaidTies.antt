-- Data and blocks by what was said.
use Rattle.std.proofs.Common.{◌≡◌, ℕ, zero, suc, ◌+◌, ◌≤◌, List, [], ◌∷◌, ◌++◌, length, refl, sym, subst, ◌∙◌, ap, arith, ⊎_elim, Some, None, Option}
use Rattle.std.specs.Prelude.{All, map, option_to_list, slice_get}
use Rattle.std.specs.List.{enumerate_from, flat_map}
use Rattle.std.proofs.lemmas.List.{append-nil}
use Rattle.xet_base.specs.declared.cas_types.ChunkRange.{ChunkRange}
use Rattle.xet_base.specs.declared.cas_types.FileRange.{FileRange}
use Rattle.xet_base.specs.declared.merklehash.MerkleHash.{MerkleHash}
use Rattle.xet_base.specs.Lists.{first_some}
use Rattle.xet_outside.specs.Answers.{AnswerTo, bytes_in}
use Rattle.xet_outside.specs.Plan.{shape}
use Rattle.xet_outside.specs.Told.{ClientTold, served_of}
use Rattle.xet_outside.specs.declared.plan.PlanAnswer.{PlanAnswer}
use Rattle.xet_outside.specs.declared.plan.PlanAnswer.TheVariants.{Found, PastEnd, NoFile}
use Rattle.xet_outside.specs.declared.said.Said.{Said}
use Rattle.xet_outside.specs.declared.served.Served.{Served}
use Rattle.xet_outside.proofs.CallerLemmas.{answer_after}
use Rattle.xet_offers.specs.declared.reconstruction_terms.xorb_block.XorbBlock.{XorbBlock}
use Rattle.xet_offers.specs.declared.reconstruction_terms.xorb_block.XorbBlockData.{XorbBlockData}
use Rattle.xet_offers.specs.Blocks.{PlanBlock, blocks_of}
use Rattle.xet_blocks.specs.TermBlocks.{xorb_block}
use Rattle.xet_events.specs.declared.event.Event.{Event}
use Rattle.xet_events.specs.declared.event.PlannedBlock.{PlannedBlock}
use Rattle.xet_events.specs.declared.event.PlannedTerm.{PlannedTerm}
use Rattle.xet_history.specs.TrueHistory.{planned_block, queries}
use Rattle.xet_ties.specs.History.{EachAfter, IsNumberedNext, block_at, blocks_in, entry_of}
use Rattle.xet_ties.specs.InCall.{Exchange}
use Rattle.xet_ties.specs.Lanes.{Ask, IsFor, IsOf}
use Rattle.xet_ties.specs.Saids.{BlockOfPlan, IsCutAnswer, IsEventSaid, IsMadeOf, IsMadeOfPlan, IsPlanAccepted, IsPlannedBy, IsServedData, planned_of}
use Rattle.xet_ties.specs.Setup.{Setup}
use Rattle.xet_ties.specs.Ties.{CutsRange}
use Rattle.xet_ties.specs.declared.lane_step.LaneStep.TheVariants as step
use Rattle.xet_ties.proofs.Numbers.{PlanAt, cut_within, plan_at, reads_blocks}

-- ---- the data of a lane's step

-- the entry of a fetch is that of its block
pub fetch_entry : (a : Ask) → IsFor a → served_of a.request ≡ entry_of a.request.acquisition.plan a.request.index (planned_of a.block)
fetch_entry a own =
    ap (λ (h : MerkleHash). let e : Served = record { plan = a.request.acquisition.plan; index = a.request.index; xorb = h; ranges = a.request.chunks } in e) own.xorb
    ∙ ap (λ (c : List ChunkRange). let e : Served = record { plan = a.request.acquisition.plan; index = a.request.index; xorb = a.block.xorb_hash; ranges = c } in e) own.chunks

-- a served step's data is of the answer to its own request, among all that the connection said
pub step_data : (b n : ClientTold) (x : Exchange) (h : List Served) (more : List Said) (a : Ask) (p k : ℕ) (d : XorbBlockData) → length x.served ≡ length (bytes_in x.said) → IsFor a → IsOf b n h more a (step.Served p k d)
    → IsServedData (record { asked = x.asked; served = x.served ++ h; said = x.said ++ more }) p k a.block d
step_data b n x h more a p k d same own is =
    let t = is.2 in
    let entry : served_of a.request ≡ entry_of p k (planned_of a.block) =
    fetch_entry a own ∙ ap (λ (i : ℕ). entry_of i a.request.index (planned_of a.block)) (sym is.0) ∙ ap (λ (i : ℕ). entry_of p i (planned_of a.block)) (sym is.1) in
    record {
      given = t.given;
      answer = subst (λ (e : Served). AnswerTo (x.served ++ h) (x.said ++ more) e t.given) entry (answer_after x.served h x.said more (served_of a.request) t.given same t.answer);
      passes = t.passes;
      made = t.made;
    }

-- ---- planned blocks

-- a place of a mapped list
pub map_at : (bs : List PlanBlock) (k : ℕ) (pb : PlannedBlock) → slice_get (map planned_block bs) k ≡ Some pb → (b : PlanBlock) × (slice_get bs k ≡ Some b) × (planned_block b ≡ pb)
map_at [] k pb h = absurd (cc)
map_at (b ∷ bs) zero pb h = (b, refl, (let e : planned_block b ≡ pb = cc in e))
map_at (b ∷ bs) (suc k) pb h = map_at bs k pb h

listed_at : (f : ℕ × PlanBlock → XorbBlock) (n k : ℕ) (bs : List PlanBlock) (b : PlanBlock) → slice_get bs k ≡ Some b → slice_get (map f (enumerate_from n bs)) k ≡ Some (f (n + k, b))
listed_at f n k [] b h = absurd (cc)
listed_at f n zero (c ∷ bs) b h =
    let same : c ≡ b = cc in
    let z : n ≡ n + 0 = omega arith in
    ap (λ (y : PlanBlock). Some (f (n, y))) same ∙ ap (λ (i : ℕ). Some (f (i, b))) z
listed_at f n (suc k) (c ∷ bs) b h = let z : (n + 1) + k ≡ n + suc k = omega arith in listed_at f (n + 1) k bs b h ∙ ap (λ (i : ℕ). Some (f (i, b))) z

-- a planned block is a block of a plan that was said and passes its tests, under the plan's own number
pub record SaidBlock (g : Setup) (xs : List Exchange) (es : List Event) (p k : ℕ) (pb : PlannedBlock) : Type 0 where
  pub place : BlockOfPlan g xs
  pub own : p ≡ place.accepted.said.number
  pub number : place.number ≡ k
  pub is : planned_of place.block ≡ pb

pub at_block : (bs : List PlannedBlock) (k : ℕ) (pb : PlannedBlock) → flat_map (λ (l : List PlannedBlock). option_to_list (slice_get l k)) (option_to_list (Some bs)) ≡ pb ∷ [] → slice_get bs k ≡ Some pb
at_block bs k pb h = go (slice_get bs k) refl
  where
    go : (o : Option PlannedBlock) → slice_get bs k ≡ o → slice_get bs k ≡ Some pb
    go None e = absurd (let z : [] ≡ pb ∷ [] = sym (append-nil (option_to_list None)) ∙ ap (λ (o : Option PlannedBlock). option_to_list o ++ []) (sym e) ∙ h in cc)
    go (Some y) e = let z : y ∷ [] ≡ pb ∷ [] = ap (λ (o : Option PlannedBlock). option_to_list o ++ []) (sym e) ∙ h in let is : y ≡ pb = cc in e ∙ ap (λ (v : PlannedBlock). Some v) is

pub block_said : (g : Setup) (es : List Event) (x : Exchange) (xs : List Exchange) (p k : ℕ) (pb : PlannedBlock) → CutsRange g (queries es) → EachAfter IsNumberedNext [] es → All (IsEventSaid g x) es → block_at es p k ≡ pb ∷ [] → SaidBlock g (x ∷ xs) es p k pb
block_said g es x xs p k pb cuts numbers a h = by (first_some (map (blocks_in p) es)) refl
  where
    of : Option (List PlannedBlock) → List PlannedBlock
    of o = flat_map (λ (l : List PlannedBlock). option_to_list (slice_get l k)) (option_to_list o)

    bs_of : FileRange → List PlannedTerm → List PlannedBlock → List PlannedBlock
    bs_of q ts bs = bs

    made : (bs : List PlannedBlock) → slice_get bs k ≡ Some pb → (v : PlanAt bs_of (IsEventSaid g x) 0 p es bs) → (g.range.start ≤ v.query.start) × (v.query.end ≤ g.range.end) → (answer : PlanAnswer) → IsCutAnswer g.file (x ∷ xs) p v.query answer → IsMadeOf g v.query v.terms bs answer → SaidBlock g (x ∷ xs) es p k pb
    made bs at v lies NoFile s m = absurd m
    made bs at v lies PastEnd s m = absurd (let z : slice_get [] k ≡ Some pb = subst (λ (l : List PlannedBlock). slice_get l k ≡ Some pb) m.1 at in cc)
    made bs at v lies (Found plan) s m =
        ⊎_elim
        (λ (e : (plan.terms ≡ []) × (v.terms ≡ []) × (bs ≡ [])). absurd (let z : slice_get [] k ≡ Some pb = subst (λ (l : List PlannedBlock). slice_get l k ≡ Some pb) e.2 at in cc))
        (λ (e : IsMadeOfPlan g v.query v.terms bs plan).
        let listed = map_at (blocks_of (shape plan) g.multirange) k pb (subst (λ (l : List PlannedBlock). slice_get l k ≡ Some pb) e.blocks at) in
        let b : XorbBlock = xorb_block (shape plan) g.multirange (0 + k, listed.0) in
        let accepted : IsPlanAccepted g (x ∷ xs) plan v.query = record { said = record { number = p; answer = s; some = e.some; from = lies.0; to = lies.1 }; passes = e.passes } in
        let place : BlockOfPlan g (x ∷ xs) = record { plan = plan; query = v.query; accepted = accepted; number = k; block = b; numbered = listed_at (xorb_block (shape plan) g.multirange) 0 k (blocks_of (shape plan) g.multirange) listed.0 listed.1 } in
        record { place = place; own = refl; number = refl; is = listed.2 })
        m

    none : of None ≡ pb ∷ [] → ⊥
    none e = cc

    by : (o : Option (List PlannedBlock)) → first_some (map (blocks_in p) es) ≡ o → SaidBlock g (x ∷ xs) es p k pb
    by None e = absurd (none (sym (ap of e) ∙ h))
    by (Some bs) e =
        let v = plan_at bs_of (IsEventSaid g x) p (blocks_in p) (reads_blocks p) es bs numbers a e in
        let lies = cut_within g.range.start g.range.end (g.greatest + g.least) (queries es) v.place v.query cuts.from v.at in
        let same : v.blocks ≡ bs = v.is in
        let said : IsPlannedBy g x p v.query v.terms bs = subst (λ (l : List PlannedBlock). IsPlannedBy g x p v.query v.terms l) same v.holds in
        made bs (at_block bs k pb (sym (ap of e) ∙ h)) v lies said.answer said.said said.made
