-- The data of a round's Served steps, by all that was heard after it.
use Rattle.std.proofs.Common.{◌≡◌, ℕ, ◌+◌, List, [], ◌∷◌, ◌++◌, length, ◌∙◌, ap, inl, inr}
use Rattle.std.specs.Prelude.{All}
use Rattle.std.proofs.lemmas.List.Elements.{All-cons, All-head, All-nil, All-tail, All-weaker}
use Rattle.xet_base.specs.Store.{Store}
use Rattle.xet_outside.specs.Answers.{bytes_in}
use Rattle.xet_outside.specs.declared.block.BlockBytes.{BlockBytes}
use Rattle.xet_outside.specs.declared.said.Said.{Said}
use Rattle.xet_outside.specs.declared.served.Served.{Served}
use Rattle.xet_outside.specs.Told.{ClientTold}
use Rattle.xet_offers.specs.BlockChecks.{block_data}
use Rattle.xet_offers.specs.declared.reconstruction_terms.xorb_block.XorbBlockData.{XorbBlockData}
use Rattle.xet_events.specs.declared.event.Event.{Event}
use Rattle.xet_ties.specs.InCall.{EachExchange, Exchange, Place}
use Rattle.xet_ties.specs.Lanes.{AreAt, AreOf, Ask, IsFor, IsOf}
use Rattle.xet_ties.specs.Saids.{IsServedData}
use Rattle.xet_ties.specs.Setup.{AllTell}
use Rattle.xet_ties.specs.Ties.{EachLane}
use Rattle.xet_ties.specs.declared.lane_step.LaneStep.{LaneStep}
use Rattle.xet_ties.specs.declared.lane_step.LaneStep.TheVariants as step
use Rattle.xet_ties.specs.Moves.{heard_join}
use Rattle.xet_ties.specs.Rounds.{IsHeardStep}
use Rattle.xet_ties.proofs.SaidTies.{step_data}

-- connections go on telling their store
pub tells_now : (s : Store) (es : List Event) (l : ℕ) (bs ns : List ClientTold) (hs : List (List Served)) (ks : List (List Place)) → EachLane es l bs ns hs ks → AllTell s bs → AllTell s ns
tells_now s es l [] [] [] [] t a = tt
tells_now s es l (b ∷ bs) (n ∷ ns) (h ∷ hs) (k ∷ ks) t a = (t.0.goes_on.store ∙ a.0, tells_now s es (l + 1) bs ns hs ks t.1 a.1)
tells_now s es l [] [] [] (k ∷ ks) t a = absurd t
tells_now s es l [] [] (h ∷ hs) ks t a = absurd t
tells_now s es l [] (n ∷ ns) hs ks t a = absurd t
tells_now s es l (b ∷ bs) [] hs ks t a = absurd t
tells_now s es l (b ∷ bs) (n ∷ ns) [] ks t a = absurd t
tells_now s es l (b ∷ bs) (n ∷ ns) (h ∷ hs) [] t a = absurd t

-- of each connection as many answers with bytes as served entries
abbrev pub ArePaired : List ClientTold → List Exchange → Type 0
ArePaired [] [] = Unit {0}
ArePaired [] (x ∷ xs) = ⊥
ArePaired (b ∷ bs) [] = ⊥
ArePaired (b ∷ bs) (x ∷ xs) = (length x.served ≡ length (bytes_in x.said)) × ArePaired bs xs

pub are_paired : (bs ns : List ClientTold) (xs : List Exchange) → EachExchange bs ns xs → ArePaired ns xs
are_paired [] [] [] h = tt
are_paired [] [] (x ∷ xs) h = absurd h
are_paired [] (n ∷ ns) xs h = absurd h
are_paired (b ∷ bs) [] xs h = absurd h
are_paired (b ∷ bs) (n ∷ ns) [] h = absurd h
are_paired (b ∷ bs) (n ∷ ns) (x ∷ xs) h = (h.0.paired, are_paired bs ns xs h.1)

-- ---- one lane

lane_heard : (fs : List Ask) (b n : ClientTold) (bs : List ClientTold) (y : Exchange) (ys : List Exchange) (sv : List Served) (all : List Said) (ks : List ℕ) (qs : List Ask) (ss : List LaneStep)
    → ((a : Ask) (p k : ℕ) (d : XorbBlockData) → IsFor a → IsOf b n sv all a (step.Served p k d) → IsServedData y p k a.block d)
    → AreAt fs ks qs → AreOf b n sv all qs ss → All IsFor qs → All (IsHeardStep fs (b ∷ bs) (y ∷ ys)) ss
lane_heard fs b n bs y ys sv all ks qs [] made at are own = All-nil (IsHeardStep fs (b ∷ bs) (y ∷ ys))
lane_heard fs b n bs y ys sv all ks [] (s ∷ ss) made at are own = absurd are
lane_heard fs b n bs y ys sv all [] (a ∷ qs) (s ∷ ss) made at are own = absurd at
lane_heard fs b n bs y ys sv all (j ∷ ks) (a ∷ qs) (step.Served p k d ∷ ss) made at are own =
    let P = IsHeardStep fs (b ∷ bs) (y ∷ ys) in
    let i = are.0.2 in
    All-cons P (step.Served p k d) ss
    (record {
      number = j;
      ask = a;
      at = at.0;
      plan = are.0.0;
      index = are.0.1;
      served = inl (made a p k d (All-head IsFor a qs own) are.0);
      honest = λ s t h. i.made ∙ ap (λ (g : BlockBytes). block_data a.block.chunk_ranges g) (i.honest s t.0 h);
    })
    (lane_heard fs b n bs y ys sv all ks qs ss made at.1 are.1 (All-tail IsFor a qs own))
lane_heard fs b n bs y ys sv all (j ∷ ks) (a ∷ qs) (step.Expired p k ∷ ss) made at are own =
    All-cons (IsHeardStep fs (b ∷ bs) (y ∷ ys)) (step.Expired p k) ss tt (lane_heard fs b n bs y ys sv all ks qs ss made at.1 are.1 (All-tail IsFor a qs own))
lane_heard fs b n bs y ys sv all (j ∷ ks) (a ∷ qs) (step.Failed e ∷ ss) made at are own =
    All-cons (IsHeardStep fs (b ∷ bs) (y ∷ ys)) (step.Failed e) ss tt (lane_heard fs b n bs y ys sv all ks qs ss made at.1 are.1 (All-tail IsFor a qs own))

-- ---- all lanes

step_weaker : (fs : List Ask) (b : ClientTold) (bs : List ClientTold) (y : Exchange) (ys : List Exchange) (s : LaneStep) → IsHeardStep fs bs ys s → IsHeardStep fs (b ∷ bs) (y ∷ ys) s
step_weaker fs b bs y ys (step.Served p k d) h = record { number = h.number; ask = h.ask; at = h.at; plan = h.plan; index = h.index; served = inr h.served; honest = λ s t o. h.honest s t.1 o }
step_weaker fs b bs y ys (step.Expired p k) h = tt
step_weaker fs b bs y ys (step.Failed e) h = tt

-- one more lane
pub lanes_more : (fs : List Ask) (b n : ClientTold) (bs : List ClientTold) (sv : List Served) (all : List Said) (hs : List (List Served)) (alls : List (List Said)) (d : List ℕ) (made : List Ask) (ss : List LaneStep) (ls : List (List LaneStep))
    → AreAt fs d made → AreOf b n sv all made ss → All IsFor made
    → ((ys : List Exchange) → ArePaired bs ys → All (λ l. All (IsHeardStep fs bs (heard_join hs alls ys)) l) ls)
    → (xs : List Exchange) → ArePaired (b ∷ bs) xs → All (λ l. All (IsHeardStep fs (b ∷ bs) (heard_join (sv ∷ hs) (all ∷ alls) xs)) l) (ss ∷ ls)
lanes_more fs b n bs sv all hs alls d made ss ls at are own more [] p = absurd p
lanes_more fs b n bs sv all hs alls d made ss ls at are own more (x ∷ xs) p =
    let y : Exchange = record { asked = x.asked; served = x.served ++ sv; said = x.said ++ all } in
    let ys = heard_join hs alls xs in
    let P = IsHeardStep fs (b ∷ bs) (y ∷ ys) in
    let mine = lane_heard fs b n bs y ys sv all d made ss (λ a q k v o i. step_data b n x sv all a q k v p.0 o i) at are own in
    All-cons (λ (l : List LaneStep). All P l) ss ls mine (All-weaker (λ (l : List LaneStep). All (IsHeardStep fs bs ys) l) (λ (l : List LaneStep). All P l) (λ l h. All-weaker (IsHeardStep fs bs ys) P (step_weaker fs b bs y ys) l h) ls (more xs p.1))
