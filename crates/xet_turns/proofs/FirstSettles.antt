-- What was settled by the first of some connections.
use Rattle.std.proofs.Common.{◌≡◌, ℕ, ◌<◌, Bool, List, [], ◌∷◌, length, map, refl, subst, arith}
use Rattle.std.specs.Prelude.{get_or, slice_set}
use Rattle.xet_outside.specs.Told.{CacheTold, ClientTold}
use Rattle.xet_events.specs.declared.event.Event.{Event}
use Rattle.xet_leader.specs.declared.missing_blocks.BlockAt.{BlockAt}
use Rattle.xet_stages.specs.declared.outcomes.Outcome.{Outcome}
use Rattle.xet_leader.specs.Led.{Led}
use Rattle.xet_leader.specs.Plans.{Answer}
use Rattle.xet_leader.specs.Settling.{Reached, SettleLeads, SettleTurn}
use Rattle.xet_turns.specs.Works.{FirstSettled}

-- what settling touches
abbrev reached : ClientTold → CacheTold → List Event → Led → Reached
reached client cache es l = record { client = client; cache = cache; events = es; led = l }

first_there : {C : Type 0} (told : C → ClientTold) (x next : C) (cs : List C) (multi : Bool) (o : Outcome)
    (c d : CacheTold) (es fs : List Event) (l k : Led) (answer : Answer)
    → SettleTurn multi o.served.items o.stale.items (reached (told x) c es l) (reached (told next) d fs k) answer
    → SettleLeads multi o.served.items o.stale.items (reached (told x) c es l) (reached (told next) d fs k) answer
    → FirstSettled multi o (map told (x ∷ cs)) (map told (next ∷ cs)) c d es fs l k answer
first_there told x next cs multi o c d es fs l k answer t leads =
    record {
      first = told x;
      next = told next;
      others = map told cs;
      before = refl;
      after = refl;
      turn = t;
      leads =
          leads;
    }

-- of the first one of these connections, which is another one afterwards
pub first_settled : {C : Type 0} (told : C → ClientTold) (cs : List C) (x next : C) (multi : Bool) (o : Outcome)
    (places : List BlockAt) (stale : List ℕ) (c d : CacheTold) (es fs : List Event) (l k : Led) (answer : Answer)
    → 0 < length cs → places ≡ o.served.items → stale ≡ o.stale.items
    → SettleTurn multi places stale (reached (told (get_or cs 0 x)) c es l) (reached (told next) d fs k) answer
    → SettleLeads multi places stale (reached (told (get_or cs 0 x)) c es l) (reached (told next) d fs k) answer
    → FirstSettled multi o (map told cs) (map told (slice_set cs 0 next)) c d es fs l k answer
first_settled {C} told [] x next multi o places stale c d es fs l k answer some p q t leads =
    absurd (omega (arith, some))
first_settled {C} told (y ∷ cs) x next multi o places stale c d es fs l k answer some p q t leads =
    let u : SettleTurn multi o.served.items o.stale.items (reached (told y) c es l)
    (reached (told next) d fs k) answer =
    subst (λ (v : List ℕ). SettleTurn multi o.served.items v (reached (told y) c es l)
    (reached (told next) d fs k) answer) q
    (subst (λ (v : List BlockAt). SettleTurn multi v stale (reached (told y) c es l)
    (reached (told next) d fs k) answer) p t) in
    let w : SettleLeads multi o.served.items o.stale.items (reached (told y) c es l)
    (reached (told next) d fs k) answer =
    subst (λ (v : List ℕ). SettleLeads multi o.served.items v (reached (told y) c es l)
    (reached (told next) d fs k) answer) q
    (subst (λ (v : List BlockAt). SettleLeads multi v stale (reached (told y) c es l)
    (reached (told next) d fs k) answer) p leads) in
    first_there told y next cs multi o c d es fs l k answer u w
