-- A run after a round was settled.
use Rattle.std.proofs.Common.{◌≡◌, ℕ, Bool, List, [], ◌∷◌, Ok, Err, sym, subst, ⊎_elim}
use Rattle.xet_outside.specs.Told.{ClientTold}
use Rattle.xet_error.specs.declared.error.FileReconstructionError.{FileReconstructionError}
use Rattle.xet_events.specs.declared.event.Event.{Event}
use Rattle.xet_ties.specs.Setup.{RunTold, Setup}
use Rattle.xet_leader.specs.declared.missing_blocks.BlockAt.{BlockAt}
use Rattle.xet_leader.specs.Offering.{AreServed, due_of}
use Rattle.xet_leader.specs.Plans.{Answer}
use Rattle.xet_leader.specs.Settling.{BothSettled, OfferedShort, Reached, SettleLeads, SettleTurn}
use Rattle.xet_leader.specs.Steady.{IsFailing, LeadPart, Loose, Moment, no_loose}
use Rattle.xet_leader.proofs.Leading.{lead_more}
use Rattle.xet_leader.proofs.OfferLeads.{offer_leads}
use Rattle.xet_leader.proofs.RefreshLeads.{refresh_leads}

abbrev settled_at : Moment → List ClientTold → Reached → Moment
settled_at m cs b = record { told = record m.told { clients = b.client ∷ cs; cache = b.cache }; events = b.events }

abbrev loose_of : ℕ → List ℕ → Loose
loose_of due stale = record { pending = []; due = due; stale = stale; polls = 0 }

both_lead : (g : Setup) (m : Moment) (cs : List ClientTold) (multi : Bool) (places : List BlockAt) (stale : List ℕ)
    (a b : Reached) (answer : Answer) → g.multirange ≡ multi → m.told.clients ≡ a.client ∷ cs → m.told.cache ≡ a.cache
    → m.events ≡ a.events
    → AreServed m.events a.led.plans places → BothSettled multi places stale a b answer
    → LeadPart g m (settled_at m cs b) (loose_of (due_of m.events places) stale) no_loose a.led b.led answer
both_lead g m cs multi places stale a b answer same clients cache events served t =
    let n : Moment = record { told = record m.told { cache = b.cache }; events = m.events } in
    let first = offer_leads places a.cache b.cache a.led (Ok tt) t.offered g m (loose_of 0 stale) cache served in
    let second = refresh_leads multi stale a.client b.client a.events b.events a.led b.led answer t.refreshed g n
    no_loose cs same clients events in
    lead_more g m n (settled_at m cs b) (loose_of (due_of m.events places) stale)
    (loose_of 0 stale) no_loose a.led a.led b.led tt answer first second

-- the moment where an offer found no memory
short_at : (g : Setup) (o : RunTold) (m : Moment) (cs : List ClientTold) (a b : Reached) (e : FileReconstructionError)
    → m.told.clients ≡ a.client ∷ cs → m.events ≡ a.events → b ≡ record a { cache = b.cache }
    → IsFailing g o (record { told = record m.told { cache = b.cache }; events = m.events }) e
    → IsFailing g o (settled_at m cs b) e
short_at g o m cs a b e clients events is f =
    let x : IsFailing g o (record {
      told = record m.told { clients = a.client ∷ cs; cache = b.cache };
      events = a.events;
    }) e =
    subst (λ (ns : List ClientTold). IsFailing g o
    (record { told = record m.told { clients = ns; cache = b.cache }; events = a.events }) e) clients
    (subst (λ (es : List Event). IsFailing g o (record { told = record m.told { cache = b.cache }; events = es }) e)
    events f) in
    subst (λ (r : Reached). IsFailing g o (record {
      told = record m.told { clients = r.client ∷ cs; cache = b.cache };
      events = r.events;
    }) e) (sym is) x

short_leads : (g : Setup) (m : Moment) (cs : List ClientTold) (places : List BlockAt) (stale : List ℕ) (a b : Reached)
    (answer : Answer) → m.told.clients ≡ a.client ∷ cs → m.told.cache ≡ a.cache → m.events ≡ a.events
    → AreServed m.events a.led.plans places → OfferedShort places a b answer
    → LeadPart g m (settled_at m cs b) (loose_of (due_of m.events places) stale) no_loose a.led b.led answer
short_leads g m cs places stale a b answer clients cache events served t =
    let first = offer_leads places a.cache b.cache a.led (Err t.error) t.offered g m
    (loose_of 0 stale) cache served in
    let all : LeadPart {A = Unit {0}} g m (settled_at m cs b)
    (loose_of (due_of m.events places) stale) no_loose a.led b.led (Err t.error) =
    record { ok = λ o s. tt; err = λ o s. short_at g o m cs a b t.error clients events t.rest (first.err o s) } in
    subst (λ (x : Answer). LeadPart g m (settled_at m cs b)
    (loose_of (due_of m.events places) stale) no_loose a.led b.led x) (sym t.is) all

pub settle_leads : (multi : Bool) (places : List BlockAt) (stale : List ℕ) (a b : Reached) (answer : Answer)
    → SettleTurn multi places stale a b answer → SettleLeads multi places stale a b answer
settle_leads multi places stale a b answer t g m cs same clients cache events served =
    ⊎_elim
    (λ (x : BothSettled multi places stale a b answer). both_lead g m cs multi places stale a b answer same clients
    cache events served x)
    (λ (x : OfferedShort places a b answer). short_leads g m cs places stale a b answer clients cache events served x)
    t
