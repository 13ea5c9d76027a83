-- What the parts of a pull do to a leader, where there is one.
use Rattle.std.specs.Prelude.{◌≡◌, ◌+◌, ◌++◌, Bool, true, false, List, [], ◌∷◌, Option, Some, None}
use Rattle.std.specs.Prelude.{Result, Ok, Err}
use Rattle.xet_outside.specs.Told.{CacheTold, ClientTold}
use Rattle.xet_error.specs.declared.error.FileReconstructionError.{FileReconstructionError}
use Rattle.xet_error.specs.declared.error.FileReconstructionError.TheVariants as error
use Rattle.xet_events.specs.declared.event.Event.{Event}
use Rattle.xet_events.specs.declared.event.Event.TheVariants.{Wrote}
use Rattle.xet_events.specs.Limits.{LimitTold}
use Rattle.xet_ties.specs.Setup.{Setup}
use Rattle.xet_leader.specs.declared.ahead.NextTerm.{NextTerm}
use Rattle.xet_leader.specs.declared.missing_blocks.BlockAt.{BlockAt}
use Rattle.xet_leader.specs.Advances.{advanced}
use Rattle.xet_leader.specs.Led.{Led}
use Rattle.xet_leader.specs.LedTerms.{IsNextTerm, of_plan, size_in}
use Rattle.xet_stream_rules.specs.Moments.{at}
use Rattle.xet_stream_terms.specs.Admitting.{AheadCall}
use Rattle.xet_streams.specs.AnyOrder.{IsUnkept}
use Rattle.xet_stream_blocks.specs.BlockParts.{BlockFails}
use Rattle.xet_stream_blocks.specs.Providing.{Provides}

-- ---- `given_over`

pub record GivesOver (es fs : List Event) (o q : Option Led) (next : NextTerm) : Type 0 where
  pub led : Led
  pub now : Led
  pub term : IsNextTerm led next
  pub before : o ≡ Some led
  pub after : q ≡ Some now
  pub events : fs ≡ es ++ Wrote (size_in (of_plan term.plan next.term)) ∷ []
  pub is : now ≡ advanced (next.empties + 1) led

abbrev pub GivenOver : List Event → List Event → Option Led → Option Led → NextTerm
    → Result Bool FileReconstructionError → Type 0
GivenOver es fs o q next (Ok true) = GivesOver es fs o q next
GivenOver es fs o q next (Ok false) = (fs ≡ es) × (q ≡ o) × IsUnkept es o next
GivenOver es fs o q next (Err e) = (e ≡ error.OutOfMemory) × (fs ≡ es) × (q ≡ o)

-- ---- `admits_over`

pub record AdmitsLed (g : Setup) (es fs : List Event) (o q : Option Led) (before after : LimitTold)
    (answer : Result (Unit {0}) FileReconstructionError) : Type 0 where
  pub led : Led
  pub now : Led
  pub had : o ≡ Some led
  pub has : q ≡ Some now
  pub call : (cs : List ClientTold) (k : CacheTold) → AheadCall g (at es led cs k) (at fs now cs k) before after answer

abbrev pub AdmitsOver : Setup → List Event → List Event → Option Led → Option Led → LimitTold → LimitTold
    → Result (Unit {0}) FileReconstructionError → Type 0
AdmitsOver g es fs None q before after (Ok tt) = (fs ≡ es) × (q ≡ None) × (after ≡ before)
AdmitsOver g es fs None q before after (Err e) = ⊥
AdmitsOver g es fs (Some l) q before after answer = AdmitsLed g es fs (Some l) q before after answer

-- ---- `provides_over`

abbrev pub ProvidesAt : Setup → List Event → List Event → Led → Led → List ClientTold → List ClientTold → CacheTold
    → CacheTold → BlockAt → Result (Unit {0}) FileReconstructionError → Type 0
ProvidesAt g es fs l k cs ds t u place (Ok tt) = Provides g (at es l cs t) (at fs k ds u) place
ProvidesAt g es fs l k cs ds t u place (Err e) = BlockFails g (at es l cs t) (at fs k ds u) e

pub record ProvidesOver (g : Setup) (es fs : List Event) (o q : Option Led) (cs ds : List ClientTold)
    (t u : CacheTold) (place : BlockAt) (answer : Result (Unit {0}) FileReconstructionError) : Type 0 where
  pub led : Led
  pub now : Led
  pub before : o ≡ Some led
  pub after : q ≡ Some now
  pub provides : ProvidesAt g es fs led now cs ds t u place answer
