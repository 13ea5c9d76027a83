-- Files that were made ready.
use Rattle.std.proofs.Common.{◌≡◌, ℕ, Bool, List, Option, None, Some, Ok, refl, ◌∙◌, ap, arith}
use Rattle.std.specs.Prelude.{option_map}
use Rattle.xet_outside.specs.Places.{PlaceCall, Placed, at_place, placed_of, written}
use Rattle.xet_outside.specs.Told.{SinkTold}
use Rattle.xet_reconstruct.specs.steps.Placing.{ClearCall, Follows, ReadyCall, cleared}
use Rattle.xet_reconstruct.specs.ToFile.{ready_at}

mapped : (truncate : Bool) (place : ℕ) (bytes : List ℕ) (o : Option Placed)
    → option_map (written bytes) (option_map (at_place place) (option_map (cleared truncate) o))
    ≡ option_map (λ p. written bytes (ready_at truncate place p)) o
mapped truncate place bytes None = refl
mapped truncate place bytes (Some p) = refl

ready_is : (truncate : Bool) (place : ℕ) (o : Option Placed)
    → option_map (at_place place) (option_map (cleared truncate) o) ≡ option_map (ready_at truncate place) o
ready_is truncate place None = refl
ready_is truncate place (Some p) = refl

-- it was emptied, where that was wanted, and then placed
pub made_ready : (truncate : Bool) (place : ℕ) (b m n : SinkTold) → ClearCall truncate b m (Ok tt)
    → PlaceCall m n (at_place place) (Ok tt) → Follows n → ReadyCall truncate place b n (Ok tt)
made_ready truncate place b m n c s f = record {
  took = s.took ∙ c.call.took;
  faults = (let x = c.call.faults in let y = s.faults in omega (arith, x, y));
  unfailed = s.unfailed ∙ c.call.unfailed;
  link = s.same ∙ c.call.same;
  ready = λ later bytes took link. f later bytes took link
      ∙ ap (option_map (written bytes)) s.done
      ∙ ap (λ o. option_map (written bytes) (option_map (at_place place) o)) c.call.done
      ∙ mapped truncate place bytes (placed_of b);
  placed = s.done ∙ ap (option_map (at_place place)) c.call.done ∙ ready_is truncate place (placed_of b);
  cause = tt;
  left = tt;
}
