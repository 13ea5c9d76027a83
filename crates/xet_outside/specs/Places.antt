-- Sinks with a content and a place.
use Rattle.std.specs.Prelude.{ℕ, ◌≡◌, ◌+◌, ◌-◌, ◌≤◌, List, [], ◌∷◌, ◌++◌, length, take, drop, replicate, Option, Some}
use Rattle.std.specs.Prelude.{None, IfSome, option_map, option_and_then, Result, OnOk, OnErr, IsErrOf}
use Rattle.std.proofs.Common.{inl, inr}
use Rattle.xet_outside.specs.declared.sink.SinkError.{SinkError}
use Rattle.xet_outside.specs.declared.sink.SinkError.TheVariants as sink_error
use Rattle.xet_outside.specs.Told.{Link, PlaceSet, SinkTold, Rose}

-- a content with these bytes from a place on, and with zeros between its end and the place; no bytes change nothing
abbrev pub put_at : List ℕ → ℕ → List ℕ → List ℕ
put_at content place [] = content
put_at content place (b ∷ bs) =
    take place content ++ replicate (place - length content) 0 ++ (b ∷ bs) ++ drop (place + length (b ∷ bs)) content

-- a content and a place
pub record Placed : Type 0 where
  pub content : List ℕ
  pub place : ℕ

-- these bytes are written at the place, and the place moves on
abbrev pub written : List ℕ → Placed → Placed
written bytes p = record { content = put_at p.content p.place bytes; place = p.place + length bytes }

-- how the place was set, where the sink writes there
abbrev pub place_set : Link → Option PlaceSet
place_set [] = None
place_set (inl name ∷ l) = place_set l
place_set (inr (inl start) ∷ l) = None
place_set (inr (inr p) ∷ l) = Some p

-- what stands before that in a link
abbrev pub before_place : Link → Link
before_place [] = []
before_place (inl name ∷ l) = inl name ∷ before_place l
before_place (inr (inl start) ∷ l) = inr (inl start) ∷ before_place l
before_place (inr (inr p) ∷ l) = []

-- the content and the place, where both are told: what was taken since the place was set stands there
abbrev pub placed_by : PlaceSet → List ℕ → Placed
placed_by p took = written (drop p.taken took) (record { content = p.content; place = p.place })

abbrev pub placed_of : SinkTold → Option Placed
placed_of t = option_and_then (λ p. option_map (placed_by p) t.took) (place_set t.link)

-- what was taken since the place was set is counted from there
abbrev pub IsPlaced : SinkTold → Type 0
IsPlaced t = IfSome (place_set t.link) (λ p. IfSome t.took (λ xs. p.taken ≤ length xs))

-- these bytes were written at the place, if the sink tells one
abbrev pub IsWritten : SinkTold → SinkTold → List ℕ → Type 0
IsWritten before after bytes = placed_of after ≡ option_map (written bytes) (placed_of before)

-- one call that sets the content or the place, and what then stands there
pub record PlaceCall (before after : SinkTold) (set : Placed → Placed)
    (answer : Result (Unit {0}) SinkError) : Type 0 where
  pub took : after.took ≡ before.took
  pub flushed : after.flushed ≡ before.flushed
  pub done : OnOk answer (placed_of after ≡ option_map set (placed_of before))
  pub kept : OnErr answer (after.link ≡ before.link)
  pub same : before_place after.link ≡ before_place before.link
  pub faults : before.faults ≤ after.faults
  pub failed : IsErrOf answer sink_error.Failed → Rose before.faults after.faults
  pub unfailed : OnOk answer (after.faults ≡ before.faults)
  pub short : IsErrOf answer sink_error.OutOfMemory → after.faults ≡ before.faults

-- an empty content
abbrev pub emptied : Placed → Placed
emptied p = record { content = []; place = 0 }

-- the same content at another place
abbrev pub at_place : ℕ → Placed → Placed
at_place place p = record p { place = place }
