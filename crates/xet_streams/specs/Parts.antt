-- What the private parts of a step do.
use Rattle.std.specs.Prelude.{ℕ, zero, suc, ◌≡◌, ◌≤◌, Bool, true, false, List, [], Option, Some}
use Rattle.std.specs.Prelude.{None, Ok}
use Rattle.xet_base.specs.declared.cas_types.FileRange.{FileRange}
use Rattle.xet_outside.specs.Told.{CacheTold, ClientTold}
use Rattle.xet_events.specs.declared.budget_book.BookView.{BookView}
use Rattle.xet_events.specs.declared.event.Event.{Event}
use Rattle.xet_events.specs.Books.{book_limit}
use Rattle.xet_events.specs.Limits.{LimitTold}
use Rattle.xet_ties.specs.Setup.{Setup}
use Rattle.xet_leader.specs.declared.leader.Job.{Job}
use Rattle.xet_leader.specs.Led.{Led, setup_of_job}
use Rattle.xet_stream_rules.specs.declared.step.Step.TheVariants.{Pending}
use Rattle.xet_stream_rules.specs.Pulls.{PullCall}
use Rattle.xet_stream_rules.specs.Streams.{Carries, StreamView, is_closed, nobody}
use Rattle.xet_stream_terms.specs.Planning.{IsMarked}

-- ---- limits

-- without a book the limit is that of the settings; a book's limit of all is never passed
abbrev pub limits_told : Option BookView → ℕ → LimitTold
limits_told None limit = record { fixed = Some limit; most = Some limit; limits = None }
limits_told (Some view) limit = record { fixed = None; most = Some (book_limit view); limits = None }

-- ---- what a stream's parts hold between two pulls

-- before its first step nothing happened; later its leader goes on, whatever is told, and the mark says whether the
-- range is planned to its end or the file's
abbrev pub HoldsAt : Setup → List Event → Option Led → Bool → Type 0
HoldsAt g es None reached = (es ≡ []) × (reached ≡ false)
HoldsAt g es (Some l) reached = Carries nobody g es l × IsMarked g.range es reached

-- a stream that was pulled and is open has a leader, unless its range has no bytes
abbrev pub IsBegun : FileRange → Option Led → Bool → Bool → ℕ → Type 0
IsBegun r o pulled cancelled seen = o ≡ None → pulled ≡ true → is_closed cancelled seen ≡ false → r.end ≤ r.start

-- what a stream keeps while no error was told
pub record Holds (j : Job) (es : List Event) (o : Option Led) (reached pulled cancelled : Bool) (seen : ℕ)
    (ordered : Bool) : Type 0 where
  pub led : HoldsAt (setup_of_job j) es o reached
  pub begun : IsBegun j.byte_range o pulled cancelled seen
  -- what a leader is made of is there until one is made
  pub order_held : o ≡ None → ordered ≡ true

-- ---- pulls that weren't there yet

abbrev pub Waited : ℕ → StreamView → StreamView → List ClientTold → List ClientTold → CacheTold → CacheTold → Type 0
Waited zero b n cs ds k l = (n ≡ b) × (ds ≡ cs) × (l ≡ k)
Waited (suc steps) b n cs ds k l =
    (m : StreamView) × (es : List ClientTold) × (j : CacheTold) × PullCall b m cs es k j (Ok Pending)
    × Waited steps m n es ds j l

pub record WaitsSoFar (b n : StreamView) (cs ds : List ClientTold) (k l : CacheTold) : Type 0 where
  pub steps : ℕ
  pub waited : Waited steps b n cs ds k l
