-- A history of calls, what replaying it gives, and which replies it has.
use Rattle.std.specs.Prelude.{◌≡◌, ◌+◌, ◌-◌, ◌^◌, min, true, false, List, [], ◌∷◌, None}
use Rattle.xet_events.specs.declared.run_book.RunBook.{RunBook}
use Rattle.xet_events.specs.declared.run_call.RunCall.{RunCall}
use Rattle.xet_events.specs.declared.run_call.RunCall.TheVariants as call
use Rattle.xet_events.specs.RunBooks.{stop_of, with_error}

-- the book of a run that has just begun
abbrev pub opening : RunBook
opening = record { error = None; cancelled = false; blocks = 0; scheduled = 0 }

-- the book after a call
abbrev pub book_after : RunBook → RunCall → RunBook
book_after b (call.SetError e) = with_error b e
book_after b (call.CheckError o) = b
book_after b (call.CheckRunState o) = b
book_after b call.Cancel = record b { cancelled = true }
book_after b call.NewBlock = record b { blocks = min (b.blocks + 1) (2 ^ 64 - 1) }
book_after b (call.NewTerm n) = record b { scheduled = min (b.scheduled + n) (2 ^ 64 - 1) }
book_after b (call.Scheduled n) = b

-- the book after some calls, in their order
abbrev pub book_after_all : RunBook → List RunCall → RunBook
book_after_all b [] = b
book_after_all b (c ∷ cs) = book_after_all (book_after b c) cs

-- the call with the reply that the book gives
abbrev pub replied : RunBook → RunCall → RunCall
replied b (call.SetError e) = call.SetError e
replied b (call.CheckError o) = call.CheckError b.error
replied b (call.CheckRunState o) = call.CheckRunState (stop_of b.error b.cancelled)
replied b call.Cancel = call.Cancel
replied b call.NewBlock = call.NewBlock
replied b (call.NewTerm n) = call.NewTerm n
replied b (call.Scheduled n) = call.Scheduled b.scheduled

-- the calls with the replies that the book gives, one after another
abbrev pub all_replied : RunBook → List RunCall → List RunCall
all_replied b [] = []
all_replied b (c ∷ cs) = replied b c ∷ all_replied (book_after b c) cs

-- each stored reply is the one that the book of a run gives at its point
abbrev pub IsReplayed : List RunCall → Type 0
IsReplayed cs = all_replied opening cs ≡ cs
