-- Laws of histories that are true of a valid store's file.
use Rattle.std.specs.Prelude.{◌≡◌, ℕ, ◌<◌, ◌≤◌, ◌++◌, List, take, length}
use Rattle.xet_base.specs.Store.{Store, IsValid, window}
use Rattle.xet_events.specs.declared.event.Event.{Event}
use Rattle.xet_events.specs.Events.{written}
use Rattle.xet_events.specs.Allowed.{IsAllowedHistory}
use Rattle.xet_history.specs.TrueHistory.{Download, IsTrueHistory, ReachesEnd, queries_end, pieces}

-- some bytes are the beginning of others
pub record IsPrefix (xs ys : List ℕ) : Type 0 where
  pub rest : List ℕ
  pub joined : xs ++ rest ≡ ys

-- the bytes of the download: the file's bytes in the range, cut to the file's end
abbrev pub window_of : Store → Download → List ℕ
window_of s d = window s d.file d.range

-- the joined pieces of a true history are the window that its queries cover
abbrev pub PiecesCover : Type 0
PiecesCover = (s : Store) → IsValid s → (d : Download) (es : List Event) → IsTrueHistory s d es
    → pieces s es ≡ window s d.file (record { start = d.range.start; end = queries_end es d.range.start })

-- and so they are the beginning of the window of the range
abbrev pub PiecesArePrefix : Type 0
PiecesArePrefix = (s : Store) → IsValid s → (d : Download) (es : List Event) → IsTrueHistory s d es
    → IsPrefix (pieces s es) (window_of s d)

-- where the queries reach the range's end, or a plan ends early, they are that window itself
abbrev pub PiecesReach : Type 0
PiecesReach = (s : Store) → IsValid s → (d : Download) (es : List Event) → IsAllowedHistory es → IsTrueHistory s d es
    → ReachesEnd d.range es → pieces s es ≡ window_of s d

-- no more is written than the pieces have, and the written bytes are the beginning of the window
pub record IsWrittenPrefix (s : Store) (d : Download) (es : List Event) : Type 0 where
  pub within : written es ≤ length (pieces s es)
  pub same : take (written es) (pieces s es) ≡ take (written es) (window_of s d)

-- so it is in every allowed and true history
abbrev pub WrittenArePrefix : Type 0
WrittenArePrefix = (s : Store) → IsValid s → (d : Download) (es : List Event)
    → IsAllowedHistory es → IsTrueHistory s d es → IsWrittenPrefix s d es
