-- What the pulls of a stream give together.
use Rattle.std.specs.Prelude.{ℕ, ◌≡◌, ◌⊎◌, true, List, [], ◌∷◌, length, Some, None, Ok, Err}
use Rattle.std.specs.List.{flat_map}
use Rattle.xet_base.specs.Store.{Store, IsValid, window}
use Rattle.xet_outside.specs.Told.{CacheTold, ClientTold}
use Rattle.xet_events.specs.Limits.{LimitTold}
use Rattle.xet_events.specs.Events.{written}
use Rattle.xet_history.specs.Laws.{IsPrefix}
use Rattle.xet_ties.specs.Setup.{CacheTells, IsOver, Setup}
use Rattle.xet_stream_rules.specs.declared.step.Step.TheVariants.{Pending, Ready}
use Rattle.xet_stream_rules.specs.Streams.{IsOpen, StreamView, new_stream}
use Rattle.xet_stream_rules.specs.Pulls.{Answer, PullCall}

-- a pull over connections and a cache that tell the store
pub record PullOver (s : Store) (b n : StreamView) (answer : Answer) : Type 0 where
  pub clients_before : List ClientTold
  pub clients_after : List ClientTold
  pub cache_before : CacheTold
  pub cache_after : CacheTold
  pub over : IsOver s clients_before
  pub cache : CacheTells s cache_before
  pub call : PullCall b n clients_before clients_after cache_before cache_after answer

-- the stream as it was, or cancelled
abbrev pub MayCancel : StreamView → StreamView → Type 0
MayCancel b c = (c ≡ b) ⊎ (c ≡ record b { cancelled = true })

-- pulls, one after another; between two the stream may be cancelled
abbrev pub Pulls : Store → StreamView → List Answer → StreamView → Type 0
Pulls s b [] n = n ≡ b
Pulls s b (a ∷ more) n =
    (c : StreamView) × (m : StreamView) × MayCancel b c × PullOver s c m a × Pulls s m more n

-- the bytes that an answer hands over
abbrev pub piece_of : Answer → List ℕ
piece_of (Ok (Ready (Some piece))) = piece
piece_of (Ok (Ready None)) = []
piece_of (Ok Pending) = []
piece_of (Err e) = []

-- the pieces so far, joined
abbrev pub joined : List Answer → List ℕ
joined answers = flat_map piece_of answers

-- whatever the pulls answered, their pieces joined are the beginning of the window, and as many bytes are written
pub record IsSoFar (s : Store) (g : Setup) (answers : List Answer) (n : StreamView) : Type 0 where
  pub from : IsPrefix (joined answers) (window s g.file g.range)
  pub counted : written n.events ≡ length (joined answers)

abbrev pub PiecesGoOn : Type 0
PiecesGoOn = (s : Store) → IsValid s → (g : Setup) (limits : LimitTold) (answers : List Answer) (n : StreamView)
    → Pulls s (new_stream g limits) answers n → IsSoFar s g answers n

-- up to an end that is none without error or cancel they are the window
abbrev pub PiecesJoin : Type 0
PiecesJoin = (s : Store) → IsValid s → (g : Setup) (limits : LimitTold) (answers : List Answer) (end n : StreamView)
    → Pulls s (new_stream g limits) answers end → PullOver s end n (Ok (Ready None)) → IsOpen n
    → (joined answers ≡ window s g.file g.range) × (written n.events ≡ length (window s g.file g.range))
