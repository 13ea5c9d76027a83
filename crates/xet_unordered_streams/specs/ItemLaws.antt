-- What the pulls of an unordered stream give together.
use Rattle.std.specs.Prelude.{◌≡◌, List, [], ◌∷◌, None, Ok}
use Rattle.std.specs.List.{flat_map}
use Rattle.xet_base.specs.Store.{Store, IsValid, window}
use Rattle.xet_outside.specs.Told.{CacheTold, ClientTold}
use Rattle.xet_events.specs.Limits.{LimitTold}
use Rattle.xet_ties.specs.Setup.{CacheTells, IsOver, Setup}
use Rattle.xet_stream_rules.specs.declared.step.Step.TheVariants.{Ready}
use Rattle.xet_stream_rules.specs.Streams.{IsOpen, StreamView}
use Rattle.xet_stream_rules.specs.StreamLaws.{MayCancel}
use Rattle.xet_stream_rules.specs.Unordered.{ArePlaced, IsSortedOf, Item, ItemAnswer, UnorderedView, items_of}
use Rattle.xet_stream_rules.specs.Unordered.{new_unordered}
use Rattle.xet_unordered_streams.specs.Items.{ItemCall}

-- a pull over connections and a cache that tell the store
pub record ItemOver (s : Store) (b n : UnorderedView) (answer : ItemAnswer) : Type 0 where
  pub clients_before : List ClientTold
  pub clients_after : List ClientTold
  pub cache_before : CacheTold
  pub cache_after : CacheTold
  pub over : IsOver s clients_before
  pub cache : CacheTells s cache_before
  pub call : ItemCall b n clients_before clients_after cache_before cache_after answer

-- pulls, one after another; between two the stream may be cancelled
abbrev pub ItemPulls : Store → UnorderedView → List ItemAnswer → UnorderedView → Type 0
ItemPulls s b [] n = n ≡ b
ItemPulls s b (a ∷ more) n = (c : StreamView) × (m : UnorderedView) × MayCancel b.stream c
    × ItemOver s (record b { stream = c }) m a × ItemPulls s m more n

-- whatever the pulls answered, each item is the window's bytes at its place, and no place comes twice
abbrev pub ItemsArePlaced : Type 0
ItemsArePlaced = (s : Store) → IsValid s → (g : Setup) (limits : LimitTold) (answers : List ItemAnswer)
    (n : UnorderedView) → ItemPulls s (new_unordered g limits) answers n → ArePlaced s g (items_of answers)

-- up to an end that is none without error or cancel, sorted by their offsets they join to the window
abbrev pub ItemsJoin : Type 0
ItemsJoin = (s : Store) → IsValid s → (g : Setup) (limits : LimitTold) (answers : List ItemAnswer)
    (end n : UnorderedView) → ItemPulls s (new_unordered g limits) answers end → ItemOver s end n (Ok (Ready None))
    → IsOpen n.stream → (sorted : List Item) → IsSortedOf (items_of answers) sorted
    → flat_map (λ (x : Item). x.1) sorted ≡ window s g.file g.range
