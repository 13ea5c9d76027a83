-- Pulls of an unordered stream that weren't there yet.
use Rattle.std.specs.Prelude.{ℕ, zero, suc, ◌≡◌, ◌<◌, List, Ok}
use Rattle.xet_outside.specs.Told.{CacheTold, ClientTold}
use Rattle.xet_stream_rules.specs.declared.step.Step.TheVariants.{Pending}
use Rattle.xet_stream_rules.specs.Streams.{waits_left}
use Rattle.xet_stream_rules.specs.Unordered.{ItemAnswer, UnorderedView}
use Rattle.xet_unordered_streams.specs.Items.{ItemCall}

abbrev pub ItemWaited : ℕ → UnorderedView → UnorderedView → List ClientTold → List ClientTold → CacheTold → CacheTold
    → Type 0
ItemWaited zero b n cs ds k l = (n ≡ b) × (ds ≡ cs) × (l ≡ k)
ItemWaited (suc steps) b n cs ds k l =
    (m : UnorderedView) × (es : List ClientTold) × (j : CacheTold) × ItemCall b m cs es k j (Ok Pending)
    × ItemWaited steps m n es ds j l

pub record ItemsSoFar (b n : UnorderedView) (cs ds : List ClientTold) (k l : CacheTold) : Type 0 where
  pub steps : ℕ
  pub waited : ItemWaited steps b n cs ds k l

-- a step in order
pub record NextInOrder (b n : UnorderedView) (cs ds : List ClientTold) (k l : CacheTold) (answer : ItemAnswer) : Type 0
  where
    pub call : ItemCall b n cs ds k l answer
    pub falls : answer ≡ Ok Pending → waits_left n.stream < waits_left b.stream
