-- What a tap tells, and what one passing block may do to it.
use Rattle.std.specs.Prelude.{ℕ, ◌≡◌, ◌++◌, Bool, true, cond, List, [], length, Option, Some, None, map, option_map}
use Rattle.std.specs.Prelude.{unwrap_or, Result, IfOk, OnOk, OnErr}
use Rattle.xet_base.specs.declared.error.OutOfMemory.{OutOfMemory}
use Rattle.xet_base.specs.Store.{Store}
use Rattle.xet_outside.specs.declared.block.BlockBytes.{BlockBytes}
use Rattle.xet_outside.specs.declared.block.BlockRequest.{BlockRequest}
use Rattle.xet_outside.specs.declared.said.Said.{Said}
use Rattle.xet_outside.specs.declared.said.Said.TheVariants as said
use Rattle.xet_outside.specs.declared.served.Served.{Served}
use Rattle.xet_outside.specs.Answers.{bytes_in}
use Rattle.xet_outside.specs.Told.{ClientTold, Grew, served_of, through_tap, to_store}
use Rattle.xet_store.specs.declared.client_log.ClientLog.{ClientLog}

pub record TapTold : Type 0 where
  -- the requests of the blocks that passed
  pub passed : Option (List Served)
  -- the blocks that were handed on for them, one for each
  pub gave : Option (List BlockBytes)
  -- each block is handed on as it came
  pub honest : Bool

-- one call of `pass`
pub record PassCall (before after : TapTold) (request : BlockRequest) (block : BlockBytes)
    (answer : Result BlockBytes OutOfMemory) : Type 0 where
  pub honest : after.honest ≡ before.honest
  pub same : before.honest ≡ true → IfOk answer (λ a. a ≡ block)
  pub passed : OnOk answer (Grew before.passed after.passed (served_of request))
  pub gave : IfOk answer (λ a. Grew before.gave after.gave a)
  pub not_passed : OnErr answer (after.passed ≡ before.passed)
  pub not_given : OnErr answer (after.gave ≡ before.gave)

-- what a connection behind a tap said: what the tap had given before counts as said
abbrev pub said_behind : TapTold → ClientLog → Option (List Said)
said_behind start log = option_map (λ gave. map (λ b. said.Block b) gave ++ log.said) start.gave

-- how many blocks the tap had given, where it tells them
abbrev pub given_count : TapTold → ℕ
given_count start = length (unwrap_or start.gave [])

-- what a connection to a store behind a borrowed tap tells, with the tap as it was when the connection was made and as
-- it is: the store where the tap is honest, the queries, what was said with the blocks as the tap handed them on, what
-- passed, and through what it works: the reference to the tap, how many blocks this had given at first, and the store
abbrev pub behind : Store → ClientLog → TapTold → TapTold → ℕ → ClientTold
behind s log start now name = record {
  store = cond now.honest (Some s) None;
  asked = Some log.asked;
  said = said_behind start log;
  served = now.passed;
  faults = 0;
  expiries = 0;
  link = through_tap name (through_tap (given_count start) (to_store s));
}

-- the blocks among what was said are those that the tap gave
abbrev pub AreGiven : Option (List Said) → TapTold → Type 0
AreGiven all now = option_map bytes_in all ≡ now.gave
