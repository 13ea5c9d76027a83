use Rattle.std.proofs.Common.{rules}
use Rattle.xet_progress_state.specs.steps.Keys.{last_word}
use Rattle.xet_progress_state.proofs.hash_key.last_word.Goals as goal

pub returns : goal.returns
unfolding last_word
returns c = search rules
