-- How the loop over one piece ends.
use Rattle.std.proofs.Common.{◌≡◌, ℕ, ◌-◌, ◌≤◌, List, take, drop, length, Err, refl, ◌∙◌, arith}
use Rattle.xet_outside.specs.declared.sink.SinkError.TheVariants as sink_error
use Rattle.xet_outside.specs.Told.{SinkTold, Took, WriteCall}
use Rattle.xet_outside.proofs.CallerLemmas.{prefix_more, rest_is}
use Rattle.xet_sinks.specs.declared.pushing.Sent.TheVariants.{Fault}
use Rattle.xet_sinks.specs.steps.Pushed.{Pushed}

pub pushed_fault : (a b c : SinkTold) (piece : List ℕ) (at : ℕ) → at ≤ length piece
    → Took a.took b.took (take at piece) → b.flushed ≡ a.flushed → b.link ≡ a.link → b.faults ≡ a.faults
    → WriteCall b c (take (length piece - at) (drop at piece)) (Err sink_error.Failed) → Pushed a c piece Fault
pushed_fault a b c piece at i t f g l h = record {
  took = prefix_more a.took b.took c.took piece at i t (let p = h.prefix refl in rw rest_is at p);
  flushed = h.flushed ∙ f;
  link = h.link ∙ g;
  faults = let m = h.faults in omega arith;
  failed = λ _. let r = h.failed refl in omega arith;
  unfailed = tt;
}
