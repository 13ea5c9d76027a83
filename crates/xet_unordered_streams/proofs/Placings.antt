-- What an unordered stream keeps, at its beginning, and where it is cancelled.
use Rattle.std.proofs.Common.{◌≡◌, ℕ, Bool, true, false, List, [], sym, ◌∙◌, arith}
use Rattle.std.proofs.lemmas.List.Elements.{All-nil}
use Rattle.xet_events.specs.Limits.{LimitTold}
use Rattle.xet_history.specs.TrueHistory.{IsTrueEvent}
use Rattle.xet_ties.specs.Setup.{Setup}
use Rattle.xet_stream_rules.specs.Streams.{StreamView, new_stream}
use Rattle.xet_stream_rules.specs.Unordered.{IsIn, offset_of}
use Rattle.xet_unordered_streams.specs.declared.early_terms.EarlyTerms.{EarlyTerms}
use Rattle.xet_unordered_streams.specs.Items.{ArePassed}
use Rattle.xet_unordered_streams.specs.Placing.{IsPlacing, is_early}
use Rattle.xet_unordered_streams.proofs.Given.{given_same}

pub new_placing : (g : Setup) (limits : LimitTold) (e : EarlyTerms) → ((n : ℕ) → is_early e n ≡ false)
    → IsPlacing (new_stream g limits) [] e
new_placing g limits e none = record {
  allowed = tt;
  stands = record {
    true_of = λ s o. record { cuts = tt; plans = All-nil (IsTrueEvent s g.file g.multirange) };
    starts = tt;
    led = λ o. tt;
  };
  given = record {
    each = λ o i. absurd i;
    there = λ n h. absurd (let z : false ≡ true = sym (none n) ∙ h in cc);
    passed = All-nil (λ t. IsIn (offset_of g.range t) []);
    few = omega arith;
  };
}

pub cancelled_placing : (v : StreamView) (places : List ℕ) (e : EarlyTerms) → IsPlacing v places e
    → IsPlacing (record v { cancelled = true }) places e
cancelled_placing v places e h = record {
  allowed = h.allowed;
  stands = record {
    true_of = h.stands.true_of;
    starts = h.stands.starts;
    led = λ o. absurd (let z = o.uncancelled in cc);
  };
  given = h.given;
}

-- with the same terms
pub placing_same : (v : StreamView) (places : List ℕ) (e later : EarlyTerms)
    → ((n : ℕ) → is_early later n ≡ is_early e n) → IsPlacing v places e → IsPlacing v places later
placing_same v places e later same h = record {
  allowed = h.allowed;
  stands = h.stands;
  given = given_same v.setup.range v.events (is_early e) (is_early later) places same h.given;
}

pub passed_of : (v : StreamView) (places : List ℕ) (e : EarlyTerms) (ended : Bool) → IsPlacing v places e
    → ArePassed (record { stream = v; delivered = places; ended = ended })
passed_of v places e ended h = h.given.passed
