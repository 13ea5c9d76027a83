-- A stream's leader after terms were admitted.
use Rattle.std.proofs.Common.{◌≡◌, ℕ, ◌+◌, ◌-◌, List, [], ◌∷◌, ◌++◌, length, take, refl, sym, ◌∙◌, ap, append_assoc}
use Rattle.std.specs.Prelude.{filter, map, min}
use Rattle.std.proofs.lemmas.List.{append-nil}
use Rattle.xet_base.specs.declared.cas_types.FileRange.{FileRange}
use Rattle.xet_events.specs.declared.event.Event.{Event}
use Rattle.xet_events.specs.declared.event.Event.TheVariants.{Admit}
use Rattle.xet_events.specs.Events.{Task}
use Rattle.xet_history.specs.TrueHistory.{queries}
use Rattle.xet_parts.specs.Admissions.{admits}
use Rattle.xet_parts.proofs.CallerLemmas.{admits_planned}
use Rattle.xet_ties.specs.Saids.{has_bytes}
use Rattle.xet_ties.specs.Setup.{RunTold, Setup}
use Rattle.xet_leader.specs.Led.{Led}
use Rattle.xet_leader.proofs.CallerLemmas.{led_admits}
use Rattle.xet_stream_rules.specs.Streams.{Carries, delivered}
use Rattle.xet_stream_rules.proofs.CallerLemmas.{IsStill, still_delivered, still_queries}

pub admit_still : (n : ℕ) → IsStill (Admit n)
admit_still n = record { tasks = refl; query = refl; wrote = refl }

queries_after : (es : List Event) (ls : List ℕ) → queries (es ++ admits ls) ≡ queries es
queries_after es [] = ap queries (append-nil es)
queries_after es (n ∷ ls) =
    sym (ap queries (append_assoc es (Admit n ∷ []) (admits ls))) ∙ queries_after (es ++ Admit n ∷ []) ls
    ∙ still_queries es (Admit n) (admit_still n)

delivered_after : (es : List Event) (ls : List ℕ) → delivered (es ++ admits ls) ≡ delivered es
delivered_after es [] = ap delivered (append-nil es)
delivered_after es (n ∷ ls) =
    sym (ap delivered (append_assoc es (Admit n ∷ []) (admits ls))) ∙ delivered_after (es ++ Admit n ∷ []) ls
    ∙ still_delivered es (Admit n) (admit_still n)

pub carries_admits : (b : RunTold) (g : Setup) (es : List Event) (l : Led) → (c : Carries b g es l) → (ls : List ℕ)
    (most left : ℕ) → length ls + left ≡ min (l.planned - l.admitted) most
    → Carries b g (es ++ admits ls) (record l { admitted = l.admitted + (min (l.planned - l.admitted) most - left) })
carries_admits b g es l c ls most left n = record {
  slack = c.slack;
  log = c.log;
  heard = c.heard;
  asked = c.asked ∙ sym (ap (λ (xs : List FileRange). map (λ q. (g.file, q)) xs) (queries_after es ls));
  answered = c.answered;
  paired = c.paired;
  led = led_admits g b es ls c.slack [] l most left n c.led;
  whole = ap (λ (ts : List Task). length (filter has_bytes (take l.finished ts))) (admits_planned es ls) ∙ c.whole
      ∙ sym (delivered_after es ls);
}
