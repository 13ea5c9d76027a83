use Rattle.std.proofs.Common.{refl, sym, ◌∙◌}
use Rattle.std.proofs.lemmas.Bool.{false≢true}
use Rattle.xet_clean_parts.proofs.Cleaning.{leaves-refl, room-after, still-cleans}
use Rattle.xet_clean_parts.proofs.Puts.{so-emptied, so-next}
use Rattle.xet_clean_parts.proofs.SessionCalls.{calls-none}
use Rattle.xet_clean_parts.proofs.FileCalls.{tells-none}
use Rattle.xet_clean_parts.proofs.deduper.make_room.Goals as goal

pub returns-then-has_room : goal.returns-then-has_room
returns-then-has_room g c = record {
  leaves = leaves-refl _ _ refl;
  cleans = still-cleans _ _ _ _ refl refl;
  room = c.has_room.ensures.0 c.if-has_room.true;
  puts = so-next _ _ _ _ _ refl;
  why = tt;
  tells = tells-none _ _ _ _ _ refl tt;
  calls = calls-none _ _ _ refl;
  group = (refl, refl);
}

pub returns : goal.returns
returns g c = record {
  leaves = c.cut_own.ensures.leaves;
  cleans = c.cut_own.ensures.cleans;
  room = room-after _ _ c.cut_own.result c.cut_own.ensures.emptied c.requires;
  puts = so-emptied _ _ _ _ _ c.cut_own.result c.cut_own.ensures.emptied
      (c.cut_own.ensures.puts _ (λ w. false≢true (sym c.if-has_room.false ∙ c.has_room.ensures.1 w)));
  why = c.cut_own.ensures.why;
  tells = c.cut_own.ensures.tells;
  calls = c.cut_own.ensures.calls;
  group = c.cut_own.ensures.group;
}
