use Rattle.std.proofs.Common.{rules, ◌≡◌, ◌∙◌, ap, sym, subst, map, length, List}
use Rattle.std.proofs.lemmas.List.{length-map}
use Rattle.xet_lane.specs.Fetches.{ask_of}
use Rattle.xet_lane.specs.Ends.{End, ended}
use Rattle.xet_lanes.specs.Rounds.{LanesDrew}
use Rattle.xet_lanes.proofs.RoundEnds.{no_lanes, round_past}
use Rattle.xet_lanes.proofs.overlap.fetch_and_write.Goals as goal

pub returns-then-lanes-eq0-clause-call : goal.returns-then-lanes-eq0-clause-call
returns-then-lanes-eq0-clause-call g c =
    let none : length c.args.fetches.now ≡ 0 = search rules in
    let asks : length (map ask_of c.args.fetches.now) ≡ 0 = length-map c.args.fetches.now ask_of ∙ none in
    let before = map g.C.Client.told c.args.clients.now in
    let P : List End → Type 0 = λ l. LanesDrew (map ask_of c.args.fetches.now) before before l in
    record {
      refused = tt;
      wrote = c.write_ready.ensures.call;
      drew = subst P (sym (ap (map ended) c.new.ensures.items)) (no_lanes _ _ asks);
    }

pub returns-clause-call : goal.returns-clause-call
returns-clause-call g c =
    round_past g.C.Client.told _ _ _ _ _ _ _ _ _ c.split_at_mut-used.ensures.value c.join_lanes.ensures.call
