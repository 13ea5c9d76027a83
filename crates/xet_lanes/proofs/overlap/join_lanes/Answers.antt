use Rattle.std.proofs.Common.{◌≡◌, ◌<◌, ◌≤◌, sym, ap, ◌∙◌, subst, map, length}
use Rattle.std.specs.Prelude.{All, List}
use Rattle.std.proofs.lemmas.List.{length-map}
use Rattle.xet_claims.specs.declared.claims.ClaimPass.{ClaimPass}
use Rattle.xet_claims.specs.ClaimPasses.{IsPassOf, drawn_of, misses_of, raised_count, stopped_count, weight_of}
use Rattle.xet_claims.specs.ClaimViews.{times}
use Rattle.xet_ties.specs.Setup.{most_lanes}
use Rattle.xet_lane.specs.Fetches.{ask_of}
use Rattle.xet_lanes.proofs.RoundEnds.{drew_ends, drew_parts, drew_passes, drew_some, drew_weight, lanes_drew}
use Rattle.xet_lanes.proofs.overlap.join_lanes.Goals as goal

pub take_apart-requires-clause-one : goal.take_apart-requires-clause-one
take_apart-requires-clause-one g c = drew_parts _ c.in_ok-claims.claims _ _ _ _ c.draw_and_write-wrote.ensures.drew

pub close-drawn-requires-clause-of : goal.close-drawn-requires-clause-of
close-drawn-requires-clause-of g c =
    let P : List ClaimPass → Type 0 = λ l. All (λ p. IsPassOf c.in_ok-claims.claims p) l in
    subst P (sym (c.from_vec.ensures ∙ c.take_apart.ensures.passes))
    (drew_passes c.in_ok-claims.claims _ _ _ _ c.draw_and_write-wrote.ensures.drew)

pub close-drawn-requires-clause-all : goal.close-drawn-requires-clause-all
close-drawn-requires-clause-all g c =
    ap weight_of (c.from_vec.ensures ∙ c.take_apart.ensures.passes)
    ∙ (drew_weight c.in_ok-claims.claims _ _ _ _ c.draw_and_write-wrote.ensures.drew
    ∙ (length-map c.args.clients.now g.C.Client.told ∙ sym c.in_ok-claims.ensures.claims.1))

pub returns-clause-call : goal.returns-clause-call
returns-clause-call g c =
    let same = c.from_vec.ensures ∙ c.take_apart.ensures.passes in
    let drew = c.draw_and_write-wrote.ensures.drew in
    let asked : c.in_ok-claims.claims.count ≡ length (map ask_of c.args.fetches.now) =
    c.in_ok-claims.ensures.claims.0 ∙ sym (length-map c.args.fetches.now ask_of) in
    let some : 0 < length (map g.C.Client.told c.args.clients.now) =
    rw (length-map c.args.clients.now g.C.Client.told) c.requires.clients.0 in
    let few : length (map g.C.Client.told c.args.clients.now) ≤ most_lanes =
    rw (length-map c.args.clients.now g.C.Client.told) c.requires.clients.1 in
    record {
      refused = tt;
      wrote = c.draw_and_write-wrote.ensures.wrote;
      drew = lanes_drew c.in_ok-claims.claims _ _ _ _ _ c.close-drawn.result drew c.take_apart.ensures.ends
          (λ x. ap (λ l. times x (drawn_of l)) (sym same) ∙ c.close-drawn.ensures.all x)
          (let b = c.close-drawn.ensures.bound in rw asked at b)
          few
          (drew_some c.in_ok-claims.claims _ _ _ _ drew some)
          (λ some_missed. c.close-drawn.ensures.none
          (let P : List ClaimPass → Type 0 = λ l. 0 < misses_of l in subst P (sym same) some_missed) ∙ asked)
          (λ none. ap stopped_count (sym same) ∙ c.close-drawn.ensures.quiet (ap raised_count same ∙ none));
    }

pub returns-clause-lanes : goal.returns-clause-lanes
returns-clause-lanes g c =
    drew_ends g.C.Client.told _ c.in_ok-claims.claims _ _ _ _ _ c.draw_and_write-wrote.ensures.drew
    c.take_apart.ensures.ends
