-- What the jobs of a round say after the join.
use Rattle.std.proofs.Common.{ℕ, ◌≡◌, ◌≤◌, List, [], ◌∷◌, ◌++◌, length, map, refl, sym, ap, ◌∙◌, subst, arith, Ok, Err}
use Rattle.std.specs.Prelude.{All, Bool, true, false, cond, nat_lt, ◌<◌, Result}
use Rattle.std.specs.List.{AllZip, concat}
use Rattle.std.proofs.lemmas.List.Elements.{All-nil, All-cons}
use Rattle.std.proofs.lemmas.Bool.Decides.{nat_tests}
use Rattle.std.proofs.lemmas.List.{length-map, map-append}
use Rattle.xet_base.specs.declared.error.OutOfMemory.{OutOfMemory}
use Rattle.xet_outside.specs.Told.{ClientTold, SinkTold}
use Rattle.xet_claims.specs.declared.claim_rule.View.{View}
use Rattle.xet_claims.specs.declared.claims.Claims.{Claims}
use Rattle.xet_claims.specs.ClaimPasses.{IsPassOf, drawn_of, misses_of, pass_view, raised_count, stopped_count, weight_of}
use Rattle.xet_claims.specs.ClaimViews.{mark_of, once_below, raised_of, times}
use Rattle.xet_writers.specs.Sequential.{Sequential}
use Rattle.xet_ties.specs.Lanes.{Ask, EachDrew}
use Rattle.xet_ties.specs.Setup.{most_lanes}
use Rattle.xet_lane.specs.declared.joined.Joined.{Joined}
use Rattle.xet_lane.specs.declared.joined.LaneEnd.{LaneEnd}
use Rattle.xet_lane.specs.Fetches.{NoneFailedBefore}
use Rattle.xet_lane.specs.Ends.{End, NoneEndedBadly, ended, steps_of}
use Rattle.xet_lanes.specs.Rounds.{IsWhole, LanesDrew, RoundCall, RoundTold}
use Rattle.xet_lanes.specs.steps.Drawn.{AllDrew, Work, claims_of, ends_of}

-- ---- the passes

pub drew_passes : (c : Claims) (fs : List Ask) (bs ns : List ClientTold) (ws : List Work) → AllDrew c fs bs ns ws
    → All (λ p. IsPassOf c p) (claims_of ws)
drew_passes c fs [] [] [] h = All-nil (λ p. IsPassOf c p)
drew_passes c fs [] (n ∷ ns) ws h = absurd h
drew_passes c fs [] [] (w ∷ ws) h = absurd h
drew_passes c fs (b ∷ bs) [] ws h = absurd h
drew_passes c fs (b ∷ bs) (n ∷ ns) [] h = absurd h
drew_passes c fs (b ∷ bs) (n ∷ ns) (w ∷ ws) h =
    let d = h.0 in
    All-cons (λ p. IsPassOf c p) w.claim (claims_of ws) d.of (drew_passes c fs bs ns ws h.1)

pub drew_weight : (c : Claims) (fs : List Ask) (bs ns : List ClientTold) (ws : List Work) → AllDrew c fs bs ns ws
    → weight_of (claims_of ws) ≡ length bs
drew_weight c fs [] [] [] h = refl
drew_weight c fs [] (n ∷ ns) ws h = absurd h
drew_weight c fs [] [] (w ∷ ws) h = absurd h
drew_weight c fs (b ∷ bs) [] ws h = absurd h
drew_weight c fs (b ∷ bs) (n ∷ ns) [] h = absurd h
drew_weight c fs (b ∷ bs) (n ∷ ns) (w ∷ ws) h =
    let d = h.0 in let k = drew_weight c fs bs ns ws h.1 in let x = d.weight in omega (arith, k, x)

pub drew_parts : {J : Type 0} (v : J → Work) (c : Claims) (fs : List Ask) (bs ns : List ClientTold) (js : List J)
    → AllDrew c fs bs ns (map v js) → All (λ j. (v j).parts ≡ 1) js
drew_parts v c fs [] [] [] h = All-nil (λ j. (v j).parts ≡ 1)
drew_parts v c fs [] (n ∷ ns) [] h = absurd h
drew_parts v c fs [] (n ∷ ns) (j ∷ js) h = absurd h
drew_parts v c fs [] [] (j ∷ js) h = absurd h
drew_parts v c fs (b ∷ bs) [] [] h = absurd h
drew_parts v c fs (b ∷ bs) [] (j ∷ js) h = absurd h
drew_parts v c fs (b ∷ bs) (n ∷ ns) [] h = absurd h
drew_parts v c fs (b ∷ bs) (n ∷ ns) (j ∷ js) h =
    let d = h.0 in All-cons (λ j. (v j).parts ≡ 1) j js d.parts (drew_parts v c fs bs ns js h.1)

pub drew_length : (c : Claims) (fs : List Ask) (bs ns : List ClientTold) (ws : List Work) → AllDrew c fs bs ns ws
    → length ws ≡ length bs
drew_length c fs [] [] [] h = refl
drew_length c fs [] (n ∷ ns) ws h = absurd h
drew_length c fs [] [] (w ∷ ws) h = absurd h
drew_length c fs (b ∷ bs) [] ws h = absurd h
drew_length c fs (b ∷ bs) (n ∷ ns) [] h = absurd h
drew_length c fs (b ∷ bs) (n ∷ ns) (w ∷ ws) h = let k = drew_length c fs bs ns ws h.1 in omega (arith, k)

-- each lane hands back an end
pub drew_ends : {C J : Type 0} (f : C → ClientTold) (v : J → Work) (c : Claims) (fs : List Ask) (xs ys : List C)
    (js : List J) (es : List LaneEnd) → AllDrew c fs (map f xs) (map f ys) (map v js) → map ended es ≡ ends_of (map v js)
    → length es ≡ length xs
drew_ends f v c fs xs ys js es h e =
    sym (length-map es ended)
    ∙ (ap (λ (l : List End). length l) e
    ∙ (length-map (map v js) (λ (w : Work). record { steps = w.steps; short = w.short })
    ∙ (drew_length c fs (map f xs) (map f ys) (map v js) h ∙ length-map xs f)))

-- ---- what each lane drew

abbrev drawn_by : List Work → List (List ℕ)
drawn_by ws = map (λ (w : Work). (pass_view w.claim).drawn) ws

drew_each : (c : Claims) (fs : List Ask) (bs ns : List ClientTold) (ws : List Work) → AllDrew c fs bs ns ws
    → EachDrew fs bs ns (drawn_by ws) (steps_of (ends_of ws))
drew_each c fs [] [] [] h = refl
drew_each c fs [] (n ∷ ns) ws h = absurd h
drew_each c fs [] [] (w ∷ ws) h = absurd h
drew_each c fs (b ∷ bs) [] ws h = absurd h
drew_each c fs (b ∷ bs) (n ∷ ns) [] h = absurd h
drew_each c fs (b ∷ bs) (n ∷ ns) (w ∷ ws) h = let d = h.0 in (d.drew, drew_each c fs bs ns ws h.1)

drew_last : (c : Claims) (fs : List Ask) (bs ns : List ClientTold) (ws : List Work) → AllDrew c fs bs ns ws
    → All (λ (e : End). NoneFailedBefore e.steps) (ends_of ws)
drew_last c fs [] [] [] h = All-nil (λ (e : End). NoneFailedBefore e.steps)
drew_last c fs [] (n ∷ ns) ws h = absurd h
drew_last c fs [] [] (w ∷ ws) h = absurd h
drew_last c fs (b ∷ bs) [] ws h = absurd h
drew_last c fs (b ∷ bs) (n ∷ ns) [] h = absurd h
drew_last c fs (b ∷ bs) (n ∷ ns) (w ∷ ws) h =
    let d = h.0 in
    All-cons (λ (e : End). NoneFailedBefore e.steps) (record { steps = w.steps; short = w.short }) (ends_of ws) d.last
    (drew_last c fs bs ns ws h.1)

drawn_same : (ws : List Work) → drawn_of (claims_of ws) ≡ concat (drawn_by ws)
drawn_same [] = refl
drawn_same (w ∷ ws) = ap (λ l. (pass_view w.claim).drawn ++ l) (drawn_same ws)

calm_one : (v : View) → v.raised ≡ false → raised_of v ≡ 0
calm_one v e = go v.raised e
  where
    go : (b : Bool) → b ≡ false → cond {A = ℕ} b 1 0 ≡ 0
    go true h = cc
    go false h = refl

seen_one : (v : View) → mark_of v ≡ 0 → v.stopped ≡ false
seen_one v e = go v.stopped e
  where
    go : (b : Bool) → cond {A = ℕ} b 1 0 ≡ 0 → b ≡ false
    go true h = absurd (omega arith)
    go false h = refl

-- where no lane ended badly, none set the mark
drew_calm : (c : Claims) (fs : List Ask) (bs ns : List ClientTold) (ws : List Work) → AllDrew c fs bs ns ws
    → NoneEndedBadly (ends_of ws) → raised_count (claims_of ws) ≡ 0
drew_calm c fs [] [] [] h g = refl
drew_calm c fs [] (n ∷ ns) ws h g = absurd h
drew_calm c fs [] [] (w ∷ ws) h g = absurd h
drew_calm c fs (b ∷ bs) [] ws h g = absurd h
drew_calm c fs (b ∷ bs) (n ∷ ns) [] h g = absurd h
drew_calm c fs (b ∷ bs) (n ∷ ns) (w ∷ ws) h g =
    let d = h.0 in
    let k = drew_calm c fs bs ns ws h.1 g.2 in
    let z = calm_one (pass_view w.claim) ((d.ended g.0 g.1).0.0) in
    omega (arith, k, z)

-- and where none saw it, each drew until nothing was left
record Finished (ws : List Work) : Type 0 where
  some : 0 < length ws → 0 < misses_of (claims_of ws)
  whole : AllZip IsWhole (drawn_by ws) (ends_of ws)

drew_finished : (c : Claims) (fs : List Ask) (bs ns : List ClientTold) (ws : List Work) → AllDrew c fs bs ns ws
    → NoneEndedBadly (ends_of ws) → stopped_count (claims_of ws) ≡ 0 → Finished ws
drew_finished c fs [] [] [] h g z = record { some = λ k. absurd (omega arith); whole = tt }
drew_finished c fs [] (n ∷ ns) ws h g z = absurd h
drew_finished c fs [] [] (w ∷ ws) h g z = absurd h
drew_finished c fs (b ∷ bs) [] ws h g z = absurd h
drew_finished c fs (b ∷ bs) (n ∷ ns) [] h g z = absurd h
drew_finished c fs (b ∷ bs) (n ∷ ns) (w ∷ ws) h g z =
    let d = h.0 in
    let k = drew_finished c fs bs ns ws h.1 g.2 (omega arith) in
    let ended = d.ended g.0 g.1 in
    let here = ended.0.1 (seen_one (pass_view w.claim) (omega arith)) in
    record { some = λ _. let m = here.0 in omega arith; whole = ((here.1, ended.1), k.whole) }

-- as many lists of steps as lanes
steps_length : (ws : List Work) → length (steps_of (ends_of ws)) ≡ length ws
steps_length [] = refl
steps_length (w ∷ ws) = let r = steps_length ws in omega (arith, r)

-- what the closed claims tell of the lanes
pub lanes_drew : (c : Claims) (fs : List Ask) (bs ns : List ClientTold) (ws : List Work) (es : List End) (count : ℕ)
    → AllDrew c fs bs ns ws → es ≡ ends_of ws → ((x : ℕ) → times x (drawn_of (claims_of ws)) ≡ once_below x count)
    → count ≤ length fs → length bs ≤ most_lanes → 0 < length ws → (0 < misses_of (claims_of ws) → count ≡ length fs)
    → (raised_count (claims_of ws) ≡ 0 → stopped_count (claims_of ws) ≡ 0) → LanesDrew fs bs ns es
lanes_drew c fs bs ns ws es count h e once within few some full quiet =
    let made : LanesDrew fs bs ns (ends_of ws) = record {
      drew = record {
        drawn = drawn_by ws;
        count = count;
        apart = λ x. ap (times x) (sym (drawn_same ws)) ∙ once x;
        within = within;
        few = let k = drew_length c fs bs ns ws h in let l = steps_length ws in omega (arith, k, l, few);
        each = drew_each c fs bs ns ws h;
      };
      whole = λ good.
          let f = drew_finished c fs bs ns ws h good (quiet (drew_calm c fs bs ns ws h good)) in
          (full (f.some some), f.whole);
      last = drew_last c fs bs ns ws h;
    } in
    subst (λ (l : List End). LanesDrew fs bs ns l) (sym e) made

-- each lane has a job
pub drew_some : (c : Claims) (fs : List Ask) (bs ns : List ClientTold) (ws : List Work) → AllDrew c fs bs ns ws
    → 0 < length bs → 0 < length ws
drew_some c fs bs ns ws h l = let k = drew_length c fs bs ns ws h in omega (arith, k, l)

-- ---- connections past the lanes

each_past : (fs : List Ask) (bs ns rest : List ClientTold) (ds : List (List ℕ)) (es : List End)
    → EachDrew fs bs ns ds (steps_of es) → EachDrew fs (bs ++ rest) (ns ++ rest) ds (steps_of es)
each_past fs bs ns rest [] [] h = ap (λ (l : List ClientTold). l ++ rest) h
each_past fs bs ns rest [] (e ∷ es) h = absurd h
each_past fs bs ns rest (d ∷ ds) [] h = absurd h
each_past fs [] ns rest (d ∷ ds) (e ∷ es) h = absurd h
each_past fs (b ∷ bs) [] rest (d ∷ ds) (e ∷ es) h = absurd h
each_past fs (b ∷ bs) (n ∷ ns) rest (d ∷ ds) (e ∷ es) h = (h.0, each_past fs bs ns rest ds es h.1)

drew_past : (fs : List Ask) (bs ns rest : List ClientTold) (es : List End) → LanesDrew fs bs ns es
    → LanesDrew fs (bs ++ rest) (ns ++ rest) es
drew_past fs bs ns rest es h =
    let d = h.drew in
    record {
      drew = record {
        drawn = d.drawn;
        count = d.count;
        apart = d.apart;
        within = d.within;
        few = d.few;
        each = each_past fs bs ns rest d.drawn es d.each;
      };
      whole = h.whole;
      last = h.last;
    }

-- there are no fetches
pub no_lanes : (fs : List Ask) (bs : List ClientTold) → length fs ≡ 0 → LanesDrew fs bs bs []
no_lanes fs bs none = record {
  drew = record { drawn = []; count = 0; apart = λ x. below x; within = omega arith; few = omega arith; each = refl };
  whole = λ good. (sym none, tt);
  last = All-nil (λ (e : End). NoneFailedBefore e.steps);
}
  where
    below : (x : ℕ) → 0 ≡ once_below x 0
    below x = go (nat_lt x 0) refl
      where
        go : (b : Bool) → nat_lt x 0 ≡ b → 0 ≡ cond {A = ℕ} b 1 0
        go false e = refl
        go true e = absurd (grind (arith, nat_tests))

pub round_past : {C S : Type 0} (f : C → ClientTold) (told : S → SinkTold) (fs : List Ask) (xs a a' rest : List C)
    (s t : Sequential S) (answer : Result Joined OutOfMemory) → xs ≡ a ++ rest
    → RoundCall told fs (record { clients = map f a; writer = s }) (record { clients = map f a'; writer = t }) answer
    → RoundCall told fs (record { clients = map f xs; writer = s }) (record { clients = map f (a' ++ rest); writer = t })
    answer
round_past f told fs xs a a' rest s t (Ok j) e r =
    let start : map f xs ≡ map f a ++ map f rest = ap (λ l. map f l) e ∙ map-append f a rest in
    let end : map f (a' ++ rest) ≡ map f a' ++ map f rest = map-append f a' rest in
    let es = map ended j.ends.items in
    let P : List ClientTold → Type 0 = λ l. LanesDrew fs l (map f (a' ++ rest)) es in
    let Q : List ClientTold → Type 0 = λ l. LanesDrew fs (map f a ++ map f rest) l es in
    record {
      refused = tt;
      wrote = r.wrote;
      drew = subst P (sym start) (subst Q (sym end) (drew_past fs (map f a) (map f a') (map f rest) es r.drew));
    }
round_past {S = S} f told fs xs a a' rest s t (Err u) e r =
    let c : map f a' ≡ map f a = ap (λ (x : RoundTold S). x.clients) r.refused in
    let k : t ≡ s = ap (λ (x : RoundTold S). x.writer) r.refused in
    let g : map f (a' ++ rest) ≡ map f xs =
    map-append f a' rest ∙ (ap (λ l. l ++ map f rest) c ∙ (sym (map-append f a rest) ∙ sym (ap (λ l. map f l) e))) in
    let at : List ClientTold → Sequential S → RoundTold S = λ l x. record { clients = l; writer = x } in
    record { refused = ap (λ l. at l t) g ∙ ap (λ x. at (map f xs) x) k; wrote = tt; drew = tt }
