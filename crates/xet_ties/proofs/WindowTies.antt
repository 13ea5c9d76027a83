-- The ties after the terms of a window are recorded.
use Rattle.std.proofs.Common.{◌≡◌, ℕ, ◌+◌, Bool, true, false, cond, List, [], ◌∷◌, ◌++◌, refl, sym, subst, ◌∙◌, arith, append_assoc, None}
use Rattle.std.specs.Prelude.{nat_lt}
use Rattle.std.proofs.lemmas.List.{append-nil}
use Rattle.std.proofs.lemmas.Bool.Decides.{nat_tests}
use Rattle.xet_events.specs.declared.event.Event.{Event}
use Rattle.xet_events.specs.declared.event.Event.TheVariants.{Wrote}
use Rattle.xet_ties.specs.PartCalls.{total}
use Rattle.xet_ties.specs.Recordings.{wrote_of}
use Rattle.xet_ties.specs.Setup.{RunTold, Setup}
use Rattle.xet_ties.specs.Ties.{Slack, Ties}
use Rattle.xet_ties.proofs.Recording.{tie_wrote}

pub tie_written : (g : Setup) (b n : RunTold) (es : List Event) (sl : Slack) (ns : List ℕ) (rest : ℕ) → sl.ahead ≡ total ns + rest → Ties g b n es None sl → Ties g b n (es ++ wrote_of ns) None (record sl { ahead = rest })
tie_written g b n es sl [] rest is t =
    let e : total [] + rest ≡ rest = omega arith in
    subst (λ (l : List Event). Ties g b n l None (record sl { ahead = rest })) (sym (append-nil es)) (subst (λ (a : ℕ). Ties g b n es None (record sl { ahead = a })) (is ∙ e) t)
tie_written g b n es sl (k ∷ ns) rest is t = by (nat_lt 0 k) refl (λ fs to a u. tie_written g b n fs to ns rest a u)
  where
    by : (v : Bool) → nat_lt 0 k ≡ v → ((fs : List Event) (to : Slack) → to.ahead ≡ total ns + rest → Ties g b n fs None to → Ties g b n (fs ++ wrote_of ns) None (record to { ahead = rest })) → Ties g b n (es ++ (cond (nat_lt 0 k) (Wrote k ∷ []) [] ++ wrote_of ns)) None (record sl { ahead = rest })
    by true h more =
        let a : sl.ahead ≡ k + (total ns + rest) = omega (arith, is) in
        let one = tie_wrote g b n es sl k (total ns + rest) a t in
        subst (λ (c : Bool). Ties g b n (es ++ (cond c (Wrote k ∷ []) [] ++ wrote_of ns)) None (record sl { ahead = rest })) (sym h)
        (subst (λ (l : List Event). Ties g b n l None (record sl { ahead = rest })) (append_assoc es (Wrote k ∷ []) (wrote_of ns)) (more (es ++ Wrote k ∷ []) (record sl { ahead = total ns + rest }) refl one))
    by false h more =
        let z : k ≡ 0 = grind (arith, nat_tests) in
        let first : total (k ∷ ns) ≡ k + total ns = refl in
        let a : sl.ahead ≡ total ns + rest = omega (arith, is, z, first) in
        subst (λ (c : Bool). Ties g b n (es ++ (cond c (Wrote k ∷ []) [] ++ wrote_of ns)) None (record sl { ahead = rest })) (sym h) (more es sl a t)
