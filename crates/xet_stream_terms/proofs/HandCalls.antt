-- Handing the next term over, by what its calls answered.
use Rattle.std.proofs.Common.{◌≡◌, inl, ℕ, Bool, true, false, ◌+◌, ◌-◌, ◌^◌, List, [], ◌∷◌, ◌++◌, refl, sym, subst, ◌∙◌, ap, arith, Option, Some, None, Ok, Err}
use Rattle.std.specs.Prelude.{get_or, length, min, slice_get}
use Rattle.std.proofs.lemmas.Option.{slice_get_read, slice_get_within}
use Rattle.xet_error.specs.declared.error.FileReconstructionError.{FileReconstructionError}
use Rattle.xet_error.specs.declared.error.FileReconstructionError.TheVariants as error
use Rattle.xet_events.specs.declared.event.Event.{Event}
use Rattle.xet_events.specs.declared.event.Event.TheVariants.{Wrote}
use Rattle.xet_events.specs.Allowed.{IsAllowed}
use Rattle.xet_events.specs.Events.{is_kept}
use Rattle.xet_ties.specs.Setup.{Setup}
use Rattle.xet_leader.specs.declared.ahead.NextTerm.{NextTerm}
use Rattle.xet_leader.specs.declared.leader.LedPlan.{LedPlan}
use Rattle.xet_leader.specs.Advances.{advanced}
use Rattle.xet_leader.specs.Led.{Led}
use Rattle.xet_leader.specs.LedTerms.{BytesOf, IsNextTerm, PlanTerm, of_plan, size_in}
use Rattle.xet_leader.proofs.CallerLemmas.{same_found}
use Rattle.xet_stream_rules.specs.Streams.{Carries, nobody}
use Rattle.xet_stream_rules.specs.declared.step.Step.TheVariants.{Pending, Ready}
use Rattle.xet_stream_terms.specs.Handing.{HandsTerm, IsOpenNext, RecordsTerm}
use Rattle.xet_stream_terms.proofs.AdmittedTerms.{empties_are, is_planned}
use Rattle.xet_stream_terms.proofs.HandedTerms.{may_record, may_wrote}

-- the plan that was read is the term's
pub plan_read : (ls : List LedPlan) (l : Led) → ls ≡ l.plans → (n : NextTerm) → (x : IsNextTerm l n) → (p : LedPlan)
    → p ≡ get_or ls n.place p → x.plan ≡ p
plan_read ls l same n x p is =
    let at : slice_get ls n.place ≡ Some x.plan = ap (λ (v : List LedPlan). slice_get v n.place) same ∙ x.at in
    let h = slice_get_within ls n.place x.plan at in
    same_found x.plan p ls n.place n.place at (slice_get_read ls (length ls) n.place p refl h is) refl

module _ (g : Setup) (es : List Event) (l : Led) (c : Carries nobody g es l) (n : NextTerm) (next : IsOpenNext l n)
  where
    abbrev t : PlanTerm
    t = of_plan next.next.plan n.term

    pub wrote_may : (o : Option (List ℕ)) (piece : List ℕ) → o ≡ Some piece → BytesOf t (Ok o) → (long : ℕ)
        → long ≡ size_in t → IsAllowed es (Wrote long)
    wrote_may o piece e h long is =
        let p = subst (λ (v : Option (List ℕ)). BytesOf t (Ok v)) e h in
        subst (λ (k : ℕ). IsAllowed es (Wrote k)) (sym is)
        (may_wrote g es l c n next.next next.open_now p.data_of p.kept)

    pub hands_piece : (o : Option (List ℕ)) (piece : List ℕ) → o ≡ Some piece → BytesOf t (Ok o) → (long : ℕ)
        → long ≡ size_in t → (fs : List Event) → fs ≡ es ++ Wrote long ∷ [] → (count : ℕ)
        → count ≡ min (n.empties + 1) (2 ^ 64 - 1) → (k : Led) → k ≡ advanced count l
        → HandsTerm es fs l k n (Ok (Ready (Some piece)))
    hands_piece o piece e h long is fs events count one k led =
        let f = empties_are g es l c n next.next in
        let p = is_planned g es l c n next.next in
        let fits = c.led.counted.planned_fits in
        let same : count ≡ n.empties + 1 = omega (arith, one, f, p, fits) in
        record {
          next = next.next;
          hands = (
            subst (λ (v : Option (List ℕ)). BytesOf t (Ok v)) e h,
            events ∙ ap (λ (s : ℕ). es ++ Wrote s ∷ []) is,
            led ∙ ap (λ (s : ℕ). advanced s l) same,
          );
        }

    pub hands_none : (o : Option (List ℕ)) → o ≡ None → BytesOf t (Ok o) → HandsTerm es es l l n (Ok Pending)
    hands_none o e h = record {
      next = next.next;
      hands = (subst (λ (v : Option (List ℕ)). BytesOf t (Ok v)) e h, refl, refl);
    }

    pub hands_vain : (e : FileReconstructionError) → BytesOf t (Err e) → HandsTerm es es l l n (Err e)
    hands_vain e h = record { next = next.next; hands = (refl, refl, h) }

    pub hands_short : (e : FileReconstructionError) (fs : List Event) → e ≡ error.OutOfMemory → fs ≡ es
        → HandsTerm es fs l l n (Err e)
    hands_short e fs memory same = record { next = next.next; hands = (refl, same, inl memory) }

    -- ---- it was handed over before

    pub record_may : (plan : ℕ) → plan ≡ next.next.plan.number → (kept : Bool) → kept ≡ is_kept es plan n.term.xorb_block
        → kept ≡ true → (long : ℕ) → long ≡ size_in t → IsAllowed es (Wrote long)
    record_may plan of_it kept same yes_kept long is =
        subst (λ (k : ℕ). IsAllowed es (Wrote k)) (sym is)
        (may_record g es l c n next.next next.open_now
        (ap (λ (p : ℕ). is_kept es p n.term.xorb_block) (sym of_it) ∙ sym same ∙ yes_kept))

    pub records_it : (long : ℕ) → long ≡ size_in t → (fs : List Event) → fs ≡ es ++ Wrote long ∷ [] → (count : ℕ)
        → count ≡ min (n.empties + 1) (2 ^ 64 - 1) → (k : Led) → k ≡ advanced count l → RecordsTerm es fs l k n (Ok true)
    records_it long is fs events count one k led =
        let f = empties_are g es l c n next.next in
        let p = is_planned g es l c n next.next in
        let fits = c.led.counted.planned_fits in
        let same : count ≡ n.empties + 1 = omega (arith, one, f, p, fits) in
        record {
          next = next.next;
          records = (
            events ∙ ap (λ (s : ℕ). es ++ Wrote s ∷ []) is,
            led ∙ ap (λ (s : ℕ). advanced s l) same,
          );
        }

    pub records_none : (plan : ℕ) → plan ≡ next.next.plan.number → (kept : Bool)
        → kept ≡ is_kept es plan n.term.xorb_block → kept ≡ false → RecordsTerm es es l l n (Ok false)
    records_none plan of_it kept same absent = record {
      next = next.next;
      records = (
        refl,
        refl,
        ap (λ (p : ℕ). is_kept es p n.term.xorb_block) (sym of_it) ∙ sym same ∙ absent,
      );
    }

    pub records_short : (e : FileReconstructionError) (fs : List Event) → e ≡ error.OutOfMemory → fs ≡ es
        → RecordsTerm es fs l l n (Err e)
    records_short e fs memory same = record { next = next.next; records = (memory, same, refl) }
