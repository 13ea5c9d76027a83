-- Plans, admissions and writes, with what the index tells then.
use Rattle.std.proofs.Common.{◌≡◌, ℕ, suc, zero, ◌+◌, ◌-◌, ◌≤◌, ◌<◌, ◌^◌, ◌==◌, ◌&&◌, Bool, true, false, cond, List, [], ◌∷◌, ◌++◌, take, drop, Option, Some, None, refl, sym, ◌∙◌, ap, ⊎_elim, arith}
use Rattle.std.specs.Prelude.{map, filter, count_by, slice_get, unwrap_or, option_map, nat_lt, MatchOption}
use Rattle.std.specs.Option.{option_or}
use Rattle.std.specs.List.{list_any, sum_by}
use Rattle.std.specs.BTreeSet as sorted
use Rattle.std.specs.Ordering.{nat_cmp}
use Rattle.std.proofs.lemmas.List.{append-nil, map-append, drop-append-le}
use Rattle.std.proofs.lemmas.List.Elements.{filter-append}
use Rattle.std.proofs.lemmas.List.Sums.{sum_by_push, sum_by-cons, sum_by-take-le}
use Rattle.std.proofs.lemmas.Bool.{ltb-true, ltb-false, lt-ltb, le-ltb, eq-eqb, ne_eqb, cases_eq}
use Rattle.xet_error.specs.declared.error.FileReconstructionError.{FileReconstructionError}
use Rattle.xet_base.specs.declared.cas_types.FileRange.{FileRange}
use Rattle.xet_events.specs.declared.event.PlannedTerm.{PlannedTerm}
use Rattle.xet_events.specs.declared.event.PlannedBlock.{PlannedBlock}
use Rattle.xet_events.specs.declared.event.Event.{Event}
use Rattle.xet_events.specs.declared.event.Event.TheVariants.{Planned, Admit, Wrote}
use Rattle.xet_events.specs.declared.index.WaitingTerm.{WaitingTerm}
use Rattle.xet_events.specs.declared.index.UnfinishedTerm.{UnfinishedTerm}
use Rattle.xet_events.specs.declared.index.Index.{Index}
use Rattle.xet_events.specs.Events.{Task, size, needs, last_of, planned, plan_count, planned_end, tasks_of, is_plan, is_admit, admitted, written, ended, has_more, unfinished, keeps, is_kept, first_error, is_cancel}
use Rattle.xet_events.specs.Allowed.{MayWrite, IsAllowed}
use Rattle.xet_events.specs.BlockTables.{end_in, is_block, kept_in}
use Rattle.xet_events.specs.Indexes.{IsIndexed, IsAdmitted, waiting_of, waiting_in, unfinished_of, finished, last_end, or_else, end_where}
use Rattle.xet_events.proofs.CallerLemmas.{count_by-push, any-push, planned-push, written-push, error-push, stale-push, end-push, allowed_push, facts, admitted-same, admitted-more, next_in, may_write}
use Rattle.xet_run.proofs.Keys.{or_false}

or_nothing : (o : Option FileReconstructionError) → o ≡ option_or o None
or_nothing None = refl
or_nothing (Some e) = refl

drop_next : {A B : Type 0} (f : A → B) (n : ℕ) (xs : List A) → drop 1 (map f (drop n xs)) ≡ map f (drop (suc n) xs)
drop_next f zero [] = refl
drop_next f zero (x ∷ xs) = refl
drop_next f (suc n) [] = refl
drop_next f (suc n) (x ∷ xs) = drop_next f n xs

-- one more term behind
ended-push : (p : ℕ) (ts : List Task) (t : Task) → ended p (ts ++ t ∷ []) ≡ ended p ts ++ ((p + sum_by size ts) + size t, t) ∷ []
ended-push p [] t = let e : p + size t ≡ (p + sum_by size []) + size t = omega arith in ap (λ (n : ℕ). (n, t) ∷ []) e
ended-push p (x ∷ xs) t =
    let s = sum_by-cons size x xs in
    let e : ((p + size x) + sum_by size xs) + size t ≡ (p + sum_by size (x ∷ xs)) + size t = omega arith in
    ap (λ l. (p + size x, x) ∷ l) (ended-push (p + size x) xs t ∙ ap (λ (n : ℕ). ended (p + size x) xs ++ (n, t) ∷ []) e)

or_assoc : (a b c : Option ℕ) → or_else (or_else a b) c ≡ or_else a (or_else b c)
or_assoc None b c = refl
or_assoc (Some e) b c = refl

or_none : (o : Option ℕ) → or_else o None ≡ o
or_none None = refl
or_none (Some e) = refl

last_end-push : (p b : ℕ) (cs : List (ℕ × Task)) (c : ℕ × Task) → last_end p b (cs ++ c ∷ []) ≡ or_else (end_where (needs p b c.1 && nat_lt 0 (size c.1)) c.0) (last_end p b cs)
last_end-push p b [] c = sym (or_none (end_where (needs p b c.1 && nat_lt 0 (size c.1)) c.0))
last_end-push p b (d ∷ cs) c = ap (λ o. or_else o (end_where (needs p b d.1 && nat_lt 0 (size d.1)) d.0)) (last_end-push p b cs c) ∙ or_assoc (end_where (needs p b c.1 && nat_lt 0 (size c.1)) c.0) (last_end p b cs) (end_where (needs p b d.1 && nat_lt 0 (size d.1)) d.0)

-- what is left after a write
more_after : (w q : ℕ) (ts : List Task) → w ≤ q → filter (has_more w) (ended q ts) ≡ filter (λ c. nat_lt 0 (size c.1)) (ended q ts)
more_after w q [] h = refl
more_after w q (t ∷ ts) h = go (nat_lt 0 (size t)) refl (more_after w (q + size t) ts (omega arith))
  where
    go : (b : Bool) → nat_lt 0 (size t) ≡ b → filter (has_more w) (ended (q + size t) ts) ≡ filter (λ c. nat_lt 0 (size c.1)) (ended (q + size t) ts)
        → cond (b && nat_lt w (q + size t)) ((q + size t, t) ∷ filter (has_more w) (ended (q + size t) ts)) (filter (has_more w) (ended (q + size t) ts))
        ≡ cond b ((q + size t, t) ∷ filter (λ c. nat_lt 0 (size c.1)) (ended (q + size t) ts)) (filter (λ c. nat_lt 0 (size c.1)) (ended (q + size t) ts))
    go true e r =
        let some = ltb-true 0 (size t) e in
        let below : nat_lt w (q + size t) ≡ true = lt-ltb w (q + size t) (omega arith) in
        ap (λ b. cond b ((q + size t, t) ∷ filter (has_more w) (ended (q + size t) ts)) (filter (has_more w) (ended (q + size t) ts))) below ∙ ap (λ l. (q + size t, t) ∷ l) r
    go false e r = r

lt_of : (x y : ℕ) → x ≤ y → (y ≡ x → ⊥) → x < y
lt_of x y h r = omega (arith, h, r)

-- the oldest unfinished term is finished where its end is reached
finished_is : (w v q : ℕ) (ts : List Task) (c : ℕ × Task) → slice_get (filter (has_more w) (ended q ts)) 0 ≡ Some c → w ≤ v → v ≤ c.0
    → finished v (map unfinished_of (filter (has_more w) (ended q ts))) ≡ map unfinished_of (filter (has_more v) (ended q ts))
finished_is w v q [] c h below within = refl
finished_is w v q (t ∷ ts) c h below within =
    split (q + size t) (filter (has_more w) (ended (q + size t) ts)) (filter (has_more v) (ended (q + size t) ts))
    (λ k. finished_is w v (q + size t) ts c k below within)
    (λ k. more_after w (q + size t) ts (omega arith) ∙ sym (more_after v (q + size t) ts k))
    (nat_lt 0 (size t)) (nat_lt w (q + size t)) refl h
  where
    split : (m : ℕ) (xs ys : List (ℕ × Task)) → (slice_get xs 0 ≡ Some c → finished v (map unfinished_of xs) ≡ map unfinished_of ys) → (v ≤ m → xs ≡ ys)
        → (z l : Bool) → nat_lt w m ≡ l → slice_get (cond (z && l) ((m, t) ∷ xs) xs) 0 ≡ Some c
        → finished v (map unfinished_of (cond (z && l) ((m, t) ∷ xs) xs)) ≡ map unfinished_of (cond (z && nat_lt v m) ((m, t) ∷ ys) ys)
    split m xs ys next same false l k h = next h
    split m xs ys next same true false k h =
        let b : nat_lt v m ≡ false = (let g = ltb-false w m k in le-ltb v m (omega arith)) in
        next h ∙ ap (λ b. map unfinished_of (cond b ((m, t) ∷ ys) ys)) (sym b)
    split m xs ys next same true true k h =
        let e : c.0 ≡ m = cc in
        let s = same (omega arith) in
        ⊎_elim
        (λ (r : m ≡ v).
        let a : (m == v) ≡ true = eq-eqb m v r in
        let b : nat_lt v m ≡ false = le-ltb v m (omega arith) in
        ap (λ d. cond d (map unfinished_of xs) (unfinished_of (m, t) ∷ map unfinished_of xs)) a ∙ ap (λ l. map unfinished_of l) s ∙ ap (λ d. map unfinished_of (cond d ((m, t) ∷ ys) ys)) (sym b))
        (λ (r : m ≡ v → ⊥).
        let a : (m == v) ≡ false = ne_eqb m v r in
        let b : nat_lt v m ≡ true = lt-ltb v m (lt_of v m (omega arith) r) in
        ap (λ d. cond d (map unfinished_of xs) (unfinished_of (m, t) ∷ map unfinished_of xs)) a ∙ ap (λ l. unfinished_of (m, t) ∷ map unfinished_of l) s ∙ ap (λ d. map unfinished_of (cond d ((m, t) ∷ ys) ys)) (sym b))
        (cases_eq m v)

pub wrote_step : (taken : ℕ) (es : List Event) (i j : Index) → IsIndexed es i → IsAllowed es (Wrote taken)
    → j.unfinished.items ≡ finished (i.written + taken) i.unfinished.items
    → j ≡ record i { written = i.written + taken; unwritten = i.unwritten - taken; unfinished = j.unfinished } → IsIndexed (es ++ Wrote taken ∷ []) j
wrote_step taken es i j x a f is =
    let e : Event = Wrote taken in
    let fs = facts es x.allowed in
    let pl : planned (es ++ e ∷ []) ≡ planned es = planned-push es e ∙ append-nil (planned es) in
    let n : count_by is_admit (es ++ e ∷ []) ≡ count_by is_admit es = count_by-push is_admit es e ∙ omega arith in
    let ps : plan_count (es ++ e ∷ []) ≡ plan_count es = count_by-push is_plan es e ∙ omega arith in
    let ad = admitted-same es e fs.counted refl in
    let w : written (es ++ e ∷ []) ≡ written es + taken = written-push es e in
    let all : sum_by size (admitted (es ++ e ∷ [])) ≡ sum_by size (admitted es) = ap (λ l. sum_by size l) ad in
    let iw = x.written_is in
    let iu = x.unwritten_is in
    let to_end : (place : ℕ) → planned_end (es ++ e ∷ []) place ≡ planned_end es place = λ place. ap (λ (l : List Task). last_of place (map (λ t. t.term.byte_range.end) l)) pl in
    let more : unfinished (es ++ e ∷ []) ≡ filter (has_more (written es + taken)) (ended 0 (admitted es)) = ap (λ (n : ℕ). filter (has_more n) (ended 0 (admitted (es ++ e ∷ [])))) w ∙ ap (λ (l : List Task). filter (has_more (written es + taken)) (ended 0 l)) ad in
    record {
      allowed = allowed_push es e x.allowed a;
      plans_are = ap (λ (m : Index). m.plans) is ∙ x.plans_are ∙ sym ps;
      end_is = λ place. to_end place ∙ x.end_is place ∙ ap (λ (m : Index). unwrap_or m.planned_end place) (sym is);
      fits = let h = to_end 0 in let g = x.fits in omega arith;
      waiting_are = ap (λ (m : Index). m.waiting.items) is ∙ x.waiting_are ∙ ap (λ (n : ℕ). map waiting_of (drop n (planned es))) (sym n) ∙ ap (λ (l : List Task). map waiting_of (drop (count_by is_admit (es ++ e ∷ [])) l)) (sym pl);
      unfinished_are = f ∙ ap (λ (n : ℕ). finished (n + taken) i.unfinished.items) iw ∙ ap (λ l. finished (written es + taken) l) x.unfinished_are ∙ left (slice_get (unfinished es) 0) refl a.2 ∙ ap (λ (l : List (ℕ × Task)). map unfinished_of l) (sym more);
      written_is = let g = ap (λ (m : Index). m.written) is in omega (arith, g, iw, w);
      unwritten_is = let g = ap (λ (m : Index). m.unwritten) is in omega (arith, g, iu, w, all);
      ends_are = λ p b. ap (λ (m : Index). end_in m.blocks p b) is ∙ x.ends_are p b ∙ ap (λ (l : List Task). last_end p b (ended 0 l)) (sym ad);
      kept_are = λ p b. ap (λ (m : Index). kept_in m.blocks p b) is ∙ x.kept_are p b ∙ or_false (is_kept es p b) ∙ sym (any-push (keeps p b) es e);
      stale_are = λ p. ap (λ (m : Index). sorted.contains nat_cmp m.stale p) is ∙ x.stale_are p ∙ sym (stale-push es e p);
      error_is = ap (λ (m : Index). m.first_error) is ∙ x.error_is ∙ or_nothing (first_error es) ∙ sym (error-push es e);
      cancelled_is = ap (λ (m : Index). m.cancelled) is ∙ x.cancelled_is ∙ or_false (list_any is_cancel es) ∙ sym (any-push is_cancel es e);
    }
  where
    left : (o : Option (ℕ × Task)) → slice_get (unfinished es) 0 ≡ o → MatchOption o ⊥ (λ c. (is_kept es c.1.plan c.1.term.block ≡ true) × (written es + taken ≤ c.0))
        → finished (written es + taken) (map unfinished_of (unfinished es)) ≡ map unfinished_of (filter (has_more (written es + taken)) (ended 0 (admitted es)))
    left None h m = absurd m
    left (Some c) h m = finished_is (written es) (written es + taken) 0 (admitted es) c h (omega arith) m.1

cond_or : (s : Bool) (n : ℕ) (o : Option ℕ) → cond s (Some n) o ≡ or_else (end_where (s && true) n) o
cond_or true n o = refl
cond_or false n o = refl

cond_none : (s : Bool) (n : ℕ) (o : Option ℕ) → o ≡ or_else (end_where (s && false) n) o
cond_none true n o = refl
cond_none false n o = refl

pub admit_step : (limit : ℕ) (es : List Event) (i j : Index) (next : WaitingTerm) → IsIndexed es i → IsAllowed es (Admit limit)
    → option_map waiting_of (slice_get (planned es) (count_by is_admit es)) ≡ Some next → IsAdmitted i j next → IsIndexed (es ++ Admit limit ∷ []) j
admit_step limit es i j next x a h ad = go (slice_get (planned es) (count_by is_admit es)) refl h
  where
    more_is : (t : Task) → next ≡ waiting_of t → written es ≤ sum_by size (admitted es) → (b : Bool) → nat_lt 0 (size t) ≡ b
        → filter (λ (u : UnfinishedTerm). nat_lt 0 next.length) (record { id = next.id; end = i.written + i.unwritten + next.length } ∷ [])
        ≡ map unfinished_of (filter (has_more (written es)) (((0 + sum_by size (admitted es)) + size t, t) ∷ []))
    more_is t is covered true z =
        let some = ltb-true 0 (size t) z in
        let iw = x.written_is in
        let iu = x.unwritten_is in
        let len : next.length ≡ size t = ap (λ (v : WaitingTerm). v.length) is in
        let to : i.written + i.unwritten + next.length ≡ (0 + sum_by size (admitted es)) + size t = omega arith in
        let l : nat_lt (written es) ((0 + sum_by size (admitted es)) + size t) ≡ true = lt-ltb (written es) ((0 + sum_by size (admitted es)) + size t) (omega arith) in
        let here : unfinished_of ((0 + sum_by size (admitted es)) + size t, t) ≡ record { id = next.id; end = i.written + i.unwritten + next.length } = cc in
        ap (λ (n : ℕ). cond (nat_lt 0 n) (record { id = next.id; end = i.written + i.unwritten + next.length } ∷ []) []) len
        ∙ ap (λ (b : Bool). cond b (record { id = next.id; end = i.written + i.unwritten + next.length } ∷ []) []) z
        ∙ ap (λ (u : UnfinishedTerm). u ∷ []) (sym here)
        ∙ sym (ap (λ (b : Bool). map unfinished_of (cond (b && nat_lt (written es) ((0 + sum_by size (admitted es)) + size t)) (((0 + sum_by size (admitted es)) + size t, t) ∷ []) [])) z
        ∙ ap (λ (b : Bool). map unfinished_of (cond b (((0 + sum_by size (admitted es)) + size t, t) ∷ []) [])) l)
    more_is t is covered false z =
        let len : next.length ≡ size t = ap (λ (v : WaitingTerm). v.length) is in
        ap (λ (n : ℕ). cond (nat_lt 0 n) (record { id = next.id; end = i.written + i.unwritten + next.length } ∷ []) []) len
        ∙ ap (λ (b : Bool). cond b (record { id = next.id; end = i.written + i.unwritten + next.length } ∷ []) []) z
        ∙ sym (ap (λ (b : Bool). map unfinished_of (cond (b && nat_lt (written es) ((0 + sum_by size (admitted es)) + size t)) (((0 + sum_by size (admitted es)) + size t, t) ∷ []) [])) z)

    end_more : (t : Task) → next ≡ waiting_of t → written es ≤ sum_by size (admitted es) → (p b : ℕ) (s : Bool) → nat_lt 0 (size t) ≡ s
        → end_in j.blocks p b ≡ or_else (end_where (needs p b t && s) ((0 + sum_by size (admitted es)) + size t)) (last_end p b (ended 0 (admitted es)))
    end_more t is covered p b true z =
        let some = ltb-true 0 (size t) z in
        let iw = x.written_is in
        let iu = x.unwritten_is in
        let len : next.length ≡ size t = ap (λ (v : WaitingTerm). v.length) is in
        let to : i.written + i.unwritten + next.length ≡ (0 + sum_by size (admitted es)) + size t = omega arith in
        let u = ad.nonempty (omega arith) in
        u.ends p b
        ∙ ap (λ (v : WaitingTerm). cond (is_block v.id p b) (Some (i.written + i.unwritten + next.length)) (end_in i.blocks p b)) is
        ∙ ap (λ (n : ℕ). cond (needs p b t) (Some n) (end_in i.blocks p b)) to
        ∙ ap (λ (o : Option ℕ). cond (needs p b t) (Some ((0 + sum_by size (admitted es)) + size t)) o) (x.ends_are p b)
        ∙ cond_or (needs p b t) ((0 + sum_by size (admitted es)) + size t) (last_end p b (ended 0 (admitted es)))
    end_more t is covered p b false z =
        let len : next.length ≡ size t = ap (λ (v : WaitingTerm). v.length) is in
        let none = ltb-false 0 (size t) z in
        ap (λ m. end_in m p b) (ad.empty (omega arith)) ∙ x.ends_are p b ∙ cond_none (needs p b t) ((0 + sum_by size (admitted es)) + size t) (last_end p b (ended 0 (admitted es)))

    kept_more : (t : Task) (p b : ℕ) (s : Bool) → nat_lt 0 (size t) ≡ s → next ≡ waiting_of t → kept_in j.blocks p b ≡ kept_in i.blocks p b
    kept_more t p b true z is =
        let some = ltb-true 0 (size t) z in
        let len : next.length ≡ size t = ap (λ (v : WaitingTerm). v.length) is in
        (ad.nonempty (omega arith)).kept p b
    kept_more t p b false z is =
        let none = ltb-false 0 (size t) z in
        let len : next.length ≡ size t = ap (λ (v : WaitingTerm). v.length) is in
        ap (λ m. kept_in m p b) (ad.empty (omega arith))

    go : (o : Option Task) → slice_get (planned es) (count_by is_admit es) ≡ o → option_map waiting_of o ≡ Some next → IsIndexed (es ++ Admit limit ∷ []) j
    go None e h = absurd (cc)
    go (Some t) e h =
        let nx : next ≡ waiting_of t = cc in
        let fs = facts es x.allowed in
        let pl : planned (es ++ Admit limit ∷ []) ≡ planned es = planned-push es (Admit limit) ∙ append-nil (planned es) in
        let n : count_by is_admit (es ++ Admit limit ∷ []) ≡ suc (count_by is_admit es) = count_by-push is_admit es (Admit limit) ∙ omega arith in
        let ps : plan_count (es ++ Admit limit ∷ []) ≡ plan_count es = count_by-push is_plan es (Admit limit) ∙ omega arith in
        let am = admitted-more limit es t e in
        let w : written (es ++ Admit limit ∷ []) ≡ written es = written-push es (Admit limit) ∙ omega arith in
        let all : sum_by size (admitted (es ++ Admit limit ∷ [])) ≡ sum_by size (admitted es) + size t = ap (λ l. sum_by size l) am ∙ sum_by_push size (admitted es) t in
        let iw = x.written_is in
        let iu = x.unwritten_is in
        let len : next.length ≡ size t = ap (λ (v : WaitingTerm). v.length) nx in
        let covered = fs.covered in
        let to_end : (place : ℕ) → planned_end (es ++ Admit limit ∷ []) place ≡ planned_end es place = λ place. ap (λ (l : List Task). last_of place (map (λ t. t.term.byte_range.end) l)) pl in
        let ends_all : ended 0 (admitted (es ++ Admit limit ∷ [])) ≡ ended 0 (admitted es) ++ ((0 + sum_by size (admitted es)) + size t, t) ∷ [] = ap (λ (l : List Task). ended 0 l) am ∙ ended-push 0 (admitted es) t in
        let more : unfinished (es ++ Admit limit ∷ []) ≡ unfinished es ++ filter (has_more (written es)) (((0 + sum_by size (admitted es)) + size t, t) ∷ []) =
        ap (λ (n : ℕ). filter (has_more n) (ended 0 (admitted (es ++ Admit limit ∷ [])))) w ∙ ap (λ (l : List (ℕ × Task)). filter (has_more (written es)) l) ends_all ∙ filter-append (has_more (written es)) (ended 0 (admitted es)) (((0 + sum_by size (admitted es)) + size t, t) ∷ []) in
        record {
          allowed = allowed_push es (Admit limit) x.allowed a;
          plans_are = ap (λ (m : Index). m.plans) ad.rest ∙ x.plans_are ∙ sym ps;
          end_is = λ place. to_end place ∙ x.end_is place ∙ ap (λ (m : Index). unwrap_or m.planned_end place) (sym ad.rest);
          fits = let h = to_end 0 in let g = x.fits in omega arith;
          waiting_are = ad.one_less ∙ ap (λ l. drop 1 l) x.waiting_are ∙ drop_next waiting_of (count_by is_admit es) (planned es) ∙ ap (λ (n : ℕ). map waiting_of (drop n (planned es))) (sym n) ∙ ap (λ (l : List Task). map waiting_of (drop (count_by is_admit (es ++ Admit limit ∷ [])) l)) (sym pl);
          unfinished_are = ad.behind ∙ ap (λ l. l ++ filter (λ (u : UnfinishedTerm). nat_lt 0 next.length) (record { id = next.id; end = i.written + i.unwritten + next.length } ∷ [])) x.unfinished_are
              ∙ ap (λ l. map unfinished_of (unfinished es) ++ l) (more_is t nx covered (nat_lt 0 (size t)) refl)
              ∙ sym (ap (λ (l : List (ℕ × Task)). map unfinished_of l) more ∙ map-append unfinished_of (unfinished es) (filter (has_more (written es)) (((0 + sum_by size (admitted es)) + size t, t) ∷ [])));
          written_is = ap (λ (m : Index). m.written) ad.rest ∙ iw ∙ sym w;
          unwritten_is = let g = ap (λ (m : Index). m.unwritten) ad.rest in omega (arith, g, iu, w, all, len, covered);
          ends_are = λ p b. end_more t nx covered p b (nat_lt 0 (size t)) refl ∙ sym (ap (λ (l : List (ℕ × Task)). last_end p b l) ends_all ∙ last_end-push p b (ended 0 (admitted es)) ((0 + sum_by size (admitted es)) + size t, t));
          kept_are = λ p b. kept_more t p b (nat_lt 0 (size t)) refl nx ∙ x.kept_are p b ∙ or_false (is_kept es p b) ∙ sym (any-push (keeps p b) es (Admit limit));
          stale_are = λ p. ap (λ (m : Index). sorted.contains nat_cmp m.stale p) ad.rest ∙ x.stale_are p ∙ sym (stale-push es (Admit limit) p);
          error_is = ap (λ (m : Index). m.first_error) ad.rest ∙ x.error_is ∙ or_nothing (first_error es) ∙ sym (error-push es (Admit limit));
          cancelled_is = ap (λ (m : Index). m.cancelled) ad.rest ∙ x.cancelled_is ∙ or_false (list_any is_cancel es) ∙ sym (any-push is_cancel es (Admit limit));
        }

waiting_tasks : (plan : ℕ) (ts : List PlannedTerm) (blocks : List PlannedBlock) → waiting_in plan ts ≡ map waiting_of (tasks_of plan ts blocks)
waiting_tasks plan [] blocks = refl
waiting_tasks plan (t ∷ ts) blocks = ap (λ l. waiting_of (record { plan = plan; term = t; blocks = blocks }) ∷ l) (waiting_tasks plan ts blocks)

ends_of_tasks : (plan : ℕ) (ts : List PlannedTerm) (blocks : List PlannedBlock) → map (λ (t : PlannedTerm). t.byte_range.end) ts ≡ map (λ (t : Task). t.term.byte_range.end) (tasks_of plan ts blocks)
ends_of_tasks plan [] blocks = refl
ends_of_tasks plan (t ∷ ts) blocks = ap (λ l. t.byte_range.end ∷ l) (ends_of_tasks plan ts blocks)

pub planned_step : (plan : ℕ) (query : FileRange) (ts : List PlannedTerm) (blocks : List PlannedBlock) (es : List Event) (i j : Index) → IsIndexed es i → IsAllowed es (Planned plan query ts blocks)
    → j.waiting.items ≡ i.waiting.items ++ waiting_in plan ts → j ≡ record i { plans = plan; planned_end = j.planned_end; waiting = j.waiting }
    → ((place : ℕ) → unwrap_or j.planned_end place ≡ last_of (unwrap_or i.planned_end place) (map (λ t. t.byte_range.end) ts)) → unwrap_or j.planned_end 0 < 2 ^ 64
    → IsIndexed (es ++ Planned plan query ts blocks ∷ []) j
planned_step plan query ts blocks es i j x a q is to fits =
    let e : Event = Planned plan query ts blocks in
    let new = tasks_of plan ts blocks in
    let fs = facts es x.allowed in
    let pl : planned (es ++ e ∷ []) ≡ planned es ++ new = planned-push es e in
    let n : count_by is_admit (es ++ e ∷ []) ≡ count_by is_admit es = count_by-push is_admit es e ∙ omega arith in
    let ps : plan_count (es ++ e ∷ []) ≡ plan_count es + 1 = count_by-push is_plan es e in
    let number : plan ≡ plan_count es + 1 = a.1 in
    let am = admitted-same es e fs.counted refl in
    let w : written (es ++ e ∷ []) ≡ written es = written-push es e ∙ omega arith in
    let all : sum_by size (admitted (es ++ e ∷ [])) ≡ sum_by size (admitted es) = ap (λ l. sum_by size l) am in
    let to_end : (place : ℕ) → planned_end (es ++ e ∷ []) place ≡ unwrap_or j.planned_end place = λ place.
    end-push es e place ∙ ap (λ (l : List ℕ). last_of (planned_end es place) l) (sym (ends_of_tasks plan ts blocks)) ∙ ap (λ (d : ℕ). last_of d (map (λ t. t.byte_range.end) ts)) (x.end_is place) ∙ sym (to place) in
    let more : unfinished (es ++ e ∷ []) ≡ unfinished es = ap (λ (n : ℕ). filter (has_more n) (ended 0 (admitted (es ++ e ∷ [])))) w ∙ ap (λ (l : List Task). filter (has_more (written es)) (ended 0 l)) am in
    record {
      allowed = allowed_push es e x.allowed a;
      plans_are = ap (λ (m : Index). m.plans) is ∙ number ∙ sym ps;
      end_is = to_end;
      fits = let h = to_end 0 in omega arith;
      waiting_are = q ∙ ap (λ l. l ++ waiting_in plan ts) x.waiting_are ∙ ap (λ l. map waiting_of (drop (count_by is_admit es) (planned es)) ++ l) (waiting_tasks plan ts blocks)
          ∙ sym (ap (λ (k : ℕ). map waiting_of (drop k (planned (es ++ e ∷ [])))) n ∙ ap (λ (l : List Task). map waiting_of (drop (count_by is_admit es) l)) pl
          ∙ ap (λ (l : List Task). map waiting_of l) (drop-append-le (count_by is_admit es) (planned es) new fs.counted) ∙ map-append waiting_of (drop (count_by is_admit es) (planned es)) new);
      unfinished_are = ap (λ (m : Index). m.unfinished.items) is ∙ x.unfinished_are ∙ ap (λ (l : List (ℕ × Task)). map unfinished_of l) (sym more);
      written_is = ap (λ (m : Index). m.written) is ∙ x.written_is ∙ sym w;
      unwritten_is = let g = ap (λ (m : Index). m.unwritten) is in let u = x.unwritten_is in omega (arith, g, u, w, all);
      ends_are = λ p b. ap (λ (m : Index). end_in m.blocks p b) is ∙ x.ends_are p b ∙ ap (λ (l : List Task). last_end p b (ended 0 l)) (sym am);
      kept_are = λ p b. ap (λ (m : Index). kept_in m.blocks p b) is ∙ x.kept_are p b ∙ or_false (is_kept es p b) ∙ sym (any-push (keeps p b) es e);
      stale_are = λ p. ap (λ (m : Index). sorted.contains nat_cmp m.stale p) is ∙ x.stale_are p ∙ sym (stale-push es e p);
      error_is = ap (λ (m : Index). m.first_error) is ∙ x.error_is ∙ or_nothing (first_error es) ∙ sym (error-push es e);
      cancelled_is = ap (λ (m : Index). m.cancelled) is ∙ x.cancelled_is ∙ or_false (list_any is_cancel es) ∙ sym (any-push is_cancel es e);
    }

-- the sums of the counters fit
pub counters_fit : (es : List Event) (i : Index) → IsIndexed es i → i.written + i.unwritten ≡ sum_by size (admitted es)
counters_fit es i x = let c = (facts es x.allowed).covered in let a = x.written_is in let b = x.unwritten_is in omega arith

total_fits : (es : List Event) (i : Index) → IsIndexed es i → sum_by size (planned es) < 2 ^ 64
total_fits es i x = let s = (facts es x.allowed).sums 0 in let f = x.fits in omega arith

-- one more term can be counted
pub room_to_admit : (es : List Event) (i : Index) (next : WaitingTerm) → IsIndexed es i
    → option_map waiting_of (slice_get (planned es) (count_by is_admit es)) ≡ Some next → i.written + i.unwritten + next.length < 2 ^ 64
room_to_admit es i next x h = go (slice_get (planned es) (count_by is_admit es)) refl h
  where
    go : (o : Option Task) → slice_get (planned es) (count_by is_admit es) ≡ o → option_map waiting_of o ≡ Some next → i.written + i.unwritten + next.length < 2 ^ 64
    go None e h = absurd (cc)
    go (Some t) e h =
        let nx : next ≡ waiting_of t = cc in
        let len : next.length ≡ size t = ap (λ (v : WaitingTerm). v.length) nx in
        let c = counters_fit es i x in
        let f = total_fits es i x in
        let all : sum_by size (take (suc (count_by is_admit es)) (planned es)) ≡ sum_by size (admitted es) + size t = ap (λ l. sum_by size l) (next_in (planned es) (count_by is_admit es) t e).1 ∙ sum_by_push size (admitted es) t in
        let within = sum_by-take-le size (planned es) (suc (count_by is_admit es)) in
        omega arith

-- so can what may be written
pub room_to_write : (es : List Event) (i : Index) (taken : ℕ) → IsIndexed es i → MayWrite es taken → (i.written + taken < 2 ^ 64) × (taken ≤ i.unwritten)
room_to_write es i taken x m =
    let w = may_write es taken m in
    let c = counters_fit es i x in
    let f = total_fits es i x in
    let a = x.written_is in
    let within = sum_by-take-le size (planned es) (count_by is_admit es) in
    (omega arith, omega arith)
