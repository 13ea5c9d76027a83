-- One more event, with what the index tells then.
use Rattle.std.proofs.Common.{◌≡◌, ℕ, ◌+◌, ◌-◌, ◌==◌, ◌&&◌, ◌||◌, Bool, true, false, cond, List, [], ◌∷◌, ◌++◌, drop, Option, Some, None, refl, sym, ◌∙◌, ap, arith}
use Rattle.std.specs.Prelude.{map, filter, count_by, unwrap_or, not}
use Rattle.std.specs.Option.{option_or}
use Rattle.std.specs.List.{list_any, sum_by}
use Rattle.std.specs.BTreeSet as sorted
use Rattle.std.specs.Ordering.{nat_cmp}
use Rattle.std.proofs.lemmas.List.{append-nil}
use Rattle.std.proofs.lemmas.Bool.{and_parts, and_from, not-true, not_from_false}
use Rattle.xet_error.specs.declared.error.FileReconstructionError.{FileReconstructionError}
use Rattle.xet_error.specs.declared.error.FileReconstructionError.TheVariants.{Cancelled}
use Rattle.xet_events.specs.declared.event.Event.{Event}
use Rattle.xet_events.specs.declared.event.Event.TheVariants.{Fetched, Cached, Expired, Refreshed, Fail, Cancel}
use Rattle.xet_events.specs.declared.block_table.BlockTable.{BlockTable}
use Rattle.xet_events.specs.declared.index.Index.{Index}
use Rattle.xet_events.specs.Events.{Task, size, last_of, planned, plan_count, planned_end, tasks_in, is_plan, is_admit, admitted, written, taken_in, unwritten, ended, has_more, unfinished, keeps, is_kept, expiry_in, is_stale, first_error, error_in, is_cancel}
use Rattle.xet_events.specs.Allowed.{IsAllowed, IsMissing}
use Rattle.xet_events.specs.BlockTables.{Keeps, block_id, end_in, kept_in}
use Rattle.xet_events.specs.Indexes.{IsIndexed, waiting_of, unfinished_of, last_end, ends_after}
use Rattle.xet_events.proofs.CallerLemmas.{count_by-push, any-push, planned-push, written-push, error-push, stale-push, allowed_push, facts, admitted-same}
use Rattle.xet_run.proofs.Keys.{is_eq-nat, or_true, or_false}
use Rattle.xet_run.proofs.Wanted.{wanted_is}

-- what the index says of a missing block
pub missing : (p b : ℕ) (es : List Event) (i : Index) → IsIndexed es i
    → (ends_after i.written (end_in i.blocks p b) && not (kept_in i.blocks p b)) ≡ true → IsMissing es p b
missing p b es i x h =
    let r = and_parts (ends_after i.written (end_in i.blocks p b)) (not (kept_in i.blocks p b)) h in
    record {
      wanted = wanted_is (written es) p b 0 (admitted es) ∙ ap (λ (o : Option ℕ). ends_after (written es) o) (sym (x.ends_are p b)) ∙ ap (λ (w : ℕ). ends_after w (end_in i.blocks p b)) (sym x.written_is) ∙ r.0;
      absent = sym (x.kept_are p b) ∙ not-true (kept_in i.blocks p b) r.1;
    }

pub missing_back : (p b : ℕ) (es : List Event) (i : Index) → IsIndexed es i → IsMissing es p b
    → (ends_after i.written (end_in i.blocks p b) && not (kept_in i.blocks p b)) ≡ true
missing_back p b es i x m =
    and_from (ends_after i.written (end_in i.blocks p b)) (not (kept_in i.blocks p b))
    (ap (λ (w : ℕ). ends_after w (end_in i.blocks p b)) x.written_is ∙ ap (λ (o : Option ℕ). ends_after (written es) o) (x.ends_are p b) ∙ sym (wanted_is (written es) p b 0 (admitted es)) ∙ m.wanted)
    (not_from_false (kept_in i.blocks p b) (x.kept_are p b ∙ m.absent))

-- an event that plans, admits and writes nothing
pub quiet : (es : List Event) (e : Event) (i j : Index) → IsIndexed es i → IsAllowed es e
    → tasks_in e ≡ [] → is_admit e ≡ false → is_plan e ≡ false → taken_in e ≡ 0
    → j ≡ record i { blocks = j.blocks; stale = j.stale; first_error = j.first_error; cancelled = j.cancelled }
    → ((p b : ℕ) → end_in j.blocks p b ≡ end_in i.blocks p b)
    → ((p b : ℕ) → kept_in j.blocks p b ≡ (is_kept es p b || keeps p b e))
    → ((p : ℕ) → sorted.contains nat_cmp j.stale p ≡ last_of (is_stale es p) (expiry_in p e))
    → j.first_error ≡ option_or (first_error es) (error_in e)
    → j.cancelled ≡ (list_any is_cancel es || is_cancel e)
    → IsIndexed (es ++ e ∷ []) j
quiet es e i j x a none off plain nothing is m k s f c =
    let pl : planned (es ++ e ∷ []) ≡ planned es = planned-push es e ∙ ap (λ l. planned es ++ l) none ∙ append-nil (planned es) in
    let n : count_by is_admit (es ++ e ∷ []) ≡ count_by is_admit es = count_by-push is_admit es e ∙ ap (λ b. count_by is_admit es + cond b 1 0) off ∙ omega arith in
    let ps : plan_count (es ++ e ∷ []) ≡ plan_count es = count_by-push is_plan es e ∙ ap (λ b. count_by is_plan es + cond b 1 0) plain ∙ omega arith in
    let ad = admitted-same es e (facts es x.allowed).counted off in
    let w : written (es ++ e ∷ []) ≡ written es = written-push es e ∙ ap (λ (n : ℕ). written es + n) nothing ∙ omega arith in
    let un : unwritten (es ++ e ∷ []) ≡ unwritten es = ap (λ (l : List Task). sum_by size l - written (es ++ e ∷ [])) ad ∙ ap (λ (n : ℕ). sum_by size (admitted es) - n) w in
    let more : unfinished (es ++ e ∷ []) ≡ unfinished es = ap (λ (n : ℕ). filter (has_more n) (ended 0 (admitted (es ++ e ∷ [])))) w ∙ ap (λ (l : List Task). filter (has_more (written es)) (ended 0 l)) ad in
    let to_end : (place : ℕ) → planned_end (es ++ e ∷ []) place ≡ planned_end es place = λ place. ap (λ (l : List Task). last_of place (map (λ t. t.term.byte_range.end) l)) pl in
    record {
      allowed = allowed_push es e x.allowed a;
      plans_are = ap (λ (m : Index). m.plans) is ∙ x.plans_are ∙ sym ps;
      end_is = λ place. to_end place ∙ x.end_is place ∙ ap (λ (m : Index). unwrap_or m.planned_end place) (sym is);
      fits = let h = to_end 0 in let g = x.fits in omega arith;
      waiting_are = ap (λ (m : Index). m.waiting.items) is ∙ x.waiting_are ∙ ap (λ (n : ℕ). map waiting_of (drop n (planned es))) (sym n) ∙ ap (λ (l : List Task). map waiting_of (drop (count_by is_admit (es ++ e ∷ [])) l)) (sym pl);
      unfinished_are = ap (λ (m : Index). m.unfinished.items) is ∙ x.unfinished_are ∙ ap (λ (l : List (ℕ × Task)). map unfinished_of l) (sym more);
      written_is = ap (λ (m : Index). m.written) is ∙ x.written_is ∙ sym w;
      unwritten_is = ap (λ (m : Index). m.unwritten) is ∙ x.unwritten_is ∙ sym un;
      ends_are = λ p b. m p b ∙ x.ends_are p b ∙ ap (λ (l : List Task). last_end p b (ended 0 l)) (sym ad);
      kept_are = λ p b. k p b ∙ sym (any-push (keeps p b) es e);
      stale_are = λ p. s p ∙ sym (stale-push es e p);
      error_is = f ∙ sym (error-push es e);
      cancelled_is = c ∙ sym (any-push is_cancel es e);
    }

-- a block more is kept
pub more_kept : (x y p b : ℕ) (es : List Event) (m n : BlockTable) → ((p b : ℕ) → kept_in m p b ≡ is_kept es p b)
    → Keeps m n (block_id x y) → kept_in n p b ≡ (is_kept es p b || (x == p && y == b))
more_kept x y p b es m n h u = u.kept p b ∙ ap (λ (s : Bool). cond (x == p && y == b) true s) (h p b) ∙ or_true (x == p && y == b) (is_kept es p b)

or_nothing : (o : Option FileReconstructionError) → o ≡ option_or o None
or_nothing None = refl
or_nothing (Some e) = refl

-- an index that differs in what it knows of blocks alone
still : (i j : Index) → j ≡ record i { blocks = j.blocks } → j ≡ record i { blocks = j.blocks; stale = j.stale; first_error = j.first_error; cancelled = j.cancelled }
still i j is = let a = ap (λ (m : Index). m.stale) is in let b = ap (λ (m : Index). m.first_error) is in let c = ap (λ (m : Index). m.cancelled) is in cc

still_stale : (i j : Index) → j ≡ record i { stale = j.stale } → j ≡ record i { blocks = j.blocks; stale = j.stale; first_error = j.first_error; cancelled = j.cancelled }
still_stale i j is = let a = ap (λ (m : Index). m.blocks) is in let b = ap (λ (m : Index). m.first_error) is in let c = ap (λ (m : Index). m.cancelled) is in cc

pub fetched_step : (lane p b : ℕ) (es : List Event) (i j : Index) → IsIndexed es i → IsAllowed es (Fetched lane p b)
    → j ≡ record i { blocks = j.blocks } → Keeps i.blocks j.blocks (block_id p b) → IsIndexed (es ++ Fetched lane p b ∷ []) j
fetched_step lane p b es i j x a is u =
    quiet es (Fetched lane p b) i j x a refl refl refl refl (still i j is) u.ends
    (λ q c. more_kept p b q c es i.blocks j.blocks x.kept_are u)
    (λ q. ap (λ (m : Index). sorted.contains nat_cmp m.stale q) is ∙ x.stale_are q)
    (ap (λ (m : Index). m.first_error) is ∙ x.error_is ∙ or_nothing (first_error es))
    (ap (λ (m : Index). m.cancelled) is ∙ x.cancelled_is ∙ or_false (list_any is_cancel es))

pub cached_step : (p b : ℕ) (es : List Event) (i j : Index) → IsIndexed es i → IsAllowed es (Cached p b)
    → j ≡ record i { blocks = j.blocks } → Keeps i.blocks j.blocks (block_id p b) → IsIndexed (es ++ Cached p b ∷ []) j
cached_step p b es i j x a is u =
    quiet es (Cached p b) i j x a refl refl refl refl (still i j is) u.ends
    (λ q c. more_kept p b q c es i.blocks j.blocks x.kept_are u)
    (λ q. ap (λ (m : Index). sorted.contains nat_cmp m.stale q) is ∙ x.stale_are q)
    (ap (λ (m : Index). m.first_error) is ∙ x.error_is ∙ or_nothing (first_error es))
    (ap (λ (m : Index). m.cancelled) is ∙ x.cancelled_is ∙ or_false (list_any is_cancel es))

last_filter : (t d s : Bool) → last_of d (filter (λ (_ : Bool). t) (s ∷ [])) ≡ cond t s d
last_filter true d s = refl
last_filter false d s = refl

pub expired_step : (lane p b : ℕ) (es : List Event) (i j : Index) → IsIndexed es i → IsAllowed es (Expired lane p b)
    → j ≡ record i { stale = j.stale } → sorted.Updates nat_cmp i.stale j.stale p true → IsIndexed (es ++ Expired lane p b ∷ []) j
expired_step lane p b es i j x a is u =
    quiet es (Expired lane p b) i j x a refl refl refl refl (still_stale i j is) (λ q c. ap (λ (m : Index). end_in m.blocks q c) is)
    (λ q c. ap (λ (m : Index). kept_in m.blocks q c) is ∙ x.kept_are q c ∙ or_false (is_kept es q c))
    (λ q. u.0 q ∙ ap (λ (s : Bool). cond s true (sorted.contains nat_cmp i.stale q)) (is_eq-nat p q) ∙ ap (λ (s : Bool). cond (p == q) true s) (x.stale_are q) ∙ sym (last_filter (p == q) (is_stale es q) true))
    (ap (λ (m : Index). m.first_error) is ∙ x.error_is ∙ or_nothing (first_error es))
    (ap (λ (m : Index). m.cancelled) is ∙ x.cancelled_is ∙ or_false (list_any is_cancel es))

pub refreshed_step : (p : ℕ) (es : List Event) (i j : Index) → IsIndexed es i → IsAllowed es (Refreshed p)
    → j ≡ record i { stale = j.stale } → sorted.Updates nat_cmp i.stale j.stale p false → IsIndexed (es ++ Refreshed p ∷ []) j
refreshed_step p es i j x a is u =
    quiet es (Refreshed p) i j x a refl refl refl refl (still_stale i j is) (λ q c. ap (λ (m : Index). end_in m.blocks q c) is)
    (λ q c. ap (λ (m : Index). kept_in m.blocks q c) is ∙ x.kept_are q c ∙ or_false (is_kept es q c))
    (λ q. u.0 q ∙ ap (λ (s : Bool). cond s false (sorted.contains nat_cmp i.stale q)) (is_eq-nat p q) ∙ ap (λ (s : Bool). cond (p == q) false s) (x.stale_are q) ∙ sym (last_filter (p == q) (is_stale es q) false))
    (ap (λ (m : Index). m.first_error) is ∙ x.error_is ∙ or_nothing (first_error es))
    (ap (λ (m : Index). m.cancelled) is ∙ x.cancelled_is ∙ or_false (list_any is_cancel es))

pub fail_step : (e : FileReconstructionError) (es : List Event) (i : Index) → IsIndexed es i → IsAllowed es (Fail e)
    → IsIndexed (es ++ Fail e ∷ []) (record i { first_error = option_or i.first_error (Some e) })
fail_step e es i x a =
    quiet es (Fail e) i (record i { first_error = option_or i.first_error (Some e) }) x a refl refl refl refl refl (λ q c. refl)
    (λ q c. x.kept_are q c ∙ or_false (is_kept es q c))
    x.stale_are
    (ap (λ (o : Option FileReconstructionError). option_or o (Some e)) x.error_is)
    (x.cancelled_is ∙ or_false (list_any is_cancel es))

pub cancel_step : (es : List Event) (i : Index) → IsIndexed es i → IsAllowed es Cancel
    → IsIndexed (es ++ Cancel ∷ []) (record i { first_error = Some Cancelled; cancelled = true })
cancel_step es i x a =
    quiet es Cancel i (record i { first_error = Some Cancelled; cancelled = true }) x a refl refl refl refl refl (λ q c. refl)
    (λ q c. x.kept_are q c ∙ or_false (is_kept es q c))
    x.stale_are
    (ap (λ (o : Option FileReconstructionError). option_or o (Some Cancelled)) (sym a))
    (or_last (list_any is_cancel es))
  where
    or_last : (b : Bool) → true ≡ (b || true)
    or_last true = refl
    or_last false = refl
