-- A finished run took the tested pieces of all planned terms that have bytes.
use Rattle.std.proofs.Common.{◌≡◌, ℕ, zero, suc, ◌+◌, ◌-◌, ◌^◌, ◌≤◌, Bool, true, false, cond, List, [], ◌∷◌, ◌++◌, length, take, drop, refl, sym, subst, ◌∙◌, ap, arith, length-append, Some, None, Option}
use Rattle.std.specs.Prelude.{filter, min, nat_lt, option_map, slice_get, unwrap_or}
use Rattle.std.specs.List.{AllZip, concat, sum_by}
use Rattle.std.proofs.Math.Seq.{drop-nil}
use Rattle.std.proofs.lemmas.Bool.{ltb-false, ltb-true}
use Rattle.std.proofs.lemmas.List.{append-nil, length-drop, length-take, take-append-drop}
use Rattle.std.proofs.lemmas.List.Sums.{sum_by-append, sum_by-cons}
use Rattle.xet_outside.specs.Told.{Took}
use Rattle.xet_error.specs.declared.error.Corruption.{Corruption}
use Rattle.xet_error.specs.declared.error.Corruption.TheVariants.{TermPastBlock}
use Rattle.xet_blocks.specs.declared.reconstruction_terms.file_term.FileTerm.{FileTerm}
use Rattle.xet_offers.specs.declared.reconstruction_terms.xorb_block.XorbBlockData.{XorbBlockData}
use Rattle.xet_blocks.specs.Extracts.{begin_at, end_test, failed_term_test, term_bytes_in, term_size, test_at}
use Rattle.xet_events.specs.declared.event.Event.{Event}
use Rattle.xet_events.specs.declared.event.PlannedTerm.{PlannedTerm}
use Rattle.xet_events.specs.Events.{Task, planned, size}
use Rattle.xet_ties.specs.InCall.{Exchange, Look}
use Rattle.xet_ties.specs.RunCalls.{IsFinished, TookAll}
use Rattle.xet_ties.specs.Saids.{IsTaskPiece, has_bytes, some_of}
use Rattle.xet_ties.specs.Setup.{RunTold, Setup}
use Rattle.xet_ties.specs.Ties.{Slack, Ties}
use Rattle.xet_ties.proofs.Headline.{all_of_prefix, all_written}

-- a term that passes its test has its length of bytes
term_sized : (t : FileTerm) (d : XorbBlockData) → failed_term_test t d ≡ None → length (term_bytes_in t d) ≡ term_size t
term_sized t d h = by (slice_get d.chunk_offsets t.xorb_block_start_index) refl
  where
    bytes_at : Option (ℕ × ℕ) → List ℕ
    bytes_at o = take (term_size t) (drop (begin_at t (unwrap_or (option_map (λ (c : ℕ × ℕ). c.1) o) 0)) d.bytes)

    ends : (c : ℕ × ℕ) (v : Bool) → nat_lt (length d.bytes) (begin_at t c.1 + term_size t) ≡ v → end_test t d c.1 ≡ None → begin_at t c.1 + term_size t ≤ length d.bytes
    ends c false e k = ltb-false (length d.bytes) (begin_at t c.1 + term_size t) e
    ends c true e k =
        let over : Corruption = TermPastBlock (min (begin_at t c.1 + term_size t) (2 ^ 64 - 1)) (length d.bytes) in
        let z : end_test t d c.1 ≡ Some over = ap (λ (w : Bool). cond {A = Option Corruption} w (Some over) None) e in
        absurd (cc)

    by : (o : Option (ℕ × ℕ)) → slice_get d.chunk_offsets t.xorb_block_start_index ≡ o → length (term_bytes_in t d) ≡ term_size t
    by None e =
        let z : test_at t d None ≡ None = sym (ap (test_at t d) e) ∙ h in
        absurd (cc)
    by (Some c) e =
        let z : end_test t d c.1 ≡ None = sym (ap (test_at t d) e) ∙ h in
        let within = ends c (nat_lt (length d.bytes) (begin_at t c.1 + term_size t)) refl z in
        let is : term_bytes_in t d ≡ take (term_size t) (drop (begin_at t c.1) d.bytes) = ap bytes_at e in
        let n = ap (λ (l : List ℕ). length l) is in
        let m = length-take (term_size t) (drop (begin_at t c.1) d.bytes) in
        let k = length-drop (begin_at t c.1) d.bytes in
        omega (arith, n, m, k, within)

-- so a task's piece is as long as the task
pub tasks_sized : (g : Setup) (xs : List Exchange) (looks : List Look) (ts : List Task) (pieces : List (List ℕ)) → AllZip (IsTaskPiece g xs looks) ts pieces → sum_by size ts ≡ length (concat pieces)
tasks_sized g xs looks [] [] z = refl
tasks_sized g xs looks [] (p ∷ ps) z = absurd z
tasks_sized g xs looks (t ∷ ts) [] z = absurd z
tasks_sized g xs looks (t ∷ ts) (p ∷ ps) z =
    let r = tasks_sized g xs looks ts ps z.1 in
    let one = term_sized z.0.of_plan.term z.0.piece_of.data_of z.0.piece_of.passes in
    let n = ap (λ (l : List ℕ). length l) z.0.piece_of.bytes in
    let s : size t ≡ term_size z.0.of_plan.term = ap (λ (u : PlannedTerm). u.byte_range.end - u.byte_range.start) z.0.is in
    let c = sum_by-cons size t ts in
    let l = length-append p (concat ps) in
    omega (arith, r, one, n, s, c, l)

-- the terms with bytes have all bytes
pub some_sum : (ts : List Task) → sum_by size (filter has_bytes ts) ≡ sum_by size ts
some_sum [] = refl
some_sum (t ∷ ts) = by (some_sum ts) (has_bytes t) refl
  where
    by : sum_by size (filter has_bytes ts) ≡ sum_by size ts → (v : Bool) → has_bytes t ≡ v → sum_by size (cond v (t ∷ filter has_bytes ts) (filter has_bytes ts)) ≡ sum_by size (t ∷ ts)
    by r true e = let c = sum_by-cons size t ts in let d = sum_by-cons size t (filter has_bytes ts) in omega (arith, r, c, d)
    by r false e = let c = sum_by-cons size t ts in let z = ltb-false 0 (size t) e in omega (arith, r, c, z)

-- and where the last ones have no bytes there are none of them
pub none_left : (n : ℕ) (ts : List Task) → sum_by size (drop n (filter has_bytes ts)) ≡ 0 → drop n (filter has_bytes ts) ≡ []
none_left n [] h = drop-nil n
none_left n (t ∷ ts) h = by (λ k. none_left k ts) (has_bytes t) refl n h
  where
    by : ((k : ℕ) → sum_by size (drop k (filter has_bytes ts)) ≡ 0 → drop k (filter has_bytes ts) ≡ []) → (v : Bool) → has_bytes t ≡ v
        → (n : ℕ) → sum_by size (drop n (cond v (t ∷ filter has_bytes ts) (filter has_bytes ts))) ≡ 0 → drop n (cond v (t ∷ filter has_bytes ts) (filter has_bytes ts)) ≡ []
    by r false e n h = r n h
    by r true e (suc n) h = r n h
    by r true e zero h = let c = sum_by-cons size t (filter has_bytes ts) in let z = ltb-true 0 (size t) e in absurd (omega (arith, h, c, z))

pub took_all : (g : Setup) (b n : RunTold) (es : List Event) (k : ℕ) (slack : Slack) → Ties g b n es None slack → slack.ahead ≡ 0 → IsFinished g es k → TookAll g es slack b.sink n.sink k
took_all g b n es k slack t none f =
    let u = t.taken.tested in
    let m = length u.pieces in
    let all = all_written g es k f in
    let some = some_sum (planned es) in
    let counted = t.taken.counted in
    let sized = tasks_sized g slack.heard slack.looks (take m (some_of es)) u.pieces u.each in
    let parts = sym (ap (λ (l : List Task). sum_by size l) (take-append-drop m (some_of es))) ∙ sum_by-append size (take m (some_of es)) (drop m (some_of es)) in
    let long : length t.taken.taken + length u.from.rest ≡ length (concat u.pieces) = sym (length-append t.taken.taken u.from.rest) ∙ ap length u.from.joined in
    let same = all_of_prefix t.taken.taken (concat u.pieces) u.from (omega (arith, all, some, counted, none, sized, parts)) in
    let last : drop m (some_of es) ≡ [] = none_left m (planned es) (omega (arith, all, some, counted, none, sized, parts, long)) in
    let whole : take m (some_of es) ≡ some_of es = sym (append-nil (take m (some_of es))) ∙ ap (λ (l : List Task). take m (some_of es) ++ l) (sym last) ∙ take-append-drop m (some_of es) in
    let count = f.count in
    let length_same = ap length same in
    record {
      pieces = u.pieces;
      each = subst (λ (l : List Task). AllZip (IsTaskPiece g slack.heard slack.looks) l u.pieces) whole u.each;
      took = subst (λ (l : List ℕ). Took b.sink.took n.sink.took l) same t.taken.took;
      total = omega (arith, count, counted, none, length_same);
    }
