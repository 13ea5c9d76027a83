-- One more step keeps what is said of a lane: each step's data is of the answer to its own request.
use Rattle.std.proofs.Common.{ℕ, ◌≡◌, ◌⊎◌, ◌+◌, ◌-◌, ◌^◌, ◌≤◌, min, true, List, [], ◌∷◌, ◌++◌, length, refl, sym, ap, ◌∙◌, subst, inl, inr, ⊎_elim, arith, append_assoc, length-append, Some, false, None, Option}
use Rattle.std.specs.Prelude.{Bool, ◌||◌, Result, Ok, Err, slice_get}
use Rattle.std.proofs.lemmas.Bool.{or_parts}
use Rattle.std.proofs.lemmas.List.{append-nil}
use Rattle.xet_outside.specs.declared.block.BlockAnswer.{BlockAnswer}
use Rattle.xet_outside.specs.declared.block.BlockBytes.{BlockBytes}
use Rattle.xet_outside.specs.declared.client.ClientError.{ClientError}
use Rattle.xet_outside.specs.declared.said.Said.{Said}
use Rattle.xet_outside.specs.Told.{BlockCall, ClientTold, served_of, Added, Holds}
use Rattle.xet_outside.specs.declared.served.Served.{Served}
use Rattle.xet_error.specs.declared.error.FileReconstructionError.{FileReconstructionError}
use Rattle.xet_ties.specs.declared.lane_step.LaneStep.{LaneStep}
use Rattle.xet_ties.specs.Lanes.{AnswerStep, AreOf, Ask, IsFor, IsOf, LaneDid, StepDid, entries_in, entries_of, expired_count, expired_in, hides_at, lates_in, lates_of, may_hide, HidesNone, HoldsAsk, any_faults, faults_in, StepCause, bytes_of_ask, error_hides}
use Rattle.xet_outside.specs.Answers.{IsPaired, bytes_in, late_in, late_said, plans_in}
use Rattle.xet_outside.proofs.CallerLemmas.{added_none, answer_after, answer_before, paired_both, plans_both}
use Rattle.xet_outside.specs.declared.block.BlockAnswer.TheVariants as block_answer
use Rattle.xet_outside.specs.declared.said.Said.TheVariants as said
use Rattle.xet_ties.specs.declared.lane_step.LaneStep.TheVariants as step
use Rattle.xet_base.specs.Store.{Store}
use Rattle.xet_base.specs.declared.cas_types.ChunkRange.{ChunkRange}
use Rattle.xet_base.specs.declared.merklehash.MerkleHash.{MerkleHash}
use Rattle.xet_outside.specs.Plan.{block_of}
use Rattle.xet_outside.specs.declared.plan.PlanAnswer.{PlanAnswer}
use Rattle.xet_error.specs.declared.error.Corruption.{Corruption}
use Rattle.xet_error.specs.Errors.{of_client_error}
use Rattle.xet_offers.specs.BlockCalls.{failed_check}
use Rattle.xet_offers.specs.Refusals.{IsRefusal}
use Rattle.xet_ties.specs.Setup.{ClientGoesOn}
use Rattle.std.proofs.lemmas.Grind.{flat_map-append}
use Rattle.xet_error.specs.declared.error.FileReconstructionError.TheVariants as error
use Rattle.xet_outside.specs.declared.client.ClientError.TheVariants as client_error

-- ---- one step

bytes_did : (a : Ask) (bb : BlockBytes) (b n : ClientTold) (s : LaneStep) (hidden : List Served) → BlockCall b n a.request (Ok (block_answer.Bytes bb)) → served_of a.request ∷ [] ≡ entries_in a s ++ hidden → IsOf b n (entries_in a s ++ hidden) (said.Block bb ∷ []) a s
    → (hidden ≡ []) ⊎ ((may_hide s ≡ true) × (hidden ≡ served_of a.request ∷ [])) → expired_in s ≡ 0 → lates_in a s ≡ [] → StepDid b n a s
bytes_did a bb b n s hidden call shape is most none bare = record {
  goes_on = record { store = call.store; link = call.link; faults = call.faults; expiries = call.expiries };
  asked = call.asked;
  said = said.Block bb ∷ [];
  hidden = hidden;
  quiet = refl;
  pairs = record { serves = subst (λ (l : List Served). Added b.served n.served l) shape call.served; says = call.said; paired = ap (λ (l : List Served). length l) (sym shape) };
  is = is;
  at_most = most;
  once = omega arith;
  late = sym bare;
  expired = let e = call.expiries in omega (arith, e, none);
  unfailed = λ h. call.unfailed;
}

quiet_did : (a : Ask) (b n : ClientTold) (x : ClientError) → BlockCall b n a.request (Err x) → StepDid b n a (step.Failed (of_client_error x))
quiet_did a b n x call = record {
  goes_on = record { store = call.store; link = call.link; faults = call.faults; expiries = call.expiries };
  asked = call.asked;
  said = [];
  hidden = [];
  quiet = refl;
  pairs = record { serves = added_none b.served n.served call.unserved; says = added_none b.said n.said call.unsaid; paired = refl };
  is = cause x call;
  at_most = inl refl;
  once = omega arith;
  late = refl;
  expired = let e = call.expiries in omega (arith, e);
  unfailed = λ h. faulty x h;
}
  where
    faulty : (y : ClientError) → faults_in (step.Failed (of_client_error y)) ≡ false → n.faults ≡ b.faults
    faulty client_error.OutOfMemory h = absurd (cc)
    faulty client_error.Failed h = absurd (cc)

    cause : (y : ClientError) → BlockCall b n a.request (Err y) → StepCause b n [] [] a (of_client_error y)
    cause client_error.OutOfMemory k = tt
    cause client_error.Failed k = k.failed refl

late_did : (a : Ask) (b n : ClientTold) → BlockCall b n a.request (Ok block_answer.Expired) → StepDid b n a (step.Expired a.request.acquisition.plan a.request.index)
late_did a b n call = record {
  goes_on = record { store = call.store; link = call.link; faults = call.faults; expiries = call.expiries };
  asked = call.asked;
  said = said.Expired (served_of a.request) ∷ [];
  hidden = [];
  quiet = refl;
  pairs = record { serves = added_none b.served n.served call.served; says = call.said; paired = refl };
  is = (refl, refl);
  at_most = inl refl;
  once = omega arith;
  late = refl;
  expired = call.expired refl;
  unfailed = λ h. call.unfailed;
}

-- the bytes of an honest connection
honest_bytes : (a : Ask) (b n : ClientTold) (bb : BlockBytes) → IsFor a → BlockCall b n a.request (Ok (block_answer.Bytes bb)) → (s : Store) → b.store ≡ Some s → HoldsAsk s a → bb ≡ bytes_of_ask s a
honest_bytes a b n bb own call s told holds =
    let held : Holds s a.request.xorb a.request.chunks = subst (λ (h : MerkleHash). Holds s h a.request.chunks) (sym own.xorb) (subst (λ (c : List ChunkRange). Holds s a.block.xorb_hash c) (sym own.chunks) holds) in
    call.honest s told held ∙ ap (λ (h : MerkleHash). block_of s h a.request.chunks) own.xorb ∙ ap (λ (c : List ChunkRange). block_of s a.block.xorb_hash c) own.chunks

-- a refusal of the bytes is the step's cause
refused : (a : Ask) (b n : ClientTold) (bb : BlockBytes) (e : FileReconstructionError) → IsFor a → BlockCall b n a.request (Ok (block_answer.Bytes bb)) → IsRefusal (failed_check a.block bb) e
    → StepCause b n (served_of a.request ∷ []) (said.Block bb ∷ []) a e × (error_hides e ≡ true)
refused a b n bb e own call r = by (failed_check a.block bb) refl r
  where
    short : e ≡ error.OutOfMemory → StepCause b n (served_of a.request ∷ []) (said.Block bb ∷ []) a e × (error_hides e ≡ true)
    short h = subst (λ (z : FileReconstructionError). StepCause b n (served_of a.request ∷ []) (said.Block bb ∷ []) a z × (error_hides z ≡ true)) (sym h) (tt, refl)

    by : (o : Option Corruption) → failed_check a.block bb ≡ o → IsRefusal o e → StepCause b n (served_of a.request ∷ []) (said.Block bb ∷ []) a e × (error_hides e ≡ true)
    by None f x = ⊎_elim short (λ (z : ⊥). absurd z) x
    by (Some k) f x =
        ⊎_elim short
        (λ (z : e ≡ error.CorruptedReconstruction k).
        subst (λ (y : FileReconstructionError). StepCause b n (served_of a.request ∷ []) (said.Block bb ∷ []) a y × (error_hides y ≡ true)) (sym z) (
          record {
            given = bb;
            answer = record { place = 0; entry = refl; bytes = refl };
            fails = f;
            dishonest = λ s told holds passes. let same = honest_bytes a b n bb own call s told holds in let q : failed_check a.block bb ≡ None = ap (λ (y : BlockBytes). failed_check a.block y) same ∙ passes in cc;
          },
          refl,
        ))
        x

-- the step that an answer to the block's request makes
pub step_did : (a : Ask) (b n : ClientTold) (answer : Result BlockAnswer ClientError) (s : LaneStep) → IsFor a → BlockCall b n a.request answer → AnswerStep a answer s → StepDid b n a s
step_did a b n (Ok (block_answer.Bytes bb)) (step.Served p k d) own call t =
    bytes_did a bb b n (step.Served p k d) [] call refl (t.0, t.1, record { given = bb; answer = record { place = 0; entry = refl; bytes = refl }; passes = t.2; made = t.3; honest = honest_bytes a b n bb own call }) (inl refl) refl refl
step_did a b n (Ok (block_answer.Bytes bb)) (step.Expired p k) own call t = absurd t
step_did a b n (Ok (block_answer.Bytes bb)) (step.Failed e) own call t =
    let r = refused a b n bb e own call t in
    bytes_did a bb b n (step.Failed e) (served_of a.request ∷ []) call refl r.0 (inr (r.1, refl)) refl refl
step_did a b n (Ok block_answer.Expired) s own call t = rw t (late_did a b n call)
step_did a b n (Err x) s own call t = rw t (quiet_did a b n x call)

-- ---- steps of a lane, by its connection before and after more of them

pub goes_both : (b m n : ClientTold) → ClientGoesOn b m → ClientGoesOn m n → ClientGoesOn b n
goes_both b m n p q = record {
  store = q.store ∙ p.store;
  link = q.link ∙ p.link;
  faults = let x = p.faults in let y = q.faults in omega (arith, x, y);
  expiries = let x = p.expiries in let y = q.expiries in omega (arith, x, y);
}

cause_before : (b m n : ClientTold) (sv more : List Served) (al then : List Said) (a : Ask) (e : FileReconstructionError) → ClientGoesOn m n → StepCause b m sv al a e → StepCause b n (sv ++ more) (al ++ then) a e
cause_before b m n sv more al then a error.OutOfMemory w c = tt
cause_before b m n sv more al then a error.ClientError w c = let f = w.faults in omega (arith, f, c)
cause_before b m n sv more al then a error.FileNotFound w c = absurd c
cause_before b m n sv more al then a error.UrlExpired w c = absurd c
cause_before b m n sv more al then a error.IoError w c = absurd c
cause_before b m n sv more al then a (error.CorruptedReconstruction k) w c = record { given = c.given; answer = answer_before sv more al then (served_of a.request) c.given c.answer; fails = c.fails; dishonest = c.dishonest }
cause_before b m n sv more al then a (error.ConfigurationError x) w c = absurd c
cause_before b m n sv more al then a error.Cancelled w c = absurd c
cause_before b m n sv more al then a (error.InternalWriterError x) w c = absurd c

cause_after : (b m n : ClientTold) (sv more : List Served) (al then : List Said) (a : Ask) (e : FileReconstructionError) → ClientGoesOn b m → length sv ≡ length (bytes_in al) → StepCause m n more then a e → StepCause b n (sv ++ more) (al ++ then) a e
cause_after b m n sv more al then a error.OutOfMemory w same c = tt
cause_after b m n sv more al then a error.ClientError w same c = let f = w.faults in omega (arith, f, c)
cause_after b m n sv more al then a error.FileNotFound w same c = absurd c
cause_after b m n sv more al then a error.UrlExpired w same c = absurd c
cause_after b m n sv more al then a error.IoError w same c = absurd c
cause_after b m n sv more al then a (error.CorruptedReconstruction k) w same c = record {
  given = c.given;
  answer = answer_after sv more al then (served_of a.request) c.given same c.answer;
  fails = c.fails;
  dishonest = λ s told. c.dishonest s (w.store ∙ told);
}
cause_after b m n sv more al then a (error.ConfigurationError x) w same c = absurd c
cause_after b m n sv more al then a error.Cancelled w same c = absurd c
cause_after b m n sv more al then a (error.InternalWriterError x) w same c = absurd c

-- ---- lists of steps

entries_snoc : (qs : List Ask) (ss : List LaneStep) (a : Ask) (s : LaneStep) → length qs ≡ length ss → entries_of (qs ++ a ∷ []) (ss ++ s ∷ []) ≡ entries_of qs ss ++ entries_in a s
entries_snoc [] [] a s e = append-nil (entries_in a s)
entries_snoc [] (x ∷ ss) a s e = absurd (omega arith)
entries_snoc (p ∷ qs) [] a s e = absurd (omega arith)
entries_snoc (p ∷ qs) (x ∷ ss) a s e = ap (λ l. entries_in p x ++ l) (entries_snoc qs ss a s (omega arith)) ∙ sym (append_assoc (entries_in p x) (entries_of qs ss) (entries_in a s))

lates_snoc : (qs : List Ask) (ss : List LaneStep) (a : Ask) (s : LaneStep) → length qs ≡ length ss → lates_of (qs ++ a ∷ []) (ss ++ s ∷ []) ≡ lates_of qs ss ++ lates_in a s
lates_snoc [] [] a s e = append-nil (lates_in a s)
lates_snoc [] (x ∷ ss) a s e = absurd (omega arith)
lates_snoc (p ∷ qs) [] a s e = absurd (omega arith)
lates_snoc (p ∷ qs) (x ∷ ss) a s e = ap (λ l. lates_in p x ++ l) (lates_snoc qs ss a s (omega arith)) ∙ sym (append_assoc (lates_in p x) (lates_of qs ss) (lates_in a s))

expired_snoc : (ss : List LaneStep) (s : LaneStep) → expired_count (ss ++ s ∷ []) ≡ expired_count ss + expired_in s
expired_snoc [] s = omega arith
expired_snoc (x ∷ ss) s = let e = expired_snoc ss s in omega arith

get_last : {A : Type 0} (xs : List A) (x : A) → slice_get (xs ++ x ∷ []) (length (xs ++ x ∷ []) - 1) ≡ Some x
get_last xs x = let e : length (xs ++ x ∷ []) - 1 ≡ length xs = omega (arith, length-append xs (x ∷ [])) in rw e (at_end xs)
  where
    at_end : (l : List _) → slice_get (l ++ x ∷ []) (length l) ≡ Some x
    at_end [] = refl
    at_end (y ∷ l) = at_end l

hides_end : (ss : List LaneStep) (s : LaneStep) → hides_at (slice_get (ss ++ s ∷ []) (length (ss ++ s ∷ []) - 1)) ≡ may_hide s
hides_end ss s = ap hides_at (get_last ss s)

hidden_here : (qs : List Ask) (xs : List LaneStep) (a : Ask) (s : LaneStep) → length qs ≡ length xs → slice_get (qs ++ a ∷ []) (length (xs ++ s ∷ []) - 1) ≡ Some a
hidden_here qs xs a s len =
    let e : length (xs ++ s ∷ []) - 1 ≡ length (qs ++ a ∷ []) - 1 = omega (arith, length-append xs (s ∷ []), length-append qs (a ∷ [])) in
    ap (slice_get (qs ++ a ∷ [])) e ∙ get_last qs a

is_before : (b m n : ClientTold) (sv more : List Served) (al then : List Said) (a : Ask) (s : LaneStep) → ClientGoesOn m n → IsOf b m sv al a s → IsOf b n (sv ++ more) (al ++ then) a s
is_before b m n sv more al then a (step.Served p k d) w i = let t = i.2 in (i.0, i.1, record { given = t.given; answer = answer_before sv more al then (served_of a.request) t.given t.answer; passes = t.passes; made = t.made; honest = t.honest })
is_before b m n sv more al then a (step.Expired p k) w i = i
is_before b m n sv more al then a (step.Failed e) w i = cause_before b m n sv more al then a e w i

is_after : (b m n : ClientTold) (sv more : List Served) (al then : List Said) (a : Ask) (s : LaneStep) → ClientGoesOn b m → length sv ≡ length (bytes_in al) → IsOf m n more then a s → IsOf b n (sv ++ more) (al ++ then) a s
is_after b m n sv more al then a (step.Served p k d) w same i = let t = i.2 in (i.0, i.1, record { given = t.given; answer = answer_after sv more al then (served_of a.request) t.given same t.answer; passes = t.passes; made = t.made; honest = λ s told. t.honest s (w.store ∙ told) })
is_after b m n sv more al then a (step.Expired p k) w same i = i
is_after b m n sv more al then a (step.Failed e) w same i = cause_after b m n sv more al then a e w same i

are_more : (b m n : ClientTold) (sv more : List Served) (al then : List Said) (qs : List Ask) (ss : List LaneStep) (a : Ask) (s : LaneStep) → ClientGoesOn m n → length qs ≡ length ss → AreOf b m sv al qs ss → IsOf b n (sv ++ more) (al ++ then) a s → AreOf b n (sv ++ more) (al ++ then) (qs ++ a ∷ []) (ss ++ s ∷ [])
are_more b m n sv more al then [] [] a s w e r i = (i, tt)
are_more b m n sv more al then [] (x ∷ ss) a s w e r i = absurd (omega arith)
are_more b m n sv more al then (q ∷ qs) [] a s w e r i = absurd (omega arith)
are_more b m n sv more al then (q ∷ qs) (x ∷ ss) a s w e r i = (is_before b m n sv more al then q x w r.0, are_more b m n sv more al then qs ss a s w (omega arith) r.1 i)

hides_last : (ss : List LaneStep) (s : LaneStep) → HidesNone (ss ++ s ∷ []) → may_hide s ≡ false
hides_last [] s h = h.0
hides_last (x ∷ ss) s h = hides_last ss s h.1

faults_parts : (ss : List LaneStep) (s : LaneStep) → any_faults (ss ++ s ∷ []) ≡ false → (any_faults ss ≡ false) × (faults_in s ≡ false)
faults_parts [] s h = (refl, (or_parts (faults_in s) false h).0)
faults_parts (x ∷ ss) s h =
    let p = or_parts (faults_in x) (any_faults (ss ++ s ∷ [])) h in
    let r = faults_parts ss s p.1 in
    (ap (λ (v : Bool). v || any_faults ss) p.0 ∙ r.0, r.1)

-- a lane none of whose steps failed goes on with one more
pub one_more : (b m n : ClientTold) (qs : List Ask) (xs : List LaneStep) (a : Ask) (s : LaneStep) → (d : LaneDid b m qs xs) → length qs ≡ length xs → d.hidden ≡ [] → StepDid m n a s → LaneDid b n (qs ++ a ∷ []) (xs ++ s ∷ [])
one_more b m n qs xs a s d len bare t =
    let es = entries_of qs xs in
    let first : es ++ d.hidden ≡ es = ap (λ (l : List Served). es ++ l) bare ∙ append-nil es in
    let more = entries_in a s ++ t.hidden in
    let shape : es ++ more ≡ entries_of (qs ++ a ∷ []) (xs ++ s ∷ []) ++ t.hidden = sym (append_assoc es (entries_in a s) t.hidden) ∙ ap (λ (l : List Served). l ++ t.hidden) (sym (entries_snoc qs xs a s len)) in
    let before : IsPaired b m es d.said = subst (λ (l : List Served). IsPaired b m l d.said) first d.pairs in
    let are : AreOf b m es d.said qs xs = subst (λ (l : List Served). AreOf b m l d.said qs xs) first d.are in
    record {
      goes_on = goes_both b m n d.goes_on t.goes_on;
      asked = t.asked ∙ d.asked;
      said = d.said ++ t.said;
      hidden = t.hidden;
      quiet = plans_both d.said t.said ∙ ap (λ (l : List PlanAnswer). l ++ plans_in t.said) d.quiet ∙ t.quiet;
      pairs = subst (λ (l : List Served). IsPaired b n l (d.said ++ t.said)) shape (paired_both b m n es more d.said t.said before t.pairs);
      are = subst (λ (l : List Served). AreOf b n l (d.said ++ t.said) (qs ++ a ∷ []) (xs ++ s ∷ [])) shape (are_more b m n es more d.said t.said qs xs a s t.goes_on len are (is_after b m n es more d.said t.said a s d.goes_on before.paired t.is));
      at_most = ⊎_elim (λ (e : t.hidden ≡ []). inl e) (λ (e : (may_hide s ≡ true) × (t.hidden ≡ served_of a.request ∷ [])). inr (record { ask = a; some = omega (arith, length-append xs (s ∷ [])); last = hidden_here qs xs a s len; may = hides_end xs s ∙ e.0; is = e.1 })) t.at_most;
      none = λ h. ⊎_elim (λ (e : t.hidden ≡ []). e) (λ (e : (may_hide s ≡ true) × (t.hidden ≡ served_of a.request ∷ [])). absurd (let l = hides_last xs s h in let r = e.0 in cc)) t.at_most;
      once = let u = d.once in let v = t.once in omega (arith, u, v, length-append d.said t.said, length-append xs (s ∷ []));
      late = flat_map-append late_said d.said t.said ∙ ap (λ (l : List Served). l ++ late_in t.said) d.late ∙ ap (λ (l : List Served). lates_of qs xs ++ l) t.late ∙ sym (lates_snoc qs xs a s len);
      expired = subst (λ (c : ℕ). min (b.expiries + c) (2 ^ 64 - 1) ≤ n.expiries) (sym (expired_snoc xs s)) (let u = d.expired in let v = t.expired in omega (arith, u, v));
      unfailed = λ h. let p = faults_parts xs s h in t.unfailed p.1 ∙ d.unfailed p.0;
    }
