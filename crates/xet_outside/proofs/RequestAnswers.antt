-- An answer belongs to its own request: what one call adds, and what calls in a row add.
use Rattle.std.proofs.Common.{◌≡◌, ℕ, zero, suc, ◌+◌, List, [], ◌∷◌, ◌++◌, length, refl, subst, ◌∙◌, ap, sym, arith, append_assoc, length-append, Some, None, Option, Ok, Err}
use Rattle.std.specs.Prelude.{Result, option_map, slice_get}
use Rattle.std.proofs.lemmas.List.{append-nil}
use Rattle.std.proofs.lemmas.Grind.{flat_map-append}
use Rattle.xet_base.specs.declared.cas_types.FileRange.{FileRange}
use Rattle.xet_base.specs.declared.merklehash.MerkleHash.{MerkleHash}
use Rattle.xet_outside.specs.Answers.{AnswerTo, AnswerToQuery, IsAnswered, IsPaired, block_said, block_served, bytes_in, bytes_said, plan_said, plans_in, plans_said}
use Rattle.xet_outside.specs.Told.{Added, BlockCall, ClientTold, PlanCall, Query}
use Rattle.xet_outside.specs.declared.block.BlockAnswer.{BlockAnswer}
use Rattle.xet_outside.specs.declared.block.BlockAnswer.TheVariants.{Bytes, Expired}
use Rattle.xet_outside.specs.declared.block.BlockBytes.{BlockBytes}
use Rattle.xet_outside.specs.declared.block.BlockRequest.{BlockRequest}
use Rattle.xet_outside.specs.declared.client.ClientError.{ClientError}
use Rattle.xet_outside.specs.declared.plan.PlanAnswer.{PlanAnswer}
use Rattle.xet_outside.specs.declared.said.Said.{Said}
use Rattle.xet_outside.specs.declared.served.Served.{Served}

-- ---- places in joined lists

get_front : {A : Type 0} (xs ys : List A) (k : ℕ) (x : A) → slice_get xs k ≡ Some x → slice_get (xs ++ ys) k ≡ Some x
get_front [] ys k x h = absurd (cc)
get_front (z ∷ xs) ys zero x h = h
get_front (z ∷ xs) ys (suc k) x h = get_front xs ys k x h

get_back : {A : Type 0} (xs ys : List A) (k j : ℕ) (x : A) → j ≡ length xs + k → slice_get ys k ≡ Some x
    → slice_get (xs ++ ys) j ≡ Some x
get_back [] ys k j x e h = let same : k ≡ j = omega (arith, e) in subst (λ (i : ℕ). slice_get ys i ≡ Some x) same h
get_back (z ∷ xs) ys k zero x e h = absurd (omega (arith, e))
get_back (z ∷ xs) ys k (suc j) x e h = get_back xs ys k j x (omega (arith, e)) h

-- ---- what was said in calls in a row

pub bytes_both : (xs ys : List Said) → bytes_in (xs ++ ys) ≡ bytes_in xs ++ bytes_in ys
bytes_both xs ys = flat_map-append bytes_said xs ys

pub plans_both : (xs ys : List Said) → plans_in (xs ++ ys) ≡ plans_in xs ++ plans_in ys
plans_both xs ys = flat_map-append plans_said xs ys

-- ---- lists that grew

pub added_both : {A : Type 0} (b m n : Option (List A)) (xs ys : List A) → Added b m xs → Added m n ys
    → Added b n (xs ++ ys)
added_both {A = A} b m n xs ys f s = s ∙ ap (λ (o : Option (List A)). option_map (λ l. l ++ ys) o) f ∙ twice b
  where
    twice : (o : Option (List A)) → option_map (λ l. l ++ ys) (option_map (λ l. l ++ xs) o) ≡ option_map (λ l. l ++ (xs ++ ys)) o
    twice None = refl
    twice (Some l) = ap (λ (z : List A). Some z) (append_assoc l xs ys)

pub added_none : {A : Type 0} (b n : Option (List A)) → n ≡ b → Added b n []
added_none {A = A} b n e = e ∙ same b
  where
    same : (o : Option (List A)) → o ≡ option_map (λ l. l ++ []) o
    same None = refl
    same (Some l) = ap (λ (z : List A). Some z) (sym (append-nil l))

-- ---- requests for blocks

pub block_paired : (b n : ClientTold) (r : BlockRequest) (answer : Result BlockAnswer ClientError) → BlockCall b n r answer
    → IsPaired b n (block_served r answer) (block_said r answer)
block_paired b n r (Ok (Bytes bytes)) call = record { serves = call.served; says = call.said; paired = refl }
block_paired b n r (Ok Expired) call = record { serves = added_none b.served n.served call.served; says = call.said; paired = refl }
block_paired b n r (Err e) call = record {
  serves = added_none b.served n.served call.unserved;
  says = added_none b.said n.said call.unsaid;
  paired = refl;
}

pub plan_paired : (b n : ClientTold) (f : MerkleHash) (q : FileRange) (answer : Result PlanAnswer ClientError)
    → PlanCall b n f q answer → IsPaired b n [] (plan_said answer)
plan_paired b n f q (Ok a) call = record { serves = added_none b.served n.served call.served; says = call.said; paired = refl }
plan_paired b n f q (Err e) call = record {
  serves = added_none b.served n.served call.served;
  says = added_none b.said n.said call.unsaid;
  paired = refl;
}

pub paired_both : (b m n : ClientTold) (xs ys : List Served) (all more : List Said) → IsPaired b m xs all
    → IsPaired m n ys more → IsPaired b n (xs ++ ys) (all ++ more)
paired_both b m n xs ys all more p q = record {
  serves = added_both b.served m.served n.served xs ys p.serves q.serves;
  says = added_both b.said m.said n.said all more p.says q.says;
  paired =
      let x = ap (λ (l : List BlockBytes). length l) (bytes_both all more) in
      let y = length-append (bytes_in all) (bytes_in more) in
      let z = length-append xs ys in
      let u = p.paired in
      let v = q.paired in
      omega (arith, x, y, z, u, v);
}

-- an answer stays one after further calls
pub answer_before : (xs ys : List Served) (all more : List Said) (e : Served) (b : BlockBytes) → AnswerTo xs all e b
    → AnswerTo (xs ++ ys) (all ++ more) e b
answer_before xs ys all more e b a = record {
  place = a.place;
  entry = get_front xs ys a.place e a.entry;
  bytes = ap (λ (l : List BlockBytes). slice_get l a.place) (bytes_both all more)
      ∙ get_front (bytes_in all) (bytes_in more) a.place b a.bytes;
}

-- and one of these is one of all, where each entry before them had its answer
pub answer_after : (xs ys : List Served) (all more : List Said) (e : Served) (b : BlockBytes)
    → length xs ≡ length (bytes_in all) → AnswerTo ys more e b → AnswerTo (xs ++ ys) (all ++ more) e b
answer_after xs ys all more e b same a = record {
  place = length xs + a.place;
  entry = get_back xs ys a.place (length xs + a.place) e refl a.entry;
  bytes = ap (λ (l : List BlockBytes). slice_get l (length xs + a.place)) (bytes_both all more)
      ∙ get_back (bytes_in all) (bytes_in more) a.place (length xs + a.place) b (omega (arith, same)) a.bytes;
}

-- ---- queries

pub query_answered : (b n : ClientTold) (f : MerkleHash) (q : FileRange) (a : PlanAnswer) → PlanCall b n f q (Ok a)
    → IsAnswered b n ((f, q) ∷ []) (plan_said (Ok a))
query_answered b n f q a call = record { asks = call.asked; says = call.said; answered = refl }

pub block_unasked : (b n : ClientTold) (r : BlockRequest) (answer : Result BlockAnswer ClientError) → BlockCall b n r answer
    → IsAnswered b n [] (block_said r answer)
block_unasked b n r (Ok (Bytes bytes)) call = record { asks = added_none b.asked n.asked call.asked; says = call.said; answered = refl }
block_unasked b n r (Ok Expired) call = record { asks = added_none b.asked n.asked call.asked; says = call.said; answered = refl }
block_unasked b n r (Err e) call = record {
  asks = added_none b.asked n.asked call.asked;
  says = added_none b.said n.said call.unsaid;
  answered = refl;
}

pub answered_both : (b m n : ClientTold) (xs ys : List Query) (all more : List Said) → IsAnswered b m xs all
    → IsAnswered m n ys more → IsAnswered b n (xs ++ ys) (all ++ more)
answered_both b m n xs ys all more p q = record {
  asks = added_both b.asked m.asked n.asked xs ys p.asks q.asks;
  says = added_both b.said m.said n.said all more p.says q.says;
  answered =
      let x = ap (λ (l : List PlanAnswer). length l) (plans_both all more) in
      let y = length-append (plans_in all) (plans_in more) in
      let z = length-append xs ys in
      let u = p.answered in
      let v = q.answered in
      omega (arith, x, y, z, u, v);
}

pub query_before : (xs ys : List Query) (all more : List Said) (q : Query) (a : PlanAnswer) → AnswerToQuery xs all q a
    → AnswerToQuery (xs ++ ys) (all ++ more) q a
query_before xs ys all more q a t = record {
  place = t.place;
  query = get_front xs ys t.place q t.query;
  answer = ap (λ (l : List PlanAnswer). slice_get l t.place) (plans_both all more)
      ∙ get_front (plans_in all) (plans_in more) t.place a t.answer;
}

pub query_after : (xs ys : List Query) (all more : List Said) (q : Query) (a : PlanAnswer)
    → length xs ≡ length (plans_in all) → AnswerToQuery ys more q a → AnswerToQuery (xs ++ ys) (all ++ more) q a
query_after xs ys all more q a same t = record {
  place = length xs + t.place;
  query = get_back xs ys t.place (length xs + t.place) q refl t.query;
  answer = ap (λ (l : List PlanAnswer). slice_get l (length xs + t.place)) (plans_both all more)
      ∙ get_back (plans_in all) (plans_in more) t.place (length xs + t.place) a (omega (arith, same)) t.answer;
}
