-- What the end of a file puts.
use Rattle.std.proofs.Common.{◌≡◌, ℕ, ◌⊎◌, inl, inr, List, [], ◌++◌, length, refl, sym, ◌∙◌, ap, subst, arith}
use Rattle.std.specs.Prelude.{Result, Ok, Err}
use Rattle.std.specs.List.{concat}
use Rattle.std.proofs.lemmas.List.{length-append}
use Rattle.std.proofs.lemmas.List.Folds.{concat-append}
use Rattle.xet_upload.specs.Waitings.{Waiting, no_waiting}
use Rattle.xet_upload.specs.declared.data_error.DataError.{DataError}
use Rattle.xet_upload_parts.specs.Thresholds.{FitTogether}
use Rattle.xet_upload_parts.specs.declared.cut_thresholds.CutThresholds.{CutThresholds}
use Rattle.xet_upload_session.specs.Calls.{Cut, CutPut, CutStill, CutStopped}
use Rattle.xet_upload_session.specs.Completions.{CutsFile, CutsWaiting, Joins, TakesFile, with_waiting}
use Rattle.xet_upload_session.specs.Puts.{made_of}
use Rattle.xet_upload_session.specs.Sessions.{SessionTold, Tells, log_of}
use Rattle.xet_clean_parts.specs.Made.{IsPickedFrom, PutsLast, PutsMade, PutsNone, StayOne}
use Rattle.xet_clean_parts.proofs.CallerLemmas.{grew-cut, grew-moved, grew-none, made-before, made-behind, made-cut, made-less, made-more, made-moved, made-still}
use Rattle.xet_clean_parts.proofs.CallerLemmas.{picked-all, picked-behind, picked-bytes, picked-count, picked-front, picked-none, picked-same, picked-within}

-- ---- chunks that stay one with what waits

-- fewer do
pub stay-picked : (b m : SessionTold) (xs ys : List (List ℕ))
    → IsPickedFrom (m.waiting.chunks ++ xs) (b.waiting.chunks ++ ys) → m.thresholds ≡ b.thresholds → StayOne b ys
    → StayOne m xs
stay-picked b m xs ys p same s =
    let few = picked-count (m.waiting.chunks ++ xs) (b.waiting.chunks ++ ys) p in
    let less = picked-bytes (m.waiting.chunks ++ xs) (b.waiting.chunks ++ ys) p in
    let bytes = ap (λ (c : CutThresholds). c.bytes) same in
    let chunks = ap (λ (c : CutThresholds). c.chunks) same in
    let most = s.bytes in
    let room = s.count in
    record {
      bytes = omega (arith, less, bytes, most);
      count = omega (arith, few, chunks, room);
      within = picked-within (m.waiting.chunks ++ xs) (b.waiting.chunks ++ ys) p s.within;
    }

-- the data of a file that stay one with what waits join it
stay-fits : (b : SessionTold) (w : Waiting) → StayOne b w.chunks → FitTogether b.thresholds b.waiting w
stay-fits b w s =
    let bytes = s.bytes in
    let count = s.count in
    let joined = ap (λ (xs : List ℕ). length xs) (concat-append b.waiting.chunks w.chunks) in
    let sum = length-append (concat b.waiting.chunks) (concat w.chunks) in
    let both = length-append b.waiting.chunks w.chunks in
    record {
      bytes = omega (arith, bytes, joined, sum);
      chunks = omega (arith, count, both);
      within = s.within;
    }

-- ---- what waits afterwards

-- what waited waits on
pub waits-still : (b n : SessionTold) (more : List (List ℕ)) → n.waiting ≡ b.waiting
    → IsPickedFrom n.waiting.chunks (b.waiting.chunks ++ more)
waits-still b n more e =
    picked-same n.waiting.chunks b.waiting.chunks (b.waiting.chunks ++ more) (ap (λ (w : Waiting). w.chunks) e)
    (picked-front b.waiting.chunks b.waiting.chunks more (picked-all b.waiting.chunks))

waits-none : (b n : SessionTold) (more : List (List ℕ)) → n.waiting ≡ no_waiting
    → IsPickedFrom n.waiting.chunks (b.waiting.chunks ++ more)
waits-none b n more e = picked-same n.waiting.chunks [] (b.waiting.chunks ++ more)
    (ap (λ (w : Waiting). w.chunks) e) (picked-none (b.waiting.chunks ++ more))

-- after the end of a file
pub takes-waits : (b n : SessionTold) (w : Waiting) (now : ℕ) (answer : Result (Unit {0}) DataError)
    → TakesFile b n w now answer → IsPickedFrom n.waiting.chunks (b.waiting.chunks ++ w.chunks)
takes-waits b n w now answer t = go answer t.exits
  where
    middle-waits : (m : SessionTold) (e : DataError) → CutStopped b m now (Err e)
        → IsPickedFrom m.waiting.chunks (b.waiting.chunks ++ w.chunks)
    middle-waits m e (inl s) = waits-still b m w.chunks (ap (λ (z : SessionTold). z.waiting) s)
    middle-waits m e (inr (inl s)) = waits-none b m w.chunks (ap (λ (z : SessionTold). z.waiting) s.same)
    middle-waits m e (inr (inr p)) = waits-none b m w.chunks (ap (λ (z : SessionTold). z.waiting) p.put.same)

    go : (a : Result (Unit {0}) DataError) → Joins b n w a ⊎ CutsFile b n w now a ⊎ CutsWaiting b n w now a
        → IsPickedFrom n.waiting.chunks (b.waiting.chunks ++ w.chunks)
    go (Ok u) (inl j) = picked-same n.waiting.chunks (b.waiting.chunks ++ w.chunks) (b.waiting.chunks ++ w.chunks)
        (ap (λ (z : SessionTold). z.waiting.chunks) j.ok) (picked-all (b.waiting.chunks ++ w.chunks))
    go (Err e) (inl j) = waits-still b n w.chunks (ap (λ (z : SessionTold). z.waiting) j.err)
    go a (inr (inl c)) = waits-still b n w.chunks (ap (λ (z : SessionTold). z.waiting) c.same)
    go (Ok u) (inr (inr c)) = picked-same n.waiting.chunks w.chunks (b.waiting.chunks ++ w.chunks)
        (ap (λ (z : SessionTold). z.waiting.chunks) c.ok) (picked-behind b.waiting.chunks w.chunks w.chunks
        (picked-all w.chunks))
    go (Err e) (inr (inr c)) =
        let P : SessionTold → Type 0 = λ z. IsPickedFrom z.waiting.chunks (b.waiting.chunks ++ w.chunks) in
        subst P (sym c.err) (middle-waits c.middle e c.cut.err)

-- ---- a cut

cut-thresholds : (b n : SessionTold) (now : ℕ) (answer : Result (Unit {0}) DataError) → Cut b n now answer
    → n.thresholds ≡ b.thresholds
cut-thresholds b n now (Ok u) c = go c.ok
  where
    go : CutStill b n ⊎ CutPut b n now (Ok u) → n.thresholds ≡ b.thresholds
    go (inl s) = ap (λ (t : SessionTold). t.thresholds) s.same
    go (inr p) = ap (λ (t : SessionTold). t.thresholds) p.put.same
cut-thresholds b n now (Err e) c = go c.err
  where
    go : CutStopped b n now (Err e) → n.thresholds ≡ b.thresholds
    go (inl s) = ap (λ (t : SessionTold). t.thresholds) s
    go (inr (inl s)) = ap (λ (t : SessionTold). t.thresholds) s.same
    go (inr (inr p)) = ap (λ (t : SessionTold). t.thresholds) p.put.same

-- ---- the end of a file

module _ (b n : SessionTold) (w : Waiting) (now : ℕ) where
  pub takes-thresholds : (answer : Result (Unit {0}) DataError) → TakesFile b n w now answer
      → n.thresholds ≡ b.thresholds
  takes-thresholds answer t = go answer t.exits
    where
      go : (a : Result (Unit {0}) DataError) → Joins b n w a ⊎ CutsFile b n w now a ⊎ CutsWaiting b n w now a
          → n.thresholds ≡ b.thresholds
      go (Ok u) (inl j) = ap (λ (z : SessionTold). z.thresholds) j.ok
      go (Err e) (inl j) = ap (λ (z : SessionTold). z.thresholds) j.err
      go a (inr (inl c)) = ap (λ (z : SessionTold). z.thresholds) c.same
          ∙ cut-thresholds (with_waiting b w) c.middle now a c.cut
      go (Ok u) (inr (inr c)) = ap (λ (z : SessionTold). z.thresholds) c.ok
          ∙ cut-thresholds b c.middle now (Ok u) c.cut
      go (Err e) (inr (inr c)) = ap (λ (z : SessionTold). z.thresholds) c.err
          ∙ cut-thresholds b c.middle now (Err e) c.cut

  -- what is put is made of what waited, or of the data, each chunk once
  pub takes-puts : (answer : Result (Unit {0}) DataError) → TakesFile b n w now answer → Tells b
      → PutsMade b n (b.waiting.chunks ++ w.chunks) n.waiting.chunks
  takes-puts answer t tells = go answer t.exits
    where
      Made : SessionTold → Type 0
      Made z = PutsMade b z (b.waiting.chunks ++ w.chunks) z.waiting.chunks

      aside : Tells (with_waiting b w)
      aside = record { puts = tells.puts; shards = tells.shards }

      still : log_of n ≡ log_of b → n.repeated ≡ b.repeated → Made n
      still log same = made-still b n (b.waiting.chunks ++ w.chunks) n.waiting.chunks (takes-waits b n w now answer t)
          log same

      -- the data was cut, and what waited waits on
      cut-file : (a : Result (Unit {0}) DataError) (m : SessionTold) → Cut (with_waiting b w) m now a
          → Made (with_waiting m b.waiting)
      cut-file a m c =
          let made = made-moved b (with_waiting b w) m (with_waiting m b.waiting) w.chunks m.waiting.chunks refl refl refl
          refl (made-cut (with_waiting b w) m now a c aside) in
          made-less b (with_waiting m b.waiting) (b.waiting.chunks ++ w.chunks) (b.waiting.chunks ++ m.waiting.chunks)
          b.waiting.chunks (picked-front b.waiting.chunks b.waiting.chunks m.waiting.chunks
          (picked-all b.waiting.chunks)) (made-before b (with_waiting m b.waiting) b.waiting.chunks w.chunks
          m.waiting.chunks made)

      -- what waited was cut, and the data waits
      cut-waiting : (u : Unit {0}) (m : SessionTold) → Cut b m now (Ok u) → Made (with_waiting m w)
      cut-waiting u m c =
          let made = made-behind b m b.waiting.chunks m.waiting.chunks w.chunks (made-cut b m now (Ok u) c tells) in
          made-moved b b m (with_waiting m w) (b.waiting.chunks ++ w.chunks) w.chunks refl refl refl refl
          (made-less b m (b.waiting.chunks ++ w.chunks) (m.waiting.chunks ++ w.chunks) w.chunks
          (picked-behind m.waiting.chunks w.chunks w.chunks (picked-all w.chunks)) made)

      -- this failed
      cut-failed : (e : DataError) (m : SessionTold) → Cut b m now (Err e) → Made m
      cut-failed e m c = made-more b m b.waiting.chunks (b.waiting.chunks ++ w.chunks) m.waiting.chunks
          (picked-front b.waiting.chunks b.waiting.chunks w.chunks (picked-all b.waiting.chunks))
          (made-cut b m now (Err e) c tells)

      go : (a : Result (Unit {0}) DataError) → Joins b n w a ⊎ CutsFile b n w now a ⊎ CutsWaiting b n w now a
          → Made n
      go (Ok u) (inl j) = still (ap log_of j.ok) (ap (λ (z : SessionTold). z.repeated) j.ok)
      go (Err e) (inl j) = still (ap log_of j.err) (ap (λ (z : SessionTold). z.repeated) j.err)
      go a (inr (inl c)) = subst Made (sym c.same) (cut-file a c.middle c.cut)
      go (Ok u) (inr (inr c)) = subst Made (sym c.ok) (cut-waiting u c.middle c.cut)
      go (Err e) (inr (inr c)) = subst Made (sym c.err) (cut-failed e c.middle c.cut)

  -- one of both became a xorb, or none
  pub takes-last : (u : Unit {0}) → TakesFile b n w now (Ok u) → Tells b → PutsLast b n w.chunks
  takes-last u t tells = go t.exits
    where
      aside : Tells (with_waiting b w)
      aside = record { puts = tells.puts; shards = tells.shards }

      go : Joins b n w (Ok u) ⊎ CutsFile b n w now (Ok u) ⊎ CutsWaiting b n w now (Ok u) → PutsLast b n w.chunks
      go (inl j) = record {
        last = [];
        grew = grew-none b n (ap log_of j.ok, ap (λ (z : SessionTold). z.repeated) j.ok);
        is_last = inl (refl, ap (λ (z : SessionTold). z.waiting.chunks) j.ok);
      }
      go (inr (inl c)) = record {
        last = made_of w.chunks;
        grew = grew-moved b (with_waiting b w) c.middle n (made_of w.chunks) refl refl (ap log_of c.same)
            (ap (λ (z : SessionTold). z.repeated) c.same) (grew-cut (with_waiting b w) c.middle now u c.cut aside);
        is_last = inr (inl (refl, ap (λ (z : SessionTold). z.waiting.chunks) c.same));
      }
      go (inr (inr c)) = record {
        last = made_of b.waiting.chunks;
        grew = grew-moved b b c.middle n (made_of b.waiting.chunks) refl refl (ap log_of c.ok)
            (ap (λ (z : SessionTold). z.repeated) c.ok) (grew-cut b c.middle now u c.cut tells);
        is_last = inr (inr (refl, ap (λ (z : SessionTold). z.waiting.chunks) c.ok));
      }

  -- nothing is put where the data stay one with what waits
  pub takes-full : (answer : Result (Unit {0}) DataError) → TakesFile b n w now answer → StayOne b w.chunks
      → PutsNone b n
  takes-full answer t s = go answer t.exits
    where
      go : (a : Result (Unit {0}) DataError) → Joins b n w a ⊎ CutsFile b n w now a ⊎ CutsWaiting b n w now a
          → PutsNone b n
      go (Ok u) (inl j) = λ tells. (ap log_of j.ok, ap (λ (z : SessionTold). z.repeated) j.ok)
      go (Err e) (inl j) = λ tells. (ap log_of j.err, ap (λ (z : SessionTold). z.repeated) j.err)
      go a (inr (inl c)) = absurd (c.passes (stay-fits b w s))
      go a (inr (inr c)) = absurd (c.passes (stay-fits b w s))
