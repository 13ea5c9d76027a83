-- What calls put of the xorbs that they made.
use Rattle.std.proofs.Common.{◌≡◌, ℕ, ◌<◌, ◌⊎◌, inl, inr, Bool, true, false, List, [], ◌∷◌, ◌++◌, length, map, refl, sym, ◌∙◌, ap, subst, arith}
use Rattle.std.specs.Prelude.{All, Contains, Result, Ok, Err, OnOk, OnErr}
use Rattle.std.proofs.lemmas.List.{append-nil, append_assoc, map-append}
use Rattle.std.proofs.lemmas.List.Elements.{All-nil, All-cons, All-append, All-weaker, Contains-append_left, Contains-append_right, Contains-push}
use Rattle.xet_base.specs.declared.mdb_shard.Xorb.{Xorb}
use Rattle.xet_uploader.specs.declared.uploader.Put.{Put}
use Rattle.xet_uploader.specs.declared.uploader.Put.TheVariants as put
use Rattle.xet_upload.specs.Waitings.{Waiting, merged, xorb_of_chunks}
use Rattle.xet_upload.specs.declared.data_error.DataError.{DataError}
use Rattle.xet_upload_session.specs.Calls.{Cut, CutPut, CutRepeated, CutStill, CutStopped, RegisterStopped, Registers, WasPut, without_waiting}
use Rattle.xet_upload_session.specs.Completions.{CutsFile, CutsWaiting, Joins, TakesFile, with_waiting}
use Rattle.xet_upload_session.specs.Puts.{MadeAtEnd, Puts, made_of}
use Rattle.xet_upload_session.specs.Sessions.{SessionTold, Tells, log_of}

on-ok : {A E P : Type 0} (z : Result A E) → P → OnOk z P
on-ok (Ok u) p = p
on-ok (Err e) p = tt

on-ok-both : {A E P Q : Type 0} (z : Result A E) → (P → Q) → OnOk z P → OnOk z Q
on-ok-both (Ok u) f p = f p
on-ok-both (Err e) f p = tt

-- one is among itself alone
alone : {A : Type 0} (x : A) → All (Contains (x ∷ [])) (x ∷ [])
alone x = All-cons (Contains (x ∷ [])) x [] (Contains-push [] x) (All-nil (Contains (x ∷ [])))

-- ---- one call

module _ {A : Type 0} (b n : SessionTold) (answer : Result A DataError) where
  -- nothing was put, and nothing made or the call failed
  pub puts-nothing : (made : List Xorb) → OnOk answer (made ≡ []) → log_of n ≡ log_of b → n.repeated ≡ b.repeated → Puts b n made answer
  puts-nothing made none log same =
      let P : Xorb → Type 0 = λ x. Contains [] x ⊎ Contains [] x in
      record {
        xorbs = [];
        grown = log ∙ sym (append-nil (log_of b));
        again = [];
        repeated = same ∙ sym (append-nil b.repeated);
        put_made = All-nil (Contains made);
        again_made = All-nil (Contains made);
        all = on-ok-both answer (λ e. subst (λ (xs : List Xorb). All P xs) (sym e) (All-nil P)) none;
      }

  -- a xorb was put
  pub puts-one : (x : Xorb) → log_of n ≡ log_of b ++ put.Xorb x ∷ [] → n.repeated ≡ b.repeated → Puts b n (x ∷ []) answer
  puts-one x log same =
      let P : Xorb → Type 0 = λ y. Contains (x ∷ []) y ⊎ Contains [] y in
      record {
        xorbs = x ∷ [];
        grown = log;
        again = [];
        repeated = same ∙ sym (append-nil b.repeated);
        put_made = alone x;
        again_made = All-nil (Contains (x ∷ []));
        all = on-ok answer (All-weaker (Contains (x ∷ [])) P (λ y c. inl c) (x ∷ []) (alone x));
      }

  -- a xorb was not put, since one of its hash was put before
  pub puts-again : (x : Xorb) → log_of n ≡ log_of b → n.repeated ≡ b.repeated ++ x ∷ [] → Puts b n (x ∷ []) answer
  puts-again x log told =
      let P : Xorb → Type 0 = λ y. Contains [] y ⊎ Contains (x ∷ []) y in
      record {
        xorbs = [];
        grown = log ∙ sym (append-nil (log_of b));
        again = x ∷ [];
        repeated = told;
        put_made = All-nil (Contains (x ∷ []));
        again_made = alone x;
        all = on-ok answer (All-weaker (Contains (x ∷ [])) P (λ y c. inr c) (x ∷ []) (alone x));
      }

  -- no call was made
  pub puts-none : log_of n ≡ log_of b → n.repeated ≡ b.repeated → Puts b n [] answer
  puts-none log same = puts-nothing [] (on-ok answer refl) log same

-- ---- other states and answers

-- what came before and after tells the same of log and repeated xorbs
pub puts-moved : {A : Type 0} (b c m n : SessionTold) (made : List Xorb) (answer : Result A DataError) → log_of c ≡ log_of b → c.repeated ≡ b.repeated → log_of n ≡ log_of m → n.repeated ≡ m.repeated → Puts c m made answer → Puts b n made answer
puts-moved b c m n made answer before same after told p = record {
  xorbs = p.xorbs;
  grown = after ∙ p.grown ∙ ap (λ (ps : List Put). ps ++ map put.Xorb p.xorbs) before;
  again = p.again;
  repeated = told ∙ p.repeated ∙ ap (λ (xs : List Xorb). xs ++ p.again) same;
  put_made = p.put_made;
  again_made = p.again_made;
  all = p.all;
}

-- what stands on Ok stands for any answer
pub puts-any : {A B : Type 0} (b n : SessionTold) (made : List Xorb) (u : A) (answer : Result B DataError) → Puts b n made (Ok u) → Puts b n made answer
puts-any b n made u answer p = record { xorbs = p.xorbs; grown = p.grown; again = p.again; repeated = p.repeated; put_made = p.put_made; again_made = p.again_made; all = on-ok answer p.all }

-- where a call failed, more may have been made
pub puts-failed : {A B : Type 0} (b n : SessionTold) (xs ys : List Xorb) (e d : DataError) → ((x : Xorb) → Contains xs x → Contains ys x) → Puts {A = A} b n xs (Err e) → Puts {A = B} b n ys (Err d)
puts-failed b n xs ys e d more p = record {
  xorbs = p.xorbs;
  grown = p.grown;
  again = p.again;
  repeated = p.repeated;
  put_made = All-weaker (Contains xs) (Contains ys) more p.xorbs p.put_made;
  again_made = All-weaker (Contains xs) (Contains ys) more p.again p.again_made;
  all = tt;
}

-- ---- two calls

module _ {A B : Type 0} (b m n : SessionTold) (xs ys : List Xorb) (u : A) (answer : Result B DataError) (h : Puts b m xs (Ok u)) (k : Puts m n ys answer) where
  from-first : (zs : List Xorb) → All (Contains xs) zs → All (Contains (xs ++ ys)) zs
  from-first zs a = All-weaker (Contains xs) (Contains (xs ++ ys)) (λ x c. Contains-append_left xs ys x c) zs a

  from-second : (zs : List Xorb) → All (Contains ys) zs → All (Contains (xs ++ ys)) zs
  from-second zs a = All-weaker (Contains ys) (Contains (xs ++ ys)) (λ x c. Contains-append_right xs ys x c) zs a

  abbrev IsLeft : Xorb → Type 0
  IsLeft x = Contains h.xorbs x ⊎ Contains h.again x

  abbrev IsRight : Xorb → Type 0
  IsRight x = Contains k.xorbs x ⊎ Contains k.again x

  abbrev InBoth : Xorb → Type 0
  InBoth x = Contains (h.xorbs ++ k.xorbs) x ⊎ Contains (h.again ++ k.again) x

  left : (x : Xorb) → IsLeft x → InBoth x
  left x (inl c) = inl (Contains-append_left h.xorbs k.xorbs x c)
  left x (inr c) = inr (Contains-append_left h.again k.again x c)

  right : (x : Xorb) → IsRight x → InBoth x
  right x (inl c) = inl (Contains-append_right h.xorbs k.xorbs x c)
  right x (inr c) = inr (Contains-append_right h.again k.again x c)

  pub puts-both : Puts b n (xs ++ ys) answer
  puts-both = record {
    xorbs = h.xorbs ++ k.xorbs;
    grown =
        k.grown ∙ ap (λ (ps : List Put). ps ++ map put.Xorb k.xorbs) h.grown ∙ append_assoc (log_of b) (map put.Xorb h.xorbs) (map put.Xorb k.xorbs)
        ∙ ap (λ (ps : List Put). log_of b ++ ps) (sym (map-append put.Xorb h.xorbs k.xorbs));
    again = h.again ++ k.again;
    repeated = k.repeated ∙ ap (λ (zs : List Xorb). zs ++ k.again) h.repeated ∙ append_assoc b.repeated h.again k.again;
    put_made = All-append (Contains (xs ++ ys)) h.xorbs k.xorbs (from-first h.xorbs h.put_made) (from-second k.xorbs k.put_made);
    again_made = All-append (Contains (xs ++ ys)) h.again k.again (from-first h.again h.again_made) (from-second k.again k.again_made);
    all = on-ok-both answer (λ a. All-append InBoth xs ys (All-weaker IsLeft InBoth left xs h.all) (All-weaker IsRight InBoth right ys a)) k.all;
  }

-- ---- a cut

made-some : (cs : List (List ℕ)) → 0 < length cs → made_of cs ≡ xorb_of_chunks cs ∷ []
made-some [] low = absurd (omega (arith, low))
made-some (c ∷ cs) low = refl

module _ (b n : SessionTold) (now : ℕ) (t : Tells b) where
  emptied : Tells (without_waiting b)
  emptied = record { puts = t.puts; shards = t.shards }

  put-cut : (answer : Result (Unit {0}) DataError) → CutPut b n now answer → Puts b n (made_of b.waiting.chunks) answer
  put-cut answer p =
      let one = puts-one b n answer (xorb_of_chunks b.waiting.chunks) (p.put.log emptied) (ap (λ (z : SessionTold). z.repeated) p.put.same) in
      subst (λ (xs : List Xorb). Puts b n xs answer) (sym (made-some b.waiting.chunks p.some)) one

  -- a cut puts the xorb of what waits
  pub puts-cut : (answer : Result (Unit {0}) DataError) → Cut b n now answer → Puts b n (made_of b.waiting.chunks) answer
  puts-cut (Ok u) k = go k.ok
    where
      still : (s : CutStill b n) → ((b.waiting.chunks ≡ []) × (n.repeated ≡ b.repeated)) ⊎ CutRepeated b n → Puts b n (made_of b.waiting.chunks) (Ok u)
      still s (inl q) = puts-nothing b n (Ok u) (made_of b.waiting.chunks) (ap made_of q.0) (ap log_of s.same) q.1
      still s (inr q) =
          let again = puts-again b n (Ok u) (xorb_of_chunks b.waiting.chunks) (ap log_of s.same) q.told in
          subst (λ (xs : List Xorb). Puts b n xs (Ok u)) (sym (made-some b.waiting.chunks q.some)) again

      go : CutStill b n ⊎ CutPut b n now (Ok u) → Puts b n (made_of b.waiting.chunks) (Ok u)
      go (inl s) = still s s.reason
      go (inr p) = put-cut (Ok u) p
  puts-cut (Err e) k = go k.err
    where
      nothing : log_of n ≡ log_of b → n.repeated ≡ b.repeated → Puts {A = Unit {0}} b n (made_of b.waiting.chunks) (Err e)
      nothing log same = puts-nothing b n (Err e) (made_of b.waiting.chunks) tt log same

      go : CutStopped b n now (Err e) → Puts {A = Unit {0}} b n (made_of b.waiting.chunks) (Err e)
      go (inl q) = nothing (ap log_of q) (ap (λ (z : SessionTold). z.repeated) q)
      go (inr (inl w)) = nothing w.log (ap (λ (z : SessionTold). z.repeated) w.same)
      go (inr (inr p)) = put-cut (Err e) p

  -- ---- a given xorb, which has chunks

  pub puts-registered : (x : Xorb) (answer : Result Bool DataError) → 0 < length x.chunks → Registers b n x now answer → Puts b n (x ∷ []) answer
  puts-registered x (Ok true) low k = go (k.new refl).put
    where
      go : ((x.chunks ≡ []) × (n ≡ b)) ⊎ ((0 < length x.chunks) × WasPut b n x [] now (Ok tt)) → Puts b n (x ∷ []) (Ok true)
      go (inl q) = absurd (omega (arith, low, ap length q.0))
      go (inr p) = puts-one b n (Ok true) x (p.1.log t) (ap (λ (z : SessionTold). z.repeated) p.1.same)
  puts-registered x (Ok false) low k =
      let is = (k.again refl).1 in
      puts-again b n (Ok false) x (ap log_of is) (ap (λ (z : SessionTold). z.repeated) is)
  puts-registered x (Err e) low k = go k.err
    where
      nothing : log_of n ≡ log_of b → n.repeated ≡ b.repeated → Puts {A = Bool} b n (x ∷ []) (Err e)
      nothing log same = puts-nothing b n (Err e) (x ∷ []) tt log same

      go : RegisterStopped b n x now e → Puts {A = Bool} b n (x ∷ []) (Err e)
      go (inl q) = nothing (ap log_of q) (ap (λ (z : SessionTold). z.repeated) q)
      go (inr (inl w)) = nothing w.log (ap (λ (z : SessionTold). z.repeated) w.same)
      go (inr (inr p)) = puts-one b n (Err e) x (p.log t) (ap (λ (z : SessionTold). z.repeated) p.same)

-- ---- the end of a file

module _ (b n : SessionTold) (w : Waiting) (now : ℕ) (answer : Result (Unit {0}) DataError) (t : Tells b) where
  abbrev PutsAtEnd : Type 0
  PutsAtEnd = (made : List Xorb) × MadeAtEnd b w made × Puts b n made answer

  joined : Joins b n w answer → PutsAtEnd
  joined j = (
    [],
    record { joins = λ f. refl; cuts_file = λ p. absurd (p j.fits); cuts_waiting = λ p. absurd (p j.fits) },
    puts-none b n answer (log answer j.ok j.err) (told answer j.ok j.err),
  )
    where
      log : (a : Result (Unit {0}) DataError) → OnOk a (n ≡ with_waiting b (merged b.waiting w)) → OnErr a (n ≡ b) → log_of n ≡ log_of b
      log (Ok u) o e = ap log_of o
      log (Err d) o e = ap log_of e

      told : (a : Result (Unit {0}) DataError) → OnOk a (n ≡ with_waiting b (merged b.waiting w)) → OnErr a (n ≡ b) → n.repeated ≡ b.repeated
      told (Ok u) o e = ap (λ (z : SessionTold). z.repeated) o
      told (Err d) o e = ap (λ (z : SessionTold). z.repeated) e

  cut-file : CutsFile b n w now answer → PutsAtEnd
  cut-file c = (
    made_of w.chunks,
    record { joins = λ f. absurd (c.passes f); cuts_file = λ p l. refl; cuts_waiting = λ p l. absurd (omega (arith, l, c.larger)) },
    puts-moved b (with_waiting b w) c.middle n (made_of w.chunks) answer refl refl (ap log_of c.same) (ap (λ (z : SessionTold). z.repeated) c.same)
        (puts-cut (with_waiting b w) c.middle now (record { puts = t.puts; shards = t.shards }) answer c.cut),
  )

  cut-waiting : CutsWaiting b n w now answer → PutsAtEnd
  cut-waiting c = (
    made_of b.waiting.chunks,
    record { joins = λ f. absurd (c.passes f); cuts_file = λ p l. absurd (omega (arith, l, c.larger)); cuts_waiting = λ p l. refl },
    puts-moved b b c.middle n (made_of b.waiting.chunks) answer refl refl (log answer c.ok c.err) (told answer c.ok c.err) (puts-cut b c.middle now t answer c.cut),
  )
    where
      log : (a : Result (Unit {0}) DataError) → OnOk a (n ≡ with_waiting c.middle w) → OnErr a (n ≡ c.middle) → log_of n ≡ log_of c.middle
      log (Ok u) o e = ap log_of o
      log (Err d) o e = ap log_of e

      told : (a : Result (Unit {0}) DataError) → OnOk a (n ≡ with_waiting c.middle w) → OnErr a (n ≡ c.middle) → n.repeated ≡ c.middle.repeated
      told (Ok u) o e = ap (λ (z : SessionTold). z.repeated) o
      told (Err d) o e = ap (λ (z : SessionTold). z.repeated) e

  -- the end of a file puts the xorb of the larger side, where both don't stay one
  pub puts-taken : TakesFile b n w now answer → PutsAtEnd
  puts-taken k = go k.exits
    where
      go : Joins b n w answer ⊎ CutsFile b n w now answer ⊎ CutsWaiting b n w now answer → PutsAtEnd
      go (inl j) = joined j
      go (inr (inl c)) = cut-file c
      go (inr (inr c)) = cut-waiting c
