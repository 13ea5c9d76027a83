-- What calls put of a file's chunks, and what they say of a put that failed.
use Rattle.std.proofs.Common.{◌≡◌, ℕ, ◌<◌, ◌≤◌, ◌⊎◌, inl, inr, Bool, true, false, List, [], ◌∷◌, ◌++◌, length, map, refl, sym, ◌∙◌, ap, subst, arith}
use Rattle.std.specs.Prelude.{All, Option, None, is_some, Result, Ok, Err, OnOk}
use Rattle.std.specs.List.{concat, sum_by}
use Rattle.std.proofs.lemmas.Bool.{false≢true}
use Rattle.std.proofs.lemmas.List.{append-nil, append_assoc, map-append}
use Rattle.std.proofs.lemmas.List.Elements.{All-append, All-cons, All-nil}
use Rattle.std.proofs.lemmas.List.Sums.{sum_by-append}
use Rattle.xet_base.specs.declared.mdb_shard.Xorb.{Xorb}
use Rattle.xet_outside.specs.declared.client.ClientError.{ClientError}
use Rattle.xet_uploader.specs.declared.uploader.Put.{Put}
use Rattle.xet_uploader.specs.declared.uploader.Put.TheVariants as put
use Rattle.xet_upload.specs.DataErrors.{of_client_error}
use Rattle.xet_upload.specs.Waitings.{IsWithin, Waiting, no_waiting, xorb_of_chunks}
use Rattle.xet_upload.specs.declared.data_error.DataError.{DataError}
use Rattle.xet_upload_parts.specs.Storable.{IsStorable}
use Rattle.xet_upload_session.specs.Calls.{Cut, CutPut, CutRepeated, CutStill, CutStopped, Keeps, RegisterStopped, Registers, Says, WasPut}
use Rattle.xet_upload_session.specs.Puts.{made_of}
use Rattle.xet_upload_session.specs.Sessions.{SessionTold, Tells, log_of}
use Rattle.xet_clean_parts.specs.Made.{GrewInTurn, IsLast, IsMadeOf, IsPickedFrom, PutsInTurn, PutsLast, PutsMade, PutsNone, PutsSo, PutsSome, PutsToEnd, joined_chunks}
use Rattle.xet_clean_parts.proofs.Picked.{bytes-later, made-wider, picked-all, picked-behind, picked-first, picked-front, picked-later, picked-none, picked-within}
use Rattle.xet_clean_parts.proofs.Turns.{joined-weight, left-weight, picked-weight, turn-none, turn-one, turn-then, turn-weight, turns-all, turns-both, turns-weight}

-- ---- one xorb

-- it was put, or it is told as repeated
abbrev GrewWith : SessionTold → SessionTold → Xorb → Type 0
GrewWith b n x = ((log_of n ≡ log_of b ++ put.Xorb x ∷ []) × (n.repeated ≡ b.repeated))
    ⊎ ((log_of n ≡ log_of b) × (n.repeated ≡ b.repeated ++ x ∷ []))

-- the log and what is told as repeated are as they were
abbrev IsQuiet : SessionTold → SessionTold → Type 0
IsQuiet b n = (log_of n ≡ log_of b) × (n.repeated ≡ b.repeated)

-- a xorb of all these chunks
is-made : (chunks : List (List ℕ)) → 0 < length chunks → IsStorable chunks → IsMadeOf chunks (xorb_of_chunks chunks)
is-made chunks some storable =
    record { honest = refl; picked = picked-all chunks; some = some; storable = storable }

quiet-same : (b n : SessionTold) → n ≡ b → IsQuiet b n
quiet-same b n e = (ap log_of e, ap (λ (z : SessionTold). z.repeated) e)

was-put : (b n : SessionTold) (x : Xorb) (now : ℕ) (answer : Result (Unit {0}) DataError) → Tells b
    → WasPut b n x [] now answer → GrewWith b n x
was-put b n x now answer tells w = inl (w.log tells, ap (λ (z : SessionTold). z.repeated) w.same)

-- ---- xorbs that are put

-- nothing was put
pub made-still : (b n : SessionTold) (chunks left : List (List ℕ)) → IsPickedFrom left chunks
    → log_of n ≡ log_of b → n.repeated ≡ b.repeated → PutsMade b n chunks left
made-still b n chunks left p log same = record {
  xorbs = [];
  grown = log ∙ sym (append-nil (log_of b));
  again = [];
  repeated = same ∙ sym (append-nil b.repeated);
  put_made = All-nil (IsMadeOf chunks);
  again_made = All-nil (IsMadeOf chunks);
  once = λ weight. picked-weight weight left chunks p;
}

-- a xorb of all chunks was, or is told as repeated
made-one : (b n : SessionTold) (chunks : List (List ℕ)) → 0 < length chunks → IsStorable chunks
    → GrewWith b n (xorb_of_chunks chunks) → PutsMade b n chunks []
made-one b n chunks some storable g = go g
  where
    made : All (IsMadeOf chunks) (xorb_of_chunks chunks ∷ [])
    made = All-cons (IsMadeOf chunks) (xorb_of_chunks chunks) [] (is-made chunks some storable)
        (All-nil (IsMadeOf chunks))

    once : (weight : List ℕ → ℕ) → sum_by weight ((chunks ++ []) ++ []) ≤ sum_by weight chunks
    once weight =
        let same = ap (λ (cs : List (List ℕ)). sum_by weight cs) (append-nil (chunks ++ []) ∙ append-nil chunks) in
        omega (arith, same)

    go : GrewWith b n (xorb_of_chunks chunks) → PutsMade b n chunks []
    go (inl e) = record {
      xorbs = xorb_of_chunks chunks ∷ [];
      grown = e.0;
      again = [];
      repeated = e.1 ∙ sym (append-nil b.repeated);
      put_made = made;
      again_made = All-nil (IsMadeOf chunks);
      once = once;
    }
    go (inr e) = record {
      xorbs = [];
      grown = e.0 ∙ sym (append-nil (log_of b));
      again = xorb_of_chunks chunks ∷ [];
      repeated = e.1;
      put_made = All-nil (IsMadeOf chunks);
      again_made = made;
      once = once;
    }

-- what a cut makes of what waits
pub made-cut : (b n : SessionTold) (now : ℕ) (answer : Result (Unit {0}) DataError) → Cut b n now answer → Tells b
    → PutsMade b n b.waiting.chunks n.waiting.chunks
made-cut b n now answer c tells = go answer c
  where
    told : (z : SessionTold) → n ≡ z → z.waiting.chunks ≡ [] → PutsMade b n b.waiting.chunks []
        → PutsMade b n b.waiting.chunks n.waiting.chunks
    told z e none p = subst (λ (cs : List (List ℕ)). PutsMade b n b.waiting.chunks cs)
        (sym (ap (λ (t : SessionTold). t.waiting.chunks) e ∙ none)) p

    one : 0 < length b.waiting.chunks → GrewWith b n (xorb_of_chunks b.waiting.chunks)
        → PutsMade b n b.waiting.chunks []
    one some g = made-one b n b.waiting.chunks some c.storable g

    by-put : (a : Result (Unit {0}) DataError) → CutPut b n now a → PutsMade b n b.waiting.chunks n.waiting.chunks
    by-put a p = told _ p.put.same refl (one p.some (inl (
      p.put.log (record { puts = tells.puts; shards = tells.shards }),
      ap (λ (t : SessionTold). t.repeated) p.put.same,
    )))

    still : CutStill b n → PutsMade b n b.waiting.chunks n.waiting.chunks
    still s = told _ s.same refl (reasons s.reason)
      where
        reasons : ((b.waiting.chunks ≡ []) × (n.repeated ≡ b.repeated)) ⊎ CutRepeated b n
            → PutsMade b n b.waiting.chunks []
        reasons (inl e) = made-still b n b.waiting.chunks [] (picked-none b.waiting.chunks) (ap log_of s.same) e.1
        reasons (inr e) = one e.some (inr (ap log_of s.same, e.told))

    go : (a : Result (Unit {0}) DataError) → Cut b n now a → PutsMade b n b.waiting.chunks n.waiting.chunks
    go (Ok u) k = ends k.ok
      where
        ends : CutStill b n ⊎ CutPut b n now (Ok u) → PutsMade b n b.waiting.chunks n.waiting.chunks
        ends (inl s) = still s
        ends (inr p) = by-put (Ok u) p
    go (Err e) k = stops k.err
      where
        stops : CutStopped b n now (Err e) → PutsMade b n b.waiting.chunks n.waiting.chunks
        stops (inl s) = subst (λ (cs : List (List ℕ)). PutsMade b n b.waiting.chunks cs)
            (sym (ap (λ (t : SessionTold). t.waiting.chunks) s))
            (made-still b n b.waiting.chunks b.waiting.chunks (picked-all b.waiting.chunks) (ap log_of s)
            (ap (λ (t : SessionTold). t.repeated) s))
        stops (inr (inl r)) = told _ r.same refl (made-still b n b.waiting.chunks [] (picked-none b.waiting.chunks)
            r.log (ap (λ (t : SessionTold). t.repeated) r.same))
        stops (inr (inr p)) = by-put (Err e) p

-- of more chunks
pub made-more : (b n : SessionTold) (cs ds left : List (List ℕ)) → IsPickedFrom cs ds → PutsMade b n cs left
    → PutsMade b n ds left
made-more b n cs ds left p m = record {
  xorbs = m.xorbs;
  grown = m.grown;
  again = m.again;
  repeated = m.repeated;
  put_made = made-wider cs ds m.xorbs p m.put_made;
  again_made = made-wider cs ds m.again p m.again_made;
  once = λ weight.
      let once = m.once weight in
      let more = picked-weight weight cs ds p in
      omega (arith, once, more);
}

-- where some of what is left is lost
pub made-less : (b n : SessionTold) (chunks left less : List (List ℕ)) → IsPickedFrom less left
    → PutsMade b n chunks left → PutsMade b n chunks less
made-less b n chunks left less p m = record {
  xorbs = m.xorbs;
  grown = m.grown;
  again = m.again;
  repeated = m.repeated;
  put_made = m.put_made;
  again_made = m.again_made;
  once = λ weight.
      let once = m.once weight in
      let before = left-weight weight m.xorbs m.again left in
      let after = left-weight weight m.xorbs m.again less in
      let fewer = picked-weight weight less left p in
      omega (arith, once, before, after, fewer);
}

-- more chunks are left behind, or before
pub made-behind : (b n : SessionTold) (chunks left more : List (List ℕ)) → PutsMade b n chunks left
    → PutsMade b n (chunks ++ more) (left ++ more)
made-behind b n chunks left more m = record {
  xorbs = m.xorbs;
  grown = m.grown;
  again = m.again;
  repeated = m.repeated;
  put_made = made-wider chunks (chunks ++ more) m.xorbs wider m.put_made;
  again_made = made-wider chunks (chunks ++ more) m.again wider m.again_made;
  once = λ weight.
      let once = m.once weight in
      let before = left-weight weight m.xorbs m.again left in
      let after = left-weight weight m.xorbs m.again (left ++ more) in
      let one = sum_by-append weight left more in
      let all = sum_by-append weight chunks more in
      omega (arith, once, before, after, one, all);
}
  where
    wider : IsPickedFrom chunks (chunks ++ more)
    wider = picked-front chunks chunks more (picked-all chunks)

pub made-before : (b n : SessionTold) (front chunks left : List (List ℕ)) → PutsMade b n chunks left
    → PutsMade b n (front ++ chunks) (front ++ left)
made-before b n front chunks left m = record {
  xorbs = m.xorbs;
  grown = m.grown;
  again = m.again;
  repeated = m.repeated;
  put_made = made-wider chunks (front ++ chunks) m.xorbs wider m.put_made;
  again_made = made-wider chunks (front ++ chunks) m.again wider m.again_made;
  once = λ weight.
      let once = m.once weight in
      let before = left-weight weight m.xorbs m.again left in
      let after = left-weight weight m.xorbs m.again (front ++ left) in
      let one = sum_by-append weight front left in
      let all = sum_by-append weight front chunks in
      omega (arith, once, before, after, one, all);
}
  where
    wider : IsPickedFrom chunks (front ++ chunks)
    wider = picked-behind front chunks chunks (picked-all chunks)

-- by two calls
pub made-then : (b m n : SessionTold) (chunks mid left : List (List ℕ)) → IsPickedFrom mid chunks
    → PutsMade b m chunks mid → PutsMade m n mid left → PutsMade b n chunks left
made-then b m n chunks mid left p one two = record {
  xorbs = one.xorbs ++ two.xorbs;
  grown = two.grown ∙ ap (λ (ps : List Put). ps ++ map put.Xorb two.xorbs) one.grown
      ∙ append_assoc (log_of b) (map put.Xorb one.xorbs) (map put.Xorb two.xorbs)
      ∙ ap (λ (ps : List Put). log_of b ++ ps) (sym (map-append put.Xorb one.xorbs two.xorbs));
  again = one.again ++ two.again;
  repeated = two.repeated ∙ ap (λ (xs : List Xorb). xs ++ two.again) one.repeated
      ∙ append_assoc b.repeated one.again two.again;
  put_made = All-append (IsMadeOf chunks) one.xorbs two.xorbs one.put_made
      (made-wider mid chunks two.xorbs p two.put_made);
  again_made = All-append (IsMadeOf chunks) one.again two.again one.again_made
      (made-wider mid chunks two.again p two.again_made);
  once = λ weight.
      let first = one.once weight in
      let second = two.once weight in
      let before = left-weight weight one.xorbs one.again mid in
      let after = left-weight weight two.xorbs two.again left in
      let all = left-weight weight (one.xorbs ++ two.xorbs) (one.again ++ two.again) left in
      let xorbs = joined-weight weight one.xorbs two.xorbs in
      let again = joined-weight weight one.again two.again in
      omega (arith, first, second, before, after, all, xorbs, again);
}

-- by two calls, of which the second has some chunks more
pub made-both : (b m n : SessionTold) (own mid cut cuts left : List (List ℕ)) → IsPickedFrom mid (own ++ cut)
    → PutsMade b m (own ++ cut) mid → PutsMade m n (mid ++ cuts) left → PutsMade b n (own ++ (cut ++ cuts)) left
made-both b m n own mid cut cuts left p one two =
    subst (λ (cs : List (List ℕ)). PutsMade b n cs left) (append_assoc own cut cuts)
    (made-then b m n ((own ++ cut) ++ cuts) (mid ++ cuts) left (picked-first mid (own ++ cut) cuts p)
    (made-behind b m (own ++ cut) mid cuts one) two)

-- where the session's words are told of other moments
pub made-moved : (b c m n : SessionTold) (chunks left : List (List ℕ)) → log_of c ≡ log_of b
    → c.repeated ≡ b.repeated → log_of n ≡ log_of m → n.repeated ≡ m.repeated → PutsMade c m chunks left
    → PutsMade b n chunks left
made-moved b c m n chunks left before same after told p = record {
  xorbs = p.xorbs;
  grown = after ∙ p.grown ∙ ap (λ (ps : List Put). ps ++ map put.Xorb p.xorbs) before;
  again = p.again;
  repeated = told ∙ p.repeated ∙ ap (λ (xs : List Xorb). xs ++ p.again) same;
  put_made = p.put_made;
  again_made = p.again_made;
  once = p.once;
}

-- no xorb by two calls
pub none-both : (b m n : SessionTold) → Keeps b m → PutsNone b m → PutsNone m n → PutsNone b n
none-both b m n keeps one two t =
    let first = one t in
    let second = two (keeps.tells t) in
    (second.0 ∙ first.0, second.1 ∙ first.1)

pub none-same : (b n : SessionTold) → n ≡ b → PutsNone b n
none-same b n e t = (ap log_of e, ap (λ (z : SessionTold). z.repeated) e)

-- ---- xorbs that are put in turn

-- none were
pub grew-none : (b n : SessionTold) → IsQuiet b n → GrewInTurn b n []
grew-none b n quiet = record {
  xorbs = [];
  grown = quiet.0 ∙ sym (append-nil (log_of b));
  again = [];
  repeated = quiet.1 ∙ sym (append-nil b.repeated);
  turns = (refl, refl);
}

-- one was, or is told as repeated
grew-one : (b n : SessionTold) (x : Xorb) → GrewWith b n x → GrewInTurn b n (x ∷ [])
grew-one b n x (inl e) = record {
  xorbs = x ∷ [];
  grown = e.0;
  again = [];
  repeated = e.1 ∙ sym (append-nil b.repeated);
  turns = inl ([], refl, (refl, refl));
}
grew-one b n x (inr e) = record {
  xorbs = [];
  grown = e.0 ∙ sym (append-nil (log_of b));
  again = x ∷ [];
  repeated = e.1;
  turns = inr ([], refl, (refl, refl));
}

-- by two calls
pub grew-both : (b m n : SessionTold) (ms ns : List Xorb) → GrewInTurn b m ms → GrewInTurn m n ns
    → GrewInTurn b n (ms ++ ns)
grew-both b m n ms ns one two = record {
  xorbs = one.xorbs ++ two.xorbs;
  grown = two.grown ∙ ap (λ (ps : List Put). ps ++ map put.Xorb two.xorbs) one.grown
      ∙ append_assoc (log_of b) (map put.Xorb one.xorbs) (map put.Xorb two.xorbs)
      ∙ ap (λ (ps : List Put). log_of b ++ ps) (sym (map-append put.Xorb one.xorbs two.xorbs));
  again = one.again ++ two.again;
  repeated = two.repeated ∙ ap (λ (xs : List Xorb). xs ++ two.again) one.repeated
      ∙ append_assoc b.repeated one.again two.again;
  turns = turns-both one.xorbs one.again ms two.xorbs two.again ns one.turns two.turns;
}

-- where the session's words are told of other moments
pub grew-moved : (b c m n : SessionTold) (ms : List Xorb) → log_of c ≡ log_of b → c.repeated ≡ b.repeated
    → log_of n ≡ log_of m → n.repeated ≡ m.repeated → GrewInTurn c m ms → GrewInTurn b n ms
grew-moved b c m n ms before same after told g = record {
  xorbs = g.xorbs;
  grown = after ∙ g.grown ∙ ap (λ (ps : List Put). ps ++ map put.Xorb g.xorbs) before;
  again = g.again;
  repeated = told ∙ g.repeated ∙ ap (λ (xs : List Xorb). xs ++ g.again) same;
  turns = g.turns;
}

-- what a cut makes
pub grew-cut : (b n : SessionTold) (now : ℕ) (u : Unit {0}) → Cut b n now (Ok u) → Tells b
    → GrewInTurn b n (made_of b.waiting.chunks)
grew-cut b n now u c tells = go c.ok
  where
    some-of : (cs : List (List ℕ)) → 0 < length cs → xorb_of_chunks cs ∷ [] ≡ made_of cs
    some-of [] some = absurd (omega (arith, some))
    some-of (c ∷ cs) some = refl

    one : 0 < length b.waiting.chunks → GrewWith b n (xorb_of_chunks b.waiting.chunks)
        → GrewInTurn b n (made_of b.waiting.chunks)
    one some g = subst (GrewInTurn b n) (some-of b.waiting.chunks some)
        (grew-one b n (xorb_of_chunks b.waiting.chunks) g)

    reasons : CutStill b n → ((b.waiting.chunks ≡ []) × (n.repeated ≡ b.repeated)) ⊎ CutRepeated b n
        → GrewInTurn b n (made_of b.waiting.chunks)
    reasons s (inl e) = subst (λ (cs : List (List ℕ)). GrewInTurn b n (made_of cs)) (sym e.0)
        (grew-none b n (ap log_of s.same, e.1))
    reasons s (inr e) = one e.some (inr (ap log_of s.same, e.told))

    go : CutStill b n ⊎ CutPut b n now (Ok u) → GrewInTurn b n (made_of b.waiting.chunks)
    go (inl s) = reasons s s.reason
    go (inr p) = one p.some (inl (
      p.put.log (record { puts = tells.puts; shards = tells.shards }),
      ap (λ (t : SessionTold). t.repeated) p.put.same,
    ))

-- no xorb is made of a file's chunks
turn-still : (b n : SessionTold) (own cut left more : List (List ℕ)) → IsPickedFrom more cut → left ≡ own ++ more
    → IsQuiet b n → PutsInTurn b n own cut left
turn-still b n own cut left more p e quiet =
    record { made = []; grew = grew-none b n quiet; so = turn-none own cut left more p e }

-- the file's own chunks became a xorb, since the next chunk doesn't fit
turn-cut : (b n : SessionTold) (own : List (List ℕ)) (next : List ℕ) → 0 < length own → IsStorable own
    → (IsWithin (own ++ next ∷ []) → ⊥) → GrewWith b n (xorb_of_chunks own) → PutsInTurn b n own (next ∷ []) (next ∷ [])
turn-cut b n own next some storable unfit g = record {
  made = xorb_of_chunks own ∷ [];
  grew = grew-one b n (xorb_of_chunks own) g;
  so = turn-one own (next ∷ []) (next ∷ []) (xorb_of_chunks own) refl (is-made own some storable)
      (picked-all (next ∷ [])) unfit;
}

-- in two calls
pub turn-both : (b m n : SessionTold) (own mid left cut cuts : List (List ℕ)) → PutsInTurn b m own cut mid
    → PutsInTurn m n mid cuts left → PutsInTurn b n own (cut ++ cuts) left
turn-both b m n own mid left cut cuts one two = record {
  made = one.made ++ two.made;
  grew = grew-both b m n one.made two.made one.grew two.grew;
  so = turn-then own mid left cut cuts one.made two.made one.so two.so;
}

-- where the session's words were told before
turn-moved : (b m n : SessionTold) (own cut left : List (List ℕ)) → IsQuiet b m → PutsInTurn m n own cut left
    → PutsInTurn b n own cut left
turn-moved b m n own cut left quiet p =
    record { made = p.made; grew = grew-moved b m n n p.made quiet.0 quiet.1 refl refl p.grew; so = p.so }

-- what is put in turn is made of the file's own chunks and of the cut ones, each once
pub turn-made : (b n : SessionTold) (own cut left : List (List ℕ)) → PutsInTurn b n own cut left
    → PutsMade b n (own ++ cut) left
turn-made b n own cut left p =
    let g = p.grew in
    let both = turns-all (IsMadeOf (own ++ cut)) g.xorbs g.again p.made g.turns p.so.are in
    record {
      xorbs = g.xorbs;
      grown = g.grown;
      again = g.again;
      repeated = g.repeated;
      put_made = both.0;
      again_made = both.1;
      once = λ weight.
          let all = left-weight weight g.xorbs g.again left in
          let turns = turns-weight weight g.xorbs g.again p.made g.turns in
          let made = sum_by-append weight (joined_chunks p.made) left in
          let once = turn-weight own cut left p.made p.so weight in
          omega (arith, all, turns, made, once);
    }

-- ---- the end of a file

-- the session's words were told of other moments
pub last-moved : (b m n : SessionTold) (own : List (List ℕ)) → log_of n ≡ log_of m → n.repeated ≡ m.repeated
    → n.waiting ≡ m.waiting → PutsLast b m own → PutsLast b n own
last-moved b m n own log same waiting p = record {
  last = p.last;
  grew = grew-moved b b m n p.last refl refl log same p.grew;
  is_last = subst (λ (w : Waiting). IsLast b.waiting.chunks own p.last w.chunks) (sym waiting) p.is_last;
}

-- chunks were cut, and then the data was taken
pub end-after : (b m n : SessionTold) (own cut left : List (List ℕ)) → m.waiting ≡ b.waiting
    → PutsInTurn b m own cut left → PutsLast m n left → PutsToEnd b n own cut
end-after b m n own cut left same one two = record {
  made = one.made;
  left = left;
  so = one.so;
  last = two.last;
  grew = grew-both b m n one.made two.last one.grew two.grew;
  is_last = subst (λ (w : Waiting). IsLast w.chunks left two.last n.waiting.chunks) same two.is_last;
}

-- more chunks were cut before
pub end-behind : (b m n : SessionTold) (own mid cut cuts : List (List ℕ)) → m.waiting ≡ b.waiting
    → PutsInTurn b m own cut mid → PutsToEnd m n mid cuts → PutsToEnd b n own (cut ++ cuts)
end-behind b m n own mid cut cuts same one two = record {
  made = one.made ++ two.made;
  left = two.left;
  so = turn-then own mid two.left cut cuts one.made two.made one.so two.so;
  last = two.last;
  grew = subst (GrewInTurn b n) (sym (append_assoc one.made two.made two.last))
      (grew-both b m n one.made (two.made ++ two.last) one.grew two.grew);
  is_last = subst (λ (w : Waiting). IsLast w.chunks two.left two.last n.waiting.chunks) same two.is_last;
}

-- ---- a put that failed

-- no put failed
pub says-none : {A : Type 0} (b n : SessionTold) (answer : Result A DataError) → n.failed ≡ b.failed
    → b.failed ≡ None → Says n answer
says-none b n answer same none e failed =
    absurd (false≢true (ap (λ (o : Option ClientError). is_some o) (sym (same ∙ none) ∙ failed)))

-- the same error as another answer
error-of : {A : Type 0} (e d : DataError) (x y : Result A DataError) → x ≡ Err e → y ≡ Err d → x ≡ y → e ≡ d
error-of e d x y g h q = cc

pub says-err : {A B : Type 0} (n : SessionTold) (e : DataError) → Says {A = A} n (Err e) → Says {A = B} n (Err e)
says-err {A = A} {B = B} n e s f failed =
    let one : Result A DataError = Err e in
    let two : Result A DataError = Err (of_client_error f) in
    ap (λ (d : DataError). Err d) (error-of e (of_client_error f) one two refl refl (s f failed))

-- ---- both

-- what holds of any answer holds of Ok
pub on-any : {A : Type 0} {P : Type 0} (answer : Result A DataError) → P → OnOk answer P
on-any (Ok r) p = p
on-any (Err e) p = tt

-- the log stays, and no put failed
pub so-quiet : {A : Type 0} (b n : SessionTold) (own cut after : List (List ℕ)) (answer : Result A DataError)
    → log_of n ≡ log_of b → n.repeated ≡ b.repeated → n.failed ≡ b.failed → OnOk answer (own ≡ after)
    → PutsSo b n own cut after answer
so-quiet b n own cut after answer log same failed is = record {
  left = own;
  left_are = is;
  puts = λ t. turn-still b n own cut own [] (picked-none cut) (sym (append-nil own)) (log, same);
  full = λ w t. (log, same);
  said = λ none. says-none b n answer failed none;
}

pub so-still : {A : Type 0} (b n : SessionTold) (own : List (List ℕ)) (answer : Result A DataError) → n ≡ b
    → PutsSo b n own [] own answer
so-still b n own answer e = so-quiet b n own [] own answer (ap log_of e) (ap (λ (z : SessionTold). z.repeated) e)
    (ap (λ (z : SessionTold). z.failed) e) (on-any answer refl)

-- the next chunk may wait beside the own ones
pub so-next : {A : Type 0} (b n : SessionTold) (own : List (List ℕ)) (next : List ℕ) (answer : Result A DataError)
    → n ≡ b → PutsSo b n own (next ∷ []) (own ++ next ∷ []) answer
so-next b n own next answer e = record {
  left = own ++ next ∷ [];
  left_are = on-any answer refl;
  puts = λ t. turn-still b n own (next ∷ []) (own ++ next ∷ []) (next ∷ []) (picked-all (next ∷ [])) refl
      (quiet-same b n e);
  full = λ w. none-same b n e;
  said = λ none. says-none b n answer (ap (λ (z : SessionTold). z.failed) e) none;
}

-- there are no own chunks
pub so-empty : {A : Type 0} (b n : SessionTold) (own : List (List ℕ)) (next : List ℕ) (answer : Result A DataError)
    → own ≡ [] → n ≡ b → PutsSo b n own (next ∷ []) (next ∷ []) answer
so-empty b n own next answer none e =
    let P : List (List ℕ) → Type 0 = λ cs. PutsSo b n own (next ∷ []) (cs ++ next ∷ []) answer in
    subst P none (so-next b n own next answer e)

-- the file's own chunks were given as a xorb, since the next doesn't fit beside them
module _ (b n : SessionTold) (own : List (List ℕ)) (next : List ℕ) (now : ℕ) (some : 0 < length own)
    (storable : IsStorable own) (unfit : IsWithin (own ++ next ∷ []) → ⊥) where
  cut-so : {A : Type 0} (after : List (List ℕ)) (answer : Result A DataError) → OnOk answer (next ∷ [] ≡ after)
      → (Tells b → GrewWith b n (xorb_of_chunks own)) → (b.failed ≡ None → Says n answer)
      → PutsSo b n own (next ∷ []) after answer
  cut-so after answer is grew said = record {
    left = next ∷ [];
    left_are = is;
    puts = λ t. turn-cut b n own next some storable unfit (grew t);
    full = λ w. absurd (unfit w);
    said = said;
  }

  never-empty : {P : Type 0} → own ≡ [] → P
  never-empty e = let none = ap (λ (cs : List (List ℕ)). length cs) e in absurd (omega (arith, some, none))

  registered : (answer : Result Bool DataError) → Registers b n (xorb_of_chunks own) now answer
      → PutsSo b n own (next ∷ []) (next ∷ []) answer
  registered (Ok false) r = cut-so (next ∷ []) (Ok false) refl
      (λ t. let e = (r.again refl).1 in inr (ap log_of e, ap (λ (z : SessionTold). z.repeated) e)) r.said
  registered (Ok true) r = go (r.new refl).put
    where
      go : ((own ≡ []) × (n ≡ b)) ⊎ ((0 < length own) × WasPut b n (xorb_of_chunks own) [] now (Ok tt))
          → PutsSo b n own (next ∷ []) (next ∷ []) (Ok true)
      go (inl e) = never-empty e.0
      go (inr w) = cut-so (next ∷ []) (Ok true) refl
          (λ t. was-put b n (xorb_of_chunks own) now (Ok tt) t w.1) r.said
  registered (Err e) r = go r.err
    where
      quiet : IsQuiet b n → PutsSo {A = Bool} b n own (next ∷ []) (next ∷ []) (Err e)
      quiet q = record {
        left = own;
        left_are = tt;
        puts = λ t. turn-still b n own (next ∷ []) own [] (picked-none (next ∷ [])) (sym (append-nil own)) q;
        full = λ w. absurd (unfit w);
        said = r.said;
      }

      go : RegisterStopped b n (xorb_of_chunks own) now e → PutsSo {A = Bool} b n own (next ∷ []) (next ∷ []) (Err e)
      go (inl s) = quiet (quiet-same b n s)
      go (inr (inl q)) = quiet (q.log, ap (λ (z : SessionTold). z.repeated) q.same)
      go (inr (inr w)) = cut-so (next ∷ []) (Err e) tt
          (λ t. was-put b n (xorb_of_chunks own) now (Err e) t w) r.said

  pub so-registered : (x : Xorb) (answer : Result Bool DataError) → x ≡ xorb_of_chunks own
      → Registers b n x now answer → PutsSo b n own (next ∷ []) (next ∷ []) answer
  so-registered x answer is r =
      registered answer (subst (λ (z : Xorb). Registers b n z now answer) is r)

-- a later answer, where no put failed
pub so-any : {A B : Type 0} (b n : SessionTold) (own cut after later : List (List ℕ)) (a : A)
    (answer : Result B DataError) → n.failed ≡ b.failed → after ≡ later → PutsSo b n own cut after (Ok a)
    → PutsSo b n own cut later answer
so-any b n own cut after later a answer failed is s = record {
  left = s.left;
  left_are = on-any answer (s.left_are ∙ is);
  puts = s.puts;
  full = s.full;
  said = λ none. says-none b n answer failed none;
}

-- the same error
pub so-err : {A B : Type 0} (b n : SessionTold) (own cut after later : List (List ℕ)) (e : DataError)
    → PutsSo {A = A} b n own cut after (Err e) → PutsSo {A = B} b n own cut later (Err e)
so-err b n own cut after later e s = record {
  left = s.left;
  left_are = tt;
  puts = s.puts;
  full = s.full;
  said = λ none. says-err n e (s.said none);
}

-- of another answer, where no put failed
pub so-lost : {A B : Type 0} (b n : SessionTold) (own cut after later : List (List ℕ)) (a : A) (e : DataError)
    → n.failed ≡ b.failed → PutsSo b n own cut after (Ok a) → PutsSo {A = B} b n own cut later (Err e)
so-lost b n own cut after later a e failed s = record {
  left = s.left;
  left_are = tt;
  puts = s.puts;
  full = s.full;
  said = λ none. says-none b n (Err e) failed none;
}

-- no own chunk is left before the next
pub so-emptied : {A : Type 0} (b n : SessionTold) (own : List (List ℕ)) (next : List ℕ) (w : Waiting)
    (answer : Result A DataError) → OnOk answer (w ≡ no_waiting) → PutsSo b n own (next ∷ []) (next ∷ []) answer
    → PutsSo b n own (next ∷ []) (w.chunks ++ next ∷ []) answer
so-emptied b n own next w (Ok a) is s =
    subst (λ (v : Waiting). PutsSo b n own (next ∷ []) (v.chunks ++ next ∷ []) (Ok a)) (sym is) s
so-emptied b n own next w (Err e) is s = so-err b n own (next ∷ []) (next ∷ []) (w.chunks ++ next ∷ []) e s

-- what is left after an Ok
pub so-turn : {A : Type 0} (b n : SessionTold) (own cut after : List (List ℕ)) (a : A)
    → PutsSo b n own cut after (Ok a) → Tells b → PutsInTurn b n own cut after
so-turn b n own cut after a s t = subst (λ (cs : List (List ℕ)). PutsInTurn b n own cut cs) s.left_are (s.puts t)

-- a call behind one that leaves the log
pub so-behind : {A : Type 0} (b m n : SessionTold) (own cut after : List (List ℕ)) (answer : Result A DataError)
    → Keeps b m → log_of m ≡ log_of b → m.repeated ≡ b.repeated → m.failed ≡ b.failed
    → PutsSo m n own cut after answer → PutsSo b n own cut after answer
so-behind b m n own cut after answer keeps log same failed s = record {
  left = s.left;
  left_are = s.left_are;
  puts = λ t. turn-moved b m n own cut s.left (log, same) (s.puts (keeps.tells t));
  full = λ w t. let none = s.full w (keeps.tells t) in (none.0 ∙ log, none.1 ∙ same);
  said = λ none. s.said (failed ∙ none);
}

-- two calls, by which chunks were cut
pub so-both : {A B : Type 0} (b m n : SessionTold) (own mid after cut cuts : List (List ℕ)) (a : A)
    (answer : Result B DataError) → Keeps b m → m.failed ≡ b.failed → IsPickedFrom mid (own ++ cut)
    → PutsSo b m own cut mid (Ok a) → PutsSo m n mid cuts after answer → PutsSo b n own (cut ++ cuts) after answer
so-both b m n own mid after cut cuts a answer keeps failed p one two = record {
  left = two.left;
  left_are = two.left_are;
  puts = λ t. turn-both b m n own mid two.left cut cuts (so-turn b m own cut mid a one t)
      (two.puts (keeps.tells t));
  full = λ w.
      let all = own ++ (cut ++ cuts) in
      none-both b m n keeps (one.full (picked-within (own ++ cut) all front w))
      (two.full (picked-within (mid ++ cuts) all (picked-later (mid ++ cuts) mid own cut cuts
      (picked-all (mid ++ cuts)) p) w));
  said = λ none. two.said (failed ∙ none);
}
  where
    front : IsPickedFrom (own ++ cut) (own ++ (cut ++ cuts))
    front =
        let P : List (List ℕ) → Type 0 = λ cs. IsPickedFrom (own ++ cut) cs in
        subst P (append_assoc own cut cuts) (picked-front (own ++ cut) (own ++ cut) cuts (picked-all (own ++ cut)))

-- ---- chunks that came off some bytes

-- none did
pub some-still : {A : Type 0} (b n : SessionTold) (own : List (List ℕ)) (bytes : List ℕ) (after : List (List ℕ))
    (answer : Result A DataError) → n ≡ b → OnOk answer (own ≡ after) → PutsSome b n own bytes after answer
some-still b n own bytes after answer e is = record {
  cut = [];
  rest = bytes;
  bytes_are = refl;
  so = so-quiet b n own [] after answer (ap log_of e) (ap (λ (z : SessionTold). z.repeated) e)
      (ap (λ (z : SessionTold). z.failed) e) is;
}

-- one did
pub some-one : {A : Type 0} (b n : SessionTold) (own : List (List ℕ)) (bytes chunk rest : List ℕ)
    (after : List (List ℕ)) (answer : Result A DataError) → bytes ≡ chunk ++ rest
    → PutsSo b n own (chunk ∷ []) after answer → PutsSome b n own bytes after answer
some-one b n own bytes chunk rest after answer e s = record {
  cut = chunk ∷ [];
  rest = rest;
  bytes_are = e ∙ ap (λ (xs : List ℕ). xs ++ rest) (sym (append-nil chunk));
  so = s;
}

-- an answer without a failed put
pub some-any : {A B : Type 0} (b n : SessionTold) (own : List (List ℕ)) (bytes : List ℕ) (after : List (List ℕ))
    (a : A) (answer : Result B DataError) → n.failed ≡ b.failed → PutsSome b n own bytes after (Ok a)
    → PutsSome b n own bytes after answer
some-any b n own bytes after a answer failed s = record {
  cut = s.cut;
  rest = s.rest;
  bytes_are = s.bytes_are;
  so = so-any b n own s.cut after after a answer failed refl s.so;
}

pub some-err : {A B : Type 0} (b n : SessionTold) (own : List (List ℕ)) (bytes : List ℕ)
    (after later : List (List ℕ)) (e : DataError) → PutsSome {A = A} b n own bytes after (Err e)
    → PutsSome {A = B} b n own bytes later (Err e)
some-err b n own bytes after later e s =
    record { cut = s.cut; rest = s.rest; bytes_are = s.bytes_are; so = so-err b n own s.cut after later e s.so }

-- some did before
pub some-behind : {A B : Type 0} (b m n : SessionTold) (own mid after : List (List ℕ)) (bytes left : List ℕ)
    (cut : List (List ℕ)) (a : A) (answer : Result B DataError) → Keeps b m → m.failed ≡ b.failed
    → IsPickedFrom mid (own ++ cut) → bytes ≡ concat cut ++ left → PutsSo b m own cut mid (Ok a)
    → PutsSome m n mid left after answer → PutsSome b n own bytes after answer
some-behind b m n own mid after bytes left cut a answer keeps failed p e one two = record {
  cut = cut ++ two.cut;
  rest = two.rest;
  bytes_are = bytes-later bytes left two.rest cut two.cut e two.bytes_are;
  so = so-both b m n own mid after cut two.cut a answer keeps failed p one two.so;
}
