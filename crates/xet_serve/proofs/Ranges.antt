-- Ranges that are fetched one after another.
use Rattle.std.proofs.Common.{◌≡◌, inl, inr, ℕ, ◌+◌, ◌<◌, ◌&&◌, Bool, true, false, List, [], ◌∷◌, ◌++◌, length, take, get_or, Ok, Err, refl, sym, subst, ◌∙◌, ap, arith}
use Rattle.std.specs.Prelude.{All, None, Option, Some, is_none, is_some}
use Rattle.std.specs.List.{flat_map, list_any}
use Rattle.std.proofs.lemmas.Bool.{and_from, and_right, le-ltb, not_from_false}
use Rattle.std.proofs.lemmas.List.{append-nil, flat_map_more, take_all, take_more}
use Rattle.std.proofs.lemmas.List.Elements.{All-more, All-nil}
use Rattle.std.proofs.lemmas.List.Folds.{list_any_at, list_any_none}
use Rattle.xet_base.specs.declared.cas_types.FileRange.{FileRange}
use Rattle.xet_base.specs.declared.error.OutOfMemory.{OutOfMemory}
use Rattle.xet_base.specs.declared.merklehash.MerkleHash.{MerkleHash}
use Rattle.xet_base.specs.declared.stored.StoredFile.{StoredFile}
use Rattle.xet_base.specs.Store.{Store, file_of}
use Rattle.xet_outside.specs.Told.{ClientTold}
use Rattle.xet_terms.specs.Settings.{failing_setting}
use Rattle.xet_ties.specs.Causes.{refused_setting}
use Rattle.xet_ties.specs.Setup.{CacheTells, EachGoesOn, IsOver, Setup}
use Rattle.xet_serve_lines.specs.Requests.{Asked}
use Rattle.xet_serve.specs.declared.fetch.Fetched.{Fetched}
use Rattle.xet_serve.specs.declared.fetch.Fetched.TheVariants as fetched
use Rattle.xet_serve.specs.Replies.{asks_missing, has_bytes, range_text}
use Rattle.xet_serve.specs.steps.Answering.{RangesCall, RangesDone}
use Rattle.xet_serve.specs.steps.Fetching.{GoesOn, IsGiven, Lent, OverStore, RangeCall, RangeDone}
use Rattle.xet_serve.proofs.Fails.{fails_from}
use Rattle.xet_serve.proofs.Goings.{goes_same, goes_then, over_on, same_length}

-- a setting that fails in none fails in none later
pub settings_stay : (g : Setup) (cs ds : List ClientTold) → EachGoesOn cs ds → refused_setting g cs ≡ None
    → refused_setting g ds ≡ None
settings_stay g cs ds e h =
    ap (λ (m : ℕ). failing_setting m g.tries g.least g.greatest) (same_length cs ds e) ∙ h

-- the first so many ranges were fetched
pub record RangesSoFar (file : MerkleHash) (ranges : List FileRange) (k : ℕ) (b n : Lent) (text now : List ℕ)
    : Type 0 where
  pub goes_on : GoesOn b n
  pub done : OverStore b (λ s. All (IsGiven s file) (take k ranges)
      × (now ≡ text ++ flat_map (range_text s file) (take k ranges)))

pub ranges_start : (file : MerkleHash) (ranges : List FileRange) (b : Lent) (text : List ℕ)
    → RangesSoFar file ranges 0 b b text text
ranges_start file ranges b text = record {
  goes_on = goes_same b;
  done = λ s o h. (All-nil (IsGiven s file), sym (append-nil text));
}

module _ (tries : ℕ) (file : MerkleHash) (ranges : List FileRange) (k : ℕ) (b m n : Lent) (text mid now : List ℕ)
    (h : RangesSoFar file ranges k b m text mid) (inside : k < length ranges) (r : FileRange)
    (is : r ≡ get_or ranges k r) where
  abbrev q : Asked
  q = record { file = file; ranges = ranges }

  -- the connections tell the store of the first moment
  later : (s : Store) → IsOver s b.clients → IsOver s m.clients
  later s o = over_on s b.clients m.clients h.goes_on.clients o

  -- one more
  pub ranges_more : RangeCall tries file r m n mid now (Ok fetched.Whole) → RangesSoFar file ranges (k + 1) b n text now
  ranges_more c = record {
    goes_on = goes_then b m n h.goes_on c.goes_on;
    done = λ s o t.
        let d = c.done s (later s o) (h.goes_on.cache s o t) in
        let e = h.done s o t in
        let given : IsGiven s file (get_or ranges k r) = subst (IsGiven s file) is d.0 in (
          All-more (IsGiven s file) ranges k r inside e.0 given,
          d.1 ∙ ap (λ (x : List ℕ). x ++ range_text s file r) e.1
              ∙ flat_map_more (range_text s file) text (take k ranges) r
              ∙ ap (λ (xs : List FileRange). text ++ flat_map (range_text s file) xs)
              (ap (λ (x : FileRange). take k ranges ++ x ∷ []) is ∙ sym (take_more ranges k r inside)),
        );
  }

  stopped : (f : Fetched) (s : Store) → IsOver s b.clients → CacheTells s b.cache → (f ≡ fetched.Whole → ⊥)
      → GoesOn m n → RangeDone s tries file r m n mid now f → RangesDone s tries q b n text now f
  stopped fetched.Whole s o t other g d = absurd (other refl)
  stopped fetched.Missing s o t other g d =
      and_from (is_none (file_of s file)) (list_any has_bytes ranges) (not_from_false (is_some (file_of s file)) d.1)
      (list_any_at has_bytes ranges k r inside (subst (λ (x : FileRange). has_bytes x ≡ true) is d.0))
  stopped (fetched.Failed j) s o t other g d =
      (d.0, fails_from tries (j ∷ []) b.clients m.clients n.clients h.goes_on.clients g.clients d.1)

  -- the last that was tried
  pub ranges_stop : (f : Fetched) → (f ≡ fetched.Whole → ⊥) → RangeCall tries file r m n mid now (Ok f)
      → RangesCall tries q b n text now (Ok f)
  ranges_stop f other c = record {
    goes_on = goes_then b m n h.goes_on c.goes_on;
    done = λ s o t. stopped f s o t other c.goes_on (c.done s (later s o) (h.goes_on.cache s o t));
  }

  pub ranges_short : (e : OutOfMemory) → RangeCall tries file r m n mid now (Err e) → RangesCall tries q b n text now (Err e)
  ranges_short e c = record { goes_on = goes_then b m n h.goes_on c.goes_on; done = λ s o t. tt }

-- all
pub ranges_all : (tries : ℕ) (file : MerkleHash) (ranges : List FileRange) (b n : Lent) (text now : List ℕ)
    → RangesSoFar file ranges (length ranges) b n text now
    → RangesCall tries (record { file = file; ranges = ranges }) b n text now (Ok fetched.Whole)
ranges_all tries file ranges b n text now h = record {
  goes_on = h.goes_on;
  done = λ s o t.
      let d = h.done s o t in
      let whole : take (length ranges) ranges ≡ ranges = take_all (length ranges) ranges (omega arith) in (
        subst (All (IsGiven s file)) whole d.0,
        d.1 ∙ ap (λ (xs : List FileRange). text ++ flat_map (range_text s file) xs) whole,
      );
}

-- where each range was given, no bytes of a missing file are asked for
pub not_missing : (s : Store) (q : Asked) → All (IsGiven s q.file) q.ranges → asks_missing s q ≡ false
not_missing s q given = go (file_of s q.file) refl
  where
    empty : (r : FileRange) → file_of s q.file ≡ None → IsGiven s q.file r → has_bytes r ≡ false
    empty r e (inl h) = let z = ap {B = Bool} (λ (o : Option StoredFile). is_some o) e in absurd (cc)
    empty r e (inr h) = le-ltb r.start r.end h

    go : (o : Option StoredFile) → file_of s q.file ≡ o → (is_none (file_of s q.file) && list_any has_bytes q.ranges) ≡ false
    go None e =
        and_right (is_none (file_of s q.file)) (list_any has_bytes q.ranges)
        (list_any_none has_bytes q.ranges (λ k d i. empty (get_or q.ranges k d) e (given k d i)))
    go (Some f) e = ap (λ (o : Option StoredFile). is_none o && list_any has_bytes q.ranges) e
