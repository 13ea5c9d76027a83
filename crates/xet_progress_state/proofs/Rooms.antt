-- Room for dependencies among the entries.
use Rattle.std.proofs.Common.{◌≡◌, ℕ, Bool, true, false, cond, ◌||◌, List, [], ◌∷◌, refl, sym, subst, ◌∙◌, ap, ◌<◌, zero, suc, length, get_or, set, inl, inr, arith}
use Rattle.std.specs.Prelude.{Option, Some, None, find, position, nat_eq, All, AllPairs, MatchOption}
use Rattle.std.specs.Option.{option_or}
use Rattle.std.specs.List.{list_any, sum_by, position_or_len}
use Rattle.std.proofs.lemmas.Bool.{true≢false, false≢true, eq-eqb, eqb-true, lt-ltb}
use Rattle.std.proofs.lemmas.List.Elements.{All-push}
use Rattle.std.proofs.lemmas.List.Quantifiers.{all_pairs_push}
use Rattle.std.proofs.lemmas.List.Folds.{list_any-append, list_any_at, find-append, find-set, find_past}
use Rattle.std.proofs.lemmas.List.Sums.{sum_by_push, passes_at_first}
use Rattle.xet_base.specs.declared.merklehash.MerkleHash.{MerkleHash}
use Rattle.xet_base.specs.Hashes.{hash_eq}
use Rattle.xet_base.proofs.CallerLemmas.{hash_eq-true, eq-hash_eq, place_within}
use Rattle.xet_progress_state.specs.declared.step.FileXorbDependency.{FileXorbDependency}
use Rattle.xet_progress_state.specs.declared.step.TrackerStep.{TrackerStep}
use Rattle.xet_progress_state.specs.declared.file.TrackedFile.{TrackedFile}
use Rattle.xet_progress_state.specs.declared.xorb.TrackedXorb.{TrackedXorb}
use Rattle.xet_progress_state.specs.declared.part.Part.{Part}
use Rattle.xet_progress_state.specs.Counts.{sizes}
use Rattle.xet_progress_state.specs.steps.Kept.{IsKept, XorbStands, waiting_in, credited_in}
use Rattle.xet_progress_state.specs.steps.Credits.{Entered}
use Rattle.xet_progress_state.specs.steps.Depends.{WithPart, PartsAlike, StandAlike, Waited, has_room, has_part, with_waiting}
use Rattle.xet_progress_state.proofs.NewFile.{kept_count}
use Rattle.xet_progress_state.proofs.NewXorb.{kept_entered}
use Rattle.xet_progress_state.proofs.Places.{find_here, find_nothing}
use Rattle.xet_progress_state.proofs.Moved.{entries_set, stands_at}
use Rattle.xet_progress_state.proofs.Looked.{own_at}

cond_zero : (b : Bool) → ◌≡◌ {A = ℕ} (cond b 0 0) 0
cond_zero true = refl
cond_zero false = refl

-- an entry with one empty part more stands for the same
part_stands : (cs : List TrackerStep) (h : MerkleHash) (x y : TrackedXorb) (f : ℕ) → f < length (sizes cs) → XorbStands cs h x → y.size ≡ x.size → y.sent ≡ x.sent → y.completed ≡ x.completed → PartsAlike f x.parts y.parts → XorbStands cs h y
part_stands cs h x y f l s z n d w = record {
  size_is = z ∙ s.size_is;
  completed_is = d ∙ s.completed_is;
  sent_is = λ wait. n ∙ s.sent_is (sym d ∙ wait);
  waits = λ g. waits_at w g ∙ s.waits g;
  credits = λ g. credits_at w g ∙ s.credits g;
  known = known_at w;
  differ = differ_at w;
}
  where
    one : Part
    one = record { file = f; waiting = 0; credited = 0 }

    waits_at : PartsAlike f x.parts y.parts → (g : ℕ) → sum_by (waiting_in g) y.parts ≡ sum_by (waiting_in g) x.parts
    waits_at (inl e) g = ap (λ (l : List Part). sum_by (waiting_in g) l) e
    waits_at (inr (inl e)) g = ap (λ (l : List Part). sum_by (waiting_in g) l) e.1
    waits_at (inr (inr e)) g =
        let a = ap (λ (l : List Part). sum_by (waiting_in g) l) e.1 in
        let b = sum_by_push (waiting_in g) x.parts (record { file = f; waiting = 0; credited = 0 }) in
        let c = cond_zero (nat_eq f g) in
        omega (arith, a, b, c)

    credits_at : PartsAlike f x.parts y.parts → (g : ℕ) → sum_by (credited_in g) y.parts ≡ sum_by (credited_in g) x.parts
    credits_at (inl e) g = ap (λ (l : List Part). sum_by (credited_in g) l) e
    credits_at (inr (inl e)) g = ap (λ (l : List Part). sum_by (credited_in g) l) e.1
    credits_at (inr (inr e)) g =
        let a = ap (λ (l : List Part). sum_by (credited_in g) l) e.1 in
        let b = sum_by_push (credited_in g) x.parts (record { file = f; waiting = 0; credited = 0 }) in
        let c = cond_zero (nat_eq f g) in
        omega (arith, a, b, c)

    known_at : PartsAlike f x.parts y.parts → All (λ p. p.file < length (sizes cs)) y.parts
    known_at (inl e) = subst (λ (l : List Part). All (λ p. p.file < length (sizes cs)) l) (sym e) s.known
    known_at (inr (inl e)) = subst (λ (l : List Part). All (λ p. p.file < length (sizes cs)) l) (sym e.1) s.known
    known_at (inr (inr e)) = subst (λ (l : List Part). All (λ p. p.file < length (sizes cs)) l) (sym e.1) (All-push (λ (p : Part). p.file < length (sizes cs)) x.parts (record { file = f; waiting = 0; credited = 0 }) s.known l)

    differ_at : PartsAlike f x.parts y.parts → AllPairs (λ p q. nat_eq p.file q.file ≡ false) y.parts
    differ_at (inl e) = subst (λ (l : List Part). AllPairs (λ p q. nat_eq p.file q.file ≡ false) l) (sym e) s.differ
    differ_at (inr (inl e)) = subst (λ (l : List Part). AllPairs (λ p q. nat_eq p.file q.file ≡ false) l) (sym e.1) s.differ
    differ_at (inr (inr e)) = subst (λ (l : List Part). AllPairs (λ p q. nat_eq p.file q.file ≡ false) l) (sym e.1)
        (all_pairs_push (λ (p q : Part). nat_eq p.file q.file ≡ false) x.parts (record { file = f; waiting = 0; credited = 0 }) s.differ (λ k d m. none k d m (nat_eq (get_or x.parts k d).file f) refl))
      where
        none : (k : ℕ) (d : Part) → k < length x.parts → (b : Bool) → nat_eq (get_or x.parts k d).file f ≡ b → nat_eq (get_or x.parts k d).file f ≡ false
        none k d m true q = absurd (true≢false (sym (list_any_at (λ (p : Part). nat_eq p.file f) x.parts k d m q) ∙ e.0))
        none k d m false q = q

-- entries after a look for a xorb and a part of a file
pub kept_part : (cs : List TrackerStep) (fs : List TrackedFile) (xs : List TrackedXorb) (t c s i f : ℕ) (h : MerkleHash) (x y : TrackedXorb) → f < length fs → IsKept cs fs xs t c s → position (λ (x : TrackedXorb). hash_eq x.hash h) xs ≡ Some i → x ≡ get_or xs i x
    → y.hash ≡ x.hash → y.size ≡ x.size → y.sent ≡ x.sent → y.completed ≡ x.completed → PartsAlike f x.parts y.parts → IsKept cs fs (set xs i y) t c s
kept_part cs fs xs t c s i f h x y l k pos at o z n d w =
    let len = kept_count cs fs xs t c s k in
    let stands : XorbStands cs h x = subst (λ (y : TrackedXorb). XorbStands cs h y) (sym at) (stands_at cs h xs i x k.xorbs_are pos) in
    let own : y.hash ≡ h = o ∙ ap (λ (y : TrackedXorb). y.hash) at ∙ own_at h xs i x pos in
    record {
      files_are = k.files_are;
      total_is = k.total_is;
      completed_is = k.completed_is;
      sizes_are = k.sizes_are;
      xorbs_are = entries_set cs cs h xs i y pos own (part_stands cs h x y f (omega (arith, l, len)) stands z n d w) (λ g q o a. a) k.xorbs_are;
      within = k.within;
      plain = k.plain;
    }

-- the same for every list of calls
pub alike : (count i : ℕ) (f : ℕ) (h : MerkleHash) (xs ys : List TrackedXorb) (x y : TrackedXorb) → f < count → Entered h xs ys → position (λ (x : TrackedXorb). hash_eq x.hash h) ys ≡ Some i → x ≡ get_or ys i x
    → y.hash ≡ x.hash → y.size ≡ x.size → y.sent ≡ x.sent → y.completed ≡ x.completed → PartsAlike f x.parts y.parts → StandAlike count xs (set ys i y)
alike count i f h xs ys x y l en pos at o z n d w cs fs t c s len k =
    kept_part cs fs ys t c s i f h x y (omega (arith, l, len)) (kept_entered cs fs xs ys t c s h k en) pos at o z n d w

any_with : (f g : ℕ) (ps qs : List Part) → WithPart f ps qs → list_any (λ (p : Part). nat_eq p.file g) ps ≡ true → list_any (λ (p : Part). nat_eq p.file g) qs ≡ true
any_with f g ps qs (inl e) h = ap (λ (l : List Part). list_any (λ (p : Part). nat_eq p.file g) l) e.1 ∙ h
any_with f g ps qs (inr e) h =
    ap (λ (l : List Part). list_any (λ (p : Part). nat_eq p.file g) l) e.1 ∙ list_any-append (λ (p : Part). nat_eq p.file g) ps (record { file = f; waiting = 0; credited = 0 } ∷ []) ∙ ap (λ b. b || list_any (λ (p : Part). nat_eq p.file g) (record { file = f; waiting = 0; credited = 0 } ∷ [])) h

any_alike : (f g : ℕ) (ps qs : List Part) → PartsAlike f ps qs → list_any (λ (p : Part). nat_eq p.file g) ps ≡ true → list_any (λ (p : Part). nat_eq p.file g) qs ≡ true
any_alike f g ps qs (inl e) h = ap (λ (l : List Part). list_any (λ (p : Part). nat_eq p.file g) l) e ∙ h
any_alike f g ps qs (inr w) h = any_with f g ps qs w h

pub any_of : (f : ℕ) (ps qs : List Part) → WithPart f ps qs → list_any (λ (p : Part). nat_eq p.file f) qs ≡ true
any_of f ps qs (inl e) = ap (λ (l : List Part). list_any (λ (p : Part). nat_eq p.file f) l) e.1 ∙ e.0
any_of f ps qs (inr e) =
    ap (λ (l : List Part). list_any (λ (p : Part). nat_eq p.file f) l) e.1 ∙ list_any-append (λ (p : Part). nat_eq p.file f) ps (record { file = f; waiting = 0; credited = 0 } ∷ [])
    ∙ ap (λ b. list_any (λ (p : Part). nat_eq p.file f) ps || (b || false)) (eq-eqb f f refl) ∙ or_true (list_any (λ (p : Part). nat_eq p.file f) ps)
  where
    or_true : (b : Bool) → (b || true) ≡ true
    or_true true = refl
    or_true false = refl

-- an entry that was found is found among more
found_more : (g h : MerkleHash) (f : ℕ) (xs ys : List TrackedXorb) → Entered h xs ys → has_part f (find (λ (x : TrackedXorb). hash_eq x.hash g) xs) ≡ true → has_part f (find (λ (x : TrackedXorb). hash_eq x.hash g) ys) ≡ true
found_more g h f xs ys (inl e) p = ap (λ (l : List TrackedXorb). has_part f (find (λ (x : TrackedXorb). hash_eq x.hash g) l)) e ∙ p
found_more g h f xs ys (inr w) p =
    ap (λ (l : List TrackedXorb). has_part f (find (λ (x : TrackedXorb). hash_eq x.hash g) l)) w.3
    ∙ ap (λ (o : Option TrackedXorb). has_part f o) (find-append (λ (x : TrackedXorb). hash_eq x.hash g) xs (w.0 ∷ []))
    ∙ go (find (λ (x : TrackedXorb). hash_eq x.hash g) xs) p
  where
    go : (o : Option TrackedXorb) → has_part f o ≡ true → has_part f (option_or o (find (λ (x : TrackedXorb). hash_eq x.hash g) (w.0 ∷ []))) ≡ true
    go None q = absurd (false≢true q)
    go (Some x) q = q

module _ (h : MerkleHash) (i f : ℕ) (ys : List TrackedXorb) (x y : TrackedXorb) (pos : position (λ (x : TrackedXorb). hash_eq x.hash h) ys ≡ Some i) (at : x ≡ get_or ys i x) (own : y.hash ≡ x.hash) where
  here : (find (λ (x : TrackedXorb). hash_eq x.hash h) ys ≡ Some (get_or ys i x)) × (i < length ys) × (position_or_len (λ (x : TrackedXorb). hash_eq x.hash h) ys ≡ i)
  here = find_here (λ (x : TrackedXorb). hash_eq x.hash h) ys i x pos

  y_own : y.hash ≡ h
  y_own = own ∙ ap (λ (y : TrackedXorb). y.hash) at ∙ own_at h ys i x pos

  now : find (λ (x : TrackedXorb). hash_eq x.hash h) (set ys i y) ≡ Some y
  now = find-set (λ (x : TrackedXorb). hash_eq x.hash h) ys i y (sym here.2) here.1 (eq-hash_eq y.hash h y_own)

  pub room_made : WithPart f x.parts y.parts → (d : FileXorbDependency) → d.xorb_hash ≡ h → d.file_id ≡ f → has_room (set ys i y) d ≡ true
  room_made w d e g =
      let a : has_part d.file_id (find (λ (x : TrackedXorb). hash_eq x.hash d.xorb_hash) (set ys i y)) ≡ true =
      (λ i'. has_part (g i') (find (λ (x : TrackedXorb). hash_eq x.hash (e i')) (set ys i y))) ∙ ap (λ (o : Option TrackedXorb). has_part f o) now ∙ any_of f x.parts y.parts w in
      ap (λ b. d.is_external || b) a ∙ or_true d.is_external
    where
      or_true : (b : Bool) → (b || true) ≡ true
      or_true true = refl
      or_true false = refl

  part_kept : PartsAlike f x.parts y.parts → (g : MerkleHash) (n : ℕ) → has_part n (find (λ (x : TrackedXorb). hash_eq x.hash g) ys) ≡ true → has_part n (find (λ (x : TrackedXorb). hash_eq x.hash g) (set ys i y)) ≡ true
  part_kept w g n p = go (hash_eq h g) refl
    where
      go : (b : Bool) → hash_eq h g ≡ b → has_part n (find (λ (x : TrackedXorb). hash_eq x.hash g) (set ys i y)) ≡ true
      go true q =
          let same = hash_eq-true h g q in
          let was : list_any (λ (p : Part). nat_eq p.file n) x.parts ≡ true =
          ap (λ (z : TrackedXorb). list_any (λ (p : Part). nat_eq p.file n) z.parts) at
          ∙ sym (ap (λ (o : Option TrackedXorb). has_part n o) here.0)
          ∙ ap (λ (k : MerkleHash). has_part n (find (λ (x : TrackedXorb). hash_eq x.hash k) ys)) same ∙ p in
          ap (λ (k : MerkleHash). has_part n (find (λ (x : TrackedXorb). hash_eq x.hash k) (set ys i y))) (sym same)
          ∙ ap (λ (o : Option TrackedXorb). has_part n o) now ∙ any_alike f n x.parts y.parts w was
      go false q =
          let old : hash_eq (get_or ys i x).hash g ≡ false = ap (λ (k : MerkleHash). hash_eq k g) (own_at h ys i x pos) ∙ q in
          let new : hash_eq y.hash g ≡ false = ap (λ (k : MerkleHash). hash_eq k g) y_own ∙ q in
          ap (λ (o : Option TrackedXorb). has_part n o) (find_past (λ (x : TrackedXorb). hash_eq x.hash g) ys i y x old new) ∙ p

  pub room_kept : PartsAlike f x.parts y.parts → (xs : List TrackedXorb) → Entered h xs ys → (d : FileXorbDependency) → has_room xs d ≡ true → has_room (set ys i y) d ≡ true
  room_kept w xs en d p = go d.is_external p
    where
      go : (b : Bool) → (b || has_part d.file_id (find (λ (x : TrackedXorb). hash_eq x.hash d.xorb_hash) xs)) ≡ true → (b || has_part d.file_id (find (λ (x : TrackedXorb). hash_eq x.hash d.xorb_hash) (set ys i y))) ≡ true
      go true q = refl
      go false q = part_kept w d.xorb_hash d.file_id (found_more d.xorb_hash h d.file_id xs ys en q)

place_of : {A : Type 0} (p : A → Bool) (xs : List A) → list_any p xs ≡ true → position p xs ≡ Some (position_or_len p xs)
place_of p xs h = ap (λ b. cond b (Some (position_or_len p xs)) None) (lt-ltb (position_or_len p xs) (length xs) (place_within p xs h))

-- without a place there is no room
pub no_room : (xs : List TrackedXorb) (d : FileXorbDependency) → position (λ (x : TrackedXorb). hash_eq x.hash d.xorb_hash) xs ≡ None → d.is_external ≡ false → has_room xs d ≡ true → ⊥
no_room xs d n o r =
    false≢true (sym (let f = find_nothing (λ (x : TrackedXorb). hash_eq x.hash d.xorb_hash) xs n in ap (λ b. b || has_part d.file_id (find (λ (x : TrackedXorb). hash_eq x.hash d.xorb_hash) xs)) o ∙ ap (λ (o : Option TrackedXorb). has_part d.file_id o) f) ∙ r)

pub waited : (xs : List TrackedXorb) (d : FileXorbDependency) (i : ℕ) (x y : TrackedXorb) → position (λ (x : TrackedXorb). hash_eq x.hash d.xorb_hash) xs ≡ Some i → x ≡ get_or xs i x → d.is_external ≡ false → has_room xs d ≡ true
    → y.hash ≡ x.hash → y.size ≡ x.size → y.sent ≡ x.sent → y.completed ≡ x.completed
    → MatchOption (position (λ (p : Part). nat_eq p.file d.file_id) x.parts) (y.parts ≡ x.parts) (λ k. y.parts ≡ set x.parts k (with_waiting x.completed d.n_bytes (get_or x.parts k (record { file = 0; waiting = 0; credited = 0 }))))
    → Waited xs (set xs i y) d x.completed
waited xs d i x y pos at o r a b c e m =
    let here = find_here (λ (x : TrackedXorb). hash_eq x.hash d.xorb_hash) xs i x pos in
    let any : list_any (λ (p : Part). nat_eq p.file d.file_id) x.parts ≡ true =
    ap (λ (z : TrackedXorb). list_any (λ (p : Part). nat_eq p.file d.file_id) z.parts) at
    ∙ sym (ap (λ (o : Option TrackedXorb). has_part d.file_id o) here.0)
    ∙ sym (ap (λ b. b || has_part d.file_id (find (λ (x : TrackedXorb). hash_eq x.hash d.xorb_hash) xs)) o) ∙ r in
    let k = position_or_len (λ (p : Part). nat_eq p.file d.file_id) x.parts in
    let in_side = place_within (λ (p : Part). nat_eq p.file d.file_id) x.parts any in
    record {
      place = i;
      old = x;
      new = y;
      number = position_or_len (λ (p : Part). nat_eq p.file d.file_id) x.parts;
      place_is = pos;
      old_is = at;
      new_is = refl;
      same_hash = a;
      same_size = b;
      same_sent = c;
      same_done = e;
      done_is = refl;
      inside = in_side;
      file_is = eqb-true (get_or x.parts (position_or_len (λ (p : Part). nat_eq p.file d.file_id) x.parts) (record { file = 0; waiting = 0; credited = 0 })).file d.file_id (passes_at_first (λ (p : Part). nat_eq p.file d.file_id) x.parts (record { file = 0; waiting = 0; credited = 0 }) in_side);
      parts_are = subst (λ (o : Option ℕ). MatchOption o (y.parts ≡ x.parts) (λ k. y.parts ≡ set x.parts k (with_waiting x.completed d.n_bytes (get_or x.parts k (record { file = 0; waiting = 0; credited = 0 }))))) (place_of (λ (p : Part). nat_eq p.file d.file_id) x.parts any) m;
    }

any_set : (f : ℕ) (ps : List Part) (k : ℕ) (p : Part) → p.file ≡ (get_or ps k (record { file = 0; waiting = 0; credited = 0 })).file → list_any (λ (p : Part). nat_eq p.file f) (set ps k p) ≡ list_any (λ (p : Part). nat_eq p.file f) ps
any_set f [] k p e = refl
any_set f (q ∷ ps) zero p e = ap (λ (m : ℕ). nat_eq m f || list_any (λ (p : Part). nat_eq p.file f) ps) e
any_set f (q ∷ ps) (suc k) p e = ap (λ b. nat_eq q.file f || b) (any_set f ps k p e)

-- room stays where bytes are added to a part
pub room_waited : (xs ys : List TrackedXorb) (d : FileXorbDependency) (b : Bool) → Waited xs ys d b → (e : FileXorbDependency) → has_room xs e ≡ true → has_room ys e ≡ true
room_waited xs ys d b w e p = subst (λ (l : List TrackedXorb). has_room l e ≡ true) (sym w.new_is) (go e.is_external p)
  where
    here : (find (λ (x : TrackedXorb). hash_eq x.hash d.xorb_hash) xs ≡ Some (get_or xs w.place w.old)) × (w.place < length xs) × (position_or_len (λ (x : TrackedXorb). hash_eq x.hash d.xorb_hash) xs ≡ w.place)
    here = find_here (λ (x : TrackedXorb). hash_eq x.hash d.xorb_hash) xs w.place w.old w.place_is

    old_own : (get_or xs w.place w.old).hash ≡ d.xorb_hash
    old_own = own_at d.xorb_hash xs w.place w.old w.place_is

    new_own : w.new.hash ≡ d.xorb_hash
    new_own = w.same_hash ∙ ap (λ (y : TrackedXorb). y.hash) w.old_is ∙ old_own

    now : find (λ (x : TrackedXorb). hash_eq x.hash d.xorb_hash) (set xs w.place w.new) ≡ Some w.new
    now = find-set (λ (x : TrackedXorb). hash_eq x.hash d.xorb_hash) xs w.place w.new (sym here.2) here.1 (eq-hash_eq w.new.hash d.xorb_hash new_own)

    parts : (n : ℕ) → list_any (λ (p : Part). nat_eq p.file n) w.new.parts ≡ list_any (λ (p : Part). nat_eq p.file n) w.old.parts
    parts n = ap (λ (l : List Part). list_any (λ (p : Part). nat_eq p.file n) l) w.parts_are ∙ any_set n w.old.parts w.number (with_waiting w.old.completed d.n_bytes (get_or w.old.parts w.number (record { file = 0; waiting = 0; credited = 0 }))) refl

    same : (g : MerkleHash) (n : ℕ) (b : Bool) → hash_eq d.xorb_hash g ≡ b → has_part n (find (λ (x : TrackedXorb). hash_eq x.hash g) (set xs w.place w.new)) ≡ has_part n (find (λ (x : TrackedXorb). hash_eq x.hash g) xs)
    same g n true q =
        let eq = hash_eq-true d.xorb_hash g q in
        ap (λ (k : MerkleHash). has_part n (find (λ (x : TrackedXorb). hash_eq x.hash k) (set xs w.place w.new))) (sym eq)
        ∙ ap (λ (o : Option TrackedXorb). has_part n o) now ∙ parts n ∙ ap (λ (z : TrackedXorb). list_any (λ (p : Part). nat_eq p.file n) z.parts) w.old_is
        ∙ sym (ap (λ (o : Option TrackedXorb). has_part n o) here.0)
        ∙ ap (λ (k : MerkleHash). has_part n (find (λ (x : TrackedXorb). hash_eq x.hash k) xs)) eq
    same g n false q =
        let a : hash_eq (get_or xs w.place w.old).hash g ≡ false = ap (λ (k : MerkleHash). hash_eq k g) old_own ∙ q in
        let b : hash_eq w.new.hash g ≡ false = ap (λ (k : MerkleHash). hash_eq k g) new_own ∙ q in
        ap (λ (o : Option TrackedXorb). has_part n o) (find_past (λ (x : TrackedXorb). hash_eq x.hash g) xs w.place w.new w.old a b)

    go : (c : Bool) → (c || has_part e.file_id (find (λ (x : TrackedXorb). hash_eq x.hash e.xorb_hash) xs)) ≡ true → (c || has_part e.file_id (find (λ (x : TrackedXorb). hash_eq x.hash e.xorb_hash) (set xs w.place w.new))) ≡ true
    go true k = refl
    go false k = same e.xorb_hash e.file_id (hash_eq d.xorb_hash e.xorb_hash) refl ∙ k
