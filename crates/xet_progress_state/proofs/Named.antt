-- The xorbs that calls named.
use Rattle.std.proofs.Common.{◌≡◌, ℕ, Bool, true, false, cond, not, ◌||◌, List, [], ◌∷◌, ◌++◌, refl, sym, subst, ◌∙◌, ap, ◌+◌, ◌<◌, map, take, get_or, length}
use Rattle.std.specs.Prelude.{Option, Some, filter, find, option_map, is_some}
use Rattle.std.specs.List.{flat_map, list_any}
use Rattle.std.proofs.lemmas.Bool.{false≢true, or_parts, or_left, or_right}
use Rattle.std.proofs.lemmas.List.{take_more, map-append}
use Rattle.std.proofs.lemmas.List.Folds.{list_any-append}
use Rattle.xet_base.specs.declared.merklehash.MerkleHash.{MerkleHash}
use Rattle.xet_base.specs.Hashes.{hash_eq}
use Rattle.xet_base.proofs.CallerLemmas.{hash_eq-true}
use Rattle.xet_progress_state.specs.declared.step.FileXorbDependency.{FileXorbDependency}
use Rattle.xet_progress_state.specs.declared.step.TrackerStep.{TrackerStep}
use Rattle.xet_progress_state.specs.declared.step.TrackerStep.TheVariants.{RegisterNewFile, IncrementFileSize, RegisterNewXorb, RegisterDependencies, RegisterXorbUploadCompletion, RegisterXorbUploadProgress, RegisterXorbUploadProgressBackground, Status, IsComplete, AssertComplete}
use Rattle.xet_progress_state.specs.Counts.{named, new_xorb, registrations, size_of, is_completed, completes}
use Rattle.xet_progress_state.specs.steps.Open.{NamesStand, WithNames, has}
use Rattle.xet_progress_state.proofs.Pushed.{any_push, flat_push, or_false}

-- a xorb that is open after a call was open before it
waits_before : (cs : List TrackerStep) (c : TrackerStep) (h : MerkleHash) → is_completed (cs ++ c ∷ []) h ≡ false → is_completed cs h ≡ false
waits_before cs c h w = (or_parts (is_completed cs h) (completes h c) (sym (any_push (completes h) cs c) ∙ w)).0

has_pushed : (cs : List TrackerStep) (c : TrackerStep) (h : MerkleHash) → has (flat_map named (cs ++ c ∷ [])) h ≡ (has (flat_map named cs) h || has (named c) h)
has_pushed cs c h = ap (λ (l : List MerkleHash). has l h) (flat_push named cs c) ∙ list_any-append (λ (y : MerkleHash). hash_eq y h) (flat_map named cs) (named c)

-- the names after a call
pub more_names : (cs ds : List TrackerStep) (c : TrackerStep) (ns ms : List MerkleHash) → NamesStand cs ns → ds ≡ cs ++ c ∷ []
    → ((h : MerkleHash) → is_completed cs h ≡ false → has ms h ≡ (has ns h || has (named c) h)) → NamesStand ds ms
more_names cs ds c ns ms e d n = subst (λ (l : List TrackerStep). NamesStand l ms) (sym d) after
  where
    after : NamesStand (cs ++ c ∷ []) ms
    after h w =
        let was = waits_before cs c h w in
        n h was ∙ ap (λ b. b || has (named c) h) (e h was) ∙ sym (has_pushed cs c h)

-- and after one that names none
pub same_names : (cs ds : List TrackerStep) (c : TrackerStep) (ns : List MerkleHash) → NamesStand cs ns → ds ≡ cs ++ c ∷ [] → named c ≡ [] → NamesStand ds ns
same_names cs ds c ns e d n = more_names cs ds c ns ns e d (λ h w. sym (or_false (has ns h)) ∙ ap (λ (l : List MerkleHash). has ns h || has l h) (sym n))

-- what a call registers it names
one_named : (h : MerkleHash) (c : TrackerStep) → list_any (λ (x : MerkleHash × ℕ). hash_eq x.0 h) (new_xorb c) ≡ true → has (named c) h ≡ true
one_named h (RegisterNewXorb g s) e = e
one_named h (RegisterNewFile n) e = absurd (false≢true e)
one_named h (IncrementFileSize f k) e = absurd (false≢true e)
one_named h (RegisterDependencies ds) e = absurd (false≢true e)
one_named h (RegisterXorbUploadCompletion g) e = absurd (false≢true e)
one_named h (RegisterXorbUploadProgress g k) e = absurd (false≢true e)
one_named h (RegisterXorbUploadProgressBackground g k) e = absurd (false≢true e)
one_named h Status e = absurd (false≢true e)
one_named h IsComplete e = absurd (false≢true e)
one_named h AssertComplete e = absurd (false≢true e)

all_named : (h : MerkleHash) (cs : List TrackerStep) → list_any (λ (x : MerkleHash × ℕ). hash_eq x.0 h) (registrations cs) ≡ true → has (flat_map named cs) h ≡ true
all_named h [] e = absurd (false≢true e)
all_named h (c ∷ cs) e =
    let p : MerkleHash × ℕ → Bool = λ x. hash_eq x.0 h in
    let split = sym (list_any-append p (new_xorb c) (registrations cs)) ∙ e in
    list_any-append (λ (y : MerkleHash). hash_eq y h) (named c) (flat_map named cs) ∙ go (list_any p (new_xorb c)) refl split (λ l. all_named h cs l)
  where
    go : (b : Bool) → list_any (λ (x : MerkleHash × ℕ). hash_eq x.0 h) (new_xorb c) ≡ b → (b || list_any (λ (x : MerkleHash × ℕ). hash_eq x.0 h) (registrations cs)) ≡ true
        → (list_any (λ (x : MerkleHash × ℕ). hash_eq x.0 h) (registrations cs) ≡ true → has (flat_map named cs) h ≡ true) → (has (named c) h || has (flat_map named cs) h) ≡ true
    go true k l next = or_left (has (named c) h) (has (flat_map named cs) h) (one_named h c k)
    go false k l next = or_right (has (named c) h) (has (flat_map named cs) h) (next l)

-- a registered xorb was named
registered_named : (cs : List TrackerStep) (h : MerkleHash) → is_some (size_of cs h) ≡ true → has (flat_map named cs) h ≡ true
registered_named cs h e = all_named h cs (any (registrations cs) e)
  where
    any : (rs : List (MerkleHash × ℕ)) → is_some (option_map (λ (x : MerkleHash × ℕ). x.1) (find (λ x. hash_eq x.0 h) rs)) ≡ true → list_any (λ (x : MerkleHash × ℕ). hash_eq x.0 h) rs ≡ true
    any [] k = absurd (false≢true k)
    any (r ∷ rs) k = go (hash_eq r.0 h) k (λ l. any rs l)
      where
        go : (b : Bool) → is_some (option_map (λ (x : MerkleHash × ℕ). x.1) (cond b (Some r) (find (λ x. hash_eq x.0 h) rs))) ≡ true
            → (is_some (option_map (λ (x : MerkleHash × ℕ). x.1) (find (λ x. hash_eq x.0 h) rs)) ≡ true → list_any (λ (x : MerkleHash × ℕ). hash_eq x.0 h) rs ≡ true) → (b || list_any (λ (x : MerkleHash × ℕ). hash_eq x.0 h) rs) ≡ true
        go true l next = refl
        go false l next = next l

absorbed : (a b : Bool) → (b ≡ true → a ≡ true) → a ≡ (a || b)
absorbed true b e = refl
absorbed false true e = absurd (false≢true (e refl))
absorbed false false e = refl

-- the names after a xorb was registered again, and after its first registration
pub names_again : (cs ds : List TrackerStep) (h : MerkleHash) (z y : ℕ) (ns : List MerkleHash) → NamesStand cs ns → size_of cs h ≡ Some y → ds ≡ cs ++ RegisterNewXorb h z ∷ [] → NamesStand ds ns
names_again cs ds h z y ns e s d = more_names cs ds (RegisterNewXorb h z) ns ns e d (λ g w. absorbed (has ns g) (hash_eq h g || false) (λ k. there g w (sym (or_false (hash_eq h g)) ∙ k)))
  where
    there : (g : MerkleHash) → is_completed cs g ≡ false → hash_eq h g ≡ true → has ns g ≡ true
    there g w k = e g w ∙ registered_named cs g (ap (λ (q : MerkleHash). is_some (size_of cs q)) (sym (hash_eq-true h g k)) ∙ ap (λ (o : Option ℕ). is_some o) s)

swapped : (a b : Bool) → (a || b) ≡ (b || (a || false))
swapped true true = refl
swapped true false = refl
swapped false true = refl
swapped false false = refl

pub names_new : (cs ds : List TrackerStep) (h : MerkleHash) (z : ℕ) (ns ms : List MerkleHash) → NamesStand cs ns → ((g : MerkleHash) → has ms g ≡ (hash_eq h g || has ns g)) → ds ≡ cs ++ RegisterNewXorb h z ∷ [] → NamesStand ds ms
names_new cs ds h z ns ms e n d = more_names cs ds (RegisterNewXorb h z) ns ms e d (λ g w. n g ∙ swapped (hash_eq h g) (has ns g))

-- and after dependencies
pub names_depended : (cs ds : List TrackerStep) (rs : List FileXorbDependency) (ns ms : List MerkleHash) → NamesStand cs ns → WithNames ns rs ms → ds ≡ cs ++ RegisterDependencies rs ∷ [] → NamesStand ds ms
names_depended cs ds rs ns ms e n d = more_names cs ds (RegisterDependencies rs) ns ms e d (λ h w. n h)

filter_push : {A : Type 0} (p : A → Bool) (xs : List A) (x : A) → filter p (xs ++ x ∷ []) ≡ filter p xs ++ cond (p x) (x ∷ []) []
filter_push p [] x = go (p x)
  where
    go : (b : Bool) → cond b (x ∷ []) [] ≡ [] ++ cond b (x ∷ []) []
    go true = refl
    go false = refl
filter_push p (y ∷ xs) x = go (p y) (filter_push p xs x)
  where
    go : (b : Bool) → filter p (xs ++ x ∷ []) ≡ filter p xs ++ cond (p x) (x ∷ []) [] → cond b (y ∷ filter p (xs ++ x ∷ [])) (filter p (xs ++ x ∷ [])) ≡ cond b (y ∷ filter p xs) (filter p xs) ++ cond (p x) (x ∷ []) []
    go true e = ap (λ l. y ∷ l) e
    go false e = e

-- one dependency more
pub named_push : (ds : List FileXorbDependency) (d : FileXorbDependency) → named (RegisterDependencies (ds ++ d ∷ [])) ≡ named (RegisterDependencies ds) ++ cond (not d.is_external) (d.xorb_hash ∷ []) []
named_push ds d =
    ap (λ (l : List FileXorbDependency). map (λ d. d.xorb_hash) l) (filter_push (λ d. not d.is_external) ds d)
    ∙ map-append (λ (d : FileXorbDependency). d.xorb_hash) (filter (λ d. not d.is_external) ds) (cond (not d.is_external) (d ∷ []) [])
    ∙ ap (λ l. named (RegisterDependencies ds) ++ l) (go (not d.is_external))
  where
    go : (b : Bool) → map (λ (d : FileXorbDependency). d.xorb_hash) (cond b (d ∷ []) []) ≡ cond b (d.xorb_hash ∷ []) []
    go true = refl
    go false = refl

-- one turn of the loop over them
has_turn : (ds : List FileXorbDependency) (i : ℕ) (d : FileXorbDependency) (h : MerkleHash) → i < length ds
    → has (named (RegisterDependencies (take (i + 1) ds))) h ≡ (has (named (RegisterDependencies (take i ds))) h || has (cond (not (get_or ds i d).is_external) ((get_or ds i d).xorb_hash ∷ []) []) h)
has_turn ds i d h l =
    ap (λ (l : List FileXorbDependency). has (named (RegisterDependencies l)) h) (take_more ds i d l)
    ∙ ap (λ (l : List MerkleHash). has l h) (named_push (take i ds) (get_or ds i d))
    ∙ list_any-append (λ (y : MerkleHash). hash_eq y h) (named (RegisterDependencies (take i ds))) (cond (not (get_or ds i d).is_external) ((get_or ds i d).xorb_hash ∷ []) [])

-- of a dependency that adds none
pub names_skip : (ns ms : List MerkleHash) (ds : List FileXorbDependency) (i : ℕ) (d : FileXorbDependency) → i < length ds → (get_or ds i d).is_external ≡ true → WithNames ns (take i ds) ms → WithNames ns (take (i + 1) ds) ms
names_skip ns ms ds i d l k w h =
    w h ∙ ap (λ b. has ns h || b)
    (sym (or_false (has (named (RegisterDependencies (take i ds))) h)) ∙ ap (λ b. has (named (RegisterDependencies (take i ds))) h || has (cond (not b) ((get_or ds i d).xorb_hash ∷ []) []) h) (sym k) ∙ sym (has_turn ds i d h l))

moved_last : (a b t : Bool) → (t || (a || b)) ≡ (a || (b || (t || false)))
moved_last true true true = refl
moved_last true true false = refl
moved_last true false true = refl
moved_last true false false = refl
moved_last false true true = refl
moved_last false true false = refl
moved_last false false true = refl
moved_last false false false = refl

-- and of one that adds its own
pub names_push : (ns ms qs : List MerkleHash) (ds : List FileXorbDependency) (i : ℕ) (d : FileXorbDependency) → i < length ds → (get_or ds i d).is_external ≡ false
    → WithNames ns (take i ds) ms → ((h : MerkleHash) → has qs h ≡ (hash_eq (get_or ds i d).xorb_hash h || has ms h)) → WithNames ns (take (i + 1) ds) qs
names_push ns ms qs ds i d l k w q h =
    let t = hash_eq (get_or ds i d).xorb_hash h in
    q h ∙ ap (λ b. t || b) (w h) ∙ moved_last (has ns h) (has (named (RegisterDependencies (take i ds))) h) t
    ∙ ap (λ b. has ns h || b) (ap (λ b. has (named (RegisterDependencies (take i ds))) h || has (cond (not b) ((get_or ds i d).xorb_hash ∷ []) []) h) (sym k) ∙ sym (has_turn ds i d h l))
