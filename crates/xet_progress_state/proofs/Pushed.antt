-- What one more call changes of the counts.
use Rattle.std.proofs.Common.{◌≡◌, ℕ, Bool, true, false, cond, ◌||◌, List, [], ◌∷◌, ◌++◌, refl, ◌∙◌, ap, ◌+◌, map, arith}
use Rattle.std.specs.Prelude.{None, find, unwrap_or, option_map}
use Rattle.std.specs.List.{list_any, sum_by, flat_map}
use Rattle.std.proofs.lemmas.List.{append-nil}
use Rattle.std.proofs.lemmas.List.Folds.{list_any-append}
use Rattle.std.proofs.lemmas.Grind.{flat_map-append}
use Rattle.std.proofs.lemmas.List.Sums.{sum_by_push}
use Rattle.xet_base.specs.declared.merklehash.MerkleHash.{MerkleHash}
use Rattle.xet_base.specs.Hashes.{hash_eq}
use Rattle.xet_base.specs.Lists.{firsts}
use Rattle.xet_progress_state.specs.declared.step.FileXorbDependency.{FileXorbDependency}
use Rattle.xet_progress_state.specs.declared.step.TrackerStep.{TrackerStep}
use Rattle.xet_progress_state.specs.Counts.{new_xorb, new_dependencies, completes, progresses, up_to_progress, registrations, dependencies, is_completed, progress, progress_by, counted, completed_of, xorbs, external_of, size_of, part_of, part, share}

pub or_false : (b : Bool) → (b || false) ≡ b
or_false true = refl
or_false false = refl

pub any_push : {A : Type 0} (p : A → Bool) (xs : List A) (x : A) → list_any p (xs ++ x ∷ []) ≡ (list_any p xs || p x)
any_push p xs x = list_any-append p xs (x ∷ []) ∙ ap (λ b. list_any p xs || b) (or_false (p x))

pub any_push_no : {A : Type 0} (p : A → Bool) (xs : List A) (x : A) → p x ≡ false → list_any p (xs ++ x ∷ []) ≡ list_any p xs
any_push_no p xs x e = any_push p xs x ∙ ap (λ b. list_any p xs || b) e ∙ or_false (list_any p xs)

pub or_true : (b : Bool) → (b || true) ≡ true
or_true true = refl
or_true false = refl

pub any_push_yes : {A : Type 0} (p : A → Bool) (xs : List A) (x : A) → p x ≡ true → list_any p (xs ++ x ∷ []) ≡ true
any_push_yes p xs x e = any_push p xs x ∙ ap (λ b. list_any p xs || b) e ∙ or_true (list_any p xs)

-- the calls up to the last progress, with one more call that reports progress
pub up_to_yes : (h : MerkleHash) (cs : List TrackerStep) (c : TrackerStep) → progresses h c ≡ true → up_to_progress h (cs ++ c ∷ []) ≡ cs ++ c ∷ []
up_to_yes h [] c e = ap (λ b. cond (b || false) (c ∷ []) []) e
up_to_yes h (d ∷ cs) c e =
    let any = any_push_yes (progresses h) cs c e in
    let next = up_to_yes h cs c e in
    ap (λ b. cond (progresses h d || b) (d ∷ up_to_progress h (cs ++ c ∷ [])) []) any
    ∙ ap (λ b. cond b (d ∷ up_to_progress h (cs ++ c ∷ [])) []) (or_true (progresses h d))
    ∙ ap (λ l. d ∷ l) next

-- and with one that reports none
pub up_to_no : (h : MerkleHash) (cs : List TrackerStep) (c : TrackerStep) → progresses h c ≡ false → up_to_progress h (cs ++ c ∷ []) ≡ up_to_progress h cs
up_to_no h [] c e = ap (λ b. cond (b || false) (c ∷ []) []) e
up_to_no h (d ∷ cs) c e =
    let any = any_push_no (progresses h) cs c e in
    let next = up_to_no h cs c e in
    ap (λ b. cond (progresses h d || b) (d ∷ up_to_progress h (cs ++ c ∷ [])) []) any
    ∙ ap (λ l. cond (progresses h d || list_any (progresses h) cs) (d ∷ l) []) next

-- where no call reports progress there are none
pub up_to_none : (h : MerkleHash) (cs : List TrackerStep) → list_any (progresses h) cs ≡ false → up_to_progress h cs ≡ []
up_to_none h [] e = refl
up_to_none h (c ∷ cs) e = ap (λ b. cond b (c ∷ up_to_progress h cs) []) e

module _ {A : Type 0} (f : TrackerStep → List A) where
  pub flat_push : (cs : List TrackerStep) (c : TrackerStep) → flat_map f (cs ++ c ∷ []) ≡ flat_map f cs ++ f c
  flat_push cs c = flat_map-append f cs (c ∷ []) ∙ ap (λ l. flat_map f cs ++ l) (append-nil (f c))

  pub flat_push_none : (cs : List TrackerStep) (c : TrackerStep) → f c ≡ [] → flat_map f (cs ++ c ∷ []) ≡ flat_map f cs
  flat_push_none cs c e = flat_push cs c ∙ ap (λ l. flat_map f cs ++ l) e ∙ append-nil (flat_map f cs)

pub sum_push_none : {A : Type 0} (f : A → ℕ) (xs : List A) (x : A) → f x ≡ 0 → sum_by f (xs ++ x ∷ []) ≡ sum_by f xs
sum_push_none f xs x e = let p = sum_by_push f xs x in omega (arith, p, e)

-- two lists of calls after which the same counts in a xorb
pub record SameAt (cs ds : List TrackerStep) (h : MerkleHash) : Type 0 where
  pub same_completed : is_completed ds h ≡ is_completed cs h
  pub same_counted : (f : ℕ) → counted ds f h ≡ counted cs f h
  pub same_sum : is_completed cs h ≡ false → progress ds h ≡ progress cs h
  pub same_any : size_of cs h ≡ None → list_any (progresses h) ds ≡ list_any (progresses h) cs

-- two lists of calls that have the same xorbs and dependencies, of which the same counts
pub record SameCounts (cs ds : List TrackerStep) : Type 0 where
  pub same_xorbs : xorbs ds ≡ xorbs cs
  pub same_size : (h : MerkleHash) → size_of ds h ≡ size_of cs h
  pub same_dependencies : dependencies ds ≡ dependencies cs
  pub at : (h : MerkleHash) → SameAt cs ds h

-- a call that changes no xorb
pub record IsQuiet (c : TrackerStep) : Type 0 where
  pub no_xorb : new_xorb c ≡ []
  pub no_dependency : new_dependencies c ≡ []
  pub no_completion : (h : MerkleHash) → completes h c ≡ false
  pub no_progress : (h : MerkleHash) → progresses h c ≡ false
  pub no_bytes : (h : MerkleHash) → progress_by h c ≡ 0

pub size_by : (cs ds : List TrackerStep) → registrations ds ≡ registrations cs → (h : MerkleHash) → size_of ds h ≡ size_of cs h
size_by cs ds e h = ap (λ (l : List (MerkleHash × ℕ)). option_map (λ x. x.1) (find (λ x. hash_eq x.0 h) l)) e

pub xorbs_by : (cs ds : List TrackerStep) → registrations ds ≡ registrations cs → xorbs ds ≡ xorbs cs
xorbs_by cs ds e = ap (λ (l : List (MerkleHash × ℕ)). firsts hash_eq (map (λ x. x.0) l)) e

-- what counts in a xorb whose completion, progress and size are the same
pub counted_by : (cs ds : List TrackerStep) (f : ℕ) (h : MerkleHash) → dependencies ds ≡ dependencies cs → is_completed ds h ≡ is_completed cs h → up_to_progress h ds ≡ up_to_progress h cs → size_of ds h ≡ size_of cs h → counted ds f h ≡ counted cs f h
counted_by cs ds f h d c u z = λ i. cond (c i) (sum_by (part_of f h) (d i)) (share (part (u i) f h) (progress (u i) h) (unwrap_or (z i) 0))

pub same_push : (cs : List TrackerStep) (c : TrackerStep) → IsQuiet c → SameCounts cs (cs ++ c ∷ [])
same_push cs c q =
    let regs = flat_push_none new_xorb cs c q.no_xorb in
    let deps = flat_push_none new_dependencies cs c q.no_dependency in
    let done = λ (h : MerkleHash). any_push_no (completes h) cs c (q.no_completion h) in
    let size = size_by cs (cs ++ c ∷ []) regs in
    record {
      same_xorbs = xorbs_by cs (cs ++ c ∷ []) regs;
      same_size = size;
      same_dependencies = deps;
      at = λ h. record {
        same_completed = done h;
        same_counted = λ f. counted_by cs (cs ++ c ∷ []) f h deps (done h) (up_to_no h cs c (q.no_progress h)) (size h);
        same_sum = λ _. sum_push_none (progress_by h) cs c (q.no_bytes h);
        same_any = λ _. any_push_no (progresses h) cs c (q.no_progress h);
      };
    }

pub sum_ext : {A : Type 0} (f g : A → ℕ) (xs : List A) → ((x : A) → f x ≡ g x) → sum_by f xs ≡ sum_by g xs
sum_ext f g xs e = let h : f ≡ g = λ i x. e x i in ap (λ k. sum_by k xs) h

pub completed_same : (cs ds : List TrackerStep) → SameCounts cs ds → (f : ℕ) → completed_of ds f ≡ completed_of cs f
completed_same cs ds s f =
    let a = ap (λ (l : List FileXorbDependency). sum_by (external_of f) l) s.same_dependencies in
    let b = ap (λ (l : List MerkleHash). sum_by (counted ds f) l) s.same_xorbs
    ∙ sum_ext (counted ds f) (counted cs f) (xorbs cs) (λ h. (s.at h).same_counted f) in
    λ i. a i + b i
