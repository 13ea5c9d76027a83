-- The tracker after a call that changes what counts in one xorb.
use Rattle.std.proofs.Common.{◌≡◌, ℕ, Bool, true, false, cond, ◌||◌, List, [], ◌∷◌, refl, sym, subst, ◌∙◌, ap, ◌+◌, ◌<◌, ◌≤◌, ◌^◌, zero, suc, length, map, get_or, set, arith}
use Rattle.std.specs.Prelude.{Option, Some, None, find, position, unwrap_or, option_map, option_and_then, is_some, All, AllPairs, nat_eq}
use Rattle.std.specs.List.{list_any, sum_by, position_or_len}
use Rattle.std.proofs.lemmas.List.{length-map, ext_get_or}
use Rattle.std.proofs.lemmas.List.FromFn.{length-enumerate_from, get_or-enumerate_from}
use Rattle.std.proofs.lemmas.List.Folds.{find-set, find_past}
use Rattle.std.proofs.lemmas.List.Sums.{sum_by-cons, passes_at_first}
use Rattle.xet_base.specs.declared.merklehash.MerkleHash.{MerkleHash}
use Rattle.xet_base.specs.Hashes.{hash_eq}
use Rattle.xet_base.proofs.CallerLemmas.{hash_eq-true, eq-hash_eq, hash_eq-chain, firsts_keeps}
use Rattle.xet_progress_state.specs.declared.step.TrackerStep.{TrackerStep}
use Rattle.xet_progress_state.specs.declared.file.TrackedFile.{TrackedFile}
use Rattle.xet_progress_state.specs.declared.xorb.TrackedXorb.{TrackedXorb}
use Rattle.xet_progress_state.specs.declared.part.Part.{Part}
use Rattle.xet_progress_state.specs.Counts.{sizes, files, grown, total_of, registered, completed_of, size_of, size_or_zero, part, counted, xorbs, registrations, is_completed, progress, dependencies, of_file, part_of, external_of, share}
use Rattle.xet_progress_state.specs.steps.Kept.{IsKept, XorbIs, XorbStands, tracked, credited_in, waiting_in}
use Rattle.xet_progress_state.specs.steps.Credits.{CanCredit, Credited, completed_in, total_in, gain_in, with_more, with_share, Advanced}
use Rattle.xet_progress_state.proofs.Pushed.{SameAt, sum_ext}
use Rattle.xet_progress_state.proofs.NewFile.{xorb_same, kept_count}
use Rattle.xet_progress_state.proofs.Places.{find_here}
use Rattle.std.proofs.lemmas.List.Elements.{All-map}
use Rattle.xet_progress_state.proofs.Bounds.{completed_le, share_zero}
use Rattle.xet_progress_state.proofs.Crediting.{sum_le_at}
use Rattle.xet_progress_state.proofs.Differ.{firsts_differ, sum_moved, hash_eq-swap}
use Rattle.xet_progress_state.proofs.Parts.{in_file, through, gains, alone}

-- two lists of calls that count alike but for one xorb
pub record Moves (cs ds : List TrackerStep) (h : MerkleHash) : Type 0 where
  pub same_sizes : sizes ds ≡ sizes cs
  pub same_growth : (f : ℕ) → grown ds f ≡ grown cs f
  pub same_xorbs : xorbs ds ≡ xorbs cs
  pub same_size : (g : MerkleHash) → size_of ds g ≡ size_of cs g
  pub same_dependencies : dependencies ds ≡ dependencies cs
  pub others : (g : MerkleHash) → hash_eq h g ≡ false → SameAt cs ds g

-- the entry at a place stands for its xorb
pub stands_at : (cs : List TrackerStep) (h : MerkleHash) (xs : List TrackedXorb) (i : ℕ) (d : TrackedXorb) → ((g : MerkleHash) → XorbIs cs g (find (λ x. hash_eq x.hash g) xs))
    → position (λ x. hash_eq x.hash h) xs ≡ Some i → XorbStands cs h (get_or xs i d)
stands_at cs h xs i d all e =
    let f = find_here (λ (x : TrackedXorb). hash_eq x.hash h) xs i d e in
    subst (λ (o : Option TrackedXorb). XorbIs cs h o) f.0 (all h)

-- no entry with a size, no registered xorb
pub not_registered : (cs : List TrackerStep) (h : MerkleHash) (o : Option TrackedXorb) → XorbIs cs h o → option_and_then (λ x. x.size) o ≡ None → size_of cs h ≡ None
not_registered cs h None a e = a.no_size
not_registered cs h (Some x) a e = sym a.size_is ∙ e

-- a new entry at the place of a xorb
pub entries_set : (cs ds : List TrackerStep) (h : MerkleHash) (xs : List TrackedXorb) (i : ℕ) (x : TrackedXorb) → position (λ x. hash_eq x.hash h) xs ≡ Some i → x.hash ≡ h → XorbStands ds h x
    → ((g : MerkleHash) → hash_eq h g ≡ false → (o : Option TrackedXorb) → XorbIs cs g o → XorbIs ds g o) → ((g : MerkleHash) → XorbIs cs g (find (λ x. hash_eq x.hash g) xs))
    → (g : MerkleHash) → XorbIs ds g (find (λ x. hash_eq x.hash g) (set xs i x))
entries_set cs ds h xs i x e own stands others all g = go (hash_eq h g) refl
  where
    here : (find (λ (y : TrackedXorb). hash_eq y.hash h) xs ≡ Some (get_or xs i x)) × (i < length xs) × (position_or_len (λ (y : TrackedXorb). hash_eq y.hash h) xs ≡ i)
    here = find_here (λ (y : TrackedXorb). hash_eq y.hash h) xs i x e

    go : (b : Bool) → hash_eq h g ≡ b → XorbIs ds g (find (λ x. hash_eq x.hash g) (set xs i x))
    go true k =
        let same = hash_eq-true h g k in
        let found = find-set (λ (y : TrackedXorb). hash_eq y.hash h) xs i x (sym here.2) here.1 (eq-hash_eq x.hash h own) in
        subst (λ (q : MerkleHash). XorbIs ds q (find (λ x. hash_eq x.hash q) (set xs i x))) same
        (subst (λ (o : Option TrackedXorb). XorbIs ds h o) (sym found) stands)
    go false k =
        let lt : position_or_len (λ (y : TrackedXorb). hash_eq y.hash h) xs < length xs = (let a = here.1 in let b = here.2 in omega (arith, a, b)) in
        let at : hash_eq (get_or xs i x).hash h ≡ true = ap (λ (n : ℕ). hash_eq (get_or xs n x).hash h) (sym here.2) ∙ passes_at_first (λ (y : TrackedXorb). hash_eq y.hash h) xs x lt in
        let old : hash_eq (get_or xs i x).hash g ≡ false = ap (λ (q : MerkleHash). hash_eq q g) (hash_eq-true (get_or xs i x).hash h at) ∙ k in
        let new : hash_eq x.hash g ≡ false = ap (λ (q : MerkleHash). hash_eq q g) own ∙ k in
        let found = find_past (λ (y : TrackedXorb). hash_eq y.hash g) xs i x x old new in
        subst (λ (o : Option TrackedXorb). XorbIs ds g o) (sym found) (others g k (find (λ x. hash_eq x.hash g) xs) (all g))

-- a registered xorb is one of the different ones
pub stands_listed : (cs : List TrackerStep) (h : MerkleHash) (z : ℕ) → size_of cs h ≡ Some z → list_any (λ y. hash_eq y h) (xorbs cs) ≡ true
stands_listed cs h z e = firsts_keeps hash_eq hash_eq-chain h (map (λ x. x.0) (registrations cs)) (any (registrations cs) e)
  where
    any : (rs : List (MerkleHash × ℕ)) → option_map (λ x. x.1) (find (λ x. hash_eq x.0 h) rs) ≡ Some z → list_any (λ y. hash_eq y h) (map (λ x. x.0) rs) ≡ true
    any [] k = cc
    any (r ∷ rs) k = go (hash_eq r.0 h) k (λ l. any rs l)
      where
        go : (b : Bool) → option_map (λ x. x.1) (cond b (Some r) (find (λ x. hash_eq x.0 h) rs)) ≡ Some z → (option_map (λ x. x.1) (find (λ x. hash_eq x.0 h) rs) ≡ Some z → list_any (λ y. hash_eq y h) (map (λ x. x.0) rs) ≡ true)
            → (b || list_any (λ y. hash_eq y h) (map (λ x. x.0) rs)) ≡ true
        go true l next = refl
        go false l next = next l

pub is_listed : (cs : List TrackerStep) (h : MerkleHash) (z : ℕ) → size_of cs h ≡ Some z → list_any (λ g. hash_eq h g) (xorbs cs) ≡ true
is_listed cs h z e = swap (xorbs cs) (stands_listed cs h z e)
  where
    swap : (hs : List MerkleHash) → list_any (λ y. hash_eq y h) hs ≡ true → list_any (λ g. hash_eq h g) hs ≡ true
    swap [] k = k
    swap (g ∷ hs) k = go (hash_eq g h) (hash_eq-swap h g) k (λ l. swap hs l)
      where
        go : (b : Bool) → hash_eq h g ≡ b → (b || list_any (λ y. hash_eq y h) hs) ≡ true → (list_any (λ y. hash_eq y h) hs ≡ true → list_any (λ g. hash_eq h g) hs ≡ true) → (hash_eq h g || list_any (λ g. hash_eq h g) hs) ≡ true
        go true m l next = ap (λ b. b || list_any (λ g. hash_eq h g) hs) m
        go false m l next = ap (λ b. b || list_any (λ g. hash_eq h g) hs) m ∙ next l

-- what a file has completed changes as its part in the xorb does
pub completed_moved : (cs ds : List TrackerStep) (h : MerkleHash) (z f : ℕ) → Moves cs ds h → size_of cs h ≡ Some z → completed_of ds f + counted cs f h ≡ completed_of cs f + counted ds f h
completed_moved cs ds h z f m e =
    let a = ap (λ l. sum_by (external_of f) l) m.same_dependencies in
    let b = ap (λ (l : List MerkleHash). sum_by (counted ds f) l) m.same_xorbs in
    let c = sum_moved (counted ds f) (counted cs f) h (xorbs cs) (firsts_differ (map (λ x. x.0) (registrations cs))) (is_listed cs h z e) (λ g k. (m.others g k).same_counted f) in
    omega (arith, a, b, c)

pub get_or-map : {A B : Type 0} (u : A → B) (xs : List A) (i : ℕ) (d : A) (e : B) → i < length xs → get_or (map u xs) i e ≡ u (get_or xs i d)
get_or-map u [] i d e h = absurd (omega (arith, h))
get_or-map u (x ∷ xs) zero d e h = refl
get_or-map u (x ∷ xs) (suc i) d e h = get_or-map u xs i d e (omega (arith, h))

pub sum_by-map : {A B : Type 0} (u : B → ℕ) (v : A → B) (xs : List A) → sum_by u (map v xs) ≡ sum_by (λ x. u (v x)) xs
sum_by-map u v [] = refl
sum_by-map u v (x ∷ xs) =
    let a = sum_by-cons u (v x) (map v xs) in
    let b = sum_by-cons (λ x. u (v x)) x xs in
    let n = sum_by-map u v xs in
    omega (arith, a, b, n)

-- the file of an id
abbrev pub file_at : List TrackerStep → ℕ → ℕ × Option ℕ
file_at cs f = (f, get_or (sizes cs) f None)

pub kept_at : (cs : List TrackerStep) (fs : List TrackedFile) (f : ℕ) (d : TrackedFile) → fs ≡ map (tracked cs) (files cs) → f < length (sizes cs) → get_or fs f d ≡ tracked cs (file_at cs f)
kept_at cs fs f d e h =
    let len = length-enumerate_from 0 (sizes cs) in
    let z : 0 + f ≡ f = omega arith in
    ap (λ (l : List TrackedFile). get_or l f d) e
    ∙ get_or-map (tracked cs) (files cs) f (0, None) d (omega (arith, h, len))
    ∙ ap (λ (x : ℕ × Option ℕ). tracked cs x) (get_or-enumerate_from 0 (sizes cs) f (0, None) h ∙ ap (λ (n : ℕ). let x : ℕ × Option ℕ = (n, get_or (sizes cs) f None) in x) z)

pub total_kept : (cs : List TrackerStep) (fs : List TrackedFile) (xs : List TrackedXorb) (t c s : ℕ) → IsKept cs fs xs t c s → total_in fs ≡ t
total_kept cs fs xs t c s k =
    ap (λ (l : List TrackedFile). total_in l) k.files_are ∙ sum_by-map (λ (f : TrackedFile). f.total) (tracked cs) (files cs) ∙ sym k.total_is

pub completed_kept : (cs : List TrackerStep) (fs : List TrackedFile) (xs : List TrackedXorb) (t c s : ℕ) → IsKept cs fs xs t c s → completed_in fs ≡ c
completed_kept cs fs xs t c s k =
    ap (λ (l : List TrackedFile). completed_in l) k.files_are ∙ sum_by-map (λ (f : TrackedFile). f.completed) (tracked cs) (files cs) ∙ sym k.completed_is

-- the xorb's entry, and where it stands; how its parts are credited
pub record Step (cs ds : List TrackerStep) (h : MerkleHash) (z sent size : ℕ) : Type 0 where
  pub moves : Moves cs ds h
  pub size_is : size_of cs h ≡ Some z
  pub partly : sent ≤ size
  pub was : (f : ℕ) → counted cs f h ≤ share (part cs f h) sent size
  pub now_is : (f : ℕ) → counted ds f h ≡ share (part cs f h) sent size
  pub fits_now : (g : MerkleHash) → is_completed ds g ≡ false → progress ds g ≤ size_or_zero ds g

module _ (cs ds : List TrackerStep) (h : MerkleHash) (z sent size : ℕ) (step : Step cs ds h z sent size) (x : TrackedXorb) (stands : XorbStands cs h x) where
  rises : All (λ p. p.credited ≤ share p.waiting sent size) x.parts
  rises k d l =
      let p = get_or x.parts k d in
      let f = (get_or x.parts k d).file in
      let a = alone (λ p. p.credited) x.parts k d l stands.differ in
      let b = stands.credits f in
      let c = alone (λ p. p.waiting) x.parts k d l stands.differ in
      let e = stands.waits f in
      let w : (get_or x.parts k d).waiting ≡ part cs f h = sym c ∙ e in
      let s = ap (λ n. share n sent size) w in
      let u = step.was f in
      omega (arith, a, b, s, u)

  share_is : (f : ℕ) → sum_by (in_file (λ p. share p.waiting sent size) f) x.parts ≡ share (part cs f h) sent size
  share_is f = through (λ n. share n sent size) (zero_share sent size) (λ p. p.waiting) f x.parts stands.differ ∙ ap (λ n. share n sent size) (stands.waits f)
    where
      zero_share : (c s : ℕ) → share 0 c s ≡ 0
      zero_share c s = share_zero 0 c s refl

  gain_is : (f : ℕ) → sum_by (gain_in sent size f) x.parts + counted cs f h ≡ counted ds f h
  gain_is f =
      let a = gains sent size f x.parts rises in
      let b = stands.credits f in
      let c = share_is f in
      let d = step.now_is f in
      omega (arith, a, b, c, d)

  completed_is : (f : ℕ) → completed_of cs f + sum_by (gain_in sent size f) x.parts ≡ completed_of ds f
  completed_is f =
      let a = completed_moved cs ds h z f step.moves step.size_is in
      let b = gain_is f in
      omega (arith, a, b)

  module _ (fs : List TrackedFile) (xs : List TrackedXorb) (t c s : ℕ) (k : IsKept cs fs xs t c s) where
    count : length fs ≡ length (sizes cs)
    count = kept_count cs fs xs t c s k

    pub can_credit : t < 2 ^ 64 → CanCredit fs x.parts sent size
    can_credit small = record {
      partly = step.partly;
      known = λ i d l. let a = stands.known i d l in let b = count in omega (arith, a, b);
      rises = rises;
      room = λ f d l.
          let at = kept_at cs fs f d k.files_are (let b = count in omega (arith, l, b)) in
          let done = ap (λ (g : TrackedFile). g.completed) at in
          let reg = ap (λ (g : TrackedFile). g.registered) at in
          let within = k.within f d l in
          let more = completed_is f in
          let bound = completed_le ds step.fits_now f in
          let same = ap (λ l. sum_by (of_file f) l) step.moves.same_dependencies in
          omega (arith, done, reg, within, more, bound, same);
      fits = let a = total_kept cs fs xs t c s k in omega (arith, a, small);
    }

    module _ (gs : List TrackedFile) (len : length gs ≡ length fs) (credited : Credited fs gs x.parts sent size) where
      moved_at : (f : ℕ) (d : TrackedFile) → f < length gs → get_or gs f d ≡ get_or (map (tracked ds) (files ds)) f d
      moved_at f d l =
          let inside : f < length (sizes cs) = (let b = count in omega (arith, l, len, b)) in
          let inside' : f < length (sizes ds) = (let b = ap (λ (l : List (Option ℕ)). length l) step.moves.same_sizes in omega (arith, inside, b)) in
          let n = sum_by (gain_in sent size f) x.parts in
          let old : get_or gs f d ≡ with_more (sum_by (gain_in sent size f) x.parts) (tracked cs (file_at cs f)) =
          credited f d (let b = len in omega (arith, l, b)) ∙ ap (λ (g : TrackedFile). with_more (sum_by (gain_in sent size f) x.parts) g) (kept_at cs fs f d k.files_are inside) in
          let fixed : get_or (sizes ds) f None ≡ get_or (sizes cs) f None = ap (λ (l : List (Option ℕ)). get_or l f None) step.moves.same_sizes in
          let total : total_of ds (file_at ds f) ≡ total_of cs (file_at cs f) = (let a = fixed in let b = step.moves.same_growth f in λ i. unwrap_or (a i) (b i)) in
          let reg : registered ds f ≡ registered cs f = ap (λ l. sum_by (of_file f) l) step.moves.same_dependencies in
          let done = completed_is f in
          let new : with_more (sum_by (gain_in sent size f) x.parts) (tracked cs (file_at cs f)) ≡ tracked ds (file_at ds f) =
          λ i. record { fixed = is_some (sym fixed i); total = sym total i; registered = sym reg i; completed = done i } in
          old ∙ new ∙ sym (kept_at ds (map (tracked ds) (files ds)) f d refl inside')

      pub files_moved : gs ≡ map (tracked ds) (files ds)
      files_moved =
          let a = length-map (files ds) (tracked ds) in
          let b = length-enumerate_from 0 (sizes ds) in
          let e = ap (λ (l : List (Option ℕ)). length l) step.moves.same_sizes in
          let f = count in
          ext_get_or (record { fixed = false; total = 0; registered = 0; completed = 0 }) gs (map (tracked ds) (files ds)) (omega (arith, a, b, e, f, len)) (λ i l. moved_at i (record { fixed = false; total = 0; registered = 0; completed = 0 }) l)

      within_moved : All (λ (f : TrackedFile). f.registered ≤ f.total) gs
      within_moved i d l =
          let inside : i < length fs = omega (arith, l, len) in
          let e = credited i d inside in
          let a = ap (λ (f : TrackedFile). f.registered) e in
          let b = ap (λ (f : TrackedFile). f.total) e in
          let w = k.within i d inside in
          omega (arith, a, b, w)

      module _ (y : TrackedXorb) (adv : Advanced x y sent size) where
        pub stands_moved : y.completed ≡ is_completed ds h → (y.completed ≡ false → y.sent ≡ progress ds h) → XorbStands ds h y
        stands_moved done sum = record {
          size_is = adv.same_size ∙ stands.size_is ∙ sym (step.moves.same_size h);
          completed_is = done;
          sent_is = sum;
          waits = λ f. ap (λ (l : List Part). sum_by (waiting_in f) l) adv.parts_are ∙ sum_by-map (waiting_in f) (with_share sent size) x.parts ∙ stands.waits f ∙ sym (ap (λ l. sum_by (part_of f h) l) step.moves.same_dependencies);
          credits = λ f. ap (λ (l : List Part). sum_by (credited_in f) l) adv.parts_are ∙ sum_by-map (credited_in f) (with_share sent size) x.parts ∙ share_is f ∙ sym (step.now_is f);
          known = subst (λ (l : List Part). All (λ p. p.file < length (sizes ds)) l) (sym adv.parts_are)
              (subst (λ (l : List (Option ℕ)). All (λ p. p.file < length l) (map (with_share sent size) x.parts)) (sym step.moves.same_sizes) (All-map (λ (p : Part). p.file < length (sizes cs)) (with_share sent size) x.parts stands.known));
          differ = subst (λ (l : List Part). AllPairs (λ p q. nat_eq p.file q.file ≡ false) l) (sym adv.parts_are) (pairs x.parts stands.differ);
        }
          where
            pairs : (ps : List Part) → AllPairs (λ p q. nat_eq p.file q.file ≡ false) ps → AllPairs (λ p q. nat_eq p.file q.file ≡ false) (map (with_share sent size) ps)
            pairs ps h i j d l m =
                let n = length-map ps (with_share sent size) in
                let a = get_or-map (with_share sent size) ps i d d (omega (arith, l, m, n)) in
                let b = get_or-map (with_share sent size) ps j d d (omega (arith, m, n)) in
                rw (a, b) (h i j d l (omega (arith, m, n)))

        pub kept_moved : (i r : ℕ) → position (λ x. hash_eq x.hash h) xs ≡ Some i → x.hash ≡ h → y.completed ≡ is_completed ds h → (y.completed ≡ false → y.sent ≡ progress ds h) → r ≡ completed_in gs → IsKept ds gs (set xs i y) t r s
        kept_moved i r pos own done sum e = record {
          files_are = files_moved;
          total_is =
              let a = k.total_is in
              let b = sum_by-map (λ (f : TrackedFile). f.total) (tracked ds) (files ds) in
              let d = ap (λ (l : List TrackedFile). total_in l) files_moved in
              let f = total_kept cs fs xs t c s k in
              let g = sum_same_at (λ (f : TrackedFile). f.total) gs fs len (λ k d l. ap (λ (f : TrackedFile). f.total) (credited k d l)) in
              omega (arith, a, b, d, f, g);
          completed_is =
              let b = sum_by-map (λ (f : TrackedFile). f.completed) (tracked ds) (files ds) in
              let d = ap (λ (l : List TrackedFile). completed_in l) files_moved in
              omega (arith, b, d, e);
          sizes_are = k.sizes_are ∙ sym (ap (λ (l : List MerkleHash). sum_by (size_or_zero ds) l) step.moves.same_xorbs ∙ sum_ext (size_or_zero ds) (size_or_zero cs) (xorbs cs) (λ g. ap (λ (o : Option ℕ). unwrap_or o 0) (step.moves.same_size g)));
          xorbs_are = entries_set cs ds h xs i y pos (adv.same_hash ∙ own) (stands_moved done sum)
              (λ g n o a. xorb_same cs ds g step.moves.same_dependencies (step.moves.same_size g) (step.moves.others g n) (let b = ap (λ (l : List (Option ℕ)). length l) step.moves.same_sizes in omega (arith, b)) o a) k.xorbs_are;
          within = within_moved;
          plain = record {
            no_growth = λ f l. step.moves.same_growth f ∙ k.plain.no_growth f (let b = ap (λ (l : List (Option ℕ)). length l) step.moves.same_sizes in omega (arith, b, l));
            no_dependency = λ f l. ap (λ l. sum_by (of_file f) l) step.moves.same_dependencies ∙ k.plain.no_dependency f (let b = ap (λ (l : List (Option ℕ)). length l) step.moves.same_sizes in omega (arith, b, l));
            no_completion = λ g n. not_here g n (λ o. o.same_completed ∙ k.plain.no_completion g (sym (step.moves.same_size g) ∙ n));
            fits = step.fits_now;
            no_progress = λ g n. not_here g n (λ o. let w = sym (step.moves.same_size g) ∙ n in o.same_any w ∙ k.plain.no_progress g w);
          };
        }
          where
            not_here : {P : Type 0} (g : MerkleHash) → size_of ds g ≡ None → (SameAt cs ds g → P) → P
            not_here {P} g n u = go (hash_eq h g) refl
              where
                go : (b : Bool) → hash_eq h g ≡ b → P
                go true q =
                    let same = hash_eq-true h g q in
                    let none : size_of cs h ≡ None = ap (λ (k : MerkleHash). size_of cs k) same ∙ sym (step.moves.same_size g) ∙ n in
                    let some = step.size_is in
                    absurd (cc)
                go false q = u (step.moves.others g q)

            sum_same_at : {A : Type 0} (u : A → ℕ) (us vs : List A) → length us ≡ length vs → ((k : ℕ) (d : A) → k < length vs → u (get_or us k d) ≡ u (get_or vs k d)) → sum_by u us ≡ sum_by u vs
            sum_same_at u us vs len h =
                let a = sum_le_at u u us vs len (λ k d l. let e = h k d l in omega (arith, e)) in
                let b = sum_le_at u u vs us (sym len) (λ k d l. let e = h k d (omega (arith, l, len)) in omega (arith, e)) in
                omega (arith, a, b)
