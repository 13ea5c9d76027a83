use Rattle.std.proofs.Common.{rules, ◌≡◌, ◌+◌, ◌<◌, ◌≤◌, ◌^◌, ℕ, true, false, cond, not, List, [], ◌∷◌, ◌++◌, refl, ◌∙◌, ap, sym, Some, None, get_or}
use Rattle.std.specs.Prelude.{Option, position, is_some}
use Rattle.std.proofs.lemmas.Bool.{eq-eqb, ne_eqb}
use Rattle.std.proofs.lemmas.List.{get_or_default}
use Rattle.xet_base.specs.declared.merklehash.MerkleHash.{MerkleHash}
use Rattle.xet_base.specs.Hashes.{hash_eq}
use Rattle.xet_base.specs.declared.invalid.Invalid.TheVariants.{OtherSize, SumTooGreat}
use Rattle.xet_progress_state.specs.declared.step.TrackerStep.{TrackerStep}
use Rattle.xet_progress_state.specs.declared.step.TrackerStep.TheVariants.{RegisterNewXorb}
use Rattle.xet_progress_state.specs.declared.xorb.TrackedXorb.{TrackedXorb}
use Rattle.xet_progress_state.specs.Counts.{size_of, new_file, growth}
use Rattle.xet_progress_state.specs.Accepted.{xorb_test, too_great}
use Rattle.xet_progress_state.proofs.Looked.{looked, missed, refused_by, accepted_by, too_great_no, too_great_yes, own_at}
use Rattle.xet_progress_state.proofs.Steps.{kept_same}
use Rattle.xet_progress_state.proofs.Pushed.{flat_push_none, sum_push_none}
use Rattle.xet_progress_state.proofs.NewXorb.{again, kept_entered, kept_registered}
use Rattle.xet_progress_state.proofs.Places.{find_here}
use Rattle.xet_progress_state.proofs.NewFile.{kept_to}
use Rattle.xet_progress_state.proofs.Named.{names_again, names_new}
use Rattle.xet_progress_state.proofs.state.TrackerState.register_new_xorb.Goals as goal

-- the test and the reply at a xorb that is registered, and at one that is not
test_at : (cs : List TrackerStep) (h : MerkleHash) (z : ℕ) (o : Option ℕ) → size_of cs h ≡ o → xorb_test cs z (size_of cs h) ≡ xorb_test cs z o
test_at cs h z o e = ap (λ (o : Option ℕ). xorb_test cs z o) e

reply_at : (cs : List TrackerStep) (h : MerkleHash) (o : Option ℕ) → size_of cs h ≡ o → not (is_some o) ≡ not (is_some (size_of cs h))
reply_at cs h o e = sym (ap (λ (o : Option ℕ). not (is_some o)) e)

-- an entry to stand where there is none
abbrev blank : MerkleHash → TrackedXorb
blank h = record { hash = h; size = None; sent = 0; completed = false; parts = [] }

pub returns-then-found-xorb_size : goal.returns-then-found-xorb_size
returns-then-found-xorb_size c =
    let s = c.self.inside in
    let l = looked s.calls.items c.args.xorb_hash s.files.items s.xorbs s.total s.completed s.sizes c.in-Some.found c.self.invariant.kept (rw c.remember.ensures at c.in-Some.ensures.some) in
    rw (← c.self.view_is) (refused_by s.calls.items (RegisterNewXorb c.args.xorb_hash c.args.xorb_size) (not (is_some (size_of s.calls.items c.args.xorb_hash))) (OtherSize c.in-Some.found.size c.args.xorb_size)
    (test_at s.calls.items c.args.xorb_hash c.args.xorb_size (Some c.in-Some.found.size) l.size
    ∙ ap (λ b. cond b None (Some (OtherSize c.in-Some.found.size c.args.xorb_size))) (ne_eqb c.in-Some.found.size c.args.xorb_size c.if-found-xorb_size.true)))

pub invariant_of-self-in-Some : goal.invariant_of-self-in-Some
invariant_of-self-in-Some c =
    let s = c.self.inside in
    let l = looked s.calls.items c.args.xorb_hash s.files.items s.xorbs s.total s.completed s.sizes c.in-Some.found c.self.invariant.kept (rw c.remember.ensures at c.in-Some.ensures.some) in
    record {
      kept = kept_to (kept_same s.calls.items (s.calls.items ++ RegisterNewXorb c.args.xorb_hash c.args.xorb_size ∷ []) s.files.items s.xorbs s.total s.completed s.sizes
          (again c.args.xorb_hash c.args.xorb_size s.calls.items c.in-Some.found.size l.size)
          (flat_push_none new_file s.calls.items (RegisterNewXorb c.args.xorb_hash c.args.xorb_size) refl) (λ f. sum_push_none (growth f) s.calls.items (RegisterNewXorb c.args.xorb_hash c.args.xorb_size) refl) c.self.invariant.kept)
          c.and-self-inside.ensures refl c.remember.ensures refl refl refl;
      names = names_again s.calls.items c.and-self-inside.result.items c.args.xorb_hash c.args.xorb_size c.in-Some.found.size s.names c.self.invariant.names l.size c.and-self-inside.ensures;
      marked = c.self.invariant.marked;
    }

pub returns-in-Some : goal.returns-in-Some
returns-in-Some c =
    let s = c.self.inside in
    let l = looked s.calls.items c.args.xorb_hash s.files.items s.xorbs s.total s.completed s.sizes c.in-Some.found c.self.invariant.kept (rw c.remember.ensures at c.in-Some.ensures.some) in
    rw (← c.self.view_is) (accepted_by s.calls.items c.and-self-inside.result.items (RegisterNewXorb c.args.xorb_hash c.args.xorb_size) (not (is_some (size_of s.calls.items c.args.xorb_hash))) false
    (test_at s.calls.items c.args.xorb_hash c.args.xorb_size (Some c.in-Some.found.size) l.size
    ∙ ap (λ b. cond b None (Some (OtherSize c.in-Some.found.size c.args.xorb_size))) (eq-eqb c.in-Some.found.size c.args.xorb_size c.if-found-xorb_size.false))
    (reply_at s.calls.items c.args.xorb_hash (Some c.in-Some.found.size) l.size) c.and-self-inside.ensures)

pub returns-in_default-checked_add : goal.returns-in_default-checked_add
returns-in_default-checked_add c =
    let s = c.self.inside in
    let none = missed s.calls.items c.args.xorb_hash s.files.items s.xorbs s.total s.completed s.sizes c.self.invariant.kept (rw c.remember.ensures at c.in_default.ensures.none) in
    let over : 2 ^ 64 ≤ s.sizes + c.args.xorb_size = search rules in
    rw (← c.self.view_is) (refused_by s.calls.items (RegisterNewXorb c.args.xorb_hash c.args.xorb_size) (not (is_some (size_of s.calls.items c.args.xorb_hash))) (SumTooGreat s.sizes c.args.xorb_size)
    (test_at s.calls.items c.args.xorb_hash c.args.xorb_size None none ∙ ap (λ n. too_great n c.args.xorb_size) (sym c.self.invariant.kept.sizes_are) ∙ too_great_yes s.sizes c.args.xorb_size over))

pub invariant_of-self-2 : goal.invariant_of-self-2
invariant_of-self-2 c =
    let s = c.self.inside in
    let none = missed s.calls.items c.args.xorb_hash s.files.items s.xorbs s.total s.completed s.sizes c.self.invariant.kept (rw c.remember.ensures at c.in_default.ensures.none) in
    let k = kept_entered s.calls.items s.files.items s.xorbs c.entry.new.self s.total s.completed s.sizes c.args.xorb_hash c.self.invariant.kept (rw c.remember.ensures at c.in_ok-place.ensures.list) in
    let pos : position (λ (x : TrackedXorb). hash_eq x.hash c.args.xorb_hash) c.entry.new.self ≡ Some c.in_ok-place.place = search rules in
    let x = get_or c.entry.new.self c.in_ok-place.place (blank c.args.xorb_hash) in
    let here = find_here (λ (x : TrackedXorb). hash_eq x.hash c.args.xorb_hash) c.entry.new.self c.in_ok-place.place (blank c.args.xorb_hash) pos in
    let at : x ≡ get_or c.entry.new.self c.in_ok-place.place x = get_or_default c.entry.new.self c.in_ok-place.place (blank c.args.xorb_hash) x here.1 in
    record {
      kept = kept_to (kept_registered c.args.xorb_hash c.args.xorb_size s.calls.items k.plain none s.files.items c.entry.new.self s.total s.completed s.sizes c.in_ok-place.place x k pos at
          (ap (λ (y : TrackedXorb). y.hash) at ∙ own_at c.args.xorb_hash c.entry.new.self c.in_ok-place.place x pos))
          c.and-self-inside-2.ensures refl (c.register.ensures (blank c.args.xorb_hash)) refl refl (search rules);
      names = names_new s.calls.items c.and-self-inside-2.result.items c.args.xorb_hash c.args.xorb_size s.names c.add.new.self c.self.invariant.names c.in_ok-add.ensures.ok c.and-self-inside-2.ensures;
      marked = c.self.invariant.marked;
    }

pub invariant_of-self-in_err-add : goal.invariant_of-self-in_err-add
invariant_of-self-in_err-add c =
    let s = c.self.inside in
    record {
      kept = kept_entered s.calls.items s.files.items s.xorbs c.entry.new.self s.total s.completed s.sizes c.args.xorb_hash c.self.invariant.kept (rw c.remember.ensures at c.in_ok-place.ensures.list);
      names = search (rules, c.self.invariant.names);
      marked = c.self.invariant.marked;
    }

pub returns : goal.returns
returns c =
    let s = c.self.inside in
    let none = missed s.calls.items c.args.xorb_hash s.files.items s.xorbs s.total s.completed s.sizes c.self.invariant.kept (rw c.remember.ensures at c.in_default.ensures.none) in
    let sum : c.in-Some-checked_add.sizes ≡ s.sizes + c.args.xorb_size = search rules in
    let under : s.sizes + c.args.xorb_size < 2 ^ 64 = search rules in
    rw (← c.self.view_is) (accepted_by s.calls.items c.and-self-inside-2.result.items (RegisterNewXorb c.args.xorb_hash c.args.xorb_size) (not (is_some (size_of s.calls.items c.args.xorb_hash))) true
    (test_at s.calls.items c.args.xorb_hash c.args.xorb_size None none ∙ ap (λ n. too_great n c.args.xorb_size) (sym c.self.invariant.kept.sizes_are) ∙ too_great_no s.sizes c.args.xorb_size under)
    (reply_at s.calls.items c.args.xorb_hash None none) c.and-self-inside-2.ensures)

pub invariant_of-self : goal.invariant_of-self
invariant_of-self c = record { kept = kept_to c.self.invariant.kept refl refl c.remember.ensures refl refl refl; names = c.self.invariant.names; marked = c.self.invariant.marked }
