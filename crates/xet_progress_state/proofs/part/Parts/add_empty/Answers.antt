use Rattle.std.proofs.Common.{rules, ◌≡◌, ℕ, List, [], ◌∷◌, ◌++◌, refl, sym, ◌∙◌, ap, inl, inr, Some, None, true, false, length, map}
use Rattle.std.specs.Prelude.{Option, Result, Ok, Err, OnErr, OnOk, is_err, position, nat_eq, is_some}
use Rattle.std.specs.List.{list_any}
use Rattle.std.specs.Ordering.{is_eq, nat_cmp}
use Rattle.std.proofs.lemmas.Bool.{false≢true, true≢false}
use Rattle.std.proofs.lemmas.List.{length-map, map-append}
use Rattle.xet_base.proofs.CallerLemmas.{position_some, position_no}
use Rattle.xet_progress_state.specs.declared.part.Part.{Part}
use Rattle.xet_progress_state.specs.declared.recent.Recent.{Recent}
use Rattle.xet_progress_state.specs.steps.Indexes.{Indexes}
use Rattle.xet_progress_state.proofs.Groups.{none_some}
use Rattle.xet_progress_state.proofs.Indexed.{numbered}
use Rattle.xet_progress_state.proofs.Remembering.{indexes_to}
use Rattle.xet_progress_state.proofs.part.Parts.add_empty.Goals as goal

abbrev files : List Part → List ℕ
files ps = map (λ (p : Part). p.file) ps

there : (o : Option ℕ) (f : ℕ) (ps : List Part) → is_some o ≡ true → o ≡ position (λ (p : Part). nat_eq p.file f) ps → list_any (λ (p : Part). nat_eq p.file f) ps ≡ true
there None f ps e h = absurd (cc)
there (Some k) f ps e h = (position_some (λ (p : Part). nat_eq p.file f) ps k (sym h)).0

absent : (o : Option ℕ) (f : ℕ) (ps : List Part) → is_some o ≡ false → o ≡ position (λ (p : Part). nat_eq p.file f) ps → position (λ (p : Part). nat_eq p.file f) ps ≡ None
absent None f ps e h = sym h
absent (Some k) f ps e h = absurd (cc)

-- what a look in the index answers of the parts
look : (ps qs : List Part) (f : ℕ) (r : Recent ℕ) (o : Option ℕ) → Indexes nat_cmp (files ps) r → ((keys : List ℕ) → Indexes nat_cmp keys r → o ≡ position (λ y. is_eq (nat_cmp y f)) keys) → ps ≡ qs → o ≡ position (λ (p : Part). nat_eq p.file f) qs
look ps qs f r o ix says same = says (files ps) ix ∙ numbered (λ (p : Part). p.file) f ps (files ps) refl ∙ ap (λ (l : List Part). position (λ (p : Part). nat_eq p.file f) l) same

pub returns-then-is_some-clause-ok : goal.returns-then-is_some-clause-ok
returns-then-is_some-clause-ok c =
    let some : is_some c.number_of.result ≡ true = search rules in
    let e = look c.self.inside.list.items c.args.self.now c.args.file c.remember.new.self c.number_of.result (c.remember.ensures (files c.self.inside.list.items) c.self.invariant) c.number_of.ensures c.self.view_is in
    inl (there c.number_of.result c.args.file c.args.self.now some e, c.self.view_is)

pub returns-then-is_some-clause-alike : goal.returns-then-is_some-clause-alike
returns-then-is_some-clause-alike c = inl c.self.view_is

pub invariant_of-self : goal.invariant_of-self
invariant_of-self c = c.remember.ensures (files c.self.inside.list.items) c.self.invariant

-- what a refused call leaves, and what an accepted one does
at_err : {A E P : Type 0} (r : Result A E) → is_err r ≡ true → OnErr r P → P
at_err (Ok x) e h = absurd (false≢true e)
at_err (Err y) e h = h

at_ok : {A E P : Type 0} (r : Result A E) → is_err r ≡ false → OnOk r P → P
at_ok (Ok x) e h = h
at_ok (Err y) e h = absurd (true≢false e)

pub invariant_of-self-then-is_err : goal.invariant_of-self-then-is_err
invariant_of-self-then-is_err c = indexes_to (c.remember.ensures (files c.self.inside.list.items) c.self.invariant) (ap files c.reserve.ensures.items)

pub invariant_of-self-then-is_err-2 : goal.invariant_of-self-then-is_err-2
invariant_of-self-then-is_err-2 c =
    let items = c.self.inside.list.items in
    let refused : is_err c.push.result ≡ true = search rules in
    let kept : (keys : List ℕ) → Indexes nat_cmp keys c.remember.new.self → Indexes nat_cmp keys c.push.new.self = at_err c.push.result refused c.push.ensures.err in
    indexes_to (kept (files items) (c.remember.ensures (files items) c.self.invariant)) (ap files c.reserve.ensures.items)

pub invariant_of-self-2 : goal.invariant_of-self-2
invariant_of-self-2 c =
    let items = c.self.inside.list.items in
    let accepted : is_err c.push.result ≡ false = search rules in
    let more : (keys : List ℕ) → Indexes nat_cmp keys c.remember.new.self → length keys ≡ c.len-number.result → position (λ y. is_eq (nat_cmp y c.args.file)) keys ≡ None → Indexes nat_cmp (keys ++ c.args.file ∷ []) c.push.new.self = at_ok c.push.result accepted c.push.ensures.ok in
    let start = c.remember.ensures (files items) c.self.invariant in
    let none : is_some c.number_of.result ≡ false = search rules in
    let missing = sym (c.number_of.ensures (files items) start) ∙ none_some c.number_of.result none in
    let count : c.len-number.result ≡ length items = search rules in
    let number : length (files items) ≡ c.len-number.result = length-map items (λ (p : Part). p.file) ∙ sym count in
    let pushed : c.push-2.new.self.items ≡ c.reserve.new.self.items ++ record { file = c.args.file; waiting = 0; credited = 0 } ∷ [] = search rules in
    indexes_to (more (files items) start number missing)
    (ap files (pushed ∙ ap (λ (l : List Part). l ++ record { file = c.args.file; waiting = 0; credited = 0 } ∷ []) c.reserve.ensures.items) ∙ map-append (λ (p : Part). p.file) items _)

pub returns-clause-ok : goal.returns-clause-ok
returns-clause-ok c =
    let none : is_some c.number_of.result ≡ false = search rules in
    let e = look c.self.inside.list.items c.args.self.now c.args.file c.remember.new.self c.number_of.result (c.remember.ensures (files c.self.inside.list.items) c.self.invariant) c.number_of.ensures c.self.view_is in
    let p : c.push-2.new.self.items ≡ c.reserve.new.self.items ++ record { file = c.args.file; waiting = 0; credited = 0 } ∷ [] = search rules in
    inr (
      position_no (λ (p : Part). nat_eq p.file c.args.file) c.args.self.now (absent c.number_of.result c.args.file c.args.self.now none e),
      p ∙ ap (λ (l : List Part). l ++ record { file = c.args.file; waiting = 0; credited = 0 } ∷ []) (c.reserve.ensures.items ∙ c.self.view_is),
    )

pub returns-clause-alike : goal.returns-clause-alike
returns-clause-alike c = inr (returns-clause-ok c)
