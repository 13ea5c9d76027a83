use Rattle.std.proofs.Common.{rules, ◌≡◌, ℕ, true, false, List, [], ◌∷◌, ◌++◌, refl, sym, ◌∙◌, ap, Some, None, length, map, inr}
use Rattle.std.specs.Prelude.{Option, Result, Ok, Err, OnErr, OnOk, is_err, position}
use Rattle.std.specs.Ordering.{is_eq}
use Rattle.std.proofs.lemmas.Bool.{false≢true, true≢false}
use Rattle.std.proofs.lemmas.List.{length-map, map-append}
use Rattle.xet_base.specs.declared.merklehash.MerkleHash.{MerkleHash}
use Rattle.xet_base.specs.Hashes.{hash_eq}
use Rattle.xet_base.proofs.CallerLemmas.{hash_eq-own}
use Rattle.xet_progress_state.specs.declared.hash_key.HashKey.{HashKey}
use Rattle.xet_progress_state.specs.declared.recent.Recent.{Recent}
use Rattle.xet_progress_state.specs.declared.xorb.TrackedXorb.{TrackedXorb}
use Rattle.xet_progress_state.specs.steps.Credits.{IsBare}
use Rattle.xet_progress_state.specs.steps.Indexes.{Indexes}
use Rattle.xet_progress_state.specs.steps.Keys.{key_cmp, key_of}
use Rattle.xet_progress_state.proofs.Places.{find_nothing, position_push}
use Rattle.xet_progress_state.proofs.Remembering.{indexes_to, key_look}
use Rattle.xet_progress_state.proofs.xorb.Xorbs.entry.Goals as goal

abbrev keys_of : List TrackedXorb → List HashKey
keys_of xs = map (λ (x : TrackedXorb). key_of x.hash) xs

-- what a look in the index answers of the entries
look : (xs ys : List TrackedXorb) (h : MerkleHash) (key : HashKey) (r : Recent HashKey) (o : Option ℕ) → key ≡ key_of h → Indexes key_cmp (keys_of xs) r → ((keys : List HashKey) → Indexes key_cmp keys r → o ≡ position (λ y. is_eq (key_cmp y key)) keys) → xs ≡ ys
    → o ≡ position (λ (x : TrackedXorb). hash_eq x.hash h) ys
look xs ys h key r o own ix says same =
    says (keys_of xs) ix ∙ ap (λ (k : HashKey). position (λ y. is_eq (key_cmp y k)) (keys_of xs)) own ∙ key_look (λ (x : TrackedXorb). x.hash) xs h ∙ ap (λ (l : List TrackedXorb). position (λ (x : TrackedXorb). hash_eq x.hash h) l) same

-- what a refused call leaves, and what an accepted one does
at_err : {A E P : Type 0} (r : Result A E) → is_err r ≡ true → OnErr r P → P
at_err (Ok x) e h = absurd (false≢true e)
at_err (Err y) e h = h

at_ok : {A E P : Type 0} (r : Result A E) → is_err r ≡ false → OnOk r P → P
at_ok (Ok x) e h = h
at_ok (Err y) e h = absurd (true≢false e)

pub invariant_of-self : goal.invariant_of-self
invariant_of-self c = c.remember.ensures (keys_of c.self.inside.list.items) c.self.invariant

pub invariant_of-self-then-is_err : goal.invariant_of-self-then-is_err
invariant_of-self-then-is_err c = indexes_to (c.remember.ensures (keys_of c.self.inside.list.items) c.self.invariant) (ap keys_of c.reserve.ensures.items)

pub invariant_of-self-then-is_err-2 : goal.invariant_of-self-then-is_err-2
invariant_of-self-then-is_err-2 c =
    let items = c.self.inside.list.items in
    let refused : is_err c.push.result ≡ true = search rules in
    let kept : (keys : List HashKey) → Indexes key_cmp keys c.remember.new.self → Indexes key_cmp keys c.push.new.self = at_err c.push.result refused c.push.ensures.err in
    indexes_to (kept (keys_of items) (c.remember.ensures (keys_of items) c.self.invariant)) (ap keys_of c.reserve.ensures.items)

pub invariant_of-self-2 : goal.invariant_of-self-2
invariant_of-self-2 c =
    let items = c.self.inside.list.items in
    let key = c.of-key.result in
    let accepted : is_err c.push.result ≡ false = search rules in
    let more : (keys : List HashKey) → Indexes key_cmp keys c.remember.new.self → length keys ≡ c.len-place.result → position (λ y. is_eq (key_cmp y key)) keys ≡ None → Indexes key_cmp (keys ++ key ∷ []) c.push.new.self = at_ok c.push.result accepted c.push.ensures.ok in
    let start = c.remember.ensures (keys_of items) c.self.invariant in
    let missing : c.number_of.result ≡ None = search rules in
    let absent = sym (c.number_of.ensures (keys_of items) start) ∙ missing in
    let count : c.len-place.result ≡ length items = search rules in
    let number : length (keys_of items) ≡ c.len-place.result = length-map items (λ (x : TrackedXorb). key_of x.hash) ∙ sym count in
    let pushed : c.push-2.new.self.items ≡ c.reserve.new.self.items ++ record { hash = c.args.hash; size = None; sent = 0; completed = false; parts = c.new.result } ∷ [] = search rules in
    indexes_to (more (keys_of items) start number absent)
    (ap keys_of (pushed ∙ ap (λ (l : List TrackedXorb). l ++ record { hash = c.args.hash; size = None; sent = 0; completed = false; parts = c.new.result } ∷ []) c.reserve.ensures.items) ∙ map-append (λ (x : TrackedXorb). key_of x.hash) items _ ∙ ap (λ (k : HashKey). keys_of items ++ k ∷ []) (sym c.of-key.ensures))

pub returns-in-Some-clause-place : goal.returns-in-Some-clause-place
returns-in-Some-clause-place c =
    let some : c.number_of.result ≡ Some c.in-Some.place = search rules in
    sym (look c.self.inside.list.items c.self.inside.list.items c.args.hash c.of-key.result c.remember.new.self c.number_of.result c.of-key.ensures (c.remember.ensures (keys_of c.self.inside.list.items) c.self.invariant) c.number_of.ensures refl) ∙ some

pub returns-clause-place : goal.returns-clause-place
returns-clause-place c =
    let missing : c.number_of.result ≡ None = search rules in
    let none = sym (look c.self.inside.list.items c.args.self.now c.args.hash c.of-key.result c.remember.new.self c.number_of.result c.of-key.ensures (c.remember.ensures (keys_of c.self.inside.list.items) c.self.invariant) c.number_of.ensures c.self.view_is) ∙ missing in
    let pushed : c.push-2.new.self.items ≡ c.reserve.new.self.items ++ record { hash = c.args.hash; size = None; sent = 0; completed = false; parts = c.new.result } ∷ [] = search rules in
    let same = c.reserve.ensures.items ∙ c.self.view_is in
    let count : c.len-place.result ≡ length c.args.self.now = search rules ∙ ap (λ (l : List TrackedXorb). length l) c.self.view_is in
    rw (pushed, same, count) (position_push (λ (x : TrackedXorb). hash_eq x.hash c.args.hash) c.args.self.now _ none (hash_eq-own c.args.hash))

pub returns-clause-list : goal.returns-clause-list
returns-clause-list c =
    let missing : c.number_of.result ≡ None = search rules in
    let none = sym (look c.self.inside.list.items c.args.self.now c.args.hash c.of-key.result c.remember.new.self c.number_of.result c.of-key.ensures (c.remember.ensures (keys_of c.self.inside.list.items) c.self.invariant) c.number_of.ensures c.self.view_is) ∙ missing in
    let bare : IsBare c.args.hash (record { hash = c.args.hash; size = None; sent = 0; completed = false; parts = c.new.result }) = record { hash_is = refl; no_size = refl; nothing_sent = refl; waiting = refl; no_parts = c.new.ensures } in
    let pushed : c.push-2.new.self.items ≡ c.reserve.new.self.items ++ record { hash = c.args.hash; size = None; sent = 0; completed = false; parts = c.new.result } ∷ [] = search rules in
    let same = c.reserve.ensures.items ∙ c.self.view_is in
    inr (_, bare, find_nothing (λ (x : TrackedXorb). hash_eq x.hash c.args.hash) c.args.self.now none, rw (pushed, same) refl)
