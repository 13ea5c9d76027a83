use Rattle.std.proofs.Common.{rules, ◌≡◌, refl, ◌∙◌, ap, sym, Some, None, set}
use Rattle.std.specs.Prelude.{position}
use Rattle.std.proofs.Math.Seq.{map-set_same}
use Rattle.xet_base.specs.Hashes.{hash_eq}
use Rattle.xet_progress_state.specs.declared.xorb.TrackedXorb.{TrackedXorb}
use Rattle.xet_progress_state.specs.steps.Keys.{key_of}
use Rattle.xet_progress_state.proofs.Places.{find_here}
use Rattle.xet_progress_state.proofs.Rooms.{no_room, waited, room_waited}
use Rattle.xet_progress_state.proofs.Remembering.{indexes_to}
use Rattle.xet_progress_state.proofs.xorb.Xorbs.wait.Goals as goal

pub returns-in_default : goal.returns-in_default
returns-in_default c =
    let none : position (λ (x : TrackedXorb). hash_eq x.hash c.args.dependency.now.xorb_hash) c.args.self.now ≡ None = search rules in
    absurd (no_room c.args.self.now c.args.dependency.now none c.requires.outside c.requires.room)

pub wait-requires : goal.wait-requires
wait-requires c =
    let place : position (λ (x : TrackedXorb). hash_eq x.hash c.args.dependency.now.xorb_hash) c.args.self.now ≡ Some c.in-Some.place = search rules in
    let at = rw c.self.view_is at c.index_mut-xorb.ensures.value in
    let here = find_here (λ (x : TrackedXorb). hash_eq x.hash c.args.dependency.now.xorb_hash) c.args.self.now c.in-Some.place c.index_mut-xorb.result.now place in
    c.requires.fits c.index_mut-xorb.result.now (here.0 ∙ ap (λ (x : TrackedXorb). Some x) (sym at))

pub invariant_of-self : goal.invariant_of-self
invariant_of-self c =
    indexes_to c.self.invariant (map-set_same (λ (x : TrackedXorb). key_of x.hash) c.self.inside.list.items c.in-Some.place (record c.index_mut-xorb.result.now { parts = c.wait.new.self }) c.index_mut-xorb.result.now
    (ap (λ (x : TrackedXorb). key_of x.hash) c.index_mut-xorb.ensures.value))

pub returns-clause-step : goal.returns-clause-step
returns-clause-step c =
    let place : position (λ (x : TrackedXorb). hash_eq x.hash c.args.dependency.now.xorb_hash) c.args.self.now ≡ Some c.in-Some.place = search rules in
    let at = rw c.self.view_is at c.index_mut-xorb.ensures.value in
    let x = c.index_mut-xorb.result.now in
    rw c.self.view_is (waited c.args.self.now c.args.dependency.now c.in-Some.place x (record x { parts = c.wait.new.self }) place at c.requires.outside c.requires.room refl refl refl refl c.wait.ensures)

pub returns-clause-kept : goal.returns-clause-kept
returns-clause-kept c = room_waited c.args.self.now (set c.self.inside.list.items c.in-Some.place (record c.index_mut-xorb.result.now { parts = c.wait.new.self })) c.args.dependency.now c.index_mut-xorb.result.now.completed (returns-clause-step c)
