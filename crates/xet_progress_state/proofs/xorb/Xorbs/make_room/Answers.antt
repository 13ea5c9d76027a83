use Rattle.std.proofs.Common.{rules, ◌≡◌, refl, ap, true, set}
use Rattle.std.specs.Prelude.{OnOk, Result, Ok, Err}
use Rattle.std.proofs.Math.Seq.{map-set_same}
use Rattle.xet_progress_state.specs.declared.error.ProgressError.{ProgressError}
use Rattle.xet_progress_state.specs.declared.xorb.TrackedXorb.{TrackedXorb}
use Rattle.xet_progress_state.specs.steps.Keys.{key_of}
use Rattle.xet_progress_state.specs.steps.Depends.{WithPart, has_room}
use Rattle.xet_progress_state.proofs.Rooms.{alike, room_made, room_kept}
use Rattle.xet_progress_state.proofs.Remembering.{indexes_to}
use Rattle.xet_progress_state.proofs.xorb.Xorbs.make_room.Goals as goal

pub invariant_of-self : goal.invariant_of-self
invariant_of-self c =
    indexes_to c.self.invariant (map-set_same (λ (x : TrackedXorb). key_of x.hash) c.self.inside.list.items c.in_ok-place.place (record c.index_mut-xorb.result.now { parts = c.add_empty.new.self }) c.index_mut-xorb.result.now
    (ap (λ (x : TrackedXorb). key_of x.hash) c.index_mut-xorb.ensures.value))

pub returns-clause-alike : goal.returns-clause-alike
returns-clause-alike c =
    let x = c.index_mut-xorb.result.now in
    let d = c.args.dependency.now in
    alike c.args.count c.in_ok-place.place d.file_id d.xorb_hash c.args.self.now c.self.inside.list.items x (record x { parts = c.add_empty.new.self }) (search rules) (rw c.self.view_is c.in_ok-place.ensures.list)
    (rw c.self.view_is c.in_ok-place.ensures.place) c.index_mut-xorb.ensures.value refl refl refl refl c.add_empty.ensures.alike

pub returns-clause-room : goal.returns-clause-room
returns-clause-room c = go c.add_empty.result c.add_empty.ensures.ok
  where
    go : (r : Result (Unit {0}) ProgressError) → OnOk r (WithPart c.args.dependency.now.file_id c.index_mut-xorb.result.now.parts c.add_empty.new.self) → OnOk r (has_room (set c.self.inside.list.items c.in_ok-place.place (record c.index_mut-xorb.result.now { parts = c.add_empty.new.self })) c.args.dependency.now ≡ true)
    go (Ok u) w = room_made c.args.dependency.now.xorb_hash c.in_ok-place.place c.args.dependency.now.file_id c.self.inside.list.items c.index_mut-xorb.result.now (record c.index_mut-xorb.result.now { parts = c.add_empty.new.self })
        (rw c.self.view_is c.in_ok-place.ensures.place) c.index_mut-xorb.ensures.value refl w c.args.dependency.now refl refl
    go (Err e) w = w

pub returns-clause-kept : goal.returns-clause-kept
returns-clause-kept c =
    let x = c.index_mut-xorb.result.now in
    let d = c.args.dependency.now in
    room_kept d.xorb_hash c.in_ok-place.place d.file_id c.self.inside.list.items x (record x { parts = c.add_empty.new.self }) (rw c.self.view_is c.in_ok-place.ensures.place) c.index_mut-xorb.ensures.value refl c.add_empty.ensures.alike c.args.self.now
    (rw c.self.view_is c.in_ok-place.ensures.list)
