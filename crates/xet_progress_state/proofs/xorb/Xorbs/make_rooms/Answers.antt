use Rattle.std.proofs.Common.{◌≡◌, ◌+◌, ◌<◌, ℕ, Bool, List, true, false, length, get_or, refl, ◌∙◌, ap, arith}
use Rattle.std.specs.Prelude.{nat_eq}
use Rattle.std.proofs.lemmas.Bool.{eqb-true, eqb-false}
use Rattle.std.proofs.lemmas.List.{get_or_default}
use Rattle.xet_base.proofs.CallerLemmas.{err-of}
use Rattle.xet_progress_state.specs.declared.step.FileXorbDependency.{FileXorbDependency}
use Rattle.xet_progress_state.specs.declared.xorb.TrackedXorb.{TrackedXorb}
use Rattle.xet_progress_state.specs.steps.Depends.{has_room}
use Rattle.xet_progress_state.proofs.xorb.Xorbs.make_rooms.Goals as goal

-- room for one dependency more
room_more : (xs ys : List TrackedXorb) (ds : List FileXorbDependency) (i : ℕ) (e : FileXorbDependency) → ((d : FileXorbDependency) → has_room xs d ≡ true → has_room ys d ≡ true) → ((k : ℕ) (d : FileXorbDependency) → k < i → has_room xs (get_or ds k d) ≡ true) → i < length ds
    → has_room ys (get_or ds i e) ≡ true → (k : ℕ) (d : FileXorbDependency) → k < i + 1 → has_room ys (get_or ds k d) ≡ true
room_more xs ys ds i e kept so_far at here k d l = go (nat_eq k i) refl
  where
    go : (b : Bool) → nat_eq k i ≡ b → has_room ys (get_or ds k d) ≡ true
    go true q = ap (λ (j : ℕ). has_room ys (get_or ds j d)) (eqb-true k i q) ∙ ap (λ (x : FileXorbDependency). has_room ys x) (get_or_default ds i d e at) ∙ here
    go false q = let other = eqb-false k i q in kept (get_or ds k d) (so_far k d (omega (arith, l, other)))

pub loop-dependency-preserved : goal.loop-dependency-preserved
loop-dependency-preserved c =
    let l = c.loop-dependency in
    record {
      alike = λ cs fs t d s len kept. c.make_room.ensures.alike cs fs t d s len (l.invariant.alike cs fs t d s len kept);
      room = room_more l.self c.make_room.new.self c.args.dependencies.now l.dependency-index _ c.make_room.ensures.kept l.invariant.room c.loop-dependency-test.true c.in_ok-make_room.ensures.room;
    }

pub returns-in_err-make_room : goal.returns-in_err-make_room
returns-in_err-make_room c =
    let l = c.loop-dependency in
    rw (err-of _ _ c.from_residual.ensures) (record {
      alike = λ cs fs t d s len kept. c.make_room.ensures.alike cs fs t d s len (l.invariant.alike cs fs t d s len kept);
      room = tt;
      memory = c.in_err-make_room.ensures.memory;
    })
