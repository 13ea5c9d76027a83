use Rattle.std.proofs.Common.{arith, ◌∙◌, ◌<◌, ◌≤◌, length, get_or, ap, []}
use Rattle.std.proofs.lemmas.List.{get_or_default}
use Rattle.xet_base.specs.declared.stored.StoredTerm.{StoredTerm}
use Rattle.xet_base.specs.Store.{IsTermIn}
use Rattle.xet_store.proofs.ChunkPlaces.{place_short}
use Rattle.xet_store.proofs.PlannedTerms.{planned_all, planned_from, planned_place, stored_at, walk_by, planned_room, cut_start, planned_skip_by, planned_touch_by}
use Rattle.xet_store.proofs.mem_cut.PlannedTerms.walk.Goals as goal
use Rattle.xet_store.proofs.mem_cut.PlannedTerms.walk.Goals.{then-max-min+in_ok-push+in_ok-push-2, else-max-min}

-- the default of a read
abbrev no_term : StoredTerm
no_term = record { xorb = record { 0 = [] }; from = 0; to = 0 }

pub walk-init : goal.walk-init
walk-init c = record {
  planned = rw (c.requires.none, c.requires.here)
      (planned_from c.args.store.now c.args.range c.args.terms.now c.args.self.now.reached.passed
      c.args.self.now.reached.place c.requires.walk c.requires.early);
  walk = rw c.requires.here c.requires.walk;
  reached = c.requires.walk;
}

pub overflow_add-end : goal.overflow_add-end
overflow_add-end c =
    let ts = c.args.terms.now in
    let i = c.walk.passed in
    let t = get_or ts i no_term in
    let lt : i < length ts = c.goes_on.ensures.more c.walk-test.true in
    let room = planned_room c.args.store.now c.args.range ts i c.walk.self.place c.walk.offset c.walk.self.terms t
    c.xorb_of_term-xorb.result.now.chunks
    c.walk.invariant.planned lt (get_or_default ts i no_term t lt)
    c.xorb_of_term-xorb.ensures.chunks in
    omega (arith, room, c.length_of_term.ensures, c.requires.short)

pub cut_term-cut-requires-clause-fits : goal.cut_term-cut-requires-clause-fits
cut_term-cut-requires-clause-fits c =
    let ts = c.args.terms.now in
    let i = c.walk.passed in
    let t = get_or ts i no_term in
    let lt : i < length ts = c.goes_on.ensures.more c.walk-test.true in
    let room = planned_room c.args.store.now c.args.range ts i c.walk.self.place c.walk.offset c.walk.self.terms t
    c.xorb_of_term-xorb.result.now.chunks
    c.walk.invariant.planned lt (get_or_default ts i no_term t lt)
    c.xorb_of_term-xorb.ensures.chunks in
    omega (arith, room, c.requires.short)

pub offset_in-requires-clause-some : goal.offset_in-requires-clause-some
offset_in-requires-clause-some c =
    let ts = c.args.terms.now in
    let i = c.walk.passed in
    let xs = c.xorb_of_term-xorb.result.now.chunks in
    let t = get_or ts i no_term in
    let lt : i < length ts = c.goes_on.ensures.more c.walk-test.true in
    let is : IsTermIn c.args.store.now t =
    stored_at c.args.store.now ts i t c.requires.stored lt (get_or_default ts i no_term t lt) in
    let some : t.from < t.to = is.some in
    let inside : t.to ≤ length xs = let a = is.inside in omega (
      arith,
      a,
      ap length c.xorb_of_term-xorb.ensures.chunks,
    ) in
    let s = cut_start xs c.args.range c.walk.self.place t c.cut_term-cut.result
    (omega arith) inside c.cut_term-cut.ensures in
    s.0

pub offset_in-requires-clause-inside : goal.offset_in-requires-clause-inside
offset_in-requires-clause-inside c =
    let ts = c.args.terms.now in
    let i = c.walk.passed in
    let xs = c.xorb_of_term-xorb.result.now.chunks in
    let t = get_or ts i no_term in
    let lt : i < length ts = c.goes_on.ensures.more c.walk-test.true in
    let is : IsTermIn c.args.store.now t =
    stored_at c.args.store.now ts i t c.requires.stored lt (get_or_default ts i no_term t lt) in
    let some : t.from < t.to = is.some in
    let inside : t.to ≤ length xs = let a = is.inside in omega (
      arith,
      a,
      ap length c.xorb_of_term-xorb.ensures.chunks,
    ) in
    let s = cut_start xs c.args.range c.walk.self.place t c.cut_term-cut.result
    (omega arith) inside c.cut_term-cut.ensures in
    let b = s.1 in
    omega (arith, b, inside)

pub offset_in-requires-clause-fits : goal.offset_in-requires-clause-fits
offset_in-requires-clause-fits c =
    let ts = c.args.terms.now in
    let i = c.walk.passed in
    let xs = c.xorb_of_term-xorb.result.now.chunks in
    let t = get_or ts i no_term in
    let lt : i < length ts = c.goes_on.ensures.more c.walk-test.true in
    let is : IsTermIn c.args.store.now t =
    stored_at c.args.store.now ts i t c.requires.stored lt (get_or_default ts i no_term t lt) in
    let some : t.from < t.to = is.some in
    let inside : t.to ≤ length xs = let a = is.inside in omega (
      arith,
      a,
      ap length c.xorb_of_term-xorb.ensures.chunks,
    ) in
    let s = cut_start xs c.args.range c.walk.self.place t c.cut_term-cut.result
    (omega arith) inside c.cut_term-cut.ensures in
    let room = planned_room c.args.store.now c.args.range ts i c.walk.self.place c.walk.offset c.walk.self.terms t xs
    c.walk.invariant.planned lt (get_or_default ts i no_term t lt)
    c.xorb_of_term-xorb.ensures.chunks in
    place_short xs c.walk.self.place t.from t.to c.cut_term-cut.result.range.start s.0 s.1 (omega (
      arith,
      room,
      c.requires.short,
    ))

pub walk-preserved : goal.walk-preserved
walk-preserved c =
    let s = c.args.store.now in
    let q = c.args.range in
    let ts = c.args.terms.now in
    let i = c.walk.passed in
    let xs = c.xorb_of_term-xorb.result.now.chunks in
    let t = get_or ts i no_term in
    let lt : i < length ts = c.goes_on.ensures.more c.walk-test.true in
    let at = (get_or_default ts i no_term t lt) in
    let w = c.walk.invariant in
    let is : IsTermIn s t = stored_at s ts i t c.requires.stored lt at in
    record {
      planned = elim c.if-max-min.branch [
        | then-max-min+in_ok-push+in_ok-push-2 v ↦ rw (
          v.offset-is,
          v.self-is,
          v.in_ok-push.ensures.ok,
          v.or-offset.ensures,
        )
            (planned_touch_by s q ts i c.walk.self.place c.length_of_term.result v.offset_in.result
            c.walk.offset c.walk.self.terms t xs v.cut_term-cut.result w.planned is
            c.xorb_of_term-xorb.ensures.valid.nonempty
            lt at c.xorb_of_term-xorb.ensures.chunks c.length_of_term.ensures
            (omega arith) v.cut_term-cut.ensures v.offset_in.ensures)
        | else-max-min v ↦ rw (v.offset-is, v.self-is)
            (planned_skip_by s q ts i c.walk.self.place c.length_of_term.result c.walk.offset c.walk.self.terms t xs
            w.planned lt at c.xorb_of_term-xorb.ensures.chunks c.length_of_term.ensures
            (omega arith))
      ];
      walk = walk_by s ts i c.walk.self.place c.length_of_term.result t xs w.walk lt at
          c.xorb_of_term-xorb.ensures.chunks c.length_of_term.ensures;
      reached = w.walk;
    }

pub returns-clause-terms : goal.returns-clause-terms
returns-clause-terms c =
    let w = c.walk.invariant in
    let past = c.goes_on.ensures.end c.walk-test.false in
    (planned_all c.args.store.now c.args.range c.args.terms.now c.walk.passed c.walk.self.place c.walk.offset
    c.walk.self.terms w.planned w.walk.within past).0

pub returns-clause-offset : goal.returns-clause-offset
returns-clause-offset c =
    let w = c.walk.invariant in
    let past = c.goes_on.ensures.end c.walk-test.false in
    c.unwrap_or-self.ensures
    ∙ (planned_all c.args.store.now c.args.range c.args.terms.now c.walk.passed c.walk.self.place c.walk.offset
    c.walk.self.terms w.planned w.walk.within past).1

pub returns-clause-place : goal.returns-clause-place
returns-clause-place c =
    let w = c.walk.invariant in
    let past = c.goes_on.ensures.start c.walk-test.false in
    planned_place c.args.store.now c.args.range c.args.terms.now c.walk.passed c.walk.self.place c.walk.offset
    c.walk.self.terms w.planned w.walk.within past
