use Rattle.std.proofs.Common.{rules, ◌≡◌, ℕ, ◌<◌, ◌++◌, ◌&&◌, true, false, List, [], sym, ◌∙◌, ap, length, arith}
use Rattle.std.specs.Prelude.{Option, unwrap_or}
use Rattle.xet_track.specs.Lines.{lines_of, behind}
use Rattle.xet_track.specs.Texts.{LineOf, lines_text}
use Rattle.xet_track.proofs.Running.{all_read, turn_line, turn_text, turn_whole, turn_stops, turn_reads, left_shorter}
use Rattle.xet_track.proofs.script.Script.step.Goals as goal

pub returns-then-not-branch-clause-turn : goal.returns-then-not-branch-clause-turn
returns-then-not-branch-clause-turn c =
    let s = c.self.inside in
    let some : 0 < length s.rest.now = search rules in
    let turn : LineOf s.state c.make_line.new.state c.cut.result.0.now c.args.out.now.items c.make_line.new.out.items c.in_ok-make_line.field-0 = c.in_ok-make_line.ensures.line in
    let no : c.in_ok-make_line.field-0 ≡ false = c.if-not-branch.true in
    rw (← c.self.view_is) (
      turn_stops s.state c.make_line.new.state s.rest.now c.cut.result.0.now c.args.out.now.items c.make_line.new.out.items c.in_ok-make_line.field-0 some c.cut.ensures.before turn no,
      turn_reads s.state c.make_line.new.state s.rest.now c.cut.result.0.now c.args.out.now.items c.make_line.new.out.items c.in_ok-make_line.field-0 some c.cut.ensures.before turn
          ∙ ap (λ b. b && all_read (lines_of (unwrap_or (behind 10 s.rest.now) []))) no,
      search rules,
    )

pub returns-clause-turn : goal.returns-clause-turn
returns-clause-turn c =
    let s = c.self.inside in
    let some : 0 < length s.rest.now = search rules in
    let turn : LineOf s.state c.make_line.new.state c.cut.result.0.now c.args.out.now.items c.make_line.new.out.items c.in_ok-make_line.field-0 = c.in_ok-make_line.ensures.line in
    let yes : c.in_ok-make_line.field-0 ≡ true = c.if-not-branch.false in
    let left : c.left-self-inside.result.now ≡ unwrap_or (behind 10 s.rest.now) [] = c.left-self-inside.ensures ∙ ap (λ (o : Option (List ℕ)). unwrap_or o []) c.cut.ensures.behind in
    let reads = turn_reads s.state c.make_line.new.state s.rest.now c.cut.result.0.now c.args.out.now.items c.make_line.new.out.items c.in_ok-make_line.field-0 some c.cut.ensures.before turn in
    rw (← c.self.view_is) (record {
      whole = turn_whole s.state c.make_line.new.state s.rest.now c.cut.result.0.now c.args.out.now.items c.make_line.new.out.items c.in_ok-make_line.field-0 some c.cut.ensures.before turn;
      line = turn_line s.state c.make_line.new.state s.rest.now c.cut.result.0.now c.args.out.now.items c.make_line.new.out.items c.in_ok-make_line.field-0 some c.cut.ensures.before turn;
      text =
          ap (λ (l : List ℕ). c.make_line.new.out.items ++ lines_text c.make_line.new.state (lines_of l)) left
          ∙ turn_text s.state c.make_line.new.state s.rest.now c.cut.result.0.now c.args.out.now.items c.make_line.new.out.items c.in_ok-make_line.field-0 some c.cut.ensures.before turn yes;
      reads =
          ap (λ (l : List ℕ). all_read (lines_of l)) left
          ∙ sym (reads ∙ ap (λ b. b && all_read (lines_of (unwrap_or (behind 10 s.rest.now) []))) yes);
      shorter = (let w = left_shorter s.rest.now some in let n = ap (λ (l : List ℕ). length l) left in omega (arith, w, n));
    })
