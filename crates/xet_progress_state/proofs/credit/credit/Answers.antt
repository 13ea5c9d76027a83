use Rattle.std.proofs.Common.{List, ◌≡◌, ℕ, ◌+◌, ◌<◌, ◌≤◌, ◌++◌, map, length, take, drop, get_or, set, refl, ◌∙◌, ap, arith, append-nil}
use Rattle.std.proofs.lemmas.List.{drop_all, length-set, take_all}
use Rattle.xet_progress_state.specs.declared.file.TrackedFile.{TrackedFile}
use Rattle.xet_progress_state.specs.declared.part.Part.{Part}
use Rattle.xet_progress_state.specs.steps.Credits.{with_share, gain, with_more}
use Rattle.xet_progress_state.proofs.Crediting.{blank, still_there, mapped_more, file_room, room, credited_more, completed_more}
use Rattle.xet_progress_state.proofs.credit.credit.Goals as goal

abbrev empty : Part
empty = record { file = 0; waiting = 0; credited = 0 }

-- the part of a step is the one that was there at first
step : (ps qs : List Part) (i sent size : ℕ) → qs ≡ map (with_share sent size) (take i ps) ++ drop i ps → i < length ps → get_or qs i empty ≡ get_or ps i empty
step ps qs i sent size e h = ap (λ (l : List Part). get_or l i empty) e ∙ still_there (with_share sent size) ps i empty h

pub loop-part-init : goal.loop-part-init
loop-part-init c = record {
  parts = refl;
  files = λ f d l. let e : (get_or c.args.files.now.items f d).completed ≡ (get_or c.args.files.now.items f d).completed + 0 = omega arith in ap (λ (n : ℕ). let x : TrackedFile = record (get_or c.args.files.now.items f d) { completed = n } in x) e;
  count = refl;
  sum = c.requires.sum;
}

pub credit_part-requires-clause-partly : goal.credit_part-requires-clause-partly
credit_part-requires-clause-partly c = c.requires.can.partly

pub credit_part-requires-clause-known : goal.credit_part-requires-clause-known
credit_part-requires-clause-known c =
    let l = c.loop-part in
    let ps = c.args.parts.now in
    let s = ap (λ (p : Part). p.file) (step ps l.parts l.part-index c.args.sent c.args.size l.invariant.parts c.loop-part-test.true) in
    let known = c.requires.can.known l.part-index empty c.loop-part-test.true in
    let count = l.invariant.count in
    omega (arith, s, known, count)

pub credit_part-requires-clause-rises : goal.credit_part-requires-clause-rises
credit_part-requires-clause-rises c =
    let l = c.loop-part in
    let ps = c.args.parts.now in
    let s = step ps l.parts l.part-index c.args.sent c.args.size l.invariant.parts c.loop-part-test.true in
    rw s (c.requires.can.rises l.part-index empty c.loop-part-test.true)

pub credit_part-requires-clause-room : goal.credit_part-requires-clause-room
credit_part-requires-clause-room c =
    let l = c.loop-part in
    let ps = c.args.parts.now in
    let s = step ps l.parts l.part-index c.args.sent c.args.size l.invariant.parts c.loop-part-test.true in
    let at : l.part-index < length ps = omega arith in
    let r = room c.args.files.now.items ps c.args.sent c.args.size c.requires.can l.files.items l.part-index empty l.invariant.count at l.invariant.files in
    let e : gain c.args.sent c.args.size (get_or l.parts l.part-index empty) ≡ gain c.args.sent c.args.size (get_or ps l.part-index empty) = ap (λ (p : Part). gain c.args.sent c.args.size p) s in
    let sum = l.invariant.sum in
    omega (arith, r, e, sum)

pub credit_part-requires-clause-file_room : goal.credit_part-requires-clause-file_room
credit_part-requires-clause-file_room c =
    let l = c.loop-part in
    let ps = c.args.parts.now in
    let s = step ps l.parts l.part-index c.args.sent c.args.size l.invariant.parts c.loop-part-test.true in
    let at : l.part-index < length ps = omega arith in
    let r = file_room c.args.files.now.items ps c.args.sent c.args.size c.requires.can l.files.items l.part-index empty l.invariant.count at l.invariant.files in
    let e = ap (λ (p : Part). (get_or l.files.items p.file blank).completed + gain c.args.sent c.args.size p) s in
    omega (arith, r, e)

pub loop-part-preserved : goal.loop-part-preserved
loop-part-preserved c =
    let l = c.loop-part in
    let ps = c.args.parts.now in
    let s = step ps l.parts l.part-index c.args.sent c.args.size l.invariant.parts c.loop-part-test.true in
    let at : l.part-index < length ps = omega arith in
    let files : c.credit_part.new.files.items ≡ set l.files.items (get_or ps l.part-index empty).file (with_more (gain c.args.sent c.args.size (get_or ps l.part-index empty)) (get_or l.files.items (get_or ps l.part-index empty).file blank)) =
    c.credit_part.ensures.files ∙ ap (λ (p : Part). set l.files.items p.file (with_more (gain c.args.sent c.args.size p) (get_or l.files.items p.file blank))) s in
    let part : c.credit_part.new.part ≡ with_share c.args.sent c.args.size (get_or ps l.part-index empty) =
    c.credit_part.ensures.part ∙ ap (λ (p : Part). with_share c.args.sent c.args.size p) s in
    record {
      parts = rw (part, l.invariant.parts) (mapped_more (with_share c.args.sent c.args.size) ps l.part-index empty at);
      files = rw files (credited_more c.args.files.now.items ps c.args.sent c.args.size c.requires.can l.files.items l.part-index empty l.invariant.count at l.invariant.files);
      count = rw files (length-set l.files.items (get_or ps l.part-index empty).file (with_more (gain c.args.sent c.args.size (get_or ps l.part-index empty)) (get_or l.files.items (get_or ps l.part-index empty).file blank)) ∙ l.invariant.count);
      sum = rw files (
          let m = completed_more c.args.files.now.items ps c.args.sent c.args.size c.requires.can l.files.items l.part-index empty l.invariant.count at l.invariant.files in
          let e = ap (λ (p : Part). gain c.args.sent c.args.size p) s in
          let t = c.credit_part.ensures.completed in
          let sum = l.invariant.sum in
          omega (arith, m, e, t, sum)
          );
    }

pub returns : goal.returns
returns c =
    let l = c.loop-part in
    let ps = c.args.parts.now in
    let past : length ps ≤ l.part-index = omega arith in
    let all = take_all l.part-index ps past in
    record {
      parts = l.invariant.parts ∙ ap (λ (qs : List Part). map (with_share c.args.sent c.args.size) qs ++ drop l.part-index ps) all
          ∙ ap (λ (qs : List Part). map (with_share c.args.sent c.args.size) ps ++ qs) (drop_all l.part-index ps past) ∙ append-nil (map (with_share c.args.sent c.args.size) ps);
      files = rw all at l.invariant.files;
      count = l.invariant.count;
      sum = l.invariant.sum;
    }
