use Rattle.std.proofs.Common.{refl, arith, length, take, [], ◌++◌, ◌≡◌, ◌-◌, ◌<◌, ◌≤◌}
use Rattle.std.specs.Prelude.{Err}
use Rattle.std.proofs.lemmas.List.{length-take}
use Rattle.xet_upload.specs.declared.data_error.DataError.TheVariants as data_error
use Rattle.xet_clean.specs.Showing.{cleaner_of}
use Rattle.xet_base.proofs.CallerLemmas.{err-of}
use Rattle.xet_clean_parts.proofs.CallerLemmas.{tells-both, tells-none}
use Rattle.xet_clean_parts.proofs.CallerLemmas.{calls-both, calls-none, group-both}
use Rattle.xet_upload_files.proofs.UploadCalls.{ended-valid, io-valid, own-late, piece-refused, piece-tells, tells-any, tells-stopped}
use Rattle.xet_upload_files.proofs.Uploading.{left-more, piece-fits, poured-none, poured-piece, pours-ended, pours-fault, pours-ok, pours-piece, size-kept}
use Rattle.xet_upload_files.proofs.uploads.pour.Goals as goal

pub pieces-init : goal.pieces-init
pieces-init g c = record {
  bytes = [];
  poured = poured-none _ _ _ _ _ _ refl refl refl c.requires.unfailed;
  count = omega arith;
  tells = tells-none _ _ _ _ _ refl tt;
  calls = calls-none _ _ _ refl;
  group = (refl, refl);
}

pub pieces-preserved : goal.pieces-preserved
pieces-preserved g c =
    let xs = c.pieces.invariant.bytes in
    let into = c.read.new.into in
    let len : length into ≡ length (take c.min-room.result c.pieces.buffer) = c.read.auto.into in
    let front = length-take c.min-room.result c.pieces.buffer in
    let most : length into ≤ c.pieces.left = omega (arith, len, front) in
    record {
      bytes = xs ++ take c.in_ok-count.count into;
      poured = poured-piece _ _ _ _ _ _ _ _ _ xs into _ _ _ c.pieces.invariant.poured c.in_ok-count.ensures
          c.in_ok-add_data.ensures.adds;
      count = left-more _ _ _ xs into c.pieces.invariant.count c.in_ok-count.ensures.count most;
      tells = tells-both _ _ _ _ _ tt c.pieces.invariant.tells _ (piece-tells _ _ c.args.total _
          (size-kept _ _ _ _ _ _ _ _ c.pieces.invariant.poured c.requires.size) _ _ _ _ _ tt
          (rw c.in_ok-add_data.was at c.add_data.ensures.tells));
      calls = calls-both _ _ _ _ c.pieces.invariant.calls c.add_data.ensures.calls;
      group = group-both c.pieces.invariant.group c.add_data.ensures.group;
    }

pub returns-in_err-count : goal.returns-in_err-count
returns-in_err-count g c =
    let e : c.from_residual.result ≡ Err data_error.IOError = err-of _ _ c.from_residual.ensures in
    let xs = c.pieces.invariant.bytes in
    let most : length xs ≤ c.args.total = omega arith in
    rw e (record {
      call = pours-fault _ _ _ _ _ _ _ xs c.pieces.invariant.poured _ _ _ _ most c.in_err-count.ensures refl;
      tells = tells-stopped _ _ _ _ _ tt data_error.IOError c.pieces.invariant.tells io-valid;
      calls = c.pieces.invariant.calls;
      group = c.pieces.invariant.group;
    })

pub returns-then-count-eq0 : goal.returns-then-count-eq0
returns-then-count-eq0 g c =
    let xs = c.pieces.invariant.bytes in
    let had : c.args.total - c.pieces.left ≡ length xs = omega arith in
    let few : length xs < c.args.total = omega arith in
    let into = c.read.new.into in
    let len : length into ≡ length (take c.min-room.result c.pieces.buffer) = c.read.auto.into in
    let front = length-take c.min-room.result c.pieces.buffer in
    let room : 0 < length into = omega (arith, len, front, c.pieces.auto.buffer, c.requires.room) in
    rw had (record {
      call = pours-ended _ _ _ _ _ _ _ xs c.pieces.invariant.poured _ _ few room
          (rw c.if-count-eq0.true at c.in_ok-count.ensures);
      tells = tells-stopped _ _ _ _ _ tt _ c.pieces.invariant.tells (ended-valid _ _);
      calls = c.pieces.invariant.calls;
      group = c.pieces.invariant.group;
    })

pub returns-in_err-add_data : goal.returns-in_err-add_data
returns-in_err-add_data g c =
    let e : c.from_residual-in_err-add_data.result ≡ Err c.in_err-add_data.field-0.0 =
    err-of _ _ c.from_residual-in_err-add_data.ensures in
    let xs = c.pieces.invariant.bytes in
    let into = c.read.new.into in
    let len : length into ≡ length (take c.min-room.result c.pieces.buffer) = c.read.auto.into in
    let front = length-take c.min-room.result c.pieces.buffer in
    let most : length into ≤ c.pieces.left = omega (arith, len, front) in
    let poured = c.pieces.invariant.poured in
    rw e (record {
      call = pours-piece _ _ _ _ _ _ _ xs poured c.requires.size c.requires.fed _ _ _ _ _ _
          c.pieces.left _ c.pieces.invariant.count most c.in_ok-count.ensures c.in_err-add_data.ensures.adds;
      tells = tells-both _ _ _ _ _ tt c.pieces.invariant.tells _ (piece-refused _ _ c.args.total _
          (size-kept _ _ _ _ _ _ _ _ poured c.requires.size) _ _ _ _ _
          (own-late _ _ (cleaner_of g.T.Cutter.told c.pieces.cleaner) _ _ poured.leaves.keeps.finalized poured.unfailed
          (piece-fits _ _ _ _ _ _ _ xs poured
          c.requires.size c.requires.fed _ into _ _ c.pieces.left c.pieces.invariant.count most
          c.in_ok-count.ensures))
          (rw c.in_err-add_data.was at c.add_data.ensures.tells));
      calls = calls-both _ _ _ _ c.pieces.invariant.calls c.add_data.ensures.calls;
      group = group-both c.pieces.invariant.group c.add_data.ensures.group;
    })

pub returns : goal.returns
returns g c =
    let xs = c.pieces.invariant.bytes in
    let whole : length xs ≡ c.args.total = omega arith in
    record {
      call = pours-ok _ _ _ _ _ _ _ tt xs c.pieces.invariant.poured whole;
      tells = tells-any _ _ _ _ _ tt tt c.pieces.invariant.tells;
      calls = c.pieces.invariant.calls;
      group = c.pieces.invariant.group;
    }
