use Rattle.std.proofs.Common.{List, ap, refl, rules, arith, inl, inr, sym, ◌≡◌, ◌∙◌, ◌≤◌, ◌<◌, ◌∷◌, ◌++◌, [], length, map, get_or}
use Rattle.std.specs.Prelude.{Err}
use Rattle.std.proofs.lemmas.List.{length-map}
use Rattle.std.proofs.lemmas.Result.{err_from_is_err_and}
use Rattle.xet_progress_state.specs.Counts.{sizes}
use Rattle.xet_upload_session.specs.Telling.{told_by}
use Rattle.xet_upload_files.specs.UploadTelling.{file_told}
use Rattle.xet_upload_files.specs.Uploads.{FileTold, Upload, fixed_sizes}
use Rattle.xet_upload_files.specs.declared.uploads.UploadFile.{UploadFile}
use Rattle.xet_clean.proofs.CallerLemmas.{never}
use Rattle.xet_clean_parts.proofs.CallerLemmas.{tells-both, tells-err, tells-memory, tells-none}
use Rattle.xet_upload_files.proofs.UploadCalls.{file-errors, tells-any, uploads-both, uploads-same}
use Rattle.xet_upload_files.proofs.UploadLists.{ends-more, progress-all, sizes-begin, sizes-more, counts-more, all-done, all-unbegun, answers-more, progress-none, read-again, step-more, step-stopped, step-within, uploads-more, uploads-none}
use Rattle.xet_upload_files.proofs.uploads.upload_files.Goals as goal

pub returns-then-is_finalized : goal.returns-then-is_finalized
returns-then-is_finalized g c = record {
  call = all-unbegun _ _ _ _ _ _ refl refl c.is_finalized.ensures.listed (λ t. refl)
      (inl (refl, sym c.is_finalized.ensures.is ∙ c.if-is_finalized.true));
  tells = tells-none _ _ _ _ _ refl (λ why q. inl (inl (
    refl,
    sym c.is_finalized.ensures.is ∙ c.if-is_finalized.true,
  )));
  calls = uploads-same _ _ _ refl;
  group = refl;
  ids = tt;
  begun = tt;
}

pub returns-in_default : goal.returns-in_default
returns-in_default g c = record {
  call = all-unbegun _ _ _ _ _ _ refl refl c.is_finalized.ensures.listed
      (λ t. never _ (sym c.is_finalized.ensures.is ∙ c.if-is_finalized.false) t) (inr refl);
  tells = tells-memory _ _ _ _ refl;
  calls = uploads-same _ _ _ refl;
  group = refl;
  ids = tt;
  begun = tt;
}

pub loop-file-init : goal.loop-file-init
loop-file-init g c = record {
  done = [];
  has = uploads-none _ _ refl c.is_finalized.ensures.listed;
  ended = refl;
  progress = progress-none _;
  answers = c.in-Ok.ensures.items;
  count = c.in-Ok.ensures.len;
  tells = tells-none _ _ _ _ _ refl tt;
  calls = uploads-same _ _ _ refl;
  counts = refl;
  begun = sizes-begin _;
  failed = refl;
  group = refl;
  ids = omega arith;
  room = c.in-Ok.ensures.capacity;
}

pub loop-file-preserved : goal.loop-file-preserved
loop-file-preserved g c =
    let told : UploadFile g.row.I.Denot g.row.T.Denot → FileTold = file_told g.I.Source.told g.T.Cutter.told in
    let one = c.in_ok-upload_file.ensures.call in
    let x = one.file in
    let files = c.loop-file.files in
    let i = c.loop-file.file-index in
    let item = get_or files i c.file-item.result in
    let lt : i < length files = omega arith in
    let u : Upload = record {
      file = told item;
      source = g.I.Source.told c.upload_file.new.file.source;
      later = g.T.Cutter.told c.upload_file.new.file.cutter;
      bytes = x.bytes;
      chunks = x.cut;
      hash = x.hash;
    } in
    record {
      done = c.loop-file.invariant.done ++ u ∷ [];
      has = uploads-more _ _ _ _ _ _ _ _ c.loop-file.invariant.has x;
      ended = ends-more _ _ _ _ _ u c.loop-file.invariant.ended one.ended x.turn;
      progress = step-more told _ _ _ _ c.loop-file.invariant.progress item c.upload_file.new.file _ _ lt
          (read-again files i c.file-item.result lt) c.upload_file.ensures.same x.bytes x.cut x.hash;
      answers = answers-more _ _ _ _ _ _ x _ _ _ c.loop-file.invariant.answers c.push_reserved.ensures.items;
      count = search rules;
      tells =
          let told = c.upload_file.ensures.tells c.loop-file.invariant.has.backs.listed in
          tells-both _ _ _ _ _ tt c.loop-file.invariant.tells _ (tells-any _ _ _ _ _ _ tt
          (rw c.in_ok-upload_file.was at told));
      calls = uploads-both _ _ _ _ c.loop-file.invariant.calls c.upload_file.ensures.calls;
      counts =
          let added = x.counts in
          counts-more _ _ _ _ u added.0 c.loop-file.invariant.counts added.1 added.2;
      begun = sizes-more _ _ _ c.loop-file.invariant.done u c.loop-file.invariant.begun
          c.in_ok-upload_file.ensures.begun;
      failed = x.unfailed ∙ c.loop-file.invariant.failed;
      group = c.upload_file.ensures.group ∙ c.loop-file.invariant.group;
      ids =
          let before = c.loop-file.invariant.ids in
          let one = c.in_ok-upload_file.ensures.ids in
          omega (arith, before, one);
      room = search rules;
    }

pub returns-in_err-upload_file : goal.returns-in_err-upload_file
returns-in_err-upload_file g c =
    let told : UploadFile g.row.I.Denot g.row.T.Denot → FileTold = file_told g.I.Source.told g.T.Cutter.told in
    let w = err_from_is_err_and c.from_residual.result c.from_residual.ensures.1 in
    let e : c.from_residual.result ≡ Err c.in_err-upload_file.field-0.0 =
    first_of (cc (w.1, w.2), search (rules, w.1, w.2), grind (arith, w.1, w.2)) in
    let files = c.loop-file.files in
    let i = c.loop-file.file-index in
    let item = get_or files i c.file-item.result in
    let lt : i < length files = omega arith in
    let old = c.loop-file.invariant in
    let listed = c.upload_file.ensures.tells old.has.backs.listed in
    rw e (record {
      call = step-stopped told _ _ _ _ old.progress item c.upload_file.new.file _ _ lt
          (read-again files i c.file-item.result lt) c.upload_file.ensures.same _ _ _ _ _ (sym c.is_finalized.ensures.is
          ∙ c.if-is_finalized.false) old.has old.counts old.failed old.ended
          c.in_err-upload_file.ensures.call;
      tells = tells-both _ _ _ _ _ tt (tells-any {B = Unit {0}} _ _ _ _ _ tt tt old.tells) _
          (tells-err _ _ _ _ _ (file-errors
          (told_by c.args.session.now) (told_by c.loop-file.session) (told_by c.upload_file.new.session) _
          _ i _ _ _ _ old.has.keeps.finalized old.ids (step-within told _ files old.done i old.progress lt)
          (rw c.in_err-upload_file.was at listed)));
      calls = uploads-both _ _ _ _ old.calls c.upload_file.ensures.calls;
      group = c.upload_file.ensures.group ∙ old.group;
      ids = tt;
      begun = tt;
    })

pub returns : goal.returns
returns g c =
    let told : UploadFile g.row.I.Denot g.row.T.Denot → FileTold = file_told g.I.Source.told g.T.Cutter.told in
    let size = length-map c.loop-file.files told in
    let all : length (map told c.loop-file.files) ≤ c.loop-file.file-index = omega (arith, size) in
    let old = c.loop-file.invariant in
    record {
      call = all-done _ _ _ _ _ old.done _ c.loop-file.file-index (sym c.is_finalized.ensures.is
          ∙ c.if-is_finalized.false) old.failed old.counts old.has old.ended old.progress all
          (c.from_vec.ensures ∙ old.answers);
      tells = tells-any _ _ _ _ _ tt _ old.tells;
      calls = old.calls;
      group = old.group;
      ids = let before = old.ids in omega (arith, before);
      begun = old.begun ∙ ap (λ (fs : List FileTold). sizes c.args.session.now.files.tracker ++ fixed_sizes fs)
          (sym (progress-all _ _ old.done _ old.progress all));
    }
