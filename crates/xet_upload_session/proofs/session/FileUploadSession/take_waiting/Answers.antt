use Rattle.std.proofs.Common.{List, ap, map, ◌≡◌, ◌∙◌}
use Rattle.std.specs.Prelude.{Err}
use Rattle.xet_base.proofs.CallerLemmas.{err-of}
use Rattle.xet_waiting.specs.declared.raw_xorb.PendingFile.{PendingFile}
use Rattle.xet_upload_session.specs.Telling.{told_by}
use Rattle.xet_upload_session.proofs.CutTracking.{on_ok, took-so, took-space}
use Rattle.xet_upload_session.proofs.Tests.{are-taken, waits-taken}
use Rattle.xet_upload_session.proofs.session.FileUploadSession.take_waiting.Goals as goal

pub returns-in_err-make_room : goal.returns-in_err-make_room
returns-in_err-make_room g c =
    let e : c.from_residual.result ≡ Err c.in_err-make_room.field-0.0 = err-of _ _ c.from_residual.ensures in
    rw e (record {
      taken = record { ok = tt; err = c.make_room.ensures.same; xorb = tt; describes = tt; files = tt; parts = tt };
      room = tt;
      noted = tt;
      space = tt;
      untold = c.make_room.ensures.untold;
      group = c.make_room.ensures.group;
    })

pub returns-in_err-reserve : goal.returns-in_err-reserve
returns-in_err-reserve g c =
    let e : c.from_residual-in_err-reserve.result ≡ Err c.in_err-reserve.field-0.0 =
    err-of _ _ c.from_residual-in_err-reserve.ensures in
    let t = told_by c.make_room.new.self in
    let same = ap (λ (fs : List PendingFile). record t { finished = map (λ p. p.info) fs }) c.in_err-reserve.ensures.same ∙ c.make_room.ensures.same in
    rw e (record {
      taken = record { ok = tt; err = same; xorb = tt; describes = tt; files = tt; parts = tt };
      room = tt;
      noted = tt;
      space = tt;
      untold = c.make_room.ensures.untold;
      group = c.make_room.ensures.group;
    })

pub returns : goal.returns
returns g c =
    let t = told_by c.make_room.new.self in
    let same = ap (λ (fs : List PendingFile). record t { finished = map (λ p. p.info) fs }) c.in_ok-reserve.ensures.same ∙ c.make_room.ensures.same in
    record {
      taken = took-so _ _ same _ c.finalize.result c.finalize.ensures.xorb c.finalize.ensures.info c.finalize.ensures.files c.finalize.ensures.emptied c.finalize.ensures.kept;
      room = on_ok c.finalize.result c.in_ok-make_room.ensures.room;
      noted = on_ok c.finalize.result c.in_ok-make_room.ensures.noted;
      space = took-space _ _ _ _ _ c.finalize.result c.finalize.ensures.files c.num_files.ensures c.in_ok-reserve.ensures.room;
      untold = c.make_room.ensures.untold;
      group = c.make_room.ensures.group;
    }

pub invariant_of-self-2 : goal.invariant_of-self-2
invariant_of-self-2 g c = record {
  lists = λ f z. are-taken _ _ _ _ _ (c.make_room.new.self.lists f z) c.in_ok-reserve.ensures.same _ c.finalize.result c.finalize.ensures.emptied c.finalize.ensures.kept;
  waits = waits-taken _ _ c.finalize.result c.finalize.ensures.emptied c.finalize.ensures.kept c.make_room.new.self.waits;
}
