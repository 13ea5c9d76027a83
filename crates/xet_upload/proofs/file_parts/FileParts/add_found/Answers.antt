use Rattle.std.proofs.Common.{length, refl, sym}
use Rattle.xet_waiting.specs.declared.waiting.TermXorb.TheVariants.{Stored}
use Rattle.xet_waiting.specs.declared.waiting.WaitingTerm.{WaitingTerm}
use Rattle.xet_upload.proofs.Kept.{counted-added}
use Rattle.xet_upload.proofs.file_parts.FileParts.add_found.Goals as goal

pub invariant_of-self-in_err-push : goal.invariant_of-self-in_err-push
invariant_of-self-in_err-push c =
    let term : WaitingTerm = record { xorb = Stored c.args.xorb; from = c.args.from; to = c.args.to; bytes = c.args.info.length } in
    (counted-added (length c.self.inside.own.chunks) c.self.inside.terms c.add.new.self term c.in_ok-add.ensures.ok c.self.invariant.0 tt, c.self.invariant.1)

pub invariant_of-self-2 : goal.invariant_of-self-2
invariant_of-self-2 c =
    let term : WaitingTerm = record { xorb = Stored c.args.xorb; from = c.args.from; to = c.args.to; bytes = c.args.info.length } in
    (counted-added (length c.self.inside.own.chunks) c.self.inside.terms c.add.new.self term c.in_ok-add.ensures.ok c.self.invariant.0 tt, c.self.invariant.1)

pub returns : goal.returns
returns c =
    let term : WaitingTerm = record { xorb = Stored c.args.xorb; from = c.args.from; to = c.args.to; bytes = c.args.info.length } in
    rw (← c.self.view_is) (record {
      term = term;
      xorb = refl;
      from = refl;
      to = sym c.requires;
      bytes = refl;
      added = c.in_ok-add.ensures.ok;
      joined = c.in_ok-add.ensures.joined;
      own = refl;
      infos = c.in_ok-push.ensures.ok;
    })
