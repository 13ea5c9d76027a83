use Rattle.std.proofs.Common.{◌+◌, ◌∙◌, ap, length, refl}
use Rattle.std.proofs.lemmas.List.{length_push}
use Rattle.xet_base.specs.declared.mdb_shard.ChunkInfo.{ChunkInfo}
use Rattle.xet_waiting.specs.declared.waiting.TermXorb.TheVariants.{Own}
use Rattle.xet_waiting.specs.declared.waiting.WaitingTerm.{WaitingTerm}
use Rattle.xet_waiting.specs.Waitings.{Waiting}
use Rattle.xet_upload.proofs.Kept.{counted-own}
use Rattle.xet_upload.proofs.file_parts.FileParts.add_own.Goals as goal

pub invariant_of-self-in_err-push : goal.invariant_of-self-in_err-push
invariant_of-self-in_err-push c =
    let from = c.num_chunks-from.result in
    let term : WaitingTerm = record { xorb = Own; from = from; to = from + 1; bytes = c.args.info.length } in
    let own = c.self.inside.own.chunks in
    let size = ap (λ (w : Waiting). length w.chunks) c.in_ok-push_chunk.ensures.ok ∙ length_push own c.args.chunk in
    let is = c.num_chunks-from.ensures.chunks in
    let counted = counted-own (length own) (length c.push_chunk.new.self.chunks) c.self.inside.terms c.add.new.self term size refl is (ap (λ n. n + 1) is) c.in_ok-add.ensures.ok c.self.invariant.0 in
    (counted, ap (λ (w : Waiting). w.files) c.in_ok-push_chunk.ensures.ok ∙ c.self.invariant.1)

pub invariant_of-self-2 : goal.invariant_of-self-2
invariant_of-self-2 c =
    let from = c.num_chunks-from.result in
    let term : WaitingTerm = record { xorb = Own; from = from; to = from + 1; bytes = c.args.info.length } in
    let own = c.self.inside.own.chunks in
    let size = ap (λ (w : Waiting). length w.chunks) c.in_ok-push_chunk.ensures.ok ∙ length_push own c.args.chunk in
    let is = c.num_chunks-from.ensures.chunks in
    let counted = counted-own (length own) (length c.push_chunk.new.self.chunks) c.self.inside.terms c.add.new.self term size refl is (ap (λ n. n + 1) is) c.in_ok-add.ensures.ok c.self.invariant.0 in
    (counted, ap (λ (w : Waiting). w.files) c.in_ok-push_chunk.ensures.ok ∙ c.self.invariant.1)

pub returns : goal.returns
returns c =
    let from = c.num_chunks-from.result in
    let term : WaitingTerm = record { xorb = Own; from = from; to = from + 1; bytes = c.args.info.length } in
    let is = c.num_chunks-from.ensures.chunks in
    rw (← c.self.view_is) (record {
      term = term;
      xorb = refl;
      from = is;
      to = ap (λ n. n + 1) is;
      bytes = ap (λ (i : ChunkInfo). i.length) c.requires.info;
      added = c.in_ok-add.ensures.ok;
      joined = c.in_ok-add.ensures.joined;
      own = c.in_ok-push_chunk.ensures.ok;
      infos = rw c.requires.info at c.in_ok-push.ensures.ok;
    })
