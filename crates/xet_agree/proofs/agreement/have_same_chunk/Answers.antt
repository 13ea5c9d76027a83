use Rattle.std.proofs.lemmas.Bool.Decides.{Decides-eqb}
use Rattle.std.proofs.lemmas.Slice.Eq.{slice_eq-Decides}
use Rattle.xet_agree.proofs.Chunks.{same_chunk}
use Rattle.xet_agree.proofs.agreement.have_same_chunk.Goals as goal

pub returns : goal.returns
returns c =
    let d = slice_eq-Decides Decides-eqb c.as_slice.result.now c.as_slice-2.result.now c.eq.result c.eq.ensures in
    same_chunk c.args.a.now.chunks c.args.b.now.chunks c.args.number c.eq.result c.requires.first c.requires.second
    (rw (c.as_slice.ensures, c.as_slice-2.ensures, c.in_ok-own.ensures, c.in_ok-other.ensures) at d)
