use Rattle.xet_ties.proofs.Headline.{exact}
use Rattle.xet_ties.proofs.ServedChunks.{chunks_heard}
use Rattle.xet_ties.proofs.Wholes.{took_all}
use Rattle.xet_ties.proofs.laws.finished_is_exact.Goals as goal

pub returns : goal.returns
returns c = record {
  exact = λ g b n es k slack a t none f s o h. exact g b n es k slack a t none f s o h;
  whole = took_all;
  chunks = chunks_heard;
}
