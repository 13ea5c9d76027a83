use Rattle.std.proofs.Common.{refl}
use Rattle.xet_upload.proofs.Resolved.{cut_stands}
use Rattle.xet_upload.proofs.Standing.{stand-added, stand-before, stand-behind, stand-grown}
use Rattle.xet_upload.proofs.laws.terms_go_on_standing.Goals as goal

pub returns : goal.returns
returns c = record {
  xorbs = λ s t more own ts cs grew h. stand-grown s t more grew own ts cs h;
  behind = stand-behind;
  before = λ s front own ts cs few h. stand-before s front own few ts cs h;
  more = stand-added;
  put = λ k log x ts cs agree h. cut_stands k log _ x ts cs refl agree h;
}
