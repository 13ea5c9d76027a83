use Rattle.xet_upload.proofs.FileDatas.{parts-found, parts-nil, parts-own}
use Rattle.xet_upload.proofs.Resolved.{parts_cut}
use Rattle.xet_upload.proofs.laws.parts_go_on_standing.Goals as goal

pub returns : goal.returns
returns c = record { none = parts-nil; own = parts-own; found = parts-found; put = parts_cut }
