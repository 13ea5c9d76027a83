use Rattle.xet_compact.proofs.Listing.{document_lists}
use Rattle.xet_compact.proofs.laws.documents_list.Goals as goal

pub returns : goal.returns
returns c = document_lists
