use Rattle.std.proofs.Common.{List, ap}
use Rattle.xet_base.specs.declared.merklehash.MerkleHash.{MerkleHash}
use Rattle.xet_upload_session.specs.Telling.{told_by}
use Rattle.xet_upload_session.proofs.Queries.{on-list-pushed}
use Rattle.xet_upload_session.proofs.Tests.{are-found}
use Rattle.xet_upload_session.proofs.session.FileUploadSession.put_on_list.Goals as goal

pub invariant_of-self : goal.invariant_of-self
invariant_of-self g c = record { lists = λ f z. are-found _ _ _ _ (c.args.self.now.lists f z) _ _ c.push_reserved.ensures; waits = c.args.self.now.waits }

pub returns-clause-call : goal.returns-clause-call
returns-clause-call g c =
    on-list-pushed _ _ _ (c.contains.ensures.no c.if-contains.false) (ap (λ (hs : List MerkleHash). record (told_by c.args.self.now) { listed = hs }) c.push_reserved.ensures)
