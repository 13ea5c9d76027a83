use Rattle.xet_uploader.proofs.NotedChunks.{places-push}
use Rattle.xet_uploader.proofs.xorb_records.XorbRecords.push.Goals as goal

pub invariant_of-self-2 : goal.invariant_of-self-2
invariant_of-self-2 c =
    let noted = rw (c.as_slice.ensures.value, c.in_ok-reserve.ensures.items, c.as_slice-2.ensures) at c.in_ok-note_all.ensures.ok in
    rw (c.push_reserved.ensures.items, c.in_ok-reserve.ensures.items) (places-push c.self.inside.records.items c.args.info c.self.inside.places c.note_all.new.places c.self.invariant noted)
