use Rattle.xet_document.proofs.text_store.store_of_text.Goals as goal

pub returns-in-Ok : goal.returns-in-Ok
returns-in-Ok c = rw (c.in-Ok.is, c.as_slice.ensures.value) at c.plain_store.ensures
