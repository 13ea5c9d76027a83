use Rattle.xet_stream_terms.proofs.HandCalls.{hands_none, hands_piece, hands_short, hands_vain, wrote_may}
use Rattle.xet_stream_terms.proofs.handing.hand_over.Goals as goal

pub piece_of-requires : goal.piece_of-requires
piece_of-requires g c = c.requires.next.next

pub returns-in-Ok-None-clause-hands : goal.returns-in-Ok-None-clause-hands
returns-in-Ok-None-clause-hands g c = hands_none c.requires.carries.0 _ _ c.requires.carries.1 c.args.next
    c.requires.next c.in-Ok-None.field-0 c.in-Ok-None.field-0-is (c.in-Ok-None.ensures c.requires.next.next)

pub returns-in-Err-clause-hands : goal.returns-in-Err-clause-hands
returns-in-Err-clause-hands g c = hands_vain c.requires.carries.0 _ _ c.requires.carries.1 c.args.next c.requires.next
    c.in-Err.error (c.in-Err.ensures c.requires.next.next)

pub add_wrote-requires : goal.add_wrote-requires
add_wrote-requires g c = wrote_may c.requires.carries.0 _ _ c.requires.carries.1 c.args.next c.requires.next
    c.in-Ok-Some.field-0 c.in-Ok-Some.piece c.in-Ok-Some.field-0-is (c.in-Ok-Some.ensures c.requires.next.next)
    c.saturating_sub-length.result c.saturating_sub-length.ensures

pub returns-in-Err-add_wrote-clause-hands : goal.returns-in-Err-add_wrote-clause-hands
returns-in-Err-add_wrote-clause-hands g c = hands_short c.requires.carries.0 _ _ c.requires.carries.1 c.args.next
    c.requires.next c.in-Err-add_wrote.error _ c.in-Err-add_wrote.ensures.recorded.memory
    c.in-Err-add_wrote.ensures.kept

pub returns-clause-hands : goal.returns-clause-hands
returns-clause-hands g c = hands_piece c.requires.carries.0 _ _ c.requires.carries.1 c.args.next c.requires.next
    c.in-Ok-Some.field-0 c.in-Ok-Some.piece c.in-Ok-Some.field-0-is (c.in-Ok-Some.ensures c.requires.next.next)
    c.saturating_sub-length.result c.saturating_sub-length.ensures c.add_wrote.new.core
    c.in-Ok.ensures.recorded.all c.saturating_add.result c.saturating_add.ensures c.advance.new.leader
    c.advance.ensures
