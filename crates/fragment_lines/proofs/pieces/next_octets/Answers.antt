use Rattle.fragment_lines.specs.Writable.{HasRoom6, HasRoom7}
use Rattle.fragment_lines.proofs.TellsLemmas.{next-room, next-six-if, next-seven-if}
use Rattle.fragment_lines.proofs.pieces.next_octets.Goals as goal

pub spelled_old-requires : goal.spelled_old-requires
spelled_old-requires c =
    (next-room HasRoom6 _ c.next_piece.new.self c.in-Some.piece (rw c.in-Some.is at c.in_ok-piece-in-Some-Six.ensures.gives)
    (rw (c.in-Some-Six.is, c.in-Some-Six.field-0-is) at c.requires)).0.sound

pub returns-in-Some-clause-room : goal.returns-in-Some-clause-room
returns-in-Some-clause-room c =
    (next-room HasRoom6 _ c.next_piece.new.self c.in-Some.piece (rw c.in-Some.is at c.in_ok-piece-in-Some-Six.ensures.gives)
    (rw (c.in-Some-Six.is, c.in-Some-Six.field-0-is) at c.requires)).1

pub returns-in-Some-clause-next : goal.returns-in-Some-clause-next
returns-in-Some-clause-next c =
    let gives = rw c.in-Some.is at c.in_ok-piece-in-Some-Six.ensures.gives in
    let room = next-room HasRoom6 _ c.next_piece.new.self c.in-Some.piece gives (rw (c.in-Some-Six.is, c.in-Some-Six.field-0-is) at c.requires) in
    rw (c.in-Some-Six.is, c.in-Some-Six.field-0-is) (next-six-if _ c.next_piece.new.self c.in-Some.piece c.spelled_old.result gives room.0 c.spelled_old.ensures.exact)

pub spelled_new-requires : goal.spelled_new-requires
spelled_new-requires c =
    (next-room HasRoom7 _ c.next_piece-in-Some-Seven.new.self c.in-Some-2.piece (rw c.in-Some-2.is at c.in_ok-piece-in-Some-Seven.ensures.gives)
    (rw (c.in-Some-Seven.is, c.in-Some-Seven.field-0-is) at c.requires)).0.sound

pub returns-in-Some-2-clause-room : goal.returns-in-Some-2-clause-room
returns-in-Some-2-clause-room c =
    (next-room HasRoom7 _ c.next_piece-in-Some-Seven.new.self c.in-Some-2.piece (rw c.in-Some-2.is at c.in_ok-piece-in-Some-Seven.ensures.gives)
    (rw (c.in-Some-Seven.is, c.in-Some-Seven.field-0-is) at c.requires)).1

pub returns-in-Some-2-clause-next : goal.returns-in-Some-2-clause-next
returns-in-Some-2-clause-next c =
    let gives = rw c.in-Some-2.is at c.in_ok-piece-in-Some-Seven.ensures.gives in
    let room = next-room HasRoom7 _ c.next_piece-in-Some-Seven.new.self c.in-Some-2.piece gives (rw (c.in-Some-Seven.is, c.in-Some-Seven.field-0-is) at c.requires) in
    rw (c.in-Some-Seven.is, c.in-Some-Seven.field-0-is) (next-seven-if _ c.next_piece-in-Some-Seven.new.self c.in-Some-2.piece c.spelled_new.result gives room.0 c.spelled_new.ensures.exact)
