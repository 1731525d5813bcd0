use Rattle.std.proofs.Common.{arith}
use Rattle.std.proofs.lemmas.List.{take_rest}
use Rattle.fragment_lines.proofs.TellsLemmas.{tells-octets}
use Rattle.fragment_lines.proofs.pieces.tell_line.Goals as goal

pub returns-then-left-gt-PIECE-clause-told : goal.returns-then-left-gt-PIECE-clause-told
returns-then-left-gt-PIECE-clause-told c =
    rw c.in-Some.is
    (tells-octets c.in-Some.begun.octets c.in-Some.begun.at 4096 c.split_at.result.0.now _ _ (omega arith)
    (omega (arith, rw (c.as_slice.ensures, take_rest c.in-Some.begun.octets c.in-Some.begun.at) at c.if-left-gt-PIECE.true))
    (rw (c.as_slice.ensures, take_rest c.in-Some.begun.octets c.in-Some.begun.at) at c.split_at.ensures.front)
    c.in_ok-write_hex.ensures)
