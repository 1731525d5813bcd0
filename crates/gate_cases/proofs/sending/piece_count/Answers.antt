use Rattle.std.proofs.Common.{sym}
use Rattle.gate_cases.proofs.PieceLemmas.{one-piece, many-pieces}
use Rattle.gate_cases.proofs.sending.piece_count.Goals as goal

pub returns-then-stays_whole : goal.returns-then-stays_whole
returns-then-stays_whole c = sym (one-piece c.args.full.now c.args.size (sym c.if-stays_whole.ensures))

pub returns-else-stays_whole : goal.returns-else-stays_whole
returns-else-stays_whole c =
    rw c.octets_in.ensures (sym (many-pieces c.args.full.now c.args.size (sym c.if-stays_whole.ensures)))
