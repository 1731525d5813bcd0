use Rattle.std.proofs.Common.{ap, sym, ◌∙◌, map}
use Rattle.gate_records.specs.Ties.{clear_of}
use Rattle.peer_records.specs.Happened.{marking}
use Rattle.peer_records.specs.Said.{happened_by}
use Rattle.gate_records.proofs.OverLemmas.{quiet-clears}
use Rattle.peer_records.proofs.marks.over_marks.Goals as goal

pub returns-clause-over : goal.returns-clause-over
returns-clause-over g c =
    ap (map clear_of) c.new.ensures.items
    ∙ sym (quiet-clears (marking (happened_by c.args.step.now (g.G.GateSessions.opened c.args.gate.now) (g.G.GateSessions.handed_up c.args.gate.now))) c.args.marks.now
    (sym c.may_be_over.ensures ∙ c.if-may_be_over.false))
