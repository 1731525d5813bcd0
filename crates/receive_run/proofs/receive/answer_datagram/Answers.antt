use Rattle.std.proofs.Common.{sym, ap, ◌∙◌}
use Rattle.receive_run.specs.Views.{content}
use Rattle.receive_run.proofs.receive.answer_datagram.Goals as goal

pub returns-in-Red-clause-turn : goal.returns-in-Red-clause-turn
returns-in-Red-clause-turn c = λ kept shows.
    rw (sym c.content_of.ensures ∙ ap content c.in-Red.is) (c.answer_piece.ensures.turn kept shows)

pub returns-in-Red-clause-memory : goal.returns-in-Red-clause-memory
returns-in-Red-clause-memory c = λ kept shows.
    rw (sym c.content_of.ensures ∙ ap content c.in-Red.is) (c.answer_piece.ensures.memory kept shows)
