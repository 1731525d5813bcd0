use Rattle.std.proofs.Common.{rules, sym, subst}
use Rattle.ltp_session.specs.Engine.{tick_step}
use Rattle.ltp_engine.specs.Steps.{Steps}
use Rattle.ltp_engine.specs.Ties.{value_of}
use Rattle.ltp_engine.proofs.QuietLemmas.{quiet-steps}
use Rattle.ltp_engine.proofs.engine.Engine.tick.Goals as goal

pub returns-then-not-is_due-clause-done : goal.returns-then-not-is_due-clause-done
returns-then-not-is_due-clause-done c =
    subst (λ told. Steps c.args.self.now c.args.self.now (λ e. tick_step c.args.self.now.party e c.args.now) told) (sym c.nothing.ensures)
    (quiet-steps (value_of c.self.inside.spent c.self.inside.parts) c.args.self.now c.args.now c.self.view_is c.requires.whole (search rules))
