use Rattle.std.proofs.Common.{rules, ◌-◌, refl}
use Rattle.edge_traits.proofs.FaultsLemmas.{NoneFailed-more}
use Rattle.gate_run.specs.Stages.{makes_anew_over, turns_over}
use Rattle.gate_run.proofs.MadeLemmas.{err-is, one-less}
use Rattle.gate_run.proofs.RunLemmas.{read_at, went-err, went-on, went-after, went-first}
use Rattle.gate_run.proofs.TellLemmas.{stops-unwritten, stops-unstored, stops-after, stops-err, stores-after, stores-err}
use Rattle.gate_run.proofs.running.drive.Goals as goal

pub returns-in_err-driven-clause-writes : goal.returns-in_err-driven-clause-writes
returns-in_err-driven-clause-writes g c =
    stops-unwritten c.from_residual.result _ _ (search rules) refl

pub returns-in_err-driven-clause-stores : goal.returns-in_err-driven-clause-stores
returns-in_err-driven-clause-stores g c =
    stops-unstored c.from_residual.result _ _ (search rules) refl

pub returns-in_err-begin-clause-goes : goal.returns-in_err-begin-clause-goes
returns-in_err-begin-clause-goes g c = λ p shown is told.
    went-first (makes_anew_over p) (turns_over c.args.board c.args.turns) c.from_residual-in_err-begin.result
    c.in_err-begin.field-0.0 _ _ (err-is _ _ c.from_residual-in_err-begin.ensures.1)
    (c.in_err-begin.ensures.goes (read_at p)
    record { shown = rw c.in_ok-driven.ensures shown; told = told })

pub returns-in_err-turn_at-clause-goes : goal.returns-in_err-turn_at-clause-goes
returns-in_err-turn_at-clause-goes g c = λ p shown is told.
    let made = c.in_ok-begin.ensures.goes (read_at p)
    record { shown = rw c.in_ok-driven.ensures shown; told = told } in
    went-after (makes_anew_over p) (turns_over c.args.board c.args.turns) c.from_residual-in_err-turn_at.result _ _ _ made.made
    (went-err c.args.board c.args.turns (makes_anew_over p).point c.from_residual-in_err-turn_at.result
    c.in_err-turn_at.field-0.0 _ _ c.requires.some (err-is _ _ c.from_residual-in_err-turn_at.ensures.1)
    (c.in_err-turn_at.ensures.goes (makes_anew_over p).point made.at.shown is made.at.told))

pub returns-in_err-turn_at-clause-writes : goal.returns-in_err-turn_at-clause-writes
returns-in_err-turn_at-clause-writes g c =
    stops-err (Unit {0}) c.from_residual-in_err-turn_at.result c.in_err-turn_at.field-0.0 _ _ _
    (err-is _ _ c.from_residual-in_err-turn_at.ensures.1) c.in_ok-begin.ensures.writes
    c.in_err-turn_at.ensures.writes

pub returns-in_err-turn_at-clause-stores : goal.returns-in_err-turn_at-clause-stores
returns-in_err-turn_at-clause-stores g c =
    stores-err (Unit {0}) c.from_residual-in_err-turn_at.result c.in_err-turn_at.field-0.0 _ _ _
    (err-is _ _ c.from_residual-in_err-turn_at.ensures.1) c.in_ok-begin.ensures.stores
    c.in_err-turn_at.ensures.stores

pub returns-clause-goes : goal.returns-clause-goes
returns-clause-goes g c = λ p shown is told.
    let made = c.in_ok-begin.ensures.goes (read_at p)
    record { shown = rw c.in_ok-driven.ensures shown; told = told } in
    went-after (makes_anew_over p) (turns_over c.args.board c.args.turns) c.turns.result _ _ _ made.made
    (went-on _ _ c.args.board c.args.turns (c.args.turns - 1) (makes_anew_over p).point c.turns.result _ _ _ _ _
    (one-less c.args.turns c.requires.some)
    (c.in_ok-turn_at.ensures.goes (makes_anew_over p).point made.at.shown is made.at.told) c.turns.ensures.goes)

pub returns-clause-writes : goal.returns-clause-writes
returns-clause-writes g c =
    stops-after c.turns.result _ _ _
    (NoneFailed-more _ _ _ c.in_ok-begin.ensures.writes c.in_ok-turn_at.ensures.writes) c.turns.ensures.writes

pub returns-clause-stores : goal.returns-clause-stores
returns-clause-stores g c =
    stores-after c.turns.result _ _ _
    (NoneFailed-more _ _ _ c.in_ok-begin.ensures.stores c.in_ok-turn_at.ensures.stores) c.turns.ensures.stores
