use Rattle.std.proofs.Common.{◌+◌, is_some, sym, ap, ◌∙◌, refl}
use Rattle.std.proofs.lemmas.List.{take_rest}
use Rattle.audit_run.specs.Seen.{pair_seen}
use Rattle.audit_run.proofs.TwoWordLemmas.{two-none, two-more, two-some}
use Rattle.audit_run.proofs.entry_line.two_words.Goals as goal

pub returns-in_err-at : goal.returns-in_err-at
returns-in_err-at c = ap pair_seen c.from_residual.ensures ∙ two-none c.args.line.now (sym c.space_in.ensures ∙ c.in_err-at.was)

pub returns-then-is_some : goal.returns-then-is_some
returns-then-is_some c =
    two-more c.args.line.now _ c.in_ok-at.at (sym c.space_in.ensures ∙ c.in_ok-at.was) (take_rest c.args.line.now (c.in_ok-at.at + 1))
    (ap is_some (sym c.space_in-2.ensures) ∙ (sym c.is_some.ensures ∙ c.if-is_some.true))

pub returns : goal.returns
returns c =
    two-some c.args.line.now _ _ c.in_ok-at.at (sym c.space_in.ensures ∙ c.in_ok-at.was) refl (take_rest c.args.line.now (c.in_ok-at.at + 1))
    (ap is_some (sym c.space_in-2.ensures) ∙ (sym c.is_some.ensures ∙ c.if-is_some.false))
