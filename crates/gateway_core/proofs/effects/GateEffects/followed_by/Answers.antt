use Rattle.std.proofs.Common.{◌∙◌, sym}
use Rattle.endpoint.proofs.PlacesLemmas.{on_err}
use Rattle.gateway_core.proofs.WantLemmas.{nothing-of, not-nothing, joined-none}
use Rattle.gateway_core.proofs.effects.GateEffects.followed_by.Goals as goal

pub returns-then-is_nothing-clause-joined : goal.returns-then-is_nothing-clause-joined
returns-then-is_nothing-clause-joined c = joined-none c.args.self c.args.more (nothing-of c.args.more (sym c.is_nothing.ensures ∙ c.if-is_nothing.true))

pub returns-clause-wanted : goal.returns-clause-wanted
returns-clause-wanted c = on_err c.joined_with.result (not-nothing c.args.more (sym c.is_nothing.ensures ∙ c.if-is_nothing.false))
