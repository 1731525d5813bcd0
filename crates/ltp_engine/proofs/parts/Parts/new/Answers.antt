use Rattle.std.proofs.Common.{rules}
use Rattle.ltp_segment.specs.PolicyViews.{policy_value}
use Rattle.ltp_engine.proofs.TableLemmas.{empty-list}
use Rattle.ltp_engine.proofs.EngineLemmas.{new-whole, new-value}
use Rattle.ltp_engine.proofs.parts.Parts.new.Goals as goal

pub returns-clause-whole : goal.returns-clause-whole
returns-clause-whole c = new-whole _ c.new.result.entries c.new-2.result (empty-list c.new.result.entries c.new.ensures.len) c.requires.numbers c.requires.some (search rules) (c.new-2.ensures c.args.peer (policy_value c.args.policy))

pub returns-clause-value : goal.returns-clause-value
returns-clause-value c = new-value _ c.new.result.entries c.new-2.result (empty-list c.new.result.entries c.new.ensures.len) (c.new-2.ensures c.args.peer (policy_value c.args.policy))
