use Rattle.node_run.proofs.RunLemmas.{answers_lines}
use Rattle.node_run.proofs.laws.answers_events.Goals as goal

pub returns : goal.returns
returns c = answers_lines c.hands_up_red_parts.ensures c.hands_up_each_once.ensures
