use Rattle.peer_session_laws.proofs.WholeLemmas.{passes-on, passes-whole}
use Rattle.peer_session_laws.proofs.laws.passes_whole.Goals as goal

pub returns-clause-handed_up : goal.returns-clause-handed_up
returns-clause-handed_up c = passes-on

pub returns-clause-whole : goal.returns-clause-whole
returns-clause-whole c = passes-whole c.hands_up_red_parts.ensures
