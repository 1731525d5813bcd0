use Rattle.bundle6.proofs.NamesLemmas.{nul-first}
use Rattle.bundle6.proofs.names.far_nul.Goals as goal

pub returns : goal.returns
returns c = nul-first c.args.text.now c.memchr.result c.memchr.ensures
