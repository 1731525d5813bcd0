use Rattle.std.proofs.Common.{rules, ◌∙◌}
use Rattle.ltp_segment.specs.declared.session.TheConstants.{BLOCK_MAX}
use Rattle.ltp_receiver.specs.Receiver.{cells_of}
use Rattle.ltp_engine.proofs.OctetLemmas.{count-covers}
use Rattle.ltp_engine.proofs.held.Held.octets.Goals as goal

pub returns : goal.returns
returns c = c.covered.ensures ∙ count-covers {most = BLOCK_MAX} _ (cells_of c.args.self.now.kept) (search rules)
