use Rattle.std.proofs.Common.{rules}
use Rattle.ltp_engine.specs.Ties.{party_of}
use Rattle.ltp_engine.proofs.ElsewhereLemmas.{whole-released}
use Rattle.ltp_engine.proofs.parts.Parts.release.Goals as goal

pub returns-clause-whole : goal.returns-clause-whole
returns-clause-whole c = whole-released (party_of c.args.self.now) c.args.self.now.next c.args.n c.args.self.now.senders.entries c.args.self.now.inbound _ c.requires (search rules)
