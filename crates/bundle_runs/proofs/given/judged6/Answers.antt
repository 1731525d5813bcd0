use Rattle.wire_fields.specs.Reading.{read}
use Rattle.bundle6.specs.Table.{bundle}
use Rattle.bundle_runs.proofs.GivenLemmas.{judged-whole6}
use Rattle.bundle_runs.proofs.given.judged6.Goals as goal

pub returns-in-Ok : goal.returns-in-Ok
returns-in-Ok c = judged-whole6 (read (bundle 64) c.args.octets.now 0) c.in-Ok.size c.in-Ok.ensures.exact
