use Rattle.bundle6.specs.Streaming.{bundles}
use Rattle.wire_fields.proofs.CuttingLemmas.{tell-as-one, tell-the-same}
use Rattle.bundle6.proofs.laws.cuts_make_no_difference.Goals as goal

pub returns-clause-whole : goal.returns-clause-whole
returns-clause-whole c = tell-as-one bundles 67108864

pub returns-clause-same : goal.returns-clause-same
returns-clause-same c = tell-the-same bundles 67108864
