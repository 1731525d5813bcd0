use Rattle.gate_config.proofs.ListLemmas.{pushed, finished, escaped-more, escaped-end}
use Rattle.gate_config.proofs.output.push_escaped.Goals as goal

pub octets-preserved : goal.octets-preserved
octets-preserved c =
    rw c.in_ok-push_octet.ensures
    (pushed _ _ _ _ _ c.octets.invariant (escaped-more c.args.octets.now c.octets.octet-index _ c.octets-test.true))

pub returns : goal.returns
returns c = finished _ _ _ c.octets.invariant (escaped-end c.args.octets.now c.octets.octet-index c.octets-test.false)
