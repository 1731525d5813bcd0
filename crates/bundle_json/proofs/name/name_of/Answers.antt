use Rattle.bundle_json.proofs.StringLemmas.{dtn-visible}
use Rattle.std.proofs.Common.{refl}
use Rattle.bundle_json.proofs.name.name_of.Goals as goal

pub returns-in-Dtn : goal.returns-in-Dtn
returns-in-Dtn c =
    let joined = c.joined.ensures refl (rw c.as_slice.ensures (dtn-visible c.args.endpoint.now c.in-Dtn.ssp c.in-Dtn.is c.requires)) in
    rw c.in-Dtn.is (rw c.as_slice.ensures at joined)
