use Rattle.std.proofs.Common.{rules, Ok, Err}
use Rattle.wire_fields.specs.Reading.{IsOctets}
use Rattle.gate_cases.specs.declared.face.Face.TheVariants.{Old}
use Rattle.gate_cases.specs.declared.cause.BadCause.TheVariants.{Six}
use Rattle.bundle_rows.specs.declared.next.End.{End}
use Rattle.bundle_rows.proofs.FrontLemmas.{found6-bundle, found6-wrong, in-front}
use Rattle.bundle_rows.proofs.next.front6.Goals as goal

pub returns-in-Ok-clause-exact : goal.returns-in-Ok-clause-exact
returns-in-Ok-clause-exact c = found6-bundle c.in-Ok.size c.args.octets.now c.in-Ok.ensures.exact

pub returns-in-Ok-clause-within : goal.returns-in-Ok-clause-within
returns-in-Ok-clause-within c =
    let fits : IsOctets c.args.octets.now = search rules in
    in-front Old c.args.octets.now (Ok c.in-Ok.size) fits (found6-bundle c.in-Ok.size c.args.octets.now c.in-Ok.ensures.exact)

pub returns-in-Err-clause-exact : goal.returns-in-Err-clause-exact
returns-in-Err-clause-exact c = found6-wrong c.in-Err.refused c.args.octets.now c.in-Err.ensures.exact

pub returns-in-Err-clause-within : goal.returns-in-Err-clause-within
returns-in-Err-clause-within c =
    let fits : IsOctets c.args.octets.now = search rules in
    let end : End = record { at = c.in-Err.refused.at; cause = Six c.in-Err.refused.cause } in
    in-front Old c.args.octets.now (Err end) fits (found6-wrong c.in-Err.refused c.args.octets.now c.in-Err.ensures.exact)
