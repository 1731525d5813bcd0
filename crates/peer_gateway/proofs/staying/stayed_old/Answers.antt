use Rattle.std.proofs.Common.{sym, ap}
use Rattle.gate_cases.specs.declared.face.Face.TheVariants.{Old}
use Rattle.peer_gateway.specs.Going.{raised_octets}
use Rattle.peer_gateway.proofs.StayLemmas.{came-old, none-old, stayed-as}
use Rattle.peer_gateway.proofs.staying.stayed_old.Goals as goal

pub returns-in-Ok : goal.returns-in-Ok
returns-in-Ok c =
    stayed-as c.args.settings Old c.args.stay c.args.octets _ c.raised6.result
    (came-old c.args.settings c.args.octets c.in-Ok.bundle c.in-Ok.field-0-1 (rw c.as_slice.ensures at c.in-Ok.ensures.exact))
    (rw c.relabel6-bundle.ensures.exact at c.raised6.ensures)

pub returns-in-Err-Refused : goal.returns-in-Err-Refused
returns-in-Err-Refused c =
    sym (ap (raised_octets c.args.settings Old c.args.stay c.args.octets)
    (none-old c.args.settings c.args.octets _ (rw (c.as_slice.ensures, c.in-Err-Refused.field-0-is) at c.in-Err-Refused.ensures.exact)))
