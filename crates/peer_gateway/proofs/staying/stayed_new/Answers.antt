use Rattle.std.proofs.Common.{sym, ap}
use Rattle.gate_cases.specs.declared.face.Face.TheVariants.{New}
use Rattle.peer_gateway.specs.Going.{raised_octets}
use Rattle.peer_gateway.proofs.StayLemmas.{came-new, none-new, stayed-as}
use Rattle.peer_gateway.proofs.staying.stayed_new.Goals as goal

pub returns-in-Ok : goal.returns-in-Ok
returns-in-Ok c =
    stayed-as c.args.settings New c.args.stay c.args.octets _ c.raised7.result
    (came-new c.args.settings c.args.octets c.in-Ok.bundle c.in-Ok.field-0-1 (rw c.as_slice.ensures at c.in-Ok.ensures.exact))
    (rw c.relabel7-bundle.ensures.exact at c.raised7.ensures)

pub returns-in-Err-Refused : goal.returns-in-Err-Refused
returns-in-Err-Refused c =
    sym (ap (raised_octets c.args.settings New c.args.stay c.args.octets)
    (none-new c.args.settings c.args.octets _ (rw (c.as_slice.ensures, c.in-Err-Refused.field-0-is) at c.in-Err-Refused.ensures.exact)))
