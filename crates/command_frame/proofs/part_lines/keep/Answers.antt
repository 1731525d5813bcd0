use Rattle.std.proofs.Common.{rules, ◌≡◌, ◌+◌, ◌||◌, true, false, nat_lt, length, []}
use Rattle.command_frame.proofs.LinesLemmas.{keep-past, keep-more}
use Rattle.command_frame.proofs.LimitsLemmas.{keep-passed, keep-within}
use Rattle.command_frame.proofs.part_lines.keep.Goals as goal

pub returns-then-is_past-clause-fed : goal.returns-then-is_past-clause-fed
returns-then-is_past-clause-fed g c = λ settles text stands.
    let past : (nat_lt g.L.PartLineStep.rules.lines c.args.reader.now.number || nat_lt g.L.PartLineStep.rules.octets (length c.args.reader.now.rest.items + length c.args.octets.now)) ≡ true = search rules in
    rw c.stop_past.ensures.limit (keep-past g.L.PartLineStep.rules (g.L.PartLineStep.Shows c.args.reader.now.step []) (g.L.PartLineStep.Shows c.args.reader.now.step []) c.args.reader.now.number c.args.reader.now.rest.items settles stands
    _ c.args.octets.now text c.requires.some c.requires.open past)

pub returns-clause-fed : goal.returns-clause-fed
returns-clause-fed g c = λ settles text stands.
    let inside : (nat_lt g.L.PartLineStep.rules.lines c.args.reader.now.number || nat_lt g.L.PartLineStep.rules.octets (length c.args.reader.now.rest.items + length c.args.octets.now)) ≡ false = search rules in
    keep-more g.L.PartLineStep.rules (g.L.PartLineStep.Shows c.args.reader.now.step []) (g.L.PartLineStep.Shows c.args.reader.now.step []) c.args.reader.now.number c.args.reader.now.rest.items settles stands
    c.args.octets.now text c.requires.some c.requires.open inside _ c.in_ok-extend_from_slice.ensures.items

pub returns-then-is_past-clause-within : goal.returns-then-is_past-clause-within
returns-then-is_past-clause-within g c = λ limits awaits.
    let past : (nat_lt g.L.PartLineStep.rules.lines c.args.reader.now.number || nat_lt g.L.PartLineStep.rules.octets (length c.args.reader.now.rest.items + length c.args.octets.now)) ≡ true = search rules in
    keep-passed g.L.PartLineStep.rules (g.L.PartLineStep.Shows c.args.reader.now.step []) c.args.reader.now.number c.args.reader.now.rest.items c.args.reader.now.passed limits awaits
    c.args.octets.now c.requires.some c.requires.open past _ c.stop_past.ensures.passed

pub returns-clause-within : goal.returns-clause-within
returns-clause-within g c = λ limits awaits.
    let inside : (nat_lt g.L.PartLineStep.rules.lines c.args.reader.now.number || nat_lt g.L.PartLineStep.rules.octets (length c.args.reader.now.rest.items + length c.args.octets.now)) ≡ false = search rules in
    keep-within g.L.PartLineStep.rules (g.L.PartLineStep.Shows c.args.reader.now.step []) c.args.reader.now.number c.args.reader.now.rest.items c.args.reader.now.passed limits awaits
    c.args.octets.now c.requires.some c.requires.open inside _ c.in_ok-extend_from_slice.ensures.items
