use Rattle.std.proofs.Common.{rules, ◌≡◌, ◌++◌, ◌+◌, ◌||◌, true, false, nat_lt, length, []}
use Rattle.command_frame.proofs.LinesLemmas.{line-past}
use Rattle.command_frame.proofs.PartLinesLemmas.{line-turned}
use Rattle.command_frame.proofs.LimitsLemmas.{line-passed, line-within}
use Rattle.command_frame.proofs.part_lines.end_line.Goals as goal

pub returns-then-is_past-clause-fed : goal.returns-then-is_past-clause-fed
returns-then-is_past-clause-fed g c = λ settles stands.
    let past : (nat_lt g.L.PartLineStep.rules.lines c.args.reader.now.number || nat_lt g.L.PartLineStep.rules.octets (length c.args.reader.now.rest.items + length c.args.last.now)) ≡ true = search rules in
    rw c.stop_past.ensures.limit (line-past g.L.PartLineStep.rules (g.L.PartLineStep.Shows c.args.reader.now.step []) (g.L.PartLineStep.Shows c.args.reader.now.step []) c.args.reader.now.number c.args.reader.now.rest.items settles stands
    c.args.last.now c.requires.plain _ _ past)

pub returns-clause-fed : goal.returns-clause-fed
returns-clause-fed g c = λ settles stands.
    let inside : (nat_lt g.L.PartLineStep.rules.lines c.args.reader.now.number || nat_lt g.L.PartLineStep.rules.octets (length c.args.reader.now.rest.items + length c.args.last.now)) ≡ false = search rules in
    let line : c.as_slice.result.now ≡ c.args.reader.now.rest.items ++ c.args.last.now = rw c.as_slice.ensures.value c.in_ok-extend_from_slice.ensures.items in
    line-turned g.L.PartLineStep.rules (g.L.PartLineStep.Shows c.line.new.self) c.args.reader.now.number (g.L.PartLineStep.Shows c.args.reader.now.step []) c.args.reader.now.rest.items settles stands
    c.args.last.now c.requires.plain _ _ c.in_ok-turned.turned _ c.in_ok-turned.ensures.leaves inside c.as_slice.result.now _
    line c.clear.ensures.items c.in_ok-turned.ensures.turn

pub returns-then-is_past-clause-within : goal.returns-then-is_past-clause-within
returns-then-is_past-clause-within g c = λ limits awaits.
    let past : (nat_lt g.L.PartLineStep.rules.lines c.args.reader.now.number || nat_lt g.L.PartLineStep.rules.octets (length c.args.reader.now.rest.items + length c.args.last.now)) ≡ true = search rules in
    line-passed g.L.PartLineStep.rules (g.L.PartLineStep.Shows c.args.reader.now.step []) c.args.reader.now.number c.args.reader.now.rest.items c.args.reader.now.passed limits awaits
    c.args.last.now c.requires.plain past _ c.stop_past.ensures.passed

pub returns-clause-within : goal.returns-clause-within
returns-clause-within g c = λ limits awaits.
    let inside : (nat_lt g.L.PartLineStep.rules.lines c.args.reader.now.number || nat_lt g.L.PartLineStep.rules.octets (length c.args.reader.now.rest.items + length c.args.last.now)) ≡ false = search rules in
    let line : c.as_slice.result.now ≡ c.args.reader.now.rest.items ++ c.args.last.now = rw c.as_slice.ensures.value c.in_ok-extend_from_slice.ensures.items in
    line-within g.L.PartLineStep.rules (g.L.PartLineStep.Shows c.args.reader.now.step []) c.args.reader.now.number c.args.reader.now.rest.items c.args.reader.now.passed limits awaits
    c.args.last.now c.requires.plain inside (g.L.PartLineStep.Shows c.line.new.self) _ _ c.in_ok-turned.turned c.as_slice.result.now _ _
    line c.clear.ensures.items c.turned_limit-reader.ensures c.in_ok-turned.ensures.turn
