use Rattle.std.proofs.Common.{◌∙◌}
use Rattle.status_reports.proofs.SpellLemmas7.{report7-written}
use Rattle.status_reports.proofs.writing7.write7.Goals as goal

pub returns : goal.returns
returns c =
    report7-written c.args.report.now c.in_ok-out.out.items c.write_array.new.out.items c.write_uint.new.out.items
    c.write_array-2.new.out.items c.write_stamps.new.out.items c.write_uint-2.new.out.items c.write_eid.new.out.items
    c.write_array-3.new.out.items c.write_uint-3.new.out.items c.write_uint-4.new.out.items c.from_vec.result c.requires
    c.in_ok-out.ensures.items c.in_ok-write_array.ensures.written c.in_ok-write_uint.ensures.written
    (rw c.items_of.ensures at c.in_ok-write_array-2.ensures.written) c.in_ok-write_stamps.ensures
    (rw c.from.ensures at c.in_ok-write_uint-2.ensures.written) c.in_ok-write_eid.ensures.written
    c.in_ok-write_array-3.ensures.written c.in_ok-write_uint-3.ensures.written c.in_ok-write_uint-4.ensures.written
    (c.from_vec.ensures ∙ c.in_ok-write_part.ensures)
