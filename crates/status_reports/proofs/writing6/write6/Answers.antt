use Rattle.std.proofs.Common.{◌∙◌}
use Rattle.status_reports.proofs.SpellLemmas6.{report6-written}
use Rattle.status_reports.proofs.writing6.write6.Goals as goal

pub returns : goal.returns
returns c =
    report6-written c.args.report.now c.in_ok-out.out.items c.push.new.self.items c.push-2.new.self.items c.push-3.new.self.items
    c.write_part.new.out.items c.write_times.new.out.items c.write.new.out.items c.write-2.new.out.items c.from_vec.result
    c.requires c.in_ok-out.ensures.items (rw c.lead_octet.ensures at c.in_ok-push.ensures.items) c.in_ok-push-2.ensures.items
    c.in_ok-push-3.ensures.items c.in_ok-write_part.ensures c.in_ok-write_times.ensures c.in_ok-write.ensures.ok
    c.in_ok-write-2.ensures.ok (c.from_vec.ensures ∙ c.in_ok-write_source.ensures)
