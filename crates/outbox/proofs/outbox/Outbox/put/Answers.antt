use Rattle.std.proofs.Common.{ap, arith}
use Rattle.outbox.specs.Outbox.{octets_in}
use Rattle.outbox.proofs.OutboxLemmas.{octets-push}
use Rattle.outbox.proofs.outbox.Outbox.put.Goals as goal

pub invariant_of-self-2 : goal.invariant_of-self-2
invariant_of-self-2 c =
    let more = ap octets_in c.in_ok-push_back.ensures.items in
    let sum = octets-push c.self.inside.waiting.items c.args.datagram in
    let counted = c.self.invariant.counted in
    let size = c.len-octets.ensures in
    let within = c.self.invariant.within in
    let room = c.if-octets-self.false in
    record {
      counted = omega (arith, more, sum, counted, size);
      within = omega (arith, within, room);
      lies_in = c.self.invariant.lies_in;
      goes_at = c.self.invariant.goes_at;
    }
