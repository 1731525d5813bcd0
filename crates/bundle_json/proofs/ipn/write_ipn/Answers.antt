use Rattle.std.proofs.Common.{arith}
use Rattle.bundle_json.proofs.IpnLemmas.{short, ipn-written}
use Rattle.bundle_json.proofs.ipn.write_ipn.Goals as goal

pub write_digits-point-requires : goal.write_digits-point-requires
write_digits-point-requires c = (omega (arith, c.requires, short c.args.service c.ranges.service.fits), omega arith)

pub overflow_sub-point : goal.overflow_sub-point
overflow_sub-point c = omega (arith, c.requires, short c.args.service c.ranges.service.fits, c.write_digits-point.ensures.start)

pub write_digits-at-requires : goal.write_digits-at-requires
write_digits-at-requires c = (
  omega (arith, c.requires, short c.args.service c.ranges.service.fits, short c.args.node c.ranges.node.fits, c.write_digits-point.ensures.start),
  omega (arith, c.requires, c.put.ensures.long, c.write_digits-point.ensures.start),
)

pub overflow_sub-at : goal.overflow_sub-at
overflow_sub-at c = omega (arith, c.requires, short c.args.service c.ranges.service.fits, short c.args.node c.ranges.node.fits, c.write_digits-point.ensures.start, c.write_digits-at.ensures.start)

pub overflow_sub-at-2 : goal.overflow_sub-at-2
overflow_sub-at-2 c = omega (arith, c.requires, short c.args.service c.ranges.service.fits, short c.args.node c.ranges.node.fits, c.write_digits-point.ensures.start, c.write_digits-at.ensures.start)

pub overflow_sub-at-3 : goal.overflow_sub-at-3
overflow_sub-at-3 c = omega (arith, c.requires, short c.args.service c.ranges.service.fits, short c.args.node c.ranges.node.fits, c.write_digits-point.ensures.start, c.write_digits-at.ensures.start)

pub overflow_sub-at-4 : goal.overflow_sub-at-4
overflow_sub-at-4 c = omega (arith, c.requires, short c.args.service c.ranges.service.fits, short c.args.node c.ranges.node.fits, c.write_digits-point.ensures.start, c.write_digits-at.ensures.start)

pub overflow_sub-result : goal.overflow_sub-result
overflow_sub-result c = omega (arith, c.requires, short c.args.service c.ranges.service.fits, short c.args.node c.ranges.node.fits, c.write_digits-point.ensures.start, c.write_digits-at.ensures.start)

pub returns-clause-text : goal.returns-clause-text
returns-clause-text c =
    ipn-written c.args.room.now c.write_digits-point.new.buf c.put.new.room c.write_digits-at.new.buf c.put-2.new.room c.put-3.new.room c.put-4.new.room c.put-5.new.room
    c.write_digits-point.result c.write_digits-at.result c.args.node c.args.service
    (omega (arith, c.requires, short c.args.service c.ranges.service.fits, c.write_digits-point.ensures.start))
    (omega (arith, c.requires, short c.args.service c.ranges.service.fits, short c.args.node c.ranges.node.fits, c.write_digits-point.ensures.start, c.write_digits-at.ensures.start))
    c.write_digits-point.ensures.written c.put.ensures.text c.write_digits-at.ensures.written c.put-2.ensures.text c.put-3.ensures.text c.put-4.ensures.text c.put-5.ensures.text
