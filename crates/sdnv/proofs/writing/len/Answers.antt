use Rattle.std.proofs.Common.{◌≡◌, ◌+◌, ◌-◌, arith, ap, length, length-append}
use Rattle.sdnv.proofs.ShortestLemmas.{length-spelling, leading-more, leading-none, room_left}
use Rattle.sdnv.proofs.writing.len.Goals as goal

pub counting-init : goal.counting-init
counting-init c = record { few = omega arith; room = omega arith; counted = length-spelling c.args.value }

pub counting-preserved : goal.counting-preserved
counting-preserved c =
    let most = 10 - c.counting.octets in
    let room = room_left most c.counting.rest c.counting.invariant.room c.counting-test.true in
    let less : 10 - (c.counting.octets + 1) ≡ most - 1 = omega arith in
    let one = leading-more most c.counting.rest room.0 c.counting-test.true in
    record {
      few = omega (arith, room.0);
      room = rw less room.1;
      counted = rw less (omega (arith, c.counting.invariant.counted, simp length-append at (ap length one)));
    }

pub returns : goal.returns
returns c =
    let none = leading-none (10 - c.counting.octets) c.counting.rest (omega arith) in
    omega (arith, c.counting.invariant.counted, ap length none)
