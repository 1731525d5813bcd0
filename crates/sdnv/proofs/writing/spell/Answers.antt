use Rattle.std.proofs.Common.{◌≡◌, ◌+◌, ◌-◌, ◌%◌, ◌∙◌, sym, arith, refl, drop}
use Rattle.std.proofs.lemmas.List.{drop-set}
use Rattle.std.proofs.Math.ListN.{length-set}
use Rattle.sdnv.specs.Shortest.{spelling}
use Rattle.sdnv.proofs.ShortestLemmas.{leading-none, filled, room_left}
use Rattle.sdnv.proofs.writing.spell.Goals as goal

pub filling-init : goal.filling-init
unfolding spelling
filling-init c = record { within = omega arith; long = refl; room = omega arith; spelled = refl }

pub filling-preserved : goal.filling-preserved
filling-preserved c =
    let room = room_left c.filling.at c.filling.rest c.filling.invariant.room c.filling-test.true in
    let one = filled c.filling.at c.filling.rest (drop c.filling.at c.filling.octets) room.0 c.filling-test.true in
    let next : c.filling.at - 1 + 1 ≡ c.filling.at = omega (arith, room.0) in
    record {
      within = omega arith;
      long = rw length-set c.filling.invariant.long;
      room = room.1;
      spelled = c.filling.invariant.spelled ∙ one
          ∙ sym (rw (drop-set c.filling.octets (c.filling.at - 1) (c.filling.rest % 128 + 128) (omega arith), next) refl);
    }

pub returns-clause-spelled : goal.returns-clause-spelled
returns-clause-spelled c =
    let none = leading-none c.filling.at c.filling.rest (omega arith) in
    sym (c.filling.invariant.spelled ∙ rw none refl)
