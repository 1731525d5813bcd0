-- What is left to read gives what all of it gives.
use Rattle.wire_fields.specs.Gives.{IsOn}
use Rattle.bundle7.specs.Seen.{SoFar}
use Rattle.bundle7.proofs.judging.blocks_judged.Given as goal

abbrev pub invariant-extensions : goal.invariant-extensions
invariant-extensions l = record {
  place : IsOn l.at l.text l.next;
  so_far : SoFar l.fragment l.text l.most l.at l.i l.seen l.next;
}
