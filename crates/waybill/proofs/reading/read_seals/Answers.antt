-- One seal more, or none: the earlier seals are those that were pushed.
use Rattle.std.proofs.Common.{arith}
use Rattle.wire_fields.specs.Reading.{read}
use Rattle.waybill.specs.Cause.{refusal}
use Rattle.waybill.specs.Table.{seal, seals_listed}
use Rattle.wire_fields.proofs.FrontLemmas.{gives-fault}
use Rattle.wire_fields.proofs.GroupLemmas.{listed-step, listed-fails}
use Rattle.waybill.proofs.ReadingLemmas.{last_of-push}
use Rattle.waybill.proofs.reading.read_seals.Goals as goal

pub returns-in_err-seal-clause-exact : goal.returns-in_err-seal-clause-exact
returns-in_err-seal-clause-exact c =
    gives-fault (λ v. v.items) refusal c.from_residual.result c.in_err-seal.field-0.0 (read (seals_listed c.args.count) c.args.text.now c.args.at)
    c.from_residual.ensures.1
    (listed-fails seal c.args.text.now c.args.count c.seals.counter c.seals.seals.items c.seals.after (refusal c.in_err-seal.field-0.0)
    (read (seals_listed c.args.count) c.args.text.now c.args.at) c.seals-test.true (c.in_err-seal.ensures.exact c.seals.seals.items c.seals.invariant.least)
    c.seals.invariant.rest)

pub seals-preserved : goal.seals-preserved
seals-preserved c = record {
  place = record { behind = omega (arith, c.seals.invariant.place.behind, c.in_ok-seal.ensures.within.behind); within = c.in_ok-seal.ensures.within.within };
  least = rw c.in_ok-push.ensures.items (last_of-push 0 c.seals.seals.items c.in_ok-seal.seal);
  rest = rw c.in_ok-push.ensures.items
      (listed-step seal c.args.text.now c.args.count c.seals.counter c.seals.seals.items c.in_ok-seal.seal c.seals.after c.in_ok-seal.next
      (read (seals_listed c.args.count) c.args.text.now c.args.at) c.seals-test.true (c.in_ok-seal.ensures.exact c.seals.seals.items c.seals.invariant.least)
      c.seals.invariant.rest);
}
