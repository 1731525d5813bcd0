-- Each way out of the loop, by the step of a list of groups that it is.
use Rattle.std.proofs.Common.{arith, le-leb}
use Rattle.std.proofs.lemmas.Bool.{lt-leb}
use Rattle.wire_fields.specs.Reading.{read}
use Rattle.waybill.specs.Cause.{refusal}
use Rattle.waybill.specs.Table.{item, is_last, items_listed}
use Rattle.wire_fields.proofs.FrontLemmas.{gives-fault}
use Rattle.wire_fields.proofs.GroupLemmas.{listed_until-step, listed_until-last, listed_until-fails, listed_until-end, listed_until-none}
use Rattle.waybill.proofs.reading.read_items.Goals as goal

pub returns-in_err-item-clause-exact : goal.returns-in_err-item-clause-exact
returns-in_err-item-clause-exact c =
    gives-fault (λ v. v.items) refusal c.from_residual.result c.in_err-item.field-0.0 (read (items_listed c.args.most) c.args.text.now c.args.at)
    c.from_residual.ensures.1
    (listed_until-fails item is_last c.args.text.now c.args.most c.items.i c.items.items.items c.items.after (refusal c.in_err-item.field-0.0)
    (read (items_listed c.args.most) c.args.text.now c.args.at) c.items-test.true (rw c.deref.ensures.value at c.in_err-item.ensures.exact) c.items.invariant.rest)

pub returns-then-item-ge2-clause-exact : goal.returns-then-item-ge2-clause-exact
returns-then-item-ge2-clause-exact c =
    rw c.in_ok-push.ensures.items
    (listed_until-last item is_last c.args.text.now c.args.most c.items.i c.items.items.items c.in_ok-item.item c.items.after c.in_ok-item.next
    (read (items_listed c.args.most) c.args.text.now c.args.at) c.items-test.true (rw c.deref.ensures.value at c.in_ok-item.ensures.exact)
    (le-leb 2 c.in_ok-item.item.kind c.if-item-ge2.true) c.items.invariant.rest)

pub items-preserved : goal.items-preserved
items-preserved c = record {
  place = record { behind = omega (arith, c.items.invariant.place.behind, c.in_ok-item.ensures.within.behind); within = c.in_ok-item.ensures.within.within };
  rest = rw c.in_ok-push.ensures.items
      (listed_until-step item is_last c.args.text.now c.args.most c.items.i c.items.items.items c.in_ok-item.item c.items.after c.in_ok-item.next
      (read (items_listed c.args.most) c.args.text.now c.args.at) c.items-test.true (rw c.deref.ensures.value at c.in_ok-item.ensures.exact)
      (lt-leb 2 c.in_ok-item.item.kind c.if-item-ge2.false) c.items.invariant.rest);
}

pub returns-in_err-item-2-clause-exact : goal.returns-in_err-item-2-clause-exact
returns-in_err-item-2-clause-exact c =
    gives-fault (λ v. v.items) refusal c.from_residual-in_err-item-2.result c.in_err-item-2.field-0.0 (read (items_listed c.args.most) c.args.text.now c.args.at)
    c.from_residual-in_err-item-2.ensures.1
    (listed_until-none item is_last c.args.text.now c.args.most c.items.i c.items.items.items c.items.after (refusal c.in_err-item-2.field-0.0)
    (read (items_listed c.args.most) c.args.text.now c.args.at) c.items-test.false (rw c.deref-2.ensures.value at c.in_err-item-2.ensures.exact) c.items.invariant.rest)

pub returns-clause-exact : goal.returns-clause-exact
returns-clause-exact c =
    rw c.in_ok-push-2.ensures.items
    (listed_until-end item is_last c.args.text.now c.args.most c.items.i c.items.items.items c.in_ok-item-2.item c.items.after c.in_ok-item-2.end
    (read (items_listed c.args.most) c.args.text.now c.args.at) c.items-test.false (rw c.deref-2.ensures.value at c.in_ok-item-2.ensures.exact)
    c.items.invariant.rest)
