use Rattle.std.proofs.Common.{rules, arith, refl, ◌∙◌}
use Rattle.std.proofs.lemmas.List.{drop_all}
use Rattle.serve_run.proofs.ActLemmas.{left-is, sending-start, sending-more, sending-end}
use Rattle.serve_run.proofs.sending.send_all.Goals as goal

pub sending-init : goal.sending-init
sending-init g c = record {
  sending = sending-start c.args.out.now _ _;
  sink = refl;
  lent = refl;
  inside = omega arith;
  long = omega arith;
  capacity = omega arith;
}

pub sending-preserved : goal.sending-preserved
sending-preserved g c =
    let here = left-is c.args.out.now c.sending.at c.index-out-at.result c.sending-test.true c.index-out-at.is in
    record {
      sending = sending-more c.args.out.now c.sending.at _ _ _ _ _ _ c.index-out-at.result here c.sending.invariant.sending c.send_one.ensures.sent;
      sink = c.send_one.ensures.sink ∙ c.sending.invariant.sink;
      lent = c.send_one.ensures.lent ∙ c.sending.invariant.lent;
      inside = search rules;
      long = search rules;
      capacity = search rules;
    }

pub returns-clause-sent : goal.returns-clause-sent
returns-clause-sent g c =
    let none = drop_all c.sending.at c.args.out.now c.sending-test.false in
    sending-end c.args.out.now _ _ _ _ (rw none at c.sending.invariant.sending)
