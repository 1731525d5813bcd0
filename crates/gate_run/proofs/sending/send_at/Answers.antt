use Rattle.std.proofs.Common.{rules, ◌≡◌, true, false, sym, ◌∙◌}
use Rattle.std.specs.Option.{is_some}
use Rattle.gate_run.specs.Stages.{next_at}
use Rattle.gate_run.proofs.MadeLemmas.{one-less}
use Rattle.gate_run.proofs.SendLemmas.{sending-start, sending-more, sending-last, sending-end}
use Rattle.gate_run.proofs.sending.send_at.Goals as goal

pub sending-init : goal.sending-init
sending-init g c = record {
  sending = λ p at. rw (c.waiting-left.ensures p.standing at.shown) (sending-start _ _ _ _ c.args.face p at);
  writes = search rules;
  stores = search rules;
}

pub returns-then-not-send_one-clause-leads : goal.returns-then-not-send_one-clause-leads
returns-then-not-send_one-clause-leads g c = λ p at.
    let sending = rw (one-less c.sending.left c.sending-test.true) at c.sending.invariant.sending p at in
    let went : is_some (next_at c.args.face sending.point) ≡ false =
    sym (c.send_one.ensures.went sending.point sending.at) ∙ c.if-not-send_one.true in
    sending-last _ _ _ _ _ _ _ _ c.args.face _ sending went (c.send_one.ensures.leads sending.point sending.at)

pub sending-preserved : goal.sending-preserved
sending-preserved g c = record {
  sending = λ p at.
      let sending = rw (one-less c.sending.left c.sending-test.true) at c.sending.invariant.sending p at in
      let went : is_some (next_at c.args.face sending.point) ≡ true =
      sym (c.send_one.ensures.went sending.point sending.at) ∙ c.if-not-send_one.false in
      sending-more _ _ _ _ _ _ _ _ c.args.face _ sending went (c.send_one.ensures.leads sending.point sending.at);
  writes = search rules;
  stores = search rules;
}

pub returns-clause-leads : goal.returns-clause-leads
returns-clause-leads g c = λ p at.
    sending-end _ _ _ _ c.sending.left c.args.face _ (search rules) (c.sending.invariant.sending p at)
