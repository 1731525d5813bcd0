use Rattle.std.proofs.Common.{◌∙◌, ap}
use Rattle.ltp_session.specs.Engine.{tick_segments, tick_remarks}
use Rattle.ltp_engine.specs.Ties.{party_of}
use Rattle.ltp_segment.specs.PolicyViews.{policy_value}
use Rattle.ltp_engine.specs.Tables.{table_of}
use Rattle.ltp_engine.specs.Ticks.{sender_ticked, with_ticks}
use Rattle.ltp_engine.proofs.EngineLemmas.{tick-whole, tick-steps}
use Rattle.ltp_engine.proofs.parts.Parts.tick.Goals as goal

pub returns-clause-whole : goal.returns-clause-whole
returns-clause-whole c = tick-whole (party_of c.args.self.now) c.args.self.now.next c.args.now c.args.self.now.senders.entries c.tick.new.senders.entries c.args.self.now.inbound c.tick-2.new.self
    c.requires.whole c.in_ok-sent.ensures.next c.in_ok-told.ensures.next

pub returns-clause-done : goal.returns-clause-done
returns-clause-done c = tick-steps (party_of c.args.self.now) c.args.self.now.next c.args.now c.args.self.now.senders.entries c.tick.new.senders.entries c.args.self.now.inbound c.tick-2.new.self
    c.in_ok-sent.sent c.in_ok-told.told c.requires.whole c.in_ok-sent.ensures.next c.in_ok-told.ensures.next
    (c.in_ok-sent.ensures.effects ∙ ap (λ e. with_ticks e (tick_segments (sender_ticked (policy_value c.args.self.now.policy) c.args.now) c.args.self.now.own (table_of c.args.self.now.senders.entries)) (tick_remarks (sender_ticked (policy_value c.args.self.now.policy) c.args.now) (table_of c.args.self.now.senders.entries))) c.none-nothing.ensures)
    c.in_ok-told.ensures.effects
