use Rattle.std.proofs.Common.{◌∙◌, ℕ, nat_lt, length, refl, sym, ap, arith, subst}
use Rattle.ltp_segment.specs.Views.{content_value, segment_value}
use Rattle.ltp_engine.specs.Sessions.{is_receiving}
use Rattle.peer_sessions.specs.Views.{AreWhole}
use Rattle.peer_sessions.proofs.SettleLemmas.{settled-cells}
use Rattle.peer_sessions.proofs.HearLemmas.{hear-room, hear-effects, hear-cells, reach-settled, touch-is, hear-shows}
use Rattle.peer_sessions.specs.Blocks.{over_of}
use Rattle.peer_sessions.proofs.KeptBlockLemmas.{blocks-with, hear-blocks}
use Rattle.peer_sessions.proofs.parts.Parts.reach.Goals as goal

pub settle-requires-clause-places : goal.settle-requires-clause-places
settle-requires-clause-places c = hear-room c.args.self.now.keys c.args.self.now.engine c.hear.new.self c.args.self.now.memory c.args.self.now.moments (segment_value c.args.segment) c.args.now c.in_ok-effects.effects
    (c.requires.whole).whole c.in_ok-effects.ensures.done c.requires.place

pub returns : goal.returns
returns c =
    let s = c.in_ok-settle.ensures in
    let few = hear-cells c.args.self.now.keys c.args.self.now.engine c.hear.new.self c.args.self.now.memory c.args.self.now.moments (segment_value c.args.segment) c.args.now c.in_ok-effects.effects
    (c.requires.whole).whole c.in_ok-effects.ensures.done c.requires.place in
    let had = (c.requires.whole).cells in
    let came = c.red_octets.ensures in
    let done = reach-settled c.args.self.now.keys c.args.self.now.engine c.hear.new.self c.settle.new.self.engine c.args.self.now.memory c.settle.new.self.memory c.args.self.now.moments c.touch_if.new.self
    c.settle.new.self.moments (segment_value c.args.segment) c.args.now c.in_ok-effects.effects c.is_touched-touched.result (c.requires.whole).whole c.in_ok-effects.ensures.done c.requires.place
    (c.is_touched-touched.ensures ∙ touch-is c.is_of_peer-by_peer.result _ (is_receiving c.args.segment.session c.hear.new.self.inbound.receivers) c.as_slice.result.now c.in_ok-effects.effects.notes
    (content_value c.args.segment.content) c.is_of_peer-by_peer.ensures c.as_slice.ensures) c.in_ok-touch_if.ensures s.limit s.engine s.bounded s.memory s.moments in
    record {
      after = record {
        whole = record {
          whole = subst (λ k. AreWhole k c.settle.new.self.engine c.settle.new.self.memory c.settle.new.self.moments) (sym s.keys) done.whole;
          cells = settled-cells c.hear.new.self c.settle.new.self.engine c.at_most_with-self.result c.settle.new.self.at_most s.engine s.at_most (c.at_most_with-self.ensures (omega (arith, few, had, came)));
          blocks = blocks-with c.hear.new.self c.settle.new.self.engine _ c.follow_if.new.self c.settle.new.self.blocks s.engine s.blocks
              (hear-blocks c.args.self.now.keys c.args.self.now.engine c.hear.new.self (segment_value c.args.segment) c.args.now c.args.self.now.blocks c.follow_if.new.self _ _
              (hear-shows c.args.self.now.keys c.args.self.now.engine c.hear.new.self c.args.self.now.memory c.args.self.now.moments (segment_value c.args.segment) c.args.now c.in_ok-effects.effects (c.requires.whole).whole c.in_ok-effects.ensures.done)
              (c.requires.whole).blocks refl (c.over.ensures ∙ ap (λ (b : ℕ). over_of (nat_lt (length c.hear.new.self.senders) b) c.args.segment.session) c.sending-before.ensures) c.in_ok-follow_if.ensures);
        };
        keys = s.keys;
        is = done.is;
      };
      effects = hear-effects c.args.self.now.keys c.args.self.now.engine c.hear.new.self c.args.self.now.memory c.args.self.now.moments (segment_value c.args.segment) c.args.now c.in_ok-effects.effects
          (c.requires.whole).whole c.in_ok-effects.ensures.done;
    }
