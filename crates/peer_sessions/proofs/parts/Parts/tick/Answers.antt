use Rattle.std.proofs.Common.{subst, sym, arith}
use Rattle.peer_sessions.specs.Views.{AreWhole}
use Rattle.peer_sessions.proofs.SettleLemmas.{tick-room, tick-effects, tick-settled, tick-cells, tick-shows, settled-cells}
use Rattle.peer_sessions.proofs.KeptBlockLemmas.{blocks-with, tick-blocks}
use Rattle.peer_sessions.proofs.parts.Parts.tick.Goals as goal

pub settle-requires-clause-places : goal.settle-requires-clause-places
settle-requires-clause-places c = tick-room c.args.self.now.keys c.args.self.now.engine c.tick.new.self c.args.self.now.memory c.args.self.now.moments c.args.now c.in_ok-effects.effects (c.requires.whole).whole c.in_ok-effects.ensures.done

pub returns-clause-effects : goal.returns-clause-effects
returns-clause-effects c = tick-effects c.args.self.now.keys c.args.self.now.engine c.tick.new.self c.args.self.now.memory c.args.self.now.moments c.args.now c.in_ok-effects.effects (c.requires.whole).whole c.in_ok-effects.ensures.done

pub returns-clause-after : goal.returns-clause-after
returns-clause-after c =
    let s = c.in_ok-settle.ensures in
    let done = tick-settled c.args.self.now.keys c.args.self.now.engine c.tick.new.self c.settle.new.self.engine c.args.self.now.memory c.settle.new.self.memory c.args.self.now.moments c.settle.new.self.moments c.args.now
    c.in_ok-effects.effects (c.requires.whole).whole c.in_ok-effects.ensures.done s.limit s.engine s.bounded s.memory s.moments in
    record {
      whole = record {
        whole = subst (λ k. AreWhole k c.settle.new.self.engine c.settle.new.self.memory c.settle.new.self.moments) (sym s.keys) done.whole;
        cells =
            let few = tick-cells c.args.self.now.keys c.args.self.now.engine c.tick.new.self c.args.self.now.memory c.args.self.now.moments c.args.now c.in_ok-effects.effects (c.requires.whole).whole c.in_ok-effects.ensures.done in
            let had = (c.requires.whole).cells in
            settled-cells c.tick.new.self c.settle.new.self.engine c.args.self.now.at_most c.settle.new.self.at_most s.engine s.at_most (omega (arith, few, had));
        blocks = blocks-with c.tick.new.self c.settle.new.self.engine _ c.follow.new.self c.settle.new.self.blocks s.engine s.blocks
            (tick-blocks c.args.self.now.keys c.args.self.now.engine c.tick.new.self c.args.now c.args.self.now.blocks c.follow.new.self
            (tick-shows c.args.self.now.keys c.args.self.now.engine c.tick.new.self c.args.self.now.memory c.args.self.now.moments c.args.now c.in_ok-effects.effects (c.requires.whole).whole c.in_ok-effects.ensures.done)
            (c.requires.whole).blocks c.in_ok-follow.ensures);
      };
      keys = s.keys;
      is = done.is;
    }
