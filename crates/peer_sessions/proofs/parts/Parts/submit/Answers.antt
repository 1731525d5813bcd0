use Rattle.std.proofs.Common.{◌≡◌, ◌-◌, ◌^◌, List, Bool, length, refl, sym, subst, ◌≤◌}
use Rattle.ltp_engine.specs.Sessions.{cells_in}
use Rattle.peer_sessions.proofs.KeptBlockLemmas.{begun-blocks}
use Rattle.peer_sessions.proofs.BeginLemmas.{begun-does}
use Rattle.peer_sessions.proofs.parts.Parts.submit.Goals as goal

pub returns-clause-effects : goal.returns-clause-effects
returns-clause-effects c =
    let limit = subst (λ (ps : List Bool). length ps ≡ 2 ^ 64 - 1) c.closed-closed.ensures.are (c.closed-closed.ensures.limit (c.in-Ok.ensures.does).whole) in
    (begun-does c.args.self.now.keys c.args.self.now.engine c.submit.new.self c.args.self.now.memory c.args.self.now.moments c.args.block.now c.args.now c.in-Ok.effects (c.requires.whole).whole
    c.in-Ok.ensures.does c.in-Ok.ensures.bounds limit c.requires.some c.requires.most c.requires.free c.requires.numbers).told

pub returns-clause-after : goal.returns-clause-after
returns-clause-after c =
    let limit = subst (λ (ps : List Bool). length ps ≡ 2 ^ 64 - 1) c.closed-closed.ensures.are (c.closed-closed.ensures.limit (c.in-Ok.ensures.does).whole) in
    let done = begun-does c.args.self.now.keys c.args.self.now.engine c.submit.new.self c.args.self.now.memory c.args.self.now.moments c.args.block.now c.args.now c.in-Ok.effects (c.requires.whole).whole
    c.in-Ok.ensures.does c.in-Ok.ensures.bounds limit c.requires.some c.requires.most c.requires.free c.requires.numbers in
    record {
      whole = record {
        whole = done.whole;
        cells = subst (λ es. cells_in es ≤ c.args.self.now.at_most) (sym done.receivers) (c.requires.whole).cells;
        blocks = begun-blocks c.args.self.now.keys c.args.self.now.engine c.submit.new.self c.args.block.now c.args.now c.args.self.now.blocks c.begin.new.self c.next_session-n.result _ c.requires.some done.shows
            (c.requires.whole).blocks c.next_session-n.ensures refl c.in_ok-begin.ensures;
      };
      keys = refl;
      is = done.state;
    }
