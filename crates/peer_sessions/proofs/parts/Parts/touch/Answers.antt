use Rattle.std.proofs.Common.{ℕ, refl, sym, ◌∙◌, ap, subst, arith}
use Rattle.session_memory.specs.Memory.{Memory, touched}
use Rattle.peer_sessions.specs.Views.{AreWhole, sessions_of}
use Rattle.peer_sessions.proofs.HearLemmas.{touched-whole}
use Rattle.peer_sessions.proofs.parts.Parts.touch.Goals as goal

pub returns-clause-after : goal.returns-clause-after
returns-clause-after c =
    let step = c.in_ok-forgotten.ensures.step ∙ ap (λ (r : ℕ). touched c.args.n c.args.now r c.args.self.now.memory) c.receiving-receiving.ensures in
    record {
      whole = record {
        whole = subst (λ (m : Memory). AreWhole c.args.self.now.keys c.args.self.now.engine m c.args.self.now.moments) (sym step)
            (touched-whole c.args.self.now.keys c.args.n c.args.now c.args.self.now.engine c.args.self.now.memory c.args.self.now.moments (omega (arith, c.ranges.n.fits)) (c.requires.whole).whole);
        cells = (c.requires.whole).cells;
        blocks = (c.requires.whole).blocks;
      };
      keys = refl;
      is = ap (λ (m : Memory). sessions_of c.args.self.now.engine m c.args.self.now.moments) step;
    }
