use Rattle.std.proofs.Common.{ℕ, sym, ◌∙◌, ap, subst}
use Rattle.ltp_segment.specs.Views.{segment_value}
use Rattle.ltp_session.specs.Engine.{EngineStep}
use Rattle.session_memory.specs.Memory.{Memory, with_place, forgotten_by}
use Rattle.ltp_engine.specs.Effects.{effects_of}
use Rattle.peer_sessions.specs.Hearing.{reached}
use Rattle.peer_sessions.specs.Views.{AreWhole}
use Rattle.peer_sessions.specs.Ties.{state_of, keys_in}
use Rattle.peer_sessions.proofs.HearLemmas.{face-of, placed-whole, hears-placed}
use Rattle.peer_sessions.proofs.parts.Parts.reach_placed.Goals as goal

pub reach-requires-clause-whole : goal.reach-requires-clause-whole
reach-requires-clause-whole c = record {
  whole = subst (λ (m : Memory). AreWhole c.args.self.now.keys c.args.self.now.engine m c.args.self.now.moments) (sym c.make_place-forgotten.ensures.step)
      (placed-whole c.args.self.now.keys c.args.self.now.engine c.args.self.now.memory c.args.self.now.moments c.args.now c.receiving-receiving.result (c.requires.whole).whole);
  cells = (c.requires.whole).cells;
  blocks = (c.requires.whole).blocks;
}

pub returns : goal.returns
returns c =
    let r = c.in_ok-reach.ensures in
    let receiving = c.receiving-receiving.ensures in
    let so = hears-placed (keys_in c.args.self.now) (state_of c.args.self.now) (segment_value c.args.segment) c.args.now
    (face-of c.args.self.now.keys c.args.self.now.engine c.args.self.now.memory c.args.self.now.moments (c.requires.whole).whole) c.requires.met c.requires.new in
    record {
      after = record {
        whole = (r.after).whole;
        keys = (r.after).keys;
        is = (r.after).is ∙ (ap (λ (m : Memory). reached (keys_in c.args.self.now) (record (state_of c.args.self.now) { memory = m }) (segment_value c.args.segment) c.args.now)
            (c.make_place-forgotten.ensures.step ∙ ap (λ (n : ℕ). with_place c.args.now n c.args.self.now.memory) receiving) ∙ so.sessions);
      };
      forgotten = c.make_place-forgotten.ensures.forgotten ∙ (ap (λ (n : ℕ). forgotten_by c.args.self.now.memory n) receiving ∙ so.forgotten);
      effects = r.effects ∙ ap (λ (step : EngineStep). effects_of step.effects) so.effects;
    }
