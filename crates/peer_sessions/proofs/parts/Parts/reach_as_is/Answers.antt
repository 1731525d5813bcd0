use Rattle.std.proofs.Common.{◌∙◌, ap}
use Rattle.ltp_segment.specs.Views.{segment_value}
use Rattle.ltp_session.specs.Engine.{EngineStep}
use Rattle.ltp_engine.specs.Effects.{effects_of}
use Rattle.peer_sessions.specs.Ties.{state_of, keys_in}
use Rattle.peer_sessions.proofs.HearLemmas.{face-of, hears-as-is}
use Rattle.peer_sessions.proofs.parts.Parts.reach_as_is.Goals as goal

pub returns : goal.returns
returns c =
    let r = c.in_ok-reach.ensures in
    let so = hears-as-is (keys_in c.args.self.now) (state_of c.args.self.now) (segment_value c.args.segment) c.args.now
    (face-of c.args.self.now.keys c.args.self.now.engine c.args.self.now.memory c.args.self.now.moments (c.requires.whole).whole) c.requires.none in
    record {
      after = record { whole = (r.after).whole; keys = (r.after).keys; is = (r.after).is ∙ so.sessions };
      forgotten = so.forgotten;
      effects = r.effects ∙ ap (λ (step : EngineStep). effects_of step.effects) so.effects;
    }
