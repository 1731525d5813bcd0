use Rattle.std.proofs.Common.{false, None, refl, ap, subst, ◌∙◌}
use Rattle.ltp_session.specs.Engine.{tick_step}
use Rattle.ltp_engine.specs.Effects.{effects_of}
use Rattle.peer_sessions.specs.Sessions.{ticks, left_by}
use Rattle.peer_sessions.specs.Views.{face_keys, PeerSessionsValue}
use Rattle.peer_sessions.specs.Ties.{Does, state_of, keys_in}
use Rattle.peer_sessions.proofs.DoesLemmas.{does-tick}
use Rattle.peer_sessions.proofs.sessions.PeerSessions.tick.Goals as goal

pub returns-clause-done : goal.returns-clause-done
returns-clause-done c =
    let passed = c.in_ok-gone.ensures.after in
    let ticked = c.in_ok-effects.ensures.after in
    subst (λ (old : PeerSessionsValue). Does old (record { spent = false; keys = keys_in c.tick.new.self; sessions = state_of c.tick.new.self }) (ticks old.keys old.sessions c.args.now) (record { gone = c.in_ok-gone.gone; forgotten = None; effects = c.in_ok-effects.effects })) c.self.view_is
    (does-tick (record { spent = c.self.inside.spent; keys = keys_in c.self.inside.parts; sessions = state_of c.self.inside.parts })
    (record { spent = false; keys = keys_in c.tick.new.self; sessions = state_of c.tick.new.self }) (state_of c.pass.new.self) c.args.now _
    refl (ap face_keys (ticked.keys ∙ passed.keys)) passed.is c.in_ok-gone.ensures.gone refl
    (c.in_ok-effects.ensures.effects ∙ ap (λ k. effects_of (tick_step (face_keys k).party (state_of c.pass.new.self).engine c.args.now).effects) passed.keys)
    (ticked.is ∙ ap (λ k. left_by (tick_step (face_keys k).party (state_of c.pass.new.self).engine c.args.now).engine (state_of c.pass.new.self).memory (state_of c.pass.new.self).moments) passed.keys))
