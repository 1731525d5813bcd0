use Rattle.std.proofs.Common.{[], false, refl, ap, subst, ◌∙◌}
use Rattle.ltp_segment.specs.Reading.{seen}
use Rattle.ltp_engine.specs.Effects.{effects_of}
use Rattle.peer_sessions.specs.Sessions.{hears, hears_after}
use Rattle.peer_sessions.specs.Views.{face_keys, PeerSessionsValue}
use Rattle.peer_sessions.specs.Ties.{Does, state_of, keys_in}
use Rattle.peer_sessions.proofs.DoesLemmas.{does-hear}
use Rattle.peer_sessions.proofs.sessions.PeerSessions.hear.Goals as goal

pub returns-clause-done : goal.returns-clause-done
returns-clause-done c =
    let passed = c.in_ok-gone.ensures.after in
    let heard = c.in_ok-heard.ensures in
    subst (λ (old : PeerSessionsValue). Does old (record { spent = false; keys = keys_in c.hear.new.self; sessions = state_of c.hear.new.self }) (hears old.keys old.sessions (seen c.args.read) c.args.now)
    (record { gone = c.in_ok-gone.gone; forgotten = c.in_ok-heard.heard.forgotten; effects = c.in_ok-heard.heard.effects })) c.self.view_is
    (does-hear (record { spent = c.self.inside.spent; keys = keys_in c.self.inside.parts; sessions = state_of c.self.inside.parts })
    (record { spent = false; keys = keys_in c.hear.new.self; sessions = state_of c.hear.new.self }) (state_of c.pass.new.self) (seen c.args.read) c.args.now _
    refl (ap face_keys ((heard.after).keys ∙ passed.keys)) passed.is c.in_ok-gone.ensures.gone
    (heard.forgotten ∙ ap (λ k. (hears_after (face_keys k) [] (state_of c.pass.new.self) (seen c.args.read) c.args.now).forgotten) passed.keys)
    (heard.effects ∙ ap (λ k. effects_of (hears_after (face_keys k) [] (state_of c.pass.new.self) (seen c.args.read) c.args.now).effects) passed.keys)
    ((heard.after).is ∙ ap (λ k. (hears_after (face_keys k) [] (state_of c.pass.new.self) (seen c.args.read) c.args.now).sessions) passed.keys))
