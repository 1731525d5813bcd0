use Rattle.std.proofs.Common.{◌≡◌, ℕ, is_some, rules, subst}
use Rattle.std.proofs.lemmas.Fn.{filter_same}
use Rattle.ltp_session.specs.Table.{find}
use Rattle.peer_sessions.specs.Sessions.{still_kept}
use Rattle.peer_sessions.proofs.moments.Moments.keep_received.Goals as goal

pub returns : goal.returns
returns c = subst (λ moments. c.retain.new.self.items ≡ still_kept c.args.engine.now.inbound.receivers moments) c.self.view_is
    (filter_same _ (λ (entry : ℕ × ℕ). is_some (find entry.0 c.args.engine.now.inbound.receivers)) _ (λ x b f' k. search rules) _ _ c.retain.ensures.filtered)
