use Rattle.std.proofs.Common.{◌≡◌, ◌-◌, ◌^◌, ℕ, List, Bool, length, refl, ap, subst, ◌∙◌}
use Rattle.ltp_engine.specs.Values.{EngineValue}
use Rattle.peer_sessions.specs.Sessions.{with_closed, still_kept}
use Rattle.peer_sessions.proofs.SettleLemmas.{settle-room}
use Rattle.peer_sessions.proofs.parts.Parts.settle.Goals as goal

pub remember_all-requires-clause-places : goal.remember_all-requires-clause-places
remember_all-requires-clause-places c = settle-room c.args.self.now.engine c.args.self.now.memory c.in_ok-numbers.numbers.items c.requires.places c.in_ok-numbers.ensures.each c.in_ok-numbers.ensures.once

pub returns : goal.returns
returns c = record {
  limit = subst (λ (ps : List Bool). length ps ≡ 2 ^ 64 - 1) c.closed-closed.ensures.are (c.closed-closed.ensures.limit c.requires.whole);
  keys = refl;
  at_most = refl;
  blocks = refl;
  engine = c.in_ok-numbers.ensures.value;
  bounded = c.in_ok-numbers.ensures.bounds;
  memory = c.in_ok-remember_all.ensures ∙ ap (λ (ns : List ℕ). with_closed ns c.args.self.now.memory) c.in_ok-numbers.ensures.numbers;
  moments = c.keep_received.ensures ∙ ap (λ (e : EngineValue). still_kept (e.inbound).receivers c.args.self.now.moments) c.in_ok-numbers.ensures.value;
}
