use Rattle.std.proofs.Common.{ℕ, List, subst, sym, ◌∙◌, ap}
use Rattle.session_memory.specs.Memory.{Memory}
use Rattle.ltp_engine.specs.Shows.{AreDistinct}
use Rattle.peer_sessions.specs.Sessions.{closes}
use Rattle.peer_sessions.specs.Moments.{stale_in}
use Rattle.peer_sessions.specs.Views.{AreWhole, sessions_of}
use Rattle.peer_sessions.proofs.StepLemmas.{AreKept, passed-whole, stale-kept, stale-once}
use Rattle.peer_sessions.proofs.parts.Parts.pass.Goals as goal

pub let_go_all-requires-clause-whole : goal.let_go_all-requires-clause-whole
let_go_all-requires-clause-whole c = record {
  whole = subst (λ (m : Memory). AreWhole c.args.self.now.keys c.args.self.now.engine m c.args.self.now.moments) (sym c.pass.ensures)
      (passed-whole c.args.self.now.keys c.args.self.now.engine c.args.self.now.memory c.args.self.now.moments c.args.now (c.requires.whole).whole);
  cells = (c.requires.whole).cells;
  blocks = (c.requires.whole).blocks;
}

pub let_go_all-requires-clause-kept : goal.let_go_all-requires-clause-kept
let_go_all-requires-clause-kept c = subst (λ (ns : List ℕ). AreKept c.args.self.now.engine.inbound.receivers ns) (sym (c.as_slice.ensures.value ∙ c.in_ok-gone.ensures))
    (stale-kept c.args.self.now.keys.remember_ms c.args.now c.args.self.now.engine.inbound.receivers c.args.self.now.moments ((c.requires.whole).whole).kept)

pub let_go_all-requires-clause-once : goal.let_go_all-requires-clause-once
let_go_all-requires-clause-once c = subst (λ (ns : List ℕ). AreDistinct ns) (sym (c.as_slice.ensures.value ∙ c.in_ok-gone.ensures))
    (stale-once c.args.self.now.keys.remember_ms c.args.now c.args.self.now.moments ((c.requires.whole).whole).once)

pub returns-clause-after : goal.returns-clause-after
returns-clause-after c =
    let s = c.in_ok-let_go_all.ensures in
    record {
      whole = s.whole;
      keys = s.keys;
      is = s.is ∙ (ap (λ (ns : List ℕ). closes ns (sessions_of c.args.self.now.engine c.pass.new.self c.args.self.now.moments)) (c.as_slice.ensures.value ∙ c.in_ok-gone.ensures)
          ∙ ap (λ (m : Memory). closes (stale_in c.args.self.now.keys.remember_ms c.args.now c.args.self.now.moments) (sessions_of c.args.self.now.engine m c.args.self.now.moments)) c.pass.ensures);
    }
