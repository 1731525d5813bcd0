use Rattle.std.proofs.Common.{◌≡◌, ◌&&◌, ℕ, not, false, length, refl, subst}
use Rattle.std.specs.String.{string_bytes}
use Rattle.link_run.proofs.TurnLemmas.{TellsDrain, drained_turn, limited_turn}
use Rattle.link_run.proofs.running.drain.Goals as goal
use Rattle.link_run.proofs.running.drain.Goals.{else-done-via-then-done+else-not-windows, else-done-via-else-done}

pub returns-then-not-windows-clause-turn : goal.returns-then-not-windows-clause-turn
returns-then-not-windows-clause-turn c = λ s lc stands given.
    limited_turn ℕ c.args.world.now c.drain.new.self c.args.octets s lc stands c.in_ok-done.done c.in_ok-done.ensures.does c.args.windows (string_bytes c.args.text.now) given
    (rw (c.if-done.true, c.if-not-windows.true) refl)

pub returns-clause-turn : goal.returns-clause-turn
returns-clause-turn c = λ s lc stands given.
    let goes : (c.in_ok-done.done.plan_ends && not c.args.windows) ≡ false = elim c.else-done.branch [
      | else-done-via-then-done+else-not-windows w ↦ rw (w.if-done.true, w.if-not-windows.false) refl
      | else-done-via-else-done w ↦ rw w.if-done.false refl
    ] in
    drained_turn _ c.args.world.now c.drain.new.self c.args.octets s lc stands c.in_ok-done.done c.in_ok-done.ensures.does c.args.windows c.tell_drained.result
    (string_bytes c.args.text.now) (string_bytes c.tell_drained.new.text) given goes
    (subst (λ m. TellsDrain _ c.args.windows m c.args.octets (length c.drain.new.self.link.sent) c.in_ok-done.done c.tell_drained.result
    (string_bytes c.args.text.now) (string_bytes c.tell_drained.new.text)) c.now-moment.ensures
    (subst (λ n. TellsDrain _ c.args.windows c.now-moment.result c.args.octets n c.in_ok-done.done c.tell_drained.result
    (string_bytes c.args.text.now) (string_bytes c.tell_drained.new.text)) c.sent.ensures c.tell_drained.ensures.told))
