use Rattle.std.proofs.Common.{◌≡◌, ◌+◌, List, arith, subst}
use Rattle.std.specs.String.{string_bytes}
use Rattle.ltp_world.specs.declared.effects.EndEffects.{EndEffects}
use Rattle.link_run.specs.Shows.{capped}
use Rattle.link_run.specs.WrittenLines.{octets_sent}
use Rattle.link_run.proofs.TurnLemmas.{Tells, passed_turn}
use Rattle.link_run.proofs.running.pass.Goals as goal

pub returns-clause-turn : goal.returns-clause-turn
returns-clause-turn c = λ s lc stands.
    passed_turn _ c.args.world.now c.clock.new.self c.args.octets.now c.tell.new.octets s lc c.args.now (string_bytes c.args.text.now) (string_bytes c.tell.new.text) stands c.requires.moment
    c.in_ok-told.told c.sent.result c.tell.result (omega (arith, c.now.ensures, c.if-now.false)) c.in_ok-told.ensures.done c.clock.ensures.contact c.sent.ensures
    (subst (λ (es : List EndEffects). c.tell.new.octets ≡ capped (c.args.octets.now + octets_sent es)) c.as_slice.ensures c.tell.ensures.counted)
    (subst (λ (es : List EndEffects). Tells _ c.args.octets.now c.sent.result es c.tell.result (string_bytes c.args.text.now) (string_bytes c.tell.new.text)) c.as_slice.ensures c.tell.ensures.told)
