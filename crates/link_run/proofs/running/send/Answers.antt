use Rattle.std.proofs.Common.{◌≡◌, ◌+◌, List, subst}
use Rattle.std.specs.String.{string_bytes}
use Rattle.ltp_world.specs.declared.effects.EndEffects.{EndEffects}
use Rattle.link_run.specs.Shows.{capped}
use Rattle.link_run.specs.WrittenLines.{octets_sent}
use Rattle.link_run.proofs.TurnLemmas.{Tells, sent_turn, unsent_all}
use Rattle.link_run.proofs.running.send.Goals as goal

pub returns-in-Ok-clause-turn : goal.returns-in-Ok-clause-turn
returns-in-Ok-clause-turn c = λ s lc stands.
    sent_turn _ c.args.world.now c.submit.new.self c.args.octets.now c.tell.new.octets s lc c.args.end c.args.block.now (string_bytes c.args.text.now) (string_bytes c.tell.new.text) stands
    c.in-Ok.effects c.sent.result c.tell.result c.in-Ok.ensures.does c.submit.ensures.contact c.sent.ensures
    (subst (λ (es : List EndEffects). c.tell.new.octets ≡ capped (c.args.octets.now + octets_sent es)) c.as_slice.ensures c.tell.ensures.counted)
    (subst (λ (es : List EndEffects). Tells _ c.args.octets.now c.sent.result es c.tell.result (string_bytes c.args.text.now) (string_bytes c.tell.new.text)) c.as_slice.ensures c.tell.ensures.told)

pub returns-in-Err-clause-turn : goal.returns-in-Err-clause-turn
returns-in-Err-clause-turn c = λ s lc stands.
    unsent_all _ c.args.world.now c.submit.new.self c.args.octets.now c.args.octets.now s lc c.args.end c.args.block.now (string_bytes c.args.text.now) (string_bytes c.unsent.new.text) stands
    c.in-Err.refused c.unsent.result c.in-Err.ensures.does c.unsent.ensures
