use Rattle.std.proofs.Common.{◌≡◌, ◌+◌, List, subst}
use Rattle.std.specs.String.{string_bytes}
use Rattle.ltp_world.specs.declared.effects.EndEffects.{EndEffects}
use Rattle.link_run.specs.Shows.{capped}
use Rattle.link_run.specs.WrittenLines.{octets_sent}
use Rattle.link_run.proofs.TurnLemmas.{Tells, delivered_turn, undelivered_all}
use Rattle.link_run.proofs.running.deliver.Goals as goal

pub returns-in-Ok-clause-turn : goal.returns-in-Ok-clause-turn
returns-in-Ok-clause-turn c = λ s lc stands.
    delivered_turn _ c.args.world.now c.deliver.new.self c.args.octets.now c.tell.new.octets s lc c.args.k (string_bytes c.args.text.now) (string_bytes c.tell.new.text) stands
    c.in-Ok.told c.sent.result c.tell.result c.in-Ok.ensures.does c.deliver.ensures.contact c.sent.ensures
    (subst (λ (es : List EndEffects). c.tell.new.octets ≡ capped (c.args.octets.now + octets_sent es)) c.as_slice.ensures c.tell.ensures.counted)
    (subst (λ (es : List EndEffects). Tells _ c.args.octets.now c.sent.result es c.tell.result (string_bytes c.args.text.now) (string_bytes c.tell.new.text)) c.as_slice.ensures c.tell.ensures.told)

pub returns-in-Err-clause-turn : goal.returns-in-Err-clause-turn
returns-in-Err-clause-turn c = λ s lc stands.
    undelivered_all _ c.args.world.now c.deliver.new.self c.args.octets.now c.args.octets.now s lc c.args.k (string_bytes c.args.text.now) (string_bytes c.undelivered.new.text) stands
    c.in-Err.refused c.undelivered.result c.in-Err.ensures.does c.undelivered.ensures
