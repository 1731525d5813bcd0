use Rattle.std.proofs.Common.{Err, subst}
use Rattle.std.specs.String.{string_bytes}
use Rattle.ltp_world.specs.declared.refused.DrainRefused.{DrainRefused}
use Rattle.ltp_world.specs.Drain.{InEveryRun}
use Rattle.ltp_world.specs.Picks.{DrainsBy, PicksAll, PicksUntilLate}
use Rattle.ltp_world.specs.Values.{WorldValue}
use Rattle.link_run.specs.Picks.{said_picks}
use Rattle.link_run.proofs.PickedLemmas.{TellsPicked, late_turn, picked_turn}
use Rattle.link_run.proofs.picked.drain_by.Goals as goal

pub returns-in-Ok-clause-turn : goal.returns-in-Ok-clause-turn
returns-in-Ok-clause-turn c = λ s lc stands.
    picked_turn c.args.world c.args.octets s lc stands (said_picks c.args.picks.now) c.drain_by.new.self c.in_ok-picks.picks.items c.in_ok-picks.ensures c.in-Ok.done
    (subst (λ (l : WorldValue). InEveryRun (PicksAll l c.drain_by.new.self c.in_ok-picks.picks.items c.in-Ok.done) l c.drain_by.new.self) c.into_link-link.ensures
    (subst (λ ps. InEveryRun (PicksAll c.into_link-link.result c.drain_by.new.self ps c.in-Ok.done) c.into_link-link.result c.drain_by.new.self) c.as_slice.ensures.value
    c.in-Ok.ensures.does))
    _ c.tell_picked.result (string_bytes c.args.text.now) (string_bytes c.tell_picked.new.text)
    (subst (λ n. TellsPicked _ c.args.octets n c.in-Ok.done c.tell_picked.result (string_bytes c.args.text.now) (string_bytes c.tell_picked.new.text)) c.sent.ensures
    c.tell_picked.ensures.told)

pub returns-in-TooLate-clause-turn : goal.returns-in-TooLate-clause-turn
returns-in-TooLate-clause-turn c = λ s lc stands.
    late_turn c.args.world c.args.octets s lc stands (said_picks c.args.picks.now) c.drain_by.new.self c.in_ok-picks.picks.items c.in_ok-picks.ensures
    (string_bytes c.args.text.now)
    (subst (λ (l : WorldValue). InEveryRun (PicksUntilLate l c.drain_by.new.self c.in_ok-picks.picks.items) l c.drain_by.new.self) c.into_link-link.ensures
    (subst (λ ps. InEveryRun (PicksUntilLate c.into_link-link.result c.drain_by.new.self ps) c.into_link-link.result c.drain_by.new.self) c.as_slice.ensures.value
    (subst (λ (r : DrainRefused). DrainsBy c.into_link-link.result c.drain_by.new.self c.as_slice.result.now (Err r)) c.in-TooLate.is c.in-Err.ensures.does)))
