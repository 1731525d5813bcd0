use Rattle.std.proofs.Common.{◌∷◌, [], false, sym, subst}
use Rattle.ltp_session.specs.World.{clock}
use Rattle.ltp_world.specs.Shows.{ShowsRun}
use Rattle.ltp_world.specs.Ties.{made_world, IsSound}
use Rattle.ltp_world.proofs.WorldLemmas.{new-run, new-sound}
use Rattle.ltp_world.proofs.world.LinkWorld.new.Goals as goal

pub invariant_of-result : goal.invariant_of-result
invariant_of-result c =
    subst (λ sent. IsSound (made_world false (c.args.first, c.args.second) sent c.args.now)) (sym c.new.ensures.items)
    (new-sound c.args.first c.args.second c.args.now c.requires.first c.requires.second c.requires.peers c.requires.alike c.requires.moment)

pub returns-clause-shows : goal.returns-clause-shows
returns-clause-shows c =
    subst (λ sent. ShowsRun (made_world false (c.args.first, c.args.second) sent c.args.now) (clock c.args.now ∷ [])) (sym c.new.ensures.items)
    (new-run c.args.first c.args.second c.args.now c.requires.first c.requires.second c.requires.peers c.requires.alike)
