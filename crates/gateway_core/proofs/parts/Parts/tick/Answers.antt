use Rattle.std.proofs.Common.{refl}
use Rattle.gateway_core.proofs.DidLemmas.{ticked-both}
use Rattle.gateway_core.proofs.parts.Parts.tick.Goals as goal

pub returns : goal.returns
returns c = ticked-both c.args.self.now (record c.args.self.now { old_face = c.tick.new.self }) _ c.args.now c.in_ok-old.old c.in_ok-new.new c.in_ok-first.first c.in_ok-second.second c.followed_by.result c.requires.whole
    (record { other = refl; gate = refl; cut = refl; counter = refl }) (record { other = refl; gate = refl; cut = refl; counter = refl })
    c.in_ok-old.ensures.done c.in_ok-old.ensures.bounds c.in_ok-new.ensures.done c.in_ok-new.ensures.bounds c.in_ok-first.ensures.routed c.in_ok-second.ensures.routed c.followed_by.ensures.joined
