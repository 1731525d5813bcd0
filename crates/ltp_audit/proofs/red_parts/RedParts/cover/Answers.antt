use Rattle.std.proofs.Common.{arith}
use Rattle.ltp_audit.proofs.RedPartLemmas.{covers-too}
use Rattle.ltp_audit.proofs.red_parts.RedParts.cover.Goals as goal

pub returns-clause-held : goal.returns-clause-held
returns-clause-held c = λ body ends.
    let high = c.ranges.to.fits in
    covers-too c.args.self.now.held c.take_places-places.new.self.held c.insert.new.self c.args.name.originator c.args.name.number c.args.from c.args.to
    c.take_places-places.result _ body c.take_places-places.ensures.places c.take_places-places.ensures.others
    c.in_ok-insert.ensures.updates.0 c.in_ok-add.ensures.places ends (omega (arith, high))
