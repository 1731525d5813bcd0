use Rattle.std.proofs.Common.{take, []}
use Rattle.bundle6.specs.Spelling.{with_names}
use Rattle.bundle6.specs.Numbering.{lent_out}
use Rattle.bundle6.proofs.NumberingLemmas.{so_far-start, so_far-lent}
use Rattle.bundle6.proofs.numbering.with_dictionary.Goals as goal

pub loop-endpoint-init : goal.loop-endpoint-init
loop-endpoint-init c = so_far-start c.new-gathering.result _ c.new-gathering.ensures c.in_ok-pairs.ensures.items

pub loop-endpoint-preserved : goal.loop-endpoint-preserved
loop-endpoint-preserved c =
    let seen = lent_out (take c.loop-endpoint.endpoint-index c.args.endpoints.now) in
    so_far-lent c.args.endpoints.now c.loop-endpoint.endpoint-index _ c.loop-endpoint.gathering c.name.new.self
    c.loop-endpoint.pairs.items c.push.new.self.items c.in_ok-name.field-0 c.loop-endpoint-test.true c.loop-endpoint.invariant
    (c.in_ok-name.ensures (with_names [] seen) c.loop-endpoint.invariant.shows) c.in_ok-push.ensures.items
