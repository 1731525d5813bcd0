use Rattle.std.proofs.Common.{◌≡◌, ◌+◌, ◌-◌, arith, ap, ◌∙◌}
use Rattle.spans.specs.Chunks.{from_there}
use Rattle.spans.specs.Growing.{grown_over}
use Rattle.spans.proofs.Widening.{apart-next, widened-made}
use Rattle.spans.proofs.merge.widen.Goals as goal

pub absorb_from-growth-requires-clause-apart : goal.absorb_from-growth-requires-clause-apart
absorb_from-growth-requires-clause-apart c =
    (apart-next c.args.chunks.now.items c.args.place.chunk c.args.place.at c.index.result.now c.run-first.result
    c.requires.within c.index.ensures c.requires.at c.run-first.ensures.run c.requires.apart).1

pub absorb_from-growth-requires-clause-bound : goal.absorb_from-growth-requires-clause-bound
absorb_from-growth-requires-clause-bound c =
    let next = apart-next c.args.chunks.now.items c.args.place.chunk c.args.place.at c.index.result.now c.run-first.result
    c.requires.within c.index.ensures c.requires.at c.run-first.ensures.run c.requires.apart in
    omega (arith, next.0)

pub returns-clause-runs : goal.returns-clause-runs
returns-clause-runs c =
    let r = c.run-first.result in
    let fresh : r.from - c.min-begin.result ≡ r.from - c.args.from = omega (arith, c.min-begin.ensures) in
    let grown = c.absorb_from-growth.ensures.grown ∙ ap (λ n. grown_over c.args.to (record { end = r.to; fresh = n }) (from_there c.args.chunks.now.items c.args.place.chunk (c.args.place.at + 1))) fresh in
    (widened-made c.args.from c.args.to c.args.chunks.now.items c.absorb_from-growth.new.chunks.items c.set.new.chunks.items c.args.place.chunk c.args.place.at c.index.result.now r
    c.absorb_from-growth.result c.min-begin.result c.max-end.result
    c.requires.within c.index.ensures c.requires.at c.run-first.ensures.run
    c.absorb_from-growth.ensures.within c.absorb_from-growth.ensures.at c.absorb_from-growth.ensures.before c.absorb_from-growth.ensures.left grown
    c.min-begin.ensures c.max-end.ensures c.set.ensures.runs).0

pub returns-clause-added : goal.returns-clause-added
returns-clause-added c =
    let r = c.run-first.result in
    let fresh : r.from - c.min-begin.result ≡ r.from - c.args.from = omega (arith, c.min-begin.ensures) in
    let grown = c.absorb_from-growth.ensures.grown ∙ ap (λ n. grown_over c.args.to (record { end = r.to; fresh = n }) (from_there c.args.chunks.now.items c.args.place.chunk (c.args.place.at + 1))) fresh in
    (widened-made c.args.from c.args.to c.args.chunks.now.items c.absorb_from-growth.new.chunks.items c.set.new.chunks.items c.args.place.chunk c.args.place.at c.index.result.now r
    c.absorb_from-growth.result c.min-begin.result c.max-end.result
    c.requires.within c.index.ensures c.requires.at c.run-first.ensures.run
    c.absorb_from-growth.ensures.within c.absorb_from-growth.ensures.at c.absorb_from-growth.ensures.before c.absorb_from-growth.ensures.left grown
    c.min-begin.ensures c.max-end.ensures c.set.ensures.runs).1
