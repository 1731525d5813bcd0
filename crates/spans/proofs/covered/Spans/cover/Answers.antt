use Rattle.std.proofs.Common.{List, OnErr, subst, sym}
use Rattle.spans.specs.declared.range.Run.{Run}
use Rattle.spans.specs.Places.{MayWant}
use Rattle.spans.proofs.Places.{with_covered-empty, uncovered_in-empty}
use Rattle.spans.proofs.Kept.{StandFor, IsKept-covered, view-covered, fresh-covered, refused-covered, length-covered, runs_of-kept}
use Rattle.spans.proofs.covered.Spans.cover.Goals as goal

pub returns-then-from-to-clause-covered : goal.returns-then-from-to-clause-covered
returns-then-from-to-clause-covered c = sym (with_covered-empty c.args.from c.args.to c.args.self.now c.if-from-to.true)

pub returns-then-from-to-clause-fresh : goal.returns-then-from-to-clause-fresh
returns-then-from-to-clause-fresh c = sym (uncovered_in-empty c.args.from c.args.to c.args.self.now c.if-from-to.true)

pub invariant_of-self : goal.invariant_of-self
invariant_of-self c =
    let old : StandFor c.self.inside.limit c.self.inside.chunks.items c.args.self.now = record { kept = c.self.invariant; view = c.self.view_is } in
    IsKept-covered c.self.inside.limit c.args.from c.args.to c.self.inside.chunks.items c.cover.new.chunks.items c.args.self.now c.cover.result
    old c.requires.within c.cover.ensures.filled c.cover.ensures.ok c.cover.ensures.err

pub returns-clause-covered : goal.returns-clause-covered
returns-clause-covered c =
    let old : StandFor c.self.inside.limit c.self.inside.chunks.items c.args.self.now = record { kept = c.self.invariant; view = c.self.view_is } in
    view-covered c.self.inside.limit c.args.from c.args.to c.self.inside.chunks.items c.cover.new.chunks.items c.args.self.now c.cover.result
    old c.requires.order c.requires.within c.cover.ensures.ok

pub returns-clause-fresh : goal.returns-clause-fresh
returns-clause-fresh c =
    let old : StandFor c.self.inside.limit c.self.inside.chunks.items c.args.self.now = record { kept = c.self.invariant; view = c.self.view_is } in
    fresh-covered c.self.inside.limit c.args.from c.args.to c.self.inside.chunks.items c.cover.new.chunks.items c.args.self.now c.cover.result
    old c.requires.order c.requires.within c.cover.ensures.ok

pub returns-clause-refused : goal.returns-clause-refused
returns-clause-refused c =
    let old : StandFor c.self.inside.limit c.self.inside.chunks.items c.args.self.now = record { kept = c.self.invariant; view = c.self.view_is } in
    refused-covered c.self.inside.limit c.args.from c.args.to c.self.inside.chunks.items c.args.self.now c.cover.result old c.cover.ensures.refused

pub returns-clause-limit : goal.returns-clause-limit
returns-clause-limit c =
    let old : StandFor c.self.inside.limit c.self.inside.chunks.items c.args.self.now = record { kept = c.self.invariant; view = c.self.view_is } in
    let kept = IsKept-covered c.self.inside.limit c.args.from c.args.to c.self.inside.chunks.items c.cover.new.chunks.items c.args.self.now c.cover.result
    old c.requires.within c.cover.ensures.filled c.cover.ensures.ok c.cover.ensures.err in
    length-covered c.self.inside.limit c.self.inside.chunks.items c.cover.new.chunks.items c.args.self.now old kept

pub returns-clause-wants : goal.returns-clause-wants
returns-clause-wants c =
    let old : StandFor c.self.inside.limit c.self.inside.chunks.items c.args.self.now = record { kept = c.self.invariant; view = c.self.view_is } in
    subst (λ (xs : List Run). OnErr c.cover.result (MayWant xs))
    (runs_of-kept c.self.inside.limit c.self.inside.chunks.items c.args.self.now old) c.cover.ensures.wants
