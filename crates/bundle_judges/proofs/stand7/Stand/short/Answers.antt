-- A field of few octets.
use Rattle.std.proofs.Common.{Some, None, Ok, length, ap, refl, arith}
use Rattle.std.proofs.lemmas.List.{length-drop}
use Rattle.bundle_judges.proofs.StepLemmas7.{fails-inside, refused-same, steps-same}
use Rattle.bundle_judges.proofs.FewLemmas7.{small-fills, small-fits, small-room, small-late, small-passes, small-waits, small-refused, with_head}
use Rattle.bundle_judges.proofs.stand7.Stand.short.Goals as goal

pub overflow_sub-room : goal.overflow_sub-room
overflow_sub-room c =
    omega (arith, small-room c.requires.there.0 c.args.self.now c.args.small.now c.requires.there.1 c.requires.stage, c.len-held.ensures, c.most_octets.ensures)

pub fill-requires : goal.fill-requires
fill-requires c =
    small-fits c.requires.there.0 c.args.rest.now c.min.result c.args.self.now c.args.small.now c.requires.there.1 c.requires.stage
    (rw (c.most_octets.ensures, c.len-held.ensures) at c.min.ensures)

pub returns-in-Truncated : goal.returns-in-Truncated
returns-in-Truncated c = λ text stands is.
    let filled = small-fills text c.args.rest.now _ c.fill.new.self c.min.result c.args.self.now c.args.small.now stands c.requires.stage is
    (rw (c.most_octets.ensures, c.len-held.ensures) at c.min.ensures) refl c.fill.ensures in
    small-waits text _ c.args.self.now c.args.small.now _ stands c.requires.stage filled c.in-Err.refused.at (rw c.in-Truncated.is at c.in-Err.ensures.exact)

pub returns-in_default : goal.returns-in_default
returns-in_default c = λ text stands is.
    let filled = small-fills text c.args.rest.now _ c.fill.new.self c.min.result c.args.self.now c.args.small.now stands c.requires.stage is
    (rw (c.most_octets.ensures, c.len-held.ensures) at c.min.ensures) refl c.fill.ensures in
    refused-same text c.args.self.now _ _ c.into.ensures c.after.ensures
    (small-refused text _ c.args.self.now c.args.small.now _ stands c.requires.stage filled _ _ c.in-Err.ensures.exact c.in_default.not-Truncated)

pub overflow_sub-end : goal.overflow_sub-end
overflow_sub-end c =
    let text = c.requires.there.0 in
    let stands = c.requires.there.1 in
    let is = c.requires.there.2 in
    let filled = small-fills text c.args.rest.now _ c.fill.new.self c.min.result c.args.self.now c.args.small.now stands c.requires.stage is
    (rw (c.most_octets.ensures, c.len-held.ensures) at c.min.ensures) refl c.fill.ensures in
    omega (arith, small-late text c.fill.new.self c.args.self.now c.args.small.now _ stands c.requires.stage filled _ _ c.in-Ok-Some-default.ensures.exact, c.len-held.ensures)

pub overflow_sub-end-in-Ok-None-default : goal.overflow_sub-end-in-Ok-None-default
overflow_sub-end-in-Ok-None-default c =
    let text = c.requires.there.0 in
    let stands = c.requires.there.1 in
    let is = c.requires.there.2 in
    let filled = small-fills text c.args.rest.now _ c.fill.new.self c.min.result c.args.self.now c.args.small.now stands c.requires.stage is
    (rw (c.most_octets.ensures, c.len-held.ensures) at c.min.ensures) refl c.fill.ensures in
    omega (arith, small-late text c.fill.new.self c.args.self.now c.args.small.now _ stands c.requires.stage filled _ _ c.in-Ok-None-default.ensures.exact, c.len-held.ensures)

pub passed-requires-clause-passes : goal.passed-requires-clause-passes
passed-requires-clause-passes c =
    let text = c.requires.there.0 in
    let stands = c.requires.there.1 in
    let is = c.requires.there.2 in
    let filled = small-fills text c.args.rest.now _ c.fill.new.self c.min.result c.args.self.now c.args.small.now stands c.requires.stage is
    (rw (c.most_octets.ensures, c.len-held.ensures) at c.min.ensures) refl c.fill.ensures in (
      text,
      rw c.len-held.ensures (small-passes text c.fill.new.self c.args.self.now c.args.small.now _ stands c.requires.stage filled None _
          (rw c.in-Ok-None-default.field-0-0-is at c.in-Ok-None-default.ensures.exact) c.in-Ok-None-default.ensures.within
          (rw c.in-Ok-None-default.field-0-0-is at c.in-Ok-None-default.ensures.fitting)),
    )

pub returns-in-Ok-None-default : goal.returns-in-Ok-None-default
returns-in-Ok-None-default c = λ text stands is.
    let filled = small-fills text c.args.rest.now _ c.fill.new.self c.min.result c.args.self.now c.args.small.now stands c.requires.stage is
    (rw (c.most_octets.ensures, c.len-held.ensures) at c.min.ensures) refl c.fill.ensures in
    steps-same text c.args.self.now (with_head c.args.self.now c.fill.new.self) (Ok c.passed.result) c.passed.new.self refl refl refl
    (c.passed.ensures text (rw c.len-held.ensures (small-passes text c.fill.new.self c.args.self.now c.args.small.now _ stands c.requires.stage filled None _
    (rw c.in-Ok-None-default.field-0-0-is at c.in-Ok-None-default.ensures.exact) c.in-Ok-None-default.ensures.within
    (rw c.in-Ok-None-default.field-0-0-is at c.in-Ok-None-default.ensures.fitting))))

pub returns-in-Ok-Some-default : goal.returns-in-Ok-Some-default
returns-in-Ok-Some-default c = λ text stands is.
    let filled = small-fills text c.args.rest.now _ c.fill.new.self c.min.result c.args.self.now c.args.small.now stands c.requires.stage is
    (rw (c.most_octets.ensures, c.len-held.ensures) at c.min.ensures) refl c.fill.ensures in
    steps-same text c.args.self.now (with_head c.args.self.now c.fill.new.self) (Ok c.fronted.result) c.fronted.new.self refl refl refl
    (c.fronted.ensures text c.args.small.now (rw (c.len-held.ensures, c.in-Ok-Some-default.front-is) (small-passes text c.fill.new.self c.args.self.now c.args.small.now _ stands c.requires.stage filled
    (Some c.in-Ok-Some-default.front) _ (rw c.in-Ok-Some-default.field-0-0-is at c.in-Ok-Some-default.ensures.exact) c.in-Ok-Some-default.ensures.within
    (rw c.in-Ok-Some-default.field-0-0-is at c.in-Ok-Some-default.ensures.fitting))))

pub after-requires : goal.after-requires
after-requires c =
    let text = c.requires.there.0 in
    let stands = c.requires.there.1 in
    let is = c.requires.there.2 in
    let filled = small-fills text c.args.rest.now _ c.fill.new.self c.min.result c.args.self.now c.args.small.now stands c.requires.stage is
    (rw (c.most_octets.ensures, c.len-held.ensures) at c.min.ensures) refl c.fill.ensures in
    let fails = small-refused text _ c.args.self.now c.args.small.now _ stands c.requires.stage filled _ _ c.in-Err.ensures.exact c.in_default.not-Truncated in
    omega (
      arith,
      c.requires.counted,
      ap length is,
      length-drop c.args.self.now.came text,
      stands.within,
      fails-inside text c.args.self.now _ _ stands.octets fails,
    )
