-- The primary block, of which some octets more are kept.
use Rattle.std.proofs.Common.{length, ap, refl, arith}
use Rattle.std.proofs.lemmas.List.{length-drop}
use Rattle.bundle_judges.specs.declared.stand6.Stand.{Stand}
use Rattle.bundle_judges.proofs.StandLemmas6.{with_main, steps-same}
use Rattle.bundle_judges.proofs.StartLemmas6.{chunk-some, chunk-joins, primary-late, primary-fills, primary-waits, primary-refused}
use Rattle.bundle_judges.proofs.stand6.Stand.primary.Goals as goal

pub overflow_sub-more : goal.overflow_sub-more
overflow_sub-more c =
    let text = c.requires.there.0 in
    let chunk = chunk-joins text c.args.rest.now _ c.args.self.now c.extend_from_slice.new.self.items _ c.requires.there.1 c.requires.stage c.requires.there.2
    refl c.in_ok-extend_from_slice.ensures.items in
    omega (arith, primary-late text c.args.self.now _ _ c.in-Ok.end _ chunk (rw c.as_slice.ensures.value at c.in-Ok.ensures.exact))

pub fill-requires : goal.fill-requires
fill-requires c =
    let text = c.requires.there.0 in
    let stands = c.requires.there.1 in
    let chunk = chunk-joins text c.args.rest.now _ c.args.self.now c.extend_from_slice.new.self.items _ stands c.requires.stage c.requires.there.2
    refl c.in_ok-extend_from_slice.ensures.items in
    let s : Stand = with_main c.args.self.now c.truncate.new.self in
    let fills = primary-fills text c.args.self.now s _ _ c.in-Ok.end _ stands chunk c.requires.stage refl refl refl c.truncate.ensures.items
    (rw c.as_slice.ensures.value at c.in-Ok.ensures.within.within) (rw c.as_slice.ensures.value at c.in-Ok.ensures.exact) in
    record {
      fills = (text, fills);
      counted = omega (arith, fills.within, c.requires.counted, ap length c.requires.there.2, length-drop c.args.self.now.came text, stands.within);
    }

pub returns-in-Ok : goal.returns-in-Ok
returns-in-Ok c = λ text stands is.
    let chunk = chunk-joins text c.args.rest.now _ c.args.self.now c.extend_from_slice.new.self.items _ stands c.requires.stage is
    refl c.in_ok-extend_from_slice.ensures.items in
    let s : Stand = with_main c.args.self.now c.truncate.new.self in
    steps-same text c.args.self.now s c.fill.result c.fill.new.self refl refl refl
    (c.fill.ensures text (primary-fills text c.args.self.now s _ _ c.in-Ok.end _ stands chunk c.requires.stage refl refl refl c.truncate.ensures.items
    (rw c.as_slice.ensures.value at c.in-Ok.ensures.within.within) (rw c.as_slice.ensures.value at c.in-Ok.ensures.exact)))

pub returns-in-Truncated : goal.returns-in-Truncated
returns-in-Truncated c = λ text stands is.
    let chunk = chunk-joins text c.args.rest.now _ c.args.self.now c.extend_from_slice.new.self.items _ stands c.requires.stage is
    refl c.in_ok-extend_from_slice.ensures.items in
    primary-waits text c.args.self.now _ _ c.in-Err.refused.at stands c.requires.stage chunk (chunk-some c.args.rest.now c.min.result c.requires.some c.min.ensures) refl
    (rw c.in-Truncated.is at (rw c.as_slice.ensures.value at c.in-Err.ensures.exact))

pub returns-in_default : goal.returns-in_default
returns-in_default c = λ text stands is.
    let chunk = chunk-joins text c.args.rest.now _ c.args.self.now c.extend_from_slice.new.self.items _ stands c.requires.stage is
    refl c.in_ok-extend_from_slice.ensures.items in
    rw c.into.ensures
    (primary-refused text c.args.self.now _ _ c.in-Err.refused.at c.in-Err.refused.cause chunk
    (rw c.as_slice.ensures.value at c.in-Err.ensures.exact) c.in_default.not-Truncated)
