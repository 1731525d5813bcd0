-- A field of few octets.
use Rattle.std.proofs.Common.{length, ap, arith}
use Rattle.std.proofs.lemmas.List.{length-drop}
use Rattle.bundle_judges.proofs.StandLemmas6.{fails-inside, refused-same}
use Rattle.bundle_judges.proofs.FewLemmas6.{small-lies, small-enters, small-refused}
use Rattle.bundle_judges.proofs.stand6.Stand.short.Goals as goal

pub next-requires : goal.next-requires
next-requires c =
    let text = c.requires.there.0 in
    let stands = c.requires.there.1 in
    let lies = small-lies text c.args.rest.now c.args.self.now c.args.small stands c.requires.stage c.requires.there.2
    (rw c.len.ensures at c.if-len-eq0.true) in
    let enters = small-enters text c.args.rest.now _ c.args.self.now c.args.small _ c.in-Ok.end c.in-Ok.end stands c.requires.stage
    lies.0 c.in-Ok.ensures.exact c.in-Ok.ensures.counts c.in-Ok.ensures.later (omega (arith, lies.1)) in
    record {
      enters = (text, rw lies.2 enters);
      counted =
          omega (arith, c.requires.counted, ap length c.requires.there.2, length-drop c.args.self.now.came text, stands.within, enters.within);
    }

pub returns-in-Ok : goal.returns-in-Ok
returns-in-Ok c = λ text stands is.
    let lies = small-lies text c.args.rest.now c.args.self.now c.args.small stands c.requires.stage is
    (rw c.len.ensures at c.if-len-eq0.true) in
    c.next.ensures text (rw lies.2 (small-enters text c.args.rest.now _ c.args.self.now c.args.small _ c.in-Ok.end c.in-Ok.end stands c.requires.stage
    lies.0 c.in-Ok.ensures.exact c.in-Ok.ensures.counts c.in-Ok.ensures.later (omega (arith, lies.1))))

pub after-requires : goal.after-requires
after-requires c =
    let text = c.requires.there.0 in
    let stands = c.requires.there.1 in
    let lies = small-lies text c.args.rest.now c.args.self.now c.args.small stands c.requires.stage c.requires.there.2
    (rw c.len.ensures at c.if-len-eq0.true) in
    let fails = small-refused text c.args.rest.now _ c.args.self.now c.args.small _ _ stands c.requires.stage
    lies.0 c.in-Err.ensures.exact c.in_default.not-Truncated in
    omega (
      arith,
      c.requires.counted,
      ap length c.requires.there.2,
      length-drop c.args.self.now.came text,
      stands.within,
      fails-inside text c.args.self.now _ _ stands.octets fails,
    )

pub returns-in_default : goal.returns-in_default
returns-in_default c = λ text stands is.
    let lies = small-lies text c.args.rest.now c.args.self.now c.args.small stands c.requires.stage is
    (rw c.len.ensures at c.if-len-eq0.true) in
    refused-same text c.args.self.now _ _ c.into.ensures c.after.ensures
    (small-refused text c.args.rest.now _ c.args.self.now c.args.small _ _ stands c.requires.stage
    lies.0 c.in-Err.ensures.exact c.in_default.not-Truncated)
