-- A field of few octets, with one octet more.
use Rattle.std.proofs.Common.{◌∙◌, Ok, length, ap, refl, arith}
use Rattle.std.proofs.lemmas.List.{length-drop}
use Rattle.bundle_judges.proofs.StandLemmas6.{steps-same, fails-inside, refused-same}
use Rattle.bundle_judges.proofs.FewLemmas6.{first-there, set_head, small-room, small-goes, small-ends, small-enters, small-waits, small-refused}
use Rattle.bundle_judges.proofs.stand6.Stand.more.Goals as goal

pub push-requires : goal.push-requires
push-requires c = omega (arith, small-room c.requires.there.0 c.args.self.now c.args.small c.requires.there.1 c.requires.stage)

pub next-requires : goal.next-requires
next-requires c =
    let text = c.requires.there.0 in
    let stands = c.requires.there.1 in
    let octet = first-there text c.args.rest.now c.args.self.now.came c.requires.there.2 c.requires.some in
    let reads = rw (c.as_slice.ensures ∙ c.push.ensures) at c.in-Ok.ensures.exact in
    record {
      enters = (
        text,
        rw c.clear.ensures (small-enters text _ _ c.args.self.now c.args.small _ _ 1 stands c.requires.stage
            (small-goes text _ c.args.self.now c.args.small stands c.requires.stage octet)
            reads c.in-Ok.ensures.counts c.in-Ok.ensures.later
            (small-ends text _ c.args.self.now c.args.small _ _ stands c.requires.stage octet reads)),
      );
      counted = omega (arith, c.requires.counted, c.requires.some);
    }

pub returns-in-Ok : goal.returns-in-Ok
returns-in-Ok c = λ text stands is.
    let octet = first-there text c.args.rest.now c.args.self.now.came is c.requires.some in
    let reads = rw (c.as_slice.ensures ∙ c.push.ensures) at c.in-Ok.ensures.exact in
    steps-same text c.args.self.now (set_head c.args.self.now c.clear.new.self) (Ok c.next.result) c.next.new.self refl refl refl
    (c.next.ensures text (rw c.clear.ensures (small-enters text _ _ c.args.self.now c.args.small _ _ 1 stands c.requires.stage
    (small-goes text _ c.args.self.now c.args.small stands c.requires.stage octet)
    reads c.in-Ok.ensures.counts c.in-Ok.ensures.later
    (small-ends text _ c.args.self.now c.args.small _ _ stands c.requires.stage octet reads))))

pub after-requires : goal.after-requires
after-requires c =
    let text = c.requires.there.0 in
    let stands = c.requires.there.1 in
    let octet = first-there text c.args.rest.now c.args.self.now.came c.requires.there.2 c.requires.some in
    let fails = small-refused text _ _ c.args.self.now c.args.small _ _ stands c.requires.stage
    (small-goes text _ c.args.self.now c.args.small stands c.requires.stage octet)
    (rw (c.as_slice.ensures ∙ c.push.ensures) at c.in-Err.ensures.exact) c.in_default.not-Truncated in
    omega (
      arith,
      c.requires.counted,
      ap length c.requires.there.2,
      length-drop c.args.self.now.came text,
      stands.within,
      fails-inside text c.args.self.now _ _ stands.octets fails,
    )

pub returns-in-Truncated : goal.returns-in-Truncated
returns-in-Truncated c = λ text stands is.
    small-waits text _ _ c.args.self.now c.args.small c.in-Err.refused.at stands c.requires.stage
    (first-there text c.args.rest.now c.args.self.now.came is c.requires.some)
    c.push.ensures (rw c.in-Truncated.is at (rw c.as_slice.ensures at c.in-Err.ensures.exact))

pub returns-in_default : goal.returns-in_default
returns-in_default c = λ text stands is.
    refused-same text c.args.self.now _ _ c.into.ensures c.after.ensures
    (small-refused text _ _ c.args.self.now c.args.small _ _ stands c.requires.stage
    (small-goes text _ c.args.self.now c.args.small stands c.requires.stage
    (first-there text c.args.rest.now c.args.self.now.came is c.requires.some))
    (rw (c.as_slice.ensures ∙ c.push.ensures) at c.in-Err.ensures.exact) c.in_default.not-Truncated)
