-- What is kept is open.
use Rattle.std.proofs.Common.{◌≡◌, [], arith, refl, rules}
use Rattle.bundle7.specs.Holding.{stream_of}
use Rattle.bundle7.proofs.ReaderLemmas.{place-within, not-ended, ends-open}
use Rattle.bundle7.proofs.reader.Held.finish.Goals as goal

pub after-requires : goal.after-requires
after-requires c =
    let kept = c.args.self.now.kept.items in
    let comes = rw c.as_slice.ensures.value at c.in-Some.ensures.comes in
    omega (arith, place-within kept c.run.new.self c.in-Some.refused c.requires.octets comes, c.requires.counted)

pub returns-in-None-clause-ends : goal.returns-in-None-clause-ends
returns-in-None-clause-ends c =
    absurd (not-ended c.args.self.now.kept.items c.run.new.self c.requires.begun
    (rw c.as_slice.ensures.value at c.in-None.ensures.stands) c.in-None.ensures.comes)

pub returns-in-Some-clause-ends : goal.returns-in-Some-clause-ends
returns-in-Some-clause-ends c =
    let comes = rw c.as_slice.ensures.value at c.in-Some.ensures.comes in
    let ends = ends-open (stream_of c.args.self.now) c.run.new.self c.in-Some.refused c.requires.begun comes in
    rw c.after.ensures
    (λ none. let empty : c.args.self.now.kept.items ≡ [] = none in search rules, ends.0, (c.in-Some.refused.at, ends.1, refl))
