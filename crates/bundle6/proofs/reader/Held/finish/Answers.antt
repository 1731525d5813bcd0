-- What is kept is open.
use Rattle.std.proofs.Common.{◌≡◌, [], arith, refl, rules}
use Rattle.bundle6.specs.Holding.{stream_of}
use Rattle.bundle6.proofs.ReaderLemmas.{place-within, not-ended, ends-open}
use Rattle.bundle6.proofs.reader.Held.finish.Goals as goal

pub after-requires : goal.after-requires
after-requires c =
    let kept = c.args.self.now.kept.items in
    let comes = rw c.as_slice.ensures.value at (rw c.in_default-Some.is-1 at c.run.ensures.comes) in
    let within = place-within kept c.run.result.0 c.in_default-Some.refused c.requires.octets comes in
    omega (arith, within, c.requires.counted)

pub returns-in_default-None : goal.returns-in_default-None
returns-in_default-None c =
    let kept = c.args.self.now.kept.items in
    absurd (not-ended kept c.run.result.0 c.requires.begun (rw c.as_slice.ensures.value at c.run.ensures.stands)
    (rw c.in_default-None.is-1 at c.run.ensures.comes))

pub returns-in_default-Some : goal.returns-in_default-Some
returns-in_default-Some c =
    let comes = rw c.as_slice.ensures.value at (rw c.in_default-Some.is-1 at c.run.ensures.comes) in
    let ends = ends-open (stream_of c.args.self.now) c.run.result.0 c.in_default-Some.refused c.requires.begun comes in
    rw c.after.ensures
    (λ none. let empty : c.args.self.now.kept.items ≡ [] = none in search rules, ends.0, (c.in_default-Some.refused.at, ends.1, refl))
