use Rattle.bundle_runs.specs.WrittenLines.{show_line}
use Rattle.bundle_runs.proofs.ShowLemmas.{line-owed}
use Rattle.bundle_runs.proofs.show_reader.Showing.begin.Goals as goal

pub tell-requires : goal.tell-requires
tell-requires c =
    let (b, is) = c.requires in (
      show_line b,
      line-owed c.args.self.now.octets.items c.deref.result.now b c.new.result c.deref.ensures.value is.fits is.named is.front
          c.new.ensures.left c.new.ensures.some,
      rw c.deref.ensures.value at c.new.ensures.some,
    )

pub returns-clause-line : goal.returns-clause-line
returns-clause-line c = λ b is.
    c.in_ok-tell.ensures.told (show_line b)
    (line-owed c.args.self.now.octets.items c.deref.result.now b c.new.result c.deref.ensures.value is.fits is.named is.front
    c.new.ensures.left c.new.ensures.some)
