use Rattle.bundle_runs.proofs.ReadingLemmas.{tells-step}
use Rattle.bundle_runs.proofs.bundle_reader.Reading.step.Goals as goal

pub returns : goal.returns
returns c =
    tells-step c.args.self.now.standing c.step.new.self c.args.left.now _ _ _ _ _ c.in_ok-next.next
    c.in_ok-next.ensures c.in_ok-begin.ensures
