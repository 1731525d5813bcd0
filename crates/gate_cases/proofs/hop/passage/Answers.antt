use Rattle.gate_cases.proofs.PassageLemmas.{passage-sound}
use Rattle.gate_cases.proofs.hop.passage.Goals as goal

pub returns-clause-sound : goal.returns-clause-sound
returns-clause-sound c =
    rw (c.in_ok-passed_exts.ensures, c.extra6_passed.ensures, c.as_slice.ensures) (passage-sound c.args.full c.requires.sound c.requires.left)
