use Rattle.std.proofs.Common.{◌∙◌}
use Rattle.bundle_meaning.specs.Residue.{residue_old_of}
use Rattle.bundle_meaning.proofs.RecordLemmas.{residue_old-is}
use Rattle.bundle_meaning.proofs.SpellingLemmas.{residue_old-written}
use Rattle.bundle_meaning.proofs.residue.write_residue_old.Goals as goal

pub returns : goal.returns
returns c =
    residue_old-written (residue_old_of c.args.full.now) c.from_vec.result c.in_ok-out.out.items
    (residue_old-is c.args.full.now c.requires (rw c.slack.ensures.exact at c.slack.ensures.small))
    c.in_ok-out.ensures (c.from_vec.ensures
    ∙ rw (c.slack.ensures.exact, c.from.ensures, c.from-2.ensures, c.from-3.ensures, c.no_time.ensures) at c.in_ok-write_numbers.ensures)
