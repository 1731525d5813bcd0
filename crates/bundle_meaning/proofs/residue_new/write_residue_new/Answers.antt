use Rattle.std.proofs.Common.{◌∙◌}
use Rattle.bundle_meaning.specs.Residue.{residue_new_of}
use Rattle.bundle_meaning.proofs.RecordLemmas.{residue_new-is}
use Rattle.bundle_meaning.proofs.SpellingLemmas.{residue_new-written}
use Rattle.bundle_meaning.proofs.residue_new.write_residue_new.Goals as goal

pub returns : goal.returns
returns c =
    residue_new-written (residue_new_of c.args.full.now) c.from_vec.result c.in_ok-out.out.items c.write_numbers.new.out.items
    c.write_name.new.out.items c.write_numbers-2.new.out.items (residue_new-is c.args.full.now c.requires)
    c.in_ok-out.ensures c.in_ok-write_numbers.ensures c.in_ok-write_name.ensures c.in_ok-write_numbers-2.ensures
    (c.from_vec.ensures ∙ rw c.rests.ensures at c.in_ok-write_rests.ensures)
