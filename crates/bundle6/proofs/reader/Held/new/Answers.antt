-- Nothing is open.
use Rattle.std.proofs.Common.{arith, refl}
use Rattle.wire_fields.proofs.StreamLemmas.{octets-nothing}
use Rattle.bundle6.proofs.ReaderLemmas.{open-nothing}
use Rattle.bundle6.proofs.reader.Held.new.Goals as goal

pub returns-clause-held : goal.returns-clause-held
returns-clause-held c = record {
  fits = record { place = omega arith; few = omega arith; order = omega arith; inside = omega arith };
  stands = λ more. refl;
  begun = rw c.new.ensures.items open-nothing;
  octets = rw c.new.ensures.items octets-nothing;
  counted = rw c.new.ensures.items (omega arith);
}
