use Rattle.std.proofs.Common.{[], refl, sym}
use Rattle.std.proofs.lemmas.List.{append-nil}
use Rattle.std.specs.String.{string_bytes}
use Rattle.command_frame.proofs.part_task.PartTask.last.Goals as goal

pub returns-clause-ended : goal.returns-clause-ended
returns-clause-ended g c = λ settles stands. record {
  text = [];
  later = settles;
  added = sym (append-nil (string_bytes c.args.text.now));
  stands = stands;
  ends = refl;
}

pub returns-clause-within : goal.returns-clause-within
returns-clause-within g c = λ limits awaits. record { later = limits; awaits = awaits; ends = refl }
