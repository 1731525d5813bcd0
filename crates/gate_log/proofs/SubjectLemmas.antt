-- A bundle that is spelled at the front of a block is its subject.
use Rattle.std.proofs.Common.{◌≢◌, ℕ, ◌≤◌, List, length, take, Some, None, sym, ap, ◌∙◌}
use Rattle.wire_fields.proofs.StayLemmas.{begins-read}
use Rattle.bundle6.specs.declared.bundle.Bundle6.{Bundle6}
use Rattle.bundle6.specs.Legal.{Spells6}
use Rattle.bundle6.specs.Table as table6
use Rattle.bundle7.specs.declared.bundle.Bundle7.{Bundle7}
use Rattle.bundle7.specs.Legal.{Spells7}
use Rattle.bundle7.specs.Table as table7
use Rattle.gate_log.specs.declared.subject.Subject.{Subject}
use Rattle.gate_log.specs.Subjects.{subject6, subject7, read_as, front6, front7}

one-there : (s : Subject) → Some s ≢ None
one-there s is = absurd (cc)

pub spelled6 : (block : List ℕ) → ((b : Bundle6) × (k : ℕ) × (k ≤ length block) × Spells6 b (take k block)) → front6 block ≢ None
spelled6 block found none =
    let is = begins-read (table6.bundle 64) block found.1 found.0 (record { within = found.2; spells = found.3.spelled }) in
    one-there (subject6 found.0) (sym (ap (read_as subject6) is) ∙ none)

pub spelled7 : (block : List ℕ) → ((b : Bundle7) × (k : ℕ) × (k ≤ length block) × Spells7 b (take k block)) → front7 block ≢ None
spelled7 block found none =
    let is = begins-read (table7.bundle 64) block found.1 found.0 (record { within = found.2; spells = found.3 }) in
    one-there (subject7 found.0) (sym (ap (read_as subject7) is) ∙ none)
