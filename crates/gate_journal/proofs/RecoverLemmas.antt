-- What is read, where a store tells its octets.
use Rattle.std.proofs.Common.{◌≡◌, ℕ, List, Option, Some, None, Result, Ok, Err, IfSome, ◌∙◌, subst}
use Rattle.wire_fields.specs.Refusal.{Stop}
use Rattle.journal_file.specs.declared.fault.JournalCause.{JournalCause}
use Rattle.journal_file.specs.Values.{KeptValue}
use Rattle.journal_file.specs.File.{Reads, IsDamaged}

abbrev good : KeptValue → Result KeptValue (ℕ × Stop JournalCause)
good k = Ok k

abbrev bad : ℕ → Stop JournalCause → Result KeptValue (ℕ × Stop JournalCause)
bad at why = Err (at, why)

pub told-only : (o : Option (List ℕ)) (file read : List ℕ) (kept : KeptValue) → read ≡ file → IfSome o (λ s. file ≡ s)
    → ((k : KeptValue) → Reads read k → good k ≡ good kept) → IfSome o (λ s. (k : KeptValue) → Reads s k → good k ≡ good kept)
told-only None file read kept is told only = tt
told-only (Some s) file read kept is told only = subst (λ (w : List ℕ). (k : KeptValue) → Reads w k → good k ≡ good kept) (is ∙ told) only

pub told-refuses : (o : Option (List ℕ)) (file read : List ℕ) (kept : KeptValue) → read ≡ file → IfSome o (λ s. file ≡ s)
    → ((at : ℕ) (why : Stop JournalCause) → IsDamaged read at why → bad at why ≡ good kept)
    → IfSome o (λ s. (at : ℕ) (why : Stop JournalCause) → IsDamaged s at why → bad at why ≡ good kept)
told-refuses None file read kept is told refuses = tt
told-refuses (Some s) file read kept is told refuses =
    subst (λ (w : List ℕ). (at : ℕ) (why : Stop JournalCause) → IsDamaged w at why → bad at why ≡ good kept) (is ∙ told) refuses
