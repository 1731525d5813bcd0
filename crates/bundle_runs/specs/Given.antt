-- What octets gave, beside what stands at a front.
use Rattle.std.specs.Prelude.{◌≡◌, ℕ, ◌+◌}
use Rattle.bundle_runs.specs.declared.front.Bundle.{Bundle}
use Rattle.bundle_runs.specs.declared.given.Given.{Given}
use Rattle.bundle_runs.specs.declared.given.Given.TheVariants.{Whole, Part, Refused}
use Rattle.bundle_runs.specs.Front.{Front, whole, cut_short, refused, version_of}
use Rattle.bundle_runs.specs.Legal.{IsLegal}

-- of a bundle its version is wanted
abbrev pub IsVersion : Bundle → ℕ → Type 0
IsVersion bundle version = version ≡ version_of bundle

-- or all of it
abbrev pub IsRead : Bundle → Bundle → Type 0
IsRead bundle read = (read ≡ bundle) × IsLegal bundle

-- What was given is what stands at the front, of which so many octets had come before.
abbrev pub Finds : {A : Type 0} → (Bundle → A → Type 0) → Front → ℕ → Given A → Type 0
Finds IsWanted front before (Whole wanted used) =
    (bundle : Bundle) × IsWanted bundle wanted × (front ≡ whole bundle (before + used))
Finds IsWanted front before Part = (at : ℕ) × (front ≡ cut_short at)
Finds IsWanted front before (Refused at cause) = front ≡ refused at cause
