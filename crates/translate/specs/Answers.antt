-- What the calls that may refuse a bundle answer.

use Rattle.std.specs.Prelude.{◌≡◌, Option, Some, None, Result, Ok, Err}
use Rattle.translate.specs.declared.refused.Refused.{Refused}
use Rattle.translate.specs.declared.refused.Refused.TheVariants.{Memory}

-- the value, where nothing is refused; else the first cause that holds; want of memory only where none
-- does
abbrev pub Translates : {A : Type 0} → Option Refused → A → Result A Refused → Type 0
Translates first value (Ok made) = (first ≡ None) × (made ≡ value)
Translates first value (Err Memory) = first ≡ None
Translates first value (Err cause) = first ≡ Some cause
