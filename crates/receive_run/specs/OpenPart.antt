-- The cells that an open red part of the code stands for.
use Rattle.std.specs.Prelude.{◌≡◌, ℕ, List, Option}
use Rattle.receive_run.specs.declared.part.OpenPart.{OpenPart}

-- an open part stands for these cells, and for a red part of this length where it is known
pub record Stands (part : OpenPart) (cells : List (Option ℕ)) (length : Option ℕ) : Type 0 where
  pub came : part.cells ≡ cells
  pub length_is : part.length ≡ length
