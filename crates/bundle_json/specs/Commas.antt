-- The text of an array but for its brackets, item by item.
use Rattle.std.specs.Prelude.{ℕ, Bool, true, List, [], ◌∷◌, ◌++◌}
use Rattle.serde_json.specs.Data.{Data}
use Rattle.serde_json.specs.Written.{comma_if, compact_text}

-- the texts of values, with a comma before each; before the first only where something stands before it
abbrev pub with_commas : {A : Type 0} → (A → Data) → Bool → List A → List ℕ
with_commas data_of later [] = []
with_commas data_of later (x ∷ xs) = comma_if later ++ (compact_text (data_of x) ++ with_commas data_of true xs)

-- what stands before one value more
abbrev pub comma_after : {A : Type 0} → List A → List ℕ
comma_after [] = []
comma_after (x ∷ xs) = 44 ∷ []
