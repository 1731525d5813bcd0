-- That what an engine sends breaks no rule, whatever comes to it.

use Rattle.std.specs.Prelude.{◌≡◌, ℕ, true, List, [], ◌∷◌, None}
use Rattle.ltp_audit.specs.declared.entry.Entry.{Entry}
use Rattle.ltp_audit.specs.Rules.{fault_of}

-- what came first, the last one first, and then these
abbrev pub followed_by : {X : Type 0} → List X → List X → List X
followed_by history [] = history
followed_by history (x ∷ xs) = followed_by (x ∷ history) xs

-- of entries that follow a recording, those that go out break no rule over all that come before
-- them
abbrev pub KeepsRules : ℕ → ℕ → List Entry → List Entry → Type 0
KeepsRules own peer history [] = Unit {0}
KeepsRules own peer history (entry ∷ entries) =
    (entry.out ≡ true → fault_of own peer history entry ≡ None)
    × KeepsRules own peer (entry ∷ history) entries
