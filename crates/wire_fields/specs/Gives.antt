-- What code returned beside what reading gives.
use Rattle.std.specs.Prelude.{◌≡◌, ℕ, ◌≤◌, List, ◌++◌, length, Option, Some, None, Result, Ok, Err, IfErr, IsOk}
use Rattle.wire_fields.specs.Format.{Format}
use Rattle.wire_fields.specs.Refusal.{Stop}
use Rattle.wire_fields.specs.Reading.{read}
use Rattle.wire_fields.specs.declared.miss.Miss.{Miss}

-- a place in a text, no earlier than another one
pub record IsOn (before : ℕ) (text : List ℕ) (at : ℕ) : Type 0 where
  pub behind : before ≤ at
  pub within : at ≤ length text

-- A fault that code answered is the refusal that reading gives. Want of memory is no refusal, and
-- says nothing of what reading gives.
abbrev pub Fails : {C B : Type 0} → Option (ℕ × Stop C) → Result B (ℕ × Stop C) → Type 0
Fails None given = Unit {0}
Fails (Some s) given = given ≡ Err s

-- What code returned from a place, its value seen by view and its fault by fault, is what reading
-- gives.
abbrev pub Gives : {C X Y E : Type 0}
    → (X → Y) → (E → Option (ℕ × Stop C))
    → Result (X × ℕ) E → Result (Y × ℕ) (ℕ × Stop C) → Type 0
Gives view fault (Ok x) given = given ≡ Ok (view x.0, x.1)
Gives view fault (Err e) given = Fails (fault e) given

-- The same of a whole text.
abbrev pub GivesWhole : {C X Y E : Type 0}
    → (X → Y) → (E → Option (ℕ × Stop C))
    → Result X E → Result Y (ℕ × Stop C) → Type 0
GivesWhole view fault (Ok x) given = given ≡ Ok (view x)
GivesWhole view fault (Err e) given = Fails (fault e) given

-- What code found at a place, its value seen by view, is what a field of the kind is there.
abbrev pub Finds : {X Y : Type 0}
    → (X → Y) → Result (X × ℕ) Miss → Result (Y × ℕ) Miss → Type 0
Finds view (Ok x) given = given ≡ Ok (view x.0, x.1)
Finds view (Err m) given = given ≡ Err m

-- How far octets spell the fields, whatever they make up; or the refusal, which fault tells.
abbrev pub Judges : {C A E : Type 0}
    → (E → ℕ × Stop C) → Result ℕ E → Result (A × ℕ) (ℕ × Stop C) → Type 0
Judges fault (Ok k) (Ok x) = k ≡ x.1
Judges fault (Ok k) (Err s) = ⊥
Judges fault (Err e) given = given ≡ Err (fault e)

-- Memory is wanted only where the fields are spelled.
abbrev pub WantsOnlySpelled : {C X A E : Type 0}
    → (E → Option (ℕ × Stop C)) → Result X E → Result (A × ℕ) (ℕ × Stop C) → Type 0
WantsOnlySpelled fault result given = IfErr result (λ e. fault e ≡ None → IsOk given)

-- However the octets go on after the text, what f is from one place on is what g is from another.
abbrev pub Continues : {C A : Type 0} → Format C A → ℕ → Format C A → ℕ → List ℕ → Type 0
Continues f at g to text = (more : List ℕ) → read f (text ++ more) at ≡ read g (text ++ more) to
