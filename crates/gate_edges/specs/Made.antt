-- What was made outside, in the order made, and what an outside tells of that and of what will come.

use Rattle.std.specs.Prelude.{◌≡◌, ℕ, Bool, true, false, List, [], ◌∷◌, map, take, Option, None, Some}
use Rattle.std.specs.Prelude.{Result, Ok, Err, MatchResult}
use Rattle.edge_traits.specs.Content.{Gains, GainsFront}
use Rattle.edge_traits.specs.Faults.{Calls, NoneFailed, LastFailed}
use Rattle.store_traits.specs.declared.fault.StoreFault.{StoreFault}
use Rattle.store_traits.specs.declared.fault.StoreFault.TheVariants as faults
use Rattle.gate_cases.specs.declared.face.Face.{Face}
use Rattle.journal_file.specs.Values.{KeptValue, RecordValue}
use Rattle.gate_edges.specs.Ahead.{Ahead, Polled, failed, empty, gave}

-- ---- what is made

-- a datagram was sent at a face, or lost: its send failed; an octet was written; a text was put in the
-- place of the one before; records were committed to the journal, or it was made anew of what is kept
pub data Made : Type 0 where
  sent : Face → List ℕ → Made
  lost : Face → List ℕ → Made
  wrote : ℕ → Made
  shown : List ℕ → Made
  committed : List RecordValue → Made
  installed : KeptValue → Made

-- a datagram was tried at a face
abbrev pub tried : Face → (fails : Bool) → List ℕ → Made
tried face true datagram = lost face datagram
tried face false datagram = sent face datagram

-- a text was written
abbrev pub written : List ℕ → List Made
written text = map wrote text

-- ---- what calls tell

-- where it was told what will come, the answer is as told, and it is told how that goes on
abbrev pub AsTold : {X : Type 0} → Option Ahead → Option Ahead → X → (Ahead → X) → (Ahead → Ahead) → Type 0
AsTold None now answer due past = Unit {0}
AsTold (Some before) None answer due past = ⊥
AsTold (Some before) (Some now) answer due past = (answer ≡ due before) × (now ≡ past before)

-- what a poll answered, with the buffer as it left it
abbrev pub polled_in : {E : Type 0} → List ℕ → Result (Option ℕ) E → Polled
polled_in buffer (Ok None) = empty
polled_in buffer (Ok (Some n)) = gave (take n buffer)
polled_in buffer (Err e) = failed

-- a text was written to its end, or a front of it where that failed
abbrev pub Writes : {E : Type 0} → Option (List Made) → Option (List Made) → Result (Unit {0}) E → List ℕ → Type 0
Writes before now result text =
    MatchResult result (λ _. Gains before now (written text)) (λ _. GainsFront before now (written text))

-- a text was put in place, or none was where that failed
abbrev pub Shows : {E : Type 0} → Option (List Made) → Option (List Made) → Result (Unit {0}) E → List ℕ → Type 0
Shows before now result text =
    MatchResult result (λ _. Gains before now (shown text ∷ [])) (λ _. now ≡ before)

-- ---- what calls on the journal tell

-- this was made, or nothing was where the call wasn't done
abbrev pub MakesOne : {T E : Type 0} → Option (List Made) → Option (List Made) → Result T E → Made → Type 0
MakesOne before now result made =
    MatchResult result (λ _. Gains before now (made ∷ [])) (λ _. now ≡ before)

-- records were committed
abbrev pub Commits : {T E : Type 0} → Option (List Made) → Option (List Made) → Result T E → List RecordValue → Type 0
Commits before now result records = MakesOne before now result (committed records)

-- the journal was made anew of what is kept
abbrev pub Installs : {T E : Type 0} → Option (List Made) → Option (List Made) → Result T E → KeptValue → Type 0
Installs before now result kept = MakesOne before now result (installed kept)

-- Calls on the journal that are one: it failed if and only if the last of them did. Where memory ran out
-- there was none.
abbrev pub Stored : {T : Type 0} → Result T StoreFault → Calls → Calls → Type 0
Stored (Ok x) before now = NoneFailed before now
Stored (Err faults.Failed) before now = LastFailed before now
Stored (Err faults.Memory) before now = now ≡ before
