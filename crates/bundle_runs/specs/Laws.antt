-- The answer in the words of the two formats: what is said of a bundle at the front of the octets
-- that are left stands before the rest, and a refusal at their front ends the run.
use Rattle.std.specs.Prelude.{◌≡◌, ℕ, ◌+◌, Bool, List, [], ◌∷◌, ◌++◌, codes, drop, slice_index}
use Rattle.edge_traits.specs.Settled.{Ends, goes_on, Settled, IsFrontOf}
use Rattle.wire_fields.specs.Refusal.{Refusal, Begins, because, truncated}
use Rattle.wire_fields.specs.Reading.{IsOctets}
use Rattle.bundle6.specs.declared.fault.Cause6.{Cause6}
use Rattle.bundle6.specs.declared.bundle.Bundle6.{Bundle6}
use Rattle.bundle6.specs.Cause as cause6
use Rattle.bundle6.specs.Table as table6
use Rattle.bundle7.specs.declared.fault.Cause7.{Cause7}
use Rattle.bundle7.specs.declared.bundle.Bundle7.{Bundle7}
use Rattle.bundle7.specs.Cause as cause7
use Rattle.bundle7.specs.Table as table7
use Rattle.fragments.specs.declared.join.Join.{Join}
use Rattle.bundle_runs.specs.declared.commands.command.Command.{Command}
use Rattle.bundle_runs.specs.declared.front.Bundle.TheVariants as bundles
use Rattle.bundle_runs.specs.Answering.{settles_from, step_of, leaves_of, after_said, after_last, unfinished, refused_by}
use Rattle.bundle_runs.specs.WrittenLines.{refused_line}

-- ---- what stands at the front of the octets from a place on, where bundle n begins

-- it is one of version 6, with k octets
abbrev pub TakesBundle6 : Type 0
TakesBundle6 = (command : Command) (any_refused : Bool) (joins : List Join)
    (ends : Ends) (n at k : ℕ) (octets : List ℕ) (bundle : Bundle6)
    → Begins (table6.bundle 64) octets k bundle
    → settles_from command any_refused joins n at ends octets
    ≡ after_said n (step_of command joins (bundles.Six bundle) k) (leaves_of command joins (bundles.Six bundle)) any_refused
    (λ any now. settles_from command any now (n + 1) (at + k) ends (drop k octets))

-- it is one of version 7
abbrev pub TakesBundle7 : Type 0
TakesBundle7 = (command : Command) (any_refused : Bool) (joins : List Join)
    (ends : Ends) (n at k : ℕ) (octets : List ℕ) (bundle : Bundle7)
    → Begins (table7.bundle 64) octets k bundle
    → settles_from command any_refused joins n at ends octets
    ≡ after_said n (step_of command joins (bundles.Seven bundle) k) (leaves_of command joins (bundles.Seven bundle)) any_refused
    (λ any now. settles_from command any now (n + 1) (at + k) ends (drop k octets))

-- they begin as one of version 6, and are refused at a place for a cause
abbrev pub StopsAt6 : Type 0
StopsAt6 = (command : Command) (any_refused : Bool) (joins : List Join)
    (ends : Ends) (n at place : ℕ) (octets : List ℕ) (cause : Cause6)
    → IsOctets octets → slice_index octets 0 ≡ 0x06
    → Refusal (table6.bundle 64) [] octets place (because cause)
    → settles_from command any_refused joins n at ends octets ≡ refused_by (refused_line n (at + place) (cause6.word_of cause))

-- the same of version 7
abbrev pub StopsAt7 : Type 0
StopsAt7 = (command : Command) (any_refused : Bool) (joins : List Join)
    (ends : Ends) (n at place : ℕ) (octets : List ℕ) (cause : Cause7)
    → IsOctets octets → slice_index octets 0 ≡ 0x9F
    → Refusal (table7.bundle 64) [] octets place (because cause)
    → settles_from command any_refused joins n at ends octets ≡ refused_by (refused_line n (at + place) (cause7.word_of cause))

-- they end inside one of version 6, in the field at a place
abbrev pub EndsInside6 : Type 0
EndsInside6 = (command : Command) (any_refused : Bool) (joins : List Join)
    (ends : Ends) (n at place : ℕ) (octets : List ℕ)
    → IsOctets octets → slice_index octets 0 ≡ 0x06
    → Refusal (table6.bundle 64) [] octets place truncated
    → settles_from command any_refused joins n at ends octets ≡ unfinished ends n (at + place)

-- the same of version 7
abbrev pub EndsInside7 : Type 0
EndsInside7 = (command : Command) (any_refused : Bool) (joins : List Join)
    (ends : Ends) (n at place : ℕ) (octets : List ℕ)
    → IsOctets octets → slice_index octets 0 ≡ 0x9F
    → Refusal (table7.bundle 64) [] octets place truncated
    → settles_from command any_refused joins n at ends octets ≡ unfinished ends n (at + place)

-- their first octet names no version
abbrev pub StopsAtVersion : Type 0
StopsAtVersion = (command : Command) (any_refused : Bool) (joins : List Join)
    (ends : Ends) (n at octet : ℕ) (octets : List ℕ)
    → (octet ≡ 0x06 → ⊥) → (octet ≡ 0x9F → ⊥)
    → settles_from command any_refused joins n at ends (octet ∷ octets) ≡ refused_by (refused_line n at (codes "Version"))

-- there are none
abbrev pub EndsAfterLast : Type 0
EndsAfterLast = (command : Command) (any_refused : Bool) (joins : List Join)
    (ends : Ends) (n at : ℕ)
    → settles_from command any_refused joins n at ends [] ≡ after_last ends any_refused

-- ---- the earliest place decides

-- What octets settle while the input goes on is a front of what they settle with others after them.
-- It is said of octets: of other numbers the two tables say nothing.
abbrev pub EarliestOctetDecides : (Ends → List ℕ → Settled) → Type 0
EarliestOctetDecides settles = (ends : Ends) (taken more : List ℕ) → IsOctets taken
    → IsFrontOf (settles goes_on taken) (settles ends (taken ++ more))
