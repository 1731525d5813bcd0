-- What is said of a bundle that reads as a record, and of one that doesn't.
use Rattle.std.proofs.Common.{◌≡◌, ℕ, List, Option, Some, None, Result, Ok, Err, refl, ap, ◌∙◌, sym, subst}
use Rattle.bundle6.specs.declared.bundle.Bundle6.{Bundle6}
use Rattle.bundle6.specs.Legal.{IsLegal}
use Rattle.bundle7.specs.declared.bundle.Bundle7.{Bundle7}
use Rattle.bundle7.specs.Legal.{IsLegal7}
use Rattle.bundle_meaning.specs.declared.full.Full.{Full}
use Rattle.translate.specs.declared.refused.Refused.{Refused}
use Rattle.translate.specs.declared.refused.Refused.TheVariants as causes
use Rattle.translate.specs.Answers.{Translates}
use Rattle.translate.specs.Refusals.{first_that_holds}
use Rattle.translate.specs.Reading6.{refusals6, full6_of}
use Rattle.translate.specs.Reading7.{refusals7, full7_of}
use Rattle.translate.specs.Sound.{IsSound}
use Rattle.translate.specs.View6.{fits6}
use Rattle.translate.specs.View7.{fits7}
use Rattle.translate.proofs.BackLaws.{fits-own6, fits-own7}
use Rattle.fragment_lines.specs.declared.turned_down.TurnedDown.{TurnedDown}
use Rattle.fragment_lines.specs.declared.turned_down.TurnedDown.TheVariants.{Untranslated}
use Rattle.fragment_lines.specs.Said.{Said}
use Rattle.fragment_lines.specs.Lines.{unless_refused, Owes, Writes}
use Rattle.fragment_lines.specs.Writable.{HasRoom6, HasRoom7, Reads}

-- what is answered is the first cause, except want of memory
pub refusal-is : {A : Type 0} (first : Option Refused) (value : A) (cause : Refused) → Translates first value (Err cause)
    → (cause ≡ causes.Memory → ⊥) → first ≡ Some cause
refusal-is first value causes.CustodyAsked is other = is
refusal-is first value causes.Clockless is other = is
refusal-is first value causes.LifetimeZero is other = is
refusal-is first value causes.TimeTooLarge is other = is
refusal-is first value causes.SequenceTooLarge is other = is
refusal-is first value causes.PayloadRefs is other = is
refusal-is first value causes.AdminFragment is other = is
refusal-is first value causes.CustodySignal is other = is
refusal-is first value causes.CustodyReport is other = is
refusal-is first value causes.AdminUnknown is other = is
refusal-is first value causes.BadAdmin is other = is
refusal-is first value causes.ResidueBad is other = is
refusal-is first value causes.WrapBad is other = is
refusal-is first value causes.TooManyBlocks is other = is
refusal-is first value causes.Memory is other = absurd (other refl)

-- what is written of the record is written of the bundle
pub said-read : {S : Type 0} (first : Option Refused) (said : Full → Said S) (full value : Full) (before now : List ℕ) (state : S)
    (written : Result (List ℕ) TurnedDown) → first ≡ None → full ≡ value → Writes (said full) before now state written
    → Writes (unless_refused first (said value)) before now state written
said-read first said full value before now state written none is writes =
    subst (λ (f : Option Refused). Writes (unless_refused f (said value)) before now state written) (sym none)
    (subst (λ (f : Full). Writes (said f) before now state written) is writes)

-- and what is due
pub owed-read : {S : Type 0} (first : Option Refused) (said : Full → Said S) (full value : Full) (state : S)
    (owed : Result (List ℕ) TurnedDown) → first ≡ None → full ≡ value → Owes (said full) state owed
    → Owes (unless_refused first (said value)) state owed
owed-read first said full value state owed none is owes =
    subst (λ (f : Option Refused). Owes (unless_refused f (said value)) state owed) (sym none)
    (subst (λ (f : Full). Owes (said f) state owed) is owes)

-- a bundle that doesn't read is turned down, and nothing is written
pub owed-unread : {S : Type 0} (first : Option Refused) (said : Said S) (state : S) (cause : Refused)
    → first ≡ Some cause → Owes (unless_refused first said) state (Err (Untranslated cause))
owed-unread first said state cause is = ap (λ (f : Option Refused). unless_refused f said) is

pub said-unread : {S : Type 0} (first : Option Refused) (said : Said S) (text : List ℕ) (state : S) (cause : Refused)
    → first ≡ Some cause → Writes (unless_refused first said) text text state (Err (Untranslated cause))
said-unread first said text state cause is = (owed-unread first said state cause is, refl)

-- ---- the record has a view in the bundle's own version

pub room-read6 : (b : Bundle6) (full : Full) → IsLegal b → Reads (first_that_holds (refusals6 b)) (full6_of b) (Ok full) → IsSound full
    → HasRoom6 full
room-read6 b full legal (none, is) sound = record { sound = sound; fits = ap fits6 is ∙ fits-own6 b legal none }

pub room-read7 : (b : Bundle7) (full : Full) → IsLegal7 b → Reads (first_that_holds (refusals7 b)) (full7_of b) (Ok full) → IsSound full
    → HasRoom7 full
room-read7 b full legal (none, is) sound = record { sound = sound; fits = ap fits7 is ∙ fits-own7 b legal none }
