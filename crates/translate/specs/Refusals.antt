-- Refusals in their order: a list of causes, each with its condition, and the first that holds.

use Rattle.std.specs.Prelude.{ℕ, Bool, List, [], ◌∷◌, codes, Option, Some, None, if◌then◌else◌}
use Rattle.translate.specs.declared.refused.Refused.{Refused}
use Rattle.translate.specs.declared.refused.Refused.TheVariants as causes
use Rattle.translate.specs.declared.refused.ViewRefused.{ViewRefused}
use Rattle.translate.specs.declared.refused.ViewRefused.TheVariants as view_causes

-- the first cause whose condition holds
abbrev pub first_that_holds : {A : Type 0} → List (A × Bool) → Option A
first_that_holds [] = None
first_that_holds (refusal ∷ others) = if refusal.1 then Some refusal.0 else first_that_holds others

abbrev pub word_of : Refused → List ℕ
word_of causes.CustodyAsked = codes "CustodyAsked"
word_of causes.Clockless = codes "Clockless"
word_of causes.LifetimeZero = codes "LifetimeZero"
word_of causes.TimeTooLarge = codes "TimeTooLarge"
word_of causes.SequenceTooLarge = codes "SequenceTooLarge"
word_of causes.PayloadRefs = codes "PayloadRefs"
word_of causes.AdminFragment = codes "AdminFragment"
word_of causes.CustodySignal = codes "CustodySignal"
word_of causes.CustodyReport = codes "CustodyReport"
word_of causes.AdminUnknown = codes "AdminUnknown"
word_of causes.BadAdmin = codes "BadAdmin"
word_of causes.ResidueBad = codes "ResidueBad"
word_of causes.WrapBad = codes "WrapBad"
word_of causes.TooManyBlocks = codes "TooManyBlocks"
word_of causes.Memory = codes "Memory"

abbrev pub view_word_of : ViewRefused → List ℕ
view_word_of view_causes.TooManyBlocks = codes "TooManyBlocks"
view_word_of view_causes.Memory = codes "Memory"
