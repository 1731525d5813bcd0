-- A bundle is refused for a cause of its own, and never for want of memory.

use Rattle.std.proofs.Common.{◌≡◌, Bool, true, false, List, [], ◌∷◌, ◌++◌, Option, Some, None, Err, refl, sym, ap, subst}
use Rattle.bundle6.specs.declared.bundle.Bundle6.{Bundle6}
use Rattle.bundle7.specs.declared.bundle.Bundle7.{Bundle7}
use Rattle.status_reports.specs.Order.{answer6, answer7}
use Rattle.translate.specs.declared.refused.Refused.{Refused}
use Rattle.translate.specs.declared.refused.Refused.TheVariants as causes
use Rattle.translate.specs.Answers.{Translates}
use Rattle.translate.specs.Refusals.{first_that_holds}
use Rattle.translate.specs.Reading6.{payload_in, refusals6}
use Rattle.translate.specs.Reading7.{refusals7}
use Rattle.translate.proofs.AdminLemmas.{no-memory}

-- it says something of the bundle
abbrev pub IsCause : Refused → Type 0
IsCause cause = cause ≡ causes.Memory → ⊥

abbrev pub AreCauses : List (Refused × Bool) → Type 0
AreCauses [] = Unit {0}
AreCauses (refusal ∷ others) = IsCause refusal.0 × AreCauses others

cause_or : Refused → Option Refused → Refused
cause_or other None = other
cause_or other (Some cause) = cause

same-cause : (one other : Refused) → Some one ≡ Some other → one ≡ other
unfolding cause_or
same-cause one other is = ap (cause_or one) is

first-by : (refusal : Refused × Bool) (others : List (Refused × Bool)) (cause : Refused) (t : Bool) → refusal.1 ≡ t → IsCause refusal.0
    → first_that_holds (refusal ∷ others) ≡ Some cause → (first_that_holds others ≡ Some cause → IsCause cause) → IsCause cause
first-by refusal others cause true is one some rest = subst IsCause (same-cause refusal.0 cause (rw is at some)) one
first-by refusal others cause false is one some rest = rest (rw is at some)

first-cause : (refusals : List (Refused × Bool)) (cause : Refused) → AreCauses refusals → first_that_holds refusals ≡ Some cause → IsCause cause
first-cause [] cause are some = absurd (cc)
first-cause (refusal ∷ others) cause are some =
    first-by refusal others cause refusal.1 refl are.0 some (λ more. first-cause others cause are.1 more)

told : {A : Type 0} (first : Option Refused) (value : A) (cause : Refused) → IsCause cause → first ≡ Some cause → Translates first value (Err cause)
told first value causes.CustodyAsked is some = some
told first value causes.Clockless is some = some
told first value causes.LifetimeZero is some = some
told first value causes.TimeTooLarge is some = some
told first value causes.SequenceTooLarge is some = some
told first value causes.PayloadRefs is some = some
told first value causes.AdminFragment is some = some
told first value causes.CustodySignal is some = some
told first value causes.CustodyReport is some = some
told first value causes.AdminUnknown is some = some
told first value causes.BadAdmin is some = some
told first value causes.ResidueBad is some = some
told first value causes.WrapBad is some = some
told first value causes.TooManyBlocks is some = some
told first value causes.Memory is some = absurd (is refl)

-- the first cause is what a call answers
pub refused : {A : Type 0} (refusals : List (Refused × Bool)) (value : A) (cause : Refused) → AreCauses refusals
    → Some cause ≡ first_that_holds refusals → Translates (first_that_holds refusals) value (Err cause)
refused refusals value cause are is = told (first_that_holds refusals) value cause (first-cause refusals cause are (sym is)) (sym is)

-- ---- the causes of both versions

pub are-causes6 : (b : Bundle6) → AreCauses (refusals6 b)
are-causes6 b =
    let admin = no-memory (answer6 (payload_in b.blocks).body) in
    ((λ is. absurd (cc)), ((λ is. absurd (cc)), ((λ is. absurd (cc)), ((λ is. absurd (cc)), ((λ is. absurd (cc)), ((λ is. absurd (cc)), (admin, ((λ is. absurd (cc)), ((λ is. absurd (cc)), tt)))))))))

pub are-causes7 : (b : Bundle7) → AreCauses (refusals7 b)
are-causes7 b =
    let admin = no-memory (answer7 b.payload.body) in
    ((λ is. absurd (cc)), ((λ is. absurd (cc)), ((λ is. absurd (cc)), ((λ is. absurd (cc)), (admin, ((λ is. absurd (cc)), ((λ is. absurd (cc)), tt)))))))

-- and one more
pub are-more : (refusals : List (Refused × Bool)) (t : Bool) → AreCauses refusals → AreCauses (refusals ++ (causes.TooManyBlocks, t) ∷ [])
are-more [] t are = ((λ is. absurd (cc)), tt)
are-more (refusal ∷ others) t are = (are.0, are-more others t are.1)
