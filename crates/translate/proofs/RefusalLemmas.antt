-- Causes in their order, and others after them.

use Rattle.std.proofs.Common.{◌≡◌, Bool, true, false, List, [], ◌∷◌, ◌++◌, Some, None, refl, ap, ◌∙◌}
use Rattle.translate.specs.declared.refused.Refused.{Refused}
use Rattle.translate.specs.Refusals.{first_that_holds}

abbrev pub Causes : Type 0
Causes = List (Refused × Bool)

rest-by : (refusal : Refused × Bool) (one more : Causes) (t : Bool) → refusal.1 ≡ t → first_that_holds (refusal ∷ one) ≡ None
    → (first_that_holds one ≡ None → first_that_holds (one ++ more) ≡ first_that_holds more)
    → first_that_holds (refusal ∷ (one ++ more)) ≡ first_that_holds more
rest-by refusal one more true is none rest = let some = rw is at none in absurd (cc)
rest-by refusal one more false is none rest = rw is (rest (rw is at none))

-- where none of the first holds, the others are left
pub rest-left : (one more : Causes) → first_that_holds one ≡ None → first_that_holds (one ++ more) ≡ first_that_holds more
rest-left [] more none = refl
rest-left (refusal ∷ one) more none = rest-by refusal one more refusal.1 refl none (λ none. rest-left one more none)

some-by : (refusal : Refused × Bool) (one more : Causes) (cause : Refused) (t : Bool) → refusal.1 ≡ t
    → first_that_holds (refusal ∷ one) ≡ Some cause
    → (first_that_holds one ≡ Some cause → first_that_holds (one ++ more) ≡ Some cause)
    → first_that_holds (refusal ∷ (one ++ more)) ≡ Some cause
some-by refusal one more cause true is some rest = let here = rw is at some in rw is here
some-by refusal one more cause false is some rest = rw is (rest (rw is at some))

-- the first that holds stays the first
pub some-stays : (one more : Causes) (cause : Refused) → first_that_holds one ≡ Some cause → first_that_holds (one ++ more) ≡ Some cause
some-stays [] more cause some = absurd (cc)
some-stays (refusal ∷ one) more cause some = some-by refusal one more cause refusal.1 refl some (λ some. some-stays one more cause some)

front-by : (refusal : Refused × Bool) (one more : Causes) (t : Bool) → refusal.1 ≡ t → first_that_holds (refusal ∷ (one ++ more)) ≡ None
    → (first_that_holds (one ++ more) ≡ None → first_that_holds one ≡ None) → first_that_holds (refusal ∷ one) ≡ None
front-by refusal one more true is none rest = let some = rw is at none in absurd (cc)
front-by refusal one more false is none rest = rw is (rest (rw is at none))

pub front-none : (one more : Causes) → first_that_holds (one ++ more) ≡ None → first_that_holds one ≡ None
front-none [] more none = refl
front-none (refusal ∷ one) more none = front-by refusal one more refusal.1 refl none (λ none. front-none one more none)

-- one cause more
pub last-false : (one : Causes) (cause : Refused) (t : Bool) → first_that_holds one ≡ None → t ≡ false
    → first_that_holds (one ++ (cause, t) ∷ []) ≡ None
last-false one cause t none is = ap (λ b. first_that_holds (one ++ (cause, b) ∷ [])) is ∙ rest-left one ((cause, false) ∷ []) none

pub last-true : (one : Causes) (cause : Refused) (t : Bool) → first_that_holds one ≡ None → t ≡ true
    → first_that_holds (one ++ (cause, t) ∷ []) ≡ Some cause
last-true one cause t none is = ap (λ b. first_that_holds (one ++ (cause, b) ∷ [])) is ∙ rest-left one ((cause, true) ∷ []) none
