-- The clauses of a reader of whole bodies, each from the one exact clause.

use Rattle.std.proofs.Common.{◌≡◌, ◌≢◌, ◌↔◌, ◌⊎◌, ℕ, List, [], Result, Ok, Err, IsOk, IsErr, IfOk, refl, sym, ap, ◌∙◌, inl, inr}
use Rattle.wire_fields.specs.Format.{Format, Spells}
use Rattle.wire_fields.specs.Refusal.{Stop}
use Rattle.wire_fields.specs.Reading.{IsOctets}
use Rattle.wire_fields.specs.Whole.{read_whole}
use Rattle.wire_fields.proofs.ResultLemmas.{ok_is}
use Rattle.wire_fields.proofs.WholeLemmas.{whole-found, whole-only}
use Rattle.bundle_meaning.specs.declared.fault.BlockFault.{BlockFault}
use Rattle.bundle_meaning.specs.declared.fault.BlockFault.TheVariants.{Bad, Memory}
use Rattle.bundle_meaning.specs.Body.{GivesBody, SpellsNone}

good : {A : Type 0} → A → Result A BlockFault
good x = Ok x

value_of : {A E : Type 0} (r : Result A E) → IsOk r → (x : A) × (r ≡ Ok x)
value_of (Ok x) is = (x, refl)
value_of (Err e) is = absurd (cc)

no_fault : {A E : Type 0} (r : Result A E) (x : A) → r ≡ Ok x → IsErr r → ⊥
no_fault (Ok y) x is fault = absurd (cc)
no_fault (Err e) x is fault = absurd (cc)

pub body-found : {A : Type 0} (f : Format BlockFault A) (result : Result A BlockFault) (text : List ℕ)
    → IsOctets text → GivesBody result (read_whole f Bad text) → IfOk result (λ x. Spells f [] text x)
body-found f (Ok x) text fits gives = whole-found f Bad text x fits gives
body-found f (Err e) text fits gives = tt

pub body-only : {A : Type 0} (f : Format BlockFault A) (result : Result A BlockFault) (text : List ℕ)
    → GivesBody result (read_whole f Bad text) → (x : A) → Spells f [] text x → (result ≡ Ok x) ⊎ (result ≡ Err Memory)
unfolding good
body-only {A} f (Ok y) text gives x spells =
    let same : y ≡ x = ok_is {E = ℕ × Stop BlockFault} y x (sym gives ∙ whole-only f Bad text x spells) in inl (ap good same)
body-only f (Err Bad) text gives x spells = absurd (no_fault (read_whole f Bad text) x (whole-only f Bad text x spells) gives)
body-only f (Err Memory) text gives x spells = inr refl

pub body-bad : {A : Type 0} (f : Format BlockFault A) (result : Result A BlockFault) (text : List ℕ)
    → IsOctets text → GivesBody result (read_whole f Bad text) → (result ≡ Err Bad) ↔ SpellsNone f text
body-bad f (Ok y) text fits gives = (λ is. absurd (cc), λ none. absurd (none y (whole-found f Bad text y fits gives)))
body-bad f (Err Bad) text fits gives =
    (λ is x spells. no_fault (read_whole f Bad text) x (whole-only f Bad text x spells) gives, λ none. refl)
body-bad f (Err Memory) text fits gives =
    let (x, is) = value_of (read_whole f Bad text) gives in
    (λ same. absurd (cc), λ none. absurd (none x (whole-found f Bad text x fits is)))

-- where memory can't run out
pub body-sure : {A : Type 0} (f : Format BlockFault A) (result : Result A BlockFault) (text : List ℕ)
    → result ≢ Err Memory → GivesBody result (read_whole f Bad text) → (x : A) → Spells f [] text x → result ≡ Ok x
body-sure f result text sure gives x spells =
    elim (body-only f result text gives x spells) [ inl is ↦ is | inr memory ↦ absurd (sure memory) ]
