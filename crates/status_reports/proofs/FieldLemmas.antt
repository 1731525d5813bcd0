-- Single fields, spelled.

use Rattle.std.proofs.Common.{◌≡◌, ℕ, ◌^◌, ◌<◌, List, [], ◌∷◌, ◌++◌, length, get_or, refl, arith}
use Rattle.sdnv.specs.Shortest.{spelling}
use Rattle.cbor_lite.specs.Head.{head, SpellsHead}
use Rattle.endpoint.specs.declared.name.Endpoint.{Endpoint}
use Rattle.endpoint.specs.Endpoints.{IsEndpoint}
use Rattle.wire_fields.specs.Format.{Format, give, place, since, field, such_that, and_then, Spells}
use Rattle.wire_fields.proofs.WholeLemmas.{whole-only}
use Rattle.bundle_meaning.specs.Body.{shortest, below, name, name_octets}
use Rattle.bundle_meaning.proofs.FieldLemmas.{shortest-spells, below-spells, name-spells}
use Rattle.bundle7.specs.Eid.{eid}
use Rattle.bundle7.specs.Spelling.{eid_octets}
use Rattle.bundle7.proofs.SpellingLaws.{eid-spells}
use Rattle.status_reports.specs.declared.fault.AdminFault.{AdminFault}
use Rattle.status_reports.specs.declared.fault.AdminFault.TheVariants.{BadAdmin}
use Rattle.status_reports.specs.Causes.{with_cause}
use Rattle.status_reports.specs.Fields.{number, number_below, source6, source7}
use Rattle.status_reports.specs.Spelling.{IsWritten}

-- what spells fields spells them with another cause
pub recaused : {C D A : Type 0} (cause : D) (f : Format C A) (front w : List ℕ) (a : A)
    → Spells f front w a → Spells (with_cause cause f) front w a
recaused cause (give x) front w a s = s
recaused cause place front w a s = s
recaused cause (since p) front w a s = s
recaused cause (field k c) front w a s = s
recaused cause (such_that f conditions) front w a s = (recaused cause f front w a s.0, rw s.1 refl)
recaused cause (and_then f g) front w a s =
    let (u, v, x, e, one, other) = s in
    (u, v, x, e, recaused cause f front u x one, recaused cause (g x) (front ++ u) v a other)

pub number-spells : (front : List ℕ) (n : ℕ) → n < 2 ^ 64 → Spells number front (spelling n) n
number-spells front n fits = recaused BadAdmin shortest front (spelling n) n (shortest-spells front n fits)

pub below-number-spells : (front : List ℕ) (limit n : ℕ) → n < limit → n < 2 ^ 64 → Spells (number_below limit) front (spelling n) n
below-number-spells front limit n small fits =
    recaused BadAdmin (below limit) front (spelling n) n (below-spells front limit n small fits)

pub source6-spells : (front : List ℕ) (e : Endpoint) → IsEndpoint e → Spells source6 front (name_octets e) e
source6-spells front e is = recaused BadAdmin name front (name_octets e) e (name-spells front e is)

pub source7-spells : (front : List ℕ) (e : Endpoint) → IsEndpoint e → Spells source7 front (eid_octets e) e
source7-spells front e is = recaused BadAdmin eid front (eid_octets e) e (eid-spells front e is)

pub head-spells : (kind n : ℕ) → n < 2 ^ 64 → SpellsHead kind (head kind n) n
head-spells kind n fits = record { small = fits; spelt = refl }

-- a list of four, place by place
pub four-list : {A : Type 0} (xs : List A) (d : A) → length xs ≡ 4
    → xs ≡ get_or xs 0 d ∷ get_or xs 1 d ∷ get_or xs 2 d ∷ get_or xs 3 d ∷ []
four-list [] d four = absurd (omega (arith, four))
four-list (a ∷ []) d four = absurd (omega (arith, four))
four-list (a ∷ b ∷ []) d four = absurd (omega (arith, four))
four-list (a ∷ b ∷ c ∷ []) d four = absurd (omega (arith, four))
four-list (a ∷ b ∷ c ∷ e ∷ []) d four = refl
four-list (a ∷ b ∷ c ∷ e ∷ x ∷ xs) d four = absurd (omega (arith, four))

-- what is written is read back
pub written : {A : Type 0} (f : Format AdminFault A) (report : A) (made octets : List ℕ)
    → Spells f [] made report → octets ≡ made → IsWritten f report made octets
written f report made octets spells is =
    let so : Spells f [] octets report = rw is spells in
    record { is = is; spells = so; again = whole-only f BadAdmin octets report so }
