-- Bodies that a version 7 block may have, as tests.

use Rattle.std.proofs.Common.{◌≡◌, ℕ, true, false, not, List, [], Some, None, Result, Ok, Err, is_ok, IfOk, refl, sym, ap}
use Rattle.endpoint.specs.declared.name.Endpoint.{Endpoint}
use Rattle.wire_fields.specs.Format.{Format, Spells}
use Rattle.wire_fields.specs.Refusal.{Stop}
use Rattle.wire_fields.specs.Reading.{IsOctets}
use Rattle.wire_fields.specs.Whole.{read_whole}
use Rattle.wire_fields.proofs.WholeLemmas.{whole-found, whole-only}
use Rattle.bundle7.specs.declared.fault.Cause7.{Cause7}
use Rattle.bundle7.specs.declared.fault.Cause7.TheVariants.{ExtensionBody}
use Rattle.bundle7.specs.declared.fault.EidFault.{EidFault}
use Rattle.bundle7.specs.declared.fault.EidFault.TheVariants as faults
use Rattle.bundle7.specs.Eid.{eid}
use Rattle.bundle7.specs.Body.{is_whole}
use Rattle.translate.specs.Views.{is_refused}

pub whole-yes : {A : Type 0} (f : Format Cause7 A) (w : List ℕ) (x : A) → Spells f [] w x → is_whole f w ≡ true
whole-yes f w x spells = ap is_ok (whole-only f ExtensionBody w x spells)

no-value : {A : Type 0} (f : Format Cause7 A) (w : List ℕ) (r : Result A (ℕ × Stop Cause7)) → read_whole f ExtensionBody w ≡ r → IsOctets w
    → ((x : A) → Spells f [] w x → ⊥) → is_ok r ≡ false
no-value f w (Ok x) is fits none = absurd (none x (whole-found f ExtensionBody w x fits is))
no-value f w (Err e) is fits none = refl

pub whole-no : {A : Type 0} (f : Format Cause7 A) (w : List ℕ) → IsOctets w → ((x : A) → Spells f [] w x → ⊥) → is_whole f w ≡ false
whole-no f w fits none = no-value f w (read_whole f ExtensionBody w) refl fits none

-- a value that isn't found isn't spelled
pub none-spelled : {A : Type 0} (f : Format Cause7 A) (w : List ℕ) → ((x : A) → Spells f [] w x → None ≡ Some x)
    → (x : A) → Spells f [] w x → ⊥
none-spelled f w only x spells = let no = only x spells in cc

pub previous-whole : (result : Result Endpoint EidFault) (w : List ℕ) → IsOctets w → IfOk result (λ e. Spells eid [] w e)
    → (result ≡ Err faults.Eid → (e : Endpoint) → Spells eid [] w e → ⊥)
    → (result ≡ Err faults.Memory → (e : Endpoint) × Spells eid [] w e) → not (is_refused result) ≡ is_whole eid w
previous-whole (Ok e) w fits found refused memory = sym (whole-yes eid w e found)
previous-whole (Err faults.Eid) w fits found refused memory = sym (whole-no eid w fits (refused refl))
previous-whole (Err faults.Memory) w fits found refused memory = let (e, spells) = memory refl in sym (whole-yes eid w e spells)
