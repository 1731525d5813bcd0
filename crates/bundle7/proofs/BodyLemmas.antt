-- A body is what its type's format spells, if and only if it is read so.
use Rattle.std.proofs.Common.{◌≡◌, ℕ, zero, suc, ◌==◌, Bool, true, false, if◌then◌else◌, List, [], ◌∷◌, ◌++◌, Result, Ok, Err, is_ok, refl, ap, subst, eqb-true, arith}
use Rattle.std.proofs.lemmas.Bool.{false≢true}
use Rattle.wire_fields.specs.Format.{Format, Spells}
use Rattle.wire_fields.specs.Refusal.{Stop}
use Rattle.wire_fields.specs.Reading.{IsOctets}
use Rattle.wire_fields.specs.Whole.{read_whole}
use Rattle.wire_fields.proofs.WholeLemmas.{whole-found, whole-only}
use Rattle.bundle7.specs.declared.fault.Cause7.{Cause7}
use Rattle.bundle7.specs.declared.fault.Cause7.TheVariants.{ExtensionBody}
use Rattle.bundle7.specs.Eid.{eid}
use Rattle.bundle7.specs.Body.{age, hop, IsBody, is_whole, is_body}

-- ---- parts of a text of octets

front_fits : (u v : List ℕ) → IsOctets (u ++ v) → IsOctets u
front_fits [] v fits i = omega arith
front_fits (x ∷ u) v fits zero = fits 0
front_fits (x ∷ u) v fits (suc i) = front_fits u v (λ j. fits (suc j)) i

rest_fits : (u v : List ℕ) → IsOctets (u ++ v) → IsOctets v
rest_fits [] v fits i = fits i
rest_fits (x ∷ u) v fits i = rest_fits u v (λ j. fits (suc j)) i

pub octets_front : (w u v : List ℕ) → w ≡ u ++ v → IsOctets w → IsOctets u
octets_front w u v parts fits = front_fits u v (subst IsOctets parts fits)

pub octets_after : (w u v : List ℕ) → w ≡ u ++ v → IsOctets w → IsOctets v
octets_after w u v parts fits = rest_fits u v (subst IsOctets parts fits)

-- a part in the middle, under another name
pub octets_in : (w u v same after : List ℕ) → w ≡ u ++ (v ++ after) → v ≡ same → IsOctets w → IsOctets same
octets_in w u v same after parts is fits =
    subst IsOctets is (octets_front (v ++ after) v after refl (octets_after w u (v ++ after) parts fits))

-- ---- bodies

read-whole : {A : Type 0} (f : Format Cause7 A) (w : List ℕ) (r : Result A (ℕ × Stop Cause7)) → IsOctets w → read_whole f ExtensionBody w ≡ r
    → is_ok r ≡ true → (x : A) × Spells f [] w x
read-whole f w (Ok x) fits is ok = (x, whole-found f ExtensionBody w x fits is)
read-whole f w (Err e) fits is ok = absurd (false≢true ok)

whole-spelled : {A : Type 0} (f : Format Cause7 A) (w : List ℕ) → IsOctets w → is_whole f w ≡ true → (x : A) × Spells f [] w x
whole-spelled f w fits ok = read-whole f w (read_whole f ExtensionBody w) fits refl ok

spelled-whole : {A : Type 0} (f : Format Cause7 A) (w : List ℕ) → (x : A) × Spells f [] w x → is_whole f w ≡ true
spelled-whole f w (x, spells) = ap is_ok (whole-only f ExtensionBody w x spells)

pub body-found : (kind : ℕ) (w : List ℕ) → IsOctets w → is_body kind w ≡ true → IsBody kind w
body-found kind w fits legal = record {
  if_previous_node = λ is. whole-spelled eid w fits (rw is at legal);
  if_bundle_age = λ is. whole-spelled age w fits (rw is at legal);
  if_hop_count = λ is. whole-spelled hop w fits (rw is at legal);
}

-- a test by cases holds where each case does
by-cases : (t x y : Bool) → (t ≡ true → x ≡ true) → y ≡ true → (if t then x else y) ≡ true
by-cases true x y here there = here refl
by-cases false x y here there = there

pub body-only : (kind : ℕ) (w : List ℕ) → IsBody kind w → is_body kind w ≡ true
body-only kind w legal =
    by-cases (kind == 6) (is_whole eid w) _ (λ is. spelled-whole eid w (legal.if_previous_node (eqb-true kind 6 is)))
    (by-cases (kind == 7) (is_whole age w) _ (λ is. spelled-whole age w (legal.if_bundle_age (eqb-true kind 7 is)))
    (by-cases (kind == 10) (is_whole hop w) true (λ is. spelled-whole hop w (legal.if_hop_count (eqb-true kind 10 is))) refl))
