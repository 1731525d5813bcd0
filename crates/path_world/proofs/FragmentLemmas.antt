-- What is read of a block is the fragment that it is.

use Rattle.std.proofs.Common.{◌≡◌, ℕ, ◌&&◌, Bool, true, false, List, length, Option, None, Some, is_some, Result, Ok, Err, IfOk, IfSome, refl, sym, ap, ◌∙◌, subst}
use Rattle.wire_fields.specs.Gives.{Fails}
use Rattle.wire_fields.specs.Reading.{read}
use Rattle.bundle6.specs.declared.bundle.Bundle6.{Bundle6}
use Rattle.bundle6.specs.declared.fault.Cause6.{Cause6}
use Rattle.bundle6.specs.declared.fault.Fail6.{Fail6}
use Rattle.bundle6.specs.declared.fault.Fail6.TheVariants as fails6
use Rattle.bundle6.specs.Cause as cause6
use Rattle.bundle6.specs.Legal.{IsLegal}
use Rattle.bundle6.specs.Table as table6
use Rattle.bundle7.specs.declared.bundle.Bundle7.{Bundle7}
use Rattle.bundle7.specs.declared.fault.Cause7.{Cause7}
use Rattle.bundle7.specs.declared.fault.Fail7.{Fail7}
use Rattle.bundle7.specs.declared.fault.Fail7.TheVariants as fails7
use Rattle.bundle7.specs.Cause as cause7
use Rattle.bundle7.specs.Legal.{IsLegal7}
use Rattle.bundle7.specs.Table as table7
use Rattle.bundle_meaning.specs.declared.full.Full.{Full}
use Rattle.translate.specs.declared.refused.Refused.{Refused}
use Rattle.translate.specs.declared.refused.Refused.TheVariants as causes
use Rattle.translate.specs.Answers.{Translates}
use Rattle.translate.specs.Reading6.{refusals6, full6_of}
use Rattle.translate.specs.Reading7.{refusals7, full7_of}
use Rattle.translate.specs.Refusals.{first_that_holds}
use Rattle.translate.specs.Sound.{IsSound}
use Rattle.translate.specs.View6.{fits6}
use Rattle.translate.specs.View7.{fits7}
use Rattle.translate.proofs.BackLaws.{fits-own6, fits-own7}
use Rattle.fragment_lines.proofs.ReadLemmas.{refusal-is}
use Rattle.gate_cases.specs.declared.face.Face.{Face}
use Rattle.gate_cases.specs.declared.face.Face.TheVariants.{Old, New}
use Rattle.gate_cases.specs.Blocks.{Arrival, one, arrival6, arrival7, found_at}
use Rattle.gate_cases.specs.Faces.{other_of, fits_at}
use Rattle.gate_cases.proofs.JudgeLemmas.{early6, one6, early7, one7}
use Rattle.path_laws.specs.Path.{fragment_if, fragment_found}
use Rattle.path_world.specs.Ties.{IsTaken, fragment_for}

-- ---- the block is one bundle, or it isn't

pub found-old : {E : Type 0} (w : List ℕ) (b : Bundle6) (k : ℕ) (result : Result (Option Full) E) → read (table6.bundle 64) w 0 ≡ Ok (b, k) → k ≡ length w
    → IfOk result (λ f. f ≡ fragment_found Old (one (arrival6 b))) → IfOk result (λ f. f ≡ fragment_found Old (found_at Old w))
found-old w b k (Ok f) is all read = read ∙ ap (λ found. fragment_found Old found) (sym (one6 w b (is ∙ ap (λ n. Ok (b, n)) all)))
found-old w b k (Err e) is all read = tt

pub found-new : {E : Type 0} (w : List ℕ) (b : Bundle7) (k : ℕ) (result : Result (Option Full) E) → read (table7.bundle 64) w 0 ≡ Ok (b, k) → k ≡ length w
    → IfOk result (λ f. f ≡ fragment_found New (one (arrival7 b))) → IfOk result (λ f. f ≡ fragment_found New (found_at New w))
found-new w b k (Ok f) is all read = read ∙ ap (λ found. fragment_found New found) (sym (one7 w b (is ∙ ap (λ n. Ok (b, n)) all)))
found-new w b k (Err e) is all read = tt

-- octets follow it
pub early-old : (w : List ℕ) (b : Bundle6) (k : ℕ) → read (table6.bundle 64) w 0 ≡ Ok (b, k) → (k ≡ length w → ⊥) → None ≡ fragment_found Old (found_at Old w)
early-old w b k is early = ap (λ found. fragment_found Old found) (sym (early6 w k (rw is refl) early))

pub early-new : (w : List ℕ) (b : Bundle7) (k : ℕ) → read (table7.bundle 64) w 0 ≡ Ok (b, k) → (k ≡ length w → ⊥) → None ≡ fragment_found New (found_at New w)
early-new w b k is early = ap (λ found. fragment_found New found) (sym (early7 w k (rw is refl) early))

-- it is refused
pub refused-old : (w : List ℕ) (e : Fail6) (at : ℕ) (cause : Cause6) → e ≡ fails6.Refused at cause → Fails (cause6.refusal e) (read (table6.bundle 64) w 0)
    → None ≡ fragment_found Old (found_at Old w)
unfolding found_at
refused-old w e at cause is fails =
    let stops : read (table6.bundle 64) w 0 ≡ Err (at, cause6.why cause) = subst (λ x. Fails (cause6.refusal x) (read (table6.bundle 64) w 0)) is fails in rw stops refl

pub refused-new : (w : List ℕ) (e : Fail7) (at : ℕ) (cause : Cause7) → e ≡ fails7.Refused at cause → Fails (cause7.refusal e) (read (table7.bundle 64) w 0)
    → None ≡ fragment_found New (found_at New w)
unfolding found_at
refused-new w e at cause is fails =
    let stops : read (table7.bundle 64) w 0 ≡ Err (at, cause7.why cause) = subst (λ x. Fails (cause7.refusal x) (read (table7.bundle 64) w 0)) is fails in rw stops refl

-- ---- the bundle can be translated, or it can't

translated : (face : Face) (arrival : Arrival) → first_that_holds arrival.refusals ≡ None → fragment_for (other_of face) arrival.full ≡ fragment_found face (one arrival)
translated face arrival none = rw none refl

untranslated : (face : Face) (arrival : Arrival) (cause : Refused) → first_that_holds arrival.refusals ≡ Some cause → None ≡ fragment_found face (one arrival)
untranslated face arrival cause is = rw is refl

pub read-some : {E : Type 0} (face : Face) (arrival : Arrival) (full : Full) (result : Result (Option Full) E) → (first_that_holds arrival.refusals ≡ None) × (full ≡ arrival.full)
    → IfOk result (λ f. f ≡ fragment_for (other_of face) full) → IfOk result (λ f. f ≡ fragment_found face (one arrival))
read-some face arrival full (Ok f) (none, same) is = is ∙ (ap (λ r. fragment_for (other_of face) r) same ∙ translated face arrival none)
read-some face arrival full (Err e) reads is = tt

pub read-none : (face : Face) (arrival : Arrival) (value : Full) (cause : Refused) → Translates (first_that_holds arrival.refusals) value (Err cause)
    → (cause ≡ causes.Memory → ⊥) → None ≡ fragment_found face (one arrival)
read-none face arrival value cause reads other = untranslated face arrival cause (refusal-is (first_that_holds arrival.refusals) value cause reads other)

-- ---- what is taken

for-taken : (face to : Face) (full : Full) (f : Option Full) → f ≡ fragment_for to full → IsSound full → fits_at face full ≡ true → IfSome f (IsTaken face)
for-taken face to full f is sound fits = subst (λ (o : Option Full). IfSome o (IsTaken face)) (sym is) (by (fits_at to full) (is_some full.shared.fragment) refl)
  where
    by : (room part : Bool) → is_some full.shared.fragment ≡ part → IfSome (fragment_if (room && part) full) (IsTaken face)
    by true true is = record { sound = sound; fits = fits; part = is }
    by true false is = tt
    by false part is = tt

pub taken-old : {E : Type 0} (b : Bundle6) (full : Full) (result : Result (Option Full) E) → IsLegal b → IsSound full
    → (first_that_holds (refusals6 b) ≡ None) × (full ≡ full6_of b) → IfOk result (λ f. f ≡ fragment_for New full) → IfOk result (λ f. IfSome f (IsTaken Old))
taken-old b full (Ok f) legal sound (none, same) is = for-taken Old New full f is sound (ap fits6 same ∙ fits-own6 b legal none)
taken-old b full (Err e) legal sound reads is = tt

pub taken-new : {E : Type 0} (b : Bundle7) (full : Full) (result : Result (Option Full) E) → IsLegal7 b → IsSound full
    → (first_that_holds (refusals7 b) ≡ None) × (full ≡ full7_of b) → IfOk result (λ f. f ≡ fragment_for Old full) → IfOk result (λ f. IfSome f (IsTaken New))
taken-new b full (Ok f) legal sound (none, same) is = for-taken New Old full f is sound (ap fits7 same ∙ fits-own7 b legal none)
taken-new b full (Err e) legal sound reads is = tt
