-- Rows, by the words of the formats.

use Rattle.std.proofs.Common.{◌≡◌, ℕ, zero, suc, ◌+◌, ◌-◌, ◌<◌, ◌≤◌, List, [], ◌∷◌, length, take, drop, Option, Some, None, refl, sym, ap, subst, ◌∙◌, arith, inl, inr}
use Rattle.std.proofs.lemmas.Bool.{cases_eq, eq-eqb, ne_eqb}
use Rattle.std.proofs.lemmas.List.{length-drop, take_all}
use Rattle.wire_fields.specs.Reading.{IsOctets}
use Rattle.wire_fields.proofs.TextLemmas.{octets-drop}
use Rattle.gate_cases.specs.declared.face.Face.{Face}
use Rattle.gate_cases.specs.Blocks.{found_at}
use Rattle.bundle_rows.specs.declared.next.Next.{Next}
use Rattle.bundle_rows.specs.declared.next.Next.TheVariants as nexts
use Rattle.bundle_rows.specs.declared.next.End.{End}
use Rattle.bundle_rows.specs.Rows.{Front, bundle, wrong, front_of, next_from, next_of, Extent, octets_in, Row, with_bundle, row_with, row_from, row_of}
use Rattle.bundle_rows.specs.Standing.{IsBundle, IsRefused, Stands}
use Rattle.bundle_rows.specs.Laws.{RowIsSpelled, AreAlone, EachAlone, FindsOne, ReadsAsOne}
use Rattle.bundle_rows.proofs.FrontLemmas.{FrontIs, front-is, bundle-front, refused-front, bundle-alone, bundle-first, refused-found}

-- ---- what stands next

pub next-none : (face : Face) (block : List ℕ) (at : ℕ) → at ≡ length block → next_of face block at ≡ nexts.Nothing
unfolding next_of
next-none face block at is = rw (eq-eqb at (length block) is) refl

pub next-some : (face : Face) (block : List ℕ) (at : ℕ) → at < length block → next_of face block at ≡ next_from at (front_of face (drop at block))
unfolding next_of
next-some face block at left = rw (ne_eqb at (length block) (λ is. absurd (omega (arith, is)))) refl

-- ---- a row stands in its block

abbrev StandsSo : Face → List ℕ → ℕ → Row → Type 0
StandsSo face block at row = Stands face block at row.bundles row.end

stands-from : (fuel : ℕ) (face : Face) (block : List ℕ) (at : ℕ) → IsOctets block → at ≤ length block → length block ≤ at + fuel
    → StandsSo face block at (row_from fuel face block at)
unfolding row_from
stands-from zero face block at fits within all = omega arith
stands-from (suc fuel) face block at fits within all =
    elim (cases_eq at (length block)) [
      | inl is ↦ subst (λ (next : Next). StandsSo face block at (row_with at next (row_from fuel face block))) (sym (next-none face block at is)) is
      | inr differs ↦
          let left : at < length block = omega arith in
          subst (λ (next : Next). StandsSo face block at (row_with at next (row_from fuel face block))) (sym (next-some face block at left))
          (by left (λ to later there. stands-from fuel face block to fits there (omega arith)) (front_of face (drop at block))
          (front-is face (drop at block) (octets-drop at block fits)))
    ]
  where
    by : at < length block → ((to : ℕ) → at < to → to ≤ length block → StandsSo face block to (row_from fuel face block to))
        → (front : Front) → FrontIs face (drop at block) front
        → StandsSo face block at (row_with at (next_from at front) (row_from fuel face block))
    by left after (bundle n) (some, there, is) =
        let size : (at + n) - at ≡ n = omega arith in
        let end : at + n ≤ length block = omega (arith, length-drop at block) in (
          refl,
          omega arith,
          end,
          subst (λ (k : ℕ). IsBundle face (take k (drop at block))) (sym size) is,
          after (at + n) (omega arith) end,
        )
    by left after (wrong place cause) (there, is) =
        let size : (at + place) - at ≡ place = omega arith in
        (left, omega arith, subst (λ (k : ℕ). IsRefused face (drop at block) k cause) (sym size) is)

-- ---- and no other does

abbrev row_so : List Extent → Option End → Row
row_so bundles end = record { bundles = bundles; end = end }

stands-only : (bundles : List Extent) (fuel : ℕ) (face : Face) (block : List ℕ) (at : ℕ) (end : Option End) → IsOctets block → at ≤ length block
    → length block ≤ at + fuel → Stands face block at bundles end → row_from fuel face block at ≡ row_so bundles end
unfolding row_from
stands-only [] zero face block at None fits within all is = refl
stands-only [] (suc fuel) face block at None fits within all is =
    ap (λ (next : Next). row_with at next (row_from fuel face block)) (next-none face block at is)
stands-only [] zero face block at (Some end) fits within all (left, before, is) = absurd (omega arith)
stands-only [] (suc fuel) face block at (Some end) fits within all (left, before, is) =
    let place : at + (end.at - at) ≡ end.at = omega arith in
    ap (λ (next : Next). row_with at next (row_from fuel face block))
    (next-some face block at left ∙ (ap (next_from at) (refused-front face (drop at block) (end.at - at) end.cause (octets-drop at block fits) is)
    ∙ ap (λ (p : ℕ). nexts.End p end.cause) place))
stands-only (extent ∷ more) zero face block at end fits within all (from, some, there, is, rest) = absurd (omega arith)
stands-only (extent ∷ more) (suc fuel) face block at end fits within all (from, some, there, is, rest) =
    let left : at < length block = omega arith in
    let place : at + (extent.to - at) ≡ extent.to = omega arith in
    let front = bundle-front face (drop at block) (extent.to - at) (omega (arith, length-drop at block))
    (subst (λ (k : ℕ). IsBundle face (take (extent.to - k) (drop k block))) from is) in
    let next : next_of face block at ≡ nexts.Bundle extent.to =
    next-some face block at left ∙ (ap (next_from at) front ∙ ap nexts.Bundle place) in
    ap (λ (n : Next). row_with at n (row_from fuel face block)) next
    ∙ (ap (with_bundle (record { from = at; to = extent.to })) (stands-only more fuel face block extent.to end fits there (omega arith) rest)
    ∙ ap (λ (k : ℕ). row_so (record { from = k; to = extent.to } ∷ more) end) (sym from))

pub row_is_spelled : RowIsSpelled
row_is_spelled face block fits = record {
  stands = stands-from (length block) face block 0 fits (omega arith) (omega arith);
  only = λ bundles end is. stands-only bundles (length block) face block 0 end fits (omega arith) (omega arith) is;
}

-- ---- bundles alone

alone : (bundles : List Extent) (face : Face) (block : List ℕ) (at : ℕ) (end : Option End) → Stands face block at bundles end → AreAlone face block bundles
alone [] face block at end is = tt
alone (extent ∷ more) face block at end (from, some, there, is, rest) =
    (bundle-alone face (octets_in block extent) is, alone more face block extent.to end rest)

pub each_alone : EachAlone
each_alone face block fits =
    alone (row_of face block).bundles face block 0 (row_of face block).end (row_is_spelled face block fits).stands

-- ---- a block of one bundle at most

-- the first bundle stands in front
first : (face : Face) (block : List ℕ) (extent : Extent) → extent.from ≡ 0 → IsBundle face (octets_in block extent) → IsBundle face (take extent.to block)
first face block extent from is =
    let size : extent.to - 0 ≡ extent.to = omega arith in
    rw size at (subst (λ (k : ℕ). IsBundle face (take (extent.to - k) (drop k block))) from is)

finds-one : (bundles : List Extent) (face : Face) (block : List ℕ) (end : Option End) → IsOctets block → 0 < length block
    → Stands face block 0 bundles end → FindsOne (found_at face block) bundles end
finds-one [] face block None fits some is = absurd (omega arith)
finds-one [] face block (Some end) fits some (left, before, is) =
    let place : end.at - 0 ≡ end.at = omega arith in
    refused-found face block end.at end.cause fits (rw place at is)
finds-one (extent ∷ []) face block None fits some (from, there, within, is, all) =
    bundle-alone face block (subst (λ (w : List ℕ). IsBundle face w) (take_all extent.to block (omega arith)) (first face block extent from is))
finds-one (extent ∷ []) face block (Some end) fits some (from, there, within, is, (left, before, refused)) =
    bundle-first face block extent.to left (first face block extent from is)
finds-one (extent ∷ (other ∷ more)) face block end fits some (from, there, within, is, (next, after, last, second, rest)) =
    bundle-first face block extent.to (omega arith) (first face block extent from is)

pub reads_as_one : ReadsAsOne
reads_as_one face block fits some =
    finds-one (row_of face block).bundles face block (row_of face block).end fits some (row_is_spelled face block fits).stands
