-- A row is its bundles in turn.

use Rattle.std.proofs.Common.{◌≡◌, ℕ, ◌+◌, ◌-◌, ◌<◌, ◌≤◌, Bool, List, [], ◌∷◌, ◌++◌, map, length, take, drop, All, Option, Some, None, refl, sym, ap, subst, ◌∙◌, arith}
use Rattle.std.specs.List.{flat_map}
use Rattle.std.proofs.lemmas.List.{take_all, length-drop, length-take-le, take-append-drop}
use Rattle.std.proofs.lemmas.List.Elements.{All-nil, All-cons, All-head, All-tail}
use Rattle.wire_fields.specs.Reading.{IsOctets}
use Rattle.wire_fields.proofs.TextLemmas.{octets-drop}
use Rattle.wire_fields.proofs.StayLemmas.{octets-front}
use Rattle.gate_cases.specs.declared.face.Face.{Face}
use Rattle.bundle_rows.specs.declared.next.End.{End}
use Rattle.bundle_rows.specs.Rows.{Extent, Row, octets_in, row_of}
use Rattle.bundle_rows.specs.Standing.{IsBundle, Stands}
use Rattle.bundle_rows.proofs.RowLemmas.{row_is_spelled}
use Rattle.peer_cases.specs.Rows.{Item, a_bundle, is_several, items_from, items_in, items_of, bundles_in}
use Rattle.peer_cases.specs.Laws.{placeless, end_items, RowInTurn}

-- ---- a bundle alone

whole : (octets : List ℕ) → take (length octets - 0) (drop 0 octets) ≡ octets
whole octets = take_all (length octets - 0) octets (omega arith)

abbrev pub row_alone : List ℕ → Row
row_alone octets = record { bundles = record { from = 0; to = length octets } ∷ []; end = None }

row-alone : (face : Face) (octets : List ℕ) → IsOctets octets → 0 < length octets → IsBundle face octets
    → row_of face octets ≡ row_alone octets
row-alone face octets fits some is =
    (row_is_spelled face octets fits).only (record { from = 0; to = length octets } ∷ []) None
    (refl, some, omega arith, subst (λ (w : List ℕ). IsBundle face w) (sym (whole octets)) is, refl)

-- what is the whole block is one item
abbrev pub IsAlone : Face → List ℕ → Type 0
IsAlone face octets = items_of face octets ≡ a_bundle None octets ∷ []

pub items-alone : (face : Face) (octets : List ℕ) → IsOctets octets → 0 < length octets → IsBundle face octets → IsAlone face octets
unfolding items_of items_from
items-alone face octets fits some is =
    ap (items_in octets) (row-alone face octets fits some is)
    ∙ ap (λ (w : List ℕ). a_bundle None w ∷ []) (whole octets)

-- ---- each bundle of a row

octets-part : (at size : ℕ) (block : List ℕ) → IsOctets block → IsOctets (take size (drop at block))
octets-part at size block fits =
    octets-front (take size (drop at block)) (drop size (drop at block))
    (subst IsOctets (sym (take-append-drop size (drop at block))) (octets-drop at block fits))

alone-from : (bundles : List Extent) (face : Face) (block : List ℕ) (at : ℕ) (end : Option End) → IsOctets block
    → Stands face block at bundles end → All (IsAlone face) (map (octets_in block) bundles)
alone-from [] face block at end fits is = All-nil (IsAlone face)
alone-from (extent ∷ more) face block at end fits (from, some, there, is, rest) =
    let inside : extent.to - extent.from ≤ length (drop extent.from block) = omega (arith, from, some, there, length-drop extent.from block) in
    let size : length (octets_in block extent) ≡ extent.to - extent.from = length-take-le (extent.to - extent.from) (drop extent.from block) inside in
    All-cons (IsAlone face) (octets_in block extent) (map (octets_in block) more)
    (items-alone face (octets_in block extent) (octets-part extent.from (extent.to - extent.from) block fits) (omega (arith, size, from, some)) is)
    (alone-from more face block extent.to end fits rest)

-- ---- in turn

in-turn : (several : Bool) (index : ℕ) (face : Face) (bundles : List (List ℕ)) (end : Option End) → All (IsAlone face) bundles
    → map placeless (items_from several index bundles end) ≡ flat_map (items_of face) bundles ++ end_items end
unfolding items_from
in-turn several index face [] None alone = refl
in-turn several index face [] (Some end) alone = refl
in-turn several index face (octets ∷ more) end alone =
    ap (λ (items : List Item). a_bundle None octets ∷ items) (in-turn several (index + 1) face more end (All-tail (IsAlone face) octets more alone))
    ∙ ap (λ (first : List Item). (first ++ flat_map (items_of face) more) ++ end_items end) (sym (All-head (IsAlone face) octets more alone))

pub row_in_turn : RowInTurn
unfolding items_of
row_in_turn face block fits =
    let row = row_of face block in
    let alone = alone-from row.bundles face block 0 row.end fits (row_is_spelled face block fits).stands in
    record {
      alone = alone;
      turn = in-turn (is_several row) 1 face (bundles_in face block) row.end alone;
    }
