-- What a wrap says, once it is relabelled.

use Rattle.std.proofs.Common.{◌≡◌, ℕ, ◌+◌, ◌-◌, ◌*◌, ◌/◌, ◌%◌, ◌^◌, ◌<◌, ◌≤◌, ◌==◌, Bool, true, false, List, [], ◌∷◌, ◌++◌, length, take, get_or, Result, Ok, refl, sym, ap, subst, ◌∙◌, arith, inl, inr}
use Rattle.std.proofs.lemmas.Bool.{cases_lt, and_parts, eq-eqb, lt-ltb}
use Rattle.std.proofs.lemmas.List.{get_or-take}
use Rattle.std.proofs.lemmas.Slice.Eq.{bytes_eq-Decides}
use Rattle.sdnv.specs.declared.fault.SdnvFault.{SdnvFault}
use Rattle.sdnv.specs.Spelling.{sum_of}
use Rattle.sdnv.specs.Shortest.{leading, spelling}
use Rattle.sdnv.specs.Reading.{judged, read_of}
use Rattle.sdnv.proofs.ReadingLemmas.{read_of-ended, high_count-more, high_count-end}
use Rattle.sdnv.proofs.ShortestLemmas.{spelling-again}
use Rattle.endpoint.specs.Endpoints.{begins}
use Rattle.bundle6.specs.declared.block.Block6.{Block6}
use Rattle.bundle_meaning.specs.declared.blocks.Block7Like.{Block7Like}
use Rattle.bundle_meaning.specs.Blocks.{mark, wrap_kind}
use Rattle.bundle_meaning.specs.Wrap.{wrap_old_octets}
use Rattle.block_types.specs.declared.types.BlockTypes.{BlockTypes}
use Rattle.block_types.specs.Types.{swapped}
use Rattle.block_types.specs.Relabelled.{says_private_type, said_type, retyped_body, is_retyped, retyped6}
use Rattle.block_types.specs.Laws.{WrapsSayWireTypes}
use Rattle.block_types.proofs.TypeLemmas.{swapped-private, swapped-below, swapped-above}
use Rattle.block_types.proofs.RetypeLemmas6.{front, says-parts, says-so, retyped6-none, retyped6-some}

-- ---- a private type has two octets

spelling-private : (kind : ℕ) → 192 ≤ kind → kind < 256 → spelling kind ≡ 0x81 ∷ (kind - 0x80) ∷ []
unfolding spelling leading
spelling-private kind low high =
    let group : kind / 128 ≡ 1 = omega arith in
    let last : kind % 128 ≡ kind - 0x80 = omega arith in
    rw (group, last) refl

-- and what begins as one says one
starts-private : (text : List ℕ) → get_or text 0 0 ≡ 0x81 → 0x40 ≤ get_or text 1 0 → get_or text 1 0 < 0x80
    → read_of text ≡ judged (0x80 + get_or text 1 0) 2
unfolding sum_of
starts-private [] first low high = absurd (omega (arith, first))
starts-private (x ∷ []) first low high = absurd (omega (arith, low))
starts-private (x ∷ y ∷ text) first low high =
    let some = high_count-more (x ∷ y ∷ text) 0 (omega arith) (omega arith) (omega (arith, first)) in
    let one = high_count-end (x ∷ y ∷ text) 1 (omega (arith, some)) high in
    let there : 1 < length (x ∷ y ∷ text) = omega arith in
    let sum : (x % 128) * 128 ^ 1 + ((y % 128) * 128 ^ 0 + 0) ≡ 0x80 + y = rw first (omega (arith, high)) in
    read_of-ended (x ∷ y ∷ text) 1 one (omega arith) there ∙ ap (λ (n : ℕ). judged n 2) sum

says-private : (kind : ℕ) (rest : List ℕ) → kind < 2 ^ 64 → get_or (spelling kind ++ rest) 0 0 ≡ 0x81
    → 0x40 ≤ get_or (spelling kind ++ rest) 1 0 → get_or (spelling kind ++ rest) 1 0 < 0x80 → (192 ≤ kind) × (kind < 256)
says-private kind rest small first low high =
    let octet = get_or (spelling kind ++ rest) 1 0 in
    let read : read_of (spelling kind ++ rest) ≡ Ok (0x80 + octet, 2) =
    starts-private (spelling kind ++ rest) first low high ∙ rw (lt-ltb (0x80 + octet) (2 ^ 64) (omega (arith, high))) refl in
    let again = spelling-again kind small rest in
    let is : kind ≡ 0x80 + octet = ap value (sym again ∙ read) in
    (omega (arith, is, low), omega (arith, is, high))
  where
    value : Result (ℕ × ℕ) SdnvFault → ℕ
    value (Ok x) = x.0
    value _ = 0

-- ---- the wrap

-- the octets after the type
abbrev rest_of : Block7Like → List ℕ
rest_of held = spelling held.number ++ (spelling held.flags ++ (spelling held.crc ++ held.body))

front-fifth : (body : List ℕ) → begins front body ≡ true → get_or body 4 0 ≡ 0x81
front-fifth body is =
    let same : take 5 body ≡ front = (bytes_eq-Decides (take 5 body) front).0 is in
    sym (get_or-take 5 body 4 0 (omega arith)) ∙ ap (λ (octets : List ℕ). get_or octets 4 0) same

-- a wrap of another type says none
other-kept : (types : BlockTypes) (wrap : Block6) (held : Block7Like) → held.kind < 2 ^ 64 → wrap.body ≡ wrap_old_octets held
    → ((192 ≤ held.kind) × (held.kind < 256) → ⊥) → retyped6 types wrap ≡ wrap
unfolding wrap_old_octets
other-kept types wrap held small body none = by (is_retyped wrap) refl
  where
    by : (t : Bool) → is_retyped wrap ≡ t → retyped6 types wrap ≡ wrap
    by false is = retyped6-none types wrap is
    by true is =
        let says = says-parts wrap.body (and_parts (wrap.kind == wrap_kind) (says_private_type wrap.body) is).1 in
        let first = front-fifth wrap.body says.begins in
        absurd (none (says-private held.kind (rest_of held) small
        (subst (λ (octets : List ℕ). get_or octets 4 0 ≡ 0x81) body first)
        (subst (λ (octets : List ℕ). 0x40 ≤ get_or octets 5 0) body says.low)
        (subst (λ (octets : List ℕ). get_or octets 5 0 < 0x80) body says.high)))

-- one of a private type says the other
private-said : (types : BlockTypes) (wrap : Block6) (held : Block7Like) → wrap.kind ≡ wrap_kind → wrap.body ≡ wrap_old_octets held
    → 192 ≤ held.kind → held.kind < 256
    → (retyped6 types wrap).body ≡ wrap_old_octets (record held { kind = swapped types held.kind })
unfolding wrap_old_octets
private-said types wrap held is body low high =
    let octets : wrap.body ≡ mark ++ (0x81 ∷ (held.kind - 0x80) ∷ rest_of held) =
    body ∙ ap (λ (s : List ℕ). mark ++ (s ++ rest_of held)) (spelling-private held.kind low high) in
    let private = swapped-private types held.kind low high in
    let said : said_type (held.kind - 0x80) ≡ held.kind = omega arith in
    let says : says_private_type (mark ++ (0x81 ∷ (held.kind - 0x80) ∷ rest_of held)) ≡ true =
    says-so (mark ++ (0x81 ∷ (held.kind - 0x80) ∷ rest_of held)) refl (omega arith) (omega arith) in
    let some : is_retyped wrap ≡ true = rw (eq-eqb wrap.kind wrap_kind is, octets) says in
    ap (λ (b : Block6). b.body) (retyped6-some types wrap some)
    ∙ (ap (retyped_body types) octets
    ∙ (ap (λ (k : ℕ). mark ++ (0x81 ∷ (swapped types k - 0x80) ∷ rest_of held)) said
    ∙ sym (ap (λ (s : List ℕ). mark ++ (s ++ rest_of held)) (spelling-private (swapped types held.kind) private.0 private.1))))

pub wraps_say_wire_types : WrapsSayWireTypes
wraps_say_wire_types types wrap held is small body =
    elim (cases_lt held.kind 192) [
      | inl low ↦ stays (swapped-below types held.kind low) (λ private. omega (arith, private, low))
      | inr above ↦ elim (cases_lt held.kind 256) [
        | inl high ↦ private-said types wrap held is body above high
        | inr far ↦ stays (swapped-above types held.kind far) (λ private. omega (arith, private, far))
      ]
    ]
  where
    stays : swapped types held.kind ≡ held.kind → ((192 ≤ held.kind) × (held.kind < 256) → ⊥)
        → (retyped6 types wrap).body ≡ wrap_old_octets (record held { kind = swapped types held.kind })
    stays same none =
        ap (λ (b : Block6). b.body) (other-kept types wrap held small body none)
        ∙ (body ∙ sym (ap (λ (k : ℕ). wrap_old_octets (record held { kind = k })) same))
