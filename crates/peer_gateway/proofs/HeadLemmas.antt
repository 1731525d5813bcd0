-- The heads of the datagrams of a block.

use Rattle.std.proofs.Common.{◌≡◌, ℕ, zero, suc, ◌+◌, ◌*◌, ◌/◌, ◌^◌, ◌<◌, ◌≤◌, Bool, true, false, List, [], ◌∷◌, ◌++◌, length, take, drop, refl, sym, ap, subst, ◌∙◌, arith, length-append, inl, inr}
use Rattle.std.specs.Int.{div_ceil}
use Rattle.std.specs.List.{AllByRecursion, sum_by}
use Rattle.std.proofs.Math.Nat.{add-mul, lt_of_mul-lt-mul_right}
use Rattle.std.proofs.Math.Seq.{take-length, drop-length}
use Rattle.std.proofs.lemmas.Bool.{cases_lt}
use Rattle.std.proofs.lemmas.Grind.{div_ceil_times}
use Rattle.std.proofs.lemmas.List.{append-nil, length-drop, length-take, take-append-drop, drop_all}
use Rattle.std.proofs.lemmas.List.Sums.{sum_by-cons}
use Rattle.sdnv.specs.Shortest.{spelling}
use Rattle.sdnv.proofs.ShortestLemmas.{fewer_groups, length-leading, length-leading-least, length-spelling}
use Rattle.ltp_segment.specs.declared.segment.PieceKind.{PieceKind}
use Rattle.ltp_segment.specs.declared.segment.PieceKind.TheVariants as kinds
use Rattle.ltp_segment.specs.Kinds.{is_checkpoint}
use Rattle.ltp_segment.specs.Policy.{PolicyValue}
use Rattle.ltp_segment.specs.Spelling.{serial_octets, piece_octets, segment_octets}
use Rattle.ltp_segment.specs.Values.{PieceValue, ContentValue, SegmentValue, a_piece}
use Rattle.ltp_session.specs.declared.name.SessionName.{SessionName}
use Rattle.ltp_session.specs.Views.{headed, headed_all}
use Rattle.ltp_session.specs.Timer.{first_serial}
use Rattle.ltp_session.specs.Sender.{segments_from, segments_of, piece_at, checkpoint_kind, checkpoint_at, red_pieces, green_pieces, begin}
use Rattle.face_room.specs.declared.bounds.TheConstants.{BLOCK_MAX}
use Rattle.face_room.specs.Bounds.{need}
use Rattle.peer_gateway.specs.Gate.{octets_out}
use Rattle.peer_gateway.specs.Laws.{IsSmallHeaded, HasSmallHeads, HeadsAreSmall}

-- ---- numbers

spelled-ten : (number : ℕ) → length (spelling number) ≤ 10
spelled-ten number = omega (arith, length-spelling number, length-leading 9 (number / 128))

spelled-few : (number room : ℕ) → number < 128 ^ suc room → length (spelling number) ≤ room + 1
spelled-few number room below =
    omega (arith, length-spelling number, length-leading-least 9 room (number / 128) (fewer_groups room number below))

serials-few : (asks : Bool) (serial : ℕ) → serial < 128 ^ 2 → length (serial_octets asks serial 0) ≤ 3
serials-few true serial below =
    omega (arith, length-append (spelling serial) (spelling 0), spelled-few serial 1 below, spelled-few 0 0 (omega arith))
serials-few false serial below = omega arith

-- ---- a datagram

-- a part of a block
pub record IsPart (part : ℕ × List ℕ) : Type 0 where
  pub from : part.0 ≤ BLOCK_MAX
  pub size : length part.1 ≤ BLOCK_MAX

abbrev pub octets_at : SessionName → PieceValue → List ℕ
octets_at name piece = segment_octets (headed name (a_piece piece))

piece-few : (name : SessionName) (kind : PieceKind) (serial : ℕ) (part : ℕ × List ℕ) → name.number < 128 ^ 5 → serial < 128 ^ 2
    → IsPart part → length (octets_at name (piece_at kind serial 0 part)) ≤ length part.1 + 34
unfolding segment_octets piece_octets
piece-few name kind serial part number small is =
    let serials = serial_octets (is_checkpoint kind) serial 0 in
    let size = spelling (length part.1) in
    let place = spelling part.0 in
    omega (
      arith,
      length-append (spelling name.originator) (spelling name.number ++ 0 ∷ []),
      length-append (spelling name.number) (0 ∷ []),
      length-append (spelling name.originator ++ (spelling name.number ++ 0 ∷ []))
          (spelling 1 ++ (place ++ (size ++ (serials ++ part.1)))),
      length-append (spelling 1) (place ++ (size ++ (serials ++ part.1))),
      length-append place (size ++ (serials ++ part.1)),
      length-append size (serials ++ part.1),
      length-append serials part.1,
      spelled-ten name.originator,
      spelled-few name.number 4 number,
      spelled-few 1 0 (omega arith),
      spelled-few part.0 3 (omega (arith, is.from)),
      spelled-few (length part.1) 3 (omega (arith, is.size)),
      serials-few (is_checkpoint kind) serial small,
    )

-- ---- a block in parts

part-from : (z n at : ℕ) (octets : List ℕ) → (0 < length octets → at + length octets ≤ BLOCK_MAX)
    → AllByRecursion IsPart (segments_from z n at octets)
unfolding segments_from
part-from z zero at octets within = tt
part-from z (suc n) at [] within = tt
part-from z (suc n) at (octet ∷ octets) within = (
  record {
    from = omega (arith, within (omega arith));
    size = omega (arith, length-take z (octet ∷ octets), within (omega arith));
  },
  part-from z n (at + z) (drop z (octet ∷ octets))
      (λ some. omega (arith, length-drop z (octet ∷ octets), within (omega arith), some)),
)

abbrev pub data_in : List (ℕ × List ℕ) → ℕ
data_in parts = sum_by (λ (part : ℕ × List ℕ). length part.1) parts

data-few : (z n at : ℕ) (octets : List ℕ) → data_in (segments_from z n at octets) ≤ length octets
unfolding segments_from
data-few z zero at octets = omega arith
data-few z (suc n) at [] = omega arith
data-few z (suc n) at (octet ∷ octets) =
    let all = octet ∷ octets in
    let both : length (take z all ++ drop z all) ≡ length all = ap length (take-append-drop z all) in
    omega (
      arith,
      sum_by-cons (λ (part : ℕ × List ℕ). length part.1) (at, take z all) (segments_from z n (at + z) (drop z all)),
      data-few z n (at + z) (drop z all),
      length-append (take z all) (drop z all),
      both,
    )

none-from : (z n at : ℕ) → segments_from z n at [] ≡ []
unfolding segments_from
none-from z zero at = refl
none-from z (suc n) at = refl

parts-few : (z n at : ℕ) (octets : List ℕ) → 0 < z → length (segments_from z n at octets) * z < length octets + z
unfolding segments_from
parts-few z zero at octets some = omega (arith, some)
parts-few z (suc n) at [] some = omega (arith, some)
parts-few z (suc n) at (octet ∷ octets) some =
    let all = octet ∷ octets in
    let rest = segments_from z n (at + z) (drop z all) in
    let next : suc (length rest) ≡ length rest + 1 = omega arith in
    let same : 1 * z ≡ z = omega arith in
    let one : suc (length rest) * z ≡ length rest * z + 1 * z = ap (λ (c : ℕ). c * z) next ∙ add-mul (length rest) 1 z in
    elim (cases_lt (length octets + 1) z) [
      | inl short ↦
          let none : drop z all ≡ [] = drop_all z all (omega (arith, short)) in
          let count : length rest ≡ 0 = ap (λ (w : List ℕ). length (segments_from z n (at + z) w)) none ∙ ap length (none-from z n (at + z)) in
          let nothing : 0 * z ≡ 0 = omega arith in
          let product : length rest * z ≡ 0 = ap (λ (c : ℕ). c * z) count ∙ nothing in
          omega (arith, one, same, product)
      | inr long ↦ omega (arith, one, same, parts-few z n (at + z) (drop z all) some, length-drop z all, long)
    ]

parts-most : (z : ℕ) (octets : List ℕ) → 0 < z → length (segments_of z 0 octets) ≤ div_ceil (length octets) z
parts-most z octets some =
    let count = length (segments_of z 0 octets) in
    let ceil = div_ceil (length octets) z in
    let one : 1 * z ≡ z = omega arith in
    let less : count * z < (ceil + 1) * z =
    omega (arith, parts-few z (length octets) 0 octets some, (div_ceil_times (length octets) z some).0, add-mul ceil 1 z, one) in
    omega (arith, lt_of_mul-lt-mul_right z less)

-- ---- all datagrams

pub record AreFew (out : List SegmentValue) (parts : List (ℕ × List ℕ)) : Type 0 where
  pub each : AllByRecursion IsSmallHeaded out
  pub all : octets_out out ≤ data_in parts + 34 * length parts

red-few : (name : SessionName) (size red serial : ℕ) (parts : List (ℕ × List ℕ)) → name.number < 128 ^ 5 → serial < 128 ^ 2
    → AllByRecursion IsPart parts → AreFew (headed_all name (red_pieces (checkpoint_at size red serial 0) parts)) parts
unfolding red_pieces
red-few name size red serial [] number small are = record { each = tt; all = omega arith }
red-few name size red serial (part ∷ []) number small are =
    let kind = checkpoint_kind size red (part.0 + length part.1) in
    let few = piece-few name kind serial part number small are.0 in record {
      each = (few, tt);
      all = omega (
        arith,
        few,
        sum_by-cons (λ (segment : SegmentValue). length (segment_octets segment)) (headed name (a_piece (piece_at kind serial 0 part))) [],
        sum_by-cons (λ (part : ℕ × List ℕ). length part.1) part [],
      );
    }
red-few name size red serial (part ∷ next ∷ parts) number small are =
    let few = piece-few name kinds.Red 0 part number (omega arith) are.0 in
    let rest = red-few name size red serial (next ∷ parts) number small are.1 in record {
      each = (few, rest.each);
      all = omega (
        arith,
        few,
        rest.all,
        sum_by-cons (λ (segment : SegmentValue). length (segment_octets segment)) (headed name (a_piece (piece_at kinds.Red 0 0 part)))
            (headed_all name (red_pieces (checkpoint_at size red serial 0) (next ∷ parts))),
        sum_by-cons (λ (part : ℕ × List ℕ). length part.1) part (next ∷ parts),
      );
    }

-- the whole block is red
begin-red : (policy : PolicyValue) (session : ℕ) (block : List ℕ) (now : ℕ)
    → (begin policy session block (length block) now).out
    ≡ red_pieces (checkpoint_at (length block) (length block) (first_serial session) 0) (segments_of policy.segment 0 block)
unfolding begin green_pieces segments_from
begin-red policy session block now =
    rw (take-length block, drop-length block) (append-nil _)

pub heads_are_small : HeadsAreSmall
heads_are_small k e block now keys number small =
    let name : SessionName = record { originator = (k.party).own; number = e.next } in
    let z = ((k.party).policy).segment in
    let some : 0 < z = omega (arith, keys.some, keys.segment) in
    let parts = segments_of z 0 block in
    let few = red-few name (length block) (length block) (first_serial e.next) parts (omega (arith, number)) (omega arith)
    (part-from z (length block) 0 block (λ any. omega (arith, small))) in
    let octets = data-few z (length block) 0 block in
    let count = parts-most z block some in
    let same : div_ceil (length block) z ≡ div_ceil (length block) (k.bounds).segment = ap (div_ceil (length block)) keys.segment in
    let needs : need (k.bounds).segment (length block) ≡ 2 * length block + 34 * div_ceil (length block) (k.bounds).segment = refl in
    subst (λ (contents : List ContentValue). HasSmallHeads k block (headed_all name contents))
    (sym (begin-red (k.party).policy e.next block now))
    (record { each = few.each; all = omega (arith, few.all, octets, count, same, needs) })
