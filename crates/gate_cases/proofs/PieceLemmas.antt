-- The pieces of a record: how many there are, that they are sound, and that they have too many blocks if and
-- only if the record has.
use Rattle.std.proofs.Common.{◌≡◌, ℕ, zero, suc, ◌+◌, ◌-◌, ◌/◌, ◌<◌, ◌==◌, Bool, true, false, not, ◌&&◌, ◌||◌, if◌then◌else◌, [], ◌∷◌, length, All, refl, arith}
use Rattle.std.specs.List.{list_all}
use Rattle.std.proofs.lemmas.Bool.{ltb-true}
use Rattle.bundle_meaning.specs.declared.shared.Content.{Content}
use Rattle.bundle_meaning.specs.declared.shared.Content.TheVariants.{Bytes, Report}
use Rattle.bundle_meaning.specs.declared.full.Full.{Full}
use Rattle.bundle_meaning.specs.Defaults.{default6_of, default7_of}
use Rattle.bundle_meaning.specs.Expiry.{slack_of}
use Rattle.bundle_meaning.specs.Reports.{no_time_of}
use Rattle.bundle_meaning.specs.Valid.{IsValid}
use Rattle.translate.specs.Sound.{HasBody, IsSound}
use Rattle.translate.specs.View6.{is_same7, needs_residue6}
use Rattle.endpoint.specs.Endpoints.{is_null}
use Rattle.translate.specs.View7.{is_default6, has_no_rest, needs_residue7}
use Rattle.fragments.specs.Cutting.{octets_of, is_longer, must_not, exts_in, after_in, how_many, piece, pieces_from, pieces}
use Rattle.fragments.proofs.PieceLemmas.{all-in, few-in, last-in, need6, default, need7, room, all-pieces}
use Rattle.gate_cases.specs.declared.face.Face.{Face}
use Rattle.gate_cases.specs.declared.face.Face.TheVariants.{Old, New}
use Rattle.gate_cases.specs.Faces.{fits_at}
use Rattle.gate_cases.specs.Passage.{pieces_on}

-- ---- how many there are

pub length-from : (full : Full) (size i n : ℕ) → length (pieces_from full size i n) ≡ n
unfolding pieces_from
length-from full size i zero = refl
length-from full size i (suc n) = omega (arith, length-from full size (i + 1) n)

-- a record stays whole
pub one-piece : (full : Full) (size : ℕ) → (not (is_longer full size) || must_not full.shared) ≡ true → length (pieces_on full size) ≡ 1
one-piece full size whole = by (is_longer full size) (must_not full.shared) whole
  where
    by : (t m : Bool) → (not t || m) ≡ true → length (if t && m then full ∷ []
        else if t then pieces_from full size 0 (how_many size (octets_of full.shared.content)) else full ∷ []) ≡ 1
    by true true whole = refl
    by true false whole = absurd (cc)
    by false m whole = refl

-- and is cut
pub many-pieces : (full : Full) (size : ℕ) → (not (is_longer full size) || must_not full.shared) ≡ false
    → length (pieces_on full size) ≡ (length (octets_of full.shared.content) - 1) / size + 1
many-pieces full size whole = by (is_longer full size) (must_not full.shared) whole
  where
    by : (t m : Bool) → (not t || m) ≡ false → length (if t && m then full ∷ []
        else if t then pieces_from full size 0 (how_many size (octets_of full.shared.content)) else full ∷ [])
        ≡ (length (octets_of full.shared.content) - 1) / size + 1
    by true true whole = absurd (cc)
    by true false whole = length-from full size 0 (how_many size (octets_of full.shared.content))
    by false m whole = absurd (cc)

-- ---- they are sound

pub sound-pieces : (full : Full) (size : ℕ) → IsSound full → All IsValid (pieces full size) → All IsSound (pieces full size)
sound-pieces full size sound =
    all-pieces IsSound full size sound (λ j valid. record { valid = valid; bodies = all-in HasBody j full.exts sound.bodies })

-- ---- whether there is room for the blocks

-- a payload that is cut is no report
no-time : (content : Content) → 0 < length (octets_of content) → no_time_of content ≡ 0
no-time (Bytes octets) some = refl
no-time (Report report) some = absurd (omega (arith, some))

no-rest : (content : Content) → 0 < length (octets_of content) → has_no_rest content ≡ true
no-rest (Bytes octets) some = refl
no-rest (Report report) some = absurd (omega (arith, some))

-- the first piece has all that the record has
fits-first : (to : Face) (full : Full) (size : ℕ) → 0 < length (octets_of full.shared.content) → fits_at to (piece full size 0) ≡ fits_at to full
fits-first Old full size some = rw (no-time full.shared.content some) refl
fits-first New full size some = rw (no-rest full.shared.content some) refl

-- and a later one less
fits-later : (to : Face) (full : Full) (size i : ℕ) → fits_at to full ≡ true → fits_at to (piece full size i) ≡ true
fits-later Old full size i fits =
    room (needs_residue6 (piece full size i)) (needs_residue6 full) (length (exts_in i full.exts)) (length full.exts)
    (need6 (not (is_same7 full.extra7 default7_of)) (not (slack_of full.shared == 0)) (not (no_time_of full.shared.content == 0)))
    (few-in i full.exts) fits
fits-later New full size i fits =
    room (needs_residue7 (piece full size i)) (needs_residue7 full) (length (exts_in i full.exts)) (length full.exts)
    (need7 (is_default6 (piece full size i).shared (piece full size i).extra6) (is_default6 full.shared full.extra6)
    (not (has_no_rest full.shared.content))
    (default (full.extra6.flags == (default6_of full.shared).flags) (is_null full.extra6.custodian) (full.extra6.payload_flags == 0)
    (full.extra6.after == 0) (after_in i full.extra6.after full.exts == 0) (last-in i full.extra6.after full.exts)))
    (few-in i full.exts) fits

all-later : (to : Face) (full : Full) (size i n : ℕ) → fits_at to full ≡ true → list_all (fits_at to) (pieces_from full size i n) ≡ true
unfolding pieces_from
all-later to full size i zero fits = refl
all-later to full size i (suc n) fits = rw (fits-later to full size i fits, all-later to full size (i + 1) n fits) refl

fits-from : (to : Face) (full : Full) (size n : ℕ) → 0 < n → 0 < length (octets_of full.shared.content)
    → list_all (fits_at to) (pieces_from full size 0 n) ≡ fits_at to full
unfolding pieces_from
fits-from to full size zero more some = absurd (omega (arith, more))
fits-from to full size (suc n) more some = by (fits_at to full) refl
  where
    by : (t : Bool) → fits_at to full ≡ t → (fits_at to (piece full size 0) && list_all (fits_at to) (pieces_from full size (0 + 1) n)) ≡ t
    by true is = rw (fits-first to full size some, is, all-later to full size (0 + 1) n is) refl
    by false is = rw (fits-first to full size some, is) refl

and-true : (b : Bool) → (b && true) ≡ b
and-true true = refl
and-true false = refl

pub fits-pieces : (to : Face) (full : Full) (size : ℕ) → list_all (fits_at to) (pieces_on full size) ≡ fits_at to full
fits-pieces to full size = by (is_longer full size) (must_not full.shared) refl
  where
    count : ℕ
    count = how_many size (octets_of full.shared.content)

    by : (t m : Bool) → is_longer full size ≡ t
        → list_all (fits_at to) (if t && m then full ∷ [] else if t then pieces_from full size 0 count else full ∷ []) ≡ fits_at to full
    by true true is = and-true (fits_at to full)
    by true false is =
        fits-from to full size count (omega arith) (omega (arith, ltb-true size (length (octets_of full.shared.content)) is))
    by false m is = and-true (fits_at to full)
