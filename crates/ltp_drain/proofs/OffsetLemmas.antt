-- The pieces of a block that begins have as many offsets as it has segments, and their number
-- only
-- grows.

use Rattle.std.proofs.Common.{◌≡◌, ℕ, zero, suc, ◌+◌, ◌<◌, ◌≤◌, Bool, true, false, List, [], ◌∷◌}
use Rattle.std.proofs.Common.{◌++◌, length, map, drop, take, refl, sym, ◌∙◌, ap, arith, subst}
use Rattle.std.proofs.Common.{⊎_elim, if◌then◌else◌}
use Rattle.std.proofs.lemmas.Bool.{cases_lt, ne_eqb}
use Rattle.std.proofs.lemmas.List.{length-drop, length-take}
use Rattle.std.specs.List.{AllByRecursion}
use Rattle.ltp_segment.specs.Policy.{PolicyValue}
use Rattle.ltp_segment.specs.Values.{ContentValue, PieceValue, a_piece, a_receiver_cancel}
use Rattle.ltp_segment.specs.Values.{a_receiver_cancel_ack, a_report, a_report_ack}
use Rattle.ltp_segment.specs.Values.{a_sender_cancel, a_sender_cancel_ack}
use Rattle.ltp_session.specs.Sender.{begin, checkpoint_at, green_pieces, red_pieces}
use Rattle.ltp_session.specs.Sender.{segments_from, segments_of}
use Rattle.ltp_session.specs.Timer.{first_serial}
use Rattle.ltp_drain.specs.Hopeful.{different, is_seen, offsets_of}
use Rattle.ltp_drain.specs.Standing.{begun_rank}

-- ---- numbers that differ

pub different-more : (seen xs ys : List ℕ) → different seen xs ≤ different seen (xs ++ ys)
unfolding different
different-more seen [] ys = omega arith
different-more seen (x ∷ xs) ys = by_test (is_seen x seen) (different-more seen xs ys)
    (different-more (x ∷ seen) xs ys)
  where
    by_test : (b : Bool) → different seen xs ≤ different seen (xs ++ ys)
        → different (x ∷ seen) xs ≤ different (x ∷ seen) (xs ++ ys)
        → (if b then different seen xs else 1 + different (x ∷ seen) xs) ≤
        (if b then different seen (xs ++ ys) else 1 + different (x ∷ seen) (xs ++ ys))
    by_test true same new = same
    by_test false same new = omega (arith, new)

-- numbers that rise, from one on and below another
abbrev RisesTo : ℕ → ℕ → List ℕ → Type 0
RisesTo low high [] = low ≤ high
RisesTo low high (x ∷ xs) = (low ≤ x) × RisesTo (x + 1) high xs

rises-lower : (low lower high : ℕ) (xs : List ℕ) → lower ≤ low → RisesTo low high xs
    → RisesTo lower high xs
rises-lower low lower high [] less is = omega (arith, less, is)
rises-lower low lower high (x ∷ xs) less is = (omega (arith, less, is.0), is.1)

rises-on : (low mid high : ℕ) (xs ys : List ℕ) → RisesTo low mid xs → RisesTo mid high ys
    → RisesTo low high (xs ++ ys)
rises-on low mid high [] ys first later = rises-lower mid low high ys first later
rises-on low mid high (x ∷ xs) ys first later =
    (first.0, rises-on (x + 1) mid high xs ys first.1 later)

unseen : (x : ℕ) (seen : List ℕ) → AllByRecursion (λ y. y < x) seen → is_seen x seen ≡ false
unseen x [] all = refl
unseen x (y ∷ seen) all = rw (
  ne_eqb y x (λ h. absurd (omega (arith, h, all.0))),
  unseen x seen all.1,
) refl

all-below : (low high : ℕ) (seen : List ℕ) → low ≤ high → AllByRecursion (λ y. y < low) seen
    → AllByRecursion (λ y. y < high) seen
all-below low high [] less all = tt
all-below low high (y ∷ seen) less all = (
  omega (arith, less, all.0),
  all-below low high seen less all.1,
)

rising-differ : (low high : ℕ) (xs seen : List ℕ) → RisesTo low high xs
    → AllByRecursion (λ y. y < low) seen → different seen xs ≡ length xs
unfolding different
rising-differ low high [] seen is all = refl
rising-differ low high (x ∷ xs) seen is all =
    let fresh : is_seen x seen ≡ false = unseen x seen (all-below low x seen is.0 all) in
    let rest : different (x ∷ seen) xs ≡ length xs =
    rising-differ (x + 1) high xs (x ∷ seen) is.1
    (omega arith, all-below low (x + 1) seen (omega (arith, is.0)) all) in
    rw fresh (omega (arith, rest))

-- ---- offsets

pub offsets-append : (xs ys : List ContentValue)
    → offsets_of (xs ++ ys) ≡ offsets_of xs ++ offsets_of ys
offsets-append [] ys = refl
offsets-append (a_piece q ∷ xs) ys = ap (λ (zs : List ℕ). q.offset ∷ zs) (offsets-append xs ys)
offsets-append (a_report x ∷ xs) ys = offsets-append xs ys
offsets-append (a_report_ack serial ∷ xs) ys = offsets-append xs ys
offsets-append (a_sender_cancel reason ∷ xs) ys = offsets-append xs ys
offsets-append (a_sender_cancel_ack ∷ xs) ys = offsets-append xs ys
offsets-append (a_receiver_cancel reason ∷ xs) ys = offsets-append xs ys
offsets-append (a_receiver_cancel_ack ∷ xs) ys = offsets-append xs ys

-- where parts begin
places : List (ℕ × List ℕ) → List ℕ
places parts = map (λ part. part.0) parts

red-offsets : (last : ℕ × List ℕ → PieceValue)
    → ((part : ℕ × List ℕ) → (last part).offset ≡ part.0) → (parts : List (ℕ × List ℕ))
    → offsets_of (red_pieces last parts) ≡ places parts
unfolding red_pieces places
red-offsets last at [] = refl
red-offsets last at (part ∷ []) = ap (λ (k : ℕ). k ∷ []) (at part)
red-offsets last at (part ∷ next ∷ parts) = ap (λ (zs : List ℕ). part.0 ∷ zs)
    (red-offsets last at (next ∷ parts))

green-offsets : (parts : List (ℕ × List ℕ)) → offsets_of (green_pieces parts) ≡ places parts
unfolding green_pieces places
green-offsets [] = refl
green-offsets (part ∷ []) = refl
green-offsets (part ∷ next ∷ parts) = ap (λ (zs : List ℕ). part.0 ∷ zs)
    (green-offsets (next ∷ parts))

length-places : (parts : List (ℕ × List ℕ)) → length (places parts) ≡ length parts
unfolding places
length-places [] = refl
length-places (part ∷ parts) = ap suc (length-places parts)

none-left : (octets : List ℕ) (z : ℕ) → length octets ≤ z → drop z octets ≡ []
none-left [] zero low = refl
none-left [] (suc z) low = refl
none-left (x ∷ xs) zero low = absurd (omega (arith, low))
none-left (x ∷ xs) (suc z) low = none-left xs z (omega (arith, low))

no-parts : (z n at : ℕ) → segments_from z n at [] ≡ []
unfolding segments_from
no-parts z zero at = refl
no-parts z (suc n) at = refl

-- segments of a part of a block begin at places that rise, all before its end
parts-rise : (z n at : ℕ) (octets : List ℕ) → 1 ≤ z
    → RisesTo at (at + length octets) (places (segments_from z n at octets))
unfolding segments_from places
parts-rise z zero at octets cuts = omega arith
parts-rise z (suc n) at [] cuts = omega arith
parts-rise z (suc n) at (octet ∷ octets) cuts = (
  omega arith,
  ⊎_elim (more (parts-rise z n (at + z) (drop z (octet ∷ octets)) cuts)) over
      (cases_lt z (length (octet ∷ octets))),
)
  where
    more : RisesTo (at + z) (at + z + length (drop z (octet ∷ octets)))
        (places (segments_from z n (at + z) (drop z (octet ∷ octets))))
        → z < length (octet ∷ octets) → RisesTo (at + 1) (at + suc (length octets))
        (places (segments_from z n (at + z) (drop z (octet ∷ octets))))
    more rest low =
        let left = length-drop z (octet ∷ octets) in
        let same : at + z + length (drop z (octet ∷ octets)) ≡ at + suc (length octets) =
        omega (arith, left, low) in
        rises-lower (at + z) (at + 1) (at + suc (length octets))
        (places (segments_from z n (at + z) (drop z (octet ∷ octets)))) (omega (arith, cuts))
        (subst (λ (k : ℕ). RisesTo (at + z) k
        (places (segments_from z n (at + z) (drop z (octet ∷ octets))))) same rest)

    over : length (octet ∷ octets) ≤ z → RisesTo (at + 1) (at + suc (length octets))
        (places (segments_from z n (at + z) (drop z (octet ∷ octets))))
    over high =
        subst (λ (left : List ℕ). RisesTo (at + 1) (at + suc (length octets))
        (places (segments_from z n (at + z) left))) (sym (none-left (octet ∷ octets) z high))
        (subst (λ (parts : List (ℕ × List ℕ)). RisesTo (at + 1) (at + suc (length octets))
        (places parts)) (sym (no-parts z n (at + z))) (omega arith))

-- a block that begins has its segments' number of offsets
pub begin-differ : (policy : PolicyValue) (n : ℕ) (block : List ℕ) (red now : ℕ)
    → 1 ≤ policy.segment → red ≤ length block
    → begun_rank policy.segment block red ≤ different []
    (offsets_of (begin policy n block red now).out) + 2
unfolding begin
begin-differ policy n block red now cuts within =
    omega (
      arith,
      ap (different []) is,
      rising-differ 0 (red + length (drop red block))
          (places reds ++ places greens) [] rises tt,
      length-both (places reds) (places greens),
      length-places reds,
      length-places greens,
    )
  where
    reds : List (ℕ × List ℕ)
    reds = segments_of policy.segment 0 (take red block)

    greens : List (ℕ × List ℕ)
    greens = segments_of policy.segment red (drop red block)

    is : offsets_of (red_pieces (checkpoint_at (length block) red (first_serial n) 0)
        (segments_of policy.segment 0 (take red block)) ++ green_pieces
        (segments_of policy.segment red (drop red block)))
        ≡ places reds ++ places greens
    is = offsets-append (red_pieces (checkpoint_at (length block) red (first_serial n) 0) reds)
        (green_pieces greens)
        ∙ ap (λ (xs : List ℕ). xs ++ offsets_of (green_pieces greens))
        (red-offsets (checkpoint_at (length block) red (first_serial n) 0)
        (λ part. refl) reds)
        ∙ ap (λ (ys : List ℕ). places reds ++ ys) (green-offsets greens)

    red_end : 0 + length (take red block) ≡ red
    red_end = omega (arith, length-take red block, within)

    rises : RisesTo 0 (red + length (drop red block)) (places reds ++ places greens)
    rises = rises-on 0 red (red + length (drop red block)) (places reds) (places greens)
        (subst (λ (k : ℕ). RisesTo 0 k (places reds)) red_end
        (parts-rise policy.segment (length (take red block)) 0 (take red block) cuts))
        (parts-rise policy.segment (length (drop red block)) red (drop red block) cuts)

    length-both : (xs ys : List ℕ) → length (xs ++ ys) ≡ length xs + length ys
    length-both [] ys = omega arith
    length-both (x ∷ xs) ys = omega (arith, length-both xs ys)
