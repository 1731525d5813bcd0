-- What a valid record's residues can carry.

use Rattle.std.proofs.Common.{◌≡◌, ℕ, zero, suc, ◌+◌, ◌<◌, ◌≤◌, Bool, true, false, if◌then◌else◌, List, [], ◌∷◌, length, get_or, refl, arith, bit_and}
use Rattle.std.proofs.lemmas.Bool.{and_parts, ltb-true, eqb-true}
use Rattle.std.proofs.lemmas.Nat.{and_le_r}
use Rattle.bundle_meaning.specs.declared.report.Stamp.{Stamp}
use Rattle.bundle_meaning.specs.declared.report.Stamp.TheVariants.{No, Yes, At}
use Rattle.bundle_meaning.specs.declared.shared.Content.{Content}
use Rattle.bundle_meaning.specs.declared.shared.Content.TheVariants as contents
use Rattle.bundle_meaning.specs.declared.full.Full.{Full}
use Rattle.bundle_meaning.specs.Bits.{is_within, statuses}
use Rattle.bundle_meaning.specs.Expiry.{slack_of}
use Rattle.bundle_meaning.specs.Reports.{untimed, no_time, no_time_of, rests_of, are_rests}
use Rattle.bundle_meaning.specs.Residue.{residue_old_of, residue_new_of}
use Rattle.bundle_meaning.specs.Valid.{IsValid, IsContent}
use Rattle.bundle_meaning.proofs.SpellingLemmas.{IsResidueOld, IsResidueNew, AreRests}

-- ---- statuses without a time

is_yes : Stamp → Bool
is_yes No = false
is_yes Yes = true
is_yes (At millis) = false

untimed-yes : (stamp : Stamp) (bit : ℕ) → untimed stamp bit ≡ (if is_yes stamp then bit else 0)
unfolding is_yes
untimed-yes No bit = refl
untimed-yes Yes bit = refl
untimed-yes (At millis) bit = refl

some-within : (a b c d : Bool) → is_within statuses ((if a then 1 else 0) + (if b then 4 else 0) + (if c then 8 else 0) + (if d then 16 else 0)) ≡ true
some-within false false false false = refl
some-within false false false true = refl
some-within false false true false = refl
some-within false false true true = refl
some-within false true false false = refl
some-within false true false true = refl
some-within false true true false = refl
some-within false true true true = refl
some-within true false false false = refl
some-within true false false true = refl
some-within true false true false = refl
some-within true false true true = refl
some-within true true false false = refl
some-within true true false true = refl
some-within true true true false = refl
some-within true true true true = refl

no_time-within : (stamps : List Stamp) → is_within statuses (no_time stamps) ≡ true
no_time-within stamps =
    rw (untimed-yes (get_or stamps 0 No) 1, untimed-yes (get_or stamps 1 No) 4, untimed-yes (get_or stamps 2 No) 8, untimed-yes (get_or stamps 3 No) 16)
    (some-within (is_yes (get_or stamps 0 No)) (is_yes (get_or stamps 1 No)) (is_yes (get_or stamps 2 No)) (is_yes (get_or stamps 3 No)))

pub no_time_of-within : (content : Content) → is_within statuses (no_time_of content) ≡ true
no_time_of-within (contents.Bytes octets) = refl
no_time_of-within (contents.Report report) = no_time-within report.stamps

-- flags within a mask are no more than it
pub within-le : (mask flags : ℕ) → is_within mask flags ≡ true → flags ≤ mask
within-le mask flags within = omega (arith, and_le_r flags mask, eqb-true (bit_and flags mask) flags within)

-- ---- rests

rests-small : (stamps : List Stamp) (rests : List ℕ) → length rests ≤ length stamps → are_rests stamps rests ≡ true → AreRests rests
rests-small stamps [] few are = λ k d within. absurd (omega (arith, within))
rests-small [] (rest ∷ rests) few are = absurd (omega (arith, few))
rests-small (stamp ∷ stamps) (rest ∷ rests) few are =
    let both = and_parts _ _ are in
    let one = and_parts _ _ both.0 in
    let others = rests-small stamps rests (omega (arith, few)) both.1 in
    rests-cons rest rests (ltb-true rest 1000000 one.0) others
  where
    rests-cons : (rest : ℕ) (rests : List ℕ) → rest < 1000000 → AreRests rests → AreRests (rest ∷ rests)
    rests-cons rest rests small others zero d within = small
    rests-cons rest rests small others (suc k) d within = others k d (omega (arith, within))

pub content-rests : (content : Content) → IsContent content → (length (rests_of content) ≡ 4) × AreRests (rests_of content)
content-rests (contents.Bytes octets) is = (refl, λ k d within. zeros k d within)
  where
    zeros : (k d : ℕ) → k < 4 → get_or (0 ∷ 0 ∷ 0 ∷ 0 ∷ []) k d < 1000000
    zeros zero d within = omega arith
    zeros (suc zero) d within = omega arith
    zeros (suc (suc zero)) d within = omega arith
    zeros (suc (suc (suc zero))) d within = omega arith
    zeros (suc (suc (suc (suc k)))) d within = absurd (omega (arith, within))
content-rests (contents.Report report) is =
    (is.four_rests, rests-small report.stamps report.rests (omega (arith, is.four_rests, is.four_stamps)) is.rests)

-- ---- residues

pub residue_old-is : (full : Full) → IsValid full → slack_of full.shared < 1000 → IsResidueOld (residue_old_of full)
residue_old-is full valid small = record {
  slack = small;
  extra7 = valid.extra7;
  no_time = no_time_of-within full.shared.content;
  no_time_fits = omega (arith, within-le statuses (no_time_of full.shared.content) (no_time_of-within full.shared.content));
}

pub residue_new-is : (full : Full) → IsValid full → IsResidueNew (residue_new_of full)
residue_new-is full valid =
    let rests = content-rests full.shared.content valid.shared.content in
    record { extra6 = valid.extra6; four = rests.0; rests = rests.1 }
