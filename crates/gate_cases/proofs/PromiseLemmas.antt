-- The pieces of a bundle that goes on have room.
use Rattle.std.proofs.Common.{◌≡◌, ℕ, ◌+◌, ◌<◌, Bool, true, false, ◌&&◌, ◌||◌, nat_lt, if◌then◌else◌, List, [], ◌∷◌, ◌++◌, map, length, Some, All, refl, arith}
use Rattle.std.specs.List.{list_any}
use Rattle.std.proofs.lemmas.Bool.{ltb-false}
use Rattle.std.proofs.lemmas.List.{length-map}
use Rattle.std.proofs.lemmas.List.Elements.{All-nil, All-cons}
use Rattle.bundle6.specs.Spelling as six
use Rattle.bundle7.specs.Spelling as seven
use Rattle.bundle_meaning.specs.declared.full.Full.{Full}
use Rattle.translate.specs.declared.refused.Refused.{Refused}
use Rattle.translate.specs.Refusals.{first_that_holds}
use Rattle.fragments.specs.Cutting.{octets_of, is_longer, must_not, how_many, pieces_from}
use Rattle.gate_cases.specs.declared.case.TheConstants.{BLOCK_MAX, SENDING_MAX, NUMBERS}
use Rattle.gate_cases.specs.declared.case.GateCase.{GateCase}
use Rattle.gate_cases.specs.declared.case.GateCase.TheVariants.{Untranslated, Expired, HopLimit, Storage, Passed}
use Rattle.gate_cases.specs.declared.case.Room.{Room}
use Rattle.gate_cases.specs.declared.face.Face.{Face}
use Rattle.gate_cases.specs.declared.face.Face.TheVariants.{Old, New}
use Rattle.gate_cases.specs.Faces.{other_of, octets_at}
use Rattle.gate_cases.specs.Passage.{pieces_on, passage}
use Rattle.gate_cases.specs.Blocks.{Found, one, bad, found_at}
use Rattle.gate_cases.specs.Cases.{is_short, untranslated, records_of, or_passed, case_of, judgement_of, judged}
use Rattle.gate_cases.specs.Promises.{IsBlock, HaveRoom, PiecesHaveRoom}
use Rattle.gate_cases.proofs.PieceLemmas.{length-from}

or-none : (a b : Bool) → (a || b) ≡ false → (a ≡ false) × (b ≡ false)
or-none true b is = absurd (cc)
or-none false b is = (refl, is)

-- ---- the blocks

octets-some : (to : Face) (full : Full) → 0 < length (octets_at to full)
unfolding six.canon6 six.primary_octets seven.octets7
octets-some Old full = omega arith
octets-some New full = omega arith

are-blocks : (to : Face) (records : List Full) → list_any (λ piece. nat_lt BLOCK_MAX (length piece)) (map (octets_at to) records) ≡ false
    → All IsBlock (map (octets_at to) records)
are-blocks to [] short = All-nil IsBlock
are-blocks to (full ∷ records) short =
    let parts = or-none (nat_lt BLOCK_MAX (length (octets_at to full))) (list_any (λ piece. nat_lt BLOCK_MAX (length piece)) (map (octets_at to) records)) short in
    All-cons IsBlock (octets_at to full) (map (octets_at to) records)
    (record { some = octets-some to full; small = ltb-false BLOCK_MAX (length (octets_at to full)) parts.0 })
    (are-blocks to records parts.1)

-- there is one at least
some-on : (full : Full) (size : ℕ) → 0 < length (pieces_on full size)
some-on full size = by (is_longer full size) (must_not full.shared)
  where
    by : (t m : Bool) → 0 < length (if t && m then full ∷ []
        else if t then pieces_from full size 0 (how_many size (octets_of full.shared.content)) else full ∷ [])
    by true true = omega arith
    by true false = omega (arith, length-from full size 0 (how_many size (octets_of full.shared.content)))
    by false m = omega arith

have-room : (to : Face) (records : List Full) (room : Room) → 0 < length records → is_short room (map (octets_at to) records) ≡ false
    → HaveRoom room (map (octets_at to) records)
have-room to records room some short =
    let pieces = map (octets_at to) records in
    let first = or-none _ (nat_lt NUMBERS (room.next_session + length pieces)) short in
    let second = or-none (nat_lt SENDING_MAX (room.sending + length pieces)) _ first.0 in record {
      some = omega (arith, some, length-map records (octets_at to));
      blocks = are-blocks to records second.1;
      sessions = ltb-false SENDING_MAX (room.sending + length pieces) second.0;
      numbers = ltb-false NUMBERS (room.next_session + length pieces) first.1;
    }

-- ---- the case

after-refusals : (refusals : List (Refused × Bool)) (others : List (GateCase × Bool))
    → or_passed (first_that_holds (map untranslated refusals ++ others)) ≡ Passed → or_passed (first_that_holds others) ≡ Passed
after-refusals [] others is = is
after-refusals ((refused, holds) ∷ refusals) others is = by holds is (λ is. after-refusals refusals others is)
  where
    by : (t : Bool) → or_passed (if t then Some (Untranslated refused) else first_that_holds (map untranslated refusals ++ others)) ≡ Passed
        → (or_passed (first_that_holds (map untranslated refusals ++ others)) ≡ Passed → or_passed (first_that_holds others) ≡ Passed)
        → or_passed (first_that_holds others) ≡ Passed
    by true is rest = absurd (cc)
    by false is rest = rest is

last-holds-not : (a b c d : Bool) (refused : Refused)
    → or_passed (first_that_holds ((Expired, a) ∷ (HopLimit, b) ∷ (Untranslated refused, c) ∷ (Storage, d) ∷ [])) ≡ Passed → d ≡ false
last-holds-not true b c d refused is = absurd (cc)
last-holds-not false true c d refused is = absurd (cc)
last-holds-not false false true d refused is = absurd (cc)
last-holds-not false false false true refused is = absurd (cc)
last-holds-not false false false false refused is = refl

found-room : (face : Face) (found : Found) (now cut : ℕ) (room : Room) → (judgement_of face found cut (case_of face found now cut room)).case ≡ Passed
    → HaveRoom room (judgement_of face found cut (case_of face found now cut room)).pieces
unfolding case_of
found-room face (bad at cause) now cut room is = absurd (cc)
found-room face (one arrival) now cut room is =
    let records = records_of arrival.full cut in
    let short = last-holds-not _ _ _ _ _ (after-refusals arrival.refusals _ is) in
    rw is (have-room (other_of face) records room (some-on (passage arrival.full) cut) short)

pub pieces-have-room : PiecesHaveRoom
unfolding judged
pieces-have-room face block now cut room is = found-room face (found_at face block) now cut room is
