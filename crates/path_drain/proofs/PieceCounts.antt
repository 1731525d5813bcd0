-- How many pieces become of a block.

use Rattle.std.proofs.Common.{◌≡◌, ◌≢◌, ℕ, ◌+◌, ◌≤◌, Bool, true, false, ◌&&◌, ◌||◌, nat_lt}
use Rattle.std.proofs.Common.{if◌then◌else◌, List, [], ◌∷◌, ◌++◌, map, length, Option, None, Some}
use Rattle.std.proofs.Common.{is_some, inl, inr, refl, sym, ◌∙◌, ap, arith}
use Rattle.std.specs.List.{list_any}
use Rattle.std.proofs.lemmas.Bool.{ltb-true}
use Rattle.std.proofs.lemmas.Bool.Decides.{nat_tests}
use Rattle.std.proofs.lemmas.List.{length-map}
use Rattle.translate.specs.declared.refused.Refused.{Refused}
use Rattle.translate.specs.Refusals.{first_that_holds}
use Rattle.fragments.specs.Cutting.{octets_of, is_longer, must_not, how_many, pieces_from}
use Rattle.gate_cases.specs.declared.case.TheConstants.{BLOCK_MAX, SENDING_MAX, NUMBERS}
use Rattle.gate_cases.specs.declared.case.GateCase.{GateCase}
use Rattle.gate_cases.specs.declared.case.GateCase.TheVariants as cases
use Rattle.gate_cases.specs.declared.case.Room.{Room}
use Rattle.gate_cases.specs.declared.face.Face.{Face}
use Rattle.gate_cases.specs.Blocks.{Arrival, Found, one, bad, found_at}
use Rattle.gate_cases.specs.Cases.{case_of, is_short, judged, judgement_of, or_passed, pieces_if}
use Rattle.gate_cases.specs.Cases.{records_of, untranslated}
use Rattle.gate_cases.specs.Faces.{other_of, octets_at}
use Rattle.gate_cases.specs.Passage.{passage, pieces_on}
use Rattle.gate_cases.proofs.CaseLemmas.{first-after, first-refused}
use Rattle.gate_cases.proofs.PieceLemmas.{length-from}
use Rattle.ltp_laws.specs.View.{IsIn}
use Rattle.path_drain.specs.OnTheWay.{piece_count, pieces_found}
use Rattle.path_drain.specs.Pieces.{AreCounted, HasLongPiece, PassageKeepsPieces, PiecesAreCounted}
use Rattle.path_drain.specs.Pieces.{StorageIsOfLength}

-- what is cut is said by what a hop leaves
pub passage-keeps : PassageKeepsPieces
passage-keeps full cut = by (is_longer full cut) (must_not full.shared)
  where
    by : (t m : Bool)
        → length (if t && m then passage full ∷ [] else if t then pieces_from (passage full) cut 0
        (how_many cut (octets_of full.shared.content)) else passage full ∷ [])
        ≡ length (if t && m then full ∷ [] else if t then pieces_from full cut 0
        (how_many cut (octets_of full.shared.content)) else full ∷ [])
    by true true = refl
    by true false =
        length-from (passage full) cut 0 (how_many cut (octets_of full.shared.content))
        ∙ sym (length-from full cut 0 (how_many cut (octets_of full.shared.content)))
    by false m = refl

-- ---- what is decided

-- in a case other than Passed no piece goes on
none-goes : (case : GateCase) (pieces : List (List ℕ)) → case ≢ cases.Passed
    → pieces_if case pieces ≡ []
none-goes (cases.BadBundle at cause) pieces other = refl
none-goes (cases.Untranslated cause) pieces other = refl
none-goes cases.Expired pieces other = refl
none-goes cases.HopLimit pieces other = refl
none-goes cases.Storage pieces other = refl
none-goes cases.Passed pieces other = absurd (other refl)

-- a bundle that passes isn't refused
not-refused : (arrival : Arrival) (others : List (GateCase × Bool))
    → or_passed (first_that_holds (map untranslated arrival.refusals ++ others)) ≡ cases.Passed
    → first_that_holds arrival.refusals ≡ None
not-refused arrival others is = by (first_that_holds arrival.refusals) refl
  where
    by : (o : Option Refused) → first_that_holds arrival.refusals ≡ o
        → first_that_holds arrival.refusals ≡ None
    by None none = none
    by (Some first) some = absurd (
        let h : or_passed (first_that_holds (map untranslated arrival.refusals ++ others))
        ≡ cases.Untranslated first =
        ap or_passed (first-refused arrival.refusals others first some) in
        cc)

found-counted : (face : Face) (found : Found) (now cut : ℕ) (room : Room)
    → (judgement_of face found cut (case_of face found now cut room)).case ≡ cases.Passed
    → length (judgement_of face found cut (case_of face found now cut room)).pieces
    ≡ pieces_found cut found
unfolding case_of
found-counted face (bad at cause) now cut room is = absurd (cc)
found-counted face (one arrival) now cut room is =
    let whole = not-refused arrival _ is in
    ap (λ (case : GateCase). length (pieces_if case
    (map (octets_at (other_of face)) (records_of arrival.full cut)))) is
    ∙ length-map (records_of arrival.full cut) (octets_at (other_of face))
    ∙ passage-keeps arrival.full cut
    ∙ ap (λ (o : Option Refused). if is_some o then 0 else length (pieces_on arrival.full cut))
    (sym whole)

found-stopped : (face : Face) (found : Found) (now cut : ℕ) (room : Room)
    → (judgement_of face found cut (case_of face found now cut room)).case ≢ cases.Passed
    → (judgement_of face found cut (case_of face found now cut room)).pieces ≡ []
found-stopped face (bad at cause) now cut room other = refl
found-stopped face (one arrival) now cut room other = none-goes _ _ other

pub pieces-counted : PiecesAreCounted
unfolding judged piece_count
pieces-counted face block now cut room = record {
  passed = λ is. found-counted face (found_at face block) now cut room is;
  stopped = λ other. found-stopped face (found_at face block) now cut room other;
}

-- never more pieces than were counted
pub pieces-few : (face : Face) (block : List ℕ) (now cut : ℕ) (room : Room)
    → length (judged face block now cut room).pieces ≤ piece_count face cut block
pieces-few face block now cut room =
    by (judged face block now cut room).case refl (pieces-counted face block now cut room)
  where
    few : (pieces : List (List ℕ)) → pieces ≡ [] → length pieces ≤ piece_count face cut block
    few pieces none = rw none (omega arith)

    by : (case : GateCase) → (judged face block now cut room).case ≡ case
        → AreCounted face block now cut room
        → length (judged face block now cut room).pieces ≤ piece_count face cut block
    by cases.Passed is counted = omega (arith, counted.passed is)
    by (cases.BadBundle at cause) is counted =
        few (judged face block now cut room).pieces
        (counted.stopped (λ h. let i = sym is ∙ h in cc))
    by (cases.Untranslated cause) is counted =
        few (judged face block now cut room).pieces
        (counted.stopped (λ h. let i = sym is ∙ h in cc))
    by cases.Expired is counted =
        few (judged face block now cut room).pieces
        (counted.stopped (λ h. let i = sym is ∙ h in cc))
    by cases.HopLimit is counted =
        few (judged face block now cut room).pieces
        (counted.stopped (λ h. let i = sym is ∙ h in cc))
    by cases.Storage is counted =
        few (judged face block now cut room).pieces
        (counted.stopped (λ h. let i = sym is ∙ h in cc))

-- ---- want of storage

-- a piece of which a test holds
found-any : (test : List ℕ → Bool) (pieces : List (List ℕ)) → list_any test pieces ≡ true
    → (piece : List ℕ) × IsIn piece pieces × (test piece ≡ true)
found-any test [] is = absurd (cc)
found-any test (piece ∷ pieces) is = by (test piece) refl is (λ some. found-any test pieces some)
  where
    by : (b : Bool) → test piece ≡ b → (b || list_any test pieces) ≡ true
        → (list_any test pieces ≡ true
        → (x : List ℕ) × IsIn x pieces × (test x ≡ true))
        → (x : List ℕ) × IsIn x (piece ∷ pieces) × (test x ≡ true)
    by true holds is rest = (piece, inl refl, holds)
    by false holds is rest = let x = rest is in (x.0, inr x.1, x.2)

-- the last of four
last-is : (a b c d : Bool) (refused : Refused)
    → or_passed (first_that_holds ((cases.Expired, a) ∷ (cases.HopLimit, b)
    ∷ (cases.Untranslated refused, c) ∷ (cases.Storage, d) ∷ [])) ≡ cases.Storage → d ≡ true
last-is true b c d refused is = absurd (cc)
last-is false true c d refused is = absurd (cc)
last-is false false true d refused is = absurd (cc)
last-is false false false true refused is = refl
last-is false false false false refused is = absurd (cc)

short-where : (room : Room) (pieces : List (List ℕ)) (k : ℕ) → length pieces ≡ k
    → room.sending + k ≤ SENDING_MAX → room.next_session + k ≤ NUMBERS
    → is_short room pieces ≡ true
    → list_any (λ piece. nat_lt BLOCK_MAX (length piece)) pieces ≡ true
short-where room pieces k size sending numbers is =
    let first : nat_lt SENDING_MAX (room.sending + length pieces) ≡ false =
    below (omega (arith, size, sending)) in
    let last : nat_lt NUMBERS (room.next_session + length pieces) ≡ false =
    below (omega (arith, size, numbers)) in
    by first last is
  where
    below : {most n : ℕ} → n ≤ most → nat_lt most n ≡ false
    below low = grind (arith, nat_tests)

    by : nat_lt SENDING_MAX (room.sending + length pieces) ≡ false
        → nat_lt NUMBERS (room.next_session + length pieces) ≡ false
        → is_short room pieces ≡ true
        → list_any (λ piece. nat_lt BLOCK_MAX (length piece)) pieces ≡ true
    by first last is = middle _ _ _ first last is
      where
        middle : (a b c : Bool) → a ≡ false → c ≡ false → (a || b || c) ≡ true → b ≡ true
        middle false b false is_a is_c is = or_false b is
          where
            or_false : (b : Bool) → (b || false) ≡ true → b ≡ true
            or_false true is = refl
            or_false false is = is
        middle true b c is_a is_c is = absurd (cc)
        middle false b true is_a is_c is = absurd (cc)

-- the others decide where none is refused
after-none : (refusals : List (Refused × Bool)) (others : List (GateCase × Bool))
    → or_passed (first_that_holds (map untranslated refusals ++ others)) ≡ cases.Storage
    → (first_that_holds refusals ≡ None) × (or_passed (first_that_holds others) ≡ cases.Storage)
after-none refusals others is = by (first_that_holds refusals) refl
  where
    by : (o : Option Refused) → first_that_holds refusals ≡ o
        → (first_that_holds refusals ≡ None) × (or_passed (first_that_holds others) ≡ cases.Storage)
    by None none = (none, sym (ap or_passed (first-after refusals others none)) ∙ is)
    by (Some first) some = absurd (
        let h : or_passed (first_that_holds (map untranslated refusals ++ others))
        ≡ cases.Untranslated first = ap or_passed (first-refused refusals others first some) in
        cc)

found-long : (face : Face) (block : List ℕ) (found : Found) (now cut : ℕ) (room : Room)
    → found_at face block ≡ found
    → room.sending + pieces_found cut found ≤ SENDING_MAX
    → room.next_session + pieces_found cut found ≤ NUMBERS
    → (judgement_of face found cut (case_of face found now cut room)).case ≡ cases.Storage
    → HasLongPiece face block cut
unfolding case_of
found-long face block (bad at cause) now cut room found sending numbers is = absurd (cc)
found-long face block (one arrival) now cut room found sending numbers is =
    let parts = after-none arrival.refusals _ is in
    let short = last-is _ _ _ _ _ parts.1 in
    let size : length (map (octets_at (other_of face)) (records_of arrival.full cut))
    ≡ pieces_found cut (one arrival) =
    length-map (records_of arrival.full cut) (octets_at (other_of face))
    ∙ passage-keeps arrival.full cut
    ∙ ap (λ (o : Option Refused). if is_some o then 0 else length (pieces_on arrival.full cut))
    (sym parts.0) in
    let any = found-any (λ piece. nat_lt BLOCK_MAX (length piece))
    (map (octets_at (other_of face)) (records_of arrival.full cut))
    (short-where room (map (octets_at (other_of face)) (records_of arrival.full cut)) _ size
    sending numbers short) in
    record {
      arrival = arrival;
      reads = found;
      piece = any.0;
      among = any.1;
      long = ltb-true BLOCK_MAX (length any.0) any.2;
    }

pub storage-of_length : StorageIsOfLength
unfolding judged piece_count
storage-of_length face block now cut room sending numbers is =
    found-long face block (found_at face block) now cut room refl sending numbers is
