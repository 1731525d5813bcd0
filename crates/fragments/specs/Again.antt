-- What the pieces of a record give when they are joined.

use Rattle.std.specs.Prelude.{◌≡◌, ℕ, ◌<◌, ◌≤◌, ◌==◌, Bool, true, false, List, [], ◌∷◌, length, None, is_some, Result, Ok, Err, ◌⊎◌}
use Rattle.std.specs.List.{list_any, All}
use Rattle.endpoint.specs.declared.extent.Fragment.{Fragment}
use Rattle.bundle_meaning.specs.declared.full.Full.{Full}
use Rattle.bundle_meaning.specs.Valid.{IsValid}
use Rattle.fragments.specs.declared.limits.TheConstants.{TOTAL_MAX, NAMES_MAX}
use Rattle.fragments.specs.declared.fault.JoinRefused.{JoinRefused}
use Rattle.fragments.specs.declared.fault.JoinRefused.TheVariants as refusals
use Rattle.fragments.specs.declared.join.Join.{Join}
use Rattle.fragments.specs.declared.joining.Joined.{Joined}
use Rattle.fragments.specs.declared.joining.Joined.TheVariants as answers
use Rattle.fragments.specs.Cutting.{octets_of, is_longer, how_many, piece}
use Rattle.fragments.specs.Cells.{whole_octets}
use Rattle.fragments.specs.Joining.{open_join, accepted, answer_to, joins_after, whole_of, joined_with, IsOpen}

-- ---- one record after another

-- what is answered to a record beside these joins
abbrev pub answer_at : List Join → Full → Result Fragment JoinRefused → Result Joined JoinRefused
answer_at joins full (Ok part) = Ok (answer_to joins full part)
answer_at joins full (Err refused) = Err refused

abbrev pub answer : List Join → Full → Result Joined JoinRefused
answer joins full = answer_at joins full (accepted joins full.shared)

-- the joins then; a refusal leaves them
abbrev pub after_at : List Join → Full → Result Fragment JoinRefused → List Join
after_at joins full (Ok part) = joins_after joins full part
after_at joins full (Err refused) = joins

abbrev pub after : List Join → Full → List Join
after joins full = after_at joins full (accepted joins full.shared)

-- the joins once the pieces with these indexes came, the last one first
unfoldable pub after_pieces : Full → ℕ → List Join → List ℕ → List Join
after_pieces full size joins [] = joins
after_pieces full size joins (i ∷ earlier) =
    after (after_pieces full size joins earlier) (piece full size i)

-- ---- the law

-- an index is among these
abbrev pub is_among : List ℕ → ℕ → Bool
is_among indexes i = list_any (λ j. j == i) indexes

-- a record that is cut into pieces, and joins beside which they are taken: it is no fragment and not too
-- long, its name isn't open, and there is room for it
pub record IsCut (full : Full) (size : ℕ) (joins : List Join) : Type 0 where
  pub valid : IsValid full
  pub whole : full.shared.fragment ≡ None
  pub some : 0 < size
  pub longer : is_longer full size ≡ true
  pub small : length (octets_of full.shared.content) ≤ TOTAL_MAX
  pub unknown : open_join full.shared joins ≡ None
  pub room : length joins < NAMES_MAX

abbrev pub count_of : Full → ℕ → ℕ
count_of full size = how_many size (octets_of full.shared.content)

-- they are indexes of pieces
unfoldable pub AreIndexes : ℕ → List ℕ → Type 0
AreIndexes count [] = Unit {0}
AreIndexes count (i ∷ earlier) = (i < count) × AreIndexes count earlier

-- all pieces came
abbrev pub HaveAll : ℕ → List ℕ → Type 0
HaveAll count indexes = (i : ℕ) → i < count → is_among indexes i ≡ true

-- a piece is missing
abbrev pub LackOne : ℕ → List ℕ → Type 0
LackOne count indexes = (i : ℕ) × (i < count) × (is_among indexes i ≡ false)

abbrev pub IsOpenAnswer : Result Joined JoinRefused → Type 0
IsOpenAnswer (Ok answers.Waiting) = Unit {0}
IsOpenAnswer (Ok answers.Repeat) = Unit {0}
IsOpenAnswer (Ok (answers.Whole whole)) = ⊥
IsOpenAnswer (Err refused) = ⊥

-- The pieces of one cut of a record come in any order and with repeats, as long as one is missing: the last
-- one that was missing gives the record, and each before it gives nothing.
abbrev pub PiecesJoinAgain : Type 0
PiecesJoinAgain = (full : Full) (size : ℕ) (joins : List Join) (earlier : List ℕ) (i : ℕ)
    → IsCut full size joins → AreIndexes (count_of full size) (i ∷ earlier)
    → LackOne (count_of full size) earlier
    → (LackOne (count_of full size) (i ∷ earlier)
    → IsOpenAnswer (answer (after_pieces full size joins earlier) (piece full size i)))
    × (HaveAll (count_of full size) (i ∷ earlier)
    → answer (after_pieces full size joins earlier) (piece full size i) ≡ Ok (answers.Whole full))

-- The same of what code answered to a record beside joins: where these are what some pieces left, and the
-- record is a piece more. Memory may have been wanted.
abbrev pub JoinsAgain : List Join → Full → Result Joined JoinRefused → Type 0
JoinsAgain state came result = (full : Full) (size : ℕ) (joins : List Join) (earlier : List ℕ) (i : ℕ)
    → IsCut full size joins → AreIndexes (count_of full size) (i ∷ earlier)
    → LackOne (count_of full size) earlier
    → state ≡ after_pieces full size joins earlier → came ≡ piece full size i
    → (LackOne (count_of full size) (i ∷ earlier)
    → IsOpenAnswer result ⊎ (result ≡ Err refusals.Memory))
    × (HaveAll (count_of full size) (i ∷ earlier)
    → (result ≡ Ok (answers.Whole full)) ⊎ (result ≡ Err refusals.Memory))

-- ---- a whole is there when each place came

-- the joins once some records came, the last one first
unfoldable pub after_records : List Full → List Join
after_records [] = []
after_records (full ∷ earlier) = after (after_records earlier) full

-- With a record that is taken the whole is there if and only if each place below the total has an octet
-- then: the first fragment with offset 0 came too.
abbrev pub WholeWhenAllCame : Type 0
WholeWhenAllCame = (earlier : List Full) (full : Full) (part : Fragment) → IsValid full
    → accepted (after_records earlier) full.shared ≡ Ok part
    → is_some (whole_of (joined_with (after_records earlier) full part))
    ≡ is_some (whole_octets (joined_with (after_records earlier) full part).cells part.total)

-- ---- what is kept at most

abbrev pub IsSmall : Join → Type 0
IsSmall join = join.total ≤ TOTAL_MAX

-- What a joiner keeps at most: so many names, and no total that is greater than what is joined.
pub record IsBounded (joins : List Join) : Type 0 where
  pub names : length joins ≤ NAMES_MAX
  pub totals : All IsSmall joins

-- What a joiner keeps: no more than that, and no whole that is there.
pub record AreKept (joins : List Join) : Type 0 where
  pub bounded : IsBounded joins
  pub unfinished : All IsOpen joins

-- Whichever records came before: each total that is kept is one that is joined.
abbrev pub TotalsAreSmall : Type 0
TotalsAreSmall = (earlier : List Full) → All IsSmall (after_records earlier)
