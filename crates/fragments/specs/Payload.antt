-- Fragments of one payload, whichever they are: cuts of cuts, overlapping ones, the same ones again, and
-- between them fragments of other names.

use Rattle.std.specs.Prelude.{◌≡◌, ◌==◌, Bool, true, false, ◌&&◌, List, ◌∷◌, length, take, drop, Some, Ok}
use Rattle.std.specs.List.{All}
use Rattle.endpoint.specs.declared.extent.Fragment.{Fragment}
use Rattle.bundle_meaning.specs.declared.shared.Shared.{Shared}
use Rattle.bundle_meaning.specs.declared.full.Full.{Full}
use Rattle.fragments.specs.declared.joining.Joined.TheVariants as answers
use Rattle.fragments.specs.Cutting.{octets_of}
use Rattle.fragments.specs.Joining.{open_join, same_endpoint, unfragmented, with_payload}
use Rattle.fragments.specs.Again.{after_records, answer}

-- ---- names

-- two records have one name: source and creation timestamp
abbrev pub have_one_name : Shared → Shared → Bool
have_one_name one other =
    one.millis == other.millis && one.sequence == other.sequence
    && same_endpoint one.source other.source

-- A record of another name changes nothing of what is open under a name, whatever came before: so what
-- comes of a name depends on its own records, and on whether there is room for it.
abbrev pub NamesStandAlone : Type 0
NamesStandAlone = (shared : Shared) (full : Full) (earlier : List Full)
    → have_one_name shared full.shared ≡ false
    → open_join shared (after_records (full ∷ earlier)) ≡ open_join shared (after_records earlier)

-- ---- a fragment of a record

-- The record says how many octets the payload of the whole has. Its own are those that stand there from
-- its offset on. Where that is 0 it says, but for the payload, all that the whole says.
pub record IsFragmentOf (whole full : Full) : Type 0 where
  pub part : Fragment
  pub fragment : full.shared.fragment ≡ Some part
  pub total : part.total ≡ length (octets_of whole.shared.content)
  pub octets :
      octets_of full.shared.content
      ≡ take (length (octets_of full.shared.content)) (drop part.offset (octets_of whole.shared.content))
  pub first : part.offset ≡ 0 → with_payload (unfragmented full) (octets_of whole.shared.content) ≡ whole

-- so it is with a record that has the name of the whole
abbrev pub IsFragmentIfNamed : Full → Full → Type 0
IsFragmentIfNamed whole full =
    have_one_name full.shared whole.shared ≡ true → IsFragmentOf whole full

-- ---- the law

-- Whichever records came before: where each that has the name of a whole record is a fragment of it, one
-- more that is answered with a whole is answered with that record.
abbrev pub FragmentsGiveTheWhole : Type 0
FragmentsGiveTheWhole = (whole given full : Full) (earlier : List Full)
    → All (IsFragmentIfNamed whole) (full ∷ earlier) → have_one_name full.shared whole.shared ≡ true
    → answer (after_records earlier) full ≡ Ok (answers.Whole given) → given ≡ whole
