-- What a journal says by what was made outside: what it was made anew of last, and the records since.

use Rattle.std.specs.Prelude.{◌≡◌, ◌⊎◌, ℕ, List, [], ◌∷◌, Option, None, Some, option_map, IfSome, IsSomeAnd}
use Rattle.journal_file.specs.Values.{KeptValue}
use Rattle.journal_file.specs.Keeping.{kept_after}
use Rattle.journal_file.specs.File.{Reads}
use Rattle.journal_file.specs.Spelling.{MayFollow}
use Rattle.journal_file.specs.Below.{IsBelow}
use Rattle.journal_file.specs.Legal.{IsLegal}
use Rattle.gate_journal.specs.Rest.{RestsWith}
use Rattle.gate_edges.specs.Made.{Made, sent, lost, wrote, shown, committed, installed}

-- ---- what is kept by what was made

abbrev pub kept_past : Option KeptValue → Made → Option KeptValue
kept_past kept (sent face datagram) = kept
kept_past kept (lost face datagram) = kept
kept_past kept (wrote octet) = kept
kept_past kept (shown text) = kept
kept_past kept (committed records) = option_map (λ k. kept_after k records) kept
kept_past kept (installed given) = Some given

-- in the order made, from what was kept before, where that is known
unfoldable pub kept_by : Option KeptValue → List Made → Option KeptValue
kept_by kept [] = kept
kept_by kept (made ∷ more) = kept_by (kept_past kept made) more

-- ---- what may be made

-- records that are committed may follow what is kept, and what the journal is made anew of is legal
abbrev pub MayMake : Option KeptValue → Made → Type 0
MayMake kept (sent face datagram) = Unit {0}
MayMake kept (lost face datagram) = Unit {0}
MayMake kept (wrote octet) = Unit {0}
MayMake kept (shown text) = Unit {0}
MayMake kept (committed records) = IfSome kept (λ k. MayFollow k records)
MayMake kept (installed given) = IsLegal given

unfoldable pub MayMakeAll : Option KeptValue → List Made → Type 0
MayMakeAll kept [] = Unit {0}
MayMakeAll kept (made ∷ more) = MayMake kept made × MayMakeAll (kept_past kept made) more

-- ---- what the disk says

-- a file says what is kept, with a greatest id that may be lower
pub record ReadsBelow (kept : KeptValue) (file : List ℕ) : Type 0 where
  pub lower : KeptValue
  pub reads : Reads file lower
  pub below : IsBelow lower kept

-- a file that a crash may leave is this one, it says what is kept so, and ends with the closed gate at
-- this place
pub record RestsBelow (file : List ℕ) (may_leave : List ℕ → Type 0) (gate : ℕ) (kept : KeptValue) : Type 0 where
  pub lower : KeptValue
  pub rests : RestsWith file may_leave gate lower
  pub below : IsBelow lower kept

-- Where it is told what was made, and it may be made: the file says what is kept by it. Before the
-- journal is made anew for the first time nothing is known of it.
abbrev pub Says : Option (List Made) → Option (List ℕ) → (List ℕ → Type 0) → ℕ → Type 0
Says made seen may_leave gate = IfSome made (λ acts. MayMakeAll None acts
    → IfSome (kept_by None acts) (λ kept. IfSome seen (λ file. RestsBelow file may_leave gate kept)))

-- a kind of store tells its file's octets at all times
abbrev pub Tells : {S : Type 0} → (S → Option (List ℕ)) → Type 0
Tells {S} seen = (store : S) → IsSomeAnd (seen store) (λ _. Unit {0})

-- a file says what was kept before, or what is kept after
abbrev pub BelowEither : KeptValue → KeptValue → List ℕ → Type 0
BelowEither before after file = ReadsBelow before file ⊎ ReadsBelow after file
