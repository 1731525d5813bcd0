-- A file whose writes a crash tears: what was done to it, and each file that may be left.
use Rattle.std.specs.Prelude.{◌≡◌, ◌⊎◌, ℕ, ◌≤◌, Bool, true, false, nat_lt, if◌then◌else◌, List, [], ◌∷◌, length, take, drop}
use Rattle.store_traits.specs.declared.torn.Change.{Change}
use Rattle.store_traits.specs.declared.torn.Change.TheVariants as changes
use Rattle.store_traits.specs.declared.torn.Tear.{Tear}
use Rattle.store_traits.specs.Disk.{written, Torn}

-- ---- what may be left

-- of a new file all of it, where it was synced, and else anything
abbrev pub MayBe : Bool → List ℕ → List ℕ → Type 0
MayBe true file c = c ≡ file
MayBe false file c = Unit {0}

-- what may be left after a change, from what may be left before it: a write is torn; a new file took
-- the place of the old one or didn't; what was synced is there
abbrev pub After : (List ℕ → Type 0) → Change → List ℕ → Type 0
After Before (changes.Wrote at octets) c =
    (d : List ℕ) × Before d × Torn at (length octets.items) d c
After Before (changes.Replaced file whole) c = Before c ⊎ MayBe whole file.items c
After Before (changes.Synced file) c = c ≡ file.items

-- after changes, the earliest first
unfoldable pub AfterAll : (List ℕ → Type 0) → List Change → List ℕ → Type 0
AfterAll Before [] c = Before c
AfterAll Before (change ∷ later) c = AfterAll (After Before change) later c

-- from a file that was synced
abbrev pub MayBeLeft : List ℕ → List Change → List ℕ → Type 0
MayBeLeft first log c = AfterAll (λ d. d ≡ first) log c

-- at some moment from this one on: a moment is how many changes came before it
pub record WasLeft (first : List ℕ) (log : List Change) (from : ℕ) (c : List ℕ) : Type 0 where
  pub moment : ℕ
  pub later : from ≤ moment
  pub within : moment ≤ length log
  pub left : MayBeLeft first (take moment log) c

-- ---- which of them is left, by a choice for each change

-- the octets of a write that come to the disk, in place of its own, or of a new file that wasn't
-- synced; and whether a new file took the old one's place
pub record TearValue : Type 0 where
  pub octets : List ℕ
  pub replaced : Bool

abbrev pub tear_of : Tear → TearValue
tear_of tear = record { octets = (tear.octets).now; replaced = tear.replaced }

abbrev pub new_by : Bool → List ℕ → TearValue → List ℕ
new_by true file tear = file
new_by false file tear = tear.octets

abbrev pub left_by : TearValue → Change → List ℕ → List ℕ
left_by tear (changes.Wrote at octets) file =
    if nat_lt (length file) at then file
    else written at (take (length octets.items) tear.octets) file
left_by tear (changes.Replaced new whole) file =
    if tear.replaced then new_by whole new.items tear else file
left_by tear (changes.Synced new) file = new.items

-- past the last choice nothing comes to the disk
abbrev pub first_tear : List TearValue → TearValue
first_tear [] = record { octets = []; replaced = false }
first_tear (tear ∷ tears) = tear

unfoldable pub left_by_all : List TearValue → List Change → List ℕ → List ℕ
left_by_all tears [] file = file
left_by_all tears (change ∷ later) file =
    left_by_all (drop 1 tears) later (left_by (first_tear tears) change file)

-- ---- the file as a read gives it: all of each change comes to the disk

abbrev pub whole_tear : Change → TearValue
whole_tear (changes.Wrote at octets) = record { octets = octets.items; replaced = false }
whole_tear (changes.Replaced new whole) = record { octets = new.items; replaced = true }
whole_tear (changes.Synced new) = record { octets = []; replaced = false }

unfoldable pub done_by_all : List Change → List ℕ → List ℕ
done_by_all [] file = file
done_by_all (change ∷ later) file =
    done_by_all later (left_by (whole_tear change) change file)
