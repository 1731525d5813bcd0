-- What a cutter keeps of a record.

use Rattle.std.specs.Prelude.{◌≡◌, ◌+◌, ◌<◌, true, List, [], ◌∷◌}
use Rattle.bundle_meaning.specs.declared.full.Full.{Full}
use Rattle.bundle_meaning.specs.Valid.{IsValid}
use Rattle.fragments.specs.declared.cutter.Cut.{Cut}
use Rattle.fragments.specs.declared.cutter.Left.{Left}
use Rattle.fragments.specs.declared.cutter.Left.TheVariants.{Nothing, Alone, Pieces}
use Rattle.fragments.specs.Cutting.{octets_of, is_longer, how_many, pieces_from}

-- the pieces that are left of a record that is cut
abbrev pub pieces_of : Cut → List Full
pieces_of cut = pieces_from cut.full cut.size cut.next cut.count

abbrev pub pieces_left : Left → List Full
pieces_left Nothing = []
pieces_left (Alone full) = full ∷ []
pieces_left (Pieces cut) = pieces_of cut

-- it has to be cut, and the pieces that are left are its last ones
pub record IsCutting (cut : Cut) : Type 0 where
  pub some : 0 < cut.size
  pub longer : is_longer cut.full cut.size ≡ true
  pub valid : IsValid cut.full
  pub last : cut.next + cut.count ≡ how_many cut.size (octets_of cut.full.shared.content)

abbrev pub IsLeft : Left → Type 0
IsLeft Nothing = Unit {0}
IsLeft (Alone full) = Unit {0}
IsLeft (Pieces cut) = IsCutting cut
