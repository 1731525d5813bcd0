-- What code writes of a bundle whose endpoints' numbers are known.

use Rattle.std.specs.Prelude.{ℕ, ◌==◌, Bool, List, [], ◌∷◌, ◌++◌, length, take, drop}
use Rattle.std.specs.List.{flat_map}
use Rattle.sdnv.specs.Shortest.{spelling}
use Rattle.bundle6.specs.declared.names.Offsets.{Offsets}
use Rattle.bundle6.specs.declared.primary.Primary6.{Primary6}
use Rattle.bundle6.specs.declared.block.Block6.{Block6}
use Rattle.bundle6.specs.Spelling.{pair_octets, part_octets, marked}

abbrev pub pairs_octets : List Offsets → List ℕ
pairs_octets pairs = flat_map pair_octets pairs

-- what stands after a primary block's length field
abbrev pub rest_written : Primary6 → List Offsets → List ℕ → List ℕ
rest_written primary pairs dictionary =
    pairs_octets pairs
    ++ (spelling primary.seconds ++ (spelling primary.sequence ++ (spelling primary.lifetime
    ++ ((spelling (length dictionary) ++ dictionary) ++ part_octets primary.fragment))))

abbrev pub primary_written : Primary6 → List ℕ → List ℕ
primary_written primary rest = 6 ∷ (spelling primary.flags ++ (spelling (length rest) ++ rest))

abbrev pub refs_written : List Offsets → List ℕ
refs_written [] = []
refs_written (first ∷ more) = spelling (length (first ∷ more)) ++ pairs_octets (first ∷ more)

abbrev pub block_written : Bool → Block6 → List Offsets → List ℕ
block_written last block pairs =
    block.kind ∷ (spelling (marked last block) ++ (refs_written pairs
    ++ (spelling (length block.body) ++ block.body)))

-- blocks up to the last; of the numbers each takes as many as it has references
unfoldable pub blocks_written : List Block6 → List Offsets → List ℕ
blocks_written [] pairs = []
blocks_written (block ∷ more) pairs =
    block_written (length more == 0) block (take (length block.refs) pairs)
    ++ blocks_written more (drop (length block.refs) pairs)
