-- What code keeps of the extension blocks so far.
use Rattle.std.specs.Prelude.{◌≡◌, ℕ, ◌-◌, List, [], ◌∷◌, ◌++◌, length, Option}
use Rattle.endpoint.specs.declared.extent.Fragment.{Fragment}
use Rattle.wire_fields.specs.Reading.{read}
use Rattle.bundle7.specs.declared.block.Block7.{Block7}
use Rattle.bundle7.specs.declared.seen.Seen.{Seen}
use Rattle.bundle7.specs.Table.{seen_of, blocks}

-- one more block
abbrev pub seen_with : Seen → ℕ → ℕ → Seen
seen_with seen kind number = record {
  kinds = seen.kinds ++ kind ∷ [];
  numbers = seen.numbers ++ number ∷ [];
}

-- After i of at most n extension blocks, which began at a place, the next stands at another: what is
-- left to read gives what all of it gives. The earlier blocks themselves are not kept.
pub record SoFar (part : Option Fragment) (text : List ℕ) (n at i : ℕ) (seen : Seen) (next : ℕ) : Type 0 where
  pub earlier : List Block7
  pub shows : seen ≡ seen_of earlier
  pub count : length earlier ≡ i
  pub rest : read (blocks part (n - i) earlier) text next ≡ read (blocks part n []) text at
