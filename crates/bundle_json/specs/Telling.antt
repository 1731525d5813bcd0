-- What is left to tell of a bundle of version 6, whose octets are at hand.
use Rattle.std.specs.Prelude.{◌≡◌, ℕ, ◌+◌, ◌-◌, ◌*◌, ◌<◌, List, [], ◌++◌, length, drop, codes, Bool, true, false}
use Rattle.std.specs.Fmt.{decimal}
use Rattle.hex_text.specs.Hex.{encode_lower}
use Rattle.endpoint.specs.declared.name.Endpoint.{Endpoint}
use Rattle.serde_json.specs.Written.{compact_text}
use Rattle.bundle6.specs.declared.primary.Primary6.{Primary6}
use Rattle.bundle6.specs.declared.block.Block6.{Block6}
use Rattle.bundle_json.specs.declared.walk.BlockView.{BlockView}
use Rattle.bundle_json.specs.declared.telling6.Telling6.{Telling6}
use Rattle.bundle_json.specs.declared.telling6.Stage.{Stage}
use Rattle.bundle_json.specs.declared.telling6.Stage.TheVariants as stages
use Rattle.bundle_json.specs.Json.{name, block6}
use Rattle.bundle_json.specs.Frames.{empty, head6}
use Rattle.bundle_json.specs.Commas.{with_commas}
use Rattle.bundle_json.specs.Laid.{LiesAt, AreRefs, ShowsPrimary, ShowsBlock, BlocksLie, texts_in}

-- ---- the texts

-- what stands after the blocks: the text of the bundle without them but for its front
unfoldable pub primary_text : Primary6 → List ℕ
primary_text primary = drop 11 (compact_text (head6 empty primary))

-- what stands between the octets of a block and its references
abbrev pub head_text : (flags kind : ℕ) → List ℕ
head_text flags kind =
    codes "\",\"flags\":" ++ (decimal flags ++ (codes ",\"kind\":" ++ (decimal kind ++ codes ",\"refs\":[")))

-- what stands after the octets of a last block without references
abbrev pub closing_text : (flags kind : ℕ) → Primary6 → List ℕ
closing_text flags kind primary = head_text flags kind ++ (codes "]}" ++ primary_text primary)

-- blocks, and what stands after them
abbrev pub blocks_text : Bool → List Block6 → Primary6 → List ℕ
blocks_text later blocks primary = with_commas block6 later blocks ++ primary_text primary

-- the references of a block, and what stands after them
abbrev pub refs_text : Bool → List Endpoint → List Block6 → Primary6 → List ℕ
refs_text later refs blocks primary =
    with_commas name later refs ++ (codes "]}" ++ blocks_text true blocks primary)

-- octets of a block, and what stands after them
abbrev pub body_text : List ℕ → Block6 → List Block6 → Primary6 → List ℕ
body_text left block blocks primary =
    encode_lower left ++ (head_text block.flags block.kind ++ refs_text false block.refs blocks primary)

-- ---- where the telling stands

-- before a block, or after the last
pub record AtBlocks (octets dictionary : List ℕ) (primary : Primary6) (at : ℕ) (later : Bool) (rest : List ℕ) : Type 0 where
  pub blocks : List Block6
  pub blocks_lie : BlocksLie octets dictionary at blocks
  pub text : rest ≡ blocks_text later blocks primary

-- at octets of a block
pub record AtBody (octets dictionary : List ℕ) (primary : Primary6) (at : ℕ) (view : BlockView) (rest : List ℕ) : Type 0 where
  pub block : Block6
  pub blocks : List Block6
  pub start : ℕ
  pub shows : ShowsBlock octets dictionary start view block
  pub blocks_lie : BlocksLie octets dictionary view.after blocks
  pub left : List ℕ
  pub more : List ℕ
  pub left_lies : LiesAt octets at (left ++ more)
  pub reach : at + length left ≡ view.after
  pub text : rest ≡ body_text left block blocks primary

-- at references of a block
pub record AtRefs (octets dictionary : List ℕ) (primary : Primary6) (at left after : ℕ) (later : Bool) (rest : List ℕ) : Type 0 where
  pub refs : List Endpoint
  pub blocks : List Block6
  pub own : List ℕ
  pub more : List ℕ
  pub are : AreRefs dictionary own refs
  pub many : left ≡ length refs
  pub lie : LiesAt octets at (own ++ more)
  pub blocks_lie : BlocksLie octets dictionary after blocks
  pub text : rest ≡ refs_text later refs blocks primary

abbrev pub LeftAt : List ℕ → List ℕ → Primary6 → ℕ → Stage → List ℕ → Type 0
LeftAt octets dictionary primary at stages.Open rest =
    (later : List ℕ) × (rest ≡ codes "{\"blocks\":[" ++ later) × AtBlocks octets dictionary primary at false later
LeftAt octets dictionary primary at (stages.Block later) rest = AtBlocks octets dictionary primary at later rest
LeftAt octets dictionary primary at (stages.Body view) rest = AtBody octets dictionary primary at view rest
LeftAt octets dictionary primary at (stages.Refs left later after) rest = AtRefs octets dictionary primary at left after later rest
LeftAt octets dictionary primary at stages.Over rest = rest ≡ []

-- this is left to tell
pub record Left (octets : List ℕ) (telling : Telling6) (rest : List ℕ) : Type 0 where
  pub primary : Primary6
  pub shows : ShowsPrimary octets telling.primary primary
  pub left : LeftAt octets (texts_in octets telling.primary.texts) primary telling.at telling.stage rest

-- how many more steps there can be
abbrev pub steps_at : ℕ → ℕ → Stage → ℕ
steps_at size at stages.Open = 4 * (size - at) + 5
steps_at size at (stages.Block later) = 4 * (size - at) + 4
steps_at size at (stages.Body view) = 4 * (size - view.after) + 7 + (view.after - at) + view.count
steps_at size at (stages.Refs left later after) = 4 * (size - after) + 6 + left
steps_at size at stages.Over = 0

abbrev pub steps_left : List ℕ → Telling6 → ℕ
steps_left octets telling = steps_at (length octets) telling.at telling.stage

-- a part of it was told
pub record Tells (octets : List ℕ) (old new : Telling6) (before now rest : List ℕ) : Type 0 where
  pub part : List ℕ
  pub later : List ℕ
  pub added : now ≡ before ++ part
  pub parts : rest ≡ part ++ later
  pub left : Left octets new later
  pub less : steps_left octets new < steps_left octets old
