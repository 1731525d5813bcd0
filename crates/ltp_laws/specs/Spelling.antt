-- The block, place by place, as the pieces that were sent spell it.

use Rattle.std.specs.Prelude.{◌≡◌, ℕ, ◌<◌, ◌≤◌, true, List, length, slice_index, Option, Some}
use Rattle.ltp_segment.specs.Kinds.{ends_red_part}
use Rattle.ltp_segment.specs.Values.{ContentValue, PieceValue, a_piece}
use Rattle.ltp_session.specs.Cells.{cell, octet_in}
use Rattle.ltp_session.specs.Receiver.{piece_stop}
use Rattle.ltp_laws.specs.Blocks.{IsAt}
use Rattle.ltp_laws.specs.Kept.{IfKept}
use Rattle.ltp_laws.specs.View.{IsIn, View}

-- a piece among these contents has this octet at a place
pub record Holds (said : List ContentValue) (k octet : ℕ) : Type 0 where
  pub piece : PieceValue
  pub among : IsIn (a_piece piece) said
  pub has : octet_in piece.offset piece.body k ≡ Some octet

-- a piece among them ends the red part at a place
pub record Ends (said : List ContentValue) (end : ℕ) : Type 0 where
  pub piece : PieceValue
  pub among : IsIn (a_piece piece) said
  pub ends_there : ends_red_part piece.kind ≡ true
  pub place : piece_stop piece ≡ end

-- the block is what the pieces hold, and its red part ends where they end it
pub record SpellingFacts (block : List ℕ) (red : ℕ) (v : View) : Type 0 where
  pub holds : (k octet : ℕ) → Holds v.by_sender k octet → IsAt block k octet
  pub held : (k : ℕ) → k < length block → Holds v.by_sender k (slice_index block k)
  pub ends_there : (end : ℕ) → Ends v.by_sender end → end ≡ red
  pub ended : 1 ≤ red → Ends v.by_sender red

-- what a receiver keeps is what pieces hold
pub record HoldsCells (said : List ContentValue) (cells : List (Option ℕ)) (known : Option ℕ)
    : Type 0 where
  pub octets : (k octet : ℕ) → cell cells k ≡ Some octet → Holds said k octet
  pub ends_where : (end : ℕ) → known ≡ Some end → Ends said end

pub record HeldFacts (block : List ℕ) (red : ℕ) (v : View) : Type 0 where
  pub held : IfKept (λ r. HoldsCells v.by_sender r.cells r.length) v.receiver

-- some octets are the red part that the pieces spell
pub record IsRedPart (said : List ContentValue) (body : List ℕ) : Type 0 where
  pub octets : (k : ℕ) → k < length body → Holds said k (slice_index body k)
  pub ends_where : Ends said (length body)
