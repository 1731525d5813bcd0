-- What is left of a text that is told in parts.
use Rattle.std.specs.Prelude.{◌≡◌, ℕ, ◌<◌, ◌≤◌, List, [], ◌++◌, length, drop, Option, Some, None}
use Rattle.std.specs.List.{All}
use Rattle.fragment_lines.specs.declared.pieces.Line.{Line}
use Rattle.fragment_lines.specs.declared.pieces.Pieces.{Pieces}
use Rattle.fragment_lines.specs.declared.pieces.Pieces.TheVariants.{Six, Seven}
use Rattle.fragment_lines.specs.Lines.{hex_line, octets_old, octets_new}
use Rattle.fragment_lines.specs.Cut.{lines_of}
use Rattle.fragment_lines.specs.Writable.{HasRoom6, HasRoom7}

-- a part of a text, an octet at least, was added to the text before, and the rest of it is left
pub record TellsText (old new before now : List ℕ) : Type 0 where
  pub part : List ℕ
  pub added : now ≡ before ++ part
  pub parts : old ≡ part ++ new
  pub some : 0 < length part

-- ---- what only ties code to it

-- what is left of a line
abbrev pub line_left : Option Line → List ℕ
line_left None = []
line_left (Some line) = hex_line (drop line.at line.octets)

abbrev pub IsInside : Option Line → Type 0
IsInside None = Unit {0}
IsInside (Some line) = line.at ≤ length line.octets

-- the lines of the pieces that are left
abbrev pub lines_left : Option Pieces → List ℕ
lines_left None = []
lines_left (Some (Six cutter)) = lines_of octets_old cutter
lines_left (Some (Seven cutter)) = lines_of octets_new cutter

-- each of them has a view
abbrev pub HaveRoom : Option Pieces → Type 0
HaveRoom None = Unit {0}
HaveRoom (Some (Six cutter)) = All HasRoom6 cutter
HaveRoom (Some (Seven cutter)) = All HasRoom7 cutter

-- the octets of the next line were given, or no line was left
abbrev pub TakesLine : List ℕ → List ℕ → Option (List ℕ) → Type 0
TakesLine old new (Some octets) = old ≡ hex_line octets ++ new
TakesLine old new None = (old ≡ []) × (new ≡ [])

-- a line is begun, and the text that is left is the same
pub record BeginsLine (left : List ℕ) (line : Option Line) (pieces : Option Pieces) : Type 0 where
  pub begun : line ≡ None → ⊥
  pub same : line_left line ++ lines_left pieces ≡ left
