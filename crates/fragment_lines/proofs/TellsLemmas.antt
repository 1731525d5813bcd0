-- A text that is told in parts.
use Rattle.std.proofs.Common.{◌≡◌, ℕ, ◌+◌, ◌<◌, ◌≤◌, List, [], ◌∷◌, ◌++◌, length, take, drop, codes, All, Option, Some, None, Result, Ok, Err, IfOk, refl, sym, ap, ◌∙◌, arith, append_assoc, length-append}
use Rattle.std.proofs.lemmas.List.{append-nil, take-append-drop, drop-drop, length-take-le}
use Rattle.std.proofs.lemmas.List.Elements.{All-head, All-tail}
use Rattle.bundle_meaning.specs.declared.full.Full.{Full}
use Rattle.hex_text.specs.Hex.{encode_lower, encode_with}
use Rattle.hex_text.proofs.DigitLemmas.{encode_lower-append}
use Rattle.fragments.specs.Cutting.{Gives}
use Rattle.fragment_lines.specs.declared.pieces.Line.{Line}
use Rattle.fragment_lines.specs.declared.pieces.Pieces.{Pieces}
use Rattle.fragment_lines.specs.Lines.{hex_line, octets_old, octets_new, spelled_old, spelled_new}
use Rattle.fragment_lines.specs.Cut.{lines_of}
use Rattle.fragment_lines.specs.Tells.{line_left, lines_left, TakesLine, BeginsLine, TellsText}
use Rattle.fragment_lines.specs.Writable.{HasRoom6, HasRoom7}

-- ---- a line isn't empty

pub line-some : (octets : List ℕ) → 0 < length (hex_line octets)
line-some octets =
    let feed : length (codes "\n") ≡ 1 = refl in
    omega (arith, length-append (encode_lower octets) (codes "\n"), feed)

pub line-before : (octets rest : List ℕ) → 0 < length (hex_line octets ++ rest)
line-before octets rest = omega (arith, length-append (hex_line octets) rest, line-some octets)

pub hex-some : (octets : List ℕ) → 0 < length octets → 0 < length (encode_lower octets)
unfolding encode_with
hex-some [] some = absurd (omega (arith, some))
hex-some (x ∷ octets) some = omega arith

-- ---- pieces

pub none-left : (octets : Full → List ℕ) (fulls : List Full) (n : ℕ) → n ≡ length fulls → n ≡ 0 → lines_of octets fulls ≡ []
none-left octets [] n is none = refl
none-left octets (full ∷ fulls) n is none = absurd (omega (arith, is, none))

pub some-left : (octets : Full → List ℕ) (fulls : List Full) (n : ℕ) → n ≡ length fulls → (n ≡ 0 → ⊥) → 0 < length (lines_of octets fulls)
some-left octets [] n is some = absurd (some is)
some-left octets (full ∷ fulls) n is some = line-before (octets full) (lines_of octets fulls)

pub next-none : (octets : Full → List ℕ) (old new : List Full) → Gives old new None
    → TakesLine (lines_of octets old) (lines_of octets new) None
next-none octets old new (none, same) = (ap (lines_of octets) none, ap (lines_of octets) same)

pub next-room : (P : Full → Type 0) (old new : List Full) (piece : Full) → Gives old new (Some piece) → All P old → P piece × All P new
next-room P old new piece is all =
    let there : All P (piece ∷ new) = rw is at all in
    (All-head P piece new there, All-tail P piece new there)

next-six : (old new : List Full) (piece : Full) (made : Option (List ℕ)) → Gives old new (Some piece) → HasRoom6 piece
    → made ≡ spelled_old piece → TakesLine (lines_of octets_old old) (lines_of octets_old new) made
next-six old new piece made is has same =
    let some : made ≡ Some (octets_old piece) = rw has.fits at same in
    rw some (ap (lines_of octets_old) is)

next-seven : (old new : List Full) (piece : Full) (made : Option (List ℕ)) → Gives old new (Some piece) → HasRoom7 piece
    → made ≡ spelled_new piece → TakesLine (lines_of octets_new old) (lines_of octets_new new) made
next-seven old new piece made is has same =
    let some : made ≡ Some (octets_new piece) = rw has.fits at same in
    rw some (ap (lines_of octets_new) is)

pub next-six-if : {E : Type 0} (old new : List Full) (piece : Full) (result : Result (Option (List ℕ)) E) → Gives old new (Some piece)
    → HasRoom6 piece → IfOk result (λ made. made ≡ spelled_old piece) → IfOk result (TakesLine (lines_of octets_old old) (lines_of octets_old new))
next-six-if old new piece (Ok made) is has same = next-six old new piece made is has same
next-six-if old new piece (Err e) is has same = tt

pub next-seven-if : {E : Type 0} (old new : List Full) (piece : Full) (result : Result (Option (List ℕ)) E) → Gives old new (Some piece)
    → HasRoom7 piece → IfOk result (λ made. made ≡ spelled_new piece) → IfOk result (TakesLine (lines_of octets_new old) (lines_of octets_new new))
next-seven-if old new piece (Ok made) is has same = next-seven old new piece made is has same
next-seven-if old new piece (Err e) is has same = tt

-- ---- a line

is-begun : (line : Line) → Some line ≡ None → ⊥
is-begun line is = cc

pub begins-next : (old mid new : Option Pieces) (octets : List ℕ) → TakesLine (lines_left old) (lines_left mid) (Some octets)
    → lines_left new ≡ lines_left mid → BeginsLine (line_left None ++ lines_left old) (Some (record { octets = octets; at = 0 })) new
begins-next old mid new octets takes same = record {
  begun = is-begun (record { octets = octets; at = 0 });
  same = ap (λ (v : List ℕ). hex_line octets ++ v) same ∙ sym takes;
}

pub nothing-next : {P : Type 0} (old : Option Pieces) (new : List ℕ) → TakesLine (lines_left old) new None → 0 < length (line_left None ++ lines_left old) → P
nothing-next old new takes some =
    let zero : length (lines_left old) ≡ 0 = ap length takes.0 in
    absurd (omega (arith, some, zero))

-- octets of a line were told
pub tells-octets : (octets : List ℕ) (at size : ℕ) (piece before now : List ℕ) → 0 < size → size ≤ length (drop at octets)
    → piece ≡ take size (drop at octets) → now ≡ before ++ encode_lower piece
    → TellsText (hex_line (drop at octets)) (hex_line (drop (at + size) octets)) before now
tells-octets octets at size piece before now some inside is added =
    let first = take size (drop at octets) in
    let second = drop size (drop at octets) in
    let later : drop (at + size) octets ≡ second = sym (drop-drop size at octets) in
    record {
      part = encode_lower first;
      added = added ∙ ap (λ (v : List ℕ). before ++ encode_lower v) is;
      parts =
          ap hex_line (sym (take-append-drop size (drop at octets)))
          ∙ ap (λ (v : List ℕ). v ++ codes "\n") (encode_lower-append first second)
          ∙ append_assoc (encode_lower first) (encode_lower second) (codes "\n")
          ∙ ap (λ (v : List ℕ). encode_lower first ++ hex_line v) (sym later);
      some = hex-some first (omega (arith, some, length-take-le size (drop at octets) inside));
    }

-- the rest of it was told
pub tells-line : (octets before now : List ℕ) → now ≡ before ++ hex_line octets → TellsText (hex_line octets) [] before now
tells-line octets before now added = record {
  part = hex_line octets;
  added = added;
  parts = sym (append-nil (hex_line octets));
  some = line-some octets;
}

-- ---- one part after another

pub tells-more : (old mid new before text now : List ℕ) → TellsText old mid before text → TellsText mid new text now
    → TellsText old new before now
tells-more old mid new before text now first second = record {
  part = first.part ++ second.part;
  added = second.added ∙ ap (λ (v : List ℕ). v ++ second.part) first.added ∙ append_assoc before first.part second.part;
  parts = first.parts ∙ ap (λ (v : List ℕ). first.part ++ v) second.parts ∙ sym (append_assoc first.part second.part new);
  some = omega (arith, first.some, length-append first.part second.part);
}
