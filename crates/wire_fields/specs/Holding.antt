-- What the octets that a reader of a stream has give, and what a pass over a piece tells.

use Rattle.std.specs.Prelude.{◌≡◌, ℕ, ◌+◌, ◌<◌, ◌≤◌, Bool, true, false, List, [], ◌∷◌, ◌++◌, length, take, Option, Some, None, Result, Ok, Err, ◌⊎◌}
use Rattle.wire_fields.specs.Refusal.{because}
use Rattle.wire_fields.specs.Reading.{read, IsOctets}
use Rattle.wire_fields.specs.Streaming.{Streamed, Stream, IsOpen}

-- octets are refused: for a cause, or because no more may follow them and the value is open
pub record IsSpread {C A : Type 0} (s : Streamed C A) (text : List ℕ) (cut : Bool)
    (at : ℕ) (cause : C) : Type 0 where
  pub begun : IsOpen s text
  pub more : cut ≡ true
  pub spot : at ≡ 0
  pub named : cause ≡ s.too_long

abbrev pub IsRefused : {C A : Type 0} → Streamed C A → List ℕ → Bool → ℕ → C → Type 0
IsRefused s text cut at cause =
    (read s.format text 0 ≡ Err (at, because cause)) ⊎ IsSpread s text cut at cause

-- a value at the front, whatever follows the octets
pub record IsWhole {C A : Type 0} (s : Streamed C A) (text : List ℕ) (a : A) (k : ℕ) : Type 0 where
  pub within : k ≤ length text
  pub octets : IsOctets text
  pub reads : (more : List ℕ) → read s.format (text ++ more) 0 ≡ Ok (a, k)
  pub legal : s.legal a

-- the octets kept, or where none are those of a piece
abbrev pub text_of : List ℕ → List ℕ → List ℕ
text_of [] piece = piece
text_of (x ∷ xs) piece = x ∷ xs

-- a piece ended a value, whose octets are kept or lie in the piece; what was kept before can be had again
pub record HasEnded {C A : Type 0} (s : Streamed C A) (old : Stream) (piece : List ℕ)
    (k : ℕ) (new : Stream) : Type 0 where
  pub value : A
  pub whole : IsWhole s (old.kept ++ piece) value k
  pub late : length old.kept ≤ k
  pub text : text_of new.kept piece ≡ old.kept ++ piece
  pub part : take (length old.kept) new.kept ≡ old.kept
  pub before : new.before ≡ old.before

-- after a piece a value is open, and all of it is kept
pub record IsOpenWith {C A : Type 0} (s : Streamed C A) (old : Stream) (piece : List ℕ) (cut : Bool)
    (new : Stream) : Type 0 where
  pub last : cut ≡ false
  pub begun : IsOpen s new.kept
  pub stream : new ≡ record { before = old.before; kept = old.kept ++ piece }

-- a place and a cause are those of a refusal, which leaves the stream as it was
pub record IsTurned {C A : Type 0} (s : Streamed C A) (old : Stream) (piece : List ℕ) (cut : Bool)
    (at : ℕ) (cause : C) (new : Stream) : Type 0 where
  pub place : ℕ
  pub refused : IsRefused s (old.kept ++ piece) cut place cause
  pub spot : at ≡ old.before + place
  pub same : new ≡ old

-- memory ran out: for the octets of a piece, which began a value or went on with one
pub record WantsRoom {C A : Type 0} (s : Streamed C A) (old : Stream) (piece : List ℕ) (cut : Bool)
    (new : Stream) : Type 0 where
  pub some : 0 < length piece
  pub begun : old.kept ≡ [] → (cut ≡ false) × IsOpen s piece
  pub same : new ≡ old

-- What a pass over a piece tells, after which no more may follow where it is cut: where the value ends, or
-- that it is open; the place and the cause of a refusal, or that memory ran out.
abbrev pub PassesOver : {C A : Type 0}
    → Streamed C A → Stream → List ℕ → Bool → Result (Option ℕ) (Option (ℕ × C)) → Stream → Type 0
PassesOver s old piece cut (Ok (Some k)) new = HasEnded s old piece k new
PassesOver s old piece cut (Ok None) new = IsOpenWith s old piece cut new
PassesOver s old piece cut (Err (Some (at, cause))) new = IsTurned s old piece cut at cause new
PassesOver s old piece cut (Err None) new = WantsRoom s old piece cut new
