-- Reading a stream of values of a format in pieces.

use Rattle.std.specs.Prelude.{◌≡◌, ℕ, ◌+◌, ◌-◌, ◌<◌, ◌≤◌, Bool, true, false, nat_lt, if◌then◌else◌, List, [], ◌++◌, length, take, Option, Some, None, Result, Ok, Err, IsOk, ◌⊎◌}
use Rattle.wire_fields.specs.Format.{Format, Spells}
use Rattle.wire_fields.specs.Refusal.{Stop, truncated, because}
use Rattle.wire_fields.specs.Reading.{read, IsOctets}

-- What comes in a stream: values of a format, those that are legal; the cause where the octets end inside
-- a value, and the cause where a value is longer than the longest.
pub record Streamed (C A : Type 0) : Type 1 where
  pub format : Format C A
  pub legal : A → Type 0
  pub cut_short : C
  pub too_long : C

-- A stream as far as it was taken: how many octets its values took, and the octets after them.
pub record Stream : Type 0 where
  pub before : ℕ
  pub kept : List ℕ

-- a reader of a stream: what it took, the refusal that it met, and whether memory ran out
pub record Reading (R : Type 0) : Type 0 where
  pub stream : Stream
  pub refused : Option R
  pub spent : Bool

-- What a call answers to a piece: how many octets of it were taken, and what they completed, or nothing;
-- a refusal at a place for a cause; or that memory is wanted.
pub data Answer (C A : Type 0) : Type 0 where
  took : ℕ → Option A → Answer C A
  refuses : ℕ → C → Answer C A
  wants_memory : Answer C A

-- a failure as an answer: a refusal at a place for a cause, or else want of memory
abbrev pub failed : {C A : Type 0} → Option (ℕ × C) → Answer C A
failed (Some (at, cause)) = refuses at cause
failed None = wants_memory

-- the octets end inside a value that they begin, or are none
abbrev pub IsOpen : {C A : Type 0} → Streamed C A → List ℕ → Type 0
IsOpen s text = (at : ℕ) × (read s.format text 0 ≡ Err (at, truncated))

-- A piece was taken: up to the end of the first value, which is legal, or all of it where none ends in it.
abbrev pub Takes : {C A : Type 0} → Streamed C A → ℕ → Stream → List ℕ → ℕ → Option A → Stream → Type 0
Takes s longest old piece used (Some a) new =
    (used ≤ length piece) × (length old.kept + used ≤ longest)
    × (read s.format (old.kept ++ piece) 0 ≡ Ok (a, length old.kept + used)) × s.legal a
    × (new ≡ record { before = old.before + (length old.kept + used); kept = [] })
Takes s longest old piece used None new =
    (used ≡ length piece) × (length old.kept + length piece ≤ longest) × IsOpen s (old.kept ++ piece)
    × (new ≡ record { before = old.before; kept = old.kept ++ piece })

-- the octets of a piece with which a value is no longer than the longest
abbrev pub near : ℕ → Stream → List ℕ → List ℕ
near longest old piece = take (longest - length old.kept) piece

-- with the octets of a piece the unfinished value is refused at a place for a cause
pub record HasRefusal {C A : Type 0} (s : Streamed C A) (old : Stream) (piece : List ℕ)
    (at : ℕ) (cause : C) : Type 0 where
  pub place : ℕ
  pub reads : read s.format (old.kept ++ piece) 0 ≡ Err (place, because cause)
  pub spot : at ≡ old.before + place

-- the unfinished value is open where the longest has ended, and another octet follows
pub record IsTooLong {C A : Type 0} (s : Streamed C A) (longest : ℕ) (old : Stream) (piece : List ℕ)
    (at : ℕ) (cause : C) : Type 0 where
  pub begun : IsOpen s (old.kept ++ near longest old piece)
  pub more : longest < length old.kept + length piece
  pub spot : at ≡ old.before
  pub named : cause ≡ s.too_long

abbrev pub Refuses : {C A : Type 0} → Streamed C A → ℕ → Stream → List ℕ → ℕ → C → Type 0
Refuses s longest old piece at cause =
    HasRefusal s old (near longest old piece) at cause ⊎ IsTooLong s longest old piece at cause

-- a piece has octets, and one of them is near
abbrev pub HasNear : ℕ → Stream → List ℕ → Type 0
HasNear longest old piece = (0 < length piece) × (length old.kept < longest)

-- all of a piece begins a value that it leaves open, and is no longer than the longest
abbrev pub BeginsOpen : {C A : Type 0} → Streamed C A → ℕ → List ℕ → Type 0
BeginsOpen s longest piece = (length piece ≤ longest) × IsOpen s piece

-- What a piece gives. Memory is wanted only for octets that are near; where nothing was kept before the
-- piece, only for all of it, which is to be kept, or for a value that it has at its front.
abbrev pub Feeds : {C A : Type 0} → Streamed C A → ℕ → Stream → List ℕ → Answer C A → Stream → Type 0
Feeds s longest old piece (took used found) new = Takes s longest old piece used found new
Feeds s longest old piece (refuses at cause) new = Refuses s longest old piece at cause
Feeds s longest old piece wants_memory new =
    HasNear longest old piece
    × (old.kept ≡ [] → BeginsOpen s longest piece ⊎ IsOk (read s.format (near longest old piece) 0))

-- A piece was taken as `Takes` has it, and of a value that is whole no more is told than how many octets
-- it has. They spell it.
abbrev pub TakesSize : {C A : Type 0} → Streamed C A → ℕ → Stream → List ℕ → ℕ → Option ℕ → Stream → Type 0
TakesSize {A = A} s longest old piece used (Some size) new =
    (size ≡ length old.kept + used)
    × ((a : A) × Spells s.format [] (old.kept ++ take used piece) a
    × Takes s longest old piece used (Some a) new)
TakesSize s longest old piece used None new = Takes s longest old piece used None new

-- What a piece gives where no value is wanted. Memory is wanted only for octets that are near, which are
-- kept: where nothing was kept before the piece, only where it begins a value and doesn't end it.
abbrev pub JudgesPiece : {C A : Type 0} → Streamed C A → ℕ → Stream → List ℕ → Answer C ℕ → Stream → Type 0
JudgesPiece s longest old piece (took used size) new = TakesSize s longest old piece used size new
JudgesPiece s longest old piece (refuses at cause) new = Refuses s longest old piece at cause
JudgesPiece s longest old piece wants_memory new =
    HasNear longest old piece × (old.kept ≡ [] → BeginsOpen s longest piece)

-- The end of the stream: nothing is kept, or the octets end inside a value, which is refused.
abbrev pub Finishes : {C A : Type 0} → Streamed C A → Stream → Option (ℕ × C) → Type 0
Finishes s old None = old.kept ≡ []
Finishes s old (Some (at, cause)) =
    ((old.kept ≡ []) → ⊥) × (cause ≡ s.cut_short)
    × ((p : ℕ) × (read s.format old.kept 0 ≡ Err (p, truncated)) × (at ≡ old.before + p))

-- ---- what a reader remembers

-- what a reader remembers of a failure: a refusal, or want of memory
abbrev pub RemembersFail : {R : Type 0} → Option R → Reading R → Type 0
RemembersFail (Some refused) new = (new.refused ≡ Some refused) × (new.spent ≡ false)
RemembersFail None new = new.spent ≡ true

-- what a reader remembers of an answer, of whose failures some are refusals
abbrev pub Remembers : {A F R : Type 0} → (F → Option R) → Result A F → Reading R → Type 0
Remembers refusal (Ok x) new = (new.refused ≡ None) × (new.spent ≡ false)
Remembers refusal (Err fail) new = RemembersFail (refusal fail) new

-- a reader that met a refusal answers it again, and stays as it is
pub record AnswersAgain {A F R : Type 0} (fail : R → F) (refused : R) (old : Reading R)
    (result : Result A F) (new : Reading R) : Type 0 where
  pub answer : result ≡ Err (fail refused)
  pub kept : new ≡ old

-- ---- one answer

-- the answer to a piece, by what the octets kept and the near ones of the piece are; whether more of it
-- follow
abbrev pub answer_of : {C A : Type 0} → Streamed C A → Stream → List ℕ → Bool
    → Result (A × ℕ) (ℕ × Stop C) → Answer C A
answer_of s old piece more (Ok x) = took (x.1 - length old.kept) (Some x.0)
answer_of s old piece more (Err (at, truncated)) =
    if more then refuses old.before s.too_long else took (length piece) None
answer_of s old piece more (Err (at, because cause)) = refuses (old.before + at) cause

abbrev pub answer : {C A : Type 0} → Streamed C A → ℕ → Stream → List ℕ → Answer C A
answer s longest old piece =
    answer_of s old piece (nat_lt longest (length old.kept + length piece))
    (read s.format (old.kept ++ near longest old piece) 0)

-- A piece has one answer, or memory is wanted.
abbrev pub HaveOneAnswer : {C A : Type 0} → Streamed C A → ℕ → Type 0
HaveOneAnswer {C} {A} s longest = (old new : Stream) (piece : List ℕ) (result : Answer C A)
    → length old.kept ≤ longest → IsOctets (old.kept ++ piece)
    → Feeds s longest old piece result new → (result ≡ wants_memory → ⊥)
    → result ≡ answer s longest old piece

-- ---- cutting

-- an answer to a piece, as one to so many octets more before it
abbrev pub later : {C A : Type 0} → ℕ → Answer C A → Answer C A
later n (took used found) = took (n + used) found
later n (refuses at cause) = refuses at cause
later n wants_memory = wants_memory

-- A piece that completes nothing, and another after it, give what both give as one piece.
abbrev pub CutsAlike : {C A : Type 0} → Streamed C A → ℕ → Type 0
CutsAlike {C} {A} s longest = (old mid new : Stream) (first second : List ℕ) (result : Answer C A)
    → Takes s longest old first (length first) None mid → Feeds s longest mid second result new
    → (result ≡ wants_memory → ⊥)
    → Feeds s longest old (first ++ second) (later (length first) result) new
