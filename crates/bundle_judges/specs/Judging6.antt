-- A judge of a stream of bundles of version 6: what it is told, and what it answers.

use Rattle.std.specs.Prelude.{◌≡◌, ℕ, ◌+◌, ◌<◌, ◌≤◌, Bool, true, false, List, [], length, Option, Some, None, Result, Ok, Err}
use Rattle.bundle6.specs.declared.fault.Refused6.{Refused6}
use Rattle.bundle6.specs.declared.fault.Fail6.{Fail6}
use Rattle.bundle6.specs.declared.fault.Fail6.TheVariants.{Refused, Memory}
use Rattle.bundle6.specs.declared.reader.Judged6.{Judged6}
use Rattle.bundle6.specs.Judging.{judged_primary}
use Rattle.bundle6.specs.Streaming.{Stream, BeginsOpen, JudgesPiece}
use Rattle.bundle_judges.specs.declared.stand6.Stand.{Stand}
use Rattle.bundle_judges.specs.Field6.{IsCut}
use Rattle.bundle_judges.specs.Stand6.{TookSo, IsOfPrimary}

-- a judge of a stream: where it stands, the refusal that it met, and whether memory ran out
pub record Judging : Type 0 where
  pub stand : Stand
  pub refused : Option Refused6
  pub spent : Bool

-- What a judge keeps of the octets that came: those of the primary block and no others, and fewer
-- than 21 of another field.
pub record KeepsLittle (s : Stand) : Type 0 where
  pub main : IsOfPrimary s.main.items
  pub head : length s.head < 21

-- a judge took a stream so far
pub record HasTaken (longest : ℕ) (stream : Stream) (s : Stand) : Type 0 where
  pub took : TookSo stream s
  pub small : length stream.kept ≤ longest
  pub keeps : KeepsLittle s

-- it took some stream
abbrev pub IsTaking : Stand → Type 0
IsTaking s = (stream : Stream) × HasTaken 67108864 stream s

-- how many octets it took
abbrev pub taken_by : Stand → ℕ
taken_by s = s.before + s.came

-- What a piece gives is what it gives a reader that keeps all octets, of which no bundle is wanted; and
-- the judge took it. Memory is wanted only where the octets so far end inside the primary block; where
-- none came before the piece, only where it begins a bundle and doesn't end it.
abbrev pub JudgesOn : ℕ → Stream → List ℕ → Result Judged6 Fail6 → Stand → Type 0
JudgesOn longest old piece (Ok judged) new =
    (after : Stream) × JudgesPiece longest old piece (Ok judged) after × HasTaken longest after new
JudgesOn longest old piece (Err (Refused at cause)) new =
    JudgesPiece longest old piece (Err (Refused at cause)) old
JudgesOn longest old piece (Err Memory) new =
    (old.kept ≡ [] → BeginsOpen longest piece) × IsCut judged_primary old.kept

-- what a judge remembers of a failure: a refusal, or want of memory
abbrev pub RemembersFail : Fail6 → Judging → Type 0
RemembersFail (Refused at cause) new =
    (new.refused ≡ Some (record { at = at; cause = cause })) × (new.spent ≡ false)
RemembersFail Memory new = new.spent ≡ true

-- what a judge remembers of an answer
abbrev pub Remembers : {A : Type 0} → Result A Fail6 → Judging → Type 0
Remembers (Ok x) new = (new.refused ≡ None) × (new.spent ≡ false)
Remembers (Err fail) new = RemembersFail fail new

-- a judge that met a refusal answers it again, and stays as it is
pub record AnswersAgain {A : Type 0} (refused : Refused6) (old : Judging)
    (result : Result A Fail6) (new : Judging) : Type 0 where
  pub answer : result ≡ Err (Refused refused.at refused.cause)
  pub kept : new ≡ old
