-- What the journal has whenever the gateway stops: at each datagram that goes out, by the acts so far.

use Rattle.std.specs.Prelude.{◌≡◌, Bool, true, false, List, ◌∷◌, ◌++◌, Some, IsSomeAnd}
use Rattle.gate_cases.specs.declared.face.Face.{Face}
use Rattle.journal_file.specs.Values.{KeptValue}
use Rattle.peer_half.specs.Acts.{Act, sent, lost, said, shown, committed, installed}
use Rattle.peer_half.specs.Half.{Came, half}
use Rattle.peer_half.specs.Runs.{Run, acts_of, stands_at}
use Rattle.peer_journal_laws.specs.Keeps.{KeepsNumbers, kept_by, kept_from}
use Rattle.peer_journal_laws.specs.Marks.{KeepsMarks}
use Rattle.peer_journal_laws.specs.Pieces.{KeepsEarlier, KeepsPieces}

-- a datagram goes out, whether it is sent or lost
abbrev pub goes_out : Act → Bool
goes_out (sent face datagram) = true
goes_out (lost face datagram) = true
goes_out (said line) = false
goes_out (shown text) = false
goes_out (committed records) = false
goes_out (installed kept) = false

-- Of all steps of a run and of its next half this keeps: each piece that was added, unless its session ended; each that
-- was pending when the run began, unless its session ended; the mark of each session of the peer on which a report went
-- out before it was handed up, unless the session was over then or too many marks came after; and each session number
-- that was given.
pub record HasAll (r : Run) (face : Face) (came : Came) (kept : KeptValue) : Type 0 where
  pub pieces : KeepsPieces r face came kept
  pub earlier : KeepsEarlier r face came kept
  pub marks : KeepsMarks r face came kept
  pub numbers : KeepsNumbers r face came kept

-- At each datagram that goes out in a half of a run with a journal, whatever came before, what the acts so far say is
-- kept has all of this. So what a report claims, and what a block carries, is in the journal before that goes out.
abbrev pub HasAllAtDatagrams : Type 0
HasAllAtDatagrams =
    (r : Run) (face : Face) (came : Came) (first : KeptValue) → r.kept ≡ Some first
    → (before : List Act) (act : Act) (after : List Act)
    → (half r.board face came (stands_at r)).acts ≡ before ++ act ∷ after → goes_out act ≡ true
    → IsSomeAnd (kept_from (kept_by (acts_of r)) before) (HasAll r face came)
