-- The receiver's law: each red part is handed up with the line that completes it, a refused line
-- ends the run, and so does a limit.
use Rattle.std.specs.Prelude.{◌≡◌, ℕ, ◌+◌, ◌-◌, ◌<◌, Bool, true, false, not, ◌&&◌, ◌||◌, nat_lt, List, [], ◌∷◌, ◌++◌, length, take, slice_index_or, ◌↔◌, ◌⊎◌, if◌then◌else◌}
use Rattle.edge_traits.specs.declared.status.Status.{Status}
use Rattle.edge_traits.specs.declared.status.Status.TheVariants as statuses
use Rattle.ltp_session.specs.declared.name.SessionName.{SessionName}
use Rattle.command_frame.specs.InputLines.{lines_within}
use Rattle.ltp_session.specs.RedPart.{RedPiece, is_whole, BecomesWhole}
use Rattle.receive_run.specs.LineContent.{LineContent, no_hex, no_segment, other, red, content_of}
use Rattle.receive_run.specs.Session.{Reply, nothing, up}
use Rattle.receive_run.specs.WrittenLines.{hex_line, cause_line, reply_line}
use Rattle.receive_run.specs.Receive.{Limits}
use Rattle.receive_run.specs.Taken.{with_piece, taken}

-- with this line, after those before it, the session's red part becomes whole, and is this
abbrev pub CompletesRedPart : ℕ → List (List ℕ) → List ℕ → SessionName → List ℕ → Type 0
CompletesRedPart most before line name body =
    BecomesWhole (taken most name [] before) (taken most name [] (before ++ line ∷ [])) body

-- ---- how many sessions are unfinished: those opened, less those whose red part became whole

abbrev pub is_begun : List RedPiece → Bool
is_begun [] = false
is_begun (p ∷ earlier) = true

-- a session's first piece that counts opens it; one with which its red part is whole closes it
abbrev pub opens : (before now : List RedPiece) → Bool
opens before now = not (is_begun before) && is_begun now

abbrev pub closes : (before now : List RedPiece) → Bool
closes before now = not (is_whole before) && is_whole now

abbrev pub one_if : Bool → ℕ
one_if b = if b then 1 else 0

-- whether this is so of the pieces of a line's session, before the line and after it
abbrev pub by_content : (List RedPiece → List RedPiece → Bool) → ℕ → List (List ℕ) → LineContent → Bool
by_content test most before no_hex = false
by_content test most before (no_segment at cause) = false
by_content test most before other = false
by_content test most before (red p) =
    test (taken most p.name [] before) (with_piece most p.name (taken most p.name [] before) (red p))

-- of how many lines it is so, which come after those before them
abbrev pub so_many : (List RedPiece → List RedPiece → Bool) → ℕ → List (List ℕ) → List (List ℕ) → ℕ
so_many test most before [] = 0
so_many test most before (line ∷ lines) =
    one_if (by_content test most before (content_of line)) + so_many test most (before ++ line ∷ []) lines

-- how many sessions are unfinished after some lines
abbrev pub unfinished_after : ℕ → List (List ℕ) → ℕ
unfinished_after most lines = so_many opens most [] lines - so_many closes most [] lines

-- ---- what a line does to the run

-- the run goes on; the line is refused by what it says, with this line; or the line passes a limit
pub data Fate : Type 0 where
  goes_on : Fate
  refused : List ℕ → Fate
  past_limit : Fate

abbrev pub content_fate : Limits → (n unfinished : ℕ) → LineContent → Fate
content_fate limits n unfinished no_hex = refused (hex_line n)
content_fate limits n unfinished (no_segment at cause) = refused (cause_line n at cause)
content_fate limits n unfinished other = goes_on
content_fate limits n unfinished (red p) = if nat_lt limits.sessions unfinished then past_limit else goes_on

-- the fate of line n, after those before it: it is one line too many, it is too long, or its
-- content decides; a red piece passes a limit where it leaves too many sessions unfinished
abbrev pub fate : Limits → ℕ → List (List ℕ) → List ℕ → Fate
fate limits n before line =
    if nat_lt limits.lines n || nat_lt limits.octets (length line) then past_limit
    else content_fate limits n (unfinished_after limits.block (before ++ line ∷ [])) (content_of line)

-- ---- the law

-- what is written for the lines from line n on
unfoldable pub replies_text : ℕ → List Reply → List ℕ
replies_text n [] = []
replies_text n (reply ∷ replies) = reply_line n reply ++ replies_text (n + 1) replies

-- the end of a run over the lines of an input, which is longer than the size limit or not, where
-- so many of them have a reply. Done: all of them, and the input isn't longer. Refused: the next
-- line is refused by what it says. Limit: the next line passes a limit; or there is no next line,
-- and the input is longer.
abbrev pub EndsSo : Limits → Bool → List (List ℕ) → Status → ℕ → List ℕ → Type 0
EndsSo limits longer lines statuses.Done replied closing =
    (closing ≡ []) × (replied ≡ length lines) × (longer ≡ false)
EndsSo limits longer lines statuses.Refused replied closing =
    (replied < length lines)
    × (fate limits (1 + replied) (take replied lines) (slice_index_or lines replied []) ≡ refused closing)
EndsSo limits longer lines statuses.Limit replied closing = (closing ≡ []) × (
    ((replied < length lines) × (fate limits (1 + replied) (take replied lines) (slice_index_or lines replied []) ≡ past_limit))
    ⊎ ((replied ≡ length lines) × (longer ≡ true)))
EndsSo limits longer lines statuses.Usage replied closing = ⊥
EndsSo limits longer lines statuses.ReadFault replied closing = ⊥
EndsSo limits longer lines statuses.WriteFault replied closing = ⊥
EndsSo limits longer lines statuses.Memory replied closing = ⊥

-- the text hands up exactly the red parts that become whole, each with the line that completes it;
-- no line that has a reply ends the run; and the run ends as it says
pub record KeepsReceiverLaw (limits : Limits) (most : ℕ) (input text : List ℕ) (status : Status) : Type 0 where
  pub replies : List Reply
  pub closing : List ℕ
  pub written : text ≡ replies_text 1 replies ++ closing
  pub ends : EndsSo limits (nat_lt most (length input)) (lines_within most input) status (length replies) closing
  pub none_before : (i : ℕ) → i < length replies
      → fate limits (1 + i) (take i (lines_within most input)) (slice_index_or (lines_within most input) i []) ≡ goes_on
  pub law : (i : ℕ) (name : SessionName) (body : List ℕ) → i < length replies
      → ((slice_index_or replies i nothing ≡ up name body)
      ↔ CompletesRedPart limits.block (take i (lines_within most input)) (slice_index_or (lines_within most input) i []) name body)
