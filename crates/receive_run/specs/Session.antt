-- One session of a receiver that makes no reports, and what a piece brings about there (RFC 5326).
use Rattle.std.specs.Prelude.{ℕ, Bool, ◌||◌, List, [], Option, None, Some, if◌then◌else◌}
use Rattle.ltp_session.specs.declared.name.SessionName.{SessionName}
use Rattle.ltp_session.specs.Cells.{reach_of, filled, whole_part, length_after, is_misplaced, is_no_part}
use Rattle.ltp_session.specs.RedPart.{RedPiece, red_stop}
use Rattle.receive_run.specs.LineContent.{NamedPiece}

-- a session: none of its pieces came; its cells (an octet where one came) and the length of its
-- red part, once an end of it came; or its red part was handed up
pub data Session : Type 0 where
  fresh : Session
  open_part : List (Option ℕ) → Option ℕ → Session
  handed_up : Session

-- what a piece brings about: nothing yet; its session's red part, now whole, is handed up; a note,
-- since it is out of bounds; or it is skipped, since the red part was handed up before
pub data Reply : Type 0 where
  nothing : Reply
  up : SessionName → List ℕ → Reply
  note : Reply
  skip : Reply

-- The test of bounds: a piece that can't be one of a red part of which octets came up to `reach`,
-- and whose length is known or not. It is empty or ends past the greatest block; it ends past the
-- red part; or the red part ends with it elsewhere than before, or below an octet that came.
abbrev pub is_out_of_bounds : (most reach : ℕ) → Option ℕ → RedPiece → Bool
is_out_of_bounds most reach length piece =
    is_no_part most piece.offset piece.body || is_misplaced reach length piece.ends (red_stop piece)

-- the red part is handed up as soon as it is whole
abbrev pub handing_up : SessionName → Option (List ℕ) → List (Option ℕ) → Option ℕ → Reply × Session
handing_up name None cells length = (nothing, open_part cells length)
handing_up name (Some body) cells length = (up name body, handed_up)

-- the cells and the length, once a piece came that is one of the red part
abbrev pub takes : SessionName → List (Option ℕ) → Option ℕ → Reply × Session
takes name cells length = handing_up name (whole_part cells length) cells length

abbrev pub meets_open : List (Option ℕ) → Option ℕ → NamedPiece → Reply × Session
meets_open cells length p =
    takes p.name (filled cells (p.piece).offset (p.piece).body)
    (length_after length (p.piece).ends (red_stop p.piece))

-- a piece meets its session: one that was handed up skips it, before its bounds are looked at; one
-- out of bounds changes nothing
unfoldable pub meets : ℕ → Session → NamedPiece → Reply × Session
meets most fresh p =
    if is_out_of_bounds most 0 None p.piece then (note, fresh) else meets_open [] None p
meets most (open_part cells length) p =
    if is_out_of_bounds most (reach_of cells) length p.piece then (note, open_part cells length)
    else meets_open cells length p
meets most handed_up p = (skip, handed_up)
