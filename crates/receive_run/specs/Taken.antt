-- Which pieces of a session count. What they give, and when they are a whole red part, is said of the pieces place by
-- place (RFC 5326, section 6.9). No cells stand here; that the cells of a session agree with it is proved.
use Rattle.std.specs.Prelude.{ℕ, Bool, not, ◌&&◌, List, [], ◌∷◌, if◌then◌else◌}
use Rattle.ltp_session.specs.declared.name.SessionName.{SessionName}
use Rattle.ltp_session.specs.RedPart.{RedPiece, red_length, red_reach, is_whole}
use Rattle.receive_run.specs.LineContent.{LineContent, no_hex, no_segment, other, red, content_of}
use Rattle.receive_run.specs.Session.{is_out_of_bounds}
use Rattle.receive_run.specs.KeptSessions.{same_name}

-- a piece counts where the red part isn't whole yet and the piece is within its bounds
abbrev pub counts : ℕ → List RedPiece → RedPiece → Bool
counts most pieces piece =
    not (is_whole pieces) && not (is_out_of_bounds most (red_reach pieces) (red_length pieces) piece)

-- the pieces that count, the newest first, once a line came after them
abbrev pub with_piece : ℕ → SessionName → List RedPiece → LineContent → List RedPiece
with_piece most name pieces no_hex = pieces
with_piece most name pieces (no_segment at cause) = pieces
with_piece most name pieces other = pieces
with_piece most name pieces (red p) =
    if same_name p.name name && counts most pieces p.piece then p.piece ∷ pieces else pieces

-- and once these lines came after them
unfoldable pub taken : ℕ → SessionName → List RedPiece → List (List ℕ) → List RedPiece
taken most name pieces [] = pieces
taken most name pieces (line ∷ lines) =
    taken most name (with_piece most name pieces (content_of line)) lines
