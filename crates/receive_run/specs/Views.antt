-- What the code's values stand for.
use Rattle.receive_run.specs.declared.piece.Piece.{Piece}
use Rattle.receive_run.specs.declared.line_content.LineContent.{LineContent}
use Rattle.receive_run.specs.declared.line_content.LineContent.TheVariants as contents
use Rattle.receive_run.specs.declared.table.Whole.TheVariants as wholes
use Rattle.receive_run.specs.declared.table.Reply.{Reply}
use Rattle.receive_run.specs.declared.table.Reply.TheVariants as replies
use Rattle.ltp_session.specs.declared.name.SessionName.{SessionName}
use Rattle.ltp_session.specs.RedPart.{RedPiece}
use Rattle.receive_run.specs.LineContent as lines
use Rattle.receive_run.specs.Session as session

abbrev pub red_piece : Piece → RedPiece
red_piece p = record { offset = p.offset; ends = p.ends; body = p.body.now }

-- with its session
abbrev pub named_piece : Piece → lines.NamedPiece
named_piece p = record { name = p.name; piece = red_piece p }

-- the content of a line of hex
abbrev pub content : LineContent → lines.LineContent
content (contents.NoSegment fault) = lines.no_segment fault.at fault.cause
content contents.Other = lines.other
content (contents.Red p) = lines.red (named_piece p)

-- what a piece of this session brings about
abbrev pub reply : SessionName → Reply → session.Reply
reply name replies.Nothing = session.nothing
reply name (replies.Up (wholes.Lent body)) = session.up name body.now
reply name (replies.Up (wholes.Built body)) = session.up name body.items
reply name replies.Note = session.note
reply name replies.Skip = session.skip
