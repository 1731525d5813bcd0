-- What `receive` writes: each line of the input is one datagram in hex, and each red part is
-- handed up when it is whole.
use Rattle.std.specs.Prelude.{ℕ, nat_lt, List, [], Some, if◌then◌else◌}
use Rattle.edge_traits.specs.declared.status.Status.TheVariants as statuses
use Rattle.edge_traits.specs.Settled.{at_end, Settled}
use Rattle.command_frame.specs.Task.{Settling}
use Rattle.command_frame.specs.Within.{within}
use Rattle.command_frame.specs.Lines.{Turn, passes, ends_run, LineRules, by_lines}
use Rattle.ltp_segment.specs.declared.session.TheConstants.{BLOCK_MAX}
use Rattle.receive_run.specs.LineContent.{NamedPiece, LineContent, no_hex, no_segment, other, red, content_of}
use Rattle.receive_run.specs.Session.{Session, Reply, meets}
use Rattle.receive_run.specs.KeptSessions.{Kept, session_in, with_session, unfinished}
use Rattle.receive_run.specs.WrittenLines.{skip_line, hex_line, cause_line, reply_line}

-- the greatest block, the most lines, the most octets of a line, and the most sessions that may
-- be unfinished
pub record Limits : Type 0 where
  pub block : ℕ
  pub lines : ℕ
  pub octets : ℕ
  pub sessions : ℕ

-- the limits of the program: a block of 4 MiB, a million lines, 9,000,000 octets a line, and 64
-- unfinished sessions
abbrev pub the_limits : Limits
the_limits = record { block = BLOCK_MAX; lines = 1000000; octets = 9000000; sessions = 64 }

-- ---- one line

-- the piece of line n brought this about: one session more than may be unfinished ends the run
abbrev pub after_reply : Limits → ℕ → Reply → List Kept → Turn (List Kept)
after_reply limits n reply kept =
    if nat_lt limits.sessions (unfinished kept) then ends_run [] statuses.Limit
    else passes (reply_line n reply) kept

abbrev pub after_met : Limits → ℕ → List Kept → NamedPiece → Reply × Session → Turn (List Kept)
after_met limits n kept p met = after_reply limits n met.0 (with_session p.name met.1 kept)

-- the answer to line n of this content
abbrev pub content_turn : Limits → ℕ → List Kept → LineContent → Turn (List Kept)
content_turn limits n kept no_hex = ends_run (hex_line n) statuses.Refused
content_turn limits n kept (no_segment at cause) = ends_run (cause_line n at cause) statuses.Refused
content_turn limits n kept other = passes (skip_line n) kept
content_turn limits n kept (red p) =
    after_met limits n kept p (meets limits.block (session_in p.name kept) p)

-- ---- line by line

-- the limits on lines, what a line brings about, and that the run is done after the last one
abbrev pub receive_rules : Limits → LineRules (List Kept)
receive_rules limits = record {
  lines = limits.lines;
  octets = limits.octets;
  step = λ n kept line. content_turn limits n kept (content_of line);
  finish = λ kept. record { text = []; ends = Some statuses.Done };
}

-- what octets settle, whatever the size of the input
abbrev pub settles : Limits → Settling
settles limits = by_lines (receive_rules limits) []

-- what `receive` answers to an input
abbrev pub received : Limits → ℕ → List ℕ → Settled
received limits most input = within most (settles limits) at_end input
