-- What the kept values stand for: the recording of the entries that were accepted.

use Rattle.std.specs.Prelude.{◌≡◌, ℕ, true, false, List, [], ◌∷◌, if◌then◌else◌}
use Rattle.std.specs.List.{list_any}
use Rattle.std.specs.BTreeMap.{get}
use Rattle.ltp_segment.specs.Values.{ContentValue}
use Rattle.ltp_session.specs.RedPart.{RedPiece, first_octet}
use Rattle.ltp_audit.specs.declared.entry.Entry.{Entry}
use Rattle.ltp_audit.specs.declared.red_parts.RedParts.{RedParts}
use Rattle.ltp_audit.specs.declared.audit.Audit.{Audit}
use Rattle.ltp_audit.specs.Recorded.{said_in, red_pieces, agrees, is_checkpoint_of, is_report_of}
use Rattle.ltp_audit.specs.Recorded.{is_sender_cancel, is_receiver_cancel}
use Rattle.ltp_audit.specs.Pages.{name_cmp, same_name, is_marked, is_named, octet_at}
use Rattle.ltp_audit.specs.Held.{HeldIn}
use Rattle.ltp_audit.specs.Rules.{differs}

-- no two of these pieces differ where they overlap
abbrev pub AreAlike : List RedPiece → Type 0
AreAlike [] = Unit {0}
AreAlike (piece ∷ earlier) =
    (agrees (first_octet earlier) piece.offset piece.body ≡ true) × AreAlike earlier

-- the octets of a session's red pieces are kept
pub record KeepsOctets (parts : RedParts) (o n : ℕ) (pieces : List RedPiece) : Type 0 where
  pub octets : (place : ℕ) → octet_at parts o n place ≡ first_octet pieces place
  pub held : HeldIn (get name_cmp parts.held (o, n)) (first_octet pieces)
  pub alike : AreAlike pieces

-- what was said in a session is kept
pub record Keeps (audit : Audit) (o n : ℕ) (earlier : List ContentValue) : Type 0 where
  pub red : KeepsOctets audit.red o n (red_pieces earlier)
  pub checkpoints : (serial : ℕ)
      → is_marked audit.checkpoints o n serial ≡ list_any (is_checkpoint_of serial) earlier
  pub reports : (serial : ℕ)
      → is_marked audit.reports o n serial ≡ list_any (is_report_of serial) earlier
  pub sender_cancels : is_named audit.sender_cancels o n ≡ list_any is_sender_cancel earlier
  pub receiver_cancels : is_named audit.receiver_cancels o n ≡ list_any is_receiver_cancel earlier

-- a segment of a session is kept too, unless it differs from earlier ones
abbrev pub KeepsToo : Audit → ℕ → ℕ → ContentValue → Audit → Type 0
KeepsToo old originator session content new = (new.own ≡ old.own) × (new.peer ≡ old.peer)
    × ((o n : ℕ) (earlier : List ContentValue)
    → (same_name originator session o n ≡ true → differs earlier content ≡ false)
    → Keeps old o n earlier
    → Keeps new o n (if same_name originator session o n then content ∷ earlier else earlier))

-- an audit of these two engines, after the entries of a recording
pub record Shows (audit : Audit) (own peer : ℕ) (history : List Entry) : Type 0 where
  pub judges : audit.own ≡ own
  pub with_peer : audit.peer ≡ peer
  pub each : (o n : ℕ) → Keeps audit o n (said_in own peer history o n)
