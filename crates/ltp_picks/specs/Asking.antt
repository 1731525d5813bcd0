-- What an old checkpoint says of a session that drains: nothing was sent after it that its report
-- could miss.

use Rattle.std.specs.Prelude.{◌≡◌, ◌≢◌, ℕ, true, List, [], ◌∷◌, Some, ◌⊎◌}
use Rattle.std.specs.List.{slice_get}
use Rattle.ltp_segment.specs.Kinds.{is_checkpoint, is_red}
use Rattle.ltp_segment.specs.Values.{ContentValue, PieceValue, a_piece}
use Rattle.ltp_session.specs.Sender.{Sending, sender_open}
use Rattle.ltp_session.specs.World.{End, Sent}
use Rattle.ltp_session.specs.declared.timer.Timer.{Timer}
use Rattle.ltp_laws.specs.View.{IsIn, View, is_of}
use Rattle.ltp_drain.specs.Rank.{is_checkpoint_of}
use Rattle.ltp_picks.specs.Picks.{Crossing, Placed}

-- checkpoints of a session with one serial are the same piece
pub record AreNumbered (block : List ℕ) (red : ℕ) (v : View) : Type 0 where
  pub once :
      (p q : PieceValue) → IsIn (a_piece p) v.by_sender → IsIn (a_piece q) v.by_sender
      → is_checkpoint p.kind ≡ true → is_checkpoint q.kind ≡ true
      → p.checkpoint ≡ q.checkpoint → p ≡ q

-- each red piece among these is this one
abbrev pub IsOnly : PieceValue → List ContentValue → Type 0
IsOnly c new = (q : PieceValue) → IsIn (a_piece q) new → is_red q.kind ≡ true → q ≡ c

-- after each checkpoint with this one's serial, each red piece is this one
abbrev pub Trails : PieceValue → List ContentValue → Type 0
Trails c [] = Unit {0}
Trails c (e ∷ es) = (is_checkpoint_of c.checkpoint e ≡ true → IsOnly c es) × Trails c es

-- no old checkpoint has this one's serial
abbrev pub IsFresh : (ContentValue → Type 0) → PieceValue → Type 0
IsFresh Old c =
    (q : PieceValue) → Old (a_piece q) → is_checkpoint_of c.checkpoint (a_piece q) ≡ true → ⊥

-- of an open sender: its checkpoint isn't old, and what is new after it is it again; or every red
-- piece that is new is
abbrev pub AsksLast : (ContentValue → Type 0) → View → List ContentValue → Type 0
AsksLast Old v new =
    (s : Sending) (c : PieceValue) (timer : Timer) → v.sender ≡ Some s
    → s.phase ≡ sender_open c timer → (IsFresh Old c × Trails c new) ⊎ IsOnly c new

-- a content that an end sent in a session, and that isn't new
pub record IsOldOf (d : Crossing) (from : End) (originator n : ℕ) (c : ContentValue) : Type 0
  where
    pub place : ℕ
    pub sent : Sent
    pub there : slice_get d.world.sent place ≡ Some sent
    pub of : is_of from originator n sent ≡ true
    pub content : sent.segment.content ≡ c
    pub old : (e : Placed) → IsIn e d.new → e.place ≢ place
