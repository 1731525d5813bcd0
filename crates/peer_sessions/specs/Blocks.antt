-- The blocks that are being sent, as the code keeps them.

use Rattle.std.specs.Prelude.{◌≡◌, ℕ, ◌<◌, Bool, false, not, ◌==◌, if◌then◌else◌, List, map, length, Option, None, Some}
use Rattle.std.specs.List.{AllByRecursion, flat_map}
use Rattle.ltp_segment.specs.Policy.{PolicyValue}
use Rattle.ltp_session.specs.declared.timer.Timer.{Timer}
use Rattle.ltp_session.specs.Timer.{first_timer, next_timer, is_due, may_repeat}
use Rattle.ltp_session.specs.Sender.{Sending, SendingPhase, sender_open, sender_cancelling}
use Rattle.ltp_session.specs.Table.{AreAscending}
use Rattle.ltp_session.specs.Engine.{list_of}
use Rattle.ltp_engine.specs.Values.{EngineValue}
use Rattle.ltp_engine.specs.Sessions.{is_open}
use Rattle.peer_sessions.specs.declared.blocks.Block.{Block}
use Rattle.peer_sessions.specs.declared.blocks.Event.{Event}
use Rattle.peer_sessions.specs.declared.blocks.Event.TheVariants as events

abbrev pub cancel_of : SendingPhase → Option Timer
cancel_of (sender_open checkpoint timer) = None
cancel_of (sender_cancelling reason timer) = Some timer

abbrev pub block_of : ℕ × Sending → Block
block_of entry = record { session = entry.0; octets = length entry.1.block; cancel = cancel_of entry.1.phase }

-- ---- a block, once the engine did something

abbrev pub cancel_after : Option Timer → Bool → Timer → Option Timer
cancel_after (Some timer) kept first = Some timer
cancel_after None kept first = if kept then None else Some first

abbrev pub is_over : Option ℕ → ℕ → Bool
is_over None n = false
is_over (Some m) n = m == n

abbrev pub heard_block : Option ℕ → Timer → Bool → Block → Option Block
heard_block over first kept block =
    if is_over over block.session then None
    else Some (record block { cancel = cancel_after block.cancel kept first })

-- a session whose cancel is due is over, where that was sent as often as it may be
abbrev pub ticked_block_by : PolicyValue → ℕ → Bool → Block → Option Timer → Option Block
ticked_block_by policy now kept block None =
    Some (record block { cancel = cancel_after None kept (first_timer policy now) })
ticked_block_by policy now kept block (Some timer) =
    if not (is_due timer now) then Some block
    else if not (may_repeat policy timer) then None
    else Some (record block { cancel = Some (next_timer policy timer now) })

abbrev pub ticked_block : PolicyValue → ℕ → Bool → Block → Option Block
ticked_block policy now kept block = ticked_block_by policy now kept block block.cancel

abbrev pub block_after : Event → PolicyValue → ℕ → Bool → Block → Option Block
block_after (events.Heard over) policy now kept block = heard_block over (first_timer policy now) kept block
block_after events.Ticked policy now kept block = ticked_block policy now kept block

abbrev pub blocks_after : Event → PolicyValue → ℕ → List (ℕ × Sending) → List Block → List Block
blocks_after event policy now senders blocks =
    flat_map (λ (block : Block). list_of (block_after event policy now (is_open block.session senders) block)) blocks

-- they are followed, if they are
abbrev pub blocks_if : Bool → Event → PolicyValue → ℕ → List (ℕ × Sending) → List Block → List Block
blocks_if follows event policy now senders blocks =
    if follows then blocks_after event policy now senders blocks else blocks

-- a session with this number is over where fewer are kept
abbrev pub over_of : Bool → ℕ → Option ℕ
over_of fewer n = if fewer then Some n else None

-- ---- what every call keeps

-- The blocks are those of the sending sessions, whose numbers ascend, and are below the next.
pub record AreBlocks (v : EngineValue) (blocks : List Block) : Type 0 where
  pub are : blocks ≡ map block_of v.senders
  pub ascending : AreAscending 0 v.senders
  pub below : AllByRecursion (λ (entry : ℕ × Sending). entry.0 < v.next) v.senders
