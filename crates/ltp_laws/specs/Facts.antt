-- What holds of a session after every run.

use Rattle.std.specs.Prelude.{ℕ, List}
use Rattle.ltp_laws.specs.Acknowledgements.{AckFacts, CloseFacts}
use Rattle.ltp_laws.specs.Blocks.{BlockFacts}
use Rattle.ltp_laws.specs.Cancels.{CancelFacts}
use Rattle.ltp_laws.specs.Checkpoints.{CheckpointFacts, FirstFacts}
use Rattle.ltp_laws.specs.Claims.{ClaimFacts}
use Rattle.ltp_laws.specs.Completion.{CompletionFacts}
use Rattle.ltp_laws.specs.HandUps.{HandUpFacts}
use Rattle.ltp_laws.specs.Kinds.{KindFacts}
use Rattle.ltp_laws.specs.Reach.{ReachFacts, WholeFacts}
use Rattle.ltp_laws.specs.Serials.{SerialFacts}
use Rattle.ltp_laws.specs.Spelling.{HeldFacts, SpellingFacts}
use Rattle.ltp_laws.specs.View.{View}

-- The facts of a session with this block and this red length. Each is a record of a page of its
-- own, whose head says what it is about.
pub record SessionFacts (block : List ℕ) (red : ℕ) (v : View) : Type 0 where
  pub basic : BlockFacts block red v
  pub kinds : KindFacts block red v
  pub spelled : SpellingFacts block red v
  pub held : HeldFacts block red v
  pub handed : HandUpFacts block red v
  pub reports : SerialFacts block red v
  pub claims : ClaimFacts block red v
  pub asks : CheckpointFacts block red v
  pub firsts : FirstFacts block red v
  pub acks : AckFacts block red v
  pub closes : CloseFacts block red v
  pub offs : CancelFacts block red v
  pub reach : ReachFacts block red v
  pub whole : WholeFacts block red v
  pub ends : CompletionFacts block red v
