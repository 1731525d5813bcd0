-- An engine whose exchange is recorded: what came to it and left it, the first entry first.

use Rattle.std.specs.Prelude.{◌≡◌, ℕ, Bool, true, false, List, [], ◌++◌, map, Result, Ok, Err}
use Rattle.ltp_session.specs.Engine.{Engine, EngineStep, SubmitFault}
use Rattle.ltp_engine.specs.declared.effects.Effects.{Effects}
use Rattle.ltp_engine.specs.declared.refused.SubmitRefused.{SubmitRefused}
use Rattle.ltp_engine.specs.declared.refused.SubmitRefused.TheVariants as causes
use Rattle.ltp_engine.specs.Values.{EngineValue}
use Rattle.ltp_engine.specs.Shows.{Shows}
use Rattle.ltp_engine.specs.Steps.{Sends, IsFault, IsNoFault}
use Rattle.ltp_audit.specs.declared.entry.Entry.{Entry}

-- a datagram that came, and one that went
abbrev pub came : List ℕ → Entry
came datagram = record { out = false; datagram = datagram }

abbrev pub went : List ℕ → Entry
went datagram = record { out = true; datagram = datagram }

-- whether memory ran out in a call, after which the value may only be dropped; the engine; and the
-- entries
pub record RecorderValue : Type 0 where
  pub spent : Bool
  pub engine : EngineValue
  pub entries : List Entry

-- a block is submitted: sent, and then its datagrams are recorded; or refused for the first fault
-- that there is, which changes nothing; memory is wanted only where there is no fault
abbrev pub SubmitsRecorded : RecorderValue → RecorderValue
    → (Engine → Result EngineStep SubmitFault) → Result Effects SubmitRefused → Type 0
SubmitsRecorded old new step (Ok effects) = Sends old.engine new.engine step effects
    × (new.entries ≡ old.entries ++ map went effects.out) × (new.spent ≡ false)
SubmitsRecorded old new step (Err causes.Memory) =
    (new.spent ≡ true) × ((e : Engine) → Shows old.engine e → IsNoFault (step e))
SubmitsRecorded old new step (Err refused) =
    (new ≡ old) × ((e : Engine) → Shows old.engine e → IsFault refused (step e))

-- the datagrams that are sent with a block
abbrev pub outs_of : Result Effects SubmitRefused → List (List ℕ)
outs_of (Ok effects) = effects.out
outs_of (Err refused) = []

-- memory ran out while a block was submitted
abbrev pub ran_out : Result Effects SubmitRefused → Bool
ran_out (Ok effects) = false
ran_out (Err causes.Memory) = true
ran_out (Err causes.Empty) = false
ran_out (Err causes.TooLarge) = false
ran_out (Err causes.NumbersSpent) = false
ran_out (Err causes.Busy) = false
