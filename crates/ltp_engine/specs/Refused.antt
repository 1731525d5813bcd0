-- Why a block isn't sent.

use Rattle.std.specs.Prelude.{ℕ, List, codes}
use Rattle.ltp_session.specs.Engine.{SubmitFault, block_empty, block_too_large}
use Rattle.ltp_session.specs.Engine.{numbers_spent, senders_busy}
use Rattle.ltp_engine.specs.declared.refused.SubmitRefused.{SubmitRefused}
use Rattle.ltp_engine.specs.declared.refused.SubmitRefused.TheVariants as causes

abbrev pub submit_word : SubmitRefused → List ℕ
submit_word causes.Empty = codes "Empty"
submit_word causes.TooLarge = codes "TooLarge"
submit_word causes.NumbersSpent = codes "NumbersSpent"
submit_word causes.Busy = codes "Busy"
submit_word causes.Memory = codes "Memory"

-- the refusal for a fault of the definition
abbrev pub refusal_of : SubmitFault → SubmitRefused
refusal_of block_empty = causes.Empty
refusal_of block_too_large = causes.TooLarge
refusal_of numbers_spent = causes.NumbersSpent
refusal_of senders_busy = causes.Busy
