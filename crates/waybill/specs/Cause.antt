-- The names of the causes, and a fault as a refusal.
use Rattle.std.specs.Prelude.{ℕ, List, codes, Option, Some, None}
use Rattle.wire_fields.specs.Refusal.{Stop, truncated, because}
use Rattle.wire_fields.specs.declared.miss.Miss.{Miss}
use Rattle.wire_fields.specs.declared.miss.Miss.TheVariants as misses
use Rattle.waybill.specs.declared.fault.Cause.{Cause}
use Rattle.waybill.specs.declared.fault.Cause.TheVariants as causes
use Rattle.waybill.specs.declared.fault.Fail.{Fail}
use Rattle.waybill.specs.declared.fault.Fail.TheVariants as fails

-- the end of the input is a reason of its own
abbrev pub why : Cause → Stop Cause
why causes.Truncated = truncated
why cause = because cause

-- the refusal that a fault answers: place and reason; want of memory is none
abbrev pub refusal : Fail → Option (ℕ × Stop Cause)
refusal (fails.Refused at cause) = Some (at, why cause)
refusal fails.Memory = None

-- a field that isn't there at a place, with its cause
abbrev pub missed : ℕ → Miss → Cause → Fail
missed at misses.Truncated cause = fails.Refused at causes.Truncated
missed at misses.Absent cause = fails.Refused at cause

abbrev pub word_of : Cause → List ℕ
word_of causes.Truncated = codes "Truncated"
word_of causes.Mark = codes "Mark"
word_of causes.Count = codes "Count"
word_of causes.Number = codes "Number"
word_of causes.Sender = codes "Sender"
word_of causes.Range = codes "Range"
word_of causes.FrontEnd = codes "FrontEnd"
word_of causes.Kind = codes "Kind"
word_of causes.SecondGoods = codes "SecondGoods"
word_of causes.TooManyItems = codes "TooManyItems"
word_of causes.Repeated = codes "Repeated"
word_of causes.Check = codes "Check"
word_of causes.Order = codes "Order"
word_of causes.Trailing = codes "Trailing"
