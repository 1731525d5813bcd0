-- What a log is after something was told.

use Rattle.std.specs.Prelude.{Option, None, Some}
use Rattle.gate_log.specs.declared.event.Event.{Event}
use Rattle.gate_events.specs.Log.{LogValue, after_saying}

abbrev pub after_event : Option Event → LogValue → LogValue
after_event None log = log
after_event (Some event) log = after_saying event log
