-- What a face's part of the configuration says of its link.

use Rattle.std.specs.Prelude.{◌≡◌, ℕ, List, map, Option, None}
use Rattle.contact_plan.specs.declared.window.Window.{Window}
use Rattle.contact_plan.specs.Fault.{plan_fault}
use Rattle.outbox.specs.Schedule.{ScheduleValue}
use Rattle.gate_config.specs.declared.file.Contact.{Contact}
use Rattle.gate_config.specs.declared.file.FaceConfig.{FaceConfig}

abbrev pub window_of : Contact → Window
window_of contact = record { from = contact.from; to = contact.to }

abbrev pub windows_of : List Contact → List Window
windows_of contacts = map window_of contacts

-- the contact's own rate, where the file says it
abbrev pub own_rate : Contact → Option ℕ
own_rate contact = contact.rate

-- when its link is open, and how many octets a second it takes
abbrev pub schedule_in : FaceConfig → ScheduleValue
schedule_in c = record {
  windows = windows_of c.contacts;
  rates = map own_rate c.contacts;
  rate = c.rate;
}

-- its contacts are a plan: none is empty, and none begins before the end of the one before it
abbrev pub HasPlan : FaceConfig → Type 0
HasPlan c = plan_fault (windows_of c.contacts) ≡ None
