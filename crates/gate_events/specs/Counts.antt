-- What each event adds to the counters.

use Rattle.std.specs.Prelude.{Option, None, Some}
use Rattle.gate_cases.specs.declared.face.Face.{Face}
use Rattle.gate_cases.specs.declared.case.GateCase.TheVariants as cases
use Rattle.gate_log.specs.declared.event.Event.{Event}
use Rattle.gate_log.specs.declared.event.Event.TheVariants as events
use Rattle.gate_log.specs.declared.event.LinkEvent.{LinkEvent}
use Rattle.gate_log.specs.declared.event.LinkEvent.TheVariants as links
use Rattle.gate_log.specs.declared.event.SessionEvent.{SessionEvent}
use Rattle.gate_log.specs.declared.event.SessionEvent.TheVariants as sessions
use Rattle.gate_log.specs.declared.event.BundleEvent.{BundleEvent}
use Rattle.gate_log.specs.declared.event.BundleEvent.TheVariants as bundles
use Rattle.gate_metrics.specs.declared.counters.Counted.{Counted}
use Rattle.gate_metrics.specs.declared.counters.Counted.TheVariants as things
use Rattle.gate_metrics.specs.declared.counters.Ended.TheVariants as ends
use Rattle.gate_metrics.specs.declared.counters.Counters.{Counters}
use Rattle.gate_metrics.specs.Counting.{counted_at}

-- a poll that failed, and datagrams that were dropped; sends that failed are counted one by one
abbrev pub link_counts : LinkEvent → Option Counted
link_counts (links.ContactOpened rate until) = None
link_counts (links.ContactClosed until) = None
link_counts links.Stranger = None
link_counts (links.BadSegment place cause) = None
link_counts links.PollFailed = Some things.PollFailed
link_counts (links.SendFailed datagrams) = None
link_counts (links.OutboxFull datagrams) = Some (things.Dropped datagrams)
link_counts (links.Forgotten runs) = None

-- a block that came whole, by what became of it; in one with several bundles, each of them, and the end
abbrev pub session_counts : SessionEvent → Option Counted
session_counts (sessions.BadBundle place cause) =
    Some (things.Block (cases.BadBundle place cause))
session_counts (sessions.BadEnd index place cause) =
    Some (things.Block (cases.BadBundle place cause))
session_counts (sessions.Began several octets) = None
session_counts (sessions.Green last octets offset) = Some (things.Green octets)
session_counts (sessions.Failed reason) = None
session_counts (sessions.Cancelled reason) = None
session_counts (sessions.Refused service) = None
session_counts sessions.Evicted = None
session_counts sessions.BadBounds = None
session_counts sessions.Closed = None
session_counts sessions.HistoryFull = None

-- and an own session's end, by how it ended
abbrev pub bundle_counts : BundleEvent → Option Counted
bundle_counts bundles.Resumed = None
bundle_counts (bundles.Passed first pieces) = Some (things.Block cases.Passed)
bundle_counts (bundles.Untranslated cause) = Some (things.Block (cases.Untranslated cause))
bundle_counts bundles.Expired = Some (things.Block cases.Expired)
bundle_counts bundles.HopLimit = Some (things.Block cases.HopLimit)
bundle_counts bundles.Storage = Some (things.Block cases.Storage)
bundle_counts (bundles.Reported report) = None
bundle_counts bundles.Unreported = None
bundle_counts (bundles.Sent several) = Some (things.Ended ends.Sent)
bundle_counts (bundles.Failed several reason) = Some (things.Ended ends.Failed)
bundle_counts (bundles.Cancelled several reason) = Some (things.Ended ends.Cancelled)

abbrev pub counted_where : Face → Option Counted → Counters → Counters
counted_where face None c = c
counted_where face (Some what) c = counted_at face what c

abbrev pub event_counted : Event → Counters → Counters
event_counted (events.Start old new marks pending) c = c
event_counted events.MetricsFailed c = c
event_counted (events.Link face what) c = counted_where face (link_counts what) c
event_counted (events.Session face session what) c =
    counted_where face (session_counts what) c
event_counted (events.Bundle face session subject what) c =
    counted_where face (bundle_counts what) c
event_counted (events.InRow face session index subject what) c =
    counted_where face (bundle_counts what) c
event_counted (events.LeftOut face session index subject kinds residue) c = c
event_counted (events.Waiting face subject) c = c
