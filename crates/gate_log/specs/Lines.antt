-- The line of an event: a JSON object without spaces, its keys in alphabetical order, and a line feed.

use Rattle.std.specs.Prelude.{ℕ, Bool, List, [], ◌∷◌, ◌++◌, codes, Option, None, Some, IfSome}
use Rattle.serde_json.specs.Data.{string, boolean}
use Rattle.serde_json.specs.Written.{compact_text}
use Rattle.ltp_segment.specs.Cause as segment
use Rattle.translate.specs.Refusals as translate
use Rattle.gate_cases.specs.Blocks as blocks
use Rattle.gate_cases.specs.declared.face.Face.{Face}
use Rattle.gate_cases.specs.declared.face.Face.TheVariants.{Old, New}
use Rattle.gate_log.specs.declared.event.Event.{Event}
use Rattle.gate_log.specs.declared.event.Event.TheVariants as events
use Rattle.gate_log.specs.declared.event.LinkEvent.{LinkEvent}
use Rattle.gate_log.specs.declared.event.LinkEvent.TheVariants as links
use Rattle.gate_log.specs.declared.event.SessionEvent.{SessionEvent}
use Rattle.gate_log.specs.declared.event.SessionEvent.TheVariants as sessions
use Rattle.gate_log.specs.declared.event.BundleEvent.{BundleEvent}
use Rattle.gate_log.specs.declared.event.BundleEvent.TheVariants as bundles
use Rattle.gate_log.specs.declared.subject.Subject.{Subject}
use Rattle.gate_log.specs.Subjects.{IsSubject}
use Rattle.gate_log.specs.Values.{Entry, object_of, count, counts, two, or_null, moment, bundle}

-- ---- members

abbrev pub called : List ℕ → Entry
called event = (codes "event", string event)

abbrev pub face_word : Face → List ℕ
face_word Old = codes "old"
face_word New = codes "new"

abbrev pub at_face : Face → Entry
at_face face = (codes "face", string (face_word face))

abbrev pub in_session : ℕ → Entry
in_session session = (codes "session", count session)

abbrev pub for_cause : List ℕ → Entry
for_cause word = (codes "cause", string word)

-- a number before the rest, where there is one
abbrev pub count_if : List ℕ → Option ℕ → List Entry → List Entry
count_if key None rest = rest
count_if key (Some n) rest = (key, count n) ∷ rest

-- ---- what happened, by its keys after the moment

abbrev pub link_entries : Face → LinkEvent → List Entry
link_entries face (links.ContactOpened rate until) =
    called (codes "contact_opened") ∷ at_face face
    ∷ (codes "rate", or_null count rate) ∷ (codes "until", moment until) ∷ []
link_entries face (links.ContactClosed until) =
    called (codes "contact_closed") ∷ at_face face ∷ (codes "until", or_null moment until) ∷ []
link_entries face links.Stranger = called (codes "stranger") ∷ at_face face ∷ []
link_entries face (links.BadSegment place cause) =
    for_cause (segment.word_of cause) ∷ called (codes "bad_segment") ∷ at_face face
    ∷ (codes "place", count place) ∷ []
link_entries face links.PollFailed = called (codes "poll_failed") ∷ at_face face ∷ []
link_entries face (links.SendFailed datagrams) =
    (codes "datagrams", count datagrams) ∷ called (codes "send_failed") ∷ at_face face ∷ []
link_entries face (links.OutboxFull datagrams) =
    (codes "datagrams", count datagrams) ∷ called (codes "outbox_full") ∷ at_face face ∷ []
link_entries face (links.Forgotten runs) =
    called (codes "forgotten") ∷ at_face face ∷ (codes "runs", count runs) ∷ []

-- of a session of the peer
abbrev pub received_entries : Face → ℕ → (event : List ℕ) → (reason : ℕ) → List Entry
received_entries face session event reason =
    called event ∷ at_face face ∷ (codes "reason", count reason) ∷ in_session session
    ∷ (codes "side", string (codes "receiving")) ∷ []

abbrev pub session_entries : Face → ℕ → SessionEvent → List Entry
session_entries face session (sessions.BadBundle place cause) =
    for_cause (blocks.word_of cause) ∷ called (codes "bad_bundle") ∷ at_face face
    ∷ (codes "place", count place) ∷ in_session session ∷ []
session_entries face session (sessions.BadEnd index place cause) =
    for_cause (blocks.word_of cause) ∷ called (codes "bad_bundle") ∷ at_face face
    ∷ (codes "index", count index) ∷ (codes "place", count place) ∷ in_session session ∷ []
session_entries face session (sessions.Began several octets) =
    (codes "bundles", count several) ∷ called (codes "began") ∷ at_face face
    ∷ (codes "octets", count octets) ∷ in_session session ∷ []
session_entries face session (sessions.Green last octets offset) =
    called (codes "green") ∷ at_face face ∷ (codes "last", boolean last)
    ∷ (codes "octets", count octets) ∷ (codes "offset", count offset) ∷ in_session session ∷ []
session_entries face session (sessions.Failed reason) =
    received_entries face session (codes "failed") reason
session_entries face session (sessions.Cancelled reason) =
    received_entries face session (codes "cancelled") reason
session_entries face session (sessions.Refused service) =
    called (codes "refused") ∷ at_face face ∷ (codes "service", count service)
    ∷ in_session session ∷ []
session_entries face session sessions.Evicted =
    called (codes "evicted") ∷ at_face face ∷ in_session session ∷ []
session_entries face session sessions.BadBounds =
    called (codes "bad_bounds") ∷ at_face face ∷ in_session session ∷ []
session_entries face session sessions.Closed =
    called (codes "closed") ∷ at_face face ∷ in_session session ∷ []
session_entries face session sessions.HistoryFull =
    called (codes "history_full") ∷ at_face face ∷ in_session session ∷ []

-- of a session of the gateway's own: how many bundles it carried, where several were gathered
abbrev pub sent_entries : Face → ℕ → Option ℕ → (event : List ℕ) → (reason : ℕ) → List Entry
sent_entries face session several event reason =
    count_if (codes "bundles") several (called event ∷ at_face face
    ∷ (codes "reason", count reason) ∷ in_session session
    ∷ (codes "side", string (codes "sending")) ∷ [])

-- of a bundle: its place among those of its block, where there is more than it
abbrev pub row_entries : (event : List ℕ) → Face → Option ℕ → ℕ → List Entry
row_entries event face index session =
    called event ∷ at_face face ∷ count_if (codes "index") index (in_session session ∷ [])

-- of a block, but for its subject; a block that was sent isn't told bundle by bundle
abbrev pub block_entries : Face → ℕ → Option ℕ → BundleEvent → List Entry
block_entries face session index bundles.Resumed =
    row_entries (codes "resumed") face index session
block_entries face session index (bundles.Passed first pieces) =
    called (codes "passed") ∷ at_face face
    ∷ count_if (codes "first") first (count_if (codes "index") index
    ((codes "pieces", count pieces) ∷ in_session session ∷ []))
block_entries face session index (bundles.Untranslated cause) =
    for_cause (translate.word_of cause) ∷ row_entries (codes "untranslated") face index session
block_entries face session index bundles.Expired =
    row_entries (codes "expired") face index session
block_entries face session index bundles.HopLimit =
    row_entries (codes "hop_limit") face index session
block_entries face session index bundles.Storage =
    row_entries (codes "storage") face index session
block_entries face session index (bundles.Reported report) =
    called (codes "reported") ∷ at_face face
    ∷ count_if (codes "index") index (count_if (codes "report") report (in_session session ∷ []))
block_entries face session index bundles.Unreported =
    row_entries (codes "unreported") face index session
block_entries face session index (bundles.Sent several) =
    count_if (codes "bundles") several
    (called (codes "sent") ∷ at_face face ∷ in_session session ∷ [])
block_entries face session index (bundles.Failed several reason) =
    sent_entries face session several (codes "failed") reason
block_entries face session index (bundles.Cancelled several reason) =
    sent_entries face session several (codes "cancelled") reason

abbrev pub about : Option Subject → Entry
about subject = (codes "subject", or_null bundle subject)

-- of a bundle that passed without a part of it, but for its subject
abbrev pub left_entries : Face → ℕ → Option ℕ → List ℕ → Bool → List Entry
left_entries face session index kinds residue =
    (codes "blocks", counts kinds) ∷ called (codes "left_out") ∷ at_face face
    ∷ count_if (codes "index") index ((codes "residue", boolean residue)
    ∷ in_session session ∷ [])

abbrev pub event_entries : Event → List Entry
event_entries (events.Start old new marks pending) =
    called (codes "start") ∷ (codes "first_session", two old new) ∷ (codes "marks", count marks)
    ∷ (codes "pending", count pending) ∷ []
event_entries events.MetricsFailed = called (codes "metrics_failed") ∷ []
event_entries (events.Link face what) = link_entries face what
event_entries (events.Session face session what) = session_entries face session what
event_entries (events.Bundle face session subject what) =
    block_entries face session None what ++ about subject ∷ []
event_entries (events.InRow face session index subject what) =
    block_entries face session (Some index) what ++ about subject ∷ []
event_entries (events.LeftOut face session index subject kinds residue) =
    left_entries face session index kinds residue ++ about subject ∷ []
event_entries (events.Waiting face subject) =
    called (codes "resumed") ∷ at_face face ∷ about subject ∷ []

-- ---- the line

-- all of it, the moment first
abbrev pub line_entries : ℕ → Event → List Entry
line_entries at event = (codes "at", moment at) ∷ event_entries event

unfoldable pub line_of : ℕ → Event → List ℕ
line_of at event = compact_text (object_of (line_entries at event)) ++ codes "\n"

-- an event whose subject, if it has one, has names that have texts
abbrev pub IsNamed : Event → Type 0
IsNamed (events.Start old new marks pending) = Unit {0}
IsNamed events.MetricsFailed = Unit {0}
IsNamed (events.Link face what) = Unit {0}
IsNamed (events.Session face session what) = Unit {0}
IsNamed (events.Bundle face session subject what) = IfSome subject IsSubject
IsNamed (events.InRow face session index subject what) = IfSome subject IsSubject
IsNamed (events.LeftOut face session index subject kinds residue) = IfSome subject IsSubject
IsNamed (events.Waiting face subject) = IfSome subject IsSubject
