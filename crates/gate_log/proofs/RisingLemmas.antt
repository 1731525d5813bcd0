-- The keys of a line stand in alphabetical order.
use Rattle.std.proofs.Common.{◌≡◌, ℕ, true, [], ◌∷◌, ◌++◌, codes, Option, None, Some, refl}
use Rattle.gate_cases.specs.declared.face.Face.{Face}
use Rattle.gate_log.specs.declared.event.Event.{Event}
use Rattle.gate_log.specs.declared.event.Event.TheVariants as events
use Rattle.gate_log.specs.declared.event.LinkEvent.TheVariants as links
use Rattle.gate_log.specs.declared.event.SessionEvent.TheVariants as sessions
use Rattle.gate_log.specs.declared.event.BundleEvent.{BundleEvent}
use Rattle.gate_log.specs.declared.event.BundleEvent.TheVariants as bundles
use Rattle.gate_log.specs.declared.subject.Subject.{Subject}
use Rattle.gate_log.specs.Values.{moment}
use Rattle.gate_log.specs.Lines.{about, block_entries, line_entries}
use Rattle.gate_log.specs.Laws.{are_rising}

block-rising : (at : ℕ) (face : Face) (session : ℕ) (subject : Option Subject) (index : Option ℕ) (what : BundleEvent)
    → are_rising ((codes "at", moment at) ∷ (block_entries face session index what ++ about subject ∷ [])) ≡ true
block-rising at face session subject None bundles.Resumed = refl
block-rising at face session subject None (bundles.Untranslated cause) = refl
block-rising at face session subject None bundles.Expired = refl
block-rising at face session subject None bundles.HopLimit = refl
block-rising at face session subject None bundles.Storage = refl
block-rising at face session subject None bundles.Unreported = refl
block-rising at face session subject None (bundles.Passed None pieces) = refl
block-rising at face session subject None (bundles.Reported None) = refl
block-rising at face session subject None (bundles.Sent None) = refl
block-rising at face session subject None (bundles.Failed None reason) = refl
block-rising at face session subject None (bundles.Cancelled None reason) = refl
block-rising at face session subject None (bundles.Passed (Some n) pieces) = refl
block-rising at face session subject None (bundles.Reported (Some n)) = refl
block-rising at face session subject None (bundles.Sent (Some n)) = refl
block-rising at face session subject None (bundles.Failed (Some n) reason) = refl
block-rising at face session subject None (bundles.Cancelled (Some n) reason) = refl
block-rising at face session subject (Some i) bundles.Resumed = refl
block-rising at face session subject (Some i) (bundles.Untranslated cause) = refl
block-rising at face session subject (Some i) bundles.Expired = refl
block-rising at face session subject (Some i) bundles.HopLimit = refl
block-rising at face session subject (Some i) bundles.Storage = refl
block-rising at face session subject (Some i) bundles.Unreported = refl
block-rising at face session subject (Some i) (bundles.Passed None pieces) = refl
block-rising at face session subject (Some i) (bundles.Reported None) = refl
block-rising at face session subject (Some i) (bundles.Sent None) = refl
block-rising at face session subject (Some i) (bundles.Failed None reason) = refl
block-rising at face session subject (Some i) (bundles.Cancelled None reason) = refl
block-rising at face session subject (Some i) (bundles.Passed (Some n) pieces) = refl
block-rising at face session subject (Some i) (bundles.Reported (Some n)) = refl
block-rising at face session subject (Some i) (bundles.Sent (Some n)) = refl
block-rising at face session subject (Some i) (bundles.Failed (Some n) reason) = refl
block-rising at face session subject (Some i) (bundles.Cancelled (Some n) reason) = refl

pub rising : (at : ℕ) (event : Event) → are_rising (line_entries at event) ≡ true
rising at (events.Start old new marks pending) = refl
rising at events.MetricsFailed = refl
rising at (events.Link face (links.ContactOpened rate until)) = refl
rising at (events.Link face (links.ContactClosed until)) = refl
rising at (events.Link face links.Stranger) = refl
rising at (events.Link face (links.BadSegment place cause)) = refl
rising at (events.Link face links.PollFailed) = refl
rising at (events.Link face (links.SendFailed datagrams)) = refl
rising at (events.Link face (links.OutboxFull datagrams)) = refl
rising at (events.Link face (links.Forgotten runs)) = refl
rising at (events.Session face session (sessions.BadBundle place cause)) = refl
rising at (events.Session face session (sessions.BadEnd index place cause)) = refl
rising at (events.Session face session (sessions.Began several octets)) = refl
rising at (events.Session face session (sessions.Green last octets offset)) = refl
rising at (events.Session face session (sessions.Failed reason)) = refl
rising at (events.Session face session (sessions.Cancelled reason)) = refl
rising at (events.Session face session (sessions.Refused service)) = refl
rising at (events.Session face session sessions.Evicted) = refl
rising at (events.Session face session sessions.BadBounds) = refl
rising at (events.Session face session sessions.Closed) = refl
rising at (events.Session face session sessions.HistoryFull) = refl
rising at (events.Bundle face session subject what) = block-rising at face session subject None what
rising at (events.InRow face session index subject what) = block-rising at face session subject (Some index) what
rising at (events.LeftOut face session None subject kinds residue) = refl
rising at (events.LeftOut face session (Some index) subject kinds residue) = refl
rising at (events.Waiting face subject) = refl
