-- What is told changes nothing but what was said and the counters.

use Rattle.std.proofs.Common.{◌≡◌, Bool, true, false, List, [], ◌∷◌, Option, None, Some, if◌then◌else◌, refl, ap, ◌∙◌}
use Rattle.gate_cases.specs.declared.face.Face.{Face}
use Rattle.gate_cases.specs.declared.face.Face.TheVariants as faces
use Rattle.gate_log.specs.declared.event.Event.{Event}
use Rattle.gate_log.specs.declared.event.Event.TheVariants as events
use Rattle.gate_log.specs.declared.event.LinkEvent.{LinkEvent}
use Rattle.gate_metrics.specs.Counting.{none_counted}
use Rattle.gate_face.specs.Contacts.{told_at}
use Rattle.outbox.specs.declared.reading.Reading.{Reading}
use Rattle.peer_gateway.specs.Answers.{answer_of}
use Rattle.peer_gateway.specs.Steps.{PeerEvent}
use Rattle.peer_events.specs.Counts.{begun_counted}
use Rattle.peer_events.specs.Events.{events_of, own_after_step}
use Rattle.peer_half.specs.Standing.{Standing, saying, saying_all, saying_of}
use Rattle.peer_half.specs.Journals.{Journalled}
use Rattle.peer_half.specs.Steps.{happens_with, opens_in, putting_all, step_of}
use Rattle.peer_half.specs.Parts as parts
use Rattle.peer_half.specs.Parts.{reads}

-- all but what was said, and the counters
abbrev pub rest_of : Standing → Standing
rest_of s = record s { said = []; counters = none_counted }

pub said-rest : (events : List Event) (s : Standing) → rest_of (saying_all events s) ≡ rest_of s
unfolding saying_all
said-rest [] s = refl
said-rest (event ∷ more) s = said-rest more (saying event s)

of-rest : (face : Face) (what : Option LinkEvent) (s : Standing) → rest_of (saying_of face what s) ≡ rest_of s
of-rest face None s = refl
of-rest face (Some what) s = refl

-- ---- the clocks are read

-- but for whether `start` was said
abbrev pub quiet_of : Standing → Standing
quiet_of s = record (rest_of s) { started = true }

started-quiet : (started : Bool) (event : Event) (s : Standing)
    → quiet_of (if started then s else saying event (record s { started = true })) ≡ quiet_of s
started-quiet true event s = refl
started-quiet false event s = refl

pub reads-rest : (now : Reading) (s : Standing) → quiet_of (reads now s) ≡ quiet_of (parts.reading_clocks now s)
unfolding reads
reads-rest now s =
    let old = saying_of faces.Old (told_at (s.faces.0).outbox now) (parts.reading_clocks now s) in
    let new = saying_of faces.New (told_at (s.faces.1).outbox now) old in
    started-quiet new.started (events.Start ((new.setup).keys.0.party).first ((new.setup).keys.1.party).first (parts.marks_in new.journal) (parts.pending_in new.journal)) new
    ∙ (ap (λ (t : Standing). record t { started = true }) (of-rest faces.New (told_at (s.faces.1).outbox now) old)
    ∙ ap (λ (t : Standing). record t { started = true }) (of-rest faces.Old (told_at (s.faces.0).outbox now) (parts.reading_clocks now s)))

-- ---- an event of the gate

-- what it leaves, but for what it tells
abbrev pub after_event : PeerEvent → Option Journalled → Standing → Standing
after_event event journal s =
    let answer = answer_of (step_of event s).effects in
    record (rest_of s) {
      gate = (step_of event s).gate;
      journal = journal;
      faces = putting_all answer.puts answer.out s.faces;
      own = own_after_step (opens_in (step_of event s).gate) answer.told answer.begun s.own;
    }

pub happens-rest : (event : PeerEvent) (journal : Option Journalled) (s : Standing) → rest_of (happens_with event journal s) ≡ after_event event journal s
unfolding happens_with
happens-rest event journal s =
    let step = step_of event s in
    let answer = answer_of step.effects in
    said-rest (events_of (opens_in step.gate) s.own answer.told)
    (record s {
      gate = step.gate;
      journal = journal;
      faces = putting_all answer.puts answer.out s.faces;
      own = own_after_step (opens_in step.gate) answer.told answer.begun s.own;
      counters = begun_counted answer.begun s.counters;
    })
