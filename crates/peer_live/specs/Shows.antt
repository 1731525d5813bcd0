-- A gateway at work stands for a run that stands so.

use Rattle.std.specs.Prelude.{◌≡◌, ℕ, Bool, false, List, map, Option, None, Some, if◌then◌else◌}
use Rattle.gate_cases.specs.declared.face.Face.{Face}
use Rattle.gate_cases.specs.declared.face.Face.TheVariants.{Old, New}
use Rattle.journal_file.specs.declared.kept.Pending.{Pending}
use Rattle.gate_face.specs.Contacts.{told_at}
use Rattle.outbox.specs.declared.reading.Reading.{Reading}
use Rattle.peer_events.specs.Own.{own_seen}
use Rattle.peer_gateway.specs.Answers.{Answered}
use Rattle.peer_gateway.specs.Views.{AreMoments, moments_of}
use Rattle.peer_records.specs.Happened.{PeerHappened}
use Rattle.peer_half.specs.Standing.{Standing, saying_of, with_faces}
use Rattle.peer_half.specs.Parts.{is_added, next_resumed, reading_clocks, resumed, tries, where_some}
use Rattle.peer_half.specs.Steps.{opens_in, putting_all, recorded_with, ups_in}
use Rattle.peer_live.specs.declared.work.Work.{Work}
use Rattle.peer_live.specs.Telling.{kept_of, tells}

-- its gateway is the run's, and all else is the run's
pub record ShowsWork (w : Work) (s : Standing) : Type 0 where
  pub setup : (w.gate).setup ≡ s.setup
  pub gate : (w.gate).gate ≡ s.gate
  pub moments : moments_of w.moments ≡ s.moments
  pub kept : w.kept ≡ kept_of s
  pub old_first : w.old_first ≡ ((s.setup).keys.0.party).first
  pub new_first : w.new_first ≡ ((s.setup).keys.1.party).first
  pub started : w.started ≡ s.started
  pub shown : w.shown ≡ s.shown
  pub journal : w.journal ≡ s.journal

-- no call ran out of memory
pub record ShowsLive (spent : Bool) (w : Work) (s : Standing) : Type 0 where
  pub whole : spent ≡ false
  pub work : ShowsWork w s

-- ---- what ties the code to it

-- what holds of a gateway at work between its calls
pub record IsWhole (w : Work) : Type 0 where
  pub gate : (w.gate).spent ≡ false
  pub moments : AreMoments w.moments

-- a part of a half was done, and left the gateway whole
pub record Does (old new : Work) (part : Standing → Standing) : Type 0 where
  pub whole : IsWhole new
  pub goes_on : (s : Standing) → ShowsWork old s → ShowsWork new (part s)

-- the clocks are read, and what there is to tell of the contacts is said
abbrev pub reads_clocks : Reading → Standing → Standing
reads_clocks now s =
    saying_of New (told_at (s.faces.1).outbox now)
    (saying_of Old (told_at (s.faces.0).outbox now) (reading_clocks now s))

-- ---- a step of the gateway

-- what it did that answered so, as far as the journal has to know it
abbrev pub did : Option ℕ → Answered → Work → PeerHappened
did again answer w = record {
  wall = (w.moments).wall;
  own = map own_seen (w.kept).own;
  is_open = opens_in (w.gate).gate;
  is_handed_up = ups_in (w.gate).gate;
  out = answer.out;
  told = answer.told;
  again = again;
  added = answer.added;
  begun = answer.begun;
}

-- once that is recorded
abbrev pub records : Option ℕ → Answered → Work → Work
records again answer w = record w { journal = recorded_with (did again answer w) w.journal }

-- once it is recorded and done
abbrev pub settles : Option ℕ → Answered → Work → Work
settles again answer w = record w {
  kept = tells (opens_in (w.gate).gate) answer w.kept;
  journal = recorded_with (did again answer w) w.journal;
}

-- ---- at a start

-- the cancels are put, or dropped
abbrev pub sends_out : Answered → Standing → Standing
sends_out answer s = with_faces (putting_all answer.puts answer.out s.faces) s

-- ---- pieces of earlier runs

-- a piece is to be added, and what is told of it where it was
abbrev pub tries_one : Pending → Standing → Standing
tries_one p s = if is_added p s then resumed p s else tries p s

-- the first that is still to be added at a face
abbrev pub resumes_one : Face → Standing → Standing
resumes_one face s = where_some (next_resumed face s) (λ p. tries_one p s) s

-- whether one was
abbrev pub added_if : Standing → Option Pending → Bool
added_if s None = false
added_if s (Some p) = is_added p s
