-- What goes, goes in a contact.

use Rattle.std.proofs.Common.{◌≡◌, ℕ, zero, suc, Bool, true, false, List, [], ◌∷◌, ◌++◌, length, map, Option, None, Some, ◌⊎◌, inl, inr, if◌then◌else◌, refl, ap, ◌∙◌, subst, unwrap_or}
use Rattle.std.proofs.lemmas.Grind.{flat_map-append}
use Rattle.std.specs.List.{AllByRecursion}
use Rattle.std.specs.Prelude.{IsSomeAnd}
use Rattle.edge_traits.specs.Faults.{fails_next, after_next}
use Rattle.gate_cases.specs.declared.face.Face.{Face}
use Rattle.gate_cases.specs.declared.face.Face.TheVariants as faces
use Rattle.gate_cases.specs.Faces.{other_of}
use Rattle.gate_log.specs.declared.event.Event.{Event}
use Rattle.ltp_segment.specs.Reading.{segment_of}
use Rattle.gate_metrics.specs.declared.counters.Counted.TheVariants as things
use Rattle.gateway_core.specs.Gate.{at_face, with_face}
use Rattle.gateway_core.specs.declared.effects.Routed.{Routed}
use Rattle.outbox.specs.declared.reading.Reading.{Reading}
use Rattle.outbox.specs.Laws.{GoesOutInContact, IsOpenAt}
use Rattle.outbox.specs.Outbox.{next_of}
use Rattle.outbox.specs.Run as outbox_run
use Rattle.outbox.specs.Schedule.{ScheduleValue}
use Rattle.gate_events.specs.Own.{OpenAt}
use Rattle.gate_face.specs.Faces.{FaceStanding}
use Rattle.gate_face.specs.Halves.{taking}
use Rattle.journal_file.specs.declared.kept.Pending.{Pending}
use Rattle.journal_file.specs.Values.{KeptValue, RecordValue}
use Rattle.peer_gateway.specs.Answers.{Answered, answer_of}
use Rattle.peer_gateway.specs.Steps.{PeerEvent, a_datagram, a_tick}
use Rattle.peer_events.specs.Counts.{begun_counted}
use Rattle.peer_events.specs.Events.{events_of, own_after_step}
use Rattle.peer_half.specs.Standing.{Standing, counting, doing_at, face_of, wall_of}
use Rattle.peer_half.specs.Journals.{Journalled, is_large, kept_in, records_in}
use Rattle.peer_half.specs.Steps.{happened_in, happens_again, happens_with, opens_in, putting_all, putting_if, recorded_with, step_of, telling}
use Rattle.peer_half.specs.Acts.{Act, Acted, stands, after_acts}
use Rattle.peer_half.specs.Parts as parts
use Rattle.peer_half.specs.Parts.{arrives_all, reads, resumes_within, sends_within, tries}
use Rattle.peer_half.specs.Half.{Came, half, hears}
use Rattle.peer_half.proofs.StandingLemmas.{reads-rest, said-rest}
use Rattle.peer_half.specs.Laws.{GoesInContact, tried_at, tried_by}

-- ---- a face's schedule, and its last reading

abbrev link_in : FaceStanding → ScheduleValue × Option Reading
link_in f = ((f.outbox).schedule, (f.outbox).reading)

abbrev link_of : Face → Standing → ScheduleValue × Option Reading
link_of at s = link_in (at_face s.faces at)

link-one : (is_put : Bool) (datagram : List ℕ) (f : FaceStanding) → link_in (putting_if is_put datagram f) ≡ link_in f
link-one true datagram f = refl
link-one false datagram f = refl

link-put : (at face : Face) (is_put : Bool) (datagram : List ℕ) (fs : FaceStanding × FaceStanding)
    → link_in (at_face (with_face fs face (putting_if is_put datagram (at_face fs face))) at) ≡ link_in (at_face fs at)
link-put faces.Old faces.Old is_put datagram fs = link-one is_put datagram fs.0
link-put faces.Old faces.New is_put datagram fs = refl
link-put faces.New faces.Old is_put datagram fs = refl
link-put faces.New faces.New is_put datagram fs = link-one is_put datagram fs.1

link-puts : (at : Face) (puts : List Bool) (out : List Routed) (fs : FaceStanding × FaceStanding)
    → link_in (at_face (putting_all puts out fs) at) ≡ link_in (at_face fs at)
unfolding putting_all
link-puts at [] out fs = refl
link-puts at (is_put ∷ puts) [] fs = refl
link-puts at (is_put ∷ puts) (routed ∷ more) fs =
    link-puts at puts more (with_face fs routed.face (putting_if is_put routed.datagram (at_face fs routed.face)))
    ∙ link-put at routed.face is_put routed.datagram fs

link-telling : (at : Face) (opened : OpenAt) (answer : Answered) (s : Standing) → link_of at (telling opened answer s) ≡ link_of at s
link-telling at opened answer s =
    ap (λ t. link_of at t) (said-rest (events_of opened s.own answer.told)
    (record s {
      faces = putting_all answer.puts answer.out s.faces;
      own = own_after_step opened answer.told answer.begun s.own;
      counters = begun_counted answer.begun s.counters;
    }))
    ∙ link-puts at answer.puts answer.out s.faces

link-happens : (at : Face) (event : PeerEvent) (journal : Option Journalled) (s : Standing) → link_of at (happens_with event journal s) ≡ link_of at s
unfolding happens_with
link-happens at event journal s =
    link-telling at (opens_in (step_of event s).gate) (answer_of (step_of event s).effects)
    (record s { gate = (step_of event s).gate; journal = journal })

link-occurs : (at : Face) (again : Option ℕ) (event : PeerEvent) (s : Standing) → link_of at (happens_again again event s) ≡ link_of at s
link-occurs at again event s = link-happens at event (recorded_with (happened_in again event s) s.journal) s

link-tries : (at : Face) (p : Pending) (s : Standing) → link_of at (tries p s) ≡ link_of at s
unfolding tries
link-tries at p s = link-occurs at (Some p.id) (parts.begin_of p) s

link-next-resumed : (at : Face) (next : Option Pending) (does : Pending → Standing) (s : Standing)
    → ((p : Pending) → link_of at (does p) ≡ link_of at s) → link_of at (parts.where_some next does s) ≡ link_of at s
link-next-resumed at None does s later = refl
link-next-resumed at (Some p) does s later = later p

link-if : (at : Face) (added : Bool) (goes_on stops s : Standing) → link_of at goes_on ≡ link_of at s → link_of at stops ≡ link_of at s
    → link_of at (if added then goes_on else stops) ≡ link_of at s
link-if at true goes_on stops s on off = on
link-if at false goes_on stops s on off = off

link-resumes : (at : Face) (n : ℕ) (face : Face) (s : Standing) → link_of at (resumes_within n face s) ≡ link_of at s
unfolding resumes_within
link-resumes at zero face s = refl
link-resumes at (suc n) face s =
    link-next-resumed at (parts.next_resumed face s) (λ p. if parts.is_added p s then resumes_within n face (parts.resumed p s) else tries p s) s
    (λ p. link-if at (parts.is_added p s) (resumes_within n face (parts.resumed p s)) (tries p s) s
    (link-resumes at n face (parts.resumed p s) ∙ link-tries at p s) (link-tries at p s))

link-arrives : (at face : Face) (datagrams : List (List ℕ)) (s : Standing) → link_of at (parts.arrives_all face datagrams s) ≡ link_of at s
unfolding arrives_all
link-arrives at face [] s = refl
link-arrives at face (datagram ∷ more) s = link-arrives at face more (parts.arrives face datagram s)
    ∙ link-occurs at None (a_datagram face (segment_of datagram)) (counting face (things.Received (length datagram)) s)

link-polled : (at face : Face) (failed : Bool) (s : Standing) → link_of at (parts.ends_polling face failed s) ≡ link_of at s
link-polled at face true s = refl
link-polled at face false s = refl

link-clocks : (at : Face) (now : Reading) (s : Standing) → link_of at (parts.reading_clocks now s) ≡ (((face_of at s).outbox).schedule, Some now)
link-clocks faces.Old now s = refl
link-clocks faces.New now s = refl

link-reads : (at : Face) (now : Reading) (s : Standing) → link_of at (parts.reads now s) ≡ (((face_of at s).outbox).schedule, Some now)
link-reads at now s = ap (λ t. link_of at t) (reads-rest now s) ∙ link-clocks at now s

link-hears : (at face : Face) (came : Came) (s : Standing) → link_of at (hears face came s) ≡ (((face_of at s).outbox).schedule, Some came.reading)
link-hears at face came s =
    let r = parts.reads came.reading s in
    let old = parts.resumes_at faces.Old r in
    let new = parts.resumes_at faces.New old in
    link-polled at face came.poll_failed (parts.arrives_all face came.datagrams (parts.ticks new))
    ∙ (link-arrives at face came.datagrams (parts.ticks new)
    ∙ (link-occurs at None a_tick new
    ∙ (link-resumes at (parts.pending_in old.journal) faces.New old
    ∙ (link-resumes at (parts.pending_in r.journal) faces.Old r ∙ link-reads at came.reading s))))

-- ---- a face sends

link-goes : (at face : Face) (fails : Bool) (datagram : List ℕ) (s : Standing) → link_of at (parts.goes face fails datagram (doing_at face taking s)) ≡ link_of at s
link-goes faces.Old faces.Old true datagram s = refl
link-goes faces.Old faces.Old false datagram s = refl
link-goes faces.Old faces.New true datagram s = refl
link-goes faces.Old faces.New false datagram s = refl
link-goes faces.New faces.Old true datagram s = refl
link-goes faces.New faces.Old false datagram s = refl
link-goes faces.New faces.New true datagram s = refl
link-goes faces.New faces.New false datagram s = refl

link-next : (at face : Face) (fails : Bool) (next : Option (List ℕ)) (does : List ℕ → Acted) (s : Standing)
    → ((datagram : List ℕ) → link_of at (does datagram).standing ≡ link_of at s)
    → link_of at (parts.where_some next (λ datagram. after_acts (parts.tried face fails datagram ∷ []) (does datagram)) (stands s)).standing ≡ link_of at s
link-next at face fails None does s later = refl
link-next at face fails (Some datagram) does s later = later datagram

link-sends : (n : ℕ) (at face : Face) (failing : List Bool) (s : Standing) → link_of at (parts.sends_within n face failing s).standing ≡ link_of at s
unfolding sends_within
link-sends zero at face failing s = refl
link-sends (suc n) at face failing s =
    link-next at face (fails_next failing) (next_of (face_of face s).outbox)
    (λ datagram. parts.sends_within n face (after_next failing) (parts.goes face (fails_next failing) datagram (doing_at face taking s))) s
    (λ datagram. link-sends n at face (after_next failing) (parts.goes face (fails_next failing) datagram (doing_at face taking s))
    ∙ link-goes at face (fails_next failing) datagram s)

-- the link is open where something may go
open-where : (s : ScheduleValue) (next : Option (List ℕ)) (reading : Option Reading) (now : Reading) (datagram : List ℕ)
    → AllByRecursion (λ t. IsSomeAnd t.reading (λ r. IsOpenAt s r.wall)) (outbox_run.tries next reading ++ [])
    → next ≡ Some datagram → reading ≡ Some now → IsOpenAt s now.wall
open-where s None reading now datagram all is read = absurd (cc)
open-where s (Some first) None now datagram all is read = absurd (cc)
open-where s (Some first) (Some r) now datagram all is read =
    subst (λ (x : Reading). IsOpenAt s x.wall) (ap (λ o. unwrap_or o r) read) all.0

open-next : (at : Face) (fails : Bool) (next : Option (List ℕ)) (does : List ℕ → Acted) (s : Standing) (is_open : Type 0)
    → ((datagram : List ℕ) → next ≡ Some datagram → is_open)
    → (tried_at at (parts.where_some next (λ datagram. after_acts (parts.tried at fails datagram ∷ []) (does datagram)) (stands s)).acts ≡ []) ⊎ is_open
open-next at fails None does s is_open may = inl refl
open-next at fails (Some datagram) does s is_open may = inr (may datagram refl)

open-sends : GoesOutInContact → (n : ℕ) (at : Face) (failing : List Bool) (s : Standing) (schedule : ScheduleValue) (now : Reading) → link_of at s ≡ (schedule, Some now)
    → (tried_at at (parts.sends_within n at failing s).acts ≡ []) ⊎ IsOpenAt schedule now.wall
unfolding sends_within
open-sends law zero at failing s schedule now is = inl refl
open-sends law (suc n) at failing s schedule now is =
    open-next at (fails_next failing) (next_of (face_of at s).outbox)
    (λ datagram. parts.sends_within n at (after_next failing) (parts.goes at (fails_next failing) datagram (doing_at at taking s))) s (IsOpenAt schedule now.wall)
    (λ datagram next. subst (λ (x : ScheduleValue). IsOpenAt x now.wall) (ap (λ (p : ScheduleValue × Option Reading). p.0) is)
    (open-where ((face_of at s).outbox).schedule (next_of (face_of at s).outbox) ((face_of at s).outbox).reading now datagram
    (law (face_of at s).outbox (outbox_run.sends ∷ [])) next (ap (λ (p : ScheduleValue × Option Reading). p.1) is)))

-- ---- what doesn't go at a face

none-append : (at : Face) (xs ys : List Act) → tried_at at xs ≡ [] → tried_at at ys ≡ [] → tried_at at (xs ++ ys) ≡ []
none-append at xs ys first later = flat_map-append (tried_by at) xs ys ∙ rw (first, later) refl

none-after : (at : Face) (xs ys : List Act) (is_open : Type 0) → (tried_at at xs ≡ []) ⊎ is_open → tried_at at ys ≡ [] → (tried_at at (xs ++ ys) ≡ []) ⊎ is_open
none-after at xs ys is_open (inl none) later = inl (none-append at xs ys none later)
none-after at xs ys is_open (inr may) later = inr may

none-before : (at : Face) (xs ys : List Act) (is_open : Type 0) → tried_at at xs ≡ [] → (tried_at at ys ≡ []) ⊎ is_open → (tried_at at (xs ++ ys) ≡ []) ⊎ is_open
none-before at xs ys is_open first (inl none) = inl (none-append at xs ys first none)
none-before at xs ys is_open first (inr may) = inr may

other-next : (at : Face) (fails : Bool) (next : Option (List ℕ)) (does : List ℕ → Acted) (s : Standing)
    → ((datagram : List ℕ) → tried_at at (does datagram).acts ≡ [])
    → tried_at at (parts.where_some next (λ datagram. after_acts (parts.tried (other_of at) fails datagram ∷ []) (does datagram)) (stands s)).acts ≡ []
other-next at fails None does s later = refl
other-next faces.Old true (Some datagram) does s later = later datagram
other-next faces.Old false (Some datagram) does s later = later datagram
other-next faces.New true (Some datagram) does s later = later datagram
other-next faces.New false (Some datagram) does s later = later datagram

none-other : (n : ℕ) (at : Face) (failing : List Bool) (s : Standing) → tried_at at (parts.sends_within n (other_of at) failing s).acts ≡ []
unfolding sends_within
none-other zero at failing s = refl
none-other (suc n) at failing s =
    other-next at (fails_next failing) (next_of (face_of (other_of at) s).outbox)
    (λ datagram. parts.sends_within n (other_of at) (after_next failing) (parts.goes (other_of at) (fails_next failing) datagram (doing_at (other_of at) taking s))) s
    (λ datagram. none-other n at (after_next failing) (parts.goes (other_of at) (fails_next failing) datagram (doing_at (other_of at) taking s)))

none-lines : (at : Face) (wall : ℕ) (events : List Event) → tried_at at (map (parts.line_at wall) events) ≡ []
none-lines at wall [] = refl
none-lines at wall (event ∷ events) = none-lines at wall events

none-now : (at : Face) (fails : Bool) (s : Standing) → tried_at at (parts.shows_now fails s) ≡ []
none-now at true s = refl
none-now at false s = refl

none-if : (at : Face) (due fails : Bool) (s : Standing) → tried_at at (parts.shows_if due fails s).acts ≡ []
none-if at false fails s = refl
none-if at true fails s = none-now at fails s

none-shows : (at : Face) (board fails : Bool) (s : Standing) → tried_at at (parts.shows board fails s).acts ≡ []
none-shows at true fails s = none-if at (parts.is_due s.shown (wall_of s)) fails s
none-shows at false fails s = refl

none-commits : (at : Face) (records : List RecordValue) → tried_at at (parts.commits_those records) ≡ []
none-commits at [] = refl
none-commits at (first ∷ more) = refl

none-installed : (at : Face) (kept : Option KeptValue) → tried_at at (parts.installs_those kept) ≡ []
none-installed at None = refl
none-installed at (Some kept) = refl

none-installs : (at : Face) (large : Bool) (s : Standing) → tried_at at (if large then parts.makes_anew s else stands s).acts ≡ []
none-installs at true s = none-installed at (kept_in s.journal)
none-installs at false s = refl

-- what is told after all sends of a half
none-told : (at : Face) (board : Bool) (came : Came) (s : Standing)
    → tried_at at ((parts.writes s).acts ++ ((parts.installs (parts.writes s).standing).acts ++ (parts.shows board came.show_fails (parts.installs (parts.writes s).standing).standing).acts)) ≡ []
none-told at board came s =
    let v = (parts.writes s).standing in
    let i = parts.installs v in
    none-append at (parts.writes s).acts (i.acts ++ (parts.shows board came.show_fails i.standing).acts) (none-lines at (wall_of s) s.said)
    (none-append at i.acts (parts.shows board came.show_fails i.standing).acts (none-installs at (is_large v.journal) v) (none-shows at board came.show_fails i.standing))

pub goes-in-contact : GoesOutInContact → GoesInContact
unfolding half
goes-in-contact law board face came s faces.Old =
    let h = hears face came s in
    let c = parts.commits h in
    let old = parts.sends faces.Old came.old_failing c.standing in
    let new = parts.sends faces.New came.new_failing old.standing in
    let u = parts.ends_sending new.standing in
    let told = (parts.writes u).acts ++ ((parts.installs u).acts ++ (parts.shows board came.show_fails (parts.installs u).standing).acts) in
    let is_open = IsOpenAt ((face_of faces.Old s).outbox).schedule (came.reading).wall in
    none-before faces.Old c.acts (old.acts ++ (new.acts ++ told)) is_open (none-commits faces.Old (records_in (parts.reserves h).journal))
    (none-after faces.Old old.acts (new.acts ++ told) is_open
    (open-sends law (length ((face_of faces.Old c.standing).outbox).waiting) faces.Old came.old_failing c.standing ((face_of faces.Old s).outbox).schedule came.reading (link-hears faces.Old face came s))
    (none-append faces.Old new.acts told
    (none-other (length ((face_of faces.New old.standing).outbox).waiting) faces.Old came.new_failing old.standing)
    (none-told faces.Old board came u)))
goes-in-contact law board face came s faces.New =
    let h = hears face came s in
    let c = parts.commits h in
    let old = parts.sends faces.Old came.old_failing c.standing in
    let new = parts.sends faces.New came.new_failing old.standing in
    let u = parts.ends_sending new.standing in
    let told = (parts.writes u).acts ++ ((parts.installs u).acts ++ (parts.shows board came.show_fails (parts.installs u).standing).acts) in
    let is_open = IsOpenAt ((face_of faces.New s).outbox).schedule (came.reading).wall in
    none-before faces.New c.acts (old.acts ++ (new.acts ++ told)) is_open (none-commits faces.New (records_in (parts.reserves h).journal))
    (none-before faces.New old.acts (new.acts ++ told) is_open
    (none-other (length ((face_of faces.Old c.standing).outbox).waiting) faces.New came.old_failing c.standing)
    (none-after faces.New new.acts told is_open
    (open-sends law (length ((face_of faces.New old.standing).outbox).waiting) faces.New came.new_failing old.standing ((face_of faces.New s).outbox).schedule came.reading
    (link-sends (length ((face_of faces.Old c.standing).outbox).waiting) faces.New faces.Old came.old_failing c.standing ∙ link-hears faces.New face came s))
    (none-told faces.New board came u)))
