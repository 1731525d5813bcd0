-- Without contacts and pace nothing waits.

use Rattle.std.proofs.Common.{◌≡◌, ℕ, Bool, true, List, [], ◌∷◌, ◌++◌, length, Option, None, Some, refl, ap, ◌∙◌, sym, subst}
use Rattle.std.specs.Option.{is_some}
use Rattle.std.proofs.lemmas.List.{append-nil}
use Rattle.edge_traits.specs.Faults.{fails_next, after_next}
use Rattle.gate_cases.specs.declared.face.Face.{Face}
use Rattle.gate_cases.specs.declared.face.Face.TheVariants as faces
use Rattle.gate_cases.specs.Faces.{other_of}
use Rattle.outbox.specs.declared.reading.Reading.{Reading}
use Rattle.outbox.specs.Laws.{GoesOutInOrder}
use Rattle.outbox.specs.Outbox.{OutboxValue, after_putting, after_reading, after_refusing, after_sending, contact_of, may_send, next_of, rate_now}
use Rattle.outbox.specs.Run as box
use Rattle.outbox.specs.Run.{Call, puts, reads, refuses, sends}
use Rattle.outbox.specs.Schedule.{ScheduleValue, contact_in, rate_of}
use Rattle.gate_face.specs.Halves.{taking}
use Rattle.peer_half.specs.Standing.{Standing, doing_at, face_of}
use Rattle.peer_half.specs.Acts.{Acted, after_acts, stands}
use Rattle.peer_half.specs.Parts as parts
use Rattle.peer_half.specs.Parts.{sends_within}
use Rattle.peer_half.specs.Half.{Came, answers, half, hears}
use Rattle.peer_half.specs.Laws.{IsFitted, tried_at, waiting_at}
use Rattle.peer_half.specs.Runs.{Run, begins_at}
use Rattle.peer_run_laws.specs.Faces.{AreAtOnce, GoesAtOnceInRuns, config_of, plan_of, put_by}
use Rattle.peer_run_laws.proofs.BoxLemmas.{Box, IsApart, OnlyPuts, apart-tells, apart-within, box-goes, box-hears, box_at, tells}
use Rattle.peer_run_laws.proofs.FaceLemmas.{schedule-at, schedule-half}
use Rattle.peer_run_laws.proofs.OrderLemmas.{fitted-begins, fitted-half, half-puts, order-answers}

-- ---- an outbox whose link is open, and that has no pace

-- its schedule has no contacts and no rate
pub record IsFree (s : ScheduleValue) : Type 0 where
  pub windows : s.windows ≡ []
  pub rates : s.rates ≡ []
  pub rate : s.rate ≡ None

-- so it lies in a contact without a rate, once the clocks were read
record Goes (b : OutboxValue) : Type 0 where
  contact : is_some (contact_of b) ≡ true
  rate : rate_now b ≡ None

goes-read : (b : OutboxValue) (now : Reading) → IsFree b.schedule → Goes (after_reading b now)
goes-read b now free = record {
  contact = ap (λ windows. is_some (contact_in windows now.wall)) free.windows;
  rate = ap (λ windows. rate_of b.schedule (contact_in windows now.wall)) free.windows
      ∙ (ap (λ (rates : List (Option ℕ)). rate_of (record b.schedule { rates = rates }) (Some 0)) free.rates ∙ free.rate);
}

goes-puts : (calls : List Call) (b : OutboxValue) → OnlyPuts calls → Goes b → Goes (box.run b calls)
goes-puts [] b only goes = goes
goes-puts (reads now ∷ calls) b only goes = absurd only
goes-puts (puts d ∷ calls) b only goes = goes-puts calls (after_putting b d) only (record { contact = goes.contact; rate = goes.rate })
goes-puts (refuses ∷ calls) b only goes = goes-puts calls (after_refusing b) only (record { contact = goes.contact; rate = goes.rate })
goes-puts (sends ∷ calls) b only goes = absurd only

may-go : (b : OutboxValue) → Goes b → may_send b ≡ true
may-go b goes = rw (goes.contact, goes.rate) refl

-- ---- a face sends all that waits

abbrev IsEmpty : Face → Standing → Type 0
IsEmpty at s = (box_at at s).0.waiting ≡ []

goes-taken : (at : Face) (fails : Bool) (datagram : List ℕ) (s : Standing) → Goes (box_at at s).0
    → Goes (box_at at (parts.goes at fails datagram (doing_at at taking s))).0
goes-taken at fails datagram s goes =
    subst (λ (b : Box). Goes b.0) (sym (box-goes at fails datagram s)) (record { contact = goes.contact; rate = goes.rate })

left-taken : (at : Face) (fails : Bool) (datagram : List ℕ) (s : Standing) (rest : List (List ℕ)) → Goes (box_at at s).0
    → (box_at at s).0.waiting ≡ datagram ∷ rest → (box_at at (parts.goes at fails datagram (doing_at at taking s))).0.waiting ≡ rest
left-taken at fails datagram s rest goes is =
    ap (λ (b : Box). b.0.waiting) (box-goes at fails datagram s) ∙ taken (box_at at s).0 goes is
  where
    taken : (b : OutboxValue) → Goes b → b.waiting ≡ datagram ∷ rest → (after_sending b).waiting ≡ rest
    taken b goes is = rw (may-go b goes, is) refl

-- the datagram that goes next goes, and then others
emptied-next : (at : Face) (fails : Bool) (d : List ℕ) (next : Option (List ℕ)) (does : List ℕ → Acted) (s : Standing) → next ≡ Some d → IsEmpty at (does d).standing
    → IsEmpty at (parts.where_some next (λ datagram. after_acts (parts.tried at fails datagram ∷ []) (does datagram)) (stands s)).standing
emptied-next at fails d next does s is rest =
    subst (λ (o : Option (List ℕ)). IsEmpty at (parts.where_some o (λ datagram. after_acts (parts.tried at fails datagram ∷ []) (does datagram)) (stands s)).standing) (sym is) rest

emptied-within : (ds : List (List ℕ)) (at : Face) (failing : List Bool) (s : Standing) → Goes (box_at at s).0 → (box_at at s).0.waiting ≡ ds
    → IsEmpty at (parts.sends_within (length ds) at failing s).standing
unfolding sends_within
emptied-within [] at failing s goes is = is
emptied-within (d ∷ ds) at failing s goes is =
    let next : Standing = parts.goes at (fails_next failing) d (doing_at at taking s) in
    let rest = emptied-within ds at (after_next failing) next (goes-taken at (fails_next failing) d s goes) (left-taken at (fails_next failing) d s ds goes is) in
    emptied-next at (fails_next failing) d (next_of (face_of at s).outbox)
    (λ datagram. parts.sends_within (length ds) at (after_next failing) (parts.goes at (fails_next failing) datagram (doing_at at taking s))) s
    (first-is (face_of at s).outbox goes is) rest
  where
    first-is : (b : OutboxValue) → Goes b → b.waiting ≡ d ∷ ds → next_of b ≡ Some d
    first-is b goes is = rw (may-go b goes, is) refl

empty-then : (at : Face) (s : Standing) (y : Acted) → IsEmpty at s → IsApart at (box_at at s) y → IsEmpty at y.standing
empty-then at s y none later = ap (λ (c : Box). c.0.waiting) later.box_is ∙ none

emptied-answers : (at : Face) (board : Bool) (came : Came) (s : Standing) → Goes (box_at at s).0 → IsEmpty at (answers board came s).standing
emptied-answers faces.Old board came s goes =
    let c = parts.commits s in
    let old = parts.sends faces.Old came.old_failing c.standing in
    let new = parts.sends faces.New came.new_failing old.standing in
    empty-then faces.Old new.standing (tells board came new.standing)
    (empty-then faces.Old old.standing new
    (emptied-within ((face_of faces.Old c.standing).outbox).waiting faces.Old came.old_failing c.standing goes refl)
    (apart-within (length ((face_of faces.New old.standing).outbox).waiting) faces.Old came.new_failing old.standing))
    (apart-tells faces.Old board came new.standing)
emptied-answers faces.New board came s goes =
    let c = parts.commits s in
    let old = parts.sends faces.Old came.old_failing c.standing in
    let new = parts.sends faces.New came.new_failing old.standing in
    let apart = apart-within (length ((face_of faces.Old c.standing).outbox).waiting) faces.New came.old_failing c.standing in
    empty-then faces.New new.standing (tells board came new.standing)
    (emptied-within ((face_of faces.New old.standing).outbox).waiting faces.New came.new_failing old.standing
    (subst (λ (b : Box). Goes b.0) (sym apart.box_is) goes) refl)
    (apart-tells faces.New board came new.standing)

-- ---- a half

emptied-half : (board : Bool) (at face : Face) (came : Came) (s : Standing) → IsFree ((face_of at s).outbox).schedule
    → waiting_at at (half board face came s).standing ≡ []
unfolding half
emptied-half board at face came s free =
    let fed = box-hears at face came s in
    emptied-answers at board came (hears face came s)
    (subst (λ (b : Box). Goes b.0) (sym fed.box_is)
    (goes-puts fed.calls (after_reading (face_of at s).outbox came.reading) fed.only (goes-read (face_of at s).outbox came.reading free)))

tried-half : GoesOutInOrder → (board : Bool) (at face : Face) (came : Came) (s : Standing) → IsFitted at s → waiting_at at (half board face came s).standing ≡ []
    → tried_at at (half board face came s).acts ≡ waiting_at at s ++ put_by at face came s
unfolding half
tried-half law board at face came s fitted none =
    let h = hears face came s in
    sym (append-nil (tried_at at (answers board came h).acts))
    ∙ (ap (λ ds. tried_at at (answers board came h).acts ++ ds) (sym none)
    ∙ (order-answers law at board came h ∙ half-puts at face came s fitted))

-- ---- a run

once-halves : GoesOutInOrder → (at : Face) (board : Bool) (face : Face) (comes : List Came) (s : Standing) → IsFitted at s → IsFree ((face_of at s).outbox).schedule
    → AreAtOnce at board face comes s
unfolding AreAtOnce
once-halves law at board face [] s fitted free = tt
once-halves law at board face (came ∷ more) s fitted free =
    let none = emptied-half board at face came s free in
    let rest = once-halves law at board (other_of face) more (half board face came s).standing (fitted-half law board at face came s fitted) (subst IsFree (sym (schedule-half board at face came s)) free) in
    (none, tried-half law board at face came s fitted none, rest)

-- when it begins a face is set up as the file has it
free-at : (r : Run) (at : Face) → (config_of r at).contacts ≡ [] → (config_of r at).rate ≡ None → IsFree ((face_of at (begins_at r)).outbox).schedule
free-at r at none unpaced = subst IsFree (sym (schedule-at r at)) (by_face at none unpaced) where
  by_face : (at : Face) → (config_of r at).contacts ≡ [] → (config_of r at).rate ≡ None → IsFree (plan_of r at)
  by_face faces.Old none unpaced = record { windows = rw none refl; rates = rw none refl; rate = unpaced }
  by_face faces.New none unpaced = record { windows = rw none refl; rates = rw none refl; rate = unpaced }

pub goes-at-once-in-runs : GoesOutInOrder → GoesAtOnceInRuns
goes-at-once-in-runs law r at none unpaced = once-halves law at r.board faces.Old r.comes (begins_at r) (fitted-begins r at) (free-at r at none unpaced)
