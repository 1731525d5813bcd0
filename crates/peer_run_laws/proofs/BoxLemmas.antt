-- What a half does to a face's outbox is a list of an outbox's calls.

use Rattle.std.proofs.Common.{◌≡◌, ℕ, zero, suc, Bool, true, false, List, [], ◌∷◌, ◌++◌, length, map, Option, None, Some, if◌then◌else◌, refl, ap, ◌∙◌, sym}
use Rattle.std.proofs.lemmas.Grind.{flat_map-append}
use Rattle.std.proofs.lemmas.List.{append-nil}
use Rattle.edge_traits.specs.Faults.{fails_next, after_next}
use Rattle.gate_cases.specs.declared.face.Face.{Face}
use Rattle.gate_cases.specs.declared.face.Face.TheVariants as faces
use Rattle.gate_cases.specs.Faces.{other_of}
use Rattle.gate_log.specs.declared.event.Event.{Event}
use Rattle.gate_log.specs.declared.event.LinkEvent.{LinkEvent}
use Rattle.gateway_core.specs.declared.effects.Routed.{Routed}
use Rattle.gateway_core.specs.Gate.{at_face, with_face}
use Rattle.journal_file.specs.Values.{KeptValue, RecordValue}
use Rattle.outbox.specs.declared.reading.Reading.{Reading}
use Rattle.outbox.specs.FaceTime.{FaceMoment, face_at}
use Rattle.outbox.specs.Outbox.{OutboxValue, after_reading, after_sending, next_of}
use Rattle.outbox.specs.Run as box
use Rattle.outbox.specs.Run.{Call, datagrams_of, puts, reads, refuses, sends}
use Rattle.gate_face.specs.Faces.{FaceStanding}
use Rattle.gate_face.specs.Halves.{full_event, lost_event, taking}
use Rattle.peer_gateway.specs.Answers.{answer_of}
use Rattle.peer_half.specs.Journals.{is_large, kept_in, records_in}
use Rattle.peer_half.specs.Standing.{Standing, doing_at, face_of, saying_of, starts_empty, wall_of}
use Rattle.peer_half.specs.Starts.{cancels_in, starts_at}
use Rattle.peer_half.specs.Steps.{putting_all, putting_if, step_of}
use Rattle.peer_half.specs.Acts.{Act, Acted, after_acts, and_then, stands}
use Rattle.peer_half.specs.Parts as parts
use Rattle.peer_half.specs.Parts.{sends_within}
use Rattle.peer_half.specs.Half.{Came, answers, half, hears}
use Rattle.peer_half.specs.Runs.{EventIn, Run, begins_at}
use Rattle.peer_half.specs.Laws.{tried_at, tried_by}
use Rattle.peer_run_laws.proofs.WalkLemmas.{Keeps, keeps-hears}

-- ---- a face's outbox and its time

abbrev pub Box : Type 0
Box = OutboxValue × Option FaceMoment

abbrev pub box_of : FaceStanding → Box
box_of f = (f.outbox, f.time)

abbrev pub box_at : Face → Standing → Box
box_at at s = box_of (at_face s.faces at)

abbrev pub called : List Call → Box → Box
called calls b = (box.run b.0 calls, b.1)

-- ---- calls

-- datagrams are put, or refused
abbrev pub OnlyPuts : List Call → Type 0
OnlyPuts [] = Unit {0}
OnlyPuts (reads now ∷ calls) = ⊥
OnlyPuts (puts datagram ∷ calls) = OnlyPuts calls
OnlyPuts (refuses ∷ calls) = OnlyPuts calls
OnlyPuts (sends ∷ calls) = ⊥

-- the clocks aren't read
abbrev pub NoneReads : List Call → Type 0
NoneReads [] = Unit {0}
NoneReads (reads now ∷ calls) = ⊥
NoneReads (puts datagram ∷ calls) = NoneReads calls
NoneReads (refuses ∷ calls) = NoneReads calls
NoneReads (sends ∷ calls) = NoneReads calls

abbrev pub many_sends : ℕ → List Call
many_sends zero = []
many_sends (suc n) = sends ∷ many_sends n

only-append : (xs ys : List Call) → OnlyPuts xs → OnlyPuts ys → OnlyPuts (xs ++ ys)
only-append [] ys first more = more
only-append (reads now ∷ xs) ys first more = absurd first
only-append (puts datagram ∷ xs) ys first more = only-append xs ys first more
only-append (refuses ∷ xs) ys first more = only-append xs ys first more
only-append (sends ∷ xs) ys first more = absurd first

none-sends : (n : ℕ) → NoneReads (many_sends n)
none-sends zero = tt
none-sends (suc n) = none-sends n

none-reads : (calls : List Call) (n : ℕ) → OnlyPuts calls → NoneReads (calls ++ many_sends n)
none-reads [] n only = none-sends n
none-reads (reads now ∷ calls) n only = absurd only
none-reads (puts datagram ∷ calls) n only = none-reads calls n only
none-reads (refuses ∷ calls) n only = none-reads calls n only
none-reads (sends ∷ calls) n only = absurd only

pub run-append : (xs ys : List Call) (b : OutboxValue) → box.run b (xs ++ ys) ≡ box.run (box.run b xs) ys
run-append [] ys b = refl
run-append (call ∷ xs) ys b = run-append xs ys (box.after_call b call)

-- nothing goes out where datagrams are put
puts-tried : (calls rest : List Call) (b : OutboxValue) → OnlyPuts calls → box.tried b (calls ++ rest) ≡ box.tried (box.run b calls) rest
puts-tried [] rest b only = refl
puts-tried (reads now ∷ calls) rest b only = absurd only
puts-tried (puts datagram ∷ calls) rest b only = puts-tried calls rest (box.after_call b (puts datagram)) only
puts-tried (refuses ∷ calls) rest b only = puts-tried calls rest (box.after_call b refuses) only
puts-tried (sends ∷ calls) rest b only = absurd only

-- ---- what is put

-- an outbox became another by datagrams that were put, or refused
pub record IsFed (b after : Box) : Type 0 where
  pub calls : List Call
  pub only : OnlyPuts calls
  pub box_is : after ≡ called calls b

fed-none : (b after : Box) → after ≡ b → IsFed b after
fed-none b after is = record { calls = []; only = tt; box_is = is }

fed-then : (a b c : Box) → IsFed a b → IsFed b c → IsFed a c
fed-then a b c first more = record {
  calls = first.calls ++ more.calls;
  only = only-append first.calls more.calls first.only more.only;
  box_is = more.box_is ∙ (ap (λ (x : Box). called more.calls x) first.box_is
      ∙ ap (λ (x : OutboxValue). (x, a.1)) (sym (run-append first.calls more.calls a.0)));
}

fed-one : (is_put : Bool) (datagram : List ℕ) (f : FaceStanding) → IsFed (box_of f) (box_of (putting_if is_put datagram f))
fed-one true datagram f = record { calls = puts datagram ∷ []; only = tt; box_is = refl }
fed-one false datagram f = record { calls = refuses ∷ []; only = tt; box_is = refl }

fed-at : (at face : Face) (is_put : Bool) (datagram : List ℕ) (fs : FaceStanding × FaceStanding)
    → IsFed (box_of (at_face fs at)) (box_of (at_face (with_face fs face (putting_if is_put datagram (at_face fs face))) at))
fed-at faces.Old faces.Old is_put datagram fs = fed-one is_put datagram fs.0
fed-at faces.Old faces.New is_put datagram fs = fed-none (box_of fs.0) (box_of fs.0) refl
fed-at faces.New faces.Old is_put datagram fs = fed-none (box_of fs.1) (box_of fs.1) refl
fed-at faces.New faces.New is_put datagram fs = fed-one is_put datagram fs.1

fed-all : (at : Face) (told : List Bool) (out : List Routed) (fs : FaceStanding × FaceStanding)
    → IsFed (box_of (at_face fs at)) (box_of (at_face (putting_all told out fs) at))
unfolding putting_all
fed-all at [] out fs = fed-none (box_of (at_face fs at)) (box_of (at_face fs at)) refl
fed-all at (is_put ∷ told) [] fs = fed-none (box_of (at_face fs at)) (box_of (at_face fs at)) refl
fed-all at (is_put ∷ told) (routed ∷ more) fs =
    let next = with_face fs routed.face (putting_if is_put routed.datagram (at_face fs routed.face)) in
    fed-then (box_of (at_face fs at)) (box_of (at_face next at)) (box_of (at_face (putting_all told more next) at))
    (fed-at at routed.face is_put routed.datagram fs) (fed-all at told more next)

-- with the events of a half
fed-keeps : (at : Face) (b : Box) → Keeps (λ (s : Standing) (events : List EventIn). IsFed b (box_at at s))
fed-keeps at b = record {
  quiet = λ s t earlier same fed. fed-then b (box_at at s) (box_at at t) fed (fed-none (box_at at s) (box_at at t) (sym (ap (λ (x : Standing). box_at at x) same)));
  event = λ event journal s earlier fed.
      let answer = answer_of (step_of event s).effects in
      fed-then b (box_at at s) (box_of (at_face (putting_all answer.puts answer.out s.faces) at)) fed (fed-all at answer.puts answer.out s.faces);
}

-- the clocks are read
abbrev pub read_by : Reading → Box → Box
read_by now b = (after_reading b.0 now, Some (face_at b.0 b.1 now))

pub box-clocks : (at : Face) (now : Reading) (s : Standing) → box_at at (parts.reading_clocks now s) ≡ read_by now (box_at at s)
box-clocks faces.Old now s = refl
box-clocks faces.New now s = refl

pub box-hears : (at face : Face) (came : Came) (s : Standing) → IsFed (read_by came.reading (box_at at s)) (box_at at (hears face came s))
box-hears at face came s =
    let b = read_by came.reading (box_at at s) in
    keeps-hears (λ (t : Standing) (events : List EventIn). IsFed b (box_at at t)) (fed-keeps at b) face came s []
    (fed-none b (box_at at (parts.reading_clocks came.reading s)) (box-clocks at came.reading s))

-- ---- before the first half the cancels are put

abbrev pub starts_box : Run → Face → Box
starts_box r at = box_at at (starts_empty r.file r.kept r.wall)

pub fed-begins : (r : Run) (at : Face) → IsFed (starts_box r at) (box_at at (begins_at r))
unfolding starts_at
fed-begins r at =
    let s = starts_empty r.file r.kept r.wall in
    fed-all at (cancels_in s).puts (cancels_in s).out s.faces

-- ---- a face sends

-- what went out at a face is what so many sends of its outbox made
pub record IsSent (at : Face) (b : Box) (after : Acted) : Type 0 where
  pub count : ℕ
  pub box_is : box_at at after.standing ≡ called (many_sends count) b
  pub tried_is : tried_at at after.acts ≡ datagrams_of (box.tried b.0 (many_sends count))

pub box-goes : (at : Face) (fails : Bool) (datagram : List ℕ) (s : Standing) → box_at at (parts.goes at fails datagram (doing_at at taking s)) ≡ (after_sending (box_at at s).0, (box_at at s).1)
box-goes faces.Old true datagram s = refl
box-goes faces.Old false datagram s = refl
box-goes faces.New true datagram s = refl
box-goes faces.New false datagram s = refl

pub gone : (at : Face) (fails : Bool) (datagram : List ℕ) (acts : List Act) → tried_at at (parts.tried at fails datagram ∷ acts) ≡ datagram ∷ tried_at at acts
gone faces.Old true datagram acts = refl
gone faces.Old false datagram acts = refl
gone faces.New true datagram acts = refl
gone faces.New false datagram acts = refl

sent-next : (at : Face) (fails : Bool) (next : Option (List ℕ)) (does : List ℕ → Acted) (s : Standing) → next_of (box_at at s).0 ≡ next
    → ((datagram : List ℕ) → IsSent at (box_at at (parts.goes at fails datagram (doing_at at taking s))) (does datagram))
    → IsSent at (box_at at s) (parts.where_some next (λ datagram. after_acts (parts.tried at fails datagram ∷ []) (does datagram)) (stands s))
sent-next at fails None does s is later = record { count = 0; box_is = refl; tried_is = refl }
sent-next at fails (Some datagram) does s is later =
    let rest = later datagram in
    let b : OutboxValue = (box_at at s).0 in
    record {
      count = suc rest.count;
      box_is = rest.box_is ∙ ap (λ (x : Box). called (many_sends rest.count) x) (box-goes at fails datagram s);
      tried_is = gone at fails datagram (does datagram).acts
          ∙ (ap (λ ds. datagram ∷ ds) (rest.tried_is ∙ ap (λ (x : Box). datagrams_of (box.tried x.0 (many_sends rest.count))) (box-goes at fails datagram s))
          ∙ ap (λ o. datagrams_of (box.tries o b.reading ++ box.tried (after_sending b) (many_sends rest.count))) (sym is));
    }

sent-within : (n : ℕ) (at : Face) (failing : List Bool) (s : Standing) → IsSent at (box_at at s) (parts.sends_within n at failing s)
unfolding sends_within
sent-within zero at failing s = record { count = 0; box_is = refl; tried_is = refl }
sent-within (suc n) at failing s =
    sent-next at (fails_next failing) (next_of (box_at at s).0)
    (λ datagram. parts.sends_within n at (after_next failing) (parts.goes at (fails_next failing) datagram (doing_at at taking s))) s refl
    (λ datagram. sent-within n at (after_next failing) (parts.goes at (fails_next failing) datagram (doing_at at taking s)))

-- ---- what does nothing at a face

pub record IsApart (at : Face) (b : Box) (after : Acted) : Type 0 where
  pub box_is : box_at at after.standing ≡ b
  pub tried_is : tried_at at after.acts ≡ []

box-other : (at : Face) (fails : Bool) (datagram : List ℕ) (s : Standing) → box_at at (parts.goes (other_of at) fails datagram (doing_at (other_of at) taking s)) ≡ box_at at s
box-other faces.Old true datagram s = refl
box-other faces.Old false datagram s = refl
box-other faces.New true datagram s = refl
box-other faces.New false datagram s = refl

gone-other : (at : Face) (fails : Bool) (datagram : List ℕ) (acts : List Act) → tried_at at (parts.tried (other_of at) fails datagram ∷ acts) ≡ tried_at at acts
gone-other faces.Old true datagram acts = refl
gone-other faces.Old false datagram acts = refl
gone-other faces.New true datagram acts = refl
gone-other faces.New false datagram acts = refl

apart-next : (at : Face) (fails : Bool) (next : Option (List ℕ)) (does : List ℕ → Acted) (s : Standing) → ((datagram : List ℕ) → IsApart at (box_at at s) (does datagram))
    → IsApart at (box_at at s) (parts.where_some next (λ datagram. after_acts (parts.tried (other_of at) fails datagram ∷ []) (does datagram)) (stands s))
apart-next at fails None does s later = record { box_is = refl; tried_is = refl }
apart-next at fails (Some datagram) does s later =
    let rest = later datagram in record { box_is = rest.box_is; tried_is = gone-other at fails datagram (does datagram).acts ∙ rest.tried_is }

pub apart-within : (n : ℕ) (at : Face) (failing : List Bool) (s : Standing) → IsApart at (box_at at s) (parts.sends_within n (other_of at) failing s)
unfolding sends_within
apart-within zero at failing s = record { box_is = refl; tried_is = refl }
apart-within (suc n) at failing s =
    apart-next at (fails_next failing) (next_of (face_of (other_of at) s).outbox)
    (λ datagram. parts.sends_within n (other_of at) (after_next failing) (parts.goes (other_of at) (fails_next failing) datagram (doing_at (other_of at) taking s))) s
    (λ datagram.
    let rest = apart-within n at (after_next failing) (parts.goes (other_of at) (fails_next failing) datagram (doing_at (other_of at) taking s)) in
    record { box_is = rest.box_is ∙ box-other at (fails_next failing) datagram s; tried_is = rest.tried_is })

none-lines : (at : Face) (wall : ℕ) (events : List Event) → tried_at at (map (parts.line_at wall) events) ≡ []
none-lines at wall [] = refl
none-lines at wall (event ∷ events) = none-lines at wall events

none-now : (at : Face) (fails : Bool) (s : Standing) → tried_at at (parts.shows_now fails s) ≡ []
none-now at true s = refl
none-now at false s = refl

apart-if : (at : Face) (due fails : Bool) (s : Standing) → IsApart at (box_at at s) (parts.shows_if due fails s)
apart-if at false fails s = record { box_is = refl; tried_is = refl }
apart-if at true fails s = record { box_is = refl; tried_is = none-now at fails s }

apart-shows : (at : Face) (board fails : Bool) (s : Standing) → IsApart at (box_at at s) (parts.shows board fails s)
apart-shows at true fails s = apart-if at (parts.is_due s.shown (wall_of s)) fails s
apart-shows at false fails s = record { box_is = refl; tried_is = refl }

faces-of : (face : Face) (what : Option LinkEvent) (s : Standing) → (saying_of face what s).faces ≡ s.faces
faces-of face None s = refl
faces-of face (Some what) s = refl

faces-ends : (s : Standing) → (parts.ends_sending s).faces ≡ s.faces
faces-ends s =
    let a = saying_of faces.Old (full_event (face_of faces.Old s)) s in
    let b = parts.troubled faces.Old s in
    let c = saying_of faces.New (full_event (face_of faces.New b)) b in
    faces-of faces.New (lost_event (face_of faces.New b)) c ∙ (faces-of faces.New (full_event (face_of faces.New b)) b
    ∙ (faces-of faces.Old (lost_event (face_of faces.Old s)) a ∙ faces-of faces.Old (full_event (face_of faces.Old s)) s))

none-commits : (at : Face) (records : List RecordValue) → tried_at at (parts.commits_those records) ≡ []
none-commits at [] = refl
none-commits at (first ∷ more) = refl

pub apart-commits : (at : Face) (s : Standing) → IsApart at (box_at at s) (parts.commits s)
apart-commits at s = record { box_is = refl; tried_is = none-commits at (records_in (parts.reserves s).journal) }

pub none-installed : (at : Face) (kept : Option KeptValue) → tried_at at (parts.installs_those kept) ≡ []
none-installed at None = refl
none-installed at (Some kept) = refl

apart-installs : (at : Face) (large : Bool) (s : Standing) → IsApart at (box_at at s) (if large then parts.makes_anew s else stands s)
apart-installs at true s = record { box_is = refl; tried_is = none-installed at (kept_in s.journal) }
apart-installs at false s = record { box_is = refl; tried_is = refl }

apart-writes : (at : Face) (s : Standing) → IsApart at (box_at at s) (parts.writes (parts.ends_sending s))
apart-writes at s = record {
  box_is = ap (λ fs. box_of (at_face fs at)) (faces-ends s);
  tried_is = none-lines at (wall_of (parts.ends_sending s)) (parts.ends_sending s).said;
}

-- ---- one after the other

pub tried-append : (at : Face) (xs ys : List Act) → tried_at at (xs ++ ys) ≡ tried_at at xs ++ tried_at at ys
tried-append at xs ys = flat_map-append (tried_by at) xs ys

pub apart-then : (at : Face) (b : Box) (x y : Acted) → IsApart at b x → IsApart at (box_at at x.standing) y → IsApart at b (after_acts x.acts y)
apart-then at b x y first later = record {
  box_is = later.box_is ∙ first.box_is;
  tried_is = tried-append at x.acts y.acts ∙ (ap (λ ds. ds ++ tried_at at y.acts) first.tried_is ∙ later.tried_is);
}

-- what is done once both faces have sent
abbrev pub tells : Bool → Came → Standing → Acted
tells board came s =
    and_then (parts.writes (parts.ends_sending s)) (λ v. and_then (parts.installs v) (parts.shows board came.show_fails))

pub apart-tells : (at : Face) (board : Bool) (came : Came) (s : Standing) → IsApart at (box_at at s) (tells board came s)
apart-tells at board came s =
    let u = parts.ends_sending s in
    let i = parts.installs u in
    apart-then at (box_at at s) (parts.writes u) (after_acts i.acts (parts.shows board came.show_fails i.standing)) (apart-writes at s)
    (apart-then at (box_at at u) i (parts.shows board came.show_fails i.standing) (apart-installs at (is_large u.journal) u) (apart-shows at board came.show_fails i.standing))

sent-then : (at : Face) (b : Box) (x y : Acted) → IsSent at b x → IsApart at (box_at at x.standing) y → IsSent at b (after_acts x.acts y)
sent-then at b x y first later = record {
  count = first.count;
  box_is = later.box_is ∙ first.box_is;
  tried_is = tried-append at x.acts y.acts ∙ (ap (λ ds. tried_at at x.acts ++ ds) later.tried_is ∙ (append-nil (tried_at at x.acts) ∙ first.tried_is));
}

then-sent : (at : Face) (b : Box) (x y : Acted) → IsApart at b x → IsSent at (box_at at x.standing) y → IsSent at b (after_acts x.acts y)
then-sent at b x y first later = record {
  count = later.count;
  box_is = later.box_is ∙ ap (λ (c : Box). called (many_sends later.count) c) first.box_is;
  tried_is = tried-append at x.acts y.acts ∙ (ap (λ ds. ds ++ tried_at at y.acts) first.tried_is
      ∙ (later.tried_is ∙ ap (λ (c : Box). datagrams_of (box.tried c.0 (many_sends later.count))) first.box_is));
}

pub sent-answers : (at : Face) (board : Bool) (came : Came) (s : Standing) → IsSent at (box_at at s) (answers board came s)
sent-answers faces.Old board came s =
    let c = parts.commits s in
    let old = parts.sends faces.Old came.old_failing c.standing in
    let new = parts.sends faces.New came.new_failing old.standing in
    let told = tells board came new.standing in
    then-sent faces.Old (box_at faces.Old s) c (after_acts old.acts (after_acts new.acts told)) (apart-commits faces.Old s)
    (sent-then faces.Old (box_at faces.Old c.standing) old (after_acts new.acts told)
    (sent-within (length ((face_of faces.Old c.standing).outbox).waiting) faces.Old came.old_failing c.standing)
    (apart-then faces.Old (box_at faces.Old old.standing) new told
    (apart-within (length ((face_of faces.New old.standing).outbox).waiting) faces.Old came.new_failing old.standing)
    (apart-tells faces.Old board came new.standing)))
sent-answers faces.New board came s =
    let c = parts.commits s in
    let old = parts.sends faces.Old came.old_failing c.standing in
    let new = parts.sends faces.New came.new_failing old.standing in
    let told = tells board came new.standing in
    then-sent faces.New (box_at faces.New s) c (after_acts old.acts (after_acts new.acts told)) (apart-commits faces.New s)
    (then-sent faces.New (box_at faces.New c.standing) old (after_acts new.acts told)
    (apart-within (length ((face_of faces.Old c.standing).outbox).waiting) faces.New came.old_failing c.standing)
    (sent-then faces.New (box_at faces.New old.standing) new told
    (sent-within (length ((face_of faces.New old.standing).outbox).waiting) faces.New came.new_failing old.standing)
    (apart-tells faces.New board came new.standing)))

-- ---- a half

-- a half reads the clocks, and makes of the outbox what these calls make, of which none reads them again
pub record IsHalf (at : Face) (came : Came) (s : Standing) (after : Acted) : Type 0 where
  pub calls : List Call
  pub unread : NoneReads calls
  pub outbox_is : (face_of at after.standing).outbox ≡ box.run (after_reading (face_of at s).outbox came.reading) calls
  pub time_is : (face_of at after.standing).time ≡ Some (face_at (face_of at s).outbox (face_of at s).time came.reading)
  pub tried_is : tried_at at after.acts ≡ datagrams_of (box.tried (after_reading (face_of at s).outbox came.reading) calls)

pub half-is : (board : Bool) (at face : Face) (came : Came) (s : Standing) → IsHalf at came s (half board face came s)
unfolding half
half-is board at face came s =
    let h : Standing = hears face came s in
    let fed = box-hears at face came s in
    let sent = sent-answers at board came h in
    let b : OutboxValue = after_reading (face_of at s).outbox came.reading in
    let time : Option FaceMoment = Some (face_at (face_of at s).outbox (face_of at s).time came.reading) in
    let all : box_at at (answers board came h).standing ≡ called (many_sends sent.count) (called fed.calls (b, time)) =
    sent.box_is ∙ ap (λ (x : Box). called (many_sends sent.count) x) fed.box_is in
    record {
      calls = fed.calls ++ many_sends sent.count;
      unread = none-reads fed.calls sent.count fed.only;
      outbox_is = ap (λ (x : Box). x.0) all ∙ sym (run-append fed.calls (many_sends sent.count) b);
      time_is = ap (λ (x : Box). x.1) all;
      tried_is = sent.tried_is ∙ (ap (λ (x : Box). datagrams_of (box.tried x.0 (many_sends sent.count))) fed.box_is
          ∙ ap datagrams_of (sym (puts-tried fed.calls (many_sends sent.count) b fed.only)));
    }
