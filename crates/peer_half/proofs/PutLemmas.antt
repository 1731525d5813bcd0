-- What the gate puts into an outbox waits there, and is counted.

use Rattle.std.proofs.Common.{◌≡◌, ℕ, ◌+◌, ◌≤◌, Bool, true, false, if◌then◌else◌, List, [], ◌∷◌, ◌++◌, length, refl, sym, ap, ◌∙◌, arith, append_assoc, append-nil}
use Rattle.std.proofs.lemmas.Bool.{le-leb}
use Rattle.std.proofs.lemmas.List.Sums.{sum_by-cons}
use Rattle.gate_cases.specs.declared.face.Face.{Face}
use Rattle.gate_cases.specs.declared.face.Face.TheVariants as faces
use Rattle.gateway_core.specs.declared.effects.Routed.{Routed}
use Rattle.gateway_core.specs.Gate.{if_same, at_face, with_face}
use Rattle.outbox.specs.Outbox.{fits, octets_in}
use Rattle.gate_face.specs.Faces.{FaceStanding}
use Rattle.peer_gateway.specs.Answers.{answer_of}
use Rattle.peer_gateway.specs.Keys.{PeerSetup}
use Rattle.peer_gateway.specs.Gate.{PeerGate}
use Rattle.peer_gateway.specs.Laws.{octets_of, put_at}
use Rattle.peer_gateway.specs.Steps.{PeerEvent, with_outboxes, peer_step}
use Rattle.peer_gateway.proofs.PutLemmas.{queued_is_put}
use Rattle.peer_half.specs.Standing.{Standing}
use Rattle.peer_half.specs.Steps.{happened_in, happens_again, outboxes_in, putting_all, putting_if, recorded_with, step_of}
use Rattle.peer_half.specs.Laws.{IsFitted, PutsAsCounted, PutsCounted, outbox_at, waits_in}
use Rattle.peer_half.proofs.StandingLemmas.{happens-rest}

abbrev limit_of : FaceStanding → ℕ
limit_of f = (f.outbox).limit

pub octets-append : (xs ys : List (List ℕ)) → octets_in (xs ++ ys) ≡ octets_in xs + octets_in ys
octets-append [] ys = omega arith
octets-append (x ∷ xs) ys = let rest = octets-append xs ys in omega (arith, rest)

-- the octets of datagrams, as a gate and as an outbox count them
pub octets-same : (xs : List (List ℕ)) → octets_of xs ≡ octets_in xs
octets-same [] = refl
octets-same (x ∷ xs) =
    let rest = octets-same xs in
    let one = sum_by-cons (λ (datagram : List ℕ). length datagram) x xs in
    omega (arith, rest, one)

-- ---- a datagram is put

pub limit-one : (is_put : Bool) (datagram : List ℕ) (f : FaceStanding) → limit_of (putting_if is_put datagram f) ≡ limit_of f
limit-one true datagram f = refl
limit-one false datagram f = refl

abbrev put_if : Bool → List ℕ → List (List ℕ)
put_if true datagram = datagram ∷ []
put_if false datagram = []

one-waits : (is_put : Bool) (datagram : List ℕ) (f : FaceStanding) → octets_in (f.outbox).waiting + octets_in (put_if is_put datagram) ≤ limit_of f
    → ((putting_if is_put datagram f).outbox).waiting ≡ (f.outbox).waiting ++ put_if is_put datagram
one-waits true datagram f few =
    let fit : fits f.outbox datagram ≡ true = le-leb (octets_in (f.outbox).waiting + length datagram) (limit_of f) (omega (arith, few)) in
    rw fit refl
one-waits false datagram f few = sym (append-nil (f.outbox).waiting)

-- ---- at a face of both

abbrev pub putting_at : Bool → Routed → FaceStanding × FaceStanding → FaceStanding × FaceStanding
putting_at is_put routed fs = with_face fs routed.face (putting_if is_put routed.datagram (at_face fs routed.face))

abbrev pub put_here : Face → Bool → Routed → List (List ℕ)
put_here at is_put routed = if is_put then if_same routed.face at (routed.datagram ∷ []) [] else []

pub limit-at : (at face : Face) (is_put : Bool) (datagram : List ℕ) (fs : FaceStanding × FaceStanding)
    → limit_of (at_face (putting_at is_put (record { face = face; datagram = datagram }) fs) at) ≡ limit_of (at_face fs at)
limit-at faces.Old faces.Old is_put datagram fs = limit-one is_put datagram fs.0
limit-at faces.Old faces.New is_put datagram fs = refl
limit-at faces.New faces.Old is_put datagram fs = refl
limit-at faces.New faces.New is_put datagram fs = limit-one is_put datagram fs.1

pub limit-all : (at : Face) (puts : List Bool) (out : List Routed) (fs : FaceStanding × FaceStanding) → limit_of (at_face (putting_all puts out fs) at) ≡ limit_of (at_face fs at)
unfolding putting_all
limit-all at [] out fs = refl
limit-all at (is_put ∷ puts) [] fs = refl
limit-all at (is_put ∷ puts) (routed ∷ more) fs =
    limit-all at puts more (putting_at is_put routed fs) ∙ limit-at at routed.face is_put routed.datagram fs

pub here-waits : (at face : Face) (is_put : Bool) (datagram : List ℕ) (fs : FaceStanding × FaceStanding)
    → octets_in (waits_in at fs) + octets_in (put_here at is_put (record { face = face; datagram = datagram })) ≤ limit_of (at_face fs at)
    → waits_in at (putting_at is_put (record { face = face; datagram = datagram }) fs) ≡ waits_in at fs ++ put_here at is_put (record { face = face; datagram = datagram })
here-waits faces.Old faces.Old true datagram fs few = one-waits true datagram fs.0 few
here-waits faces.Old faces.Old false datagram fs few = one-waits false datagram fs.0 few
here-waits faces.Old faces.New true datagram fs few = sym (append-nil (waits_in faces.Old fs))
here-waits faces.Old faces.New false datagram fs few = sym (append-nil (waits_in faces.Old fs))
here-waits faces.New faces.Old true datagram fs few = sym (append-nil (waits_in faces.New fs))
here-waits faces.New faces.Old false datagram fs few = sym (append-nil (waits_in faces.New fs))
here-waits faces.New faces.New true datagram fs few = one-waits true datagram fs.1 few
here-waits faces.New faces.New false datagram fs few = one-waits false datagram fs.1 few

-- all that is put waits, where no more octets wait then than may
pub all-wait : (at : Face) (puts : List Bool) (out : List Routed) (fs : FaceStanding × FaceStanding)
    → octets_in (waits_in at fs) + octets_in (put_at at puts out) ≤ limit_of (at_face fs at)
    → waits_in at (putting_all puts out fs) ≡ waits_in at fs ++ put_at at puts out
unfolding putting_all put_at
all-wait at [] out fs few = sym (append-nil (waits_in at fs))
all-wait at (is_put ∷ puts) [] fs few = sym (append-nil (waits_in at fs))
all-wait at (is_put ∷ puts) (routed ∷ more) fs few =
    let next = putting_at is_put routed fs in
    let here = put_here at is_put routed in
    let rest = put_at at puts more in
    let parts = octets-append here rest in
    let one = here-waits at routed.face is_put routed.datagram fs (omega (arith, few, parts)) in
    let now = ap octets_in one ∙ octets-append (waits_in at fs) here in
    all-wait at puts more next (omega (arith, few, parts, now, limit-at at routed.face is_put routed.datagram fs))
    ∙ (ap (λ (ds : List (List ℕ)). ds ++ rest) one ∙ append_assoc (waits_in at fs) here rest)

-- ---- with an event

-- the gate finds the octets that wait
finds : (at : Face) (s : Standing) (g : PeerGate) → (at_face (with_outboxes (outboxes_in s) g).faces at).queued ≡ outbox_at at s
finds faces.Old s g = refl
finds faces.New s g = refl

-- a face after an event, but for what is said
pub after-puts : (event : PeerEvent) (s t : Standing) (at : Face) → IsFitted at s → t.setup ≡ s.setup → t.gate ≡ (step_of event s).gate
    → t.faces ≡ putting_all (answer_of (step_of event s).effects).puts (answer_of (step_of event s).effects).out s.faces
    → PutsCounted at (step_of event s) s t
unfolding peer_step
after-puts event s t at fitted setup_is gate_is faces_are =
    let step = step_of event s in
    let answer = answer_of step.effects in
    let is = queued_is_put s.setup event s.moments at (with_outboxes (outboxes_in s) s.gate) in
    let found = finds at s s.gate in
    let put = octets-same (put_at at answer.puts answer.out) in
    let limit : limit_of (at_face s.faces at) ≡ (at_face s.setup.keys at).bounds.outbox = fitted.limit in
    let low = is.within (omega (arith, found, fitted.within, limit)) in
    let waits = all-wait at answer.puts answer.out s.faces (omega (arith, is.queued, found, put, low, limit)) in
    let limit_after = ap (λ (fs : FaceStanding × FaceStanding). limit_of (at_face fs at)) faces_are ∙ limit-all at answer.puts answer.out s.faces in
    let waits_after = ap (λ (fs : FaceStanding × FaceStanding). waits_in at fs) faces_are ∙ waits in
    let octets = ap octets_in waits_after ∙ octets-append (waits_in at s.faces) (put_at at answer.puts answer.out) in
    let queued = ap (λ (g : PeerGate). (at_face g.faces at).queued) gate_is in
    record {
      waits = waits_after;
      counted = omega (arith, octets, queued, is.queued, found, put);
      fitted = record {
        limit = limit_after ∙ (limit ∙ ap (λ (setup : PeerSetup). (at_face setup.keys at).bounds.outbox) (sym setup_is));
        within = omega (arith, octets, is.queued, found, put, low, limit, limit_after);
      };
    }

pub puts-as-counted : PutsAsCounted
puts-as-counted again event s face fitted =
    let is = happens-rest event (recorded_with (happened_in again event s) s.journal) s in
    after-puts event s (happens_again again event s) face fitted (ap (λ (t : Standing). t.setup) is) (ap (λ (t : Standing). t.gate) is)
    (ap (λ (t : Standing). t.faces) is)
