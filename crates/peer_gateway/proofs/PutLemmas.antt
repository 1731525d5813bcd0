-- The octets of an outbox are those of each datagram that was put.

use Rattle.std.proofs.Common.{◌≡◌, ℕ, ◌+◌, ◌≤◌, Bool, true, false, if◌then◌else◌, List, [], ◌∷◌, ◌++◌, map, length, refl, sym, ap, ◌∙◌, subst, arith, append_assoc, length-append}
use Rattle.std.proofs.lemmas.List.{length-map, map-append}
use Rattle.std.proofs.lemmas.List.Sums.{sum_by-append, sum_by-cons}
use Rattle.ltp_segment.specs.Spelling.{segment_octets}
use Rattle.ltp_segment.specs.Values.{SegmentValue}
use Rattle.piece_gathering.specs.declared.piece.Piece.{Piece}
use Rattle.gate_cases.specs.declared.face.Face.{Face}
use Rattle.gate_cases.specs.declared.face.Face.TheVariants as faces
use Rattle.face_room.specs.Queues.{puts, queued_after, queued_with}
use Rattle.face_room.proofs.QueueLemmas.{length-puts, queues_within}
use Rattle.gateway_core.specs.declared.effects.Routed.{Routed}
use Rattle.gateway_core.specs.Effects.{routed_of}
use Rattle.gateway_core.specs.Gate.{RoutedValue, at_face, with_face, if_same}
use Rattle.peer_sessions.specs.Keys.{FaceKeys}
use Rattle.peer_sessions.specs.Sessions.{block_begins}
use Rattle.peer_gateway.specs.Keys.{PeerSetup}
use Rattle.peer_gateway.specs.Gate.{PeerFace, PeerGate, PeerMoments, PeerStep, and_then, kept_inside, may_queue, puts_out, routed_at, sizes_out, stays_so, tells, with_queued}
use Rattle.peer_gateway.specs.Going.{block_of, go, waits_too, with_block}
use Rattle.peer_gateway.specs.Steps.{does_at, with_sessions}
use Rattle.peer_gateway.specs.Laws.{IsQueued, QueuedIsPut, octets_of, put_at}
use Rattle.peer_gateway.proofs.StepLemmas.{IsKept, all-steps}

pub octets-append : (xs ys : List (List ℕ)) → octets_of (xs ++ ys) ≡ octets_of xs + octets_of ys
octets-append xs ys = sum_by-append (λ (datagram : List ℕ). length datagram) xs ys

-- ---- what is put of two lists

pub put-append : (at : Face) (ps qs : List Bool) (xs ys : List Routed) → length ps ≡ length xs
    → put_at at (ps ++ qs) (xs ++ ys) ≡ put_at at ps xs ++ put_at at qs ys
unfolding put_at
put-append at [] qs [] ys same = refl
put-append at [] qs (x ∷ xs) ys same = absurd (omega (arith, same))
put-append at (p ∷ ps) qs [] ys same = absurd (omega (arith, same))
put-append at (p ∷ ps) qs (x ∷ xs) ys same =
    let here = if p then if_same x.face at (x.datagram ∷ []) [] else [] in
    ap (λ (more : List (List ℕ)). here ++ more) (put-append at ps qs xs ys (omega (arith, same)))
    ∙ sym (append_assoc here (put_at at ps xs) (put_at at qs ys))

-- ---- datagrams of one face

abbrev pub made_at : Face → List SegmentValue → List Routed
made_at face out = map routed_of (routed_at face out)

put-one : (at : Face) (p : Bool) (s : SegmentValue) → (if p then if_same at at (segment_octets s ∷ []) [] else []) ≡ (if p then segment_octets s ∷ [] else [])
put-one faces.Old p s = refl
put-one faces.New p s = refl

pub put-here : (at : Face) (may : ℕ → Bool) (queued : ℕ) (out : List SegmentValue)
    → queued + octets_of (put_at at (puts may queued (sizes_out out)) (made_at at out)) ≡ queued_after may queued (sizes_out out)
unfolding put_at puts queued_after
put-here at may queued [] = omega arith
put-here at may queued (s ∷ out) = by (may (queued + n)) (put-here at may (queued_with may queued n) out)
  where
    n : ℕ
    n = length (segment_octets s)

    more : Bool → List Bool
    more t = puts may (if t then queued + n else queued) (sizes_out out)

    by : (t : Bool) → (if t then queued + n else queued) + octets_of (put_at at (more t) (made_at at out)) ≡ queued_after may (if t then queued + n else queued) (sizes_out out)
        → queued + octets_of ((if t then if_same at at (segment_octets s ∷ []) [] else []) ++ put_at at (more t) (made_at at out))
        ≡ queued_after may (if t then queued + n else queued) (sizes_out out)
    by true rest =
        let rest_at = put_at at (more true) (made_at at out) in
        let same = ap (λ (xs : List (List ℕ)). octets_of (xs ++ rest_at)) (put-one at true s) in
        let sum = sum_by-cons (λ (datagram : List ℕ). length datagram) (segment_octets s) rest_at in
        omega (arith, rest, same, sum)
    by false rest = rest

pub put-none : (at face : Face) (ps : List Bool) (out : List SegmentValue) → (face ≡ at → ⊥) → put_at at ps (made_at face out) ≡ []
unfolding put_at
put-none at face [] out other = refl
put-none at face (p ∷ ps) [] other = refl
put-none faces.Old faces.New (true ∷ ps) (s ∷ out) other = put-none faces.Old faces.New ps out other
put-none faces.Old faces.New (false ∷ ps) (s ∷ out) other = put-none faces.Old faces.New ps out other
put-none faces.New faces.Old (true ∷ ps) (s ∷ out) other = put-none faces.New faces.Old ps out other
put-none faces.New faces.Old (false ∷ ps) (s ∷ out) other = put-none faces.New faces.Old ps out other
put-none faces.Old faces.Old (p ∷ ps) (s ∷ out) other = absurd (other refl)
put-none faces.New faces.New (p ∷ ps) (s ∷ out) other = absurd (other refl)

pub puts-length : (k : FaceKeys) (face : Face) (f : PeerFace) (out : List SegmentValue) → length (puts_out k f out) ≡ length (routed_at face out)
puts-length k face f out =
    length-puts (may_queue k f) f.queued (sizes_out out)
    ∙ (length-map out _ ∙ sym (length-map out _))

-- ---- parts of a step

-- a face that is so and has the octets in its outbox made these
here-queued : (k : FaceKeys) (at : Face) (f : PeerFace) (out : List SegmentValue) (queued : ℕ) → f.queued ≡ queued
    → (with_queued k f out).queued ≡ queued + octets_of (put_at at (puts_out k f out) (made_at at out))
here-queued k at f out queued is =
    sym (put-here at (may_queue k f) f.queued out)
    ∙ ap (λ (n : ℕ). n + octets_of (put_at at (puts_out k f out) (made_at at out))) is

here-within : (k : FaceKeys) (f : PeerFace) (out : List SegmentValue) (queued : ℕ) → f.queued ≡ queued → queued ≤ k.bounds.outbox
    → (with_queued k f out).queued ≤ k.bounds.outbox
here-within k f out queued is few =
    (queues_within k.bounds (kept_inside k f) f.queued (sizes_out out)).waits (omega (arith, is, few))

there-queued : (at face : Face) (ps : List Bool) (out : List SegmentValue) (queued : ℕ) → (face ≡ at → ⊥)
    → queued ≡ queued + octets_of (put_at at ps (made_at face out))
there-queued at face ps out queued other = let none = ap octets_of (put-none at face ps out other) in omega (arith, none)

-- a step made datagrams at a face, and left the other face as it was
abbrev made_by : PeerSetup → Face → PeerGate → PeerFace → List SegmentValue → PeerGate
made_by s face g f out = record g { faces = with_face g.faces face (with_queued (at_face s.keys face) f out) }

pub made : (s : PeerSetup) (at face : Face) (g : PeerGate) (f : PeerFace) (out : List SegmentValue) (step : PeerStep)
    → f.queued ≡ (at_face g.faces face).queued → step.gate ≡ made_by s face g f out
    → (step.effects).out ≡ routed_at face out → (step.effects).puts ≡ puts_out (at_face s.keys face) f out → IsQueued (at_face s.keys at) at g step
made s at face g f out step is gate_is out_is puts_are = record {
  each = ap length puts_are ∙ (puts-length (at_face s.keys face) face f out ∙ sym (ap length out_is));
  queued = ap (λ (h : PeerGate). (at_face h.faces at).queued) gate_is
      ∙ (by at face is
      ∙ (ap (λ (ps : List Bool). (at_face g.faces at).queued + octets_of (put_at at ps (made_at face out))) (sym puts_are)
      ∙ ap (λ (xs : List RoutedValue). (at_face g.faces at).queued + octets_of (put_at at (step.effects).puts (map routed_of xs))) (sym out_is)));
  within = λ few. subst (λ (h : PeerGate). (at_face h.faces at).queued ≤ (at_face s.keys at).bounds.outbox) (sym gate_is) (low at face is few);
}
  where
    by : (at face : Face) → f.queued ≡ (at_face g.faces face).queued
        → (at_face (made_by s face g f out).faces at).queued
        ≡ (at_face g.faces at).queued + octets_of (put_at at (puts_out (at_face s.keys face) f out) (made_at face out))
    by faces.Old faces.Old is = here-queued s.keys.0 faces.Old f out g.faces.0.queued is
    by faces.Old faces.New is = there-queued faces.Old faces.New (puts_out s.keys.1 f out) out g.faces.0.queued (λ e. absurd (cc))
    by faces.New faces.Old is = there-queued faces.New faces.Old (puts_out s.keys.0 f out) out g.faces.1.queued (λ e. absurd (cc))
    by faces.New faces.New is = here-queued s.keys.1 faces.New f out g.faces.1.queued is

    low : (at face : Face) → f.queued ≡ (at_face g.faces face).queued → (at_face g.faces at).queued ≤ (at_face s.keys at).bounds.outbox
        → (at_face (made_by s face g f out).faces at).queued ≤ (at_face s.keys at).bounds.outbox
    low faces.Old faces.Old is few = here-within s.keys.0 f out g.faces.0.queued is few
    low faces.Old faces.New is few = few
    low faces.New faces.Old is few = few
    low faces.New faces.New is few = here-within s.keys.1 f out g.faces.1.queued is few

-- nothing was made
none-made : (k : FaceKeys) (at : Face) (g : PeerGate) (step : PeerStep) → (step.effects).out ≡ [] → (step.effects).puts ≡ []
    → (at_face (step.gate).faces at).queued ≡ (at_face g.faces at).queued → IsQueued k at g step
unfolding put_at
none-made k at g step out_is puts_are same = record {
  each = ap length puts_are ∙ sym (ap length out_is);
  queued = let none = ap (λ (ps : List Bool). octets_of (put_at at ps (map routed_of (step.effects).out))) puts_are in omega (arith, same, none);
  within = λ few. omega (arith, few, same);
}

waits-queued : (at face : Face) (piece : Piece) (is_report : Bool) (g : PeerGate)
    → (at_face (waits_too face piece is_report g).gate.faces at).queued ≡ (at_face g.faces at).queued
waits-queued faces.Old faces.Old piece is_report g = refl
waits-queued faces.Old faces.New piece is_report g = refl
waits-queued faces.New faces.Old piece is_report g = refl
waits-queued faces.New faces.New piece is_report g = refl

-- one step after another
pub queued-both : (k : FaceKeys) (at : Face) (g : PeerGate) (first : PeerStep) (next : PeerGate → PeerStep) → IsQueued k at g first
    → IsQueued k at first.gate (next first.gate) → IsQueued k at g (and_then first next)
unfolding and_then
queued-both k at g first next one two =
    let more = next first.gate in
    let xs = map routed_of (first.effects).out in
    let ys = map routed_of (more.effects).out in
    let ps = (first.effects).puts in
    let qs = (more.effects).puts in
    let same : length ps ≡ length xs = one.each ∙ sym (length-map (first.effects).out routed_of) in
    let all : put_at at (ps ++ qs) (map routed_of ((first.effects).out ++ (more.effects).out)) ≡ put_at at ps xs ++ put_at at qs ys =
    ap (put_at at (ps ++ qs)) (map-append routed_of (first.effects).out (more.effects).out) ∙ put-append at ps qs xs ys same in
    let sum = ap octets_of all ∙ octets-append (put_at at ps xs) (put_at at qs ys) in
    record {
      each = length-append ps qs ∙ (rw (one.each, two.each) (sym (length-append (first.effects).out (more.effects).out)));
      queued = omega (arith, one.queued, two.queued, sum);
      within = λ few. two.within (one.within few);
    }

-- ---- every step

queued-kept : (s : PeerSetup) (m : PeerMoments) (at : Face) → IsKept s m (IsQueued (at_face s.keys at) at)
unfolding go
queued-kept s m at = record {
  nothing = λ g. none-made (at_face s.keys at) at g (stays_so g) refl refl refl;
  both = queued-both (at_face s.keys at) at;
  telling = λ face told g. none-made (at_face s.keys at) at g (tells face told g) refl refl refl;
  hearing = λ face step g. made s at face g (with_sessions (at_face g.faces face) step) (step.effects).out (does_at s face g step) refl refl refl refl;
  waiting = λ face piece is_report g. none-made (at_face s.keys at) at g (waits_too face piece is_report g) refl refl (waits-queued at face piece is_report g);
  going = λ face until g some.
      let f = at_face g.faces face in
      let begun = block_begins (at_face s.keys face) (f.sessions).engine (block_of s face m until f) (m.at face) in
      made s at face g (with_block f until begun) (begun.effects).out (go s face m until g) refl refl refl refl;
  counting = λ g step is. record { each = is.each; queued = is.queued; within = is.within };
}

pub queued_is_put : QueuedIsPut
queued_is_put s event m at g = all-steps s m (IsQueued (at_face s.keys at) at) (queued-kept s m at) event g
