-- What happens on a link, chunk by chunk: how the link changes, what is handed up, and what is begun.

use Rattle.std.proofs.Common.{◌≡◌, ℕ, true, false, List, [], ◌∷◌, ◌++◌, length, map, Option, None, Some, Result, Ok, Err, refl, sym, ◌∙◌, ap, arith, subst, nat_lt, nat_le}
use Rattle.std.specs.Option.{option_map}
use Rattle.std.proofs.lemmas.Bool.Decides.{nat_tests}
use Rattle.std.proofs.lemmas.List.{append-nil, append_assoc, map-append}
use Rattle.std.specs.List.{slice_get}
use Rattle.ltp_session.specs.declared.name.SessionName.{SessionName}
use Rattle.ltp_session.specs.Engine.{Party, Engine, EngineStep, Reply, SubmitFault, UpValue, submit_fault, submits_unless, submits, submit_step, arrives, datagram_step, replied_or_stranger, tick_step, list_of}
use Rattle.ltp_session.specs.World.{End, first_end, second_end, other, at_end, with_end, Event, World, sent_by, replies, unless_refused, submitted, delivered, ticks, happens, run, submit, deliver, clock}
use Rattle.ltp_session.specs.World.{Sent as LinkSent}
use Rattle.ltp_laws.specs.HandUps.{up_of}
use Rattle.ltp_laws.specs.Log.{HandUp, Submission, hand_up_of, hand_ups, hand_ups_at, hand_ups_by, submissions, submissions_at, submission_of}
use Rattle.gate_cases.specs.declared.face.Face.{Face}
use Rattle.gate_cases.specs.declared.face.Face.TheVariants as faces
use Rattle.gate_cases.specs.Faces.{other_of}
use Rattle.path_laws.specs.declared.effects.UpAt.{UpAt}
use Rattle.path_laws.specs.declared.places.Place.{Place}
use Rattle.path_laws.specs.declared.places.Place.TheVariants as places
use Rattle.path_laws.specs.Places.{link_of, link_end_of, if_link, on_link}
use Rattle.path_laws.specs.Path.{up_from}
use Rattle.path_laws.specs.Log.{Begun, Origin}

-- ---- lists

pub on-append : {X Y : Type 0} (place : X → Place) (made : X → Y) (face : Face) (xs ys : List X)
    → on_link place made face (xs ++ ys) ≡ on_link place made face xs ++ on_link place made face ys
unfolding on_link
on-append place made face [] ys = refl
on-append place made face (x ∷ xs) ys =
    ap (λ rest. if_link face (link_of (place x)) (made x) ++ rest) (on-append place made face xs ys)
    ∙ sym (append_assoc (if_link face (link_of (place x)) (made x)) (on_link place made face xs) (on_link place made face ys))

pub run-append : (ps : Party × Party) (w : World) (xs ys : List Event) → run ps w (xs ++ ys) ≡ run ps (run ps w xs) ys
run-append ps w [] ys = refl
run-append ps w (e ∷ xs) ys = run-append ps (happens ps w e) xs ys

pub ups-append : (ps : Party × Party) (w : World) (xs ys : List Event)
    → hand_ups ps w (xs ++ ys) ≡ hand_ups ps w xs ++ hand_ups ps (run ps w xs) ys
unfolding hand_ups
ups-append ps w [] ys = refl
ups-append ps w (e ∷ xs) ys =
    ap (λ rest. hand_ups_at ps w e ++ rest) (ups-append ps (happens ps w e) xs ys)
    ∙ sym (append_assoc (hand_ups_at ps w e) (hand_ups ps (happens ps w e) xs) (hand_ups ps (run ps (happens ps w e) xs) ys))

pub submissions-append : (ps : Party × Party) (w : World) (xs ys : List Event)
    → submissions ps w (xs ++ ys) ≡ submissions ps w xs ++ submissions ps (run ps w xs) ys
unfolding submissions
submissions-append ps w [] ys = refl
submissions-append ps w (e ∷ xs) ys =
    ap (λ rest. submissions_at ps w e ++ rest) (submissions-append ps (happens ps w e) xs ys)
    ∙ sym (append_assoc (submissions_at ps w e) (submissions ps (happens ps w e) xs) (submissions ps (run ps (happens ps w e) xs) ys))

-- ---- chunks

-- the place at an end of a face's link
abbrev pub place_at : Face → End → Place
place_at faces.Old first_end = places.OldNode
place_at faces.Old second_end = places.OldFace
place_at faces.New first_end = places.NewFace
place_at faces.New second_end = places.NewNode

abbrev pub hand_up_from : Face → HandUp → UpAt
hand_up_from face h = record { place = place_at face h.end; session = h.session; body = h.body }

abbrev pub same_up : UpAt → UpAt
same_up u = u

abbrev pub ups_on : Face → List UpAt → List UpAt
ups_on face ups = on_link (λ (u : UpAt). u.place) same_up face ups

abbrev pub submission_from : Begun → Submission
submission_from b = record { from = link_end_of b.place; session = b.session; block = b.block; red = length b.block }

abbrev pub submissions_on : Face → List Begun → List Submission
submissions_on face begun = on_link (λ (b : Begun). b.place) submission_from face begun

-- on a face's link these events lead from one world to another, hand these blocks up, and begin these sessions
pub record Chunk (face : Face) (ps : Party × Party) (old new : World) (events : List Event) (ups : List UpAt) (begun : List Begun) : Type 0 where
  pub runs : new ≡ run ps old events
  pub handed : ups_on face ups ≡ map (hand_up_from face) (hand_ups ps old events)
  pub begins : submissions_on face begun ≡ submissions ps old events

pub chunk-none : (face : Face) (ps : Party × Party) (old new : World) → new ≡ old → Chunk face ps old new [] [] []
unfolding on_link hand_ups submissions
chunk-none face ps old new same = record { runs = same; handed = refl; begins = refl }

pub chunk-then : (face : Face) (ps : Party × Party) (w0 w1 w2 : World) (xs ys : List Event) (us vs : List UpAt) (bs cs : List Begun)
    → Chunk face ps w0 w1 xs us bs → Chunk face ps w1 w2 ys vs cs → Chunk face ps w0 w2 (xs ++ ys) (us ++ vs) (bs ++ cs)
chunk-then face ps w0 w1 w2 xs ys us vs bs cs first then = record {
  runs = then.runs ∙ (ap (λ w. run ps w ys) first.runs ∙ sym (run-append ps w0 xs ys));
  handed = on-append (λ (u : UpAt). u.place) same_up face us vs
      ∙ (rw (first.handed, then.handed, first.runs) refl
      ∙ (sym (map-append (hand_up_from face) (hand_ups ps w0 xs) (hand_ups ps (run ps w0 xs) ys))
      ∙ ap (λ hs. map (hand_up_from face) hs) (sym (ups-append ps w0 xs ys))));
  begins = on-append (λ (b : Begun). b.place) submission_from face bs cs
      ∙ (rw (first.begins, then.begins, first.runs) refl
      ∙ sym (submissions-append ps w0 xs ys));
}

-- ---- what an engine does on its link

-- the link after a step of the engine at an end
abbrev pub does_end : World → End → EngineStep → World
does_end w end step = record {
  engines = with_end w.engines end step.engine;
  sent = w.sent ++ sent_by end step.effects.out;
  now = w.now;
}

same-end : {X : Type 0} (pair : X × X) (end : End) → with_end pair end (at_end pair end) ≡ pair
same-end pair first_end = refl
same-end pair second_end = refl

-- a block that is sent
reply-does : (w : World) (end : End) (p : Party) (e : Engine) (r : Result Reply SubmitFault) (step : EngineStep) → submit_step p e r ≡ Ok step
    → does_end w end step ≡ replies w end (record { originator = p.own; number = e.next }) (unless_refused r)
reply-does w end p e (Ok reply) step is =
    let same : step ≡ replied_or_stranger e (record { originator = p.own; number = e.next }) (Some reply) = cc in
    ap (λ t. does_end w end t) same
reply-does w end p e (Err fault) step is = absurd (cc)

reply-begins : (end : End) (p : Party) (e : Engine) (block : List ℕ) (red : ℕ) (r : Result Reply SubmitFault) (step : EngineStep) → submit_step p e r ≡ Ok step
    → submission_of end e.next block red (unless_refused r) ≡ record { from = end; session = e.next; block = block; red = red } ∷ []
reply-begins end p e block red (Ok reply) step is = refl
reply-begins end p e block red (Err fault) step is = absurd (cc)

itself : (n : ℕ) → nat_le n n ≡ true
itself n = grind (arith, nat_tests)

abbrev ok_step : EngineStep → Result EngineStep SubmitFault
ok_step step = Ok step

ok-ups : (x step : EngineStep) → ok_step x ≡ ok_step step → x.effects.ups ≡ [] → step.effects.ups ≡ []
ok-ups x step is none = let same : x ≡ step = cc in subst (λ (t : EngineStep). t.effects.ups ≡ []) same none

-- nothing is handed up when a block is sent
pub sends-no-up : (p : Party) (e : Engine) (block : List ℕ) (red now : ℕ) (step : EngineStep) → submit_step p e (submits p e block red now) ≡ Ok step → step.effects.ups ≡ []
unfolding submits
sends-no-up p e block red now step is = by (submit_fault p e block) is where
  by : (fault : Option SubmitFault) → submit_step p e (submits_unless fault p e block red now) ≡ Ok step → step.effects.ups ≡ []
  by (Some fault) is = absurd (cc)
  by None is = ok-ups _ step is refl

-- ---- chunks of one event

pub link-place : (face : Face) (end : End) → link_of (place_at face end) ≡ face
link-place faces.Old first_end = refl
link-place faces.Old second_end = refl
link-place faces.New first_end = refl
link-place faces.New second_end = refl

pub end-place : (face : Face) (end : End) → link_end_of (place_at face end) ≡ end
end-place faces.Old first_end = refl
end-place faces.Old second_end = refl
end-place faces.New first_end = refl
end-place faces.New second_end = refl

pub if-here : {X : Type 0} (face : Face) (x : X) → if_link face face x ≡ x ∷ []
if-here faces.Old x = refl
if-here faces.New x = refl

pub if-there : {X : Type 0} (face : Face) (x : X) → if_link face (other_of face) x ≡ []
if-there faces.Old x = refl
if-there faces.New x = refl

abbrev pub begun_as : Place → ℕ → List ℕ → Origin → Begun
begun_as place session block origin = record { place = place; session = session; block = block; origin = origin }

pub submit-chunk : (face : Face) (ps : Party × Party) (w : World) (end : End) (block : List ℕ) (origin : Origin) (step : EngineStep)
    → submit_step (at_end ps end) (at_end w.engines end) (submits (at_end ps end) (at_end w.engines end) block (length block) w.now) ≡ Ok step
    → Chunk face ps w (does_end w end step) (submit end block (length block) ∷ []) [] (begun_as (place_at face end) (at_end w.engines end).next block origin ∷ [])
unfolding on_link hand_ups submissions submitted
submit-chunk face ps w end block origin step is = record {
  runs = rw (itself (length block)) (reply-does w end (at_end ps end) (at_end w.engines end) (submits (at_end ps end) (at_end w.engines end) block (length block) w.now) step is);
  handed = refl;
  begins = rw (itself (length block), link-place face end, end-place face end)
      (rw (
        if-here face (sub_of (at_end w.engines end).next),
        reply-begins end (at_end ps end) (at_end w.engines end) block (length block) (submits (at_end ps end) (at_end w.engines end) block (length block) w.now) step is,
      ) refl);
} where
  sub_of : ℕ → Submission
  sub_of n = record { from = end; session = n; block = block; red = length block }

reply-hears : (w : World) (end : End) (name : SessionName) (r : Option Reply) → does_end w end (replied_or_stranger (at_end w.engines end) name r) ≡ replies w end name r
reply-hears w end name None = rw (same-end w.engines end, append-nil w.sent) refl
reply-hears w end name (Some reply) = refl

reply-hands : (face : Face) (d : LinkSent) (e : Engine) (r : Option Reply)
    → ups_on face (map (up_from (place_at face (other d.from))) (replied_or_stranger e (record { originator = d.segment.originator; number = d.segment.session }) r).effects.ups)
    ≡ map (hand_up_from face) (hand_up_of d (up_of r) ++ [])
unfolding on_link
reply-hands face d e None = refl
reply-hands face d e (Some reply) = by reply.up where
  up_value : ℕ → List ℕ → UpValue
  up_value n body = record { session = n; body = body }

  by : (up : Option (List ℕ))
      → ups_on face (map (up_from (place_at face (other d.from))) (list_of (option_map (λ body. record { session = d.segment.session; body = body }) up)))
      ≡ map (hand_up_from face) (hand_up_of d up ++ [])
  by None = refl
  by (Some body) = rw (link-place face (other d.from)) (rw (if-here face (up_from (place_at face (other d.from)) (record { session = d.segment.session; body = body }))) refl)

pub deliver-chunk : (face : Face) (ps : Party × Party) (w : World) (k : ℕ) (d : LinkSent) → slice_get w.sent k ≡ Some d
    → Chunk face ps w (does_end w (other d.from) (datagram_step (at_end ps (other d.from)) (at_end w.engines (other d.from)) (Ok d.segment) w.now)) (deliver k ∷ [])
    (map (up_from (place_at face (other d.from))) (datagram_step (at_end ps (other d.from)) (at_end w.engines (other d.from)) (Ok d.segment) w.now).effects.ups) []
unfolding on_link hand_ups submissions datagram_step
deliver-chunk face ps w k d is = record {
  runs = reply-hears w (other d.from) (record { originator = d.segment.originator; number = d.segment.session }) (arrives (at_end ps (other d.from)) (at_end w.engines (other d.from)) d.segment w.now)
      ∙ ap (λ got. delivered ps w got) (sym is);
  handed = reply-hands face d (at_end w.engines (other d.from)) (arrives (at_end ps (other d.from)) (at_end w.engines (other d.from)) d.segment w.now)
      ∙ ap (λ got. map (hand_up_from face) (hand_ups_by ps w got ++ [])) (sym is);
  begins = refl;
}

pub clock-chunk : (face : Face) (ps : Party × Party) (w : World) (now : ℕ) → nat_lt now w.now ≡ false
    → Chunk face ps w (does_end (does_end (record w { now = now }) first_end (tick_step ps.0 w.engines.0 now)) second_end (tick_step ps.1 w.engines.1 now)) (clock now ∷ []) [] []
unfolding on_link hand_ups submissions ticks tick_step
clock-chunk face ps w now later = record { runs = rw later refl; handed = refl; begins = refl }

pub clock-stays : (face : Face) (ps : Party × Party) (w : World) (now : ℕ) → nat_lt now w.now ≡ true → Chunk face ps w w (clock now ∷ []) [] []
unfolding on_link hand_ups submissions
clock-stays face ps w now back = record { runs = rw back refl; handed = refl; begins = refl }
