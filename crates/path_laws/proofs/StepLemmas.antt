-- An event of a path, on each of its links.

use Rattle.std.proofs.Common.{◌≡◌, ℕ, ◌+◌, Bool, true, false, List, [], ◌∷◌, ◌++◌, length, map, Option, None, Some, Result, Ok, Err, refl, sym, ◌∙◌, ap, subst, if◌then◌else◌}
use Rattle.std.proofs.lemmas.List.{append-nil, append_assoc, map-append}
use Rattle.ltp_segment.specs.Values.{SegmentValue}
use Rattle.ltp_session.specs.Engine.{Party, Engine, EngineStep, SubmitFault, UpValue}
use Rattle.ltp_session.specs.World.{End, first_end, second_end, Event, World, sent_by, submit}
use Rattle.ltp_session.specs.World.{Sent as LinkSent}
use Rattle.ltp_laws.specs.Log.{hand_ups, submissions}
use Rattle.gate_cases.specs.declared.face.Face.{Face}
use Rattle.gate_cases.specs.declared.face.Face.TheVariants as faces
use Rattle.gate_cases.specs.declared.judged.Judged.{Judged}
use Rattle.gate_cases.specs.declared.report.AskedReport.{AskedReport}
use Rattle.gate_cases.specs.Faces.{other_of}
use Rattle.gate_cases.specs.Bundles.{status_bundle}
use Rattle.gateway_core.specs.declared.note.GateNote.{GateNote}
use Rattle.gateway_core.specs.declared.note.GateNote.TheVariants as notes
use Rattle.gateway_core.specs.Gate.{Gate, GateStep, segment_at, up_at, at_face, does_at, effects_at}
use Rattle.gateway_core.specs.Gate.{sends_unless, submission_at, sends_at, judged_at, is_unreported}
use Rattle.gateway_core.specs.Gate.{case_note, reports_at, answers_at, decides_at, passes_at}
use Rattle.gateway_core.specs.Gate.{noted_at, stays_so, and_then, in_turn}
use Rattle.path_laws.specs.declared.effects.UpAt.{UpAt}
use Rattle.path_laws.specs.declared.places.PathEnd.{PathEnd}
use Rattle.path_laws.specs.declared.places.PathEnd.TheVariants as ends
use Rattle.path_laws.specs.declared.places.Place.TheVariants as places
use Rattle.path_laws.specs.Places.{face_of, end_of, face_place, link_of, on_link}
use Rattle.path_laws.specs.Path.{PathSetup, Path, SentFrom, sent_from, up_from, gate_sent, gate_up, node_does, gate_does, gate_effects}
use Rattle.path_laws.specs.Log.{Origin, a_piece, a_report, Begun, begun_unless, begun_by, pieces_begun, report_begun, decided_begun, passed_begun}
use Rattle.path_laws.specs.Links.{link_parties, link_sent, sent_on, link_at, submit_of, submits_on}
use Rattle.path_laws.proofs.ChunkLemmas.{on-append, Chunk, chunk-none, chunk-then, place_at, ups_on, submission_from, does_end, link-place, end-place, if-here, if-there, begun_as, sends-no-up, submit-chunk}

-- ---- here and there

abbrev pub node_end : PathEnd → End
node_end ends.Old = first_end
node_end ends.New = second_end

abbrev pub gate_end : Face → End
gate_end faces.Old = second_end
gate_end faces.New = first_end

-- what holds of a face and of the other one holds of each
pub either_face : (P : Face → Type 0) (face : Face) → P face → P (other_of face) → (each : Face) → P each
either_face P faces.Old here there faces.Old = here
either_face P faces.Old here there faces.New = there
either_face P faces.New here there faces.Old = there
either_face P faces.New here there faces.New = here

sent-here : (face : Face) (end : End) (segments : List SegmentValue) → sent_on face (map (sent_from (place_at face end)) segments) ≡ sent_by end segments
unfolding on_link
sent-here face end [] = refl
sent-here face end (s ∷ segments) =
    rw (link-place face end, end-place face end)
    (rw (if-here face (link_as end s)) (ap (λ rest. link_as end s ∷ rest) (sent-here face end segments)))
  where
    link_as : End → SegmentValue → LinkSent
    link_as end s = record { from = end; segment = s }

sent-there : (face : Face) (end : End) (segments : List SegmentValue) → sent_on (other_of face) (map (sent_from (place_at face end)) segments) ≡ []
unfolding on_link
sent-there faces.Old first_end [] = refl
sent-there faces.Old first_end (s ∷ segments) = sent-there faces.Old first_end segments
sent-there faces.Old second_end [] = refl
sent-there faces.Old second_end (s ∷ segments) = sent-there faces.Old second_end segments
sent-there faces.New first_end [] = refl
sent-there faces.New first_end (s ∷ segments) = sent-there faces.New first_end segments
sent-there faces.New second_end [] = refl
sent-there faces.New second_end (s ∷ segments) = sent-there faces.New second_end segments

pub ups-there : (face : Face) (end : End) (ups : List UpValue) → ups_on (other_of face) (map (up_from (place_at face end)) ups) ≡ []
unfolding on_link
ups-there faces.Old first_end [] = refl
ups-there faces.Old first_end (u ∷ ups) = ups-there faces.Old first_end ups
ups-there faces.Old second_end [] = refl
ups-there faces.Old second_end (u ∷ ups) = ups-there faces.Old second_end ups
ups-there faces.New first_end [] = refl
ups-there faces.New first_end (u ∷ ups) = ups-there faces.New first_end ups
ups-there faces.New second_end [] = refl
ups-there faces.New second_end (u ∷ ups) = ups-there faces.New second_end ups

pub ups-none : (face : Face) → ups_on face [] ≡ []
unfolding on_link
ups-none face = refl

pub chunk-there : (face : Face) (ps : Party × Party) (old new : World) (ups : List UpAt) → new ≡ old → ups_on face ups ≡ [] → Chunk face ps old new [] ups []
unfolding on_link hand_ups submissions
chunk-there face ps old new ups same none = record { runs = same; handed = none; begins = refl }

-- what was sent is put at the end
sent-more : (face : Face) (sent more : List SentFrom) (out : List LinkSent) → sent_on face more ≡ out → sent_on face (sent ++ more) ≡ sent_on face sent ++ out
sent-more face sent more out is = on-append (λ (d : SentFrom). d.from) link_sent face sent more ∙ ap (λ ds. sent_on face sent ++ ds) is

pub sent-none : (face : Face) (sent more : List SentFrom) → sent_on face more ≡ [] → sent_on face (sent ++ more) ≡ sent_on face sent
sent-none face sent more is = sent-more face sent more [] is ∙ append-nil (sent_on face sent)

-- ---- a node

pub link-node-here : (end : PathEnd) (w : Path) (step : EngineStep) → link_at (face_of end) (node_does end w step).path ≡ does_end (link_at (face_of end) w) (node_end end) step
link-node-here ends.Old w step = ap (λ sent. world (step.engine, w.gate.engines.0) sent w.now) (sent-more faces.Old w.sent (map (sent_from places.OldNode) step.effects.out) (sent_by first_end step.effects.out) (sent-here faces.Old first_end step.effects.out)) where
  world : Engine × Engine → List LinkSent → ℕ → World
  world engines sent now = record { engines = engines; sent = sent; now = now }
link-node-here ends.New w step = ap (λ sent. world (w.gate.engines.1, step.engine) sent w.now) (sent-more faces.New w.sent (map (sent_from places.NewNode) step.effects.out) (sent_by second_end step.effects.out) (sent-here faces.New second_end step.effects.out)) where
  world : Engine × Engine → List LinkSent → ℕ → World
  world engines sent now = record { engines = engines; sent = sent; now = now }

pub link-node-there : (end : PathEnd) (w : Path) (step : EngineStep) → link_at (other_of (face_of end)) (node_does end w step).path ≡ link_at (other_of (face_of end)) w
link-node-there ends.Old w step = ap (λ sent. world (w.gate.engines.1, w.nodes.1) sent w.now) (sent-none faces.New w.sent (map (sent_from places.OldNode) step.effects.out) (sent-there faces.Old first_end step.effects.out)) where
  world : Engine × Engine → List LinkSent → ℕ → World
  world engines sent now = record { engines = engines; sent = sent; now = now }
link-node-there ends.New w step = ap (λ sent. world (w.nodes.0, w.gate.engines.0) sent w.now) (sent-none faces.Old w.sent (map (sent_from places.NewNode) step.effects.out) (sent-there faces.New second_end step.effects.out)) where
  world : Engine × Engine → List LinkSent → ℕ → World
  world engines sent now = record { engines = engines; sent = sent; now = now }

-- ---- the gate

gate-sent : (face : Face) (segments : List SegmentValue) → map gate_sent (map (segment_at face) segments) ≡ map (sent_from (face_place face)) segments
gate-sent face [] = refl
gate-sent face (s ∷ segments) = ap (λ rest. sent_from (face_place face) s ∷ rest) (gate-sent face segments)

pub gate-ups : (face : Face) (ups : List UpValue) → map gate_up (map (up_at face) ups) ≡ map (up_from (face_place face)) ups
gate-ups face [] = refl
gate-ups face (u ∷ ups) = ap (λ rest. up_from (face_place face) u ∷ rest) (gate-ups face ups)

pub link-gate-here : (face : Face) (w : Path) (step : EngineStep) → link_at face (gate_does w (does_at face w.gate step)).path ≡ does_end (link_at face w) (gate_end face) step
link-gate-here faces.Old w step = ap (λ sent. world (w.nodes.0, step.engine) sent w.now)
    (sent-more faces.Old w.sent (gate_effects (effects_at faces.Old step)).sent (sent_by second_end step.effects.out) (ap (λ ds. sent_on faces.Old ds) (gate-sent faces.Old step.effects.out) ∙ sent-here faces.Old second_end step.effects.out)) where
      world : Engine × Engine → List LinkSent → ℕ → World
      world engines sent now = record { engines = engines; sent = sent; now = now }
link-gate-here faces.New w step = ap (λ sent. world (step.engine, w.nodes.1) sent w.now)
    (sent-more faces.New w.sent (gate_effects (effects_at faces.New step)).sent (sent_by first_end step.effects.out) (ap (λ ds. sent_on faces.New ds) (gate-sent faces.New step.effects.out) ∙ sent-here faces.New first_end step.effects.out)) where
      world : Engine × Engine → List LinkSent → ℕ → World
      world engines sent now = record { engines = engines; sent = sent; now = now }

pub link-gate-there : (face : Face) (w : Path) (step : EngineStep) → link_at (other_of face) (gate_does w (does_at face w.gate step)).path ≡ link_at (other_of face) w
link-gate-there faces.Old w step = ap (λ sent. world (w.gate.engines.1, w.nodes.1) sent w.now)
    (sent-none faces.New w.sent (gate_effects (effects_at faces.Old step)).sent (ap (λ ds. sent_on faces.New ds) (gate-sent faces.Old step.effects.out) ∙ sent-there faces.Old second_end step.effects.out)) where
      world : Engine × Engine → List LinkSent → ℕ → World
      world engines sent now = record { engines = engines; sent = sent; now = now }
link-gate-there faces.New w step = ap (λ sent. world (w.nodes.0, w.gate.engines.0) sent w.now)
    (sent-none faces.Old w.sent (gate_effects (effects_at faces.New step)).sent (ap (λ ds. sent_on faces.Old ds) (gate-sent faces.New step.effects.out) ∙ sent-there faces.New first_end step.effects.out)) where
      world : Engine × Engine → List LinkSent → ℕ → World
      world engines sent now = record { engines = engines; sent = sent; now = now }

-- ---- steps of the gate, one after the other

abbrev pub GateChunk : Face → PathSetup → Path → GateStep → List Event → List Begun → Type 0
GateChunk face s w step events begun =
    Chunk face (link_parties s face) (link_at face w) (link_at face (gate_does w step).path) events (gate_effects step.effects).ups begun

pub gate-path-then : (w : Path) (a : GateStep) (next : Gate → GateStep) → (gate_does w (and_then a next)).path ≡ (gate_does (gate_does w a).path (next a.gate)).path
unfolding and_then
gate-path-then w a next = ap (λ sent. with_sent sent)
    (ap (λ more. w.sent ++ more) (map-append gate_sent a.effects.out (next a.gate).effects.out)
    ∙ sym (append_assoc w.sent (map gate_sent a.effects.out) (map gate_sent (next a.gate).effects.out)))
  where
    with_sent : List SentFrom → Path
    with_sent sent = record w { gate = (next a.gate).gate; sent = sent }

pub gate-ups-then : (a : GateStep) (next : Gate → GateStep) → (gate_effects (and_then a next).effects).ups ≡ (gate_effects a.effects).ups ++ (gate_effects (next a.gate).effects).ups
unfolding and_then
gate-ups-then a next = map-append gate_up a.effects.ups (next a.gate).effects.ups

pub gate-then : (face : Face) (s : PathSetup) (w : Path) (a : GateStep) (next : Gate → GateStep) (xs ys : List Event) (bs cs : List Begun)
    → GateChunk face s w a xs bs → GateChunk face s (gate_does w a).path (next a.gate) ys cs → GateChunk face s w (and_then a next) (xs ++ ys) (bs ++ cs)
gate-then face s w a next xs ys bs cs first second =
    subst (λ x. Chunk face (link_parties s face) (link_at face w) (link_at face x) (xs ++ ys) (gate_effects (and_then a next).effects).ups (bs ++ cs)) (sym (gate-path-then w a next))
    (subst (λ us. Chunk face (link_parties s face) (link_at face w) (link_at face (gate_does (gate_does w a).path (next a.gate)).path) (xs ++ ys) us (bs ++ cs)) (sym (gate-ups-then a next))
    (chunk-then face (link_parties s face) (link_at face w) (link_at face (gate_does w a).path) (link_at face (gate_does (gate_does w a).path (next a.gate)).path) xs ys
    (gate_effects a.effects).ups (gate_effects (next a.gate).effects).ups bs cs first second))

-- what is sent alone
abbrev pub SendChunk : Face → PathSetup → Path → GateStep → List Begun → Type 0
SendChunk face s w step begun = GateChunk face s w step (submits_on face begun) begun

send-then : (face : Face) (s : PathSetup) (w : Path) (a : GateStep) (next : Gate → GateStep) (bs cs : List Begun)
    → SendChunk face s w a bs → SendChunk face s (gate_does w a).path (next a.gate) cs → SendChunk face s w (and_then a next) (bs ++ cs)
send-then face s w a next bs cs first second =
    subst (λ es. GateChunk face s w (and_then a next) es (bs ++ cs)) (sym (on-append (λ (b : Begun). b.place) submit_of face bs cs))
    (gate-then face s w a next (submits_on face bs) (submits_on face cs) bs cs first second)

same-path : (w : Path) → record w { gate = w.gate; sent = w.sent ++ [] } ≡ w
same-path w = ap (λ sent. with_sent sent) (append-nil w.sent) where
  with_sent : List SentFrom → Path
  with_sent sent = record w { sent = sent }

send-none : (face : Face) (s : PathSetup) (w : Path) → SendChunk face s w (stays_so w.gate) []
unfolding on_link
send-none face s w = chunk-none face (link_parties s face) (link_at face w) (link_at face (gate_does w (stays_so w.gate)).path) (ap (λ x. link_at face x) (same-path w))

send-noted : (face : Face) (s : PathSetup) (w : Path) (at : Face) (note : GateNote) → SendChunk face s w (noted_at at note w.gate) []
unfolding on_link
send-noted face s w at note = chunk-none face (link_parties s face) (link_at face w) (link_at face (gate_does w (noted_at at note w.gate)).path) (ap (λ x. link_at face x) (same-path w))

-- ---- a block is submitted at a face

-- two equal ends of a chunk
pub chunk-as : (face : Face) (ps : Party × Party) (old new to : World) (events : List Event) (us vs : List UpAt) (begun : List Begun)
    → Chunk face ps old new events us begun → to ≡ new → vs ≡ us → Chunk face ps old to events vs begun
chunk-as face ps old new to events us vs begun chunk same ups = subst (λ w. Chunk face ps old w events vs begun) (sym same) (subst (λ u. Chunk face ps old new events u begun) (sym ups) chunk)

pub no-ups : (face : Face) (step : EngineStep) → step.effects.ups ≡ [] → (gate_effects (effects_at face step)).ups ≡ []
no-ups face step none = gate-ups face step.effects.ups ∙ ap (λ us. map (up_from (face_place face)) us) none

submit-here : (to : Face) (s : PathSetup) (w : Path) (block : List ℕ) (origin : Origin) (step : EngineStep)
    → submission_at s.gate to w.now block w.gate ≡ Ok step
    → SendChunk to s w (does_at to w.gate step) (begun_as (face_place to) (at_face w.gate.engines to).next block origin ∷ [])
unfolding on_link
submit-here faces.Old s w block origin step is =
    chunk-as faces.Old (link_parties s faces.Old) (link_at faces.Old w) (does_end (link_at faces.Old w) second_end step) (link_at faces.Old (gate_does w (does_at faces.Old w.gate step)).path)
    (submit second_end block (length block) ∷ []) [] (gate_effects (effects_at faces.Old step)).ups (begun_as places.OldFace w.gate.engines.0.next block origin ∷ [])
    (submit-chunk faces.Old (link_parties s faces.Old) (link_at faces.Old w) second_end block origin step is)
    (link-gate-here faces.Old w step) (no-ups faces.Old step (sends-no-up s.gate.parties.0 w.gate.engines.0 block (length block) w.now step is))
submit-here faces.New s w block origin step is =
    chunk-as faces.New (link_parties s faces.New) (link_at faces.New w) (does_end (link_at faces.New w) first_end step) (link_at faces.New (gate_does w (does_at faces.New w.gate step)).path)
    (submit first_end block (length block) ∷ []) [] (gate_effects (effects_at faces.New step)).ups (begun_as places.NewFace w.gate.engines.1.next block origin ∷ [])
    (submit-chunk faces.New (link_parties s faces.New) (link_at faces.New w) first_end block origin step is)
    (link-gate-here faces.New w step) (no-ups faces.New step (sends-no-up s.gate.parties.1 w.gate.engines.1 block (length block) w.now step is))

-- what is begun at a place of the other link
pub begun-there : (face : Face) (ps : Party × Party) (old new : World) (ups : List UpAt) (b : Begun) → new ≡ old → ups_on face ups ≡ [] → link_of b.place ≡ other_of face
    → Chunk face ps old new (submits_on face (b ∷ [])) ups (b ∷ [])
unfolding on_link hand_ups submissions
begun-there face ps old new ups b same none there = rw (there, if-there face (submit_of b)) (record {
  runs = same;
  handed = none;
  begins = rw (there, if-there face (submission_from b)) refl;
})

submit-there : (to : Face) (s : PathSetup) (w : Path) (block : List ℕ) (origin : Origin) (step : EngineStep)
    → submission_at s.gate to w.now block w.gate ≡ Ok step
    → SendChunk (other_of to) s w (does_at to w.gate step) (begun_as (face_place to) (at_face w.gate.engines to).next block origin ∷ [])
submit-there faces.Old s w block origin step is =
    begun-there faces.New (link_parties s faces.New) (link_at faces.New w) (link_at faces.New (gate_does w (does_at faces.Old w.gate step)).path) (gate_effects (effects_at faces.Old step)).ups
    (begun_as places.OldFace w.gate.engines.0.next block origin) (link-gate-there faces.Old w step)
    (ap (λ us. ups_on faces.New us) (no-ups faces.Old step (sends-no-up s.gate.parties.0 w.gate.engines.0 block (length block) w.now step is)) ∙ ups-none faces.New) refl
submit-there faces.New s w block origin step is =
    begun-there faces.Old (link_parties s faces.Old) (link_at faces.Old w) (link_at faces.Old (gate_does w (does_at faces.New w.gate step)).path) (gate_effects (effects_at faces.New step)).ups
    (begun_as places.NewFace w.gate.engines.1.next block origin) (link-gate-there faces.New w step)
    (ap (λ us. ups_on faces.Old us) (no-ups faces.New step (sends-no-up s.gate.parties.1 w.gate.engines.1 block (length block) w.now step is)) ∙ ups-none faces.Old) refl

pub send-block : (face : Face) (s : PathSetup) (w : Path) (to : Face) (block : List ℕ) (origin : Origin)
    → SendChunk face s w (sends_at s.gate to w.now block w.gate) (begun_by s.gate to w.now block origin w.gate)
unfolding sends_at
send-block face s w to block origin = by (submission_at s.gate to w.now block w.gate) refl where
  by : (r : Result EngineStep SubmitFault) → submission_at s.gate to w.now block w.gate ≡ r
      → SendChunk face s w (sends_unless to w.gate r) (begun_unless (begun_as (face_place to) (at_face w.gate.engines to).next block origin) r)
  by (Err fault) is = send-none face s w
  by (Ok step) is =
      either_face (λ each. SendChunk each s w (does_at to w.gate step) (begun_as (face_place to) (at_face w.gate.engines to).next block origin ∷ [])) to
      (submit-here to s w block origin step is) (submit-there to s w block origin step is) face

send-pieces : (face : Face) (s : PathSetup) (w : Path) (to : Face) (end : PathEnd) (n i : ℕ) (pieces : List (List ℕ))
    → SendChunk face s w (in_turn (sends_at s.gate to w.now) pieces w.gate) (pieces_begun s.gate to w.now end n i pieces w.gate)
unfolding in_turn pieces_begun
send-pieces face s w to end n i [] = send-none face s w
send-pieces face s w to end n i (piece ∷ pieces) =
    send-then face s w (sends_at s.gate to w.now piece w.gate) (in_turn (sends_at s.gate to w.now) pieces)
    (begun_by s.gate to w.now piece (a_piece end n i) w.gate) (pieces_begun s.gate to w.now end n (i + 1) pieces (sends_at s.gate to w.now piece w.gate).gate)
    (send-block face s w to piece (a_piece end n i))
    (send-pieces face s (gate_does w (sends_at s.gate to w.now piece w.gate)).path to end n (i + 1) pieces)

-- the counter is on no link
abbrev counted : Path → Path
counted w = record w { gate = record w.gate { counter = w.gate.counter + 1 } }

link-counted : (face : Face) (w : Path) → link_at face (counted w) ≡ link_at face w
link-counted faces.Old w = refl
link-counted faces.New w = refl

send-counted : (face : Face) (s : PathSetup) (w : Path) (step : GateStep) (begun : List Begun) → SendChunk face s (counted w) step begun → SendChunk face s w step begun
send-counted face s w step begun chunk =
    subst (λ old. Chunk face (link_parties s face) old (link_at face (gate_does w step).path) (submits_on face begun) (gate_effects step.effects).ups begun) (link-counted face w) chunk

right-nil : (bs : List Begun) → bs ++ [] ≡ bs
right-nil bs = append-nil bs

send-report : (face : Face) (s : PathSetup) (w : Path) (at : Face) (end : PathEnd) (n : ℕ) (report : Option AskedReport)
    → SendChunk face s w (answers_at s.gate at w.now n report w.gate) (report_begun s.gate at w.now end n report w.gate)
unfolding answers_at
send-report face s w at end n None = send-none face s w
send-report face s w at end n (Some asked) = by (is_unreported at w.now w.gate) where
  block : List ℕ
  block = status_bundle s.gate.gate w.gate.counter w.now asked

  sent : List Begun
  sent = begun_by s.gate at w.now (status_bundle s.gate.gate w.gate.counter w.now asked) (a_report end n) (counted w).gate

  reported : SendChunk face s (counted w) (reports_at s.gate at w.now n asked w.gate) sent
  reported = subst (λ bs. SendChunk face s (counted w) (reports_at s.gate at w.now n asked w.gate) bs) (right-nil sent)
      (send-then face s (counted w) (sends_at s.gate at w.now block (counted w).gate) (noted_at at (notes.Reported n)) sent []
      (send-block face s (counted w) at block (a_report end n))
      (send-noted face s (gate_does (counted w) (sends_at s.gate at w.now block (counted w).gate)).path at (notes.Reported n)))

  by : (t : Bool) → SendChunk face s w (if t then noted_at at (notes.Unreported n) w.gate else reports_at s.gate at w.now n asked w.gate)
      (if t then [] else begun_by s.gate at w.now (status_bundle s.gate.gate w.gate.counter w.now asked) (a_report end n) (counted w).gate)
  by true = send-noted face s w at (notes.Unreported n)
  by false = send-counted face s w (reports_at s.gate at w.now n asked w.gate) sent reported

send-decided : (face : Face) (s : PathSetup) (w : Path) (at : Face) (n : ℕ) (j : Judged)
    → SendChunk face s w (decides_at s.gate at w.now n j w.gate) (decided_begun s.gate at w.now n j w.gate)
unfolding decides_at
send-decided face s w at n j =
    send-then face s w (in_turn (sends_at s.gate (other_of at) w.now) j.pieces w.gate) noting (pieces_begun s.gate (other_of at) w.now (end_of at) n 0 j.pieces w.gate)
    (report_begun s.gate at w.now (end_of at) n j.report (in_turn (sends_at s.gate (other_of at) w.now) j.pieces w.gate).gate)
    (send-pieces face s w (other_of at) (end_of at) n 0 j.pieces)
    (send-then face s (gate_does w (in_turn (sends_at s.gate (other_of at) w.now) j.pieces w.gate)).path
    (noted_at at (case_note n (length j.pieces) j.case) (in_turn (sends_at s.gate (other_of at) w.now) j.pieces w.gate).gate) (answers_at s.gate at w.now n j.report) []
    (report_begun s.gate at w.now (end_of at) n j.report (in_turn (sends_at s.gate (other_of at) w.now) j.pieces w.gate).gate)
    (send-noted face s (gate_does w (in_turn (sends_at s.gate (other_of at) w.now) j.pieces w.gate)).path at (case_note n (length j.pieces) j.case))
    (send-report face s (gate_does (gate_does w (in_turn (sends_at s.gate (other_of at) w.now) j.pieces w.gate)).path (noted_at at (case_note n (length j.pieces) j.case) (in_turn (sends_at s.gate (other_of at) w.now) j.pieces w.gate).gate)).path at (end_of at) n j.report))
  where
    noting : Gate → GateStep
    noting h = and_then (noted_at at (case_note n (length j.pieces) j.case) h) (answers_at s.gate at w.now n j.report)

pub send-passed : (face : Face) (s : PathSetup) (w : Path) (at : Face) (ups : List UpValue)
    → SendChunk face s w (in_turn (passes_at s.gate at w.now) ups w.gate) (passed_begun s.gate at w.now ups w.gate)
unfolding in_turn passed_begun
send-passed face s w at [] = send-none face s w
send-passed face s w at (up ∷ ups) =
    send-then face s w (decides_at s.gate at w.now up.session (judged_at s.gate at w.now up.body w.gate) w.gate) (in_turn (passes_at s.gate at w.now) ups)
    (decided_begun s.gate at w.now up.session (judged_at s.gate at w.now up.body w.gate) w.gate)
    (passed_begun s.gate at w.now ups (decides_at s.gate at w.now up.session (judged_at s.gate at w.now up.body w.gate) w.gate).gate)
    (send-decided face s w at up.session (judged_at s.gate at w.now up.body w.gate))
    (send-passed face s (gate_does w (decides_at s.gate at w.now up.session (judged_at s.gate at w.now up.body w.gate) w.gate)).path at ups)
