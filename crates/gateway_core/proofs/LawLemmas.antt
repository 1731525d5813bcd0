-- What comes to each face, and what it hands up.

use Rattle.std.proofs.Common.{◌≡◌, ℕ, ◌+◌, Bool, if◌then◌else◌, true, false, List, [], ◌∷◌, ◌++◌, length, map, Option, None, Some, Result, Ok, Err, refl, sym, ◌∙◌, ap}
use Rattle.std.proofs.lemmas.List.{append-nil}
use Rattle.ltp_segment.specs.declared.fault.SegmentCause.{SegmentCause}
use Rattle.ltp_segment.specs.Values.{SegmentValue}
use Rattle.ltp_session.specs.Engine.{Party, Engine, EngineStep, SubmitFault, UpValue, submits, submits_unless, submit_fault, submit_step, datagram_step, tick_step}
use Rattle.ltp_engine.specs.RedParts.{Coming, a_block_comes, a_datagram_comes, a_moment_comes, unless_faulty, engine_with, ups_with, engine_after, ups_of, pieces_of}
use Rattle.ltp_engine.specs.RedParts as engines
use Rattle.gate_cases.specs.declared.face.Face.{Face}
use Rattle.gate_cases.specs.declared.face.Face.TheVariants as faces
use Rattle.gate_cases.specs.declared.judged.Judged.{Judged}
use Rattle.gate_cases.specs.declared.report.AskedReport.{AskedReport}
use Rattle.gate_cases.specs.Faces.{other_of}
use Rattle.gate_cases.specs.Bundles.{status_bundle}
use Rattle.gateway_core.specs.declared.note.GateNote.TheVariants as notes
use Rattle.gateway_core.specs.Gate.{Gate, GateSetup, GateStep, GateEvent, if_same, noted_at, reports_at, a_datagram_at, a_moment_at_both, at_face, and_then, in_turn, does_at, hears_at, submission_at, sends_unless, sends_at, is_unreported, answers_at, decides_at, passes_at, judged_at, arrives_at, ticks_gate, gate_with, gate_after, up_at}
use Rattle.gateway_core.specs.Comings.{blocks_come, report_comes, decision_comes, passages_come, event_comes, comings_at}
use Rattle.gateway_core.specs.RedParts.{AreEngines, HandsUpRedParts, HandsUpEachOnce, ups_with_event, ups_on, face_ups}

-- ---- the engines

-- a face's engine is what comes to it made
abbrev Made : GateSetup → Face → Gate → List Coming → Type 0
Made s at g comings = at_face g.engines at ≡ engine_after (at_face s.parties at) comings

sent-here : (face : Face) (g : Gate) (r : Result EngineStep SubmitFault) → at_face (sends_unless face g r).gate.engines face ≡ unless_faulty (at_face g.engines face) r
sent-here faces.Old g (Ok step) = refl
sent-here faces.Old g (Err fault) = refl
sent-here faces.New g (Ok step) = refl
sent-here faces.New g (Err fault) = refl

sent-there : (face : Face) (g : Gate) (r : Result EngineStep SubmitFault) → at_face (sends_unless face g r).gate.engines (other_of face) ≡ at_face g.engines (other_of face)
sent-there faces.Old g (Ok step) = refl
sent-there faces.Old g (Err fault) = refl
sent-there faces.New g (Ok step) = refl
sent-there faces.New g (Err fault) = refl

block-here : (s : GateSetup) (face : Face) (now : ℕ) (block : List ℕ) (g : Gate) (earlier : List Coming) → Made s face g earlier
    → Made s face (sends_at s face now block g).gate (a_block_comes block (length block) now ∷ earlier)
unfolding sends_at engine_after
block-here s face now block g earlier made =
    sent-here face g (submission_at s face now block g)
    ∙ ap (λ e. engine_with (at_face s.parties face) e (a_block_comes block (length block) now)) made

block-there : (s : GateSetup) (face : Face) (now : ℕ) (block : List ℕ) (g : Gate) → at_face (sends_at s face now block g).gate.engines (other_of face) ≡ at_face g.engines (other_of face)
unfolding sends_at
block-there s face now block g = sent-there face g (submission_at s face now block g)

blocks-here : (s : GateSetup) (face : Face) (now : ℕ) (blocks : List (List ℕ)) (g : Gate) (earlier : List Coming) → Made s face g earlier
    → Made s face (in_turn (sends_at s face now) blocks g).gate (blocks_come now blocks earlier)
unfolding in_turn and_then blocks_come
blocks-here s face now [] g earlier made = made
blocks-here s face now (block ∷ blocks) g earlier made =
    blocks-here s face now blocks (sends_at s face now block g).gate (a_block_comes block (length block) now ∷ earlier) (block-here s face now block g earlier made)

blocks-there : (s : GateSetup) (face : Face) (now : ℕ) (blocks : List (List ℕ)) (g : Gate)
    → at_face (in_turn (sends_at s face now) blocks g).gate.engines (other_of face) ≡ at_face g.engines (other_of face)
unfolding in_turn and_then
blocks-there s face now [] g = refl
blocks-there s face now (block ∷ blocks) g =
    let rest = blocks-there s face now blocks (sends_at s face now block g).gate in rest ∙ block-there s face now block g

report-here : (s : GateSetup) (face : Face) (now session : ℕ) (report : Option AskedReport) (g : Gate) (earlier : List Coming) → Made s face g earlier
    → Made s face (answers_at s face now session report g).gate (report_comes s face now report g earlier)
unfolding answers_at report_comes and_then blocks_come
report-here s face now session None g earlier made = made
report-here s face now session (Some asked) g earlier made = by_can (is_unreported face now g) where
  by_can : (cannot : Bool) → Made s face
      (if cannot then noted_at face (notes.Unreported session) g else reports_at s face now session asked g).gate
      (if cannot then earlier else blocks_come now (status_bundle s.gate g.counter now asked ∷ []) earlier)
  by_can true = made
  by_can false = block-here s face now (status_bundle s.gate g.counter now asked) (record g { counter = g.counter + 1 }) earlier made

report-there : (s : GateSetup) (face : Face) (now session : ℕ) (report : Option AskedReport) (g : Gate)
    → at_face (answers_at s face now session report g).gate.engines (other_of face) ≡ at_face g.engines (other_of face)
unfolding answers_at and_then
report-there s face now session None g = refl
report-there s face now session (Some asked) g = by_can (is_unreported face now g) where
  by_can : (cannot : Bool)
      → at_face (if cannot then noted_at face (notes.Unreported session) g else reports_at s face now session asked g).gate.engines (other_of face) ≡ at_face g.engines (other_of face)
  by_can true = refl
  by_can false = block-there s face now (status_bundle s.gate g.counter now asked) (record g { counter = g.counter + 1 })

decision-made : (s : GateSetup) (face at : Face) (now session : ℕ) (j : Judged) (g : Gate) (earlier : List Coming) → Made s at g earlier
    → Made s at (decides_at s face now session j g).gate (decision_comes s face now j g at earlier)
unfolding decides_at and_then
decision-made s faces.Old faces.Old now session j g earlier made =
    report-here s faces.Old now session j.report (in_turn (sends_at s faces.New now) j.pieces g).gate earlier (blocks-there s faces.New now j.pieces g ∙ made)
decision-made s faces.Old faces.New now session j g earlier made =
    report-there s faces.Old now session j.report (in_turn (sends_at s faces.New now) j.pieces g).gate ∙ blocks-here s faces.New now j.pieces g earlier made
decision-made s faces.New faces.Old now session j g earlier made =
    report-there s faces.New now session j.report (in_turn (sends_at s faces.Old now) j.pieces g).gate ∙ blocks-here s faces.Old now j.pieces g earlier made
decision-made s faces.New faces.New now session j g earlier made =
    report-here s faces.New now session j.report (in_turn (sends_at s faces.Old now) j.pieces g).gate earlier (blocks-there s faces.Old now j.pieces g ∙ made)

passages-made : (s : GateSetup) (face at : Face) (now : ℕ) (ups : List UpValue) (g : Gate) (earlier : List Coming) → Made s at g earlier
    → Made s at (in_turn (passes_at s face now) ups g).gate (passages_come s face now ups g at earlier)
unfolding in_turn and_then passages_come
passages-made s face at now [] g earlier made = made
passages-made s face at now (up ∷ ups) g earlier made =
    passages-made s face at now ups (passes_at s face now up g).gate (decision_comes s face now (judged_at s face now up.body g) g at earlier)
    (decision-made s face at now up.session (judged_at s face now up.body g) g earlier made)

heard-made : (s : GateSetup) (face at : Face) (read : Result SegmentValue (ℕ × SegmentCause)) (now : ℕ) (g : Gate) (earlier : List Coming) → Made s at g earlier
    → Made s at (does_at face g (hears_at s face g read now)).gate (if_same face at (a_datagram_comes read now ∷ earlier) earlier)
unfolding engine_after
heard-made s faces.Old faces.Old read now g earlier made = ap (λ e. engine_with s.parties.0 e (a_datagram_comes read now)) made
heard-made s faces.Old faces.New read now g earlier made = made
heard-made s faces.New faces.Old read now g earlier made = made
heard-made s faces.New faces.New read now g earlier made = ap (λ e. engine_with s.parties.1 e (a_datagram_comes read now)) made

event-made : (s : GateSetup) (at : Face) (event : GateEvent) (g : Gate) (earlier : List Coming) → Made s at g earlier
    → Made s at (gate_with s g event).gate (event_comes s g event at earlier)
unfolding arrives_at ticks_gate and_then event_comes engine_after
event-made s at (a_datagram_at face read now) g earlier made =
    passages-made s face at now (hears_at s face g read now).effects.ups (does_at face g (hears_at s face g read now)).gate
    (if_same face at (a_datagram_comes read now ∷ earlier) earlier) (heard-made s face at read now g earlier made)
event-made s faces.Old (a_moment_at_both now) g earlier made = ap (λ e. engine_with s.parties.0 e (a_moment_comes now)) made
event-made s faces.New (a_moment_at_both now) g earlier made = ap (λ e. engine_with s.parties.1 e (a_moment_comes now)) made

pub are_engines : AreEngines
unfolding gate_after comings_at engine_after
are_engines s faces.Old [] = refl
are_engines s faces.New [] = refl
are_engines s at (event ∷ earlier) =
    let before = are_engines s at earlier in event-made s at event (gate_after s earlier) (comings_at s at earlier) before

-- ---- blocks that are submitted change nothing of this

module _ {X : Type 0} (Q : List Coming → X) (same : (block : List ℕ) (red now : ℕ) (earlier : List Coming) → Q (a_block_comes block red now ∷ earlier) ≡ Q earlier) where
  silent-blocks : (now : ℕ) (blocks : List (List ℕ)) (earlier : List Coming) → Q (blocks_come now blocks earlier) ≡ Q earlier
  unfolding blocks_come
  silent-blocks now [] earlier = refl
  silent-blocks now (block ∷ blocks) earlier =
      let rest = silent-blocks now blocks (a_block_comes block (length block) now ∷ earlier) in rest ∙ same block (length block) now earlier

  silent-report : (s : GateSetup) (face : Face) (now : ℕ) (report : Option AskedReport) (g : Gate) (earlier : List Coming) → Q (report_comes s face now report g earlier) ≡ Q earlier
  unfolding report_comes
  silent-report s face now None g earlier = refl
  silent-report s face now (Some asked) g earlier = by_can (is_unreported face now g) (silent-blocks now (status_bundle s.gate g.counter now asked ∷ []) earlier) where
    by_can : (cannot : Bool) → Q (blocks_come now (status_bundle s.gate g.counter now asked ∷ []) earlier) ≡ Q earlier
        → Q (if cannot then earlier else blocks_come now (status_bundle s.gate g.counter now asked ∷ []) earlier) ≡ Q earlier
    by_can true is = refl
    by_can false is = is

  silent-decision : (s : GateSetup) (face at : Face) (now : ℕ) (j : Judged) (g : Gate) (earlier : List Coming) → Q (decision_comes s face now j g at earlier) ≡ Q earlier
  silent-decision s faces.Old faces.Old now j g earlier = silent-report s faces.Old now j.report (in_turn (sends_at s faces.New now) j.pieces g).gate earlier
  silent-decision s faces.Old faces.New now j g earlier = silent-blocks now j.pieces earlier
  silent-decision s faces.New faces.Old now j g earlier = silent-blocks now j.pieces earlier
  silent-decision s faces.New faces.New now j g earlier = silent-report s faces.New now j.report (in_turn (sends_at s faces.Old now) j.pieces g).gate earlier

  silent-passages : (s : GateSetup) (face at : Face) (now : ℕ) (ups : List UpValue) (g : Gate) (earlier : List Coming) → Q (passages_come s face now ups g at earlier) ≡ Q earlier
  unfolding passages_come
  silent-passages s face at now [] g earlier = refl
  silent-passages s face at now (up ∷ ups) g earlier =
      let rest = silent-passages s face at now ups (passes_at s face now up g).gate (decision_comes s face now (judged_at s face now up.body g) g at earlier) in
      rest ∙ silent-decision s face at now (judged_at s face now up.body g) g earlier

-- ---- what is handed up

-- the one thing that comes to a face with an event and may hand something up; a moment hands nothing up
abbrev told_with : GateEvent → Face → Coming
told_with (a_datagram_at face read now) at = if_same face at (a_datagram_comes read now) (a_moment_comes now)
told_with (a_moment_at_both now) at = a_moment_comes now

no-ups-unless : (p : Party) (e : Engine) (block : List ℕ) (red now : ℕ) (face : Face) (g : Gate) (fault : Option SubmitFault)
    → (sends_unless face g (submit_step p e (submits_unless fault p e block red now))).effects.ups ≡ []
no-ups-unless p e block red now face g None = refl
no-ups-unless p e block red now face g (Some fault) = refl

no-ups-sent : (s : GateSetup) (face : Face) (now : ℕ) (block : List ℕ) (g : Gate) → (sends_at s face now block g).effects.ups ≡ []
unfolding sends_at submits
no-ups-sent s face now block g =
    no-ups-unless (at_face s.parties face) (at_face g.engines face) block (length block) now face g (submit_fault (at_face s.parties face) (at_face g.engines face) block)

no-ups-in-turn : {X : Type 0} (does : X → Gate → GateStep) → ((x : X) (g : Gate) → (does x g).effects.ups ≡ []) → (xs : List X) (g : Gate) → (in_turn does xs g).effects.ups ≡ []
unfolding in_turn and_then
no-ups-in-turn does none [] g = refl
no-ups-in-turn does none (x ∷ xs) g =
    let rest = no-ups-in-turn does none xs (does x g).gate in rw (none x g, rest) refl

no-ups-answered : (s : GateSetup) (face : Face) (now session : ℕ) (report : Option AskedReport) (g : Gate) → (answers_at s face now session report g).effects.ups ≡ []
unfolding answers_at and_then
no-ups-answered s face now session None g = refl
no-ups-answered s face now session (Some asked) g = by_can (is_unreported face now g) where
  by_can : (cannot : Bool) → (if cannot then noted_at face (notes.Unreported session) g else reports_at s face now session asked g).effects.ups ≡ []
  by_can true = refl
  by_can false = rw (no-ups-sent s face now (status_bundle s.gate g.counter now asked) (record g { counter = g.counter + 1 })) refl

no-ups-passed : (s : GateSetup) (face : Face) (now : ℕ) (up : UpValue) (g : Gate) → (passes_at s face now up g).effects.ups ≡ []
unfolding decides_at and_then
no-ups-passed s face now up g = rw (
  no-ups-in-turn (sends_at s (other_of face) now) (no-ups-sent s (other_of face) now) (judged_at s face now up.body g).pieces g,
  no-ups-answered s face now up.session (judged_at s face now up.body g).report (in_turn (sends_at s (other_of face) now) (judged_at s face now up.body g).pieces g).gate,
) refl

ups-on-face : (face at : Face) (ups : List UpValue) → ups_on at (map (up_at face) ups) ≡ if_same face at ups []
unfolding ups_on
ups-on-face faces.Old faces.Old [] = refl
ups-on-face faces.Old faces.Old (up ∷ ups) = let rest = ups-on-face faces.Old faces.Old ups in ap (λ us. up ∷ us) rest
ups-on-face faces.Old faces.New [] = refl
ups-on-face faces.Old faces.New (up ∷ ups) = let rest = ups-on-face faces.Old faces.New ups in rest
ups-on-face faces.New faces.Old [] = refl
ups-on-face faces.New faces.Old (up ∷ ups) = let rest = ups-on-face faces.New faces.Old ups in rest
ups-on-face faces.New faces.New [] = refl
ups-on-face faces.New faces.New (up ∷ ups) = let rest = ups-on-face faces.New faces.New ups in ap (λ us. up ∷ us) rest

arrival-ups : (s : GateSetup) (face : Face) (read : Result SegmentValue (ℕ × SegmentCause)) (now : ℕ) (g : Gate)
    → (arrives_at s face read now g).effects.ups ≡ map (up_at face) (hears_at s face g read now).effects.ups
unfolding arrives_at and_then
arrival-ups s face read now g =
    ap (λ us. map (up_at face) (hears_at s face g read now).effects.ups ++ us)
    (no-ups-in-turn (passes_at s face now) (no-ups-passed s face now) (hears_at s face g read now).effects.ups (does_at face g (hears_at s face g read now)).gate)
    ∙ append-nil (map (up_at face) (hears_at s face g read now).effects.ups)

told-ups : (s : GateSetup) (face at : Face) (read : Result SegmentValue (ℕ × SegmentCause)) (now : ℕ) (g : Gate) (comings : List Coming) → Made s at g comings
    → if_same face at (hears_at s face g read now).effects.ups [] ≡ ups_with (at_face s.parties at) (engine_after (at_face s.parties at) comings) (if_same face at (a_datagram_comes read now) (a_moment_comes now))
told-ups s faces.Old faces.Old read now g comings made = ap (λ e. (datagram_step s.parties.0 e read now).effects.ups) made
told-ups s faces.Old faces.New read now g comings made = refl
told-ups s faces.New faces.Old read now g comings made = refl
told-ups s faces.New faces.New read now g comings made = ap (λ e. (datagram_step s.parties.1 e read now).effects.ups) made

ups-told : (s : GateSetup) (at : Face) (earlier : List GateEvent) (event : GateEvent)
    → ups_on at (ups_with_event s earlier event) ≡ ups_with (at_face s.parties at) (engine_after (at_face s.parties at) (comings_at s at earlier)) (told_with event at)
unfolding ticks_gate and_then tick_step ups_on
ups-told s at earlier (a_datagram_at face read now) =
    ap (ups_on at) (arrival-ups s face read now (gate_after s earlier))
    ∙ (ups-on-face face at (hears_at s face (gate_after s earlier) read now).effects.ups
    ∙ told-ups s face at read now (gate_after s earlier) (comings_at s at earlier) (are_engines s at earlier))
ups-told s at earlier (a_moment_at_both now) = refl

-- what comes to a face with an event is silent but for that one thing
module _ {X : Type 0} (Q : List Coming → X) (same : (block : List ℕ) (red now : ℕ) (earlier : List Coming) → Q (a_block_comes block red now ∷ earlier) ≡ Q earlier)
    (still : (now : ℕ) (earlier : List Coming) → Q (a_moment_comes now ∷ earlier) ≡ Q earlier) where
  silent-event : (s : GateSetup) (at : Face) (g : Gate) (event : GateEvent) (earlier : List Coming) → Q (event_comes s g event at earlier) ≡ Q (told_with event at ∷ earlier)
  unfolding event_comes
  silent-event s at g (a_datagram_at face read now) earlier =
      silent-passages Q same s face at now (hears_at s face g read now).effects.ups (does_at face g (hears_at s face g read now)).gate (if_same face at (a_datagram_comes read now ∷ earlier) earlier)
      ∙ by_face face at
    where
      by_face : (face at : Face) → Q (if_same face at (a_datagram_comes read now ∷ earlier) earlier) ≡ Q (if_same face at (a_datagram_comes read now) (a_moment_comes now) ∷ earlier)
      by_face faces.Old faces.Old = refl
      by_face faces.Old faces.New = sym (still now earlier)
      by_face faces.New faces.Old = sym (still now earlier)
      by_face faces.New faces.New = refl
  silent-event s at g (a_moment_at_both now) earlier = refl

pieces-told : (s : GateSetup) (at : Face) (n : ℕ) (earlier : List GateEvent) (event : GateEvent)
    → pieces_of (at_face s.parties at) n (comings_at s at (event ∷ earlier)) ≡ pieces_of (at_face s.parties at) n (told_with event at ∷ comings_at s at earlier)
unfolding comings_at pieces_of
pieces-told s at n earlier event =
    silent-event (pieces_of (at_face s.parties at) n) (λ block red now earlier. refl) (λ now earlier. refl) s at (gate_after s earlier) event (comings_at s at earlier)

pub hands_up_red_parts : engines.HandsUpRedParts → HandsUpRedParts
hands_up_red_parts law s at n earlier event body =
    rw (ups-told s at earlier event, pieces-told s at n earlier event) (law (at_face s.parties at) n (comings_at s at earlier) (told_with event at) body)

ups-all : (s : GateSetup) (at : Face) (events : List GateEvent) → face_ups s at events ≡ ups_of (at_face s.parties at) (comings_at s at events)
unfolding face_ups comings_at ups_of
ups-all s at [] = refl
ups-all s at (event ∷ earlier) =
    let rest = ups-all s at earlier in
    ap (λ us. us ++ face_ups s at earlier) (ups-told s at earlier event)
    ∙ (ap (λ us. ups_with (at_face s.parties at) (engine_after (at_face s.parties at) (comings_at s at earlier)) (told_with event at) ++ us) rest
    ∙ sym (silent-event (ups_of (at_face s.parties at)) (λ block red now earlier. refl) (λ now earlier. refl) s at (gate_after s earlier) event (comings_at s at earlier)))

pub each_once : engines.HandsUpEachOnce → HandsUpEachOnce
each_once law s at events = rw (ups-all s at events) (law (at_face s.parties at) (comings_at s at events))
