-- A run of `serve` goes as the events have it that its calls are.
use Rattle.std.proofs.Common.{◌≡◌, ℕ, zero, suc, Bool, true, false, List, [], ◌∷◌, ◌++◌, refl, sym, ◌∙◌, ap, subst, append_assoc}
use Rattle.std.proofs.lemmas.List.{append-nil}
use Rattle.std.proofs.lemmas.Grind.{flat_map-append}
use Rattle.endpoint.specs.declared.name.Endpoint.{Endpoint}
use Rattle.ltp_segment.specs.Reading.{segment_of}
use Rattle.edge_traits.specs.Outcome.{SinkTells}
use Rattle.edge_traits.specs.declared.status.Status.{Status}
use Rattle.gate_cases.specs.declared.face.Face.{Face}
use Rattle.gate_cases.specs.declared.face.Face.TheVariants.{Old, New}
use Rattle.gateway_core.specs.declared.effects.Routed.{Routed}
use Rattle.gateway_core.specs.Gate.{GateSetup, GateEvent, a_datagram_at, a_moment_at_both, gate_after}
use Rattle.gateway_core.specs.RedParts.{HandsUpRedParts, HandsUpEachOnce}
use Rattle.serve_run.specs.Outside.{Outside, Polled, failed, empty, gave, polled, link_at, with_link, past_poll, past_send, past_reading}
use Rattle.serve_run.specs.Turns.{Made, clock_read, link_polled, lines_written, StepEffects, Acted, Act, give, put_before, ◌>>=◌, ◌>>◌, tried, sends_all, does, polls, answers, half, turn, turns}
use Rattle.serve_run.specs.Tells.{OutsideTells}
use Rattle.serve_run.specs.Serve.{Serving, serving_rules, serving_from, setup_named, serve_turns}
use Rattle.serve_run.specs.Events.{Served, events_with, served_events, lines_in, step_lines, datagrams_in, step_datagrams, lines_with, datagrams_with, RunsKeepLaw}

-- ---- what a step does

tried-event : (face : Face) (fails : Bool) (d : List ℕ) (last : ℕ) (events : List GateEvent) (more : Made)
    → events_with last events (tried face fails d ∷ more) ≡ events_with last events more
tried-event face true d last events more = refl
tried-event face false d last events more = refl

tried-lines : (face : Face) (fails : Bool) (d : List ℕ) → lines_in (tried face fails d) ≡ []
tried-lines face true d = refl
tried-lines face false d = refl

tried-datagram : (face : Face) (fails : Bool) (d : List ℕ) → datagrams_in (tried face fails d) ≡ record { face = face; datagram = d } ∷ []
tried-datagram face true d = refl
tried-datagram face false d = refl

-- sends are no events
sends-events : (out : List Routed) (o : Outside) (last : ℕ) (events : List GateEvent) (more : Made)
    → events_with last events ((sends_all out o).made ++ more) ≡ events_with last events more
unfolding sends_all
sends-events [] o last events more = refl
sends-events (first ∷ later) o last events more =
    let past = with_link o first.face (past_send (link_at o first.face)) in
    tried-event first.face _ first.datagram last events ((sends_all later past).made ++ more) ∙ sends-events later past last events more

sends-lines : (out : List Routed) (o : Outside) → step_lines (sends_all out o).made ≡ []
unfolding sends_all
sends-lines [] o = refl
sends-lines (first ∷ later) o =
    let past = with_link o first.face (past_send (link_at o first.face)) in
    ap (λ xs. xs ++ step_lines (sends_all later past).made) (tried-lines first.face _ first.datagram) ∙ sends-lines later past

sends-datagrams : (out : List Routed) (o : Outside) → step_datagrams (sends_all out o).made ≡ out
unfolding sends_all
sends-datagrams [] o = refl
sends-datagrams (first ∷ later) o =
    let past = with_link o first.face (past_send (link_at o first.face)) in
    ap (λ xs. xs ++ step_datagrams (sends_all later past).made) (tried-datagram first.face _ first.datagram)
    ∙ ap (λ xs. first ∷ xs) (sends-datagrams later past)

module _ (effects : StepEffects) (o : Outside) where
  does-events : (last : ℕ) (events : List GateEvent) (more : Made) → events_with last events ((does effects o).made ++ more) ≡ events_with last events more
  unfolding does
  does-events last events more =
      ap (events_with last events) (append_assoc (sends_all effects.out o).made (lines_written effects.text ∷ []) more)
      ∙ sends-events effects.out o last events (lines_written effects.text ∷ more)

  does-lines : step_lines (does effects o).made ≡ effects.text ∷ []
  unfolding does
  does-lines =
      flat_map-append lines_in (sends_all effects.out o).made (lines_written effects.text ∷ [])
      ∙ ap (λ xs. xs ++ effects.text ∷ []) (sends-lines effects.out o)

  does-datagrams : step_datagrams (does effects o).made ≡ effects.out
  unfolding does
  does-datagrams =
      flat_map-append datagrams_in (sends_all effects.out o).made (lines_written effects.text ∷ [])
      ∙ append-nil (step_datagrams (sends_all effects.out o).made) ∙ sends-datagrams effects.out o

-- ---- acts

-- after events, lines and datagrams an act goes on as its calls have it, and leaves the gate so
record GoesAs (s : GateSetup) (last : ℕ) (events : List GateEvent) (lines : List (List ℕ)) (datagrams : List Routed) (acted : Acted Serving) : Type 0 where
  now : ℕ
  after : List GateEvent
  are : (more : Made) → events_with last events (acted.made ++ more) ≡ events_with now after more
  value_is : acted.value ≡ record { setup = s; gate = gate_after s after }
  lines_are : lines ++ step_lines acted.made ≡ lines_with s after
  datagrams_are : datagrams ++ step_datagrams acted.made ≡ datagrams_with s after

abbrev gate_at : GateSetup → List GateEvent → Serving
gate_at s events = record { setup = s; gate = gate_after s events }

-- after events it goes on from what their gate did
abbrev GoesOn : GateSetup → ℕ → List GateEvent → Acted Serving → Type 0
GoesOn s last events acted = GoesAs s last events (lines_with s events) (datagrams_with s events) acted

module _ (s : GateSetup) (last : ℕ) (events : List GateEvent) where
  goes-give : (o : Outside) → GoesOn s last events (give (gate_at s events) o)
  goes-give o = record {
    now = last;
    after = events;
    are = λ more. refl;
    value_is = refl;
    lines_are = append-nil (lines_with s events);
    datagrams_are = append-nil (datagrams_with s events);
  }

  -- a step's lines and datagrams are made
  goes-does : (lines : List (List ℕ)) (datagrams : List Routed) (effects : StepEffects) (rest : Act Serving) (o : Outside)
      → GoesAs s last events (lines ++ effects.text ∷ []) (datagrams ++ effects.out) (rest (does effects o).outside)
      → GoesAs s last events lines datagrams ((does effects >> rest) o)
  goes-does lines datagrams effects rest o goes =
      let first = (does effects o).made in
      let second = (rest (does effects o).outside).made in
      record {
        now = goes.now;
        after = goes.after;
        are = λ more. ap (events_with last events) (append_assoc first second more) ∙ does-events effects o last events (second ++ more) ∙ goes.are more;
        value_is = goes.value_is;
        lines_are = ap (λ xs. lines ++ xs) (flat_map-append lines_in first second ∙ ap (λ xs. xs ++ step_lines second) (does-lines effects o))
            ∙ sym (append_assoc lines (effects.text ∷ []) (step_lines second)) ∙ goes.lines_are;
        datagrams_are = ap (λ xs. datagrams ++ xs) (flat_map-append datagrams_in first second ∙ ap (λ xs. xs ++ step_datagrams second) (does-datagrams effects o))
            ∙ sym (append_assoc datagrams effects.out (step_datagrams second)) ∙ goes.datagrams_are;
      }

  -- a reading is a moment
  goes-read : (lines : List (List ℕ)) (datagrams : List Routed) (moment : ℕ) (acted : Acted Serving)
      → GoesAs s moment (a_moment_at_both moment ∷ events) lines datagrams acted
      → GoesAs s last events lines datagrams (put_before (clock_read moment ∷ []) acted)
  goes-read lines datagrams moment acted goes = record {
    now = goes.now;
    after = goes.after;
    are = goes.are;
    value_is = goes.value_is;
    lines_are = goes.lines_are;
    datagrams_are = goes.datagrams_are;
  }

-- what a poll came to is answered
goes-answer : (s : GateSetup) (last : ℕ) (events : List GateEvent) (face : Face) (came : Polled) (o : Outside)
    → GoesOn s last events (put_before (link_polled face came ∷ []) (answers serving_rules face last came (gate_at s events) o))
unfolding gate_after
goes-answer s last events face failed o = record {
  now = last;
  after = events;
  are = λ more. refl;
  value_is = refl;
  lines_are = append-nil (lines_with s events);
  datagrams_are = append-nil (datagrams_with s events);
}
goes-answer s last events face empty o = record {
  now = last;
  after = events;
  are = λ more. refl;
  value_is = refl;
  lines_are = append-nil (lines_with s events);
  datagrams_are = append-nil (datagrams_with s events);
}
goes-answer s last events face (gave datagram) o =
    let step = serving_rules.arrive face datagram last (gate_at s events) in
    let more = a_datagram_at face (segment_of datagram) last ∷ events in
    let goes = goes-does s last more (lines_with s events) (datagrams_with s events) step.effects (give step.state) o
    (goes-give s last more (does step.effects o).outside) in
    record {
      now = goes.now;
      after = goes.after;
      are = goes.are;
      value_is = goes.value_is;
      lines_are = goes.lines_are;
      datagrams_are = goes.datagrams_are;
    }

-- ---- halves and turns

goes-half : (s : GateSetup) (last : ℕ) (events : List GateEvent) (face : Face) (o : Outside)
    → GoesOn s last events (half serving_rules face (gate_at s events) o)
unfolding half gate_after
goes-half s last events face o =
    let moment = o.clock.shows in
    let read : Outside = record o { clock = past_reading o.clock } in
    let more = a_moment_at_both moment ∷ events in
    let step = serving_rules.tick moment (gate_at s events) in
    let past = (does step.effects read).outside in
    goes-read s last events (lines_with s events) (datagrams_with s events) moment _
    (goes-does s moment more (lines_with s events) (datagrams_with s events) step.effects
    (polls face >>= (λ came. answers serving_rules face moment came step.state)) read
    (goes-answer s moment more face (polled (link_at past face)) (with_link past face (past_poll (link_at past face)))))

-- an act, and then another
goes-and : (s : GateSetup) (last : ℕ) (events : List GateEvent) (act : Act Serving) (next : Serving → Act Serving) (o : Outside)
    → GoesOn s last events (act o)
    → ((now : ℕ) (after : List GateEvent) (past : Outside) → GoesOn s now after (next (gate_at s after) past))
    → GoesOn s last events ((act >>= next) o)
goes-and s last events act next o goes then =
    let first = (act o).made in
    let past = (act o).outside in
    let more : GoesOn s goes.now goes.after (next (act o).value past) =
    subst (λ v. GoesOn s goes.now goes.after (next v past)) (sym goes.value_is) (then goes.now goes.after past) in
    let second = (next (act o).value past).made in
    record {
      now = more.now;
      after = more.after;
      are = λ calls. ap (events_with last events) (append_assoc first second calls) ∙ goes.are (second ++ calls) ∙ more.are calls;
      value_is = more.value_is;
      lines_are = ap (λ xs. lines_with s events ++ xs) (flat_map-append lines_in first second)
          ∙ sym (append_assoc (lines_with s events) (step_lines first) (step_lines second))
          ∙ ap (λ xs. xs ++ step_lines second) goes.lines_are ∙ more.lines_are;
      datagrams_are = ap (λ xs. datagrams_with s events ++ xs) (flat_map-append datagrams_in first second)
          ∙ sym (append_assoc (datagrams_with s events) (step_datagrams first) (step_datagrams second))
          ∙ ap (λ xs. xs ++ step_datagrams second) goes.datagrams_are ∙ more.datagrams_are;
    }

goes-turn : (s : GateSetup) (last : ℕ) (events : List GateEvent) (o : Outside) → GoesOn s last events (turn serving_rules (gate_at s events) o)
unfolding turn
goes-turn s last events o =
    goes-and s last events (half serving_rules Old (gate_at s events)) (half serving_rules New) o
    (goes-half s last events Old o) (λ now after past. goes-half s now after New past)

goes-turns : (s : GateSetup) (count last : ℕ) (events : List GateEvent) (o : Outside) → GoesOn s last events (turns serving_rules count (gate_at s events) o)
unfolding turns
goes-turns s zero last events o = goes-give s last events o
goes-turns s (suc n) last events o =
    goes-and s last events (turn serving_rules (gate_at s events)) (turns serving_rules n) o
    (goes-turn s last events o) (λ now after past. goes-turns s n now after past)

-- ---- a run

pub keeps-law : HandsUpRedParts → HandsUpEachOnce → RunsKeepLaw
unfolding serve_turns gate_after
keeps-law red_parts once gate count o =
    let s = setup_named gate in
    let run = turns serving_rules count (serving_from s) o in
    let goes = goes-turns s count 0 [] o in
    let events : goes.after ≡ served_events run.made = sym (goes.are []) ∙ ap (events_with 0 []) (append-nil run.made) in
    record {
      gate = goes.value_is ∙ ap (gate_at s) events;
      lines = goes.lines_are ∙ ap (lines_with s) events;
      datagrams = goes.datagrams_are ∙ ap (datagrams_with s) events;
      once = λ at. once s at (served_events run.made);
      red_parts = λ at n body later earlier event is. red_parts s at n earlier event body;
    }

-- a run that went so, by equal tellings
pub served-as : (gate : Endpoint) (count : ℕ) (status : Status) (before now later : OutsideTells) (sink sink_now sink_later : SinkTells)
    → Served gate count status before now sink sink_now → later ≡ now → sink_later ≡ sink_now → Served gate count status before later sink sink_later
served-as gate count status before now later sink sink_now sink_later served same sink_same = rw (same, sink_same) served
