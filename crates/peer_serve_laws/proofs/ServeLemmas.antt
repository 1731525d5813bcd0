-- What `serve` sends, over an outside of which no call fails: by the gate, half after half.

use Rattle.std.proofs.Common.{◌≡◌, ℕ, List, [], ◌∷◌, ◌++◌, map, Option, refl, ap, append_assoc, ◌∙◌, sym, subst}
use Rattle.std.proofs.lemmas.List.{append-nil}
use Rattle.std.proofs.lemmas.Grind.{flat_map-append}
use Rattle.ltp_segment.specs.Reading.{segment_of}
use Rattle.gate_cases.specs.declared.face.Face.{Face}
use Rattle.gate_cases.specs.declared.face.Face.TheVariants as faces
use Rattle.gate_cases.specs.Faces.{other_of}
use Rattle.gateway_core.specs.declared.effects.Routed.{Routed}
use Rattle.gateway_core.specs.Effects.{routed_of}
use Rattle.gateway_core.specs.Gate.{Gate, GateSetup, GateStep, arrives_at, if_same, stays_so, ticks_gate}
use Rattle.outbox.specs.Outbox.{first_of}
use Rattle.serve_run.specs.Outside.{ClockAhead, Outside, empty, gave, past_reading}
use Rattle.serve_run.specs.Serve.{Serving, serves, serving_rules}
use Rattle.serve_run.specs.Turns as turns
use Rattle.serve_run.specs.Turns.{Acted, Call, Made, StepEffects, answers, clock_read, datagram_on, datagram_sent, does, give, lines_written, link_polled, polls, put_before, says, sends, sends_all, sent_on, ◌>>=◌, ◌>>◌}
use Rattle.peer_half.specs.Half.{Came}
use Rattle.peer_half.specs.Laws.{datagrams_at}
use Rattle.peer_serve_laws.specs.Serves.{AreTurns, clock_over, polls_give, turns_in, wall_in}

-- of what is sent, the datagrams of a face, one by one
abbrev pub routed_to : Face → List Routed → List (List ℕ)
routed_to at [] = []
routed_to at (routed ∷ more) = if_same routed.face at (routed.datagram ∷ routed_to at more) (routed_to at more)

pub routed-is : (at : Face) (out : List Routed) → routed_to at out ≡ datagrams_at at out
routed-is at [] = refl
routed-is at (routed ∷ more) = by routed.face at (routed-is at more) where
  by : (f g : Face) → routed_to at more ≡ datagrams_at at more
      → if_same f g (routed.datagram ∷ routed_to at more) (routed_to at more) ≡ if_same f g (routed.datagram ∷ []) [] ++ datagrams_at at more
  by faces.Old faces.Old rest = ap (λ ds. routed.datagram ∷ ds) rest
  by faces.Old faces.New rest = rest
  by faces.New faces.Old rest = rest
  by faces.New faces.New rest = ap (λ ds. routed.datagram ∷ ds) rest

-- ---- what a gate does in a half at one moment

abbrev pub arrived : GateSetup → Face → ℕ → List (List ℕ) → Gate → GateStep
arrived s face now [] g = stays_so g
arrived s face now (d ∷ more) g = arrives_at s face (segment_of d) now g

-- what a step sends at a face
abbrev pub step_sent : Face → GateStep → List (List ℕ)
step_sent at step = routed_to at (map routed_of step.effects.out)

abbrev pub plain_in : Face → GateSetup → Face → ℕ → List (List ℕ) → Gate → List (List ℕ)
plain_in at s face now ds g = step_sent at (ticks_gate s now g) ++ step_sent at (arrived s face now ds (ticks_gate s now g).gate)

abbrev pub gate_past : GateSetup → Face → ℕ → List (List ℕ) → Gate → Gate
gate_past s face now ds g = (arrived s face now ds (ticks_gate s now g).gate).gate

-- and in some halves
abbrev pub plain_over : Face → GateSetup → Face → List Came → Gate → List (List ℕ)
plain_over at s face [] g = []
plain_over at s face (came ∷ more) g =
    plain_in at s face (wall_in came) came.datagrams g ++ plain_over at s (other_of face) more (gate_past s face (wall_in came) came.datagrams g)

-- ---- `serve`, over an outside of which no call fails

abbrev quiet : List (Option (List ℕ)) → List (Option (List ℕ)) → ClockAhead → Outside
quiet old new clock = record { old = record { gives = old; failing = [] }; new = record { gives = new; failing = [] }; clock = clock }

-- one poll more of a face
abbrev with_poll : Face → Option (List ℕ) → List (Option (List ℕ)) → List (Option (List ℕ)) → ClockAhead → Outside
with_poll faces.Old x old new clock = quiet (x ∷ old) new clock
with_poll faces.New x old new clock = quiet old (x ∷ new) clock

-- an act came to this state, left this outside, and sent this
record IsServed (a : Acted Serving) (setup : GateSetup) (gate : Gate) (o : Outside) (sent : Face → List (List ℕ)) : Type 0 where
  value_is : a.value ≡ record { setup = setup; gate = gate }
  outside_is : a.outside ≡ o
  made_is : (at : Face) → sent_on at a.made ≡ sent at

abbrev sent_call : Routed → Call
sent_call routed = datagram_sent routed.face routed.datagram

abbrev all_sent : List Routed → Made
all_sent out = map sent_call out

sent-routed : (at : Face) (out : List Routed) → sent_on at (all_sent out) ≡ routed_to at out
sent-routed at [] = refl
sent-routed at (routed ∷ more) = by routed.face at (sent-routed at more) where
  by : (f g : Face) → sent_on at (all_sent more) ≡ routed_to at more
      → if_same f g (routed.datagram ∷ []) [] ++ sent_on at (all_sent more) ≡ if_same f g (routed.datagram ∷ routed_to at more) (routed_to at more)
  by faces.Old faces.Old rest = ap (λ ds. routed.datagram ∷ ds) rest
  by faces.Old faces.New rest = rest
  by faces.New faces.Old rest = rest
  by faces.New faces.New rest = ap (λ ds. routed.datagram ∷ ds) rest

abbrev sent_all : List Routed → Outside → Acted (Unit {0})
sent_all out o = record { value = tt; outside = o; made = all_sent out }

one-made : (face : Face) (d : List ℕ) (later : List Routed) (old new : List (Option (List ℕ))) (clock : ClockAhead)
    → sends_all later (quiet old new clock) ≡ sent_all later (quiet old new clock)
    → (sends (record { face = face; datagram = d }) >> sends_all later) (quiet old new clock)
    ≡ record {
      value = tt;
      outside = quiet old new clock;
      made = datagram_sent face d ∷ all_sent later;
    }
one-made faces.Old d later old new clock rest = ap (put_before (datagram_sent faces.Old d ∷ [])) rest
one-made faces.New d later old new clock rest = ap (put_before (datagram_sent faces.New d ∷ [])) rest

sends-made : (out : List Routed) (old new : List (Option (List ℕ))) (clock : ClockAhead)
    → sends_all out (quiet old new clock) ≡ sent_all out (quiet old new clock)
unfolding sends_all
sends-made [] old new clock = refl
sends-made (first ∷ later) old new clock =
    let rest = sends-made later old new clock in one-made first.face first.datagram later old new clock rest

does-made : (effects : StepEffects) (old new : List (Option (List ℕ))) (clock : ClockAhead)
    → does effects (quiet old new clock)
    ≡ record { value = tt; outside = quiet old new clock; made = all_sent effects.out ++ lines_written effects.text ∷ [] }
unfolding does
does-made effects old new clock = ap (λ (a : Acted (Unit {0})). put_before a.made (says effects.text a.outside)) (sends-made effects.out old new clock)

served-then : (effects : StepEffects) (act : turns.Act Serving) (old new : List (Option (List ℕ))) (clock : ClockAhead) (setup : GateSetup) (gate : Gate) (o : Outside)
    (sent : Face → List (List ℕ)) → IsServed (act (quiet old new clock)) setup gate o sent
    → IsServed ((does effects >> act) (quiet old new clock)) setup gate o (λ at. routed_to at effects.out ++ sent at)
served-then effects act old new clock setup gate o sent rest =
    subst (λ (a : Acted (Unit {0})). IsServed (put_before a.made (act a.outside)) setup gate o (λ at. routed_to at effects.out ++ sent at))
    (sym (does-made effects old new clock)) (record { value_is = rest.value_is; outside_is = rest.outside_is; made_is = made })
  where
    more : Made
    more = (act (quiet old new clock)).made

    made : (at : Face) → sent_on at ((all_sent effects.out ++ lines_written effects.text ∷ []) ++ more) ≡ routed_to at effects.out ++ sent at
    made at =
        ap (sent_on at) (append_assoc (all_sent effects.out) (lines_written effects.text ∷ []) more)
        ∙ flat_map-append (datagram_on at) (all_sent effects.out) (lines_written effects.text ∷ more)
        ∙ ap (λ ds. ds ++ sent_on at more) (sent-routed at effects.out) ∙ ap (λ ds. routed_to at effects.out ++ ds) (rest.made_is at)

served-same : (a : Acted Serving) (setup : GateSetup) (gate : Gate) (o : Outside) (sent also : Face → List (List ℕ)) → ((at : Face) → sent at ≡ also at)
    → IsServed a setup gate o sent → IsServed a setup gate o also
served-same a setup gate o sent also same served = record {
  value_is = served.value_is;
  outside_is = served.outside_is;
  made_is = λ at. served.made_is at ∙ same at;
}

-- nothing was sent before an act
served-before : (call : Call) → ((at : Face) → datagram_on at call ≡ [])
    → (a : Acted Serving) (setup : GateSetup) (gate : Gate) (o : Outside) (sent : Face → List (List ℕ)) → IsServed a setup gate o sent
    → IsServed (put_before (call ∷ []) a) setup gate o sent
served-before call silent a setup gate o sent served = record {
  value_is = served.value_is;
  outside_is = served.outside_is;
  made_is = λ at. ap (λ ds. ds ++ sent_on at a.made) (silent at) ∙ served.made_is at;
}

none-sent : (at : Face) → [] ≡ routed_to at (map routed_of [])
none-sent at = refl

served-given : (serving : Serving) (o : Outside) → IsServed (give serving o) serving.setup serving.gate o (λ at. [])
served-given serving o = record { value_is = refl; outside_is = refl; made_is = λ at. refl }

-- what a poll gives is answered
abbrev poll_served : Face → ℕ → Serving → turns.Act Serving
poll_served face now serving = polls face >>= (λ came. answers serving_rules face now came serving)

served-arrival : (face : Face) (now : ℕ) (d : List ℕ) (serving : Serving) (old new : List (Option (List ℕ))) (clock : ClockAhead)
    → IsServed (answers serving_rules face now (gave d) serving (quiet old new clock)) serving.setup (arrives_at serving.setup face (segment_of d) now serving.gate).gate
    (quiet old new clock) (λ at. step_sent at (arrives_at serving.setup face (segment_of d) now serving.gate))
served-arrival face now d serving old new clock =
    served-same (answers serving_rules face now (gave d) serving (quiet old new clock)) serving.setup after (quiet old new clock)
    (λ at. routed_to at (map routed_of step.effects.out) ++ []) (λ at. step_sent at step) (λ at. append-nil (step_sent at step))
    (served-then (serves serving step).effects (give (serves serving step).state) old new clock serving.setup after (quiet old new clock) (λ at. [])
    (served-given (serves serving step).state (quiet old new clock)))
  where
    step : GateStep
    step = arrives_at serving.setup face (segment_of d) now serving.gate

    after : Gate
    after = step.gate

-- (the poll gives what came to the half)
served-poll : (face : Face) (now : ℕ) (ds : List (List ℕ)) (serving : Serving) (old new : List (Option (List ℕ))) (clock : ClockAhead)
    → IsServed (poll_served face now serving (with_poll face (first_of ds) old new clock)) serving.setup (arrived serving.setup face now ds serving.gate).gate
    (quiet old new clock) (λ at. step_sent at (arrived serving.setup face now ds serving.gate))
served-poll faces.Old now [] serving old new clock =
    served-before (link_polled faces.Old empty) (λ at. refl) (give serving (quiet old new clock)) serving.setup serving.gate (quiet old new clock) (λ at. routed_to at (map routed_of []))
    (served-same (give serving (quiet old new clock)) serving.setup serving.gate (quiet old new clock) (λ at. []) (λ at. routed_to at (map routed_of [])) none-sent
    (served-given serving (quiet old new clock)))
served-poll faces.Old now (d ∷ ds) serving old new clock =
    served-before (link_polled faces.Old (gave d)) (λ at. refl) (answers serving_rules faces.Old now (gave d) serving (quiet old new clock)) serving.setup (arrived serving.setup faces.Old now (d ∷ ds) serving.gate).gate
    (quiet old new clock) (λ at. step_sent at (arrived serving.setup faces.Old now (d ∷ ds) serving.gate))
    (served-arrival faces.Old now d serving old new clock)
served-poll faces.New now [] serving old new clock =
    served-before (link_polled faces.New empty) (λ at. refl) (give serving (quiet old new clock)) serving.setup serving.gate (quiet old new clock) (λ at. routed_to at (map routed_of []))
    (served-same (give serving (quiet old new clock)) serving.setup serving.gate (quiet old new clock) (λ at. []) (λ at. routed_to at (map routed_of [])) none-sent
    (served-given serving (quiet old new clock)))
served-poll faces.New now (d ∷ ds) serving old new clock =
    served-before (link_polled faces.New (gave d)) (λ at. refl) (answers serving_rules faces.New now (gave d) serving (quiet old new clock)) serving.setup (arrived serving.setup faces.New now (d ∷ ds) serving.gate).gate
    (quiet old new clock) (λ at. step_sent at (arrived serving.setup faces.New now (d ∷ ds) serving.gate))
    (served-arrival faces.New now d serving old new clock)

-- time passes, and then the poll is made
served-told : (face : Face) (now : ℕ) (ds : List (List ℕ)) (serving : Serving) (old new : List (Option (List ℕ))) (clock : ClockAhead)
    → IsServed ((does (serving_rules.tick now serving).effects >> poll_served face now (serving_rules.tick now serving).state) (with_poll face (first_of ds) old new clock))
    serving.setup (gate_past serving.setup face now ds serving.gate) (quiet old new clock) (λ at. plain_in at serving.setup face now ds serving.gate)
served-told faces.Old now ds serving old new clock =
    served-then (serving_rules.tick now serving).effects (poll_served faces.Old now (serving_rules.tick now serving).state) (first_of ds ∷ old) new clock
    serving.setup (gate_past serving.setup faces.Old now ds serving.gate) (quiet old new clock)
    (λ at. step_sent at (arrived serving.setup faces.Old now ds (ticks_gate serving.setup now serving.gate).gate))
    (served-poll faces.Old now ds (serving_rules.tick now serving).state old new clock)
served-told faces.New now ds serving old new clock =
    served-then (serving_rules.tick now serving).effects (poll_served faces.New now (serving_rules.tick now serving).state) old (first_of ds ∷ new) clock
    serving.setup (gate_past serving.setup faces.New now ds serving.gate) (quiet old new clock)
    (λ at. step_sent at (arrived serving.setup faces.New now ds (ticks_gate serving.setup now serving.gate).gate))
    (served-poll faces.New now ds (serving_rules.tick now serving).state old new clock)

served-half : (face : Face) (ds : List (List ℕ)) (serving : Serving) (old new : List (Option (List ℕ))) (clock : ClockAhead)
    → IsServed (turns.half serving_rules face serving (with_poll face (first_of ds) old new clock)) serving.setup (gate_past serving.setup face clock.shows ds serving.gate)
    (quiet old new (past_reading clock)) (λ at. plain_in at serving.setup face clock.shows ds serving.gate)
unfolding turns.half
served-half faces.Old ds serving old new clock =
    served-before (clock_read clock.shows) (λ at. refl) _ serving.setup (gate_past serving.setup faces.Old clock.shows ds serving.gate) (quiet old new (past_reading clock))
    (λ at. plain_in at serving.setup faces.Old clock.shows ds serving.gate) (served-told faces.Old clock.shows ds serving old new (past_reading clock))
served-half faces.New ds serving old new clock =
    served-before (clock_read clock.shows) (λ at. refl) _ serving.setup (gate_past serving.setup faces.New clock.shows ds serving.gate) (quiet old new (past_reading clock))
    (λ at. plain_in at serving.setup faces.New clock.shows ds serving.gate) (served-told faces.New clock.shows ds serving old new (past_reading clock))

-- one act, and then another that depends on its value
served-and : (first : turns.Act Serving) (next : Serving → turns.Act Serving) (o between last : Outside) (setup : GateSetup) (g h : Gate) (sent more : Face → List (List ℕ))
    → IsServed (first o) setup g between sent → IsServed (next (record { setup = setup; gate = g }) between) setup h last more
    → IsServed ((first >>= next) o) setup h last (λ at. sent at ++ more at)
served-and first next o between last setup g h sent more one two = record {
  value_is = (then_is).value_is;
  outside_is = (then_is).outside_is;
  made_is = made;
} where
  then_is : IsServed (next (first o).value (first o).outside) setup h last more
  then_is =
      subst (λ (v : Serving). IsServed (next v (first o).outside) setup h last more) (sym one.value_is)
      (subst (λ (p : Outside). IsServed (next (record { setup = setup; gate = g }) p) setup h last more) (sym one.outside_is) two)

  joined : (xs ys vs ws : List (List ℕ)) → xs ≡ vs → ys ≡ ws → xs ++ ys ≡ vs ++ ws
  joined xs ys vs ws x y = ap (λ zs. zs ++ ys) x ∙ ap (λ zs. vs ++ zs) y

  made : (at : Face) → sent_on at ((first o).made ++ (next (first o).value (first o).outside).made) ≡ sent at ++ more at
  made at =
      flat_map-append (datagram_on at) (first o).made (next (first o).value (first o).outside).made
      ∙ joined (sent_on at (first o).made) (sent_on at (next (first o).value (first o).outside).made) (sent at) (more at) (one.made_is at) (then_is.made_is at)

-- the clock shows the readings
abbrev pub Shows : ClockAhead → List Came → Type 0
Shows clock [] = Unit {0}
Shows clock (came ∷ more) = (clock.shows ≡ wall_in came) × Shows (past_reading clock) more

served-came : (face : Face) (came : Came) (serving : Serving) (old new : List (Option (List ℕ))) (clock : ClockAhead) → clock.shows ≡ wall_in came
    → IsServed (turns.half serving_rules face serving (with_poll face (first_of came.datagrams) old new clock)) serving.setup
    (gate_past serving.setup face (wall_in came) came.datagrams serving.gate) (quiet old new (past_reading clock)) (λ at. plain_in at serving.setup face (wall_in came) came.datagrams serving.gate)
served-came face came serving old new clock is =
    subst (λ now. IsServed (turns.half serving_rules face serving (with_poll face (first_of came.datagrams) old new clock)) serving.setup
    (gate_past serving.setup face now came.datagrams serving.gate) (quiet old new (past_reading clock)) (λ at. plain_in at serving.setup face now came.datagrams serving.gate)) is
    (served-half face came.datagrams serving old new clock)

served-turn : (first second : Came) (serving : Serving) (old new : List (Option (List ℕ))) (clock : ClockAhead) → clock.shows ≡ wall_in first
    → (past_reading clock).shows ≡ wall_in second
    → IsServed (turns.turn serving_rules serving (quiet (first_of first.datagrams ∷ old) (first_of second.datagrams ∷ new) clock)) serving.setup
    (gate_past serving.setup faces.New (wall_in second) second.datagrams (gate_past serving.setup faces.Old (wall_in first) first.datagrams serving.gate))
    (quiet old new (past_reading (past_reading clock)))
    (λ at. plain_in at serving.setup faces.Old (wall_in first) first.datagrams serving.gate
    ++ plain_in at serving.setup faces.New (wall_in second) second.datagrams (gate_past serving.setup faces.Old (wall_in first) first.datagrams serving.gate))
unfolding turns.turn
served-turn first second serving old new clock one two =
    let between : Gate = gate_past serving.setup faces.Old (wall_in first) first.datagrams serving.gate in
    served-and (turns.half serving_rules faces.Old serving) (turns.half serving_rules faces.New) (quiet (first_of first.datagrams ∷ old) (first_of second.datagrams ∷ new) clock)
    (quiet old (first_of second.datagrams ∷ new) (past_reading clock)) (quiet old new (past_reading (past_reading clock))) serving.setup between
    (gate_past serving.setup faces.New (wall_in second) second.datagrams between)
    (λ at. plain_in at serving.setup faces.Old (wall_in first) first.datagrams serving.gate) (λ at. plain_in at serving.setup faces.New (wall_in second) second.datagrams between)
    (served-came faces.Old first serving old (first_of second.datagrams ∷ new) clock one)
    (served-came faces.New second (record { setup = serving.setup; gate = between }) old new (past_reading clock) two)

-- and so many turns
abbrev pub Sends : List Came → Serving → ClockAhead → Type 0
Sends comes serving clock = (at : Face)
    → sent_on at (turns.turns serving_rules (turns_in comes) serving (quiet (polls_give faces.Old faces.Old comes) (polls_give faces.New faces.Old comes) clock)).made
    ≡ plain_over at serving.setup faces.Old comes serving.gate

made-then : (at : Face) (first more : Made) → sent_on at (first ++ more) ≡ sent_on at first ++ sent_on at more
made-then at first more = flat_map-append (datagram_on at) first more

append-two : (xs ys zs : List (List ℕ)) → (xs ++ ys) ++ zs ≡ xs ++ (ys ++ zs)
append-two [] ys zs = refl
append-two (x ∷ xs) ys zs = let rest = append-two xs ys zs in ap (λ ws. x ∷ ws) rest

pub sends-turns : (comes : List Came) → AreTurns comes → (serving : Serving) (clock : ClockAhead) → Shows clock comes → Sends comes serving clock
unfolding turns.turns
sends-turns [] whole serving clock shows at = refl
sends-turns (first ∷ []) whole serving clock shows at = absurd whole
sends-turns (first ∷ second ∷ more) whole serving clock shows at =
    let between : Gate = gate_past serving.setup faces.Old (wall_in first) first.datagrams serving.gate in
    let after : Serving = record { setup = serving.setup; gate = gate_past serving.setup faces.New (wall_in second) second.datagrams between } in
    let old = polls_give faces.Old faces.Old more in
    let new = polls_give faces.New faces.Old more in
    let turn = served-turn first second serving old new clock shows.0 shows.1.0 in
    let rest = sends-turns more whole after (past_reading (past_reading clock)) shows.1.1 at in
    let o : Outside = quiet (first_of first.datagrams ∷ old) (first_of second.datagrams ∷ new) clock in
    made-then at (turns.turn serving_rules serving o).made
    (turns.turns serving_rules (turns_in more) (turns.turn serving_rules serving o).value (turns.turn serving_rules serving o).outside).made
    ∙ (ap (λ (v : Serving). sent_on at (turns.turn serving_rules serving o).made ++ sent_on at (turns.turns serving_rules (turns_in more) v (turns.turn serving_rules serving o).outside).made) turn.value_is
    ∙ (ap (λ (p : Outside). sent_on at (turns.turn serving_rules serving o).made ++ sent_on at (turns.turns serving_rules (turns_in more) after p).made) turn.outside_is
    ∙ (ap (λ ds. sent_on at (turns.turn serving_rules serving o).made ++ ds) rest
    ∙ (ap (λ ds. ds ++ plain_over at serving.setup faces.Old more after.gate) (turn.made_is at)
    ∙ append-two (plain_in at serving.setup faces.Old (wall_in first) first.datagrams serving.gate) (plain_in at serving.setup faces.New (wall_in second) second.datagrams between)
    (plain_over at serving.setup faces.Old more after.gate)))))

-- the clock over a run shows its readings

pub shows-all : (wall : ℕ) (comes : List Came) → Shows (clock_over wall comes) comes
shows-all wall [] = tt
shows-all wall (came ∷ more) = (refl, later (wall_in came) more) where
  later : (shown : ℕ) (more : List Came) → Shows (past_reading (record { shows = shown; later = map wall_in more })) more
  later shown [] = tt
  later shown (next ∷ more) = (refl, later (wall_in next) more)
