-- A run in turns: each has a half for the old link and one for the new.
use Rattle.std.specs.Prelude.{ℕ, zero, suc, Bool, true, false, List, [], ◌∷◌, ◌++◌}
use Rattle.std.specs.List.{flat_map}
use Rattle.edge_traits.specs.Faults.{fails_next}
use Rattle.gate_cases.specs.declared.face.Face.{Face}
use Rattle.gate_cases.specs.declared.face.Face.TheVariants.{Old, New}
use Rattle.gateway_core.specs.declared.effects.Routed.{Routed}
use Rattle.gateway_core.specs.Gate.{if_same}
use Rattle.serve_run.specs.Outside.{Polled, failed, empty, gave, polled, past_poll, past_send, past_reading, Outside, link_at, with_link}

-- ---- what a run makes

-- what is called outside, and what that comes to: the clock is read, and shows this; a face's link is
-- polled, and a line says so where that failed; a datagram of a step is sent on the link of its face,
-- or lost, since its sending failed, which a line before the step's own says; and the lines of a step
-- are written
pub data Call : Type 0 where
  clock_read : ℕ → Call
  link_polled : Face → Polled → Call
  datagram_sent : Face → List ℕ → Call
  datagram_lost : Face → List ℕ → Call
  lines_written : List ℕ → Call

-- the calls, in the order made
abbrev pub Made : Type 0
Made = List Call

-- the datagrams that were sent on a face's link
abbrev pub datagram_on : Face → Call → List (List ℕ)
datagram_on face (clock_read now) = []
datagram_on face (link_polled at polled) = []
datagram_on face (datagram_sent at datagram) = if_same at face (datagram ∷ []) []
datagram_on face (datagram_lost at datagram) = []
datagram_on face (lines_written text) = []

abbrev pub sent_on : Face → Made → List (List ℕ)
sent_on face made = flat_map (datagram_on face) made

-- ---- whole steps

-- it isn't the sending of a datagram, after which a step has its lines to write
abbrev pub IsNoSend : Call → Type 0
IsNoSend (clock_read now) = Unit {0}
IsNoSend (link_polled face polled) = Unit {0}
IsNoSend (datagram_sent face datagram) = ⊥
IsNoSend (datagram_lost face datagram) = ⊥
IsNoSend (lines_written text) = Unit {0}

-- no step is broken off: the last call is no sending
abbrev pub IsWhole : Made → Type 0
IsWhole [] = Unit {0}
IsWhole (call ∷ []) = IsNoSend call
IsWhole (call ∷ next ∷ later) = IsWhole (next ∷ later)

-- the last call is one with which a line may be written: a step's lines are, or a poll failed
abbrev pub MayWrite : Call → Type 0
MayWrite (clock_read now) = ⊥
MayWrite (link_polled face failed) = Unit {0}
MayWrite (link_polled face empty) = ⊥
MayWrite (link_polled face (gave datagram)) = ⊥
MayWrite (datagram_sent face datagram) = ⊥
MayWrite (datagram_lost face datagram) = ⊥
MayWrite (lines_written text) = Unit {0}

abbrev pub EndsWriting : Made → Type 0
EndsWriting [] = ⊥
EndsWriting (call ∷ []) = MayWrite call
EndsWriting (call ∷ next ∷ later) = EndsWriting (next ∷ later)

-- ---- acts

-- an act's value, the outside after it, and what it made
pub record Acted (X : Type 0) : Type 0 where
  pub value : X
  pub outside : Outside
  pub made : Made

-- an act goes as the outside has it
abbrev pub Act : Type 0 → Type 0
Act X = Outside → Acted X

-- nothing is done
abbrev pub give : {X : Type 0} → X → Act X
give x outside = record { value = x; outside = outside; made = [] }

-- what was made before an act
abbrev pub put_before : {X : Type 0} → Made → Acted X → Acted X
put_before made acted = record acted { made = made ++ acted.made }

-- an act, and then another that may depend on its value
infixl 10 ◌>>=◌
infixl 10 ◌>>◌
abbrev pub ◌>>=◌ : {X Y : Type 0} → Act X → (X → Act Y) → Act Y
(act >>= next) outside = put_before (act outside).made (next (act outside).value (act outside).outside)

abbrev pub ◌>>◌ : {X Y : Type 0} → Act X → Act Y → Act Y
(act >> next) outside = put_before (act outside).made (next (act outside).outside)

-- the clock is read
abbrev pub reads_clock : Act ℕ
reads_clock o = record {
  value = o.clock.shows;
  outside = record o { clock = past_reading o.clock };
  made = clock_read o.clock.shows ∷ [];
}

-- a face's link is polled
abbrev pub polls : Face → Act Polled
polls face o = record {
  value = polled (link_at o face);
  outside = with_link o face (past_poll (link_at o face));
  made = link_polled face (polled (link_at o face)) ∷ [];
}

-- a datagram is sent on the link of its face, and lost where that fails
abbrev pub tried : Face → (fails : Bool) → List ℕ → Call
tried face true datagram = datagram_lost face datagram
tried face false datagram = datagram_sent face datagram

abbrev pub sends : Routed → Act (Unit {0})
sends routed o = record {
  value = tt;
  outside = with_link o routed.face (past_send (link_at o routed.face));
  made = tried routed.face (fails_next (link_at o routed.face).failing) routed.datagram ∷ [];
}

unfoldable pub sends_all : List Routed → Act (Unit {0})
sends_all [] = give tt
sends_all (first ∷ later) = do
  sends first
  sends_all later

-- lines are written
abbrev pub says : List ℕ → Act (Unit {0})
says text o = record { value = tt; outside = o; made = lines_written text ∷ [] }

-- ---- turns

-- what a step does: datagrams that are to be sent, each at its face, and lines
pub record StepEffects : Type 0 where
  pub out : List Routed
  pub text : List ℕ

pub record Stepped (S : Type 0) : Type 0 where
  pub state : S
  pub effects : StepEffects

-- what is driven in turns: what it does about the moment of a half, and about a datagram that comes
-- at a face
pub record TurnRules (S : Type 0) : Type 0 where
  pub tick : ℕ → S → Stepped S
  pub arrive : Face → List ℕ → ℕ → S → Stepped S

-- a step's datagrams are sent in order, and then its lines are written
unfoldable pub does : StepEffects → Act (Unit {0})
does effects = do
  sends_all effects.out
  says effects.text

-- what a poll came to is answered: a datagram is taken, which is a step
abbrev pub answers : {S : Type 0} → TurnRules S → Face → ℕ → Polled → S → Act S
answers rules face now failed state = give state
answers rules face now empty state = give state
answers rules face now (gave datagram) state = do
  does (rules.arrive face datagram now state).effects
  give (rules.arrive face datagram now state).state

-- a half of a turn: the clock is read, which is the moment of the half; time passes, which is a step;
-- and the half's link is polled
unfoldable pub half : {S : Type 0} → TurnRules S → Face → S → Act S
half rules face state = do
  now ← reads_clock
  does (rules.tick now state).effects
  came ← polls face
  answers rules face now came (rules.tick now state).state

-- a turn: the old link's half, and the new link's
unfoldable pub turn : {S : Type 0} → TurnRules S → S → Act S
turn rules state = do
  between ← half rules Old state
  half rules New between

unfoldable pub turns : {S : Type 0} → TurnRules S → ℕ → S → Act S
turns rules zero state = give state
turns rules (suc n) state = do
  next ← turn rules state
  turns rules n next
