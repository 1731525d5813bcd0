-- What was sent on a path, on each link: how many of it are delivered or lost, and what is new.

use Rattle.std.proofs.Common.{◌≡◌, ℕ, zero, suc, ◌+◌, ◌<◌, ◌≤◌, Bool, true, false, List, [], ◌∷◌}
use Rattle.std.proofs.Common.{◌++◌, length, take, Option, None, Some, Result, Ok, Err, refl}
use Rattle.std.proofs.Common.{sym, ◌∙◌, ap, arith, nat_lt, if◌then◌else◌}
use Rattle.std.proofs.lemmas.List.{append-nil, append_assoc, take-append-le, take_all}
use Rattle.std.proofs.lemmas.Option.{slice_get_within}
use Rattle.std.specs.List.{slice_get}
use Rattle.ltp_session.specs.Engine.{EngineStep, SubmitFault}
use Rattle.ltp_session.specs.World.{Sent as LinkSent}
use Rattle.gate_cases.specs.declared.face.Face.{Face}
use Rattle.gate_cases.specs.Faces.{other_of}
use Rattle.gateway_core.specs.Gate.{ticks_gate}
use Rattle.path_laws.specs.declared.places.PathEnd.{PathEnd}
use Rattle.path_laws.specs.declared.places.PathEnd.TheVariants as ends
use Rattle.path_laws.specs.Places.{across, link_of, if_link, on_link, Stand, at_node, at_gate}
use Rattle.path_laws.specs.Places.{stand_of}
use Rattle.path_laws.specs.Path.{PathSetup, Path, PathStep, SentFrom, PathEvent, sends, delivers}
use Rattle.path_laws.specs.Path.{clock_shows, all_tick, comes_to, delivers_if, gate_does}
use Rattle.path_laws.specs.Path.{node_ticks, nothing_done, path_step, sends_block, sent_unless}
use Rattle.path_laws.specs.Path.{then_does}
use Rattle.path_laws.specs.Links.{link_sent, sent_on}
use Rattle.path_laws.proofs.ChunkLemmas.{if-here, if-there, on-append}
use Rattle.path_laws.proofs.RunLemmas.{got-on}

-- ---- how many of a link are delivered or lost

-- among the first c of a path
abbrev pub counted_on : Face → ℕ → List SentFrom → ℕ
counted_on face c sent = length (sent_on face (take c sent))

on-more : (face : Face) (xs ys : List SentFrom)
    → sent_on face (xs ++ ys) ≡ sent_on face xs ++ sent_on face ys
on-more face xs ys = on-append (λ (d : SentFrom). d.from) link_sent face xs ys

-- more that are sent are not among them
pub counted-more : (face : Face) (c : ℕ) (sent more : List SentFrom) → c ≤ length sent
    → counted_on face c (sent ++ more) ≡ counted_on face c sent
counted-more face c sent more low =
    ap (λ (ds : List SentFrom). length (sent_on face ds)) (take-append-le c sent more low)

-- all of them
pub counted-all : (face : Face) (c : ℕ) (sent : List SentFrom) → length sent ≤ c
    → counted_on face c sent ≡ length (sent_on face sent)
counted-all face c sent over =
    ap (λ (ds : List SentFrom). length (sent_on face ds)) (take_all c sent over)

take-next : {X : Type 0} (xs : List X) (k : ℕ) (x : X) → slice_get xs k ≡ Some x
    → take (k + 1) xs ≡ take k xs ++ x ∷ []
take-next xs k x is = ap (λ (m : ℕ). take m xs) one-more ∙ by xs k x is
  where
    one-more : k + 1 ≡ suc k
    one-more = omega arith

    by : {X : Type 0} (xs : List X) (k : ℕ) (x : X) → slice_get xs k ≡ Some x
        → take (suc k) xs ≡ take k xs ++ x ∷ []
    by [] k x is = absurd (cc)
    by (y ∷ xs) zero x is = let same : y ≡ x = cc in ap (λ z. z ∷ []) same
    by (y ∷ xs) (suc k) x is = ap (λ zs. y ∷ zs) (by xs k x is)

-- the next one is of this link
pub counted-here : (face : Face) (c : ℕ) (sent : List SentFrom) (d : SentFrom)
    → slice_get sent c ≡ Some d → link_of d.from ≡ face
    → counted_on face (c + 1) sent ≡ counted_on face c sent + 1
unfolding on_link
counted-here face c sent d is on =
    ap (λ (ds : List SentFrom). length (sent_on face ds)) (take-next sent c d is)
    ∙ (ap length (on-more face (take c sent) (d ∷ []))
    ∙ (ap (λ (f : Face). length (sent_on face (take c sent) ++ (if_link face f (link_sent d) ++ [])))
    on
    ∙ (ap (λ (ds : List LinkSent). length (sent_on face (take c sent) ++ (ds ++ [])))
    (if-here face (link_sent d)) ∙ one-more (sent_on face (take c sent)) (link_sent d))))
  where
    one-more : (xs : List LinkSent) (x : LinkSent) → length (xs ++ x ∷ []) ≡ length xs + 1
    one-more [] x = refl
    one-more (y ∷ xs) x = omega (arith, one-more xs x)

-- or of the other
pub counted-there : (face : Face) (c : ℕ) (sent : List SentFrom) (d : SentFrom)
    → slice_get sent c ≡ Some d → link_of d.from ≡ other_of face
    → counted_on face (c + 1) sent ≡ counted_on face c sent
unfolding on_link
counted-there face c sent d is on =
    ap (λ (ds : List SentFrom). length (sent_on face ds)) (take-next sent c d is)
    ∙ (ap length (on-more face (take c sent) (d ∷ []))
    ∙ (ap (λ (f : Face). length (sent_on face (take c sent) ++ (if_link face f (link_sent d) ++ [])))
    on
    ∙ (ap (λ (ds : List LinkSent). length (sent_on face (take c sent) ++ (ds ++ [])))
    (if-there face (link_sent d)) ∙ ap length (append-nil (sent_on face (take c sent))))))

pub counted-low : (face : Face) (c : ℕ) (sent : List SentFrom) (d : SentFrom)
    → slice_get sent c ≡ Some d → link_of d.from ≡ face
    → counted_on face c sent < length (sent_on face sent)
counted-low face c sent d is on = slice_get_within (sent_on face sent) (counted_on face c sent)
    (link_sent d) (got-on face sent c d is on)

-- ---- what a step sends

-- what was sent before, and then what the step sends
abbrev pub Sends : Path → PathStep → Type 0
Sends w step = step.path.sent ≡ w.sent ++ step.effects.sent

sends-nothing : (w : Path) → Sends w (record { path = w; effects = nothing_done })
sends-nothing w = sym (append-nil w.sent)

then-sends : (w : Path) (step : PathStep) (next : Path → PathStep) → Sends w step
    → Sends step.path (next step.path) → Sends w (then_does step next)
unfolding then_does
then-sends w step next first later =
    later ∙ (ap (λ (ds : List SentFrom). ds ++ (next step.path).effects.sent) first
    ∙ append_assoc w.sent step.effects.sent (next step.path).effects.sent)

comes-sends : (s : PathSetup) (w : Path) (stand : Stand) (d : SentFrom)
    → Sends w (comes_to s w stand d.segment)
comes-sends s w (at_node end) d = refl
comes-sends s w (at_gate face) d = refl

tick-sends : (s : PathSetup) (w : Path) (now : ℕ) → Sends w (all_tick s now w)
tick-sends s w now =
    then-sends w (node_ticks s now ends.Old (record w { now = now }))
    (λ x. then_does (gate_does x (ticks_gate s.gate now x.gate)) (node_ticks s now ends.New)) refl
    (then-sends first (gate_does first (ticks_gate s.gate now first.gate))
    (node_ticks s now ends.New) refl refl)
  where
    first : Path
    first = (node_ticks s now ends.Old (record w { now = now })).path

sent-sends : (w : Path) (end : PathEnd) (r : Result EngineStep SubmitFault)
    → Sends w (sent_unless end w r)
sent-sends w end (Err fault) = sends-nothing w
sent-sends w end (Ok step) = refl

pub step-sends : (s : PathSetup) (w : Path) (event : PathEvent) → Sends w (path_step s w event)
unfolding path_step
step-sends s w (sends end block) = sent-sends w end (sends_block s w end block)
step-sends s w (delivers k) = by (slice_get w.sent k)
  where
    by : (got : Option SentFrom) → Sends w (delivers_if s w got)
    by None = sends-nothing w
    by (Some d) = comes-sends s w (stand_of (across d.from)) d
step-sends s w (clock_shows now) = by (nat_lt now w.now)
  where
    by : (back : Bool) → Sends w
        (if back then record { path = w; effects = nothing_done } else all_tick s now w)
    by true = sends-nothing w
    by false = tick-sends s w now
