-- A block passes as its bundles do in turn, and then its end.

use Rattle.std.proofs.Common.{◌≡◌, ℕ, Bool, true, false, if◌then◌else◌, List, [], ◌∷◌, ◌++◌, map, Option, Some, None, refl, sym, ap, ◌∙◌, append_assoc}
use Rattle.std.specs.List.{flat_map}
use Rattle.std.proofs.lemmas.List.{append-nil, map-append}
use Rattle.gate_cases.specs.declared.face.Face.{Face}
use Rattle.gate_cases.specs.declared.report.AskedReport.{AskedReport}
use Rattle.block_types.specs.declared.losing.LeftOut.{LeftOut}
use Rattle.bundle_rows.specs.declared.next.End.{End}
use Rattle.bundle_rows.specs.Rows.{row_of}
use Rattle.gateway_core.specs.Gate.{RoutedValue, at_face}
use Rattle.peer_cases.specs.Arrivals.{Came}
use Rattle.peer_cases.specs.declared.decision.Decision.{Decision}
use Rattle.peer_cases.specs.Cases.{is_unreported}
use Rattle.peer_cases.specs.Rows.{Item, a_bundle, an_end, came_in, bundles_in, items_of}
use Rattle.peer_cases.specs.Laws.{placeless, end_items}
use Rattle.peer_cases.proofs.RowLemmas.{row_in_turn}
use Rattle.peer_gateway.specs.Keys.{PeerSetup}
use Rattle.peer_gateway.specs.Gate.{PeerMoments, PeerGate, PeerEffects, PeerStep, FaceTold, AddedAt, BegunAt, no_effects, with_more, stays_so, and_then, in_turn, tells, room_at, told_unreported}
use Rattle.peer_gateway.specs.Steps.{tells_left, report_piece, reports, answers, decides, decided_at, passes_came, passes_item}
use Rattle.peer_gateway.specs.Laws.{told_without, without_places, tells_end, RowsPassInTurn}

-- ---- one step after another

abbrev pub effects_of : List RoutedValue → List Bool → List FaceTold → List AddedAt → List BegunAt → PeerEffects
effects_of out puts told added begun = record { out = out; puts = puts; told = told; added = added; begun = begun }

more-assoc : (a b c : PeerEffects) → with_more (with_more a b) c ≡ with_more a (with_more b c)
more-assoc a b c =
    rw (
      append_assoc a.out b.out c.out,
      append_assoc a.puts b.puts c.puts,
      append_assoc a.told b.told c.told,
      append_assoc a.added b.added c.added,
      append_assoc a.begun b.begun c.begun,
    ) refl

more-none : (a : PeerEffects) → with_more a no_effects ≡ a
more-none a = rw (append-nil a.out, append-nil a.puts, append-nil a.told, append-nil a.added, append-nil a.begun) refl

none-more : (a : PeerEffects) → with_more no_effects a ≡ a
none-more a = refl

abbrev pub step_of : PeerGate → PeerEffects → PeerStep
step_of g effects = record { gate = g; effects = effects }

then-assoc : (step : PeerStep) (next last : PeerGate → PeerStep)
    → and_then (and_then step next) last ≡ and_then step (λ g. and_then (next g) last)
unfolding and_then
then-assoc step next last =
    let second = next step.gate in
    let third = last second.gate in
    ap (step_of third.gate) (more-assoc step.effects second.effects third.effects)

then-nothing : (step : PeerStep) → and_then step stays_so ≡ step
unfolding and_then
then-nothing step = ap (step_of step.gate) (more-none step.effects)

nothing-then : (next : PeerGate → PeerStep) (g : PeerGate) → and_then (stays_so g) next ≡ next g
unfolding and_then
nothing-then next g = ap (step_of (next g).gate) (none-more (next g).effects)

-- what follows depends on the gate alone
then-same : (step : PeerStep) (next other : PeerGate → PeerStep) → next step.gate ≡ other step.gate → and_then step next ≡ and_then step other
unfolding and_then
then-same step next other is =
    ap (λ (more : PeerStep). step_of more.gate (with_more step.effects more.effects)) is

-- ---- but for places

-- two steps, where the places are left out of what each tells
abbrev pub joined : PeerStep → PeerStep → PeerStep
joined first more = step_of more.gate (with_more first.effects more.effects)

without-then : (first : PeerStep) (next : PeerGate → PeerStep)
    → without_places (and_then first next) ≡ joined (without_places first) (without_places (next first.gate))
unfolding and_then
without-then first next =
    let second = next first.gate in
    ap (λ (told : List FaceTold). step_of second.gate
    (effects_of ((first.effects).out ++ (second.effects).out) ((first.effects).puts ++ (second.effects).puts) told ((first.effects).added ++ (second.effects).added) ((first.effects).begun ++ (second.effects).begun)))
    (map-append told_without (first.effects).told (second.effects).told)

-- steps that are the same but for places, one after the other
both-same : (first other : PeerStep) (next last : PeerGate → PeerStep) → without_places first ≡ without_places other
    → ((g : PeerGate) → without_places (next g) ≡ without_places (last g))
    → without_places (and_then first next) ≡ without_places (and_then other last)
both-same first other next last one more =
    without-then first next
    ∙ (ap (joined (without_places first)) (more first.gate)
    ∙ (ap (λ (step : PeerStep). joined step (without_places (last step.gate))) one
    ∙ sym (without-then other last)))

left-same : (face : Face) (index : Option ℕ) (session : ℕ) (left : Option LeftOut) (g : PeerGate)
    → without_places (tells_left face index session left g) ≡ without_places (tells_left face None session left g)
left-same face index session None g = refl
left-same face index session (Some left) g = refl

reports-same : (s : PeerSetup) (face : Face) (m : PeerMoments) (index : Option ℕ) (session : ℕ) (asked : AskedReport) (g : PeerGate)
    → without_places (reports s face m index session (report_piece s m asked g) g)
    ≡ without_places (reports s face m None session (report_piece s m asked g) g)
reports-same s face m index session asked g = both-same _ _ _ _ refl (λ h. refl)

answers-same : (s : PeerSetup) (face : Face) (m : PeerMoments) (index : Option ℕ) (session : ℕ) (asked : Option AskedReport) (g : PeerGate)
    → without_places (answers s face m index session asked g) ≡ without_places (answers s face m None session asked g)
unfolding answers
answers-same s face m index session None g = refl
answers-same s face m index session (Some asked) g =
    by (is_unreported (room_at (at_face s.keys face) (at_face g.faces face)) (report_piece s m asked g).size m.wall g.counter)
  where
    by : (t : Bool)
        → without_places (if t then tells face (told_unreported index session) g else reports s face m index session (report_piece s m asked g) g)
        ≡ without_places (if t then tells face (told_unreported None session) g else reports s face m None session (report_piece s m asked g) g)
    by true = refl
    by false = reports-same s face m index session asked g

decides-same : (s : PeerSetup) (face : Face) (m : PeerMoments) (index : Option ℕ) (session : ℕ) (d : Decision) (g : PeerGate)
    → without_places (decides s face m index session d g) ≡ without_places (decides s face m None session d g)
unfolding decides
decides-same s face m index session d g =
    both-same _ _ _ _ refl (λ h.
    both-same _ _ _ _ refl (λ i.
    both-same _ _ _ _ (left-same face index session d.left i) (λ j. answers-same s face m index session d.report j)))

came-same : (s : PeerSetup) (face : Face) (m : PeerMoments) (index : Option ℕ) (session : ℕ) (came : Option Came) (g : PeerGate)
    → without_places (passes_came s face m index session came g) ≡ without_places (passes_came s face m None session came g)
came-same s face m index session None g = refl
came-same s face m index session (Some came) g = decides-same s face m index session (decided_at s face m came g) g

item-same : (s : PeerSetup) (face : Face) (m : PeerMoments) (session : ℕ) (item : Item) (g : PeerGate)
    → without_places (passes_item s face m session item g) ≡ without_places (passes_item s face m session (placeless item) g)
item-same s face m session (a_bundle index octets) g =
    both-same _ _ _ _ refl (λ h. came-same s face m index session (came_in s.settings face octets) h)
item-same s face m session (an_end index end) g = refl

-- ---- items in turn

abbrev pub items_pass : PeerSetup → Face → PeerMoments → ℕ → List Item → PeerGate → PeerStep
items_pass s face m session items g = in_turn (passes_item s face m session) items g

placeless-same : (s : PeerSetup) (face : Face) (m : PeerMoments) (session : ℕ) (items : List Item) (g : PeerGate)
    → without_places (items_pass s face m session items g) ≡ without_places (items_pass s face m session (map placeless items) g)
unfolding in_turn
placeless-same s face m session [] g = refl
placeless-same s face m session (item ∷ items) g =
    let rest = placeless-same s face m session items in
    both-same _ _ _ _ (item-same s face m session item g) rest

append-pass : (s : PeerSetup) (face : Face) (m : PeerMoments) (session : ℕ) (first more : List Item) (g : PeerGate)
    → items_pass s face m session (first ++ more) g ≡ and_then (items_pass s face m session first g) (items_pass s face m session more)
unfolding in_turn
append-pass s face m session [] more g = sym (nothing-then (items_pass s face m session more) g)
append-pass s face m session (item ∷ first) more g =
    let one = passes_item s face m session item g in
    let rest = append-pass s face m session first more one.gate in
    then-same one (items_pass s face m session (first ++ more))
    (λ h. and_then (items_pass s face m session first h) (items_pass s face m session more)) rest
    ∙ sym (then-assoc one (items_pass s face m session first) (items_pass s face m session more))

-- the rows of bundles, one after the other
bundles-pass : (s : PeerSetup) (face : Face) (m : PeerMoments) (session : ℕ) (bundles : List (List ℕ)) (g : PeerGate)
    → items_pass s face m session (flat_map (items_of face) bundles) g
    ≡ in_turn (λ (octets : List ℕ). items_pass s face m session (items_of face octets)) bundles g
unfolding in_turn
bundles-pass s face m session [] g = refl
bundles-pass s face m session (octets ∷ bundles) g =
    let one = items_pass s face m session (items_of face octets) g in
    let rest = bundles-pass s face m session bundles one.gate in
    append-pass s face m session (items_of face octets) (flat_map (items_of face) bundles) g
    ∙ then-same one (items_pass s face m session (flat_map (items_of face) bundles))
    (in_turn (λ (octets : List ℕ). items_pass s face m session (items_of face octets)) bundles) rest

-- an end is told
end-pass : (s : PeerSetup) (face : Face) (m : PeerMoments) (session : ℕ) (end : Option End) (g : PeerGate)
    → items_pass s face m session (end_items end) g ≡ tells_end face session end g
unfolding in_turn
end-pass s face m session None g = refl
end-pass s face m session (Some end) g = then-nothing (passes_item s face m session (an_end None end) g)

pub rows_pass_in_turn : RowsPassInTurn
rows_pass_in_turn s face m session block g fits =
    let bundles = flat_map (items_of face) (bundles_in face block) in
    let end = (row_of face block).end in
    let first = items_pass s face m session bundles g in
    let row = append-pass s face m session bundles (end_items end) g
    ∙ (then-same first (items_pass s face m session (end_items end)) (tells_end face session end) (end-pass s face m session end first.gate)
    ∙ ap (λ (step : PeerStep). and_then step (tells_end face session end)) (bundles-pass s face m session (bundles_in face block) g)) in
    placeless-same s face m session (items_of face block) g
    ∙ (ap (λ (items : List Item). without_places (items_pass s face m session items g)) (row_in_turn face block fits).turn
    ∙ ap without_places row)
