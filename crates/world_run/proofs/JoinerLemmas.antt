-- What an end's joiner answers in a run, it answers to the fragments that come to that end.
use Rattle.std.proofs.Common.{◌≡◌, ℕ, Bool, true, false, nat_lt, List, [], ◌∷◌, ◌++◌, map, Option, None, Some, Result, Ok, Err, refl, sym, ap, ◌∙◌, append_assoc, if◌then◌else◌}
use Rattle.std.specs.Prelude.{slice_get}
use Rattle.bundle_meaning.specs.declared.full.Full.{Full}
use Rattle.fragments.specs.declared.join.Join.{Join}
use Rattle.fragments.specs.Again.{answer, after}
use Rattle.ltp_segment.specs.Values.{SegmentValue}
use Rattle.ltp_session.specs.Engine.{EngineStep, SubmitFault, UpValue, datagram_step, list_of, tick_step}
use Rattle.gate_cases.specs.declared.face.Face.{Face}
use Rattle.gate_cases.specs.declared.face.Face.TheVariants as faces
use Rattle.gate_cases.specs.Blocks.{found_at}
use Rattle.gateway_core.specs.declared.effects.FaceUp.{FaceUp}
use Rattle.gateway_core.specs.Gate.{GateStep, arrives_at, ticks_gate}
use Rattle.path_laws.specs.declared.effects.EndJoin.{EndJoin}
use Rattle.path_laws.specs.declared.effects.JoinAt.{JoinAt}
use Rattle.path_laws.specs.declared.effects.UpAt.{UpAt}
use Rattle.path_laws.specs.declared.places.PathEnd.{PathEnd}
use Rattle.path_laws.specs.declared.places.PathEnd.TheVariants as ends
use Rattle.path_laws.specs.Places.{Stand, across, at_gate, at_node, face_of, node_place, stand_of}
use Rattle.path_laws.specs.Path.{PathSetup, Path, PathStep, PathEvent, SentFrom, all_tick, at_path_end, clock_shows, comes_to, delivers, delivers_if, end_joins, fragment_found, fragments_in, gate_does, gate_up, join_from, joins_then, joins_told, node_does, node_ticks, path_step, sends, sends_block, sent_unless, starts_path, then_does, up_from}
use Rattle.path_laws.specs.Log.{ups_in}
use Rattle.world_run.specs.Headline.{JoinsFragments, answers_at, blocks_at, is_node, joins_in}

-- ---- lists

answers-more : (end : PathEnd) (xs ys : List JoinAt) → answers_at end (xs ++ ys) ≡ answers_at end xs ++ answers_at end ys
unfolding answers_at
answers-more end [] ys = refl
answers-more end (x ∷ xs) ys = by (is_node end x.place) (answers-more end xs ys)
  where
    by : (t : Bool) → answers_at end (xs ++ ys) ≡ answers_at end xs ++ answers_at end ys
        → (if t then x.answer ∷ answers_at end (xs ++ ys) else answers_at end (xs ++ ys))
        ≡ (if t then x.answer ∷ answers_at end xs else answers_at end xs) ++ answers_at end ys
    by true rest = ap (λ (zs : List EndJoin). x.answer ∷ zs) rest
    by false rest = rest

blocks-more : (end : PathEnd) (xs ys : List UpAt) → blocks_at end (xs ++ ys) ≡ blocks_at end xs ++ blocks_at end ys
unfolding blocks_at
blocks-more end [] ys = refl
blocks-more end (x ∷ xs) ys = by (is_node end x.place) (blocks-more end xs ys)
  where
    by : (t : Bool) → blocks_at end (xs ++ ys) ≡ blocks_at end xs ++ blocks_at end ys
        → (if t then x.body ∷ blocks_at end (xs ++ ys) else blocks_at end (xs ++ ys))
        ≡ (if t then x.body ∷ blocks_at end xs else blocks_at end xs) ++ blocks_at end ys
    by true rest = ap (λ (zs : List (List ℕ)). x.body ∷ zs) rest
    by false rest = rest

fragments-more : (face : Face) (xs ys : List (List ℕ)) → fragments_in face (xs ++ ys) ≡ fragments_in face xs ++ fragments_in face ys
unfolding fragments_in
fragments-more face [] ys = refl
fragments-more face (x ∷ xs) ys =
    ap (λ (fs : List Full). list_of (fragment_found face (found_at face x)) ++ fs) (fragments-more face xs ys)
    ∙ sym (append_assoc (list_of (fragment_found face (found_at face x))) (fragments_in face xs) (fragments_in face ys))

told-more : (face : Face) (joins : List Join) (xs ys : List Full)
    → joins_told face joins (xs ++ ys) ≡ joins_told face joins xs ++ joins_told face (joins_then joins xs) ys
unfolding joins_told joins_then
told-more face joins [] ys = refl
told-more face joins (x ∷ xs) ys =
    ap (λ (es : List EndJoin). end_joins face (answer joins x) ++ es) (told-more face (after joins x) xs ys)
    ∙ sym (append_assoc (end_joins face (answer joins x)) (joins_told face (after joins x) xs) (joins_told face (joins_then (after joins x) xs) ys))

then-more : (joins : List Join) (xs ys : List Full) → joins_then joins (xs ++ ys) ≡ joins_then (joins_then joins xs) ys
unfolding joins_then
then-more joins [] ys = refl
then-more joins (x ∷ xs) ys = then-more (after joins x) xs ys

-- ---- at a node

own-answers : (end : PathEnd) (xs : List EndJoin) → answers_at end (map (join_from (node_place end)) xs) ≡ xs
unfolding answers_at
own-answers end [] = refl
own-answers ends.Old (x ∷ xs) = ap (λ (es : List EndJoin). x ∷ es) (own-answers ends.Old xs)
own-answers ends.New (x ∷ xs) = ap (λ (es : List EndJoin). x ∷ es) (own-answers ends.New xs)

own-blocks : (end : PathEnd) (ups : List UpValue) → blocks_at end (map (up_from (node_place end)) ups) ≡ map (λ up. up.body) ups
unfolding blocks_at
own-blocks end [] = refl
own-blocks ends.Old (x ∷ xs) = ap (λ (bs : List (List ℕ)). x.body ∷ bs) (own-blocks ends.Old xs)
own-blocks ends.New (x ∷ xs) = ap (λ (bs : List (List ℕ)). x.body ∷ bs) (own-blocks ends.New xs)

-- of the other end
abbrev other : PathEnd → PathEnd
other ends.Old = ends.New
other ends.New = ends.Old

other-answers : (end : PathEnd) (xs : List EndJoin) → answers_at end (map (join_from (node_place (other end))) xs) ≡ []
unfolding answers_at
other-answers end [] = refl
other-answers ends.Old (x ∷ xs) = other-answers ends.Old xs
other-answers ends.New (x ∷ xs) = other-answers ends.New xs

other-blocks : (end : PathEnd) (ups : List UpValue) → blocks_at end (map (up_from (node_place (other end))) ups) ≡ []
unfolding blocks_at
other-blocks end [] = refl
other-blocks ends.Old (x ∷ xs) = other-blocks ends.Old xs
other-blocks ends.New (x ∷ xs) = other-blocks ends.New xs

gate-blocks : (end : PathEnd) (ups : List FaceUp) → blocks_at end (map gate_up ups) ≡ []
unfolding blocks_at
gate-blocks end [] = refl
gate-blocks end (up ∷ ups) = by end up.face (gate-blocks end ups)
  where
    by : (e : PathEnd) (face : Face) → blocks_at e (map gate_up ups) ≡ []
        → blocks_at e (gate_up (record { face = face; session = up.session; body = up.body }) ∷ map gate_up ups) ≡ []
    by ends.Old faces.Old rest = rest
    by ends.Old faces.New rest = rest
    by ends.New faces.Old rest = rest
    by ends.New faces.New rest = rest

-- ---- a step

-- the fragments among the blocks that a step hands up at an end
abbrev come : PathEnd → List UpAt → List Full
come end ups = fragments_in (face_of end) (blocks_at end ups)

-- an end's joiner answers these, from where it was, and stands where they lead it
record Joins (end : PathEnd) (w : Path) (step : PathStep) : Type 0 where
  answers : answers_at end step.effects.joins ≡ joins_told (face_of end) (at_path_end w.joins end) (come end step.effects.ups)
  stands : at_path_end step.path.joins end ≡ joins_then (at_path_end w.joins end) (come end step.effects.ups)

joins-both : (end : PathEnd) (w : Path) (step : PathStep) (next : Path → PathStep) → Joins end w step → Joins end step.path (next step.path)
    → Joins end w (then_does step next)
unfolding then_does
joins-both end w step next first second =
    let more = (next step.path).effects in
    let from = at_path_end w.joins end in
    let fs = come end step.effects.ups in
    let gs = come end more.ups in
    let all : come end (step.effects.ups ++ more.ups) ≡ fs ++ gs =
    ap (fragments_in (face_of end)) (blocks-more end step.effects.ups more.ups)
    ∙ fragments-more (face_of end) (blocks_at end step.effects.ups) (blocks_at end more.ups) in
    record {
      answers = answers-more end step.effects.joins more.joins
          ∙ ap (λ (es : List EndJoin). es ++ answers_at end more.joins) first.answers
          ∙ ap (λ (es : List EndJoin). joins_told (face_of end) from fs ++ es)
          (second.answers ∙ ap (λ (js : List Join). joins_told (face_of end) js gs) first.stands)
          ∙ sym (told-more (face_of end) from fs gs) ∙ ap (joins_told (face_of end) from) (sym all);
      stands = second.stands ∙ ap (λ (js : List Join). joins_then js gs) first.stands
          ∙ sym (then-more from fs gs) ∙ ap (joins_then from) (sym all);
    }

joins-none : (end : PathEnd) (w : Path) (step : PathStep) → step.effects.joins ≡ [] → blocks_at end step.effects.ups ≡ []
    → step.path.joins ≡ w.joins → Joins end w step
unfolding answers_at fragments_in joins_told joins_then
joins-none end w step none empty same = record {
  answers = rw (none, empty) refl;
  stands = rw (empty, same) refl;
}

-- what a node's engine does, its joiner takes
own-joins : (end : PathEnd) (w : Path) (step : EngineStep)
    → at_path_end (node_does end w step).path.joins end
    ≡ joins_then (at_path_end w.joins end) (fragments_in (face_of end) (map (λ up. up.body) step.effects.ups))
    → Joins end w (node_does end w step)
own-joins end w step leads =
    let from = at_path_end w.joins end in
    let same = own-blocks end step.effects.ups in
    record {
      answers = own-answers end (joins_told (face_of end) from (fragments_in (face_of end) (map (λ up. up.body) step.effects.ups)))
          ∙ ap (λ (bs : List (List ℕ)). joins_told (face_of end) from (fragments_in (face_of end) bs)) (sym same);
      stands = leads ∙ ap (λ (bs : List (List ℕ)). joins_then from (fragments_in (face_of end) bs)) (sym same);
    }

-- and the other end's doesn't
other-joins : (end : PathEnd) (w : Path) (step : EngineStep)
    → at_path_end (node_does (other end) w step).path.joins end ≡ at_path_end w.joins end
    → Joins end w (node_does (other end) w step)
unfolding fragments_in joins_told joins_then
other-joins end w step same =
    let none = other-blocks end step.effects.ups in
    record {
      answers = other-answers end (joins_told (face_of (other end)) (at_path_end w.joins (other end)) (fragments_in (face_of (other end)) (map (λ up. up.body) step.effects.ups)))
          ∙ ap (λ (bs : List (List ℕ)). joins_told (face_of end) (at_path_end w.joins end) (fragments_in (face_of end) bs)) (sym none);
      stands = same ∙ ap (λ (bs : List (List ℕ)). joins_then (at_path_end w.joins end) (fragments_in (face_of end) bs)) (sym none);
    }

joins-node : (end from : PathEnd) (w : Path) (step : EngineStep) → Joins end w (node_does from w step)
joins-node ends.Old ends.Old w step = own-joins ends.Old w step refl
joins-node ends.New ends.New w step = own-joins ends.New w step refl
joins-node ends.Old ends.New w step = other-joins ends.Old w step refl
joins-node ends.New ends.Old w step = other-joins ends.New w step refl

joins-gate : (end : PathEnd) (w : Path) (step : GateStep) → Joins end w (gate_does w step)
joins-gate end w step = joins-none end w (gate_does w step) refl (gate-blocks end step.effects.ups) refl

nothing-joins : (end : PathEnd) (w : Path) → blocks_at end [] ≡ []
unfolding blocks_at
nothing-joins end w = refl

-- ---- an event

joins-sent : (end from : PathEnd) (w : Path) (r : Result EngineStep SubmitFault) → Joins end w (sent_unless from w r)
joins-sent end from w (Ok step) = joins-node end from w step
joins-sent end from w (Err fault) = joins-none end w (sent_unless from w (Err fault)) refl (nothing-joins end w) refl

joins-comes : (s : PathSetup) (end : PathEnd) (w : Path) (stand : Stand) (segment : SegmentValue) → Joins end w (comes_to s w stand segment)
joins-comes s end w (at_node from) segment =
    joins-node end from w (datagram_step (at_path_end s.nodes from) (at_path_end w.nodes from) (Ok segment) w.now)
joins-comes s end w (at_gate face) segment = joins-gate end w (arrives_at s.gate face (Ok segment) w.now w.gate)

joins-delivers : (s : PathSetup) (end : PathEnd) (w : Path) (d : Option SentFrom) → Joins end w (delivers_if s w d)
joins-delivers s end w None = joins-none end w (delivers_if s w None) refl (nothing-joins end w) refl
joins-delivers s end w (Some d) = joins-comes s end w (stand_of (across d.from)) d.segment

joins-ticks : (s : PathSetup) (now : ℕ) (end from : PathEnd) (w : Path) → Joins end w (node_ticks s now from w)
joins-ticks s now end from w = joins-node end from w (tick_step (at_path_end s.nodes from) (at_path_end w.nodes from) now)

joins-clock : (s : PathSetup) (now : ℕ) (end : PathEnd) (w : Path) → Joins end w (all_tick s now w)
joins-clock s now end w =
    let shown : Path = record w { now = now } in
    let first = joins-ticks s now end ends.Old shown in
    let own : Joins end w (node_ticks s now ends.Old shown) = record { answers = first.answers; stands = first.stands } in
    joins-both end w (node_ticks s now ends.Old shown)
    (λ x. then_does (gate_does x (ticks_gate s.gate now x.gate)) (node_ticks s now ends.New)) own
    (joins-both end (node_ticks s now ends.Old shown).path
    (gate_does (node_ticks s now ends.Old shown).path (ticks_gate s.gate now (node_ticks s now ends.Old shown).path.gate)) (node_ticks s now ends.New)
    (joins-gate end (node_ticks s now ends.Old shown).path (ticks_gate s.gate now (node_ticks s now ends.Old shown).path.gate))
    (joins-ticks s now end ends.New
    (gate_does (node_ticks s now ends.Old shown).path (ticks_gate s.gate now (node_ticks s now ends.Old shown).path.gate)).path))

joins-step : (s : PathSetup) (end : PathEnd) (w : Path) (event : PathEvent) → Joins end w (path_step s w event)
unfolding path_step
joins-step s end w (sends from block) = joins-sent end from w (sends_block s w from block)
joins-step s end w (delivers k) = joins-delivers s end w (slice_get w.sent k)
joins-step s end w (clock_shows now) = by (nat_lt now w.now)
  where
    by : (t : Bool) → Joins end w (if t then record { path = w; effects = record { sent = []; ups = []; joins = []; notes = [] } } else all_tick s now w)
    by true = joins-none end w _ refl (nothing-joins end w) refl
    by false = joins-clock s now end w

-- ---- a run

joined-from : (s : PathSetup) (end : PathEnd) (w : Path) (events : List PathEvent)
    → answers_at end (joins_in s w events) ≡ joins_told (face_of end) (at_path_end w.joins end) (come end (ups_in s w events))
unfolding answers_at blocks_at fragments_in joins_told joins_in ups_in
joined-from s end w [] = refl
joined-from s end w (event ∷ events) =
    let step = path_step s w event in
    let first = joins-step s end w event in
    let rest = joined-from s end step.path events in
    let from = at_path_end w.joins end in
    let fs = come end step.effects.ups in
    let gs = come end (ups_in s step.path events) in
    let all : come end (step.effects.ups ++ ups_in s step.path events) ≡ fs ++ gs =
    ap (fragments_in (face_of end)) (blocks-more end step.effects.ups (ups_in s step.path events))
    ∙ fragments-more (face_of end) (blocks_at end step.effects.ups) (blocks_at end (ups_in s step.path events)) in
    answers-more end step.effects.joins (joins_in s step.path events)
    ∙ ap (λ (es : List EndJoin). es ++ answers_at end (joins_in s step.path events)) first.answers
    ∙ ap (λ (es : List EndJoin). joins_told (face_of end) from fs ++ es)
    (rest ∙ ap (λ (js : List Join). joins_told (face_of end) js gs) first.stands)
    ∙ sym (told-more (face_of end) from fs gs) ∙ ap (joins_told (face_of end) from) (sym all)

pub all_joined : (s : PathSetup) (start : ℕ) (events : List PathEvent) (end : PathEnd)
    → JoinsFragments end (ups_in s (starts_path s start) events) (joins_in s (starts_path s start) events)
all_joined s start events end = by end
  where
    by : (e : PathEnd) → JoinsFragments e (ups_in s (starts_path s start) events) (joins_in s (starts_path s start) events)
    by ends.Old = joined-from s ends.Old (starts_path s start) events
    by ends.New = joined-from s ends.New (starts_path s start) events
