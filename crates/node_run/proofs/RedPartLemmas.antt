-- What a node hands up is what its engine hands up.
use Rattle.std.proofs.Common.{◌≡◌, ℕ, length, List, [], ◌∷◌, ◌++◌, Option, None, Some, refl, sym, ap, ◌∙◌}
use Rattle.std.specs.List.{AllByRecursion}
use Rattle.ltp_session.specs.Engine.{Party, Engine, SubmitFault, UpValue, submits, submits_unless, submit_fault, submit_step, tick_step}
use Rattle.ltp_engine.specs.RedParts.{engine_with, ups_with, engine_after, ups_of, unless_faulty, EachOnce}
use Rattle.ltp_laws.proofs.ListLemmas.{all-append}
use Rattle.ltp_engine.specs.RedParts.{HandsUpRedParts as EngineHandsUp, HandsUpEachOnce as EngineHandsUpOnce}
use Rattle.replay_script.specs.declared.event.NodeEvent.{NodeEvent}
use Rattle.replay_script.specs.declared.event.NodeEvent.TheVariants as events
use Rattle.node_run.specs.Node.{NodeState, moment_of, engine_does}
use Rattle.node_run.specs.RedParts.{HandsUpRedParts, HandsUpEachOnce, after_event, node_after, ups_in, ups_at, all_ups, coming_of, clock_after, comings_of}
use Rattle.node_run.proofs.OrderLemmas.{all-front, all-rest, once-moved}

-- ---- one event

-- nothing is handed up with a block
no_ups-unless : (p : Party) (e : Engine) (block : List ℕ) (red now : ℕ) (fault : Option SubmitFault)
    → [] ≡ ups_in (submit_step p e (submits_unless fault p e block red now))
no_ups-unless p e block red now None = refl
no_ups-unless p e block red now (Some fault) = refl

no_ups : (p : Party) (e : Engine) (block : List ℕ) (red now : ℕ) → [] ≡ ups_in (submit_step p e (submits p e block red now))
unfolding submits
no_ups p e block red now = no_ups-unless p e block red now (submit_fault p e block)

ups-same : (p : Party) (e : Engine) (now : ℕ) (event : NodeEvent) → ups_with p e (coming_of now event) ≡ ups_in (engine_does p e now event)
unfolding tick_step
ups-same p e now (events.In datagram) = refl
ups-same p e now (events.Send block) = no_ups p e block (length block) now
ups-same p e now (events.Clock moment) = refl

engine-same : (p : Party) (e : Engine) (now : ℕ) (event : NodeEvent)
    → engine_with p e (coming_of now event) ≡ unless_faulty e (engine_does p e now event)
engine-same p e now (events.In datagram) = refl
engine-same p e now (events.Send block) = refl
engine-same p e now (events.Clock moment) = refl

-- ---- the same after some events

-- an engine and a clock are those of a node
record Tells (p : Party) (e : Engine) (now : ℕ) (node : NodeState) : Type 0 where
  party : node.party ≡ p
  engine : e ≡ node.engine
  clock : now ≡ node.now

module _ (p : Party) (e : Engine) (now : ℕ) (node : NodeState) (event : NodeEvent) (tells : Tells p e now node) where
  ups-told : ups_with p e (coming_of (moment_of now event) event) ≡ ups_at node event
  ups-told =
      ups-same p e (moment_of now event) event
      ∙ (ap (λ x. ups_in (engine_does p x (moment_of now event) event)) tells.engine
      ∙ (ap (λ t. ups_in (engine_does p node.engine (moment_of t event) event)) tells.clock
      ∙ ap (λ q. ups_in (engine_does q node.engine (moment_of node.now event) event)) (sym tells.party)))

  engine-told : engine_with p e (coming_of (moment_of now event) event) ≡ (after_event node event).engine
  engine-told =
      engine-same p e (moment_of now event) event
      ∙ (ap (λ x. unless_faulty x (engine_does p x (moment_of now event) event)) tells.engine
      ∙ (ap (λ t. unless_faulty node.engine (engine_does p node.engine (moment_of t event) event)) tells.clock
      ∙ ap (λ q. unless_faulty node.engine (engine_does q node.engine (moment_of node.now event) event)) (sym tells.party)))

  told : Tells p (engine_with p e (coming_of (moment_of now event) event)) (moment_of now event) (after_event node event)
  told = record {
    party = tells.party;
    engine = engine-told;
    clock = ap (λ t. moment_of t event) tells.clock;
  }

told-after : (p : Party) (events : List NodeEvent) → Tells p (engine_after p (comings_of events)) (clock_after events) (node_after p events)
unfolding engine_after comings_of clock_after node_after
told-after p [] = record { party = refl; engine = refl; clock = refl }
told-after p (event ∷ earlier) =
    let before = told-after p earlier in
    told p (engine_after p (comings_of earlier)) (clock_after earlier) (node_after p earlier) event before

-- ---- the laws

ups-after : (p : Party) (event : NodeEvent) (earlier : List NodeEvent)
    → ups_with p (engine_after p (comings_of earlier)) (coming_of (clock_after (event ∷ earlier)) event) ≡ ups_at (node_after p earlier) event
unfolding clock_after
ups-after p event earlier =
    ups-told p (engine_after p (comings_of earlier)) (clock_after earlier) (node_after p earlier) event (told-after p earlier)

pub hands_up_red_parts : EngineHandsUp → HandsUpRedParts
unfolding comings_of
hands_up_red_parts law p earlier event n body =
    rw (sym (ups-after p event earlier)) (law p n (comings_of earlier) (coming_of (clock_after (event ∷ earlier)) event) body)

-- those that are handed up with some events, those of the newest first
unfoldable newest_first : Party → List NodeEvent → List UpValue
newest_first p [] = []
newest_first p (event ∷ earlier) = ups_at (node_after p earlier) event ++ newest_first p earlier

ups-all : (p : Party) (events : List NodeEvent) → ups_of p (comings_of events) ≡ newest_first p events
unfolding ups_of comings_of newest_first
ups-all p [] = refl
ups-all p (event ∷ earlier) =
    ap (λ ups. ups ++ ups_of p (comings_of earlier)) (ups-after p event earlier)
    ∙ ap (λ ups. ups_at (node_after p earlier) event ++ ups) (ups-all p earlier)

-- in either order they are the same
all-ordered : (p : Party) (events : List NodeEvent) (P : UpValue → Type 0) → AllByRecursion P (newest_first p events) → AllByRecursion P (all_ups p events)
unfolding newest_first all_ups
all-ordered p [] P all = tt
all-ordered p (event ∷ earlier) P all =
    let new : List UpValue = ups_at (node_after p earlier) event in
    all-append P (all_ups p earlier) new
    (all-ordered p earlier P (all-rest P new (newest_first p earlier) all)) (all-front P new (newest_first p earlier) all)

ordered-once : (p : Party) → ((events : List NodeEvent) → EachOnce (newest_first p events)) → (events : List NodeEvent) → EachOnce (all_ups p events)
unfolding newest_first all_ups
ordered-once p once [] = tt
ordered-once p once (event ∷ earlier) =
    once-moved (ups_at (node_after p earlier) event) (newest_first p earlier) (all_ups p earlier) (once (event ∷ earlier))
    (ordered-once p once earlier) (all-ordered p earlier)

pub each_once : EngineHandsUpOnce → HandsUpEachOnce
each_once law p events = ordered-once p (λ es. rw (sym (ups-all p es)) (law p (comings_of es))) events
