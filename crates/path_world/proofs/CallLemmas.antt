-- The calls of a path world.

use Rattle.std.proofs.Common.{◌≡◌, ℕ, ◌≤◌, Bool, false, List, [], ◌++◌, length, Result, Ok, Err, refl, sym, ap, ◌∙◌, subst, arith, nat_lt}
use Rattle.std.proofs.lemmas.Bool.Decides.{nat_tests}
use Rattle.ltp_engine.specs.declared.effects.Effects.{Effects}
use Rattle.ltp_engine.specs.declared.refused.SubmitRefused.{SubmitRefused}
use Rattle.ltp_engine.specs.declared.refused.SubmitRefused.TheVariants as causes
use Rattle.ltp_engine.specs.Effects.{effects_of}
use Rattle.ltp_engine.specs.Shows.{Shows}
use Rattle.ltp_engine.specs.Values.{EngineValue}
use Rattle.fragments.specs.Joining.{Joining}
use Rattle.ltp_engine.specs.Steps.{IsSent, IsFault, IsNoFault}
use Rattle.ltp_session.specs.Engine.{Engine, EngineStep, SubmitFault, submits, submit_step}
use Rattle.path_laws.specs.declared.effects.EndJoin.{EndJoin}
use Rattle.path_laws.specs.declared.effects.PathEffects.{PathEffects}
use Rattle.path_laws.specs.declared.places.PathEnd.{PathEnd}
use Rattle.path_laws.specs.declared.places.PathEnd.TheVariants as ends
use Rattle.path_laws.specs.Path.{Path, PathSetup, PathEvent, sends, clock_shows, at_path_end, node_ticks, sends_block, sent_unless, nothing_done, then_does, path_step, fragments_in, joins_then, joins_told}
use Rattle.path_laws.specs.Places.{node_place, face_of}
use Rattle.path_laws.proofs.ChunkLemmas.{sends-no-up}
use Rattle.path_world.specs.declared.node.Node.{Node}
use Rattle.path_world.specs.declared.parts.Parts.{Parts}
use Rattle.path_world.specs.declared.sent.Sent.{Sent}
use Rattle.path_world.specs.Shows.{ShowsPath, ShowsRun, AreBounded, path_after}
use Rattle.path_world.specs.Steps.{Stays, OfSend}
use Rattle.path_world.specs.Ties.{NodeSubmitsAt, OtherStays, bodies_of, sent_from, node_told, both_told, value_of, live, setup_in, nodes_in, with_sent, IsKept, IsWhole, Does, Did, PartsSend, gate_ticks}
use Rattle.path_world.specs.Values.{PathValue, setup_of, numbered}
use Rattle.path_world.proofs.StepLemmas.{NodeStepped, StepOf, node-step, does-then, moment-shows, sent-kept}
use Rattle.path_world.proofs.RunLemmas.{StepShown, happens-by, stays-by, did-so}

-- ---- the clock goes on

not_less : (a b : ℕ) → b ≤ a → nat_lt a b ≡ false
not_less a b is = grind (arith, nat_tests)

-- the three steps, from the moment on
all-ticked : (m b c d : Parts) (now : ℕ) (old gate new rest all : PathEffects) → m.moment ≡ now → Does m b (node_ticks (setup_in m) m.moment ends.Old) old
    → Does b c (gate_ticks (setup_in b) b.moment) gate → Does c d (node_ticks (setup_in c) c.moment ends.New) new → rest ≡ both_told gate new → all ≡ both_told old rest
    → Does m d (λ w. then_does (node_ticks (setup_in m) now ends.Old w) (λ x. then_does (gate_ticks (setup_in m) now x) (node_ticks (setup_in m) now ends.New))) all
all-ticked m b c d now old gate new rest all at first second third rest_is all_is =
    does-then m b d (node_ticks (setup_in m) now ends.Old) (λ s x. then_does (gate_ticks s now x) (node_ticks s now ends.New)) old rest all
    (subst (λ n. Does m b (node_ticks (setup_in m) n ends.Old) old) at first)
    (does-then b c d (gate_ticks (setup_in b) now) (λ s. node_ticks s now ends.New) gate new rest
    (subst (λ n. Does b c (gate_ticks (setup_in b) n) gate) (first.moment ∙ at) second)
    (subst (λ n. Does c d (node_ticks (setup_in c) n ends.New) new) (second.moment ∙ (first.moment ∙ at)) third) rest_is)
    all_is

pub clock-happened : (a b c d : Parts) (now : ℕ) (old gate new rest all : PathEffects) → IsWhole a → a.moment ≤ now
    → Does (record a { moment = now }) b (node_ticks (setup_in (record a { moment = now })) now ends.Old) old
    → Does b c (gate_ticks (setup_in b) b.moment) gate → Does c d (node_ticks (setup_in c) c.moment ends.New) new → rest ≡ both_told gate new → all ≡ both_told old rest
    → Did a d (clock_shows now) all
unfolding path_step
clock-happened a b c d now old gate new rest all whole later first second third rest_is all_is =
    did-so a d (clock_shows now) all whole ticked.kept (happens-by (live a) (live d) (clock_shows now) all refl ticked.setup each)
  where
    m : Parts
    m = record a { moment = now }

    ticked : Does (record a { moment = now }) d (λ w. then_does (node_ticks (setup_in a) now ends.Old w) (λ x. then_does (gate_ticks (setup_in a) now x) (node_ticks (setup_in a) now ends.New))) all
    ticked = all-ticked (record a { moment = now }) b c d now old gate new rest all refl first second third rest_is all_is

    each : (start : ℕ) (events : List PathEvent) → ShowsRun (live a) start events → StepShown (live a) (live d) (path_step (setup_in a) (path_after (live a) start events) (clock_shows now)) all
    each start events shows =
        let w : Path = record (path_after (live a) start events) { now = now } in
        let shown = moment-shows a (path_after (live a) start events) now shows.path in
        rw (not_less now (path_after (live a) start events).now (subst (λ n. n ≤ now) (sym shows.path.now) later))
        (record { shows = ticked.next w shown; told = ticked.told w shown })

-- ---- an end sends

-- what the engine promises of each engine that it stands for, on a path
at-path : (P : Result EngineStep SubmitFault → Type 0) (end : PathEnd) (a : Parts) (w : Path) (block : List ℕ) (now : ℕ) → ShowsPath (live a) w → now ≡ a.moment
    → ((e : Engine) → Shows (at_path_end (nodes_in a) end).engine e
    → P (submit_step (at_path_end (nodes_in a) end).engine.party e (submits (at_path_end (nodes_in a) end).engine.party e block (length block) now)))
    → P (sends_block (setup_in a) w end block)
at-path P ends.Old a w block now shows at each =
    subst (λ n. P (submit_step a.old_node.engine.party w.nodes.0 (submits a.old_node.engine.party w.nodes.0 block (length block) n))) (at ∙ sym shows.now) (each w.nodes.0 shows.old_node)
at-path P ends.New a w block now shows at each =
    subst (λ n. P (submit_step a.new_node.engine.party w.nodes.1 (submits a.new_node.engine.party w.nodes.1 block (length block) n))) (at ∙ sym shows.now) (each w.nodes.1 shows.new_node)

no-fault : (effects : Effects) (v : EngineValue) (r : Result EngineStep SubmitFault) → IsSent v effects r → IsNoFault r
no-fault effects v (Ok step) sent = tt
no-fault effects v (Err fault) sent = absurd sent

-- a block that is sent hands nothing up
no-ups : (end : PathEnd) (s : PathSetup) (w : Path) (block : List ℕ) (step : EngineStep) → sends_block s w end block ≡ Ok step → step.effects.ups ≡ []
no-ups end s w block step is = sends-no-up (at_path_end s.nodes end) (at_path_end w.nodes end) block (length block) w.now step is

no-joins : (end : PathEnd) (effects : Effects) (step : EngineStep) → effects ≡ effects_of step.effects → step.effects.ups ≡ [] → fragments_in (face_of end) (bodies_of effects.ups) ≡ []
unfolding fragments_in
no-joins end effects step is none = ap (λ (e : Effects). fragments_in (face_of end) (bodies_of e.ups)) is ∙ rw none refl

-- the node of an end submitted a block, and what it sent is kept and told
node-sent : (end : PathEnd) (a b : Parts) (w : Path) (block : List ℕ) (now : ℕ) (effects : Effects) → ShowsPath (live a) w
    → NodeSubmitsAt end (nodes_in a) (nodes_in b) block now (Ok effects) → NodeStepped end a b
    → (r : Result EngineStep SubmitFault) → sends_block (setup_in a) w end block ≡ r → IsSent (at_path_end (nodes_in b) end).engine effects r
    → StepOf a (with_sent b (sent_from (node_place end) effects.out)) (sent_unless end w r)
    (node_told (node_place end) (numbered (length a.sent) (sent_from (node_place end) effects.out)) effects.ups [] effects.notes)
unfolding joins_then joins_told
node-sent end a b w block now effects shows did same (Err fault) is sent = absurd sent
node-sent end a b w block now effects shows did same (Ok step) is sent =
    let none = no-joins end effects step sent.1 (no-ups end (setup_in a) w block step is) in
    node-step end a (with_sent b (sent_from (node_place end) effects.out)) w step effects [] shows
    (record {
      other = did.other;
      gate = same.gate;
      moment = same.moment;
      sent = ap (λ ds. ds ++ sent_from (node_place end) effects.out) same.sent;
    })
    (record {
      shows = sent.0;
      effects_are = sent.1;
      joins = rw none (ap (λ (j : Joining). j.joins) did.submits.joiner);
      tells = rw none refl;
    })

submits-setup : (end : PathEnd) (a b : Parts) (block : List ℕ) (now : ℕ) (effects : Effects) → NodeSubmitsAt end (nodes_in a) (nodes_in b) block now (Ok effects)
    → b.gate ≡ a.gate → setup_in b ≡ setup_in a
submits-setup ends.Old a b block now effects did gate = rw (did.submits.submits.party, did.other, gate) refl
submits-setup ends.New a b block now effects did gate = rw (did.submits.submits.party, did.other, gate) refl

submits-kept : (end : PathEnd) (a b : Parts) (block : List ℕ) (now : ℕ) (effects : Effects) → NodeSubmitsAt end (nodes_in a) (nodes_in b) block now (Ok effects)
    → NodeStepped end a b → IsKept a → IsKept b
submits-kept ends.Old a b block now effects did same kept = record {
  old_node = did.submits.whole did.submits.submits.whole;
  new_node = rw did.other kept.new_node;
  gate = rw same.gate kept.gate;
  gate_bounds = rw same.gate kept.gate_bounds;
  moment = rw same.moment kept.moment;
}
submits-kept ends.New a b block now effects did same kept = record {
  old_node = rw did.other kept.old_node;
  new_node = did.submits.whole did.submits.submits.whole;
  gate = rw same.gate kept.gate;
  gate_bounds = rw same.gate kept.gate_bounds;
  moment = rw same.moment kept.moment;
}

sends-no-fault : (end : PathEnd) (a : Parts) (v : EngineValue) (block : List ℕ) (now : ℕ) (effects : Effects) → now ≡ a.moment
    → ((e : Engine) → Shows (at_path_end (nodes_in a) end).engine e
    → IsSent v effects (submit_step (at_path_end (nodes_in a) end).engine.party e (submits (at_path_end (nodes_in a) end).engine.party e block (length block) now)))
    → OfSend IsNoFault (live a) end block
sends-no-fault end a v block now effects at each start events shows =
    at-path IsNoFault end a (path_after (live a) start events) block now shows.path at (λ e shown. no-fault effects v _ (each e shown))

pub send-sent : (end : PathEnd) (a b c : Parts) (block : List ℕ) (now : ℕ) (effects : Effects) (joins : List EndJoin) (told : PathEffects) → IsWhole a → now ≡ a.moment
    → NodeSubmitsAt end (nodes_in a) (nodes_in b) block now (Ok effects) → NodeStepped end a b → c ≡ with_sent b (sent_from (node_place end) effects.out)
    → joins ≡ [] → told ≡ node_told (node_place end) (numbered (length b.sent) (sent_from (node_place end) effects.out)) effects.ups joins effects.notes
    → PartsSend a c end block (Ok told)
unfolding path_step
send-sent end a b c block now effects joins told whole at did same c_is none told_is = (
  subst (λ x. Did a x (sends end block) told) (sym c_is)
      (did-so a after (sends end block) told whole (sent-kept b (sent_from (node_place end) effects.out) (submits-kept end a b block now effects did same whole.kept))
      (happens-by (live a) (live after) (sends end block) told refl (submits-setup end a b block now effects did same.gate) each)),
  sends-no-fault end a (at_path_end (nodes_in b) end).engine block now effects at did.submits.submits.next,
) where
  after : Parts
  after = with_sent b (sent_from (node_place end) effects.out)

  tells : told ≡ node_told (node_place end) (numbered (length a.sent) (sent_from (node_place end) effects.out)) effects.ups [] effects.notes
  tells =
      told_is
      ∙ (ap (λ (ds : List Sent). node_told (node_place end) (numbered (length ds) (sent_from (node_place end) effects.out)) effects.ups joins effects.notes) same.sent
      ∙ ap (λ js. node_told (node_place end) (numbered (length a.sent) (sent_from (node_place end) effects.out)) effects.ups js effects.notes) none)

  each : (start : ℕ) (events : List PathEvent) → ShowsRun (live a) start events → StepShown (live a) (live after) (sent_unless end (path_after (live a) start events) (sends_block (setup_in a) (path_after (live a) start events) end block)) told
  each start events shows =
      let w : Path = path_after (live a) start events in
      let sent = at-path (IsSent (at_path_end (nodes_in b) end).engine effects) end a w block now shows.path at did.submits.submits.next in
      let so = node-sent end a b w block now effects shows.path did same (sends_block (setup_in a) w end block) refl sent in
      record { shows = so.shows; told = tells ∙ so.told }

-- what was sent couldn't be kept
pub send-unkept : (end : PathEnd) (a : Parts) (news : Node × Node) (block : List ℕ) (now : ℕ) (effects : Effects) → now ≡ a.moment
    → NodeSubmitsAt end (nodes_in a) news block now (Ok effects) → PartsSend a a end block (Err causes.Memory)
send-unkept end a news block now effects at did = sends-no-fault end a (at_path_end news end).engine block now effects at did.submits.submits.next

same-node : (x y : Node) → x.engine ≡ y.engine → x.joiner ≡ y.joiner → x ≡ y
same-node x y engine joiner = rw (engine, joiner) refl

same-parts : (end : PathEnd) (a : Parts) (news : Node × Node) → OtherStays end (nodes_in a) news → at_path_end news end ≡ at_path_end (nodes_in a) end
    → record a { old_node = news.0; new_node = news.1 } ≡ a
same-parts ends.Old a news there here = rw (here, there) refl
same-parts ends.New a news there here = rw (here, there) refl

faulty : (end : PathEnd) (a : Parts) (news : Node × Node) (block : List ℕ) (now : ℕ) (cause : SubmitRefused) → now ≡ a.moment → OtherStays end (nodes_in a) news
    → (at_path_end news end).joiner ≡ (at_path_end (nodes_in a) end).joiner
    → ((at_path_end news end).engine ≡ (at_path_end (nodes_in a) end).engine)
    × ((e : Engine) → Shows (at_path_end (nodes_in a) end).engine e
    → IsFault cause (submit_step (at_path_end (nodes_in a) end).engine.party e (submits (at_path_end (nodes_in a) end).engine.party e block (length block) now)))
    → (record a { old_node = news.0; new_node = news.1 } ≡ a) × OfSend (IsFault cause) (live a) end block
faulty end a news block now cause at other joiner (engine, each) = (
  same-parts end a news other (same-node (at_path_end news end) (at_path_end (nodes_in a) end) engine joiner),
  λ start events shows. at-path (IsFault cause) end a (path_after (live a) start events) block now shows.path at each,
)

pub send-refused : (end : PathEnd) (a : Parts) (news : Node × Node) (block : List ℕ) (now : ℕ) (cause : SubmitRefused) → now ≡ a.moment
    → NodeSubmitsAt end (nodes_in a) news block now (Err cause) → PartsSend a (record a { old_node = news.0; new_node = news.1 }) end block (Err cause)
send-refused end a news block now causes.Empty at did = faulty end a news block now causes.Empty at did.other did.submits.joiner did.submits.submits
send-refused end a news block now causes.TooLarge at did = faulty end a news block now causes.TooLarge at did.other did.submits.joiner did.submits.submits
send-refused end a news block now causes.NumbersSpent at did = faulty end a news block now causes.NumbersSpent at did.other did.submits.joiner did.submits.submits
send-refused end a news block now causes.Busy at did = faulty end a news block now causes.Busy at did.other did.submits.joiner did.submits.submits
send-refused end a news block now causes.Memory at did =
    λ start events shows. at-path IsNoFault end a (path_after (live a) start events) block now shows.path at did.submits.submits.1

-- ---- what a caller sees

-- a send that is refused leaves the world, and counts as an event at which nothing happens
pub fault-stays : (v : PathValue) (end : PathEnd) (block : List ℕ) (cause : SubmitRefused) → v.spent ≡ false → OfSend (IsFault cause) v end block → Stays v v (sends end block)
unfolding path_step
fault-stays v end block cause whole faults = stays-by v (sends end block) whole (λ start events shows.
    by (path_after v start events) (sends_block (setup_of v) (path_after v start events) end block) (faults start events shows))
  where
    by : (w : Path) (r : Result EngineStep SubmitFault) → IsFault cause r → sent_unless end w r ≡ record { path = w; effects = nothing_done }
    by w (Ok step) fault = absurd fault
    by w (Err other) fault = refl

pub kept-bounded : (spent : Bool) (p : Parts) → IsKept p → AreBounded (value_of spent p)
kept-bounded spent p kept = record {
  old_node = kept.old_node.bounds;
  new_node = kept.new_node.bounds;
  gate = kept.gate_bounds;
  old_joins = kept.old_node.joiner.bounds;
  new_joins = kept.new_node.joiner.bounds;
}
