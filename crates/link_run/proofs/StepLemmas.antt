-- An event that the code makes is that of the definition.

use Rattle.std.proofs.Common.{◌≡◌, ℕ, ◌+◌, ◌-◌, ◌≤◌, Bool, true, false, List, [], ◌∷◌, ◌++◌, length, map, Option, None, Some, Result, Ok, Err, IfOk, if◌then◌else◌, nat_lt, nat_le, refl, sym, ◌∙◌, ap, arith, subst}
use Rattle.std.proofs.lemmas.Bool.{ltb-false}
use Rattle.std.proofs.lemmas.List.{length-append, length-map}
use Rattle.std.specs.List.{slice_get}
use Rattle.edge_traits.specs.declared.status.Status.{Status}
use Rattle.edge_traits.specs.declared.status.Status.TheVariants as statuses
use Rattle.command_frame.specs.Lines.{TurnsAs, ends_run, passes}
use Rattle.ltp_segment.specs.Spelling.{segment_octets}
use Rattle.ltp_segment.specs.Values.{SegmentValue}
use Rattle.ltp_session.specs.declared.name.SessionName.{SessionName}
use Rattle.ltp_session.specs.Engine.{Party, Reply, SubmitFault, arrives, datagram_step, replied_or_stranger, submit_step, submits, tick_out, tick_step}
use Rattle.ltp_session.specs.Views.{headed_all}
use Rattle.ltp_session.specs.World.{Sent as LinkSent}
use Rattle.ltp_session.specs.World.{End as LinkEnd}
use Rattle.ltp_session.specs.World.{Event, World, at_end, clock, deliver, delivered, first_end, happens, other, replies, run, second_end, sent_by, submit, submit_reply, submitted, ticks, unless_refused}
use Rattle.ltp_drain.specs.Effects.{effects_at, submit_effects}
use Rattle.ltp_world.specs.declared.effects.EndEffects.{EndEffects}
use Rattle.ltp_world.specs.Drain.{told_of}
use Rattle.ltp_world.specs.Shows.{link_after}
use Rattle.ltp_world.specs.Steps.{Happens}
use Rattle.ltp_world.specs.Values.{parties_of}
use Rattle.ltp_world.proofs.DrainLemmas.{length-sent, link-on}
use Rattle.contact_plan.specs.Windows.{IsPlan}
use Rattle.window_world.specs.declared.effects.At.{At}
use Rattle.window_world.specs.Drain.{HappenAt}
use Rattle.window_world.specs.Values.{RunsOnContact, WindowValue}
use Rattle.contact_plan.specs.declared.window.Window.{Window}
use Rattle.link_run.specs.Link.{LinkCourse, LinkSetup, LinkState, does, event_turn, if_kept, most_sent, on_link}
use Rattle.link_run.specs.Shows.{StandsOn, Stood, capped}
use Rattle.link_run.specs.WrittenLines.{count_sent, count_timed, octets_sent, told_text}

-- ---- how many are sent

sent-by-length : (end : LinkEnd) (segments : List SegmentValue) → length (sent_by end segments) ≡ length segments
sent-by-length end segments = length-map segments (λ segment. record { from = end; segment = segment })

replies-count : (w : World) (end : LinkEnd) (name : SessionName) (reply : Reply)
    → length (replies w end name (Some reply)).sent ≡ length w.sent + length (map segment_octets (headed_all name reply.out))
replies-count w end name reply =
    let all = length-append w.sent (sent_by end (headed_all name reply.out)) in
    let own = sent-by-length end (headed_all name reply.out) in
    let octets = length-map (headed_all name reply.out) segment_octets in
    omega (arith, all, own, octets)

submit-count : (parties : Party × Party) (w : World) (end : LinkEnd) (block : List ℕ) (red : ℕ)
    → length (happens parties w (submit end block red)).sent ≡ length w.sent + count_sent (map told_of (effects_at parties w (submit end block red)))
unfolding submitted
submit-count parties w end block red = by_test (nat_le red (length block))
  where
    name : SessionName
    name = record { originator = (at_end parties end).own; number = (at_end w.engines end).next }

    by_reply : (r : Result Reply SubmitFault)
        → length (replies w end (record { originator = (at_end parties end).own; number = (at_end w.engines end).next }) (unless_refused r)).sent
        ≡ length w.sent + count_sent (map told_of (submit_effects end (submit_step (at_end parties end) (at_end w.engines end) r)))
    by_reply (Ok reply) = replies-count w end (record { originator = (at_end parties end).own; number = (at_end w.engines end).next }) reply ∙ omega arith
    by_reply (Err fault) = omega arith

    by_test : (b : Bool)
        → length (if b then replies w end (record { originator = (at_end parties end).own; number = (at_end w.engines end).next }) (submit_reply parties w end block red) else w).sent
        ≡ length w.sent + count_sent (map told_of (if b then submit_effects end (submit_step (at_end parties end) (at_end w.engines end) (submits (at_end parties end) (at_end w.engines end) block red w.now)) else []))
    by_test true = by_reply (submits (at_end parties end) (at_end w.engines end) block red w.now)
    by_test false = omega arith

deliver-count : (parties : Party × Party) (w : World) (k : ℕ)
    → length (happens parties w (deliver k)).sent ≡ length w.sent + count_sent (map told_of (effects_at parties w (deliver k)))
unfolding datagram_step
deliver-count parties w k = by_got (slice_get w.sent k)
  where
    by_reply : (d : LinkSent) (r : Option Reply)
        → length (replies w (other d.from) (record { originator = d.segment.originator; number = d.segment.session }) r).sent
        ≡ length w.sent + (length (map segment_octets (replied_or_stranger (at_end w.engines (other d.from)) (record { originator = d.segment.originator; number = d.segment.session }) r).effects.out) + 0)
    by_reply d None = omega arith
    by_reply d (Some reply) = replies-count w (other d.from) (record { originator = d.segment.originator; number = d.segment.session }) reply ∙ omega arith

    by_got : (got : Option LinkSent)
        → length (delivered parties w got).sent ≡ length w.sent + count_sent (map told_of (Rattle.ltp_drain.specs.Effects.deliver_effects parties w got))
    by_got None = omega arith
    by_got (Some d) = by_reply d (arrives (at_end parties (other d.from)) (at_end w.engines (other d.from)) d.segment w.now)

tick-count : (parties : Party × Party) (w : World) (now : ℕ)
    → length (happens parties w (clock now)).sent ≡ length w.sent + count_sent (map told_of (effects_at parties w (clock now)))
unfolding ticks tick_step
tick-count parties w now = by_test (nat_lt now w.now)
  where
    first : List SegmentValue
    first = tick_out parties.0 w.engines.0 now

    second : List SegmentValue
    second = tick_out parties.1 w.engines.1 now

    both : length ((w.sent ++ sent_by first_end (tick_out parties.0 w.engines.0 now)) ++ sent_by second_end (tick_out parties.1 w.engines.1 now))
        ≡ length w.sent + (length (map segment_octets (tick_out parties.0 w.engines.0 now)) + (length (map segment_octets (tick_out parties.1 w.engines.1 now)) + 0))
    both =
        let a = length-append (w.sent ++ sent_by first_end (tick_out parties.0 w.engines.0 now)) (sent_by second_end (tick_out parties.1 w.engines.1 now)) in
        let b = length-append w.sent (sent_by first_end (tick_out parties.0 w.engines.0 now)) in
        let c = sent-by-length first_end (tick_out parties.0 w.engines.0 now) in
        let d = sent-by-length second_end (tick_out parties.1 w.engines.1 now) in
        let e = length-map (tick_out parties.0 w.engines.0 now) segment_octets in
        let f = length-map (tick_out parties.1 w.engines.1 now) segment_octets in
        omega (arith, a, b, c, d, e, f)

    by_test : (b : Bool)
        → length (if b then w else ticks parties now second_end (ticks parties now first_end w)).sent
        ≡ length w.sent + count_sent (map told_of (if b then [] else record { end = first_end; effects = (tick_step parties.0 w.engines.0 now).effects }
        ∷ record { end = second_end; effects = (tick_step parties.1 w.engines.1 now).effects } ∷ []))
    by_test true = omega arith
    by_test false = both

pub event-count : (parties : Party × Party) (w : World) (event : Event)
    → length (happens parties w event).sent ≡ length w.sent + count_sent (map told_of (effects_at parties w event))
event-count parties w (submit end block red) = submit-count parties w end block red
event-count parties w (deliver k) = deliver-count parties w k
event-count parties w (clock now) = tick-count parties w now

-- of events
pub events-count : (plan : List Window) (parties : Party × Party) (w : World) (events : List Event) (ats : List At) → HappenAt plan parties w events ats
    → length (run parties w events).sent ≡ length w.sent + count_timed ats
events-count plan parties w [] [] are = omega arith
events-count plan parties w [] (u ∷ us) are = absurd are
events-count plan parties w (x ∷ xs) [] are = absurd are
events-count plan parties w (x ∷ xs) (u ∷ us) are =
    let rest = events-count plan parties (happens parties w x) xs us are.2 in
    let one = event-count parties w x in
    let told = ap (λ (es : List EndEffects). count_sent es) are.1 in
    omega (arith, rest, one, told)

-- ---- an event

-- the link after it
pub world-on : (v v' : WindowValue) (octets : ℕ) (s : LinkSetup) (c : LinkCourse) (event : Event) (stands : StandsOn v octets s c) → Happens v.link v'.link event
    → happens s.parties c.world event ≡ link_after v'.link (stands.events ++ event ∷ [])
world-on v v' octets s c event stands does =
    ap (λ (ps : Party × Party). happens ps c.world event) stands.parties
    ∙ (ap (λ (w : World). happens (parties_of v.link) w event) stands.world
    ∙ sym (link-on v.link v'.link stands.events (event ∷ []) does.parties))

pub stands-on : (v v' : WindowValue) (octets octets' : ℕ) (s : LinkSetup) (c : LinkCourse) (event : Event) (moment : ℕ) (stands : StandsOn v octets s c)
    → Happens v.link v'.link event → v'.spent ≡ false → RunsOnContact v' → v'.plan ≡ v.plan → v'.moment ≡ moment → (n : ℕ) → n ≡ octets' → octets' ≤ most_sent
    → StandsOn v' octets' s (record { world = happens s.parties c.world event; moment = moment; octets = n })
stands-on v v' octets octets' s c event moment stands does whole contact plan moved n same few = record {
  whole = whole;
  parties = stands.parties ∙ sym does.parties;
  timed = stands.timed;
  plan = stands.plan ∙ sym plan;
  is_plan = subst IsPlan (sym plan) stands.is_plan;
  moment = sym moved;
  contact = (contact whole).1;
  events = stands.events ++ event ∷ [];
  shows = does.run stands.events stands.shows;
  world = world-on v v' octets s c event stands does;
  sent = same;
  few = few;
}

-- how many were sent before it
pub sent-before : (v v' : WindowValue) (octets : ℕ) (s : LinkSetup) (c : LinkCourse) (event : Event) (stands : StandsOn v octets s c) → Happens v.link v'.link event
    → length v'.link.sent ≡ length c.world.sent + count_sent (map told_of (effects_at s.parties c.world event))
sent-before v v' octets s c event stands does =
    length-sent v'.link (link_after v'.link (stands.events ++ event ∷ [])) (does.run stands.events stands.shows).link
    ∙ (ap (λ (w : World). length w.sent) (sym (world-on v v' octets s c event stands does)) ∙ event-count s.parties c.world event)

capped-few : (a b : ℕ) → a ≡ b → (nat_lt most_sent a ≡ false) → (a ≡ capped b) × (capped b ≤ most_sent)
capped-few a b same few = let low = ltb-false most_sent a few in (omega (arith, same, low), omega (arith, same, low))

-- what an event did was written, unless it passed the limit
pub done_turn : (E : Type 0) (v v' : WindowValue) (octets octets' : ℕ) (s : LinkSetup) (c : LinkCourse) (event : Event) (moment sent : ℕ) (tolds : List EndEffects)
    (result : Result (Option Status) E) (before now : List ℕ) (stands : StandsOn v octets s c)
    → Happens v.link v'.link event → v'.spent ≡ false → RunsOnContact v' → v'.plan ≡ v.plan → v'.moment ≡ moment → sent ≡ length v'.link.sent
    → tolds ≡ map told_of (effects_at s.parties c.world event) → octets' ≡ capped (octets + octets_sent tolds)
    → ((state : LinkState) → count_sent tolds ≤ sent
    → IfOk result (TurnsAs (λ x. x ≡ state) (if_kept (octets + octets_sent tolds) (told_text (sent - count_sent tolds) tolds) state) before now))
    → IfOk result (TurnsAs (Stood v' octets') (event_turn s c event moment) before now)
done_turn E v v' octets octets' s c event moment sent tolds (Err e) before now stands did whole contact plan moved sent_is tolds_are counted told = tt
done_turn E v v' octets octets' s c event moment sent tolds (Ok ends) before now stands did whole contact plan moved sent_is tolds_are counted told =
    subst (λ (es : List EndEffects). TurnsAs (Stood v' octets') (does s c es (happens s.parties c.world event) moment) before now ends) tolds_are (by_test (nat_lt most_sent (c.octets + octets_sent tolds)) refl)
  where
    counts : sent ≡ length c.world.sent + count_sent tolds
    counts = sent_is ∙ (sent-before v v' octets s c event stands did ∙ ap (λ (es : List EndEffects). length c.world.sent + count_sent es) (sym tolds_are))

    turns : TurnsAs (λ x. x ≡ (on_link s (record { world = happens s.parties c.world event; moment = moment; octets = c.octets + octets_sent tolds }))) (if_kept (c.octets + octets_sent tolds) (told_text (length c.world.sent) tolds) (on_link s (record { world = happens s.parties c.world event; moment = moment; octets = c.octets + octets_sent tolds }))) before now ends
    turns =
        subst (λ n. TurnsAs (λ x. x ≡ (on_link s (record { world = happens s.parties c.world event; moment = moment; octets = c.octets + octets_sent tolds }))) (if_kept (c.octets + octets_sent tolds) (told_text n tolds) (on_link s (record { world = happens s.parties c.world event; moment = moment; octets = c.octets + octets_sent tolds }))) before now ends)
        (let c1 = counts in omega (arith, c1))
        (subst (λ n. TurnsAs (λ x. x ≡ (on_link s (record { world = happens s.parties c.world event; moment = moment; octets = c.octets + octets_sent tolds }))) (if_kept (n + octets_sent tolds) (told_text (sent - count_sent tolds) tolds) (on_link s (record { world = happens s.parties c.world event; moment = moment; octets = c.octets + octets_sent tolds }))) before now ends) (sym stands.sent)
        (told (on_link s (record { world = happens s.parties c.world event; moment = moment; octets = c.octets + octets_sent tolds })) (let c1 = counts in omega (arith, c1))))

    by_ends : (due : Option Status) → nat_lt most_sent (c.octets + octets_sent tolds) ≡ false
        → TurnsAs (λ x. x ≡ (on_link s (record { world = happens s.parties c.world event; moment = moment; octets = c.octets + octets_sent tolds }))) (passes (told_text (length c.world.sent) tolds) (on_link s (record { world = happens s.parties c.world event; moment = moment; octets = c.octets + octets_sent tolds }))) before now due
        → TurnsAs (Stood v' octets') (passes (told_text (length c.world.sent) tolds) (on_link s (record { world = happens s.parties c.world event; moment = moment; octets = c.octets + octets_sent tolds }))) before now due
    by_ends None few (added, same) =
        let caps = capped-few (c.octets + octets_sent tolds) (octets + octets_sent tolds) (ap (λ n. n + octets_sent tolds) stands.sent) few in
        (added, stands-on v v' octets octets' s c event moment stands did whole contact plan moved (c.octets + octets_sent tolds) (caps.0 ∙ sym counted) (subst (λ n. n ≤ most_sent) (sym counted) caps.1))
    by_ends (Some status) few never = never

    by_status : (due : Option Status) → TurnsAs (λ x. x ≡ (on_link s (record { world = happens s.parties c.world event; moment = moment; octets = c.octets + octets_sent tolds }))) (ends_run [] statuses.Limit) before now due → TurnsAs (Stood v' octets') (ends_run [] statuses.Limit) before now due
    by_status None never = never
    by_status (Some status) is = is

    by_test : (b : Bool) → nat_lt most_sent (c.octets + octets_sent tolds) ≡ b → TurnsAs (Stood v' octets') (does s c tolds (happens s.parties c.world event) moment) before now ends
    by_test true is = rw is (by_status ends (subst (λ b. TurnsAs (λ x. x ≡ (on_link s (record { world = happens s.parties c.world event; moment = moment; octets = c.octets + octets_sent tolds }))) (if b then ends_run [] statuses.Limit else passes (told_text (length c.world.sent) tolds) (on_link s (record { world = happens s.parties c.world event; moment = moment; octets = c.octets + octets_sent tolds }))) before now ends) is turns))
    by_test false is = rw is (by_ends ends is (subst (λ b. TurnsAs (λ x. x ≡ (on_link s (record { world = happens s.parties c.world event; moment = moment; octets = c.octets + octets_sent tolds }))) (if b then ends_run [] statuses.Limit else passes (told_text (length c.world.sent) tolds) (on_link s (record { world = happens s.parties c.world event; moment = moment; octets = c.octets + octets_sent tolds }))) before now ends) is turns))
