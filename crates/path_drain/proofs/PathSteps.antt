-- A clean event of a path that drains: on the link of the segment that is delivered it is the
-- delivery of the oldest there, and then come the blocks that the gate submits; on the other link
-- only these. A clock is one on both links.

use Rattle.std.proofs.Common.{◌^◌, ◌≡◌, ℕ, ◌+◌, ◌<◌, ◌≤◌, List, [], ◌∷◌}
use Rattle.std.proofs.Common.{◌++◌, length, Option, Some, ◌⊎◌, inl, inr, refl}
use Rattle.std.proofs.Common.{sym, ◌∙◌, ap, arith, subst}
use Rattle.std.proofs.lemmas.Option.{slice_get_within}
use Rattle.std.specs.List.{slice_get}
use Rattle.ltp_segment.specs.declared.session.Note.TheVariants as notes
use Rattle.ltp_session.specs.World.{ArePeers, End, Event, World, at_end, clock, deliver}
use Rattle.ltp_session.specs.World.{happens, other, run}
use Rattle.ltp_laws.specs.Log.{Submission, submissions}
use Rattle.ltp_laws.specs.View.{view}
use Rattle.ltp_drain.specs.Calm.{Advances}
use Rattle.ltp_drain.specs.Clean.{link_deadline}
use Rattle.ltp_drain.specs.Effects.{EndEffects, IsHandedUp, IsNoted, deliver_effects, effects_at}
use Rattle.ltp_drain.specs.Hopeful.{AreAlike}
use Rattle.ltp_drain.specs.Standing.{AllAdvance, sum_of}
use Rattle.ltp_drain.proofs.CleanSteps.{IsGoing, earlier-some}
use Rattle.ltp_drain.proofs.DrainRun.{all-still}
use Rattle.gate_cases.specs.declared.face.Face.{Face}
use Rattle.gate_cases.specs.declared.face.Face.TheVariants as faces
use Rattle.gate_cases.specs.Faces.{other_of}
use Rattle.path_laws.specs.declared.effects.NoteAt.{NoteAt}
use Rattle.path_laws.specs.declared.effects.UpAt.{UpAt}
use Rattle.path_laws.specs.Places.{if_link, link_of, on_link}
use Rattle.path_laws.specs.Path.{PathSetup, Path, SentFrom, PathEvent, clock_shows}
use Rattle.path_laws.specs.Path.{delivers, delivers_if, path_step}
use Rattle.path_laws.specs.Log.{Begun, begun_at}
use Rattle.path_laws.specs.Links.{delivery_on, events_at, first_on, link_at, link_engines}
use Rattle.path_laws.specs.Links.{link_parties, sent_on, submit_of, submits_on}
use Rattle.path_laws.proofs.ChunkLemmas.{if-here, if-there, place_at, run-append}
use Rattle.path_laws.proofs.ChunkLemmas.{submissions-append, submissions_on}
use Rattle.path_laws.proofs.RunLemmas.{StepChunk, got-on, step-chunk}
use Rattle.path_drain.specs.RoomKept.{IsRoomyThrough}
use Rattle.path_drain.specs.Clean.{path_deadline, path_passed_after}
use Rattle.path_drain.specs.Effects.{IsNotedSent, IsUpAt}
use Rattle.path_drain.specs.Hopeful.{path_cost}
use Rattle.path_drain.proofs.AdvanceLemmas.{advances-shown}
use Rattle.path_drain.proofs.LinkMoves.{Moves, clock-advances-all, delivery-advances-all}
use Rattle.path_drain.proofs.LinkMoves.{delivery-moves, due-moves, moves-none, quiet-moves}
use Rattle.path_drain.proofs.PathLists.{counted-all, counted-here, counted-low, counted-more}
use Rattle.path_drain.proofs.PathLists.{counted-there, counted_on, step-sends}
use Rattle.path_drain.proofs.ShownLemmas.{handed-shown, heard_at, noted-shown}
use Rattle.path_drain.proofs.SubmitMoves.{AreBegun, AreBlocks, EventMoves}
use Rattle.path_drain.proofs.SubmitMoves.{event-moves}
use Rattle.path_drain.proofs.CleanLemmas.{sent-more}

-- ---- what is kept

-- a drain that began in w0 stands, on both links, in a path of which the first c segments are
-- delivered or lost
pub record PathGoes (s : PathSetup) (w0 w : Path) (c : ℕ) (rank : Face → End → ℕ → ℕ) : Type 0
  where
    pub going : (face : Face) → IsGoing (link_parties s face) (link_at face w)
        (counted_on face c w.sent) (rank face)
    pub before : (face : Face) (o : End) → (at_end (link_engines w0 face) o).next ≤ (at_end
        (link_engines w face) o).next
    pub within : c ≤ length w.sent

-- the engines of both links name each other, and are alike
pub record AreFit (s : PathSetup) : Type 0 where
  pub peers : (face : Face) → ArePeers (link_parties s face)
  pub alike : (face : Face) → AreAlike (link_parties s face)

-- ---- one link

-- what comes first of an event lowers the ranks of a link by k; and what its ends do stands among
-- the effects of the path
record FirstMoves (s : PathSetup) (w0 w : Path) (rank : End → ℕ → ℕ) (face : Face)
    (event : PathEvent) (k c : ℕ) : Type 0 where
  es : List EndEffects
  moves : Moves (link_parties s face) (link_at face w0) (link_at face w) rank k
      (run (link_parties s face) (link_at face w) (first_on face w event)) c
  advances : AllAdvance (link_parties s face) (link_at face w)
      (run (link_parties s face) (link_at face w) (first_on face w event)) es
  none : submissions (link_parties s face) (link_at face w) (first_on face w event) ≡ []
  noted : (o : End) (n : ℕ) → IsNoted es o (notes.Sent n)
      → IsNotedSent (path_step s w event).effects.notes (place_at face o) n
  handed : (o : End) (n : ℕ) → IsHandedUp es o n
      → IsUpAt (path_step s w event).effects.ups (place_at face o) n

-- what becomes of the sessions of a link
abbrev pub FaceAdvance : PathSetup → Face → Path → Path → List NoteAt → List UpAt → Type 0
FaceAdvance s face w w' ns us = (o : End) (n : ℕ)
    → Advances (view (link_parties s face) (link_at face w) o n)
    (view (link_parties s face) (link_at face w') o n) (IsNotedSent ns (place_at face o) n)
    (IsUpAt us (place_at face (other o)) n)

-- what an event leaves of a link
record FaceGoes (s : PathSetup) (w0 w : Path) (rank : End → ℕ → ℕ) (face : Face)
    (event : PathEvent) (k c : ℕ) : Type 0 where
  moves : Moves (link_parties s face) (link_at face w0) (link_at face w) rank k
      (link_at face (path_step s w event).path) c
  advances : FaceAdvance s face w (path_step s w event).path (path_step s w event).effects.notes
      (path_step s w event).effects.ups
  begun : AreBegun (link_parties s face) (link_at face w) (link_at face (path_step s w event).path)
      (submissions_on face (begun_at s w event))

-- the gate submits blocks, all of them red
are-blocks : (face : Face) (begun : List Begun) → AreBlocks (submits_on face begun)
unfolding on_link
are-blocks face [] = tt
are-blocks face (b ∷ begun) = by face (link_of b.place) (are-blocks face begun)
  where
    by : (face at : Face) → AreBlocks (submits_on face begun)
        → AreBlocks (if_link face at (submit_of b) ++ submits_on face begun)
    by faces.Old faces.Old rest = (refl, rest)
    by faces.Old faces.New rest = rest
    by faces.New faces.Old rest = rest
    by faces.New faces.New rest = (refl, rest)

-- what comes first, and then the blocks
face-goes : (s : PathSetup) (w0 w : Path) (rank : End → ℕ → ℕ) (face : Face) (event : PathEvent)
    (k c : ℕ) → AreFit s
    → ((o : End) → (at_end (link_engines w0 face) o).next ≤ (at_end (link_engines w face) o).next)
    → FirstMoves s w0 w rank face event k c
    → IsRoomyThrough (link_parties s face)
    (run (link_parties s face) (link_at face w) (first_on face w event))
    (submits_on face (begun_at s w event))
    → FaceGoes s w0 w rank face event k c
face-goes s w0 w rank face event k c fit before first room = record {
  moves = subst (λ (x : World). Moves (link_parties s face) (link_at face w0) (link_at face w) rank
      k x c) (sym leads) all.moves;
  advances = λ o n. subst (λ (x : World). Advances
      (view (link_parties s face) (link_at face w) o n) (view (link_parties s face) x o n)
      (IsNotedSent (path_step s w event).effects.notes (place_at face o) n)
      (IsUpAt (path_step s w event).effects.ups (place_at face (other o)) n)) (sym leads)
      (advances-shown (all.advances o n) (first.noted o n) (first.handed (other o) n));
  begun = subst (λ (x : World). AreBegun (link_parties s face) (link_at face w) x
      (submissions_on face (begun_at s w event))) (sym leads)
      (subst (λ (log : List Submission). AreBegun (link_parties s face) (link_at face w)
      (run (link_parties s face) v blocks) log) (sym log-is) all.begun);
}
  where
    v : World
    v = run (link_parties s face) (link_at face w) (first_on face w event)

    blocks : List Event
    blocks = submits_on face (begun_at s w event)

    all : EventMoves (link_parties s face) (link_at face w0) (link_at face w) rank k
        (run (link_parties s face)
        (run (link_parties s face) (link_at face w) (first_on face w event))
        (submits_on face (begun_at s w event))) c first.es
        (submissions (link_parties s face)
        (run (link_parties s face) (link_at face w) (first_on face w event))
        (submits_on face (begun_at s w event)))
    all = event-moves (link_parties s face) (link_at face w0) (link_at face w) v rank k c first.es
        blocks (fit.peers face) (fit.alike face) before first.moves first.advances
        (are-blocks face (begun_at s w event)) room

    chunk : StepChunk face s w (path_step s w event) (events_at face s w event)
        (begun_at s w event)
    chunk = step-chunk face s w event

    leads : link_at face (path_step s w event).path ≡ run (link_parties s face)
        (run (link_parties s face) (link_at face w) (first_on face w event))
        (submits_on face (begun_at s w event))
    leads = chunk.runs ∙ run-append (link_parties s face) (link_at face w) (first_on face w event)
        (submits_on face (begun_at s w event))

    log-is : submissions_on face (begun_at s w event) ≡ submissions (link_parties s face)
        (run (link_parties s face) (link_at face w) (first_on face w event))
        (submits_on face (begun_at s w event))
    log-is = chunk.begins
        ∙ (submissions-append (link_parties s face) (link_at face w) (first_on face w event)
        (submits_on face (begun_at s w event))
        ∙ ap (λ (log : List Submission). log ++ submissions (link_parties s face)
        (run (link_parties s face) (link_at face w) (first_on face w event))
        (submits_on face (begun_at s w event))) first.none)

-- ---- what comes first of an event

-- a delivery, on its link
delivery-first : (s : PathSetup) (w0 w : Path) (c : ℕ) (rank : End → ℕ → ℕ) (d : SentFrom)
    → AreFit s → IsGoing (link_parties s (link_of d.from)) (link_at (link_of d.from) w)
    (counted_on (link_of d.from) c w.sent) rank → slice_get w.sent c ≡ Some d
    → FirstMoves s w0 w rank (link_of d.from) (delivers c) 1
    (counted_on (link_of d.from) c w.sent + 1)
unfolding path_step submissions
delivery-first s w0 w c rank d fit going is = record {
  es = effects_at (link_parties s face) (link_at face w) (deliver at);
  moves = subst (λ (events : List Event). Moves (link_parties s face) (link_at face w0)
      (link_at face w) rank 1 (run (link_parties s face) (link_at face w) events) (at + 1))
      (sym first-is)
      (delivery-moves (link_parties s face) (link_at face w0) (link_at face w) at rank
      (fit.peers face) (fit.alike face) going low);
  advances = subst (λ (events : List Event). AllAdvance (link_parties s face) (link_at face w)
      (run (link_parties s face) (link_at face w) events)
      (effects_at (link_parties s face) (link_at face w) (deliver at))) (sym first-is)
      (delivery-advances-all (link_parties s face) (link_at face w) at rank (fit.peers face)
      (fit.alike face) going low);
  none = ap (λ (events : List Event). submissions (link_parties s face) (link_at face w) events)
      first-is;
  noted = λ o n noted. subst (λ (got : Option SentFrom). IsNotedSent
      (delivers_if s w got).effects.notes (place_at face o) n) (sym is)
      (noted-shown s w d o n (subst (λ (es : List EndEffects). IsNoted es o (notes.Sent n)) es-is
      noted));
  handed = λ o n handed. subst (λ (got : Option SentFrom). IsUpAt (delivers_if s w got).effects.ups
      (place_at face o) n) (sym is)
      (handed-shown s w d o n (subst (λ (es : List EndEffects). IsHandedUp es o n) es-is handed));
}
  where
    face : Face
    face = link_of d.from

    at : ℕ
    at = counted_on (link_of d.from) c w.sent

    low : counted_on (link_of d.from) c w.sent < length (sent_on (link_of d.from) w.sent)
    low = counted-low (link_of d.from) c w.sent d is refl

    first-is : first_on (link_of d.from) w (delivers c) ≡ deliver
        (counted_on (link_of d.from) c w.sent) ∷ []
    first-is = ap (λ (got : Option SentFrom). delivery_on (link_of d.from) w.sent c got) is
        ∙ if-here (link_of d.from) (deliver (counted_on (link_of d.from) c w.sent))

    es-is : effects_at (link_parties s (link_of d.from)) (link_at (link_of d.from) w)
        (deliver (counted_on (link_of d.from) c w.sent)) ≡ heard_at s w d ∷ []
    es-is = ap (deliver_effects (link_parties s (link_of d.from)) (link_at (link_of d.from) w))
        (got-on (link_of d.from) w.sent c d is refl)

-- nothing, on the other link
delivery-away : (s : PathSetup) (w0 w : Path) (c at : ℕ) (rank : End → ℕ → ℕ) (d : SentFrom)
    (face : Face) → IsGoing (link_parties s face) (link_at face w) at rank
    → slice_get w.sent c ≡ Some d → link_of d.from ≡ other_of face
    → FirstMoves s w0 w rank face (delivers c) 0 at
unfolding submissions
delivery-away s w0 w c at rank d face going is away = record {
  es = [];
  moves = subst (λ (events : List Event). Moves (link_parties s face) (link_at face w0)
      (link_at face w) rank 0 (run (link_parties s face) (link_at face w) events) at)
      (sym first-is)
      (moves-none (link_parties s face) (link_at face w0) (link_at face w) at rank going);
  advances = subst (λ (events : List Event). AllAdvance (link_parties s face) (link_at face w)
      (run (link_parties s face) (link_at face w) events) []) (sym first-is)
      (all-still (link_parties s face) (link_at face w) []);
  none = ap (λ (events : List Event). submissions (link_parties s face) (link_at face w) events)
      first-is;
  noted = λ o n noted. absurd noted.among;
  handed = λ o n handed. absurd handed.among;
}
  where
    first-is : first_on face w (delivers c) ≡ []
    first-is = ap (λ (got : Option SentFrom). delivery_on face w.sent c got) is
        ∙ (ap (λ (f : Face). if_link face f (deliver (counted_on face c w.sent))) away
        ∙ if-there face (deliver (counted_on face c w.sent)))

-- a clock, where nothing is new
clock-first : (s : PathSetup) (w0 w : Path) (at k : ℕ) (rank : End → ℕ → ℕ) (face : Face)
    (now : ℕ) → AreFit s → IsGoing (link_parties s face) (link_at face w) at rank
    → length (sent_on face w.sent) ≤ at
    → Moves (link_parties s face) (link_at face w0) (link_at face w) rank k
    (happens (link_parties s face) (link_at face w) (clock now)) at
    → FirstMoves s w0 w rank face (clock_shows now) k at
unfolding submissions
clock-first s w0 w at k rank face now fit going over moves = record {
  es = [];
  moves = moves;
  advances = clock-advances-all (link_parties s face) (link_at face w) at rank now (fit.peers face)
      going over;
  none = refl;
  noted = λ o n noted. absurd noted.among;
  handed = λ o n handed. absurd handed.among;
}

-- ---- both links

-- the ranks of all sessions of a path
abbrev pub path_sum : Path → (Face → End → ℕ → ℕ) → ℕ
path_sum w rank = sum_of (link_at faces.Old w) (rank faces.Old) + sum_of (link_at faces.New w)
    (rank faces.New)

-- what an event leaves of a link, so much lower
record AnyGoes (s : PathSetup) (w0 w : Path) (rank : End → ℕ → ℕ) (face : Face)
    (event : PathEvent) (c : ℕ) : Type 0 where
  k : ℕ
  goes : FaceGoes s w0 w rank face event k c

-- what a clean event leaves of a path
pub record PathOn (s : PathSetup) (w0 w : Path) (c : ℕ) (rank : Face → End → ℕ → ℕ)
    (event : PathEvent) : Type 0 where
  pub rank' : Face → End → ℕ → ℕ
  pub goes : PathGoes s w0 (path_step s w event).path (path_passed_after c event) rank'
  pub bound : 1 + path_sum (path_step s w event).path rank' + path_cost s w0 w ≤ path_sum w rank
      + path_cost s w0 (path_step s w event).path
  pub more : (face : Face) (o : End) → (at_end (link_engines w face) o).next ≤ (at_end
      (link_engines (path_step s w event).path face) o).next
  -- where nothing is begun
  pub falls : ((face : Face) (o : End) → (at_end (link_engines (path_step s w event).path face)
      o).next ≡ (at_end (link_engines w face) o).next)
      → 1 + path_sum (path_step s w event).path rank' ≤ path_sum w rank
  pub numbers : ((face : Face) (o : End) → (at_end (link_engines w face) o).next ≤ 2 ^ 32)
      → (face : Face) (o : End)
      → (at_end (link_engines (path_step s w event).path face) o).next ≤ 2 ^ 32
  pub advances : (face : Face) → FaceAdvance s face w (path_step s w event).path
      (path_step s w event).effects.notes (path_step s w event).effects.ups
  pub begun : (face : Face) → AreBegun (link_parties s face) (link_at face w)
      (link_at face (path_step s w event).path) (submissions_on face (begun_at s w event))

both-go : (s : PathSetup) (w0 w : Path) (c : ℕ) (rank : Face → End → ℕ → ℕ) (event : PathEvent)
    → PathGoes s w0 w c rank
    → path_passed_after c event ≤ length (path_step s w event).path.sent
    → (each : (face : Face) → AnyGoes s w0 w (rank face) face event
    (counted_on face (path_passed_after c event) (path_step s w event).path.sent))
    → 1 ≤ (each faces.Old).k + (each faces.New).k → PathOn s w0 w c rank event
both-go s w0 w c rank event goes within each some = record {
  rank' = λ face. (each face).goes.moves.rank';
  goes = record {
    going = λ face. (each face).goes.moves.going;
    before = λ face o. omega (arith, goes.before face o, (each face).goes.moves.next o);
    within = within;
  };
  bound = omega (
    arith,
    some,
    (each faces.Old).goes.moves.bound,
    (each faces.New).goes.moves.bound,
  );
  more = λ face. (each face).goes.moves.next;
  falls = λ same. omega (
    arith,
    some,
    (each faces.Old).goes.moves.falls (same faces.Old),
    (each faces.New).goes.moves.falls (same faces.New),
  );
  numbers = λ low face. (each face).goes.moves.numbers (low face);
  advances = λ face. (each face).goes.advances;
  begun = λ face. (each face).goes.begun;
}

-- what holds of a face and of the other one holds of each
abbrev either_one : (P : Face → Type 0) (face : Face) → P face → P (other_of face)
    → (each : Face) → P each
either_one P faces.Old here there faces.Old = here
either_one P faces.Old here there faces.New = there
either_one P faces.New here there faces.Old = there
either_one P faces.New here there faces.New = here

-- an event on one link counts
counts : (P : Face → Type 0) (k : (face : Face) → P face → ℕ) (face : Face) (here : P face)
    (there : P (other_of face)) → 1 ≤ k face here
    → 1 ≤ k faces.Old (either_one P face here there faces.Old) + k faces.New
    (either_one P face here there faces.New)
counts P k faces.Old here there some = omega (arith, some)
counts P k faces.New here there some = omega (arith, some)

-- it counts as the path does
face-as : (s : PathSetup) (w0 w : Path) (rank : End → ℕ → ℕ) (face : Face) (event : PathEvent)
    (k c c' : ℕ) → c' ≡ c → FaceGoes s w0 w rank face event k c
    → FaceGoes s w0 w rank face event k c'
face-as s w0 w rank face event k c c' same goes =
    subst (λ (c : ℕ). FaceGoes s w0 w rank face event k c) (sym same) goes

-- how many of a link are delivered or lost after an event
counted-after : (s : PathSetup) (w : Path) (event : PathEvent) (face : Face) (c : ℕ)
    → c ≤ length w.sent
    → counted_on face c (path_step s w event).path.sent ≡ counted_on face c w.sent
counted-after s w event face c low =
    ap (λ (ds : List SentFrom). counted_on face c ds) (step-sends s w event)
    ∙ counted-more face c w.sent (path_step s w event).effects.sent low

-- ---- a delivery

-- room is left on both links after each block that an event submits
abbrev pub LeavesRoom : PathSetup → Path → PathEvent → Type 0
LeavesRoom s w event = (face : Face) → IsRoomyThrough (link_parties s face)
    (run (link_parties s face) (link_at face w) (first_on face w event))
    (submits_on face (begun_at s w event))

pub delivery-on : (s : PathSetup) (w0 w : Path) (c : ℕ) (rank : Face → End → ℕ → ℕ)
    (d : SentFrom) → AreFit s → PathGoes s w0 w c rank → slice_get w.sent c ≡ Some d
    → LeavesRoom s w (delivers c) → PathOn s w0 w c rank (delivers c)
delivery-on s w0 w c rank d fit goes is room =
    both-go s w0 w c rank (delivers c) goes
    (omega (arith, low, sent-more s w (delivers c)))
    (either_one P (link_of d.from) here there)
    (counts P (λ face any. any.k) (link_of d.from) here there (omega arith))
  where
    P : Face → Type 0
    P face = AnyGoes s w0 w (rank face) face (delivers c)
        (counted_on face (c + 1) (path_step s w (delivers c)).path.sent)

    low : c < length w.sent
    low = slice_get_within w.sent c d is

    here : AnyGoes s w0 w (rank (link_of d.from)) (link_of d.from) (delivers c)
        (counted_on (link_of d.from) (c + 1) (path_step s w (delivers c)).path.sent)
    here = record {
      k = 1;
      goes = face-as s w0 w (rank (link_of d.from)) (link_of d.from) (delivers c) 1
          (counted_on (link_of d.from) c w.sent + 1) _
          (counted-after s w (delivers c) (link_of d.from) (c + 1) (omega (arith, low))
          ∙ counted-here (link_of d.from) c w.sent d is refl)
          (face-goes s w0 w (rank (link_of d.from)) (link_of d.from) (delivers c) 1
          (counted_on (link_of d.from) c w.sent + 1) fit (goes.before (link_of d.from))
          (delivery-first s w0 w c (rank (link_of d.from)) d fit (goes.going (link_of d.from)) is)
          (room (link_of d.from)));
    }

    away : link_of d.from ≡ other_of (other_of (link_of d.from))
    away = twice (link_of d.from)
      where
        twice : (face : Face) → face ≡ other_of (other_of face)
        twice faces.Old = refl
        twice faces.New = refl

    there : AnyGoes s w0 w (rank (other_of (link_of d.from))) (other_of (link_of d.from))
        (delivers c)
        (counted_on (other_of (link_of d.from)) (c + 1) (path_step s w (delivers c)).path.sent)
    there = record {
      k = 0;
      goes = face-as s w0 w (rank (other_of (link_of d.from))) (other_of (link_of d.from))
          (delivers c) 0 (counted_on (other_of (link_of d.from)) c w.sent) _
          (counted-after s w (delivers c) (other_of (link_of d.from)) (c + 1) (omega (arith, low))
          ∙ counted-there (other_of (link_of d.from)) c w.sent d is away)
          (face-goes s w0 w (rank (other_of (link_of d.from))) (other_of (link_of d.from))
          (delivers c) 0 (counted_on (other_of (link_of d.from)) c w.sent) fit
          (goes.before (other_of (link_of d.from)))
          (delivery-away s w0 w c (counted_on (other_of (link_of d.from)) c w.sent)
          (rank (other_of (link_of d.from))) d (other_of (link_of d.from))
          (goes.going (other_of (link_of d.from))) is away)
          (room (other_of (link_of d.from))));
    }

-- ---- a clock

pub clock-on : (s : PathSetup) (w0 w : Path) (c : ℕ) (rank : Face → End → ℕ → ℕ) (now : ℕ)
    → AreFit s → PathGoes s w0 w c rank → length w.sent ≤ c → path_deadline w ≡ Some now
    → PathOn s w0 w c rank (clock_shows now)
unfolding on_link
clock-on s w0 w c rank now fit goes over is =
    go (earlier-some (link_deadline (link_at faces.Old w)) (link_deadline (link_at faces.New w)) now
    is)
  where
    P : Face → Type 0
    P face = AnyGoes s w0 w (rank face) face (clock_shows now)
        (counted_on face c (path_step s w (clock_shows now)).path.sent)

    all-there : (face : Face) → length (sent_on face w.sent) ≤ counted_on face c w.sent
    all-there face = omega (arith, counted-all face c w.sent over)

    with_moves : (face : Face) (k : ℕ) → Moves (link_parties s face) (link_at face w0)
        (link_at face w) (rank face) k
        (happens (link_parties s face) (link_at face w) (clock now)) (counted_on face c w.sent)
        → FaceGoes s w0 w (rank face) face (clock_shows now) k (counted_on face c w.sent)
    with_moves face k moves = face-goes s w0 w (rank face) face (clock_shows now) k
        (counted_on face c w.sent) fit (goes.before face)
        (clock-first s w0 w (counted_on face c w.sent) k (rank face) face now fit (goes.going face)
        (all-there face) moves) tt

    counted : (face : Face) (k : ℕ)
        → FaceGoes s w0 w (rank face) face (clock_shows now) k (counted_on face c w.sent)
        → AnyGoes s w0 w (rank face) face (clock_shows now)
        (counted_on face c (path_step s w (clock_shows now)).path.sent)
    counted face k on = record {
      k = k;
      goes = face-as s w0 w (rank face) face (clock_shows now) k (counted_on face c w.sent) _
          (counted-after s w (clock_shows now) face c goes.within) on;
    }

    due : (face : Face) → link_deadline (link_at face w) ≡ Some now
        → AnyGoes s w0 w (rank face) face (clock_shows now)
        (counted_on face c (path_step s w (clock_shows now)).path.sent)
    due face at = counted face 1 (with_moves face 1 (due-moves (link_parties s face)
        (link_at face w0) (link_at face w) (counted_on face c w.sent) (rank face) now
        (fit.peers face) (fit.alike face) (goes.going face) (all-there face) at))

    quiet : (face : Face) → AnyGoes s w0 w (rank face) face (clock_shows now)
        (counted_on face c (path_step s w (clock_shows now)).path.sent)
    quiet face = counted face 0 (with_moves face 0 (quiet-moves (link_parties s face)
        (link_at face w0) (link_at face w) (counted_on face c w.sent) (rank face) now
        (fit.peers face) (goes.going face) (all-there face)))

    on-face : (face : Face) → link_deadline (link_at face w) ≡ Some now
        → PathOn s w0 w c rank (clock_shows now)
    on-face face at = both-go s w0 w c rank (clock_shows now) goes
        (omega (arith, goes.within, sent-more s w (clock_shows now)))
        (either_one P face (due face at) (quiet (other_of face)))
        (counts P (λ face any. any.k) face (due face at) (quiet (other_of face)) (omega arith))

    go : (link_deadline (link_at faces.Old w) ≡ Some now)
        ⊎ (link_deadline (link_at faces.New w) ≡ Some now)
        → PathOn s w0 w c rank (clock_shows now)
    go (inl at) = on-face faces.Old at
    go (inr at) = on-face faces.New at
