-- Every clean event wears a drain of a path out.

use Rattle.std.proofs.Common.{◌≡◌, ℕ, suc, ◌+◌, ◌<◌, ◌≤◌, Bool, true, false, List, ◌∷◌, ◌++◌}
use Rattle.std.proofs.Common.{length, Option, None, Some, refl, sym, ◌∙◌, ap, arith, subst, nat_lt}
use Rattle.std.proofs.Common.{if◌then◌else◌}
use Rattle.std.proofs.Math.Numerals.{add-one}
use Rattle.std.proofs.lemmas.Bool.{ltb-true}
use Rattle.std.specs.List.{slice_get}
use Rattle.std.specs.Option.{option_map}
use Rattle.gate_cases.specs.Faces.{other_of}
use Rattle.gate_cases.specs.declared.face.Face.{Face}
use Rattle.gate_cases.specs.declared.face.Face.TheVariants as faces
use Rattle.ltp_session.specs.Engine.{earlier}
use Rattle.ltp_session.specs.World.{World, clock, deliver, run}
use Rattle.ltp_drain.specs.Clean.{link_deadline}
use Rattle.ltp_drain.specs.Hopeful.{IsReached}
use Rattle.ltp_drain.proofs.CleanSteps.{taken}
use Rattle.ltp_drain.proofs.WearLemmas.{reached-ahead}
use Rattle.path_laws.specs.Links.{delivery_on, link_at, link_events, link_parties}
use Rattle.path_laws.specs.Links.{link_sent, submits_on}
use Rattle.path_laws.specs.Log.{begun_at}
use Rattle.path_laws.specs.Path.{Path, PathEvent, PathSetup, SentFrom, clock_shows, comes_to}
use Rattle.path_laws.specs.Path.{delivers, delivers_if, path_run, path_step, starts_path}
use Rattle.path_laws.specs.Places.{Stand, across, at_gate, at_node, if_link, link_of, stand_of}
use Rattle.path_laws.proofs.RunLemmas.{step-chunk, whole-chunk}
use Rattle.path_drain.specs.Clean.{path_clean_event, path_deadline}
use Rattle.path_drain.specs.Left.{IsTimed, PathWearsOut, all_left, path_left}
use Rattle.path_drain.specs.Moments.{IsBeforeAny, PathDeadlinesAreAhead}
use Rattle.path_drain.proofs.LinkLeft.{delivers-left, submits-stay}
use Rattle.path_drain.proofs.PathLeft.{got-on, passed-low, passed-more, passed_on, path-is, submits-on}

-- ---- what is sent stays sent

record SentMore (w w' : Path) : Type 0 where
  more : List SentFrom
  is : w'.sent ≡ w.sent ++ more

come-more : (s : PathSetup) (w : Path) (stand : Stand) (d : SentFrom)
    → SentMore w (comes_to s w stand d.segment).path
come-more s w (at_node end) d = record { more = _; is = refl }
come-more s w (at_gate face) d = record { more = _; is = refl }

-- ---- a delivery

-- a path from which a run came
pub record AreReached (s : PathSetup) (w : Path) : Type 0 where
  pub links : (face : Face) → IsReached (link_parties s face) (link_at face w)

sent-more : (s : PathSetup) (w : Path) (k : ℕ) (d : SentFrom) → slice_get w.sent k ≡ Some d
    → SentMore w (path_step s w (delivers k)).path
unfolding path_step
sent-more s w k d got =
    subst (λ o. SentMore w (delivers_if s w o).path) (sym got)
    (come-more s w (stand_of (across d.from)) d)

events-are : (face : Face) (s : PathSetup) (w : Path) (k : ℕ) (d : SentFrom)
    → slice_get w.sent k ≡ Some d
    → link_at face (path_step s w (delivers k)).path
    ≡ run (link_parties s face) (link_at face w)
    (if_link face (link_of d.from) (deliver (passed_on face w.sent k))
    ++ submits_on face (begun_at s w (delivers k)))
events-are face s w k d got = (step-chunk face s w (delivers k)).runs
    ∙ ap (λ o. run (link_parties s face) (link_at face w) (delivery_on face w.sent k o
    ++ submits_on face (begun_at s w (delivers k)))) got

numbers-are : (face : Face) (s : PathSetup) (w : Path) (k : ℕ) (d : SentFrom)
    → slice_get w.sent k ≡ Some d
    → passed_on face (path_step s w (delivers k)).path.sent (suc k)
    ≡ passed_on face w.sent k + length (if_link face (link_of d.from) (link_sent d))
numbers-are face s w k d got =
    let sent = sent-more s w k d got in
    ap (λ ds. passed_on face ds (suc k)) sent.is
    ∙ passed-more face w.sent sent.more k d got

-- on the link of the segment less is left
falls-here : (face : Face) (s : PathSetup) (w : Path) (k most : ℕ) (d : SentFrom)
    → IsTimed s most → AreReached s w → slice_get w.sent k ≡ Some d → link_of d.from ≡ face
    → all_left most (link_at face (path_step s w (delivers k)).path)
    (passed_on face (path_step s w (delivers k)).path.sent (suc k))
    < all_left most (link_at face w) (passed_on face w.sent k)
falls-here face s w k most d timed reached got on =
    subst (λ l. all_left most l (passed_on face (path_step s w (delivers k)).path.sent (suc k))
    < all_left most (link_at face w) (passed_on face w.sent k))
    (sym (events-are face s w k d got))
    (subst (λ n. all_left most (run (link_parties s face) (link_at face w)
    (if_link face (link_of d.from) (deliver (passed_on face w.sent k))
    ++ submits_on face (begun_at s w (delivers k)))) n
    < all_left most (link_at face w) (passed_on face w.sent k))
    (sym (numbers-are face s w k d got))
    (subst (λ f. all_left most (run (link_parties s face) (link_at face w)
    (if_link face f (deliver (passed_on face w.sent k))
    ++ submits_on face (begun_at s w (delivers k))))
    (passed_on face w.sent k + length (if_link face f (link_sent d)))
    < all_left most (link_at face w) (passed_on face w.sent k)) (sym on)
    (alone face (link_at face w) (passed_on face w.sent k)
    (delivers-left (link_parties s face) (link_at face w) (passed_on face w.sent k) most
    (link_sent d) (submits_on face (begun_at s w (delivers k))) (timed.links face)
    (reached.links face) (timed.fits face) (got-on face w.sent k d got on)
    (submits-on face (begun_at s w (delivers k)))))))
  where
    alone : (f : Face) (l : World) (n : ℕ)
        → all_left most (run (link_parties s face) l (deliver n
        ∷ submits_on face (begun_at s w (delivers k)))) (suc n) < all_left most l n
        → all_left most (run (link_parties s face) l (if_link f f (deliver n)
        ++ submits_on face (begun_at s w (delivers k)))) (n + length (if_link f f (link_sent d)))
        < all_left most l n
    alone faces.Old l n falls = rw (add-one n) falls
    alone faces.New l n falls = rw (add-one n) falls

-- and on the other no more
stays-there : (face : Face) (s : PathSetup) (w : Path) (k most : ℕ) (d : SentFrom)
    → IsTimed s most → AreReached s w → slice_get w.sent k ≡ Some d
    → link_of d.from ≡ other_of face
    → all_left most (link_at face (path_step s w (delivers k)).path)
    (passed_on face (path_step s w (delivers k)).path.sent (suc k))
    ≤ all_left most (link_at face w) (passed_on face w.sent k)
stays-there face s w k most d timed reached got on =
    subst (λ l. all_left most l (passed_on face (path_step s w (delivers k)).path.sent (suc k))
    ≤ all_left most (link_at face w) (passed_on face w.sent k))
    (sym (events-are face s w k d got))
    (subst (λ n. all_left most (run (link_parties s face) (link_at face w)
    (if_link face (link_of d.from) (deliver (passed_on face w.sent k))
    ++ submits_on face (begun_at s w (delivers k)))) n
    ≤ all_left most (link_at face w) (passed_on face w.sent k))
    (sym (numbers-are face s w k d got))
    (subst (λ f. all_left most (run (link_parties s face) (link_at face w)
    (if_link face f (deliver (passed_on face w.sent k))
    ++ submits_on face (begun_at s w (delivers k))))
    (passed_on face w.sent k + length (if_link face f (link_sent d)))
    ≤ all_left most (link_at face w) (passed_on face w.sent k)) (sym on)
    (apart face (link_at face w) (passed_on face w.sent k)
    (submits-stay (link_parties s face) (link_at face w) (passed_on face w.sent k) most
    (submits_on face (begun_at s w (delivers k))) (timed.links face) (reached.links face)
    (timed.fits face) (passed-low face w.sent k) (submits-on face (begun_at s w (delivers k)))))))
  where
    apart : (f : Face) (l : World) (n : ℕ)
        → all_left most (run (link_parties s face) l
        (submits_on face (begun_at s w (delivers k)))) n ≤ all_left most l n
        → all_left most (run (link_parties s face) l (if_link f (other_of f) (deliver n)
        ++ submits_on face (begun_at s w (delivers k))))
        (n + length (if_link f (other_of f) (link_sent d))) ≤ all_left most l n
    apart faces.Old l n low = let same : n + 0 ≡ n = omega arith in rw same low
    apart faces.New l n low = let same : n + 0 ≡ n = omega arith in rw same low

pub path-delivery : (s : PathSetup) (w : Path) (k most : ℕ) (d : SentFrom) → IsTimed s most
    → AreReached s w → slice_get w.sent k ≡ Some d
    → path_left most (path_step s w (delivers k)).path (suc k) < path_left most w k
path-delivery s w k most d timed reached got = by_face (link_of d.from) refl
  where
    by_face : (f : Face) → link_of d.from ≡ f
        → path_left most (path_step s w (delivers k)).path (suc k) < path_left most w k
    by_face faces.Old on =
        let before = path-is most w k in
        let since = path-is most (path_step s w (delivers k)).path (suc k) in
        let here = falls-here faces.Old s w k most d timed reached got on in
        let there = stays-there faces.New s w k most d timed reached got on in
        omega (arith, before, since, here, there)
    by_face faces.New on =
        let before = path-is most w k in
        let since = path-is most (path_step s w (delivers k)).path (suc k) in
        let here = falls-here faces.New s w k most d timed reached got on in
        let there = stays-there faces.Old s w k most d timed reached got on in
        omega (arith, before, since, here, there)

-- ---- a run

pub runs-reach : (s : PathSetup) (start : ℕ) (events : List PathEvent)
    → AreReached s (path_run s (starts_path s start) events)
runs-reach s start events = record {
  links = λ face. record {
    events = clock start ∷ link_events face s (starts_path s start) events;
    leads = sym (whole-chunk face s start events).runs;
  };
}

earlier-is : (a b : Option ℕ) (now before : ℕ) → earlier a b ≡ Some now
    → ((t : ℕ) → a ≡ Some t → before < t) → ((t : ℕ) → b ≡ Some t → before < t) → before < now
earlier-is None b now before is first second = second now is
earlier-is (Some x) None now before is first second = first now is
earlier-is (Some x) (Some y) now before is first second =
    let one = first x refl in
    let two = second y refl in
    subst (λ (n : ℕ). before < n) (some-is is) (omega (arith, one, two))
  where
    some-is : {a b : ℕ} → Some a ≡ Some b → a ≡ b
    some-is is = cc

pub path-clock : (s : PathSetup) (w : Path) (most now : ℕ) → IsTimed s most → AreReached s w
    → path_deadline w ≡ Some now → w.now < now
path-clock s w most now timed reached due =
    earlier-is (link_deadline (link_at faces.Old w)) (link_deadline (link_at faces.New w)) now w.now
    due
    (λ t is. reached-ahead (link_parties s faces.Old) (link_at faces.Old w) (timed.links faces.Old)
    (reached.links faces.Old) t is)
    (λ t is. reached-ahead (link_parties s faces.New) (link_at faces.New w) (timed.links faces.New)
    (reached.links faces.New) t is)

-- so the clock is before the earliest of them, where there is one
pub path-ahead : PathDeadlinesAreAhead
path-ahead s start most events timed =
    by (path_deadline (path_run s (starts_path s start) events)) refl
  where
    by : (due : Option ℕ) → path_deadline (path_run s (starts_path s start) events) ≡ due
        → IsBeforeAny (path_run s (starts_path s start) events).now due
    by None is = tt
    by (Some deadline) is =
        path-clock s (path_run s (starts_path s start) events) most deadline timed
        (runs-reach s start events) is

pub wears : (s : PathSetup) (w : Path) (most c : ℕ) (event : PathEvent) → IsTimed s most
    → AreReached s w → path_clean_event w c ≡ Some event → PathWearsOut most s w c event
wears s w most c event timed reached is =
    by_test (nat_lt c (length w.sent)) refl (path_deadline w) refl is
  where
    delivers-next : c < length w.sent → PathWearsOut most s w c (delivers c)
    delivers-next low =
        let t = taken w.sent c low in
        subst (λ n. path_left most (path_step s w (delivers c)).path n < path_left most w c)
        (sym (add-one c)) (path-delivery s w c most t.x timed reached t.got)

    by_test : (b : Bool) → nat_lt c (length w.sent) ≡ b → (o : Option ℕ) → path_deadline w ≡ o
        → (if b then Some (delivers c) else option_map clock_shows o) ≡ Some event
        → PathWearsOut most s w c event
    by_test true low o due is =
        let same : delivers c ≡ event = cc in
        subst (PathWearsOut most s w c) same
        (delivers-next (ltb-true c (length w.sent) low))
    by_test false low None due is = absurd (cc)
    by_test false low (Some now) due is =
        let same : clock_shows now ≡ event = cc in
        subst (PathWearsOut most s w c) same (path-clock s w most now timed reached due)

pub path-drains-wear-out : (s : PathSetup) (start most c : ℕ) (events : List PathEvent)
    (event : PathEvent) → IsTimed s most
    → path_clean_event (path_run s (starts_path s start) events) c ≡ Some event
    → PathWearsOut most s (path_run s (starts_path s start) events) c event
path-drains-wear-out s start most c events event timed is =
    wears s (path_run s (starts_path s start) events) most c event timed
    (runs-reach s start events) is
