-- From a path that is ready clean events lead to where none can follow: an event that begins no
-- session lowers the ranks, and any other takes a number, of which there are only so many.

use Rattle.std.proofs.Common.{◌^◌, ◌≡◌, ℕ, zero, suc, ◌+◌, ◌<◌, ◌≤◌, List, [], ◌∷◌, Option}
use Rattle.std.proofs.Common.{None, Some, ◌⊎◌, inl, inr, refl, arith}
use Rattle.std.proofs.lemmas.Bool.{cases_lt}
use Rattle.ltp_session.specs.World.{End, at_end, first_end, second_end}
use Rattle.gate_cases.specs.declared.face.Face.{Face}
use Rattle.gate_cases.specs.declared.face.Face.TheVariants as faces
use Rattle.path_laws.specs.Path.{PathSetup, Path, PathEvent, path_run, path_step}
use Rattle.path_laws.specs.Links.{link_engines}
use Rattle.path_drain.specs.RoomKept.{IsRoomyPath, RoomIsKept}
use Rattle.path_drain.specs.Clean.{AreCleanOnPath, IsPathDrained, path_clean_event}
use Rattle.path_drain.specs.Clean.{path_passed, path_passed_after}
use Rattle.path_drain.proofs.CleanLemmas.{over-drained}
use Rattle.path_drain.proofs.PathRuns.{clean-on, clean-follows, new_on, path-stands}
use Rattle.path_drain.proofs.PathSteps.{AreFit, PathGoes, PathOn, path_sum}

-- ---- what is kept

-- the next numbers of all four engines
abbrev pub all_next : Path → ℕ
all_next w = w.nodes.0.next + w.gate.engines.0.next + w.gate.engines.1.next + w.nodes.1.next

-- no engine's next number is past the last
abbrev pub HasNumbers : Path → Type 0
HasNumbers w = (face : Face) (o : End) → (at_end (link_engines w face) o).next ≤ 2 ^ 32

pub record Lasts (s : PathSetup) (w0 w : Path) (c : ℕ) (rank : Face → End → ℕ → ℕ) : Type 0 where
  pub goes : PathGoes s w0 w c rank
  pub room : IsRoomyPath s w
  pub low : HasNumbers w

-- clean events lead to where nothing is left to do
pub record DrainsOut (s : PathSetup) (w : Path) (c : ℕ) : Type 0 where
  pub events : List PathEvent
  pub clean : AreCleanOnPath s w c events
  pub drained : IsPathDrained (path_run s w events) (path_passed c events)

-- ---- one event

-- and then others
one-first : (s : PathSetup) (w : Path) (c : ℕ) (event : PathEvent)
    → path_clean_event w c ≡ Some event
    → DrainsOut s (path_step s w event).path (path_passed_after c event) → DrainsOut s w c
unfolding path_run
one-first s w c event is rest =
    record { events = event ∷ rest.events; clean = (is, rest.clean); drained = rest.drained }

-- none of the numbers is taken where their sum stays
all-same : (w w' : Path)
    → ((face : Face) (o : End) → (at_end (link_engines w face) o).next ≤ (at_end
    (link_engines w' face) o).next) → all_next w' ≤ all_next w
    → (face : Face) (o : End) → (at_end (link_engines w' face) o).next ≡ (at_end
    (link_engines w face) o).next
all-same w w' more most = by
  where
    old_first : w.nodes.0.next ≤ w'.nodes.0.next
    old_first = more faces.Old first_end

    old_second : w.gate.engines.0.next ≤ w'.gate.engines.0.next
    old_second = more faces.Old second_end

    new_first : w.gate.engines.1.next ≤ w'.gate.engines.1.next
    new_first = more faces.New first_end

    new_second : w.nodes.1.next ≤ w'.nodes.1.next
    new_second = more faces.New second_end

    by : (face : Face) (o : End) → (at_end (link_engines w' face) o).next ≡ (at_end
        (link_engines w face) o).next
    by faces.Old first_end = omega (arith, most, old_first, old_second, new_first, new_second)
    by faces.Old second_end = omega (arith, most, old_first, old_second, new_first, new_second)
    by faces.New first_end = omega (arith, most, old_first, old_second, new_first, new_second)
    by faces.New second_end = omega (arith, most, old_first, old_second, new_first, new_second)

drain-step : RoomIsKept → (s : PathSetup) (w0 : Path) → AreFit s → (top fuel : ℕ) (w : Path)
    (c : ℕ) (rank : Face → End → ℕ → ℕ) → Lasts s w0 w c rank → top ≤ all_next w + fuel
    → ((w' : Path) (c' : ℕ) (rank' : Face → End → ℕ → ℕ) → Lasts s w0 w' c' rank'
    → top ≤ all_next w' + fuel → path_sum w' rank' < path_sum w rank → DrainsOut s w' c')
    → ((w' : Path) (c' : ℕ) (rank' : Face → End → ℕ → ℕ) → Lasts s w0 w' c' rank'
    → top < all_next w' + fuel → DrainsOut s w' c')
    → DrainsOut s w c
unfolding path_run
drain-step kept s w0 fit top fuel w c rank lasts bound still more =
    by_event (path_clean_event w c) refl
  where
    by_next : (event : PathEvent) (on : PathOn s w0 w c rank event)
        → Lasts s w0 (path_step s w event).path (path_passed_after c event) on.rank'
        → (all_next w < all_next (path_step s w event).path)
        ⊎ (all_next (path_step s w event).path ≤ all_next w)
        → DrainsOut s (path_step s w event).path (path_passed_after c event)
    by_next event on lasts' (inl higher) = more (path_step s w event).path
        (path_passed_after c event) on.rank' lasts' (omega (arith, bound, higher))
    by_next event on lasts' (inr most) =
        let same = all-same w (path_step s w event).path on.more most in
        let old_first : (path_step s w event).path.nodes.0.next ≡ w.nodes.0.next =
        same faces.Old first_end in
        let old_second : (path_step s w event).path.gate.engines.0.next ≡ w.gate.engines.0.next =
        same faces.Old second_end in
        let new_first : (path_step s w event).path.gate.engines.1.next ≡ w.gate.engines.1.next =
        same faces.New first_end in
        let new_second : (path_step s w event).path.nodes.1.next ≡ w.nodes.1.next =
        same faces.New second_end in
        still (path_step s w event).path (path_passed_after c event) on.rank' lasts'
        (omega (arith, bound, old_first, old_second, new_first, new_second))
        (omega (arith, on.falls same))

    by_event : (x : Option PathEvent) → path_clean_event w c ≡ x → DrainsOut s w c
    by_event None is = record {
      events = [];
      clean = tt;
      drained = over-drained w c (lasts.goes).within is;
    }
    by_event (Some event) is =
        let after = kept s w (new_on w c) rank event (path-stands s w0 w c rank fit lasts.goes)
        lasts.room (clean-follows w c event is) in
        let on = clean-on s w0 w c rank event fit lasts.goes is after.through in
        one-first s w c event is (by_next event on
        (record { goes = on.goes; room = after.kept; low = on.numbers lasts.low })
        (cases_lt (all_next w) (all_next (path_step s w event).path)))

-- ---- all of them

-- as long as no number is taken, the ranks fall
ranks-end : RoomIsKept → (s : PathSetup) (w0 : Path) → AreFit s → (top fuel : ℕ)
    → ((w' : Path) (c' : ℕ) (rank' : Face → End → ℕ → ℕ) → Lasts s w0 w' c' rank'
    → top < all_next w' + fuel → DrainsOut s w' c')
    → (sum : ℕ) (w : Path) (c : ℕ) (rank : Face → End → ℕ → ℕ) → Lasts s w0 w c rank
    → top ≤ all_next w + fuel → path_sum w rank ≤ sum → DrainsOut s w c
ranks-end kept s w0 fit top fuel more zero w c rank lasts bound low =
    drain-step kept s w0 fit top fuel w c rank lasts bound
    (λ w' c' rank' lasts' bound' less. absurd (omega (arith, low, less))) more
ranks-end kept s w0 fit top fuel more (suc sum) w c rank lasts bound low =
    drain-step kept s w0 fit top fuel w c rank lasts bound
    (λ w' c' rank' lasts' bound' less. ranks-end kept s w0 fit top fuel more sum w' c' rank' lasts'
    bound' (omega (arith, low, less))) more

-- and numbers are taken only so often
pub numbers-end : RoomIsKept → (s : PathSetup) (w0 : Path) → AreFit s → (top : ℕ)
    → 2 ^ 32 + 2 ^ 32 + 2 ^ 32 + 2 ^ 32 ≤ top → (fuel : ℕ) (w : Path) (c : ℕ)
    (rank : Face → End → ℕ → ℕ) → Lasts s w0 w c rank → top ≤ all_next w + fuel
    → DrainsOut s w c
numbers-end kept s w0 fit top capped zero w c rank lasts bound =
    ranks-end kept s w0 fit top 0 (λ w' c' rank' lasts' over. absurd (past w' lasts'.low over))
    (path_sum w rank) w c rank lasts bound (omega arith)
  where
    past : (w' : Path) → HasNumbers w' → top < all_next w' + 0 → ⊥
    past w' low over =
        let old_first : w'.nodes.0.next ≤ 2 ^ 32 = low faces.Old first_end in
        let old_second : w'.gate.engines.0.next ≤ 2 ^ 32 = low faces.Old second_end in
        let new_first : w'.gate.engines.1.next ≤ 2 ^ 32 = low faces.New first_end in
        let new_second : w'.nodes.1.next ≤ 2 ^ 32 = low faces.New second_end in
        omega (arith, capped, over, old_first, old_second, new_first, new_second)
numbers-end kept s w0 fit top capped (suc fuel) w c rank lasts bound =
    ranks-end kept s w0 fit top (suc fuel)
    (λ w' c' rank' lasts' higher. numbers-end kept s w0 fit top capped fuel w' c' rank' lasts'
    (omega (arith, higher))) (path_sum w rank) w c rank lasts bound (omega arith)
