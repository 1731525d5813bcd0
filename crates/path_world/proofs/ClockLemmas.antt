-- A clock at which no timer is due goes on, and nothing is done; and a drain's first event is a clock.

use Rattle.std.proofs.Common.{◌≡◌, ℕ, ◌<◌, ◌≤◌, ◌^◌, Bool, false, List, Option, None, Some, ◌⊎◌, inl}
use Rattle.std.proofs.Common.{inr, refl, sym, ◌∙◌, ap, arith, subst, nat_le, length}
use Rattle.std.proofs.lemmas.Bool.Decides.{nat_tests}
use Rattle.ltp_engine.specs.Steps.{is_due_at}
use Rattle.path_laws.specs.declared.effects.PathEffects.{PathEffects}
use Rattle.path_laws.specs.Path.{PathEvent, PathStep, clock_shows, path_step}
use Rattle.path_drain.specs.Moments.{IsBeforeAny}
use Rattle.path_drain.proofs.QuietLemmas.{quiet-clocks}
use Rattle.path_world.specs.declared.parts.Parts.{Parts}
use Rattle.path_world.specs.Drain.{IsDueEarly}
use Rattle.path_world.specs.Shows.{ShowsRun, path_after}
use Rattle.path_world.specs.Steps.{Happens, Ticks}
use Rattle.path_world.specs.Ties.{Did, IsWhole, live, setup_in, value_of}
use Rattle.path_world.specs.Values.{PathValue, nothing_told, path_deadline}
use Rattle.path_world.proofs.DrainLemmas.{shown-deadline}
use Rattle.path_world.proofs.RunLemmas.{StepShown, did-so, happens-by, none-told}
use Rattle.path_world.proofs.StepLemmas.{moment-kept, moment-shows}
use Rattle.path_world.proofs.WorldLemmas.{did-happens}

-- ---- no timer is due

not-due : (now : ℕ) (due : Option ℕ) → is_due_at now due ≡ false → IsBeforeAny now due
not-due now None is = tt
not-due now (Some deadline) is = before now deadline is
  where
    before : (a b : ℕ) → nat_le b a ≡ false → a < b
    before a b is = grind (arith, nat_tests)

pub went-on : (a : Parts) (now : ℕ) (told : PathEffects) → IsWhole a → now < 2 ^ 62
    → a.moment ≤ now → is_due_at now (path_deadline (live a)) ≡ false → told ≡ nothing_told
    → Did a (record a { moment = now }) (clock_shows now) told
went-on a now told whole below later quiet is =
    did-so a (record a { moment = now }) (clock_shows now) told whole
    (moment-kept a now below whole.kept)
    (happens-by (live a) (live (record a { moment = now })) (clock_shows now) told refl refl each)
  where
    each : (start : ℕ) (events : List PathEvent) → ShowsRun (live a) start events
        → StepShown (live a) (live (record a { moment = now }))
        (path_step (setup_in a) (path_after (live a) start events) (clock_shows now)) told
    each start events shows =
        subst (λ (step : PathStep). StepShown (live a) (live (record a { moment = now })) step told)
        (sym (quiet-clocks (setup_in a) (path_after (live a) start events) now
        (subst (λ n. n ≤ now) (sym shows.path.now) later)
        (subst (IsBeforeAny now) (sym (shown-deadline (live a) (path_after (live a) start events)
        shows.path)) (not-due now (path_deadline (live a)) quiet))))
        (record {
          shows = moment-shows a (path_after (live a) start events) now shows.path;
          told = is ∙ none-told (length a.sent);
        })

-- ---- as the code has it

-- the clock is set to a moment that isn't before the one it shows
pub goes-on : (spent : Bool) (a b : Parts) (v : PathValue) (now : ℕ) (effects : PathEffects)
    → value_of spent a ≡ v → v.spent ≡ false → a.moment ≤ now → Did a b (clock_shows now) effects
    → Ticks v (value_of spent b) now effects
goes-on spent a b v now effects is whole later did = record {
  happens = subst (λ (t : Bool). Happens v (value_of t b) (clock_shows now) effects)
      (sym (ap (λ (u : PathValue). u.spent) is ∙ whole)) (did-happens spent a b v (clock_shows now) effects is whole did);
  back = λ back. absurd (let moment = ap (λ (u : PathValue). u.moment) is in
      omega (arith, later, back, moment));
}

-- what is due at a moment is due at it, whether memory ran out or not
pub due-still : (spent : Bool) (a : Parts) (v : PathValue) (now : ℕ) (test : Bool)
    → value_of spent a ≡ v → test ≡ is_due_at now (path_deadline (live a))
    → test ≡ is_due_at now (path_deadline v)
due-still spent a v now test is due =
    due ∙ ap (λ (u : PathValue). is_due_at now (path_deadline u)) is

-- ---- a drain

-- where the deadline is as it was at first, or an event was done, there was one to do
pub due-early : (first now : Option ℕ) (deadline : ℕ) → (now ≡ first) ⊎ IsDueEarly first
    → now ≡ Some deadline → deadline < 2 ^ 62 → IsDueEarly first
due-early first now deadline (inl same) due early = subst IsDueEarly (sym due ∙ same) early
due-early first now deadline (inr was) due early = was
