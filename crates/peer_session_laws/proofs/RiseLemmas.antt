-- The numbers of sessions rise, from those on that earlier runs had reserved.

use Rattle.std.proofs.Common.{◌≡◌, ℕ, ◌+◌, ◌≤◌, nat_lt, Bool, true, false, List, [], ◌∷◌, Option, None, Some, refl, sym, ◌∙◌, subst, arith, if◌then◌else◌}
use Rattle.std.specs.List.{AllByRecursion}
use Rattle.std.proofs.lemmas.Bool.Decides.{nat_tests}
use Rattle.gate_cases.specs.declared.face.Face.{Face}
use Rattle.gate_cases.specs.declared.face.Face.TheVariants.{Old, New}
use Rattle.gateway_core.specs.Gate.{if_same, at_face}
use Rattle.gate_config.specs.declared.file.GateFile.{GateFile}
use Rattle.gate_records.specs.Keeping.{first_of}
use Rattle.journal_file.specs.Values.{KeptValue}
use Rattle.peer_sessions.specs.Keys.{FaceKeys}
use Rattle.peer_sessions.specs.Sessions.{Sessions}
use Rattle.peer_gateway.specs.Gate.{BegunAt}
use Rattle.peer_gateway.specs.Steps.{peer_gate_after}
use Rattle.peer_half.specs.Runs.{EventIn}
use Rattle.peer_half.specs.Setup.{first_session, setup_in}
use Rattle.peer_session_laws.specs.Events.{Beginning, sessions_of, step_with}
use Rattle.peer_session_laws.specs.Runs.{beginning_of}
use Rattle.peer_session_laws.specs.Own.{AreFrom, NumbersGoOn, NumbersRise, next_of, reserved_before}
use Rattle.peer_session_laws.proofs.GoLemmas.{GoOn, begins}
use Rattle.peer_session_laws.proofs.NumberLemmas.{begins-all}
use Rattle.peer_session_laws.proofs.EndLemmas.{event-does}

from-lower : (at : Face) (low from to : ℕ) (begun : List BegunAt) → low ≤ from → AreFrom at from to begun → AreFrom at low to begun
from-lower at low from to [] most all = tt
from-lower at low from to (b ∷ more) most all = (λ here. (omega (arith, most, (all.0 here).0), (all.0 here).1), from-lower at low from to more most all.1)

numbers-from : (k : FaceKeys) (now : ℕ) (at : Face) (begun : List BegunAt) (s t : Sessions) → GoOn k now at begun s t → AreFrom at s.engine.next t.engine.next begun
unfolding GoOn
numbers-from k now at [] s t same = tt
numbers-from k now at (b ∷ more) s t (number, rest) =
    by b.face at refl number (λ x goes. numbers-from k now at more x t goes) (λ x goes. (begins-all k now at 0 more x t goes).rises) rest
  where
    one : Sessions
    one = begins k now b.block s

    elsewhere : {X : Type 0} → Old ≡ New → X
    elsewhere is = absurd (cc is)

    by : (face at : Face) → b.face ≡ face → (face ≡ at → b.session ≡ s.engine.next)
        → ((x : Sessions) → GoOn k now at more x t → AreFrom at x.engine.next t.engine.next more)
        → ((x : Sessions) → GoOn k now at more x t → x.engine.next ≤ t.engine.next)
        → GoOn k now at more (if_same face at one s) t → AreFrom at s.engine.next t.engine.next (b ∷ more)
    by Old Old is number later rises goes =
        (λ here. (omega (arith, number refl), omega (arith, number refl, rises one goes)), from-lower Old s.engine.next (s.engine.next + 1) t.engine.next more (omega arith) (later one goes))
    by Old New is number later rises goes = (λ here. elsewhere (sym is ∙ here), later s goes)
    by New Old is number later rises goes = (λ here. elsewhere (sym here ∙ is), later s goes)
    by New New is number later rises goes =
        (λ here. (omega (arith, number refl), omega (arith, number refl, rises one goes)), from-lower New s.engine.next (s.engine.next + 1) t.engine.next more (omega arith) (later one goes))

pub numbers-rise : NumbersRise
numbers-rise b at event earlier =
    let all = event-does b at 0 event earlier in
    subst (λ from. AreFrom at from (next_of b at (event ∷ earlier)) (step_with b event earlier).effects.begun) all.rests.next
    (numbers-from (at_face b.setup.keys at) (event.1.0.at at) at (step_with b event earlier).effects.begun all.middle (sessions_of b at (event ∷ earlier)) all.goes)

-- ---- from the first number on

begins-first : (b : Beginning) (at : Face) → next_of b at [] ≡ (at_face b.setup.keys at).party.first
unfolding peer_gate_after
begins-first b Old = refl
begins-first b New = refl

pub from-first : (b : Beginning) (at : Face) (events : List EventIn) → (at_face b.setup.keys at).party.first ≤ next_of b at events
from-first b at [] = omega (arith, begins-first b at)
from-first b at (event ∷ earlier) =
    let all = event-does b at 0 event earlier in
    let before = from-first b at earlier in
    let up = all.begins.rises in
    let same = all.rests.next in
    omega (arith, before, up, same)

greater-least : (set reserved : ℕ) → reserved ≤ first_of set reserved
greater-least set reserved = by (nat_lt set reserved) refl where
  by : (t : Bool) → nat_lt set reserved ≡ t → reserved ≤ (if t then reserved else set)
  by true is = omega arith
  by false is = grind (arith, nat_tests)

first-above : (file : GateFile) (kept : Option KeptValue) (wall : ℕ) (at : Face) → reserved_before at kept ≤ (at_face (setup_in file kept wall).keys at).party.first
first-above file None wall at = omega arith
first-above file (Some kept) wall Old = greater-least (first_session file.old.first_session wall) kept.old_reserved
first-above file (Some kept) wall New = greater-least (first_session file.new.first_session wall) kept.new_reserved

above : (at : Face) (low from to : ℕ) (begun : List BegunAt) → low ≤ from → AreFrom at from to begun
    → AllByRecursion (λ (b : BegunAt). b.face ≡ at → low ≤ b.session) begun
above at low from to [] most all = tt
above at low from to (b ∷ more) most all = (λ here. omega (arith, most, (all.0 here).0), above at low from to more most all.1)

pub numbers-go-on : NumbersGoOn
numbers-go-on r at event earlier =
    let b = beginning_of r in
    above at (reserved_before at r.kept) (next_of b at earlier) (next_of b at (event ∷ earlier)) (step_with b event earlier).effects.begun
    (omega (arith, first-above r.file r.kept r.wall at, from-first b at earlier)) (numbers-rise b at event earlier)
