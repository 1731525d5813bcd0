-- No session is stale after a step.

use Rattle.std.proofs.Common.{◌≡◌, ℕ, ◌-◌, ◌<◌, Bool, true, false, nat_le, ◌==◌, ◌&&◌, ◌||◌, if◌then◌else◌, List, [], ◌∷◌, ◌++◌, map, None, is_some, Result, Ok, Err, refl, sym, ap, subst, arith, eqb-true}
use Rattle.std.specs.List.{AllByRecursion, filter}
use Rattle.std.proofs.lemmas.Bool.Decides.{nat_tests}
use Rattle.ltp_segment.specs.declared.fault.SegmentCause.{SegmentCause}
use Rattle.ltp_segment.specs.Values.{SegmentValue}
use Rattle.ltp_session.specs.Step.{ends}
use Rattle.ltp_session.specs.Receiver.{Receiving}
use Rattle.ltp_session.specs.Table.{find, without}
use Rattle.ltp_session.specs.Engine.{is_closed, with_receiver, tick_step}
use Rattle.ltp_laws.proofs.TableLemmas.{find-without}
use Rattle.peer_sessions.specs.Keys.{FaceKeys}
use Rattle.peer_sessions.specs.Sessions.{Sessions, still_kept, left_by, closes, stale, passes, is_of_peer, is_touched, answer_to, moments_met, answers, answered, to_trim, hears, ticks}
use Rattle.session_memory.specs.Memory.{passed}
use Rattle.peer_sessions.specs.Laws.{NoneIsStale}

-- an entry is stale
abbrev is_stale : ℕ → ℕ → ℕ × ℕ → Bool
is_stale keep now e = nat_le keep (now - e.1)

-- no entry is
abbrev pub NoneOf : ℕ → ℕ → List (ℕ × ℕ) → Type 0
NoneOf keep now moments = AllByRecursion (λ (e : ℕ × ℕ). is_stale keep now e ≡ false) moments

none-filter : (keep now : ℕ) (p : ℕ × ℕ → Bool) (moments : List (ℕ × ℕ)) → NoneOf keep now moments → NoneOf keep now (filter p moments)
none-filter keep now p [] none = tt
none-filter keep now p (e ∷ moments) none = by (p e) (none-filter keep now p moments none.1) where
  by : (b : Bool) → NoneOf keep now (filter p moments) → NoneOf keep now (if b then e ∷ filter p moments else filter p moments)
  by true rest = (none.0, rest)
  by false rest = rest

none-listed : (keep now : ℕ) (moments : List (ℕ × ℕ)) → NoneOf keep now moments → map (λ (e : ℕ × ℕ). e.0) (filter (λ (e : ℕ × ℕ). nat_le keep (now - e.1)) moments) ≡ []
none-listed keep now [] none = refl
none-listed keep now (e ∷ moments) none = rw none.0 (none-listed keep now moments none.1)

-- ---- sessions are closed

pub closes-none-of : (keep now : ℕ) (numbers : List ℕ) (s : Sessions) → NoneOf keep now s.moments → NoneOf keep now (closes numbers s).moments
unfolding closes with_receiver
closes-none-of keep now [] s none = none
closes-none-of keep now (n ∷ numbers) s none =
    closes-none-of keep now numbers (left_by (with_receiver s.engine n ends) s.memory s.moments) (none-filter keep now (λ (e : ℕ × ℕ). is_some (find e.0 (without n (s.engine).receivers))) s.moments none)

-- each stale entry is that of one of these numbers
abbrev AreAmong : ℕ → ℕ → List ℕ → List (ℕ × ℕ) → Type 0
AreAmong keep now numbers moments = AllByRecursion (λ (e : ℕ × ℕ). is_stale keep now e ≡ true → is_closed e.0 numbers ≡ true) moments

among-none : (keep now : ℕ) (moments : List (ℕ × ℕ)) → AreAmong keep now [] moments → NoneOf keep now moments
among-none keep now [] all = tt
among-none keep now (e ∷ moments) all = (by (is_stale keep now e) all.0, among-none keep now moments all.1) where
  by : (b : Bool) → (b ≡ true → false ≡ true) → b ≡ false
  by true never = sym (never refl)
  by false never = refl

-- once a number is closed its entry is gone
among-rest : (keep now n : ℕ) (numbers : List ℕ) (receivers : List (ℕ × Receiving)) (moments : List (ℕ × ℕ)) → AreAmong keep now (n ∷ numbers) moments
    → AreAmong keep now numbers (still_kept (without n receivers) moments)
among-rest keep now n numbers receivers [] all = tt
among-rest keep now n numbers receivers (e ∷ moments) all = by (is_some (find e.0 (without n receivers))) refl (among-rest keep now n numbers receivers moments all.1) where
  other : is_some (find e.0 (without n receivers)) ≡ true → (n == e.0) ≡ false
  other kept = by_test (n == e.0) refl where
    gone : n ≡ e.0 → ⊥
    gone same = differ (ap (λ x. is_some x) (subst (λ m. find m (without n receivers) ≡ None) same (find-without n receivers))) kept where
      differ : {b : Bool} → b ≡ false → b ≡ true → ⊥
      differ is also = cc

    by_test : (same : Bool) → (n == e.0) ≡ same → same ≡ false
    by_test true is = absurd (gone (eqb-true n e.0 is))
    by_test false is = refl

  rest : (b c : Bool) → b ≡ false → (b || c) ≡ true → c ≡ true
  rest b c is holds = rw is at holds

  by : (b : Bool) → is_some (find e.0 (without n receivers)) ≡ b → AreAmong keep now numbers (still_kept (without n receivers) moments)
      → AreAmong keep now numbers (if b then e ∷ filter (λ (x : ℕ × ℕ). is_some (find x.0 (without n receivers))) moments else filter (λ (x : ℕ × ℕ). is_some (find x.0 (without n receivers))) moments)
  by true kept more = ((λ stale_so. rest (n == e.0) (is_closed e.0 numbers) (other kept) (all.0 stale_so)), more)
  by false kept more = more

closes-among : (keep now : ℕ) (numbers : List ℕ) (s : Sessions) → AreAmong keep now numbers s.moments → NoneOf keep now (closes numbers s).moments
unfolding closes with_receiver
closes-among keep now [] s all = among-none keep now s.moments all
closes-among keep now (n ∷ numbers) s all =
    closes-among keep now numbers (left_by (with_receiver s.engine n ends) s.memory s.moments) (among-rest keep now n numbers (s.engine).receivers s.moments all)

more-among : (keep now n : ℕ) (numbers : List ℕ) (moments : List (ℕ × ℕ)) → AreAmong keep now numbers moments → AreAmong keep now (n ∷ numbers) moments
more-among keep now n numbers [] all = tt
more-among keep now n numbers (e ∷ moments) all = ((λ is. by (n == e.0) (all.0 is)), more-among keep now n numbers moments all.1) where
  by : (b : Bool) {c : Bool} → c ≡ true → (b || c) ≡ true
  by true is = refl
  by false is = is

stale-among : (keep now : ℕ) (moments : List (ℕ × ℕ)) → AreAmong keep now (map (λ (e : ℕ × ℕ). e.0) (filter (λ (e : ℕ × ℕ). nat_le keep (now - e.1)) moments)) moments
stale-among keep now [] = tt
stale-among keep now (e ∷ moments) = by (nat_le keep (now - e.1)) (stale-among keep now moments) where
  numbers : List ℕ
  numbers = map (λ (x : ℕ × ℕ). x.0) (filter (λ (x : ℕ × ℕ). nat_le keep (now - x.1)) moments)

  self : (n : ℕ) → (n == n) ≡ true
  self n = grind (arith, nat_tests)

  by : (b : Bool) → AreAmong keep now numbers moments
      → ((b ≡ true → is_closed e.0 (map (λ (x : ℕ × ℕ). x.0) (if b then e ∷ filter (λ (x : ℕ × ℕ). nat_le keep (now - x.1)) moments else filter (λ (x : ℕ × ℕ). nat_le keep (now - x.1)) moments)) ≡ true)
      × AreAmong keep now (map (λ (x : ℕ × ℕ). x.0) (if b then e ∷ filter (λ (x : ℕ × ℕ). nat_le keep (now - x.1)) moments else filter (λ (x : ℕ × ℕ). nat_le keep (now - x.1)) moments)) moments)
  by true rest = ((λ _. rw (self e.0) refl), more-among keep now e.0 numbers moments rest)
  by false rest = ((λ is. absurd (cc (is))), rest)

pub passes-none : (k : FaceKeys) (s : Sessions) (now : ℕ) → NoneOf k.remember_ms now (passes k now s).moments
passes-none k s now = closes-among k.remember_ms now (stale k now s) (record s { memory = passed now s.memory }) (stale-among k.remember_ms now s.moments)

-- ---- a step

none-without : (keep now n : ℕ) (moments : List (ℕ × ℕ)) → NoneOf keep now moments → NoneOf keep now (without n moments)
unfolding without
none-without keep now n [] none = tt
none-without keep now n (e ∷ moments) none = by (e.0 == n) (none-without keep now n moments none.1) where
  by : (b : Bool) → NoneOf keep now (without n moments) → NoneOf keep now (if b then without n moments else e ∷ without n moments)
  by true rest = rest
  by false rest = (none.0, rest)

none-last : (keep now n : ℕ) (moments : List (ℕ × ℕ)) → 0 < keep → NoneOf keep now moments → NoneOf keep now (moments ++ (n, now) ∷ [])
none-last keep now n [] some none = (now-fresh, tt) where
  now-fresh : nat_le keep (now - now) ≡ false
  now-fresh = grind (arith, nat_tests)
none-last keep now n (e ∷ moments) some none = (none.0, none-last keep now n moments some none.1)

met-none : (k : FaceKeys) (s : Sessions) (segment : SegmentValue) (now : ℕ) → 0 < k.remember_ms → NoneOf k.remember_ms now s.moments → NoneOf k.remember_ms now (moments_met k s segment now)
met-none k s segment now some none = by (is_of_peer k segment.originator && is_touched (answer_to k s segment now)) where
  by : (b : Bool) → NoneOf k.remember_ms now (if b then without segment.session s.moments ++ (segment.session, now) ∷ [] else s.moments)
  by true = none-last k.remember_ms now segment.session (without segment.session s.moments) some (none-without k.remember_ms now segment.session s.moments none)
  by false = none

answered-none : (k : FaceKeys) (s : Sessions) (read : Result SegmentValue (ℕ × SegmentCause)) (now : ℕ) → 0 < k.remember_ms → NoneOf k.remember_ms now s.moments
    → NoneOf k.remember_ms now (answered k s read now).moments
answered-none k s (Err refusal) now some none = none
answered-none k s (Ok segment) now some none =
    none-filter k.remember_ms now (λ (e : ℕ × ℕ). is_some (find e.0 ((answers k s (Ok segment) now).engine).receivers)) (moments_met k s segment now) (met-none k s segment now some none)

heard-none : (k : FaceKeys) (s : Sessions) (read : Result SegmentValue (ℕ × SegmentCause)) (now : ℕ) → 0 < k.remember_ms → stale k now (hears k s read now).sessions ≡ []
unfolding hears
heard-none k s read now some =
    none-listed k.remember_ms now (closes (to_trim k (answered k (passes k now s) read now)) (answered k (passes k now s) read now)).moments
    (closes-none-of k.remember_ms now (to_trim k (answered k (passes k now s) read now)) (answered k (passes k now s) read now) (answered-none k (passes k now s) read now some (passes-none k s now)))

ticked-none : (k : FaceKeys) (s : Sessions) (now : ℕ) → 0 < k.remember_ms → stale k now (ticks k s now).sessions ≡ []
unfolding ticks
ticked-none k s now some =
    none-listed k.remember_ms now (still_kept ((tick_step k.party (passes k now s).engine now).engine).receivers (passes k now s).moments)
    (none-filter k.remember_ms now (λ (e : ℕ × ℕ). is_some (find e.0 ((tick_step k.party (passes k now s).engine now).engine).receivers)) (passes k now s).moments (passes-none k s now))

pub none_is_stale : NoneIsStale
none_is_stale = record { heard = heard-none; ticked = ticked-none }
