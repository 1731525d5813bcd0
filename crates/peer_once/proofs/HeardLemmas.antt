-- A session is kept only where a segment of it came within the time.

use Rattle.std.proofs.Common.{◌≡◌, ℕ, ◌+◌, ◌-◌, ◌<◌, ◌==◌, nat_le, Bool, true, false, ◌&&◌, ◌||◌, if◌then◌else◌, List, [], ◌∷◌, ◌++◌, map, None, is_some, Result, Ok, Err, inl, inr, refl, sym, ◌∙◌, ap, subst, arith, eqb-true}
use Rattle.std.specs.List.{AllByRecursion, filter}
use Rattle.std.specs.Map.{keys_of}
use Rattle.std.proofs.lemmas.Bool.{leb-false}
use Rattle.ltp_segment.specs.declared.fault.SegmentCause.{SegmentCause}
use Rattle.ltp_segment.specs.Values.{SegmentValue}
use Rattle.ltp_session.specs.Step.{ends}
use Rattle.ltp_session.specs.Table.{find, without}
use Rattle.ltp_session.specs.Engine.{is_closed, with_receiver, tick_step}
use Rattle.ltp_laws.proofs.LogLemmas.{all-weaker}
use Rattle.ltp_laws.proofs.TableLemmas.{self_eqb, find-without, find-without_other}
use Rattle.session_memory.specs.Memory.{passed}
use Rattle.peer_sessions.specs.Keys.{FaceKeys}
use Rattle.peer_sessions.specs.Sessions.{Sessions, left_by, closes, stale, passes, is_of_peer, is_touched, answer_to, moments_met, answers, answered, to_trim, hears, ticks}
use Rattle.peer_sessions.specs.Runs.{SessionsEvent, a_datagram, a_tick, a_block, sessions_then}
use Rattle.peer_sessions.proofs.OrderLemmas.{holds}
use Rattle.peer_sessions.proofs.TouchLemmas.{moments_are_touched}
use Rattle.peer_once.specs.Runs.{Face, TimedEvent, sessions_in, sessions_at, SomeOf, brings}
use Rattle.peer_once.specs.Laws.{KeptWhereHeard}
use Rattle.peer_once.proofs.KeptLemmas.{apart-of}

differ : {b : Bool} → b ≡ false → b ≡ true → ⊥
differ is also = cc

-- ---- lists of moments

all-filter : (Is : ℕ × ℕ → Type 0) (p : ℕ × ℕ → Bool) (moments : List (ℕ × ℕ)) → AllByRecursion Is moments → AllByRecursion Is (filter p moments)
all-filter Is p [] all = tt
all-filter Is p (e ∷ moments) all = by (p e) (all-filter Is p moments all.1) where
  by : (b : Bool) → AllByRecursion Is (filter p moments) → AllByRecursion Is (if b then e ∷ filter p moments else filter p moments)
  by true rest = (all.0, rest)
  by false rest = rest

all-without : (Is : ℕ × ℕ → Type 0) (n : ℕ) (moments : List (ℕ × ℕ)) → AllByRecursion Is moments → AllByRecursion Is (without n moments)
unfolding without
all-without Is n [] all = tt
all-without Is n (e ∷ moments) all = by (e.0 == n) (all-without Is n moments all.1) where
  by : (b : Bool) → AllByRecursion Is (without n moments) → AllByRecursion Is (if b then without n moments else e ∷ without n moments)
  by true rest = rest
  by false rest = (all.0, rest)

all-last : (Is : ℕ × ℕ → Type 0) (moments : List (ℕ × ℕ)) (last : ℕ × ℕ) → AllByRecursion Is moments → Is last → AllByRecursion Is (moments ++ last ∷ [])
all-last Is [] last all is = (is, tt)
all-last Is (e ∷ moments) last all is = (all.0, all-last Is moments last all.1 is)

-- ---- each moment is that of a segment

all-closes : (Is : ℕ × ℕ → Type 0) (numbers : List ℕ) (s : Sessions) → AllByRecursion Is s.moments → AllByRecursion Is (closes numbers s).moments
unfolding closes
all-closes Is [] s all = all
all-closes Is (n ∷ numbers) s all =
    all-closes Is numbers (left_by (with_receiver s.engine n ends) s.memory s.moments)
    (all-filter Is (λ (e : ℕ × ℕ). is_some (find e.0 (with_receiver s.engine n ends).receivers)) s.moments all)

all-passes : (Is : ℕ × ℕ → Type 0) (k : FaceKeys) (now : ℕ) (s : Sessions) → AllByRecursion Is s.moments → AllByRecursion Is (passes k now s).moments
all-passes Is k now s all = all-closes Is (stale k now s) (record s { memory = passed now s.memory }) all

all-answered : (Is : ℕ × ℕ → Type 0) (k : FaceKeys) (s : Sessions) (read : Result SegmentValue (ℕ × SegmentCause)) (now : ℕ) → ((n : ℕ) → brings k n (a_datagram read) ≡ true → Is (n, now))
    → AllByRecursion Is s.moments → AllByRecursion Is (answered k s read now).moments
all-answered Is k s (Err refusal) now new all = all
all-answered Is k s (Ok segment) now new all =
    all-filter Is (λ (e : ℕ × ℕ). is_some (find e.0 ((answers k s (Ok segment) now).engine).receivers)) (moments_met k s segment now)
    (by (is_of_peer k segment.originator) refl (is_touched (answer_to k s segment now))) where
      by : (peer : Bool) → is_of_peer k segment.originator ≡ peer → (kept : Bool)
          → AllByRecursion Is (if peer && kept then without segment.session s.moments ++ (segment.session, now) ∷ [] else s.moments)
      by true peer true =
          all-last Is (without segment.session s.moments) (segment.session, now) (all-without Is segment.session s.moments all) (new segment.session (rw (peer, self_eqb segment.session) refl))
      by true peer false = all
      by false peer kept = all

-- this event brought a segment of the session of a moment, at that moment
abbrev Brought : Face → ℕ × ℕ → TimedEvent → Type 0
Brought f entry event = (brings f.keys entry.0 event.1 ≡ true) × (event.0 ≡ entry.1)

abbrev IsBrought : Face → List TimedEvent → ℕ × ℕ → Type 0
IsBrought f events entry = SomeOf (λ event before. Brought f entry event) events []

moments-brought : (f : Face) (events : List TimedEvent) → AllByRecursion (IsBrought f events) (sessions_in f events).moments
unfolding hears ticks
moments-brought f [] = tt
moments-brought f (event ∷ earlier) = by event.0 event.1 refl refl (all-weaker (IsBrought f earlier) (IsBrought f (event ∷ earlier)) (λ e is. inr is) (sessions_in f earlier).moments (moments-brought f earlier)) where
  Is : ℕ × ℕ → Type 0
  Is entry = IsBrought f (event ∷ earlier) entry

  by : (now : ℕ) (e : SessionsEvent) → event.0 ≡ now → event.1 ≡ e → AllByRecursion Is (sessions_in f earlier).moments → AllByRecursion Is (sessions_then f.keys now e (sessions_in f earlier)).moments
  by now (a_datagram read) at is all =
      all-closes Is (to_trim f.keys (answered f.keys (sessions_at f earlier now) read now)) (answered f.keys (sessions_at f earlier now) read now)
      (all-answered Is f.keys (sessions_at f earlier now) read now (λ n brought. inl (ap (λ x. brings f.keys n x) is ∙ brought, at))
      (all-passes Is f.keys now (sessions_in f earlier) all))
  by now a_tick at is all =
      all-filter Is (λ (e : ℕ × ℕ). is_some (find e.0 ((tick_step f.keys.party (sessions_at f earlier now).engine now).engine).receivers)) (sessions_at f earlier now).moments
      (all-passes Is f.keys now (sessions_in f earlier) all)
  by now (a_block block) at is all = all

-- ---- one that is kept once time has passed

record IsLeft (n : ℕ) (numbers : List ℕ) (s : Sessions) : Type 0 where
  kept : is_some (find n (s.engine).receivers) ≡ true
  apart : is_closed n numbers ≡ false

closes-left : (n : ℕ) (numbers : List ℕ) (s : Sessions) → is_some (find n ((closes numbers s).engine).receivers) ≡ true → IsLeft n numbers s
unfolding closes with_receiver
closes-left n [] s kept = record { kept = kept; apart = refl }
closes-left n (m ∷ numbers) s kept = by (m == n) refl (closes-left n numbers (left_by (with_receiver s.engine m ends) s.memory s.moments) kept) where
  by : (same : Bool) → (m == n) ≡ same → IsLeft n numbers (left_by (with_receiver s.engine m ends) s.memory s.moments) → IsLeft n (m ∷ numbers) s
  by true is left = absurd (differ (ap (λ x. is_some x) (subst (λ j. find j (without m (s.engine).receivers) ≡ None) (eqb-true m n is) (find-without m (s.engine).receivers))) left.kept)
  by false is left = record {
    kept = ap (λ x. is_some x) (sym (find-without_other n m (s.engine).receivers (apart-of m n is))) ∙ left.kept;
    apart = rw is left.apart;
  }

-- the moment of one that has a moment, and isn't stale
record IsAt (Is : ℕ × ℕ → Type 0) (keep now n : ℕ) : Type 0 where
  moment : ℕ
  such : Is (n, moment)
  soon : nat_le keep (now - moment) ≡ false

entry-of : (Is : ℕ × ℕ → Type 0) (keep now n : ℕ) (moments : List (ℕ × ℕ)) → AllByRecursion Is moments → is_closed n (keys_of moments) ≡ true
    → is_closed n (map (λ (e : ℕ × ℕ). e.0) (filter (λ (e : ℕ × ℕ). nat_le keep (now - e.1)) moments)) ≡ false → IsAt Is keep now n
entry-of Is keep now n [] all there apart = absurd (cc)
entry-of Is keep now n (e ∷ moments) all there apart = by (e.0 == n) refl (nat_le keep (now - e.1)) refl there apart (λ more rest. entry-of Is keep now n moments all.1 more rest) where
  numbers : List ℕ
  numbers = map (λ (x : ℕ × ℕ). x.0) (filter (λ (x : ℕ × ℕ). nat_le keep (now - x.1)) moments)

  by : (same : Bool) → (e.0 == n) ≡ same → (old : Bool) → nat_le keep (now - e.1) ≡ old → (same || is_closed n (keys_of moments)) ≡ true
      → is_closed n (map (λ (x : ℕ × ℕ). x.0) (if old then e ∷ filter (λ (x : ℕ × ℕ). nat_le keep (now - x.1)) moments else filter (λ (x : ℕ × ℕ). nat_le keep (now - x.1)) moments)) ≡ false
      → (is_closed n (keys_of moments) ≡ true → is_closed n (map (λ (x : ℕ × ℕ). x.0) (filter (λ (x : ℕ × ℕ). nat_le keep (now - x.1)) moments)) ≡ false → IsAt Is keep now n) → IsAt Is keep now n
  by true is true late there apart rest = absurd (differ apart (rw is refl))
  by true is false soon there apart rest = record { moment = e.1; such = subst (λ j. Is (j, e.1)) (eqb-true e.0 n is) all.0; soon = soon }
  by false is true late there apart rest = rest there (rw is at apart)
  by false is false soon there apart rest = rest there apart

heard-within : (f : Face) (n now moment : ℕ) (events earlier : List TimedEvent) → now < moment + f.keys.remember_ms → SomeOf (λ event before. Brought f (n, moment) event) events earlier
    → SomeOf (λ event before. (brings f.keys n event.1 ≡ true) × (now < event.0 + f.keys.remember_ms)) events earlier
heard-within f n now moment [] earlier soon some = some
heard-within f n now moment (e ∷ events) earlier soon (inl brought) = inl (brought.0, (let same = brought.1 in omega (arith, soon, same)))
heard-within f n now moment (e ∷ events) earlier soon (inr some) = inr (heard-within f n now moment events earlier soon some)

pub kept_where_heard : KeptWhereHeard
kept_where_heard f n now events one kept =
    let left : IsLeft n (stale f.keys now (sessions_in f events)) (record (sessions_in f events) { memory = passed now (sessions_in f events).memory }) =
    closes-left n (stale f.keys now (sessions_in f events)) (record (sessions_in f events) { memory = passed now (sessions_in f events).memory }) kept in
    let order = (holds f.keys f.start f.marks events one).order in
    let there : is_closed n (keys_of (sessions_in f events).moments) ≡ true = ap (λ ns. is_closed n ns) (moments_are_touched f.keys f.start f.marks events one) ∙ (order.kept n ∙ left.kept) in
    let at : IsAt (IsBrought f events) f.keys.remember_ms now n = entry-of (IsBrought f events) f.keys.remember_ms now n (sessions_in f events).moments (moments-brought f events) there left.apart in
    let soon = leb-false f.keys.remember_ms (now - at.moment) at.soon in
    heard-within f n now at.moment events [] (omega (arith, soon)) at.such
