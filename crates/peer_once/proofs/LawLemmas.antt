-- A red part is handed up again only after the time, or where a number was forgotten early; and one that is
-- remembered for good is never handed up.

use Rattle.std.proofs.Common.{◌≡◌, ℕ, ◌+◌, ◌<◌, ◌≤◌, Bool, true, false, not, ◌&&◌, ◌||◌, List, [], ◌∷◌, ◌++◌, Option, Some, None, is_some, ◌⊎◌, inl, inr, refl, sym, subst, arith}
use Rattle.std.specs.List.{AllByRecursion}
use Rattle.std.proofs.lemmas.Bool.{leb-true, cases_lt}
use Rattle.ltp_session.specs.Receiver.{Receiving}
use Rattle.ltp_session.specs.Table.{find}
use Rattle.ltp_session.specs.Engine.{is_closed}
use Rattle.session_memory.specs.Numbers.{NumberSet, has}
use Rattle.session_memory.specs.Memory.{is_remembered, passed}
use Rattle.peer_sessions.specs.Sessions.{stale}
use Rattle.peer_sessions.proofs.MemoryLemmas.{LAST}
use Rattle.peer_sessions.proofs.OrderLemmas.{holds, closes-order}
use Rattle.peer_once.specs.Runs.{Face, TimedEvent, sessions_in, sessions_at, AreInOrder, ComeBetween, SomeOf, EachOf, ForgetsNothing, is_kept, is_known, brings_red, opens, hands_up, is_there, IsForgotten}
use Rattle.peer_once.specs.Laws.{NoneOfTheMarked, OpensAnew, HandedUpOnceInTime, HandedUpApart}
use Rattle.peer_once.proofs.MemoryLemmas.{start-marked, for_good, lasts-remembered}
use Rattle.peer_once.proofs.TimeLemmas.{keeps-passes, keeps-event, face-memory, passes-face, KeptOrLasts, passes-lasts, WasLost, since-lasts, known-so, none-told}
use Rattle.peer_once.proofs.UpLemmas.{is_quiet}
use Rattle.peer_once.proofs.OnceLemmas.{IsQuiet, event-hands, handed_up_again}

differ : {b : Bool} → b ≡ false → b ≡ true → ⊥
differ is also = cc

-- ---- one that is remembered for good

marked-stays : (f : Face) (n : ℕ) (events : List TimedEvent) → n ≤ LAST → is_closed n f.marks ≡ true → has ((sessions_in f events).memory).marked n ≡ true
marked-stays f n [] most there = start-marked f.keys f.start n f.marks most there
marked-stays f n (event ∷ earlier) most there =
    subst (λ (numbers : NumberSet). has numbers n ≡ true) (sym (keeps-event f.keys event.0 event.1 (sessions_in f earlier)).marked) (marked-stays f n earlier most there)

marked-closed : (f : Face) (n : ℕ) (event : TimedEvent) (earlier : List TimedEvent) → n ≤ LAST → is_closed n f.marks ≡ true → opens f n event earlier ≡ false
marked-closed f n event earlier most there = by (brings_red f.keys n event.1) (is_kept n (sessions_at f earlier event.0)) remembered where
  remembered : is_remembered (sessions_at f earlier event.0).memory n ≡ true
  remembered = lasts-remembered (sessions_at f earlier event.0).memory n 0 (for_good
      (subst (λ (numbers : NumberSet). has numbers n ≡ true) (sym (keeps-passes f.keys event.0 (sessions_in f earlier)).marked) (marked-stays f n earlier most there)))

  by : (a b : Bool) {c : Bool} → c ≡ true → (a && not (b || c)) ≡ false
  by true true is = refl
  by true false is = rw is refl
  by false b is = refl

marked-quiet : (f : Face) (n : ℕ) (events : List TimedEvent) → n ≤ LAST → is_closed n f.marks ≡ true → IsQuiet n (sessions_in f events).engine
unfolding find
marked-quiet f n [] most there = refl
marked-quiet f n (event ∷ earlier) most there =
    ((event-hands f n event.0 event.1 earlier).rests (marked-quiet f n earlier most there) (marked-closed f n event earlier most there)).1

pub none_of_the_marked : NoneOfTheMarked
none_of_the_marked f n event earlier most there =
    ((event-hands f n event.0 event.1 earlier).rests (marked-quiet f n earlier (omega (arith, most)) there) (marked-closed f n event earlier (omega (arith, most)) there)).0

-- ---- one that was there

all-at : (Is : TimedEvent → Type 0) (since : List TimedEvent) (there : TimedEvent) (before : List TimedEvent) → AllByRecursion Is (since ++ (there ∷ before)) → Is there
all-at Is [] there before all = all.0
all-at Is (e ∷ since) there before all = all-at Is since there before all.1

between-so : (bound to : ℕ) (since : List TimedEvent) (there : TimedEvent) (before : List TimedEvent) → bound < to
    → AllByRecursion (λ (e : TimedEvent). e.0 ≤ bound) (since ++ (there ∷ before)) → AreInOrder (since ++ (there ∷ before)) → ComeBetween there.0 to since
between-so bound to [] there before soon all order = tt
between-so bound to (e ∷ since) there before soon all order =
    ((all-at (λ (x : TimedEvent). x.0 ≤ e.0) since there before order.0, (let low = all.0 in omega (arith, soon, low))), between-so bound to since there before soon all.1 order.1)

forgotten-so : (f : Face) (n : ℕ) (event : TimedEvent) (earlier : List TimedEvent) → 1 ≤ (f.keys.bounds).sessions → WasLost f n event earlier → IsForgotten f n event earlier
forgotten-so f n event earlier some was = record {
  told = was.told;
  older = (was.lost).older;
  newer = (was.lost).newer;
  places =
      let order = closes-order (f.keys.bounds).sessions (stale f.keys event.0 (sessions_in f earlier)) (record (sessions_in f earlier) { memory = passed event.0 (sessions_in f earlier).memory })
      (holds f.keys f.start f.marks earlier some).order in
      let few = order.few in
      let most = (passes-face f.keys (sessions_in f earlier) event.0 (face-memory f earlier)).most in
      let full = leb-true _ _ (was.lost).full in
      omega (arith, few, most, full);
}

some-forgotten : (f : Face) (n : ℕ) (since earlier : List TimedEvent) → 1 ≤ (f.keys.bounds).sessions → SomeOf (WasLost f n) since earlier → SomeOf (IsForgotten f n) since earlier
some-forgotten f n [] earlier one some = absurd some
some-forgotten f n (e ∷ since) earlier one (inl was) = inl (forgotten-so f n e (since ++ earlier) one was)
some-forgotten f n (e ∷ since) earlier one (inr some) = inr (some-forgotten f n since earlier one some)

never : (a b : Bool) → b ≡ true → (a && not b) ≡ true → ⊥
never true true known opens_so = differ refl opens_so
never true false known opens_so = differ refl known
never false b known opens_so = differ refl opens_so

opens-anew : (f : Face) (n : ℕ) (event : TimedEvent) (earlier : List TimedEvent) → n ≤ LAST → 1 ≤ (f.keys.bounds).sessions → AreInOrder (event ∷ earlier) → opens f n event earlier ≡ true → OpensAnew f n event earlier
opens-anew f n event earlier most one order is = record { opens_now = is; forgotten = forgotten } where
  forgotten : (there : TimedEvent) (since before : List TimedEvent) → earlier ≡ since ++ (there ∷ before) → is_there f n there before ≡ true → event.0 < there.0 + f.keys.remember_ms
      → SomeOf (IsForgotten f n) since (there ∷ before)
  forgotten there since before split was soon = by (since-lasts f n there since before most was (between-so event.0 (there.0 + f.keys.remember_ms) since there before soon ordered.0 ordered.1)) where
    ordered : AreInOrder (event ∷ (since ++ (there ∷ before)))
    ordered = subst (λ events. AreInOrder (event ∷ events)) split order

    by : KeptOrLasts n there.0 (sessions_in f (since ++ (there ∷ before))) ⊎ SomeOf (WasLost f n) since (there ∷ before) → SomeOf (IsForgotten f n) since (there ∷ before)
    by (inr some) = some-forgotten f n since (there ∷ before) one some
    by (inl still) =
        let lasts = passes-lasts f.keys (sessions_in f (since ++ (there ∷ before))) n there.0 event.0 most (face-memory f (since ++ (there ∷ before)))
        (all-at (λ (x : TimedEvent). x.0 ≤ event.0) since there before ordered.0) soon still in
        absurd (never (brings_red f.keys n event.1) (is_known n (sessions_at f (since ++ (there ∷ before)) event.0)) (known-so n there.0 (sessions_at f (since ++ (there ∷ before)) event.0) lasts)
        (subst (λ events. opens f n event events ≡ true) split is))

some-anew : (f : Face) (n : ℕ) (since earlier : List TimedEvent) → n ≤ LAST → 1 ≤ (f.keys.bounds).sessions → AreInOrder (since ++ earlier) → SomeOf (λ event before. opens f n event before ≡ true) since earlier
    → SomeOf (OpensAnew f n) since earlier
some-anew f n [] earlier most one order some = absurd some
some-anew f n (e ∷ since) earlier most one order (inl is) = inl (opens-anew f n e (since ++ earlier) most one order is)
some-anew f n (e ∷ since) earlier most one order (inr some) = inr (some-anew f n since earlier most one order.1 some)

pub handed_up_once_in_time : HandedUpOnceInTime
handed_up_once_in_time f n second first between earlier most one order up again =
    some-anew f n (second ∷ between) (first ∷ earlier) (omega (arith, most)) one order (handed_up_again f n second first between earlier up again)

-- ---- twice within the time

-- what is handed up was there: it was kept, or else it opened
was-there : (f : Face) (n : ℕ) (event : TimedEvent) (earlier : List TimedEvent) → hands_up f n event earlier ≡ true → is_there f n event earlier ≡ true
was-there f n event earlier up = by (is_kept n (sessions_in f earlier)) refl (brings_red f.keys n event.1) refl where
  quiet : (kept : Option Receiving) → is_some kept ≡ false → is_quiet kept ≡ true
  quiet None none = refl
  quiet (Some r) none = absurd (cc)

  by : (kept : Bool) → is_kept n (sessions_in f earlier) ≡ kept → (red : Bool) → brings_red f.keys n event.1 ≡ red → (kept || red) ≡ true
  by true kept red is = refl
  by false none true is = refl
  by false none false is =
      let rest = (event-hands f n event.0 event.1 earlier).rests (quiet (find n ((sessions_in f earlier).engine).receivers) none) (rw is refl) in
      absurd (differ rest.0 up)

-- within the time it doesn't open
no-opening : (f : Face) (n : ℕ) (first event : TimedEvent) (since earlier : List TimedEvent) → n ≤ LAST → is_there f n first earlier ≡ true → first.0 ≤ event.0 → event.0 < first.0 + f.keys.remember_ms
    → ComeBetween first.0 (first.0 + f.keys.remember_ms) since → EachOf (ForgetsNothing f) since (first ∷ earlier) → opens f n event (since ++ (first ∷ earlier)) ≡ true → ⊥
no-opening f n first event since earlier most there after before between none is = by (since-lasts f n first since earlier most there between) where
  by : KeptOrLasts n first.0 (sessions_in f (since ++ (first ∷ earlier))) ⊎ SomeOf (WasLost f n) since (first ∷ earlier) → ⊥
  by (inr some) = none-told f n since (first ∷ earlier) none some
  by (inl still) =
      let lasts = passes-lasts f.keys (sessions_in f (since ++ (first ∷ earlier))) n first.0 event.0 most (face-memory f (since ++ (first ∷ earlier))) after before still in
      never (brings_red f.keys n event.1) (is_known n (sessions_at f (since ++ (first ∷ earlier)) event.0)) (known-so n first.0 (sessions_at f (since ++ (first ∷ earlier)) event.0) lasts) is

none-opens : (f : Face) (n : ℕ) (first : TimedEvent) (since earlier : List TimedEvent) → n ≤ LAST → is_there f n first earlier ≡ true
    → ComeBetween first.0 (first.0 + f.keys.remember_ms) since → EachOf (ForgetsNothing f) since (first ∷ earlier) → SomeOf (λ event before. opens f n event before ≡ true) since (first ∷ earlier) → ⊥
none-opens f n first [] earlier most there between none some = some
none-opens f n first (e ∷ since) earlier most there between none (inl is) = no-opening f n first e since earlier most there between.0.0 between.0.1 between.1 none.1 is
none-opens f n first (e ∷ since) earlier most there between none (inr some) = none-opens f n first since earlier most there between.1 none.1 some

pub handed_up_apart : HandedUpApart
handed_up_apart f n second first between earlier most order none up again = elim (cases_lt second.0 (first.0 + f.keys.remember_ms)) [
  | inr late ↦ late
  | inl soon ↦ absurd (by soon (handed_up_again f n second first between earlier up again))
] where
  within : second.0 < first.0 + f.keys.remember_ms → ComeBetween first.0 (first.0 + f.keys.remember_ms) between
  within soon = between-so second.0 (first.0 + f.keys.remember_ms) between first earlier soon order.0 order.1

  by : second.0 < first.0 + f.keys.remember_ms → SomeOf (λ event before. opens f n event before ≡ true) (second ∷ between) (first ∷ earlier) → ⊥
  by soon (inl is) =
      no-opening f n first second between earlier (omega (arith, most)) (was-there f n first earlier up) (all-at (λ (x : TimedEvent). x.0 ≤ second.0) between first earlier order.0) soon (within soon) none is
  by soon (inr some) = none-opens f n first between earlier (omega (arith, most)) (was-there f n first earlier up) (within soon) none some
