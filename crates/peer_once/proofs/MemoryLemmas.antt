-- A number in the memory of a face, over the steps of that memory.

use Rattle.std.proofs.Common.{◌≡◌, ℕ, ◌+◌, ◌-◌, ◌/◌, ◌<◌, ◌≤◌, ◌==◌, Bool, true, false, not, ◌&&◌, ◌||◌, if◌then◌else◌, List, [], ◌∷◌, ◌++◌, length, take, drop, replicate, min, Some, None, is_some, ◌⊎◌, inl, inr, refl, sym, ◌∙◌, subst, arith, eqb-true}
use Rattle.std.proofs.lemmas.Bool.{leb-true, cases_eq, eq-eqb, ne_eqb}
use Rattle.std.proofs.lemmas.Bool.Decides.{nat_tests}
use Rattle.std.proofs.lemmas.List.{length-take, length-drop, length-replicate, length-append}
use Rattle.spans.specs.Places.{is_covered, is_in, with_covered}
use Rattle.spans.proofs.Places.{is_covered-with_covered, length-uncovered}
use Rattle.ltp_segment.specs.Values.{SegmentValue}
use Rattle.ltp_session.specs.Engine.{is_closed}
use Rattle.session_memory.specs.Numbers.{NumberSet, has, with_number, runs_in}
use Rattle.session_memory.specs.Memory.{Memory, nothing_remembered, is_remembered, turned, is_due, passed, is_full, with_place, forgotten_by, closed, is_old, touched, forgotten_at}
use Rattle.session_memory.proofs.NumberLemmas.{number-stays, runless}
use Rattle.peer_sessions.specs.Keys.{FaceKeys, with_marked, remembers_from}
use Rattle.peer_sessions.specs.Sessions.{Sessions, with_closed, is_touched, answer_to, met, memory_met, forgotten_met}
use Rattle.peer_sessions.proofs.MemoryLemmas.{LAST}

-- ---- sets of numbers

-- there is a place for each number
abbrev pub IsLong : NumberSet → Type 0
IsLong numbers = LAST ≤ length numbers.places

pub number-there : (numbers : NumberSet) (n : ℕ) → IsLong numbers → n ≤ LAST → has (with_number n numbers) n ≡ true
unfolding with_number
number-there numbers n long most = elim (cases_eq n LAST) [
  | inl is ↦ rw (eq-eqb n LAST is) (last numbers.last (is_covered numbers.places n))
  | inr differs ↦ rw (ne_eqb n LAST differs) (below differs)
] where
  last : (a b : Bool) → (b || ((a || true) && true)) ≡ true
  last true true = refl
  last true false = refl
  last false true = refl
  last false false = refl

  itself : (n : ℕ) → is_in n (n + 1) n ≡ true
  itself n = grind (arith, nat_tests)

  below : (n ≡ LAST → ⊥) → (is_covered (with_covered n (n + 1) numbers.places) n || ((numbers.last || false) && false)) ≡ true
  below differs =
      rw (is_covered-with_covered n (n + 1) numbers.places n (omega arith) (omega (arith, long, most, differs)), itself n)
      (by (is_covered numbers.places n) numbers.last) where
        by : (a b : Bool) → ((a || true) || ((b || false) && false)) ≡ true
        by true b = refl
        by false b = refl

-- a number more makes it no shorter
covers-long : (k : ℕ) (places : List Bool) → length places ≤ length (with_covered k (k + 1) places)
unfolding with_covered
covers-long k places =
    let all : length (take k places ++ (replicate ((k + 1) - k) true ++ drop (k + 1) places)) ≡ length (take k places) + length (replicate ((k + 1) - k) true ++ drop (k + 1) places) = length-append (take k places) _ in
    let rest : length (replicate ((k + 1) - k) true ++ drop (k + 1) places) ≡ length (replicate ((k + 1) - k) true) + length (drop (k + 1) places) = length-append (replicate ((k + 1) - k) true) _ in
    let front : length (take k places) ≡ min k (length places) = length-take k places in
    let middle : length (replicate ((k + 1) - k) true) ≡ (k + 1) - k = length-replicate ((k + 1) - k) true in
    let back : length (drop (k + 1) places) ≡ length places - (k + 1) = length-drop (k + 1) places in
    omega (arith, all, rest, front, middle, back)

long-with : (k : ℕ) (numbers : NumberSet) → IsLong numbers → IsLong (with_number k numbers)
unfolding with_number
long-with k numbers long = by (k == LAST) where
  by : (b : Bool) → LAST ≤ length (if b then numbers.places else with_covered k (k + 1) numbers.places)
  by true = long
  by false = let more = covers-long k numbers.places in omega (arith, long, more)

-- ---- what no step changes

-- the marked numbers, the time and the number of runs stay; and there is a place for each number
pub record Keeps (old new : Memory) : Type 0 where
  pub marked : new.marked ≡ old.marked
  pub keep : new.keep_ms ≡ old.keep_ms
  pub most : new.most ≡ old.most
  pub long : IsLong old.newer → IsLong new.newer

pub keeps-same : (m : Memory) → Keeps m m
keeps-same m = record { marked = refl; keep = refl; most = refl; long = λ is. is }

pub keeps-then : (a b c : Memory) → Keeps a b → Keeps b c → Keeps a c
keeps-then a b c one two = record {
  marked = two.marked ∙ one.marked;
  keep = two.keep ∙ one.keep;
  most = two.most ∙ one.most;
  long = λ is. two.long (one.long is);
}

keeps-turned : (now : ℕ) (m : Memory) → Keeps m (turned now m)
unfolding turned
keeps-turned now m = record { marked = refl; keep = refl; most = refl; long = λ is. let size = length-uncovered LAST in omega (arith, size) }

keeps-closed : (n : ℕ) (m : Memory) → Keeps m (closed n m)
keeps-closed n m = record { marked = refl; keep = refl; most = refl; long = λ is. long-with n m.newer is }

keeps-if : (b : Bool) (m x y : Memory) → Keeps m x → Keeps m y → Keeps m (if b then x else y)
keeps-if true m x y one two = one
keeps-if false m x y one two = two

pub keeps-passed : (now : ℕ) (m : Memory) → Keeps m (passed now m)
keeps-passed now m = keeps-if (is_due m now) m (turned now m) m (keeps-turned now m) (keeps-same m)

pub keeps-place : (now receiving : ℕ) (m : Memory) → Keeps m (with_place now receiving m)
keeps-place now receiving m = keeps-if (is_full m receiving) m (turned now m) m (keeps-turned now m) (keeps-same m)

pub keeps-with_closed : (numbers : List ℕ) (m : Memory) → Keeps m (with_closed numbers m)
unfolding with_closed
keeps-with_closed [] m = keeps-same m
keeps-with_closed (n ∷ numbers) m = keeps-then m (with_closed numbers m) (closed n (with_closed numbers m)) (keeps-with_closed numbers m) (keeps-closed n (with_closed numbers m))

keeps-touched : (n now receiving : ℕ) (m : Memory) → Keeps m (touched n now receiving m)
keeps-touched n now receiving m =
    keeps-if (is_old m n) m (closed n (with_place now receiving m)) m
    (keeps-then m (with_place now receiving m) (closed n (with_place now receiving m)) (keeps-place now receiving m) (keeps-closed n (with_place now receiving m)))
    (keeps-same m)

pub keeps-met : (k : FaceKeys) (s : Sessions) (segment : SegmentValue) (now : ℕ) → Keeps s.memory (memory_met k s segment now)
keeps-met k s segment now =
    keeps-if (not (met k s segment)) s.memory s.memory _ (keeps-same s.memory)
    (keeps-if (is_remembered s.memory segment.session) s.memory (touched segment.session now (length (s.engine).receivers) s.memory) _ (keeps-touched segment.session now (length (s.engine).receivers) s.memory)
    (keeps-if (is_touched (answer_to k s segment now)) s.memory (with_place now (length (s.engine).receivers) s.memory) s.memory (keeps-place now (length (s.engine).receivers) s.memory) (keeps-same s.memory)))

-- ---- a number lasts

-- It is marked, or among the newer ones, or among the older ones since that moment at the earliest: so it
-- stays for the time from that moment on.
pub data Lasts (m : Memory) (n from : ℕ) : Type 0 where
  for_good : has m.marked n ≡ true → Lasts m n from
  in_newer : has m.newer n ≡ true → Lasts m n from
  in_older : has m.older n ≡ true → from ≤ m.since → Lasts m n from

pub lasts-remembered : (m : Memory) (n from : ℕ) → Lasts m n from → is_remembered m n ≡ true
lasts-remembered m n from (for_good there) = rw there (by (has m.newer n) (has m.older n)) where
  by : (a b : Bool) → ((a || b) || true) ≡ true
  by true b = refl
  by false true = refl
  by false false = refl
lasts-remembered m n from (in_newer there) = rw there refl
lasts-remembered m n from (in_older there since) = rw there (by (has m.newer n) (has m.marked n)) where
  by : (a b : Bool) → ((a || true) || b) ≡ true
  by true b = refl
  by false b = refl

pub lasts-closed : (m : Memory) (n k from : ℕ) → Lasts m n from → Lasts (closed k m) n from
lasts-closed m n k from (for_good there) = for_good there
lasts-closed m n k from (in_newer there) = in_newer (number-stays m.newer k n there)
lasts-closed m n k from (in_older there since) = in_older there since

-- before the time has passed a turn that is due doesn't forget it
pub lasts-passed : (m : Memory) (n from now : ℕ) → Lasts m n from → from ≤ now → now < from + m.keep_ms → Lasts (passed now m) n from
unfolding turned
lasts-passed m n from now lasts after before = by (is_due m now) refl lasts where
  by : (t : Bool) → is_due m now ≡ t → Lasts m n from → Lasts (if t then turned now m else m) n from
  by false early lasts = lasts
  by true due (for_good there) = for_good there
  by true due (in_newer there) = in_older there after
  by true due (in_older there since) = let long = leb-true m.keep_ms (now - m.since) due in absurd (omega (arith, long, since, before, after))

-- it is forgotten by a turn for want of places
pub record IsLost (m : Memory) (n receiving : ℕ) : Type 0 where
  pub full : is_full m receiving ≡ true
  pub older : has m.older n ≡ true
  pub newer : has m.newer n ≡ false

lasts-place : (m : Memory) (n from now receiving : ℕ) → Lasts m n from → from ≤ now → Lasts (with_place now receiving m) n from ⊎ IsLost m n receiving
unfolding turned
lasts-place m n from now receiving lasts after = by (is_full m receiving) refl lasts where
  by_newer : is_full m receiving ≡ true → has m.older n ≡ true → (b : Bool) → has m.newer n ≡ b → Lasts (turned now m) n from ⊎ IsLost m n receiving
  by_newer full older true there = inl (in_older there after)
  by_newer full older false missing = inr (record { full = full; older = older; newer = missing })

  by : (t : Bool) → is_full m receiving ≡ t → Lasts m n from → Lasts (if t then turned now m else m) n from ⊎ IsLost m n receiving
  by false room lasts = inl lasts
  by true full (for_good there) = inl (for_good there)
  by true full (in_newer there) = inl (in_older there after)
  by true full (in_older there since) = by_newer full there (has m.newer n) refl

-- and that is told
lost-told : (m : Memory) (n receiving : ℕ) → IsLost m n receiving → is_some (forgotten_by m receiving) ≡ true
lost-told m n receiving lost = rw lost.full (by (runs_in m.older == 0) refl) where
  by : (b : Bool) → (runs_in m.older == 0) ≡ b → is_some (if b then None else Some (runs_in m.older)) ≡ true
  by true none = absurd (differ (runless m.older n (eqb-true (runs_in m.older) 0 none)) lost.older) where
    differ : {b : Bool} → b ≡ false → b ≡ true → ⊥
    differ is also = cc
  by false some = refl

-- ---- a segment

pub record IsLostBy (k : FaceKeys) (s : Sessions) (segment : SegmentValue) (now n : ℕ) : Type 0 where
  pub lost : IsLost s.memory n (length (s.engine).receivers)
  pub told : is_some (forgotten_met k s segment now) ≡ true

pub lasts-met : (k : FaceKeys) (s : Sessions) (segment : SegmentValue) (now n from : ℕ) → IsLong (s.memory).newer → n ≤ LAST → from ≤ now → Lasts s.memory n from
    → Lasts (memory_met k s segment now) n from ⊎ IsLostBy k s segment now n
lasts-met k s segment now n from long most after lasts = by_all (by (not (met k s segment)) (is_remembered s.memory segment.session) (is_touched (answer_to k s segment now))) where
  m : Memory
  m = s.memory

  size : ℕ
  size = length (s.engine).receivers

  placed : Lasts (with_place now size m) n from ⊎ IsLost m n size
  placed = lasts-place m n from now size lasts after

  made : Memory
  made = with_place now size m

  touched_so : Lasts (with_place now size m) n from ⊎ IsLost m n size → (same : Bool) → (segment.session == n) ≡ same
      → Lasts (closed segment.session (with_place now size m)) n from ⊎ (IsLost m n size × (is_some (forgotten_by m size) ≡ true))
  touched_so (inl stays_there) same is = inl (lasts-closed (with_place now size m) n segment.session from stays_there)
  touched_so (inr lost) true is =
      inl (in_newer (subst (λ j. has (with_number j (with_place now size m).newer) n ≡ true) (sym (eqb-true segment.session n is)) (number-there (with_place now size m).newer n ((keeps-place now size m).long long) most)))
  touched_so (inr lost) false is = inr (lost, lost-told m n size lost)

  by_old : (old : Bool) → Lasts (if old then closed segment.session (with_place now size m) else m) n from ⊎ (IsLost m n size × (is_some (if old then forgotten_by m size else None) ≡ true))
  by_old true = touched_so placed (segment.session == n) refl
  by_old false = inl lasts

  placed_so : Lasts (with_place now size m) n from ⊎ IsLost m n size → Lasts (with_place now size m) n from ⊎ (IsLost m n size × (is_some (forgotten_by m size) ≡ true))
  placed_so (inl stays_there) = inl stays_there
  placed_so (inr lost) = inr (lost, lost-told m n size lost)

  by : (a b c : Bool) → Lasts (if a then m else if b then touched segment.session now size m else if c then with_place now size m else m) n from
      ⊎ (IsLost m n size × (is_some (if a then None else if b then forgotten_at m segment.session size else if c then forgotten_by m size else None) ≡ true))
  by true b c = inl lasts
  by false true c = by_old (is_old m segment.session)
  by false false true = placed_so placed
  by false false false = inl lasts

  by_all : Lasts (memory_met k s segment now) n from ⊎ (IsLost m n size × (is_some (forgotten_met k s segment now) ≡ true)) → Lasts (memory_met k s segment now) n from ⊎ IsLostBy k s segment now n
  by_all (inl stays_there) = inl stays_there
  by_all (inr lost) = inr (record { lost = lost.0; told = lost.1 })

-- a number that is among the newer ones lasts from this moment on
pub newer-met : (k : FaceKeys) (s : Sessions) (segment : SegmentValue) (now n : ℕ) → IsLong (s.memory).newer → n ≤ LAST → has (s.memory).newer n ≡ true
    → Lasts (memory_met k s segment now) n now
newer-met k s segment now n long most there = by (lasts-met k s segment now n now long most (omega arith) (in_newer there)) where
  by : Lasts (memory_met k s segment now) n now ⊎ IsLostBy k s segment now n → Lasts (memory_met k s segment now) n now
  by (inl lasts) = lasts
  by (inr lost) = absurd (differ (lost.lost).newer there) where
    differ : {b : Bool} → b ≡ false → b ≡ true → ⊥
    differ is also = cc

-- so does one that is remembered, where a red piece of it comes
pub touched-lasts : (m : Memory) (n now receiving : ℕ) → IsLong m.newer → n ≤ LAST → is_remembered m n ≡ true → Lasts (touched n now receiving m) n now
touched-lasts m n now receiving long most there = by (has m.newer n) refl (has m.older n) refl (has m.marked n) refl there where
  by : (a : Bool) → has m.newer n ≡ a → (b : Bool) → has m.older n ≡ b → (c : Bool) → has m.marked n ≡ c → ((a || b) || c) ≡ true
      → Lasts (if (b && not a) && not c then closed n (with_place now receiving m) else m) n now
  by true newer true older true marked is = in_newer newer
  by true newer true older false marked is = in_newer newer
  by true newer false older c marked is = in_newer newer
  by false newer b older true marked is = for_good_if b where
    for_good_if : (b : Bool) → Lasts (if (b && true) && false then closed n (with_place now receiving m) else m) n now
    for_good_if true = for_good marked
    for_good_if false = for_good marked
  by false newer true older false marked is = in_newer (number-there (with_place now receiving m).newer n ((keeps-place now receiving m).long long) most)
  by false newer false older false marked is = absurd (cc)

-- ---- numbers that are remembered for good

marked-long : (numbers : List ℕ) (m : Memory) → IsLong m.marked → IsLong (with_marked numbers m).marked
unfolding with_marked
marked-long [] m long = long
marked-long (k ∷ numbers) m long = long-with k (with_marked numbers m).marked (marked-long numbers m long)

marked-there : (numbers : List ℕ) (n : ℕ) (m : Memory) → IsLong m.marked → n ≤ LAST → is_closed n numbers ≡ true → has (with_marked numbers m).marked n ≡ true
unfolding with_marked
marked-there [] n m long most there = absurd (cc)
marked-there (k ∷ numbers) n m long most there = by (k == n) refl there (λ more. marked-there numbers n m long most more) where
  by : (same : Bool) → (k == n) ≡ same → (same || is_closed n numbers) ≡ true → (is_closed n numbers ≡ true → has (with_marked numbers m).marked n ≡ true)
      → has (with_number k (with_marked numbers m).marked) n ≡ true
  by true is there rest = subst (λ j. has (with_number j (with_marked numbers m).marked) n ≡ true) (sym (eqb-true k n is)) (number-there (with_marked numbers m).marked n (marked-long numbers m long) most)
  by false is there rest = number-stays (with_marked numbers m).marked k n (rest there)

-- the others stay as they are
marked-others : (numbers : List ℕ) (m : Memory) → (with_marked numbers m).newer ≡ m.newer × ((with_marked numbers m).keep_ms ≡ m.keep_ms) × ((with_marked numbers m).most ≡ m.most)
unfolding with_marked
marked-others [] m = (refl, refl, refl)
marked-others (k ∷ numbers) m = marked-others numbers m

pub start-marked : (k : FaceKeys) (start n : ℕ) (marks : List ℕ) → n ≤ LAST → is_closed n marks ≡ true → has (remembers_from k start marks).marked n ≡ true
start-marked k start n marks most there = marked-there marks n (nothing_remembered (k.remember / 2) k.remember_ms start) (let size = length-uncovered LAST in omega (arith, size)) most there

-- a memory of a face
pub record IsOfFace (k : FaceKeys) (m : Memory) : Type 0 where
  pub keep : m.keep_ms ≡ k.remember_ms
  pub most : m.most ≡ k.remember / 2
  pub long : IsLong m.newer

pub start-face : (k : FaceKeys) (start : ℕ) (marks : List ℕ) → IsOfFace k (remembers_from k start marks)
start-face k start marks =
    let same = marked-others marks (nothing_remembered (k.remember / 2) k.remember_ms start) in
    record {
      keep = same.1;
      most = same.2;
      long = subst IsLong (sym same.0) (let size = length-uncovered LAST in omega (arith, size));
    }

pub keeps-face : (k : FaceKeys) (old new : Memory) → Keeps old new → IsOfFace k old → IsOfFace k new
keeps-face k old new keeps is = record { keep = keeps.keep ∙ is.keep; most = keeps.most ∙ is.most; long = keeps.long is.long }
