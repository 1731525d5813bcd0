-- What the parts of a face keep through its steps.

use Rattle.std.proofs.Common.{◌≡◌, ◌≢◌, ℕ, ◌<◌, ◌≤◌, Bool, true, false, nat_eq, nat_le, ◌-◌, List, [], ◌∷◌, length, map, is_some, ◌==◌, ◌||◌, not, refl, sym, ◌∙◌, ap, subst, arith, if◌then◌else◌}
use Rattle.std.proofs.lemmas.Bool.Decides.{nat_tests}
use Rattle.std.specs.List.{AllByRecursion, IsDistinct, filter}
use Rattle.std.specs.Map.{keys_of}
use Rattle.peer_sessions.proofs.MemoryLemmas.{LAST}
use Rattle.session_memory.specs.Numbers.{runs_in}
use Rattle.session_memory.specs.Memory.{Memory, closed, turned, passed, is_due}
use Rattle.spans.proofs.Places.{length-uncovered}
use Rattle.session_memory.proofs.NumberLemmas.{no-runs}
use Rattle.ltp_session.specs.Step.{ends}
use Rattle.ltp_session.specs.Receiver.{Receiving}
use Rattle.ltp_session.specs.Table.{find, without}
use Rattle.ltp_session.specs.Engine.{is_closed, with_receiver}
use Rattle.ltp_laws.proofs.TableLemmas.{find-without_other, ascending-without}
use Rattle.ltp_engine.specs.Values.{EngineValue}
use Rattle.ltp_engine.specs.Bounds.{IsBounded}
use Rattle.ltp_engine.specs.Shows.{AreDistinct}
use Rattle.ltp_engine.specs.Sessions.{is_receiving, cells_in}
use Rattle.peer_sessions.proofs.CellLemmas.{cells-without}
use Rattle.ltp_engine.specs.Elsewhere.{released}
use Rattle.ltp_engine.proofs.KeepLemmas.{length-without_found}
use Rattle.peer_sessions.specs.declared.keys.Keys.{Keys}
use Rattle.peer_sessions.specs.Sessions.{Sessions, with_closed, still_kept, left_by, closes}
use Rattle.peer_sessions.specs.Moments.{stale_in}
use Rattle.peer_sessions.specs.Views.{engine_of, sessions_of, IsOfKept, AreWhole}
use Rattle.peer_sessions.proofs.MemoryLemmas.{set-closed, runs-closed}

-- ---- moments

all-filter : {X : Type 0} (P : X → Type 0) (p : X → Bool) (xs : List X) → ((x : X) → p x ≡ true → P x) → AllByRecursion P (filter p xs)
all-filter P p [] holds = tt
all-filter {X = X} P p (x ∷ xs) holds = by_test (p x) refl (all-filter P p xs holds) where
  by_test : (b : Bool) → p x ≡ b → AllByRecursion P (filter p xs) → AllByRecursion P (if b then x ∷ filter p xs else filter p xs)
  by_test true is rest = (holds x is, rest)
  by_test false is rest = rest

pub kept-still : (receivers : List (ℕ × Receiving)) (moments : List (ℕ × ℕ)) → AllByRecursion (IsOfKept receivers) (still_kept receivers moments)
kept-still receivers moments = all-filter (IsOfKept receivers) (λ (entry : ℕ × ℕ). is_some (find entry.0 receivers)) moments (λ entry is. is)

apart-filter : (n : ℕ) (p : ℕ × ℕ → Bool) (moments : List (ℕ × ℕ)) → AllByRecursion (λ k. nat_eq n k ≡ false) (keys_of moments)
    → AllByRecursion (λ k. nat_eq n k ≡ false) (keys_of (filter p moments))
apart-filter n p [] all = tt
apart-filter n p (e ∷ moments) all = by_test (p e) (apart-filter n p moments all.1) where
  by_test : (b : Bool) → AllByRecursion (λ k. nat_eq n k ≡ false) (keys_of (filter p moments))
      → AllByRecursion (λ k. nat_eq n k ≡ false) (keys_of (if b then e ∷ filter p moments else filter p moments))
  by_test true rest = (all.0, rest)
  by_test false rest = rest

pub once-filter : (p : ℕ × ℕ → Bool) (moments : List (ℕ × ℕ)) → IsDistinct nat_eq (keys_of moments) → IsDistinct nat_eq (keys_of (filter p moments))
unfolding IsDistinct
once-filter p [] once = tt
once-filter p (e ∷ moments) once = by_test (p e) (once-filter p moments once.1) where
  by_test : (b : Bool) → IsDistinct nat_eq (keys_of (filter p moments)) → IsDistinct nat_eq (keys_of (if b then e ∷ filter p moments else filter p moments))
  by_test true rest = (apart-filter e.0 p moments once.0, rest)
  by_test false rest = rest

pub without-filter : (n : ℕ) (moments : List (ℕ × ℕ)) → without n moments ≡ filter (λ (e : ℕ × ℕ). not (e.0 == n)) moments
unfolding without
without-filter n [] = refl
without-filter n (e ∷ moments) = by_test (e.0 == n) (without-filter n moments) where
  by_test : (same : Bool) → without n moments ≡ filter (λ (e : ℕ × ℕ). not (e.0 == n)) moments
      → (if same then without n moments else e ∷ without n moments) ≡ (if not same then e ∷ filter (λ (e : ℕ × ℕ). not (e.0 == n)) moments else filter (λ (e : ℕ × ℕ). not (e.0 == n)) moments)
  by_test true rest = rest
  by_test false rest = ap (λ es. e ∷ es) rest

-- ---- a session is let go

pub record LetGo (k : Keys) (n : ℕ) (v now : EngineValue) (m kept : Memory) (moments left : List (ℕ × ℕ)) : Type 0 where
  pub whole : AreWhole k now kept left
  pub state : sessions_of now kept left ≡ left_by (with_receiver (engine_of v) n ends) m moments

pub let-go : (k : Keys) (n : ℕ) (v now : EngineValue) (m kept : Memory) (moments left : List (ℕ × ℕ)) → n ≤ LAST → AreWhole k v m moments → is_receiving n (v.inbound).receivers ≡ true
    → now ≡ record v { inbound = released n v.inbound } → IsBounded now → kept ≡ closed n m → left ≡ still_kept (now.inbound).receivers moments → LetGo k n v now m kept moments left
unfolding with_receiver with_closed
let-go k n v now m kept moments left most whole is engine bounded memory moments_are =
    subst (λ (l : List (ℕ × ℕ)). LetGo k n v now m kept moments l) (sym (moments_are ∙ ap (λ (w : EngineValue). still_kept (w.inbound).receivers moments) engine))
    (subst (λ (c : Memory). LetGo k n v now m c moments (still_kept (without n (v.inbound).receivers) moments)) (sym memory)
    (subst (λ (w : EngineValue). LetGo k n v w m (closed n m) moments (still_kept (without n (v.inbound).receivers) moments)) (sym engine)
    (record {
      whole = record {
        fit = whole.fit;
        whole = whole.whole;
        party = whole.party;
        none = whole.none;
        bounded = subst IsBounded engine bounded;
        ascending = ascending-without n 0 (v.inbound).receivers whole.ascending;
        most = whole.most;
        keep = whole.keep;
        set = set-closed n m whole.set most;
        places =
            let fewer = length-without_found n (v.inbound).receivers is in
            let more = runs-closed n m whole.set most in
            omega (arith, fewer, more, whole.places);
        kept = kept-still (without n (v.inbound).receivers) moments;
        once = once-filter (λ (entry : ℕ × ℕ). is_some (find entry.0 (without n (v.inbound).receivers))) moments whole.once;
      };
      state = refl;
    })))

pub let-go-cells : (n : ℕ) (v now : EngineValue) (most : ℕ) → now ≡ record v { inbound = released n v.inbound } → cells_in (v.inbound).receivers ≤ most → cells_in (now.inbound).receivers ≤ most
let-go-cells n v now most is few = subst (λ (w : EngineValue). cells_in (w.inbound).receivers ≤ most) (sym is) (let fewer = cells-without n (v.inbound).receivers in omega (arith, fewer, few))

pub let-go-room : (k : Keys) (n : ℕ) (v : EngineValue) (m : Memory) (moments : List (ℕ × ℕ)) → AreWhole k v m moments → is_receiving n (v.inbound).receivers ≡ true → runs_in m.newer < m.most
let-go-room k n v m moments whole is = let fewer = length-without_found n (v.inbound).receivers is in omega (arith, fewer, whole.places)

-- ---- several are let go

abbrev pub AreKept : List (ℕ × Receiving) → List ℕ → Type 0
AreKept receivers numbers = AllByRecursion (λ n. is_receiving n receivers ≡ true) numbers

-- once one of them is gone the others are kept
kept-others : (n : ℕ) (numbers : List ℕ) (receivers : List (ℕ × Receiving)) → is_closed n numbers ≡ false → AreKept receivers numbers → AreKept (without n receivers) numbers
kept-others n [] receivers apart all = tt
kept-others n (m ∷ numbers) receivers apart all =
    let both : ((m == n) ≡ false) × (is_closed n numbers ≡ false) = parts (m == n) (is_closed n numbers) apart in
    (ap (λ kept. is_some kept) (find-without_other m n receivers (differ m both.0)) ∙ all.0, kept-others n numbers receivers both.1 all.1) where
      parts : (a b : Bool) → (a || b) ≡ false → (a ≡ false) × (b ≡ false)
      parts false b is = (refl, is)
      parts true b is = absurd (cc)

      differ : (m : ℕ) → (m == n) ≡ false → m ≢ n
      differ m is e = absurd (grind (arith, nat_tests))

-- some were let go of all, and others weren't
pub record Closing (k : Keys) (v : EngineValue) (m : Memory) (moments : List (ℕ × ℕ)) (left : List ℕ) (all : Sessions) : Type 0 where
  pub whole : AreWhole k v m moments
  pub kept : AreKept (v.inbound).receivers left
  pub once : AreDistinct left
  pub goes_on : closes left (sessions_of v m moments) ≡ all

pub closing-start : (k : Keys) (v : EngineValue) (m : Memory) (moments : List (ℕ × ℕ)) (numbers : List ℕ) → AreWhole k v m moments → AreKept (v.inbound).receivers numbers → AreDistinct numbers
    → Closing k v m moments numbers (closes numbers (sessions_of v m moments))
closing-start k v m moments numbers whole kept once = record { whole = whole; kept = kept; once = once; goes_on = refl }

pub closing-more : (k : Keys) (v now : EngineValue) (m m' : Memory) (moments moments' : List (ℕ × ℕ)) (n : ℕ) (left : List ℕ) (all : Sessions) → Closing k v m moments (n ∷ left) all
    → AreWhole k now m' moments' → sessions_of now m' moments' ≡ left_by (with_receiver (engine_of v) n ends) m moments → Closing k now m' moments' left all
unfolding closes with_receiver
closing-more k v now m m' moments moments' n left all closing whole state = record {
  whole = whole;
  kept = subst (λ (s : Sessions). AreKept (s.engine).receivers left) (sym state) (kept-others n left (v.inbound).receivers (closing.once).0 (closing.kept).1);
  once = (closing.once).1;
  goes_on = ap (λ (s : Sessions). closes left s) state ∙ closing.goes_on;
}

pub closing-end : (k : Keys) (v : EngineValue) (m : Memory) (moments : List (ℕ × ℕ)) (all : Sessions) → Closing k v m moments [] all → sessions_of v m moments ≡ all
unfolding closes
closing-end k v m moments all closing = closing.goes_on

-- ---- time passes

-- the stale ones are kept, each of them once
pub stale-kept : (keep_ms now : ℕ) (receivers : List (ℕ × Receiving)) (moments : List (ℕ × ℕ)) → AllByRecursion (IsOfKept receivers) moments → AreKept receivers (stale_in keep_ms now moments)
stale-kept keep_ms now receivers [] kept = tt
stale-kept keep_ms now receivers (e ∷ moments) kept = by_test (nat_le keep_ms (now - e.1)) (stale-kept keep_ms now receivers moments kept.1) where
  by_test : (b : Bool) → AreKept receivers (stale_in keep_ms now moments)
      → AreKept receivers (map (λ (entry : ℕ × ℕ). entry.0) (if b then e ∷ filter (λ (entry : ℕ × ℕ). nat_le keep_ms (now - entry.1)) moments else filter (λ (entry : ℕ × ℕ). nat_le keep_ms (now - entry.1)) moments))
  by_test true rest = (kept.0, rest)
  by_test false rest = rest

apart-stale : (keep_ms now n : ℕ) (moments : List (ℕ × ℕ)) → AllByRecursion (λ k. nat_eq n k ≡ false) (keys_of moments) → is_closed n (stale_in keep_ms now moments) ≡ false
apart-stale keep_ms now n [] all = refl
apart-stale keep_ms now n (e ∷ moments) all = by_test (nat_le keep_ms (now - e.1)) (apart-stale keep_ms now n moments all.1) where
  flipped : (m : ℕ) → nat_eq n m ≡ false → (m == n) ≡ false
  flipped m is = grind (arith, nat_tests)

  by_test : (b : Bool) → is_closed n (stale_in keep_ms now moments) ≡ false
      → is_closed n (map (λ (entry : ℕ × ℕ). entry.0) (if b then e ∷ filter (λ (entry : ℕ × ℕ). nat_le keep_ms (now - entry.1)) moments else filter (λ (entry : ℕ × ℕ). nat_le keep_ms (now - entry.1)) moments)) ≡ false
  by_test true rest = rw (flipped e.0 all.0) rest
  by_test false rest = rest

pub stale-once : (keep_ms now : ℕ) (moments : List (ℕ × ℕ)) → IsDistinct nat_eq (keys_of moments) → AreDistinct (stale_in keep_ms now moments)
unfolding IsDistinct
stale-once keep_ms now [] once = tt
stale-once keep_ms now (e ∷ moments) once = by_test (nat_le keep_ms (now - e.1)) (stale-once keep_ms now moments once.1) where
  by_test : (b : Bool) → AreDistinct (stale_in keep_ms now moments)
      → AreDistinct (map (λ (entry : ℕ × ℕ). entry.0) (if b then e ∷ filter (λ (entry : ℕ × ℕ). nat_le keep_ms (now - entry.1)) moments else filter (λ (entry : ℕ × ℕ). nat_le keep_ms (now - entry.1)) moments))
  by_test true rest = (apart-stale keep_ms now e.0 moments once.0, rest)
  by_test false rest = rest

pub few-kept : (k : Keys) (v : EngineValue) (m : Memory) (moments : List (ℕ × ℕ)) → AreWhole k v m moments → length (v.inbound).receivers < m.most
few-kept k v m moments whole =
    let party : v.party.sessions ≡ (k.bounds).sessions = ap (λ p. p.sessions) whole.party in
    omega (arith, party, (whole.bounded).receivers, (whole.fit).places, whole.most)

-- the memory turns, where it is due
pub passed-whole : (k : Keys) (v : EngineValue) (m : Memory) (moments : List (ℕ × ℕ)) (now : ℕ) → AreWhole k v m moments → AreWhole k v (passed now m) moments
unfolding turned
passed-whole k v m moments now whole = by_due (is_due m now) where
  by_due : (due : Bool) → AreWhole k v (if due then turned now m else m) moments
  by_due false = whole
  by_due true = record {
    fit = whole.fit;
    whole = whole.whole;
    party = whole.party;
    none = whole.none;
    bounded = whole.bounded;
    ascending = whole.ascending;
    most = whole.most;
    keep = whole.keep;
    set = length-uncovered LAST;
    places = let none = no-runs in let few = few-kept k v m moments whole in omega (arith, none, few);
    kept = whole.kept;
    once = whole.once;
  }
