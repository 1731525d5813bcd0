-- What an engine did is put into the sessions of a face.

use Rattle.std.proofs.Common.{◌≡◌, ℕ, ◌+◌, ◌<◌, ◌≤◌, ◌/◌, Bool, true, false, nat_eq, List, [], ◌++◌, length, is_some, ◌&&◌, ◌||◌, refl, sym, ◌∙◌, ap, subst, arith, inl, inr}
use Rattle.std.specs.List.{IsDistinct}
use Rattle.std.specs.Map.{keys_of}
use Rattle.std.proofs.lemmas.Bool.{cases_lt, ne_eqb}
use Rattle.std.proofs.lemmas.List.{append-nil, get_or_past}
use Rattle.peer_sessions.proofs.MemoryLemmas.{LAST}
use Rattle.session_memory.specs.Numbers.{runs_in}
use Rattle.session_memory.specs.Memory.{Memory}
use Rattle.session_memory.specs.Laws.{IsSet64}
use Rattle.ltp_session.specs.Receiver.{Receiving}
use Rattle.ltp_session.specs.Table.{find, ended, AreAscending}
use Rattle.ltp_session.specs.Engine.{Party, Engine, EngineStep, is_closed, closed_runs, tick_engine, tick_step, receiver_changes}
use Rattle.ltp_engine.specs.declared.effects.Effects.{Effects}
use Rattle.ltp_engine.specs.Values.{EngineValue}
use Rattle.ltp_engine.specs.Bounds.{IsBounded}
use Rattle.ltp_engine.specs.Closed.{ClosedValue, is_among, none_closed}
use Rattle.ltp_engine.specs.Shows.{Shows, ShowsClosed, AreDistinct}
use Rattle.ltp_engine.specs.Effects.{effects_of}
use Rattle.ltp_engine.specs.Steps.{Steps}
use Rattle.ltp_engine.specs.Elsewhere.{reopened, closed_numbers}
use Rattle.ltp_laws.proofs.TableLemmas.{ascending-ticked}
use Rattle.ltp_engine.specs.Sessions.{cells_in}
use Rattle.ltp_engine.proofs.KeepLemmas.{length-ticked}
use Rattle.spans.proofs.PlaceLaws.{nothing_is_covered}
use Rattle.ltp_engine.proofs.ElsewhereLemmas.{closed-each}
use Rattle.peer_sessions.specs.declared.keys.Keys.{Keys}
use Rattle.peer_sessions.specs.Sessions.{Sessions, with_closed, still_kept, left_by}
use Rattle.peer_sessions.specs.Views.{AreFit, face_keys, engine_of, sessions_of, AreWhole}
use Rattle.peer_sessions.specs.Ties.{HasPlaces}
use Rattle.peer_sessions.proofs.MemoryLemmas.{closed-same, remembers, Remembers, AreNumbers, no_more}
use Rattle.peer_sessions.proofs.StepLemmas.{kept-still, once-filter}
use Rattle.peer_sessions.proofs.AnswerLemmas.{tick-octets}
use Rattle.peer_sessions.proofs.CellLemmas.{cells-ticked}

shows-none : ShowsClosed none_closed []
unfolding closed_runs
shows-none = record { each = λ n. rw ((nothing_is_covered LAST).0 n) refl; runs = refl; distinct = tt }

-- the engine's value stands for its engine
pub shows-itself : (v : EngineValue) → (v.inbound).closed ≡ none_closed → Shows v (engine_of v)
shows-itself v none = record {
  next = refl;
  senders = refl;
  inbound = record { receivers = refl; touched = refl; closed = subst (λ (c : ClosedValue). ShowsClosed c []) (sym none) shows-none };
}

-- ---- the closed numbers are remembered

-- the numbers of an engine are ones that a session can have
pub are-numbers : (c : ClosedValue) (numbers : List ℕ) → length c.places ≡ LAST → ((n : ℕ) → is_closed n numbers ≡ is_among c n) → AreNumbers numbers
are-numbers c numbers limit each = λ k holds. most k (sym (each k) ∙ holds) where
  most : (k : ℕ) → is_among c k ≡ true → k ≤ LAST
  most k among = elim (cases_lt LAST k) [ inl past ↦ absurd (differ (never k past) among) | inr low ↦ low ] where
    differ : {b : Bool} → b ≡ false → b ≡ true → ⊥
    differ is also = cc

    never : (k : ℕ) → LAST < k → is_among c k ≡ false
    never k past = rw (get_or_past c.places k false (subst (λ n. n ≤ k) (sym limit) (omega (arith, past))), ne_eqb k LAST (λ e. absurd (omega (arith, e, past)))) (none c.last) where
      none : (b : Bool) → (false || (b && false)) ≡ false
      none true = refl
      none false = refl

-- there is a place for each of them
pub settle-room : (v : EngineValue) (m : Memory) (numbers : List ℕ) → HasPlaces v m → ((n : ℕ) → is_closed n numbers ≡ is_among (v.inbound).closed n) → AreDistinct numbers
    → runs_in m.newer + length numbers ≤ m.most
settle-room v m numbers room each once =
    let few = no_more numbers (room.engine).closed once (λ k holds. ((room.shows).inbound).closed.each k ∙ (sym (each k) ∙ holds)) in
    omega (arith, few, room.places)

-- ---- after a step

pub record Settled (k : Keys) (v : EngineValue) (m : Memory) (moments : List (ℕ × ℕ)) (state : Sessions) : Type 0 where
  pub whole : AreWhole k v m moments
  pub is : sessions_of v m moments ≡ state

pub settled : (k : Keys) (v last : EngineValue) (e : Engine) (m kept : Memory) (moments left : List (ℕ × ℕ)) → AreFit k → v.spent ≡ false → v.party ≡ (face_keys k).party
    → Shows v e → AreNumbers e.closed → last ≡ record v { inbound = reopened v.inbound } → IsBounded last → AreAscending 0 e.receivers
    → m.most ≡ k.remember / 2 → m.keep_ms ≡ k.remember_ms → IsSet64 m.newer → runs_in m.newer + (length e.closed + length e.receivers) ≤ m.most
    → kept ≡ with_closed e.closed m → IsDistinct nat_eq (keys_of moments) → left ≡ still_kept (v.inbound).receivers moments
    → Settled k last kept left (left_by e m moments)
settled k v last e m kept moments left fit whole party shows numbers is bounded up most keep set places memory once left_is =
    subst (λ (l : List (ℕ × ℕ)). Settled k last kept l (left_by e m moments)) (sym left_is)
    (subst (λ (c : Memory). Settled k last c (still_kept (v.inbound).receivers moments) (left_by e m moments)) (sym memory)
    (subst (λ (w : EngineValue). Settled k w (with_closed e.closed m) (still_kept (v.inbound).receivers moments) (left_by e m moments)) (sym is)
    (record {
      whole = record {
        fit = fit;
        whole = whole;
        party = party;
        none = refl;
        bounded = subst IsBounded is bounded;
        ascending = subst (λ (t : List (ℕ × Receiving)). AreAscending 0 t) (shows.inbound).receivers up;
        most = remembered.most ∙ most;
        keep = remembered.keep ∙ keep;
        set = remembered.set;
        places =
            let few = remembered.runs in
            let size : length e.receivers ≡ length (v.inbound).receivers = ap (λ t. length t) (shows.inbound).receivers in
            omega (arith, few, size, places, remembered.most);
        kept = kept-still (v.inbound).receivers moments;
        once = once-filter (λ (entry : ℕ × ℕ). is_some (find entry.0 (v.inbound).receivers)) moments once;
      };
      is = sym (ap (λ (f : Engine). left_by f m moments) same);
    }))) where
      remembered : Remembers e.closed m
      remembered = remembers e.closed m set numbers

      same : e ≡ record { next = v.next; senders = v.senders; receivers = (v.inbound).receivers; touched = (v.inbound).touched; closed = e.closed }
      same = parts e shows.next shows.senders (shows.inbound).receivers (shows.inbound).touched where
        parts : (f : Engine) → f.next ≡ v.next → f.senders ≡ v.senders → f.receivers ≡ (v.inbound).receivers → f.touched ≡ (v.inbound).touched
            → f ≡ record { next = v.next; senders = v.senders; receivers = (v.inbound).receivers; touched = (v.inbound).touched; closed = f.closed }
        parts f one two three four = rw (sym one, sym two, sym three, sym four) refl

-- what settles changes no session
pub settled-cells : (v last : EngineValue) (before now : ℕ) → last ≡ record v { inbound = reopened v.inbound } → now ≡ before → cells_in (v.inbound).receivers ≤ before
    → cells_in (last.inbound).receivers ≤ now
settled-cells v last before now is same few = subst (λ (w : EngineValue). cells_in (w.inbound).receivers ≤ now) (sym is) (subst (λ n. cells_in (v.inbound).receivers ≤ n) (sym same) few)

-- ---- all sessions tick

-- each session that is over by it had its place
pub ticked-places : (p : Party) (e : Engine) (now runs most : ℕ) → e.closed ≡ [] → runs + length e.receivers ≤ most
    → runs + (length (tick_engine p e now).closed + length (tick_engine p e now).receivers) ≤ most
ticked-places p e now runs most none places =
    let all = length-ticked (receiver_changes p now) e.receivers in
    let closed : length (tick_engine p e now).closed ≡ length (ended (receiver_changes p now) e.receivers) =
    ap (λ ns. length ns) (ap (λ ns. ended (receiver_changes p now) e.receivers ++ ns) none ∙ append-nil (ended (receiver_changes p now) e.receivers)) in
    omega (arith, all, closed, places)

-- ---- after a step of the engine

pub settled-from : (k : Keys) (v last : EngineValue) (e : Engine) (m kept : Memory) (moments left : List (ℕ × ℕ)) → AreFit k → v.spent ≡ false → v.party ≡ (face_keys k).party → Shows v e
    → length ((v.inbound).closed).places ≡ LAST → last ≡ record v { inbound = reopened v.inbound } → IsBounded last → AreAscending 0 e.receivers
    → m.most ≡ k.remember / 2 → m.keep_ms ≡ k.remember_ms → IsSet64 m.newer → runs_in m.newer + (length e.closed + length e.receivers) ≤ m.most
    → kept ≡ with_closed (closed_numbers (v.inbound).closed) m → IsDistinct nat_eq (keys_of moments) → left ≡ still_kept (v.inbound).receivers moments
    → Settled k last kept left (left_by e m moments)
settled-from k v last e m kept moments left fit whole party shows limit is bounded up most keep set places memory once left_is =
    settled k v last e m kept moments left fit whole party shows (are-numbers (v.inbound).closed e.closed limit (λ n. ((shows.inbound).closed).each n)) is bounded up most keep set places
    (memory ∙ closed-same (closed_numbers (v.inbound).closed) e.closed m set
    (are-numbers (v.inbound).closed (closed_numbers (v.inbound).closed) limit (λ n. closed-each (v.inbound).closed n))
    (λ n. closed-each (v.inbound).closed n ∙ sym (((shows.inbound).closed).each n)))
    once left_is

-- the places of the receiving sessions are enough for those that it closed
pub places-of : (v : EngineValue) (e : Engine) (m : Memory) → Shows v e → runs_in m.newer + (length e.closed + length e.receivers) ≤ m.most → HasPlaces v m
places-of v e m shows places = record { engine = e; shows = shows; places = omega (arith, places) }

-- ---- all sessions tick

tick-party : (k : Keys) (v : EngineValue) (m : Memory) (moments : List (ℕ × ℕ)) → AreWhole k v m moments → (now : ℕ) → tick_step v.party (engine_of v) now ≡ tick_step (face_keys k).party (engine_of v) now
tick-party k v m moments whole now = ap (λ (p : Party). tick_step p (engine_of v) now) whole.party

pub tick-shows : (k : Keys) (v later : EngineValue) (m : Memory) (moments : List (ℕ × ℕ)) (now : ℕ) (effects : Effects) → AreWhole k v m moments → Steps v later (λ e. tick_step v.party e now) effects
    → Shows later (tick_step (face_keys k).party (engine_of v) now).engine
tick-shows k v later m moments now effects whole steps =
    subst (λ (s : EngineStep). Shows later s.engine) (tick-party k v m moments whole now) (steps.next (engine_of v) (shows-itself v whole.none))

pub tick-effects : (k : Keys) (v later : EngineValue) (m : Memory) (moments : List (ℕ × ℕ)) (now : ℕ) (effects : Effects) → AreWhole k v m moments → Steps v later (λ e. tick_step v.party e now) effects
    → effects ≡ effects_of (tick_step (face_keys k).party (engine_of v) now).effects
tick-effects k v later m moments now effects whole steps =
    steps.effects_are (engine_of v) (shows-itself v whole.none) ∙ ap (λ (s : EngineStep). effects_of s.effects) (tick-party k v m moments whole now)

tick-places : (k : Keys) (v : EngineValue) (m : Memory) (moments : List (ℕ × ℕ)) (now : ℕ) → AreWhole k v m moments
    → runs_in m.newer + (length ((tick_step (face_keys k).party (engine_of v) now).engine).closed + length ((tick_step (face_keys k).party (engine_of v) now).engine).receivers) ≤ m.most
unfolding tick_step
tick-places k v m moments now whole = ticked-places (face_keys k).party (engine_of v) now (runs_in m.newer) m.most refl whole.places

tick-ascending : (k : Keys) (v : EngineValue) (m : Memory) (moments : List (ℕ × ℕ)) (now : ℕ) → AreWhole k v m moments → AreAscending 0 ((tick_step (face_keys k).party (engine_of v) now).engine).receivers
unfolding tick_step
tick-ascending k v m moments now whole = ascending-ticked (receiver_changes (face_keys k).party now) 0 (v.inbound).receivers whole.ascending

-- they keep no more octets
pub tick-cells : (k : Keys) (v later : EngineValue) (m : Memory) (moments : List (ℕ × ℕ)) (now : ℕ) (effects : Effects) → AreWhole k v m moments → Steps v later (λ e. tick_step v.party e now) effects
    → cells_in (later.inbound).receivers ≤ cells_in (v.inbound).receivers
unfolding tick_step
tick-cells k v later m moments now effects whole steps =
    subst (λ (t : List (ℕ × Receiving)). cells_in t ≤ cells_in (v.inbound).receivers) ((tick-shows k v later m moments now effects whole steps).inbound).receivers
    (cells-ticked (receiver_changes (face_keys k).party now) (v.inbound).receivers (λ r s is. tick-octets ((face_keys k).party).policy r s now is))

pub tick-room : (k : Keys) (v later : EngineValue) (m : Memory) (moments : List (ℕ × ℕ)) (now : ℕ) (effects : Effects) → AreWhole k v m moments → Steps v later (λ e. tick_step v.party e now) effects
    → HasPlaces later m
tick-room k v later m moments now effects whole steps =
    places-of later (tick_step (face_keys k).party (engine_of v) now).engine m (tick-shows k v later m moments now effects whole steps) (tick-places k v m moments now whole)

pub tick-settled : (k : Keys) (v later last : EngineValue) (m kept : Memory) (moments left : List (ℕ × ℕ)) (now : ℕ) (effects : Effects) → AreWhole k v m moments → Steps v later (λ e. tick_step v.party e now) effects
    → length ((later.inbound).closed).places ≡ LAST → last ≡ record later { inbound = reopened later.inbound } → IsBounded last
    → kept ≡ with_closed (closed_numbers (later.inbound).closed) m → left ≡ still_kept (later.inbound).receivers moments
    → Settled k last kept left (left_by (tick_step (face_keys k).party (engine_of v) now).engine m moments)
tick-settled k v later last m kept moments left now effects whole steps limit is bounded memory left_is =
    settled-from k later last (tick_step (face_keys k).party (engine_of v) now).engine m kept moments left whole.fit steps.whole (steps.party ∙ whole.party)
    (tick-shows k v later m moments now effects whole steps) limit is bounded (tick-ascending k v m moments now whole) whole.most whole.keep whole.set (tick-places k v m moments now whole) memory whole.once left_is
