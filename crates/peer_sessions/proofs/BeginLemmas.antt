-- A block begins.

use Rattle.std.proofs.Common.{◌≡◌, ℕ, ◌+◌, ◌<◌, ◌≤◌, ◌^◌, Bool, false, nat_lt, nat_le, ◌==◌, List, [], length, Option, None, Ok, refl, sym, ◌∙◌, ap, subst, arith}
use Rattle.std.proofs.lemmas.Bool.Decides.{nat_tests}
use Rattle.spans.proofs.Places.{length-uncovered}
use Rattle.spans.proofs.PlaceLaws.{nothing_is_covered}
use Rattle.ltp_segment.specs.declared.session.TheConstants.{BLOCK_MAX}
use Rattle.ltp_session.specs.Engine.{Party, Engine, EngineStep, SubmitFault, submit_fault, submits, submits_unless, submit_step, closed_runs}
use Rattle.std.specs.List.{AllByRecursion}
use Rattle.ltp_session.specs.Table.{AreAscending}
use Rattle.session_memory.specs.Numbers.{runs_in}
use Rattle.session_memory.specs.Memory.{Memory}
use Rattle.ltp_engine.specs.declared.effects.Effects.{Effects}
use Rattle.ltp_engine.specs.Values.{EngineValue}
use Rattle.ltp_engine.specs.Bounds.{IsBounded}
use Rattle.ltp_engine.specs.Closed.{ClosedValue, none_closed}
use Rattle.ltp_engine.specs.Shows.{Shows, ShowsClosed}
use Rattle.ltp_engine.specs.Effects.{effects_of}
use Rattle.ltp_engine.specs.Steps.{Sends, IsSent}
use Rattle.peer_sessions.specs.declared.keys.Keys.{Keys}
use Rattle.peer_sessions.specs.Sessions.{Sessions, block_begins, with_begun}
use Rattle.peer_sessions.specs.Views.{face_keys, engine_of, sessions_of, IsOfKept, AreWhole}
use Rattle.peer_sessions.proofs.MemoryLemmas.{LAST, same-places}
use Rattle.peer_sessions.proofs.SettleLemmas.{shows-itself}

abbrev closed_of : List Bool → Bool → ℕ → ClosedValue
closed_of places last runs = record { places = places; last = last; runs = runs }

-- no number is closed where none is shown
none-shown : (c : ClosedValue) → ShowsClosed c [] → length c.places ≡ LAST → c ≡ none_closed
unfolding closed_runs
none-shown c shows limit = by_parts c.places none_closed.places c.last false c.runs 0 (same.0) (same.1) (sym shows.runs) where
  same : (c.places ≡ none_closed.places) × (c.last ≡ false)
  same = same-places c.places none_closed.places c.last false limit (length-uncovered LAST) (λ n. sym (shows.each n) ∙ sym (rw ((nothing_is_covered LAST).0 n) refl))

  by_parts : (p q : List Bool) (u v : Bool) (a b : ℕ) → p ≡ q → u ≡ v → a ≡ b → closed_of p u a ≡ closed_of q v b
  by_parts p q u v a b one two three = rw (one, two, three) refl

-- nothing stands against it
no-fault : (p : Party) (e : Engine) (block : List ℕ) → 0 < length block → length block ≤ p.most → e.next < 2 ^ 32 → length e.senders < p.sessions → submit_fault p e block ≡ None
no-fault p e block some most numbers free =
    rw (one (length block) some, two p.most (length block) most, three e.next numbers, four p.sessions (length e.senders) free) refl where
      one : (n : ℕ) → 0 < n → (n == 0) ≡ false
      one n some = grind (arith, nat_tests)

      two : (most n : ℕ) → n ≤ most → nat_lt most n ≡ false
      two most n few = grind (arith, nat_tests)

      three : (n : ℕ) → n < 2 ^ 32 → nat_le (2 ^ 32) n ≡ false
      three n few = grind (arith, nat_tests)

      four : (most n : ℕ) → n < most → nat_le most n ≡ false
      four most n few = grind (arith, nat_tests)

pub record Begun (k : Keys) (later : EngineValue) (m : Memory) (moments : List (ℕ × ℕ)) (step : EngineStep) (s : Sessions) (effects : Effects) : Type 0 where
  pub whole : AreWhole k later m moments
  pub state : sessions_of later m moments ≡ with_begun s step
  pub told : effects ≡ effects_of step.effects
  pub shows : Shows later step.engine
  pub receivers : (later.inbound).receivers ≡ (s.engine).receivers

begun-from : (k : Keys) (v later : EngineValue) (m : Memory) (moments : List (ℕ × ℕ)) (block : List ℕ) (now : ℕ) (effects : Effects) → AreWhole k v m moments → later.spent ≡ false → later.party ≡ v.party
    → IsBounded later → length ((later.inbound).closed).places ≡ LAST
    → IsSent later effects (Ok (block_begins (face_keys k) (engine_of v) block now))
    → Begun k later m moments (block_begins (face_keys k) (engine_of v) block now) (sessions_of v m moments) effects
begun-from k v later m moments block now effects whole spent party bounded limit sent = record {
  whole = record {
    fit = whole.fit;
    whole = spent;
    party = party ∙ whole.party;
    none = none-shown (later.inbound).closed ((sent.0).inbound).closed limit;
    bounded = bounded;
    ascending = subst (λ es. AreAscending 0 es) ((sent.0).inbound).receivers whole.ascending;
    most = whole.most;
    keep = whole.keep;
    set = whole.set;
    places = subst (λ es. runs_in m.newer + length es ≤ m.most) ((sent.0).inbound).receivers whole.places;
    kept = subst (λ es. AllByRecursion (IsOfKept es) moments) ((sent.0).inbound).receivers whole.kept;
    once = whole.once;
  };
  state = ap (λ (e : Engine). record { engine = e; memory = m; moments = moments }) (sym (parts (block_begins (face_keys k) (engine_of v) block now).engine refl (sent.0).next (sent.0).senders ((sent.0).inbound).receivers ((sent.0).inbound).touched));
  told = sent.1;
  shows = sent.0;
  receivers = sym ((sent.0).inbound).receivers;
} where
  parts : (f : Engine) → f.closed ≡ [] → f.next ≡ later.next → f.senders ≡ later.senders → f.receivers ≡ (later.inbound).receivers → f.touched ≡ (later.inbound).touched → f ≡ engine_of later
  parts f none one two three four = rw (sym one, sym two, sym three, sym four, sym none) refl

pub begun-does : (k : Keys) (v later : EngineValue) (m : Memory) (moments : List (ℕ × ℕ)) (block : List ℕ) (now : ℕ) (effects : Effects) → AreWhole k v m moments
    → Sends v later (λ e. submit_step v.party e (submits v.party e block (length block) now)) effects → IsBounded later → length ((later.inbound).closed).places ≡ LAST
    → 0 < length block → length block ≤ BLOCK_MAX → length v.senders < (k.bounds).sessions → v.next < 2 ^ 32
    → Begun k later m moments (block_begins (face_keys k) (engine_of v) block now) (sessions_of v m moments) effects
unfolding submits
begun-does k v later m moments block now effects whole sends bounded limit some most free numbers =
    begun-from k v later m moments block now effects whole sends.whole sends.party bounded limit
    (subst (λ (fault : Option SubmitFault). IsSent later effects (submit_step (face_keys k).party (engine_of v) (submits_unless fault (face_keys k).party (engine_of v) block (length block) now)))
    (no-fault (face_keys k).party (engine_of v) block some most numbers free)
    (subst (λ (p : Party). IsSent later effects (submit_step p (engine_of v) (submits p (engine_of v) block (length block) now))) whole.party (sends.next (engine_of v) (shows-itself v whole.none))))
