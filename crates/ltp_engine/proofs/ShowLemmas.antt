-- An engine of the code goes on standing for an engine of the definition.

use Rattle.std.proofs.Common.{◌≡◌, ℕ, ◌≤◌, Bool, true, false, nat_le, List, [], ◌∷◌, ◌++◌, length, Option, None, Some, is_some, refl, sym, ◌∙◌, ap, subst, if◌then◌else◌}
use Rattle.std.specs.Option.{option_map}
use Rattle.ltp_session.specs.Step.{Change, stays, keeps, ends}
use Rattle.ltp_session.specs.Receiver.{Receiving}
use Rattle.ltp_session.specs.Table.{find, ticked, ended}
use Rattle.spans.proofs.PlaceLaws.{nothing_is_covered}
use Rattle.ltp_session.specs.Engine.{Party, Engine, starts, is_closed, closed_runs, with_receiver, longest_untouched, evicted_of, evicted_by, without_evicted, admission_of, untouched_all}
use Rattle.ltp_engine.specs.declared.closed.TheConstants.{LAST}
use Rattle.ltp_engine.specs.Closed.{all_closed, none_closed}
use Rattle.ltp_engine.specs.Values.{InboundValue, nothing_received}
use Rattle.ltp_engine.specs.Bounds.{IsInboundSound}
use Rattle.ltp_engine.specs.Shows.{ShowsClosed, ShowsInbound, Shows}
use Rattle.ltp_engine.specs.Inbound.{settled_in, with_room, evicted_in, evicted_for, admission_in}
use Rattle.ltp_engine.proofs.RunsLemmas.{AllShown, shows-closed, shows-all, distinct-ended, ended-least}
use Rattle.ltp_engine.proofs.KeepLemmas.{MayOpen, ticked_by}

-- ---- the beginning

shows-none : ShowsClosed none_closed []
unfolding closed_runs
shows-none = record {
  each = λ n. rw ((nothing_is_covered LAST).0 n) refl;
  runs = refl;
  distinct = tt;
}

-- a new engine stands for the definition's engine at its beginning
pub shows-start : (p : Party)
    → Shows (record { spent = false; party = p; next = p.first; senders = []; inbound = nothing_received }) (starts p)
shows-start p = record {
  next = refl;
  senders = refl;
  inbound = record { receivers = refl; touched = refl; closed = shows-none };
}

-- ---- one change

pub shows-change : (i : InboundValue) (e : Engine) (n : ℕ) (change : Change Receiving) → ShowsInbound i e → n ≤ LAST → length i.closed.places ≡ LAST
    → (change ≡ ends → is_closed n e.closed ≡ false) → ShowsInbound (settled_in i n change) (with_receiver e n change)
unfolding with_receiver
shows-change i e n stays shows most limit fresh = record { receivers = shows.receivers; touched = shows.touched; closed = shows.closed }
shows-change i e n (keeps r) shows most limit fresh = record {
  receivers = rw shows.receivers refl;
  touched = rw shows.touched refl;
  closed = shows.closed;
}
shows-change i e n ends shows most limit fresh = record {
  receivers = rw shows.receivers refl;
  touched = rw shows.touched refl;
  closed = shows-closed n i.closed e.closed most limit (fresh refl) shows.closed;
}

-- ---- eviction

pub same-evicted : (p : Party) (i : InboundValue) (e : Engine) → ShowsInbound i e → evicted_of p e ≡ evicted_in p.sessions i
unfolding evicted_of evicted_in
same-evicted p i e shows = rw (shows.receivers, shows.touched) refl

evicted-kept : (sessions : ℕ) (i : InboundValue) (m : ℕ) → evicted_in sessions i ≡ Some m → is_some (find m i.receivers) ≡ true
unfolding evicted_in
evicted-kept sessions i m is = by_many (nat_le sessions (length i.receivers)) is where
  by_first : (touched : List ℕ) → longest_untouched touched i.receivers ≡ Some m → is_some (find m i.receivers) ≡ true
  by_first [] is = absurd (cc)
  by_first (k ∷ touched) is = by_kept (find k i.receivers) refl is where
    by_kept : (kept : Option Receiving) → find k i.receivers ≡ kept → option_map (λ r. k) kept ≡ Some m → is_some (find m i.receivers) ≡ true
    by_kept None found is = absurd (cc)
    by_kept (Some r) found is = let here : k ≡ m = cc in subst (λ x. is_some (find x i.receivers) ≡ true) here (ap (λ x. is_some x) found)

  by_many : (many : Bool) → (if many then longest_untouched i.touched i.receivers else None) ≡ Some m → is_some (find m i.receivers) ≡ true
  by_many true is = by_first i.touched is
  by_many false is = absurd (cc)

shows-room : (p : Party) (i : InboundValue) (e : Engine) (gone : Option ℕ) → IsInboundSound p i → ShowsInbound i e → evicted_in p.sessions i ≡ gone
    → ShowsInbound (with_room i gone) (without_evicted e gone)
shows-room p i e None sound shows is = shows
shows-room p i e (Some m) sound shows is =
    let found = evicted-kept p.sessions i m is in
    shows-change i e m ends shows (sound.range m found) sound.limit (λ same. shows.closed.each m ∙ sound.unclosed m found)

-- ---- a step of a session of the peer's

pub record StepsIn (i j : InboundValue) (e f : Engine) (gone : Option ℕ) (evicted : Option ℕ) : Type 0 where
  pub shows : ShowsInbound j f
  pub same : gone ≡ evicted

pub shows-step : (p : Party) (i : InboundValue) (e : Engine) (n most : ℕ) (gone : Option ℕ) (change : Change Receiving) → n ≤ LAST → IsInboundSound p i → ShowsInbound i e
    → gone ≡ evicted_for p.sessions i (find n i.receivers) change → (find n i.receivers ≡ None → MayOpen (admission_in i most p.history n) change)
    → StepsIn i (settled_in (with_room i gone) n change) e (with_receiver (without_evicted e (evicted_by p e (find n e.receivers) change)) n change) gone (evicted_by p e (find n e.receivers) change)
unfolding with_receiver
shows-step p i e n most gone change least sound shows is may =
    let same = is ∙ (evicted-for (find n i.receivers) change ∙ ap (λ t. evicted_by p e (find n t) change) (sym shows.receivers)) in
    record {
      shows = subst (λ g. ShowsInbound (settled_in (with_room i gone) n change) (with_receiver (without_evicted e g) n change)) same
          (subst (λ g. ShowsInbound (settled_in (with_room i g) n change) (with_receiver (without_evicted e g) n change)) (sym is) (by_kept (find n i.receivers) refl));
      same = same;
    } where
      evicted-for : (kept : Option Receiving) (c : Change Receiving) → evicted_for p.sessions i kept c ≡ evicted_by p e kept c
      evicted-for None stays = refl
      evicted-for None (keeps r) = sym (same-evicted p i e shows)
      evicted-for None ends = refl
      evicted-for (Some r) c = refl

      by_kept : (kept : Option Receiving) → find n i.receivers ≡ kept
          → ShowsInbound (settled_in (with_room i (evicted_for p.sessions i kept change)) n change) (with_receiver (without_evicted e (evicted_for p.sessions i kept change)) n change)
      by_kept (Some r) found = shows-change i e n change shows least sound.limit (λ same. shows.closed.each n ∙ sound.unclosed n (ap (λ x. is_some x) found))
      by_kept None absent = by_change change (may absent) where
        by_change : (c : Change Receiving) → MayOpen (admission_in i most p.history n) c
            → ShowsInbound (settled_in (with_room i (evicted_for p.sessions i None c)) n c) (with_receiver (without_evicted e (evicted_for p.sessions i None c)) n c)
        by_change stays opens = shows-change i e n stays shows least sound.limit (λ same. absurd (cc))
        by_change (keeps r) opens = kept_room (evicted_in p.sessions i) refl where
          kept_room : (g : Option ℕ) → evicted_in p.sessions i ≡ g → ShowsInbound (settled_in (with_room i g) n (keeps r)) (with_receiver (without_evicted e g) n (keeps r))
          kept_room g is = let shown = shows-room p i e g sound shows is in record {
            receivers = rw shown.receivers refl;
            touched = rw shown.touched refl;
            closed = shown.closed;
          }
        by_change ends opens = absurd opens

-- ---- all sessions tick

pub shows-ticked : (p : Party) (change : Receiving → Change Receiving) (i : InboundValue) (e f : Engine) → IsInboundSound p i → ShowsInbound i e
    → f.receivers ≡ ticked change e.receivers → f.touched ≡ untouched_all (ended change e.receivers) e.touched
    → f.closed ≡ ended change e.receivers ++ e.closed → ShowsInbound (ticked_by change i) f
shows-ticked p change i e f sound shows receivers touched closed = record {
  receivers = receivers ∙ rw shows.receivers refl;
  touched = touched ∙ rw (shows.receivers, shows.touched) refl;
  closed = subst (λ ns. ShowsClosed (all_closed (ended change i.receivers) i.closed) ns) (sym (closed ∙ rw shows.receivers refl)) all.shows;
} where
  all : AllShown (ended change i.receivers) e.closed (all_closed (ended change i.receivers) i.closed)
  all = shows-all (ended change i.receivers) e.closed i.closed (ended-least change i.receivers sound.range) sound.limit
      (distinct-ended change 0 i.receivers e.closed sound.ascending (λ m holds. shows.closed.each m ∙ sound.unclosed m holds) shows.closed.distinct)
      shows.closed

-- ---- what a receiving session knows of its engine

pub same-place : (p : Party) (i : InboundValue) (e : Engine) (n : ℕ) → ShowsInbound i e → admission_of p e n ≡ admission_in i p.most p.history n
same-place p i e n shows = rw (shows.closed.each n, shows.closed.runs, shows.receivers) refl
