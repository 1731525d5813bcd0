-- A world goes on standing for a link.

use Rattle.std.proofs.Common.{◌≡◌, ℕ, zero, suc, ◌<◌, get_or, List, [], ◌∷◌, ◌++◌, length, map, Some, refl, sym, ◌∙◌, ap, arith, subst}
use Rattle.std.proofs.lemmas.List.{map-append}
use Rattle.std.specs.List.{slice_get}
use Rattle.ltp_segment.specs.Spelling.{segment_octets}
use Rattle.ltp_segment.specs.Values.{SegmentValue}
use Rattle.ltp_session.specs.Engine.{Party, Engine}
use Rattle.ltp_session.specs.World.{first_end, second_end, other, at_end, with_end, Event, World, sent_by, happens, run, starts_world}
use Rattle.ltp_session.specs.World.{End as LinkEnd}
use Rattle.ltp_session.specs.World.{Sent as LinkSent}
use Rattle.ltp_drain.proofs.CleanSteps.{run-more}
use Rattle.ltp_engine.specs.Shows.{Shows}
use Rattle.ltp_world.specs.declared.sent.Sent.{Sent}
use Rattle.ltp_world.specs.Ends.{named}
use Rattle.ltp_world.specs.Values.{WorldValue, parties_of, sent_from}
use Rattle.ltp_world.specs.Shows.{spelled, ShowsLink, ShowsRun, link_after}

-- ---- one more event

pub shows-more : (old new : WorldValue) (events : List Event) (event : Event) → ShowsRun old events → parties_of new ≡ parties_of old
    → ShowsLink new (happens (parties_of old) (link_after old events) event) → ShowsRun new (events ++ event ∷ [])
shows-more old new events event shows same link = record {
  peers = rw same shows.peers;
  alike = rw same shows.alike;
  first_small = rw (ap (λ (p : Party × Party). p.0) same) shows.first_small;
  second_small = rw (ap (λ (p : Party × Party). p.1) same) shows.second_small;
  link = subst (λ (ps : Party × Party). ShowsLink new (run ps (starts_world ps) (events ++ event ∷ []))) (sym same)
      (subst (ShowsLink new) (sym (run-more (parties_of old) (starts_world (parties_of old)) events event)) link);
}

-- ---- what an end sends

pub sent-spelled : (end : LinkEnd) (segments : List SegmentValue) → sent_from (named end) (map segment_octets segments) ≡ map spelled (sent_by end segments)
sent-spelled end [] = refl
sent-spelled end (s ∷ segments) = ap (λ rest. record { from = named end; datagram = segment_octets s } ∷ rest) (sent-spelled end segments)

pub sent-more : (end : LinkEnd) (segments : List SegmentValue) (sent : List LinkSent) (old new : List Sent) (out : List (List ℕ))
    → old ≡ map spelled sent → out ≡ map segment_octets segments → new ≡ old ++ sent_from (named end) out
    → new ≡ map spelled (sent ++ sent_by end segments)
sent-more end segments sent old new out was is more =
    more ∙ (rw (was, is, sent-spelled end segments) refl ∙ sym (map-append spelled sent (sent_by end segments)))

-- one end does a step, and the other is as it was
pub record StepsAt (end : LinkEnd) (old new : WorldValue) (e : Engine) : Type 0 where
  pub here : Shows (at_end new.engines end) e
  pub there : at_end new.engines (other end) ≡ at_end old.engines (other end)

pub link-step : (end : LinkEnd) (old new : WorldValue) (w : World) (e : Engine) (segments : List SegmentValue) (out : List (List ℕ)) (now : ℕ)
    → ShowsLink old w → StepsAt end old new e → out ≡ map segment_octets segments → new.sent ≡ old.sent ++ sent_from (named end) out → now ≡ new.moment
    → ShowsLink new (record { engines = with_end w.engines end e; sent = w.sent ++ sent_by end segments; now = now })
link-step first_end old new w e segments out now shows steps is more at = record {
  first = steps.here;
  second = rw steps.there shows.second;
  sent = sent-more first_end segments w.sent old.sent new.sent out shows.sent is more;
  now = at;
}
link-step second_end old new w e segments out now shows steps is more at = record {
  first = rw steps.there shows.first;
  second = steps.here;
  sent = sent-more second_end segments w.sent old.sent new.sent out shows.sent is more;
  now = at;
}

-- ---- the k-th datagram

pub got-spelled : (sent : List LinkSent) (k : ℕ) (item : Sent) → slice_get (map spelled sent) k ≡ Some item → (d : LinkSent) × (slice_get sent k ≡ Some d) × (item ≡ spelled d)
got-spelled [] k item is = absurd (cc)
got-spelled (d ∷ sent) zero item is = (d, refl, cc)
got-spelled (d ∷ sent) (suc k) item is = got-spelled sent k item is

-- an item that was read
pub got-item : {X : Type 0} (xs : List X) (k : ℕ) (x : X) → k < length xs → x ≡ get_or xs k x → slice_get xs k ≡ Some x
got-item [] k x low is = absurd (omega (arith, low))
got-item (y ∷ xs) zero x low is = ap (λ z. Some z) (sym is)
got-item (y ∷ xs) (suc k) x low is = got-item xs k x (omega (arith, low)) is
