-- Where a drain begins: a hopeful session drains within its cost.

use Rattle.std.proofs.Common.{◌≡◌, ℕ, zero, suc, ◌+◌, ◌-◌, ◌*◌, ◌<◌, ◌≤◌, ◌^◌, Bool, true, false}
use Rattle.std.proofs.Common.{List, [], ◌∷◌, length, take, drop, Option, None, Some, refl, sym}
use Rattle.std.proofs.Common.{ap, arith, subst}
use Rattle.std.proofs.lemmas.Bool.{eq-eqb}
use Rattle.std.proofs.lemmas.List.{length-take, length-drop}
use Rattle.ltp_segment.specs.Policy.{PolicyValue}
use Rattle.ltp_segment.specs.Values.{a_piece}
use Rattle.ltp_session.specs.Claims.{is_whole_claim}
use Rattle.ltp_session.specs.Engine.{Party}
use Rattle.ltp_session.specs.Receiver.{Pending, Receiving, ReceivingPhase, acknowledged}
use Rattle.ltp_session.specs.Receiver.{acknowledged_in, is_cancelling, receiver_cancelling}
use Rattle.ltp_session.specs.Receiver.{receiver_open}
use Rattle.ltp_session.specs.Sender.{Sending, SendingPhase, red_segments, segments_from}
use Rattle.ltp_session.specs.Sender.{sender_cancelling, sender_open}
use Rattle.ltp_session.specs.Step.{ends}
use Rattle.ltp_session.specs.World.{ArePeers, End, World, at_end, first_end, other, second_end}
use Rattle.ltp_session.specs.World.{starts_world}
use Rattle.ltp_laws.specs.Acknowledgements.{CloseFacts, IsSenderCancelling}
use Rattle.ltp_laws.specs.Blocks.{BlockFacts, IsContentOf, IsPieceOf, IsSenderOf}
use Rattle.ltp_laws.specs.Engines.{IsWellFormed}
use Rattle.ltp_laws.specs.Facts.{SessionFacts}
use Rattle.ltp_laws.specs.HandUps.{HasHandedUp}
use Rattle.ltp_laws.specs.Kept.{IfKept}
use Rattle.ltp_laws.specs.Log.{HasFacts, HasFactsBy, submissions}
use Rattle.ltp_laws.specs.Serials.{pending_of}
use Rattle.ltp_laws.specs.View.{View, said, view}
use Rattle.ltp_laws.proofs.FactLemmas.{session-keep}
use Rattle.ltp_laws.proofs.LogLemmas.{engines_are_well_formed, every_submitted}
use Rattle.ltp_laws.proofs.SerialLemmas.{all-among}
use Rattle.ltp_drain.specs.Calm.{AreFit, ClosesLate, Drains, HandedUpWhole, HasSerials}
use Rattle.ltp_drain.specs.Calm.{IsPromising, WaitsOn}
use Rattle.ltp_drain.specs.Hopeful.{AreAlike, Hopeful, IsAmple, IsHopeful, IsHopefulReceiver}
use Rattle.ltp_drain.specs.Hopeful.{IsHopefulReceiving, IsHopefulSender, IsHopefulSending}
use Rattle.ltp_drain.specs.Hopeful.{IsReached, kept_cost, limit_at}
use Rattle.ltp_drain.specs.Rank.{RankAtMost}
use Rattle.ltp_drain.specs.Standing.{DrainHolds, Stands, StandsBy, setting}
use Rattle.ltp_drain.proofs.DrainFrame.{Gives}
use Rattle.ltp_drain.proofs.DrainLists.{said-none}
use Rattle.ltp_drain.proofs.DrainStarts.{calm-starts, rank-starts-kept, rank-starts-none}
use Rattle.ltp_drain.proofs.DrainStarts.{rank-starts-over}
use Rattle.ltp_drain.proofs.SizeLemmas.{AreOctets, SaysOctets, run-octets, submitted-within}

-- ---- the facts of every run give what a drain needs

kept-weaker : {S : Type 0} (P Q : S → Type 0) (o : Option S) → ((s : S) → P s → Q s) → IfKept P o
    → IfKept Q o
kept-weaker P Q None gives is = tt
kept-weaker P Q (Some s) gives is = gives s is

whole-ends : (r : Receiving) (p : Pending) → pending_of r.phase ≡ Some p
    → is_whole_claim r.length p.report.claims ≡ true
    → (acknowledged r p.report.serial).next ≡ ends
unfolding acknowledged
whole-ends r p waits whole = by_phase r.phase waits
  where
    by_phase : (phase : ReceivingPhase) → pending_of phase ≡ Some p
        → (acknowledged_in r phase p.report.serial).next ≡ ends
    by_phase (receiver_cancelling reason timer) is = absurd (cc)
    by_phase (receiver_open None) is = absurd (cc)
    by_phase (receiver_open (Some x)) is =
        let one : p ≡ x = cc in
        subst (λ (x : Pending). (acknowledged_in r (receiver_open (Some x)) p.report.serial).next
        ≡ ends) one
        (rw (eq-eqb p.report.serial p.report.serial refl, whole) refl)

closes-late : (block : List ℕ) (red : ℕ) (v : View) → CloseFacts block red v → ClosesLate v
closes-late block red v facts r p is_r waits whole among s c timer is_s waited =
    subst IsSenderCancelling waited
    (subst (IfKept (λ s. IsSenderCancelling s.phase)) is_s
    (facts.closes r p.report.serial is_r among (whole-ends r p waits whole)).over)

pub session-gives : Gives SessionFacts
session-gives = record {
  keeps_on = session-keep;
  gives = λ block red most v fit facts. record {
    facts = (((facts.basic, facts.reports), facts.claims), facts.asks);
    fit = fit;
    size = (facts.acks).size;
    handed = kept-weaker (HasHandedUp red) (HandedUpWhole red) v.receiver (λ r is. is.there)
        (facts.handed).handed;
    closes = closes-late block red v facts.closes;
  };
}

-- ---- segments

pub few-parts : (z n at : ℕ) (octets : List ℕ) → 2 ≤ z
    → 2 * length (segments_from z n at octets) ≤ length octets + 1
unfolding segments_from
few-parts z zero at octets cuts = omega arith
few-parts z (suc n) at [] cuts = omega arith
few-parts z (suc n) at (octet ∷ octets) cuts =
    omega (
      arith,
      few-parts z n (at + z) (drop z (octet ∷ octets)) cuts,
      length-drop z
          (octet ∷ octets),
      cuts,
    )

pub few-red : (policy : PolicyValue) (block : List ℕ) (red : ℕ) → 2 ≤ policy.segment
    → 2 * length (red_segments policy block red) ≤ length block + 1
few-red policy block red cuts =
    omega (
      arith,
      few-parts policy.segment (length (take red block)) 0 (take red block) cuts,
      length-take red block,
    )

-- ---- ranks where a drain begins

unfoldable pub start_rank : PolicyValue → Option Sending → Option Receiving → ℕ
start_rank policy (Some s) kept = length (red_segments policy s.block s.red) + 9
start_rank policy None (Some r) = 3
start_rank policy None None = 0

pub start-most : (policy : PolicyValue) (s : Option Sending) (r : Option Receiving)
    → start_rank policy s r ≤ kept_cost policy s r
unfolding start_rank
start-most policy (Some s) r = omega arith
start-most policy None (Some r) = omega arith
start-most policy None None = omega arith

start-ranked : (policy : PolicyValue) (red : ℕ) (v : View) (s : Option Sending)
    (r : Option Receiving) → v.sender ≡ s → v.receiver ≡ r
    → RankAtMost policy.segment red v [] [] (start_rank policy s r)
unfolding start_rank
start-ranked policy red v (Some s) r is_s is_r = rank-starts-kept policy.segment red v s is_s
start-ranked policy red v None (Some r) is_s is_r = rank-starts-none policy.segment red v is_s
start-ranked policy red v None None is_s is_r = rank-starts-over policy.segment red v is_s is_r

low-start : (policy : PolicyValue) (s : Option Sending) (r : Option Receiving)
    → 2 ≤ policy.segment
    → IfKept (λ s. length s.block ≤ 2 ^ 22) s → start_rank policy s r ≤ 2 ^ 22
unfolding start_rank
low-start policy (Some s) r cuts size = omega (arith, few-red policy s.block s.red cuts, size)
low-start policy None (Some r) cuts size = omega arith
low-start policy None None cuts size = omega arith

-- ---- a hopeful session

promising : (limit_s limit_r : ℕ) (v : View) → IsHopeful limit_s limit_r v
    → IsPromising limit_s limit_r v
promising limit_s limit_r v hopeful = record {
  sending = λ s is. waits s.phase refl (of-sender s is).phase;
  receiving = λ r is. listens r.phase (of-receiver r is).phase;
  asking = λ s c timer is waited. (subst (IsHopefulSending limit_s) waited
      (of-sender s is).phase).0;
  reporting = λ r p is waited. left r.phase waited (of-receiver r is).phase;
  unclosed = λ s is. (of-sender s is).unclosed;
  sender_serials = λ s c timer is waited. (subst (IsHopefulSending limit_s) waited
      (of-sender s is).phase).1;
  receiver_serials = λ r is. (of-receiver r is).serial;
}
  where
    of-sender : (s : Sending) → v.sender ≡ Some s → IsHopefulSender limit_s v.closed s
    of-sender s is = subst (IfKept (IsHopefulSender limit_s v.closed)) is hopeful.sender

    of-receiver : (r : Receiving) → v.receiver ≡ Some r → IsHopefulReceiver limit_r r
    of-receiver r is = subst (IfKept (IsHopefulReceiver limit_r)) is hopeful.receiver

    waits : {s : Sending} (phase : SendingPhase) → s.phase ≡ phase
        → IsHopefulSending limit_s phase → WaitsOn s
    waits (sender_open c timer) is hope = record { checkpoint = c; timer = timer; is = is }
    waits (sender_cancelling reason timer) is hope = absurd hope

    listens : (phase : ReceivingPhase) → IsHopefulReceiving limit_r phase
        → is_cancelling phase ≡ false
    listens (receiver_open pending) hope = refl
    listens (receiver_cancelling reason timer) hope = absurd hope

    left : {p : Pending} (phase : ReceivingPhase) → pending_of phase ≡ Some p
        → IsHopefulReceiving limit_r phase → (p.timer).times < limit_r
    left (receiver_open None) is hope = absurd (cc)
    left {p} (receiver_open (Some x)) is hope = let one : x ≡ p =
        cc in subst (λ (p : Pending). (p.timer).times < limit_r) one hope
    left (receiver_cancelling reason timer) is hope = absurd hope

start-serials : (limit_s limit_r session rank : ℕ) (v : View) → IsPromising limit_s limit_r v
    → rank ≤ 2 ^ 22 → HasSerials session v rank
start-serials limit_s limit_r session rank v hopeful low = record {
  sender = λ s c timer is waits. omega (arith, hopeful.sender_serials s c timer is waits, low);
  receiver = λ r is. omega (arith, hopeful.receiver_serials r is, low);
  fresh = omega (arith, low);
}

-- ---- every session where a drain begins

pub most-at : (parties : Party × Party) → AreAlike parties → (o : End)
    → (at_end parties (other o)).most ≡ (at_end parties o).most
most-at parties alike first_end = sym alike.same_most
most-at parties alike second_end = alike.same_most

pub most-low : (parties : Party × Party) → AreAlike parties → (o : End)
    → (at_end parties o).most ≤ 2 ^ 22
most-low parties alike first_end = alike.most
most-low parties alike second_end = omega (arith, alike.most, alike.same_most)

pub cuts-two : (parties : Party × Party) → AreAlike parties → (o : End)
    → 2 ≤ (at_end parties o).policy.segment
cuts-two parties alike first_end = alike.first_cuts
cuts-two parties alike second_end = alike.second_cuts

pub ample-at : (parties : Party × Party) → AreAlike parties → (o : End)
    → IsAmple (at_end parties o)
ample-at parties alike first_end = alike.first_ample
ample-at parties alike second_end = alike.second_ample

-- pieces of a block that isn't longer than the greatest, each with an octet, fit
block-fits : (block : List ℕ) (red most : ℕ) (v : View) → length block ≤ most
    → BlockFacts block red v → AreOctets v → AreFit most v.by_sender
block-fits block red most v short facts octets q among =
    let some : 1 ≤ length q.body = all-among SaysOctets (a_piece q) v.by_sender octets.said among
    in
    let of : IsPieceOf block red q = all-among (IsContentOf block red) (a_piece q) v.by_sender
    facts.said among in
    let last = of.octets (length q.body - 1) (omega (arith, some)) in
    (some, omega (arith, some, last.0, short))

pub drain-starts : (parties : Party × Party) (w : World) → ArePeers parties → AreAlike parties
    → IsReached parties w → Hopeful parties w
    → DrainHolds SessionFacts parties (record { world = w; new = [] })
    (λ o n. start_rank (at_end parties o).policy (view parties w o n).sender
    (view parties w o n).receiver)
drain-starts parties w peers alike reached hopeful =
    record {
      session = session;
      senders = λ o. (formed o).senders;
      receivers = λ o.
          (formed o).receivers;
      next = λ o. (formed o).next;
      known = tt;
    }
  where
    formed : (o : End) → IsWellFormed (at_end parties o) (at_end w.engines o)
    formed o = subst (λ (w : World). IsWellFormed (at_end parties o) (at_end w.engines o))
        reached.leads (engines_are_well_formed parties reached.events peers o)

    session : (o : End) (n : ℕ) → Stands SessionFacts (setting parties o n) (view parties w o n)
        (said o (at_end parties o).own n []) (said (other o) (at_end parties o).own n [])
        (start_rank (at_end parties o).policy (view parties w o n).sender
        (view parties w o n).receiver)
    session o n = by_used (view parties w o n).used
        (subst (λ (w : World). HasFacts SessionFacts
        (submissions parties (starts_world parties) reached.events) o n (view parties w o n))
        reached.leads
        (every_submitted SessionFacts session-keep parties reached.events peers o n))
      where
        octets : AreOctets (view parties w o n)
        octets = subst (λ (w : World). AreOctets (view parties w o n)) reached.leads
            ((run-octets parties reached.events peers).session o n)

        promises : IsPromising (limit_at parties o) (limit_at parties (other o))
            (view parties w o n)
        promises = promising (limit_at parties o) (limit_at parties (other o))
            (view parties w o n) (hopeful.sessions o n)

        rank : ℕ
        rank = start_rank (at_end parties o).policy (view parties w o n).sender
            (view parties w o n).receiver

        by_used : (used : Bool) → HasFactsBy SessionFacts
            (submissions parties (starts_world parties) reached.events) o n used
            (view parties w o n)
            → StandsBy SessionFacts (setting parties o n) used (view parties w o n)
            (said o (at_end parties o).own n []) (said (other o) (at_end parties o).own n [])
            (start_rank (at_end parties o).policy (view parties w o n).sender
            (view parties w o n).receiver)
        by_used false unused = record {
          unused = unused;
          none_s = said-none o
              (at_end parties o).own n;
          none_r = said-none (other o) (at_end parties o).own n;
        }
        by_used true has = record {
          block = block;
          red = red;
          facts = has.facts;
          drains = subst (λ new_s. Drains (setting parties o n red) (view parties w o n) new_s
              (said (other o) (at_end parties o).own n []) rank)
              (sym (said-none o (at_end parties o).own n))
              (subst (λ new_r. Drains (setting parties o n red) (view parties w o n) [] new_r
              rank) (sym (said-none (other o) (at_end parties o).own n)) (record {
                calm = calm-starts (limit_at parties o) (limit_at parties (other o))
                    (view parties w o n) promises;
                rank = start-ranked (at_end parties o).policy red (view parties w o n) _ _ refl
                    refl;
                serials = start-serials (limit_at parties o) (limit_at parties (other o)) n rank
                    (view parties w o n) promises
                    (low-start (at_end parties o).policy (view parties w o n).sender
                    (view parties w o n).receiver (cuts-two parties alike o)
                    (kept-weaker (IsSenderOf block red) (λ s. length s.block ≤ 2 ^ 22)
                    (view parties w o n).sender
                    (λ s of. omega (
                      arith,
                      ap length of.same_block,
                      short,
                      most-low parties alike o,
                    )) ((has.facts).basic).sender));
                fit = block-fits block red (at_end parties (other o)).most (view parties w o n)
                    (omega (arith, short, most-at parties alike o)) (has.facts).basic octets;
                low = λ is_open. omega (
                  arith,
                  ((has.facts).basic).within,
                  short,
                  most-at parties alike o,
                );
              }));
        }
          where
            block : List ℕ
            block = (has.submission).block

            red : ℕ
            red = (has.submission).red

            short : length (has.submission).block ≤ (at_end parties o).most
            short = subst (λ (e : End). length (has.submission).block ≤ (at_end parties e).most)
                has.from
                (submitted-within parties (starts_world parties) reached.events has.submission
                has.among)
