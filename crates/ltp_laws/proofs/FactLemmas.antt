-- The facts of a session are kept by its steps.

use Rattle.std.proofs.Common.{ℕ, List, subst}
use Rattle.ltp_session.specs.Receiver.{Receiving}
use Rattle.ltp_session.specs.Sender.{Sending, begin}
use Rattle.ltp_session.specs.Step.{StepValue, ends}
use Rattle.ltp_laws.specs.Acknowledgements.{AckFacts}
use Rattle.ltp_laws.specs.Blocks.{IsReceiverOf, BlockFacts, IsSenderOf}
use Rattle.ltp_laws.specs.Cancels.{CancelFacts}
use Rattle.ltp_laws.specs.Checkpoints.{CheckpointFacts, FirstFacts}
use Rattle.ltp_laws.specs.Claims.{ClaimFacts}
use Rattle.ltp_laws.specs.Facts.{SessionFacts}
use Rattle.ltp_laws.specs.HandUps.{HandUpFacts}
use Rattle.ltp_laws.specs.Kept.{IfKept}
use Rattle.ltp_laws.specs.Kinds.{KindFacts}
use Rattle.ltp_laws.specs.Reach.{ReachFacts, WholeFacts}
use Rattle.ltp_laws.specs.Runs.{ReportedFacts, AskedFacts, KeepsTo, no_facts, both_facts}
use Rattle.ltp_laws.specs.Runs.{KeepsUnder}
use Rattle.ltp_laws.specs.Serials.{SerialFacts}
use Rattle.ltp_laws.specs.Spelling.{SpellingFacts, HeldFacts}
use Rattle.ltp_laws.specs.View.{View, sender_moves, receiver_moves}
use Rattle.ltp_laws.proofs.AckLemmas.{acks-keep}
use Rattle.ltp_laws.proofs.CancelLemmas.{off-keep}
use Rattle.ltp_laws.proofs.CheckpointLemmas.{asks-keep}
use Rattle.ltp_laws.proofs.ClaimLemmas.{claims-keep}
use Rattle.ltp_laws.proofs.CloseLemmas.{closes-whole, first-keep}
use Rattle.ltp_laws.proofs.CompletionLemmas.{ends-whole, block-keep}
use Rattle.ltp_laws.proofs.HandUpLemmas.{handed-keep, kept-on}
use Rattle.ltp_laws.proofs.KindLemmas.{kinds-keep}
use Rattle.ltp_laws.proofs.ListLemmas.{all-append}
use Rattle.ltp_laws.proofs.ReachLemmas.{reach-keep, whole-keep}
use Rattle.ltp_laws.proofs.ReceiverLemmas.{receiver_tick-keeps, receiver-keeps}
use Rattle.ltp_laws.proofs.RedPartLemmas.{held-keep}
use Rattle.ltp_laws.proofs.RunLemmas.{joined}
use Rattle.ltp_laws.proofs.SenderLemmas.{begin-keeps, sender_tick-keeps, sender-keeps}
use Rattle.ltp_laws.proofs.SerialLemmas.{reports-keep, all-among}

-- ---- a session's facts

sender_moves-good : (block : List ℕ) (red : ℕ) (v : View) (t : StepValue Sending)
    → BlockFacts block red v → KeepsTo block red (IsSenderOf block red) t
    → BlockFacts block red (sender_moves v t)
sender_moves-good block red v t facts keeps_to = record {
  within = facts.within;
  said = all-append _ v.by_sender t.out facts.said keeps_to.out;
  sender = kept-on (IsSenderOf block red) t.next v.sender facts.sender keeps_to.next;
  receiver = facts.receiver;
}

receiver_moves-good : (block : List ℕ) (red : ℕ) (v : View) (t : StepValue Receiving)
    → BlockFacts block red v → KeepsTo block red (IsReceiverOf block red) t
    → BlockFacts block red (receiver_moves v t)
receiver_moves-good block red v t facts keeps_to = record {
  within = facts.within;
  said = facts.said;
  sender = facts.sender;
  receiver = kept-on (IsReceiverOf block red) t.next v.receiver facts.receiver keeps_to.next;
}

pub facts-keep : KeepsUnder no_facts BlockFacts
facts-keep = record {
  begins = λ policy n block red now v cuts within unused _.
      let keeps_to = begin-keeps policy n block red now within in
      record {
        within = within;
        said = rw unused.by_sender keeps_to.out;
        sender = kept-on (IsSenderOf block red) (begin policy n block red now).next v.sender
            (rw unused.sender tt) keeps_to.next;
        receiver = rw unused.receiver tt;
      };
  sender = λ block red policy v content now t among hears _ _ facts.
      sender_moves-good block red v t facts (sender-keeps block red policy v.sender content now t
      facts.sender hears);
  receiver = λ block red policy place v content now t closed among hears _ _ facts.
      receiver_moves-good block red v t facts
      (receiver-keeps block red policy place v.receiver content now t facts.receiver
      (all-among _ content v.by_sender facts.said among) hears);
  sender_tick = λ block red policy now v s is _ _ facts.
      sender_moves-good block red v _ facts (sender_tick-keeps block red policy now s
      (subst (IfKept (IsSenderOf block red)) is facts.sender));
  receiver_tick = λ block red policy now v r is _ _ facts.
      receiver_moves-good block red v _ facts (receiver_tick-keeps block red policy now r
      (subst (IfKept (IsReceiverOf block red)) is facts.receiver));
  evicted = λ block red v r is _ _ facts. record {
    within = facts.within;
    said = facts.said;
    sender = facts.sender;
    receiver = tt;
  };
}

pub all-keep : KeepsUnder no_facts ReportedFacts
all-keep = joined (both_facts BlockFacts SerialFacts) ClaimFacts
    (joined BlockFacts SerialFacts facts-keep reports-keep) claims-keep

pub more-keep : KeepsUnder no_facts AskedFacts
more-keep = joined ReportedFacts CheckpointFacts all-keep asks-keep

-- facts under which others are kept, given by more
under : (F F' G : List ℕ → ℕ → View → Type 0)
    → ((block : List ℕ) (red : ℕ) (v : View) → F' block red v → F block red v) → KeepsUnder F G
    → KeepsUnder F' G
under F F' G gives g = record {
  begins = λ policy n block red now v cuts within unused f. g.begins policy n block red now v cuts
      within unused (gives block red _ f);
  sender = λ block red policy v content now t among hears f f' facts. g.sender block red policy v
      content now t among hears (gives block red _ f) (gives block red _ f') facts;
  receiver = λ block red policy place v content now t closed among hears f f' facts. g.receiver
      block red policy place v content now t closed among hears (gives block red _ f)
      (gives block red _ f') facts;
  sender_tick = λ block red policy now v s is f f' facts. g.sender_tick block red policy now v s is
      (gives block red _ f) (gives block red _ f') facts;
  receiver_tick = λ block red policy now v r is f f' facts. g.receiver_tick block red policy now v
      r is (gives block red _ f) (gives block red _ f') facts;
  evicted = λ block red v r is f f' facts. g.evicted block red v r is (gives block red _ f)
      (gives block red _ f') facts;
}

-- the same facts in other words
same_facts : (F G : List ℕ → ℕ → View → Type 0)
    → ((block : List ℕ) (red : ℕ) (v : View) → F block red v → G block red v)
    → ((block : List ℕ) (red : ℕ) (v : View) → G block red v → F block red v)
    → KeepsUnder no_facts F → KeepsUnder no_facts G
same_facts F G to from f = record {
  begins = λ policy n block red now v cuts within unused none. to block red _
      (f.begins policy n block red now v cuts within unused none);
  sender = λ block red policy v content now t among hears none none' facts. to block red _
      (f.sender block red policy v content now t among hears none none' (from block red _ facts));
  receiver = λ block red policy place v content now t closed among hears none none' facts.
      to block red _ (f.receiver block red policy place v content now t closed among hears none
      none' (from block red _ facts));
  sender_tick = λ block red policy now v s is none none' facts. to block red _
      (f.sender_tick block red policy now v s is none none' (from block red _ facts));
  receiver_tick = λ block red policy now v r is none none' facts. to block red _
      (f.receiver_tick block red policy now v r is none none' (from block red _ facts));
  evicted = λ block red v r is none none' facts. to block red _
      (f.evicted block red v r is none none' (from block red _ facts));
}

abbrev HeldToo : List ℕ → ℕ → View → Type 0
HeldToo = both_facts AskedFacts HeldFacts

abbrev HandedToo : List ℕ → ℕ → View → Type 0
HandedToo = both_facts HeldToo HandUpFacts

abbrev AcksToo : List ℕ → ℕ → View → Type 0
AcksToo = both_facts HandedToo AckFacts

abbrev OffsToo : List ℕ → ℕ → View → Type 0
OffsToo = both_facts AcksToo CancelFacts

abbrev FirstsToo : List ℕ → ℕ → View → Type 0
FirstsToo = both_facts OffsToo FirstFacts

abbrev ReachToo : List ℕ → ℕ → View → Type 0
ReachToo = both_facts FirstsToo ReachFacts

abbrev WholeToo : List ℕ → ℕ → View → Type 0
WholeToo = both_facts ReachToo WholeFacts

whole-too : KeepsUnder no_facts WholeToo
whole-too =
    joined ReachToo WholeFacts
    (joined FirstsToo ReachFacts
    (joined OffsToo FirstFacts
    (joined AcksToo CancelFacts
    (joined HandedToo AckFacts
    (joined HeldToo HandUpFacts
    (joined AskedFacts HeldFacts more-keep held-keep)
    (under BlockFacts HeldToo HandUpFacts (λ block red v f. f.0.0.0.0) handed-keep))
    (under ClaimFacts HandedToo AckFacts (λ block red v f. f.0.0.0.1) acks-keep))
    (under BlockFacts AcksToo CancelFacts (λ block red v f. f.0.0.0.0.0.0) off-keep))
    (under CheckpointFacts OffsToo FirstFacts (λ block red v f. f.0.0.0.0.1) first-keep))
    (under AskedFacts FirstsToo ReachFacts (λ block red v f. f.0.0.0.0.0) reach-keep))
    (under AskedFacts ReachToo WholeFacts (λ block red v f. f.0.0.0.0.0.0) whole-keep)

abbrev BlockToo : List ℕ → ℕ → View → Type 0
BlockToo = both_facts WholeToo SpellingFacts

abbrev KindsToo : List ℕ → ℕ → View → Type 0
KindsToo = both_facts BlockToo KindFacts

kinds-too : KeepsUnder no_facts KindsToo
kinds-too =
    joined BlockToo KindFacts
    (joined WholeToo SpellingFacts
    whole-too
    (under BlockFacts WholeToo SpellingFacts (λ block red v f. f.0.0.0.0.0.0.0.0.0.0) block-keep))
    (under no_facts BlockToo KindFacts (λ block red v f. tt) kinds-keep)

as_session : (block : List ℕ) (red : ℕ) (v : View) → KindsToo block red v
    → SessionFacts block red v
as_session block red v f =
    let w : WholeToo block red v = f.0.0 in
    let g : FirstsToo block red v = f.0.0.0.0 in
    let acks : AckFacts block red v = g.0.0.1 in
    record {
      basic = g.0.0.0.0.0.0.0.0;
      reports = g.0.0.0.0.0.0.0.1;
      claims = g.0.0.0.0.0.0.1;
      asks = g.0.0.0.0.0.1;
      held = g.0.0.0.0.1;
      handed = g.0.0.0.1;
      acks = acks;
      offs = g.0.1;
      closes = closes-whole block red v (record { more = g.0.0.0.0.0; acks = acks });
      firsts = g.1;
      reach = w.0.1;
      whole = w.1;
      spelled = f.0.1;
      kinds = f.1;
      ends = ends-whole block red v (record {
        reports = g.0.0.0.0.0.0.0.1;
        claims = g.0.0.0.0.0.0.1;
        asks = g.0.0.0.0.0.1;
        acks = acks;
        reach =
            w.0.1;
        hands = g.0.0.0.1;
      });
    }

from_session : (block : List ℕ) (red : ℕ) (v : View) → SessionFacts block red v
    → KindsToo block red v
from_session block red v s =
    ((
      (
        (
          (
            (
              (((((((s.basic, s.reports), s.claims), s.asks), s.held), s.handed), s.acks), s.offs),
              s.firsts,
            ),
            s.reach,
          ),
          s.whole,
        ),
        s.spelled,
      ),
      s.kinds,
    ))

pub session-keep : KeepsUnder no_facts SessionFacts
session-keep = same_facts KindsToo SessionFacts as_session from_session kinds-too
