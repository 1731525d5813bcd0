-- What an engine keeps as a whole.

use Rattle.std.proofs.Common.{◌≡◌, ℕ, ◌+◌, ◌<◌, ◌≤◌, ◌^◌, false, List, [], length, refl, sym, ◌∙◌, ap, arith, subst}
use Rattle.std.specs.List.{AllByRecursion}
use Rattle.std.proofs.lemmas.List.{map-append}
use Rattle.spans.proofs.Places.{length-uncovered}
use Rattle.ltp_segment.specs.Spelling.{segment_octets}
use Rattle.ltp_session.specs.Sender.{Sending}
use Rattle.ltp_session.specs.Table.{find, ticked, AreAscending}
use Rattle.ltp_session.specs.Engine.{Party, tick_step, tick_segments, tick_remarks}
use Rattle.ltp_session.specs.Views.{SessionValue}
use Rattle.ltp_laws.proofs.TableLemmas.{ascending-ticked}
use Rattle.ltp_engine.specs.declared.closed.TheConstants.{LAST}
use Rattle.ltp_engine.specs.declared.effects.Effects.{Effects}
use Rattle.ltp_engine.specs.declared.inbound.Inbound.{Inbound}
use Rattle.ltp_engine.specs.Values.{nothing_received}
use Rattle.ltp_engine.specs.Bounds.{IsInboundSound, SendsAtMost, ReceivesAtMost}
use Rattle.ltp_engine.specs.Tables.{table_of, live_all}
use Rattle.ltp_engine.specs.Ticks.{sender_ticked, sender_change, receiver_ticked, receiver_change, with_ticks}
use Rattle.ltp_engine.specs.Inbound.{inbound_of, Keeps, ticked_in}
use Rattle.ltp_engine.specs.Effects.{nothing_done}
use Rattle.ltp_engine.specs.Shows.{ShowsInbound}
use Rattle.ltp_engine.specs.Steps.{Steps}
use Rattle.ltp_engine.specs.Ties.{made_of, AreWhole}
use Rattle.ltp_engine.proofs.TableLemmas.{table_of-live_all, live-table}
use Rattle.ltp_engine.proofs.KeepLemmas.{sound-ticked, length-ticked}
use Rattle.ltp_engine.proofs.BlockLemmas.{all-ticked, sender-tick-within, receiver-tick-within}
use Rattle.ltp_engine.proofs.ShowLemmas.{shows-ticked}

-- ---- at its beginning

sound-none : (p : Party) → IsInboundSound p nothing_received
unfolding find
sound-none p = record {
  receivers = omega arith;
  history = omega arith;
  unclosed = λ n holds. absurd (cc);
  range = λ n holds. absurd (cc);
  limit = length-uncovered LAST;
  ascending = tt;
}

pub new-whole : (p : Party) (senders : List (ℕ × SessionValue Sending)) (inbound : Inbound) → senders ≡ [] → p.first < 2 ^ 32 → 1 ≤ p.sessions → p.history < 2 ^ 32
    → Keeps p.peer p.policy inbound nothing_received → AreWhole p p.first senders inbound
new-whole p senders inbound none few some countable keep = record {
  own = rw none refl;
  others = keep.live;
  sound = record {
    some = some;
    countable = countable;
    begun = omega arith;
    numbers = omega (arith, few);
    senders = rw none (omega arith);
    ascending = rw none tt;
    inbound = subst (IsInboundSound p) (sym keep.is) (sound-none p);
    sent = rw none tt;
    received = subst (λ i. AllByRecursion (ReceivesAtMost p.most) i.receivers) (sym keep.is) tt;
  };
}

pub new-value : (p : Party) (senders : List (ℕ × SessionValue Sending)) (inbound : Inbound) → senders ≡ [] → Keeps p.peer p.policy inbound nothing_received
    → made_of false p p.first senders inbound ≡ record { spent = false; party = p; next = p.first; senders = []; inbound = nothing_received }
new-value p senders inbound none keep = rw (none, keep.is) refl

-- ---- all sessions tick

pub tick-room : (p : Party) (next : ℕ) (senders : List (ℕ × SessionValue Sending)) (inbound : Inbound) → AreWhole p next senders inbound
    → inbound.closed.runs + length (inbound_of inbound).receivers < 2 ^ 32
tick-room p next senders inbound whole = omega (arith, whole.sound.inbound.history, whole.sound.countable)

pub tick-whole : (p : Party) (next now : ℕ) (senders senders' : List (ℕ × SessionValue Sending)) (inbound inbound' : Inbound) → AreWhole p next senders inbound
    → senders' ≡ live_all p.own p.policy (ticked (sender_change p.policy now) (table_of senders))
    → Keeps p.peer p.policy inbound' (ticked_in p.policy now (inbound_of inbound)) → AreWhole p next senders' inbound'
tick-whole p next now senders senders' inbound inbound' whole is keep =
    let tab = ap (λ es. table_of es) is ∙ table_of-live_all p.own p.policy (ticked (sender_change p.policy now) (table_of senders)) in
    let fewer = length-ticked (sender_change p.policy now) (table_of senders) in
    record {
      own = live-table p.own p.policy senders' (ticked (sender_change p.policy now) (table_of senders)) is;
      others = keep.live;
      sound = record {
        some = whole.sound.some;
        countable = whole.sound.countable;
        begun = whole.sound.begun;
        numbers = whole.sound.numbers;
        senders = rw tab (omega (arith, fewer, whole.sound.senders));
        ascending = subst (λ t. AreAscending 0 t) (sym tab) (ascending-ticked (sender_change p.policy now) 0 (table_of senders) whole.sound.ascending);
        inbound = subst (IsInboundSound p) (sym keep.is)
            (sound-ticked p (receiver_change p.policy now) (inbound_of inbound) whole.sound.inbound);
        sent = subst (λ t. AllByRecursion (SendsAtMost p.most) t) (sym tab)
            (all-ticked (SendsAtMost p.most) (sender_change p.policy now) (table_of senders) (λ n s within. sender-tick-within p.most n p.policy now s within) whole.sound.sent);
        received = subst (λ i. AllByRecursion (ReceivesAtMost p.most) i.receivers) (sym keep.is)
            (all-ticked (ReceivesAtMost p.most) (receiver_change p.policy now) (inbound_of inbound).receivers (λ n r within. receiver-tick-within p.most n p.policy now r within) whole.sound.received);
      };
    }

pub tick-steps : (p : Party) (next now : ℕ) (senders senders' : List (ℕ × SessionValue Sending)) (inbound inbound' : Inbound) (sent told : Effects) → AreWhole p next senders inbound
    → senders' ≡ live_all p.own p.policy (ticked (sender_change p.policy now) (table_of senders))
    → Keeps p.peer p.policy inbound' (ticked_in p.policy now (inbound_of inbound))
    → sent ≡ with_ticks nothing_done (tick_segments (sender_ticked p.policy now) p.own (table_of senders)) (tick_remarks (sender_ticked p.policy now) (table_of senders))
    → told ≡ with_ticks sent (tick_segments (receiver_ticked p.policy now) p.peer (inbound_of inbound).receivers) (tick_remarks (receiver_ticked p.policy now) (inbound_of inbound).receivers)
    → Steps (made_of false p next senders inbound) (made_of false p next senders' inbound') (λ e. tick_step p e now) told
unfolding tick_step
tick-steps p next now senders senders' inbound inbound' sent told whole is keep sent_is told_is =
    let tab = ap (λ es. table_of es) is ∙ table_of-live_all p.own p.policy (ticked (sender_change p.policy now) (table_of senders)) in
    record {
      whole = refl;
      party = refl;
      next = λ e shows. record {
        next = shows.next;
        senders = ap (λ t. ticked (sender_change p.policy now) t) shows.senders ∙ sym tab;
        inbound = subst (λ i. ShowsInbound i (tick_step p e now).engine) (sym keep.is)
            (shows-ticked p (receiver_change p.policy now) (inbound_of inbound) e (tick_step p e now).engine whole.sound.inbound shows.inbound refl refl refl);
      };
      effects_are = λ e shows. told_is ∙ (rw sent_is (rw (shows.senders, shows.inbound.receivers)
          (rw (map-append segment_octets (tick_segments (sender_ticked p.policy now) p.own (table_of senders)) (tick_segments (receiver_ticked p.policy now) p.peer (inbound_of inbound).receivers)) refl)));
    }
