-- What an engine of the code keeps, as its value.

use Rattle.std.specs.Prelude.{ℕ, Bool, false, List, Option, None, Some, if◌then◌else◌}
use Rattle.ltp_segment.specs.declared.session.Step.{Step}
use Rattle.ltp_segment.specs.declared.session.Note.TheVariants as notes
use Rattle.ltp_segment.specs.Values.{ContentValue}
use Rattle.ltp_segment.specs.declared.session.TheConstants.{BLOCK_MAX}
use Rattle.ltp_segment.specs.PolicyViews.{policy_value}
use Rattle.ltp_session.specs.Sender.{Sending, begin}
use Rattle.ltp_session.specs.Engine.{Party, Engine, EngineStep, is_used, to_sender, to_receiver}
use Rattle.ltp_session.specs.Engine.{replied_or_stranger, replied, begun}
use Rattle.ltp_session.specs.Views.{SessionValue}
use Rattle.ltp_engine.specs.declared.effects.Effects.{Effects}
use Rattle.ltp_engine.specs.Effects.{effects_in, only_noted}
use Rattle.ltp_engine.specs.Values.{EngineValue}
use Rattle.ltp_engine.specs.Bounds.{IsSound}
use Rattle.ltp_engine.specs.Tables.{table_of, AreLive}
use Rattle.ltp_engine.specs.Inbound.{inbound_of}
use Rattle.ltp_engine.specs.declared.inbound.Inbound.{Inbound}
use Rattle.ltp_engine.specs.declared.parts.Parts.{Parts}

abbrev pub made_of :
    Bool → Party → ℕ → List (ℕ × SessionValue Sending) → Inbound → EngineValue
made_of spent party next senders inbound = record {
  spent = spent;
  party = party;
  next = next;
  senders = table_of senders;
  inbound = inbound_of inbound;
}

-- no session is over or spent, and the bounds hold
pub record AreWhole (party : Party) (next : ℕ) (senders : List (ℕ × SessionValue Sending))
    (inbound : Inbound) : Type 0 where
  pub own : AreLive party.own party.policy senders
  pub others : AreLive party.peer party.policy inbound.receivers.entries
  pub sound : IsSound (made_of false party next senders inbound)

-- ---- of what an engine keeps

abbrev pub party_of : Parts → Party
party_of p = record {
  own = p.own;
  peer = p.peer;
  first = p.first;
  policy = policy_value p.policy;
  most = BLOCK_MAX;
  sessions = p.sessions;
  history = p.history;
}

abbrev pub value_of : Bool → Parts → EngineValue
value_of spent p = made_of spent (party_of p) p.next p.senders.entries p.inbound

abbrev pub IsWhole : Parts → Type 0
IsWhole p = AreWhole (party_of p) p.next p.senders.entries p.inbound

-- ---- a segment comes

-- a segment of a session that the engine itself began
abbrev pub own_step : Party → Engine → ℕ → ContentValue → ℕ → EngineStep
own_step p e n content now =
    replied_or_stranger e (record { originator = p.own; number = n })
    (if is_used p e n
    then to_sender p e (record { originator = p.own; session = n; content = content }) now
    else None)

-- a segment of a session that its peer began
abbrev pub peer_step : Party → Engine → ℕ → ContentValue → ℕ → EngineStep
peer_step p e n content now =
    replied_or_stranger e (record { originator = p.peer; number = n })
    (to_receiver p e (record { originator = p.peer; session = n; content = content }) now)

-- the effects of what a side told
abbrev pub sent_of : ℕ → Option Step → Effects
sent_of n None = only_noted notes.Stranger
sent_of n (Some step) = effects_in n None step

abbrev pub handed_of : ℕ → Option (Option ℕ × Step) → Effects
handed_of n None = only_noted notes.Stranger
handed_of n (Some told) = effects_in n told.0 told.1

-- a session begins with the next number
abbrev pub begun_step : Party → Engine → List ℕ → ℕ → ℕ → EngineStep
begun_step p e block red now =
    replied (record { originator = p.own; number = e.next })
    (begun e (begin p.policy e.next block red now))
