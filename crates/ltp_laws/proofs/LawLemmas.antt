-- The laws over all runs.

use Rattle.std.proofs.Common.{◌≡◌, ℕ, Bool, true, false, List, Some, sym, subst}
use Rattle.std.specs.List.{slice_get}
use Rattle.ltp_session.specs.Engine.{Party}
use Rattle.ltp_session.specs.World.{End, first_end, second_end, other, at_end, World, Sent, Event}
use Rattle.ltp_session.specs.World.{run, starts_world, ArePeers}
use Rattle.ltp_laws.specs.HandUps.{up_by}
use Rattle.ltp_laws.specs.Kept.{IfKept}
use Rattle.ltp_laws.specs.Runs.{Session, SessionBy, HoldsIn}
use Rattle.ltp_laws.specs.Spelling.{HoldsCells, HeldFacts, IsRedPart}
use Rattle.ltp_laws.specs.View.{View, view, said}
use Rattle.ltp_laws.proofs.RedPartLemmas.{held-keep, arrival-up}
use Rattle.ltp_laws.proofs.RunLemmas.{every_run, session-invariant, session-start, sent-among}

session-held : (v : View) → Session HeldFacts v
    → IfKept (λ r. HoldsCells v.by_sender r.cells r.length) v.receiver
session-held v session = by_used v.used session
  where
    by_used : (used : Bool) → SessionBy HeldFacts used v
        → IfKept (λ r. HoldsCells v.by_sender r.cells r.length) v.receiver
    by_used true has = (has.facts).held
    by_used false unused = subst (IfKept (λ r. HoldsCells v.by_sender r.cells r.length))
        (sym unused.receiver) tt

pub knows : (parties : Party × Party) (from : End) → ArePeers parties
    → (at_end parties (other from)).peer ≡ (at_end parties from).own
knows parties first_end peers = peers.second_knows
knows parties second_end peers = peers.first_knows

pub handed_up_is_sent : (parties : Party × Party) (events : List Event) → ArePeers parties
    → (k : ℕ) (d : Sent)
    → slice_get (run parties (starts_world parties) events).sent k ≡ Some d → (body : List ℕ)
    → up_by parties (run parties (starts_world parties) events) d ≡ Some body
    → IsRedPart (said d.from d.segment.originator d.segment.session
    (run parties (starts_world parties) events).sent) body
handed_up_is_sent parties events peers k d is =
    arrival-up (other d.from) d.from (at_end parties (other d.from)) (at_end parties d.from)
    (at_end w.engines (other d.from)) (at_end w.engines d.from) w.sent d.segment w.now
    (knows parties d.from peers) (sent-among w.sent k d is)
    (session-held (view parties w d.from (d.segment).session)
    (holds.session d.from (d.segment).session))
  where
    w : World
    w = run parties (starts_world parties) events

    holds : HoldsIn (λ o n. Session HeldFacts) parties (run parties (starts_world parties) events)
    holds = every_run (Session HeldFacts) (session-invariant HeldFacts held-keep)
        (session-start HeldFacts) parties events peers
