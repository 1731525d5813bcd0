-- How a run of `make` went.
use Rattle.std.specs.Prelude.{[], List, ℕ, Option}
use Rattle.edge_traits.specs.declared.status.Status.{Status}
use Rattle.edge_traits.specs.declared.status.Status.TheVariants.{Done, Refused, Usage, ReadFault, WriteFault, Limit, Memory}
use Rattle.edge_traits.specs.Content.{Gains, GainsFront}
use Rattle.edge_traits.specs.Outcome.{SinkTells, EndsAs, WentWriting}
use Rattle.edge_traits.specs.Settled.{Settled}

-- what was written of an answer by a run that ended so: the answer, a front of it after a failed write,
-- and nothing for want of memory
abbrev pub WroteMade : Settled → Status → Option (List ℕ) → Option (List ℕ) → Type 0
WroteMade due Done before now = EndsAs due Done before now
WroteMade due Limit before now = EndsAs due Limit before now
WroteMade due WriteFault before now = GainsFront before now due.text
WroteMade due Memory before now = Gains {X = ℕ} before now []
WroteMade due Refused before now = ⊥
WroteMade due Usage before now = ⊥
WroteMade due ReadFault before now = ⊥

-- a run that ended so wrote that, and no write followed one that failed
pub record RanMade (due : Settled) (status : Status) (sink sink_now : SinkTells) : Type 0 where
  pub wrote : WroteMade due status sink.held sink_now.held
  pub writes : WentWriting status sink.calls sink_now.calls
