-- The outside of a run at a moment: a source, a sink, two links and a clock, and what they tell.
use Rattle.std.specs.Prelude.{◌≡◌, ◌<◌, ◌-◌, ◌^◌}
use Rattle.edge_traits.specs.declared.source.Source.{Ghosts as SourceWords}
use Rattle.edge_traits.specs.declared.sink.Sink.{Ghosts as SinkWords}
use Rattle.edge_traits.specs.declared.link.Link.{Ghosts as LinkWords}
use Rattle.edge_traits.specs.declared.clock.Clock.{Ghosts as ClockWords}
use Rattle.edge_traits.specs.Outcome.{SourceTells, SinkTells, source_tells, sink_tells}
use Rattle.serve_run.specs.Tells.{OutsideTells, links_tell}

pub record Edge (S K L C : Type 0) : Type 0 where
  pub source : S
  pub sink : K
  pub old_link : L
  pub new_link : L
  pub clock : C
  pub reads : SourceTells
  pub writes : SinkTells
  pub links : OutsideTells

-- it has these, which tell what the words of their kinds say
abbrev pub edge_of : {S K L C : Type 0} → SourceWords S → SinkWords K → LinkWords L → ClockWords C → S → K → L → L → C → Edge S K L C
edge_of s k l c source sink old_link new_link clock = record {
  source = source;
  sink = sink;
  old_link = old_link;
  new_link = new_link;
  clock = clock;
  reads = source_tells s.left s.faults s.failing source;
  writes = sink_tells k.held k.faults k.failing sink;
  links = links_tell l.coming l.gone l.failing l.faults old_link new_link (c.readings clock);
}

-- links and clock are as before
pub record KeepsLinks {S K L C : Type 0} (before now : Edge S K L C) : Type 0 where
  pub old_link : now.old_link ≡ before.old_link
  pub new_link : now.new_link ≡ before.new_link
  pub clock : now.clock ≡ before.clock

-- both counts of faults can rise, and neither did: so no read and no write failed
pub record HasNoFault {S K L C : Type 0} (before now : Edge S K L C) : Type 0 where
  pub reads_may : before.reads.calls.faults < 2 ^ 64 - 1
  pub writes_may : before.writes.calls.faults < 2 ^ 64 - 1
  pub reads : now.reads.calls.faults ≡ before.reads.calls.faults
  pub writes : now.writes.calls.faults ≡ before.writes.calls.faults
