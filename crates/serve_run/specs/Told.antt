-- A run over links and a clock that tell all of how they go on.
use Rattle.std.specs.Prelude.{◌≡◌, ℕ, List, ◌∷◌, map, Bool, Some}
use Rattle.endpoint.specs.declared.name.Endpoint.{Endpoint}
use Rattle.edge_traits.specs.Content.{Gains}
use Rattle.edge_traits.specs.Outcome.{SinkTells}
use Rattle.edge_traits.specs.declared.status.Status.TheVariants.{Done}
use Rattle.gate_cases.specs.declared.face.Face.TheVariants.{Old, New}
use Rattle.serve_run.specs.Outside.{LinkAhead, Outside}
use Rattle.serve_run.specs.Serve.{serve_turns}
use Rattle.serve_run.specs.Turns.{Made, sent_on}
use Rattle.serve_run.specs.Deeds.{deeds_of, text_of}
use Rattle.serve_run.specs.Tells.{OutsideTells, RanTurns}

-- a link that gives these datagrams and fails so, and two with a clock that shows these readings
abbrev pub link_of : List (List ℕ) → List Bool → LinkAhead
link_of coming failing = record { gives = map Some coming; failing = failing }

abbrev pub outside_of : LinkAhead → LinkAhead → ℕ → List ℕ → Outside
outside_of old new shows later = record { old = old; new = new; clock = record { shows = shows; later = later } }

-- exactly this was written, sent, and done outside
pub record WentExactly (made : Made) (before now : OutsideTells) (sink sink_now : SinkTells) : Type 0 where
  pub wrote : Gains sink.held sink_now.held (text_of made)
  pub old : Gains before.old.gone now.old.gone (sent_on Old made)
  pub new : Gains before.new.gone now.new.gone (sent_on New made)
  pub trace : Gains before.trace now.trace (deeds_of made)

-- where all is told, a run of `serve` that is done went exactly as these have it
abbrev pub IsExactWhereTold : Type 0
IsExactWhereTold = (gate : Endpoint) (count : ℕ) (before now : OutsideTells) (sink sink_now : SinkTells)
    (old new : List (List ℕ)) (old_failing new_failing : List Bool) (shows : ℕ) (later : List ℕ)
    → before.old.coming ≡ Some old → before.old.failing ≡ Some old_failing
    → before.new.coming ≡ Some new → before.new.failing ≡ Some new_failing
    → before.readings ≡ Some (shows ∷ later)
    → RanTurns (serve_turns gate count) Done before now sink sink_now
    → WentExactly (serve_turns gate count (outside_of (link_of old old_failing) (link_of new new_failing) shows later)).made before now sink sink_now
