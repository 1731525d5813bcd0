-- What a step of the code does, as the definitions have it.
use Rattle.std.specs.String.{string_bytes}
use Rattle.serve_run.specs.declared.turn_step.Effects.{Effects}
use Rattle.serve_run.specs.Turns.{StepEffects}

abbrev pub effects_in : Effects → StepEffects
effects_in e = record { out = e.out; text = string_bytes e.text }
