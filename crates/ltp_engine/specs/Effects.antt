-- What a call of an engine is to have done, as datagrams.

use Rattle.std.specs.Prelude.{ℕ, List, [], ◌∷◌, ◌++◌, map, Option}
use Rattle.ltp_segment.specs.declared.session.Note.{Note}
use Rattle.std.specs.Option.{option_map}
use Rattle.ltp_segment.specs.declared.session.Note.TheVariants as notes
use Rattle.ltp_segment.specs.declared.session.Step.{Step}
use Rattle.ltp_segment.specs.Spelling.{segment_octets}
use Rattle.ltp_session.specs.Engine.{UpValue, EffectsValue, list_of}
use Rattle.ltp_engine.specs.declared.effects.Up.{Up}
use Rattle.ltp_engine.specs.declared.effects.Effects.{Effects}

abbrev pub up_of : UpValue → Up
up_of up = record { session = up.session; body = up.body }

-- the effects of a step of the definition: each segment as its octets
abbrev pub effects_of : EffectsValue → Effects
effects_of e = record {
  out = map segment_octets e.out;
  ups = map up_of e.ups;
  greens = e.greens;
  notes = e.notes;
}

-- the effects of a session's step, before which a session was evicted
abbrev pub effects_in : ℕ → Option ℕ → Step → Effects
effects_in n gone step = record {
  out = step.out;
  ups = list_of (option_map (λ body. record { session = n; body = body }) step.up);
  greens = list_of step.green;
  notes = list_of (option_map notes.Evicted gone) ++ list_of step.note;
}

abbrev pub nothing_done : Effects
nothing_done = record { out = []; ups = []; greens = []; notes = [] }

abbrev pub only_noted : Note → Effects
only_noted note = record { out = []; ups = []; greens = []; notes = note ∷ [] }

-- what a session sends and notes is added
abbrev pub with_sent : Effects → List (List ℕ) → Option Note → Effects
with_sent e out note = record e { out = e.out ++ out; notes = e.notes ++ list_of note }
