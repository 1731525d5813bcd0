-- The lines that `link` writes about what happens on a link.

use Rattle.std.specs.Prelude.{ℕ, ◌+◌, Bool, List, [], ◌∷◌, ◌++◌, length, codes}
use Rattle.std.specs.Prelude.{Some, nat_eq, if◌then◌else◌}
use Rattle.std.specs.List.{flat_map}
use Rattle.std.specs.Fmt.{decimal}
use Rattle.hex.specs.Hex.{encode_lower}
use Rattle.ltp_engine.specs.declared.effects.Up.{Up}
use Rattle.ltp_world.specs.declared.effects.EndEffects.{EndEffects}
use Rattle.ltp_world.specs.declared.ends.End.{End}
use Rattle.ltp_world.specs.declared.ends.End.TheVariants as ends
use Rattle.replay_script.specs.NoteLines.{line_of, note_line}
use Rattle.replay_script.specs.declared.fault.LineFault.{LineFault}
use Rattle.replay_script.specs.declared.line.Route.{Route}
use Rattle.replay_script.specs.declared.line.Route.TheVariants as routes
use Rattle.replay_script.specs.declared.line.Site.{Site}
use Rattle.replay_script.specs.declared.line.Site.TheVariants as sites
use Rattle.replay_script.specs.Fault.{word_of}
use Rattle.replay_script.specs.Lines.{route_word, site_word}
use Rattle.window_world.specs.declared.effects.At.{At}

-- how a line names an end: `f` or `s`
abbrev pub site_of : End → Site
site_of ends.First = sites.First
site_of ends.Second = sites.Second

abbrev pub end_word : End → List ℕ
end_word end = site_word (site_of end)

-- which way a datagram goes that an end sends: `f>s` or `s>f`
abbrev pub route_of : End → Route
route_of ends.First = routes.FirstSecond
route_of ends.Second = routes.SecondFirst

-- ---- what ends do

-- a line about a datagram, the k-th of all that were sent, from 0
abbrev pub sent_line : ℕ → End → List ℕ → List ℕ
sent_line k end datagram =
    line_of (codes "sent" ∷ decimal k ∷ route_word (route_of end) ∷ encode_lower datagram ∷ [])

-- datagrams of an end, where so many were sent before them
unfoldable pub out_lines : ℕ → End → List (List ℕ) → List ℕ
out_lines k end [] = []
out_lines k end (datagram ∷ datagrams) =
    sent_line k end datagram ++ out_lines (k + 1) end datagrams

-- and of ends, in order
unfoldable pub sent_lines : ℕ → List EndEffects → List ℕ
sent_lines k [] = []
sent_lines k (told ∷ tolds) =
    out_lines k told.end told.effects.out
    ++ sent_lines (k + length told.effects.out) tolds

-- a red part was handed up
abbrev pub up_line : End → Up → List ℕ
up_line end up =
    line_of (codes "up" ∷ end_word end ∷ decimal up.session ∷ encode_lower up.body ∷ [])

abbrev pub up_lines : EndEffects → List ℕ
up_lines told = flat_map (up_line told.end) told.effects.ups

abbrev pub note_lines : EndEffects → List ℕ
note_lines told = flat_map (note_line (Some (site_of told.end))) told.effects.notes

-- what ends do at an event, where so many datagrams were sent before it: datagrams, red parts, and
-- notes. Blocks are all red, so that no green data is handed up.
abbrev pub told_text : ℕ → List EndEffects → List ℕ
told_text k tolds = sent_lines k tolds ++ (flat_map up_lines tolds ++ flat_map note_lines tolds)

-- how many datagrams ends send, and how many octets these have
abbrev pub count_sent : List EndEffects → ℕ
count_sent [] = 0
count_sent (told ∷ tolds) = length told.effects.out + count_sent tolds

abbrev pub octets_of : List (List ℕ) → ℕ
octets_of [] = 0
octets_of (datagram ∷ datagrams) = length datagram + octets_of datagrams

abbrev pub octets_sent : List EndEffects → ℕ
octets_sent [] = 0
octets_sent (told ∷ tolds) = octets_of told.effects.out + octets_sent tolds

-- ---- in a drain

abbrev pub at_line : ℕ → List ℕ
at_line now = line_of (codes "at" ∷ decimal now ∷ [])

-- the moment of an event, where the link has windows and the event moved it
abbrev pub if_moved : Bool → ℕ → ℕ → List ℕ
if_moved windows before now =
    if windows then (if nat_eq now before then [] else at_line now) else []

-- events one after the other, where the clock shows this and so many datagrams were sent before
unfoldable pub timed_text : Bool → ℕ → ℕ → List At → List ℕ
timed_text windows moment k [] = []
timed_text windows moment k (at ∷ ats) =
    (if_moved windows moment at.now ++ told_text k at.effects)
    ++ timed_text windows at.now (k + count_sent at.effects) ats

abbrev pub count_timed : List At → ℕ
count_timed [] = 0
count_timed (at ∷ ats) = count_sent at.effects + count_timed ats

abbrev pub octets_timed : List At → ℕ
octets_timed [] = 0
octets_timed (at ∷ ats) = octets_sent at.effects + octets_timed ats

-- events without their moments, where so many datagrams were sent before
unfoldable pub steps_text : ℕ → List (List EndEffects) → List ℕ
steps_text k [] = []
steps_text k (tolds ∷ steps) = told_text k tolds ++ steps_text (k + count_sent tolds) steps

abbrev pub count_steps : List (List EndEffects) → ℕ
count_steps [] = 0
count_steps (tolds ∷ steps) = count_sent tolds + count_steps steps

abbrev pub octets_steps : List (List EndEffects) → ℕ
octets_steps [] = 0
octets_steps (tolds ∷ steps) = octets_sent tolds + octets_steps steps

-- a drain ended after so many events; or the plan of the windows ended it
abbrev pub end_line : ℕ → List ℕ
end_line n = line_of (codes "end" ∷ decimal n ∷ [])

abbrev pub stop_line : ℕ → List ℕ
stop_line n = line_of (codes "stop" ∷ decimal n ∷ [])

abbrev pub last_line : Bool → ℕ → List ℕ
last_line plan_ends n = if plan_ends then stop_line n else end_line n

-- ---- what isn't done

-- an end doesn't send a block, for this cause
abbrev pub send_refusal : End → List ℕ → List ℕ
send_refusal end cause = line_of (codes "refused" ∷ end_word end ∷ cause ∷ [])

-- there is no datagram of this number; nothing is delivered while the link is closed
abbrev pub deliver_refusal : List ℕ
deliver_refusal = line_of (codes "refused" ∷ codes "deliver" ∷ [])

abbrev pub closed_refusal : List ℕ
closed_refusal = line_of (codes "refused" ∷ codes "closed" ∷ [])

-- line n is refused, for this cause
abbrev pub refused_line : ℕ → List ℕ → List ℕ
refused_line n cause = line_of (codes "refused" ∷ codes "line" ∷ decimal n ∷ cause ∷ [])

-- it is refused for what it says
abbrev pub refusal_line : ℕ → LineFault → List ℕ
refusal_line n fault = refused_line n (word_of fault)
