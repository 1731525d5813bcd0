-- The names of ends have no line feed.

use Rattle.std.proofs.Common.{refl}
use Rattle.command_frame.specs.InputLines.{ended_part}
use Rattle.ltp_world.specs.declared.ends.End.{End}
use Rattle.ltp_world.specs.declared.ends.End.TheVariants as ends
use Rattle.replay_script.specs.Lines.{route_word}
use Rattle.node_run.proofs.PlainLemmas.{Plain}
use Rattle.link_run.specs.WrittenLines.{end_word, route_of}

pub end-plain : (end : End) → Plain (end_word end)
unfolding ended_part
end-plain ends.First = refl
end-plain ends.Second = refl

pub route-plain : (end : End) → Plain (route_word (route_of end))
unfolding ended_part
route-plain ends.First = refl
route-plain ends.Second = refl
