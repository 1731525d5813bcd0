-- The ends of a link, as the code names them and as the definition does.

use Rattle.std.specs.Prelude.{Bool, true, false}
use Rattle.ltp_session.specs.World.{first_end, second_end}
use Rattle.ltp_session.specs.World.{End as LinkEnd}
use Rattle.ltp_world.specs.declared.ends.End.{End}
use Rattle.ltp_world.specs.declared.ends.End.TheVariants as ends

-- the end of the definition that the code names so
abbrev pub link_end : End → LinkEnd
link_end ends.First = first_end
link_end ends.Second = second_end

-- and back
abbrev pub named : LinkEnd → End
named first_end = ends.First
named second_end = ends.Second

abbrev pub other_end : End → End
other_end ends.First = ends.Second
other_end ends.Second = ends.First

-- two names of the same end
abbrev pub is_end : End → End → Bool
is_end ends.First ends.First = true
is_end ends.Second ends.Second = true
is_end ends.First ends.Second = false
is_end ends.Second ends.First = false
