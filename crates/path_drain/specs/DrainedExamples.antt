-- Short runs of a path, and the drains after them.

use Rattle.std.specs.Prelude.{List, [], ◌∷◌}
use Rattle.path_laws.specs.declared.places.PathEnd.TheVariants as ends
use Rattle.path_laws.specs.Path.{PathEvent, clock_shows, delivers, sends}

-- the old node sends two octets, which are no bundle, in one segment
abbrev pub sends_no_bundle : List PathEvent
sends_no_bundle = sends ends.Old (7 ∷ 8 ∷ []) ∷ []

-- the segment was lost: it is sent again as its time is over, and comes; and so do the report on it
-- and the acknowledgement of that
abbrev pub drains_one_block : List PathEvent
drains_one_block = clock_shows 10 ∷ delivers 1 ∷ delivers 2 ∷ delivers 3 ∷ []

-- so it does, and the segment comes; but the report on it is lost
abbrev pub hands_up_no_bundle : List PathEvent
hands_up_no_bundle = sends ends.Old (7 ∷ 8 ∷ []) ∷ delivers 0 ∷ []

-- both are sent again; the segment, which comes a second time, is reported once more; and each
-- report is acknowledged
abbrev pub drains_one_report : List PathEvent
drains_one_report =
    clock_shows 10 ∷ delivers 2 ∷ delivers 3 ∷ delivers 4 ∷ delivers 5 ∷ delivers 6 ∷ []
