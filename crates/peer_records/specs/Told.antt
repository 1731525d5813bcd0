-- What the code finds by a walk through what is told.

use Rattle.std.specs.Prelude.{ℕ, Bool, ◌||◌, Option, None, Some, is_some}
use Rattle.gate_cases.specs.declared.face.Face.{Face}
use Rattle.journal_file.specs.declared.record.How.{How}
use Rattle.gate_records.specs.Happened.{engine_ends, names}
use Rattle.gate_records.specs.Ties.{end_told, end_cancels}
use Rattle.peer_gateway.specs.Gate.{Told, FaceTold, told_engine, told_forgotten, told_green, told_began, told_bundle, told_case, told_left, told_reported, told_unreported, told_end}

-- the own session of whose end it may tell, and how it ended then
abbrev pub ends_told : Told → Option (ℕ × How)
ends_told (told_engine note) = engine_ends note
ends_told (told_forgotten runs) = None
ends_told (told_green green) = None
ends_told (told_began pieces octets session) = None
ends_told (told_bundle subject) = None
ends_told (told_case index session case pieces first) = None
ends_told (told_left index session left) = None
ends_told (told_reported index session report) = None
ends_told (told_unreported index session) = None
ends_told (told_end index session end) = None

-- the session of the peer whose block it tells to have come whole
abbrev pub whole_told : Told → Option ℕ
whole_told (told_engine note) = None
whole_told (told_forgotten runs) = None
whole_told (told_green green) = None
whole_told (told_began pieces octets session) = None
whole_told (told_bundle subject) = None
whole_told (told_case index session case pieces first) = Some session
whole_told (told_left index session left) = None
whole_told (told_reported index session report) = None
whole_told (told_unreported index session) = None
whole_told (told_end index session end) = Some session

-- it tells that of a session
abbrev pub is_whole : Face → ℕ → FaceTold → Bool
is_whole face session t = names face session t.face (whole_told t.told)

-- how the own session of this number ended, where it tells of one's end
abbrev pub told_of : Face → ℕ → FaceTold → Option How
told_of face session t = end_told face session t.face (ends_told t.told)

-- whether any session of the peers can be over by it
abbrev pub may_end : FaceTold → Bool
may_end t = is_some (whole_told t.told) || end_cancels (ends_told t.told)
