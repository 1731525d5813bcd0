-- Two pieces that gather, from their records to their ends.
use Rattle.std.proofs.Common.{◌≡◌, ℕ, Bool, List, [], ◌∷◌, refl}
use Rattle.gate_cases.specs.declared.face.Face.TheVariants as faces
use Rattle.journal_file.specs.declared.record.How.TheVariants as hows
use Rattle.journal_file.specs.Values.{a_begun, a_done}
use Rattle.journal_file.specs.Keeping.{kept_with}
use Rattle.gate_records.specs.Records.{mark_records, marks_after, clear_records}
use Rattle.piece_gathering.specs.declared.piece.Piece.{Piece}
use Rattle.peer_records.specs.Keeping.{starts_peer_keeping}
use Rattle.peer_records.specs.Records.{came_if, done_records, named_left, begun_records, waiting_with, named_in, all_go, step_records, after_step}
use Rattle.peer_records.specs.Halves.{recording_all, half_records}
use Rattle.peer_records.specs.Laws.{at_first, two_go, both_arrive}

pub two-pieces-end : (p q : Piece) (block : List ℕ)
    → (half_records (two_go p q block ∷ both_arrive ∷ []) 1 2 (starts_peer_keeping at_first)).records
    ≡ a_begun (record { id = 1; face = faces.New; came = came_if p; block = p.octets })
    ∷ a_begun (record { id = 2; face = faces.New; came = came_if q; block = q.octets })
    ∷ a_done 1 hows.Sent ∷ a_done 2 hows.Sent ∷ []
unfolding kept_with mark_records marks_after clear_records done_records named_left begun_records waiting_with named_in all_go step_records after_step recording_all
two-pieces-end p q block = refl
