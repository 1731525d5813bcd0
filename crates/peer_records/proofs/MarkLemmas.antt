-- The records of marks are those that `gate_records` has of a step that begins and ends nothing.
use Rattle.std.proofs.Common.{◌≡◌, ℕ, ◌^◌, ◌<◌, Bool, true, false, if◌then◌else◌, List, [], ◌∷◌, ◌++◌, Option, None, Some, refl, ap, subst, arith}
use Rattle.gateway_core.specs.declared.effects.FaceNote.{FaceNote}
use Rattle.gate_cases.specs.declared.face.Face.{Face}
use Rattle.gate_events.specs.Own.{OpenAt}
use Rattle.journal_file.specs.declared.record.How.{How}
use Rattle.journal_file.specs.Values.{KeptValue, RecordValue}
use Rattle.journal_file.specs.Spelling.{MayFollow}
use Rattle.journal_file.specs.Keeping.{kept_after}
use Rattle.journal_file.specs.Legal.{IsLegal}
use Rattle.gate_records.specs.Happened.{note_ends}
use Rattle.gate_records.specs.Keeping.{starts_keeping}
use Rattle.gate_records.specs.Named.{find_id, without_named}
use Rattle.gate_records.specs.Records as gate
use Rattle.gate_records.specs.Records.{mark_records, marks_after, clear_records}
use Rattle.gate_records.specs.Laws.{ReportSmall, AllClearIfOver}
use Rattle.gate_records.proofs.LeaveLemmas.{apart-pending, others-apart}
use Rattle.gate_records.proofs.StepLemmas.{step-may-follow}
use Rattle.gate_records.proofs.MarkLemmas.{only-over-is-cleared}
use Rattle.peer_records.specs.Happened.{PeerHappened, marking}

-- ---- where no session has an id none is done

end-quiet : (is_open : OpenAt) (face : Face) (end : Option (ℕ × How)) → gate.note_done is_open face end [] ≡ []
unfolding find_id
end-quiet is_open face None = refl
end-quiet is_open face (Some end) = by (is_open face end.0)
  where
    no_id : Option ℕ
    no_id = None

    by : (t : Bool) → gate.done_with (if t then None else None) end.1 ≡ []
    by true = refl
    by false = refl

leaves-quiet : (is_open : OpenAt) (face : Face) (end : Option (ℕ × How)) → gate.note_leaves is_open face end [] ≡ []
unfolding without_named
leaves-quiet is_open face None = refl
leaves-quiet is_open face (Some end) = by (is_open face end.0)
  where
    by : (t : Bool) → gate.left_named (λ f n. t) face end.0 [] ≡ []
    by true = refl
    by false = refl

quiet : (is_open : OpenAt) (notes : List FaceNote) → gate.done_records is_open notes [] ≡ []
unfolding gate.done_records
quiet is_open [] = refl
quiet is_open (n ∷ notes) =
    rw (end-quiet is_open n.face (note_ends n.note), leaves-quiet is_open n.face (note_ends n.note)) (quiet is_open notes)

-- ---- marks and clears

abbrev pub mark_part : PeerHappened → KeptValue → List RecordValue
mark_part h kept = mark_records (marking h) h.out kept.marks ++ clear_records (marking h) (marks_after (marking h) h.out kept.marks)

alone : (h : PeerHappened) (kept : KeptValue) → gate.step_records (marking h) (starts_keeping kept) ≡ mark_part h kept
unfolding gate.step_records
alone h kept = ap (λ (l : List RecordValue). l ++ mark_part h kept) (quiet h.is_open (marking h).notes)

pub marks-may : (h : PeerHappened) (kept : KeptValue) → IsLegal kept → h.wall < 2 ^ 64 → ReportSmall h.out → MayFollow kept (mark_part h kept)
marks-may h kept legal wall small =
    subst (λ (l : List RecordValue). MayFollow kept l) (alone h kept)
    (step-may-follow (marking h) (starts_keeping kept) (record { legal = legal; pending = tt; own_ids = tt })
    (record { wall = wall; sessions = small })).0

pub marks-pending : (h : PeerHappened) (marks : KeptValue) (kept : KeptValue) → (kept_after kept (mark_part h marks)).pending ≡ kept.pending
marks-pending h marks kept = apart-pending kept (mark_part h marks) (others-apart (marking h) h.out marks.marks (marks_after (marking h) h.out marks.marks))

pub marks-clear : (h : PeerHappened) (kept : KeptValue) → AllClearIfOver (marking h) (mark_part h kept)
marks-clear h kept = subst (λ (l : List RecordValue). AllClearIfOver (marking h) l) (alone h kept) (only-over-is-cleared (marking h) (starts_keeping kept))
