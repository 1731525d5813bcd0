-- The records of a half.
use Rattle.std.proofs.Common.{◌≡◌, ℕ, ◌≤◌, Bool, true, false, nat_lt, if◌then◌else◌, List, [], ◌∷◌, ◌++◌, refl, sym, ap, ◌∙◌, subst}
use Rattle.gate_cases.specs.declared.face.Face.{Face}
use Rattle.gate_cases.specs.declared.face.Face.TheVariants.{Old, New}
use Rattle.journal_file.specs.declared.kept.Pending.{Pending}
use Rattle.journal_file.specs.Values.{KeptValue, RecordValue, a_reserved}
use Rattle.journal_file.specs.Keeping.{kept_after}
use Rattle.journal_file.specs.Spelling.{MayFollow}
use Rattle.journal_file.specs.Legal.{IsLegal}
use Rattle.journal_file.proofs.AnewLemmas.{after-append, may-append}
use Rattle.journal_file.proofs.SoundLemmas.{legal-after}
use Rattle.gate_records.specs.Keeping.{NUMBERS, reserve_to, starts_keeping}
use Rattle.gate_records.specs.Records.{reserving, reserved_records}
use Rattle.gate_records.specs.Halves as gate
use Rattle.gate_records.proofs.LeaveLemmas.{AreApart, apart-pending}
use Rattle.gate_records.proofs.HalfLemmas as below
use Rattle.peer_records.specs.Happened.{PeerHappened}
use Rattle.peer_records.specs.Keeping.{PeerKeeping, ids_pending, held, times}
use Rattle.peer_records.specs.Records.{step_records, after_step, after_reserving}
use Rattle.peer_records.specs.Halves.{PeerRecorded, starts_half, recording, recording_all, ends_half, half_records}
use Rattle.peer_records.specs.Laws.{IsKeeping, Fits, FitAll}
use Rattle.peer_records.proofs.StepLemmas.{step-may-follow}

-- ---- applied to what was kept, the records give what is kept

step-kept : (h : PeerHappened) (k : PeerKeeping) → (after_step h k).kept ≡ kept_after k.kept (step_records h k)
unfolding after_step
step-kept h k = refl

steps-kept : (kept : KeptValue) (steps : List PeerHappened) (r : PeerRecorded) → kept_after kept r.records ≡ (r.keeping).kept
    → kept_after kept (recording_all steps r).records ≡ ((recording_all steps r).keeping).kept
unfolding recording_all
steps-kept kept [] r is = is
steps-kept kept (h ∷ steps) r is =
    steps-kept kept steps (recording h r)
    (after-append kept r.records (step_records h r.keeping) ∙ ap (λ (j : KeptValue). kept_after j (step_records h r.keeping)) is ∙ sym (step-kept h r.keeping))

pub half-is-kept : (steps : List PeerHappened) (old_next new_next : ℕ) (k : PeerKeeping)
    → kept_after k.kept (half_records steps old_next new_next k).records ≡ ((half_records steps old_next new_next k).keeping).kept
half-is-kept steps old_next new_next k =
    let r = recording_all steps (starts_half k) in
    let rs = reserved_records old_next new_next (r.keeping).kept in
    after-append k.kept r.records rs ∙ ap (λ (j : KeptValue). kept_after j rs) (steps-kept k.kept steps (starts_half k) refl)

-- ---- they may follow one another

record Half (kept : KeptValue) (r : PeerRecorded) : Type 0 where
  may : MayFollow kept r.records
  keeping : IsKeeping r.keeping
  is : kept_after kept r.records ≡ (r.keeping).kept

half-more : (kept : KeptValue) (r : PeerRecorded) (h : PeerHappened) → Half kept r → Fits h r.keeping → Half kept (recording h r)
half-more kept r h half fits =
    let step = step-may-follow h r.keeping half.keeping fits in record {
      may = may-append kept r.records (step_records h r.keeping) half.may (subst (λ (j : KeptValue). MayFollow j (step_records h r.keeping)) (sym half.is) step.0);
      keeping = step.1;
      is = after-append kept r.records (step_records h r.keeping) ∙ ap (λ (j : KeptValue). kept_after j (step_records h r.keeping)) half.is ∙ sym (step-kept h r.keeping);
    }

half-all : (kept : KeptValue) (steps : List PeerHappened) (r : PeerRecorded) → Half kept r → FitAll steps r → Half kept (recording_all steps r)
unfolding recording_all
half-all kept [] r half fits = half
half-all kept (h ∷ steps) r half (fits, rest) = half-all kept steps (recording h r) (half-more kept r h half fits) rest

-- ---- numbers are reserved

-- as by a half without a step
reserves-may : (kept : KeptValue) (old_next new_next : ℕ) → IsLegal kept → MayFollow kept (reserved_records old_next new_next kept)
unfolding gate.recording_all
reserves-may kept old_next new_next legal =
    (below.half-may-follow [] old_next new_next (starts_keeping kept) (record { legal = legal; pending = tt; own_ids = tt }) tt).0

reserves-apart : (face : Face) (next reserved : ℕ) (more : List RecordValue) → AreApart more → AreApart (reserving face next reserved ++ more)
reserves-apart face next reserved more are = by (nat_lt reserved next)
  where
    by : (t : Bool) → AreApart ((if t then a_reserved face (reserve_to next) ∷ [] else []) ++ more)
    by true = are
    by false = are

pub both-apart : (kept : KeptValue) (old_next new_next : ℕ) → AreApart (reserved_records old_next new_next kept)
both-apart kept old_next new_next = reserves-apart Old old_next kept.old_reserved (reserving New new_next kept.new_reserved) (by (nat_lt kept.new_reserved new_next))
  where
    by : (t : Bool) → AreApart (if t then a_reserved New (reserve_to new_next) ∷ [] else [])
    by true = tt
    by false = tt

half-ends : (kept : KeptValue) (r : PeerRecorded) (old_next new_next : ℕ) → Half kept r → Half kept (ends_half old_next new_next r)
half-ends kept r old_next new_next half =
    let rs = reserved_records old_next new_next (r.keeping).kept in
    let may = reserves-may (r.keeping).kept old_next new_next (half.keeping).legal in
    let pending = apart-pending (r.keeping).kept rs (both-apart (r.keeping).kept old_next new_next) in record {
      may = may-append kept r.records rs half.may (subst (λ (j : KeptValue). MayFollow j rs) (sym half.is) may);
      keeping = record {
        legal = legal-after (r.keeping).kept rs (half.keeping).legal may;
        held_once = λ id. subst (λ (ps : List Pending). times id (held r.keeping) ≤ times id (ids_pending ps)) (sym pending) ((half.keeping).held_once id);
      };
      is = after-append kept r.records rs ∙ ap (λ (j : KeptValue). kept_after j rs) half.is;
    }

pub half-may-follow : (steps : List PeerHappened) (old_next new_next : ℕ) (k : PeerKeeping) → IsKeeping k → FitAll steps (starts_half k)
    → MayFollow k.kept (half_records steps old_next new_next k).records × IsKeeping (half_records steps old_next new_next k).keeping
half-may-follow steps old_next new_next k is fits =
    let all = half-all k.kept steps (starts_half k) (record { may = tt; keeping = is; is = refl }) fits in
    let ended = half-ends k.kept (recording_all steps (starts_half k)) old_next new_next all in
    (ended.may, ended.keeping)

pub numbers-are-reserved : (old_next new_next : ℕ) (k : PeerKeeping) → old_next ≤ NUMBERS → new_next ≤ NUMBERS
    → (old_next ≤ ((after_reserving old_next new_next k).kept).old_reserved) × (new_next ≤ ((after_reserving old_next new_next k).kept).new_reserved)
numbers-are-reserved old_next new_next k old new = below.numbers-are-reserved old_next new_next (starts_keeping k.kept) old new
