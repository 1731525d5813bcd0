-- The records of a half.
use Rattle.std.proofs.Common.{◌≡◌, ℕ, ◌^◌, ◌<◌, ◌≤◌, Bool, true, false, nat_lt, if◌then◌else◌, List, [], ◌∷◌, refl, sym, ap, ◌∙◌, subst, arith}
use Rattle.std.proofs.lemmas.Bool.{ltb-false}
use Rattle.gate_cases.specs.declared.face.Face.{Face}
use Rattle.gate_cases.specs.declared.face.Face.TheVariants.{Old, New}
use Rattle.journal_file.specs.declared.kept.Pending.{Pending}
use Rattle.journal_file.specs.Values.{KeptValue, RecordValue, a_reserved}
use Rattle.journal_file.specs.Keeping.{greater, kept_with, kept_after}
use Rattle.journal_file.specs.Spelling.{MayFollow}
use Rattle.journal_file.proofs.AnewLemmas.{after-append, may-append}
use Rattle.journal_file.proofs.SoundLemmas.{legal-after}
use Rattle.gate_records.specs.Happened.{Happened}
use Rattle.gate_records.specs.Keeping.{KeepingValue, reserve_to, NUMBERS}
use Rattle.gate_records.specs.Records.{step_records, after_step, reserving, reserved_records, after_reserving}
use Rattle.gate_records.specs.Halves.{Recorded, starts_half, recording, recording_all, ends_half, half_records}
use Rattle.gate_records.specs.Laws.{ArePending, IsKeeping, Fits, FitAll}
use Rattle.gate_records.proofs.StepLemmas.{step-may-follow}

-- ---- applied to what was kept, the records give what is kept

step-kept : (h : Happened) (k : KeepingValue) → (after_step h k).kept ≡ kept_after k.kept (step_records h k)
unfolding after_step
step-kept h k = refl

-- ---- they may follow one another

record Half (kept : KeptValue) (r : Recorded) : Type 0 where
  may : MayFollow kept r.records
  keeping : IsKeeping r.keeping
  is : kept_after kept r.records ≡ (r.keeping).kept

half-more : (kept : KeptValue) (r : Recorded) (h : Happened) → Half kept r → Fits h r.keeping → Half kept (recording h r)
half-more kept r h half fits =
    let step = step-may-follow h r.keeping half.keeping fits in record {
      may = may-append kept r.records (step_records h r.keeping) half.may (subst (λ (j : KeptValue). MayFollow j (step_records h r.keeping)) (sym half.is) step.0);
      keeping = step.1;
      is = after-append kept r.records (step_records h r.keeping) ∙ ap (λ (j : KeptValue). kept_after j (step_records h r.keeping)) half.is ∙ sym (step-kept h r.keeping);
    }

half-all : (kept : KeptValue) (steps : List Happened) (r : Recorded) → Half kept r → FitAll steps r → Half kept (recording_all steps r)
unfolding recording_all
half-all kept [] r half fits = half
half-all kept (h ∷ steps) r half (fits, rest) = half-all kept steps (recording h r) (half-more kept r h half fits) rest

-- ---- numbers are reserved

reserve-small : (next : ℕ) → reserve_to next < 2 ^ 64
reserve-small next = omega arith

record Reserves (kept : KeptValue) (records : List RecordValue) : Type 0 where
  may : MayFollow kept records
  pending : (kept_after kept records).pending ≡ kept.pending

reserve-one : (kept : KeptValue) (face : Face) (next reserved : ℕ) → Reserves kept (reserving face next reserved)
unfolding kept_with
reserve-one kept face next reserved = by (nat_lt reserved next)
  where
    same : (f : Face) → (kept_with kept (a_reserved f (reserve_to next))).pending ≡ kept.pending
    same Old = refl
    same New = refl

    by : (t : Bool) → Reserves kept (if t then a_reserved face (reserve_to next) ∷ [] else [])
    by true = record { may = (reserve-small next, tt); pending = same face }
    by false = record { may = tt; pending = refl }

reserve-both : (kept : KeptValue) (old_next new_next : ℕ) → Reserves kept (reserved_records old_next new_next kept)
reserve-both kept old_next new_next =
    let rs = reserving Old old_next kept.old_reserved in
    let qs = reserving New new_next kept.new_reserved in
    let one = reserve-one kept Old old_next kept.old_reserved in
    let two = reserve-one (kept_after kept rs) New new_next kept.new_reserved in record {
      may = may-append kept rs qs one.may two.may;
      pending = ap (λ (j : KeptValue). j.pending) (after-append kept rs qs) ∙ two.pending ∙ one.pending;
    }

half-ends : (kept : KeptValue) (r : Recorded) (old_next new_next : ℕ) → Half kept r → Half kept (ends_half old_next new_next r)
half-ends kept r old_next new_next half =
    let rs = reserved_records old_next new_next (r.keeping).kept in
    let reserves = reserve-both (r.keeping).kept old_next new_next in record {
      may = may-append kept r.records rs half.may (subst (λ (j : KeptValue). MayFollow j rs) (sym half.is) reserves.may);
      keeping = record {
        legal = legal-after (r.keeping).kept rs (half.keeping).legal reserves.may;
        pending = subst (λ (ps : List Pending). ArePending ps (r.keeping).named) (sym reserves.pending) (half.keeping).pending;
        own_ids = (half.keeping).own_ids;
      };
      is = after-append kept r.records rs ∙ ap (λ (j : KeptValue). kept_after j rs) half.is;
    }

pub half-may-follow : (steps : List Happened) (old_next new_next : ℕ) (k : KeepingValue) → IsKeeping k → FitAll steps (starts_half k)
    → MayFollow k.kept (half_records steps old_next new_next k).records × IsKeeping (half_records steps old_next new_next k).keeping
half-may-follow steps old_next new_next k is fits =
    let all = half-all k.kept steps (starts_half k) (record { may = tt; keeping = is; is = refl }) fits in
    let ended = half-ends k.kept (recording_all steps (starts_half k)) old_next new_next all in
    (ended.may, ended.keeping)

-- ---- no number is above what is reserved

reserve-enough : (next : ℕ) → next ≤ NUMBERS → next ≤ reserve_to next
reserve-enough next small = omega (arith, small)

greater-second : (a b : ℕ) → b ≤ greater a b
greater-second a b = by (nat_lt a b) refl
  where
    by : (t : Bool) → nat_lt a b ≡ t → b ≤ (if t then b else a)
    by true low = omega arith
    by false high = ltb-false a b high

old-reserved : (kept : KeptValue) (next : ℕ) → next ≤ NUMBERS → next ≤ (kept_after kept (reserving Old next kept.old_reserved)).old_reserved
unfolding kept_with
old-reserved kept next small = by (nat_lt kept.old_reserved next) refl
  where
    by : (t : Bool) → nat_lt kept.old_reserved next ≡ t → next ≤ (kept_after kept (if t then a_reserved Old (reserve_to next) ∷ [] else [])).old_reserved
    by true low = omega (arith, reserve-enough next small, greater-second kept.old_reserved (reserve_to next))
    by false high = ltb-false kept.old_reserved next high

old-stays : (kept : KeptValue) (next reserved : ℕ) → (kept_after kept (reserving New next reserved)).old_reserved ≡ kept.old_reserved
unfolding kept_with
old-stays kept next reserved = by (nat_lt reserved next)
  where
    by : (t : Bool) → (kept_after kept (if t then a_reserved New (reserve_to next) ∷ [] else [])).old_reserved ≡ kept.old_reserved
    by true = refl
    by false = refl

new-reserved : (kept : KeptValue) (next : ℕ) → next ≤ NUMBERS → next ≤ (kept_after kept (reserving New next kept.new_reserved)).new_reserved
unfolding kept_with
new-reserved kept next small = by (nat_lt kept.new_reserved next) refl
  where
    by : (t : Bool) → nat_lt kept.new_reserved next ≡ t → next ≤ (kept_after kept (if t then a_reserved New (reserve_to next) ∷ [] else [])).new_reserved
    by true low = omega (arith, reserve-enough next small, greater-second kept.new_reserved (reserve_to next))
    by false high = ltb-false kept.new_reserved next high

new-stays : (kept : KeptValue) (next reserved : ℕ) → (kept_after kept (reserving Old next reserved)).new_reserved ≡ kept.new_reserved
unfolding kept_with
new-stays kept next reserved = by (nat_lt reserved next)
  where
    by : (t : Bool) → (kept_after kept (if t then a_reserved Old (reserve_to next) ∷ [] else [])).new_reserved ≡ kept.new_reserved
    by true = refl
    by false = refl

pub numbers-are-reserved : (old_next new_next : ℕ) (k : KeepingValue) → old_next ≤ NUMBERS → new_next ≤ NUMBERS
    → (old_next ≤ ((after_reserving old_next new_next k).kept).old_reserved) × (new_next ≤ ((after_reserving old_next new_next k).kept).new_reserved)
numbers-are-reserved old_next new_next k old_small new_small =
    let rs = reserving Old old_next (k.kept).old_reserved in
    let qs = reserving New new_next (k.kept).new_reserved in
    let mid : KeptValue = kept_after k.kept rs in
    let whole = after-append k.kept rs qs in
    let kept_new : mid.new_reserved ≡ (k.kept).new_reserved = new-stays k.kept old_next (k.kept).old_reserved in
    let last = new-reserved mid new_next new_small in (
      subst (λ (n : ℕ). old_next ≤ n) (sym (ap (λ (j : KeptValue). j.old_reserved) whole ∙ old-stays mid new_next (k.kept).new_reserved)) (old-reserved k.kept old_next old_small),
      subst (λ (n : ℕ). new_next ≤ n) (sym (ap (λ (j : KeptValue). j.new_reserved) whole))
          (subst (λ (r : ℕ). new_next ≤ (kept_after mid (reserving New new_next r)).new_reserved) kept_new last),
    )
