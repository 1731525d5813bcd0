-- What follows what a file made anew says, beside what was kept.
use Rattle.std.proofs.Common.{ℕ, ◌≤◌, List, [], ◌∷◌, ◌++◌, refl, ap, ◌∙◌, arith}
use Rattle.gate_cases.specs.declared.face.Face.TheVariants.{Old, New}
use Rattle.journal_file.specs.declared.kept.Pending.{Pending}
use Rattle.journal_file.specs.declared.kept.Mark.{Mark}
use Rattle.journal_file.specs.Values.{KeptValue, RecordValue, a_begun, a_done, a_mark, a_clear, a_reserved}
use Rattle.journal_file.specs.Keeping.{has_id, is_about, is_pending, without_first, marks_with, MARKS_MAX, greater, kept_with, kept_after}
use Rattle.journal_file.specs.Spelling.{MayCome, MayFollow}
use Rattle.journal_file.specs.Anew.{last_id, but_greatest}
use Rattle.journal_file.specs.Below.{IsBelow}
use Rattle.journal_file.specs.Legal.{AreUpTo, IsLegal}

last-up_to : (n id : ℕ) (pending : List Pending) → id ≤ n → AreUpTo n pending → last_id id pending ≤ n
last-up_to n id [] le up = le
last-up_to n id (p ∷ pending) le (here, up) = last-up_to n p.id pending here up

pub anew-below : (kept : KeptValue) → IsLegal kept → IsBelow (but_greatest kept) kept
anew-below kept legal = record {
  pending = refl;
  marks = refl;
  old_reserved = refl;
  new_reserved = refl;
  greatest = last-up_to kept.greatest 0 kept.pending (omega arith) legal.up_to;
}

may-below : (lower kept : KeptValue) (r : RecordValue) → IsBelow lower kept → MayCome kept r → MayCome lower r
may-below lower kept (a_begun p) below (above, small, short, moment) = (omega (arith, below.greatest, above), small, short, moment)
may-below lower kept (a_done id how) below (pending, small) = (ap (λ (l : List Pending). is_pending id l) below.pending ∙ pending, small)
may-below lower kept (a_mark m) below may = may
may-below lower kept (a_clear face session) below may = may
may-below lower kept (a_reserved face number) below may = may

with-below : (lower kept : KeptValue) (r : RecordValue) → IsBelow lower kept → IsBelow (kept_with lower r) (kept_with kept r)
unfolding kept_with
with-below lower kept (a_begun p) below = record {
  pending = ap (λ (l : List Pending). l ++ p ∷ []) below.pending;
  marks = below.marks;
  old_reserved = below.old_reserved;
  new_reserved = below.new_reserved;
  greatest = omega arith;
}
with-below lower kept (a_done id how) below = record {
  pending = ap (λ (l : List Pending). without_first (has_id id) l) below.pending;
  marks = below.marks;
  old_reserved = below.old_reserved;
  new_reserved = below.new_reserved;
  greatest = below.greatest;
}
with-below lower kept (a_mark m) below = record {
  pending = below.pending;
  marks = ap (λ (l : List Mark). marks_with MARKS_MAX m l) below.marks;
  old_reserved = below.old_reserved;
  new_reserved = below.new_reserved;
  greatest = below.greatest;
}
with-below lower kept (a_clear face session) below = record {
  pending = below.pending;
  marks = ap (λ (l : List Mark). without_first (is_about face session) l) below.marks;
  old_reserved = below.old_reserved;
  new_reserved = below.new_reserved;
  greatest = below.greatest;
}
with-below lower kept (a_reserved Old number) below = record {
  pending = below.pending;
  marks = below.marks;
  old_reserved = ap (λ (n : ℕ). greater n number) below.old_reserved;
  new_reserved = below.new_reserved;
  greatest = below.greatest;
}
with-below lower kept (a_reserved New number) below = record {
  pending = below.pending;
  marks = below.marks;
  old_reserved = below.old_reserved;
  new_reserved = ap (λ (n : ℕ). greater n number) below.new_reserved;
  greatest = below.greatest;
}

pub follow-below : (lower kept : KeptValue) (rs : List RecordValue) → IsBelow lower kept → MayFollow kept rs
    → MayFollow lower rs × IsBelow (kept_after lower rs) (kept_after kept rs)
follow-below lower kept [] below may = (tt, below)
follow-below lower kept (r ∷ rs) below (may, rest) =
    let more = follow-below (kept_with lower r) (kept_with kept r) rs (with-below lower kept r below) rest in
    ((may-below lower kept r below may, more.0), more.1)
