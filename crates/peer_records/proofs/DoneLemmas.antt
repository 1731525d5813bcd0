-- The records of ends may follow what is kept, and leave the others pending.
use Rattle.std.proofs.Common.{◌≡◌, ℕ, ◌+◌, ◌-◌, ◌≤◌, Bool, true, false, if◌then◌else◌, List, [], ◌∷◌, ◌++◌, Option, None, Some, refl, sym, ap, ◌∙◌, subst, arith}
use Rattle.gate_cases.specs.declared.face.Face.{Face}
use Rattle.gateway_core.specs.declared.effects.FaceNote.{FaceNote}
use Rattle.gate_events.specs.Own.{OpenAt}
use Rattle.journal_file.specs.declared.record.How.{How}
use Rattle.journal_file.specs.Values.{KeptValue, RecordValue, a_done}
use Rattle.journal_file.specs.Keeping.{kept_with, kept_after}
use Rattle.journal_file.specs.Spelling.{MayCome, MayFollow}
use Rattle.journal_file.specs.Legal.{IsLegal}
use Rattle.journal_file.proofs.AnewLemmas.{after-append, may-append}
use Rattle.journal_file.proofs.SoundLemmas.{legal-with, legal-after}
use Rattle.gate_records.specs.declared.named.Named.{Named}
use Rattle.gate_records.specs.Happened.{note_ends}
use Rattle.gate_records.proofs.PendingLemmas.{pending-up-to}
use Rattle.peer_records.specs.Keeping.{ids_named, ids_pending, times}
use Rattle.peer_records.specs.Records.{ids_of, others_than, all_done, end_done, end_leaves, done_records, named_left}
use Rattle.peer_records.proofs.CountLemmas.{times-self, named-apart}
use Rattle.peer_records.proofs.PendingLemmas.{some-pending, one-gone}

-- ---- these ids end

record Done (kept : KeptValue) (records : List RecordValue) (ids : List ℕ) : Type 0 where
  may : MayFollow kept records
  marks : (kept_after kept records).marks ≡ kept.marks
  greatest : (kept_after kept records).greatest ≡ kept.greatest
  less : (id : ℕ) → times id (ids_pending (kept_after kept records).pending) ≡ times id (ids_pending kept.pending) - times id ids

all-done-follow : (kept : KeptValue) (how : How) (ids : List ℕ) → IsLegal kept
    → ((id : ℕ) → times id ids ≤ times id (ids_pending kept.pending)) → Done kept (all_done how ids) ids
unfolding kept_with times
all-done-follow kept how [] legal within = record { may = tt; marks = refl; greatest = refl; less = λ id. omega arith }
all-done-follow kept how (x ∷ ids) legal within =
    let first = within x in
    let self = times-self x ids in
    let there = some-pending x kept.pending (omega (arith, first, self)) in
    let may : MayCome kept (a_done x how) = (there, omega (arith, legal.greatest, pending-up-to kept.greatest x kept.pending legal.up_to there)) in
    let rest = all-done-follow (kept_with kept (a_done x how)) how ids (legal-with kept (a_done x how) may legal) left in record {
      may = (may, rest.may);
      marks = rest.marks;
      greatest = rest.greatest;
      less = λ id. let more = rest.less id in let gone = one-gone id x kept.pending in omega (arith, more, gone);
    }
  where
    left : (id : ℕ) → times id ids ≤ times id (ids_pending (kept_with kept (a_done x how)).pending)
    left id = let gone = one-gone id x kept.pending in let whole = within id in omega (arith, gone, whole)

-- ---- by notes

-- what left sessions is done: with others that are counted besides, no id is held more often than it is pending
pub record Leaves (kept : KeptValue) (records : List RecordValue) (named left : List Named) : Type 0 where
  pub may : MayFollow kept records
  pub marks : (kept_after kept records).marks ≡ kept.marks
  pub greatest : (kept_after kept records).greatest ≡ kept.greatest
  pub fewer : (id : ℕ) → times id (ids_named left) ≤ times id (ids_named named)
  pub within : (id besides : ℕ) → times id (ids_named named) + besides ≤ times id (ids_pending kept.pending)
      → times id (ids_named left) + besides ≤ times id (ids_pending (kept_after kept records).pending)

leaves-none : (kept : KeptValue) (named : List Named) → Leaves kept [] named named
leaves-none kept named = record { may = tt; marks = refl; greatest = refl; fewer = λ id. omega arith; within = λ id besides held. held }

leaves-one : (kept : KeptValue) (is_open : OpenAt) (face : Face) (end : Option (ℕ × How)) (named : List Named) → IsLegal kept
    → ((id : ℕ) → times id (ids_named named) ≤ times id (ids_pending kept.pending))
    → Leaves kept (end_done is_open face end named) named (end_leaves is_open face end named)
leaves-one kept is_open face None named legal within = leaves-none kept named
leaves-one kept is_open face (Some end) named legal within = by (is_open face end.0)
  where
    few : (id : ℕ) → times id (ids_of face end.0 named) ≤ times id (ids_pending kept.pending)
    few id = let parts = named-apart id face end.0 named in let whole = within id in omega (arith, parts, whole)

    done : Done kept (all_done end.1 (ids_of face end.0 named)) (ids_of face end.0 named)
    done = all-done-follow kept end.1 (ids_of face end.0 named) legal few

    by : (t : Bool) → Leaves kept (if t then [] else all_done end.1 (ids_of face end.0 named)) named (if t then named else others_than face end.0 named)
    by true = leaves-none kept named
    by false = record {
      may = done.may;
      marks = done.marks;
      greatest = done.greatest;
      fewer = λ id. let parts = named-apart id face end.0 named in omega (arith, parts);
      within = λ id besides held. let parts = named-apart id face end.0 named in let less = done.less id in omega (arith, parts, less, held);
    }

leaves-on : (kept : KeptValue) (rs qs : List RecordValue) (named mid left : List Named) → Leaves kept rs named mid → Leaves (kept_after kept rs) qs mid left → Leaves kept (rs ++ qs) named left
leaves-on kept rs qs named mid left one two =
    let whole = after-append kept rs qs in record {
      may = may-append kept rs qs one.may two.may;
      marks = ap (λ (k : KeptValue). k.marks) whole ∙ two.marks ∙ one.marks;
      greatest = ap (λ (k : KeptValue). k.greatest) whole ∙ two.greatest ∙ one.greatest;
      fewer = λ id. let first = one.fewer id in let next = two.fewer id in omega (arith, first, next);
      within = λ id besides held. subst (λ (k : KeptValue). times id (ids_named left) + besides ≤ times id (ids_pending k.pending)) (sym whole)
          (two.within id besides (one.within id besides held));
    }

pub ends-follow : (kept : KeptValue) (is_open : OpenAt) (notes : List FaceNote) (named : List Named) → IsLegal kept
    → ((id : ℕ) → times id (ids_named named) ≤ times id (ids_pending kept.pending))
    → Leaves kept (done_records is_open notes named) named (named_left is_open notes named)
unfolding done_records named_left
ends-follow kept is_open [] named legal within = leaves-none kept named
ends-follow kept is_open (n ∷ notes) named legal within =
    let rs = end_done is_open n.face (note_ends n.note) named in
    let mid = end_leaves is_open n.face (note_ends n.note) named in
    let one = leaves-one kept is_open n.face (note_ends n.note) named legal within in
    leaves-on kept rs (done_records is_open notes mid) named mid (named_left is_open notes mid) one
    (ends-follow (kept_after kept rs) is_open notes mid (legal-after kept rs legal one.may)
    (λ id. let all = within id in let some = one.within id 0 (omega (arith, all)) in omega (arith, some)))
