-- What a file says is kept can be written anew.
use Rattle.std.proofs.Common.{◌≡◌, inl, inr, ℕ, zero, suc, ◌^◌, ◌<◌, ◌≤◌, ◌==◌, Bool, true, false, nat_lt, if◌then◌else◌, List, [], ◌∷◌, ◌++◌, length, Option, Some, None, refl, sym, ap, ◌∙◌, subst, arith}
use Rattle.std.proofs.lemmas.Bool.{ltb-true}
use Rattle.wire_fields.specs.Format.{Spells, give, ◌>>=◌}
use Rattle.wire_fields.specs.Words.{needs, ◌also◌, choice}
use Rattle.gate_cases.specs.declared.face.Face.TheVariants.{Old, New}
use Rattle.journal_file.specs.declared.fault.JournalCause.{JournalCause}
use Rattle.journal_file.specs.declared.fault.JournalCause.TheVariants as causes
use Rattle.journal_file.specs.declared.kept.Pending.{Pending}
use Rattle.journal_file.specs.Values.{KeptValue, RecordValue, a_begun, a_done, a_mark, a_clear, a_reserved, nothing_kept}
use Rattle.journal_file.specs.Keeping.{has_id, is_pending, greater, kept_with, kept_after, MARKS_MAX}
use Rattle.journal_file.specs.Table.{sized_number, number_where, is_shortest, begun_fields, done_fields, mark_fields, clear_fields, reserved_fields, dated_fields, fields_of, entry, records}
use Rattle.journal_file.specs.File.{Reads}
use Rattle.journal_file.specs.Spelling.{IsSmall, MayCome, MayFollow}
use Rattle.journal_file.specs.Anew.{AreBegun, IsSound}
use Rattle.journal_file.specs.Legal.{AreUpTo, IsLegal}
use Rattle.journal_file.proofs.DropLemmas.{drop_first, drop_first-is}
use Rattle.journal_file.proofs.MarkLemmas.{mark-fits, clear-fits, fit-marked}

-- ---- a record that is read may come

needed : (b : Bool) (cause : JournalCause) → needs b cause ≡ None → b ≡ true
needed true cause is = refl
needed false cause is = absurd (cc)

second-holds : (o c : Option JournalCause) → (o also c) ≡ None → c ≡ None
second-holds None c is = is
second-holds (Some cause) c is = absurd (cc)

module _ (front : List ℕ) where
  number-small : (conditions : ℕ → Option JournalCause) (w : List ℕ) (n : ℕ) → Spells (number_where conditions) front w n
      → (n < 2 ^ 64) × (conditions n ≡ None)
  unfolding number_where sized_number
  number-small conditions w n (u, v, x, parts, ((a, b, start, p0, at, (c, d, value, p1, spells, (e, f, octets, p2, here, gives))), holds), (none, is)) =
      let same : n ≡ value = is ∙ ap (λ (y : ℕ × ℕ). y.0) gives.1 in
      (rw same spells.small, rw is (second-holds (needs (is_shortest x) causes.Number) (conditions x.0) holds))

module _ (kept : KeptValue) where
  begun-may : (front w : List ℕ) (said : RecordValue) → Spells (begun_fields kept.greatest) front w said → MayCome kept said
  unfolding begun_fields
  begun-may front w said (a, b, id, p0, is_id, (c, d, face, p1, is_face, (e, f, size, p2, is_size, (g, h, block, p3, is_block, (none, is))))) =
      let first = number-small front _ a id is_id in
      let above = ltb-true kept.greatest id (needed (nat_lt kept.greatest id) causes.Id first.1) in
      let long = number-small _ _ e size is_size in
      rw is (above, first.0, subst (λ (n : ℕ). n < 2 ^ 64) (sym is_block.1 ∙ ap length is_block.0) long.0, tt)

  dated-may : (front w : List ℕ) (said : RecordValue) → Spells (dated_fields kept.greatest) front w said → MayCome kept said
  unfolding dated_fields
  dated-may front w said
      (a, b, id, p0, is_id, (c, d, face, p1, is_face, (e, f, moment, p2, is_moment, (g, h, size, p3, is_size, (i, j, block, p4, is_block, (none, is)))))) =
      let first = number-small front _ a id is_id in
      let above = ltb-true kept.greatest id (needed (nat_lt kept.greatest id) causes.Id first.1) in
      let came = number-small _ _ e moment is_moment in
      let long = number-small _ _ g size is_size in
      rw is (above, first.0, subst (λ (n : ℕ). n < 2 ^ 64) (sym is_block.1 ∙ ap length is_block.0) long.0, came.0)

  done-may : (front w : List ℕ) (said : RecordValue) → Spells (done_fields kept.pending) front w said → MayCome kept said
  unfolding done_fields
  done-may front w said (a, b, id, p0, is_id, (c, d, ended, p1, is_how, (none, is))) =
      let first = number-small front _ a id is_id in
      rw is (needed (is_pending id kept.pending) causes.Id first.1, first.0)

  mark-may : (front w : List ℕ) (said : RecordValue) → Spells mark_fields front w said → MayCome kept said
  unfolding mark_fields
  mark-may front w said (a, b, face, p0, is_face, (c, d, session, p1, is_session, (e, f, moment, p2, is_moment, (none, is)))) =
      rw is ((number-small _ _ c session is_session).0, (number-small _ _ e moment is_moment).0)

  clear-may : (front w : List ℕ) (said : RecordValue) → Spells clear_fields front w said → MayCome kept said
  unfolding clear_fields
  clear-may front w said (a, b, face, p0, is_face, (c, d, session, p1, is_session, (none, is))) = rw is (number-small _ _ c session is_session).0

  reserved-may : (front w : List ℕ) (said : RecordValue) → Spells reserved_fields front w said → MayCome kept said
  unfolding reserved_fields
  reserved-may front w said (a, b, face, p0, is_face, (c, d, n, p1, is_n, (none, is))) = rw is (number-small _ _ c n is_n).0

  fields-may : (front w : List ℕ) (said : RecordValue) (k1 k2 k3 k4 k5 : Bool)
      → Spells (choice k1 (begun_fields kept.greatest) (choice k2 (done_fields kept.pending) (choice k3 mark_fields (choice k4 clear_fields
      (choice k5 reserved_fields (dated_fields kept.greatest)))))) front w said
      → MayCome kept said
  fields-may front w said true k2 k3 k4 k5 s = begun-may front w said s
  fields-may front w said false true k3 k4 k5 s = done-may front w said s
  fields-may front w said false false true k4 k5 s = mark-may front w said s
  fields-may front w said false false false true k5 s = clear-may front w said s
  fields-may front w said false false false false true s = reserved-may front w said s
  fields-may front w said false false false false false s = dated-may front w said s

  pub entry-may : (front w : List ℕ) (said : RecordValue) → Spells (entry kept) front w said → MayCome kept said
  unfolding entry fields_of
  entry-may front w said (a, b, start, p0, at, (c, d, kind, p1, is_kind, (e, f, r, p2, fields, (g, h, octets, p3, here, (i, j, four, p4, checked, (none, is)))))) =
      rw is (fields-may _ e r (kind == 1) (kind == 2) (kind == 3) (kind == 4) (kind == 5) fields)

-- ---- pending blocks

begun-above : (m n : ℕ) (ps : List Pending) → m ≤ n → AreBegun n ps → AreBegun m ps
begun-above m n [] le are = tt
begun-above m n (p ∷ ps) le (above, small, short, moment, rest) = (omega (arith, le, above), small, short, moment, rest)

begun-drop : (n : ℕ) (test : Pending → Bool) (ps : List Pending) → AreBegun n ps → AreBegun n (drop_first test ps)
unfolding drop_first
begun-drop n test [] are = tt
begun-drop n test (p ∷ ps) (above, small, short, moment, rest) = by (test p) (begun-drop p.id test ps rest)
  where
    by : (t : Bool) → AreBegun p.id (drop_first test ps) → AreBegun n (if t then ps else p ∷ drop_first test ps)
    by true others = begun-above n p.id ps (omega (arith, above)) rest
    by false others = (above, small, short, moment, others)

up_to-drop : (n : ℕ) (test : Pending → Bool) (ps : List Pending) → AreUpTo n ps → AreUpTo n (drop_first test ps)
unfolding drop_first
up_to-drop n test [] are = tt
up_to-drop n test (p ∷ ps) (below, rest) = by (test p) (up_to-drop n test ps rest)
  where
    by : (t : Bool) → AreUpTo n (drop_first test ps) → AreUpTo n (if t then ps else p ∷ drop_first test ps)
    by true others = rest
    by false others = (below, others)

begun-push : (n g : ℕ) (p : Pending) (ps : List Pending) → n ≤ g → g < p.id → p.id < 2 ^ 64 → length p.block < 2 ^ 64 → IsSmall p.came
    → AreUpTo g ps → AreBegun n ps → AreBegun n (ps ++ p ∷ [])
begun-push n g p [] le above small short moment up are = (omega (arith, le, above), small, short, moment, tt)
begun-push n g p (q ∷ ps) le above small short moment (low, up) (a, s, t, m, rest) = (a, s, t, m, begun-push q.id g p ps low above small short moment up rest)

up_to-push : (g : ℕ) (p : Pending) (ps : List Pending) → g < p.id → AreUpTo g ps → AreUpTo p.id (ps ++ p ∷ [])
up_to-push g p [] above up = (omega arith, tt)
up_to-push g p (q ∷ ps) above (low, up) = (omega (arith, low, above), up_to-push g p ps above up)

-- ---- what is kept

greater-small : (a b n : ℕ) → a < n → b < n → greater a b < n
greater-small a b n low small = by (nat_lt a b)
  where
    by : (t : Bool) → (if t then b else a) < n
    by true = small
    by false = low

pub legal-with : (kept : KeptValue) (said : RecordValue) → MayCome kept said → IsLegal kept → IsLegal (kept_with kept said)
unfolding kept_with
legal-with kept (a_begun p) (above, small, short, moment) legal = record {
  pending = begun-push 0 kept.greatest p kept.pending (omega arith) above small short moment legal.up_to legal.pending;
  up_to = up_to-push kept.greatest p kept.pending above legal.up_to;
  marks = legal.marks;
  old_reserved = legal.old_reserved;
  new_reserved = legal.new_reserved;
  greatest = small;
}
legal-with kept (a_done id how) may legal = record {
  pending = rw (drop_first-is (has_id id) kept.pending) (begun-drop 0 (has_id id) kept.pending legal.pending);
  up_to = rw (drop_first-is (has_id id) kept.pending) (up_to-drop kept.greatest (has_id id) kept.pending legal.up_to);
  marks = legal.marks;
  old_reserved = legal.old_reserved;
  new_reserved = legal.new_reserved;
  greatest = legal.greatest;
}
legal-with kept (a_mark m) (session, moment) legal = record {
  pending = legal.pending;
  up_to = legal.up_to;
  marks = mark-fits MARKS_MAX m kept.marks session moment legal.marks;
  old_reserved = legal.old_reserved;
  new_reserved = legal.new_reserved;
  greatest = legal.greatest;
}
legal-with kept (a_clear face session) may legal = record {
  pending = legal.pending;
  up_to = legal.up_to;
  marks = clear-fits MARKS_MAX face session kept.marks legal.marks;
  old_reserved = legal.old_reserved;
  new_reserved = legal.new_reserved;
  greatest = legal.greatest;
}
legal-with kept (a_reserved Old number) may legal = record {
  pending = legal.pending;
  up_to = legal.up_to;
  marks = legal.marks;
  old_reserved = greater-small kept.old_reserved number (2 ^ 64) legal.old_reserved may;
  new_reserved = legal.new_reserved;
  greatest = legal.greatest;
}
legal-with kept (a_reserved New number) may legal = record {
  pending = legal.pending;
  up_to = legal.up_to;
  marks = legal.marks;
  old_reserved = legal.old_reserved;
  new_reserved = greater-small kept.new_reserved number (2 ^ 64) legal.new_reserved may;
  greatest = legal.greatest;
}

-- ---- records, and whole files

records-legal : (most : ℕ) (kept k : KeptValue) (seen w : List ℕ) → IsLegal kept → Spells (records most kept) seen w k → IsLegal k
unfolding records
records-legal zero kept k seen w legal (s, none) = absurd (cc)
records-legal (suc most) kept k seen w legal (u, v, gate, parts, one, after) =
    by (gate == 1) after (λ said x y fits s. records-legal most (kept_with kept said) k x y fits s)
  where
    by : (t : Bool) → Spells (choice t (entry kept >>= (λ said. records most (kept_with kept said))) (give kept)) (seen ++ u) v k
        → ((said : RecordValue) (x y : List ℕ) → IsLegal (kept_with kept said) → Spells (records most (kept_with kept said)) x y k → IsLegal k) → IsLegal k
    by false (none, is) next = rw is legal
    by true (a, b, said, seam, here, rest) next = next said _ b (legal-with kept said (entry-may kept (seen ++ u) a said here) legal) rest

nothing-legal : IsLegal nothing_kept
nothing-legal = record {
  pending = tt;
  up_to = tt;
  marks = record { small = tt; apart = tt; few = λ f. omega arith };
  old_reserved = omega arith;
  new_reserved = omega arith;
  greatest = omega arith;
}

pub reads-legal : (file : List ℕ) (kept : KeptValue) → Reads file kept → IsLegal kept
reads-legal file kept (inl (none, is)) = rw is nothing-legal
reads-legal file kept (inr says) = records-legal says.most nothing_kept kept _ says.text nothing-legal says.spells

pub legal-sound : (kept : KeptValue) → IsLegal kept → IsSound kept
legal-sound kept legal = record {
  pending = legal.pending;
  marks = fit-marked kept.marks legal.marks;
  old_reserved = legal.old_reserved;
  new_reserved = legal.new_reserved;
}

pub reads-sound : (file : List ℕ) (kept : KeptValue) → Reads file kept → IsSound kept
reads-sound file kept reads = legal-sound kept (reads-legal file kept reads)

pub legal-after : (kept : KeptValue) (rs : List RecordValue) → IsLegal kept → MayFollow kept rs → IsLegal (kept_after kept rs)
legal-after kept [] legal may = legal
legal-after kept (r ∷ rs) legal (may, rest) = legal-after (kept_with kept r) rs (legal-with kept r may legal) rest
