-- The records of pieces that are added may follow what is kept, and their ids wait.
use Rattle.std.proofs.Common.{◌≡◌, ℕ, suc, ◌+◌, ◌^◌, ◌<◌, ◌≤◌, ◌==◌, Bool, true, false, if◌then◌else◌, List, [], ◌∷◌, ◌++◌, length, Option, None, Some, refl, sym, ap, ◌∙◌, arith}
use Rattle.gate_cases.specs.declared.face.Face.{Face}
use Rattle.gate_cases.specs.declared.face.Face.TheVariants.{Old, New}
use Rattle.journal_file.specs.declared.kept.Pending.{Pending}
use Rattle.journal_file.specs.Values.{KeptValue, RecordValue, a_begun}
use Rattle.journal_file.specs.Keeping.{kept_with, kept_after}
use Rattle.journal_file.specs.Spelling.{MayCome, MayFollow, IsSmall}
use Rattle.peer_gateway.specs.Gate.{AddedAt}
use Rattle.peer_records.specs.Keeping.{Waiting, ids_in, ids_pending, one_if, times}
use Rattle.peer_records.specs.Records.{came_if, pending_with, begun_records, waits_at, waiting_with}
use Rattle.peer_records.specs.Laws.{AreShort}
use Rattle.peer_records.proofs.CountLemmas.{waits-append}
use Rattle.peer_records.proofs.PendingLemmas.{pending-append}

-- how often an id waits
abbrev pub waits : ℕ → Waiting × Waiting → ℕ
waits id w = times id (ids_in w.0) + times id (ids_in w.1)

-- ---- one more waits

pub waits-some : (id x : ℕ) (face : Face) (w : Waiting × Waiting) → waits id (waits_at face (Some x) w) ≡ waits id w + one_if (x == id)
unfolding times
waits-some id x Old w = let more = waits-append id w.0 (Some x ∷ []) in omega (arith, more)
waits-some id x New w = let more = waits-append id w.1 (Some x ∷ []) in omega (arith, more)

pub waits-none : (id : ℕ) (face : Face) (w : Waiting × Waiting) → waits id (waits_at face None w) ≡ waits id w
unfolding times
waits-none id Old w = let more = waits-append id w.0 (None ∷ []) in omega (arith, more)
waits-none id New w = let more = waits-append id w.1 (None ∷ []) in omega (arith, more)

-- ---- those of a step

pub record Adds (kept : KeptValue) (records : List RecordValue) (w v : Waiting × Waiting) : Type 0 where
  pub may : MayFollow kept records
  pub marks : (kept_after kept records).marks ≡ kept.marks
  -- each that waits besides is pending besides
  pub besides : (id : ℕ) → waits id v + times id (ids_pending kept.pending) ≡ waits id w + times id (ids_pending (kept_after kept records).pending)

adds-report : (kept : KeptValue) (records : List RecordValue) (face : Face) (w v : Waiting × Waiting) → Adds kept records (waits_at face None w) v → Adds kept records w v
adds-report kept records face w v rest = record {
  may = rest.may;
  marks = rest.marks;
  besides = λ id. let more = rest.besides id in let same = waits-none id face w in omega (arith, more, same);
}

adds-piece : (kept : KeptValue) (p : Pending) (records : List RecordValue) (face : Face) (w v : Waiting × Waiting) → MayCome kept (a_begun p)
    → Adds (kept_with kept (a_begun p)) records (waits_at face (Some p.id) w) v → Adds kept (a_begun p ∷ records) w v
unfolding kept_with times
adds-piece kept p records face w v may rest = record {
  may = (may, rest.may);
  marks = rest.marks;
  besides = λ id. let more = rest.besides id in let one = waits-some id p.id face w in let last = pending-append id kept.pending (p ∷ []) in omega (arith, more, one, last);
}

may-begin : (kept : KeptValue) (a : AddedAt) (n : ℕ) → kept.greatest + suc n < 2 ^ 64 → length (a.piece).octets < 2 ^ 64 → IsSmall (came_if a.piece)
    → MayCome kept (a_begun (pending_with (kept.greatest + 1) a))
may-begin kept a n small short moment = (omega arith, omega (arith, small), short, moment)

pub adds-follow : (kept : KeptValue) (added : List AddedAt) (w : Waiting × Waiting) → kept.greatest + length added < 2 ^ 64 → AreShort added
    → Adds kept (begun_records kept.greatest added) w (waiting_with kept.greatest added w)
unfolding begun_records waiting_with kept_with
adds-follow kept [] w small shorts = record { may = tt; marks = refl; besides = λ id. refl }
adds-follow kept (a ∷ added) w small (short, moment, shorts) =
    let p = pending_with (kept.greatest + 1) a in
    by a.is_report
    (adds-report kept (begun_records kept.greatest added) a.face w (waiting_with kept.greatest added (waits_at a.face None w))
    (adds-follow kept added (waits_at a.face None w) (omega (arith, small)) shorts))
    (adds-piece kept p (begun_records (kept.greatest + 1) added) a.face w (waiting_with (kept.greatest + 1) added (waits_at a.face (Some (kept.greatest + 1)) w))
    (may-begin kept a (length added) small short moment)
    (adds-follow (kept_with kept (a_begun p)) added (waits_at a.face (Some (kept.greatest + 1)) w) (omega (arith, small)) shorts))
  where
    by : (t : Bool)
        → Adds kept (begun_records kept.greatest added) w (waiting_with kept.greatest added (waits_at a.face None w))
        → Adds kept (a_begun (pending_with (kept.greatest + 1) a) ∷ begun_records (kept.greatest + 1) added) w
        (waiting_with (kept.greatest + 1) added (waits_at a.face (Some (kept.greatest + 1)) w))
        → Adds kept (if t then begun_records kept.greatest added else a_begun (pending_with (kept.greatest + 1) a) ∷ begun_records (kept.greatest + 1) added) w
        (if t then waiting_with kept.greatest added (waits_at a.face None w) else waiting_with (kept.greatest + 1) added (waits_at a.face (Some (kept.greatest + 1)) w))
    by true report piece = report
    by false report piece = piece

-- one that waits before others are added waits after them
pub waits-grow : (id greatest : ℕ) (added : List AddedAt) (w : Waiting × Waiting) → waits id w ≤ waits id (waiting_with greatest added w)
unfolding waiting_with
waits-grow id greatest [] w = omega arith
waits-grow id greatest (a ∷ added) w =
    let none = waits-none id a.face w in
    let some = waits-some id (greatest + 1) a.face w in
    let report = waits-grow id greatest added (waits_at a.face None w) in
    let piece = waits-grow id (greatest + 1) added (waits_at a.face (Some (greatest + 1)) w) in
    by a.is_report (omega (arith, none, report)) (omega (arith, some, piece))
  where
    by : (t : Bool) → waits id w ≤ waits id (waiting_with greatest added (waits_at a.face None w))
        → waits id w ≤ waits id (waiting_with (greatest + 1) added (waits_at a.face (Some (greatest + 1)) w))
        → waits id w ≤ waits id (if t then waiting_with greatest added (waits_at a.face None w) else waiting_with (greatest + 1) added (waits_at a.face (Some (greatest + 1)) w))
    by true report piece = report
    by false report piece = piece

-- ---- reports

record Same (w v : Waiting × Waiting) : Type 0 where
  old : ids_in w.0 ≡ ids_in v.0
  new : ids_in w.1 ≡ ids_in v.1

ids-append : (xs ys : Waiting) → ids_in (xs ++ ys) ≡ ids_in xs ++ ids_in ys
ids-append [] ys = refl
ids-append (None ∷ xs) ys = ids-append xs ys
ids-append (Some x ∷ xs) ys = ap (λ (l : List ℕ). x ∷ l) (ids-append xs ys)

same-one : (xs ys : Waiting) (o : Option ℕ) → ids_in xs ≡ ids_in ys → ids_in (xs ++ o ∷ []) ≡ ids_in (ys ++ o ∷ [])
same-one xs ys o is = ids-append xs (o ∷ []) ∙ ap (λ (l : List ℕ). l ++ ids_in (o ∷ [])) is ∙ sym (ids-append ys (o ∷ []))

same-more : (face : Face) (o : Option ℕ) (w v : Waiting × Waiting) → Same w v → Same (waits_at face o w) (waits_at face o v)
same-more Old o w v same = record { old = same-one w.0 v.0 o same.old; new = same.new }
same-more New o w v same = record { old = same.old; new = same-one w.1 v.1 o same.new }

same-report : (face : Face) (w : Waiting × Waiting) → Same (waits_at face None w) w
same-report Old w = record { old = ids-append w.0 (None ∷ []) ∙ append-none (ids_in w.0); new = refl }
  where
    append-none : (l : List ℕ) → l ++ [] ≡ l
    append-none [] = refl
    append-none (x ∷ l) = ap (λ (m : List ℕ). x ∷ m) (append-none l)
same-report New w = record { old = refl; new = ids-append w.1 (None ∷ []) ∙ append-none (ids_in w.1) }
  where
    append-none : (l : List ℕ) → l ++ [] ≡ l
    append-none [] = refl
    append-none (x ∷ l) = ap (λ (m : List ℕ). x ∷ m) (append-none l)

same-all : (greatest : ℕ) (added : List AddedAt) (w v : Waiting × Waiting) → Same w v → Same (waiting_with greatest added w) (waiting_with greatest added v)
unfolding waiting_with
same-all greatest [] w v same = same
same-all greatest (a ∷ added) w v same =
    by a.is_report (same-all greatest added (waits_at a.face None w) (waits_at a.face None v) (same-more a.face None w v same))
    (same-all (greatest + 1) added (waits_at a.face (Some (greatest + 1)) w) (waits_at a.face (Some (greatest + 1)) v) (same-more a.face (Some (greatest + 1)) w v same))
  where
    by : (t : Bool) → Same (waiting_with greatest added (waits_at a.face None w)) (waiting_with greatest added (waits_at a.face None v))
        → Same (waiting_with (greatest + 1) added (waits_at a.face (Some (greatest + 1)) w)) (waiting_with (greatest + 1) added (waits_at a.face (Some (greatest + 1)) v))
        → Same (if t then waiting_with greatest added (waits_at a.face None w) else waiting_with (greatest + 1) added (waits_at a.face (Some (greatest + 1)) w))
        (if t then waiting_with greatest added (waits_at a.face None v) else waiting_with (greatest + 1) added (waits_at a.face (Some (greatest + 1)) v))
    by true report piece = report
    by false report piece = piece

report-waits : (greatest : ℕ) (before : List AddedAt) (a : AddedAt) (after : List AddedAt) (w : Waiting × Waiting) → a.is_report ≡ true
    → Same (waiting_with greatest (before ++ a ∷ after) w) (waiting_with greatest (before ++ after) w)
unfolding waiting_with
report-waits greatest [] a after w is = rw is (same-all greatest after (waits_at a.face None w) w (same-report a.face w))
report-waits greatest (b ∷ before) a after w is =
    by b.is_report (report-waits greatest before a after (waits_at b.face None w) is) (report-waits (greatest + 1) before a after (waits_at b.face (Some (greatest + 1)) w) is)
  where
    by : (t : Bool) → Same (waiting_with greatest (before ++ a ∷ after) (waits_at b.face None w)) (waiting_with greatest (before ++ after) (waits_at b.face None w))
        → Same (waiting_with (greatest + 1) (before ++ a ∷ after) (waits_at b.face (Some (greatest + 1)) w)) (waiting_with (greatest + 1) (before ++ after) (waits_at b.face (Some (greatest + 1)) w))
        → Same (if t then waiting_with greatest (before ++ a ∷ after) (waits_at b.face None w) else waiting_with (greatest + 1) (before ++ a ∷ after) (waits_at b.face (Some (greatest + 1)) w))
        (if t then waiting_with greatest (before ++ after) (waits_at b.face None w) else waiting_with (greatest + 1) (before ++ after) (waits_at b.face (Some (greatest + 1)) w))
    by true report piece = report
    by false report piece = piece

report-records : (greatest : ℕ) (before : List AddedAt) (a : AddedAt) (after : List AddedAt) → a.is_report ≡ true
    → begun_records greatest (before ++ a ∷ after) ≡ begun_records greatest (before ++ after)
unfolding begun_records
report-records greatest [] a after is = rw is refl
report-records greatest (b ∷ before) a after is =
    by b.is_report (report-records greatest before a after is) (report-records (greatest + 1) before a after is)
  where
    by : (t : Bool) → begun_records greatest (before ++ a ∷ after) ≡ begun_records greatest (before ++ after)
        → begun_records (greatest + 1) (before ++ a ∷ after) ≡ begun_records (greatest + 1) (before ++ after)
        → (if t then begun_records greatest (before ++ a ∷ after) else a_begun (pending_with (greatest + 1) b) ∷ begun_records (greatest + 1) (before ++ a ∷ after))
        ≡ (if t then begun_records greatest (before ++ after) else a_begun (pending_with (greatest + 1) b) ∷ begun_records (greatest + 1) (before ++ after))
    by true report piece = report
    by false report piece = ap (λ (l : List RecordValue). a_begun (pending_with (greatest + 1) b) ∷ l) piece

pub reports-have-no-id : (greatest : ℕ) (before : List AddedAt) (a : AddedAt) (after : List AddedAt) (w : Waiting × Waiting) → a.is_report ≡ true
    → (begun_records greatest (before ++ a ∷ after) ≡ begun_records greatest (before ++ after))
    × (ids_in (waiting_with greatest (before ++ a ∷ after) w).0 ≡ ids_in (waiting_with greatest (before ++ after) w).0)
    × (ids_in (waiting_with greatest (before ++ a ∷ after) w).1 ≡ ids_in (waiting_with greatest (before ++ after) w).1)
reports-have-no-id greatest before a after w is =
    let same = report-waits greatest before a after w is in (report-records greatest before a after is, same.old, same.new)
