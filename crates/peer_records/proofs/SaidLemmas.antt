-- The records of a step, one after the other, as the code appends them.
use Rattle.std.proofs.Common.{◌≡◌, ℕ, ◌+◌, ◌<◌, ◌≤◌, Bool, true, false, if◌then◌else◌, List, [], ◌∷◌, ◌++◌, length, map, take, drop, get_or, Option, None, Some, refl, sym, ap, ◌∙◌, subst, append_assoc}
use Rattle.std.proofs.lemmas.List.{append-nil, at_drop_more, drop_all, length-map, take_more, take_all}
use Rattle.std.proofs.Math.ListN.{get_or-map}
use Rattle.gateway_core.specs.declared.effects.Routed.{Routed}
use Rattle.journal_file.specs.declared.kept.Pending.{Pending}
use Rattle.journal_file.specs.declared.kept.Mark.{Mark}
use Rattle.journal_file.specs.Values.{KeptValue, RecordValue, a_begun}
use Rattle.journal_file.specs.Keeping.{kept_with, kept_after}
use Rattle.journal_file.proofs.AnewLemmas.{after-append}
use Rattle.gate_records.specs.Happened.{Happened, reports_on}
use Rattle.gate_records.specs.Records.{due_mark, mark_with, marks_then, mark_records}
use Rattle.gate_records.specs.Ties.{clear_of}
use Rattle.peer_gateway.specs.declared.told.Added.{Added}
use Rattle.peer_gateway.specs.declared.told.Outgoing.{Outgoing}
use Rattle.peer_gateway.specs.Answers.{added_seen, routed_seen}
use Rattle.peer_gateway.specs.Gate.{AddedAt}
use Rattle.peer_records.specs.Laws.{AreShort}
use Rattle.peer_records.specs.Records.{pending_with, begun_records}
use Rattle.peer_records.specs.Said.{SaidValue, said_with}

-- ---- records after records

pub with-with : (rs qs : List RecordValue) (s : SaidValue) → said_with qs (said_with rs s) ≡ said_with (rs ++ qs) s
with-with rs qs s = rw (after-append s.kept rs qs, append_assoc s.records rs qs) refl

pub with-none : (s : SaidValue) → said_with [] s ≡ s
with-none s = rw (append-nil s.records) refl

-- ---- pieces

abbrev pub begins : List AddedAt → SaidValue → SaidValue
begins added s = said_with (begun_records (s.kept).greatest added) s

begins-next : (a : AddedAt) (more : List AddedAt) (s : SaidValue) → begins more (begins (a ∷ []) s) ≡ begins (a ∷ more) s
unfolding begun_records kept_with
begins-next a more s = by a.is_report
  where
    g : ℕ
    g = (s.kept).greatest

    one : RecordValue
    one = a_begun (pending_with (g + 1) a)

    by : (t : Bool) → begins more (said_with (if t then [] else one ∷ []) s) ≡ said_with (if t then begun_records g more else one ∷ begun_records (g + 1) more) s
    by true = rw (append-nil s.records) refl
    by false = with-with (one ∷ []) (begun_records (g + 1) more) s

pub begins-step : (xs : List Added) (i : ℕ) (a : Added) (s now whole : SaidValue) → i < length xs → a ≡ get_or xs i a
    → now ≡ begins (added_seen a ∷ []) s → begins (map added_seen (drop i xs)) s ≡ whole → begins (map added_seen (drop (i + 1) xs)) now ≡ whole
begins-step xs i a s now whole low at is so_far =
    ap (λ (r : SaidValue). begins (map added_seen (drop (i + 1) xs)) r) is ∙ begins-next (added_seen a) (map added_seen (drop (i + 1) xs)) s
    ∙ ap (λ (b : Added). begins (map added_seen (b ∷ drop (i + 1) xs)) s) at
    ∙ sym (at_drop_more (λ (l : List Added). begins (map added_seen l) s) xs i a low) ∙ so_far

pub begins-end : (xs : List Added) (i : ℕ) (s whole : SaidValue) → length xs ≤ i → begins (map added_seen (drop i xs)) s ≡ whole → s ≡ whole
unfolding begun_records
begins-end xs i s whole high so_far = sym (ap (λ (l : List Added). begins (map added_seen l) s) (drop_all i xs high) ∙ with-none s) ∙ so_far

-- a report of the gateway
pub report-none : (a : AddedAt) (s : SaidValue) → a.is_report ≡ true → s ≡ begins (a ∷ []) s
unfolding begun_records
report-none a s is = rw is (sym (with-none s))

-- a piece
pub piece-begun : (a : AddedAt) (s : SaidValue) (id : ℕ) (p : Pending) → a.is_report ≡ false → id ≡ (s.kept).greatest + 1 → p ≡ pending_with id a
    → said_with (a_begun p ∷ []) s ≡ begins (a ∷ []) s
unfolding begun_records
piece-begun a s id p is next this = rw (this, next, is) refl

-- ---- datagrams, as they are seen

pub seen-low : (out : List Outgoing) (i : ℕ) → i < length out → i < length (map routed_seen out)
seen-low out i low = rw (length-map out routed_seen) low

pub seen-high : (out : List Outgoing) (i : ℕ) → length out ≤ i → length (map routed_seen out) ≤ i
seen-high out i high = rw (length-map out routed_seen) high

pub seen-at : (out : List Outgoing) (i : ℕ) (o : Outgoing) → o ≡ get_or out i o → routed_seen o ≡ get_or (map routed_seen out) i (routed_seen o)
seen-at out i o at = ap routed_seen at ∙ sym (get_or-map routed_seen out i o)

-- ---- marks

abbrev pub reports : Happened → List Routed → SaidValue → SaidValue
reports h out s = said_with (mark_records h out (s.kept).marks) s

-- the marks after a report
pub marked : (k : KeptValue) (o : Option Mark) → (kept_after k (mark_with o)).marks ≡ marks_then o k.marks
unfolding kept_with
marked k None = refl
marked k (Some m) = refl

abbrev pub report_one : Happened → Routed → SaidValue → SaidValue
report_one h routed s = said_with (mark_with (due_mark h routed.face (reports_on routed.datagram) (s.kept).marks)) s

reports-next : (h : Happened) (routed : Routed) (more : List Routed) (s : SaidValue) → reports h more (report_one h routed s) ≡ reports h (routed ∷ more) s
unfolding mark_records
reports-next h routed more s =
    let due = due_mark h routed.face (reports_on routed.datagram) (s.kept).marks in
    ap (λ (ms : List Mark). said_with (mark_records h more ms) (report_one h routed s)) (marked s.kept due)
    ∙ with-with (mark_with due) (mark_records h more (marks_then due (s.kept).marks)) s

pub reports-step : (h : Happened) (out : List Routed) (i : ℕ) (d : Routed) (s now whole : SaidValue) → i < length out → d ≡ get_or out i d
    → now ≡ report_one h d s → reports h (drop i out) s ≡ whole → reports h (drop (i + 1) out) now ≡ whole
reports-step h out i d s now whole low at is so_far =
    ap (λ (r : SaidValue). reports h (drop (i + 1) out) r) is ∙ reports-next h d (drop (i + 1) out) s
    ∙ ap (λ (r : Routed). reports h (r ∷ drop (i + 1) out) s) at
    ∙ sym (at_drop_more (λ (xs : List Routed). reports h xs s) out i d low) ∙ so_far

pub reports-end : (h : Happened) (out : List Routed) (i : ℕ) (s whole : SaidValue) → length out ≤ i → reports h (drop i out) s ≡ whole → s ≡ whole
unfolding mark_records
reports-end h out i s whole high so_far = sym (ap (λ (xs : List Routed). reports h xs s) (drop_all i out high) ∙ with-none s) ∙ so_far

-- ---- clears

abbrev pub clears : List Mark → SaidValue → SaidValue
clears over s = said_with (map clear_of over) s

pub clears-step : (over : List Mark) (i : ℕ) (d : Mark) (s now whole : SaidValue) → i < length over → d ≡ get_or over i d
    → now ≡ said_with (clear_of d ∷ []) s → clears (drop i over) s ≡ whole → clears (drop (i + 1) over) now ≡ whole
clears-step over i d s now whole low at is so_far =
    ap (λ (r : SaidValue). clears (drop (i + 1) over) r) is ∙ with-with (clear_of d ∷ []) (map clear_of (drop (i + 1) over)) s
    ∙ ap (λ (m : Mark). clears (m ∷ drop (i + 1) over) s) at
    ∙ sym (at_drop_more (λ (xs : List Mark). clears xs s) over i d low) ∙ so_far

pub clears-end : (over : List Mark) (i : ℕ) (s whole : SaidValue) → length over ≤ i → clears (drop i over) s ≡ whole → s ≡ whole
clears-end over i s whole high so_far = sym (ap (λ (xs : List Mark). clears xs s) (drop_all i over high) ∙ with-none s) ∙ so_far

-- ---- what pieces name has a spelling

short-push : (xs : List Added) (a : Added) → AreShort (map added_seen xs) → AreShort (added_seen a ∷ []) → AreShort (map added_seen (xs ++ a ∷ []))
short-push [] a are short = short
short-push (x ∷ xs) a (first, small, are) short = (first, small, short-push xs a are short)

pub short-step : (xs : List Added) (i : ℕ) (a : Added) → i < length xs → a ≡ get_or xs i a → AreShort (map added_seen (take i xs)) → AreShort (added_seen a ∷ [])
    → AreShort (map added_seen (take (i + 1) xs))
short-step xs i a low at are short =
    subst (λ (l : List Added). AreShort (map added_seen l)) (sym (take_more xs i a low))
    (short-push (take i xs) (get_or xs i a) are (subst (λ (b : Added). AreShort (added_seen b ∷ [])) at short))

pub short-all : (xs : List Added) (i : ℕ) → length xs ≤ i → AreShort (map added_seen (take i xs)) → AreShort (map added_seen xs)
short-all xs i high are = subst (λ (l : List Added). AreShort (map added_seen l)) (take_all i xs high) are
