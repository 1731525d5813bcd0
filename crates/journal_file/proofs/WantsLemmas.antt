-- The records that the loop over a file has passed: closed after them, the file says what is kept so far.
use Rattle.std.proofs.Common.{◌≡◌, inr, ℕ, zero, suc, ◌+◌, ◌-◌, ◌<◌, ◌≤◌, Bool, true, false, nat_lt, if◌then◌else◌, List, [], ◌∷◌, ◌++◌, length, get_or, take, drop, Result, Ok, Err, OnErr, refl, sym, ap, ◌∙◌, subst, append_assoc, arith}
use Rattle.std.proofs.lemmas.Bool.{ltb-true}
use Rattle.std.proofs.lemmas.List.{length-append, append-nil, take-append-drop}
use Rattle.std.proofs.Math.Seq.{take-add}
use Rattle.std.specs.List.{filter}
use Rattle.wire_fields.specs.Format.{Spells}
use Rattle.wire_fields.specs.Reading.{read, IsOctets}
use Rattle.wire_fields.specs.Words.{any_octet}
use Rattle.wire_fields.proofs.ReadLemmas.{read-found}
use Rattle.journal_file.specs.declared.fault.JournalCause.TheVariants as causes
use Rattle.journal_file.specs.declared.kept.Mark.{Mark}
use Rattle.journal_file.specs.Values.{KeptValue, RecordValue, a_begun, a_done, a_mark, a_clear, a_reserved, nothing_kept}
use Rattle.journal_file.specs.Keeping.{is_of, is_about, marks_of, without_first, marks_with, MARKS_MAX, kept_with, kept_after}
use Rattle.journal_file.specs.Table.{entry, records}
use Rattle.journal_file.specs.File.{opening}
use Rattle.journal_file.specs.Wants.{KeepsSome, HasToKeep}
use Rattle.journal_file.specs.declared.slots.Slot.{Slot}
use Rattle.journal_file.specs.Rising.{held}
use Rattle.journal_file.specs.Ties.{takes_memory}
use Rattle.journal_file.proofs.SlotLemmas.{held-append}
use Rattle.journal_file.proofs.DropLemmas.{drop_first, drop_first-is}

-- after what stands before, where this is kept, the octets are these records, each after an open gate
abbrev pub Stand : KeptValue → List ℕ → List RecordValue → List ℕ → Type 0
Stand kept front [] text = text ≡ []
Stand kept front (said ∷ more) text =
    (one rest : List ℕ) × (text ≡ 1 ∷ (one ++ rest)) × Spells (entry kept) (front ++ 1 ∷ []) one said
    × Stand (kept_with kept said) ((front ++ 1 ∷ []) ++ one) more rest

seam : (front a b : List ℕ) → ((front ++ 1 ∷ []) ++ a) ++ b ≡ front ++ 1 ∷ (a ++ b)
seam front a b = append_assoc (front ++ 1 ∷ []) a b ∙ append_assoc front (1 ∷ []) (a ++ b)

-- one record more
stand-push : (kept : KeptValue) (front : List ℕ) (rs : List RecordValue) (text one : List ℕ) (r : RecordValue) → Stand kept front rs text
    → Spells (entry (kept_after kept rs)) ((front ++ text) ++ 1 ∷ []) one r → Stand kept front (rs ++ r ∷ []) (text ++ 1 ∷ one)
stand-push kept front [] text one r none spells = (
  one,
  [],
  ap (λ (w : List ℕ). w ++ 1 ∷ one) none ∙ ap (λ (w : List ℕ). 1 ∷ w) (sym (append-nil one)),
  subst (λ (w : List ℕ). Spells (entry kept) (w ++ 1 ∷ []) one r) (ap (λ (w : List ℕ). front ++ w) none ∙ append-nil front) spells,
  refl,
)
stand-push kept front (q ∷ rs) text one r (a, b, parts, here, rest) spells = (
  a,
  b ++ 1 ∷ one,
  ap (λ (w : List ℕ). w ++ 1 ∷ one) parts ∙ ap (λ (w : List ℕ). 1 ∷ w) (append_assoc a b (1 ∷ one)),
  here,
  stand-push (kept_with kept q) ((front ++ 1 ∷ []) ++ a) rs b one r rest
      (subst (λ (w : List ℕ). Spells (entry (kept_after (kept_with kept q) rs)) (w ++ 1 ∷ []) one r) (ap (λ (w : List ℕ). front ++ w) parts ∙ sym (seam front a b)) spells),
)

after-push : (kept : KeptValue) (rs : List RecordValue) (r : RecordValue) → kept_after kept (rs ++ r ∷ []) ≡ kept_with (kept_after kept rs) r
after-push kept [] r = refl
after-push kept (q ∷ rs) r = after-push (kept_with kept q) rs r

record Ends (kept : KeptValue) (front text : List ℕ) (k : KeptValue) : Type 0 where
  most : ℕ
  spells : Spells (records most kept) front text k

-- a gate closes them
stand-ends : (kept : KeptValue) (front : List ℕ) (rs : List RecordValue) (text : List ℕ) → Stand kept front rs text → Ends kept front (text ++ 0 ∷ []) (kept_after kept rs)
unfolding records
stand-ends kept front [] text none = record { most = 1; spells = rw none (0 ∷ [], [], 0, refl, refl, (refl, refl)) }
stand-ends kept front (q ∷ rs) text (a, b, parts, here, rest) =
    let others = stand-ends (kept_with kept q) ((front ++ 1 ∷ []) ++ a) rs b rest in record {
      most = suc others.most;
      spells = (
        1 ∷ [],
        (a ++ b) ++ 0 ∷ [],
        1,
        ap (λ (w : List ℕ). w ++ 0 ∷ []) parts,
        refl,
        (a, b ++ 0 ∷ [], q, append_assoc a b (0 ∷ []), here, others.spells),
      );
    }

-- ---- what the loop keeps

-- up to a place the text is the opening and records, after which this is kept
pub record Passed (text : List ℕ) (after : ℕ) (kept : KeptValue) : Type 0 where
  pub said : List RecordValue
  pub octets : List ℕ
  pub parts : take after text ≡ opening ++ octets
  pub stand : Stand nothing_kept opening said octets
  pub is : kept ≡ kept_after nothing_kept said

pub passed-start : (text : List ℕ) (at : ℕ) (kept : KeptValue) → take at text ≡ opening → kept ≡ nothing_kept → Passed text at kept
passed-start text at kept start is = record { said = []; octets = []; parts = start; stand = refl; is = is }

piece : (text : List ℕ) (at to : ℕ) → at ≤ to → take to text ≡ take at text ++ take (to - at) (drop at text)
piece text at to le =
    let whole : to ≡ at + (to - at) = omega (arith, le) in
    ap (λ (n : ℕ). take n text) whole ∙ take-add at (to - at) text

pub passed-next : (text : List ℕ) (after at to : ℕ) (kept : KeptValue) (r : RecordValue) → IsOctets text → after ≤ length text → at ≤ length text
    → read (any_octet causes.Kind) text after ≡ Ok (1, at) → read (entry kept) text at ≡ Ok (r, to)
    → Passed text after kept → Passed text to (kept_with kept r)
passed-next text after at to kept r fits within inside gate is passed =
    let open_there = read-found (any_octet causes.Kind) text after 1 at fits within gate in
    let there = read-found (entry kept) text at r to fits inside is in
    let one : List ℕ = take (to - at) (drop at text) in
    let before : take at text ≡ (opening ++ passed.octets) ++ 1 ∷ [] =
    piece text after at open_there.behind ∙ ap (λ (w : List ℕ). take after text ++ w) open_there.spells ∙ ap (λ (w : List ℕ). w ++ 1 ∷ []) passed.parts in
    record {
      said = passed.said ++ r ∷ [];
      octets = passed.octets ++ 1 ∷ one;
      parts = piece text at to there.behind ∙ ap (λ (w : List ℕ). w ++ one) before
          ∙ append_assoc (opening ++ passed.octets) (1 ∷ []) one ∙ append_assoc opening passed.octets (1 ∷ one);
      stand = stand-push nothing_kept opening passed.said passed.octets one r passed.stand
          (subst (λ (k : KeptValue). Spells (entry k) ((opening ++ passed.octets) ++ 1 ∷ []) one r) passed.is
          (subst (λ (w : List ℕ). Spells (entry kept) w one r) before there.spells));
      is = ap (λ (k : KeptValue). kept_with k r) passed.is ∙ sym (after-push nothing_kept passed.said r);
    }

-- ---- something is kept

pub passed-some : (text : List ℕ) (after : ℕ) (kept : KeptValue) → Passed text after kept → KeepsSome kept → HasToKeep text
passed-some text after kept passed some =
    let ends = stand-ends nothing_kept opening passed.said passed.octets passed.stand in
    record {
      front = take after text;
      rest = drop after text;
      kept = kept;
      parts = sym (take-append-drop after text);
      says = inr (record {
        text = passed.octets ++ 0 ∷ [];
        rest = [];
        most = ends.most;
        parts = ap (λ (w : List ℕ). w ++ 0 ∷ []) passed.parts ∙ append_assoc opening passed.octets (0 ∷ [])
            ∙ ap (λ (w : List ℕ). opening ++ w) (sym (append-nil (passed.octets ++ 0 ∷ [])));
        spells = subst (λ (k : KeptValue). Spells (records ends.most nothing_kept) opening (passed.octets ++ 0 ∷ []) k) (sym passed.is) ends.spells;
      });
      some = some;
    }

filter-short : {A : Type 0} (test : A → Bool) (xs : List A) → length (filter test xs) ≤ length xs
filter-short test [] = omega arith
filter-short test (x ∷ xs) = by (test x) (filter-short test xs)
  where
    by : (t : Bool) → length (filter test xs) ≤ length xs → length (if t then x ∷ filter test xs else filter test xs) ≤ suc (length xs)
    by true rest = omega (arith, rest)
    by false rest = omega (arith, rest)

drop-long : {A : Type 0} (test : A → Bool) (xs : List A) → length xs ≤ length (drop_first test xs) + 1
unfolding drop_first
drop-long test [] = omega arith
drop-long test (x ∷ xs) = by (test x) (drop-long test xs)
  where
    by : (t : Bool) → length xs ≤ length (drop_first test xs) + 1 → suc (length xs) ≤ length (if t then xs else x ∷ drop_first test xs) + 1
    by true rest = omega arith
    by false rest = omega (arith, rest)

marked-some : (most : ℕ) (m : Mark) (xs : List Mark) → 0 < most → 0 < length (marks_with most m xs)
unfolding marks_with
marked-some most m xs some = by (nat_lt most (marks_of m.face ys)) refl
  where
    ys : List Mark
    ys = without_first (is_about m.face m.session) xs ++ m ∷ []

    by : (t : Bool) → nat_lt most (marks_of m.face (without_first (is_about m.face m.session) xs ++ m ∷ [])) ≡ t
        → 0 < length (if t then without_first (is_of m.face) (without_first (is_about m.face m.session) xs ++ m ∷ [])
        else without_first (is_about m.face m.session) xs ++ m ∷ [])
    by true many =
        let zs = without_first (is_about m.face m.session) xs ++ m ∷ [] in
        rw (drop_first-is (is_of m.face) zs)
        (omega (arith, some, ltb-true most (marks_of m.face zs) many, filter-short (is_of m.face) zs, drop-long (is_of m.face) zs))
    by false few = omega (arith, length-append (without_first (is_about m.face m.session) xs) (m ∷ []))

pub some-after : (kept : KeptValue) (said : RecordValue) → takes_memory said ≡ true → KeepsSome (kept_with kept said)
unfolding kept_with
some-after kept (a_begun p) takes = omega (arith, length-append kept.pending (p ∷ []))
some-after kept (a_done id how) takes = absurd (cc)
some-after kept (a_mark m) takes = omega (arith, marked-some MARKS_MAX m kept.marks (omega arith))
some-after kept (a_clear face session) takes = absurd (cc)
some-after kept (a_reserved face number) takes = absurd (cc)

-- ---- copies of what slots hold

pub some-held : (slots : List Slot) (i : ℕ) (d : Slot) → i < length slots → 0 < length (held (get_or slots i d ∷ [])) → 0 < length (held slots)
some-held [] i d lt some = absurd (omega arith)
some-held (x ∷ slots) zero d lt some = omega (arith, some, ap length (held-append (x ∷ []) slots), length-append (held (x ∷ [])) (held slots))
some-held (x ∷ slots) (suc i) d lt some =
    omega (arith, some-held slots i d (omega arith) some, ap length (held-append (x ∷ []) slots), length-append (held (x ∷ [])) (held slots))

pub on_err_of : {T E : Type 0} (r : Result T E) (P : Type 0) → P → OnErr r P
on_err_of (Ok x) P p = tt
on_err_of (Err e) P p = p
