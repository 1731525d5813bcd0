-- What a file stands for, and where it is damaged, from what reading gives.
use Rattle.std.proofs.Common.{◌≡◌, ℕ, zero, suc, ◌+◌, ◌-◌, ◌<◌, ◌≤◌, ◌==◌, nat_eq, Bool, true, false, List, [], ◌∷◌, ◌++◌, length, take, drop, Option, Some, None, Result, Ok, Err, IfOk, IfErr, IfSome, refl, sym, ap, ◌∙◌, arith, inl, inr}
use Rattle.std.proofs.lemmas.List.{length-append, take-append-drop}
use Rattle.std.proofs.lemmas.Bool.{ne_eqb}
use Rattle.std.specs.List.{starts_with}
use Rattle.std.proofs.lemmas.Slice.Eq.{bytes_eq-Decides}
use Rattle.wire_fields.specs.Format.{Spells, give, ◌>>=◌}
use Rattle.wire_fields.specs.Refusal.{Stop, because}
use Rattle.wire_fields.specs.Reading.{read, IsOctets}
use Rattle.wire_fields.specs.Words.{choice}
use Rattle.wire_fields.specs.Gives.{GivesWhole, Fails}
use Rattle.wire_fields.proofs.ReadLemmas.{read-only, read-found, read-refused, read-refuses}
use Rattle.journal_file.specs.declared.fault.JournalCause.{JournalCause}
use Rattle.journal_file.specs.declared.fault.JournalCause.TheVariants as causes
use Rattle.journal_file.specs.Values.{KeptValue, RecordValue, nothing_kept}
use Rattle.journal_file.specs.Keeping.{kept_with}
use Rattle.journal_file.specs.Table.{entry, records}
use Rattle.journal_file.specs.File.{opening, Says, Reads, IsDamaged, only_kept, read_file}

-- as many records may follow as there are octets
pub records-enough : (m n : ℕ) (kept k : KeptValue) (front w : List ℕ) → length w < n
    → Spells (records m kept) front w k → Spells (records n kept) front w k
unfolding records
records-enough zero n kept k front w few s = absurd (cc)
records-enough (suc m) zero kept k front w few s = absurd (omega arith)
records-enough (suc m) (suc n) kept k front w few (u, v, gate, parts, one, after) = (
  u,
  v,
  gate,
  parts,
  one,
  by (gate == 1) (λ said seen y short s. records-enough m n (kept_with kept said) k seen y short s) after,
)
  where
    long : length w ≡ length u + length v
    long = ap length parts ∙ length-append u v

    some : length u ≡ 1
    some = ap length one

    by : (on : Bool)
        → ((said : RecordValue) (seen y : List ℕ) → length y < n → Spells (records m (kept_with kept said)) seen y k → Spells (records n (kept_with kept said)) seen y k)
        → Spells (choice on (entry kept >>= (λ said. records m (kept_with kept said))) (give kept)) (front ++ u) v k
        → Spells (choice on (entry kept >>= (λ said. records n (kept_with kept said))) (give kept)) (front ++ u) v k
    by false others s = s
    by true others (x, y, said, seam, here, rest) = (
      x,
      y,
      said,
      seam,
      here,
      others said ((front ++ u) ++ x) y
          (omega (arith, few, long, some, ap length seam ∙ length-append x y)) rest,
    )

-- ---- the start

starts-right : (file : List ℕ) → starts_with nat_eq file opening ≡ true → opening ≡ take 8 file
starts-right file is = (bytes_eq-Decides opening (take 8 file)).0 is

starts-parts : (file : List ℕ) → starts_with nat_eq file opening ≡ true → file ≡ opening ++ drop 8 file
starts-parts file is = sym (take-append-drop 8 file) ∙ ap (λ (w : List ℕ). w ++ drop 8 file) (sym (starts-right file is))

starts-there : (rest : List ℕ) → starts_with nat_eq (opening ++ rest) opening ≡ true
starts-there rest = refl

abbrev good : KeptValue → Result KeptValue (ℕ × Stop JournalCause)
good k = Ok k

abbrev bad : ℕ × Stop JournalCause → Result KeptValue (ℕ × Stop JournalCause)
bad s = Err s

abbrev ended : KeptValue → ℕ → Result (KeptValue × ℕ) (ℕ × Stop JournalCause)
ended k to = Ok (k, to)

abbrev stopped : ℕ × Stop JournalCause → Result (KeptValue × ℕ) (ℕ × Stop JournalCause)
stopped s = Err s

good-is : (j k : KeptValue) → good j ≡ good k → j ≡ k
good-is j k is = cc

bad-is : (s t : ℕ × Stop JournalCause) → bad s ≡ bad t → s ≡ t
bad-is s t is = cc

kept-found : (r : Result (KeptValue × ℕ) (ℕ × Stop JournalCause)) (k : KeptValue) → only_kept r ≡ good k → (to : ℕ) × (r ≡ ended k to)
kept-found (Ok x) k is = (x.1, ap (λ j. ended j x.1) (good-is x.0 k is))
kept-found (Err s) k is = absurd (cc)

kept-stopped : (r : Result (KeptValue × ℕ) (ℕ × Stop JournalCause)) (s : ℕ × Stop JournalCause) → only_kept r ≡ bad s → r ≡ stopped s
kept-stopped (Ok x) s is = absurd (cc)
kept-stopped (Err t) s is = ap stopped (bad-is t s is)

-- what reading a file with octets gives
read-right : (file : List ℕ) → starts_with nat_eq file opening ≡ true → read_file file ≡ only_kept (read (records (length file) nothing_kept) file 8)
unfolding read_file
read-right [] is = absurd (cc)
read-right (x ∷ file) is = rw (is, ne_eqb (suc (length file)) 0 (λ none. omega arith)) refl

read-other : (file : List ℕ) → (file ≡ [] → ⊥) → starts_with nat_eq file opening ≡ false → read_file file ≡ bad (0, because causes.Start)
unfolding read_file
read-other [] some is = absurd (some refl)
read-other (x ∷ file) some is = rw (is, ne_eqb (suc (length file)) 0 (λ none. omega arith)) refl

read-none : read_file [] ≡ good nothing_kept
unfolding read_file
read-none = refl

-- ---- found

says-read : (file : List ℕ) (k : KeptValue) (to : ℕ) → IsOctets file → starts_with nat_eq file opening ≡ true
    → read (records (length file) nothing_kept) file 8 ≡ ended k to → Says file k
says-read file k to fits is reads =
    let long : 8 ≤ length file = omega (arith, ap length (starts-parts file is) ∙ length-append opening (drop 8 file)) in
    let there = read-found (records (length file) nothing_kept) file 8 k to fits long reads in record {
      text = take (to - 8) (drop 8 file);
      rest = drop (to - 8) (drop 8 file);
      most = length file;
      parts = starts-parts file is ∙ ap (λ (w : List ℕ). opening ++ w) (sym (take-append-drop (to - 8) (drop 8 file)));
      spells = rw (sym (starts-right file is)) at there.spells;
    }

file-found : (file : List ℕ) (k : KeptValue) → IsOctets file → read_file file ≡ good k → Reads file k
file-found [] k fits reads = inl (refl, good-is k nothing_kept (sym reads ∙ read-none))
file-found (x ∷ file) k fits reads = by (starts_with nat_eq (x ∷ file) opening) refl
  where
    by : (t : Bool) → starts_with nat_eq (x ∷ file) opening ≡ t → Reads (x ∷ file) k
    by true is =
        let there = kept-found (read (records (length (x ∷ file)) nothing_kept) (x ∷ file) 8) k (sym (read-right (x ∷ file) is) ∙ reads) in
        inr (says-read (x ∷ file) k there.0 fits is there.1)
    by false is =
        let no : bad (0, because causes.Start) ≡ good k = sym (read-other (x ∷ file) (λ e. absurd (cc)) is) ∙ reads in absurd (cc)

-- ---- only

file-only : (file : List ℕ) (k : KeptValue) → Reads file k → read_file file ≡ good k
file-only file k (inl (none, nothing)) = rw (none, nothing) read-none
file-only file k (inr says) =
    let n = length file in
    let long : n ≡ 8 + (length says.text + length says.rest) =
    ap length says.parts ∙ length-append opening (says.text ++ says.rest) ∙ ap (λ (m : ℕ). 8 + m) (length-append says.text says.rest) in
    let spells = records-enough says.most n nothing_kept k opening says.text (omega (arith, long)) says.spells in
    let reads = read-only (records n nothing_kept) opening says.text says.rest k spells in
    let whole : read (records n nothing_kept) file 8 ≡ ended k (8 + length says.text) =
    ap (λ (w : List ℕ). read (records n nothing_kept) w 8) says.parts ∙ reads in
    let right : starts_with nat_eq file opening ≡ true =
    ap (λ (w : List ℕ). starts_with nat_eq w opening) says.parts ∙ starts-there (says.text ++ says.rest) in
    read-right file right ∙ ap only_kept whole

-- and it stands for nothing else
pub reads-one : (file : List ℕ) (j k : KeptValue) → Reads file j → Reads file k → j ≡ k
reads-one file j k one other = good-is j k (sym (file-only file j one) ∙ file-only file k other)

-- ---- refused

file-refused : (file : List ℕ) (p : ℕ) (s : Stop JournalCause) → IsOctets file → read_file file ≡ bad (p, s) → IsDamaged file p s
file-refused [] p s fits reads = let no : good nothing_kept ≡ bad (p, s) = sym read-none ∙ reads in absurd (cc)
file-refused (x ∷ file) p s fits reads = by (starts_with nat_eq (x ∷ file) opening) refl
  where
    all : List ℕ
    all = x ∷ file

    by : (t : Bool) → starts_with nat_eq (x ∷ file) opening ≡ t → IsDamaged (x ∷ file) p s
    by true is =
        let long : 8 ≤ length (x ∷ file) = omega (arith, ap length (starts-parts (x ∷ file) is) ∙ length-append opening (drop 8 (x ∷ file))) in
        let stops = kept-stopped (read (records (length (x ∷ file)) nothing_kept) (x ∷ file) 8) (p, s) (sym (read-right (x ∷ file) is) ∙ reads) in
        let refusal = read-refused (records (length (x ∷ file)) nothing_kept) (x ∷ file) 8 p s fits long stops in
        inr (drop 8 (x ∷ file), starts-parts (x ∷ file) is, rw (sym (starts-right (x ∷ file) is)) at refusal)
    by false is =
        let same = bad-is (0, because causes.Start) (p, s) (sym (read-other (x ∷ file) (λ e. absurd (cc)) is) ∙ reads) in
        inl (
          record {
            some = λ e. absurd (cc);
            other = λ rest e. let no : true ≡ false = sym (ap (λ (w : List ℕ). starts_with nat_eq w opening) e ∙ starts-there rest) ∙ is in absurd (cc);
          },
          sym (ap (λ (t : ℕ × Stop JournalCause). t.0) same),
          sym (ap (λ (t : ℕ × Stop JournalCause). t.1) same),
        )

file-refuses : (file : List ℕ) (p : ℕ) (s : Stop JournalCause) → IsOctets file → IsDamaged file p s → read_file file ≡ bad (p, s)
file-refuses file p s fits (inl (start, at, why)) = by (starts_with nat_eq file opening) refl
  where
    by : (t : Bool) → starts_with nat_eq file opening ≡ t → read_file file ≡ bad (p, s)
    by true is = absurd (start.other (drop 8 file) (starts-parts file is))
    by false is = rw (at, why) (read-other file start.some is)
file-refuses file p s fits (inr (rest, parts, refusal)) =
    let octets : IsOctets (opening ++ rest) = rw parts at fits in
    let stops = read-refuses (records (length file) nothing_kept) opening rest p s octets refusal in
    let whole : read (records (length file) nothing_kept) file 8 ≡ stopped (p, s) =
    ap (λ (w : List ℕ). read (records (length file) nothing_kept) w 8) parts ∙ stops in
    let right : starts_with nat_eq file opening ≡ true =
    ap (λ (w : List ℕ). starts_with nat_eq w opening) parts ∙ starts-there rest in
    read-right file right ∙ ap only_kept whole

-- ---- the clauses of a reader that gives what reading gives

module _ {X E : Type 0} (view : X → KeptValue) (fault : E → Option (ℕ × Stop JournalCause)) (file : List ℕ) where
  pub clause-found : (result : Result X E) → IsOctets file → GivesWhole view fault result (read_file file) → IfOk result (λ x. Reads file (view x))
  clause-found (Ok x) fits gives = file-found file (view x) fits gives
  clause-found (Err e) fits gives = tt

  pub clause-only : (result : Result X E) → GivesWhole view fault result (read_file file)
      → (k : KeptValue) → Reads file k → GivesWhole view fault result (good k)
  clause-only result gives k reads = rw (file-only file k reads) at gives

  refused-at : (o : Option (ℕ × Stop JournalCause)) → IsOctets file → Fails o (read_file file) → IfSome o (λ s. IsDamaged file s.0 s.1)
  refused-at None fits fails = tt
  refused-at (Some s) fits fails = file-refused file s.0 s.1 fits fails

  pub clause-refused : (result : Result X E) → IsOctets file → GivesWhole view fault result (read_file file)
      → IfErr result (λ e. IfSome (fault e) (λ s. IsDamaged file s.0 s.1))
  clause-refused (Ok x) fits gives = tt
  clause-refused (Err e) fits gives = refused-at (fault e) fits gives

  pub clause-refuses : (result : Result X E) → IsOctets file → GivesWhole view fault result (read_file file)
      → (p : ℕ) (s : Stop JournalCause) → IsDamaged file p s → GivesWhole view fault result (bad (p, s))
  clause-refuses result fits gives p s damaged = rw (file-refuses file p s fits damaged) at gives
