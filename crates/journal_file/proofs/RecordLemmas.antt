-- The steps of the loop over records: what is left to read gives what all of it gives.
use Rattle.std.proofs.Common.{◌≡◌, ℕ, zero, suc, ◌+◌, ◌<◌, ◌≤◌, ◌==◌, Bool, true, false, not, List, length, Option, Result, Ok, Err, refl, sym, ap, ◌∙◌, arith}
use Rattle.std.proofs.lemmas.Bool.{eqb-true}
use Rattle.std.proofs.lemmas.List.{drop_all}
use Rattle.wire_fields.specs.Format.{give, ◌>>=◌}
use Rattle.wire_fields.specs.Refusal.{Stop, truncated}
use Rattle.wire_fields.specs.Kind.{octet}
use Rattle.wire_fields.specs.Reading.{go_on, read, look, ahead, named}
use Rattle.wire_fields.specs.Words.{any_octet, choice}
use Rattle.wire_fields.specs.Gives.{Fails}
use Rattle.wire_fields.proofs.GroupLemmas.{fails-on}
use Rattle.journal_file.specs.declared.fault.JournalCause.{JournalCause}
use Rattle.journal_file.specs.declared.fault.JournalCause.TheVariants as causes
use Rattle.journal_file.specs.Values.{KeptValue, RecordValue, nothing_kept}
use Rattle.journal_file.specs.Keeping.{kept_with}
use Rattle.journal_file.specs.Table.{entry, records}

-- From the place after on, where this is kept, as many records may follow as there are octets, and
-- reading them gives what reading all of them gives.
pub record SoFar (text : List ℕ) (after : ℕ) (kept : KeptValue) (all : Result (KeptValue × ℕ) (ℕ × Stop JournalCause)) : Type 0 where
  pub most : ℕ
  pub enough : length text < after + most
  pub rest : read (records most kept) text after ≡ all

-- ---- a gate

by-not : (t : Bool) → true ≡ not t → t ≡ false
by-not true is = absurd (cc)
by-not false is = refl

by-not-not : (t : Bool) → false ≡ not t → t ≡ true
by-not-not true is = refl
by-not-not false is = absurd (cc)

pub is-shut : (gate : ℕ) → true ≡ not (gate == 1) → (gate == 1) ≡ false
is-shut gate is = by-not (gate == 1) is

pub is-open : (gate : ℕ) → false ≡ not (gate == 1) → gate ≡ 1
is-open gate is = eqb-true gate 1 (by-not-not (gate == 1) is)

-- ---- what the loop keeps

abbrev found : {A E : Type 0} → A → ℕ → Result (A × ℕ) E
found a k = Ok (a, k)

module _ (text : List ℕ) where
  -- what stands after a gate
  behind : ℕ → KeptValue → ℕ × ℕ → Result (KeptValue × ℕ) (ℕ × Stop JournalCause)
  behind n kept x = read (choice (x.0 == 1) (entry kept >>= (λ said. records n (kept_with kept said))) (give kept)) text x.1

  inside : (n : ℕ) (kept : KeptValue) (at : ℕ) → read (records (suc n) kept) text at ≡ go_on (read (any_octet causes.Kind) text at) (behind n kept)
  unfolding records behind
  inside n kept at = refl

  -- one record more was read
  next : (n : ℕ) (kept : KeptValue) (said : RecordValue) (after at to : ℕ) (all : Result (KeptValue × ℕ) (ℕ × Stop JournalCause))
      → read (any_octet causes.Kind) text after ≡ found 1 at → read (entry kept) text at ≡ found said to
      → read (records (suc n) kept) text after ≡ all → read (records n (kept_with kept said)) text to ≡ all
  unfolding behind
  next n kept said after at to all gate is rest =
      sym (inside n kept after ∙ ap (λ r. go_on r (behind n kept)) gate
      ∙ ap (λ r. go_on r (λ x. read (records n (kept_with kept x.0)) text x.1)) is) ∙ rest

  closed : (n : ℕ) (kept : KeptValue) (gate after at : ℕ) (all : Result (KeptValue × ℕ) (ℕ × Stop JournalCause))
      → read (any_octet causes.Kind) text after ≡ found gate at → (gate == 1) ≡ false
      → read (records (suc n) kept) text after ≡ all → all ≡ found kept at
  unfolding behind
  closed n kept gate after at all is shut rest =
      sym rest ∙ inside n kept after ∙ ap (λ r. go_on r (behind n kept)) is
      ∙ ap (λ b. read (choice b (entry kept >>= (λ said. records n (kept_with kept said))) (give kept)) text at) shut

  gate-fails : (n : ℕ) (kept : KeptValue) (after : ℕ) (o : Option (ℕ × Stop JournalCause)) (all : Result (KeptValue × ℕ) (ℕ × Stop JournalCause))
      → Fails o (read (any_octet causes.Kind) text after) → read (records (suc n) kept) text after ≡ all → Fails o all
  gate-fails n kept after o all fails rest =
      fails-on o (read (any_octet causes.Kind) text after) all
      (λ e is. sym rest ∙ inside n kept after ∙ ap (λ r. go_on r (behind n kept)) is) fails

  entry-fails : (n : ℕ) (kept : KeptValue) (after at : ℕ) (o : Option (ℕ × Stop JournalCause)) (all : Result (KeptValue × ℕ) (ℕ × Stop JournalCause))
      → read (any_octet causes.Kind) text after ≡ found 1 at → Fails o (read (entry kept) text at)
      → read (records (suc n) kept) text after ≡ all → Fails o all
  unfolding behind
  entry-fails n kept after at o all gate fails rest =
      fails-on o (read (entry kept) text at) all
      (λ e is. sym rest ∙ inside n kept after ∙ ap (λ r. go_on r (behind n kept)) gate
      ∙ ap (λ r. go_on r (λ x. read (records n (kept_with kept x.0)) text x.1)) is) fails

  octet-none : (at : ℕ) → length text ≤ at → read (any_octet causes.Kind) text at ≡ Err (at, truncated)
  octet-none at past = ap (λ (w : List ℕ). named at causes.Kind (ahead at (look octet w))) (drop_all at text past)

  ends : (n : ℕ) (kept : KeptValue) (after : ℕ) (all : Result (KeptValue × ℕ) (ℕ × Stop JournalCause)) → length text ≤ after
      → read (records (suc n) kept) text after ≡ all → all ≡ Err (after, truncated)
  ends n kept after all past rest =
      sym rest ∙ inside n kept after ∙ ap (λ r. go_on r (behind n kept)) (octet-none after past)

  -- ---- the same of what the loop keeps

  pub so_far-start : (at : ℕ) (kept : KeptValue) → 0 < at → kept ≡ nothing_kept
      → SoFar text at kept (read (records (length text) nothing_kept) text at)
  so_far-start at kept behind is = record {
    most = length text;
    enough = omega (arith, behind);
    rest = ap (λ (k : KeptValue). read (records (length text) k) text at) is;
  }

  pub so_far-next : (kept : KeptValue) (said : RecordValue) (after at to : ℕ) (all : Result (KeptValue × ℕ) (ℕ × Stop JournalCause))
      → after ≤ length text → after < to
      → read (any_octet causes.Kind) text after ≡ found 1 at → read (entry kept) text at ≡ found said to
      → SoFar text after kept all → SoFar text to (kept_with kept said) all
  so_far-next kept said after at to all within on gate is so_far = by so_far.most so_far.enough so_far.rest
    where
      by : (most : ℕ) → length text < after + most → read (records most kept) text after ≡ all → SoFar text to (kept_with kept said) all
      by zero enough rest = absurd (omega arith)
      by (suc n) enough rest = record { most = n; enough = omega (arith, enough, on); rest = next n kept said after at to all gate is rest }

  pub so_far-closed : (kept : KeptValue) (gate after at : ℕ) (all : Result (KeptValue × ℕ) (ℕ × Stop JournalCause))
      → after ≤ length text → read (any_octet causes.Kind) text after ≡ found gate at → (gate == 1) ≡ false
      → SoFar text after kept all → all ≡ found kept at
  so_far-closed kept gate after at all within is shut so_far = by so_far.most so_far.enough so_far.rest
    where
      by : (most : ℕ) → length text < after + most → read (records most kept) text after ≡ all → all ≡ found kept at
      by zero enough rest = absurd (omega arith)
      by (suc n) enough rest = closed n kept gate after at all is shut rest

  pub so_far-gate : (kept : KeptValue) (after : ℕ) (o : Option (ℕ × Stop JournalCause)) (all : Result (KeptValue × ℕ) (ℕ × Stop JournalCause))
      → after ≤ length text → Fails o (read (any_octet causes.Kind) text after) → SoFar text after kept all → Fails o all
  so_far-gate kept after o all within fails so_far = by so_far.most so_far.enough so_far.rest
    where
      by : (most : ℕ) → length text < after + most → read (records most kept) text after ≡ all → Fails o all
      by zero enough rest = absurd (omega arith)
      by (suc n) enough rest = gate-fails n kept after o all fails rest

  pub so_far-entry : (kept : KeptValue) (after at : ℕ) (o : Option (ℕ × Stop JournalCause)) (all : Result (KeptValue × ℕ) (ℕ × Stop JournalCause))
      → after ≤ length text → read (any_octet causes.Kind) text after ≡ found 1 at → Fails o (read (entry kept) text at)
      → SoFar text after kept all → Fails o all
  so_far-entry kept after at o all within gate fails so_far = by so_far.most so_far.enough so_far.rest
    where
      by : (most : ℕ) → length text < after + most → read (records most kept) text after ≡ all → Fails o all
      by zero enough rest = absurd (omega arith)
      by (suc n) enough rest = entry-fails n kept after at o all gate fails rest

  pub so_far-ends : (kept : KeptValue) (after : ℕ) (all : Result (KeptValue × ℕ) (ℕ × Stop JournalCause))
      → after ≤ length text → length text ≤ after → SoFar text after kept all → all ≡ Err (after, truncated)
  so_far-ends kept after all within past so_far = by so_far.most so_far.enough so_far.rest
    where
      by : (most : ℕ) → length text < after + most → read (records most kept) text after ≡ all → all ≡ Err (after, truncated)
      by zero enough rest = absurd (omega arith)
      by (suc n) enough rest = ends n kept after all past rest
