-- What `cut` says of a record, and of the bundle that reads as it.
use Rattle.std.proofs.Common.{◌≡◌, ℕ, Bool, true, false, ◌&&◌, if◌then◌else◌, List, Result, Ok, Err, refl, ap}
use Rattle.bundle6.specs.declared.bundle.Bundle6.{Bundle6}
use Rattle.bundle7.specs.declared.bundle.Bundle7.{Bundle7}
use Rattle.bundle_meaning.specs.declared.full.Full.{Full}
use Rattle.translate.specs.declared.refused.Refused.{Refused}
use Rattle.translate.specs.Refusals.{first_that_holds}
use Rattle.translate.specs.Reading6.{refusals6, full6_of}
use Rattle.translate.specs.Reading7.{refusals7, full7_of}
use Rattle.fragments.specs.declared.fault.CutRefused.TheVariants as cuts
use Rattle.fragments.specs.Cutting.{is_longer, must_not, pieces}
use Rattle.fragments.specs.Word.{cut_word}
use Rattle.fragment_lines.specs.declared.turned_down.TurnedDown.{TurnedDown}
use Rattle.fragment_lines.specs.declared.turned_down.TurnedDown.TheVariants as causes
use Rattle.fragment_lines.specs.Said.{says, refuses}
use Rattle.fragment_lines.specs.Lines.{octets_old, octets_new, Owes}
use Rattle.fragment_lines.specs.Cut.{cut6, cut7, cut_as, lines_of}
use Rattle.fragment_lines.specs.Writable.{Reads}
use Rattle.fragment_lines.proofs.ReadLemmas.{owed-read, owed-unread}

-- ---- the record

pub cut-owed : (octets : Full → List ℕ) (size : ℕ) (full : Full) (due : List ℕ)
    → ((is_longer full size && must_not full.shared) ≡ true → ⊥) → due ≡ lines_of octets (pieces full size)
    → Owes (cut_as octets size full) tt (Ok due)
cut-owed octets size full due may is = rw is (by (is_longer full size && must_not full.shared) may)
  where
    by : (t : Bool) → (t ≡ true → ⊥)
        → (if t then refuses (cut_word cuts.MustNot) else says (lines_of octets (pieces full size)) (tt {0})) ≡ says (lines_of octets (pieces full size)) (tt {0})
    by true may = absurd (may refl)
    by false may = refl

pub cut-refused : (octets : Full → List ℕ) (size : ℕ) (full : Full)
    → (is_longer full size && must_not full.shared) ≡ true → Owes (cut_as octets size full) tt (Err causes.MustNot)
cut-refused octets size full is =
    ap (λ (t : Bool). if t then refuses (cut_word cuts.MustNot) else says (lines_of octets (pieces full size)) (tt {0})) is

-- ---- the bundle

pub cut-read6 : (size : ℕ) (b : Bundle6) (full : Full) (owed : Result (List ℕ) TurnedDown)
    → Reads (first_that_holds (refusals6 b)) (full6_of b) (Ok full) → Owes (cut_as octets_old size full) tt owed
    → Owes (cut6 size b) tt owed
unfolding cut6
cut-read6 size b full owed (none, is) owes =
    owed-read (first_that_holds (refusals6 b)) (cut_as octets_old size) full (full6_of b) tt owed none is owes

pub cut-read7 : (size : ℕ) (b : Bundle7) (full : Full) (owed : Result (List ℕ) TurnedDown)
    → Reads (first_that_holds (refusals7 b)) (full7_of b) (Ok full) → Owes (cut_as octets_new size full) tt owed
    → Owes (cut7 size b) tt owed
unfolding cut7
cut-read7 size b full owed (none, is) owes =
    owed-read (first_that_holds (refusals7 b)) (cut_as octets_new size) full (full7_of b) tt owed none is owes

pub cut-unread6 : (size : ℕ) (b : Bundle6) (cause : Refused) → Reads (first_that_holds (refusals6 b)) (full6_of b) (Err cause)
    → Owes (cut6 size b) tt (Err (causes.Untranslated cause))
unfolding cut6
cut-unread6 size b cause is = owed-unread (first_that_holds (refusals6 b)) (cut_as octets_old size (full6_of b)) tt cause is

pub cut-unread7 : (size : ℕ) (b : Bundle7) (cause : Refused) → Reads (first_that_holds (refusals7 b)) (full7_of b) (Err cause)
    → Owes (cut7 size b) tt (Err (causes.Untranslated cause))
unfolding cut7
cut-unread7 size b cause is = owed-unread (first_that_holds (refusals7 b)) (cut_as octets_new size (full7_of b)) tt cause is
