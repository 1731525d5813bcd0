-- What is recovered from a legal journal.
use Rattle.std.proofs.Common.{◌≡◌, ℕ, ◌^◌, ◌<◌, ◌≤◌, Bool, true, false, nat_lt, if◌then◌else◌, List, [], ◌∷◌, length, refl, arith}
use Rattle.std.proofs.lemmas.Bool.{ltb-false}
use Rattle.std.specs.List.{filter}
use Rattle.gate_cases.specs.declared.face.Face.{Face}
use Rattle.journal_file.specs.declared.kept.Mark.{Mark}
use Rattle.journal_file.specs.Values.{KeptValue}
use Rattle.journal_file.specs.Keeping.{is_of, marks_of, greater, MARKS_MAX}
use Rattle.journal_file.specs.Legal.{NoneAbout, AreApart, AreSmall, AreFit, IsLegal}
use Rattle.journal_file.proofs.SoundLemmas.{legal-sound}
use Rattle.gate_records.specs.Keeping.{reserve_to, is_young, first_of, recovered}
use Rattle.gate_records.specs.Laws.{Recovers}

-- ---- some of the marks

module _ (test : Mark → Bool) where
  none-some : (f : Face) (s : ℕ) (ms : List Mark) → NoneAbout f s ms → NoneAbout f s (filter test ms)
  none-some f s [] none = tt
  none-some f s (m ∷ ms) (first, rest) = by (test m) (none-some f s ms rest)
    where
      by : (t : Bool) → NoneAbout f s (filter test ms) → NoneAbout f s (if t then m ∷ filter test ms else filter test ms)
      by true others = (first, others)
      by false others = others

  apart-some : (ms : List Mark) → AreApart ms → AreApart (filter test ms)
  apart-some [] apart = tt
  apart-some (m ∷ ms) (first, rest) = by (test m) (apart-some ms rest)
    where
      by : (t : Bool) → AreApart (filter test ms) → AreApart (if t then m ∷ filter test ms else filter test ms)
      by true others = (none-some m.face m.session ms first, others)
      by false others = others

  small-some : (ms : List Mark) → AreSmall ms → AreSmall (filter test ms)
  small-some [] small = tt
  small-some (m ∷ ms) (session, moment, rest) = by (test m) (small-some ms rest)
    where
      by : (t : Bool) → AreSmall (filter test ms) → AreSmall (if t then m ∷ filter test ms else filter test ms)
      by true others = (session, moment, others)
      by false others = others

  few-some : (f : Face) (ms : List Mark) → marks_of f (filter test ms) ≤ marks_of f ms
  few-some f [] = omega arith
  few-some f (m ∷ ms) = by (test m) (is_of f m) refl (few-some f ms)
    where
      by : (t u : Bool) → is_of f m ≡ u → marks_of f (filter test ms) ≤ marks_of f ms
          → marks_of f (if t then m ∷ filter test ms else filter test ms) ≤ length (if u then m ∷ filter (is_of f) ms else filter (is_of f) ms)
      by true true is rest = rw is (omega (arith, rest))
      by true false is rest = rw is rest
      by false true is rest = omega (arith, rest)
      by false false is rest = rest

  fit-some : (most : ℕ) (ms : List Mark) → AreFit most ms → AreFit most (filter test ms)
  fit-some most ms fit = record {
    small = small-some ms fit.small;
    apart = apart-some ms fit.apart;
    few = λ f. omega (arith, fit.few f, few-some f ms);
  }

-- ---- what is recovered

greater-first : (a b : ℕ) → b ≤ greater a b
greater-first a b = by (nat_lt a b) refl
  where
    by : (t : Bool) → nat_lt a b ≡ t → b ≤ (if t then b else a)
    by true low = omega arith
    by false high = ltb-false a b high

reserve-small : (next : ℕ) → reserve_to next < 2 ^ 64
reserve-small next = omega arith

legal-recovered : (wall old_first new_first : ℕ) (kept : KeptValue) → IsLegal kept → IsLegal (recovered wall old_first new_first kept)
legal-recovered wall old_first new_first kept legal = record {
  pending = legal.pending;
  up_to = legal.up_to;
  greatest = legal.greatest;
  marks = fit-some (is_young wall) MARKS_MAX kept.marks legal.marks;
  old_reserved = reserve-small (first_of old_first kept.old_reserved);
  new_reserved = reserve-small (first_of new_first kept.new_reserved);
}

pub recovers-what-is-legal : (wall old_first new_first : ℕ) (kept : KeptValue) → IsLegal kept → Recovers wall old_first new_first kept
recovers-what-is-legal wall old_first new_first kept legal =
    let after = legal-recovered wall old_first new_first kept legal in record {
      legal = after;
      sound = legal-sound (recovered wall old_first new_first kept) after;
      pending = refl;
      old = greater-first old_first kept.old_reserved;
      new = greater-first new_first kept.new_reserved;
      keeping = record { legal = after; pending = tt; own_ids = tt };
    }
