-- The two words of a line.

use Rattle.std.proofs.Common.{◌≡◌, ℕ, ◌+◌, true, false, List, ◌∷◌, take, drop, Option, None, Some, is_some, refl, sym, ap, ◌∙◌}
use Rattle.std.specs.List.{position}
use Rattle.replay_script.specs.Words.{is_space, words_of}
use Rattle.replay_script.proofs.WordLemmas.{words-some, words-none}
use Rattle.audit_run.specs.EntryLine.{two_words}

-- there are words in any text
three : (first second rest : List ℕ) → two_words (first ∷ second ∷ words_of rest) ≡ None
three first second rest = by (position is_space rest) refl where
  by : (p : Option ℕ) → position is_space rest ≡ p → two_words (first ∷ second ∷ words_of rest) ≡ None
  by None is = rw (words-none rest is) refl
  by (Some at) is = rw (words-some rest at is) refl

pub two-none : (line : List ℕ) → position is_space line ≡ None → None ≡ two_words (words_of line)
two-none line none = rw (words-none line none) refl

pub two-more : (line rest : List ℕ) (at : ℕ) → position is_space line ≡ Some at → rest ≡ drop (at + 1) line
    → is_some (position is_space rest) ≡ true → None ≡ two_words (words_of line)
two-more line rest at is rest_is more = by (position is_space rest) refl more where
  by : (p : Option ℕ) → position is_space rest ≡ p → is_some p ≡ true → None ≡ two_words (words_of line)
  by None none some = absurd (cc)
  by (Some next) found some =
      sym (ap two_words (words-some line at is ∙ (ap (λ r. take at line ∷ words_of r) (sym rest_is)
      ∙ ap (λ w. take at line ∷ w) (words-some rest next found))) ∙ three (take at line) (take next rest) (drop (next + 1) rest))

pub two-some : (line first rest : List ℕ) (at : ℕ) → position is_space line ≡ Some at → first ≡ take at line → rest ≡ drop (at + 1) line
    → is_some (position is_space rest) ≡ false → Some (first, rest) ≡ two_words (words_of line)
two-some line first rest at is first_is rest_is last = by (position is_space rest) refl last where
  by : (p : Option ℕ) → position is_space rest ≡ p → is_some p ≡ false → Some (first, rest) ≡ two_words (words_of line)
  by None none some =
      ap (λ f. Some (f, rest)) first_is
      ∙ sym (ap two_words (words-some line at is ∙ (ap (λ r. take at line ∷ words_of r) (sym rest_is)
      ∙ ap (λ w. take at line ∷ w) (words-none rest none))))
  by (Some next) found some = absurd (cc)
