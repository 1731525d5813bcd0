-- The words of a line, cut at its first space.

use Rattle.std.proofs.Common.{ap, ◌∙◌, ◌≡◌, ℕ, ◌+◌, Bool, true, false, List, [], ◌∷◌, ◌++◌, length, take, drop, ltb, Option, None, Some, refl, arith}
use Rattle.std.proofs.lemmas.Bool.{ltb-true, ltb-false}
use Rattle.std.proofs.lemmas.List.{append-nil}
use Rattle.std.proofs.lemmas.List.Elements.{All-head, All-tail}
use Rattle.std.proofs.lemmas.List.Splits.{slice_split_first, slice_split_none, slice_split_at, join_with_byte-slice_split}
use Rattle.std.proofs.lemmas.List.Sums.{fails_before_first}
use Rattle.std.specs.List.{position, position_or_len}
use Rattle.std.specs.List.{join_with_byte}
use Rattle.replay_script.specs.Laws.{HasNoSpace, LinesAreSpacedWords, SpacedWordsAreRead}
use Rattle.replay_script.specs.Words.{is_space, words_of, spaced}

pub words-some : (text : List ℕ) (at : ℕ) → position is_space text ≡ Some at → words_of text ≡ take at text ∷ words_of (drop (at + 1) text)
unfolding words_of
words-some text at is = by (ltb (position_or_len is_space text) (length text)) refl
  where
    by : (b : Bool) → ltb (position_or_len is_space text) (length text) ≡ b → words_of text ≡ take at text ∷ words_of (drop (at + 1) text)
    by true inside =
        let found : position is_space text ≡ Some (position_or_len is_space text) = rw inside refl in
        let same : position_or_len is_space text ≡ at = cc in
        rw same at (slice_split_first is_space text 0 (ltb-true _ _ inside))
    by false past = let found : position is_space text ≡ None = rw past refl in cc

pub words-none : (text : List ℕ) → position is_space text ≡ None → words_of text ≡ text ∷ []
unfolding words_of
words-none text is = by (ltb (position_or_len is_space text) (length text)) refl
  where
    by : (b : Bool) → ltb (position_or_len is_space text) (length text) ≡ b → words_of text ≡ text ∷ []
    by true inside = let found : position is_space text ≡ Some (position_or_len is_space text) = rw inside refl in cc
    by false past =
        let all = ltb-false (position_or_len is_space text) (length text) past in
        slice_split_none is_space text (λ k d low. fails_before_first is_space text k d (omega (arith, all, low)))

-- there is always a first word
pub record HasFirst (words : List (List ℕ)) : Type 0 where
  pub first : List ℕ
  pub rest : List (List ℕ)
  pub is : words ≡ first ∷ rest

pub words-any : (text : List ℕ) → HasFirst (words_of text)
words-any text = by_space (position is_space text) refl
  where
    by_space : (o : Option ℕ) → position is_space text ≡ o → HasFirst (words_of text)
    by_space None is = record { first = text; rest = []; is = words-none text is }
    by_space (Some at) is =
        record { first = take at text; rest = words_of (drop (at + 1) text); is = words-some text at is }

-- ---- the laws

spaced-joined : (words : List (List ℕ)) → spaced words ≡ join_with_byte 32 words
spaced-joined [] = refl
spaced-joined (word ∷ []) = append-nil word
spaced-joined (word ∷ next ∷ words) = ap (λ rest. word ++ (32 ∷ rest)) (spaced-joined (next ∷ words))

pub lines_are_spaced_words : LinesAreSpacedWords
unfolding words_of
lines_are_spaced_words line = spaced-joined (words_of line) ∙ join_with_byte-slice_split 32 line

pub spaced_words_are_read : SpacedWordsAreRead
unfolding words_of
spaced_words_are_read word [] all =
    ap words_of (append-nil word) ∙ slice_split_none is_space word (All-head HasNoSpace word [] all)
spaced_words_are_read word (next ∷ words) all =
    slice_split_at is_space word 32 (spaced (next ∷ words)) (All-head HasNoSpace word (next ∷ words) all) refl
    ∙ ap (λ rest. word ∷ rest) (spaced_words_are_read next words (All-tail HasNoSpace word (next ∷ words) all))
