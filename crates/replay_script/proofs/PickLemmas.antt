-- Picks, word by word.

use Rattle.std.proofs.Common.{◌≡◌, ℕ, true, false, List, [], ◌∷◌, ◌++◌, Option, None, Some, is_some, refl, sym, ◌∙◌, ap, subst, append_assoc}
use Rattle.std.proofs.lemmas.List.{append-nil}
use Rattle.replay_script.specs.declared.picks.PickWord.{PickWord}
use Rattle.replay_script.specs.LinkEvents.{link_drain_line, pick_of, picks_line, picks_of}
use Rattle.replay_script.specs.Words.{words_of}
use Rattle.replay_script.proofs.WordLemmas.{words-any}

-- ---- a line

-- a text always has a first word
pub drains-by : (text : List ℕ) (words : List (List ℕ)) → words_of text ≡ words → picks_line (words_of text) ≡ link_drain_line words
drains-by text words same =
    let any = words-any text in
    ap picks_line same ∙ subst (λ ws. picks_line ws ≡ link_drain_line ws) (sym any.is ∙ same) refl

-- ---- each of them is a pick

pub picks-some : (word : List ℕ) (words : List (List ℕ)) → is_some (pick_of word) ≡ true
    → is_some (picks_of words) ≡ is_some (picks_of (word ∷ words))
unfolding picks_of
picks-some word words some = by_pick (pick_of word) refl (picks_of words) refl
  where
    by_pick : (pick : Option PickWord) → pick_of word ≡ pick → (rest : Option (List PickWord)) → picks_of words ≡ rest
        → is_some (picks_of words) ≡ is_some (picks_of (word ∷ words))
    by_pick None is rest those = absurd (let none : is_some (pick_of word) ≡ false = rw is refl in cc)
    by_pick (Some pick) is None those = rw (is, those) refl
    by_pick (Some pick) is (Some picks) those = rw (is, those) refl

pub picks-none : (word : List ℕ) (words : List (List ℕ)) → is_some (pick_of word) ≡ false
    → is_some (picks_of (word ∷ words)) ≡ false
unfolding picks_of
picks-none word words none = by_pick (pick_of word) refl
  where
    by_pick : (pick : Option PickWord) → pick_of word ≡ pick → is_some (picks_of (word ∷ words)) ≡ false
    by_pick None is = rw is refl
    by_pick (Some pick) is = absurd (let some : is_some (pick_of word) ≡ true = rw is refl in cc)

-- ---- the picks, one more at a time

-- these picks, and those after them
abbrev pub picks_after : List PickWord → Option (List PickWord) → Option (List PickWord)
picks_after before None = None
picks_after before (Some picks) = Some (before ++ picks)

pub picks-start : (words : List (List ℕ)) → picks_after [] (picks_of words) ≡ picks_of words
picks-start words = by_rest (picks_of words)
  where
    by_rest : (rest : Option (List PickWord)) → picks_after [] rest ≡ rest
    by_rest None = refl
    by_rest (Some picks) = refl

pub picks-more : (before : List PickWord) (word : List ℕ) (words : List (List ℕ)) (pick : PickWord)
    → pick_of word ≡ Some pick
    → picks_after (before ++ pick ∷ []) (picks_of words) ≡ picks_after before (picks_of (word ∷ words))
unfolding picks_of
picks-more before word words pick is = by_rest (picks_of words) refl
  where
    by_rest : (rest : Option (List PickWord)) → picks_of words ≡ rest
        → picks_after (before ++ pick ∷ []) (picks_of words) ≡ picks_after before (picks_of (word ∷ words))
    by_rest None those = rw (is, those) refl
    by_rest (Some picks) those = rw (is, those) (ap Some (append_assoc before (pick ∷ []) picks))

pub picks-end : (before : List PickWord) (words : List (List ℕ)) → words ≡ [] → picks_after before (picks_of words) ≡ Some before
unfolding picks_of
picks-end before words none = rw none (ap Some (append-nil before))
