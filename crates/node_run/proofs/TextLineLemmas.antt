-- The lines of a text that begin so, where it ends with a line feed.
use Rattle.std.proofs.Common.{◌≡◌, ℕ, ◌<◌, true, false, List, [], ◌∷◌, ◌++◌, length, codes, Result, Ok, Err, OnErr, refl, sym, ap, ◌∙◌, append_assoc, arith}
use Rattle.std.proofs.lemmas.List.{append-nil, length-append}
use Rattle.std.proofs.lemmas.List.Concat.{flat_map-cons}
use Rattle.std.specs.List.{flat_map}
use Rattle.command_frame.specs.InputLines.{lines_of}
use Rattle.command_frame.proofs.InputLinesLemmas.{lines-line}
use Rattle.endpoint.specs.Endpoints.{begins}
use Rattle.replay_script.specs.Words.{spaced}
use Rattle.replay_script.specs.NoteLines.{line_of}
use Rattle.node_run.specs.TextLines.{lines_with}
use Rattle.node_run.proofs.PlainLemmas.{PlainWords, plain-spaced}

-- the lines of a text that begin so are these, whatever follows it
abbrev pub Has : List ℕ → List ℕ → List (List ℕ) → Type 0
Has front text lines =
    (rest : List ℕ) → lines_with front (lines_of (text ++ rest)) ≡ lines ++ lines_with front (lines_of rest)

pub has-none : (front : List ℕ) → Has front [] []
has-none front = λ rest. refl

pub has-both : (front first more : List ℕ) (lines others : List (List ℕ)) → Has front first lines → Has front more others
    → Has front (first ++ more) (lines ++ others)
has-both front first more lines others has have = λ rest.
    ap (λ (t : List ℕ). lines_with front (lines_of t)) (append_assoc first more rest)
    ∙ (has (more ++ rest) ∙ (ap (λ ls. lines ++ ls) (have rest) ∙ sym (append_assoc lines others (lines_with front (lines_of rest)))))

-- what a text tells, wherever it stands alone
pub alone : (front text : List ℕ) (lines : List (List ℕ)) → Has front text lines → lines_with front (lines_of text) ≡ lines
unfolding lines_of lines_with
alone front text lines has =
    ap (λ (t : List ℕ). lines_with front (lines_of t)) (sym (append-nil text)) ∙ (has [] ∙ append-nil lines)

line-lines : (words : List (List ℕ)) (rest : List ℕ) → PlainWords words → lines_of (line_of words ++ rest) ≡ spaced words ∷ lines_of rest
line-lines words rest plain =
    ap lines_of (append_assoc (spaced words) (codes "\n") rest) ∙ lines-line (spaced words) rest (plain-spaced words plain)

module _ (front : List ℕ) (words : List (List ℕ)) (plain : PlainWords words) where
  pub has-other : begins front (spaced words) ≡ false → Has front (line_of words) []
  unfolding lines_with
  has-other other = λ rest. ap (lines_with front) (line-lines words rest plain) ∙ rw other refl

  pub has-one : begins front (spaced words) ≡ true → Has front (line_of words) (spaced words ∷ [])
  unfolding lines_with
  has-one is = λ rest. ap (lines_with front) (line-lines words rest plain) ∙ rw is refl

-- ---- there is something to write

pub some-before : (xs ys : List ℕ) → 0 < length xs → 0 < length (xs ++ ys)
some-before xs ys some = omega (arith, length-append xs ys, some)

pub some-after : (xs ys : List ℕ) → 0 < length ys → 0 < length (xs ++ ys)
some-after xs ys some = omega (arith, length-append xs ys, some)

pub line-some : (words : List (List ℕ)) → 0 < length (line_of words)
line-some words = some-after (spaced words) (codes "\n") (omega arith)

-- where there is a thing for which a line is written
pub lines-some : {X : Type 0} (line : X → List ℕ) → ((x : X) → 0 < length (line x)) → (xs : List X) → 0 < length xs
    → 0 < length (flat_map line xs)
lines-some line some [] none = absurd (omega arith)
lines-some line some (x ∷ xs) more = rw (flat_map-cons line x xs) (some-before (line x) (flat_map line xs) (some x))

-- a call that failed where there was such a thing
pub wanted : {X T E : Type 0} (line : X → List ℕ) → ((x : X) → 0 < length (line x)) → (xs : List X) → 0 < length xs → (result : Result T E)
    → OnErr result (0 < length (flat_map line xs))
wanted line some xs more (Ok x) = tt
wanted line some xs more (Err e) = lines-some line some xs more
