-- The lines of octets that come in pieces.
use Rattle.std.proofs.Common.{◌≡◌, ℕ, zero, suc, ◌+◌, ◌<◌, ◌≤◌, Bool, true, false, List, [], ◌∷◌, ◌++◌, length, take, drop, get_or, refl, sym, ◌∙◌, ap, arith, append_assoc, if◌then◌else◌, length-append, inl, inr, ◌⊎◌, eqb-true}
use Rattle.std.proofs.Math.Seq.{drop-append-add}
use Rattle.command_frame.specs.InputLines.{is_line_feed, before_first_line, lines_of, before_ended, ended_part, open_part}

-- ---- by the places of line feeds

is_false : (b : Bool) → (b ≡ true → ⊥) → b ≡ false
is_false true denied = absurd (denied refl)
is_false false denied = refl

-- the octets from a place on have no line feed
NoFeed : ℕ → List ℕ → Type 0
NoFeed low text = (k : ℕ) → low ≤ k → k < length text → is_line_feed (get_or text k 0) ≡ true → ⊥

pub ended_part-none : (text : List ℕ)
    → ((k : ℕ) → k < length text → is_line_feed (get_or text k 0) ≡ true → ⊥) → ended_part text ≡ []
unfolding ended_part
ended_part-none [] none = refl
ended_part-none (octet ∷ text) none =
    let plain : is_line_feed octet ≡ false = is_false (is_line_feed octet) (none zero (omega arith)) in
    let rest = ended_part-none text (λ k low. none (suc k) (omega arith)) in
    rw (rest, plain) refl

-- octets before a line feed, and those after it
pub cut-parts : (text : List ℕ) (at : ℕ) → at < length text → is_line_feed (get_or text at 0) ≡ true
    → text ≡ take at text ++ 10 ∷ drop (suc at) text
cut-parts [] at inside here = absurd (omega arith)
cut-parts (octet ∷ text) zero inside here = ap (λ (x : ℕ). x ∷ text) (eqb-true octet 10 here)
cut-parts (octet ∷ text) (suc at) inside here = ap (λ (v : List ℕ). octet ∷ v) (cut-parts text at (omega arith) here)

pub cut-plain : (text : List ℕ) (at : ℕ) → at < length text
    → ((k : ℕ) → k < at → is_line_feed (get_or text k 0) ≡ true → ⊥) → ended_part (take at text) ≡ []
unfolding ended_part
cut-plain text zero inside before = refl
cut-plain [] (suc at) inside before = refl
cut-plain (octet ∷ text) (suc at) inside before =
    let plain : is_line_feed octet ≡ false = is_false (is_line_feed octet) (before zero (omega arith)) in
    let rest = cut-plain text at (omega arith) (λ k low. before (suc k) (omega arith)) in
    rw (rest, plain) refl

-- ---- lines

before_more : (octet : ℕ) (lines more : List (List ℕ)) → (lines ≡ [] → ⊥) → before_first_line octet (lines ++ more) ≡ before_first_line octet lines ++ more
before_more octet [] more some = absurd (some refl)
before_more octet (line ∷ lines) more some = refl

before-some : (octet : ℕ) (lines : List (List ℕ)) → before_first_line octet lines ≡ [] → ⊥
before-some octet [] is = cc
before-some octet (line ∷ lines) is = cc

lines-some : (octet : ℕ) (text : List ℕ) → lines_of (octet ∷ text) ≡ [] → ⊥
unfolding lines_of
lines-some octet text is = by_test (is_line_feed octet) is
  where
    by_test : (t : Bool) → (if t then [] ∷ lines_of text else before_first_line octet (lines_of text)) ≡ [] → ⊥
    by_test true is = cc
    by_test false is = before-some octet (lines_of text) is

-- lines that have ended, and then any octets
pub lines-after : (text more : List ℕ) → lines_of (ended_part text ++ more) ≡ lines_of (ended_part text) ++ lines_of more
unfolding ended_part lines_of
lines-after [] more = refl
lines-after (octet ∷ text) more = by_front (ended_part text) (lines-after text more)
  where
    by_front : (ended : List ℕ) → lines_of (ended ++ more) ≡ lines_of ended ++ lines_of more
        → lines_of (before_ended octet ended ++ more) ≡ lines_of (before_ended octet ended) ++ lines_of more
    by_front [] rest = by_test (is_line_feed octet) refl
      where
        by_test : (t : Bool) → is_line_feed octet ≡ t
            → lines_of ((if t then octet ∷ [] else []) ++ more) ≡ lines_of (if t then octet ∷ [] else []) ++ lines_of more
        by_test true feed = rw feed refl
        by_test false feed = refl
    by_front (first ∷ ended) rest = by_test (is_line_feed octet)
      where
        by_test : (t : Bool)
            → (if t then [] ∷ lines_of (first ∷ ended ++ more) else before_first_line octet (lines_of (first ∷ ended ++ more)))
            ≡ (if t then [] ∷ lines_of (first ∷ ended) else before_first_line octet (lines_of (first ∷ ended))) ++ lines_of more
        by_test true = ap (λ (v : List (List ℕ)). [] ∷ v) rest
        by_test false =
            ap (before_first_line octet) rest
            ∙ before_more octet (lines_of (first ∷ ended)) (lines_of more) (lines-some first ended)

-- a text is the lines that have ended, and the open part
pub text-parts : (text : List ℕ) → text ≡ ended_part text ++ open_part text
unfolding ended_part
text-parts [] = refl
text-parts (octet ∷ text) = by_front (ended_part text) refl (text-parts text)
  where
    by_front : (ended : List ℕ) → ended_part text ≡ ended → text ≡ ended ++ drop (length ended) text
        → octet ∷ text ≡ before_ended octet ended ++ drop (length (before_ended octet ended)) (octet ∷ text)
    by_front [] is parts = by_test (is_line_feed octet)
      where
        by_test : (t : Bool) → octet ∷ text ≡ (if t then octet ∷ [] else []) ++ drop (length (if t then octet ∷ [] else [])) (octet ∷ text)
        by_test true = refl
        by_test false = refl
    by_front (first ∷ ended) is parts = ap (λ (v : List ℕ). octet ∷ v) parts

-- the open part has no line feed
pub open-none : (text : List ℕ) → ended_part (open_part text) ≡ []
unfolding ended_part
open-none [] = refl
open-none (octet ∷ text) = by_front (ended_part text) refl (open-none text)
  where
    by_front : (ended : List ℕ) → ended_part text ≡ ended → ended_part (drop (length ended) text) ≡ []
        → ended_part (drop (length (before_ended octet ended)) (octet ∷ text)) ≡ []
    by_front [] is none = by_test (is_line_feed octet) refl
      where
        by_test : (t : Bool) → is_line_feed octet ≡ t → ended_part (drop (length (if t then octet ∷ [] else [])) (octet ∷ text)) ≡ []
        by_test true feed = none
        by_test false feed = rw (none, feed) refl
    by_front (first ∷ ended) is none = none

pub ended-after : (text more : List ℕ) → ended_part (ended_part text ++ more) ≡ ended_part text ++ ended_part more
unfolding ended_part
ended-after [] more = refl
ended-after (octet ∷ text) more = by_front (ended_part text) (ended-after text more)
  where
    by_front : (ended : List ℕ) → ended_part (ended ++ more) ≡ ended ++ ended_part more
        → ended_part (before_ended octet ended ++ more) ≡ before_ended octet ended ++ ended_part more
    by_front [] rest = by_test (is_line_feed octet) refl
      where
        some_ended : (later : List ℕ) → is_line_feed octet ≡ true → before_ended octet later ≡ octet ∷ later
        some_ended [] feed = rw feed refl
        some_ended (first ∷ later) feed = refl

        by_test : (t : Bool) → is_line_feed octet ≡ t
            → ended_part ((if t then octet ∷ [] else []) ++ more) ≡ (if t then octet ∷ [] else []) ++ ended_part more
        by_test true feed = some_ended (ended_part more) feed
        by_test false feed = refl
    by_front (first ∷ ended) rest = ap (before_ended octet) rest

-- the first line after an open part has all of its octets
pub record Begins (begun : List ℕ) (lines : List (List ℕ)) : Type 0 where
  pub line : List ℕ
  pub later : List (List ℕ)
  pub lines_are : lines ≡ line ∷ later
  pub longer : length begun ≤ length line

pub plain-first : (octet : ℕ) (text : List ℕ) → ended_part (octet ∷ text) ≡ [] → (is_line_feed octet ≡ false) × (ended_part text ≡ [])
unfolding ended_part
plain-first octet text none = by_front (ended_part text) none
  where
    by_front : (ended : List ℕ) → before_ended octet ended ≡ [] → (is_line_feed octet ≡ false) × (ended ≡ [])
    by_front [] none = (by_test (is_line_feed octet) none, refl)
      where
        by_test : (t : Bool) → (let nothing : List ℕ = [] in if t then octet ∷ nothing else nothing) ≡ [] → t ≡ false
        by_test true none = absurd (cc)
        by_test false none = refl
    by_front (first ∷ ended) none = absurd (cc)

before-begins : (octet : ℕ) (begun : List ℕ) (lines : List (List ℕ)) → Begins begun lines → Begins (octet ∷ begun) (before_first_line octet lines)
before-begins octet begun lines begins = rw begins.lines_are (record {
  line = octet ∷ begins.line;
  later = begins.later;
  lines_are = refl;
  longer = omega (arith, begins.longer);
})

one-begins : (octet : ℕ) (lines : List (List ℕ)) → Begins (octet ∷ []) (before_first_line octet lines)
one-begins octet [] = record { line = octet ∷ []; later = []; lines_are = refl; longer = omega arith }
one-begins octet (line ∷ lines) = record { line = octet ∷ line; later = lines; lines_are = refl; longer = omega arith }

pub open-begins : (begun more : List ℕ) → 0 < length begun → ended_part begun ≡ [] → Begins begun (lines_of (begun ++ more))
unfolding lines_of
open-begins [] more some none = absurd (omega arith)
open-begins (octet ∷ []) more some none =
    let plain = plain-first octet [] none in
    rw plain.0 (one-begins octet (lines_of more))
open-begins (octet ∷ second ∷ begun) more some none =
    let plain = plain-first octet (second ∷ begun) none in
    rw plain.0 (before-begins octet (second ∷ begun) (lines_of (second ∷ begun ++ more)) (open-begins (second ∷ begun) more (omega arith) plain.1))

-- the lines that end after an open part without a line feed
pub ended-open : (begun more : List ℕ) → ended_part begun ≡ []
    → (ended_part (begun ++ more) ≡ []) ⊎ (ended_part (begun ++ more) ≡ begun ++ ended_part more)
unfolding ended_part
ended-open [] more none = inr refl
ended-open (octet ∷ begun) more none =
    let plain = plain-first octet begun none in
    by_rest (ended_part (begun ++ more)) plain.0 (ended-open begun more plain.1)
  where
    by_rest : (rest : List ℕ) → is_line_feed octet ≡ false → (rest ≡ []) ⊎ (rest ≡ begun ++ ended_part more)
        → (before_ended octet rest ≡ []) ⊎ (before_ended octet rest ≡ octet ∷ begun ++ ended_part more)
    by_rest [] plain is = inl (rw plain refl)
    by_rest (first ∷ rest) plain (inl is) = absurd (cc)
    by_rest (first ∷ rest) plain (inr is) = inr (ap (λ (v : List ℕ). octet ∷ v) is)

-- ---- octets without a line feed

pub plain-append : (a b : List ℕ) → ended_part a ≡ [] → ended_part b ≡ [] → ended_part (a ++ b) ≡ []
unfolding ended_part
plain-append [] b first second = second
plain-append (octet ∷ a) b first second =
    let plain = plain-first octet a first in
    rw (plain-append a b plain.1 second, plain.0) refl

line-open : (octet : ℕ) (a : List ℕ) → ended_part (octet ∷ a) ≡ [] → lines_of (octet ∷ a) ≡ (octet ∷ a) ∷ []
unfolding lines_of
line-open octet [] plain = rw (plain-first octet [] plain).0 refl
line-open octet (second ∷ a) plain =
    let parts = plain-first octet (second ∷ a) plain in
    rw (parts.0, line-open second a parts.1) refl

pub open-some : (a : List ℕ) → 0 < length a → ended_part a ≡ [] → lines_of a ≡ a ∷ []
open-some [] some plain = absurd (omega arith)
open-some (octet ∷ a) some plain = line-open octet a plain

pub no-lines : (a : List ℕ) → length a ≡ 0 → lines_of a ≡ []
unfolding lines_of
no-lines [] none = refl
no-lines (octet ∷ a) none = absurd (omega arith)

-- ---- a line that ends

pub ended-line : (line more : List ℕ) → ended_part line ≡ [] → ended_part (line ++ 10 ∷ more) ≡ line ++ 10 ∷ ended_part more
unfolding ended_part
ended-line [] more plain = before (ended_part more)
  where
    before : (ended : List ℕ) → before_ended 10 ended ≡ 10 ∷ ended
    before [] = refl
    before (first ∷ ended) = refl
ended-line (octet ∷ line) more plain = rw (ended-line line more (plain-first octet line plain).1) (before octet line)
  where
    before : (octet : ℕ) (a : List ℕ) → before_ended octet (a ++ 10 ∷ ended_part more) ≡ octet ∷ a ++ 10 ∷ ended_part more
    before octet [] = refl
    before octet (second ∷ a) = refl

pub lines-line : (line more : List ℕ) → ended_part line ≡ [] → lines_of (line ++ 10 ∷ more) ≡ line ∷ lines_of more
unfolding lines_of
lines-line [] more plain = refl
lines-line (octet ∷ line) more plain =
    let parts = plain-first octet line plain in
    rw (parts.0, lines-line line more parts.1) refl

pub open-line : (line more : List ℕ) → ended_part line ≡ [] → open_part (line ++ 10 ∷ more) ≡ open_part more
open-line line more plain =
    let ended = ended-line line more plain in
    let size : length (ended_part (line ++ 10 ∷ more)) ≡ length (line ++ 10 ∷ []) + length (ended_part more) =
    ap length ended ∙ omega (arith, length-append line (10 ∷ ended_part more), length-append line (10 ∷ [])) in
    let same : line ++ 10 ∷ more ≡ (line ++ 10 ∷ []) ++ more = sym (append_assoc line (10 ∷ []) more) in
    rw (size, same) (drop-append-add (line ++ 10 ∷ []) more (length (ended_part more)))
