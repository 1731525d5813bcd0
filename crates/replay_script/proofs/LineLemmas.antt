-- The words of a line, one after another.

use Rattle.std.proofs.Common.{◌≡◌, ℕ, List, [], ◌∷◌, ◌++◌, codes, Option, refl, sym, ap, ◌∙◌, append_assoc}
use Rattle.replay_script.specs.declared.line.Line.{Line}
use Rattle.replay_script.specs.declared.line.Line.TheVariants as lines
use Rattle.replay_script.specs.Words.{after_spaces, spaced}
use Rattle.replay_script.specs.Lines.{head_of, octets_of, if_octets, line_text}

pub after_spaces-append : (xs ys : List (List ℕ)) → after_spaces (xs ++ ys) ≡ after_spaces xs ++ after_spaces ys
after_spaces-append [] ys = refl
after_spaces-append (x ∷ xs) ys =
    ap (λ rest. 32 ∷ (x ++ rest)) (after_spaces-append xs ys)
    ∙ ap (λ rest. 32 ∷ rest) (sym (append_assoc x (after_spaces xs) (after_spaces ys)))

-- two texts, one after the other
pub after_both : (old one two : List ℕ) (xs ys : List (List ℕ)) → one ≡ old ++ after_spaces xs → two ≡ one ++ after_spaces ys
    → two ≡ old ++ after_spaces (xs ++ ys)
after_both old one two xs ys first second =
    second
    ∙ (ap (λ t. t ++ after_spaces ys) first
    ∙ (append_assoc old (after_spaces xs) (after_spaces ys)
    ∙ ap (λ t. old ++ t) (sym (after_spaces-append xs ys))))

-- the words of a note
pub note-both : (old one two word name : List ℕ) (site rest : List (List ℕ))
    → one ≡ old ++ (word ++ after_spaces (site ++ name ∷ [])) → two ≡ one ++ after_spaces rest
    → two ≡ old ++ (word ++ after_spaces (site ++ name ∷ rest))
note-both old one two word name site rest first second =
    second
    ∙ (ap (λ t. t ++ after_spaces rest) first
    ∙ (append_assoc old (word ++ after_spaces (site ++ name ∷ [])) (after_spaces rest)
    ∙ ap (λ t. old ++ t) (append_assoc word (after_spaces (site ++ name ∷ [])) (after_spaces rest)
    ∙ ap (λ t. word ++ t) (sym (after_spaces-append (site ++ name ∷ []) rest)
    ∙ ap after_spaces (append_assoc site (name ∷ []) rest)))))

-- ---- a line

-- some words have a first one
record Begins (words : List (List ℕ)) : Type 0 where
  first : List ℕ
  rest : List (List ℕ)
  is : words ≡ first ∷ rest

begins : (line : Line) → Begins (head_of line)
begins (lines.Sent k route datagram) = record { first = codes "sent"; rest = _; is = refl }
begins (lines.Up site session body) = record { first = codes "up"; rest = _; is = refl }
begins (lines.Join site word) = record { first = codes "join"; rest = _; is = refl }
begins (lines.JoinWhole site body) = record { first = codes "join"; rest = _; is = refl }
begins (lines.Note site name first second word) = record { first = codes "note"; rest = _; is = refl }
begins (lines.RefusedSend site cause) = record { first = codes "refused"; rest = _; is = refl }
begins lines.RefusedDeliver = record { first = codes "refused"; rest = _; is = refl }
begins lines.RefusedClosed = record { first = codes "refused"; rest = _; is = refl }
begins (lines.At now) = record { first = codes "at"; rest = _; is = refl }
begins (lines.End events) = record { first = codes "end"; rest = _; is = refl }
begins (lines.Stop events) = record { first = codes "stop"; rest = _; is = refl }
begins (lines.Out datagram) = record { first = codes "out"; rest = _; is = refl }
begins (lines.Green session offset last body) = record { first = codes "green"; rest = _; is = refl }
begins (lines.LinkNote old send) = record { first = codes "note"; rest = _; is = refl }
begins (lines.RefusedLine line at cause) = record { first = codes "refused"; rest = _; is = refl }

-- ---- a line as it is pushed to a text

spaced-octets : (line : Line) (octets : Option (List ℕ)) (b : Begins (head_of line))
    → spaced (head_of line ++ if_octets octets) ≡ spaced (head_of line) ++ after_spaces (if_octets octets)
spaced-octets line octets b =
    ap (λ ws. spaced (ws ++ if_octets octets)) b.is
    ∙ (ap (λ t. b.first ++ t) (after_spaces-append b.rest (if_octets octets))
    ∙ (sym (append_assoc b.first (after_spaces b.rest) (after_spaces (if_octets octets)))
    ∙ ap (λ ws. spaced ws ++ after_spaces (if_octets octets)) (sym b.is)))

pub line-pushed : (line : Line) (octets : Option (List ℕ)) (old head more now : List ℕ) → octets ≡ octets_of line
    → head ≡ old ++ spaced (head_of line) → more ≡ head ++ after_spaces (if_octets octets) → now ≡ more ++ codes "\n"
    → now ≡ old ++ line_text line
unfolding line_text
line-pushed line octets old head more now is words hex all =
    let rest = after_spaces (if_octets octets) in
    all
    ∙ (ap (λ t. t ++ codes "\n") (hex ∙ (ap (λ t. t ++ rest) words ∙ append_assoc old (spaced (head_of line)) rest))
    ∙ (append_assoc old (spaced (head_of line) ++ rest) (codes "\n")
    ∙ ap (λ t. old ++ (t ++ codes "\n")) (sym (spaced-octets line octets (begins line)) ∙ ap (λ o. spaced (head_of line ++ if_octets o)) is)))
