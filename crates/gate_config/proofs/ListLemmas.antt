-- Lists that grow piece by piece, and what is left of them.

use Rattle.std.proofs.Common.{◌≡◌, ℕ, ◌+◌, ◌<◌, ◌≤◌, false, List, [], ◌∷◌, ◌++◌, length, drop, get_or, sym, ap, refl, ◌∙◌, append_assoc, append-nil, arith}
use Rattle.std.proofs.lemmas.List.{drop_more, drop_all}
use Rattle.std.proofs.lemmas.Bool.Decides.{nat_tests}
use Rattle.toml_writer.specs.Text.{escaped, needs_escape, quotes_after}
use Rattle.gate_config.specs.declared.keys.Section.{Section}
use Rattle.gate_config.specs.declared.file.Contact.{Contact}
use Rattle.gate_config.specs.Shown.{contacts_shown, contact_shown}
use Rattle.gate_config.specs.Escapes.{octet_text}

-- what is left becomes a piece and what is left after it
pub pushed : {A : Type 0} (old piece after rest whole : List A) → old ++ rest ≡ whole → rest ≡ piece ++ after
    → (old ++ piece) ++ after ≡ whole
pushed old piece after rest whole now e = append_assoc old piece after ∙ ap (λ t. old ++ t) (sym e) ∙ now

-- nothing is left
pub finished : {A : Type 0} (old rest whole : List A) → old ++ rest ≡ whole → rest ≡ [] → old ≡ whole
finished old rest whole now e = sym (append-nil old) ∙ ap (λ t. old ++ t) (sym e) ∙ now

pub contacts_shown-more : (face : Section) (cs : List Contact) (i : ℕ) (d : Contact) → i < length cs
    → contacts_shown face (drop i cs) ≡ contact_shown face (get_or cs i d) ++ contacts_shown face (drop (i + 1) cs)
unfolding contacts_shown
contacts_shown-more face cs i d h = rw (drop_more cs i d h) refl

pub contacts_shown-end : (face : Section) (cs : List Contact) (i : ℕ) → length cs ≤ i → contacts_shown face (drop i cs) ≡ []
unfolding contacts_shown
contacts_shown-end face cs i h = rw (drop_all i cs h) refl

-- quotes in a row make no difference to a string of one line
quotes_after-none : (c : ℕ) → quotes_after false 0 c ≡ 0
unfolding quotes_after needs_escape
quotes_after-none c = grind (arith, nat_tests)

escaped-cons : (c : ℕ) (cs : List ℕ) → escaped false 0 (c ∷ cs) ≡ octet_text c ++ escaped false 0 cs
unfolding escaped
escaped-cons c cs = rw (quotes_after-none c) refl

pub escaped-more : (cs : List ℕ) (i d : ℕ) → i < length cs
    → escaped false 0 (drop i cs) ≡ octet_text (get_or cs i d) ++ escaped false 0 (drop (i + 1) cs)
escaped-more cs i d h = rw (drop_more cs i d h) (escaped-cons (get_or cs i d) (drop (i + 1) cs))

pub escaped-end : (cs : List ℕ) (i : ℕ) → length cs ≤ i → escaped false 0 (drop i cs) ≡ []
unfolding escaped
escaped-end cs i h = rw (drop_all i cs h) refl

-- two pieces after what was there, and three
pub two_pieces : {A : Type 0} (old a b mid new : List A) → mid ≡ old ++ a → new ≡ mid ++ b → new ≡ old ++ (a ++ b)
two_pieces old a b mid new one two = two ∙ ap (λ t. t ++ b) one ∙ append_assoc old a b

pub three_pieces : {A : Type 0} (old a b c mid more new : List A) → mid ≡ old ++ a → more ≡ mid ++ b → new ≡ more ++ c
    → new ≡ old ++ (a ++ (b ++ c))
three_pieces old a b c mid more new one two three =
    two_pieces old a (b ++ c) mid new one (two_pieces mid b c more new two three)
