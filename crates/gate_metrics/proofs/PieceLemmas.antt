-- Pieces that are written one after another, and three digits.
use Rattle.std.proofs.Common.{◌≡◌, ℕ, ◌/◌, ◌%◌, List, [], ◌++◌, decimal, refl, sym, ap, ◌∙◌, arith, append_assoc, append-nil}
use Rattle.std.specs.Prelude.{flat_map}
use Rattle.std.proofs.lemmas.Fmt.{decimal_digit}
use Rattle.std.proofs.lemmas.Grind.{flat_map-append}
use Rattle.moment_text.specs.Text.{digits}
use Rattle.gate_metrics.specs.declared.counters.Counters.{Counters}
use Rattle.gate_metrics.specs.declared.gauges.Gauges.{Gauges}
use Rattle.gate_metrics.specs.Text.{family_text, metrics_text, peer_text, families, beside, traffic, troubles, kept, links, journal}

-- the last piece of a list of pieces
pub ends : (start now piece : List ℕ) → now ≡ start ++ piece → now ≡ start ++ (piece ++ [])
ends start now piece last = last ∙ ap (λ (v : List ℕ). start ++ v) (sym (append-nil piece))

-- a piece before the rest
pub before : (start mid now piece rest : List ℕ) → mid ≡ start ++ piece → now ≡ mid ++ rest → now ≡ start ++ (piece ++ rest)
before start mid now piece rest first more = more ∙ ap (λ (v : List ℕ). v ++ rest) first ∙ append_assoc start piece rest

-- what is written for two lists after one another
pub lists-after : {A : Type 0} (f : A → List ℕ) (xs ys : List A) (start one two now piece : List ℕ)
    → one ≡ start ++ piece → two ≡ one ++ flat_map f xs → now ≡ two ++ flat_map f ys
    → now ≡ start ++ (piece ++ flat_map f (xs ++ ys))
lists-after f xs ys start one two now piece first second third =
    before start one now piece (flat_map f (xs ++ ys)) first
    (before one two now (flat_map f xs) (flat_map f ys) second third ∙ ap (λ (v : List ℕ). one ++ v) (sym (flat_map-append f xs ys)))

pub three-digits : (n : ℕ) → digits 3 n ≡ decimal (n / 10 / 10 % 10) ++ (decimal (n / 10 % 10) ++ decimal (n % 10))
unfolding digits
three-digits n = rw (decimal_digit (n / 10 / 10 % 10) (omega arith), decimal_digit (n / 10 % 10) (omega arith), decimal_digit (n % 10) (omega arith)) refl

-- ---- the text, part by part

pub metrics-parts : (c : Counters) (g : Gauges) → metrics_text c g
    ≡ flat_map family_text (traffic c) ++ (flat_map family_text (troubles c) ++ (flat_map family_text (kept g)
    ++ (flat_map family_text (links g.old.link g.new.link) ++ flat_map family_text (journal g.pending_pieces))))
unfolding metrics_text
metrics-parts c g =
    flat_map-append family_text (traffic c) (troubles c ++ (kept g ++ (links g.old.link g.new.link ++ journal g.pending_pieces)))
    ∙ ap (λ (v : List ℕ). flat_map family_text (traffic c) ++ v)
    (flat_map-append family_text (troubles c) (kept g ++ (links g.old.link g.new.link ++ journal g.pending_pieces))
    ∙ ap (λ (v : List ℕ). flat_map family_text (troubles c) ++ v)
    (flat_map-append family_text (kept g) (links g.old.link g.new.link ++ journal g.pending_pieces)
    ∙ ap (λ (v : List ℕ). flat_map family_text (kept g) ++ v)
    (flat_map-append family_text (links g.old.link g.new.link) (journal g.pending_pieces))))

pub peer-parts : (c : Counters) (g : Gauges) (old new : ℕ) → peer_text c g old new ≡ metrics_text c g ++ flat_map family_text (beside c old new)
unfolding peer_text metrics_text
peer-parts c g old new = flat_map-append family_text (families c g) (beside c old new)
