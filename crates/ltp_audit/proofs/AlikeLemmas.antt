-- Pieces that agree: with each of them it is the same as with the first octets that came.

use Rattle.std.proofs.Common.{◌≡◌, ℕ, ◌+◌, Bool, true, false, ◌&&◌, ◌==◌, List, [], ◌∷◌, Option, None, Some, refl, sym, ◌∙◌, ap, if◌then◌else◌}
use Rattle.std.proofs.lemmas.Bool.{eqb-true}
use Rattle.std.specs.List.{list_all}
use Rattle.ltp_session.specs.Cells.{octet_in}
use Rattle.ltp_session.specs.RedPart.{or_else, RedPiece, first_octet}
use Rattle.cells.proofs.CellLemmas.{octet_in-none}
use Rattle.ltp_audit.specs.Recorded.{agrees, has_no_other, are_alike}
use Rattle.ltp_audit.specs.Shows.{AreAlike}
use Rattle.ltp_audit.proofs.PageLemmas.{octet_in-cons}
use Rattle.ltp_audit.proofs.RedPartLemmas.{agrees-none}

-- two octets for one place are the same
abbrev Fit : Option ℕ → Option ℕ → Type 0
Fit None b = Unit {0}
Fit (Some x) None = Unit {0}
Fit (Some x) (Some y) = x ≡ y

fit-none : (a b : Option ℕ) → b ≡ None → Fit a b
fit-none None b none = tt
fit-none (Some x) None none = tt
fit-none (Some x) (Some y) none = absurd (cc)

fit-same : (a b : Option ℕ) (y : ℕ) → b ≡ Some y → has_no_other a y ≡ true → Fit a b
fit-same None b y is no_other = tt
fit-same (Some x) None y is no_other = tt
fit-same (Some x) (Some z) y is no_other =
    let same : x ≡ y = eqb-true x y no_other in
    let also : z ≡ y = cc in
    same ∙ sym also

both-true : (a b : Bool) → (a && b) ≡ true → (a ≡ true) × (b ≡ true)
both-true true true h = (refl, refl)
both-true true false h = absurd (cc)
both-true false b h = absurd (cc)

fit-at : (f : ℕ → Option ℕ) (offset : ℕ) (body : List ℕ) → agrees f offset body ≡ true → (k : ℕ) → Fit (f k) (octet_in offset body k)
fit-at f offset [] all k = fit-none (f k) _ (octet_in-none offset k)
fit-at f offset (octet ∷ body) all k =
    let parts = both-true (has_no_other (f offset) octet) (agrees f (offset + 1) body) all in
    let rest = fit-at f (offset + 1) body parts.1 k in
    by_test rest parts.0 (k == offset) refl where
      by_test : Fit (f k) (octet_in (offset + 1) body k) → has_no_other (f offset) octet ≡ true → (t : Bool) → (k == offset) ≡ t
          → Fit (f k) (octet_in offset (octet ∷ body) k)
      by_test rest first true here =
          let same : k ≡ offset = eqb-true k offset here in
          fit-same (f k) _ octet (octet_in-cons offset octet body k ∙ ap (λ t. if t then Some octet else octet_in (offset + 1) body k) here)
          (ap (λ p. has_no_other (f p) octet) same ∙ first)
      by_test rest first false other =
          rw (octet_in-cons offset octet body k, other) rest

no-other-both : (a b : Option ℕ) (x : ℕ) → Fit a b → has_no_other (or_else a b) x ≡ (has_no_other b x && has_no_other a x)
no-other-both None None x fit = refl
no-other-both None (Some b) x fit = right (b == x) where
  right : (t : Bool) → t ≡ (t && true)
  right true = refl
  right false = refl
no-other-both (Some a) None x fit = refl
no-other-both (Some a) (Some b) x fit = rw fit (twice (b == x)) where
  twice : (t : Bool) → t ≡ (t && t)
  twice true = refl
  twice false = refl

four : (a b c d : Bool) → ((a && b) && (c && d)) ≡ ((a && c) && (b && d))
four true true c d = by c where
  by : (c : Bool) → (c && d) ≡ (c && d)
  by c = refl
four true false true d = refl
four true false false d = refl
four false b c d = refl

agrees-both : (f g : ℕ → Option ℕ) (at : ℕ) (body : List ℕ) → ((k : ℕ) → Fit (f k) (g k))
    → agrees (λ k. or_else (f k) (g k)) at body ≡ (agrees g at body && agrees f at body)
agrees-both f g at [] fit = refl
agrees-both f g at (octet ∷ body) fit =
    let rest = agrees-both f g (at + 1) body fit in
    rw (no-other-both (f at) (g at) octet (fit at), rest)
    (four (has_no_other (g at) octet) (has_no_other (f at) octet) (agrees g (at + 1) body) (agrees f (at + 1) body))

-- the first octets agree with a piece where each piece does
pub agrees-all : (pieces : List RedPiece) (piece : RedPiece) → AreAlike pieces
    → agrees (first_octet pieces) piece.offset piece.body ≡ list_all (are_alike piece) pieces
agrees-all [] piece alike = agrees-none (λ k. None) piece.offset piece.body (λ k. refl)
agrees-all (q ∷ earlier) piece alike =
    agrees-both (first_octet earlier) (octet_in q.offset q.body) piece.offset piece.body
    (fit-at (first_octet earlier) q.offset q.body alike.0)
    ∙ ap (λ t. agrees (octet_in q.offset q.body) piece.offset piece.body && t) (agrees-all earlier piece alike.1)
