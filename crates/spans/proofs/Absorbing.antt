-- The loop of a run that grows over whole chunks, over plain variables.

use Rattle.std.proofs.Common.{◌≡◌, ℕ, ◌+◌, ◌<◌, ◌≤◌, List, ◌++◌, length, take, drop, get_or, set, sym, ap, ◌∙◌, subst, arith}
use Rattle.std.proofs.lemmas.List.{drop-set, take-append-le, take-take, length-take-le}
use Rattle.spans.specs.declared.range.Run.{Run}
use Rattle.spans.specs.declared.growth.Growth.{Growth}
use Rattle.spans.specs.Chunks.{AreFilled, joined, MeetsWhole}
use Rattle.spans.specs.Growing.{grown_over, left_after}
use Rattle.spans.specs.Runs.{AreApart, last_begin}
use Rattle.spans.proofs.Apart.{AreApart-left}
use Rattle.spans.proofs.Growing.{drop-read}
use Rattle.spans.proofs.Grows.{left_after-append, grown_over-append, left_after-whole, last_begin-far, grown_over-last, AreApart-grown}
use Rattle.spans.proofs.Joined.{AreFilled-at, AreFilled-append, AreFilled-take, AreFilled-drop}

-- the chunk that comes next
pub joined-ahead : (chunks : List (List Run)) (c : ℕ) (k : List Run) → c < length chunks → k ≡ get_or chunks c k → joined (drop c chunks) ≡ k ++ joined (drop (c + 1) chunks)
joined-ahead chunks c k below read = ap joined (drop-read chunks c k below read)

pub MeetsWhole-more : (to : ℕ) (first now next : Growth) (chunks : List (List Run)) (from whole : ℕ) (k : List Run)
    → MeetsWhole to first now chunks from whole → whole < length chunks → k ≡ get_or chunks whole k → last_begin 0 k ≤ to
    → next ≡ grown_over to now k → next.fresh ≤ next.end → MeetsWhole to first next chunks from (whole + 1)
MeetsWhole-more to first now next chunks from whole k h below read last is bound =
    let e = joined-ahead chunks whole k below read in
    let ahead = subst (λ (xs : List Run). AreApart (now.end + 1) xs) e h.apart in
    let rest = joined (drop (whole + 1) chunks) in
    let none = left_after-whole to 0 (now.end + 1) k (AreApart-left (now.end + 1) k rest ahead) last in
    record {
      low = omega (arith, h.low);
      within = omega arith;
      left = h.left ∙ (ap (left_after to) e ∙ (left_after-append to (now.end + 1) k rest ahead ∙ ap (λ xs. xs ++ left_after to rest) none));
      grown = h.grown ∙ (ap (grown_over to now) e ∙ (grown_over-append to (now.end + 1) now k rest ahead ∙ ap (λ g. grown_over to g rest) (sym is)));
      apart = subst (λ (g : Growth). AreApart (g.end + 1) rest) (sym is) (AreApart-grown to now k rest ahead);
      bound = bound;
    }

-- ---- the chunk that is met in part, and the whole ones taken out

pub drop-set_there : (chunks : List (List Run)) (c : ℕ) (k : List Run) → c < length chunks → joined (drop c (set chunks c k)) ≡ k ++ joined (drop (c + 1) chunks)
drop-set_there chunks c k below = ap joined (drop-set chunks c k below)

pub left-front : (to : ℕ) (g : Growth) (chunks : List (List Run)) (c : ℕ) (k made : List Run) → c < length chunks → k ≡ get_or chunks c k → 0 < length k
    → AreApart (g.end + 1) (joined (drop c chunks)) → to < last_begin 0 k → made ≡ left_after to k
    → joined (drop c (set chunks c made)) ≡ left_after to (joined (drop c chunks))
left-front to g chunks c k made below read some apart last is =
    let e = joined-ahead chunks c k below read in
    let ahead = subst (λ (xs : List Run). AreApart (g.end + 1) xs) e apart in
    let rest = joined (drop (c + 1) chunks) in
    drop-set_there chunks c made below
    ∙ (ap (λ xs. xs ++ rest) is
    ∙ (ap (λ xs. left_after to k ++ xs) (sym (last_begin-far to 0 (g.end + 1) k rest some ahead last))
    ∙ (sym (left_after-append to (g.end + 1) k rest ahead) ∙ ap (left_after to) (sym e))))

pub grown-front : (to : ℕ) (g : Growth) (chunks : List (List Run)) (c : ℕ) (k : List Run) → c < length chunks → k ≡ get_or chunks c k → 0 < length k
    → AreApart (g.end + 1) (joined (drop c chunks)) → to < last_begin 0 k
    → grown_over to g k ≡ grown_over to g (joined (drop c chunks))
grown-front to g chunks c k below read some apart last =
    let e = joined-ahead chunks c k below read in
    let ahead = subst (λ (xs : List Run). AreApart (g.end + 1) xs) e apart in
    let rest = joined (drop (c + 1) chunks) in
    sym (ap (grown_over to g) e ∙ (grown_over-append to (g.end + 1) g k rest ahead ∙ grown_over-last to 0 (g.end + 1) (grown_over to g k) k rest some ahead last))

pub apart-front : (low : ℕ) (chunks : List (List Run)) (c : ℕ) (k : List Run) → c < length chunks → k ≡ get_or chunks c k → AreApart low (joined (drop c chunks)) → AreApart low k
apart-front low chunks c k below read apart =
    AreApart-left low k (joined (drop (c + 1) chunks)) (subst (λ (xs : List Run). AreApart low xs) (joined-ahead chunks c k below read) apart)

pub some-front : (chunks : List (List Run)) (c : ℕ) (k : List Run) → c < length chunks → k ≡ get_or chunks c k → AreFilled chunks → 0 < length k
some-front chunks c k below read filled = subst (λ (xs : List Run). 0 < length xs) (sym read) (AreFilled-at chunks c k filled below)

-- the chunks between two indices taken out, where those below the second were as before
pub AreFilled-cut : (from whole : ℕ) (chunks : List (List Run)) → AreFilled chunks → AreFilled (take from chunks ++ drop whole chunks)
AreFilled-cut from whole chunks filled =
    AreFilled-append (take from chunks) (drop whole chunks) (AreFilled-take from chunks filled) (AreFilled-drop whole chunks filled)

pub take-cut : {X : Type 0} (from whole : ℕ) (old now : List X) → from ≤ whole → whole ≤ length now → take whole now ≡ take whole old
    → take from (take from now ++ drop whole now) ≡ take from old
take-cut from whole old now le within same =
    take-append-le from (take from now) (drop whole now) (omega (arith, length-take-le from now))
    ∙ (take-take from from now (omega arith)
    ∙ (sym (take-take from whole now le) ∙ (ap (take from) same ∙ take-take from whole old le)))
