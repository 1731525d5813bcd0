-- What is left of a path is what is left of its links.

use Rattle.std.proofs.Common.{◌≡◌, ℕ, zero, suc, ◌+◌, ◌≤◌, List, [], ◌∷◌, ◌++◌, length, take}
use Rattle.std.proofs.Common.{drop, Some, refl, sym, ◌∙◌, ap, arith}
use Rattle.std.specs.List.{AllByRecursion, slice_get}
use Rattle.std.proofs.lemmas.List.{append_assoc}
use Rattle.gate_cases.specs.declared.face.Face.{Face}
use Rattle.gate_cases.specs.declared.face.Face.TheVariants as faces
use Rattle.ltp_laws.proofs.ListLemmas.{all-append}
use Rattle.ltp_session.specs.World.{Sent as LinkSent}
use Rattle.ltp_drain.specs.Left.{burden, sent_burden}
use Rattle.path_laws.specs.Links.{link_at, link_sent, sent_on, submit_of, submits_on}
use Rattle.path_laws.specs.Log.{Begun}
use Rattle.path_laws.specs.Path.{Path, SentFrom}
use Rattle.path_laws.specs.Places.{if_link, link_of, on_link}
use Rattle.path_drain.specs.Left.{all_left, path_burden, path_left}
use Rattle.path_drain.proofs.LinkLeft.{IsSubmit}

-- ---- what is on the way

burden-on : (sent : List SentFrom)
    → path_burden sent ≡ sent_burden (sent_on faces.Old sent) + sent_burden (sent_on faces.New sent)
unfolding path_burden sent_burden on_link
burden-on [] = omega arith
burden-on (d ∷ ds) = by_face (link_of d.from) (burden-on ds)
  where
    by_face : (f : Face)
        → path_burden ds ≡ sent_burden (sent_on faces.Old ds) + sent_burden (sent_on faces.New ds)
        → burden d.segment.content + path_burden ds
        ≡ sent_burden (if_link faces.Old f (link_sent d) ++ sent_on faces.Old ds)
        + sent_burden (if_link faces.New f (link_sent d) ++ sent_on faces.New ds)
    by_face faces.Old rest = omega (arith, rest)
    by_face faces.New rest = omega (arith, rest)

drop-same : {X : Type 0} (l xs : List X) (n : ℕ) → drop (length l + n) (l ++ xs) ≡ drop n xs
drop-same [] xs n = ap (λ k. drop k xs) (omega arith)
drop-same (x ∷ l) xs n =
    let one : length (x ∷ l) + n ≡ suc (length l + n) = omega arith in
    rw one (drop-same l xs n)

length-both : {X : Type 0} (xs ys : List X) → length (xs ++ ys) ≡ length xs + length ys
length-both [] ys = omega arith
length-both (x ∷ xs) ys = let rest = length-both xs ys in omega (arith, rest)

-- how many of the first k segments are on a link
abbrev pub passed_on : Face → List SentFrom → ℕ → ℕ
passed_on face sent k = length (sent_on face (take k sent))

drop-on : (face : Face) (sent : List SentFrom) (k : ℕ)
    → sent_on face (drop k sent) ≡ drop (passed_on face sent k) (sent_on face sent)
unfolding on_link
drop-on face sent zero = refl
drop-on face [] (suc k) = refl
drop-on face (d ∷ ds) (suc k) = drop-on face ds k
    ∙ (sym (drop-same (if_link face (link_of d.from) (link_sent d)) (sent_on face ds)
    (passed_on face ds k))
    ∙ ap (λ n. drop n (if_link face (link_of d.from) (link_sent d) ++ sent_on face ds))
    (sym (length-both (if_link face (link_of d.from) (link_sent d)) (sent_on face (take k ds)))))

pub path-is : (most : ℕ) (w : Path) (k : ℕ)
    → path_left most w k
    ≡ all_left most (link_at faces.Old w) (passed_on faces.Old w.sent k)
    + all_left most (link_at faces.New w) (passed_on faces.New w.sent k)
path-is most w k =
    let both = burden-on (drop k w.sent) in
    let old = ap sent_burden (drop-on faces.Old w.sent k) in
    let new = ap sent_burden (drop-on faces.New w.sent k) in
    omega (arith, both, old, new)

pub passed-low : (face : Face) (sent : List SentFrom) (k : ℕ)
    → passed_on face sent k ≤ length (sent_on face sent)
unfolding on_link
passed-low face sent zero = omega arith
passed-low face [] (suc k) = omega arith
passed-low face (d ∷ ds) (suc k) =
    let rest = passed-low face ds k in
    let front = length-both (if_link face (link_of d.from) (link_sent d))
    (sent_on face (take k ds)) in
    let all = length-both (if_link face (link_of d.from) (link_sent d)) (sent_on face ds) in
    omega (arith, rest, front, all)

-- ---- one more is delivered

take-more : {X : Type 0} (xs ys : List X) (k : ℕ) (x : X) → slice_get xs k ≡ Some x
    → take (suc k) (xs ++ ys) ≡ take k xs ++ x ∷ []
take-more [] ys k x is = absurd (cc)
take-more (z ∷ xs) ys zero x is = let same : z ≡ x = cc in ap (λ y. y ∷ []) same
take-more (z ∷ xs) ys (suc k) x is = ap (λ rest. z ∷ rest) (take-more xs ys k x is)

sent_on-append : (face : Face) (xs ys : List SentFrom)
    → sent_on face (xs ++ ys) ≡ sent_on face xs ++ sent_on face ys
unfolding on_link
sent_on-append face [] ys = refl
sent_on-append face (x ∷ xs) ys =
    ap (λ rest. if_link face (link_of x.from) (link_sent x) ++ rest) (sent_on-append face xs ys)
    ∙ sym (append_assoc (if_link face (link_of x.from) (link_sent x)) (sent_on face xs)
    (sent_on face ys))

pub passed-more : (face : Face) (sent more : List SentFrom) (k : ℕ) (d : SentFrom)
    → slice_get sent k ≡ Some d
    → passed_on face (sent ++ more) (suc k)
    ≡ passed_on face sent k + length (if_link face (link_of d.from) (link_sent d))
unfolding on_link
passed-more face sent more k d is =
    ap (λ ds. length (sent_on face ds)) (take-more sent more k d is)
    ∙ (ap length (sent_on-append face (take k sent) (d ∷ []))
    ∙ (length-both (sent_on face (take k sent)) (sent_on face (d ∷ []))
    ∙ ap (λ n. passed_on face sent k + n)
    (length-both (if_link face (link_of d.from) (link_sent d)) [] ∙ omega arith)))

-- ---- on the link of a segment, and on the other

pub got-on : (face : Face) (sent : List SentFrom) (k : ℕ) (d : SentFrom) → slice_get sent k ≡ Some d
    → link_of d.from ≡ face
    → slice_get (sent_on face sent) (passed_on face sent k) ≡ Some (link_sent d)
unfolding on_link
got-on face [] k d is on = absurd (cc)
got-on face (z ∷ sent) zero d is on =
    let same : z ≡ d = cc in
    rw same (rw on (at_front face (sent_on face sent)))
  where
    at_front : (face : Face) (ds : List LinkSent)
        → slice_get (if_link face face (link_sent d) ++ ds) 0 ≡ Some (link_sent d)
    at_front faces.Old ds = refl
    at_front faces.New ds = refl
got-on face (z ∷ sent) (suc k) d is on =
    rw (length-both (if_link face (link_of z.from) (link_sent z)) (sent_on face (take k sent)))
    (behind (if_link face (link_of z.from) (link_sent z)) (sent_on face sent)
    (passed_on face sent k) ∙ got-on face sent k d is on)
  where
    behind : (l ds : List LinkSent) (n : ℕ) → slice_get (l ++ ds) (length l + n) ≡ slice_get ds n
    behind [] ds n = ap (slice_get ds) (omega arith)
    behind (x ∷ l) ds n =
        let one : length (x ∷ l) + n ≡ suc (length l + n) = omega arith in
        rw one (behind l ds n)

pub submits-on : (face : Face) (begun : List Begun) → AllByRecursion IsSubmit (submits_on face begun)
unfolding on_link
submits-on face [] = tt
submits-on face (b ∷ begun) =
    all-append IsSubmit (if_link face (link_of b.place) (submit_of b)) (submits_on face begun)
    (alone face (link_of b.place)) (submits-on face begun)
  where
    alone : (f g : Face) → AllByRecursion IsSubmit (if_link f g (submit_of b))
    alone faces.Old faces.Old = (tt, tt)
    alone faces.Old faces.New = tt
    alone faces.New faces.Old = tt
    alone faces.New faces.New = (tt, tt)
