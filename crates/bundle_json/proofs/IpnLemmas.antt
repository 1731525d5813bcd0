-- The text of two numbers, written from its end.
use Rattle.std.proofs.Common.{◌≡◌, ℕ, ◌+◌, ◌-◌, ◌^◌, ◌<◌, ◌≤◌, List, [], ◌∷◌, ◌++◌, length, drop, decimal, sym, ap, ◌∙◌, arith, append-nil}
use Rattle.std.proofs.Math.ListN.{drop_of_length-le}
use Rattle.std.proofs.lemmas.Fmt.{length-decimal-le}
use Rattle.std.specs.Str.{IsUtf8}
use Rattle.endpoint.specs.declared.name.Endpoint.TheVariants.{Ipn}
use Rattle.bundle_json.specs.Frames.{ipn_text}
use Rattle.bundle_json.proofs.StringLemmas.{part-visible, visible-utf8}

pub short : (n : ℕ) → n < 2 ^ 64 → length (decimal n) ≤ 20
short n small = length-decimal-le 20 n (omega arith) (omega arith) small

pub ipn-utf8 : (node service : ℕ) → node < 2 ^ 64 → service < 2 ^ 64 → IsUtf8 (ipn_text node service)
ipn-utf8 node service small few = visible-utf8 (ipn_text node service) (part-visible (Ipn node service) (small, few))

-- an octet stands before what was written
before : (xs ys rest : List ℕ) (at next octet : ℕ) → next ≡ at + 1 → drop at ys ≡ octet ∷ drop (at + 1) xs → drop next xs ≡ rest → drop at ys ≡ octet ∷ rest
before xs ys rest at next octet is put so = put ∙ ap (λ (n : ℕ). octet ∷ drop n xs) (sym is) ∙ ap (λ (t : List ℕ). octet ∷ t) so

pub ipn-written : (room one two three four five six seven : List ℕ) (point at node service : ℕ) → 1 ≤ point → 4 ≤ at
    → drop point one ≡ decimal service ++ drop (length room) room
    → drop (point - 1) two ≡ 46 ∷ drop (point - 1 + 1) one
    → drop at three ≡ decimal node ++ drop (point - 1) two
    → drop (at - 1) four ≡ 58 ∷ drop (at - 1 + 1) three
    → drop (at - 2) five ≡ 110 ∷ drop (at - 2 + 1) four
    → drop (at - 3) six ≡ 112 ∷ drop (at - 3 + 1) five
    → drop (at - 4) seven ≡ 105 ∷ drop (at - 4 + 1) six
    → drop (at - 4) seven ≡ ipn_text node service
ipn-written room one two three four five six seven point at node service some more last dot first colon n p i =
    let none : drop (length room) room ≡ [] = drop_of_length-le room (omega arith) in
    let digits : drop point one ≡ decimal service =
    last ∙ ap (λ (t : List ℕ). decimal service ++ t) none ∙ append-nil (decimal service) in
    let dotted = before one two (decimal service) (point - 1) point 46 (omega (arith, some)) dot digits in
    let both = first ∙ ap (λ (t : List ℕ). decimal node ++ t) dotted in
    let from = before three four (decimal node ++ (46 ∷ decimal service)) (at - 1) at 58 (omega (arith, more)) colon both in
    let fromn = before four five _ (at - 2) (at - 1) 110 (omega (arith, more)) n from in
    let fromp = before five six _ (at - 3) (at - 2) 112 (omega (arith, more)) p fromn in
    before six seven _ (at - 4) (at - 3) 105 (omega (arith, more)) i fromp
