-- The octets of red parts: what the pages and the ranges have after a piece.

use Rattle.std.proofs.Common.{◌≡◌, ℕ, ◌+◌, ◌-◌, ◌*◌, ◌/◌, ◌%◌, ◌<◌, ◌≤◌, Bool, true, false, ◌&&◌, ◌==◌, List, [], ◌∷◌, ◌++◌, length, Option, None, Some, refl, sym, subst, ◌∙◌, ap, arith, inl, inr, ◌⊎◌, cond, nat_le, nat_lt, take, drop}
use Rattle.std.proofs.lemmas.List.{take-append-drop}
use Rattle.std.proofs.lemmas.Bool.{cases_lt, eqb-true, eq-eqb}
use Rattle.std.proofs.lemmas.Bool.Decides.{nat_tests}
use Rattle.std.specs.BTreeMap.{BTreeMap, get}
use Rattle.std.specs.Ordering.{is_eq}
use Rattle.spans.specs.Places.{with_covered}
use Rattle.ltp_segment.specs.declared.segment.Claim.{Claim}
use Rattle.ltp_segment.specs.Legal.{IsClaim, AreClaims}
use Rattle.ltp_session.specs.Cells.{cell, octet_in}
use Rattle.ltp_session.specs.RedPart.{or_else}
use Rattle.cells.proofs.CellLemmas.{octet_in-before_first, octet_in-past, octet_in-none, or_else-none}
use Rattle.ltp_audit.specs.declared.page.Page.{Page}
use Rattle.ltp_audit.specs.declared.page.TheConstants.{PAGE}
use Rattle.ltp_audit.specs.declared.places.TheConstants.{LAST}
use Rattle.ltp_audit.specs.declared.red_parts.RedParts.{RedParts}
use Rattle.ltp_audit.specs.Recorded.{agrees, are_held, are_claims_held}
use Rattle.ltp_audit.specs.Pages.{name_cmp, mark_cmp, same_name, cell_on, octet_at, with_octets, LaysOctets}
use Rattle.ltp_audit.specs.Held.{CoversHeld, HeldIn}
use Rattle.ltp_audit.proofs.KeyLemmas.{name_cmp-is, mark_cmp-is, same_name-is}
use Rattle.ltp_audit.proofs.PageLemmas.{octet_in-parts, agrees-parts, or_else-parts}
use Rattle.ltp_audit.proofs.HeldLemmas.{covers-more}

-- ---- places of one page

pub same-page : (at d k : ℕ) → k ≡ at + d → at % 64 + d < 64 → (k / 64 ≡ at / 64) × (k % 64 ≡ at % 64 + d)
same-page at d k is low = (omega arith, omega arith)

agrees-shift : (f g : ℕ → Option ℕ) (at from : ℕ) (body : List ℕ)
    → ((k m d : ℕ) → k ≡ at + d → m ≡ from + d → d < length body → f k ≡ g m)
    → agrees f at body ≡ agrees g from body
agrees-shift f g at from [] same = refl
agrees-shift f g at from (octet ∷ body) same =
    let first : f at ≡ g from = same at from 0 (omega arith) (omega arith) (omega arith) in
    let rest = agrees-shift f g (at + 1) (from + 1) body
    (λ k m d is also low. same k m (d + 1) (omega arith) (omega arith) (omega arith)) in
    rw (first, rest) refl

pub agrees-ext : (f g : ℕ → Option ℕ) (at : ℕ) (body : List ℕ) → ((k : ℕ) → f k ≡ g k) → agrees f at body ≡ agrees g at body
agrees-ext f g at [] same = refl
agrees-ext f g at (octet ∷ body) same =
    let rest = agrees-ext f g (at + 1) body same in
    rw (same at, rest) refl

pub agrees-none : (f : ℕ → Option ℕ) (at : ℕ) (body : List ℕ) → ((k : ℕ) → f k ≡ None) → agrees f at body ≡ true
agrees-none f at [] none = refl
agrees-none f at (octet ∷ body) none =
    let rest = agrees-none f (at + 1) body none in
    rw (none at, rest) refl

pub page-agrees : (parts : RedParts) (o n at : ℕ) (part : List ℕ) (page : Option Page)
    → page ≡ get mark_cmp parts.pages ((o, n), at / PAGE) → at % PAGE + length part ≤ PAGE
    → agrees (octet_at parts o n) at part ≡ agrees (cell_on page) (at % PAGE) part
unfolding octet_at
page-agrees parts o n at part page is fits = agrees-shift (octet_at parts o n) (cell_on page) at (at % PAGE) part
    (λ k m d at_k at_m low.
    let here = same-page at d k at_k (omega (arith, fits, low)) in
    ap (λ q. cell_on (get mark_cmp parts.pages ((o, n), q)) (k % PAGE)) here.0
    ∙ (ap (λ p. cell_on p (k % PAGE)) (sym is) ∙ ap (cell_on page) (here.1 ∙ sym at_m)))

octet_in-shift : (at r place s base : ℕ) (part : List ℕ) → at ≡ base + r → place ≡ base + s
    → octet_in r part s ≡ octet_in at part place
octet_in-shift at r place s base part at_is place_is =
    let low : nat_le at place ≡ nat_le r s = grind (arith, nat_tests) in
    let high : nat_lt place (at + length part) ≡ nat_lt s (r + length part) = grind (arith, nat_tests) in
    let index : place - at ≡ s - r = omega arith in
    rw (low, high, index) refl

octet_in-page : (at place : ℕ) (part : List ℕ) → at / 64 ≡ place / 64
    → octet_in (at % 64) part (place % 64) ≡ octet_in at part place
octet_in-page at place part same =
    octet_in-shift at (at % 64) place (place % 64) (64 * (at / 64)) part (omega arith) (omega arith)

octet_in-other : (at place : ℕ) (part : List ℕ) → at % 64 + length part ≤ 64 → (at / 64 == place / 64) ≡ false
    → octet_in at part place ≡ None
octet_in-other at place part fits other = by_place (cases_lt place at) (cases_lt place (at + length part)) where
  by_place : (place < at) ⊎ (at ≤ place) → (place < at + length part) ⊎ (at + length part ≤ place) → octet_in at part place ≡ None
  by_place (inl below) any = octet_in-before_first at part place below
  by_place (inr from) (inr past) = octet_in-past at part place past
  by_place (inr from) (inl low) =
      let same : at / 64 ≡ place / 64 = omega arith in
      absurd (let is = eq-eqb (at / 64) (place / 64) same in cc)

-- ---- a part is laid on a page

pub lays-page : (old new : RedParts) (originator session at : ℕ) (part : List ℕ) (before now : Page)
    → at % PAGE + length part ≤ PAGE
    → ((k : ℕ) → cell before.cells k ≡ cell_on (get mark_cmp old.pages ((originator, session), at / PAGE)) k)
    → ((k : ℕ) → cell now.cells k ≡ or_else (cell before.cells k) (octet_in (at % PAGE) part k))
    → ((q : (ℕ × ℕ) × ℕ) → get mark_cmp new.pages q
    ≡ cond (is_eq (mark_cmp ((originator, session), at / PAGE) q)) (Some now) (get mark_cmp old.pages q))
    → LaysOctets old originator session at part new
unfolding octet_at
lays-page old new originator session at part before now fits was is put o n place =
    ap (λ p. cell_on p (place % PAGE)) (put ((o, n), place / PAGE)
    ∙ ap (λ t. cond t (Some now) (get mark_cmp old.pages ((o, n), place / PAGE)))
    (mark_cmp-is originator session (at / PAGE) o n (place / PAGE)))
    ∙ by_test (same_name originator session o n) refl (at / PAGE == place / PAGE) refl where
      by_test : (s : Bool) → same_name originator session o n ≡ s → (t : Bool) → (at / PAGE == place / PAGE) ≡ t
          → cell_on (cond (s && t) (Some now) (get mark_cmp old.pages ((o, n), place / PAGE))) (place % PAGE)
          ≡ with_octets s (cell_on (get mark_cmp old.pages ((o, n), place / PAGE)) (place % PAGE)) at part place
      by_test true here true page =
          let names = same_name-is originator session o n here in
          let number : at / PAGE ≡ place / PAGE = eqb-true (at / PAGE) (place / PAGE) page in
          is (place % PAGE)
          ∙ (ap (λ c. or_else c (octet_in (at % PAGE) part (place % PAGE)))
          (was (place % PAGE)
          ∙ (ap (λ q. cell_on (get mark_cmp old.pages ((q, session), at / PAGE)) (place % PAGE)) names.0
          ∙ (ap (λ q. cell_on (get mark_cmp old.pages ((o, q), at / PAGE)) (place % PAGE)) names.1
          ∙ ap (λ q. cell_on (get mark_cmp old.pages ((o, n), q)) (place % PAGE)) number)))
          ∙ ap (or_else (cell_on (get mark_cmp old.pages ((o, n), place / PAGE)) (place % PAGE))) (octet_in-page at place part number))
      by_test true here false page =
          sym (ap (or_else (cell_on (get mark_cmp old.pages ((o, n), place / PAGE)) (place % PAGE)))
          (octet_in-other at place part fits page)
          ∙ or_else-none (cell_on (get mark_cmp old.pages ((o, n), place / PAGE)) (place % PAGE)))
      by_test false other t page = refl

-- ---- parts one after another

pub with-parts : (t : Bool) (held : Option ℕ) (at : ℕ) (part rest : List ℕ) (place : ℕ)
    → with_octets t (with_octets t held at part place) (at + length part) rest place
    ≡ with_octets t held at (part ++ rest) place
with-parts true held at part rest place =
    or_else-parts held (octet_in at part place) (octet_in (at + length part) rest place)
    ∙ ap (or_else held) (sym (octet_in-parts at part rest place))
with-parts false held at part rest place = refl

pub with-none : (t : Bool) (held : Option ℕ) (at place : ℕ) → with_octets t held at [] place ≡ held
with-none true held at place = ap (or_else held) (octet_in-none at place) ∙ or_else-none held
with-none false held at place = refl

pub with-more : (t : Bool) (held now : Option ℕ) (at : ℕ) (part rest left : List ℕ) (place : ℕ) (whole : Option ℕ)
    → now ≡ with_octets t held at part place → left ≡ part ++ rest → with_octets t held at left place ≡ whole
    → with_octets t now (at + length part) rest place ≡ whole
with-more t held now at part rest left place whole is parts so_far =
    ap (λ h. with_octets t h (at + length part) rest place) is
    ∙ (with-parts t held at part rest place ∙ (ap (λ b. with_octets t held at b place) (sym parts) ∙ so_far))

pub with-last : (t : Bool) (now : Option ℕ) (at place : ℕ) (left : List ℕ) (whole : Option ℕ) → left ≡ []
    → with_octets t now at left place ≡ whole → now ≡ whole
with-last t now at place left whole none so_far =
    sym (with-none t now at place) ∙ (ap (λ b. with_octets t now at b place) (sym none) ∙ so_far)

and-left : (a b : Bool) → a ≡ false → (a && b) ≡ false
and-left true b is = absurd (cc)
and-left false b is = refl

and-rest : (a b : Bool) → a ≡ true → (a && b) ≡ b
and-rest true b is = refl
and-rest false b is = absurd (cc)

-- a part that doesn't agree is enough
pub agrees-not : (f : ℕ → Option ℕ) (at : ℕ) (part rest left : List ℕ) (whole : Bool) → left ≡ part ++ rest
    → agrees f at part ≡ false → agrees f at left ≡ whole → false ≡ whole
agrees-not f at part rest left whole parts differs so_far =
    sym (ap (agrees f at) parts ∙ (agrees-parts f at part rest ∙ and-left _ _ differs)) ∙ so_far

-- a part agrees, and the rest is left
pub agrees-more : (f : ℕ → Option ℕ) (at : ℕ) (part rest left : List ℕ) (whole : Bool) → left ≡ part ++ rest
    → agrees f at part ≡ true → agrees f at left ≡ whole → agrees f (at + length part) rest ≡ whole
agrees-more f at part rest left whole parts same so_far =
    sym (and-rest (agrees f at part) _ same) ∙ (sym (agrees-parts f at part rest) ∙ (ap (agrees f at) (sym parts) ∙ so_far))

pub agrees-last : (f : ℕ → Option ℕ) (at : ℕ) (left : List ℕ) (whole : Bool) → left ≡ []
    → agrees f at left ≡ whole → true ≡ whole
agrees-last f at left whole none so_far = ap (agrees f at) (sym none) ∙ so_far

-- ---- ranges

pub covers-too : (old mid new : BTreeMap (ℕ × ℕ) (List Bool)) (originator session from to : ℕ) (places now : List Bool) (body : List ℕ)
    → ((octet : ℕ → Option ℕ) → HeldIn (get name_cmp old (originator, session)) octet → CoversHeld places octet)
    → ((o n : ℕ) → same_name originator session o n ≡ false → get name_cmp mid (o, n) ≡ get name_cmp old (o, n))
    → ((q : ℕ × ℕ) → get name_cmp new q ≡ cond (is_eq (name_cmp (originator, session) q)) (Some now) (get name_cmp mid q))
    → now ≡ with_covered from to places → to ≡ from + length body → to ≤ LAST
    → (o n : ℕ) (octet : ℕ → Option ℕ) → HeldIn (get name_cmp old (o, n)) octet
    → HeldIn (get name_cmp new (o, n)) (λ place. with_octets (same_name originator session o n) (octet place) from body place)
covers-too old mid new originator session from to places now body taken others put is ends fits o n octet held =
    subst (λ p. HeldIn p (λ place. with_octets (same_name originator session o n) (octet place) from body place))
    (sym (put (o, n) ∙ ap (λ t. cond t (Some now) (get name_cmp mid (o, n))) (name_cmp-is originator session o n)))
    (by_test (same_name originator session o n) refl) where
      by_test : (s : Bool) → same_name originator session o n ≡ s
          → HeldIn (cond s (Some now) (get name_cmp mid (o, n))) (λ place. with_octets s (octet place) from body place)
      by_test true here =
          let names = same_name-is originator session o n here in
          let held_here : HeldIn (get name_cmp old (originator, session)) octet =
          subst (λ q. HeldIn (get name_cmp old q) octet)
          (ap (λ q. (o, q)) (sym names.1) ∙ ap (λ q. (q, session)) (sym names.0)) held in
          covers-more places now octet from to body (taken octet held_here) ends fits is
      by_test false other = subst (λ p. HeldIn p octet) (sym (others o n other)) held

-- ---- claims

pub left-fits : (most end : ℕ) (claim : Claim) (claims left : List Claim) → AreClaims most end left → left ≡ claim ∷ claims
    → IsClaim most end claim × AreClaims most (claim.offset + claim.length) claims
left-fits most end claim claims left legal is = subst (AreClaims most end) is legal

pub claims-not : (octet : ℕ → Option ℕ) (lower : ℕ) (claim : Claim) (claims left : List Claim) (whole : Bool)
    → left ≡ claim ∷ claims → are_held octet (lower + claim.offset) claim.length ≡ false
    → are_claims_held octet lower left ≡ whole → false ≡ whole
claims-not octet lower claim claims left whole is none so_far =
    sym (ap (are_claims_held octet lower) is ∙ and-left _ _ none) ∙ so_far

pub claims-more : (octet : ℕ → Option ℕ) (lower : ℕ) (claim : Claim) (claims left : List Claim) (whole : Bool)
    → left ≡ claim ∷ claims → are_held octet (lower + claim.offset) claim.length ≡ true
    → are_claims_held octet lower left ≡ whole → are_claims_held octet lower claims ≡ whole
claims-more octet lower claim claims left whole is all so_far =
    sym (and-rest (are_held octet (lower + claim.offset) claim.length) _ all) ∙ (ap (are_claims_held octet lower) (sym is) ∙ so_far)

pub parts-of : (left part rest : List ℕ) (n : ℕ) → part ≡ take n left → rest ≡ drop n left → left ≡ part ++ rest
parts-of left part rest n front back = rw (front, back) (sym (take-append-drop n left))
