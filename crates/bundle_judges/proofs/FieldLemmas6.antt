-- Fields of few octets, and what is left of the table after them.

use Rattle.std.proofs.Common.{◌≡◌, ℕ, zero, suc, ◌+◌, ◌-◌, ◌<◌, ◌≤◌, Bool, true, false, ◌==◌, ◌||◌, List, [], ◌++◌, length, drop, Option, Ok, Err, inl, inr, refl, sym, ap, ◌∙◌, subst, arith}
use Rattle.std.proofs.lemmas.Bool.{lt-ltb, le-ltb}
use Rattle.std.proofs.lemmas.Bool.Decides.{nat_tests}
use Rattle.std.proofs.lemmas.List.{length-drop}
use Rattle.endpoint.specs.declared.extent.Fragment.{Fragment}
use Rattle.sdnv.specs.Reading.{read_of}
use Rattle.wire_fields.specs.Format.{Format, give, and_then}
use Rattle.wire_fields.specs.Words.{any_number}
use Rattle.wire_fields.specs.Refusal.{Stop, truncated}
use Rattle.wire_fields.specs.Reading.{read, IsOctets}
use Rattle.wire_fields.specs.Gives.{Continues}
use Rattle.wire_fields.proofs.ResultLemmas.{found, stopped, found_is, go_on_ok, go_on_err}
use Rattle.wire_fields.proofs.ContinueLemmas.{continues-in, continues-deep, fails-then}
use Rattle.bundle6.specs.declared.fault.Cause6.{Cause6}
use Rattle.bundle6.specs.declared.fault.Cause6.TheVariants.{Number}
use Rattle.bundle6.specs.declared.block.Seen.{Seen}
use Rattle.bundle6.specs.Bits.{has_bit}
use Rattle.bundle6.specs.Seen.{how_many, Follows}
use Rattle.bundle6.specs.Table.{kind_field, flags_field, count_field, size_field}
use Rattle.bundle6.specs.Judging.{judged_name, judged_head, judged_body}
use Rattle.bundle6.specs.Passing.{judged_on, left_at, next_stage}
use Rattle.bundle6.proofs.PassLemmas.{head-continues, head-fails, reference-continues, reference-fails, body-fails}
use Rattle.bundle_judges.specs.declared.stand6.Small.{Small}
use Rattle.bundle_judges.specs.declared.stand6.Small.TheVariants.{Block, References}
use Rattle.bundle_judges.specs.declared.stand6.Stage.{Stage}
use Rattle.bundle_judges.specs.declared.stand6.Stage.TheVariants.{Field, Body}
use Rattle.bundle_judges.specs.Field6.{small_field, octets_field, left_for, IsCut, Counts}
use Rattle.bundle_judges.proofs.MovedLemmas.{NoPlace, no_place-choice, IsShort, short-give, short-octet, short-number, short-that, short-then, short-more, short-choice}

-- ---- no field of few octets looks at its place

head-free : (seen : Seen) → NoPlace (judged_head 64 seen)
unfolding judged_head
head-free seen = (tt, λ kind. (tt, λ flags. (no_place-choice (has_bit 6 flags) (any_number Number) (give 0) tt tt, λ count. tt)))

name-free : (dictionary : List ℕ) → NoPlace (judged_name dictionary)
unfolding judged_name
name-free dictionary = (tt, λ scheme. (tt, λ ssp. tt))

pub small-free : (part : Option Fragment) (dictionary : List ℕ) (seen : Seen) (small : Small) → NoPlace (small_field part dictionary seen small)
unfolding small_field
small-free part dictionary seen Block = (head-free seen, λ h. tt)
small-free part dictionary seen (References left payload last) =
    no_place-choice (left == 0)
    (and_then (size_field part payload) (λ size. give (seen, Body size last)))
    (and_then (judged_name dictionary) (λ name. give (seen, Field (References (left - 1) payload last))))
    (tt, λ size. tt) (name-free dictionary, λ name. tt)

-- ---- each has at most 21 octets

head-short : (seen : Seen) → IsShort (judged_head 64 seen) 21
unfolding judged_head
head-short seen =
    short-then (kind_field 64 seen.paid seen.others) _ 1 20 (short-that _ _ 1 (short-octet Number)) (λ kind.
    short-then (flags_field (kind == 1 || seen.paid)) _ 10 10 (short-that _ _ 10 (short-number Number)) (λ flags.
    short-then (count_field (has_bit 6 flags)) _ 10 0
    (short-choice (has_bit 6 flags) (any_number Number) (give 0) 10 (short-number Number) (short-more (give 0) 0 10 (omega arith) (short-give 0)))
    (λ count. short-give _)))

name-short : (dictionary : List ℕ) → IsShort (judged_name dictionary) 21
unfolding judged_name
name-short dictionary =
    short-more _ 20 21 (omega arith)
    (short-then (any_number Number) _ 10 10 (short-number Number) (λ scheme.
    short-then _ _ 10 0 (short-that _ _ 10 (short-number Number)) (λ ssp. short-give tt)))

pub small-short : (part : Option Fragment) (dictionary : List ℕ) (seen : Seen) (small : Small) → IsShort (small_field part dictionary seen small) 21
unfolding small_field
small-short part dictionary seen Block = short-then (judged_head 64 seen) _ 21 0 (head-short seen) (λ h. short-give _)
small-short part dictionary seen (References left payload last) =
    short-choice (left == 0)
    (and_then (size_field part payload) (λ size. give (seen, Body size last)))
    (and_then (judged_name dictionary) (λ name. give (seen, Field (References (left - 1) payload last)))) 21
    (short-more _ 10 21 (omega arith) (short-then (size_field part payload) _ 10 0 (short-that _ _ 10 (short-number Number)) (λ size. short-give _)))
    (short-then (judged_name dictionary) _ 21 0 (name-short dictionary) (λ name. short-give _))

-- ---- none ends in no octets

some-left : (left : ℕ) → (suc left == 0) ≡ false
some-left left = grind (arith, nat_tests)

pub small-begun : (part : Option Fragment) (dictionary : List ℕ) (seen : Seen) (small : Small) → IsCut (small_field part dictionary seen small) []
unfolding small_field judged_head judged_name read_of
small-begun part dictionary seen Block = (0, refl)
small-begun part dictionary seen (References zero payload last) = (0, refl)
small-begun part dictionary seen (References (suc left) payload last) = (0, rw (some-left left) refl)

-- ---- what is left after it

abbrev field-value : Seen → Stage → Seen × Stage
field-value seen stage = (seen, stage)

continues-same : (part : Option Fragment) (dictionary : List ℕ) (f : Format Cause6 Seen) (text : List ℕ) (at : ℕ) (y x : Seen × Stage) (m to : ℕ)
    → y ≡ x → m ≡ to → Continues f at (left_for part dictionary y.0 y.1) m text → Continues f at (left_for part dictionary x.0 x.1) to text
continues-same part dictionary f text at y x m to first second goes more =
    goes more ∙ ap (λ (z : Seen × Stage). read (left_for part dictionary z.0 z.1) (text ++ more) m) first
    ∙ ap (λ k. read (left_for part dictionary x.0 x.1) (text ++ more) k) second

pub small-continues : (part : Option Fragment) (dictionary : List ℕ) (seen : Seen) (small : Small) (text : List ℕ) (at to : ℕ) (x : Seen × Stage)
    → IsOctets text → at ≤ length text → Counts small seen x.0 → read (small_field part dictionary seen small) text at ≡ found x to
    → Continues (left_for part dictionary seen (Field small)) at (left_for part dictionary x.0 x.1) to text
unfolding small_field left_for judged_body
small-continues part dictionary seen Block text at to x fits within follows is =
    let (h, here, there) = go_on_ok (read (judged_head 64 seen) text at)
    (λ h. found (field-value h.0.seen (Field (References h.0.count h.0.payload h.0.last))) h.1) (x, to) is in
    let same = found_is {E = ℕ × Stop Cause6} (field-value h.0.seen (Field (References h.0.count h.0.payload h.0.last))) x h.1 to there in
    let counts : Follows 64 seen h.0.seen = subst (λ (y : Seen × Stage). Follows 64 seen y.0) (sym same.0) follows in
    continues-same part dictionary (left_for part dictionary seen (Field Block)) text at _ x h.1 to same.0 same.1
    (head-continues 64 part dictionary text seen h.0 at h.1 fits within counts here)
small-continues part dictionary seen (References zero payload last) text at to x fits within follows is =
    let (size, here, there) = go_on_ok (read (size_field part payload) text at)
    (λ size. found (field-value seen (Body size.0 last)) size.1) (x, to) is in
    let same = found_is {E = ℕ × Stop Cause6} (field-value seen (Body size.0 last)) x size.1 to there in
    continues-same part dictionary (left_for part dictionary seen (Field (References zero payload last))) text at _ x size.1 to same.0 same.1
    (continues-deep (size_field part payload) octets_field (λ body. give (seen, last))
    (judged_on (64 + 1 - how_many seen) 64 part dictionary) text at size.1 size.0 fits within here)
small-continues part dictionary seen (References (suc left) payload last) text at to x fits within follows is =
    let (name, here, there) = go_on_ok (read (judged_name dictionary) text at)
    (λ name. found (field-value seen (Field (References (suc left - 1) payload last))) name.1) (x, to) (rw (some-left left) at is) in
    let same = found_is {E = ℕ × Stop Cause6} (field-value seen (Field (References (suc left - 1) payload last))) x name.1 to there in
    continues-same part dictionary (left_for part dictionary seen (Field (References (suc left) payload last))) text at _ x name.1 to same.0 same.1
    (reference-continues 64 part dictionary text seen (suc left) payload last at name.1 fits within (omega arith) here)

pub small-fails : (part : Option Fragment) (dictionary : List ℕ) (seen : Seen) (small : Small) (text : List ℕ) (at : ℕ) (s : ℕ × Stop Cause6)
    → read (small_field part dictionary seen small) text at ≡ Err s
    → read (left_for part dictionary seen (Field small)) text at ≡ Err s
unfolding small_field left_for judged_body
small-fails part dictionary seen Block text at s is =
    elim (go_on_err (read (judged_head 64 seen) text at)
    (λ h. found (field-value h.0.seen (Field (References h.0.count h.0.payload h.0.last))) h.1) s is) [
      | inl here ↦ head-fails 64 part dictionary text seen at s here
      | inr later ↦ let no = later.2 in absurd (cc)
    ]
small-fails part dictionary seen (References zero payload last) text at s is =
    elim (go_on_err (read (size_field part payload) text at)
    (λ size. found (field-value seen (Body size.0 last)) size.1) s is) [
      | inl here ↦ body-fails 64 part dictionary text seen payload last at s (fails-then (size_field part payload) octets_field text at s here)
      | inr later ↦ let no = later.2 in absurd (cc)
    ]
small-fails part dictionary seen (References (suc left) payload last) text at s is =
    elim (go_on_err (read (judged_name dictionary) text at)
    (λ name. found (field-value seen (Field (References (suc left - 1) payload last))) name.1) s (rw (some-left left) at is)) [
      | inl here ↦ reference-fails 64 part dictionary text seen (suc left) payload last at s (omega arith) here
      | inr later ↦ let no = later.2 in absurd (cc)
    ]

-- ---- the octets of a block

octets-there : (size : ℕ) (text : List ℕ) (at : ℕ) → at + size ≤ length text → read (octets_field size) text at ≡ Ok (tt, at + size)
octets-there size text at within =
    let long : length (drop at text) ≡ length text - at = length-drop at text in
    rw (le-ltb (length (drop at text)) size (omega (arith, long, within))) refl

-- they came, and nothing or a block follows
pub octets-continue : (part : Option Fragment) (dictionary : List ℕ) (seen : Seen) (size : ℕ) (last : Bool) (text : List ℕ) (at : ℕ)
    → IsOctets text → at + size ≤ length text
    → Continues (left_for part dictionary seen (Body size last)) at (left_at 64 part dictionary seen (next_stage last)) (at + size) text
unfolding left_for
octets-continue part dictionary seen size last text at fits within more =
    continues-in (octets_field size) (λ body. give (seen, last)) (judged_on (64 + 1 - how_many seen) 64 part dictionary)
    text at (at + size) tt fits (omega (arith, within)) (octets-there size text at within) more
    ∙ on-last last
  where
    on-last : (last : Bool)
        → read (judged_on (64 + 1 - how_many seen) 64 part dictionary (seen, last)) (text ++ more) (at + size)
        ≡ read (left_at 64 part dictionary seen (next_stage last)) (text ++ more) (at + size)
    on-last true = refl
    on-last false = refl

pub octets-cut : (part : Option Fragment) (dictionary : List ℕ) (seen : Seen) (size : ℕ) (last : Bool) (text : List ℕ) (at : ℕ)
    → at ≤ length text → length text < at + size → read (left_for part dictionary seen (Body size last)) text at ≡ stopped at truncated
unfolding left_for
octets-cut part dictionary seen size last text at within short =
    let long : length (drop at text) ≡ length text - at = length-drop at text in
    rw (lt-ltb (length (drop at text)) size (omega (arith, long, within, short))) refl
