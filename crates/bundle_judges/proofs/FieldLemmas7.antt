-- Fields of few octets, and what is left of the table after them.

use Rattle.std.proofs.Common.{◌≡◌, ℕ, ◌+◌, ◌-◌, ◌^◌, ◌%◌, ◌<◌, ◌≤◌, ltb, leb, Bool, true, false, ◌==◌, ◌&&◌, ◌||◌, if◌then◌else◌, is_ok, List, [], ◌∷◌, length, take, drop, Option, None, Result, Ok, Err, refl, sym, ap, subst, arith, take-append-drop}
use Rattle.std.proofs.lemmas.Bool.{false≢true, true≢false, leb-true, le-ltb, lt-ltb, ne_eqb}
use Rattle.std.proofs.lemmas.List.{length-drop, length-take-le}
use Rattle.std.proofs.Math.Nat.{pow-le-pow_right}
use Rattle.endpoint.specs.declared.extent.Fragment.{Fragment}
use Rattle.endpoint.specs.Endpoints.{is_ssp}
use Rattle.cbor_lite.specs.Head.{head, EndsInsideHead}
use Rattle.wire_fields.specs.declared.lead.UnsignedOrText.{UnsignedOrText}
use Rattle.wire_fields.specs.declared.lead.UnsignedOrText.TheVariants as leads
use Rattle.wire_fields.specs.Kind.{octets, unsigned_or_text, SpellsKind}
use Rattle.wire_fields.specs.Kind as kinds
use Rattle.wire_fields.specs.Format.{Format, give, field, and_then}
use Rattle.wire_fields.specs.Words.{needs, any_octets, choice}
use Rattle.wire_fields.specs.Refusal.{Stop, truncated, because}
use Rattle.wire_fields.specs.Reading.{read, go_on, IsOctets}
use Rattle.wire_fields.specs.Whole.{ended}
use Rattle.wire_fields.proofs.StayLemmas.{octets-front}
use Rattle.wire_fields.proofs.TextLemmas.{octets-drop}
use Rattle.wire_fields.proofs.ResultLemmas.{found, stopped, go_on_ok}
use Rattle.wire_fields.proofs.ReadLemmas.{read-found, read-refused}
use Rattle.bundle7.specs.declared.fault.Cause7.{Cause7}
use Rattle.bundle7.specs.declared.fault.Cause7.TheVariants.{Eid, ExtensionBody}
use Rattle.bundle7.specs.declared.fault.Cause7.TheVariants as causes
use Rattle.bundle7.specs.declared.seen.Seen.{Seen}
use Rattle.bundle7.specs.Eid.{dtn_lead, ssp, dtn_rest, dtn_name, ipn_name, eid}
use Rattle.bundle7.specs.Body.{age, hop, is_whole, is_body}
use Rattle.bundle7.specs.Table.{is_single, lead, body_field}
use Rattle.bundle7.specs.Judging.{judged_front}
use Rattle.bundle7.specs.Passing.{blocks_left}
use Rattle.bundle_judges.specs.declared.sum7.Sum.{Sum}
use Rattle.bundle_judges.specs.declared.sum7.Sum.TheVariants.{Unchecked, Short, Long}
use Rattle.bundle_judges.specs.declared.stand7.Small.{Small}
use Rattle.bundle_judges.specs.declared.stand7.Small.TheVariants.{Block, Item, Check, Octets, End}
use Rattle.bundle_judges.specs.Sum7.{check_head, check_octets}
use Rattle.bundle_judges.specs.Field7.{small_field, most_octets}
use Rattle.bundle_judges.proofs.MovedLemmas.{NoPlace, IsShort, short-give, short-octet, short-that, short-then, short-more}

-- ---- no field of few octets looks at its place

front-free : (part : Option Fragment) (left : ℕ) (seen : Seen) → NoPlace (judged_front part left seen)
unfolding judged_front lead
front-free part left seen = ((tt, λ items. (tt, λ kind. (tt, λ number. (tt, λ flags. (tt, λ crc. tt))))), λ front. (tt, λ size. tt))

head-free : (sum : Sum) → NoPlace (check_head sum)
head-free Unchecked = tt
head-free (Short r) = (tt, λ size. tt)
head-free (Long r) = (tt, λ size. tt)

octets-free : (sum : Sum) → NoPlace (check_octets sum)
octets-free Unchecked = tt
octets-free (Short r) = (tt, λ octets. tt)
octets-free (Long r) = (tt, λ octets. tt)

pub small-free : (part : Option Fragment) (seen : Seen) (small : Small) → NoPlace (small_field part seen small)
unfolding small_field
small-free part seen Block = (front-free part (blocks_left 64 seen) seen, λ front. tt)
small-free part seen (Item front sum) = (tt, λ body. tt)
small-free part seen (Check lead sum) = (head-free sum, λ head. tt)
small-free part seen (Octets lead sum) = (octets-free sum, λ octets. tt)
small-free part seen End = (tt, λ end. tt)

-- ---- how many octets each has

head-most : (kind n : ℕ) → length (head kind n) ≤ 9
head-most kind n =
    either (ltb n 24) _ _ (omega arith) (either (ltb n (2 ^ 8)) _ _ (omega arith) (either (ltb n (2 ^ 16)) _ _ (omega arith)
    (either (ltb n (2 ^ 32)) _ _ (omega arith) (omega arith))))
  where
    either : (b : Bool) (x y : List ℕ) → length x ≤ 9 → length y ≤ 9 → length (if b then x else y) ≤ 9
    either true x y first second = first
    either false x y first second = second

head-cut : (kind : ℕ) (w : List ℕ) → EndsInsideHead kind w → length w < 9
head-cut kind [] ends = omega arith
head-cut kind (first ∷ rest) ends =
    let three : first % 32 - 24 ≤ 3 = omega (arith, ends.2) in
    let most : 2 ^ (first % 32 - 24) ≤ 2 ^ 3 = pow-le-pow_right {n = 2} (omega arith) three in
    omega (arith, ends.3, most)

short-head : {C : Type 0} (kind : ℕ) (cause : C) → IsShort (field (kinds.head kind) cause) 9
short-head kind cause = record {
  ends = λ text at to x fits within is.
      let there = read-found (field (kinds.head kind) cause) text at x to fits within is in
      let long : length (take (to - at) (drop at text)) ≡ to - at =
      length-take-le (to - at) (drop at text) (omega (arith, there.within, length-drop at text)) in
      let spelt : length (take (to - at) (drop at text)) ≡ length (head kind x) = ap length there.spells.spelt in
      (omega (arith, long, spelt, head-most kind x, there.behind), there.within);
  cut = λ text at p fits within is.
      let there = read-refused (field (kinds.head kind) cause) text at p truncated fits within is in
      omega (arith, head-cut kind (drop at text) there.1, length-drop at text, within);
}

short-octets : {C : Type 0} (n : ℕ) (cause : C) → IsShort (field (octets n) cause) n
short-octets n cause = record {
  ends = λ text at to x fits within is.
      let there = read-found (field (octets n) cause) text at x to fits within is in
      let long : length (take (to - at) (drop at text)) ≡ to - at =
      length-take-le (to - at) (drop at text) (omega (arith, there.within, length-drop at text)) in
      (omega (arith, long, there.spells.1, there.behind), there.within);
  cut = λ text at p fits within is.
      let there = read-refused (field (octets n) cause) text at p truncated fits within is in
      omega (arith, there.1, length-drop at text, within);
}

front-short : (part : Option Fragment) (left : ℕ) (seen : Seen) → IsShort (judged_front part left seen) 54
unfolding judged_front lead
front-short part left seen =
    short-then _ _ 45 9
    (short-then _ _ 9 36 (short-that _ _ 9 (short-head 4 _)) (λ items.
    short-then _ _ 9 27 (short-that _ _ 9 (short-head 0 _)) (λ kind.
    short-then _ _ 9 18 (short-that _ _ 9 (short-head 0 _)) (λ number.
    short-then _ _ 9 9 (short-head 0 _) (λ flags.
    short-then _ _ 9 0 (short-that _ _ 9 (short-head 0 _)) (λ crc. short-give _))))))
    (λ front. short-then _ _ 9 0 (short-that _ _ 9 (short-head 2 _)) (λ size. short-give _))

check_head-short : (sum : Sum) → IsShort (check_head sum) 9
check_head-short Unchecked = short-more (give tt) 0 9 (omega arith) (short-give tt)
check_head-short (Short r) = short-then _ _ 9 0 (short-that _ _ 9 (short-head 2 _)) (λ size. short-give tt)
check_head-short (Long r) = short-then _ _ 9 0 (short-that _ _ 9 (short-head 2 _)) (λ size. short-give tt)

check_octets-short : (sum : Sum) → IsShort (check_octets sum) 4
check_octets-short Unchecked = short-more (give tt) 0 4 (omega arith) (short-give tt)
check_octets-short (Short r) =
    short-more _ 2 4 (omega arith) (short-then _ _ 2 0 (short-that _ _ 2 (short-octets 2 _)) (λ octets. short-give tt))
check_octets-short (Long r) = short-then _ _ 4 0 (short-that _ _ 4 (short-octets 4 _)) (λ octets. short-give tt)

pub small-short : (part : Option Fragment) (seen : Seen) (small : Small) → IsShort (small_field part seen small) (most_octets small)
unfolding small_field
small-short part seen Block = short-then _ _ 54 0 (front-short part (blocks_left 64 seen) seen) (λ front. short-give _)
small-short part seen (Item front sum) =
    short-more _ (front.size + 0) front.size (omega arith)
    (short-then _ _ front.size 0 (short-that _ _ front.size (short-octets front.size _)) (λ body. short-give _))
small-short part seen (Check lead sum) = short-then _ _ 9 0 (check_head-short sum) (λ head. short-give _)
small-short part seen (Octets lead sum) = short-then _ _ 4 0 (check_octets-short sum) (λ octets. short-give _)
small-short part seen End = short-then _ _ 1 0 (short-that _ _ 1 (short-octet _)) (λ end. short-give _)

-- ---- bodies that are too long to be one item

-- fields end after so many octets at most
pub record EndsBy {A : Type 0} (f : Format Cause7 A) (n : ℕ) : Type 0 where
  pub ends : (text : List ℕ) (at to : ℕ) (x : A) → IsOctets text → at ≤ length text → read f text at ≡ found x to
      → (to ≤ at + n) × (to ≤ length text)

by-short : {A : Type 0} (f : Format Cause7 A) (n : ℕ) → IsShort f n → EndsBy f n
by-short f n short = record { ends = short.ends }

by-more : {A : Type 0} (f : Format Cause7 A) (m n : ℕ) → m ≤ n → EndsBy f m → EndsBy f n
by-more f m n more by = record {
  ends = λ text at to x fits within is. let low = by.ends text at to x fits within is in (omega (arith, low.0, more), low.1);
}

by-then : {A B : Type 0} (f : Format Cause7 A) (g : A → Format Cause7 B) (m n : ℕ) → EndsBy f m → ((x : A) → EndsBy (g x) n) → EndsBy (and_then f g) (m + n)
by-then f g m n first second = record {
  ends = λ text at to x fits within is.
      let (y, here, there) = go_on_ok (read f text at) (λ x. read (g x.0) text x.1) (x, to) is in
      let low = first.ends text at y.1 y.0 fits within here in
      let high = (second y.0).ends text y.1 to x fits low.1 there in
      (omega (arith, low.0, high.0), high.1);
}

by-choice : {A : Type 0} (t : Bool) (f g : Format Cause7 A) (n : ℕ) → EndsBy f n → EndsBy g n → EndsBy (choice t f g) n
by-choice true f g n first second = first
by-choice false f g n first second = second

second-of : (a b c d : Bool) → (a && b && c && d) ≡ true → b ≡ true
second-of true true c d is = refl
second-of true false c d is = absurd (false≢true is)
second-of false b c d is = absurd (false≢true is)

need-holds : (b : Bool) (cause : Cause7) → needs b cause ≡ None → b ≡ true
need-holds true cause is = refl
need-holds false cause is = absurd (cc)

by-ssp : (n : ℕ) → EndsBy (ssp n) 1023
unfolding is_ssp
by-ssp n = record {
  ends = λ text at to x fits within is.
      let there = read-found (ssp n) text at x to fits within is in
      let long : length (take (to - at) (drop at text)) ≡ to - at =
      length-take-le (to - at) (drop at text) (omega (arith, there.within, length-drop at text)) in
      let same : length (take (to - at) (drop at text)) ≡ length x = ap length there.spells.0.0 in
      let most = leb-true (length x) 1023 (second-of (leb 1 (length x)) (leb (length x) 1023) _ _ (need-holds (is_ssp x) Eid there.spells.1)) in
      (omega (arith, long, same, most, there.behind), there.within);
}

lead-head : (lead : UnsignedOrText) (w : List ℕ) → SpellsKind unsigned_or_text w lead → length w ≤ 9
lead-head (leads.Unsigned n) w spells = let same : length w ≡ length (head 0 n) = ap length spells.spelt in omega (arith, same, head-most 0 n)
lead-head (leads.Text n) w spells = let same : length w ≡ length (head 3 n) = ap length spells.spelt in omega (arith, same, head-most 3 n)

by-lead : EndsBy dtn_lead 9
by-lead = record {
  ends = λ text at to x fits within is.
      let there = read-found dtn_lead text at x to fits within is in
      let long : length (take (to - at) (drop at text)) ≡ to - at =
      length-take-le (to - at) (drop at text) (omega (arith, there.within, length-drop at text)) in
      (omega (arith, long, lead-head x _ there.spells.0, there.behind), there.within);
}

by-rest : (lead : UnsignedOrText) → EndsBy (dtn_rest lead) 1023
by-rest (leads.Unsigned n) = by-more _ 0 1023 (omega arith) (by-short _ 0 (short-give _))
by-rest (leads.Text n) = by-then (ssp n) _ 1023 0 (by-ssp n) (λ octets. by-short _ 0 (short-give _))

by-eid : EndsBy eid 1050
unfolding eid dtn_name ipn_name
by-eid =
    by-then _ _ 9 1041 (by-short _ 9 (short-that _ _ 9 (short-head 4 _))) (λ items.
    by-then _ _ 9 1032 (by-short _ 9 (short-that _ _ 9 (short-head 0 _))) (λ number.
    by-choice (number == 1) dtn_name ipn_name 1032
    (by-then dtn_lead dtn_rest 9 1023 by-lead by-rest)
    (by-more ipn_name 27 1032 (omega arith) (by-short _ 27
    (short-then _ _ 9 18 (short-that _ _ 9 (short-head 4 _)) (λ items.
    short-then _ _ 9 9 (short-head 0 _) (λ node.
    short-then _ _ 9 0 (short-head 0 _) (λ service. short-give _))))))))

by-age : EndsBy age 1050
by-age = by-more age 9 1050 (omega arith) (by-short age 9 (short-head 0 _))

by-hop : EndsBy hop 1050
unfolding hop
by-hop =
    by-more _ 27 1050 (omega arith) (by-short _ 27
    (short-then _ _ 9 18 (short-that _ _ 9 (short-head 4 _)) (λ items.
    short-then _ _ 9 9 (short-that _ _ 9 (short-head 0 _)) (λ limit.
    short-then _ _ 9 0 (short-head 0 _) (λ count. short-give _)))))

whole-never : {A : Type 0} (f : Format Cause7 A) (n : ℕ) (w : List ℕ) → EndsBy f n → IsOctets w → n < length w → is_whole f w ≡ false
whole-never {A} f n w by fits long = told (read f w 0) refl
  where
    told : (r : Result (A × ℕ) (ℕ × Stop Cause7)) → read f w 0 ≡ r → is_ok (go_on r (ended ExtensionBody w)) ≡ false
    told (Ok x) is =
        let low = by.ends w 0 x.1 x.0 fits (omega arith) is in
        let other : (x.1 == length w) ≡ false = ne_eqb x.1 (length w) (λ same. omega (arith, same, low.0, long)) in
        rw other refl
    told (Err e) is = refl

pub item-never : (kind : ℕ) (w : List ℕ) → IsOctets w → is_single kind ≡ true → 1050 < length w → is_body kind w ≡ false
item-never kind w fits single long =
    by (kind == 6) (kind == 7) (kind == 10) single
  where
    by : (a b c : Bool) → (a || b || c) ≡ true
        → (if a then is_whole eid w else if b then is_whole age w else if c then is_whole hop w else true) ≡ false
    by true b c is = whole-never eid 1050 w by-eid fits long
    by false true c is = whole-never age 1050 w by-age fits long
    by false false true is = whole-never hop 1050 w by-hop fits long
    by false false false is = absurd (false≢true is)

any-body : (kind : ℕ) (w : List ℕ) → is_single kind ≡ false → is_body kind w ≡ true
any-body kind w other = by (kind == 6) (kind == 7) (kind == 10) other
  where
    by : (a b c : Bool) → (a || b || c) ≡ false
        → (if a then is_whole eid w else if b then is_whole age w else if c then is_whole hop w else true) ≡ true
    by true b c is = absurd (true≢false is)
    by false true c is = absurd (true≢false is)
    by false false true is = absurd (true≢false is)
    by false false false is = refl

-- ---- the octets of a body

octets-there : (size : ℕ) (text : List ℕ) (at : ℕ) → at + size ≤ length text
    → read (any_octets size causes.Body) text at ≡ found (take size (drop at text)) (at + size)
octets-there size text at within =
    let long : length (drop at text) ≡ length text - at = length-drop at text in
    rw (le-ltb (length (drop at text)) size (omega (arith, long, within))) refl

pub body-there : (kind size : ℕ) (text : List ℕ) (at : ℕ) → is_single kind ≡ false → at + size ≤ length text
    → read (body_field kind size) text at ≡ found (take size (drop at text)) (at + size)
body-there kind size text at other within =
    rw (octets-there size text at within, any-body kind (take size (drop at text)) other) refl

pub body-never : (kind size : ℕ) (text : List ℕ) (at : ℕ) → IsOctets text → is_single kind ≡ true → 1050 < size → at + size ≤ length text
    → read (body_field kind size) text at ≡ stopped at (because ExtensionBody)
body-never kind size text at fits single long within =
    let w = take size (drop at text) in
    let size-of : length w ≡ size = length-take-le size (drop at text) (omega (arith, length-drop at text, within)) in
    let few : IsOctets w = octets-front w (drop size (drop at text))
    (subst IsOctets (sym (take-append-drop size (drop at text))) (octets-drop at text fits)) in
    rw (octets-there size text at within, item-never kind w few single (omega (arith, size-of, long))) refl

pub body-cut : (kind size : ℕ) (text : List ℕ) (at : ℕ) → at ≤ length text → length text < at + size
    → read (body_field kind size) text at ≡ stopped at truncated
body-cut kind size text at within short =
    let long : length (drop at text) ≡ length text - at = length-drop at text in
    rw (lt-ltb (length (drop at text)) size (omega (arith, long, within, short))) refl
