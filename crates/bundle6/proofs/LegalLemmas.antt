-- What octets spell is a legal bundle.

use Rattle.std.proofs.Common.{◌≡◌, ℕ, ◌+◌, ◌/◌, ◌%◌, ◌^◌, ◌<◌, ◌≤◌, suc, zero, Bool, true, false, ◌&&◌, ◌||◌, not, cond, eqb, ltb}
use Rattle.std.proofs.Common.{List, [], ◌∷◌, ◌++◌, length, take, drop, take-append-drop, refl, sym, ap, ◌∙◌, arith, length-append}
use Rattle.std.proofs.Common.{Option, None, Some, Result, Ok, Err}
use Rattle.std.specs.Prelude.{IfOk, is_some}
use Rattle.std.specs.List.{All, count_by}
use Rattle.std.proofs.lemmas.Bool.{eqb-true, eqb-false, ne_eqb, ltb-true, leb-true}
use Rattle.std.proofs.lemmas.List.Elements.{All-push}
use Rattle.std.proofs.lemmas.List.Folds.{list_any-append}
use Rattle.std.proofs.lemmas.List.Sums.{length-filter}
use Rattle.std.proofs.lemmas.List.Filters.{length-filter_both}
use Rattle.endpoint.specs.declared.name.Endpoint.{Endpoint}
use Rattle.endpoint.specs.declared.name.Endpoint.TheVariants.{Null, Ipn}
use Rattle.endpoint.specs.declared.extent.Fragment.{Fragment}
use Rattle.endpoint.specs.Endpoints.{IsEndpoint}
use Rattle.endpoint.proofs.ReadingLemmas.{named-found}
use Rattle.wire_fields.specs.Format.{give, Spells}
use Rattle.wire_fields.specs.Refusal.{Begins}
use Rattle.wire_fields.specs.Reading.{IsOctets}
use Rattle.wire_fields.proofs.StayLemmas.{octets-parts}
use Rattle.wire_fields.specs.Words.{needs, ◌also◌, optional, repeated, one_more, until, choice}
use Rattle.bundle6.specs.declared.fault.Cause6.TheVariants.{Names, SecondPayload, TooManyBlocks, NoPayload, BlockRefs, FragmentRange}
use Rattle.bundle6.specs.declared.fault.Fail6.{Fail6}
use Rattle.bundle6.specs.declared.names.Offsets.{Offsets}
use Rattle.bundle6.specs.declared.names.Pairs.{Pairs}
use Rattle.bundle6.specs.declared.names.Named.{Named}
use Rattle.bundle6.specs.declared.primary.Primary6.{Primary6}
use Rattle.bundle6.specs.declared.block.Block6.{Block6}
use Rattle.bundle6.specs.declared.bundle.Bundle6.{Bundle6}
use Rattle.bundle6.specs.Bits.{has_bit, without}
use Rattle.bundle6.specs.Names.{text_at, named_by, resolve, resolves, name_of, all_resolve}
use Rattle.bundle6.specs.Table.{offsets, four_names, dictionary, fragment, primary, is_payload, has_payload, others, name, references, is_within, count_field, block, next_block, bundle}
use Rattle.bundle6.specs.Legal.{IsPart, IsLegalPrimary, IsLegalBlock, IsWithin, IsLegal, Spells6}
use Rattle.bundle6.proofs.BlocksLemmas.{count-push, others-push}

-- ---- names

named_by-legal : (scheme ssp : Option (List ℕ)) (endpoint : Endpoint) → named_by scheme ssp ≡ Some endpoint → IsEndpoint endpoint
named_by-legal None ssp endpoint is = cc
named_by-legal (Some scheme) None endpoint is = cc
named_by-legal (Some scheme) (Some ssp) endpoint is = (named-found scheme ssp endpoint is).legal

numbered-legal : (b : Bool) (pair : Offsets) → pair.scheme < 2 ^ 64 → pair.ssp < 2 ^ 64
    → IsEndpoint (cond b Null (Ipn pair.scheme pair.ssp))
numbered-legal true pair low small = tt
numbered-legal false pair low small = (low, small)

-- two numbers that name an endpoint name a legal one
name_of-legal : (texts : List ℕ) (pair : Offsets) → pair.scheme < 2 ^ 64 → pair.ssp < 2 ^ 64
    → resolves texts pair ≡ true → IsEndpoint (name_of texts pair)
unfolding resolve
name_of-legal texts pair low small is = by (eqb (length texts) 0) refl
  where
    by : (t : Bool) → eqb (length texts) 0 ≡ t → IsEndpoint (name_of texts pair)
    by true none = rw none (numbered-legal (eqb pair.scheme 0 && eqb pair.ssp 0) pair low small)
    by false some = from (resolve texts pair) refl
      where
        from : (o : Option Endpoint) → resolve texts pair ≡ o → IsEndpoint (name_of texts pair)
        from None missing = absurd (let h : is_some (resolve texts pair) ≡ false = rw missing refl in cc)
        from (Some endpoint) found =
            let named : named_by (text_at texts pair.scheme) (text_at texts pair.ssp) ≡ Some endpoint = rw some at found in
            rw found (named_by-legal (text_at texts pair.scheme) (text_at texts pair.ssp) endpoint named)

-- ---- the primary block

offsets-small : (front w : List ℕ) (pair : Offsets) → Spells offsets front w pair
    → (pair.scheme < 2 ^ 64) × (pair.ssp < 2 ^ 64)
unfolding offsets
offsets-small front w pair s = rw s.5.5.1 (s.4.small, s.5.4.small)

-- the numbers of the four names
record AreSmall (pairs : Pairs) : Type 0 where
  destination : (pairs.destination.scheme < 2 ^ 64) × (pairs.destination.ssp < 2 ^ 64)
  source : (pairs.source.scheme < 2 ^ 64) × (pairs.source.ssp < 2 ^ 64)
  report_to : (pairs.report_to.scheme < 2 ^ 64) × (pairs.report_to.ssp < 2 ^ 64)
  custodian : (pairs.custodian.scheme < 2 ^ 64) × (pairs.custodian.ssp < 2 ^ 64)

four_names-small : (front w : List ℕ) (pairs : Pairs) → Spells four_names front w pairs → AreSmall pairs
unfolding four_names
four_names-small front w pairs s =
    let s1 = s.5 in let s2 = s1.5 in let s3 = s2.5 in
    rw s3.5.1 (record {
      destination = offsets-small _ _ _ s.4;
      source = offsets-small _ _ _ s1.4;
      report_to = offsets-small _ _ _ s2.4;
      custodian = offsets-small _ _ _ s3.4;
    })

-- the four endpoints
record AreNames (names : Named) : Type 0 where
  destination : IsEndpoint names.destination
  source : IsEndpoint names.source
  report_to : IsEndpoint names.report_to
  custodian : IsEndpoint names.custodian

-- a condition that doesn't fail
met : {C : Type 0} (b : Bool) (cause : C) → needs b cause ≡ None → b ≡ true
met true cause is = refl
met false cause is = cc

four : (a b d e : Bool) → (a && b && d && e) ≡ true → (a ≡ true) × (b ≡ true) × (d ≡ true) × (e ≡ true)
four true true true true is = (refl, refl, refl, refl)
four true true true false is = cc
four true true false e is = cc
four true false d e is = cc
four false b d e is = cc

dictionary-legal : (front w : List ℕ) (pairs : Pairs) (x : Named × List ℕ) → AreSmall pairs → Spells (dictionary pairs) front w x
    → AreNames x.0
unfolding dictionary
dictionary-legal front w pairs x small s =
    let texts = s.5.2 in
    let all = four (resolves texts pairs.destination) (resolves texts pairs.source) (resolves texts pairs.report_to)
    (resolves texts pairs.custodian) (met (all_resolve texts pairs) Names s.5.4.1) in
    rw s.5.5.1 (record {
      destination = name_of-legal texts pairs.destination small.destination.0 small.destination.1 all.0;
      source = name_of-legal texts pairs.source small.source.0 small.source.1 all.1;
      report_to = name_of-legal texts pairs.report_to small.report_to.0 small.report_to.1 all.2;
      custodian = name_of-legal texts pairs.custodian small.custodian.0 small.custodian.1 all.3;
    })

fragment-legal : (b : Bool) (front w : List ℕ) (part : Option Fragment) → Spells (optional b fragment) front w part
    → (b ≡ is_some part) × IsPart part
unfolding fragment
fragment-legal true front w part s =
    rw s.5.1 (refl, rw s.4.5.5.1 (s.4.4.small, s.4.5.4.small))
fragment-legal false front w part s = rw s.1 (refl, tt)

primary-legal : (front w : List ℕ) (x : Primary6 × List ℕ) → Spells primary front w x → IsLegalPrimary x.0
unfolding primary
primary-legal front w x s =
    let flags = s.5 in
    let pairs = flags.5.5.5 in
    let seconds = pairs.5 in
    let sequence = seconds.5 in
    let lifetime = sequence.5 in
    let names = lifetime.5 in
    let part = names.5 in
    let legal = dictionary-legal _ _ pairs.2 names.2 (four_names-small _ _ pairs.2 pairs.4) names.4 in
    let cut = fragment-legal (has_bit 0 flags.2) _ _ part.2 part.4 in
    rw part.5.5.5.1 (record {
      flags = flags.4.small;
      destination = legal.destination;
      source = legal.source;
      report_to = legal.report_to;
      custodian = legal.custodian;
      seconds = seconds.4.small;
      sequence = sequence.4.small;
      lifetime = lifetime.4.small;
      fragment_bit = cut.0;
      fragment = cut.1;
    })

-- ---- blocks

name-legal : (texts front w : List ℕ) (endpoint : Endpoint) → Spells (name texts) front w endpoint → IsEndpoint endpoint
unfolding name
name-legal texts front w endpoint s =
    let pair : Offsets = record { scheme = s.2; ssp = s.5.2 } in
    rw s.5.5.1 (name_of-legal texts pair s.4.small s.5.4.0.small (met (resolves texts pair) BlockRefs s.5.4.1))

repeated-legal : (n : ℕ) (texts front w : List ℕ) (earlier refs : List Endpoint) → All IsEndpoint earlier
    → Spells (repeated n (one_more (λ others. name texts)) earlier) front w refs
    → All IsEndpoint refs × (length refs ≡ length earlier + n)
repeated-legal zero texts front w earlier refs all s = rw s.1 (all, omega arith)
repeated-legal (suc n) texts front w earlier refs all s =
    let more : s.2 ≡ earlier ++ s.4.2 ∷ [] = s.4.5.1 in
    let long : length s.2 ≡ length earlier + 1 = ap length more ∙ length-append earlier (s.4.2 ∷ []) in
    let rest = repeated-legal n texts _ _ s.2 refs
    (rw more (All-push IsEndpoint earlier s.4.2 all (name-legal texts _ _ s.4.2 s.4.4))) s.5 in
    (rest.0, omega (arith, rest.1, long))

count-small : (present : Bool) (front w : List ℕ) (n : ℕ) → Spells (count_field present) front w n → n < 2 ^ 64
count-small true front w n s = s.small
count-small false front w n s = omega (arith, s.1)

references-legal : (present : Bool) (texts front w : List ℕ) (refs : List Endpoint) → Spells (references present texts) front w refs
    → All IsEndpoint refs × (length refs < 2 ^ 64)
unfolding references
references-legal present texts front w refs s =
    let all = repeated-legal s.2 texts _ _ [] refs (λ k d inside. absurd (omega arith)) s.5 in
    (all.0, omega (arith, all.1, count-small present _ _ s.2 s.4))

first-small : (w v : List ℕ) (b : ℕ) → w ≡ (b ∷ []) ++ v → IsOctets w → b < 256
first-small w v b is fits = let both : IsOctets ((b ∷ []) ++ v) = rw is at fits in both 0

-- two conditions neither of which fails
both_met : {C : Type 0} (a b : Bool) (one other : C) → (needs a one also needs b other) ≡ None → (a ≡ true) × (b ≡ true)
both_met true b one other is = (refl, met b other is)
both_met false b one other is = cc

-- clear bits are clear
without-bits : (n : ℕ) → n < 2 ^ 64
    → (without 3 (without 6 n) < 2 ^ 64) × (has_bit 3 (without 3 (without 6 n)) ≡ false) × (has_bit 6 (without 3 (without 6 n)) ≡ false)
without-bits n low =
    let sixth = clear-six n low in
    let third = clear-three (without 6 n) sixth.0 in
    (third.0, ne_eqb _ _ (omega (arith, third.1)), ne_eqb _ _ (omega (arith, third.2, sixth.1)))
  where
    clear-six : (n : ℕ) → n < 2 ^ 64 → (without 6 n < 2 ^ 64) × (without 6 n / 64 % 2 ≡ 0)
    clear-six n low = by (eqb (n / 64 % 2) 1) refl
      where
        by : (t : Bool) → eqb (n / 64 % 2) 1 ≡ t → (without 6 n < 2 ^ 64) × (without 6 n / 64 % 2 ≡ 0)
        by true is = rw is (omega arith, omega (arith, eqb-true _ _ is))
        by false is = rw is (low, omega (arith, eqb-false _ _ is))

    clear-three : (n : ℕ) → n < 2 ^ 64 → (without 3 n < 2 ^ 64) × (without 3 n / 8 % 2 ≡ 0) × (without 3 n / 64 % 2 ≡ n / 64 % 2)
    clear-three n low = by (eqb (n / 8 % 2) 1) refl
      where
        by : (t : Bool) → eqb (n / 8 % 2) 1 ≡ t
            → (without 3 n < 2 ^ 64) × (without 3 n / 8 % 2 ≡ 0) × (without 3 n / 64 % 2 ≡ n / 64 % 2)
        by true is = rw is (omega arith, omega (arith, eqb-true _ _ is), omega (arith, eqb-true _ _ is))
        by false is = rw is (low, omega (arith, eqb-false _ _ is), refl)

-- what is known of a block that was read after others
record IsBlock (most : ℕ) (part : Option Fragment) (paid : Bool) (other : ℕ) (x : Block6 × Bool) : Type 0 where
  legal : IsLegalBlock x.0
  within : IsWithin part x.0
  one : is_payload x.0 ≡ true → paid ≡ false
  few : is_payload x.0 ≡ false → other < most
  last : x.1 ≡ true → (is_payload x.0 || paid) ≡ true

within-legal : (part : Option Fragment) (payload : Bool) (size : ℕ) (b : Block6) → is_within part payload size ≡ true
    → is_payload b ≡ payload → length b.body ≡ size → IsWithin part b
within-legal None payload size b is kind long = tt
within-legal (Some part) payload size b is kind long = λ paid. rw long (leb-true _ _ (rw (sym kind ∙ paid) at is))

not_both : (a b : Bool) → not (a && b) ≡ true → a ≡ true → b ≡ false
not_both true true is first = cc
not_both true false is first = refl
not_both false b is first = cc

the_other : (a b : Bool) → (a || b) ≡ true → a ≡ false → b ≡ true
the_other true b is first = cc
the_other false b is first = is

block-legal : (most : ℕ) (part : Option Fragment) (texts : List ℕ) (paid : Bool) (other : ℕ) (front w : List ℕ) (x : Block6 × Bool)
    → IsOctets w → Spells (block most part texts paid other) front w x → IsBlock most part paid other x
unfolding block
block-legal most part texts paid other front w x fits s =
    let flags = s.5 in
    let refs = flags.5 in
    let size = refs.5 in
    let body = size.5 in
    let kinds = both_met (not (eqb s.2 1 && paid)) (eqb s.2 1 || ltb other most) SecondPayload TooManyBlocks s.4.1 in
    let bits = without-bits flags.2 flags.4.0.small in
    let named = references-legal _ texts _ _ refs.2 refs.4 in
    rw body.5.1 (record {
      legal = record {
        kind = first-small w s.1 s.2 (s.3 ∙ ap (λ u. u ++ s.1) s.4.0) fits;
        flags = bits.0;
        last_bit = bits.1;
        refs_bit = bits.2;
        refs = named.0;
        count = named.1;
        size = rw (← body.4.0, body.4.1) size.4.0.small;
      };
      within = within-legal part (eqb s.2 1) size.2 _ (met _ FragmentRange size.4.1) refl (rw (← body.4.0) body.4.1);
      one = λ is. not_both (eqb s.2 1) paid kinds.0 is;
      few = λ is. ltb-true _ _ (the_other (eqb s.2 1) (ltb other most) kinds.1 is);
      last = λ is. the_other (not (has_bit 3 flags.2)) (eqb s.2 1 || paid) (met _ NoPayload flags.4.1) (rw is refl);
    })

-- what is known of blocks that were read
record AreBlocks (most : ℕ) (part : Option Fragment) (blocks : List Block6) : Type 0 where
  legal : All IsLegalBlock blocks
  within : All (IsWithin part) blocks
  payloads : count_by is_payload blocks ≡ cond (has_payload blocks) 1 0
  few : others blocks ≤ most

blocks-none : (most : ℕ) (part : Option Fragment) → AreBlocks most part []
blocks-none most part = record {
  legal = λ k d inside. absurd (omega arith);
  within = λ k d inside. absurd (omega arith);
  payloads = refl;
  few = omega arith;
}

blocks-push : (most : ℕ) (part : Option Fragment) (earlier : List Block6) (x : Block6 × Bool) → AreBlocks most part earlier
    → IsBlock most part (has_payload earlier) (others earlier) x → AreBlocks most part (earlier ++ x.0 ∷ [])
blocks-push most part earlier x are is = record {
  legal = All-push IsLegalBlock earlier x.0 are.legal is.legal;
  within = All-push (IsWithin part) earlier x.0 are.within is.within;
  payloads = rw (count-push is_payload earlier x.0, list_any-append is_payload earlier (x.0 ∷ []), are.payloads)
      (payload_counts (has_payload earlier) (is_payload x.0) is.one);
  few = rw (others-push earlier x.0) (few_left (is_payload x.0) (others earlier) are.few is.few);
}
  where
    payload_counts : (paid payload : Bool) → (payload ≡ true → paid ≡ false)
        → cond paid 1 0 + cond payload 1 0 ≡ cond (paid || (payload || false)) 1 0
    payload_counts true true one = absurd (let no : true ≡ false = one refl in cc)
    payload_counts true false one = refl
    payload_counts false true one = refl
    payload_counts false false one = refl

    few_left : (payload : Bool) (other : ℕ) → other ≤ most → (payload ≡ false → other < most) → other + cond (not payload) 1 0 ≤ most
    few_left true other low few = omega arith
    few_left false other low few = omega (arith, few refl)

-- the payload and the others are all
pub blocks-count : (blocks : List Block6) → count_by is_payload blocks + others blocks ≡ length blocks
blocks-count blocks =
    rw (← (length-filter is_payload blocks), ← (length-filter (λ b. not (is_payload b)) blocks))
    (length-filter_both is_payload (λ b. not (is_payload b)) (λ b. refl) blocks)

-- no block follows as many as there may be
none-follows : (most : ℕ) (part : Option Fragment) (earlier : List Block6) (x : Block6 × Bool) → AreBlocks most part earlier
    → length earlier ≡ most + 1 → IsBlock most part (has_payload earlier) (others earlier) x → ⊥
none-follows most part earlier x are full is =
    by (has_payload earlier) (is_payload x.0) are.payloads refl is.one is.few
  where
    by : (paid payload : Bool) → count_by is_payload earlier ≡ cond paid 1 0 → paid ≡ has_payload earlier
        → (payload ≡ true → has_payload earlier ≡ false) → (payload ≡ false → others earlier < most) → ⊥
    by true true counts same one few = let unpaid = one refl in cc
    by true false counts same one few = absurd (omega (arith, blocks-count earlier, few refl))
    by false payload counts same one few = absurd (omega (arith, blocks-count earlier, are.few))

-- all blocks are known
Known : ℕ → Option Fragment → List Block6 → Type 0
Known most part all = AreBlocks most part all × (has_payload all ≡ true)

-- a block was the last, or others follow
ends-legal : (n most : ℕ) (part : Option Fragment) (texts front w : List ℕ) (earlier all : List Block6) (x : Block6 × Bool) (last : Bool)
    → AreBlocks most part (earlier ++ x.0 ∷ []) → IsBlock most part (has_payload earlier) (others earlier) x → x.1 ≡ last
    → Spells (choice last (give (earlier ++ x.0 ∷ [])) (until n (next_block most part texts) (earlier ++ x.0 ∷ []))) front w all
    → (Spells (until n (next_block most part texts) (earlier ++ x.0 ∷ [])) front w all → Known most part all)
    → Known most part all
unfolding Known
ends-legal n most part texts front w earlier all x true are is last s again =
    let paid : has_payload (earlier ++ x.0 ∷ []) ≡ true =
    list_any-append is_payload earlier (x.0 ∷ []) ∙ flipped (has_payload earlier) (is_payload x.0) (is.last last) in
    rw s.1 (are, paid)
  where
    flipped : (a b : Bool) → (b || a) ≡ true → (a || (b || false)) ≡ true
    flipped true b is = refl
    flipped false true is = refl
    flipped false false is = cc
ends-legal n most part texts front w earlier all x false are is last s again = again s

block-octets : (w u v : List ℕ) → w ≡ u ++ v → IsOctets w → IsOctets u
block-octets w u v is fits = (octets-parts w u v is fits).0

until-legal : (n most : ℕ) (part : Option Fragment) (texts front w : List ℕ) (earlier all : List Block6) → AreBlocks most part earlier
    → length earlier + n ≡ most + 1 → IsOctets w → Spells (until n (next_block most part texts) earlier) front w all
    → Known most part all
unfolding until next_block
until-legal zero most part texts front w earlier all are full fits s =
    absurd (none-follows most part earlier s.4.2 are (omega arith)
    (block-legal most part texts _ _ _ _ s.4.2 (block-octets (s.0) s.4.0 s.4.1 s.4.3 (octets-parts w s.0 s.1 s.3 fits).0) s.4.4))
until-legal (suc n) most part texts front w earlier all are full fits s =
    let x = s.4.2 in
    let parts = octets-parts w s.0 s.1 s.3 fits in
    let is = block-legal most part texts _ _ _ _ x (block-octets s.0 s.4.0 s.4.1 s.4.3 parts.0) s.4.4 in
    let more = blocks-push most part earlier x are is in
    let long : length (earlier ++ x.0 ∷ []) ≡ length earlier + 1 = length-append earlier (x.0 ∷ []) in
    ends-legal n most part texts _ _ earlier all x x.1 more is refl (rw s.4.5.1 at s.5)
    (λ rest. until-legal n most part texts _ _ (earlier ++ x.0 ∷ []) all more (omega arith) parts.1 rest)

pub spelled-legal : (w : List ℕ) (b : Bundle6) → IsOctets w → Spells (bundle 64) [] w b → IsLegal b
unfolding bundle Known
spelled-legal w b fits s =
    let rest = octets-parts w s.0 s.1 s.3 fits in
    let blocks = until-legal 65 64 s.2.0.fragment s.2.1 _ _ [] s.5.2 (blocks-none 64 s.2.0.fragment) refl
    (block-octets s.1 s.5.0 s.5.1 s.5.3 rest.1) s.5.4 in
    rw s.5.5.1 (record {
      primary = primary-legal _ _ s.2 s.4;
      blocks = blocks.0.legal;
      one_payload = rw (blocks.0.payloads, blocks.1) refl;
      others_are_few = blocks.0.few;
      within = blocks.0.within;
    })

pub begun-legal : (text : List ℕ) (k : ℕ) (b : Bundle6) → IsOctets text → Begins (bundle 64) text k b → Spells6 b (take k text)
begun-legal text k b fits begins = record {
  legal = spelled-legal (take k text) b (octets-parts text (take k text) (drop k text) (sym (take-append-drop k text)) fits).0 begins.spells;
  spelled = begins.spells;
}

pub found-legal : (result : Result (Bundle6 × ℕ) Fail6) (text : List ℕ) → IsOctets text
    → IfOk result (λ x. Begins (bundle 64) text x.1 x.0)
    → IfOk result (λ x. (x.1 ≤ length text) × Spells6 x.0 (take x.1 text))
found-legal (Ok x) text fits found = (found.within, begun-legal text x.1 x.0 fits found)
found-legal (Err e) text fits found = tt
