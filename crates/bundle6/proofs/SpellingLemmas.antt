-- The canonical spelling spells the bundle.

use Rattle.std.proofs.Common.{◌≡◌, ℕ, ◌+◌, ◌-◌, ◌/◌, ◌%◌, ◌^◌, ◌<◌, ◌≤◌, suc, zero, Bool, true, false, ◌&&◌, ◌||◌, not, cond, eqb, ltb}
use Rattle.std.proofs.Common.{List, [], ◌∷◌, ◌++◌, length, get_or, refl, sym, ◌∙◌, ap, subst, arith, length-append, append_assoc}
use Rattle.std.proofs.Common.{Option, None, Some}
use Rattle.std.specs.Prelude.{is_some}
use Rattle.std.specs.List.{All, AllByRecursion, list_any, flat_map, count_by}
use Rattle.std.proofs.lemmas.List.{append-nil}
use Rattle.std.proofs.lemmas.List.Sums.{sum_by-append, sum_by-cons}
use Rattle.std.proofs.Math.Seq.{get_or-append_seam}
use Rattle.std.proofs.lemmas.Bool.{eqb-false, ne_eqb, lt-ltb, le-leb, eq-eqb}
use Rattle.sdnv.specs.Shortest.{spelling}
use Rattle.sdnv.proofs.ShortestLemmas.{spelling-spells}
use Rattle.endpoint.specs.declared.name.Endpoint.{Endpoint}
use Rattle.endpoint.specs.declared.extent.Fragment.{Fragment}
use Rattle.wire_fields.specs.Format.{Spells}
use Rattle.wire_fields.specs.Words.{needs, optional, repeated, one_more, until}
use Rattle.bundle6.specs.declared.fault.Cause6.TheVariants.{PrimaryEnd, NoPayload}
use Rattle.bundle6.specs.declared.names.Offsets.{Offsets}
use Rattle.bundle6.specs.declared.names.Pairs.{Pairs}
use Rattle.bundle6.specs.declared.primary.Primary6.{Primary6}
use Rattle.bundle6.specs.declared.block.Block6.{Block6}
use Rattle.bundle6.specs.Bits.{has_bit, without}
use Rattle.bundle6.specs.Names.{resolves, name_of}
use Rattle.bundle6.specs.Table.{offsets, four_names, dictionary, fragment, primary, is_payload, has_payload, others, name, references, is_within, block, next_block}
use Rattle.bundle6.specs.Legal.{IsPart, IsLegalPrimary, IsLegalBlock, IsWithin}
use Rattle.bundle6.specs.Spelling.{dictionary_of, offsets_of, pair_octets, name_octets, names_octets, dictionary_octets, part_octets, rest_octets, primary_octets, marked, refs_octets, block_octets, blocks_octets}
use Rattle.bundle6.proofs.CanonLemmas.{IsNamed}
use Rattle.bundle6.proofs.LegalLemmas.{blocks-count}

-- ---- names

offsets-spells : (front : List ℕ) (pair : Offsets) → pair.scheme < 2 ^ 64 → pair.ssp < 2 ^ 64
    → Spells offsets front (pair_octets pair) pair
unfolding offsets
offsets-spells front pair low small = (
  spelling pair.scheme,
  spelling pair.ssp,
  pair.scheme,
  refl,
  spelling-spells pair.scheme low,
  (spelling pair.ssp, [], pair.ssp, sym (append-nil (spelling pair.ssp)), spelling-spells pair.ssp small, (refl, refl)),
)

name-spells : (front : List ℕ) (texts : List (List ℕ)) (endpoint : Endpoint) → IsNamed texts endpoint
    → Spells (name (dictionary_of texts)) front (name_octets texts endpoint) endpoint
unfolding name
name-spells front texts endpoint is =
    let pair = offsets_of texts endpoint in (
      spelling pair.scheme,
      spelling pair.ssp,
      pair.scheme,
      refl,
      spelling-spells pair.scheme is.scheme,
      (
        spelling pair.ssp,
        [],
        pair.ssp,
        sym (append-nil (spelling pair.ssp)),
        (spelling-spells pair.ssp is.ssp, rw is.resolved refl),
        (refl, rw is.resolved refl),
      ),
    )

names-spell : (front : List ℕ) (texts : List (List ℕ)) (earlier refs : List Endpoint) → AllByRecursion (IsNamed texts) refs
    → Spells (repeated (length refs) (one_more (λ others. name (dictionary_of texts))) earlier) front
    (flat_map (name_octets texts) refs) (earlier ++ refs)
names-spell front texts earlier [] named = (refl, append-nil earlier)
names-spell front texts earlier (endpoint ∷ more) named =
    let again = names-spell (front ++ name_octets texts endpoint) texts (earlier ++ endpoint ∷ []) more named.1 in (
      name_octets texts endpoint,
      flat_map (name_octets texts) more,
      earlier ++ endpoint ∷ [],
      refl,
      (
        name_octets texts endpoint,
        [],
        endpoint,
        sym (append-nil (name_octets texts endpoint)),
        name-spells front texts endpoint named.0,
        (refl, refl),
      ),
      subst (λ all. Spells (repeated (length more) (one_more (λ others. name (dictionary_of texts))) (earlier ++ endpoint ∷ []))
          (front ++ name_octets texts endpoint) (flat_map (name_octets texts) more) all)
          (append_assoc earlier (endpoint ∷ []) more) again,
    )

-- ---- the primary block

resolves-named : (texts : List (List ℕ)) (endpoint : Endpoint) → IsNamed texts endpoint
    → resolves (dictionary_of texts) (offsets_of texts endpoint) ≡ true
resolves-named texts endpoint is = rw is.resolved refl

name_of-named : (texts : List (List ℕ)) (endpoint : Endpoint) → IsNamed texts endpoint
    → name_of (dictionary_of texts) (offsets_of texts endpoint) ≡ endpoint
name_of-named texts endpoint is = rw is.resolved refl

abbrev pairs_of : List (List ℕ) → Primary6 → Pairs
pairs_of texts p = record {
  destination = offsets_of texts p.destination;
  source = offsets_of texts p.source;
  report_to = offsets_of texts p.report_to;
  custodian = offsets_of texts p.custodian;
}

pub record AreNamed (texts : List (List ℕ)) (p : Primary6) : Type 0 where
  pub destination : IsNamed texts p.destination
  pub source : IsNamed texts p.source
  pub report_to : IsNamed texts p.report_to
  pub custodian : IsNamed texts p.custodian

four_names-spell : (front : List ℕ) (texts : List (List ℕ)) (p : Primary6) → AreNamed texts p
    → Spells four_names front (names_octets texts p) (pairs_of texts p)
unfolding four_names
four_names-spell front texts p are = (
  name_octets texts p.destination,
  _,
  offsets_of texts p.destination,
  refl,
  offsets-spells _ _ are.destination.scheme are.destination.ssp,
  (
    name_octets texts p.source,
    _,
    offsets_of texts p.source,
    refl,
    offsets-spells _ _ are.source.scheme are.source.ssp,
    (
      name_octets texts p.report_to,
      name_octets texts p.custodian,
      offsets_of texts p.report_to,
      refl,
      offsets-spells _ _ are.report_to.scheme are.report_to.ssp,
      (
        name_octets texts p.custodian,
        [],
        offsets_of texts p.custodian,
        sym (append-nil (name_octets texts p.custodian)),
        offsets-spells _ _ are.custodian.scheme are.custodian.ssp,
        (refl, refl),
      ),
    ),
  ),
)

dictionary-spells : (front : List ℕ) (texts : List (List ℕ)) (p : Primary6) → AreNamed texts p
    → length (dictionary_of texts) < 2 ^ 64
    → Spells (dictionary (pairs_of texts p)) front (dictionary_octets texts)
    (record { destination = p.destination; source = p.source; report_to = p.report_to; custodian = p.custodian }, dictionary_of texts)
unfolding dictionary
dictionary-spells front texts p are low =
    let words = dictionary_of texts in (
      spelling (length words),
      words,
      length words,
      refl,
      spelling-spells (length words) low,
      (
        words,
        [],
        words,
        sym (append-nil words),
        (
          (refl, refl),
          rw (
            resolves-named texts p.destination are.destination,
            resolves-named texts p.source are.source,
            resolves-named texts p.report_to are.report_to,
            resolves-named texts p.custodian are.custodian,
          ) refl,
        ),
        (
          refl,
          rw (
            name_of-named texts p.destination are.destination,
            name_of-named texts p.source are.source,
            name_of-named texts p.report_to are.report_to,
            name_of-named texts p.custodian are.custodian,
          ) refl,
        ),
      ),
    )

part-spells : (front : List ℕ) (b : Bool) (part : Option Fragment) → b ≡ is_some part → IsPart part
    → Spells (optional b fragment) front (part_octets part) part
unfolding fragment
part-spells front b None is legal = rw is (refl, refl)
part-spells front b (Some part) is legal = rw is (
  spelling part.offset ++ spelling part.total,
  [],
  part,
  sym (append-nil (spelling part.offset ++ spelling part.total)),
  (
    spelling part.offset,
    spelling part.total,
    part.offset,
    refl,
    spelling-spells part.offset legal.0,
    (spelling part.total, [], part.total, sym (append-nil (spelling part.total)), spelling-spells part.total legal.1, (refl, refl)),
  ),
  (refl, refl),
)

-- so many octets stand between two places
ended : (end start size : ℕ) → end ≡ start + size → needs (eqb (end - start) size) PrimaryEnd ≡ None
ended end start size is = let same : eqb (end - start) size ≡ true = eq-eqb (end - start) size (omega arith) in rw same refl

pub primary-spells : (front : List ℕ) (texts : List (List ℕ)) (p : Primary6) → IsLegalPrimary p → AreNamed texts p
    → length (dictionary_of texts) < 2 ^ 64 → length (rest_octets texts p) < 2 ^ 64
    → Spells primary front (primary_octets texts p) (p, dictionary_of texts)
unfolding primary primary_octets rest_octets
primary-spells front texts p legal are low small =
    let size = length (rest_octets texts p) in (
      6 ∷ [],
      _,
      6,
      refl,
      (refl, refl),
      (
        spelling p.flags,
        _,
        p.flags,
        refl,
        spelling-spells p.flags legal.flags,
        (
          spelling size,
          _,
          size,
          refl,
          spelling-spells size small,
          (
            [],
            _,
            _,
            refl,
            (refl, refl),
            (
              names_octets texts p,
              _,
              pairs_of texts p,
              refl,
              four_names-spell _ texts p are,
              (
                spelling p.seconds,
                _,
                p.seconds,
                refl,
                spelling-spells p.seconds legal.seconds,
                (
                  spelling p.sequence,
                  _,
                  p.sequence,
                  refl,
                  spelling-spells p.sequence legal.sequence,
                  (
                    spelling p.lifetime,
                    _,
                    p.lifetime,
                    refl,
                    spelling-spells p.lifetime legal.lifetime,
                    (
                      dictionary_octets texts,
                      part_octets p.fragment,
                      _,
                      refl,
                      dictionary-spells _ texts p are low,
                      (
                        part_octets p.fragment,
                        [],
                        p.fragment,
                        sym (append-nil (part_octets p.fragment)),
                        part-spells _ (has_bit 0 p.flags) p.fragment legal.fragment_bit legal.fragment,
                        (
                          [],
                          [],
                          _,
                          refl,
                          (refl, refl),
                          (
                            [],
                            [],
                            tt,
                            refl,
                            ((refl, refl), ended _ _ size (simp length-append (omega arith))),
                            (refl, refl),
                          ),
                        ),
                      ),
                    ),
                  ),
                ),
              ),
            ),
          ),
        ),
      ),
    )

-- ---- blocks

-- the flags that are written say what they are to say, and without the marks are the block's own
record AreMarked (last : Bool) (b : Block6) : Type 0 where
  low : marked last b < 2 ^ 64
  last_bit : has_bit 3 (marked last b) ≡ last
  refs_bit : has_bit 6 (marked last b) ≡ not (eqb (length b.refs) 0)
  own : without 3 (without 6 (marked last b)) ≡ b.flags

clear : (n : ℕ) → eqb n 1 ≡ false → n < 2 → n ≡ 0
clear n other low = omega (arith, eqb-false n 1 other)

-- bit 3 and bit 6 put into flags where they are clear
put-low : (f : ℕ) (last none : Bool) → f < 2 ^ 64 → f / 8 % 2 ≡ 0 → f / 64 % 2 ≡ 0 → f + cond last 8 0 + cond none 0 64 < 2 ^ 64
put-low f true true low three six = omega arith
put-low f true false low three six = omega arith
put-low f false true low three six = omega arith
put-low f false false low three six = omega arith

put-three : (f : ℕ) (last : Bool) → f / 8 % 2 ≡ 0 → has_bit 3 (f + cond last 8 0) ≡ last
put-three f true three = eq-eqb _ _ (omega arith)
put-three f false three = ne_eqb _ _ (omega arith)

put-three-six : (f : ℕ) (last none : Bool) → f / 8 % 2 ≡ 0 → has_bit 3 (f + cond last 8 0 + cond none 0 64) ≡ last
put-three-six f true true three = eq-eqb _ _ (omega arith)
put-three-six f true false three = eq-eqb _ _ (omega arith)
put-three-six f false true three = ne_eqb _ _ (omega arith)
put-three-six f false false three = ne_eqb _ _ (omega arith)

put-six : (f : ℕ) (last none : Bool) → f / 8 % 2 ≡ 0 → f / 64 % 2 ≡ 0 → has_bit 6 (f + cond last 8 0 + cond none 0 64) ≡ not none
put-six f true true three six = ne_eqb _ _ (omega arith)
put-six f true false three six = eq-eqb _ _ (omega arith)
put-six f false true three six = ne_eqb _ _ (omega arith)
put-six f false false three six = eq-eqb _ _ (omega arith)

take-six : (f : ℕ) (last none : Bool) → f / 8 % 2 ≡ 0 → f / 64 % 2 ≡ 0
    → without 6 (f + cond last 8 0 + cond none 0 64) ≡ f + cond last 8 0
take-six f last true three six = rw (put-six f last true three six) (omega arith)
take-six f last false three six = rw (put-six f last false three six) (omega arith)

take-three : (f : ℕ) (last : Bool) → f / 8 % 2 ≡ 0 → without 3 (f + cond last 8 0) ≡ f
take-three f true three = rw (put-three f true three) (omega arith)
take-three f false three = rw (put-three f false three) (omega arith)

marks : (last : Bool) (b : Block6) → IsLegalBlock b → AreMarked last b
marks last b legal =
    let none = eqb (length b.refs) 0 in
    let three : b.flags / 8 % 2 ≡ 0 = clear (b.flags / 8 % 2) legal.last_bit (omega arith) in
    let six : b.flags / 64 % 2 ≡ 0 = clear (b.flags / 64 % 2) legal.refs_bit (omega arith) in
    record {
      low = put-low b.flags last none legal.flags three six;
      last_bit = put-three-six b.flags last none three;
      refs_bit = put-six b.flags last none three six;
      own = ap (without 3) (take-six b.flags last none three six) ∙ take-three b.flags last three;
    }

references-spell : (front : List ℕ) (texts : List (List ℕ)) (refs : List Endpoint) → AllByRecursion (IsNamed texts) refs
    → length refs < 2 ^ 64
    → Spells (references (not (eqb (length refs) 0)) (dictionary_of texts)) front (refs_octets texts refs) refs
unfolding references
references-spell front texts [] named low = ([], [], 0, refl, (refl, refl), (refl, refl))
references-spell front texts (first ∷ more) named low =
    let count = length (first ∷ more) in
    let some : eqb count 0 ≡ false = ne_eqb count 0 (λ none. omega arith) in
    rw some (
      spelling count,
      flat_map (name_octets texts) (first ∷ more),
      count,
      refl,
      spelling-spells count low,
      names-spell (front ++ spelling count) texts [] (first ∷ more) named,
    )

-- what must hold of the next block after others
record MayFollow (most : ℕ) (part : Option Fragment) (paid : Bool) (other : ℕ) (last : Bool) (b : Block6) : Type 0 where
  legal : IsLegalBlock b
  within : IsWithin part b
  one : (is_payload b && paid) ≡ false
  few : (is_payload b || ltb other most) ≡ true
  ends : last ≡ true → (is_payload b || paid) ≡ true
  refs : length b.refs < 2 ^ 64
  body : length b.body < 2 ^ 64

in-part : (part : Option Fragment) (b : Block6) → IsWithin part b → is_within part (is_payload b) (length b.body) ≡ true
in-part None b within = refl
in-part (Some part) b within = by (is_payload b) refl
  where
    by : (t : Bool) → is_payload b ≡ t → is_within (Some part) (is_payload b) (length b.body) ≡ true
    by true is = rw is (le-leb _ _ (within is))
    by false is = rw is refl

-- what a legal bundle's blocks are
pub record IsBundle (part : Option Fragment) (blocks : List Block6) : Type 0 where
  pub legal : All IsLegalBlock blocks
  pub within : All (IsWithin part) blocks
  pub payloads : count_by is_payload blocks ≡ 1
  pub few : others blocks ≤ 64

block-spells : (most : ℕ) (part : Option Fragment) (texts : List (List ℕ)) (paid : Bool) (other : ℕ) (last : Bool) (b : Block6) (front : List ℕ)
    → MayFollow most part paid other last b → AllByRecursion (IsNamed texts) b.refs
    → Spells (block most part (dictionary_of texts) paid other) front (block_octets texts last b) (b, last)
unfolding block block_octets
block-spells most part texts paid other last b front may named =
    let are = marks last b may.legal in
    let flags = marked last b in
    let size = length b.body in (
      b.kind ∷ [],
      _,
      b.kind,
      refl,
      (refl, rw (may.one, may.few) refl),
      (
        spelling flags,
        _,
        flags,
        refl,
        (spelling-spells flags are.low, rw are.last_bit (may_end last (is_payload b || paid) may.ends)),
        (
          refs_octets texts b.refs,
          _,
          b.refs,
          refl,
          subst (λ present. Spells (references present (dictionary_of texts)) ((front ++ b.kind ∷ []) ++ spelling flags)
              (refs_octets texts b.refs) b.refs) (sym are.refs_bit)
              (references-spell _ texts b.refs named may.refs),
          (
            spelling size,
            _,
            size,
            refl,
            (spelling-spells size may.body, rw (in-part part b may.within) refl),
            (
              b.body,
              [],
              b.body,
              sym (append-nil b.body),
              (refl, refl),
              (refl, rw (are.own, are.last_bit) refl),
            ),
          ),
        ),
      ),
    )
  where
    may_end : (last paid : Bool) → (last ≡ true → paid ≡ true) → needs (not last || paid) NoPayload ≡ None
    may_end true paid ends = rw (ends refl) refl
    may_end false paid ends = refl

-- ---- blocks up to the last

count-cons : (p : Block6 → Bool) (b : Block6) (more : List Block6) → count_by p (b ∷ more) ≡ cond (p b) 1 0 + count_by p more
count-cons p b more = sum_by-cons (λ x. cond (p x) 1 0) b more

count-join : (p : Block6 → Bool) (earlier more : List Block6) → count_by p (earlier ++ more) ≡ count_by p earlier + count_by p more
count-join p earlier more = sum_by-append (λ x. cond (p x) 1 0) earlier more

-- an element that passes is counted
any-counts : (p : Block6 → Bool) (blocks : List Block6) → cond (list_any p blocks) 1 0 ≤ count_by p blocks
any-counts p [] = omega arith
any-counts p (b ∷ more) = let rest = any-counts p more in rw (count-cons p b more) (step (p b) (list_any p more) (count_by p more) rest)
  where
    step : (here there : Bool) (n : ℕ) → cond there 1 0 ≤ n → cond (here || there) 1 0 ≤ cond here 1 0 + n
    step true there n low = omega arith
    step false true n low = omega arith
    step false false n low = omega arith

-- where none passes, none is counted
none-counts : (p : Block6 → Bool) (blocks : List Block6) → list_any p blocks ≡ false → count_by p blocks ≡ 0
none-counts p [] is = refl
none-counts p (b ∷ more) is =
    let parts = neither (p b) (list_any p more) is in
    let rest = none-counts p more parts.1 in
    rw (count-cons p b more, parts.0, rest) refl
  where
    neither : (a b : Bool) → (a || b) ≡ false → (a ≡ false) × (b ≡ false)
    neither true b is = cc
    neither false b is = (refl, is)

-- a block of a legal bundle may stand where it stands
may-follow : (part : Option Fragment) (earlier more : List Block6) (b : Block6) (last : Bool) → IsBundle part (earlier ++ b ∷ more)
    → (last ≡ true → more ≡ []) → MayFollow 64 part (has_payload earlier) (others earlier) last b
may-follow part earlier more b last is ends =
    let at : get_or (earlier ++ b ∷ more) (length earlier) b ≡ b = get_or-append_seam earlier b more b in
    let inside : length earlier < length (earlier ++ b ∷ more) = omega (arith, length-append earlier (b ∷ more)) in
    let payloads : count_by is_payload earlier + (cond (is_payload b) 1 0 + count_by is_payload more) ≡ 1 =
    ap (λ n. count_by is_payload earlier + n) (sym (count-cons is_payload b more))
    ∙ sym (count-join is_payload earlier (b ∷ more)) ∙ is.payloads in
    let few : others earlier + (cond (not (is_payload b)) 1 0 + others more) ≤ 64 =
    omega (arith, is.few, count-join (λ x. not (is_payload x)) earlier (b ∷ more), count-cons (λ x. not (is_payload x)) b more) in
    let legal : IsLegalBlock b = rw at at (is.legal (length earlier) b inside) in
    record {
      legal = legal;
      within = rw at at (is.within (length earlier) b inside);
      one = one_payload (is_payload b) (has_payload earlier) (count_by is_payload earlier) (count_by is_payload more)
          (any-counts is_payload earlier) payloads;
      few = room_left (is_payload b) (others earlier) (others more) few;
      ends = λ is_last. paid (is_payload b) (has_payload earlier) refl (count_by is_payload more)
          (rw (ends is_last) refl) payloads;
      refs = legal.count;
      body = legal.size;
    }
  where
    one_payload : (payload paid : Bool) (n m : ℕ) → cond paid 1 0 ≤ n → n + (cond payload 1 0 + m) ≡ 1 → (payload && paid) ≡ false
    one_payload true true n m low all = absurd (omega arith)
    one_payload true false n m low all = refl
    one_payload false paid n m low all = refl

    room_left : (payload : Bool) (n m : ℕ) → n + (cond (not payload) 1 0 + m) ≤ 64 → (payload || ltb n 64) ≡ true
    room_left true n m low = refl
    room_left false n m low = lt-ltb n 64 (omega arith)

    paid : (payload has : Bool) → has_payload earlier ≡ has → (m : ℕ) → m ≡ 0
        → count_by is_payload earlier + (cond payload 1 0 + m) ≡ 1 → (payload || has) ≡ true
    paid true has is m none all = refl
    paid false true is m none all = refl
    paid false false is m none all = absurd (omega (arith, none-counts is_payload earlier is))

-- the blocks that follow others, up to the last
pub blocks-spell : (n : ℕ) (part : Option Fragment) (texts : List (List ℕ)) (earlier rest : List Block6) (front : List ℕ)
    → 0 < length rest → length earlier + n ≡ 65 → IsBundle part (earlier ++ rest)
    → AllByRecursion (λ b. AllByRecursion (IsNamed texts) b.refs) rest
    → Spells (until n (next_block 64 part (dictionary_of texts)) earlier) front (blocks_octets texts rest) (earlier ++ rest)
unfolding until next_block blocks_octets
blocks-spell n part texts earlier [] front some room is named = absurd (omega arith)
blocks-spell zero part texts earlier (b ∷ more) front some room is named =
    absurd (omega (arith, blocks-count (earlier ++ b ∷ more), is.payloads, is.few, length-append earlier (b ∷ more)))
blocks-spell (suc n) part texts earlier (b ∷ []) front some room is named = (
  block_octets texts true b,
  [],
  (earlier ++ b ∷ [], true),
  refl,
  (
    block_octets texts true b,
    [],
    (b, true),
    sym (append-nil (block_octets texts true b)),
    block-spells 64 part texts (has_payload earlier) (others earlier) true b front
        (may-follow part earlier [] b true is (λ _. refl)) named.0,
    (refl, refl),
  ),
  (refl, refl),
)
blocks-spell (suc n) part texts earlier (b ∷ next ∷ more) front some room is named =
    let follows : eqb (length (next ∷ more)) 0 ≡ false = ne_eqb (length (next ∷ more)) 0 (λ none. omega arith) in
    let joined : (earlier ++ b ∷ []) ++ (next ∷ more) ≡ earlier ++ (b ∷ next ∷ more) = append_assoc earlier (b ∷ []) (next ∷ more) in
    let long : length (earlier ++ b ∷ []) ≡ length earlier + 1 = length-append earlier (b ∷ []) in
    let again = blocks-spell n part texts (earlier ++ b ∷ []) (next ∷ more) (front ++ block_octets texts false b) (omega arith) (omega arith)
    (subst (IsBundle part) (sym joined) is) named.1 in
    rw follows (
      block_octets texts false b,
      blocks_octets texts (next ∷ more),
      (earlier ++ b ∷ [], false),
      refl,
      (
        block_octets texts false b,
        [],
        (b, false),
        sym (append-nil (block_octets texts false b)),
        block-spells 64 part texts (has_payload earlier) (others earlier) false b front
            (may-follow part earlier (next ∷ more) b false is (λ never. absurd (cc never))) named.0,
        (refl, refl),
      ),
      subst (λ all. Spells (until n (next_block 64 part (dictionary_of texts)) (earlier ++ b ∷ []))
          (front ++ block_octets texts false b) (blocks_octets texts (next ∷ more)) all) joined again,
    )
