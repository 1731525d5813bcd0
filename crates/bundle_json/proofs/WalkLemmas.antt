-- Walking over the octets of a bundle.
use Rattle.std.proofs.Common.{◌≡◌, ℕ, suc, zero, ◌+◌, ◌-◌, ◌≤◌, Bool, true, false, eqb, codes, ◌&&◌, List, [], ◌∷◌, ◌++◌, length, take, drop, Option, Some, None, Ok, Err, refl, sym, ◌∙◌, ap, arith, append_assoc, append-nil, length-append, length-drop}
use Rattle.std.specs.Prelude.{is_some, unwrap_or}
use Rattle.std.proofs.lemmas.List.{drop-drop}
use Rattle.std.proofs.Math.Seq.{drop-append_seam, take-append_seam}
use Rattle.wire_fields.specs.declared.miss.Miss.{Miss}
use Rattle.wire_fields.specs.Kind.{Kind, ValueOf, SpellsKind}
use Rattle.wire_fields.specs.Format.{give, Spells}
use Rattle.wire_fields.specs.Reading.{look, look_at, ahead}
use Rattle.wire_fields.specs.Words.{needs, choice, repeated, one_more, until}
use Rattle.wire_fields.proofs.KindLemmas.{look-only}
use Rattle.wire_fields.proofs.ResultLemmas.{ok_is}
use Rattle.endpoint.specs.declared.extent.Fragment.{Fragment}
use Rattle.endpoint.specs.declared.name.Endpoint.{Endpoint}
use Rattle.bundle6.specs.declared.block.Block6.{Block6}
use Rattle.endpoint.specs.declared.name.Endpoint.TheVariants.{Null}
use Rattle.endpoint.specs.Endpoints.{text_of}
use Rattle.endpoint.specs.Reading.{named}
use Rattle.endpoint.proofs.ReadingLemmas.{named-found}
use Rattle.bundle6.specs.declared.fault.Cause6.TheVariants.{BlockRefs}
use Rattle.bundle6.specs.Names.{text_at, numbered, resolve, resolves, name_of, all_resolve}
use Rattle.bundle6.specs.Table.{offsets, four_names, name, has_payload, others, block, next_block}
use Rattle.bundle_json.specs.declared.walk.Pair.{Pair}
use Rattle.bundle_json.specs.Laid.{LiesAt, ValueOf as ValueIn, pair_of, IsPair, Names, AreVisible, AreRefs, SpellsBlock, AreBlocks}
use Rattle.bundle_json.proofs.StringLemmas.{scheme-visible, part-visible}

-- ---- places

pub lies-parts : (octets : List ℕ) (at : ℕ) (text u v rest : List ℕ) → LiesAt octets at (text ++ rest) → text ≡ u ++ v
    → LiesAt octets at (u ++ (v ++ rest))
lies-parts octets at text u v rest lies is = record {
  inside = lies.inside;
  is = lies.is ∙ ap (λ (t : List ℕ). t ++ rest) is ∙ append_assoc u v rest;
}

pub lies-start : (octets whole : List ℕ) → octets ≡ whole → LiesAt octets 0 whole
lies-start octets whole is = record { inside = omega arith; is = is }

pub lies-none : (octets : List ℕ) (at : ℕ) (text rest : List ℕ) → LiesAt octets at (text ++ rest) → text ≡ [] → LiesAt octets at rest
lies-none octets at text rest lies none = record {
  inside = lies.inside;
  is = lies.is ∙ ap (λ (t : List ℕ). t ++ rest) none;
}

pub lies-as : (octets : List ℕ) (at : ℕ) (u v x rest : List ℕ) → LiesAt octets at (u ++ (v ++ rest)) → u ≡ x → v ≡ [] → LiesAt octets at (x ++ rest)
lies-as octets at u v x rest lies is none = record {
  inside = lies.inside;
  is = lies.is ∙ ap (λ (t : List ℕ). t ++ (v ++ rest)) is ∙ ap (λ (t : List ℕ). x ++ (t ++ rest)) none;
}

-- so many octets are left
pub lies-long : (octets : List ℕ) (at : ℕ) (rest : List ℕ) → LiesAt octets at rest → at + length rest ≡ length octets
lies-long octets at rest lies = omega (arith, lies.inside, length-drop at octets, ap length lies.is)

pub lies-after : (octets : List ℕ) (at : ℕ) (text rest : List ℕ) → LiesAt octets at (text ++ rest) → LiesAt octets (at + length text) rest
lies-after octets at text rest lies = record {
  inside = omega (arith, lies-long octets at (text ++ rest) lies, length-append text rest);
  is = sym (drop-drop (length text) at octets) ∙ ap (drop (length text)) lies.is ∙ drop-append_seam text rest;
}

-- ---- fields

-- what code found where a field lies
pub found-lies : (k : Kind) (octets : List ℕ) (at : ℕ) (text rest : List ℕ) (value : ValueOf k) (found : ValueOf k × ℕ)
    → SpellsKind k text value → LiesAt octets at (text ++ rest) → Ok found ≡ look_at k octets at
    → (found.0 ≡ value) × LiesAt octets found.1 rest
found-lies k octets at text rest value found spells lies is =
    let there : look_at k octets at ≡ Ok (value, at + length text) =
    ap (λ (t : List ℕ). ahead at (look k t)) lies.is ∙ ap (ahead at) (look-only k text rest value spells) in
    let same : found ≡ (value, at + length text) = ok_is found (value, at + length text) (is ∙ there) in
    rw same (refl, lies-after octets at text rest lies)

-- a field that lies there isn't missed
pub never-missed : (k : Kind) (octets : List ℕ) (at : ℕ) (text rest : List ℕ) (value : ValueOf k) (miss : Miss)
    → SpellsKind k text value → LiesAt octets at (text ++ rest) → Err miss ≡ look_at k octets at → ⊥
never-missed k octets at text rest value miss spells lies is =
    let there : look_at k octets at ≡ Ok (value, at + length text) =
    ap (λ (t : List ℕ). ahead at (look k t)) lies.is ∙ ap (ahead at) (look-only k text rest value spells) in
    let no = is ∙ there in absurd (cc)

-- ---- names

some-of : {A : Type 0} (o : Option A) (other : A) → is_some o ≡ true → o ≡ Some (unwrap_or o other)
some-of None other some = absurd (cc)
some-of (Some x) other some = refl

pub names-by : (dictionary : List ℕ) (pair : Pair) (value : ValueIn offsets) (endpoint : Endpoint)
    → IsPair pair value → resolves dictionary value ≡ true → endpoint ≡ name_of dictionary value → Names dictionary pair endpoint
names-by dictionary pair value endpoint is resolves named =
    ap (resolve dictionary) is ∙ some-of (resolve dictionary value) Null resolves ∙ ap Some (sym named)

four-true : (a b d e : Bool) → (a && b && d && e) ≡ true → (a ≡ true) × (b ≡ true) × (d ≡ true) × (e ≡ true)
four-true true true true true is = (refl, refl, refl, refl)
four-true true true true false is = absurd (cc)
four-true true true false e is = absurd (cc)
four-true true false d e is = absurd (cc)
four-true false b d e is = absurd (cc)

pub all-by : (dictionary : List ℕ) (pairs : ValueIn four_names) → all_resolve dictionary pairs ≡ true
    → (resolves dictionary pairs.destination ≡ true) × (resolves dictionary pairs.source ≡ true)
    × (resolves dictionary pairs.report_to ≡ true) × (resolves dictionary pairs.custodian ≡ true)
all-by dictionary pairs all =
    four-true (resolves dictionary pairs.destination) (resolves dictionary pairs.source)
    (resolves dictionary pairs.report_to) (resolves dictionary pairs.custodian) all

pub pair-is : (scheme ssp first second : ℕ) (value : ValueIn offsets) → scheme ≡ first → ssp ≡ second
    → value ≡ record { scheme = first; ssp = second } → IsPair (record { scheme = scheme; ssp = ssp }) value
pair-is scheme ssp first second value one two is =
    ap (λ (n : ℕ). pair_of (record { scheme = n; ssp = ssp })) one
    ∙ ap (λ (n : ℕ). pair_of (record { scheme = first; ssp = n })) two ∙ sym is

-- a condition that doesn't fail
pub met : {C : Type 0} (b : Bool) (cause : C) → needs b cause ≡ None → b ≡ true
met true cause is = refl
met false cause is = absurd (cc)

-- without a dictionary
pub named-numbers : (dictionary : List ℕ) (pair : Pair) (endpoint : Endpoint) → eqb (length dictionary) 0 ≡ true
    → Names dictionary pair endpoint → numbered (pair_of pair) ≡ endpoint
unfolding resolve
named-numbers dictionary pair endpoint none named =
    let here : Some (numbered (pair_of pair)) ≡ Some endpoint = rw none at named in cc

-- in a dictionary
pub named-texts : (dictionary : List ℕ) (pair : Pair) (endpoint : Endpoint) (scheme ssp : List ℕ) → eqb (length dictionary) 0 ≡ false
    → Some scheme ≡ text_at dictionary pair.scheme → Some ssp ≡ text_at dictionary pair.ssp
    → Names dictionary pair endpoint → scheme ++ (codes ":" ++ ssp) ≡ text_of endpoint
unfolding resolve
named-texts dictionary pair endpoint scheme ssp some first second names =
    let here : named scheme ssp ≡ Some endpoint = rw (some, ← first, ← second) at names in
    let parts = named-found scheme ssp endpoint here in
    rw (parts.scheme_is, parts.ssp_is) refl

-- and what they name is visible
pub texts-visible : (dictionary : List ℕ) (pair : Pair) (endpoint : Endpoint) (scheme ssp : List ℕ) → eqb (length dictionary) 0 ≡ false
    → Some scheme ≡ text_at dictionary pair.scheme → Some ssp ≡ text_at dictionary pair.ssp
    → Names dictionary pair endpoint → AreVisible scheme × AreVisible ssp
unfolding resolve
texts-visible dictionary pair endpoint scheme ssp some first second names =
    let here : named scheme ssp ≡ Some endpoint = rw (some, ← first, ← second) at names in
    let parts = named-found scheme ssp endpoint here in
    rw (parts.scheme_is, parts.ssp_is) (scheme-visible endpoint, part-visible endpoint parts.legal)

-- both texts are there
pub named-there : (dictionary : List ℕ) (pair : Pair) (endpoint : Endpoint) → eqb (length dictionary) 0 ≡ false → Names dictionary pair endpoint
    → (scheme ssp : List ℕ) × (text_at dictionary pair.scheme ≡ Some scheme) × (text_at dictionary pair.ssp ≡ Some ssp)
unfolding resolve
named-there dictionary pair endpoint some names = by (text_at dictionary pair.scheme) (text_at dictionary pair.ssp) refl refl
  where
    by : (first second : Option (List ℕ)) → text_at dictionary pair.scheme ≡ first → text_at dictionary pair.ssp ≡ second
        → (scheme ssp : List ℕ) × (text_at dictionary pair.scheme ≡ Some scheme) × (text_at dictionary pair.ssp ≡ Some ssp)
    by None second is also = absurd (cc (rw (some, is) at names))
    by (Some scheme) None is also = absurd (cc (rw (some, is, also) at names))
    by (Some scheme) (Some ssp) is also = (scheme, ssp, is, also)

-- ---- references

-- two numbers that name an endpoint
name-pair : (dictionary text : List ℕ) (endpoint : Endpoint) → Spells (name dictionary) [] text endpoint
    → (pair : ValueIn offsets) × Spells offsets [] text pair × (resolves dictionary pair ≡ true) × (endpoint ≡ name_of dictionary pair)
unfolding name offsets
name-pair dictionary text endpoint s =
    let t = s.5 in (
      record { scheme = s.2; ssp = t.2 },
      (s.0, s.1, s.2, s.3, s.4, (t.0, t.1, t.2, t.3, t.4.0, (t.5.0, refl))),
      met (resolves dictionary (record { scheme = s.2; ssp = t.2 })) BlockRefs t.4.1,
      t.5.1,
    )

name-long : (dictionary text : List ℕ) (endpoint : Endpoint) → Spells (name dictionary) [] text endpoint → 1 ≤ length text
unfolding name
name-long dictionary text endpoint s = omega (arith, s.4.ends, ap length s.3, length-append s.0 s.1)

pub refs-long : (dictionary text : List ℕ) (refs : List Endpoint) → AreRefs dictionary text refs → length refs ≤ length text
refs-long dictionary text [] are = omega arith
refs-long dictionary text (endpoint ∷ refs) (first, later, parts, here, more) =
    omega (arith, name-long dictionary first endpoint here, refs-long dictionary later refs more, ap length parts, length-append first later)

-- a reference that is next
pub record NextRef (octets dictionary : List ℕ) (text rest : List ℕ) (endpoint : Endpoint) (refs : List Endpoint) (pair : Pair) (to : ℕ) : Type 0 where
  pub named : Names dictionary pair endpoint
  pub later : List ℕ
  pub are : AreRefs dictionary later refs
  pub lie : LiesAt octets to (later ++ rest)

pub next-ref : (octets dictionary : List ℕ) (at : ℕ) (text rest : List ℕ) (endpoint : Endpoint) (refs : List Endpoint) (found : Pair × ℕ)
    → AreRefs dictionary text (endpoint ∷ refs) → LiesAt octets at (text ++ rest)
    → ((front text rest : List ℕ) (value : ValueIn offsets) → Spells offsets front text value → LiesAt octets at (text ++ rest)
    → IsPair found.0 value × LiesAt octets found.1 rest)
    → NextRef octets dictionary text rest endpoint refs found.0 found.1
next-ref octets dictionary at text rest endpoint refs found (first, later, parts, here, more) lies walks =
    let (pair, spelled, resolves, named) = name-pair dictionary first endpoint here in
    let there = walks [] first (later ++ rest) pair spelled (lies-parts octets at text first later rest lies parts) in
    record {
      named = names-by dictionary found.0 pair endpoint there.0 resolves named;
      later = later;
      are = more;
      lie = there.1;
    }

-- from the table
pub refs-are : (n : ℕ) (dictionary front text : List ℕ) (earlier all : List Endpoint)
    → Spells (repeated n (one_more (λ others. name dictionary)) earlier) front text all
    → (refs : List Endpoint) × (all ≡ earlier ++ refs) × AreRefs dictionary text refs × (n ≡ length refs)
unfolding name
refs-are zero dictionary front text earlier all s = ([], s.1 ∙ sym (append-nil earlier), s.0, refl)
refs-are (suc n) dictionary front text earlier all s =
    let one = s.4 in
    let first : s.0 ≡ one.0 = one.3 ∙ ap (λ (t : List ℕ). one.0 ++ t) one.5.0 ∙ append-nil one.0 in
    let (refs, is, are, many) = refs-are n dictionary (front ++ s.0) s.1 s.2 all s.5 in (
      one.2 ∷ refs,
      is ∙ ap (λ (t : List Endpoint). t ++ refs) one.5.1 ∙ append_assoc earlier (one.2 ∷ []) refs,
      (one.0, s.1, s.3 ∙ ap (λ (t : List ℕ). t ++ s.1) first, one.4, are),
      omega (arith, many),
    )

-- so many references are still to be passed, after so many octets at least
pub record Passing (octets dictionary : List ℕ) (at passed left : ℕ) (rest : List ℕ) : Type 0 where
  pub refs : List Endpoint
  pub text : List ℕ
  pub are : AreRefs dictionary text refs
  pub many : left ≡ length refs
  pub lie : LiesAt octets at (text ++ rest)

pub passing-start : (octets dictionary : List ℕ) (at count : ℕ) (text rest : List ℕ) (refs : List Endpoint) → AreRefs dictionary text refs
    → count ≡ length refs → LiesAt octets at (text ++ rest) → Passing octets dictionary at 0 count rest
passing-start octets dictionary at count text rest refs are many lies = record { refs = refs; text = text; are = are; many = many; lie = lies }

pub passing-next : (octets dictionary : List ℕ) (at i left next : ℕ) (rest : List ℕ) (found : Pair × ℕ) → Passing octets dictionary at i left rest
    → left ≡ next + 1
    → ((front text rest : List ℕ) (value : ValueIn offsets) → Spells offsets front text value → LiesAt octets at (text ++ rest)
    → IsPair found.0 value × LiesAt octets found.1 rest)
    → Passing octets dictionary found.1 (i + 1) next rest
passing-next octets dictionary at i left next rest found passing some walks = by passing.refs passing.are passing.many
  where
    by : (refs : List Endpoint) → AreRefs dictionary passing.text refs → left ≡ length refs → Passing octets dictionary found.1 (i + 1) next rest
    by [] are many = absurd (omega (arith, many, some))
    by (endpoint ∷ refs) are many =
        let there = next-ref octets dictionary at passing.text rest endpoint refs found are passing.lie walks in
        record { refs = refs; text = there.later; are = there.are; many = omega (arith, many, some); lie = there.lie }

pub passing-end : (octets dictionary : List ℕ) (at i left : ℕ) (rest : List ℕ) → Passing octets dictionary at i left rest → left ≡ 0 → LiesAt octets at rest
passing-end octets dictionary at i left rest passing none = by passing.refs passing.are passing.many
  where
    by : (refs : List Endpoint) → AreRefs dictionary passing.text refs → left ≡ length refs → LiesAt octets at rest
    by [] are many = lies-none octets at passing.text rest passing.lie are
    by (endpoint ∷ refs) are many = absurd (omega (arith, many, none))

-- ---- parts

pub part-lies : (octets : List ℕ) (at : ℕ) (text rest : List ℕ) → LiesAt octets at (text ++ rest) → take (length text) (drop at octets) ≡ text
part-lies octets at text rest lies = ap (take (length text)) lies.is ∙ take-append_seam text rest

pub texts-lie : (octets : List ℕ) (from to : ℕ) (text rest : List ℕ) → LiesAt octets from (text ++ rest) → to ≡ from + length text
    → take (to - from) (drop from octets) ≡ text
texts-lie octets from to text rest lies is =
    let size : to - from ≡ length text = omega (arith, is) in
    ap (λ (n : ℕ). take n (drop from octets)) size ∙ part-lies octets from text rest lies

-- ---- blocks

pub block-long : (dictionary own : List ℕ) (value : Block6) → SpellsBlock dictionary own value → 1 ≤ length own
unfolding block
block-long dictionary own value spelled =
    let s = spelled.spells in
    omega (arith, ap length s.3, length-append s.0 s.1, ap length s.4.0)

-- how long a block is, by its parts
pub block-room : (at after count size : ℕ) (octets own rest kind a b c d e f g h i j : List ℕ) → LiesAt octets at (own ++ rest) → LiesAt octets after rest
    → own ≡ kind ++ a → length kind ≡ 1 → a ≡ b ++ c → 1 ≤ length b → c ≡ d ++ e → d ≡ f ++ g → count ≤ length g → e ≡ h ++ i → 1 ≤ length h
    → i ≡ j ++ [] → length j ≡ size → at + 3 + count + size ≤ after
block-room at after count size octets own rest kind a b c d e f g h i j first last k0 k1 a0 b1 c0 d0 g1 e0 h1 i0 j1 =
    omega (
      arith,
      lies-long octets at (own ++ rest) first,
      lies-long octets after rest last,
      length-append own rest,
      ap length k0,
      length-append kind a,
      k1,
      ap length a0,
      length-append b c,
      b1,
      ap length c0,
      length-append d e,
      ap length d0,
      length-append f g,
      g1,
      ap length e0,
      length-append h i,
      h1,
      ap length i0,
      length-append j [],
      j1,
    )

-- from the table
pub blocks-are : (n most : ℕ) (part : Option Fragment) (dictionary front text : List ℕ) (earlier all : List Block6)
    → Spells (until n (next_block most part dictionary) earlier) front text all
    → (blocks : List Block6) × (all ≡ earlier ++ blocks) × AreBlocks dictionary text blocks
unfolding until next_block
blocks-are zero most part dictionary front text earlier all s =
    let n = s.4 in
    let own : text ≡ n.0 ++ [] =
    s.3 ∙ ap (λ (t : List ℕ). s.0 ++ t) s.5.0 ∙ append-nil s.0 ∙ n.3 ∙ ap (λ (t : List ℕ). n.0 ++ t) n.5.0 in (
      n.2.0 ∷ [],
      s.5.1 ∙ ap (λ v. v.0) n.5.1,
      (n.0, [], own, record { most = most; part = part; paid = has_payload earlier; before = others earlier; front = front; last = n.2.1; spells = n.4 }, refl),
    )
blocks-are (suc left) most part dictionary front text earlier all s =
    by s.2.1 refl s.5 (λ more. blocks-are left most part dictionary (front ++ s.0) s.1 s.2.0 all more)
  where
    by : (last : Bool) → s.2.1 ≡ last → Spells (choice last (give s.2.0) (until left (next_block most part dictionary) s.2.0)) (front ++ s.0) s.1 all
        → (Spells (until left (next_block most part dictionary) s.2.0) (front ++ s.0) s.1 all
        → (blocks : List Block6) × (all ≡ s.2.0 ++ blocks) × AreBlocks dictionary s.1 blocks)
        → (blocks : List Block6) × (all ≡ earlier ++ blocks) × AreBlocks dictionary text blocks
    by true is rest later =
        let own : text ≡ s.4.0 ++ [] =
        s.3 ∙ ap (λ (t : List ℕ). s.0 ++ t) rest.0 ∙ append-nil s.0 ∙ s.4.3 ∙ ap (λ (t : List ℕ). s.4.0 ++ t) s.4.5.0 in (
          s.4.2.0 ∷ [],
          rest.1 ∙ ap (λ v. v.0) s.4.5.1,
          (s.4.0, [], own, record { most = most; part = part; paid = has_payload earlier; before = others earlier; front = front; last = s.4.2.1; spells = s.4.4 }, refl),
        )
    by false is rest later =
        let (blocks, are, more) = later rest in
        let first : s.0 ≡ s.4.0 = s.4.3 ∙ ap (λ (t : List ℕ). s.4.0 ++ t) s.4.5.0 ∙ append-nil s.4.0 in (
          s.4.2.0 ∷ blocks,
          are ∙ ap (λ (t : List Block6). t ++ blocks) (ap (λ v. v.0) s.4.5.1) ∙ append_assoc earlier (s.4.2.0 ∷ []) blocks,
          (
            s.4.0,
            s.1,
            s.3 ∙ ap (λ (t : List ℕ). t ++ s.1) first,
            record { most = most; part = part; paid = has_payload earlier; before = others earlier; front = front; last = s.4.2.1; spells = s.4.4 },
            more,
          ),
        )
