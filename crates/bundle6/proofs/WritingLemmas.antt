-- What code writes is the canonical spelling, and it spells the bundle.

use Rattle.std.proofs.Common.{◌≡◌, ℕ, ◌+◌, ◌^◌, ◌<◌, ◌≤◌, suc, Bool, eqb}
use Rattle.std.proofs.Common.{List, [], ◌∷◌, ◌++◌, length, take, drop, get_or, refl, sym, ◌∙◌, ap, subst, arith, length-append, append_assoc, add-one, zero-add, Ok}
use Rattle.std.specs.Prelude.{map}
use Rattle.std.specs.List.{AllByRecursion, flat_map, count_by}
use Rattle.std.proofs.lemmas.Bool.{eqb-true, eq-eqb}
use Rattle.std.proofs.lemmas.Bool.Decides.{same_from_decides, Decides-eqb}
use Rattle.std.proofs.lemmas.List.{append-nil, map-append, length-map, length-drop, drop_all}
use Rattle.std.proofs.lemmas.List.Elements.{recursion_from_All}
use Rattle.std.proofs.Math.Seq.{drop-cons, take-append_seam, drop-append_seam}
use Rattle.sdnv.specs.Shortest.{spelling}
use Rattle.endpoint.specs.declared.name.Endpoint.{Endpoint}
use Rattle.endpoint.specs.Endpoints.{IsEndpoint}
use Rattle.wire_fields.specs.Format.{Spells}
use Rattle.wire_fields.proofs.ReadLemmas.{read-only}
use Rattle.bundle6.specs.declared.names.Offsets.{Offsets}
use Rattle.bundle6.specs.declared.primary.Primary6.{Primary6}
use Rattle.bundle6.specs.declared.block.Block6.{Block6}
use Rattle.bundle6.specs.declared.bundle.Bundle6.{Bundle6}
use Rattle.bundle6.specs.Table.{is_payload, bundle}
use Rattle.bundle6.specs.Legal.{IsLegalBlock, IsLegal, IsReadAgain, Spells6}
use Rattle.bundle6.specs.Spelling.{IsCounted, endpoints_of, texts_of, dictionary_of, offsets_of, name_octets, rest_octets, primary_octets, marked, refs_octets, block_octets, blocks_octets, canon6}
use Rattle.bundle6.specs.Writing.{pairs_octets, rest_written, primary_written, refs_written, block_written, blocks_written}
use Rattle.bundle6.proofs.CanonLemmas.{IsNamed}
use Rattle.bundle6.proofs.GatherLemmas.{endpoints-named}
use Rattle.bundle6.proofs.SpellingLemmas.{AreNamed, primary-spells, blocks-spell}

-- ---- the loop over blocks

-- a block is the last where as many were written as there are
last-is : (blocks : List Block6) (i : ℕ) → i < length blocks
    → eqb (i + 1) (length blocks) ≡ eqb (length (drop (i + 1) blocks)) 0
last-is blocks i inside =
    let long = length-drop (i + 1) blocks in
    same_from_decides (eqb (i + 1) (length blocks)) (eqb (length (drop (i + 1) blocks)) 0) (Decides-eqb (i + 1) (length blocks))
    (λ is. omega (arith, eqb-true _ _ is), λ is. eq-eqb _ _ (omega arith))

-- what is left begins with the next block
left-is : (blocks : List Block6) (i : ℕ) (b : Block6) → i < length blocks → b ≡ get_or blocks i b
    → drop i blocks ≡ b ∷ drop (i + 1) blocks
left-is blocks i b inside is =
    rw add-one (drop-cons blocks i b inside ∙ ap (λ x. x ∷ drop (suc i) blocks) (sym is))

pub counted-step : (blocks : List Block6) (i : ℕ) (b : Block6) (rest : List Offsets) → i < length blocks → b ≡ get_or blocks i b
    → length rest ≡ length (flat_map (λ block. block.refs) (drop i blocks))
    → length (drop (length b.refs) rest) ≡ length (flat_map (λ block. block.refs) (drop (i + 1) blocks))
counted-step blocks i b rest inside is counted =
    let left : length rest ≡ length (b.refs ++ flat_map (λ block. block.refs) (drop (i + 1) blocks)) =
    counted ∙ ap (λ bs. length (flat_map (λ block. block.refs) bs)) (left-is blocks i b inside is) in
    omega (arith, length-drop (length b.refs) rest, length-append b.refs (flat_map (λ block. block.refs) (drop (i + 1) blocks)))

pub written-step : (blocks : List Block6) (i : ℕ) (b : Block6) (rest : List Offsets) (out after all : List ℕ) → i < length blocks
    → b ≡ get_or blocks i b
    → after ≡ out ++ block_written (eqb (i + 1) (length blocks)) b (take (length b.refs) rest)
    → out ++ blocks_written (drop i blocks) rest ≡ all
    → after ++ blocks_written (drop (i + 1) blocks) (drop (length b.refs) rest) ≡ all
unfolding blocks_written
written-step blocks i b rest out after all inside is wrote left =
    let own = take (length b.refs) rest in
    let others = blocks_written (drop (i + 1) blocks) (drop (length b.refs) rest) in
    ap (λ front. front ++ others) (wrote ∙ ap (λ t. out ++ block_written t b own) (last-is blocks i inside))
    ∙ append_assoc out (block_written (eqb (length (drop (i + 1) blocks)) 0) b own) others
    ∙ ap (λ bs. out ++ blocks_written bs rest) (sym (left-is blocks i b inside is))
    ∙ left

pub written-end : (blocks : List Block6) (i : ℕ) (rest : List Offsets) (out all : List ℕ) → length blocks ≤ i
    → out ++ blocks_written (drop i blocks) rest ≡ all → out ≡ all
unfolding blocks_written
written-end blocks i rest out all past left =
    sym (append-nil out) ∙ ap (λ bs. out ++ blocks_written bs rest) (sym (drop_all i blocks past)) ∙ left

-- ---- what is written is the canonical spelling

pairs-names : (texts : List (List ℕ)) (endpoints : List Endpoint)
    → pairs_octets (map (offsets_of texts) endpoints) ≡ flat_map (name_octets texts) endpoints
pairs-names texts [] = refl
pairs-names texts (endpoint ∷ more) =
    ap (λ rest. name_octets texts endpoint ++ rest) (pairs-names texts more)

refs-names : (texts : List (List ℕ)) (refs : List Endpoint) → refs_written (map (offsets_of texts) refs) ≡ refs_octets texts refs
refs-names texts [] = refl
refs-names texts (first ∷ more) =
    let long : length (map (offsets_of texts) (first ∷ more)) ≡ length (first ∷ more) = length-map (first ∷ more) (offsets_of texts) in
    ap (λ n. spelling n ++ pairs_octets (map (offsets_of texts) (first ∷ more))) long
    ∙ ap (λ rest. spelling (length (first ∷ more)) ++ rest) (pairs-names texts (first ∷ more))

block-names : (texts : List (List ℕ)) (last : Bool) (b : Block6)
    → block_written last b (map (offsets_of texts) b.refs) ≡ block_octets texts last b
unfolding block_octets
block-names texts last b =
    ap (λ refs. b.kind ∷ (spelling (marked last b) ++ (refs ++ (spelling (length b.body) ++ b.body)))) (refs-names texts b.refs)

blocks-names : (texts : List (List ℕ)) (blocks : List Block6)
    → blocks_written blocks (map (offsets_of texts) (flat_map (λ block. block.refs) blocks)) ≡ blocks_octets texts blocks
unfolding blocks_written blocks_octets
blocks-names texts [] = refl
blocks-names texts (b ∷ more) =
    let own = map (offsets_of texts) b.refs in
    let others = map (offsets_of texts) (flat_map (λ block. block.refs) more) in
    let all : map (offsets_of texts) (b.refs ++ flat_map (λ block. block.refs) more) ≡ own ++ others =
    map-append (offsets_of texts) b.refs (flat_map (λ block. block.refs) more) in
    let long : length b.refs ≡ length own = sym (length-map b.refs (offsets_of texts)) in
    let front : take (length b.refs) (own ++ others) ≡ own = ap (λ n. take n (own ++ others)) long ∙ take-append_seam own others in
    let back : drop (length b.refs) (own ++ others) ≡ others = ap (λ n. drop n (own ++ others)) long ∙ drop-append_seam own others in
    let again = blocks-names texts more in
    let last = eqb (length more) 0 in
    ap (λ m. block_written last b (take (length b.refs) m) ++ blocks_written more (drop (length b.refs) m)) all
    ∙ ap (λ q. block_written last b q ++ blocks_written more (drop (length b.refs) (own ++ others))) front
    ∙ ap (λ q. block_written last b own ++ blocks_written more q) back
    ∙ ap (λ w. w ++ blocks_written more others) (block-names texts last b)
    ∙ ap (λ w. block_octets texts last b ++ w) again

rest-names : (texts : List (List ℕ)) (p : Primary6)
    → rest_written p (map (offsets_of texts) (p.destination ∷ p.source ∷ p.report_to ∷ p.custodian ∷ [])) (dictionary_of texts)
    ≡ rest_octets texts p
unfolding rest_octets
rest-names texts p = rw (append-nil (name_octets texts p.custodian)) refl

-- the numbers of a bundle's endpoints, cut after the four names
pub canon-written : (b : Bundle6) (pairs names refs : List Offsets) (words rest out : List ℕ)
    → pairs ≡ map (offsets_of (texts_of b)) (endpoints_of b) → words ≡ dictionary_of (texts_of b)
    → names ≡ take 4 pairs → refs ≡ drop 4 pairs → rest ≡ rest_written b.primary names words
    → out ≡ primary_written b.primary rest ++ blocks_written b.blocks refs
    → (out ≡ canon6 b) × (rest ≡ rest_octets (texts_of b) b.primary)
unfolding canon6 primary_octets
canon-written b pairs names refs words rest out are words_are names_are refs_are rest_is out_is =
    let texts = texts_of b in
    let p = b.primary in
    let four = map (offsets_of texts) (p.destination ∷ p.source ∷ p.report_to ∷ p.custodian ∷ []) in
    let own : names ≡ four = names_are ∙ ap (take 4) are in
    let others : refs ≡ map (offsets_of texts) (flat_map (λ block. block.refs) b.blocks) = refs_are ∙ ap (drop 4) are in
    let whole : rest ≡ rest_octets texts p =
    rest_is ∙ ap (λ n. rest_written p n words) own ∙ ap (λ w. rest_written p four w) words_are ∙ rest-names texts p in (
      out_is ∙ ap (λ r. primary_written p r ++ blocks_written b.blocks refs) whole
          ∙ ap (λ q. primary_octets texts p ++ blocks_written b.blocks q) others
          ∙ ap (λ bs. primary_octets texts p ++ bs) (blocks-names texts b.blocks),
      whole,
    )

-- ---- the canonical spelling spells the bundle

flat-legal : (blocks : List Block6) → AllByRecursion IsLegalBlock blocks → AllByRecursion IsEndpoint (flat_map (λ block. block.refs) blocks)
flat-legal [] legal = tt
flat-legal (b ∷ more) legal =
    join b.refs (flat_map (λ block. block.refs) more) (recursion_from_All IsEndpoint b.refs legal.0.refs) (flat-legal more legal.1)
  where
    join : (xs ys : List Endpoint) → AllByRecursion IsEndpoint xs → AllByRecursion IsEndpoint ys → AllByRecursion IsEndpoint (xs ++ ys)
    join [] ys all rest = rest
    join (x ∷ xs) ys all rest = (all.0, join xs ys all.1 rest)

split-named : (texts : List (List ℕ)) (blocks : List Block6) → AllByRecursion (IsNamed texts) (flat_map (λ block. block.refs) blocks)
    → AllByRecursion (λ block. AllByRecursion (IsNamed texts) block.refs) blocks
split-named texts [] named = tt
split-named texts (b ∷ more) named =
    let parts = split b.refs (flat_map (λ block. block.refs) more) named in
    (parts.0, split-named texts more parts.1)
  where
    split : (xs ys : List Endpoint) → AllByRecursion (IsNamed texts) (xs ++ ys)
        → AllByRecursion (IsNamed texts) xs × AllByRecursion (IsNamed texts) ys
    split [] ys all = (tt, all)
    split (x ∷ xs) ys all = let rest = split xs ys all.1 in ((all.0, rest.0), rest.1)

dictionary-within : (texts : List (List ℕ)) (p : Primary6) → length (dictionary_of texts) ≤ length (rest_octets texts p)
unfolding rest_octets
dictionary-within texts p =
    let words = dictionary_of texts in
    simp length-append (omega arith)

-- a payload is a block
some-block : (blocks : List Block6) → count_by is_payload blocks ≡ 1 → 0 < length blocks
some-block [] one = absurd cc
some-block (b ∷ more) one = omega arith

pub canon-spells : (b : Bundle6) → IsLegal b → IsCounted b
    → Spells (bundle 64) [] (canon6 b) b
unfolding bundle canon6
canon-spells b legal low =
    let texts = texts_of b in
    let p = b.primary in
    let small : length (dictionary_of texts) < 2 ^ 64 = omega (arith, dictionary-within texts p) in
    let endpoints : AllByRecursion IsEndpoint (endpoints_of b) = (
      legal.primary.destination,
      (
        legal.primary.source,
        (
          legal.primary.report_to,
          (
            legal.primary.custodian,
            flat-legal b.blocks (recursion_from_All IsLegalBlock b.blocks legal.blocks),
          ),
        ),
      ),
    ) in
    let named = endpoints-named b endpoints small in
    let names : AreNamed texts p = record {
      destination = named.0;
      source = named.1.0;
      report_to = named.1.1.0;
      custodian = named.1.1.1.0;
    } in (
      primary_octets texts p,
      blocks_octets texts b.blocks,
      (p, dictionary_of texts),
      refl,
      primary-spells [] texts p legal.primary names small low,
      (
        blocks_octets texts b.blocks,
        [],
        b.blocks,
        sym (append-nil (blocks_octets texts b.blocks)),
        blocks-spell 65 p.fragment texts [] b.blocks (primary_octets texts p) (some-block b.blocks legal.one_payload) refl
            (record { legal = legal.blocks; within = legal.within; payloads = legal.one_payload; few = legal.others_are_few })
            (split-named texts b.blocks named.1.1.1.1),
        (refl, refl),
      ),
    )

-- what is written
pub record IsWritten (b : Bundle6) (out : List ℕ) : Type 0 where
  pub exact : out ≡ canon6 b
  pub spelled : Spells6 b out
  pub again : IsReadAgain b out

pub written-is : (b : Bundle6) (out : List ℕ) → IsLegal b → IsCounted b
    → out ≡ canon6 b → IsWritten b out
written-is b out legal low is =
    let spells : Spells (bundle 64) [] out b = subst (λ w. Spells (bundle 64) [] w b) (sym is) (canon-spells b legal low) in
    record {
      exact = is;
      spelled = record { legal = legal; spelled = spells };
      again = λ more. read-only (bundle 64) [] out more b spells ∙ ap (λ n. Ok (b, n)) (zero-add (length out));
    }
