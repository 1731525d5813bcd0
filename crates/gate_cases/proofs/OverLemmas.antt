-- Names that are longer than a session carries make a piece that is.
use Rattle.std.proofs.Common.{◌≡◌, ℕ, ◌+◌, ◌-◌, ◌<◌, ◌≤◌, nat_lt, Bool, true, false, ◌||◌, if◌then◌else◌, List, [], ◌∷◌, ◌++◌, length, take, get_or, map, codes, refl, arith, length-append}
use Rattle.std.specs.List.{list_any, sum_by, flat_map}
use Rattle.std.specs.Fmt.{decimal}
use Rattle.std.proofs.lemmas.Bool.{ltb-true, lt-ltb}
use Rattle.std.proofs.lemmas.List.Sums.{sum_by_more_le, sum_by-append}
use Rattle.sdnv.specs.Shortest.{spelling}
use Rattle.endpoint.specs.declared.name.Endpoint.{Endpoint}
use Rattle.endpoint.specs.declared.name.Endpoint.TheVariants.{Null, Ipn, Dtn}
use Rattle.endpoint.specs.Endpoints.{text_of, ssp_of}
use Rattle.bundle_meaning.specs.declared.blocks.Ext.{Ext}
use Rattle.bundle_meaning.specs.declared.blocks.Ext.TheVariants.{Six, Seven}
use Rattle.bundle_meaning.specs.declared.blocks.Block6Like.{Block6Like}
use Rattle.bundle_meaning.specs.declared.full.Full.{Full}
use Rattle.bundle_meaning.specs.Blocks.{mark}
use Rattle.bundle_meaning.specs.Body.{name_octets}
use Rattle.bundle_meaning.specs.Wrap.{wrap_new_octets}
use Rattle.cbor_lite.specs.Head.{head}
use Rattle.cbor_lite.specs.Item.{string}
use Rattle.bundle7.specs.declared.block.Block7.{Block7}
use Rattle.bundle7.specs.Table.{check_items}
use Rattle.bundle7.specs.Spelling.{with_check, crc_octets, bare_octets, block_octets, blocks_octets, primary_octets, octets7}
use Rattle.translate.specs.View7.{block7_at, number_after7, blocks7_of, exts7_of, needs_residue7, next_free7, residue7_at, view7_of}
use Rattle.gate_cases.specs.declared.case.TheConstants.{BLOCK_MAX}
use Rattle.gate_cases.specs.declared.face.Face.{Face}
use Rattle.gate_cases.specs.declared.face.Face.TheVariants.{Old, New}
use Rattle.gate_cases.specs.Faces.{octets_at}
use Rattle.gate_cases.specs.Names.{least, are_over, is_over, over_at}

-- ---- the sum

-- one name more passes the bound
pub over-found : (most : ℕ) (refs : List Endpoint) (i sum size : ℕ) → i < length refs → sum ≡ sum_by least (take i refs)
    → size ≡ least (get_or refs i Null) → sum ≤ most → most - sum < size → nat_lt most (sum_by least refs) ≡ true
over-found most refs i sum size inside so is low past =
    lt-ltb most (sum_by least refs) (omega (arith, so, is, low, past, sum_by_more_le least refs i Null inside))

-- ---- names, wraps and blocks

back-le : (xs ys : List ℕ) → length ys ≤ length (xs ++ ys)
back-le xs ys = omega (arith, length-append xs ys)

front-le : (xs ys : List ℕ) → length xs ≤ length (xs ++ ys)
front-le xs ys = omega (arith, length-append xs ys)

text-least : (endpoint : Endpoint) → least endpoint ≤ length (text_of endpoint)
text-least Null = omega arith
text-least (Ipn node service) =
    let ssp = ssp_of (Ipn node service) in
    omega (
      arith,
      length-append (codes "ipn") (codes ":" ++ ssp),
      length-append (codes ":") ssp,
      length-append (decimal node) (codes "." ++ decimal service),
      length-append (codes ".") (decimal service),
    )
text-least (Dtn ssp) = omega (arith, back-le (codes "dtn") (codes ":" ++ ssp), back-le (codes ":") ssp)

name-least : (endpoint : Endpoint) → least endpoint ≤ length (name_octets endpoint)
name-least endpoint =
    omega (arith, text-least endpoint, back-le (spelling (length (text_of endpoint))) (text_of endpoint))

names-least : (refs : List Endpoint) → sum_by least refs ≤ length (flat_map name_octets refs)
names-least [] = omega arith
names-least (endpoint ∷ more) =
    let one : sum_by least (endpoint ∷ []) ≡ 0 + least endpoint = refl in
    let sum : sum_by least (endpoint ∷ more) ≡ sum_by least (endpoint ∷ []) + sum_by least more =
    sum_by-append least (endpoint ∷ []) more in
    let size : length (flat_map name_octets (endpoint ∷ more)) ≡ length (name_octets endpoint) + length (flat_map name_octets more) =
    length-append (name_octets endpoint) (flat_map name_octets more) in
    omega (arith, one, sum, size, names-least more, name-least endpoint)

wrap-least : (block : Block6Like) → sum_by least block.refs ≤ length (wrap_new_octets block)
unfolding wrap_new_octets
wrap-least block =
    let names = flat_map name_octets block.refs in
    let refs = spelling (length block.refs) ++ names in
    let rest = refs ++ block.body in
    omega (
      arith,
      names-least block.refs,
      back-le (spelling (length block.refs)) names,
      front-le refs block.body,
      back-le (spelling block.flags) rest,
      back-le (spelling block.kind) (spelling block.flags ++ rest),
      back-le mark (spelling block.kind ++ (spelling block.flags ++ rest)),
    )

body-le : (b : Block7) → length b.body ≤ length (block_octets b)
unfolding with_check bare_octets
body-le b =
    let one = string 2 b.body in
    let two = head 0 b.crc ++ one in
    let three = head 0 b.flags ++ two in
    let four = head 0 b.number ++ three in
    let five = head 0 b.kind ++ four in
    omega (
      arith,
      back-le (head 2 (length b.body)) b.body,
      back-le (head 0 b.crc) one,
      back-le (head 0 b.flags) two,
      back-le (head 0 b.number) three,
      back-le (head 0 b.kind) four,
      back-le (head 4 (5 + check_items b.crc)) five,
      front-le (bare_octets b) (crc_octets b.crc (bare_octets b)),
    )

-- ---- the bundle

or-second : (a b : Bool) → a ≡ false → (a || b) ≡ true → b ≡ true
or-second true b first is = absurd (cc)
or-second false b first is = is

or-true : (a b : Bool) → b ≡ true → (a || b) ≡ true
or-true true b is = refl
or-true false b is = is

exts-over : (all exts : List Ext) (next : ℕ) → list_any is_over exts ≡ true
    → BLOCK_MAX < length (blocks_octets (blocks7_of all next exts))
unfolding blocks_octets blocks7_of
exts-over all [] next over = absurd (cc)
exts-over all (Seven block ∷ exts) next over =
    let b = block7_at all next (Seven block) in
    omega (arith, exts-over all exts next over, back-le (block_octets b) (blocks_octets (blocks7_of all next exts)))
exts-over all (Six block ∷ exts) next over =
    by (are_over block.refs) refl
    (λ later. exts-over all exts (number_after7 all next (Six block)) later)
  where
    wrap : Block7
    wrap = block7_at all next (Six block)

    rest : List ℕ
    rest = blocks_octets (blocks7_of all (number_after7 all next (Six block)) exts)

    by : (t : Bool) → are_over block.refs ≡ t → (list_any is_over exts ≡ true → BLOCK_MAX < length rest)
        → BLOCK_MAX < length (block_octets wrap ++ rest)
    by true first after =
        omega (
          arith,
          ltb-true BLOCK_MAX (sum_by least block.refs) first,
          wrap-least block,
          body-le wrap,
          front-le (block_octets wrap) rest,
        )
    by false other after = omega (arith, after (or-second _ _ other over), back-le (block_octets wrap) rest)

exts7-over : (full : Full) → list_any is_over full.exts ≡ true → BLOCK_MAX < length (blocks_octets (exts7_of full))
unfolding blocks_octets
exts7-over full over = by (needs_residue7 full)
  where
    residue : Block7
    residue = residue7_at (next_free7 full.exts 2) full

    by : (t : Bool) → BLOCK_MAX < length (blocks_octets (if t
        then residue ∷ blocks7_of full.exts (next_free7 full.exts 2 + 1) full.exts
        else blocks7_of full.exts 2 full.exts))
    by true =
        let first = next_free7 full.exts 2 + 1 in
        omega (
          arith,
          exts-over full.exts full.exts first over,
          back-le (block_octets residue) (blocks_octets (blocks7_of full.exts first full.exts)),
        )
    by false = exts-over full.exts full.exts 2 over

pub piece-over : (to : Face) (full : Full) → over_at to full ≡ true → nat_lt BLOCK_MAX (length (octets_at to full)) ≡ true
unfolding octets7
piece-over Old full over = absurd (cc)
piece-over New full over =
    let b = view7_of full in
    let exts = blocks_octets (exts7_of full) in
    let rest = block_octets b.payload ++ 255 ∷ [] in
    lt-ltb BLOCK_MAX (length (octets7 b))
    (omega (arith, exts7-over full over, front-le exts rest, back-le (primary_octets b.primary) (exts ++ rest)))

pub pieces-over : (to : Face) (records : List Full) → list_any (over_at to) records ≡ true
    → list_any (λ piece. nat_lt BLOCK_MAX (length piece)) (map (octets_at to) records) ≡ true
pieces-over to [] over = absurd (cc)
pieces-over to (full ∷ more) over = by (over_at to full) refl (λ later. pieces-over to more later)
  where
    after : List (List ℕ) → Bool
    after pieces = list_any (λ piece. nat_lt BLOCK_MAX (length piece)) pieces

    by : (b : Bool) → over_at to full ≡ b → (list_any (over_at to) more ≡ true → after (map (octets_at to) more) ≡ true)
        → (nat_lt BLOCK_MAX (length (octets_at to full))
        || after (map (octets_at to) more)) ≡ true
    by true first rest = rw (piece-over to full first) refl
    by false other rest = or-true _ _ (rest (or-second _ _ other over))
