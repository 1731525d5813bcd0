-- A piece has an octet when it goes, and no more than its size says, whenever that is.

use Rattle.std.proofs.Common.{◌≡◌, ℕ, ◌+◌, ◌-◌, ◌^◌, ◌<◌, ◌≤◌, ◌==◌, nat_lt, Bool, true, false, ◌&&◌, if◌then◌else◌, List, [], ◌∷◌, map, length, Option, Some, None, refl, sym, ap, subst, ◌∙◌, arith}
use Rattle.std.specs.List.{All}
use Rattle.std.specs.Option.{is_none}
use Rattle.std.proofs.lemmas.List.Elements.{All-nil, All-cons, All-head, All-tail}
use Rattle.cbor_lite.specs.Head.{head}
use Rattle.bundle6.specs.declared.bundle.Bundle6.{Bundle6}
use Rattle.bundle6.specs.Spelling as six
use Rattle.bundle7.specs.declared.block.Block7.{Block7}
use Rattle.bundle7.specs.declared.bundle.Bundle7.{Bundle7}
use Rattle.bundle7.specs.Body.{bundle_age}
use Rattle.bundle7.specs.Spelling as seven
use Rattle.bundle_meaning.specs.declared.full.Full.{Full}
use Rattle.translate.specs.Legal.{IsSized7, AreSized7}
use Rattle.translate.specs.Refusals.{first_that_holds}
use Rattle.translate.specs.Sound.{IsSound}
use Rattle.translate.specs.View6.{view6_of}
use Rattle.translate.specs.View7.{view7_of}
use Rattle.translate.proofs.SpelledLemmas.{octets7-sized}
use Rattle.gate_cases.specs.declared.face.Face.{Face}
use Rattle.gate_cases.specs.declared.face.Face.TheVariants as faces
use Rattle.gate_cases.specs.Faces.{fits_at, octets_at}
use Rattle.bundle_age.specs.Raised.{age_in, octets_after, body_after, age_after, raised_block7, raised_bundle, raised_by, has_age}
use Rattle.bundle_age.proofs.ViewLemmas.{raised_in_views, stays_add_up}
use Rattle.face_room.specs.declared.bounds.TheConstants.{BLOCK_MAX}
use Rattle.piece_gathering.specs.declared.piece.Piece.{Piece}
use Rattle.peer_cases.specs.declared.settings.PeerSettings.{PeerSettings}
use Rattle.peer_cases.specs.Arrivals.{Came}
use Rattle.peer_cases.specs.Pieces.{wire_octets}
use Rattle.peer_cases.specs.Rows.{came_in}
use Rattle.peer_cases.proofs.WireLemmas.{fits-raised}
use Rattle.peer_gateway.specs.Going.{stay_of, raised_octets}
use Rattle.peer_gateway.specs.Laws.{IsSizedAt}
use Rattle.peer_gateway.proofs.LengthLemmas.{length-head, new-grows, old-grows}
use Rattle.peer_gateway.proofs.SizeLemmas.{length-wire}

-- ---- numbers count the octets of a body, whatever the stay

head-short : (kind n : ℕ) → length (head kind n) ≤ 9
head-short kind n = subst (λ (k : ℕ). k ≤ 9) (sym (length-head kind n)) (by (nat_lt n 24) (nat_lt n (2 ^ 8)) (nat_lt n (2 ^ 16)) (nat_lt n (2 ^ 32)))
  where
    by : (a b c d : Bool) → (if a then 1 else if b then 2 else if c then 3 else if d then 5 else 9) ≤ 9
    by true b c d = omega arith
    by false true c d = omega arith
    by false false true d = omega arith
    by false false false true = omega arith
    by false false false false = omega arith

body-short : (more stay kind : ℕ) (body : List ℕ) → length (body_after more kind body) < 2 ^ 64 → length (body_after stay kind body) < 2 ^ 64
body-short more stay kind body small = by (kind == bundle_age) (age_in body) small
  where
    by : (t : Bool) (age : Option ℕ) → length (if t then octets_after more age body else body) < 2 ^ 64
        → length (if t then octets_after stay age body else body) < 2 ^ 64
    by false age small = small
    by true None small = small
    by true (Some n) small = omega (arith, head-short 0 (age_after stay n))

exts-short : (more stay : ℕ) (exts : List Block7) → All IsSized7 (map (raised_block7 more) exts) → All IsSized7 (map (raised_block7 stay) exts)
exts-short more stay [] sized = All-nil IsSized7
exts-short more stay (block ∷ exts) sized =
    All-cons IsSized7 (raised_block7 stay block) (map (raised_block7 stay) exts)
    (body-short more stay block.kind block.body (All-head IsSized7 (raised_block7 more block) (map (raised_block7 more) exts) sized))
    (exts-short more stay exts (All-tail IsSized7 (raised_block7 more block) (map (raised_block7 more) exts) sized))

bundle-short : (more stay : ℕ) (b : Bundle7) → AreSized7 (raised_bundle more b) → AreSized7 (raised_bundle stay b)
unfolding raised_bundle
bundle-short more stay b sized = record { exts = exts-short more stay b.exts sized.exts; payload = sized.payload }

-- where a bundle has few octets after one stay, numbers count those of its blocks after each
counted7 : (more stay : ℕ) (full : Full) → IsSound full → length (seven.octets7 (view7_of (raised_by more full))) < 2 ^ 64
    → AreSized7 (view7_of (raised_by stay full))
counted7 more stay full sound few =
    let one = (raised_in_views full more sound).same in
    let other = (raised_in_views full stay sound).same in
    subst AreSized7 (sym other) (bundle-short more stay (view7_of full)
    (subst AreSized7 one (octets7-sized (view7_of (raised_by more full)) few)))

-- ---- after the longest stay there are the most octets

grows-at : (face : Face) (stay more : ℕ) (full : Full) → IsSound full → fits_at face full ≡ true
    → length (octets_at face (raised_by (stay + more) full)) < 2 ^ 64
    → length (octets_at face (raised_by stay full)) ≤ length (octets_at face (raised_by (stay + more) full))
grows-at faces.Old stay more full sound fits few =
    let all = (stays_add_up full sound).sum stay more in
    let up = old-grows more (raised_by stay full) (raised_in_views full stay sound).sound in
    omega (arith, up, ap (λ (f : Full). length (octets_at faces.Old f)) all)
grows-at faces.New stay more full sound fits few =
    let all = (stays_add_up full sound).sum stay more in
    let up = new-grows more (raised_by stay full) (raised_in_views full stay sound).sound (fits-raised faces.New stay full ∙ fits)
    (counted7 (stay + more) stay full sound few) in
    omega (arith, up, ap (λ (f : Full). length (octets_at faces.New f)) all)

pub longest : (s : PeerSettings) (face : Face) (stay : ℕ) (full : Full) → IsSound full → fits_at face full ≡ true → stay < 2 ^ 64
    → length (wire_octets s face (raised_by (2 ^ 64 - 1) full)) ≤ BLOCK_MAX
    → length (wire_octets s face (raised_by stay full)) ≤ length (wire_octets s face (raised_by (2 ^ 64 - 1) full))
longest s face stay full sound fits short few =
    let more = 2 ^ 64 - 1 - stay in
    let whole : stay + more ≡ 2 ^ 64 - 1 = omega (arith, short) in
    let same = ap (λ (n : ℕ). length (octets_at face (raised_by n full))) whole in
    let most = length-wire s face (raised_by (2 ^ 64 - 1) full) in
    omega (arith, length-wire s face (raised_by stay full), most, same, grows-at face stay more full sound fits (omega (arith, few, most, same)))

-- ---- there is one

some6 : (b : Bundle6) → 0 < length (six.canon6 b)
unfolding six.canon6 six.primary_octets
some6 b = omega arith

some7 : (b : Bundle7) → 0 < length (seven.octets7 b)
unfolding seven.octets7
some7 b = omega arith

pub wire-some : (s : PeerSettings) (face : Face) (full : Full) → 0 < length (wire_octets s face full)
wire-some s faces.Old full = omega (arith, length-wire s faces.Old full, some6 (view6_of full))
wire-some s faces.New full = omega (arith, length-wire s faces.New full, some7 (view7_of full))

-- ---- a piece of a size

-- whether its age is raised
abbrev pub raises_of : Came → Bool
raises_of came = is_none (first_that_holds (came.arrival).refusals) && has_age (came.arrival).full

-- the record of a piece has a bundle of so many octets at most after the longest stay
pub record AgesWithin (s : PeerSettings) (face : Face) (size : ℕ) (full : Full) : Type 0 where
  pub sound : IsSound full
  pub fits : fits_at face full ≡ true
  pub few : length (wire_octets s face (raised_by (2 ^ 64 - 1) full)) ≤ size

-- so has a piece that reads so
abbrev pub ReadsWithin : PeerSettings → Face → List ℕ → ℕ → Option Came → Type 0
ReadsWithin s face octets size None = length octets ≤ size
ReadsWithin s face octets size (Some came) =
    (raises_of came ≡ true → AgesWithin s face size (came.arrival).full) × (raises_of came ≡ false → length octets ≤ size)

raised-within : (s : PeerSettings) (face : Face) (stay size : ℕ) (octets : List ℕ) (came : Option Came) → 0 < length octets → size ≤ BLOCK_MAX
    → stay < 2 ^ 64 → ReadsWithin s face octets size came
    → (0 < length (raised_octets s face stay octets came)) × (length (raised_octets s face stay octets came) ≤ size)
raised-within s face stay size octets None some small short reads = (some, reads)
raised-within s face stay size octets (Some came) some small short reads = by (raises_of came) refl
  where
    full : Full
    full = (came.arrival).full

    by : (t : Bool) → raises_of came ≡ t
        → (0 < length (if t then wire_octets s face (raised_by stay full) else octets))
        × (length (if t then wire_octets s face (raised_by stay full) else octets) ≤ size)
    by false is = (some, reads.1 is)
    by true is =
        let ages = reads.0 is in (
          wire-some s face (raised_by stay full),
          omega (arith, ages.few, longest s face stay full ages.sound ages.fits short (omega (arith, ages.few, small))),
        )

pub sized-at : (s : PeerSettings) (face : Face) (leaves : ℕ) (piece : Piece) → 0 < length piece.octets → piece.size ≤ BLOCK_MAX
    → leaves < 2 ^ 64 → (s.raises ≡ false → length piece.octets ≤ piece.size)
    → (s.raises ≡ true → ReadsWithin s face piece.octets piece.size (came_in s face piece.octets)) → IsSizedAt s face leaves piece
sized-at s face leaves piece some small early kept raised = by s.raises refl
  where
    stay : ℕ
    stay = stay_of leaves piece

    goes : Bool → List ℕ
    goes t = if t then raised_octets s face stay piece.octets (came_in s face piece.octets) else piece.octets

    both : (t : Bool) → s.raises ≡ t → (0 < length (goes t)) × (length (goes t) ≤ piece.size)
    both false is = (some, kept is)
    both true is =
        raised-within s face stay piece.size piece.octets (came_in s face piece.octets) some small (omega (arith, early)) (raised is)

    by : (t : Bool) → s.raises ≡ t → IsSizedAt s face leaves piece
    by t is =
        let has = subst (λ (u : Bool). (0 < length (goes u)) × (length (goes u) ≤ piece.size)) (sym is) (both t is) in
        record { some = has.0; few = has.1; within = small }
