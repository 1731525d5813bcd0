-- The age of a piece is raised once.

use Rattle.std.proofs.Common.{◌≡◌, ℕ, Bool, true, false, ◌&&◌, if◌then◌else◌, List, [], length, Option, Some, None, is_some, IfSome, Ok, refl, sym, ap, subst, ◌∙◌}
use Rattle.std.specs.Option.{option_map, is_none}
use Rattle.std.specs.Result.{result_ok}
use Rattle.std.proofs.Math.Nat.{zero-add}
use Rattle.std.proofs.lemmas.List.{append-nil}
use Rattle.wire_fields.specs.Format.{Format, Spells}
use Rattle.wire_fields.specs.Reading.{read}
use Rattle.wire_fields.proofs.ReadLemmas.{read-only}
use Rattle.wire_fields.proofs.ResultLemmas.{found}
use Rattle.bundle6.specs.declared.bundle.Bundle6.{Bundle6}
use Rattle.bundle6.specs.Legal.{IsLegal}
use Rattle.bundle6.specs.Spelling.{IsCounted, canon6}
use Rattle.bundle6.specs.Table as table6
use Rattle.bundle6.proofs.WritingLemmas.{canon-spells}
use Rattle.bundle7.specs.declared.bundle.Bundle7.{Bundle7}
use Rattle.bundle7.specs.Legal.{IsLegal7}
use Rattle.bundle7.specs.Spelling.{octets7}
use Rattle.bundle7.specs.Table as table7
use Rattle.bundle7.proofs.BlockLaws.{bundle-spells}
use Rattle.bundle_meaning.specs.declared.full.Full.{Full}
use Rattle.translate.specs.Refusals.{first_that_holds}
use Rattle.translate.specs.Reading6.{Reads6}
use Rattle.translate.specs.Reading7.{Reads7}
use Rattle.translate.specs.View6.{view6_of}
use Rattle.translate.specs.View7.{view7_of}
use Rattle.translate.proofs.Legal6Lemmas.{view6-legal}
use Rattle.translate.proofs.Legal7Lemmas.{view7-legal}
use Rattle.translate.proofs.ReadLemmas.{read6-is, read7-is}
use Rattle.gate_cases.specs.declared.face.Face.{Face}
use Rattle.gate_cases.specs.declared.face.Face.TheVariants as faces
use Rattle.gate_cases.specs.Blocks.{arrival6, arrival7}
use Rattle.block_types.specs.Relabelled.{relabelled6, relabelled7}
use Rattle.block_types.proofs.RelabelLaws.{relabelled_twice, relabelled_is_legal}
use Rattle.bundle_age.specs.Raised.{raised_by, has_age}
use Rattle.bundle_age.proofs.ViewLemmas.{raised_in_views, stays_add_up}
use Rattle.peer_cases.specs.declared.settings.PeerSettings.{PeerSettings}
use Rattle.peer_cases.specs.Arrivals.{Came, came_as, came6, came7}
use Rattle.peer_cases.specs.Pieces.{wire_octets}
use Rattle.peer_cases.specs.Rows.{came_in}
use Rattle.peer_cases.proofs.WireLemmas.{fits-raised}
use Rattle.peer_gateway.specs.Going.{stay_of, raised_octets}
use Rattle.peer_gateway.specs.Laws.{CanGo, IsOf, ReadAs, AgeRaisedOnce}

-- ---- what is written is read

came-old : (s : PeerSettings) (b : Bundle6) (full : Full) → Reads6 b full → IsOf full (came6 s (relabelled6 s.types b))
came-old s b full reads =
    subst (λ (v : Bundle6). IsOf full (came_as s.bare (arrival6 v))) (sym ((relabelled_twice s.types).six b))
    (reads.unrefused, read6-is b full reads)

came-new : (s : PeerSettings) (b : Bundle7) (full : Full) → Reads7 b full → IsOf full (came7 s (relabelled7 s.types b))
came-new s b full reads =
    subst (λ (v : Bundle7). IsOf full (came_as false (arrival7 v))) (sym ((relabelled_twice s.types).seven b))
    (reads.unrefused, read7-is b full reads)

abbrev pub IsRead : Full → Option Came → Type 0
IsRead full came = (IfSome came (IsOf full)) × (is_some came ≡ true)

-- what spells a value alone is read as it
read-alone : {C A : Type 0} (f : Format C A) (w : List ℕ) (a : A) → Spells f [] w a → read f w 0 ≡ Ok (a, length w)
read-alone f w a spells =
    ap (λ (text : List ℕ). read f text 0) (sym (append-nil w))
    ∙ (read-only f [] w [] a spells ∙ ap (λ (n : ℕ). found a n) (zero-add (length w)))

pub came-old-in : (s : PeerSettings) (b : Bundle6) → IsLegal b → IsCounted b → came_in s faces.Old (canon6 b) ≡ Some (came6 s b)
unfolding came_in
came-old-in s b legal counted =
    ap (λ r. option_map (λ (x : Bundle6 × ℕ). came6 s x.0) (result_ok r))
    (read-alone (table6.bundle 64) (canon6 b) b (canon-spells b legal counted))

pub came-new-in : (s : PeerSettings) (b : Bundle7) → IsLegal7 b → came_in s faces.New (octets7 b) ≡ Some (came7 s b)
unfolding came_in
came-new-in s b legal =
    ap (λ r. option_map (λ (x : Bundle7 × ℕ). came7 s x.0) (result_ok r))
    (read-alone (table7.bundle 64) (octets7 b) b (bundle-spells 64 b legal))

wire-old : (s : PeerSettings) (stay : ℕ) (full : Full) → CanGo s faces.Old stay full
    → ReadAs s faces.Old (wire_octets s faces.Old (raised_by stay full)) (raised_by stay full)
unfolding wire_octets
wire-old s stay full can =
    let raised = raised_by stay full in
    let views = raised_in_views full stay can.sound in
    let fits = fits-raised faces.Old stay full ∙ can.fits in
    let b = relabelled6 s.types (view6_of raised) in
    let legal = ((relabelled_is_legal s.types).1 (view6_of raised)).legal (view6-legal raised views.sound fits can.counted.0) in
    subst (IsRead raised) (sym (came-old-in s b legal can.counted.1))
    (came-old s (view6_of raised) raised (views.six can.lifetime), refl)

wire-new : (s : PeerSettings) (stay : ℕ) (full : Full) → CanGo s faces.New stay full
    → ReadAs s faces.New (wire_octets s faces.New (raised_by stay full)) (raised_by stay full)
unfolding wire_octets
wire-new s stay full can =
    let raised = raised_by stay full in
    let views = raised_in_views full stay can.sound in
    let fits = fits-raised faces.New stay full ∙ can.fits in
    let b = relabelled7 s.types (view7_of raised) in
    let legal = ((relabelled_is_legal s.types).0 (view7_of raised)).legal (view7-legal raised views.sound fits can.counted) in
    subst (IsRead raised) (sym (came-new-in s b legal)) (came-new s (view7_of raised) raised views.seven, refl)

pub wire-read : (s : PeerSettings) (face : Face) (stay : ℕ) (full : Full) → CanGo s face stay full
    → ReadAs s face (wire_octets s face (raised_by stay full)) (raised_by stay full)
wire-read s faces.Old stay full can = wire-old s stay full can
wire-read s faces.New stay full can = wire-new s stay full can

-- ---- once

raised-read : (s : PeerSettings) (face : Face) (stay : ℕ) (octets : List ℕ) (full : Full) (came : Option Came) → CanGo s face stay full
    → came_in s face octets ≡ came → IsRead full came → ReadAs s face (raised_octets s face stay octets came) (raised_by stay full)
raised-read s face stay octets full None can is reads = absurd (let never = reads.1 in cc)
raised-read s face stay octets full (Some came) can is reads =
    let none : is_none (first_that_holds (came.arrival).refusals) ≡ true = ap is_none reads.0.0 in
    by (is_none (first_that_holds (came.arrival).refusals)) (has_age (came.arrival).full) none refl
  where
    by : (t u : Bool) → t ≡ true → has_age (came.arrival).full ≡ u
        → ReadAs s face (if t && u then wire_octets s face (raised_by stay (came.arrival).full) else octets) (raised_by stay full)
    by false u so age = absurd (cc)
    by true true so age =
        subst (λ (f : Full). ReadAs s face (wire_octets s face (raised_by stay f)) (raised_by stay full)) (sym reads.0.1)
        (wire-read s face stay full can)
    by true false so age =
        let ageless : has_age full ≡ false = ap has_age (sym reads.0.1) ∙ age in
        let same = (stays_add_up full can.sound).ageless stay ageless in
        subst (λ (f : Full). ReadAs s face octets f) (sym same) (subst (IsRead full) (sym is) reads)

pub age_raised_once : AgeRaisedOnce
age_raised_once s face leaves piece full raises can reads = by s.raises raises
  where
    by : (t : Bool) → t ≡ true
        → ReadAs s face (if t then raised_octets s face (stay_of leaves piece) piece.octets (came_in s face piece.octets) else piece.octets)
        (raised_by (stay_of leaves piece) full)
    by true so = raised-read s face (stay_of leaves piece) piece.octets full (came_in s face piece.octets) can refl reads
    by false so = absurd (cc)
