-- The octets of a record's bundle on the wire.

use Rattle.std.proofs.Common.{◌≡◌, ℕ, ◌-◌, ◌^◌, ◌<◌, Bool, true, false, if◌then◌else◌, List, [], ◌∷◌, map, length, refl, ap, ◌∙◌, arith}
use Rattle.std.specs.List.{list_any}
use Rattle.std.proofs.lemmas.List.{length-map}
use Rattle.std.proofs.lemmas.Bool.{ltb-true}
use Rattle.bundle_meaning.specs.declared.blocks.Ext.{Ext}
use Rattle.bundle_meaning.specs.declared.blocks.Ext.TheVariants.{Six, Seven}
use Rattle.bundle_meaning.specs.declared.full.Full.{Full}
use Rattle.translate.specs.View6.{view6_of}
use Rattle.translate.specs.View7.{view7_of}
use Rattle.gate_cases.specs.declared.case.TheConstants.{BLOCK_MAX}
use Rattle.gate_cases.specs.declared.face.Face.{Face}
use Rattle.gate_cases.specs.declared.face.Face.TheVariants.{Old, New}
use Rattle.gate_cases.specs.Faces.{octets_at, fits_at}
use Rattle.gate_cases.specs.Names.{is_over, over_at}
use Rattle.gate_cases.proofs.OverLemmas.{piece-over}
use Rattle.block_types.proofs.LegalLemmas6.{length-relabelled6}
use Rattle.block_types.proofs.LegalLemmas7.{length-relabelled7}
use Rattle.bundle_age.specs.Raised.{raised_ext, raised_by, has_age}
use Rattle.bundle_age.proofs.AgeLemmas.{raised-ageless}
use Rattle.peer_cases.specs.declared.settings.PeerSettings.{PeerSettings}
use Rattle.peer_cases.specs.Pieces.{wire_octets, oldest, greatest_size}

-- ---- raised records

-- a raised record has room where it had
pub fits-raised : (to : Face) (stay : ℕ) (full : Full) → fits_at to (raised_by stay full) ≡ fits_at to full
unfolding raised_by
fits-raised Old stay full = rw (length-map full.exts (raised_ext stay)) refl
fits-raised New stay full = rw (length-map full.exts (raised_ext stay)) refl

-- its names are those that it had
exts-over : (stay : ℕ) (exts : List Ext) → list_any is_over (map (raised_ext stay) exts) ≡ list_any is_over exts
exts-over stay [] = refl
exts-over stay (Six block ∷ exts) = rw (exts-over stay exts) refl
exts-over stay (Seven block ∷ exts) = exts-over stay exts

over-raised : (to : Face) (stay : ℕ) (full : Full) → over_at to (raised_by stay full) ≡ over_at to full
unfolding raised_by
over-raised Old stay full = refl
over-raised New stay full = exts-over stay full.exts

over-oldest : (s : PeerSettings) (to : Face) (full : Full) → over_at to (oldest s full) ≡ over_at to full
unfolding oldest
over-oldest s to full = by s.raises
  where
    by : (t : Bool) → over_at to (if t then raised_by (2 ^ 64 - 1) full else full) ≡ over_at to full
    by true = over-raised to (2 ^ 64 - 1) full
    by false = refl

-- ---- how many octets

-- as many as with the gateway's own types
length-wire : (s : PeerSettings) (to : Face) (full : Full) → length (wire_octets s to full) ≡ length (octets_at to full)
unfolding wire_octets
length-wire s Old full = length-relabelled6 s.types (view6_of full)
length-wire s New full = length-relabelled7 s.types (view7_of full)

-- names that are too long make a piece too long
pub size-over : (s : PeerSettings) (to : Face) (full : Full) → over_at to full ≡ true → BLOCK_MAX < greatest_size s to full
size-over s to full over =
    omega (
      arith,
      ltb-true BLOCK_MAX (length (octets_at to (oldest s full))) (piece-over to (oldest s full) (over-oldest s to full ∙ over)),
      length-wire s to (oldest s full),
    )

-- ---- the size of a record that no age raises

pub size-kept : (s : PeerSettings) (to : Face) (full : Full) → s.raises ≡ false → greatest_size s to full ≡ length (wire_octets s to full)
unfolding oldest
size-kept s to full kept = rw kept refl

pub size-ageless : (s : PeerSettings) (to : Face) (full : Full) → has_age full ≡ false → greatest_size s to full ≡ length (wire_octets s to full)
unfolding oldest
size-ageless s to full ageless = by s.raises
  where
    by : (t : Bool) → length (wire_octets s to (if t then raised_by (2 ^ 64 - 1) full else full)) ≡ length (wire_octets s to full)
    by true = ap (λ (f : Full). length (wire_octets s to f)) (raised-ageless (2 ^ 64 - 1) full ageless)
    by false = refl

pub size-oldest : (s : PeerSettings) (to : Face) (full raised : Full) → s.raises ≡ true → raised ≡ raised_by (2 ^ 64 - 1) full
    → length (wire_octets s to raised) ≡ greatest_size s to full
unfolding oldest
size-oldest s to full raised raises is = rw (raises, is) refl
