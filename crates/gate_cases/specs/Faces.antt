-- The two faces, and the octets by which a record leaves at each.
use Rattle.std.specs.Prelude.{ℕ, Bool, List}
use Rattle.bundle6.specs.Spelling.{canon6}
use Rattle.bundle7.specs.Spelling.{octets7}
use Rattle.bundle_meaning.specs.declared.full.Full.{Full}
use Rattle.translate.specs.View6.{view6_of, fits6}
use Rattle.translate.specs.View7.{view7_of, fits7}
use Rattle.gate_cases.specs.declared.face.Face.{Face}
use Rattle.gate_cases.specs.declared.face.Face.TheVariants.{Old, New}

-- what comes in at one goes out at the other
abbrev pub other_of : Face → Face
other_of Old = New
other_of New = Old

-- the octets of the bundle that stands for a record, in the version of the face
abbrev pub octets_at : Face → Full → List ℕ
octets_at Old full = canon6 (view6_of full)
octets_at New full = octets7 (view7_of full)

-- there is room for the record's blocks in that bundle
abbrev pub fits_at : Face → Full → Bool
fits_at Old full = fits6 full
fits_at New full = fits7 full
