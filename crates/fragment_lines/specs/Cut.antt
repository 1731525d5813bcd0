-- What `cut` says of a bundle: its pieces, each a bundle of the same version, a line each (RFC 5050,
-- section 5.8; RFC 9171, section 5.8).
use Rattle.std.specs.Prelude.{ℕ, ◌&&◌, if◌then◌else◌, List}
use Rattle.std.specs.List.{flat_map}
use Rattle.bundle6.specs.declared.bundle.Bundle6.{Bundle6}
use Rattle.bundle7.specs.declared.bundle.Bundle7.{Bundle7}
use Rattle.bundle_meaning.specs.declared.full.Full.{Full}
use Rattle.translate.specs.Refusals.{first_that_holds}
use Rattle.translate.specs.Reading6.{refusals6, full6_of}
use Rattle.translate.specs.Reading7.{refusals7, full7_of}
use Rattle.fragments.specs.declared.fault.CutRefused.TheVariants.{MustNot}
use Rattle.fragments.specs.Cutting.{is_longer, must_not, pieces}
use Rattle.fragments.specs.Word.{cut_word}
use Rattle.fragment_lines.specs.Said.{Said, says, refuses}
use Rattle.fragment_lines.specs.Lines.{hex_line, octets_old, octets_new, unless_refused}

-- records whose bundles have these octets, a line each
abbrev pub lines_of : (Full → List ℕ) → List Full → List ℕ
lines_of octets fulls = flat_map (λ full. hex_line (octets full)) fulls

-- the pieces of a record, a line each; or it would have to be cut, and must not be
abbrev pub cut_as : (Full → List ℕ) → ℕ → Full → Said (Unit {0})
cut_as octets size full =
    if is_longer full size && must_not full.shared then refuses (cut_word MustNot)
    else says (lines_of octets (pieces full size)) tt

-- A bundle of version 6 is cut into pieces of so many octets of its payload. There is always room for
-- the blocks of a piece, since it has no more than the bundle.
unfoldable pub cut6 : ℕ → Bundle6 → Said (Unit {0})
cut6 size bundle = unless_refused (first_that_holds (refusals6 bundle)) (cut_as octets_old size (full6_of bundle))

-- and one of version 7
unfoldable pub cut7 : ℕ → Bundle7 → Said (Unit {0})
cut7 size bundle = unless_refused (first_that_holds (refusals7 bundle)) (cut_as octets_new size (full7_of bundle))
