-- A piece has a view, and room for its blocks, where the record has.
use Rattle.std.proofs.Common.{ℕ, not, ◌==◌, length, All}
use Rattle.bundle_meaning.specs.declared.full.Full.{Full}
use Rattle.bundle_meaning.specs.Defaults.{default6_of, default7_of}
use Rattle.bundle_meaning.specs.Expiry.{slack_of}
use Rattle.bundle_meaning.specs.Reports.{no_time_of}
use Rattle.bundle_meaning.specs.Valid.{IsValid}
use Rattle.translate.specs.Sound.{HasBody, IsSound}
use Rattle.translate.specs.View6.{is_same7, needs_residue6}
use Rattle.endpoint.specs.Endpoints.{is_null}
use Rattle.translate.specs.View7.{is_default6, has_no_rest, needs_residue7}
use Rattle.fragments.specs.Cutting.{exts_in, after_in, piece, pieces}
use Rattle.fragments.proofs.PieceLemmas.{all-in, few-in, last-in, need6, default, need7, room, all-pieces}
use Rattle.fragment_lines.specs.Writable.{HasRoom6, HasRoom7}

sound-piece : (full : Full) (size i : ℕ) → IsSound full → IsValid (piece full size i) → IsSound (piece full size i)
sound-piece full size i sound valid = record { valid = valid; bodies = all-in HasBody i full.exts sound.bodies }

room6-piece : (full : Full) (size i : ℕ) → HasRoom6 full → IsValid (piece full size i) → HasRoom6 (piece full size i)
room6-piece full size i has valid = record {
  sound = sound-piece full size i has.sound valid;
  fits = room (needs_residue6 (piece full size i)) (needs_residue6 full) (length (exts_in i full.exts)) (length full.exts)
      (need6 (not (is_same7 full.extra7 default7_of)) (not (slack_of full.shared == 0)) (not (no_time_of full.shared.content == 0)))
      (few-in i full.exts) has.fits;
}

room7-piece : (full : Full) (size i : ℕ) → HasRoom7 full → IsValid (piece full size i) → HasRoom7 (piece full size i)
room7-piece full size i has valid = record {
  sound = sound-piece full size i has.sound valid;
  fits = room (needs_residue7 (piece full size i)) (needs_residue7 full) (length (exts_in i full.exts)) (length full.exts)
      (need7 (is_default6 (piece full size i).shared (piece full size i).extra6) (is_default6 full.shared full.extra6)
      (not (has_no_rest full.shared.content))
      (default (full.extra6.flags == (default6_of full.shared).flags) (is_null full.extra6.custodian) (full.extra6.payload_flags == 0)
      (full.extra6.after == 0) (after_in i full.extra6.after full.exts == 0) (last-in i full.extra6.after full.exts)))
      (few-in i full.exts) has.fits;
}

pub room6-pieces : (full : Full) (size : ℕ) → HasRoom6 full → All IsValid (pieces full size) → All HasRoom6 (pieces full size)
room6-pieces full size has valid = all-pieces HasRoom6 full size has (λ j. room6-piece full size j has) valid

pub room7-pieces : (full : Full) (size : ℕ) → HasRoom7 full → All IsValid (pieces full size) → All HasRoom7 (pieces full size)
room7-pieces full size has valid = all-pieces HasRoom7 full size has (λ j. room7-piece full size j has) valid
