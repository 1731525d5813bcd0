-- What raising an age means.

use Rattle.std.specs.Prelude.{◌≡◌, ℕ, ◌+◌, false}
use Rattle.bundle_meaning.specs.declared.full.Full.{Full}
use Rattle.translate.specs.Sound.{IsSound}
use Rattle.translate.specs.View6.{view6_of}
use Rattle.translate.specs.View7.{view7_of}
use Rattle.translate.specs.Reading6.{Reads6}
use Rattle.translate.specs.Reading7.{Reads7}
use Rattle.translate.specs.Translation.{HasLifetime}
use Rattle.bundle_age.specs.Raised.{raised_by, raised_bundle, has_age}

-- A view of the raised record is read as that record, whether it is of version 7 or of version 6; and a
-- version 7 view of it is the view with its age raised.
pub record IsRaisedInViews (full : Full) (stay : ℕ) : Type 0 where
  pub sound : IsSound (raised_by stay full)
  pub seven : Reads7 (view7_of (raised_by stay full)) (raised_by stay full)
  pub six : HasLifetime full → Reads6 (view6_of (raised_by stay full)) (raised_by stay full)
  pub same : view7_of (raised_by stay full) ≡ raised_bundle stay (view7_of full)

abbrev pub RaisedInViews : Type 0
RaisedInViews = (full : Full) (stay : ℕ) → IsSound full → IsRaisedInViews full stay

-- stays add up; no time changes nothing; and a record without an age stays what it is
pub record AddsUp (full : Full) : Type 0 where
  pub sum : (first second : ℕ) → raised_by second (raised_by first full) ≡ raised_by (first + second) full
  pub none : raised_by 0 full ≡ full
  pub ageless : (stay : ℕ) → has_age full ≡ false → raised_by stay full ≡ full

abbrev pub StaysAddUp : Type 0
StaysAddUp = (full : Full) → IsSound full → AddsUp full
