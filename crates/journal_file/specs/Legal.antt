-- What may be kept: what records that may follow one another leave.
use Rattle.std.specs.Prelude.{◌≡◌, ℕ, ◌^◌, ◌<◌, ◌≤◌, false, List, [], ◌∷◌}
use Rattle.gate_cases.specs.declared.face.Face.{Face}
use Rattle.journal_file.specs.declared.kept.Pending.{Pending}
use Rattle.journal_file.specs.declared.kept.Mark.{Mark}
use Rattle.journal_file.specs.Values.{KeptValue}
use Rattle.journal_file.specs.Keeping.{is_about, marks_of, MARKS_MAX}
use Rattle.journal_file.specs.Anew.{AreBegun}

-- no id is above this one
abbrev pub AreUpTo : ℕ → List Pending → Type 0
AreUpTo n [] = Unit {0}
AreUpTo n (p ∷ pending) = (p.id ≤ n) × AreUpTo n pending

-- ---- marks

-- none is about a session
abbrev pub NoneAbout : Face → ℕ → List Mark → Type 0
NoneAbout face session [] = Unit {0}
NoneAbout face session (m ∷ marks) =
    (is_about face session m ≡ false) × NoneAbout face session marks

-- no two are about a session
abbrev pub AreApart : List Mark → Type 0
AreApart [] = Unit {0}
AreApart (m ∷ marks) = NoneAbout m.face m.session marks × AreApart marks

abbrev pub AreSmall : List Mark → Type 0
AreSmall [] = Unit {0}
AreSmall (m ∷ marks) = (m.session < 2 ^ 64) × (m.when < 2 ^ 64) × AreSmall marks

-- and of no face there are more than so many
pub record AreFit (most : ℕ) (marks : List Mark) : Type 0 where
  pub small : AreSmall marks
  pub apart : AreApart marks
  pub few : (f : Face) → marks_of f marks ≤ most

-- ---- all of it

pub record IsLegal (kept : KeptValue) : Type 0 where
  -- ids rise, up to the greatest that was given
  pub pending : AreBegun 0 kept.pending
  pub up_to : AreUpTo kept.greatest kept.pending
  pub greatest : kept.greatest < 2 ^ 64
  pub marks : AreFit MARKS_MAX kept.marks
  pub old_reserved : kept.old_reserved < 2 ^ 64
  pub new_reserved : kept.new_reserved < 2 ^ 64
