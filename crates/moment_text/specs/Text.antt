-- The text of a moment: `YYYY-MM-DDTHH:MM:SS.mmmZ` (RFC 3339, section 5.6).

use Rattle.std.specs.Prelude.{ℕ, zero, suc, ◌+◌, ◌/◌, ◌%◌, min, List, [], ◌∷◌, ◌++◌, codes}
use Rattle.moment_text.specs.declared.writing.Day.{Day}
use Rattle.moment_text.specs.Calendar.{day_after}

-- the last few digits of a number
unfoldable pub digits : ℕ → ℕ → List ℕ
digits zero number = []
digits (suc few) number = digits few (number / 10) ++ (48 + number % 10) ∷ []

-- the last millisecond of the year 9999: a later moment is shown as this one
abbrev pub last_shown : ℕ
last_shown = 252_455_615_999_999

unfoldable pub day_text : Day → List ℕ
day_text d =
    digits 4 d.year ++ (codes "-" ++ (digits 2 d.month ++ (codes "-" ++ digits 2 d.day)))

-- the time of day of a moment
unfoldable pub time_text : ℕ → List ℕ
time_text moment =
    digits 2 (moment / 3_600_000 % 24) ++ (codes ":" ++ (digits 2 (moment / 60_000 % 60)
    ++ (codes ":" ++ (digits 2 (moment / 1000 % 60) ++ (codes "." ++ digits 3 (moment % 1000))))))

unfoldable pub text_within : ℕ → List ℕ
text_within moment =
    day_text (day_after (moment / 86_400_000)) ++ (codes "T" ++ (time_text moment ++ codes "Z"))

-- the text of a moment
unfoldable pub moment_text : ℕ → List ℕ
moment_text moment = text_within (min moment last_shown)
