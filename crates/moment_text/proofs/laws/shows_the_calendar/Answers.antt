use Rattle.std.proofs.Common.{refl}
use Rattle.moment_text.proofs.CalendarLemmas.{day_within-lies}
use Rattle.moment_text.proofs.laws.shows_the_calendar.Goals as goal

pub returns : goal.returns
returns c = λ days few. day_within-lies 8000 days refl few
