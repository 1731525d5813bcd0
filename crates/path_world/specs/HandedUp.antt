-- What a path world hands up was sent, whole and once.

use Rattle.std.specs.Prelude.{◌≡◌, ℕ, List, [], ◌∷◌, ◌++◌}
use Rattle.path_laws.specs.declared.effects.UpAt.{UpAt}
use Rattle.path_laws.specs.Laws.{HandsOn}
use Rattle.path_laws.specs.Log.{begun_in, ups_in}
use Rattle.path_laws.specs.Path.{PathEvent, starts_path}
use Rattle.path_world.specs.Shows.{ShowsRun}
use Rattle.path_world.specs.Values.{PathValue, setup_of}

-- With an event a run hands up these blocks more; and of all that it hands up then, each is the whole
-- block of a session that was begun across the link, once, and comes from what an end sent.
pub record HandsUpAsSent
    (v : PathValue) (start : ℕ) (events : List PathEvent) (event : PathEvent) (ups : List UpAt)
    : Type 0 where
  pub more :
      ups_in (setup_of v) (starts_path (setup_of v) start) (events ++ event ∷ [])
      ≡ ups_in (setup_of v) (starts_path (setup_of v) start) events ++ ups
  pub hands_on :
      HandsOn (setup_of v)
      (begun_in (setup_of v) (starts_path (setup_of v) start) (events ++ event ∷ []))
      (ups_in (setup_of v) (starts_path (setup_of v) start) (events ++ event ∷ []))

-- in every run where the world stands
abbrev pub AsSent : PathValue → PathEvent → List UpAt → Type 0
AsSent v event ups =
    (start : ℕ) (events : List PathEvent) → ShowsRun v start events
    → HandsUpAsSent v start events event ups
