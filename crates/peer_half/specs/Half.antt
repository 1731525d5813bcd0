-- A half of a run: what is made of what comes.

use Rattle.std.specs.Prelude.{◌≡◌, ℕ, ◌<◌, ◌≤◌, Bool, true, List, length}
use Rattle.gate_cases.specs.declared.face.Face.{Face}
use Rattle.gate_cases.specs.declared.face.Face.TheVariants.{Old, New}
use Rattle.outbox.specs.declared.reading.Reading.{Reading}
use Rattle.peer_half.specs.Standing.{Standing}
use Rattle.peer_half.specs.Acts.{Acted, and_then}
use Rattle.peer_half.specs.Parts.{reads, resumes, ticks, arrives_all, ends_polling, drops_foreign}
use Rattle.peer_half.specs.Parts.{commits, sends, ends_sending, writes, installs, shows}

-- what comes to a half: what the clocks show; the datagrams that its polls give, in order, and
-- whether the last poll failed; how many from elsewhere its polls dropped; which of the sends fail at
-- each face, in order; and whether the metrics can't be put in place
pub record Came : Type 0 where
  pub reading : Reading
  pub datagrams : List (List ℕ)
  pub poll_failed : Bool
  pub foreign : ℕ
  pub old_failing : List Bool
  pub new_failing : List Bool
  pub show_fails : Bool

-- a half polls at most 256 times, and a failed poll is the last
pub record IsPolled (came : Came) : Type 0 where
  pub most : length came.datagrams ≤ 256
  pub failed : came.poll_failed ≡ true → length came.datagrams < 256

-- what is done before anything is made outside: the clocks are read, pieces of earlier runs
-- are added, the sessions tick, and what came at the half's face is taken; what came from elsewhere is
-- counted
abbrev pub hears : Face → Came → Standing → Standing
hears face came s =
    drops_foreign face came.foreign (ends_polling face came.poll_failed
    (arrives_all face came.datagrams (ticks (resumes (reads came.reading s)))))

-- what is done after that: the half's records are committed; the old face sends, then the new one; the
-- lines are written; the journal's file is made anew, where it is large; and then the metrics are shown,
-- where there is a board for them
abbrev pub answers : (board : Bool) → Came → Standing → Acted
answers board came s =
    and_then (commits s) (λ r.
    and_then (sends Old came.old_failing r) (λ t.
    and_then (sends New came.new_failing t) (λ u.
    and_then (writes (ends_sending u)) (λ v.
    and_then (installs v) (shows board came.show_fails)))))

unfoldable pub half : (board : Bool) → Face → Came → Standing → Acted
half board face came s = answers board came (hears face came s)
