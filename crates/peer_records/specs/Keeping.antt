-- What a gateway knows of its journal while it runs, and of which piece each id is.

use Rattle.std.specs.Prelude.{ℕ, ◌+◌, ◌==◌, Bool, true, false, ◌&&◌, List, [], ◌∷◌, ◌++◌, map, Option, None, Some}
use Rattle.std.specs.List.{filter, flat_map}
use Rattle.gate_cases.specs.declared.face.Face.{Face}
use Rattle.journal_file.specs.declared.kept.Pending.{Pending}
use Rattle.journal_file.specs.Values.{KeptValue}
use Rattle.journal_file.specs.Keeping.{same_face}
use Rattle.gate_records.specs.declared.named.Named.{Named}

-- a piece that waits is known by its id; a report has none
abbrev pub Waiting : Type 0
Waiting = List (Option ℕ)

pub record PeerKeeping : Type 0 where
  -- what the journal says, once the records so far are in it
  pub kept : KeptValue
  -- the pieces that wait at each face, in order
  pub waiting : Waiting × Waiting
  -- the pieces in own sessions that have an id, in order: each with its session
  pub named : List Named

-- ---- ids

abbrev pub id_of : Option ℕ → List ℕ
id_of None = []
id_of (Some id) = id ∷ []

-- those that wait
abbrev pub ids_in : Waiting → List ℕ
ids_in waiting = flat_map id_of waiting

-- those in sessions
abbrev pub ids_named : List Named → List ℕ
ids_named named = map (λ (n : Named). n.id) named

abbrev pub ids_held : List Named → Waiting × Waiting → List ℕ
ids_held named waiting = ids_named named ++ (ids_in waiting.0 ++ ids_in waiting.1)

abbrev pub held : PeerKeeping → List ℕ
held k = ids_held k.named k.waiting

-- those of pending blocks
abbrev pub ids_pending : List Pending → List ℕ
ids_pending pending = map (λ (p : Pending). p.id) pending

-- how often an id is among ids
abbrev pub one_if : Bool → ℕ
one_if true = 1
one_if false = 0

unfoldable pub times : ℕ → List ℕ → ℕ
times id [] = 0
times id (x ∷ xs) = one_if (x == id) + times id xs

-- ---- at a start

-- nothing of this run waits or is sent yet
abbrev pub starts_peer_keeping : KeptValue → PeerKeeping
starts_peer_keeping kept = record { kept = kept; waiting = ([], []); named = [] }

-- A pending piece that neither waits nor is in a session is one of an earlier run that is still to be added:
-- those of this run wait from when they are pending until they are in a session.
abbrev pub is_to_add : PeerKeeping → Pending → Bool
is_to_add k p = times p.id (held k) == 0

-- those of a face, in the order of their ids
abbrev pub to_add_at : Face → PeerKeeping → List Pending
to_add_at face k = filter (λ (p : Pending). same_face p.face face && is_to_add k p) (k.kept).pending
