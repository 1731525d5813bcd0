-- The table of sessions that the code keeps, and the list that it stands for.
use Rattle.std.specs.Prelude.{◌≡◌, ℕ, List, Option, None, Some, true, false}
use Rattle.std.specs.Ordering.{nat_cmp, ordering_then}
use Rattle.std.specs.declared.cmp.Ordering.{Ordering}
use Rattle.std.specs.BTreeMap.{get}
use Rattle.ltp_segment.specs.declared.session.TheConstants.{BLOCK_MAX}
use Rattle.ltp_session.specs.declared.name.SessionName.{SessionName}
use Rattle.ltp_session.specs.Cells.{reach_of}
use Rattle.receive_run.specs.declared.part.OpenPart.{OpenPart}
use Rattle.receive_run.specs.declared.table.Standing.{Standing}
use Rattle.receive_run.specs.declared.table.Standing.TheVariants as standings
use Rattle.receive_run.specs.declared.table.Sessions.{Sessions}
use Rattle.receive_run.specs.declared.table.Found.{Found}
use Rattle.receive_run.specs.declared.table.Found.TheVariants as founds
use Rattle.receive_run.specs.declared.table.Reply.{Reply as CodeReply}
use Rattle.receive_run.specs.LineContent.{NamedPiece}
use Rattle.receive_run.specs.Session.{Session, fresh, open_part, handed_up, Reply, nothing, up, note, skip, meets}
use Rattle.receive_run.specs.KeptSessions.{Kept, session_in, with_session, unfinished, same_name}
use Rattle.receive_run.specs.OpenPart.{Stands}
use Rattle.receive_run.specs.Views.{reply}

-- sessions in the order of their originators, and of their numbers
abbrev pub key_cmp : (ℕ × ℕ) → (ℕ × ℕ) → Ordering
key_cmp a b = ordering_then (nat_cmp a.0 b.0) (nat_cmp a.1 b.1)

abbrev pub key : SessionName → ℕ × ℕ
key name = (name.originator, name.number)

-- an entry of the table, or none, stands for a session
abbrev pub StandsFor : Option Standing → Session → Type 0
StandsFor None session = session ≡ fresh
StandsFor (Some standings.HandedUp) session = session ≡ handed_up
StandsFor (Some (standings.Open part)) session =
    (cells : List (Option ℕ)) × (length : Option ℕ) × (session ≡ open_part cells length) × Stands part.value cells length

-- the table stands for the list of sessions
pub record Shows (sessions : Sessions) (kept : List Kept) : Type 0 where
  pub each : (name : SessionName) → StandsFor (get key_cmp sessions.table (key name)) (session_in name kept)
  pub count : sessions.unfinished ≡ unfinished kept

-- the same of all sessions but one
pub record ShowsOthers (sessions : Sessions) (kept : List Kept) (one : SessionName) : Type 0 where
  pub each : (name : SessionName) → same_name one name ≡ false
      → StandsFor (get key_cmp sessions.table (key name)) (session_in name kept)
  pub count : sessions.unfinished ≡ unfinished kept

-- the table lacks a session of which nothing came
pub record LacksFirst (sessions : Sessions) (kept : List Kept) (name : SessionName) : Type 0 where
  pub others : ShowsOthers sessions kept name
  pub absent : get key_cmp sessions.table (key name) ≡ None
  pub first : session_in name kept ≡ fresh

-- the table lacks an open session, for which this part stands
pub record LacksOpen (sessions : Sessions) (kept : List Kept) (name : SessionName) (part : OpenPart) (cells : List (Option ℕ)) (length : Option ℕ) : Type 0 where
  pub others : ShowsOthers sessions kept name
  pub is_open : session_in name kept ≡ open_part cells length
  pub stands : Stands part cells length

-- the table has an entry more, or in the place of another; nothing else is changed
pub record Puts (old new : Sessions) (one : SessionName) (standing : Standing) : Type 0 where
  pub here : (name : SessionName) → same_name one name ≡ true
      → get key_cmp new.table (key name) ≡ Some standing
  pub others : (name : SessionName) → same_name one name ≡ false
      → get key_cmp new.table (key name) ≡ get key_cmp old.table (key name)
  pub count : new.unfinished ≡ old.unfinished

-- how a session is found
abbrev pub found_at : Option Standing → Found
found_at None = founds.Fresh
found_at (Some (standings.Open part)) = founds.Open (reach_of part.value.cells) part.value.length
found_at (Some standings.HandedUp) = founds.HandedUp

-- a piece met its session: what it brought about, and the table after it
abbrev pub MeetsAs : List Kept → NamedPiece → CodeReply → Sessions → Reply × Session → Type 0
MeetsAs kept p replied now met =
    (reply p.name replied ≡ met.0) × Shows now (with_session p.name met.1 kept)

abbrev pub Meets : List Kept → NamedPiece → CodeReply → Sessions → Type 0
Meets kept p replied now =
    MeetsAs kept p replied now (meets BLOCK_MAX (session_in p.name kept) p)

-- memory is wanted only for a piece that is one of its red part
abbrev pub IsTaken : Reply → Type 0
IsTaken nothing = Unit {0}
IsTaken (up name body) = Unit {0}
IsTaken note = ⊥
IsTaken skip = ⊥
