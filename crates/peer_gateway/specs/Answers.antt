-- What the code answers to an event, as the definition's effects.

use Rattle.std.specs.Prelude.{ℕ, Bool, List, [], ◌∷◌, ◌++◌, map, Option, None, Some}
use Rattle.gate_cases.specs.declared.face.Face.{Face}
use Rattle.block_types.specs.declared.losing.LeftOut.{LeftOut}
use Rattle.gateway_core.specs.declared.effects.Routed.{Routed}
use Rattle.gateway_core.specs.Effects.{routed_of}
use Rattle.peer_gateway.specs.declared.told.Outgoing.{Outgoing}
use Rattle.peer_gateway.specs.declared.told.Remark.{Remark}
use Rattle.peer_gateway.specs.declared.told.Remark.TheVariants as remarks
use Rattle.peer_gateway.specs.declared.told.RemarkAt.{RemarkAt}
use Rattle.peer_gateway.specs.declared.told.Added.{Added}
use Rattle.peer_gateway.specs.declared.told.BlockBegun.{BlockBegun}
use Rattle.peer_gateway.specs.Gate.{Told, FaceTold, AddedAt, BegunAt, PeerEffects, told_engine, told_forgotten, told_green, told_began, told_bundle, told_case, told_left, told_reported, told_unreported, told_end}

-- each segment as its datagram
pub record Answered : Type 0 where
  pub out : List Routed
  pub puts : List Bool
  pub told : List FaceTold
  pub added : List AddedAt
  pub begun : List BegunAt

abbrev pub answer_of : PeerEffects → Answered
answer_of e = record {
  out = map routed_of e.out;
  puts = e.puts;
  told = e.told;
  added = e.added;
  begun = e.begun;
}

-- ---- what the code keeps

abbrev pub routed_seen : Outgoing → Routed
routed_seen o = record { face = o.face; datagram = o.datagram }

abbrev pub put_seen : Outgoing → Bool
put_seen o = o.is_put

abbrev pub remark_seen : Remark → Told
remark_seen (remarks.Engine note) = told_engine note
remark_seen (remarks.Forgotten runs) = told_forgotten runs
remark_seen (remarks.Green green) = told_green green
remark_seen (remarks.Began pieces octets session) = told_began pieces octets session
remark_seen (remarks.Bundle subject) = told_bundle subject
remark_seen (remarks.Case index session case pieces first) = told_case index session case pieces first
remark_seen (remarks.Left index session left) = told_left index session left
remark_seen (remarks.Reported index session report) = told_reported index session report
remark_seen (remarks.Unreported index session) = told_unreported index session
remark_seen (remarks.End index session end) = told_end index session end

abbrev pub told_seen : RemarkAt → FaceTold
told_seen t = record { face = t.face; told = remark_seen t.remark }

abbrev pub added_seen : Added → AddedAt
added_seen a = record { face = a.face; piece = a.piece; is_report = a.is_report }

abbrev pub begun_seen : BlockBegun → BegunAt
begun_seen b = record { face = b.face; session = b.session; block = b.block; pieces = b.pieces }

-- ---- one after the other

abbrev pub nothing_answered : Answered
nothing_answered = record { out = []; puts = []; told = []; added = []; begun = [] }

-- an answer, and effects after it
abbrev pub then_done : Answered → PeerEffects → Answered
then_done a e = record {
  out = a.out ++ map routed_of e.out;
  puts = a.puts ++ e.puts;
  told = a.told ++ e.told;
  added = a.added ++ e.added;
  begun = a.begun ++ e.begun;
}

abbrev pub with_out : Answered → List Routed → List Bool → Answered
with_out a out puts = record a { out = a.out ++ out; puts = a.puts ++ puts }

abbrev pub with_told : Answered → List FaceTold → Answered
with_told a told = record a { told = a.told ++ told }

abbrev pub with_added : Answered → List AddedAt → Answered
with_added a added = record a { added = a.added ++ added }

abbrev pub with_begun : Answered → List BegunAt → Answered
with_begun a begun = record a { begun = a.begun ++ begun }

-- what pieces lack, where they lack something
abbrev pub left_told : Face → Option ℕ → ℕ → Option LeftOut → List FaceTold
left_told face index session None = []
left_told face index session (Some left) = record { face = face; told = told_left index session left } ∷ []
