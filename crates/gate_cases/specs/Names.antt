-- What only ties code to the definitions: the names of references alone are longer than a session carries.
use Rattle.std.specs.Prelude.{ℕ, Bool, false, nat_lt, List, length}
use Rattle.std.specs.List.{list_any, sum_by}
use Rattle.endpoint.specs.declared.name.Endpoint.{Endpoint}
use Rattle.endpoint.specs.declared.name.Endpoint.TheVariants.{Null, Ipn, Dtn}
use Rattle.bundle_meaning.specs.declared.blocks.Ext.{Ext}
use Rattle.bundle_meaning.specs.declared.blocks.Ext.TheVariants.{Six, Seven}
use Rattle.bundle_meaning.specs.declared.full.Full.{Full}
use Rattle.gate_cases.specs.declared.case.TheConstants.{BLOCK_MAX}
use Rattle.gate_cases.specs.declared.face.Face.{Face}
use Rattle.gate_cases.specs.declared.face.Face.TheVariants.{Old, New}

-- how many octets a name has at least in a wrap
abbrev pub least : Endpoint → ℕ
least Null = 5
least (Ipn node service) = 5
least (Dtn ssp) = length ssp

-- the names alone are longer than a session carries
abbrev pub are_over : List Endpoint → Bool
are_over refs = nat_lt BLOCK_MAX (sum_by least refs)

abbrev pub is_over : Ext → Bool
is_over (Six block) = are_over block.refs
is_over (Seven block) = false

-- blocks of version 6 are wrapped on the way to the new face alone
abbrev pub over_at : Face → Full → Bool
over_at Old full = false
over_at New full = list_any is_over full.exts
