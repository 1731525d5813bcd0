-- The octets that are written: of a record, of records behind a gate, and of a whole file.
use Rattle.std.specs.Prelude.{◌≡◌, ℕ, ◌^◌, ◌<◌, true, List, [], ◌∷◌, ◌++◌, length, Option, Some, None, IfSome}
use Rattle.sdnv.specs.Shortest.{spelling}
use Rattle.wire_fields.specs.Format.{Spells}
use Rattle.journal_file.specs.declared.record.How.{How}
use Rattle.journal_file.specs.declared.record.How.TheVariants as hows
use Rattle.journal_file.specs.Values.{KeptValue, RecordValue, a_begun, a_done, a_mark, a_clear, a_reserved, nothing_kept}
use Rattle.journal_file.specs.Keeping.{octet_of, is_pending, kept_with}
use Rattle.journal_file.specs.Table.{check_of, records}
use Rattle.journal_file.specs.File.{opening}

-- ---- a record

abbrev pub how_octet : How → ℕ
how_octet hows.Sent = 1
how_octet hows.Failed = 2
how_octet hows.Cancelled = 3

-- the moment of a block that has one
abbrev pub came_octets : Option ℕ → List ℕ
came_octets None = []
came_octets (Some moment) = spelling moment

-- what stands after the kind
abbrev pub field_octets : RecordValue → List ℕ
field_octets (a_begun p) =
    spelling p.id
    ++ ((octet_of p.face ∷ []) ++ (came_octets p.came ++ (spelling (length p.block) ++ p.block)))
field_octets (a_done id how) = spelling id ++ how_octet how ∷ []
field_octets (a_mark m) = (octet_of m.face ∷ []) ++ (spelling m.session ++ spelling m.when)
field_octets (a_clear face session) = (octet_of face ∷ []) ++ spelling session
field_octets (a_reserved face number) = (octet_of face ∷ []) ++ spelling number

-- a block that has a moment is begun by a record of its own kind
abbrev pub begun_octet : Option ℕ → ℕ
begun_octet None = 1
begun_octet (Some moment) = 6

abbrev pub kind_octet : RecordValue → ℕ
kind_octet (a_begun p) = begun_octet p.came
kind_octet (a_done id how) = 2
kind_octet (a_mark m) = 3
kind_octet (a_clear face session) = 4
kind_octet (a_reserved face number) = 5

-- a record without its check, and with it
abbrev pub body_octets : RecordValue → List ℕ
body_octets said = kind_octet said ∷ field_octets said

abbrev pub record_octets : RecordValue → List ℕ
record_octets said = body_octets said ++ check_of (body_octets said)

-- ---- records

-- from a gate on: records, each after an open gate, and a closed one
unfoldable pub gated : List RecordValue → List ℕ
gated [] = 0 ∷ []
gated (r ∷ rs) = 1 ∷ (record_octets r ++ gated rs)

-- what is written behind a closed gate, so that opening it makes these records the next ones
unfoldable pub behind_gate : List RecordValue → List ℕ
behind_gate [] = []
behind_gate (r ∷ rs) = record_octets r ++ gated rs

-- ---- what may be written

-- a moment, where there is one, has a spelling
abbrev pub IsSmall : Option ℕ → Type 0
IsSmall came = IfSome came (λ moment. moment < 2 ^ 64)

-- a record may come next where this is kept
abbrev pub MayCome : KeptValue → RecordValue → Type 0
MayCome kept (a_begun p) =
    (kept.greatest < p.id) × (p.id < 2 ^ 64) × (length p.block < 2 ^ 64) × IsSmall p.came
MayCome kept (a_done id how) = (is_pending id kept.pending ≡ true) × (id < 2 ^ 64)
MayCome kept (a_mark m) = (m.session < 2 ^ 64) × (m.when < 2 ^ 64)
MayCome kept (a_clear face session) = session < 2 ^ 64
MayCome kept (a_reserved face number) = number < 2 ^ 64

abbrev pub MayFollow : KeptValue → List RecordValue → Type 0
MayFollow kept [] = Unit {0}
MayFollow kept (r ∷ rs) = MayCome kept r × MayFollow (kept_with kept r) rs

-- the file is a journal up to its closed gate, with which it ends, and this is kept after it
pub record Closes (file : List ℕ) (kept : KeptValue) : Type 0 where
  pub text : List ℕ
  pub most : ℕ
  pub parts : file ≡ opening ++ text
  pub spells : Spells (records most nothing_kept) opening text kept
