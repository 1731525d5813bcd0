-- The table of a journal's records: the fields in their order, each with its conditions and causes.
-- It is written out in docs/gate.md.
use Rattle.std.specs.Prelude.{ℕ, zero, suc, ◌==◌, ◌&&◌, nat_lt, Bool, if◌then◌else◌, Option, Some, None, List, length}
use Rattle.std.specs.Int.{w32, to_be_bytes}
use Rattle.std.specs.Str.{bytes_eq}
use Rattle.sdnv.specs.Shortest.{spelling}
use Rattle.crc_fields.specs.Crc.{crc32c_of}
use Rattle.gate_cases.specs.declared.face.Face.{Face}
use Rattle.gate_cases.specs.declared.face.Face.TheVariants.{Old, New}
use Rattle.wire_fields.specs.Format.{Format, give, place, since, such_that, ◌>>=◌}
use Rattle.wire_fields.specs.Words.{needs, ◌also◌, any_octet, any_octets, any_number, choice}
use Rattle.journal_file.specs.declared.fault.JournalCause.{JournalCause}
use Rattle.journal_file.specs.declared.fault.JournalCause.TheVariants as causes
use Rattle.journal_file.specs.declared.record.How.{How}
use Rattle.journal_file.specs.declared.record.How.TheVariants as hows
use Rattle.journal_file.specs.declared.kept.Pending.{Pending}
use Rattle.journal_file.specs.Values.{KeptValue, RecordValue, a_begun, a_done, a_mark, a_clear, a_reserved}
use Rattle.journal_file.specs.Keeping.{is_pending, kept_with}

-- ---- single fields

-- a number, and how many octets spell it
unfoldable pub sized_number : Format JournalCause (ℕ × ℕ)
sized_number = do
  start ← place
  value ← any_number causes.Number
  octets ← since start
  give (value, length octets)

abbrev pub is_shortest : ℕ × ℕ → Bool
is_shortest x = x.1 == length (spelling x.0)

-- a number that is spelled shortest, under conditions
unfoldable pub number_where : (ℕ → Option JournalCause) → Format JournalCause ℕ
number_where conditions =
    such_that sized_number (λ x. needs (is_shortest x) causes.Number also conditions x.0)
    >>= (λ x. give x.0)

abbrev pub number : Format JournalCause ℕ
number = number_where (λ _. None)

-- 0 is the old face, and 1 the new one
abbrev pub face_of : ℕ → Face
face_of b = if b == 0 then Old else New

unfoldable pub face : Format JournalCause Face
face =
    such_that (any_octet causes.Face) (λ b. needs (nat_lt b 2) causes.Face)
    >>= (λ b. give (face_of b))

-- 1 is sent, 2 failed, 3 cancelled
abbrev pub how_of : ℕ → How
how_of b = if b == 1 then hows.Sent else (if b == 2 then hows.Failed else hows.Cancelled)

unfoldable pub how : Format JournalCause How
how =
    such_that (any_octet causes.How) (λ b. needs (nat_lt 0 b && nat_lt b 4) causes.How)
    >>= (λ b. give (how_of b))

-- an id above all earlier ones
abbrev pub new_id : ℕ → Format JournalCause ℕ
new_id greatest = number_where (λ id. needs (nat_lt greatest id) causes.Id)

-- an id that is pending
abbrev pub pending_id : List Pending → Format JournalCause ℕ
pending_id pending = number_where (λ id. needs (is_pending id pending) causes.Id)

-- ---- what follows a record's kind

unfoldable pub begun_fields : ℕ → Format JournalCause RecordValue
begun_fields greatest = do
  id ← new_id greatest
  at ← face
  size ← number
  block ← any_octets size causes.Number
  give (a_begun (record { id = id; face = at; came = None; block = block }))

unfoldable pub done_fields : List Pending → Format JournalCause RecordValue
done_fields pending = do
  id ← pending_id pending
  ended ← how
  give (a_done id ended)

unfoldable pub mark_fields : Format JournalCause RecordValue
mark_fields = do
  at ← face
  session ← number
  moment ← number
  give (a_mark (record { face = at; session = session; when = moment }))

unfoldable pub clear_fields : Format JournalCause RecordValue
clear_fields = do
  at ← face
  session ← number
  give (a_clear at session)

unfoldable pub reserved_fields : Format JournalCause RecordValue
reserved_fields = do
  at ← face
  first ← number
  give (a_reserved at first)

-- a block that is begun, with the moment at which its octets came
unfoldable pub dated_fields : ℕ → Format JournalCause RecordValue
dated_fields greatest = do
  id ← new_id greatest
  at ← face
  moment ← number
  size ← number
  block ← any_octets size causes.Number
  give (a_begun (record { id = id; face = at; came = Some moment; block = block }))

-- what follows a kind, where this is kept
unfoldable pub fields_of : ℕ → KeptValue → Format JournalCause RecordValue
fields_of kind kept =
    choice (kind == 1) (begun_fields kept.greatest)
    (choice (kind == 2) (done_fields kept.pending)
    (choice (kind == 3) mark_fields
    (choice (kind == 4) clear_fields
    (choice (kind == 5) reserved_fields (dated_fields kept.greatest)))))

-- ---- records

abbrev pub record_kind : Format JournalCause ℕ
record_kind =
    such_that (any_octet causes.Kind) (λ b. needs (nat_lt 0 b && nat_lt b 7) causes.Kind)

-- the check of a record's octets: CRC-32C, in network order
abbrev pub check_of : List ℕ → List ℕ
check_of octets = to_be_bytes w32 (crc32c_of octets)

unfoldable pub check : List ℕ → Format JournalCause (List ℕ)
check octets =
    such_that (any_octets 4 causes.Crc) (λ four. needs (bytes_eq four (check_of octets)) causes.Crc)

-- a record with its check, where this is kept
unfoldable pub entry : KeptValue → Format JournalCause RecordValue
entry kept = do
  start ← place
  kind ← record_kind
  said ← fields_of kind kept
  octets ← since start
  four ← check octets
  give said

-- Records, each after an open gate, up to a gate that is closed, where this is kept before them: what
-- is kept after them. There are fewer than so many.
unfoldable pub records : ℕ → KeptValue → Format JournalCause KeptValue
records zero kept = such_that (give kept) (λ _. Some causes.Kind)
records (suc most) kept =
    any_octet causes.Kind
    >>= (λ gate. choice (gate == 1)
    (entry kept >>= (λ said. records most (kept_with kept said))) (give kept))
