-- What is said of a refused file: where, and what is wanted.

use Rattle.std.specs.Prelude.{ℕ, ◌&&◌, nat_lt, if◌then◌else◌, List, ◌++◌, length, codes}
use Rattle.std.specs.List.{list_all}
use Rattle.std.specs.Fmt.{decimal}
use Rattle.toml_parser.specs.Lexical.{is_bare}
use Rattle.gate_config.specs.declared.keys.Key.{Key}
use Rattle.gate_config.specs.declared.fault.Within.{Within}
use Rattle.gate_config.specs.declared.fault.Within.TheVariants as places
use Rattle.gate_config.specs.declared.fault.Wanted.{Wanted}
use Rattle.gate_config.specs.declared.fault.Wanted.TheVariants as wants
use Rattle.gate_config.specs.declared.fault.Refusal.{Refusal}
use Rattle.gate_config.specs.declared.fault.Refusal.TheVariants as refusals
use Rattle.gate_config.specs.Keys.{name_of, key_of}
use Rattle.gate_config.specs.Shown.{basic_string}

-- the table in which a key stands, and the dot before the key
unfoldable pub within_text : Within → List ℕ
within_text places.File = codes ""
within_text (places.Table section) = name_of (key_of section) ++ codes "."
within_text (places.Contact face index) =
    name_of (key_of face) ++ (codes ".contact[" ++ (decimal index ++ codes "]."))

-- a key as a file may write it: bare where it can be, and else a basic string
unfoldable pub key_text : List ℕ → List ℕ
key_text key =
    if nat_lt 0 (length key) && list_all is_bare key then key else basic_string key

-- what is wanted, where the words don't go with a range
unfoldable pub fixed_text : Wanted → List ℕ
fixed_text wants.Table = codes "a table is wanted"
fixed_text wants.Endpoint = codes "an endpoint other than dtn:none is wanted"
fixed_text wants.Address = codes "an address of 1 to 64 octets is wanted"
fixed_text wants.Path = codes "a path of 1 to 4096 octets is wanted"
fixed_text wants.Accept = codes "address or port is wanted"
fixed_text wants.Age = codes "raise or keep is wanted"
fixed_text wants.ForeignBlocks = codes "wrap or drop is wanted"
fixed_text (wants.Whole low high) = codes ""
fixed_text wants.Tables = codes "1 to 4096 tables are wanted"
fixed_text wants.Moment =
    codes "a date and time with seconds and offset, in whole ms, of the years 2000 to 9999 is wanted"
fixed_text wants.NotBelowTimeout = codes "a whole number that isn't below timeout_ms is wanted"
fixed_text wants.AfterFrom = codes "a moment after from is wanted"
fixed_text wants.NotBeforeEnd =
    codes "a moment that isn't before the end of the contact before is wanted"
fixed_text wants.OtherNumber = codes "another number than engine is wanted"
fixed_text wants.NotWrap = codes "another number than 193 is wanted"
fixed_text wants.NotResidue = codes "another number than 192 and residue_block is wanted"
fixed_text wants.OtherPath = codes "another path than journal is wanted"

unfoldable pub low_text : ℕ → List ℕ
low_text low = codes "a whole number from " ++ decimal low

unfoldable pub high_text : ℕ → List ℕ
high_text high = codes " to " ++ (decimal high ++ codes " is wanted")

unfoldable pub wanted_text : Wanted → List ℕ
wanted_text (wants.Whole low high) = low_text low ++ high_text high
wanted_text wants.Table = fixed_text wants.Table
wanted_text wants.Endpoint = fixed_text wants.Endpoint
wanted_text wants.Address = fixed_text wants.Address
wanted_text wants.Path = fixed_text wants.Path
wanted_text wants.Accept = fixed_text wants.Accept
wanted_text wants.Age = fixed_text wants.Age
wanted_text wants.ForeignBlocks = fixed_text wants.ForeignBlocks
wanted_text wants.Tables = fixed_text wants.Tables
wanted_text wants.Moment = fixed_text wants.Moment
wanted_text wants.NotBelowTimeout = fixed_text wants.NotBelowTimeout
wanted_text wants.AfterFrom = fixed_text wants.AfterFrom
wanted_text wants.NotBeforeEnd = fixed_text wants.NotBeforeEnd
wanted_text wants.OtherNumber = fixed_text wants.OtherNumber
wanted_text wants.NotWrap = fixed_text wants.NotWrap
wanted_text wants.NotResidue = fixed_text wants.NotResidue
wanted_text wants.OtherPath = fixed_text wants.OtherPath

unfoldable pub line_text : ℕ → List ℕ
line_text line = codes "line " ++ (decimal line ++ codes ": TOML is wanted")

unfoldable pub unknown_text : Within → List ℕ → List ℕ
unknown_text within key = within_text within ++ (key_text key ++ codes ": there is no such key")

unfoldable pub wrong_text : Within → Key → Wanted → List ℕ
wrong_text within key wanted =
    within_text within ++ (name_of key ++ (codes ": " ++ wanted_text wanted))

-- the line of a refusal, after the file's name
unfoldable pub refusal_text : Refusal → List ℕ
refusal_text refusals.Size = codes "at most 1048576 octets are wanted"
refusal_text refusals.Utf8 = codes "UTF-8 is wanted"
refusal_text (refusals.Toml line) = line_text line
refusal_text (refusals.NoKey within key) = unknown_text within key
refusal_text (refusals.Wrong within key wanted) = wrong_text within key wanted
