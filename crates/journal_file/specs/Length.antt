-- How long a file is, by what it was made anew of and what was committed since.
use Rattle.std.specs.Prelude.{ℕ, ◌+◌, List, length}
use Rattle.std.specs.List.{flat_map}
use Rattle.journal_file.specs.Values.{KeptValue, RecordValue}
use Rattle.journal_file.specs.File.{opening}
use Rattle.journal_file.specs.Anew.{anew}
use Rattle.journal_file.specs.Ties.{entry_octets}

-- how many octets records take, each with the open gate before it
abbrev pub entries_length : List RecordValue → ℕ
entries_length rs = length (flat_map entry_octets rs)

-- where the closed gate stands of a file that is made anew: it is the file's last octet
abbrev pub gate_of : KeptValue → ℕ
gate_of kept = length opening + entries_length (anew kept)
