-- Which hint an input gives that a command refused, and its line on standard error. The hints of a command stand in the
-- order in which they are looked for: the first that holds is given.
use Rattle.std.specs.Prelude.{ℕ, Bool, true, false, not, is_some, ◌||◌, ◌^◌, ◌-◌, ◌∷◌, [], List, codes}
use Rattle.std.specs.Prelude.{Option, None, Some, if◌then◌else◌}
use Rattle.std.specs.Str.{bytes_eq}
use Rattle.replay_script.specs.Events.{number_in}
use Rattle.console.specs.declared.hint.Hint.{Hint}
use Rattle.console.specs.declared.hint.Hint.TheVariants.{Empty, Capture, Compressed, Marked, Json, HexFile}
use Rattle.console.specs.declared.hint.Hint.TheVariants.{HexFilePrefix, LineEnd, Text, CrLf, BlankLine}
use Rattle.console.specs.declared.hint.Hint.TheVariants.{Comment, Binary, Tab, EmptyWord, UpperCase, Prefix}
use Rattle.console.specs.declared.hint.Hint.TheVariants.{Spaced, SpacedWord, Odd, Digits, ScriptLine, BundleLine}
use Rattle.console.specs.declared.hint.Hint.TheVariants.{BareHex, WorldLine, NodeSaid, NodeClock, NodeWords}
use Rattle.console.specs.declared.hint.Hint.TheVariants.{NoPath, SecondPath, PathWords, Gate, Segment}
use Rattle.console.specs.declared.hint.Hint.TheVariants.{Timeout, Limit, Cut, Start, Cap, SendSide}
use Rattle.console.specs.declared.hint.Hint.TheVariants.{NodeLine, WorldSaid, AfterDrain, WorldNumber}
use Rattle.console.specs.declared.hint.Hint.TheVariants.{WorldWords, ExchangeWords, NoLink, LinkStart}
use Rattle.console.specs.declared.hint.Hint.TheVariants.{LinkWindow, LinkNumber, LinkWords}
use Rattle.console.specs.declared.hinting.Refused.{Refused}
use Rattle.console.specs.declared.reads.Reads.{Reads}
use Rattle.console.specs.declared.reads.Reads.TheVariants.{Datagrams, Bundles, Events, Exchange, Script, Windows}
use Rattle.console.specs.Looks.{begins, is_capture, is_compressed, is_marked, is_hex, is_spaced_hex, begins_in_hex}
use Rattle.console.specs.Looks.{begins_with_0x, has_no_text, has_tab, ends_with, is_line_end}
use Rattle.console.specs.Looks.{first_word, after_word, has_empty_word, begins_in_upper_case}

-- a refusal: its cause; the line, or the octets from the field on; whether it is the input's first line
pub record Refusal : Type 0 where
  pub cause : List ℕ
  pub text : List ℕ
  pub is_first : Bool

abbrev pub is_cause : List ℕ → List ℕ → Bool
is_cause cause word = bytes_eq cause word

-- ---- what a command reads

abbrev pub is_on_bundles : List ℕ → Bool
is_on_bundles word =
    bytes_eq word (codes "check") || bytes_eq word (codes "show") || bytes_eq word (codes "convert")
    || bytes_eq word (codes "cut") || bytes_eq word (codes "join")

-- `record` reads what `node` reads
abbrev pub is_on_events : List ℕ → Bool
is_on_events word = bytes_eq word (codes "node") || bytes_eq word (codes "record")

-- by its word; other words than these name none that reads
abbrev pub reads_of : List ℕ → Option Reads
reads_of word =
    if bytes_eq word (codes "receive") then Some Datagrams
    else if is_on_events word then Some Events
    else if bytes_eq word (codes "audit") then Some Exchange
    else if bytes_eq word (codes "world") then Some Script
    else if bytes_eq word (codes "link") then Some Windows
    else if is_on_bundles word then Some Bundles
    else None

abbrev pub is_lines : Reads → Bool
is_lines Bundles = false
is_lines Datagrams = true
is_lines Events = true
is_lines Exchange = true
is_lines Script = true
is_lines Windows = true

-- ---- what is no input of any command

unfoldable pub file_hint : List ℕ → Option Hint
file_hint head =
    if bytes_eq head [] then Some Empty
    else if is_capture head then Some Capture
    else if is_compressed head then Some Compressed
    else if is_marked head then Some Marked
    else None

-- ---- check, show, convert, cut, join: where a bundle should begin

abbrev pub bundle_hint : List ℕ → List ℕ → Option Hint
bundle_hint cause text =
    if not (is_cause cause (codes "Version")) then None
    else if begins text (codes "{") then Some Json
    else if begins_with_0x text then Some HexFilePrefix
    else if begins_in_hex text then Some HexFile
    else if is_line_end text then Some LineEnd
    else if has_no_text text then None
    else Some Text

-- ---- lines of all commands

-- a line that is empty but for its end, is a remark, or is no text
abbrev pub any_line_hint : List ℕ → Option Hint
any_line_hint text =
    if ends_with 13 text then Some CrLf
    else if bytes_eq text [] then Some BlankLine
    else if begins text (codes "#") then Some Comment
    else if begins text (codes "{") then Some Json
    else if has_no_text text then Some Binary
    else None

-- hex that isn't hex
abbrev pub hex_hint : List ℕ → Hint
hex_hint hex =
    if begins_with_0x hex then Prefix
    else if is_hex hex then Odd
    else if is_spaced_hex hex then Spaced
    else Digits

-- hex that isn't hex, after the words of a line, which single spaces separate
abbrev pub last_word_hint : List ℕ → Hint
last_word_hint hex =
    if begins_with_0x hex then Prefix
    else if is_hex hex then Odd
    else if is_spaced_hex hex then SpacedWord
    else Digits

-- the first one that there is
abbrev pub or_else : Option Hint → Option Hint → Option Hint
or_else None second = second
or_else (Some hint) second = Some hint

-- ---- receive

abbrev pub is_script_line : List ℕ → Bool
is_script_line text =
    begins text (codes "in ") || begins text (codes "send ") || begins text (codes "clock ")
    || begins text (codes "path ") || begins text (codes "deliver ")

abbrev pub datagram_hint : List ℕ → List ℕ → Option Hint
datagram_hint cause text =
    if is_cause cause (codes "Hex")
    then if is_script_line text then Some ScriptLine else Some (hex_hint text)
    else if begins text (codes "06") || begins text (codes "9f") || begins text (codes "9F") then Some BundleLine
    else None

-- ---- node, audit, world and link

-- a line that no command reads, or whose words aren't separated as words are
abbrev pub words_hint : List ℕ → Option Hint
words_hint text =
    or_else (any_line_hint text)
    (if has_tab text then Some Tab else if has_empty_word text then Some EmptyWord else None)

abbrev pub node_says : List ℕ → Bool
node_says text =
    begins text (codes "out ") || begins text (codes "up ") || begins text (codes "green ")
    || begins text (codes "note ") || begins text (codes "refused ")

abbrev pub is_send : List ℕ → Bool
is_send text = begins text (codes "send old ") || begins text (codes "send new ")

-- a line of `world` and none of `node`
abbrev pub is_of_world : List ℕ → Bool
is_of_world text =
    begins text (codes "path ") || begins text (codes "deliver ") || begins text (codes "drain") || is_send text

abbrev pub node_word_hint : List ℕ → Hint
node_word_hint text =
    if begins text (codes "in ") then SpacedWord
    else if is_of_world text then WorldLine
    else if begins text (codes "send ") then SpacedWord
    else if is_hex text then BareHex
    else if node_says text then NodeSaid
    else if begins_in_upper_case text then UpperCase
    else NodeWords

abbrev pub event_hint : List ℕ → List ℕ → Hint
event_hint cause text =
    if is_cause cause (codes "Hex") then last_word_hint (after_word text)
    else if is_cause cause (codes "Number") then NodeClock
    else node_word_hint text

-- an entry of an exchange that can't be read
abbrev pub entry_word_hint : List ℕ → Hint
entry_word_hint text =
    if begins text (codes "in ") || begins text (codes "out ") then SpacedWord
    else if is_hex text then BareHex
    else if begins_in_upper_case text then UpperCase
    else ExchangeWords

abbrev pub unread_entry_hint : List ℕ → List ℕ → Hint
unread_entry_hint cause text =
    if is_cause cause (codes "Hex") then last_word_hint (after_word text) else entry_word_hint text

-- of an entry that breaks a rule nothing is said
abbrev pub entry_hint : List ℕ → List ℕ → Option Hint
entry_hint cause text =
    if is_cause cause (codes "Hex") || is_cause cause (codes "Word")
    then or_else (words_hint text) (Some (unread_entry_hint cause text))
    else None

abbrev pub world_says : List ℕ → Bool
world_says text =
    begins text (codes "sent ") || begins text (codes "up ") || begins text (codes "join ")
    || begins text (codes "note ") || begins text (codes "refused ") || begins text (codes "end ")

-- the last of the words of a path: where there is one it has the timeout as its least
abbrev pub cap_hint : List ℕ → Hint
cap_hint start = if is_some (number_in 0 (2 ^ 64 - 1) (first_word start)) then Cap else Start

-- the first of the numbers of a path that is out of its range, in the words after GATE
abbrev pub path_hint : List ℕ → Hint
path_hint words =
    if not (is_some (number_in 512 8192 (first_word words))) then Segment
    else if not (is_some (number_in 1 3600000 (first_word (after_word words)))) then Timeout
    else if not (is_some (number_in 1 100 (first_word (after_word (after_word words))))) then Limit
    else if not (is_some (number_in 1 4000000 (first_word (after_word (after_word (after_word words)))))) then Cut
    else cap_hint (after_word (after_word (after_word (after_word words))))

abbrev pub world_word_hint : List ℕ → Bool → Hint
world_word_hint text is_first =
    if begins text (codes "path ") then if is_first then PathWords else SecondPath
    else if is_first then NoPath
    else if is_send text then SpacedWord
    else if begins text (codes "send") then SendSide
    else if begins text (codes "in ") then NodeLine
    else if world_says text then WorldSaid
    else if begins_in_upper_case text then UpperCase
    else WorldWords

abbrev pub script_hint : Refusal → Hint
script_hint refusal =
    if is_cause refusal.cause (codes "AfterDrain") then AfterDrain
    else if is_cause refusal.cause (codes "Name") then Gate
    else if is_cause refusal.cause (codes "Hex") then last_word_hint (after_word (after_word refusal.text))
    else if not (is_cause refusal.cause (codes "Number")) then world_word_hint refusal.text refusal.is_first
    else if refusal.is_first then path_hint (after_word (after_word refusal.text))
    else WorldNumber

abbrev pub link_word_hint : List ℕ → Bool → Hint
link_word_hint text is_first =
    if is_first then NoLink
    else if begins text (codes "send first ") || begins text (codes "send second ") then SpacedWord
    else if begins_in_upper_case text then UpperCase
    else LinkWords

-- a line that `link` refuses
abbrev pub link_hint : Refusal → Hint
link_hint refusal =
    if is_cause refusal.cause (codes "AfterDrain") then AfterDrain
    else if is_cause refusal.cause (codes "Window") then LinkWindow
    else if is_cause refusal.cause (codes "Hex") then last_word_hint (after_word (after_word refusal.text))
    else if not (is_cause refusal.cause (codes "Number")) then link_word_hint refusal.text refusal.is_first
    else if refusal.is_first then LinkStart
    else LinkNumber

-- ---- all of it

unfoldable pub line_hint : Reads → Refusal → Option Hint
line_hint Bundles refusal = bundle_hint refusal.cause refusal.text
line_hint Datagrams refusal = or_else (any_line_hint refusal.text) (datagram_hint refusal.cause refusal.text)
line_hint Events refusal = or_else (words_hint refusal.text) (Some (event_hint refusal.cause refusal.text))
line_hint Exchange refusal = entry_hint refusal.cause refusal.text
line_hint Script refusal = or_else (words_hint refusal.text) (Some (script_hint refusal))
line_hint Windows refusal = or_else (words_hint refusal.text) (Some (link_hint refusal))

-- an input that begins so, and what was refused of it, where that is known
abbrev pub hint_of : Reads → List ℕ → Option Refusal → Option Hint
hint_of reads head None = file_hint head
hint_of reads head (Some refusal) = or_else (file_hint head) (line_hint reads refusal)

-- one that was answered to its end
abbrev pub done_hint : List ℕ → Option Hint
done_hint [] = Some Empty
done_hint (octet ∷ head) = None

-- ---- the line of each

abbrev pub line_of : Hint → List ℕ
line_of Empty = codes "fimdahol: the input is empty; 'fimdahol --help' says what each command reads\n"
line_of Capture = codes "fimdahol: the input is a capture; what its datagrams carry comes by: tshark -r FILE -T fields -e udp.payload 'udp.dstport == 1113' | fimdahol receive\n"
line_of Compressed = codes "fimdahol: the input is compressed; unpack it first, as by gunzip, unxz or unzstd\n"
line_of Marked = codes "fimdahol: the input begins with a byte order mark, which no command reads; of UTF-8 it is three octets: tail -c +4 FILE; UTF-16 is made UTF-8 by: iconv -f UTF-16 -t UTF-8 FILE\n"
line_of Json = codes "fimdahol: this is JSON, as show writes it, which no command reads\n"
line_of HexFile = codes "fimdahol: this is hex, and octets are wanted: xxd -r -p FILE | fimdahol check\n"
line_of HexFilePrefix = codes "fimdahol: this is hex after 0x, and octets are wanted: sed 's/0[xX]//g' FILE | xxd -r -p | fimdahol check\n"
line_of LineEnd = codes "fimdahol: a line's end follows the last bundle; printf writes none, where echo does: head -c -1 FILE leaves the last octet out\n"
line_of Text = codes "fimdahol: this is text, and octets of bundles are wanted; those of base64 come by: base64 -d FILE | fimdahol check\n"
line_of CrLf = codes "fimdahol: the line ends with CR LF, and LF is wanted: tr -d '\\r' < FILE leaves the CR out\n"
line_of BlankLine = codes "fimdahol: the line is empty, which says nothing; grep . FILE leaves such lines out\n"
line_of Comment = codes "fimdahol: the line is a comment, which no command reads; grep -v '^#' FILE leaves such lines out\n"
line_of Binary = codes "fimdahol: the line is no text; octets are written in hex, a line of them by: xxd -p FILE | tr -d '\\n'\n"
line_of Tab = codes "fimdahol: the line has a tab; words are separated by single spaces\n"
line_of EmptyWord = codes "fimdahol: the line has a space too many; words are separated by single spaces, and none stands at the end\n"
line_of UpperCase = codes "fimdahol: the line begins in upper case; the words of a script are in lower case\n"
line_of Prefix = codes "fimdahol: the hex has 0x before it, and is wanted without: sed 's/0[xX]//g' FILE\n"
line_of Spaced = codes "fimdahol: the hex has spaces, tabs, colons or minuses in it, and is wanted without: tr -d ' \\t:-' < FILE\n"
line_of Odd = codes "fimdahol: the hex has an odd number of digits, and an octet is two\n"
line_of Digits = codes "fimdahol: octets are written in hex: digits 0 to 9 and a to f\n"
line_of ScriptLine = codes "fimdahol: the line is one of a script; in, send and clock are of: fimdahol node OWN PEER; the others of: fimdahol world\n"
line_of BundleLine = codes "fimdahol: the line is a bundle in hex, and a datagram of LTP is wanted; of bundles: xxd -r -p FILE | fimdahol check\n"
line_of BareHex = codes "fimdahol: the line is hex alone; a datagram that comes is said by: in HEX\n"
line_of WorldLine = codes "fimdahol: the line is one of: fimdahol world\n"
line_of NodeSaid = codes "fimdahol: the line is one that node writes; what one end says by out comes to the other by: in HEX\n"
line_of NodeClock = codes "fimdahol: a clock is in whole milliseconds since the beginning, in decimal: clock MS\n"
line_of NodeWords = codes "fimdahol: a line is one of: in HEX, send HEX, clock MS\n"
line_of NoPath = codes "fimdahol: the first line is to be: path GATE SEGMENT TIMEOUT LIMIT CUT START [CAP]\n"
line_of SecondPath = codes "fimdahol: path is the first line of a script, and no other\n"
line_of PathWords = codes "fimdahol: a path has six or seven words: path GATE SEGMENT TIMEOUT LIMIT CUT START [CAP]\n"
line_of Gate = codes "fimdahol: GATE, the first word after path, is to be an endpoint other than dtn:none, such as ipn:9.0\n"
line_of Segment = codes "fimdahol: SEGMENT, the second word after path, is to be 512 to 8192, in octets\n"
line_of Timeout = codes "fimdahol: TIMEOUT, the third word after path, is to be 1 to 3600000, in ms\n"
line_of Limit = codes "fimdahol: LIMIT, the fourth word after path, is to be 1 to 100\n"
line_of Cut = codes "fimdahol: CUT, the fifth word after path, is to be 1 to 4000000, in octets\n"
line_of Start = codes "fimdahol: START, the sixth word after path, is to be a whole number of ms since the beginning of 2000\n"
line_of Cap = codes "fimdahol: CAP, the seventh word after path, is to be TIMEOUT to 3600000, in ms\n"
line_of SendSide = codes "fimdahol: a send says of which end: send old HEX, send new HEX\n"
line_of NodeLine = codes "fimdahol: the line is one of: fimdahol node OWN PEER; on a path a datagram comes by: deliver K\n"
line_of WorldSaid = codes "fimdahol: the line is one that world writes, and none of a script\n"
line_of AfterDrain = codes "fimdahol: drain is the last line of a script\n"
line_of WorldNumber = codes "fimdahol: K and MS are whole numbers in decimal, without zeros in front: deliver K, clock MS\n"
line_of WorldWords = codes "fimdahol: a line is one of: send old HEX, send new HEX, deliver K, clock MS, drain\n"
line_of SpacedWord = codes "fimdahol: the hex of a line is one word, without spaces, tabs, colons or minuses in it\n"
line_of ExchangeWords = codes "fimdahol: a line is one of: in HEX, out HEX\n"
line_of NoLink = codes "fimdahol: the first line is to be: link SEGMENT TIMEOUT LIMIT CAP START\n"
line_of LinkStart = codes "fimdahol: SEGMENT is 512 to 8192, in octets; TIMEOUT is 1 to 3600000, CAP from TIMEOUT on to 3600000, and START any, in whole ms; LIMIT is 1 to 100\n"
line_of LinkWindow = codes "fimdahol: a window ends after it begins, by 4611686018427387904 at the latest, and begins at or after the end of the one before it; there are at most 4096\n"
line_of LinkNumber = codes "fimdahol: FROM, TO, K and MS are whole numbers in decimal, without zeros in front: window FROM TO, deliver K, clock MS\n"
line_of LinkWords = codes "fimdahol: a line is one of: window FROM TO, before all others; send first HEX, send second HEX, deliver K, clock MS, drain\n"

-- ---- what only ties code to these

abbrev pub refusal_of : Refused → Refusal
refusal_of refused = record {
  cause = refused.cause.now;
  text = refused.text.now;
  is_first = refused.is_first;
}

abbrev pub refusal_in : Option Refused → Option Refusal
refusal_in None = None
refusal_in (Some refused) = Some (refusal_of refused)
