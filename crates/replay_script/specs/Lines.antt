-- The lines of transcripts: the words of each line.

use Rattle.std.specs.Prelude.{ℕ, Bool, true, false, List, [], ◌∷◌, ◌++◌, codes, Option, None, Some}
use Rattle.std.specs.Borrow.{Bor}
use Rattle.std.specs.Option.{option_map}
use Rattle.std.specs.Fmt.{decimal}
use Rattle.hex.specs.Hex.{encode_lower}
use Rattle.replay_script.specs.declared.line.Line.{Line}
use Rattle.replay_script.specs.declared.line.Line.TheVariants as lines
use Rattle.replay_script.specs.declared.line.Route.{Route}
use Rattle.replay_script.specs.declared.line.Route.TheVariants as routes
use Rattle.replay_script.specs.declared.line.Site.{Site}
use Rattle.replay_script.specs.declared.line.Site.TheVariants as sites
use Rattle.replay_script.specs.Words.{spaced}

abbrev pub route_word : Route → List ℕ
route_word routes.OldGate = codes "o>g"
route_word routes.GateOld = codes "g>o"
route_word routes.GateNew = codes "g>n"
route_word routes.NewGate = codes "n>g"
route_word routes.FirstSecond = codes "f>s"
route_word routes.SecondFirst = codes "s>f"

abbrev pub site_word : Site → List ℕ
site_word sites.OldNode = codes "o"
site_word sites.GateOld = codes "g.o"
site_word sites.GateNew = codes "g.n"
site_word sites.NewNode = codes "n"
site_word sites.First = codes "f"
site_word sites.Second = codes "s"

-- the side of the gate that has this link
abbrev pub side_word : Bool → List ℕ
side_word true = codes "old"
side_word false = codes "new"

-- what a call on a link was
abbrev pub call_word : Bool → List ℕ
call_word true = codes "Send"
call_word false = codes "Poll"

-- 1 for what is so, else 0
abbrev pub bit_word : Bool → List ℕ
bit_word true = codes "1"
bit_word false = codes "0"

-- a word that may be left out
abbrev pub if_any : Option (List ℕ) → List (List ℕ)
if_any None = []
if_any (Some word) = word ∷ []

abbrev pub if_site : Option Site → List (List ℕ)
if_site site = if_any (option_map site_word site)

abbrev pub if_number : Option ℕ → List (List ℕ)
if_number number = if_any (option_map decimal number)

abbrev pub if_word : Option (Bor (List ℕ)) → List (List ℕ)
if_word word = if_any (option_map (λ w. w.now) word)

-- the second number stands only with the first
abbrev pub numbers : Option ℕ → Option ℕ → List (List ℕ)
numbers None second = []
numbers (Some first) second = decimal first ∷ if_number second

-- the words of a line before its octets, or all of them where it has none
abbrev pub head_of : Line → List (List ℕ)
head_of (lines.Sent k route datagram) = codes "sent" ∷ decimal k ∷ route_word route ∷ []
head_of (lines.Up site session body) = codes "up" ∷ (if_site site ++ decimal session ∷ [])
head_of (lines.Join site word) = codes "join" ∷ site_word site ∷ word.now ∷ []
head_of (lines.JoinWhole site body) = codes "join" ∷ site_word site ∷ codes "Whole" ∷ []
head_of (lines.Note site name first second word) =
    codes "note" ∷ (if_site site ++ name.now ∷ (numbers first second ++ if_word word))
head_of (lines.RefusedSend site cause) = codes "refused" ∷ (if_site site ++ cause.now ∷ [])
head_of lines.RefusedDeliver = codes "refused" ∷ codes "deliver" ∷ []
head_of lines.RefusedClosed = codes "refused" ∷ codes "closed" ∷ []
head_of (lines.At now) = codes "at" ∷ decimal now ∷ []
head_of (lines.End events) = codes "end" ∷ decimal events ∷ []
head_of (lines.Stop events) = codes "stop" ∷ decimal events ∷ []
head_of (lines.Out datagram) = codes "out" ∷ []
head_of (lines.Green session offset last body) =
    codes "green" ∷ decimal session ∷ decimal offset ∷ bit_word last ∷ []
head_of (lines.LinkNote old send) = codes "note" ∷ side_word old ∷ call_word send ∷ []
head_of (lines.RefusedLine line at cause) =
    codes "refused" ∷ codes "line" ∷ decimal line ∷ (if_number at ++ cause.now ∷ [])

-- the octets of a line, where it has such
abbrev pub octets_of : Line → Option (List ℕ)
octets_of (lines.Sent k route datagram) = Some datagram
octets_of (lines.Up site session body) = Some body
octets_of (lines.Join site word) = None
octets_of (lines.JoinWhole site body) = Some body
octets_of (lines.Note site name first second word) = None
octets_of (lines.RefusedSend site cause) = None
octets_of lines.RefusedDeliver = None
octets_of lines.RefusedClosed = None
octets_of (lines.At now) = None
octets_of (lines.End events) = None
octets_of (lines.Stop events) = None
octets_of (lines.Out datagram) = Some datagram
octets_of (lines.Green session offset last body) = Some body
octets_of (lines.LinkNote old send) = None
octets_of (lines.RefusedLine line at cause) = None

-- octets in hex, as a word
abbrev pub if_octets : Option (List ℕ) → List (List ℕ)
if_octets octets = if_any (option_map encode_lower octets)

-- a line: its words, its octets in hex as the last one, and LF
unfoldable pub line_text : Line → List ℕ
line_text line = spaced (head_of line ++ if_octets (octets_of line)) ++ codes "\n"
