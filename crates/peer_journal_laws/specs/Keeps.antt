-- What the acts of a run say that its journal keeps: the records of each half before anything goes out, and the
-- session numbers that were given.

use Rattle.std.specs.Prelude.{◌≡◌, ◌≤◌, List, [], ◌∷◌, Option, None, Some}
use Rattle.std.specs.Option.{option_map}
use Rattle.gate_cases.specs.declared.face.Face.{Face}
use Rattle.journal_file.specs.Values.{KeptValue}
use Rattle.journal_file.specs.Keeping.{kept_after}
use Rattle.journal_file.specs.Anew.{but_greatest}
use Rattle.gateway_core.specs.Gate.{at_face}
use Rattle.gate_records.specs.Keeping.{NUMBERS}
use Rattle.peer_half.specs.Journals.{kept_in}
use Rattle.peer_half.specs.Acts.{Act, sent, lost, said, shown, committed, installed}
use Rattle.peer_half.specs.Parts.{next_at, reserves}
use Rattle.peer_half.specs.Half.{Came, half, hears}
use Rattle.peer_half.specs.Runs.{Run, acts_of, setup_of, stands_at}

-- ---- what acts say

-- Records that are committed are applied to what was kept. A file that is made anew of what is kept reads as that,
-- but for the greatest id.
abbrev pub kept_with : Option KeptValue → Act → Option KeptValue
kept_with before (sent face datagram) = before
kept_with before (lost face datagram) = before
kept_with before (said line) = before
kept_with before (shown text) = before
kept_with before (committed records) = option_map (λ kept. kept_after kept records) before
kept_with before (installed kept) = Some (but_greatest kept)

-- after some acts, in order
abbrev pub kept_from : Option KeptValue → List Act → Option KeptValue
kept_from before [] = before
kept_from before (act ∷ acts) = kept_from (kept_with before act) acts

-- by the acts of a run so far; before the first of them nothing is said
abbrev pub kept_by : List Act → Option KeptValue
kept_by acts = kept_from None acts

-- two say the same, whatever they say of the greatest id
abbrev pub SaySame : (told known : Option KeptValue) → Type 0
SaySame told known = option_map but_greatest told ≡ option_map but_greatest known

-- ---- at each datagram

-- at each datagram that goes out with some acts, sent or lost, the acts so far say that this is kept
abbrev pub SayAtDatagrams : (known before : Option KeptValue) → List Act → Type 0
SayAtDatagrams known before [] = Unit {0}
SayAtDatagrams known before (sent face datagram ∷ acts) =
    SaySame before known × SayAtDatagrams known before acts
SayAtDatagrams known before (lost face datagram ∷ acts) =
    SaySame before known × SayAtDatagrams known before acts
SayAtDatagrams known before (said line ∷ acts) = SayAtDatagrams known before acts
SayAtDatagrams known before (shown text ∷ acts) = SayAtDatagrams known before acts
SayAtDatagrams known before (committed records ∷ acts) =
    SayAtDatagrams known (kept_with before (committed records)) acts
SayAtDatagrams known before (installed kept ∷ acts) =
    SayAtDatagrams known (kept_with before (installed kept)) acts

-- what a run knows to be kept after all steps of its next half; nothing without a journal
abbrev pub known_after : Face → Came → Run → Option KeptValue
known_after face came r = kept_in (reserves (hears face came (stands_at r))).journal

-- In each half of a run, whatever came before: at each datagram the acts so far say that what the run knows after
-- all steps of the half is kept.
abbrev pub KeepsBeforeItSends : Type 0
KeepsBeforeItSends =
    (r : Run) (face : Face) (came : Came)
    → SayAtDatagrams (known_after face came r) (kept_by (acts_of r))
    (half r.board face came (stands_at r)).acts

-- ---- session numbers

-- After all steps of a half the number of a face's next session isn't above what is reserved, by what the run knows
-- then: so each that was given is below that, at each datagram. Where all numbers are used, the next is 2^32.
abbrev pub KeepsNumbers : Run → Face → Came → KeptValue → Type 0
KeepsNumbers r face came kept =
    ((at : Face) → ((at_face (setup_of r).keys at).party).first ≤ NUMBERS) → (at : Face)
    → next_at at (hears face came (stands_at r)) ≤ at_face (kept.old_reserved, kept.new_reserved) at

abbrev pub NumbersAreKept : Type 0
NumbersAreKept =
    (r : Run) (face : Face) (came : Came) (kept : KeptValue)
    → known_after face came r ≡ Some kept → KeepsNumbers r face came kept
