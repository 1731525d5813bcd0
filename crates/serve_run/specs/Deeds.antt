-- What is done outside in a run, one thing after the other.
use Rattle.std.specs.Prelude.{ℕ, Bool, true, false, codes, List, [], ◌∷◌, ◌++◌, map}
use Rattle.std.specs.List.{flat_map}
use Rattle.gate_cases.specs.declared.face.Face.{Face}
use Rattle.gate_cases.specs.declared.face.Face.TheVariants.{Old, New}
use Rattle.replay_script.specs.Words.{spaced}
use Rattle.replay_script.specs.Lines.{side_word, call_word}
use Rattle.serve_run.specs.Outside.{Polled, failed, empty, gave}
use Rattle.serve_run.specs.Turns.{Call, clock_read, link_polled, datagram_sent, datagram_lost, lines_written, Made}

-- ---- what is written

abbrev pub is_old : Face → Bool
is_old Old = true
is_old New = false

-- the line that says of a face's link that a call failed
unfoldable pub link_line : Face → Bool → List ℕ
link_line face send =
    spaced (codes "note" ∷ side_word (is_old face) ∷ call_word send ∷ []) ++ codes "\n"

-- the text that is written with a call: that it failed, or the lines of a step
abbrev pub call_text : Call → List ℕ
call_text (clock_read now) = []
call_text (link_polled face failed) = link_line face false
call_text (link_polled face empty) = []
call_text (link_polled face (gave datagram)) = []
call_text (datagram_sent face datagram) = []
call_text (datagram_lost face datagram) = link_line face true
call_text (lines_written text) = text

-- the text of calls
abbrev pub text_of : Made → List ℕ
text_of made = flat_map call_text made

-- ---- what is done

-- the clock is read, and shows this; a face's link is polled, which comes to this; a datagram is sent on
-- the link of a face, or lost, since its sending failed; an octet is written; or a write fails
pub data Deed : Type 0 where
  read_clock : ℕ → Deed
  polled_link : Face → Polled → Deed
  sent_datagram : Face → List ℕ → Deed
  lost_datagram : Face → List ℕ → Deed
  wrote_octet : ℕ → Deed
  write_failed : Deed

-- a datagram is sent, or lost where that fails
abbrev pub sent_or_lost : Face → (fails : Bool) → List ℕ → Deed
sent_or_lost face true datagram = lost_datagram face datagram
sent_or_lost face false datagram = sent_datagram face datagram

-- a text is written
abbrev pub written : List ℕ → List Deed
written text = map wrote_octet text

-- What calls are outside, in order, where these lines wait. That a poll failed is written at once. That
-- sends failed waits until all datagrams of their step went, and is written before the step's lines.
abbrev pub deeds_with : (waiting : List ℕ) → Made → List Deed
deeds_with waiting [] = []
deeds_with waiting (clock_read now ∷ later) = read_clock now ∷ deeds_with [] later
deeds_with waiting (link_polled face polled ∷ later) =
    polled_link face polled ∷ (written (call_text (link_polled face polled)) ++ deeds_with [] later)
deeds_with waiting (datagram_sent face datagram ∷ later) =
    sent_datagram face datagram ∷ deeds_with waiting later
deeds_with waiting (datagram_lost face datagram ∷ later) =
    lost_datagram face datagram ∷ deeds_with (waiting ++ link_line face true) later
deeds_with waiting (lines_written text ∷ later) = written (waiting ++ text) ++ deeds_with [] later

abbrev pub deeds_of : Made → List Deed
deeds_of made = deeds_with [] made
