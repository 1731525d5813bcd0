-- The `up` lines of a text are those of the red parts that are handed up.
use Rattle.std.proofs.Common.{◌≡◌, ℕ, List, [], ◌∷◌, ◌++◌, map, codes, None, Result, Ok, Err, refl, sym, ap, ◌∙◌, subst, Bool}
use Rattle.std.proofs.lemmas.List.{append-nil, map-append}
use Rattle.std.proofs.lemmas.List.Concat.{flat_map-cons}
use Rattle.std.specs.List.{flat_map}
use Rattle.std.specs.Fmt.{decimal}
use Rattle.hex_text.specs.Hex.{encode_lower}
use Rattle.edge_traits.specs.declared.status.Status.{Status}
use Rattle.edge_traits.specs.declared.status.Status.TheVariants as statuses
use Rattle.command_frame.specs.InputLines.{ended_part}
use Rattle.ltp_segment.specs.declared.session.Green.{Green}
use Rattle.ltp_segment.specs.declared.session.Note.{Note}
use Rattle.ltp_segment.specs.Notes.{note_name}
use Rattle.ltp_segment.specs.Spelling.{segment_octets}
use Rattle.ltp_session.specs.Engine.{Party, EngineStep, EffectsValue, SubmitFault, UpValue}
use Rattle.ltp_engine.specs.Effects.{effects_of, up_of}
use Rattle.ltp_engine.specs.Refused.{submit_word, refusal_of}
use Rattle.replay_script.specs.declared.event.NodeEvent.{NodeEvent}
use Rattle.replay_script.specs.declared.fault.LineFault.{LineFault}
use Rattle.replay_script.specs.Fault.{word_of}
use Rattle.replay_script.specs.Lines.{bit_word}
use Rattle.replay_script.specs.NoteLines.{note_details, note_line}
use Rattle.node_run.specs.WrittenLines.{out_line, up_words, up_line, green_line, effects_text, block_line, refusal_line}
use Rattle.node_run.specs.TextLines.{up_lines}
use Rattle.node_run.specs.RedParts.{node_after, done_at, answer_text, text_after, RefusesNext, ClosesAs, ups_in, ups_at, all_ups, up_text}
use Rattle.node_run.proofs.PlainLemmas.{decimal-plain, hex-plain, bit-plain, fault-plain, submit-plain, name-plain, details-plain}
use Rattle.node_run.proofs.TextLineLemmas.{Has, has-none, has-both, has-other, has-one, alone}

-- the `up` lines of a text are these
abbrev HasUps : List ℕ → List (List ℕ) → Type 0
HasUps text lines = Has (codes "up ") text lines

-- ---- one line

out-plain : ended_part (codes "out") ≡ []
unfolding ended_part
out-plain = refl

up-plain : ended_part (codes "up") ≡ []
unfolding ended_part
up-plain = refl

green-plain : ended_part (codes "green") ≡ []
unfolding ended_part
green-plain = refl

noting-plain : ended_part (codes "note") ≡ []
unfolding ended_part
noting-plain = refl

refusing-plain : ended_part (codes "refused") ≡ []
unfolding ended_part
refusing-plain = refl

numbering-plain : ended_part (codes "line") ≡ []
unfolding ended_part
numbering-plain = refl

out-has : (datagram : List ℕ) → HasUps (out_line datagram) []
out-has datagram = has-other (codes "up ") (codes "out" ∷ encode_lower datagram ∷ []) (out-plain, (hex-plain datagram, tt)) refl

up-has : (up : UpValue) → HasUps (up_line (up_of up)) (up_text up ∷ [])
up-has up =
    has-one (codes "up ") (up_words (up_of up)) (up-plain, (decimal-plain up.session, (hex-plain up.body, tt))) refl

green-has : (g : Green) → HasUps (green_line g) []
green-has g =
    has-other (codes "up ") (codes "green" ∷ decimal g.session ∷ decimal g.offset ∷ bit_word g.last ∷ encode_lower g.body ∷ [])
    (green-plain, (decimal-plain g.session, (decimal-plain g.offset, (bit-plain g.last, (hex-plain g.body, tt))))) refl

note-has : (note : Note) → HasUps (note_line None note) []
note-has note =
    has-other (codes "up ") (codes "note" ∷ note_name note ∷ note_details note)
    (noting-plain, (name-plain note, details-plain note)) refl

block-has : (fault : SubmitFault) → HasUps (block_line fault) []
block-has fault =
    has-other (codes "up ") (codes "refused" ∷ submit_word (refusal_of fault) ∷ []) (refusing-plain, (submit-plain fault, tt)) refl

refusal-has : (n : ℕ) (fault : LineFault) → HasUps (refusal_line n fault) []
refusal-has n fault =
    has-other (codes "up ") (codes "refused" ∷ codes "line" ∷ decimal n ∷ word_of fault ∷ [])
    (refusing-plain, (numbering-plain, (decimal-plain n, (fault-plain fault, tt)))) refl

-- ---- the lines of an answer

-- many lines, of which none is an `up` line
others-have : {X : Type 0} (line : X → List ℕ) → ((x : X) → HasUps (line x) []) → (xs : List X) → HasUps (flat_map line xs) []
others-have line other [] = has-none (codes "up ")
others-have line other (x ∷ xs) =
    let both = has-both (codes "up ") (line x) (flat_map line xs) [] [] (other x) (others-have line other xs) in
    rw (flat_map-cons line x xs) both

ups-have : (ups : List UpValue) → HasUps (flat_map up_line (map up_of ups)) (map up_text ups)
ups-have [] = has-none (codes "up ")
ups-have (up ∷ ups) =
    let both = has-both (codes "up ") (up_line (up_of up)) (flat_map up_line (map up_of ups)) (up_text up ∷ []) (map up_text ups) (up-has up) (ups-have ups) in
    subst (λ (text : List ℕ). HasUps text (up_text up ∷ map up_text ups)) (sym (flat_map-cons up_line (up_of up) (map up_of ups))) both

effects-have : (e : EffectsValue) → HasUps (effects_text (effects_of e)) (map up_text e.ups)
unfolding effects_text
effects-have e =
    let last = has-both (codes "up ") _ _ [] [] (others-have green_line green-has e.greens) (others-have (note_line None) note-has e.notes) in
    let ups = has-both (codes "up ") _ _ (map up_text e.ups) [] (ups-have e.ups) last in
    let all = has-both (codes "up ") _ _ [] _ (others-have out_line out-has (map segment_octets e.out)) ups in
    rw (append-nil (map up_text e.ups)) at all

answer-has : (did : Result EngineStep SubmitFault) → HasUps (answer_text did) (map up_text (ups_in did))
answer-has (Ok step) = effects-have step.effects
answer-has (Err fault) = block-has fault

-- ---- the whole text

text-has : (p : Party) (events : List NodeEvent) → HasUps (text_after p events) (map up_text (all_ups p events))
unfolding text_after all_ups
text-has p [] = has-none (codes "up ")
text-has p (event ∷ earlier) =
    let both = has-both (codes "up ") _ _ _ _ (text-has p earlier) (answer-has (done_at (node_after p earlier) event)) in
    rw (map-append up_text (all_ups p earlier) (ups_at (node_after p earlier) event)) both

refused-next : (n : ℕ) (left : List (List ℕ)) (closing : List ℕ) → RefusesNext n left closing → HasUps closing []
refused-next n [] closing none = absurd none
refused-next n (line ∷ left) closing (within, (fault, said, is)) = rw is (refusal-has n fault)

closing-has : (longer : Bool) (status : Status) (n : ℕ) (left : List (List ℕ)) (closing : List ℕ)
    → ClosesAs longer status n left closing → HasUps closing []
closing-has longer statuses.Done n left closing closes = rw closes.2 (has-none (codes "up "))
closing-has longer statuses.Limit n left closing closes = rw closes.1 (has-none (codes "up "))
closing-has longer statuses.Refused n left closing closes = refused-next n left closing closes
closing-has longer statuses.Usage n left closing closes = absurd closes
closing-has longer statuses.ReadFault n left closing closes = absurd closes
closing-has longer statuses.WriteFault n left closing closes = absurd closes
closing-has longer statuses.Memory n left closing closes = absurd closes

-- what is written for some events, and then what the end of the run asks for
pub ups-are : (longer : Bool) (p : Party) (events : List NodeEvent) (text closing : List ℕ) (status : Status) (n : ℕ) (left : List (List ℕ))
    → text ≡ text_after p events ++ closing → ClosesAs longer status n left closing → up_lines text ≡ map up_text (all_ups p events)
ups-are longer p events text closing status n left written closes =
    ap up_lines written
    ∙ (alone (codes "up ") (text_after p events ++ closing) (map up_text (all_ups p events) ++ [])
    (has-both (codes "up ") (text_after p events) closing (map up_text (all_ups p events)) []
    (text-has p events) (closing-has longer status n left closing closes))
    ∙ append-nil (map up_text (all_ups p events)))
