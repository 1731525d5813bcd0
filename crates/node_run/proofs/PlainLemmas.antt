-- Words of lines have no line feed.
use Rattle.std.proofs.Common.{◌≡◌, ℕ, zero, suc, ◌+◌, ◌/◌, ◌%◌, ◌==◌, nat_lt, Bool, true, false, List, [], ◌∷◌, ◌++◌, refl, arith, if◌then◌else◌, slice_index}
use Rattle.std.proofs.lemmas.Bool.Decides.{nat_tests}
use Rattle.std.specs.List.{AllByRecursion}
use Rattle.std.specs.Fmt.{decimal, digits, digits_onto, digit_glyph}
use Rattle.hex_text.specs.Hex.{encode_lower, encode_with, lower_digits}
use Rattle.command_frame.specs.InputLines.{ended_part, is_line_feed}
use Rattle.command_frame.proofs.InputLinesLemmas.{plain-first, plain-append}
use Rattle.ltp_segment.specs.declared.fault.SegmentCause.{SegmentCause}
use Rattle.ltp_segment.specs.declared.fault.SegmentCause.TheVariants as segment_causes
use Rattle.ltp_segment.specs.declared.session.Note.{Note}
use Rattle.ltp_segment.specs.declared.session.Note.TheVariants as engine_notes
use Rattle.ltp_segment.specs.Cause.{word_of as cause_word}
use Rattle.ltp_segment.specs.Notes.{note_name}
use Rattle.ltp_session.specs.Engine.{SubmitFault, block_empty, block_too_large, numbers_spent, senders_busy}
use Rattle.ltp_engine.specs.Refused.{submit_word, refusal_of}
use Rattle.replay_script.specs.declared.fault.LineFault.{LineFault}
use Rattle.replay_script.specs.declared.fault.LineFault.TheVariants as faults
use Rattle.replay_script.specs.Fault.{word_of}
use Rattle.replay_script.specs.Lines.{bit_word}
use Rattle.replay_script.specs.Words.{spaced, after_spaces}
use Rattle.replay_script.specs.NoteLines.{note_details}

-- no octet is a line feed
abbrev pub Plain : List ℕ → Type 0
Plain text = ended_part text ≡ []

abbrev pub PlainWords : List (List ℕ) → Type 0
PlainWords words = AllByRecursion Plain words

-- ---- words and spaces

plain-cons : (octet : ℕ) (text : List ℕ) → is_line_feed octet ≡ false → Plain text → Plain (octet ∷ text)
unfolding ended_part
plain-cons octet text other plain = rw (plain, other) refl

plain-after : (words : List (List ℕ)) → PlainWords words → Plain (after_spaces words)
unfolding ended_part
plain-after [] plain = refl
plain-after (word ∷ words) plain =
    plain-cons 32 (word ++ after_spaces words) refl
    (plain-append word (after_spaces words) plain.0 (plain-after words plain.1))

pub plain-spaced : (words : List (List ℕ)) → PlainWords words → Plain (spaced words)
unfolding ended_part
plain-spaced [] plain = refl
plain-spaced (word ∷ words) plain = plain-append word (after_spaces words) plain.0 (plain-after words plain.1)

-- ---- numbers and octets

glyph-plain : (d : ℕ) → is_line_feed (digit_glyph false d) ≡ false
glyph-plain d = by_test (nat_lt d 10)
  where
    by_test : (t : Bool) → is_line_feed (if t then 48 + d else 87 + d) ≡ false
    by_test true = grind (arith, nat_tests)
    by_test false = grind (arith, nat_tests)

onto-plain : (k n : ℕ) (acc : List ℕ) → Plain acc → Plain (digits_onto k 10 false n acc)
onto-plain zero n acc plain = plain
onto-plain (suc k) n acc plain =
    let more = plain-cons (digit_glyph false (n % 10)) acc (glyph-plain (n % 10)) plain in
    by_test (n / 10 == 0) more (onto-plain k (n / 10) (digit_glyph false (n % 10) ∷ acc) more)
  where
    by_test : (t : Bool) → Plain (digit_glyph false (n % 10) ∷ acc)
        → Plain (digits_onto k 10 false (n / 10) (digit_glyph false (n % 10) ∷ acc))
        → Plain (if t then digit_glyph false (n % 10) ∷ acc
        else digits_onto k 10 false (n / 10) (digit_glyph false (n % 10) ∷ acc))
    by_test true one more = one
    by_test false one more = more

pub decimal-plain : (n : ℕ) → Plain (decimal n)
unfolding digits ended_part
decimal-plain n = onto-plain 64 n [] refl

index-plain : (digits : List ℕ) (i : ℕ) → Plain digits → is_line_feed (slice_index digits i) ≡ false
index-plain [] i plain = refl
index-plain (digit ∷ digits) zero plain = (plain-first digit digits plain).0
index-plain (digit ∷ digits) (suc i) plain = index-plain digits i (plain-first digit digits plain).1

digits-plain : Plain lower_digits
unfolding ended_part
digits-plain = refl

pub hex-plain : (octets : List ℕ) → Plain (encode_lower octets)
unfolding encode_with ended_part
hex-plain [] = refl
hex-plain (octet ∷ octets) =
    let rest : Plain (encode_lower octets) = hex-plain octets in
    let low : Plain (slice_index lower_digits (octet % 16) ∷ encode_lower octets) =
    plain-cons (slice_index lower_digits (octet % 16)) (encode_lower octets) (index-plain lower_digits (octet % 16) digits-plain) rest in
    plain-cons (slice_index lower_digits (octet / 16)) (slice_index lower_digits (octet % 16) ∷ encode_lower octets)
    (index-plain lower_digits (octet / 16) digits-plain) low

-- ---- names

pub bit-plain : (x : Bool) → Plain (bit_word x)
unfolding ended_part
bit-plain true = refl
bit-plain false = refl

pub fault-plain : (x : LineFault) → Plain (word_of x)
unfolding ended_part
fault-plain faults.Word = refl
fault-plain faults.Name = refl
fault-plain faults.Number = refl
fault-plain faults.Hex = refl
fault-plain faults.Memory = refl

segment-plain : (x : SegmentCause) → Plain (cause_word x)
unfolding ended_part
segment-plain segment_causes.Version = refl
segment-plain segment_causes.Kind = refl
segment-plain segment_causes.Number = refl
segment-plain segment_causes.Range = refl
segment-plain segment_causes.Serial = refl
segment-plain segment_causes.Bounds = refl
segment-plain segment_causes.Claim = refl
segment-plain segment_causes.Trailing = refl
segment-plain segment_causes.Truncated = refl

pub submit-plain : (x : SubmitFault) → Plain (submit_word (refusal_of x))
unfolding ended_part
submit-plain block_empty = refl
submit-plain block_too_large = refl
submit-plain numbers_spent = refl
submit-plain senders_busy = refl

pub name-plain : (x : Note) → Plain (note_name x)
unfolding ended_part
name-plain (engine_notes.Sent session) = refl
name-plain (engine_notes.Failed session reason) = refl
name-plain (engine_notes.Refused session service) = refl
name-plain (engine_notes.Cancelled session reason) = refl
name-plain (engine_notes.Evicted session) = refl
name-plain engine_notes.Stranger = refl
name-plain (engine_notes.BadSegment at cause) = refl
name-plain (engine_notes.BadBounds session) = refl
name-plain (engine_notes.Closed session) = refl
name-plain (engine_notes.HistoryFull session) = refl

pub details-plain : (x : Note) → PlainWords (note_details x)
details-plain (engine_notes.Sent session) = (decimal-plain session, tt)
details-plain (engine_notes.Failed session reason) = (decimal-plain session, (decimal-plain reason, tt))
details-plain (engine_notes.Refused session service) = (decimal-plain session, (decimal-plain service, tt))
details-plain (engine_notes.Cancelled session reason) = (decimal-plain session, (decimal-plain reason, tt))
details-plain (engine_notes.Evicted session) = (decimal-plain session, tt)
details-plain engine_notes.Stranger = tt
details-plain (engine_notes.BadSegment at cause) = (decimal-plain at, (segment-plain cause, tt))
details-plain (engine_notes.BadBounds session) = (decimal-plain session, tt)
details-plain (engine_notes.Closed session) = (decimal-plain session, tt)
details-plain (engine_notes.HistoryFull session) = (decimal-plain session, tt)
