-- What an end sends is octets, so what comes whole at a face is, and a report on it begins.
use Rattle.std.proofs.Common.{◌≡◌, ℕ, Bool, true, false, nat_lt, length, List, [], ◌∷◌, ◌++◌, map, codes, Option, None, Some, Result, Ok, Err, inl, inr, refl, sym, ap, ◌∙◌, subst, if◌then◌else◌}
use Rattle.std.specs.List.{AllByRecursion}
use Rattle.std.specs.Option.{option_map}
use Rattle.hex_text.specs.Hex.{FromHexError, decode_of}
use Rattle.hex_text.proofs.TextLemmas.{decode_of-ok}
use Rattle.endpoint.specs.Endpoints.{IsEndpoint}
use Rattle.wire_fields.specs.Reading.{IsOctets}
use Rattle.ltp_laws.specs.View.{IsIn}
use Rattle.gate_cases.specs.declared.face.Face.{Face}
use Rattle.gate_cases.specs.declared.face.Face.TheVariants as faces
use Rattle.gate_cases.specs.Faces.{other_of}
use Rattle.replay_script.specs.declared.event.Event.{Event}
use Rattle.replay_script.specs.declared.event.Event.TheVariants as events
use Rattle.replay_script.specs.declared.fault.LineFault.{LineFault}
use Rattle.replay_script.specs.declared.fault.LineFault.TheVariants as faults
use Rattle.replay_script.specs.Words.{words_of, is_word}
use Rattle.replay_script.specs.Events.{drain_line, event_by, event_of, gate_of, hex_of, is_path_line, number_line, number_word, octets_in, or_fault, path_line, path_numbers, path_words, send_line, send_words, with_number}
use Rattle.path_laws.specs.declared.effects.UpAt.{UpAt}
use Rattle.path_laws.specs.Places.{across, face_of, face_place}
use Rattle.path_laws.specs.Path.{PathSetup, Path, PathEvent, sends, delivers, clock_shows, path_run, path_step, starts_path}
use Rattle.path_laws.specs.Log.{Begun, Origin, a_piece, a_report, a_send, begun_in, ups_in}
use Rattle.path_laws.specs.Laws.{HandsOn, IsAsSent}
use Rattle.path_laws.proofs.LogLemmas.{all-in, all-more}
use Rattle.path_laws.proofs.OriginLemmas.{IsTagged, Tagged, run-tagged}
use Rattle.path_drain.specs.Clean.{AreCleanOnPath, path_clean_event, path_deadline, path_passed_after}
use Rattle.path_drain.specs.CarriedOut.{IsCarriedOutIn}
use Rattle.path_drain.specs.Decided.{BegunAreDecided, IsBegunIn, IsDecidedAt}
use Rattle.world_run.specs.World.{LaterLine, says_event, end_of_side, later_said, line_in, line_said}
use Rattle.world_run.specs.Headline.{DrainMakes, IsDoneIn, lines_said}

-- ---- a line `send` brings octets

hex-octets : (hex octets : List ℕ) → hex_of hex ≡ Some octets → IsOctets octets
unfolding hex_of
hex-octets hex octets is = by (decode_of hex) refl is
  where
    by : (r : Result (List ℕ) FromHexError) → decode_of hex ≡ r → octets_in r ≡ Some octets → IsOctets octets
    by (Ok bytes) read same = let here : bytes ≡ octets = cc in subst IsOctets here (decode_of-ok hex bytes read).3
    by (Err fault) read same = absurd (cc)

abbrev Brings : Event → Type 0
Brings (events.Path gate segment timeout limit cut start cap) = Unit {0}
Brings (events.Send old body) = IsOctets body
Brings (events.Deliver k) = Unit {0}
Brings (events.Clock now) = Unit {0}
Brings events.Drain = Unit {0}

abbrev BringsIf : Result Event LineFault → Type 0
BringsIf (Ok event) = Brings event
BringsIf (Err fault) = Unit {0}

-- of a value, where there is one
if-brings : {X : Type 0} (o : Option X) (fault : LineFault) (said : X → Result Event LineFault) → ((x : X) → BringsIf (said x))
    → BringsIf (or_fault o fault said)
if-brings None fault said brings = tt
if-brings (Some x) fault said brings = brings x

path-brings : (words : List (List ℕ)) → BringsIf (path_line words)
path-brings words =
    if-brings (path_words words) faults.Word _ (λ path. if-brings (gate_of path.gate) faults.Name _ (λ gate.
    if-brings (path_numbers path) faults.Number _ (λ numbers. tt)))

send-brings : (words : List (List ℕ)) → BringsIf (send_line words)
send-brings words = by (send_words words)
  where
    by_hex : (send : Bool × List ℕ) (o : Option (List ℕ)) → hex_of send.1 ≡ o
        → BringsIf (or_fault o faults.Hex (λ body. Ok (events.Send send.0 body)))
    by_hex send None is = tt
    by_hex send (Some octets) is = hex-octets send.1 octets is

    by : (o : Option (Bool × List ℕ)) → BringsIf (or_fault o faults.Word (λ send. or_fault (hex_of send.1) faults.Hex (λ body. Ok (events.Send send.0 body))))
    by None = tt
    by (Some send) = by_hex send (hex_of send.1) refl

deliver-brings : (words : List (List ℕ)) → BringsIf (number_line events.Deliver words)
deliver-brings words = by (number_word words)
  where
    by : (r : Result ℕ LineFault) → BringsIf (with_number events.Deliver r)
    by (Ok n) = tt
    by (Err fault) = tt

clock-brings : (words : List (List ℕ)) → BringsIf (number_line events.Clock words)
clock-brings words = by (number_word words)
  where
    by : (r : Result ℕ LineFault) → BringsIf (with_number events.Clock r)
    by (Ok n) = tt
    by (Err fault) = tt

drain-brings : (words : List (List ℕ)) → BringsIf (drain_line words)
drain-brings [] = tt
drain-brings (word ∷ words) = tt

words-bring : (words : List (List ℕ)) → BringsIf (event_by words)
words-bring [] = tt
words-bring (first ∷ words) =
    by (is_word first (codes "path")) (is_word first (codes "send")) (is_word first (codes "deliver"))
    (is_word first (codes "clock")) (is_word first (codes "drain"))
  where
    by : (path send deliver clock drain : Bool)
        → BringsIf (if path then path_line words
        else if send then send_line words
        else if deliver then number_line events.Deliver words
        else if clock then number_line events.Clock words
        else if drain then drain_line words
        else Err faults.Word)
    by true send deliver clock drain = path-brings words
    by false true deliver clock drain = send-brings words
    by false false true clock drain = deliver-brings words
    by false false false true drain = clock-brings words
    by false false false false true = drain-brings words
    by false false false false false = tt

later-brings : (line : List ℕ) → BringsIf (later_said line)
unfolding event_of
later-brings line = by (is_path_line line)
  where
    by : (t : Bool) → BringsIf (if t then Err faults.Word else event_by (words_of line))
    by true = tt
    by false = words-bring (words_of line)

-- what an event of a path sends
abbrev pub SendsOctets : PathEvent → Type 0
SendsOctets (sends end block) = IsOctets block
SendsOctets (delivers k) = Unit {0}
SendsOctets (clock_shows now) = Unit {0}

line-sends : (line : List ℕ) (event : PathEvent) → line_in line ≡ Ok (says_event event) → SendsOctets event
unfolding line_in
line-sends line event is = by (later_said line) (later-brings line) is
  where
    ok : LaterLine → Result LaterLine LineFault
    ok said = Ok said

    same : (e : PathEvent) → says_event e ≡ says_event event → e ≡ event
    same e is = cc

    by : (said : Result Event LineFault) → BringsIf said → line_said said ≡ Ok (says_event event) → SendsOctets event
    by (Ok (events.Path gate segment timeout limit cut start cap)) brings is = absurd (cc)
    by (Ok (events.Send old body)) brings is =
        let here : sends (end_of_side old) body ≡ event = same (sends (end_of_side old) body) (cc) in
        subst SendsOctets here brings
    by (Ok (events.Deliver k)) brings is =
        let here : delivers k ≡ event = same (delivers k) (cc) in subst SendsOctets here tt
    by (Ok (events.Clock now)) brings is =
        let here : clock_shows now ≡ event = same (clock_shows now) (cc) in subst SendsOctets here tt
    by (Ok events.Drain) brings is = absurd (cc)
    by (Err fault) brings is = absurd (cc)

-- ---- so does each event of a script, and each of a drain

lines-send : (later : List (List ℕ)) (events : List PathEvent) (drains : Bool) → map line_in later ≡ map Ok (lines_said events drains)
    → AllByRecursion SendsOctets events
lines-send later [] drains is = tt
lines-send [] (event ∷ events) drains is = absurd (cc)
lines-send (line ∷ later) (event ∷ events) drains is =
    let here : line_in line ≡ Ok (says_event event) = cc in
    let rest : map line_in later ≡ map Ok (lines_said events drains) = cc in
    (line-sends line event here, lines-send later events drains rest)

clean-sends : (w : Path) (c : ℕ) (event : PathEvent) → path_clean_event w c ≡ Some event → SendsOctets event
clean-sends w c event is = by (nat_lt c (length w.sent)) (path_deadline w) is
  where
    by : (t : Bool) (due : Option ℕ) → (if t then Some (delivers c) else option_map clock_shows due) ≡ Some event → SendsOctets event
    by true due is = let here : delivers c ≡ event = cc in subst SendsOctets here tt
    by false None is = absurd (cc)
    by false (Some now) is = let here : clock_shows now ≡ event = cc in subst SendsOctets here tt

drain-sends : (s : PathSetup) (w : Path) (c : ℕ) (made : List PathEvent) → AreCleanOnPath s w c made → AllByRecursion SendsOctets made
drain-sends s w c [] clean = tt
drain-sends s w c (event ∷ made) clean =
    (clean-sends w c event clean.0, drain-sends s (path_step s w event).path (path_passed_after c event) made clean.1)

made-send : (drains : Bool) (s : PathSetup) (w : Path) (made : List PathEvent) → DrainMakes drains s w made → AllByRecursion SendsOctets made
made-send true s w made makes = drain-sends s w (length w.sent) made makes.0
made-send false s w made is = rw is tt

pub all_send : (later : List (List ℕ)) (events made : List PathEvent) (drains : Bool) (s : PathSetup) (w : Path)
    → map line_in later ≡ map Ok (lines_said events drains) → DrainMakes drains s w made → AllByRecursion SendsOctets (events ++ made)
all_send later events made drains s w said makes =
    all-more SendsOctets events made (lines-send later events drains said) (made-send drains s w made makes)

-- ---- what comes whole at a face

-- no face is where a node is
node_apart : (face other : Face) → across (face_place face) ≡ face_place other → ⊥
node_apart faces.Old faces.Old is = absurd (cc)
node_apart faces.Old faces.New is = absurd (cc)
node_apart faces.New faces.Old is = absurd (cc)
node_apart faces.New faces.New is = absurd (cc)

in-middle : (x : PathEvent) (xs ys : List PathEvent) → IsIn x (xs ++ x ∷ ys)
in-middle x [] ys = inl refl
in-middle x (z ∷ xs) ys = inr (in-middle x xs ys)

-- a session that began at a node carries what is sent there
send-octets : (s : PathSetup) (w : Path) (events : List PathEvent) (ups : List UpAt) (b : Begun) (face : Face)
    → AllByRecursion SendsOctets events → IsTagged s ups b → b.place ≡ across (face_place face) → IsBegunIn s w events b → IsOctets b.block
send-octets s w events ups b face send tagged at begun = by b.origin tagged begun.decided
  where
    by : (origin : Origin) → Tagged s ups origin b.place b.session b.block
        → IsDecidedAt s (path_run s w begun.earlier) begun.event
        (path_step s (path_run s w begun.earlier) begun.event).effects.ups origin b.block → IsOctets b.block
    by (a_send end n) t is =
        let among : IsIn begun.event events = subst (λ (es : List PathEvent). IsIn begun.event es) (sym begun.among) (in-middle begun.event begun.earlier begun.later) in
        subst SendsOctets is (all-in SendsOctets events send begun.event among)
    by (a_piece end n i) t is = absurd (node_apart face (other_of (face_of end)) (sym at ∙ t.0))
    by (a_report end n) t is = absurd (node_apart face (face_of end) (sym at ∙ t.0))

pub up_octets : (s : PathSetup) (start : ℕ) (events : List PathEvent) (face : Face) (up : UpAt) → BegunAreDecided
    → HandsOn s (begun_in s (starts_path s start) events) (ups_in s (starts_path s start) events)
    → AllByRecursion SendsOctets events → IsIn up (ups_in s (starts_path s start) events) → up.place ≡ face_place face → IsOctets up.body
up_octets s start events face up decided hands send among at =
    let w = starts_path s start in
    let sent = all-in (IsAsSent (begun_in s w events)) (ups_in s w events) hands.as_sent up among in
    let b = sent.session in
    let tagged = all-in (IsTagged s (ups_in s w events)) (begun_in s w events) (run-tagged s w events) b sent.among in
    subst IsOctets sent.whole
    (send-octets s w events (ups_in s w events) b face send tagged (sent.place ∙ ap across at) (decided s w events b sent.among))

-- ---- so a report that is noted begins

pub is_done : (s : PathSetup) (w : Path) (events : List PathEvent) (face : Face) (up : UpAt) → IsEndpoint s.gate.gate → IsOctets up.body
    → IsCarriedOutIn s w events face up → IsDoneIn s w events face up
is_done s w events face up legal fits carried = record {
  case = carried.case;
  pieces = carried.pieces;
  report = carried.report legal fits;
}
