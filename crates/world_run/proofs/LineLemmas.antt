-- The `sent` lines of a text are those of the datagrams that were sent, its `up` lines those of the blocks
-- that came whole, its notes those that were made, its `join` lines what joiners answered, and an `end` line
-- that of the drain.
use Rattle.std.proofs.Common.{◌≡◌, ℕ, ◌+◌, Bool, true, false, length, List, [], ◌∷◌, ◌++◌, map, codes, Option, None, Some, Result, Ok, Err, refl, sym, ap, ◌∙◌, append_assoc, arith}
use Rattle.std.proofs.lemmas.List.{append-nil, map-append, length-append}
use Rattle.std.proofs.lemmas.List.Concat.{flat_map-cons}
use Rattle.std.specs.List.{flat_map}
use Rattle.std.specs.Prelude.{slice_get}
use Rattle.edge_traits.specs.declared.status.Status.{Status}
use Rattle.edge_traits.specs.declared.status.Status.TheVariants as statuses
use Rattle.command_frame.specs.InputLines.{ended_part}
use Rattle.ltp_session.specs.Engine.{EngineStep, SubmitFault}
use Rattle.ltp_segment.specs.Spelling.{segment_octets}
use Rattle.replay_script.specs.declared.fault.LineFault.{LineFault}
use Rattle.replay_script.specs.Words.{spaced}
use Rattle.replay_script.specs.Fault.{word_of}
use Rattle.replay_script.specs.NoteLines.{line_of}
use Rattle.ltp_engine.specs.Refused.{submit_word, refusal_of}
use Rattle.std.specs.Fmt.{decimal}
use Rattle.path_laws.specs.declared.effects.JoinAt.{JoinAt}
use Rattle.path_laws.specs.declared.effects.NoteAt.{NoteAt}
use Rattle.path_laws.specs.declared.effects.UpAt.{UpAt}
use Rattle.path_laws.specs.declared.places.PathEnd.{PathEnd}
use Rattle.path_laws.specs.Places.{node_place}
use Rattle.path_laws.specs.Path.{PathSetup, Path, PathEffectsValue, SentFrom, PathEvent, sends, delivers, clock_shows, sends_block, path_step, path_run}
use Rattle.path_laws.specs.Log.{ups_in}
use Rattle.path_drain.specs.Effects.{notes_in}
use Rattle.endpoint.specs.Endpoints.{begins}
use Rattle.world_run.specs.WrittenLines.{sent_words, place_word, up_words, up_line, note_words, end_words, sent_line, sent_lines, join_words, join_line, note_line, effects_text, refused_line, refusal_line, after_drain_line, end_line}
use Rattle.world_run.specs.World.{unless_sent, unless_there, refused_text, event_text, events_text}
use Rattle.world_run.specs.Headline.{datagram_texts, up_text, note_text, join_text, joins_in, end_texts, DrainMakes, if_drained_text, RefusesNext, ClosesAs}
use Rattle.path_drain.proofs.PathLists.{step-sends}
use Rattle.world_run.proofs.StepLemmas.{run-append}
use Rattle.node_run.proofs.PlainLemmas.{PlainWords, decimal-plain, hex-plain, fault-plain, submit-plain}
use Rattle.node_run.proofs.TextLineLemmas.{Has, has-both, has-other, has-one}
use Rattle.world_run.proofs.PlainLemmas.{place-plain, route-plain, join-plain, whole-plain, gate-name-plain, gate-details-plain}

-- ---- the kinds of lines that are told apart

-- of datagrams, of blocks that came whole, of what joiners answered, of notes, and of ends of drains
pub record Told : Type 0 where
  pub sents : List (List ℕ)
  pub ups : List (List ℕ)
  pub joins : List (List ℕ)
  pub notes : List (List ℕ)
  pub ends : List (List ℕ)

abbrev pub nothing : Told
nothing = record { sents = []; ups = []; joins = []; notes = []; ends = [] }

abbrev pub and_then : Told → Told → Told
and_then a b =
    record { sents = a.sents ++ b.sents; ups = a.ups ++ b.ups; joins = a.joins ++ b.joins; notes = a.notes ++ b.notes; ends = a.ends ++ b.ends }

-- the lines of a text are these
pub record HasLines (text : List ℕ) (told : Told) : Type 0 where
  pub sents : Has (codes "sent ") text told.sents
  pub ups : Has (codes "up ") text told.ups
  pub joins : Has (codes "join ") text told.joins
  pub notes : Has (codes "note ") text told.notes
  pub ends : Has (codes "end ") text told.ends

pub none-has : HasLines [] nothing
none-has = record { sents = λ rest. refl; ups = λ rest. refl; joins = λ rest. refl; notes = λ rest. refl; ends = λ rest. refl }

pub both-have : (first more : List ℕ) (a b : Told) → HasLines first a → HasLines more b → HasLines (first ++ more) (and_then a b)
both-have first more a b has have = record {
  sents = has-both (codes "sent ") first more a.sents b.sents has.sents have.sents;
  ups = has-both (codes "up ") first more a.ups b.ups has.ups have.ups;
  joins = has-both (codes "join ") first more a.joins b.joins has.joins have.joins;
  notes = has-both (codes "note ") first more a.notes b.notes has.notes have.notes;
  ends = has-both (codes "end ") first more a.ends b.ends has.ends have.ends;
}

other-line : (words : List (List ℕ)) → PlainWords words → begins (codes "sent ") (spaced words) ≡ false → begins (codes "up ") (spaced words) ≡ false
    → begins (codes "join ") (spaced words) ≡ false → begins (codes "note ") (spaced words) ≡ false → begins (codes "end ") (spaced words) ≡ false
    → HasLines (line_of words) nothing
other-line words plain sent up join note end = record {
  sents = has-other (codes "sent ") words plain sent;
  ups = has-other (codes "up ") words plain up;
  joins = has-other (codes "join ") words plain join;
  notes = has-other (codes "note ") words plain note;
  ends = has-other (codes "end ") words plain end;
}

-- ---- the lines of an event

sent-plain : ended_part (codes "sent") ≡ []
unfolding ended_part
sent-plain = refl

up-plain : ended_part (codes "up") ≡ []
unfolding ended_part
up-plain = refl

joining-plain : ended_part (codes "join") ≡ []
unfolding ended_part
joining-plain = refl

noting-plain : ended_part (codes "note") ≡ []
unfolding ended_part
noting-plain = refl

refusing-plain : ended_part (codes "refused") ≡ []
unfolding ended_part
refusing-plain = refl

delivering-plain : ended_part (codes "deliver") ≡ []
unfolding ended_part
delivering-plain = refl

numbering-plain : ended_part (codes "line") ≡ []
unfolding ended_part
numbering-plain = refl

late-plain : ended_part (codes "AfterDrain") ≡ []
unfolding ended_part
late-plain = refl

ending-plain : ended_part (codes "end") ≡ []
unfolding ended_part
ending-plain = refl

abbrev only_sent : ℕ → SentFrom → Told
only_sent k d = record { sents = spaced (sent_words k d.from (segment_octets d.segment)) ∷ []; ups = []; joins = []; notes = []; ends = [] }

sent-has : (k : ℕ) (d : SentFrom) → HasLines (sent_line k d) (only_sent k d)
sent-has k d =
    let words : List (List ℕ) = sent_words k d.from (segment_octets d.segment) in
    let plain : PlainWords words = (sent-plain, (decimal-plain k, (route-plain d.from, (hex-plain (segment_octets d.segment), tt)))) in
    record {
      sents = has-one (codes "sent ") words plain refl;
      ups = has-other (codes "up ") words plain refl;
      joins = has-other (codes "join ") words plain refl;
      notes = has-other (codes "note ") words plain refl;
      ends = has-other (codes "end ") words plain refl;
    }

abbrev only_up : UpAt → Told
only_up up = record { sents = []; ups = up_text up ∷ []; joins = []; notes = []; ends = [] }

up-has : (up : UpAt) → HasLines (up_line up) (only_up up)
up-has up =
    let plain : PlainWords (up_words up) = (up-plain, (place-plain up.place, (decimal-plain up.session, (hex-plain up.body, tt)))) in
    record {
      sents = has-other (codes "sent ") (up_words up) plain refl;
      ups = has-one (codes "up ") (up_words up) plain refl;
      joins = has-other (codes "join ") (up_words up) plain refl;
      notes = has-other (codes "note ") (up_words up) plain refl;
      ends = has-other (codes "end ") (up_words up) plain refl;
    }

abbrev only_join : JoinAt → Told
only_join j = record { sents = []; ups = []; joins = join_text j ∷ []; notes = []; ends = [] }

join-has : (j : JoinAt) → HasLines (join_line j) (only_join j)
join-has j =
    let plain : PlainWords (join_words j) = (joining-plain, (place-plain j.place, (join-plain j.answer, whole-plain j.answer))) in
    record {
      sents = has-other (codes "sent ") (join_words j) plain refl;
      ups = has-other (codes "up ") (join_words j) plain refl;
      joins = has-one (codes "join ") (join_words j) plain refl;
      notes = has-other (codes "note ") (join_words j) plain refl;
      ends = has-other (codes "end ") (join_words j) plain refl;
    }

abbrev only_note : NoteAt → Told
only_note n = record { sents = []; ups = []; joins = []; notes = note_text n ∷ []; ends = [] }

note-has : (n : NoteAt) → HasLines (note_line n) (only_note n)
note-has n =
    let plain : PlainWords (note_words n) = (noting-plain, (place-plain n.place, (gate-name-plain n.note, gate-details-plain n.note))) in
    record {
      sents = has-other (codes "sent ") (note_words n) plain refl;
      ups = has-other (codes "up ") (note_words n) plain refl;
      joins = has-other (codes "join ") (note_words n) plain refl;
      notes = has-one (codes "note ") (note_words n) plain refl;
      ends = has-other (codes "end ") (note_words n) plain refl;
    }

refused-line : (n : ℕ) (cause : List ℕ) → ended_part cause ≡ [] → HasLines (refused_line n cause) nothing
refused-line n cause plain = other-line (codes "refused" ∷ codes "line" ∷ decimal n ∷ cause ∷ [])
    (refusing-plain, (numbering-plain, (decimal-plain n, (plain, tt)))) refl refl refl refl refl

refusal-has : (n : ℕ) (fault : LineFault) → HasLines (refusal_line n fault) nothing
refusal-has n fault = refused-line n (word_of fault) (fault-plain fault)

after-drain-has : (n : ℕ) → HasLines (after_drain_line n) nothing
after-drain-has n = refused-line n (codes "AfterDrain") late-plain

abbrev only_end : ℕ → Told
only_end n = record { sents = []; ups = []; joins = []; notes = []; ends = spaced (end_words n) ∷ [] }

end-has : (n : ℕ) → HasLines (end_line n) (only_end n)
end-has n =
    let plain : PlainWords (end_words n) = (ending-plain, (decimal-plain n, tt)) in
    record {
      sents = has-other (codes "sent ") (end_words n) plain refl;
      ups = has-other (codes "up ") (end_words n) plain refl;
      joins = has-other (codes "join ") (end_words n) plain refl;
      notes = has-other (codes "note ") (end_words n) plain refl;
      ends = has-one (codes "end ") (end_words n) plain refl;
    }

all-sent : (k : ℕ) (sent : List SentFrom)
    → HasLines (sent_lines k sent) (record { sents = datagram_texts k sent; ups = []; joins = []; notes = []; ends = [] })
unfolding sent_lines datagram_texts
all-sent k [] = none-has
all-sent k (d ∷ sent) = both-have _ _ _ _ (sent-has k d) (all-sent (k + 1) sent)

all-ups : (ups : List UpAt) → HasLines (flat_map up_line ups) (record { sents = []; ups = map up_text ups; joins = []; notes = []; ends = [] })
all-ups [] = none-has
all-ups (up ∷ ups) =
    let both = both-have (up_line up) (flat_map up_line ups) _ _ (up-has up) (all-ups ups) in
    rw (flat_map-cons up_line up ups) both

all-joins : (joins : List JoinAt) → HasLines (flat_map join_line joins) (record { sents = []; ups = []; joins = map join_text joins; notes = []; ends = [] })
all-joins [] = none-has
all-joins (j ∷ joins) =
    let both = both-have (join_line j) (flat_map join_line joins) _ _ (join-has j) (all-joins joins) in
    rw (flat_map-cons join_line j joins) both

all-notes : (notes : List NoteAt) → HasLines (flat_map note_line notes) (record { sents = []; ups = []; joins = []; notes = map note_text notes; ends = [] })
all-notes [] = none-has
all-notes (n ∷ notes) =
    let both = both-have (note_line n) (flat_map note_line notes) _ _ (note-has n) (all-notes notes) in
    rw (flat_map-cons note_line n notes) both

-- what some effects tell, where so many datagrams were sent before
abbrev pub told_of : ℕ → List SentFrom → List UpAt → List JoinAt → List NoteAt → Told
told_of k sent ups joins notes = record {
  sents = datagram_texts k sent;
  ups = map up_text ups;
  joins = map join_text joins;
  notes = map note_text notes;
  ends = [];
}

effects-have : (k : ℕ) (e : PathEffectsValue) → HasLines (effects_text k e) (told_of k e.sent e.ups e.joins e.notes)
unfolding effects_text
effects-have k e =
    let last = both-have _ _ _ _ (all-joins e.joins) (all-notes e.notes) in
    let ups = both-have _ _ _ _ (all-ups e.ups) last in
    let all = both-have _ _ _ _ (all-sent k e.sent) ups in
    rw (append-nil (map up_text e.ups), append-nil (map join_text e.joins), append-nil (datagram_texts k e.sent)) at all

unsent-has : (end : PathEnd) (done : Result EngineStep SubmitFault) → HasLines (unless_sent end done) nothing
unsent-has end (Ok step) = none-has
unsent-has end (Err fault) = other-line (codes "refused" ∷ place_word (node_place end) ∷ submit_word (refusal_of fault) ∷ [])
    (refusing-plain, (place-plain (node_place end), (submit-plain fault, tt))) refl refl refl refl refl

not-there-has : (d : Option SentFrom) → HasLines (unless_there d) nothing
not-there-has None = other-line (codes "refused" ∷ codes "deliver" ∷ []) (refusing-plain, (delivering-plain, tt)) refl refl refl refl refl
not-there-has (Some d) = none-has

refused-has : (s : PathSetup) (w : Path) (event : PathEvent) → HasLines (refused_text s w event) nothing
refused-has s w (sends end block) = unsent-has end (sends_block s w end block)
refused-has s w (delivers k) = not-there-has (slice_get w.sent k)
refused-has s w (clock_shows now) = none-has

event-has : (s : PathSetup) (w : Path) (event : PathEvent)
    → HasLines (event_text s w event)
    (told_of (length w.sent) (path_step s w event).effects.sent (path_step s w event).effects.ups
    (path_step s w event).effects.joins (path_step s w event).effects.notes)
unfolding event_text
event-has s w event = both-have _ _ nothing _ (refused-has s w event) (effects-have _ (path_step s w event).effects)

-- ---- the lines of events

-- the datagrams that some events send
unfoldable pub sent_in : PathSetup → Path → List PathEvent → List SentFrom
sent_in s w [] = []
sent_in s w (event ∷ events) = (path_step s w event).effects.sent ++ sent_in s (path_step s w event).path events

pub all-sent-in : (s : PathSetup) (w : Path) (events : List PathEvent) → (path_run s w events).sent ≡ w.sent ++ sent_in s w events
unfolding path_run sent_in
all-sent-in s w [] = sym (append-nil w.sent)
all-sent-in s w (event ∷ events) =
    all-sent-in s (path_step s w event).path events
    ∙ (ap (λ (ds : List SentFrom). ds ++ sent_in s (path_step s w event).path events) (step-sends s w event)
    ∙ append_assoc w.sent (path_step s w event).effects.sent (sent_in s (path_step s w event).path events))

pub texts-of-more : (k : ℕ) (xs ys : List SentFrom) → datagram_texts k (xs ++ ys) ≡ datagram_texts k xs ++ datagram_texts (k + length xs) ys
unfolding datagram_texts
texts-of-more k [] ys = ap (λ (n : ℕ). datagram_texts n ys) (omega arith)
texts-of-more k (x ∷ xs) ys =
    ap (λ (ts : List (List ℕ)). spaced (sent_words k x.from (segment_octets x.segment)) ∷ ts)
    (texts-of-more (k + 1) xs ys
    ∙ ap (λ (n : ℕ). datagram_texts (k + 1) xs ++ datagram_texts n ys) (omega arith))

-- the datagrams of an event, and those of the events after it
texts-of-step : (s : PathSetup) (w : Path) (event : PathEvent) (events : List PathEvent)
    → datagram_texts (length w.sent) (path_step s w event).effects.sent
    ++ datagram_texts (length (path_step s w event).path.sent) (sent_in s (path_step s w event).path events)
    ≡ datagram_texts (length w.sent) (sent_in s w (event ∷ events))
unfolding sent_in
texts-of-step s w event events =
    ap (λ (n : ℕ). datagram_texts (length w.sent) (path_step s w event).effects.sent ++ datagram_texts n (sent_in s (path_step s w event).path events))
    (ap length (step-sends s w event) ∙ length-append w.sent (path_step s w event).effects.sent)
    ∙ sym (texts-of-more (length w.sent) (path_step s w event).effects.sent (sent_in s (path_step s w event).path events))

-- what some events tell
abbrev pub told_in : PathSetup → Path → List PathEvent → Told
told_in s w events = told_of (length w.sent) (sent_in s w events) (ups_in s w events) (joins_in s w events) (notes_in s w events)

none-told : (s : PathSetup) (w : Path) → HasLines [] (told_of (length w.sent) (sent_in s w []) [] [] [])
unfolding sent_in datagram_texts
none-told s w = none-has

pub events-have : (s : PathSetup) (w : Path) (events : List PathEvent) → HasLines (events_text s w events) (told_in s w events)
unfolding events_text ups_in joins_in notes_in
events-have s w [] = none-told s w
events-have s w (event ∷ events) =
    let both = both-have _ _ _ _ (event-has s w event) (events-have s (path_step s w event).path events) in
    rw (
      sym (texts-of-step s w event events),
      map-append up_text (path_step s w event).effects.ups (ups_in s (path_step s w event).path events),
      map-append join_text (path_step s w event).effects.joins (joins_in s (path_step s w event).path events),
      map-append note_text (path_step s w event).effects.notes (notes_in s (path_step s w event).path events),
    )
    both

-- ---- a drain, and what ends the text

-- what a drain tells, where there is one
abbrev pub told_if : Bool → PathSetup → Path → List PathEvent → Told
told_if drains s w made = record {
  sents = datagram_texts (length w.sent) (sent_in s w made);
  ups = map up_text (ups_in s w made);
  joins = map join_text (joins_in s w made);
  notes = map note_text (notes_in s w made);
  ends = end_texts drains (length made);
}

pub drained-have : (drains : Bool) (s : PathSetup) (w : Path) (made : List PathEvent) → DrainMakes drains s w made
    → HasLines (if_drained_text drains s w made) (told_if drains s w made)
unfolding ups_in joins_in notes_in sent_in datagram_texts
drained-have true s w made makes =
    let both = both-have _ _ _ _ (events-have s w made) (end-has (length made)) in
    rw (append-nil (datagram_texts (length w.sent) (sent_in s w made)), append-nil (map up_text (ups_in s w made)), append-nil (map join_text (joins_in s w made)), append-nil (map note_text (notes_in s w made))) at both
drained-have false s w made is = rw is none-has

refused-next : (over : Bool) (n : ℕ) (left : List (List ℕ)) (closing : List ℕ) → RefusesNext over n left closing → HasLines closing nothing
refused-next over n [] closing none = absurd none
refused-next true n (line ∷ left) closing (within, is) = rw is (after-drain-has n)
refused-next false n (line ∷ left) closing (within, (fault, said, is)) = rw is (refusal-has n fault)

pub closing-has : (longer : Bool) (s : PathSetup) (w : Path) (ending : Status) (over : Bool) (n : ℕ) (left : List (List ℕ)) (closing : List ℕ)
    → ClosesAs longer s w ending over n left closing → HasLines closing nothing
closing-has longer s w statuses.Done over n left closing closes = rw closes.2 none-has
closing-has longer s w statuses.Limit over n left closing closes = rw closes.1 none-has
closing-has longer s w statuses.Refused over n left closing closes = refused-next over n left closing closes
closing-has longer s w statuses.Usage over n left closing closes = absurd closes
closing-has longer s w statuses.ReadFault over n left closing closes = absurd closes
closing-has longer s w statuses.WriteFault over n left closing closes = absurd closes
closing-has longer s w statuses.Memory over n left closing closes = absurd closes

-- ---- events, and then more

-- what is told in order, event by event
module _ {X : Type 0} (text_of : X → List ℕ) (of_step : PathSetup → Path → PathEvent → List X)
    (all_in : PathSetup → Path → List PathEvent → List X)
    (none : (s : PathSetup) (w : Path) → all_in s w [] ≡ [])
    (more : (s : PathSetup) (w : Path) (event : PathEvent) (events : List PathEvent)
    → all_in s w (event ∷ events) ≡ of_step s w event ++ all_in s (path_step s w event).path events) where
  texts-append : (s : PathSetup) (w : Path) (xs ys : List PathEvent)
      → map text_of (all_in s w xs) ++ map text_of (all_in s (path_run s w xs) ys) ≡ map text_of (all_in s w (xs ++ ys))
  unfolding path_run
  texts-append s w [] ys = rw (none s w) refl
  texts-append s w (x ∷ xs) ys =
      rw (
        more s w x xs,
        more s w x (xs ++ ys),
        map-append text_of (of_step s w x) (all_in s (path_step s w x).path xs),
        map-append text_of (of_step s w x) (all_in s (path_step s w x).path (xs ++ ys)),
      )
      (append_assoc (map text_of (of_step s w x)) (map text_of (all_in s (path_step s w x).path xs))
      (map text_of (all_in s (path_run s (path_step s w x).path xs) ys))
      ∙ ap (λ ts. map text_of (of_step s w x) ++ ts) (texts-append s (path_step s w x).path xs ys))

pub ups-append : (s : PathSetup) (w : Path) (xs ys : List PathEvent)
    → map up_text (ups_in s w xs) ++ map up_text (ups_in s (path_run s w xs) ys) ≡ map up_text (ups_in s w (xs ++ ys))
unfolding ups_in
ups-append =
    texts-append up_text (λ s w event. (path_step s w event).effects.ups) ups_in (λ s w. refl) (λ s w event events. refl)

pub joins-append : (s : PathSetup) (w : Path) (xs ys : List PathEvent)
    → map join_text (joins_in s w xs) ++ map join_text (joins_in s (path_run s w xs) ys) ≡ map join_text (joins_in s w (xs ++ ys))
unfolding joins_in
joins-append =
    texts-append join_text (λ s w event. (path_step s w event).effects.joins) joins_in (λ s w. refl) (λ s w event events. refl)

pub notes-append : (s : PathSetup) (w : Path) (xs ys : List PathEvent)
    → map note_text (notes_in s w xs) ++ map note_text (notes_in s (path_run s w xs) ys) ≡ map note_text (notes_in s w (xs ++ ys))
unfolding notes_in
notes-append =
    texts-append note_text (λ s w event. (path_step s w event).effects.notes) notes_in (λ s w. refl) (λ s w event events. refl)

from-zero : (k : ℕ) → k ≡ 0 + k
from-zero k = omega arith

-- the datagrams of events, and of those after them, where none was sent before
pub sents-append : (s : PathSetup) (w : Path) (xs ys : List PathEvent) → w.sent ≡ []
    → datagram_texts (length w.sent) (sent_in s w xs) ++ datagram_texts (length (path_run s w xs).sent) (sent_in s (path_run s w xs) ys)
    ≡ datagram_texts 0 (path_run s w (xs ++ ys)).sent
sents-append s w xs ys none =
    let first : (path_run s w xs).sent ≡ sent_in s w xs =
    all-sent-in s w xs ∙ ap (λ (ds : List SentFrom). ds ++ sent_in s w xs) none in
    let all : (path_run s w (xs ++ ys)).sent ≡ sent_in s w xs ++ sent_in s (path_run s w xs) ys =
    ap (λ (x : Path). x.sent) (run-append s w xs ys)
    ∙ (all-sent-in s (path_run s w xs) ys ∙ ap (λ (ds : List SentFrom). ds ++ sent_in s (path_run s w xs) ys) first) in
    ap (λ (n : ℕ). datagram_texts n (sent_in s w xs) ++ datagram_texts (length (path_run s w xs).sent) (sent_in s (path_run s w xs) ys)) (ap length none)
    ∙ (ap (λ (ds : List SentFrom). datagram_texts 0 (sent_in s w xs) ++ datagram_texts (length ds) (sent_in s (path_run s w xs) ys)) first
    ∙ (ap (λ (n : ℕ). datagram_texts 0 (sent_in s w xs) ++ datagram_texts n (sent_in s (path_run s w xs) ys)) (from-zero (length (sent_in s w xs)))
    ∙ (sym (texts-of-more 0 (sent_in s w xs) (sent_in s (path_run s w xs) ys)) ∙ ap (λ (ds : List SentFrom). datagram_texts 0 ds) (sym all))))
