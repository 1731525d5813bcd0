-- The `up` lines of a text are those of the red parts that are handed up, and its notes those of the
-- engines.

use Rattle.std.proofs.Common.{◌≡◌, ℕ, ◌+◌, Bool, true, false, List, [], ◌∷◌, ◌++◌, length, map, codes, Option, None, Some, refl, sym, ap, ◌∙◌, append_assoc, nat_le, nat_lt, if◌then◌else◌}
use Rattle.std.proofs.lemmas.List.{append-nil, map-append}
use Rattle.std.proofs.lemmas.List.Concat.{flat_map-cons}
use Rattle.std.specs.List.{flat_map, slice_get}
use Rattle.std.specs.Fmt.{decimal}
use Rattle.std.specs.Option.{option_map}
use Rattle.hex.specs.Hex.{encode_lower}
use Rattle.command_frame.specs.InputLines.{ended_part}
use Rattle.endpoint.specs.Endpoints.{begins}
use Rattle.ltp_segment.specs.declared.session.Note.{Note}
use Rattle.ltp_segment.specs.Notes.{note_name}
use Rattle.ltp_session.specs.Engine.{Party, Reply, SubmitFault, UpValue, arrives, datagram_step, list_of, replied_or_stranger, submit_fault, submit_step, submits, submits_unless, tick_step}
use Rattle.ltp_session.specs.World.{End as LinkEnd}
use Rattle.ltp_session.specs.World.{Event, Sent as LinkSent, World, at_end, clock, deliver, first_end, happens, other, run, second_end, submit}
use Rattle.ltp_laws.specs.HandUps.{up_of as reply_up}
use Rattle.ltp_laws.specs.Log.{hand_up_of, hand_ups, hand_ups_at, hand_ups_by}
use Rattle.ltp_drain.specs.Effects.{deliver_effects, effects_at, effects_in, submit_effects}
use Rattle.ltp_drain.specs.Effects.{EndEffects as LinkEffects}
use Rattle.ltp_engine.specs.Effects.{up_of}
use Rattle.ltp_world.specs.declared.effects.EndEffects.{EndEffects}
use Rattle.ltp_world.specs.declared.ends.End.{End}
use Rattle.ltp_world.specs.Drain.{told_of}
use Rattle.ltp_world.specs.Ends.{named}
use Rattle.replay_script.specs.NoteLines.{line_of, note_details, note_line}
use Rattle.replay_script.specs.declared.fault.LineFault.{LineFault}
use Rattle.replay_script.specs.Fault.{word_of}
use Rattle.replay_script.specs.Lines.{route_word}
use Rattle.replay_script.specs.Words.{spaced}
use Rattle.node_run.proofs.PlainLemmas.{PlainWords, decimal-plain, details-plain, fault-plain, hex-plain, name-plain}
use Rattle.node_run.proofs.TextLineLemmas.{Has, has-both, has-one, has-other}
use Rattle.link_run.specs.WrittenLines.{closed_refusal, deliver_refusal, end_word, note_lines, out_lines, refusal_line, refused_line, route_of, send_refusal, sent_line, sent_lines, site_of, told_text, up_line, up_lines}
use Rattle.link_run.specs.Law.{note_text, notes_of, up_text}
use Rattle.link_run.proofs.PlainLemmas.{end-plain, route-plain}

-- ---- the two kinds of lines that are told apart

-- of red parts, of notes, and of ends of drains, by themselves and by the plan
pub record Told : Type 0 where
  pub ups : List (List ℕ)
  pub notes : List (List ℕ)
  pub ends : List (List ℕ)
  pub stops : List (List ℕ)

abbrev pub nothing : Told
nothing = record { ups = []; notes = []; ends = []; stops = [] }

abbrev pub and_then : Told → Told → Told
and_then a b = record { ups = a.ups ++ b.ups; notes = a.notes ++ b.notes; ends = a.ends ++ b.ends; stops = a.stops ++ b.stops }

-- the lines of a text are these
pub record HasLines (text : List ℕ) (told : Told) : Type 0 where
  pub ups : Has (codes "up ") text told.ups
  pub notes : Has (codes "note ") text told.notes
  pub ends : Has (codes "end ") text told.ends
  pub stops : Has (codes "stop ") text told.stops

pub none-has : HasLines [] nothing
none-has = record { ups = λ rest. refl; notes = λ rest. refl; ends = λ rest. refl; stops = λ rest. refl }

pub both-have : (first more : List ℕ) (a b : Told) → HasLines first a → HasLines more b → HasLines (first ++ more) (and_then a b)
both-have first more a b has have = record {
  ups = has-both (codes "up ") first more a.ups b.ups has.ups have.ups;
  notes = has-both (codes "note ") first more a.notes b.notes has.notes have.notes;
  ends = has-both (codes "end ") first more a.ends b.ends has.ends have.ends;
  stops = has-both (codes "stop ") first more a.stops b.stops has.stops have.stops;
}

pub other-line : (words : List (List ℕ)) → PlainWords words → begins (codes "up ") (spaced words) ≡ false
    → begins (codes "note ") (spaced words) ≡ false → begins (codes "end ") (spaced words) ≡ false
    → begins (codes "stop ") (spaced words) ≡ false → HasLines (line_of words) nothing
other-line words plain up note end stop = record {
  ups = has-other (codes "up ") words plain up;
  notes = has-other (codes "note ") words plain note;
  ends = has-other (codes "end ") words plain end;
  stops = has-other (codes "stop ") words plain stop;
}

-- a text in which a drain ends tells its lines too
abbrev pub with_ends : Told → List (List ℕ) → List (List ℕ) → Told
with_ends a ends stops = record { ups = a.ups; notes = a.notes; ends = ends; stops = stops }

pub end-line-has : (words : List (List ℕ)) → PlainWords words → begins (codes "up ") (spaced words) ≡ false
    → begins (codes "note ") (spaced words) ≡ false → begins (codes "end ") (spaced words) ≡ true
    → begins (codes "stop ") (spaced words) ≡ false → HasLines (line_of words) (with_ends nothing (spaced words ∷ []) [])
end-line-has words plain up note end stop = record {
  ups = has-other (codes "up ") words plain up;
  notes = has-other (codes "note ") words plain note;
  ends = has-one (codes "end ") words plain end;
  stops = has-other (codes "stop ") words plain stop;
}

pub stop-line-has : (words : List (List ℕ)) → PlainWords words → begins (codes "up ") (spaced words) ≡ false
    → begins (codes "note ") (spaced words) ≡ false → begins (codes "end ") (spaced words) ≡ false
    → begins (codes "stop ") (spaced words) ≡ true → HasLines (line_of words) (with_ends nothing [] (spaced words ∷ []))
stop-line-has words plain up note end stop = record {
  ups = has-other (codes "up ") words plain up;
  notes = has-other (codes "note ") words plain note;
  ends = has-other (codes "end ") words plain end;
  stops = has-one (codes "stop ") words plain stop;
}

-- ---- words

sent-plain : ended_part (codes "sent") ≡ []
unfolding ended_part
sent-plain = refl

up-plain : ended_part (codes "up") ≡ []
unfolding ended_part
up-plain = refl

noting-plain : ended_part (codes "note") ≡ []
unfolding ended_part
noting-plain = refl

pub refusing-plain : ended_part (codes "refused") ≡ []
unfolding ended_part
refusing-plain = refl

delivering-plain : ended_part (codes "deliver") ≡ []
unfolding ended_part
delivering-plain = refl

closing-plain : ended_part (codes "closed") ≡ []
unfolding ended_part
closing-plain = refl

numbering-plain : ended_part (codes "line") ≡ []
unfolding ended_part
numbering-plain = refl

pub late-plain : ended_part (codes "AfterDrain") ≡ []
unfolding ended_part
late-plain = refl

pub window-plain : ended_part (codes "Window") ≡ []
unfolding ended_part
window-plain = refl

pub shut-plain : ended_part (codes "Closed") ≡ []
unfolding ended_part
shut-plain = refl

-- ---- lines of which none is of these kinds

pub refused-has : (n : ℕ) (cause : List ℕ) → ended_part cause ≡ [] → HasLines (refused_line n cause) nothing
refused-has n cause plain = other-line (codes "refused" ∷ codes "line" ∷ decimal n ∷ cause ∷ [])
    (refusing-plain, (numbering-plain, (decimal-plain n, (plain, tt)))) refl refl refl refl

pub refusal-has : (n : ℕ) (fault : LineFault) → HasLines (refusal_line n fault) nothing
refusal-has n fault = refused-has n (word_of fault) (fault-plain fault)

pub unsent-has : (end : End) (cause : List ℕ) → ended_part cause ≡ [] → HasLines (send_refusal end cause) nothing
unsent-has end cause plain = other-line (codes "refused" ∷ end_word end ∷ cause ∷ []) (refusing-plain, (end-plain end, (plain, tt))) refl refl refl refl

pub undelivered-has : HasLines deliver_refusal nothing
undelivered-has = other-line (codes "refused" ∷ codes "deliver" ∷ []) (refusing-plain, (delivering-plain, tt)) refl refl refl refl

pub closed-has : HasLines closed_refusal nothing
closed-has = other-line (codes "refused" ∷ codes "closed" ∷ []) (refusing-plain, (closing-plain, tt)) refl refl refl refl

out-has : (k : ℕ) (end : End) (datagrams : List (List ℕ)) → HasLines (out_lines k end datagrams) nothing
unfolding out_lines
out-has k end [] = none-has
out-has k end (d ∷ ds) =
    both-have (sent_line k end d) (out_lines (k + 1) end ds) nothing nothing
    (other-line (codes "sent" ∷ decimal k ∷ route_word (route_of end) ∷ encode_lower d ∷ [])
    (sent-plain, (decimal-plain k, (route-plain end, (hex-plain d, tt)))) refl refl refl refl) (out-has (k + 1) end ds)

sent-has : (k : ℕ) (tolds : List EndEffects) → HasLines (sent_lines k tolds) nothing
unfolding sent_lines
sent-has k [] = none-has
sent-has k (told ∷ tolds) =
    both-have (out_lines k told.end told.effects.out) (sent_lines (k + length told.effects.out) tolds) nothing nothing
    (out-has k told.end told.effects.out) (sent-has (k + length told.effects.out) tolds)

-- ---- red parts

abbrev up_value : ℕ → List ℕ → UpValue
up_value n body = record { session = n; body = body }

-- the line of a red part that an end hands up
abbrev up_words : LinkEnd → UpValue → List ℕ
up_words end up = spaced (codes "up" ∷ end_word (named end) ∷ decimal up.session ∷ encode_lower up.body ∷ [])

abbrev of_ups : List (List ℕ) → Told
of_ups lines = record { ups = lines; notes = []; ends = []; stops = [] }

up-has : (end : LinkEnd) (up : UpValue) → HasLines (up_line (named end) (up_of up)) (of_ups (up_words end up ∷ []))
up-has end up =
    let words : List (List ℕ) = codes "up" ∷ end_word (named end) ∷ decimal up.session ∷ encode_lower up.body ∷ [] in
    let plain : PlainWords (codes "up" ∷ end_word (named end) ∷ decimal up.session ∷ encode_lower up.body ∷ []) =
    (up-plain, (end-plain (named end), (decimal-plain up.session, (hex-plain up.body, tt)))) in
    record {
      ups = has-one (codes "up ") words plain refl;
      notes = has-other (codes "note ") words plain refl;
      ends = has-other (codes "end ") words plain refl;
      stops = has-other (codes "stop ") words plain refl;
    }

ups-have : (end : LinkEnd) (ups : List UpValue) → HasLines (flat_map (up_line (named end)) (map up_of ups)) (of_ups (map (up_words end) ups))
ups-have end [] = none-has
ups-have end (up ∷ ups) =
    let both = both-have (up_line (named end) (up_of up)) (flat_map (up_line (named end)) (map up_of ups)) _ _ (up-has end up) (ups-have end ups) in
    rw (flat_map-cons (up_line (named end)) (up_of up) (map up_of ups)) both

-- of all ends
abbrev pub up_texts : LinkEffects → List (List ℕ)
up_texts e = map (up_words e.end) e.effects.ups

all-ups : (es : List LinkEffects) → HasLines (flat_map up_lines (map told_of es)) (of_ups (flat_map up_texts es))
all-ups [] = none-has
all-ups (e ∷ es) =
    let both = both-have (up_lines (told_of e)) (flat_map up_lines (map told_of es)) _ _ (ups-have e.end e.effects.ups) (all-ups es) in
    rw (flat_map-cons up_lines (told_of e) (map told_of es), flat_map-cons up_texts e es) both

-- ---- notes

abbrev of_notes : List (List ℕ) → Told
of_notes lines = record { ups = []; notes = lines; ends = []; stops = [] }

note-has : (end : LinkEnd) (note : Note) → HasLines (note_line (Some (site_of (named end))) note) (of_notes (note_text (end, note) ∷ []))
note-has end note =
    let words : List (List ℕ) = codes "note" ∷ end_word (named end) ∷ note_name note ∷ note_details note in
    let plain : PlainWords (codes "note" ∷ end_word (named end) ∷ note_name note ∷ note_details note) =
    (noting-plain, (end-plain (named end), (name-plain note, details-plain note))) in
    record {
      ups = has-other (codes "up ") words plain refl;
      notes = has-one (codes "note ") words plain refl;
      ends = has-other (codes "end ") words plain refl;
      stops = has-other (codes "stop ") words plain refl;
    }

notes-have : (end : LinkEnd) (notes : List Note)
    → HasLines (flat_map (note_line (Some (site_of (named end)))) notes) (of_notes (map note_text (map (λ note. (end, note)) notes)))
notes-have end [] = none-has
notes-have end (note ∷ notes) =
    let both = both-have (note_line (Some (site_of (named end))) note) (flat_map (note_line (Some (site_of (named end)))) notes) _ _ (note-has end note) (notes-have end notes) in
    rw (flat_map-cons (note_line (Some (site_of (named end)))) note notes) both

all-notes : (es : List LinkEffects) → HasLines (flat_map note_lines (map told_of es)) (of_notes (map note_text (flat_map notes_of es)))
all-notes [] = none-has
all-notes (e ∷ es) =
    let both = both-have (note_lines (told_of e)) (flat_map note_lines (map told_of es)) _ _ (notes-have e.end e.effects.notes) (all-notes es) in
    rw (
      flat_map-cons note_lines (told_of e) (map told_of es),
      flat_map-cons notes_of e es,
      map-append note_text (notes_of e) (flat_map notes_of es),
    )
    both

-- ---- an event

effects-have : (k : ℕ) (es : List LinkEffects)
    → HasLines (told_text k (map told_of es)) (record { ups = flat_map up_texts es; notes = map note_text (flat_map notes_of es); ends = []; stops = [] })
effects-have k es =
    let last = both-have _ _ _ _ (all-ups es) (all-notes es) in
    let all = both-have _ _ nothing _ (sent-has k (map told_of es)) last in
    rw (append-nil (flat_map up_texts es)) at all

one-up : (d : LinkSent) (up : Option (List ℕ)) → map (up_words (other d.from)) (list_of (option_map (λ body. up_value (d.segment).session body) up)) ≡ map up_text (hand_up_of d up)
one-up d None = refl
one-up d (Some body) = refl

deliver-ups : (parties : Party × Party) (w : World) (got : Option LinkSent)
    → flat_map up_texts (deliver_effects parties w got) ≡ map up_text (hand_ups_by parties w got)
unfolding datagram_step
deliver-ups parties w None = refl
deliver-ups parties w (Some d) =
    by_reply (arrives (at_end parties (other d.from)) (at_end w.engines (other d.from)) d.segment w.now)
  where
    by_reply : (reply : Option Reply)
        → map (up_words (other d.from)) (replied_or_stranger (at_end w.engines (other d.from))
        (record { originator = d.segment.originator; number = d.segment.session }) reply).effects.ups ++ []
        ≡ map up_text (hand_up_of d (reply_up reply))
    by_reply None = refl
    by_reply (Some reply) = append-nil _ ∙ one-up d reply.up

submit-ups : (parties : Party × Party) (w : World) (end : LinkEnd) (block : List ℕ) (red : ℕ)
    → flat_map up_texts (submit_effects end (submit_step (at_end parties end) (at_end w.engines end) (submits (at_end parties end) (at_end w.engines end) block red w.now))) ≡ []
unfolding submits
submit-ups parties w end block red = by_fault (submit_fault (at_end parties end) (at_end w.engines end) block)
  where
    by_fault : (fault : Option SubmitFault)
        → flat_map up_texts (submit_effects end (submit_step (at_end parties end) (at_end w.engines end)
        (submits_unless fault (at_end parties end) (at_end w.engines end) block red w.now))) ≡ []
    by_fault None = refl
    by_fault (Some fault) = refl

event-ups : (parties : Party × Party) (w : World) (event : Event) → flat_map up_texts (effects_at parties w event) ≡ map up_text (hand_ups_at parties w event)
unfolding tick_step
event-ups parties w (submit end block red) = by_test (nat_le red (length block))
  where
    by_test : (b : Bool) → flat_map up_texts (if b then submit_effects end (submit_step (at_end parties end) (at_end w.engines end)
        (submits (at_end parties end) (at_end w.engines end) block red w.now)) else []) ≡ []
    by_test true = submit-ups parties w end block red
    by_test false = refl
event-ups parties w (deliver k) = deliver-ups parties w (slice_get w.sent k)
event-ups parties w (clock now) = by_test (nat_lt now w.now)
  where
    by_test : (b : Bool) → flat_map up_texts (if b then [] else
        record { end = first_end; effects = (tick_step parties.0 w.engines.0 now).effects }
        ∷ record { end = second_end; effects = (tick_step parties.1 w.engines.1 now).effects } ∷ []) ≡ []
    by_test true = refl
    by_test false = refl

-- what some events tell
abbrev pub told_in : Party × Party → World → List Event → Told
told_in parties w events = record {
  ups = map up_text (hand_ups parties w events);
  notes = map note_text (flat_map notes_of (effects_in parties w events));
  ends = [];
  stops = [];
}

-- what one event does
abbrev pub told_at : Party × Party → World → Event → Told
told_at parties w event = record {
  ups = map up_text (hand_ups_at parties w event);
  notes = map note_text (flat_map notes_of (effects_at parties w event));
  ends = [];
  stops = [];
}

pub event-has : (parties : Party × Party) (w : World) (event : Event) (k : ℕ)
    → HasLines (told_text k (map told_of (effects_at parties w event))) (told_at parties w event)
event-has parties w event k = rw (← event-ups parties w event) (effects-have k (effects_at parties w event))

-- ---- events, one after the other

flat-append : {X Y : Type 0} (f : X → List Y) (xs ys : List X) → flat_map f (xs ++ ys) ≡ flat_map f xs ++ flat_map f ys
flat-append f [] ys = refl
flat-append f (x ∷ xs) ys =
    rw (flat_map-cons f x (xs ++ ys), flat_map-cons f x xs, flat-append f xs ys) (sym (append_assoc (f x) (flat_map f xs) (flat_map f ys)))

pub told-more : (parties : Party × Party) (w : World) (event : Event) (events : List Event)
    → told_in parties w (event ∷ events) ≡ and_then (told_at parties w event) (told_in parties (happens parties w event) events)
unfolding hand_ups effects_in
told-more parties w event events =
    rw (
      map-append up_text (hand_ups_at parties w event) (hand_ups parties (happens parties w event) events),
      flat-append notes_of (effects_at parties w event) (effects_in parties (happens parties w event) events),
      map-append note_text (flat_map notes_of (effects_at parties w event)) (flat_map notes_of (effects_in parties (happens parties w event) events)),
    )
    refl

pub told-none : (parties : Party × Party) (w : World) → told_in parties w [] ≡ nothing
unfolding hand_ups effects_in
told-none parties w = refl

pub told-append : (parties : Party × Party) (w : World) (xs ys : List Event)
    → told_in parties w (xs ++ ys) ≡ and_then (told_in parties w xs) (told_in parties (run parties w xs) ys)
told-append parties w [] ys = ap (λ a. and_then a (told_in parties w ys)) (sym (told-none parties w))
told-append parties w (x ∷ xs) ys =
    told-more parties w x (xs ++ ys)
    ∙ (ap (and_then (told_at parties w x)) (told-append parties (happens parties w x) xs ys)
    ∙ (assoc (told_at parties w x) (told_in parties (happens parties w x) xs) (told_in parties (run parties (happens parties w x) xs) ys)
    ∙ ap (λ a. and_then a (told_in parties (run parties (happens parties w x) xs) ys)) (sym (told-more parties w x xs))))
  where
    assoc : (a b c : Told) → and_then a (and_then b c) ≡ and_then (and_then a b) c
    assoc a b c = rw (
      sym (append_assoc a.ups b.ups c.ups),
      sym (append_assoc a.notes b.notes c.notes),
      sym (append_assoc a.ends b.ends c.ends),
      sym (append_assoc a.stops b.stops c.stops),
    ) refl

-- ---- by themselves

pub then-nothing : (a : Told) → and_then a nothing ≡ a
then-nothing a = rw (append-nil a.ups, append-nil a.notes, append-nil a.ends, append-nil a.stops) refl

pub told-one : (parties : Party × Party) (w : World) (event : Event) → told_in parties w (event ∷ []) ≡ told_at parties w event
told-one parties w event =
    told-more parties w event [] ∙ (ap (and_then (told_at parties w event)) (told-none parties (happens parties w event)) ∙ then-nothing (told_at parties w event))
