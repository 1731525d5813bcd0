-- The lines that `world` writes about what happens on a path.
use Rattle.std.specs.Prelude.{ℕ, ◌+◌, List, [], ◌∷◌, ◌++◌, codes}
use Rattle.std.specs.List.{flat_map}
use Rattle.std.specs.Fmt.{decimal}
use Rattle.hex_text.specs.Hex.{encode_lower}
use Rattle.ltp_segment.specs.Spelling.{segment_octets}
use Rattle.ltp_session.specs.Engine.{SubmitFault}
use Rattle.ltp_engine.specs.Refused.{submit_word, refusal_of}
use Rattle.replay_script.specs.declared.line.Route.{Route}
use Rattle.replay_script.specs.declared.line.Route.TheVariants as routes
use Rattle.replay_script.specs.declared.line.Site.{Site}
use Rattle.replay_script.specs.declared.line.Site.TheVariants as sites
use Rattle.replay_script.specs.declared.fault.LineFault.{LineFault}
use Rattle.replay_script.specs.Fault.{word_of}
use Rattle.replay_script.specs.Lines.{route_word, site_word}
use Rattle.replay_script.specs.NoteLines.{line_of}
use Rattle.gate_lines.specs.GateLines.{gate_details}
use Rattle.gateway_core.specs.Notes.{gate_note_name}
use Rattle.path_laws.specs.declared.effects.EndJoin.{EndJoin}
use Rattle.path_laws.specs.declared.effects.EndJoin.TheVariants as told
use Rattle.path_laws.specs.declared.effects.JoinAt.{JoinAt}
use Rattle.path_laws.specs.declared.effects.NoteAt.{NoteAt}
use Rattle.path_laws.specs.declared.effects.UpAt.{UpAt}
use Rattle.path_laws.specs.declared.places.Place.{Place}
use Rattle.path_laws.specs.declared.places.Place.TheVariants as places
use Rattle.path_laws.specs.Path.{SentFrom, PathEffectsValue}
use Rattle.path_laws.specs.Words.{join_word}

-- how a line names a place: `o`, `g.o`, `g.n` or `n`
abbrev pub site_of : Place → Site
site_of places.OldNode = sites.OldNode
site_of places.OldFace = sites.GateOld
site_of places.NewFace = sites.GateNew
site_of places.NewNode = sites.NewNode

abbrev pub place_word : Place → List ℕ
place_word place = site_word (site_of place)

-- which way a datagram goes that a place sends: `o>g`, `g>o`, `g>n` or `n>g`
abbrev pub route_of : Place → Route
route_of places.OldNode = routes.OldGate
route_of places.OldFace = routes.GateOld
route_of places.NewFace = routes.GateNew
route_of places.NewNode = routes.NewGate

-- ---- what is done

-- the words of a line about a datagram, the k-th of all that were sent, from 0
abbrev pub sent_words : ℕ → Place → List ℕ → List (List ℕ)
sent_words k from datagram =
    codes "sent" ∷ decimal k ∷ route_word (route_of from) ∷ encode_lower datagram ∷ []

-- the words of a line about a block that came whole
abbrev pub up_words : UpAt → List (List ℕ)
up_words up = codes "up" ∷ place_word up.place ∷ decimal up.session ∷ encode_lower up.body ∷ []

-- the octets of a whole, as a word
abbrev pub whole_word : EndJoin → List (List ℕ)
whole_word told.Waiting = []
whole_word told.Repeat = []
whole_word (told.Whole body) = encode_lower body ∷ []
whole_word told.TooLarge = []
whole_word told.TotalDiffers = []
whole_word told.Full = []

abbrev pub sent_line : ℕ → SentFrom → List ℕ
sent_line k d = line_of (sent_words k d.from (segment_octets d.segment))

abbrev pub up_line : UpAt → List ℕ
up_line up = line_of (up_words up)

-- the words of a line about what an end's joiner answers
abbrev pub join_words : JoinAt → List (List ℕ)
join_words j = codes "join" ∷ place_word j.place ∷ join_word j.answer ∷ whole_word j.answer

abbrev pub join_line : JoinAt → List ℕ
join_line j = line_of (join_words j)

-- the words of a note
abbrev pub note_words : NoteAt → List (List ℕ)
note_words n = codes "note" ∷ place_word n.place ∷ gate_note_name n.note ∷ gate_details n.note

abbrev pub note_line : NoteAt → List ℕ
note_line n = line_of (note_words n)

-- datagrams, where so many were sent before them
unfoldable pub sent_lines : ℕ → List SentFrom → List ℕ
sent_lines k [] = []
sent_lines k (d ∷ sent) = sent_line k d ++ sent_lines (k + 1) sent

-- what was done, where so many datagrams were sent before it: datagrams, blocks that came whole,
-- answers of joiners, and notes
unfoldable pub effects_text : ℕ → PathEffectsValue → List ℕ
effects_text k e =
    sent_lines k e.sent
    ++ (flat_map up_line e.ups ++ (flat_map join_line e.joins ++ flat_map note_line e.notes))

-- ---- what isn't done

-- a place doesn't send a block, for this cause
abbrev pub send_refusal : Place → SubmitFault → List ℕ
send_refusal place fault =
    line_of (codes "refused" ∷ place_word place ∷ submit_word (refusal_of fault) ∷ [])

-- there is no datagram of this number
abbrev pub deliver_refusal : List ℕ
deliver_refusal = line_of (codes "refused" ∷ codes "deliver" ∷ [])

-- line n is refused, for this cause
abbrev pub refused_line : ℕ → List ℕ → List ℕ
refused_line n cause = line_of (codes "refused" ∷ codes "line" ∷ decimal n ∷ cause ∷ [])

-- it is refused for what it says
abbrev pub refusal_line : ℕ → LineFault → List ℕ
refusal_line n fault = refused_line n (word_of fault)

-- it is refused since it stands after `drain`, whatever it says
abbrev pub after_drain_line : ℕ → List ℕ
after_drain_line n = refused_line n (codes "AfterDrain")

-- ---- a drain

-- the words of a line that says that a drain ended after so many events
abbrev pub end_words : ℕ → List (List ℕ)
end_words n = codes "end" ∷ decimal n ∷ []

abbrev pub end_line : ℕ → List ℕ
end_line n = line_of (end_words n)
