use Rattle.std.proofs.Common.{◌≡◌, ◌∙◌, refl, sym, true, length}
use Rattle.ltp_segment.specs.declared.session.TheConstants.{BLOCK_MAX}
use Rattle.receive_run.specs.KeptSessions.{session_in}
use Rattle.receive_run.specs.Session.{handed_up, open_part, is_out_of_bounds}
use Rattle.receive_run.specs.Views.{named_piece, red_piece}
use Rattle.receive_run.proofs.SessionsLemmas.{found_handed_up, handed_up_of, found_entry, found_open, lacks_first, shows_same, others_of, open-out, first-taken, open-taken, OnErr-by, OnErr-always}
use Rattle.receive_run.proofs.sessions.meet.Goals as goal

pub returns-in-HandedUp-clause-met : goal.returns-in-HandedUp-clause-met
returns-in-HandedUp-clause-met c = λ kept shows few.
    let test = sym c.find.ensures ∙ c.in-HandedUp.is in
    let stands = shows.each c.args.piece.now.name in
    rw (found_handed_up _ (session_in c.args.piece.now.name kept) BLOCK_MAX (named_piece c.args.piece.now) stands test)
    (refl, shows_same c.args.sessions.now kept _ handed_up shows (handed_up_of _ _ stands test))

pub returns-in-Fresh-clause-met : goal.returns-in-Fresh-clause-met
returns-in-Fresh-clause-met c = λ kept shows few.
    c.meet_first.ensures.met kept (lacks_first c.args.sessions.now kept _ shows (sym c.find.ensures ∙ c.in-Fresh.is)) few

pub returns-in-Fresh-clause-memory : goal.returns-in-Fresh-clause-memory
returns-in-Fresh-clause-memory c = λ kept shows.
    let lacks = lacks_first c.args.sessions.now kept _ shows (sym c.find.ensures ∙ c.in-Fresh.is) in
    OnErr-by c.meet_first.result
    (λ inside. first-taken (session_in c.args.piece.now.name kept) (named_piece c.args.piece.now) lacks.first inside)
    c.meet_first.ensures.memory

pub returns-then-is_out_of_bounds-clause-met : goal.returns-then-is_out_of_bounds-clause-met
returns-then-is_out_of_bounds-clause-met c = λ kept shows few.
    let found = found_open _ (session_in c.args.piece.now.name kept) c.in-Open.reach c.in-Open.length
    (shows.each c.args.piece.now.name) (sym c.find.ensures ∙ c.in-Open.is) in
    let test : is_out_of_bounds BLOCK_MAX (length found.cells) found.known (red_piece c.args.piece.now) ≡ true =
    rw (← found.reach_is, ← found.length_is) (sym c.is_out_of_bounds.ensures ∙ c.if-is_out_of_bounds.true) in
    rw (open-out _ (named_piece c.args.piece.now) found.cells found.known found.is_open test)
    (refl, shows_same c.args.sessions.now kept _ (open_part found.cells found.known) shows found.is_open)

pub returns-in-Some-Open-clause-met : goal.returns-in-Some-Open-clause-met
returns-in-Some-Open-clause-met c = λ kept shows few.
    let found = found_entry _ _ _ (sym c.in-Some-Open.ensures.value) (shows.each c.args.piece.now.name) in
    let (cells, known, is, stands) = rw c.in-Some-Open.field-0-is at found in
    c.meet_open.ensures kept cells known (record {
      others = others_of c.args.sessions.now _ kept _ c.in-Some-Open.ensures.updates.0 refl shows;
      is_open = is;
      stands = stands;
    })

pub returns-in-Some-Open-clause-memory : goal.returns-in-Some-Open-clause-memory
returns-in-Some-Open-clause-memory c = λ kept shows.
    let found = found_open _ (session_in c.args.piece.now.name kept) c.in-Open.reach c.in-Open.length
    (shows.each c.args.piece.now.name) (sym c.find.ensures ∙ c.in-Open.is) in
    OnErr-always c.meet_open.result
    (open-taken _ (named_piece c.args.piece.now) c.in-Open.reach c.in-Open.length found
    (sym c.is_out_of_bounds.ensures ∙ c.if-is_out_of_bounds.false))
