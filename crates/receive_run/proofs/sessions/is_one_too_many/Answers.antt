use Rattle.std.proofs.Common.{◌≡◌, ◌≤◌, ◌<◌, ◌∙◌, refl, sym, ap, arith}
use Rattle.ltp_segment.specs.declared.session.TheConstants.{BLOCK_MAX}
use Rattle.receive_run.specs.KeptSessions.{session_in, unfinished}
use Rattle.receive_run.specs.Session.{Session, fresh, handed_up, meets}
use Rattle.receive_run.specs.Views.{named_piece}
use Rattle.receive_run.proofs.SessionsLemmas.{found_handed_up, found_open, lacks_first, fewer_too_many, fresh_too_many, open_too_many, none_too_many}
use Rattle.receive_run.proofs.sessions.is_one_too_many.Goals as goal

pub returns-then-sessions-most : goal.returns-then-sessions-most
returns-then-sessions-most c = λ kept shows low.
    let few : unfinished kept < c.args.most = rw shows.count at c.if-sessions-most.true in
    sym (fewer_too_many c.args.most kept c.args.piece.now.name _ few)

pub returns-in-Fresh : goal.returns-in-Fresh
returns-in-Fresh c = λ kept shows low.
    let lacks = lacks_first c.args.sessions.now kept _ shows (sym c.find.ensures ∙ c.in-Fresh.is) in
    let full : unfinished kept ≡ c.args.most = omega (arith, low, shows.count, c.if-sessions-most.false) in
    let same : meets BLOCK_MAX (session_in c.args.piece.now.name kept) (named_piece c.args.piece.now) ≡ meets BLOCK_MAX fresh (named_piece c.args.piece.now) =
    ap (λ (s : Session). meets BLOCK_MAX s (named_piece c.args.piece.now)) lacks.first in
    rw same (c.opens.ensures ∙ sym (fresh_too_many c.args.most kept c.args.piece.now.name _ full lacks.first))

pub returns-in-Open : goal.returns-in-Open
returns-in-Open c = λ kept shows low.
    let few : unfinished kept ≤ c.args.most = rw shows.count at low in
    let found = found_open _ (session_in c.args.piece.now.name kept) c.in-Open.field-0 c.in-Open.field-1
    (shows.each c.args.piece.now.name) (sym c.find.ensures ∙ c.in-Open.is) in
    sym (open_too_many c.args.most kept c.args.piece.now.name _ few (rw found.is_open refl))

pub returns-in-HandedUp : goal.returns-in-HandedUp
returns-in-HandedUp c = λ kept shows low.
    let few : unfinished kept ≤ c.args.most = rw shows.count at low in
    let is = found_handed_up _ (session_in c.args.piece.now.name kept) BLOCK_MAX (named_piece c.args.piece.now)
    (shows.each c.args.piece.now.name) (sym c.find.ensures ∙ c.in-HandedUp.is) in
    rw is (sym (none_too_many c.args.most kept c.args.piece.now.name handed_up few (omega arith)))
