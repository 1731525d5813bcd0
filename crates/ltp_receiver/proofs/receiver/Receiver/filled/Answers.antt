use Rattle.std.proofs.Common.{◌≡◌, ◌∙◌, sym, ap, subst, [], List, ℕ}
use Rattle.std.specs.Prelude.{Option}
use Rattle.std.specs.Option.{option_map}
use Rattle.ltp_segment.specs.declared.session.TheConstants.{BLOCK_MAX}
use Rattle.ltp_session.specs.Receiver.{Receiving}
use Rattle.ltp_session.specs.Views.{SessionValue}
use Rattle.ltp_receiver.specs.declared.kept.Kept.{Kept}
use Rattle.cells.specs.Covers.{Covers}
use Rattle.ltp_receiver.specs.Receiver.{cells_of}
use Rattle.ltp_receiver.specs.Kept.{receiving_of}
use Rattle.cells.proofs.FilledLemmas.{covers-none}
use Rattle.ltp_receiver.proofs.receiver.Receiver.filled.Goals as goal

pub returns-in-None : goal.returns-in-None
returns-in-None c =
    let over : cells_of c.args.self.now.kept ≡ [] =
    ap (λ (v : SessionValue Receiving). cells_of v.kept) (sym c.self.view_is)
    ∙ ap (λ (k : Option Kept). cells_of (option_map receiving_of k)) c.in-None.is in
    subst (λ (cells : List (Option ℕ)). Covers BLOCK_MAX c.self.inside.nothing cells) (sym over)
    (covers-none c.self.inside.nothing BLOCK_MAX c.self.inside.empty)
