-- A link on which one end has sent a block is ready.

use Rattle.std.proofs.Common.{ℕ, ◌-◌, ◌<◌, ◌^◌, ◌==◌, [], ◌∷◌, refl, arith}
use Rattle.ltp_session.specs.Engine.{closed_runs, submits}
use Rattle.ltp_session.specs.Examples.{party, world_after}
use Rattle.ltp_session.specs.Sender.{begin, green_pieces, last_segment, red_pieces, segments_from}
use Rattle.ltp_session.specs.Table.{find, put}
use Rattle.ltp_session.specs.World.{End, at_end, first_end, other, second_end, submit, submitted}
use Rattle.ltp_laws.specs.Kept.{IfKept}
use Rattle.ltp_laws.specs.View.{view}
use Rattle.ltp_laws.proofs.ListLemmas.{both_arms}
use Rattle.ltp_drain.specs.Completion.{IsReady}
use Rattle.ltp_drain.specs.Hopeful.{IsHopeful, limit_at}

pub block-ready : IsReady (party 1 2, party 2 1)
    (world_after (submit first_end (7 ∷ 8 ∷ []) 2 ∷ []))
unfolding submitted submits begin segments_from last_segment red_pieces green_pieces find put
    closed_runs
block-ready = record {
  peers = record {
    differ = λ h. absurd (cc);
    first_knows = refl;
    second_knows = refl;
    first_cuts = omega arith;
    second_cuts = omega arith;
  };
  alike = record {
    same_most = refl;
    most = omega arith;
    first_cuts = omega arith;
    second_cuts = omega arith;
    first_waits = (omega arith, omega arith);
    second_waits = (omega arith, omega arith);
    first_ample = record { sessions = omega arith; history = omega arith };
    second_ample = record { sessions = omega arith; history = omega arith };
  };
  reached = record { events = submit first_end (7 ∷ 8 ∷ []) 2 ∷ []; leads = refl };
  hopeful = record { sessions = sessions; numbers = numbers };
  room = record {
    first = record { senders = omega arith; receivers = omega arith; numbers = omega arith };
    second = record { senders = omega arith; receivers = omega arith; numbers = omega arith };
  };
}
  where
    sessions : (o : End) (n : ℕ) → IsHopeful (limit_at (party 1 2, party 2 1) o)
        (limit_at (party 1 2, party 2 1) (other o))
        (view (party 1 2, party 2 1) (world_after (submit first_end (7 ∷ 8 ∷ []) 2 ∷ [])) o n)
    sessions first_end n = record {
      sender = both_arms (IfKept _) (1 == n) _ _
          (record { phase = (omega arith, omega arith); unclosed = refl }) tt;
      receiver = tt;
    }
    sessions second_end n = record { sender = tt; receiver = tt }

    numbers : (o : End) → (at_end (world_after (submit first_end (7 ∷ 8 ∷ []) 2 ∷ [])).engines
        o).next < 2 ^ 32 - 2 ^ 22
    numbers first_end = omega arith
    numbers second_end = omega arith
