-- The turns of a run, one after the other.

use Rattle.std.proofs.Common.{◌≡◌, ℕ, zero, suc, Bool, List, [], ◌++◌, Option, refl, sym, ◌∙◌, ap}
use Rattle.edge_traits.specs.Content.{Gains, GainsFront}
use Rattle.edge_traits.proofs.ContentLemmas.{Gains-none}
use Rattle.gate_edges.specs.Ahead.{Ahead}
use Rattle.gate_edges.specs.Made.{Made}
use Rattle.peer_half.specs.Standing.{Standing}
use Rattle.peer_half.specs.Acts.{Act}
use Rattle.gate_run.specs.Course.{Point}
use Rattle.gate_run.specs.Outcome.{made_by_all}
use Rattle.gate_run.specs.Stages.{IsAt, Reached, Leads, and_on, turn_over, turns_over}
use Rattle.gate_run.proofs.MadeLemmas.{made-more, made-after, made-before}
use Rattle.gate_run.proofs.SendLemmas.{same-on, append-none}

-- ---- in the loop

-- these acts were made, and so many turns are left
pub record Turning (Shows : Standing → Type 0) (ahead : Option Ahead) (before now : Option (List Made)) (board : Bool) (left : ℕ) (whole : Reached) : Type 0 where
  pub point : Point
  pub acts : List Act
  pub at : IsAt Shows ahead point
  pub made : Gains before now (made_by_all acts)
  pub goes_on : and_on record { point = point; acts = acts } (turns_over board left) ≡ whole

pub turning-start : (Shows : Standing → Type 0) (ahead : Option Ahead) (held : Option (List Made)) (board : Bool) (n : ℕ) (p : Point)
    → IsAt Shows ahead p → Turning Shows ahead held held board n (turns_over board n p)
turning-start Shows ahead held board n p at =
    record { point = p; acts = []; at = at; made = Gains-none held; goes_on = refl }

-- a turn was made
pub turning-more : (Shows Shows_now : Standing → Type 0) (ahead ahead_now : Option Ahead) (before mid now : Option (List Made)) (board : Bool) (left : ℕ) (whole : Reached)
    → (turning : Turning Shows ahead before mid board (suc left) whole)
    → Leads Shows_now (turn_over board turning.point) ahead_now mid now
    → Turning Shows_now ahead_now before now board left whole
unfolding turns_over
turning-more Shows Shows_now ahead ahead_now before mid now board left whole turning leads = record {
  point = (turn_over board turning.point).point;
  acts = turning.acts ++ (turn_over board turning.point).acts;
  at = leads.at;
  made = made-more turning.acts (turn_over board turning.point).acts before mid now turning.made leads.made;
  goes_on = same-on turning.acts (turn_over board turning.point) (turns_over board left) ∙ turning.goes_on;
}

-- a turn stopped
pub turning-stops : (Shows : Standing → Type 0) (ahead : Option Ahead) (before mid now : Option (List Made)) (board : Bool) (left : ℕ) (whole : Reached)
    → (turning : Turning Shows ahead before mid board (suc left) whole)
    → GainsFront mid now (made_by_all (turn_over board turning.point).acts)
    → GainsFront before now (made_by_all whole.acts)
unfolding turns_over
turning-stops Shows ahead before mid now board left whole turning front =
    rw (← turning.goes_on)
    (made-after turning.acts ((turn_over board turning.point).acts ++ (turns_over board left (turn_over board turning.point).point).acts)
    before mid now turning.made
    (made-before (turn_over board turning.point).acts (turns_over board left (turn_over board turning.point).point).acts mid now front))

-- all turns were made
pub turning-end : (Shows : Standing → Type 0) (ahead : Option Ahead) (before now : Option (List Made)) (board : Bool) (left : ℕ) (whole : Reached)
    → left ≡ 0 → Turning Shows ahead before now board left whole → Leads Shows whole ahead before now
unfolding turns_over
turning-end Shows ahead before now board zero whole none turning =
    let is : whole ≡ record { point = turning.point; acts = turning.acts } =
    sym turning.goes_on ∙ ap (λ v. record { point = turning.point; acts = v }) (append-none turning.acts) in
    rw is record { at = turning.at; made = turning.made }
turning-end Shows ahead before now board (suc left) whole none turning = absurd (cc)
