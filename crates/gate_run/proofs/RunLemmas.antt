-- A run of turns, as the definition has it.

use Rattle.std.proofs.Common.{◌≡◌, ℕ, zero, suc, ◌<◌, Bool, List, ◌∷◌, ◌++◌, Option, Result, Ok, Err, refl, sym, ◌∙◌, ap, append_assoc, arith}
use Rattle.edge_traits.specs.Content.{Gains, GainsFront}
use Rattle.edge_traits.proofs.ContentLemmas.{GainsFront-none}
use Rattle.gate_cases.specs.declared.face.Face.TheVariants.{Old, New}
use Rattle.gate_config.specs.declared.file.GateFile.{GateFile}
use Rattle.gate_edges.specs.Ahead.{Ahead, past_reading, reading_next}
use Rattle.journal_file.specs.Values.{KeptValue}
use Rattle.peer_half.specs.Standing.{Standing}
use Rattle.peer_half.specs.Starts.{starts_at}
use Rattle.peer_half.specs.Half.{Came, half}
use Rattle.peer_half.specs.Run.{halves, recovers, run}
use Rattle.gate_run.specs.Comes.{comes}
use Rattle.gate_run.specs.Course.{Point, past_half, past_turn, come, has_board, begins, run_over}
use Rattle.gate_run.specs.Outcome.{made_by_all}
use Rattle.gate_run.specs.Stages.{IsAt, Leads, Goes, WentSo, Reached, and_on, half_over, turn_over, turns_over, run_over_turns}
use Rattle.gate_run.specs.declared.stop.Stop.{Stop}
use Rattle.gate_edges.specs.Made.{Made}
use Rattle.gate_run.proofs.MadeLemmas.{goes-on, stops-first, made-more, made-after}

-- two halves, and those after them
two-halves : (board : Bool) (old new : Came) (more : List Came) (s : Standing)
    → (halves board Old (old ∷ new ∷ more) s).acts
    ≡ (half board Old old s).acts ++ ((half board New new (half board Old old s).standing).acts
    ++ (halves board Old more (half board New new (half board Old old s).standing).standing).acts)
unfolding halves
two-halves board old new more s = refl

-- a turn, and those after it
one-turn : (board : Bool) (n : ℕ) (p : Point)
    → (turns_over board (suc n) p).acts
    ≡ ((half_over board Old p).acts ++ (half_over board New (past_half board Old p)).acts)
    ++ (turns_over board n (past_turn board p)).acts
unfolding turns_over
one-turn board n p = refl

come-more : (board : Bool) (n : ℕ) (p : Point)
    → come board (suc n) p
    ≡ comes Old p.ahead ∷ comes New (past_half board Old p).ahead ∷ come board n (past_turn board p)
unfolding come
come-more board n p = refl

pub turns-are : (board : Bool) (n : ℕ) (p : Point)
    → (turns_over board n p).acts ≡ (halves board Old (come board n p) p.standing).acts
unfolding turns_over halves come
turns-are board zero p = refl
turns-are board (suc n) p =
    one-turn board n p
    ∙ ap (λ v. ((half_over board Old p).acts ++ (half_over board New (past_half board Old p)).acts) ++ v)
    (turns-are board n (past_turn board p))
    ∙ append_assoc (half_over board Old p).acts (half_over board New (past_half board Old p)).acts
    (halves board Old (come board n (past_turn board p)) (past_turn board p).standing).acts
    ∙ sym (two-halves board (comes Old p.ahead) (comes New (past_half board Old p).ahead) (come board n (past_turn board p)) p.standing)
    ∙ ap (λ v. (halves board Old v p.standing).acts) (sym (come-more board n p))

run-some : (file : GateFile) (kept : Option KeptValue) (board : Bool) (came : List Came) (first : Came) (more : List Came)
    → came ≡ first ∷ more
    → run file kept board came
    ≡ (recovers file kept (first.reading).wall).acts ++ (halves board Old came (recovers file kept (first.reading).wall).standing).acts
run-some file kept board came first more is = rw is refl

first-wall : (ahead : Ahead) → ((comes Old ahead).reading).wall ≡ (reading_next ahead).wall
unfolding comes
first-wall ahead = refl

-- before the journal's file is made anew
abbrev pub before_anew : GateFile → Option KeptValue → Ahead → Point
before_anew file kept ahead = record { ahead = ahead; standing = starts_at file kept (reading_next ahead).wall }

pub run-is : (file : GateFile) (kept : Option KeptValue) (turns : ℕ) (ahead : Ahead) → 0 < turns
    → run_over file kept turns ahead ≡ (run_over_turns (has_board file) turns (before_anew file kept ahead)).acts
run-is file kept zero ahead some = absurd (omega arith)
run-is file kept (suc n) ahead some =
    let came = come (has_board file) (suc n) (begins file kept ahead) in
    run-some file kept (has_board file) came (comes Old ahead) _
    (come-more (has_board file) n (begins file kept ahead))
    ∙ ap (λ wall. (recovers file kept wall).acts ++ (halves (has_board file) Old came (recovers file kept wall).standing).acts)
    (first-wall ahead)
    ∙ ap (λ acts. (recovers file kept (reading_next ahead).wall).acts ++ acts) (sym (turns-are (has_board file) (suc n) (begins file kept ahead)))

-- a turn, and those after it
pub first-turn : (board : Bool) (n : ℕ) (p : Point)
    → turns_over board (suc n) p ≡ and_on (turn_over board p) (turns_over board n)
unfolding turns_over
first-turn board n p = refl

-- the first turn stopped
pub went-err : {X : Type 0} (board : Bool) (turns : ℕ) (p : Point) (result : Result X Stop) (stop : Stop) (before now : Option (List Made))
    → 0 < turns → result ≡ Err stop → GainsFront before now (made_by_all (turn_over board p).acts)
    → WentSo (turns_over board turns p) result before now
went-err board zero p result stop before now some is front = absurd (omega arith)
went-err board (suc n) p result stop before now some is front =
    rw (is, first-turn board n p) (stops-first (turn_over board p) (turns_over board n) before now front)

-- it was made, and the others may have been
pub went-on : {X : Type 0} (Shows Shows_now : Standing → Type 0) (board : Bool) (turns left : ℕ) (p : Point) (result : Result X Stop) (ahead ahead_now : Option Ahead) (before mid now : Option (List Made))
    → turns ≡ suc left → Leads Shows (turn_over board p) ahead before mid
    → ((q : Point) → IsAt Shows ahead q → Goes Shows_now (turns_over board left q) result ahead_now mid now)
    → WentSo (turns_over board turns p) result before now
went-on {X = X} Shows Shows_now board turns n p result ahead ahead_now before mid now some leads later =
    rw (some, first-turn board n p)
    (by-result result (goes-on Shows_now (turn_over board p) (turns_over board n) result ahead_now before mid now leads.made
    (later (turn_over board p).point leads.at)))
  where
    by-result : (r : Result X Stop) → Goes Shows_now (and_on (turn_over board p) (turns_over board n)) r ahead_now before now
        → WentSo (and_on (turn_over board p) (turns_over board n)) r before now
    by-result (Ok x) goes = goes.made
    by-result (Err e) goes = goes

pub unmade : {X : Type 0} (reached : Reached) (result : Result X Stop) (stop : Stop) (before now : Option (List Made))
    → result ≡ Err stop → now ≡ before → WentSo reached result before now
unmade reached result stop before now is same = rw (is, same) (GainsFront-none before (made_by_all reached.acts))

-- ---- what is made before the first turn

-- it was made, and the turns after it or a front of them
pub went-after : {X : Type 0} (first : Reached) (next : Point → Reached) (result : Result X Stop) (before mid now : Option (List Made))
    → Gains before mid (made_by_all first.acts) → WentSo (next first.point) result mid now
    → WentSo (and_on first next) result before now
went-after first next (Ok x) before mid now gains more =
    made-more first.acts (next first.point).acts before mid now gains more
went-after first next (Err e) before mid now gains more =
    made-after first.acts (next first.point).acts before mid now gains more

-- it stopped
pub went-first : {X : Type 0} (first : Reached) (next : Point → Reached) (result : Result X Stop) (stop : Stop) (before now : Option (List Made))
    → result ≡ Err stop → GainsFront before now (made_by_all first.acts) → WentSo (and_on first next) result before now
went-first first next result stop before now is front = rw is (stops-first first next before now front)

-- the clocks were read
abbrev pub read_at : Point → Point
read_at p = record { ahead = past_reading p.ahead; standing = p.standing }
