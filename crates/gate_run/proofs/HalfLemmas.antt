-- A half, stage by stage, and as the definition has it.

use Rattle.std.proofs.Common.{◌≡◌, Bool, true, false, List, ◌++◌, length, Option, None, Some, Result, Err, OnOk, refl, sym, ◌∙◌, ap, append_assoc, if◌then◌else◌}
use Rattle.edge_traits.proofs.ContentLemmas.{GainsFront-none}
use Rattle.gate_cases.specs.declared.face.Face.{Face}
use Rattle.gate_cases.specs.declared.face.Face.TheVariants.{Old, New}
use Rattle.gate_edges.specs.Ahead.{Ahead, past_reading, reading_next}
use Rattle.gate_edges.specs.Made.{Made, AsTold}
use Rattle.outbox.specs.declared.reading.Reading.{Reading}
use Rattle.peer_half.specs.Standing.{Standing, face_of}
use Rattle.peer_half.specs.Acts.{Act, Acted, stands}
use Rattle.peer_half.specs.Parts.{reads, resumes, ticks, sends, makes_anew, installs}
use Rattle.peer_half.specs.Journals.{is_large}
use Rattle.peer_half.specs.Half.{half}
use Rattle.gate_run.specs.Comes.{most_polls, comes, past_polls}
use Rattle.gate_run.specs.Course.{Point, recorded, old_sent, new_sent, ended, shows_in, past_sendings, past_shows, ahead_past_half}
use Rattle.gate_run.specs.Outcome.{made_by_all}
use Rattle.gate_run.specs.Stages.{IsAt, Reached, Goes, and_on, hears_over, past_counted, polls_within, commits_over, sends_over, sends_both, tells_over, sends_and_tells, answers_over, half_over}
use Rattle.gate_run.specs.declared.stop.Stop.{Stop}
use Rattle.gate_run.specs.declared.stop.Stop.TheVariants.{NoMemory}
use Rattle.gate_run.proofs.PollLemmas.{hears-are}
use Rattle.gate_run.proofs.SendLemmas.{sent_to, sends-are}

-- ---- what is done before anything is sent

pub heard-so : (Shows_read Shows : Standing → Type 0) (ahead ahead_now : Option Ahead) (face : Face) (reading : Reading) (p : Point)
    → reading ≡ reading_next p.ahead → ahead ≡ Some (past_reading p.ahead)
    → Shows_read (ticks (resumes (reads reading p.standing)))
    → ((q : Point) → IsAt Shows_read ahead q → IsAt Shows ahead_now (past_counted face (polls_within most_polls face q)))
    → IsAt Shows ahead_now (hears_over face p)
heard-so Shows_read Shows ahead ahead_now face reading p is told shown polls =
    let q : Point = record { ahead = past_reading p.ahead; standing = ticks (resumes (reads (reading_next p.ahead) p.standing)) } in
    let at : IsAt Shows_read ahead q = record { shown = rw is at shown; told = told } in
    rw (sym (hears-are face p)) (polls q at)

-- ---- the clocks are read

pub told-on : {X : Type 0} (before now : Option Ahead) (answer : X) (due : Ahead → X) (past : Ahead → Ahead) (a : Ahead)
    → AsTold before now answer due past → before ≡ Some a → (answer ≡ due a) × (now ≡ Some (past a))
told-on None now answer due past a told is = absurd (cc)
told-on (Some before) None answer due past a told is = absurd told
told-on (Some before) (Some now) answer due past a told is =
    let same : before ≡ a = some-same before a is in
    (rw (← same) told.0, ap (λ v. Some v) (rw (← same) told.1))
  where
    some-same : {Y : Type 0} (x y : Y) → Some x ≡ Some y → x ≡ y
    some-same x y e = ap (λ o. or_one x o) e
      where
        or_one : {Z : Type 0} → Z → Option Z → Z
        or_one z None = z
        or_one z (Some w) = w

-- ---- what is done after that

both-sent : Point → Reached
both-sent q =
    and_on (sent_to Old (sends Old (q.ahead.old).failing q.standing) q)
    (λ r. sent_to New (sends New (r.ahead.new).failing r.standing) r)

both-are : (q : Point) → sends_both q ≡ both-sent q
unfolding both-sent
both-are q =
    let old : Acted = sends Old (q.ahead.old).failing q.standing in
    ap (λ r. and_on r (sends_over New)) (sends-are (length ((face_of Old q.standing).outbox).waiting) Old q)
    ∙ ap (λ r. record { point = r.point; acts = old.acts ++ r.acts })
    (sends-are (length ((face_of New old.standing).outbox).waiting) New (sent_to Old old q).point)

-- whether the metrics are shown doesn't depend on the journal
installs-shows : (board : Bool) (s : Standing) → shows_in board (installs s).standing ≡ shows_in board s
installs-shows board s = by-large (is_large s.journal)
  where
    by-large : (large : Bool) → shows_in board (if large then makes_anew s else stands s).standing ≡ shows_in board s
    by-large true = refl
    by-large false = refl

abbrev reached_at : Bool → Ahead → Standing → List Act → Reached
reached_at shows ahead s acts = record { point = record { ahead = past_shows shows ahead; standing = s }; acts = acts }

same-reached : (a b : Bool) (ahead : Ahead) (s : Standing) (acts more : List Act) → a ≡ b → acts ≡ more
    → reached_at a ahead s acts ≡ reached_at b ahead s more
same-reached a b ahead s acts more shows_are acts_are =
    ap (λ shows. reached_at shows ahead s acts) shows_are ∙ ap (λ v. reached_at b ahead s v) acts_are

-- both faces sent, and then the half is told of
then-told : (board : Bool) → Point → Reached
then-told board q = and_on (both-sent q) (tells_over board)

half-stages : (board : Bool) (face : Face) (p : Point)
    → half_over board face p ≡ and_on (commits_over (hears_over face p)) (then-told board)
unfolding half both-sent then-told ahead_past_half comes
half-stages board Old p =
    same-reached _ _ (past_sendings (length (old_sent Old p).acts) (length (new_sent Old p).acts) (past_polls Old p.ahead)) _ _ _
    (sym (installs-shows board (ended Old p)))
    (ap (λ acts. (recorded Old p).acts ++ acts) (sym (append_assoc (old_sent Old p).acts (new_sent Old p).acts _)))
half-stages board New p =
    same-reached _ _ (past_sendings (length (old_sent New p).acts) (length (new_sent New p).acts) (past_polls New p.ahead)) _ _ _
    (sym (installs-shows board (ended New p)))
    (ap (λ acts. (recorded New p).acts ++ acts) (sym (append_assoc (old_sent New p).acts (new_sent New p).acts _)))

told-are : (board : Bool) (q : Point) → sends_and_tells board q ≡ then-told board q
unfolding then-told
told-are board q = ap (λ r. and_on r (tells_over board)) (both-are q)

pub half-is : (board : Bool) (face : Face) (p : Point)
    → half_over board face p ≡ answers_over board (hears_over face p)
half-is board face p =
    half-stages board face p
    ∙ ap (λ r. record { point = r.point; acts = (commits_over (hears_over face p)).acts ++ r.acts })
    (sym (told-are board (commits_over (hears_over face p)).point))

-- ---- a half of the code

pub half-unheard : {X : Type 0} (Shows : Standing → Type 0) (reached : Reached) (result : Result X Stop) (ahead : Option Ahead) (before now : Option (List Made))
    → result ≡ Err NoMemory → now ≡ before → Goes Shows reached result ahead before now
half-unheard Shows reached result ahead before now is same =
    rw (is, same) (GainsFront-none before (made_by_all reached.acts))

pub half-goes : {X : Type 0} (Shows : Standing → Type 0) (board : Bool) (face : Face) (p : Point) (result : Result X Stop) (ahead : Option Ahead) (before mid now : Option (List Made))
    → mid ≡ before → Goes Shows (answers_over board (hears_over face p)) result ahead mid now
    → Goes Shows (half_over board face p) result ahead before now
half-goes Shows board face p result ahead before mid now same goes =
    rw (half-is board face p, ← same) goes
