-- The polls of a half, one after the other.

use Rattle.std.proofs.Common.{◌≡◌, ℕ, zero, suc, true, false, Option, refl, sym, ◌∙◌, ap, if◌then◌else◌}
use Rattle.gate_cases.specs.declared.face.Face.{Face}
use Rattle.gate_cases.specs.declared.face.Face.TheVariants.{Old, New}
use Rattle.gate_edges.specs.Ahead.{Ahead, LinkAhead, Polled, failed, empty, gave, polled_at, link_of, with_link, link_past_count, link_past_poll, past_poll, past_reading, reading_next}
use Rattle.peer_half.specs.Standing.{Standing}
use Rattle.peer_half.specs.Parts.{reads, resumes, ticks, arrives, arrives_all, drops_foreign, ends_polling}
use Rattle.gate_run.specs.Comes.{Taken, taken_by, takes, most_polls, comes}
use Rattle.gate_run.specs.Course.{Point}
use Rattle.gate_run.specs.Stages.{IsAt, is_given, after_polled, past_counted, past_polled, polls_within, hears_over}
use Rattle.gate_run.proofs.MadeLemmas.{if-true, if-false}

-- ---- in the loop

-- some polls were made, and so many are left
pub record Polling (Shows : Standing → Type 0) (ahead : Option Ahead) (left : ℕ) (face : Face) (whole : Point) : Type 0 where
  pub point : Point
  pub at : IsAt Shows ahead point
  pub goes_on : polls_within left face point ≡ whole

pub polling-start : (Shows : Standing → Type 0) (ahead : Option Ahead) (face : Face) (p : Point)
    → IsAt Shows ahead p → Polling Shows ahead 256 face (polls_within most_polls face p)
unfolding most_polls
polling-start Shows ahead face p at = record { point = p; at = at; goes_on = refl }

-- a datagram came
pub polling-more : (Shows Shows_now : Standing → Type 0) (ahead ahead_now : Option Ahead) (left : ℕ) (face : Face) (whole : Point)
    → (polling : Polling Shows ahead (suc left) face whole)
    → is_given (polled_at face (polling.point).ahead) ≡ true
    → IsAt Shows_now ahead_now (past_polled face polling.point)
    → Polling Shows_now ahead_now left face whole
unfolding polls_within
polling-more Shows Shows_now ahead ahead_now left face whole polling given at = record {
  point = past_polled face polling.point;
  at = at;
  goes_on = sym (if-true _ _ (past_polled face polling.point) given) ∙ polling.goes_on;
}

-- none did
pub polling-last : (Shows Shows_now : Standing → Type 0) (ahead ahead_now : Option Ahead) (left : ℕ) (face : Face) (whole : Point)
    → (polling : Polling Shows ahead (suc left) face whole)
    → is_given (polled_at face (polling.point).ahead) ≡ false
    → IsAt Shows_now ahead_now (past_polled face polling.point)
    → IsAt Shows_now ahead_now whole
unfolding polls_within
polling-last Shows Shows_now ahead ahead_now left face whole polling given at =
    let is : whole ≡ past_polled face polling.point =
    sym polling.goes_on ∙ if-false _ (polls_within left face (past_polled face polling.point)) _ given in
    rw is at

-- all were made
pub polling-end : (Shows : Standing → Type 0) (ahead : Option Ahead) (left : ℕ) (face : Face) (whole : Point)
    → left ≡ 0 → (polling : Polling Shows ahead left face whole) → IsAt Shows ahead whole
unfolding polls_within
polling-end Shows ahead zero face whole none polling = rw (← polling.goes_on) polling.at
polling-end Shows ahead (suc left) face whole none polling = absurd (cc)

-- ---- as the definition has it

-- where polls lead, by what they come to
abbrev pub taken_to : Face → Taken → Point → Point
taken_to face taken p = record {
  ahead = with_link face taken.link p.ahead;
  standing = ends_polling face taken.poll_failed (arrives_all face taken.datagrams p.standing);
}

link-of-with : (face : Face) (link : LinkAhead) (ahead : Ahead) → link_of face (with_link face link ahead) ≡ link
link-of-with Old link ahead = refl
link-of-with New link ahead = refl

with-with : (face : Face) (link later : LinkAhead) (ahead : Ahead)
    → with_link face later (with_link face link ahead) ≡ with_link face later ahead
with-with Old link later ahead = refl
with-with New link later ahead = refl

pub with-own : (face : Face) (ahead : Ahead) → with_link face (link_of face ahead) ahead ≡ ahead
with-own Old ahead = refl
with-own New ahead = refl

-- one poll, by what it comes to
by-polled : (n : ℕ) (face : Face) (p : Point) (polled : Polled) (more : Taken) (rest : Point)
    → (rest ≡ taken_to face more record { ahead = past_poll face p.ahead; standing = after_polled polled face p.standing })
    → (if is_given polled then rest else record { ahead = past_poll face p.ahead; standing = after_polled polled face p.standing })
    ≡ taken_to face (taken_by polled (link_past_poll (link_of face p.ahead)) more) p
unfolding arrives_all
by-polled n face p failed more rest is = refl
by-polled n face p empty more rest is = refl
by-polled n face p (gave datagram) more rest is =
    is ∙ ap (λ ahead. record { ahead = ahead; standing = ends_polling face more.poll_failed (arrives_all face more.datagrams (arrives face datagram p.standing)) })
    (with-with face (link_past_poll (link_of face p.ahead)) more.link p.ahead)

pub polls-are : (n : ℕ) (face : Face) (p : Point)
    → polls_within n face p ≡ taken_to face (takes n (link_of face p.ahead)) p
unfolding polls_within takes arrives_all
polls-are zero face p = ap (λ ahead. record { ahead = ahead; standing = p.standing }) (sym (with-own face p.ahead))
polls-are (suc n) face p =
    let rest = polls-are n face (past_polled face p) in
    by-polled n face p (polled_at face p.ahead) (takes n (link_past_poll (link_of face p.ahead)))
    (polls_within n face (past_polled face p))
    (rest ∙ ap (λ link. taken_to face (takes n link) (past_polled face p))
    (link-of-with face (link_past_poll (link_of face p.ahead)) p.ahead))

-- ---- what they dropped is counted

-- where polls lead once that is done, by what they come to
abbrev pub counted_to : Face → Taken → Point → Point
counted_to face taken p = record {
  ahead = with_link face (link_past_count taken.link) p.ahead;
  standing = drops_foreign face (taken.link).dropped (ends_polling face taken.poll_failed (arrives_all face taken.datagrams p.standing));
}

counted-are : (face : Face) (taken : Taken) (p : Point) → past_counted face (taken_to face taken p) ≡ counted_to face taken p
counted-are Old taken p = refl
counted-are New taken p = refl

-- ---- what is done before anything is sent

link-of-read : (face : Face) (ahead : Ahead) → link_of face (past_reading ahead) ≡ link_of face ahead
link-of-read Old ahead = refl
link-of-read New ahead = refl

pub hears-are : (face : Face) (p : Point)
    → past_counted face (polls_within most_polls face record { ahead = past_reading p.ahead; standing = ticks (resumes (reads (reading_next p.ahead) p.standing)) })
    ≡ hears_over face p
unfolding comes
hears-are face p =
    let q : Point = record { ahead = past_reading p.ahead; standing = ticks (resumes (reads (reading_next p.ahead) p.standing)) } in
    ap (λ r. past_counted face r) (polls-are most_polls face q)
    ∙ (counted-are face (takes most_polls (link_of face q.ahead)) q
    ∙ ap (λ link. counted_to face (takes most_polls link) q) (link-of-read face p.ahead))
