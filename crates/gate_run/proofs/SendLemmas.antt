-- The sends of a half, one after the other.

use Rattle.std.proofs.Common.{◌≡◌, ℕ, zero, suc, Bool, true, false, List, [], ◌∷◌, ◌++◌, length, drop, Option, None, Some, refl, sym, ◌∙◌, ap, append_assoc, if◌then◌else◌}
use Rattle.std.specs.Option.{is_some}
use Rattle.edge_traits.specs.Content.{Gains}
use Rattle.edge_traits.specs.Faults.{after_next}
use Rattle.edge_traits.proofs.ContentLemmas.{Gains-none}
use Rattle.gate_cases.specs.declared.face.Face.{Face}
use Rattle.gate_cases.specs.declared.face.Face.TheVariants.{Old, New}
use Rattle.gate_edges.specs.Ahead.{Ahead, link_of, with_link, past_send, send_fails}
use Rattle.gate_edges.specs.Made.{Made}
use Rattle.peer_half.specs.Standing.{Standing, doing_at}
use Rattle.peer_half.specs.Acts.{Act, Acted, after_acts, stands}
use Rattle.peer_half.specs.Parts.{goes, sends_within, tried, where_some}
use Rattle.gate_face.specs.Halves.{taking}
use Rattle.gate_run.specs.Course.{Point, past_sends}
use Rattle.gate_run.specs.Outcome.{made_by_all}
use Rattle.gate_run.specs.Stages.{IsAt, Leads, Reached, and_on, stays, next_at, past_going, sends_one, sends_up_to}
use Rattle.gate_run.proofs.MadeLemmas.{if-true, if-false, made-more}

-- ---- in the loop

-- these acts were made, and so many sends are left
pub record Sending (Shows : Standing → Type 0) (ahead : Option Ahead) (before now : Option (List Made)) (left : ℕ) (face : Face) (whole : Reached) : Type 0 where
  pub point : Point
  pub acts : List Act
  pub at : IsAt Shows ahead point
  pub made : Gains before now (made_by_all acts)
  pub goes_on : and_on record { point = point; acts = acts } (sends_up_to left face) ≡ whole

pub sending-start : (Shows : Standing → Type 0) (ahead : Option Ahead) (held : Option (List Made)) (n : ℕ) (face : Face) (p : Point)
    → IsAt Shows ahead p → Sending Shows ahead held held n face (sends_up_to n face p)
sending-start Shows ahead held n face p at =
    record { point = p; acts = []; at = at; made = Gains-none held; goes_on = refl }

pub same-on : (acts : List Act) (more : Reached) (next : Point → Reached)
    → and_on record { point = more.point; acts = acts ++ more.acts } next
    ≡ record { point = (and_on more next).point; acts = acts ++ (and_on more next).acts }
same-on acts more next =
    ap (λ v. record { point = (next more.point).point; acts = v }) (append_assoc acts more.acts (next more.point).acts)

-- a datagram went
pub sending-more : (Shows Shows_now : Standing → Type 0) (ahead ahead_now : Option Ahead) (before mid now : Option (List Made)) (left : ℕ) (face : Face) (whole : Reached)
    → (sending : Sending Shows ahead before mid (suc left) face whole)
    → is_some (next_at face sending.point) ≡ true
    → Leads Shows_now (sends_one face sending.point) ahead_now mid now
    → Sending Shows_now ahead_now before now left face whole
unfolding sends_up_to
sending-more Shows Shows_now ahead ahead_now before mid now left face whole sending went leads = record {
  point = (sends_one face sending.point).point;
  acts = sending.acts ++ (sends_one face sending.point).acts;
  at = leads.at;
  made = made-more sending.acts (sends_one face sending.point).acts before mid now sending.made leads.made;
  goes_on =
      same-on sending.acts (sends_one face sending.point) (sends_up_to left face)
      ∙ ap (λ r. record { point = r.point; acts = sending.acts ++ r.acts })
      (sym (if-true _ (and_on (sends_one face sending.point) (sends_up_to left face)) (sends_one face sending.point) went))
      ∙ sending.goes_on;
}

-- none did
pub sending-last : (Shows Shows_now : Standing → Type 0) (ahead ahead_now : Option Ahead) (before mid now : Option (List Made)) (left : ℕ) (face : Face) (whole : Reached)
    → (sending : Sending Shows ahead before mid (suc left) face whole)
    → is_some (next_at face sending.point) ≡ false
    → Leads Shows_now (sends_one face sending.point) ahead_now mid now
    → Leads Shows_now whole ahead_now before now
unfolding sends_up_to
sending-last Shows Shows_now ahead ahead_now before mid now left face whole sending went leads =
    let is : whole ≡ record { point = (sends_one face sending.point).point; acts = sending.acts ++ (sends_one face sending.point).acts } =
    sym sending.goes_on ∙ ap (λ r. record { point = r.point; acts = sending.acts ++ r.acts })
    (if-false _ (and_on (sends_one face sending.point) (sends_up_to left face)) (sends_one face sending.point) went) in
    rw is record {
      at = leads.at;
      made = made-more sending.acts (sends_one face sending.point).acts before mid now sending.made leads.made;
    }

-- all went
pub append-none : (acts : List Act) → acts ++ [] ≡ acts
append-none [] = refl
append-none (act ∷ acts) = ap (λ v. act ∷ v) (append-none acts)

pub sending-end : (Shows : Standing → Type 0) (ahead : Option Ahead) (before now : Option (List Made)) (left : ℕ) (face : Face) (whole : Reached)
    → left ≡ 0 → Sending Shows ahead before now left face whole → Leads Shows whole ahead before now
unfolding sends_up_to
sending-end Shows ahead before now zero face whole none sending =
    let is : whole ≡ record { point = sending.point; acts = sending.acts } =
    sym sending.goes_on ∙ ap (λ v. record { point = sending.point; acts = v }) (append-none sending.acts) in
    rw is record { at = sending.at; made = sending.made }
sending-end Shows ahead before now (suc left) face whole none sending = absurd (cc)

-- ---- as the definition has it

-- where sends lead
abbrev pub sent_to : Face → Acted → Point → Reached
sent_to face acted p = record {
  point = record {
    ahead = with_link face (past_sends (length acted.acts) (link_of face p.ahead)) p.ahead;
    standing = acted.standing;
  };
  acts = acted.acts;
}

drop-none : (n : ℕ) (calls : List Bool) → calls ≡ [] → drop n calls ≡ drop (suc n) calls
drop-none zero calls none = rw none refl
drop-none (suc n) calls none = rw none refl

past-one : (face : Face) (acted : Acted) (act : Act) (p : Point) (s : Standing)
    → and_on record { point = record { ahead = past_send face p.ahead; standing = s }; acts = act ∷ [] }
    (sent_to face acted)
    ≡ sent_to face (after_acts (act ∷ []) acted) p
past-one face acted act p s = ap (λ ahead. record {
  point = record { ahead = ahead; standing = acted.standing };
  acts = act ∷ acted.acts;
}) (links face p.ahead)
  where
    drops : (failing : List Bool) → drop (length acted.acts) (after_next failing) ≡ drop (suc (length acted.acts)) failing
    drops [] = drop-none (length acted.acts) [] refl
    drops (fails ∷ later) = refl

    links : (face : Face) (ahead : Ahead)
        → with_link face (past_sends (length acted.acts) (link_of face (past_send face ahead))) (past_send face ahead)
        ≡ with_link face (past_sends (suc (length acted.acts)) (link_of face ahead)) ahead
    links Old ahead = ap (λ v. record ahead { old = record ahead.old { failing = v } }) (drops (ahead.old).failing)
    links New ahead = ap (λ v. record ahead { new = record ahead.new { failing = v } }) (drops (ahead.new).failing)

past-none : (face : Face) (p : Point) → stays p ≡ sent_to face (stands p.standing) p
past-none face p = ap (λ ahead. record { point = record { ahead = ahead; standing = p.standing }; acts = [] }) (links face p.ahead)
  where
    links : (face : Face) (ahead : Ahead) → ahead ≡ with_link face (past_sends 0 (link_of face ahead)) ahead
    links Old ahead = refl
    links New ahead = refl

by-next : (n : ℕ) (face : Face) (p : Point) (next : Option (List ℕ)) (rest : Point → Reached) (goes_to : List ℕ → Standing) (acted : List ℕ → Acted)
    → ((datagram : List ℕ) → rest record { ahead = past_send face p.ahead; standing = goes_to datagram }
    ≡ sent_to face (acted datagram) record { ahead = past_send face p.ahead; standing = goes_to datagram })
    → (if is_some next
    then and_on (where_some next (λ datagram. record { point = record { ahead = past_send face p.ahead; standing = goes_to datagram }; acts = tried face (send_fails face p.ahead) datagram ∷ [] }) (stays p)) rest
    else where_some next (λ datagram. record { point = record { ahead = past_send face p.ahead; standing = goes_to datagram }; acts = tried face (send_fails face p.ahead) datagram ∷ [] }) (stays p))
    ≡ sent_to face (where_some next (λ datagram. after_acts (tried face (send_fails face p.ahead) datagram ∷ []) (acted datagram)) (stands p.standing)) p
by-next n face p None rest goes_to acted is = past-none face p
by-next n face p (Some datagram) rest goes_to acted is =
    ap (λ r. record { point = r.point; acts = tried face (send_fails face p.ahead) datagram ∷ r.acts }) (is datagram)
    ∙ past-one face (acted datagram) (tried face (send_fails face p.ahead) datagram) p (goes_to datagram)

failing-past : (face : Face) (ahead : Ahead)
    → (link_of face (past_send face ahead)).failing ≡ after_next (link_of face ahead).failing
failing-past Old ahead = refl
failing-past New ahead = refl

pub sends-are : (n : ℕ) (face : Face) (p : Point)
    → sends_up_to n face p ≡ sent_to face (sends_within n face (link_of face p.ahead).failing p.standing) p
unfolding sends_up_to sends_within
sends-are zero face p = past-none face p
sends-are (suc n) face p =
    by-next n face p (next_at face p) (sends_up_to n face)
    (λ datagram. goes face (send_fails face p.ahead) datagram (doing_at face taking p.standing))
    (λ datagram. sends_within n face (after_next (link_of face p.ahead).failing) (goes face (send_fails face p.ahead) datagram (doing_at face taking p.standing)))
    (λ datagram.
    let rest = sends-are n face (past_going face datagram p) in
    rest ∙ ap (λ failing. sent_to face (sends_within n face failing (past_going face datagram p).standing) (past_going face datagram p))
    (failing-past face p.ahead))
