-- What a path hands up was sent, and where it comes from.

use Rattle.std.proofs.Common.{◌≡◌, ℕ, List, [], ◌∷◌, length, map, take, refl, sym, ◌∙◌, ap, subst}
use Rattle.std.specs.List.{AllByRecursion}
use Rattle.ltp_session.specs.World.{End, first_end, second_end, other, at_end, ArePeers, clock, starts_world}
use Rattle.ltp_laws.specs.Log.{HandUp, IsFront, IsSame, AtMostOnce, Submission, EachOnce, HandsUpFronts, hand_ups, submissions}
use Rattle.ltp_laws.specs.Log.{IsSameNumber as IsSameSubmission}
use Rattle.ltp_laws.specs.View.{IsIn}
use Rattle.ltp_laws.proofs.LogLemmas.{red_parts_are_fronts}
use Rattle.gate_cases.specs.declared.face.Face.{Face}
use Rattle.gate_cases.specs.declared.face.Face.TheVariants as faces
use Rattle.path_laws.specs.declared.effects.UpAt.{UpAt}
use Rattle.path_laws.specs.declared.places.Place.{Place}
use Rattle.path_laws.specs.declared.places.Place.TheVariants as places
use Rattle.path_laws.specs.Places.{across, link_of, link_end_of}
use Rattle.path_laws.specs.Path.{PathSetup, PathEvent, starts_path}
use Rattle.path_laws.specs.Log.{Begun, begun_in, ups_in}
use Rattle.path_laws.specs.Links.{link_parties, link_events}
use Rattle.path_laws.specs.Laws.{IsAsSent, IsSameUp, NoTwo}
use Rattle.path_laws.specs.Laws.{IsSameNumber as IsSameBegun}
use Rattle.path_laws.proofs.ChunkLemmas.{place_at, hand_up_from, same_up, ups_on, submission_from, submissions_on}
use Rattle.path_laws.proofs.LogLemmas.{all-in, all-of, made-in, in-link, OnLink, link-in, no-two-made, no-two-links}
use Rattle.path_laws.proofs.RunLemmas.{whole-chunk}

-- ---- places and ends

pub at-place : (place : Place) → place_at (link_of place) (link_end_of place) ≡ place
at-place places.OldNode = refl
at-place places.OldFace = refl
at-place places.NewFace = refl
at-place places.NewNode = refl

across-place : (face : Face) (end : End) → across (place_at face (other end)) ≡ place_at face end
across-place faces.Old first_end = refl
across-place faces.Old second_end = refl
across-place faces.New first_end = refl
across-place faces.New second_end = refl

end-of-place : (face : Face) (end : End) → link_end_of (place_at face end) ≡ end
end-of-place faces.Old first_end = refl
end-of-place faces.Old second_end = refl
end-of-place faces.New first_end = refl
end-of-place faces.New second_end = refl

take-all : (block : List ℕ) → take (length block) block ≡ block
take-all [] = refl
take-all (x ∷ block) = ap (λ rest. x ∷ rest) (take-all block)

twice : (end : End) → other (other end) ≡ end
twice first_end = refl
twice second_end = refl

-- ---- a run, on a link

-- what the laws of links say of the chunk that a run is
pub record OneLink (face : Face) (s : PathSetup) (begun : List Begun) (ups : List UpAt) : Type 0 where
  pub submitted : List Submission
  pub handed : List HandUp
  pub ups_are : ups_on face ups ≡ map (hand_up_from face) handed
  pub begun_are : submissions_on face begun ≡ submitted
  pub law : HandsUpFronts (link_parties s face) submitted handed

pub one-link : (face : Face) (s : PathSetup) (start : ℕ) (events : List PathEvent) → ArePeers (link_parties s face)
    → OneLink face s (begun_in s (starts_path s start) events) (ups_in s (starts_path s start) events)
one-link face s start events peers =
    let chunk = whole-chunk face s start events in record {
      submitted = submissions (link_parties s face) (starts_world (link_parties s face)) (clock start ∷ link_events face s (starts_path s start) events);
      handed = hand_ups (link_parties s face) (starts_world (link_parties s face)) (clock start ∷ link_events face s (starts_path s start) events);
      ups_are = chunk.handed;
      begun_are = chunk.begins;
      law = red_parts_are_fronts (link_parties s face) (clock start ∷ link_events face s (starts_path s start) events) peers;
    }

-- the session of a block that is handed up
front-sent : (face : Face) (s : PathSetup) (begun : List Begun) (submitted : List Submission) (h : HandUp) (u : UpAt)
    → submissions_on face begun ≡ submitted → hand_up_from face h ≡ u → IsFront (link_parties s face) submitted h → IsAsSent begun u
front-sent face s begun submitted h u are is front =
    let p = front.submission in
    let found : OnLink (λ (b : Begun). b.place) submission_from face begun p = link-in (λ (b : Begun). b.place) submission_from face begun p (subst (λ ps. IsIn p ps) (sym are) front.among) in
    let b : Begun = found.x in
    let from : link_end_of b.place ≡ p.from = ap (λ (q : Submission). q.from) found.is in
    let place : b.place ≡ place_at face p.from = sym (at-place b.place) ∙ (ap (λ f. place_at f (link_end_of b.place)) found.on ∙ ap (λ e. place_at face e) from) in
    let red : length b.block ≡ p.red = ap (λ (q : Submission). q.red) found.is in
    let block : b.block ≡ p.block = ap (λ (q : Submission). q.block) found.is in
    record {
      session = b;
      among = found.among;
      place = place ∙ (sym (across-place face p.from) ∙ (ap (λ e. across (place_at face e)) (sym front.from) ∙ ap (λ (v : UpAt). across v.place) is));
      number = ap (λ (q : Submission). q.session) found.is ∙ (sym front.session ∙ ap (λ (v : UpAt). v.session) is);
      whole = sym (take-all b.block) ∙ (ap (λ n. take n b.block) red ∙ (ap (λ bs. take p.red bs) block ∙ (sym front.front ∙ ap (λ (v : UpAt). v.body) is)));
    }

pub as-sent : (s : PathSetup) (begun : List Begun) (ups : List UpAt) → ((face : Face) → OneLink face s begun ups) → AllByRecursion (IsAsSent begun) ups
as-sent s begun ups links = all-of (IsAsSent begun) ups by where
  by : (u : UpAt) → IsIn u ups → IsAsSent begun u
  by u among =
      let link = links (link_of u.place) in
      let there : IsIn u (map (hand_up_from (link_of u.place)) link.handed) = subst (λ us. IsIn u us) link.ups_are (in-link (λ (v : UpAt). v.place) same_up (link_of u.place) ups u among refl) in
      let m = made-in (hand_up_from (link_of u.place)) link.handed u there in
      front-sent (link_of u.place) s begun link.submitted m.x u link.begun_are m.is (all-in (IsFront (link_parties s (link_of u.place)) link.submitted) link.handed link.law.fronts m.x m.among)

-- ---- once

-- what AtMostOnce and EachOnce say
at-most-once : (us : List HandUp) → AtMostOnce us → NoTwo IsSame us
at-most-once [] once = tt
at-most-once (u ∷ us) once = (once.0, at-most-once us once.1)

each-once : (ps : List Submission) → EachOnce ps → NoTwo IsSameSubmission ps
each-once [] once = tt
each-once (p ∷ ps) once = (once.0, each-once ps once.1)

-- two hand-ups of one end and number have one originator
same-hand-up : (face : Face) (s : PathSetup) (submitted : List Submission) (g h : HandUp) → IsFront (link_parties s face) submitted g → IsFront (link_parties s face) submitted h
    → IsSameUp (hand_up_from face g) (hand_up_from face h) → IsSame g h
same-hand-up face s submitted g h g_front h_front same =
    let end : g.end ≡ h.end = sym (end-of-place face g.end) ∙ (ap link_end_of same.place ∙ end-of-place face h.end) in
    let from : g_front.submission.from ≡ h_front.submission.from =
    sym (twice g_front.submission.from) ∙ (ap other (sym g_front.from ∙ (end ∙ h_front.from)) ∙ twice h_front.submission.from) in
    record {
      end = end;
      originator = g_front.originator ∙ (ap (λ e. (at_end (link_parties s face) e).own) from ∙ sym h_front.originator);
      session = same.session;
    }

pub ups-once : (s : PathSetup) (begun : List Begun) (ups : List UpAt) → ((face : Face) → OneLink face s begun ups) → NoTwo IsSameUp ups
ups-once s begun ups links =
    no-two-links IsSameUp IsSameUp (λ (u : UpAt). u.place) same_up (λ u v same. ap link_of same.place) (λ u v same. same) ups by
  where
    by : (face : Face) → NoTwo IsSameUp (ups_on face ups)
    by face =
        let link = links face in
        subst (λ us. NoTwo IsSameUp us) (sym link.ups_are)
        (no-two-made IsSameUp IsSame (hand_up_from face) link.handed
        (λ g h in_g in_h same. same-hand-up face s link.submitted g h
        (all-in (IsFront (link_parties s face) link.submitted) link.handed link.law.fronts g in_g)
        (all-in (IsFront (link_parties s face) link.submitted) link.handed link.law.fronts h in_h) same)
        (at-most-once link.handed link.law.once))

pub numbers-once : (s : PathSetup) (begun : List Begun) (ups : List UpAt) → ((face : Face) → OneLink face s begun ups) → NoTwo IsSameBegun begun
numbers-once s begun ups links =
    no-two-links IsSameBegun IsSameSubmission (λ (b : Begun). b.place) submission_from (λ b c same. ap link_of same.place)
    (λ b c same. record { from = ap link_end_of same.place; session = same.session }) begun
    (λ face. let link = links face in subst (λ ps. NoTwo IsSameSubmission ps) (sym link.begun_are) (each-once link.submitted link.law.numbers))
