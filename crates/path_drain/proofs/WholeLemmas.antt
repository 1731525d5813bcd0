-- What is handed up in a drain, of a session that was begun in it, is the session's whole block.

use Rattle.std.proofs.Common.{◌≡◌, ℕ, List, [], ◌∷◌, ◌++◌, inl, inr, refl, sym, ◌∙◌, ap, subst}
use Rattle.std.proofs.lemmas.List.{append_assoc}
use Rattle.ltp_laws.specs.View.{IsIn}
use Rattle.ltp_laws.proofs.RunLemmas.{in-right}
use Rattle.gate_cases.specs.declared.face.Face.{Face}
use Rattle.path_laws.specs.declared.effects.UpAt.{UpAt}
use Rattle.path_laws.specs.declared.places.Place.{Place}
use Rattle.path_laws.specs.declared.places.Place.TheVariants as places
use Rattle.path_laws.specs.Places.{across}
use Rattle.path_laws.specs.Path.{PathSetup, Path, PathEvent, path_run, path_step, starts_path}
use Rattle.path_laws.specs.Log.{Begun, begun_at, begun_in, ups_in}
use Rattle.path_laws.specs.Laws.{IsAsSent, IsLinked, IsSameNumber, NoTwo}
use Rattle.path_laws.proofs.LawLemmas.{OneLink, as-sent, numbers-once, one-link}
use Rattle.path_laws.proofs.LogLemmas.{all-in}

-- ---- a run, and then another

pub ups-append : (s : PathSetup) (w : Path) (xs ys : List PathEvent)
    → ups_in s w (xs ++ ys) ≡ ups_in s w xs ++ ups_in s (path_run s w xs) ys
unfolding ups_in path_run
ups-append s w [] ys = refl
ups-append s w (x ∷ xs) ys =
    ap (λ (us : List UpAt). (path_step s w x).effects.ups ++ us)
    (ups-append s (path_step s w x).path xs ys)
    ∙ sym (append_assoc (path_step s w x).effects.ups (ups_in s (path_step s w x).path xs)
    (ups_in s (path_run s (path_step s w x).path xs) ys))

pub begun-append : (s : PathSetup) (w : Path) (xs ys : List PathEvent)
    → begun_in s w (xs ++ ys) ≡ begun_in s w xs ++ begun_in s (path_run s w xs) ys
unfolding begun_in path_run
begun-append s w [] ys = refl
begun-append s w (x ∷ xs) ys =
    ap (λ (bs : List Begun). begun_at s w x ++ bs) (begun-append s (path_step s w x).path xs ys)
    ∙ sym (append_assoc (begun_at s w x) (begun_in s (path_step s w x).path xs)
    (begun_in s (path_run s (path_step s w x).path xs) ys))

-- ---- one number is one session

turned : (b c : Begun) → IsSameNumber b c → IsSameNumber c b
turned b c same = record { place = sym same.place; session = sym same.session }

same-session : (begun : List Begun) → NoTwo IsSameNumber begun → (b c : Begun) → IsIn b begun
    → IsIn c begun → IsSameNumber b c → b ≡ c
same-session [] none b c in_b in_c same = absurd in_b
same-session (z ∷ begun) none b c (inl is_b) (inl is_c) same = sym is_b ∙ is_c
same-session (z ∷ begun) none b c (inl is_b) (inr in_c) same =
    absurd (all-in (λ y. IsSameNumber z y → ⊥) begun none.0 c in_c
    (subst (λ (x : Begun). IsSameNumber x c) (sym is_b) same))
same-session (z ∷ begun) none b c (inr in_b) (inl is_c) same =
    absurd (all-in (λ y. IsSameNumber z y → ⊥) begun none.0 b in_b
    (subst (λ (x : Begun). IsSameNumber x b) (sym is_c) (turned b c same)))
same-session (z ∷ begun) none b c (inr in_b) (inr in_c) same =
    same-session begun none.1 b c in_b in_c same

-- ---- blocks

pub across-twice : (place : Place) → across (across place) ≡ place
across-twice places.OldNode = refl
across-twice places.OldFace = refl
across-twice places.NewFace = refl
across-twice places.NewNode = refl

whole-of : (begun : List Begun) (b : Begun) (u : UpAt) → NoTwo IsSameNumber begun
    → IsIn b begun → IsAsSent begun u → u.place ≡ across b.place → u.session ≡ b.session
    → u.body ≡ b.block
whole-of begun b u none in_b sent place session =
    sym (ap (λ (x : Begun). x.block) same ∙ sent.whole)
  where
    same : b ≡ sent.session
    same = same-session begun none b sent.session in_b sent.among (record {
      place = sym (sent.place ∙ (ap across place ∙ across-twice b.place));
      session = sym (sent.number ∙ session);
    })

-- of a run that goes on from another
pub handed-whole : (s : PathSetup) (start : ℕ) (earlier events : List PathEvent) (b : Begun)
    (u : UpAt) → IsLinked s
    → IsIn b (begun_in s (path_run s (starts_path s start) earlier) events)
    → IsIn u (ups_in s (path_run s (starts_path s start) earlier) events)
    → u.place ≡ across b.place → u.session ≡ b.session → u.body ≡ b.block
handed-whole s start earlier events b u linked in_b in_u place session =
    whole-of begun b u (numbers-once s begun ups links)
    (subst (IsIn b) (sym (begun-append s (starts_path s start) earlier events))
    (in-right b (begun_in s (starts_path s start) earlier)
    (begun_in s (path_run s (starts_path s start) earlier) events) in_b))
    (all-in (IsAsSent begun) ups (as-sent s begun ups links) u
    (subst (IsIn u) (sym (ups-append s (starts_path s start) earlier events))
    (in-right u (ups_in s (starts_path s start) earlier)
    (ups_in s (path_run s (starts_path s start) earlier) events) in_u)))
    place session
  where
    begun : List Begun
    begun = begun_in s (starts_path s start) (earlier ++ events)

    ups : List UpAt
    ups = ups_in s (starts_path s start) (earlier ++ events)

    links : (face : Face) → OneLink face s (begun_in s (starts_path s start) (earlier ++ events))
        (ups_in s (starts_path s start) (earlier ++ events))
    links face = one-link face s start (earlier ++ events) (linked.each face)
