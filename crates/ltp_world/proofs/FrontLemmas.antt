-- What a delivery hands up is the front of a block that was submitted, once.

use Rattle.std.proofs.Common.{◌≡◌, ℕ, List, [], ◌∷◌, ◌++◌, sym, ◌∙◌, ap, subst}
use Rattle.std.specs.List.{AllByRecursion}
use Rattle.std.proofs.lemmas.List.{append-nil, append_assoc}
use Rattle.ltp_session.specs.Engine.{Party}
use Rattle.ltp_session.specs.World.{Event, World, happens, run, starts_world, deliver}
use Rattle.ltp_laws.specs.Log.{HandUp, IsFront, IsSame, AtMostOnce, Submission, HandsUpFronts, hand_ups, hand_ups_at, submissions, submissions_at}
use Rattle.ltp_laws.proofs.LogLemmas.{red_parts_are_fronts}
use Rattle.ltp_world.specs.Values.{WorldValue, parties_of}
use Rattle.ltp_world.specs.Shows.{ShowsRun, link_after}
use Rattle.ltp_world.specs.RedParts.{IsFrontOnce}

hand_ups-more : (parties : Party × Party) (w : World) (events : List Event) (event : Event)
    → hand_ups parties w (events ++ event ∷ []) ≡ hand_ups parties w events ++ hand_ups_at parties (run parties w events) event
unfolding hand_ups
hand_ups-more parties w [] event = append-nil (hand_ups_at parties w event)
hand_ups-more parties w (e ∷ events) event =
    ap (λ rest. hand_ups_at parties w e ++ rest) (hand_ups-more parties (happens parties w e) events event)
    ∙ sym (append_assoc (hand_ups_at parties w e) (hand_ups parties (happens parties w e) events) (hand_ups_at parties (run parties (happens parties w e) events) event))

submissions-more : (parties : Party × Party) (w : World) (events : List Event) (event : Event)
    → submissions parties w (events ++ event ∷ []) ≡ submissions parties w events ++ submissions_at parties (run parties w events) event
unfolding submissions
submissions-more parties w [] event = append-nil (submissions_at parties w event)
submissions-more parties w (e ∷ events) event =
    ap (λ rest. submissions_at parties w e ++ rest) (submissions-more parties (happens parties w e) events event)
    ∙ sym (append_assoc (submissions_at parties w e) (submissions parties (happens parties w e) events) (submissions_at parties (run parties (happens parties w e) events) event))

pub all-right : {X : Type 0} (P : X → Type 0) (xs ys : List X) → AllByRecursion P (xs ++ ys) → AllByRecursion P ys
all-right P [] ys all = all
all-right P (x ∷ xs) ys all = all-right P xs ys all.1

all-each : {X : Type 0} (P : X → Type 0) → ((x : X) → P x) → (xs : List X) → AllByRecursion P xs
all-each P each [] = tt
all-each P each (x ∷ xs) = (each x, all-each P each xs)

all-both : {X : Type 0} (P Q R : X → Type 0) → ((x : X) → P x → Q x → R x) → (xs : List X) → AllByRecursion P xs → AllByRecursion Q xs → AllByRecursion R xs
all-both P Q R gives [] p q = tt
all-both P Q R gives (x ∷ xs) p q = (gives x p.0 q.0, all-both P Q R gives xs p.1 q.1)

-- what comes later isn't what came before
once-right : (xs ys : List HandUp) → AtMostOnce (xs ++ ys) → AllByRecursion (λ y. AllByRecursion (λ x. IsSame x y → ⊥) xs) ys
once-right [] ys once = all-each (λ y. Unit {0}) (λ y. tt) ys
once-right (x ∷ xs) ys once =
    all-both (λ y. IsSame x y → ⊥) (λ y. AllByRecursion (λ z. IsSame z y → ⊥) xs) (λ y. AllByRecursion (λ z. IsSame z y → ⊥) (x ∷ xs)) (λ y apart rest. (apart, rest)) ys
    (all-right (λ y. IsSame x y → ⊥) xs ys once.0) (once-right xs ys once.1)

pub delivers-fronts : (v : WorldValue) (events : List Event) (k : ℕ) → ShowsRun v events
    → AllByRecursion (IsFrontOnce v events) (hand_ups_at (parties_of v) (link_after v events) (deliver k))
delivers-fronts v events k shows =
    all-both (IsFront parties before) (λ u. AllByRecursion (λ earlier. IsSame earlier u → ⊥) (hand_ups parties w events)) (IsFrontOnce v events)
    (λ u front once. record { front = front; once = once }) now fronts
    (once-right (hand_ups parties w events) now (subst AtMostOnce (hand_ups-more parties w events (deliver k)) law.once))
  where
    parties : Party × Party
    parties = parties_of v

    w : World
    w = starts_world (parties_of v)

    before : List Submission
    before = submissions (parties_of v) (starts_world (parties_of v)) events

    now : List HandUp
    now = hand_ups_at (parties_of v) (link_after v events) (deliver k)

    law : HandsUpFronts (parties_of v) (submissions (parties_of v) (starts_world (parties_of v)) (events ++ deliver k ∷ []))
        (hand_ups (parties_of v) (starts_world (parties_of v)) (events ++ deliver k ∷ []))
    law = red_parts_are_fronts (parties_of v) (events ++ deliver k ∷ []) shows.peers

    same : submissions (parties_of v) (starts_world (parties_of v)) (events ++ deliver k ∷ []) ≡ submissions (parties_of v) (starts_world (parties_of v)) events
    same = submissions-more (parties_of v) (starts_world (parties_of v)) events (deliver k) ∙ append-nil (submissions (parties_of v) (starts_world (parties_of v)) events)

    fronts : AllByRecursion (IsFront (parties_of v) (submissions (parties_of v) (starts_world (parties_of v)) events)) (hand_ups_at (parties_of v) (link_after v events) (deliver k))
    fronts = all-right (IsFront parties before) (hand_ups parties w events) now
        (subst (λ s. AllByRecursion (IsFront parties s) (hand_ups parties w events ++ now)) same
        (subst (λ us. AllByRecursion (IsFront parties (submissions parties w (events ++ deliver k ∷ []))) us) (hand_ups-more parties w events (deliver k)) law.fronts))
