-- Events of a drain without their moments: how many datagrams and octets they have, and their text.

use Rattle.std.proofs.Common.{◌≡◌, ℕ, zero, suc, ◌+◌, ◌<◌, ◌≤◌, ◌^◌, List, [], ◌∷◌, ◌++◌, length, take, get_or, sym, ◌∙◌, ap, arith}
use Rattle.std.proofs.lemmas.List.{append-nil, append_assoc}
use Rattle.ltp_session.specs.Engine.{Party}
use Rattle.ltp_session.specs.World.{Event, World, happens, run}
use Rattle.ltp_world.specs.declared.effects.EndEffects.{EndEffects}
use Rattle.ltp_world.specs.Drain.{done_in}
use Rattle.link_run.specs.Shows.{capped}
use Rattle.link_run.specs.WrittenLines.{count_sent, count_steps, octets_sent, octets_steps, steps_text, told_text}
use Rattle.link_run.proofs.LoopLemmas.{joined, taken}
use Rattle.link_run.proofs.StepLemmas.{event-count}

-- ---- one more at a time

count-push : (steps : List (List EndEffects)) (step : List EndEffects) → count_steps (steps ++ step ∷ []) ≡ count_steps steps + count_sent step
count-push [] step = omega arith
count-push (s ∷ ss) step = let rest = count-push ss step in omega (arith, rest)

octets-push : (steps : List (List EndEffects)) (step : List EndEffects) → octets_steps (steps ++ step ∷ []) ≡ octets_steps steps + octets_sent step
octets-push [] step = omega arith
octets-push (s ∷ ss) step = let rest = octets-push ss step in omega (arith, rest)

text-push : (k : ℕ) (steps : List (List EndEffects)) (step : List EndEffects)
    → steps_text k (steps ++ step ∷ []) ≡ steps_text k steps ++ told_text (k + count_steps steps) step
unfolding steps_text
text-push k [] step = append-nil (told_text k step) ∙ ap (λ n. told_text n step) (omega arith)
text-push k (s ∷ ss) step =
    ap (λ t. told_text k s ++ t)
    (text-push (k + count_sent s) ss step ∙ ap (λ n. steps_text (k + count_sent s) ss ++ told_text n step) (omega arith))
    ∙ sym (append_assoc (told_text k s) (steps_text (k + count_sent s) ss) (told_text (k + count_steps (s ∷ ss)) step))

-- ---- the step of each loop

pub octets-steps-more : (xs : List (List EndEffects)) (i : ℕ) (x : List EndEffects) → i < length xs → x ≡ get_or xs i x
    → octets_steps (take (i + 1) xs) ≡ octets_steps (take i xs) + octets_sent x
octets-steps-more xs i x inside is = ap octets_steps (taken xs i x inside is) ∙ octets-push (take i xs) x

pub count-steps-more : (xs : List (List EndEffects)) (i : ℕ) (x : List EndEffects) → i < length xs → x ≡ get_or xs i x
    → count_steps (take (i + 1) xs) ≡ count_steps (take i xs) + count_sent x
count-steps-more xs i x inside is = ap count_steps (taken xs i x inside is) ∙ count-push (take i xs) x

steps-front : (i : ℕ) (xs : List (List EndEffects)) → count_steps (take i xs) ≤ count_steps xs
steps-front zero xs = omega arith
steps-front (suc i) [] = omega arith
steps-front (suc i) (x ∷ xs) = let rest = steps-front i xs in omega (arith, rest)

pub steps-none : (text : List ℕ) (k : ℕ) → text ≡ text ++ steps_text k []
unfolding steps_text
steps-none text k = sym (append-nil text)

module _ (before : ℕ) (xs : List (List EndEffects)) (i : ℕ) (x : List EndEffects) (inside : i < length xs) (is : x ≡ get_or xs i x)
    (fits : before + count_steps xs < 2 ^ 64) where
  upto : before + (count_steps (take i xs) + count_sent x) < 2 ^ 64
  upto = let front = steps-front (i + 1) xs in let more = count-steps-more xs i x inside is in omega (arith, fits, front, more)

  pub steps-fits : (k : ℕ) → k ≡ before + count_steps (take i xs) → k + count_sent x < 2 ^ 64
  steps-fits k number = let few = upto in omega (arith, number, few)

  pub steps-number : (k next : ℕ) → k ≡ before + count_steps (take i xs) → next ≡ capped (k + count_sent x) → next ≡ before + count_steps (take (i + 1) xs)
  steps-number k next number step = let few = upto in let more = count-steps-more xs i x inside is in omega (arith, few, more, number, step)

  pub steps-more : (k : ℕ) (start text now : List ℕ) → k ≡ before + count_steps (take i xs) → text ≡ start ++ steps_text before (take i xs)
      → now ≡ text ++ told_text k x → now ≡ start ++ steps_text before (take (i + 1) xs)
  steps-more k start text now number so_far written =
      joined start text now (steps_text before (take i xs)) (told_text k x) (steps_text before (take (i + 1) xs)) so_far written
      (ap (steps_text before) (taken xs i x inside is)
      ∙ (text-push before (take i xs) x ∙ ap (λ n. steps_text before (take i xs) ++ told_text n x) (sym number)))

-- ---- on a link

-- how many are sent in events
pub steps-count : (parties : Party × Party) (w : World) (events : List Event)
    → length (run parties w events).sent ≡ length w.sent + count_steps (done_in parties w events)
unfolding done_in
steps-count parties w [] = omega arith
steps-count parties w (x ∷ xs) =
    let rest = steps-count parties (happens parties w x) xs in
    let one = event-count parties w x in
    omega (arith, rest, one)
