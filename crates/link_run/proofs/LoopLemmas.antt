-- The step of each loop that counts or writes.

use Rattle.std.proofs.Common.{◌≡◌, ℕ, zero, suc, ◌+◌, ◌<◌, ◌≤◌, ◌^◌, Bool, List, [], ◌∷◌, ◌++◌, length, take, get_or, sym, ◌∙◌, ap, arith}
use Rattle.std.proofs.lemmas.List.{append-nil, append_assoc, length-take-le, take_more}
use Rattle.ltp_world.specs.declared.effects.EndEffects.{EndEffects}
use Rattle.ltp_world.specs.declared.ends.End.{End}
use Rattle.window_world.specs.declared.effects.At.{At}
use Rattle.link_run.specs.Shows.{capped}
use Rattle.link_run.specs.WrittenLines.{count_sent, count_timed, if_moved, octets_of, octets_sent, octets_timed, out_lines, sent_line, sent_lines, timed_text, told_text}
use Rattle.link_run.proofs.TextLemmas.{count-push, last-push, last_moment, octets-push, out-push, sent-octets-push, sent-push, timed-count-push, timed-octets-push, timed-push}

-- one more is taken
pub taken : {X : Type 0} (xs : List X) (i : ℕ) (x : X) → i < length xs → x ≡ get_or xs i x → take (i + 1) xs ≡ take i xs ++ x ∷ []
taken xs i x inside is = take_more xs i x inside ∙ ap (λ y. take i xs ++ y ∷ []) (sym is)

-- ---- counts

pub capped-step : (start so one sum next all : ℕ) → sum ≡ capped (start + so) → next ≡ capped (sum + one) → all ≡ so + one → next ≡ capped (start + all)
capped-step start so one sum next all before step is = omega (arith, before, step, is)

pub octets-of-more : (xs : List (List ℕ)) (i : ℕ) (x : List ℕ) → i < length xs → x ≡ get_or xs i x → octets_of (take (i + 1) xs) ≡ octets_of (take i xs) + length x
octets-of-more xs i x inside is = ap octets_of (taken xs i x inside is) ∙ octets-push (take i xs) x

pub octets-sent-more : (xs : List EndEffects) (i : ℕ) (x : EndEffects) → i < length xs → x ≡ get_or xs i x
    → octets_sent (take (i + 1) xs) ≡ octets_sent (take i xs) + octets_of x.effects.out
octets-sent-more xs i x inside is = ap octets_sent (taken xs i x inside is) ∙ sent-octets-push (take i xs) x

pub count-sent-more : (xs : List EndEffects) (i : ℕ) (x : EndEffects) → i < length xs → x ≡ get_or xs i x
    → count_sent (take (i + 1) xs) ≡ count_sent (take i xs) + length x.effects.out
count-sent-more xs i x inside is = ap count_sent (taken xs i x inside is) ∙ count-push (take i xs) x

pub octets-timed-more : (xs : List At) (i : ℕ) (x : At) → i < length xs → x ≡ get_or xs i x
    → octets_timed (take (i + 1) xs) ≡ octets_timed (take i xs) + octets_sent x.effects
octets-timed-more xs i x inside is = ap octets_timed (taken xs i x inside is) ∙ timed-octets-push (take i xs) x

pub count-timed-more : (xs : List At) (i : ℕ) (x : At) → i < length xs → x ≡ get_or xs i x
    → count_timed (take (i + 1) xs) ≡ count_timed (take i xs) + count_sent x.effects
count-timed-more xs i x inside is = ap count_timed (taken xs i x inside is) ∙ timed-count-push (take i xs) x

-- no more are sent by a front than by all
count-front : (i : ℕ) (xs : List EndEffects) → count_sent (take i xs) ≤ count_sent xs
count-front zero xs = omega arith
count-front (suc i) [] = omega arith
count-front (suc i) (x ∷ xs) = let rest = count-front i xs in omega (arith, rest)

timed-front : (i : ℕ) (xs : List At) → count_timed (take i xs) ≤ count_timed xs
timed-front zero xs = omega arith
timed-front (suc i) [] = omega arith
timed-front (suc i) (x ∷ xs) = let rest = timed-front i xs in omega (arith, rest)

-- ---- texts

pub joined : (start text now front one whole : List ℕ) → text ≡ start ++ front → now ≡ text ++ one → whole ≡ front ++ one → now ≡ start ++ whole
joined start text now front one whole so_far written is =
    written ∙ (ap (λ t. t ++ one) so_far ∙ (append_assoc start front one ∙ ap (λ t. start ++ t) (sym is)))

pub out-none : (text : List ℕ) (k : ℕ) (end : End) → text ≡ text ++ out_lines k end []
unfolding out_lines
out-none text k end = sym (append-nil text)

pub sent-none : (text : List ℕ) (k : ℕ) → text ≡ text ++ sent_lines k []
unfolding sent_lines
sent-none text k = sym (append-nil text)

pub timed-none : (text : List ℕ) (windows : Bool) (moment k : ℕ) → text ≡ text ++ timed_text windows moment k []
unfolding timed_text
timed-none text windows moment k = sym (append-nil text)

pub next-number : (before n i k next : ℕ) → before + n < 2 ^ 64 → i < n → k ≡ before + i → next ≡ capped (k + 1) → next ≡ before + (i + 1)
next-number before n i k next fits inside so_far step = omega (arith, fits, inside, so_far, step)

pub out-more : (before : ℕ) (end : End) (xs : List (List ℕ)) (i k : ℕ) (x start text now : List ℕ) → i < length xs → x ≡ get_or xs i x
    → k ≡ before + i → text ≡ start ++ out_lines before end (take i xs) → now ≡ text ++ sent_line k end x
    → now ≡ start ++ out_lines before end (take (i + 1) xs)
out-more before end xs i k x start text now inside is number so_far written =
    joined start text now (out_lines before end (take i xs)) (sent_line k end x) (out_lines before end (take (i + 1) xs)) so_far written
    (ap (out_lines before end) (taken xs i x inside is)
    ∙ (out-push before end (take i xs) x ∙ ap (λ n. out_lines before end (take i xs) ++ sent_line n end x) numbers))
  where
    numbers : before + length (take i xs) ≡ k
    numbers = let many = length-take-le i xs (omega (arith, inside)) in omega (arith, many, number)

module _ (before : ℕ) (xs : List EndEffects) (i : ℕ) (x : EndEffects) (inside : i < length xs) (is : x ≡ get_or xs i x) (fits : before + count_sent xs < 2 ^ 64) where
  upto : before + (count_sent (take i xs) + length x.effects.out) < 2 ^ 64
  upto = let front = count-front (i + 1) xs in let more = count-sent-more xs i x inside is in omega (arith, fits, front, more)

  pub sent-fits : (k : ℕ) → k ≡ before + count_sent (take i xs) → k + length x.effects.out < 2 ^ 64
  sent-fits k number = let few = upto in omega (arith, number, few)

  pub sent-number : (k next : ℕ) → k ≡ before + count_sent (take i xs) → next ≡ capped (k + length x.effects.out) → next ≡ before + count_sent (take (i + 1) xs)
  sent-number k next number step = let few = upto in let more = count-sent-more xs i x inside is in omega (arith, few, more, number, step)

  pub sent-more : (k : ℕ) (start text now : List ℕ) → k ≡ before + count_sent (take i xs) → text ≡ start ++ sent_lines before (take i xs)
      → now ≡ text ++ out_lines k x.end x.effects.out → now ≡ start ++ sent_lines before (take (i + 1) xs)
  sent-more k start text now number so_far written =
      joined start text now (sent_lines before (take i xs)) (out_lines k x.end x.effects.out) (sent_lines before (take (i + 1) xs)) so_far written
      (ap (sent_lines before) (taken xs i x inside is)
      ∙ (sent-push before (take i xs) x ∙ ap (λ n. sent_lines before (take i xs) ++ out_lines n x.end x.effects.out) (sym number)))

module _ (windows : Bool) (moment before : ℕ) (xs : List At) (i : ℕ) (x : At) (inside : i < length xs) (is : x ≡ get_or xs i x) where
  pub shown-more : x.now ≡ last_moment moment (take (i + 1) xs)
  shown-more = sym (ap (last_moment moment) (taken xs i x inside is) ∙ last-push moment (take i xs) x)

  module _ (fits : before + count_timed xs < 2 ^ 64) where
    timed-upto : before + (count_timed (take i xs) + count_sent x.effects) < 2 ^ 64
    timed-upto = let front = timed-front (i + 1) xs in let more = count-timed-more xs i x inside is in omega (arith, fits, front, more)

    pub timed-fits : (k : ℕ) → k ≡ before + count_timed (take i xs) → k + count_sent x.effects < 2 ^ 64
    timed-fits k number = let few = timed-upto in omega (arith, number, few)

    pub timed-number : (k next : ℕ) → k ≡ before + count_timed (take i xs) → next ≡ capped (k + count_sent x.effects) → next ≡ before + count_timed (take (i + 1) xs)
    timed-number k next number step = let few = timed-upto in let more = count-timed-more xs i x inside is in omega (arith, few, more, number, step)

  pub timed-more : (shown k : ℕ) (start text moved now : List ℕ) → shown ≡ last_moment moment (take i xs) → k ≡ before + count_timed (take i xs)
      → text ≡ start ++ timed_text windows moment before (take i xs) → moved ≡ text ++ if_moved windows shown x.now → now ≡ moved ++ told_text k x.effects
      → now ≡ start ++ timed_text windows moment before (take (i + 1) xs)
  timed-more shown k start text moved now shows number so_far at told =
      joined start text now (timed_text windows moment before (take i xs)) (if_moved windows shown x.now ++ told_text k x.effects)
      (timed_text windows moment before (take (i + 1) xs)) so_far
      (told ∙ (ap (λ t. t ++ told_text k x.effects) at ∙ append_assoc text (if_moved windows shown x.now) (told_text k x.effects)))
      (ap (timed_text windows moment before) (taken xs i x inside is)
      ∙ (timed-push windows moment before (take i xs) x
      ∙ (ap (λ n. timed_text windows moment before (take i xs) ++ (if_moved windows (last_moment moment (take i xs)) x.now ++ told_text n x.effects)) (sym number)
      ∙ ap (λ n. timed_text windows moment before (take i xs) ++ (if_moved windows n x.now ++ told_text k x.effects)) (sym shows))))
