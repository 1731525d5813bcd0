-- What a sink gains, piece by piece.
use Rattle.std.proofs.Common.{◌≡◌, ℕ, ◌≤◌, List, [], ◌∷◌, ◌++◌, length, take, drop, Option, None, Some, refl, sym, ◌∙◌, ap, append_assoc, arith, IfSome, ◌<◌, length-append}
use Rattle.std.specs.Io.KnownBytes.{Consumes, Keeps, IsAtEnd}
use Rattle.std.proofs.lemmas.List.{append-nil, take-append-drop, take_at, take_all}
use Rattle.edge_traits.specs.Content.{Gains, GainsFront, Took}

pub Gains-none : {X : Type 0} (held : Option (List X)) → Gains held held []
Gains-none None = tt
Gains-none (Some xs) = sym (append-nil xs)

pub GainsFront-none : {X : Type 0} (held : Option (List X)) (xs : List X) → GainsFront held held xs
GainsFront-none None xs = tt
GainsFront-none (Some held) xs = ([], xs, refl, sym (append-nil held))

pub Gains-more : {X : Type 0} (a b c : Option (List X)) (xs ys : List X) → Gains a b xs → Gains b c ys → Gains a c (xs ++ ys)
Gains-more a b None xs ys first second = tt
Gains-more a None (Some held) xs ys first second = absurd second
Gains-more None (Some mid) (Some held) xs ys first second = absurd first
Gains-more (Some before) (Some mid) (Some held) xs ys first second =
    second ∙ ap (λ v. v ++ ys) first ∙ append_assoc before xs ys

-- what is written of a text: a front of it, and the rest that is still to come
pub record Written (before now : Option (List ℕ)) (rest text : List ℕ) : Type 0 where
  pub front : List ℕ
  pub whole : text ≡ front ++ rest
  pub gains : Gains before now front

pub Written-start : (held : Option (List ℕ)) (text : List ℕ) → Written held held text text
Written-start held text = record { front = []; whole = refl; gains = Gains-none held }

pub Written-more : (before now later : Option (List ℕ)) (rest text : List ℕ) (n : ℕ)
    → Written before now rest text → Gains now later (take n rest) → Written before later (drop n rest) text
Written-more before now later rest text n so_far more = record {
  front = so_far.front ++ take n rest;
  whole = so_far.whole ∙ ap (λ v. so_far.front ++ v) (sym (take-append-drop n rest))
      ∙ sym (append_assoc so_far.front (take n rest) (drop n rest));
  gains = Gains-more before now later so_far.front (take n rest) so_far.gains more;
}

pub Written-end : (before now : Option (List ℕ)) (rest text : List ℕ) → length rest ≡ 0
    → Written before now rest text → Gains before now text
Written-end before now [] text none so_far = rw (so_far.whole ∙ append-nil so_far.front) so_far.gains
Written-end before now (x ∷ rest) text none so_far = absurd (omega arith)

pub Written-front : (before now later : Option (List ℕ)) (rest text : List ℕ)
    → Written before now rest text → later ≡ now → GainsFront before later text
Written-front before now later rest text so_far same = rw same (front before now so_far.gains)
  where
    front : (first mid : Option (List ℕ)) → Gains first mid so_far.front → GainsFront first mid text
    front first None gains = tt
    front None (Some held) gains = absurd gains
    front (Some held_first) (Some held) gains = (so_far.front, rest, so_far.whole, gains)

pub Consumes-more : (a b c : Option (List ℕ)) (xs ys : List ℕ) → Consumes a b xs → Consumes b c ys → Consumes a c (xs ++ ys)
Consumes-more None b c xs ys first second = tt
Consumes-more (Some before) None c xs ys first second = absurd first
Consumes-more (Some before) (Some mid) None xs ys first second = absurd second
Consumes-more (Some before) (Some mid) (Some now) xs ys first second =
    first ∙ ap (λ v. xs ++ v) second ∙ sym (append_assoc xs ys now)

-- one read more
pub Consumes-took : (a b c : Option (List ℕ)) (input longer came : List ℕ)
    → Consumes a b input → Took b c came → longer ≡ input ++ came → Consumes a c longer
Consumes-took a b c input longer came so_far took is = rw is (Consumes-more a b c input came so_far took.read)

pub Consumes-none : (left : Option (List ℕ)) → Consumes left left []
Consumes-none None = tt
Consumes-none (Some left) = refl

-- what is kept is what is left, with none taken
pub Consumes-kept : (a b c : Option (List ℕ)) (taken : List ℕ) → Consumes a b taken → Keeps b c → Consumes a c taken
Consumes-kept None b c taken first kept = tt
Consumes-kept (Some before) None c taken first kept = absurd first
Consumes-kept (Some before) (Some mid) None taken first kept = absurd kept
Consumes-kept (Some before) (Some mid) (Some now) taken first kept = rw kept first

-- octets came, so there were some
pub came-some : (a b : Option (List ℕ)) (taken : List ℕ) → Consumes a b taken → 0 < length taken → IfSome a (λ left. 0 < length left)
came-some None b taken read some = tt
came-some (Some left) None taken read some = absurd read
came-some (Some left) (Some rest) taken read some = omega (arith, ap length read, length-append taken rest)

-- what was read, where it is one octet past the most, or where the end was reached
pub read_past : (a b : Option (List ℕ)) (input : List ℕ) (n : ℕ)
    → Consumes a b input → length input ≡ n → IfSome a (λ left. input ≡ take n left)
read_past None b input n read size = tt
read_past (Some left) None input n read size = absurd read
read_past (Some left) (Some rest) input n read size = rw read (sym (take_at input rest n size))

pub read_whole : (a b : Option (List ℕ)) (input : List ℕ) (n : ℕ)
    → Consumes a b input → IsAtEnd b → length input ≤ n → IfSome a (λ left. input ≡ take n left)
read_whole None b input n read ends within = tt
read_whole (Some left) None input n read ends within = absurd read
read_whole (Some left) (Some rest) input n read ends within =
    rw (read, ends, append-nil input) (sym (take_all n input within))
