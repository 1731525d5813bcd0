-- Datagrams that are kept, and the numbers that they are told with.

use Rattle.std.proofs.Common.{◌≡◌, ℕ, ◌+◌, List, [], ◌∷◌, ◌++◌, length, refl, sym, ◌∙◌, ap, arith}
use Rattle.std.proofs.lemmas.List.{append-nil, append_assoc, length-append}
use Rattle.path_laws.specs.declared.effects.SentAt.{SentAt}
use Rattle.path_world.specs.declared.sent.Sent.{Sent}
use Rattle.path_world.specs.Values.{octets_in, sent_at, numbered}

pub numbered-append : (k : ℕ) (xs ys : List Sent) → numbered k (xs ++ ys) ≡ numbered k xs ++ numbered (k + length xs) ys
unfolding numbered
numbered-append k [] ys = ap (λ n. numbered n ys) (omega arith)
numbered-append k (x ∷ xs) ys =
    ap (λ rest. sent_at k x ∷ rest)
    (numbered-append (k + 1) xs ys ∙ ap (λ n. numbered (k + 1) xs ++ numbered n ys) (omega arith))

pub octets-more : (xs : List Sent) (x : Sent) → octets_in (xs ++ x ∷ []) ≡ octets_in xs + length x.datagram
unfolding octets_in
octets-more [] x = omega arith
octets-more (y ∷ xs) x = let rest = octets-more xs x in omega (arith, rest)

-- some were put at the end of those that were there, and told
pub record KeptSo (old new made : List Sent) (told : List SentAt) : Type 0 where
  pub kept : new ≡ old ++ made
  pub tells : told ≡ numbered (length old) made

pub kept-none : (old : List Sent) → KeptSo old old [] []
unfolding numbered
kept-none old = record { kept = sym (append-nil old); tells = refl }

pub kept-more : (old mid new made more : List Sent) (x : Sent) (told then : List SentAt) (t : SentAt) → KeptSo old mid made told
    → new ≡ mid ++ x ∷ [] → t ≡ sent_at (length mid) x → then ≡ told ++ t ∷ [] → more ≡ made ++ x ∷ [] → KeptSo old new more then
unfolding numbered
kept-more old mid new made more x told then t so new_is t_is then_is more_is = record {
  kept = new_is ∙ (ap (λ xs. xs ++ x ∷ []) so.kept ∙ (append_assoc old made (x ∷ []) ∙ ap (λ xs. old ++ xs) (sym more_is)));
  tells =
      then_is ∙ (ap (λ ts. ts ++ t ∷ []) so.tells
      ∙ (ap (λ u. numbered (length old) made ++ u ∷ []) (t_is ∙ ap (λ n. sent_at n x) size)
      ∙ (sym (numbered-append (length old) made (x ∷ [])) ∙ ap (λ xs. numbered (length old) xs) (sym more_is))));
} where
  size : length mid ≡ length old + length made
  size = ap (λ (xs : List Sent). length xs) so.kept ∙ length-append old made

-- the number of octets, once a datagram was put at the end
pub octets-pushed : (old new : List Sent) (x : Sent) (was now : ℕ) → was ≡ octets_in old → now ≡ was + length x.datagram → new ≡ old ++ x ∷ [] → now ≡ octets_in new
octets-pushed old new x was now counted added pushed = added ∙ (ap (λ n. n + length x.datagram) counted ∙ (sym (octets-more old x) ∙ sym (ap octets_in pushed)))
