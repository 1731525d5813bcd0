-- Of what is new in a session: what neither cancels nor answers a cancel, and what the others take.

use Rattle.std.proofs.Common.{◌≡◌, ℕ, ◌+◌, Bool, true, false, List, [], ◌∷◌, ◌++◌, inl, inr, refl}
use Rattle.std.proofs.Common.{ap, arith, if◌then◌else◌}
use Rattle.ltp_segment.specs.Values.{ContentValue, a_piece, a_report, a_report_ack}
use Rattle.ltp_segment.specs.Values.{a_sender_cancel, a_sender_cancel_ack, a_receiver_cancel}
use Rattle.ltp_segment.specs.Values.{a_receiver_cancel_ack}
use Rattle.ltp_drain.specs.Calm.{NoCancels, is_cancel}

-- ---- what neither cancels nor answers a cancel

unfoldable pub plain : List ContentValue → List ContentValue
plain [] = []
plain (c ∷ cs) = if is_cancel c then plain cs else c ∷ plain cs

pub all-plain : (cs : List ContentValue) → NoCancels cs → plain cs ≡ cs
unfolding plain
all-plain [] none = refl
all-plain (c ∷ cs) none =
    rw (none c (inl refl), all-plain cs (λ d among. none d (inr among))) refl

pub plain-cancel : (c : ContentValue) (cs : List ContentValue) → is_cancel c ≡ true
    → plain (c ∷ cs) ≡ plain cs
unfolding plain
plain-cancel c cs is = rw is refl

pub plain-other : (c : ContentValue) (cs : List ContentValue) → is_cancel c ≡ false
    → plain (c ∷ cs) ≡ c ∷ plain cs
unfolding plain
plain-other c cs is = rw is refl

pub plain-append : (xs ys : List ContentValue) → plain (xs ++ ys) ≡ plain xs ++ plain ys
unfolding plain
plain-append [] ys = refl
plain-append (x ∷ xs) ys = by_test (is_cancel x) (plain-append xs ys)
  where
    by_test : (b : Bool) → plain (xs ++ ys) ≡ plain xs ++ plain ys
        → (if b then plain (xs ++ ys) else x ∷ plain (xs ++ ys))
        ≡ (if b then plain xs else x ∷ plain xs) ++ plain ys
    by_test true rest = rest
    by_test false rest = ap (λ (cs : List ContentValue). x ∷ cs) rest

pub none-right : (xs ys : List ContentValue) → NoCancels (xs ++ ys) → NoCancels ys
none-right [] ys none = none
none-right (x ∷ xs) ys none = none-right xs ys (λ c among. none c (inr among))

-- ---- a cancel that came once more is answered, and the answer comes

abbrev pub echo : ContentValue → ℕ
echo (a_piece q) = 0
echo (a_report x) = 0
echo (a_report_ack serial) = 0
echo (a_sender_cancel reason) = 2
echo a_sender_cancel_ack = 1
echo (a_receiver_cancel reason) = 2
echo a_receiver_cancel_ack = 1

unfoldable pub echoes : List ContentValue → ℕ
echoes [] = 0
echoes (c ∷ cs) = echo c + echoes cs

pub echoes-none : (cs : List ContentValue) → NoCancels cs → echoes cs ≡ 0
unfolding echoes
echoes-none [] none = refl
echoes-none (c ∷ cs) none =
    omega (arith, silent c (none c (inl refl)), echoes-none cs (λ d among. none d (inr among)))
  where
    silent : (c : ContentValue) → is_cancel c ≡ false → echo c ≡ 0
    silent (a_piece q) is = refl
    silent (a_report x) is = refl
    silent (a_report_ack serial) is = refl
    silent (a_sender_cancel reason) is = absurd (cc)
    silent a_sender_cancel_ack is = absurd (cc)
    silent (a_receiver_cancel reason) is = absurd (cc)
    silent a_receiver_cancel_ack is = absurd (cc)

pub echoes-append : (xs ys : List ContentValue) → echoes (xs ++ ys) ≡ echoes xs + echoes ys
unfolding echoes
echoes-append [] ys = omega arith
echoes-append (x ∷ xs) ys = omega (arith, echoes-append xs ys)

pub echoes-first : (c : ContentValue) (cs : List ContentValue)
    → echoes (c ∷ cs) ≡ echo c + echoes cs
unfolding echoes
echoes-first c cs = refl
