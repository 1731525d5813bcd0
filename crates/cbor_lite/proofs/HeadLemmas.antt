-- What `head_at` gives is what the definition of heads says.
use Rattle.std.proofs.Common.{suc, inl, inr, ◌≡◌, ℕ, ◌+◌, ◌-◌, ◌/◌, ◌%◌, ◌^◌, ◌<◌, ◌≤◌, ◌≢◌, List, [], ◌∷◌, ◌++◌, length, take, drop, get_or, Ok, Err, refl, sym, ap, ◌∙◌, subst, arith, length-append, length-take, get_or-take}
use Rattle.std.proofs.lemmas.List.{get_or_past, take-append-drop, length-take-le}
use Rattle.std.specs.Int.{Width, w8, w16, w32, w64, byte_len, to_be_bytes, from_be_bytes}
use Rattle.std.proofs.lemmas.Nat.{be_bytes_2, be_bytes_4, be_bytes_8, from_be_bytes-to_be_bytes_2, from_be_bytes-to_be_bytes_4, from_be_bytes-to_be_bytes_8}
use Rattle.std.proofs.lemmas.Bool.{le-ltb, lt-ltb, eq-eqb, ne_eqb, cases_lt, cases_eq}
use Rattle.std.proofs.Math.Seq.{take-append_seam}
use Rattle.cbor_lite.specs.declared.fault.CborFault.TheVariants.{Kind, Short, NotShortest}
use Rattle.cbor_lite.specs.Head.{first_octet, head, SpellsHead, SaysHead, in_first, in_one, in_two, in_four, in_eight, HasOtherKind, HasLongHead, AnswersHead, EndsInsideHead, shortest, number_in, number_at, head_at, kind_of}

-- ---- what is spelled is found

-- octets that stand after the first one of a head
pub number_in-front : (width : Width) (least n : ℕ) (front rest : List ℕ)
    → length front ≡ byte_len width → from_be_bytes width front ≡ n → least ≤ n
    → number_in width least (front ++ rest) ≡ Ok (n, 1 + byte_len width)
number_in-front width least n front rest size value high =
    let long : byte_len width ≤ length (front ++ rest) = omega (arith, length-append front rest) in
    let here : take (byte_len width) (front ++ rest) ≡ front = subst (λ k. take k (front ++ rest) ≡ front) size (take-append_seam front rest) in
    rw (le-ltb (length (front ++ rest)) (byte_len width) long, here, value, le-ltb n least high) refl

-- a first octet, taken apart again
pub head_at-first : (kind information : ℕ) (rest : List ℕ) → information < 32
    → head_at kind (first_octet kind information ∷ rest) ≡ number_at information rest
unfolding head_at
head_at-first kind information rest small =
    let high : first_octet kind information / 32 ≡ kind = omega arith in
    let low : first_octet kind information % 32 ≡ information = omega arith in
    rw (high, low, eq-eqb kind kind refl) refl

head_at-wide : (kind information n : ℕ) (width : Width) (least : ℕ) (rest : List ℕ) → information < 32
    → length (to_be_bytes width n) ≡ byte_len width → from_be_bytes width (to_be_bytes width n) ≡ n → least ≤ n
    → ((after : List ℕ) → number_at information after ≡ number_in width least after)
    → head_at kind (first_octet kind information ∷ (to_be_bytes width n ++ rest)) ≡ Ok (n, 1 + byte_len width)
head_at-wide kind information n width least rest small size value high is =
    head_at-first kind information (to_be_bytes width n ++ rest) small
    ∙ (is (to_be_bytes width n ++ rest) ∙ number_in-front width least n (to_be_bytes width n) rest size value high)

-- what is spelled is found, whatever follows
pub head_at-head : (kind n : ℕ) (rest : List ℕ) → n < 2 ^ 64
    → head_at kind (head kind n ++ rest) ≡ Ok (n, length (head kind n))
head_at-head kind n rest small =
    elim (cases_lt n 24) [
      | inl a ↦ rw (lt-ltb n 24 a) (head_at-first kind n rest (omega arith) ∙ rw (lt-ltb n 24 a) refl)
      | inr a ↦ rw (le-ltb n 24 a) (elim (cases_lt n (2 ^ 8)) [
        | inl b ↦ rw (lt-ltb n (2 ^ 8) b) (head_at-wide kind 24 n w8 24 rest (omega arith) refl (omega arith) a (λ _. refl))
        | inr b ↦ rw (le-ltb n (2 ^ 8) b) (elim (cases_lt n (2 ^ 16)) [
          | inl c ↦ rw (lt-ltb n (2 ^ 16) c) (head_at-wide kind 25 n w16 (2 ^ 8) rest (omega arith) refl (from_be_bytes-to_be_bytes_2 n c) b (λ _. refl))
          | inr c ↦ rw (le-ltb n (2 ^ 16) c) (elim (cases_lt n (2 ^ 32)) [
            | inl d ↦ rw (lt-ltb n (2 ^ 32) d) (head_at-wide kind 26 n w32 (2 ^ 16) rest (omega arith) refl (from_be_bytes-to_be_bytes_4 n d) c (λ _. refl))
            | inr d ↦ rw (le-ltb n (2 ^ 32) d) (head_at-wide kind 27 n w64 (2 ^ 32) rest (omega arith) refl (from_be_bytes-to_be_bytes_8 n small) d (λ _. refl))
          ])
        ])
      ])
    ]

pub head_at-only : (kind : ℕ) (u rest : List ℕ) (n : ℕ) → SpellsHead kind u n
    → head_at kind (u ++ rest) ≡ Ok (n, length u)
head_at-only kind u rest n spells = rw spells.spelt (head_at-head kind n rest spells.small)

-- ---- each answer says what it says

-- each item of a text is an octet
abbrev pub AreOctets : List ℕ → Type 0
AreOctets w = (i : ℕ) → get_or w i 0 < 256

AreOctets-take : (k : ℕ) (w : List ℕ) → AreOctets w → AreOctets (take k w)
AreOctets-take k w small i = elim (cases_lt i k) [
  | inl inside ↦ rw (get_or-take k w i 0 inside) (small i)
  | inr past ↦ rw (get_or_past (take k w) i 0 (omega (arith, length-take k w))) (omega arith)
]

below_8 : (bs : List ℕ) → AreOctets bs → from_be_bytes w8 bs < 2 ^ 8
below_8 bs small = omega (arith, small 0)

below_16 : (bs : List ℕ) → AreOctets bs → from_be_bytes w16 bs < 2 ^ 16
below_16 bs small = omega (arith, small 0, small 1)

below_32 : (bs : List ℕ) → AreOctets bs → from_be_bytes w32 bs < 2 ^ 32
below_32 bs small = omega (arith, small 0, small 1, small 2, small 3)

below_64 : (bs : List ℕ) → AreOctets bs → from_be_bytes w64 bs < 2 ^ 64
below_64 bs small = omega (arith, small 0, small 1, small 2, small 3, small 4, small 5, small 6, small 7)

back_8 : (bs : List ℕ) → length bs ≡ 1 → AreOctets bs → to_be_bytes w8 (from_be_bytes w8 bs) ≡ bs
back_8 [] size small = cc
back_8 (b ∷ []) size small = let same : b % 256 ≡ b = omega (arith, small 0) in rw same refl
back_8 (b ∷ (d ∷ bs)) size small = absurd (omega arith)

-- the lengths of short heads
head-1 : (kind n : ℕ) → n < 24 → length (head kind n) ≡ 1
head-1 kind n a = rw (lt-ltb n 24 a) refl

head-2 : (kind n : ℕ) → n < 2 ^ 8 → length (head kind n) ≤ 2
head-2 kind n b = elim (cases_lt n 24) [ inl a ↦ omega (arith, head-1 kind n a) | inr a ↦ rw (le-ltb n 24 a, lt-ltb n (2 ^ 8) b) (omega arith) ]

head-3 : (kind n : ℕ) → n < 2 ^ 16 → length (head kind n) ≤ 3
head-3 kind n c = elim (cases_lt n (2 ^ 8)) [
  | inl b ↦ omega (arith, head-2 kind n b)
  | inr b ↦
      let a : 24 ≤ n = omega arith in rw (le-ltb n 24 a, le-ltb n (2 ^ 8) b, lt-ltb n (2 ^ 16) c) (omega arith)
]

head-5 : (kind n : ℕ) → n < 2 ^ 32 → length (head kind n) ≤ 5
head-5 kind n d = elim (cases_lt n (2 ^ 16)) [
  | inl c ↦ omega (arith, head-3 kind n c)
  | inr c ↦
      let a : 24 ≤ n = omega arith in let b : 2 ^ 8 ≤ n = omega arith in
      rw (le-ltb n 24 a, le-ltb n (2 ^ 8) b, le-ltb n (2 ^ 16) c, lt-ltb n (2 ^ 32) d) (omega arith)
]

-- a form of the head: these octets after the first one, and from this number on
record Form (information : ℕ) (width : Width) (least : ℕ) : Type 0 where
  size : byte_len width ≡ 2 ^ (information - 24)
  back : (bs : List ℕ) → length bs ≡ byte_len width → AreOctets bs → to_be_bytes width (from_be_bytes width bs) ≡ bs
  says : (kind : ℕ) (bs : List ℕ) → AreOctets bs
      → SaysHead kind (from_be_bytes width bs) (first_octet kind information ∷ to_be_bytes width (from_be_bytes width bs))
  below : (bs : List ℕ) → AreOctets bs → from_be_bytes width bs < 2 ^ 64
  shorter : (kind n : ℕ) → n < least → length (head kind n) < 1 + byte_len width
  spelt : (kind : ℕ) (bs : List ℕ) → AreOctets bs → least ≤ from_be_bytes width bs
      → first_octet kind information ∷ to_be_bytes width (from_be_bytes width bs) ≡ head kind (from_be_bytes width bs)

form_8 : Form 24 w8 24
form_8 = record {
  size = refl;
  back = back_8;
  says = λ kind bs small. in_one (below_8 bs small);
  below = λ bs small. omega (arith, below_8 bs small);
  shorter = λ kind n low. omega (arith, head-1 kind n low);
  spelt = λ kind bs small high. let n = from_be_bytes w8 bs in rw (le-ltb n 24 high, lt-ltb n (2 ^ 8) (below_8 bs small)) refl;
}

form_16 : Form 25 w16 (2 ^ 8)
form_16 = record {
  size = refl;
  back = λ bs size small. be_bytes_2 bs _ size small refl;
  says = λ kind bs small. in_two (below_16 bs small);
  below = λ bs small. omega (arith, below_16 bs small);
  shorter = λ kind n low. omega (arith, head-2 kind n low);
  spelt = λ kind bs small high. let n = from_be_bytes w16 bs in let a : 24 ≤ n = omega arith in
      rw (le-ltb n 24 a, le-ltb n (2 ^ 8) high, lt-ltb n (2 ^ 16) (below_16 bs small)) refl;
}

form_32 : Form 26 w32 (2 ^ 16)
form_32 = record {
  size = refl;
  back = λ bs size small. be_bytes_4 bs _ size small refl;
  says = λ kind bs small. in_four (below_32 bs small);
  below = λ bs small. omega (arith, below_32 bs small);
  shorter = λ kind n low. omega (arith, head-3 kind n low);
  spelt = λ kind bs small high. let n = from_be_bytes w32 bs in let a : 24 ≤ n = omega arith in let b : 2 ^ 8 ≤ n = omega arith in
      rw (le-ltb n 24 a, le-ltb n (2 ^ 8) b, le-ltb n (2 ^ 16) high, lt-ltb n (2 ^ 32) (below_32 bs small)) refl;
}

form_64 : Form 27 w64 (2 ^ 32)
form_64 = record {
  size = refl;
  back = λ bs size small. be_bytes_8 bs _ size small refl;
  says = λ kind bs small. in_eight (below_64 bs small);
  below = below_64;
  shorter = λ kind n low. omega (arith, head-5 kind n low);
  spelt = λ kind bs small high. let n = from_be_bytes w64 bs in let a : 24 ≤ n = omega arith in let b : 2 ^ 8 ≤ n = omega arith in let c : 2 ^ 16 ≤ n = omega arith in
      rw (le-ltb n 24 a, le-ltb n (2 ^ 8) b, le-ltb n (2 ^ 16) c, le-ltb n (2 ^ 32) high) refl;
}

AreOctets-rest : (first : ℕ) (rest : List ℕ) → AreOctets (first ∷ rest) → AreOctets rest
AreOctets-rest first rest small i = small (suc i)

-- a head whose number stands after its first octet
answers-number : (kind information : ℕ) (width : Width) (least : ℕ) → Form information width least
    → (rest : List ℕ) → AreOctets rest → information < 32 → 24 ≤ information → information ≤ 27
    → AnswersHead kind (first_octet kind information ∷ rest) (number_in width least rest)
answers-number kind information width least form rest small fits low high =
    let is_kind : first_octet kind information / 32 ≡ kind = omega arith in
    let is_information : first_octet kind information % 32 ≡ information = omega arith in
    let octets : List ℕ = take (byte_len width) rest in
    let after : List ℕ = drop (byte_len width) rest in
    let number : ℕ = from_be_bytes width octets in
    let small_octets : AreOctets octets = AreOctets-take (byte_len width) rest small in
    let size : 1 + byte_len width ≡ suc (byte_len width) = omega arith in
    elim (cases_lt (length rest) (byte_len width)) [
      | inl ends ↦ rw (lt-ltb (length rest) (byte_len width) ends)
          (is_kind, rw is_information low, rw is_information high, rw (is_information, ← form.size) ends)
      | inr whole ↦
          let back : to_be_bytes width number ≡ octets = form.back octets (length-take-le (byte_len width) rest whole) small_octets in
          rw (le-ltb (length rest) (byte_len width) whole) (elim (cases_lt number least) [
            | inl long ↦ rw (lt-ltb number least long) (record {
              front = first_octet kind information ∷ octets;
              after = after;
              number = number;
              parts = ap (λ (t : List ℕ). first_octet kind information ∷ t) (sym (take-append-drop (byte_len width) rest));
              says = subst (λ (t : List ℕ). SaysHead kind number (first_octet kind information ∷ t)) back (form.says kind octets small_octets);
              shorter = omega (arith, form.shorter kind number long, length-take-le (byte_len width) rest whole);
            })
            | inr shortest ↦ rw (le-ltb number least shortest, size) (
              omega arith,
              record {
                small = form.below octets small_octets;
                spelt = subst (λ (t : List ℕ). first_octet kind information ∷ t ≡ head kind number) back (form.spelt kind octets small_octets shortest);
              },
            )
          ])
    ]

answers-at : (kind information : ℕ) (rest : List ℕ) → information < 32 → AreOctets rest
    → AnswersHead kind (first_octet kind information ∷ rest) (number_at information rest)
answers-at kind information rest fits small =
    let is_information : first_octet kind information % 32 ≡ information = omega arith in
    elim (cases_lt information 24) [
      | inl low ↦ rw (lt-ltb information 24 low) (omega arith, record { small = omega arith; spelt = rw (lt-ltb information 24 low) refl })
      | inr high ↦ elim (cases_eq information 24) [
        | inl is ↦ rw is (answers-number kind 24 w8 24 form_8 rest small (omega arith) (omega arith) (omega arith))
        | inr not_24 ↦ elim (cases_eq information 25) [
          | inl is ↦ rw is (answers-number kind 25 w16 (2 ^ 8) form_16 rest small (omega arith) (omega arith) (omega arith))
          | inr not_25 ↦ elim (cases_eq information 26) [
            | inl is ↦ rw is (answers-number kind 26 w32 (2 ^ 16) form_32 rest small (omega arith) (omega arith) (omega arith))
            | inr not_26 ↦ elim (cases_eq information 27) [
              | inl is ↦ rw is (answers-number kind 27 w64 (2 ^ 32) form_64 rest small (omega arith) (omega arith) (omega arith))
              | inr not_27 ↦
                  rw (le-ltb information 24 high, ne_eqb information 24 not_24, ne_eqb information 25 not_25, ne_eqb information 26 not_26, ne_eqb information 27 not_27)
                  (inr (omega arith))
            ]
          ]
        ]
      ]
    ]

-- what is found says what it says, and each fault has its reason
pub head_at-answers : (kind : ℕ) (w : List ℕ) → AreOctets w → AnswersHead kind w (head_at kind w)
unfolding head_at
head_at-answers kind [] small = tt
head_at-answers kind (first ∷ rest) small =
    elim (cases_eq (first / 32) kind) [
      | inl is ↦
          let whole : first_octet kind (first % 32) ≡ first = omega arith in
          rw (eq-eqb (first / 32) kind is) (subst (λ (x : ℕ). AnswersHead kind (x ∷ rest) (number_at (first % 32) rest)) whole
          (answers-at kind (first % 32) rest (omega arith) (AreOctets-rest first rest small)))
      | inr other ↦ rw (ne_eqb (first / 32) kind other) (inl other)
    ]

-- ---- each reason has its fault

pub head_at-other : (kind : ℕ) (w : List ℕ) → HasOtherKind kind w → head_at kind w ≡ Err Kind
unfolding head_at
head_at-other kind [] other = absurd other
head_at-other kind (first ∷ rest) (inl other) = rw (ne_eqb (first / 32) kind other) refl
head_at-other kind (first ∷ rest) (inr high) =
    elim (cases_eq (first / 32) kind) [
      | inl is ↦
          let a : 24 ≤ first % 32 = omega arith in
          let b : first % 32 ≢ 24 = λ e. omega arith in
          let c : first % 32 ≢ 25 = λ e. omega arith in
          let d : first % 32 ≢ 26 = λ e. omega arith in
          let e : first % 32 ≢ 27 = λ e. omega arith in
          rw (eq-eqb (first / 32) kind is, le-ltb (first % 32) 24 a, ne_eqb (first % 32) 24 b, ne_eqb (first % 32) 25 c, ne_eqb (first % 32) 26 d, ne_eqb (first % 32) 27 e) refl
      | inr other ↦ rw (ne_eqb (first / 32) kind other) refl
    ]

number_in-ends : (width : Width) (least : ℕ) (rest : List ℕ) → length rest < byte_len width
    → number_in width least rest ≡ Err Short
number_in-ends width least rest ends = rw (lt-ltb (length rest) (byte_len width) ends) refl

number_at-ends : (information : ℕ) (rest : List ℕ) → 24 ≤ information → information ≤ 27
    → length rest < 2 ^ (information - 24) → number_at information rest ≡ Err Short
number_at-ends information rest low high ends =
    elim (cases_eq information 24) [
      | inl is ↦ rw is (number_in-ends w8 24 rest (rw is at ends))
      | inr not_24 ↦ elim (cases_eq information 25) [
        | inl is ↦ rw is (number_in-ends w16 (2 ^ 8) rest (rw is at ends))
        | inr not_25 ↦ elim (cases_eq information 26) [
          | inl is ↦ rw is (number_in-ends w32 (2 ^ 16) rest (rw is at ends))
          | inr not_26 ↦ elim (cases_eq information 27) [
            | inl is ↦ rw is (number_in-ends w64 (2 ^ 32) rest (rw is at ends))
            | inr not_27 ↦ absurd (omega arith)
          ]
        ]
      ]
    ]

pub head_at-ends : (kind : ℕ) (w : List ℕ) → EndsInsideHead kind w → head_at kind w ≡ Err Short
unfolding head_at
head_at-ends kind [] ends = refl
head_at-ends kind (first ∷ rest) (is, low, high, ends) =
    rw (eq-eqb (first / 32) kind is) (number_at-ends (first % 32) rest low high ends)

-- a number that needs fewer octets
number_in-long : (width : Width) (least n : ℕ) (front rest : List ℕ)
    → length front ≡ byte_len width → from_be_bytes width front ≡ n → n < least
    → number_in width least (front ++ rest) ≡ Err NotShortest
number_in-long width least n front rest size value low =
    let long : byte_len width ≤ length (front ++ rest) = omega (arith, length-append front rest) in
    let here : take (byte_len width) (front ++ rest) ≡ front = subst (λ k. take k (front ++ rest) ≡ front) size (take-append_seam front rest) in
    rw (le-ltb (length (front ++ rest)) (byte_len width) long, here, value, lt-ltb n least low) refl

from-24 : (kind n : ℕ) → 24 ≤ n → 2 ≤ length (head kind n)
from-24 kind n a = rw (le-ltb n 24 a) (elim (cases_lt n (2 ^ 8)) [
  | inl b ↦ rw (lt-ltb n (2 ^ 8) b) (omega arith)
  | inr b ↦ rw (le-ltb n (2 ^ 8) b) (elim (cases_lt n (2 ^ 16)) [
    | inl c ↦ rw (lt-ltb n (2 ^ 16) c) (omega arith)
    | inr c ↦ rw (le-ltb n (2 ^ 16) c) (elim (cases_lt n (2 ^ 32)) [
      | inl d ↦ rw (lt-ltb n (2 ^ 32) d) (omega arith)
      | inr d ↦ rw (le-ltb n (2 ^ 32) d) (omega arith)
    ])
  ])
])

from-8 : (kind n : ℕ) → 2 ^ 8 ≤ n → 3 ≤ length (head kind n)
from-8 kind n b = let a : 24 ≤ n = omega arith in rw (le-ltb n 24 a, le-ltb n (2 ^ 8) b) (elim (cases_lt n (2 ^ 16)) [
  | inl c ↦ rw (lt-ltb n (2 ^ 16) c) (omega arith)
  | inr c ↦ rw (le-ltb n (2 ^ 16) c) (elim (cases_lt n (2 ^ 32)) [
    | inl d ↦ rw (lt-ltb n (2 ^ 32) d) (omega arith)
    | inr d ↦ rw (le-ltb n (2 ^ 32) d) (omega arith)
  ])
])

from-16 : (kind n : ℕ) → 2 ^ 16 ≤ n → 5 ≤ length (head kind n)
from-16 kind n c = let a : 24 ≤ n = omega arith in let b : 2 ^ 8 ≤ n = omega arith in
    rw (le-ltb n 24 a, le-ltb n (2 ^ 8) b, le-ltb n (2 ^ 16) c) (elim (cases_lt n (2 ^ 32)) [
      | inl d ↦ rw (lt-ltb n (2 ^ 32) d) (omega arith)
      | inr d ↦ rw (le-ltb n (2 ^ 32) d) (omega arith)
    ])

from-32 : (kind n : ℕ) → 2 ^ 32 ≤ n → 9 ≤ length (head kind n)
from-32 kind n d = let a : 24 ≤ n = omega arith in let b : 2 ^ 8 ≤ n = omega arith in let c : 2 ^ 16 ≤ n = omega arith in
    rw (le-ltb n 24 a, le-ltb n (2 ^ 8) b, le-ltb n (2 ^ 16) c, le-ltb n (2 ^ 32) d) (omega arith)

-- from a shorter head to a smaller number
below-least : (kind n least size : ℕ) → (least ≤ n → size ≤ length (head kind n)) → length (head kind n) < size → n < least
below-least kind n least size from shorter = elim (cases_lt n least) [ inl low ↦ low | inr high ↦ absurd (omega (arith, from high)) ]

says-long : (kind n : ℕ) (front after : List ℕ) → SaysHead kind n front → length (head kind n) < length front
    → head_at kind (front ++ after) ≡ Err NotShortest
says-long kind n _ after (in_first small) shorter = absurd (omega (arith, head-1 kind n small))
says-long kind n _ after (in_one small) shorter =
    head_at-first kind 24 (to_be_bytes w8 n ++ after) (omega arith)
    ∙ number_in-long w8 24 n (to_be_bytes w8 n) after refl (omega arith) (below-least kind n 24 2 (from-24 kind n) shorter)
says-long kind n _ after (in_two small) shorter =
    head_at-first kind 25 (to_be_bytes w16 n ++ after) (omega arith)
    ∙ number_in-long w16 (2 ^ 8) n (to_be_bytes w16 n) after refl (from_be_bytes-to_be_bytes_2 n small) (below-least kind n (2 ^ 8) 3 (from-8 kind n) shorter)
says-long kind n _ after (in_four small) shorter =
    head_at-first kind 26 (to_be_bytes w32 n ++ after) (omega arith)
    ∙ number_in-long w32 (2 ^ 16) n (to_be_bytes w32 n) after refl (from_be_bytes-to_be_bytes_4 n small) (below-least kind n (2 ^ 16) 5 (from-16 kind n) shorter)
says-long kind n _ after (in_eight small) shorter =
    head_at-first kind 27 (to_be_bytes w64 n ++ after) (omega arith)
    ∙ number_in-long w64 (2 ^ 32) n (to_be_bytes w64 n) after refl (from_be_bytes-to_be_bytes_8 n small) (below-least kind n (2 ^ 32) 9 (from-32 kind n) shorter)

pub head_at-long : (kind : ℕ) (w : List ℕ) → HasLongHead kind w → head_at kind w ≡ Err NotShortest
head_at-long kind w long = rw long.parts (says-long kind long.number long.front long.after long.says long.shorter)

-- a head begins with its kind
pub kind_of-head : (kind n : ℕ) (rest : List ℕ) → kind_of (head kind n ++ rest) ≡ kind
kind_of-head kind n rest =
    elim (cases_lt n 24) [
      | inl a ↦ rw (lt-ltb n 24 a) (omega arith)
      | inr a ↦ rw (le-ltb n 24 a) (elim (cases_lt n (2 ^ 8)) [
        | inl b ↦ rw (lt-ltb n (2 ^ 8) b) (omega arith)
        | inr b ↦ rw (le-ltb n (2 ^ 8) b) (elim (cases_lt n (2 ^ 16)) [
          | inl c ↦ rw (lt-ltb n (2 ^ 16) c) (omega arith)
          | inr c ↦ rw (le-ltb n (2 ^ 16) c) (elim (cases_lt n (2 ^ 32)) [
            | inl d ↦ rw (lt-ltb n (2 ^ 32) d) (omega arith)
            | inr d ↦ rw (le-ltb n (2 ^ 32) d) (omega arith)
          ])
        ])
      ])
    ]
