-- The text of an array is its brackets with the items' texts between them.
use Rattle.std.proofs.Common.{◌≡◌, ℕ, ◌+◌, ◌<◌, Bool, true, false, List, [], ◌∷◌, ◌++◌, length, get_or, take, map, refl, sym, ap, ap₂, ◌∙◌, append_assoc, append-nil, add-one}
use Rattle.std.proofs.Math.Seq.{take-suc}
use Rattle.serde_json.specs.Data.{Data}
use Rattle.serde_json.specs.View.{items_of}
use Rattle.serde_json.specs.Written.{comma_if, compact_text, items_text}
use Rattle.bundle_json.specs.Json.{list_of}
use Rattle.bundle_json.specs.Commas.{with_commas, comma_after}

-- ---- one item more

with_commas-more : {A : Type 0} (data_of : A → Data) (xs : List A) (x : A)
    → with_commas data_of true (xs ++ x ∷ []) ≡ with_commas data_of true xs ++ 44 ∷ compact_text (data_of x)
with_commas-more data_of [] x = ap (λ s. 44 ∷ s) (append-nil (compact_text (data_of x)))
with_commas-more data_of (y ∷ ys) x =
    ap (λ s. 44 ∷ s) (ap (λ s. compact_text (data_of y) ++ s) (with_commas-more data_of ys x)
    ∙ sym (append_assoc (compact_text (data_of y)) (with_commas data_of true ys) (44 ∷ compact_text (data_of x))))

with_commas-push : {A : Type 0} (data_of : A → Data) (xs : List A) (x : A)
    → with_commas data_of false (xs ++ x ∷ []) ≡ with_commas data_of false xs ++ (comma_after xs ++ compact_text (data_of x))
with_commas-push data_of [] x = append-nil (compact_text (data_of x))
with_commas-push data_of (y ∷ ys) x =
    ap (λ s. compact_text (data_of y) ++ s) (with_commas-more data_of ys x)
    ∙ sym (append_assoc (compact_text (data_of y)) (with_commas data_of true ys) (44 ∷ compact_text (data_of x)))

pub comma_after-push : {A : Type 0} (xs : List A) (x : A) → comma_after (xs ++ x ∷ []) ≡ 44 ∷ []
comma_after-push [] x = refl
comma_after-push (y ∷ ys) x = refl

-- ---- the brackets

pub items-with_commas : {A : Type 0} (data_of : A → Data) (later : Bool) (xs : List A)
    → items_text later (items_of (map data_of xs)) ≡ with_commas data_of later xs ++ 93 ∷ []
items-with_commas data_of later [] = refl
items-with_commas data_of later (x ∷ xs) =
    ap (λ s. comma_if later ++ (compact_text (data_of x) ++ s)) (items-with_commas data_of true xs)
    ∙ ap (λ s. comma_if later ++ s) (sym (append_assoc (compact_text (data_of x)) (with_commas data_of true xs) (93 ∷ [])))
    ∙ sym (append_assoc (comma_if later) (compact_text (data_of x) ++ with_commas data_of true xs) (93 ∷ []))

pub list-text : {A : Type 0} (data_of : A → Data) (xs : List A)
    → compact_text (list_of data_of xs) ≡ 91 ∷ (with_commas data_of false xs ++ 93 ∷ [])
list-text data_of xs = ap (λ s. 91 ∷ s) (items-with_commas data_of false xs)

-- ---- the loop

taken-one : {A : Type 0} (items : List A) (i : ℕ) (x : A) → i < length items → x ≡ get_or items i x → take (i + 1) items ≡ take i items ++ x ∷ []
taken-one items i x within is = ap (λ n. take n items) (add-one i) ∙ take-suc items i x within ∙ ap (λ y. take i items ++ y ∷ []) (sym is)

pub items-last : {A : Type 0} (data_of : A → Data) (xs : List A) (x : A) (start before comma between now : List ℕ)
    → before ≡ start ++ with_commas data_of false xs → comma ≡ comma_after xs → between ≡ before ++ comma → now ≡ between ++ compact_text (data_of x)
    → now ≡ start ++ with_commas data_of false (xs ++ x ∷ [])
items-last data_of xs x start before comma between now so comma-is then last =
    last ∙ ap (λ s. s ++ compact_text (data_of x)) (then ∙ ap₂ (λ (s t : List ℕ). s ++ t) so comma-is)
    ∙ append_assoc (start ++ with_commas data_of false xs) (comma_after xs) (compact_text (data_of x))
    ∙ append_assoc start (with_commas data_of false xs) (comma_after xs ++ compact_text (data_of x))
    ∙ ap (λ s. start ++ s) (sym (with_commas-push data_of xs x))

pub items-step : {A : Type 0} (data_of : A → Data) (items : List A) (i : ℕ) (x : A) (start before comma between now : List ℕ)
    → i < length items → x ≡ get_or items i x → before ≡ start ++ with_commas data_of false (take i items)
    → comma ≡ comma_after (take i items) → between ≡ before ++ comma → now ≡ between ++ compact_text (data_of x)
    → now ≡ start ++ with_commas data_of false (take (i + 1) items)
items-step data_of items i x start before comma between now within is so comma-is then last =
    items-last data_of (take i items) x start before comma between now so comma-is then last
    ∙ ap (λ xs. start ++ with_commas data_of false xs) (sym (taken-one items i x within is))

pub comma-step : {A : Type 0} (items : List A) (i : ℕ) (x : A) → i < length items → x ≡ get_or items i x
    → 44 ∷ [] ≡ comma_after (take (i + 1) items)
comma-step items i x within is = sym (ap comma_after (taken-one items i x within is) ∙ comma_after-push (take i items) x)

-- ---- the loop over names that are lent one by one

taken-at : {A : Type 0} (items : List A) (i : ℕ) (x d : A) → i < length items → x ≡ get_or items i d
    → take (i + 1) items ≡ take i items ++ x ∷ []
taken-at items i x d within is =
    ap (λ n. take n items) (add-one i) ∙ take-suc items i d within ∙ ap (λ y. take i items ++ y ∷ []) (sym is)

pub items-step-at : {A : Type 0} (data_of : A → Data) (items : List A) (i : ℕ) (x d : A) (start before comma between now : List ℕ)
    → i < length items → x ≡ get_or items i d → before ≡ start ++ with_commas data_of false (take i items)
    → comma ≡ comma_after (take i items) → between ≡ before ++ comma → now ≡ between ++ compact_text (data_of x)
    → now ≡ start ++ with_commas data_of false (take (i + 1) items)
items-step-at data_of items i x d start before comma between now within is so comma-is then last =
    items-last data_of (take i items) x start before comma between now so comma-is then last
    ∙ ap (λ xs. start ++ with_commas data_of false xs) (sym (taken-at items i x d within is))

pub comma-step-at : {A : Type 0} (items : List A) (i : ℕ) (x d : A) → i < length items → x ≡ get_or items i d
    → 44 ∷ [] ≡ comma_after (take (i + 1) items)
comma-step-at items i x d within is = sym (ap comma_after (taken-at items i x d within is) ∙ comma_after-push (take i items) x)
