-- The steps of loops over groups that repeat: what is left to read gives what all of it gives.
use Rattle.std.proofs.Common.{◌≡◌, ℕ, suc, ◌+◌, ◌-◌, ◌<◌, ◌≤◌, Bool, true, false, List, [], ◌∷◌, ◌++◌, Option, Some, None, Result, Ok, Err, sym, ap, ◌∙◌, arith}
use Rattle.wire_fields.specs.Format.{Format, give}
use Rattle.wire_fields.specs.Refusal.{Stop}
use Rattle.wire_fields.specs.Reading.{go_on, read}
use Rattle.wire_fields.specs.Words.{repeated, until, choice, one_more, one_more_until}
use Rattle.wire_fields.specs.Gives.{Fails}

-- a fault of a part is the fault of the whole
pub fails-on : {C A B : Type 0} (o : Option (ℕ × Stop C)) (part : Result A (ℕ × Stop C)) (all : Result B (ℕ × Stop C))
    → ((s : ℕ × Stop C) → part ≡ Err s → all ≡ Err s) → Fails o part → Fails o all
fails-on None part all h fails = tt
fails-on (Some s) part all h fails = h s fails

module _ {C S : Type 0} (f : S → Format C S) (text : List ℕ) where
  next_of : (n i : ℕ) (s : S) (at : ℕ) → i < n
      → read (repeated (n - i) f s) text at ≡ go_on (read (f s) text at) (λ x. read (repeated (n - (i + 1)) f x.0) text x.1)
  next_of n i s at h =
      let left : n - i ≡ suc (n - (i + 1)) = omega arith in
      ap (λ k. read (repeated k f s) text at) left

  -- after i of n groups, one more was read
  pub repeated-step : (n i : ℕ) (s t : S) (at to : ℕ) (all : Result (S × ℕ) (ℕ × Stop C)) → i < n
      → read (f s) text at ≡ Ok (t, to) → read (repeated (n - i) f s) text at ≡ all → read (repeated (n - (i + 1)) f t) text to ≡ all
  repeated-step n i s t at to all h is left =
      sym (next_of n i s at h ∙ ap (λ r. go_on r (λ x. read (repeated (n - (i + 1)) f x.0) text x.1)) is) ∙ left

  -- the next one failed
  pub repeated-fails : (n i : ℕ) (s : S) (at : ℕ) (o : Option (ℕ × Stop C)) (all : Result (S × ℕ) (ℕ × Stop C)) → i < n
      → Fails o (read (f s) text at) → read (repeated (n - i) f s) text at ≡ all → Fails o all
  repeated-fails n i s at o all h fails left =
      fails-on o (read (f s) text at) all
      (λ e is. sym left ∙ next_of n i s at h ∙ ap (λ r. go_on r (λ x. read (repeated (n - (i + 1)) f x.0) text x.1)) is) fails

  -- all were read
  pub repeated-end : (n i : ℕ) (s : S) (at : ℕ) (all : Result (S × ℕ) (ℕ × Stop C)) → n ≤ i
      → read (repeated (n - i) f s) text at ≡ all → all ≡ Ok (s, at)
  repeated-end n i s at all h left =
      let none : n - i ≡ 0 = omega arith in
      sym left ∙ ap (λ k. read (repeated k f s) text at) none

module _ {C S : Type 0} (f : ℕ → S → Format C (S × Bool)) (text : List ℕ) where
  one_of : (n i : ℕ) (s : S) (at : ℕ) → i < n
      → read (until (n - i) f s) text at ≡ go_on (read (f (n - i) s) text at) (λ x. read (choice x.0.1 (give x.0.0) (until (n - (i + 1)) f x.0.0)) text x.1)
  unfolding until
  one_of n i s at h =
      let left : n - i ≡ suc (n - (i + 1)) = omega arith in
      ap (λ k. read (until k f s) text at) left
      ∙ ap (λ k. go_on (read (f k s) text at) (λ x. read (choice x.0.1 (give x.0.0) (until (n - (i + 1)) f x.0.0)) text x.1)) (sym left)

  -- after i groups, one more was read, and wasn't the last
  pub until-step : (n i : ℕ) (s t : S) (at to : ℕ) (all : Result (S × ℕ) (ℕ × Stop C)) → i < n
      → read (f (n - i) s) text at ≡ Ok ((t, false), to) → read (until (n - i) f s) text at ≡ all → read (until (n - (i + 1)) f t) text to ≡ all
  until-step n i s t at to all h is left =
      sym (one_of n i s at h ∙ ap (λ r. go_on r (λ x. read (choice x.0.1 (give x.0.0) (until (n - (i + 1)) f x.0.0)) text x.1)) is) ∙ left

  -- one more was read, and was the last
  pub until-last : (n i : ℕ) (s t : S) (at to : ℕ) (all : Result (S × ℕ) (ℕ × Stop C)) → i < n
      → read (f (n - i) s) text at ≡ Ok ((t, true), to) → read (until (n - i) f s) text at ≡ all → all ≡ Ok (t, to)
  until-last n i s t at to all h is left =
      sym left ∙ one_of n i s at h ∙ ap (λ r. go_on r (λ x. read (choice x.0.1 (give x.0.0) (until (n - (i + 1)) f x.0.0)) text x.1)) is

  -- the next one failed
  pub until-fails : (n i : ℕ) (s : S) (at : ℕ) (o : Option (ℕ × Stop C)) (all : Result (S × ℕ) (ℕ × Stop C)) → i < n
      → Fails o (read (f (n - i) s) text at) → read (until (n - i) f s) text at ≡ all → Fails o all
  until-fails n i s at o all h fails left =
      fails-on o (read (f (n - i) s) text at) all
      (λ e is. sym left ∙ one_of n i s at h ∙ ap (λ r. go_on r (λ x. read (choice x.0.1 (give x.0.0) (until (n - (i + 1)) f x.0.0)) text x.1)) is) fails

  -- no more may follow the next one, which was read
  pub until-end : (n i : ℕ) (s t : S) (last : Bool) (at to : ℕ) (all : Result (S × ℕ) (ℕ × Stop C)) → n ≤ i
      → read (f 0 s) text at ≡ Ok ((t, last), to) → read (until (n - i) f s) text at ≡ all → all ≡ Ok (t, to)
  unfolding until
  until-end n i s t last at to all h is left =
      let none : n - i ≡ 0 = omega arith in
      sym left ∙ ap (λ k. read (until k f s) text at) none ∙ ap (λ r. go_on r (λ x. read (give x.0.0) text x.1)) is

  -- no more may follow the next one, which failed
  pub until-none : (n i : ℕ) (s : S) (at : ℕ) (o : Option (ℕ × Stop C)) (all : Result (S × ℕ) (ℕ × Stop C)) → n ≤ i
      → Fails o (read (f 0 s) text at) → read (until (n - i) f s) text at ≡ all → Fails o all
  unfolding until
  until-none n i s at o all h fails left =
      let none : n - i ≡ 0 = omega arith in
      fails-on o (read (f 0 s) text at) all
      (λ e is. sym left ∙ ap (λ k. read (until k f s) text at) none ∙ ap (λ r. go_on r (λ x. read (give x.0.0) text x.1)) is) fails

-- ---- lists

module _ {C A : Type 0} (f : List A → Format C A) (text : List ℕ) where
  then_listed : (earlier : List A) → A × ℕ → Result (List A × ℕ) (ℕ × Stop C)
  then_listed earlier x = Ok (earlier ++ x.0 ∷ [], x.1)

  pub listed-step : (n i : ℕ) (earlier : List A) (x : A) (at to : ℕ) (all : Result (List A × ℕ) (ℕ × Stop C)) → i < n
      → read (f earlier) text at ≡ Ok (x, to) → read (repeated (n - i) (one_more f) earlier) text at ≡ all
      → read (repeated (n - (i + 1)) (one_more f) (earlier ++ x ∷ [])) text to ≡ all
  unfolding then_listed
  listed-step n i earlier x at to all h is left =
      repeated-step (one_more f) text n i earlier (earlier ++ x ∷ []) at to all h (ap (λ r. go_on r (then_listed earlier)) is) left

  pub listed-fails : (n i : ℕ) (earlier : List A) (at : ℕ) (o : Option (ℕ × Stop C)) (all : Result (List A × ℕ) (ℕ × Stop C)) → i < n
      → Fails o (read (f earlier) text at) → read (repeated (n - i) (one_more f) earlier) text at ≡ all → Fails o all
  unfolding then_listed
  listed-fails n i earlier at o all h fails left =
      let one : Fails o (read (one_more f earlier) text at) =
      fails-on o (read (f earlier) text at) (read (one_more f earlier) text at) (λ e is. ap (λ r. go_on r (then_listed earlier)) is) fails in
      repeated-fails (one_more f) text n i earlier at o all h one left

module _ {C A : Type 0} (f : ℕ → List A → Format C A) (is_last : A → Bool) (text : List ℕ) where
  then_until : (earlier : List A) → A × ℕ → Result ((List A × Bool) × ℕ) (ℕ × Stop C)
  then_until earlier x = Ok ((earlier ++ x.0 ∷ [], is_last x.0), x.1)

  pub listed_until-step : (n i : ℕ) (earlier : List A) (x : A) (at to : ℕ) (all : Result (List A × ℕ) (ℕ × Stop C)) → i < n
      → read (f (n - i) earlier) text at ≡ Ok (x, to) → is_last x ≡ false
      → read (until (n - i) (one_more_until f is_last) earlier) text at ≡ all
      → read (until (n - (i + 1)) (one_more_until f is_last) (earlier ++ x ∷ [])) text to ≡ all
  unfolding then_until
  listed_until-step n i earlier x at to all h is goes_on left =
      until-step (one_more_until f is_last) text n i earlier (earlier ++ x ∷ []) at to all h
      (ap (λ r. go_on r (then_until earlier)) is ∙ ap (λ b. Ok ((earlier ++ x ∷ [], b), to)) goes_on) left

  pub listed_until-last : (n i : ℕ) (earlier : List A) (x : A) (at to : ℕ) (all : Result (List A × ℕ) (ℕ × Stop C)) → i < n
      → read (f (n - i) earlier) text at ≡ Ok (x, to) → is_last x ≡ true
      → read (until (n - i) (one_more_until f is_last) earlier) text at ≡ all → all ≡ Ok (earlier ++ x ∷ [], to)
  unfolding then_until
  listed_until-last n i earlier x at to all h is ends left =
      until-last (one_more_until f is_last) text n i earlier (earlier ++ x ∷ []) at to all h
      (ap (λ r. go_on r (then_until earlier)) is ∙ ap (λ b. Ok ((earlier ++ x ∷ [], b), to)) ends) left

  pub listed_until-fails : (n i : ℕ) (earlier : List A) (at : ℕ) (o : Option (ℕ × Stop C)) (all : Result (List A × ℕ) (ℕ × Stop C)) → i < n
      → Fails o (read (f (n - i) earlier) text at) → read (until (n - i) (one_more_until f is_last) earlier) text at ≡ all → Fails o all
  unfolding then_until
  listed_until-fails n i earlier at o all h fails left =
      until-fails (one_more_until f is_last) text n i earlier at o all h
      (fails-on o (read (f (n - i) earlier) text at) (read (one_more_until f is_last (n - i) earlier) text at) (λ e is. ap (λ r. go_on r (then_until earlier)) is) fails) left

  pub listed_until-end : (n i : ℕ) (earlier : List A) (x : A) (at to : ℕ) (all : Result (List A × ℕ) (ℕ × Stop C)) → n ≤ i
      → read (f 0 earlier) text at ≡ Ok (x, to) → read (until (n - i) (one_more_until f is_last) earlier) text at ≡ all
      → all ≡ Ok (earlier ++ x ∷ [], to)
  unfolding then_until
  listed_until-end n i earlier x at to all h is left =
      until-end (one_more_until f is_last) text n i earlier (earlier ++ x ∷ []) (is_last x) at to all h
      (ap (λ r. go_on r (then_until earlier)) is) left

  pub listed_until-none : (n i : ℕ) (earlier : List A) (at : ℕ) (o : Option (ℕ × Stop C)) (all : Result (List A × ℕ) (ℕ × Stop C)) → n ≤ i
      → Fails o (read (f 0 earlier) text at) → read (until (n - i) (one_more_until f is_last) earlier) text at ≡ all → Fails o all
  unfolding then_until
  listed_until-none n i earlier at o all h fails left =
      until-none (one_more_until f is_last) text n i earlier at o all h
      (fails-on o (read (f 0 earlier) text at) (read (one_more_until f is_last 0 earlier) text at) (λ e is. ap (λ r. go_on r (then_until earlier)) is) fails) left
