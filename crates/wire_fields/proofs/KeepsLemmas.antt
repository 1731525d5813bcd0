-- A table that keeps less of the values than another is read to the same places, and refused alike.
use Rattle.std.proofs.Common.{◌≡◌, ℕ, zero, suc, Bool, true, false, List, Result, Ok, Err, refl, sym, ap, ◌∙◌}
use Rattle.wire_fields.specs.Format.{Format, give, and_then}
use Rattle.wire_fields.specs.Refusal.{Stop}
use Rattle.wire_fields.specs.Reading.{go_on, read}
use Rattle.wire_fields.specs.Words.{repeated, until, choice}

-- an answer of reading, with h of the value
abbrev pub kept : {A B E : Type 0} → (A → B) → Result (A × ℕ) E → Result (B × ℕ) E
kept h (Ok x) = Ok (h x.0, x.1)
kept h (Err e) = Err e

-- g keeps h of what f makes up
pub record Keeps {C A B : Type 0} (h : A → B) (f : Format C A) (g : Format C B) : Type 0 where
  pub reads : (text : List ℕ) (at : ℕ) → kept h (read f text at) ≡ read g text at

pub keeps-give : {C A B : Type 0} (h : A → B) (a : A) (b : B) → h a ≡ b → Keeps {C = C} h (give a) (give b)
keeps-give h a b is = record { reads = λ text at. rw is refl }

-- fields of which h is kept, and others after them of which k is
pub keeps-then : {C A B X Y : Type 0} (h : A → B) (k : X → Y) (f : Format C A) (f' : Format C B)
    (g : A → Format C X) (g' : B → Format C Y)
    → Keeps h f f' → ((a : A) → Keeps k (g a) (g' (h a))) → Keeps k (and_then f g) (and_then f' g')
keeps-then {C} {A} h k f f' g g' first next = record {
  reads = λ text at. each text (read f text at) ∙ ap (λ r. go_on r (λ y. read (g' y.0) text y.1)) (first.reads text at);
}
  where
    each : (text : List ℕ) (r : Result (A × ℕ) (ℕ × Stop C))
        → kept k (go_on r (λ x. read (g x.0) text x.1)) ≡ go_on (kept h r) (λ y. read (g' y.0) text y.1)
    each text (Ok x) = (next x.0).reads text x.1
    each text (Err e) = refl

-- fields that both tables have, and others after them
pub keeps-after : {C A X Y : Type 0} (k : X → Y) (f : Format C A) (g : A → Format C X) (g' : A → Format C Y)
    → ((a : A) → Keeps k (g a) (g' a)) → Keeps k (and_then f g) (and_then f g')
keeps-after {C} {A} k f g g' next = record { reads = λ text at. each text (read f text at) }
  where
    each : (text : List ℕ) (r : Result (A × ℕ) (ℕ × Stop C))
        → kept k (go_on r (λ x. read (g x.0) text x.1)) ≡ go_on r (λ y. read (g' y.0) text y.1)
    each text (Ok x) = (next x.0).reads text x.1
    each text (Err e) = refl

-- a value that is made of another
pub keeps-made : {C A B X : Type 0} (m : A → B) (k : B → X) (f : Format C A) (g : Format C X)
    → Keeps (λ a. k (m a)) f g → Keeps k (and_then f (λ a. give (m a))) g
keeps-made {C} {A} m k f g keeps = record { reads = λ text at. each (read f text at) ∙ keeps.reads text at }
  where
    each : (r : Result (A × ℕ) (ℕ × Stop C)) → kept k (go_on r (λ x. Ok (m x.0, x.1))) ≡ kept (λ a. k (m a)) r
    each (Ok x) = refl
    each (Err e) = refl

pub keeps-repeated : {C S T : Type 0} (h : S → T) (f : S → Format C S) (g : T → Format C T)
    → ((s : S) → Keeps h (f s) (g (h s))) → (n : ℕ) (s : S) → Keeps h (repeated n f s) (repeated n g (h s))
keeps-repeated h f g one zero s = keeps-give h s (h s) refl
keeps-repeated h f g one (suc n) s =
    keeps-then h h (f s) (g (h s)) (repeated n f) (repeated n g) (one s) (keeps-repeated h f g one n)

-- of a state and whether it is the last, the state's
abbrev pub state_kept : {S T : Type 0} → (S → T) → S × Bool → T × Bool
state_kept h t = (h t.0, t.1)

pub keeps-choice : {C S T : Type 0} (h : S → T) (last : Bool) (s : S) (f : Format C S) (g : Format C T)
    → Keeps h f g → Keeps h (choice last (give s) f) (choice last (give (h s)) g)
keeps-choice h true s f g keeps = keeps-give h s (h s) refl
keeps-choice h false s f g keeps = keeps

pub keeps-until : {C S T : Type 0} (h : S → T) (f : ℕ → S → Format C (S × Bool)) (g : ℕ → T → Format C (T × Bool))
    → ((n : ℕ) (s : S) → Keeps (state_kept h) (f n s) (g n (h s)))
    → (n : ℕ) (s : S) → Keeps h (until n f s) (until n g (h s))
unfolding until
keeps-until h f g one zero s =
    keeps-then (state_kept h) h (f zero s) (g zero (h s)) (λ t. give t.0) (λ t. give t.0) (one zero s)
    (λ t. keeps-give h t.0 (h t.0) refl)
keeps-until h f g one (suc n) s =
    let more = keeps-until h f g one n in
    keeps-then (state_kept h) h (f (suc n) s) (g (suc n) (h s))
    (λ t. choice t.1 (give t.0) (until n f t.0)) (λ t. choice t.1 (give t.0) (until n g t.0)) (one (suc n) s)
    (λ t. keeps-choice h t.1 t.0 (until n f t.0) (until n g (h t.0)) (more t.0))

-- ---- groups in groups, on either side

go_on-on : {A B D E : Type 0} (r : Result A E) (f : A → Result B E) (g : B → Result D E)
    → go_on (go_on r f) g ≡ go_on r (λ x. go_on (f x) g)
go_on-on (Ok x) f g = refl
go_on-on (Err e) f g = refl

pub keeps-flat_left : {C A B D X : Type 0} (h : D → X) (f : Format C A) (g : A → Format C B) (k : B → Format C D) (r : Format C X)
    → Keeps h (and_then f (λ x. and_then (g x) k)) r → Keeps h (and_then (and_then f g) k) r
keeps-flat_left h f g k r keeps = record {
  reads = λ text at.
      ap (kept h) (go_on-on (read f text at) (λ x. read (g x.0) text x.1) (λ y. read (k y.0) text y.1)) ∙ keeps.reads text at;
}

pub keeps-flat_right : {C A B D X : Type 0} (h : X → D) (r : Format C X) (f : Format C A) (g : A → Format C B) (k : B → Format C D)
    → Keeps h r (and_then f (λ x. and_then (g x) k)) → Keeps h r (and_then (and_then f g) k)
keeps-flat_right h r f g k keeps = record {
  reads = λ text at.
      keeps.reads text at ∙ sym (go_on-on (read f text at) (λ x. read (g x.0) text x.1) (λ y. read (k y.0) text y.1));
}

pub keeps-given_right : {C A D X : Type 0} (h : X → D) (r : Format C X) (a : A) (k : A → Format C D)
    → Keeps h r (k a) → Keeps h r (and_then (give a) k)
keeps-given_right h r a k keeps = record { reads = λ text at. keeps.reads text at }
