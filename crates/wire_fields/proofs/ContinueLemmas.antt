-- Going on after what was read: its value is known, whatever octets follow.
use Rattle.std.proofs.Common.{◌≡◌, ℕ, ◌≤◌, List, ◌++◌, length, Err, ap, ◌∙◌}
use Rattle.wire_fields.specs.Format.{Format, and_then}
use Rattle.wire_fields.specs.Refusal.{Stop}
use Rattle.wire_fields.specs.Reading.{read, go_on, IsOctets}
use Rattle.wire_fields.specs.Gives.{Continues}
use Rattle.wire_fields.proofs.ResultLemmas.{found}
use Rattle.wire_fields.proofs.StayLemmas.{read-stays}

-- what was read is read again of each longer text
pub found-longer : {C A : Type 0} (f : Format C A) (text : List ℕ) (at to : ℕ) (x : A) → IsOctets text → at ≤ length text
    → read f text at ≡ found x to → (more : List ℕ) → read f (text ++ more) at ≡ found x to
found-longer f text at to x fits within is more = read-stays f text more at fits within (rw is tt) ∙ is

-- fields that were read, and others after them
pub continues-then : {C A B : Type 0} (f : Format C A) (g : A → Format C B) (text : List ℕ) (at to : ℕ) (x : A)
    → IsOctets text → at ≤ length text → read f text at ≡ found x to → Continues (and_then f g) at (g x) to text
continues-then f g text at to x fits within is more =
    ap (λ r. go_on r (λ y. read (g y.0) (text ++ more) y.1)) (found-longer f text at to x fits within is more)

-- the same in a group, and others after the group
pub continues-in : {C A B D : Type 0} (f : Format C A) (g : A → Format C B) (k : B → Format C D) (text : List ℕ) (at to : ℕ) (x : A)
    → IsOctets text → at ≤ length text → read f text at ≡ found x to
    → Continues (and_then (and_then f g) k) at (and_then (g x) k) to text
continues-in f g k text at to x fits within is more =
    ap (λ r. go_on r (λ y. read (k y.0) (text ++ more) y.1)) (continues-then f g text at to x fits within is more)

-- the same in a group of a group
pub continues-deep : {C A B D X : Type 0} (f : Format C A) (g : A → Format C B) (k : B → Format C D) (m : D → Format C X)
    (text : List ℕ) (at to : ℕ) (x : A) → IsOctets text → at ≤ length text → read f text at ≡ found x to
    → Continues (and_then (and_then (and_then f g) k) m) at (and_then (and_then (g x) k) m) to text
continues-deep f g k m text at to x fits within is more =
    ap (λ r. go_on r (λ y. read (m y.0) (text ++ more) y.1)) (continues-in f g k text at to x fits within is more)

-- fields that are refused, and others after them
pub fails-then : {C A B : Type 0} (f : Format C A) (g : A → Format C B) (text : List ℕ) (at : ℕ) (s : ℕ × Stop C)
    → read f text at ≡ Err s → read (and_then f g) text at ≡ Err s
fails-then f g text at s is = ap (λ r. go_on r (λ y. read (g y.0) text y.1)) is
