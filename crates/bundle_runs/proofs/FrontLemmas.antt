-- What stands at a front lies within the octets, and a bundle has at least one.
use Rattle.std.proofs.Common.{◌≡◌, ℕ, zero, suc, ◌<◌, ◌≤◌, List, [], ◌∷◌, ◌++◌, length, refl, sym, ◌∙◌, arith}
use Rattle.wire_fields.specs.Format.{Spells}
use Rattle.wire_fields.specs.Refusal.{Stop, truncated, because, Begins}
use Rattle.bundle6.specs.declared.bundle.Bundle6.{Bundle6}
use Rattle.bundle6.specs.Table as table6
use Rattle.bundle7.specs.declared.bundle.Bundle7.{Bundle7}
use Rattle.bundle7.specs.Table as table7
use Rattle.bundle_runs.specs.declared.front.Cause.{Cause}
use Rattle.bundle_runs.specs.Front.{stopped, IsWithin}

front-empty : (u v : List ℕ) → [] ≡ u ++ v → u ≡ []
front-empty [] v is = refl
front-empty (x ∷ u) v is = cc

one-octet : (u : List ℕ) (x : ℕ) → u ≡ [] → u ≡ x ∷ [] → ⊥
one-octet u x none one = cc

-- no octets spell no bundle
six-some : (most : ℕ) (b : Bundle6) → Spells (table6.bundle most) [] [] b → ⊥
unfolding table6.bundle table6.primary
six-some most b (u, v, main, parts, (u1, v1, version, parts1, (one, six), rest1), rest) =
    let none : u ≡ [] = front-empty u v parts in
    one-octet u1 version (front-empty u1 v1 (sym none ∙ parts1)) one

seven-some : (most : ℕ) (b : Bundle7) → Spells (table7.bundle most) [] [] b → ⊥
unfolding table7.bundle
seven-some most b (u, v, start, parts, (one, mark), rest) =
    one-octet u start (front-empty u v parts) one

pub six-within : (text : List ℕ) (b : Bundle6) (k : ℕ) → Begins (table6.bundle 64) text k b
    → (0 < k) × (k ≤ length text)
six-within text b zero begins = absurd (six-some 64 b begins.spells)
six-within text b (suc k) begins = (omega arith, begins.within)

pub seven-within : (text : List ℕ) (b : Bundle7) (k : ℕ) → Begins (table7.bundle 64) text k b
    → (0 < k) × (k ≤ length text)
seven-within text b zero begins = absurd (seven-some 64 b begins.spells)
seven-within text b (suc k) begins = (omega arith, begins.within)

pub stopped-within : {C : Type 0} (cause : C → Cause) (at most : ℕ) (s : Stop C) → at ≤ most
    → IsWithin most (stopped cause at s)
stopped-within cause at most truncated within = within
stopped-within cause at most (because c) within = within
