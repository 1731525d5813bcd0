-- What a caller of a path world sees.

use Rattle.std.proofs.Common.{◌≡◌, ℕ, Bool, false, true, List, Result, Ok, Err, refl, sym, ap, ◌∙◌, subst}
use Rattle.ltp_engine.specs.declared.refused.SubmitRefused.{SubmitRefused}
use Rattle.ltp_engine.specs.declared.refused.SubmitRefused.TheVariants as causes
use Rattle.ltp_engine.specs.Steps.{IsFault}
use Rattle.path_laws.specs.declared.effects.PathEffects.{PathEffects}
use Rattle.path_laws.specs.declared.places.PathEnd.{PathEnd}
use Rattle.path_laws.specs.Path.{PathEvent, sends}
use Rattle.path_world.specs.declared.parts.Parts.{Parts}
use Rattle.path_world.specs.Steps.{Happens, Stays, OfSend, Sends}
use Rattle.path_world.specs.Ties.{value_of, live, IsWhole, Did, PartsSend, wants_memory}
use Rattle.path_world.specs.Values.{PathValue}
use Rattle.path_world.proofs.CallLemmas.{fault-stays}

-- the value of whole parts
pub live-is : (spent : Bool) (p : Parts) (v : PathValue) → value_of spent p ≡ v → v.spent ≡ false → live p ≡ v
live-is spent p v is whole = subst (λ b. value_of b p ≡ v) (ap (λ (u : PathValue). u.spent) is ∙ whole) is

pub did-happens : (spent : Bool) (a b : Parts) (v : PathValue) (event : PathEvent) (effects : PathEffects) → value_of spent a ≡ v → v.spent ≡ false → Did a b event effects
    → Happens v (live b) event effects
did-happens spent a b v event effects is whole did = subst (λ u. Happens u (live b) event effects) (live-is spent a v is whole) did.happens

pub sends-ok : (spent : Bool) (a b : Parts) (v : PathValue) (end : PathEnd) (block : List ℕ) (effects : PathEffects) → value_of spent a ≡ v → v.spent ≡ false
    → PartsSend a b end block (Ok effects) → Sends v (live b) end block (Ok effects)
sends-ok spent a b v end block effects is whole sent =
    subst (λ u. Sends u (live b) end block (Ok effects)) (live-is spent a v is whole) (sent.0.happens, sent.1)

pub sends-unkept : (spent : Bool) (a b : Parts) (v : PathValue) (end : PathEnd) (block : List ℕ) → value_of spent a ≡ v → v.spent ≡ false
    → PartsSend a b end block (Err causes.Memory) → Sends v (value_of true b) end block (Err causes.Memory)
sends-unkept spent a b v end block is whole sent =
    subst (λ u. Sends u (value_of true b) end block (Err causes.Memory)) (live-is spent a v is whole) (refl, sent)

refused-so : (spent : Bool) (a b : Parts) (v : PathValue) (end : PathEnd) (block : List ℕ) (cause : SubmitRefused) → value_of spent a ≡ v → v.spent ≡ false
    → (b ≡ a) × OfSend (IsFault cause) (live a) end block → Stays v (value_of spent b) (sends end block) × OfSend (IsFault cause) v end block
refused-so spent a b v end block cause is whole (same, faults) =
    let fault = subst (λ u. OfSend (IsFault cause) u end block) (live-is spent a v is whole) faults in
    (subst (λ u. Stays v u (sends end block)) (sym (ap (λ p. value_of spent p) same ∙ is)) (fault-stays v end block cause whole fault), fault)

pub sends-refused : (spent : Bool) (a b : Parts) (v : PathValue) (end : PathEnd) (block : List ℕ) (cause : SubmitRefused) → value_of spent a ≡ v → v.spent ≡ false
    → (cause ≡ causes.Memory → ⊥) → PartsSend a b end block (Err cause) → Sends v (value_of spent b) end block (Err cause)
sends-refused spent a b v end block causes.Empty is whole other sent = refused-so spent a b v end block causes.Empty is whole sent
sends-refused spent a b v end block causes.TooLarge is whole other sent = refused-so spent a b v end block causes.TooLarge is whole sent
sends-refused spent a b v end block causes.NumbersSpent is whole other sent = refused-so spent a b v end block causes.NumbersSpent is whole sent
sends-refused spent a b v end block causes.Busy is whole other sent = refused-so spent a b v end block causes.Busy is whole sent
sends-refused spent a b v end block causes.Memory is whole other sent = absurd (other refl)

-- whatever was answered
pub sends-so : (spent t : Bool) (a b : Parts) (v : PathValue) (end : PathEnd) (block : List ℕ) (r : Result PathEffects SubmitRefused) → value_of spent a ≡ v → v.spent ≡ false
    → PartsSend a b end block r → t ≡ wants_memory r → Sends v (value_of t b) end block r
sends-so spent t a b v end block (Ok effects) is whole sent told = rw told (sends-ok spent a b v end block effects is whole sent)
sends-so spent t a b v end block (Err causes.Empty) is whole sent told = rw told (sends-refused false a b v end block causes.Empty (live-is spent a v is whole) whole (λ m. absurd (cc)) sent)
sends-so spent t a b v end block (Err causes.TooLarge) is whole sent told = rw told (sends-refused false a b v end block causes.TooLarge (live-is spent a v is whole) whole (λ m. absurd (cc)) sent)
sends-so spent t a b v end block (Err causes.NumbersSpent) is whole sent told = rw told (sends-refused false a b v end block causes.NumbersSpent (live-is spent a v is whole) whole (λ m. absurd (cc)) sent)
sends-so spent t a b v end block (Err causes.Busy) is whole sent told = rw told (sends-refused false a b v end block causes.Busy (live-is spent a v is whole) whole (λ m. absurd (cc)) sent)
sends-so spent t a b v end block (Err causes.Memory) is whole sent told = rw told (sends-unkept spent a b v end block is whole sent)

pub whole-so : (t : Bool) (a b : Parts) (end : PathEnd) (block : List ℕ) (r : Result PathEffects SubmitRefused) → PartsSend a b end block r → IsWhole a → t ≡ wants_memory r → t ≡ false
    → IsWhole b
whole-so t a b end block (Ok effects) sent whole told none = sent.0.whole
whole-so t a b end block (Err causes.Empty) sent whole told none = subst IsWhole (sym sent.0) whole
whole-so t a b end block (Err causes.TooLarge) sent whole told none = subst IsWhole (sym sent.0) whole
whole-so t a b end block (Err causes.NumbersSpent) sent whole told none = subst IsWhole (sym sent.0) whole
whole-so t a b end block (Err causes.Busy) sent whole told none = subst IsWhole (sym sent.0) whole
whole-so t a b end block (Err causes.Memory) sent whole told none = absurd (cc)
