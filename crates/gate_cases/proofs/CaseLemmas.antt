-- The first case that holds.
use Rattle.std.proofs.Common.{◌≡◌, Bool, true, false, if◌then◌else◌, List, [], ◌∷◌, ◌++◌, map, Some, None, refl, ap}
use Rattle.bundle6.specs.declared.fault.Cause6.{Cause6}
use Rattle.bundle6.specs.declared.fault.Cause6.TheVariants as six
use Rattle.bundle6.specs.Cause as cause6
use Rattle.bundle7.specs.declared.fault.Cause7.{Cause7}
use Rattle.bundle7.specs.declared.fault.Cause7.TheVariants as seven
use Rattle.bundle7.specs.Cause as cause7
use Rattle.translate.specs.declared.refused.Refused.{Refused}
use Rattle.translate.specs.Refusals.{first_that_holds}
use Rattle.gate_cases.specs.declared.case.GateCase.{GateCase}
use Rattle.gate_cases.specs.declared.case.GateCase.TheVariants.{Untranslated}
use Rattle.gate_cases.specs.Blocks.{cause6_of, cause7_of}
use Rattle.gate_cases.specs.Cases.{untranslated}

-- ---- causes

pub cause6-same : (cause : Cause6) → cause6_of (cause6.why cause) ≡ cause
cause6-same six.Version = refl
cause6-same six.Number = refl
cause6-same six.Names = refl
cause6-same six.PrimaryEnd = refl
cause6-same six.SecondPayload = refl
cause6-same six.TooManyBlocks = refl
cause6-same six.NoPayload = refl
cause6-same six.BlockRefs = refl
cause6-same six.FragmentRange = refl
cause6-same six.Truncated = refl
cause6-same six.TooLong = refl

pub cause7-same : (cause : Cause7) → cause7_of (cause7.why cause) ≡ cause
cause7-same seven.Start = refl
cause7-same seven.Head = refl
cause7-same seven.Version = refl
cause7-same seven.Number = refl
cause7-same seven.CrcType = refl
cause7-same seven.ItemCount = refl
cause7-same seven.Eid = refl
cause7-same seven.Timestamp = refl
cause7-same seven.Crc = refl
cause7-same seven.BlockHead = refl
cause7-same seven.TooManyBlocks = refl
cause7-same seven.Repeated = refl
cause7-same seven.BlockNumber = refl
cause7-same seven.Body = refl
cause7-same seven.FragmentRange = refl
cause7-same seven.ExtensionBody = refl
cause7-same seven.Break = refl
cause7-same seven.Truncated = refl
cause7-same seven.TooLong = refl

-- ---- refusals before other cases

-- where none holds, the others decide
pub first-after : (refusals : List (Refused × Bool)) (others : List (GateCase × Bool)) → first_that_holds refusals ≡ None
    → first_that_holds (map untranslated refusals ++ others) ≡ first_that_holds others
first-after [] others none = refl
first-after ((cause, holds) ∷ refusals) others none = by holds none (λ none. first-after refusals others none)
  where
    by : (t : Bool) → (if t then Some cause else first_that_holds refusals) ≡ None
        → (first_that_holds refusals ≡ None → first_that_holds (map untranslated refusals ++ others) ≡ first_that_holds others)
        → (if t then Some (Untranslated cause) else first_that_holds (map untranslated refusals ++ others)) ≡ first_that_holds others
    by true none rest = absurd (cc)
    by false none rest = rest none

-- one that holds decides
pub first-refused : (refusals : List (Refused × Bool)) (others : List (GateCase × Bool)) (first : Refused)
    → first_that_holds refusals ≡ Some first → first_that_holds (map untranslated refusals ++ others) ≡ Some (Untranslated first)
first-refused [] others first is = absurd (cc)
first-refused ((cause, holds) ∷ refusals) others first is = by holds is (λ is. first-refused refusals others first is)
  where
    some-is : (a b : Refused) → Some a ≡ Some b → a ≡ b
    some-is a b same = cc

    by : (t : Bool) → (if t then Some cause else first_that_holds refusals) ≡ Some first
        → (first_that_holds refusals ≡ Some first → first_that_holds (map untranslated refusals ++ others) ≡ Some (Untranslated first))
        → (if t then Some (Untranslated cause) else first_that_holds (map untranslated refusals ++ others)) ≡ Some (Untranslated first)
    by true is rest = ap (λ (c : Refused). Some (Untranslated c)) (some-is cause first is)
    by false is rest = rest is
