-- A whole is sound: its head is a fragment that was read, made whole.
use Rattle.std.proofs.Common.{◌≡◌, ℕ, zero, suc, ◌-◌, ◌%◌, ◌/◌, ◌^◌, ◌<◌, ◌==◌, Bool, true, false, nat_lt, if◌then◌else◌, eqb, min, List, [], ◌∷◌, length, take, drop, Option, None, Some, Result, Ok, Err, IfOk, OnOk, bit_and, refl, sym, ap, ◌∙◌, subst, arith, eq-eqb, eqb-true}
use Rattle.std.specs.Int.{bit_at}
use Rattle.std.specs.List.{slice_get}
use Rattle.std.proofs.lemmas.List.Elements.{All-take, All-drop, All-append, All-nil, All-cons, All-head, All-tail}
use Rattle.std.proofs.lemmas.Nat.{and_le_l, and_le_r}
use Rattle.std.proofs.lemmas.Nat.Bits.{bit_at_and, bit_at_lowest, bit_at-suc, same_from_bits_below}
use Rattle.endpoint.specs.declared.extent.Fragment.{Fragment}
use Rattle.bundle_meaning.specs.declared.shared.Content.{Content}
use Rattle.bundle_meaning.specs.declared.shared.Content.TheVariants.{Bytes, Report}
use Rattle.bundle_meaning.specs.declared.shared.Shared.{Shared}
use Rattle.bundle_meaning.specs.declared.full.Full.{Full}
use Rattle.bundle_meaning.specs.Bits.{is_within, common}
use Rattle.bundle_meaning.specs.Reports.{is_report}
use Rattle.bundle_meaning.specs.Valid.{IsFragment}
use Rattle.translate.specs.Sound.{IsSound}
use Rattle.fragments.specs.declared.fault.JoinRefused.{JoinRefused}
use Rattle.fragments.specs.declared.fault.JoinRefused.TheVariants as refusals
use Rattle.fragments.specs.declared.join.Join.{Join}
use Rattle.fragments.specs.declared.joining.Joined.{Joined}
use Rattle.fragments.specs.declared.joining.Joined.TheVariants as answers
use Rattle.fragments.specs.Cells.{whole_octets}
use Rattle.fragments.specs.Cutting.{octets_of}
use Rattle.fragments.specs.Joining.{Joining, index_of, open_join, others, accepted, started, with_payload, unfragmented, head_with, whole_with, whole_of, is_repeat, joined_with, answered, answer_to, kept_after, Adds}
use Rattle.fragments.specs.Again.{answer_at, answer, after_at, after}
use Rattle.fragments.proofs.BegunLemmas.{is-taken}
use Rattle.fragment_lines.specs.declared.joining.Answer.{Answer}
use Rattle.fragment_lines.specs.declared.joining.Answer.TheVariants.{Word, Whole}
use Rattle.fragment_lines.specs.Writable.{IsWhole, HasHead, IsBegun, AreBegun, IsSayable, Tells}

-- ---- the lowest flag is cleared

even-bit : (f i : ℕ) → bit_at (f - f % 2) (suc i) ≡ bit_at f (suc i)
even-bit f i =
    let half : (f - f % 2) / 2 ≡ f / 2 = omega arith in
    bit_at-suc (f - f % 2) i ∙ ap (λ n. bit_at n i) half ∙ sym (bit_at-suc f i)

even-lowest : (f : ℕ) → bit_at (f - f % 2) 0 ≡ 0
even-lowest f = bit_at_lowest (f - f % 2) ∙ omega arith

even-within : (f : ℕ) → is_within common f ≡ true → is_within common (f - f % 2) ≡ true
even-within f within =
    let inner : bit_and f common ≡ f = eqb-true (bit_and f common) f within in
    let e = f - f % 2 in
    let small : f < 2 ^ 20 = omega (arith, inner, and_le_r f common) in
    let low : bit_and e common < 2 ^ 64 = omega (arith, and_le_l e common, small) in
    let same : bit_and e common ≡ e = same_from_bits_below 64 (bit_and e common) e low (omega (arith, small)) (λ i _. by inner i) in
    eq-eqb (bit_and e common) e same
  where
    by : bit_and f common ≡ f → (i : ℕ) → bit_at (bit_and (f - f % 2) common) i ≡ bit_at (f - f % 2) i
    by inner zero = bit_at_and (f - f % 2) common 0 ∙ omega (arith, even-lowest f)
    by inner (suc i) =
        let bit : min (bit_at f (suc i)) (bit_at common (suc i)) ≡ bit_at f (suc i) =
        sym (bit_at_and f common (suc i)) ∙ ap (λ x. bit_at x (suc i)) inner in
        bit_at_and (f - f % 2) common (suc i) ∙ omega (arith, bit, even-bit f i)

-- ---- a fragment as a whole

pub head-sound : (full : Full) → IsSound full → is_report full.shared.content ≡ false → IsWhole (unfragmented full)
head-sound full sound none =
    let valid = sound.valid in
    let shared = valid.shared in record {
      sound = record {
        valid = record {
          shared = record {
            destination = shared.destination;
            source = shared.source;
            report_to = shared.report_to;
            clock = shared.clock;
            millis = shared.millis;
            counterpart = shared.counterpart;
            lives = shared.lives;
            lifetime = shared.lifetime;
            flags = even-within full.shared.flags shared.flags;
            payload_flags = shared.payload_flags;
            fragment_bit = ap (λ a. eqb a 1) (even-lowest full.shared.flags);
            report_bit = ap (λ a. eqb a 1) (even-bit full.shared.flags 0) ∙ shared.report_bit ∙ none;
            fragment = tt;
            content = omega arith;
          };
          extra6 = valid.extra6;
          extra7 = valid.extra7;
          exts = valid.exts;
          few = valid.few;
          after = valid.after;
          apart = valid.apart;
        };
        bodies = sound.bodies;
      };
      bytes = refl;
      whole = refl;
    }

pub payload-sound : (head : Full) (octets : List ℕ) → IsWhole head → length octets < 2 ^ 64 → IsSound (with_payload head octets)
payload-sound head octets is small =
    let valid = is.sound.valid in
    let shared = valid.shared in record {
      valid = record {
        shared = record {
          destination = shared.destination;
          source = shared.source;
          report_to = shared.report_to;
          clock = shared.clock;
          millis = shared.millis;
          counterpart = shared.counterpart;
          lives = shared.lives;
          lifetime = shared.lifetime;
          flags = shared.flags;
          payload_flags = shared.payload_flags;
          fragment_bit = shared.fragment_bit;
          report_bit = shared.report_bit ∙ is.bytes;
          fragment = subst (λ (f : Option Fragment). IsFragment f (Bytes octets)) (sym is.whole) tt;
          content = small;
        };
        extra6 = valid.extra6;
        extra7 = valid.extra7;
        exts = valid.exts;
        few = valid.few;
        after = valid.after;
        apart = valid.apart;
      };
      bodies = is.sound.bodies;
    }

-- ---- what is kept

begun-others : (shared : Shared) (joins : List Join) → AreBegun joins → AreBegun (others shared joins)
begun-others shared joins begun = by (nat_lt (index_of shared joins) (length joins)) refl
  where
    by : (t : Bool) → nat_lt (index_of shared joins) (length joins) ≡ t → AreBegun (others shared joins)
    by true is =
        rw is (All-append IsBegun (take (index_of shared joins) joins) (drop (suc (index_of shared joins)) joins)
        (All-take IsBegun (index_of shared joins) joins begun) (All-drop IsBegun (suc (index_of shared joins)) joins begun))
    by false is = rw is begun

begun-get : (i : ℕ) (joins : List Join) (join : Join) → slice_get joins i ≡ Some join → AreBegun joins → IsBegun join
begun-get zero (first ∷ joins) join is begun =
    let same : first ≡ join = cc in subst IsBegun same (All-head IsBegun first joins begun)
begun-get (suc i) (first ∷ joins) join is begun = begun-get i joins join is (All-tail IsBegun first joins begun)
begun-get zero [] join is begun = absurd (cc)
begun-get (suc i) [] join is begun = absurd (cc)

head-with : (head : Option Full) (full : Full) (offset : ℕ) → HasHead head → IsSound full → is_report full.shared.content ≡ false
    → HasHead (head_with head full offset)
head-with (Some head) full offset has sound none = has
head-with None full offset has sound none = by (offset == 0)
  where
    by : (t : Bool) → HasHead (if t then Some (unfragmented full) else None)
    by true = head-sound full sound none
    by false = tt

begun-started : (kept : Option Join) (shared : Shared) (total : ℕ) → ((join : Join) → kept ≡ Some join → IsBegun join) → IsBegun (started kept shared total)
begun-started None shared total begun = tt
begun-started (Some join) shared total begun = begun join refl

-- a fragment that is taken is no report
no-report : (fragment : Option Fragment) (part : Fragment) (content : Content) → fragment ≡ Some part → IsFragment fragment content
    → is_report content ≡ false
no-report (Some own) part (Bytes octets) is lies = refl
no-report (Some own) part (Report report) is lies = absurd lies
no-report None part content is lies = absurd (cc)

begun-joined : (joins : List Join) (full : Full) (part : Fragment) → AreBegun joins → IsSound full → accepted joins full.shared ≡ Ok part
    → IsBegun (joined_with joins full part)
begun-joined joins full part begun sound taken =
    let none = no-report full.shared.fragment part full.shared.content (is-taken joins full part taken).own sound.valid.shared.fragment in
    let first = begun-started (open_join full.shared joins) full.shared part.total
    (λ join is. begun-get (index_of full.shared joins) joins join is begun) in
    head-with (started (open_join full.shared joins) full.shared part.total).head full part.offset first sound none

begun-after : (joins : List Join) (full : Full) → AreBegun joins → IsSound full → AreBegun (after joins full)
begun-after joins full begun sound = by (accepted joins full.shared) refl
  where
    kept : (whole : Option Full) (part : Fragment) → accepted joins full.shared ≡ Ok part → AreBegun (kept_after whole (others full.shared joins) (joined_with joins full part))
    kept (Some whole) part taken = begun-others full.shared joins begun
    kept None part taken =
        All-append IsBegun (others full.shared joins) (joined_with joins full part ∷ []) (begun-others full.shared joins begun)
        (All-cons IsBegun (joined_with joins full part) [] (begun-joined joins full part begun sound taken) (All-nil IsBegun))

    by : (taken : Result Fragment JoinRefused) → accepted joins full.shared ≡ taken → AreBegun (after_at joins full taken)
    by (Ok part) is = kept (whole_of (joined_with joins full part)) part is
    by (Err refused) is = begun

-- ---- what is answered

-- the whole of a join
whole-is : (octets : Option (List ℕ)) (head : Option Full) (whole : Full) → whole_with octets head ≡ Some whole → HasHead head
    → length (octets_of whole.shared.content) < 2 ^ 64 → IsSound whole
whole-is (Some octets) (Some head) whole is has small =
    let same : with_payload head octets ≡ whole = cc in
    let few : length octets < 2 ^ 64 = subst (λ (f : Full). length (octets_of f.shared.content) < 2 ^ 64) (sym same) small in
    subst IsSound same (payload-sound head octets has few)
whole-is (Some octets) None whole is has small = absurd (cc)
whole-is None head whole is has small = absurd (cc)

whole-sayable : (joins : List Join) (full : Full) (whole : Full) → AreBegun joins → IsSound full
    → answer joins full ≡ Ok (answers.Whole whole) → length (octets_of whole.shared.content) < 2 ^ 64 → IsSound whole
whole-sayable joins full whole begun sound is small = by (accepted joins full.shared) refl is
  where
    answered-is : (found : Option Full) (repeats : Bool) → answered found repeats ≡ answers.Whole whole → found ≡ Some whole
    answered-is (Some other) repeats is = cc
    answered-is None true is = absurd (cc)
    answered-is None false is = absurd (cc)

    by : (taken : Result Fragment JoinRefused) → accepted joins full.shared ≡ taken
        → answer_at joins full taken ≡ Ok (answers.Whole whole) → IsSound whole
    by (Err refused) taken is = absurd (cc)
    by (Ok part) taken is =
        let join = joined_with joins full part in
        let same : answer_to joins full part ≡ answers.Whole whole = cc in
        let found = answered-is (whole_of join) (is_repeat (open_join full.shared joins) part.offset (octets_of full.shared.content)) same in
        whole-is (whole_octets join.cells join.total) join.head whole found (begun-joined joins full part begun sound taken) small

-- ---- what a joiner did

-- what was answered, and what is kept then
record Gave (joins : List Join) (full : Full) (given : Result Joined JoinRefused) (new : Joining) : Type 0 where
  answer : answer joins full ≡ given
  after : new ≡ record { joins = after joins full; spent = false }
  begun : AreBegun new.joins

kept-begun : (joins : List Join) (full : Full) (new : Joining) → AreBegun joins → IsSound full
    → new ≡ record { joins = after joins full; spent = false } → AreBegun new.joins
kept-begun joins full new begun sound is = subst (λ (j : Joining). AreBegun j.joins) (sym is) (begun-after joins full begun sound)

gave-joined : (joins : List Join) (full : Full) (joined : Joined) (new : Joining) → AreBegun joins → IsSound full
    → Adds joins full (Ok joined) new → Gave joins full (Ok joined) new
gave-joined joins full joined new begun sound (part, taken, is, kept) =
    let now : new ≡ record { joins = after joins full; spent = false } =
    kept ∙ ap (λ (r : Result Fragment JoinRefused). record { joins = after_at joins full r; spent = false }) (sym taken) in record {
      answer = ap (answer_at joins full) taken ∙ ap Ok (sym is);
      after = now;
      begun = kept-begun joins full new begun sound now;
    }

refused-at : (joins : List Join) (full : Full) (refused : JoinRefused) (new : Joining) → AreBegun joins → IsSound full
    → (accepted joins full.shared ≡ Err refused) × (new ≡ record { joins = joins; spent = false }) → Gave joins full (Err refused) new
refused-at joins full refused new begun sound (is, kept) =
    let now : new ≡ record { joins = after joins full; spent = false } =
    kept ∙ ap (λ (r : Result Fragment JoinRefused). record { joins = after_at joins full r; spent = false }) (sym is) in record {
      answer = ap (answer_at joins full) is;
      after = now;
      begun = kept-begun joins full new begun sound now;
    }

gave-refused : (joins : List Join) (full : Full) (refused : JoinRefused) (new : Joining) → AreBegun joins → IsSound full
    → Adds joins full (Err refused) new → (refused ≡ refusals.Memory → ⊥) → Gave joins full (Err refused) new
gave-refused joins full refusals.NotFragment new begun sound turns other = refused-at joins full refusals.NotFragment new begun sound turns
gave-refused joins full refusals.TooLarge new begun sound turns other = refused-at joins full refusals.TooLarge new begun sound turns
gave-refused joins full refusals.TotalDiffers new begun sound turns other = refused-at joins full refusals.TotalDiffers new begun sound turns
gave-refused joins full refusals.NoRoom new begun sound turns other = refused-at joins full refusals.NoRoom new begun sound turns
gave-refused joins full refusals.Memory new begun sound turns other = absurd (other refl)

-- the joins stay begun, whatever was answered
pub given-begun : (joins : List Join) (full : Full) (given : Result Joined JoinRefused) (new : Joining) → AreBegun joins → IsSound full
    → Adds joins full given new → new.spent ≡ false → AreBegun new.joins
given-begun joins full (Ok joined) new begun sound adds whole = (gave-joined joins full joined new begun sound adds).begun
given-begun joins full (Err refusals.NotFragment) new begun sound adds whole = (gave-refused joins full refusals.NotFragment new begun sound adds (λ is. cc)).begun
given-begun joins full (Err refusals.TooLarge) new begun sound adds whole = (gave-refused joins full refusals.TooLarge new begun sound adds (λ is. cc)).begun
given-begun joins full (Err refusals.TotalDiffers) new begun sound adds whole = (gave-refused joins full refusals.TotalDiffers new begun sound adds (λ is. cc)).begun
given-begun joins full (Err refusals.NoRoom) new begun sound adds whole = (gave-refused joins full refusals.NoRoom new begun sound adds (λ is. cc)).begun
given-begun joins full (Err refusals.Memory) new begun sound (part, taken, spent) whole = absurd (cc)

-- what is told of the joiner's answer is told of the definition's
record Told (joins : List Join) (full : Full) (said : Answer) (new : Joining) : Type 0 where
  answer : Tells (answer joins full) said
  after : new ≡ record { joins = after joins full; spent = false }
  sayable : IsSayable said

-- a whole has a view
sayable : (joins : List Join) (full : Full) (given : Result Joined JoinRefused) (said : Answer) → AreBegun joins → IsSound full
    → answer joins full ≡ given → Tells given said → IsSayable said
sayable joins full (Ok answers.Waiting) (Word word) begun sound is tells = tt
sayable joins full (Ok answers.Repeat) (Word word) begun sound is tells = tt
sayable joins full (Ok (answers.Whole whole)) (Word word) begun sound is tells = tt
sayable joins full (Err refused) (Word word) begun sound is tells = tt
sayable joins full (Ok answers.Waiting) (Whole whole) begun sound is tells = absurd tells
sayable joins full (Ok answers.Repeat) (Whole whole) begun sound is tells = absurd tells
sayable joins full (Err refused) (Whole whole) begun sound is tells = absurd tells
sayable joins full (Ok (answers.Whole whole)) (Whole same) begun sound is (one, small) =
    whole-sayable joins full same begun sound (is ∙ ap (λ (f : Full). Ok (answers.Whole f)) (sym one)) small

told-by : (joins : List Join) (full : Full) (given : Result Joined JoinRefused) (said : Answer) (new : Joining) → AreBegun joins → IsSound full
    → Gave joins full given new → Tells given said → Told joins full said new
told-by joins full given said new begun sound gave tells = record {
  answer = subst (λ (g : Result Joined JoinRefused). Tells g said) (sym gave.answer) tells;
  after = gave.after;
  sayable = sayable joins full given said begun sound gave.answer tells;
}

not-memory : (refused : JoinRefused) (said : Answer) → Tells (Err refused) said → refused ≡ refusals.Memory → ⊥
not-memory refused (Word word) (other, is) = other
not-memory refused (Whole whole) tells = absurd tells

told : (joins : List Join) (full : Full) (given : Result Joined JoinRefused) (said : Answer) (new : Joining) → AreBegun joins → IsSound full
    → Adds joins full given new → Tells given said → Told joins full said new
told joins full (Ok joined) said new begun sound adds tells =
    told-by joins full (Ok joined) said new begun sound (gave-joined joins full joined new begun sound adds) tells
told joins full (Err refused) said new begun sound adds tells =
    told-by joins full (Err refused) said new begun sound
    (gave-refused joins full refused new begun sound adds (not-memory refused said tells)) tells

-- the same of what code answered
pub record ToldIf {E : Type 0} (joins : List Join) (full : Full) (result : Result Answer E) (new : Joining) : Type 0 where
  pub answer : IfOk result (Tells (answer joins full))
  pub after : OnOk result (new ≡ record { joins = after joins full; spent = false })
  pub sayable : IfOk result IsSayable

pub told-if : {E : Type 0} (joins : List Join) (full : Full) (given : Result Joined JoinRefused) (result : Result Answer E) (new : Joining)
    → AreBegun joins → IsSound full → Adds joins full given new → IfOk result (Tells given) → ToldIf joins full result new
told-if joins full given (Ok said) new begun sound adds tells =
    let all = told joins full given said new begun sound adds tells in
    record { answer = all.answer; after = all.after; sayable = all.sayable }
told-if joins full given (Err e) new begun sound adds tells = record { answer = tt; after = tt; sayable = tt }
