-- Pairs of reports: what one says is what the other says.

use Rattle.std.proofs.Common.{◌≡◌, ℕ, zero, suc, ◌+◌, ◌*◌, ◌/◌, ◌%◌, ◌^◌, ◌<◌, ◌≤◌, Bool, true, false, not, ◌==◌, ◌&&◌, ◌||◌, ltb, if◌then◌else◌, List, [], ◌∷◌, length, get_or, refl, sym, ap, subst, inl, inr, ◌∙◌, arith}
use Rattle.std.proofs.lemmas.Bool.{and_parts, ltb-true, lt-ltb, eqb-true, eqb-false, cases_lt}
use Rattle.std.specs.List.{All}
use Rattle.bundle_meaning.specs.declared.report.Stamp.{Stamp}
use Rattle.bundle_meaning.specs.declared.report.Stamp.TheVariants.{No, Yes, At}
use Rattle.bundle_meaning.specs.declared.report.Report.{Report}
use Rattle.bundle_meaning.specs.Creation.{id6_of, id7_of}
use Rattle.bundle_meaning.specs.Reports.{untimed, no_time, is_rest, are_rests, IsStamp, IsReport}
use Rattle.status_reports.specs.declared.report6.Report6.{Report6}
use Rattle.status_reports.specs.declared.report6.Time6.{Time6}
use Rattle.status_reports.specs.Fields.{is_set}
use Rattle.status_reports.specs.Table6.{is_status, zero_time}
use Rattle.bundle_meaning.specs.declared.creation.Id6.{Id6}
use Rattle.bundle_meaning.specs.declared.creation.Id7.{Id7}
use Rattle.endpoint.specs.declared.name.Endpoint.{Endpoint}
use Rattle.status_reports.specs.declared.report7.Report7.{Report7}
use Rattle.status_reports.specs.Legal.{IsTime, AreTimes, IsReport6, IsReport7}
use Rattle.status_reports.specs.Pairing.{millis_of, rest_of, stamp_of, bit_of, stamped, stamps_of, rests_of, statuses_of, times_of, shared_of6, report6_of, Pair6, may_lack, takes, fits, times_fit, has_counterpart6, report7_of, no_rests, takes_rests, has_counterpart7}
use Rattle.status_reports.proofs.FieldLemmas.{four-list}

-- ---- four bits

bit_if : Bool → ℕ → ℕ
bit_if set bit = if set then bit else 0

sum : Bool → Bool → Bool → Bool → ℕ
sum a b c d = bit_if a 1 + bit_if b 4 + bit_if c 8 + bit_if d 16

record Bits (a b c d : Bool) : Type 0 where
  status : is_status (sum a b c d) ≡ true
  one : is_set 1 (sum a b c d) ≡ a
  four : is_set 4 (sum a b c d) ≡ b
  eight : is_set 8 (sum a b c d) ≡ c
  sixteen : is_set 16 (sum a b c d) ≡ d

bits : (a b c d : Bool) → Bits a b c d
unfolding sum bit_if
bits false false false false = record { status = refl; one = refl; four = refl; eight = refl; sixteen = refl }
bits false false false true = record { status = refl; one = refl; four = refl; eight = refl; sixteen = refl }
bits false false true false = record { status = refl; one = refl; four = refl; eight = refl; sixteen = refl }
bits false false true true = record { status = refl; one = refl; four = refl; eight = refl; sixteen = refl }
bits false true false false = record { status = refl; one = refl; four = refl; eight = refl; sixteen = refl }
bits false true false true = record { status = refl; one = refl; four = refl; eight = refl; sixteen = refl }
bits false true true false = record { status = refl; one = refl; four = refl; eight = refl; sixteen = refl }
bits false true true true = record { status = refl; one = refl; four = refl; eight = refl; sixteen = refl }
bits true false false false = record { status = refl; one = refl; four = refl; eight = refl; sixteen = refl }
bits true false false true = record { status = refl; one = refl; four = refl; eight = refl; sixteen = refl }
bits true false true false = record { status = refl; one = refl; four = refl; eight = refl; sixteen = refl }
bits true false true true = record { status = refl; one = refl; four = refl; eight = refl; sixteen = refl }
bits true true false false = record { status = refl; one = refl; four = refl; eight = refl; sixteen = refl }
bits true true false true = record { status = refl; one = refl; four = refl; eight = refl; sixteen = refl }
bits true true true false = record { status = refl; one = refl; four = refl; eight = refl; sixteen = refl }
bits true true true true = record { status = refl; one = refl; four = refl; eight = refl; sixteen = refl }

not-true : (b : Bool) → not b ≡ true → b ≡ false
not-true true is = absurd (cc)
not-true false is = refl

bit-value : (n bit : ℕ) → n < 2 → bit_if (n == 1) bit ≡ n * bit
unfolding bit_if
bit-value zero bit small = omega arith
bit-value (suc zero) bit small = omega arith
bit-value (suc (suc n)) bit small = absurd (omega (arith, small))

-- the bits of statuses make them up
whole : (s : ℕ) → is_status s ≡ true → sum (is_set 1 s) (is_set 4 s) (is_set 8 s) (is_set 16 s) ≡ s
unfolding sum
whole s is =
    let parts = and_parts (ltb s 32) (not (is_set 2 s)) is in
    let small = ltb-true s 32 parts.0 in
    let clear = eqb-false (s / 2 % 2) 1 (not-true (is_set 2 s) parts.1) in
    let a = bit-value (s / 1 % 2) 1 (omega arith) in
    let b = bit-value (s / 4 % 2) 4 (omega arith) in
    let c = bit-value (s / 8 % 2) 8 (omega arith) in
    let d = bit-value (s / 16 % 2) 16 (omega arith) in
    rw (a, b, c, d) (omega (arith, small, clear))

-- ---- one status

reported : Stamp → Bool
reported No = false
reported Yes = true
reported (At millis) = true

timeless : Stamp → Bool
timeless No = false
timeless Yes = true
timeless (At millis) = false

bit_of-if : (s : Stamp) (bit : ℕ) → bit_of s bit ≡ bit_if (reported s) bit
unfolding bit_if reported
bit_of-if No bit = refl
bit_of-if Yes bit = refl
bit_of-if (At millis) bit = refl

untimed-if : (s : Stamp) (bit : ℕ) → untimed s bit ≡ bit_if (timeless s) bit
unfolding bit_if timeless
untimed-if No bit = refl
untimed-if Yes bit = refl
untimed-if (At millis) bit = refl

reported-is : (set bare : Bool) (t : Time6) → reported (stamp_of set bare t) ≡ set
unfolding reported
reported-is false bare t = refl
reported-is true true t = refl
reported-is true false t = refl

timeless-is : (set bare : Bool) (t : Time6) → may_lack bare set t ≡ true → timeless (stamp_of set bare t) ≡ bare
unfolding timeless
timeless-is false true t may = absurd (cc)
timeless-is false false t may = refl
timeless-is true true t may = refl
timeless-is true false t may = refl

-- ---- one time

seconds-back : (s n : ℕ) → n < 1000000000 → (1000 * s + n / 1000000) / 1000 ≡ s
seconds-back s n small = omega (arith, small)

nanos-back : (s n : ℕ) → n < 1000000000 → (1000 * s + n / 1000000) % 1000 * 1000000 + n % 1000000 ≡ n
nanos-back s n small = omega (arith, small)

abbrev at_time : ℕ → ℕ → Time6
at_time s n = record { seconds = s; nanos = n }

zero-is : (t : Time6) → t.seconds ≡ 0 → t.nanos ≡ 0 → zero_time ≡ t
zero-is t one other = ap (λ (s : ℕ). at_time s 0) (sym one) ∙ ap (λ (n : ℕ). at_time t.seconds n) (sym other)

time-back : (set bare : Bool) (t : Time6) → IsTime set t → may_lack bare set t ≡ true
    → stamped (stamp_of set bare t) (rest_of t) ≡ t
time-back false bare t is may = sym is
time-back true true t is may =
    let parts = and_parts (t.seconds == 0) (t.nanos == 0) may in
    zero-is t (eqb-true t.seconds 0 parts.0) (eqb-true t.nanos 0 parts.1)
time-back true false t is may = rw (seconds-back t.seconds t.nanos is.1, nanos-back t.seconds t.nanos is.1) refl

-- ---- names

seconds-of : (s q : ℕ) → (1000 * s + q % 1000) / 1000 ≡ s
seconds-of s q = omega arith

sequence-of : (s q : ℕ) → 1000 * (q / 1000) + (1000 * s + q % 1000) % 1000 ≡ q
sequence-of s q = omega arith

-- ---- from version 6

record Takes (statuses : ℕ) (times : List Time6) (bare : ℕ) : Type 0 where
  status : is_status bare ≡ true
  received : may_lack (is_set 1 bare) (is_set 1 statuses) (get_or times 0 zero_time) ≡ true
  forwarded : may_lack (is_set 4 bare) (is_set 4 statuses) (get_or times 1 zero_time) ≡ true
  delivered : may_lack (is_set 8 bare) (is_set 8 statuses) (get_or times 2 zero_time) ≡ true
  deleted : may_lack (is_set 16 bare) (is_set 16 statuses) (get_or times 3 zero_time) ≡ true

takes-parts : (statuses : ℕ) (times : List Time6) (bare : ℕ) → takes statuses times bare ≡ true → Takes statuses times bare
unfolding takes
takes-parts statuses times bare is =
    let p3 = and_parts _ _ is in
    let p2 = and_parts _ _ p3.0 in
    let p1 = and_parts _ _ p2.0 in
    let p0 = and_parts _ _ p1.0 in
    record { status = p0.0; received = p0.1; forwarded = p1.1; delivered = p2.1; deleted = p3.1 }

-- where no residue says otherwise, each status has its time
pub takes-none : (statuses : ℕ) (times : List Time6) → takes statuses times 0 ≡ true
unfolding takes
takes-none statuses times = refl

statuses-back : (statuses bare : ℕ) (times : List Time6) → is_status statuses ≡ true
    → statuses_of (stamps_of statuses bare times) ≡ statuses
unfolding statuses_of stamps_of sum
statuses-back statuses bare times is =
    let t0 = get_or times 0 zero_time in
    let t1 = get_or times 1 zero_time in
    let t2 = get_or times 2 zero_time in
    let t3 = get_or times 3 zero_time in
    rw (
      bit_of-if (stamp_of (is_set 1 statuses) (is_set 1 bare) t0) 1,
      bit_of-if (stamp_of (is_set 4 statuses) (is_set 4 bare) t1) 4,
      bit_of-if (stamp_of (is_set 8 statuses) (is_set 8 bare) t2) 8,
      bit_of-if (stamp_of (is_set 16 statuses) (is_set 16 bare) t3) 16,
      reported-is (is_set 1 statuses) (is_set 1 bare) t0,
      reported-is (is_set 4 statuses) (is_set 4 bare) t1,
      reported-is (is_set 8 statuses) (is_set 8 bare) t2,
      reported-is (is_set 16 statuses) (is_set 16 bare) t3,
    ) (whole statuses is)

mask-back : (statuses bare : ℕ) (times : List Time6) → Takes statuses times bare
    → no_time (stamps_of statuses bare times) ≡ bare
unfolding stamps_of sum
mask-back statuses bare times takes =
    let t0 = get_or times 0 zero_time in
    let t1 = get_or times 1 zero_time in
    let t2 = get_or times 2 zero_time in
    let t3 = get_or times 3 zero_time in
    rw (
      untimed-if (stamp_of (is_set 1 statuses) (is_set 1 bare) t0) 1,
      untimed-if (stamp_of (is_set 4 statuses) (is_set 4 bare) t1) 4,
      untimed-if (stamp_of (is_set 8 statuses) (is_set 8 bare) t2) 8,
      untimed-if (stamp_of (is_set 16 statuses) (is_set 16 bare) t3) 16,
      timeless-is (is_set 1 statuses) (is_set 1 bare) t0 takes.received,
      timeless-is (is_set 4 statuses) (is_set 4 bare) t1 takes.forwarded,
      timeless-is (is_set 8 statuses) (is_set 8 bare) t2 takes.delivered,
      timeless-is (is_set 16 statuses) (is_set 16 bare) t3 takes.deleted,
    ) (whole bare takes.status)

-- where no residue says otherwise, none is without a time
pub none-bare : (statuses : ℕ) (times : List Time6) → no_time (stamps_of statuses 0 times) ≡ 0
none-bare statuses times = mask-back statuses 0 times (takes-parts statuses times 0 (takes-none statuses times))

times-back : (statuses bare : ℕ) (times : List Time6) → AreTimes statuses times → Takes statuses times bare
    → times_of (stamps_of statuses bare times) (rests_of times) ≡ times
unfolding times_of stamps_of rests_of
times-back statuses bare times are takes =
    rw (
      time-back (is_set 1 statuses) (is_set 1 bare) (get_or times 0 zero_time) are.received takes.received,
      time-back (is_set 4 statuses) (is_set 4 bare) (get_or times 1 zero_time) are.forwarded takes.forwarded,
      time-back (is_set 8 statuses) (is_set 8 bare) (get_or times 2 zero_time) are.delivered takes.delivered,
      time-back (is_set 16 statuses) (is_set 16 bare) (get_or times 3 zero_time) are.deleted takes.deleted,
    ) (sym (four-list times zero_time are.four))

pub pair6-there : (old : Report6) (bare : ℕ) (shared : Report) → IsReport6 old → takes old.status old.times bare ≡ true
    → shared ≡ shared_of6 old bare → Pair6 old bare shared
pair6-there old bare shared is may there =
    let takes = takes-parts old.status old.times bare may in
    record {
      there = there;
      back = rw (
        there,
        statuses-back old.status bare old.times is.status,
        times-back old.status bare old.times is.times takes,
        seconds-of old.seconds old.sequence,
        sequence-of old.seconds old.sequence,
      ) refl;
      mask = rw there (sym (mask-back old.status bare old.times takes));
    }

-- ---- what version 6 says is a valid report

stamp-valid : (set bare : Bool) (t : Time6) → fits t ≡ true → IsStamp (stamp_of set bare t)
stamp-valid false bare t small = tt
stamp-valid true true t small = tt
stamp-valid true false t small = ltb-true (millis_of t) (2 ^ 64) small

rest-valid : (set bare : Bool) (t : Time6) → IsTime set t → may_lack bare set t ≡ true
    → is_rest (stamp_of set bare t) (rest_of t) ≡ true
rest-valid false bare t is may = rw is refl
rest-valid true true t is may =
    let parts = and_parts (t.seconds == 0) (t.nanos == 0) may in
    rw (eqb-true t.nanos 0 parts.1) refl
rest-valid true false t is may = rw (lt-ltb (t.nanos % 1000000) 1000000 (omega arith)) refl

pub all-four : {A : Type 0} (P : A → Type 0) (a b c d : A) → P a → P b → P c → P d → All P (a ∷ b ∷ c ∷ d ∷ [])
all-four P a b c d pa pb pc pd zero e within = pa
all-four P a b c d pa pb pc pd (suc zero) e within = pb
all-four P a b c d pa pb pc pd (suc (suc zero)) e within = pc
all-four P a b c d pa pb pc pd (suc (suc (suc zero))) e within = pd
all-four P a b c d pa pb pc pd (suc (suc (suc (suc k)))) e within = absurd (omega (arith, within))

record Fit (times : List Time6) : Type 0 where
  received : fits (get_or times 0 zero_time) ≡ true
  forwarded : fits (get_or times 1 zero_time) ≡ true
  delivered : fits (get_or times 2 zero_time) ≡ true
  deleted : fits (get_or times 3 zero_time) ≡ true

fit-parts : (times : List Time6) → times_fit times ≡ true → Fit times
unfolding times_fit
fit-parts times is =
    let p2 = and_parts _ _ is in
    let p1 = and_parts _ _ p2.0 in
    let p0 = and_parts _ _ p1.0 in
    record { received = p0.0; forwarded = p0.1; delivered = p1.1; deleted = p2.1 }

stamps-valid : (statuses bare : ℕ) (times : List Time6) → times_fit times ≡ true → All IsStamp (stamps_of statuses bare times)
unfolding stamps_of
stamps-valid statuses bare times is =
    let fit = fit-parts times is in
    all-four IsStamp _ _ _ _
    (stamp-valid (is_set 1 statuses) (is_set 1 bare) (get_or times 0 zero_time) fit.received)
    (stamp-valid (is_set 4 statuses) (is_set 4 bare) (get_or times 1 zero_time) fit.forwarded)
    (stamp-valid (is_set 8 statuses) (is_set 8 bare) (get_or times 2 zero_time) fit.delivered)
    (stamp-valid (is_set 16 statuses) (is_set 16 bare) (get_or times 3 zero_time) fit.deleted)

rests-valid : (statuses bare : ℕ) (times : List Time6) → AreTimes statuses times → Takes statuses times bare
    → are_rests (stamps_of statuses bare times) (rests_of times) ≡ true
unfolding stamps_of rests_of
rests-valid statuses bare times are takes =
    rw (
      rest-valid (is_set 1 statuses) (is_set 1 bare) (get_or times 0 zero_time) are.received takes.received,
      rest-valid (is_set 4 statuses) (is_set 4 bare) (get_or times 1 zero_time) are.forwarded takes.forwarded,
      rest-valid (is_set 8 statuses) (is_set 8 bare) (get_or times 2 zero_time) are.delivered takes.delivered,
      rest-valid (is_set 16 statuses) (is_set 16 bare) (get_or times 3 zero_time) are.deleted takes.deleted,
    ) refl

stamps-four : (statuses bare : ℕ) (times : List Time6) → length (stamps_of statuses bare times) ≡ 4
unfolding stamps_of
stamps-four statuses bare times = refl

rests-four : (times : List Time6) → length (rests_of times) ≡ 4
unfolding rests_of
rests-four times = refl

pub shared6-valid : (old : Report6) (bare : ℕ) → IsReport6 old → takes old.status old.times bare ≡ true
    → times_fit old.times ≡ true → (id7_of old.seconds old.sequence).millis < 2 ^ 64 → IsReport (shared_of6 old bare)
shared6-valid old bare is may fit small =
    record {
      source = is.source;
      millis = small;
      counterpart = rw (sequence-of old.seconds old.sequence) is.sequence;
      four_stamps = stamps-four old.status bare old.times;
      four_rests = rests-four old.times;
      stamps = stamps-valid old.status bare old.times fit;
      rests = rests-valid old.status bare old.times is.times (takes-parts old.status old.times bare may);
      reason = is.reason;
      fragment = is.fragment;
    }

-- ---- to version 6

statuses-sum : (stamps : List Stamp) → statuses_of stamps
    ≡ sum (reported (get_or stamps 0 No)) (reported (get_or stamps 1 No)) (reported (get_or stamps 2 No)) (reported (get_or stamps 3 No))
unfolding statuses_of sum
statuses-sum stamps =
    rw (bit_of-if (get_or stamps 0 No) 1, bit_of-if (get_or stamps 1 No) 4, bit_of-if (get_or stamps 2 No) 8, bit_of-if (get_or stamps 3 No) 16) refl

no_time-sum : (stamps : List Stamp) → no_time stamps
    ≡ sum (timeless (get_or stamps 0 No)) (timeless (get_or stamps 1 No)) (timeless (get_or stamps 2 No)) (timeless (get_or stamps 3 No))
unfolding sum
no_time-sum stamps =
    rw (untimed-if (get_or stamps 0 No) 1, untimed-if (get_or stamps 1 No) 4, untimed-if (get_or stamps 2 No) 8, untimed-if (get_or stamps 3 No) 16) refl

reported-bits : (stamps : List Stamp) → Bits (reported (get_or stamps 0 No)) (reported (get_or stamps 1 No)) (reported (get_or stamps 2 No)) (reported (get_or stamps 3 No))
reported-bits stamps = bits _ _ _ _

timeless-bits : (stamps : List Stamp) → Bits (timeless (get_or stamps 0 No)) (timeless (get_or stamps 1 No)) (timeless (get_or stamps 2 No)) (timeless (get_or stamps 3 No))
timeless-bits stamps = bits _ _ _ _

small-rest : (s : Stamp) (rest : ℕ) → is_rest s rest ≡ true → rest < 1000000
small-rest No rest is = let parts = and_parts (ltb rest 1000000) (false || (rest == 0)) is in ltb-true rest 1000000 parts.0
small-rest Yes rest is = let parts = and_parts (ltb rest 1000000) (false || (rest == 0)) is in ltb-true rest 1000000 parts.0
small-rest (At millis) rest is = let parts = and_parts (ltb rest 1000000) (true || (rest == 0)) is in ltb-true rest 1000000 parts.0

time-valid : (s : Stamp) (rest : ℕ) → IsStamp s → is_rest s rest ≡ true → IsTime (reported s) (stamped s rest)
unfolding reported
time-valid No rest said is = refl
time-valid Yes rest said is = (omega arith, omega arith)
time-valid (At millis) rest said is =
    let small = small-rest (At millis) rest is in
    (omega (arith, said), omega (arith, small))

stamp-back : (s : Stamp) (rest : ℕ) → is_rest s rest ≡ true → stamp_of (reported s) (timeless s) (stamped s rest) ≡ s
unfolding reported timeless
stamp-back No rest is = refl
stamp-back Yes rest is = refl
stamp-back (At millis) rest is =
    let small = small-rest (At millis) rest is in
    let same : 1000 * (millis / 1000) + (millis % 1000 * 1000000 + rest) / 1000000 ≡ millis = omega (arith, small) in
    rw same refl

rest-back : (s : Stamp) (rest : ℕ) → is_rest s rest ≡ true → rest_of (stamped s rest) ≡ rest
rest-back No rest is =
    let parts = and_parts (ltb rest 1000000) (false || (rest == 0)) is in
    sym (eqb-true rest 0 parts.1)
rest-back Yes rest is =
    let parts = and_parts (ltb rest 1000000) (false || (rest == 0)) is in
    sym (eqb-true rest 0 parts.1)
rest-back (At millis) rest is =
    let small = small-rest (At millis) rest is in
    omega (arith, small)

lack-valid : (s : Stamp) (rest : ℕ) → may_lack (timeless s) (reported s) (stamped s rest) ≡ true
unfolding reported timeless
lack-valid No rest = refl
lack-valid Yes rest = refl
lack-valid (At millis) rest = refl

rests-at : (stamps : List Stamp) (rests : List ℕ) (k : ℕ) → are_rests stamps rests ≡ true → k < length stamps → k < length rests
    → is_rest (get_or stamps k No) (get_or rests k 0) ≡ true
rests-at [] rests k is one other = absurd (omega (arith, one))
rests-at (s ∷ stamps) [] k is one other = absurd (omega (arith, other))
rests-at (s ∷ stamps) (r ∷ rests) zero is one other =
    let parts = and_parts (is_rest s r) (are_rests stamps rests) is in parts.0
rests-at (s ∷ stamps) (r ∷ rests) (suc k) is one other =
    let parts = and_parts (is_rest s r) (are_rests stamps rests) is in
    rests-at stamps rests k parts.1 (omega (arith, one)) (omega (arith, other))

record Rests (stamps : List Stamp) (rests : List ℕ) : Type 0 where
  received : is_rest (get_or stamps 0 No) (get_or rests 0 0) ≡ true
  forwarded : is_rest (get_or stamps 1 No) (get_or rests 1 0) ≡ true
  delivered : is_rest (get_or stamps 2 No) (get_or rests 2 0) ≡ true
  deleted : is_rest (get_or stamps 3 No) (get_or rests 3 0) ≡ true

rests-parts : (shared : Report) → IsReport shared → Rests shared.stamps shared.rests
rests-parts shared is =
    let at = rests-at shared.stamps shared.rests in
    let one = is.four_stamps in
    let other = is.four_rests in
    record {
      received = at 0 is.rests (omega (arith, one)) (omega (arith, other));
      forwarded = at 1 is.rests (omega (arith, one)) (omega (arith, other));
      delivered = at 2 is.rests (omega (arith, one)) (omega (arith, other));
      deleted = at 3 is.rests (omega (arith, one)) (omega (arith, other));
    }

stamps-again : (stamps : List Stamp) (rests : List ℕ) → length stamps ≡ 4 → Rests stamps rests
    → stamps_of (statuses_of stamps) (no_time stamps) (times_of stamps rests) ≡ stamps
unfolding stamps_of times_of
stamps-again stamps rests four are =
    let set = reported-bits stamps in
    let bare = timeless-bits stamps in
    rw (
      statuses-sum stamps,
      no_time-sum stamps,
      set.one,
      set.four,
      set.eight,
      set.sixteen,
      bare.one,
      bare.four,
      bare.eight,
      bare.sixteen,
      stamp-back (get_or stamps 0 No) (get_or rests 0 0) are.received,
      stamp-back (get_or stamps 1 No) (get_or rests 1 0) are.forwarded,
      stamp-back (get_or stamps 2 No) (get_or rests 2 0) are.delivered,
      stamp-back (get_or stamps 3 No) (get_or rests 3 0) are.deleted,
    ) (sym (four-list stamps No four))

rests-again : (stamps : List Stamp) (rests : List ℕ) → length rests ≡ 4 → Rests stamps rests
    → rests_of (times_of stamps rests) ≡ rests
unfolding rests_of times_of
rests-again stamps rests four are =
    rw (
      rest-back (get_or stamps 0 No) (get_or rests 0 0) are.received,
      rest-back (get_or stamps 1 No) (get_or rests 1 0) are.forwarded,
      rest-back (get_or stamps 2 No) (get_or rests 2 0) are.delivered,
      rest-back (get_or stamps 3 No) (get_or rests 3 0) are.deleted,
    ) (sym (four-list rests 0 four))

millis-of : (m q : ℕ) → 1000 * (m / 1000) + (1000 * q + m % 1000) % 1000 ≡ m
millis-of m q = omega arith

second-of : (m q : ℕ) → (1000 * q + m % 1000) / 1000 ≡ q
second-of m q = omega arith

pub pair6-back : (shared : Report) (old : Report6) → IsReport shared → old ≡ report6_of shared → Pair6 old (no_time shared.stamps) shared
pair6-back shared old is back =
    let are = rests-parts shared is in
    record {
      there = rw (
        back,
        stamps-again shared.stamps shared.rests is.four_stamps are,
        rests-again shared.stamps shared.rests is.four_rests are,
        millis-of shared.millis shared.sequence,
        second-of shared.millis shared.sequence,
      ) refl;
      back = back;
      mask = refl;
    }

times-valid : (stamps : List Stamp) (rests : List ℕ) → length stamps ≡ 4 → All IsStamp stamps → Rests stamps rests
    → AreTimes (statuses_of stamps) (times_of stamps rests)
unfolding times_of
times-valid stamps rests four said are =
    let set = reported-bits stamps in
    record {
      four = refl;
      received = rw (statuses-sum stamps, set.one) (time-valid (get_or stamps 0 No) (get_or rests 0 0) (said 0 No (omega (arith, four))) are.received);
      forwarded = rw (statuses-sum stamps, set.four) (time-valid (get_or stamps 1 No) (get_or rests 1 0) (said 1 No (omega (arith, four))) are.forwarded);
      delivered = rw (statuses-sum stamps, set.eight) (time-valid (get_or stamps 2 No) (get_or rests 2 0) (said 2 No (omega (arith, four))) are.delivered);
      deleted = rw (statuses-sum stamps, set.sixteen) (time-valid (get_or stamps 3 No) (get_or rests 3 0) (said 3 No (omega (arith, four))) are.deleted);
    }

pub report6-legal : (shared : Report) → IsReport shared → IsReport6 (report6_of shared)
report6-legal shared is =
    let set = reported-bits shared.stamps in
    let fits = is.millis in
    record {
      status = rw (statuses-sum shared.stamps, set.status) refl;
      reason = is.reason;
      fragment = is.fragment;
      times = times-valid shared.stamps shared.rests is.four_stamps is.stamps (rests-parts shared is);
      seconds = omega (arith, fits);
      sequence = is.counterpart;
      source = is.source;
    }

pub report6-takes : (shared : Report) → takes (report6_of shared).status (report6_of shared).times (no_time shared.stamps) ≡ true
unfolding takes times_of
report6-takes shared =
    let stamps = shared.stamps in
    let rests = shared.rests in
    let set = reported-bits stamps in
    let bare = timeless-bits stamps in
    rw (
      statuses-sum stamps,
      no_time-sum stamps,
      bare.status,
      set.one,
      set.four,
      set.eight,
      set.sixteen,
      bare.one,
      bare.four,
      bare.eight,
      bare.sixteen,
      lack-valid (get_or stamps 0 No) (get_or rests 0 0),
      lack-valid (get_or stamps 1 No) (get_or rests 1 0),
      lack-valid (get_or stamps 2 No) (get_or rests 2 0),
      lack-valid (get_or stamps 3 No) (get_or rests 3 0),
    ) refl

-- each time and the name of the subject come from version 7
fits-valid : (s : Stamp) (rest : ℕ) → IsStamp s → is_rest s rest ≡ true → fits (stamped s rest) ≡ true
fits-valid No rest said is = refl
fits-valid Yes rest said is = refl
fits-valid (At millis) rest said is =
    let small = small-rest (At millis) rest is in
    let same : 1000 * (millis / 1000) + (millis % 1000 * 1000000 + rest) / 1000000 ≡ millis = omega (arith, small) in
    lt-ltb _ (2 ^ 64) (omega (arith, same, said))

pub report6-fits : (shared : Report) → IsReport shared → has_counterpart6 (report6_of shared) ≡ true
unfolding times_fit times_of
report6-fits shared is =
    let are = rests-parts shared is in
    let four = is.four_stamps in
    let name = lt-ltb (1000 * (shared.millis / 1000) + (1000 * shared.sequence + shared.millis % 1000) % 1000) (2 ^ 64)
    (omega (arith, millis-of shared.millis shared.sequence, is.millis)) in
    rw (
      name,
      fits-valid (get_or shared.stamps 0 No) (get_or shared.rests 0 0) (is.stamps 0 No (omega (arith, four))) are.received,
      fits-valid (get_or shared.stamps 1 No) (get_or shared.rests 1 0) (is.stamps 1 No (omega (arith, four))) are.forwarded,
      fits-valid (get_or shared.stamps 2 No) (get_or shared.rests 2 0) (is.stamps 2 No (omega (arith, four))) are.delivered,
      fits-valid (get_or shared.stamps 3 No) (get_or shared.rests 3 0) (is.stamps 3 No (omega (arith, four))) are.deleted,
    ) refl

-- ---- to version 7

pub report7-legal : (shared : Report) → IsReport shared → IsReport7 (report7_of shared)
report7-legal shared is = record {
  four = is.four_stamps;
  stamps = is.stamps;
  reason = is.reason;
  source = is.source;
  millis = is.millis;
  sequence = let small = is.counterpart in omega (arith, small);
  fragment = is.fragment;
}

pub report7-takes : (shared : Report) → IsReport shared → takes_rests shared.stamps shared.rests ≡ true
unfolding takes_rests
report7-takes shared is =
    let are = rests-parts shared is in
    rw (are.received, are.forwarded, are.delivered, are.deleted) refl

pub report7-fits : (shared : Report) → IsReport shared → has_counterpart7 (report7_of shared) ≡ true
report7-fits shared is = lt-ltb _ (2 ^ 64) is.counterpart

-- ---- what code puts together

pub said6 : (old : Report6) (bare : ℕ) (stamps : List Stamp) (rests : List ℕ) (source : Endpoint) (id : Id7)
    → stamps ≡ stamps_of old.status bare old.times → rests ≡ rests_of old.times → source ≡ old.source
    → id ≡ id7_of old.seconds old.sequence
    → record {
      stamps = stamps;
      rests = rests;
      reason = old.reason;
      source = source;
      millis = id.millis;
      sequence = id.sequence;
      fragment = old.fragment;
    } ≡ shared_of6 old bare
said6 old bare stamps rests source id e1 e2 e3 e4 = rw (e1, e2, e3, e4) refl

pub viewed6 : (shared : Report) (status : ℕ) (times : List Time6) (id : Id6) (source : Endpoint)
    → status ≡ statuses_of shared.stamps → times ≡ times_of shared.stamps shared.rests
    → id ≡ id6_of shared.millis shared.sequence → source ≡ shared.source
    → record {
      status = status;
      reason = shared.reason;
      fragment = shared.fragment;
      times = times;
      seconds = id.seconds;
      sequence = id.sequence;
      source = source;
    } ≡ report6_of shared
viewed6 shared status times id source e1 e2 e3 e4 = rw (e1, e2, e3, e4) refl

pub below : (n : ℕ) → (2 ^ 64 ≤ n → ⊥) → n < 2 ^ 64
below n isnt = elim (cases_lt n (2 ^ 64)) [ inl small ↦ small | inr large ↦ absurd (isnt large) ]

-- ---- from version 7

zero-rest : (s : Stamp) → is_rest s 0 ≡ true
zero-rest No = refl
zero-rest Yes = refl
zero-rest (At millis) = refl

pub zero-rests : (stamps : List Stamp) → takes_rests stamps no_rests ≡ true
unfolding takes_rests
zero-rests stamps =
    rw (zero-rest (get_or stamps 0 No), zero-rest (get_or stamps 1 No), zero-rest (get_or stamps 2 No), zero-rest (get_or stamps 3 No)) refl

both : (a b : Bool) → a ≡ true → b ≡ true → (a && b) ≡ true
both a b one other = rw (one, other) refl

rests-four-are : (a b c d : Stamp) (e f g h : ℕ) → is_rest a e ≡ true → is_rest b f ≡ true → is_rest c g ≡ true → is_rest d h ≡ true
    → are_rests (a ∷ b ∷ c ∷ d ∷ []) (e ∷ f ∷ g ∷ h ∷ []) ≡ true
rests-four-are a b c d e f g h p q r s = rw (p, q, r, s) refl

rests-are : (stamps : List Stamp) (rests : List ℕ) → length stamps ≡ 4 → length rests ≡ 4 → takes_rests stamps rests ≡ true
    → are_rests stamps rests ≡ true
unfolding takes_rests
rests-are stamps rests four other is =
    let p2 = and_parts _ _ is in
    let p1 = and_parts _ _ p2.0 in
    let p0 = and_parts _ _ p1.0 in
    let whole = rests-four-are (get_or stamps 0 No) (get_or stamps 1 No) (get_or stamps 2 No) (get_or stamps 3 No)
    (get_or rests 0 0) (get_or rests 1 0) (get_or rests 2 0) (get_or rests 3 0) p0.0 p0.1 p1.1 p2.1 in
    subst (λ xs. are_rests xs rests ≡ true) (sym (four-list stamps No four))
    (subst (λ ys. are_rests (get_or stamps 0 No ∷ get_or stamps 1 No ∷ get_or stamps 2 No ∷ get_or stamps 3 No ∷ []) ys ≡ true)
    (sym (four-list rests 0 other)) whole)

pub shared7-valid : (new : Report7) (rests : List ℕ) (source : Endpoint) → IsReport7 new → source ≡ new.source
    → ltb (id6_of new.millis new.sequence).sequence (2 ^ 64) ≡ true → length rests ≡ 4 → takes_rests new.stamps rests ≡ true
    → IsReport (record {
      stamps = new.stamps;
      rests = rests;
      reason = new.reason;
      source = source;
      millis = new.millis;
      sequence = new.sequence;
      fragment = new.fragment;
    })
shared7-valid new rests source is same small four takes =
    record {
      source = rw same is.source;
      millis = is.millis;
      counterpart = ltb-true (id6_of new.millis new.sequence).sequence (2 ^ 64) small;
      four_stamps = is.four;
      four_rests = four;
      stamps = is.stamps;
      rests = rests-are new.stamps rests is.four four takes;
      reason = is.reason;
      fragment = is.fragment;
    }
