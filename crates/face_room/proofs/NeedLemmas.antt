-- What pieces need.

use Rattle.std.proofs.Common.{◌≡◌, ℕ, ◌+◌, ◌*◌, ◌<◌, ◌≤◌, List, [], ◌∷◌, refl, ap, arith}
use Rattle.std.specs.Int.{div_ceil}
use Rattle.std.specs.List.{sum_by}
use Rattle.std.proofs.Math.Nat.{add-mul, lt_of_mul-lt-mul_right, le-mul_of_pos_right}
use Rattle.std.proofs.lemmas.Grind.{div_ceil_times}
use Rattle.std.proofs.lemmas.List.Sums.{sum_by-cons}
use Rattle.face_room.specs.Bounds.{need}
use Rattle.face_room.specs.Faces.{total}

-- ---- segments

-- as many segments as hold the octets suffice
pub ceil-most : (octets segment count : ℕ) → 0 < segment → octets ≤ count * segment → div_ceil octets segment ≤ count
ceil-most octets segment count some hold =
    let times = div_ceil_times octets segment some in
    let one : 1 * segment ≡ segment = omega arith in
    let less : div_ceil octets segment * segment < (count + 1) * segment = omega (arith, times.1, hold, add-mul count 1 segment, one) in
    omega (arith, lt_of_mul-lt-mul_right segment less)

pub ceil_few : (octets segment : ℕ) → 0 < segment → div_ceil octets segment ≤ octets
ceil_few octets segment some = ceil-most octets segment octets some (le-mul_of_pos_right octets some)

ceil-less : (few many segment : ℕ) → 0 < segment → few ≤ many → div_ceil few segment ≤ div_ceil many segment
ceil-less few many segment some less =
    ceil-most few segment (div_ceil many segment) some (omega (arith, less, (div_ceil_times many segment some).0))

ceil-sum : (first second segment : ℕ) → 0 < segment
    → div_ceil (first + second) segment ≤ div_ceil first segment + div_ceil second segment
ceil-sum first second segment some =
    ceil-most (first + second) segment (div_ceil first segment + div_ceil second segment) some
    (omega (
      arith,
      (div_ceil_times first segment some).0,
      (div_ceil_times second segment some).0,
      add-mul (div_ceil first segment) (div_ceil second segment) segment,
    ))

-- ---- needs

need-is : (segment octets : ℕ) → need segment octets ≡ 2 * octets + 34 * div_ceil octets segment
need-is segment octets = refl

pub need-less : (few many segment : ℕ) → 0 < segment → few ≤ many → need segment few ≤ need segment many
need-less few many segment some less =
    omega (arith, less, need-is segment few, need-is segment many, ceil-less few many segment some less)

-- what a block needs is kept with its datagrams
pub need-keeps : (block sent segment : ℕ) → sent ≤ block + 34 * div_ceil block segment → block + sent ≤ need segment block
need-keeps block sent segment few = omega (arith, few, need-is segment block)

-- a block of several pieces needs at most as much as they do
pub need-total : (segment : ℕ) (sizes : List ℕ) → 0 < segment → need segment (total sizes) ≤ sum_by (need segment) sizes
need-total segment [] some =
    omega (arith, need-is segment 0, ceil-most 0 segment 0 some (omega arith))
need-total segment (size ∷ sizes) some =
    let rest = need-total segment sizes some in
    let both = ceil-sum size (total sizes) segment some in
    let all : total (size ∷ sizes) ≡ size + total sizes = sum_by-cons (λ (n : ℕ). n) size sizes in
    let whole : need segment (total (size ∷ sizes)) ≡ need segment (size + total sizes) = ap (need segment) all in
    omega (
      arith,
      rest,
      both,
      whole,
      need-is segment (size + total sizes),
      need-is segment size,
      need-is segment (total sizes),
      sum_by-cons (need segment) size sizes,
    )

-- ---- an idle face

pub need-within : (size segment : ℕ) → 512 ≤ segment → size ≤ 4194304 → need segment size ≤ 8667136
need-within size segment long small =
    let count = ceil-most size segment 8192 (omega (arith, long)) (omega (arith, long, small)) in
    omega (arith, small, count, need-is segment size)
