-- No more goes out than the pace allows.

use Rattle.std.proofs.Common.{◌≡◌, ℕ, ◌+◌, ◌-◌, ◌*◌, ◌/◌, ◌≤◌, max, Bool, true, false, List, [], ◌∷◌, ◌++◌, length, Option, None, Some, if◌then◌else◌, refl, sym, ap, ◌∙◌, arith, inl, inr, subst, ◌⊎◌, eq-eqb}
use Rattle.std.specs.Option.{is_some}
use Rattle.std.proofs.lemmas.Bool.{and_parts, cases_lt, leb-true}
use Rattle.std.proofs.Math.Nat.{le-div_iff_mul-le}
use Rattle.outbox.specs.declared.reading.Reading.{Reading}
use Rattle.outbox.specs.Laws.{KeepsPace}
use Rattle.outbox.specs.Outbox.{OutboxValue, after_reading, after_sending, contact_by, contact_of, debt_at, first_of, is_paced, is_same, may_send, next_of, octets_in, owed, paid_off, rate_now, since}
use Rattle.outbox.specs.Run.{Call, Rises, StaysIn, Tried, after_call, datagrams_of, last_monotonic, longest, puts, reads, refuses, sends, tried, tries}
use Rattle.outbox.specs.Schedule.{contact_at, rate_of}
use Rattle.outbox.proofs.TimeLemmas.{last-up}

-- ---- what bounds the octets that go out from a debt on, in this time

abbrev pub Bound : ℕ → ℕ → ℕ → ℕ → ℕ → Type 0
Bound octets most debt rate time =
    (octets ≡ 0) ⊎ (1000 * octets + debt ≤ rate * time + 10 * rate + 1000 * most)

-- time that passes pays off what it allows
bound-later : (octets most debt rate first rest : ℕ) → Bound octets most (debt - rate * first) rate rest → Bound octets most debt rate (first + rest)
bound-later octets most debt rate first rest bound = elim bound [
  | inl none ↦ inl none
  | inr is ↦ inr (let sum : rate * (first + rest) ≡ rate * first + rate * rest = omega arith in omega (arith, is, sum))
]

bound-more : (octets most debt rate time size : ℕ) → debt ≤ 10 * rate → Bound octets most (debt + 1000 * size) rate time → Bound (size + octets) (max size most) debt rate time
bound-more octets most debt rate time size paced bound = elim bound [
  | inl none ↦ inr (
      let positive : 0 ≤ rate * time = omega arith in
      let most_size : size ≤ max size most = omega arith in
      omega (arith, none, paced, positive, most_size)
      )
  | inr is ↦ inr (let most_rest : most ≤ max size most = omega arith in omega (arith, is, most_rest))
]

-- ---- one send

send-bound : (may : Bool) (waiting : List (List ℕ)) (reading : Option Reading) (rest : List Tried) (debt rate time : ℕ) → (may ≡ true → debt ≤ 10 * rate)
    → Bound (octets_in (datagrams_of rest)) (longest (datagrams_of rest)) (owed (Some rate) debt (if may then first_of waiting else None)) rate time
    → Bound (octets_in (datagrams_of (tries (if may then first_of waiting else None) reading ++ rest)))
    (longest (datagrams_of (tries (if may then first_of waiting else None) reading ++ rest))) debt rate time
send-bound true [] reading rest debt rate time paced bound = bound
send-bound true (datagram ∷ datagrams) reading rest debt rate time paced bound =
    bound-more (octets_in (datagrams_of rest)) (longest (datagrams_of rest)) debt rate time (length datagram) (paced refl) bound
send-bound false waiting reading rest debt rate time paced bound = bound

-- ---- an outbox in a contact that has a rate

pub record Paced (b : OutboxValue) (now : Reading) (contact rate : ℕ) : Type 0 where
  pub reading : b.reading ≡ Some now
  pub lies_in : contact_at b.schedule now.wall ≡ Some contact
  pub goes_at : rate_of b.schedule (Some contact) ≡ Some rate

contact-is : (b : OutboxValue) (now : Reading) (contact rate : ℕ) → Paced b now contact rate → contact_of b ≡ Some contact
contact-is b now contact rate paced = ap (contact_by b.schedule) paced.reading ∙ paced.lies_in

rate-is : (b : OutboxValue) (now : Reading) (contact rate : ℕ) → Paced b now contact rate → rate_now b ≡ Some rate
rate-is b now contact rate paced = ap (rate_of b.schedule) (contact-is b now contact rate paced) ∙ paced.goes_at

same-itself : (contact : ℕ) → is_same (Some contact) (Some contact) ≡ true
same-itself contact = eq-eqb contact contact refl

debt-of : (before after rate_there : Option ℕ) (debt time contact rate : ℕ) → before ≡ Some contact → after ≡ Some contact → rate_there ≡ Some rate
    → (if is_same before after then paid_off rate_there debt time else 0) ≡ debt - rate * time
debt-of before after rate_there debt time contact rate was is has =
    rw (was, is, has) (rw (same-itself contact) refl)

debt-in : (b : OutboxValue) (before now : Reading) (contact rate : ℕ) → Paced b before contact rate → contact_at b.schedule now.wall ≡ Some contact
    → debt_at b now ≡ b.debt - rate * (now.monotonic - before.monotonic)
debt-in b before now contact rate paced here =
    debt-of (contact_of b) (contact_at b.schedule now.wall) (rate_of b.schedule (contact_at b.schedule now.wall)) b.debt (since b.reading now) contact rate
    (contact-is b before contact rate paced) here (ap (rate_of b.schedule) here ∙ paced.goes_at)
    ∙ ap (λ (r : Option Reading). b.debt - rate * since r now) paced.reading

stays-paced : (b : OutboxValue) (before now : Reading) (contact rate : ℕ) → Paced b before contact rate → contact_at b.schedule now.wall ≡ Some contact
    → Paced (after_reading b now) now contact rate
stays-paced b before now contact rate paced here = record { reading = refl; lies_in = here; goes_at = paced.goes_at }

-- what a datagram that goes found
may-paced : (b : OutboxValue) (now : Reading) (contact rate : ℕ) → Paced b now contact rate → may_send b ≡ true → b.debt ≤ 10 * rate
may-paced b now contact rate paced may =
    let both = and_parts (is_some (contact_of b)) (is_paced (rate_now b) b.debt) may in
    let at : is_paced (Some rate) b.debt ≡ true = ap (λ (r : Option ℕ). is_paced r b.debt) (sym (rate-is b now contact rate paced)) ∙ both.1 in
    leb-true b.debt (10 * rate) at

pub pace-from : (b : OutboxValue) (now : Reading) (contact rate : ℕ) (calls : List Call) → Paced b now contact rate → StaysIn b.schedule contact calls → Rises now.monotonic calls
    → Bound (octets_in (datagrams_of (tried b calls))) (longest (datagrams_of (tried b calls))) b.debt rate (last_monotonic now.monotonic calls - now.monotonic)
pace-from b now contact rate [] paced stays rises = inl refl
pace-from b now contact rate (reads next ∷ calls) paced stays rises =
    let rest = pace-from (after_reading b next) next contact rate calls (stays-paced b now next contact rate paced stays.0) stays.1 rises.1 in
    let up = last-up next.monotonic calls rises.1 in
    let first = rises.0 in
    let time : (next.monotonic - now.monotonic) + (last_monotonic next.monotonic calls - next.monotonic) ≡ last_monotonic next.monotonic calls - now.monotonic = omega (arith, up, first) in
    let octets : ℕ = octets_in (datagrams_of (tried (after_reading b next) calls)) in
    let most : ℕ = longest (datagrams_of (tried (after_reading b next) calls)) in
    subst (λ (t : ℕ). Bound (octets_in (datagrams_of (tried (after_reading b next) calls))) (longest (datagrams_of (tried (after_reading b next) calls))) b.debt rate t) time
    (bound-later octets most b.debt rate (next.monotonic - now.monotonic) (last_monotonic next.monotonic calls - next.monotonic)
    (subst (λ (d : ℕ). Bound (octets_in (datagrams_of (tried (after_reading b next) calls))) (longest (datagrams_of (tried (after_reading b next) calls))) d rate (last_monotonic next.monotonic calls - next.monotonic))
    (debt-in b now next contact rate paced stays.0) rest))
pace-from b now contact rate (puts datagram ∷ calls) paced stays rises =
    pace-from (after_call b (puts datagram)) now contact rate calls (record { reading = paced.reading; lies_in = paced.lies_in; goes_at = paced.goes_at }) stays rises
pace-from b now contact rate (refuses ∷ calls) paced stays rises =
    pace-from (after_call b refuses) now contact rate calls (record { reading = paced.reading; lies_in = paced.lies_in; goes_at = paced.goes_at }) stays rises
pace-from b now contact rate (sends ∷ calls) paced stays rises =
    let rest = pace-from (after_sending b) now contact rate calls (record { reading = paced.reading; lies_in = paced.lies_in; goes_at = paced.goes_at }) stays rises in
    send-bound (may_send b) b.waiting b.reading (tried (after_sending b) calls) b.debt rate (last_monotonic now.monotonic calls - now.monotonic)
    (may-paced b now contact rate paced)
    (subst (λ (r : Option ℕ). Bound (octets_in (datagrams_of (tried (after_sending b) calls))) (longest (datagrams_of (tried (after_sending b) calls))) (owed r b.debt (next_of b)) rate (last_monotonic now.monotonic calls - now.monotonic))
    (rate-is b now contact rate paced) rest)

-- ---- the law

most-octets : (octets most debt rate time : ℕ) → Bound octets most debt rate time → octets ≤ rate * (time + 10) / 1000 + most
most-octets octets most debt rate time bound = elim (cases_lt most octets) [
  | inl more ↦ (
      let product : (octets - most) * 1000 ≤ rate * (time + 10) = product-of bound in
      let fits : octets - most ≤ rate * (time + 10) / 1000 = (le-div_iff_mul-le {k = 1000} {x = octets - most} {y = rate * (time + 10)} (omega arith)).1 product in
      omega (arith, fits)
      )
  | inr few ↦ omega (arith, few)
] where
  product-of : Bound octets most debt rate time → (octets - most) * 1000 ≤ rate * (time + 10)
  product-of (inl none) = omega (arith, none)
  product-of (inr is) = let sum : rate * (time + 10) ≡ rate * time + 10 * rate = omega arith in omega (arith, is, sum)

pub keeps-pace : KeepsPace
keeps-pace b first contact rate calls here has stays rises =
    most-octets (octets_in (datagrams_of (tried (after_reading b first) calls))) (longest (datagrams_of (tried (after_reading b first) calls)))
    (debt_at b first) rate (last_monotonic first.monotonic calls - first.monotonic)
    (pace-from (after_reading b first) first contact rate calls (record { reading = refl; lies_in = here; goes_at = has }) stays rises)
