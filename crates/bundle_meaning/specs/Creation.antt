-- Creation timestamps in both versions: seconds and a sequence number (RFC 5050, section 4.5), and
-- milliseconds and a sequence number (RFC 9171, section 4.2.7). How they pair off is our own rule.

use Rattle.std.specs.Prelude.{◌≡◌, ℕ, ◌+◌, ◌*◌, ◌/◌, ◌%◌}
use Rattle.bundle_meaning.specs.declared.creation.Id6.{Id6}
use Rattle.bundle_meaning.specs.declared.creation.Id7.{Id7}

-- the counterpart in version 7: the last three digits of the sequence number become milliseconds
abbrev pub id7_of : ℕ → ℕ → Id7
id7_of seconds sequence = record {
  millis = 1000 * seconds + sequence % 1000;
  sequence = sequence / 1000;
}

-- the counterpart in version 6: the milliseconds of the second become the last three digits of the
-- sequence number
abbrev pub id6_of : ℕ → ℕ → Id6
id6_of millis sequence = record {
  seconds = millis / 1000;
  sequence = 1000 * sequence + millis % 1000;
}

-- each timestamp is its counterpart's counterpart: no two have the same
pub record HaveOneId : Type 0 where
  pub back6 : (seconds sequence : ℕ)
      → id6_of (id7_of seconds sequence).millis (id7_of seconds sequence).sequence
      ≡ (record { seconds = seconds; sequence = sequence })
  pub back7 : (millis sequence : ℕ)
      → id7_of (id6_of millis sequence).seconds (id6_of millis sequence).sequence
      ≡ (record { millis = millis; sequence = sequence })
