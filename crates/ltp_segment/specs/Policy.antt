-- How segments are cut, and how long answers to them are waited for.

use Rattle.std.specs.Prelude.{ℕ, ◌-◌, ◌*◌, ◌^◌, Bool, ◌&&◌, not, nat_le, min, if◌then◌else◌, Result}
use Rattle.std.specs.Prelude.{Ok, Err, List, codes}
use Rattle.ltp_segment.specs.declared.policy.PolicyFault.{PolicyFault}
use Rattle.ltp_segment.specs.declared.policy.PolicyFault.TheVariants as faults

-- octets of data in a segment, the first wait, the most times that one checkpoint, report or cancel is
-- sent, and the longest wait
pub record PolicyValue : Type 0 where
  pub segment : ℕ
  pub timeout : ℕ
  pub limit : ℕ
  pub cap : ℕ

abbrev pub is_between : ℕ → ℕ → ℕ → Bool
is_between least most n = nat_le least n && nat_le n most

-- the policy of four values, or the first of them that is out of its range
abbrev pub policy_of : ℕ → ℕ → ℕ → ℕ → Result PolicyValue PolicyFault
policy_of segment timeout limit cap =
    if not (is_between 512 8192 segment) then Err faults.Segment
    else if not (is_between 1 3600000 timeout) then Err faults.Timeout
    else if not (is_between 1 100 limit) then Err faults.Limit
    else if not (is_between timeout 3600000 cap) then Err faults.Cap
    else Ok (record { segment = segment; timeout = timeout; limit = limit; cap = cap })

abbrev pub default_policy : PolicyValue
default_policy = record { segment = 1024; timeout = 10000; limit = 10; cap = 160000 }

-- how long an answer is waited for after the n-th sending: twice as long each time, up to the cap
abbrev pub wait_after : PolicyValue → ℕ → ℕ
wait_after policy n = min (policy.timeout * 2 ^ (n - 1)) policy.cap

abbrev pub policy_word : PolicyFault → List ℕ
policy_word faults.Segment = codes "Segment"
policy_word faults.Timeout = codes "Timeout"
policy_word faults.Limit = codes "Limit"
policy_word faults.Cap = codes "Cap"
