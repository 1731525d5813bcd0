-- What a step names has a spelling.
use Rattle.std.proofs.Common.{◌≡◌, ℕ, ◌+◌, ◌^◌, ◌<◌, ◌≤◌, List, [], ◌∷◌, ◌++◌, length, take, get_or, IfSome, subst}
use Rattle.std.proofs.lemmas.List.{take_more, take_all}
use Rattle.gateway_core.specs.declared.effects.Routed.{Routed}
use Rattle.gate_records.specs.Happened.{reports_on}
use Rattle.gate_records.specs.Laws.{ReportSmall}

small-push : (out : List Routed) (r : Routed) → ReportSmall out → IfSome (reports_on r.datagram) (λ session. session < 2 ^ 64) → ReportSmall (out ++ r ∷ [])
small-push [] r are small = (small, tt)
small-push (s ∷ out) r (first, are) small = (first, small-push out r are small)

pub small-step : (out : List Routed) (i : ℕ) (r : Routed) → i < length out → r ≡ get_or out i r → ReportSmall (take i out)
    → IfSome (reports_on r.datagram) (λ session. session < 2 ^ 64) → ReportSmall (take (i + 1) out)
small-step out i r low is are small =
    rw (take_more out i r low)
    (small-push (take i out) (get_or out i r) are (subst (λ (s : Routed). IfSome (reports_on s.datagram) (λ session. session < 2 ^ 64)) is small))

pub small-all : (out : List Routed) (i : ℕ) → length out ≤ i → ReportSmall (take i out) → ReportSmall out
small-all out i high are = subst (λ (rs : List Routed). ReportSmall rs) (take_all i out high) are
