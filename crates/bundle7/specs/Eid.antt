-- The table of an endpoint (RFC 9171, section 4.2.5): scheme 1 is dtn, with 0 for the null endpoint
-- or a text, and scheme 2 is ipn, with the numbers of node and service.
use Rattle.std.specs.Prelude.{ℕ, Bool, true, ◌==◌, ◌||◌, List}
use Rattle.endpoint.specs.declared.name.Endpoint.{Endpoint}
use Rattle.endpoint.specs.declared.name.Endpoint.TheVariants.{Null, Ipn, Dtn}
use Rattle.endpoint.specs.Endpoints.{is_ssp}
use Rattle.wire_fields.specs.declared.lead.UnsignedOrText.{UnsignedOrText}
use Rattle.wire_fields.specs.declared.lead.UnsignedOrText.TheVariants as leads
use Rattle.wire_fields.specs.Format.{Format, give, such_that, ◌>>=◌}
use Rattle.wire_fields.specs.Words.{needs, any_octets, any_unsigned, any_unsigned_or_text, exact_array, choice}
use Rattle.bundle7.specs.declared.fault.Cause7.{Cause7}
use Rattle.bundle7.specs.declared.fault.Cause7.TheVariants.{Eid}

-- the null endpoint's number, or a text of any length
abbrev pub may_lead : UnsignedOrText → Bool
may_lead (leads.Unsigned n) = n == 0
may_lead (leads.Text n) = true

abbrev pub dtn_lead : Format Cause7 UnsignedOrText
dtn_lead = such_that (any_unsigned_or_text Eid) (λ lead. needs (may_lead lead) Eid)

abbrev pub ssp : ℕ → Format Cause7 (List ℕ)
ssp n = such_that (any_octets n Eid) (λ octets. needs (is_ssp octets) Eid)

abbrev pub dtn_rest : UnsignedOrText → Format Cause7 Endpoint
dtn_rest (leads.Unsigned n) = give Null
dtn_rest (leads.Text n) = ssp n >>= (λ octets. give (Dtn octets))

unfoldable pub dtn_name : Format Cause7 Endpoint
dtn_name = do
  lead ← dtn_lead
  dtn_rest lead

unfoldable pub ipn_name : Format Cause7 Endpoint
ipn_name = do
  items ← exact_array 2 Eid
  node ← any_unsigned Eid
  service ← any_unsigned Eid
  give (Ipn node service)

abbrev pub scheme : Format Cause7 ℕ
scheme = such_that (any_unsigned Eid) (λ n. needs (n == 1 || n == 2) Eid)

unfoldable pub eid : Format Cause7 Endpoint
eid = do
  items ← exact_array 2 Eid
  number ← scheme
  choice (number == 1) dtn_name ipn_name
