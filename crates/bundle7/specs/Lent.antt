-- Values whose octets are lent out of the text, seen as the values that they are.
use Rattle.endpoint.specs.declared.name.Endpoint.{Endpoint}
use Rattle.endpoint.specs.declared.name.Endpoint.TheVariants as endpoints
use Rattle.bundle7.specs.declared.primary.Primary7.{Primary7}
use Rattle.bundle7.specs.declared.block.Block7.{Block7}
use Rattle.bundle7.specs.declared.eid.LentEndpoint.{LentEndpoint}
use Rattle.bundle7.specs.declared.eid.LentEndpoint.TheVariants.{Null, Ipn, Dtn}
use Rattle.bundle7.specs.declared.primary.LentNames.{LentNames}
use Rattle.bundle7.specs.declared.primary.LentPrimary.{LentPrimary}
use Rattle.bundle7.specs.declared.block.LentBlock.{LentBlock}
use Rattle.bundle7.specs.Table.{Names}

abbrev pub endpoint_of : LentEndpoint → Endpoint
endpoint_of Null = endpoints.Null
endpoint_of (Ipn node service) = endpoints.Ipn node service
endpoint_of (Dtn ssp) = endpoints.Dtn ssp.now

abbrev pub names_of : LentNames → Names
names_of n = record {
  destination = endpoint_of n.destination;
  source = endpoint_of n.source;
  report_to = endpoint_of n.report_to;
}

abbrev pub primary_of : LentPrimary → Primary7
primary_of p = record {
  flags = p.opening.flags;
  crc = p.opening.crc;
  destination = endpoint_of p.names.destination;
  source = endpoint_of p.names.source;
  report_to = endpoint_of p.names.report_to;
  millis = p.creation.millis;
  sequence = p.creation.sequence;
  lifetime = p.lifetime;
  fragment = p.fragment;
}

abbrev pub block_of : LentBlock → Block7
block_of b = record {
  kind = b.lead.kind;
  number = b.lead.number;
  flags = b.lead.flags;
  crc = b.lead.crc;
  body = b.body.now;
}
